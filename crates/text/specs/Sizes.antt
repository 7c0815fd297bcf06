-- What the check of a network's size promises: the refusals 3, 4 and 8, or the limits and the room that it found. Assumes nothing.
use Rattle.std.specs.Prelude.{ℕ, ◌≤◌, ◌<◌, true, false, ◌≡◌, ltb, ⊤, Result, Ok, Err, IfOk}
use Rattle.std.proofs.Common.{sym, ◌∙◌, ap, subst}
use borrow.Author.Tests.{lt-ltb, le-ltb}
use Rattle.definitions.specs.Outcome.{Outcome, refused, refuse_if}
use Rattle.definitions.specs.Lists.{outside}
use Rattle.definitions.specs.Text.{Network, sized}
use Rattle.lists.specs.Ranges.{inside}
use Rattle.lists.specs.Tests.{or-neither}
use Rattle.text_theory.specs.Sized.{sized-passed}
use Rattle.network.specs.Answers.{refusal_of}
use Rattle.network.specs.declared.refusal.Refusal.{Refusal}

-- The refusal, or what follows.
abbrev pub on_check : {A : Type 0} → Result ⊤ Refusal → Outcome A → Outcome A
on_check (Ok _) rest = rest
on_check (Err refusal) rest = refusal_of refusal

-- n relays and m links are within the limits and have room in three lists of these lengths.
pub record HasRoom (n m room_lows room_highs room_states : ℕ) : Type 0 where
  pub some : 1 ≤ n
  pub few : n ≤ 1000
  pub short : m ≤ 3000
  pub in_lows : m ≤ room_lows
  pub in_highs : m ≤ room_highs
  pub in_states : n ≤ room_states

pub record SizeChecked (n m room_lows room_highs room_states : ℕ) (r : Result ⊤ Refusal) : Type 0 where
  pub decides : (rest : Outcome Network) → sized n m room_lows room_highs room_states rest ≡ on_check r rest
  pub room : IfOk r (λ _. HasRoom n m room_lows room_highs room_states)

-- Each way through the check.
module _ (n m room_lows room_highs room_states : ℕ) where
  abbrev Checks : Result ⊤ Refusal → Type 0
  Checks r = SizeChecked n m room_lows room_highs room_states r

  pub count-outside : (refusal : Refusal) → refusal_of {A = Network} refusal ≡ refused 3 0 → outside 1 1000 n ≡ true
      → Checks (Err refusal)
  unfolding refuse_if
  count-outside refusal number e = record { decides = λ rest. rw e (sym number); room = tt }

  pub links-many : (refusal : Refusal) → refusal_of {A = Network} refusal ≡ refused 4 0 → outside 1 1000 n ≡ false → 3000 < m
      → Checks (Err refusal)
  unfolding refuse_if
  links-many refusal number e h = record { decides = λ rest. rw (e, lt-ltb 3000 m h) (sym number); room = tt }

  module _ (refusal : Refusal) (number : refusal_of {A = Network} refusal ≡ refused 8 0) (e : outside 1 1000 n ≡ false)
      (h : m ≤ 3000) where
    pub lows-short : room_lows < m → Checks (Err refusal)
    unfolding refuse_if
    lows-short l = record { decides = λ rest. rw (e, le-ltb 3000 m h, lt-ltb room_lows m l) (sym number); room = tt }

    pub highs-short : m ≤ room_lows → room_highs < m → Checks (Err refusal)
    unfolding refuse_if
    highs-short k l =
        record { decides = λ rest. rw (e, le-ltb 3000 m h, le-ltb room_lows m k, lt-ltb room_highs m l) (sym number); room = tt }

    pub states-short : m ≤ room_lows → m ≤ room_highs → room_states < n → Checks (Err refusal)
    unfolding refuse_if
    states-short k l s =
        record {
          decides = λ rest.
              rw (e, le-ltb 3000 m h, le-ltb room_lows m k, le-ltb room_highs m l, lt-ltb room_states n s) (sym number);
          room = tt;
        }

  pub has_room : HasRoom n m room_lows room_highs room_states → Checks (Ok tt)
  has_room room =
      record {
        decides = λ rest.
            sized-passed n m room_lows room_highs room_states rest
            (record {
              size = inside 1 1000 n room.some room.few;
              few = room.short;
              room =
                  or-neither (ltb room_lows m) _ (le-ltb room_lows m room.in_lows)
                  (or-neither (ltb room_highs m) _ (le-ltb room_highs m room.in_highs) (le-ltb room_states n room.in_states));
            });
        room = room;
      }

  -- What a check that refused, or was passed, leaves of the whole.
  module _ (r : Result ⊤ Refusal) (checked : Checks r) where
    pub size-refused : (refusal : Refusal) (rest : Outcome Network) → r ≡ Err refusal
        → sized n m room_lows room_highs room_states rest ≡ refusal_of refusal
    size-refused refusal rest e = checked.decides rest ∙ ap (λ (c : Result ⊤ Refusal). on_check c rest) e

    pub size-passed : (rest : Outcome Network) → r ≡ Ok tt → sized n m room_lows room_highs room_states rest ≡ rest
    size-passed rest e = checked.decides rest ∙ ap (λ (c : Result ⊤ Refusal). on_check c rest) e

    pub size_room : r ≡ Ok tt → HasRoom n m room_lows room_highs room_states
    size_room e = subst (λ (c : Result ⊤ Refusal). IfOk c (λ _. HasRoom n m room_lows room_highs room_states)) e checked.room
