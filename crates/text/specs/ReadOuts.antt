-- How the definition reads `out` lines and what their states leave in the list, way by way. Assumes nothing.
use Rattle.std.specs.Prelude.{ℕ, zero, suc, ◌+◌, ◌-◌, ◌≤◌, ◌<◌, true, false, List, [], ◌∷◌, ◌++◌, ◌≡◌, refl, eqb, length, get_or, take, set, replicate, Result, Ok, Err, IfOk}
use Rattle.std.proofs.Common.{append_assoc, append-nil, sym, ◌∙◌, ap, subst, arith, length-set, length-take-le}
use borrow.Author.Tests.{lt-ltb, le-ltb, le-leb, lt-leb}
use Rattle.definitions.specs.Outcome.{refused, done, refuse_if}
use Rattle.definitions.specs.Form.{departs, reads, byte_at, scan_form, on_scan}
use Rattle.definitions.specs.Text.{out_form, withdrawn, all_states, read_end, read_outs}
use Rattle.network.specs.Answers.{refusal_of}
use Rattle.network.specs.declared.Relay.{Relay}
use Rattle.network.specs.declared.refusal.Refusal.{Refusal}
use Rattle.network.specs.declared.refusal.Refusal.TheVariants.{Form, States}
use Rattle.text.specs.Outs.{ServedUpTo, WithdrawnAt, OutRead, OutsLeft, OutsRead, StatesRead}
use Rattle.text.specs.Read.{take-stored}
use Rattle.text.specs.Rows.{on_step, EndRead}

-- An `out` line that departs, one whose relay is not below n or not above the one before, and one that is taken.
module _ (text : List ℕ) (n at : ℕ) (lows highs states : List ℕ) (most : ℕ) (due : eqb (byte_at text (at + 1)) 111 ≡ true) where
  out-departs : (p : ℕ) → scan_form text out_form at ≡ departs p → read_outs text n lows highs states at (suc most) ≡ refused 2 p
  unfolding read_outs on_scan
  out-departs p e = rw (due, e)

  module _ (values : List ℕ) (p : ℕ) (e : scan_form text out_form at ≡ reads values p) where
    out-beyond : n ≤ get_or values 0 0 → read_outs text n lows highs states at (suc most) ≡ refused 16 0
    unfolding read_outs on_scan refuse_if
    out-beyond h = rw (due, e, le-leb n (get_or values 0 0) h)

    out-again : get_or values 0 0 < n → get_or values 0 0 < length states
        → read_outs text n lows highs states at (suc most) ≡ refused 16 0
    unfolding read_outs on_scan refuse_if
    out-again h k = rw (due, e, lt-leb n (get_or values 0 0) h, lt-ltb (get_or values 0 0) (length states) k)

    out-taken : get_or values 0 0 < n → length states ≤ get_or values 0 0
        → read_outs text n lows highs states at (suc most)
        ≡ read_outs text n lows highs (withdrawn states (get_or values 0 0)) p most
    unfolding read_outs on_scan refuse_if
    out-taken h k = rw (due, e, lt-leb n (get_or values 0 0) h, le-ltb (get_or values 0 0) (length states) k)

-- No `out` line is due.
outs-over : (text : List ℕ) (n p : ℕ) (lows highs states : List ℕ) (most : ℕ) → eqb (byte_at text (p + 1)) 111 ≡ false
    → read_outs text n lows highs states p most ≡ read_end text n lows highs states p
unfolding read_outs
outs-over text n p lows highs states zero e = refl
outs-over text n p lows highs states (suc most) e = rw e

-- What `read_out` promises, way by way.
module _ (text : List ℕ) (n next at : ℕ) where
  pub out-line-departs : (refusal : Refusal) (p : ℕ) → refusal ≡ Form p → scan_form text out_form at ≡ departs p
      → OutRead text n next at (Err refusal)
  out-line-departs refusal p is e =
      record { follows = λ lows highs states most due room. out-departs text n at lows highs states most due p e ∙ rw is; rises = tt }

  module _ (values : List ℕ) (relay p : ℕ) (e : scan_form text out_form at ≡ reads values p) (is : get_or values 0 0 ≡ relay) where
    pub out-line-beyond : n ≤ relay → OutRead text n next at (Err States)
    out-line-beyond h =
        record {
          follows = λ lows highs states most due room. out-beyond text n at lows highs states most due values p e (omega arith);
          rises = tt;
        }

    pub out-line-again : relay < n → relay < next → OutRead text n next at (Err States)
    out-line-again h k =
        record {
          follows = λ lows highs states most due room.
              out-again text n at lows highs states most due values p e (omega arith) (omega arith);
          rises = tt;
        }

    pub out-line-taken : relay < n → next ≤ relay → OutRead text n next at (Ok (record { 0 = relay }, p))
    out-line-taken h k =
        record {
          follows = λ lows highs states most due room.
              out-taken text n at lows highs states most due values p e (omega arith) (omega arith)
              ∙ ap (λ (r : ℕ). read_outs text n lows highs (withdrawn states r) p most) is;
          rises = (k, h);
        }

-- A relay withdrawn behind those in service.
pub withdraw-stored : (next relay : ℕ) (states served : List ℕ) → next ≤ relay → relay < length states
    → ServedUpTo next relay states served → WithdrawnAt next relay states (set served relay 0)
unfolding withdrawn
withdraw-stored next relay states served h k s =
    record {
      front = take-stored served relay 0 (omega (arith, s.same))
          ∙ rw (s.front, length-take-le next states (omega arith)) (append_assoc (take next states) (replicate (relay - next) 1) (0 ∷ []));
      same = length-set served relay 0 ∙ s.same;
    }

-- The states told are all, and those told with ones behind them.
all_told : (n : ℕ) (states : List ℕ) → n ≤ length states → all_states n (take n states) ≡ take n states
unfolding all_states
all_told n states h =
    let none : n - n ≡ 0 = omega arith in
    rw (length-take-le n states h, none) (append-nil (take n states))

all-served : (n next : ℕ) (states : List ℕ) → length (take next states) ≡ next
    → all_states n (take next states) ≡ take next states ++ replicate (n - next) 1
unfolding all_states
all-served n next states e = rw e

-- The end, where all states come out alike.
end_same : (text : List ℕ) (n p : ℕ) (lows highs one other : List ℕ) → all_states n one ≡ all_states n other
    → read_end text n lows highs one p ≡ read_end text n lows highs other p
unfolding read_end
end_same text n p lows highs one other e = rw e

-- The relay of a line that was taken.
pub out-rises : (text : List ℕ) (n next at : ℕ) (r : Result (Relay × ℕ) Refusal) → OutRead text n next at r → (relay : Relay) (p : ℕ) → r ≡ Ok (relay, p)
    → (next ≤ relay.0) × (relay.0 < n)
out-rises text n next at r line relay p e =
    subst (λ (s : Result (Relay × ℕ) Refusal). IfOk s (λ line. (next ≤ line.0.0) × (line.0.0 < n))) e line.rises

-- ---- line by line
module _ (text : List ℕ) (n at : ℕ) where
  pub outs-begin : (states : List ℕ) → OutsLeft text n at states 0 at
  outs-begin states =
      record { within = omega arith; most = suc n; enough = omega arith; follows = λ lows highs. refl }

  module _ (states : List ℕ) (next p : ℕ) (left : OutsLeft text n at states next p) (room : n ≤ length states) where
    told : length (take next states) ≡ next
    told = length-take-le next states (omega (arith, left.within))

    module _ (r : Result (Relay × ℕ) Refusal) (line : OutRead text n next p r) (due : eqb (byte_at text (p + 1)) 111 ≡ true) where
      -- The lines left are one and the others.
      one_line : (lows highs : List ℕ)
          → read_outs text n lows highs [] at (suc n)
          ≡ on_step r (λ line. read_outs text n lows highs (withdrawn (take next states) line.0.0) line.1 (left.most - 1))
      one_line lows highs =
          let more : left.most ≡ suc (left.most - 1) = omega (arith, left.within, left.enough) in
          left.follows lows highs
          ∙ ap (read_outs text n lows highs (take next states) p) more
          ∙ line.follows lows highs (take next states) (left.most - 1) due told

      pub out-next : (relay : Relay) (q : ℕ) (states_then : List ℕ) → r ≡ Ok (relay, q)
          → WithdrawnAt next relay.0 states states_then → OutsLeft text n at states_then (relay.0 + 1) q
      out-next relay q states_then e w =
          let rises = out-rises text n next p r line relay q e in
          record {
            within = omega (arith, rises);
            most = left.most - 1;
            enough = omega (arith, rises, left.within, left.enough);
            follows = λ lows highs.
                one_line lows highs
                ∙ ap (λ (s : Result (Relay × ℕ) Refusal). on_step s (λ line. read_outs text n lows highs (withdrawn (take next states) line.0.0) line.1 (left.most - 1))) e
                ∙ ap (λ (l : List ℕ). read_outs text n lows highs l q (left.most - 1)) (sym w.front);
          }

      pub out-refused : (refusal : Refusal) (lows highs : List ℕ) → r ≡ Err refusal
          → read_outs text n lows highs [] at (suc n) ≡ refusal_of refusal
      out-refused refusal lows highs e =
          one_line lows highs
          ∙ ap (λ (s : Result (Relay × ℕ) Refusal). on_step s (λ line. read_outs text n lows highs (withdrawn (take next states) line.0.0) line.1 (left.most - 1))) e

    pub outs-end : (states_then : List ℕ) → eqb (byte_at text (p + 1)) 111 ≡ false → ServedUpTo next n states states_then
        → (lows highs : List ℕ) → read_outs text n lows highs [] at (suc n) ≡ read_end text n lows highs (take n states_then) p
    outs-end states_then over s lows highs =
        left.follows lows highs
        ∙ outs-over text n p lows highs (take next states) left.most over
        ∙ end_same text n p lows highs (take next states) (take n states_then)
        (all-served n next states told ∙ sym s.front ∙ sym (all_told n states_then (omega (arith, s.same))))

-- All states are told, and the end is read or refused.
module _ (text : List ℕ) (n at : ℕ) (states states_then : List ℕ) (r : Result ℕ Refusal) (outs : OutsRead text n at states states_then r) where
  pub outs-told : (q : Result ℕ Refusal) (p : ℕ) → n ≤ length states → r ≡ Ok p → EndRead text p q
      → StatesRead text n at states states_then q
  outs-told q p room e ends =
      record {
        follows = λ lows highs.
            outs.follows lows highs
            ∙ ap (λ (s : Result ℕ Refusal). on_step s (read_end text n lows highs (take n states_then))) e
            ∙ ends.follows n lows highs (take n states_then)
            ∙ ap (λ (l : List ℕ). on_step q (λ _. done (record { relays = n; lows = lows; highs = highs; states = l })))
            (all_told n states_then (omega (arith, outs.same)));
        same = outs.same;
      }
