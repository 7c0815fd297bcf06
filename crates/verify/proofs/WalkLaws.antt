-- A walk turn by turn, in the terms of the code, and the routes one after another. Assumes nothing.
use Prim.Native.Nat.{ℕ, suc, ◌+◌, ◌-◌, ◌≤◌, ◌<◌}
use mathlib.Core.Bool.{Bool, true, false}
use mathlib.Core.List.{List, []}
use mathlib.Core.Logic.{◌⊎◌, inl, inr}
use mathlib.Core.Path.{◌≡◌, sym, ◌∙◌, ap}
use native.Mathlib.Numerals.{add-one}
use native.Mathlib.Omega.{arith}
use lib.Dec.{eqb}
use lib.ListN.{length}
use Rattle.definitions.specs.Outcome.{pick}
use Rattle.definitions.specs.SheetTest.{step_holds, met_at, Walk, walk}
use Rattle.lists.specs.Bitmap.{marked}
use Rattle.text_theory.specs.SpacedNumbers.{numbers_at, NoNumber, ANumber, none-at, one_at, at_none}
use Rattle.verify.specs.Walks.{SomeNumber, Walked, walk_from}

-- A walk that ended with these relays met, and one that failed.
pub walked_to : {w : Walk} {steps r : ℕ} {marks : List ℕ} → w ≡ record { steps = steps; met = marked marks } → r ≡ steps → Walked w r marks
walked_to e same = record { taken = same ∙ sym (ap (λ (w : Walk). w.steps) e); met = λ _. sym (ap (λ (w : Walk). w.met) e) }

pub walk-failed : {w : Walk} {met : ℕ → Bool} {marks : List ℕ} → w ≡ record { steps = 0; met = met } → Walked w 0 marks
walk-failed e = record { taken = sym (ap (λ (w : Walk). w.steps) e); met = λ some. absurd (omega (arith, some)) }

module _ (n : ℕ) (lows highs states text : List ℕ) (to : ℕ) (met : ℕ → Bool) (steps a p q : ℕ) where
  abbrev here : Walk
  here = walk_from n lows highs states text to met steps a p q

  abbrev left : ℕ
  left = suc (length text) - steps

  abbrev failed : Walk
  failed = record { steps = 0; met = met }

  abbrev ended : Walk
  ended = record { steps = pick (eqb a to) steps 0; met = met }

  -- Both lines have run out.
  runs-out : numbers_at text p left ≡ [] → numbers_at text q left ≡ [] → here ≡ ended
  unfolding walk_from walk
  runs-out e f = rw (e, f)

  pub walk_ends : NoNumber text p → NoNumber text q → here ≡ ended
  walk_ends no_relay no_link = runs-out (none-at text p no_relay left) (none-at text q no_link left)

  pub walk-last : length text < steps → here ≡ ended
  walk-last past =
      let none : left ≡ 0 = omega arith in
      runs-out (at_none text p left none) (at_none text q left none)

  module _ (some : steps ≤ length text) where
    next : left ≡ suc (length text - steps)
    next = omega arith

    -- One of them has run out.
    pub walk-uneven : (NoNumber text p × SomeNumber text q) ⊎ (SomeNumber text p × NoNumber text q) → here ≡ failed
    unfolding walk_from walk
    walk-uneven (inl both) =
        let link = both.1 in
        rw (next, none-at text p both.0 (suc (length text - steps)), one_at text q link.0 link.1 link.2 (length text - steps))
    walk-uneven (inr both) =
        let relay = both.0 in
        rw (next, one_at text p relay.0 relay.1 relay.2 (length text - steps), none-at text q both.1 (suc (length text - steps)))

    module _ (b s l t : ℕ) (relay : ANumber text p b s) (link : ANumber text q l t) where
      pub walk-fails : step_holds n lows highs states to met a b l ≡ false → here ≡ failed
      unfolding walk_from walk
      walk-fails e = rw (next, one_at text p b s relay (length text - steps), one_at text q l t link (length text - steps), e)

      pub walk_steps : (later : ℕ → Bool) → later ≡ met_at to met b → step_holds n lows highs states to met a b l ≡ true
          → here ≡ walk_from n lows highs states text to later (steps + 1) b s t
      unfolding walk_from walk
      walk_steps later known e =
          let same : suc (length text) - suc steps ≡ length text - steps = omega arith in
          rw (known, next, one_at text p b s relay (length text - steps), one_at text q l t link (length text - steps), e, add-one steps, same)
