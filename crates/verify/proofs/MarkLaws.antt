-- The relays met as marks: none yet, one more, and one step of a walk way by way through its code. Assumes nothing.
use Prim.Native.Nat.{ℕ, ◌/◌, ◌%◌, ◌≤◌, ◌<◌}
use mathlib.Core.Bool.{Bool, true, false, ◌&&◌, ◌||◌, not, false≢true}
use mathlib.Core.List.{List}
use mathlib.Core.Path.{◌≡◌, refl, sym, ◌∙◌, ap, fun_ext}
use native.Mathlib.Omega.{arith}
use lib.Dec.{eqb, ltb}
use lib.ListN.{length, replicate, length-replicate, get_or-eq_default}
use borrow.Author.Tests.{ltb-true, ltb-false}
use Rattle.definitions.specs.Network.{joins, link_serves}
use Rattle.definitions.specs.SheetTest.{also_met, step_holds, met_at}
use Rattle.lists.specs.Bitmap.{marked, mark, marked-mark, marked-none, no-bit}
use Rattle.lists.specs.Tests.{eqb-sym}
use Rattle.network.specs.Tables.{of_table}
use Rattle.network.specs.declared.Table.{Table}
use Rattle.verify.specs.Walks.{may_step, Stepped}

-- Marking a relay is meeting it.
pub mark-meets : (marks : List ℕ) (r : ℕ) → length marks ≡ 1024 → r < 65536 → marked (mark marks r) ≡ also_met (marked marks) r
unfolding also_met
mark-meets marks r room small = fun_ext λ x. marked-mark marks r x (omega arith)

none-marked : (count x : ℕ) → marked (replicate count 0) x ≡ false
unfolding marked
none-marked count x = go (ltb (x / 64) count) refl
  where
    go : (b : Bool) → ltb (x / 64) count ≡ b → marked (replicate count 0) x ≡ false
    go true e = marked-none count x (ltb-true (x / 64) count e)
    go false e =
        let past : length (replicate {A = ℕ} count 0) ≤ x / 64 = omega (arith, length-replicate {A = ℕ} count 0, ltb-false (x / 64) count e) in
        rw (get_or-eq_default (replicate {A = ℕ} count 0) 0 past) (no-bit (x % 64))

-- `from` alone is met.
pub from-met : (marks : List ℕ) (from : ℕ) → marks ≡ replicate 1024 0 → from < 65536 → marked (mark marks from) ≡ eqb from
unfolding also_met
from-met marks from e small =
    mark-meets marks from (ap length e ∙ length-replicate {A = ℕ} 1024 0) small
    ∙ fun_ext λ x. ap (λ (l : List ℕ). marked l x || eqb x from) e ∙ ap (λ (b : Bool). b || eqb x from) (none-marked 1024 x) ∙ eqb-sym x from

-- The tests of a step in the order in which they are made.
in-order : (there joins serves inner below last : Bool)
    → ((there && (joins && serves)) && (inner && (below && last))) ≡ (((((there && joins) && serves) && inner) && below) && last)
in-order false joins serves inner below last = refl
in-order true false serves inner below last = refl
in-order true true false inner below last = refl
in-order true true true false below last = refl
in-order true true true true false last = refl
in-order true true true true true last = refl

-- A test that is made after another, and one that is left out since the other failed.
pub and-second : {v p q r s : Bool} → r ≡ true → r ≡ p → v ≡ s → s ≡ q → v ≡ (p && q)
and-second passed first same second = same ∙ second ∙ sym (rw (sym first ∙ passed))

pub and-first : {v p r : Bool} (q : Bool) → r ≡ false → r ≡ p → v ≡ r → v ≡ (p && q)
and-first q failed first same = same ∙ failed ∙ sym (rw (sym first ∙ failed))

module _ (table : Table) (to a b l : ℕ) (marks : List ℕ) where
  abbrev passes : Bool
  passes = may_step table to a b l

  step-parts : of_table step_holds table to (marked marks) a b l ≡ (passes && (eqb b to || not (marked marks b)))
  unfolding step_holds
  step-parts =
      in-order (ltb l (length table.lows.now)) (joins table.lows.now table.highs.now a b l)
      (link_serves table.lows.now table.highs.now table.states.now l) (not (eqb a to)) (ltb b table.n) (eqb b to || not (marked marks b))

  -- A step that fails one of those leaves the marks;
  pub not-passed : (r : Bool) → r ≡ passes → r ≡ false → Stepped table to a b l marks marks r
  not-passed r same fails =
      let none : passes ≡ false = sym same ∙ fails in
      record { holds = fails ∙ sym (step-parts ∙ rw none); met = λ holds. absurd (false≢true (sym fails ∙ holds)) }

  module _ (passed : passes ≡ true) where
    -- one to the end too;
    pub to_end : (r : Bool) → r ≡ eqb b to → r ≡ true → Stepped table to a b l marks marks r
    unfolding met_at
    to_end r same holds =
        let ended : eqb b to ≡ true = sym same ∙ holds in
        record { holds = holds ∙ sym (step-parts ∙ rw (passed, ended)); met = λ _. sym (rw ended) }

    -- one to another relay marks it.
    pub to-relay : eqb b to ≡ false → length marks ≡ 1024 → b < 65536 → (r : Bool) (after : List ℕ)
        → r ≡ not (marked marks b) → after ≡ mark marks b → Stepped table to a b l marks after r
    unfolding met_at
    to-relay other room small r after fresh e =
        record {
          holds = fresh ∙ sym (step-parts ∙ rw (passed, other));
          met = λ _. ap marked e ∙ mark-meets marks b room small ∙ sym (rw other);
        }
