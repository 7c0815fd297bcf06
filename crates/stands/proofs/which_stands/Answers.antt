-- `stands::which_stands` meets its contract: the refusals in their order, and what the serials decide.
use Rattle.std.proofs.Common.{rules, ◌≡◌, Bool, true, false, not, ◌&&◌, eqb, List, ℕ, refl, sym, ◌∙◌, eq-eqb, eqb-true, ne_eqb, true≢false}
use borrow.Author.Tests.{not-true, not-false}
use Rattle.definitions.specs.Outcome.{pick, refused, done}
use Rattle.definitions.specs.Stands.{ahead, same_list, first, standing}
use Rattle.stands.proofs.ReadLaws.{same-compared}
use Rattle.stands.proofs.StandingLaws.{first-refused, second-refused, by_serials, two-relays, one-relay}
use Rattle.stands.proofs.which_stands.Goals as goal
use Rattle.stands.proofs.which_stands.Goals.{else-one-other-via-then-one-other+else-eq, else-one-other-via-else-one-other}

-- Two relays compared.
apart : (x y : ℕ) → not (eqb x y) ≡ true → x ≡ y → ⊥
apart x y differ same = true≢false (sym (eq-eqb x y same) ∙ not-true (eqb x y) differ)

alike : (x y : ℕ) → not (eqb x y) ≡ false → x ≡ y
alike x y same = eqb-true x y (not-false (eqb x y) same)

and-right : (s t : Bool) → t ≡ false → (s && t) ≡ false
and-right true t e = e
and-right false t e = refl

-- Neither is ahead.
undecided : (one other : List ℕ) (a b : ℕ) → standing one other ≡ by_serials one other a b → ahead b a ≡ false → ahead a b ≡ false
    → standing one other ≡ pick (eqb a b && same_list one other) (done first) (refused 21 0)
undecided one other a b decided_so behind level = decided_so ∙ rw (behind, level)

pub returns-in_err-one : goal.returns-in_err-one
returns-in_err-one c =
    let refused_first = first-refused c.args.first.now c.args.second.now _ c.in_err-one.ensures in
    search rules

pub returns-in_err-other : goal.returns-in_err-other
returns-in_err-other c =
    let refused_second = second-refused c.args.first.now c.args.second.now _ _ _ c.in_ok-one.ensures c.in_err-other.ensures in
    search rules

pub returns-then-ne : goal.returns-then-ne
returns-then-ne c =
    sym (two-relays _ _ _ _ _ _ c.in_ok-one.ensures c.in_ok-other.ensures (apart _ _ (sym c.ne.ensures ∙ c.if-ne.true)))

pub returns-then-is_ahead : goal.returns-then-is_ahead
returns-then-is_ahead c =
    sym (one-relay _ _ _ _ _ _ c.in_ok-one.ensures c.in_ok-other.ensures (alike _ _ (sym c.ne.ensures ∙ c.if-ne.false))
    ∙ rw (sym c.is_ahead.ensures ∙ c.if-is_ahead.true))

pub returns-then-is_ahead-2 : goal.returns-then-is_ahead-2
returns-then-is_ahead-2 c =
    sym (one-relay _ _ _ _ _ _ c.in_ok-one.ensures c.in_ok-other.ensures (alike _ _ (sym c.ne.ensures ∙ c.if-ne.false))
    ∙ rw (sym c.is_ahead.ensures ∙ c.if-is_ahead.false, sym c.is_ahead-2.ensures ∙ c.if-is_ahead-2.true))

pub returns-then-eq : goal.returns-then-eq
returns-then-eq c =
    let one = c.args.first.now in
    let other = c.args.second.now in
    sym (undecided one other _ _
    (one-relay _ _ _ _ _ _ c.in_ok-one.ensures c.in_ok-other.ensures (alike _ _ (sym c.ne.ensures ∙ c.if-ne.false)))
    (sym c.is_ahead.ensures ∙ c.if-is_ahead.false) (sym c.is_ahead-2.ensures ∙ c.if-is_ahead-2.false)
    ∙ rw (eq-eqb _ _ c.if-one-other.true, sym (same-compared one other) ∙ sym c.eq.ensures ∙ c.if-eq.true))

pub returns : goal.returns
returns c =
    let one = c.args.first.now in
    let other = c.args.second.now in
    let a = c.in_ok-one.one.serial in
    let b = c.in_ok-other.other.serial in
    let neither : (eqb a b && same_list one other) ≡ false = elim c.else-one-other.branch [
      | else-one-other-via-then-one-other+else-eq w ↦
          and-right (eqb a b) (same_list one other) (sym (same-compared one other) ∙ sym w.eq.ensures ∙ w.if-eq.false)
      | else-one-other-via-else-one-other w ↦ rw (ne_eqb a b w.if-one-other.false)
    ] in
    sym (undecided one other a b
    (one-relay _ _ _ _ _ _ c.in_ok-one.ensures c.in_ok-other.ensures (alike _ _ (sym c.ne.ensures ∙ c.if-ne.false)))
    (sym c.is_ahead.ensures ∙ c.if-is_ahead.false) (sym c.is_ahead-2.ensures ∙ c.if-is_ahead-2.false)
    ∙ rw neither)
