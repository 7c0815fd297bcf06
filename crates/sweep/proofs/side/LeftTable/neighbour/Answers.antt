-- `neighbour` meets its contract.
use Rattle.std.proofs.Common.{◌≡◌, ◌-◌, refl, sym, ap, zero, suc, ℕ, List, get_or, arith}
use Rattle.sweep.specs.Side.{link_entry}
use Rattle.sweep.proofs.side.LeftTable.neighbour.Goals as goal

-- A code other than 0, in the code's terms.
some-link : (ends : List ℕ) (code place : ℕ) → (code ≡ 0 → ⊥) → place ≡ get_or ends (code - 1) 0
    → link_entry ends code ≡ record { place = place; link = code - 1 }
unfolding link_entry
some-link ends zero place some e = absurd (some refl)
some-link ends (suc link) place some e = let less : suc link - 1 ≡ link = omega arith in rw (e, less)

pub returns-then-code-eq0 : goal.returns-then-code-eq0
unfolding link_entry
returns-then-code-eq0 c = ap (link_entry c.args.self.ends.now) (sym c.if-code-eq0.true)

pub returns : goal.returns
returns c =
    let a = c.args in
    sym (some-link a.self.ends.now a.code c.get.result c.if-code-eq0.false (cc))
