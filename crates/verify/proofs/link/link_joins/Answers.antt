-- `link_joins` meets its contract: the link is there, and it is the pair one way round or the other.
use Rattle.std.proofs.Common.{◌<◌, ◌≡◌, ◌∙◌, ◌&&◌, true, false, eqb, sym, arith, length, get_or}
use Rattle.std.proofs.lemmas.Bool.{lt-ltb}
use Rattle.definitions.specs.Network.{is_pair, joins}
use Rattle.verify.proofs.LinkLaws.{ends-known}
use Rattle.verify.proofs.link.link_joins.Goals as goal

pub bounds-table-i-2 : goal.bounds-table-i-2
bounds-table-i-2 c = omega (arith, (ends-known c.args.network.table c.args.network.accepted).even)

pub returns-then-is_pair : goal.returns-then-is_pair
unfolding joins is_pair
returns-then-is_pair c =
    let a = c.args in
    let t = a.network.table in
    let there : c.from-i.result < length t.lows.now = omega arith in
    let first : (eqb (get_or t.lows.now a.l.0 0) a.a.0 && eqb (get_or t.highs.now a.l.0 0) a.b.0) ≡ true =
    rw c.from-i.ensures at (sym c.is_pair.ensures ∙ c.if-is_pair.true) in
    c.if-is_pair.true ∙ sym (rw (lt-ltb a.l.0 (length t.lows.now) (rw c.from-i.ensures at there), first))

pub returns-else-is_pair : goal.returns-else-is_pair
unfolding joins is_pair
returns-else-is_pair c =
    let a = c.args in
    let t = a.network.table in
    let there : c.from-i.result < length t.lows.now = omega arith in
    let first : (eqb (get_or t.lows.now a.l.0 0) a.a.0 && eqb (get_or t.highs.now a.l.0 0) a.b.0) ≡ false =
    rw c.from-i.ensures at (sym c.is_pair.ensures ∙ c.if-is_pair.false) in
    rw c.from-i.ensures at c.is_pair-else-is_pair.ensures
    ∙ sym (rw (lt-ltb a.l.0 (length t.lows.now) (rw c.from-i.ensures at there), first))
