-- `link_serves` meets its contract: one end is withdrawn, or the other decides.
use Rattle.std.proofs.Common.{ℕ, ◌<◌, ◌∙◌, sym, arith, length, get_or}
use Rattle.definitions.specs.Network.{link_serves}
use Rattle.network.specs.declared.Network.{Network}
use Rattle.verify.proofs.LinkLaws.{ends-known}
use Rattle.verify.proofs.link.link_serves.Goals as goal

-- Both ends have a state.
both-known : (network : Network) (l : ℕ) → l < length network.table.lows.now
    → (get_or network.table.lows.now l 0 < length network.table.states.now) × (get_or network.table.highs.now l 0 < length network.table.states.now)
both-known network l less =
    let known = ends-known network.table network.accepted in
    (known.low l less, known.high l less)

pub bounds-table-i-2 : goal.bounds-table-i-2
bounds-table-i-2 c = omega (arith, (ends-known c.args.network.table c.args.network.accepted).even, c.requires)

pub in_service-requires : goal.in_service-requires
in_service-requires c = rw c.from-i.ensures (omega (arith, both-known c.args.network c.args.l.0 c.requires))

pub in_service-requires-then-in_service : goal.in_service-requires-then-in_service
in_service-requires-then-in_service c = rw c.from-i.ensures (omega (arith, both-known c.args.network c.args.l.0 c.requires))

pub returns-then-in_service : goal.returns-then-in_service
unfolding link_serves
returns-then-in_service c =
    let i = c.from-i.ensures in
    rw i at c.in_service-then-in_service.ensures ∙ sym (rw (sym (rw i at c.in_service.ensures) ∙ c.if-in_service.true))

pub returns-else-in_service : goal.returns-else-in_service
unfolding link_serves
returns-else-in_service c =
    let i = c.from-i.ensures in
    c.if-in_service.false ∙ sym (rw (sym (rw i at c.in_service.ensures) ∙ c.if-in_service.false))
