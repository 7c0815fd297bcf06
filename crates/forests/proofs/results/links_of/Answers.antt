-- `forests::results::links_of` meets its contract: before the scan begins, the links at each relay are counted.
use Rattle.std.proofs.Common.{arith, refl}
use Rattle.theory.specs.Accepted.{accepted}
use Rattle.forests.proofs.SizeLaws.{chain-arrays}
use Rattle.forests.proofs.results.links_of.Goals as goal

pub overflow_cast-none : goal.overflow_cast-none
overflow_cast-none c = omega (arith, (accepted _ _ _ _ c.args.network.accepted).short)

pub overflow_mul-none : goal.overflow_mul-none
overflow_mul-none c = omega (arith, (accepted _ _ _ _ c.args.network.accepted).short)

pub prepare-requires : goal.prepare-requires
prepare-requires c =
    let table = accepted _ _ _ _ c.args.network.accepted in
    chain-arrays 1000 6000 _ _ table.few (omega arith) (omega (arith, table.short)) refl refl refl

pub bounds-counts-from : goal.bounds-counts-from
bounds-counts-from c =
    omega (arith, c.from.ensures, c.if-network-relay.false, (accepted _ _ _ _ c.args.network.accepted).few)
