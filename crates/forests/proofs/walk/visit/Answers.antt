-- One half-link of the walk: the far end is the one that the contract names.
use Rattle.forests.specs.Walk.{across}
use Rattle.forests.proofs.WalkTurns.{visit-done}
use Rattle.forests.proofs.walk.visit.Goals as goal

pub raise-count-requires : goal.raise-count-requires
unfolding across
raise-count-requires c =
    rw c.far_end.ensures (c.requires.far, c.requires.bound, c.requires.sorted)

pub number-requires : goal.number-requires
unfolding across
number-requires c =
    rw (c.raise-count.ensures.value, c.far_end.ensures) c.requires.fresh

pub returns : goal.returns
unfolding across
returns c =
    let far = c.far_end in
    visit-done far.result.0 far.ensures (c.raise-count.ensures.value, c.raise-count.ensures.moved) c.number.ensures c.from.ensures
