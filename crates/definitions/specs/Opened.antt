-- Every definition that stays shut opened at once, for the computed examples: a proof that says `unfolding opened` computes
-- with all of them. Assumes nothing.
use Rattle.definitions.specs.OpenedOperations.{opened_operations}
use Rattle.definitions.specs.OpenedPrograms.{opened_programs}

unfoldable pub opened : Unit {0}
unfolding opened_operations opened_programs
opened = tt
