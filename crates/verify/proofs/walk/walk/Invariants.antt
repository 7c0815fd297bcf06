-- The loop's invariant: the whole walk is the one from here on, with the relays marked.
use Rattle.std.proofs.Common.{◌≡◌}
use Rattle.lists.specs.Bitmap.{marked}
use Rattle.network.specs.Tables.{of_table}
use Rattle.verify.specs.Walks.{walk_from}
use Rattle.verify.proofs.walk.walk.Given as goal

abbrev pub invariant-loop-steps : goal.invariant-loop-steps
invariant-loop-steps l =
    of_table walk_from l.network.table l.text l.to.0 (marked l.initial.marks) 0 l.initial.a.0 l.initial.at.relays l.initial.at.links
    ≡ of_table walk_from l.network.table l.text l.to.0 (marked l.marks) l.steps l.a.0 l.at.relays l.at.links
