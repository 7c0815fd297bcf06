-- `one_tree` meets its contract.
use Rattle.routes.specs.Between.{one_tree_in}
use borrow.Author.Tests.{lt-ltb, le-ltb}
use Rattle.routes.proofs.between.one_tree.Goals as goal

pub returns-then-q-p : goal.returns-then-q-p
unfolding one_tree_in
returns-then-q-p c =
    rw (lt-ltb c.args.q.0 c.args.p.0 c.if-q-p.true) c.alive.ensures

pub returns-else-q-p : goal.returns-else-q-p
unfolding one_tree_in
returns-else-q-p c =
    rw (le-ltb c.args.q.0 c.args.p.0 c.if-q-p.false) c.alive-else-q-p.ensures
