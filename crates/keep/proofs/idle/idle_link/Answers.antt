-- `keep::idle::idle_link` meets its contract.
use mathlib.Core.Path.{sym, ◌∙◌}
use Rattle.keep.proofs.idle.idle_link.Goals as goal

pub returns-then-both_serve : goal.returns-then-both_serve
returns-then-both_serve c = sym (rw (sym c.both_serve.ensures ∙ c.if-both_serve.true))

pub returns-else-both_serve : goal.returns-else-both_serve
returns-else-both_serve c = sym (rw (sym c.both_serve.ensures ∙ c.if-both_serve.false))
