-- `text::scan::byte` meets its contract: inside the text it is the byte there, else 0.
use mathlib.Core.Path.{refl, sym}
use lib.ListN.{get_or-eq_default}
use Rattle.definitions.specs.Form.{byte_at}
use Rattle.text.proofs.scan.byte.Goals as goal

pub returns-then-at-text : goal.returns-then-at-text
unfolding byte_at
returns-then-at-text c = refl

pub returns-else-at-text : goal.returns-else-at-text
unfolding byte_at
returns-else-at-text c = sym (get_or-eq_default c.args.text.now 0 c.if-at-text.false)
