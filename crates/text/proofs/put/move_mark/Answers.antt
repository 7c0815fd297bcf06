-- `text::put::move_mark` meets its contract: each form is written by a function of its own, a link line from its two entries.
use mathlib.Core.Path.{refl}
use Rattle.definitions.specs.Text.{link_form}
use Rattle.text.specs.declared.scan.Due.TheVariants as dues
use Rattle.text.specs.Marks.{due-room}
use Rattle.text.proofs.put.move_mark.Goals as goal

pub put_pair-mark-requires : goal.put_pair-mark-requires
unfolding link_form
put_pair-mark-requires c = due-room dues.Link c.in-Link.is c.requires

pub returns-in-Link : goal.returns-in-Link
unfolding link_form
returns-in-Link c = rw c.in-Link.is (record { put = c.put_pair-mark.ensures; counts = refl })
