-- `keep::front::keep_line` meets its contract: it is a line of one number.
use mathlib.Core.Path.{refl}
use Rattle.definitions.specs.Keep.{keep_form}
use Rattle.text_theory.specs.Forms.{no_zero}
use Rattle.keep.proofs.front.keep_line.Goals as goal

pub single_line-requires : goal.single_line-requires
unfolding no_zero
single_line-requires c = (refl, refl)

pub returns : goal.returns
unfolding keep_form
returns c = c.single_line.ensures
