-- `next_step` meets its contract, by what was read at the two offsets.
use Rattle.std.proofs.Common.{refl}
use Rattle.text_theory.specs.Forms.{no_zero}
use Rattle.verify.proofs.walk.next_step.Goals as goal

pub word_number-requires : goal.word_number-requires
unfolding no_zero
word_number-requires c = refl

pub word_number-requires-2 : goal.word_number-requires-2
unfolding no_zero
word_number-requires-2 c = refl
