-- The word of a count in a relay's column.
use mathlib.Core.Path.{refl}
use Rattle.forests.specs.Buckets.{word_of}
use Rattle.forests.proofs.buckets.word_of.Goals as goal

pub returns : goal.returns
unfolding word_of
returns c = refl
