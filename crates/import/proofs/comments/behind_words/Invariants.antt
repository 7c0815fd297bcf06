-- The loop of `import::comments::behind_words`: the whole search is that of the bytes left, from the offset reached.
use Prim.Native.Nat.{◌-◌}
use mathlib.Core.Path.{◌≡◌}
use lib.ListN.{length}
use Rattle.definitions.specs.Dimacs.{behind_words}
use Rattle.import.proofs.comments.behind_words.Given as goal

abbrev pub invariant-loop-p : goal.invariant-loop-p
invariant-loop-p l = behind_words l.text l.at (length l.text - l.at) ≡ behind_words l.text l.p (length l.text - l.p)
