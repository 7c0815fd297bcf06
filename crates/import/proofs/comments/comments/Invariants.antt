-- The loop of `import::comments::comments`: the whole reading is that of the comment lines from the offset reached; each leads on.
use Prim.Native.Nat.{◌-◌}
use lib.ListN.{length}
use Rattle.import.proofs.CommentLaws.{CommentsFrom}
use Rattle.import.proofs.comments.comments.Given as goal

abbrev pub invariant-loop-p : goal.invariant-loop-p
invariant-loop-p l = CommentsFrom l.text l.at l.p

abbrev pub decreases-loop-p : goal.decreases-loop-p
decreases-loop-p l = length l.text - l.p
