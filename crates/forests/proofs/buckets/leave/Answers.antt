-- The bit of a relay that is placed is flipped in the word of its count.
use mathlib.Core.Path.{refl}
use native.Mathlib.Omega.{arith}
use lib.ListN.{get_or}
use Rattle.forests.specs.Buckets.{word_of}
use Rattle.forests.proofs.BucketLaws.{leave-moves}
use Rattle.forests.proofs.buckets.leave.Goals as goal

pub flip-requires : goal.flip-requires
unfolding word_of
flip-requires c =
    let p = c.requires in
    omega (arith, c.word_of.ensures, p.1.few c.args.r.0, p.1.room c.args.r.0 p.0)

pub returns : goal.returns
returns c =
    let p = c.requires in
    let count = get_or c.args.counts.now c.args.r.0 0 in record {
      value = refl;
      moved = leave-moves c.args.r.0 p.0 p.1 count c.word_of.result c.bit_of.result
          c.flip.new.bits refl c.word_of.ensures c.bit_of.ensures c.flip.ensures;
    }
