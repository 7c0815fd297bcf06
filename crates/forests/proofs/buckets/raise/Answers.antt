-- The bit of a relay with one more link goes from the word of its count to the next one.
use mathlib.Core.Path.{refl, ◌∙◌, ap}
use native.Mathlib.Omega.{arith}
use lib.Bits.{bit_xor}
use lib.ListN.{length, get_or, length-set}
use Rattle.forests.specs.Buckets.{word_of}
use Rattle.forests.proofs.BucketLaws.{raise-moves}
use Rattle.forests.proofs.buckets.raise.Goals as goal

pub flip-requires : goal.flip-requires
unfolding word_of
flip-requires c =
    let p = c.requires in
    omega (arith, c.word_of-word.ensures, p.2.room c.args.r.0 p.0)

pub overflow_add-word : goal.overflow_add-word
unfolding word_of
overflow_add-word c =
    omega (arith, c.word_of-word.ensures, c.requires.1)

pub set_bit-requires : goal.set_bit-requires
unfolding word_of
set_bit-requires c =
    let p = c.requires in
    let bits = c.args.bits.now in
    let word = c.word_of-word.result in
    let long = ap length c.flip.ensures ∙ length-set bits word (bit_xor (get_or bits word 0) c.bit_of-bit.result) in
    omega (arith, c.word_of-word.ensures, p.1, p.2.room c.args.r.0 p.0, long)

pub returns : goal.returns
returns c =
    let p = c.requires in
    let count = get_or c.args.counts.now c.args.r.0 0 in
    let moved = raise-moves c.args.r.0 p.0 p.2 count c.word_of-word.result c.bit_of-bit.result
    c.flip.new.bits c.set_bit.new.bits refl p.1 c.word_of-word.ensures c.bit_of-bit.ensures
    c.flip.ensures c.set_bit.ensures in record {
      value = refl;
      moved = rw c.raised.ensures moved;
    }
