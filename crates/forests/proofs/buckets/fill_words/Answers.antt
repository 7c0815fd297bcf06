-- After each turn that many columns have the bits of their relays.
use native.Mathlib.Omega.{arith}
use Rattle.forests.proofs.StartLaws.{column-there, fill_more}
use Rattle.forests.proofs.buckets.fill_words.Goals as goal

pub loop-column-preserved : goal.loop-column-preserved
loop-column-preserved c =
    let at = c.loop-column in
    let room = column-there c.args.n at.column c.args.bits.now at.bits c.requires at.auto.bits (omega arith) in
    rw c.full_word.ensures (fill_more c.args.n at.column at.bits room at.invariant)
