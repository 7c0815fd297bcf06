-- Counts and bits of all relays agree, and then the withdrawn ones wait no more.
use native.Mathlib.Omega.{arith}
use Rattle.forests.proofs.StartLaws.{start-buckets}
use Rattle.forests.proofs.buckets.start_counts.Goals as goal

pub fill_words-requires : goal.fill_words-requires
fill_words-requires c =
    let p = c.requires in
    record { room = λ r h. p.4.room r (omega (arith, p.0, h)); none = p.4.none }

pub withdraw-requires : goal.withdraw-requires
withdraw-requires c =
    let p = c.requires in (
      p.1,
      p.2,
      c.wait_all.ensures,
      start-buckets c.args.n c.wait_all.new.counts c.fill_words.new.bits
          (λ r h. omega (arith, h, p.4.room r (omega (arith, h, c.wait_all.auto)), c.fill_words.auto))
          c.wait_all.ensures c.fill_words.ensures,
    )
