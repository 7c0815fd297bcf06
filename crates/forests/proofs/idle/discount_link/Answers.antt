-- Both ends have a link less, or neither.
use Prim.Native.Nat.{◌-◌}
use native.Mathlib.Omega.{arith}
use lib.ListN.{get_or, length-set}
use lib.Seq.{get_or-set_other}
use Rattle.forests.proofs.IdleLinkLaws.{discount-some, discount-none}
use Rattle.forests.proofs.idle.discount_link.Goals as goal

pub less_link-requires : goal.less_link-requires
less_link-requires c =
    let p = c.requires in
    (omega (arith, p.0, p.1), (p.2 c.if-both-lt2.true).0)

pub less_link-requires-then-both-lt2 : goal.less_link-requires-then-both-lt2
less_link-requires-then-both-lt2 c =
    let once = c.less_link.ensures in
    let a = c.args in
    let p = c.requires in (
      rw once (simp length-set p.1),
      rw (once, get_or-set_other a.counts.now a.a a.b (get_or a.counts.now a.a 0 - 1) 0 (λ e. omega (arith, p.0)))
          (p.2 c.if-both-lt2.true).1,
    )

pub returns-then-both-lt2 : goal.returns-then-both-lt2
returns-then-both-lt2 c =
    let a = c.args in
    discount-some a.a a.b a.both a.counts.now c.if-both-lt2.true c.less_link.ensures c.less_link-then-both-lt2.ensures

pub returns-else-both-lt2 : goal.returns-else-both-lt2
returns-else-both-lt2 c = let a = c.args in discount-none a.a a.b a.both a.counts.now c.if-both-lt2.false
