-- The sizes of arrays: what a small network fits, what every network fits, and arrays for the scan. Assumes nothing.
use Prim.Native.Nat.{ℕ, ◌*◌, ◌≤◌}
use mathlib.Core.Bool.{Bool, true}
use mathlib.Core.List.{List}
use mathlib.Core.Path.{◌≡◌, sym, ◌∙◌, ap}
use native.Mathlib.Omega.{arith}
use borrow.Author.Tests.{leb-true}
use lib.Dec.{leb}
use lib.ListN.{length, get_or, replicate, length-replicate, get_or-replicate}
use Rattle.definitions.specs.Network.{Accepted}
use Rattle.lists.specs.Tests.{and_both}
use Rattle.theory.specs.Accepted.{ProperTable, accepted}
use Rattle.forests.specs.Chains.{Chainable}
use Rattle.forests.specs.Buckets.{column_words, columns_for, NoBits}
use Rattle.forests.specs.Counts.{turns_of}
use Rattle.forests.specs.Scan.{is_small, ChainArrays, Prepared, Ready}
use Rattle.forests.proofs.CountLaws.{none-counted}
use Rattle.forests.proofs.BucketLaws.{no_bits}

-- What a small network has.
pub small-sizes : {small : Bool} (n m : ℕ) → small ≡ is_small n m → small ≡ true → (n ≤ 128) × (m ≤ 384)
unfolding is_small
small-sizes n m e t =
    let both = and_both (leb n 128) (leb m 384) (sym e ∙ t) in
    (leb-true n 128 both.0, leb-true m 384 both.1)

-- A table of fewer relays is one of more.
pub wide-table : {n size : ℕ} {lows highs : List ℕ} → n ≤ size → size ≤ 1000 → ProperTable n lows highs → ProperTable size lows highs
wide-table h few t =
    record {
      some = omega (arith, t.some);
      few = few;
      even = t.even;
      short = t.short;
      ordered = t.ordered;
      below = λ i p. omega (arith, t.below i p);
      once = t.once;
    }

-- Arrays of enough relays and links: for the chains, and for the scan.
pub chain-arrays : (size halves n : ℕ) (lows : List ℕ) {first nexts counts : List ℕ} → n ≤ size → size ≤ 1000 → 2 * length lows ≤ halves
    → first ≡ replicate size (2 * length lows) → nexts ≡ replicate halves 0 → counts ≡ replicate size 0
    → ChainArrays n lows first nexts counts
chain-arrays size halves n lows {first} {nexts} {counts} heads few room f h c =
    let long : length first ≡ size = ap length f ∙ length-replicate size (2 * length lows) in
    let counted : length counts ≡ size = ap length c ∙ length-replicate {A = ℕ} size 0 in
    record {
      heads = omega arith;
      few = omega arith;
      no_chains =
          record {
            none = λ r p. ap (λ z. get_or z r 0) f ∙ get_or-replicate size r (2 * length lows) 0 (omega arith);
            room = omega (arith, ap length h, length-replicate {A = ℕ} halves 0);
          };
      count_room = omega arith;
      no_counts = none-counted size counts c;
    }

pub scan-arrays : (size halves words n : ℕ) (lows : List ℕ) {first nexts counts bits : List ℕ} → n ≤ size → size ≤ 1000 → 2 * length lows ≤ halves
    → columns_for size * column_words ≤ words → first ≡ replicate size (2 * length lows) → nexts ≡ replicate halves 0
    → counts ≡ replicate size 0 → bits ≡ replicate words 0
    → ChainArrays n lows first nexts counts × NoBits (length counts) bits
scan-arrays size halves words n lows {first} {nexts} {counts} {bits} heads few room wide f h c b = (
  chain-arrays size halves n lows heads few room f h c,
  rw (ap length c ∙ length-replicate {A = ℕ} size 0) (no_bits words size _ b wide),
)

-- Columns of more relays are columns of fewer.
fewer-columns : {size fewer : ℕ} {bits : List ℕ} → fewer ≤ size → NoBits size bits → NoBits fewer bits
fewer-columns h b = record { room = λ r p. b.room r (omega arith); none = b.none }

-- When the chains are made in them, the scan can begin.
pub made-ready : {n turns start : ℕ} {lows highs states first first' nexts nexts' counts counts' bits : List ℕ}
    → ChainArrays n lows first nexts counts × NoBits (length counts) bits → turns ≡ turns_of n states
    → length first' ≡ length first → length counts' ≡ length counts → Prepared n lows highs states first' nexts' counts' start
    → Ready n turns start lows highs states first' nexts' counts' bits
made-ready fit turned heads counted made =
    record {
      heads = omega (arith, fit.0.heads);
      few = omega (arith, fit.0.few);
      count_room = omega (arith, fit.0.count_room);
      no_bits = fewer-columns (omega arith) fit.1;
      turned = turned;
      prepared = made;
    }

-- Chains can be made of an accepted table.
pub chain-ready : {n : ℕ} {lows highs first nexts counts : List ℕ} (states : List ℕ) → Accepted n lows highs states
    → ChainArrays n lows first nexts counts → Chainable lows highs first nexts
chain-ready {n} {lows} {highs} states ok w =
    record { proper = wide-table w.heads w.few (accepted n lows highs states ok); no_chains = w.no_chains }
