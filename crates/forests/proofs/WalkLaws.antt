-- The laws of the walk over the links of a relay. Assumes nothing.
use Prim.Native.Nat.{ℕ, suc, ◌+◌, ◌*◌, ◌/◌, ◌%◌, ◌≤◌, ◌<◌}
use mathlib.Core.Bool.{Bool, true, false, ◌||◌, true≢false, ◌&&◌}
use mathlib.Core.List.{List}
use mathlib.Core.Logic.{◌≢◌, ◌⊎◌, inl, inr}
use mathlib.Core.Path.{◌≡◌, refl, sym, ◌∙◌, ap, ap₂}
use native.Mathlib.Decide.{ℕ_discrete, dec_lt}
use native.Mathlib.Omega.{arith}
use borrow.Author.Tests.{eqb-true, eq-eqb, ne_eqb, lt-ltb, le-ltb}
use lib.Dec.{eqb, ltb}
use lib.ListN.{length, get_or, set, length-set}
use lib.Seq.{get_or-set_same, get_or-set_other}
use Rattle.definitions.specs.Outcome.{pick}
use Rattle.definitions.specs.Lists.{some_below}
use Rattle.definitions.specs.Network.{is_pair, joins, touches}
use Rattle.lists.specs.Tests.{and-true, and-false, or-none, or-either}
use Rattle.lists.specs.Below.{none_below}
use Rattle.lists.specs.Stretches.{some-skip, and-skip}
use Rattle.theory.specs.Accepted.{ProperTable}
use Rattle.theory.specs.Links.{one_link, joins-ends}
use Rattle.forests.specs.Chains.{half_of, next_half, ChainedFrom}
use Rattle.forests.specs.Counts.{raised_count, forest_number}
use Rattle.forests.specs.Walk.{other_end, far_end, across_of, across, WalkedTo}

pub pick-eq : {A : Type 0} (x y : ℕ) (a b : A) → x ≡ y → pick (eqb x y) a b ≡ a
pick-eq x y a b e = rw (eq-eqb x y e)

pub pick-ne : {A : Type 0} (x y : ℕ) (a b : A) → (x ≡ y → ⊥) → pick (eqb x y) a b ≡ b
pick-ne x y a b e = rw (ne_eqb x y e)

module _ (lows highs : List ℕ) (x : ℕ) where
  -- A link that joins x and another relay has x as an end.
  pub joins-touches : (r j : ℕ) → touches lows highs x j ≡ false → joins lows highs x r j ≡ false
  unfolding touches joins is_pair
  joins-touches r j h = go (eqb (get_or lows j 0) x) (eqb (get_or highs j 0) x) h
    where
      go : (a b : Bool) → (a || b) ≡ false → ((a && eqb (get_or highs j 0) r) || (eqb (get_or lows j 0) r && b)) ≡ false
      go true b e = absurd (true≢false e)
      go false true e = absurd (true≢false e)
      go false false e = and-false (eqb (get_or lows j 0) r)

  -- A link at x joins x and its far end, and no other relay.
  pub joins-far : (r j : ℕ) → touches lows highs x j ≡ true → get_or lows j 0 < get_or highs j 0
      → joins lows highs x r j ≡ eqb (far_end lows highs x j) r
  unfolding touches joins is_pair far_end other_end
  joins-far r j h rises = go (eqb (get_or lows j 0) x) refl (eqb (get_or highs j 0) x) refl h
    where
      go : (a : Bool) → eqb (get_or lows j 0) x ≡ a → (b : Bool) → eqb (get_or highs j 0) x ≡ b → (a || b) ≡ true
          → ((a && eqb (get_or highs j 0) r) || (eqb (get_or lows j 0) r && b)) ≡ eqb (pick a (get_or highs j 0) (get_or lows j 0)) r
      go true p true q e = absurd (omega (arith, eqb-true (get_or lows j 0) x p, eqb-true (get_or highs j 0) x q))
      go true p false q e = rw (and-false (eqb (get_or lows j 0) r)) (or-none (eqb (get_or highs j 0) r))
      go false p true q e = and-true (eqb (get_or lows j 0) r)
      go false p false q e = absurd (true≢false (sym e))

  pub far-below : {n : ℕ} (j : ℕ) → ProperTable n lows highs → j < length lows → far_end lows highs x j < n
  unfolding far_end other_end
  far-below {n} j t h = go (eqb (get_or lows j 0) x)
    where
      go : (b : Bool) → pick b (get_or highs j 0) (get_or lows j 0) < n
      go true = t.below j h
      go false = omega (arith, t.below j h, t.ordered j h)

  -- The far end of a half-link at x.
  pub across-far : (j : ℕ) → across lows highs (half_of lows x j) ≡ far_end lows highs x j
  unfolding half_of across across_of far_end other_end
  across-far j = go (eqb (get_or lows j 0) x)
    where
      go : (b : Bool)
          → pick (eqb (pick b (2 * j) (2 * j + 1) % 2) 0)
          (get_or highs (pick b (2 * j) (2 * j + 1) / 2) 0)
          (get_or lows (pick b (2 * j) (2 * j + 1) / 2) 0)
          ≡ pick b (get_or highs j 0) (get_or lows j 0)
      go true =
          let side : 2 * j % 2 ≡ 0 = omega arith in
          let link : 2 * j / 2 ≡ j = omega arith in
          rw (side, link)
      go false =
          let side : (2 * j + 1) % 2 ≡ 1 = omega arith in
          let link : (2 * j + 1) / 2 ≡ j = omega arith in
          rw (side, link)

  -- The half-link behind that of link j at x.
  pub next-behind : {first nexts : List ℕ} (j : ℕ) → ChainedFrom lows highs 0 first nexts
      → touches lows highs x j ≡ true → j < length lows → get_or nexts (half_of lows x j) 0 ≡ next_half lows highs x (suc j)
  unfolding touches half_of
  next-behind {first} {nexts} j c h k =
      go (eqb (get_or lows j 0) x) refl (eqb (get_or highs j 0) x) refl h
    where
      go : (a : Bool) → eqb (get_or lows j 0) x ≡ a → (b : Bool) → eqb (get_or highs j 0) x ≡ b → (a || b) ≡ true
          → get_or nexts (pick a (2 * j) (2 * j + 1)) 0 ≡ next_half lows highs x (suc j)
      go true p b q e =
          c.low j (omega arith) k ∙ ap (λ r. next_half lows highs r (suc j)) (eqb-true (get_or lows j 0) x p)
      go false p true q e =
          c.high j (omega arith) k ∙ ap (λ r. next_half lows highs r (suc j)) (eqb-true (get_or highs j 0) x q)
      go false p false q e = absurd (true≢false (sym e))

  pub walked_none : (counts forests : List ℕ) → WalkedTo lows highs x 0 counts counts forests forests
  unfolding some_below
  walked_none counts forests =
      record {
        count_room = refl;
        long = refl;
        count = λ r. refl;
        forest = λ j. rw (le-ltb j 0 (omega arith));
      }

  pub walked_skip : {counts counts' forests forests' : List ℕ} (i k : ℕ) → i ≤ k
      → ((j : ℕ) → i ≤ j → j < k → touches lows highs x j ≡ false)
      → WalkedTo lows highs x i counts counts' forests forests' → WalkedTo lows highs x k counts counts' forests forests'
  walked_skip {counts} {counts'} {forests} {forests'} i k h none w =
      record {
        count_room = w.count_room;
        long = w.long;
        count = λ r. rw (some-skip (joins lows highs x r) i k h (λ j a b. joins-touches r j (none j a b))) (w.count r);
        forest = λ j. rw (and-skip (touches lows highs x) i k j h none) (w.forest j);
      }

  -- The far end of the next link has its count from before the walk.
  pub far-count : {n : ℕ} {counts counts' forests forests' : List ℕ} (i : ℕ) → ProperTable n lows highs → i < length lows
      → touches lows highs x i ≡ true → WalkedTo lows highs x i counts counts' forests forests'
      → get_or counts' (far_end lows highs x i) 0 ≡ get_or counts (far_end lows highs x i) 0
  far-count {n} {counts} {counts'} {forests} {forests'} i t within at w = w.count y ∙ rw fresh
    where
      y : ℕ
      y = far_end lows highs x i

      here : joins lows highs x y i ≡ true
      here = joins-far y i at (t.ordered i within) ∙ eq-eqb y y refl

      fresh : some_below (joins lows highs x y) i ≡ false
      fresh = none_below (joins lows highs x y) i (λ j h. go j h (joins lows highs x y j) refl)
        where
          go : (j : ℕ) → j < i → (b : Bool) → joins lows highs x y j ≡ b → b ≡ false
          go j h true e = absurd (omega (arith, one_link n lows highs t x y j i (omega arith) within e here))
          go j h false e = refl

  -- Link i is visited: its far end's count rises, and it gets its forest number.
  pub walked_one : {n : ℕ} {counts counts' forests forests' : List ℕ} (i : ℕ) → ProperTable n lows highs → i < length lows
      → n ≤ length counts → length lows ≤ length forests → touches lows highs x i ≡ true
      → WalkedTo lows highs x i counts counts' forests forests'
      → WalkedTo lows highs x (suc i) counts
      (set counts' (far_end lows highs x i) (raised_count (get_or counts' (far_end lows highs x i) 0)))
      forests
      (set forests' i (forest_number (get_or counts' (far_end lows highs x i) 0) (get_or forests' i 0)))
  unfolding some_below
  walked_one {n} {counts} {counts'} {forests} {forests'} i t within count_room room at w =
      record {
        count_room = simp length-set w.count_room;
        long = simp length-set w.long;
        count = λ r. count r (ℕ_discrete r y);
        forest = λ j. forest j (ℕ_discrete j i);
      }
    where
      y : ℕ
      y = far_end lows highs x i

      below : y < n
      below = far-below i t within

      here : joins lows highs x y i ≡ true
      here = joins-far y i at (t.ordered i within) ∙ eq-eqb y y refl

      old : get_or counts' y 0 ≡ get_or counts y 0
      old = far-count i t within at w

      count : (r : ℕ) → Dec (r ≡ y)
          → get_or (set counts' y (raised_count (get_or counts' y 0))) r 0
          ≡ pick (joins lows highs x r i || some_below (joins lows highs x r) i) (raised_count (get_or counts r 0)) (get_or counts r 0)
      count r (yes e) =
          rw (e, here) (get_or-set_same counts' y (raised_count (get_or counts' y 0)) 0 (omega (arith, w.count_room, below)) ∙ ap raised_count old)
      count r (no e) =
          rw (joins-far r i at (t.ordered i within) ∙ ne_eqb y r (λ z. e (sym z)))
          (get_or-set_other counts' y r (raised_count (get_or counts' y 0)) 0 e ∙ w.count r)

      forest : (j : ℕ) → Dec (j ≡ i)
          → get_or (set forests' i (forest_number (get_or counts' y 0) (get_or forests' i 0))) j 0
          ≡ pick (ltb j (suc i) && touches lows highs x j)
          (forest_number (get_or counts (far_end lows highs x j) 0) (get_or forests j 0))
          (get_or forests j 0)
      forest j (yes e) =
          rw (e, at, lt-ltb i (suc i) (omega arith))
          (get_or-set_same forests' i (forest_number (get_or counts' y 0) (get_or forests' i 0)) 0 (omega (arith, w.long))
          ∙ ap₂ forest_number old (w.forest i ∙ rw (le-ltb i i (omega arith))))
      forest j (no e) =
          get_or-set_other forests' i j (forest_number (get_or counts' y 0) (get_or forests' i 0)) 0 e
          ∙ w.forest j
          ∙ ap (λ b. pick (b && touches lows highs x j) (forest_number (get_or counts (far_end lows highs x j) 0) (get_or forests j 0)) (get_or forests j 0)) (same (dec_lt j i))
        where
          same : Dec (j < i) → ltb j i ≡ ltb j (suc i)
          same (yes p) = lt-ltb j i p ∙ sym (lt-ltb j (suc i) (omega arith))
          same (no p) = le-ltb j i (omega arith) ∙ sym (le-ltb j (suc i) (omega arith))

module _ {n : ℕ} {lows highs : List ℕ} (t : ProperTable n lows highs) where
  -- The other end of a link is another relay.
  pub apart-ends : (a b i : ℕ) → i < length lows → joins lows highs a b i ≡ true → b ≢ a
  apart-ends a b i h e = go (joins-ends lows highs a b i e)
    where
      go : ((get_or lows i 0 ≡ a) × (get_or highs i 0 ≡ b)) ⊎ ((get_or lows i 0 ≡ b) × (get_or highs i 0 ≡ a)) → b ≢ a
      go (inl p) = λ same. omega (arith, p.0, p.1, t.ordered i h, same)
      go (inr p) = λ same. omega (arith, p.0, p.1, t.ordered i h, same)

  -- An end of a link that is not its one end is its other.
  pub touch-end : (c a b i : ℕ) → touches lows highs c i ≡ true → joins lows highs a b i ≡ true → c ≢ a → c ≡ b
  unfolding touches
  touch-end c a b i f e d =
      go (or-either (eqb (get_or lows i 0) c) (eqb (get_or highs i 0) c) f) (joins-ends lows highs a b i e)
    where
      go : (eqb (get_or lows i 0) c ≡ true) ⊎ (eqb (get_or highs i 0) c ≡ true)
          → ((get_or lows i 0 ≡ a) × (get_or highs i 0 ≡ b)) ⊎ ((get_or lows i 0 ≡ b) × (get_or highs i 0 ≡ a)) → c ≡ b
      go (inl p) (inl q) = absurd (d (sym (eqb-true (get_or lows i 0) c p) ∙ q.0))
      go (inl p) (inr q) = sym (eqb-true (get_or lows i 0) c p) ∙ q.0
      go (inr p) (inl q) = sym (eqb-true (get_or highs i 0) c p) ∙ q.1
      go (inr p) (inr q) = absurd (d (sym (eqb-true (get_or highs i 0) c p) ∙ q.1))
