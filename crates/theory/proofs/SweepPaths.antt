-- The paths of the sweep: trails of links down from a start, and the state of an open path. Over any `left` with the laws.
use Rattle.std.specs.Prelude.{ℕ, suc, ◌+◌, ◌≤◌, ◌<◌, true, List, [], ◌∷◌, ◌⊎◌, ◌≢◌, ◌≡◌, refl, length}
use Rattle.std.proofs.Common.{arith, inl, inr, sym, subst}
use Rattle.definitions.specs.Lists.{has, NoRepeat}
use Rattle.definitions.specs.Sweep as Sweep
use Rattle.lists.specs.Searches.{clash}
use Rattle.lists.specs.Cases.{has-nil, has-cases, has-not}
use Rattle.theory.specs.PlaceSweep.{end_of}
use Rattle.theory.specs.LeftLaws.{LeftLaws}
use Rattle.theory.proofs.Trees.{Alive, alive-lower, alive-left, alive-join}

-- x is an earlier neighbour of y, by a link of the forests 1 to k.
abbrev pub Down : (left : ℕ → ℕ → ℕ) (k x y : ℕ) → Type 0
Down left k x y = (h : ℕ) × (1 ≤ h) × (h ≤ k) × (0 < x) × (left h y ≡ x)

-- The path x ∷ rest, its end x first, goes down from c by links of the forests 1 to k.
abbrev pub Trail : (ℕ → ℕ → ℕ) → ℕ → ℕ → ℕ → List ℕ → Type 0
Trail left k c x [] = x ≡ c
Trail left k c x (y ∷ rest) = Down left k x y × Trail left k c y rest

-- Path of index i, open before v: it has at least two relays, all but its end are above v, its end is the i-th earlier
-- neighbour of the last but one, and from the end on up to s every place has an i-th earlier neighbour.
pub record OpenPath (left : ℕ → ℕ → ℕ) (k s c i v : ℕ) (path : List ℕ) : Type 0 where
  pub end : ℕ
  pub before : ℕ
  pub rest : List ℕ
  pub shape : path ≡ end ∷ before ∷ rest
  pub some : 0 < end
  pub low : end ≤ v
  pub high : v < before
  pub link : left i before ≡ end
  pub alive : Alive left i end s
  pub trail : Trail left k c before rest

pub open-end : {left : ℕ → ℕ → ℕ} {k s c i v : ℕ} {path : List ℕ} (o : OpenPath left k s c i v path) → end_of path ≡ o.end
unfolding Sweep.end_of
open-end o = rw o.shape

module _ (left : ℕ → ℕ → ℕ) (laws : LeftLaws left) (k : ℕ) where
  pub down-less : (x y : ℕ) → Down left k x y → x < y
  down-less x y d =
      let below : 0 < left d.0 y → left d.0 y < y = laws.below d.0 y in
      let less : left d.0 y < y = below (omega (arith, d.3, d.4)) in
      omega (arith, less, d.4)

  pub trail-start : (c x : ℕ) (rest : List ℕ) → Trail left k c x rest → x ≤ c
  trail-start c x [] e = omega arith
  trail-start c x (y ∷ rest) t = omega (arith, down-less x y t.0, trail-start c y rest t.1)

  pub trail-length : (c x : ℕ) (rest : List ℕ) → Trail left k c x rest → x + length rest ≤ c
  trail-length c x [] e = omega arith
  trail-length c x (y ∷ rest) t = omega (arith, down-less x y t.0, trail-length c y rest t.1)

  pub trail-above : (c x : ℕ) (rest : List ℕ) → Trail left k c x rest → (w : ℕ) → has rest w ≡ true → x < w
  trail-above c x [] e w h = absurd (clash h (has-nil w))
  trail-above c x (y ∷ rest) t w h = go (has-cases y rest w h) (trail-above c y rest t.1 w)
    where
      go : (y ≡ w) ⊎ (has rest w ≡ true) → (has rest w ≡ true → y < w) → x < w
      go (inl e) deeper = omega (arith, down-less x y t.0)
      go (inr h) deeper = omega (arith, down-less x y t.0, deeper h)

  pub trail-from : (c x : ℕ) (rest : List ℕ) → Trail left k c x rest → (w : ℕ) → has (x ∷ rest) w ≡ true → x ≤ w
  trail-from c x rest t w h = go (has-cases x rest w h)
    where
      go : (x ≡ w) ⊎ (has rest w ≡ true) → x ≤ w
      go (inl e) = omega arith
      go (inr h) = omega (arith, trail-above c x rest t w h)

  pub trail-upto : (c x : ℕ) (rest : List ℕ) → Trail left k c x rest → (w : ℕ) → has (x ∷ rest) w ≡ true → w ≤ c
  trail-upto c x [] e w h = go (has-cases x [] w h)
    where
      go : (x ≡ w) ⊎ (has [] w ≡ true) → w ≤ c
      go (inl same) = omega arith
      go (inr h) = absurd (clash h (has-nil w))
  trail-upto c x (y ∷ rest) t w h = go (has-cases x (y ∷ rest) w h) (trail-upto c y rest t.1 w)
    where
      go : (x ≡ w) ⊎ (has (y ∷ rest) w ≡ true) → (has (y ∷ rest) w ≡ true → w ≤ c) → w ≤ c
      go (inl e) deeper = omega (arith, trail-start c x (y ∷ rest) t)
      go (inr h) deeper = deeper h

  pub trail-no_repeat : (c x : ℕ) (rest : List ℕ) → Trail left k c x rest → NoRepeat (x ∷ rest)
  trail-no_repeat c x [] e = (has-nil x, tt)
  trail-no_repeat c x (y ∷ rest) t =
      (has-not (y ∷ rest) x (λ h. absurd (omega (arith, trail-above c x (y ∷ rest) t x h))), trail-no_repeat c y rest t.1)

  module _ (s c v : ℕ) where
    -- All relays of an open path but its end are above v.
    pub open_above : (i : ℕ) (path : List ℕ) (o : OpenPath left k s c i v path) (w : ℕ) → has path w ≡ true
        → (w ≡ o.end) ⊎ ((v < w) × (has (o.before ∷ o.rest) w ≡ true))
    open_above i path o w h = go (has-cases o.end (o.before ∷ o.rest) w (subst (λ (p : List ℕ). has p w ≡ true) o.shape h))
      where
        go : (o.end ≡ w) ⊎ (has (o.before ∷ o.rest) w ≡ true) → (w ≡ o.end) ⊎ ((v < w) × (has (o.before ∷ o.rest) w ≡ true))
        go (inl e) = inl (sym e)
        go (inr h) = inr (omega (arith, o.high, trail-from c o.before o.rest o.trail w h), h)

    -- So v stands below the start.
    pub open-start : (i : ℕ) (path : List ℕ) → OpenPath left k s c i v path → v < c
    open-start i path o = omega (arith, o.high, trail-start c o.before o.rest o.trail)

    -- An open path that does not end at v + 1 stays open below it.
    pub open-past : (i : ℕ) (path : List ℕ) → (o : OpenPath left k s c i (suc v) path) → o.end ≢ suc v → OpenPath left k s c i v path
    open-past i path o other =
        record {
          end = o.end;
          before = o.before;
          rest = o.rest;
          shape = o.shape;
          some = o.some;
          low = omega (arith, o.low);
          high = omega (arith, o.high);
          link = o.link;
          alive = o.alive;
          trail = o.trail;
        }

    -- An open path whose end is a lower index's earlier neighbour of the last but one is open for that index.
    pub open-lower : (h i : ℕ) (path : List ℕ) → 1 ≤ h → h < i → (o : OpenPath left k s c i (suc v) path)
        → OpenPath left k s c h v (left h o.before ∷ o.before ∷ o.rest)
    open-lower h i path one less o =
        let u : ℕ = o.before in
        let risen : (0 < left h u) × (left h u < left i u) = laws.rises h i u one less (omega (arith, o.some, o.link)) in
        record {
          end = left h u;
          before = u;
          rest = o.rest;
          shape = refl;
          some = risen.0;
          low = omega (arith, o.low, o.link);
          high = omega (arith, o.high);
          link = refl;
          alive =
              alive-join left laws h (left h u) u s (alive-left left laws h u risen.0)
              (λ x above upto. alive-lower left laws h i o.end s one (omega arith) o.alive x (omega (arith, o.low, o.high)) upto);
          trail = o.trail;
        }

    -- A path whose end has been treated goes on with an earlier neighbour of that end.
    pub open-longer : (i : ℕ) (rest : List ℕ) → 0 < left i (suc v) → Alive left i (suc v) s
        → Trail left k c (suc v) rest → OpenPath left k s c i v (left i (suc v) ∷ suc v ∷ rest)
    open-longer i rest some alive trail =
        record {
          end = left i (suc v);
          before = suc v;
          rest = rest;
          shape = refl;
          some = some;
          low = omega (arith, laws.below i (suc v) some);
          high = omega arith;
          link = refl;
          alive = alive-join left laws i (left i (suc v)) (suc v) s (alive-left left laws i (suc v) some) alive;
          trail = trail;
        }
