-- The highest index j after the shift at v + 1: both paths are closed, or the one that ends at v + 1 goes on, and never rests.
-- Over any `left` with the laws, where t and s are in one tree of forest k.
use Prim.Native.Nat.{ℕ, suc, ◌≤◌, ◌<◌}
use Rattle.std.proofs.Common.{arith, inl, inr, sym, ◌∙◌, ap, subst, eqb-true, eq-eqb, ne_eqb}
use Rattle.std.specs.Prelude.{Bool, ◌&&◌, List, ◌∷◌, ◌⊎◌, ◌≢◌, ◌≡◌}
use Rattle.std.proofs.Math.Bool.{true, false}
use Rattle.std.proofs.Math.Path.{refl}
use Rattle.std.proofs.Math.Dec.{eqb}
use Rattle.std.proofs.lemmas.Bool.{eqb-false}
use Rattle.definitions.specs.Outcome.{pick}
use Rattle.definitions.specs.Lists.{has}
use Rattle.definitions.specs.Sweep as Sweep
use Rattle.lists.specs.Searches.{clash}
use Rattle.lists.specs.Cases.{has-cases}
use Rattle.theory.specs.PlaceSweep.{Slot, end_of, extend, settle}
use Rattle.theory.specs.LeftLaws.{LeftLaws}
use Rattle.theory.proofs.Trees.{Alive, alive-lower}
use Rattle.theory.proofs.SweepPaths.{Trail, OpenPath, open-end, open-longer, trail-start, down-less}
use Rattle.theory.proofs.SweepSide.{Shifted, waiting, below, arrived, end-alone}
use Rattle.theory.proofs.SweepInvariant.{OpenSlot, ClosedSlot, Unended, alone, goes, open-slot}

-- A path with its end at v.
record Ended (left : ℕ → ℕ → ℕ) (k c v : ℕ) (path : List ℕ) : Type 0 where
  before : ℕ
  rest : List ℕ
  shape : path ≡ v ∷ before ∷ rest
  trail : Trail left k c v (before ∷ rest)

-- The state of an index before v, open or closed.
pub record SlotState (left : ℕ → ℕ → ℕ) (k s t v i : ℕ) (slot : Slot) : Type 0 where
  pub opened : slot.is_open ≡ true → OpenSlot left k s t v i slot
  pub closed : slot.is_open ≡ false → ClosedSlot left k s t v i slot

pub extend-some : (x : ℕ) (path : List ℕ) → 0 < x → extend x path ≡ x ∷ path
unfolding Sweep.extend
extend-some x path some = rw (ne_eqb x 0 (omega arith))

-- Where both end at v, both are closed.
pub settle-both : (left : ℕ → ℕ → ℕ) (v j : ℕ) (slot : Slot) → end_of slot.path_a ≡ v → end_of slot.path_b ≡ v
    → settle left v j slot ≡ record { is_open = false; path_a = slot.path_a; path_b = slot.path_b }
unfolding Sweep.settle
settle-both left v j slot a b = rw (eq-eqb (end_of slot.path_a) v a, eq-eqb (end_of slot.path_b) v b)

module _ (left : ℕ → ℕ → ℕ) (laws : LeftLaws left) where
  -- The relays from v on are as before.
  pub extend-has : (v j w : ℕ) (path : List ℕ) → v ≤ w → has (extend (left j v) path) w ≡ true → has path w ≡ true
  unfolding Sweep.extend
  extend-has v j w path le = go (eqb (left j v) 0) refl
    where
      cases : left j v ≢ 0 → (left j v ≡ w) ⊎ (has path w ≡ true) → has path w ≡ true
      cases some (inl e) = absurd (omega (arith, laws.below j v (omega arith)))
      cases some (inr h) = h

      go : (b : Bool) → eqb (left j v) 0 ≡ b → has (pick b path (left j v ∷ path)) w ≡ true → has path w ≡ true
      go true e h = h
      go false e h = cases (eqb-false (left j v) 0 e) (has-cases (left j v) path w h)

  either-has : (v j w : ℕ) (path : List ℕ) → v ≤ w → (b : Bool)
      → has (pick b (extend (left j v) path) path) w ≡ true → has path w ≡ true
  either-has v j w path le true h = extend-has v j w path le h
  either-has v j w path le false h = h

  pub settle-has_a : (v j w : ℕ) (slot : Slot) → v ≤ w → has (settle left v j slot).path_a w ≡ true → has slot.path_a w ≡ true
  unfolding Sweep.settle
  settle-has_a v j w slot le = go (eqb (end_of slot.path_a) v) (eqb (end_of slot.path_a) v && eqb (end_of slot.path_b) v)
    where
      go : (a b : Bool) → has (pick {A = Slot} b
          (record { is_open = false; path_a = slot.path_a; path_b = slot.path_b })
          (record {
            is_open = slot.is_open;
            path_a = pick a (extend (left j v) slot.path_a) slot.path_a;
            path_b = pick (eqb (end_of slot.path_b) v) (extend (left j v) slot.path_b) slot.path_b;
          })).path_a w ≡ true → has slot.path_a w ≡ true
      go a true h = h
      go a false h = either-has v j w slot.path_a le a h

  pub settle-has_b : (v j w : ℕ) (slot : Slot) → v ≤ w → has (settle left v j slot).path_b w ≡ true → has slot.path_b w ≡ true
  unfolding Sweep.settle
  settle-has_b v j w slot le = go (eqb (end_of slot.path_b) v) (eqb (end_of slot.path_a) v && eqb (end_of slot.path_b) v)
    where
      go : (a b : Bool) → has (pick {A = Slot} b
          (record { is_open = false; path_a = slot.path_a; path_b = slot.path_b })
          (record {
            is_open = slot.is_open;
            path_a = pick (eqb (end_of slot.path_a) v) (extend (left j v) slot.path_a) slot.path_a;
            path_b = pick a (extend (left j v) slot.path_b) slot.path_b;
          })).path_b w ≡ true → has slot.path_b w ≡ true
      go a true h = h
      go a false h = either-has v j w slot.path_b le a h

  module _ (k s c j v i : ℕ) (path : List ℕ) where
    ended : Shifted left k s c j v i path → end_of path ≡ suc v → Ended left k c (suc v) path
    ended (waiting le e) at = absurd (omega (arith, end-alone c path e))
    ended (below o) at = absurd (omega (arith, open-end o, o.low))
    ended (arrived top u rest e trail) at = record { before = u; rest = rest; shape = e; trail = trail }

    pub unended : Shifted left k s c j v i path → end_of path ≢ suc v → Unended left k s c i v path
    unfolding Sweep.end_of
    unended (waiting le e) off = alone le e
    unended (below o) off = goes o
    unended (arrived top u rest e trail) off = absurd (off (rw e))

    pub lower : Shifted left k s c j v i path → i ≢ j → Unended left k s c i v path
    lower (waiting le e) other = alone le e
    lower (below o) other = goes o
    lower (arrived top u rest e trail) other = absurd (other top)

  -- The end v + 1 of one path goes on: the other path, which does not end there, says that v + 1 has such a neighbour.
  pub goes_on : (k s t c v i : ℕ) (path : List ℕ) → Alive left k t s → t ≤ c → suc v ≤ s → 1 ≤ i → i ≤ k
      → Unended left k s c i v path → (0 < left i (suc v)) × Alive left i (suc v) s
  goes_on k s t c v i path alive over under one le (alone upto e) =
      let down : Alive left i t s = alive-lower left laws i k t s one le alive in
      (down (suc v) (omega arith) under, λ x above high. down x (omega arith) high)
  goes_on k s t c v i path alive over under one le (goes o) =
      (o.alive (suc v) (omega (arith, o.low)) under, λ x above high. o.alive x (omega (arith, o.low)) high)

  module _ (k s t v j : ℕ) (less : t < s) (under : suc v < s) (other : suc v ≢ t) (alive : Alive left k t s) (one : 1 ≤ j) (bound : j ≤ k) where
    ended-longer : (c : ℕ) (path : List ℕ) → 0 < left j (suc v) → Alive left j (suc v) s → Ended left k c (suc v) path
        → Unended left k s c j v (extend (left j (suc v)) path)
    ended-longer c path some on e =
        goes (subst (λ (p : List ℕ). OpenPath left k s c j v p)
        (sym (extend-some (left j (suc v)) path some ∙ ap (λ (p : List ℕ). left j (suc v) ∷ p) e.shape))
        (open-longer left laws k s c v j (e.before ∷ e.rest) some on e.trail))

    ended-below : (c : ℕ) (path : List ℕ) → Ended left k c (suc v) path → suc v < c
    ended-below c path e =
        omega (arith, down-less left laws k (suc v) e.before e.trail.0, trail-start left laws k c e.before e.rest e.trail.1)

    pub settled : (slot : Slot) → slot.is_open ≡ true
        → Shifted left k s s j v j slot.path_a → Shifted left k s t j v j slot.path_b
        → (v < t → has slot.path_a t ≡ true → ⊥) → SlotState left k s t v j (settle left (suc v) j slot)
    unfolding Sweep.settle
    settled slot opn a b without = go (eqb (end_of slot.path_a) (suc v)) (eqb (end_of slot.path_b) (suc v)) refl refl
      where
        go : (at_a at_b : Bool) → eqb (end_of slot.path_a) (suc v) ≡ at_a → eqb (end_of slot.path_b) (suc v) ≡ at_b
            → SlotState left k s t v j
            (pick (at_a && at_b)
            (record { is_open = false; path_a = slot.path_a; path_b = slot.path_b })
            (record {
              is_open = slot.is_open;
              path_a = pick at_a (extend (left j (suc v)) slot.path_a) slot.path_a;
              path_b = pick at_b (extend (left j (suc v)) slot.path_b) slot.path_b;
            }))
        go true true ea eb =
            let end_a : Ended left k s (suc v) slot.path_a = ended k s s j v j slot.path_a a (eqb-true (end_of slot.path_a) (suc v) ea) in
            let end_b : Ended left k t (suc v) slot.path_b = ended k s t j v j slot.path_b b (eqb-true (end_of slot.path_b) (suc v) eb) in
            record {
              opened = λ e. absurd (clash e refl);
              closed = λ _.
                  record {
                    meet = suc v;
                    before = end_a.before;
                    rest_a = end_a.rest;
                    rest_b = end_b.before ∷ end_b.rest;
                    shape_a = end_a.shape;
                    shape_b = end_b.shape;
                    above = omega arith;
                    trail_a = end_a.trail;
                    trail_b = end_b.trail;
                    direct = λ e. absurd (other e);
                    without = λ h. absurd (without (omega (arith, ended-below t slot.path_b end_b)) h);
                  };
            }
        go true false ea eb =
            let end_a : Ended left k s (suc v) slot.path_a = ended k s s j v j slot.path_a a (eqb-true (end_of slot.path_a) (suc v) ea) in
            let rest_b : Unended left k s t j v slot.path_b = unended k s t j v j slot.path_b b (eqb-false (end_of slot.path_b) (suc v) eb) in
            let on : (0 < left j (suc v)) × Alive left j (suc v) s = goes_on k s t t v j slot.path_b alive (omega arith) (omega arith) one bound rest_b in
            record {
              opened = λ _.
                  open-slot left laws k s t v j
                  (record { is_open = slot.is_open; path_a = extend (left j (suc v)) slot.path_a; path_b = slot.path_b })
                  (omega arith) (ended-longer s slot.path_a on.0 on.1 end_a) rest_b
                  (λ before h. without before (extend-has (suc v) j t slot.path_a before h));
              closed = λ e. absurd (clash opn e);
            }
        go false true ea eb =
            let rest_a : Unended left k s s j v slot.path_a = unended k s s j v j slot.path_a a (eqb-false (end_of slot.path_a) (suc v) ea) in
            let end_b : Ended left k t (suc v) slot.path_b = ended k s t j v j slot.path_b b (eqb-true (end_of slot.path_b) (suc v) eb) in
            let on : (0 < left j (suc v)) × Alive left j (suc v) s = goes_on k s t s v j slot.path_a alive (omega arith) (omega arith) one bound rest_a in
            record {
              opened = λ _.
                  open-slot left laws k s t v j
                  (record { is_open = slot.is_open; path_a = slot.path_a; path_b = extend (left j (suc v)) slot.path_b })
                  (omega arith) rest_a (ended-longer t slot.path_b on.0 on.1 end_b) without;
              closed = λ e. absurd (clash opn e);
            }
        go false false ea eb =
            record {
              opened = λ _.
                  open-slot left laws k s t v j (record { is_open = slot.is_open; path_a = slot.path_a; path_b = slot.path_b }) (omega arith)
                  (unended k s s j v j slot.path_a a (eqb-false (end_of slot.path_a) (suc v) ea))
                  (unended k s t j v j slot.path_b b (eqb-false (end_of slot.path_b) (suc v) eb))
                  without;
              closed = λ e. absurd (clash opn e);
            }
