-- The loops over all indices, `start_a`, `start_b` and `leave_from`: the side's list then holds the paths of the definition at the
-- start, and after t those of the B-paths that go on. Over k up to 32 and a `look` with the places of `left` on the indices 1 to k.
use Prim.Native.Nat.{ℕ, zero, suc, ◌+◌, ◌*◌, ◌≤◌, ◌<◌}
use mathlib.Core.Bool.{Bool, true, false}
use mathlib.Core.List.{List, [], ◌∷◌}
use mathlib.Core.Logic.{◌≢◌, by_cases}
use mathlib.Core.Path.{◌≡◌, refl, sym, ◌∙◌, ap, subst}
use native.Mathlib.Decide.{ℕ_discrete}
use native.Mathlib.Omega.{arith}
use lib.Dec.{eqb}
use lib.ListN.{length}
use borrow.Author.Tests.{eqb-true, eqb-false}
use Rattle.definitions.specs.Outcome.{pick}
use Rattle.definitions.specs.Forests.{Entry}
use Rattle.lists.specs.Searches.{clash}
use Rattle.sweep.specs.Side.{prior_start, end_in, prior_in, set_path}
use Rattle.sweep.specs.Sides.{start_a, start_b, leave_at, leave_from}
use Rattle.sweep.proofs.Paths.Side.{Chain, HoldsPath, SideHolds, held-set_path, held-set_path-other, length-set_path, prior-set_path}

-- The indices i, …, 1 are left to do: they have their old paths, if they had any, and the others have their new ones.
record Filling (reach k c : ℕ) (any : Bool) (old new : ℕ → List ℕ) (i : ℕ) (side : List ℕ) : Type 0 where
  long : prior_start + (2 * reach + 1) < length side
  base : prior_in side c ≡ 0
  lower : any ≡ true → (h : ℕ) → 1 ≤ h → h ≤ i → HoldsPath side h (old h)
  higher : (h : ℕ) → i < h → h ≤ k → HoldsPath side h (new h)

module _ (reach k c : ℕ) (small : k ≤ 32) (any : Bool) (old new : ℕ → List ℕ) where
  -- An index that keeps its path.
  fill-keep : (i : ℕ) → suc i ≤ k → (side : List ℕ) → any ≡ true → new (suc i) ≡ old (suc i) → Filling reach k c any old new (suc i) side → Filling reach k c any old new i side
  fill-keep i within side some same now =
      record {
        long = now.long;
        base = now.base;
        lower = λ had h positive le. now.lower had h positive (omega arith);
        higher = λ h above upto.
            by_cases (ℕ_discrete h (suc i))
            (λ at.
            subst (λ (x : ℕ). HoldsPath side x (new x)) (sym at)
            (subst (λ (p : List ℕ). HoldsPath side (suc i) p) (sym same) (now.lower some (suc i) (omega arith) (omega arith))))
            (λ off. now.higher h (omega arith) upto);
      }

  -- An index that is set to end x, with `rest` before it.
  fill-set : (i : ℕ) (x : Entry) (second : ℕ) (rest : List ℕ) → suc i ≤ k → (side : List ℕ) → new (suc i) ≡ x.place ∷ rest → Chain side second rest
      → Filling reach k c any old new (suc i) side → Filling reach k c any old new i (set_path side (suc i) x second)
  fill-set i x second rest within side same chain now =
      record {
        long = omega (arith, length-set_path side (suc i) x second, now.long);
        base = prior-set_path side (suc i) x second (omega arith) c ∙ now.base;
        lower = λ had h positive le.
            held-set_path-other side (suc i) x second h (λ e. omega arith) (omega arith) (omega arith) (old h) (now.lower had h positive (omega arith));
        higher = λ h above upto.
            by_cases (ℕ_discrete h (suc i))
            (λ at.
            subst (λ (y : ℕ). HoldsPath (set_path side (suc i) x second) y (new y)) (sym at)
            (subst (λ (p : List ℕ). HoldsPath (set_path side (suc i) x second) (suc i) p) (sym same)
            (held-set_path side (suc i) x second (omega (arith, now.long)) (omega arith) rest chain)))
            (λ off.
            held-set_path-other side (suc i) x second h off (omega arith) (omega arith) (new h) (now.higher h (omega arith) upto));
      }

  fill_done : (side : List ℕ) → Filling reach k c any old new 0 side → SideHolds reach k c side new
  fill_done side now = record { long = now.long; base = now.base; held = λ i positive within. now.higher i positive within }

-- Path i of side A starts as s, left(i, s).
module _ (left : ℕ → ℕ → ℕ) (look : ℕ → ℕ → Entry) (reach k : ℕ) (small : k ≤ 32) (agree : (i x : ℕ) → 1 ≤ i → i ≤ k → (look i x).place ≡ left i x) where
  module _ (s : ℕ) (some : 0 < s) where
    abbrev start_path_a : ℕ → List ℕ
    start_path_a i = left i s ∷ s ∷ []

    start_a-fills : (i : ℕ) → i ≤ k → (a : List ℕ) → Filling reach k s false start_path_a start_path_a i a
        → Filling reach k s false start_path_a start_path_a 0 (start_a look s i a)
    unfolding start_a
    start_a-fills zero le a now = now
    start_a-fills (suc i) le a now =
        start_a-fills i (omega arith) (set_path a (suc i) (look (suc i) s) s)
        (fill-set reach k s small false start_path_a start_path_a i (look (suc i) s) s (s ∷ []) le a
        (ap (λ (x : ℕ). x ∷ s ∷ []) (sym (agree (suc i) s (omega arith) le))) (refl, some, now.base) now)

    pub start_a-holds : (a : List ℕ) → prior_start + (2 * reach + 1) < length a → prior_in a s ≡ 0 → SideHolds reach k s (start_a look s k a) start_path_a
    start_a-holds a long base =
        fill_done reach k s small false start_path_a start_path_a (start_a look s k a)
        (start_a-fills k (omega arith) a
        (record { long = long; base = base; lower = λ had. absurd (clash had refl); higher = λ h above upto. absurd (omega arith) }))

  -- Path i of side B starts as t alone.
  module _ (t : ℕ) where
    abbrev start_path_b : ℕ → List ℕ
    start_path_b i = t ∷ []

    start_b-fills : (i : ℕ) → i ≤ k → (b : List ℕ) → Filling reach k t false start_path_b start_path_b i b
        → Filling reach k t false start_path_b start_path_b 0 (start_b t i b)
    unfolding start_b
    start_b-fills zero le b now = now
    start_b-fills (suc i) le b now =
        start_b-fills i (omega arith) (set_path b (suc i) (record { place = t; link = 0 }) 0)
        (fill-set reach k t small false start_path_b start_path_b i (record { place = t; link = 0 }) 0 [] le b refl refl now)

    pub start_b-holds : (b : List ℕ) → prior_start + (2 * reach + 1) < length b → prior_in b t ≡ 0 → SideHolds reach k t (start_b t k b) start_path_b
    start_b-holds b long base =
        fill_done reach k t small false start_path_b start_path_b (start_b t k b)
        (start_b-fills k (omega arith) b
        (record { long = long; base = base; lower = λ had. absurd (clash had refl); higher = λ h above upto. absurd (omega arith) }))

    -- At t, B-path i goes on to left(i, t) unless A-path i ends there.
    module _ (some : 0 < t) (a : List ℕ) (new : ℕ → List ℕ)
        (meets : (i : ℕ) → 1 ≤ i → i ≤ k → end_in a i ≡ t → new i ≡ t ∷ [])
        (goes : (i : ℕ) → 1 ≤ i → i ≤ k → end_in a i ≢ t → new i ≡ left i t ∷ t ∷ []) where
      leave-turn : (i : ℕ) → suc i ≤ k → (b : List ℕ) → Filling reach k t true start_path_b new (suc i) b
          → Filling reach k t true start_path_b new i (leave_at look t a (suc i) b)
      unfolding leave_at
      leave-turn i le b now = go (eqb (end_in a (suc i)) t) refl
        where
          go : (c : Bool) → eqb (end_in a (suc i)) t ≡ c
              → Filling reach k t true start_path_b new i (pick c b (set_path b (suc i) (look (suc i) t) t))
          go true e = fill-keep reach k t small true start_path_b new i le b refl (meets (suc i) (omega arith) le (eqb-true (end_in a (suc i)) t e)) now
          go false e =
              fill-set reach k t small true start_path_b new i (look (suc i) t) t (t ∷ []) le b
              (goes (suc i) (omega arith) le (eqb-false (end_in a (suc i)) t e) ∙ ap (λ (x : ℕ). x ∷ t ∷ []) (sym (agree (suc i) t (omega arith) le)))
              (refl, some, now.base) now

      leave-fills : (i : ℕ) → i ≤ k → (b : List ℕ) → Filling reach k t true start_path_b new i b
          → Filling reach k t true start_path_b new 0 (leave_from look t a i b)
      unfolding leave_from
      leave-fills zero le b now = now
      leave-fills (suc i) le b now = leave-fills i (omega arith) (leave_at look t a (suc i) b) (leave-turn i le b now)

      pub leave-holds : (b : List ℕ) → SideHolds reach k t b start_path_b → SideHolds reach k t (leave_from look t a k b) new
      leave-holds b held =
          fill_done reach k t small true start_path_b new (leave_from look t a k b)
          (leave-fills k (omega arith) b
          (record {
            long = held.long;
            base = held.base;
            lower = λ had h positive le. held.held h positive le;
            higher = λ h above upto. absurd (omega arith);
          }))
