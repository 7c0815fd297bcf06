-- At the end of the sweep every index is closed, its route leads from s to t, and the routes of two indices share no place but
-- their ends. Over any `left` with the laws.
use Prim.Native.Nat.{ℕ, ◌+◌, ◌≤◌, ◌<◌}
use Rattle.std.proofs.Math.Decide.{ℕ_discrete}
use native.Mathlib.Omega.{arith}
use Rattle.std.specs.Prelude.{Bool, ◌⊎◌, ◌≢◌, ◌≡◌, length, get_or}
use Rattle.std.proofs.Math.Bool.{true, false}
use mathlib.Core.List.{List, [], ◌∷◌, reverse_aux, reverse_aux-eq}
use Rattle.std.proofs.Common.{inl, inr, ◌∙◌, ap}
use Rattle.std.proofs.Math.Logic.{by_cases}
use Rattle.std.proofs.Math.Path.{refl, sym, subst}
use Rattle.std.proofs.Math.ListN.{length-reverse_aux}
use Rattle.definitions.specs.Lists.{has}
use Rattle.definitions.specs.DisjointRoutes.{AlongFrom}
use Rattle.definitions.specs.Sweep as Sweep
use Rattle.definitions.specs.Sweep.{slot_at, slot_route, sweep_routes}
use Rattle.lists.specs.Cases.{has_there, has-reverse_aux, Disjoint, no_repeat-reverse_aux}
use Rattle.lists.specs.Reversed.{first-reverse_aux, last-reverse_aux, along-reverse_aux}
use Rattle.theory.specs.PlaceSweep.{Slot, end_of}
use Rattle.theory.specs.LeftLaws.{LeftLaws}
use Rattle.theory.proofs.PlaceRoutes.{LeftLink, left_link-sym, PlaceRoute}
use Rattle.theory.proofs.SweepPaths.{Trail, OpenPath, trail-above, trail-from, trail-upto, trail-no_repeat}
use Rattle.theory.proofs.SweepInvariant.{ClosedSlot, Sweeping}

-- A trail is a chain of links that leads to its start.
trail-along : (left : ℕ → ℕ → ℕ) (k c x : ℕ) (rest : List ℕ) → Trail left k c x rest → AlongFrom (LeftLink left k) x rest
trail-along left k c x [] e = tt
trail-along left k c x (y ∷ rest) t = ((t.0.0, t.0.1, t.0.2, inr (t.0.3, t.0.4)), trail-along left k c y rest t.1)

trail-last : (left : ℕ → ℕ → ℕ) (k c x : ℕ) (rest : List ℕ) → Trail left k c x rest → get_or (x ∷ rest) (length rest) 0 ≡ c
trail-last left k c x [] e = e
trail-last left k c x (y ∷ rest) t = trail-last left k c y rest t.1

nothing : (list : List ℕ) → length list ≡ 0 → list ≡ []
nothing [] e = refl
nothing (x ∷ list) e = absurd (omega arith)

module _ (left : ℕ → ℕ → ℕ) (laws : LeftLaws left) (k s t : ℕ) (less : t < s) (slots : ℕ → Slot) (inv : Sweeping left k s t 0 slots) where
  module _ (i : ℕ) (one : 1 ≤ i) (le : i ≤ k) where
    -- An open path would end above 0 and not above 0.
    pub all_closed : (slots i).is_open ≡ false
    all_closed = go (slots i).is_open refl
      where
        go : (b : Bool) → (slots i).is_open ≡ b → b ≡ false
        go true e =
            let o : OpenPath left k s s i 0 (slots i).path_a = (inv.opened i one le e).side_a in
            absurd (omega (arith, o.some, o.low))
        go false e = refl

    c : ClosedSlot left k s t 0 i (slots i)
    c = inv.closed i one le all_closed

    route-shape : slot_route (slots i) ≡ reverse_aux (c.meet ∷ c.before ∷ c.rest_a) c.rest_b
    unfolding slot_route
    route-shape =
        rw (c.shape_a, c.shape_b) (sym (reverse_aux-eq (c.meet ∷ c.before ∷ c.rest_a) c.rest_b))

    in_a : (w : ℕ) → has (c.meet ∷ c.before ∷ c.rest_a) w ≡ true → has (slots i).path_a w ≡ true
    in_a w h = subst (λ (p : List ℕ). has p w ≡ true) (sym c.shape_a) h

    in_b : (w : ℕ) → has c.rest_b w ≡ true → has (slots i).path_b w ≡ true
    in_b w h = subst (λ (p : List ℕ). has p w ≡ true) (sym c.shape_b) (has_there c.meet c.rest_b w h)

    route-has : (w : ℕ) → has (slot_route (slots i)) w ≡ true → (has (c.meet ∷ c.before ∷ c.rest_a) w ≡ true) ⊎ (has c.rest_b w ≡ true)
    route-has w h = has-reverse_aux (c.meet ∷ c.before ∷ c.rest_a) c.rest_b w (subst (λ (p : List ℕ). has p w ≡ true) route-shape h)

    -- B's relays past the meeting place lie between it and t.
    past : (w : ℕ) → has c.rest_b w ≡ true → (c.meet < w) × (w ≤ t)
    past w h = (
      trail-above left laws k t c.meet c.rest_b c.trail_b w h,
      trail-upto left laws k t c.meet c.rest_b c.trail_b w (has_there c.meet c.rest_b w h),
    )

    met : end_of (slots i).path_a ≡ c.meet
    unfolding Sweep.end_of
    met = rw c.shape_a

    route-disjoint : Disjoint (c.meet ∷ c.before ∷ c.rest_a) c.rest_b
    route-disjoint w h g =
        by_cases (ℕ_discrete w t)
        (λ same.
        let at : c.meet ≡ t = c.without (subst (λ (x : ℕ). has (slots i).path_a x ≡ true) same (in_a w h)) in
        omega (arith, (past w g).0))
        (λ differ.
        let x : (i ≡ i) × ((slots i).is_open ≡ false) × (end_of (slots i).path_a ≡ w) =
        inv.cross i i w one le one le (omega (arith, (past w g).0)) (omega (arith, (past w g).1)) differ (in_a w h) (in_b w g) in
        omega (arith, (past w g).0, met, x.2))

    pub route-holds : PlaceRoute left k s t (slot_route (slots i))
    route-holds =
        subst (λ (p : List ℕ). PlaceRoute left k s t p) (sym route-shape)
        (record {
          long = omega (arith, length-reverse_aux (c.meet ∷ c.before ∷ c.rest_a) c.rest_b);
          starts = first-reverse_aux c.meet (c.before ∷ c.rest_a) c.rest_b ∙ trail-last left k s c.meet (c.before ∷ c.rest_a) c.trail_a;
          ends = last-reverse_aux c.meet (c.before ∷ c.rest_a) c.rest_b ∙ trail-last left k t c.meet c.rest_b c.trail_b;
          within = λ x h. bounds x (has-reverse_aux (c.meet ∷ c.before ∷ c.rest_a) c.rest_b x h);
          along = along-reverse_aux (left_link-sym left k) c.meet (c.before ∷ c.rest_a) c.rest_b
              (trail-along left k s c.meet (c.before ∷ c.rest_a) c.trail_a) (trail-along left k t c.meet c.rest_b c.trail_b);
          no_repeat = no_repeat-reverse_aux (c.meet ∷ c.before ∷ c.rest_a) c.rest_b
              (trail-no_repeat left laws k s c.meet (c.before ∷ c.rest_a) c.trail_a)
              (trail-no_repeat left laws k t c.meet c.rest_b c.trail_b).1
              route-disjoint;
        })
      where
        bounds : (x : ℕ) → (has (c.meet ∷ c.before ∷ c.rest_a) x ≡ true) ⊎ (has c.rest_b x ≡ true) → (1 ≤ x) × (x ≤ s)
        bounds x (inl h) = (
          omega (arith, c.above, trail-from left laws k s c.meet (c.before ∷ c.rest_a) c.trail_a x h),
          trail-upto left laws k s c.meet (c.before ∷ c.rest_a) c.trail_a x h,
        )
        bounds x (inr h) = omega (arith, past x h)

    -- The route that is the link between s and t alone is a link of forest i.
    pub route-direct : slot_route (slots i) ≡ s ∷ t ∷ [] → left i s ≡ t
    route-direct e =
        let size : length (c.meet ∷ c.before ∷ c.rest_a) + length c.rest_b ≡ 2 =
        sym (length-reverse_aux (c.meet ∷ c.before ∷ c.rest_a) c.rest_b) ∙ ap length (sym route-shape ∙ e) in
        let before : c.before ≡ s = subst (λ (l : List ℕ). Trail left k s c.before l) (nothing c.rest_a (omega arith)) c.trail_a.1 in
        let meets : c.meet ≡ t = subst (λ (l : List ℕ). Trail left k t c.meet l) (nothing c.rest_b (omega arith)) c.trail_b in
        ap (left i) (sym before) ∙ c.direct meets

  -- Two routes share no place but their ends.
  pub nothing-shared : (i h : ℕ) → 1 ≤ i → i ≤ k → 1 ≤ h → h ≤ k → i ≢ h → (x : ℕ)
      → x ≢ s → x ≢ t
      → has (slot_route (slots i)) x ≡ true → has (slot_route (slots h)) x ≡ true → ⊥
  nothing-shared i h one le one' le' differ x not_s not_t in_i in_h =
      let within : (1 ≤ x) × (x ≤ s) = (route-holds i one le).within x in_i in
      differ (go within.0 (omega arith) (omega arith) (route-has i one le x in_i) (route-has h one' le' x in_h))
    where
      go : 0 < x → x < s → x ≢ t
          → (has ((c i one le).meet ∷ (c i one le).before ∷ (c i one le).rest_a) x ≡ true) ⊎ (has (c i one le).rest_b x ≡ true)
          → (has ((c h one' le').meet ∷ (c h one' le').before ∷ (c h one' le').rest_a) x ≡ true) ⊎ (has (c h one' le').rest_b x ≡ true)
          → i ≡ h
      go some under other (inl p) (inl q) = inv.once_a i h x one le one' le' some under other (in_a i one le x p) (in_a h one' le' x q)
      go some under other (inl p) (inr q) = (inv.cross i h x one le one' le' some under other (in_a i one le x p) (in_b h one' le' x q)).0
      go some under other (inr p) (inl q) = sym (inv.cross h i x one' le' one le some under other (in_a h one' le' x q) (in_b i one le x p)).0
      go some under other (inr p) (inr q) = inv.once_b i h x one le one' le' some under other (in_b i one le x p) (in_b h one' le' x q)
