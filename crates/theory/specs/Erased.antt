-- A look-up that gives more than places makes the same sweep: of its slots the places alone are the slots of the sweep over
-- places. Over any look-up whose paths start at the place that they are to start at.
use Prim.Native.Nat.{ℕ, zero, suc, pred}
use Rattle.std.specs.Prelude.{Bool, ◌&&◌, ◌||◌, ◌≡◌}
use Rattle.std.proofs.Math.Bool.{true, false}
use mathlib.Core.List.{List, [], ◌∷◌, map, tail}
use Rattle.std.proofs.Math.Path.{refl, sym, ap, ap₂, fun_ext}
use Rattle.std.proofs.Common.{◌∙◌}
use Rattle.std.proofs.Math.Dec.{eqb, ltb}
use Rattle.std.proofs.Math.ListN.{get_or-map}
use Rattle.definitions.specs.Outcome.{pick}
use Rattle.definitions.specs.Lists.{table, largest, first_from}
use Rattle.definitions.specs.Sweep as Sweep
use Rattle.definitions.specs.Sweep.{Look, slot_at, together, previous_in, exchange}
use Rattle.lists.specs.Maps.{map-table}
use Rattle.theory.specs.PlaceSweep as Places

module _ {A : Type 0} (look : Look A) (starts : (v : ℕ) → look.place (look.start v) ≡ v) where
  abbrev pub bare : ℕ → ℕ → ℕ
  bare i v = look.place (look.left i v)

  abbrev pub places : List A → List ℕ
  places = map look.place

  abbrev pub erase : Sweep.Slot A → Places.Slot
  erase slot = record { is_open = slot.is_open; path_a = places slot.path_a; path_b = places slot.path_b }

  pick-places : (b : Bool) (one other : List A) → places (pick b one other) ≡ pick b (places one) (places other)
  pick-places true one other = refl
  pick-places false one other = refl

  tail-places : (path : List A) → places (tail path) ≡ tail (places path)
  tail-places [] = refl
  tail-places (x ∷ rest) = refl

  pub end-places : (path : List A) → Places.end_of (places path) ≡ Sweep.end_of look.place path
  unfolding Sweep.end_of
  end-places [] = refl
  end-places (x ∷ rest) = refl

  before-places : (path : List A) → Places.before_end (places path) ≡ Sweep.before_end look.place path
  unfolding Sweep.before_end
  before-places [] = refl
  before-places (x ∷ rest) = end-places rest

  extend-places : (x : A) (path : List A) → places (Sweep.extend look.place x path) ≡ Places.extend (look.place x) (places path)
  unfolding Sweep.extend
  extend-places x path = pick-places (eqb (look.place x) 0) path (x ∷ path)

  start-erased : (s t i : ℕ) → erase (Sweep.start_slot look s t i) ≡ Places.start_slot bare s t i
  unfolding Sweep.start_slot
  start-erased s t i =
      ap₂ (λ (x y : ℕ). record { is_open = true; path_a = bare i s ∷ x ∷ []; path_b = y ∷ [] }) (starts s) (starts t)

  at-t-erased : (t i : ℕ) (slot : Sweep.Slot A) → erase (Sweep.slot_at_t look t slot i) ≡ Places.slot_at_t bare t (erase slot) i
  unfolding Sweep.slot_at_t
  at-t-erased t i slot = rw (end-places slot.path_a) (go (eqb (Sweep.end_of look.place slot.path_a) t))
    where
      go : (b : Bool) → erase (pick b
          (record { is_open = false; path_a = slot.path_a; path_b = slot.path_b })
          (record { is_open = slot.is_open; path_a = slot.path_a; path_b = Sweep.extend look.place (look.left i t) slot.path_b }))
          ≡ pick b
          (record { is_open = false; path_a = places slot.path_a; path_b = places slot.path_b })
          (record { is_open = slot.is_open; path_a = places slot.path_a; path_b = Places.extend (bare i t) (places slot.path_b) })
      go true = refl
      go false =
          ap (λ (p : List ℕ). record { is_open = slot.is_open; path_a = places slot.path_a; path_b = p })
          (extend-places (look.left i t) slot.path_b)

  ends_a-erased : (v : ℕ) (slot : Sweep.Slot A) → Places.ends_a v (erase slot) ≡ Sweep.ends_a look.place v slot
  unfolding Sweep.ends_a
  ends_a-erased v slot = ap (λ (x : ℕ). slot.is_open && eqb x v) (end-places slot.path_a)

  ends_b-erased : (t v : ℕ) (slot : Sweep.Slot A) → Places.ends_b t v (erase slot) ≡ Sweep.ends_b look.place t v slot
  unfolding Sweep.ends_b
  ends_b-erased t v slot = ap (λ (x : ℕ). slot.is_open && (ltb v t && eqb x v)) (end-places slot.path_b)

  replace-erased : (set : ℕ → Bool) (paths : ℕ → List A) (i : ℕ)
      → places (Sweep.replace_ends look set paths i) ≡ Places.replace_ends bare set (λ h. places (paths h)) i
  unfolding Sweep.replace_ends
  replace-erased set paths i =
      let h : ℕ = previous_in set i in
      pick-places (set i && ltb 0 h) (look.left h (Sweep.before_end look.place (paths i)) ∷ tail (paths i)) (paths i)
      ∙ ap₂ (λ (x : ℕ) (l : List ℕ). pick (set i && ltb 0 h) (bare h x ∷ l) (places (paths i)))
      (sym (before-places (paths i))) (tail-places (paths i))

  exchange-erased : (set : ℕ → Bool) (k j : ℕ) (paths : ℕ → List A) (i : ℕ)
      → places (exchange set k j paths i) ≡ exchange set k j (λ h. places (paths h)) i
  unfolding exchange
  exchange-erased set k j paths i =
      pick-places (set i) (paths (pick (eqb i j) (first_from set 1 k) (first_from set (suc i) k))) (paths i)

  downshift-erased : (k j : ℕ) (ends : ℕ → Bool) (paths : ℕ → List A) (i : ℕ)
      → places (Sweep.downshift look k j ends paths i) ≡ Places.downshift bare k j ends (λ h. places (paths h)) i
  unfolding Sweep.downshift
  downshift-erased k j ends paths i =
      pick-places (eqb (largest ends k) 0) (paths i)
      (exchange (together ends j) k j (Sweep.replace_ends look (together ends j) paths) i)
      ∙ ap (λ (l : List ℕ). pick (eqb (largest ends k) 0) (places (paths i)) l)
      (exchange-erased (together ends j) k j (Sweep.replace_ends look (together ends j) paths) i
      ∙ ap (λ (f : ℕ → List ℕ). exchange (together ends j) k j f i)
      (fun_ext λ h. replace-erased (together ends j) paths h))

  settle-erased : (v j : ℕ) (slot : Sweep.Slot A) → erase (Sweep.settle look v j slot) ≡ Places.settle bare v j (erase slot)
  unfolding Sweep.settle
  settle-erased v j slot =
      rw (end-places slot.path_a, end-places slot.path_b)
      (go (eqb (Sweep.end_of look.place slot.path_a) v) (eqb (Sweep.end_of look.place slot.path_b) v))
    where
      longer : (b : Bool) (path : List A)
          → places (pick b (Sweep.extend look.place (look.left j v) path) path) ≡ pick b (Places.extend (bare j v) (places path)) (places path)
      longer true path = extend-places (look.left j v) path
      longer false path = refl

      go : (a b : Bool) → erase (pick (a && b)
          (record { is_open = false; path_a = slot.path_a; path_b = slot.path_b })
          (record {
            is_open = slot.is_open;
            path_a = pick a (Sweep.extend look.place (look.left j v) slot.path_a) slot.path_a;
            path_b = pick b (Sweep.extend look.place (look.left j v) slot.path_b) slot.path_b;
          }))
          ≡ pick (a && b)
          (record { is_open = false; path_a = places slot.path_a; path_b = places slot.path_b })
          (record {
            is_open = slot.is_open;
            path_a = pick a (Places.extend (bare j v) (places slot.path_a)) (places slot.path_a);
            path_b = pick b (Places.extend (bare j v) (places slot.path_b)) (places slot.path_b);
          })
      go true true = refl
      go true false = ap₂ (λ (p q : List ℕ). record { is_open = slot.is_open; path_a = p; path_b = q }) (longer true slot.path_a) (longer false slot.path_b)
      go false b = ap₂ (λ (p q : List ℕ). record { is_open = slot.is_open; path_a = p; path_b = q }) (longer false slot.path_a) (longer b slot.path_b)

  module _ (k t v : ℕ) (slots : ℕ → Sweep.Slot A) where
    abbrev erased : ℕ → Places.Slot
    erased i = erase (slots i)

    tests_a : ◌≡◌ {A = ℕ → Bool} (λ h. Places.ends_a v (erased h)) (λ h. Sweep.ends_a look.place v (slots h))
    tests_a = fun_ext λ h. ends_a-erased v (slots h)

    tests_b : ◌≡◌ {A = ℕ → Bool} (λ h. Places.ends_b t v (erased h)) (λ h. Sweep.ends_b look.place t v (slots h))
    tests_b = fun_ext λ h. ends_b-erased t v (slots h)

    highest-erased : Places.highest_at k t v erased ≡ Sweep.highest_at look.place k t v slots
    unfolding Sweep.highest_at
    highest-erased =
        ap₂ (λ (f g : ℕ → Bool). largest (λ i. f i || g i) k) tests_a tests_b

    shifted-erased : (j i : ℕ) → erase (Sweep.shifted_slot look k t v j slots i) ≡ Places.shifted_slot bare k t v j erased i
    unfolding Sweep.shifted_slot
    shifted-erased j i =
        ap₂ (λ (p q : List ℕ). record { is_open = (slots i).is_open; path_a = p; path_b = q })
        (downshift-erased k j (λ h. Sweep.ends_a look.place v (slots h)) (λ h. (slots h).path_a) i
        ∙ ap (λ (f : ℕ → Bool). Places.downshift bare k j f (λ h. places (slots h).path_a) i) (sym tests_a))
        (downshift-erased k j (λ h. Sweep.ends_b look.place t v (slots h)) (λ h. (slots h).path_b) i
        ∙ ap (λ (f : ℕ → Bool). Places.downshift bare k j f (λ h. places (slots h).path_b) i) (sym tests_b))

    pick-erased : (b : Bool) (one other : Sweep.Slot A) → erase (pick b one other) ≡ pick b (erase one) (erase other)
    pick-erased true one other = refl
    pick-erased false one other = refl

    elsewhere-erased : (i : ℕ) → erase (Sweep.slot_elsewhere look k t v slots i) ≡ Places.slot_elsewhere bare k t v erased i
    unfolding Sweep.slot_elsewhere
    elsewhere-erased i =
        let j : ℕ = Sweep.highest_at look.place k t v slots in
        let shifted : Sweep.Slot A = Sweep.shifted_slot look k t v j slots i in
        rw highest-erased
        (pick-erased (eqb j 0) (slots i) (pick (eqb i j) (Sweep.settle look v j shifted) shifted)
        ∙ ap (λ (x : Places.Slot). pick (eqb j 0) (erased i) x)
        (pick-erased (eqb i j) (Sweep.settle look v j shifted) shifted
        ∙ ap₂ (λ (x y : Places.Slot). pick (eqb i j) x y)
        (settle-erased v j shifted ∙ ap (Places.settle bare v j) (shifted-erased j i)) (shifted-erased j i)))

    after-erased : (i : ℕ) → erase (Sweep.slot_after look k t v slots i) ≡ Places.slot_after bare k t v erased i
    unfolding Sweep.slot_after
    after-erased i =
        pick-erased (eqb v t) (Sweep.slot_at_t look t (slots i) i) (Sweep.slot_elsewhere look k t v slots i)
        ∙ ap₂ (λ (x y : Places.Slot). pick (eqb v t) x y) (at-t-erased t i (slots i)) (elsewhere-erased i)

  pub slot-erased : (slots : List (Sweep.Slot A)) (i : ℕ) → erase (slot_at slots i) ≡ slot_at (map erase slots) i
  unfolding slot_at
  slot-erased slots zero = refl
  slot-erased slots (suc i) = sym (get_or-map erase slots i (record { is_open = false; path_a = []; path_b = [] }))

  module _ (k t : ℕ) where
    from-erased : (v : ℕ) (slots : List (Sweep.Slot A)) → map erase (Sweep.sweep_from look k t v slots) ≡ Places.sweep_from bare k t v (map erase slots)
    unfolding Sweep.sweep_from Sweep.slots_after
    from-erased zero slots = refl
    from-erased (suc v) slots =
        from-erased v (Sweep.slots_after look k t (suc v) slots)
        ∙ ap (Places.sweep_from bare k t v)
        (map-table erase (Sweep.slot_after look k t (suc v) (slot_at slots)) 1 k
        ∙ ap (λ (f : ℕ → Places.Slot). table f 1 k)
        (fun_ext λ i. after-erased k t (suc v) (slot_at slots) i
        ∙ ap (λ (f : ℕ → Places.Slot). Places.slot_after bare k t (suc v) f i) (fun_ext (slot-erased slots))))

    -- The whole sweep.
    pub sweep-erased : (s : ℕ) → map erase (Sweep.sweep look k s t) ≡ Places.sweep bare k s t
    unfolding Sweep.sweep
    sweep-erased s =
        from-erased (pred s) (table (Sweep.start_slot look s t) 1 k)
        ∙ ap (Places.sweep_from bare k t (pred s))
        (map-table erase (Sweep.start_slot look s t) 1 k ∙ ap (λ (f : ℕ → Places.Slot). table f 1 k) (fun_ext λ i. start-erased s t i))
