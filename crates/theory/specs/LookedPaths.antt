-- In the paths of the sweep each entry but the start is what a look-up at the one before it gave. Over any look-up whose paths
-- start at the place that they are to start at; no law of the sweep is used.
use Prim.Native.Nat.{ℕ, zero, suc, ◌+◌, pred, ◌≤◌, ◌<◌}
use Rattle.std.proofs.Math.Bool.{Bool, true, false}
use Rattle.std.specs.Prelude.{◌&&◌, ◌≢◌, ◌≡◌, get_or}
use mathlib.Core.List.{List, [], ◌∷◌, tail}
use Rattle.std.proofs.Math.Path.{refl, ap}
use Rattle.std.proofs.Common.{sym, arith}
use Rattle.std.proofs.Math.Dec.{eqb, ltb}
use borrow.Author.Tests.{eqb-true, eqb-false, ne_eqb, le-ltb}
use Rattle.definitions.specs.Outcome.{pick}
use Rattle.definitions.specs.Lists.{table, largest, first_from}
use Rattle.lists.specs.Searches.{clash}
use Rattle.definitions.specs.Sweep.{Look, Slot, end_of, before_end, extend, slot_at, start_slot, slot_at_t, ends_a, ends_b, together, previous_in, replace_ends, exchange, downshift, settle, highest_at, shifted_slot, slot_elsewhere, slot_after, slots_after, sweep_from, sweep}

-- The path x ∷ rest, its end first.
abbrev pub LookedFrom : {A : Type 0} (look : Look A) (x : A) (rest : List A) → Type 0
LookedFrom look x [] = Unit {0}
LookedFrom look x (y ∷ rest) = ((h : ℕ) × (x ≡ look.left h (look.place y))) × LookedFrom look y rest

abbrev pub Looked : {A : Type 0} (look : Look A) (path : List A) → Type 0
Looked look [] = Unit {0}
Looked look (x ∷ rest) = LookedFrom look x rest

-- The path ends at v, if it has any relay.
abbrev EndsAt : {A : Type 0} (look : Look A) (v : ℕ) (path : List A) → Type 0
EndsAt look v [] = Unit {0}
EndsAt look v (x ∷ rest) = look.place x ≡ v

-- Index i before v: both paths are looked up, and B(i) still ends at t until t has been treated.
pub record LookedSlot {A : Type 0} (look : Look A) (t v : ℕ) (slot : Slot A) : Type 0 where
  pub in_a : Looked look slot.path_a
  pub in_b : Looked look slot.path_b
  pub waits : t ≤ v → EndsAt look t slot.path_b

module _ {A : Type 0} (look : Look A) (starts : (v : ℕ) → look.place (look.start v) ≡ v) where
  pick-looked : (b : Bool) (one other : List A) → Looked look one → Looked look other → Looked look (pick b one other)
  pick-looked true one other h g = h
  pick-looked false one other h g = g

  ends_at : (v : ℕ) (path : List A) → eqb (end_of look.place path) v ≡ true → EndsAt look v path
  unfolding end_of
  ends_at v [] e = tt
  ends_at v (x ∷ rest) e = eqb-true (look.place x) v e

  -- A path that ends at t does not end at a later place.
  ends-later : (t v : ℕ) (path : List A) → t < v → EndsAt look t path → eqb (end_of look.place path) v ≡ false
  unfolding end_of
  ends-later t v [] less at = ne_eqb 0 v (λ e. omega arith)
  ends-later t v (x ∷ rest) less at = ne_eqb (look.place x) v (λ e. omega arith)

  longer : (j v : ℕ) (path : List A) → EndsAt look v path → Looked look path → Looked look (look.left j v ∷ path)
  longer j v [] at h = tt
  longer j v (x ∷ rest) at h = ((j, ap (look.left j) (sym at)), h)

  extend-looked : (j v : ℕ) (path : List A) → EndsAt look v path → Looked look path
      → Looked look (extend look.place (look.left j v) path)
  unfolding extend
  extend-looked j v path at h =
      pick-looked (eqb (look.place (look.left j v)) 0) path (look.left j v ∷ path) h (longer j v path at h)

  -- The same where the path ends at v, if that is what the test says.
  extend-if : (j v : ℕ) (path : List A) (b : Bool) → eqb (end_of look.place path) v ≡ b → Looked look path
      → Looked look (pick b (extend look.place (look.left j v) path) path)
  extend-if j v path true e h = extend-looked j v path (ends_at v path e) h
  extend-if j v path false e h = h

  start-looked : (s t v i : ℕ) → LookedSlot look t v (start_slot look s t i)
  unfolding start_slot
  start-looked s t v i =
      record { in_a = ((i, ap (look.left i) (sym (starts s))), tt); in_b = tt; waits = λ _. starts t }

  new-end : (h : ℕ) (path : List A) → Looked look path → Looked look (look.left h (before_end look.place path) ∷ tail path)
  unfolding before_end end_of
  new-end h [] old = tt
  new-end h (x ∷ []) old = tt
  new-end h (x ∷ y ∷ rest) old = ((h, refl), old.1)

  replace-looked : (set : ℕ → Bool) (paths : ℕ → List A) → ((i : ℕ) → Looked look (paths i))
      → (i : ℕ) → Looked look (replace_ends look set paths i)
  unfolding replace_ends
  replace-looked set paths each i =
      let h : ℕ = previous_in set i in
      pick-looked (set i && ltb 0 h) (look.left h (before_end look.place (paths i)) ∷ tail (paths i)) (paths i)
      (new-end h (paths i) (each i)) (each i)

  shift-looked : (k j : ℕ) (ends : ℕ → Bool) (paths : ℕ → List A) → ((i : ℕ) → Looked look (paths i))
      → (i : ℕ) → Looked look (downshift look k j ends paths i)
  unfolding downshift exchange
  shift-looked k j ends paths each i =
      let set : ℕ → Bool = together ends j in
      let new : ℕ → List A = replace_ends look set paths in
      let from : ℕ = pick (eqb i j) (first_from set 1 k) (first_from set (suc i) k) in
      pick-looked (eqb (largest ends k) 0) (paths i) (pick (set i) (new from) (new i)) (each i)
      (pick-looked (set i) (new from) (new i) (replace-looked set paths each from) (replace-looked set paths each i))

  -- Where no path ends at v, nothing happens.
  shift_none : (k j : ℕ) (ends : ℕ → Bool) (paths : ℕ → List A) → ((i : ℕ) → ends i ≡ false)
      → (i : ℕ) → downshift look k j ends paths i ≡ paths i
  unfolding downshift largest
  shift_none k j ends paths none i = rw (none-largest k)
    where
      none-largest : (k : ℕ) → largest ends k ≡ 0
      none-largest zero = refl
      none-largest (suc k) = rw (none (suc k)) (none-largest k)

  module _ (t v : ℕ) where
    at-t-looked : v ≡ t → (i : ℕ) (slot : Slot A) → LookedSlot look t v slot → (w : ℕ) → w < v
        → LookedSlot look t w (slot_at_t look t slot i)
    unfolding slot_at_t
    at-t-looked here i slot old w below = go (eqb (end_of look.place slot.path_a) t)
      where
        go : (b : Bool) → LookedSlot look t w (pick {A = Slot A} b
            (record { is_open = false; path_a = slot.path_a; path_b = slot.path_b })
            (record { is_open = slot.is_open; path_a = slot.path_a; path_b = extend look.place (look.left i t) slot.path_b }))
        go true = record { in_a = old.in_a; in_b = old.in_b; waits = λ le. absurd (omega arith) }
        go false =
            record {
              in_a = old.in_a;
              in_b = extend-looked i t slot.path_b (old.waits (omega arith)) old.in_b;
              waits = λ le. absurd (omega arith);
            }

    settle-looked : (j : ℕ) (slot : Slot A) → LookedSlot look t v slot → (t ≤ v → t < v) → (w : ℕ) → w < v
        → LookedSlot look t w (settle look v j slot)
    unfolding settle
    settle-looked j slot old other w below =
        go (eqb (end_of look.place slot.path_a) v) (eqb (end_of look.place slot.path_b) v) refl refl
      where
        waiting : (b : Bool) → eqb (end_of look.place slot.path_b) v ≡ b → t ≤ w
            → EndsAt look t (pick b (extend look.place (look.left j v) slot.path_b) slot.path_b)
        waiting true e le =
            absurd (clash e (ends-later t v slot.path_b (other (omega arith)) (old.waits (omega arith))))
        waiting false e le = old.waits (omega arith)

        go : (a b : Bool) → eqb (end_of look.place slot.path_a) v ≡ a → eqb (end_of look.place slot.path_b) v ≡ b
            → LookedSlot look t w (pick {A = Slot A} (a && b)
            (record { is_open = false; path_a = slot.path_a; path_b = slot.path_b })
            (record {
              is_open = slot.is_open;
              path_a = pick a (extend look.place (look.left j v) slot.path_a) slot.path_a;
              path_b = pick b (extend look.place (look.left j v) slot.path_b) slot.path_b;
            }))
        go true true ea eb = record { in_a = old.in_a; in_b = old.in_b; waits = λ le. old.waits (omega arith) }
        go true false ea eb =
            record { in_a = extend-if j v slot.path_a true ea old.in_a; in_b = old.in_b; waits = waiting false eb }
        go false b ea eb =
            record { in_a = old.in_a; in_b = extend-if j v slot.path_b b eb old.in_b; waits = waiting b eb }

    module _ (k : ℕ) (slots : ℕ → Slot A) (each : (i : ℕ) → LookedSlot look t v (slots i)) where
      shifted-looked : (t ≤ v → t < v) → (j i : ℕ) → LookedSlot look t v (shifted_slot look k t v j slots i)
      unfolding shifted_slot ends_b
      shifted-looked other j i =
          record {
            in_a = shift-looked k j (λ h. ends_a look.place v (slots h)) (λ h. (slots h).path_a) (λ h. (each h).in_a) i;
            in_b = shift-looked k j (λ h. ends_b look.place t v (slots h)) (λ h. (slots h).path_b) (λ h. (each h).in_b) i;
            waits = λ le.
                rw (shift_none k j (λ h. ends_b look.place t v (slots h)) (λ h. (slots h).path_b) (λ h. off h (other le)) i)
                ((each i).waits le);
          }
        where
          off : (h : ℕ) → t < v → ends_b look.place t v (slots h) ≡ false
          off h less = rw (le-ltb v t (omega arith)) (go (slots h).is_open)
            where
              go : (b : Bool) → (b && false) ≡ false
              go true = refl
              go false = refl

      after-looked : (w : ℕ) → w < v → (i : ℕ) → LookedSlot look t w (slot_after look k t v slots i)
      unfolding slot_after slot_elsewhere
      after-looked w below i = go (eqb v t) refl
        where
          j : ℕ
          j = highest_at look.place k t v slots

          lower : (slot : Slot A) → LookedSlot look t v slot → LookedSlot look t w slot
          lower slot old = record { in_a = old.in_a; in_b = old.in_b; waits = λ le. old.waits (omega arith) }

          shifted : (t ≤ v → t < v) → LookedSlot look t v (shifted_slot look k t v j slots i)
          shifted other = shifted-looked other j i

          elsewhere : (t ≤ v → t < v) → (a b : Bool)
              → LookedSlot look t w (pick a (slots i)
              (pick b (settle look v j (shifted_slot look k t v j slots i)) (shifted_slot look k t v j slots i)))
          elsewhere other true b = lower (slots i) (each i)
          elsewhere other false true = settle-looked j (shifted_slot look k t v j slots i) (shifted other) other w below
          elsewhere other false false = lower (shifted_slot look k t v j slots i) (shifted other)

          go : (b : Bool) → eqb v t ≡ b
              → LookedSlot look t w (pick b (slot_at_t look t (slots i) i)
              (pick (eqb j 0) (slots i)
              (pick (eqb i j) (settle look v j (shifted_slot look k t v j slots i)) (shifted_slot look k t v j slots i))))
          go true e = at-t-looked (eqb-true v t e) i (slots i) (each i) w below
          go false e =
              let differ : v ≢ t = eqb-false v t e in
              elsewhere (λ le. omega (arith, differ)) (eqb j 0) (eqb i j)

  -- In a list of slots made index by index.
  table-looked : (t v : ℕ) (f : ℕ → Slot A) → ((i : ℕ) → LookedSlot look t v (f i))
      → (k i : ℕ) → LookedSlot look t v (slot_at (table f 1 k) i)
  unfolding slot_at table
  table-looked t v f each k zero = record { in_a = tt; in_b = tt; waits = λ _. tt }
  table-looked t v f each k (suc i) = go 1 k i
    where
      go : (from count i : ℕ) → LookedSlot look t v (get_or (table f from count) i (record { is_open = false; path_a = []; path_b = [] }))
      go from zero i = record { in_a = tt; in_b = tt; waits = λ _. tt }
      go from (suc count) zero = each from
      go from (suc count) (suc i) = go (from + 1) count i

  module _ (k t : ℕ) where
    from-looked : (v : ℕ) (slots : List (Slot A)) → ((i : ℕ) → LookedSlot look t v (slot_at slots i))
        → (i : ℕ) → LookedSlot look t 0 (slot_at (sweep_from look k t v slots) i)
    unfolding sweep_from slots_after
    from-looked zero slots each = each
    from-looked (suc v) slots each =
        from-looked v (slots_after look k t (suc v) slots)
        (table-looked t v (slot_after look k t (suc v) (slot_at slots)) (after-looked t (suc v) k (slot_at slots) each v (omega arith)) k)

    -- The whole sweep.
    pub sweep-looked : (s i : ℕ) → LookedSlot look t 0 (slot_at (sweep look k s t) i)
    unfolding sweep
    sweep-looked s =
        from-looked (pred s) (table (start_slot look s t) 1 k)
        (table-looked t (pred s) (start_slot look s t) (start-looked s t (pred s)) k)
