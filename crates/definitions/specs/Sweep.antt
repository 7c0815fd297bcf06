-- Document 01, 'The sweep' (document 002, Algorithm 2), in places, over an arbitrary look-up of left(i, v), k, s and t.
-- s is the later and t the earlier of the two places. A path is a list with its end first; what stands in it is what the look-up
-- gives, a place alone or a place with more.
use Rattle.std.specs.Prelude.{ℕ, zero, suc, pred, Bool, true, false, ◌&&◌, ◌||◌, eqb, ltb, get_or}
use mathlib.Core.List.{List, [], ◌∷◌, ◌++◌, map, reverse, tail}
use Rattle.definitions.specs.Outcome.{pick}
use Rattle.definitions.specs.Lists.{table, largest, first_from}

-- Looking up left(i, v), where what it gives is of the type A: the place of what is given (0 for no such neighbour), and what a
-- path has for the place that it starts at.
pub record Look (A : Type 0) : Type 0 where
  pub left : ℕ → ℕ → A
  pub place : A → ℕ
  pub start : ℕ → A

-- The look-up that gives the place alone.
abbrev pub place_look : (left : ℕ → ℕ → ℕ) → Look ℕ
place_look left = record { left = left; place = λ x. x; start = λ x. x }

-- Index i of the sweep: path A(i), path B(i), and whether they are open.
pub record Slot (A : Type 0) : Type 0 where
  pub is_open : Bool
  pub path_a : List A
  pub path_b : List A

-- The last relay of a path, and the last but one; 0 for none.
unfoldable pub end_of : {A : Type 0} (place : A → ℕ) (path : List A) → ℕ
end_of place [] = 0
end_of place (x ∷ rest) = place x

unfoldable pub before_end : {A : Type 0} (place : A → ℕ) (path : List A) → ℕ
before_end place [] = 0
before_end place (x ∷ rest) = end_of place rest

-- The path with x behind its end; where there is no such neighbour the path rests.
unfoldable pub extend : {A : Type 0} (place : A → ℕ) (x : A) (path : List A) → List A
extend place x path = pick (eqb (place x) 0) path (x ∷ path)

-- Index i of a list of slots, i from 1; a closed slot without paths for any other i.
unfoldable pub slot_at : {A : Type 0} (slots : List (Slot A)) (i : ℕ) → Slot A
slot_at slots zero = record { is_open = false; path_a = []; path_b = [] }
slot_at slots (suc i) = get_or slots i (record { is_open = false; path_a = []; path_b = [] })

-- "path A(i) starts as s, left(i, s) and path B(i) as t alone. Every path is open."
unfoldable pub start_slot : {A : Type 0} (look : Look A) (s t i : ℕ) → Slot A
start_slot look s t i =
    record { is_open = true; path_a = look.left i s ∷ look.start s ∷ []; path_b = look.start t ∷ [] }

-- "If v = t: close A(i) and B(i) for each A(i) ending at t; to every other B(i) append left(i, t)." Every path is open until then; were
-- there no left(i, t), B(i) would stay as it is.
unfoldable pub slot_at_t : {A : Type 0} (look : Look A) (t : ℕ) (slot : Slot A) (i : ℕ) → Slot A
slot_at_t look t slot i =
    pick (eqb (end_of look.place slot.path_a) t)
    (record { is_open = false; path_a = slot.path_a; path_b = slot.path_b })
    (record { is_open = slot.is_open; path_a = slot.path_a; path_b = extend look.place (look.left i t) slot.path_b })

-- "the indices of the open A-paths ending at v"
unfoldable pub ends_a : {A : Type 0} (place : A → ℕ) (v : ℕ) (slot : Slot A) → Bool
ends_a place v slot = slot.is_open && eqb (end_of place slot.path_a) v

-- "and of the open B-paths ending at v. While v > t no B-path counts as ending at v."
unfoldable pub ends_b : {A : Type 0} (place : A → ℕ) (t v : ℕ) (slot : Slot A) → Bool
ends_b place t v slot = slot.is_open && (ltb v t && eqb (end_of place slot.path_b) v)

-- "their indices together with j", as a test on indices.
unfoldable pub together : (ends : ℕ → Bool) (j i : ℕ) → Bool
together ends j i = ends i || eqb i j

-- The index before i in a set of indices; 0 for the first.
unfoldable pub previous_in : (set : ℕ → Bool) (i : ℕ) → ℕ
previous_in set zero = 0
previous_in set (suc i) = largest set i

-- "For each index i after the first, with h the index before it: replace the last relay of A(i) by left(h, u), u the
-- last but one of A(i). All replacements use the indices from before the exchange."
unfoldable pub replace_ends : {A : Type 0} (look : Look A) (set : ℕ → Bool) (paths : ℕ → List A) (i : ℕ) → List A
replace_ends look set paths i =
    let h = previous_in set i in
    pick (set i && ltb 0 h) (look.left h (before_end look.place (paths i)) ∷ tail (paths i)) (paths i)

-- "Then exchange: each index gets the path of the next higher one, the highest gets the path of the lowest."
-- j is the highest index of the set, so that the search for the next higher one of an index below j ends at j at the latest.
unfoldable pub exchange : {A : Type 0} (set : ℕ → Bool) (k j : ℕ) (paths : ℕ → List A) (i : ℕ) → List A
exchange set k j paths i =
    pick (set i) (paths (pick (eqb i j) (first_from set 1 k) (first_from set (suc i) k))) (paths i)

-- One side at v: replace, then exchange. "If no A-path ended at v, nothing happens here. The B-paths likewise."
unfoldable pub downshift : {A : Type 0} (look : Look A) (k j : ℕ) (ends : ℕ → Bool) (paths : ℕ → List A) (i : ℕ) → List A
downshift look k j ends paths i =
    pick (eqb (largest ends k) 0) (paths i)
    (exchange (together ends j) k j (replace_ends look (together ends j) paths) i)

-- "If A(j) and B(j) now both end at v, close both. If one of them does, append left(j, v) to it; where v has no such
-- neighbour, that path rests at v."
unfoldable pub settle : {A : Type 0} (look : Look A) (v j : ℕ) (slot : Slot A) → Slot A
settle look v j slot =
    let at_a = eqb (end_of look.place slot.path_a) v in
    let at_b = eqb (end_of look.place slot.path_b) v in
    pick (at_a && at_b)
    (record { is_open = false; path_a = slot.path_a; path_b = slot.path_b })
    (record {
      is_open = slot.is_open;
      path_a = pick at_a (extend look.place (look.left j v) slot.path_a) slot.path_a;
      path_b = pick at_b (extend look.place (look.left j v) slot.path_b) slot.path_b;
    })

-- "Let j be the largest of all these indices, of A-paths and B-paths alike"; 0 if there is none.
unfoldable pub highest_at : {A : Type 0} (place : A → ℕ) (k t v : ℕ) (slots : ℕ → Slot A) → ℕ
highest_at place k t v slots = largest (λ i. ends_a place v (slots i) || ends_b place t v (slots i)) k

-- Index i after both sides have been replaced and exchanged.
unfoldable pub shifted_slot : {A : Type 0} (look : Look A) (k t v j : ℕ) (slots : ℕ → Slot A) (i : ℕ) → Slot A
shifted_slot look k t v j slots i =
    record {
      is_open = (slots i).is_open;
      path_a = downshift look k j (λ h. ends_a look.place v (slots h)) (λ h. (slots h).path_a) i;
      path_b = downshift look k j (λ h. ends_b look.place t v (slots h)) (λ h. (slots h).path_b) i;
    }

-- "If v is not t": "If neither has any, go on." Else replace, exchange, and close or append at j.
unfoldable pub slot_elsewhere : {A : Type 0} (look : Look A) (k t v : ℕ) (slots : ℕ → Slot A) (i : ℕ) → Slot A
slot_elsewhere look k t v slots i =
    let j = highest_at look.place k t v slots in
    let shifted = shifted_slot look k t v j slots i in
    pick (eqb j 0) (slots i) (pick (eqb i j) (settle look v j shifted) shifted)

-- Index i after v.
unfoldable pub slot_after : {A : Type 0} (look : Look A) (k t v : ℕ) (slots : ℕ → Slot A) (i : ℕ) → Slot A
slot_after look k t v slots i = pick (eqb v t) (slot_at_t look t (slots i) i) (slot_elsewhere look k t v slots i)

-- All indices, 1 to k, after v.
unfoldable pub slots_after : {A : Type 0} (look : Look A) (k t v : ℕ) (slots : List (Slot A)) → List (Slot A)
slots_after look k t v slots = table (slot_after look k t v (slot_at slots)) 1 k

-- The sweep from v on, down to 1.
unfoldable pub sweep_from : {A : Type 0} (look : Look A) (k t v : ℕ) (slots : List (Slot A)) → List (Slot A)
sweep_from look k t zero slots = slots
sweep_from look k t (suc v) slots = sweep_from look k t v (slots_after look k t (suc v) slots)

-- "For v from s − 1 down to 1", from the start.
unfoldable pub sweep : {A : Type 0} (look : Look A) (k s t : ℕ) → List (Slot A)
sweep look k s t = sweep_from look k t (pred s) (table (start_slot look s t) 1 k)

-- "Route i is A(i), then B(i) backwards without the meeting relay a second time", from s to t.
unfoldable pub slot_route : (slot : Slot ℕ) → List ℕ
slot_route slot = reverse slot.path_a ++ tail slot.path_b

-- The k routes from s to t, as places.
unfoldable pub sweep_routes : (left : ℕ → ℕ → ℕ) (k s t : ℕ) → List (List ℕ)
sweep_routes left k s t = map slot_route (sweep (place_look left) k s t)
