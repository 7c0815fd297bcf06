-- The sweep of the definitions where the look-up gives places alone: its functions under their names, over `left`.
-- The theorems about the sweep speak of these; `Erased` carries them to a look-up that gives more. Assumes nothing.
use Rattle.std.specs.Prelude.{ℕ, Bool, List}
use Rattle.definitions.specs.Sweep as Sweep
use Rattle.definitions.specs.Sweep.{place_look}

abbrev pub Slot : Type 0
Slot = Sweep.Slot ℕ

abbrev pub end_of : (path : List ℕ) → ℕ
end_of = Sweep.end_of (λ x. x)

abbrev pub before_end : (path : List ℕ) → ℕ
before_end = Sweep.before_end (λ x. x)

abbrev pub extend : (x : ℕ) (path : List ℕ) → List ℕ
extend = Sweep.extend (λ x. x)

abbrev pub start_slot : (left : ℕ → ℕ → ℕ) (s t i : ℕ) → Slot
start_slot left = Sweep.start_slot (place_look left)

abbrev pub slot_at_t : (left : ℕ → ℕ → ℕ) (t : ℕ) (slot : Slot) (i : ℕ) → Slot
slot_at_t left = Sweep.slot_at_t (place_look left)

abbrev pub ends_a : (v : ℕ) (slot : Slot) → Bool
ends_a = Sweep.ends_a (λ x. x)

abbrev pub ends_b : (t v : ℕ) (slot : Slot) → Bool
ends_b = Sweep.ends_b (λ x. x)

abbrev pub replace_ends : (left : ℕ → ℕ → ℕ) (set : ℕ → Bool) (paths : ℕ → List ℕ) (i : ℕ) → List ℕ
replace_ends left = Sweep.replace_ends (place_look left)

abbrev pub downshift : (left : ℕ → ℕ → ℕ) (k j : ℕ) (ends : ℕ → Bool) (paths : ℕ → List ℕ) (i : ℕ) → List ℕ
downshift left = Sweep.downshift (place_look left)

abbrev pub settle : (left : ℕ → ℕ → ℕ) (v j : ℕ) (slot : Slot) → Slot
settle left = Sweep.settle (place_look left)

abbrev pub highest_at : (k t v : ℕ) (slots : ℕ → Slot) → ℕ
highest_at = Sweep.highest_at (λ x. x)

abbrev pub shifted_slot : (left : ℕ → ℕ → ℕ) (k t v j : ℕ) (slots : ℕ → Slot) (i : ℕ) → Slot
shifted_slot left = Sweep.shifted_slot (place_look left)

abbrev pub slot_elsewhere : (left : ℕ → ℕ → ℕ) (k t v : ℕ) (slots : ℕ → Slot) (i : ℕ) → Slot
slot_elsewhere left = Sweep.slot_elsewhere (place_look left)

abbrev pub slot_after : (left : ℕ → ℕ → ℕ) (k t v : ℕ) (slots : ℕ → Slot) (i : ℕ) → Slot
slot_after left = Sweep.slot_after (place_look left)

abbrev pub slots_after : (left : ℕ → ℕ → ℕ) (k t v : ℕ) (slots : List Slot) → List Slot
slots_after left = Sweep.slots_after (place_look left)

abbrev pub sweep_from : (left : ℕ → ℕ → ℕ) (k t v : ℕ) (slots : List Slot) → List Slot
sweep_from left = Sweep.sweep_from (place_look left)

abbrev pub sweep : (left : ℕ → ℕ → ℕ) (k s t : ℕ) → List Slot
sweep left = Sweep.sweep (place_look left)
