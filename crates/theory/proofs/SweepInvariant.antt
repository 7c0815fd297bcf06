-- What holds of the sweep before each v: the states of its open and closed indices, and that no relay is in two of them.
-- Over any `left`; that it holds is shown in `SweepStep`.
use Rattle.std.specs.Prelude.{ℕ, ◌≤◌, ◌<◌, true, false, List, [], ◌∷◌, ◌≢◌, ◌≡◌}
use Rattle.std.proofs.Common.{arith, sym, subst}
use Rattle.definitions.specs.Lists.{has}
use Rattle.theory.specs.PlaceSweep.{Slot, end_of}
use Rattle.theory.specs.LeftLaws.{LeftLaws}
use Rattle.theory.proofs.SweepPaths.{Trail, OpenPath, open-start}

-- Index i is open before v. B(i) is t alone until t has been treated; from then on t is not in A(i).
pub record OpenSlot (left : ℕ → ℕ → ℕ) (k s t v i : ℕ) (slot : Slot) : Type 0 where
  pub side_a : OpenPath left k s s i v slot.path_a
  pub alone : t ≤ v → slot.path_b ≡ t ∷ []
  pub side_b : v < t → OpenPath left k s t i v slot.path_b
  pub without : v < t → has slot.path_a t ≡ true → ⊥

-- Index i is closed before v: both paths have ended at `meet`. A(i) has t only if they meet there, and then by a link of
-- forest i.
pub record ClosedSlot (left : ℕ → ℕ → ℕ) (k s t v i : ℕ) (slot : Slot) : Type 0 where
  pub meet : ℕ
  pub before : ℕ
  pub rest_a : List ℕ
  pub rest_b : List ℕ
  pub shape_a : slot.path_a ≡ meet ∷ before ∷ rest_a
  pub shape_b : slot.path_b ≡ meet ∷ rest_b
  pub above : v < meet
  pub trail_a : Trail left k s meet (before ∷ rest_a)
  pub trail_b : Trail left k t meet rest_b
  pub direct : meet ≡ t → left i before ≡ t
  pub without : has slot.path_a t ≡ true → meet ≡ t

-- Before v is treated.
pub record Sweeping (left : ℕ → ℕ → ℕ) (k s t v : ℕ) (slots : ℕ → Slot) : Type 0 where
  pub below : v < s
  pub opened : (i : ℕ) → 1 ≤ i → i ≤ k → (slots i).is_open ≡ true → OpenSlot left k s t v i (slots i)
  pub closed : (i : ℕ) → 1 ≤ i → i ≤ k → (slots i).is_open ≡ false → ClosedSlot left k s t v i (slots i)
  -- A relay above v other than s and t is in at most one A-path and at most one B-path, and in an A-path and a B-path only
  -- where a closed index has it as its end.
  pub once_a : (i h w : ℕ) → 1 ≤ i → i ≤ k → 1 ≤ h → h ≤ k → v < w → w < s → w ≢ t
      → has (slots i).path_a w ≡ true → has (slots h).path_a w ≡ true → i ≡ h
  pub once_b : (i h w : ℕ) → 1 ≤ i → i ≤ k → 1 ≤ h → h ≤ k → v < w → w < s → w ≢ t
      → has (slots i).path_b w ≡ true → has (slots h).path_b w ≡ true → i ≡ h
  pub cross : (i h w : ℕ) → 1 ≤ i → i ≤ k → 1 ≤ h → h ≤ k → v < w → w < s → w ≢ t
      → has (slots i).path_a w ≡ true → has (slots h).path_b w ≡ true
      → (i ≡ h) × ((slots i).is_open ≡ false) × (end_of (slots i).path_a ≡ w)

-- It speaks of the indices 1 to k alone.
pub sweeping-same : {left : ℕ → ℕ → ℕ} {k s t v : ℕ} {old : ℕ → Slot} (new : ℕ → Slot)
    → ((i : ℕ) → 1 ≤ i → i ≤ k → new i ≡ old i) → Sweeping left k s t v old → Sweeping left k s t v new
sweeping-same {left} {k} {s} {t} {v} {old} new same inv =
    record {
      below = inv.below;
      opened = λ i one le opn.
          subst (λ (x : Slot). OpenSlot left k s t v i x) (sym (same i one le)) (inv.opened i one le (rw (same i one le) at opn));
      closed = λ i one le shut.
          subst (λ (x : Slot). ClosedSlot left k s t v i x) (sym (same i one le)) (inv.closed i one le (rw (same i one le) at shut));
      once_a = λ i h w one le one' le' above under other in_i in_h.
          inv.once_a i h w one le one' le' above under other (rw (same i one le) at in_i) (rw (same h one' le') at in_h);
      once_b = λ i h w one le one' le' above under other in_i in_h.
          inv.once_b i h w one le one' le' above under other (rw (same i one le) at in_i) (rw (same h one' le') at in_h);
      cross = λ i h w one le one' le' above under other in_i in_h.
          rw (same i one le) (inv.cross i h w one le one' le' above under other (rw (same i one le) at in_i) (rw (same h one' le') at in_h));
    }

-- A path that does not end at v + 1: its start alone, or open.
pub data Unended (left : ℕ → ℕ → ℕ) (k s c i v : ℕ) (path : List ℕ) : Type 0 where
  alone : c ≤ v → path ≡ c ∷ [] → Unended left k s c i v path
  goes : OpenPath left k s c i v path → Unended left k s c i v path

module _ (left : ℕ → ℕ → ℕ) (laws : LeftLaws left) (k s t v i : ℕ) where
  -- An open index from the states of its two paths.
  pub open-slot : (slot : Slot) → v < s → Unended left k s s i v slot.path_a → Unended left k s t i v slot.path_b
      → (v < t → has slot.path_a t ≡ true → ⊥) → OpenSlot left k s t v i slot
  open-slot slot under a b without =
      record { side_a = first a; alone = λ le. waits b le; side_b = λ less. second b less; without = without }
    where
      first : Unended left k s s i v slot.path_a → OpenPath left k s s i v slot.path_a
      first (alone le e) = absurd (omega arith)
      first (goes o) = o

      waits : Unended left k s t i v slot.path_b → t ≤ v → slot.path_b ≡ t ∷ []
      waits (alone le e) upto = e
      waits (goes o) upto = absurd (omega (arith, open-start left laws k s t v i slot.path_b o))

      second : Unended left k s t i v slot.path_b → v < t → OpenPath left k s t i v slot.path_b
      second (alone le e) less = absurd (omega arith)
      second (goes o) less = o
