-- The left table link by link: its entries are left entries, and each link so far has its own; the forest numbers so far have
-- given way to earlier ends. Assumes nothing.
use Prim.Native.Nat.{ℕ, suc, ◌+◌, ◌-◌, ◌*◌, ◌≤◌, ◌<◌, min, max}
use mathlib.Core.Bool.{true}
use mathlib.Core.List.{List}
use mathlib.Core.Path.{◌≡◌, refl, sym, ◌∙◌, ap, ap₂}
use native.Mathlib.Decide.{ℕ_discrete, dec_le}
use native.Mathlib.Omega.{arith}
use borrow.Author.Tests.{eq-eqb, ne_eqb}
use lib.ListN.{length, get_or, set, length-set}
use lib.Seq.{get_or-set_same, get_or-set_other}
use Rattle.definitions.specs.Outcome.{pick}
use Rattle.definitions.specs.Network.{linked, link_serves}
use Rattle.definitions.specs.Order.{order_of}
use Rattle.definitions.specs.Forests.{forest_of, Entry}
use Rattle.definitions.specs.Route.{left_of}
use Rattle.definitions.specs.Over.{entry_of}
use Rattle.lists.specs.Grids.{grid-within, grid-row, grid-entry}
use Rattle.theory.specs.Accepted.{accepted}
use Rattle.theory.specs.Ordering.{order-few}
use Rattle.theory.specs.ForestNumbers.{earlier_place, later_place, LinkFacts, forest-placed, placed-serves, accepted-link-facts}
use Rattle.theory.specs.LeftEntries.{entry_place, entry-link, entry-own}
use Rattle.forests.specs.Fronts.{SameBeyond}
use Rattle.forests.specs.Left.{left_index, left_code, later_at, earlier_at, is_entered, Enterable, entered, end_entered, LeftInput, LeftTable}
use Rattle.forests.proofs.EnterLaws.{is-entered, no-forest-entered, none-past-entered}

-- The code of an entry, with a neighbour and without.
pub code-some : (entry : Entry) → 0 < entry.place → left_code entry ≡ suc entry.link
unfolding left_code
code-some entry some = rw (ne_eqb entry.place 0 (λ none. omega arith)) refl

pub code-none : (entry : Entry) → entry.place ≡ 0 → left_code entry ≡ 0
unfolding left_code
code-none entry none = rw (eq-eqb entry.place 0 none) refl

module _ (n : ℕ) (lows highs states : List ℕ) where
  -- The forest number of link i by the definition.
  abbrev number_at : ℕ → ℕ
  number_at i = forest_of (linked lows highs) (order_of n lows highs states) lows highs i

  abbrev late_at : ℕ → ℕ
  late_at i = later_place (order_of n lows highs states) lows highs i

  abbrev early_at : ℕ → ℕ
  early_at i = earlier_place (order_of n lows highs states) lows highs i

-- Link j is one of the first k forests.
abbrev pub InFirst : (n k : ℕ) (lows highs states : List ℕ) (j : ℕ) → Type 0
InFirst n k lows highs states j = (1 ≤ number_at n lows highs states j) × (number_at n lows highs states j ≤ k)

-- The table when the links below i are entered.
pub record LeftTo (n k : ℕ) (lows highs states : List ℕ) (i : ℕ) (table table' : List ℕ) : Type 0 where
  pub sound : (f v : ℕ) → 1 ≤ f → f ≤ k → 1 ≤ v → v ≤ n → 0 < get_or table' (left_index n f v) 0
      → get_or table' (left_index n f v) 0 ≡ left_code (entry_of n lows highs states f v)
  pub full : (j : ℕ) → j < i → j < length lows → InFirst n k lows highs states j
      → get_or table' (left_index n (number_at n lows highs states j) (late_at n lows highs states j)) 0 ≡ suc j
  pub beyond : SameBeyond (k * n) table table'

-- The list of forest numbers then: earlier ends of the links entered below i, forest numbers still from there on.
pub record EndsTo (n k : ℕ) (lows highs states : List ℕ) (i : ℕ) (forests forests' : List ℕ) : Type 0 where
  pub early : (j : ℕ) → j < i → j < length lows → InFirst n k lows highs states j → get_or forests' j 0 ≡ early_at n lows highs states j
  pub number : (j : ℕ) → i ≤ j → j < length lows → get_or forests' j 0 ≡ number_at n lows highs states j
  pub long : length forests' ≡ length forests

-- Two places of the table with one index are one.
index_same : (n f v g w : ℕ) → 1 ≤ f → 1 ≤ v → v ≤ n → 1 ≤ g → 1 ≤ w → w ≤ n → left_index n f v ≡ left_index n g w
    → (f ≡ g) × (v ≡ w)
index_same n f v g w a b c d p q e =
    let row = grid-row (f - 1) (v - 1) (g - 1) (w - 1) n (omega arith) (omega arith) e in
    let entry = grid-entry (f - 1) (v - 1) (g - 1) (w - 1) n (omega arith) (omega arith) e in
    omega arith

index-within : (n k f v : ℕ) → 1 ≤ f → f ≤ k → 1 ≤ v → v ≤ n → left_index n f v < k * n
index-within n k f v a b c d = grid-within (f - 1) (v - 1) k n (omega arith) (omega arith)

module _ {n k : ℕ} {lows highs states places forests table : List ℕ} (can : LeftInput n k lows highs states places forests table) where
  -- Only a link with both ends in service is in a forest.
  serving : (i : ℕ) → i < length lows → 1 ≤ number_at n lows highs states i → link_serves lows highs states i ≡ true
  serving i h some =
      let order = order_of n lows highs states in
      placed-serves n lows highs states i (forest-placed order lows highs (number_at n lows highs states i) some i h refl)

  link : (i : ℕ) → i < length lows → 1 ≤ number_at n lows highs states i → LinkFacts (order_of n lows highs states) lows highs i
  link i h some = accepted-link-facts n lows highs states can.accepted i h (serving i h some)

  late-within : (i : ℕ) → i < length lows → 1 ≤ number_at n lows highs states i → late_at n lows highs states i ≤ n
  late-within i h some = omega (arith, (link i h some).within, order-few n lows highs states)

  -- What the table is to hold for link i.
  own_code : (i : ℕ) → i < length lows → 1 ≤ number_at n lows highs states i
      → left_code (entry_of n lows highs states (number_at n lows highs states i) (late_at n lows highs states i)) ≡ suc i
  unfolding left_of
  own_code i h some =
      let entry = entry_of n lows highs states (number_at n lows highs states i) (late_at n lows highs states i) in
      let place = entry_place n lows highs states (number_at n lows highs states i) (late_at n lows highs states i) ∙ (link i h some).is_left in
      code-some entry (omega (arith, place, (link i h some).some))
      ∙ ap suc (entry-own n lows highs states can.accepted i h (serving i h some))

  late_is : (i : ℕ) → i < length lows → later_at lows highs places i ≡ late_at n lows highs states i
  late_is i h =
      let t = accepted n lows highs states can.accepted in
      ap₂ max (can.place (get_or lows i 0) (omega (arith, t.ordered i h, t.below i h))) (can.place (get_or highs i 0) (t.below i h))

  early-is : (i : ℕ) → i < length lows → earlier_at lows highs places i ≡ early_at n lows highs states i
  early-is i h =
      let t = accepted n lows highs states can.accepted in
      ap₂ min (can.place (get_or lows i 0) (omega (arith, t.ordered i h, t.below i h))) (can.place (get_or highs i 0) (t.below i h))

  pub left-enters : {table' forests' : List ℕ} (i : ℕ) → i < length lows → LeftTo n k lows highs states i table table'
      → EndsTo n k lows highs states i forests forests' → Enterable n k i lows highs places forests' table'
  left-enters {table'} {forests'} i h at ends =
      let t = accepted n lows highs states can.accepted in
      let late = late_is i h in
      let number = ends.number i (omega arith) h in
      record {
        within = h;
        even = t.even;
        short = omega (arith, t.short);
        room = omega (arith, can.forest_room, ends.long);
        low = omega (arith, t.ordered i h, t.below i h, can.place_room);
        high = omega (arith, t.below i h, can.place_room);
        some = λ p. omega (arith, late, (link i h (omega arith)).under);
        index = λ p q.
            let some : 1 ≤ number_at n lows highs states i = omega arith in
            let room = index-within n k (number_at n lows highs states i) (late_at n lows highs states i) some (omega arith)
            (omega (arith, (link i h some).under)) (late-within i h some) in
            rw (late, number) (omega (arith, at.beyond.long, can.table_room, room));
      }

  module _ {table' : List ℕ} (i : ℕ) (h : i < length lows) (at : LeftTo n k lows highs states i table table') where
    -- A link of no forest or one past the k-th changes nothing.
    passed : (InFirst n k lows highs states i → ⊥) → LeftTo n k lows highs states (i + 1) table table'
    passed p =
        record {
          sound = at.sound;
          full = λ j a b c. at.full j (below j a c (ℕ_discrete j i)) b c;
          beyond = at.beyond;
        }
      where
        below : (j : ℕ) → j < i + 1 → InFirst n k lows highs states j → Dec (j ≡ i) → j < i
        below j a c (yes e) = absurd (p (rw e at c))
        below j a c (no e) = omega arith

    -- Another link has its entry.
    entry : InFirst n k lows highs states i
        → LeftTo n k lows highs states (i + 1) table
        (set table' (left_index n (number_at n lows highs states i) (late_at n lows highs states i)) (suc i))
    entry p =
        record {
          sound = λ f v a b c d q. sound f v a b c d (ℕ_discrete (left_index n f v) at-index) q;
          full = λ j a b c. full j a b c (ℕ_discrete (left_index n (number_at n lows highs states j) (late_at n lows highs states j)) at-index);
          beyond =
              record {
                long = length-set table' at-index (suc i) ∙ at.beyond.long;
                rest = λ j a. get_or-set_other table' at-index j (suc i) 0 (λ e. omega (arith, within)) ∙ at.beyond.rest j a;
              };
        }
      where
        l : LinkFacts (order_of n lows highs states) lows highs i
        l = link i h p.0

        at-index : ℕ
        at-index = left_index n (number_at n lows highs states i) (late_at n lows highs states i)

        within : at-index < k * n
        within = index-within n k (number_at n lows highs states i) (late_at n lows highs states i) p.0 p.1 (omega (arith, l.under)) (late-within i h p.0)

        here : get_or (set table' at-index (suc i)) at-index 0 ≡ suc i
        here = get_or-set_same table' at-index (suc i) 0 (omega (arith, within, at.beyond.long, can.table_room))

        -- What stands at the index of link i, by forest and place.
        same : (f v : ℕ) → 1 ≤ f → 1 ≤ v → v ≤ n → left_index n f v ≡ at-index → left_code (entry_of n lows highs states f v) ≡ suc i
        same f v a c d e =
            let is = index_same n f v (number_at n lows highs states i) (late_at n lows highs states i) a c d p.0 (omega (arith, l.under)) (late-within i h p.0) e in
            ap₂ (λ g x. left_code (entry_of n lows highs states g x)) is.0 is.1 ∙ own_code i h p.0

        sound : (f v : ℕ) → 1 ≤ f → f ≤ k → 1 ≤ v → v ≤ n → Dec (left_index n f v ≡ at-index)
            → 0 < get_or (set table' at-index (suc i)) (left_index n f v) 0
            → get_or (set table' at-index (suc i)) (left_index n f v) 0 ≡ left_code (entry_of n lows highs states f v)
        sound f v a b c d (yes e) q = rw e (here ∙ sym (same f v a c d e))
        sound f v a b c d (no e) q =
            let old = get_or-set_other table' at-index (left_index n f v) (suc i) 0 e in
            old ∙ at.sound f v a b c d (omega (arith, old))

        full : (j : ℕ) → j < i + 1 → j < length lows → InFirst n k lows highs states j
            → Dec (left_index n (number_at n lows highs states j) (late_at n lows highs states j) ≡ at-index)
            → get_or (set table' at-index (suc i)) (left_index n (number_at n lows highs states j) (late_at n lows highs states j)) 0 ≡ suc j
        full j a b c (yes e) =
            let m = link j b c.0 in
            rw e
            (here
            ∙ sym (same (number_at n lows highs states j) (late_at n lows highs states j) c.0 (omega (arith, m.under)) (late-within j b c.0) e)
            ∙ own_code j b c.0)
        full j a b c (no e) =
            get_or-set_other table' at-index (left_index n (number_at n lows highs states j) (late_at n lows highs states j)) (suc i) 0 e
            ∙ at.full j (before (ℕ_discrete j i)) b c
          where
            before : Dec (j ≡ i) → j < i
            before (yes d) = absurd (e (ap (λ x. left_index n (number_at n lows highs states x) (late_at n lows highs states x)) d))
            before (no d) = omega arith

    pub left-moves : {table'' forests' : List ℕ} → EndsTo n k lows highs states i forests forests'
        → table'' ≡ entered n k i lows highs places forests' table' → LeftTo n k lows highs states (i + 1) table table''
    unfolding entered
    left-moves {table''} {forests'} ends e =
        rw (e, late_is i h, ends.number i (omega arith) h)
        (go (dec_le 1 (number_at n lows highs states i)) (dec_le (number_at n lows highs states i) k))
      where
        go : Dec (1 ≤ number_at n lows highs states i) → Dec (number_at n lows highs states i ≤ k)
            → LeftTo n k lows highs states (i + 1) table
            (pick (is_entered k (number_at n lows highs states i))
            (set table' (left_index n (number_at n lows highs states i) (late_at n lows highs states i)) (suc i))
            table')
        go (yes p) (yes q) = rw (is-entered k (number_at n lows highs states i) p q) (entry (p, q))
        go (yes p) (no q) = rw (none-past-entered k (number_at n lows highs states i) (omega arith)) (passed (λ c. q c.1))
        go (no p) q = rw (no-forest-entered k (number_at n lows highs states i) (omega arith)) (passed (λ c. p c.0))

  -- Where link i is entered its forest number gives way to its earlier end.
  pub ends-move : {forests' forests'' : List ℕ} (i : ℕ) → i < length lows → EndsTo n k lows highs states i forests forests'
      → forests'' ≡ end_entered k i lows highs places forests' → EndsTo n k lows highs states (i + 1) forests forests''
  unfolding end_entered
  ends-move {forests'} {forests''} i h at e =
      rw (e, early-is i h, at.number i (omega arith) h)
      (go (dec_le 1 (number_at n lows highs states i)) (dec_le (number_at n lows highs states i) k))
    where
      early : (j : ℕ) → j < i + 1 → j < length lows → InFirst n k lows highs states j → Dec (j ≡ i)
          → get_or (set forests' i (early_at n lows highs states i)) j 0 ≡ early_at n lows highs states j
      early j a b c (yes same) =
          rw same (get_or-set_same forests' i (early_at n lows highs states i) 0 (omega (arith, can.forest_room, at.long)))
      early j a b c (no other) =
          get_or-set_other forests' i j (early_at n lows highs states i) 0 other ∙ at.early j (omega arith) b c

      moved : EndsTo n k lows highs states (i + 1) forests (set forests' i (early_at n lows highs states i))
      moved =
          record {
            early = λ j a b c. early j a b c (ℕ_discrete j i);
            number = λ j a b. get_or-set_other forests' i j (early_at n lows highs states i) 0 (λ same. omega arith) ∙ at.number j (omega arith) b;
            long = length-set forests' i (early_at n lows highs states i) ∙ at.long;
          }

      before : (j : ℕ) → j < i + 1 → InFirst n k lows highs states j → (InFirst n k lows highs states i → ⊥) → Dec (j ≡ i) → j < i
      before j a c none (yes same) = absurd (none (rw same at c))
      before j a c none (no other) = omega arith

      stays : (InFirst n k lows highs states i → ⊥) → EndsTo n k lows highs states (i + 1) forests forests'
      stays none =
          record {
            early = λ j a b c. at.early j (before j a c none (ℕ_discrete j i)) b c;
            number = λ j a b. at.number j (omega arith) b;
            long = at.long;
          }

      go : Dec (1 ≤ number_at n lows highs states i) → Dec (number_at n lows highs states i ≤ k)
          → EndsTo n k lows highs states (i + 1) forests
          (pick (is_entered k (number_at n lows highs states i)) (set forests' i (early_at n lows highs states i)) forests')
      go (yes p) (yes q) = rw (is-entered k (number_at n lows highs states i) p q) moved
      go (yes p) (no q) = rw (none-past-entered k (number_at n lows highs states i) (omega arith)) (stays (λ c. q c.1))
      go (no p) q = rw (no-forest-entered k (number_at n lows highs states i) (omega arith)) (stays (λ c. p c.0))

  pub left-ends : {table' forests' : List ℕ} → LeftTo n k lows highs states (length lows) table table'
      → EndsTo n k lows highs states (length lows) forests forests' → LeftTable n k lows highs states table table' forests'
  left-ends {table'} {forests'} at ends =
      record {
        entry = λ i v a b c d. entry i v a b c d (dec_le (get_or table' (left_index n i v) 0) 0) (dec_le (left_of n lows highs states i v) 0);
        earlier_end = λ l h some few. ends.early l h h (some, few);
        beyond = at.beyond;
      }
    where
      entry : (i v : ℕ) → 1 ≤ i → i ≤ k → 1 ≤ v → v ≤ n → Dec (get_or table' (left_index n i v) 0 ≤ 0) → Dec (left_of n lows highs states i v ≤ 0)
          → get_or table' (left_index n i v) 0 ≡ left_code (entry_of n lows highs states i v)
      entry i v a b c d (no p) q = at.sound i v a b c d (omega arith)
      entry i v a b c d (yes p) (yes q) =
          let place : (entry_of n lows highs states i v).place ≡ 0 = entry_place n lows highs states i v ∙ omega arith in
          omega (arith, code-none (entry_of n lows highs states i v) place)
      entry i v a b c d (yes p) (no q) =
          let l = (entry_of n lows highs states i v).link in
          let w = entry-link n lows highs states can.accepted i v (omega arith) in
          let full = at.full l w.within w.within (omega (arith, w.forest), omega (arith, w.forest)) in
          absurd (omega (arith, ap₂ (λ f x. get_or table' (left_index n f x) 0) w.forest w.later, full))
