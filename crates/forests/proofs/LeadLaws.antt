-- The laws of the search for the relay that leads: the lowest bit of the highest word that is not 0. Assumes nothing.
use Prim.Native.Nat.{ℕ, ◌+◌, ◌-◌, ◌*◌, ◌%◌, ◌^◌, ◌≤◌, ◌<◌}
use mathlib.Core.Bool.{true, false, true≢false}
use mathlib.Core.List.{List}
use mathlib.Core.Path.{◌≡◌, refl, sym, ◌∙◌, ap}
use native.Mathlib.Decide.{ℕ_discrete, dec_lt, dec_le}
use native.Mathlib.Omega.{arith}
use borrow.Author.Tests.{eqb-true, eq-eqb}
use lib.Count.{count_trailing_zeros}
use lib.ListN.{length, get_or}
use Rattle.lists.specs.Bitmap.{no-bit, bit_of, marked}
use Rattle.lists.specs.LowestBit.{lowest-bit}
use Rattle.forests.specs.Counts.{Heaviest}
use Rattle.forests.specs.Buckets.{word_bits, column_words, column_of, word_in, word_of, slot_of, Buckets, NoneBelow, FirstBit, LowestBit, Leads}
use Rattle.forests.proofs.BucketLaws.{in-word}

pub lowest-relay : (g word : ℕ) → 0 < word → word < 2 ^ 64 → LowestBit g word (g * word_bits + count_trailing_zeros 64 word)
lowest-relay g word some few =
    let low = lowest-bit word some few in
    let s : (g * word_bits + count_trailing_zeros 64 word) % word_bits ≡ count_trailing_zeros 64 word = omega (arith, low.0) in
    record { column = omega (arith, low.0); given = rw s low.1; lowest = rw s low.2 }

module _ (bits : List ℕ) where
  in-zero : (count r : ℕ) → get_or bits (word_in (column_of r) count) 0 ≡ 0 → marked bits (slot_of count r) ≡ false
  in-zero count r e = in-word bits count r ∙ ap (λ (x : ℕ). bit_of x (r % word_bits)) e ∙ no-bit (r % word_bits)

  -- No word of these counts has a bit.
  abbrev pub NoneAbove : ℕ → ℕ → ℕ → Type 0
  NoneAbove columns most count =
      (c r : ℕ) → count < c → c ≤ most → column_of r < columns → marked bits (slot_of c r) ≡ false

  pub none_above : {columns most : ℕ} (count : ℕ) → 0 < count → NoneAbove columns most count → NoneBelow columns count bits
      → NoneAbove columns most (count - 1)
  none_above {columns} {most} count some above none c r more within column = go (ℕ_discrete c count)
    where
      go : Dec (c ≡ count) → marked bits (slot_of c r) ≡ false
      go (yes e) = rw e (in-zero count r (none (column_of r) column))
      go (no e) = above c r (omega arith) within column

  -- Where no bit is set, any relay leads.
  pub none-lead : {columns most : ℕ} (x : ℕ) → NoneAbove columns most 0 → Leads columns most bits x
  none-lead x none = record { leads = λ c r some within column set. absurd (true≢false (sym set ∙ none c r some within column)) }

  -- The first bit in the word of this count, where no bit stands above it.
  pub first-leads : {columns most : ℕ} (count g word x : ℕ) → count ≤ most → NoneAbove columns most count
      → FirstBit columns count bits g → word ≡ get_or bits (word_in g count) 0 → LowestBit g word x → Leads columns most bits x
  first-leads {columns} {most} count g word x within above first e low =
      record {
        leads = λ c r from to column set.
            let under : c ≤ count = no-higher c r to column set in (
              count,
              under,
              within,
              omega (arith, low.column, first.within),
              own,
              λ same. lowest r (rw (← same) at set),
            );
      }
    where
      at_x : get_or bits (word_in (column_of x) count) 0 ≡ word
      at_x = ap (λ (h : ℕ). get_or bits (word_in h count) 0) low.column ∙ sym e

      own : marked bits (slot_of count x) ≡ true
      own = in-word bits count x ∙ ap (λ (w : ℕ). bit_of w (x % word_bits)) at_x ∙ low.given

      no-higher : (c r : ℕ) → c ≤ most → column_of r < columns → marked bits (slot_of c r) ≡ true → c ≤ count
      no-higher c r to column set = go (dec_le c count)
        where
          go : Dec (c ≤ count) → c ≤ count
          go (yes p) = p
          go (no p) = absurd (true≢false (sym set ∙ above c r (omega arith) to column))

      lowest : (r : ℕ) → marked bits (slot_of count r) ≡ true → x ≤ r
      lowest r set = go (dec_le x r)
        where
          at-r : column_of r ≡ g → bit_of word (r % word_bits) ≡ true
          at-r same =
              ap (λ (w : ℕ). bit_of w (r % word_bits)) (e ∙ ap (λ (h : ℕ). get_or bits (word_in h count) 0) (sym same))
              ∙ sym (in-word bits count r)
              ∙ set

          here : r < x → Dec (column_of r < g) → ⊥
          here h (yes p) = true≢false (sym set ∙ in-zero count r (first.none (column_of r) p))
          here h (no p) =
              let same : column_of r ≡ g = omega (arith, low.column) in
              true≢false (sym (at-r same) ∙ low.lowest (r % word_bits) (omega (arith, low.column, same)))

          go : Dec (x ≤ r) → x ≤ r
          go (yes p) = p
          go (no p) = absurd (here (omega arith) (dec_lt (column_of r) g))

-- The relay that leads has the greatest count, and is the lowest with it.
pub leads-heaviest : {counts bits : List ℕ} (columns most x some : ℕ) → Buckets counts bits → Leads columns most bits x
    → most < column_words → columns * column_words ≤ length bits → ((r : ℕ) → columns * word_bits ≤ r → get_or counts r 0 ≡ 0)
    → ((r : ℕ) → get_or counts r 0 ≤ most) → 0 < get_or counts some 0 → Heaviest counts x
unfolding word_of
leads-heaviest {counts} {bits} columns most x some s l few room rest top waits =
    record { most = λ r. above r (dec_lt 0 (get_or counts r 0)); lowest = λ r e. low r e (dec_lt 0 (get_or counts r 0)) }
  where
    column : (r : ℕ) → 0 < get_or counts r 0 → column_of r < columns
    column r h = go (dec_lt (column_of r) columns)
      where
        go : Dec (column_of r < columns) → column_of r < columns
        go (yes p) = p
        go (no p) = absurd (omega (arith, rest r (omega arith)))

    set : (r : ℕ) → 0 < get_or counts r 0 → marked bits (slot_of (get_or counts r 0) r) ≡ true
    set r h =
        s.bit (get_or counts r 0) r h (omega (arith, top r)) (omega (arith, column r h, room))
        ∙ eq-eqb (get_or counts r 0) (get_or counts r 0) refl

    leader : (r : ℕ) → 0 < get_or counts r 0
        → (get_or counts r 0 ≤ get_or counts x 0) × (get_or counts x 0 ≡ get_or counts r 0 → x ≤ r)
    leader r h =
        let w = l.leads (get_or counts r 0) r h (top r) (column r h) (set r h) in
        let d = w.0 in
        let own : get_or counts x 0 ≡ d =
        eqb-true (get_or counts x 0) d
        (sym (s.bit d x (omega (arith, w.1)) (omega (arith, w.2)) (omega (arith, w.3, room))) ∙ w.4) in
        (omega (arith, own, w.1), λ e. w.5 (sym own ∙ e))

    above : (r : ℕ) → Dec (0 < get_or counts r 0) → get_or counts r 0 ≤ get_or counts x 0
    above r (yes h) = (leader r h).0
    above r (no h) = omega arith

    low : (r : ℕ) → get_or counts r 0 ≡ get_or counts x 0 → Dec (0 < get_or counts r 0) → x ≤ r
    low r e (yes h) = (leader r h).1 (sym e)
    low r e (no h) = absurd (omega (arith, (leader some waits).0))
