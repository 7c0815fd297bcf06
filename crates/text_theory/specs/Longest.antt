-- "the longest now has 54,929 bytes" (document 02, #105): no accepted text is longer, and there is one of that length.
-- Assumes nothing.
use Rattle.std.specs.Prelude.{ℕ, zero, suc, ◌+◌, ◌*◌, ◌/◌, ◌%◌, ◌≤◌, ◌<◌, List, [], ◌∷◌, ◌≡◌, refl, length, get_or, replicate}
use Rattle.std.proofs.Common.{sym, ◌∙◌, ap, zero-add, arith, length-append}
use Rattle.std.proofs.lemmas.List.{length-replicate}
use Rattle.definitions.specs.Lists.{table}
use Rattle.definitions.specs.Network.{Accepted}
use Rattle.definitions.specs.Form.{decimal, write_form}
use Rattle.definitions.specs.Text.{link_form, link_lines, out_lines, text_of}
use Rattle.lists.specs.Tables.{length-table, get_or-table, get_or-zeros}
use Rattle.theory.specs.Accepted.{ProperTable, accepted, accepted-states, accepted-intro}
use Rattle.text_theory.specs.Decimal.{length-decimal-at-most, length-decimal-three, length-decimal-four}
use Rattle.text_theory.specs.Lengths.{length-link, length-text}
use Rattle.text_theory.specs.OutLengths.{outs-short, outs-thousand}

-- Link lines of relay numbers below 1,000 have at most 15 bytes each; with three digits each, exactly 15.
lines-at-most : (lows highs : List ℕ) (i count : ℕ)
    → ((j : ℕ) → j < i + count → (get_or lows j 0 < 1000) × (get_or highs j 0 < 1000))
    → length (link_lines lows highs i count) ≤ 15 * count
unfolding link_lines
lines-at-most lows highs i zero small = omega arith
lines-at-most lows highs i (suc count) small =
    let a = get_or lows i 0 in
    let b = get_or highs i 0 in
    let here = small i (omega arith) in
    omega (
      arith,
      length-append (write_form link_form (a ∷ b ∷ [])) (link_lines lows highs (i + 1) count),
      length-link a b,
      length-decimal-at-most 2 a here.0,
      length-decimal-at-most 2 b here.1,
      lines-at-most lows highs (i + 1) count (λ j h. small j (omega arith)),
    )

lines-exactly : (lows highs : List ℕ) (i count : ℕ)
    → ((j : ℕ) → j < i + count → (100 ≤ get_or lows j 0) × (get_or lows j 0 < 1000) × (100 ≤ get_or highs j 0) × (get_or highs j 0 < 1000))
    → length (link_lines lows highs i count) ≡ 15 * count
unfolding link_lines
lines-exactly lows highs i zero three = refl
lines-exactly lows highs i (suc count) three =
    let a = get_or lows i 0 in
    let b = get_or highs i 0 in
    let here = three i (omega arith) in
    omega (
      arith,
      length-append (write_form link_form (a ∷ b ∷ [])) (link_lines lows highs (i + 1) count),
      length-link a b,
      length-decimal-three a here.0 here.1,
      length-decimal-three b here.2 here.3,
      lines-exactly lows highs (i + 1) count (λ j h. three j (omega arith)),
    )

pub longest : (n : ℕ) (lows highs states : List ℕ) → Accepted n lows highs states → length (text_of n lows highs states) ≤ 54929
longest n lows highs states check =
    let proper = accepted n lows highs states check in
    let few = proper.few in
    let long = (accepted-states n lows highs states check).long in
    let m = length lows in
    let small : (j : ℕ) → j < 0 + m → (get_or lows j 0 < 1000) × (get_or highs j 0 < 1000) = λ j h.
    let within : j < m = omega arith in
    let ordered = proper.ordered j within in
    let below = proper.below j within in
    (omega arith, omega arith) in
    omega (
      arith,
      length-text n lows highs states,
      length-decimal-at-most 3 n (omega arith),
      length-decimal-at-most 3 m (omega (arith, proper.short)),
      lines-at-most lows highs 0 m small,
      proper.short,
      outs-short states (omega arith),
    )

-- A network with a text of that length, all its relays withdrawn: the links of 100 to 199 with 200, then those with 201, and so on;
-- of all these the first `count`.
unfoldable pub wide_lows : ℕ → List ℕ
wide_lows count = table (λ i. 100 + i % 100) 0 count

unfoldable pub wide_highs : ℕ → List ℕ
wide_highs count = table (λ i. 200 + i / 100) 0 count

wide_low : (count i : ℕ) → i < count → get_or (wide_lows count) i 0 ≡ 100 + i % 100
unfolding wide_lows
wide_low count i h =
    get_or-table (λ i. 100 + i % 100) 0 count i 0 h ∙ ap (λ (j : ℕ). 100 + j % 100) (zero-add i)

wide_high : (count i : ℕ) → i < count → get_or (wide_highs count) i 0 ≡ 200 + i / 100
unfolding wide_highs
wide_high count i h =
    get_or-table (λ i. 200 + i / 100) 0 count i 0 h ∙ ap (λ (j : ℕ). 200 + j / 100) (zero-add i)

wide-lows : (count : ℕ) → length (wide_lows count) ≡ count
unfolding wide_lows
wide-lows count = length-table (λ i. 100 + i % 100) 0 count

wide-highs : (count : ℕ) → length (wide_highs count) ≡ count
unfolding wide_highs
wide-highs count = length-table (λ i. 200 + i / 100) 0 count

wide-proper : (count : ℕ) → count ≤ 3000 → ProperTable 1000 (wide_lows count) (wide_highs count)
wide-proper count short =
    record {
      some = omega arith;
      few = omega arith;
      even = wide-lows count ∙ sym (wide-highs count);
      short = omega (arith, wide-lows count);
      ordered = λ i h. let k = inside i h in omega (arith, wide_low count i k, wide_high count i k);
      below = λ i h. let k = inside i h in omega (arith, wide_high count i k);
      once = λ i j p q e f.
          let k = inside j q in
          let l : i < count = omega arith in
          omega (arith, wide_low count i l, wide_high count i l, wide_low count j k, wide_high count j k);
    }
  where
    inside : (i : ℕ) → i < length (wide_lows count) → i < count
    inside i h = omega (arith, wide-lows count)

wide-digits : (count i : ℕ) → count ≤ 3000 → i < 0 + count
    → (100 ≤ get_or (wide_lows count) i 0) × (get_or (wide_lows count) i 0 < 1000)
    × (100 ≤ get_or (wide_highs count) i 0) × (get_or (wide_highs count) i 0 < 1000)
wide-digits count i short h =
    let k : i < count = omega arith in
    let low = wide_low count i k in
    let high = wide_high count i k in
    (omega arith, omega arith, omega arith, omega arith)

pub wide-accepted : Accepted 1000 (wide_lows 3000) (wide_highs 3000) (replicate 1000 0)
wide-accepted =
    accepted-intro 1000 (wide_lows 3000) (wide_highs 3000) (replicate 1000 0) (wide-proper 3000 (omega arith))
    (record { long = length-replicate {A = ℕ} 1000 0; either = λ r h. omega (arith, get_or-zeros 1000 r) })

pub longest-reached : length (text_of 1000 (wide_lows 3000) (wide_highs 3000) (replicate 1000 0)) ≡ 54929
longest-reached =
    let lows = wide_lows 3000 in
    let highs = wide_highs 3000 in
    let states : List ℕ = replicate 1000 0 in
    let lines : length (link_lines lows highs 0 (length lows)) ≡ 15 * 3000 =
    rw (wide-lows 3000) (lines-exactly lows highs 0 3000 (λ i. wide-digits 3000 i (omega arith))) in
    let count : length (decimal (length lows)) ≡ 4 =
    rw (wide-lows 3000) (length-decimal-four 3000 (omega arith) (omega arith)) in
    let outs : length (out_lines states 0 (length states)) ≡ 9890 =
    rw (length-replicate {A = ℕ} 1000 0) outs-thousand in
    omega (arith, length-text 1000 lows highs states, length-decimal-four 1000 (omega arith) (omega arith))
