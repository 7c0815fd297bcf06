-- The laws of the waiting relays by their count: what a change of one count does to the bits. Assumes nothing.
use Prim.Native.Nat.{ℕ, zero, suc, ◌+◌, ◌*◌, ◌/◌, ◌%◌, ◌^◌, ◌≤◌, ◌<◌}
use mathlib.Core.Bool.{Bool, true, false, not, ◌||◌, or-false, or-true}
use mathlib.Core.List.{List}
use mathlib.Core.Logic.{◌≢◌}
use mathlib.Core.Path.{◌≡◌, refl, sym, ◌∙◌, ap, ap₂}
use native.Mathlib.Decide.{ℕ_discrete}
use native.Mathlib.Omega.{arith}
use borrow.Author.Tests.{eq-eqb, ne_eqb}
use lib.Bits.{bit_or, bit_xor, or_zero_r, xor_zero_r}
use lib.Dec.{eqb}
use lib.ListN.{length, get_or, set, replicate, length-set, length-replicate}
use lib.Seq.{get_or-set_same, get_or-set_other, set-get_or}
use Rattle.definitions.specs.Outcome.{pick}
use Rattle.lists.specs.Bitmap.{bit_of, marked, mark, flip, marked-none, marked-mark, length-mark, flip-same, flip-other, length-flip, one_bit}
use Rattle.forests.specs.Counts.{raised_count}
use Rattle.forests.specs.Buckets.{
  word_bits,
  column_words,
  most_count,
  column_of,
  columns_for,
  word_in,
  waits_for,
  bit_for,
  word_of,
  slot_of,
  HasColumn,
  Buckets,
  NoBits,
  Moved,
}
use Rattle.forests.proofs.CountLaws.{raised-none, raised-some}

-- Each relay has a bit of its own for each count.
slot_same : (c r d q : ℕ) → c < column_words → d < column_words → slot_of c r ≡ slot_of d q → (c ≡ d) × (r ≡ q)
unfolding slot_of word_of
slot_same c r d q a b e = omega arith

slot-word : (c r : ℕ) → slot_of c r / word_bits ≡ word_of c r
unfolding slot_of
slot-word c r = omega arith

slot-bit : (c r : ℕ) → slot_of c r % word_bits ≡ r % word_bits
unfolding slot_of
slot-bit c r = omega arith

-- The word of count c changed with the bit of r, which is none if r is placed.
module _ (op : ℕ → ℕ → ℕ) (bits : List ℕ) (c r count : ℕ) where
  abbrev changed : List ℕ
  changed = set bits (word_of c r) (op (get_or bits (word_of c r) 0) (bit_for count r))

  changed-none : ((x : ℕ) → op x 0 ≡ x) → count ≡ 0 → changed ≡ bits
  changed-none by_zero e =
      ap (λ (b : Bool). set bits (word_of c r) (op (get_or bits (word_of c r) 0) (pick b 0 (2 ^ (r % word_bits))))) (eq-eqb count 0 e)
      ∙ ap (set bits (word_of c r)) (by_zero (get_or bits (word_of c r) 0))
      ∙ set-get_or bits (word_of c r) 0

  changed-some : 0 < count → let slot = slot_of c r in
      changed ≡ set bits (slot / word_bits) (op (get_or bits (slot / word_bits) 0) (2 ^ (slot % word_bits)))
  changed-some h =
      ap (λ (b : Bool). set bits (word_of c r) (op (get_or bits (word_of c r) 0) (pick b 0 (2 ^ (r % word_bits))))) (ne_eqb count 0 (λ e. omega arith))
      ∙ ap (λ (at : ℕ). set bits at (op (get_or bits at 0) (2 ^ (r % word_bits)))) (sym (slot-word c r))
      ∙ ap (λ (s : ℕ). set bits (slot_of c r / word_bits) (op (get_or bits (slot_of c r / word_bits) 0) (2 ^ s))) (sym (slot-bit c r))

  -- In the code's terms.
  changes : (at bit : ℕ) → at ≡ word_of c r → bit ≡ bit_for count r → set bits at (op (get_or bits at 0) bit) ≡ changed
  changes at bit a b = ap₂ (λ (i x : ℕ). set bits i (op (get_or bits i 0) x)) a b

flipped-some : (bits : List ℕ) (c r count : ℕ) → 0 < count → changed bit_xor bits c r count ≡ flip bits (slot_of c r)
unfolding flip
flipped-some = changed-some bit_xor

entered-some : (bits : List ℕ) (c r count : ℕ) → 0 < count → changed bit_or bits c r count ≡ mark bits (slot_of c r)
unfolding mark
entered-some = changed-some bit_or

-- One for a relay that waits, and its bit, as the code makes them.
pub waits-none : (count : ℕ) → count ≡ 0 → 0 ≡ waits_for count
waits-none count e = rw (eq-eqb count 0 e)

pub waits-some : (count : ℕ) → count ≢ 0 → 1 ≡ waits_for count
waits-some count e = rw (ne_eqb count 0 e)

pub bit-of : (count r one : ℕ) → one ≡ waits_for count → one * 2 ^ (r % word_bits) % 2 ^ 64 ≡ bit_for count r
bit-of count r one e = ap (λ (x : ℕ). x * 2 ^ (r % word_bits) % 2 ^ 64) e ∙ go (eqb count 0)
  where
    go : (none : Bool) → pick none 0 1 * 2 ^ (r % word_bits) % 2 ^ 64 ≡ pick none 0 (2 ^ (r % word_bits))
    go true = omega arith
    go false = one_bit r

-- The bit of a relay stands in its column's word.
pub in-word : (bits : List ℕ) (count r : ℕ)
    → marked bits (slot_of count r) ≡ bit_of (get_or bits (word_in (column_of r) count) 0) (r % word_bits)
unfolding marked word_of
in-word bits count r = rw (slot-word count r, slot-bit count r)

-- Words of zeros have no bit.
pub no_bits : (words size : ℕ) (bits : List ℕ) → bits ≡ replicate words 0 → columns_for size * column_words ≤ words → NoBits size bits
unfolding word_of
no_bits words size bits e room =
    record {
      room = λ r h. omega (arith, long);
      none = λ c r some most h.
          ap (λ (l : List ℕ). marked l (slot_of c r)) e ∙ marked-none words (slot_of c r) (omega (arith, long, slot-word c r));
    }
  where
    long : length bits ≡ words
    long = ap length e ∙ length-replicate {A = ℕ} words 0

-- The count of r is changed, and its bits with it.
module _ {counts bits : List ℕ} (r : ℕ) (below : r < length counts) (s : Buckets counts bits) where
  moved : (count : ℕ) (bits' : List ℕ) → count ≤ most_count → length bits' ≡ length bits
      → ((c q : ℕ) → 0 < c → c < column_words → HasColumn bits q → q ≢ r → marked bits' (slot_of c q) ≡ marked bits (slot_of c q))
      → ((c : ℕ) → 0 < c → c < column_words → marked bits' (slot_of c r) ≡ eqb count c)
      → Moved r count counts (set counts r count) bits'
  moved count bits' few long others own =
      record {
        stored = refl;
        sorted =
            record {
              room = λ q h. omega (arith, long, s.room q (omega (arith, length-set counts r count, h)));
              few = λ q. fewer q (ℕ_discrete q r);
              bit = λ c q some most h. bit c q some most (omega (arith, long, h)) (ℕ_discrete q r);
            };
      }
    where
      fewer : (q : ℕ) → Dec (q ≡ r) → get_or (set counts r count) q 0 ≤ most_count
      fewer q (yes e) = rw (e, get_or-set_same counts r count 0 below) few
      fewer q (no e) = rw (get_or-set_other counts r q count 0 e) (s.few q)

      bit : (c q : ℕ) → 0 < c → c < column_words → HasColumn bits q → Dec (q ≡ r)
          → marked bits' (slot_of c q) ≡ eqb (get_or (set counts r count) q 0) c
      bit c q some most h (yes e) = rw (e, get_or-set_same counts r count 0 below) (own c some most)
      bit c q some most h (no e) =
          rw (get_or-set_other counts r q count 0 e) (others c q some most h e ∙ s.bit c q some most h)

  -- One bit of r flipped: no other relay's bit changes, and of its own that of this count alone.
  flip-others : (bits' : List ℕ) (k c q : ℕ) → k < column_words → c < column_words → q ≢ r
      → marked (flip bits' (slot_of k r)) (slot_of c q) ≡ marked bits' (slot_of c q)
  flip-others bits' k c q a b e = flip-other bits' (slot_of k r) (slot_of c q) (λ z. e (slot_same c q k r b a z).1)

  flip-own : (bits' : List ℕ) (k c : ℕ) → k < column_words → c < column_words → (c ≡ k → ⊥)
      → marked (flip bits' (slot_of k r)) (slot_of c r) ≡ marked bits' (slot_of c r)
  flip-own bits' k c a b e = flip-other bits' (slot_of k r) (slot_of c r) (λ z. e (slot_same c r k r b a z).0)

  flip-it : (bits' : List ℕ) (k : ℕ) → k < column_words → length bits' ≡ length bits
      → marked (flip bits' (slot_of k r)) (slot_of k r) ≡ not (marked bits' (slot_of k r))
  unfolding word_of
  flip-it bits' k h long = flip-same bits' (slot_of k r) (omega (arith, slot-word k r, long, s.room r below))

  own-bit : (c : ℕ) → 0 < c → c < column_words → marked bits (slot_of c r) ≡ eqb (get_or counts r 0) c
  own-bit c some most = s.bit c r some most (s.room r below)

  -- The bits of r with that of count k flipped, by whether the count is k.
  module _ (k : ℕ) (some : 0 < k) (most : k < column_words) where
    own-it : marked (flip bits (slot_of k r)) (slot_of k r) ≡ not (eqb (get_or counts r 0) k)
    own-it = flip-it bits k most refl ∙ ap not (own-bit k some most)

    own-other : (c : ℕ) → 0 < c → c < column_words → (c ≡ k → ⊥) → marked (flip bits (slot_of k r)) (slot_of c r) ≡ eqb (get_or counts r 0) c
    own-other c from to e = flip-own bits k c most to e ∙ own-bit c from to

  -- r is placed.
  pub leave-moves : (count at bit : ℕ) (bits' : List ℕ) → count ≡ get_or counts r 0 → at ≡ word_of count r
      → bit ≡ bit_for count r → bits' ≡ set bits at (bit_xor (get_or bits at 0) bit)
      → Moved r 0 counts (set counts r 0) bits'
  leave-moves zero at bit bits' e a b t =
      rw (t ∙ changes bit_xor bits 0 r 0 at bit a b ∙ changed-none bit_xor bits 0 r 0 xor_zero_r refl)
      (moved 0 bits (omega arith) refl (λ c q some most h d. refl)
      (λ c some most. own-bit c some most ∙ ap (λ (x : ℕ). eqb x c) (sym e)))
  leave-moves (suc k) at bit bits' e a b t =
      rw (t ∙ changes bit_xor bits (suc k) r (suc k) at bit a b ∙ flipped-some bits (suc k) r (suc k) (omega arith))
      (moved 0 (flip bits (slot_of (suc k) r)) (omega arith) (length-flip bits (slot_of (suc k) r))
      (λ c q some most h d. flip-others bits (suc k) c q few most d)
      (λ c some most. own c some most (ℕ_discrete c (suc k))))
    where
      few : suc k < column_words
      few = omega (arith, e, s.few r)

      own : (c : ℕ) → 0 < c → c < column_words → Dec (c ≡ suc k) → marked (flip bits (slot_of (suc k) r)) (slot_of c r) ≡ eqb 0 c
      own c some most (yes d) =
          rw d (own-it (suc k) (omega arith) few ∙ ap not (eq-eqb (get_or counts r 0) (suc k) (sym e)))
          ∙ sym (ne_eqb 0 c (λ z. omega arith))
      own c some most (no d) =
          own-other (suc k) (omega arith) few c some most d
          ∙ ne_eqb (get_or counts r 0) c (λ z. d (sym z ∙ sym e))
          ∙ sym (ne_eqb 0 c (λ z. omega arith))

  -- One bit of r set: the same, and its own is set whatever it was.
  module _ (bits' : List ℕ) (k : ℕ) (few : k < column_words) (long : length bits' ≡ length bits) where
    there : slot_of k r / 64 < length bits'
    unfolding word_of
    there = omega (arith, slot-word k r, long, s.room r below)

    enter-elsewhere : (p : ℕ) → (p ≡ slot_of k r → ⊥) → marked (mark bits' (slot_of k r)) p ≡ marked bits' p
    enter-elsewhere p e =
        marked-mark bits' (slot_of k r) p there ∙ ap (λ (b : Bool). marked bits' p || b) (ne_eqb p (slot_of k r) e) ∙ or-false (marked bits' p)

    enter-others : (c q : ℕ) → c < column_words → q ≢ r → marked (mark bits' (slot_of k r)) (slot_of c q) ≡ marked bits' (slot_of c q)
    enter-others c q b e = enter-elsewhere (slot_of c q) (λ z. e (slot_same c q k r b few z).1)

    enter-own : (c : ℕ) → c < column_words → (c ≡ k → ⊥) → marked (mark bits' (slot_of k r)) (slot_of c r) ≡ marked bits' (slot_of c r)
    enter-own c b e = enter-elsewhere (slot_of c r) (λ z. e (slot_same c r k r b few z).0)

    enter-it : marked (mark bits' (slot_of k r)) (slot_of k r) ≡ true
    enter-it =
        marked-mark bits' (slot_of k r) (slot_of k r) there
        ∙ ap (λ (b : Bool). marked bits' (slot_of k r) || b) (eq-eqb (slot_of k r) (slot_of k r) refl)
        ∙ or-true (marked bits' (slot_of k r))

  -- r has one more link to a placed relay.
  pub raise-moves : (count at bit : ℕ) (bits₁ bits₂ : List ℕ) → count ≡ get_or counts r 0 → count < most_count → at ≡ word_of count r
      → bit ≡ bit_for count r → bits₁ ≡ set bits at (bit_xor (get_or bits at 0) bit)
      → bits₂ ≡ set bits₁ (at + 1) (bit_or (get_or bits₁ (at + 1) 0) bit)
      → Moved r (raised_count count) counts (set counts r (raised_count count)) bits₂
  unfolding word_of
  raise-moves zero at bit bits₁ bits₂ e few a b t u =
      rw (raised-none 0 refl, second ∙ first)
      (moved 0 bits (omega arith) refl (λ c q some most h d. refl)
      (λ c some most. own-bit c some most ∙ ap (λ (x : ℕ). eqb x c) (sym e)))
    where
      first : bits₁ ≡ bits
      first = t ∙ changes bit_xor bits 0 r 0 at bit a b ∙ changed-none bit_xor bits 0 r 0 xor_zero_r refl

      second : bits₂ ≡ bits₁
      second = u ∙ changes bit_or bits₁ 1 r 0 (at + 1) bit (omega (arith, a)) b ∙ changed-none bit_or bits₁ 1 r 0 or_zero_r refl
  raise-moves (suc k) at bit bits₁ bits₂ e few a b t u =
      rw (raised-some (suc k) (omega arith), second)
      (moved (suc k + 1) after (omega arith) (length-mark before (slot_of (suc k + 1) r) ∙ long)
      (λ c q some most h d.
      enter-others before (suc k + 1) (omega arith) long c q most d ∙ flip-others bits (suc k) c q (omega arith) most d)
      (λ c some most. own c some most (ℕ_discrete c (suc k + 1)) (ℕ_discrete c (suc k))))
    where
      before : List ℕ
      before = flip bits (slot_of (suc k) r)

      long : length before ≡ length bits
      long = length-flip bits (slot_of (suc k) r)

      after : List ℕ
      after = mark before (slot_of (suc k + 1) r)

      first : bits₁ ≡ before
      first = t ∙ changes bit_xor bits (suc k) r (suc k) at bit a b ∙ flipped-some bits (suc k) r (suc k) (omega arith)

      second : bits₂ ≡ after
      second =
          u
          ∙ changes bit_or bits₁ (suc k + 1) r (suc k) (at + 1) bit (omega (arith, a)) b
          ∙ entered-some bits₁ (suc k + 1) r (suc k) (omega arith)
          ∙ ap (λ (l : List ℕ). mark l (slot_of (suc k + 1) r)) first

      own : (c : ℕ) → 0 < c → c < column_words → Dec (c ≡ suc k + 1) → Dec (c ≡ suc k) → marked after (slot_of c r) ≡ eqb (suc k + 1) c
      own c some most (yes d) g =
          rw d (enter-it before (suc k + 1) (omega arith) long ∙ sym (eq-eqb (suc k + 1) (suc k + 1) refl))
      own c some most (no d) (yes g) =
          enter-own before (suc k + 1) (omega arith) long c most d
          ∙ rw g (own-it (suc k) (omega arith) (omega arith) ∙ ap not (eq-eqb (get_or counts r 0) (suc k) (sym e)))
          ∙ sym (ne_eqb (suc k + 1) c (λ z. d (sym z)))
      own c some most (no d) (no g) =
          enter-own before (suc k + 1) (omega arith) long c most d
          ∙ own-other (suc k) (omega arith) (omega arith) c some most g
          ∙ ne_eqb (get_or counts r 0) c (λ z. g (sym z ∙ sym e))
          ∙ sym (ne_eqb (suc k + 1) c (λ z. d (sym z)))
