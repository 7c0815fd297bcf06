-- The laws of the start, when no relay is placed: count by count the first n relays have count 1, and word by word their bits
-- are set in the words of count 1; then relay by relay those that are withdrawn wait no more. Assumes nothing.
use Prim.Native.Nat.{ℕ, suc, ◌+◌, ◌-◌, ◌*◌, ◌%◌, ◌≤◌, ◌<◌, min}
use mathlib.Core.Bool.{Bool, true, false}
use mathlib.Core.List.{List}
use mathlib.Core.Path.{◌≡◌, refl, sym, ◌∙◌, ap}
use native.Mathlib.Decide.{ℕ_discrete, dec_lt}
use native.Mathlib.Omega.{arith}
use borrow.Author.Tests.{eq-eqb, ne_eqb, lt-ltb, le-ltb, ltb-true, ltb-false}
use lib.Dec.{eqb, ltb}
use lib.ListN.{length, get_or, set, length-set}
use lib.Seq.{get_or-set_same, get_or-set_other}
use Rattle.definitions.specs.Outcome.{pick}
use Rattle.definitions.specs.Lists.{table, count}
use Rattle.definitions.specs.Network.{serves}
use Rattle.definitions.specs.Order.{all_relays, serving_relays}
use Rattle.lists.specs.Counting.{length-keep}
use Rattle.lists.specs.Bitmap.{bit_of, marked}
use Rattle.lists.specs.LowestBit.{bit-ones}
use Rattle.forests.specs.Counts.{withdrawn_count, NoneBeyond, AllWait, StartCounts, turns_of}
use Rattle.forests.specs.Buckets.{
  word_bits,
  column_words,
  most_count,
  column_of,
  word_in,
  full_word,
  columns_for,
  slot_of,
  HasColumn,
  Buckets,
  NoBits,
  Filled,
}
use Rattle.forests.proofs.CountLaws.{all-serve}
use Rattle.forests.proofs.BucketLaws.{in-word}

-- The count that relay r begins with.
abbrev begins : (n r : ℕ) → ℕ
begins n r = pick (ltb r n) 1 0

-- The columns below g have their bits, and the others have none.
pub record FilledTo (n g : ℕ) (bits : List ℕ) : Type 0 where
  pub done : (c r : ℕ) → 0 < c → c < column_words → HasColumn bits r → column_of r < g
      → marked bits (slot_of c r) ≡ eqb (begins n r) c
  pub none : (c r : ℕ) → 0 < c → c < column_words → HasColumn bits r → g ≤ column_of r → marked bits (slot_of c r) ≡ false

-- No relay begins with a count above 1.
no-higher : (n c r : ℕ) → 0 < c → (c ≡ 1 → ⊥) → eqb (begins n r) c ≡ false
no-higher n c r some e = go (ltb r n)
  where
    go : (b : Bool) → eqb (pick b 1 0) c ≡ false
    go true = ne_eqb 1 c (λ z. e (sym z))
    go false = ne_eqb 0 c (λ z. omega arith)

-- The columns of n relays are there, before the loop as in it.
pub column-there : (n g : ℕ) (bits bits' : List ℕ) → NoBits n bits → length bits' ≡ length bits → g < columns_for n
    → word_in (g + 1) 0 ≤ length bits'
column-there n g bits bits' s long less = omega (arith, s.room (g * word_bits) (omega arith))

-- The word of count 1 in column g is set.
module _ (n g : ℕ) (bits : List ℕ) (room : word_in (g + 1) 0 ≤ length bits) (f : FilledTo n g bits) where
  abbrev word : ℕ
  word = full_word (n - g * word_bits)

  abbrev after : List ℕ
  after = set bits (word_in g 1) word

  stays : (c r : ℕ) → c < column_words → ((column_of r ≡ g) × (c ≡ 1) → ⊥) → marked after (slot_of c r) ≡ marked bits (slot_of c r)
  stays c r most other =
      in-word after c r
      ∙ ap (λ (w : ℕ). bit_of w (r % word_bits)) (get_or-set_other bits (word_in g 1) (word_in (column_of r) c) word 0 apart)
      ∙ sym (in-word bits c r)
    where
      apart : word_in (column_of r) c ≡ word_in g 1 → ⊥
      apart e = other (omega arith, omega arith)

  own-test : (r : ℕ) → column_of r ≡ g → ltb (r % word_bits) (min (n - g * word_bits) word_bits) ≡ eqb (begins n r) 1
  own-test r column = go (ltb r n) refl
    where
      go : (b : Bool) → ltb r n ≡ b → ltb (r % word_bits) (min (n - g * word_bits) word_bits) ≡ eqb (pick b 1 0) 1
      go true e = lt-ltb (r % word_bits) (min (n - g * word_bits) word_bits) (omega (arith, ltb-true r n e))
      go false e = le-ltb (r % word_bits) (min (n - g * word_bits) word_bits) (omega (arith, ltb-false r n e))

  own : (r : ℕ) → column_of r ≡ g → marked after (slot_of 1 r) ≡ eqb (begins n r) 1
  own r column =
      in-word after 1 r
      ∙ ap (λ (h : ℕ). bit_of (get_or after (word_in h 1) 0) (r % word_bits)) column
      ∙ ap (λ (w : ℕ). bit_of w (r % word_bits)) (get_or-set_same bits (word_in g 1) word 0 (omega arith))
      ∙ bit-ones (min (n - g * word_bits) word_bits) (r % word_bits)
      ∙ own-test r column

  pub fill_more : FilledTo n (g + 1) after
  fill_more =
      record {
        done = λ c r some most h within. done c r some most (shorter r h) within (ℕ_discrete (column_of r) g) (ℕ_discrete c 1);
        none = λ c r some most h beyond.
            stays c r most (λ at. omega (arith, at.0)) ∙ f.none c r some most (shorter r h) (omega arith);
      }
    where
      shorter : (r : ℕ) → HasColumn after r → HasColumn bits r
      shorter r h = omega (arith, length-set bits (word_in g 1) word, h)

      done : (c r : ℕ) → 0 < c → c < column_words → HasColumn bits r → column_of r < g + 1 → Dec (column_of r ≡ g) → Dec (c ≡ 1)
          → marked after (slot_of c r) ≡ eqb (begins n r) c
      done c r some most h within (yes column) (yes one) = rw one (own r column)
      done c r some most h within (yes column) (no e) =
          stays c r most (λ at. e at.1) ∙ f.none c r some most h (omega arith) ∙ sym (no-higher n c r some e)
      done c r some most h within (no e) one = stays c r most (λ at. e at.0) ∙ f.done c r some most h (omega arith)

-- Counts and bits of the start agree.
pub start-buckets : (n : ℕ) (counts bits : List ℕ) → ((r : ℕ) → r < length counts → HasColumn bits r) → AllWait n counts
    → Filled n bits → Buckets counts bits
start-buckets n counts bits room s f =
    record {
      room = room;
      few = λ r. few r (dec_lt r n);
      bit = λ c r some most h. f c r some most h ∙ ap (λ (x : ℕ). eqb x c) (begun r (dec_lt r n));
    }
  where
    few : (r : ℕ) → Dec (r < n) → get_or counts r 0 ≤ most_count
    few r (yes p) = omega (arith, s.waiting r p)
    few r (no p) = omega (arith, s.rest r (omega arith))

    begun : (r : ℕ) → Dec (r < n) → begins n r ≡ get_or counts r 0
    begun r (yes p) = ap (λ (b : Bool). pick b 1 0) (lt-ltb r n p) ∙ sym (s.waiting r p)
    begun r (no p) = ap (λ (b : Bool). pick b 1 0) (le-ltb r n (omega arith)) ∙ sym (s.rest r (omega arith))

-- The counts when the withdrawn relays below r wait no more.
pub record WithdrawnTo (n : ℕ) (states : List ℕ) (r : ℕ) (counts : List ℕ) : Type 0 where
  pub room : n ≤ length counts
  pub before : (q : ℕ) → q < r → get_or counts q 0 ≡ pick (serves states q) 1 0
  pub waiting : (q : ℕ) → r ≤ q → q < n → get_or counts q 0 ≡ 1
  pub rest : NoneBeyond n counts

pub leaves-withdrawn : (r state : ℕ) (counts : List ℕ) {counts' : List ℕ} → state ≡ 0 → counts' ≡ set counts r 0
    → counts' ≡ withdrawn_count r state counts
unfolding withdrawn_count
leaves-withdrawn r state counts e stored = rw (eq-eqb state 0 e) stored

pub serving-stays : (r state : ℕ) (counts : List ℕ) → (state ≡ 0 → ⊥) → counts ≡ withdrawn_count r state counts
unfolding withdrawn_count
serving-stays r state counts e = rw (ne_eqb state 0 e)

-- One relay more: it waits on, or it is withdrawn and waits no more.
module _ (n : ℕ) (states : List ℕ) (r : ℕ) (counts : List ℕ) (below : r < n) (w : WithdrawnTo n states r counts) where
  serving-waits : get_or states r 0 ≡ 1 → WithdrawnTo n states (r + 1) counts
  unfolding serves
  serving-waits state =
      record {
        room = w.room;
        before = λ q h. go q h (ℕ_discrete q r);
        waiting = λ q h. w.waiting q (omega arith);
        rest = w.rest;
      }
    where
      go : (q : ℕ) → q < r + 1 → Dec (q ≡ r) → get_or counts q 0 ≡ pick (serves states q) 1 0
      go q h (yes e) = rw (e, state) (w.waiting r (omega arith) below)
      go q h (no e) = w.before q (omega arith)

  withdrawn-leaves : get_or states r 0 ≡ 0 → WithdrawnTo n states (r + 1) (set counts r 0)
  unfolding serves
  withdrawn-leaves state =
      record {
        room = omega (arith, length-set counts r 0, w.room);
        before = λ q h. go q h (ℕ_discrete q r);
        waiting = λ q h less. other q (λ e. omega arith) ∙ w.waiting q (omega arith) less;
        rest = λ q h. other q (λ e. omega arith) ∙ w.rest q h;
      }
    where
      other : (q : ℕ) → (q ≡ r → ⊥) → get_or (set counts r 0) q 0 ≡ get_or counts q 0
      other q e = get_or-set_other counts r q 0 0 e

      go : (q : ℕ) → q < r + 1 → Dec (q ≡ r) → get_or (set counts r 0) q 0 ≡ pick (serves states q) 1 0
      go q h (yes e) = rw (e, state) (get_or-set_same counts r 0 0 (omega (arith, w.room)))
      go q h (no e) = other q e ∙ w.before q (omega arith)

  pub withdrawn-more : {counts' : List ℕ} → get_or states r 0 ≤ 1 → counts' ≡ withdrawn_count r (get_or states r 0) counts
      → WithdrawnTo n states (r + 1) counts'
  unfolding withdrawn_count
  withdrawn-more {counts'} either stored = rw stored (go (ℕ_discrete (get_or states r 0) 0))
    where
      go : Dec (get_or states r 0 ≡ 0) → WithdrawnTo n states (r + 1) (pick (eqb (get_or states r 0) 0) (set counts r 0) counts)
      go (yes e) = rw (eq-eqb (get_or states r 0) 0 e) (withdrawn-leaves e)
      go (no e) = rw (ne_eqb (get_or states r 0) 0 e) (serving-waits (omega arith))

-- With all relays in service all wait.
pub all-waiting : (n : ℕ) (states counts : List ℕ) → n ≤ turns_of n states → AllWait n counts → StartCounts n states counts
all-waiting n states counts all w =
    record { room = w.room; waiting = λ r h. w.waiting r h ∙ rw (all-serve n states all r h); rest = w.rest }

-- How many of the relays from r on are in service.
unfoldable pub turns_from : (n : ℕ) (states : List ℕ) (r : ℕ) → ℕ
turns_from n states r = count (serves states) (table (λ q. q) r (n - r))

pub turns-all : (n : ℕ) (states : List ℕ) → turns_from n states 0 ≡ turns_of n states
unfolding turns_from serving_relays all_relays
turns-all n states = let all : n - 0 ≡ n = omega arith in rw all (sym (length-keep (serves states) (table (λ q. q) 0 n)))

pub turns-none : (n : ℕ) (states : List ℕ) → turns_from n states n ≡ 0
unfolding turns_from table count
turns-none n states = let none : n - n ≡ 0 = omega arith in rw none

-- Each relay adds its state to them.
pub turns_next : (n : ℕ) (states : List ℕ) (r : ℕ) → r < n → get_or states r 0 ≤ 1
    → turns_from n states r ≡ get_or states r 0 + turns_from n states (r + 1)
unfolding turns_from table count serves
turns_next n states r below either =
    let more : n - r ≡ suc (n - (r + 1)) = omega arith in
    rw more (go (ℕ_discrete (get_or states r 0) 1))
  where
    rest : ℕ
    rest = count (serves states) (table (λ q. q) (r + 1) (n - (r + 1)))

    go : Dec (get_or states r 0 ≡ 1) → pick (eqb (get_or states r 0) 1) 1 0 + rest ≡ get_or states r 0 + rest
    go (yes e) = rw e
    go (no e) = let none : get_or states r 0 ≡ 0 = omega arith in rw none
