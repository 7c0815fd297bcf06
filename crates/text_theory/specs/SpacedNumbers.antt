-- The second pass over a line whose form is kept: the numbers behind spaces from an offset on, one by one, are those that the form
-- gave. Assumes nothing.
use Prim.Native.Nat.{ℕ, zero, suc, ◌+◌, ◌≤◌, ◌<◌}
use Rattle.std.specs.Prelude.{Bool, ◌≡◌, length}
use Rattle.std.proofs.Math.Bool.{true, false}
use mathlib.Core.List.{List, [], ◌∷◌, ◌++◌, append-nil}
use Rattle.std.proofs.Math.Path.{refl, sym, ap}
use Rattle.std.proofs.Common.{◌∙◌, arith, ne_eqb}
use Rattle.std.proofs.Math.Dec.{eqb}
use Rattle.definitions.specs.Outcome.{pick}
use Rattle.definitions.specs.Form.{bytes, Item, word, numeral, Scan, departs, reads, byte_at, scan_word, scan_number, scan_item, with_front, following, scan_more, scan_form}
use Rattle.text_theory.specs.Numbers.{read_number, past_end}
use Rattle.text_theory.specs.Forms.{front-none, following-reads}

-- A number behind a space.
abbrev pub spaced_number : List Item
spaced_number = word (bytes " ") ∷ numeral ∷ []

-- What was read and then what follows; nothing where the text departs.
unfoldable pub read_then : (first : Scan) (next : ℕ → List ℕ) → List ℕ
read_then (departs p) next = []
read_then (reads values p) next = values ++ next p

-- The numbers behind spaces from an offset on, at most `most` of them.
unfoldable pub numbers_at : (text : List ℕ) (p most : ℕ) → List ℕ
numbers_at text p zero = []
numbers_at text p (suc most) = read_then (scan_form text spaced_number p) (λ q. numbers_at text q most)

-- What comes next at an offset.
abbrev pub NoNumber : (text : List ℕ) (p : ℕ) → Type 0
NoNumber text p = (q : ℕ) × (scan_form text spaced_number p ≡ departs q)

abbrev pub ANumber : (text : List ℕ) (p x q : ℕ) → Type 0
ANumber text p x q = scan_form text spaced_number p ≡ reads (x ∷ []) q

module _ (text : List ℕ) where
  pub none-at : (p : ℕ) → NoNumber text p → (most : ℕ) → numbers_at text p most ≡ []
  unfolding numbers_at read_then
  none-at p none zero = refl
  none-at p none (suc most) = rw none.1

  pub one_at : (p x q : ℕ) → ANumber text p x q → (most : ℕ) → numbers_at text p (suc most) ≡ x ∷ numbers_at text q most
  unfolding numbers_at read_then
  one_at p x q one most = rw one

  pub at_none : (p most : ℕ) → most ≡ 0 → numbers_at text p most ≡ []
  unfolding numbers_at
  at_none p most e = rw e

  -- A number behind a space: the space, then the number.
  pub spaced-reads : (p : ℕ) → eqb (byte_at text p) 32 ≡ true → scan_form text spaced_number p ≡ scan_number text (p + 1)
  unfolding scan_word scan_item scan_form following with_front
  spaced-reads p space = rw space (front-none (following (scan_number text (p + 1)) (scan_form text [])) ∙ go (scan_number text (p + 1)))
    where
      go : (scan : Scan) → following scan (scan_form text []) ≡ scan
      go (departs q) = refl
      go (reads values q) = ap (λ (l : List ℕ). reads l q) (append-nil values)

  pub spaced-departs : (p : ℕ) → eqb (byte_at text p) 32 ≡ false → scan_form text spaced_number p ≡ departs p
  unfolding scan_word scan_item scan_form following
  spaced-departs p other = rw other

  -- More numbers, as the form gave them.
  pub more_numbers : (most p : ℕ) (more : List ℕ) (q : ℕ) → scan_more text p most ≡ reads more q → numbers_at text p most ≡ more
  unfolding scan_more numbers_at read_then
  more_numbers zero p more q e = cc
  more_numbers (suc most) p more q e = go (eqb (byte_at text p) 32) refl e (more_numbers most)
    where
      go : (b : Bool) → eqb (byte_at text p) 32 ≡ b
          → pick b (following (scan_number text (p + 1)) (λ s. scan_more text s most)) (reads [] p) ≡ reads more q
          → ((s : ℕ) (later : List ℕ) (t : ℕ) → scan_more text s most ≡ reads later t → numbers_at text s most ≡ later)
          → read_then (scan_form text spaced_number p) (λ s. numbers_at text s most) ≡ more
      go true space f hyp =
          let both = following-reads (scan_number text (p + 1)) (λ s. scan_more text s most) more q f in
          rw (spaced-reads p space, both.first)
          (ap (◌++◌ both.front) (hyp both.behind both.rest q both.second) ∙ sym both.joined)
      go false other f hyp = rw (spaced-departs p other) cc

  -- A number that was read ends behind where it began, within the text.
  pub number_behind : (p : ℕ) (values : List ℕ) (q : ℕ) → scan_form text spaced_number p ≡ reads values q → (p < q) × (q ≤ length text)
  number_behind p values q e = go (eqb (byte_at text p) 32) refl
    where
      go : (b : Bool) → eqb (byte_at text p) 32 ≡ b → (p < q) × (q ≤ length text)
      go true space =
          let number = read_number text (p + 1) values q (sym (spaced-reads p space) ∙ e) in
          (omega (arith, number.part.reaches), number.part.within)
      go false other =
          let no : departs p ≡ reads values q = sym (spaced-departs p other) ∙ e in
          absurd (let z : ◌≡◌ {A = ℕ} 0 1 = cc in omega arith)

  -- No text has as many numbers as bytes: to look for more changes nothing.
  pub numbers-enough : (most more p : ℕ) → length text ≤ p + most → most ≤ more → numbers_at text p most ≡ numbers_at text p more
  unfolding numbers_at read_then
  numbers-enough zero zero p enough h = refl
  numbers-enough zero (suc more) p enough h =
      sym (none-at p (p, spaced-departs p (ne_eqb (byte_at text p) 32 (λ e. omega (arith, past_end text p (omega arith))))) (suc more))
  numbers-enough (suc most) zero p enough h = absurd (omega arith)
  numbers-enough (suc most) (suc more) p enough h =
      go (scan_form text spaced_number p) refl (λ q reached. numbers-enough most more q (omega arith) (omega arith))
    where
      go : (scan : Scan) → scan_form text spaced_number p ≡ scan → ((q : ℕ) → p < q → numbers_at text q most ≡ numbers_at text q more)
          → read_then scan (λ q. numbers_at text q most) ≡ read_then scan (λ q. numbers_at text q more)
      go (departs q) e later = refl
      go (reads values q) e later = ap (◌++◌ values) (later q (number_behind p values q e).0)

  -- The numbers that stand at an offset, all of them: the next one and those behind it.
  pub numbers-next : (p x q : ℕ) → ANumber text p x q → numbers_at text p (length text) ≡ x ∷ numbers_at text q (length text)
  numbers-next p x q one = go (length text) refl (number_behind p (x ∷ []) q one)
    where
      go : (size : ℕ) → length text ≡ size → (p < q) × (q ≤ length text) → numbers_at text p size ≡ x ∷ numbers_at text q size
      go zero e behind = absurd (omega (arith, behind))
      go (suc size) e behind =
          one_at p x q one size ∙ ap (λ (l : List ℕ). x ∷ l) (numbers-enough size (suc size) q (omega (arith, behind)) (omega arith))
