-- The first pass over a sheet's text, turn by turn and part by part. Assumes nothing.
use Prim.Native.Nat.{ℕ, zero, suc, ◌+◌, ◌-◌, ◌<◌}
use mathlib.Core.Bool.{Bool, true, false}
use mathlib.Core.List.{List, [], ◌∷◌}
use mathlib.Core.Path.{◌≡◌, refl, sym, ◌∙◌, ap, fun_ext}
use native.Mathlib.Numerals.{add-one}
use native.Mathlib.Omega.{arith}
use lib.Dec.{eqb}
use lib.ListN.{length}
use borrow.Author.Tests.{eq-eqb, ne_eqb}
use Rattle.definitions.specs.Outcome.{pick}
use Rattle.definitions.specs.Form.{bytes, Item, word, numeral, Scan, departs, reads, byte_at, scan_word, scan_number, with_front, following, scan_form, scan_more}
use Rattle.definitions.specs.SheetForm.{route_front, over_front, line_end, scan_numbers}
use Rattle.text_theory.specs.SpacedNumbers.{spaced_number}
use Rattle.text.specs.ItemByItem.{form-word}
use Rattle.program.specs.Parts.{form-append}
use Rattle.verify.specs.Offsets.{after, behind, rest_of_line, two_lines, count_lines}

-- The front of a route line up to its first relay.
abbrev pub first_relay : List Item
first_relay = word (bytes "(route ") ∷ numeral ∷ []

-- Readings without their numbers.
behind-front : (front : List ℕ) (scan : Scan) → behind (with_front front scan) ≡ behind scan
unfolding behind after with_front
behind-front front (departs p) = refl
behind-front front (reads values p) = refl

behind-following : (scan : Scan) (next : ℕ → Scan) → behind (following scan next) ≡ after scan (λ p. behind (next p))
unfolding behind after following
behind-following (departs p) next = refl
behind-following (reads values p) next = behind-front values (next p)

pub after-departs : (scan : Scan) (next : ℕ → Scan) (p : ℕ) → behind scan ≡ departs p → after scan next ≡ departs p
unfolding behind after
after-departs (departs q) next p e = e
after-departs (reads values q) next p e = let z : ◌≡◌ {A = ℕ} 0 1 = cc in absurd (omega arith)

pub after-reads : (scan : Scan) (next : ℕ → Scan) (p : ℕ) → behind scan ≡ reads [] p → after scan next ≡ next p
unfolding behind after
after-reads (departs q) next p e = let z : ◌≡◌ {A = ℕ} 0 1 = cc in absurd (omega arith)
after-reads (reads values q) next p e = let same : q ≡ p = cc in ap next same

-- A word has no numbers.
pub word-plain : (text w : List ℕ) (p : ℕ) → behind (scan_word text w p) ≡ scan_word text w p
unfolding scan_word behind after
word-plain text [] p = refl
word-plain text (b ∷ w) p = go (eqb (byte_at text p) b) (word-plain text w (p + 1))
  where
    go : (t : Bool) → behind (scan_word text w (p + 1)) ≡ scan_word text w (p + 1)
        → behind (pick t (scan_word text w (p + 1)) (departs p)) ≡ pick t (scan_word text w (p + 1)) (departs p)
    go true hyp = hyp
    go false hyp = refl

-- More numbers: a turn that finds no space, one that departs, one that reads, and none left.
module _ (text : List ℕ) where
  pub more-stops : (p left : ℕ) → (byte_at text p ≡ 32 → ⊥) → behind (scan_more text p left) ≡ reads [] p
  unfolding scan_more behind after
  more-stops p zero differ = refl
  more-stops p (suc left) differ = rw (ne_eqb (byte_at text p) 32 differ)

  pub more-departs : (p left q : ℕ) → 0 < left → byte_at text p ≡ 32 → scan_number text (p + 1) ≡ departs q
      → behind (scan_more text p left) ≡ departs q
  unfolding scan_more behind after following
  more-departs p zero q some space e = absurd (omega arith)
  more-departs p (suc left) q some space e = rw (eq-eqb (byte_at text p) 32 space, e)

  pub more-step : (p left : ℕ) (values : List ℕ) (q : ℕ) → 0 < left → byte_at text p ≡ 32 → scan_number text (p + 1) ≡ reads values q
      → behind (scan_more text p left) ≡ behind (scan_more text q (left - 1))
  unfolding scan_more following
  more-step p zero values q some space e = absurd (omega arith)
  more-step p (suc left) values q some space e =
      let same : suc left - 1 ≡ left = omega arith in
      rw (eq-eqb (byte_at text p) 32 space, e, same) (behind-front values (scan_more text q left))

  pub more-ends : (p left : ℕ) → left ≡ 0 → behind (scan_more text p left) ≡ reads [] p
  unfolding scan_more behind after
  more-ends p left e = rw e

  -- A line of numbers: its front, and what is left of it.
  rest-behind : (scan : Scan) → behind (following scan (scan_form text line_end)) ≡ after scan (scan_form text line_end)
  unfolding line_end following after behind
  rest-behind (departs p) = refl
  rest-behind (reads values p) =
      behind-front values (scan_form text line_end p)
      ∙ ap behind (form-word text (bytes ")\n") p)
      ∙ word-plain text (bytes ")\n") p
      ∙ sym (form-word text (bytes ")\n") p)

  rest_of : (p : ℕ) → behind (following (scan_more text p (length text)) (scan_form text line_end)) ≡ rest_of_line text p
  unfolding rest_of_line
  rest_of p = rest-behind (scan_more text p (length text))

  numbers-behind : (front : List Item) (p : ℕ) → behind (scan_numbers text front p) ≡ after (scan_form text front p) (rest_of_line text)
  unfolding scan_numbers
  numbers-behind front p =
      behind-following (scan_form text front p) (λ q. following (scan_more text q (length text)) (scan_form text line_end))
      ∙ ap (after (scan_form text front p)) (fun_ext rest_of)

  -- A route line: the word with the first relay, the second relay, and the rest.
  pub route-parts : (p : ℕ) → scan_form text route_front p ≡ following (scan_form text first_relay p) (scan_form text spaced_number)
  unfolding route_front
  route-parts p = form-append text first_relay spaced_number p

  pub route-departs : (p q : ℕ) → scan_form text first_relay p ≡ departs q → behind (scan_numbers text route_front p) ≡ departs q
  unfolding following after
  route-departs p q e = numbers-behind route_front p ∙ rw (route-parts p, e)

  pub route-departs-later : (p : ℕ) (values : List ℕ) (s q : ℕ) → scan_form text first_relay p ≡ reads values s
      → scan_form text spaced_number s ≡ departs q → behind (scan_numbers text route_front p) ≡ departs q
  unfolding following with_front after
  route-departs-later p values s q e f = numbers-behind route_front p ∙ rw (route-parts p, e, f)

  pub route-reads : (p : ℕ) (values : List ℕ) (s : ℕ) (more : List ℕ) (q : ℕ) → scan_form text first_relay p ≡ reads values s
      → scan_form text spaced_number s ≡ reads more q → behind (scan_numbers text route_front p) ≡ rest_of_line text q
  unfolding following with_front after
  route-reads p values s more q e f = numbers-behind route_front p ∙ rw (route-parts p, e, f)

  -- An over line: the word with the first link, and the rest.
  pub over-departs : (p q : ℕ) → scan_form text over_front p ≡ departs q → behind (scan_numbers text over_front p) ≡ departs q
  unfolding after
  over-departs p q e = numbers-behind over_front p ∙ rw e

  pub over_reads : (p : ℕ) (values : List ℕ) (q : ℕ) → scan_form text over_front p ≡ reads values q
      → behind (scan_numbers text over_front p) ≡ rest_of_line text q
  unfolding after
  over_reads p values q e = numbers-behind over_front p ∙ rw e

  -- Both lines of a route.
  pub two-departs : (p q : ℕ) → behind (scan_numbers text route_front p) ≡ departs q → two_lines text p ≡ departs q
  unfolding two_lines
  two-departs p q e = after-departs (scan_numbers text route_front p) _ q e

  pub two-departs-later : (p s q : ℕ) → behind (scan_numbers text route_front p) ≡ reads [] s
      → behind (scan_numbers text over_front s) ≡ departs q → two_lines text p ≡ departs q
  unfolding two_lines
  two-departs-later p s q e f =
      after-reads (scan_numbers text route_front p) _ s e ∙ after-departs (scan_numbers text over_front s) _ q f

  pub two-reads : (p s q : ℕ) → behind (scan_numbers text route_front p) ≡ reads [] s
      → behind (scan_numbers text over_front s) ≡ reads [] q → two_lines text p ≡ reads (s ∷ []) q
  unfolding two_lines
  two-reads p s q e f =
      after-reads (scan_numbers text route_front p) _ s e ∙ after-reads (scan_numbers text over_front s) _ q f

  -- The lines of all the routes, turn by turn.
  pub count-stops : (count p left : ℕ) → eqb (byte_at text (p + 1)) 114 ≡ false → count_lines text count p left ≡ reads (count ∷ []) p
  unfolding count_lines
  count-stops count p zero e = refl
  count-stops count p (suc left) e = rw e

  pub count-departs : (count p left q : ℕ) → 0 < left → eqb (byte_at text (p + 1)) 114 ≡ true → two_lines text p ≡ departs q
      → count_lines text count p left ≡ departs q
  unfolding count_lines after
  count-departs count p zero q some due e = absurd (omega arith)
  count-departs count p (suc left) q some due e = rw (due, e)

  pub count-step : (count p left : ℕ) (values : List ℕ) (q : ℕ) → 0 < left → eqb (byte_at text (p + 1)) 114 ≡ true
      → two_lines text p ≡ reads values q → count_lines text count p left ≡ count_lines text (count + 1) q (left - 1)
  unfolding count_lines after
  count-step count p zero values q some due e = absurd (omega arith)
  count-step count p (suc left) values q some due e =
      let same : suc left - 1 ≡ left = omega arith in
      rw (due, e, same, add-one count)

  pub count-ends : (count p left : ℕ) → left ≡ 0 → count_lines text count p left ≡ reads (count ∷ []) p
  unfolding count_lines
  count-ends count p left e = rw e
