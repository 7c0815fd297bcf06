-- The first line of a sheet and the lines behind its routes, part by part. Assumes nothing.
use Prim.Native.Nat.{ℕ, ◌+◌, ◌≤◌, ◌<◌}
use mathlib.Core.Bool.{Bool, true, false}
use mathlib.Core.List.{List, [], ◌∷◌, ◌++◌, append-nil}
use mathlib.Core.Path.{◌≡◌, refl, sym, ◌∙◌, ap, fun_ext}
use native.Mathlib.Omega.{arith}
use lib.Dec.{eqb, ltb}
use lib.ListN.{length}
use borrow.Author.Tests.{lt-ltb, le-ltb}
use Rattle.definitions.specs.Outcome.{pick}
use Rattle.definitions.specs.Form.{bytes, Item, word, numeral, Scan, departs, reads, byte_at, scan_word, with_front, following, scan_form}
use Rattle.definitions.specs.Text.{end_form}
use Rattle.definitions.specs.Plan.{sheet_form, kept_form}
use Rattle.text.specs.Scans.{pair_form}
use Rattle.text.specs.ItemByItem.{form-word, first-departs, first_reads}
use Rattle.program.specs.Parts.{form-append}
use Rattle.verify.specs.Offsets.{after, behind, kept_end}
use Rattle.verify.proofs.FormLaws.{word-plain}

-- The fronts of the first line and of the `(kept` line.
abbrev pub head_pair : List Item
head_pair = pair_form (bytes "(sheet (from ") (bytes ") (to ") (bytes ") (k ")

abbrev pub kept_number : List Item
kept_number = word (bytes "(kept ") ∷ numeral ∷ []

-- Behind a word come no numbers of its own.
plain-following : (front : List ℕ) (scan : Scan) (next : ℕ → Scan) → behind scan ≡ scan
    → following (with_front front scan) next ≡ with_front front (after scan next)
unfolding behind after following with_front
plain-following front (departs p) next plain = refl
plain-following front (reads [] p) next plain = ap (λ (l : List ℕ). with_front l (next p)) (append-nil front)
plain-following front (reads (x ∷ values) p) next plain = let z : ◌≡◌ {A = ℕ} 0 1 = cc in absurd (omega arith)

after-after : (scan : Scan) (one two : ℕ → Scan) → after scan (λ p. after (one p) two) ≡ after (after scan one) two
unfolding after
after-after (departs p) one two = refl
after-after (reads values p) one two = refl

module _ (text : List ℕ) where
  -- The first line: a line of two numbers, and a third with its end.
  head-parts : scan_form text sheet_form 0 ≡ following (scan_form text head_pair 0) (scan_form text (numeral ∷ word (bytes "))\n") ∷ []))
  unfolding sheet_form
  head-parts = form-append text head_pair (numeral ∷ word (bytes "))\n") ∷ []) 0

  pub head-line-departs : (q : ℕ) → scan_form text head_pair 0 ≡ departs q → scan_form text sheet_form 0 ≡ departs q
  unfolding following
  head-line-departs q e = head-parts ∙ rw e

  pub head-line-reads : (values : List ℕ) (q : ℕ) → scan_form text head_pair 0 ≡ reads values q
      → scan_form text sheet_form 0 ≡ with_front values (scan_form text (numeral ∷ word (bytes "))\n") ∷ []) q)
  unfolding following
  head-line-reads values q e = head-parts ∙ rw e

  -- The last two lines: the word with the count, then both ends as one word, and nothing after it.
  pub two-words : (v w : List ℕ) (p : ℕ) → scan_word text (v ++ w) p ≡ after (scan_word text v p) (scan_word text w)
  unfolding scan_word after
  two-words [] w p = refl
  two-words (b ∷ v) w p = go (eqb (byte_at text p) b) (two-words v w (p + 1))
    where
      go : (t : Bool) → scan_word text (v ++ w) (p + 1) ≡ after (scan_word text v (p + 1)) (scan_word text w)
          → pick t (scan_word text (v ++ w) (p + 1)) (departs p) ≡ after (pick t (scan_word text v (p + 1)) (departs p)) (scan_word text w)
      go true hyp = hyp
      go false hyp = refl

  -- The offset behind the end, if nothing stands after it.
  abbrev last_offset : ℕ → Scan
  last_offset q = pick (ltb q (length text)) (departs q) (reads [] q)

  ends-joined : (s : ℕ) → after (scan_word text (bytes ")\n") s) (λ q. after (scan_form text end_form q) last_offset)
      ≡ after (scan_word text (bytes ")\n(end)\n") s) last_offset
  unfolding end_form
  ends-joined s =
      ap (after (scan_word text (bytes ")\n") s)) (fun_ext λ q. ap (λ (t : Scan). after t last_offset) (form-word text (bytes "(end)\n") q))
      ∙ after-after (scan_word text (bytes ")\n") s) (scan_word text (bytes "(end)\n")) last_offset
      ∙ ap (λ (t : Scan). after t last_offset) (sym (two-words (bytes ")\n") (bytes "(end)\n") s))

  kept-parts : (p x s : ℕ) → scan_form text kept_number p ≡ reads (x ∷ []) s
      → kept_end text p ≡ with_front (x ∷ []) (after (scan_word text (bytes ")\n(end)\n") s) last_offset)
  unfolding kept_end kept_form
  kept-parts p x s e =
      ap (λ (t : Scan). following t (λ q. after (scan_form text end_form q) last_offset))
      (first_reads text (bytes "(kept ") (word (bytes ")\n") ∷ []) p (x ∷ []) s e ∙ ap (with_front (x ∷ [])) (form-word text (bytes ")\n") s))
      ∙ plain-following (x ∷ []) (scan_word text (bytes ")\n") s) (λ q. after (scan_form text end_form q) last_offset) (word-plain text (bytes ")\n") s)
      ∙ ap (with_front (x ∷ [])) (ends-joined s)

  pub kept-departs : (p q : ℕ) → scan_form text kept_number p ≡ departs q → kept_end text p ≡ departs q
  unfolding kept_end kept_form following
  kept-departs p q e = rw (first-departs text (bytes "(kept ") (word (bytes ")\n") ∷ []) p q e)

  module _ (p x s : ℕ) (e : scan_form text kept_number p ≡ reads (x ∷ []) s) where
    pub kept-departs-later : (q : ℕ) → scan_word text (bytes ")\n(end)\n") s ≡ departs q → kept_end text p ≡ departs q
    unfolding after with_front
    kept-departs-later q f = kept-parts p x s e ∙ rw f

    pub kept_more : (q : ℕ) → scan_word text (bytes ")\n(end)\n") s ≡ reads [] q → q < length text → kept_end text p ≡ departs q
    unfolding after with_front
    kept_more q f more = kept-parts p x s e ∙ rw (f, lt-ltb q (length text) more)

    pub kept-reads : (q : ℕ) → scan_word text (bytes ")\n(end)\n") s ≡ reads [] q → length text ≤ q → kept_end text p ≡ reads (x ∷ []) q
    unfolding after with_front
    kept-reads q f none = kept-parts p x s e ∙ rw (f, le-ltb q (length text) none)
