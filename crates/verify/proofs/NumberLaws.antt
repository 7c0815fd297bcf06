-- The numbers of a route's two lines from an offset on, which the walk reads one by one, are those that the form gave.
-- Assumes nothing.
use Prim.Native.Nat.{ℕ, suc}
use mathlib.Core.List.{List, [], ◌∷◌, ◌++◌, append-nil}
use mathlib.Core.Path.{◌≡◌, refl, sym, ◌∙◌, ap}
use native.Mathlib.Omega.{arith}
use lib.ListN.{length}
use Rattle.definitions.specs.Form.{bytes, Scan, departs, reads, scan_word, scan_number, scan_item, following, scan_form, scan_more}
use Rattle.definitions.specs.SheetForm.{route_front, over_front, line_end, scan_numbers}
use Rattle.text_theory.specs.Forms.{following-reads}
use Rattle.text_theory.specs.SpacedNumbers.{spaced_number, read_then, numbers_at, more_numbers}
use Rattle.text.specs.ItemByItem.{following-departs, form-word}
use Rattle.verify.specs.Offsets.{after, behind}
use Rattle.verify.proofs.FormLaws.{after-departs, word-plain, first_relay, route-parts}
use Rattle.verify.proofs.EndLaws.{two-words}

no-scan : (p : ℕ) (values : List ℕ) (q : ℕ) → departs p ≡ reads values q → ⊥
no-scan p values q e = let z : ◌≡◌ {A = ℕ} 0 1 = cc in omega arith

module _ (text : List ℕ) where
  -- Behind the front of a line.
  line-numbers : (p : ℕ) (rest : List ℕ) (q : ℕ)
      → following (scan_more text p (length text)) (scan_form text line_end) ≡ reads rest q → numbers_at text p (length text) ≡ rest
  unfolding line_end behind after
  line-numbers p rest q e =
      let both = following-reads (scan_more text p (length text)) (scan_form text line_end) rest q e in
      let ended : both.rest ≡ [] = no-values both.behind both.rest q (sym (form-word text (bytes ")\n") both.behind) ∙ both.second) in
      more_numbers text (length text) p both.front both.behind both.first
      ∙ sym (both.joined ∙ ap (◌++◌ both.front) ended ∙ append-nil both.front)
    where
      plain : (values : List ℕ) (q : ℕ) → reads [] q ≡ reads values q → values ≡ []
      plain values q e = cc

      no-values : (s : ℕ) (values : List ℕ) (q : ℕ) → scan_word text (bytes ")\n") s ≡ reads values q → values ≡ []
      no-values s values q e = plain values q (ap behind (sym e) ∙ word-plain text (bytes ")\n") s ∙ e)

  -- A route line whose first relay is a.
  pub route-numbers : (p a s : ℕ) (route : List ℕ) (q : ℕ) → scan_form text first_relay p ≡ reads (a ∷ []) s
      → scan_numbers text route_front p ≡ reads route q → route ≡ a ∷ numbers_at text s (suc (length text))
  unfolding scan_numbers numbers_at read_then
  route-numbers p a s route q first line =
      let both = following-reads (scan_form text route_front p)
      (λ t. following (scan_more text t (length text)) (scan_form text line_end)) route q line in
      let front = following-reads (scan_form text first_relay p) (scan_form text spaced_number) both.front both.behind
      (sym (route-parts text p) ∙ both.first) in
      let same : reads (a ∷ []) s ≡ reads front.front front.behind = sym first ∙ front.first in
      let one : front.front ≡ a ∷ [] = cc in
      let at : front.behind ≡ s = cc in
      let later : numbers_at text both.behind (length text) ≡ both.rest = line-numbers both.behind both.rest q both.second in
      both.joined
      ∙ ap (λ (l : List ℕ). l ++ both.rest) (front.joined ∙ ap (λ (l : List ℕ). l ++ front.rest) one)
      ∙ ap (λ (l : List ℕ). a ∷ (front.rest ++ l)) (sym later)
      ∙ sym (ap (λ (t : Scan). a ∷ read_then t (λ u. numbers_at text u (length text))) (ap (scan_form text spaced_number) (sym at) ∙ front.second))

  pub route-reads-first : (p u : ℕ) (route : List ℕ) (q : ℕ) → scan_form text first_relay p ≡ departs u
      → scan_numbers text route_front p ≡ reads route q → ⊥
  unfolding scan_numbers
  route-reads-first p u route q first line =
      no-scan u route q
      (sym
      (following-departs (scan_form text route_front p) (λ t. following (scan_more text t (length text)) (scan_form text line_end)) u
      (route-parts text p ∙ following-departs (scan_form text first_relay p) (scan_form text spaced_number) u first))
      ∙ line)

  -- An over line, whose word was read.
  over_word : (p : ℕ) → scan_form text over_front p ≡ after (scan_word text (bytes "(over") p) (scan_form text spaced_number)
  unfolding over_front scan_form scan_item after following
  over_word p =
      ap (λ (t : Scan). following t (λ q. following (scan_number text q) (scan_form text []))) (two-words text (bytes "(over") (bytes " ") p)
      ∙ go (scan_word text (bytes "(over") p)
    where
      go : (t : Scan) → following (after t (scan_word text (bytes " "))) (λ q. following (scan_number text q) (scan_form text []))
          ≡ after t (λ q. following (scan_word text (bytes " ") q) (λ s. following (scan_number text s) (scan_form text [])))
      go (departs q) = refl
      go (reads values q) = refl

  pub over-numbers : (p s : ℕ) (over : List ℕ) (q : ℕ) → scan_word text (bytes "(over") p ≡ reads [] s
      → scan_numbers text over_front p ≡ reads over q → over ≡ numbers_at text s (suc (length text))
  unfolding scan_numbers numbers_at read_then after
  over-numbers p s over q first line =
      let both = following-reads (scan_form text over_front p)
      (λ t. following (scan_more text t (length text)) (scan_form text line_end)) over q line in
      let one : scan_form text spaced_number s ≡ reads both.front both.behind = sym (over_word p ∙ rw first) ∙ both.first in
      both.joined
      ∙ ap (◌++◌ both.front) (sym (line-numbers both.behind both.rest q both.second))
      ∙ sym (ap (λ (t : Scan). read_then t (λ u. numbers_at text u (length text))) one)

  pub over-reads-first : (p u : ℕ) (over : List ℕ) (q : ℕ) → scan_word text (bytes "(over") p ≡ departs u
      → scan_numbers text over_front p ≡ reads over q → ⊥
  unfolding scan_numbers
  over-reads-first p u over q first line =
      no-scan u over q
      (sym
      (following-departs (scan_form text over_front p) (λ t. following (scan_more text t (length text)) (scan_form text line_end)) u
      (over_word p ∙ after-departs (scan_word text (bytes "(over") p) (scan_form text spaced_number) u (word-plain text (bytes "(over") p ∙ first)))
      ∙ line)
