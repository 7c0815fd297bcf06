-- The answer of the wish line's reading as the definitions' `Scan`, and its parts. Assumes nothing.
use Rattle.std.specs.Prelude.{ℕ, Result, Ok, Err, List, [], ◌∷◌, ◌≡◌}
use Rattle.std.proofs.Common.{◌∙◌}
use Rattle.definitions.specs.Form.{bytes, word, numeral, Scan, departs, reads, with_front, following, scan_form}
use Rattle.definitions.specs.Plan.{wish_form}
use Rattle.text.specs.Scans.{pair_form}
use Rattle.program.specs.Parts.{form-append}
use Rattle.text.specs.declared.scan.Departure.{Departure}
use Rattle.routes.specs.declared.Wish.{Wish}

abbrev pub wish_gives : Result (Wish × ℕ) Departure → Scan
wish_gives (Ok (wish, p)) = reads (wish.from.0 ∷ wish.to.0 ∷ wish.k ∷ []) p
wish_gives (Err departure) = departs departure.0

-- The wish line: a line of two numbers, and a third with the line end.
wish-parts : (text : List ℕ)
    → scan_form text wish_form 0
    ≡ following (scan_form text (pair_form (bytes "(want ") (bytes " ") (bytes " ")) 0)
    (scan_form text (numeral ∷ word (bytes ")\n") ∷ []))
unfolding wish_form
wish-parts text = form-append text (pair_form (bytes "(want ") (bytes " ") (bytes " ")) (numeral ∷ word (bytes ")\n") ∷ []) 0

pub wish-departs : (text : List ℕ) (q : ℕ) → scan_form text (pair_form (bytes "(want ") (bytes " ") (bytes " ")) 0 ≡ departs q
    → scan_form text wish_form 0 ≡ departs q
unfolding following
wish-departs text q e = wish-parts text ∙ rw e

pub wish-reads : (text values : List ℕ) (q : ℕ)
    → scan_form text (pair_form (bytes "(want ") (bytes " ") (bytes " ")) 0 ≡ reads values q
    → scan_form text wish_form 0 ≡ with_front values (scan_form text (numeral ∷ word (bytes ")\n") ∷ []) q)
unfolding following
wish-reads text values q e = wish-parts text ∙ rw e
