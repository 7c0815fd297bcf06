-- The four lines of the network text, and the numbers that they hold.
-- Assumes nothing.
use Rattle.std.specs.Prelude.{ℕ, ◌≤◌, ◌<◌, List, [], ◌∷◌, ◌≡◌, refl, length, get_or}
use Rattle.std.proofs.Common.{true≢false, sym, ◌∙◌, arith}
use Rattle.definitions.specs.Network.{link_fault}
use Rattle.definitions.specs.Form.{bytes, reads, Item, word, numeral, scan_form, write_form, Fits}
use Rattle.definitions.specs.Text.{header_form, link_form, out_form, end_form}
use Rattle.lists.specs.Parts.{Part}
use Rattle.theory.specs.Accepted.{fault-none}
use Rattle.text_theory.specs.Forms.{Line, scans-written, written-scanned}

-- A line that stands in the text is read, whatever comes behind it.
pub line_read : (items : List Item) (values text : List ℕ) (p q : ℕ) → Line items → Fits items values
    → Part text p (write_form items values) q → scan_form text items p ≡ reads values q
line_read items values text p q line fits part =
    scans-written items values text p q line.0 fits (λ e. absurd (true≢false (sym e ∙ line.1))) part

-- A line that was read stands in the text with its numbers.
pub read-line : (items : List Item) (text : List ℕ) (p : ℕ) (values : List ℕ) (q : ℕ) → Line items → p ≤ length text
    → scan_form text items p ≡ reads values q → Fits items values × Part text p (write_form items values) q
read-line items text p values q line within e = written-scanned items text p values q line.0 within e

-- The numbers of a line.
pub link_fits : (a b : ℕ) → a < 10000 → b < 10000 → Fits link_form (a ∷ b ∷ [])
unfolding link_form
link_fits a b ha hb = (ha, (hb, tt))

pub header-fits : (n m : ℕ) → n < 10000 → m < 10000 → Fits header_form (n ∷ m ∷ [])
unfolding header_form
header-fits n m hn hm = (hn, (hm, tt))

pub out-fits : (r : ℕ) → r < 10000 → Fits out_form (r ∷ [])
unfolding out_form
out-fits r h = (h, tt)

pub end_fits : Fits end_form []
unfolding end_form
end_fits = tt

pub two-numbers : (between behind values : List ℕ) → Fits (numeral ∷ word between ∷ numeral ∷ word behind ∷ []) values
    → (values ≡ get_or values 0 0 ∷ get_or values 1 0 ∷ []) × (get_or values 0 0 < 10000) × (get_or values 1 0 < 10000)
two-numbers between behind [] fits = absurd fits
two-numbers between behind (a ∷ []) fits = absurd fits.1
two-numbers between behind (a ∷ b ∷ []) fits = (refl, fits.0, fits.1.0)
two-numbers between behind (a ∷ b ∷ c ∷ values) fits = absurd fits.1.1

pub link-numbers : (values : List ℕ) → Fits link_form values → values ≡ get_or values 0 0 ∷ get_or values 1 0 ∷ []
unfolding link_form
link-numbers values fits = (two-numbers (bytes " ") (bytes ")\n") values fits).0

pub header-numbers : (values : List ℕ) → Fits header_form values → values ≡ get_or values 0 0 ∷ get_or values 1 0 ∷ []
unfolding header_form
header-numbers values fits = (two-numbers (bytes ") (links ") (bytes "))\n") values fits).0

pub out-numbers : (values : List ℕ) → Fits out_form values → values ≡ get_or values 0 0 ∷ []
unfolding out_form
out-numbers [] fits = absurd fits
out-numbers (r ∷ []) fits = refl
out-numbers (r ∷ c ∷ values) fits = absurd fits.1

pub end-numbers : (values : List ℕ) → Fits end_form values → values ≡ []
unfolding end_form
end-numbers [] fits = refl
end-numbers (a ∷ values) fits = absurd fits

-- Every link that has no fault is written with at most four digits.
pub faultless-fits : (n : ℕ) (lows highs : List ℕ) (i a b : ℕ) → n ≤ 1000 → link_fault n lows highs i a b ≡ 0
    → Fits link_form (a ∷ b ∷ [])
faultless-fits n lows highs i a b few none =
    let good = fault-none n lows highs i a b none in
    link_fits a b (omega (arith, good.ordered, good.below)) (omega (arith, good.below))
