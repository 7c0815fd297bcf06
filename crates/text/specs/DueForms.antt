-- The four forms of a network's text: which one is due, and what reading it gives. Assumes nothing.
use Rattle.std.specs.Prelude.{ℕ, List, [], ◌∷◌, ◌≡◌, get_or}
use Rattle.std.proofs.Common.{sym, ap, arith}
use Rattle.definitions.specs.Form.{Item, Scan, departs, reads, with_front, following}
use Rattle.definitions.specs.Text.{header_form, link_form, out_form, end_form}
use Rattle.text.specs.declared.scan.Due.{Due}
use Rattle.text.specs.declared.scan.Due.TheVariants as dues

abbrev pub form_of : Due → List Item
form_of dues.Header = header_form
form_of dues.Link = link_form
form_of dues.Out = out_form
form_of dues.End = end_form

-- What reading a form gives, as two numbers: an `out` line has one and the end none, and zeros stand for the others.
abbrev pub as_pair : Due → Scan → Scan
as_pair dues.Header scan = scan
as_pair dues.Link scan = scan
as_pair dues.Out scan = following scan (reads (0 ∷ []))
as_pair dues.End scan = following scan (reads (0 ∷ 0 ∷ []))

-- The reading of the end, from the pair and back.
pub end-departs-pair : (scan : Scan) (p : ℕ) → scan ≡ departs p → departs p ≡ as_pair dues.End scan
unfolding following
end-departs-pair scan p e = rw e

pub end-reads-pair : (scan : Scan) (p : ℕ) → scan ≡ reads [] p → reads (0 ∷ 0 ∷ []) p ≡ as_pair dues.End scan
unfolding following with_front
end-reads-pair scan p e = rw e

pub pair-departs-end : (scan : Scan) (p : ℕ) → departs p ≡ as_pair dues.End scan → scan ≡ departs p
unfolding following with_front
pair-departs-end (departs q) p e = sym e
pair-departs-end (reads values q) p e = let z : ◌≡◌ {A = ℕ} 0 1 = cc in absurd (omega arith)

pub pair-reads-end : (scan : Scan) (a b p : ℕ) → reads (a ∷ b ∷ []) p ≡ as_pair dues.End scan
    → (values : List ℕ) × (scan ≡ reads values p)
unfolding following with_front
pair-reads-end (departs q) a b p e = let z : ◌≡◌ {A = ℕ} 0 1 = cc in absurd (omega arith)
pair-reads-end (reads values q) a b p e = (values, ap (reads values) (cc))

-- The reading of an `out` line, from the pair.
pub pair-departs-out : (scan : Scan) (p : ℕ) → departs p ≡ as_pair dues.Out scan → scan ≡ departs p
unfolding following with_front
pair-departs-out (departs q) p e = sym e
pair-departs-out (reads values q) p e = let z : ◌≡◌ {A = ℕ} 0 1 = cc in absurd (omega arith)

pub pair-reads-out : (scan : Scan) (a b p : ℕ) → reads (a ∷ b ∷ []) p ≡ as_pair dues.Out scan
    → (values : List ℕ) × (scan ≡ reads values p) × (get_or values 0 0 ≡ a)
unfolding following with_front
pair-reads-out (departs q) a b p e = let z : ◌≡◌ {A = ℕ} 0 1 = cc in absurd (omega arith)
pair-reads-out (reads [] q) a b p e = ([], ap (reads []) (cc), cc)
pair-reads-out (reads (x ∷ values) q) a b p e = (x ∷ values, ap (reads (x ∷ values)) (cc), cc)
