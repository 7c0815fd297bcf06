-- Bytes that stand in a text from one byte up to another, as the definitions say it and as a part of a list. Assumes nothing.
use Rattle.std.specs.Prelude.{ℕ, ◌≤◌, List, ◌++◌, ◌≡◌, length, drop}
use Rattle.std.proofs.Common.{sym, ◌∙◌, ap, arith, length-append, length-drop, drop-drop}
use Rattle.std.proofs.Math.Seq.{drop-append_seam}
use Rattle.definitions.specs.Departs.{StandsAt}
use Rattle.lists.specs.Parts.{Part}

pub part-stands : (text bytes : List ℕ) (p q : ℕ) → Part text p bytes q → StandsAt text p bytes q
part-stands text bytes p q part = ((drop q text, part.follows), part.reaches)

pub stands-part : (text bytes : List ℕ) (p q : ℕ) → p ≤ length text → StandsAt text p bytes q → Part text p bytes q
stands-part text bytes p q inside ((rest, joined), reaches) =
    let after : drop q text ≡ rest =
    ap (λ (i : ℕ). drop i text) reaches ∙ sym (drop-drop (length bytes) p text) ∙ ap (drop (length bytes)) joined ∙ drop-append_seam bytes rest in
    record {
      follows = joined ∙ ap (λ (l : List ℕ). bytes ++ l) (sym after);
      reaches = reaches;
      within = omega (arith, reaches, ap length joined, length-append bytes rest, length-drop p text);
    }
