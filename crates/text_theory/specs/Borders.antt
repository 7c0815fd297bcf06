-- Two texts in one input: the line that is written for them is read, and they stand on either side of the border that it tells.
-- Assumes nothing.
use Rattle.std.specs.Prelude.{ℕ, ◌/◌, ◌%◌, ◌<◌, List, [], ◌∷◌, ◌++◌, ◌≡◌, length, take, drop}
use Rattle.std.proofs.Common.{arith}
use Rattle.std.proofs.Math.Seq.{take-append_seam, drop-append_seam}
use Rattle.definitions.specs.Form.{Item, reads, scan_form, write_form}
use Rattle.definitions.specs.Border.{border_form, border_of, bordered}
use Rattle.lists.specs.Parts.{part-start}
use Rattle.text_theory.specs.Forms.{Line}
use Rattle.text_theory.specs.NetworkLines.{line_read}

pub record BorderRead (form : List Item) (one other : List ℕ) : Type 0 where
  pub line : List ℕ
  pub behind : ℕ
  pub read : scan_form (bordered form one other) form 0 ≡ reads line behind
  pub before : take (border_of line) (drop behind (bordered form one other)) ≡ one
  pub after : drop (border_of line) (drop behind (bordered form one other)) ≡ other

pub border-read : (name one other : List ℕ) → Line (border_form name) → length one < 100000000 → BorderRead (border_form name) one other
unfolding border_of bordered
border-read name one other good short =
    let size = length one in
    let line = size / 10000 ∷ size % 10000 ∷ [] in
    let front = write_form (border_form name) line in
    let border : border_of line ≡ size = omega arith in
    record {
      line = line;
      behind = length front;
      read = line_read (border_form name) line (front ++ (one ++ other)) 0 (length front) good (omega arith, (omega arith, tt))
          (part-start front (one ++ other));
      before = rw (drop-append_seam front (one ++ other), border, take-append_seam one other);
      after = rw (drop-append_seam front (one ++ other), border, drop-append_seam one other);
    }
