-- The lines of a DIMACS text with the comment lines in front of them: what stands is read, what was read stands, and where a line
-- departs the bytes before begin one. Assumes nothing.
use Rattle.std.specs.Prelude.{ℕ, ◌+◌, ◌≤◌, ◌<◌, false, List, [], ◌∷◌, ◌++◌, ◌≡◌, refl, eqb, length, get_or}
use Rattle.std.proofs.Common.{◌∙◌, arith}
use Rattle.definitions.specs.Lists.{outside}
use Rattle.definitions.specs.Form.{bytes, Item, word, numeral, Scan, departs, reads, byte_at, with_front, following, scan_form, write_form, Fits}
use Rattle.definitions.specs.Dimacs.{problem_form, edge_form, scan_comments, scan_line}
use Rattle.definitions.specs.DimacsText.{Comment, comment_lines, CommentsFit}
use Rattle.lists.specs.Parts.{Part, part-head, part-append, part-first, part-second}
use Rattle.text_theory.specs.Forms.{well_formed, well_formed_behind, good_word, no_zero, ends_in_number, Line, following-reads}
use Rattle.text_theory.specs.NetworkLines.{line_read, read-line, two-numbers}
use Rattle.text_theory.specs.DepartsFromForm.{with-front-departs}
use Rattle.text_theory.specs.LineBegun.{BeginsAt, begins-first, begins-later, form-begins}
use Rattle.text_theory.specs.Comments.{comments-read, read-comments, comments-begin}

-- The form begins with a word, and that with another byte than c.
abbrev pub NoComment : (form : List Item) → Type 0
NoComment [] = ⊥
NoComment (word [] ∷ items) = ⊥
NoComment (word (b ∷ w) ∷ items) = eqb b 99 ≡ false
NoComment (numeral ∷ items) = ⊥

-- A form of a DIMACS text: it can be seen where its numbers end, it begins no comment line, and its numbers are two of at most four
-- digits.
pub record DimacsLine (form : List Item) : Type 0 where
  pub line : Line form
  pub other : NoComment form
  pub fits : (u v : ℕ) → u < 10000 → v < 10000 → Fits form (u ∷ v ∷ [])
  pub numbers : (values : List ℕ) → Fits form values
      → (values ≡ get_or values 0 0 ∷ get_or values 1 0 ∷ []) × (get_or values 0 0 < 10000) × (get_or values 1 0 < 10000)

pub problem-line : DimacsLine problem_form
unfolding well_formed well_formed_behind good_word no_zero outside ends_in_number problem_form
problem-line =
    record {
      line = (refl, refl);
      other = refl;
      fits = λ u v small_u small_v. (small_u, (small_v, tt));
      numbers = two-numbers (bytes " ") (bytes "\n");
    }

pub edge-line : DimacsLine edge_form
unfolding well_formed well_formed_behind good_word no_zero outside ends_in_number edge_form
edge-line =
    record {
      line = (refl, refl);
      other = refl;
      fits = λ u v small_u small_v. (small_u, (small_v, tt));
      numbers = two-numbers (bytes " ") (bytes "\n");
    }

-- A line of the form with the comment lines in front of it.
abbrev pub noted : (comments : List Comment) (form : List Item) (u v : ℕ) → List ℕ
noted comments form u v = comment_lines comments ++ write_form form (u ∷ v ∷ [])

-- Where such a form stands, no comment line does.
starts-otherwise : (form : List Item) (values text : List ℕ) (p q : ℕ) → NoComment form → Part text p (write_form form values) q
    → eqb (byte_at text p) 99 ≡ false
unfolding write_form byte_at
starts-otherwise [] values text p q other part = absurd other
starts-otherwise (word [] ∷ items) values text p q other part = absurd other
starts-otherwise (word (b ∷ w) ∷ items) values text p q other part =
    rw (part-head text (w ++ write_form items values) b p q part) other
starts-otherwise (numeral ∷ items) values text p q other part = absurd other

pub noted_read : (comments : List Comment) (form : List Item) (u v : ℕ) (text : List ℕ) (p q : ℕ) → DimacsLine form
    → CommentsFit comments → u < 10000 → v < 10000 → Part text p (noted comments form u v) q
    → scan_line text form p ≡ reads (u ∷ v ∷ []) q
unfolding scan_line following with_front
noted_read comments form u v text p q dimacs fits small_u small_v part =
    let notes = comment_lines comments in
    let written = write_form form (u ∷ v ∷ []) in
    let s = p + length notes in
    let last = part-second text notes written p q part in
    rw (
      comments-read comments text p s fits (starts-otherwise form (u ∷ v ∷ []) text s q dimacs.other last)
          (part-first text notes written p q part),
      line_read form (u ∷ v ∷ []) text s q dimacs.line (dimacs.fits u v small_u small_v) last,
    )

-- A line that was read: its comments, and that it stands so with its numbers.
pub record NotedRead (form : List Item) (text : List ℕ) (p : ℕ) (values : List ℕ) (q : ℕ) : Type 0 where
  pub comments : List Comment
  pub fits : CommentsFit comments
  pub small_u : get_or values 0 0 < 10000
  pub small_v : get_or values 1 0 < 10000
  pub part : Part text p (noted comments form (get_or values 0 0) (get_or values 1 0)) q

pub read-noted : (form : List Item) (text : List ℕ) (p : ℕ) (values : List ℕ) (q : ℕ) → DimacsLine form → p ≤ length text
    → scan_line text form p ≡ reads values q → NotedRead form text p values q
unfolding scan_line
read-noted form text p values q dimacs within e =
    let both = following-reads (scan_comments text p (length text)) (scan_form text form) values q e in
    let (none, comments, fits, here) = read-comments (length text) text p both.front both.behind within both.first in
    behind comments both.behind both.rest fits here both.second (both.joined ∙ rw none)
  where
    behind : (comments : List Comment) (s : ℕ) (rest : List ℕ) → CommentsFit comments → Part text p (comment_lines comments) s
        → scan_form text form s ≡ reads rest q → values ≡ rest → NotedRead form text p values q
    behind comments s rest fits here second same =
        let last = read-line form text s rest q dimacs.line here.within second in
        let two = dimacs.numbers rest last.0 in
        rw same
        (record {
          comments = comments;
          fits = fits;
          small_u = two.1;
          small_v = two.2;
          part = part-append text (comment_lines comments) (write_form form (get_or rest 0 0 ∷ get_or rest 1 0 ∷ [])) p s q here
              (rw two.0 at last.1);
        })

-- A line that departs: comments and numbers with which it is begun.
pub record NotedBegun (form : List Item) (text : List ℕ) (p q : ℕ) : Type 0 where
  pub comments : List Comment
  pub u : ℕ
  pub v : ℕ
  pub fits : CommentsFit comments
  pub small_u : u < 10000
  pub small_v : v < 10000
  pub begun : BeginsAt text p q (noted comments form u v)

pub noted-begins : (form : List Item) (text : List ℕ) (p q : ℕ) → DimacsLine form → p ≤ length text → scan_line text form p ≡ departs q
    → NotedBegun form text p q
unfolding scan_line following
noted-begins form text p q dimacs within e = go (scan_comments text p (length text)) refl e
  where
    go : (scan : Scan) → scan_comments text p (length text) ≡ scan → following scan (scan_form text form) ≡ departs q
        → NotedBegun form text p q
    go (departs at) first e =
        let (comments, fits, begun) = comments-begin (length text) text p q within (first ∙ e) in
        record {
          comments = comments;
          u = 0;
          v = 0;
          fits = fits;
          small_u = omega arith;
          small_v = omega arith;
          begun = begins-first text p q (comment_lines comments) (write_form form (0 ∷ 0 ∷ [])) begun;
        }
    go (reads none s) first e =
        let (no_numbers, comments, fits, here) = read-comments (length text) text p none s within first in
        let (values, numbers_fit, begun) =
        form-begins form text s q dimacs.line.0 here.within (with-front-departs none (scan_form text form s) q e) in
        let two = dimacs.numbers values numbers_fit in
        record {
          comments = comments;
          u = get_or values 0 0;
          v = get_or values 1 0;
          fits = fits;
          small_u = two.1;
          small_v = two.2;
          begun = begins-later text p s q (comment_lines comments) (write_form form (get_or values 0 0 ∷ get_or values 1 0 ∷ [])) here
              (rw two.0 at begun);
        }
