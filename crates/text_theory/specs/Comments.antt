-- The comment lines of a DIMACS text, all those from an offset on: what stands is read, what was read stands, and where they depart the
-- bytes before begin some. Assumes nothing.
use Rattle.std.specs.Prelude.{ℕ, zero, suc, ◌+◌, ◌≤◌, Bool, true, false, List, [], ◌∷◌, ◌≡◌, refl, eqb, length}
use Rattle.std.proofs.Common.{sym, ◌∙◌, arith, length-append, eqb-true}
use Rattle.definitions.specs.Outcome.{pick}
use Rattle.definitions.specs.Form.{Scan, departs, reads, byte_at, with_front, following}
use Rattle.definitions.specs.Dimacs.{scan_comment, scan_comments}
use Rattle.definitions.specs.DimacsText.{Comment, alone, saying, comment_line, comment_lines, CommentsFit}
use Rattle.lists.specs.Parts.{Part, part-empty, part-append, part-first, part-second}
use Rattle.text_theory.specs.Numbers.{byte-within, byte-then}
use Rattle.text_theory.specs.Forms.{following-reads}
use Rattle.text_theory.specs.DepartsFromForm.{with-front-departs}
use Rattle.text_theory.specs.LineBegun.{BeginsAt, begins-first, begins-later}
use Rattle.text_theory.specs.CommentLine.{
  comment_front,
  comment-ends,
  end_due,
  comment-scan,
  CommentFits,
  comment-stands,
  comment-read,
}

one-fits : (comment : Comment) (comments : List Comment) → CommentsFit (comment ∷ comments) → CommentFits comment × CommentsFit comments
one-fits alone comments fits = (tt, fits)
one-fits (saying words) comments fits = fits

fits_one : (comment : Comment) (comments : List Comment) → CommentFits comment → CommentsFit comments → CommentsFit (comment ∷ comments)
fits_one alone comments here rest = rest
fits_one (saying words) comments here rest = (here, rest)

-- There are no more comment lines than bytes.
line-length : (comment : Comment) → 1 ≤ length (comment_line comment)
unfolding comment_line
line-length alone = omega arith
line-length (saying words) = omega arith

lines-length : (comments : List Comment) → length comments ≤ length (comment_lines comments)
unfolding comment_lines
lines-length [] = omega arith
lines-length (comment ∷ comments) =
    omega (
      arith,
      length-append (comment_line comment) (comment_lines comments),
      line-length comment,
      lines-length comments,
    )

-- Comment lines that stand in the text are read, all of them, up to a line that does not begin with c.
read-within : (comments : List Comment) (text : List ℕ) (p q most : ℕ) → CommentsFit comments → length comments ≤ most
    → eqb (byte_at text q) 99 ≡ false → Part text p (comment_lines comments) q → scan_comments text p most ≡ reads [] q
unfolding scan_comments comment_lines following with_front
read-within [] text p q zero fits few other part =
    let same : p ≡ q = omega (arith, part.reaches) in
    rw same
read-within [] text p q (suc most) fits few other part =
    let same : p ≡ q = omega (arith, part.reaches) in
    rw (same, other)
read-within (comment ∷ comments) text p q zero fits few other part = absurd (omega arith)
read-within (comment ∷ comments) text p q (suc most) fits few other part =
    let each = one-fits comment comments fits in
    let line = comment_line comment in
    let rest = comment_lines comments in
    let s = p + length line in
    let here = comment-read comment text p s each.0 (part-first text line rest p q part) in
    rw (
      here.0,
      here.1,
      read-within comments text s q most each.1 (omega arith) other (part-second text line rest p q part),
    )

pub comments-read : (comments : List Comment) (text : List ℕ) (p q : ℕ) → CommentsFit comments → eqb (byte_at text q) 99 ≡ false
    → Part text p (comment_lines comments) q → scan_comments text p (length text) ≡ reads [] q
comments-read comments text p q fits other part =
    read-within comments text p q (length text) fits (omega (arith, lines-length comments, part.reaches, part.within)) other part

-- A comment line that was read stands in the text.
read-comment : (text : List ℕ) (p : ℕ) (values : List ℕ) (q : ℕ) → eqb (byte_at text p) 99 ≡ true
    → scan_comment text p ≡ reads values q
    → (values ≡ []) × (comment : Comment) × CommentFits comment × Part text p (comment_line comment) q
read-comment text p values q letter e =
    let (comment, fits, front) = comment-stands text p letter in
    let due = end_due text p in
    go comment fits front (eqb (byte_at text due) 10) refl (sym (comment-scan text p letter) ∙ e)
  where
    go : (comment : Comment) → CommentFits comment → Part text p (comment_front comment) (end_due text p)
        → (b : Bool) → eqb (byte_at text (end_due text p)) 10 ≡ b
        → pick b (reads [] (end_due text p + 1)) (departs (end_due text p)) ≡ reads values q
        → (values ≡ []) × (comment : Comment) × CommentFits comment × Part text p (comment_line comment) q
    go comment fits front true test e =
        let due = end_due text p in
        let end : byte_at text due ≡ 10 = eqb-true (byte_at text due) 10 test in
        let inside = byte-within text due (omega arith) in
        let same : due + 1 ≡ q = cc in
        let last : Part text due (10 ∷ []) q =
        rw same at (byte-then text [] 10 due (due + 1) end (omega arith) (part-empty text (due + 1) (omega arith))) in (
          cc,
          comment,
          fits,
          rw (comment-ends comment) (part-append text (comment_front comment) (10 ∷ []) p due q front last),
        )
    go comment fits front false test e = let z : ◌≡◌ {A = ℕ} 0 1 = cc in absurd (omega arith)

-- Comment lines that were read stand in the text, and have no numbers.
pub read-comments : (most : ℕ) (text : List ℕ) (p : ℕ) (values : List ℕ) (q : ℕ) → p ≤ length text
    → scan_comments text p most ≡ reads values q
    → (values ≡ []) × (comments : List Comment) × CommentsFit comments × Part text p (comment_lines comments) q
unfolding scan_comments comment_lines
read-comments zero text p values q within e =
    let same : p ≡ q = cc in
    (cc, [], tt, rw (← same) (part-empty text p within))
read-comments (suc most) text p values q within e =
    go (eqb (byte_at text p) 99) refl e (λ s rest. read-comments most text s rest q)
  where
    go : (t : Bool) → eqb (byte_at text p) 99 ≡ t
        → pick t (following (scan_comment text p) λ s. scan_comments text s most) (reads [] p) ≡ reads values q
        → ((s : ℕ) (rest : List ℕ) → s ≤ length text → scan_comments text s most ≡ reads rest q
        → (rest ≡ []) × (comments : List Comment) × CommentsFit comments × Part text s (comment_lines comments) q)
        → (values ≡ []) × (comments : List Comment) × CommentsFit comments × Part text p (comment_lines comments) q
    go true test e hyp =
        let both = following-reads (scan_comment text p) (λ s. scan_comments text s most) values q e in
        let (none, comment, fits, here) = read-comment text p both.front both.behind test both.first in
        let (no_more, comments, rest_fit, after) = hyp both.behind both.rest here.within both.second in (
          both.joined ∙ rw (none, no_more),
          comment ∷ comments,
          fits_one comment comments fits rest_fit,
          part-append text (comment_line comment) (comment_lines comments) p both.behind q here after,
        )
    go false test e hyp =
        let same : p ≡ q = cc in
        (cc, [], tt, rw (← same) (part-empty text p within))

-- A comment line that departs is begun.
comment-begins : (text : List ℕ) (p q : ℕ) → eqb (byte_at text p) 99 ≡ true → scan_comment text p ≡ departs q
    → (comment : Comment) × CommentFits comment × BeginsAt text p q (comment_line comment)
comment-begins text p q letter e =
    let (comment, fits, front) = comment-stands text p letter in
    go comment fits front (eqb (byte_at text (end_due text p)) 10) (sym (comment-scan text p letter) ∙ e)
  where
    go : (comment : Comment) → CommentFits comment → Part text p (comment_front comment) (end_due text p)
        → (b : Bool) → pick b (reads [] (end_due text p + 1)) (departs (end_due text p)) ≡ departs q
        → (comment : Comment) × CommentFits comment × BeginsAt text p q (comment_line comment)
    go comment fits front true e = let z : ◌≡◌ {A = ℕ} 0 1 = cc in absurd (omega arith)
    go comment fits front false e =
        let same : end_due text p ≡ q = cc in
        (comment, fits, (comment_front comment, 10 ∷ [], rw same at front, sym (comment-ends comment)))

-- Where comment lines depart, the bytes before begin some.
pub comments-begin : (most : ℕ) (text : List ℕ) (p q : ℕ) → p ≤ length text → scan_comments text p most ≡ departs q
    → (comments : List Comment) × CommentsFit comments × BeginsAt text p q (comment_lines comments)
unfolding scan_comments comment_lines following
comments-begin zero text p q within e = let z : ◌≡◌ {A = ℕ} 0 1 = cc in absurd (omega arith)
comments-begin (suc most) text p q within e =
    go (eqb (byte_at text p) 99) refl (scan_comment text p) refl e (λ s. comments-begin most text s q)
  where
    go : (t : Bool) → eqb (byte_at text p) 99 ≡ t → (scan : Scan) → scan_comment text p ≡ scan
        → pick t (following scan λ s. scan_comments text s most) (reads [] p) ≡ departs q
        → ((s : ℕ) → s ≤ length text → scan_comments text s most ≡ departs q
        → (comments : List Comment) × CommentsFit comments × BeginsAt text s q (comment_lines comments))
        → (comments : List Comment) × CommentsFit comments × BeginsAt text p q (comment_lines comments)
    go false test scan first e hyp = let z : ◌≡◌ {A = ℕ} 0 1 = cc in absurd (omega arith)
    go true test (departs at) first e hyp =
        let (comment, fits, begun) = comment-begins text p q test (first ∙ e) in
        (comment ∷ [], fits_one comment [] fits tt, begins-first text p q (comment_line comment) [] begun)
    go true test (reads values s) first e hyp =
        let (none, comment, fits, here) = read-comment text p values s test first in
        let (comments, rest_fit, begun) = hyp s here.within (with-front-departs values (scan_comments text s most) q e) in (
          comment ∷ comments,
          fits_one comment comments fits rest_fit,
          begins-later text p s q (comment_line comment) (comment_lines comments) here begun,
        )
