-- One comment line of a DIMACS text: where its line end is due, what stands up to there, and that what stands is read.
-- Assumes nothing.
use Rattle.std.specs.Prelude.{ℕ, zero, suc, ◌+◌, ◌-◌, ◌≤◌, ◌<◌, Bool, true, false, List, [], ◌∷◌, ◌++◌, ◌≡◌, refl, eqb, length}
use Rattle.std.proofs.Common.{◌∙◌, arith, eqb-true, eq-eqb}
use Rattle.definitions.specs.Outcome.{pick}
use Rattle.definitions.specs.Lists.{has}
use Rattle.definitions.specs.Form.{bytes, departs, reads, byte_at, scan_word, following}
use Rattle.definitions.specs.Dimacs.{behind_words, scan_comment}
use Rattle.definitions.specs.DimacsText.{Comment, alone, saying, comment_line}
use Rattle.lists.specs.Tests.{or-false, or-neither}
use Rattle.lists.specs.Parts.{Part, part-empty, part-cons, part-head, part-tail, part-first, part-second}
use Rattle.text_theory.specs.Numbers.{byte-within, byte-then}
use Rattle.text_theory.specs.Forms.{front-none}

-- A comment line without its line end.
unfoldable pub comment_front : (comment : Comment) → List ℕ
comment_front alone = bytes "c"
comment_front (saying words) = bytes "c " ++ words

pub comment-ends : (comment : Comment) → comment_line comment ≡ comment_front comment ++ bytes "\n"
unfolding comment_line comment_front
comment-ends alone = refl
comment-ends (saying words) = refl

-- Where the line end of a comment line is due that begins at p.
unfoldable pub end_due : (text : List ℕ) (p : ℕ) → ℕ
end_due text p = pick (eqb (byte_at text (p + 1)) 32) (behind_words text (p + 1 + 1) (length text - (p + 1 + 1))) (p + 1)

-- A line that begins with c is read if its line end stands where it is due, and departs there if not.
pub comment-scan : (text : List ℕ) (p : ℕ) → eqb (byte_at text p) 99 ≡ true
    → scan_comment text p ≡ pick (eqb (byte_at text (end_due text p)) 10) (reads [] (end_due text p + 1)) (departs (end_due text p))
unfolding scan_comment scan_word following end_due
comment-scan text p c = rw c (front-none (scan_word text (10 ∷ []) (end_due text p)))

-- Words that a line end stops are passed, and what was passed has no line end.
words-read : (words text : List ℕ) (p q most : ℕ) → has words 10 ≡ false → length words ≤ most → byte_at text q ≡ 10
    → Part text p words q → behind_words text p most ≡ q
unfolding behind_words has byte_at
words-read [] text p q zero none few stops part = omega (arith, part.reaches)
words-read [] text p q (suc most) none few stops part =
    let same : p ≡ q = omega (arith, part.reaches) in
    rw (same, stops)
words-read (b ∷ words) text p q zero none few stops part = absurd (omega arith)
words-read (b ∷ words) text p q (suc most) none few stops part =
    let each = or-false (eqb b 10) (has words 10) none in
    rw (part-head text words b p q part, each.0)
    (words-read words text (p + 1) q most each.1 (omega arith) stops (part-tail text words b p q part))

read-words : (most : ℕ) (text : List ℕ) (p : ℕ) → p + most ≡ length text
    → (words : List ℕ) × (has words 10 ≡ false) × Part text p words (behind_words text p most)
unfolding behind_words has byte_at
read-words zero text p all = ([], refl, part-empty text p (omega arith))
read-words (suc most) text p all = go (eqb (byte_at text p) 10) refl (read-words most text (p + 1) (omega arith))
  where
    go : (b : Bool) → eqb (byte_at text p) 10 ≡ b
        → (words : List ℕ) × (has words 10 ≡ false) × Part text (p + 1) words (behind_words text (p + 1) most)
        → (words : List ℕ) × (has words 10 ≡ false) × Part text p words (pick b p (behind_words text (p + 1) most))
    go true test after = ([], refl, part-empty text p (omega arith))
    go false test (words, none, part) = (
      byte_at text p ∷ words,
      or-neither (eqb (byte_at text p) 10) (has words 10) test none,
      part-cons text words p (behind_words text (p + 1) most) (omega arith) part,
    )

-- What can be written as one comment line.
abbrev pub CommentFits : (comment : Comment) → Type 0
CommentFits alone = Unit {0}
CommentFits (saying words) = has words 10 ≡ false

-- Where a line begins with c, a comment that fits stands there, up to where its line end is due.
pub comment-stands : (text : List ℕ) (p : ℕ) → eqb (byte_at text p) 99 ≡ true
    → (comment : Comment) × CommentFits comment × Part text p (comment_front comment) (end_due text p)
unfolding end_due comment_front
comment-stands text p c = go (eqb (byte_at text (p + 1)) 32) refl
  where
    letter : byte_at text p ≡ 99
    letter = eqb-true (byte_at text p) 99 c

    go : (b : Bool) → eqb (byte_at text (p + 1)) 32 ≡ b
        → (comment : Comment) × CommentFits comment
        × Part text p (comment_front comment) (pick b (behind_words text (p + 1 + 1) (length text - (p + 1 + 1))) (p + 1))
    go true test =
        let space : byte_at text (p + 1) ≡ 32 = eqb-true (byte_at text (p + 1)) 32 test in
        let inside : p + 1 < length text = byte-within text (p + 1) (omega arith) in
        let (words, none, part) = read-words (length text - (p + 1 + 1)) text (p + 1 + 1) (omega arith) in
        let end = behind_words text (p + 1 + 1) (length text - (p + 1 + 1)) in (
          saying words,
          none,
          byte-then text (32 ∷ words) 99 p end letter (omega arith)
              (byte-then text words 32 (p + 1) end space (omega arith) part),
        )
    go false test =
        let before : p < length text = byte-within text p (omega (arith, letter)) in
        (alone, tt, byte-then text [] 99 p (p + 1) letter (omega arith) (part-empty text (p + 1) (omega arith)))

-- The line end of a comment that stands is due where it stands.
end_read : (comment : Comment) (text : List ℕ) (p q : ℕ) → CommentFits comment → Part text p (comment_front comment) q
    → byte_at text q ≡ 10 → end_due text p ≡ q
unfolding end_due comment_front byte_at
end_read alone text p q fits part stops =
    let same : p + 1 ≡ q = omega (arith, part.reaches) in
    rw (same, stops)
end_read (saying words) text p q fits part stops =
    let behind = part-tail text (32 ∷ words) 99 p q part in
    let said = part-tail text words 32 (p + 1) q behind in
    rw (part-head text words 32 (p + 1) q behind)
    (words-read words text (p + 1 + 1) q (length text - (p + 1 + 1)) fits (omega (arith, said.reaches, said.within)) stops said)

-- A comment line begins with c.
comment-letter : (comment : Comment) (text rest : List ℕ) (p q : ℕ) → Part text p (comment_front comment ++ rest) q
    → byte_at text p ≡ 99
unfolding comment_front byte_at
comment-letter alone text rest p q part = part-head text rest 99 p q part
comment-letter (saying words) text rest p q part = part-head text ((32 ∷ words) ++ rest) 99 p q part

-- A comment line that stands in the text is read.
pub comment-read : (comment : Comment) (text : List ℕ) (p q : ℕ) → CommentFits comment → Part text p (comment_line comment) q
    → (eqb (byte_at text p) 99 ≡ true) × (scan_comment text p ≡ reads [] q)
unfolding byte_at
comment-read comment text p q fits part =
    let front = comment_front comment in
    let whole : Part text p (front ++ (10 ∷ [])) q = rw (comment-ends comment) at part in
    let letter = eq-eqb (byte_at text p) 99 (comment-letter comment text (10 ∷ []) p q whole) in
    let e = p + length front in
    let last = part-second text front (10 ∷ []) p q whole in
    let stops : byte_at text e ≡ 10 = part-head text [] 10 e q last in
    let due : end_due text p ≡ e = end_read comment text p e fits (part-first text front (10 ∷ []) p q whole) stops in
    let ends : e + 1 ≡ q = omega (arith, last.reaches) in
    (letter, comment-scan text p letter ∙ rw (due, stops, ends))
