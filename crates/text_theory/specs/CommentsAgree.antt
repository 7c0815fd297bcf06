-- Two texts that are alike up to and with byte q, and have that byte: their comment lines are read alike up to there. Both must have the
-- byte, as comments may hold the byte 0 that the reader sees past the end of a text. Assumes nothing.
use Rattle.std.specs.Prelude.{ℕ, zero, suc, ◌+◌, ◌-◌, ◌≤◌, ◌<◌, Bool, true, false, List, [], ◌≡◌, refl, eqb, length}
use Rattle.std.proofs.Common.{◌∙◌, arith, eqb-true}
use Rattle.definitions.specs.Outcome.{pick}
use Rattle.definitions.specs.Form.{Item, departs, reads, byte_at, following, scan_form}
use Rattle.definitions.specs.Dimacs.{behind_words, scan_comment, scan_comments, scan_line}
use Rattle.text_theory.specs.Numbers.{past_end}
use Rattle.text_theory.specs.Looks.{Alike, form-looks}
use Rattle.text_theory.specs.SameReadings.{Agree, looks-agree, following-agree}
use Rattle.text_theory.specs.CommentLine.{end_due, comment-scan}

-- The two texts have the byte at q, and are alike up to it.
pub record AlikeWith (text other : List ℕ) (q : ℕ) : Type 0 where
  pub inside : q < length text
  pub longer : q < length other
  pub alike : Alike text other q

-- The words of a comment lead on; a line end stops them.
words-forward : (most : ℕ) (text : List ℕ) (p : ℕ) → p ≤ behind_words text p most
unfolding behind_words
words-forward zero text p = omega arith
words-forward (suc most) text p = go (eqb (byte_at text p) 10) (words-forward most text (p + 1))
  where
    go : (b : Bool) → p + 1 ≤ behind_words text (p + 1) most → p ≤ pick b p (behind_words text (p + 1) most)
    go true after = omega arith
    go false after = omega arith

words-stop : (most : ℕ) (text : List ℕ) (p : ℕ) → eqb (byte_at text p) 10 ≡ true → behind_words text p most ≡ p
unfolding behind_words
words-stop zero text p stops = refl
words-stop (suc most) text p stops = rw stops

-- Where words do not lead past q, those of the other text lead to the same byte.
words-agree : (most other_most : ℕ) (text other : List ℕ) (p q : ℕ) → AlikeWith text other q → p + most ≡ length text
    → p + other_most ≡ length other → behind_words text p most ≤ q → behind_words other p other_most ≡ behind_words text p most
unfolding behind_words
words-agree zero other_most text other p q both all other_all h = absurd (omega (arith, both.inside))
words-agree (suc most) other_most text other p q both all other_all h =
    go (eqb (byte_at text p) 10) refl h other_most other_all
    (λ fuel left. words-agree most fuel text other (p + 1) q both (omega arith) left)
  where
    go : (b : Bool) → eqb (byte_at text p) 10 ≡ b → pick b p (behind_words text (p + 1) most) ≤ q
        → (fuel : ℕ) → p + fuel ≡ length other
        → ((fuel : ℕ) → p + 1 + fuel ≡ length other → behind_words text (p + 1) most ≤ q
        → behind_words other (p + 1) fuel ≡ behind_words text (p + 1) most)
        → behind_words other p fuel ≡ pick b p (behind_words text (p + 1) most)
    go true test h fuel left hyp = words-stop fuel other p (rw (both.alike p h) test)
    go false test h zero left hyp = absurd (omega (arith, both.longer, words-forward most text (p + 1)))
    go false test h (suc fuel) left hyp =
        let before : p ≤ q = omega (arith, words-forward most text (p + 1)) in
        rw (both.alike p before, test) (hyp fuel (omega arith) h)

-- The line end of a comment line that begins at p is due behind p, and in the other text at the same byte.
due-forward : (text : List ℕ) (p : ℕ) → p + 1 ≤ end_due text p
unfolding end_due
due-forward text p = go (eqb (byte_at text (p + 1)) 32)
  where
    go : (b : Bool) → p + 1 ≤ pick b (behind_words text (p + 1 + 1) (length text - (p + 1 + 1))) (p + 1)
    go true = omega (arith, words-forward (length text - (p + 1 + 1)) text (p + 1 + 1))
    go false = omega arith

due-agrees : (text other : List ℕ) (p q : ℕ) → AlikeWith text other q → end_due text p ≤ q → end_due other p ≡ end_due text p
unfolding end_due
due-agrees text other p q both h = go (eqb (byte_at text (p + 1)) 32) refl h
  where
    next : p + 1 ≤ q
    next = omega (arith, due-forward text p)

    go : (b : Bool) → eqb (byte_at text (p + 1)) 32 ≡ b
        → pick b (behind_words text (p + 1 + 1) (length text - (p + 1 + 1))) (p + 1) ≤ q
        → end_due other p ≡ pick b (behind_words text (p + 1 + 1) (length text - (p + 1 + 1))) (p + 1)
    go true test h =
        rw (both.alike (p + 1) next, test)
        (words-agree (length text - (p + 1 + 1)) (length other - (p + 1 + 1)) text other (p + 1 + 1) q both
        (omega (arith, next, both.inside)) (omega (arith, next, both.longer)) h)
    go false test h = rw (both.alike (p + 1) next, test)

-- A comment line, in the same way.
comment-agrees : (text other : List ℕ) (p q : ℕ) → AlikeWith text other q → eqb (byte_at text p) 99 ≡ true
    → Agree (p + 1) q (scan_comment text p) (scan_comment other p)
comment-agrees text other p q both letter =
    rw (comment-scan text p letter) (go (eqb (byte_at text (end_due text p)) 10) refl)
  where
    same : end_due text p ≤ q
        → scan_comment other p
        ≡ pick (eqb (byte_at text (end_due text p)) 10) (reads [] (end_due text p + 1)) (departs (end_due text p))
    same h =
        let first : eqb (byte_at other p) 99 ≡ true = rw (both.alike p (omega (arith, due-forward text p))) letter in
        comment-scan other p first ∙ rw (due-agrees text other p q both h, both.alike (end_due text p) h)

    go : (b : Bool) → eqb (byte_at text (end_due text p)) 10 ≡ b
        → Agree (p + 1) q (pick b (reads [] (end_due text p + 1)) (departs (end_due text p))) (scan_comment other p)
    go true test = (
      omega (arith, due-forward text p),
      λ h. same (omega arith) ∙ rw test,
    )
    go false test = (due-forward text p, λ h. same h ∙ rw test)

-- Where no comment line begins, none is read.
no-comment : (text : List ℕ) (p most : ℕ) → eqb (byte_at text p) 99 ≡ false → scan_comments text p most ≡ reads [] p
unfolding scan_comments
no-comment text p zero e = refl
no-comment text p (suc most) e = rw e

-- Where one begins, it is read first.
comment-next : (text : List ℕ) (p most : ℕ) → eqb (byte_at text p) 99 ≡ true → length text ≤ p + most
    → scan_comments text p most ≡ following (scan_comment text p) (λ s. scan_comments text s (most - 1))
unfolding scan_comments
comment-next text p zero e h =
    absurd (omega (arith, eqb-true (byte_at text p) 99 e, past_end text p (omega arith)))
comment-next text p (suc most) e h =
    let less : suc most - 1 ≡ most = omega arith in
    rw (less, e)

-- All the comment lines from p on.
within-agree : (most : ℕ) (text other : List ℕ) (p q other_most : ℕ) → AlikeWith text other q → length text ≤ p + most
    → length other ≤ p + other_most → Agree p q (scan_comments text p most) (scan_comments other p other_most)
unfolding scan_comments
within-agree zero text other p q other_most both enough other_enough = (
  omega arith,
  λ h. no-comment other p other_most (rw (both.alike p h, past_end text p (omega arith))),
)
within-agree (suc most) text other p q other_most both enough other_enough =
    go (eqb (byte_at text p) 99) refl (λ s less. within-agree most text other s q less both)
  where
    go : (t : Bool) → eqb (byte_at text p) 99 ≡ t
        → ((s less : ℕ) → length text ≤ s + most → length other ≤ s + less
        → Agree s q (scan_comments text s most) (scan_comments other s less))
        → Agree p q (pick t (following (scan_comment text p) λ s. scan_comments text s most) (reads [] p)) (scan_comments other p other_most)
    go false test hyp = (omega arith, λ h. no-comment other p other_most (rw (both.alike p h) test))
    go true test hyp =
        let rest =
        following-agree (p + 1) q (scan_comment text p) (scan_comment other p) (λ s. scan_comments text s most)
        (λ s. scan_comments other s (other_most - 1)) (comment-agrees text other p q both test)
        (λ s later. hyp s (other_most - 1) (omega arith) (omega arith)) in (
          omega (arith, rest.0),
          λ h. comment-next other p other_most (rw (both.alike p (omega (arith, rest.0))) test) other_enough ∙ rest.1 h,
        )

pub comments-agree : (text other : List ℕ) (p q : ℕ) → AlikeWith text other q
    → Agree p q (scan_comments text p (length text)) (scan_comments other p (length other))
comments-agree text other p q both = within-agree (length text) text other p q (length other) both (omega arith) (omega arith)

-- A line with the comment lines in front of it.
pub line-agrees : (text other : List ℕ) (form : List Item) (p q : ℕ) → AlikeWith text other q
    → Agree p q (scan_line text form p) (scan_line other form p)
unfolding scan_line
line-agrees text other form p q both =
    following-agree p q (scan_comments text p (length text)) (scan_comments other p (length other)) (scan_form text form)
    (scan_form other form) (comments-agree text other p q both)
    (λ s _. looks-agree text other s q (λ t. scan_form t form s) (scan_form text form s) (form-looks form text s) both.alike)
