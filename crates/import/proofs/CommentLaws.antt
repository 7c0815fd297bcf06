-- How the definition reads a comment line, all of them, and the line behind them, by what each step gave.
use Prim.Native.Nat.{ℕ, zero, suc, ◌+◌, ◌-◌, ◌≤◌, ◌<◌}
use mathlib.Core.List.{List, []}
use mathlib.Core.Path.{◌≡◌, refl, sym, ◌∙◌, ap}
use native.Mathlib.Omega.{arith}
use lib.ListN.{length}
use lib.Dec.{eqb}
use borrow.Author.Tests.{eq-eqb, ne_eqb}
use mathlib.Core.Bool.{Bool, true, false}
use Rattle.definitions.specs.Outcome.{pick}
use Rattle.text_theory.specs.CommentLine.{end_due, comment-scan}
use Rattle.text_theory.specs.Numbers.{byte-within}
use Rattle.definitions.specs.Form.{bytes, Item, departs, reads, byte_at, scan_word, following, scan_form}
use Rattle.definitions.specs.Dimacs.{behind_words, scan_comment, scan_comments, scan_line}
use Rattle.text.specs.ItemByItem.{following-departs, following-plain}

-- The bytes of a comment: a line end, the end of the text, another byte.
pub words-stop : (text : List ℕ) (p most : ℕ) → byte_at text p ≡ 10 → behind_words text p most ≡ p
unfolding behind_words
words-stop text p zero e = refl
words-stop text p (suc most) e = rw (eq-eqb (byte_at text p) 10 e)

pub words-end : (text : List ℕ) (p most : ℕ) → most ≡ 0 → behind_words text p most ≡ p
unfolding behind_words
words-end text p most e = rw e

pub words_step : (text : List ℕ) (p most : ℕ) → (byte_at text p ≡ 10 → ⊥)
    → behind_words text p (suc most) ≡ behind_words text (p + 1) most
unfolding behind_words
words_step text p most e = rw (ne_eqb (byte_at text p) 10 e)

-- They lead on.
words-forward : (text : List ℕ) (p most : ℕ) → p ≤ behind_words text p most
unfolding behind_words
words-forward text p zero = omega arith
words-forward text p (suc most) = go (eqb (byte_at text p) 10) (words-forward text (p + 1) most)
  where
    go : (b : Bool) → p + 1 ≤ behind_words text (p + 1) most → p ≤ pick b p (behind_words text (p + 1) most)
    go true after = omega arith
    go false after = omega arith

-- The line end of a comment line is due behind its c.
due-forward : (text : List ℕ) (p : ℕ) → p < end_due text p
unfolding end_due
due-forward text p = go (eqb (byte_at text (p + 1)) 32)
  where
    go : (b : Bool) → p < pick b (behind_words text (p + 1 + 1) (length text - (p + 1 + 1))) (p + 1)
    go true = omega (arith, words-forward text (p + 1 + 1) (length text - (p + 1 + 1)))
    go false = omega arith

-- A comment line that is read ends behind its c.
pub comment-forward : (text : List ℕ) (p q : ℕ) → byte_at text p ≡ 99 → scan_comment text p ≡ reads [] q → p < q
comment-forward text p q c e = go (eqb (byte_at text (end_due text p)) 10) (sym (comment-scan text p (eq-eqb (byte_at text p) 99 c)) ∙ e)
  where
    go : (b : Bool) → pick b (reads [] (end_due text p + 1)) (departs (end_due text p)) ≡ reads [] q → p < q
    go true same = let ends : end_due text p + 1 ≡ q = cc in omega (arith, due-forward text p)
    go false same = let z : ◌≡◌ {A = ℕ} 0 1 = cc in absurd (omega arith)

-- A comment line: no c, words behind a space, or c alone.
module _ (text : List ℕ) (p q : ℕ) where
  pub comment-departs : scan_word text (bytes "c") p ≡ departs q → scan_comment text p ≡ departs q
  unfolding scan_comment
  comment-departs e = following-departs (scan_word text (bytes "c") p) _ q e

  pub comment-words : scan_word text (bytes "c") p ≡ reads [] q → byte_at text q ≡ 32
      → scan_comment text p ≡ scan_word text (bytes "\n") (behind_words text (q + 1) (length text - (q + 1)))
  unfolding scan_comment
  comment-words e space =
      following-plain (scan_word text (bytes "c") p) _ q e ∙ rw (eq-eqb (byte_at text q) 32 space)

  pub comment-alone : scan_word text (bytes "c") p ≡ reads [] q → (byte_at text q ≡ 32 → ⊥)
      → scan_comment text p ≡ scan_word text (bytes "\n") q
  unfolding scan_comment
  comment-alone e other = following-plain (scan_word text (bytes "c") p) _ q e ∙ rw (ne_eqb (byte_at text q) 32 other)

-- The comment lines from offset p on are the whole reading, which has enough turns left.
pub record CommentsFrom (text : List ℕ) (at p : ℕ) : Type 0 where
  pub left : ℕ
  pub enough : length text ≤ p + left
  pub whole : scan_comments text at (length text) ≡ scan_comments text p left

pub comments-begin : (text : List ℕ) (at : ℕ) → CommentsFrom text at at
comments-begin text at = record { left = length text; enough = omega arith; whole = refl }

-- Another line, a comment line that departs, one more.
module _ (text : List ℕ) (at p : ℕ) (from : CommentsFrom text at p) where
  pub comments-stop : (byte_at text p ≡ 99 → ⊥) → scan_comments text at (length text) ≡ reads [] p
  unfolding scan_comments
  comments-stop e = from.whole ∙ go from.left
    where
      go : (most : ℕ) → scan_comments text p most ≡ reads [] p
      go zero = refl
      go (suc most) = rw (ne_eqb (byte_at text p) 99 e)

  module _ (c : byte_at text p ≡ 99) (q : ℕ) where
    begun : scan_comments text at (length text) ≡ following (scan_comment text p) (λ s. scan_comments text s (from.left - 1))
    unfolding scan_comments
    begun =
        let more : from.left ≡ suc (from.left - 1) = omega (arith, from.enough, byte-within text p (omega (arith, c))) in
        from.whole ∙ ap (scan_comments text p) more ∙ rw (eq-eqb (byte_at text p) 99 c)

    pub comments-departs : scan_comment text p ≡ departs q → scan_comments text at (length text) ≡ departs q
    comments-departs e = begun ∙ following-departs (scan_comment text p) _ q e

    pub comments-step : scan_comment text p ≡ reads [] q → CommentsFrom text at q
    comments-step e =
        record {
          left = from.left - 1;
          enough = omega (arith, from.enough, comment-forward text p q c e);
          whole = begun ∙ following-plain (scan_comment text p) _ q e;
        }

-- A line behind its comments.
module _ (text : List ℕ) (form : List Item) (p q : ℕ) where
  pub line-departs : scan_comments text p (length text) ≡ departs q → scan_line text form p ≡ departs q
  unfolding scan_line
  line-departs e = following-departs (scan_comments text p (length text)) _ q e

  pub line_reads : scan_comments text p (length text) ≡ reads [] q → scan_line text form p ≡ scan_form text form q
  unfolding scan_line
  line_reads e = following-plain (scan_comments text p (length text)) _ q e
