-- The links of lists that see each other, found row by row in rising order with cursors (document 02, #108): what is found so far and
-- what is yet to come are the whole. `left` is what is left of row a's own list; `count` rows come behind it. Assumes nothing.
use Rattle.std.specs.Prelude.{ℕ, suc, ◌+◌, ◌≤◌, ◌<◌, Bool, false, ◌&&◌, ◌≡◌, refl, ltb, length, replicate}
use Rattle.std.proofs.Math.Bool.{true}
use mathlib.Core.List.{List, [], ◌∷◌, ◌++◌, append-nil}
use Rattle.std.proofs.Math.Path.{sym, ap}
use Rattle.std.proofs.Common.{◌∙◌, le-ltb, lt-ltb}
use Rattle.std.proofs.Math.Seq.{append_snoc}
use Rattle.definitions.specs.Lists.{cons_if, keep, has}
use Rattle.definitions.specs.Rising.{highs_from, lows_from}
use Rattle.lists.specs.Ascending.{Ascending}
use Rattle.lists.specs.Cursors.{row-left}

-- Each of the two sees the other.
abbrev pub mutual_link : (seen : ℕ → List ℕ) (a b : ℕ) → Bool
mutual_link seen a b = ltb a b && (has (seen a) b && has (seen b) a)

-- What b of a's own list makes a link with low end a.
abbrev pub back_test : (seen : ℕ → List ℕ) (a b : ℕ) → Bool
back_test seen a b = ltb a b && has (seen b) a

-- The highs, or the lows, of what is left of row a and of the rows behind it.
abbrev highs_ahead : (seen : ℕ → List ℕ) (n a count : ℕ) (left : List ℕ) → List ℕ
highs_ahead seen n a count left = keep (back_test seen a) left ++ highs_from n (mutual_link seen) (a + 1) count

abbrev lows_ahead : (seen : ℕ → List ℕ) (n a count : ℕ) (left : List ℕ) → List ℕ
lows_ahead seen n a count left = replicate (length (keep (back_test seen a) left)) a ++ lows_from n (mutual_link seen) (a + 1) count

-- Within row a.
pub record Merging (seen : ℕ → List ℕ) (n a count : ℕ) (lows highs left : List ℕ) : Type 0 where
  pub highs_whole : highs_from n (mutual_link seen) 0 n ≡ highs ++ highs_ahead seen n a count left
  pub lows_whole : lows_from n (mutual_link seen) 0 n ≡ lows ++ lows_ahead seen n a count left

-- Between two rows: row a comes next.
pub record Merged (seen : ℕ → List ℕ) (n a count : ℕ) (lows highs : List ℕ) : Type 0 where
  pub highs_whole : highs_from n (mutual_link seen) 0 n ≡ highs ++ highs_from n (mutual_link seen) a count
  pub lows_whole : lows_from n (mutual_link seen) 0 n ≡ lows ++ lows_from n (mutual_link seen) a count

-- At the start nothing is found; with no row left all is found.
pub merged-start : (seen : ℕ → List ℕ) (n : ℕ) → Merged seen n 0 n [] []
merged-start seen n = record { highs_whole = refl; lows_whole = refl }

pub merged-end : (seen : ℕ → List ℕ) (n a : ℕ) (lows highs : List ℕ) → Merged seen n a 0 lows highs
    → (lows_from n (mutual_link seen) 0 n ≡ lows) × (highs_from n (mutual_link seen) 0 n ≡ highs)
unfolding highs_from lows_from
merged-end seen n a lows highs inv = (inv.lows_whole ∙ append-nil lows, inv.highs_whole ∙ append-nil highs)

module _ (seen : ℕ → List ℕ) (n a count : ℕ) (lows highs : List ℕ) where
  -- A row begins with a list of what a sees above itself.
  pub row-begins : (own : List ℕ) → Ascending own → ((x : ℕ) → a < x → has own x ≡ has (seen a) x)
      → ((x : ℕ) → has (seen a) x ≡ true → x < n)
      → Merged seen n a (suc count) lows highs → Merging seen n a count lows highs own
  unfolding highs_from lows_from
  row-begins own rises same within inv =
      let row = row-left seen a own rises same n within in
      record {
        highs_whole = inv.highs_whole ∙ ap (λ (l : List ℕ). highs ++ (l ++ highs_from n (mutual_link seen) (a + 1) count)) row;
        lows_whole = inv.lows_whole ∙ ap (λ (l : List ℕ). lows ++ (replicate (length l) a ++ lows_from n (mutual_link seen) (a + 1) count)) row;
      }

  -- A row ends where its list does.
  pub row_ends : Merging seen n a count lows highs [] → Merged seen n (a + 1) count lows highs
  unfolding keep
  row_ends inv = record { highs_whole = inv.highs_whole; lows_whole = inv.lows_whole }

  module _ (b : ℕ) (left : List ℕ) (inv : Merging seen n a count lows highs (b ∷ left)) where
    -- The next number makes no link: it is not above a, or does not see a.
    passed : back_test seen a b ≡ false → Merging seen n a count lows highs left
    unfolding keep cons_if
    passed e = record { highs_whole = rw e at inv.highs_whole; lows_whole = rw e at inv.lows_whole }

    pub row-skips : b ≤ a → Merging seen n a count lows highs left
    row-skips less = passed (rw (le-ltb a b less))

    pub row-misses : a < b → has (seen b) a ≡ false → Merging seen n a count lows highs left
    row-misses more none = passed (rw (lt-ltb a b more, none))

    -- It makes one: a goes behind the lows and b behind the highs.
    pub row-takes : a < b → has (seen b) a ≡ true → Merging seen n a count (lows ++ (a ∷ [])) (highs ++ (b ∷ [])) left
    unfolding keep cons_if
    row-takes more back =
        let found : back_test seen a b ≡ true = rw (lt-ltb a b more, back) in
        let highest : highs_from n (mutual_link seen) 0 n ≡ highs ++ (b ∷ highs_ahead seen n a count left) = rw found at inv.highs_whole in
        let lowest : lows_from n (mutual_link seen) 0 n ≡ lows ++ (a ∷ lows_ahead seen n a count left) = rw found at inv.lows_whole in
        record {
          highs_whole = highest ∙ sym (append_snoc highs b (highs_ahead seen n a count left));
          lows_whole = lowest ∙ sym (append_snoc lows a (lows_ahead seen n a count left));
        }
