-- How many links of a cut network are kept, dropped and idle: the counts of the marks are those of the forest numbers, and the
-- three are of all the links. Assumes nothing.
use Prim.Native.Nat.{ℕ, suc, ◌+◌, ◌-◌, ◌≤◌, ◌<◌}
use Rattle.std.specs.Prelude.{Bool, true, false, ◌&&◌, List, [], ◌∷◌, map, ◌≡◌, eqb, length, get_or}
use Rattle.std.proofs.Math.Bool.{not}
use Rattle.std.proofs.lemmas.Bool.{false≢true}
use Rattle.std.proofs.Math.Path.{refl, ap}
use Rattle.std.proofs.Common.{sym, ◌∙◌, eq-eqb}
use native.Mathlib.Omega.{arith}
use Rattle.definitions.specs.Outcome.{pick}
use Rattle.definitions.specs.Lists.{table, outside, has, count}
use Rattle.definitions.specs.Network.{linked, serves, link_serves}
use Rattle.definitions.specs.Order.{order_of}
use Rattle.definitions.specs.Forests.{forest_of, mark_of, forests_of, marks_of}
use Rattle.definitions.specs.Keep.{dropped_count, idle_count}
use Rattle.definitions.specs.KeepPromise.{dispensable}
use Rattle.lists.specs.Counting.{count-length, count_same, count-table}
use Rattle.lists.specs.Maps.{get_or-map}
use Rattle.lists.specs.Members.{range-bounds}
use Rattle.lists.specs.Tables.{length-table}
use Rattle.lists.specs.Tests.{or_left, or_right}
use Rattle.theory.proofs.ForestBound.{forests-length, forests-at}
use Rattle.theory.specs.ForestNumbers.{no-forest}

-- The count of the kept is that of the forest numbers 1 to k.
pub count_ones : (k : ℕ) (forests : List ℕ) → count (eqb 1) (map (mark_of k) forests) ≡ count (λ f. not (outside 1 k f)) forests
unfolding count mark_of
count_ones k [] = refl
count_ones k (f ∷ forests) = go (outside 1 k f) (count_ones k forests)
  where
    go : (t : Bool) → count (eqb 1) (map (mark_of k) forests) ≡ count (λ f. not (outside 1 k f)) forests
        → pick (eqb 1 (pick t 0 1)) 1 0 + count (eqb 1) (map (mark_of k) forests)
        ≡ pick (not t) 1 0 + count (λ f. not (outside 1 k f)) forests
    go true h = omega arith
    go false h = omega arith

-- Each entry is one of three: not to go; in service and to go; or not in service, where it is always to go.
count-three : (serving goes : ℕ → Bool) (l : List ℕ) → ((x : ℕ) → has l x ≡ true → serving x ≡ false → goes x ≡ true)
    → count (λ x. not (goes x)) l + (count (λ x. serving x && goes x) l + count (λ x. not (serving x)) l) ≡ length l
unfolding count has
count-three serving goes [] _ = refl
count-three serving goes (x ∷ l) idle =
    go (serving x) (goes x) (idle x (or_left (eqb x x) (has l x) (eq-eqb x x refl)))
    (count-three serving goes l (λ y p. idle y (or_right (eqb x y) (has l y) p)))
  where
    go : (s g : Bool) → (s ≡ false → g ≡ true)
        → count (λ x. not (goes x)) l + (count (λ x. serving x && goes x) l + count (λ x. not (serving x)) l) ≡ length l
        → pick (not g) 1 0 + count (λ x. not (goes x)) l
        + (pick (s && g) 1 0 + count (λ x. serving x && goes x) l + (pick (not s) 1 0 + count (λ x. not (serving x)) l))
        ≡ suc (length l)
    go true true _ h = omega arith
    go true false _ h = omega arith
    go false true _ h = omega arith
    go false false never h = absurd (false≢true (never refl))

-- The idle links one by one: those of `more` links from link i on.
module _ (lows highs states : List ℕ) where
  unfoldable pub idle_from : (i more : ℕ) → ℕ
  idle_from i more = count (λ i. not (link_serves lows highs states i)) (table (λ i. i) i more)

  pub idle-all : idle_count lows highs states ≡ idle_from 0 (length lows)
  unfolding idle_count idle_from
  idle-all = refl

  pub idle-step : (i m : ℕ) → i < m
      → idle_from i (m - i)
      ≡ pick (not (serves states (get_or lows i 0) && serves states (get_or highs i 0))) 1 0 + idle_from (i + 1) (m - (i + 1))
  unfolding idle_from link_serves count table
  idle-step i m h =
      let e : m - i ≡ suc (m - (i + 1)) = omega arith in
      rw e

  pub idle-end : (i m : ℕ) → m ≤ i → idle_from i (m - i) ≡ 0
  unfolding idle_from count table
  idle-end i m h =
      let e : m - i ≡ 0 = omega arith in
      rw e

  pub idle-few : idle_count lows highs states ≤ length lows
  unfolding idle_count
  idle-few =
      let links = table (λ (i : ℕ). i) 0 (length lows) in
      omega (arith, count-length (λ i. not (link_serves lows highs states i)) links, length-table (λ (i : ℕ). i) 0 (length lows))

module _ (n : ℕ) (lows highs states : List ℕ) (k : ℕ) where
  -- The mark of a link, by its forest number.
  pub mark-at : (i : ℕ) → i < length lows
      → get_or (marks_of n lows highs states k) i 0 ≡ pick (dispensable n lows highs states k i) 0 1
  unfolding marks_of mark_of dispensable
  mark-at i h = get_or-map (mark_of k) (forests_of n lows highs states) i 0 0 (omega (arith, forests-length n lows highs states))

  zero-mark : (i : ℕ) → i < length lows → eqb (get_or (marks_of n lows highs states k) i 0) 0 ≡ dispensable n lows highs states k i
  zero-mark i h = ap (λ (mark : ℕ). eqb mark 0) (mark-at i h) ∙ go (dispensable n lows highs states k i)
    where
      go : (t : Bool) → eqb (pick t 0 1) 0 ≡ t
      go true = refl
      go false = refl

  -- The count of the dropped.
  pub count-dropped : dropped_count lows highs states (marks_of n lows highs states k)
      ≡ count (λ i. link_serves lows highs states i && dispensable n lows highs states k i) (table (λ i. i) 0 (length lows))
  unfolding dropped_count
  count-dropped =
      count_same _ _ (table (λ i. i) 0 (length lows))
      (λ i h.
      ap (λ (zero : Bool). link_serves lows highs states i && zero) (zero-mark i (omega (arith, range-bounds 0 (length lows) i h))))

  -- A link with a withdrawn end is in no forest.
  idle-goes : (i : ℕ) → i < length lows → link_serves lows highs states i ≡ false → dispensable n lows highs states k i ≡ true
  unfolding dispensable outside
  idle-goes i h e = rw (forests-at n lows highs states i h ∙ no-forest n lows highs states i h e)

  kept-over : count (λ f. not (outside 1 k f)) (forests_of n lows highs states)
      ≡ count (λ i. not (dispensable n lows highs states k i)) (table (λ i. i) 0 (length lows))
  unfolding forests_of dispensable
  kept-over =
      let forest : ℕ → ℕ = forest_of (linked lows highs) (order_of n lows highs states) lows highs in
      count-table (λ f. not (outside 1 k f)) forest 0 (length lows)
      ∙ count_same _ _ (table (λ i. i) 0 (length lows))
      (λ i h.
      ap (λ (f : ℕ). not (outside 1 k f)) (sym (forests-at n lows highs states i (omega (arith, range-bounds 0 (length lows) i h)))))

  -- The three counts are of all the links.
  pub counts_all : count (eqb 1) (marks_of n lows highs states k)
      + (dropped_count lows highs states (marks_of n lows highs states k) + idle_count lows highs states)
      ≡ length lows
  unfolding marks_of idle_count
  counts_all =
      let links = table (λ (i : ℕ). i) 0 (length lows) in
      omega (
        arith,
        count_ones k (forests_of n lows highs states),
        kept-over,
        count-dropped,
        count-three (link_serves lows highs states) (dispensable n lows highs states k) links
            (λ i h. idle-goes i (omega (arith, range-bounds 0 (length lows) i h))),
        length-table (λ (i : ℕ). i) 0 (length lows),
      )
