-- Two relays are in one tree of a forest, as joined by its links, exactly if the test on their places says so.
-- Over any order; then for the base and accepted networks.
use Rattle.std.specs.Prelude.{ℕ, ◌≤◌, ◌<◌, min, max, true, List, ◌↔◌, ◌≢◌, ◌≡◌, length}
use Rattle.std.proofs.Math.Logic.{by_cases}
use Rattle.std.proofs.Math.Logic.Iff
use Rattle.std.proofs.Common.{◌∙◌, subst₂, arith}
use Rattle.std.proofs.Math.Decide.{dec_lt}
use Rattle.definitions.specs.Lists.{has}
use Rattle.definitions.specs.Network.{linked, Accepted, Serving}
use Rattle.definitions.specs.Order.{order_of, place_of, relay_at}
use Rattle.definitions.specs.Forests.{earlier, one_tree}
use Rattle.definitions.specs.Route.{left_of, one_tree_of}
use Rattle.definitions.specs.Demand.{Joined, OneTree}
use Rattle.theory.specs.JoinedRelays.{joined-sym, joined-map}
use Rattle.theory.specs.LeftLaws.{LeftLaws}
use Rattle.theory.proofs.Trees.{Alive, TreeLink, tree_link-sym, chain-alive, one_tree-alive, one_tree-sym}
use Rattle.theory.specs.Ordering.{order-has}
use Rattle.theory.specs.Places.{relay-of-place, places-apart}
use Rattle.theory.specs.Left.{left-count}
use Rattle.theory.specs.ForestNumbers.{AllPlaced, forest-placed}
use Rattle.theory.specs.Arranged.{left_in, Arranged, base-arranged}
use Rattle.theory.proofs.Columns.{NumberedIn, Numbered}
use Rattle.theory.proofs.TableLinks.{forest-link, forest-places}

-- The places above the earlier of two, up to the later.
abbrev pub AliveBetween : (left : ℕ → ℕ → ℕ) (i p q : ℕ) → Type 0
AliveBetween left i p q = Alive left i (min p q) (max p q)

module _ (left : ℕ → ℕ → ℕ) (laws : LeftLaws left) (i p q : ℕ) (one : 1 ≤ p) (other : 1 ≤ q) (differ : p ≢ q) where
  -- What holds of a later and an earlier place, and does not depend on which is named first, holds of both.
  either_order : (P : ℕ → ℕ → Type 0) → (P p q ↔ P q p)
      → ((t s : ℕ) → 1 ≤ t → t < s → P t s ↔ Alive left i t s) → P p q ↔ AliveBetween left i p q
  either_order P turn ordered =
      by_cases (dec_lt p q)
      (λ less.
      let low : p ≡ min p q = omega arith in
      let high : q ≡ max p q = omega arith in
      subst₂ (λ (t s : ℕ). P p q ↔ Alive left i t s) low high (ordered p q one less))
      (λ more.
      let low : q ≡ min p q = omega arith in
      let high : p ≡ max p q = omega arith in
      Iff.trans turn (subst₂ (λ (t s : ℕ). P q p ↔ Alive left i t s) low high (ordered q p other (omega arith))))

  chain-between : Joined (λ _. Unit {0}) (TreeLink left i) p q ↔ AliveBetween left i p q
  chain-between =
      either_order (Joined (λ _. Unit {0}) (TreeLink left i))
      (joined-sym (tree_link-sym left i), joined-sym (tree_link-sym left i))
      (chain-alive left laws i)

  test-between : (one_tree left i p q ≡ true) ↔ AliveBetween left i p q
  test-between =
      either_order (λ a b. one_tree left i a b ≡ true)
      (λ e. one_tree-sym left i q p ∙ e, λ e. one_tree-sym left i p q ∙ e)
      (one_tree-alive left laws i)

module _ (order lows highs : List ℕ) (arranged : Arranged order lows highs)
    (forests : List ℕ) (numbered : NumberedIn order lows highs forests) (f : ℕ) (all : AllPlaced order lows highs f)
    (a b : ℕ) (ha : has order a ≡ true) (hb : has order b ≡ true) where
  -- A chain of links of forest f, over relays and over places.
  tree-chain : OneTree lows highs forests f a b
      ↔ Joined (λ _. Unit {0}) (TreeLink (left_in order lows highs) f) (place_of order a) (place_of order b)
  tree-chain = (
    joined-map (place_of order) (λ r l. tt) (forest-places order lows highs arranged forests numbered f all),
    λ chain. subst₂ (λ (x y : ℕ). OneTree lows highs forests f x y) (relay-of-place order a ha).2 (relay-of-place order b hb).2
        (joined-map (relay_at order) (λ r l. tt) (forest-link order lows highs arranged forests numbered f) chain),
  )

  module _ (differ : a ≢ b) where
    pub tree-alive : OneTree lows highs forests f a b ↔ AliveBetween (left_in order lows highs) f (place_of order a) (place_of order b)
    tree-alive =
        Iff.trans tree-chain
        (chain-between (left_in order lows highs) arranged.laws f (place_of order a) (place_of order b)
        (relay-of-place order a ha).0 (relay-of-place order b hb).0 (places-apart order a b ha hb differ))

    pub tree-test : OneTree lows highs forests f a b ↔ (one_tree (left_in order lows highs) f (place_of order a) (place_of order b) ≡ true)
    tree-test =
        Iff.trans tree-alive
        (Iff.symm
        (test-between (left_in order lows highs) arranged.laws f (place_of order a) (place_of order b)
        (relay-of-place order a ha).0 (relay-of-place order b hb).0 (places-apart order a b ha hb differ)))

    -- Two relays are in one tree of forest f exactly if every place after the earlier up to the later has at least f earlier
    -- neighbours (document 002, lemma 1).
    pub tree-neighbours : 1 ≤ f → OneTree lows highs forests f a b
        ↔ ((x : ℕ) → min (place_of order a) (place_of order b) < x → x ≤ max (place_of order a) (place_of order b)
        → f ≤ length (earlier (linked lows highs) order x))
    tree-neighbours one = (
      λ tree x over upto. (left-count (linked lows highs) order f x one).0 (tree-alive.0 tree x over upto),
      λ counts. tree-alive.1 (λ x over upto. (left-count (linked lows highs) order f x one).1 (counts x over upto)),
    )

-- The base.
pub places-differ : (n : ℕ) (lows highs states : List ℕ) (a b : ℕ) → Serving n states a → Serving n states b → a ≢ b
    → place_of (order_of n lows highs states) a ≢ place_of (order_of n lows highs states) b
places-differ n lows highs states a b ha hb =
    places-apart (order_of n lows highs states) a b (order-has n lows highs states a ha) (order-has n lows highs states b hb)

module _ (n : ℕ) (lows highs states : List ℕ) (ok : Accepted n lows highs states) (forests : List ℕ) (numbered : Numbered n lows highs states forests)
    (f : ℕ) (one : 1 ≤ f) (a b : ℕ) (ha : Serving n states a) (hb : Serving n states b) (differ : a ≢ b) where
  all_placed : AllPlaced (order_of n lows highs states) lows highs f
  all_placed = forest-placed (order_of n lows highs states) lows highs f one

  pub one-tree-alive : OneTree lows highs forests f a b
      ↔ AliveBetween (left_of n lows highs states) f (place_of (order_of n lows highs states) a) (place_of (order_of n lows highs states) b)
  unfolding left_of
  one-tree-alive =
      tree-alive (order_of n lows highs states) lows highs (base-arranged n lows highs states ok) forests numbered f all_placed a b
      (order-has n lows highs states a ha) (order-has n lows highs states b hb) differ

  pub one-tree-test : OneTree lows highs forests f a b ↔ (one_tree_of n lows highs states f a b ≡ true)
  unfolding one_tree_of left_of
  one-tree-test =
      tree-test (order_of n lows highs states) lows highs (base-arranged n lows highs states ok) forests numbered f all_placed a b
      (order-has n lows highs states a ha) (order-has n lows highs states b hb) differ

  pub one-tree-neighbours : OneTree lows highs forests f a b
      ↔ ((x : ℕ) → min (place_of (order_of n lows highs states) a) (place_of (order_of n lows highs states) b) < x
      → x ≤ max (place_of (order_of n lows highs states) a) (place_of (order_of n lows highs states) b)
      → f ≤ length (earlier (linked lows highs) (order_of n lows highs states) x))
  one-tree-neighbours =
      tree-neighbours (order_of n lows highs states) lows highs (base-arranged n lows highs states ok) forests numbered f all_placed a b
      (order-has n lows highs states a ha) (order-has n lows highs states b hb) differ one
