-- The links of a table: which link joins two relays, either way round, and that of an accepted table at most one does.
use Rattle.std.specs.Prelude.{ℕ, ◌<◌, ◌||◌, List, ◌⊎◌, ◌≡◌, length, get_or}
use Rattle.std.proofs.Math.Bool.{true}
use Rattle.std.proofs.Math.Logic.{inl, inr}
use Rattle.std.proofs.Common.{sym, ◌∙◌, arith}
use borrow.Author.Tests.{eqb-true, eq-eqb}
use Rattle.std.proofs.Math.Dec.{eqb}
use Rattle.definitions.specs.Network.{is_pair, joins, linked, touches}
use Rattle.lists.specs.Tests.{or_left, or_right, or-either, and_both, and-all}
use Rattle.lists.specs.Below.{below-some, below-which}
use Rattle.theory.specs.Accepted.{ProperTable, same-link}

module _ (lows highs : List ℕ) where
  pub pair_ends : (a b i : ℕ) → is_pair lows highs a b i ≡ true → (get_or lows i 0 ≡ a) × (get_or highs i 0 ≡ b)
  unfolding is_pair
  pair_ends a b i h =
      let both = and_both (eqb (get_or lows i 0) a) (eqb (get_or highs i 0) b) h in
      (eqb-true (get_or lows i 0) a both.0, eqb-true (get_or highs i 0) b both.1)

  pub ends-pair : (a b i : ℕ) → get_or lows i 0 ≡ a → get_or highs i 0 ≡ b → is_pair lows highs a b i ≡ true
  unfolding is_pair
  ends-pair a b i p q =
      and-all (eqb (get_or lows i 0) a) (eqb (get_or highs i 0) b) (eq-eqb (get_or lows i 0) a p) (eq-eqb (get_or highs i 0) b q)

  -- The two ends of a link that joins a and b.
  pub joins-ends : (a b i : ℕ) → joins lows highs a b i ≡ true
      → ((get_or lows i 0 ≡ a) × (get_or highs i 0 ≡ b)) ⊎ ((get_or lows i 0 ≡ b) × (get_or highs i 0 ≡ a))
  unfolding joins
  joins-ends a b i h = go (or-either (is_pair lows highs a b i) (is_pair lows highs b a i) h)
    where
      go : (is_pair lows highs a b i ≡ true) ⊎ (is_pair lows highs b a i ≡ true)
          → ((get_or lows i 0 ≡ a) × (get_or highs i 0 ≡ b)) ⊎ ((get_or lows i 0 ≡ b) × (get_or highs i 0 ≡ a))
      go (inl e) = inl (pair_ends a b i e)
      go (inr e) = inr (pair_ends b a i e)

  pub joins-low-high : (a b i : ℕ) → get_or lows i 0 ≡ a → get_or highs i 0 ≡ b → joins lows highs a b i ≡ true
  unfolding joins
  joins-low-high a b i p q = or_left (is_pair lows highs a b i) (is_pair lows highs b a i) (ends-pair a b i p q)

  pub joins-high-low : (a b i : ℕ) → get_or lows i 0 ≡ b → get_or highs i 0 ≡ a → joins lows highs a b i ≡ true
  unfolding joins
  joins-high-low a b i p q = or_right (is_pair lows highs a b i) (is_pair lows highs b a i) (ends-pair b a i p q)

  pub joins-sym : (a b i : ℕ) → joins lows highs a b i ≡ true → joins lows highs b a i ≡ true
  joins-sym a b i h = go (joins-ends a b i h)
    where
      go : ((get_or lows i 0 ≡ a) × (get_or highs i 0 ≡ b)) ⊎ ((get_or lows i 0 ≡ b) × (get_or highs i 0 ≡ a))
          → joins lows highs b a i ≡ true
      go (inl e) = joins-high-low b a i e.0 e.1
      go (inr e) = joins-low-high b a i e.0 e.1

  -- A link that joins a and b has a as an end, and what has r as an end has it as its low or its high relay.
  pub joins-touch : (a b i : ℕ) → joins lows highs a b i ≡ true → touches lows highs a i ≡ true
  unfolding touches
  joins-touch a b i h = go (joins-ends a b i h)
    where
      go : ((get_or lows i 0 ≡ a) × (get_or highs i 0 ≡ b)) ⊎ ((get_or lows i 0 ≡ b) × (get_or highs i 0 ≡ a))
          → (eqb (get_or lows i 0) a || eqb (get_or highs i 0) a) ≡ true
      go (inl e) = or_left (eqb (get_or lows i 0) a) (eqb (get_or highs i 0) a) (eq-eqb (get_or lows i 0) a e.0)
      go (inr e) = or_right (eqb (get_or lows i 0) a) (eqb (get_or highs i 0) a) (eq-eqb (get_or highs i 0) a e.1)

  pub touch-ends : (r i : ℕ) → touches lows highs r i ≡ true → (get_or lows i 0 ≡ r) ⊎ (get_or highs i 0 ≡ r)
  unfolding touches
  touch-ends r i h = go (or-either (eqb (get_or lows i 0) r) (eqb (get_or highs i 0) r) h)
    where
      go : (eqb (get_or lows i 0) r ≡ true) ⊎ (eqb (get_or highs i 0) r ≡ true) → (get_or lows i 0 ≡ r) ⊎ (get_or highs i 0 ≡ r)
      go (inl e) = inl (eqb-true (get_or lows i 0) r e)
      go (inr e) = inr (eqb-true (get_or highs i 0) r e)

  pub joined-linked : (a b i : ℕ) → i < length lows → joins lows highs a b i ≡ true → linked lows highs a b ≡ true
  unfolding linked
  joined-linked a b i h e = below-some (joins lows highs a b) (length lows) i h e

  pub linked-joined : (a b : ℕ) → linked lows highs a b ≡ true → (i : ℕ) × (i < length lows) × (joins lows highs a b i ≡ true)
  unfolding linked
  linked-joined a b h = below-which (joins lows highs a b) (length lows) h

-- "at most one for each two"
pub one_link : (n : ℕ) (lows highs : List ℕ) → ProperTable n lows highs → (a b i j : ℕ)
    → i < length lows → j < length lows → joins lows highs a b i ≡ true → joins lows highs a b j ≡ true → i ≡ j
one_link n lows highs t a b i j h k p q = go (joins-ends lows highs a b i p) (joins-ends lows highs a b j q)
  where
    go : ((get_or lows i 0 ≡ a) × (get_or highs i 0 ≡ b)) ⊎ ((get_or lows i 0 ≡ b) × (get_or highs i 0 ≡ a))
        → ((get_or lows j 0 ≡ a) × (get_or highs j 0 ≡ b)) ⊎ ((get_or lows j 0 ≡ b) × (get_or highs j 0 ≡ a))
        → i ≡ j
    go (inl e) (inl f) = same-link n lows highs t i j h k (e.0 ∙ sym f.0) (e.1 ∙ sym f.1)
    go (inr e) (inr f) = same-link n lows highs t i j h k (e.0 ∙ sym f.0) (e.1 ∙ sym f.1)
    go (inl e) (inr f) = absurd (omega (arith, t.ordered i h, t.ordered j k, e.0, e.1, f.0, f.1))
    go (inr e) (inl f) = absurd (omega (arith, t.ordered i h, t.ordered j k, e.0, e.1, f.0, f.1))
