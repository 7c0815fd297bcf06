-- What the theory of forests, trees, routes and the certificate asks of an order and a table; the order as defined has it.
-- The order need not have every relay: the theory speaks of the relays of the order, and of the links with both ends in it.
use Rattle.std.specs.Prelude.{ℕ, ◌≤◌, ◌<◌, true, List, ◌≡◌, length}
use Rattle.std.proofs.Common.{arith}
use Rattle.definitions.specs.Lists.{has, NoRepeat}
use Rattle.definitions.specs.Network.{joins, linked, Accepted}
use Rattle.definitions.specs.Order.{placed_after, serving_relays, first_relay, order_of}
use Rattle.definitions.specs.Forests.{left}
use Rattle.theory.specs.LeftLaws.{LeftLaws}
use Rattle.theory.specs.Accepted.{LowBelowHigh, ProperTable, accepted}
use Rattle.theory.specs.Ordering.{placed-length, placed-no-repeat, placed-maximal}
use Rattle.theory.specs.ServingRelays.{serving-once, first-of-all}
use Rattle.theory.specs.Left.{laws-of-left}
use Rattle.theory.specs.Links.{one_link}
use Rattle.theory.specs.ForestNumbers.{Placed, LinkFacts, link-facts}

-- left(i, v) of a table and an order.
abbrev pub left_in : (order lows highs : List ℕ) (i v : ℕ) → ℕ
left_in order lows highs = left (linked lows highs) order

pub record Arranged (order lows highs : List ℕ) : Type 0 where
  -- No relay has two places.
  pub unique : NoRepeat order
  -- "A link joins two different relays", "held as its low and its high relay number",
  pub ordered : LowBelowHigh lows highs
  -- "at most one for each two".
  pub once : (a b i j : ℕ) → i < length lows → j < length lows → joins lows highs a b i ≡ true → joins lows highs a b j ≡ true → i ≡ j
  -- The order is maximal, as left shows it.
  pub laws : LeftLaws (left_in order lows highs)

pub arranged-forest : (order lows highs : List ℕ) → Arranged order lows highs
    → (i : ℕ) → i < length lows → Placed order lows highs i → LinkFacts order lows highs i
arranged-forest order lows highs arranged i h placed =
    let less = arranged.ordered i h in
    link-facts order lows highs i h placed (omega arith)

-- The order as defined has it, whichever relay is first, whichever are candidates, and after any number of steps.
pub arranged-placed : (n : ℕ) (lows highs : List ℕ) → ProperTable n lows highs → (first : ℕ) (candidates : List ℕ) → NoRepeat candidates
    → (0 < length candidates → has candidates first ≡ true) → (steps : ℕ) → steps ≤ length candidates
    → Arranged (placed_after (linked lows highs) first candidates steps) lows highs
arranged-placed n lows highs proper first candidates unique first_in steps few =
    let order = placed_after (linked lows highs) first candidates steps in
    record {
      unique = placed-no-repeat (linked lows highs) first candidates unique first_in steps few;
      ordered = proper.ordered;
      once = one_link n lows highs proper;
      laws =
          laws-of-left (linked lows highs) order
          (λ v w less within.
          placed-maximal (linked lows highs) first candidates unique first_in steps v w few less
          (omega (arith, placed-length (linked lows highs) first candidates steps)));
    }

pub base-arranged : (n : ℕ) (lows highs states : List ℕ) → Accepted n lows highs states → Arranged (order_of n lows highs states) lows highs
unfolding order_of
base-arranged n lows highs states ok =
    arranged-placed n lows highs (accepted n lows highs states ok) (first_relay n lows highs states) (serving_relays n states)
    (serving-once n states) (first-of-all n states lows highs) (length (serving_relays n states)) (omega arith)
