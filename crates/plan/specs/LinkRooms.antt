-- Route with links, called with a list of at least 1,030 links, which is long enough for every network and every k: it answers as
-- Route does. Assumes nothing.
use Rattle.std.specs.Prelude.{ℕ, ◌+◌, ◌-◌, ◌≤◌, Bool, ◌&&◌, ◌||◌, not, List, [], ◌∷◌, ◌≡◌, eqb, length}
use Rattle.std.proofs.Math.Bool.{false}
use Rattle.std.proofs.Common.{◌∙◌, arith}
use Rattle.std.proofs.Math.Path.{ap}
use borrow.Author.Tests.{le-ltb}
use Rattle.std.proofs.Math.Dec.{ltb, leb}
use Rattle.definitions.specs.Outcome.{done, Answer, refuse_if}
use Rattle.definitions.specs.Lists.{outside, join_all}
use Rattle.definitions.specs.Network.{serves, table_check}
use Rattle.definitions.specs.Route.{routes_of, one_tree_of, too_short, route_unless, route_answer}
use Rattle.definitions.specs.Over.{links_too_short, route_links_answer}
use Rattle.lists.specs.SameOutcomes.{refuse-same, then_same}
use Rattle.lists.specs.Tests.{or-none}
use Rattle.lists.specs.Ranges.{inside-range}
use Rattle.theory.specs.Accepted.{check-accepts, accepted}
use Rattle.theory.specs.RoutePassed.{RoutePassed, unless-passed}

module _ (n : ℕ) (lows highs states : List ℕ) (k from to : ℕ) (counts relays links scratch : List ℕ) where
  links-fit : n ≤ 1000 → k ≤ 32 → 1030 ≤ length links → links_too_short n k counts relays links scratch ≡ too_short n k counts relays scratch
  unfolding links_too_short
  links-fit few most roomy =
      let fits : ltb (length links) (n - 2 + k) ≡ false = le-ltb (length links) (n - 2 + k) (omega arith) in
      ap (λ (b : Bool). too_short n k counts relays scratch || b) fits ∙ or-none (too_short n k counts relays scratch)

  pub links-answer : 1030 ≤ length links
      → route_links_answer n lows highs states k from to counts relays links scratch ≡ route_answer n lows highs states k from to counts relays scratch
  unfolding route_links_answer route_answer route_unless
  links-answer roomy =
      let answered : Answer = done (length (join_all (routes_of n lows highs states k from to)) ∷ []) in
      let last : Answer = refuse_if (not (one_tree_of n lows highs states k from to)) 13 0 answered in
      then_same (table_check n lows highs states) _ _
      (λ values e. refuse-same (outside 1 32 k) 9 0 _ _
      (λ range. refuse-same (leb n from || leb n to) 10 0 _ _
      (λ _. refuse-same (eqb from to) 11 0 _ _
      (λ _. refuse-same (not (serves states from && serves states to)) 17 0 _ _
      (λ _. ap (λ (short : Bool). refuse_if short 12 0 last)
      (links-fit (accepted n lows highs states (check-accepts n lows highs states values e)).few (inside-range 1 32 k range).1 roomy))))))

  -- What it passed before it answered.
  pub links-passed : (values : List ℕ) → route_links_answer n lows highs states k from to counts relays links scratch ≡ done values
      → RoutePassed n lows highs states k from to
  unfolding route_links_answer
  links-passed values e = (unless-passed (links_too_short n k counts relays links scratch) n lows highs states k from to values e).1
