-- The links of a sheet's routes: k lists of indices of the table, each one shorter than its route, and each index that of the one
-- link at its step. Rests on demand 3, which bounds the relays of all the routes.
use Rattle.std.specs.Prelude.{ℕ, ◌+◌, ◌-◌, ◌≤◌, ◌<◌, pred, List, [], ◌∷◌, map, ◌≡◌, length, get_or}
use Rattle.std.proofs.Common.{sym, ◌∙◌, ap, subst, arith}
use Rattle.std.proofs.lemmas.List.{length-map}
use Rattle.definitions.specs.Lists.{join_all, AllBelow}
use Rattle.definitions.specs.Network.{joins}
use Rattle.definitions.specs.Forests.{marks_of}
use Rattle.definitions.specs.Route.{routes_of}
use Rattle.definitions.specs.Over.{overs_of, OverHolds}
use Rattle.definitions.specs.Demand.{Kept}
use Rattle.lists.specs.Searches.{first-within}
use Rattle.lists.specs.Maps.{get_or-map}
use Rattle.lists.specs.Steps.{steps_of, lengths-steps_of}
use Rattle.theory.specs.Accepted.{accepted}
use Rattle.theory.specs.Links.{one_link}
use Rattle.theory.proofs.OverLinks.{pair_link, over-holds, overs-found, tree-between, overs-fit}
use Rattle.theory.specs.RoutePassed.{RoutePassed}
use Rattle.plan.specs.Routes.{length-routes, below-joined, routes-of}

-- No index is beyond the table.
pair-within : (lows highs : List ℕ) (a b : ℕ) → pair_link lows highs a b ≤ length lows
unfolding pair_link
pair-within lows highs a b = omega (arith, first-within (joins lows highs a b) 0 (length lows))

below_steps : (bound : ℕ) (f : ℕ → ℕ → ℕ) → ((a b : ℕ) → f a b < bound) → (l : List ℕ) → AllBelow bound (steps_of f l)
unfolding steps_of
below_steps bound f h [] = tt
below_steps bound f h (a ∷ []) = tt
below_steps bound f h (a ∷ b ∷ rest) = (h a b, below_steps bound f h (b ∷ rest))

module _ (n : ℕ) (lows highs states : List ℕ) (k from to : ℕ) (passed : RoutePassed n lows highs states k from to) where
  overs-are : overs_of n lows highs states k from to ≡ map (steps_of (pair_link lows highs)) (routes_of n lows highs states k from to)
  overs-are =
      let good = passed.accepted in
      let starts = passed.starts in
      let ends = passed.ends in
      overs-found n lows highs states good k from to starts ends passed.differ
      (tree-between n lows highs states good k passed.some from to starts ends passed.differ passed.one_tree)

  pub length-overs : length (overs_of n lows highs states k from to) ≡ k
  length-overs =
      ap length overs-are
      ∙ length-map (routes_of n lows highs states k from to) (steps_of (pair_link lows highs))
      ∙ length-routes n lows highs states k from to

  pub over-lengths : map length (overs_of n lows highs states k from to) ≡ map pred (map length (routes_of n lows highs states k from to))
  over-lengths = ap (map length) overs-are ∙ lengths-steps_of (pair_link lows highs) (routes_of n lows highs states k from to)

  pub overs-written : length (join_all (overs_of n lows highs states k from to)) ≤ n - 2 + k
  overs-written =
      overs-fit n lows highs states passed.accepted k passed.some from to passed.starts passed.ends passed.differ passed.one_tree

  pub overs-below : (bound : ℕ) → length lows < bound → AllBelow bound (join_all (overs_of n lows highs states k from to))
  overs-below bound few =
      subst (λ (overs : List (List ℕ)). AllBelow bound (join_all overs)) (sym overs-are)
      (below-joined bound (steps_of (pair_link lows highs))
      (below_steps bound (pair_link lows highs) (λ a b. omega (arith, pair-within lows highs a b)))
      (routes_of n lows highs states k from to))

  -- At each step of a route the index is that of the one link there.
  pub overs-hold : (i : ℕ) → i < k
      → OverHolds lows highs (get_or (routes_of n lows highs states k from to) i []) (get_or (overs_of n lows highs states k from to) i [])
  overs-hold i h =
      let routes = routes_of n lows highs states k from to in
      let within : i < length routes = omega (arith, length-routes n lows highs states k from to) in
      let holds = (routes-of n lows highs states k from to passed).disjoint.each i within in
      let over : get_or (overs_of n lows highs states k from to) i [] ≡ steps_of (pair_link lows highs) (get_or routes i []) =
      ap (λ (overs : List (List ℕ)). get_or overs i []) overs-are
      ∙ get_or-map (steps_of (pair_link lows highs)) routes i [] [] within in
      subst (OverHolds lows highs (get_or routes i [])) (sym over)
      (over-holds lows highs (one_link n lows highs (accepted n lows highs states passed.accepted)) (Kept (marks_of n lows highs states k))
      (get_or routes i []) (omega (arith, holds.runs.long)) holds.runs.along)
