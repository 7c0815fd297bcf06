-- What Route has passed where it answers: the table check, 9, 10, 11, 17, 12 and the test of one tree. Assumes nothing.
use Rattle.std.specs.Prelude.{ℕ, ◌≤◌, Bool, true, false, ◌&&◌, ◌||◌, not, List, [], ◌∷◌, ◌≢◌, ◌≡◌, eqb, leb, length}
use Rattle.std.proofs.lemmas.Bool.{eqb-false, not-false}
use Rattle.std.proofs.Common.{leb-false}
use Rattle.definitions.specs.Outcome.{done, refuse_if}
use Rattle.definitions.specs.Lists.{outside, join_all}
use Rattle.definitions.specs.Network.{serves, table_check, Accepted, Serving}
use Rattle.definitions.specs.Route.{routes_of, one_tree_of, route_unless}
use Rattle.lists.specs.Outcomes.{not-refused}
use Rattle.lists.specs.SameOutcomes.{done-then}
use Rattle.lists.specs.Ranges.{inside-range}
use Rattle.lists.specs.Tests.{or-false, and_both}
use Rattle.theory.specs.Accepted.{check-accepts}

pub record RoutePassed (n : ℕ) (lows highs states : List ℕ) (k from to : ℕ) : Type 0 where
  pub accepted : Accepted n lows highs states
  pub some : 1 ≤ k
  pub few : k ≤ 32
  pub starts : Serving n states from
  pub ends : Serving n states to
  pub differ : from ≢ to
  pub one_tree : one_tree_of n lows highs states k from to ≡ true

pub unless-passed : (short : Bool) (n : ℕ) (lows highs states : List ℕ) (k from to : ℕ) (values : List ℕ)
    → route_unless short n lows highs states k from to ≡ done values → (short ≡ false) × RoutePassed n lows highs states k from to
unfolding route_unless
unless-passed short n lows highs states k from to values e =
    let answered = done (length (join_all (routes_of n lows highs states k from to)) ∷ []) in
    let last = refuse_if (not (one_tree_of n lows highs states k from to)) 13 0 answered in
    let fitting = refuse_if short 12 0 last in
    let serving = refuse_if (not (serves states from && serves states to)) 17 0 fitting in
    let differing = refuse_if (eqb from to) 11 0 serving in
    let ending = refuse_if (leb n from || leb n to) 10 0 differing in
    let checked = done-then (table_check n lows highs states) (λ _. refuse_if (outside 1 32 k) 9 0 ending) values e in
    let nine = not-refused (outside 1 32 k) 9 0 ending values checked.2 in
    let ten = not-refused (leb n from || leb n to) 10 0 differing values nine.1 in
    let eleven = not-refused (eqb from to) 11 0 serving values ten.1 in
    let seventeen = not-refused (not (serves states from && serves states to)) 17 0 fitting values eleven.1 in
    let twelve = not-refused short 12 0 last values seventeen.1 in
    let thirteen = not-refused (not (one_tree_of n lows highs states k from to)) 13 0 answered values twelve.1 in
    let range = inside-range 1 32 k nine.0 in
    let within = or-false (leb n from) (leb n to) ten.0 in
    let both = and_both (serves states from) (serves states to) (not-false (serves states from && serves states to) seventeen.0) in (
      twelve.0,
      record {
        accepted = check-accepts n lows highs states checked.0 checked.1;
        some = range.0;
        few = range.1;
        starts = (leb-false n from within.0, both.0);
        ends = (leb-false n to within.1, both.1);
        differ = eqb-false from to eleven.0;
        one_tree = not-false (one_tree_of n lows highs states k from to) thirteen.0;
      },
    )
