-- What Route gives: the routes where the ends are in one tree of forest k, and 13 exactly where they are not.
-- Of accepted networks, with no cause for 9 to 12 and 17.
use Rattle.std.specs.Prelude.{ℕ, ◌≤◌, Bool, not, ◌≢◌, ◌≡◌, refl, take}
use Rattle.std.proofs.Math.Bool.{true, false}
use mathlib.Core.List.{List, [], ◌∷◌, ◌++◌, map}
use Rattle.std.proofs.Common.{sym, ◌∙◌, subst, arith}
use Rattle.std.proofs.Math.Path.{ap, ap₂}
use borrow.Author.Tests.{lt-leb, ne_eqb}
use Rattle.std.proofs.Math.ListN.{length, drop, length-map}
use Rattle.std.proofs.Math.Seq.{take_all}
use Rattle.definitions.specs.Outcome.{refused, done, refuse_if, and_then}
use Rattle.definitions.specs.Lists.{overwrite, total, join_all}
use Rattle.definitions.specs.Network.{Accepted, Serving}
use Rattle.definitions.specs.Route.{route_unless, routes_of, one_tree_of, too_short, route_answer, counts_after, route_relays_after}
use Rattle.definitions.specs.DisjointRoutes.{DisjointRoutes}
use Rattle.definitions.specs.Demand.{Kept, OneTree, cut_up, Delivered, RouteDelivers}
use Rattle.lists.specs.Outcomes.{if-done}
use Rattle.lists.specs.Overwritten.{take-overwrite}
use Rattle.lists.specs.Cuts.{cut_up-joined, total-lengths}
use Rattle.lists.specs.Ranges.{inside}
use Rattle.theory.proofs.Columns.{Numbered, Marked}
use Rattle.theory.proofs.RelayTrees.{one-tree-alive, one-tree-test}
use Rattle.theory.proofs.RelayRoutes.{RelayRoutes, routes-hold}

module _ (n : ℕ) (lows highs states : List ℕ) (ok : Accepted n lows highs states) (k : ℕ) (one : 1 ≤ k) (most : k ≤ 32)
    (from to : ℕ) (hf : Serving n states from) (ht : Serving n states to) (differ : from ≢ to)
    (counts relays scratch : List ℕ) (room : too_short n k counts relays scratch ≡ false) where
  -- Nothing but 13 is left to refuse.
  answer-by-test : (b : Bool) → one_tree_of n lows highs states k from to ≡ b
      → route_answer n lows highs states k from to counts relays scratch
      ≡ refuse_if (not b) 13 0 (done (length (join_all (routes_of n lows highs states k from to)) ∷ []))
  unfolding route_answer route_unless and_then refuse_if
  answer-by-test b e =
      rw (ok, inside 1 32 k one most, lt-leb n from hf.0, lt-leb n to ht.0, ne_eqb from to differ, hf.1, ht.1, room, e)

  answer-done : one_tree_of n lows highs states k from to ≡ true
      → route_answer n lows highs states k from to counts relays scratch ≡ done (length (join_all (routes_of n lows highs states k from to)) ∷ [])
  unfolding refuse_if
  answer-done e = answer-by-test true e

  -- What stands in the two lists, once Route has answered.
  counts-written : one_tree_of n lows highs states k from to ≡ true → length (routes_of n lows highs states k from to) ≡ k
      → take k (counts_after n lows highs states k from to counts relays scratch) ≡ map length (routes_of n lows highs states k from to)
  unfolding counts_after
  counts-written e number =
      let rs : List (List ℕ) = routes_of n lows highs states k from to in
      ap (take k)
      (if-done (route_answer n lows highs states k from to counts relays scratch) (length (join_all rs) ∷ [])
      (overwrite (map length rs) counts) counts (answer-done e))
      ∙ take-overwrite (map length rs) counts k (omega (arith, length-map rs length))
      ∙ take_all k (map length rs) (omega (arith, length-map rs length))

  routes-written : one_tree_of n lows highs states k from to ≡ true → length (routes_of n lows highs states k from to) ≡ k
      → cut_up (take k (counts_after n lows highs states k from to counts relays scratch)) (route_relays_after n lows highs states k from to counts relays scratch)
      ≡ routes_of n lows highs states k from to
  unfolding route_relays_after overwrite
  routes-written e number =
      let rs : List (List ℕ) = routes_of n lows highs states k from to in
      ap₂ cut_up (counts-written e number)
      (if-done (route_answer n lows highs states k from to counts relays scratch) (length (join_all rs) ∷ [])
      (join_all rs ++ drop (length (join_all rs)) relays) relays (answer-done e))
      ∙ cut_up-joined rs (drop (length (join_all rs)) relays)

  module _ (forests marks : List ℕ) (numbered : Numbered n lows highs states forests) (marked : Marked n lows highs states k marks) where
    delivered : OneTree lows highs forests k from to
        → Delivered n lows highs states marks k from to
        (route_answer n lows highs states k from to counts relays scratch)
        (counts_after n lows highs states k from to counts relays scratch)
        (route_relays_after n lows highs states k from to counts relays scratch)
    delivered tree =
        let rs : List (List ℕ) = routes_of n lows highs states k from to in
        let e : one_tree_of n lows highs states k from to ≡ true =
        (one-tree-test n lows highs states ok forests numbered k one from to hf ht differ).0 tree in
        let holds : RelayRoutes n lows highs states marks k from to rs =
        routes-hold n lows highs states ok k one marks marked from to hf ht differ
        ((one-tree-alive n lows highs states ok forests numbered k one from to hf ht differ).0 tree) in
        let all : total (take k (counts_after n lows highs states k from to counts relays scratch)) ≡ length (join_all rs) =
        ap total (counts-written e holds.number) ∙ total-lengths rs in
        let back : rs ≡ cut_up (take k (counts_after n lows highs states k from to counts relays scratch)) (route_relays_after n lows highs states k from to counts relays scratch) =
        sym (routes-written e holds.number) in
        record {
          answered = answer-done e ∙ ap (λ (x : ℕ). done (x ∷ [])) (sym all);
          routes =
              record {
                number = ap length (sym back) ∙ holds.number;
                disjoint = subst (DisjointRoutes n lows highs states (Kept marks) from to) back holds.disjoint;
                written = omega (arith, all, holds.written);
              };
        }

    refusal : (b : Bool) → one_tree_of n lows highs states k from to ≡ b → (OneTree lows highs forests k from to → ⊥)
        → route_answer n lows highs states k from to counts relays scratch ≡ refused 13 0
    unfolding refuse_if
    refusal true e none = absurd (none ((one-tree-test n lows highs states ok forests numbered k one from to hf ht differ).1 e))
    refusal false e none = answer-by-test false e

    pub delivers : RouteDelivers n lows highs states forests marks k from to
        (route_answer n lows highs states k from to counts relays scratch)
        (counts_after n lows highs states k from to counts relays scratch)
        (route_relays_after n lows highs states k from to counts relays scratch)
    delivers =
        record {
          in_one_tree = delivered;
          thirteen = (
            λ refuses tree.
                let gives = (delivered tree).answered in
                let z : ◌≡◌ {A = ℕ} 0 1 = cc in
                omega arith,
            refusal (one_tree_of n lows highs states k from to) refl,
          );
        }
