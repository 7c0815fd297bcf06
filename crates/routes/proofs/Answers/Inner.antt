-- What Route's inner functions ask of each other, and that what they answer over places is the definition's answer, in the
-- code's terms.
use Prim.Native.Nat.{ℕ, ◌+◌, ◌*◌, ◌≤◌, ◌<◌}
use mathlib.Core.Bool.{Bool, true, false}
use mathlib.Core.List.{List, [], ◌∷◌, ◌++◌, map, append-nil}
use mathlib.Core.Path.{◌≡◌, refl, ◌∙◌, ap, ap₂}
use native.Mathlib.Nat.{zero-add}
use native.Mathlib.Omega.{arith}
use lib.ListN.{length, drop, get_or, replicate}
use lib.Seq.{drop-length, sets}
use Rattle.definitions.specs.Outcome.{pick, refused, done}
use Rattle.definitions.specs.Lists.{overwrite, zeroed, join_all}
use Rattle.definitions.specs.Network.{linked, Accepted}
use Rattle.definitions.specs.Order.{order_of, place_of, relay_at, places_of}
use Rattle.definitions.specs.Forests.{forests_of, forest_of, Entry}
use Rattle.definitions.specs.Route.{routes_of, one_tree_of}
use Rattle.definitions.specs.Over.{overs_of}
use Rattle.lists.specs.Tables.{length-table, get_or-table}
use Rattle.lists.specs.Overwritten.{get_or-overwrite}
use Rattle.theory.specs.ServingRelays.{serving-few}
use Rattle.theory.specs.Places.{relay-placed}
use Rattle.forests.specs.Scan.{Scanned}
use Rattle.forests.specs.Left.{LeftInput, LeftTable}
use Rattle.forests.proofs.ClearLaws.{cleared}
use Rattle.sweep.specs.Side.{prior_start, table_entry}
use Rattle.routes.specs.Writing.{Written, written}
use Rattle.routes.specs.Between.{one_tree_in, between_in, links_between}
use Rattle.routes.specs.Answers.{Answered, answered, answer_in, tree_answer, Routable, RouteArrays, Prepared, ScanGave}
use Rattle.routes.proofs.Answers.Accepted.{front-relays, tree-tested, routes-written, links-written}

-- The places' list gives the place of each relay.
pub place-entry : (n : ℕ) (lows highs states places places' : List ℕ) → places' ≡ overwrite (places_of n (order_of n lows highs states)) places
    → (r : ℕ) → r < n → get_or places' r 0 ≡ place_of (order_of n lows highs states) r
unfolding places_of
place-entry n lows highs states places places' e r less =
    ap (λ (l : List ℕ). get_or l r 0) e
    ∙ get_or-overwrite (places_of n (order_of n lows highs states)) places r 0 (omega (arith, length-table (place_of (order_of n lows highs states)) 0 n))
    ∙ get_or-table (place_of (order_of n lows highs states)) 0 n r 0 less ∙ ap (place_of (order_of n lows highs states)) (zero-add r)

pub table-asks : (n k : ℕ) (lows highs states order order' places places' numbers numbers' table : List ℕ) → Accepted n lows highs states
    → Scanned n lows highs states order order' places places' numbers numbers'
    → n ≤ length places' → length lows ≤ length numbers' → k * n ≤ length table → ((j : ℕ) → j < k * n → get_or table j 0 ≡ 0)
    → LeftInput n k lows highs states places' numbers' table
unfolding forests_of
table-asks n k lows highs states order order' places places' numbers numbers' table ok scanned place_room link_room room zeros =
    let forest = forest_of (linked lows highs) (order_of n lows highs states) lows highs in
    record {
      accepted = ok;
      place_room = place_room;
      forest_room = link_room;
      table_room = room;
      place = place-entry n lows highs states places places' scanned.the_places;
      forest = λ i less.
          ap (λ (l : List ℕ). get_or l i 0) scanned.the_forests
          ∙ get_or-overwrite (forests_of n lows highs states) numbers i 0 (omega (arith, length-table forest 0 (length lows)))
          ∙ get_or-table forest 0 (length lows) i 0 less ∙ ap forest (zero-add i);
      zeros = zeros;
    }

module _ (a b : List ℕ) (look : ℕ → ℕ → Entry) (k p q : ℕ) (order counts relays links : List ℕ) (test : Bool) (e : test ≡ one_tree_in look k p q) where
  pub answer-some : (counts' relays' links' : List ℕ) (upto : ℕ) → test ≡ true
      → written counts' relays' upto ≡ between_in a b look k p q order counts relays → links' ≡ links_between a b look k p q links
      → answered counts' relays' links' (done (upto ∷ [])) ≡ answer_in a b look k p q order counts relays links
  unfolding answer_in
  answer-some counts' relays' links' upto passes wrote linked =
      rw (← e, passes, ← linked) (ap (λ (w : Written). answered w.count_list w.relay_list links' (done (w.upto ∷ []))) wrote)

  pub answer-none : test ≡ false → answered counts relays links (refused 13 0) ≡ answer_in a b look k p q order counts relays links
  unfolding answer_in
  answer-none fails = rw (← e, fails)

-- The answer over the left table is that of the definition.
module _ (n : ℕ) (lows highs states : List ℕ) (k from to : ℕ) (counts relays links scratch : List ℕ) (asked : Routable n lows highs states k from to counts relays scratch)
    (order order' places places' numbers ends table table' : List ℕ)
    (made : Prepared n k lows highs states order order' places places' numbers ends table table')
    (a b : List ℕ) (lent : RouteArrays n lows order places numbers a b) where
  relays-same : relay_at order' ≡ relay_at (order_of n lows highs states)
  relays-same = ap relay_at made.scanned.the_order ∙ front-relays (order_of n lows highs states) order lent.no_order

  abbrev P : ℕ
  P = place_of (order_of n lows highs states) from

  abbrev Q : ℕ
  Q = place_of (order_of n lows highs states) to

  abbrev look : ℕ → ℕ → Entry
  look = table_entry table' ends n

  abbrev routes : List (List ℕ)
  routes = routes_of n lows highs states k from to

  abbrev all : Written
  all = between_in a b look k P Q order' counts relays

  over-places : answer_in a b look k P Q order' counts relays links ≡ tree_answer n lows highs states k from to counts relays links
  unfolding answer_in tree_answer
  over-places = go (one_tree_in look k P Q) refl
    where
      tree : one_tree_in look k P Q ≡ one_tree_of n lows highs states k from to
      tree =
          tree-tested n lows highs states k from to asked.accepted asked.one asked.few asked.source asked.goal asked.differ
          table table' ends made.the_table

      go : (test : Bool) → one_tree_in look k P Q ≡ test
          → pick (one_tree_in look k P Q)
          (answered all.count_list all.relay_list (links_between a b look k P Q links) (done (all.upto ∷ [])))
          (answered counts relays links (refused 13 0))
          ≡ pick (one_tree_of n lows highs states k from to)
          (answered (overwrite (map length routes) counts) (overwrite (join_all routes) relays)
          (sets links 0 (join_all (overs_of n lows highs states k from to))) (done (length (join_all routes) ∷ [])))
          (answered counts relays links (refused 13 0))
      go true e =
          rw (← tree, e)
          (ap₂ (λ (w : Written) (l : List ℕ). answered w.count_list w.relay_list l (done (w.upto ∷ [])))
          (routes-written n lows highs states k from to asked.accepted asked.one asked.few asked.source asked.goal asked.differ
          table table' ends made.the_table e order' counts relays relays-same a b lent.no_a lent.no_b asked.count_room asked.relay_room)
          (links-written n lows highs states k from to asked.accepted asked.one asked.few asked.source asked.goal asked.differ
          table table' ends made.the_table e order' counts relays relays-same a b lent.no_a lent.no_b asked.count_room asked.relay_room links))
      go false e = rw (← tree, e)

  pub answers-tree : (p q : ℕ) (result : Answered) → p ≡ get_or places' from 0 → q ≡ get_or places' to 0
      → result ≡ answer_in a b look k p q order' counts relays links → result ≡ tree_answer n lows highs states k from to counts relays links
  answers-tree p q result ep eq e =
      let at_p : p ≡ P = ep ∙ place-entry n lows highs states places places' made.scanned.the_places from asked.source.0 in
      let at_q : q ≡ Q = eq ∙ place-entry n lows highs states places places' made.scanned.the_places to asked.goal.0 in
      e ∙ ap (λ (x : ℕ). answer_in a b look k x q order' counts relays links) at_p
      ∙ ap (λ (x : ℕ). answer_in a b look k P x order' counts relays links) at_q ∙ over-places

  -- The two places are places, and both sides have room for them.
  pub places-some : (p q : ℕ) → p ≡ get_or places' from 0 → q ≡ get_or places' to 0
      → (0 < p) × (p ≤ n) × (0 < q) × (q ≤ n) × (k ≤ 32)
      × (prior_start + (2 * n + 1) < length a) × (prior_start + (2 * n + 1) < length b)
  places-some p q ep eq =
      let at_p : p ≡ P = ep ∙ place-entry n lows highs states places places' made.scanned.the_places from asked.source.0 in
      let at_q : q ≡ Q = eq ∙ place-entry n lows highs states places places' made.scanned.the_places to asked.goal.0 in
      let placed_p = relay-placed n lows highs states from asked.source in
      let placed_q = relay-placed n lows highs states to asked.goal in
      omega (arith, at_p, at_q, placed_p.0, placed_p.1, placed_q.0, placed_q.1, asked.few, serving-few n states, lent.no_a.room, lent.no_b.room)

-- A list cleared as far as it goes, which was as long as another.
pub clear_whole : (old mid last : List ℕ) → length mid ≡ length old → last ≡ replicate (length mid) 0 ++ drop (length mid) mid
    → last ≡ zeroed old
unfolding zeroed
clear_whole old mid last e clear =
    clear ∙ rw (drop-length mid) (append-nil (replicate (length mid) 0)) ∙ ap (λ (x : ℕ). replicate x 0) e

-- The front of scratch is cleared, by the routes and the size that were multiplied.
pub front-cleared : (k n : ℕ) {routes size : ℕ} (scratch : List ℕ) {front : List ℕ} → routes ≡ k → size ≡ n
    → front ≡ replicate (routes * size) 0 ++ drop (routes * size) scratch → front ≡ replicate (k * n) 0 ++ drop (k * n) scratch
front-cleared k n scratch same_k same_n filled = rw (← same_k, ← same_n) filled

-- What the left table is made from, after the front of scratch is cleared.
pub table-input : (n : ℕ) (lows highs states : List ℕ) (k from to : ℕ) (counts relays scratch scratch' order places numbers a b : List ℕ)
    → Routable n lows highs states k from to counts relays scratch → ScanGave n lows highs states order places numbers a b
    → scratch' ≡ replicate (k * n) 0 ++ drop (k * n) scratch → length scratch' ≡ length scratch
    → LeftInput n k lows highs states places numbers scratch'
table-input n lows highs states k from to counts relays scratch scratch' order places numbers a b asked gave clear long =
    table-asks n k lows highs states gave.order_before order gave.places_before places gave.numbers_before numbers scratch' asked.accepted
    gave.scanned gave.place_room gave.link_room (omega (arith, asked.scratch_room)) (cleared (k * n) scratch clear).0

-- With it all is prepared.
pub prepared : (n k : ℕ) (lows highs states order places numbers a b table table' ends : List ℕ)
    (gave : ScanGave n lows highs states order places numbers a b) → LeftTable n k lows highs states table table' ends
    → Prepared n k lows highs states gave.order_before order gave.places_before places gave.numbers_before ends table table'
prepared n k lows highs states order places numbers a b table table' ends gave made =
    record { numbered = numbers; scanned = gave.scanned; the_table = made }
