-- Route's answer and its lists afterwards, with or without links, are those of the definition, way by way: refused by the table
-- check, refused by the wish or the room, and answered. Assumes nothing.
use Prim.Native.Nat.{ℕ, zero, suc, ◌+◌, ◌-◌, ◌*◌}
use mathlib.Core.Bool.{Bool, true, false, ◌&&◌, ◌||◌, not}
use mathlib.Core.List.{List, [], ◌∷◌, map}
use Rattle.std.specs.Prelude.{Option}
use mathlib.Core.Logic.{◌≢◌}
use mathlib.Core.Path.{◌≡◌, refl, sym, ◌∙◌, ap, subst}
use native.Mathlib.Omega.{arith}
use borrow.Author.Tests.{ltb-false, leb-false, eqb-false, ne_eqb, not-false}
use lib.Dec.{eqb, ltb, leb}
use lib.ListN.{length, get_or}
use lib.Seq.{sets}
use Rattle.definitions.specs.Outcome.{pick, refused, done, Answer, refuse_if, and_then, if_done}
use Rattle.definitions.specs.Lists.{overwrite, zeroed, outside, join_all, some_below}
use Rattle.definitions.specs.Network.{is_pair, serves, link_fault, links_check, states_fault, table_check, Accepted}
use Rattle.definitions.specs.Route.{routes_of, one_tree_of, too_short, route_unless, scratch_used}
use Rattle.definitions.specs.Over.{overs_of}
use Rattle.lists.specs.Tests.{or-false, and_both}
use Rattle.lists.specs.Outcomes.{not-refused, then-done}
use Rattle.network.specs.Answers.{refusal_number, refusal_place, refusal_of}
use Rattle.network.specs.Refusals.{refusal-then}
use Rattle.network.specs.declared.refusal.Refusal.{Refusal}
use Rattle.network.specs.declared.refusal.Refusal.TheVariants.{NotOneTree}
use Rattle.routes.specs.declared.wish.Room.{Room}
use Rattle.routes.specs.Wishes.{links_short, is_short, wish_check}
use Rattle.routes.specs.Answers.{Answered, answered, tree_answer, short_for, core_answer, core_counts, core_relays, core_links, core_scratch, Routable}

-- Not refused by the test of one tree, which comes last and alone uses scratch.
abbrev BeforeTree : Answer → Type 0
BeforeTree (refused number place) = number ≢ refusal_number NotOneTree
BeforeTree (done values) = Unit {0}

before-refuse : (b : Bool) (number place : ℕ) (rest : Answer) → number ≢ refusal_number NotOneTree → BeforeTree rest
    → BeforeTree (refuse_if b number place rest)
unfolding refuse_if
before-refuse true number place rest other before = other
before-refuse false number place rest other before = before

before-then : (check : Answer) (next : List ℕ → Answer) → BeforeTree check → ((values : List ℕ) → BeforeTree (next values))
    → BeforeTree (and_then check next)
unfolding and_then
before-then (refused number place) next before after = before
before-then (done values) next before after = after values

fault-other : (n : ℕ) (lows highs : List ℕ) (i a b : ℕ) → link_fault n lows highs i a b ≢ refusal_number NotOneTree
unfolding link_fault
fault-other n lows highs i a b = go (leb n a || leb n b) (leb b a) (some_below (is_pair lows highs a b) i)
  where
    go : (x y z : Bool) → pick x 5 (pick y 6 (pick z 7 0)) ≢ refusal_number NotOneTree
    go true y z e = omega arith
    go false true z e = omega arith
    go false false true e = omega arith
    go false false false e = omega arith

before-links : (n : ℕ) (lows highs : List ℕ) (i count : ℕ) → BeforeTree (links_check n lows highs i count)
unfolding links_check
before-links n lows highs i zero = tt
before-links n lows highs i (suc count) =
    let fault : ℕ = link_fault n lows highs i (get_or lows i 0) (get_or highs i 0) in
    before-refuse (ltb 0 fault) fault i (links_check n lows highs (i + 1) count)
    (fault-other n lows highs i (get_or lows i 0) (get_or highs i 0)) (before-links n lows highs (i + 1) count)

before-table : (n : ℕ) (lows highs states : List ℕ) → BeforeTree (table_check n lows highs states)
unfolding table_check
before-table n lows highs states =
    let last : Answer = refuse_if (states_fault n states) 16 0 (done []) in
    let links : Answer = and_then (links_check n lows highs 0 (length lows)) (λ _. last) in
    let uneven : Bool = not (eqb (length lows) (length highs)) || ltb 3000 (length lows) in
    before-refuse (outside 1 1000 n) 3 0 (refuse_if uneven 4 0 links) (λ e. omega arith)
    (before-refuse uneven 4 0 links (λ e. omega arith)
    (before-then (links_check n lows highs 0 (length lows)) (λ _. last) (before-links n lows highs 0 (length lows))
    (λ _. before-refuse (states_fault n states) 16 0 (done []) (λ e. omega arith) tt)))

before-wish : (n k from to : ℕ) (states : List ℕ) (room : Room) → BeforeTree (wish_check n k from to states room)
unfolding wish_check
before-wish n k from to states room =
    let short : Bool = is_short room n k in
    let out : Bool = not (serves states from && serves states to) in
    let lists : Answer = refuse_if short 12 0 (done []) in
    let service : Answer = refuse_if out 17 0 lists in
    let same : Answer = refuse_if (eqb from to) 11 0 service in
    let range : Answer = refuse_if (leb n from || leb n to) 10 0 same in
    before-refuse (outside 1 32 k) 9 0 range (λ e. omega arith)
    (before-refuse (leb n from || leb n to) 10 0 same (λ e. omega arith)
    (before-refuse (eqb from to) 11 0 service (λ e. omega arith)
    (before-refuse out 17 0 lists (λ e. omega arith)
    (before-refuse short 12 0 (done []) (λ e. omega arith) tt))))

refuse-then : (b : Bool) (number place : ℕ) (rest : Answer) (next : List ℕ → Answer)
    → refuse_if b number place (and_then rest next) ≡ and_then (refuse_if b number place rest) next
unfolding refuse_if and_then
refuse-then true number place rest next = refl
refuse-then false number place rest next = refl

-- The room in lists.
abbrev pub room_of : (asked : Option ℕ) (counts relays scratch : List ℕ) → Room
room_of asked counts relays scratch = record { counts = length counts; relays = length relays; links = asked; scratch = length scratch }

module _ (asked : Option ℕ) (n : ℕ) (lows highs states : List ℕ) (k from to : ℕ) (counts relays links scratch : List ℕ) where
  -- What Route promises of its answer and the four lists afterwards.
  abbrev pub Promised : (answer : Answer) (counts' relays' links' scratch' : List ℕ) → Type 0
  Promised answer counts' relays' links' scratch' =
      (answer ≡ core_answer asked n lows highs states k from to counts relays links scratch)
      × ((counts' ≡ core_counts asked n lows highs states k from to counts relays links scratch)
      × ((relays' ≡ core_relays asked n lows highs states k from to counts relays links scratch)
      × ((links' ≡ core_links asked n lows highs states k from to counts relays links scratch)
      × (scratch' ≡ core_scratch asked n lows highs states k from to counts relays links scratch))))

  abbrev wish : Answer
  wish = wish_check n k from to states (room_of asked counts relays scratch)

  abbrev last : Answer
  last = refuse_if (not (one_tree_of n lows highs states k from to)) 13 0 (done (length (join_all (routes_of n lows highs states k from to)) ∷ []))

  split-answer : core_answer asked n lows highs states k from to counts relays links scratch ≡ and_then (table_check n lows highs states) (λ _. and_then wish (λ _. last))
  unfolding core_answer route_unless short_for wish_check too_short refuse_if and_then
  split-answer = ap (λ (rest : Answer). and_then (table_check n lows highs states) (λ _. rest)) inner
    where
      short : Bool
      short =
          (ltb (length counts) k || (ltb (length relays) (n - 2 + 2 * k) || ltb (length scratch) (k * n)))
          || links_short asked n k

      out : Bool
      out = not (serves states from && serves states to)

      -- The checks from 12, from 17 and from 11 on.
      room : Answer
      room = refuse_if short 12 0 (done [])

      service : Answer
      service = refuse_if out 17 0 room

      same : Answer
      same = refuse_if (eqb from to) 11 0 service

      inner : refuse_if (outside 1 32 k) 9 0
          (refuse_if (leb n from || leb n to) 10 0 (refuse_if (eqb from to) 11 0 (refuse_if out 17 0 (refuse_if short 12 0 last))))
          ≡ and_then (wish_check n k from to states (room_of asked counts relays scratch)) (λ _. last)
      inner =
          ap (λ (x : Answer). refuse_if (outside 1 32 k) 9 0 (refuse_if (leb n from || leb n to) 10 0 (refuse_if (eqb from to) 11 0 (refuse_if out 17 0 x))))
          (refuse-then short 12 0 (done []) (λ _. last))
          ∙ ap (λ (x : Answer). refuse_if (outside 1 32 k) 9 0 (refuse_if (leb n from || leb n to) 10 0 (refuse_if (eqb from to) 11 0 x)))
          (refuse-then out 17 0 room (λ _. last))
          ∙ ap (λ (x : Answer). refuse_if (outside 1 32 k) 9 0 (refuse_if (leb n from || leb n to) 10 0 x))
          (refuse-then (eqb from to) 11 0 service (λ _. last))
          ∙ ap (λ (x : Answer). refuse_if (outside 1 32 k) 9 0 x)
          (refuse-then (leb n from || leb n to) 10 0 same (λ _. last))
          ∙ refuse-then (outside 1 32 k) 9 0 (refuse_if (leb n from || leb n to) 10 0 same) (λ _. last)

  -- A refusal before the test of one tree changes nothing.
  stopped : (number place : ℕ) → number ≢ refusal_number NotOneTree → core_answer asked n lows highs states k from to counts relays links scratch ≡ refused number place
      → Promised (refused number place) counts relays links scratch
  unfolding core_counts core_relays core_links core_scratch if_done scratch_used
  stopped number place other e = (sym e, (rw e, (rw e, (rw e, rw (e, ne_eqb number (refusal_number NotOneTree) other)))))

  -- A refusal of one of the checks, which stands.
  refused-by : (refusal : Refusal) (check : Answer) → BeforeTree check → refusal_of refusal ≡ check
      → core_answer asked n lows highs states k from to counts relays links scratch ≡ refusal_of refusal → Promised (refusal_of refusal) counts relays links scratch
  refused-by refusal check before same e =
      let other : BeforeTree (refusal_of refusal) = subst BeforeTree (sym same) before in
      stopped (refusal_number refusal) (refusal_place refusal) other e

  pub table-refused : (refusal : Refusal) → refusal_of refusal ≡ table_check n lows highs states → Promised (refusal_of refusal) counts relays links scratch
  table-refused refusal e =
      refused-by refusal (table_check n lows highs states) (before-table n lows highs states) e
      (split-answer ∙ ap (λ (x : Answer). and_then x (λ _. and_then wish (λ _. last))) (sym e) ∙ refusal-then refusal (λ _. and_then wish (λ _. last)))

  module _ (ok : Accepted n lows highs states) where
    past-table : core_answer asked n lows highs states k from to counts relays links scratch ≡ and_then wish (λ _. last)
    past-table = split-answer ∙ then-done (table_check n lows highs states) (λ _. and_then wish (λ _. last)) [] ok

    pub wish-refused : (refusal : Refusal) → refusal_of refusal ≡ wish → Promised (refusal_of refusal) counts relays links scratch
    wish-refused refusal e =
        refused-by refusal wish (before-wish n k from to states (room_of asked counts relays scratch)) e
        (past-table ∙ ap (λ (x : Answer). and_then x (λ _. last)) (sym e) ∙ refusal-then refusal (λ _. last))

    module _ (fine : wish ≡ done []) where
      past-wish : core_answer asked n lows highs states k from to counts relays links scratch ≡ last
      past-wish = past-table ∙ then-done wish (λ _. last) [] fine

      pub route-answered : (answer : Answer) (counts' relays' links' scratch' : List ℕ)
          → answered counts' relays' links' answer ≡ tree_answer n lows highs states k from to counts relays links → scratch' ≡ zeroed scratch
          → Promised answer counts' relays' links' scratch'
      unfolding tree_answer core_counts core_relays core_links core_scratch if_done scratch_used refuse_if
      route-answered answer counts' relays' links' scratch' e clear = go (one_tree_of n lows highs states k from to) refl
        where
          -- From what the core answers, and the lists due with it.
          promised : (due : Answered) → answered counts' relays' links' answer ≡ due
              → core_answer asked n lows highs states k from to counts relays links scratch ≡ due.answer
              → (due.count_list ≡ core_counts asked n lows highs states k from to counts relays links scratch)
              → (due.relay_list ≡ core_relays asked n lows highs states k from to counts relays links scratch)
              → (due.link_list ≡ core_links asked n lows highs states k from to counts relays links scratch)
              → (zeroed scratch ≡ core_scratch asked n lows highs states k from to counts relays links scratch)
              → Promised answer counts' relays' links' scratch'
          promised due parts whole c r l x = (
            ap (λ (x : Answered). x.answer) parts ∙ sym whole,
            (
              ap (λ (x : Answered). x.count_list) parts ∙ c,
              (ap (λ (x : Answered). x.relay_list) parts ∙ r, (ap (λ (x : Answered). x.link_list) parts ∙ l, clear ∙ x)),
            ),
          )

          go : (b : Bool) → one_tree_of n lows highs states k from to ≡ b → Promised answer counts' relays' links' scratch'
          go true eb =
              let routes = routes_of n lows highs states k from to in
              let due : Answered =
              answered (overwrite (map length routes) counts) (overwrite (join_all routes) relays)
              (sets links 0 (join_all (overs_of n lows highs states k from to))) (done (length (join_all routes) ∷ [])) in
              let whole : core_answer asked n lows highs states k from to counts relays links scratch ≡ done (length (join_all routes) ∷ []) =
              past-wish ∙ rw eb in
              promised due (e ∙ rw eb) whole (rw whole) (rw whole) (rw whole) (rw whole)
          go false eb =
              let whole : core_answer asked n lows highs states k from to counts relays links scratch ≡ refused 13 0 = past-wish ∙ rw eb in
              promised (answered counts relays links (refused 13 0)) (e ∙ rw eb) whole (rw whole) (rw whole) (rw whole) (rw whole)

      -- What is passed is what Route asks.
      pub wish-passed : Routable n lows highs states k from to counts relays scratch
      unfolding wish_check outside
      wish-passed =
          let lent : Bool = ltb (length counts) k || (ltb (length relays) (n - 2 + 2 * k) || ltb (length scratch) (k * n)) in
          let short : Bool = lent || links_short asked n k in
          let out : Bool = not (serves states from && serves states to) in
          let room : Answer = refuse_if short 12 0 (done []) in
          let service : Answer = refuse_if out 17 0 room in
          let same : Answer = refuse_if (eqb from to) 11 0 service in
          let range : Answer = refuse_if (leb n from || leb n to) 10 0 same in
          let one = not-refused (ltb k 1 || ltb 32 k) 9 0 range [] fine in
          let two = not-refused (leb n from || leb n to) 10 0 same [] one.1 in
          let three = not-refused (eqb from to) 11 0 service [] two.1 in
          let four = not-refused out 17 0 room [] three.1 in
          let five = not-refused short 12 0 (done []) [] four.1 in
          let in_k = or-false (ltb k 1) (ltb 32 k) one.0 in
          let ends = or-false (leb n from) (leb n to) two.0 in
          let serve = and_both (serves states from) (serves states to) (not-false (serves states from && serves states to) four.0) in
          let rooms = or-false (ltb (length counts) k) (ltb (length relays) (n - 2 + 2 * k) || ltb (length scratch) (k * n))
          (or-false lent (links_short asked n k) five.0).0 in
          let later = or-false (ltb (length relays) (n - 2 + 2 * k)) (ltb (length scratch) (k * n)) rooms.1 in
          record {
            accepted = ok;
            one = ltb-false k 1 in_k.0;
            few = ltb-false 32 k in_k.1;
            source = (leb-false n from ends.0, serve.0);
            goal = (leb-false n to ends.1, serve.1);
            differ = eqb-false from to three.0;
            count_room = ltb-false (length counts) k rooms.0;
            relay_room = ltb-false (length relays) (n - 2 + 2 * k) later.0;
            scratch_room = ltb-false (length scratch) (k * n) later.1;
          }
