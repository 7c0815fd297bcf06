-- What the answer of Route stands for, what its inner functions answer, and how its refusals are split among them.
-- Assumes nothing.
use Rattle.std.specs.Prelude.{ℕ, ◌+◌, ◌-◌, ◌*◌, ◌≤◌, Bool, ◌||◌, List, [], ◌∷◌, map, Option, Result, Ok, Err, ◌≢◌, ◌≡◌, length, get_or, replicate}
use Rattle.std.proofs.lemmas.List.Edits.{sets}
use Rattle.definitions.specs.Outcome.{pick, refused, done, Answer, and_then, if_done}
use Rattle.definitions.specs.Lists.{overwrite, zeroed, join_all, total}
use Rattle.definitions.specs.Network.{Accepted, Serving}
use Rattle.definitions.specs.Forests.{Entry, marks_of}
use Rattle.definitions.specs.Route.{routes_of, one_tree_of, too_short, route_unless, scratch_used}
use Rattle.definitions.specs.Over.{overs_of, route_links_answer}
use Rattle.network.specs.Answers.{refusal_of}
use Rattle.network.specs.declared.Table.{Table}
use Rattle.network.specs.declared.refusal.Refusal.{Refusal}
use Rattle.forests.specs.Scan.{Scanned}
use Rattle.forests.specs.Left.{LeftTable}
use Rattle.sweep.specs.Side.{NoPaths}
use Rattle.routes.specs.declared.wish.Wish.{Wish}
use Rattle.routes.specs.Wishes.{links_short}
use Rattle.routes.specs.Between.{one_tree_in, between_in, links_between}

-- The count of relays written, or a refusal.
abbrev pub route_outcome : Result ℕ Refusal → Answer
route_outcome (Ok count) = done (count ∷ [])
route_outcome (Err refusal) = refusal_of refusal

-- The three lists afterwards, and the answer.
pub record Answered : Type 0 where
  pub count_list : List ℕ
  pub relay_list : List ℕ
  pub link_list : List ℕ
  pub answer : Answer

abbrev pub answered : (counts relays links : List ℕ) (answer : Answer) → Answered
answered counts relays links answer = record { count_list = counts; relay_list = relays; link_list = links; answer = answer }

-- Between two places over a left table: the routes, or 13.
unfoldable pub answer_in : (a b : List ℕ) (look : ℕ → ℕ → Entry) (k p q : ℕ) (order counts relays links : List ℕ) → Answered
answer_in a b look k p q order counts relays links =
    let all = between_in a b look k p q order counts relays in
    pick (one_tree_in look k p q)
    (answered all.count_list all.relay_list (links_between a b look k p q links) (done (all.upto ∷ [])))
    (answered counts relays links (refused 13 0))

-- The same as the definition has it. Of the links what is not lent is not written.
unfoldable pub tree_answer : (n : ℕ) (lows highs states : List ℕ) (k from to : ℕ) (counts relays links : List ℕ) → Answered
tree_answer n lows highs states k from to counts relays links =
    let routes = routes_of n lows highs states k from to in
    pick (one_tree_of n lows highs states k from to)
    (answered (overwrite (map length routes) counts) (overwrite (join_all routes) relays)
    (sets links 0 (join_all (overs_of n lows highs states k from to)))
    (done (length (join_all routes) ∷ [])))
    (answered counts relays links (refused 13 0))

-- Cause for 12; `asked` is the length of the list of links, where one is asked for.
unfoldable pub short_for : (asked : Option ℕ) (n k : ℕ) (counts relays scratch : List ℕ) → Bool
short_for asked n k counts relays scratch = too_short n k counts relays scratch || links_short asked n k

-- Route's answer and its lists afterwards, where a list of links of the length `asked` is asked for or none is.
module _ (asked : Option ℕ) (n : ℕ) (lows highs states : List ℕ) (k from to : ℕ) (counts relays links scratch : List ℕ) where
  unfoldable pub core_answer : Answer
  core_answer = route_unless (short_for asked n k counts relays scratch) n lows highs states k from to

  unfoldable pub core_counts : List ℕ
  core_counts = if_done core_answer (overwrite (map length (routes_of n lows highs states k from to)) counts) counts

  unfoldable pub core_relays : List ℕ
  core_relays = if_done core_answer (overwrite (join_all (routes_of n lows highs states k from to)) relays) relays

  unfoldable pub core_links : List ℕ
  core_links = if_done core_answer (sets links 0 (join_all (overs_of n lows highs states k from to))) links

  unfoldable pub core_scratch : List ℕ
  core_scratch = pick (scratch_used core_answer) (zeroed scratch) scratch

-- What Route asks once all but 13 is passed.
pub record Routable (n : ℕ) (lows highs states : List ℕ) (k from to : ℕ) (counts relays scratch : List ℕ) : Type 0 where
  pub accepted : Accepted n lows highs states
  pub one : 1 ≤ k
  pub few : k ≤ 32
  pub source : Serving n states from
  pub goal : Serving n states to
  pub differ : from ≢ to
  pub count_room : k ≤ length counts
  pub relay_room : n - 2 + 2 * k ≤ length relays
  pub scratch_room : k * n ≤ length scratch

-- Lists with room for the work on n relays and the links of `lows`: the order and the sides are zeros.
pub record RouteArrays (n : ℕ) (lows order places numbers a b : List ℕ) : Type 0 where
  pub relay_room : n ≤ length order
  pub place_room : n ≤ length places
  pub link_room : length lows ≤ length numbers
  pub no_order : (i : ℕ) → get_or order i 0 ≡ 0
  pub no_a : NoPaths n a
  pub no_b : NoPaths n b

-- The same lists, all zeros, for so many relays and links and so many entries of a side.
abbrev pub NoneGiven : (relays links side : ℕ) (order places numbers a b : List ℕ) → Type 0
NoneGiven relays links side order places numbers a b =
    (order ≡ replicate relays 0) × (places ≡ replicate relays 0) × (numbers ≡ replicate links 0) × (a ≡ replicate side 0) × (b ≡ replicate side 0)

-- What the scan gives, with the forest numbers in `numbered`; the left table made from it, and the earlier end of each link.
pub record Prepared (n k : ℕ) (lows highs states order order' places places' numbers ends table table' : List ℕ) : Type 0 where
  pub numbered : List ℕ
  pub scanned : Scanned n lows highs states order order' places places' numbers numbered
  pub the_table : LeftTable n k lows highs states table table' ends

-- What the scan gave, in the lists of `RouteArrays`.
pub record ScanGave (n : ℕ) (lows highs states order places numbers a b : List ℕ) : Type 0 where
  pub order_before : List ℕ
  pub places_before : List ℕ
  pub numbers_before : List ℕ
  pub arrays : RouteArrays n lows order_before places_before numbers_before a b
  pub scanned : Scanned n lows highs states order_before order places_before places numbers_before numbers
  pub place_room : n ≤ length places
  pub link_room : length lows ≤ length numbers

-- The same of an accepted network's table and a wish.
abbrev pub Asked : (table : Table) (wish : Wish) (counts relays scratch : List ℕ) → Type 0
Asked table wish counts relays scratch =
    Routable table.n table.lows.now table.highs.now table.states.now wish.k wish.from.0 wish.to.0 counts relays scratch

abbrev pub Given : (table : Table) (order places numbers a b : List ℕ) → Type 0
Given table order places numbers a b = ScanGave table.n table.lows.now table.highs.now table.states.now order places numbers a b

-- The routes with the count of the links that Cut keeps in place of the count of relays.
pub record Counted (n : ℕ) (lows highs states : List ℕ) (k from to : ℕ) (counts relays links counts' relays' links' : List ℕ) (counted : Answer) : Type 0 where
  pub answer : Answer
  pub routed : answered counts' relays' links' answer ≡ tree_answer n lows highs states k from to counts relays links
  pub kept : counted ≡ and_then answer λ _. done (total (marks_of n lows highs states k) ∷ [])

abbrev pub CountedFor : (table : Table) (wish : Wish) (counts relays links counts' relays' links' : List ℕ) (counted : Answer) → Type 0
CountedFor table wish counts relays links counts' relays' links' counted =
    Counted table.n table.lows.now table.highs.now table.states.now wish.k wish.from.0 wish.to.0 counts relays links counts' relays'
    links' counted

-- Route with links, answered with that count.
unfoldable pub counted_answer : (n : ℕ) (lows highs states : List ℕ) (k from to : ℕ) (counts relays links scratch : List ℕ) → Answer
counted_answer n lows highs states k from to counts relays links scratch =
    and_then (route_links_answer n lows highs states k from to counts relays links scratch) λ _. done (total (marks_of n lows highs states k) ∷ [])
