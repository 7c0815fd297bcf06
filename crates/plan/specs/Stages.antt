-- The planner stage by stage: the wish, Read, Cut, Route, and what each answer makes of the sheet. Assumes nothing.
use Rattle.std.specs.Prelude.{ℕ, ◌-◌, ◌≤◌, pred, Bool, ◌≡◌, length, take, drop}
use mathlib.Core.List.{List, [], ◌∷◌, map}
use Rattle.std.proofs.Math.Bool.{true, false}
use Rattle.std.proofs.Math.Path.{refl, sym, ap, ap₂}
use Rattle.std.proofs.Common.{◌∙◌, arith, take_all}
use borrow.Author.Tests.{le-ltb}
use Rattle.std.proofs.Math.Dec.{ltb}
use Rattle.std.proofs.lemmas.List.{length-map}
use Rattle.definitions.specs.Outcome.{Outcome, done, refuse_if, and_then}
use Rattle.definitions.specs.Lists.{overwrite, outside, total, join_all}
use Rattle.definitions.specs.Network.{Accepted}
use Rattle.definitions.specs.Forests.{marks_of, cut_answer}
use Rattle.definitions.specs.Route.{routes_of, route_unless, route_answer}
use Rattle.definitions.specs.Over.{overs_of, route_links_answer, route_links_counts, route_links_relays, route_links_links}
use Rattle.definitions.specs.Demand.{cut_up}
use Rattle.definitions.specs.Form.{departs, reads, scan_form}
use Rattle.definitions.specs.Text.{Network, read_network}
use Rattle.definitions.specs.Program.{passing, room, printed}
use Rattle.definitions.specs.Plan.{wish_form, Sheet, sheet_for, sheet_answers, planner, planned, sheet_text}
use Rattle.lists.specs.Outcomes.{then-done, if-done}
use Rattle.lists.specs.SameOutcomes.{done-then}
use Rattle.lists.specs.Overwritten.{take-overwrite}
use Rattle.lists.specs.Cuts.{cut_up-joined, total-lengths}
use Rattle.text_theory.specs.Forms.{wish-line}
use Rattle.network.specs.Answers.{refusal_of}
use Rattle.network.specs.declared.refusal.Refusal.{Refusal}
use Rattle.network.specs.declared.refusal.Refusal.TheVariants.{Wish, RouteCount}
use Rattle.theory.specs.Accepted.{accepted}
use Rattle.routes.specs.Answers.{counted_answer}
use Rattle.program.specs.Front.{longer}
use Rattle.program.specs.ReadStage.{length-room, network_of, stage-refused, answer-refused, line-departed, line_taken}
use Rattle.plan.specs.SheetLines.{sheet_lines}
use Rattle.plan.specs.Planned.{sheet_of}
use Rattle.plan.specs.Routes.{length-routes}
use Rattle.plan.specs.Overs.{over-lengths}
use Rattle.plan.specs.LinkRooms.{links-answer, links-passed}

-- Route, behind Cut's count.
unfoldable pub route_stage : (from to k : ℕ) (network : Network) (kept : ℕ) → Outcome Sheet
route_stage from to k network kept =
    and_then (route_answer network.relays network.lows network.highs network.states k from to (room 32) (room 1062) (room 32000)) λ _.
    done (sheet_of from to k network kept)

-- Cut, and the stages behind it.
unfoldable pub cut_stage : (from to k : ℕ) (network : Network) → Outcome Sheet
cut_stage from to k network = passing (sheet_answers (from ∷ to ∷ k ∷ []) network) (sheet_for from to k network)

module _ (n : ℕ) (lows highs states : List ℕ) (from to k kept : ℕ) where
  route-refused : (refusal : Refusal)
      → route_answer n lows highs states k from to (room 32) (room 1062) (room 32000) ≡ refusal_of refusal
      → route_stage from to k (network_of n lows highs states) kept ≡ refusal_of refusal
  unfolding route_stage
  route-refused refusal e = stage-refused _ _ refusal e

  route-done : (values : List ℕ)
      → route_answer n lows highs states k from to (room 32) (room 1062) (room 32000) ≡ done values
      → route_stage from to k (network_of n lows highs states) kept ≡ done (sheet_of from to k (network_of n lows highs states) kept)
  unfolding route_stage
  route-done values e =
      then-done (route_answer n lows highs states k from to (room 32) (room 1062) (room 32000)) _ values e

-- Of an accepted network Cut refuses nothing that Route would not refuse in its place: its k is the first that Route looks at.
module _ (n : ℕ) (lows highs states : List ℕ) (from to k : ℕ) (ok : Accepted n lows highs states) where
  cut-count : outside 1 32 k ≡ true → cut_answer n lows highs states k (room 3000) ≡ refusal_of RouteCount
  unfolding cut_answer and_then refuse_if
  cut-count h = rw (ok, h)

  route-count : outside 1 32 k ≡ true → route_answer n lows highs states k from to (room 32) (room 1062) (room 32000) ≡ refusal_of RouteCount
  unfolding route_answer route_unless and_then refuse_if
  route-count h = rw (ok, h)

  cut_keeps : outside 1 32 k ≡ false → cut_answer n lows highs states k (room 3000) ≡ done (total (marks_of n lows highs states k) ∷ [])
  unfolding cut_answer and_then refuse_if
  cut_keeps h =
      let long : ltb (length (room 3000)) (length lows) ≡ false =
      le-ltb (length (room 3000)) (length lows) (omega (arith, length-room 3000, (accepted n lows highs states ok).short)) in
      rw (ok, h, long)

  accepted-stage : cut_stage from to k (network_of n lows highs states)
      ≡ route_stage from to k (network_of n lows highs states) (total (marks_of n lows highs states k))
  unfolding cut_stage passing sheet_answers sheet_for route_stage
  accepted-stage = go (outside 1 32 k) refl
    where
      go : (b : Bool) → outside 1 32 k ≡ b
          → cut_stage from to k (network_of n lows highs states)
          ≡ route_stage from to k (network_of n lows highs states) (total (marks_of n lows highs states k))
      go true h = stage-refused _ _ RouteCount (cut-count h) ∙ sym (stage-refused _ _ RouteCount (route-count h))
      go false h = then-done (cut_answer n lows highs states k (room 3000)) _ (total (marks_of n lows highs states k) ∷ []) (cut_keeps h)

  -- Where Route answers there is a sheet.
  pub stage-done : (values : List ℕ) → route_answer n lows highs states k from to (room 32) (room 1062) (room 32000) ≡ done values
      → cut_stage from to k (network_of n lows highs states) ≡ done (sheet_for from to k (network_of n lows highs states))
  unfolding sheet_for
  stage-done values e = accepted-stage ∙ route-done n lows highs states from to k (total (marks_of n lows highs states k)) values e

-- The lists of Route with links after a success: as many counts as routes, the relays of all of them, from which the counts cut the
-- routes again, and their links, from which one less each time cuts them.
module _
    (n : ℕ)
    (lows highs states : List ℕ)
    (k from to : ℕ)
    (counts relays links scratch values : List ℕ)
    (answer : route_links_answer n lows highs states k from to counts relays links scratch ≡ done values)
  where
    counts-are : route_links_counts n lows highs states k from to counts relays links scratch
        ≡ overwrite (map length (routes_of n lows highs states k from to)) counts
    unfolding route_links_counts
    counts-are = if-done (route_links_answer n lows highs states k from to counts relays links scratch) values _ _ answer

    relays-are : route_links_relays n lows highs states k from to counts relays links scratch
        ≡ overwrite (join_all (routes_of n lows highs states k from to)) relays
    unfolding route_links_relays
    relays-are = if-done (route_links_answer n lows highs states k from to counts relays links scratch) values _ _ answer

    links-are : route_links_links n lows highs states k from to counts relays links scratch
        ≡ overwrite (join_all (overs_of n lows highs states k from to)) links
    unfolding route_links_links
    links-are = if-done (route_links_answer n lows highs states k from to counts relays links scratch) values _ _ answer

    sizes-count : length (map length (routes_of n lows highs states k from to)) ≡ k
    sizes-count = length-map (routes_of n lows highs states k from to) length ∙ length-routes n lows highs states k from to

    first-counts : take k (route_links_counts n lows highs states k from to counts relays links scratch)
        ≡ map length (routes_of n lows highs states k from to)
    first-counts =
        ap (take k) counts-are
        ∙ take-overwrite (map length (routes_of n lows highs states k from to)) counts k (omega (arith, sizes-count))
        ∙ take_all k (map length (routes_of n lows highs states k from to)) (omega (arith, sizes-count))

    first-steps : map pred (take k (route_links_counts n lows highs states k from to counts relays links scratch))
        ≡ map length (overs_of n lows highs states k from to)
    first-steps =
        ap (map pred) first-counts
        ∙ sym (over-lengths n lows highs states k from to (links-passed n lows highs states k from to counts relays links scratch values answer))

    pub counts-room : k ≤ length (route_links_counts n lows highs states k from to counts relays links scratch)
    counts-room =
        omega (arith, sizes-count, longer (map length (routes_of n lows highs states k from to)) counts, ap length counts-are)

    pub relays-room : total (take k (route_links_counts n lows highs states k from to counts relays links scratch))
        ≤ length (route_links_relays n lows highs states k from to counts relays links scratch)
    relays-room =
        omega (
          arith,
          ap total first-counts,
          total-lengths (routes_of n lows highs states k from to),
          longer (join_all (routes_of n lows highs states k from to)) relays,
          ap length relays-are,
        )

    pub links-room : total (map pred (take k (route_links_counts n lows highs states k from to counts relays links scratch)))
        ≤ length (route_links_links n lows highs states k from to counts relays links scratch)
    links-room =
        omega (
          arith,
          ap total first-steps,
          total-lengths (overs_of n lows highs states k from to),
          longer (join_all (overs_of n lows highs states k from to)) links,
          ap length links-are,
        )

    pub routes-cut : cut_up (take k (route_links_counts n lows highs states k from to counts relays links scratch))
        (route_links_relays n lows highs states k from to counts relays links scratch)
        ≡ routes_of n lows highs states k from to
    unfolding overwrite
    routes-cut = ap₂ cut_up first-counts relays-are ∙ cut_up-joined (routes_of n lows highs states k from to) _

    pub overs-cut : cut_up (map pred (take k (route_links_counts n lows highs states k from to counts relays links scratch)))
        (route_links_links n lows highs states k from to counts relays links scratch)
        ≡ overs_of n lows highs states k from to
    unfolding overwrite
    overs-cut = ap₂ cut_up first-steps links-are ∙ cut_up-joined (overs_of n lows highs states k from to) _

-- Both were called with the planner's own lists: one refused, or the three lists and the count give the lines of the sheet.
pub record Routed (from to k n : ℕ) (lows highs states : List ℕ) (kept : ℕ) (counts relays links : List ℕ) : Type 0 where
  pub sizes : k ≤ length counts
  pub within : total (take k counts) ≤ length relays
  pub linked : total (map pred (take k counts)) ≤ length links
  pub lines : printed sheet_text (cut_stage from to k (network_of n lows highs states))
      ≡ sheet_lines from to k (cut_up (take k counts) relays) (cut_up (map pred (take k counts)) links) kept

module _
    (n : ℕ)
    (lows highs states : List ℕ)
    (from to k : ℕ)
    (ok : Accepted n lows highs states)
    (counts relays links scratch : List ℕ)
    (counts_are : counts ≡ room 32)
    (relays_are : relays ≡ room 1062)
    (links_are : links ≡ room 1030)
    (scratch_is : scratch ≡ room 32000)
  where
    with-rooms : (outcome : Outcome (List ℕ)) → route_links_answer n lows highs states k from to counts relays links scratch ≡ outcome
        → route_answer n lows highs states k from to (room 32) (room 1062) (room 32000) ≡ outcome
    with-rooms outcome e =
        let roomy : 1030 ≤ length links = omega (arith, ap length links_are, length-room 1030) in
        rw (← counts_are, ← relays_are, ← scratch_is)
        (sym (links-answer n lows highs states k from to counts relays links scratch roomy) ∙ e)

    pub routes-refused : (refusal : Refusal)
        → counted_answer n lows highs states k from to counts relays links scratch ≡ refusal_of refusal
        → cut_stage from to k (network_of n lows highs states) ≡ refusal_of refusal
    unfolding counted_answer
    routes-refused refusal e =
        let routes = route_links_answer n lows highs states k from to counts relays links scratch in
        let stops : routes ≡ refusal_of refusal = answer-refused routes (λ _. total (marks_of n lows highs states k) ∷ []) refusal e in
        accepted-stage n lows highs states from to k ok
        ∙ route-refused n lows highs states from to k (total (marks_of n lows highs states k)) refusal (with-rooms (refusal_of refusal) stops)

    pub routes-written : (kept : ℕ) (counts_now relays_now links_now : List ℕ)
        → counted_answer n lows highs states k from to counts relays links scratch ≡ done (kept ∷ [])
        → counts_now ≡ route_links_counts n lows highs states k from to counts relays links scratch
        → relays_now ≡ route_links_relays n lows highs states k from to counts relays links scratch
        → links_now ≡ route_links_links n lows highs states k from to counts relays links scratch
        → Routed from to k n lows highs states kept counts_now relays_now links_now
    unfolding printed sheet_for sheet_text sheet_lines counted_answer
    routes-written kept counts_now relays_now links_now told counts_of relays_of links_of =
        let (values, e, last) = done-then (route_links_answer n lows highs states k from to counts relays links scratch) _ (kept ∷ []) told in
        let counted : kept ≡ total (marks_of n lows highs states k) = cc in
        rw (counted, counts_of, relays_of, links_of)
        (record {
          sizes = counts-room n lows highs states k from to counts relays links scratch values e;
          within = relays-room n lows highs states k from to counts relays links scratch values e;
          linked = links-room n lows highs states k from to counts relays links scratch values e;
          lines =
              ap (printed sheet_text) (stage-done n lows highs states from to k ok values (with-rooms (done values) e))
              ∙ ap₂ (λ (routes overs : List (List ℕ)). sheet_lines from to k routes overs (total (marks_of n lows highs states k)))
              (sym (routes-cut n lows highs states k from to counts relays links scratch values e))
              (sym (overs-cut n lows highs states k from to counts relays links scratch values e));
        })

-- Read, and the stages behind it.
abbrev pub read_stage : (text : List ℕ) (from to k : ℕ) → Outcome Sheet
read_stage text from to k = and_then (read_network text 3000 3000 1000) (cut_stage from to k)

-- The wish, and all the rest.
pub wish-departed : (input : List ℕ) (p : ℕ) → scan_form input wish_form 0 ≡ departs p → planned input ≡ refusal_of (Wish p)
unfolding planned
wish-departed input p e = line-departed planner _ input p e

pub wish-taken : (input : List ℕ) (from to k p : ℕ) → scan_form input wish_form 0 ≡ reads (from ∷ to ∷ k ∷ []) p
    → (p ≤ length input) × (planned input ≡ read_stage (take (length input - p) (drop p input)) from to k)
unfolding planned cut_stage
wish-taken input from to k p e = line_taken planner _ input (from ∷ to ∷ k ∷ []) p wish-line e
