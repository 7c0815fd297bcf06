-- The planner never prints more bytes than its output has room for. Rests on demand 3, which bounds the relays of all the routes.
use Rattle.std.specs.Prelude.{ℕ, suc, ◌+◌, ◌*◌, ◌^◌, ◌≤◌, ◌<◌, List, [], ◌∷◌, ◌++◌, map, ◌≡◌, eqb, length}
use Rattle.std.proofs.Common.{sym, ◌∙◌, mul-suc, arith, length-append}
use Rattle.std.proofs.lemmas.List.{length-map}
use Rattle.definitions.specs.Lists.{join_all, AllBelow}
use Rattle.definitions.specs.Forests.{mark_of, forests_of, marks_of}
use Rattle.definitions.specs.Route.{routes_of}
use Rattle.definitions.specs.Over.{overs_of}
use Rattle.definitions.specs.Form.{bytes, decimal, write_form, spaced}
use Rattle.definitions.specs.Text.{Network, end_form}
use Rattle.definitions.specs.Program.{room}
use Rattle.definitions.specs.Plan.{sheet_form, kept_form, Sheet, output_room, planned, numbers_line, route_lines, sheet_text, plan_text}
use Rattle.lists.specs.Counting.{count-length}
use Rattle.theory.specs.Accepted.{accepted}
use Rattle.theory.proofs.ForestBound.{forests-length}
use Rattle.text_theory.specs.Decimal.{length-decimal-at-most}
use Rattle.text_theory.specs.Spans.{span, written-span}
use Rattle.plan.specs.SheetLines.{line-length}
use Rattle.plan.specs.Planned.{route-passed, kept_of, SheetFor, planned-sheet}
use Rattle.program.specs.Printable.{printed-fits}
use Rattle.plan.specs.Refusals.{planned-printable}
use Rattle.plan.specs.Routes.{length-routes, routes-below, routes-of}
use Rattle.plan.specs.Overs.{length-overs, overs-written, overs-below}

-- The lines of a sheet.
below-second : (bound : ℕ) (l k : List ℕ) → AllBelow bound (l ++ k) → AllBelow bound l × AllBelow bound k
below-second bound [] k h = (tt, h)
below-second bound (x ∷ l) k h = let rest = below-second bound l k h.1 in ((h.0, rest.0), rest.1)

-- Numbers of at most `more` + 1 digits, each behind a space.
spaced-length : (more : ℕ) (numbers : List ℕ) → AllBelow (10 ^ suc more) numbers → length (spaced numbers) ≤ (2 + more) * length numbers
unfolding spaced
spaced-length more [] h = omega arith
spaced-length more (x ∷ numbers) h =
    omega (
      arith,
      length-append (decimal x) (spaced numbers),
      length-decimal-at-most more x h.0,
      mul-suc (2 + more) (length numbers),
      spaced-length more numbers h.1,
    )

-- The two lines of each route: 8 bytes and 4 for each relay, 7 bytes and 5 for each link.
lines-length : (routes overs : List (List ℕ)) → length overs ≡ length routes → AllBelow 1000 (join_all routes) → AllBelow 10000 (join_all overs)
    → length (route_lines routes overs) ≤ 15 * length routes + (4 * length (join_all routes) + 5 * length (join_all overs))
unfolding route_lines join_all
lines-length [] overs same relays links = omega arith
lines-length (route ∷ routes) [] same relays links = absurd (omega arith)
lines-length (route ∷ routes) (over ∷ overs) same relays links =
    let here = below-second 1000 route (join_all routes) relays in
    let there = below-second 10000 over (join_all overs) links in
    omega (
      arith,
      length-append (numbers_line (bytes "(route") route) (numbers_line (bytes "(over") over ++ route_lines routes overs),
      length-append (numbers_line (bytes "(over") over) (route_lines routes overs),
      line-length (bytes "(route") route,
      line-length (bytes "(over") over,
      length-append route (join_all routes),
      length-append over (join_all overs),
      spaced-length 2 route here.0,
      spaced-length 3 over there.0,
      lines-length routes overs (omega arith) here.1 there.1,
    )

kept-few : (k : ℕ) (network : Network) → kept_of k network ≤ length network.lows
unfolding marks_of
kept-few k network =
    let n = network.relays in
    let forests = forests_of n network.lows network.highs network.states in
    omega (
      arith,
      count-length (eqb 1) (map (mark_of k) forests),
      length-map forests (mark_of k),
      forests-length n network.lows network.highs network.states,
    )

-- A sheet: its line has at most 39 bytes, the two lines of each route 15 and 4 for each relay and 5 for each link, the two last lines
-- 12 and 6: 39 + 32 × 15 + 4 × 1,062 + 5 × 1,030 + 12 + 6 = 9,935 bytes.
pub sheet-length : (from to k : ℕ) (network : Network) (sheet : Sheet)
    → from < 10000 → to < 10000 → SheetFor from to k network sheet → length (sheet_text sheet) ≤ output_room
unfolding output_room sheet_text span sheet_form kept_form end_form
sheet-length from to k network sheet small_from small_to given =
    let n = network.relays in
    let lows = network.lows in
    let highs = network.highs in
    let states = network.states in
    let routes = routes_of n lows highs states k from to in
    let overs = overs_of n lows highs states k from to in
    let kept = kept_of k network in
    let passed = route-passed n lows highs states k from to (room 32) (room 1062) (room 32000) given.answer given.routed in
    let table = accepted n lows highs states passed.accepted in
    let written = (routes-of n lows highs states k from to passed).written in
    let first = write_form sheet_form (from ∷ to ∷ k ∷ []) in
    let third = write_form kept_form (kept ∷ []) in
    let last = write_form end_form [] in
    rw given.sheet_is
    (omega (
      arith,
      table.few,
      passed.starts,
      passed.few,
      length-append first (route_lines routes overs ++ (third ++ last)),
      length-append (route_lines routes overs) (third ++ last),
      length-append third last,
      written-span 3 sheet_form (from ∷ to ∷ k ∷ []) (small_from, (small_to, (omega (arith, passed.few), tt))),
      written-span 3 kept_form (kept ∷ []) (omega (arith, table.short, kept-few k network), tt),
      written-span 3 end_form [] tt,
      lines-length routes overs (length-overs n lows highs states k from to passed ∙ sym (length-routes n lows highs states k from to))
          (routes-below 1000 n lows highs states k from to table.some table.few)
          (overs-below n lows highs states k from to passed 10000 (omega (arith, table.short))),
      length-routes n lows highs states k from to,
      overs-written n lows highs states k from to passed,
    ))

-- Everything that is printed.
pub plan-length : (input : List ℕ) → length (plan_text input) ≤ output_room
unfolding output_room plan_text
plan-length input =
    printed-fits sheet_text output_room (planned input) (omega arith) (planned-printable input) (λ sheet e.
    let found = planned-sheet input sheet e in
    sheet-length found.from found.to found.k found.network sheet found.small_from found.small_to found.given)
