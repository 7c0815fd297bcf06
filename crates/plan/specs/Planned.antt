-- What stands behind a sheet: the wish, the network that was read, and what Cut and Route answered.
-- Assumes nothing.
use Rattle.std.specs.Prelude.{ℕ, ◌<◌, List, [], ◌∷◌, ◌≡◌, refl, eqb, get_or}
use Rattle.std.proofs.Common.{ap, subst, arith}
use Rattle.definitions.specs.Outcome.{done}
use Rattle.definitions.specs.Lists.{count}
use Rattle.definitions.specs.Forests.{marks_of}
use Rattle.definitions.specs.Route.{routes_of, too_short, route_answer}
use Rattle.definitions.specs.Over.{overs_of}
use Rattle.definitions.specs.Text.{Network}
use Rattle.definitions.specs.Program.{room}
use Rattle.definitions.specs.Promised.{Asked}
use Rattle.definitions.specs.Plan.{wish_form, Sheet, sheet_for, sheet_answers, planner, planned}
use Rattle.definitions.specs.Form.{Fits}
use Rattle.theory.specs.RoutePassed.{RoutePassed, unless-passed}
use Rattle.text_theory.specs.Forms.{wish-line}
use Rattle.text_theory.specs.NetworkLines.{read-line}
use Rattle.text_theory.specs.Programs.{AllDone, outcome-done}
use Rattle.program.specs.CutPassed.{kept-total}

-- What Route passed before it answered.
pub route-passed : (n : ℕ) (lows highs states : List ℕ) (k from to : ℕ) (counts relays scratch values : List ℕ)
    → route_answer n lows highs states k from to counts relays scratch ≡ done values → RoutePassed n lows highs states k from to
unfolding route_answer
route-passed n lows highs states k from to counts relays scratch values e =
    (unless-passed (too_short n k counts relays scratch) n lows highs states k from to values e).1

-- The sheet of a network, with so many links kept.
abbrev pub sheet_of : (from to k : ℕ) (network : Network) (kept : ℕ) → Sheet
sheet_of from to k network kept =
    record {
      from = from;
      to = to;
      k = k;
      routes = routes_of network.relays network.lows network.highs network.states k from to;
      overs = overs_of network.relays network.lows network.highs network.states k from to;
      kept = kept;
    }

-- How many links Cut keeps of a network.
abbrev pub kept_of : ℕ → Network → ℕ
kept_of k network = count (eqb 1) (marks_of network.relays network.lows network.highs network.states k)

-- A sheet for a network that was read.
pub record SheetFor (from to k : ℕ) (network : Network) (sheet : Sheet) : Type 0 where
  pub answer : List ℕ
  pub routed : route_answer network.relays network.lows network.highs network.states k from to (room 32) (room 1062) (room 32000) ≡ done answer
  pub sheet_is : sheet ≡ sheet_of from to k network (kept_of k network)

-- The sheet for a wish has the links that are kept as a count of ones.
pub kept-ones : (from to k : ℕ) (network : Network) → sheet_for from to k network ≡ sheet_of from to k network (kept_of k network)
unfolding sheet_for
kept-ones from to k network =
    ap (sheet_of from to k network) (kept-total network.relays network.lows network.highs network.states k)

-- Where Cut and Route answered.
pub sheet-for : (wish : List ℕ) (network : Network) → AllDone (sheet_answers wish network)
    → SheetFor (get_or wish 0 0) (get_or wish 1 0) (get_or wish 2 0) network (sheet_for (get_or wish 0 0) (get_or wish 1 0) (get_or wish 2 0) network)
unfolding AllDone sheet_answers
sheet-for wish network passed =
    record { answer = passed.1.0.0; routed = passed.1.0.1; sheet_is = kept-ones (get_or wish 0 0) (get_or wish 1 0) (get_or wish 2 0) network }

-- A wish that was read has three numbers of at most four digits.
pub record WishRead (wish : List ℕ) : Type 0 where
  pub numbers : wish ≡ get_or wish 0 0 ∷ get_or wish 1 0 ∷ get_or wish 2 0 ∷ []
  pub small_from : get_or wish 0 0 < 10000
  pub small_to : get_or wish 1 0 < 10000

wish-numbers : (wish : List ℕ) → Fits wish_form wish → WishRead wish
unfolding wish_form
wish-numbers [] fits = absurd fits
wish-numbers (from ∷ []) fits = absurd fits.1
wish-numbers (from ∷ to ∷ []) fits = absurd fits.1.1
wish-numbers (from ∷ to ∷ k ∷ []) fits = record { numbers = refl; small_from = fits.0; small_to = fits.1.0 }
wish-numbers (from ∷ to ∷ k ∷ more ∷ rest) fits = absurd fits.1.1.1

pub wish-read : (input wish : List ℕ) (network : Network) → Asked planner input wish network → WishRead wish
wish-read input wish network asked =
    wish-numbers wish (read-line wish_form input 0 wish asked.behind wish-line (omega arith) asked.line).0

-- A sheet that the planner prints: its wish, and the network that was read behind the wish line.
pub record PlannedSheet (sheet : Sheet) : Type 0 where
  pub from : ℕ
  pub to : ℕ
  pub k : ℕ
  pub network : Network
  pub small_from : from < 10000
  pub small_to : to < 10000
  pub given : SheetFor from to k network sheet

pub planned-sheet : (input : List ℕ) (sheet : Sheet) → planned input ≡ done sheet → PlannedSheet sheet
unfolding planned
planned-sheet input sheet e =
    let found = outcome-done planner _ input sheet e in
    let wish = found.numbers in
    let line = wish-read input wish found.thing found.asked in
    record {
      from = get_or wish 0 0;
      to = get_or wish 1 0;
      k = get_or wish 2 0;
      network = found.thing;
      small_from = line.small_from;
      small_to = line.small_to;
      given =
          subst (SheetFor (get_or wish 0 0) (get_or wish 1 0) (get_or wish 2 0) found.thing) found.value_is
          (sheet-for wish found.thing found.passed);
    }
