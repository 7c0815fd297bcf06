-- The refusals that the planner prints. Assumes nothing.
use Rattle.std.specs.Prelude.{ℕ, ◌+◌, ◌-◌, ◌*◌, ◌≤◌, false, ◌&&◌, ◌||◌, not, List, [], ◌≡◌, refl, eqb, ltb, leb, length, get_or}
use Rattle.std.proofs.Common.{mul-le-mul, arith, le-ltb}
use Rattle.definitions.specs.Lists.{outside}
use Rattle.definitions.specs.Network.{serves, table_check, Accepted}
use Rattle.definitions.specs.Route.{one_tree_of, route_unless, too_short, route_answer}
use Rattle.definitions.specs.Text.{Network}
use Rattle.definitions.specs.Program.{room}
use Rattle.definitions.specs.Plan.{wish_form, sheet_answers, planned}
use Rattle.lists.specs.Outcomes.{refuse-not, then-done}
use Rattle.lists.specs.Ranges.{inside-range}
use Rattle.lists.specs.RefusedWithin.{RefusedAs, refuse-as}
use Rattle.lists.specs.Tests.{or-neither}
use Rattle.theory.specs.Accepted.{accepted}
use Rattle.text_theory.specs.Spans.{span}
use Rattle.text_theory.specs.Programs.{AnswersAs}
use Rattle.program.specs.Printable.{Printable, printable, cut-printable, network-printable}
use Rattle.program.specs.ReadStage.{length-room}

-- The planner's own lists are long enough for every network and every k.
pub rooms-fit : (n k : ℕ) → n ≤ 1000 → k ≤ 32 → too_short n k (room 32) (room 1062) (room 32000) ≡ false
unfolding too_short
rooms-fit n k few most =
    let product : k * n ≤ 32 * 1000 = mul-le-mul {n₂ = 32} {m₂ = 1000} most few in
    or-neither (ltb (length (room 32)) k) _ (le-ltb (length (room 32)) k (omega (arith, length-room 32)))
    (or-neither (ltb (length (room 1062)) (n - 2 + 2 * k)) _
    (le-ltb (length (room 1062)) (n - 2 + 2 * k) (omega (arith, length-room 1062)))
    (le-ltb (length (room 32000)) (k * n) (omega (arith, length-room 32000))))

-- Route refuses with 9, 10, 11, 17 or 13.
route-printable : (n : ℕ) (lows highs states : List ℕ) (k from to : ℕ) → Accepted n lows highs states
    → RefusedAs Printable (route_answer n lows highs states k from to (room 32) (room 1062) (room 32000))
unfolding route_answer route_unless
route-printable n lows highs states k from to good =
    rw (then-done (table_check n lows highs states) _ [] good)
    (refuse-as Printable (outside 1 32 k) 9 0 _ (λ _. printable 9 0 (omega arith) (omega arith) refl refl)
    (λ range. refuse-as Printable (leb n from || leb n to) 10 0 _ (λ _. printable 10 0 (omega arith) (omega arith) refl refl)
    (λ _. refuse-as Printable (eqb from to) 11 0 _ (λ _. printable 11 0 (omega arith) (omega arith) refl refl)
    (λ _. refuse-as Printable (not (serves states from && serves states to)) 17 0 _ (λ _. printable 17 0 (omega arith) (omega arith) refl refl)
    (λ _. rw (refuse-not (too_short n k (room 32) (room 1062) (room 32000)) 12 0 _
    (rooms-fit n k (accepted n lows highs states good).few (inside-range 1 32 k range).1))
    (refuse-as Printable (not (one_tree_of n lows highs states k from to)) 13 0 _ (λ _. printable 13 0 (omega arith) (omega arith) refl refl)
    (λ _. tt)))))))

sheet-printable : (wish : List ℕ) (network : Network) → Accepted network.relays network.lows network.highs network.states
    → AnswersAs Printable (sheet_answers wish network)
unfolding sheet_answers AnswersAs
sheet-printable wish network good = (
  cut-printable network.relays network.lows network.highs network.states (get_or wish 2 0) good,
  (route-printable network.relays network.lows network.highs network.states (get_or wish 2 0) (get_or wish 0 0) (get_or wish 1 0) good, tt),
)

pub planned-printable : (input : List ℕ) → RefusedAs Printable (planned input)
unfolding planned span wish_form
planned-printable input =
    network-printable wish_form _ _ input (omega arith)
    sheet-printable
