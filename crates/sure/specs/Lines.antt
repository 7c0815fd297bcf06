-- What is printed for a network, by what is known of it. Rests on #107: neither Cut nor Route refuses between the last two relays.
use Rattle.std.specs.Prelude.{ℕ, ◌-◌, ◌≤◌, ◌<◌, List, [], ◌∷◌, ◌≡◌, length, get_or}
use Rattle.std.proofs.Math.Bool.{true}
use Rattle.std.proofs.Common.{sym, ◌∙◌, arith, lt-ltb, le-ltb}
use Rattle.std.proofs.Math.Path.{ap}
use Rattle.definitions.specs.Outcome.{Outcome}
use Rattle.definitions.specs.Lists.{outside, overwrite}
use Rattle.definitions.specs.Network.{Accepted}
use Rattle.definitions.specs.Order.{links_at, order_of, relay_at}
use Rattle.definitions.specs.Form.{bytes, write_form}
use Rattle.definitions.specs.Text.{Network, read_network}
use Rattle.definitions.specs.Program.{on, own_read, printed}
use Rattle.definitions.specs.Plan.{output_room, sheet_text}
use Rattle.definitions.specs.Sure.{few_form, none_form, last_of, before_of, figure_of, serving_of, figure_text, sure_text}
use Rattle.lists.specs.Ranges.{inside}
use Rattle.theory.specs.Places.{relay-entry}
use Rattle.text_theory.specs.Programs.{outcome-read}
use Rattle.text.specs.Put.{Put}
use Rattle.program.specs.ReadStage.{whole-put}
use Rattle.program.specs.Single.{single_form}
use Rattle.plan.specs.Stages.{cut_stage, stage-done}
use Rattle.sure.specs.Promise.{sheet-given}
use Rattle.sure.specs.Longest.{sure-length}

pub few-text : (w : Network) (count : ℕ) → count ≡ serving_of w → count < 2
    → figure_text w ≡ write_form (single_form (bytes "(none (serving ") (bytes "))\n")) (count ∷ [])
unfolding figure_text few_form
few-text w count same h = rw (same, lt-ltb (serving_of w) 2 (omega arith))

-- Order's list for an accepted network, how many relays it places, and how many links the last of them has.
pub record Ordered (w : Network) (relays : List ℕ) (count links : ℕ) : Type 0 where
  pub accepted : Accepted w.relays w.lows w.highs w.states
  pub old : List ℕ
  pub placed : relays ≡ overwrite (on w order_of) old
  pub counted : count ≡ serving_of w
  pub two : 2 ≤ count
  pub linked : links ≡ links_at w.lows w.highs w.states (get_or relays (count - 1) 0)

module _ (w : Network) (relays : List ℕ) (count links : ℕ) (given : Ordered w relays count links) where
  -- The last two are those of the order.
  entry : (v : ℕ) → v < serving_of w → get_or relays v 0 ≡ get_or (on w order_of) v 0
  unfolding relay_at
  entry v h = rw given.placed (relay-entry w.relays w.lows w.highs w.states given.old v h)

  two : 2 ≤ serving_of w
  two = omega (arith, given.counted, given.two)

  is_last : get_or relays (count - 1) 0 ≡ last_of w
  is_last = rw given.counted (entry (serving_of w - 1) (omega (arith, two)))

  is-before : get_or relays (count - 2) 0 ≡ before_of w
  is-before = rw given.counted (entry (serving_of w - 2) (omega (arith, two)))

  many : links ≡ figure_of w
  many = given.linked ∙ ap (links_at w.lows w.highs w.states) is_last

  pub none-text : outside 1 32 links ≡ true
      → figure_text w ≡ write_form none_form (get_or relays (count - 1) 0 ∷ get_or relays (count - 2) 0 ∷ links ∷ [])
  unfolding figure_text
  none-text out =
      let missed : outside 1 32 (figure_of w) ≡ true = ap (outside 1 32) (sym many) ∙ out in
      rw (le-ltb (serving_of w) 2 two, missed, is_last, is-before, many)

  pub sheet-text : 1 ≤ links → links ≤ 32
      → figure_text w ≡ printed sheet_text (cut_stage (get_or relays (count - 1) 0) (get_or relays (count - 2) 0) links w)
  unfolding figure_text printed
  sheet-text low high =
      let some : 1 ≤ figure_of w = omega (arith, many) in
      let few : figure_of w ≤ 32 = omega (arith, many) in
      let sheet = sheet-given w given.accepted two some few in
      rw (le-ltb (serving_of w) 2 two, inside 1 32 (figure_of w) some few, is_last, is-before, many)
      (sym (ap (printed sheet_text) (stage-done _ _ _ _ _ _ _ given.accepted _ sheet.routed)))

-- What is printed, by what Read answers: the output has room for it, and it is the whole output.
module _ (input : List ℕ) (outcome : Outcome Network) (read : read_network input 3000 3000 1000 ≡ outcome) where
  sure-printed : sure_text input ≡ printed figure_text outcome
  unfolding sure_text
  sure-printed = ap (printed figure_text) (outcome-read own_read input ∙ read)

  pub sure-fits : length (printed figure_text outcome) ≤ output_room
  sure-fits = omega (arith, ap length sure-printed, sure-length input)

  pub sure-put : (before after : List ℕ) (next : ℕ) → output_room ≤ length before → Put before 0 (printed figure_text outcome) after next
      → (next ≡ length (sure_text input)) × (after ≡ overwrite (sure_text input) before)
  sure-put before after next roomy put = whole-put _ _ before after next sure-printed (omega (arith, sure-length input)) put
