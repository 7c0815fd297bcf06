-- The output has room for everything that is printed. Rests on demand 3, which bounds the relays of all the routes.
use Rattle.std.specs.Prelude.{ℕ, suc, ◌-◌, ◌≤◌, ◌<◌, get_or}
use mathlib.Core.List.{List, [], ◌∷◌}
use Rattle.std.proofs.Common.{sym, ◌∙◌}
use native.Mathlib.Omega.{arith}
use Rattle.std.proofs.Math.ListN.{length}
use Rattle.definitions.specs.Network.{Accepted}
use Rattle.definitions.specs.Order.{relay_at, order_of}
use Rattle.definitions.specs.Text.{Network}
use Rattle.definitions.specs.Program.{on, own_read}
use Rattle.definitions.specs.Plan.{output_room}
use Rattle.definitions.specs.Sure.{few_form, none_form, last_of, before_of, figure_of, serving_of, figure_text, sure_text}
use Rattle.theory.specs.Accepted.{accepted}
use Rattle.theory.specs.Places.{place-named}
use Rattle.theory.specs.RouteLinks.{links-few}
use Rattle.text_theory.specs.Programs.{outcome-read}
use Rattle.text_theory.specs.RoundTrip.{written_read}
use Rattle.text_theory.specs.Spans.{span, written-span}
use Rattle.program.specs.Printable.{printed-fits}
use Rattle.plan.specs.Longest.{sheet-length}
use Rattle.sure.specs.Promise.{figure-by, sheet-given, sure-printable}

module _ (w : Network) (good : Accepted w.relays w.lows w.highs w.states) where
  -- A relay of the order, and how many links one has, in four digits.
  relay-small : (v : ℕ) → v < serving_of w → get_or (on w order_of) v 0 < 10000
  unfolding relay_at
  relay-small v h =
      let named = place-named w.relays w.lows w.highs w.states (suc v) (omega arith) (omega arith) in
      omega (arith, named.0, (accepted w.relays w.lows w.highs w.states good).few)

  links-small : figure_of w < 10000
  links-small =
      omega (arith, links-few w.lows w.highs w.states (last_of w), (accepted w.relays w.lows w.highs w.states good).short)

  figure-length : length (figure_text w) ≤ output_room
  unfolding output_room span few_form none_form
  figure-length =
      figure-by w (λ (text : List ℕ). length text ≤ output_room)
      (λ few. omega (arith, written-span 3 few_form (serving_of w ∷ []) (omega arith, tt)))
      (λ two _.
      omega (
        arith,
        written-span 3 none_form (last_of w ∷ before_of w ∷ figure_of w ∷ [])
            (relay-small (serving_of w - 1) (omega arith), (relay-small (serving_of w - 2) (omega arith), (links-small, tt))),
      ))
      (λ two some few.
      sheet-length (last_of w) (before_of w) (figure_of w) w _ (relay-small (serving_of w - 1) (omega arith))
      (relay-small (serving_of w - 2) (omega arith)) (sheet-given w good two some few))

pub sure-length : (input : List ℕ) → length (sure_text input) ≤ output_room
unfolding output_room sure_text
sure-length input =
    printed-fits figure_text output_room _ (omega arith) (sure-printable input)
    (λ network e. figure-length network (written_read input 3000 3000 1000 network (sym (outcome-read own_read input) ∙ e)).1)
