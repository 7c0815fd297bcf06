-- The promise of the sure figure, `SurePromise`: between the last two relays of the order Route delivers as many routes as the last has
-- links to relays in service, and no list of routes has more. Rests on #107, which the crate `theory` proves.
use Rattle.std.specs.Prelude.{ℕ, ◌-◌, ◌≤◌, ◌<◌, Bool, true, false, ◌||◌, ◌⊎◌, ◌≡◌, refl, ltb, length, take}
use mathlib.Core.List.{List, [], ◌∷◌}
use Rattle.std.proofs.Common.{inl, inr, sym, ◌∙◌, arith, ltb-true, ltb-false}
use Rattle.std.proofs.Math.Path.{ap}
use Rattle.std.proofs.Math.ListN.{get_or}
use Rattle.definitions.specs.Outcome.{pick}
use Rattle.definitions.specs.Lists.{outside}
use Rattle.definitions.specs.Network.{Accepted}
use Rattle.definitions.specs.Order.{links_at, relay_at, order_of, relays_after}
use Rattle.definitions.specs.Forests.{marks_after}
use Rattle.definitions.specs.Form.{write_form}
use Rattle.definitions.specs.Text.{Network}
use Rattle.definitions.specs.Program.{outcome_of, room, input_room, printed}
use Rattle.definitions.specs.Promised.{Answered}
use Rattle.definitions.specs.Plan.{sheet_for, sheet_text}
use Rattle.definitions.specs.LastTwo.{last_relay, last_but_one, sure_figure, RoutesInService, LastTwoHolds}
use Rattle.definitions.specs.Sure.{few_form, none_form, last_of, before_of, figure_of, serving_of, figure_text, surer, sure_text}
use Rattle.definitions.specs.SurePromise.{FigureSheet, Figure, TooFew, SurePrinted, SurePromise}
use Rattle.lists.specs.Ranges.{inside-range}
use Rattle.lists.specs.RefusedWithin.{RefusedAs}
use Rattle.theory.specs.Accepted.{accepted}
use Rattle.theory.specs.Places.{relays-after, relay-entry}
use Rattle.theory.proofs.LastTwo.{last-two}
use Rattle.text_theory.specs.Spans.{span}
use Rattle.text_theory.specs.Reach.{network-reach}
use Rattle.text_theory.specs.Programs.{AnswersAs, answered, outcome-reach}
use Rattle.program.specs.Printable.{Printable, network-printable, roomy}
use Rattle.program.specs.ReadStage.{length-room, asked-accepted}
use Rattle.plan.specs.Planned.{sheet_of, kept_of, SheetFor, kept-ones}
use Rattle.plan.specs.Refusals.{rooms-fit}
use Rattle.plan.specs.Promise.{sheet-holds}

-- A range that is missed.
missed : (x : ℕ) → outside 1 32 x ≡ true → (x ≡ 0) ⊎ (32 < x)
unfolding outside
missed x e = go (ltb x 1) refl e
  where
    go : (b : Bool) → ltb x 1 ≡ b → (b || ltb 32 x) ≡ true → (x ≡ 0) ⊎ (32 < x)
    go true below _ = let less = ltb-true x 1 below in inl (omega arith)
    go false _ above = inr (ltb-true 32 x above)

-- What is printed where two relays or more are in service.
abbrev line_of : (w : Network) → List ℕ
line_of w = write_form none_form (last_of w ∷ before_of w ∷ figure_of w ∷ [])

abbrev sheet_bytes : (w : Network) → List ℕ
sheet_bytes w = sheet_text (sheet_for (last_of w) (before_of w) (figure_of w) w)

-- What holds of each of the three that can be printed holds of what is printed.
pub figure-by : (w : Network) (P : List ℕ → Type 0) → (serving_of w < 2 → P (write_form few_form (serving_of w ∷ [])))
    → (2 ≤ serving_of w → outside 1 32 (figure_of w) ≡ true → P (line_of w))
    → (2 ≤ serving_of w → 1 ≤ figure_of w → figure_of w ≤ 32 → P (sheet_bytes w)) → P (figure_text w)
unfolding figure_text
figure-by w P few line sheet = go (ltb (serving_of w) 2) refl (outside 1 32 (figure_of w)) refl
  where
    go : (b : Bool) → ltb (serving_of w) 2 ≡ b → (o : Bool) → outside 1 32 (figure_of w) ≡ o
        → P (pick b (write_form few_form (serving_of w ∷ [])) (pick o (line_of w) (sheet_bytes w)))
    go true below o _ = few (ltb-true (serving_of w) 2 below)
    go false above true out = line (ltb-false (serving_of w) 2 above) out
    go false above false within =
        let range = inside-range 1 32 (figure_of w) within in
        sheet (ltb-false (serving_of w) 2 above) range.0 range.1

module _ (w : Network) (good : Accepted w.relays w.lows w.highs w.states) (two : 2 ≤ serving_of w) where
  -- Order's list in a lent one as long as the network.
  abbrev listed : List ℕ
  listed = relays_after w.relays w.lows w.highs w.states (room w.relays) (room w.relays)

  long : w.relays ≤ length (room w.relays)
  long = omega (arith, length-room w.relays)

  entry : (v : ℕ) → v < serving_of w → get_or listed v 0 ≡ get_or (order_of w.relays w.lows w.highs w.states) v 0
  unfolding relay_at
  entry v h =
      ap (λ (l : List ℕ). get_or l v 0)
      (relays-after w.relays w.lows w.highs w.states (room w.relays) (room w.relays) good long long)
      ∙ relay-entry w.relays w.lows w.highs w.states (room w.relays) v h

  last-same : last_of w ≡ last_relay w.relays w.states listed
  last-same = sym (entry (serving_of w - 1) (omega arith))

  before_same : before_of w ≡ last_but_one w.relays w.states listed
  before_same = sym (entry (serving_of w - 2) (omega arith))

  figure-same : sure_figure w.relays w.lows w.highs w.states listed ≡ figure_of w
  figure-same = ap (links_at w.lows w.highs w.states) (sym last-same)

  -- #107 for Order's list and this k.
  two-hold : (k : ℕ) → 1 ≤ k → k ≤ 32
      → LastTwoHolds w.relays w.lows w.highs w.states k listed
      (marks_after w.relays w.lows w.highs w.states k (room (length w.lows)))
  two-hold k some few =
      last-two w.relays w.lows w.highs w.states good two k some few (room w.relays) (room w.relays)
      (room (length w.lows)) long long (omega (arith, length-room (length w.lows)))

  no-more : (routes : List (List ℕ))
      → RoutesInService w.relays w.lows w.highs w.states (last_of w) (before_of w) routes → length routes ≤ figure_of w
  no-more routes between =
      omega (
        arith,
        figure-same,
        (two-hold 1 (omega arith) (omega arith)).no_more (last_of w) (before_of w) (inl (last-same, before_same)) routes between,
      )

  -- Route delivers d routes,
  pub sheet-given : 1 ≤ figure_of w → figure_of w ≤ 32
      → SheetFor (last_of w) (before_of w) (figure_of w) w (sheet_for (last_of w) (before_of w) (figure_of w) w)
  sheet-given some few =
      let fits = rooms-fit w.relays (figure_of w) (accepted w.relays w.lows w.highs w.states good).few few in
      let delivered =
      (two-hold (figure_of w) some few).delivers figure-same (last_of w) (before_of w) (inl (last-same, before_same)) (room 32) (room 1062)
      (room 32000) fits in
      record { answer = _; routed = delivered.answered; sheet_is = kept-ones (last_of w) (before_of w) (figure_of w) w }

  -- so the sheet holds.
  figure-sheet : 1 ≤ figure_of w → figure_of w ≤ 32 → FigureSheet w (sheet_bytes w)
  figure-sheet some few =
      let given = sheet-given some few in
      record {
        sheet = sheet_of (last_of w) (before_of w) (figure_of w) w (kept_of (figure_of w) w);
        printed = ap sheet_text given.sheet_is;
        from_last = refl;
        to_before = refl;
        many = refl;
        holds = sheet-holds (last_of w) (before_of w) (figure_of w) w (sheet_for (last_of w) (before_of w) (figure_of w) w) given;
      }

figured : (numbers : List ℕ) (w : Network) → Accepted w.relays w.lows w.highs w.states → SurePrinted numbers w (figure_text w)
figured numbers w good =
    record {
      accepted = good;
      figure =
          figure-by w (λ (text : List ℕ). Figure w text ⊎ TooFew w text)
          (λ few. inr (record { few = few; printed = refl }))
          (λ two out.
          inl (record { two = two; told = inr (record { printed = refl; many = missed (figure_of w) out }); no_more = no-more w good two }))
          (λ two some few. inl (record { two = two; told = inl (figure-sheet w good two some few); no_more = no-more w good two }));
    }

pub sure-printable : (input : List ℕ) → RefusedAs Printable (outcome_of surer (λ _ network. network) input)
unfolding span AnswersAs
sure-printable input = network-printable [] (λ _ _. []) (λ _ network. network) input (omega arith) (λ _ _ _. tt)

sure-answered : (input : List ℕ) → Answered surer SurePrinted input (sure_text input)
unfolding sure_text
sure-answered input =
    answered surer (λ _ network. network) input figure_text SurePrinted
    (roomy (outcome_of surer (λ _ network. network) input) (sure-printable input))
    (λ numbers network asked _.
    figured numbers network (asked-accepted [] (λ _ _. []) input numbers network asked))

-- An input of any length is answered from its first bytes.
pub sure-reach : (n : ℕ) (input : List ℕ) → input_room ≤ n → sure_text (take n input) ≡ sure_text input
unfolding sure_text span input_room
sure-reach n input h =
    ap (printed figure_text)
    (outcome-reach surer 54934 n input (λ size _ text. network-reach size text 3000 3000 1000) (omega arith) _)

pub sure-promise : SurePromise
sure-promise = record { answered = sure-answered; from_front = sure-reach }
