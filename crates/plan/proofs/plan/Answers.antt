-- `plan::plan` meets its contract: the wish departs, or the network behind it is read. That the output holds it rests on
-- demand 3, which bounds the relays of all the routes.
use Prim.Native.Nat.{ℕ, ◌-◌, ◌≤◌}
use mathlib.Core.Path.{◌≡◌, sym, ap}
use mathlib.Core.List.{List, [], ◌∷◌}
use native.Mathlib.Omega.{arith}
use lib.ListN.{length, take, drop}
use Rattle.network.specs.Answers.{refusal_of}
use Rattle.network.specs.declared.refusal.Refusal.TheVariants.{Wish}
use Rattle.definitions.specs.Form.{departs, reads, scan_form}
use Rattle.definitions.specs.Program.{printed}
use Rattle.definitions.specs.Plan.{wish_form, output_room, sheet_text, plan_text}
use Rattle.plan.specs.Longest.{plan-length}
use Rattle.program.specs.ReadStage.{whole-put}
use Rattle.plan.specs.Stages.{read_stage, wish-departed, wish-taken}
use Rattle.plan.proofs.plan.Goals as goal

departed : (input : List ℕ) (p : ℕ) → scan_form input wish_form 0 ≡ departs p
    → plan_text input ≡ printed sheet_text (refusal_of (Wish p))
unfolding plan_text
departed input p e = ap (printed sheet_text) (wish-departed input p e)

taken : (input : List ℕ) (from to k p : ℕ) → scan_form input wish_form 0 ≡ reads (from ∷ to ∷ k ∷ []) p
    → (p ≤ length input)
    × (plan_text input ≡ printed sheet_text (read_stage (take (length input - p) (drop p input)) from to k))
unfolding plan_text
taken input from to k p e =
    let read = wish-taken input from to k p e in
    (read.0, ap (printed sheet_text) read.1)

pub plan_network-requires : goal.plan_network-requires
unfolding output_room
plan_network-requires c =
    let input = c.args.input.now in
    let w = c.in-Ok.wish in
    let is = (taken input w.from.0 w.to.0 w.k c.in-Ok.p (sym c.in-Ok.ensures)).1 in
    omega (arith, plan-length input, ap length is)

pub slice_bounds-plan_network-start : goal.slice_bounds-plan_network-start
slice_bounds-plan_network-start c =
    let w = c.in-Ok.wish in
    (taken c.args.input.now w.from.0 w.to.0 w.k c.in-Ok.p (sym c.in-Ok.ensures)).0

pub slice_bounds-plan_network-count : goal.slice_bounds-plan_network-count
slice_bounds-plan_network-count c =
    let w = c.in-Ok.wish in
    (taken c.args.input.now w.from.0 w.to.0 w.k c.in-Ok.p (sym c.in-Ok.ensures)).0

pub put_refusal-requires : goal.put_refusal-requires
unfolding printed output_room
put_refusal-requires c =
    let input = c.args.input.now in
    let is = departed input c.in-Err.departure.0 (sym c.in-Err.ensures) in
    omega (arith, plan-length input, ap length is)

pub returns-in-Ok : goal.returns-in-Ok
unfolding output_room
returns-in-Ok c =
    let input = c.args.input.now in
    let w = c.in-Ok.wish in
    let is = (taken input w.from.0 w.to.0 w.k c.in-Ok.p (sym c.in-Ok.ensures)).1 in
    let whole = whole-put _ _ _ _ _ is (omega (arith, plan-length input)) c.plan_network.ensures in
    record { length = whole.0; bytes = whole.1 }

pub returns-in-Err : goal.returns-in-Err
unfolding printed output_room
returns-in-Err c =
    let input = c.args.input.now in
    let is = departed input c.in-Err.departure.0 (sym c.in-Err.ensures) in
    let whole = whole-put _ _ _ _ _ is (omega (arith, plan-length input)) c.put_refusal.ensures in
    record { length = whole.0; bytes = whole.1 }
