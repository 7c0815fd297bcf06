-- `reports::line::read_seen` meets its contract: a number departs or is bad, or those seen end.
use Rattle.std.proofs.Common.{rules}
use mathlib.Core.Logic.{◌⊎◌, inl, inr}
use mathlib.Core.Path.{◌≡◌, refl, sym, ◌∙◌}
use Prim.Native.Nat.{◌<◌}
use native.Mathlib.Omega.{arith}
use Rattle.definitions.specs.Form.{byte_at}
use Rattle.text_theory.specs.Numbers.{byte-within}
use Rattle.text.specs.Scans.{number_gives}
use Rattle.reports.proofs.LineLaws.{least_after, read-so, departed-so, loop-start, loop-ends, loop-departs, SeenNumber, leads, turn-bad, turn-below, turn-above}
use Rattle.reports.proofs.line.read_seen.Goals as goal
use Rattle.reports.proofs.line.read_seen.Goals.{then-is_some_and-via-then-is_some_and, then-is_some_and-via-else-is_some_and+then-x-relay, then-is_some_and-via-else-is_some_and+else-x-relay+then-x-gt-HIGHEST_RELAY}

pub loop-last-init : goal.loop-last-init
loop-last-init c = loop-start _ _ _

pub overflow_add-p : goal.overflow_add-p
overflow_add-p c =
    let text = c.args.text.now in
    let p = c.loop-last.p in
    let space : byte_at text p ≡ 32 = sym c.byte.ensures ∙ c.loop-last-test.true in
    omega (arith, byte-within text p (omega (arith, space)))

pub returns-in_err-x : goal.returns-in_err-x
returns-in_err-x c =
    let departed = departed-so number_gives c.number.result c.number.ensures c.in_err-x.ensures.value in
    rw c.from_residual.ensures
    (loop-departs c.loop-last.invariant (sym c.byte.ensures ∙ c.loop-last-test.true) departed.1)

pub returns-then-is_some_and : goal.returns-then-is_some_and
returns-then-is_some_and c =
    let turn : SeenNumber c.args.text.now c.args.relay c.args.at c.loop-last.p (least_after c.loop-last.last) c.loop-last.above c.in_ok-x.x c.in_ok-x.q =
    record {
      inv = c.loop-last.invariant;
      space = sym c.byte.ensures ∙ c.loop-last-test.true;
      number = read-so number_gives c.number.result c.number.ensures _ c.in_ok-x.ensures.value;
    } in
    let fault : (c.in_ok-x.x < least_after c.loop-last.last) ⊎ ((c.in_ok-x.x ≡ c.args.relay) ⊎ (999 < c.in_ok-x.x)) = elim c.then-is_some_and.branch [
      | then-is_some_and-via-then-is_some_and w ↦ inl (search rules)
      | then-is_some_and-via-else-is_some_and+then-x-relay w ↦ inr (inl w.if-x-relay.true)
      | then-is_some_and-via-else-is_some_and+else-x-relay+then-x-gt-HIGHEST_RELAY w ↦ inr (inr w.if-x-gt-HIGHEST_RELAY.true)
    ] in
    turn-bad turn fault

pub loop-last-smaller : goal.loop-last-smaller
loop-last-smaller c =
    let turn : SeenNumber c.args.text.now c.args.relay c.args.at c.loop-last.p (least_after c.loop-last.last) c.loop-last.above c.in_ok-x.x c.in_ok-x.q =
    record {
      inv = c.loop-last.invariant;
      space = sym c.byte.ensures ∙ c.loop-last-test.true;
      number = read-so number_gives c.number.result c.number.ensures _ c.in_ok-x.ensures.value;
    } in
    omega (arith, leads turn)

pub loop-last-smaller-then-x-relay-2 : goal.loop-last-smaller-then-x-relay-2
loop-last-smaller-then-x-relay-2 c =
    let turn : SeenNumber c.args.text.now c.args.relay c.args.at c.loop-last.p (least_after c.loop-last.last) c.loop-last.above c.in_ok-x.x c.in_ok-x.q =
    record {
      inv = c.loop-last.invariant;
      space = sym c.byte.ensures ∙ c.loop-last-test.true;
      number = read-so number_gives c.number.result c.number.ensures _ c.in_ok-x.ensures.value;
    } in
    omega (arith, leads turn)

pub loop-last-preserved-then-x-relay-2 : goal.loop-last-preserved-then-x-relay-2
loop-last-preserved-then-x-relay-2 c =
    let turn : SeenNumber c.args.text.now c.args.relay c.args.at c.loop-last.p (least_after c.loop-last.last) c.loop-last.above c.in_ok-x.x c.in_ok-x.q =
    record {
      inv = c.loop-last.invariant;
      space = sym c.byte.ensures ∙ c.loop-last-test.true;
      number = read-so number_gives c.number.result c.number.ensures _ c.in_ok-x.ensures.value;
    } in
    turn-below turn (search rules) c.if-x-relay-2.true c.if-x-gt-HIGHEST_RELAY.false

pub loop-last-preserved : goal.loop-last-preserved
loop-last-preserved c =
    let turn : SeenNumber c.args.text.now c.args.relay c.args.at c.loop-last.p (least_after c.loop-last.last) c.loop-last.above c.in_ok-x.x c.in_ok-x.q =
    record {
      inv = c.loop-last.invariant;
      space = sym c.byte.ensures ∙ c.loop-last-test.true;
      number = read-so number_gives c.number.result c.number.ensures _ c.in_ok-x.ensures.value;
    } in
    turn-above turn (grind (arith, c.if-is_some_and.ensures)) c.if-x-relay-2.false c.if-x-relay.false c.if-x-gt-HIGHEST_RELAY.false

pub returns : goal.returns
returns c = loop-ends c.loop-last.invariant _ refl (λ e. c.loop-last-test.false (c.byte.ensures ∙ e))
