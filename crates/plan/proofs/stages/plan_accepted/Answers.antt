-- `plan::stages::plan_accepted` meets its contract: one of Cut and Route refuses, or the sheet has the routes, their links and the
-- count of kept links.
use Rattle.std.proofs.Common.{ℕ, List, ◌≤◌, length, subst}
use mathlib.Core.Path.{◌≡◌, sym, ◌∙◌, ap}
use Rattle.definitions.specs.Program.{printed}
use Rattle.network.specs.Answers.{refusal_of}
use Rattle.forests.specs.Answers.{cut_outcome}
use Rattle.program.specs.ReadStage.{network_of, zeros-room, fits-as, put_as}
use Rattle.plan.specs.Stages.{cut_stage, Routed, routes-refused, routes-written}
use Rattle.plan.proofs.stages.plan_accepted.Goals as goal

pub put_refusal-requires : goal.put_refusal-requires
unfolding printed
put_refusal-requires c =
    let refused : let t = c.args.network.table in let w = c.args.wish in
    cut_stage w.from.0 w.to.0 w.k (network_of t.n t.lows.now t.highs.now t.states.now) ≡ refusal_of c.in-Err.refusal =
    let t = c.args.network.table in let w = c.args.wish in
    routes-refused t.n t.lows.now t.highs.now t.states.now w.from.0 w.to.0 w.k c.args.network.accepted _ _ _ _
    (zeros-room 32) (zeros-room 1062) (zeros-room 1030) (zeros-room 32000)
    c.in-Err.refusal (sym c.cut_and_route.ensures.result_value ∙ ap cut_outcome c.in-Err.is) in
    fits-as _ _ _ _ refused c.requires

pub put_sheet-requires : goal.put_sheet-requires
put_sheet-requires c =
    let routed : let t = c.args.network.table in let w = c.args.wish in
    let made = c.cut_and_route in
    Routed w.from.0 w.to.0 w.k t.n t.lows.now t.highs.now t.states.now c.in-Ok.kept
    made.new.counts made.new.relays made.new.links =
    let t = c.args.network.table in let w = c.args.wish in
    let made = c.cut_and_route in
    routes-written t.n t.lows.now t.highs.now t.states.now w.from.0 w.to.0 w.k c.args.network.accepted _ _ _ _
    (zeros-room 32) (zeros-room 1062) (zeros-room 1030) (zeros-room 32000)
    c.in-Ok.kept _ _ _ (sym made.ensures.result_value ∙ ap cut_outcome c.in-Ok.is)
    made.ensures.counts_left made.ensures.relays_left made.ensures.links_left in
    record {
      k_in_bounds = routed.sizes;
      counts_in_bounds = routed.within;
      counts_in_bounds_2 = routed.linked;
      kept_in_bounds = subst (λ (lines : List ℕ). length lines ≤ length c.args.output.now) routed.lines c.requires;
    }

pub returns-in-Err : goal.returns-in-Err
unfolding printed
returns-in-Err c =
    let refused : let t = c.args.network.table in let w = c.args.wish in
    cut_stage w.from.0 w.to.0 w.k (network_of t.n t.lows.now t.highs.now t.states.now) ≡ refusal_of c.in-Err.refusal =
    let t = c.args.network.table in let w = c.args.wish in
    routes-refused t.n t.lows.now t.highs.now t.states.now w.from.0 w.to.0 w.k c.args.network.accepted _ _ _ _
    (zeros-room 32) (zeros-room 1062) (zeros-room 1030) (zeros-room 32000)
    c.in-Err.refusal (sym c.cut_and_route.ensures.result_value ∙ ap cut_outcome c.in-Err.is) in
    put_as _ _ _ _ _ _ refused c.put_refusal.ensures

pub returns-in-Ok : goal.returns-in-Ok
returns-in-Ok c =
    let routed : let t = c.args.network.table in let w = c.args.wish in
    let made = c.cut_and_route in
    Routed w.from.0 w.to.0 w.k t.n t.lows.now t.highs.now t.states.now c.in-Ok.kept
    made.new.counts made.new.relays made.new.links =
    let t = c.args.network.table in let w = c.args.wish in
    let made = c.cut_and_route in
    routes-written t.n t.lows.now t.highs.now t.states.now w.from.0 w.to.0 w.k c.args.network.accepted _ _ _ _
    (zeros-room 32) (zeros-room 1062) (zeros-room 1030) (zeros-room 32000)
    c.in-Ok.kept _ _ _ (sym made.ensures.result_value ∙ ap cut_outcome c.in-Ok.is)
    made.ensures.counts_left made.ensures.relays_left made.ensures.links_left in
    rw routed.lines c.put_sheet.ensures
