-- `keep::stages::keep_cut` meets its contract: Cut refuses, or its marks give the lines of the list.
use Rattle.std.proofs.Common.{ℕ, List, ◌≤◌, length, subst}
use mathlib.Core.Path.{◌≡◌, sym, ◌∙◌, ap}
use Rattle.definitions.specs.Program.{printed}
use Rattle.network.specs.Answers.{refusal_of}
use Rattle.forests.specs.Answers.{cut_outcome}
use Rattle.program.specs.ReadStage.{network_of, zeros-room, fits-as, put_as, cut-rooms}
use Rattle.keep.specs.Stages.{cut_stage, cut-refused, Marked, cut-marked}
use Rattle.keep.proofs.stages.keep_cut.Goals as goal

pub put_refusal-requires : goal.put_refusal-requires
unfolding printed
put_refusal-requires c =
    let refused : let t = c.args.network.table in
    cut_stage c.args.k (network_of t.n t.lows.now t.highs.now t.states.now) ≡ refusal_of c.in-Err.refusal =
    let t = c.args.network.table in
    cut-refused t.n t.lows.now t.highs.now t.states.now c.args.k c.in-Err.refusal
    (cut-rooms t.n t.lows.now t.highs.now t.states.now c.args.k _ (zeros-room 3000) _
    (sym c.cut.ensures.answer ∙ ap cut_outcome c.in-Err.is)) in
    fits-as _ _ _ _ refused c.requires

pub put_list-requires : goal.put_list-requires
put_list-requires c =
    let marked : let t = c.args.network.table in
    Marked t.n t.lows.now t.highs.now t.states.now c.args.k c.in-Ok.kept c.cut.new.marks =
    let t = c.args.network.table in
    cut-marked t.n t.lows.now t.highs.now t.states.now c.args.k _ _ _ c.args.network.accepted (zeros-room 3000)
    (sym c.cut.ensures.answer ∙ ap cut_outcome c.in-Ok.is) c.cut.ensures.marks in
    record {
      marks_in_bounds = marked.in_marks;
      kept_in_bounds = marked.few;
      output_in_bounds = subst (λ (lines : List ℕ). length lines ≤ length c.args.output.now) marked.lines c.requires;
    }

pub returns-in-Err : goal.returns-in-Err
unfolding printed
returns-in-Err c =
    let refused : let t = c.args.network.table in
    cut_stage c.args.k (network_of t.n t.lows.now t.highs.now t.states.now) ≡ refusal_of c.in-Err.refusal =
    let t = c.args.network.table in
    cut-refused t.n t.lows.now t.highs.now t.states.now c.args.k c.in-Err.refusal
    (cut-rooms t.n t.lows.now t.highs.now t.states.now c.args.k _ (zeros-room 3000) _
    (sym c.cut.ensures.answer ∙ ap cut_outcome c.in-Err.is)) in
    put_as _ _ _ _ _ _ refused c.put_refusal.ensures

pub returns-in-Ok : goal.returns-in-Ok
returns-in-Ok c =
    let marked : let t = c.args.network.table in
    Marked t.n t.lows.now t.highs.now t.states.now c.args.k c.in-Ok.kept c.cut.new.marks =
    let t = c.args.network.table in
    cut-marked t.n t.lows.now t.highs.now t.states.now c.args.k _ _ _ c.args.network.accepted (zeros-room 3000)
    (sym c.cut.ensures.answer ∙ ap cut_outcome c.in-Ok.is) c.cut.ensures.marks in
    rw marked.lines c.put_list.ensures
