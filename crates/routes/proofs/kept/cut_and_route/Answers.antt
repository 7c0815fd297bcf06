-- `cut_and_route` meets its contract: the wish or the room is refused, or the routes are counted with one scan.
use Rattle.std.specs.Prelude.{Some}
use Rattle.std.proofs.Common.{rules, length, sym}
use Rattle.network.specs.Answers.{refusal_of}
use Rattle.network.specs.Refusals.{refusal-then}
use Rattle.forests.specs.Answers.{cut_outcome}
use Rattle.routes.proofs.Answers.Refusals.{wish-refused, wish-passed, route-answered}
use Rattle.routes.proofs.Answers.Lent.{counted-links}
use Rattle.routes.proofs.kept.cut_and_route.Goals as goal

pub returns-in_err-wish_check : goal.returns-in_err-wish_check
returns-in_err-wish_check c =
    let a = c.args in
    let t = a.network.table in
    let w = a.wish in
    let good = a.network.accepted in
    let refusal = c.in_err-wish_check.field-0.0 in
    let both = counted-links t.n t.lows.now t.highs.now t.states.now w.k w.from.0 w.to.0 a.counts.now a.relays.now a.scratch.now a.links.now (refusal_of refusal) (refusal_of refusal) _ _ _ _
    (wish-refused (Some (length a.links.now)) t.n t.lows.now t.highs.now t.states.now w.k w.from.0 w.to.0 a.counts.now a.relays.now a.links.now a.scratch.now good refusal c.in_err-wish_check.ensures)
    (sym (refusal-then refusal _)) in
    let answer = both.0 in
    record {
      result_value = search rules;
      counts_left = both.1.0;
      relays_left = both.1.1.0;
      links_left = both.1.1.1.0;
      scratch_left = both.1.1.1.1;
    }

pub route_counted-requires : goal.route_counted-requires
route_counted-requires c =
    let a = c.args in
    let t = a.network.table in
    let w = a.wish in
    let good = a.network.accepted in
    wish-passed (Some (length a.links.now)) t.n t.lows.now t.highs.now t.states.now w.k w.from.0 w.to.0 a.counts.now a.relays.now a.links.now a.scratch.now good (sym c.in_ok-wish_check.ensures)

pub returns : goal.returns
returns c =
    let a = c.args in
    let t = a.network.table in
    let w = a.wish in
    let good = a.network.accepted in
    let called = c.route_counted in
    let made = called.ensures.counted in
    let both = counted-links t.n t.lows.now t.highs.now t.states.now w.k w.from.0 w.to.0 a.counts.now a.relays.now a.scratch.now a.links.now made.answer (cut_outcome called.result) _ _ _ _
    (route-answered (Some (length a.links.now)) t.n t.lows.now t.highs.now t.states.now w.k w.from.0 w.to.0 a.counts.now a.relays.now a.links.now a.scratch.now good (sym c.in_ok-wish_check.ensures)
    made.answer called.new.counts called.new.relays called.new.links called.new.scratch made.routed called.ensures.scratch_left) made.kept in
    record {
      result_value = both.0;
      counts_left = both.1.0;
      relays_left = both.1.1.0;
      links_left = both.1.1.1.0;
      scratch_left = both.1.1.1.1;
    }
