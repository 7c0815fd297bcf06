-- `route_links` meets its contract: the table and the wish are checked, and Route answers with one.
use Rattle.std.specs.Prelude.{Some}
use Rattle.std.proofs.Common.{rules, ◌≡◌, length, sym}
use Rattle.definitions.specs.Network.{Accepted}
use Rattle.network.specs.Tables.{OfTable}
use Rattle.routes.specs.Answers.{route_outcome}
use Rattle.routes.proofs.Answers.Refusals.{table-refused, wish-refused, wish-passed, route-answered}
use Rattle.routes.proofs.Answers.Lent.{lent}
use Rattle.routes.proofs.route_links.Goals as goal

pub returns-in_err-network : goal.returns-in_err-network
returns-in_err-network c =
    let a = c.args in
    let t = a.table in
    let w = a.wish in
    let both = lent t.n t.lows.now t.highs.now t.states.now w.k w.from.0 w.to.0 a.counts.now a.relays.now a.scratch.now a.links.now _ _ _ _ _
    (table-refused (Some (length a.links.now)) t.n t.lows.now t.highs.now t.states.now w.k w.from.0 w.to.0 a.counts.now a.relays.now a.links.now a.scratch.now c.in_err-network.field-0.0 c.in_err-network.ensures.answer) in
    let answer = both.0 in
    record {
      answer = search rules;
      counts = both.1.0;
      relays = both.1.1.0;
      links = both.1.1.1.0;
      scratch = both.1.1.1.1;
    }

pub returns-in_err-wish_check : goal.returns-in_err-wish_check
returns-in_err-wish_check c =
    let a = c.args in
    let t = a.table in
    let w = a.wish in
    let network = c.in_ok-network.network in
    let same : network.table ≡ t = c.in_ok-network.ensures.same in
    let good : OfTable Accepted t = rw same at network.accepted in
    let both = lent t.n t.lows.now t.highs.now t.states.now w.k w.from.0 w.to.0 a.counts.now a.relays.now a.scratch.now a.links.now _ _ _ _ _
    (wish-refused (Some (length a.links.now)) t.n t.lows.now t.highs.now t.states.now w.k w.from.0 w.to.0 a.counts.now a.relays.now a.links.now a.scratch.now good c.in_err-wish_check.field-0.0 (rw same at c.in_err-wish_check.ensures)) in
    let answer = both.0 in
    record {
      answer = search rules;
      counts = both.1.0;
      relays = both.1.1.0;
      links = both.1.1.1.0;
      scratch = both.1.1.1.1;
    }

pub route_accepted-requires : goal.route_accepted-requires
route_accepted-requires c =
    let a = c.args in
    let t = c.in_ok-network.network.table in
    let w = a.wish in
    wish-passed (Some (length a.links.now)) t.n t.lows.now t.highs.now t.states.now w.k w.from.0 w.to.0 a.counts.now a.relays.now a.links.now a.scratch.now c.in_ok-network.network.accepted (sym c.in_ok-wish_check.ensures)

pub returns : goal.returns
returns c =
    let a = c.args in
    let t = a.table in
    let w = a.wish in
    let network = c.in_ok-network.network in
    let same : network.table ≡ t = c.in_ok-network.ensures.same in
    let good : OfTable Accepted t = rw same at network.accepted in
    let made = c.route_accepted in
    let both = lent t.n t.lows.now t.highs.now t.states.now w.k w.from.0 w.to.0 a.counts.now a.relays.now a.scratch.now a.links.now _ _ _ _ _
    (route-answered (Some (length a.links.now)) t.n t.lows.now t.highs.now t.states.now w.k w.from.0 w.to.0 a.counts.now a.relays.now a.links.now a.scratch.now good (sym (rw same at c.in_ok-wish_check.ensures))
    (route_outcome made.result) made.new.counts made.new.relays made.new.links made.new.scratch
    (rw same at made.ensures.result_left) made.ensures.scratch_left) in
    record {
      answer = both.0;
      counts = both.1.0;
      relays = both.1.1.0;
      links = both.1.1.1.0;
      scratch = both.1.1.1.1;
    }
