-- Order: a refused table, a list too short, or the whole order.
use Rattle.std.proofs.Common.{rules, ◌≡◌, ◌||◌, true, ltb, lt-ltb, length}
use Rattle.definitions.specs.Network.{Accepted}
use Rattle.network.specs.Tables.{OfTable}
use Rattle.lists.specs.Tests.{or_left, or_right}
use Rattle.forests.proofs.AnswerLaws.{order-refused, order-short, order-done}
use Rattle.forests.proofs.order.Goals as goal
use Rattle.forests.proofs.order.Goals.{then-relays-size-via-then-relays-size, then-relays-size-via-else-relays-size+then-places-size}

pub returns-in_err-network-clause-answer : goal.returns-in_err-network-clause-answer
returns-in_err-network-clause-answer c =
    let t = c.args.table in
    let refused = order-refused t.n t.lows.now t.highs.now t.states.now c.args.relays.now c.args.places.now
    c.in_err-network.field-0.0 c.in_err-network.ensures.answer in
    let answer = refused.0 in
    search rules

pub returns-in_err-network-clause-relays : goal.returns-in_err-network-clause-relays
returns-in_err-network-clause-relays c =
    let t = c.args.table in
    let refused = order-refused t.n t.lows.now t.highs.now t.states.now c.args.relays.now c.args.places.now
    c.in_err-network.field-0.0 c.in_err-network.ensures.answer in
    refused.1.0

pub returns-in_err-network-clause-places : goal.returns-in_err-network-clause-places
returns-in_err-network-clause-places c =
    let t = c.args.table in
    let refused = order-refused t.n t.lows.now t.highs.now t.states.now c.args.relays.now c.args.places.now
    c.in_err-network.field-0.0 c.in_err-network.ensures.answer in
    refused.1.1

pub returns-then-relays-size : goal.returns-then-relays-size
returns-then-relays-size c =
    let t = c.args.table in
    let network = c.in_ok-network.network in
    let good : OfTable Accepted t = rw c.in_ok-network.ensures.same at network.accepted in
    let size = c.from-size.ensures in
    let short : (ltb (length c.args.relays.now) t.n || ltb (length c.args.places.now) t.n) ≡ true =
    elim c.then-relays-size.branch [
      | then-relays-size-via-then-relays-size w ↦ or_left _ _ (lt-ltb _ _ (rw size at w.if-relays-size.true))
      | then-relays-size-via-else-relays-size+then-places-size w ↦ or_right _ _ (lt-ltb _ _ (rw size at w.if-places-size.true))
    ] in
    let both = order-short t.n t.lows.now t.highs.now t.states.now c.args.relays.now c.args.places.now good short in
    record { answer = both.0; relays = both.1.0; places = both.1.1 }

pub returns : goal.returns
returns c =
    let t = c.args.table in
    let network = c.in_ok-network.network in
    let same : network.table ≡ t = c.in_ok-network.ensures.same in
    let good : OfTable Accepted t = rw same at network.accepted in
    let stored = c.place_relays.ensures in
    let both = order-done t.n t.lows.now t.highs.now t.states.now c.args.relays.now c.args.places.now good
    (rw c.from-size.ensures at c.if-relays-size.false) (rw c.from-size.ensures at c.if-places-size.false)
    (rw same at stored.relays_left) (rw same at stored.places_left) in
    record { answer = both.0; relays = both.1.0; places = both.1.1 }
