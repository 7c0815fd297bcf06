-- Split: a refused table, a list too short, or all forest numbers.
use Rattle.std.proofs.Common.{rules, ◌≡◌}
use Rattle.definitions.specs.Network.{Accepted}
use Rattle.network.specs.Tables.{OfTable}
use Rattle.forests.proofs.AnswerLaws.{split-refused, split-short, split_done}
use Rattle.forests.proofs.split.Goals as goal

pub returns-in_err-network : goal.returns-in_err-network
returns-in_err-network c =
    let t = c.args.table in
    let refused = split-refused t.n t.lows.now t.highs.now t.states.now c.args.forests.now
    c.in_err-network.field-0.0 c.in_err-network.ensures.answer in
    let answer = refused.0 in
    record { answer = search rules; forests = refused.1 }

pub returns-then-forests-m : goal.returns-then-forests-m
returns-then-forests-m c =
    let t = c.args.table in
    let network = c.in_ok-network.network in
    let good : OfTable Accepted t = rw c.in_ok-network.ensures.same at network.accepted in
    let both = split-short t.n t.lows.now t.highs.now t.states.now c.args.forests.now good c.if-forests-m.true in
    record { answer = both.0; forests = both.1 }

pub returns : goal.returns
returns c =
    let t = c.args.table in
    let network = c.in_ok-network.network in
    let same : network.table ≡ t = c.in_ok-network.ensures.same in
    let good : OfTable Accepted t = rw same at network.accepted in
    let both = split_done t.n t.lows.now t.highs.now t.states.now c.args.forests.now c.highest.result good c.if-forests-m.false
    (rw same at c.number_links.ensures) c.highest.ensures in
    record { answer = both.0; forests = both.1 }
