-- The chains are made and the links between relays in service counted; the relay with the most is the first of the order.
use Rattle.std.proofs.Common.{ℕ, List, ◌≡◌, arith, length}
use Rattle.definitions.specs.Network.{Accepted}
use Rattle.theory.specs.Accepted.{accepted, accepted-states}
use Rattle.forests.proofs.IdleLinkLaws.{counted-beyond}
use Rattle.forests.proofs.BusiestLaws.{busiest-first}
use Rattle.forests.proofs.SizeLaws.{chain-ready}
use Rattle.forests.specs.LinkCounts.{CountedFrom, Discountable}
use Rattle.forests.specs.Scan.{ChainArrays}
use Rattle.forests.proofs.placing.prepare.Goals as goal

-- All links are counted.
all-links : (n : ℕ) (lows highs states : List ℕ) {first nexts counts : List ℕ} (counts' : List ℕ) → Accepted n lows highs states
    → ChainArrays n lows first nexts counts → length counts' ≡ length counts → CountedFrom lows highs 0 counts'
    → Discountable n lows highs states counts'
all-links n lows highs states counts' ok arrays long all =
    record {
      proper = accepted n lows highs states ok;
      stated = accepted-states n lows highs states ok;
      room = omega (arith, arrays.heads, arrays.count_room);
      counted = all;
    }

pub link_up-requires : goal.link_up-requires
link_up-requires c =
    let arrays = c.requires in
    (chain-ready c.args.network.table.states.now c.args.network.accepted arrays, arrays.count_room, arrays.no_counts)

pub serving-turns-requires : goal.serving-turns-requires
serving-turns-requires c =
    let t = c.args.network.table in
    ((accepted t.n t.lows.now t.highs.now t.states.now c.args.network.accepted).few, accepted-states t.n t.lows.now t.highs.now t.states.now c.args.network.accepted)

pub count_serving-requires : goal.count_serving-requires
count_serving-requires c =
    let t = c.args.network.table in (
      c.serving-turns.ensures,
      all-links t.n t.lows.now t.highs.now t.states.now c.link_up.new.counts c.args.network.accepted c.requires
          (omega (arith, c.link_up.auto)) c.link_up.ensures.counted_from,
    )

pub busiest-relay-requires : goal.busiest-relay-requires
busiest-relay-requires c =
    let t = c.args.network.table in
    let all = all-links t.n t.lows.now t.highs.now t.states.now c.link_up.new.counts c.args.network.accepted c.requires
    (omega (arith, c.link_up.auto)) c.link_up.ensures.counted_from in
    (all.proper.few, omega (arith, all.room, c.count_serving.auto), omega (arith, all.stated.long))

pub returns : goal.returns
returns c =
    let t = c.args.network.table in
    let counts = c.count_serving.new.counts in
    let all = all-links t.n t.lows.now t.highs.now t.states.now c.link_up.new.counts c.args.network.accepted c.requires
    (omega (arith, c.link_up.auto)) c.link_up.ensures.counted_from in
    record {
      turned = c.serving-turns.ensures;
      made = record {
        chained = c.link_up.ensures.chained_from;
        counted = c.count_serving.ensures;
        none_beyond =
            counted-beyond t.lows.now t.highs.now t.states.now t.n c.link_up.new.counts counts all c.count_serving.ensures;
        starts =
            busiest-first t.n t.lows.now t.highs.now t.states.now counts c.busiest-relay.result.0
            c.count_serving.ensures c.busiest-relay.ensures;
      };
    }
