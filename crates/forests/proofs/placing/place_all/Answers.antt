-- After each turn one relay more has its place: the first, then the one that leads, which is the next one.
use Prim.Native.Nat.{ℕ, ◌+◌, ◌<◌}
use mathlib.Core.List.{List}
use mathlib.Core.Path.{◌≡◌, refl, sym, ◌∙◌, ap}
use native.Mathlib.Omega.{arith}
use lib.ListN.{get_or, length-set}
use Rattle.definitions.specs.Order.{first_relay}
use Rattle.theory.specs.Accepted.{accepted-states}
use Rattle.theory.specs.ServingRelays.{serving-few}
use Rattle.forests.specs.Counts.{turns_of}
use Rattle.forests.specs.Scan.{Placeable, begun_with}
use Rattle.forests.proofs.ClearLaws.{begun_first, scan-begun}
use Rattle.forests.proofs.ScanLaws.{columns-room, next-is, next-most, next-below, placed_one, all-started, first-stays, first-most, scan-starts, scan-places, scan-moves, scan-ends}
use Rattle.forests.proofs.placing.place_all.Goals.{In-loop-placed}
use Rattle.forests.proofs.placing.place_all.Goals as goal

-- Where a turn begins, a relay is left,
within : (c : In-loop-placed) → c.loop-placed.placed < turns_of c.args.network.table.n c.args.network.table.states.now
within c = omega (arith, c.loop-placed-test.true, c.requires.ready.turned)

-- and the next one can be placed.
ready : (c : In-loop-placed)
    → let a = c.args in
    let at = c.loop-placed in
    Placeable c.args.network.table.n (at.placed + 1) at.most c.args.network.table.lows.now c.args.network.table.highs.now c.args.network.table.states.now a.chains.first.now a.chains.nexts.now
    at.counts at.bits at.relays at.places at.forests
ready c =
    let at = c.loop-placed in
    let can =
    all-started {counts' = c.start_counts.new.counts} {relays' = c.begin.new.relays} c.requires (omega (arith, c.start_counts.auto))
    c.start_counts.ensures.0 c.start_counts.ensures.1 (omega (arith, c.begin.auto)) in
    let inv = at.invariant in
    scan-places can at.placed (within c) inv.0 at.most inv.1 inv.2 inv.3 (omega (arith, can.count_room, inv.4))

-- At place 1 the list of relays begins with the first relay of the order.
begins : (c : In-loop-placed)
    → let a = c.args in
    c.loop-placed.placed + 1 ≡ 1 → get_or c.loop-placed.relays 0 0 ≡ first_relay c.args.network.table.n c.args.network.table.lows.now c.args.network.table.highs.now c.args.network.table.states.now
begins c e =
    let at = c.loop-placed in
    let a = c.args in
    let room = c.requires.scannable.relay_room in
    let can =
    all-started {counts' = c.start_counts.new.counts} {relays' = c.begin.new.relays} c.requires (omega (arith, c.start_counts.auto))
    c.start_counts.ensures.0 c.start_counts.ensures.1 (omega (arith, c.begin.auto)) in
    first-stays can at.placed (omega arith) at.invariant.0
    ∙ ap (λ (l : List ℕ). get_or l 0 0) c.begin.ensures
    ∙ begun_first a.start.turns a.start.relay.0 a.relays.now (omega (arith, c.loop-placed-test.true))
    (omega (arith, c.requires.ready.turned, serving-few c.args.network.table.n c.args.network.table.states.now, room))
    ∙ c.requires.ready.prepared.starts (omega (arith, within c))

pub start_counts-requires : goal.start_counts-requires
start_counts-requires c =
    let a = c.args in
    let p = c.requires in
    let ok = p.scannable.accepted in (
      omega (arith, p.ready.heads, p.ready.count_room),
      p.ready.turned,
      accepted-states c.args.network.table.n c.args.network.table.lows.now c.args.network.table.highs.now c.args.network.table.states.now ok,
      p.ready.prepared.none_beyond,
      p.ready.no_bits,
    )

pub begin-requires : goal.begin-requires
begin-requires c =
    let a = c.args in
    omega (arith, c.requires.ready.turned, serving-few c.args.network.table.n c.args.network.table.states.now, c.requires.scannable.relay_room)

pub loop-placed-init : goal.loop-placed-init
loop-placed-init c =
    let can =
    all-started {counts' = c.start_counts.new.counts} {relays' = c.begin.new.relays} c.requires (omega (arith, c.start_counts.auto))
    c.start_counts.ensures.0 c.start_counts.ensures.1 (omega (arith, c.begin.auto)) in
    (scan-starts can, can.sorted, first-most can, omega arith, refl, refl)

pub bounds-relays-0 : goal.bounds-relays-0
bounds-relays-0 c =
    let p = ready (goal.at.bounds-relays-0 c).In-loop-placed in
    omega (arith, p.some, p.within, serving-few c.args.network.table.n c.args.network.table.states.now, p.relay_room)

pub next_relay-x-requires : goal.next_relay-x-requires
next_relay-x-requires c =
    let columns = c.columns_of-columns in
    let room = columns-room (ready (goal.at.next_relay-x-requires c).In-loop-placed) columns.result columns.ensures in
    (c.loop-placed.invariant.3, room.0, room.1)

-- The relay that gets the place is the next one.
pub put-requires : goal.put-requires
put-requires c =
    let turn = (goal.at.put-requires c).In-loop-placed in
    let p = ready turn in
    let columns = c.columns_of-columns in
    let next = next-is p columns.result columns.ensures (begins turn) c.next_relay-x.ensures in
    let new = next-below p columns.result columns.ensures in (
      p.some,
      omega (arith, p.within, serving-few c.args.network.table.n c.args.network.table.states.now, p.relay_room),
      omega (arith, next, new, p.place_room),
    )

pub walk-most-requires : goal.walk-most-requires
walk-most-requires c =
    let turn = (goal.at.walk-most-requires c).In-loop-placed in
    let p = ready turn in
    let columns = c.columns_of-columns in
    let next = next-is p columns.result columns.ensures (begins turn) c.next_relay-x.ensures in
    rw (sym next) p.walkable

pub overflow_add-most : goal.overflow_add-most
overflow_add-most c =
    omega (arith, c.walk-most.ensures.value, c.loop-placed.invariant.1.few c.next_relay-x.result.0)

pub loop-placed-preserved : goal.loop-placed-preserved
loop-placed-preserved c =
    let turn = (goal.at.loop-placed-preserved c).In-loop-placed in
    let p = ready turn in
    let at = c.loop-placed in
    let a = c.args in
    let can =
    all-started {counts' = c.start_counts.new.counts} {relays' = c.begin.new.relays} c.requires (omega (arith, c.start_counts.auto))
    c.start_counts.ensures.0 c.start_counts.ensures.1 (omega (arith, c.begin.auto)) in
    let columns = c.columns_of-columns in
    let w = c.walk-most.ensures in
    let next = next-is p columns.result columns.ensures (begins turn) c.next_relay-x.ensures in
    let most = next-most p columns.result columns.ensures (begins turn) c.next_relay-x.ensures in
    let one = placed_one {n = c.args.network.table.n} {v = at.placed + 1} {lows = c.args.network.table.lows.now} {highs = c.args.network.table.highs.now} {states = c.args.network.table.states.now}
    c.next_relay-x.result.0 next most (at.invariant.1.few c.next_relay-x.result.0)
    c.put.ensures.relays_left c.put.ensures.places_left (w.value, w.walked, w.buckets) in (
      scan-moves can at.placed (within turn) at.invariant.0 one,
      one.sorted,
      one.bounded,
      one.most_few,
      one.walked.count_room ∙ simp length-set at.invariant.4,
      omega (arith, c.walk-most.auto, at.invariant.5),
    )

pub returns : goal.returns
returns c =
    let at = c.loop-placed in
    let a = c.args in
    let all : at.placed ≡ turns_of c.args.network.table.n c.args.network.table.states.now = omega (arith, c.loop-placed.auto.placed-end, c.loop-placed-test.false, c.requires.ready.turned) in
    let first = c.begin.ensures ∙ ap (λ (turns : ℕ). begun_with turns a.start.relay.0 a.relays.now) c.requires.ready.turned in
    let can =
    all-started {counts' = c.start_counts.new.counts} {relays' = c.begin.new.relays} c.requires (omega (arith, c.start_counts.auto))
    c.start_counts.ensures.0 c.start_counts.ensures.1 (omega (arith, c.begin.auto)) in
    scan-begun a.start.relay.0 (rw first at (scan-ends can (rw all at at.invariant.0)))
