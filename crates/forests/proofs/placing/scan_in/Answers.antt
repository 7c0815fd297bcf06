-- Places and numbers are cleared, and all relays in service are placed.
use Rattle.std.proofs.Common.{arith, length}
use Rattle.forests.proofs.ClearLaws.{cleared, scan-cleared}
use Rattle.forests.proofs.placing.scan_in.Goals as goal

pub place_all-requires : goal.place_all-requires
place_all-requires c =
    let p = c.requires.room in
    let t = c.args.network.table in
    record {
      scannable =
          record {
            accepted = c.args.network.accepted;
            relay_room = p.0;
            place_room = omega (arith, p.1, c.clear.auto.list);
            forest_room = omega (arith, p.2, c.clear-2.auto.list);
          };
      ready = c.requires.ready;
      no_places = (cleared t.n c.args.places.now (rw c.from.ensures at c.clear.ensures)).0;
      no_forests = (cleared (length t.lows.now) c.args.forests.now c.clear-2.ensures).0;
    }

pub returns : goal.returns
returns c =
    scan-cleared (rw c.from.ensures at c.clear.ensures) c.clear-2.ensures c.place_all.ensures
