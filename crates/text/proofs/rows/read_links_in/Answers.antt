-- `read_links_in` meets its contract: the row starts lent are those of n relays, and none is marked before the first line.
use Rattle.std.proofs.Common.{refl, arith}
use Rattle.network.specs.RowStarts.{rows-fewer}
use Rattle.network.specs.Seen.{seen_none}
use Rattle.text.proofs.rows.read_links_in.Goals as goal

pub invariant_of-marks : goal.invariant_of-marks
invariant_of-marks g c =
    record {
      few = omega arith;
      rows_for = rows-fewer c.args.n g.row.RELAYS c.front-rows.result (omega arith) c.front-rows.ensures;
    }

pub read_links-requires : goal.read_links-requires
read_links-requires g c =
    record {
      room = c.requires.room;
      before = seen_none c.args.n _ _ _ g.row.WORDS c.requires.sizes.2 refl;
    }
