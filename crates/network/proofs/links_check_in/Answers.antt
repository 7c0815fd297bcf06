-- `links_check_in` meets its contract: the row starts lent are those of n relays, and none is marked before the first link.
use Rattle.std.proofs.Common.{refl, arith}
use Rattle.network.specs.RowStarts.{rows-fewer}
use Rattle.network.specs.Seen.{seen_none}
use Rattle.network.proofs.links_check_in.Goals as goal

pub invariant_of-marks : goal.invariant_of-marks
invariant_of-marks g c =
    record {
      few = omega arith;
      rows_for = rows-fewer c.args.n g.row.RELAYS c.front-rows.result (omega arith) c.front-rows.ensures;
    }

pub links_check-requires : goal.links_check-requires
links_check-requires g c =
    let a = c.args in
    (c.requires.even, seen_none a.n _ a.lows.now a.highs.now g.row.WORDS c.requires.sizes.2 refl)
