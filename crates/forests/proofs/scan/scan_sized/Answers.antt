-- The scan in arrays of the sizes given.
use Rattle.std.proofs.Common.{arith, refl}
use Rattle.theory.specs.Accepted.{accepted}
use Rattle.forests.proofs.SizeLaws.{scan-arrays, made-ready}
use Rattle.forests.proofs.scan.scan_sized.Goals as goal

pub overflow_cast-none : goal.overflow_cast-none
overflow_cast-none g c = omega (arith, (accepted _ _ _ _ c.args.network.accepted).short)

pub overflow_mul-none : goal.overflow_mul-none
overflow_mul-none g c = omega (arith, (accepted _ _ _ _ c.args.network.accepted).short)

pub prepare-start-requires : goal.prepare-start-requires
prepare-start-requires g c =
    let p = c.requires in
    let arrays = scan-arrays g.row.RELAYS g.row.HALVES g.row.WORDS _ c.args.network.table.lows.now p.fits.0 p.sizes.0 p.fits.1 p.sizes.3
    refl refl refl refl in
    arrays.0

pub scan_in-requires : goal.scan_in-requires
scan_in-requires g c =
    let p = c.requires in
    let arrays = scan-arrays g.row.RELAYS g.row.HALVES g.row.WORDS _ c.args.network.table.lows.now p.fits.0 p.sizes.0 p.fits.1 p.sizes.3
    refl refl refl refl in
    record {
      room = p.room;
      ready =
          made-ready arrays c.prepare-start.ensures.turned (omega (arith, c.prepare-start.auto)) (omega (arith, c.prepare-start.auto))
          c.prepare-start.ensures.made;
    }
