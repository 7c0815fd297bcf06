-- The marks of what is kept of a relay: 0 where it has not reported, and one more than an offset where it has. Assumes nothing.
use Prim.Native.Nat.{ℕ, suc, ◌<◌}
use mathlib.Core.Bool.{Bool, true, false}
use mathlib.Core.List.{List, []}
use mathlib.Core.Path.{◌≡◌, refl, sym, ap}
use native.Mathlib.Omega.{arith}
use borrow.Author.Tests.{lt-ltb}
use lib.Dec.{ltb}
use Rattle.definitions.specs.Outcome.{pick}
use Rattle.reports.specs.Offsets.{numbers_from, marked, is_kept, seen_mark, above_mark}
use Rattle.reports.specs.declared.places.Places.{Places}

pub no-mark : (kept : Places) (p : ℕ) → kept.seen ≡ 0 → pick (is_kept kept) (suc p) 0 ≡ 0
no-mark kept p none = rw none refl

pub mark-kept : (kept : Places) (p : ℕ) → 0 < kept.seen → pick (is_kept kept) (suc p) 0 ≡ suc p
mark-kept kept p some = rw (lt-ltb 0 kept.seen some) refl

-- A relay has reported exactly where its mark is not 0.
pub some-marks : (kept : Places) → is_kept kept ≡ ltb 0 (seen_mark kept)
some-marks kept = go (is_kept kept)
  where
    go : (t : Bool) → t ≡ ltb 0 (pick t (suc kept.seen) 0)
    go true = sym (lt-ltb 0 (suc kept.seen) (omega arith))
    go false = refl

-- What stands from the place that is kept for the numbers above a relay on.
pub row-missing : (text : List ℕ) (kept : Places) → kept.seen ≡ 0 → marked text (above_mark kept) ≡ []
row-missing text kept none = ap (marked text) (no-mark kept kept.above none)

pub row-kept : (text : List ℕ) (kept : Places) → (kept.seen ≡ 0 → ⊥) → marked text (above_mark kept) ≡ numbers_from text kept.above
row-kept text kept some = ap (marked text) (mark-kept kept kept.above (omega (arith, some)))
