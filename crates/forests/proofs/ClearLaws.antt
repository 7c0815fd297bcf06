-- What clearing the front of a list leaves; and places and forest numbers are cleared and the first relay is stored before the
-- scan: what the scan then gives does not depend on what stood there. Assumes nothing.
use Prim.Native.Nat.{ℕ, ◌≤◌, ◌<◌}
use mathlib.Core.List.{List, ◌++◌}
use mathlib.Core.Path.{◌≡◌, ◌∙◌, ap}
use native.Mathlib.Decide.{dec_lt}
use native.Mathlib.Omega.{arith}
use borrow.Author.Tests.{lt-ltb, le-ltb}
use lib.ListN.{length, get_or, set, drop, replicate, length-replicate, get_or-replicate, get_or-append}
use lib.Seq.{get_or-set_same, drop_at, drop-set-lt}
use Rattle.definitions.specs.Lists.{overwrite}
use Rattle.definitions.specs.Order.{order_of, place_of, places_of}
use Rattle.definitions.specs.Forests.{forests_of}
use Rattle.lists.specs.Tables.{length-table}
use Rattle.theory.specs.Ordering.{order-length}
use Rattle.theory.proofs.ForestBound.{forests-length}
use Rattle.forests.specs.Counts.{turns_of}
use Rattle.forests.specs.Scan.{begun_with, Scanned}

-- The first m entries are 0, the rest is as it was.
pub cleared : (m : ℕ) (old : List ℕ) {new : List ℕ} → new ≡ replicate m 0 ++ drop m old
    → ((j : ℕ) → j < m → get_or new j 0 ≡ 0) × (drop m new ≡ drop m old)
cleared m old e =
    let long = length-replicate {A = ℕ} m 0 in (
      λ j h.
          ap (λ (l : List ℕ). get_or l j 0) e
          ∙ get_or-append (replicate m 0) (drop m old) 0 j (omega (arith, long))
          ∙ get_or-replicate m j 0 0 h,
      ap (drop m) e ∙ drop_at (replicate m 0) (drop m old) m long,
    )

-- What is written over the entries that were cleared covers them.
kept : (m : ℕ) (old : List ℕ) {mid : List ℕ} → mid ≡ replicate m 0 ++ drop m old → (new : List ℕ) → length new ≡ m
    → overwrite new mid ≡ overwrite new old
unfolding overwrite
kept m old {mid} e new long = ap (λ l. new ++ l) past
  where
    past : drop (length new) mid ≡ drop (length new) old
    past = rw long (cleared m old e).1

-- All entries that were cleared are written.
pub scan-cleared : {n : ℕ} {lows highs states relays relays' places cleared-places places' forests cleared-forests forests' : List ℕ}
    → cleared-places ≡ replicate n 0 ++ drop n places
    → cleared-forests ≡ replicate (length lows) 0 ++ drop (length lows) forests
    → Scanned n lows highs states relays relays' cleared-places places' cleared-forests forests'
    → Scanned n lows highs states relays relays' places places' forests forests'
unfolding overwrite places_of
scan-cleared {n} {lows} {highs} {states} {places = places} {forests = forests} p f s =
    record {
      the_order = s.the_order;
      the_places = s.the_places ∙ kept n places p (places_of n (order_of n lows highs states)) (length-table (place_of (order_of n lows highs states)) 0 n);
      the_forests = s.the_forests ∙ kept (length lows) forests f (forests_of n lows highs states) (forests-length n lows highs states);
    }

-- The first entry of the list of relays is stored before the scan, if a relay is placed,
module _ (turns x : ℕ) (relays : List ℕ) where
  pub begun-some : 0 < turns → set relays 0 x ≡ begun_with turns x relays
  unfolding begun_with
  begun-some some = rw (lt-ltb 0 turns some)

  pub begun-none : turns ≤ 0 → relays ≡ begun_with turns x relays
  unfolding begun_with
  begun-none none = rw (le-ltb 0 turns none)

  pub begun_first : 0 < turns → turns ≤ length relays → get_or (begun_with turns x relays) 0 0 ≡ x
  begun_first some room = rw (← begun-some some) (get_or-set_same relays 0 x 0 (omega arith))

-- and it is written.
pub scan-begun : {n : ℕ} {lows highs states relays relays' places places' forests forests' : List ℕ} (x : ℕ)
    → Scanned n lows highs states (begun_with (turns_of n states) x relays) relays' places places' forests forests'
    → Scanned n lows highs states relays relays' places places' forests forests'
unfolding overwrite
scan-begun {n} {lows} {highs} {states} {relays} x s =
    record {
      the_order = s.the_order ∙ ap (λ l. order ++ l) (past (dec_lt 0 (turns_of n states)));
      the_places = s.the_places;
      the_forests = s.the_forests;
    }
  where
    order : List ℕ
    order = order_of n lows highs states

    past : Dec (0 < turns_of n states) → drop (length order) (begun_with (turns_of n states) x relays) ≡ drop (length order) relays
    past (yes some) =
        rw (← begun-some (turns_of n states) x relays some)
        (drop-set-lt (length order) relays 0 x (omega (arith, order-length n lows highs states)))
    past (no none) = rw (← begun-none (turns_of n states) x relays (omega arith))
