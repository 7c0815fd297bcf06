-- The links of a set merged row by row, up to all of them, in the terms of the code. Assumes nothing.
use Rattle.std.specs.Prelude.{Ok, Err}
use Prim.Native.Nat.{ℕ, suc, ◌+◌, ◌-◌, ◌≤◌, ◌<◌}
use mathlib.Core.List.{List, []}
use mathlib.Core.Path.{◌≡◌, refl, sym, ◌∙◌, ap, subst}
use native.Mathlib.Decide.{dec_le}
use native.Mathlib.Omega.{arith}
use lib.ListN.{length, take, length-append}
use lib.Seq.{get_or-take, length-take-le, ext_get_or}
use Rattle.definitions.specs.Lists.{has}
use Rattle.lists.specs.Ascending.{Ascending}
use Rattle.lists.specs.Cursors.{drop_below, dropped-has, dropped-ascends, Cursors, cursors-start, cursors-later}
use Rattle.lists.specs.Merged.{Merged, merged-start, merged-end, row-begins, row_ends}
use Rattle.network.specs.declared.refusal.Refusal.{Refusal}
use Rattle.reports.specs.Offsets.{marked, above_of, seen_from}
use Rattle.reports.specs.declared.places.Places.{Places}
use Rattle.reports.specs.Merges.{Stored, AllBelowIn, Found, InRow, SameRoom, RowMerged, Mergeable, LinksMerged}
use Rattle.reports.proofs.MergeLaws.{same-room, room-then}

-- What is stored of a list that fits is the list.
stored-front : (found list : List ℕ) (count : ℕ) → length found ≡ count → Stored found list → count ≤ length list → take count list ≡ found
stored-front found list count e inv fits =
    let size : length (take count list) ≡ length found = length-take-le count list fits ∙ sym e in
    ext_get_or 0 (take count list) found size (λ i less. get_or-take count list i 0 (omega arith) ∙ inv i (omega arith) (omega arith))

-- The links so far: row a comes next.
pub record LinksSoFar (text : List ℕ) (n : ℕ)
    (places : List Places) (lows highs : List ℕ) (places_then : List Places) (lows_then highs_then : List ℕ) (count a : ℕ) : Type 0 where
  pub found_lows : List ℕ
  pub found_highs : List ℕ
  pub found : Found count lows_then highs_then found_lows found_highs
  pub cursors : Cursors (seen_from text places) a (seen_from text places_then)
  pub merged : Merged (seen_from text places) n a (n - a) found_lows found_highs
  pub within : a ≤ n
  pub few : count ≤ 3000
  pub room : SameRoom places lows highs places_then lows_then highs_then

module _ {text : List ℕ} {n : ℕ} {places : List Places} (able : Mergeable text n places) where
  abbrev seen : ℕ → List ℕ
  seen = seen_from text places

  pub links-start : {lows highs : List ℕ} → LinksSoFar text n places lows highs places lows highs 0 0
  links-start {lows} {highs} =
      let whole : n ≡ n - 0 = omega arith in
      record {
        found_lows = [];
        found_highs = [];
        found =
            record {
              lows_count = refl;
              highs_count = refl;
              lows_stored = λ i less. absurd (omega arith);
              highs_stored = λ i less. absurd (omega arith);
            };
        cursors = cursors-start seen seen able.ascends (λ b. refl);
        merged = subst (λ (k : ℕ). Merged seen n 0 k [] []) whole (merged-start seen n);
        within = omega arith;
        few = omega arith;
        room = same-room places lows highs;
      }

  module _ {lows highs : List ℕ} {places_then : List Places} {lows_then highs_then : List ℕ} {count a : ℕ}
      (inv : LinksSoFar text n places lows highs places_then lows_then highs_then count a) where
    -- With no row left all links are found.
    pub links-all : n ≤ a → LinksMerged seen n lows highs lows_then highs_then (Ok count)
    links-all past =
        let none : n - a ≡ 0 = omega arith in
        let all = merged-end seen n a inv.found_lows inv.found_highs
        (subst (λ (k : ℕ). Merged seen n a k inv.found_lows inv.found_highs) none inv.merged) in
        record {
          told =
              record {
                counted = ap length all.0 ∙ inv.found.lows_count;
                lows_are = λ fits.
                    stored-front inv.found_lows lows_then count inv.found.lows_count inv.found.lows_stored (omega (arith, inv.room.lows_room))
                    ∙ sym all.0;
                highs_are = λ fits.
                    stored-front inv.found_highs highs_then count inv.found.highs_count inv.found.highs_stored (omega (arith, inv.room.highs_room))
                    ∙ sym all.1;
              };
          same_lows = inv.room.lows_room;
          same_highs = inv.room.highs_room;
        }

    -- Row a, of what stands from the place kept for a on.
    module _ (less : a < n) {own : List ℕ} (is : marked text (above_of places_then a) ≡ own) where
      above : own ≡ drop_below a (seen a)
      above = sym is ∙ ap (marked text) (inv.room.aboves a) ∙ able.started a

      -- It rises, is what a sees above itself, and is below n.
      own-has : (x : ℕ) → a ≤ x → has own x ≡ has (seen a) x
      own-has x more = ap (λ (l : List ℕ). has l x) above ∙ dropped-has a (seen a) x more

      pub row_below : AllBelowIn n own
      row_below x there = go (dec_le a x)
        where
          go : Dec (a ≤ x) → x < n
          go (yes more) = able.below a x (sym (own-has x more) ∙ there)
          go (no earlier) = omega arith

      begun : InRow seen n (n - (a + 1)) text a places_then lows_then highs_then count own
      begun =
          let next : n - a ≡ suc (n - (a + 1)) = omega arith in
          record {
            found_lows = inv.found_lows;
            found_highs = inv.found_highs;
            found = inv.found;
            cursors = inv.cursors;
            merging =
                row-begins seen n a (n - (a + 1)) inv.found_lows inv.found_highs own
                (subst Ascending (sym above) (dropped-ascends a (seen a) (able.ascends a))) (λ x more. own-has x (omega arith))
                (able.below a) (subst (λ (k : ℕ). Merged seen n a k inv.found_lows inv.found_highs) next inv.merged);
          }

      module _ {o : List Places} {l h : List ℕ} where
        -- Row a ends, and the next one comes.
        pub links-on : {r : ℕ} → RowMerged text a own count places_then lows_then highs_then o l h (Ok r)
            → LinksSoFar text n places lows highs o l h r (a + 1)
        links-on row =
            let done = row.1.row seen n (n - (a + 1)) begun in
            record {
              found_lows = done.found_lows;
              found_highs = done.found_highs;
              found = done.found;
              cursors = cursors-later seen (seen_from text o) a done.cursors (a + 1) (omega arith);
              merged = row_ends seen n a (n - (a + 1)) done.found_lows done.found_highs done.merging;
              within = omega arith;
              few = row.0;
              room = room-then inv.room row.1.room;
            }

        -- There are more than a network may have.
        pub links-many : {refusal : Refusal} → RowMerged text a own count places_then lows_then highs_then o l h (Err refusal)
            → LinksMerged seen n lows highs l h (Err refusal)
        links-many row =
            let read = row.1.read in
            let done = read.row seen n (n - (a + 1)) begun in
            let room = room-then inv.room read.room in
            record {
              told = (row.0, omega (arith, row.1.many, done.found.lows_count, simp length-append at (ap length done.merging.lows_whole)));
              same_lows = room.lows_room;
              same_highs = room.highs_room;
            }
