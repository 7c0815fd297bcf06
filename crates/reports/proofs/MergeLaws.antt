-- A row of the merge, in the terms of the code: numbers that are passed, links stored and the row that moves on. Assumes nothing.
use Rattle.std.specs.Prelude.{Ok, Err}
use Prim.Native.Nat.{ℕ, suc, ◌+◌, ◌≤◌, ◌<◌}
use mathlib.Core.Bool.{Bool, true, false}
use mathlib.Core.List.{List, [], ◌∷◌, ◌++◌}
use mathlib.Core.Path.{◌≡◌, refl, sym, ◌∙◌, ap}
use native.Mathlib.Decide.{ℕ_discrete}
use native.Mathlib.Omega.{arith}
use lib.Dec.{eqb}
use lib.ListN.{length, get_or, set, length-set, length-append, get_or-append}
use lib.Seq.{get_or-set_same, get_or-set_other, get_or-append_seam}
use Rattle.definitions.specs.Lists.{has}
use Rattle.lists.specs.Cases.{has_here, has_there}
use Rattle.lists.specs.Cursors.{drop_below, next_is, dropped-less, dropped-stays, Cursors, cursors-step, sees_back}
use Rattle.lists.specs.Merged.{row-skips, row-misses, row-takes}
use Rattle.text_theory.specs.SpacedNumbers.{NoNumber, ANumber, none-at, number_behind, numbers-next}
use Rattle.network.specs.declared.refusal.Refusal.TheVariants.{LinkCount}
use Rattle.reports.specs.Offsets.{numbers_from, marked, no_places, seen_mark, above_mark, seen_of, above_of, seen_from}
use Rattle.reports.specs.declared.places.Places.{Places}
use Rattle.reports.specs.Merges.{Passed, PassedOnward, SawBack, Stored, AllBelowIn, Found, RowMoves, SameRoom, LinkTried, RowMerged}
use Rattle.reports.proofs.MarkLaws.{no-mark, mark-kept}

-- Passing the numbers below a: no number is left, the next is not below a, or it is passed.
module _ (text : List ℕ) (at a p : ℕ) (inv : drop_below a (numbers_from text at) ≡ drop_below a (numbers_from text p)) where
  stops : (there : Bool) (list : List ℕ) → numbers_from text p ≡ list → drop_below a list ≡ list → there ≡ next_is a list
      → Passed text at a p there
  stops there list e stays told =
      let all : drop_below a (numbers_from text at) ≡ list = inv ∙ ap (drop_below a) e ∙ stays in
      record { moved = e ∙ sym all; told = told ∙ ap (next_is a) (sym all) }

  pub none_left : NoNumber text p → Passed text at a p false
  unfolding drop_below next_is
  none_left none = stops false [] (none-at text p none (length text)) refl refl

  module _ (x q : ℕ) (one : ANumber text p x q) where
    pub next-stays : a ≤ x → Passed text at a p (eqb x a)
    unfolding next_is
    next-stays more = stops (eqb x a) (x ∷ numbers_from text q) (numbers-next text p x q one) (dropped-stays a x (numbers_from text q) more) refl

    pub next-passes : x < a → drop_below a (numbers_from text at) ≡ drop_below a (numbers_from text q)
    next-passes less = inv ∙ ap (drop_below a) (numbers-next text p x q one) ∙ dropped-less a x (numbers_from text q) less

-- From offset `at` up to p numbers below a are passed.
pub record PassedUpTo (text : List ℕ) (at a p : ℕ) : Type 0 where
  pub same : drop_below a (numbers_from text at) ≡ drop_below a (numbers_from text p)
  pub onward : at ≤ p

-- The same three, of offsets that do not fall.
module _ (text : List ℕ) (at a p : ℕ) (inv : PassedUpTo text at a p) where
  pub none-onward : NoNumber text p → PassedOnward text at a p false
  none-onward none = record { passed = none_left text at a p inv.same none; onward = inv.onward }

  module _ (x q : ℕ) (one : ANumber text p x q) where
    pub stays-onward : a ≤ x → PassedOnward text at a p (eqb x a)
    stays-onward more = record { passed = next-stays text at a p inv.same x q one more; onward = inv.onward }

    pub passes-onward : x < a → PassedUpTo text at a q
    passes-onward less =
        record {
          same = next-passes text at a p inv.same x q one less;
          onward = omega (arith, inv.onward, number_behind text p (x ∷ []) q one);
        }

-- The place kept for b is moved, and no other.
module _ {text : List ℕ} {places : List Places} {a b : ℕ} where
  pub saw-none : (get_or places b no_places).seen ≡ 0 → SawBack text a b places places false
  unfolding drop_below next_is
  saw-none none =
      let unset : seen_of places b ≡ 0 = no-mark (get_or places b no_places) _ none in
      record {
        told = ap (λ (mark : ℕ). next_is a (drop_below a (marked text mark))) (sym unset);
        moved = ap (marked text) unset ∙ ap (λ (mark : ℕ). drop_below a (marked text mark)) (sym unset);
        kept = λ c other. refl;
        aboves = λ c. refl;
        room = refl;
      }

  module _ {kept : Places} (is : get_or places b no_places ≡ kept) (some : 0 < kept.seen) where
    pub saw-back : {at : ℕ} {there : Bool} → b < length places → 0 < at → Passed text kept.seen a at there
        → SawBack text a b places (set places b (record { seen = at; above = kept.above })) there
    saw-back {at} {there} within still passed =
        record {
          told = passed.told ∙ ap (λ (mark : ℕ). next_is a (drop_below a (marked text mark))) (sym before);
          moved =
              ap (marked text) after ∙ passed.moved ∙ ap (λ (mark : ℕ). drop_below a (marked text mark)) (sym before);
          kept = λ c other. ap (λ (o : Places). marked text (seen_mark o)) (get_or-set_other places b c now no_places other);
          aboves = λ c. aboves c (ℕ_discrete c b);
          room = length-set places b now;
        }
      where
        now : Places
        now = record { seen = at; above = kept.above }

        same : get_or (set places b now) b no_places ≡ now
        same = get_or-set_same places b now no_places within

        before : seen_of places b ≡ suc kept.seen
        before = ap seen_mark is ∙ mark-kept kept kept.seen some

        after : seen_of (set places b now) b ≡ suc at
        after = ap seen_mark same ∙ mark-kept now at still

        aboves : (c : ℕ) → Dec (c ≡ b) → above_of (set places b now) c ≡ above_of places c
        aboves c (yes e) =
            rw e
            (ap above_mark same ∙ mark-kept now kept.above still ∙ sym (ap above_mark is ∙ mark-kept kept kept.above some))
        aboves c (no other) = ap above_mark (get_or-set_other places b c now no_places other)

-- A list with one more number, stored behind the others where there is room.
stored_more : (found list : List ℕ) (x : ℕ) → Stored found list → Stored (found ++ (x ∷ [])) (set list (length found) x)
stored_more found list x inv i less within = go (ℕ_discrete i (length found))
  where
    here : i < length list
    here = omega (arith, within, length-set list (length found) x)

    go : Dec (i ≡ length found) → get_or (set list (length found) x) i 0 ≡ get_or (found ++ (x ∷ [])) i 0
    go (yes e) = rw e (get_or-set_same list (length found) x 0 (omega (arith, here)) ∙ sym (get_or-append_seam found x [] 0))
    go (no other) =
        let before : i < length found = omega (arith, less, length-append found (x ∷ [])) in
        get_or-set_other list (length found) i x 0 other ∙ inv i before here ∙ sym (get_or-append found (x ∷ []) 0 i before)

pub same-room : (places : List Places) (lows highs : List ℕ) → SameRoom places lows highs places lows highs
same-room places lows highs = record { places_room = refl; aboves = λ r. refl; lows_room = refl; highs_room = refl }

pub room-then : {places places_then o : List Places} {lows highs lows_then highs_then l h : List ℕ} → SameRoom places lows highs places_then lows_then highs_then
    → SameRoom places_then lows_then highs_then o l h → SameRoom places lows highs o l h
room-then one two =
    record {
      places_room = two.places_room ∙ one.places_room;
      aboves = λ r. two.aboves r ∙ one.aboves r;
      lows_room = two.lows_room ∙ one.lows_room;
      highs_room = two.highs_room ∙ one.highs_room;
    }

-- Asking b whether it sees a leaves the cursors right, and the answer is right.
asked : {text : List ℕ} {a b : ℕ} {places after : List Places} {r : Bool} → SawBack text a b places after r → (seen : ℕ → List ℕ)
    → Cursors seen a (seen_from text places) → Cursors seen a (seen_from text after) × (has (seen b) a ≡ r)
asked {text} {a} {b} {places} {after} saw seen cursors = (
  cursors-step seen (seen_from text places) a cursors (seen_from text after) b saw.moved saw.kept,
  sym (sees_back seen (seen_from text places) a cursors b) ∙ sym saw.told,
)

-- The next number b of row a: it is not above a, does not see a, or makes a link.
module _ {text : List ℕ} {a b found : ℕ} {places : List Places} {lows highs : List ℕ} where
  pub link-skipped : b ≤ a → LinkTried text a b found places lows highs places lows highs found
  link-skipped less =
      record {
        row = λ left seen n rows s.
            record {
              found_lows = s.found_lows;
              found_highs = s.found_highs;
              found = s.found;
              cursors = s.cursors;
              merging = row-skips seen n a rows s.found_lows s.found_highs b left s.merging less;
            };
        room = same-room places lows highs;
      }

  module _ {after : List Places} {r : Bool} (more : a < b) (saw : SawBack text a b places after r) where
    pub link-missed : r ≡ false → LinkTried text a b found places lows highs after lows highs found
    link-missed missed =
        record {
          row = λ left seen n rows s.
              let both = asked saw seen s.cursors in
              record {
                found_lows = s.found_lows;
                found_highs = s.found_highs;
                found = s.found;
                cursors = both.0;
                merging = row-misses seen n a rows s.found_lows s.found_highs b left s.merging more (both.1 ∙ missed);
              };
          room = record { places_room = saw.room; aboves = saw.aboves; lows_room = refl; highs_room = refl };
        }

    pub link-taken : {l h : List ℕ} → r ≡ true → l ≡ set lows found a → h ≡ set highs found b
        → LinkTried text a b found places lows highs after l h (found + 1)
    link-taken taken low high =
        rw (low, high)
        record {
          row = λ left seen n rows s.
              let both = asked saw seen s.cursors in
              record {
                found_lows = s.found_lows ++ (a ∷ []);
                found_highs = s.found_highs ++ (b ∷ []);
                found = found-more s.found_lows s.found_highs s.found;
                cursors = both.0;
                merging = row-takes seen n a rows s.found_lows s.found_highs b left s.merging more (both.1 ∙ taken);
              };
          room = record { places_room = saw.room; aboves = saw.aboves; lows_room = length-set lows found a; highs_room = length-set highs found b };
        }
      where
        found-more : (ls hs : List ℕ) → Found found lows highs ls hs
            → Found (found + 1) (set lows found a) (set highs found b) (ls ++ (a ∷ [])) (hs ++ (b ∷ []))
        found-more ls hs inv =
            record {
              lows_count = length-append ls (a ∷ []) ∙ ap (λ (k : ℕ). k + 1) inv.lows_count;
              highs_count = length-append hs (b ∷ []) ∙ ap (λ (k : ℕ). k + 1) inv.highs_count;
              lows_stored = rw inv.lows_count at (stored_more ls lows a inv.lows_stored);
              highs_stored = rw inv.highs_count at (stored_more hs highs b inv.highs_stored);
            }

-- Row a, from offset s up to offset p.
pub record RowSoFar (text : List ℕ) (n a s found : ℕ)
    (places : List Places) (lows highs : List ℕ) (places_then : List Places) (lows_then highs_then : List ℕ) (p count : ℕ) : Type 0 where
  pub row : RowMoves text a places lows highs found (numbers_from text s) places_then lows_then highs_then count (numbers_from text p)
  pub below : AllBelowIn n (numbers_from text p)
  pub room : SameRoom places lows highs places_then lows_then highs_then

module _ {text : List ℕ} {n a s found : ℕ} {places : List Places} {lows highs : List ℕ} where
  pub row-starts : AllBelowIn n (numbers_from text s)
      → RowSoFar text n a s found places lows highs places lows highs s found
  row-starts below = record { row = λ seen n rows s. s; below = below; room = same-room places lows highs }

  module _ {places_then : List Places} {lows_then highs_then : List ℕ} {p count : ℕ}
      (inv : RowSoFar text n a s found places lows highs places_then lows_then highs_then p count) where
    pub row_done : NoNumber text p → count ≤ 3000 → RowMerged text a (numbers_from text s) found places lows highs places_then lows_then highs_then (Ok count)
    row_done none few =
        let over : numbers_from text p ≡ [] = none-at text p none (length text) in
        (few, record { row = λ seen n rows s. rw over at (inv.row seen n rows s); room = inv.room })

    pub row-full : 3000 < count → RowMerged text a (numbers_from text s) found places lows highs places_then lows_then highs_then (Err LinkCount)
    row-full many = (refl, record { count = count; left = numbers_from text p; many = many; read = record { row = inv.row; room = inv.room } })

    module _ {b q : ℕ} (one : ANumber text p b q) where
      pub next-below : b < n
      next-below = inv.below b (rw (numbers-next text p b q one) (has_here b (numbers_from text q)))

      pub row-tried : {o : List Places} {l h : List ℕ} {r : ℕ} → LinkTried text a b count places_then lows_then highs_then o l h r
          → RowSoFar text n a s found places lows highs o l h q r
      row-tried tried =
          record {
            row = λ seen n rows s. tried.row (numbers_from text q) seen n rows (rw (numbers-next text p b q one) at (inv.row seen n rows s));
            below = λ x there. inv.below x (rw (numbers-next text p b q one) (has_there b (numbers_from text q) x there));
            room = room-then inv.room tried.room;
          }

-- A row with no list of its own adds nothing.
pub row-none : {text : List ℕ} {a found : ℕ} {places : List Places} {lows highs : List ℕ} → found ≤ 3000
    → RowMerged text a [] found places lows highs places lows highs (Ok found)
row-none {text} {a} {found} {places} {lows} {highs} few = (few, record { row = λ seen n rows s. s; room = same-room places lows highs })
