-- What the second pass over a set promises: the links of relays that see each other, row by row in rising order. Assumes nothing.
use Rattle.std.specs.Prelude.{ℕ, ◌≤◌, ◌<◌, Bool, true, Result, Ok, Err, List, [], ◌∷◌, ◌≡◌, length, get_or, take}
use Rattle.definitions.specs.Lists.{has}
use Rattle.definitions.specs.Rising.{lows_from, highs_from}
use Rattle.lists.specs.Ascending.{Ascending}
use Rattle.lists.specs.Cursors.{drop_below, next_is, Cursors}
use Rattle.lists.specs.Merged.{mutual_link, Merging}
use Rattle.network.specs.declared.refusal.Refusal.{Refusal}
use Rattle.network.specs.declared.refusal.Refusal.TheVariants.{LinkCount}
use Rattle.reports.specs.Offsets.{numbers_from, above_of, seen_from, Started}
use Rattle.reports.specs.declared.places.Places.{Places}

-- The numbers below a are passed, from offset p to q; `there` tells whether the next one is a.
pub record Passed (text : List ℕ) (p a q : ℕ) (there : Bool) : Type 0 where
  pub moved : numbers_from text q ≡ drop_below a (numbers_from text p)
  pub told : there ≡ next_is a (drop_below a (numbers_from text p))

-- The same, and q is not before p.
pub record PassedOnward (text : List ℕ) (p a q : ℕ) (there : Bool) : Type 0 where
  pub passed : Passed text p a q there
  pub onward : p ≤ q

-- `Passed` at the place that is kept for b; the others stay, and so do all those above a relay.
pub record SawBack (text : List ℕ) (a b : ℕ) (places after : List Places) (r : Bool) : Type 0 where
  pub told : r ≡ next_is a (drop_below a (seen_from text places b))
  pub moved : seen_from text after b ≡ drop_below a (seen_from text places b)
  pub kept : (c : ℕ) → (c ≡ b → ⊥) → seen_from text after c ≡ seen_from text places c
  pub aboves : (c : ℕ) → above_of after c ≡ above_of places c
  pub room : length after ≡ length places

-- A list holds the front of what is found, as far as it goes.
abbrev pub Stored : (found list : List ℕ) → Type 0
Stored found list = (i : ℕ) → i < length found → i < length list → get_or list i 0 ≡ get_or found i 0

abbrev pub AllBelowIn : (n : ℕ) (list : List ℕ) → Type 0
AllBelowIn n list = (x : ℕ) → has list x ≡ true → x < n

-- So many links are found, stored as far as the two lists go.
pub record Found (count : ℕ) (lows highs found_lows found_highs : List ℕ) : Type 0 where
  pub lows_count : length found_lows ≡ count
  pub highs_count : length found_highs ≡ count
  pub lows_stored : Stored found_lows lows
  pub highs_stored : Stored found_highs highs

-- Within row a, with `left` left of its own list and `rows` rows behind it, of what the relays see in all: so many links are found.
pub record InRow (seen : ℕ → List ℕ) (n rows : ℕ) (text : List ℕ) (a : ℕ)
    (places : List Places) (lows highs : List ℕ) (count : ℕ) (left : List ℕ) : Type 0 where
  pub found_lows : List ℕ
  pub found_highs : List ℕ
  pub found : Found count lows highs found_lows found_highs
  pub cursors : Cursors seen a (seen_from text places)
  pub merging : Merging seen n a rows found_lows found_highs left

-- Work within row a, from where `before` is left of its list to where `left` is, whatever the relays see in all.
abbrev pub RowMoves : (text : List ℕ) (a : ℕ) (places : List Places) (lows highs : List ℕ) (count : ℕ) (before : List ℕ)
    (places_then : List Places) (lows_then highs_then : List ℕ) (r : ℕ) (left : List ℕ) → Type 0
RowMoves text a places lows highs count before places_then lows_then highs_then r left =
    (seen : ℕ → List ℕ) (n rows : ℕ) → InRow seen n rows text a places lows highs count before
    → InRow seen n rows text a places_then lows_then highs_then r left

-- The lists keep their lengths, and where those above each relay begin is kept.
pub record SameRoom
    (places : List Places) (lows highs : List ℕ) (places_then : List Places) (lows_then highs_then : List ℕ) : Type 0 where
  pub places_room : length places_then ≡ length places
  pub aboves : (c : ℕ) → above_of places_then c ≡ above_of places c
  pub lows_room : length lows_then ≡ length lows
  pub highs_room : length highs_then ≡ length highs

-- The next number of row a is b, and is passed.
pub record LinkTried (text : List ℕ) (a b found : ℕ)
    (places : List Places) (lows highs : List ℕ) (places_then : List Places) (lows_then highs_then : List ℕ) (r : ℕ) : Type 0 where
  pub row : (left : List ℕ) → RowMoves text a places lows highs found (b ∷ left) places_then lows_then highs_then r left
  pub room : SameRoom places lows highs places_then lows_then highs_then

-- Row a, from its own list up to where `left` is left of it.
pub record RowRead (text : List ℕ) (a : ℕ) (own : List ℕ) (found : ℕ)
    (places : List Places) (lows highs : List ℕ) (places_then : List Places) (lows_then highs_then : List ℕ) (r : ℕ) (left : List ℕ) : Type 0 where
  pub row : RowMoves text a places lows highs found own places_then lows_then highs_then r left
  pub room : SameRoom places lows highs places_then lows_then highs_then

-- Within row a are more links than a network may have.
pub record RowFull (text : List ℕ) (a : ℕ) (own : List ℕ) (found : ℕ)
    (places : List Places) (lows highs : List ℕ) (places_then : List Places) (lows_then highs_then : List ℕ) : Type 0 where
  pub count : ℕ
  pub left : List ℕ
  pub many : 3000 < count
  pub read : RowRead text a own found places lows highs places_then lows_then highs_then count left

-- Row a is merged to its end, or refused.
abbrev pub RowMerged : (text : List ℕ) (a : ℕ) (own : List ℕ) (found : ℕ)
    (places : List Places) (lows highs : List ℕ) (places_then : List Places) (lows_then highs_then : List ℕ) → Result ℕ Refusal → Type 0
RowMerged text a own found places lows highs places_then lows_then highs_then (Ok r) = (r ≤ 3000) × RowRead text a own found places lows highs places_then lows_then highs_then r []
RowMerged text a own found places lows highs places_then lows_then highs_then (Err refusal) = (refusal ≡ LinkCount) × RowFull text a own found places lows highs places_then lows_then highs_then

-- The merge can begin: those that each relay sees rise and are below n.
pub record Mergeable (text : List ℕ) (n : ℕ) (places : List Places) : Type 0 where
  pub few : n ≤ 1000
  pub room : length places ≡ 1000
  pub started : Started text places
  pub ascends : (b : ℕ) → Ascending (seen_from text places b)
  pub below : (b : ℕ) → AllBelowIn n (seen_from text places b)

-- All links of relays that see each other, into lists with room for them.
pub record AllLinks (seen : ℕ → List ℕ) (n : ℕ) (lows highs lows_then highs_then : List ℕ) (r : ℕ) : Type 0 where
  pub counted : length (lows_from n (mutual_link seen) 0 n) ≡ r
  pub lows_are : r ≤ length lows → take r lows_then ≡ lows_from n (mutual_link seen) 0 n
  pub highs_are : r ≤ length highs → take r highs_then ≡ highs_from n (mutual_link seen) 0 n

-- Or more of them than a network may have.
abbrev pub LinksTold : (seen : ℕ → List ℕ) (n : ℕ) (lows highs lows_then highs_then : List ℕ) → Result ℕ Refusal → Type 0
LinksTold seen n lows highs lows_then highs_then (Ok r) = AllLinks seen n lows highs lows_then highs_then r
LinksTold seen n lows highs lows_then highs_then (Err refusal) =
    (refusal ≡ LinkCount) × (3000 < length (lows_from n (mutual_link seen) 0 n))

pub record LinksMerged (seen : ℕ → List ℕ) (n : ℕ) (lows highs lows_then highs_then : List ℕ) (r : Result ℕ Refusal) : Type 0 where
  pub told : LinksTold seen n lows highs lows_then highs_then r
  pub same_lows : length lows_then ≡ length lows
  pub same_highs : length highs_then ≡ length highs
