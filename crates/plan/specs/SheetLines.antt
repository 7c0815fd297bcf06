-- The lines of a sheet by their parts, and how the routes and their links are printed route by route and number by number.
-- Assumes nothing.
use Prim.Native.Nat.{ℕ, suc, ◌+◌, ◌-◌, ◌≤◌, ◌<◌, pred}
use mathlib.Core.List.{List, [], ◌∷◌, ◌++◌, map, append_assoc, append-nil}
use Rattle.std.specs.Prelude.{◌≡◌, length, take, drop}
use Rattle.std.proofs.Common.{◌∙◌, arith, length-append, length-take, drop_of_length-le}
use Rattle.std.proofs.Math.Path.{ap}
use Rattle.std.proofs.Math.Numerals.{add-one}
use Rattle.std.proofs.Math.ListN.{get_or}
use Rattle.std.proofs.Math.Seq.{slice, slice-cons, drop-drop}
use Rattle.definitions.specs.Demand.{cut_up}
use Rattle.definitions.specs.Form.{bytes, word, numeral, decimal, write_form, spaced}
use Rattle.definitions.specs.Lists.{total}
use Rattle.definitions.specs.Text.{end_form}
use Rattle.definitions.specs.Plan.{sheet_form, kept_form, numbers_line, route_lines}
use Rattle.lists.specs.Front.{drop-take}

-- The wish, the routes with their links, the count of kept links, and the end.
unfoldable pub sheet_lines : (from to k : ℕ) (routes overs : List (List ℕ)) (kept : ℕ) → List ℕ
sheet_lines from to k routes overs kept =
    write_form sheet_form (from ∷ to ∷ k ∷ []) ++
    (route_lines routes overs ++ (write_form kept_form (kept ∷ []) ++ write_form end_form []))

-- A line by its parts.
pub route-written : (route over : List ℕ)
    → route_lines (route ∷ []) (over ∷ []) ≡ numbers_line (bytes "(route") route ++ numbers_line (bytes "(over") over
unfolding route_lines
route-written route over = simp append-nil

-- Their lengths.
pub line-length : (name numbers : List ℕ) → length (numbers_line name numbers) ≡ length name + (length (spaced numbers) + 2)
unfolding numbers_line
line-length name numbers = simp length-append

pub route-length : (route over : List ℕ)
    → length (route_lines (route ∷ []) (over ∷ []))
    ≡ length (numbers_line (bytes "(route") route) + length (numbers_line (bytes "(over") over)
route-length route over = ap length (route-written route over) ∙ simp length-append

pub sheet-lengths : (from to k : ℕ) (routes overs : List (List ℕ)) (kept : ℕ)
    → length (sheet_lines from to k routes overs kept)
    ≡ length (write_form sheet_form (from ∷ to ∷ k ∷ []))
    + (length (route_lines routes overs) + (length (write_form kept_form (kept ∷ [])) + length (write_form end_form [])))
unfolding sheet_lines
sheet-lengths from to k routes overs kept = simp length-append

-- The first of the numbers that are left.
spaced-first : (x : ℕ) (numbers : List ℕ)
    → spaced (x ∷ numbers) ≡ write_form (word (bytes " ") ∷ numeral ∷ []) (x ∷ []) ++ spaced numbers
unfolding spaced write_form
spaced-first x numbers = rw (append-nil (decimal x))

pub numbers-step : (list : List ℕ) (i last : ℕ) → i < last → last ≤ length list
    → spaced (slice i last list)
    ≡ write_form (word (bytes " ") ∷ numeral ∷ []) (get_or list i 0 ∷ []) ++ spaced (slice (i + 1) last list)
numbers-step list i last h within =
    rw (slice-cons i last list 0 h within, add-one i) (spaced-first (get_or list i 0) (slice (suc i) last list))

pub numbers-length : (list : List ℕ) (i last : ℕ) → i < last → last ≤ length list
    → length (spaced (slice i last list))
    ≡ length (write_form (word (bytes " ") ∷ numeral ∷ []) (get_or list i 0 ∷ [])) + length (spaced (slice (i + 1) last list))
numbers-length list i last h within = ap length (numbers-step list i last h within) ∙ simp length-append

slice-past : (list : List ℕ) (i last : ℕ) → last ≤ i → slice i last list ≡ []
slice-past list i last h = drop_of_length-le (take last list) {i = i} (omega (arith, length-take last list))

pub numbers-end : (list : List ℕ) (i last : ℕ) → last ≤ i → spaced (slice i last list) ≡ []
unfolding spaced
numbers-end list i last h = ap spaced (slice-past list i last h)

-- Of the routes that are left, from the i-th of k on: the relays, which begin at `first`, and the links, which begin at `start`.
unfoldable pub routes_left : (i k first : ℕ) (counts relays : List ℕ) → List (List ℕ)
routes_left i k first counts relays = cut_up (slice i k counts) (drop first relays)

unfoldable pub overs_left : (i k start : ℕ) (counts links : List ℕ) → List (List ℕ)
overs_left i k start counts links = cut_up (map pred (slice i k counts)) (drop start links)

lines-first : (route over : List ℕ) (routes overs : List (List ℕ))
    → route_lines (route ∷ routes) (over ∷ overs) ≡ route_lines (route ∷ []) (over ∷ []) ++ route_lines routes overs
unfolding route_lines
lines-first route over routes overs = simp (append-nil, append_assoc)

part-is : (first size : ℕ) (list : List ℕ) → slice first (first + size) list ≡ take size (drop first list)
part-is first size list =
    let same : first + size - first ≡ size = omega arith in
    drop-take first (first + size) list ∙ ap (λ (n : ℕ). take n (drop first list)) same

module _ (i k first start : ℕ) (counts relays links : List ℕ) where
  -- The first of them, with so many links.
  module _ (steps : ℕ) (few : steps ≡ pred (get_or counts i 0)) (h : i < k) (within : k ≤ length counts) where
    pub routes-step : route_lines (routes_left i k first counts relays) (overs_left i k start counts links)
        ≡ route_lines (slice first (first + get_or counts i 0) relays ∷ []) (slice start (start + steps) links ∷ [])
        ++ route_lines (routes_left (i + 1) k (first + get_or counts i 0) counts relays) (overs_left (i + 1) k (start + steps) counts links)
    unfolding routes_left overs_left cut_up
    routes-step =
        let size = get_or counts i 0 in
        rw (
          few,
          slice-cons i k counts 0 h within,
          part-is first size relays,
          part-is start (pred size) links,
          add-one i,
          ← drop-drop size first relays,
          ← drop-drop (pred size) start links,
        )
        (lines-first (take size (drop first relays)) (take (pred size) (drop start links))
        (cut_up (slice (suc i) k counts) (drop size (drop first relays)))
        (cut_up (map pred (slice (suc i) k counts)) (drop (pred size) (drop start links))))

    pub routes-length : length (route_lines (routes_left i k first counts relays) (overs_left i k start counts links))
        ≡ length (route_lines (slice first (first + get_or counts i 0) relays ∷ []) (slice start (start + steps) links ∷ []))
        + length
        (route_lines (routes_left (i + 1) k (first + get_or counts i 0) counts relays) (overs_left (i + 1) k (start + steps) counts links))
    routes-length = ap length routes-step ∙ simp length-append

  pub routes-end : k ≤ i → route_lines (routes_left i k first counts relays) (overs_left i k start counts links) ≡ []
  unfolding routes_left overs_left cut_up route_lines
  routes-end h =
      ap (λ (sizes : List ℕ). route_lines (cut_up sizes (drop first relays)) (cut_up (map pred sizes) (drop start links)))
      (slice-past counts i k h)

-- How many relays they have, and how many links.
module _ (i k : ℕ) (counts : List ℕ) (h : i < k) (within : k ≤ length counts) where
  pub sizes_step : total (slice i k counts) ≡ get_or counts i 0 + total (slice (i + 1) k counts)
  unfolding total
  sizes_step = rw (add-one i) (ap total (slice-cons i k counts 0 h within))

  pub steps-step : total (map pred (slice i k counts)) ≡ pred (get_or counts i 0) + total (map pred (slice (i + 1) k counts))
  unfolding total
  steps-step = rw (add-one i) (ap (λ (sizes : List ℕ). total (map pred sizes)) (slice-cons i k counts 0 h within))
