-- The refusals of a reading: what holds of them step by step. With room for every network the numbers of Read's refusals are 2 to 7
-- and 16, and their places go up to 54,933. Assumes nothing.
use Rattle.std.specs.Prelude.{ℕ, zero, suc, ◌+◌, ◌*◌, ◌≤◌, ◌<◌, Bool, true, false, ◌||◌, List, [], ◌∷◌, ◌++◌, ◌⊎◌, ◌≡◌, refl, eqb, ltb, leb, length, get_or}
use Rattle.std.proofs.Common.{inl, inr, ap, arith, length-append}
use Rattle.definitions.specs.Outcome.{pick, Outcome, refused}
use Rattle.definitions.specs.Lists.{some_below}
use Rattle.definitions.specs.Network.{is_pair, link_fault}
use Rattle.definitions.specs.Form.{Scan, departs, reads, byte_at, scan_form, on_scan}
use Rattle.definitions.specs.Text.{
  header_form,
  link_form,
  out_form,
  end_form,
  withdrawn,
  read_end,
  read_outs,
  read_links,
  read_network,
}
use Rattle.lists.specs.RefusedWithin.{RefusedAs, refuse-as, pick-within}
use Rattle.text_theory.specs.Forms.{header-line}
use Rattle.text_theory.specs.NetworkLines.{read-line}
use Rattle.text_theory.specs.OutLengths.{out_width, width-most}
use Rattle.text_theory.specs.Sized.{sized-as}
use Rattle.text_theory.specs.Spans.{span, Within, form-within}
use Rattle.text_theory.specs.Reach.{link-behind, out-told}

pub on-scan-as : {A : Type 0} (P : ℕ → ℕ → Type 0) (number limit : ℕ) (scan : Scan) (next : List ℕ → ℕ → Outcome A)
    → ((place : ℕ) → place < limit → P number place) → Within limit scan
    → ((values : List ℕ) (q : ℕ) → scan ≡ reads values q → q ≤ limit → RefusedAs P (next values q))
    → RefusedAs P (on_scan number scan next)
unfolding on_scan
on-scan-as P number limit (departs q) next here within after = here q within
on-scan-as P number limit (reads values q) next here within after = after values q refl within

-- The same of what holds at every place.
pub on-scan-anywhere : {A : Type 0} (P : ℕ → ℕ → Type 0) (number : ℕ) (scan : Scan) (next : List ℕ → ℕ → Outcome A)
    → ((place : ℕ) → P number place) → ((values : List ℕ) (q : ℕ) → RefusedAs P (next values q)) → RefusedAs P (on_scan number scan next)
unfolding on_scan
on-scan-anywhere P number (departs q) next here after = here q
on-scan-anywhere P number (reads values q) next here after = after values q

-- What stands before a refusal: the scan departs, or it reads and the next step refuses.
pub on-scan-refused : {A : Type 0} (own : ℕ) (scan : Scan) (next : List ℕ → ℕ → Outcome A) (number place : ℕ)
    → on_scan own scan next ≡ refused number place
    → ((scan ≡ departs place) × (number ≡ own))
    ⊎ ((values : List ℕ) × (q : ℕ) × (scan ≡ reads values q) × (next values q ≡ refused number place))
unfolding on_scan
on-scan-refused own (departs p) next number place e =
    let places : p ≡ place = cc in
    inl (ap departs places, cc)
on-scan-refused own (reads values q) next number place e = inr (values, q, refl, e)

fault-within : (n : ℕ) (lows highs : List ℕ) (i a b : ℕ) → link_fault n lows highs i a b ≤ 7
unfolding link_fault
fault-within n lows highs i a b =
    pick-within 7 (leb n a || leb n b) 5 _ (omega arith)
    (pick-within 7 (leb b a) 6 _ (omega arith)
    (pick-within 7 (some_below (is_pair lows highs a b) i) 7 0 (omega arith) (omega arith)))

-- The numbers and places of Read's refusals with room for every network. The last place is that of the line end of an out line
-- behind 3,000 link lines and 1,000 out lines.
abbrev pub ReadRefusal : (number place : ℕ) → Type 0
ReadRefusal number place = ((number ≤ 7) ⊎ (number ≡ 16)) × (place ≤ 54933)

-- One of two ways to go on.
either-as : {A : Type 0} (P : ℕ → ℕ → Type 0) (b : Bool) (one other : Outcome A) → RefusedAs P one → RefusedAs P other
    → RefusedAs P (pick b one other)
either-as P true one other first second = first
either-as P false one other first second = second

end-within : (text : List ℕ) (n : ℕ) (lows highs told : List ℕ) (p : ℕ) → p + 6 ≤ 54933
    → RefusedAs ReadRefusal (read_end text n lows highs told p)
unfolding read_end span end_form
end-within text n lows highs told p h =
    on-scan-as ReadRefusal 2 (p + 6) (scan_form text end_form p) _ (λ place below. (inl (omega arith), omega arith))
    (form-within end_form text p)
    (λ values q e below.
    refuse-as ReadRefusal (ltb q (length text)) 2 q _ (λ _. (inl (omega arith), omega arith)) (λ _. tt))

outs-within : (most : ℕ) (text : List ℕ) (n : ℕ) (lows highs told : List ℕ) (base p : ℕ) → n ≤ 1000 → length told ≤ n
    → p ≤ length text → p ≤ base + out_width (length told) → base + 9901 ≤ 54934
    → RefusedAs ReadRefusal (read_outs text n lows highs told p most)
unfolding read_outs span out_form
outs-within zero text n lows highs told base p few below within before h =
    end-within text n lows highs told p (omega (arith, width-most (length told) (omega arith)))
outs-within (suc most) text n lows highs told base p few below within before h =
    let short = width-most (length told) (omega arith) in
    either-as ReadRefusal (eqb (byte_at text (p + 1)) 111) _ (read_end text n lows highs told p)
    (on-scan-as ReadRefusal 2 (p + 11) (scan_form text out_form p) _ (λ place under. (inl (omega arith), omega arith))
    (form-within out_form text p)
    (λ values q e under.
    let r = get_or values 0 0 in
    refuse-as ReadRefusal (leb n r || ltb r (length told)) 16 0 _ (λ _. (inr refl, omega arith))
    (λ good.
    let after = out-told text n told base p values q within before e good in
    outs-within most text n lows highs (withdrawn told r) base q few after.1 after.0 after.2 h)))
    (end-within text n lows highs told p (omega arith))

links-within : (count : ℕ) (text : List ℕ) (n : ℕ) (lows highs : List ℕ) (p : ℕ) → n ≤ 1000 → p ≤ length text
    → p + 15 * count + 9901 ≤ 54934 → length lows + count ≤ 3000 → RefusedAs ReadRefusal (read_links text n lows highs p count)
unfolding read_links span link_form
links-within zero text n lows highs p few within h many =
    outs-within (suc n) text n lows highs [] p p few (omega arith) within (omega arith) (omega arith)
links-within (suc count) text n lows highs p few within h many =
    on-scan-as ReadRefusal 2 (p + 17) (scan_form text link_form p) _ (λ place below. (inl (omega arith), omega arith))
    (form-within link_form text p)
    (λ values q e below.
    let a = get_or values 0 0 in
    let b = get_or values 1 0 in
    let fault = link_fault n lows highs (length lows) a b in
    refuse-as ReadRefusal (ltb 0 fault) fault (length lows) _
    (λ _. (inl (fault-within n lows highs (length lows) a b), omega arith))
    (λ none.
    let behind = link-behind text n lows highs p values q few within e none in
    links-within count text n (lows ++ (a ∷ [])) (highs ++ (b ∷ [])) q few behind.0 (omega arith)
    (omega (arith, length-append lows (a ∷ [])))))

pub network-within : (text : List ℕ) (room_lows room_highs room_states : ℕ) → 3000 ≤ room_lows → 3000 ≤ room_highs → 1000 ≤ room_states
    → RefusedAs ReadRefusal (read_network text room_lows room_highs room_states)
unfolding read_network span header_form
network-within text room_lows room_highs room_states in_lows in_highs in_states =
    on-scan-as ReadRefusal 2 33 (scan_form text header_form 0) _ (λ place below. (inl (omega arith), omega arith))
    (form-within header_form text 0)
    (λ values p e below.
    let n = get_or values 0 0 in
    let m = get_or values 1 0 in
    let line = read-line header_form text 0 values p header-line (omega arith) e in
    sized-as ReadRefusal n m room_lows room_highs room_states (read_links text n [] [] p m) in_lows in_highs in_states
    (inl (omega arith), omega arith) (inl (omega arith), omega arith)
    (λ few most. links-within m text n [] [] p few line.1.within (omega arith) (omega arith)))
