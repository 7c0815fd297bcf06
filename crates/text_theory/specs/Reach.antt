-- How far the reader looks: a longer text cannot change what it gives.
-- Assumes nothing.
use Rattle.std.specs.Prelude.{ℕ, zero, suc, ◌+◌, ◌-◌, ◌*◌, ◌≤◌, ◌<◌, Bool, true, false, ◌||◌, List, [], ◌∷◌, ◌++◌, ◌≡◌, refl, eqb, ltb, leb, length, get_or, take}
use Rattle.std.proofs.Common.{◌∙◌, ap, arith, length-take, get_or-take, lt-ltb, le-ltb, ltb-true, ltb-false, leb-false}
use Rattle.definitions.specs.Outcome.{pick, Outcome}
use Rattle.definitions.specs.Lists.{outside}
use Rattle.definitions.specs.Network.{link_fault}
use Rattle.definitions.specs.Form.{
  Item,
  word,
  numeral,
  Scan,
  departs,
  reads,
  byte_at,
  scan_word,
  scan_digits,
  scan_number,
  scan_item,
  with_front,
  following,
  scan_form,
  on_scan,
  decimal,
  write_form,
}
use Rattle.definitions.specs.Text.{header_form, link_form, out_form, end_form, withdrawn, read_end, read_outs, read_links, read_network}
use Rattle.lists.specs.Ranges.{inside-range}
use Rattle.lists.specs.SameOutcomes.{refuse-same}
use Rattle.lists.specs.Tests.{or-false}
use Rattle.theory.specs.Accepted.{fault-none}
use Rattle.text_theory.specs.Forms.{header-line, link-line, out-line}
use Rattle.text_theory.specs.NetworkLines.{read-line, link-numbers, out-numbers}
use Rattle.text_theory.specs.OutByOut.{length-withdrawn}
use Rattle.text_theory.specs.Lengths.{length-out}
use Rattle.text_theory.specs.OutLengths.{out_width, width-next, width-grows, width-most}
use Rattle.text_theory.specs.Spans.{span, span-first, written-span, Within, item-within, form-within}

-- The first n bytes are the same.
abbrev Same : ℕ → List ℕ → List ℕ → Type 0
Same n text other = (i : ℕ) → i < n → byte_at other i ≡ byte_at text i

word-reach : (text other w : List ℕ) (p n : ℕ) → Same n text other → p + length w ≤ n
    → scan_word other w p ≡ scan_word text w p
unfolding scan_word
word-reach text other [] p n same h = refl
word-reach text other (b ∷ w) p n same h = rw (same p (omega arith), word-reach text other w (p + 1) n same (omega arith))

digits-reach : (text other : List ℕ) (x p more n : ℕ) → Same n text other → p + more ≤ n
    → scan_digits other x p more ≡ scan_digits text x p more
unfolding scan_digits
digits-reach text other x p zero n same h = refl
digits-reach text other x p (suc more) n same h =
    rw (same p (omega arith), digits-reach text other (x * 10 + (byte_at text p - 48)) (p + 1) more n same (omega arith))

number-reach : (text other : List ℕ) (p n : ℕ) → Same n text other → p + 4 ≤ n → scan_number other p ≡ scan_number text p
unfolding scan_number
number-reach text other p n same h =
    rw (same p (omega arith), digits-reach text other (byte_at text p - 48) (p + 1) 3 n same (omega arith))

item-reach : (text other : List ℕ) (item : Item) (p n : ℕ) → Same n text other → p + span 4 (item ∷ []) ≤ n
    → scan_item other item p ≡ scan_item text item p
unfolding scan_item span
item-reach text other (word w) p n same h = word-reach text other w p n same (omega arith)
item-reach text other numeral p n same h = number-reach text other p n same (omega arith)

same-form : (text other : List ℕ) (items : List Item) (p n : ℕ) → Same n text other → p + span 4 items ≤ n
    → scan_form other items p ≡ scan_form text items p
unfolding scan_form following
same-form text other [] p n same h = refl
same-form text other (item ∷ items) p n same h =
    rw (item-reach text other item p n same (omega (arith, span-first 4 item items)))
    (go (scan_item text item p) (item-within text item p) (λ q. same-form text other items q n same))
  where
    go : (scan : Scan) → Within (p + span 4 (item ∷ [])) scan
        → ((q : ℕ) → q + span 4 items ≤ n → scan_form other items q ≡ scan_form text items q)
        → following scan (scan_form other items) ≡ following scan (scan_form text items)
    go (departs q) within after = refl
    go (reads values q) within after = ap (with_front values) (after q (omega (arith, span-first 4 item items)))

-- A byte of the first n is that of the whole text.
byte-reach : (n : ℕ) (text : List ℕ) (i : ℕ) → i < n → byte_at (take n text) i ≡ byte_at text i
unfolding byte_at
byte-reach n text i below = get_or-take n text i 0 below

-- A form that can reach no further than byte n is read of the first n bytes as of the whole text.
pub form-reach : (n : ℕ) (text : List ℕ) (items : List Item) (p : ℕ) → p + span 4 items ≤ n
    → scan_form (take n text) items p ≡ scan_form text items p
form-reach n text items p h = same-form text (take n text) items p n (byte-reach n text) h

-- The first n bytes end behind q exactly if the text does.
length-reach : (n : ℕ) (text : List ℕ) (q : ℕ) → q < n → ltb q (length (take n text)) ≡ ltb q (length text)
length-reach n text q h = go (ltb q (length text)) refl
  where
    go : (b : Bool) → ltb q (length text) ≡ b → ltb q (length (take n text)) ≡ b
    go true e = lt-ltb q (length (take n text)) (omega (arith, length-take n text, ltb-true q (length text) e))
    go false e = le-ltb q (length (take n text)) (omega (arith, length-take n text, ltb-false q (length text) e))

-- Two ways to go on that give the same for whatever was read.
pub on-scan-same : {A : Type 0} (number limit : ℕ) (scan : Scan) (one other : List ℕ → ℕ → Outcome A) → Within limit scan
    → ((values : List ℕ) (q : ℕ) → scan ≡ reads values q → q ≤ limit → one values q ≡ other values q)
    → on_scan number scan one ≡ on_scan number scan other
unfolding on_scan
on-scan-same number limit (departs q) one other within same = refl
on-scan-same number limit (reads values q) one other within same = same values q refl within

end-reach : (n : ℕ) (text : List ℕ) (relays : ℕ) (lows highs told : List ℕ) (p : ℕ) → p + 6 < n
    → read_end (take n text) relays lows highs told p ≡ read_end text relays lows highs told p
unfolding read_end span end_form
end-reach n text relays lows highs told p h =
    rw (form-reach n text end_form p (omega arith))
    (on-scan-same 2 (p + 6) (scan_form text end_form p) _ _ (form-within end_form text p)
    (λ values q e below. rw (length-reach n text q (omega arith))))

-- Where the reading of an out line ends.
out-behind : (text : List ℕ) (p : ℕ) (values : List ℕ) (q : ℕ) → p ≤ length text → scan_form text out_form p ≡ reads values q
    → (q ≤ length text) × (q ≡ p + (7 + length (decimal (get_or values 0 0))))
out-behind text p values q within e =
    let line = read-line out_form text p values q out-line within e in
    let size : length (write_form out_form values) ≡ 7 + length (decimal (get_or values 0 0)) =
    ap (λ (l : List ℕ). length (write_form out_form l)) (out-numbers values line.0) ∙ length-out (get_or values 0 0) in
    (line.1.within, omega (arith, line.1.reaches))

-- Good out lines leave the states told behind them, and end where those of all relays before would at the latest.
pub out-told : (text : List ℕ) (n : ℕ) (told : List ℕ) (base p : ℕ) (values : List ℕ) (q : ℕ) → p ≤ length text
    → p ≤ base + out_width (length told) → scan_form text out_form p ≡ reads values q
    → (leb n (get_or values 0 0) || ltb (get_or values 0 0) (length told)) ≡ false
    → (q ≤ length text) × (length (withdrawn told (get_or values 0 0)) ≤ n)
    × (q ≤ base + out_width (length (withdrawn told (get_or values 0 0))))
out-told text n told base p values q within before e good =
    let r = get_or values 0 0 in
    let both = or-false (leb n r) (ltb r (length told)) good in
    let below = leb-false n r both.0 in
    let above = ltb-false r (length told) both.1 in
    let behind = out-behind text p values q within e in
    let start = length-withdrawn told r above in (
      behind.0,
      omega arith,
      rw start (omega (arith, behind.1, width-next r, width-grows (length told) r above)),
    )

-- The relays are told of one after the other, so that their lines end by 9,890 bytes; one line more, of 11 bytes at most, is read
-- before it can be refused.
outs-reach : (most n : ℕ) (text : List ℕ) (relays : ℕ) (lows highs told : List ℕ) (base p : ℕ) → relays ≤ 1000
    → length told ≤ relays → p ≤ length text → p ≤ base + out_width (length told) → base + 9901 ≤ n
    → read_outs (take n text) relays lows highs told p most ≡ read_outs text relays lows highs told p most
unfolding read_outs span out_form
outs-reach zero n text relays lows highs told base p few below within before h =
    end-reach n text relays lows highs told p (omega (arith, width-most (length told) (omega arith)))
outs-reach (suc most) n text relays lows highs told base p few below within before h =
    let short = width-most (length told) (omega arith) in
    rw (
      byte-reach n text (p + 1) (omega arith),
      form-reach n text out_form p (omega arith),
      end-reach n text relays lows highs told p (omega arith),
    )
    (ap (λ outcome. pick (eqb (byte_at text (p + 1)) 111) outcome (read_end text relays lows highs told p))
    (on-scan-same 2 (p + 11) (scan_form text out_form p) _ _ (form-within out_form text p)
    (λ values q e under.
    let r = get_or values 0 0 in
    refuse-same (leb relays r || ltb r (length told)) 16 0 _ _
    (λ good.
    let after = out-told text relays told base p values q within before e good in
    outs-reach most n text relays lows highs (withdrawn told r) base q few after.1 after.0 after.2 h))))

-- A link without a fault takes at most 15 bytes.
link-span : (n : ℕ) (lows highs : List ℕ) (i : ℕ) (values : List ℕ) → n ≤ 1000
    → link_fault n lows highs i (get_or values 0 0) (get_or values 1 0) ≡ 0
    → length (write_form link_form (get_or values 0 0 ∷ get_or values 1 0 ∷ [])) ≤ 15
unfolding span link_form
link-span n lows highs i values few none =
    let good = fault-none n lows highs i (get_or values 0 0) (get_or values 1 0) none in
    written-span 2 link_form (get_or values 0 0 ∷ get_or values 1 0 ∷ [])
    (omega (arith, good.ordered, good.below), (omega (arith, good.below), tt))

-- Where the reading of such a link ends.
pub link-behind : (text : List ℕ) (n : ℕ) (lows highs : List ℕ) (p : ℕ) (values : List ℕ) (q : ℕ) → n ≤ 1000 → p ≤ length text
    → scan_form text link_form p ≡ reads values q
    → ltb 0 (link_fault n lows highs (length lows) (get_or values 0 0) (get_or values 1 0)) ≡ false
    → (q ≤ length text) × (q ≤ p + 15)
link-behind text n lows highs p values q few within e none =
    let fault = link_fault n lows highs (length lows) (get_or values 0 0) (get_or values 1 0) in
    let line = read-line link_form text p values q link-line within e in
    let short : length (write_form link_form (get_or values 0 0 ∷ get_or values 1 0 ∷ [])) ≤ 15 =
    link-span n lows highs (length lows) values few (omega (arith, ltb-false 0 fault none)) in
    let size : length (write_form link_form values) ≤ 15 = rw (link-numbers values line.0) short in
    (line.1.within, omega (arith, line.1.reaches))

links-reach : (count n : ℕ) (text : List ℕ) (relays : ℕ) (lows highs : List ℕ) (p : ℕ) → relays ≤ 1000 → p ≤ length text
    → p + 15 * count + 9901 ≤ n → read_links (take n text) relays lows highs p count ≡ read_links text relays lows highs p count
unfolding read_links span link_form
links-reach zero n text relays lows highs p few within h =
    outs-reach (suc relays) n text relays lows highs [] p p few (omega arith) within (omega arith) (omega arith)
links-reach (suc count) n text relays lows highs p few within h =
    rw (form-reach n text link_form p (omega arith))
    (on-scan-same 2 (p + 17) (scan_form text link_form p) _ _ (form-within link_form text p)
    (λ values q e below.
    let a = get_or values 0 0 in
    let b = get_or values 1 0 in
    let fault = link_fault relays lows highs (length lows) a b in
    refuse-same (ltb 0 fault) fault (length lows) _ _
    (λ none.
    let behind = link-behind text relays lows highs p values q few within e none in
    links-reach count n text relays (lows ++ (a ∷ [])) (highs ++ (b ∷ [])) q few behind.0 (omega arith))))

-- A header line, 3,000 link lines and 1,000 out lines have at most 54,923 bytes. Behind them one more out line is read to its end
-- before it is refused, which is more than the end line and a byte behind it: any answer comes from the first 54,934 bytes.
pub network-reach : (n : ℕ) (text : List ℕ) (room_lows room_highs room_states : ℕ) → 54934 ≤ n
    → read_network (take n text) room_lows room_highs room_states ≡ read_network text room_lows room_highs room_states
unfolding read_network span header_form
network-reach n text room_lows room_highs room_states h =
    rw (form-reach n text header_form 0 (omega arith))
    (on-scan-same 2 33 (scan_form text header_form 0) _ _ (form-within header_form text 0)
    (λ values p e below.
    let relays = get_or values 0 0 in
    let links = get_or values 1 0 in
    let line = read-line header_form text 0 values p header-line (omega arith) e in
    refuse-same (outside 1 1000 relays) 3 0 _ _
    (λ size. refuse-same (ltb 3000 links) 4 0 _ _
    (λ many. refuse-same (ltb room_lows links || (ltb room_highs links || ltb room_states relays)) 8 0 _ _
    (λ room.
    let least = ltb-false 3000 links many in
    links-reach links n text relays [] [] p (inside-range 1 1000 relays size).1 line.1.within (omega arith))))))
