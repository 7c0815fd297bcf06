-- What refusal 2 of the reader means, proved: at that byte the text departs from the form due, and where it departs it is refused, whatever
-- room there is that gives no cause for 8. Assumes nothing.
use Rattle.std.specs.Prelude.{ℕ, zero, suc, ◌+◌, ◌≤◌, ◌<◌, Bool, true, false, ◌||◌, List, [], ◌∷◌, ◌++◌, ◌≢◌, ◌≡◌, refl, ltb, leb, length, get_or, replicate}
use Rattle.std.proofs.Common.{append_assoc, sym, ◌∙◌, ap, add-zero, arith, ltb-false}
use Rattle.definitions.specs.Outcome.{pick, Outcome, refused, done, refuse_if, and_then}
use Rattle.definitions.specs.Lists.{outside, some_below}
use Rattle.definitions.specs.Network.{is_pair, link_fault, Accepted}
use Rattle.definitions.specs.Form.{Scan, departs, reads, scan_form, on_scan, write_form}
use Rattle.definitions.specs.Text.{header_form, link_form, Network, sized, read_links, read_network, counts_of, read_answer, link_lines, out_lines}
use Rattle.definitions.specs.Departs.{DepartsAt}
use Rattle.definitions.specs.RefusalTwo.{EndDeparts, Departure, header_due, link_due, end_due, RefusalTwo}
use Rattle.lists.specs.Outcomes.{refused-later, refuse-passed}
use Rattle.lists.specs.Parts.{Part, part-empty, part-append, part-first, part-second}
use Rattle.theory.specs.Accepted.{ProperStates, accepted, accepted-states}
use Rattle.text_theory.specs.Forms.{header-line, link-line}
use Rattle.text_theory.specs.NetworkLines.{read-line, link-numbers, header-numbers}
use Rattle.text_theory.specs.LinkByLink.{lines, Faultless, link_lines-lines, accepted-faultless, faultless-accepted}
use Rattle.text_theory.specs.OutByOut.{outs, out_lines-outs, tell, all-serve}
use Rattle.text_theory.specs.Onward.{header-roomy, links-onward, states-onward}
use Rattle.text_theory.specs.Sized.{sized-refused}
use Rattle.text_theory.specs.DepartsFromForm.{departs-at}
use Rattle.text_theory.specs.DepartsOnce.{departs-exactly}
use Rattle.text_theory.specs.Standing.{part-stands, stands-part}
use Rattle.text_theory.specs.OutOrEnd.{due-refused, OutsDepart, outs-depart}

-- The faults of a link are 5, 6 and 7.
fault-not-two : (n : ℕ) (lows highs : List ℕ) (i a b : ℕ) → link_fault n lows highs i a b ≡ 2 → ⊥
unfolding link_fault
fault-not-two n lows highs i a b e = go (leb n a || leb n b) (leb b a) (some_below (is_pair lows highs a b) i) e
  where
    go : (s t u : Bool) → ◌≡◌ {A = ℕ} (pick s 5 (pick t 6 (pick u 7 0))) 2 → ⊥
    go true t u e = omega arith
    go false true u e = omega arith
    go false false true e = omega arith
    go false false false e = omega arith

-- Behind the link lines that were read: one more, or the out lines and the end.
data LinksOver (text : List ℕ) (n left at q : ℕ) : Type 0 where
  one_more : 0 < left → DepartsAt text link_form at q → LinksOver text n left at q
  no_more : left ≡ 0 → OutsDepart text n at q → LinksOver text n left at q

-- The links that were read from byte p on, up to byte `at`, and what is due there.
record LinksDepart (text : List ℕ) (n : ℕ) (lows highs : List ℕ) (p count q : ℕ) : Type 0 where
  ls : List ℕ
  hs : List ℕ
  left : ℕ
  at : ℕ
  even : length ls ≡ length hs
  many : length ls + left ≡ count
  good : Faultless n lows highs ls hs
  part : Part text p (lines ls hs) at
  over : LinksOver text n left at q

-- Behind the header line: the lines that were read, and the table that they make.
behind-header : (text : List ℕ) (n m p q : ℕ) → Part text 0 (write_form header_form (n ∷ m ∷ [])) p
    → outside 1 1000 n ≡ false → m ≤ 3000 → LinksDepart text n [] [] p m q → Departure text q
behind-header text n m p q header size few links = go links.over
  where
    ls : List ℕ
    ls = links.ls

    hs : List ℕ
    hs = links.hs

    accept : (states : List ℕ) → ProperStates n states → Accepted n ls hs states
    accept states proper =
        faultless-accepted n ls hs states size links.even (omega (arith, links.many)) links.good proper

    written : lines ls hs ≡ link_lines ls hs 0 (length ls)
    written = sym (link_lines-lines ls hs [] [] refl links.even)

    before : Part text 0 (write_form header_form (n ∷ (length ls + links.left) ∷ []) ++ link_lines ls hs 0 (length ls)) links.at
    before =
        rw (links.many, ← written)
        (part-append text (write_form header_form (n ∷ m ∷ [])) (lines ls hs) 0 p links.at header links.part)

    go : LinksOver text n links.left links.at q → Departure text q
    go (one_more more here) =
        link_due n ls hs links.left links.at (accept (replicate n 1) (all-serve n)) more (omega (arith, links.many))
        (part-stands text _ 0 links.at before) here
    go (no_more none seen) =
        let states = seen.states in
        let written = out_lines states 0 (length states) in
        let table = link_lines ls hs 0 (length ls) in
        let first = write_form header_form (n ∷ length ls ∷ []) in
        let count : length ls + links.left ≡ length ls = omega arith in
        let out : Part text links.at written seen.at = rw (out_lines-outs states []) seen.part in
        let all : Part text 0 (first ++ (table ++ written)) seen.at =
        rw (append_assoc first table written) at
        (part-append text (first ++ table) written 0 links.at seen.at (rw count at before) out) in
        end_due n ls hs states seen.at (accept states seen.proper) (part-stands text (first ++ (table ++ written)) 0 seen.at all)
        seen.due

-- A link line, and behind it the others.
one_more-read : (text : List ℕ) (n : ℕ) (lows highs : List ℕ) (a b p at count q : ℕ)
    → link_fault n lows highs (length lows) a b ≡ 0 → Part text p (write_form link_form (a ∷ b ∷ [])) at
    → LinksDepart text n (lows ++ (a ∷ [])) (highs ++ (b ∷ [])) at count q → LinksDepart text n lows highs p (suc count) q
unfolding lines
one_more-read text n lows highs a b p at count q none line after =
    record {
      ls = a ∷ after.ls;
      hs = b ∷ after.hs;
      left = after.left;
      at = after.at;
      even = ap suc after.even;
      many = omega (arith, after.many);
      good = (none, after.good);
      part = part-append text (write_form link_form (a ∷ b ∷ [])) (lines after.ls after.hs) p at after.at line after.part;
      over = after.over;
    }

-- No line was read.
none_read : (text : List ℕ) (n : ℕ) (lows highs : List ℕ) (p count q : ℕ) → p ≤ length text → LinksOver text n count p q
    → LinksDepart text n lows highs p count q
unfolding lines
none_read text n lows highs p count q within over =
    record {
      ls = [];
      hs = [];
      left = count;
      at = p;
      even = refl;
      many = omega arith;
      good = tt;
      part = part-empty text p within;
      over = over;
    }

links-depart : (count : ℕ) (text : List ℕ) (n : ℕ) (lows highs : List ℕ) (p q : ℕ) → p ≤ length text
    → read_links text n lows highs p count ≡ refused 2 q → LinksDepart text n lows highs p count q
unfolding read_links on_scan
links-depart zero text n lows highs p q within e =
    none_read text n lows highs p 0 q within (no_more refl (outs-depart text n lows highs p q within e))
links-depart (suc count) text n lows highs p q within e =
    go (scan_form text link_form p) refl e
    (λ a b at. links-depart count text n (lows ++ (a ∷ [])) (highs ++ (b ∷ [])) at q)
  where
    go : (scan : Scan) → scan_form text link_form p ≡ scan
        → on_scan {A = Network} 2 scan
        (λ ends at. refuse_if
        (ltb 0 (link_fault n lows highs (length lows) (get_or ends 0 0) (get_or ends 1 0)))
        (link_fault n lows highs (length lows) (get_or ends 0 0) (get_or ends 1 0)) (length lows)
        (read_links text n (lows ++ (get_or ends 0 0 ∷ [])) (highs ++ (get_or ends 1 0 ∷ [])) at count)) ≡ refused 2 q
        → ((a b at : ℕ) → at ≤ length text → read_links text n (lows ++ (a ∷ [])) (highs ++ (b ∷ [])) at count ≡ refused 2 q
        → LinksDepart text n (lows ++ (a ∷ [])) (highs ++ (b ∷ [])) at count q)
        → LinksDepart text n lows highs p (suc count) q
    go (departs at) first e hyp =
        let same : at ≡ q = cc in
        none_read text n lows highs p (suc count) q within
        (one_more (omega arith) (departs-at link_form text p q link-line.0 within (first ∙ ap departs same)))
    go (reads values at) first e hyp =
        let a = get_or values 0 0 in
        let b = get_or values 1 0 in
        let fault = link_fault n lows highs (length lows) a b in
        let rest = read_links text n (lows ++ (a ∷ [])) (highs ++ (b ∷ [])) at count in
        let line = read-line link_form text p values at link-line within first in
        let over = refused-later (ltb 0 fault) fault (length lows) rest 2 q e (fault-not-two n lows highs (length lows) a b) in
        let here : Part text p (write_form link_form (a ∷ b ∷ [])) at = rw (link-numbers values line.0) at line.1 in
        one_more-read text n lows highs a b p at count q (omega (arith, ltb-false 0 fault over.0)) here
        (hyp a b at line.1.within over.1)

-- Refusal 2 is at the first byte that departs from the form due, whatever room there is.
pub refused-two : (text : List ℕ) (room_lows room_highs room_states q : ℕ) → read_network text room_lows room_highs room_states ≡ refused 2 q
    → Departure text q
unfolding read_network on_scan
refused-two text room_lows room_highs room_states q e = go (scan_form text header_form 0) refl e
  where
    go : (scan : Scan) → scan_form text header_form 0 ≡ scan
        → on_scan {A = Network} 2 scan
        (λ counts p. sized (get_or counts 0 0) (get_or counts 1 0) room_lows room_highs room_states
        (read_links text (get_or counts 0 0) [] [] p (get_or counts 1 0))) ≡ refused 2 q
        → Departure text q
    go (departs at) first e =
        let same : at ≡ q = cc in
        header_due (departs-at header_form text 0 q header-line.0 (omega arith) (first ∙ ap departs same))
    go (reads values p) first e =
        let n = get_or values 0 0 in
        let m = get_or values 1 0 in
        let line = read-line header_form text 0 values p header-line (omega arith) first in
        let here : Part text 0 (write_form header_form (n ∷ m ∷ [])) p = rw (header-numbers values line.0) at line.1 in
        let (pass, links) =
        sized-refused n m room_lows room_highs room_states (read_links text n [] [] p m) 2 q e (λ x. omega arith) (λ x. omega arith)
        (λ x. omega arith) in
        behind-header text n m p q here pass.size pass.few (links-depart m text n [] [] p q line.1.within links)

-- One more link line is due.
link-refused : (text : List ℕ) (n : ℕ) (lows highs : List ℕ) (left at q : ℕ) → at ≤ length text → 0 < left
    → DepartsAt text link_form at q → read_links text n lows highs at left ≡ refused 2 q
unfolding read_links on_scan
link-refused text n lows highs zero at q within more here = absurd (omega arith)
link-refused text n lows highs (suc left) at q within more here =
    rw ((departs-exactly link_form text at q link-line within).1 here)

-- An out line or the end is due, behind the out lines of some states.
end-due-refused : (text : List ℕ) (n : ℕ) (lows highs states : List ℕ) (p at q : ℕ) → Accepted n lows highs states
    → Part text p (out_lines states 0 (length states)) at → EndDeparts text at q → read_links text n lows highs p 0 ≡ refused 2 q
end-due-refused text n lows highs states p at q check part due =
    let proper = accepted-states n lows highs states check in
    let out : Part text p (outs 0 states) at = rw (out_lines-outs states []) at part in
    let (left, some, told) = states-onward text n lows highs states p at (accepted n lows highs states check).few proper out in
    told ∙ due-refused text n lows highs (tell [] 0 states) at q left part.within some due

-- The reader goes on behind the header line and the lines of an accepted table, where it has no cause for 8.
table-onward : (text : List ℕ) (n : ℕ) (lows highs states : List ℕ) (left at room_lows room_highs room_states : ℕ)
    → Accepted n lows highs states → length lows + left ≤ 3000 → read_network text room_lows room_highs room_states ≢ refused 8 0
    → Part text 0 (write_form header_form (n ∷ (length lows + left) ∷ []) ++ link_lines lows highs 0 (length lows)) at
    → read_network text room_lows room_highs room_states ≡ read_links text n lows highs at left
table-onward text n lows highs states left at room_lows room_highs room_states check few roomy before =
    let table = accepted n lows highs states check in
    let size = table.few in
    let m = length lows + left in
    let header = write_form header_form (n ∷ m ∷ []) in
    let p = 0 + length header in
    let both : Part text 0 (header ++ lines lows highs) at =
    rw (link_lines-lines lows highs [] [] refl table.even) at before in
    let full = ltb room_lows m || (ltb room_highs m || ltb room_states n) in
    let begun =
    header-roomy text n m p room_lows room_highs room_states table.some size few (part-first text header (lines lows highs) 0 at both) in
    begun
    ∙ refuse-passed full 8 0 (read_links text n [] [] p m) (λ e. roomy (begun ∙ e))
    ∙ links-onward text n lows highs [] [] p at left size table.even (accepted-faultless n lows highs states check)
    (part-second text header (lines lows highs) 0 at both)

departure-refused : (text : List ℕ) (room_lows room_highs room_states q : ℕ) → read_network text room_lows room_highs room_states ≢ refused 8 0
    → Departure text q → read_network text room_lows room_highs room_states ≡ refused 2 q
unfolding read_network on_scan
departure-refused text room_lows room_highs room_states q roomy (header_due here) =
    rw ((departs-exactly header_form text 0 q header-line (omega arith)).1 here)
departure-refused text room_lows room_highs room_states q roomy (link_due n lows highs left at check more few stands here) =
    let before = stands-part text _ 0 at (omega arith) stands in
    table-onward text n lows highs (replicate n 1) left at room_lows room_highs room_states check few roomy before
    ∙ link-refused text n lows highs left at q before.within more here
departure-refused text room_lows room_highs room_states q roomy (end_due n lows highs states at check stands due) =
    let table = accepted n lows highs states check in
    let header = write_form header_form (n ∷ length lows ∷ []) in
    let links = link_lines lows highs 0 (length lows) in
    let written = out_lines states 0 (length states) in
    let before = stands-part text (header ++ (links ++ written)) 0 at (omega arith) stands in
    let both : Part text 0 ((header ++ links) ++ written) at = rw (append_assoc header links written) before in
    let p = 0 + length (header ++ links) in
    let first : Part text 0 (write_form header_form (n ∷ (length lows + 0) ∷ []) ++ links) p =
    rw (add-zero (length lows)) (part-first text (header ++ links) written 0 at both) in
    table-onward text n lows highs states 0 p room_lows room_highs room_states check (omega (arith, table.short)) roomy first
    ∙ end-due-refused text n lows highs states p at q check (part-second text (header ++ links) written 0 at both) due

-- What Read answers, by what was read.
answer-refused : (outcome : Outcome Network) (number place : ℕ) → counts_of outcome ≡ refused number place → outcome ≡ refused number place
unfolding and_then
answer-refused (refused n p) number place e =
    let same : (n ≡ number) × (p ≡ place) = (cc, cc) in
    rw (same.0, same.1)
answer-refused (done network) number place e = let z : ◌≡◌ {A = ℕ} 0 1 = cc in absurd (omega arith)

refused-answer : (outcome : Outcome Network) (number place : ℕ) → outcome ≡ refused number place → counts_of outcome ≡ refused number place
unfolding and_then
refused-answer outcome number place e = rw e

pub refusal-two : RefusalTwo
unfolding read_answer
refusal-two text lows highs states q roomy =
    let read = read_network text (length lows) (length highs) (length states) in (
      λ e. refused-two text (length lows) (length highs) (length states) q (answer-refused read 2 q e),
      λ here.
          refused-answer read 2 q
          (departure-refused text (length lows) (length highs) (length states) q (λ e. roomy (refused-answer read 8 0 e)) here),
    )
