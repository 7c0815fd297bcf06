-- Where the import refuses a DIMACS text with another number than 18, the numbers of the lines at its front give that refusal.
-- Assumes nothing.
use Rattle.std.specs.Prelude.{ℕ, zero, suc, ◌≤◌, Bool, true, false, List, [], ◌∷◌, ◌++◌, ◌⊎◌, ◌≢◌, ◌≡◌, refl, ltb, length, get_or, drop}
use Rattle.std.proofs.Common.{append_assoc, inl, inr, sym, ◌∙◌, ap, arith}
use Rattle.definitions.specs.Outcome.{Outcome, refused, refuse_if}
use Rattle.definitions.specs.Form.{Scan, departs, reads, on_scan, write_form}
use Rattle.definitions.specs.Text.{Network, sized}
use Rattle.definitions.specs.Departs.{Begins}
use Rattle.definitions.specs.Dimacs.{problem_form, edge_form, scan_comments, scan_line, low_end, high_end, edge_fault, read_edges, import_network}
use Rattle.definitions.specs.DimacsText.{EdgeLine, comment_lines, edge_lines, EdgesFit, judged_edges, Front, front_text, FrontFits, judged_front}
use Rattle.lists.specs.Outcomes.{refused-later}
use Rattle.lists.specs.Parts.{Part, part-empty, part-append}
use Rattle.text_theory.specs.Sized.{sized-also, sized-split}
use Rattle.text_theory.specs.DimacsLines.{problem-line, edge-line, noted, NotedRead, read-noted}

-- The `e` lines that stand from p on and whose numbers are refused so.
record EdgesRefused (text : List ℕ) (n : ℕ) (lows highs : List ℕ) (p count number place : ℕ) : Type 0 where
  edges : List EdgeLine
  at : ℕ
  few : length edges ≤ count
  fits : EdgesFit edges
  part : Part text p (edge_lines edges) at
  judges : judged_edges n lows highs edges ≡ refused number place

-- A refusal of the form is 18.
scan-refused : {A : Type 0} (scan : Scan) (next : List ℕ → ℕ → Outcome A) (number place : ℕ) → number ≢ 18
    → on_scan 18 scan next ≡ refused number place
    → (values : List ℕ) × (q : ℕ) × (scan ≡ reads values q) × (next values q ≡ refused number place)
unfolding on_scan
scan-refused (departs q) next number place other e = absurd (other (cc))
scan-refused (reads values q) next number place other e = (values, q, refl, e)

-- A line, and the lines after it.
one_more : (text : List ℕ) (n : ℕ) (lows highs values : List ℕ) (p s count number place : ℕ) (edges : List EdgeLine) (at : ℕ)
    → NotedRead edge_form text p values s → length edges ≤ count → EdgesFit edges → Part text s (edge_lines edges) at
    → refuse_if
    (ltb 0 (edge_fault n lows highs (get_or values 0 0) (get_or values 1 0)))
    (edge_fault n lows highs (get_or values 0 0) (get_or values 1 0)) (length lows)
    (judged_edges n (lows ++ (low_end (get_or values 0 0) (get_or values 1 0) ∷ []))
    (highs ++ (high_end (get_or values 0 0) (get_or values 1 0) ∷ [])) edges)
    ≡ refused number place
    → EdgesRefused text n lows highs p (suc count) number place
unfolding judged_edges edge_lines
one_more text n lows highs values p s count number place edges at line few fits part e =
    let u = get_or values 0 0 in
    let v = get_or values 1 0 in
    let notes = comment_lines line.comments in
    let written = write_form edge_form (u ∷ v ∷ []) in
    let edge : EdgeLine = record { notes = line.comments; u = u; v = v } in
    let whole : Part text p (noted line.comments edge_form u v ++ edge_lines edges) at =
    part-append text (noted line.comments edge_form u v) (edge_lines edges) p s at line.part part in
    record {
      edges = edge ∷ edges;
      at = at;
      few = omega arith;
      fits = (line.fits, line.small_u, line.small_v, fits);
      part = rw (append_assoc notes written (edge_lines edges)) at whole;
      judges = e;
    }

edges-refused : (count : ℕ) (text : List ℕ) (n : ℕ) (lows highs : List ℕ) (p number place : ℕ) → p ≤ length text → number ≢ 18
    → read_edges text n lows highs p count ≡ refused number place → EdgesRefused text n lows highs p count number place
unfolding read_edges refuse_if judged_edges edge_lines
edges-refused zero text n lows highs p number place within other e =
    let (values, q, first, second) = scan-refused (scan_comments text p (length text)) _ number place other e in
    let over = refused-later (ltb q (length text)) 18 q _ number place second (λ same. other (sym same)) in
    let z : ◌≡◌ {A = ℕ} 0 1 = cc in
    absurd (omega arith)
edges-refused (suc count) text n lows highs p number place within other e =
    let (values, q, first, second) = scan-refused (scan_line text edge_form p) _ number place other e in
    let line = read-noted edge_form text p values q edge-line within first in
    go values q line (ltb 0 (edge_fault n lows highs (get_or values 0 0) (get_or values 1 0))) refl second
    (λ ls hs s inside. edges-refused count text n ls hs s number place inside other)
  where
    go : (values : List ℕ) (q : ℕ) → NotedRead edge_form text p values q
        → (b : Bool) → ltb 0 (edge_fault n lows highs (get_or values 0 0) (get_or values 1 0)) ≡ b
        → refuse_if b (edge_fault n lows highs (get_or values 0 0) (get_or values 1 0)) (length lows)
        (read_edges text n (lows ++ (low_end (get_or values 0 0) (get_or values 1 0) ∷ []))
        (highs ++ (high_end (get_or values 0 0) (get_or values 1 0) ∷ [])) q count)
        ≡ refused number place
        → ((ls hs : List ℕ) (s : ℕ) → s ≤ length text → read_edges text n ls hs s count ≡ refused number place
        → EdgesRefused text n ls hs s count number place)
        → EdgesRefused text n lows highs p (suc count) number place
    go values q line true test e hyp =
        one_more text n lows highs values p q count number place [] q line (omega arith) tt (part-empty text q line.part.within) (rw test e)
    go values q line false test e hyp =
        let after =
        hyp (lows ++ (low_end (get_or values 0 0) (get_or values 1 0) ∷ [])) (highs ++ (high_end (get_or values 0 0) (get_or values 1 0) ∷ [])) q
        line.part.within e in
        one_more text n lows highs values p q count number place after.edges after.at line after.few after.fits after.part
        (rw test after.judges)

-- A front whose numbers are refused so.
pub record FrontRefused (text : List ℕ) (room_lows room_highs room_states number place : ℕ) : Type 0 where
  pub front : Front
  pub fits : FrontFits front
  pub begins : Begins (front_text front) text
  pub judges : judged_front front room_lows room_highs room_states ≡ refused number place

-- The `p` line and the `e` lines after it.
front_of : (text : List ℕ) (room_lows room_highs room_states number place : ℕ) (values : List ℕ) (p : ℕ) → NotedRead problem_form text 0 values p
    → (edges : List EdgeLine) (at : ℕ) → length edges ≤ get_or values 1 0 → EdgesFit edges → Part text p (edge_lines edges) at
    → sized (get_or values 0 0) (get_or values 1 0) room_lows room_highs room_states (judged_edges (get_or values 0 0) [] [] edges)
    ≡ refused number place
    → FrontRefused text room_lows room_highs room_states number place
unfolding judged_front front_text
front_of text room_lows room_highs room_states number place values p line edges at few fits part e =
    let n = get_or values 0 0 in
    let m = get_or values 1 0 in
    let notes = comment_lines line.comments in
    let written = write_form problem_form (n ∷ m ∷ []) in
    let whole : Part text 0 (noted line.comments problem_form n m ++ edge_lines edges) at =
    part-append text (noted line.comments problem_form n m) (edge_lines edges) 0 p at line.part part in
    record {
      front = record { notes = line.comments; relays = n; links = m; edges = edges };
      fits = record { notes = line.fits; relays = line.small_u; links = line.small_v; edges = fits; few = few };
      begins = (drop at text, whole.follows ∙ ap (λ (l : List ℕ). l ++ drop at text) (append_assoc notes written (edge_lines edges)));
      judges = e;
    }

pub front-refused : (text : List ℕ) (room_lows room_highs room_states number place : ℕ) → number ≢ 18
    → import_network text room_lows room_highs room_states ≡ refused number place → FrontRefused text room_lows room_highs room_states number place
unfolding import_network edge_lines
front-refused text room_lows room_highs room_states number place other e =
    let (values, p, first, second) = scan-refused (scan_line text problem_form 0) _ number place other e in
    let line = read-noted problem_form text 0 values p problem-line (omega arith) first in
    go values p line second
  where
    go : (values : List ℕ) (p : ℕ) → NotedRead problem_form text 0 values p
        → sized (get_or values 0 0) (get_or values 1 0) room_lows room_highs room_states (read_edges text (get_or values 0 0) [] [] p (get_or values 1 0))
        ≡ refused number place
        → FrontRefused text room_lows room_highs room_states number place
    go values p line e = split (sized-split n m room_lows room_highs room_states (read_edges text n [] [] p m) number place e)
      where
        n : ℕ
        n = get_or values 0 0

        m : ℕ
        m = get_or values 1 0

        -- By the `p` line, whatever comes after it, or by what comes after it.
        split : ((rest : Outcome Network) → sized n m room_lows room_highs room_states rest ≡ refused number place)
            ⊎ (read_edges text n [] [] p m ≡ refused number place)
            → FrontRefused text room_lows room_highs room_states number place
        split (inl whatever) =
            front_of text room_lows room_highs room_states number place values p line [] p (omega arith) tt
            (part-empty text p line.part.within) (whatever (judged_edges n [] [] []))
        split (inr wrong) =
            let after = edges-refused m text n [] [] p number place line.part.within other wrong in
            front_of text room_lows room_highs room_states number place values p line after.edges after.at after.few after.fits after.part
            (sized-also n m room_lows room_highs room_states (read_edges text n [] [] p m) (judged_edges n [] [] after.edges) number place e
            (λ _. after.judges))
