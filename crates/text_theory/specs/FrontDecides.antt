-- What the numbers of the lines at the front of a DIMACS text refuse, the import refuses, whatever comes after them. Assumes nothing.
use Rattle.std.specs.Prelude.{ℕ, suc, ◌+◌, ◌-◌, List, [], ◌∷◌, ◌++◌, ◌≡◌, ltb, length}
use Rattle.std.proofs.Common.{append_assoc, sym, ◌∙◌, ap, arith}
use Rattle.definitions.specs.Outcome.{refused}
use Rattle.definitions.specs.Form.{on_scan, write_form}
use Rattle.definitions.specs.Departs.{Begins}
use Rattle.definitions.specs.Dimacs.{problem_form, edge_form, low_end, high_end, edge_fault, read_edges, import_network}
use Rattle.definitions.specs.DimacsText.{EdgeLine, comment_lines, edge_lines, EdgesFit, judged_edges, Front, front_text, FrontFits, judged_front}
use Rattle.lists.specs.Outcomes.{refused-also}
use Rattle.lists.specs.Parts.{Part, part-first, part-second, part-start}
use Rattle.text_theory.specs.Sized.{sized-also}
use Rattle.text_theory.specs.DimacsLines.{problem-line, edge-line, noted, noted_read}

-- The `e` lines that stand from p on, and `more` to come.
edges-decide : (edges : List EdgeLine) (more : ℕ) (text : List ℕ) (n : ℕ) (lows highs : List ℕ) (p at number place : ℕ) → EdgesFit edges
    → Part text p (edge_lines edges) at → judged_edges n lows highs edges ≡ refused number place
    → read_edges text n lows highs p (length edges + more) ≡ refused number place
unfolding read_edges judged_edges edge_lines on_scan
edges-decide [] more text n lows highs p at number place fits part e = let z : ◌≡◌ {A = ℕ} 0 1 = cc in absurd (omega arith)
edges-decide (edge ∷ edges) more text n lows highs p at number place (notes_fit, small_u, small_v, fits) part e =
    let u = edge.u in
    let v = edge.v in
    let notes = comment_lines edge.notes in
    let written = write_form edge_form (u ∷ v ∷ []) in
    let line = noted edge.notes edge_form u v in
    let whole : Part text p (line ++ edge_lines edges) at = rw (append_assoc notes written (edge_lines edges)) part in
    let s = p + length line in
    let fault = edge_fault n lows highs u v in
    let count : suc (length edges) + more ≡ suc (length edges + more) = omega arith in
    rw (
      count,
      noted_read edge.notes edge_form u v text p s edge-line notes_fit small_u small_v (part-first text line (edge_lines edges) p at whole),
    )
    (refused-also (ltb 0 fault) fault (length lows) _ _ number place e
    (edges-decide edges more text n (lows ++ (low_end u v ∷ [])) (highs ++ (high_end u v ∷ [])) s at number place fits
    (part-second text line (edge_lines edges) p at whole)))

pub front-decides : (text : List ℕ) (front : Front) (room_lows room_highs room_states number place : ℕ) → FrontFits front
    → Begins (front_text front) text → judged_front front room_lows room_highs room_states ≡ refused number place
    → import_network text room_lows room_highs room_states ≡ refused number place
unfolding import_network judged_front front_text on_scan
front-decides text front room_lows room_highs room_states number place fits (rest, joined) e =
    let n = front.relays in
    let m = front.links in
    let edges = front.edges in
    let notes = comment_lines front.notes in
    let written = write_form problem_form (n ∷ m ∷ []) in
    let line = noted front.notes problem_form n m in
    let all = line ++ edge_lines edges in
    let same : all ≡ front_text front = append_assoc notes written (edge_lines edges) in
    let whole : Part text 0 all (length all) =
    rw (joined ∙ ap (λ (l : List ℕ). l ++ rest) (sym same)) (part-start all rest) in
    let p = 0 + length line in
    let more = m - length edges in
    let count : m ≡ length edges + more = omega (arith, fits.few) in
    rw (noted_read front.notes problem_form n m text 0 p problem-line fits.notes fits.relays fits.links
    (part-first text line (edge_lines edges) 0 (length all) whole))
    (sized-also n m room_lows room_highs room_states (judged_edges n [] [] edges) (read_edges text n [] [] p m) number place e
    (λ wrong.
    ap (read_edges text n [] [] p) count
    ∙ edges-decide edges more text n [] [] p (length all) number place fits.edges (part-second text line (edge_lines edges) 0 (length all) whole)
    wrong))
