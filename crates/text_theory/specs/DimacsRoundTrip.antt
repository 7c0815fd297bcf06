-- The round trip of a DIMACS text, one way: a text that was written for a drawing gets what the drawing's numbers decide, whatever its
-- comments say. Assumes nothing.
use Rattle.std.specs.Prelude.{ℕ, ◌+◌, List, [], ◌∷◌, ◌++◌, ◌≡◌, ltb, length}
use Rattle.std.proofs.Common.{append_assoc, sym, ◌∙◌, ap, arith, le-ltb}
use Rattle.definitions.specs.Outcome.{refuse_if}
use Rattle.definitions.specs.Form.{on_scan, write_form}
use Rattle.definitions.specs.Text.{sized}
use Rattle.definitions.specs.Dimacs.{problem_form, edge_form, low_end, high_end, edge_fault, read_edges, import_network}
use Rattle.definitions.specs.DimacsText.{
  Comment,
  EdgeLine,
  Drawing,
  comment_lines,
  edge_lines,
  dimacs_text,
  CommentsFit,
  EdgesFit,
  DrawingFits,
  judged_edges,
  judged,
}
use Rattle.lists.specs.Outcomes.{refuse-not}
use Rattle.lists.specs.Parts.{Part, part-first, part-second, part-start, part_end}
use Rattle.text_theory.specs.Numbers.{past_end}
use Rattle.text_theory.specs.Comments.{comments-read}
use Rattle.text_theory.specs.DimacsLines.{problem-line, edge-line, noted, noted_read}

-- The text behind the `p` line.
abbrev pub edges_and_last : (edges : List EdgeLine) (last : List Comment) → List ℕ
edges_and_last edges last = edge_lines edges ++ comment_lines last

-- One line with the comment lines in front of it, and the rest.
pub edge-then : (edge : EdgeLine) (edges : List EdgeLine) (last : List Comment)
    → edges_and_last (edge ∷ edges) last ≡ noted edge.notes edge_form edge.u edge.v ++ edges_and_last edges last
unfolding edge_lines
edge-then edge edges last =
    let notes = comment_lines edge.notes in
    let line = write_form edge_form (edge.u ∷ edge.v ∷ []) in
    append_assoc notes (line ++ edge_lines edges) (comment_lines last)
    ∙ ap (λ (l : List ℕ). notes ++ l) (append_assoc line (edge_lines edges) (comment_lines last))
    ∙ sym (append_assoc notes line (edges_and_last edges last))

pub problem-then : (drawing : Drawing)
    → dimacs_text drawing
    ≡ noted drawing.notes problem_form drawing.relays (length drawing.edges) ++ edges_and_last drawing.edges drawing.last
unfolding dimacs_text
problem-then drawing =
    sym (append_assoc (comment_lines drawing.notes) (write_form problem_form (drawing.relays ∷ length drawing.edges ∷ []))
    (edges_and_last drawing.edges drawing.last))

-- Behind the links read so far the edges are judged, each behind those before it, up to the end of the text.
edges-read : (edges : List EdgeLine) (last : List Comment) (text : List ℕ) (n : ℕ) (lows highs : List ℕ) (p : ℕ) → EdgesFit edges
    → CommentsFit last → Part text p (edges_and_last edges last) (length text)
    → read_edges text n lows highs p (length edges) ≡ judged_edges n lows highs edges
unfolding read_edges judged_edges edge_lines on_scan
edges-read [] last text n lows highs p fits last_fits part =
    let end = length text in
    rw (comments-read last text p end last_fits (rw (past_end text end (omega arith))) part)
    (refuse-not (ltb end end) 18 end _ (le-ltb end end (omega arith)))
edges-read (edge ∷ edges) last text n lows highs p (notes_fit, small_u, small_v, fits) last_fits part =
    let u = edge.u in
    let v = edge.v in
    let line = noted edge.notes edge_form u v in
    let rest = edges_and_last edges last in
    let whole : Part text p (line ++ rest) (length text) = rw (edge-then edge edges last) at part in
    let s = p + length line in
    let fault = edge_fault n lows highs u v in
    rw (noted_read edge.notes edge_form u v text p s edge-line notes_fit small_u small_v
    (part-first text line rest p (length text) whole))
    (ap (refuse_if (ltb 0 fault) fault (length lows))
    (edges-read edges last text n (lows ++ (low_end u v ∷ [])) (highs ++ (high_end u v ∷ [])) s fits last_fits
    (part-second text line rest p (length text) whole)))

pub drawing-read : (drawing : Drawing) (room_lows room_highs room_states : ℕ) → DrawingFits drawing
    → import_network (dimacs_text drawing) room_lows room_highs room_states ≡ judged drawing room_lows room_highs room_states
unfolding import_network judged on_scan
drawing-read drawing room_lows room_highs room_states fits =
    let n = drawing.relays in
    let edges = drawing.edges in
    let m = length edges in
    let line = noted drawing.notes problem_form n m in
    let rest = edges_and_last edges drawing.last in
    let text = line ++ rest in
    let p = length line in
    rw (
      problem-then drawing,
      noted_read drawing.notes problem_form n m text 0 p problem-line fits.notes fits.relays fits.links
          (part-start line rest),
    )
    (ap (sized n m room_lows room_highs room_states)
    (edges-read edges drawing.last text n [] [] p fits.edges fits.last (part_end line rest)))
