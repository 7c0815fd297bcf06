-- The round trip of a DIMACS text, the other way: what is imported is the text of a drawing that fits. Assumes nothing.
use Rattle.std.specs.Prelude.{ℕ, zero, suc, ◌≤◌, List, [], ◌∷◌, ◌++◌, ◌≡◌, ltb, length, get_or, replicate}
use Rattle.std.proofs.Common.{arith, ltb-false}
use Rattle.definitions.specs.Outcome.{done, refuse_if}
use Rattle.definitions.specs.Text.{Network, sized}
use Rattle.definitions.specs.Dimacs.{
  problem_form,
  edge_form,
  scan_comments,
  scan_line,
  low_end,
  high_end,
  edge_fault,
  read_edges,
  import_network,
}
use Rattle.definitions.specs.DimacsText.{Drawing, comment_lines, dimacs_text, DrawingFits}
use Rattle.lists.specs.Outcomes.{not-refused}
use Rattle.lists.specs.Parts.{Part, part-append, part-whole}
use Rattle.text_theory.specs.RoundTrip.{on-scan-done}
use Rattle.text_theory.specs.Sized.{sized-done}
use Rattle.text_theory.specs.Comments.{read-comments}
use Rattle.text_theory.specs.DimacsLines.{problem-line, edge-line, read-noted}
use Rattle.text_theory.specs.DrawnFrom.{KeptInFront, Rest, no-more, one_more, whole-drawing}

-- The whole rest of the text from p on.
abbrev Stands : (text : List ℕ) → ℕ → List ℕ → Type 0
Stands text p rest = Part text p rest (length text)

stands-kept : (text : List ℕ) → KeptInFront text (Stands text)
stands-kept text p at first rest part stands = part-append text first rest p at (length text) part stands

last-stands : (text rest : List ℕ) (p q : ℕ) → q ≡ length text → Part text p rest q → Stands text p rest
last-stands text rest p q end part = rw end at part

read-edges : (count : ℕ) (text : List ℕ) (n : ℕ) (lows highs : List ℕ) (p : ℕ) (network : Network) → p ≤ length text
    → read_edges text n lows highs p count ≡ done network → Rest (Stands text) p count
unfolding read_edges
read-edges zero text n lows highs p network within e =
    let (values, q, first, second) =
    on-scan-done 18 (scan_comments text p (length text))
    (λ _ q. refuse_if (ltb q (length text)) 18 q
    (done (record { relays = n; lows = lows; highs = highs; states = replicate n 1 }))) network e in
    let (none, last, fits, part) = read-comments (length text) text p values q within first in
    let over = not-refused (ltb q (length text)) 18 q _ network second in
    let end : q ≡ length text = omega (arith, ltb-false q (length text) over.0, part.within) in
    no-more (Stands text) p last fits (last-stands text (comment_lines last) p q end part)
read-edges (suc count) text n lows highs p network within e =
    let (values, q, first, second) =
    on-scan-done 18 (scan_line text edge_form p)
    (λ ends q. refuse_if
    (ltb 0 (edge_fault n lows highs (get_or ends 0 0) (get_or ends 1 0)))
    (edge_fault n lows highs (get_or ends 0 0) (get_or ends 1 0)) (length lows)
    (read_edges text n (lows ++ (low_end (get_or ends 0 0) (get_or ends 1 0) ∷ [])) (highs ++ (high_end (get_or ends 0 0) (get_or ends 1 0) ∷ []))
    q count)) network e in
    let u = get_or values 0 0 in
    let v = get_or values 1 0 in
    let line = read-noted edge_form text p values q edge-line within first in
    let fault = edge_fault n lows highs u v in
    let lows_then = lows ++ (low_end u v ∷ []) in
    let highs_then = highs ++ (high_end u v ∷ []) in
    let over = not-refused (ltb 0 fault) fault (length lows) (read_edges text n lows_then highs_then q count) network second in
    one_more text (Stands text) line.comments u v p q count (stands-kept text) line.fits line.small_u line.small_v line.part
    (read-edges count text n lows_then highs_then q network line.part.within over.1)

pub import-written : (text : List ℕ) (room_lows room_highs room_states : ℕ) (network : Network)
    → import_network text room_lows room_highs room_states ≡ done network
    → (drawing : Drawing) × DrawingFits drawing × (dimacs_text drawing ≡ text)
unfolding import_network
import-written text room_lows room_highs room_states network e =
    let (values, p, first, second) =
    on-scan-done 18 (scan_line text problem_form 0)
    (λ counts p. sized (get_or counts 0 0) (get_or counts 1 0) room_lows room_highs room_states
    (read_edges text (get_or counts 0 0) [] [] p (get_or counts 1 0))) network e in
    let n = get_or values 0 0 in
    let m = get_or values 1 0 in
    let line = read-noted problem_form text 0 values p problem-line (omega arith) first in
    let passed = sized-done n m room_lows room_highs room_states (read_edges text n [] [] p m) network second in
    let (drawing, fits, stands) =
    whole-drawing text (Stands text) line.comments n m p (stands-kept text) line.fits line.small_u line.small_v line.part
    (read-edges m text n [] [] p network line.part.within passed.1) in
    (drawing, fits, part-whole text (dimacs_text drawing) stands)
