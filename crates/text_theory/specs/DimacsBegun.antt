-- Where a DIMACS text is refused with 18, the bytes before begin the text of a drawing that fits. Assumes nothing.
use Rattle.std.specs.Prelude.{ℕ, zero, suc, ◌≤◌, ◌<◌, Bool, true, false, List, [], ◌∷◌, ◌++◌, ◌≡◌, refl, ltb, length, get_or, replicate}
use Rattle.std.proofs.Common.{append-nil, ◌∙◌, ap, arith}
use Rattle.std.proofs.lemmas.List.{length-replicate}
use Rattle.definitions.specs.Outcome.{refused, done, refuse_if}
use Rattle.definitions.specs.Form.{Scan, departs, reads, on_scan}
use Rattle.definitions.specs.Text.{Network, sized}
use Rattle.definitions.specs.Dimacs.{
  problem_form,
  edge_form,
  scan_comments,
  scan_line,
  low_end,
  high_end,
  edge_fault,
  read_edges,
  import_network,
}
use Rattle.definitions.specs.DimacsText.{Comment, EdgeLine, Drawing, comment_lines, dimacs_text, CommentsFit, EdgesFit, DrawingFits}
use Rattle.lists.specs.Outcomes.{refused-later}
use Rattle.lists.specs.Parts.{Part}
use Rattle.text_theory.specs.Sized.{sized-refused}
use Rattle.text_theory.specs.LineBegun.{BeginsAt, begins-first, begins-later}
use Rattle.text_theory.specs.Comments.{read-comments, comments-begin}
use Rattle.text_theory.specs.DimacsLines.{problem-line, edge-line, noted, read-noted, noted-begins}
use Rattle.text_theory.specs.DimacsRoundTrip.{edges_and_last, edge-then, problem-then}
use Rattle.text_theory.specs.EdgeFaults.{fault-not-eighteen}
use Rattle.text_theory.specs.DrawnFrom.{KeptInFront, Rest, no-more, one_more, whole-drawing}

-- From p up to q the text begins the rest.
abbrev BeginsUpTo : (text : List ℕ) (q : ℕ) → ℕ → List ℕ → Type 0
BeginsUpTo text q p rest = BeginsAt text p q rest

begins-kept : (text : List ℕ) (q : ℕ) → KeptInFront text (BeginsUpTo text q)
begins-kept text q p at first rest part begun = begins-later text p at q first rest part begun

-- Lines `e 0 0` for those that are missing.
abbrev plain : EdgeLine
plain = record { notes = []; u = 0; v = 0 }

plain-fit : (count : ℕ) → EdgesFit (replicate count plain)
plain-fit zero = tt
plain-fit (suc count) = (tt, omega arith, omega arith, plain-fit count)

-- An `e` line that is begun, and lines to come behind it.
line-begun : (text : List ℕ) (notes : List Comment) (u v p q count : ℕ) → CommentsFit notes → u < 10000 → v < 10000
    → BeginsAt text p q (noted notes edge_form u v) → Rest (BeginsUpTo text q) p (suc count)
line-begun text notes u v p q count fits small_u small_v begun =
    let edge : EdgeLine = record { notes = notes; u = u; v = v } in
    let edges = replicate count plain in
    record {
      edges = edge ∷ edges;
      last = [];
      many = ap suc (length-replicate {A = EdgeLine} count plain);
      fits = (fits, small_u, small_v, plain-fit count);
      last_fits = tt;
      holds = rw (edge-then edge edges []) (begins-first text p q (noted notes edge_form u v) (edges_and_last edges []) begun);
    }

-- The comment lines behind the last `e` line, and something behind them.
end-begun : (text : List ℕ) (network : Network) (last : List Comment) (p s q : ℕ) (b : Bool) → CommentsFit last
    → Part text p (comment_lines last) s → refuse_if b 18 s (done network) ≡ refused 18 q → Rest (BeginsUpTo text q) p 0
unfolding refuse_if
end-begun text network last p s q true fits part e =
    let same : s ≡ q = cc in
    no-more (BeginsUpTo text q) p last fits (comment_lines last, [], rw same at part, append-nil (comment_lines last))
end-begun text network last p s q false fits part e = let z : ◌≡◌ {A = ℕ} 0 1 = cc in absurd (omega arith)

edges-begin : (count : ℕ) (text : List ℕ) (n : ℕ) (lows highs : List ℕ) (p q : ℕ) → p ≤ length text
    → read_edges text n lows highs p count ≡ refused 18 q → Rest (BeginsUpTo text q) p count
unfolding read_edges on_scan
edges-begin zero text n lows highs p q within e = go (scan_comments text p (length text)) refl e
  where
    network : Network
    network = record { relays = n; lows = lows; highs = highs; states = replicate n 1 }

    go : (scan : Scan) → scan_comments text p (length text) ≡ scan
        → on_scan 18 scan (λ _ s. refuse_if (ltb s (length text)) 18 s (done network)) ≡ refused 18 q
        → Rest (BeginsUpTo text q) p 0
    go (departs at) first e =
        let same : at ≡ q = cc in
        let (last, fits, begun) = comments-begin (length text) text p q within (first ∙ ap departs same) in
        no-more (BeginsUpTo text q) p last fits begun
    go (reads values s) first e =
        let (none, last, fits, part) = read-comments (length text) text p values s within first in
        end-begun text network last p s q (ltb s (length text)) fits part e
edges-begin (suc count) text n lows highs p q within e =
    go (scan_line text edge_form p) refl e (λ lows highs s. edges-begin count text n lows highs s q)
  where
    go : (scan : Scan) → scan_line text edge_form p ≡ scan
        → on_scan 18 scan
        (λ ends s. refuse_if
        (ltb 0 (edge_fault n lows highs (get_or ends 0 0) (get_or ends 1 0)))
        (edge_fault n lows highs (get_or ends 0 0) (get_or ends 1 0)) (length lows)
        (read_edges text n (lows ++ (low_end (get_or ends 0 0) (get_or ends 1 0) ∷ []))
        (highs ++ (high_end (get_or ends 0 0) (get_or ends 1 0) ∷ [])) s count)) ≡ refused 18 q
        → ((lows highs : List ℕ) (s : ℕ) → s ≤ length text → read_edges text n lows highs s count ≡ refused 18 q
        → Rest (BeginsUpTo text q) s count)
        → Rest (BeginsUpTo text q) p (suc count)
    go (departs at) first e hyp =
        let same : at ≡ q = cc in
        let line = noted-begins edge_form text p q edge-line within (first ∙ ap departs same) in
        line-begun text line.comments line.u line.v p q count line.fits line.small_u line.small_v line.begun
    go (reads values s) first e hyp =
        let u = get_or values 0 0 in
        let v = get_or values 1 0 in
        let line = read-noted edge_form text p values s edge-line within first in
        let fault = edge_fault n lows highs u v in
        let lows_then = lows ++ (low_end u v ∷ []) in
        let highs_then = highs ++ (high_end u v ∷ []) in
        let over =
        refused-later (ltb 0 fault) fault (length lows) (read_edges text n lows_then highs_then s count) 18 q e
        (fault-not-eighteen n lows highs u v) in
        one_more text (BeginsUpTo text q) line.comments u v p s count (begins-kept text q) line.fits line.small_u line.small_v
        line.part (hyp lows_then highs_then s line.part.within over.1)

-- A `p` line that is begun, and as many lines as it tells.
problem-begun : (text : List ℕ) (notes : List Comment) (n m q : ℕ) → CommentsFit notes → n < 10000 → m < 10000
    → BeginsAt text 0 q (noted notes problem_form n m)
    → (drawing : Drawing) × DrawingFits drawing × BeginsAt text 0 q (dimacs_text drawing)
problem-begun text notes n m q fits small_n small_m begun =
    let edges = replicate m plain in
    let drawing : Drawing = record { relays = n; notes = notes; edges = edges; last = [] } in
    let many : length edges ≡ m = length-replicate {A = EdgeLine} m plain in (
      drawing,
      record { notes = fits; relays = small_n; links = rw many small_m; edges = plain-fit m; last = tt },
      rw (problem-then drawing, many) (begins-first text 0 q (noted notes problem_form n m) (edges_and_last edges []) begun),
    )

pub import-begins : (text : List ℕ) (room_lows room_highs room_states q : ℕ)
    → import_network text room_lows room_highs room_states ≡ refused 18 q
    → (drawing : Drawing) × DrawingFits drawing × BeginsAt text 0 q (dimacs_text drawing)
unfolding import_network on_scan
import-begins text room_lows room_highs room_states q e = go (scan_line text problem_form 0) refl e
  where
    go : (scan : Scan) → scan_line text problem_form 0 ≡ scan
        → on_scan 18 scan
        (λ counts p. sized (get_or counts 0 0) (get_or counts 1 0) room_lows room_highs room_states
        (read_edges text (get_or counts 0 0) [] [] p (get_or counts 1 0))) ≡ refused 18 q
        → (drawing : Drawing) × DrawingFits drawing × BeginsAt text 0 q (dimacs_text drawing)
    go (departs at) first e =
        let same : at ≡ q = cc in
        let line = noted-begins problem_form text 0 q problem-line (omega arith) (first ∙ ap departs same) in
        problem-begun text line.comments line.u line.v q line.fits line.small_u line.small_v line.begun
    go (reads values p) first e =
        let n = get_or values 0 0 in
        let m = get_or values 1 0 in
        let line = read-noted problem_form text 0 values p problem-line (omega arith) first in
        let (pass, edges) =
        sized-refused n m room_lows room_highs room_states (read_edges text n [] [] p m) 18 q e (λ x. omega arith) (λ x. omega arith)
        (λ x. omega arith) in
        whole-drawing text (BeginsUpTo text q) line.comments n m p (begins-kept text q) line.fits line.small_u line.small_v
        line.part (edges-begin m text n [] [] p q line.part.within edges)
