-- Where a DIMACS text is refused with 18, so is every text that is alike up to and with that byte, where both have it.
-- Assumes nothing.
use Rattle.std.specs.Prelude.{ℕ, zero, suc, ◌≤◌, List, [], ◌∷◌, ◌++◌, ◌≡◌, ltb, length, get_or, replicate}
use Rattle.std.proofs.Common.{◌∙◌, arith}
use Rattle.definitions.specs.Outcome.{Outcome, refused, done, refuse_if}
use Rattle.definitions.specs.Text.{Network, sized}
use Rattle.definitions.specs.Dimacs.{
  problem_form,
  edge_form,
  scan_comments,
  scan_line,
  low_end,
  high_end,
  edge_fault,
  read_edges,
  import_network,
}
use Rattle.lists.specs.Outcomes.{refused-later, refuse-not}
use Rattle.text_theory.specs.SameReadings.{on-scan-agree, end-agrees}
use Rattle.text_theory.specs.Sized.{sized-refused, sized-passed}
use Rattle.text_theory.specs.CommentsAgree.{AlikeWith, comments-agree, line-agrees}
use Rattle.text_theory.specs.EdgeFaults.{fault-not-eighteen}

edges-agree : (count : ℕ) (text other : List ℕ) (n : ℕ) (lows highs : List ℕ) (p q : ℕ) → AlikeWith text other q
    → read_edges text n lows highs p count ≡ refused 18 q
    → (p ≤ q) × (read_edges other n lows highs p count ≡ refused 18 q)
unfolding read_edges
edges-agree zero text other n lows highs p q both e =
    let network : Network = record { relays = n; lows = lows; highs = highs; states = replicate n 1 } in
    on-scan-agree 18 p q (scan_comments text p (length text)) (scan_comments other p (length other))
    (λ _ s. refuse_if (ltb s (length text)) 18 s (done network)) (λ _ s. refuse_if (ltb s (length other)) 18 s (done network))
    (comments-agree text other p q both)
    (λ _ s _. end-agrees 18 text other network s q both.longer) e
edges-agree (suc count) text other n lows highs p q both e =
    on-scan-agree 18 p q (scan_line text edge_form p) (scan_line other edge_form p) (next text) (next other)
    (line-agrees text other edge_form p q both)
    (λ ends s _ f.
    let u = get_or ends 0 0 in
    let v = get_or ends 1 0 in
    let lows_then = lows ++ (low_end u v ∷ []) in
    let highs_then = highs ++ (high_end u v ∷ []) in
    let fault = edge_fault n lows highs u v in
    let over =
    refused-later (ltb 0 fault) fault (length lows) (read_edges text n lows_then highs_then s count) 18 q f
    (fault-not-eighteen n lows highs u v) in
    let rest = edges-agree count text other n lows_then highs_then s q both over.1 in
    (rest.0, refuse-not (ltb 0 fault) fault (length lows) (read_edges other n lows_then highs_then s count) over.0 ∙ rest.1))
    e
  where
    next : (t ends : List ℕ) (s : ℕ) → Outcome Network
    next t ends s =
        let u = get_or ends 0 0 in
        let v = get_or ends 1 0 in
        let fault = edge_fault n lows highs u v in
        refuse_if (ltb 0 fault) fault (length lows)
        (read_edges t n (lows ++ (low_end u v ∷ [])) (highs ++ (high_end u v ∷ [])) s count)

pub import-agrees : (text other : List ℕ) (room_lows room_highs room_states q : ℕ) → AlikeWith text other q
    → import_network text room_lows room_highs room_states ≡ refused 18 q → import_network other room_lows room_highs room_states ≡ refused 18 q
unfolding import_network
import-agrees text other room_lows room_highs room_states q both e =
    (on-scan-agree 18 0 q (scan_line text problem_form 0) (scan_line other problem_form 0) (next text) (next other)
    (line-agrees text other problem_form 0 q both)
    (λ counts p _ f.
    let n = get_or counts 0 0 in
    let m = get_or counts 1 0 in
    let (pass, edges) =
    sized-refused n m room_lows room_highs room_states (read_edges text n [] [] p m) 18 q f (λ x. omega arith) (λ x. omega arith)
    (λ x. omega arith) in
    let rest = edges-agree m text other n [] [] p q both edges in
    (rest.0, sized-passed n m room_lows room_highs room_states (read_edges other n [] [] p m) pass ∙ rest.1))
    e).1
  where
    next : (t counts : List ℕ) (p : ℕ) → Outcome Network
    next t counts p =
        let n = get_or counts 0 0 in
        let m = get_or counts 1 0 in
        sized n m room_lows room_highs room_states (read_edges t n [] [] p m)
