-- The refusals of the import: with room for every network their numbers are 3 to 7 and 18, at any place. Assumes nothing.
use Rattle.std.specs.Prelude.{ℕ, zero, suc, ◌≤◌, ◌||◌, List, [], ◌∷◌, ◌++◌, ◌⊎◌, ◌≡◌, refl, eqb, ltb, length, get_or}
use Rattle.std.proofs.Common.{inl, inr, arith}
use Rattle.definitions.specs.Lists.{outside, some_below}
use Rattle.definitions.specs.Network.{is_pair}
use Rattle.definitions.specs.Dimacs.{problem_form, edge_form, scan_comments, scan_line, low_end, high_end, edge_fault, read_edges, import_network}
use Rattle.lists.specs.RefusedWithin.{RefusedAs, refuse-as, pick-within}
use Rattle.text_theory.specs.Refusals.{on-scan-anywhere}
use Rattle.text_theory.specs.Sized.{sized-as}

abbrev pub ImportRefusal : (number place : ℕ) → Type 0
ImportRefusal number place = (number ≤ 7) ⊎ (number ≡ 18)

edge-within : (n : ℕ) (lows highs : List ℕ) (u v : ℕ) → edge_fault n lows highs u v ≤ 7
unfolding edge_fault
edge-within n lows highs u v =
    pick-within 7 (outside 1 n u || outside 1 n v) 5 _ (omega arith)
    (pick-within 7 (eqb u v) 6 _ (omega arith)
    (pick-within 7 (some_below (is_pair lows highs (low_end u v) (high_end u v)) (length lows)) 7 0 (omega arith) (omega arith)))

edges-within : (count : ℕ) (text : List ℕ) (n : ℕ) (lows highs : List ℕ) (p : ℕ) → RefusedAs ImportRefusal (read_edges text n lows highs p count)
unfolding read_edges
edges-within zero text n lows highs p =
    on-scan-anywhere ImportRefusal 18 (scan_comments text p (length text)) _ (λ _. inr refl)
    (λ _ q. refuse-as ImportRefusal (ltb q (length text)) 18 q _ (λ _. inr refl) (λ _. tt))
edges-within (suc count) text n lows highs p =
    on-scan-anywhere ImportRefusal 18 (scan_line text edge_form p) _ (λ _. inr refl)
    (λ ends q.
    let u = get_or ends 0 0 in
    let v = get_or ends 1 0 in
    let fault = edge_fault n lows highs u v in
    refuse-as ImportRefusal (ltb 0 fault) fault (length lows) _ (λ _. inl (edge-within n lows highs u v))
    (λ _. edges-within count text n (lows ++ (low_end u v ∷ [])) (highs ++ (high_end u v ∷ [])) q))

pub import-within : (text : List ℕ) (room_lows room_highs room_states : ℕ) → 3000 ≤ room_lows → 3000 ≤ room_highs → 1000 ≤ room_states
    → RefusedAs ImportRefusal (import_network text room_lows room_highs room_states)
unfolding import_network
import-within text room_lows room_highs room_states in_lows in_highs in_states =
    on-scan-anywhere ImportRefusal 18 (scan_line text problem_form 0) _ (λ _. inr refl)
    (λ counts p.
    let n = get_or counts 0 0 in
    let m = get_or counts 1 0 in
    sized-as ImportRefusal n m room_lows room_highs room_states (read_edges text n [] [] p m) in_lows in_highs in_states
    (inl (omega arith)) (inl (omega arith)) (λ _ _. edges-within m text n [] [] p))
