-- Out lines and the states of relays, relay by relay, as the reader goes through them.
-- `told` are the states told so far, `ss` those to come, from relay r on. Assumes nothing.
use Rattle.std.specs.Prelude.{ℕ, zero, suc, ◌+◌, ◌-◌, ◌≤◌, ◌<◌, List, [], ◌∷◌, ◌++◌, ◌≡◌, refl, eqb, length, get_or, replicate}
use Rattle.std.proofs.Common.{append-nil, append_assoc, sym, ◌∙◌, ap, add-zero, arith, length-append}
use Rattle.std.proofs.lemmas.List.{length-replicate, replicate-append-replicate}
use Rattle.std.proofs.Math.Seq.{append_snoc, get_or-append_seam}
use Rattle.definitions.specs.Outcome.{pick}
use Rattle.definitions.specs.Text.{withdrawn, all_states, out_line, out_lines}
use Rattle.theory.specs.Accepted.{ProperStates}

-- The lines of these states, from relay r on.
unfoldable pub outs : (r : ℕ) (ss : List ℕ) → List ℕ
outs r [] = []
outs r (s ∷ ss) = out_line s r ++ outs (r + 1) ss

pub out_lines-outs : (ss states : List ℕ) → out_lines (states ++ ss) (length states) (length ss) ≡ outs (length states) ss
unfolding out_lines outs
out_lines-outs [] states = refl
out_lines-outs (s ∷ ss) states =
    let after : out_lines (states ++ s ∷ ss) (length states + 1) (length ss) ≡ outs (length states + 1) ss =
    rw (append_snoc states s ss, length-append states (s ∷ [])) at (out_lines-outs ss (states ++ (s ∷ []))) in
    rw (get_or-append_seam states s ss 0, after)

-- Relays in service have no line.
pub outs-serving : (count r : ℕ) (ss : List ℕ) → outs r (replicate count 1 ++ ss) ≡ outs (r + count) ss
unfolding outs out_line
outs-serving zero r ss = rw (add-zero r)
outs-serving (suc count) r ss =
    let next : r + 1 + count ≡ r + suc count = omega arith in
    outs-serving count (r + 1) ss ∙ ap (λ (i : ℕ). outs i ss) next

-- Every state is 0 or 1.
abbrev pub EachState : List ℕ → Type 0
EachState [] = Unit {0}
EachState (s ∷ ss) = (s ≤ 1) × EachState ss

pub each-serving : (count : ℕ) (ss : List ℕ) → EachState ss → EachState (replicate count 1 ++ ss)
each-serving zero ss each = each
each-serving (suc count) ss each = (omega arith, each-serving count ss each)

each-entry : (ss : List ℕ) → EachState ss → (i : ℕ) → get_or ss i 0 ≤ 1
each-entry [] each i = omega arith
each-entry (s ∷ ss) each zero = each.0
each-entry (s ∷ ss) each (suc i) = each-entry ss each.1 i

pub each-proper : (n : ℕ) (ss : List ℕ) → length ss ≡ n → EachState ss → ProperStates n ss
each-proper n ss long each = record { long = long; either = λ r h. each-entry ss each r }

entry-each : (ss : List ℕ) → ((i : ℕ) → i < length ss → get_or ss i 0 ≤ 1) → EachState ss
entry-each [] entry = tt
entry-each (s ∷ ss) entry = (entry 0 (omega arith), entry-each ss (λ i h. entry (suc i) (omega arith)))

pub proper-each : (n : ℕ) (ss : List ℕ) → ProperStates n ss → EachState ss
proper-each n ss proper = entry-each ss (λ i h. proper.either i (omega (arith, proper.long)))

-- All are in service.
pub all-serve : (n : ℕ) → ProperStates n (replicate n 1)
all-serve n =
    let ones : List ℕ = replicate n 1 in
    each-proper n ones (length-replicate {A = ℕ} n 1) (rw (append-nil ones) at (each-serving n [] tt))

-- What is told behind a line of relay r.
pub length-withdrawn : (told : List ℕ) (r : ℕ) → length told ≤ r → length (withdrawn told r) ≡ r + 1
unfolding withdrawn
length-withdrawn told r h =
    let ones : List ℕ = replicate (r - length told) 1 in
    omega (
      arith,
      length-append told (ones ++ (0 ∷ [])),
      length-append ones (0 ∷ []),
      length-replicate {A = ℕ} (r - length told) 1,
    )

pub withdrawn-then : (told : List ℕ) (r : ℕ) (ss : List ℕ)
    → withdrawn told r ++ ss ≡ told ++ (replicate (r - length told) 1 ++ (0 ∷ ss))
unfolding withdrawn
withdrawn-then told r ss =
    let ones : List ℕ = replicate (r - length told) 1 in
    append_assoc told (ones ++ (0 ∷ [])) ss ∙ ap (λ (l : List ℕ). told ++ l) (append_snoc ones 0 ss)

-- Nothing is left to tell.
all_told : (n : ℕ) (told : List ℕ) → length told ≡ n → all_states n told ≡ told
unfolding all_states
all_told n told full =
    let none : n - length told ≡ 0 = omega arith in
    rw none (append-nil told)

all-withdrawn : (told : List ℕ) (r : ℕ) → length told ≤ r → all_states (r + 1) (withdrawn told r) ≡ all_states r told ++ (0 ∷ [])
unfolding all_states withdrawn
all-withdrawn told r h =
    all_told (r + 1) (withdrawn told r) (length-withdrawn told r h)
    ∙ sym (append_assoc told (replicate (r - length told) 1) (0 ∷ []))

all-serving : (told : List ℕ) (r : ℕ) → length told ≤ r → all_states (r + 1) told ≡ all_states r told ++ (1 ∷ [])
unfolding all_states
all-serving told r h =
    let more : r + 1 - length told ≡ (r - length told) + 1 = omega arith in
    rw (more, ← (replicate-append-replicate {A = ℕ} (r - length told) 1 1)) (sym (append_assoc told (replicate (r - length told) 1) (1 ∷ [])))

-- What is told when the lines of these states are read behind `told`.
unfoldable pub tell : (told : List ℕ) (r : ℕ) (ss : List ℕ) → List ℕ
tell told r [] = told
tell told r (s ∷ ss) = pick (eqb s 0) (tell (withdrawn told r) (r + 1) ss) (tell told (r + 1) ss)

-- It tells just these states.
pub all_tell : (ss told : List ℕ) (r : ℕ) → length told ≤ r → EachState ss
    → all_states (r + length ss) (tell told r ss) ≡ all_states r told ++ ss
unfolding tell
all_tell [] told r h each = rw (add-zero r) (sym (append-nil (all_states r told)))
all_tell (zero ∷ ss) told r h each =
    let count : r + suc (length ss) ≡ r + 1 + length ss = omega arith in
    rw count
    (all_tell ss (withdrawn told r) (r + 1) (omega (arith, length-withdrawn told r h)) each.1
    ∙ rw (all-withdrawn told r h) (append_snoc (all_states r told) 0 ss))
all_tell (suc zero ∷ ss) told r h each =
    let count : r + suc (length ss) ≡ r + 1 + length ss = omega arith in
    rw count
    (all_tell ss told (r + 1) (omega arith) each.1 ∙ rw (all-serving told r h) (append_snoc (all_states r told) 1 ss))
all_tell (suc (suc s) ∷ ss) told r h each = absurd (omega (arith, each.0))

-- The whole of a list of states is told by its lines.
pub all-told-states : (n : ℕ) (states : List ℕ) → ProperStates n states → all_states n (tell [] 0 states) ≡ states
unfolding all_states
all-told-states n states proper =
    let count : 0 + length states ≡ n = omega (arith, proper.long) in
    rw count at (all_tell states [] 0 (omega arith) (proper-each n states proper))
