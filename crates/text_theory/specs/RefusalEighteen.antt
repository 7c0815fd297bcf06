-- Refusal 18 of a DIMACS text is at the first byte that departs from every drawing's text, where the numbers of the lines before it pass.
-- Assumes nothing.
use Rattle.std.specs.Prelude.{ℕ, List, [], ◌↔◌, ◌≡◌, refl, length}
use Rattle.std.proofs.Math.Logic.{by_cases}
use Rattle.std.proofs.Common.{sym, ◌∙◌, ap, arith}
use Rattle.std.proofs.Math.Decide.{ℕ_discrete}
use Rattle.definitions.specs.Outcome.{Outcome, refused, done}
use Rattle.definitions.specs.Departs.{DepartsFrom}
use Rattle.definitions.specs.Text.{Network}
use Rattle.definitions.specs.Dimacs.{import_network}
use Rattle.definitions.specs.DimacsText.{Drawing, DrawingFits, dimacs_text, judged_edges, judged, Front, judged_front}
use Rattle.definitions.specs.ImportPromise.{NumbersPass}
use Rattle.text_theory.specs.Sized.{sized-refused}
use Rattle.text_theory.specs.FirstDeparture.{departs-once, whole-never-departs, departs-there}
use Rattle.text_theory.specs.DimacsRoundTrip.{drawing-read}
use Rattle.text_theory.specs.JudgedEdges.{judged-not-eighteen}
use Rattle.text_theory.specs.DimacsRead.{import-written}
use Rattle.text_theory.specs.DimacsBegun.{import-begins}
use Rattle.text_theory.specs.DimacsAgree.{import-agrees}
use Rattle.text_theory.specs.FrontDecides.{front-decides}
use Rattle.text_theory.specs.FrontRefused.{front-refused}

-- The text of a drawing that fits is not refused with 18.
never-eighteen : (drawing : Drawing) (room_lows room_highs room_states q : ℕ) → DrawingFits drawing
    → import_network (dimacs_text drawing) room_lows room_highs room_states ≡ refused 18 q → ⊥
unfolding judged
never-eighteen drawing room_lows room_highs room_states q fits e =
    let n = drawing.relays in
    let edges = drawing.edges in
    let (pass, wrong) =
    sized-refused n (length edges) room_lows room_highs room_states (judged_edges n [] [] edges) 18 q
    (sym (drawing-read drawing room_lows room_highs room_states fits) ∙ e) (λ x. omega arith) (λ x. omega arith) (λ x. omega arith) in
    judged-not-eighteen edges n [] [] q wrong

-- Nor do the numbers of lines at the front give cause for 18.
front-never-eighteen : (front : Front) (room_lows room_highs room_states q : ℕ) → judged_front front room_lows room_highs room_states ≡ refused 18 q → ⊥
unfolding judged_front
front-never-eighteen front room_lows room_highs room_states q e =
    let n = front.relays in
    let (pass, wrong) =
    sized-refused n front.links room_lows room_highs room_states (judged_edges n [] [] front.edges) 18 q e (λ x. omega arith)
    (λ x. omega arith) (λ x. omega arith) in
    judged-not-eighteen front.edges n [] [] q wrong

refused-departs : (text : List ℕ) (room_lows room_highs room_states q : ℕ)
    → import_network text room_lows room_highs room_states ≡ refused 18 q → DepartsFrom DrawingFits dimacs_text text q
refused-departs text room_lows room_highs room_states q e =
    let (drawing, fits, begun) = import-begins text room_lows room_highs room_states q e in
    departs-there DrawingFits dimacs_text text q drawing fits begun
    (λ other others_fit inside longer alike. never-eighteen other room_lows room_highs room_states q others_fit
    (import-agrees text (dimacs_text other) room_lows room_highs room_states q
    (record { inside = inside; longer = longer; alike = alike }) e))
    (λ other others_fit same. never-eighteen other room_lows room_highs room_states q others_fit
    (ap (λ (t : List ℕ). import_network t room_lows room_highs room_states) same ∙ e))

-- Where the numbers of the lines at the front pass, no other refusal is given.
eighteen-alone : (text : List ℕ) (room_lows room_highs room_states number place : ℕ) → NumbersPass text room_lows room_highs room_states
    → import_network text room_lows room_highs room_states ≡ refused number place → number ≡ 18
eighteen-alone text room_lows room_highs room_states number place pass e =
    by_cases (ℕ_discrete number 18) (λ same. same)
    (λ other.
    let found = front-refused text room_lows room_highs room_states number place other e in
    let (network, good) = pass found.front found.fits found.begins in
    let clash : ◌≡◌ {A = Outcome Network} (refused number place) (done network) = sym found.judges ∙ good in
    let z : ◌≡◌ {A = ℕ} 0 1 = cc in
    absurd (omega arith))

departs-refused : (text : List ℕ) (room_lows room_highs room_states q : ℕ) → DepartsFrom DrawingFits dimacs_text text q
    → NumbersPass text room_lows room_highs room_states → import_network text room_lows room_highs room_states ≡ refused 18 q
departs-refused text room_lows room_highs room_states q here pass = go (import_network text room_lows room_highs room_states) refl
  where
    go : (outcome : Outcome Network) → import_network text room_lows room_highs room_states ≡ outcome → outcome ≡ refused 18 q
    go (done network) e =
        let (drawing, fits, written) = import-written text room_lows room_highs room_states network e in
        absurd (whole-never-departs DrawingFits dimacs_text text q drawing fits written here)
    go (refused number place) e =
        let eighteen : number ≡ 18 = eighteen-alone text room_lows room_highs room_states number place pass e in
        let there = refused-departs text room_lows room_highs room_states place (e ∙ ap (λ (n : ℕ). refused n place) eighteen) in
        let same : place ≡ q = departs-once DrawingFits dimacs_text text place q there here in
        rw (eighteen, same)

pub refused-eighteen-exactly : (text : List ℕ) (room_lows room_highs room_states q : ℕ)
    → (import_network text room_lows room_highs room_states ≡ refused 18 q)
    ↔ (DepartsFrom DrawingFits dimacs_text text q × NumbersPass text room_lows room_highs room_states)
refused-eighteen-exactly text room_lows room_highs room_states q = (
  λ e. (refused-departs text room_lows room_highs room_states q e, alone e),
  λ both. departs-refused text room_lows room_highs room_states q both.0 both.1,
)
  where
    -- Numbers that do not pass are refused, and not with 18.
    alone : import_network text room_lows room_highs room_states ≡ refused 18 q → NumbersPass text room_lows room_highs room_states
    alone e front fits begins = go (judged_front front room_lows room_highs room_states) refl
      where
        go : (outcome : Outcome Network) → judged_front front room_lows room_highs room_states ≡ outcome
            → (network : Network) × (judged_front front room_lows room_highs room_states ≡ done network)
        go (done network) f = (network, f)
        go (refused number place) f =
            let both : ◌≡◌ {A = Outcome Network} (refused 18 q) (refused number place) =
            sym e ∙ front-decides text front room_lows room_highs room_states number place fits begins f in
            let same : number ≡ 18 = cc in
            absurd (front-never-eighteen front room_lows room_highs room_states place (f ∙ ap (λ (n : ℕ). refused n place) same))
