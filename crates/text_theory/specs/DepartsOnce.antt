-- A text departs from a line at one byte at most, and the reader tells exactly that byte.
-- Assumes nothing.
use Rattle.std.specs.Prelude.{ℕ, ◌+◌, ◌-◌, ◌≤◌, ◌<◌, Bool, true, false, List, [], ◌++◌, ◌↔◌, ◌≡◌, refl, ltb, length, take, drop}
use Rattle.std.proofs.Common.{append-nil, sym, ◌∙◌, ap, arith, length-append, ltb-true, ltb-false}
use Rattle.definitions.specs.Form.{Item, Scan, departs, reads, scan_form, write_form, Fits}
use Rattle.definitions.specs.Departs.{DepartsAt}
use Rattle.lists.specs.Parts.{Part, part-taken, part-start, part_end, take-further}
use Rattle.text_theory.specs.Forms.{Line, written-scanned}
use Rattle.text_theory.specs.NetworkLines.{line_read}
use Rattle.text_theory.specs.DepartsFromForm.{departs-at}

-- Before a byte up to which the form is begun the text does not depart.
not-before : (text : List ℕ) (items : List Item) (p q r : ℕ) → DepartsAt text items p q → q < r → r ≤ length text
    → (values rest : List ℕ) → Fits items values → take (r - p) (drop p text) ++ rest ≡ write_form items values → ⊥
not-before text items p q r here later within values rest fits joined =
    here.breaks (omega arith) values (drop (q + 1 - p) (take (r - p) (drop p text)) ++ rest) fits
    (take-further (q + 1 - p) (r - p) (drop p text) rest (omega (arith, here.behind)) ∙ joined)

pub departs-once : (text : List ℕ) (items : List Item) (p q r : ℕ) → DepartsAt text items p q → DepartsAt text items p r → q ≡ r
departs-once text items p q r here there = go (ltb q r) refl (ltb r q) refl
  where
    go : (a : Bool) → ltb q r ≡ a → (b : Bool) → ltb r q ≡ b → q ≡ r
    go true a b c =
        let (values, rest, fits, missing, joined) = there.begins in
        absurd (not-before text items p q r here (ltb-true q r a) there.within values rest fits joined)
    go false a true c =
        let (values, rest, fits, missing, joined) = here.begins in
        absurd (not-before text items p r q there (ltb-true r q c) here.within values rest fits joined)
    go false a false c = omega (arith, ltb-false q r a, ltb-false r q c)

-- No line is the begin of another of the same form.
whole-line : (items : List Item) (values others more : List ℕ) → Line items → Fits items values → Fits items others
    → write_form items values ++ more ≡ write_form items others → 0 < length more → ⊥
whole-line items values others more line fits others_fit joined longer =
    let written = write_form items values in
    let one : scan_form (written ++ more) items 0 ≡ reads values (length written) =
    line_read items values (written ++ more) 0 (length written) line fits (part-start written more) in
    let other : scan_form (write_form items others) items 0 ≡ reads others (length (write_form items others)) =
    line_read items others (write_form items others) 0 (length (write_form items others)) line others_fit
    (part_end [] (write_form items others)) in
    let both : reads values (length written) ≡ reads others (length (write_form items others)) =
    sym one ∙ ap (λ (t : List ℕ). scan_form t items 0) joined ∙ other in
    let same : length written ≡ length (write_form items others) = cc in
    omega (arith, length-append written more, ap length joined)

pub departs-exactly : (items : List Item) (text : List ℕ) (p q : ℕ) → Line items → p ≤ length text
    → (scan_form text items p ≡ departs q) ↔ DepartsAt text items p q
departs-exactly items text p q line within =
    (departs-at items text p q line.0 within, λ here. go here (scan_form text items p) refl)
  where
    clash : DepartsAt text items p q → (values : List ℕ) (r : ℕ) → Fits items values → Part text p (write_form items values) r
        → (b : Bool) → ltb q r ≡ b → ⊥
    clash here values r fits part true test =
        not-before text items p q r here (ltb-true q r test) part.within values [] fits
        (append-nil (take (r - p) (drop p text)) ∙ part-taken text (write_form items values) p r part)
    clash here values r fits part false test =
        let (others, rest, others_fit, missing, joined) = here.begins in
        let between = drop (r - p) (take (q - p) (drop p text)) in
        let first : take (r - p) (drop p text) ≡ write_form items values = part-taken text (write_form items values) p r part in
        let later : r - p ≤ q - p = omega (arith, ltb-false q r test) in
        whole-line items values others (between ++ rest) line fits others_fit
        (rw (← first) (take-further (r - p) (q - p) (drop p text) rest later ∙ joined))
        (omega (arith, length-append between rest))

    go : DepartsAt text items p q → (scan : Scan) → scan_form text items p ≡ scan → scan ≡ departs q
    go here (departs r) e = ap departs (departs-once text items p r q (departs-at items text p r line.0 within e) here)
    go here (reads values r) e =
        let read = written-scanned items text p values r line.0 within e in
        absurd (clash here values r read.0 read.1 (ltb q r) refl)
