-- Refusal 14 of a sheet's text is at the first byte that departs from every sheet's text, and no other refusal is given to it.
-- Assumes nothing.
use Rattle.std.specs.Prelude.{ℕ, zero, suc, ◌+◌, Bool, true, false, List, [], ◌∷◌, ◌++◌, ◌≡◌, refl, eqb, ltb, length, get_or}
use Rattle.std.proofs.Common.{sym, ◌∙◌, ap, arith}
use Rattle.definitions.specs.Outcome.{pick, Outcome, refused, done, refuse_if}
use Rattle.definitions.specs.Departs.{DepartsFrom}
use Rattle.definitions.specs.Form.{Scan, departs, reads, byte_at, scan_form, on_scan}
use Rattle.definitions.specs.Text.{end_form}
use Rattle.definitions.specs.Plan.{sheet_form, kept_form, Sheet, sheet_text}
use Rattle.definitions.specs.SheetForm.{route_front, over_front, scan_numbers, read_kept, read_routes, read_sheet}
use Rattle.definitions.specs.RefusalFourteen.{SheetFits, RefusalFourteen}
use Rattle.text_theory.specs.SheetRoundTrip.{sheet-read}
use Rattle.text_theory.specs.SheetWritten.{sheet-written}
use Rattle.text_theory.specs.SheetLooks.{sheet-looks}
use Rattle.text_theory.specs.SheetBegun.{sheet-begins}
use Rattle.text_theory.specs.FirstDeparture.{departs-once, whole-never-departs, departs-there}

on-scan-fourteen : (scan : Scan) (next : List ℕ → ℕ → Outcome Sheet) (number place : ℕ)
    → ((values : List ℕ) (q : ℕ) → next values q ≡ refused number place → number ≡ 14)
    → on_scan 14 scan next ≡ refused number place → number ≡ 14
unfolding on_scan
on-scan-fourteen (departs q) next number place after e = cc
on-scan-fourteen (reads values q) next number place after e = after values q e

end-fourteen : (b : Bool) (s : ℕ) (sheet : Sheet) (number place : ℕ) → refuse_if b 14 s (done sheet) ≡ refused number place
    → number ≡ 14
unfolding refuse_if
end-fourteen true s sheet number place e = cc
end-fourteen false s sheet number place e = let z : ◌≡◌ {A = ℕ} 0 1 = cc in absurd (omega arith)

kept-fourteen : (text : List ℕ) (from to k : ℕ) (rs os : List (List ℕ)) (p number place : ℕ)
    → read_kept text from to k rs os p ≡ refused number place → number ≡ 14
unfolding read_kept
kept-fourteen text from to k rs os p number place =
    on-scan-fourteen (scan_form text kept_form p) _ number place
    (λ kept q. on-scan-fourteen (scan_form text end_form q) _ number place
    (λ _ s. end-fourteen (ltb s (length text)) s _ number place))

routes-fourteen : (most : ℕ) (text : List ℕ) (from to k : ℕ) (rs os : List (List ℕ)) (p number place : ℕ)
    → read_routes text from to k rs os p most ≡ refused number place → number ≡ 14
unfolding read_routes
routes-fourteen zero text from to k rs os p number place e = kept-fourteen text from to k rs os p number place e
routes-fourteen (suc most) text from to k rs os p number place e =
    go (eqb (byte_at text (p + 1)) 114) e (λ rs os s. routes-fourteen most text from to k rs os s number place)
  where
    go : (t : Bool)
        → pick t
        (on_scan 14 (scan_numbers text route_front p) λ route q.
        on_scan 14 (scan_numbers text over_front q) λ over s.
        read_routes text from to k (rs ++ (route ∷ [])) (os ++ (over ∷ [])) s most)
        (read_kept text from to k rs os p) ≡ refused number place
        → ((rs os : List (List ℕ)) (s : ℕ) → read_routes text from to k rs os s most ≡ refused number place → number ≡ 14)
        → number ≡ 14
    go true e hyp =
        on-scan-fourteen (scan_numbers text route_front p) _ number place
        (λ route q. on-scan-fourteen (scan_numbers text over_front q) _ number place
        (λ over s. hyp (rs ++ (route ∷ [])) (os ++ (over ∷ [])) s)) e
    go false e hyp = kept-fourteen text from to k rs os p number place e

-- No other refusal is given to a sheet's text.
refused-as-fourteen : (text : List ℕ) (number place : ℕ) → read_sheet text ≡ refused number place → number ≡ 14
unfolding read_sheet
refused-as-fourteen text number place =
    on-scan-fourteen (scan_form text sheet_form 0) _ number place
    (λ wish p. routes-fourteen (length text) text (get_or wish 0 0) (get_or wish 1 0) (get_or wish 2 0) [] [] p number place)

-- A text that is refused at q departs there: a sheet's text that is alike up to and with byte q would be refused too, and is not.
refused-departs : (text : List ℕ) (q : ℕ) → read_sheet text ≡ refused 14 q → DepartsFrom SheetFits sheet_text text q
refused-departs text q e =
    let (sheet, fits, begun) = sheet-begins text q e in
    departs-there SheetFits sheet_text text q sheet fits begun
    (λ other others_fit _ longer alike. never other others_fit (sheet-looks text (sheet_text other) q longer alike e))
    (λ other others_fit same. never other others_fit (ap read_sheet same ∙ e))
  where
    never : (other : Sheet) → SheetFits other → read_sheet (sheet_text other) ≡ refused 14 q → ⊥
    never other others_fit f =
        let clash : ◌≡◌ {A = Outcome Sheet} (refused 14 q) (done other) = sym f ∙ sheet-read other others_fit in
        let z : ◌≡◌ {A = ℕ} 0 1 = cc in
        omega arith

departs-refused : (text : List ℕ) (q : ℕ) → DepartsFrom SheetFits sheet_text text q → read_sheet text ≡ refused 14 q
departs-refused text q here = go (read_sheet text) refl
  where
    go : (outcome : Outcome Sheet) → read_sheet text ≡ outcome → outcome ≡ refused 14 q
    go (done sheet) e =
        let written = sheet-written text sheet e in
        absurd (whole-never-departs SheetFits sheet_text text q sheet written.0 written.1 here)
    go (refused number place) e =
        let fourteen : number ≡ 14 = refused-as-fourteen text number place e in
        let there = refused-departs text place (e ∙ ap (λ (n : ℕ). refused n place) fourteen) in
        let same : place ≡ q = departs-once SheetFits sheet_text text place q there here in
        rw (fourteen, same)

pub refusal-fourteen : RefusalFourteen
refusal-fourteen = record { exactly = λ text q. (refused-departs text q, departs-refused text q); alone = refused-as-fourteen }
