-- From what the two passes gave to what is said of the sheet. Assumes nothing.
use Prim.Native.Nat.{ℕ, zero, suc, ◌+◌, ◌≤◌, ◌<◌}
use mathlib.Core.Bool.{Bool, true, false, ◌&&◌}
use mathlib.Core.List.{List, [], ◌∷◌, ◌++◌, append-nil}
use mathlib.Core.Logic.{◌⊎◌, inl, inr}
use mathlib.Core.Path.{◌≡◌, sym, ◌∙◌, ap, subst}
use native.Mathlib.Omega.{arith}
use lib.Dec.{eqb, ltb}
use lib.ListN.{length}
use lib.Seq.{append_snoc}
use borrow.Author.Tests.{eq-eqb, ne_eqb}
use Rattle.definitions.specs.Outcome.{pick, refused, done, Answer, refuse_if, and_then}
use Rattle.definitions.specs.Lists.{outside, count}
use Rattle.definitions.specs.Network.{table_check, Accepted}
use Rattle.definitions.specs.Forests.{marks_of}
use Rattle.definitions.specs.Form.{byte_at, Scan, reads, scan_form, on_scan}
use Rattle.definitions.specs.Text.{end_form}
use Rattle.definitions.specs.Plan.{sheet_form, kept_form, Sheet}
use Rattle.definitions.specs.SheetForm.{route_front, over_front, scan_numbers, read_kept, read_routes, read_sheet}
use Rattle.definitions.specs.SheetTest.{routes_hold, sheet_holds, yes_or_no, sheet_answer}
use Rattle.lists.specs.Outcomes.{not-refused, refuse-not, then-done}
use Rattle.lists.specs.SameOutcomes.{done-same, done-then, refused-then}
use Rattle.lists.specs.Tests.{eqb-sym}
use Rattle.lists.specs.Ranges.{below, above, inside}
use Rattle.network.specs.Tables.{of_table}
use Rattle.network.specs.declared.Table.{Table}
use Rattle.text_theory.specs.RoundTrip.{on-scan-done}
use Rattle.verify.specs.Offsets.{behind_or}
use Rattle.verify.specs.Summary.{summary, summary_of}
use Rattle.verify.specs.Walks.{LinesAt, RoutesWalked}
use Rattle.verify.specs.Gives.{form_says}
use Rattle.verify.specs.Answers.{after_check}
use Rattle.verify.specs.declared.form.Form.{Form}

-- The routes of a sheet that was read stand in its text, behind those read before.
record Stand (text : List ℕ) (routes overs : List (List ℕ)) (p : ℕ) (sheet : Sheet) : Type 0 where
  later : List (List ℕ)
  later_overs : List (List ℕ)
  routes_are : sheet.routes ≡ routes ++ later
  overs_are : sheet.overs ≡ overs ++ later_overs
  lines : LinesAt text p later later_overs

module _ (text : List ℕ) (from to k : ℕ) where
  kept-stand : (routes overs : List (List ℕ)) (p : ℕ) (sheet : Sheet) → read_kept text from to k routes overs p ≡ done sheet
      → Stand text routes overs p sheet
  unfolding read_kept
  kept-stand routes overs p sheet e =
      let (kept, q, first, second) = on-scan-done 14 (scan_form text kept_form p) _ sheet e in
      let (none, s, third, fourth) = on-scan-done 14 (scan_form text end_form q) _ sheet second in
      let last = (not-refused (ltb s (length text)) 14 s _ sheet fourth).1 in
      let same = done-same _ sheet last in
      record {
        later = [];
        later_overs = [];
        routes_are = sym (ap (λ (t : Sheet). t.routes) same) ∙ sym (append-nil routes);
        overs_are = sym (ap (λ (t : Sheet). t.overs) same) ∙ sym (append-nil overs);
        lines = tt;
      }

  routes-stand : (most : ℕ) (routes overs : List (List ℕ)) (p : ℕ) (sheet : Sheet) → read_routes text from to k routes overs p most ≡ done sheet
      → Stand text routes overs p sheet
  unfolding read_routes
  routes-stand zero routes overs p sheet e = kept-stand routes overs p sheet e
  routes-stand (suc most) routes overs p sheet e = go (eqb (byte_at text (p + 1)) 114) e (routes-stand most)
    where
      go : (b : Bool)
          → pick b
          (on_scan 14 (scan_numbers text route_front p) λ route q. on_scan 14 (scan_numbers text over_front q) λ over s.
          read_routes text from to k (routes ++ (route ∷ [])) (overs ++ (over ∷ [])) s most)
          (read_kept text from to k routes overs p) ≡ done sheet
          → ((rs os : List (List ℕ)) (s : ℕ) (t : Sheet) → read_routes text from to k rs os s most ≡ done t → Stand text rs os s t)
          → Stand text routes overs p sheet
      go false f hyp = kept-stand routes overs p sheet f
      go true f hyp =
          let (route, q, first, second) = on-scan-done 14 (scan_numbers text route_front p) _ sheet f in
          let (over, s, third, fourth) = on-scan-done 14 (scan_numbers text over_front q) _ sheet second in
          let rest = hyp (routes ++ (route ∷ [])) (overs ++ (over ∷ [])) s sheet fourth in
          record {
            later = route ∷ rest.later;
            later_overs = over ∷ rest.later_overs;
            routes_are = rest.routes_are ∙ append_snoc routes route rest.later;
            overs_are = rest.overs_are ∙ append_snoc overs over rest.later_overs;
            lines = (q, s, first, third, rest.lines);
          }

-- A text of the form that says this has a sheet that says it, whose routes stand in the text.
record Summed (text : List ℕ) (from to k routes kept first : ℕ) : Type 0 where
  sheet : Sheet
  read : read_sheet text ≡ done sheet
  from_is : sheet.from ≡ from
  to_is : sheet.to ≡ to
  k_is : sheet.k ≡ k
  many : length sheet.routes ≡ routes
  kept_is : sheet.kept ≡ kept
  lines : LinesAt text first sheet.routes sheet.overs

offset-behind : (scan : Scan) (values : List ℕ) (p : ℕ) → scan ≡ reads values p → behind_or scan 0 ≡ p
unfolding behind_or
offset-behind scan values p e = rw e

summed : (text : List ℕ) (from to k routes kept first : ℕ) → summary_of text ≡ done (from ∷ to ∷ k ∷ routes ∷ kept ∷ first ∷ [])
    → Summed text from to k routes kept first
unfolding summary_of read_sheet
summed text from to k routes kept first e =
    let (sheet, read, last) = done-then (read_sheet text) (summary (behind_or (scan_form text sheet_form 0) 0)) _ e in
    let same = done-same _ _ last in
    let (wish, p, head, rest) = on-scan-done 14 (scan_form text sheet_form 0) _ sheet read in
    let stand = routes-stand text _ _ _ (length text) [] [] p sheet rest in
    let here : behind_or (scan_form text sheet_form 0) 0 ≡ p = offset-behind (scan_form text sheet_form 0) wish p head in
    let at : first ≡ p = cc in
    record {
      sheet = sheet;
      read = read;
      from_is = cc;
      to_is = cc;
      k_is = cc;
      many = cc;
      kept_is = cc;
      lines =
          subst (λ (q : ℕ). LinesAt text q sheet.routes sheet.overs) (sym at)
          (subst (λ (rs : List (List ℕ)). LinesAt text p rs sheet.overs) (sym stand.routes_are)
          (subst (LinesAt text p stand.later) (sym stand.overs_are) stand.lines));
    }

-- A text that departs from the form.
pub departs-there : (n : ℕ) (lows highs states text : List ℕ) (number place : ℕ) → summary_of text ≡ refused number place
    → refused number place ≡ after_check n lows highs states text
unfolding summary_of after_check and_then
departs-there n lows highs states text number place e =
    go (refused-then (read_sheet text) (summary (behind_or (scan_form text sheet_form 0) 0)) number place e)
  where
    go : (read_sheet text ≡ refused number place)
        ⊎ ((sheet : Sheet) × (read_sheet text ≡ done sheet)
        × (summary (behind_or (scan_form text sheet_form 0) 0) sheet ≡ refused number place))
        → refused number place ≡ after_check n lows highs states text
    go (inl there) = sym (rw there)
    go (inr found) = let never = found.2 in let z : ◌≡◌ {A = ℕ} 0 1 = cc in absurd (omega arith)

module _ (table : Table) (text : List ℕ) (form : Form) (said : summary_of text ≡ form_says form) where
  abbrev here : Summed text form.wish.from.0 form.wish.to.0 form.wish.k form.routes form.kept form.first
  here = summed text form.wish.from.0 form.wish.to.0 form.wish.k form.routes form.kept form.first said

  abbrev answer : Answer
  answer = of_table after_check table text

  -- How many links Cut keeps.
  abbrev pub cut : ℕ
  cut = count (eqb 1) (of_table marks_of table form.wish.k)

  -- The tests that are left once k is from 1 to 32.
  abbrev tests : Bool
  tests =
      eqb form.routes form.wish.k
      && (of_table routes_hold table form.wish.from.0 form.wish.to.0 (eqb form.wish.from.0) false here.sheet.routes here.sheet.overs
      && eqb form.kept cut)

  says : answer ≡ refuse_if (outside 1 32 form.wish.k) 15 0 (done (yes_or_no tests))
  unfolding after_check sheet_holds
  says =
      then-done (read_sheet text) _ here.sheet here.read
      ∙ rw (here.many, here.from_is, here.to_is, here.k_is, here.kept_is)

  refuses : outside 1 32 form.wish.k ≡ true → refused 15 0 ≡ answer
  unfolding refuse_if
  refuses e = sym (says ∙ rw e)

  pub other-k : (form.wish.k < 1) ⊎ ((1 ≤ form.wish.k) × (32 < form.wish.k)) → refused 15 0 ≡ answer
  other-k (inl low) = refuses (below 1 32 form.wish.k low)
  other-k (inr high) = refuses (above 1 32 form.wish.k high.0 high.1)

  module _ (some : 1 ≤ form.wish.k) (few : form.wish.k ≤ 32) where
    answers : (b : Bool) → tests ≡ b → done (yes_or_no b) ≡ answer
    answers b e = sym (says ∙ refuse-not (outside 1 32 form.wish.k) 15 0 _ (inside 1 32 form.wish.k some few) ∙ rw e)

    pub other-count : (form.routes ≡ form.wish.k → ⊥) → done (yes_or_no false) ≡ answer
    other-count differ = answers false (rw (ne_eqb form.routes form.wish.k differ))

    module _ (same : form.routes ≡ form.wish.k) (r : Bool)
        (all : RoutesWalked table text form.wish.from.0 form.wish.to.0 (eqb form.wish.from.0) form.routes form.first r) where
      -- What the second pass said is the test of the routes.
      walked : of_table routes_hold table form.wish.from.0 form.wish.to.0 (eqb form.wish.from.0) false here.sheet.routes here.sheet.overs ≡ r
      walked = sym (all here.sheet.routes here.sheet.overs here.many here.lines)

      pub routes-fail : r ≡ false → done (yes_or_no false) ≡ answer
      routes-fail fails = answers false (rw (eq-eqb form.routes form.wish.k same, walked, fails))

      pub kept-says : r ≡ true → (found : ℕ) → found ≡ cut → done (yes_or_no (eqb found form.kept)) ≡ answer
      kept-says holds found counted =
          answers (eqb found form.kept)
          (rw (eq-eqb form.routes form.wish.k same, walked, holds) (eqb-sym form.kept cut ∙ ap (λ (x : ℕ). eqb x form.kept) (sym counted)))

-- The table check comes first.
module _ (n : ℕ) (lows highs states text : List ℕ) where
  pub table-refused : (number place : ℕ) → table_check n lows highs states ≡ refused number place
      → refused number place ≡ sheet_answer n lows highs states text
  unfolding sheet_answer and_then
  table-refused number place e = sym (rw e)

  pub table-passed : Accepted n lows highs states → after_check n lows highs states text ≡ sheet_answer n lows highs states text
  unfolding sheet_answer after_check and_then
  table-passed e = sym (rw e)
