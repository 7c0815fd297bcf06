-- Reports taken one behind the other, as a first pass over their lines does (document 02, #108): what is told so far, and where the
-- numbers of each relay stand. `numbers` is what stands at an offset, `at` the offset kept for a relay, 0 for none. Assumes nothing.
use Rattle.std.specs.Prelude.{ℕ, ◌<◌, Bool, true, false, ◌||◌, List, [], ◌∷◌, ◌++◌, ◌≡◌, refl, eqb, ltb, leb}
use Rattle.std.proofs.lemmas.List.{map-append}
use Rattle.std.proofs.Common.{append-nil, sym, ◌∙◌, ap, ap₂, subst, arith, eq-eqb, ne_eqb, lt-ltb, le-ltb}
use Rattle.std.proofs.Math.Decide.{ℕ_discrete}
use Rattle.definitions.specs.Outcome.{pick}
use Rattle.definitions.specs.Lists.{has}
use Rattle.definitions.specs.Rising.{highs_from, lows_from}
use Rattle.definitions.specs.Reports.{Report, top_of}
use Rattle.definitions.specs.ReportSets.{repeats, reporters, beyond, seen_by, see_each_other, reported_link, reported_network}
use Rattle.definitions.specs.ReportPromise.{AllFit, AllWithin}
use Rattle.lists.specs.Tests.{or-false, or-none}
use Rattle.lists.specs.Members.{has-append}
use Rattle.lists.specs.Ascending.{Ascending}
use Rattle.lists.specs.AscendingSteps.{ascends}
use Rattle.lists.specs.Repeats.{repeats-moved}
use Rattle.lists.specs.Cursors.{Cursors, cursors-start}
use Rattle.lists.specs.Merged.{mutual_link, Merged, merged-end}
use Rattle.theory.specs.ReportedTable.{seen-sees, sees-within}
use Rattle.theory.specs.ReportOrder.{beyond-moved}

reporters-snoc : (reports : List Report) (report : Report) → reporters (reports ++ (report ∷ [])) ≡ reporters reports ++ (report.relay ∷ [])
unfolding reporters
reporters-snoc reports report = map-append (λ report. report.relay) reports (report ∷ [])

-- One report more: the tests of 20 and 5.
pub repeats-more : (reports : List Report) (report : Report)
    → repeats (reporters (reports ++ (report ∷ []))) ≡ (has (reporters reports) report.relay || repeats (reporters reports))
unfolding repeats
repeats-more reports report =
    ap repeats (reporters-snoc reports report)
    ∙ repeats-moved (reporters reports) report.relay []
    ∙ ap (λ (l : List ℕ). has l report.relay || repeats l) (append-nil (reporters reports))

pub beyond-more : (n : ℕ) (reports : List Report) (report : Report)
    → beyond n (reports ++ (report ∷ [])) ≡ (leb n (top_of report) || beyond n reports)
unfolding beyond
beyond-more n reports report =
    beyond-moved n reports report [] ∙ ap (λ (l : List Report). leb n (top_of report) || beyond n l) (append-nil reports)

has_more : (reports : List Report) (report : Report) (r : ℕ)
    → has (reporters (reports ++ (report ∷ []))) r ≡ (has (reporters reports) r || eqb report.relay r)
unfolding has
has_more reports report r =
    ap (λ (l : List ℕ). has l r) (reporters-snoc reports report)
    ∙ has-append (reporters reports) (report.relay ∷ []) r
    ∙ ap (λ (t : Bool). has (reporters reports) r || t) (or-none (eqb report.relay r))

-- What r sees with one report more: as before where r has reported, else by that report.
seen_more : (reports : List Report) (report : Report) (r : ℕ)
    → seen_by (reports ++ (report ∷ [])) r ≡ pick (has (reporters reports) r) (seen_by reports r) (pick (eqb report.relay r) report.sees [])
unfolding seen_by reporters has
seen_more [] report r = refl
seen_more (one ∷ reports) report r = go (eqb one.relay r) (seen_more reports report r)
  where
    go : (t : Bool)
        → seen_by (reports ++ (report ∷ [])) r ≡ pick (has (reporters reports) r) (seen_by reports r) (pick (eqb report.relay r) report.sees [])
        → pick t one.sees (seen_by (reports ++ (report ∷ [])) r)
        ≡ pick (t || has (reporters reports) r) (pick t one.sees (seen_by reports r)) (pick (eqb report.relay r) report.sees [])
    go true ih = refl
    go false ih = ih

-- Who has not reported sees nothing.
none_seen : (reports : List Report) (r : ℕ) → has (reporters reports) r ≡ false → seen_by reports r ≡ []
unfolding seen_by reporters has
none_seen [] r e = refl
none_seen (report ∷ reports) r e =
    let both = or-false (eqb report.relay r) (has (reporters reports) r) e in
    rw both.0 (none_seen reports r both.1)

-- Of every relay: an offset is kept exactly if it has reported, and its numbers stand there.
pub record Placed (numbers : ℕ → List ℕ) (reports : List Report) (at : ℕ → ℕ) : Type 0 where
  pub marks : (r : ℕ) → ltb 0 (at r) ≡ has (reporters reports) r
  pub holds : (r : ℕ) → numbers (at r) ≡ seen_by reports r

-- At the start no offset is kept, and at offset 0 stands no number.
pub placed-start : (numbers : ℕ → List ℕ) (at : ℕ → ℕ) → numbers 0 ≡ [] → ((r : ℕ) → at r ≡ 0) → Placed numbers [] at
unfolding reporters has seen_by
placed-start numbers at none empty =
    record { marks = λ r. le-ltb 0 (at r) (omega (arith, empty r)); holds = λ r. ap numbers (empty r) ∙ none }

-- A report of a relay that has not reported yet, whose numbers stand at `place`.
pub placed-step : (numbers : ℕ → List ℕ) (reports : List Report) (at after : ℕ → ℕ) (report : Report) (place : ℕ)
    → Placed numbers reports at → has (reporters reports) report.relay ≡ false → 0 < place → numbers place ≡ report.sees
    → after report.relay ≡ place → ((r : ℕ) → (r ≡ report.relay → ⊥) → after r ≡ at r)
    → Placed numbers (reports ++ (report ∷ [])) after
placed-step numbers reports at after report place inv new some stands stored kept =
    record { marks = λ r. marks r (ℕ_discrete r report.relay); holds = λ r. holds r (ℕ_discrete r report.relay) }
  where
    there : (r : ℕ) → r ≡ report.relay → after r ≡ place
    there r e = ap after e ∙ stored

    fresh : (r : ℕ) → r ≡ report.relay → has (reporters reports) r ≡ false
    fresh r e = subst (λ (x : ℕ). has (reporters reports) x ≡ false) (sym e) new

    marks : (r : ℕ) → Dec (r ≡ report.relay) → ltb 0 (after r) ≡ has (reporters (reports ++ (report ∷ []))) r
    marks r (yes e) =
        lt-ltb 0 (after r) (omega (arith, there r e))
        ∙ sym (has_more reports report r ∙ ap₂ ◌||◌ (fresh r e) (eq-eqb report.relay r (sym e)))
    marks r (no other) =
        ap (ltb 0) (kept r other)
        ∙ inv.marks r
        ∙ sym (has_more reports report r ∙ ap (λ (t : Bool). has (reporters reports) r || t) (ne_eqb report.relay r (λ s. other (sym s)))
        ∙ or-none (has (reporters reports) r))

    as_before : (t : Bool) (l : List ℕ) → (t ≡ false → l ≡ []) → pick t l [] ≡ l
    as_before true l e = refl
    as_before false l e = sym (e refl)

    holds : (r : ℕ) → Dec (r ≡ report.relay) → numbers (after r) ≡ seen_by (reports ++ (report ∷ [])) r
    holds r (yes e) =
        ap numbers (there r e)
        ∙ stands
        ∙ sym (seen_more reports report r ∙ rw (fresh r e, eq-eqb report.relay r (sym e)))
    holds r (no other) =
        ap numbers (kept r other)
        ∙ inv.holds r
        ∙ sym (seen_more reports report r ∙ rw (ne_eqb report.relay r (λ s. other (sym s)))
        (as_before (has (reporters reports) r) (seen_by reports r) (none_seen reports r)))

-- What is seen rises, so that the merge can begin where the numbers stand.
pub seen-ascends : (reports : List Report) → AllFit reports → (r : ℕ) → Ascending (seen_by reports r)
unfolding seen_by
seen-ascends [] fits r = tt
seen-ascends (report ∷ reports) fits r = go (eqb report.relay r) (seen-ascends reports fits.1 r)
  where
    go : (t : Bool) → Ascending (seen_by reports r) → Ascending (pick t report.sees (seen_by reports r))
    go true ih = ascends report.sees fits.0.rises
    go false ih = ih

pub placed-cursors : (numbers : ℕ → List ℕ) (reports : List Report) (at : ℕ → ℕ) → AllFit reports → Placed numbers reports at
    → Cursors (seen_by reports) 0 (λ b. numbers (at b))
placed-cursors numbers reports at fits inv = cursors-start (seen_by reports) (λ b. numbers (at b)) (seen-ascends reports fits) inv.holds

-- What is seen is below n where all numbers are.
pub seen-within : (n : ℕ) (reports : List Report) → AllWithin n reports → (a x : ℕ) → has (seen_by reports a) x ≡ true → x < n
seen-within n reports within a x h = (sees-within n reports a x within (seen-sees reports a x h)).1

-- The merge over what is seen ends with the links of the network.
reported-mutual : (reports : List Report) → reported_link reports ≡ mutual_link (seen_by reports)
unfolding reported_link see_each_other
reported-mutual reports = refl

pub merged-network : (n : ℕ) (reports : List Report) (a : ℕ) (lows highs : List ℕ) → Merged (seen_by reports) n a 0 lows highs
    → ((reported_network n reports).lows ≡ lows) × ((reported_network n reports).highs ≡ highs)
unfolding reported_network
merged-network n reports a lows highs inv =
    let whole = merged-end (seen_by reports) n a lows highs inv in (
      ap (λ (link : ℕ → ℕ → Bool). lows_from n link 0 n) (reported-mutual reports) ∙ whole.0,
      ap (λ (link : ℕ → ℕ → Bool). highs_from n link 0 n) (reported-mutual reports) ∙ whole.1,
    )
