-- The same reports in another order (document 02, #108): the same relays report, the same see each other, and the same network comes of
-- them. Assumes nothing.
use Prim.Native.Nat.{ℕ}
use Rattle.std.specs.Prelude.{Bool, true, ◌&&◌, ◌||◌, List, [], ◌∷◌, ◌++◌, ◌⊎◌, ◌≡◌, refl, eqb, leb}
use Rattle.std.proofs.lemmas.List.{map-append}
use Rattle.std.proofs.Common.{inl, inr, sym, ◌∙◌, subst}
use Rattle.std.proofs.Math.Path.{ap, ap₂, fun_ext}
use Rattle.std.proofs.Math.Dec.{ltb}
use Rattle.definitions.specs.Outcome.{pick}
use Rattle.definitions.specs.Lists.{table, has, NoRepeat}
use Rattle.definitions.specs.Rising.{highs_from, lows_from}
use Rattle.definitions.specs.Reports.{Report, top_of}
use Rattle.definitions.specs.ReportSets.{repeats, reporters, beyond, seen_by, see_each_other, reported_link, reported_state, reported_network}
use Rattle.definitions.specs.ReportPromise.{AllFit, Sees, Shuffled}
use Rattle.lists.specs.Tests.{tests_same}
use Rattle.lists.specs.Repeats.{or-past, has-moved, repeats-moved}
use Rattle.theory.specs.ReportedTable.{seen-sees, sees-seen}

-- What reports tell, whatever their order.
pub record SameReports (one other : List Report) : Type 0 where
  pub reporting : (r : ℕ) → has (reporters one) r ≡ has (reporters other) r
  pub twice : repeats (reporters one) ≡ repeats (reporters other)
  pub far : (n : ℕ) → beyond n one ≡ beyond n other
  pub there : (a b : ℕ) → Sees one a b → Sees other a b
  pub back : (a b : ℕ) → Sees other a b → Sees one a b
  pub fit : AllFit one → AllFit other

none-same : SameReports [] []
none-same = record { reporting = λ r. refl; twice = refl; far = λ n. refl; there = λ a b s. s; back = λ a b s. s; fit = λ f. f }

-- Behind the same report.
cons_same : (report : Report) (one other : List Report) → SameReports one other → SameReports (report ∷ one) (report ∷ other)
unfolding reporters has repeats beyond
cons_same report one other same =
    record {
      reporting = λ r. ap (λ (t : Bool). eqb report.relay r || t) (same.reporting r);
      twice = ap₂ ◌||◌ (same.reporting report.relay) same.twice;
      far = λ n. ap (λ (t : Bool). leb n (top_of report) || t) (same.far n);
      there = λ a b s. onward (Sees one a b) (Sees other a b) a b (same.there a b) s;
      back = λ a b s. onward (Sees other a b) (Sees one a b) a b (same.back a b) s;
      fit = λ f. (f.0, same.fit f.1);
    }
  where
    onward : (A B : Type 0) (a b : ℕ) → (A → B)
        → ((report.relay ≡ a) × (has report.sees b ≡ true)) ⊎ A → ((report.relay ≡ a) × (has report.sees b ≡ true)) ⊎ B
    onward A B a b f (inl here) = inl here
    onward A B a b f (inr later) = inr (f later)

-- A report taken from the front into the middle.
pub beyond-moved : (n : ℕ) (before : List Report) (report : Report) (after : List Report)
    → beyond n (before ++ (report ∷ after)) ≡ beyond n (report ∷ (before ++ after))
unfolding beyond
beyond-moved n [] report after = refl
beyond-moved n (first ∷ before) report after =
    ap (λ (t : Bool). leb n (top_of first) || t) (beyond-moved n before report after)
    ∙ or-past (leb n (top_of first)) (leb n (top_of report)) (beyond n (before ++ after))

sees-in : (before : List Report) (report : Report) (after : List Report) (a b : ℕ)
    → Sees (report ∷ (before ++ after)) a b → Sees (before ++ (report ∷ after)) a b
sees-in [] report after a b s = s
sees-in (first ∷ before) report after a b (inl here) = inr (sees-in before report after a b (inl here))
sees-in (first ∷ before) report after a b (inr (inl here)) = inl here
sees-in (first ∷ before) report after a b (inr (inr later)) = inr (sees-in before report after a b (inr later))

sees-out : (before : List Report) (report : Report) (after : List Report) (a b : ℕ)
    → Sees (before ++ (report ∷ after)) a b → Sees (report ∷ (before ++ after)) a b
sees-out [] report after a b s = s
sees-out (first ∷ before) report after a b (inl here) = inr (inl here)
sees-out (first ∷ before) report after a b (inr later) = go (sees-out before report after a b later)
  where
    go : Sees (report ∷ (before ++ after)) a b → Sees (report ∷ (first ∷ (before ++ after))) a b
    go (inl here) = inl here
    go (inr s) = inr (inr s)

fits_in : (before : List Report) (report : Report) (after : List Report) → AllFit (report ∷ (before ++ after)) → AllFit (before ++ (report ∷ after))
fits_in [] report after fits = fits
fits_in (first ∷ before) report after fits = (fits.1.0, fits_in before report after (fits.0, fits.1.1))

reporters-in : (before : List Report) (report : Report) (after : List Report)
    → reporters (before ++ (report ∷ after)) ≡ reporters before ++ (report.relay ∷ reporters after)
unfolding reporters
reporters-in before report after = map-append (λ report. report.relay) before (report ∷ after)

reporters-out : (before : List Report) (report : Report) (after : List Report)
    → reporters (report ∷ (before ++ after)) ≡ report.relay ∷ (reporters before ++ reporters after)
unfolding reporters
reporters-out before report after = ap (λ (l : List ℕ). report.relay ∷ l) (map-append (λ report. report.relay) before after)

moved_same : (one before : List Report) (report : Report) (after : List Report) → SameReports one (report ∷ (before ++ after))
    → SameReports one (before ++ (report ∷ after))
moved_same one before report after same =
    let inside = reporters-in before report after in
    let outside = reporters-out before report after in
    record {
      reporting = λ r.
          same.reporting r
          ∙ ap (λ (l : List ℕ). has l r) outside
          ∙ sym (has-moved (reporters before) report.relay (reporters after) r)
          ∙ ap (λ (l : List ℕ). has l r) (sym inside);
      twice =
          same.twice
          ∙ ap repeats outside
          ∙ sym (repeats-moved (reporters before) report.relay (reporters after))
          ∙ ap repeats (sym inside);
      far = λ n. same.far n ∙ sym (beyond-moved n before report after);
      there = λ a b s. sees-in before report after a b (same.there a b s);
      back = λ a b s. same.back a b (sees-out before report after a b s);
      fit = λ f. fits_in before report after (same.fit f);
    }

pub shuffled-same : (one other : List Report) → Shuffled one other → SameReports one other
shuffled-same [] other shuffled = subst (SameReports []) (sym shuffled) none-same
shuffled-same (report ∷ one) other (before, after, stands, rest) =
    subst (SameReports (report ∷ one)) (sym stands)
    (moved_same (report ∷ one) before report after (cons_same report one (before ++ after) (shuffled-same one (before ++ after) rest)))

module _ (one other : List Report) (same : SameReports one other) (once : NoRepeat (reporters one)) (unique : NoRepeat (reporters other)) where
  seen_same : (a b : ℕ) → has (seen_by one a) b ≡ has (seen_by other a) b
  seen_same a b =
      tests_same (has (seen_by one a) b) (has (seen_by other a) b)
      (λ h. sees-seen other a b unique (same.there a b (seen-sees one a b h)))
      (λ h. sees-seen one a b once (same.back a b (seen-sees other a b h)))

  link-same : reported_link one ≡ reported_link other
  unfolding reported_link see_each_other
  link-same = fun_ext λ a. fun_ext λ b. ap₂ (λ (s t : Bool). ltb a b && (s && t)) (seen_same a b) (seen_same b a)

  state-same : reported_state one ≡ reported_state other
  unfolding reported_state
  state-same = fun_ext λ r. ap (λ (t : Bool). pick t 1 0) (same.reporting r)

  pub network-same : (n : ℕ) → reported_network n one ≡ reported_network n other
  unfolding reported_network
  network-same n =
      ap₂
      (λ (link : ℕ → ℕ → Bool) (state : ℕ → ℕ).
      record { relays = n; lows = lows_from n link 0 n; highs = highs_from n link 0 n; states = table state 0 n })
      link-same state-same
