-- The network that reports make (document 02, #108): linked are just the relays that see each other, in service those that report, the
-- links rise, and the table is one of a network. Assumes nothing.
use Rattle.std.specs.Prelude.{ℕ, ◌+◌, ◌≤◌, ◌<◌, Bool, ◌&&◌, List, [], ◌∷◌, ◌⊎◌, ◌≡◌, ltb, leb, length}
use Rattle.std.proofs.Math.Bool.{true, false}
use Rattle.std.proofs.Common.{inl, inr, sym, ◌∙◌, subst}
use Rattle.std.proofs.Math.Path.{refl, ap}
use Rattle.std.proofs.Math.Decide.{dec_lt}
use native.Mathlib.Omega.{arith}
use borrow.Author.Tests.{eqb-true, eq-eqb, ltb-true, lt-ltb, leb-false}
use Rattle.std.proofs.Math.Dec.{eqb}
use Rattle.std.proofs.Math.ListN.{get_or, get_or-eq_default}
use Rattle.definitions.specs.Outcome.{pick}
use Rattle.definitions.specs.Lists.{table, has, greatest, NoRepeat}
use Rattle.definitions.specs.Network.{linked, serves, Accepted}
use Rattle.definitions.specs.Rising.{highs_from, lows_from, Rising}
use Rattle.definitions.specs.Reports.{Report, top_of}
use Rattle.definitions.specs.ReportSets.{reporters, beyond, seen_by, see_each_other, reported_link, reported_state}
use Rattle.definitions.specs.ReportPromise.{AllFit, Sees, AllWithin}
use Rattle.lists.specs.Tests.{or-false, and_both, and-all}
use Rattle.lists.specs.Cases.{has_here, has_there, has-nil, has-cases}
use Rattle.lists.specs.Searches.{clash}
use Rattle.lists.specs.Greatest.{greatest-member}
use Rattle.lists.specs.Tables.{length-table, get_or-table}
use Rattle.theory.specs.Accepted.{accepted-intro}
use Rattle.theory.specs.RisingLinks.{links-rise, links-proper, linked-tested, tested-linked}

-- What a relay sees by its report is what one of the reports says of it,
pub seen-sees : (reports : List Report) (a b : ℕ) → has (seen_by reports a) b ≡ true → Sees reports a b
unfolding seen_by
seen-sees [] a b h = absurd (clash h (has-nil b))
seen-sees (report ∷ reports) a b h = go (eqb report.relay a) refl h (seen-sees reports a b)
  where
    go : (t : Bool) → eqb report.relay a ≡ t → has (pick t report.sees (seen_by reports a)) b ≡ true
        → (has (seen_by reports a) b ≡ true → Sees reports a b) → Sees (report ∷ reports) a b
    go true e h later = inl (eqb-true report.relay a e, h)
    go false e h later = inr (later h)

-- who sees reports,
pub sees-reports : (reports : List Report) (a b : ℕ) → Sees reports a b → has (reporters reports) a ≡ true
unfolding reporters
sees-reports [] a b s = absurd s
sees-reports (report ∷ reports) a b (inl here) =
    subst (λ (x : ℕ). has (reporters (report ∷ reports)) x ≡ true) here.0 (has_here report.relay (reporters reports))
sees-reports (report ∷ reports) a b (inr later) =
    has_there report.relay (reporters reports) a (sees-reports reports a b later)

-- and where each relay reports once, what one of the reports says is what is seen.
pub sees-seen : (reports : List Report) (a b : ℕ) → NoRepeat (reporters reports) → Sees reports a b → has (seen_by reports a) b ≡ true
unfolding seen_by reporters
sees-seen [] a b once s = absurd s
sees-seen (report ∷ reports) a b once (inl here) = rw (eq-eqb report.relay a here.0) here.1
sees-seen (report ∷ reports) a b once (inr later) = go (eqb report.relay a) refl (sees-seen reports a b once.1 later)
  where
    go : (t : Bool) → eqb report.relay a ≡ t → has (seen_by reports a) b ≡ true → has (pick t report.sees (seen_by reports a)) b ≡ true
    go true e h =
        absurd
        (clash (subst (λ (x : ℕ). has (reporters reports) x ≡ true) (sym (eqb-true report.relay a e)) (sees-reports reports a b later))
        once.0)
    go false e h = h

-- No relay sees itself.
pub sees-other : (reports : List Report) (a b : ℕ) → AllFit reports → Sees reports a b → a ≡ b → ⊥
sees-other [] a b fits s same = s
sees-other (report ∷ reports) a b fits (inl here) same =
    clash here.1 (subst (λ (x : ℕ). has report.sees x ≡ false) (here.0 ∙ same) fits.0.others)
sees-other (report ∷ reports) a b fits (inr later) same = sees-other reports a b fits.1 later same

-- Numbers below n.
pub not_beyond : (n : ℕ) (reports : List Report) → beyond n reports ≡ false → AllWithin n reports
unfolding beyond top_of greatest
not_beyond n [] e = tt
not_beyond n (report ∷ reports) e =
    let both = or-false (leb n (top_of report)) (beyond n reports) e in
    let top = leb-false n (top_of report) both.0 in
    (omega (arith, top), (λ b h. omega (arith, top, greatest-member report.sees b h)), not_beyond n reports both.1)

pub sees-within : (n : ℕ) (reports : List Report) (a b : ℕ) → AllWithin n reports → Sees reports a b → (a < n) × (b < n)
sees-within n [] a b within s = absurd s
sees-within n (report ∷ reports) a b within (inl here) = (omega (arith, within.0, here.0), within.1 b here.1)
sees-within n (report ∷ reports) a b within (inr later) = sees-within n reports a b within.2 later

pub reports-within : (n : ℕ) (reports : List Report) (r : ℕ) → AllWithin n reports → has (reporters reports) r ≡ true → r < n
unfolding reporters
reports-within n [] r within h = absurd (clash h (has-nil r))
reports-within n (report ∷ reports) r within h = go (has-cases report.relay (reporters reports) r h) (reports-within n reports r within.2)
  where
    go : (report.relay ≡ r) ⊎ (has (reporters reports) r ≡ true) → (has (reporters reports) r ≡ true → r < n) → r < n
    go (inl same) later = omega (arith, within.0)
    go (inr h) later = later h

-- The test of a link.
link-both : (reports : List Report) (a b : ℕ) → reported_link reports a b ≡ true
    → (a < b) × (has (seen_by reports a) b ≡ true) × (has (seen_by reports b) a ≡ true)
unfolding reported_link see_each_other
link-both reports a b e =
    let one = and_both (ltb a b) (has (seen_by reports a) b && has (seen_by reports b) a) e in
    let two = and_both (has (seen_by reports a) b) (has (seen_by reports b) a) one.1 in
    (ltb-true a b one.0, two.0, two.1)

both-link : (reports : List Report) (a b : ℕ) → a < b → has (seen_by reports a) b ≡ true → has (seen_by reports b) a ≡ true
    → reported_link reports a b ≡ true
unfolding reported_link see_each_other
both-link reports a b less p q =
    and-all (ltb a b) (has (seen_by reports a) b && has (seen_by reports b) a) (lt-ltb a b less)
    (and-all (has (seen_by reports a) b) (has (seen_by reports b) a) p q)

module _ (n : ℕ) (reports : List Report) where
  abbrev L : List ℕ
  L = lows_from n (reported_link reports) 0 n

  abbrev H : List ℕ
  H = highs_from n (reported_link reports) 0 n

  abbrev S : List ℕ
  S = table (reported_state reports) 0 n

  pub reported-rises : Rising L H
  reported-rises = links-rise n (reported_link reports)

  -- The two ends of a link see each other,
  pub linked-see : (a b : ℕ) → linked L H a b ≡ true → Sees reports a b × Sees reports b a
  linked-see a b h = go (linked-tested n (reported_link reports) a b h)
    where
      go : (reported_link reports a b ≡ true) ⊎ (reported_link reports b a ≡ true) → Sees reports a b × Sees reports b a
      go (inl e) = let f = link-both reports a b e in (seen-sees reports a b f.1, seen-sees reports b a f.2)
      go (inr e) = let f = link-both reports b a e in (seen-sees reports a b f.2, seen-sees reports b a f.1)

  -- and two that see each other are linked.
  pub see-linked : AllFit reports → NoRepeat (reporters reports) → AllWithin n reports
      → (a b : ℕ) → Sees reports a b → Sees reports b a → linked L H a b ≡ true
  see-linked fits once within a b p q = go (dec_lt a b)
    where
      ends : (a < n) × (b < n)
      ends = sees-within n reports a b within p

      there : has (seen_by reports a) b ≡ true
      there = sees-seen reports a b once p

      back : has (seen_by reports b) a ≡ true
      back = sees-seen reports b a once q

      go : Dec (a < b) → linked L H a b ≡ true
      go (yes less) = (tested-linked n (reported_link reports) a b ends.0 ends.1 (both-link reports a b less there back)).0
      go (no more) =
          let apart : (a ≡ b → ⊥) = sees-other reports a b fits p in
          (tested-linked n (reported_link reports) b a ends.1 ends.0 (both-link reports b a (omega arith) back there)).1

  -- In service are those that report.
  state-at : (r : ℕ) → r < n → get_or S r 0 ≡ pick (has (reporters reports) r) 1 0
  unfolding reported_state
  state-at r h =
      let e : 0 + r ≡ r = omega arith in
      get_or-table (reported_state reports) 0 n r 0 h ∙ ap (reported_state reports) e

  pub serves-reports : (r : ℕ) → serves S r ≡ true → has (reporters reports) r ≡ true
  unfolding serves
  serves-reports r e = go (dec_lt r n)
    where
      one : (t : Bool) → eqb (pick t 1 0) 1 ≡ true → t ≡ true
      one true e = refl
      one false e = absurd (let z = eqb-true 0 1 e in omega arith)

      go : Dec (r < n) → has (reporters reports) r ≡ true
      go (yes h) = one (has (reporters reports) r) (ap (λ (x : ℕ). eqb x 1) (sym (state-at r h)) ∙ e)
      go (no h) =
          let none : get_or S r 0 ≡ 0 = get_or-eq_default S 0 (omega (arith, length-table (reported_state reports) 0 n)) in
          absurd (omega (arith, eqb-true (get_or S r 0) 1 e))

  pub reports-serves : AllWithin n reports → (r : ℕ) → has (reporters reports) r ≡ true → serves S r ≡ true
  unfolding serves
  reports-serves within r h =
      let state : get_or S r 0 ≡ 1 = state-at r (reports-within n reports r within h) ∙ rw h in
      eq-eqb (get_or S r 0) 1 state

  pub reported-accepted : 1 ≤ n → n ≤ 1000 → length L ≤ 3000 → Accepted n L H S
  reported-accepted some few short =
      accepted-intro n L H S (links-proper n (reported_link reports) (λ a b e. (link-both reports a b e).0) some few short)
      (record {
        long = length-table (reported_state reports) 0 n;
        either = λ r h. omega (arith, state-at r h, small (has (reporters reports) r));
      })
    where
      small : (t : Bool) → ◌≤◌ (pick t 1 0) 1
      small true = omega arith
      small false = omega arith
