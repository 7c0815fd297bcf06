-- A report that is not bad is one that fits, in the words of the promise, and its numbers are short enough to be read. Assumes nothing.
use Rattle.std.specs.Prelude.{ℕ, ◌<◌, true, false, not, ◌||◌, List, [], ◌∷◌, ◌≡◌, ltb}
use Rattle.std.proofs.Common.{ap, arith, ltb-false, le-ltb}
use Rattle.std.proofs.lemmas.Bool.{not-false}
use Rattle.definitions.specs.Lists.{has, greatest, AllBelow}
use Rattle.definitions.specs.Reports.{Report, rises_from, top_of, bad_report, ReportFits}
use Rattle.lists.specs.Tests.{or-false, or-neither}
use Rattle.lists.specs.Greatest.{greatest-member, members-within}
use Rattle.lists.specs.Cases.{has_here, has_there}
use Rattle.lists.specs.AscendingSteps.{ascends, ascending-steps}
use Rattle.lists.specs.RisesFrom.{rises-ascends, ascends-rises}
use Rattle.text_theory.specs.ReportLine.{ReportSmall}

pub not-bad : (report : Report) → bad_report report ≡ false → ReportFits report
unfolding bad_report top_of greatest
not-bad report e =
    let none = or-false (ltb 4294967295 report.serial)
    (ltb 999 (top_of report) || (has report.sees report.relay || not (rises_from 0 report.sees))) e in
    let low = or-false (ltb 999 (top_of report)) (has report.sees report.relay || not (rises_from 0 report.sees)) none.1 in
    let last = or-false (has report.sees report.relay) (not (rises_from 0 report.sees)) low.1 in
    let top = ltb-false 999 (top_of report) low.0 in
    record {
      known = omega (arith, top);
      range = ltb-false 4294967295 report.serial none.0;
      seen_known = λ b h. omega (arith, top, greatest-member report.sees b h);
      others = last.0;
      rises = ascending-steps report.sees (rises-ascends 0 report.sees (not-false (rises_from 0 report.sees) last.1));
    }

pub fits-good : (report : Report) → ReportFits report → bad_report report ≡ false
unfolding bad_report top_of greatest
fits-good report fits =
    or-neither (ltb 4294967295 report.serial)
    (ltb 999 (top_of report) || (has report.sees report.relay || not (rises_from 0 report.sees)))
    (le-ltb 4294967295 report.serial fits.range)
    (or-neither (ltb 999 (top_of report)) (has report.sees report.relay || not (rises_from 0 report.sees))
    (le-ltb 999 (top_of report) (omega (arith, fits.known, members-within report.sees 999 fits.seen_known)))
    (or-neither (has report.sees report.relay) (not (rises_from 0 report.sees)) fits.others
    (ap not (ascends-rises 0 report.sees (ascends report.sees fits.rises) (λ x h. omega arith)))))

-- Numbers of which each member is below a bound.
members-below : (list : List ℕ) (bound : ℕ) → ((b : ℕ) → has list b ≡ true → b < bound) → AllBelow bound list
members-below [] bound each = tt
members-below (x ∷ list) bound each = (each x (has_here x list), members-below list bound (λ b h. each b (has_there x list b h)))

pub fits-small : (report : Report) → ReportFits report → ReportSmall report
fits-small report fits =
    record {
      small_relay = omega (arith, fits.known);
      small_serial = omega (arith, fits.range);
      small_seen = members-below report.sees 10000 (λ b h. omega (arith, fits.seen_known b h));
    }
