-- The first pass over a set, a line at a time, and the states that it leaves. Assumes nothing.
use Rattle.std.specs.Prelude.{None, Ok, Err}
use Prim.Native.Nat.{ℕ, zero, suc, ◌+◌, ◌≤◌, ◌<◌}
use mathlib.Core.Bool.{Bool, true, false, ◌||◌}
use mathlib.Core.List.{List, [], ◌∷◌, ◌++◌}
use mathlib.Core.Path.{◌≡◌, refl, sym, ◌∙◌, ap, ap₂}
use native.Mathlib.Decide.{ℕ_discrete}
use native.Mathlib.Nat.{zero-add}
use native.Mathlib.Numerals.{add-one}
use native.Mathlib.Omega.{arith}
use lib.Dec.{leb}
use mir.Val.{bool_byte}
use lib.ListN.{length, get_or, set, take, replicate, length-set, length-replicate}
use lib.Seq.{get_or-set_same, get_or-set_other, take-suc-set}
use Rattle.definitions.specs.Outcome.{pick, refused}
use Rattle.definitions.specs.Lists.{table, has}
use Rattle.definitions.specs.Form.{Scan, departs, reads}
use Rattle.definitions.specs.Reports.{Report, report_of, scan_report, top_of}
use Rattle.definitions.specs.ReportSets.{read_reports, repeats, reporters, beyond}
use Rattle.lists.specs.Cursors.{drop_below}
use Rattle.lists.specs.Tests.{or_right, or-false, or-none, or_turn}
use Rattle.theory.specs.ReportPlaces.{Placed, repeats-more, beyond-more, placed-start, placed-step}
use Rattle.text_theory.specs.ReportFitting.{not-bad}
use Rattle.text_theory.specs.ReportTurns.{line-behind, reports-stop, reports-depart, reports-bad, reports-next}
use Rattle.network.specs.declared.refusal.Refusal.TheVariants.{ReportForm, ReportRelays, RelayRange}
use Rattle.reports.proofs.SetLaws.{set-bad, set_twice, set-far}
use Rattle.reports.proofs.MarkLaws.{mark-kept, some-marks}
use Rattle.reports.specs.Lines.{LineTold, LineRead}
use Rattle.reports.specs.Offsets.{marked, no_places, seen_mark, reports_by, seen_of, seen_from, above_from, Started}
use Rattle.reports.specs.declared.places.Places.{Places}
use Rattle.reports.specs.Places.{AllTold, PlacedAll}

-- Up to offset p: the reports read so far, and what is told and kept of them.
pub record Placing (text : List ℕ) (n : ℕ) (places : List Places) (p : ℕ) (twice far : Bool) : Type 0 where
  pub reports : List Report
  pub read : read_reports text [] 0 (length text) ≡ read_reports text reports p (length text)
  pub twice_is : repeats (reporters reports) ≡ twice
  pub far_is : beyond n reports ≡ far
  pub placed : twice ≡ false → Placed (marked text) reports (seen_of places)
  pub room : length places ≡ 1000
  pub started : Started text places
  pub within : p ≤ length text

-- At the start nothing is kept.
none-kept : (count r : ℕ) → get_or (replicate count no_places) r no_places ≡ no_places
none-kept zero r = refl
none-kept (suc count) zero = refl
none-kept (suc count) (suc r) = none-kept count r

pub none-length : (places : List Places) → places ≡ replicate 1000 no_places → length places ≡ 1000
none-length places e = ap length e ∙ length-replicate 1000 no_places

pub placing-start : (text : List ℕ) (n : ℕ) (places : List Places) → places ≡ replicate 1000 no_places → Placing text n places 0 false false
unfolding repeats reporters beyond drop_below
placing-start text n places e =
    let empty : (r : ℕ) → get_or places r no_places ≡ no_places = λ r. ap (λ (l : List Places). get_or l r no_places) e ∙ none-kept 1000 r in
    record {
      reports = [];
      read = refl;
      twice_is = refl;
      far_is = refl;
      placed = λ once. placed-start (marked text) (seen_of places) refl (λ r. ap seen_mark (empty r));
      room = none-length places e;
      started = λ r. rw (empty r) refl;
      within = omega arith;
    }

-- The marks are those of the relays that have reported, as long as none has twice.
twice-more : (twice mark all there : Bool) → all ≡ twice → (twice ≡ false → mark ≡ there) → (there || all) ≡ (twice || mark)
twice-more true mark all there e marked = or_right there all e
twice-more false mark all there e marked = ap (λ (t : Bool). there || t) e ∙ or-none there ∙ sym (marked refl)

-- A line that was read.
module _ (text : List ℕ) (p relay serial at top next above : ℕ) (told : LineTold text p relay serial at top next above) (some : p < length text) where
  pub line-within : (relay ≤ 999) × (p < next) × (next ≤ length text)
  line-within =
      let behind = line-behind text p told.values next (omega arith) told.scanned in
      (omega (arith, (not-bad (report_of told.values) told.good).known, told.relay_is), behind.0, behind.1)

  -- What its relay sees from its own number on stands there, and so it does for the others.
  abbrev pub now : Places
  now = record { seen = at; above = above }

  started-more : (places : List Places) → length places ≡ 1000 → Started text places → Started text (set places relay now)
  unfolding drop_below
  started-more places room inv r = go (ℕ_discrete relay r)
    where
      go : Dec (relay ≡ r) → above_from text (set places relay now) r ≡ drop_below r (seen_from text (set places relay now) r)
      go (yes e) =
          let here = line-within.0 in
          rw (← e, get_or-set_same places relay now no_places (omega arith), mark-kept now at told.some, mark-kept now above told.some, told.numbers)
          told.higher
      go (no other) = rw (get_or-set_other places relay r now no_places (λ e. other (sym e))) (inv r)

  pub placing-more : (n : ℕ) (places : List Places) (twice far twice_then far_then : Bool) → Placing text n places p twice far
      → twice_then ≡ (twice || reports_by places relay) → far_then ≡ (far || leb n top)
      → Placing text n (set places relay now) next twice_then far_then
  placing-more n places twice far twice_then far_then inv is_twice is_far =
      let report = report_of told.values in
      let facts = line-within in
      let marked_by : twice ≡ false → reports_by places relay ≡ has (reporters inv.reports) report.relay = λ once.
      some-marks (get_or places relay no_places)
      ∙ (inv.placed once).marks relay
      ∙ ap (has (reporters inv.reports)) (sym told.relay_is) in
      record {
        reports = inv.reports ++ (report ∷ []);
        read = inv.read ∙ reports-next text inv.reports p some told.values next told.scanned told.good;
        twice_is =
            repeats-more inv.reports report
            ∙ twice-more twice (reports_by places relay) (repeats (reporters inv.reports))
            (has (reporters inv.reports) report.relay) inv.twice_is marked_by
            ∙ sym is_twice;
        far_is =
            beyond-more n inv.reports report
            ∙ or_turn (leb n (top_of report)) (beyond n inv.reports)
            ∙ ap₂ (λ (s : Bool) (t : ℕ). s || leb n t) inv.far_is told.top_is
            ∙ sym is_far;
        placed = λ once.
            let both = or-false twice (reports_by places relay) (sym is_twice ∙ once) in
            placed-step (marked text) inv.reports (seen_of places) (seen_of (set places relay now)) report (suc at)
            (inv.placed both.0) (sym (marked_by both.0) ∙ both.1) (omega arith) told.numbers
            (ap (seen_of (set places relay now)) told.relay_is ∙ ap seen_mark (get_or-set_same places relay now no_places (omega (arith, inv.room)))
            ∙ mark-kept now at told.some)
            (λ r other. ap seen_mark (get_or-set_other places relay r now no_places (λ e. other (e ∙ sym told.relay_is))));
        room = length-set places relay now ∙ inv.room;
        started = started-more places inv.room inv.started;
        within = facts.2;
      }

-- A line that is out of form or bad, and the end of the text: 20 and 5, or no fault.
module _ (text : List ℕ) (n : ℕ) (places : List Places) (p : ℕ) (twice far : Bool) (inv : Placing text n places p twice far) where
  pub placing-bad : p < length text → LineRead text p None → PlacedAll text n places (Err ReportForm)
  placing-bad some bad room_lows room_highs room_states least most =
      set-bad n text room_lows room_highs room_states least most (inv.read ∙ go (scan_report text p) refl)
    where
      go : (scan : Scan) → scan_report text p ≡ scan → read_reports text inv.reports p (length text) ≡ refused 19 0
      go (departs w) e = reports-depart text inv.reports p some w e
      go (reads values q) e = reports-bad text inv.reports p some values q e (bad values q e)

  module _ (over : length text ≤ p) where
    told : AllTold text n places twice far
    told =
        record {
          reports = inv.reports;
          read = inv.read ∙ reports-stop text inv.reports p over;
          twice_is = inv.twice_is;
          far_is = inv.far_is;
          placed = inv.placed;
          room = inv.room;
          started = inv.started;
        }

    pub placing-twice : twice ≡ true → PlacedAll text n places (Err ReportRelays)
    placing-twice e room_lows room_highs room_states some few =
        set_twice n text room_lows room_highs room_states some few places twice far told e

    pub placing-far : twice ≡ false → far ≡ true → PlacedAll text n places (Err (RelayRange 0))
    placing-far once e room_lows room_highs room_states some few =
        set-far n text room_lows room_highs room_states some few places twice far told once e

    pub placing-end : twice ≡ false → far ≡ false → PlacedAll text n places (Ok tt)
    placing-end once near = rw (once, near) at told

-- The state of a relay, from whether places are kept for it.
pub state-picked : (kept : Bool) → bool_byte kept ≡ pick {A = ℕ} kept 1 0
state-picked true = refl
state-picked false = refl

-- One state more.
table_more : (f : ℕ → ℕ) (i count : ℕ) → table f i count ++ (f (i + count) ∷ []) ≡ table f i (suc count)
unfolding table
table_more f i zero = let e : i + 0 ≡ i = omega arith in rw e
table_more f i (suc count) =
    let e : i + suc count ≡ i + 1 + count = omega arith in
    rw e (ap (λ (l : List ℕ). f i ∷ l) (table_more f (i + 1) count))

pub states-more : (f : ℕ → ℕ) (states : List ℕ) (r state : ℕ) → take r states ≡ table f 0 r → r < length states → state ≡ f r
    → take (r + 1) (set states r state) ≡ table f 0 (r + 1)
states-more f states r state e h v =
    let last : state ≡ f (0 + r) = v ∙ ap f (sym (zero-add r)) in
    rw (add-one r)
    (take-suc-set states r state h ∙ ap₂ (λ (l : List ℕ) (x : ℕ). l ++ (x ∷ [])) e last ∙ table_more f 0 r)
