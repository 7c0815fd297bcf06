-- The laws of a report line: those that it sees, turn by turn, and what is bad of a line whose front is read. Assumes nothing.
use Rattle.std.specs.Prelude.{Option, None, Some, Result, Ok, Err}
use Rattle.std.specs.Option.{unwrap_or}
use Rattle.std.specs.Result.{result_ok}
use Prim.Native.Nat.{ℕ, max, ◌+◌, ◌-◌, ◌≤◌, ◌<◌}
use mathlib.Core.Bool.{Bool, true, false}
use mathlib.Core.List.{List, [], ◌∷◌, ◌++◌, append-nil}
use mathlib.Core.Logic.{◌⊎◌, inl, inr}
use mathlib.Core.Path.{◌≡◌, refl, sym, ◌∙◌, ap}
use native.Mathlib.Decide.{dec_le}
use native.Mathlib.Omega.{arith}
use borrow.Author.Tests.{eq-eqb, ne_eqb, lt-ltb}
use lib.Dec.{eqb, ltb}
use lib.ListN.{length}
use Rattle.definitions.specs.Outcome.{pick}
use Rattle.definitions.specs.Lists.{greatest}
use Rattle.definitions.specs.Form.{bytes, Scan, departs, reads, byte_at, scan_word, scan_number, following, scan_more, scan_form}
use Rattle.definitions.specs.Reports.{Report, report_front, scan_serial, scan_report, report_of, top_of, bad_report}
use Rattle.lists.specs.Tests.{or_left, or_right}
use Rattle.lists.specs.Cursors.{drop_below, dropped-less, dropped-stays}
use Rattle.lists.specs.Greatest.{greatest-snoc}
use Rattle.text_theory.specs.Forms.{with-front-reads, following-reads}
use Rattle.text_theory.specs.Numbers.{past_end}
use Rattle.text_theory.specs.ReportParts.{report-reads, seen-again}
use Rattle.text_theory.specs.SeenTurns.{SeenSoFar, seen_start, seen-turn, seen-departs, seen-ends, bad-falls, bad-own, bad-far, seen-good}
use Rattle.text_theory.specs.SpacedNumbers.{ANumber, none-at, spaced-reads, spaced-departs, number_behind, numbers-next}
use Rattle.reports.specs.Offsets.{numbers_from}
use Rattle.reports.specs.Lines.{reporting, SeenEnds, SeenBad, LineTold, LineRead}

some_apart : {V : Type 0} {v : V} → ◌≡◌ {A = Option V} (Some v) None → ⊥
some_apart e = let z : ◌≡◌ {A = ℕ} 0 1 = cc in omega arith

-- What a result that is asked for its value alone was: it had that value, or it was an error.
module _ {V E W : Type 0} (gives : Result V E → W) {scan : W} (r : Result V E) (told : gives r ≡ scan) where
  pub read-so : (v : V) → Some v ≡ result_ok r → scan ≡ gives (Ok v)
  read-so v e = go r refl e
    where
      go : (s : Result V E) → r ≡ s → Some v ≡ result_ok s → scan ≡ gives (Ok v)
      go (Ok x) is same = let last : v ≡ x = cc in rw last (sym told ∙ ap gives is)
      go (Err d) is same = absurd (some_apart same)

  pub departed-so : None ≡ result_ok r → (d : E) × (scan ≡ gives (Err d))
  departed-so e = go r refl e
    where
      go : (s : Result V E) → r ≡ s → None ≡ result_ok s → (d : E) × (scan ≡ gives (Err d))
      go (Ok x) is same = absurd (some_apart (sym same))
      go (Err d) is same = (d, sym told ∙ ap gives is)

-- The least that may be seen next: one more than the last of those seen.
abbrev pub least_after : Option ℕ → ℕ
least_after None = 0
least_after (Some x) = x + 1

last_kept : (last : Option ℕ) → unwrap_or last 0 ≡ least_after last - 1
last_kept None = refl
last_kept (Some x) = omega arith

-- The loop over those seen: what is read so far, whose last is just below `least`; where those above the relay begin, which is here as
-- long as none of them was read; and no more numbers are to come than there are bytes.
pub record SeenLoop (text : List ℕ) (relay t p least above : ℕ) : Type 0 where
  pub left : ℕ
  pub so_far : List ℕ
  pub good : SeenSoFar text relay t p left so_far least
  pub last_is : greatest so_far ≡ least - 1
  pub same : drop_below relay (numbers_from text t) ≡ drop_below relay (numbers_from text above)
  pub here : least ≤ relay → above ≡ p
  pub stays : relay < least → drop_below relay (numbers_from text above) ≡ numbers_from text above
  pub far : length text ≤ p + left

pub loop-start : (text : List ℕ) (relay t : ℕ) → SeenLoop text relay t t 0 t
unfolding greatest
loop-start text relay t =
    record {
      left = length text;
      so_far = [];
      good = seen_start text relay t;
      last_is = refl;
      same = refl;
      here = λ _. refl;
      stays = λ more. absurd (omega arith);
      far = omega arith;
    }

module _ {text : List ℕ} {relay t p least above : ℕ} (inv : SeenLoop text relay t p least above) where
  pub loop-ends : (last : Option ℕ) → least ≡ least_after last → (byte_at text p ≡ 32 → ⊥) → SeenEnds text relay t last p above
  unfolding drop_below
  loop-ends last after other =
      record {
        sees = inv.so_far;
        scanned = seen-ends text relay t p inv.left inv.so_far least inv.good other;
        good = seen-good text relay t p inv.left inv.so_far least inv.good;
        last_is = inv.last_is ∙ ap (λ (least : ℕ). least - 1) after ∙ sym (last_kept last);
        higher = go (dec_le least relay);
      }
    where
      none : numbers_from text p ≡ []
      none = none-at text p (p, spaced-departs text p (ne_eqb (byte_at text p) 32 other)) (length text)

      go : Dec (least ≤ relay) → numbers_from text above ≡ drop_below relay (numbers_from text t)
      go (yes low) =
          let gone : numbers_from text above ≡ [] = ap (numbers_from text) (inv.here low) ∙ none in
          gone ∙ sym (inv.same ∙ ap (drop_below relay) gone)
      go (no high) = sym (inv.same ∙ inv.stays (omega arith))

  -- At a space there is a turn left: with none the text is at its end.
  turns-left : byte_at text p ≡ 32 → 0 < inv.left
  turns-left space = go (dec_le (length text) p)
    where
      go : Dec (length text ≤ p) → 0 < inv.left
      go (yes over) = absurd (omega (arith, space, past_end text p over))
      go (no within) = omega (arith, inv.far)

  pub loop-departs : {w : ℕ} → byte_at text p ≡ 32 → scan_number text (p + 1) ≡ departs w → SeenBad text relay t
  loop-departs {w} space e serial sees v f =
      let gone = seen-departs text relay t p inv.left inv.so_far least inv.good space (turns-left space) w e in
      let z : ◌≡◌ {A = ℕ} 0 1 = cc in
      absurd (omega arith)

-- A turn of the loop that reads the number x, up to q: the report is bad, or the loop goes on.
pub record SeenNumber (text : List ℕ) (relay t p least above x q : ℕ) : Type 0 where
  pub inv : SeenLoop text relay t p least above
  pub space : byte_at text p ≡ 32
  pub number : scan_number text (p + 1) ≡ reads (x ∷ []) q

module _ {text : List ℕ} {relay t p least above x q : ℕ} (turn : SeenNumber text relay t p least above x q) where
  some : 0 < turn.inv.left
  some = turns-left turn.inv turn.space

  one : ANumber text p x q
  one = spaced-reads text p (eq-eqb (byte_at text p) 32 turn.space) ∙ turn.number

  pub leads : (p < q) × (q ≤ length text)
  leads = number_behind text p (x ∷ []) q one

  pub turn-bad : (x < least) ⊎ ((x ≡ relay) ⊎ (999 < x)) → SeenBad text relay t
  turn-bad fault serial sees v f = go fault
    where
      go : (x < least) ⊎ ((x ≡ relay) ⊎ (999 < x)) → bad_report (reporting relay serial sees) ≡ true
      go (inl low) =
          bad-falls text relay t p turn.inv.left _ least turn.inv.good turn.space some x q turn.number serial sees v f low
      go (inr (inl own)) =
          bad-own text relay t p turn.inv.left _ least turn.inv.good turn.space some x q turn.number serial sees v f own
      go (inr (inr far)) =
          bad-far text relay t p turn.inv.left _ least turn.inv.good turn.space some x q turn.number serial sees v f far

  goes-on : (from : ℕ) → least ≤ x → (x ≡ relay → ⊥) → x ≤ 999
      → drop_below relay (numbers_from text t) ≡ drop_below relay (numbers_from text from) → (x + 1 ≤ relay → from ≡ q)
      → (relay < x + 1 → drop_below relay (numbers_from text from) ≡ numbers_from text from)
      → SeenLoop text relay t q (x + 1) from
  goes-on from high other near same here stays =
      record {
        left = turn.inv.left - 1;
        so_far = turn.inv.so_far ++ (x ∷ []);
        good = seen-turn text relay t p turn.inv.left _ least turn.inv.good turn.space some x q turn.number high other near;
        last_is = greatest-snoc turn.inv.so_far x ∙ omega (arith, turn.inv.last_is);
        same = same;
        here = here;
        stays = stays;
        far = omega (arith, turn.inv.far, leads.0, some);
      }

  next : above ≡ p → numbers_from text above ≡ x ∷ numbers_from text q
  next e = ap (numbers_from text) e ∙ numbers-next text p x q one

  -- The number is below the relay, so those above it begin behind the number; or it is above it.
  pub turn-below : least ≤ x → x < relay → x ≤ 999 → SeenLoop text relay t q (x + 1) q
  turn-below high below near =
      let passed = next (turn.inv.here (omega arith)) in
      goes-on q high (λ e. omega arith) near
      (turn.inv.same ∙ ap (drop_below relay) passed ∙ dropped-less relay x (numbers_from text q) below) (λ _. refl)
      (λ more. absurd (omega arith))

  pub turn-above : least ≤ x → relay ≤ x → (x ≡ relay → ⊥) → x ≤ 999 → SeenLoop text relay t q (x + 1) above
  turn-above high over other near =
      goes-on above high other near turn.inv.same (λ low. absurd (omega arith)) (λ _. kept (dec_le least relay))
    where
      kept : Dec (least ≤ relay) → drop_below relay (numbers_from text above) ≡ numbers_from text above
      kept (yes low) =
          let here = next (turn.inv.here low) in
          ap (drop_below relay) here ∙ dropped-stays relay x (numbers_from text q) over ∙ sym here
      kept (no before) = turn.inv.stays (omega arith)

-- A word gives no number, and ends after as many bytes as it has.
word_read : (text w : List ℕ) (p : ℕ) (values : List ℕ) (q : ℕ) → scan_word text w p ≡ reads values q → (values ≡ []) × (p + length w ≡ q)
unfolding scan_word
word_read text [] p values q e = let same : p ≡ q = cc in (cc, omega arith)
word_read text (b ∷ w) p values q e = go (eqb (byte_at text p) b) e (word_read text w (p + 1) values q)
  where
    go : (t : Bool) → pick t (scan_word text w (p + 1)) (departs p) ≡ reads values q
        → (scan_word text w (p + 1) ≡ reads values q → (values ≡ []) × (p + 1 + length w ≡ q)) → (values ≡ []) × (p + length (b ∷ w) ≡ q)
    go true e hyp = let rest = hyp e in (rest.0, omega (arith, rest.1))
    go false e hyp = let z : ◌≡◌ {A = ℕ} 0 1 = cc in absurd (omega arith)

-- A serial past its range, and a relay over 999.
far-serial : (report : Report) → 4294967295 < report.serial → bad_report report ≡ true
unfolding bad_report
far-serial report far = or_left (ltb 4294967295 report.serial) _ (lt-ltb 4294967295 report.serial far)

far-relay : (report : Report) → 999 < report.relay → bad_report report ≡ true
unfolding bad_report top_of greatest
far-relay report far =
    or_right (ltb 4294967295 report.serial) _ (or_left (ltb 999 (top_of report)) _ (lt-ltb 999 (top_of report) (omega arith)))

-- What is read behind what is known.
behind : (scan : Scan) (next : ℕ → Scan) {front values : List ℕ} {u q : ℕ} → scan ≡ reads front u
    → following scan next ≡ reads values q → (rest : List ℕ) × (next u ≡ reads rest q) × (values ≡ front ++ rest)
unfolding following
behind scan next {front} {values} {u} {q} known e = with-front-reads front (next u) values q (rw known at e)

-- The rest of a line behind the word `(sees`, behind the serial, and behind the front.
abbrev rest_of_name : (text : List ℕ) (p : ℕ) → Scan
rest_of_name text t = following (scan_more text t (length text)) (scan_word text (bytes "))\n"))

abbrev rest_of_serial : (text : List ℕ) (p : ℕ) → Scan
rest_of_serial text s = following (scan_word text (bytes " (sees") s) (rest_of_name text)

abbrev rest_of_front : (text : List ℕ) (p : ℕ) → Scan
rest_of_front text u = following (scan_serial text u) (rest_of_serial text)

module _ (text : List ℕ) (p : ℕ) where
  pub departs-bad : {w : ℕ} → scan_report text p ≡ departs w → LineRead text p None
  departs-bad e values q f = let z : ◌≡◌ {A = ℕ} 0 1 = cc in absurd (omega arith)

  module _ {relay u : ℕ} (front : scan_form text report_front p ≡ reads (relay ∷ []) u) where
    pub relay-bad : 999 < relay → LineRead text p None
    unfolding scan_report report_of
    relay-bad far values q e =
        let (rest, _, same) = behind (scan_form text report_front p) (rest_of_front text) front e in
        far-relay (report_of values) (rw same far)

    module _ {serial s : ℕ} (number : scan_serial text u ≡ reads (serial ∷ []) s) where
      pub serial-bad : 4294967295 < serial → LineRead text p None
      unfolding scan_report report_of
      serial-bad far values q e =
          let (rest, scan, same) = behind (scan_form text report_front p) (rest_of_front text) front e in
          let (more, _, again) = behind (scan_serial text u) (rest_of_serial text) number scan in
          far-serial (report_of values) (rw (same, again) far)

      module _ {t : ℕ} (name : scan_word text (bytes " (sees") s ≡ reads [] t) where
        pub seen-bad : SeenBad text relay t → LineRead text p None
        unfolding scan_report report_of
        seen-bad bad values q e =
            let (rest, scan, same) = behind (scan_form text report_front p) (rest_of_front text) front e in
            let (more, scan2, again) = behind (scan_serial text u) (rest_of_serial text) number scan in
            let (sees, scan3, last) = behind (scan_word text (bytes " (sees") s) (rest_of_name text) name scan2 in
            let both = following-reads (scan_more text t (length text)) (scan_word text (bytes "))\n")) sees q scan3 in
            let none = (word_read text (bytes "))\n") both.behind both.rest q both.second).0 in
            rw (same, again, last, both.joined, none, append-nil both.front)
            (bad serial both.front both.behind both.first)

        pub line-told : {last : Option ℕ} {v q top above : ℕ} → relay ≤ 999 → serial ≤ 4294967295 → SeenEnds text relay t last v above
            → scan_word text (bytes "))\n") v ≡ reads [] q → top ≡ max relay (unwrap_or last 0) → LineTold text p relay serial t top q above
        unfolding report_of top_of greatest
        line-told near range seen end top_is =
            record {
              values = relay ∷ serial ∷ seen.sees;
              scanned = report-reads text p _ _ front _ _ number _ name _ _ seen.scanned _ end;
              good = seen.good serial near range;
              relay_is = refl;
              serial_is = refl;
              top_is = ap (max relay) seen.last_is ∙ sym top_is;
              numbers = seen-again text p _ _ front _ _ number _ name _ _ seen.scanned;
              higher = seen.higher ∙ ap (drop_below relay) (seen-again text p _ _ front _ _ number _ name _ _ seen.scanned);
              some = omega (arith, (word_read text (bytes " (sees") s [] t name).1);
            }
