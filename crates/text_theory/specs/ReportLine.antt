-- A report line that stands in a text is read, and a report line that was read stands there. Assumes nothing.
use Rattle.std.specs.Prelude.{ℕ, ◌+◌, ◌^◌, ◌≤◌, ◌<◌, true, List, [], ◌∷◌, ◌++◌, ◌≡◌, refl, length}
use Rattle.std.proofs.Common.{append-nil, ◌∙◌, ap, arith}
use Rattle.definitions.specs.Lists.{outside, AllBelow}
use Rattle.definitions.specs.Form.{bytes, Scan, reads, byte_at, scan_word, with_front, following, scan_more, scan_form, decimal, spaced, write_form, Fits}
use Rattle.definitions.specs.Reports.{report_front, scan_serial, scan_report, Report, report_text}
use Rattle.lists.specs.Parts.{Part, part-head, part-append, part-first, part-second}
use Rattle.text_theory.specs.Numbers.{NumberWithin, decimal-read, read-decimal}
use Rattle.text_theory.specs.Forms.{well_formed, well_formed_behind, good_word, no_zero, ends_in_number, Line, word_read, read_word, following-reads}
use Rattle.text_theory.specs.NetworkLines.{line_read, read-line}
use Rattle.text_theory.specs.NumberLines.{spaced-length, more-read, read_more}

-- The front of a report line ends in a word.
report-front-line : Line report_front
unfolding well_formed well_formed_behind good_word no_zero outside ends_in_number report_front
report-front-line = (refl, refl)

report-front-fits : (relay : ℕ) → relay < 10000 → Fits report_front (relay ∷ [])
unfolding report_front
report-front-fits relay small = (small, tt)

report-front-number : (values : List ℕ) → Fits report_front values → (relay : ℕ) × (values ≡ relay ∷ []) × (relay < 10000)
unfolding report_front
report-front-number [] fits = absurd fits
report-front-number (relay ∷ []) fits = (relay, refl, fits.0)
report-front-number (relay ∷ x ∷ values) fits = absurd fits.1

serial-read : (text : List ℕ) (x p q : ℕ) → x < 10 ^ 10 → Part text p (decimal x) q
    → outside 48 57 (byte_at text q) ≡ true → scan_serial text p ≡ reads (x ∷ []) q
unfolding scan_serial
serial-read text x p q small part stops = decimal-read 9 text x p q small part stops

read-serial : (text : List ℕ) (p : ℕ) (values : List ℕ) (q : ℕ) → scan_serial text p ≡ reads values q
    → NumberWithin (10 ^ 10) text p values q
unfolding scan_serial
read-serial text p values q e = read-decimal 9 text p values q e

-- Behind a serial comes a space, which is no digit; behind those seen comes a bracket.
behind-serial : (text rest : List ℕ) (p q : ℕ) → Part text p (bytes " (sees" ++ rest) q → outside 48 57 (byte_at text p) ≡ true
unfolding byte_at outside
behind-serial text rest p q part = rw (part-head text (bytes "(sees" ++ rest) 32 p q part)

behind-seen : (text : List ℕ) (p q : ℕ) → Part text p (bytes "))\n") q → byte_at text p ≡ 41
unfolding byte_at
behind-seen text p q part = part-head text (41 ∷ 10 ∷ []) 41 p q part

name-good : no_zero (bytes " (sees") ≡ true
unfolding no_zero
name-good = refl

end-good : no_zero (bytes "))\n") ≡ true
unfolding no_zero
end-good = refl

-- A report whose numbers have no more digits than they may have.
pub record ReportSmall (report : Report) : Type 0 where
  pub small_relay : report.relay < 10000
  pub small_serial : report.serial < 10 ^ 10
  pub small_seen : AllBelow 10000 report.sees

pub report-line-read : (report : Report) (text : List ℕ) (p q : ℕ) → ReportSmall report → Part text p (report_text report) q
    → scan_report text p ≡ reads (report.relay ∷ report.serial ∷ report.sees) q
unfolding scan_report report_text following with_front
report-line-read report text p q small part =
    let front = write_form report_front (report.relay ∷ []) in
    let digits = decimal report.serial in
    let name = bytes " (sees" in
    let numbers = spaced report.sees in
    let end = bytes "))\n" in
    let s = p + length front in
    let t = s + length digits in
    let u = t + length name in
    let v = u + length numbers in
    let behind_front = part-second text front (digits ++ (name ++ (numbers ++ end))) p q part in
    let behind_digits = part-second text digits (name ++ (numbers ++ end)) s q behind_front in
    let behind_name = part-second text name (numbers ++ end) t q behind_digits in
    let seen = part-first text numbers end u q behind_name in
    let last = part-second text numbers end u q behind_name in
    let few : length report.sees ≤ length text = omega (arith, spaced-length report.sees, seen.reaches, seen.within) in
    rw (
      line_read report_front (report.relay ∷ []) text p s report-front-line (report-front-fits report.relay small.small_relay)
          (part-first text front (digits ++ (name ++ (numbers ++ end))) p q part),
      serial-read text report.serial s t small.small_serial (part-first text digits (name ++ (numbers ++ end)) s q behind_front)
          (behind-serial text (numbers ++ end) t q behind_digits),
      word_read text name t u (part-first text name (numbers ++ end) t q behind_digits),
      more-read report.sees text u v (length text) small.small_seen few (behind-seen text v q last) seen,
      word_read text end v q last,
      append-nil report.sees,
    )

-- What a report line held.
pub record ReportStands (text : List ℕ) (p : ℕ) (values : List ℕ) (q : ℕ) : Type 0 where
  pub report : Report
  pub joined : values ≡ report.relay ∷ report.serial ∷ report.sees
  pub small : ReportSmall report
  pub part : Part text p (report_text report) q

-- What stands behind the serial: those seen.
abbrev scan_seen : (text : List ℕ) (p : ℕ) → Scan
scan_seen text p = following (scan_word text (bytes " (sees") p) λ t. following (scan_more text t (length text)) (scan_word text (bytes "))\n"))

abbrev seen_text : (sees : List ℕ) → List ℕ
seen_text sees = bytes " (sees" ++ (spaced sees ++ bytes "))\n")

read-seen : (text : List ℕ) (p : ℕ) (values : List ℕ) (q : ℕ) → p ≤ length text → scan_seen text p ≡ reads values q
    → AllBelow 10000 values × Part text p (seen_text values) q
read-seen text p values q within e =
    let name = bytes " (sees" in
    let end = bytes "))\n" in
    let one = following-reads (scan_word text name p) (λ t. following (scan_more text t (length text)) (scan_word text end)) values q e in
    let two = following-reads (scan_more text one.behind (length text)) (scan_word text end) one.rest q one.second in
    let start = read_word text name p one.front one.behind name-good within one.first in
    let more = read_more (length text) text one.behind two.front two.behind start.1.within two.first in
    let last = read_word text end two.behind two.rest q end-good more.1.within two.second in
    let same : values ≡ two.front = around values one.front one.rest two.front two.rest one.joined start.0 two.joined last.0 in
    rw same (
      more.0,
      part-append text name (spaced two.front ++ end) p one.behind q start.1
          (part-append text (spaced two.front) end one.behind two.behind q more.1 last.1),
    )
  where
    around : (values none rest seen behind : List ℕ) → values ≡ none ++ rest → none ≡ [] → rest ≡ seen ++ behind → behind ≡ [] → values ≡ seen
    around values none rest seen behind a b c d = a ∙ rw (b, c, d) (append-nil seen)

-- What stands behind the front: the serial and those seen.
read-behind-front : (text : List ℕ) (p : ℕ) (values : List ℕ) (q : ℕ)
    → following (scan_serial text p) (scan_seen text) ≡ reads values q
    → (serial : ℕ) × (sees : List ℕ) × (values ≡ serial ∷ sees) × (serial < 10 ^ 10) × AllBelow 10000 sees
    × Part text p (decimal serial ++ seen_text sees) q
read-behind-front text p values q e =
    let both = following-reads (scan_serial text p) (scan_seen text) values q e in
    let number = read-serial text p both.front both.behind both.first in
    let seen = read-seen text both.behind both.rest q number.part.within both.second in (
      number.number,
      both.rest,
      both.joined ∙ ap (λ (l : List ℕ). l ++ both.rest) number.value,
      number.small,
      seen.0,
      part-append text (decimal number.number) (seen_text both.rest) p both.behind q number.part seen.1,
    )

pub read-report-line : (text : List ℕ) (p : ℕ) (values : List ℕ) (q : ℕ) → p ≤ length text → scan_report text p ≡ reads values q
    → ReportStands text p values q
unfolding scan_report report_text
read-report-line text p values q within e =
    let both = following-reads (scan_form text report_front p) (λ q. following (scan_serial text q) (scan_seen text)) values q e in
    let start = read-line report_front text p both.front both.behind report-front-line within both.first in
    let (relay, is_relay, small_relay) = report-front-number both.front start.0 in
    let (serial, sees, is_rest, small_serial, small_seen, rest) = read-behind-front text both.behind both.rest q both.second in
    record {
      report = record { relay = relay; serial = serial; sees = sees };
      joined = in-front values both.front both.rest (serial ∷ sees) relay both.joined is_relay is_rest;
      small = record { small_relay = small_relay; small_serial = small_serial; small_seen = small_seen };
      part =
          part-append text (write_form report_front (relay ∷ [])) (decimal serial ++ seen_text sees) p both.behind q
          (rw is_relay at start.1) rest;
    }
  where
    in-front : (values front rest behind : List ℕ) (relay : ℕ) → values ≡ front ++ rest → front ≡ relay ∷ [] → rest ≡ behind → values ≡ relay ∷ behind
    in-front values front rest behind relay a b c = a ∙ rw (b, c)
