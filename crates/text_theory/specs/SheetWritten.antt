-- The round trip of a sheet's text, the other way: what is read as a sheet is the text of that sheet.
-- Assumes nothing.
use Rattle.std.specs.Prelude.{ℕ, zero, suc, ◌+◌, ◌≤◌, ◌<◌, Bool, true, false, List, [], ◌∷◌, ◌++◌, ◌≡◌, refl, eqb, ltb, length, get_or}
use Rattle.std.proofs.Common.{append_assoc, append-nil, ◌∙◌, ap, arith, ltb-false}
use Rattle.std.proofs.Math.Seq.{append_snoc}
use Rattle.definitions.specs.Outcome.{pick, Outcome, done, refuse_if}
use Rattle.definitions.specs.Form.{bytes, byte_at, scan_form, on_scan, write_form, Fits}
use Rattle.definitions.specs.Text.{end_form}
use Rattle.definitions.specs.Plan.{sheet_form, kept_form, Sheet, numbers_line, route_lines, sheet_text}
use Rattle.definitions.specs.SheetForm.{route_front, over_front, scan_numbers, read_kept, read_routes, read_sheet}
use Rattle.definitions.specs.Lists.{AllBelow}
use Rattle.definitions.specs.RefusalFourteen.{SheetFits, LinesFit}
use Rattle.lists.specs.Outcomes.{not-refused}
use Rattle.lists.specs.Parts.{Part, part-append, part-whole}
use Rattle.text_theory.specs.Forms.{end-line}
use Rattle.text_theory.specs.NetworkLines.{read-line, end-numbers}
use Rattle.text_theory.specs.RoundTrip.{on-scan-done}
use Rattle.text_theory.specs.NumberLines.{read-route, read-over}
use Rattle.text_theory.specs.SheetRoundTrip.{sheet-line, kept_line, kept_and_end, routes_and_end}

-- The three numbers of the first line, each of at most four digits.
pub sheet-numbers : (values : List ℕ) → Fits sheet_form values
    → (values ≡ get_or values 0 0 ∷ get_or values 1 0 ∷ get_or values 2 0 ∷ [])
    × (get_or values 0 0 < 10000) × (get_or values 1 0 < 10000) × (get_or values 2 0 < 10000)
unfolding sheet_form
sheet-numbers [] fits = absurd fits
sheet-numbers (a ∷ []) fits = absurd fits.1
sheet-numbers (a ∷ b ∷ []) fits = absurd fits.1.1
sheet-numbers (a ∷ b ∷ c ∷ []) fits = (refl, fits.0, fits.1.0, fits.1.1.0)
sheet-numbers (a ∷ b ∷ c ∷ d ∷ values) fits = absurd fits.1.1.1

-- The number of the `(kept ..)` line, of at most four digits.
pub kept-numbers : (values : List ℕ) → Fits kept_form values → (values ≡ get_or values 0 0 ∷ []) × (get_or values 0 0 < 10000)
unfolding kept_form
kept-numbers [] fits = absurd fits
kept-numbers (a ∷ []) fits = (refl, fits.0)
kept-numbers (a ∷ b ∷ values) fits = absurd fits.1

abbrev sheet_of : (from to k : ℕ) (routes overs : List (List ℕ)) (kept : ℕ) → Sheet
sheet_of from to k routes overs kept =
    record { from = from; to = to; k = k; routes = routes; overs = overs; kept = kept }

-- The sheet, where nothing stands from s on.
abbrev closed : (text : List ℕ) (sheet : Sheet) (s : ℕ) → Outcome Sheet
closed text sheet s = refuse_if (ltb s (length text)) 14 s (done sheet)

-- What stands from p on where a sheet was read to its end, behind the routes that were read so far.
record RoutesStand (text : List ℕ) (from to k : ℕ) (routes_so_far overs_so_far : List (List ℕ)) (p : ℕ) (sheet : Sheet) : Type 0 where
  routes : List (List ℕ)
  overs : List (List ℕ)
  kept : ℕ
  small : kept < 10000
  fits : LinesFit routes overs
  result : sheet ≡ sheet_of from to k (routes_so_far ++ routes) (overs_so_far ++ overs) kept
  part : Part text p (routes_and_end routes overs kept) (length text)

-- No more routes: the `(kept ..)` line and the end.
read_kept-written : (text : List ℕ) (from to k : ℕ) (rs os : List (List ℕ)) (p : ℕ) (sheet : Sheet) → p ≤ length text
    → read_kept text from to k rs os p ≡ done sheet → RoutesStand text from to k rs os p sheet
unfolding read_kept route_lines
read_kept-written text from to k rs os p sheet within e =
    let (values, q, first, second) =
    on-scan-done 14 (scan_form text kept_form p)
    (λ values q. on_scan 14 (scan_form text end_form q) λ _ s. closed text (sheet_of from to k rs os (get_or values 0 0)) s) sheet e in
    let kept = get_or values 0 0 in
    let whole = sheet_of from to k rs os kept in
    let (none, s, third, fourth) = on-scan-done 14 (scan_form text end_form q) (λ _ s. closed text whole s) sheet second in
    let line = read-line kept_form text p values q kept_line within first in
    let end = read-line end_form text q none s end-line line.1.within third in
    let over = not-refused (ltb s (length text)) 14 s (done whole) sheet fourth in
    let last : s ≡ length text = omega (arith, ltb-false s (length text) over.0, end.1.within) in
    let number = kept-numbers values line.0 in
    let here : Part text p (write_form kept_form (kept ∷ [])) q = rw number.0 at line.1 in
    let after : Part text q (write_form end_form []) s = rw (end-numbers none end.0) at end.1 in
    record {
      routes = [];
      overs = [];
      kept = kept;
      small = number.1;
      fits = tt;
      result = rw (append-nil rs, append-nil os) (cc over.1);
      part = part-append text (write_form kept_form (kept ∷ [])) (write_form end_form []) p q (length text) here (rw last at after);
    }

-- A route with its links, and behind it the others.
one_more : (text : List ℕ) (from to k : ℕ) (rs os : List (List ℕ)) (route over : List ℕ) (p q s : ℕ) (sheet : Sheet)
    → (2 ≤ length route) × AllBelow 10000 route × Part text p (numbers_line (bytes "(route") route) q
    → (1 ≤ length over) × AllBelow 10000 over × Part text q (numbers_line (bytes "(over") over) s
    → RoutesStand text from to k (rs ++ (route ∷ [])) (os ++ (over ∷ [])) s sheet → RoutesStand text from to k rs os p sheet
unfolding route_lines
one_more text from to k rs os route over p q s sheet one other after =
    let route_line = numbers_line (bytes "(route") route in
    let over_line = numbers_line (bytes "(over") over in
    let lines = route_lines after.routes after.overs in
    let rest = lines ++ kept_and_end after.kept in
    let joined : (route_line ++ (over_line ++ lines)) ++ kept_and_end after.kept ≡ route_line ++ (over_line ++ rest) =
    append_assoc route_line (over_line ++ lines) (kept_and_end after.kept)
    ∙ ap (λ (l : List ℕ). route_line ++ l) (append_assoc over_line lines (kept_and_end after.kept)) in
    record {
      routes = route ∷ after.routes;
      overs = over ∷ after.overs;
      kept = after.kept;
      small = after.small;
      fits = (one.0, other.0, one.1, other.1, after.fits);
      result = rw (append_snoc rs route after.routes, append_snoc os over after.overs) at after.result;
      part =
          rw joined
          (part-append text route_line (over_line ++ rest) p q (length text) one.2
          (part-append text over_line rest q s (length text) other.2 after.part));
    }

read-routes : (most : ℕ) (text : List ℕ) (from to k : ℕ) (rs os : List (List ℕ)) (p : ℕ) (sheet : Sheet) → p ≤ length text
    → read_routes text from to k rs os p most ≡ done sheet → RoutesStand text from to k rs os p sheet
unfolding read_routes
read-routes zero text from to k rs os p sheet within e = read_kept-written text from to k rs os p sheet within e
read-routes (suc most) text from to k rs os p sheet within e =
    go (eqb (byte_at text (p + 1)) 114) e (λ rs os s. read-routes most text from to k rs os s sheet)
  where
    go : (t : Bool)
        → pick t
        (on_scan 14 (scan_numbers text route_front p) λ route q.
        on_scan 14 (scan_numbers text over_front q) λ over s.
        read_routes text from to k (rs ++ (route ∷ [])) (os ++ (over ∷ [])) s most)
        (read_kept text from to k rs os p) ≡ done sheet
        → ((rs os : List (List ℕ)) (s : ℕ) → s ≤ length text → read_routes text from to k rs os s most ≡ done sheet
        → RoutesStand text from to k rs os s sheet)
        → RoutesStand text from to k rs os p sheet
    go true e hyp =
        let (route, q, first, second) =
        on-scan-done 14 (scan_numbers text route_front p)
        (λ route q. on_scan 14 (scan_numbers text over_front q) λ over s.
        read_routes text from to k (rs ++ (route ∷ [])) (os ++ (over ∷ [])) s most) sheet e in
        let (over, s, third, fourth) =
        on-scan-done 14 (scan_numbers text over_front q)
        (λ over s. read_routes text from to k (rs ++ (route ∷ [])) (os ++ (over ∷ [])) s most) sheet second in
        let one = read-route text p route q within first in
        let other = read-over text q over s one.2.within third in
        one_more text from to k rs os route over p q s sheet one other
        (hyp (rs ++ (route ∷ [])) (os ++ (over ∷ [])) s other.2.within fourth)
    go false e hyp = read_kept-written text from to k rs os p sheet within e

-- The sheet and its text from the first line on.
read_whole : (text : List ℕ) (from to k p : ℕ) (sheet : Sheet) → from < 10000 → to < 10000 → k < 10000
    → Part text 0 (write_form sheet_form (from ∷ to ∷ k ∷ [])) p → RoutesStand text from to k [] [] p sheet
    → SheetFits sheet × (sheet_text sheet ≡ text)
unfolding sheet_text
read_whole text from to k p sheet small_from small_to small_k line stand =
    let header = write_form sheet_form (from ∷ to ∷ k ∷ []) in
    let rest = routes_and_end stand.routes stand.overs stand.kept in
    rw stand.result (
      record {
        small_from = small_from;
        small_to = small_to;
        small_k = small_k;
        small_kept = stand.small;
        lines = stand.fits;
      },
      part-whole text (header ++ rest) (part-append text header rest 0 p (length text) line stand.part),
    )

-- What is read as a sheet is the text of that sheet, and that sheet fits: so just the texts of sheets that fit are read.
pub sheet-written : (text : List ℕ) (sheet : Sheet) → read_sheet text ≡ done sheet → SheetFits sheet × (sheet_text sheet ≡ text)
unfolding read_sheet
sheet-written text sheet e =
    let (wish, p, first, second) =
    on-scan-done 14 (scan_form text sheet_form 0)
    (λ wish p. read_routes text (get_or wish 0 0) (get_or wish 1 0) (get_or wish 2 0) [] [] p (length text)) sheet e in
    let line = read-line sheet_form text 0 wish p sheet-line (omega arith) first in
    let numbers = sheet-numbers wish line.0 in
    let from = get_or wish 0 0 in
    let to = get_or wish 1 0 in
    let k = get_or wish 2 0 in
    let here : Part text 0 (write_form sheet_form (from ∷ to ∷ k ∷ [])) p = rw numbers.0 at line.1 in
    read_whole text from to k p sheet numbers.1 numbers.2 numbers.3 here
    (read-routes (length text) text from to k [] [] p sheet line.1.within second)
