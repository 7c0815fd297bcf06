-- Where the reader refuses a sheet's text, the bytes before begin the text of a sheet that fits.
-- Assumes nothing.
use Rattle.std.specs.Prelude.{ℕ, zero, suc, ◌+◌, ◌≤◌, ◌<◌, Bool, true, false, List, [], ◌∷◌, ◌++◌, ◌≡◌, refl, eqb, ltb, length, get_or}
use Rattle.std.proofs.Common.{append_assoc, append-nil, ◌∙◌, ap, arith}
use Rattle.definitions.specs.Outcome.{pick, refused, done, refuse_if}
use Rattle.definitions.specs.Form.{bytes, Scan, departs, reads, byte_at, scan_form, on_scan, write_form}
use Rattle.definitions.specs.Text.{end_form}
use Rattle.definitions.specs.Plan.{sheet_form, kept_form, Sheet, numbers_line, route_lines, sheet_text}
use Rattle.definitions.specs.SheetForm.{route_front, over_front, scan_numbers, read_kept, read_routes, read_sheet}
use Rattle.definitions.specs.Lists.{AllBelow}
use Rattle.definitions.specs.RefusalFourteen.{SheetFits, LinesFit}
use Rattle.lists.specs.Parts.{Part, part-append}
use Rattle.text_theory.specs.Forms.{end-line}
use Rattle.text_theory.specs.NetworkLines.{read-line, end-numbers}
use Rattle.text_theory.specs.NumberLines.{read-route, read-over}
use Rattle.text_theory.specs.SheetRoundTrip.{sheet-line, kept_line, kept_and_end, routes_and_end}
use Rattle.text_theory.specs.SheetWritten.{sheet-numbers, kept-numbers}
use Rattle.text_theory.specs.LineBegun.{BeginsAt, begins-first, begins-later, form-begins, route-begins, over-begins}

-- From p up to q the text begins what a sheet has behind its first line, with some routes.
record RoutesBegun (text : List ℕ) (p q : ℕ) : Type 0 where
  routes : List (List ℕ)
  overs : List (List ℕ)
  kept : ℕ
  small : kept < 10000
  fits : LinesFit routes overs
  begun : BeginsAt text p q (routes_and_end routes overs kept)

-- No more routes.
none_more : (text : List ℕ) (p q kept : ℕ) → kept < 10000 → BeginsAt text p q (kept_and_end kept) → RoutesBegun text p q
unfolding route_lines
none_more text p q kept small begun =
    record { routes = []; overs = []; kept = kept; small = small; fits = tt; begun = begun }

kept-begins : (text : List ℕ) (from to k : ℕ) (rs os : List (List ℕ)) (p q : ℕ) → p ≤ length text
    → read_kept text from to k rs os p ≡ refused 14 q → RoutesBegun text p q
unfolding read_kept on_scan refuse_if
kept-begins text from to k rs os p q within e = go (scan_form text kept_form p) refl e
  where
    sheet : List ℕ → Sheet
    sheet values = record { from = from; to = to; k = k; routes = rs; overs = os; kept = get_or values 0 0 }

    over : (kept s : ℕ) (whole : Sheet) → kept < 10000 → Part text p (kept_and_end kept) s → (b : Bool)
        → refuse_if b 14 s (done whole) ≡ refused 14 q → RoutesBegun text p q
    over kept s whole small part true e =
        let same : s ≡ q = cc in
        none_more text p q kept small (kept_and_end kept, [], rw same at part, append-nil (kept_and_end kept))
    over kept s whole small part false e = let z : ◌≡◌ {A = ℕ} 0 1 = cc in absurd (omega arith)

    end : (kept s : ℕ) (whole : Sheet) → kept < 10000 → Part text p (write_form kept_form (kept ∷ [])) s → (scan : Scan)
        → scan_form text end_form s ≡ scan
        → on_scan 14 scan (λ _ r. refuse_if (ltb r (length text)) 14 r (done whole)) ≡ refused 14 q → RoutesBegun text p q
    end kept s whole small part (departs at) first e =
        let same : at ≡ q = cc in
        let (none, none_fits, begun) = form-begins end_form text s q end-line.0 part.within (first ∙ ap departs same) in
        let here : BeginsAt text s q (write_form end_form []) = rw (end-numbers none none_fits) at begun in
        none_more text p q kept small
        (begins-later text p s q (write_form kept_form (kept ∷ [])) (write_form end_form []) part here)
    end kept s whole small part (reads none r) first e =
        let line = read-line end_form text s none r end-line part.within first in
        let here : Part text s (write_form end_form []) r = rw (end-numbers none line.0) at line.1 in
        over kept r whole small
        (part-append text (write_form kept_form (kept ∷ [])) (write_form end_form []) p s r part here)
        (ltb r (length text)) e

    go : (scan : Scan) → scan_form text kept_form p ≡ scan
        → on_scan 14 scan
        (λ values s. on_scan 14 (scan_form text end_form s) λ _ r. refuse_if (ltb r (length text)) 14 r (done (sheet values)))
        ≡ refused 14 q → RoutesBegun text p q
    go (departs at) first e =
        let same : at ≡ q = cc in
        let (values, fits, begun) = form-begins kept_form text p q kept_line.0 within (first ∙ ap departs same) in
        let number = kept-numbers values fits in
        let kept = get_or values 0 0 in
        let here : BeginsAt text p q (write_form kept_form (kept ∷ [])) = rw number.0 at begun in
        none_more text p q kept number.1
        (begins-first text p q (write_form kept_form (kept ∷ [])) (write_form end_form []) here)
    go (reads values s) first e =
        let line = read-line kept_form text p values s kept_line within first in
        let number = kept-numbers values line.0 in
        let here : Part text p (write_form kept_form (get_or values 0 0 ∷ [])) s = rw number.0 at line.1 in
        end (get_or values 0 0) s (sheet values) number.1 here (scan_form text end_form s) refl e

-- A route with its links, both begun or standing, and no other behind it.
last-route : (text route over : List ℕ) (p q : ℕ) → 2 ≤ length route → 1 ≤ length over → AllBelow 10000 route → AllBelow 10000 over
    → BeginsAt text p q (numbers_line (bytes "(route") route ++ numbers_line (bytes "(over") over) → RoutesBegun text p q
unfolding route_lines
last-route text route over p q two one small_route small_over begun =
    let route_line = numbers_line (bytes "(route") route in
    let over_line = numbers_line (bytes "(over") over in
    let lines : BeginsAt text p q (route_line ++ (over_line ++ [])) = rw (append-nil over_line) begun in
    record {
      routes = route ∷ [];
      overs = over ∷ [];
      kept = 0;
      small = omega arith;
      fits = (two, one, small_route, small_over, tt);
      begun = begins-first text p q (route_line ++ (over_line ++ [])) (kept_and_end 0) lines;
    }

-- A route with its links, and behind it the others.
one_more : (text route over : List ℕ) (p at s q : ℕ)
    → (2 ≤ length route) × AllBelow 10000 route × Part text p (numbers_line (bytes "(route") route) at
    → (1 ≤ length over) × AllBelow 10000 over × Part text at (numbers_line (bytes "(over") over) s
    → RoutesBegun text s q → RoutesBegun text p q
unfolding route_lines
one_more text route over p at s q one other after =
    let route_line = numbers_line (bytes "(route") route in
    let over_line = numbers_line (bytes "(over") over in
    let lines = route_lines after.routes after.overs in
    let end = kept_and_end after.kept in
    let rest = lines ++ end in
    let joined : (route_line ++ (over_line ++ lines)) ++ end ≡ route_line ++ (over_line ++ rest) =
    append_assoc route_line (over_line ++ lines) end ∙ ap (λ (l : List ℕ). route_line ++ l) (append_assoc over_line lines end) in
    record {
      routes = route ∷ after.routes;
      overs = over ∷ after.overs;
      kept = after.kept;
      small = after.small;
      fits = (one.0, other.0, one.1, other.1, after.fits);
      begun =
          rw joined
          (begins-later text p at q route_line (over_line ++ rest) one.2
          (begins-later text at s q over_line rest other.2 after.begun));
    }

routes-begin : (most : ℕ) (text : List ℕ) (from to k : ℕ) (rs os : List (List ℕ)) (p q : ℕ) → p ≤ length text
    → read_routes text from to k rs os p most ≡ refused 14 q → RoutesBegun text p q
unfolding read_routes on_scan
routes-begin zero text from to k rs os p q within e = kept-begins text from to k rs os p q within e
routes-begin (suc most) text from to k rs os p q within e =
    go (eqb (byte_at text (p + 1)) 114) e (λ rs os s. routes-begin most text from to k rs os s q)
  where
    Hyp : Type 0
    Hyp = (rs os : List (List ℕ)) (s : ℕ) → s ≤ length text → read_routes text from to k rs os s most ≡ refused 14 q
        → RoutesBegun text s q

    over_due : (route : List ℕ) (at : ℕ)
        → (2 ≤ length route) × AllBelow 10000 route × Part text p (numbers_line (bytes "(route") route) at
        → (scan : Scan) → scan_numbers text over_front at ≡ scan
        → on_scan 14 scan (λ over s. read_routes text from to k (rs ++ (route ∷ [])) (os ++ (over ∷ [])) s most) ≡ refused 14 q
        → Hyp → RoutesBegun text p q
    over_due route at one (departs s) first e hyp =
        let same : s ≡ q = cc in
        let (over, many, small, begun) = over-begins text at q one.2.within (first ∙ ap departs same) in
        last-route text route over p q one.0 many one.1 small
        (begins-later text p at q (numbers_line (bytes "(route") route) (numbers_line (bytes "(over") over) one.2 begun)
    over_due route at one (reads over s) first e hyp =
        let other = read-over text at over s one.2.within first in
        one_more text route over p at s q one other (hyp (rs ++ (route ∷ [])) (os ++ (over ∷ [])) s other.2.within e)

    route_due : (scan : Scan) → scan_numbers text route_front p ≡ scan
        → on_scan 14 scan
        (λ route at. on_scan 14 (scan_numbers text over_front at) λ over s.
        read_routes text from to k (rs ++ (route ∷ [])) (os ++ (over ∷ [])) s most) ≡ refused 14 q
        → Hyp → RoutesBegun text p q
    route_due (departs at) first e hyp =
        let same : at ≡ q = cc in
        let (route, many, small, begun) = route-begins text p q within (first ∙ ap departs same) in
        last-route text route (0 ∷ []) p q many (omega arith) small (omega arith, tt)
        (begins-first text p q (numbers_line (bytes "(route") route) (numbers_line (bytes "(over") (0 ∷ [])) begun)
    route_due (reads route at) first e hyp =
        over_due route at (read-route text p route at within first) (scan_numbers text over_front at) refl e hyp

    go : (t : Bool)
        → pick t
        (on_scan 14 (scan_numbers text route_front p) λ route at.
        on_scan 14 (scan_numbers text over_front at) λ over s.
        read_routes text from to k (rs ++ (route ∷ [])) (os ++ (over ∷ [])) s most)
        (read_kept text from to k rs os p) ≡ refused 14 q
        → Hyp → RoutesBegun text p q
    go true e hyp = route_due (scan_numbers text route_front p) refl e hyp
    go false e hyp = kept-begins text from to k rs os p q within e

-- Where a sheet's text is refused, the bytes before begin the text of a sheet that fits.
pub sheet-begins : (text : List ℕ) (q : ℕ) → read_sheet text ≡ refused 14 q
    → (sheet : Sheet) × SheetFits sheet × BeginsAt text 0 q (sheet_text sheet)
unfolding read_sheet on_scan sheet_text route_lines
sheet-begins text q e = go (scan_form text sheet_form 0) refl e
  where
    go : (scan : Scan) → scan_form text sheet_form 0 ≡ scan
        → on_scan 14 scan
        (λ wish p. read_routes text (get_or wish 0 0) (get_or wish 1 0) (get_or wish 2 0) [] [] p (length text)) ≡ refused 14 q
        → (sheet : Sheet) × SheetFits sheet × BeginsAt text 0 q (sheet_text sheet)
    go (departs at) first e =
        let same : at ≡ q = cc in
        let (wish, fits, begun) = form-begins sheet_form text 0 q sheet-line.0 (omega arith) (first ∙ ap departs same) in
        let numbers = sheet-numbers wish fits in
        let header = write_form sheet_form (get_or wish 0 0 ∷ get_or wish 1 0 ∷ get_or wish 2 0 ∷ []) in
        let here : BeginsAt text 0 q header = rw numbers.0 at begun in (
          record { from = get_or wish 0 0; to = get_or wish 1 0; k = get_or wish 2 0; routes = []; overs = []; kept = 0 },
          record { small_from = numbers.1; small_to = numbers.2; small_k = numbers.3; small_kept = omega arith; lines = tt },
          begins-first text 0 q header (kept_and_end 0) here,
        )
    go (reads wish p) first e =
        let line = read-line sheet_form text 0 wish p sheet-line (omega arith) first in
        let numbers = sheet-numbers wish line.0 in
        let header = write_form sheet_form (get_or wish 0 0 ∷ get_or wish 1 0 ∷ get_or wish 2 0 ∷ []) in
        let here : Part text 0 header p = rw numbers.0 at line.1 in
        let rest = routes-begin (length text) text (get_or wish 0 0) (get_or wish 1 0) (get_or wish 2 0) [] [] p q line.1.within e in (
          record {
            from = get_or wish 0 0;
            to = get_or wish 1 0;
            k = get_or wish 2 0;
            routes = rest.routes;
            overs = rest.overs;
            kept = rest.kept;
          },
          record { small_from = numbers.1; small_to = numbers.2; small_k = numbers.3; small_kept = rest.small; lines = rest.fits },
          begins-later text 0 p q header (routes_and_end rest.routes rest.overs rest.kept) here rest.begun,
        )
