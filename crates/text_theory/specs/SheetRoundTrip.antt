-- The round trip of a sheet's text, one way: a sheet that was written is read back.
-- Assumes nothing.
use Rattle.std.specs.Prelude.{ℕ, zero, suc, ◌+◌, ◌≤◌, ◌<◌, ◌≡◌, refl, ltb, length, get_or}
use mathlib.Core.List.{List, [], ◌∷◌, ◌++◌, append_assoc, append-nil, tail}
use Rattle.std.proofs.Common.{◌∙◌, ap, arith, length-append, le-ltb}
use Rattle.std.proofs.Math.Seq.{append_snoc}
use Rattle.definitions.specs.Outcome.{done}
use Rattle.definitions.specs.Lists.{outside}
use Rattle.definitions.specs.Form.{bytes, byte_at, on_scan, write_form, Fits}
use Rattle.definitions.specs.Text.{end_form}
use Rattle.definitions.specs.Plan.{sheet_form, kept_form, Sheet, numbers_line, route_lines, sheet_text}
use Rattle.definitions.specs.SheetForm.{read_kept, read_routes, read_sheet}
use Rattle.definitions.specs.RefusalFourteen.{LinesFit, SheetFits}
use Rattle.lists.specs.Parts.{Part, part-head, part-tail, part-first, part-second, part-start, part_end}
use Rattle.lists.specs.Outcomes.{refuse-not}
use Rattle.text_theory.specs.Forms.{well_formed, well_formed_behind, good_word, no_zero, ends_in_number, Line, end-line}
use Rattle.text_theory.specs.NetworkLines.{line_read, end_fits}
use Rattle.text_theory.specs.NumberLines.{route-read, over-read}

-- The first line of a sheet and its `(kept ..)` line are lines: it can be seen where each number ends.
pub sheet-line : Line sheet_form
unfolding well_formed well_formed_behind good_word no_zero outside ends_in_number sheet_form
sheet-line = (refl, refl)

pub kept_line : Line kept_form
unfolding well_formed well_formed_behind good_word no_zero outside ends_in_number kept_form
kept_line = (refl, refl)

sheet-fits : (from to k : ℕ) → from < 10000 → to < 10000 → k < 10000 → Fits sheet_form (from ∷ to ∷ k ∷ [])
unfolding sheet_form
sheet-fits from to k small_from small_to small_k = (small_from, (small_to, (small_k, tt)))

kept-fits : (kept : ℕ) → kept < 10000 → Fits kept_form (kept ∷ [])
unfolding kept_form
kept-fits kept small = (small, tt)

-- The text of a sheet behind its routes, and behind its first line.
abbrev pub kept_and_end : (kept : ℕ) → List ℕ
kept_and_end kept = write_form kept_form (kept ∷ []) ++ write_form end_form []

abbrev pub routes_and_end : (routes overs : List (List ℕ)) (kept : ℕ) → List ℕ
routes_and_end routes overs kept = route_lines routes overs ++ kept_and_end kept

-- Behind its routes a sheet is read to its end.
kept_read : (text : List ℕ) (from to k : ℕ) (routes overs : List (List ℕ)) (kept p : ℕ) → kept < 10000
    → Part text p (kept_and_end kept) (length text)
    → read_kept text from to k routes overs p
    ≡ done (record { from = from; to = to; k = k; routes = routes; overs = overs; kept = kept })
unfolding read_kept on_scan
kept_read text from to k routes overs kept p small part =
    let line = write_form kept_form (kept ∷ []) in
    let end = write_form end_form [] in
    let q = p + length line in
    rw (
      line_read kept_form (kept ∷ []) text p q kept_line (kept-fits kept small) (part-first text line end p (length text) part),
      line_read end_form [] text q (length text) end-line end_fits (part-second text line end p (length text) part),
    )
    (refuse-not (ltb (length text) (length text)) 14 (length text) _ (le-ltb (length text) (length text) (omega arith)))

-- The second byte tells a `(kept` line from a `(route` line.
kept_second : (text : List ℕ) (kept p q : ℕ) → Part text p (kept_and_end kept) q → byte_at text (p + 1) ≡ 107
unfolding byte_at write_form kept_form
kept_second text kept p q part = part-head text _ 107 (p + 1) q (part-tail text _ 40 p q part)

route-second : (text route : List ℕ) (p q : ℕ) → Part text p (numbers_line (bytes "(route") route) q → byte_at text (p + 1) ≡ 114
unfolding byte_at numbers_line
route-second text route p q part = part-head text _ 114 (p + 1) q (part-tail text _ 40 p q part)

-- Behind the routes that were read so far the others are read, and the rest of the sheet.
routes-read : (routes overs routes_so_far overs_so_far : List (List ℕ)) (text : List ℕ) (from to k kept p most : ℕ)
    → LinesFit routes overs → kept < 10000 → length routes ≤ most → Part text p (routes_and_end routes overs kept) (length text)
    → read_routes text from to k routes_so_far overs_so_far p most
    ≡ done (record { from = from; to = to; k = k; routes = routes_so_far ++ routes; overs = overs_so_far ++ overs; kept = kept })
unfolding read_routes route_lines on_scan
routes-read [] [] rs os text from to k kept p zero fits small few part =
    rw (append-nil rs, append-nil os) (kept_read text from to k rs os kept p small part)
routes-read [] [] rs os text from to k kept p (suc most) fits small few part =
    rw (kept_second text kept p (length text) part, append-nil rs, append-nil os) (kept_read text from to k rs os kept p small part)
routes-read [] (over ∷ overs) rs os text from to k kept p most fits small few part = absurd fits
routes-read (route ∷ routes) [] rs os text from to k kept p most fits small few part = absurd fits
routes-read (route ∷ routes) (over ∷ overs) rs os text from to k kept p zero fits small few part = absurd (omega arith)
routes-read (route ∷ routes) (over ∷ overs) rs os text from to k kept p (suc most) fits small few part =
    let one = numbers_line (bytes "(route") route in
    let other = numbers_line (bytes "(over") over in
    let rest = routes_and_end routes overs kept in
    let end = length text in
    let joined : (one ++ (other ++ route_lines routes overs)) ++ kept_and_end kept ≡ one ++ (other ++ rest) =
    append_assoc one (other ++ route_lines routes overs) (kept_and_end kept)
    ∙ ap (λ (l : List ℕ). one ++ l) (append_assoc other (route_lines routes overs) (kept_and_end kept)) in
    let whole : Part text p (one ++ (other ++ rest)) end = rw joined at part in
    let s = p + length one in
    let r = s + length other in
    let first = part-first text one (other ++ rest) p end whole in
    let behind = part-second text one (other ++ rest) p end whole in
    let after = routes-read routes overs (rs ++ (route ∷ [])) (os ++ (over ∷ [])) text from to k kept r most
    fits.4 small (omega arith) (part-second text other rest s end behind) in
    rw (
      route-second text route p s first,
      route-read route text p s fits.0 fits.2 first,
      over-read over text s r fits.1 fits.3 (part-first text other rest s end behind),
    )
    (rw (append_snoc rs route routes, append_snoc os over overs) at after)

-- There are no more routes than bytes.
line-length : (route : List ℕ) → 1 ≤ length (numbers_line (bytes "(route") route)
unfolding numbers_line
line-length route = omega arith

routes-length : (routes overs : List (List ℕ)) → length routes ≤ length (route_lines routes overs)
unfolding route_lines
routes-length [] overs = omega arith
routes-length (route ∷ routes) overs =
    let other = numbers_line (bytes "(over") (get_or overs 0 []) in
    let rest = route_lines routes (tail overs) in
    omega (
      arith,
      line-length route,
      length-append (numbers_line (bytes "(route") route) (other ++ rest),
      length-append other rest,
      routes-length routes (tail overs),
    )

header_read : (text : List ℕ) (from to k p : ℕ) → from < 10000 → to < 10000 → k < 10000
    → Part text 0 (write_form sheet_form (from ∷ to ∷ k ∷ [])) p
    → read_sheet text ≡ read_routes text from to k [] [] p (length text)
unfolding read_sheet on_scan
header_read text from to k p small_from small_to small_k part =
    rw (line_read sheet_form (from ∷ to ∷ k ∷ []) text 0 p sheet-line (sheet-fits from to k small_from small_to small_k) part)

-- A sheet that was written is read back.
pub sheet-read : (sheet : Sheet) → SheetFits sheet → read_sheet (sheet_text sheet) ≡ done sheet
unfolding sheet_text
sheet-read sheet fits =
    let header = write_form sheet_form (sheet.from ∷ sheet.to ∷ sheet.k ∷ []) in
    let lines = route_lines sheet.routes sheet.overs in
    let end = kept_and_end sheet.kept in
    let text = header ++ (lines ++ end) in
    let few : length sheet.routes ≤ length text =
    omega (
      arith,
      length-append header (lines ++ end),
      length-append lines end,
      routes-length sheet.routes sheet.overs,
    ) in
    header_read text sheet.from sheet.to sheet.k (length header) fits.small_from fits.small_to fits.small_k
    (part-start header (lines ++ end))
    ∙ routes-read sheet.routes sheet.overs [] [] text sheet.from sheet.to sheet.k sheet.kept
    (length header) (length text) fits.lines fits.small_kept few (part_end header (lines ++ end))
