-- What the first pass keeps of a sheet: from, to and k, how many routes, `kept`, and the offset of the first route; and how it comes
-- from the parts of the text. Assumes nothing.
use Prim.Native.Nat.{ℕ, zero, suc, ◌+◌}
use Rattle.std.specs.Prelude.{Bool, List, [], ◌∷◌, ◌++◌, ◌≡◌, eqb, ltb, get_or}
use Rattle.std.proofs.Math.Bool.{true, false}
use Rattle.std.proofs.Common.{append-nil, sym, ◌∙◌}
use Rattle.std.proofs.Math.Path.{refl, ap}
use native.Mathlib.Omega.{arith}
use Rattle.std.proofs.Math.ListN.{length, length-append}
use Rattle.definitions.specs.Outcome.{pick, Outcome, refused, done, refuse_if, and_then}
use Rattle.definitions.specs.Form.{Scan, departs, reads, byte_at, with_front, following, scan_form, on_scan}
use Rattle.definitions.specs.Text.{end_form}
use Rattle.definitions.specs.Plan.{sheet_form, kept_form, Sheet}
use Rattle.definitions.specs.SheetForm.{route_front, over_front, scan_numbers, read_kept, read_routes, read_sheet}
use Rattle.verify.specs.Offsets.{after, behind_or, two_lines, count_lines, kept_end}

abbrev pub summary : (first : ℕ) (sheet : Sheet) → Outcome (List ℕ)
summary first sheet =
    done (sheet.from ∷ sheet.to ∷ sheet.k ∷ length sheet.routes ∷ sheet.kept ∷ first ∷ [])

unfoldable pub summary_of : (text : List ℕ) → Outcome (List ℕ)
summary_of text = and_then (read_sheet text) (summary (behind_or (scan_form text sheet_form 0) 0))

module _ (text : List ℕ) (from to k first : ℕ) where
  -- The last two lines, behind so many routes.
  unfoldable pub last_lines : (count p : ℕ) → Outcome (List ℕ)
  last_lines count p =
      on_scan 14 (kept_end text p) λ kept _.
      done (from ∷ to ∷ k ∷ count ∷ get_or kept 0 0 ∷ first ∷ [])

  module _ (routes overs : List (List ℕ)) where
    abbrev sheet_of : (kept : List ℕ) → Sheet
    sheet_of kept = record { from = from; to = to; k = k; routes = routes; overs = overs; kept = get_or kept 0 0 }

    abbrev counted : (kept : List ℕ) → Outcome (List ℕ)
    counted kept = done (from ∷ to ∷ k ∷ length routes ∷ get_or kept 0 0 ∷ first ∷ [])

    nothing-after : (kept : List ℕ) (s : ℕ) (b : Bool)
        → and_then (refuse_if b 14 s (done (sheet_of kept))) (summary first)
        ≡ on_scan 14 (with_front kept (pick b (departs s) (reads [] s))) (λ values _. counted values)
    unfolding refuse_if and_then with_front on_scan
    nothing-after kept s true = refl
    nothing-after kept s false = ap counted (sym (append-nil kept))

    end_after : (kept : List ℕ) (scan : Scan)
        → and_then (on_scan 14 scan (λ _ s. refuse_if (ltb s (length text)) 14 s (done (sheet_of kept)))) (summary first)
        ≡ on_scan 14 (with_front kept (after scan (λ s. pick (ltb s (length text)) (departs s) (reads [] s)))) (λ values _. counted values)
    unfolding on_scan after with_front and_then
    end_after kept (departs q) = refl
    end_after kept (reads values q) = nothing-after kept q (ltb q (length text))

    kept-after : (scan : Scan)
        → and_then (on_scan 14 scan (λ kept q. on_scan 14 (scan_form text end_form q) λ _ s. refuse_if (ltb s (length text)) 14 s (done (sheet_of kept))))
        (summary first)
        ≡ on_scan 14 (following scan (λ q. after (scan_form text end_form q) (λ s. pick (ltb s (length text)) (departs s) (reads [] s))))
        (λ values _. counted values)
    unfolding on_scan following and_then
    kept-after (departs q) = refl
    kept-after (reads kept q) = end_after kept (scan_form text end_form q)

    kept-summary : (p : ℕ) → and_then (read_kept text from to k routes overs p) (summary first) ≡ last_lines (length routes) p
    unfolding read_kept last_lines kept_end
    kept-summary p = kept-after (scan_form text kept_form p)

  -- The routes that are left, and the last two lines.
  abbrev ending : Scan → Outcome (List ℕ)
  ending scan = on_scan 14 scan (λ count q. last_lines (get_or count 0 0) q)

  module _ (most : ℕ) (routes overs : List (List ℕ))
      (later : (route over : List ℕ) (s : ℕ)
      → and_then (read_routes text from to k (routes ++ (route ∷ [])) (overs ++ (over ∷ [])) s most) (summary first)
      ≡ ending (count_lines text (suc (length routes)) s most)) where
    over-summary : (route : List ℕ) (q : ℕ) (scan : Scan)
        → and_then (on_scan 14 scan (λ over s. read_routes text from to k (routes ++ (route ∷ [])) (overs ++ (over ∷ [])) s most)) (summary first)
        ≡ ending (after (after scan (reads (q ∷ []))) (λ s. count_lines text (suc (length routes)) s most))
    unfolding on_scan after and_then
    over-summary route q (departs s) = refl
    over-summary route q (reads over s) = later route over s

    route-summary : (scan : Scan)
        → and_then
        (on_scan 14 scan (λ route q. on_scan 14 (scan_numbers text over_front q) λ over s.
        read_routes text from to k (routes ++ (route ∷ [])) (overs ++ (over ∷ [])) s most)) (summary first)
        ≡ ending (after (after scan (λ q. after (scan_numbers text over_front q) (reads (q ∷ [])))) (λ s. count_lines text (suc (length routes)) s most))
    unfolding on_scan after and_then
    route-summary (departs q) = refl
    route-summary (reads route q) = over-summary route q (scan_numbers text over_front q)

    lines-summary : (p : ℕ) (b : Bool)
        → and_then
        (pick b
        (on_scan 14 (scan_numbers text route_front p) λ route q. on_scan 14 (scan_numbers text over_front q) λ over s.
        read_routes text from to k (routes ++ (route ∷ [])) (overs ++ (over ∷ [])) s most)
        (read_kept text from to k routes overs p)) (summary first)
        ≡ ending (pick b (after (two_lines text p) (λ s. count_lines text (suc (length routes)) s most)) (reads (length routes ∷ []) p))
    unfolding two_lines on_scan
    lines-summary p true = route-summary (scan_numbers text route_front p)
    lines-summary p false = kept-summary routes overs p

  pub routes-summary : (most : ℕ) (routes overs : List (List ℕ)) (p : ℕ)
      → and_then (read_routes text from to k routes overs p most) (summary first) ≡ ending (count_lines text (length routes) p most)
  unfolding read_routes count_lines on_scan
  routes-summary zero routes overs p = kept-summary routes overs p
  routes-summary (suc most) routes overs p =
      lines-summary most routes overs
      (λ route over s.
      let one : length (routes ++ (route ∷ [])) ≡ suc (length routes) = length-append routes (route ∷ []) ∙ omega arith in
      rw (← one) (routes-summary most (routes ++ (route ∷ [])) (overs ++ (over ∷ [])) s))
      p (eqb (byte_at text (p + 1)) 114)

-- From the first line on.
pub head-departs : (text : List ℕ) (p : ℕ) → scan_form text sheet_form 0 ≡ departs p → summary_of text ≡ refused 14 p
unfolding summary_of read_sheet on_scan and_then
head-departs text p e = rw e

head-reads : (text : List ℕ) (from to k first : ℕ) → scan_form text sheet_form 0 ≡ reads (from ∷ to ∷ k ∷ []) first
    → summary_of text
    ≡ on_scan 14 (count_lines text 0 first (length text)) (λ count q. last_lines text from to k first (get_or count 0 0) q)
unfolding summary_of read_sheet on_scan behind_or
head-reads text from to k first e = rw e (routes-summary text from to k first (length text) [] [] first)

-- Which of the parts departs, and what the text says where none does.
module _ (text : List ℕ) (from to k first : ℕ) (head : scan_form text sheet_form 0 ≡ reads (from ∷ to ∷ k ∷ []) first) where
  pub lines-depart : (p : ℕ) → count_lines text 0 first (length text) ≡ departs p → summary_of text ≡ refused 14 p
  unfolding on_scan
  lines-depart p e = head-reads text from to k first head ∙ rw e

  module _ (count p : ℕ) (lines : count_lines text 0 first (length text) ≡ reads (count ∷ []) p) where
    pub end-departs : (q : ℕ) → kept_end text p ≡ departs q → summary_of text ≡ refused 14 q
    unfolding on_scan last_lines
    end-departs q e = head-reads text from to k first head ∙ rw (lines, e)

    pub all_read : (kept q : ℕ) → kept_end text p ≡ reads (kept ∷ []) q
        → summary_of text ≡ done (from ∷ to ∷ k ∷ count ∷ kept ∷ first ∷ [])
    unfolding on_scan last_lines
    all_read kept q e = head-reads text from to k first head ∙ rw (lines, e)
