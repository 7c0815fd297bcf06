-- How far the reader of a sheet's text looks: where it refuses a text, it refuses every text that is alike up to that byte.
-- Assumes nothing.
use Rattle.std.specs.Prelude.{ℕ, zero, suc, ◌+◌, ◌≤◌, ◌<◌, Bool, true, false, List, [], ◌∷◌, ◌++◌, ◌≡◌, refl, eqb, ltb, length, get_or}
use Rattle.std.proofs.Common.{sym, ◌∙◌, arith, eqb-true}
use Rattle.definitions.specs.Outcome.{pick, Outcome, refused, done, refuse_if}
use Rattle.definitions.specs.Form.{
  Item,
  word,
  Scan,
  departs,
  reads,
  byte_at,
  scan_word,
  scan_number,
  scan_item,
  following,
  scan_form,
  on_scan,
  scan_more,
}
use Rattle.definitions.specs.Text.{end_form}
use Rattle.definitions.specs.Plan.{sheet_form, kept_form, Sheet}
use Rattle.definitions.specs.SheetForm.{route_front, over_front, line_end, scan_numbers, read_kept, read_routes, read_sheet}
use Rattle.text_theory.specs.Numbers.{past_end}
use Rattle.text_theory.specs.Looks.{offset, Alike, Looks, number-looks, offset-front, form-looks}
use Rattle.text_theory.specs.SameReadings.{Agree, looks-agree, following-agree, on-scan-agree, end-agrees}

-- Where no space stands, no more numbers are read.
no-space : (text : List ℕ) (p most : ℕ) → eqb (byte_at text p) 32 ≡ false → scan_more text p most ≡ reads [] p
unfolding scan_more
no-space text p zero e = refl
no-space text p (suc most) e = rw e

-- Where a space stands, a number is due, and the bytes left are still enough.
space-next : (text : List ℕ) (p most : ℕ) → eqb (byte_at text p) 32 ≡ true → length text ≤ p + most
    → (less : ℕ) × (length text ≤ p + 1 + less)
    × (scan_more text p most ≡ following (scan_number text (p + 1)) (λ q. scan_more text q less))
unfolding scan_more
space-next text p zero e h =
    absurd (omega (arith, eqb-true (byte_at text p) 32 e, past_end text p (omega arith)))
space-next text p (suc most) e h = (most, omega arith, rw e)

-- More numbers from p on give `scan`, and so they do in every text that is alike up to there, with bounds that are enough.
abbrev MoreLooks : (text : List ℕ) (p : ℕ) (scan : Scan) → Type 0
MoreLooks text p scan =
    (p ≤ offset scan)
    × ((most : ℕ) (other : List ℕ) → length other ≤ p + most → Alike text other (offset scan) → scan_more other p most ≡ scan)

more-looks : (most : ℕ) (text : List ℕ) (p : ℕ) → length text ≤ p + most → MoreLooks text p (scan_more text p most)
unfolding scan_more following
more-looks zero text p enough = (
  omega arith,
  λ most other h alike. no-space other p most (rw (alike p (omega arith), past_end text p (omega arith))),
)
more-looks (suc most) text p enough =
    go (eqb (byte_at text p) 32) refl (scan_number text (p + 1)) (number-looks text (p + 1)) (more-looks most text)
  where
    go : (t : Bool) → eqb (byte_at text p) 32 ≡ t → (scan : Scan) → Looks text (p + 1) (λ t. scan_number t (p + 1)) scan
        → ((s : ℕ) → length text ≤ s + most → MoreLooks text s (scan_more text s most))
        → MoreLooks text p (pick t (following scan λ q. scan_more text q most) (reads [] p))
    go false test scan here after = (
      omega arith,
      λ most other h alike. no-space other p most (rw (alike p (omega arith), test)),
    )
    go true test (departs q) here after = (
      omega arith,
      λ most other h alike.
          let next = space-next other p most (rw (alike p (omega arith)) test) h in
          next.2 ∙ rw (here.1 other alike),
    )
    go true test (reads values q) here after =
        let rest = after q (omega arith) in
        let same = offset-front values (scan_more text q most) in (
          omega arith,
          λ fuel other h alike.
              let next = space-next other p fuel (rw (alike p (omega arith)) test) h in
              next.2
              ∙ rw (
                here.1 other (λ i h. alike i (omega arith)),
                rest.1 next.0 other (omega (arith, next.1)) (λ i h. alike i (omega arith)),
              ),
        )

-- Two readings, one behind the other.
following-looks : (text : List ℕ) (p : ℕ) (first : List ℕ → Scan) (next : List ℕ → ℕ → Scan) → Looks text p first (first text)
    → ((q : ℕ) → Looks text q (λ t. next t q) (next text q))
    → Looks text p (λ t. following (first t) (next t)) (following (first text) (next text))
following-looks text p first next here after =
    ((agree text (λ i h. refl)).0, λ other alike. (agree other alike).1 (omega arith))
  where
    end : ℕ
    end = offset (following (first text) (next text))

    agree : (other : List ℕ) → Alike text other end
        → Agree p end (following (first text) (next text)) (following (first other) (next other))
    agree other alike =
        following-agree p end (first text) (first other) (next text) (next other)
        (looks-agree text other p end first (first text) here alike)
        (λ s _. looks-agree text other s end (λ t. next t s) (next text s) (after s) alike)

-- A line of numbers, where its front looks so.
line-looks : (front : List Item) (text : List ℕ) (p at : ℕ) → Looks text p (λ t. scan_form t front at) (scan_form text front at)
    → Looks text p (λ t. scan_numbers t front at) (scan_numbers text front at)
unfolding scan_numbers
line-looks front text p at here =
    following-looks text p (λ t. scan_form t front at)
    (λ t q. following (scan_more t q (length t)) (scan_form t line_end)) here
    (λ q. following-looks text q (λ t. scan_more t q (length t)) (λ t. scan_form t line_end)
    (let more = more-looks (length text) text q (omega arith) in
    (more.0, λ other alike. more.1 (length other) other (omega arith) alike))
    (form-looks line_end text))

-- A form that begins with this byte: it departs there, or goes on behind it.
front-departs : (b : ℕ) (w : List ℕ) (items : List Item) (text : List ℕ) (p : ℕ) → eqb (byte_at text p) b ≡ false
    → scan_form text (word (b ∷ w) ∷ items) p ≡ departs p
unfolding scan_form scan_item scan_word following
front-departs b w items text p e = rw e

front-onward : (b : ℕ) (w : List ℕ) (items : List Item) (text : List ℕ) (p : ℕ) → eqb (byte_at text p) b ≡ true
    → scan_form text (word (b ∷ w) ∷ items) p ≡ scan_form text (word w ∷ items) (p + 1)
unfolding scan_form scan_item scan_word
front-onward b w items text p e = rw e

front-looks : (b : ℕ) (w : List ℕ) (items : List Item) (text : List ℕ) (p : ℕ) → eqb (byte_at text p) b ≡ true
    → Looks text (p + 1) (λ t. scan_form t (word (b ∷ w) ∷ items) p) (scan_form text (word (b ∷ w) ∷ items) p)
front-looks b w items text p e = (
  rw (front-onward b w items text p e) (form-looks (word w ∷ items) text (p + 1)).0,
  (form-looks (word (b ∷ w) ∷ items) text p).1,
)

-- The other text is refused at q too, from p on, with a bound that is enough for its bytes; and p is at q or before it.
abbrev RefusedToo : (other : List ℕ) (p q : ℕ) (reading : ℕ → Outcome Sheet) → Type 0
RefusedToo other p q reading = (p ≤ q) × ((most : ℕ) → length other ≤ p + most → reading most ≡ refused 14 q)

on-scan-looks : (text other : List ℕ) (p q : ℕ) (first : List ℕ → Scan) (next : List ℕ → ℕ → Outcome Sheet)
    (other_next : ℕ → List ℕ → ℕ → Outcome Sheet) → Looks text p first (first text) → Alike text other q
    → ((values : List ℕ) (s : ℕ) → p ≤ s → next values s ≡ refused 14 q
    → RefusedToo other s q (λ most. other_next most values s))
    → on_scan 14 (first text) next ≡ refused 14 q
    → RefusedToo other p q (λ most. on_scan 14 (first other) (other_next most))
on-scan-looks text other p q first next other_next here alike after e =
    ((with (length other) (omega arith)).0, λ most enough. (with most enough).1)
  where
    with : (most : ℕ) → length other ≤ p + most → (p ≤ q) × (on_scan 14 (first other) (other_next most) ≡ refused 14 q)
    with most enough =
        on-scan-agree 14 p q (first text) (first other) next (other_next most)
        (looks-agree text other p q first (first text) here alike)
        (λ values s later f. let rest = after values s later f in (rest.0, rest.1 most (omega arith))) e

kept-looks : (text other : List ℕ) (from to k : ℕ) (rs os : List (List ℕ)) (p q : ℕ) → q < length other → Alike text other q
    → eqb (byte_at text p) 40 ≡ true → read_kept text from to k rs os p ≡ refused 14 q
    → RefusedToo other (p + 1) q (λ _. read_kept other from to k rs os p)
unfolding read_kept kept_form
kept-looks text other from to k rs os p q longer alike bracket e =
    on-scan-looks text other (p + 1) q (λ t. scan_form t kept_form p)
    (λ kept s. on_scan 14 (scan_form text end_form s) λ _ r. refuse_if (ltb r (length text)) 14 r (done (sheet kept)))
    (λ _ kept s. on_scan 14 (scan_form other end_form s) λ _ r. refuse_if (ltb r (length other)) 14 r (done (sheet kept)))
    (front-looks 40 _ _ text p bracket) alike
    (λ kept s _. on-scan-looks text other s q (λ t. scan_form t end_form s)
    (λ _ r. refuse_if (ltb r (length text)) 14 r (done (sheet kept)))
    (λ _ _ r. refuse_if (ltb r (length other)) 14 r (done (sheet kept)))
    (form-looks end_form text s) alike
    (λ _ r _ f. let rest = end-agrees 14 text other (sheet kept) r q longer f in (rest.0, λ _ _. rest.1)))
    e
  where
    sheet : List ℕ → Sheet
    sheet kept = record { from = from; to = to; k = k; routes = rs; overs = os; kept = get_or kept 0 0 }

-- Where no bracket stands, the line departs at once, whichever is due.
no-bracket : (text : List ℕ) (from to k : ℕ) (rs os : List (List ℕ)) (p most : ℕ) → eqb (byte_at text p) 40 ≡ false
    → read_routes text from to k rs os p most ≡ refused 14 p
unfolding read_routes read_kept kept_form route_front scan_numbers on_scan following
no-bracket text from to k rs os p zero e = rw (front-departs 40 _ _ text p e)
no-bracket text from to k rs os p (suc most) e = go (eqb (byte_at text (p + 1)) 114)
  where
    go : (t : Bool)
        → pick t
        (on_scan 14 (scan_numbers text route_front p) λ route q.
        on_scan 14 (scan_numbers text over_front q) λ over s.
        read_routes text from to k (rs ++ (route ∷ [])) (os ++ (over ∷ [])) s most)
        (read_kept text from to k rs os p) ≡ refused 14 p
    go true = rw (front-departs 40 _ _ text p e)
    go false = rw (front-departs 40 _ _ text p e)

routes-stop : (text other : List ℕ) (from to k : ℕ) (rs os : List (List ℕ)) (p most q : ℕ) → Alike text other q
    → eqb (byte_at text p) 40 ≡ false → read_routes text from to k rs os p most ≡ refused 14 q
    → RefusedToo other p q (read_routes other from to k rs os p)
routes-stop text other from to k rs os p most q alike none e =
    let both : ◌≡◌ {A = Outcome Sheet} (refused 14 p) (refused 14 q) = sym (no-bracket text from to k rs os p most none) ∙ e in
    let same : p ≡ q = cc in (
      omega arith,
      λ fuel enough. no-bracket other from to k rs os p fuel (rw (alike p (omega arith)) none) ∙ both,
    )

routes-looks : (most : ℕ) (text other : List ℕ) (from to k : ℕ) (rs os : List (List ℕ)) (p q : ℕ) → length text ≤ p + most
    → q < length other → Alike text other q → read_routes text from to k rs os p most ≡ refused 14 q
    → RefusedToo other p q (read_routes other from to k rs os p)
unfolding read_routes route_front
routes-looks zero text other from to k rs os p q enough longer alike e =
    routes-stop text other from to k rs os p 0 q alike (rw (past_end text p (omega arith))) e
routes-looks (suc most) text other from to k rs os p q enough longer alike e =
    go (eqb (byte_at text p) 40) refl (eqb (byte_at text (p + 1)) 114) refl e
    (λ rs os s. routes-looks most text other from to k rs os s q)
  where
    other_route : ℕ → Outcome Sheet
    other_route fuel =
        on_scan 14 (scan_numbers other route_front p) λ route at.
        on_scan 14 (scan_numbers other over_front at) λ over s.
        read_routes other from to k (rs ++ (route ∷ [])) (os ++ (over ∷ [])) s fuel

    -- The byte behind the bracket is the same in both texts, so the same line is due.
    step : (t : Bool) → eqb (byte_at text (p + 1)) 114 ≡ t
        → RefusedToo other (p + 1) q (λ fuel. pick t (other_route fuel) (read_kept other from to k rs os p))
        → (fuel : ℕ) → length other ≤ p + fuel → read_routes other from to k rs os p fuel ≡ refused 14 q
    step t test rest zero enough = absurd (omega (arith, rest.0))
    step t test rest (suc fuel) enough = rw (alike (p + 1) rest.0, test) (rest.1 fuel (omega arith))

    go : (b : Bool) → eqb (byte_at text p) 40 ≡ b → (t : Bool) → eqb (byte_at text (p + 1)) 114 ≡ t
        → pick t
        (on_scan 14 (scan_numbers text route_front p) λ route at.
        on_scan 14 (scan_numbers text over_front at) λ over s.
        read_routes text from to k (rs ++ (route ∷ [])) (os ++ (over ∷ [])) s most)
        (read_kept text from to k rs os p) ≡ refused 14 q
        → ((rs os : List (List ℕ)) (s : ℕ) → length text ≤ s + most → q < length other → Alike text other q
        → read_routes text from to k rs os s most ≡ refused 14 q → RefusedToo other s q (read_routes other from to k rs os s))
        → RefusedToo other p q (read_routes other from to k rs os p)
    go false none t test e hyp =
        routes-stop text other from to k rs os p (suc most) q alike none (rw test e)
    go true bracket false test e hyp =
        let rest = kept-looks text other from to k rs os p q longer alike bracket e in
        (omega (arith, rest.0), step false test rest)
    go true bracket true test e hyp =
        let rest : RefusedToo other (p + 1) q other_route =
        on-scan-looks text other (p + 1) q (λ t. scan_numbers t route_front p)
        (λ route at. on_scan 14 (scan_numbers text over_front at) λ over s.
        read_routes text from to k (rs ++ (route ∷ [])) (os ++ (over ∷ [])) s most)
        (λ fuel route at. on_scan 14 (scan_numbers other over_front at) λ over s.
        read_routes other from to k (rs ++ (route ∷ [])) (os ++ (over ∷ [])) s fuel)
        (line-looks route_front text (p + 1) p (front-looks 40 _ _ text p bracket)) alike
        (λ route at later. on-scan-looks text other at q (λ t. scan_numbers t over_front at)
        (λ over s. read_routes text from to k (rs ++ (route ∷ [])) (os ++ (over ∷ [])) s most)
        (λ fuel over s. read_routes other from to k (rs ++ (route ∷ [])) (os ++ (over ∷ [])) s fuel)
        (line-looks over_front text at at (form-looks over_front text at)) alike
        (λ over s after. hyp (rs ++ (route ∷ [])) (os ++ (over ∷ [])) s (omega arith) longer alike))
        e in
        (omega (arith, rest.0), step true test rest)

-- A text that is alike up to and with the byte at which a sheet's text is refused, and has it, is refused there too.
pub sheet-looks : (text other : List ℕ) (q : ℕ) → q < length other → Alike text other q → read_sheet text ≡ refused 14 q
    → read_sheet other ≡ refused 14 q
unfolding read_sheet
sheet-looks text other q longer alike e =
    (on-scan-looks text other 0 q (λ t. scan_form t sheet_form 0)
    (λ wish p. read_routes text (get_or wish 0 0) (get_or wish 1 0) (get_or wish 2 0) [] [] p (length text))
    (λ fuel wish p. read_routes other (get_or wish 0 0) (get_or wish 1 0) (get_or wish 2 0) [] [] p fuel)
    (form-looks sheet_form text 0) alike
    (λ wish p _. routes-looks (length text) text other (get_or wish 0 0) (get_or wish 1 0) (get_or wish 2 0) [] [] p q (omega arith) longer alike)
    e).1 (length other) (omega arith)
