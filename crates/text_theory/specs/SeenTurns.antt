-- Those that a report sees, read one by one as code does: what is read so far is good, or the report is bad whatever comes behind.
-- Assumes nothing.
use Rattle.std.specs.Prelude.{ℕ, zero, suc, ◌+◌, ◌-◌, ◌≤◌, ◌<◌, Bool, ◌&&◌, ◌||◌, ◌≡◌, refl, eqb, ltb, length}
use Rattle.std.proofs.Math.Bool.{true, false, not}
use mathlib.Core.List.{List, [], ◌∷◌, ◌++◌, append-nil}
use Rattle.std.proofs.Common.{sym, ◌∙◌, subst, add-one, arith, eq-eqb, ne_eqb, lt-ltb, le-ltb, le-leb}
use Rattle.std.proofs.Math.Path.{ap}
use Rattle.std.proofs.lemmas.Bool.{lt-leb}
use Rattle.std.proofs.Math.Seq.{append_snoc}
use Rattle.definitions.specs.Lists.{has, greatest}
use Rattle.definitions.specs.Form.{Scan, departs, reads, byte_at, scan_number, with_front, following, scan_more}
use Rattle.definitions.specs.Reports.{Report, rises_from, top_of, bad_report}
use Rattle.lists.specs.Tests.{or_left, or_right, or-neither}
use Rattle.lists.specs.Members.{has-append}
use Rattle.lists.specs.Cases.{has_here}
use Rattle.lists.specs.Greatest.{greatest-snoc, greatest-member}
use Rattle.text_theory.specs.Forms.{front-none, with-front-reads}

-- Two fronts are one.
front-twice : (front : List ℕ) (x : ℕ) (scan : Scan) → with_front front (with_front (x ∷ []) scan) ≡ with_front (front ++ (x ∷ [])) scan
unfolding with_front
front-twice front x (departs q) = refl
front-twice front x (reads values q) = ap (λ (l : List ℕ). reads l q) (sym (append_snoc front x values))

-- A front with nothing behind it, and one before a departure.
front-alone : (front : List ℕ) (p : ℕ) → with_front front (reads [] p) ≡ reads front p
unfolding with_front
front-alone front p = ap (λ (l : List ℕ). reads l p) (append-nil front)

front-departs : (front : List ℕ) (w : ℕ) → with_front front (departs w) ≡ departs w
unfolding with_front
front-departs front w = refl

-- One turn of reading numbers behind spaces.
no-more : (text : List ℕ) (p left : ℕ) → (byte_at text p ≡ 32 → ⊥) → scan_more text p left ≡ reads [] p
unfolding scan_more
no-more text p zero other = refl
no-more text p (suc left) other = rw (ne_eqb (byte_at text p) 32 other)

more-departs : (text : List ℕ) (p left w : ℕ) → 0 < left → byte_at text p ≡ 32 → scan_number text (p + 1) ≡ departs w
    → scan_more text p left ≡ departs w
unfolding scan_more following
more-departs text p zero w some space e = absurd (omega arith)
more-departs text p (suc left) w some space e = rw (eq-eqb (byte_at text p) 32 space, e)

more_turn : (text : List ℕ) (p left x q : ℕ) → 0 < left → byte_at text p ≡ 32 → scan_number text (p + 1) ≡ reads (x ∷ []) q
    → scan_more text p left ≡ with_front (x ∷ []) (scan_more text q (left - 1))
unfolding scan_more following
more_turn text p zero x q some space e = absurd (omega arith)
more_turn text p (suc left) x q some space e =
    let same : suc left - 1 ≡ left = omega arith in
    rw (eq-eqb (byte_at text p) 32 space, e, same)

-- What makes a report bad.
last-bad : (relay serial : ℕ) (sees : List ℕ) → (has sees relay || not (rises_from 0 sees)) ≡ true
    → bad_report (record { relay = relay; serial = serial; sees = sees }) ≡ true
unfolding bad_report
last-bad relay serial sees e =
    let report : Report = record { relay = relay; serial = serial; sees = sees } in
    or_right (ltb 4294967295 serial) (ltb 999 (top_of report) || (has sees relay || not (rises_from 0 sees)))
    (or_right (ltb 999 (top_of report)) (has sees relay || not (rises_from 0 sees)) e)

far-bad : (relay serial : ℕ) (sees : List ℕ) (x : ℕ) → has sees x ≡ true → 999 < x
    → bad_report (record { relay = relay; serial = serial; sees = sees }) ≡ true
unfolding bad_report top_of greatest
far-bad relay serial sees x seen far =
    let report : Report = record { relay = relay; serial = serial; sees = sees } in
    or_right (ltb 4294967295 serial) (ltb 999 (top_of report) || (has sees relay || not (rises_from 0 sees)))
    (or_left (ltb 999 (top_of report)) (has sees relay || not (rises_from 0 sees))
    (lt-ltb 999 (top_of report) (omega (arith, greatest-member sees x seen))))

-- The numbers from t on are those read so far and those from p on; these are good, and the next is to be at least `least`.
pub record SeenSoFar (text : List ℕ) (relay t p left : ℕ) (so_far : List ℕ) (least : ℕ) : Type 0 where
  pub goes_on : scan_more text t (length text) ≡ with_front so_far (scan_more text p left)
  pub rises : (rest : List ℕ) → rises_from 0 (so_far ++ rest) ≡ rises_from least rest
  pub others : has so_far relay ≡ false
  pub small : greatest so_far ≤ 999

pub seen_start : (text : List ℕ) (relay t : ℕ) → SeenSoFar text relay t t (length text) [] 0
unfolding has greatest
seen_start text relay t =
    record { goes_on = sym (front-none (scan_more text t (length text))); rises = λ rest. refl; others = refl; small = omega arith }

module _ (text : List ℕ) (relay t p left : ℕ) (so_far : List ℕ) (least : ℕ) (inv : SeenSoFar text relay t p left so_far least) where
  -- No number comes next: a byte that is no space, or no turn left.
  pub seen-ends : (byte_at text p ≡ 32 → ⊥) → scan_more text t (length text) ≡ reads so_far p
  seen-ends other = inv.goes_on ∙ ap (with_front so_far) (stops left) ∙ ended
    where
      stops : (left : ℕ) → scan_more text p left ≡ reads [] p
      stops left = no-more text p left other

      ended : with_front so_far (reads [] p) ≡ reads so_far p
      ended = front-alone so_far p

  pub seen-runs-out : left ≡ 0 → scan_more text t (length text) ≡ reads so_far p
  unfolding scan_more
  seen-runs-out none =
      inv.goes_on ∙ ap (λ (more : ℕ). with_front so_far (scan_more text p more)) none ∙ front-alone so_far p

  module _ (space : byte_at text p ≡ 32) (some : 0 < left) where
    -- A space and no number behind it.
    pub seen-departs : (w : ℕ) → scan_number text (p + 1) ≡ departs w → scan_more text t (length text) ≡ departs w
    seen-departs w e = inv.goes_on ∙ ap (with_front so_far) (more-departs text p left w some space e) ∙ front-departs so_far w

    module _ (x q : ℕ) (number : scan_number text (p + 1) ≡ reads (x ∷ []) q) where
      further : scan_more text t (length text) ≡ with_front (so_far ++ (x ∷ [])) (scan_more text q (left - 1))
      further =
          inv.goes_on
          ∙ ap (with_front so_far) (more_turn text p left x q some space number)
          ∙ front-twice so_far x (scan_more text q (left - 1))

      -- A good one.
      pub seen-turn : least ≤ x → (x ≡ relay → ⊥) → x ≤ 999 → SeenSoFar text relay t q (left - 1) (so_far ++ (x ∷ [])) (x + 1)
      unfolding rises_from has
      seen-turn high other near =
          record {
            goes_on = further;
            rises = λ rest.
                ap (rises_from 0) (append_snoc so_far x rest)
                ∙ inv.rises (x ∷ rest)
                ∙ ap (λ (s : Bool). s && rises_from (suc x) rest) (le-leb least x high)
                ∙ ap (λ (y : ℕ). rises_from y rest) (sym (add-one x));
            others = has-append so_far (x ∷ []) relay ∙ or-neither (has so_far relay) (has (x ∷ []) relay) inv.others
                (or-neither (eqb x relay) false (ne_eqb x relay other) refl);
            small = omega (arith, greatest-snoc so_far x, inv.small);
          }

      -- A bad one: the report is bad whatever follows.
      behind : (values : List ℕ) (v : ℕ) → scan_more text t (length text) ≡ reads values v → (rest : List ℕ) × (values ≡ so_far ++ (x ∷ rest))
      behind values v e =
          let (rest, scan, same) = with-front-reads (so_far ++ (x ∷ [])) (scan_more text q (left - 1)) values v (sym further ∙ e) in
          (rest, same ∙ append_snoc so_far x rest)

      module _ (serial : ℕ) (values : List ℕ) (v : ℕ) (e : scan_more text t (length text) ≡ reads values v) where
        pub bad-falls : x < least → bad_report (record { relay = relay; serial = serial; sees = values }) ≡ true
        unfolding bad_report rises_from
        bad-falls low =
            let (rest, same) = behind values v e in
            let falls : rises_from 0 values ≡ false =
            ap (rises_from 0) same ∙ inv.rises (x ∷ rest) ∙ ap (λ (s : Bool). s && rises_from (suc x) rest) (lt-leb least x low) in
            last-bad relay serial values (or_right (has values relay) (not (rises_from 0 values)) (ap not falls))

        pub bad-own : x ≡ relay → bad_report (record { relay = relay; serial = serial; sees = values }) ≡ true
        bad-own own =
            let (rest, same) = behind values v e in
            let seen : has values relay ≡ true =
            ap (λ (l : List ℕ). has l relay) same
            ∙ has-append so_far (x ∷ rest) relay
            ∙ or_right (has so_far relay) (has (x ∷ rest) relay) (subst (λ (y : ℕ). has (x ∷ rest) y ≡ true) own (has_here x rest)) in
            last-bad relay serial values (or_left (has values relay) (not (rises_from 0 values)) seen)

        pub bad-far : 999 < x → bad_report (record { relay = relay; serial = serial; sees = values }) ≡ true
        bad-far far =
            let (rest, same) = behind values v e in
            let seen : has values x ≡ true =
            ap (λ (l : List ℕ). has l x) same
            ∙ has-append so_far (x ∷ rest) x
            ∙ or_right (has so_far x) (has (x ∷ rest) x) (has_here x rest) in
            far-bad relay serial values x seen far

  -- At the end the report is good, where its relay and its serial are.
  pub seen-good : (serial : ℕ) → relay ≤ 999 → serial ≤ 4294967295
      → bad_report (record { relay = relay; serial = serial; sees = so_far }) ≡ false
  unfolding bad_report top_of greatest rises_from
  seen-good serial near range =
      let report : Report = record { relay = relay; serial = serial; sees = so_far } in
      let up : rises_from 0 so_far ≡ true = ap (rises_from 0) (sym (append-nil so_far)) ∙ inv.rises [] in
      or-neither (ltb 4294967295 serial) (ltb 999 (top_of report) || (has so_far relay || not (rises_from 0 so_far)))
      (le-ltb 4294967295 serial range)
      (or-neither (ltb 999 (top_of report)) (has so_far relay || not (rises_from 0 so_far))
      (le-ltb 999 (top_of report) (omega (arith, inv.small)))
      (or-neither (has so_far relay) (not (rises_from 0 so_far)) inv.others (ap not up)))
