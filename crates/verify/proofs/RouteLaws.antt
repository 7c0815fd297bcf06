-- The walk along a route whose two lines stand in the text, and the routes one after another. Assumes nothing.
use Prim.Native.Nat.{ℕ, suc, ◌-◌, ◌<◌}
use mathlib.Core.Bool.{Bool, true, false, ◌&&◌, ◌||◌, not}
use mathlib.Core.List.{List, [], ◌∷◌}
use mathlib.Core.Path.{◌≡◌, sym, ◌∙◌, ap, subst}
use native.Mathlib.Omega.{arith}
use lib.Dec.{eqb}
use lib.ListN.{length}
use borrow.Author.Tests.{eq-eqb, ne_eqb, eqb-false, not-true}
use Rattle.definitions.specs.Outcome.{pick}
use Rattle.definitions.specs.Form.{bytes, departs, reads, scan_word, scan_form}
use Rattle.definitions.specs.SheetForm.{route_front, over_front, scan_numbers}
use Rattle.definitions.specs.SheetTest.{Walk, walk_route, good_steps, routes_hold}
use Rattle.lists.specs.Bitmap.{marked}
use Rattle.lists.specs.Tests.{and_both}
use Rattle.verify.specs.Offsets.{after, two_lines}
use Rattle.network.specs.Tables.{of_table}
use Rattle.network.specs.declared.Table.{Table}
use Rattle.verify.specs.Walks.{Walked, RouteWalked, LinesAt, walk_from}
use Rattle.verify.proofs.FormLaws.{first_relay}
use Rattle.verify.proofs.NumberLaws.{route-numbers, route-reads-first, over-numbers, over-reads-first}
use Rattle.verify.proofs.WalkLaws.{walk-failed}

module _ (table : Table) (text : List ℕ) (from to p q : ℕ) (marks : List ℕ) where
  -- No route stands there.
  pub no-route : (u : ℕ) → scan_form text first_relay p ≡ departs u → RouteWalked table text from to p q marks marks 0
  no-route u first = λ route over s t line links. absurd (route-reads-first text p u route s first line)

  pub no-links : (u : ℕ) → scan_word text (bytes "(over") q ≡ departs u → RouteWalked table text from to p q marks marks 0
  no-links u first = λ route over s t line links. absurd (over-reads-first text q u over t first links)

  module _ (first s t : ℕ) (relay : scan_form text first_relay p ≡ reads (first ∷ []) s)
      (word : scan_word text (bytes "(over") q ≡ reads [] t) where
    -- The walk along the route is the one from these offsets on.
    route-is : (route over : List ℕ) (u v : ℕ) → scan_numbers text route_front p ≡ reads route u → scan_numbers text over_front q ≡ reads over v
        → of_table walk_route table from to (marked marks) route over
        ≡ pick (eqb first from) (of_table walk_from table text to (marked marks) 0 first s t) (record { steps = 0; met = marked marks })
    unfolding walk_route walk_from
    route-is route over u v line links =
        let all : suc (length text) - 0 ≡ suc (length text) = omega arith in
        rw (route-numbers text p first s route u relay line, over-numbers text q t over v word links, all)

    pub starts-here : first ≡ from → (steps : ℕ) (after : List ℕ)
        → Walked (of_table walk_from table text to (marked marks) 0 from s t) steps after
        → RouteWalked table text from to p q marks after steps
    starts-here same steps after walked =
        λ route over u v line links.
        subst (λ (w : Walk). Walked w steps after)
        (sym
        (route-is route over u v line links
        ∙ rw (eq-eqb first from same) (ap (λ (x : ℕ). of_table walk_from table text to (marked marks) 0 x s t) same)))
        walked

    pub starts-elsewhere : (first ≡ from → ⊥) → RouteWalked table text from to p q marks marks 0
    starts-elsewhere differ =
        λ route over u v line links.
        walk-failed {met = marked marks} (route-is route over u v line links ∙ rw (ne_eqb first from differ))

-- So many routes are left from offset p on, and what is said of them is said of all.
pub record RoutesLeft (table : Table) (text : List ℕ) (from to : ℕ) (met : ℕ → Bool) (direct : Bool) (p count : ℕ) (whole : Bool) : Type 0 where
  pub routes : List (List ℕ)
  pub overs : List (List ℕ)
  pub many : length routes ≡ count
  pub lines : LinesAt text p routes overs
  pub same : whole ≡ of_table routes_hold table from to met direct routes overs

-- The same where the test of single steps and the number are said otherwise.
pub turned : {table : Table} {text : List ℕ} {from to : ℕ} {met : ℕ → Bool} {one other : Bool} {p fewer count : ℕ} {whole : Bool}
    → other ≡ one → fewer ≡ count → RoutesLeft table text from to met one p fewer whole
    → RoutesLeft table text from to met other p count whole
turned e f left =
    record {
      routes = left.routes;
      overs = left.overs;
      many = left.many ∙ f;
      lines = left.lines;
      same = left.same ∙ rw e;
    }

-- The first of them, and the others.
record FirstRoute (table : Table) (text : List ℕ) (from to : ℕ) (met : ℕ → Bool) (direct : Bool) (p count : ℕ) (whole : Bool) : Type 0 where
  route : List ℕ
  over : List ℕ
  routes : List (List ℕ)
  overs : List (List ℕ)
  at : ℕ
  next : ℕ
  line : scan_numbers text route_front p ≡ reads route at
  links : scan_numbers text over_front at ≡ reads over next
  lines : LinesAt text next routes overs
  many : length routes ≡ count
  same : whole ≡ of_table routes_hold table from to met direct (route ∷ routes) (over ∷ overs)

module _ (table : Table) (text : List ℕ) (from to : ℕ) (met : ℕ → Bool) (direct : Bool) (p count : ℕ) (whole : Bool) where
  abbrev Left : Type 0
  Left = RoutesLeft table text from to met direct p count whole

  -- None are left.
  pub none_left : Left → count ≡ 0 → whole ≡ true
  unfolding routes_hold
  none_left left none = go left.routes left.overs left.many left.lines left.same
    where
      go : (routes overs : List (List ℕ)) → length routes ≡ count → LinesAt text p routes overs
          → whole ≡ of_table routes_hold table from to met direct routes overs → whole ≡ true
      go [] [] many lines same = same
      go [] (over ∷ overs) many lines same = absurd lines
      go (route ∷ routes) overs many lines same = absurd (omega arith)

  first-route : Left → 0 < count → FirstRoute table text from to met direct p (count - 1) whole
  first-route left some = go left.routes left.overs left.many left.lines left.same
    where
      go : (routes overs : List (List ℕ)) → length routes ≡ count → LinesAt text p routes overs
          → whole ≡ of_table routes_hold table from to met direct routes overs
          → FirstRoute table text from to met direct p (count - 1) whole
      go [] overs many lines same = absurd (omega arith)
      go (route ∷ routes) [] many lines same = absurd lines
      go (route ∷ routes) (over ∷ overs) many lines same =
          record {
            route = route;
            over = over;
            routes = routes;
            overs = overs;
            at = lines.0;
            next = lines.1;
            line = lines.2;
            links = lines.3;
            lines = lines.4;
            many = omega arith;
            same = same;
          }

  -- Its two lines are there.
  two-there : (first : FirstRoute table text from to met direct p (count - 1) whole) → two_lines text p ≡ reads (first.at ∷ []) first.next
  unfolding two_lines after
  two-there first = rw (first.line, first.links)

  pub left-reads : Left → 0 < count → (u : ℕ) → two_lines text p ≡ departs u → ⊥
  left-reads left some u e =
      let there = sym e ∙ two-there (first-route left some) in
      let z : ◌≡◌ {A = ℕ} 0 1 = cc in
      omega arith

  -- What was said of the first route, walked over the marks.
  module _ (marks : List ℕ) (known : met ≡ marked marks) (left : Left) (some : 0 < count) (q next : ℕ)
      (there : two_lines text p ≡ reads (q ∷ []) next) (steps : ℕ) (later : List ℕ)
      (walked : RouteWalked table text from to p q marks later steps) where
    abbrev first : FirstRoute table text from to met direct p (count - 1) whole
    first = first-route left some

    same-offsets : (q ≡ first.at) × (next ≡ first.next)
    same-offsets =
        let both = sym there ∙ two-there first in
        (cc, cc)

    along : Walked (of_table walk_route table from to met first.route first.over) steps later
    along =
        subst (λ (f : ℕ → Bool). Walked (of_table walk_route table from to f first.route first.over) steps later) (sym known)
        (walked first.route first.over first.at first.next first.line
        (ap (scan_numbers text over_front) same-offsets.0 ∙ first.links))

    pub left-fails : good_steps steps direct ≡ false → whole ≡ false
    unfolding routes_hold
    left-fails bad =
        first.same ∙ rw (← along.taken, bad)

    pub left-next : good_steps steps direct ≡ true
        → RoutesLeft table text from to (marked later) (direct || eqb steps 1) next (count - 1) whole
    unfolding routes_hold good_steps
    left-next good =
        let positive : steps ≡ 0 → ⊥ = eqb-false steps 0 (not-true (eqb steps 0) (and_both (not (eqb steps 0)) (not (eqb steps 1 && direct)) good).0) in
        record {
          routes = first.routes;
          overs = first.overs;
          many = first.many;
          lines = subst (λ (s : ℕ). LinesAt text s first.routes first.overs) (sym same-offsets.1) first.lines;
          same = first.same ∙ rw (← along.taken, good, ← along.met (omega arith));
        }
