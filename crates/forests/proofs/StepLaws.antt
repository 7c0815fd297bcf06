-- One step of the scan: the relay that follows is placed, its count is 0, and its links are walked. Assumes nothing.
use Prim.Native.Nat.{ℕ, suc, ◌<◌}
use mathlib.Core.Bool.{Bool, true, false, ◌||◌, ◌&&◌, true≢false}
use mathlib.Core.List.{List}
use mathlib.Core.Logic.{◌≢◌}
use mathlib.Core.Path.{◌≡◌, refl, sym, ◌∙◌, ap}
use native.Mathlib.Decide.{ℕ_discrete, dec_lt}
use native.Mathlib.Omega.{arith}
use borrow.Author.Tests.{eqb-true, ne_eqb, lt-ltb, le-ltb}
use lib.Dec.{eqb}
use lib.ListN.{length, get_or, set, length-set}
use lib.Seq.{get_or-set_same, get_or-set_other}
use Rattle.definitions.specs.Outcome.{pick}
use Rattle.definitions.specs.Lists.{some_below, has, count}
use Rattle.definitions.specs.Network.{joins, linked, touches, serves, link_serves}
use Rattle.definitions.specs.Order.{weight, placed_after}
use Rattle.theory.specs.Accepted.{ProperTable}
use Rattle.theory.specs.ServingRelays.{serving-has, serving-below, serving-serves, serving-not}
use Rattle.theory.specs.Links.{joins-sym, joins-touch, joined-linked}
use Rattle.forests.specs.Counts.{raised_count, forest_number, StartCounts, turns_of}
use Rattle.forests.specs.Walk.{other_end, far_end, Walked}
use Rattle.forests.specs.Scan.{placed, following, is_serving, CountsAt, ForestsAt}
use Rattle.forests.proofs.CountLaws.{raised-none, raised-some, number-none, number-some}
use Rattle.forests.proofs.WalkLaws.{joins-far, apart-ends, touch-end}
use Rattle.forests.proofs.OrderLaws.{placed-earlier, following-new, following-below, has_new, has_same, another, waited, weight-linked, weight-apart}
use Rattle.forests.proofs.ChoiceLaws.{count-waiting, count-placed, waits}

-- Before the first step.
pub counts_start : {n : ℕ} {lows highs states counts : List ℕ} → StartCounts n states counts → CountsAt n lows highs states 0 counts
unfolding placed_after weight count has
counts_start {n} {lows} {highs} {states} {counts} s =
    record {
      room = s.room;
      count = λ r e. s.waiting r (serving-below n states r e) ∙ rw (serving-serves n states r e);
      rest = λ r e. rest r e (dec_lt r n) (serves states r) refl;
    }
  where
    rest : (r : ℕ) → is_serving n states r ≡ false → Dec (r < n) → (b : Bool) → serves states r ≡ b → get_or counts r 0 ≡ 0
    rest r e (no h) b f = s.rest r (omega arith)
    rest r e (yes h) true f = absurd (true≢false (sym (serving-has n states r (h, f)) ∙ e))
    rest r e (yes h) false f = s.waiting r h ∙ rw f

pub forests-start : {n : ℕ} {lows highs states : List ℕ} (forests : List ℕ) → ((i : ℕ) → i < length lows → get_or forests i 0 ≡ 0)
    → ForestsAt n lows highs states 0 forests forests
forests-start forests zeros =
    record {
      forest = λ i j y a b. absurd (omega arith);
      waiting = λ i h a b. zeros i h;
      idle = λ i h a. zeros i h;
      beyond = record { long = refl; rest = λ i h. refl };
    }

-- Of two tests that do not both pass, one passes.
and_first : (a b : Bool) → b ≡ true → (a && b) ≡ false → a ≡ false
and_first true b p e = sym p ∙ e
and_first false b p e = refl

and_second : (a b : Bool) → a ≡ true → (a && b) ≡ false → b ≡ false
and_second true b p e = e
and_second false b p e = absurd (true≢false (sym p))

module _ {n : ℕ} {lows highs states : List ℕ} (t : ProperTable n lows highs) (k : ℕ) (within : k < turns_of n states) where
  -- A link from the relay that follows to a waiting one has no number yet.
  pub unnumbered : {counts start forests : List ℕ} → CountsAt n lows highs states k counts → ForestsAt n lows highs states k start forests
      → (j : ℕ) → j < length lows → touches lows highs (following n lows highs states k) j ≡ true
      → 0 < get_or (set counts (following n lows highs states k) 0) (far_end lows highs (following n lows highs states k) j) 0
      → get_or forests j 0 ≡ 0
  unfolding touches far_end other_end
  unnumbered {counts} {start} {forests} at f j h e some =
      go (eqb (get_or lows j 0) (following n lows highs states k)) refl (eqb (get_or highs j 0) (following n lows highs states k)) refl e some
    where
      new : has (placed n lows highs states k) (following n lows highs states k) ≡ false
      new = (following-new n lows highs states k within).1

      own : (r : ℕ) → eqb r (following n lows highs states k) ≡ true → has (placed n lows highs states k) r ≡ false
      own r p = ap (has (placed n lows highs states k)) (eqb-true r (following n lows highs states k) p) ∙ new

      far : (r : ℕ) → 0 < get_or (set counts (following n lows highs states k) 0) r 0 → Dec (r ≡ following n lows highs states k)
          → has (placed n lows highs states k) r ≡ false
      far r q (yes d) = ap (has (placed n lows highs states k)) d ∙ new
      far r q (no d) = (waits at r (omega (arith, get_or-set_other counts (following n lows highs states k) r 0 0 d))).1

      go : (a : Bool) → eqb (get_or lows j 0) (following n lows highs states k) ≡ a
          → (b : Bool) → eqb (get_or highs j 0) (following n lows highs states k) ≡ b → (a || b) ≡ true
          → 0 < get_or (set counts (following n lows highs states k) 0) (pick a (get_or highs j 0) (get_or lows j 0)) 0 → get_or forests j 0 ≡ 0
      go true p b q z s =
          f.waiting j h (own (get_or lows j 0) p)
          (far (get_or highs j 0) s (ℕ_discrete (get_or highs j 0) (following n lows highs states k)))
      go false p true q z s =
          f.waiting j h
          (far (get_or lows j 0) s (ℕ_discrete (get_or lows j 0) (following n lows highs states k)))
          (own (get_or highs j 0) q)
      go false p false q z s = absurd (true≢false (sym z))

  module _ {counts counts' forests forests' : List ℕ}
      (at : CountsAt n lows highs states k counts)
      (w : Walked (following n lows highs states k) lows highs counts counts' forests forests')
    where
      -- The count of another relay before the walk.
      other : (r : ℕ) → r ≢ following n lows highs states k → get_or (set counts (following n lows highs states k) 0) r 0 ≡ get_or counts r 0
      other r d = get_or-set_other counts (following n lows highs states k) r 0 0 d

      below : following n lows highs states k < n
      below = following-below n lows highs states k within

      own : get_or (set counts (following n lows highs states k) 0) (following n lows highs states k) 0 ≡ 0
      own = get_or-set_same counts (following n lows highs states k) 0 0 (omega (arith, below, at.room))

      nothing : (r : ℕ) → get_or (set counts (following n lows highs states k) 0) r 0 ≡ 0 → get_or counts' r 0 ≡ 0
      nothing r e = w.count r ∙ go (some_below (joins lows highs (following n lows highs states k) r) (length lows))
        where
          go : (b : Bool)
              → pick b (raised_count (get_or (set counts (following n lows highs states k) 0) r 0)) (get_or (set counts (following n lows highs states k) 0) r 0) ≡ 0
          go true = raised-none (get_or (set counts (following n lows highs states k) 0) r 0) e
          go false = e

      raised-or-not : (r : ℕ) → is_serving n states r ≡ true → Dec (r ≡ following n lows highs states k) → (b : Bool) → has (placed n lows highs states k) r ≡ b
          → get_or counts' r 0
          ≡ pick (has (placed n lows highs states (suc k)) r) 0 (suc (weight (linked lows highs) (placed n lows highs states (suc k)) r))
      unfolding linked
      raised-or-not r h (yes e) b p = rw (e, has_new n lows highs states k) (nothing (following n lows highs states k) own)
      raised-or-not r h (no d) true p =
          rw (has_same n lows highs states k r d, p) (nothing r (other r d ∙ count-placed at r h p))
      raised-or-not r h (no d) false p =
          rw (has_same n lows highs states k r d, p)
          (w.count r ∙ go (linked lows highs (following n lows highs states k) r) refl)
        where
          before : get_or (set counts (following n lows highs states k) 0) r 0 ≡ suc (weight (linked lows highs) (placed n lows highs states k) r)
          before = other r d ∙ count-waiting at r h p

          go : (b : Bool) → linked lows highs (following n lows highs states k) r ≡ b
              → pick b (raised_count (get_or (set counts (following n lows highs states k) 0) r 0)) (get_or (set counts (following n lows highs states k) 0) r 0)
              ≡ suc (weight (linked lows highs) (placed n lows highs states (suc k)) r)
          go true e =
              omega (
                arith,
                before,
                raised-some (get_or (set counts (following n lows highs states k) 0) r 0) (omega (arith, before)),
                weight-linked n lows highs states k r e,
              )
          go false e = omega (arith, before, weight-apart n lows highs states k r e)

      -- A withdrawn relay is not the one that is placed.
      idle-apart : (r : ℕ) → is_serving n states r ≡ false → r ≢ following n lows highs states k
      idle-apart r h e = true≢false (sym (following-new n lows highs states k within).0 ∙ ap (is_serving n states) (sym e) ∙ h)

      pub counts_step : CountsAt n lows highs states (suc k) counts'
      counts_step =
          record {
            room = omega (arith, w.count_room, length-set counts (following n lows highs states k) 0, at.room);
            count = λ r h. raised-or-not r h (ℕ_discrete r (following n lows highs states k)) (has (placed n lows highs states k) r) refl;
            rest = λ r h. nothing r (other r (idle-apart r h) ∙ at.rest r h);
          }

      -- A link of the relay that is placed now gets its number, if its other end waits.
      now-given : (i y : ℕ) → i < length lows → joins lows highs (following n lows highs states k) y i ≡ true
          → is_serving n states y ≡ true → has (placed n lows highs states k) y ≡ false
          → get_or forests' i 0 ≡ weight (linked lows highs) (placed n lows highs states (suc k)) y
      now-given i y h e s p =
          let touch = joins-touch lows highs (following n lows highs states k) y i e in
          let far : far_end lows highs (following n lows highs states k) i ≡ y =
          eqb-true (far_end lows highs (following n lows highs states k) i) y
          (sym (joins-far lows highs (following n lows highs states k) y i touch (t.ordered i h)) ∙ e) in
          let before : get_or (set counts (following n lows highs states k) 0) y 0 ≡ suc (weight (linked lows highs) (placed n lows highs states k) y) =
          other y (apart-ends t (following n lows highs states k) y i h e) ∙ count-waiting at y s p in
          let number = number-some (get_or (set counts (following n lows highs states k) 0) y 0) (get_or forests i 0) (omega (arith, before)) in
          let link = joined-linked lows highs (following n lows highs states k) y i h e in
          let given : get_or forests' i 0 ≡ get_or (set counts (following n lows highs states k) 0) y 0 =
          w.forest i ∙ rw (lt-ltb i (length lows) h, touch, far) number in
          omega (arith, given, before, weight-linked n lows highs states k y link)

      -- A link of an earlier relay keeps its number.
      as_before : (i j y : ℕ) → i < length lows → j < k → joins lows highs (following n lows highs states j) y i ≡ true
          → get_or forests' i 0 ≡ get_or forests i 0
      as_before i j y h early e =
          w.forest i ∙ rw (lt-ltb i (length lows) h) (go (touches lows highs (following n lows highs states k) i) refl)
        where
          apart : following n lows highs states k ≢ following n lows highs states j
          apart q =
              true≢false
              (sym (placed-earlier n lows highs states j k early) ∙ ap (has (placed n lows highs states k)) (sym q) ∙ (following-new n lows highs states k within).1)

          old : is_serving n states (following n lows highs states j) ≡ true
          old = (following-new n lows highs states j (omega arith)).0

          gone : get_or (set counts (following n lows highs states k) 0) (following n lows highs states j) 0 ≡ 0
          gone =
              other (following n lows highs states j) (λ q. apart (sym q))
              ∙ count-placed at (following n lows highs states j) old (placed-earlier n lows highs states j k early)

          go : (b : Bool) → touches lows highs (following n lows highs states k) i ≡ b
              → pick b
              (forest_number (get_or (set counts (following n lows highs states k) 0) (far_end lows highs (following n lows highs states k) i) 0) (get_or forests i 0))
              (get_or forests i 0)
              ≡ get_or forests i 0
          go false f = refl
          go true f =
              let here : y ≡ following n lows highs states k = sym (touch-end t (following n lows highs states k) (following n lows highs states j) y i f e apart) in
              let back : joins lows highs (following n lows highs states k) (following n lows highs states j) i ≡ true =
              ap (λ a. joins lows highs a (following n lows highs states j) i) (sym here) ∙ joins-sym lows highs (following n lows highs states j) y i e in
              let far : far_end lows highs (following n lows highs states k) i ≡ following n lows highs states j =
              eqb-true (far_end lows highs (following n lows highs states k) i) (following n lows highs states j)
              (sym (joins-far lows highs (following n lows highs states k) (following n lows highs states j) i f (t.ordered i h)) ∙ back) in
              rw far (number-none (get_or (set counts (following n lows highs states k) 0) (following n lows highs states j) 0) (get_or forests i 0) gone)

      -- A link with other ends is not one of the relay that is placed now.
      untouched : (i : ℕ) → get_or lows i 0 ≢ following n lows highs states k → get_or highs i 0 ≢ following n lows highs states k
          → touches lows highs (following n lows highs states k) i ≡ false
      unfolding touches
      untouched i a b =
          rw (ne_eqb (get_or lows i 0) (following n lows highs states k) a, ne_eqb (get_or highs i 0) (following n lows highs states k) b)

      -- The other end of a link with a withdrawn end is the withdrawn one, and that does not wait.
      idle-end : (i : ℕ) → touches lows highs (following n lows highs states k) i ≡ true → link_serves lows highs states i ≡ false
          → is_serving n states (far_end lows highs (following n lows highs states k) i) ≡ false
      unfolding touches far_end other_end link_serves
      idle-end i touch e =
          serving-not n states (other_end x low high)
          (go (eqb low x) refl (eqb high x) refl touch)
        where
          x : ℕ
          x = following n lows highs states k

          low : ℕ
          low = get_or lows i 0

          high : ℕ
          high = get_or highs i 0

          here : (r : ℕ) → eqb r x ≡ true → serves states r ≡ true
          here r f = ap (serves states) (eqb-true r x f) ∙ serving-serves n states x (following-new n lows highs states k within).0

          go : (a : Bool) → eqb low x ≡ a → (b : Bool) → eqb high x ≡ b → (a || b) ≡ true → serves states (pick a high low) ≡ false
          go true p b q z = and_second (serves states low) (serves states high) (here low p) e
          go false p true q z = and_first (serves states low) (serves states high) (here high q) e
          go false p false q z = absurd (true≢false (sym z))

      still-idle : (i : ℕ) → i < length lows → link_serves lows highs states i ≡ false → get_or forests' i 0 ≡ get_or forests i 0
      still-idle i h e = w.forest i ∙ rw (lt-ltb i (length lows) h) (go (touches lows highs (following n lows highs states k) i) refl)
        where
          far : ℕ
          far = far_end lows highs (following n lows highs states k) i

          go : (b : Bool) → touches lows highs (following n lows highs states k) i ≡ b
              → pick b (forest_number (get_or (set counts (following n lows highs states k) 0) far 0) (get_or forests i 0)) (get_or forests i 0)
              ≡ get_or forests i 0
          go false f = refl
          go true f =
              let none = idle-end i f e in
              number-none (get_or (set counts (following n lows highs states k) 0) far 0) (get_or forests i 0)
              (other far (idle-apart far none) ∙ at.rest far none)

      pub forests-step : (start : List ℕ) → ForestsAt n lows highs states k start forests → ForestsAt n lows highs states (suc k) start forests'
      forests-step start f =
          record {
            forest = λ i j y h early e s p. go i j y h early e s p (ℕ_discrete j k);
            waiting = λ i h low high.
                w.forest i
                ∙ rw (lt-ltb i (length lows) h, untouched i (another n lows highs states k (get_or lows i 0) low) (another n lows highs states k (get_or highs i 0) high))
                (f.waiting i h (waited n lows highs states k (get_or lows i 0) low) (waited n lows highs states k (get_or highs i 0) high));
            idle = λ i h e. still-idle i h e ∙ f.idle i h e;
            beyond =
                record {
                  long = w.long ∙ f.beyond.long;
                  rest = λ i h. w.forest i ∙ rw (le-ltb i (length lows) h) (f.beyond.rest i h);
                };
          }
        where
          go : (i j y : ℕ) → i < length lows → j < suc k → joins lows highs (following n lows highs states j) y i ≡ true
              → is_serving n states y ≡ true → has (placed n lows highs states j) y ≡ false → Dec (j ≡ k)
              → get_or forests' i 0 ≡ weight (linked lows highs) (placed n lows highs states (suc j)) y
          go i j y h early e s p (yes q) =
              rw q (now-given i y h (rw q at e) s (rw q at p))
          go i j y h early e s p (no q) = as_before i j y h (omega arith) e ∙ f.forest i j y h (omega arith) e s p
