-- What an accepted network is: the table check as facts on the entries of its table and of its states, both ways.
use Rattle.std.specs.Prelude.{ℕ, zero, suc, ◌+◌, ◌≤◌, ◌<◌, Bool, true, false, not, ◌||◌, List, [], ◌≢◌, ◌≡◌, refl, eqb, ltb, leb, length, get_or}
use Rattle.std.proofs.Common.{true≢false, sym, ◌∙◌, ap, arith, eqb-true, eq-eqb, leb-false, ltb-false, le-ltb, ltb-true}
use Rattle.std.proofs.lemmas.Bool.{eqb-false, lt-leb, not-false}
use Rattle.definitions.specs.Outcome.{pick, Answer, done, refuse_if, and_then}
use Rattle.definitions.specs.Lists.{outside, some_below, greatest}
use Rattle.definitions.specs.Network.{is_pair, link_fault, links_check, states_fault, table_check, Accepted}
use Rattle.lists.specs.Outcomes.{not-refused, refuse-not, then-done}
use Rattle.lists.specs.SameOutcomes.{done-same, done-then}
use Rattle.lists.specs.Tests.{or-false, or-neither, and_both, and-all}
use Rattle.lists.specs.Below.{below_none, none_below}
use Rattle.lists.specs.Greatest.{greatest-above, greatest-within}

-- A link a b without fault after the first i links.
pub record GoodLink (n : ℕ) (lows highs : List ℕ) (i a b : ℕ) : Type 0 where
  pub below : b < n
  pub ordered : a < b
  pub is_new : some_below (is_pair lows highs a b) i ≡ false

pub fault-none : (n : ℕ) (lows highs : List ℕ) (i a b : ℕ) → link_fault n lows highs i a b ≡ 0 → GoodLink n lows highs i a b
unfolding link_fault
fault-none n lows highs i a b h = five (leb n a || leb n b) refl h
  where
    seven : leb n b ≡ false → a < b → (t : Bool) → some_below (is_pair lows highs a b) i ≡ t → ◌≡◌ {A = ℕ} (pick t 7 0) 0
        → GoodLink n lows highs i a b
    seven p q true e z = absurd (omega arith)
    seven p q false e z = record { below = leb-false n b p; ordered = q; is_new = e }

    six : leb n b ≡ false → (t : Bool) → leb b a ≡ t
        → ◌≡◌ {A = ℕ} (pick t 6 (pick (some_below (is_pair lows highs a b) i) 7 0)) 0 → GoodLink n lows highs i a b
    six p true e z = absurd (omega arith)
    six p false e z = seven p (leb-false b a e) (some_below (is_pair lows highs a b) i) refl z

    five : (t : Bool) → (leb n a || leb n b) ≡ t
        → ◌≡◌ {A = ℕ} (pick t 5 (pick (leb b a) 6 (pick (some_below (is_pair lows highs a b) i) 7 0))) 0 → GoodLink n lows highs i a b
    five true e z = absurd (omega arith)
    five false e z = six (or-false (leb n a) (leb n b) e).1 (leb b a) refl z

pub no-fault : (n : ℕ) (lows highs : List ℕ) (i a b : ℕ) → GoodLink n lows highs i a b → link_fault n lows highs i a b ≡ 0
unfolding link_fault
no-fault n lows highs i a b g =
    let low : leb n a ≡ false = lt-leb n a (omega (arith, g.below, g.ordered)) in
    rw (low, lt-leb n b g.below, lt-leb b a g.ordered, g.is_new) refl

pub links-good : (n : ℕ) (lows highs : List ℕ) (i count : ℕ) → links_check n lows highs i count ≡ done []
    → (j : ℕ) → i ≤ j → j < i + count → GoodLink n lows highs j (get_or lows j 0) (get_or highs j 0)
unfolding links_check
links-good n lows highs i zero h j p q = absurd (omega arith)
links-good n lows highs i (suc count) h j p q =
    let fault = link_fault n lows highs i (get_or lows i 0) (get_or highs i 0) in
    let step = not-refused (ltb 0 fault) fault i (links_check n lows highs (i + 1) count) [] h in
    go (eqb i j) refl (ltb-false 0 fault step.0) (λ k. links-good n lows highs (i + 1) count step.1 j k (omega arith))
  where
    go : (b : Bool) → eqb i j ≡ b → link_fault n lows highs i (get_or lows i 0) (get_or highs i 0) ≤ 0
        → (i + 1 ≤ j → GoodLink n lows highs j (get_or lows j 0) (get_or highs j 0))
        → GoodLink n lows highs j (get_or lows j 0) (get_or highs j 0)
    go true e z rest = rw (eqb-true i j e) at (fault-none n lows highs i (get_or lows i 0) (get_or highs i 0) (omega arith))
    go false e z rest =
        let apart : i ≢ j = eqb-false i j e in
        rest (omega arith)

pub good-links : (n : ℕ) (lows highs : List ℕ) (i count : ℕ)
    → ((j : ℕ) → i ≤ j → j < i + count → GoodLink n lows highs j (get_or lows j 0) (get_or highs j 0))
    → links_check n lows highs i count ≡ done []
unfolding links_check
good-links n lows highs i zero h = refl
good-links n lows highs i (suc count) h =
    let fault = link_fault n lows highs i (get_or lows i 0) (get_or highs i 0) in
    let none : fault ≡ 0 = no-fault n lows highs i (get_or lows i 0) (get_or highs i 0) (h i (omega arith) (omega arith)) in
    refuse-not (ltb 0 fault) fault i (links_check n lows highs (i + 1) count) (le-ltb 0 fault (omega arith))
    ∙ good-links n lows highs (i + 1) count (λ j p q. h j (omega arith) (omega arith))

-- A table check that is done has accepted.
links-done : (n : ℕ) (lows highs : List ℕ) (i count : ℕ) (values : List ℕ) → links_check n lows highs i count ≡ done values → values ≡ []
unfolding links_check
links-done n lows highs i zero values e = sym (done-same [] values e)
links-done n lows highs i (suc count) values e =
    let fault = link_fault n lows highs i (get_or lows i 0) (get_or highs i 0) in
    links-done n lows highs (i + 1) count values
    (not-refused (ltb 0 fault) fault i (links_check n lows highs (i + 1) count) values e).1

-- What the table check has behind it where it is done.
record Passed (n : ℕ) (lows highs states values : List ℕ) : Type 0 where
  size : outside 1 1000 n ≡ false
  lengths : (not (eqb (length lows) (length highs)) || ltb 3000 (length lows)) ≡ false
  links : links_check n lows highs 0 (length lows) ≡ done []
  fit : states_fault n states ≡ false
  none : values ≡ []

passed : (n : ℕ) (lows highs states values : List ℕ) → table_check n lows highs states ≡ done values → Passed n lows highs states values
unfolding table_check
passed n lows highs states values e =
    let last : Answer = refuse_if (states_fault n states) 16 0 (done []) in
    let check = and_then (links_check n lows highs 0 (length lows)) λ _. last in
    let wrong = not (eqb (length lows) (length highs)) || ltb 3000 (length lows) in
    let three = not-refused (outside 1 1000 n) 3 0 (refuse_if wrong 4 0 check) values e in
    let four = not-refused wrong 4 0 check values three.1 in
    let (before, some, fit) = done-then (links_check n lows highs 0 (length lows)) (λ _. last) values four.1 in
    let sixteen = not-refused (states_fault n states) 16 0 (done []) values fit in
    record {
      size = three.0;
      lengths = four.0;
      links = some ∙ ap done (links-done n lows highs 0 (length lows) before some);
      fit = sixteen.0;
      none = sym (done-same [] values sixteen.1);
    }

pub check-accepts : (n : ℕ) (lows highs states values : List ℕ) → table_check n lows highs states ≡ done values
    → Accepted n lows highs states
check-accepts n lows highs states values e = e ∙ ap done (passed n lows highs states values e).none

-- Of each link the low relay is below the high one.
abbrev pub LowBelowHigh : (lows highs : List ℕ) → Type 0
LowBelowHigh lows highs = (i : ℕ) → i < length lows → get_or lows i 0 < get_or highs i 0

-- The table of a network: "n relays, 1 to 1,000", "m links, 0 to 3,000", "A link joins two different relays, at most one for
-- each two, and is held as its low and its high relay number."
pub record ProperTable (n : ℕ) (lows highs : List ℕ) : Type 0 where
  pub some : 1 ≤ n
  pub few : n ≤ 1000
  pub even : length lows ≡ length highs
  pub short : length lows ≤ 3000
  pub ordered : LowBelowHigh lows highs
  pub below : (i : ℕ) → i < length lows → get_or highs i 0 < n
  pub once : (i j : ℕ) → i < j → j < length lows → get_or lows i 0 ≡ get_or lows j 0 → get_or highs i 0 ≡ get_or highs j 0 → ⊥

-- Its states: "a state for every relay, 1 in service or 0 withdrawn".
pub record ProperStates (n : ℕ) (states : List ℕ) : Type 0 where
  pub long : length states ≡ n
  pub either : (r : ℕ) → r < n → get_or states r 0 ≤ 1

-- The fault of a list of states, both ways.
pub fault-proper : (n : ℕ) (states : List ℕ) → states_fault n states ≡ false → ProperStates n states
unfolding states_fault
fault-proper n states e =
    let none = or-false (not (eqb (length states) n)) (ltb 1 (greatest states)) e in
    let long : length states ≡ n = eqb-true (length states) n (not-false (eqb (length states) n) none.0) in
    record {
      long = long;
      either = λ r h. omega (arith, ltb-false 1 (greatest states) none.1, greatest-above states r (omega arith));
    }

pub proper-fault : (n : ℕ) (states : List ℕ) → ProperStates n states → states_fault n states ≡ false
unfolding states_fault
proper-fault n states s =
    or-neither (not (eqb (length states) n)) (ltb 1 (greatest states))
    (ap not (eq-eqb (length states) n s.long))
    (le-ltb 1 (greatest states) (greatest-within states 1 (λ r h. s.either r (omega (arith, s.long)))))

pub accepted : (n : ℕ) (lows highs states : List ℕ) → Accepted n lows highs states → ProperTable n lows highs
unfolding outside is_pair
accepted n lows highs states h =
    let m = length lows in
    let p = passed n lows highs states [] h in
    let size = or-false (ltb n 1) (ltb 1000 n) p.size in
    let lengths = or-false (not (eqb m (length highs))) (ltb 3000 m) p.lengths in
    let good : (j : ℕ) → j < m → GoodLink n lows highs j (get_or lows j 0) (get_or highs j 0) =
    λ j k. links-good n lows highs 0 m p.links j (omega arith) (omega arith) in
    record {
      some = ltb-false n 1 size.0;
      few = ltb-false 1000 n size.1;
      even = eqb-true m (length highs) (not-false (eqb m (length highs)) lengths.0);
      short = ltb-false 3000 m lengths.1;
      ordered = λ i k. (good i k).ordered;
      below = λ i k. (good i k).below;
      once = λ i j p q e f.
          let same : is_pair lows highs (get_or lows j 0) (get_or highs j 0) i ≡ true =
          and-all (eqb (get_or lows i 0) (get_or lows j 0)) (eqb (get_or highs i 0) (get_or highs j 0))
          (eq-eqb (get_or lows i 0) (get_or lows j 0) e) (eq-eqb (get_or highs i 0) (get_or highs j 0) f) in
          true≢false (sym same ∙ below_none (is_pair lows highs (get_or lows j 0) (get_or highs j 0)) j (good j q).is_new i p);
    }

pub accepted-states : (n : ℕ) (lows highs states : List ℕ) → Accepted n lows highs states → ProperStates n states
accepted-states n lows highs states h = fault-proper n states (passed n lows highs states [] h).fit

pub accepted-intro : (n : ℕ) (lows highs states : List ℕ) → ProperTable n lows highs → ProperStates n states
    → Accepted n lows highs states
unfolding table_check outside is_pair
accepted-intro n lows highs states t s =
    let m = length lows in
    let last : Answer = refuse_if (states_fault n states) 16 0 (done []) in
    let check = and_then (links_check n lows highs 0 m) λ _. last in
    let wrong = not (eqb m (length highs)) || ltb 3000 m in
    let size : outside 1 1000 n ≡ false =
    or-neither (ltb n 1) (ltb 1000 n) (le-ltb n 1 t.some) (le-ltb 1000 n t.few) in
    let lengths : wrong ≡ false =
    or-neither (not (eqb m (length highs))) (ltb 3000 m)
    (ap not (eq-eqb m (length highs) t.even)) (le-ltb 3000 m t.short) in
    refuse-not (outside 1 1000 n) 3 0 (refuse_if wrong 4 0 check) size
    ∙ refuse-not wrong 4 0 check lengths
    ∙ then-done (links_check n lows highs 0 m) (λ _. last) [] (good-links n lows highs 0 m (λ j p q. good j (omega arith)))
    ∙ refuse-not (states_fault n states) 16 0 (done []) (proper-fault n states s)
  where
    is_new : (j : ℕ) → j < length lows → (i : ℕ) → i < j → is_pair lows highs (get_or lows j 0) (get_or highs j 0) i ≡ false
    is_new j q i p = go (is_pair lows highs (get_or lows j 0) (get_or highs j 0) i) refl
      where
        go : (b : Bool) → is_pair lows highs (get_or lows j 0) (get_or highs j 0) i ≡ b → b ≡ false
        go true e =
            let both = and_both (eqb (get_or lows i 0) (get_or lows j 0)) (eqb (get_or highs i 0) (get_or highs j 0)) e in
            absurd
            (t.once i j p q
            (eqb-true (get_or lows i 0) (get_or lows j 0) both.0)
            (eqb-true (get_or highs i 0) (get_or highs j 0) both.1))
        go false e = refl

    good : (j : ℕ) → j < length lows → GoodLink n lows highs j (get_or lows j 0) (get_or highs j 0)
    good j q =
        record {
          below = t.below j q;
          ordered = t.ordered j q;
          is_new = none_below (is_pair lows highs (get_or lows j 0) (get_or highs j 0)) j (is_new j q);
        }

-- Two links with the same pair are one.
pub same-link : (n : ℕ) (lows highs : List ℕ) → ProperTable n lows highs
    → (i j : ℕ) → i < length lows → j < length lows
    → get_or lows i 0 ≡ get_or lows j 0 → get_or highs i 0 ≡ get_or highs j 0 → i ≡ j
same-link n lows highs t i j p q e f = go (ltb i j) refl (ltb j i) refl
  where
    go : (a : Bool) → ltb i j ≡ a → (b : Bool) → ltb j i ≡ b → i ≡ j
    go true a b c = absurd (t.once i j (ltb-true i j a) q e f)
    go false a true c = absurd (t.once j i (ltb-true j i c) p (sym e) (sym f))
    go false a false c = omega (arith, ltb-false i j a, ltb-false j i c)
