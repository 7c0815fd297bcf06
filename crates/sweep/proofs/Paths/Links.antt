-- A side's list keeps beside its places the links between them: beside the end and last but one of each path the link that
-- joins them, and beside the place before x the link from there to x. Each store of the sweep keeps this, whatever the look-up gives,
-- if what it gives is a link to the place that it gives.
use Prim.Native.Nat.{ℕ, zero, suc, pred, ◌+◌, ◌*◌, ◌≤◌, ◌<◌}
use mathlib.Core.Bool.{Bool, true, false, ◌||◌}
use mathlib.Core.List.{List}
use mathlib.Core.Logic.{◌≢◌, by_cases}
use mathlib.Core.Path.{◌≡◌, refl, sym, subst}
use native.Mathlib.Decide.{ℕ_discrete}
use native.Mathlib.Omega.{arith}
use lib.Dec.{eqb}
use lib.ListN.{length}
use borrow.Author.Tests.{eqb-true, eqb-false}
use Rattle.definitions.specs.Outcome.{pick}
use Rattle.definitions.specs.Forests.{Entry}
use Rattle.lists.specs.Searches.{largest-bound}
use Rattle.sweep.specs.Side.{prior_start, end_in, second_in, link_in, prior_in, prior_link_in, end_entry, NoPaths, set_path, set_prior, extend_path, advance, trade, trade_at, trade_from}
use Rattle.sweep.specs.Sides.{Sides, sides, highest_in, start_a, start_b, leave_at, leave_from, pass_at, step_in, sweep_in, swept_in}
use Rattle.sweep.proofs.Paths.Side.{length-set_path, end-set_path, second-set_path, prior-set_path, end-set_path-other, second-set_path-other, length-set_prior, end-set_prior, second-set_prior, prior-set_prior, prior-set_prior-other}
use Rattle.sweep.proofs.Paths.LinkStores.{link-set_path, link-set_path-other, prior_link-set_path, link-set_prior, prior_link-set_prior, prior_link-set_prior-other}

-- Where x and y are places, the link is the one between them.
abbrev pub Joins : (between : ℕ → ℕ → ℕ) (x y link : ℕ) → Type 0
Joins between x y link = 0 < x → 0 < y → link ≡ between x y

-- The side has room for the places up to `reach`, and the links of the paths at the indices 1 to k and of all places.
pub record LinksHeld (between : ℕ → ℕ → ℕ) (k reach : ℕ) (side : List ℕ) : Type 0 where
  pub long : prior_start + (2 * reach + 1) < length side
  pub ends : (i : ℕ) → 1 ≤ i → i ≤ k → Joins between (end_in side i) (second_in side i) (link_in side i)
  pub priors : (x : ℕ) → Joins between x (prior_in side x) (prior_link_in side x)

-- Both sides have their links.
abbrev pub BothLinked : (between : ℕ → ℕ → ℕ) (k reach : ℕ) (both : Sides) → Type 0
BothLinked between k reach both = LinksHeld between k reach both.side_a × LinksHeld between k reach both.side_b

module _ (between : ℕ → ℕ → ℕ) (k reach : ℕ) (small : k ≤ 32) where
  abbrev Held : List ℕ → Type 0
  Held = LinksHeld between k reach

  none-held : (side : List ℕ) → NoPaths reach side → Held side
  unfolding end_in prior_in
  none-held side bare =
      record {
        long = bare.room;
        ends = λ i one le some. absurd (omega (arith, bare.empty i));
        priors = λ x some more. absurd (omega (arith, bare.empty (prior_start + 2 * x)));
      }

  path-held : (side : List ℕ) (i : ℕ) (end : Entry) (second : ℕ) → i ≤ 32 → Joins between end.place second end.link → Held side
      → Held (set_path side i end second)
  path-held side i end second within right held =
      record {
        long = omega (arith, length-set_path side i end second, held.long);
        ends = λ h one le.
            by_cases (ℕ_discrete h i)
            (λ at.
            subst (λ (x : ℕ). Joins between (end_in (set_path side i end second) x) (second_in (set_path side i end second) x) (link_in (set_path side i end second) x)) (sym at)
            (rw (end-set_path side i end second wide within, second-set_path side i end second wide within, link-set_path side i end second wide within) right))
            (λ off.
            rw (end-set_path-other side i end second h off within (omega arith), second-set_path-other side i end second h off within (omega arith), link-set_path-other side i end second h off within (omega arith))
            (held.ends h one le));
        priors = λ x. rw (prior-set_path side i end second within x, prior_link-set_path side i end second within x) (held.priors x);
      }
    where
      wide : prior_start ≤ length side
      wide = omega (arith, held.long)

  prior-held : (side : List ℕ) (v second link : ℕ) → v ≤ reach → Joins between v second link → Held side → Held (set_prior side v second link)
  prior-held side v second link within right held =
      record {
        long = omega (arith, length-set_prior side v second link, held.long);
        ends = λ i one le.
            rw (end-set_prior side v second link i (omega arith), second-set_prior side v second link i (omega arith), link-set_prior side v second link i (omega arith))
            (held.ends i one le);
        priors = λ x.
            by_cases (ℕ_discrete x v)
            (λ at.
            subst (λ (y : ℕ). Joins between y (prior_in (set_prior side v second link) y) (prior_link_in (set_prior side v second link) y)) (sym at)
            (rw (prior-set_prior side v second link (omega (arith, held.long)), prior_link-set_prior side v second link (omega (arith, held.long))) right))
            (λ off. rw (prior-set_prior-other side v second link x off, prior_link-set_prior-other side v second link x off) (held.priors x));
      }

  module _ (look : ℕ → ℕ → Entry)
      (given : (i x : ℕ) → 1 ≤ i → i ≤ k → 0 < (look i x).place → (look i x).link ≡ between (look i x).place x) where
    -- A path that is set to end at what is looked up from its last but one.
    looked-held : (side : List ℕ) (i x : ℕ) → 1 ≤ i → i ≤ k → Held side → Held (set_path side i (look i x) x)
    looked-held side i x one le = path-held side i (look i x) x (omega arith) (λ some _. given i x one le some)

    start_a-held : (s i : ℕ) → i ≤ k → (a : List ℕ) → Held a → Held (start_a look s i a)
    unfolding start_a
    start_a-held s zero le a held = held
    start_a-held s (suc i) le a held =
        start_a-held s i (omega arith) (set_path a (suc i) (look (suc i) s) s) (looked-held a (suc i) s (omega arith) le held)

    start_b-held : (t i : ℕ) → i ≤ k → (b : List ℕ) → Held b → Held (start_b t i b)
    unfolding start_b
    start_b-held t zero le b held = held
    start_b-held t (suc i) le b held =
        let alone : Entry = record { place = t; link = 0 } in
        start_b-held t i (omega arith) (set_path b (suc i) alone 0)
        (path-held b (suc i) alone 0 (omega arith) (λ some none. absurd (omega arith)) held)

    leave_at-held : (t : ℕ) (a : List ℕ) (i : ℕ) → 1 ≤ i → i ≤ k → (b : List ℕ) → Held b → Held (leave_at look t a i b)
    unfolding leave_at
    leave_at-held t a i one le b held = go (eqb (end_in a i) t)
      where
        go : (c : Bool) → Held (pick c b (set_path b i (look i t) t))
        go true = held
        go false = looked-held b i t one le held

    leave-held : (t : ℕ) (a : List ℕ) (i : ℕ) → i ≤ k → (b : List ℕ) → Held b → Held (leave_from look t a i b)
    unfolding leave_from
    leave-held t a zero le b held = held
    leave-held t a (suc i) le b held =
        leave-held t a i (omega arith) (leave_at look t a (suc i) b) (leave_at-held t a (suc i) (omega arith) le b held)

    trade_at-held : (v j i : ℕ) → 1 ≤ i → i < j → j ≤ k → (side : List ℕ) → Held side → Held (trade_at look v j i side)
    unfolding trade_at trade
    trade_at-held v j i one less bound side held = go (eqb (end_in side i) v)
      where
        go : (c : Bool) → Held (pick c (trade look j i side) side)
        go true =
            looked-held (set_path side j (end_entry side i) (second_in side i)) i (second_in side j) one (omega arith)
            (path-held side j (end_entry side i) (second_in side i) (omega arith) (held.ends i one (omega arith)) held)
        go false = held

    trade-held : (v j i : ℕ) → i < j → j ≤ k → (side : List ℕ) → Held side → Held (trade_from look v j i side)
    unfolding trade_from
    trade-held v j zero less bound side held = held
    trade-held v j (suc i) less bound side held =
        trade-held v j i (omega arith) bound (trade_at look v j (suc i) side) (trade_at-held v j (suc i) (omega arith) less bound side held)

    advance-held : (v j other : ℕ) → v ≤ reach → 1 ≤ j → j ≤ k → (side : List ℕ) → Held side → Held (advance look v j other side)
    unfolding advance extend_path
    advance-held v j other within one bound side held = go (eqb (end_in side j) v) (eqb other v) refl
      where
        go : (c d : Bool) → eqb (end_in side j) v ≡ c → Held (pick c (pick d side (extend_path look v j side)) side)
        go true true e = held
        go true false e =
            looked-held (set_prior side v (second_in side j) (link_in side j)) j v one bound
            (prior-held side v (second_in side j) (link_in side j) within
            (subst (λ (x : ℕ). Joins between x (second_in side j) (link_in side j)) (eqb-true (end_in side j) v e) (held.ends j one bound)) held)
        go false d e = held

    pass-held : (v j : ℕ) → v ≤ reach → 1 ≤ j → j ≤ k → (a b : List ℕ) → Held a → Held b → BothLinked between k reach (pass_at look v j a b)
    unfolding pass_at
    pass-held v j within one bound a b held_a held_b =
        let below : pred j < j = omega arith in
        let a' : List ℕ = trade_from look v j (pred j) a in
        let b' : List ℕ = trade_from look v j (pred j) b in (
          advance-held v j (end_in b' j) within one bound a' (trade-held v j (pred j) below bound a held_a),
          advance-held v j (end_in a' j) within one bound b' (trade-held v j (pred j) below bound b held_b),
        )

    step-held : (t v : ℕ) → v ≤ reach → (a b : List ℕ) → Held a → Held b → BothLinked between k reach (step_in look k t v a b)
    unfolding step_in highest_in
    step-held t v within a b held_a held_b = go (eqb v t) (eqb (highest_in k v a b) 0) refl
      where
        go : (c d : Bool) → eqb (highest_in k v a b) 0 ≡ d
            → BothLinked between k reach (pick c (sides a (leave_from look t a k b)) (pick d (sides a b) (pass_at look v (highest_in k v a b) a b)))
        go true d e = (held_a, leave-held t a k (omega arith) b held_b)
        go false true e = (held_a, held_b)
        go false false e =
            pass-held v (highest_in k v a b) within
            (let some : highest_in k v a b ≢ 0 = eqb-false (highest_in k v a b) 0 e in omega arith)
            (largest-bound (λ i. eqb (end_in a i) v || eqb (end_in b i) v) k) a b held_a held_b

    steps-held : (t v : ℕ) → v ≤ reach → (a b : List ℕ) → Held a → Held b → BothLinked between k reach (sweep_in look k t v a b)
    unfolding sweep_in
    steps-held t zero within a b held_a held_b = (held_a, held_b)
    steps-held t (suc v) within a b held_a held_b =
        let after : Sides = step_in look k t (suc v) a b in
        let held : BothLinked between k reach after = step-held t (suc v) within a b held_a held_b in
        steps-held t v (omega arith) after.side_a after.side_b held.0 held.1

    -- The whole sweep, from lists without paths.
    pub swept-links : (s t : ℕ) → s ≤ reach → (a b : List ℕ) → NoPaths reach a → NoPaths reach b
        → BothLinked between k reach (swept_in look k s t a b)
    unfolding swept_in
    swept-links s t high a b no_a no_b =
        steps-held t (pred s) (omega arith) (start_a look s k a) (start_b t k b)
        (start_a-held s k (omega arith) a (none-held a no_a)) (start_b-held t k (omega arith) b (none-held b no_b))
