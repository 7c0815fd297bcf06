-- The laws of the links counted at each relay: what one link more adds. Assumes nothing.
use Prim.Native.Nat.{ℕ, suc, ◌+◌, ◌-◌, ◌≤◌, ◌<◌}
use mathlib.Core.Bool.{Bool, true, false, ◌||◌}
use mathlib.Core.List.{List}
use mathlib.Core.Path.{◌≡◌, refl, sym, ◌∙◌, ap, subst}
use native.Mathlib.Omega.{arith}
use borrow.Author.Tests.{eqb-true, eqb-false, eq-eqb}
use lib.Dec.{eqb}
use lib.ListN.{length, get_or, set, length-set}
use lib.Seq.{get_or-set_same, get_or-set_other}
use Rattle.definitions.specs.Outcome.{pick}
use Rattle.definitions.specs.Lists.{table, count}
use Rattle.definitions.specs.Network.{touches}
use Rattle.lists.specs.Counting.{count-length}
use Rattle.lists.specs.Tables.{length-table}
use Rattle.forests.specs.LinkCounts.{links_from, CountedFrom, CountedBut, more_links, run_on, list_on}
use Rattle.forests.specs.Counts.{NoneBeyond}

module _ (lows highs : List ℕ) where
  -- No link is left at the end of the table.
  links_end : (r : ℕ) → links_from lows highs (length lows) r ≡ 0
  unfolding links_from table count
  links_end r = let p : length lows - length lows ≡ 0 = omega arith in rw p

  -- One link more in front.
  links-more : (h r : ℕ) → h < length lows
      → links_from lows highs h r ≡ pick (touches lows highs r h) 1 0 + links_from lows highs (h + 1) r
  unfolding links_from table count
  links-more h r within = let p : length lows - h ≡ suc (length lows - (h + 1)) = omega arith in rw p

  links-few : (i r : ℕ) → links_from lows highs i r ≤ length lows - i
  unfolding links_from
  links-few i r =
      let rest = table (λ (j : ℕ). j) i (length lows - i) in
      omega (arith, count-length (touches lows highs r) rest, length-table (λ (j : ℕ). j) i (length lows - i))

-- Links more at p are links more of p alone.
more-at : (counts : List ℕ) (p more r : ℕ) → p < length counts
    → get_or (more_links p more counts) r 0 ≡ get_or counts r 0 + pick (eqb p r) more 0
more-at counts p more r within = go (eqb p r) refl
  where
    go : (b : Bool) → eqb p r ≡ b → get_or (set counts p (get_or counts p 0 + more)) r 0 ≡ get_or counts r 0 + pick b more 0
    go true e =
        subst (λ z. get_or (set counts p (get_or counts p 0 + more)) z 0 ≡ get_or counts z 0 + more) (eqb-true p r e)
        (get_or-set_same counts p (get_or counts p 0 + more) 0 within)
    go false e = get_or-set_other counts p r (get_or counts p 0 + more) 0 (λ z. eqb-false p r e (sym z)) ∙ omega arith

more-long : (counts : List ℕ) (p more : ℕ) → length (more_links p more counts) ≡ length counts
more-long counts p more = length-set counts p (get_or counts p 0 + more)

-- One link more at b behind a run at `last`: list and run together have one more at b.
on-at : (counts : List ℕ) (b last run r : ℕ) → last < length counts
    → get_or (list_on b last run counts) r 0 + pick (eqb b r) (run_on b last run) 0
    ≡ get_or counts r 0 + pick (eqb last r) run 0 + pick (eqb b r) 1 0
unfolding list_on run_on
on-at counts b last run r within = go (eqb b last) refl
  where
    again : (y : Bool) → get_or counts r 0 + pick y (run + 1) 0 ≡ get_or counts r 0 + pick y run 0 + pick y 1 0
    again true = omega arith
    again false = omega arith

    go : (t : Bool) → eqb b last ≡ t
        → get_or (pick t counts (more_links last run counts)) r 0 + pick (eqb b r) (pick t (run + 1) 1) 0
        ≡ get_or counts r 0 + pick (eqb last r) run 0 + pick (eqb b r) 1 0
    go true e = rw (sym (eqb-true b last e)) (again (eqb b r))
    go false e = rw (more-at counts last run r within)

-- Before the first turn no link is counted.
pub counted_none : (lows highs counts : List ℕ) → NoneBeyond 0 counts → CountedBut lows highs (length lows) 0 0 counts
counted_none lows highs counts none r = go (eqb 0 r)
  where
    go : (b : Bool) → get_or counts r 0 + pick b 0 0 ≡ links_from lows highs (length lows) r
    go true = omega (arith, none r (omega arith), links_end lows highs r)
    go false = omega (arith, none r (omega arith), links_end lows highs r)

-- No relay has more links than there are, with those in hand.
module _ (lows highs counts : List ℕ) (i last run : ℕ) (c : CountedBut lows highs i last run counts) (short : length lows ≤ 3000) where
  pub in-hand-few : get_or counts last 0 + run ≤ 3000 - i
  in-hand-few =
      let own : get_or counts last 0 + run ≡ links_from lows highs i last = rw (eq-eqb last last refl) at (c last) in
      omega (arith, own, links-few lows highs i last)

  pub in-list-few : (r : ℕ) → get_or counts r 0 ≤ 3000 - i
  in-list-few r = omega (arith, c r, links-few lows highs i r)

  -- Behind a link more at a.
  pub behind-few : (a : ℕ) → a < length counts → 0 < i → i ≤ length lows → get_or (more_links a 1 counts) last 0 + run ≤ 3000
  behind-few a within some front = go (eqb a last) (more-at counts a 1 last within)
    where
      go : (b : Bool) → get_or (more_links a 1 counts) last 0 ≡ get_or counts last 0 + pick b 1 0
          → get_or (more_links a 1 counts) last 0 + run ≤ 3000
      go true e = omega (arith, e, in-hand-few)
      go false e = omega (arith, e, in-hand-few)

  -- All are counted once those in hand are in the list.
  pub counted-all : last < length counts → CountedFrom lows highs i (more_links last run counts)
  counted-all within r = more-at counts last run r within ∙ c r

  -- One turn: link h is counted at its two ends.
  pub counted-more : (h : ℕ) → h + 1 ≡ i → i ≤ length lows → get_or lows h 0 < get_or highs h 0 → get_or highs h 0 < length counts
      → last < length counts
      → CountedBut lows highs h (get_or highs h 0) (run_on (get_or highs h 0) last run)
      (list_on (get_or highs h 0) last run (more_links (get_or lows h 0) 1 counts))
  unfolding touches
  counted-more h e front less below within r =
      let a = get_or lows h 0 in
      let b = get_or highs h 0 in
      let once = more_links a 1 counts in
      let rest : get_or counts r 0 + pick (eqb last r) run 0 ≡ links_from lows highs (h + 1) r =
      c r ∙ ap (λ j. links_from lows highs j r) (sym e) in
      omega (
        arith,
        on-at once b last run r (omega (arith, more-long counts a 1)),
        more-at counts a 1 r (omega arith),
        rest,
        links-more lows highs h r (omega arith),
        both (eqb a r) refl (eqb b r) refl,
      )
    where
      both : (x : Bool) → eqb (get_or lows h 0) r ≡ x → (y : Bool) → eqb (get_or highs h 0) r ≡ y
          → pick (x || y) 1 0 ≡ pick x 1 0 + pick y 1 0
      both true f true g = absurd (omega (arith, eqb-true (get_or lows h 0) r f, eqb-true (get_or highs h 0) r g))
      both true f false g = refl
      both false f true g = refl
      both false f false g = refl
