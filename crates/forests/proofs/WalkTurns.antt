-- The walk over the links of a relay, turn by turn from one half-link to the next. Assumes nothing.
use Prim.Native.Nat.{ℕ, suc, ◌*◌, ◌/◌, ◌≤◌, ◌<◌}
use mathlib.Core.Bool.{true}
use mathlib.Core.List.{List}
use mathlib.Core.Path.{◌≡◌, sym, ◌∙◌, ap, ap₂}
use native.Mathlib.Decide.{dec_lt}
use native.Mathlib.Omega.{arith}
use borrow.Author.Tests.{le-ltb}
use lib.ListN.{length, get_or, set, length-set}
use Rattle.definitions.specs.Network.{touches}
use Rattle.forests.specs.Chains.{next_from, half_of, next_half}
use Rattle.forests.specs.Counts.{raised_count, forest_number}
use Rattle.forests.specs.Buckets.{Buckets, Moved}
use Rattle.forests.specs.Walk.{far_end, across, Visitable, Visited, WalkedTo, Walkable}
use Rattle.forests.proofs.ChainLaws.{next-within, next-touches, next-between, half-some, half-none, half-link}
use Rattle.forests.proofs.WalkLaws.{across-far, far-below, far-count, next-behind, walked_none, walked_skip, walked_one}

-- What a visit did, in the code's terms.
pub visit-done : {h : ℕ} {lows highs nexts counts counts' bits' forests : List ℕ} {count number next : ℕ} (y : ℕ)
    → y ≡ across lows highs h → (count ≡ get_or counts y 0) × Moved y (raised_count count) counts counts' bits'
    → number ≡ forest_number count (get_or forests (h / 2) 0) → next ≡ get_or nexts h 0
    → Visited h lows highs nexts counts counts' bits' forests (set forests (h / 2) number) next
visit-done {h} {lows} {highs} {nexts} {counts} {counts'} {bits'} {forests} {count} {number} {next} y e m f n =
    let old : count ≡ get_or counts (across lows highs h) 0 = m.0 ∙ ap (λ z. get_or counts z 0) e in
    record {
      count = m.1.stored ∙ ap₂ (set counts) e (ap raised_count old);
      sorted = m.1.sorted;
      forest = ap (set forests (h / 2)) (f ∙ ap (λ z. forest_number z (get_or forests (h / 2) 0)) old);
      onward = n;
    }

-- The walk stands before the half-link h, the next one at x; below its link all is done.
abbrev pub Walking : (lows highs : List ℕ) (x h : ℕ) (counts counts' bits' forests forests' : List ℕ) → Type 0
Walking lows highs x h counts counts' bits' forests forests' =
    (h ≤ 2 * length lows)
    × (h < 2 * length lows → (touches lows highs x (h / 2) ≡ true) × (h ≡ half_of lows x (h / 2)))
    × WalkedTo lows highs x (h / 2) counts counts' forests forests'
    × Buckets counts' bits'

-- It stands there before the next link from i on, when all is done up to that link.
walks-on : {lows highs counts counts' bits' forests forests' : List ℕ} (x i : ℕ) → i ≤ length lows
    → WalkedTo lows highs x i counts counts' forests forests' → Buckets counts' bits'
    → (i ≤ next_half lows highs x i / 2) × Walking lows highs x (next_half lows highs x i) counts counts' bits' forests forests'
walks-on {lows} {highs} {counts} {counts'} {bits'} {forests} {forests'} x i h w s = go (dec_lt j (length lows))
  where
    j : ℕ
    j = next_from lows highs x i

    bounds : (i ≤ j) × (j ≤ length lows)
    bounds = next-within lows highs x i h

    done : WalkedTo lows highs x j counts counts' forests forests'
    done = walked_skip lows highs x i j bounds.0 (next-between lows highs x i) w

    go : Dec (j < length lows)
        → (i ≤ next_half lows highs x i / 2) × Walking lows highs x (next_half lows highs x i) counts counts' bits' forests forests'
    go (yes p) =
        let link = half-link lows highs x j in
        rw (half-some lows highs x i p) (
          omega (arith, link, bounds.0),
          (
            omega (arith, link),
            λ _. (rw link (next-touches lows highs x i p), ap (half_of lows x) (sym link)),
            rw link done,
            s,
          ),
        )
    go (no p) =
        let last : j ≡ length lows = omega (arith, bounds.1) in
        let half : 2 * length lows / 2 ≡ length lows = omega arith in
        rw (half-none lows highs x i (omega arith), half) (
          h,
          (omega arith, λ less. absurd (omega arith), rw last at done, s),
        )

-- `cleared` are the counts with x placed.
module _ {x : ℕ} {lows highs first nexts counts cleared bits bits₀ forests : List ℕ}
    (can : Walkable x lows highs first nexts counts bits forests) (c : Moved x 0 counts cleared bits₀)
  where
    pub walk-starts : (h : ℕ) → h ≡ get_or first x 0 → Walking lows highs x h cleared cleared bits₀ forests forests
    walk-starts h e =
        rw (e ∙ can.chained.heads x can.relay)
        (walks-on x 0 (omega arith) (walked_none lows highs x cleared forests) c.sorted).1

    room : length first ≤ length cleared
    room = omega (arith, can.count_room, ap length c.stored, length-set counts x 0)

    module _ {counts' bits' forests' : List ℕ} (h : ℕ) (within : h < 2 * length lows)
        (w : Walking lows highs x h cleared counts' bits' forests forests')
      where
        link : h / 2 < length lows
        link = omega arith

        at : touches lows highs x (h / 2) ≡ true
        at = (w.1 within).0

        far : across lows highs h ≡ far_end lows highs x (h / 2)
        far = ap (across lows highs) (w.1 within).1 ∙ across-far lows highs x (h / 2)

        old : get_or counts' (far_end lows highs x (h / 2)) 0 ≡ get_or (set counts x 0) (far_end lows highs x (h / 2)) 0
        old =
            far-count lows highs x (h / 2) can.proper link at w.2
            ∙ ap (λ l. get_or l (far_end lows highs x (h / 2)) 0) c.stored

        pub walk-visits : Visitable h lows highs nexts counts' bits' forests'
        walk-visits =
            let left : get_or forests' (h / 2) 0 ≡ get_or forests (h / 2) 0 =
            w.2.forest (h / 2) ∙ rw (le-ltb (h / 2) (h / 2) (omega arith)) in
            record {
              within = within;
              same = sym can.proper.even;
              short = can.proper.short;
              room = omega (arith, can.room, w.2.long);
              next_room = can.chained.room;
              far = omega (arith, far, far-below lows highs x (h / 2) can.proper link, w.2.count_room, room);
              sorted = w.3;
              bound = rw far (omega (arith, old, can.bound (h / 2) link at));
              fresh = rw far (λ some. left ∙ can.fresh (h / 2) link at (omega (arith, some, old)));
            }

        pub walk-moves : {counts'' bits'' forests'' : List ℕ} (next : ℕ)
            → Visited h lows highs nexts counts' counts'' bits'' forests' forests'' next
            → (h < next) × Walking lows highs x next cleared counts'' bits'' forests forests''
        walk-moves {counts''} {bits''} {forests''} next v =
            let e : next ≡ next_half lows highs x (suc (h / 2)) =
            v.onward ∙ ap (λ z. get_or nexts z 0) (w.1 within).1 ∙ next-behind lows highs x (h / 2) can.chained at link in
            let one = walked_one lows highs x (h / 2) can.proper link room can.room at w.2 in
            let done : WalkedTo lows highs x (suc (h / 2)) cleared counts'' forests forests'' = rw (v.count, v.forest, far) one in
            let on = walks-on x (suc (h / 2)) link done v.sorted in
            rw e (omega (arith, on.0), on.1)
