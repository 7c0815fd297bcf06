-- The scan from its start over each step to its end. Assumes nothing.
use Prim.Native.Nat.{ℕ, suc, ◌+◌, ◌-◌, ◌*◌, ◌≤◌, ◌<◌}
use mathlib.Core.Bool.{Bool, true, false}
use mathlib.Core.List.{List}
use mathlib.Core.Path.{◌≡◌, refl, sym, ◌∙◌, ap}
use native.Mathlib.Decide.{ℕ_discrete, dec_lt}
use native.Mathlib.Numerals.{add-one}
use native.Mathlib.Omega.{arith}
use borrow.Author.Tests.{eq-eqb}
use lib.ListN.{length, get_or, set}
use lib.Seq.{get_or-set_same, get_or-set_other, set_out}
use Rattle.definitions.specs.Outcome.{pick}
use Rattle.definitions.specs.Lists.{overwrite, some_below, has}
use Rattle.definitions.specs.Network.{joins, linked, touches, serves, Accepted}
use Rattle.definitions.specs.Order.{placed_after, first_relay, order_of}
use Rattle.lists.specs.Tables.{length-overwrite}
use Rattle.theory.specs.Accepted.{ProperTable, accepted}
use Rattle.theory.specs.ServingRelays.{serving-few}
use Rattle.theory.specs.Links.{joined-linked}
use Rattle.forests.specs.Counts.{raised_count, StartCounts, turns_of, Heaviest}
use Rattle.forests.specs.Buckets.{column_words, most_columns, most_count, columns_for, Buckets, Leads}
use Rattle.forests.specs.Walk.{far_end, Walked}
use Rattle.forests.specs.Scan.{placed, following, is_serving, Placeable, PlacedOne, CountsAt, ScannedTo, Startable, Started, Scanned}
use Rattle.forests.proofs.CountLaws.{raised-most}
use Rattle.forests.proofs.LeadLaws.{leads-heaviest}
use Rattle.forests.proofs.WalkLaws.{joins-far}
use Rattle.forests.proofs.OrderLaws.{placed-long, placed-suc, following-below, following-first, has_same, weight-linked}
use Rattle.forests.proofs.WeightLaws.{weight-few}
use Rattle.forests.proofs.ChoiceLaws.{count-waiting, count-placed, count-beyond, some-waits, heaviest-follows, first-heaviest}
use Rattle.forests.proofs.StepLaws.{counts_start, forests-start, unnumbered, counts_step, forests-step}
use Rattle.forests.proofs.PlaceLaws.{places-start, overwrite-next, places-step}
use Rattle.forests.proofs.SizeLaws.{wide-table}
use Rattle.forests.proofs.FinishLaws.{places-finish, forests-finish}

-- What placing one relay did, in the code's terms.
pub placed_one : {n v : ℕ} {lows highs states counts counts' bits' relays relays' places places' forests forests' : List ℕ} {count : ℕ} (x : ℕ)
    → following n lows highs states (v - 1) ≡ x → ((r : ℕ) → get_or counts r 0 ≤ get_or counts x 0) → get_or counts x 0 ≤ most_count
    → relays' ≡ set relays (v - 1) x → places' ≡ set places x v
    → (count ≡ get_or counts x 0) × Walked x lows highs counts counts' forests forests' × Buckets counts' bits'
    → PlacedOne n v lows highs states counts counts' bits' relays relays' places places' forests forests' (count + 1)
placed_one {n} {v} {lows} {highs} {counts} {counts'} {count = count} x e h few r p w =
    record {
      relay = rw e r;
      place = rw e p;
      walked = rw e w.1;
      sorted = w.2;
      bounded = λ q. rw (w.1.count q) (go q (some_below (joins lows highs x q) (length lows)));
      most_few = omega (arith, w.0);
    }
  where
    cleared : (q : ℕ) → Dec (q ≡ x) → Dec (x < length counts) → get_or (set counts x 0) q 0 ≤ count
    cleared q (yes d) (yes below) = rw (d, get_or-set_same counts x 0 0 below) (omega arith)
    cleared q (yes d) (no below) = rw (set_out counts x 0 (omega arith)) (omega (arith, h q, w.0))
    cleared q (no d) below = rw (get_or-set_other counts x q 0 0 d) (omega (arith, h q, w.0))

    go : (q : ℕ) (b : Bool) → pick b (raised_count (get_or (set counts x 0) q 0)) (get_or (set counts x 0) q 0) ≤ count + 1
    go q true =
        omega (arith, raised-most (get_or (set counts x 0) q 0), cleared q (ℕ_discrete q x) (dec_lt x (length counts)))
    go q false = omega (arith, cleared q (ℕ_discrete q x) (dec_lt x (length counts)))

-- The columns of n relays have room, and the relay that leads in them is the next one.
module _ {n v most : ℕ} {lows highs states first nexts counts bits relays places forests : List ℕ}
    (p : Placeable n v most lows highs states first nexts counts bits relays places forests) (columns : ℕ) (e : columns ≡ columns_for n)
  where
    within : v - 1 < turns_of n states
    within = omega (arith, p.some, p.within)

    pub columns-room : (columns ≤ most_columns) × (columns * column_words ≤ length bits)
    columns-room =
        omega (arith, e, p.few, within, serving-few n states, p.walkable.sorted.room (n - 1) (omega (arith, within, p.counts_at.room)))

    -- What `next_relay` gives: the first relay of the order at place 1, then the relay that leads.
    module _ {x start : ℕ} (first' : v ≡ 1 → start ≡ first_relay n lows highs states)
        (c : (v ≡ 1 → x ≡ start) × (1 < v → Leads columns most bits x))
      where
        heaviest : 1 < v → Heaviest counts x
        heaviest h =
            leads-heaviest columns most x (following n lows highs states (v - 1)) p.walkable.sorted (c.1 h) p.most_few columns-room.1
            (λ r q. count-beyond p.counts_at r (omega (arith, e, q))) p.bounded (some-waits p.counts_at within)

        pub next-is : following n lows highs states (v - 1) ≡ x
        next-is = go (dec_lt 1 v)
          where
            go : Dec (1 < v) → following n lows highs states (v - 1) ≡ x
            go (yes h) = heaviest-follows p.counts_at within (heaviest h) (omega arith)
            go (no h) =
                let one : v ≡ 1 = omega (arith, p.some) in
                let none : v - 1 ≡ 0 = omega arith in
                ap (following n lows highs states) none ∙ following-first n lows highs states ∙ sym (first' one) ∙ sym (c.0 one)

        pub next-most : (r : ℕ) → get_or counts r 0 ≤ get_or counts x 0
        next-most r = go (dec_lt 1 v)
          where
            go : Dec (1 < v) → get_or counts r 0 ≤ get_or counts x 0
            go (yes h) = (heaviest h).most r
            go (no h) =
                let none : v - 1 ≡ 0 = omega (arith, p.some) in
                rw (← next-is, none) (first-heaviest (rw none at p.counts_at) (omega (arith, within)) r)

    -- It is one of the n.
    pub next-below : following n lows highs states (v - 1) < n
    next-below = following-below n lows highs states (v - 1) within

-- A relay with one more link to a placed relay waits with at most 76 of them.
counts-few : {n : ℕ} {lows highs states counts : List ℕ} (k : ℕ) → Accepted n lows highs states → k < turns_of n states → CountsAt n lows highs states k counts
    → (j : ℕ) → j < length lows → touches lows highs (following n lows highs states k) j ≡ true
    → get_or (set counts (following n lows highs states k) 0) (far_end lows highs (following n lows highs states k) j) 0 < most_count
counts-few {n} {lows} {highs} {states} {counts} k ok within at j h touch =
    go (ℕ_discrete y x) (is_serving n states y) refl (has (placed n lows highs states k) y) refl
  where
    t : ProperTable n lows highs
    t = accepted n lows highs states ok

    x : ℕ
    x = following n lows highs states k

    y : ℕ
    y = far_end lows highs (following n lows highs states k) j

    link : linked lows highs x y ≡ true
    link = joined-linked lows highs x y j h (joins-far lows highs x y j touch (t.ordered j h) ∙ eq-eqb y y refl)

    go : Dec (y ≡ x) → (s : Bool) → is_serving n states y ≡ s → (b : Bool) → has (placed n lows highs states k) y ≡ b
        → get_or (set counts x 0) y 0 < most_count
    go (yes e) s f b p =
        rw (e, get_or-set_same counts x 0 0 (omega (arith, following-below n lows highs states k within, at.room))) (omega arith)
    go (no e) false f b p = rw (get_or-set_other counts x y 0 0 e) (omega (arith, at.rest y f))
    go (no e) true f true p = rw (get_or-set_other counts x y 0 0 e) (omega (arith, count-placed at y f p))
    go (no e) true f false p =
        let later : has (placed n lows highs states (suc k)) y ≡ false = has_same n lows highs states k y e ∙ p in
        rw (get_or-set_other counts x y 0 0 e)
        (omega (
          arith,
          count-waiting at y f p,
          weight-linked n lows highs states k y link,
          weight-few n lows highs states ok (suc k) y f later,
        ))

-- All relays in service wait, and the list of relays begins with the first.
pub all-started : {n turns start : ℕ} {lows highs states first nexts counts counts' bits bits' relays relays' places forests : List ℕ}
    → Startable n turns start lows highs states first nexts counts bits relays places forests
    → length counts' ≡ length counts → StartCounts n states counts' → Buckets counts' bits' → length relays' ≡ length relays
    → Started n lows highs states first nexts counts' bits' relays' places forests
all-started can long waiting sorted kept =
    let lists = can.scannable in
    let ready = can.ready in
    record {
      scannable =
          record {
            accepted = lists.accepted;
            relay_room = omega (arith, lists.relay_room);
            place_room = lists.place_room;
            forest_room = lists.forest_room;
          };
      heads = ready.heads;
      few = ready.few;
      chained = ready.prepared.chained;
      no_places = can.no_places;
      no_forests = can.no_forests;
      count_room = omega (arith, ready.count_room);
      start_counts = waiting;
      sorted = sorted;
    }

module _ {n : ℕ} {lows highs states first nexts counts bits relays places forests : List ℕ}
    (can : Started n lows highs states first nexts counts bits relays places forests)
  where
    proper : ProperTable n lows highs
    proper = accepted n lows highs states can.scannable.accepted

    pub scan-starts : ScannedTo n lows highs states 0 counts relays relays places places forests forests
    unfolding placed_after overwrite
    scan-starts =
        record {
          counts_at = counts_start can.start_counts;
          relays_at = refl;
          places_at = places-start places;
          forests_at = forests-start forests can.no_forests;
        }

    -- No relay has a link to a placed one yet.
    pub first-most : (r : ℕ) → get_or counts r 0 ≤ 1
    first-most r = go (dec_lt r n) (serves states r) refl
      where
        go : Dec (r < n) → (b : Bool) → serves states r ≡ b → get_or counts r 0 ≤ 1
        go (yes h) true e = let one : get_or counts r 0 ≡ 1 = can.start_counts.waiting r h ∙ rw e in omega arith
        go (yes h) false e = let none : get_or counts r 0 ≡ 0 = can.start_counts.waiting r h ∙ rw e in omega arith
        go (no h) b e = omega (arith, can.start_counts.rest r (omega arith))

    -- Where no relay is placed yet, the list of relays begins as it did.
    pub first-stays : {counts' relays' places' forests' : List ℕ} (k : ℕ) → k ≡ 0
        → ScannedTo n lows highs states k counts' relays relays' places places' forests forests' → get_or relays' 0 0 ≡ get_or relays 0 0
    unfolding placed_after overwrite
    first-stays {relays' = relays'} k none at =
        let same : relays' ≡ relays = at.relays_at ∙ ap (λ (j : ℕ). overwrite (placed n lows highs states j) relays) none in
        ap (λ (l : List ℕ). get_or l 0 0) same

    pub relays-long : {counts' relays' places' forests' : List ℕ} (k : ℕ) → k ≤ turns_of n states
        → ScannedTo n lows highs states k counts' relays relays' places places' forests forests' → length relays' ≡ length relays
    relays-long k within at =
        ap length at.relays_at
        ∙ length-overwrite (placed n lows highs states k) relays (omega (arith, placed-long n lows highs states k, serving-few n states, can.scannable.relay_room))

    module _ {counts' relays' places' forests' : List ℕ} (k : ℕ) (within : k < turns_of n states)
        (at : ScannedTo n lows highs states k counts' relays relays' places places' forests forests')
      where
        pub scan-places : {bits' : List ℕ} (most : ℕ) → Buckets counts' bits' → ((r : ℕ) → get_or counts' r 0 ≤ most) → most < column_words
            → length first ≤ length counts'
            → Placeable n (k + 1) most lows highs states first nexts counts' bits' relays' places' forests'
        scan-places most sorted bounded few room =
            let back : k + 1 - 1 ≡ k = omega arith in
            record {
              some = omega arith;
              within = omega arith;
              few = proper.few;
              relay_room = omega (arith, relays-long k (omega arith) at, can.scannable.relay_room);
              place_room = omega (arith, at.places_at.long, can.scannable.place_room);
              counts_at = rw back at.counts_at;
              bounded = bounded;
              most_few = few;
              walkable =
                  rw back
                  (record {
                    proper = wide-table can.heads can.few proper;
                    chained = can.chained;
                    relay = omega (arith, following-below n lows highs states k within, can.heads);
                    count_room = room;
                    room = omega (arith, at.forests_at.beyond.long, can.scannable.forest_room);
                    sorted = sorted;
                    bound = counts-few k can.scannable.accepted within at.counts_at;
                    fresh = unnumbered proper k within at.counts_at at.forests_at;
                  });
            }

        pub scan-moves : {counts'' bits'' relays'' places'' forests'' : List ℕ} {most : ℕ}
            → PlacedOne n (k + 1) lows highs states counts' counts'' bits'' relays' relays'' places' places'' forests' forests'' most
            → ScannedTo n lows highs states (k + 1) counts'' relays relays'' places places'' forests forests''
        scan-moves {counts''} {bits''} {relays''} {places''} {forests''} p =
            let back : k + 1 - 1 ≡ k = omega arith in
            let walked : Walked (following n lows highs states k) lows highs counts' counts'' forests' forests'' = rw back at p.walked in
            let relay : relays'' ≡ set relays' k (following n lows highs states k) = rw back at p.relay in
            let place : places'' ≡ set places' (following n lows highs states k) (suc k) = rw (back, add-one k) at p.place in
            rw (add-one k)
            (record {
              counts_at = counts_step proper k within at.counts_at walked;
              relays_at =
                  relay
                  ∙ ap (λ l. set l k (following n lows highs states k)) at.relays_at
                  ∙ overwrite-next (placed n lows highs states k) relays k (following n lows highs states k) (placed-long n lows highs states k)
                  (omega (arith, serving-few n states, can.scannable.relay_room))
                  ∙ ap (λ l. overwrite l relays) (sym (placed-suc n lows highs states k));
              places_at = rw place (places-step n lows highs states k within places places' can.scannable.place_room at.places_at);
              forests_at = forests-step proper k within at.counts_at walked forests at.forests_at;
            })

    pub scan-ends : {counts' relays' places' forests' : List ℕ}
        → ScannedTo n lows highs states (turns_of n states) counts' relays relays' places places' forests forests'
        → Scanned n lows highs states relays relays' places places' forests forests'
    unfolding order_of
    scan-ends {counts'} {relays'} {places'} {forests'} at =
        record {
          the_order = at.relays_at;
          the_places = places-finish n lows highs states places places' can.scannable.place_room can.no_places at.places_at;
          the_forests = forests-finish n lows highs states forests forests' can.scannable.accepted can.scannable.forest_room at.forests_at;
        }
