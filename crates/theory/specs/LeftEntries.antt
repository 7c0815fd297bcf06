-- The link that looking up left(f, v) gives: it is in forest f, its later place is v and its earlier place left(f, v), and each
-- link between relays of the order is given by the look-up at its own forest and later place.
-- Over any order; then for the base and an accepted table.
use Prim.Native.Nat.{ℕ, zero, suc, ◌≤◌, ◌<◌}
use Rattle.std.specs.Prelude.{Bool, true, ◌&&◌, List, ◌≡◌, eqb, length}
use Rattle.std.proofs.Math.Path.{refl}
use Rattle.std.proofs.Common.{sym, ◌∙◌, ap₂, subst₂, arith}
use borrow.Author.Tests.{eqb-true, eq-eqb}
use Rattle.definitions.specs.Lists.{first_from}
use Rattle.definitions.specs.Network.{joins, linked, link_serves, Accepted}
use Rattle.definitions.specs.Order.{order_of, relay_at}
use Rattle.definitions.specs.Forests.{left, forest_of, later_of, left_link, Entry, left_entry}
use Rattle.definitions.specs.Route.{left_of}
use Rattle.definitions.specs.Over.{entry_of}
use Rattle.lists.specs.Tests.{and_both, and-all}
use Rattle.lists.specs.Searches.{first_holds}
use Rattle.theory.specs.ForestNumbers.{earlier_place, later_place, forest_in, Placed, LinkFacts, forest-placed, left-is-link, links-placed}
use Rattle.theory.specs.Arranged.{left_in, Arranged, arranged-forest, base-arranged}

-- left(i, v) of a table and an order, with its link.
abbrev pub entry_in : (order lows highs : List ℕ) (i v : ℕ) → Entry
entry_in order lows highs = left_entry (linked lows highs) order lows highs

-- Link l of the table is in forest f, from 1 on, and its later place is v.
pub record EntryLink (order lows highs : List ℕ) (f v l : ℕ) : Type 0 where
  pub some : 1 ≤ f
  pub within : l < length lows
  pub forest : forest_in order lows highs l ≡ f
  pub later : later_place order lows highs l ≡ v

module _ (order lows highs : List ℕ) where
  pub entry-left : (f v : ℕ) → (entry_in order lows highs f v).place ≡ left_in order lows highs f v
  unfolding left_entry
  entry-left f v = refl

  abbrev test : (f v l : ℕ) → Bool
  test f v l = eqb (forest_of (linked lows highs) order lows highs l) f && eqb (later_of order lows highs l) v

  test-link : (f v l : ℕ) → test f v l ≡ true → (forest_in order lows highs l ≡ f) × (later_place order lows highs l ≡ v)
  unfolding later_of
  test-link f v l e =
      let both = and_both (eqb (forest_in order lows highs l) f) (eqb (later_place order lows highs l) v) e in
      (eqb-true (forest_in order lows highs l) f both.0, eqb-true (later_place order lows highs l) v both.1)

  link-test : (f v l : ℕ) → EntryLink order lows highs f v l → test f v l ≡ true
  unfolding later_of
  link-test f v l e =
      and-all (eqb (forest_in order lows highs l) f) (eqb (later_place order lows highs l) v)
      (eq-eqb (forest_in order lows highs l) f e.forest) (eq-eqb (later_place order lows highs l) v e.later)

  -- The look-up finds a link of that forest and later place, if the table has one.
  found : (f v l : ℕ) → EntryLink order lows highs f v l → EntryLink order lows highs f v (entry_in order lows highs f v).link
  unfolding left_entry left_link
  found f v l e =
      let w = first_holds (test f v) (length lows) 0 l (omega arith) (omega (arith, e.within)) (link-test f v l e) in
      let both = test-link f v (first_from (test f v) 0 (length lows)) w.passes in
      record { some = e.some; within = omega (arith, w.upto, e.within); forest = both.0; later = both.1 }

  module _ (arranged : Arranged order lows highs) where
    pub entry-link-in : (f v : ℕ) → 0 < left_in order lows highs f v → EntryLink order lows highs f v (entry_in order lows highs f v).link
    unfolding left
    entry-link-in zero v some = absurd (omega arith)
    entry-link-in (suc f) v some =
        let w = left-is-link order lows highs arranged.unique (suc f) v some in
        found (suc f) v w.0 (record { some = omega arith; within = w.1; forest = w.5; later = w.4 })

    link-facts : (f v l : ℕ) → EntryLink order lows highs f v l → LinkFacts order lows highs l
    link-facts f v l e =
        arranged-forest order lows highs arranged l e.within (forest-placed order lows highs f e.some l e.within e.forest)

    -- Its earlier place is left(f, v), so it joins the two relays.
    pub entry-earlier-in : (f v l : ℕ) → EntryLink order lows highs f v l → earlier_place order lows highs l ≡ left_in order lows highs f v
    entry-earlier-in f v l e = sym (link-facts f v l e).is_left ∙ ap₂ (left_in order lows highs) e.forest e.later

    pub entry-joins-in : (f v l : ℕ) → EntryLink order lows highs f v l
        → joins lows highs (relay_at order (left_in order lows highs f v)) (relay_at order v) l ≡ true
    entry-joins-in f v l e =
        subst₂ (λ (x y : ℕ). joins lows highs (relay_at order x) (relay_at order y) l ≡ true)
        (entry-earlier-in f v l e) e.later (link-facts f v l e).ends

    -- The look-up at a link's own forest and later place gives that link: "at most one for each two".
    pub entry-own-in : (l : ℕ) → l < length lows → Placed order lows highs l
        → (entry_in order lows highs (forest_in order lows highs l) (later_place order lows highs l)).link ≡ l
    entry-own-in l h placed =
        let f = forest_in order lows highs l in
        let v = later_place order lows highs l in
        let some = (arranged-forest order lows highs arranged l h placed).forest in
        let own : EntryLink order lows highs f v l = record { some = some; within = h; forest = refl; later = refl } in
        let one = found f v l own in
        arranged.once (relay_at order (left_in order lows highs f v)) (relay_at order v)
        (entry_in order lows highs f v).link l one.within h (entry-joins-in f v (entry_in order lows highs f v).link one) (entry-joins-in f v l own)

-- The base.
pub entry_place : (n : ℕ) (lows highs states : List ℕ) (f v : ℕ) → (entry_of n lows highs states f v).place ≡ left_of n lows highs states f v
unfolding entry_of left_of
entry_place n lows highs states f v = entry-left (order_of n lows highs states) lows highs f v

pub entry-link : (n : ℕ) (lows highs states : List ℕ) → Accepted n lows highs states → (f v : ℕ) → 0 < left_of n lows highs states f v
    → EntryLink (order_of n lows highs states) lows highs f v (entry_of n lows highs states f v).link
unfolding entry_of left_of
entry-link n lows highs states ok = entry-link-in (order_of n lows highs states) lows highs (base-arranged n lows highs states ok)

pub entry-own : (n : ℕ) (lows highs states : List ℕ) → Accepted n lows highs states → (l : ℕ) → l < length lows
    → link_serves lows highs states l ≡ true
    → (entry_of n lows highs states (forest_in (order_of n lows highs states) lows highs l) (later_place (order_of n lows highs states) lows highs l)).link ≡ l
unfolding entry_of
entry-own n lows highs states ok l h e =
    entry-own-in (order_of n lows highs states) lows highs (base-arranged n lows highs states ok) l h
    (links-placed n lows highs states ok l h e)
