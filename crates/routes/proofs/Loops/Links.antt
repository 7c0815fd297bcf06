-- One turn and the end of each loop that writes the links of the routes out, in the code's terms. Assumes nothing.
use Prim.Native.Nat.{ℕ, zero, suc, ◌+◌, ◌-◌, ◌≤◌, ◌<◌}
use mathlib.Core.List.{List, [], ◌∷◌}
use mathlib.Core.Path.{◌≡◌, refl, sym, ◌∙◌, ap}
use native.Mathlib.Omega.{arith}
use lib.ListN.{length, set}
use Rattle.sweep.specs.Side.{second_in, link_in, prior_in, prior_link_in}
use Rattle.routes.specs.Writing.{count_in}
use Rattle.routes.specs.WrittenLinks.{links_down, links_up, route_links, links_from}

pub links-down-turn : (side : List ℕ) (from c link link' x x' : ℕ) (links links' : List ℕ) → 0 < c
    → links' ≡ set links (from + (c - 1)) link → link' ≡ prior_link_in side x → x' ≡ prior_in side x
    → links_down side from c link x links ≡ links_down side from (c - 1) link' x' links'
unfolding links_down
links-down-turn side from zero link link' x x' links links' some s l e = absurd (omega arith)
links-down-turn side from (suc c) link link' x x' links links' some s l e =
    let less : suc c - 1 ≡ c = omega arith in rw (s, l, e, less)

pub links-down-end : (side : List ℕ) (from c link x : ℕ) (links : List ℕ) → c ≡ 0 → links_down side from c link x links ≡ links
unfolding links_down
links-down-end side from c link x links e = rw e

pub links-up-turn : (side : List ℕ) (at c c' link link' x x' : ℕ) (links links' : List ℕ) → c ≡ suc c'
    → links' ≡ set links at link → link' ≡ prior_link_in side x → x' ≡ prior_in side x
    → links_up side at c link x links ≡ links_up side (at + 1) c' link' x' links'
unfolding links_up
links-up-turn side at c c' link link' x x' links links' some s l e = rw (some, s, l, e)

pub links-up-end : (side : List ℕ) (at c link x : ℕ) (links : List ℕ) → c ≡ 0 → links_up side at c link x links ≡ links
unfolding links_up
links-up-end side at c link x links e = rw e

pub route-links-written : (front back : List ℕ) (i from low high : ℕ) (old down up : List ℕ)
    → low ≡ count_in front i → high ≡ count_in back i
    → down ≡ links_down front from low (link_in front i) (second_in front i) old
    → up ≡ links_up back (from + low) high (link_in back i) (second_in back i) down
    → up ≡ route_links front back i from old
unfolding route_links
route-links-written front back i from low high old down up el eh ed eu = rw (eu, ed, el, eh)

pub links-turn : (front back : List ℕ) (k i from number : ℕ) (links links' : List ℕ) → i < k
    → number ≡ count_in front (i + 1) + count_in back (i + 1) → links' ≡ route_links front back (i + 1) from links
    → links_from front back (k - i) i from links ≡ links_from front back (k - (i + 1)) (i + 1) (from + number) links'
unfolding links_from
links-turn front back k i from number links links' less en el = go (k - i) (k - (i + 1)) (omega arith)
  where
    go : (more rest : ℕ) → more ≡ suc rest
        → links_from front back more i from links ≡ links_from front back rest (i + 1) (from + number) links'
    go more rest e = rw (e, el, en)

pub links_end : (front back : List ℕ) (k i from : ℕ) (links : List ℕ) → k ≤ i → links_from front back (k - i) i from links ≡ links
unfolding links_from
links_end front back k i from links full = let none : k - i ≡ 0 = omega arith in rw none

-- Into an empty list nothing is written.
down-empty : (side : List ℕ) (from c link x : ℕ) → links_down side from c link x [] ≡ []
unfolding links_down
down-empty side from zero link x = refl
down-empty side from (suc c) link x = down-empty side from c (prior_link_in side x) (prior_in side x)

up-empty : (side : List ℕ) (at c link x : ℕ) → links_up side at c link x [] ≡ []
unfolding links_up
up-empty side at zero link x = refl
up-empty side at (suc c) link x = up-empty side (at + 1) c (prior_link_in side x) (prior_in side x)

route-empty : (front back : List ℕ) (i from : ℕ) → route_links front back i from [] ≡ []
unfolding route_links
route-empty front back i from =
    let count : ℕ = count_in front i in
    ap (links_up back (from + count) (count_in back i) (link_in back i) (second_in back i))
    (down-empty front from count (link_in front i) (second_in front i))
    ∙ up-empty back (from + count) (count_in back i) (link_in back i) (second_in back i)

from_empty : (front back : List ℕ) (more i from : ℕ) → links_from front back more i from [] ≡ []
unfolding links_from
from_empty front back zero i from = refl
from_empty front back (suc more) i from =
    let next : ℕ = from + (count_in front (i + 1) + count_in back (i + 1)) in
    ap (links_from front back more (i + 1) next) (route-empty front back (i + 1) from) ∙ from_empty front back more (i + 1) next

pub links-empty : (front back : List ℕ) (k : ℕ) (links : List ℕ) → length links ≡ 0 → links ≡ links_from front back k 0 0 links
links-empty front back k [] e = sym (from_empty front back k 0 0)
links-empty front back k (x ∷ links) e = absurd (omega arith)
