-- One turn and the end of each loop that writes the routes out, in the code's terms. Assumes nothing.
use Prim.Native.Nat.{ℕ, zero, suc, ◌+◌, ◌-◌, ◌≤◌, ◌<◌}
use mathlib.Core.Bool.{Bool, true, false}
use mathlib.Core.List.{List}
use mathlib.Core.Path.{◌≡◌, refl}
use native.Mathlib.Omega.{arith}
use borrow.Author.Tests.{eq-eqb, ne_eqb}
use lib.Dec.{eqb}
use lib.ListN.{set}
use Rattle.definitions.specs.Outcome.{pick}
use Rattle.definitions.specs.Order.{relay_at}
use Rattle.sweep.specs.Side.{end_in, second_in, prior_in}
use Rattle.routes.specs.Writing.{chain_length, count_in, write_down, write_up, route_length, write_route, written, write_from}

chain-stop : (side : List ℕ) (fuel x : ℕ) → x ≡ 0 → chain_length side fuel x ≡ 0
unfolding chain_length
chain-stop side zero x e = refl
chain-stop side (suc fuel) x e = rw (eq-eqb x 0 e)

chain-turn : (side : List ℕ) (fuel x : ℕ) → 0 < fuel → (x ≡ 0 → ⊥)
    → chain_length side fuel x ≡ suc (chain_length side (fuel - 1) (prior_in side x))
unfolding chain_length
chain-turn side zero x some goes = absurd (omega arith)
chain-turn side (suc fuel) x some goes = let e : suc fuel - 1 ≡ fuel = omega arith in rw (ne_eqb x 0 goes, e)

chain-bound : (side : List ℕ) (fuel x : ℕ) → chain_length side fuel x ≤ fuel
unfolding chain_length
chain-bound side zero x = omega arith
chain-bound side (suc fuel) x = go (chain-bound side fuel (prior_in side x)) (eqb x 0)
  where
    go : chain_length side fuel (prior_in side x) ≤ fuel → (b : Bool) → pick b 0 (suc (chain_length side fuel (prior_in side x))) ≤ suc fuel
    go less true = omega arith
    go less false = omega arith

pub count-stops : (side : List ℕ) (i start x c : ℕ) → start ≡ second_in side i
    → chain_length side 1000 start ≡ c + chain_length side (1000 - c) x → x ≡ 0 → c ≡ count_in side i
unfolding count_in
count-stops side i start x c e inv stop =
    rw (← e) (omega (arith, inv, chain-stop side (1000 - c) x stop))

pub count-full : (side : List ℕ) (i start x c : ℕ) → start ≡ second_in side i
    → chain_length side 1000 start ≡ c + chain_length side (1000 - c) x → c ≤ 1000 → 1000 ≤ c → 1000 ≡ count_in side i
unfolding count_in
count-full side i start x c e inv le full =
    rw (← e) (omega (arith, inv, chain-bound side (1000 - c) x))

pub count_turn : (side : List ℕ) (whole x x' c : ℕ) → c < 1000 → (x ≡ 0 → ⊥) → x' ≡ prior_in side x
    → whole ≡ c + chain_length side (1000 - c) x → whole ≡ c + 1 + chain_length side (1000 - (c + 1)) x'
count_turn side whole x x' c less goes e inv =
    let step : 1000 - c - 1 ≡ 1000 - (c + 1) = omega arith in
    rw (e, ← step) (omega (arith, inv, chain-turn side (1000 - c) x (omega arith) goes))

pub down_turn : (side order : List ℕ) (from c x x' relay : ℕ) (relays relays' : List ℕ) → 0 < c → relay ≡ relay_at order x
    → relays' ≡ set relays (from + (c - 1)) relay → x' ≡ prior_in side x
    → write_down side order from c x relays ≡ write_down side order from (c - 1) x' relays'
unfolding write_down
down_turn side order from zero x x' relay relays relays' some r s e = absurd (omega arith)
down_turn side order from (suc c) x x' relay relays relays' some r s e =
    let less : suc c - 1 ≡ c = omega arith in rw (s, r, e, less)

pub down-end : (side order : List ℕ) (from c x : ℕ) (relays : List ℕ) → c ≡ 0 → write_down side order from c x relays ≡ relays
unfolding write_down
down-end side order from c x relays e = rw e

pub up_turn : (side order : List ℕ) (at c c' x x' relay : ℕ) (relays relays' : List ℕ) → c ≡ suc c' → relay ≡ relay_at order x
    → relays' ≡ set relays at relay → x' ≡ prior_in side x
    → write_up side order at c x relays ≡ write_up side order (at + 1) c' x' relays'
unfolding write_up
up_turn side order at c c' x x' relay relays relays' some r s e = rw (some, s, r, e)

pub up-end : (side order : List ℕ) (at c x : ℕ) (relays : List ℕ) → c ≡ 0 → write_up side order at c x relays ≡ relays
unfolding write_up
up-end side order at c x relays e = rw e

pub route-length : (front back : List ℕ) (i low high : ℕ) → low ≡ count_in front i → high ≡ count_in back i
    → low + 1 + high ≡ route_length front back i
unfolding route_length
route-length front back i low high el eh = rw (el, eh)

pub route-written : (front back order : List ℕ) (i from low high meeting relay : ℕ) (old down met up : List ℕ)
    → low ≡ count_in front i → high ≡ count_in back i → meeting ≡ end_in front i → relay ≡ relay_at order meeting
    → down ≡ write_down front order from low (second_in front i) old → met ≡ set down (from + low) relay
    → up ≡ write_up back order (from + low + 1) high (second_in back i) met
    → up ≡ write_route front back order i from old
unfolding write_route
route-written front back order i from low high meeting relay old down met up el eh em er ed es eu =
    rw (eu, es, ed, er, em, el, eh)

pub routes-turn : (front back order : List ℕ) (k i from length : ℕ) (counts counts' relays relays' : List ℕ) → i < k
    → length ≡ route_length front back (i + 1) → counts' ≡ set counts i length
    → relays' ≡ write_route front back order (i + 1) from relays
    → write_from front back order (k - i) i from counts relays
    ≡ write_from front back order (k - (i + 1)) (i + 1) (from + length) counts' relays'
unfolding write_from
routes-turn front back order k i from length counts counts' relays relays' less el ec er =
    go (k - i) (k - (i + 1)) (omega arith)
  where
    go : (more rest : ℕ) → more ≡ suc rest
        → write_from front back order more i from counts relays ≡ write_from front back order rest (i + 1) (from + length) counts' relays'
    go more rest e = rw (e, ec, er, el)

pub routes-end : (front back order : List ℕ) (k i from : ℕ) (counts relays : List ℕ) → k ≤ i
    → write_from front back order (k - i) i from counts relays ≡ written counts relays from
unfolding write_from
routes-end front back order k i from counts relays full = let none : k - i ≡ 0 = omega arith in rw none
