-- The networks of document 01, and what an example is: an outcome and lent lists that come out as they are due.
-- Assumes nothing.
use Rattle.std.specs.Prelude.{ℕ, List, [], ◌∷◌, map, ◌≡◌, replicate}
use Rattle.definitions.specs.Outcome.{Answer}
use Rattle.definitions.specs.Network.{table_check, pair_answer}
use Rattle.definitions.specs.Order.{order_answer, relays_after, places_after}
use Rattle.definitions.specs.Forests.{split_answer, forests_after, cut_answer, marks_after}
use Rattle.definitions.specs.Route.{route_answer, counts_after, route_relays_after, scratch_after}
use Rattle.definitions.specs.Over.{route_links_answer, route_links_counts, route_links_relays, route_links_links, route_links_scratch}
use Rattle.definitions.specs.Text.{Network}

-- An outcome and the lent lists afterwards.
pub record Result : Type 0 where
  pub answer : Answer
  pub lists : List (List ℕ)

pub record Example : Type 0 where
  pub found : Result
  pub due : Result

-- Each example of a list comes out as it is due: the list of what is found is the list of what is due.
abbrev pub AllHold : (examples : List Example) → Type 0
AllHold examples = map (λ e. e.found) examples ≡ map (λ e. e.due) examples

-- "Square: links 0 1, 1 2, 2 3, 0 3."
abbrev pub square : Network
square = record { relays = 4; lows = 0 ∷ 1 ∷ 2 ∷ 0 ∷ []; highs = 1 ∷ 2 ∷ 3 ∷ 3 ∷ []; states = replicate 4 1 }

-- "Full four: all six links of four relays."
abbrev pub full_four : Network
full_four =
    record { relays = 4; lows = 0 ∷ 0 ∷ 0 ∷ 1 ∷ 1 ∷ 2 ∷ []; highs = 1 ∷ 2 ∷ 3 ∷ 2 ∷ 3 ∷ 3 ∷ []; states = replicate 4 1 }

-- "Mesh, five relays: 0 1, 0 2, 1 2, 1 3, 2 3, 2 4, 3 4."
abbrev pub mesh : Network
mesh =
    record {
      relays = 5;
      lows = 0 ∷ 0 ∷ 1 ∷ 1 ∷ 2 ∷ 2 ∷ 3 ∷ [];
      highs = 1 ∷ 2 ∷ 2 ∷ 3 ∷ 3 ∷ 4 ∷ 4 ∷ [];
      states = replicate 5 1;
    }

-- A network with these states instead.
abbrev pub with_states : (w : Network) (states : List ℕ) → Network
with_states w states = record { relays = w.relays; lows = w.lows; highs = w.highs; states = states }

-- So many relays and no link.
abbrev pub bare : (n : ℕ) → Network
bare n = record { relays = n; lows = []; highs = []; states = replicate n 1 }

-- A lent list of so many entries 7: no example has a 7 among what is written, so what stays 7 was not written.
abbrev pub lent : (size : ℕ) → List ℕ
lent size = replicate size 7

abbrev pub check_of : (w : Network) → Result
check_of w = record { answer = table_check w.relays w.lows w.highs w.states; lists = [] }

abbrev pub pair_of : (a b : ℕ) → Result
pair_of a b = record { answer = pair_answer a b; lists = [] }

-- Order with two lists of this length.
abbrev pub order_with : (size : ℕ) (w : Network) → Result
order_with size w =
    record {
      answer = order_answer w.relays w.lows w.highs w.states (lent size) (lent size);
      lists =
          relays_after w.relays w.lows w.highs w.states (lent size) (lent size)
          ∷ places_after w.relays w.lows w.highs w.states (lent size) (lent size)
          ∷ [];
    }

-- Split with a list of this length.
abbrev pub split_with : (size : ℕ) (w : Network) → Result
split_with size w =
    record {
      answer = split_answer w.relays w.lows w.highs w.states (lent size);
      lists = forests_after w.relays w.lows w.highs w.states (lent size) ∷ [];
    }

-- Cut to k with a list of this length.
abbrev pub cut_with : (size : ℕ) (w : Network) (k : ℕ) → Result
cut_with size w k =
    record {
      answer = cut_answer w.relays w.lows w.highs w.states k (lent size);
      lists = marks_after w.relays w.lows w.highs w.states k (lent size) ∷ [];
    }

-- Route with lists of these lengths: counts, relays, scratch.
abbrev pub route_with : (c r x : ℕ) (w : Network) (from to k : ℕ) → Result
route_with c r x w from to k =
    record {
      answer = route_answer w.relays w.lows w.highs w.states k from to (lent c) (lent r) (lent x);
      lists =
          counts_after w.relays w.lows w.highs w.states k from to (lent c) (lent r) (lent x)
          ∷ route_relays_after w.relays w.lows w.highs w.states k from to (lent c) (lent r) (lent x)
          ∷ scratch_after w.relays w.lows w.highs w.states k from to (lent c) (lent r) (lent x)
          ∷ [];
    }

-- Route with links with lists of these lengths: counts, relays, links, scratch.
abbrev pub route_links_with : (c r l x : ℕ) (w : Network) (from to k : ℕ) → Result
route_links_with c r l x w from to k =
    record {
      answer = route_links_answer w.relays w.lows w.highs w.states k from to (lent c) (lent r) (lent l) (lent x);
      lists =
          route_links_counts w.relays w.lows w.highs w.states k from to (lent c) (lent r) (lent l) (lent x)
          ∷ route_links_relays w.relays w.lows w.highs w.states k from to (lent c) (lent r) (lent l) (lent x)
          ∷ route_links_links w.relays w.lows w.highs w.states k from to (lent c) (lent r) (lent l) (lent x)
          ∷ route_links_scratch w.relays w.lows w.highs w.states k from to (lent c) (lent r) (lent l) (lent x)
          ∷ [];
    }
