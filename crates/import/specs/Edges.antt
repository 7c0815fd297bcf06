-- What checking an edge and reading what is behind the last one promise. Assumes nothing.
use Rattle.std.specs.Prelude.{ℕ, Result, Bool, ◌||◌, List, ◌≡◌, replicate}
use Rattle.definitions.specs.Outcome.{done}
use Rattle.definitions.specs.Lists.{outside}
use Rattle.definitions.specs.Dimacs.{read_edges}
use Rattle.network.specs.declared.refusal.Refusal.{Refusal}
use Rattle.text.specs.Rows.{on_step}

-- "5 for U or V outside 1 to N"
abbrev pub out_of_range : (n u v : ℕ) → Bool
out_of_range n u v = outside 1 n u || outside 1 n v

-- What is behind the last `e` line: comments alone, and the network stands.
pub record LastRead (text : List ℕ) (at : ℕ) (r : Result ℕ Refusal) : Type 0 where
  pub follows : (n : ℕ) (lows highs : List ℕ) → read_edges text n lows highs at 0
      ≡ on_step r (λ _. done (record { relays = n; lows = lows; highs = highs; states = replicate n 1 }))
