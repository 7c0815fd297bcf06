-- What a definition over a network's four parts says of a lent table. Assumes nothing.
use Rattle.std.specs.Prelude.{ℕ, List}
use Rattle.network.specs.declared.Table.{Table}

-- A definition over the number of relays, the low and the high ends of the links and the states of the relays, at a table's.
abbrev pub of_table : {A : Type 0} → (ℕ → List ℕ → List ℕ → List ℕ → A) → Table → A
of_table f table = f table.n table.lows.now table.highs.now table.states.now

-- The same for a fact.
abbrev pub OfTable : (ℕ → List ℕ → List ℕ → List ℕ → Type 0) → Table → Type 0
OfTable F table = F table.n table.lows.now table.highs.now table.states.now
