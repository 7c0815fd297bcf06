-- The text of an accepted network, as a program prints it: Read gives the network back with the program's own lists. Assumes nothing.
use Rattle.std.specs.Prelude.{ℕ, false, ◌||◌, List, ◌≡◌, refl, ltb, length}
use Rattle.std.proofs.Common.{◌∙◌, le-ltb}
use Rattle.definitions.specs.Outcome.{done}
use Rattle.definitions.specs.Network.{Accepted}
use Rattle.definitions.specs.Text.{Network, read_network}
use Rattle.definitions.specs.Program.{network_text}
use Rattle.definitions.specs.Promised.{NetworkPrinted}
use Rattle.lists.specs.Outcomes.{refuse-not}
use Rattle.theory.specs.Accepted.{accepted}
use Rattle.text_theory.specs.RoundTrip.{read-written}

pub own_read : (network : Network) → Accepted network.relays network.lows network.highs network.states
    → read_network (network_text network) 3000 3000 1000 ≡ done network
unfolding network_text
own_read network check =
    let n = network.relays in
    let m = length network.lows in
    let table = accepted n network.lows network.highs network.states check in
    let full = ltb 3000 m || (ltb 3000 m || ltb 1000 n) in
    let some : full ≡ false = rw (le-ltb 3000 m table.short, le-ltb 1000 n table.few) in
    read-written n network.lows network.highs network.states check 3000 3000 1000 ∙ refuse-not full 8 0 (done network) some

pub network-printed : (line : List ℕ) (network : Network) → Accepted network.relays network.lows network.highs network.states
    → NetworkPrinted line network (network_text network)
network-printed line network check = record { printed = refl; accepted = check; read = own_read network check }
