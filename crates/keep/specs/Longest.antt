-- The list of links never has more than 66,067 bytes: 22 for each of 3,000 links, and 67 for the other lines.
-- Assumes nothing.
use Prim.Native.Nat.{ℕ, zero, suc, ◌+◌, ◌*◌, ◌≤◌, ◌<◌}
use Rattle.std.specs.Prelude.{Bool, true, false, List, [], ◌∷◌, ◌++◌, eqb, length, get_or}
use native.Mathlib.Omega.{arith}
use Rattle.std.proofs.Math.ListN.{length-append}
use Rattle.definitions.specs.Outcome.{pick}
use Rattle.definitions.specs.Lists.{count}
use Rattle.definitions.specs.Network.{link_serves, Accepted}
use Rattle.definitions.specs.Forests.{marks_of}
use Rattle.definitions.specs.Form.{write_form}
use Rattle.definitions.specs.Text.{Network, end_form}
use Rattle.definitions.specs.Plan.{kept_form}
use Rattle.definitions.specs.Keep.{
  lease_form,
  kept_link_form,
  dropped_link_form,
  idle_link_form,
  dropped_form,
  withdrawn_form,
  lease_room,
  leased,
  lease_line,
  lease_lines,
  dropped_count,
  idle_count,
  lease_text,
  keep_text,
}
use Rattle.theory.specs.Accepted.{accepted}
use Rattle.text_theory.specs.Spans.{span, written-span}
use Rattle.program.specs.Printable.{printed-fits}
use Rattle.keep.specs.Listed.{lease_of, listed-links}
use Rattle.keep.specs.Counts.{counts_all}
use Rattle.keep.specs.Promise.{leased-printable}

-- A line of a link, kept, dropped or idle, whose numbers have at most four digits.
line-length : (mark : ℕ) (serving : Bool) (i a b : ℕ) → i < 10000 → a < 10000 → b < 10000 → length (lease_line mark serving i a b) ≤ 22
unfolding lease_line span kept_link_form dropped_link_form idle_link_form
line-length mark serving i a b hi ha hb = go (eqb mark 1) serving
  where
    go : (t s : Bool) → length (write_form (pick t kept_link_form (pick s dropped_link_form idle_link_form)) (i ∷ a ∷ b ∷ [])) ≤ 22
    go true _ = written-span 3 kept_link_form (i ∷ a ∷ b ∷ []) (hi, (ha, (hb, tt)))
    go false true = written-span 3 dropped_link_form (i ∷ a ∷ b ∷ []) (hi, (ha, (hb, tt)))
    go false false = written-span 3 idle_link_form (i ∷ a ∷ b ∷ []) (hi, (ha, (hb, tt)))

module _ (lows highs states marks : List ℕ)
    (small : (i : ℕ) → i < length lows → (i < 10000) × (get_or lows i 0 < 10000) × (get_or highs i 0 < 10000)) where
  lines-length : (count i : ℕ) → i + count ≤ length lows → length (lease_lines lows highs states marks i count) ≤ 22 * count
  unfolding lease_lines
  lines-length zero i h = omega arith
  lines-length (suc count) i h =
      let numbers = small i (omega arith) in
      let line = lease_line (get_or marks i 0) (link_serves lows highs states i) i (get_or lows i 0) (get_or highs i 0) in
      omega (
        arith,
        length-append line (lease_lines lows highs states marks (i + 1) count),
        line-length (get_or marks i 0) (link_serves lows highs states i) i (get_or lows i 0) (get_or highs i 0) numbers.0 numbers.1 numbers.2,
        lines-length count (i + 1) (omega arith),
      )

-- A list: its first line has at most 17 bytes, the links' lines 22 each, the four last lines 12, 15, 17 and 6.
lease-length : (k : ℕ) (network : Network) → k ≤ 32
    → Accepted network.relays network.lows network.highs network.states
    → length (lease_text (lease_of k network)) ≤ lease_room
unfolding lease_text lease_room span lease_form kept_form dropped_form withdrawn_form end_form
lease-length k network few good =
    let n = network.relays in
    let lows = network.lows in
    let highs = network.highs in
    let states = network.states in
    let marks = marks_of n lows highs states k in
    let table = accepted n lows highs states good in
    let kept = count (eqb 1) marks in
    let dropped = dropped_count lows highs states marks in
    let idle = idle_count lows highs states in
    let first = write_form lease_form (k ∷ []) in
    let lines = lease_lines lows highs states marks 0 (length lows) in
    let third = write_form kept_form (kept ∷ []) in
    let fourth = write_form dropped_form (dropped ∷ []) in
    let fifth = write_form withdrawn_form (idle ∷ []) in
    let last = write_form end_form [] in
    let all = counts_all n lows highs states k in
    omega (
      arith,
      table.short,
      length-append first (lines ++ (third ++ (fourth ++ (fifth ++ last)))),
      length-append lines (third ++ (fourth ++ (fifth ++ last))),
      length-append third (fourth ++ (fifth ++ last)),
      length-append fourth (fifth ++ last),
      length-append fifth last,
      written-span 3 lease_form (k ∷ []) (omega arith, tt),
      written-span 3 kept_form (kept ∷ []) (omega (arith, table.short, all), tt),
      written-span 3 dropped_form (dropped ∷ []) (omega (arith, table.short, all), tt),
      written-span 3 withdrawn_form (idle ∷ []) (omega (arith, table.short, all), tt),
      written-span 3 end_form [] tt,
      lines-length lows highs states marks
          (λ i h. (omega (arith, table.short), omega (arith, table.ordered i h, table.below i h, table.few), omega (arith, table.below i h, table.few)))
          (length lows) 0 (omega arith),
    )

pub keep-length : (input : List ℕ) → length (keep_text input) ≤ lease_room
unfolding lease_room keep_text
keep-length input =
    printed-fits lease_text lease_room (leased input) (omega arith) (leased-printable input) (λ lease e.
    let found = listed-links input lease e in
    rw found.lease_is (lease-length found.k found.network found.few found.accepted))
