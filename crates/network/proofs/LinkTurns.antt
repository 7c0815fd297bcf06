-- One turn of the check link by link: a link with a fault ends it, a fine one leaves the links behind it.
-- Assumes nothing.
use Prim.Native.Nat.{ℕ, suc, ◌+◌, ◌-◌, ◌≤◌, ◌<◌}
use mathlib.Core.Bool.{true}
use mathlib.Core.List.{List, []}
use mathlib.Core.Path.{◌≡◌, refl, sym, ◌∙◌, ap}
use native.Mathlib.Omega.{arith}
use lib.Dec.{ltb}
use lib.ListN.{length, get_or}
use Rattle.definitions.specs.Outcome.{refused, done, refuse_if}
use Rattle.definitions.specs.Network.{link_fault, links_check}
use Rattle.std.specs.Prelude.{⊤, Result}
use Rattle.network.specs.declared.LinkFault.{LinkFault}
use Rattle.network.specs.Seen.{fault_of, LinkChecked, Seen, seen-fault}

-- The links from i on, of which there is one at least.
links-step : (n : ℕ) (lows highs : List ℕ) (i f : ℕ) → i < length lows
    → link_fault n lows highs i (get_or lows i 0) (get_or highs i 0) ≡ f
    → links_check n lows highs i (length lows - i) ≡ refuse_if (ltb 0 f) f i (links_check n lows highs (i + 1) (length lows - (i + 1)))
unfolding links_check
links-step n lows highs i f h e =
    ap (links_check n lows highs i) more
    ∙ ap (λ (x : ℕ). refuse_if (ltb 0 x) x i (links_check n lows highs (i + 1) (length lows - (i + 1)))) e
  where
    more : length lows - i ≡ suc (length lows - (i + 1))
    more = omega arith

module _ (n : ℕ) (lows highs : List ℕ) (i : ℕ) (bits after : List ℕ) (r : Result ⊤ LinkFault)
    (within : i < length lows) (seen : Seen n bits lows highs i)
    (checked : LinkChecked n (get_or lows i 0) (get_or highs i 0) bits after r)
    (so_far : links_check n lows highs 0 (length lows) ≡ links_check n lows highs i (length lows - i)) where
  turn : (f : ℕ) → fault_of r ≡ f
      → links_check n lows highs 0 (length lows) ≡ refuse_if (ltb 0 f) f i (links_check n lows highs (i + 1) (length lows - (i + 1)))
  turn f answer =
      so_far
      ∙ links-step n lows highs i f within
      (sym (seen-fault n (get_or lows i 0) (get_or highs i 0) lows highs i bits after r seen checked) ∙ answer)

  pub turn-refused : (f : ℕ) → ltb 0 f ≡ true → fault_of r ≡ f → refused f i ≡ links_check n lows highs 0 (length lows)
  unfolding refuse_if
  turn-refused f some answer = sym (turn f answer ∙ rw some refl)

  pub turn-fine : fault_of r ≡ 0 → links_check n lows highs 0 (length lows) ≡ links_check n lows highs (i + 1) (length lows - (i + 1))
  unfolding refuse_if
  turn-fine answer = turn 0 answer

-- No link is left.
pub links_end : (n : ℕ) (lows highs : List ℕ) (i : ℕ) → length lows ≤ i
    → links_check n lows highs 0 (length lows) ≡ links_check n lows highs i (length lows - i)
    → done [] ≡ links_check n lows highs 0 (length lows)
unfolding links_check
links_end n lows highs i h so_far = sym (so_far ∙ ap (links_check n lows highs i) none)
  where
    none : length lows - i ≡ 0
    none = omega arith
