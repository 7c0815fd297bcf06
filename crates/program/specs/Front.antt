-- The front of the output afterwards is the text that was printed. Assumes nothing.
use Rattle.std.specs.Prelude.{ℕ, ◌≤◌, List, ◌≡◌, length, take, drop}
use Rattle.std.proofs.Common.{◌∙◌, ap, arith, length-append, take_all}
use Rattle.definitions.specs.Lists.{overwrite}
use Rattle.lists.specs.Overwritten.{take-overwrite}

pub longer : (new old : List ℕ) → length new ≤ length (overwrite new old)
unfolding overwrite
longer new old = omega (arith, length-append new (drop (length new) old))

module _
    (text before after : List ℕ)
    (size : ℕ)
    (sized : size ≡ length text)
    (written : after ≡ overwrite text before)
  where
    pub front-within : size ≤ length after
    front-within = omega (arith, longer text before, ap length written)

    pub front-is : take size after ≡ text
    front-is = ap (take size) written ∙ take-overwrite text before size (omega arith) ∙ take_all size text (omega arith)
