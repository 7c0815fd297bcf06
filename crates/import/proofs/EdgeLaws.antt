-- What `scan_link` of a drawing promises, way by way: how the definition reads an `e` line, by what the line gave.
use Rattle.std.proofs.Common.{ℕ, ◌≤◌, true, false, List, [], ◌∷◌, ◌≡◌, refl, Ok, Err}
use Rattle.definitions.specs.Outcome.{refuse_if}
use Rattle.definitions.specs.Lists.{outside}
use Rattle.definitions.specs.Form.{departs, reads, on_scan}
use Rattle.definitions.specs.Dimacs.{edge_form, scan_line, low_end, high_end, edge_fault, read_edges}
use Rattle.lists.specs.Ranges.{inside}
use Rattle.lists.specs.Tests.{or-neither}
use Rattle.text_theory.specs.EdgeFaults.{edge-link-fault}
use Rattle.network.specs.declared.Relay.{Relay}
use Rattle.network.specs.declared.refusal.Refusal.TheVariants.{RelayRange, DrawingForm}
use Rattle.text.specs.Rows.{LinkScanned}
use Rattle.import.specs.Edges.{out_of_range}

module _ (text : List ℕ) (n i at : ℕ) where
  -- The line departs.
  pub edge-departs : (p : ℕ) → scan_line text edge_form at ≡ departs p
      → LinkScanned (read_edges text n) n i at (Err (DrawingForm p))
  unfolding read_edges on_scan
  edge-departs p e lows highs count here = rw e refl

  module _ (u v p : ℕ) (scanned : scan_line text edge_form at ≡ reads (u ∷ v ∷ []) p) where
    -- An end is out of range.
    pub edge-ranged : out_of_range n u v ≡ true → LinkScanned (read_edges text n) n i at (Err (RelayRange i))
    unfolding read_edges on_scan refuse_if edge_fault
    edge-ranged out lows highs count here = rw (scanned, out, here) refl

    -- Both are within it.
    pub edge-inside : (low high : Relay) → 1 ≤ u → u ≤ n → 1 ≤ v → v ≤ n → low.0 ≡ low_end u v → high.0 ≡ high_end u v
        → LinkScanned (read_edges text n) n i at (Ok (low, high, p))
    unfolding read_edges on_scan
    edge-inside low high a b c d l h lows highs count here =
        let none : out_of_range n u v ≡ false = or-neither (outside 1 n u) (outside 1 n v) (inside 1 n u a b) (inside 1 n v c d) in
        rw (scanned, edge-link-fault n lows highs u v none, here, l, h) refl
