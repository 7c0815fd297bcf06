-- The lines of a list of links by their parts, and the links' lines one by one. Assumes nothing.
use Prim.Native.Nat.{ℕ, zero, suc, ◌+◌, ◌-◌, ◌≤◌, ◌<◌}
use Rattle.std.specs.Prelude.{Bool, true, false, ◌&&◌, List, [], ◌∷◌, ◌++◌, ◌≡◌, refl, eqb, length, get_or}
use Rattle.std.proofs.Common.{◌∙◌, ap, ap₂, length-append}
use native.Mathlib.Omega.{arith}
use Rattle.definitions.specs.Lists.{overwrite}
use Rattle.definitions.specs.Network.{serves, link_serves}
use Rattle.definitions.specs.Form.{bytes, Item, write_form}
use Rattle.definitions.specs.Text.{end_form}
use Rattle.definitions.specs.Plan.{kept_form}
use Rattle.definitions.specs.Keep.{
  lease_form,
  kept_link_form,
  dropped_link_form,
  idle_link_form,
  dropped_form,
  withdrawn_form,
  lease_line,
  lease_lines,
  idle_count,
}
use Rattle.lists.specs.Overwritten.{get_or-overwrite}
use Rattle.program.specs.Single.{single_form}
use Rattle.program.specs.Single as Single

-- A line of three numbers, as a link has it.
abbrev pub triple_form : List ℕ → List Item
triple_form front = Single.triple_form front (bytes " ") (bytes " ") (bytes ")\n")

-- The line of a link, by its mark and by whether both its ends are in service.
module _ (mark i a b : ℕ) where
  pub kept_line : (serving : Bool) → eqb mark 1 ≡ true
      → lease_line mark serving i a b ≡ write_form (triple_form (bytes "(keep ")) (i ∷ a ∷ b ∷ [])
  unfolding lease_line kept_link_form
  kept_line serving e = rw e

  pub dropped_line : (serving : Bool) → eqb mark 1 ≡ false → serving ≡ true
      → lease_line mark serving i a b ≡ write_form (triple_form (bytes "(drop ")) (i ∷ a ∷ b ∷ [])
  unfolding lease_line dropped_link_form
  dropped_line serving e both = rw (e, both)

  pub idle-line : (serving : Bool) → eqb mark 1 ≡ false → serving ≡ false
      → lease_line mark serving i a b ≡ write_form (triple_form (bytes "(idle ")) (i ∷ a ∷ b ∷ [])
  unfolding lease_line idle_link_form
  idle-line serving e one = rw (e, one)

-- Both ends of every link have a state.
abbrev pub EndsWithin : (lows highs states : List ℕ) → Type 0
EndsWithin lows highs states = (i : ℕ) → i < length lows → (get_or lows i 0 < length states) × (get_or highs i 0 < length states)

-- The line of link i of the table.
abbrev pub line_at : (lows highs states marks : List ℕ) (i : ℕ) → List ℕ
line_at lows highs states marks i =
    lease_line (get_or marks i 0) (serves states (get_or lows i 0) && serves states (get_or highs i 0)) i (get_or lows i 0) (get_or highs i 0)

-- The first of the lines that are left.
module _ (lows highs states marks : List ℕ) where
  pub lines_step : (i m : ℕ) → i < m
      → lease_lines lows highs states marks i (m - i)
      ≡ line_at lows highs states marks i ++ lease_lines lows highs states marks (i + 1) (m - (i + 1))
  unfolding lease_lines link_serves
  lines_step i m h =
      let e : m - i ≡ suc (m - (i + 1)) = omega arith in
      rw e

  pub lines_end : (i m : ℕ) → m ≤ i → lease_lines lows highs states marks i (m - i) ≡ []
  unfolding lease_lines
  lines_end i m h =
      let e : m - i ≡ 0 = omega arith in
      rw e

  pub lines-length : (i m : ℕ) → i < m
      → length (lease_lines lows highs states marks i (m - i))
      ≡ length (line_at lows highs states marks i) + length (lease_lines lows highs states marks (i + 1) (m - (i + 1)))
  lines-length i m h = ap length (lines_step i m h) ∙ simp length-append

-- Marks that were written over the front of a list give the same lines.
pub lines-front : (lows highs states marks old : List ℕ) (count i : ℕ) → i + count ≤ length marks
    → lease_lines lows highs states (overwrite marks old) i count ≡ lease_lines lows highs states marks i count
unfolding lease_lines
lines-front lows highs states marks old zero i h = refl
lines-front lows highs states marks old (suc count) i h =
    ap₂ ◌++◌
    (ap (λ (mark : ℕ). lease_line mark (link_serves lows highs states i) i (get_or lows i 0) (get_or highs i 0))
    (get_or-overwrite marks old i 0 (omega arith)))
    (lines-front lows highs states marks old count (i + 1) (omega arith))

-- The counts of the kept, of the dropped and of the idle, and the end.
unfoldable pub count_lines : (kept dropped idle : ℕ) → List ℕ
count_lines kept dropped idle =
    write_form kept_form (kept ∷ []) ++
    (write_form dropped_form (dropped ∷ []) ++ (write_form withdrawn_form (idle ∷ []) ++ write_form end_form []))

pub count-lengths : (kept dropped idle : ℕ)
    → length (count_lines kept dropped idle)
    ≡ length (write_form kept_form (kept ∷ []))
    + (length (write_form (single_form (bytes "(dropped ") (bytes ")\n")) (dropped ∷ []))
    + (length (write_form (single_form (bytes "(withdrawn ") (bytes ")\n")) (idle ∷ [])) + length (write_form end_form [])))
unfolding count_lines dropped_form withdrawn_form
count-lengths kept dropped idle = simp length-append

-- A whole list, with so many links kept: the others with both ends in service are dropped.
unfoldable pub list_lines : (k : ℕ) (lows highs states marks : List ℕ) (kept : ℕ) → List ℕ
list_lines k lows highs states marks kept =
    let idle = idle_count lows highs states in
    write_form lease_form (k ∷ []) ++
    (lease_lines lows highs states marks 0 (length lows) ++ count_lines kept (length lows - kept - idle) idle)

pub list-lengths : (k : ℕ) (lows highs states marks : List ℕ) (kept idle : ℕ) → idle ≡ idle_count lows highs states
    → length (list_lines k lows highs states marks kept)
    ≡ length (write_form (single_form (bytes "(lease (k ") (bytes "))\n")) (k ∷ []))
    + (length (lease_lines lows highs states marks 0 (length lows)) + length (count_lines kept (length lows - kept - idle) idle))
unfolding list_lines lease_form
list-lengths k lows highs states marks kept idle e = rw e (simp length-append)
