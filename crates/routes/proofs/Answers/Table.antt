-- The left table of an accepted network gives left(i, v) with its link for the indices 1 to k.
use Prim.Native.Nat.{ℕ, suc, ◌≤◌, ◌<◌}
use mathlib.Core.List.{List}
use mathlib.Core.Logic.{by_cases}
use mathlib.Core.Path.{◌≡◌, sym, ◌∙◌, ap, subst}
use native.Mathlib.Decide.{ℕ_discrete, dec_lt}
use native.Mathlib.Omega.{arith}
use lib.ListN.{get_or}
use borrow.Author.Tests.{eq-eqb, ne_eqb, lt-ltb, le-ltb}
use Rattle.definitions.specs.Network.{Accepted}
use Rattle.definitions.specs.Order.{order_of}
use Rattle.definitions.specs.Forests.{Entry}
use Rattle.definitions.specs.Route.{left_of}
use Rattle.definitions.specs.Over.{entry_of}
use Rattle.theory.specs.Left.{left-laws, left_of-range}
use Rattle.theory.specs.Arranged.{base-arranged}
use Rattle.theory.specs.LeftEntries.{entry_place, entry-link, entry-earlier-in}
use Rattle.theory.proofs.OverLinks.{place_link, look-gives}
use Rattle.forests.specs.Left.{left_index, LeftTable}
use Rattle.forests.proofs.LeftTableLaws.{code-some, code-none}
use Rattle.sweep.specs.Side.{link_entry, table_entry}

module _ (n k : ℕ) (lows highs states : List ℕ) (ok : Accepted n lows highs states) (old table ends : List ℕ)
    (made : LeftTable n k lows highs states old table ends) where
  -- Where there is a neighbour.
  table-entry : (i v : ℕ) → 1 ≤ i → i ≤ k → 0 < left_of n lows highs states i v → table_entry table ends n i v ≡ entry_of n lows highs states i v
  unfolding table_entry link_entry left_of
  table-entry i v one le some =
      let entry : Entry = entry_of n lows highs states i v in
      let below : left_of n lows highs states i v < v = (left-laws n lows highs states).below i v some in
      let range = left_of-range n lows highs states i v some in
      let place : entry.place ≡ left_of n lows highs states i v = entry_place n lows highs states i v in
      let code : get_or table (left_index n i v) 0 ≡ suc entry.link =
      made.entry i v one le (omega arith) (omega (arith, range)) ∙ code-some entry (omega arith) in
      let link = entry-link n lows highs states ok i v some in
      let end : get_or ends entry.link 0 ≡ entry.place =
      made.earlier_end entry.link link.within (omega (arith, link.forest)) (omega (arith, link.forest))
      ∙ entry-earlier-in (order_of n lows highs states) lows highs (base-arranged n lows highs states ok) i v entry.link link ∙ sym place in
      rw (ne_eqb i 0 (λ e. omega arith), ne_eqb v 0 (λ e. omega arith), le-ltb n v (omega (arith, range)), code)
      (ap (λ (x : ℕ). record { place = x; link = entry.link }) end)

  -- Where there is none.
  table_none : (i v : ℕ) → 1 ≤ i → i ≤ k → left_of n lows highs states i v ≡ 0 → (table_entry table ends n i v).place ≡ 0
  unfolding table_entry link_entry
  table_none i v one le off =
      rw (ne_eqb i 0 (λ e. omega arith))
      (by_cases (ℕ_discrete v 0)
      (λ at. rw (eq-eqb v 0 at))
      (λ some.
      rw (ne_eqb v 0 some)
      (by_cases (dec_lt n v)
      (λ past. rw (lt-ltb n v past))
      (λ within.
      let code : get_or table (left_index n i v) 0 ≡ 0 =
      made.entry i v one le (omega arith) (omega arith) ∙ code-none (entry_of n lows highs states i v) (entry_place n lows highs states i v ∙ off) in
      rw (le-ltb n v (omega arith), code)))))

  pub table-left : (i v : ℕ) → 1 ≤ i → i ≤ k → (table_entry table ends n i v).place ≡ left_of n lows highs states i v
  table-left i v one le =
      by_cases (dec_lt 0 (left_of n lows highs states i v))
      (λ some. ap (λ (e : Entry). e.place) (table-entry i v one le some) ∙ entry_place n lows highs states i v)
      (λ none.
      let off : left_of n lows highs states i v ≡ 0 = omega arith in
      table_none i v one le off ∙ sym off)

  -- Its link is the one between the two places.
  pub table-link : (i v : ℕ) → 1 ≤ i → i ≤ k → 0 < (table_entry table ends n i v).place
      → (table_entry table ends n i v).link
      ≡ place_link (order_of n lows highs states) lows highs (table_entry table ends n i v).place v
  unfolding entry_of
  table-link i v one le some =
      let same : table_entry table ends n i v ≡ entry_of n lows highs states i v = table-entry i v one le (omega (arith, table-left i v one le)) in
      subst (λ (e : Entry). e.link ≡ place_link (order_of n lows highs states) lows highs e.place v) (sym same)
      (look-gives (order_of n lows highs states) lows highs (base-arranged n lows highs states ok) i v (subst (λ (e : Entry). 0 < e.place) same some))
