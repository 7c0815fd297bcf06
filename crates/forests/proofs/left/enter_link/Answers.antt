-- A link is entered under its later place, and its earlier place put in the place of its forest number.
use Prim.Native.Nat.{min, max}
use mathlib.Core.Bool.{false}
use mathlib.Core.Path.{◌≡◌, ◌∙◌, ap₂}
use lib.ListN.{get_or}
use Rattle.forests.specs.Left.{later_at, earlier_at, is_entered}
use Rattle.forests.proofs.EnterLaws.{is-entered, no-forest-entered, none-past-entered, entered-some, entered-none, end-some, end_none}
use Rattle.forests.proofs.left.enter_link.Goals.{else-forest-ge1-via-then-forest-ge1+else-forest-k, else-forest-ge1-via-else-forest-ge1}
use Rattle.forests.proofs.left.enter_link.Goals as goal

pub returns-then-forest-k : goal.returns-then-forest-k
returns-then-forest-k c =
    let a = c.args in
    let early : c.min.result ≡ earlier_at a.lows.now a.highs.now a.places.now a.i =
    c.min.ensures ∙ ap₂ min c.place_of-p.ensures c.place_of-q.ensures in
    let late : c.max.result ≡ later_at a.lows.now a.highs.now a.places.now a.i =
    c.max.ensures ∙ ap₂ max c.place_of-p.ensures c.place_of-q.ensures in
    let is_in = is-entered a.k (get_or a.forests.now a.i 0) c.if-forest-ge1.true c.if-forest-k.true in record {
      table_left = entered-some a.k a.i a.lows.now a.highs.now a.places.now a.forests.now a.n a.table.now _
          c.max.result is_in late c.put_left.ensures;
      forests_left = end-some a.k a.i a.lows.now a.highs.now a.places.now a.forests.now c.min.result is_in early;
    }

pub returns-else-forest-ge1 : goal.returns-else-forest-ge1
returns-else-forest-ge1 c =
    let a = c.args in
    let forest = get_or a.forests.now a.i 0 in
    let passed : is_entered a.k forest ≡ false =
    elim c.else-forest-ge1.branch [
      | else-forest-ge1-via-then-forest-ge1+else-forest-k w ↦ none-past-entered a.k forest w.if-forest-k.false
      | else-forest-ge1-via-else-forest-ge1 w ↦ no-forest-entered a.k forest w.if-forest-ge1.false
    ] in record {
      table_left = entered-none a.k a.i a.lows.now a.highs.now a.places.now a.forests.now a.n a.table.now passed;
      forests_left = end_none a.k a.i a.lows.now a.highs.now a.places.now a.forests.now passed;
    }
