-- `Arrays::route` meets its contract.
use Prim.Native.Nat.{ℕ, ◌*◌}
use mathlib.Core.List.{List, ◌++◌}
use mathlib.Core.Path.{◌≡◌, ◌∙◌}
use lib.ListN.{length, drop, replicate}
use Rattle.forests.specs.Left.{LeftInput, LeftOfEach}
use Rattle.routes.specs.Answers.{route_outcome, answered, Routable, ScanGave, Prepared}
use Rattle.routes.proofs.Answers.Inner.{table-input, prepared, places-some, answers-tree, clear_whole, front-cleared}
use Rattle.routes.proofs.accepted.Arrays.route.Goals as goal

-- What the left table is made from, once the front of scratch is cleared; and what it makes ready.
module _ {n k from to : ℕ} {lows highs states order places numbers a b counts relays scratch front : List ℕ}
    (asked : Routable n lows highs states k from to counts relays scratch) (gave : ScanGave n lows highs states order places numbers a b)
    (clear : front ≡ replicate (k * n) 0 ++ drop (k * n) scratch) (long : length front ≡ length scratch) where
  input : LeftInput n k lows highs states places numbers front
  input = table-input n lows highs states k from to counts relays scratch front order places numbers a b asked gave clear long

  made : {table ends : List ℕ} → LeftOfEach n k lows highs places numbers front table ends
      → Prepared n k lows highs states gave.order_before order gave.places_before places gave.numbers_before ends front table
  made {table} {ends} filled = prepared n k lows highs states order places numbers a b front table ends gave (filled states input)

pub left_table-requires : goal.left_table-requires
left_table-requires g c =
    let a = c.args in
    let asked = c.requires.asked in
    let cleared = front-cleared a.wish.k a.network.table.n a.scratch.now c.from.ensures c.from-2.ensures c.clear.ensures in
    (a.network.table.states.now, input asked c.requires.given cleared c.clear.auto.list)

pub answer-result-requires : goal.answer-result-requires
answer-result-requires g c =
    let a = c.args in
    let t = a.network.table in
    let asked = c.requires.asked in
    let gave = c.requires.given in
    let cleared = front-cleared a.wish.k t.n a.scratch.now c.from.ensures c.from-2.ensures c.clear.ensures in
    places-some t.n t.lows.now t.highs.now t.states.now a.wish.k a.wish.from.0 a.wish.to.0 a.counts.now a.relays.now a.links.now
    a.scratch.now asked gave.order_before a.self.now.order gave.places_before a.self.now.places gave.numbers_before
    c.left_table.new.forests c.clear.new.list c.left_table.new.entries
    (made asked gave cleared c.clear.auto.list c.left_table.ensures)
    a.self.now.a a.self.now.b gave.arrays
    c.place_of-p.result.0 c.place_of-q.result.0 c.place_of-p.ensures c.place_of-q.ensures

pub returns : goal.returns
returns g c =
    let a = c.args in
    let t = a.network.table in
    let asked = c.requires.asked in
    let gave = c.requires.given in
    let answer = c.answer-result in
    let cleared = front-cleared a.wish.k t.n a.scratch.now c.from.ensures c.from-2.ensures c.clear.ensures in
    record {
      result_left = answers-tree t.n t.lows.now t.highs.now t.states.now a.wish.k a.wish.from.0 a.wish.to.0 a.counts.now a.relays.now
          a.links.now a.scratch.now asked gave.order_before a.self.now.order gave.places_before a.self.now.places gave.numbers_before
          c.left_table.new.forests c.clear.new.list c.left_table.new.entries
          (made asked gave cleared c.clear.auto.list c.left_table.ensures)
          a.self.now.a a.self.now.b gave.arrays
          c.place_of-p.result.0 c.place_of-q.result.0
          (answered answer.new.counts answer.new.relays answer.new.links (route_outcome answer.result))
          c.place_of-p.ensures c.place_of-q.ensures answer.ensures;
      scratch_left = clear_whole a.scratch.now c.left_table.new.entries c.clear-2.new.list
          (c.left_table.auto.entries ∙ c.clear.auto.list) c.clear-2.ensures;
    }
