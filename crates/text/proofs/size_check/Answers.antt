-- `size_check` meets its contract: the tests on the way to each answer are those of the definition.
use Rattle.std.proofs.Common.{refl, arith}
use Rattle.lists.specs.Ranges.{below, above, inside}
use Rattle.text.specs.Sizes.{count-outside, links-many, lows-short, highs-short, states-short, has_room}
use Rattle.text.proofs.size_check.Goals as goal
use Rattle.text.proofs.size_check.Goals.{
  then-size-lt1-via-then-size-lt1,
  then-size-lt1-via-else-size-lt1+then-size-gt-RELAYS,
  then-lows-links-via-then-lows-links,
  then-lows-links-via-else-lows-links+then-highs-links,
  then-lows-links-via-else-lows-links+else-highs-links+then-states-size,
}

pub returns-then-size-lt1 : goal.returns-then-size-lt1
returns-then-size-lt1 c =
    let a = c.args in
    let n = a.size.relays in
    elim c.then-size-lt1.branch [
      | then-size-lt1-via-then-size-lt1 w ↦ count-outside n a.size.links a.lows a.highs a.states _ refl (below 1 1000 n w.if-size-lt1.true)
      | then-size-lt1-via-else-size-lt1+then-size-gt-RELAYS w ↦
          count-outside n a.size.links a.lows a.highs a.states _ refl (above 1 1000 n (omega arith) w.if-size-gt-RELAYS.true)
    ]

pub returns-then-size-gt-LINKS : goal.returns-then-size-gt-LINKS
returns-then-size-gt-LINKS c =
    let a = c.args in
    links-many a.size.relays a.size.links a.lows a.highs a.states _ refl (inside 1 1000 a.size.relays (omega arith) (omega arith))
    (omega arith)

pub returns-then-lows-links : goal.returns-then-lows-links
returns-then-lows-links c =
    let a = c.args in
    let n = a.size.relays in
    let m = a.size.links in
    let counted = inside 1 1000 n (omega arith) (omega arith) in
    elim c.then-lows-links.branch [
      | then-lows-links-via-then-lows-links w ↦ lows-short n m a.lows a.highs a.states _ refl counted (omega arith) w.if-lows-links.true
      | then-lows-links-via-else-lows-links+then-highs-links w ↦
          highs-short n m a.lows a.highs a.states _ refl counted (omega arith) w.if-lows-links.false w.if-highs-links.true
      | then-lows-links-via-else-lows-links+else-highs-links+then-states-size w ↦
          states-short n m a.lows a.highs a.states _ refl counted (omega arith) w.if-lows-links.false w.if-highs-links.false
          w.if-states-size.true
    ]

pub returns : goal.returns
returns c =
    let a = c.args in
    has_room a.size.relays a.size.links a.lows a.highs a.states
    (record {
      some = omega arith;
      few = omega arith;
      short = omega arith;
      in_lows = omega arith;
      in_highs = omega arith;
      in_states = omega arith;
    })
