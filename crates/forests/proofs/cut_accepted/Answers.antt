-- Cut of an accepted table: the forest numbers, made into marks.
use Rattle.std.proofs.Common.{arith, ap, ◌++◌, drop, length, length-take-le}
use Rattle.theory.specs.Accepted.{accepted}
use Rattle.forests.proofs.AnswerLaws.{kept-counted, marks-done}
use Rattle.forests.proofs.cut_accepted.Goals as goal

pub mark_links-requires : goal.mark_links-requires
mark_links-requires c =
    let t = c.args.network.table in
    omega (arith, (accepted _ _ _ _ c.args.network.accepted).short, length-take-le (length t.lows.now) c.number_links.new.forests (omega (arith, c.number_links.auto.forests, c.requires)))

pub returns : goal.returns
returns c =
    let t = c.args.network.table in
    let marked = c.mark_links in
    let numbered = c.number_links.ensures in
    record {
      value = kept-counted t.n t.lows.now t.highs.now t.states.now c.args.k c.args.marks.now numbered marked.result marked.ensures.value;
      marks_left = marks-done t.n t.lows.now t.highs.now t.states.now c.args.k c.args.marks.now numbered (ap (λ l. l ++ drop (length t.lows.now) c.number_links.new.forests) marked.ensures.marks_left);
    }
