-- `read_links` meets its contract: a line that is refused ends it.
use Rattle.std.proofs.Common.{Err, rules, refl, ◌∙◌}
use Rattle.text.specs.Read.{link-refused}
use Rattle.text.specs.Rows.{LinksRead}
use Rattle.text.proofs.rows.read_links.Goals as goal

pub returns-in_err-p : goal.returns-in_err-p
returns-in_err-p g c =
    let a = c.args in
    let l = c.loop-i in
    let link = rw l.invariant.0 at c.in_err-p.ensures.read in
    let links : LinksRead (g.L.LinkLines.reading a.text.now a.marks.now.n) a.m a.at a.lows.now a.highs.now c.read_link.new.lows c.read_link.new.highs (Err c.in_err-p.field-0.0) =
    record {
      follows = link-refused _ _ _ _ _ _ _ _ _ _ link _ _ _ refl c.loop-i-test.true l.invariant.4;
      same_lows = link.same_lows ∙ l.invariant.1;
      same_highs = link.same_highs ∙ l.invariant.2;
    } in
    search rules
