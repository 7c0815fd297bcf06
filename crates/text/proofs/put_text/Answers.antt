-- `text::put_text` meets its contract: one write mark moves over the text, form by form. Behind the header and each link
-- what is left of the text is known, behind the `out` lines only the end is left.
use Rattle.text.specs.Marks.{
  header-writable,
  link-writable,
  outs-writable,
  end-writable,
  header-moved,
  link-moved,
  outs-moved,
  end_moved,
}
use Rattle.text.proofs.put_text.Goals as goal

pub move_mark-requires : goal.move_mark-requires
move_mark-requires c =
    let t = c.args.table in
    let start = c.args.buffer.now in
    header-writable t.n t.lows.now t.highs.now t.states.now start c.requires

pub loop-mark-init : goal.loop-mark-init
loop-mark-init c =
    let t = c.args.table in
    let start = c.args.buffer.now in
    header-moved t.n t.lows.now t.highs.now t.states.now start c.move_mark.new.buffer c.move_mark.new.mark c.move_mark.ensures

pub move_mark-requires-in-loop-mark : goal.move_mark-requires-in-loop-mark
move_mark-requires-in-loop-mark c =
    let t = c.args.table in
    let start = c.args.buffer.now in
    let l = c.loop-mark in
    link-writable t.n t.lows.now t.highs.now t.states.now start c.requires l.buffer l.mark l.invariant c.loop-mark-test.true

pub loop-mark-preserved : goal.loop-mark-preserved
loop-mark-preserved c =
    let t = c.args.table in
    let start = c.args.buffer.now in
    let l = c.loop-mark in
    let moved = c.move_mark-in-loop-mark in
    link-moved t.n t.lows.now t.highs.now t.states.now start l.buffer moved.new.buffer l.mark moved.new.mark
    l.invariant c.loop-mark-test.true moved.ensures

pub move_mark-requires-2 : goal.move_mark-requires-2
move_mark-requires-2 c =
    let t = c.args.table in
    let start = c.args.buffer.now in
    let l = c.loop-mark in
    outs-writable t.n t.lows.now t.highs.now t.states.now start c.requires l.buffer l.mark l.invariant

pub move_mark-requires-3 : goal.move_mark-requires-3
move_mark-requires-3 c =
    let t = c.args.table in
    let start = c.args.buffer.now in
    let l = c.loop-mark in
    let outs = c.move_mark-2 in
    end-writable t.n t.lows.now t.highs.now t.states.now start c.requires outs.new.buffer outs.new.mark
    (outs-moved t.n t.lows.now t.highs.now t.states.now start l.buffer outs.new.buffer l.mark outs.new.mark
    l.invariant c.loop-mark-test.false outs.ensures)

pub returns : goal.returns
returns c =
    let t = c.args.table in
    let start = c.args.buffer.now in
    let l = c.loop-mark in
    let outs = c.move_mark-2 in
    let end = c.move_mark-3 in
    end_moved t.n t.lows.now t.highs.now t.states.now start outs.new.buffer end.new.buffer outs.new.mark end.new.mark
    (outs-moved t.n t.lows.now t.highs.now t.states.now start l.buffer outs.new.buffer l.mark outs.new.mark
    l.invariant c.loop-mark-test.false outs.ensures) end.ensures
