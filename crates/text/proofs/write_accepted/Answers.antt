-- `text::write_accepted` meets its contract: the whole text, from the buffer's first byte on.
use mathlib.Core.Path.{◌∙◌}
use Rattle.definitions.specs.Text.{text_of}
use Rattle.lists.specs.Stores.{sets-overwrite}
use Rattle.theory.specs.Accepted.{accepted}
use Rattle.text.proofs.write_accepted.Goals as goal

pub put_text-requires : goal.put_text-requires
put_text-requires c =
    let t = c.args.network.table in
    record {
      even = (accepted t.n t.lows.now t.highs.now t.states.now c.args.network.accepted).even;
      enough = c.requires;
    }

pub returns-clause-buffer_left : goal.returns-clause-buffer_left
returns-clause-buffer_left c =
    let t = c.args.network.table in
    c.put_text.ensures.bytes ∙ sets-overwrite (text_of t.n t.lows.now t.highs.now t.states.now) c.args.buffer.now c.requires
