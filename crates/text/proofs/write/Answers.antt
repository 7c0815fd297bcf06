-- `text::write` meets its contract: a refused table, a buffer too short, or the whole text.
use Rattle.std.proofs.Common.{◌∙◌, sym, ap, rules, arith, ℕ, [], ◌∷◌}
use Rattle.definitions.specs.Outcome.{done}
use Rattle.text_theory.specs.Writes.{write-short, write_done}
use Rattle.text.specs.Written.{write-refused}
use Rattle.text.proofs.write.Goals as goal

pub returns-in_err-network : goal.returns-in_err-network
returns-in_err-network c =
    let t = c.args.table in
    let refused = write-refused t.n t.lows.now t.highs.now t.states.now c.args.buffer.now c.in_err-network.field-0.0
    (sym c.in_err-network.ensures.answer) in
    let answer = sym refused.0 in
    record { answer = search rules; bytes = sym refused.1 }

pub returns-then-buffer-text_length : goal.returns-then-buffer-text_length
returns-then-buffer-text_length c =
    let t = c.args.table in
    let network = c.in_ok-network in
    let size = rw network.ensures.same at c.text_length.ensures in
    let short = write-short t.n t.lows.now t.highs.now t.states.now c.args.buffer.now (sym network.ensures.answer) (omega arith) in
    record { answer = sym short.0; bytes = sym short.1 }

pub returns : goal.returns
returns c =
    let t = c.args.table in
    let network = c.in_ok-network in
    let size = rw network.ensures.same at c.text_length.ensures in
    let made = rw network.ensures.same at c.write_accepted.ensures in
    let written = write_done t.n t.lows.now t.highs.now t.states.now c.args.buffer.now (sym network.ensures.answer) (omega arith) in
    record {
      answer = ap (λ (size : ℕ). done (size ∷ [])) made.value ∙ sym written.0;
      bytes = made.buffer_left ∙ sym written.1;
    }
