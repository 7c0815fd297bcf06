-- `read_lines` meets its contract: refused states or a refused end, or a whole table.
use Rattle.std.proofs.Common.{rules, refl, arith}
use Rattle.text.specs.Tables.{states-behind, rest-refused, table-whole}
use Rattle.text.proofs.read_lines.Goals as goal

pub returns-in_err-read_states : goal.returns-in_err-read_states
returns-in_err-read_states c =
    let told = c.in_err-read_states.ensures in
    let table = rest-refused _ _ _ _ _ _ _ _ _ c.in_ok-p.ensures c.args.size.relays _ refl _ _ (states-behind _ _ _ _ _ _ _ _ told) told.same _ refl in
    search rules

pub returns : goal.returns
returns c =
    let told = c.in_ok-read_states.ensures in
    table-whole _ _ _ _ _ _ _ _ _ c.in_ok-p.ensures c.args.size.relays _ refl _ _ (states-behind _ _ _ _ _ _ _ _ told)
    told.same c.in_ok-read_states.field-0 refl (omega (arith, c.requires.room)) (omega (arith, c.requires.room)) (omega (arith, c.requires.room))
