-- `import::import_lines` meets its contract: a refused `e` line, a refusal behind the last one, or a whole table.
use Rattle.std.proofs.Common.{rules, refl, take, arith}
use Rattle.text.specs.Tables.{rest-refused, table-whole}
use Rattle.import.proofs.ImportLaws.{last-refused, last-serves}
use Rattle.import.proofs.import_lines.Goals as goal

pub returns-in_err-read_last : goal.returns-in_err-read_last
returns-in_err-read_last c =
    let a = c.args in
    let table =
    rest-refused _ _ _ _ _ _ _ _ _ c.in_ok-p.ensures a.size.relays _ refl a.states.now _
    (last-refused _ a.size.relays _ _ _ _ c.in_err-read_last.ensures (take a.size.relays a.states.now) _ refl) refl _ refl in
    search rules

pub returns : goal.returns
returns c =
    let served = c.serve.ensures in
    table-whole _ _ _ _ _ _ _ _ _ c.in_ok-p.ensures _ _ refl _ _
    (last-serves _ _ _ _ _ _ c.in_ok-read_last.ensures _ _ served) served.same c.in_ok-read_last.field-0 refl
    (omega (arith, c.requires)) (omega (arith, c.requires)) (omega (arith, c.requires))
