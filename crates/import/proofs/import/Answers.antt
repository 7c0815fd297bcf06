-- `import::import` meets its contract: the lists are cleared behind what was read, whole after a refusal.
use Rattle.text.specs.Tables.{read_whole}
use Rattle.import.proofs.ImportLaws.{import-promises}
use Rattle.import.proofs.import.Goals as goal

pub returns : goal.returns
returns c =
    let table = c.import_table-answer in
    let whole = read_whole _ _ _ _ _ _ _ _ _ _ _ _ c.unwrap_or-kept.ensures table.ensures c.clear_behind.ensures in
    let promises = import-promises _ _ _ _ _ _ _ _ whole in
    record { answer = promises.0; low_list = promises.1.0; high_list = promises.1.1.0; state_list = promises.1.1.1 }
