-- `put_imported` meets its contract: what the import has left in the lists goes out.
use Rattle.importer.proofs.ConvertLaws.{imported-printed}
use Rattle.importer.proofs.convert.put_imported.Goals as goal

pub returns : goal.returns
returns c = imported-printed _ _ _ _ _ c.load_drawing.ensures c.put_made.ensures
