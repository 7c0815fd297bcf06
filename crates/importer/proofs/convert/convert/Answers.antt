-- `importer::convert::convert` meets its contract: the output has room for every text.
use Rattle.importer.proofs.convert.convert.Goals as goal

pub returns : goal.returns
returns c = record { length = c.put_imported.ensures.size; bytes = c.put_imported.ensures.bytes }
