-- `put_reported` meets its contract: what the set has left in the lists goes out.
use Rattle.reporter.proofs.convert.put_reported.Goals as goal

pub returns : goal.returns
returns c = rw (← c.load_reports.ensures) c.put_made.ensures
