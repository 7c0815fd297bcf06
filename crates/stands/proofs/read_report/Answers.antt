-- `stands::read_report` meets its contract: the line is bad, or it was read, with something after it or as all of the text.
use Rattle.std.proofs.Common.{subst}
use Rattle.reports.specs.Lines.{LineRead}
use Rattle.stands.proofs.ReadLaws.{line-bad, line_more, line-whole}
use Rattle.stands.proofs.read_report.Goals as goal

pub returns-in_default : goal.returns-in_default
returns-in_default c = line-bad c.args.text.now (subst (LineRead _ _) c.in_default.is c.report_line.ensures)

pub returns-then-report-text : goal.returns-then-report-text
returns-then-report-text c = line_more c.args.text.now _ _ _ _ _ _ c.in-Some.ensures c.if-report-text.true

pub returns : goal.returns
returns c = line-whole c.args.text.now _ _ _ _ _ _ c.in-Some.ensures c.if-report-text.false
