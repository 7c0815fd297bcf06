-- The definitions of the programs, and of the texts that they read and print, that stay shut, opened at once. A new definition gets one
-- line here. Assumes nothing.
use Rattle.definitions.specs.Program as Program
use Rattle.definitions.specs.Border as Border
use Rattle.definitions.specs.Plan as Plan
use Rattle.definitions.specs.Keep as Keep
use Rattle.definitions.specs.DisjointRoutes as DisjointRoutes
use Rattle.definitions.specs.Demand as Demand
use Rattle.definitions.specs.KeepPromise as KeepPromise
use Rattle.definitions.specs.Sure as Sure
use Rattle.definitions.specs.SheetForm as SheetForm
use Rattle.definitions.specs.SheetTest as SheetTest
use Rattle.definitions.specs.Verify as Verify
use Rattle.definitions.specs.Dimacs as Dimacs
use Rattle.definitions.specs.DimacsText as DimacsText
use Rattle.definitions.specs.Import as Import
use Rattle.definitions.specs.Reports as Reports
use Rattle.definitions.specs.Stands as Stands
use Rattle.definitions.specs.ReportSets as ReportSets

unfoldable pub opened_programs : Unit {0}
unfolding
    Program.passing
    Program.outcome_of
    Program.refused_form
    Program.room
    Program.input_room
    Program.printed
    Program.network_text
    Program.print_answer
    Program.output_after
    Border.border_of
    Border.bordered
    Plan.wish_form
    Plan.sheet_form
    Plan.kept_form
    Plan.output_room
    Plan.sheet_for
    Plan.sheet_answers
    Plan.planned
    Plan.numbers_line
    Plan.route_lines
    Plan.sheet_text
    Plan.plan_text
    Keep.keep_form
    Keep.lease_form
    Keep.kept_link_form
    Keep.dropped_link_form
    Keep.idle_link_form
    Keep.dropped_form
    Keep.withdrawn_form
    Keep.lease_room
    Keep.lease_for
    Keep.lease_answers
    Keep.leased
    Keep.lease_line
    Keep.lease_lines
    Keep.dropped_count
    Keep.idle_count
    Keep.lease_text
    Keep.keep_text
    DisjointRoutes.uses_from
    DisjointRoutes.uses
    Demand.cut_up
    KeepPromise.dispensable
    KeepPromise.link_line
    Sure.few_form
    Sure.none_form
    Sure.figure_text
    Sure.sure_text
    SheetForm.route_front
    SheetForm.over_front
    SheetForm.line_end
    SheetForm.scan_numbers
    SheetForm.read_kept
    SheetForm.read_routes
    SheetForm.read_sheet
    SheetTest.also_met
    SheetTest.step_holds
    SheetTest.met_at
    SheetTest.walk
    SheetTest.walk_route
    SheetTest.good_steps
    SheetTest.routes_hold
    SheetTest.sheet_holds
    SheetTest.yes_or_no
    SheetTest.sheet_answer
    Verify.verify_form
    Verify.verify_input
    Verify.filed
    Verify.values_of
    Verify.verified
    Verify.verdict_text
    Verify.verify_text
    Verify.verdict_of
    Dimacs.problem_form
    Dimacs.edge_form
    Dimacs.behind_words
    Dimacs.scan_comment
    Dimacs.scan_comments
    Dimacs.scan_line
    Dimacs.low_end
    Dimacs.high_end
    Dimacs.edge_fault
    Dimacs.read_edges
    Dimacs.import_network
    Dimacs.import_answer
    Dimacs.import_lows
    Dimacs.import_highs
    Dimacs.import_states
    DimacsText.comment_line
    DimacsText.comment_lines
    DimacsText.edge_lines
    DimacsText.dimacs_text
    DimacsText.judged_edges
    DimacsText.judged
    DimacsText.front_text
    DimacsText.judged_front
    Import.imported
    Import.import_text
    Reports.report_front
    Reports.scan_serial
    Reports.scan_report
    Reports.report_of
    Reports.report_text
    Reports.rises_from
    Reports.top_of
    Reports.bad_report
    Reports.on_report
    Reports.read_report
    Stands.wrapped
    Stands.ahead
    Stands.same_list
    Stands.of_one_relay
    Stands.standing
    Stands.text_of_which
    Stands.bytes_of
    Stands.standing_bytes
    Stands.standing_check
    Stands.which_number
    Stands.stands_answer
    Stands.stands_form
    Stands.stands_input
    Stands.two_texts
    Stands.stood
    Stands.stands_text
    Stands.stands_of
    ReportSets.read_reports
    ReportSets.report_lines
    ReportSets.repeats
    ReportSets.reporters
    ReportSets.beyond
    ReportSets.seen_by
    ReportSets.see_each_other
    ReportSets.reported_link
    ReportSets.reported_state
    ReportSets.reported_network
    ReportSets.judged_reports
    ReportSets.reports_network
    ReportSets.reports_answer
    ReportSets.reports_lows
    ReportSets.reports_highs
    ReportSets.reports_states
    ReportSets.reports_form
    ReportSets.reported
    ReportSets.reports_text
opened_programs = tt
