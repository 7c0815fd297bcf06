-- `reports::line::report_line` meets its contract: a part of the front departs or is bad, or the rest of the line is read.
use Rattle.std.specs.Prelude.{Result}
use Rattle.std.proofs.Common.{ℕ, ◌<◌, refl, arith}
use Rattle.std.proofs.lemmas.Result.{OkIff-at_ok, OkIff-at_err}
use Rattle.text_theory.specs.ReportParts.{front-departs, serial-departs}
use Rattle.definitions.specs.Reports.{scan_serial}
use Rattle.text.specs.Scans.{number_gives}
use Rattle.reports.proofs.LineLaws.{read-so, departed-so, departs-bad, relay-bad, serial-bad}
use Rattle.reports.proofs.line.report_line.Goals as goal

pub returns-in_err-relay : goal.returns-in_err-relay
returns-in_err-relay c =
    let a = c.args in
    let departed = departed-so number_gives c.front.result c.front.ensures c.in_err-relay.ensures.value in
    rw c.from_residual.ensures (departs-bad a.text.now a.at (front-departs a.text.now a.at _ departed.1))

pub returns-then-relay-gt-HIGHEST_RELAY : goal.returns-then-relay-gt-HIGHEST_RELAY
returns-then-relay-gt-HIGHEST_RELAY c =
    let front = read-so number_gives c.front.result c.front.ensures _ c.in_ok-relay.ensures.value in
    relay-bad c.args.text.now c.args.at front c.if-relay-gt-HIGHEST_RELAY.true

pub returns-in_err-serial : goal.returns-in_err-serial
unfolding scan_serial
returns-in_err-serial c =
    let a = c.args in
    let front = read-so number_gives c.front.result c.front.ensures _ c.in_ok-relay.ensures.value in
    let departed = departed-so number_gives c.decimal.result c.decimal.ensures.scanned c.in_err-serial.ensures.value in
    rw c.from_residual-in_err-serial.ensures
    (departs-bad a.text.now a.at (serial-departs a.text.now a.at _ _ front _ departed.1))

pub returns-in_err-serial-2 : goal.returns-in_err-serial-2
unfolding scan_serial
returns-in_err-serial-2 c =
    let front = read-so number_gives c.front.result c.front.ensures _ c.in_ok-relay.ensures.value in
    let number = read-so number_gives c.decimal.result c.decimal.ensures.scanned _ c.in_ok-serial.ensures.value in
    let refused = departed-so (λ (r : Result ℕ _). r) c.try_from.result refl c.in_err-serial-2.ensures.value in
    let far : 4294967295 < c.in_ok-serial.serial = omega (arith, OkIff-at_err _ _ _ _ c.try_from.ensures refused.1) in
    rw c.from_residual-in_err-serial-2.ensures (serial-bad c.args.text.now c.args.at front number far)

pub returns : goal.returns
unfolding scan_serial
returns c =
    let front = read-so number_gives c.front.result c.front.ensures _ c.in_ok-relay.ensures.value in
    let number = read-so number_gives c.decimal.result c.decimal.ensures.scanned _ c.in_ok-serial.ensures.value in
    let kept = read-so (λ (r : Result ℕ _). r) c.try_from.result refl _ c.in_ok-serial-2.ensures.value in
    let same = (OkIff-at_ok _ _ _ _ c.try_from.ensures kept).1 in
    c.tail.ensures _ _ front (rw same number)
