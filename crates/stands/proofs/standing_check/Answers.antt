-- `stands::standing_check` meets its contract: success for either text, or the refusal.
use Rattle.std.proofs.Common.{rules, sym}
use Rattle.stands.specs.Standing.{either-stands, check-refused}
use Rattle.stands.proofs.standing_check.Goals as goal

pub returns-in_err-which_stands : goal.returns-in_err-which_stands
returns-in_err-which_stands c =
    let refused = check-refused c.args.first.now c.args.second.now _ (sym c.in_err-which_stands.ensures) in
    search rules

pub returns : goal.returns
returns c = either-stands _ _ _ c.in_ok-which_stands.ensures
