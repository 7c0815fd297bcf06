-- `stands::lead` meets its contract: wrapped either way.
use Rattle.std.proofs.Common.{◌≡◌, ◌+◌, ◌-◌, ◌%◌, ℕ, ap, arith}
use Rattle.definitions.specs.Stands.{wrapped}
use Rattle.stands.proofs.lead.Goals as goal

pub returns : goal.returns
unfolding wrapped
returns c =
    let same : c.args.a + (4294967296 - c.args.b) ≡ c.args.a + 4294967296 - c.args.b = omega arith in
    ap (λ (k : ℕ). k % 4294967296) same
