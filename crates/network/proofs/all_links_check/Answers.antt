-- `all_links_check` meets its contract: each way has room for the pairs of its relays.
use Rattle.std.proofs.Common.{arith, rules}
use Rattle.network.specs.Pairs.{rows-of-32, rows-of-128, rows-of-512, rows-of-1000}
use Rattle.network.proofs.all_links_check.Goals as goal

pub links_check_in-requires-clause-sizes : goal.links_check_in-requires-clause-sizes
links_check_in-requires-clause-sizes c =
    let few = rows-of-32 c.args.n c.if-n-le-FEWEST_RELAYS.true in
    (c.if-n-le-FEWEST_RELAYS.true, search rules, omega (arith, few), search rules)

pub links_check_in-requires-then-n-le-FEW_RELAYS-clause-sizes : goal.links_check_in-requires-then-n-le-FEW_RELAYS-clause-sizes
links_check_in-requires-then-n-le-FEW_RELAYS-clause-sizes c =
    (c.if-n-le-FEW_RELAYS.true, search rules, rows-of-128 c.args.n c.if-n-le-FEW_RELAYS.true, search rules)

pub links_check_in-requires-then-n-le512-clause-sizes : goal.links_check_in-requires-then-n-le512-clause-sizes
links_check_in-requires-then-n-le512-clause-sizes c =
    (c.requires.0, search rules, rows-of-512 c.args.n c.if-n-le512.true, search rules)

pub links_check_in-requires-else-n-le512-clause-sizes : goal.links_check_in-requires-else-n-le512-clause-sizes
links_check_in-requires-else-n-le512-clause-sizes c =
    let all = rows-of-1000 c.args.n c.requires.0 in
    (c.requires.0, search rules, omega (arith, all), search rules)
