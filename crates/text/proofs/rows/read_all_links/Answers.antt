-- `read_all_links` meets its contract: each way has room for the pairs of its relays.
use Rattle.std.proofs.Common.{arith, rules}
use Rattle.network.specs.Pairs.{rows-of-32, rows-of-128, rows-of-512, rows-of-1000}
use Rattle.text.proofs.rows.read_all_links.Goals as goal

pub read_links_in-requires-clause-sizes : goal.read_links_in-requires-clause-sizes
read_links_in-requires-clause-sizes g c =
    let few = rows-of-32 c.args.n c.if-n-le-FEWEST_RELAYS.true in
    (c.if-n-le-FEWEST_RELAYS.true, search rules, omega (arith, few), search rules)

pub read_links_in-requires-then-n-le-FEW_RELAYS-clause-sizes : goal.read_links_in-requires-then-n-le-FEW_RELAYS-clause-sizes
read_links_in-requires-then-n-le-FEW_RELAYS-clause-sizes g c =
    (c.if-n-le-FEW_RELAYS.true, search rules, rows-of-128 c.args.n c.if-n-le-FEW_RELAYS.true, search rules)

pub read_links_in-requires-then-n-le512-clause-sizes : goal.read_links_in-requires-then-n-le512-clause-sizes
read_links_in-requires-then-n-le512-clause-sizes g c =
    (c.requires.0, search rules, rows-of-512 c.args.n c.if-n-le512.true, search rules)

pub read_links_in-requires-else-n-le512-clause-sizes : goal.read_links_in-requires-else-n-le512-clause-sizes
read_links_in-requires-else-n-le512-clause-sizes g c =
    let all = rows-of-1000 c.args.n c.requires.0 in
    (c.requires.0, search rules, omega (arith, all), search rules)
