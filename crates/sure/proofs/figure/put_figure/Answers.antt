-- `sure::figure::put_figure` meets its contract: fewer than two relays are in service, or the last two stand at the end of Order's list.
-- Rests on #107.
use mathlib.Core.Bool.{true}
use mathlib.Core.Path.{◌≡◌, ◌∙◌, ap}
use native.Mathlib.Omega.{arith}
use lib.ListN.{length}
use Rattle.definitions.specs.Lists.{outside}
use Rattle.definitions.specs.Sure.{none_form}
use Rattle.lists.specs.Ranges.{below, above}
use Rattle.theory.specs.Accepted.{accepted, accepted-states}
use Rattle.theory.specs.ServingRelays.{serving-few}
use Rattle.program.specs.ReadStage.{network_in}
use Rattle.sure.specs.Lines.{few-text, Ordered, none-text, sheet-text}
use Rattle.sure.proofs.figure.put_figure.Goals as goal
use Rattle.sure.proofs.figure.put_figure.Goals.{
  After-links_of-links,
  else-links-ge1-via-then-links-ge1+else-links-le-ROUTES,
  else-links-ge1-via-else-links-ge1,
}

-- What is known once the links of the last relay are counted.
known : (c : After-links_of-links)
    → Ordered (network_in c.args.network) c.place_relays.new.relays c.from-count.result c.links_of-links.result
known c =
    record {
      accepted = c.args.network.accepted;
      old = _;
      placed = c.place_relays.ensures.relays_left;
      counted = c.from-count.ensures ∙ c.serving.ensures;
      two = omega (arith, c.if-count-lt2.false);
      linked = c.links_of-links.ensures;
    }

pub serving-requires : goal.serving-requires
serving-requires c =
    let t = c.args.network.table in
    ((accepted t.n t.lows.now t.highs.now t.states.now c.args.network.accepted).few, accepted-states t.n t.lows.now t.highs.now t.states.now c.args.network.accepted)

pub put_single-requires : goal.put_single-requires
put_single-requires c =
    let few = few-text (network_in c.args.network) _ (c.from-count.ensures ∙ c.serving.ensures) c.if-count-lt2.true in
    omega (arith, c.requires, ap length few)

pub returns-then-count-lt2 : goal.returns-then-count-lt2
returns-then-count-lt2 c =
    rw (few-text (network_in c.args.network) _ (c.from-count.ensures ∙ c.serving.ensures) c.if-count-lt2.true) c.put_single.ensures

pub place_relays-requires : goal.place_relays-requires
place_relays-requires c =
    let most = (accepted _ _ _ _ c.args.network.accepted).few in
    (omega arith, omega arith)

pub bounds-relays-count : goal.bounds-relays-count
bounds-relays-count c =
    let t = c.args.network.table in
    omega (
      arith,
      c.from-count.ensures,
      c.serving.ensures,
      serving-few t.n t.states.now,
      (accepted _ _ _ _ c.args.network.accepted).few,
    )

pub bounds-relays-count-2 : goal.bounds-relays-count-2
bounds-relays-count-2 c =
    let t = c.args.network.table in
    omega (
      arith,
      c.from-count.ensures,
      c.serving.ensures,
      serving-few t.n t.states.now,
      (accepted _ _ _ _ c.args.network.accepted).few,
    )

pub plan_accepted-requires : goal.plan_accepted-requires
plan_accepted-requires c =
    let given = known (goal.at.plan_accepted-requires c).After-links_of-links in
    let sheet = sheet-text _ _ _ _ given c.if-links-ge1.true c.if-links-le-ROUTES.true in
    omega (arith, c.requires, ap length sheet)

pub returns-then-links-le-ROUTES : goal.returns-then-links-le-ROUTES
returns-then-links-le-ROUTES c =
    let given = known (goal.at.returns-then-links-le-ROUTES c).After-links_of-links in
    rw (sheet-text _ _ _ _ given c.if-links-ge1.true c.if-links-le-ROUTES.true) c.plan_accepted.ensures

pub put_triple-requires : goal.put_triple-requires
unfolding none_form
put_triple-requires c =
    let given = known (goal.at.put_triple-requires c).After-links_of-links in
    let missed : outside 1 32 c.links_of-links.result ≡ true = elim c.else-links-ge1.branch [
      | else-links-ge1-via-then-links-ge1+else-links-le-ROUTES w ↦ above 1 32 _ w.if-links-ge1.true (omega (arith, w.if-links-le-ROUTES.false))
      | else-links-ge1-via-else-links-ge1 w ↦ below 1 32 _ (omega (arith, w.if-links-ge1.false))
    ] in
    rw (c.from.ensures, c.from-2.ensures, c.from-3.ensures) (omega (arith, c.requires, ap length (none-text _ _ _ _ given missed)))

pub returns : goal.returns
unfolding none_form
returns c =
    let given = known (goal.at.returns c).After-links_of-links in
    let missed : outside 1 32 c.links_of-links.result ≡ true = elim c.else-links-ge1.branch [
      | else-links-ge1-via-then-links-ge1+else-links-le-ROUTES w ↦ above 1 32 _ w.if-links-ge1.true (omega (arith, w.if-links-le-ROUTES.false))
      | else-links-ge1-via-else-links-ge1 w ↦ below 1 32 _ (omega (arith, w.if-links-ge1.false))
    ] in
    rw (none-text _ _ _ _ given missed, ← c.from.ensures, ← c.from-2.ensures, ← c.from-3.ensures) c.put_triple.ensures
