-- `route_counted` meets its contract: one scan, the links counted by their forest numbers, and Route from what the scan gave.
use Prim.Native.Nat.{ℕ}
use mathlib.Core.List.{[], ◌∷◌}
use mathlib.Core.Path.{◌≡◌, sym, ◌∙◌, ap}
use Rattle.std.proofs.Common.{rules}
use native.Mathlib.Omega.{arith}
use Rattle.definitions.specs.Outcome.{done, and_then}
use Rattle.theory.specs.Accepted.{accepted}
use Rattle.network.specs.Answers.{refusal_of}
use Rattle.network.specs.Refusals.{refusal-then}
use Rattle.definitions.specs.Lists.{total}
use Rattle.definitions.specs.Forests.{marks_of}
use Rattle.forests.specs.Answers.{cut_outcome}
use Rattle.forests.proofs.AnswerLaws.{kept-counted}
use Rattle.routes.proofs.kept.route_counted.Goals as goal

pub scan-requires : goal.scan-requires
scan-requires c =
    let t = accepted _ _ _ _ c.requires.accepted in
    (omega arith, (c.new-arrays.ensures, (t.few, t.short, omega (arith, t.few))))

pub returns-in_err-route-clause-counted : goal.returns-in_err-route-clause-counted
returns-in_err-route-clause-counted c =
    let t = c.args.network.table in
    let refusal = c.in_err-route.field-0.0 in
    let same : cut_outcome c.from_residual.result ≡ refusal_of refusal = search rules in
    record {
      answer = refusal_of refusal;
      routed = c.in_err-route.ensures.result_left;
      kept = same ∙ sym (refusal-then refusal (λ _. done (total (marks_of t.n t.lows.now t.highs.now t.states.now c.args.wish.k) ∷ [])));
    }

pub returns-clause-counted : goal.returns-clause-counted
unfolding and_then
returns-clause-counted c =
    let t = c.args.network.table in
    let gave = c.scan.ensures in
    let counted =
    kept-counted t.n t.lows.now t.highs.now t.states.now c.args.wish.k _ gave.scanned.the_forests c.kept_links-kept.result
    c.kept_links-kept.ensures in
    record {
      answer = done (c.in_ok-route.field-0 ∷ []);
      routed = c.in_ok-route.ensures.result_left;
      kept = ap (λ (kept : ℕ). done (kept ∷ [])) counted;
    }
