-- The promise of the list of links, `KeepPromise`: every input gets a list that holds, or the line of the first refusal met.
use Rattle.std.specs.Prelude.{ℕ, List, get_or}
use Rattle.std.proofs.Common.{sym, ap, subst, arith}
use Rattle.definitions.specs.Promised.{Answered}
use Rattle.definitions.specs.Keep.{keep_form, lease_answers, keeper, leased, lease_text, keep_text}
use Rattle.definitions.specs.KeepPromise.{LeaseHolds, LeasePrinted, KeepPromise}
use Rattle.lists.specs.RefusedWithin.{RefusedAs}
use Rattle.text_theory.specs.Spans.{span}
use Rattle.text_theory.specs.Programs.{AnswersAs, answered}
use Rattle.program.specs.Printable.{Printable, cut-printable, network-printable, roomy}
use Rattle.program.specs.ReadStage.{asked-accepted}
use Rattle.keep.specs.Reach.{keep-reach}
use Rattle.keep.specs.Listed.{line_read, in-range, lease-is}
use Rattle.keep.specs.KeptLinks.{lease-holds}

-- The refusals that are printed.
pub leased-printable : (input : List ℕ) → RefusedAs Printable (leased input)
unfolding leased span keep_form lease_answers AnswersAs
leased-printable input =
    network-printable keep_form _ _ input (omega arith)
    (λ line network good. (cut-printable network.relays network.lows network.highs network.states (get_or line 0 0) good, tt))

-- What is printed.
lease-answered : (input : List ℕ) → Answered keeper LeasePrinted input (keep_text input)
unfolding keep_text leased
lease-answered input =
    answered keeper _ input lease_text LeasePrinted (roomy (leased input) (leased-printable input))
    (λ line network asked passed.
    let k = get_or line 0 0 in
    let good = asked-accepted keep_form lease_answers input line network asked in
    record {
      k = k;
      asked = line_read input line network asked;
      accepted = good;
      holds =
          subst (LeaseHolds network.relays network.lows network.highs network.states k)
          (ap lease_text (sym (lease-is k network)))
          (lease-holds network.relays network.lows network.highs network.states k good (in-range line network passed).0);
    })

pub lease-promise : KeepPromise
lease-promise = record { answered = lease-answered; from_front = keep-reach }
