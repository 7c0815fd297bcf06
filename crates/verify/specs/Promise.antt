-- The promise of a sheet that is read back, `VerifyPromise`. Rests on the planner's own promise, `PlanPromise`: what it prints
-- for a wish that is not refused is a sheet that holds.
use Rattle.std.specs.Prelude.{ℕ, ◌<◌, Bool, true, false, List, [], ◌∷◌, ◌⊎◌, ◌≢◌, ◌≡◌, refl, eqb, length, get_or, take, drop}
use Rattle.std.proofs.Common.{inl, inr, sym, ◌∙◌, ap, subst, arith}
use Rattle.std.proofs.lemmas.Bool.{eqb-false}
use Rattle.definitions.specs.Outcome.{done}
use Rattle.definitions.specs.Lists.{outside}
use Rattle.definitions.specs.Network.{link_serves, table_check, Accepted}
use Rattle.definitions.specs.Forests.{marks_of}
use Rattle.definitions.specs.Form.{bytes, reads, write_form}
use Rattle.definitions.specs.Text.{Network, read_network}
use Rattle.definitions.specs.Program.{refused_form, printed}
use Rattle.definitions.specs.Plan.{sheet_form, Sheet, planner, planned, sheet_text, plan_text}
use Rattle.definitions.specs.DisjointRoutes.{LinkOf, InService, AlongFrom, Along, RouteHolds}
use Rattle.definitions.specs.Demand.{Kept}
use Rattle.definitions.specs.SheetHolds.{SheetHolds}
use Rattle.definitions.specs.Promised.{Asked, Answered, AllAnswered}
use Rattle.definitions.specs.PlanPromise.{SheetPrinted}
use Rattle.definitions.specs.SheetForm.{read_sheet}
use Rattle.definitions.specs.SheetTest.{sheet_answer}
use Rattle.definitions.specs.Border.{border_of}
use Rattle.definitions.specs.Verify.{verify_input, Filed, filed, sheet_said, verifier, values_of, verified, verdict_text, verify_text, verdict_of}
use Rattle.definitions.specs.VerifyPromise.{SaidExactly, VerdictPrinted, VerifyPromise}
use Rattle.lists.specs.Outcomes.{then-done}
use Rattle.lists.specs.RefusedWithin.{RefusedAs, refused_as, refuse-as, then-as}
use Rattle.lists.specs.SameOutcomes.{done-same, done-then}
use Rattle.theory.proofs.Columns.{no-mark, mark-entry}
use Rattle.text_theory.specs.RoundTrip.{written_read}
use Rattle.text_theory.specs.RefusalFourteen.{refusal-fourteen}
use Rattle.text_theory.specs.Longest.{longest}
use Rattle.text_theory.specs.Programs.{AllDone, AnswersAs, outcome-as, answered}
use Rattle.program.specs.Printable.{read-printable, roomy}
use Rattle.plan.specs.Promise.{sheet-promise}
use Rattle.verify.specs.Exact.{yes_or_no-exact, said-exactly}
use Rattle.verify.specs.Line.{two-texts}
use Rattle.verify.specs.Written.{written-yes}

-- A sheet that holds along links that the property picks, all of them with both ends in service, holds along links in service.
module _ (lows highs states : List ℕ) (picked : ℕ → Type 0)
    (serving : (i : ℕ) → i < length lows → picked i → InService lows highs states i) where
  serving-from : (a : ℕ) (rest : List ℕ) → AlongFrom (LinkOf lows highs picked) a rest
      → AlongFrom (LinkOf lows highs (InService lows highs states)) a rest
  serving-from a [] along = tt
  serving-from a (b ∷ rest) along =
      let l = along.0 in
      ((l.0, l.1, l.2, serving l.0 l.1 l.3), serving-from b rest along.1)

  serving-along : (route : List ℕ) → Along (LinkOf lows highs picked) route → Along (LinkOf lows highs (InService lows highs states)) route
  serving-along [] along = tt
  serving-along (a ∷ rest) along = serving-from a rest along

  serving-route : {n from to : ℕ} (route : List ℕ) → RouteHolds n lows highs states picked from to route
      → RouteHolds n lows highs states (InService lows highs states) from to route
  serving-route route holds =
      record {
        runs =
            record {
              long = holds.runs.long;
              starts = holds.runs.starts;
              ends = holds.runs.ends;
              along = serving-along route holds.runs.along;
              through = holds.runs.through;
            };
        no_repeat = holds.no_repeat;
      }

  serving-sheet : (n : ℕ) (sheet : Sheet) → SheetHolds n lows highs states picked sheet
      → SheetHolds n lows highs states (InService lows highs states) sheet
  serving-sheet n sheet holds =
      record {
        some = holds.some;
        few = holds.few;
        many = holds.many;
        differ = holds.differ;
        disjoint =
            record {
              each = λ i less. serving-route (get_or sheet.routes i []) (holds.disjoint.each i less);
              apart = holds.disjoint.apart;
            };
        many_overs = holds.many_overs;
        over = holds.over;
        kept = holds.kept;
      }

-- A kept link has both ends in service.
kept-serves : (n : ℕ) (lows highs states : List ℕ) (k i : ℕ) → i < length lows → Kept (marks_of n lows highs states k) i
    → InService lows highs states i
kept-serves n lows highs states k i less kept = go (link_serves lows highs states i) refl
  where
    go : (b : Bool) → link_serves lows highs states i ≡ b → b ≡ true
    go true e = refl
    go false e =
        let none = no-mark n lows highs states k i less e (marks_of n lows highs states k) (mark-entry n lows highs states k) in
        absurd (omega (arith, none, kept))

-- One input asks for one network.
reads_same : (values others : List ℕ) (p q : ℕ) → reads values p ≡ reads others q → p ≡ q
reads_same values others p q e = cc

one-network : (input wish wish' : List ℕ) (network other : Network) → Asked planner input wish network → Asked planner input wish' other
    → network ≡ other
one-network input wish wish' network other asked again =
    let same : asked.behind ≡ again.behind =
    reads_same wish wish' asked.behind again.behind (sym asked.line ∙ again.line) in
    done-same network other
    (sym asked.read ∙ ap (λ (p : ℕ). read_network (drop p input) 3000 3000 1000) same ∙ again.read)

-- A sheet and the line of a refusal part at the second byte.
sheet-second : (sheet : Sheet) → get_or (sheet_text sheet) 1 0 ≡ 115
unfolding sheet_text write_form sheet_form
sheet-second sheet = refl

refused-second : (values : List ℕ) → get_or (write_form refused_form values) 1 0 ≡ 114
unfolding write_form refused_form
refused-second values = refl

-- What the planner prints for a wish that is not refused is answered with yes,
printed-answer : (input wish : List ℕ) (network : Network) (sheet : Sheet) → Asked planner input wish network
    → planned input ≡ done sheet
    → sheet_answer network.relays network.lows network.highs network.states (plan_text input) ≡ done (1 ∷ [])
unfolding plan_text printed
printed-answer input wish network sheet asked e = go (sheet-promise.answered input)
  where
    go : Answered planner SheetPrinted input (plan_text input)
        → sheet_answer network.relays network.lows network.highs network.states (plan_text input) ≡ done (1 ∷ [])
    go (inl found) =
        let other = found.thing in
        let one = found.holds in
        subst (λ (net : Network). sheet_answer net.relays net.lows net.highs net.states (plan_text input) ≡ done (1 ∷ []))
        (one-network input _ wish other network found.asked asked)
        (ap (sheet_answer other.relays other.lows other.highs other.states) one.printed
        ∙ written-yes other.relays other.lows other.highs other.states one.accepted one.sheet
        (serving-sheet other.lows other.highs other.states _
        (kept-serves other.relays other.lows other.highs other.states one.sheet.k)
        other.relays one.sheet one.holds))
    go (inr found) =
        let values = found.number ∷ found.place ∷ [] in
        let same : sheet_text sheet ≡ write_form refused_form values = sym (ap (printed sheet_text) e) ∙ found.text in
        absurd (omega (arith, sheet-second sheet, refused-second values, ap (λ (l : List ℕ). get_or l 1 0) same))

-- and with the network's text, a sheet that is answered with yes gets the line for yes.
line-holds : (text sheet_bytes : List ℕ) (network : Network) → read_network text 3000 3000 1000 ≡ done network
    → sheet_answer network.relays network.lows network.highs network.states sheet_bytes ≡ done (1 ∷ [])
    → verify_text (verify_input text sheet_bytes) ≡ bytes "(holds)\n"
unfolding verdict_of verdict_text printed
line-holds text sheet_bytes network read said =
    let (written, ok) = written_read text 3000 3000 1000 network read in
    let short = longest network.relays network.lows network.highs network.states ok in
    two-texts text sheet_bytes (omega (arith, short, ap length written))
    ∙ ap (printed verdict_text) (then-done (read_network text 3000 3000 1000) _ network read ∙ said)

-- The refusals of a sheet that is read back with an accepted network are 14 and 15, and those of the program neither 8 nor 12.
abbrev Roomy : (number place : ℕ) → Type 0
Roomy number place = (number ≢ 8) × (number ≢ 12)

roomy-number : (number place : ℕ) → eqb number 8 ≡ false → eqb number 12 ≡ false → Roomy number place
roomy-number number place eight twelve = (eqb-false number 8 eight, eqb-false number 12 twelve)

sheet-roomy : (w : Network) (text : List ℕ) → Accepted w.relays w.lows w.highs w.states
    → RefusedAs Roomy (sheet_answer w.relays w.lows w.highs w.states text)
unfolding sheet_answer
sheet-roomy w text ok =
    rw (then-done (table_check w.relays w.lows w.highs w.states) _ [] ok)
    (then-as Roomy (read_sheet text) _
    (refused_as Roomy (read_sheet text) (λ number place e. rw (refusal-fourteen.alone text number place e) (roomy-number 14 place refl refl)))
    (λ sheet _. refuse-as Roomy (outside 1 32 sheet.k) 15 0 _ (λ _. roomy-number 15 0 refl refl) (λ _. tt)))

-- The network that was read is an accepted one.
filed-accepted : (line text : List ℕ) (both : Filed) → filed line text ≡ done both
    → let w = both.network in Accepted w.relays w.lows w.highs w.states
unfolding filed
filed-accepted line text both e =
    let (w, read, last) = done-then (read_network (take (border_of line) text) 3000 3000 1000) _ both e in
    let same : w ≡ both.network = ap (λ (b : Filed). b.network) (done-same _ both last) in
    subst (λ (w : Network). Accepted w.relays w.lows w.highs w.states) same
    (written_read (take (border_of line) text) 3000 3000 1000 w read).1

verified-roomy : (input : List ℕ) → RefusedAs Roomy (verified input)
unfolding verified filed AnswersAs
verified-roomy input =
    outcome-as verifier _ input Roomy (λ place _. roomy-number 1 place refl refl)
    (λ line text.
    then-as Roomy (read_network (take (border_of line) text) 3000 3000 1000) _
    (roomy (read_network (take (border_of line) text) 3000 3000 1000) (read-printable (take (border_of line) text))) (λ _ _. tt))
    (λ line both asked.
    (sheet-roomy both.network both.sheet (filed-accepted line (drop asked.behind input) both asked.read), tt))

-- What is said of the sheet.
said-line : (line : List ℕ) (both : Filed) (values : List ℕ) → sheet_said both ≡ done values
    → VerdictPrinted line both (verdict_text (values_of (sheet_said both)))
unfolding verdict_text values_of
said-line line both values e =
    let w = both.network in
    go (said-exactly w.relays w.lows w.highs w.states both.sheet)
    (yes_or_no-exact w.relays w.lows w.highs w.states both.sheet values e)
  where
    go : (let w = both.network in SaidExactly w.relays w.lows w.highs w.states both.sheet) → (values ≡ 1 ∷ []) ⊎ (values ≡ 0 ∷ []) → VerdictPrinted line both (verdict_text (values_of (sheet_said both)))
    go exact (inl one) = inl (rw (e, one), exact.yes.0 (e ∙ ap done one))
    go exact (inr none) = inr (rw (e, none), exact.no.0 (e ∙ ap done none))

verify-answered : AllAnswered verifier VerdictPrinted verify_text
unfolding verify_text verified AllDone
verify-answered input =
    answered verifier _ input verdict_text VerdictPrinted (verified-roomy input)
    (λ line both _ passed. said-line line both passed.0.0 passed.0.1)

-- Yes is said exactly where the sheet holds, and of every sheet that the program prints.
pub read-back-promise : VerifyPromise
read-back-promise =
    record {
      exact = said-exactly;
      answered = verify-answered;
      two_texts = two-texts;
      printed = λ input wish network sheet asked e.
          let said = printed-answer input wish network sheet asked e in
          record { answer = said; line = line-holds (drop asked.behind input) (plan_text input) network asked.read said };
    }
