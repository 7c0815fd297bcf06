-- What holds of every program: which refusal is the first met, what stands behind a value, how far an input is looked at, and the
-- promise, from what is the program's own. Assumes nothing.
use Rattle.std.specs.Prelude.{ℕ, ◌+◌, ◌-◌, ◌≤◌, ◌<◌, ◌⊎◌, ◌≢◌, ◌≡◌, take, drop}
use mathlib.Core.List.{List, [], ◌∷◌}
use Rattle.std.proofs.Math.Logic.{inl, inr}
use Rattle.std.proofs.Math.Path.{refl, ap, subst}
use Rattle.std.proofs.Common.{sym, ◌∙◌, arith}
use Rattle.definitions.specs.Outcome.{Outcome, refused, done, Answer, and_then}
use Rattle.definitions.specs.Form.{departs, reads, scan_form, on_scan}
use Rattle.definitions.specs.Program.{Program, passing, outcome_of, printed}
use Rattle.definitions.specs.Promised.{Asked, FirstOf, FirstRefusal, in_line, in_text, in_work, Answered}
use Rattle.lists.specs.Front.{drop-take}
use Rattle.lists.specs.RefusedWithin.{RefusedAs, then-as}
use Rattle.lists.specs.SameOutcomes.{done-same, done-then, refused-then}
use Rattle.text_theory.specs.RoundTrip.{on-scan-done}
use Rattle.text_theory.specs.Spans.{span, Within, form-within}
use Rattle.text_theory.specs.Reach.{on-scan-same, form-reach}
use Rattle.text_theory.specs.Refusals.{on-scan-as, on-scan-refused}

-- The answers one by one: a refusal is the first of them, and a value comes where all are done.
pub passing-refused : {B : Type 0} (answers : List Answer) (value : B) (number place : ℕ) → passing answers value ≡ refused number place
    → FirstOf answers number place
unfolding passing FirstOf
passing-refused [] value number place e = let z : ◌≡◌ {A = ℕ} 0 1 = cc in absurd (omega arith)
passing-refused (answer ∷ answers) value number place e =
    go (passing-refused answers value number place) (refused-then answer (λ _. passing answers value) number place e)
  where
    go : (passing answers value ≡ refused number place → FirstOf answers number place)
        → (answer ≡ refused number place)
        ⊎ ((first : List ℕ) × (answer ≡ done first) × (passing answers value ≡ refused number place))
        → (answer ≡ refused number place) ⊎ ((values : List ℕ) × (answer ≡ done values) × FirstOf answers number place)
    go later (inl here) = inl here
    go later (inr found) = inr (found.0, found.1, later found.2)

unfoldable pub AllDone : (answers : List Answer) → Type 0
AllDone [] = Unit {0}
AllDone (answer ∷ answers) = ((values : List ℕ) × (answer ≡ done values)) × AllDone answers

pub passing-done : {B : Type 0} (answers : List Answer) (value result : B) → passing answers value ≡ done result
    → AllDone answers × (value ≡ result)
unfolding passing AllDone
passing-done [] value result e = (tt, done-same value result e)
passing-done (answer ∷ answers) value result e =
    let (values, first, after) = done-then answer (λ _. passing answers value) result e in
    let rest = passing-done answers value result after in
    (((values, first), rest.0), rest.1)

-- Where all are done none is refused.
none-refused : (answers : List Answer) → AllDone answers → (number place : ℕ) → FirstOf answers number place → ⊥
unfolding AllDone FirstOf
none-refused [] all number place first = first
none-refused (answer ∷ answers) all number place first = go (none-refused answers all.1 number place) first
  where
    go : (FirstOf answers number place → ⊥)
        → (answer ≡ refused number place) ⊎ ((values : List ℕ) × (answer ≡ done values) × FirstOf answers number place) → ⊥
    go later (inl e) =
        let never : done all.0.0 ≡ refused number place = sym all.0.1 ∙ e in
        let z : ◌≡◌ {A = ℕ} 0 1 = cc in
        absurd (omega arith)
    go later (inr found) = later found.2

-- What holds of the refusals of each of the answers.
unfoldable pub AnswersAs : (P : ℕ → ℕ → Type 0) (answers : List Answer) → Type 0
AnswersAs P [] = Unit {0}
AnswersAs P (answer ∷ answers) = RefusedAs P answer × AnswersAs P answers

pub passing-as : {B : Type 0} (P : ℕ → ℕ → Type 0) (answers : List Answer) (value : B) → AnswersAs P answers
    → RefusedAs P (passing answers value)
unfolding passing AnswersAs
passing-as P [] value holds = tt
passing-as P (answer ∷ answers) value holds =
    then-as P answer (λ _. passing answers value) holds.0 (λ _ _. passing-as P answers value holds.1)

module _ {A B : Type 0} (program : Program A) (value : List ℕ → A → B) (input : List ℕ) where
  -- Behind the line.
  abbrev behind_line : (numbers : List ℕ) (p : ℕ) → Outcome B
  behind_line numbers p =
      and_then (program.read numbers (drop p input)) (λ thing. passing (program.answers numbers thing) (value numbers thing))

  pub outcome-refused : (number place : ℕ) → outcome_of program value input ≡ refused number place → FirstRefusal program input number place
  unfolding outcome_of
  outcome-refused number place e = go (on-scan-refused 1 (scan_form input program.form 0) behind_line number place e)
    where
      text : (numbers : List ℕ) (p : ℕ) → scan_form input program.form 0 ≡ reads numbers p
          → (program.read numbers (drop p input) ≡ refused number place)
          ⊎ ((thing : A) × (program.read numbers (drop p input) ≡ done thing)
          × (passing (program.answers numbers thing) (value numbers thing) ≡ refused number place))
          → FirstRefusal program input number place
      text numbers p line (inl read) = in_text line read
      text numbers p line (inr found) =
          in_work (record { behind = p; line = line; read = found.1 })
          (passing-refused (program.answers numbers found.0) (value numbers found.0) number place found.2)

      go : ((scan_form input program.form 0 ≡ departs place) × (number ≡ 1))
          ⊎ ((numbers : List ℕ) × (p : ℕ) × (scan_form input program.form 0 ≡ reads numbers p)
          × (behind_line numbers p ≡ refused number place))
          → FirstRefusal program input number place
      go (inl departed) = rw departed.1 (in_line departed.0)
      go (inr found) =
          text found.0 found.1 found.2 (refused-then (program.read found.0 (drop found.1 input)) _ number place found.3)

  -- What stands behind a value.
  pub record Stands (result : B) : Type 0 where
    pub numbers : List ℕ
    pub thing : A
    pub asked : Asked program input numbers thing
    pub passed : AllDone (program.answers numbers thing)
    pub value_is : value numbers thing ≡ result

  pub outcome-done : (result : B) → outcome_of program value input ≡ done result → Stands result
  unfolding outcome_of
  outcome-done result e =
      let (numbers, p, line, after) = on-scan-done 1 (scan_form input program.form 0) behind_line result e in
      let (thing, read, last) = done-then (program.read numbers (drop p input)) _ result after in
      let all = passing-done (program.answers numbers thing) (value numbers thing) result last in
      record {
        numbers = numbers;
        thing = thing;
        asked = record { behind = p; line = line; read = read };
        passed = all.0;
        value_is = all.1;
      }

  -- What holds of the refusals.
  pub outcome-as : (P : ℕ → ℕ → Type 0) → ((place : ℕ) → place < span 4 program.form → P 1 place)
      → ((numbers text : List ℕ) → RefusedAs P (program.read numbers text))
      → ((numbers : List ℕ) (thing : A) → Asked program input numbers thing → AnswersAs P (program.answers numbers thing))
      → RefusedAs P (outcome_of program value input)
  unfolding outcome_of
  outcome-as P in_front in_read in_turn =
      on-scan-as P 1 (0 + span 4 program.form) (scan_form input program.form 0) behind_line (λ place below. in_front place (omega arith))
      (form-within program.form input 0)
      (λ numbers p line _.
      then-as P (program.read numbers (drop p input)) _ (in_read numbers (drop p input))
      (λ thing read.
      passing-as P (program.answers numbers thing) (value numbers thing)
      (in_turn numbers thing (record { behind = p; line = line; read = read }))))

  -- The promise: no refusal for want of room, and the program's own statement of what is printed of a value.
  pub answered : (text_of : B → List ℕ) (Holds : List ℕ → A → List ℕ → Type 0)
      → RefusedAs (λ number _. (number ≢ 8) × (number ≢ 12)) (outcome_of program value input)
      → ((numbers : List ℕ) (thing : A) → Asked program input numbers thing → AllDone (program.answers numbers thing)
      → Holds numbers thing (text_of (value numbers thing)))
      → Answered program Holds input (printed text_of (outcome_of program value input))
  unfolding printed
  answered text_of Holds roomy holds = go (outcome_of program value input) refl roomy
    where
      go : (outcome : Outcome B) → outcome_of program value input ≡ outcome → RefusedAs (λ number _. (number ≢ 8) × (number ≢ 12)) outcome
          → Answered program Holds input (printed text_of outcome)
      go (refused number place) e fits =
          inr (record { number = number; place = place; first = outcome-refused number place e; text = refl; roomy = fits })
      go (done result) e fits =
          let s = outcome-done result e in
          inl (record {
            numbers = s.numbers;
            thing = s.thing;
            asked = s.asked;
            unrefused = none-refused (program.answers s.numbers s.thing) s.passed;
            holds = subst (λ r. Holds s.numbers s.thing (text_of r)) s.value_is (holds s.numbers s.thing s.asked s.passed);
          })

-- A program with no work behind its reader: what is read stands.
pub read-alone : {A : Type 0} (outcome : Outcome A) → and_then outcome (λ thing. passing [] thing) ≡ outcome
unfolding and_then passing
read-alone (refused number place) = refl
read-alone (done thing) = refl

-- With no line in front either, its outcome is the reader's.
pub outcome-read : {A : Type 0} (read : List ℕ → List ℕ → Outcome A) (input : List ℕ)
    → outcome_of (record { form = []; read = read; answers = λ _ _. [] }) (λ _ thing. thing) input ≡ read [] input
unfolding outcome_of scan_form on_scan
outcome-read read input = read-alone (read [] input)

-- The reader looks at so many bytes at most.
abbrev pub LooksAt : {A : Type 0} (read : List ℕ → List ℕ → Outcome A) (size : ℕ) → Type 0
LooksAt read size = (n : ℕ) (numbers text : List ℕ) → size ≤ n → read numbers (take n text) ≡ read numbers text

-- An input of any length is answered from its first bytes: those of the line, and those that the reader looks at.
module _ {A : Type 0} (program : Program A) (size n : ℕ) (input : List ℕ) (looks : LooksAt program.read size)
    (enough : span 4 program.form + size ≤ n) where
  read-front : (numbers : List ℕ) (p : ℕ) → p ≤ span 4 program.form → program.read numbers (drop p (take n input)) ≡ program.read numbers (drop p input)
  read-front numbers p h = ap (program.read numbers) (drop-take p n input) ∙ looks (n - p) numbers (drop p input) (omega arith)

  pub outcome-reach : {B : Type 0} (value : List ℕ → A → B) → outcome_of program value (take n input) ≡ outcome_of program value input
  unfolding outcome_of
  outcome-reach value =
      rw (form-reach n input program.form 0 (omega arith))
      (on-scan-same 1 (0 + span 4 program.form) (scan_form input program.form 0) _ _ (form-within program.form input 0)
      (λ numbers p line below.
      ap (λ outcome. and_then outcome (λ thing. passing (program.answers numbers thing) (value numbers thing))) (read-front numbers p (omega arith))))

  -- Of a text that is not a function of the input too.
  line-front : {numbers : List ℕ} {p : ℕ} → scan_form (take n input) program.form 0 ≡ reads numbers p
      → (scan_form input program.form 0 ≡ reads numbers p) × (p ≤ span 4 program.form)
  line-front {numbers} {p} e =
      let whole : scan_form input program.form 0 ≡ reads numbers p = sym (form-reach n input program.form 0 (omega arith)) ∙ e in
      let within : p ≤ 0 + span 4 program.form = subst (Within (0 + span 4 program.form)) whole (form-within program.form input 0) in
      (whole, omega arith)

  asked-front : {numbers : List ℕ} {thing : A} → Asked program (take n input) numbers thing → Asked program input numbers thing
  asked-front {numbers} asked =
      let line = line-front asked.line in
      record { behind = asked.behind; line = line.0; read = sym (read-front numbers asked.behind line.1) ∙ asked.read }

  first-front : {number place : ℕ} → FirstRefusal program (take n input) number place → FirstRefusal program input number place
  first-front (in_line e) = in_line (sym (form-reach n input program.form 0 (omega arith)) ∙ e)
  first-front (in_text {numbers} {p} line read) =
      let whole = line-front line in
      in_text whole.0 (sym (read-front numbers p whole.1) ∙ read)
  first-front (in_work asked first) = in_work (asked-front asked) first

  pub answered-front : (Holds : List ℕ → A → List ℕ → Type 0) (output : List ℕ) → Answered program Holds (take n input) output
      → Answered program Holds input output
  answered-front Holds output (inl given) =
      inl (record { numbers = given.numbers; thing = given.thing; asked = asked-front given.asked; unrefused = given.unrefused; holds = given.holds })
  answered-front Holds output (inr told) =
      inr (record { number = told.number; place = told.place; first = first-front told.first; text = told.text; roomy = told.roomy })
