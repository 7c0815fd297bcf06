-- The refusals that a program prints: numbers up to 17, places as far as Read looks. Its own lists are never too short, so neither
-- 8 nor 12 is among them. Assumes nothing.
use Rattle.std.specs.Prelude.{ℕ, ◌≤◌, false, List, [], ◌∷◌, ◌⊎◌, ◌≢◌, ◌≡◌, refl, eqb, ltb, length}
use Rattle.std.proofs.Common.{inl, inr, arith, ne_eqb, le-ltb}
use Rattle.std.proofs.lemmas.Bool.{eqb-false}
use Rattle.definitions.specs.Outcome.{Outcome, refused, done, Answer}
use Rattle.definitions.specs.Lists.{outside}
use Rattle.definitions.specs.Network.{table_check, Accepted}
use Rattle.definitions.specs.Forests.{cut_answer}
use Rattle.definitions.specs.Form.{Item, write_form}
use Rattle.definitions.specs.Text.{Network, read_network}
use Rattle.definitions.specs.Program.{outcome_of, refused_form, printed, room, own_read}
use Rattle.lists.specs.Outcomes.{refuse-not, then-done}
use Rattle.lists.specs.RefusedWithin.{RefusedAs, as-more, refuse-as}
use Rattle.theory.specs.Accepted.{accepted}
use Rattle.text_theory.specs.Spans.{span, written-span}
use Rattle.text_theory.specs.Refusals.{ReadRefusal, network-within}
use Rattle.text_theory.specs.Programs.{AnswersAs, outcome-as}
use Rattle.program.specs.ReadStage.{length-room, asked-accepted}

pub record Printable (number place : ℕ) : Type 0 where
  pub low : number ≤ 17
  pub near : place ≤ 54933
  pub not_eight : number ≢ 8
  pub not_twelve : number ≢ 12

pub printable : (number place : ℕ) → number ≤ 17 → place ≤ 54933 → eqb number 8 ≡ false → eqb number 12 ≡ false → Printable number place
printable number place low near eight twelve =
    record { low = low; near = near; not_eight = eqb-false number 8 eight; not_twelve = eqb-false number 12 twelve }

-- Cut refuses with 9.
pub cut-printable : (n : ℕ) (lows highs states : List ℕ) (k : ℕ) → Accepted n lows highs states
    → RefusedAs Printable (cut_answer n lows highs states k (room 3000))
unfolding cut_answer
cut-printable n lows highs states k good =
    let roomy : ltb (length (room 3000)) (length lows) ≡ false =
    le-ltb (length (room 3000)) (length lows) (omega (arith, length-room 3000, (accepted n lows highs states good).short)) in
    rw (then-done (table_check n lows highs states) _ [] good)
    (refuse-as Printable (outside 1 32 k) 9 0 _ (λ _. printable 9 0 (omega arith) (omega arith) refl refl)
    (λ _. rw (refuse-not (ltb (length (room 3000)) (length lows)) 12 0 _ roomy) tt))

-- Read refuses with 2 to 7 and 16.
pub read-printable : (text : List ℕ) → RefusedAs Printable (read_network text 3000 3000 1000)
read-printable text =
    as-more ReadRefusal Printable (read_network text 3000 3000 1000)
    (λ number place within. go number place within.0 within.1)
    (network-within text 3000 3000 1000 (omega arith) (omega arith) (omega arith))
  where
    go : (number place : ℕ) → (number ≤ 7) ⊎ (number ≡ 16) → place ≤ 54933 → Printable number place
    go number place (inl few) near =
        printable number place (omega arith) near (ne_eqb number 8 (λ e. omega arith)) (ne_eqb number 12 (λ e. omega arith))
    go number place (inr last) near = rw last (printable 16 place (omega arith) near refl refl)

-- A program that reads a network, of which the answers are printable for every accepted one.
pub network-printable : {B : Type 0} (form : List Item) (answers : List ℕ → Network → List Answer) (value : List ℕ → Network → B) (input : List ℕ)
    → span 4 form ≤ 54933
    → ((numbers : List ℕ) (network : Network) → Accepted network.relays network.lows network.highs network.states → AnswersAs Printable (answers numbers network))
    → RefusedAs Printable (outcome_of (record { form = form; read = own_read; answers = answers }) value input)
network-printable form answers value input short after =
    outcome-as (record { form = form; read = own_read; answers = answers }) value input Printable
    (λ place below. printable 1 place (omega arith) (omega arith) refl refl) (λ _ text. read-printable text)
    (λ numbers network asked. after numbers network (asked-accepted form answers input numbers network asked))

-- Neither 8 nor 12.
pub roomy : {B : Type 0} (outcome : Outcome B) → RefusedAs Printable outcome
    → RefusedAs (λ number _. (number ≢ 8) × (number ≢ 12)) outcome
roomy outcome fits = as-more Printable _ outcome (λ number place one. (one.not_eight, one.not_twelve)) fits

-- The line of a refusal has at most 22 bytes.
refused-length : (number place : ℕ) → Printable number place → length (write_form refused_form (number ∷ place ∷ [])) ≤ 22
unfolding span refused_form
refused-length number place given =
    omega (arith, written-span 4 refused_form (number ∷ place ∷ []) (omega (arith, given.low), (omega (arith, given.near), tt)))

-- All that is printed has room, where the text of a value has.
pub printed-fits : {A : Type 0} (text_of : A → List ℕ) (size : ℕ) (outcome : Outcome A) → 22 ≤ size → RefusedAs Printable outcome
    → ((value : A) → outcome ≡ done value → length (text_of value) ≤ size) → length (printed text_of outcome) ≤ size
unfolding printed
printed-fits text_of size (refused number place) enough given fits = omega (arith, refused-length number place given)
printed-fits text_of size (done value) enough given fits = fits value refl
