-- What the promise of every program says, once: every input gets a text of which the program's own statement holds, or the line of
-- the first refusal met. The text need not be a function of the input: where a choice is free, the statement leaves it open.
-- Assumes nothing.
use Rattle.std.specs.Prelude.{ℕ, ◌≤◌, List, [], ◌∷◌, ◌⊎◌, ◌≢◌, ◌≡◌, take, drop}
use Rattle.definitions.specs.Outcome.{refused, done, Answer}
use Rattle.definitions.specs.Network.{Accepted}
use Rattle.definitions.specs.Form.{departs, reads, scan_form, write_form}
use Rattle.definitions.specs.Text.{Network, read_network}
use Rattle.definitions.specs.Program.{Program, refused_form, network_text}

-- A line with these numbers, and after it a text that is read as this thing.
pub record Asked {A : Type 0} (program : Program A) (input numbers : List ℕ) (thing : A) : Type 0 where
  pub behind : ℕ
  pub line : scan_form input program.form 0 ≡ reads numbers behind
  pub read : program.read numbers (drop behind input) ≡ done thing

-- The first of the answers that is a refusal.
unfoldable pub FirstOf : (answers : List Answer) (number place : ℕ) → Type 0
FirstOf [] number place = ⊥
FirstOf (answer ∷ answers) number place =
    (answer ≡ refused number place) ⊎ ((values : List ℕ) × (answer ≡ done values) × FirstOf answers number place)

-- The first refusal met. Each case has what comes before it behind it, so no two of them hold of one input.
pub data FirstRefusal {A : Type 0} (program : Program A) (input : List ℕ) : ℕ → ℕ → Type 0 where
  in_line : {p : ℕ} → scan_form input program.form 0 ≡ departs p → FirstRefusal program input 1 p
  in_text : {numbers : List ℕ} {p number place : ℕ} → scan_form input program.form 0 ≡ reads numbers p
      → program.read numbers (drop p input) ≡ refused number place → FirstRefusal program input number place
  in_work : {numbers : List ℕ} {thing : A} {number place : ℕ} → Asked program input numbers thing
      → FirstOf (program.answers numbers thing) number place → FirstRefusal program input number place

-- No operation refuses, and the output is a text of which the statement holds, for the numbers of the line and what was read.
pub record Given {A : Type 0} (program : Program A) (Holds : List ℕ → A → List ℕ → Type 0) (input output : List ℕ) : Type 0 where
  pub numbers : List ℕ
  pub thing : A
  pub asked : Asked program input numbers thing
  pub unrefused : (number place : ℕ) → FirstOf (program.answers numbers thing) number place → ⊥
  pub holds : Holds numbers thing output

-- The output is the line of the first refusal met. A program's own lists never are too short, so it is neither 8 nor 12.
pub record Refused {A : Type 0} (program : Program A) (input output : List ℕ) : Type 0 where
  pub number : ℕ
  pub place : ℕ
  pub first : FirstRefusal program input number place
  pub text : output ≡ write_form refused_form (number ∷ place ∷ [])
  pub roomy : (number ≢ 8) × (number ≢ 12)

-- One or the other.
abbrev pub Answered : {A : Type 0} (program : Program A) (Holds : List ℕ → A → List ℕ → Type 0) (input output : List ℕ) → Type 0
Answered program Holds input output = Given program Holds input output ⊎ Refused program input output

-- The promise of a program that prints this for an input: every input is answered.
abbrev pub AllAnswered : {A : Type 0} (program : Program A) (Holds : List ℕ → A → List ℕ → Type 0) (output : List ℕ → List ℕ) → Type 0
AllAnswered program Holds output = (input : List ℕ) → Answered program Holds input (output input)

-- The promise of a program that looks at so many bytes of its input at most: every input is answered, and from these bytes alone, however
-- long it is.
pub record Promised {A : Type 0} (program : Program A) (Holds : List ℕ → A → List ℕ → Type 0) (most : ℕ) (output : List ℕ → List ℕ) : Type 0 where
  pub answered : AllAnswered program Holds output
  pub from_front : (n : ℕ) (input : List ℕ) → most ≤ n → output (take n input) ≡ output input

-- What holds of the text of a program that makes a network: it is the text of an accepted one, which Read gives back.
pub record NetworkPrinted (line : List ℕ) (network : Network) (text : List ℕ) : Type 0 where
  pub printed : text ≡ network_text network
  pub accepted : Accepted network.relays network.lows network.highs network.states
  pub read : read_network text 3000 3000 1000 ≡ done network
