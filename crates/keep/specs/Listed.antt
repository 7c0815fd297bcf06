-- What stands behind a list of links: the line in front, the network that was read, and Cut's marks.
-- Assumes nothing.
use Rattle.std.specs.Prelude.{ℕ, ◌≤◌, List, [], ◌∷◌, ◌≡◌, refl, get_or}
use Rattle.std.proofs.Common.{sym, ◌∙◌, arith}
use Rattle.definitions.specs.Outcome.{done}
use Rattle.definitions.specs.Lists.{outside}
use Rattle.definitions.specs.Network.{Accepted}
use Rattle.definitions.specs.Forests.{marks_of}
use Rattle.definitions.specs.Text.{Network}
use Rattle.definitions.specs.Program.{room}
use Rattle.definitions.specs.Promised.{Asked}
use Rattle.definitions.specs.Keep.{keep_form, Lease, lease_for, lease_answers, keeper, leased}
use Rattle.definitions.specs.Form.{Fits}
use Rattle.text_theory.specs.Forms.{no_zero, good_word, well_formed_behind, well_formed, ends_in_number, Line}
use Rattle.text_theory.specs.NetworkLines.{read-line}
use Rattle.text_theory.specs.Programs.{AllDone, outcome-done}
use Rattle.program.specs.CutPassed.{cut-passed}
use Rattle.program.specs.ReadStage.{asked-accepted}

pub keep-line : Line keep_form
unfolding well_formed well_formed_behind good_word no_zero outside ends_in_number keep_form
keep-line = (refl, refl)

keep-number : (wish : List ℕ) → Fits keep_form wish → wish ≡ get_or wish 0 0 ∷ []
unfolding keep_form
keep-number [] fits = absurd fits
keep-number (k ∷ []) fits = refl
keep-number (k ∷ x ∷ wish) fits = absurd fits.1

-- What was asked: k is the number of the line in front, and the network is an accepted one.
pub line_read : (input line : List ℕ) (network : Network) → Asked keeper input line network → line ≡ get_or line 0 0 ∷ []
line_read input line network asked =
    keep-number line (read-line keep_form input 0 line asked.behind keep-line (omega arith) asked.line).0

-- The list of a network cut to k.
abbrev pub lease_of : ℕ → Network → Lease
lease_of k network =
    record {
      k = k;
      lows = network.lows;
      highs = network.highs;
      states = network.states;
      marks = marks_of network.relays network.lows network.highs network.states k;
    }

-- Cut answered, so k is in range.
pub in-range : (line : List ℕ) (network : Network) → AllDone (lease_answers line network) → (1 ≤ get_or line 0 0) × (get_or line 0 0 ≤ 32)
unfolding AllDone lease_answers
in-range line network passed =
    let cut = cut-passed network.relays network.lows network.highs network.states (get_or line 0 0) (room 3000) passed.0.0 passed.0.1 in
    (cut.some, cut.few)

pub lease-is : (k : ℕ) (network : Network) → lease_for k network ≡ lease_of k network
unfolding lease_for
lease-is k network = refl

-- A list that is printed.
pub record ListedLinks (lease : Lease) : Type 0 where
  pub k : ℕ
  pub network : Network
  pub accepted : Accepted network.relays network.lows network.highs network.states
  pub few : k ≤ 32
  pub lease_is : lease ≡ lease_of k network

pub listed-links : (input : List ℕ) (lease : Lease) → leased input ≡ done lease → ListedLinks lease
unfolding leased
listed-links input lease e =
    let found = outcome-done keeper _ input lease e in
    let k = get_or found.numbers 0 0 in
    record {
      k = k;
      network = found.thing;
      accepted = asked-accepted keep_form lease_answers input found.numbers found.thing found.asked;
      few = (in-range found.numbers found.thing found.passed).1;
      lease_is = sym found.value_is ∙ lease-is k found.thing;
    }
