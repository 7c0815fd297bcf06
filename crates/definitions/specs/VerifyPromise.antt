-- What reading a sheet back promises (document 02, #103), as statements about the operation's answer and the program's line: yes is
-- said exactly where the sheet holds, and of every sheet that our program prints; and the line is about two texts, whatever stands in
-- either. The statements are types; the crate `verify` proves them. Assumes nothing.
use Rattle.std.specs.Prelude.{ℕ, ◌≤◌, ◌<◌, List, [], ◌∷◌, ◌↔◌, ◌⊎◌, ◌≡◌, length, drop}
use Rattle.definitions.specs.Outcome.{done}
use Rattle.definitions.specs.Network.{Accepted}
use Rattle.definitions.specs.Form.{bytes}
use Rattle.definitions.specs.Text.{Network}
use Rattle.definitions.specs.Plan.{Sheet, planner, planned, plan_text}
use Rattle.definitions.specs.DisjointRoutes.{InService}
use Rattle.definitions.specs.SheetHolds.{SheetHolds}
use Rattle.definitions.specs.Promised.{Asked, AllAnswered}
use Rattle.definitions.specs.SheetForm.{read_sheet}
use Rattle.definitions.specs.SheetTest.{sheet_answer}
use Rattle.definitions.specs.Verify.{verify_input, Filed, verifier, verify_text, verdict_of}

-- The network is an accepted one, the text has the sheet's form, its k is from 1 to 32, and of the sheet this is so.
pub record ReadBack (n : ℕ) (lows highs states text : List ℕ) (claim : Sheet → Type 0) : Type 0 where
  pub accepted : Accepted n lows highs states
  pub sheet : Sheet
  pub read : read_sheet text ≡ done sheet
  pub some : 1 ≤ sheet.k
  pub few : sheet.k ≤ 32
  pub so : claim sheet

-- "Yes is said exactly then, whoever made the sheet", and no exactly where there is a sheet that does not hold.
pub record SaidExactly (n : ℕ) (lows highs states text : List ℕ) : Type 0 where
  pub yes : (sheet_answer n lows highs states text ≡ done (1 ∷ [])) ↔ ReadBack n lows highs states text (λ sheet. SheetHolds n lows highs states (InService lows highs states) sheet)
  pub no : (sheet_answer n lows highs states text ≡ done (0 ∷ [])) ↔ ReadBack n lows highs states text (λ sheet. SheetHolds n lows highs states (InService lows highs states) sheet → ⊥)

-- "every sheet our program prints is a yes": of every input that is not refused, read back from its bytes with the network that it
-- was printed for, as an operation and by the program.
pub record PrintedYes (input : List ℕ) (network : Network) (behind : ℕ) : Type 0 where
  pub answer : sheet_answer network.relays network.lows network.highs network.states (plan_text input) ≡ done (1 ∷ [])
  pub line : verify_text (verify_input (drop behind input) (plan_text input)) ≡ bytes "(holds)\n"

-- The sheet's text has a sheet, and of the sheet and the network this is so.
abbrev pub FiledSo : (both : Filed) (claim : Type 0 → Type 0) → Type 0
FiledSo both claim =
    let w = both.network in
    ReadBack w.relays w.lows w.highs w.states both.sheet
    (λ sheet. claim (SheetHolds w.relays w.lows w.highs w.states (InService w.lows w.highs w.states) sheet))

-- The line is `(holds)` and the sheet holds, or it is `(fails)` and the sheet does not hold.
abbrev pub VerdictPrinted : (line : List ℕ) (both : Filed) (text : List ℕ) → Type 0
VerdictPrinted line both text =
    ((text ≡ bytes "(holds)\n") × FiledSo both (λ holds. holds)) ⊎ ((text ≡ bytes "(fails)\n") × FiledSo both (λ holds. holds → ⊥))

pub record VerifyPromise : Type 0 where
  pub exact : (n : ℕ) (lows highs states text : List ℕ) → SaidExactly n lows highs states text
  -- Every input gets such a line, or that of the first refusal met.
  pub answered : AllAnswered verifier VerdictPrinted verify_text
  -- The line for two texts is about exactly these two, whatever stands in either.
  pub two_texts : (network sheet : List ℕ) → length network < 100000000 → verify_text (verify_input network sheet) ≡ verdict_of network sheet
  pub printed : (input wish : List ℕ) (network : Network) (sheet : Sheet) → (asked : Asked planner input wish network)
      → planned input ≡ done sheet → PrintedYes input network asked.behind
