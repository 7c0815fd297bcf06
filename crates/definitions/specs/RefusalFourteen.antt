-- Document 02, #103: what is refused "with 14 a text that departs from the sheet's form, at that byte", as one statement about the reader
-- of sheets. The statement is a type; the crate `text_theory` proves it. Assumes nothing.
use Rattle.std.specs.Prelude.{ℕ, ◌≤◌, ◌<◌, List, [], ◌∷◌, ◌↔◌, ◌≡◌, length}
use Rattle.definitions.specs.Outcome.{refused}
use Rattle.definitions.specs.Lists.{AllBelow}
use Rattle.definitions.specs.Departs.{DepartsFrom}
use Rattle.definitions.specs.Plan.{Sheet, sheet_text}
use Rattle.definitions.specs.SheetForm.{read_sheet}

-- Lines of the form: "any number of `(route ..)` lines of two or more relays, each with its `(over ..)` line of one or more indices",
-- and every number has at most four digits.
abbrev pub LinesFit : (routes overs : List (List ℕ)) → Type 0
LinesFit [] [] = Unit {0}
LinesFit [] (over ∷ overs) = ⊥
LinesFit (route ∷ routes) [] = ⊥
LinesFit (route ∷ routes) (over ∷ overs) =
    (2 ≤ length route) × (1 ≤ length over) × AllBelow 10000 route × AllBelow 10000 over × LinesFit routes overs

-- A sheet whose text is of the form: the lines of its routes are, and its other numbers have at most four digits.
pub record SheetFits (sheet : Sheet) : Type 0 where
  pub small_from : sheet.from < 10000
  pub small_to : sheet.to < 10000
  pub small_k : sheet.k < 10000
  pub small_kept : sheet.kept < 10000
  pub lines : LinesFit sheet.routes sheet.overs

-- For every text: it is refused with 14 at q exactly if it departs at q from the texts of all sheets of the form, and no other refusal is
-- given to it.
pub record RefusalFourteen : Type 0 where
  pub exactly : (text : List ℕ) (q : ℕ) → (read_sheet text ≡ refused 14 q) ↔ DepartsFrom SheetFits sheet_text text q
  pub alone : (text : List ℕ) (number place : ℕ) → read_sheet text ≡ refused number place → number ≡ 14
