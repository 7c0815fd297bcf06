-- What is promised of two reports (document 02, #108) beyond the answer, in words of their own, for every text. The statements are types;
-- the crate `text_theory` proves them. Assumes nothing.
use Rattle.std.specs.Prelude.{ℕ, ◌+◌, ◌≤◌, ◌<◌, List, ◌⊎◌, ◌↔◌, ◌≡◌, length}
use Rattle.definitions.specs.Outcome.{refused, done}
use Rattle.definitions.specs.Promised.{AllAnswered}
use Rattle.definitions.specs.Reports.{Report, report_text, read_report, ReportFits}
use Rattle.definitions.specs.Stands.{Which, first, second, standing, text_of_which, stands_input, Two, stander, stands_text, stands_of}

-- The other of two texts.
unfoldable pub turned : (chosen : Which) → Which
turned first = second
turned second = first

-- Serial b comes after serial a: so many steps on, where 0 follows 4,294,967,295.
abbrev pub After : (a b : ℕ) → Type 0
After a b = (steps : ℕ) × (1 ≤ steps) × (steps ≤ 2147483647) × ((a + steps ≡ b) ⊎ (a + steps ≡ b + 4294967296))

-- Serials of which neither is ahead, and which are not equal: "serials that differ by 2,147,483,648".
abbrev pub HalfApart : (a b : ℕ) → Type 0
HalfApart a b = (a + 2147483648 ≡ b) ⊎ (b + 2147483648 ≡ a)

-- One report and two.
pub record StandingPromise : Type 0 where
  -- A text is read as a report exactly if it is the text of that report, which fits; every other text is refused with 19 at 0.
  pub reads : (text : List ℕ) (report : Report)
      → (read_report text ≡ done report) ↔ (ReportFits report × (report_text report ≡ text))
  pub nineteen : (text : List ℕ) (number place : ℕ) → read_report text ≡ refused number place → (number ≡ 19) × (place ≡ 0)
  -- Turned round, the other one stands where the bytes differ, and a refusal is the same.
  pub turned_round : (one other : List ℕ) (chosen : Which) → (one ≡ other → ⊥)
      → standing one other ≡ done chosen → standing other one ≡ done (turned chosen)
  pub refused_round : (one other : List ℕ) (number place : ℕ)
      → standing one other ≡ refused number place → standing other one ≡ refused number place
  -- "With equal serials and equal bytes the first stands."
  pub same : (text : List ℕ) (report : Report) → read_report text ≡ done report → standing text text ≡ done first
  -- Of two reports of one relay the second stands exactly if its serial comes after the first's, and the first exactly if its own comes
  -- after the second's or the bytes are the same; 20 exactly for two relays.
  pub second_stands : (one other : List ℕ) (a b : Report) → read_report one ≡ done a → read_report other ≡ done b → a.relay ≡ b.relay
      → (standing one other ≡ done second) ↔ After a.serial b.serial
  pub first_stands : (one other : List ℕ) (a b : Report) → read_report one ≡ done a → read_report other ≡ done b → a.relay ≡ b.relay
      → (standing one other ≡ done first) ↔ (After b.serial a.serial ⊎ (one ≡ other))
  pub twenty : (one other : List ℕ) (a b : Report) → read_report one ≡ done a → read_report other ≡ done b
      → (standing one other ≡ refused 20 0) ↔ (a.relay ≡ b.relay → ⊥)
  -- 21 exactly for "serials that differ by 2,147,483,648 or equal serials on different bytes".
  pub twenty_one : (one other : List ℕ) (a b : Report) → read_report one ≡ done a → read_report other ≡ done b → a.relay ≡ b.relay
      → (standing one other ≡ refused 21 0)
      ↔ (HalfApart a.serial b.serial ⊎ ((a.serial ≡ b.serial) × (one ≡ other → ⊥)))

-- The program's text is the report of the two that stands.
pub record StandingPrinted (line : List ℕ) (two : Two) (text : List ℕ) : Type 0 where
  pub chosen : Which
  pub stands : standing two.one two.other ≡ done chosen
  pub printed : text ≡ text_of_which two.one two.other chosen

pub record StandsPromise : Type 0 where
  -- Every input gets such a text, or the line of the first refusal met.
  pub answered : AllAnswered stander StandingPrinted stands_text
  -- What is written for two texts is about exactly these two, whatever stands in either.
  pub two : (one other : List ℕ) → length one < 100000000 → stands_text (stands_input one other) ≡ stands_of one other
