-- What the answer of reading a sheet back stands for, and what is said of a text of the form. Assumes nothing.
use Rattle.std.specs.Prelude.{ℕ, Bool, List, ◌≡◌, Result, Ok, Err}
use Rattle.definitions.specs.Outcome.{done, Answer, refuse_if, and_then}
use Rattle.definitions.specs.Lists.{outside}
use Rattle.definitions.specs.SheetForm.{read_sheet}
use Rattle.definitions.specs.SheetTest.{sheet_holds, yes_or_no}
use Rattle.network.specs.Answers.{refusal_of}
use Rattle.network.specs.Tables.{of_table}
use Rattle.network.specs.declared.Table.{Table}
use Rattle.network.specs.declared.refusal.Refusal.{Refusal}
use Rattle.verify.specs.Summary.{summary_of}
use Rattle.verify.specs.Gives.{form_says}
use Rattle.verify.specs.declared.form.Form.{Form}

-- 1 for yes, 0 for no, or a refusal.
abbrev pub sheet_outcome : Result Bool Refusal → Answer
sheet_outcome (Ok holds) = done (yes_or_no holds)
sheet_outcome (Err refusal) = refusal_of refusal

-- What is said of a sheet's text once the table check is passed.
unfoldable pub after_check : (n : ℕ) (lows highs states text : List ℕ) → Answer
after_check n lows highs states text =
    and_then (read_sheet text) λ sheet.
    refuse_if (outside 1 32 sheet.k) 15 0
    (done (yes_or_no (sheet_holds n lows highs states sheet)))

-- The same, for a text of the form that says this.
abbrev pub Judged : (table : Table) (text : List ℕ) (form : Form) (answer : Answer) → Type 0
Judged table text form answer = summary_of text ≡ form_says form → answer ≡ of_table after_check table text
