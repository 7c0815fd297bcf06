-- What the operation that reads a sheet back has passed where it answers, and that it says yes exactly where the sheet holds.
-- Assumes nothing.
use Rattle.std.specs.Prelude.{ℕ, ◌≤◌, Bool, ◌⊎◌, ◌≡◌, refl, get_or}
use Rattle.std.proofs.Math.Bool.{true, false}
use mathlib.Core.List.{List, [], ◌∷◌}
use Rattle.std.proofs.Math.Logic.{inl, inr}
use Rattle.std.proofs.Math.Path.{sym, ap}
use Rattle.std.proofs.Common.{◌∙◌, arith}
use Rattle.definitions.specs.Outcome.{done}
use Rattle.definitions.specs.Lists.{outside}
use Rattle.definitions.specs.Network.{table_check, Accepted}
use Rattle.definitions.specs.Plan.{Sheet}
use Rattle.definitions.specs.DisjointRoutes.{InService}
use Rattle.definitions.specs.SheetHolds.{SheetHolds}
use Rattle.definitions.specs.SheetForm.{read_sheet}
use Rattle.definitions.specs.SheetTest.{sheet_holds, yes_or_no, sheet_answer}
use Rattle.definitions.specs.VerifyPromise.{ReadBack, SaidExactly}
use Rattle.lists.specs.Outcomes.{not-refused, refuse-not, then-done}
use Rattle.lists.specs.SameOutcomes.{done-same, done-then}
use Rattle.lists.specs.Ranges.{inside, inside-range}
use Rattle.lists.specs.Searches.{clash}
use Rattle.theory.specs.Accepted.{check-accepts}
use Rattle.theory.specs.SheetExact.{holds-exactly}

-- Yes and no are told apart.
said-yes : (b : Bool) → 1 ∷ [] ≡ yes_or_no b → b ≡ true
unfolding yes_or_no
said-yes true e = refl
said-yes false e = let z : ◌≡◌ {A = ℕ} 1 0 = ap (λ (l : List ℕ). get_or l 0 0) e in absurd (omega arith)

said-no : (b : Bool) → 0 ∷ [] ≡ yes_or_no b → b ≡ false
unfolding yes_or_no
said-no true e = let z : ◌≡◌ {A = ℕ} 0 1 = ap (λ (l : List ℕ). get_or l 0 0) e in absurd (omega arith)
said-no false e = refl

module _ (n : ℕ) (lows highs states text : List ℕ) where
  -- An answer that is given has a sheet behind it, and is what the test says of that sheet;
  answered : (values : List ℕ) → sheet_answer n lows highs states text ≡ done values
      → ReadBack n lows highs states text (λ sheet. values ≡ yes_or_no (sheet_holds n lows highs states sheet))
  unfolding sheet_answer
  answered values e =
      let (first, checked, after) = done-then (table_check n lows highs states) _ values e in
      let (sheet, read, last) = done-then (read_sheet text) _ values after in
      let fifteen = not-refused (outside 1 32 sheet.k) 15 0 (done (yes_or_no (sheet_holds n lows highs states sheet))) values last in
      let range = inside-range 1 32 sheet.k fifteen.0 in
      record {
        accepted = check-accepts n lows highs states first checked;
        sheet = sheet;
        read = read;
        some = range.0;
        few = range.1;
        so = sym (done-same (yes_or_no (sheet_holds n lows highs states sheet)) values fifteen.1);
      }

  -- so it is yes or no;
  pub yes_or_no-exact : (values : List ℕ) → sheet_answer n lows highs states text ≡ done values → (values ≡ 1 ∷ []) ⊎ (values ≡ 0 ∷ [])
  unfolding yes_or_no
  yes_or_no-exact values e = let back = answered values e in go (sheet_holds n lows highs states back.sheet) back.so
    where
      go : (b : Bool) → values ≡ yes_or_no b → (values ≡ 1 ∷ []) ⊎ (values ≡ 0 ∷ [])
      go true same = inl same
      go false same = inr same

  -- and where there is such a sheet, that is the answer.
  answer-is : (claim : Sheet → Type 0) (back : ReadBack n lows highs states text claim)
      → sheet_answer n lows highs states text ≡ done (yes_or_no (sheet_holds n lows highs states back.sheet))
  unfolding sheet_answer
  answer-is claim back =
      then-done (table_check n lows highs states) _ [] back.accepted
      ∙ then-done (read_sheet text) _ back.sheet back.read
      ∙ refuse-not (outside 1 32 back.sheet.k) 15 0 _ (inside 1 32 back.sheet.k back.some back.few)

  -- The sheet that was read, with what follows from the claim about it.
  claimed : (claim other : Sheet → Type 0)
      → ((sheet : Sheet) → Accepted n lows highs states → 1 ≤ sheet.k → sheet.k ≤ 32 → claim sheet → other sheet)
      → ReadBack n lows highs states text claim → ReadBack n lows highs states text other
  claimed claim other follows back =
      record {
        accepted = back.accepted;
        sheet = back.sheet;
        read = back.read;
        some = back.some;
        few = back.few;
        so = follows back.sheet back.accepted back.some back.few back.so;
      }

  -- Yes is said exactly where there is a sheet that holds, and no exactly where there is one that does not.
  pub said-exactly : SaidExactly n lows highs states text
  unfolding yes_or_no
  said-exactly =
      record {
        yes = (
          λ e.
              claimed _ _
              (λ sheet ok some few so.
              (holds-exactly n lows highs states ok sheet some few).0 (said-yes (sheet_holds n lows highs states sheet) so))
              (answered (1 ∷ []) e),
          λ back.
              answer-is _ back
              ∙ said true back.sheet
              ((holds-exactly n lows highs states back.accepted back.sheet back.some back.few).1 back.so),
        );
        no = (
          λ e.
              claimed _ _
              (λ sheet ok some few so holds.
              clash ((holds-exactly n lows highs states ok sheet some few).1 holds) (said-no (sheet_holds n lows highs states sheet) so))
              (answered (0 ∷ []) e),
          λ back.
              answer-is _ back
              ∙ said false back.sheet
              (denied back.sheet (holds-exactly n lows highs states back.accepted back.sheet back.some back.few).0 back.so),
        );
      }
    where
      said : (b : Bool) (sheet : Sheet) → sheet_holds n lows highs states sheet ≡ b
          → done (yes_or_no (sheet_holds n lows highs states sheet)) ≡ done (yes_or_no b)
      said b sheet e = ap (λ (c : Bool). done (yes_or_no c)) e

      denied : (sheet : Sheet)
          → (sheet_holds n lows highs states sheet ≡ true → SheetHolds n lows highs states (InService lows highs states) sheet)
          → (SheetHolds n lows highs states (InService lows highs states) sheet → ⊥) → sheet_holds n lows highs states sheet ≡ false
      denied sheet right never = go (sheet_holds n lows highs states sheet) refl
        where
          go : (b : Bool) → sheet_holds n lows highs states sheet ≡ b → b ≡ false
          go true e = absurd (never (right e))
          go false e = refl
