-- A sheet that holds for an accepted network, whoever made it: its text is read back, and the answer is yes.
-- Assumes nothing.
use Rattle.std.specs.Prelude.{ℕ, suc, ◌-◌, ◌≤◌, ◌<◌, true, List, [], ◌∷◌, ◌≡◌, eqb, length, get_or}
use Rattle.std.proofs.Common.{sym, ◌∙◌, arith}
use Rattle.definitions.specs.Outcome.{done}
use Rattle.definitions.specs.Lists.{has, AllBelow}
use Rattle.definitions.specs.Network.{Accepted}
use Rattle.definitions.specs.Forests.{marks_of}
use Rattle.definitions.specs.Over.{OverFrom, OverHolds}
use Rattle.definitions.specs.Plan.{Sheet, sheet_text}
use Rattle.definitions.specs.DisjointRoutes.{InService}
use Rattle.definitions.specs.SheetHolds.{SheetHolds}
use Rattle.definitions.specs.SheetTest.{sheet_answer}
use Rattle.definitions.specs.RefusalFourteen.{SheetFits, LinesFit}
use Rattle.lists.specs.Cases.{has_here, has_there}
use Rattle.lists.specs.Members.{has-at}
use Rattle.lists.specs.Counting.{count-length}
use Rattle.theory.specs.Accepted.{accepted}
use Rattle.theory.proofs.Columns.{length-marks}
use Rattle.text_theory.specs.SheetRoundTrip.{sheet-read}
use Rattle.verify.specs.Exact.{said-exactly}

-- A list whose members are all below the bound is below it entry by entry.
members-below : (bound : ℕ) (l : List ℕ) → ((x : ℕ) → has l x ≡ true → x < bound) → AllBelow bound l
members-below bound [] below = tt
members-below bound (x ∷ l) below =
    (below x (has_here x l), members-below bound l (λ y member. below y (has_there x l y member)))

-- A route has one link less than relays, and the indices of its links are below the bound: those of a table that is no longer are.
record LinksFit (bound : ℕ) (route over : List ℕ) : Type 0 where
  many : length route ≡ suc (length over)
  small : AllBelow bound over

over-fits : (lows highs : List ℕ) (bound : ℕ) → length lows ≤ bound → (a : ℕ) (rest over : List ℕ) → OverFrom lows highs a rest over
    → LinksFit bound (a ∷ rest) over
over-fits lows highs bound short a [] [] links = record { many = omega arith; small = tt }
over-fits lows highs bound short a [] (l ∷ over) links = absurd links
over-fits lows highs bound short a (b ∷ rest) [] links = absurd links
over-fits lows highs bound short a (b ∷ rest) (l ∷ over) links =
    let behind = over-fits lows highs bound short b rest over links.1 in
    record { many = omega (arith, behind.many); small = (omega (arith, links.0.0), behind.small) }

links-fit : (lows highs : List ℕ) (bound : ℕ) → length lows ≤ bound → (route over : List ℕ) → OverHolds lows highs route over
    → LinksFit bound route over
links-fit lows highs bound short [] over links = absurd links
links-fit lows highs bound short (a ∷ rest) over links = over-fits lows highs bound short a rest over links

-- The two lines of a route can be written and read; and where those of each route can, those of all can.
abbrev LineFits : (route over : List ℕ) → Type 0
LineFits route over = (2 ≤ length route) × (1 ≤ length over) × AllBelow 10000 route × AllBelow 10000 over

lines_fit : (routes overs : List (List ℕ)) → length routes ≡ length overs
    → ((i : ℕ) → i < length routes → LineFits (get_or routes i []) (get_or overs i [])) → LinesFit routes overs
lines_fit [] [] even fits = tt
lines_fit [] (over ∷ overs) even fits = absurd (omega arith)
lines_fit (route ∷ routes) [] even fits = absurd (omega arith)
lines_fit (route ∷ routes) (over ∷ overs) even fits =
    let first = fits 0 (omega arith) in
    (first.0, first.1, first.2, first.3, lines_fit routes overs (omega arith) (λ i less. fits (suc i) (omega arith)))

module _ (n : ℕ) (lows highs states : List ℕ) (ok : Accepted n lows highs states) (sheet : Sheet)
    (holds : SheetHolds n lows highs states (InService lows highs states) sheet) where
  line-fits : (i : ℕ) → i < length sheet.routes → LineFits (get_or sheet.routes i []) (get_or sheet.overs i [])
  line-fits i less =
      let proper = accepted n lows highs states ok in
      let route = get_or sheet.routes i [] in
      let over = get_or sheet.overs i [] in
      let good = (holds.disjoint.each i less).runs in
      let links = links-fit lows highs 10000 (omega (arith, proper.short)) route over (holds.over i (omega (arith, holds.many))) in
      let relays = members-below 10000 route (λ r member. omega (arith, proper.few, (good.through r member).0)) in
      (good.long, omega (arith, links.many), relays, links.small)

  -- All its numbers have at most four digits.
  sheet-fits : SheetFits sheet
  sheet-fits =
      let proper = accepted n lows highs states ok in
      let route = get_or sheet.routes 0 [] in
      let first = (holds.disjoint.each 0 (omega (arith, holds.some, holds.many))).runs in
      let start : get_or route 0 0 < n = (first.through _ (has-at route 0 (omega (arith, first.long)))).0 in
      let last = length route - 1 in
      let end : get_or route last 0 < n = (first.through _ (has-at route last (omega (arith, first.long)))).0 in
      record {
        small_from = omega (arith, start, first.starts, proper.few);
        small_to = omega (arith, end, first.ends, proper.few);
        small_k = omega (arith, holds.few);
        small_kept =
            omega (
              arith,
              holds.kept,
              count-length (eqb 1) (marks_of n lows highs states sheet.k),
              length-marks n lows highs states sheet.k,
              proper.short,
            );
        lines =
            lines_fit sheet.routes sheet.overs (holds.many ∙ sym holds.many_overs)
            line-fits;
      }

  -- Its text is answered with yes.
  pub written-yes : sheet_answer n lows highs states (sheet_text sheet) ≡ done (1 ∷ [])
  written-yes =
      (said-exactly n lows highs states (sheet_text sheet)).yes.1
      (record {
        accepted = ok;
        sheet = sheet;
        read = sheet-read sheet sheet-fits;
        some = holds.some;
        few = holds.few;
        so = holds;
      })
