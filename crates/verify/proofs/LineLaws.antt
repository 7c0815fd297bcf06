-- The line that is printed of an answer, and the whole output by the line in front. Assumes nothing.
use Prim.Native.Nat.{ℕ, ◌-◌, ◌≤◌}
use mathlib.Core.Bool.{Bool, true, false}
use mathlib.Core.List.{List}
use mathlib.Core.Path.{◌≡◌, sym, ap, subst}
use native.Mathlib.Omega.{arith}
use lib.ListN.{length, take, drop}
use Rattle.definitions.specs.Outcome.{done, Answer}
use Rattle.definitions.specs.Lists.{overwrite}
use Rattle.definitions.specs.Form.{bytes}
use Rattle.definitions.specs.Program.{printed}
use Rattle.definitions.specs.SheetTest.{yes_or_no}
use Rattle.definitions.specs.Verify.{verified, verdict_text, verify_text}
use Rattle.text.specs.Put.{Put}
use Rattle.program.specs.Border.{Border, border-rest}
use Rattle.program.specs.ReadStage.{whole-put}
use Rattle.program.specs.RefusedLine.{LinePut}
use Rattle.verify.specs.Line.{read_back_from, read_back_at}

-- The line of an answer is the line of the outcome that it is.
pub line_of : {before after : List ℕ} {next : ℕ} (one other : Answer) → one ≡ other → LinePut before (printed verdict_text other) after next
    → LinePut before (printed verdict_text one) after next
line_of {before} {after} {next} one other same line =
    subst (λ (answer : Answer). LinePut before (printed verdict_text answer) after next) (sym same) line

-- The two words.
pub holds-line : {before after : List ℕ} {next : ℕ} {holds : Bool} → holds ≡ true → Put before 0 (bytes "(holds)\n") after next
    → LinePut before (printed verdict_text (done (yes_or_no holds))) after next
unfolding printed verdict_text yes_or_no
holds-line told put = rw told (record { put = put; fits = omega arith })

pub fails-line : {before after : List ℕ} {next : ℕ} {holds : Bool} → holds ≡ false → Put before 0 (bytes "(fails)\n") after next
    → LinePut before (printed verdict_text (done (yes_or_no holds))) after next
unfolding printed verdict_text yes_or_no
fails-line told put = rw told (record { put = put; fits = omega arith })

-- The two texts as they are lent.
pub both-line : {before after : List ℕ} {next : ℕ} (text : List ℕ) (size at : ℕ) → Border size text at
    → LinePut before (printed verdict_text (read_back_from (take at text) (take (length text - at) (drop at text)))) after next
    → LinePut before (printed verdict_text (read_back_at size text)) after next
both-line text size at border line = rw (← border.front, ← border-rest size text at border) line

-- The line of what the program has for the input is the whole output.
pub whole-line : (input before after : List ℕ) (next : ℕ) (one : Answer) → verified input ≡ one → 52 ≤ length before
    → LinePut before (printed verdict_text one) after next
    → (next ≡ length (verify_text input)) × (after ≡ overwrite (verify_text input) before)
unfolding verify_text
whole-line input before after next one same room line =
    let told = ap (printed verdict_text) same in
    whole-put (verify_text input) (printed verdict_text one) before after next told (omega (arith, line.fits, ap length told)) line.put
