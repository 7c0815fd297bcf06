-- What it means that a text departs, at a byte: from a form that is due, and from every text of a kind. Assumes nothing.
use Rattle.std.specs.Prelude.{ℕ, suc, ◌+◌, ◌-◌, ◌≤◌, ◌<◌, List, ◌++◌, ◌≡◌, length, take, drop}
use Rattle.definitions.specs.Form.{Item, write_form, Fits}

-- The bytes begin this text.
abbrev pub Begins : (bytes text : List ℕ) → Type 0
Begins bytes text = (rest : List ℕ) × (text ≡ bytes ++ rest)

-- From byte p up to, not including, byte q the text has these bytes.
abbrev pub StandsAt : (text : List ℕ) (p : ℕ) (bytes : List ℕ) (q : ℕ) → Type 0
StandsAt text p bytes q = Begins bytes (drop p text) × (q ≡ p + length bytes)

-- The text departs from the form, which is due from byte p on, at byte q. The bytes from p up to q begin the form with some
-- numbers and are not the whole of it; where q is not the end of the text, the bytes up to and with q begin it with none.
pub record DepartsAt (text : List ℕ) (items : List Item) (p q : ℕ) : Type 0 where
  pub behind : p ≤ q
  pub within : q ≤ length text
  pub begins : (values rest : List ℕ) × Fits items values × (0 < length rest)
      × (take (q - p) (drop p text) ++ rest ≡ write_form items values)
  pub breaks : q < length text → (values rest : List ℕ) → Fits items values
      → take (q + 1 - p) (drop p text) ++ rest ≡ write_form items values → ⊥

-- The text departs at byte q from every text that is written for something that fits. The bytes before q begin one of these texts; the
-- bytes up to and with q begin none of them; and where the text ends at q ("the length, if it ends early"), it is none of them.
pub record DepartsFrom {A : Type 0} (Fits : A → Type 0) (written : A → List ℕ) (text : List ℕ) (q : ℕ) : Type 0 where
  pub within : q ≤ length text
  pub one : A
  pub fits : Fits one
  pub begins : Begins (take q text) (written one)
  pub no-further : (other : A) → Fits other → q < length text → Begins (take (suc q) text) (written other) → ⊥
  pub unfinished : (other : A) → Fits other → q ≡ length text → written other ≡ text → ⊥
