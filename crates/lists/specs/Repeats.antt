-- The test for a number that stands twice, and an entry taken out of the middle to the front: the same members, and the same repeats.
-- Assumes nothing.
use Rattle.std.specs.Prelude.{ℕ, Bool, false, ◌||◌, List, [], ◌∷◌, ◌++◌, ◌≡◌, refl, eqb}
use Rattle.std.proofs.Common.{sym, ◌∙◌, ap, ap₂}
use Rattle.definitions.specs.Lists.{has, NoRepeat}
use Rattle.definitions.specs.ReportSets.{repeats}
use Rattle.lists.specs.Tests.{or-false, or-neither, or_turn, or_assoc, eqb-sym}

pub repeats-none : (list : List ℕ) → repeats list ≡ false → NoRepeat list
unfolding repeats
repeats-none [] e = tt
repeats-none (x ∷ list) e =
    let both = or-false (has list x) (repeats list) e in
    (both.0, repeats-none list both.1)

pub none-repeats : (list : List ℕ) → NoRepeat list → repeats list ≡ false
unfolding repeats
none-repeats [] once = refl
none-repeats (x ∷ list) once = or-neither (has list x) (repeats list) once.0 (none-repeats list once.1)

-- The first of three tests, moved past the second.
pub or-past : (a b c : Bool) → (a || (b || c)) ≡ (b || (a || c))
or-past a b c = or_assoc a b c ∙ ap (λ (t : Bool). t || c) (or_turn a b) ∙ sym (or_assoc b a c)

pub has-moved : (before : List ℕ) (x : ℕ) (after : List ℕ) (y : ℕ) → has (before ++ (x ∷ after)) y ≡ has (x ∷ (before ++ after)) y
unfolding has
has-moved [] x after y = refl
has-moved (z ∷ before) x after y =
    ap (λ (t : Bool). eqb z y || t) (has-moved before x after y) ∙ or-past (eqb z y) (eqb x y) (has (before ++ after) y)

pub repeats-moved : (before : List ℕ) (x : ℕ) (after : List ℕ) → repeats (before ++ (x ∷ after)) ≡ repeats (x ∷ (before ++ after))
unfolding repeats has
repeats-moved [] x after = refl
repeats-moved (z ∷ before) x after =
    let all = before ++ after in
    ap₂ ◌||◌ (has-moved before x after z) (repeats-moved before x after)
    ∙ four (eqb x z) (has all z) (has all x) (repeats all)
    ∙ ap (λ (t : Bool). (t || has all x) || (has all z || repeats all)) (eqb-sym x z)
  where
    four : (a b c d : Bool) → ((a || b) || (c || d)) ≡ ((a || c) || (b || d))
    four a b c d = sym (or_assoc a b (c || d)) ∙ ap (λ (t : Bool). a || t) (or-past b c d) ∙ or_assoc a c (b || d)
