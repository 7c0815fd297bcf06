-- Members of a list (`has`), and lists without repeats (`NoRepeat`): joined, turned round. Assumes nothing.
use Rattle.std.specs.Prelude.{ℕ, Bool, true, false, ◌||◌, ◌⊎◌, ◌≡◌, refl, eqb}
use Rattle.std.proofs.Math.Bool.{or-true}
use mathlib.Core.List.{List, [], ◌∷◌, ◌++◌, reverse_aux, reverse}
use Rattle.std.proofs.Common.{inl, inr, sym, subst, eqb-true, eq-eqb}
use Rattle.definitions.specs.Lists.{has, NoRepeat}
use Rattle.lists.specs.Searches.{clash}

pub has_here : (x : ℕ) (rest : List ℕ) → has (x ∷ rest) x ≡ true
unfolding has
has_here x rest = rw (eq-eqb x x refl)

pub has_there : (x : ℕ) (rest : List ℕ) (w : ℕ) → has rest w ≡ true → has (x ∷ rest) w ≡ true
unfolding has
has_there x rest w h = rw h (or-true (eqb x w))

pub has-nil : (w : ℕ) → has [] w ≡ false
unfolding has
has-nil w = refl

pub has-cases : (x : ℕ) (rest : List ℕ) (w : ℕ) → has (x ∷ rest) w ≡ true → (x ≡ w) ⊎ (has rest w ≡ true)
unfolding has
has-cases x rest w = go (eqb x w) refl
  where
    go : (b : Bool) → eqb x w ≡ b → (b || has rest w) ≡ true → (x ≡ w) ⊎ (has rest w ≡ true)
    go true e h = inl (eqb-true x w e)
    go false e h = inr h

-- What is not a member fails the test.
pub has-not : (list : List ℕ) (w : ℕ) → (has list w ≡ true → ⊥) → has list w ≡ false
has-not list w none = go (has list w) refl
  where
    go : (b : Bool) → has list w ≡ b → b ≡ false
    go true e = absurd (none e)
    go false e = refl

pub has_either : (one two : List ℕ) (w : ℕ) → has (one ++ two) w ≡ true → (has one w ≡ true) ⊎ (has two w ≡ true)
has_either [] two w h = inr h
has_either (x ∷ one) two w h = go (has-cases x (one ++ two) w h) (has_either one two w)
  where
    go : (x ≡ w) ⊎ (has (one ++ two) w ≡ true)
        → (has (one ++ two) w ≡ true → (has one w ≡ true) ⊎ (has two w ≡ true))
        → (has (x ∷ one) w ≡ true) ⊎ (has two w ≡ true)
    go (inl e) deeper = inl (subst (λ (y : ℕ). has (x ∷ one) y ≡ true) e (has_here x one))
    go (inr h) deeper = later (deeper h)
      where
        later : (has one w ≡ true) ⊎ (has two w ≡ true) → (has (x ∷ one) w ≡ true) ⊎ (has two w ≡ true)
        later (inl h) = inl (has_there x one w h)
        later (inr h) = inr h

-- Members of a list turned round onto another.
pub has-reverse_aux : (one two : List ℕ) (w : ℕ) → has (reverse_aux one two) w ≡ true → (has one w ≡ true) ⊎ (has two w ≡ true)
has-reverse_aux [] two w h = inr h
has-reverse_aux (x ∷ one) two w h = go (has-reverse_aux one (x ∷ two) w h)
  where
    later : (x ≡ w) ⊎ (has two w ≡ true) → (has (x ∷ one) w ≡ true) ⊎ (has two w ≡ true)
    later (inl e) = inl (subst (λ (y : ℕ). has (x ∷ one) y ≡ true) e (has_here x one))
    later (inr h) = inr h

    go : (has one w ≡ true) ⊎ (has (x ∷ two) w ≡ true) → (has (x ∷ one) w ≡ true) ⊎ (has two w ≡ true)
    go (inl h) = inl (has_there x one w h)
    go (inr h) = later (has-cases x two w h)

pub has-reverse : (list : List ℕ) (w : ℕ) → has (reverse list) w ≡ true → has list w ≡ true
has-reverse list w h = go (has-reverse_aux list [] w h)
  where
    go : (has list w ≡ true) ⊎ (has [] w ≡ true) → has list w ≡ true
    go (inl h) = h
    go (inr h) = absurd (clash h (has-nil w))

-- Two lists without repeats and without a common member.
abbrev pub Disjoint : List ℕ → List ℕ → Type 0
Disjoint one two = (w : ℕ) → has one w ≡ true → has two w ≡ true → ⊥

pub no_repeat-append : (one two : List ℕ) → NoRepeat one → NoRepeat two → Disjoint one two → NoRepeat (one ++ two)
no_repeat-append [] two first second apart = second
no_repeat-append (x ∷ one) two first second apart = (
  has-not (one ++ two) x (λ h. go (has_either one two x h)),
  no_repeat-append one two first.1 second (λ w h. apart w (has_there x one w h)),
)
  where
    go : (has one x ≡ true) ⊎ (has two x ≡ true) → ⊥
    go (inl h) = clash h first.0
    go (inr h) = apart x (has_here x one) h

pub no_repeat-reverse_aux : (one two : List ℕ) → NoRepeat one → NoRepeat two → Disjoint one two → NoRepeat (reverse_aux one two)
no_repeat-reverse_aux [] two first second apart = second
no_repeat-reverse_aux (x ∷ one) two first second apart =
    no_repeat-reverse_aux one (x ∷ two) first.1
    (has-not two x (apart x (has_here x one)), second)
    (λ w h g. go w h (has-cases x two w g))
  where
    go : (w : ℕ) → has one w ≡ true → (x ≡ w) ⊎ (has two w ≡ true) → ⊥
    go w h (inl e) = clash (subst (λ (y : ℕ). has one y ≡ true) (sym e) h) first.0
    go w h (inr g) = apart w (has_there x one w h) g

pub no_repeat-reverse : (list : List ℕ) → NoRepeat list → NoRepeat (reverse list)
no_repeat-reverse list once = no_repeat-reverse_aux list [] once tt (λ w h g. clash g (has-nil w))
