-- A text departs from every text of a kind at one byte at most, and a text of the kind departs nowhere. What shows where it departs.
-- Assumes nothing.
use Rattle.std.specs.Prelude.{ℕ, suc, ◌-◌, ◌<◌, Bool, true, false, List, ◌++◌, ◌≡◌, refl, ltb, length, take, drop}
use Rattle.std.proofs.Common.{sym, ◌∙◌, ap, arith, length-append, take-append-drop, length-take-le, get_or-take, ltb-true, ltb-false}
use Rattle.std.proofs.Math.ListN.{get_or-append}
use Rattle.definitions.specs.Departs.{Begins, DepartsFrom}
use Rattle.definitions.specs.Form.{byte_at}
use Rattle.lists.specs.Parts.{part-taken, take-further}
use Rattle.text_theory.specs.Looks.{Alike}
use Rattle.text_theory.specs.LineBegun.{BeginsAt}

-- Before a byte up to which it begins a text of the kind it does not depart.
not-before : {A : Type 0} (Fits : A → Type 0) (written : A → List ℕ) (text : List ℕ) (q r : ℕ) → DepartsFrom Fits written text q
    → DepartsFrom Fits written text r → q < r → ⊥
not-before Fits written text q r here there later =
    let (rest, joined) = there.begins in
    here.no-further there.one there.fits (omega (arith, there.within))
    (drop (suc q) (take r text) ++ rest, joined ∙ sym (take-further (suc q) r text rest (omega arith)))

pub departs-once : {A : Type 0} (Fits : A → Type 0) (written : A → List ℕ) (text : List ℕ) (q r : ℕ) → DepartsFrom Fits written text q
    → DepartsFrom Fits written text r → q ≡ r
departs-once Fits written text q r here there = go (ltb q r) refl (ltb r q) refl
  where
    go : (a : Bool) → ltb q r ≡ a → (b : Bool) → ltb r q ≡ b → q ≡ r
    go true a b c = absurd (not-before Fits written text q r here there (ltb-true q r a))
    go false a true c = absurd (not-before Fits written text r q there here (ltb-true r q c))
    go false a false c = omega (arith, ltb-false q r a, ltb-false r q c)

pub whole-never-departs : {A : Type 0} (Fits : A → Type 0) (written : A → List ℕ) (text : List ℕ) (q : ℕ) (one : A) → Fits one
    → written one ≡ text → DepartsFrom Fits written text q → ⊥
whole-never-departs Fits written text q one fits same here = go (ltb q (length text)) refl
  where
    go : (b : Bool) → ltb q (length text) ≡ b → ⊥
    go true test =
        here.no-further one fits (ltb-true q (length text) test)
        (drop (suc q) text, same ∙ sym (take-append-drop (suc q) text))
    go false test = here.unfinished one fits (omega (arith, here.within, ltb-false q (length text) test)) same

-- A text that begins with the bytes up to and with byte q has that byte, and is alike up to there.
begins-alike : (text other : List ℕ) (q : ℕ) → q < length text → Begins (take (suc q) text) other
    → (q < length other) × Alike text other q
unfolding byte_at
begins-alike text other q inside (rest, joined) =
    let front = take (suc q) text in
    let long : length front ≡ suc q = length-take-le (suc q) text (omega arith) in (
      omega (arith, ap length joined, length-append front rest),
      λ i h.
          ap (λ (t : List ℕ). byte_at t i) joined
          ∙ get_or-append front rest 0 i (omega arith)
          ∙ get_or-take (suc q) text i 0 (omega arith),
    )

-- The bytes up to q begin a text of the kind; none of the kind is alike up to and with q, and none is the text itself.
pub departs-there : {A : Type 0} (Fits : A → Type 0) (written : A → List ℕ) (text : List ℕ) (q : ℕ) (one : A) → Fits one
    → BeginsAt text 0 q (written one)
    → ((other : A) → Fits other → q < length text → q < length (written other) → Alike text (written other) q → ⊥)
    → ((other : A) → Fits other → written other ≡ text → ⊥) → DepartsFrom Fits written text q
departs-there Fits written text q one fits (part, rest, stands, joined) apart none =
    let ends : q ≡ q - 0 = omega arith in
    let taken : take q text ≡ part = ap (λ (i : ℕ). take i text) ends ∙ part-taken text part 0 q stands in
    record {
      within = stands.within;
      one = one;
      fits = fits;
      begins = (rest, sym joined ∙ ap (λ (l : List ℕ). l ++ rest) (sym taken));
      no-further = λ other others_fit inside begun.
          let both = begins-alike text (written other) q inside begun in
          apart other others_fit inside both.0 both.1;
      unfinished = λ other others_fit _. none other others_fit;
    }
