-- Where the border between two texts lies, by the two numbers of the line in front. Assumes nothing.
use Rattle.std.specs.Prelude.{ℕ, ◌+◌, ◌-◌, ◌*◌, ◌≤◌, ◌<◌, List, [], ◌∷◌, ◌≡◌, length, take, drop}
use Rattle.std.proofs.Common.{sym, ◌∙◌, ap, arith, length-drop, drop_of_length-le, take_all}
use Rattle.definitions.specs.Border.{border_of}

-- The border lies at `at` bytes of the text: at the offset that the line tells, or at the end of a text that is shorter. The two texts
-- on either side are the same.
pub record Border (size : ℕ) (text : List ℕ) (at : ℕ) : Type 0 where
  pub within : at ≤ length text
  pub front : take at text ≡ take size text
  pub back : drop at text ≡ drop size text

pub border-past : (a b : ℕ) (text : List ℕ) → length text < a * 10000 + b → Border (border_of (a ∷ b ∷ [])) text (length text)
unfolding border_of
border-past a b text short =
    let size = 10000 * a + b in
    let long : length text ≤ size = omega arith in
    record {
      within = omega arith;
      front = take_all (length text) text (omega arith) ∙ sym (take_all size text long);
      back = drop_of_length-le text {i = length text} (omega arith) ∙ sym (drop_of_length-le text {i = size} long);
    }

pub border-inside : (a b : ℕ) (text : List ℕ) → a * 10000 + b ≤ length text → Border (border_of (a ∷ b ∷ [])) text (a * 10000 + b)
unfolding border_of
border-inside a b text long =
    let same : a * 10000 + b ≡ 10000 * a + b = omega arith in
    record { within = long; front = ap (λ (size : ℕ). take size text) same; back = ap (λ (size : ℕ). drop size text) same }

-- The second text as it is lent.
pub border-rest : (size : ℕ) (text : List ℕ) (at : ℕ) → Border size text at → take (length text - at) (drop at text) ≡ drop size text
border-rest size text at border =
    take_all (length text - at) (drop at text) (omega (arith, length-drop at text)) ∙ border.back
