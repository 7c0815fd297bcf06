-- Parts of a list by their first index and the index behind them, and how they join.
-- Assumes nothing.
use Rattle.std.specs.Prelude.{ℕ, ◌+◌, ◌-◌, ◌≤◌, ◌<◌, List, [], ◌∷◌, ◌++◌, ◌≡◌, refl, length, get_or, take, drop}
use Rattle.std.proofs.Common.{append_assoc, append-nil, sym, ◌∙◌, ap, add-zero, add-one, arith, length-append, take-append-drop, drop-cons, drop-drop, get_or-drop, take_at, take-take}
use Rattle.std.proofs.Math.Seq.{drop-length, drop-append_seam}

-- From index p up to, not including, index q the list is `part`.
pub record Part (list : List ℕ) (p : ℕ) (part : List ℕ) (q : ℕ) : Type 0 where
  pub follows : drop p list ≡ part ++ drop q list
  pub reaches : q ≡ p + length part
  pub within : q ≤ length list

pub part-empty : (list : List ℕ) (p : ℕ) → p ≤ length list → Part list p [] p
part-empty list p h = record { follows = refl; reaches = sym (add-zero p); within = h }

pub part-cons : (list part : List ℕ) (p q : ℕ) → p < length list → Part list (p + 1) part q → Part list p (get_or list p 0 ∷ part) q
part-cons list part p q h rest =
    record {
      follows = drop-cons list p 0 h ∙ rw (← add-one p) (ap (λ (l : List ℕ). get_or list p 0 ∷ l) rest.follows);
      reaches = omega (arith, rest.reaches);
      within = rest.within;
    }

pub part-head : (list part : List ℕ) (b p q : ℕ) → Part list p (b ∷ part) q → get_or list p 0 ≡ b
part-head list part b p q h =
    ap (λ (i : ℕ). get_or list i 0) (sym (add-zero p)) ∙ sym (get_or-drop p list 0 0) ∙ ap (λ (l : List ℕ). get_or l 0 0) h.follows

pub part-tail : (list part : List ℕ) (b p q : ℕ) → Part list p (b ∷ part) q → Part list (p + 1) part q
part-tail list part b p q h =
    record {
      follows = sym (drop-drop 1 p list) ∙ ap (drop 1) h.follows;
      reaches = omega (arith, h.reaches);
      within = h.within;
    }

pub part-append : (list s t : List ℕ) (p q r : ℕ) → Part list p s q → Part list q t r → Part list p (s ++ t) r
part-append list s t p q r one other =
    record {
      follows = one.follows ∙ ap (λ (l : List ℕ). s ++ l) other.follows ∙ sym (append_assoc s t (drop r list));
      reaches = omega (arith, one.reaches, other.reaches, length-append s t);
      within = other.within;
    }

-- The second of two parts that join, and the first.
pub part-second : (list s t : List ℕ) (p r : ℕ) → Part list p (s ++ t) r → Part list (p + length s) t r
part-second list s t p r h =
    record {
      follows = sym (drop-drop (length s) p list)
          ∙ ap (drop (length s)) (h.follows ∙ append_assoc s t (drop r list))
          ∙ drop-append_seam s (t ++ drop r list);
      reaches = omega (arith, h.reaches, length-append s t);
      within = h.within;
    }

pub part-first : (list s t : List ℕ) (p r : ℕ) → Part list p (s ++ t) r → Part list p s (p + length s)
part-first list s t p r h =
    record {
      follows = h.follows ∙ append_assoc s t (drop r list) ∙ ap (λ (l : List ℕ). s ++ l) (sym (part-second list s t p r h).follows);
      reaches = refl;
      within = omega (arith, h.reaches, h.within, length-append s t);
    }

-- The first of two lists that join, and the second.
pub part-start : (part rest : List ℕ) → Part (part ++ rest) 0 part (length part)
part-start part rest =
    record {
      follows = ap (λ (l : List ℕ). part ++ l) (sym (drop-append_seam part rest));
      reaches = omega arith;
      within = omega (arith, length-append part rest);
    }

pub part_end : (front part : List ℕ) → Part (front ++ part) (length front) part (length (front ++ part))
part_end front part =
    record {
      follows = drop-append_seam front part ∙ sym (ap (λ (l : List ℕ). part ++ l) (drop-length (front ++ part)) ∙ append-nil part);
      reaches = length-append front part;
      within = omega arith;
    }

-- The part as it is cut out of the list.
pub part-taken : (list part : List ℕ) (p q : ℕ) → Part list p part q → take (q - p) (drop p list) ≡ part
part-taken list part p q h =
    rw h.follows (take_at part (drop q list) (q - p) (omega (arith, h.reaches)))

-- The part that is the whole list.
pub part-whole : (list part : List ℕ) → Part list 0 part (length list) → part ≡ list
part-whole list part h = sym (append-nil part) ∙ sym (h.follows ∙ ap (λ (l : List ℕ). part ++ l) (drop-length list))

-- The first i entries, then those up to k, then others.
pub take-further : (i k : ℕ) (list rest : List ℕ) → i ≤ k → take i list ++ (drop i (take k list) ++ rest) ≡ take k list ++ rest
take-further i k list rest h =
    sym (append_assoc (take i list) (drop i (take k list)) rest)
    ∙ ap (λ (l : List ℕ). l ++ drop i (take k list) ++ rest) (sym (take-take i k list h))
    ∙ ap (λ (l : List ℕ). l ++ rest) (take-append-drop i (take k list))
