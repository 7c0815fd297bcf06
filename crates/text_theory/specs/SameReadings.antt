-- Two texts read side by side: where their readings agree up to byte q, and one text is refused at q, so is the other.
-- Assumes nothing.
use Rattle.std.specs.Prelude.{ℕ, ◌≤◌, ◌<◌, Bool, true, false, List, ◌≡◌, ltb, length}
use Rattle.std.proofs.Common.{arith, lt-ltb}
use Rattle.definitions.specs.Outcome.{Outcome, refused, done, refuse_if}
use Rattle.definitions.specs.Form.{Scan, departs, reads, following, on_scan}
use Rattle.text_theory.specs.Looks.{offset, Alike, Looks, offset-front}

-- The reading `here` of one text, from p on, gives an offset at p or behind it; where that is not behind q, the reading `there` of the
-- other text is the same.
abbrev pub Agree : (p q : ℕ) (here there : Scan) → Type 0
Agree p q here there = (p ≤ offset here) × (offset here ≤ q → there ≡ here)

pub looks-agree : (text other : List ℕ) (p q : ℕ) (reading : List ℕ → Scan) (scan : Scan) → Looks text p reading scan
    → Alike text other q → Agree p q scan (reading other)
looks-agree text other p q reading scan looks alike = (looks.0, λ h. looks.1 other (λ i k. alike i (omega arith)))

-- Two readings, one behind the other.
pub following-agree : (p q : ℕ) (here there : Scan) (next other_next : ℕ → Scan) → Agree p q here there
    → ((s : ℕ) → p ≤ s → Agree s q (next s) (other_next s)) → Agree p q (following here next) (following there other_next)
unfolding following
following-agree p q (departs at) there next other_next first after = (first.0, λ h. rw (first.1 h))
following-agree p q (reads values at) there next other_next first after =
    let same = offset-front values (next at) in
    let rest = after at first.0 in
    (omega arith, λ h. rw (first.1 (omega arith), rest.1 (omega arith)))

-- A reading, and behind it what both texts are read for.
pub on-scan-agree : {A : Type 0} (number p q : ℕ) (here there : Scan) (next other_next : List ℕ → ℕ → Outcome A) → Agree p q here there
    → ((values : List ℕ) (s : ℕ) → p ≤ s → next values s ≡ refused number q → (s ≤ q) × (other_next values s ≡ refused number q))
    → on_scan number here next ≡ refused number q → (p ≤ q) × (on_scan number there other_next ≡ refused number q)
unfolding on_scan
on-scan-agree number p q (departs at) there next other_next first after e =
    let same : at ≡ q = cc in
    (omega arith, rw (first.1 (omega arith), same))
on-scan-agree number p q (reads values s) there next other_next first after e =
    let rest = after values s first.0 e in
    (omega arith, rw (first.1 (omega arith)) rest.1)

-- Something behind the end: in the other text too, as it is not shorter.
pub end-agrees : {A : Type 0} (number : ℕ) (text other : List ℕ) (value : A) (s q : ℕ) → q < length other
    → refuse_if (ltb s (length text)) number s (done value) ≡ refused number q
    → (s ≤ q) × (refuse_if (ltb s (length other)) number s (done value) ≡ refused number q)
unfolding refuse_if
end-agrees number text other value s q longer e = go (ltb s (length text)) e
  where
    go : (b : Bool) → refuse_if b number s (done value) ≡ refused number q
        → (s ≤ q) × (refuse_if (ltb s (length other)) number s (done value) ≡ refused number q)
    go true e =
        let same : s ≡ q = cc in
        (omega arith, rw (lt-ltb s (length other) (omega arith), same))
    go false e = let z : ◌≡◌ {A = ℕ} 0 1 = cc in absurd (omega arith)
