-- The trees of a forest are intervals of places: t and s are in one tree of forest i if and only if every place above t and
-- up to s has an i-th earlier neighbour. Over any `left` with the three laws.
use Prim.Native.Nat.{ℕ, zero, suc, ◌≤◌, ◌<◌}
use Rattle.std.proofs.Math.Decide.{dec_lt}
use Rattle.std.proofs.Common.{arith, inl, inr, subst}
use Rattle.std.specs.Prelude.{Bool, ◌⊎◌, ◌↔◌, ◌≡◌}
use Rattle.std.proofs.Math.Bool.{true, false}
use Rattle.std.proofs.Math.Logic.{by_cases}
use Rattle.std.proofs.Math.Path.{refl}
use Rattle.std.proofs.Math.Dec.{eqb}
use borrow.Author.Tests.{eqb-true, eqb-false, eq-eqb}
use Rattle.definitions.specs.Outcome.{pick}
use Rattle.definitions.specs.Forests.{root_within, one_tree}
use Rattle.definitions.specs.Demand.{Joined, alone, onward}
use Rattle.lists.specs.Tests.{eqb-sym}
use Rattle.theory.specs.JoinedRelays.{joined-trans, joined-sym}
use Rattle.theory.specs.LeftLaws.{LeftLaws}

-- Every place above e, up to s, has an i-th earlier neighbour.
abbrev pub Alive : (left : ℕ → ℕ → ℕ) (i e s : ℕ) → Type 0
Alive left i e s = (x : ℕ) → e < x → x ≤ s → 0 < left i x

-- A link of forest i between places, either way round.
abbrev pub TreeLink : (left : ℕ → ℕ → ℕ) (i a b : ℕ) → Type 0
TreeLink left i a b = ((0 < b) × (left i a ≡ b)) ⊎ ((0 < a) × (left i b ≡ a))

pub tree_link-sym : (left : ℕ → ℕ → ℕ) (i a b : ℕ) → TreeLink left i a b → TreeLink left i b a
tree_link-sym left i a b (inl p) = inr p
tree_link-sym left i a b (inr p) = inl p

-- The lowest place of the tree of forest i that v is in.
record Root (left : ℕ → ℕ → ℕ) (i v r : ℕ) : Type 0 where
  low : r ≤ v
  alive : Alive left i r v
  end : left i r ≡ 0

module _ (left : ℕ → ℕ → ℕ) (laws : LeftLaws left) where
  -- Alive at i is alive at every smaller index.
  pub alive-lower : (h i e s : ℕ) → 1 ≤ h → h ≤ i → Alive left i e s → Alive left h e s
  alive-lower h i e s one le alive x above upto =
      by_cases (dec_lt h i)
      (λ less. (laws.rises h i x one less (alive x above upto)).0)
      (λ more. let same : i ≡ h = omega arith in subst (λ (j : ℕ). 0 < left j x) same (alive x above upto))

  -- Above the i-th earlier neighbour of x, up to x.
  pub alive-left : (i x : ℕ) → 0 < left i x → Alive left i (left i x) x
  alive-left i x some y above upto =
      by_cases (dec_lt y x)
      (λ less. omega (arith, laws.maximal i y x less some above))
      (λ more. let same : x ≡ y = omega arith in subst (λ (z : ℕ). 0 < left i z) same some)

  pub alive-join : (i a b c : ℕ) → Alive left i a b → Alive left i b c → Alive left i a c
  alive-join i a b c first second x above upto =
      by_cases (dec_lt b x) (λ more. second x more upto) (λ less. first x above (omega arith))

  -- No chain of forest i passes from below a place without an i-th earlier neighbour to that place or above.
  stays-below : (i x : ℕ) → left i x ≡ 0 → {a b : ℕ} → Joined (λ _. Unit {0}) (TreeLink left i) a b → a < x → b < x
  stays-below i x none (alone l) less = less
  stays-below i x none (onward {a = a} {b = b} l (inl p) r) less =
      stays-below i x none r (omega (arith, laws.below i a (omega arith)))
  stays-below i x none (onward {a = a} {b = b} l (inr p) r) less =
      stays-below i x none r
      (by_cases (dec_lt b x) (λ yet. yet) (λ more. absurd
      (by_cases (dec_lt x b)
      (λ over. let z = laws.maximal i x b over (omega arith) (omega arith) in omega arith)
      (λ under. let same : b ≡ x = omega arith in
      let z : left i x ≡ a = subst (λ (y : ℕ). left i y ≡ a) same p.1 in omega arith))))

  alive-joined : (i n x : ℕ) → x ≤ n → (e : ℕ) → 1 ≤ e → e ≤ x → Alive left i e x
      → Joined (λ _. Unit {0}) (TreeLink left i) e x
  alive-joined i zero x bound e one le alive = absurd (omega arith)
  alive-joined i (suc n) x bound e one le alive =
      by_cases (dec_lt e x)
      (λ less.
      let u : ℕ = left i x in
      let some : 0 < u = alive x less (omega arith) in
      let down : u < x = laws.below i x some in
      let last : Joined (λ _. Unit {0}) (TreeLink left i) u x = onward tt (inr (some, refl)) (alone tt) in
      by_cases (dec_lt u e)
      (λ above. joined-trans
      (joined-sym (tree_link-sym left i) (alive-joined i n e (omega arith) u some (omega arith) (λ y over upto. alive-left i x some y over (omega arith))))
      last)
      (λ below. joined-trans
      (alive-joined i n u (omega arith) e one (omega arith) (λ y over upto. alive y over (omega arith)))
      last))
      (λ more. let same : e ≡ x = omega arith in
      subst (λ (y : ℕ). Joined (λ _. Unit {0}) (TreeLink left i) e y) same (alone tt))

  pub chain-alive : (i t s : ℕ) → 1 ≤ t → t < s → Joined (λ _. Unit {0}) (TreeLink left i) t s ↔ Alive left i t s
  chain-alive i t s one less = (
    λ chain x above upto. by_cases (dec_lt 0 (left i x)) (λ some. some) (λ none.
        let under : s < x = stays-below i x (omega arith) chain above in absurd (omega arith)),
    alive-joined i s s (omega arith) t one (omega arith),
  )

  root-holds : (i steps v : ℕ) → 1 ≤ v → v ≤ steps → Root left i v (root_within left i steps v)
  unfolding root_within
  root-holds i zero v one bound = absurd (omega arith)
  root-holds i (suc steps) v one bound = go (root-holds i steps (left i v)) (eqb (left i v) 0) refl
    where
      go : (1 ≤ left i v → left i v ≤ steps → Root left i (left i v) (root_within left i steps (left i v))) → (b : Bool) → eqb (left i v) 0 ≡ b → Root left i v (pick b v (root_within left i steps (left i v)))
      go deeper true e = record { low = omega arith; alive = λ x above upto. absurd (omega arith); end = eqb-true (left i v) 0 e }
      go deeper false e =
          let some : 0 < left i v = omega (arith, eqb-false (left i v) 0 e) in
          let down : left i v < v = laws.below i v some in
          let root : Root left i (left i v) (root_within left i steps (left i v)) = deeper some (omega arith) in
          record {
            low = omega arith;
            alive = alive-join i (root_within left i steps (left i v)) (left i v) v root.alive (alive-left i v some);
            end = root.end;
          }

  pub one_tree-alive : (i t s : ℕ) → 1 ≤ t → t < s → (one_tree left i t s ≡ true) ↔ Alive left i t s
  unfolding one_tree
  one_tree-alive i t s one less =
      let r : ℕ = root_within left i t t in
      let q : ℕ = root_within left i s s in
      let root_t : Root left i t r = root-holds i t t one (omega arith) in
      let root_s : Root left i s q = root-holds i s s (omega arith) (omega arith) in (
        λ same x above upto.
            let e : r ≡ q = eqb-true r q same in
            root_s.alive x (omega arith) upto,
        λ alive. eq-eqb r q
            (by_cases (dec_lt t q)
            (λ high. let z : 0 < left i q = alive q high root_s.low in absurd (omega arith))
            (λ low. by_cases (dec_lt r q)
            (λ less. let z : 0 < left i q = root_t.alive q less (omega arith) in absurd (omega arith))
            (λ more. by_cases (dec_lt q r)
            (λ over. let z : 0 < left i r = root_s.alive r over (omega arith) in absurd (omega arith))
            (λ under. omega arith)))),
      )

pub one_tree-sym : (left : ℕ → ℕ → ℕ) (i a b : ℕ) → one_tree left i a b ≡ one_tree left i b a
unfolding one_tree
one_tree-sym left i a b = eqb-sym (root_within left i a a) (root_within left i b b)
