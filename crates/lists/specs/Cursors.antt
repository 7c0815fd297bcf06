-- Rising lists read in step: what is kept of a range is kept of a list, and places in many lists that move on as a number rises. For
-- document 02, #108: `seen b` is what relay b sees, `rest b` what is left of it. Assumes nothing.
use Rattle.std.specs.Prelude.{ℕ, ◌≤◌, ◌<◌, Bool, true, false, ◌&&◌, List, [], ◌∷◌, ◌⊎◌, ◌≡◌, refl, eqb, ltb}
use Rattle.std.proofs.Common.{inl, inr, sym, ◌∙◌, ap, subst, arith, eqb-true, ne_eqb, ltb-true, ltb-false, lt-ltb, le-ltb}
use Rattle.std.proofs.Math.Decide.{ℕ_discrete}
use Rattle.std.proofs.lemmas.Bool.{eqb-false}
use Rattle.definitions.specs.Outcome.{pick}
use Rattle.definitions.specs.Lists.{table, keep, has}
use Rattle.definitions.specs.Rising.{high_ends}
use Rattle.lists.specs.Tests.{and_both, and-all}
use Rattle.lists.specs.Members.{has-keep, range-bounds, range-has}
use Rattle.lists.specs.Cases.{has_here, has-cases, has-not}
use Rattle.lists.specs.Ascending.{Ascending, ascending-keep, ascending-range}
use Rattle.lists.specs.OneAscending.{ascending-same}

-- What passes a test below n, where that is to stand in a rising list and to pass another, is what passes the other in that list.
pub keep-listed : (n : ℕ) (test other : ℕ → Bool) (list : List ℕ) → Ascending list
    → ((b : ℕ) → b < n → test b ≡ true → (has list b ≡ true) × (other b ≡ true))
    → ((b : ℕ) → has list b ≡ true → other b ≡ true → (b < n) × (test b ≡ true))
    → keep test (table (λ b. b) 0 n) ≡ keep other list
keep-listed n test other list rises there back =
    ascending-same (keep test range) (keep other list) (ascending-keep test range (ascending-range 0 n)) (ascending-keep other list rises)
    (λ b h.
    let both = and_both (has range b) (test b) (sym (has-keep test range b) ∙ h) in
    let found = there b (omega (arith, range-bounds 0 n b both.0)) both.1 in
    has-keep other list b ∙ and-all (has list b) (other b) found.0 found.1)
    (λ b h.
    let both = and_both (has list b) (other b) (sym (has-keep other list b) ∙ h) in
    let found = back b both.0 both.1 in
    has-keep test range b ∙ and-all (has range b) (test b) (range-has 0 n b (omega arith) (omega (arith, found.0))) found.1)
  where
    range : List ℕ
    range = table (λ b. b) 0 n

-- A list from its first number on that is not below a.
unfoldable pub drop_below : (a : ℕ) (list : List ℕ) → List ℕ
drop_below a [] = []
drop_below a (x ∷ list) = pick (ltb x a) (drop_below a list) (x ∷ list)

-- The next number is a.
unfoldable pub next_is : (a : ℕ) (list : List ℕ) → Bool
next_is a [] = false
next_is a (x ∷ list) = eqb x a

-- The next number is passed where it is below a, else not.
pub dropped-less : (a x : ℕ) (list : List ℕ) → x < a → drop_below a (x ∷ list) ≡ drop_below a list
unfolding drop_below
dropped-less a x list h = rw (lt-ltb x a h)

pub dropped-stays : (a x : ℕ) (list : List ℕ) → a ≤ x → drop_below a (x ∷ list) ≡ x ∷ list
unfolding drop_below
dropped-stays a x list h = rw (le-ltb x a h)

-- Numbers from a on are where they were; what is left rises.
pub dropped-has : (a : ℕ) (list : List ℕ) (x : ℕ) → a ≤ x → has (drop_below a list) x ≡ has list x
unfolding drop_below has
dropped-has a [] x h = refl
dropped-has a (y ∷ list) x h = go (ltb y a) refl (dropped-has a list x h)
  where
    go : (t : Bool) → ltb y a ≡ t → has (drop_below a list) x ≡ has list x → has (pick t (drop_below a list) (y ∷ list)) x ≡ has (y ∷ list) x
    go true e ih =
        let less : y < a = ltb-true y a e in
        rw (ne_eqb y x (λ s. omega arith)) ih
    go false e ih = refl

pub dropped-ascends : (a : ℕ) (list : List ℕ) → Ascending list → Ascending (drop_below a list)
unfolding drop_below
dropped-ascends a [] rises = tt
dropped-ascends a (y ∷ list) rises = go (ltb y a) (dropped-ascends a list rises.1)
  where
    go : (t : Bool) → Ascending (drop_below a list) → Ascending (pick t (drop_below a list) (y ∷ list))
    go true ih = ih
    go false ih = rises

-- Whether a is in a rising list is seen at the place behind the numbers below a.
pub next-tells : (a : ℕ) (list : List ℕ) → Ascending list → next_is a (drop_below a list) ≡ has list a
unfolding drop_below next_is has
next-tells a [] rises = refl
next-tells a (y ∷ list) rises = go (ltb y a) refl (next-tells a list rises.1)
  where
    go : (t : Bool) → ltb y a ≡ t → next_is a (drop_below a list) ≡ has list a → next_is a (pick t (drop_below a list) (y ∷ list)) ≡ has (y ∷ list) a
    go true e ih =
        let less : y < a = ltb-true y a e in
        rw (ne_eqb y a (λ s. omega arith)) ih
    go false e ih = here (eqb y a) refl
      where
        here : (s : Bool) → eqb y a ≡ s → eqb y a ≡ has (y ∷ list) a
        here true s = s ∙ sym (subst (λ (z : ℕ). has (y ∷ list) z ≡ true) (eqb-true y a s) (has_here y list))
        here false s =
            let apart : (y ≡ a → ⊥) = eqb-false y a s in
            s ∙ sym (has-not (y ∷ list) a (λ h. later (has-cases y list a h)))
          where
            later : (y ≡ a) ⊎ (has list a ≡ true) → ⊥
            later (inl same) = eqb-false y a s same
            later (inr h) = omega (arith, rises.0 a h, ltb-false y a e)

-- Of every list the rest rises and has those of its numbers that are not below a, whatever it has below.
pub record Cursors (seen : ℕ → List ℕ) (a : ℕ) (rest : ℕ → List ℕ) : Type 0 where
  pub ascends : (b : ℕ) → Ascending (rest b)
  pub left : (b x : ℕ) → a ≤ x → has (rest b) x ≡ has (seen b) x

-- At the start nothing is passed.
pub cursors-start : (seen rest : ℕ → List ℕ) → ((b : ℕ) → Ascending (seen b)) → ((b : ℕ) → rest b ≡ seen b) → Cursors seen 0 rest
cursors-start seen rest rises same =
    record { ascends = λ b. subst Ascending (sym (same b)) (rises b); left = λ b x h. ap (λ (l : List ℕ). has l x) (same b) }

module _ (seen rest : ℕ → List ℕ) (a : ℕ) (inv : Cursors seen a rest) where
  -- As a rises less is asked.
  pub cursors-later : (c : ℕ) → a ≤ c → Cursors seen c rest
  cursors-later c more = record { ascends = inv.ascends; left = λ b x h. inv.left b x (omega arith) }

  -- The test whether b sees a, and the step that it takes in b's list alone.
  pub sees_back : (b : ℕ) → next_is a (drop_below a (rest b)) ≡ has (seen b) a
  sees_back b = next-tells a (rest b) (inv.ascends b) ∙ inv.left b a (omega arith)

  pub cursors-step : (after : ℕ → List ℕ) (b : ℕ) → after b ≡ drop_below a (rest b) → ((c : ℕ) → (c ≡ b → ⊥) → after c ≡ rest c)
      → Cursors seen a after
  cursors-step after b moved kept =
      record {
        ascends = λ c. rises c (ℕ_discrete c b);
        left = λ c x h. has_left c x h (ℕ_discrete c b);
      }
    where
      at : (c : ℕ) → c ≡ b → after c ≡ drop_below a (rest c)
      at c e = ap after e ∙ moved ∙ ap (λ (d : ℕ). drop_below a (rest d)) (sym e)

      rises : (c : ℕ) → Dec (c ≡ b) → Ascending (after c)
      rises c (yes e) = subst Ascending (sym (at c e)) (dropped-ascends a (rest c) (inv.ascends c))
      rises c (no other) = subst Ascending (sym (kept c other)) (inv.ascends c)

      has_left : (c x : ℕ) → a ≤ x → Dec (c ≡ b) → has (after c) x ≡ has (seen c) x
      has_left c x h (yes e) = ap (λ (l : List ℕ). has l x) (at c e) ∙ dropped-has a (rest c) x h ∙ inv.left c x h
      has_left c x h (no other) = ap (λ (l : List ℕ). has l x) (kept c other) ∙ inv.left c x h

-- The links with low end a, from a rising list that has just what a sees above itself.
pub row-left : (seen : ℕ → List ℕ) (a : ℕ) (own : List ℕ) → Ascending own → ((x : ℕ) → a < x → has own x ≡ has (seen a) x)
    → (n : ℕ) → ((x : ℕ) → has (seen a) x ≡ true → x < n)
    → high_ends n (λ c b. ltb c b && (has (seen c) b && has (seen b) c)) a ≡ keep (λ b. ltb a b && has (seen b) a) own
unfolding high_ends
row-left seen a own rises same n within =
    keep-listed n (λ b. ltb a b && (has (seen a) b && has (seen b) a)) (λ b. ltb a b && has (seen b) a) own rises
    (λ b h e.
    let one = and_both (ltb a b) (has (seen a) b && has (seen b) a) e in
    let two = and_both (has (seen a) b) (has (seen b) a) one.1 in
    (same b (ltb-true a b one.0) ∙ two.0, and-all (ltb a b) (has (seen b) a) one.0 two.1))
    (λ b h e.
    let one = and_both (ltb a b) (has (seen b) a) e in
    let there : has (seen a) b ≡ true = sym (same b (ltb-true a b one.0)) ∙ h in (
      within b there,
      and-all (ltb a b) (has (seen a) b && has (seen b) a) one.0 (and-all (has (seen a) b) (has (seen b) a) there one.1),
    ))
