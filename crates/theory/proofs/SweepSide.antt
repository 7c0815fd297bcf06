-- One side of the sweep at v: what each path is after the shift, and which relays it has. Serves A with its start s and B
-- with its start t. Over any `left` with the laws.
use Rattle.std.specs.Prelude.{ℕ, suc, ◌≤◌, ◌<◌, Bool, true, false, ◌⊎◌, ◌≡◌, refl}
use Rattle.std.proofs.Common.{arith, inl, inr, sym, ◌∙◌, ap, subst}
use mathlib.Core.List.{List, [], ◌∷◌, tail}
use Rattle.definitions.specs.Lists.{has}
use Rattle.definitions.specs.Sweep as Sweep
use Rattle.lists.specs.Searches.{clash}
use Rattle.lists.specs.Cases.{has-nil, has-cases, has_there}
use Rattle.theory.specs.PlaceSweep.{end_of, before_end, downshift}
use Rattle.theory.specs.LeftLaws.{LeftLaws}
use Rattle.theory.specs.SweepShift.{source, Came, stays, moves, takes, came, source_one}
use Rattle.theory.proofs.SweepPaths.{Trail, OpenPath, open-end, open_above, open-start, open-past, open-lower, trail-from}

-- A path of an open index before v: still its start alone, above which v is, or an open path.
pub data Standing (left : ℕ → ℕ → ℕ) (k s c i v : ℕ) (path : List ℕ) : Type 0 where
  waits : c < v → path ≡ c ∷ [] → Standing left k s c i v path
  stands : OpenPath left k s c i v path → Standing left k s c i v path

-- The same after the shift at v + 1, before the path that ends there is closed or goes on.
pub data Shifted (left : ℕ → ℕ → ℕ) (k s c j v i : ℕ) (path : List ℕ) : Type 0 where
  waiting : c ≤ v → path ≡ c ∷ [] → Shifted left k s c j v i path
  below : OpenPath left k s c i v path → Shifted left k s c j v i path
  arrived : i ≡ j → (u : ℕ) (rest : List ℕ) → path ≡ suc v ∷ u ∷ rest → Trail left k c (suc v) (u ∷ rest)
      → Shifted left k s c j v i path

-- What is known of the paths of one side before v, with the test of which indices end there.
pub record Ready (left : ℕ → ℕ → ℕ) (k s c v : ℕ) (opens ends : ℕ → Bool) (paths : ℕ → List ℕ) : Type 0 where
  pub standing : (i : ℕ) → 1 ≤ i → i ≤ k → opens i ≡ true → Standing left k s c i v (paths i)
  pub closed_above : (i : ℕ) → 1 ≤ i → i ≤ k → opens i ≡ false → (w : ℕ) → has (paths i) w ≡ true → v < w
  pub ends_open : (i : ℕ) → 1 ≤ i → i ≤ k → ends i ≡ true → opens i ≡ true
  pub ends_at : (i : ℕ) → 1 ≤ i → i ≤ k → ends i ≡ true → end_of (paths i) ≡ v
  pub ends_not : (i : ℕ) → 1 ≤ i → i ≤ k → opens i ≡ true → ends i ≡ false → end_of (paths i) ≡ v → ⊥

-- j is open, and no index that ends at v is higher.
pub record Highest (k j : ℕ) (opens ends : ℕ → Bool) : Type 0 where
  pub one : 1 ≤ j
  pub bound : j ≤ k
  pub is_open : opens j ≡ true
  pub top : (i : ℕ) → 1 ≤ i → i ≤ k → ends i ≡ true → i ≤ j

-- What is known of the paths of one side after the shift at v + 1: each index has the relays of the index `from i`.
pub record Passed (left : ℕ → ℕ → ℕ) (k s c j v : ℕ) (opens : ℕ → Bool) (old new : ℕ → List ℕ) : Type 0 where
  pub from : ℕ → ℕ
  pub within : (i : ℕ) → 1 ≤ i → i ≤ k → (1 ≤ from i) × (from i ≤ k)
  pub from_one : (i h : ℕ) → 1 ≤ i → i ≤ k → 1 ≤ h → h ≤ k → from i ≡ from h → i ≡ h
  pub shifted : (i : ℕ) → 1 ≤ i → i ≤ k → opens i ≡ true → Shifted left k s c j v i (new i)
  -- Relays from v + 1 on are those of the old path, and v + 1 itself stands only at j, as the end.
  pub comes : (i : ℕ) → 1 ≤ i → i ≤ k → (w : ℕ) → suc v ≤ w → has (new i) w ≡ true
      → ((suc v < w) × (has (old (from i)) w ≡ true)) ⊎ ((w ≡ suc v) × (i ≡ j) × (end_of (new i) ≡ suc v))
  -- An open index has the path of an open one, and a closed one keeps its own.
  pub from_open : (i : ℕ) → 1 ≤ i → i ≤ k → opens (from i) ≡ opens i
  pub from_closed : (i : ℕ) → 1 ≤ i → i ≤ k → opens i ≡ false → (from i ≡ i) × (new i ≡ old i)

-- The path of another index with an earlier neighbour of its last but one as its end.
moved-shape : {left : ℕ → ℕ → ℕ} {k s c n v : ℕ} {path : List ℕ} (o : OpenPath left k s c n v path) (i : ℕ)
    → left i (before_end path) ∷ tail path ≡ left i o.before ∷ o.before ∷ o.rest
unfolding Sweep.before_end Sweep.end_of
moved-shape {left} o i = ap (λ (p : List ℕ). left i (before_end p) ∷ tail p) o.shape

pub end-alone : (c : ℕ) (path : List ℕ) → path ≡ c ∷ [] → end_of path ≡ c
unfolding Sweep.end_of
end-alone c path e = rw e

module _ (left : ℕ → ℕ → ℕ) (laws : LeftLaws left) (k s c j v : ℕ) (opens ends : ℕ → Bool) (paths : ℕ → List ℕ)
    (ready : Ready left k s c (suc v) opens ends paths) where
  ends_open : (n : ℕ) → 1 ≤ n → n ≤ k → ends n ≡ true → OpenPath left k s c n (suc v) (paths n)
  ends_open n one le at = go (ready.standing n one le (ready.ends_open n one le at))
    where
      go : Standing left k s c n (suc v) (paths n) → OpenPath left k s c n (suc v) (paths n)
      go (waits less alone) = absurd (omega (arith, end-alone c (paths n) alone, ready.ends_at n one le at))
      go (stands o) = o

  -- A path that does not end at v + 1.
  module _ (i : ℕ) (one : 1 ≤ i) (within : i ≤ k) (off : ends i ≡ false) where
    kept : opens i ≡ true → Shifted left k s c j v i (paths i)
    kept opn = go (ready.standing i one within opn)
      where
        go : Standing left k s c i (suc v) (paths i) → Shifted left k s c j v i (paths i)
        go (waits less alone) = waiting (omega arith) alone
        go (stands o) =
            below (open-past left laws k s c v i (paths i) o (λ e. ready.ends_not i one within opn off (open-end o ∙ e)))

    kept_above : (w : ℕ) → suc v ≤ w → has (paths i) w ≡ true → suc v < w
    kept_above w le h = go (opens i) refl
      where
        alone : (c ≡ w) ⊎ (has [] w ≡ true) → c ≡ w
        alone (inl same) = same
        alone (inr none) = absurd (clash none (has-nil w))

        standing : opens i ≡ true → Standing left k s c i (suc v) (paths i) → suc v < w
        standing opn (waits less shape) =
            absurd (omega (arith, alone (has-cases c [] w (subst (λ (p : List ℕ). has p w ≡ true) shape h))))
        standing opn (stands o) = above (open_above left laws k s c (suc v) i (paths i) o w h)
          where
            above : (w ≡ o.end) ⊎ ((suc v < w) × (has (o.before ∷ o.rest) w ≡ true)) → suc v < w
            above (inl same) = absurd (ready.ends_not i one within opn off (omega (arith, open-end o, o.low)))
            above (inr p) = p.0

        go : (b : Bool) → opens i ≡ b → suc v < w
        go false e = ready.closed_above i one within e w h
        go true e = standing e (ready.standing i one within e)

  -- No path ends at v + 1: nothing happens.
  pub none_passes : ((i : ℕ) → 1 ≤ i → i ≤ k → ends i ≡ false) → Passed left k s c j v opens paths paths
  none_passes none =
      record {
        from = λ i. i;
        within = λ i one le. (one, le);
        from_one = λ i h one le one' le' e. e;
        shifted = λ i one le opn. kept i one le (none i one le) opn;
        comes = λ i one le w upto h. inl (kept_above i one le (none i one le) w upto h, h);
        from_open = λ i one le. refl;
        from_closed = λ i one le shut. (refl, refl);
      }

  module _ (high : Highest k j opens ends) where
    moved_open : (i n : ℕ) → 1 ≤ i → i < n → n ≤ j → ends i ≡ true → (ends n ≡ true) ⊎ (n ≡ j) → OpenPath left k s c n (suc v) (paths n)
    moved_open i n one less le at (inl e) = ends_open n (omega arith) (omega (arith, high.bound)) e
    moved_open i n one less le at (inr e) =
        go (ready.standing n (omega arith) (omega (arith, high.bound)) (subst (λ (x : ℕ). opens x ≡ true) (sym e) high.is_open))
      where
        o : OpenPath left k s c i (suc v) (paths i)
        o = ends_open i one (omega (arith, high.bound)) at

        go : Standing left k s c n (suc v) (paths n) → OpenPath left k s c n (suc v) (paths n)
        go (waits less alone) = absurd (omega (arith, open-start left laws k s c (suc v) i (paths i) o))
        go (stands o) = o

    module _ (i : ℕ) (one : 1 ≤ i) (within : i ≤ k) (n : ℕ) (result : List ℕ) where
      shifted-came : opens i ≡ true → Came left j ends paths i n result → Shifted left k s c j v i result
      shifted-came opn (stays off from same) =
          subst (λ (p : List ℕ). Shifted left k s c j v i p) (sym same) (kept i one within off opn)
      shifted-came opn (moves at into less le same) =
          let o : OpenPath left k s c n (suc v) (paths n) = moved_open i n one less le at into in
          subst (λ (p : List ℕ). Shifted left k s c j v i p) (sym (same ∙ moved-shape o i))
          (below (open-lower left laws k s c v i n (paths n) one less o))
      shifted-came opn (takes top at positive le same) =
          let o : OpenPath left k s c n (suc v) (paths n) = ends_open n positive (omega (arith, high.bound)) at in
          let e : o.end ≡ suc v = sym (open-end o) ∙ ready.ends_at n positive (omega (arith, high.bound)) at in
          arrived top o.before o.rest (same ∙ o.shape ∙ ap (λ (x : ℕ). x ∷ o.before ∷ o.rest) e)
          ((n, positive, omega (arith, high.bound), omega arith, o.link ∙ e), o.trail)

      comes-came : Came left j ends paths i n result → (w : ℕ) → suc v ≤ w → has result w ≡ true
          → ((suc v < w) × (has (paths n) w ≡ true)) ⊎ ((w ≡ suc v) × (i ≡ j) × (end_of result ≡ suc v))
      comes-came (stays off from same) w le h =
          let g : has (paths i) w ≡ true = subst (λ (p : List ℕ). has p w ≡ true) same h in
          inl (kept_above i one within off w le g, subst (λ (x : ℕ). has (paths x) w ≡ true) (sym from) g)
      comes-came (moves at into less upto same) w le h =
          inl (go (has-cases (left i o.before) (o.before ∷ o.rest) w (subst (λ (p : List ℕ). has p w ≡ true) (same ∙ moved-shape o i) h)))
        where
          o : OpenPath left k s c n (suc v) (paths n)
          o = moved_open i n one less upto at into

          go : (left i o.before ≡ w) ⊎ (has (o.before ∷ o.rest) w ≡ true) → (suc v < w) × (has (paths n) w ≡ true)
          go (inl e) = absurd (omega (arith, o.low, o.link, (laws.rises i n o.before one less (omega (arith, o.some, o.link))).1))
          go (inr g) = (
            omega (arith, o.high, trail-from left laws k c o.before o.rest o.trail w g),
            subst (λ (p : List ℕ). has p w ≡ true) (sym o.shape) (has_there o.end (o.before ∷ o.rest) w g),
          )
      comes-came (takes top at positive upto same) w le h = go (open_above left laws k s c (suc v) n (paths n) o w g)
        where
          o : OpenPath left k s c n (suc v) (paths n)
          o = ends_open n positive (omega (arith, high.bound)) at

          g : has (paths n) w ≡ true
          g = subst (λ (p : List ℕ). has p w ≡ true) same h

          e : end_of (paths n) ≡ suc v
          e = ready.ends_at n positive (omega (arith, high.bound)) at

          go : (w ≡ o.end) ⊎ ((suc v < w) × (has (o.before ∷ o.rest) w ≡ true))
              → ((suc v < w) × (has (paths n) w ≡ true)) ⊎ ((w ≡ suc v) × (i ≡ j) × (end_of result ≡ suc v))
          go (inl at) = inr (at ∙ sym (open-end o) ∙ e, top, ap end_of same ∙ e)
          go (inr p) = inl (p.0, g)

      opens-came : Came left j ends paths i n result → opens n ≡ opens i
      opens-came (stays off from same) = ap opens from
      opens-came (moves at into less le same) = go into ∙ sym (ready.ends_open i one within at)
        where
          go : (ends n ≡ true) ⊎ (n ≡ j) → opens n ≡ true
          go (inl e) = ready.ends_open n (omega arith) (omega (arith, high.bound)) e
          go (inr e) = ap opens e ∙ high.is_open
      opens-came (takes top at positive le same) =
          ready.ends_open n positive (omega (arith, high.bound)) at ∙ sym (ap opens top ∙ high.is_open)

      closed-came : Came left j ends paths i n result → opens i ≡ false → (n ≡ i) × (result ≡ paths i)
      closed-came (stays off from same) shut = (from, same)
      closed-came (moves at into less le same) shut = absurd (clash (ready.ends_open i one within at) shut)
      closed-came (takes top at positive le same) shut = absurd (clash (ap opens top ∙ high.is_open) shut)

      within-came : Came left j ends paths i n result → (1 ≤ n) × (n ≤ k)
      within-came (stays off from same) = omega arith
      within-came (moves at into less le same) = omega (arith, high.bound)
      within-came (takes top at positive le same) = omega (arith, high.bound)

    -- Some path of either side ends at v + 1: replace and exchange.
    pub shift_passes : Passed left k s c j v opens paths (downshift left k j ends paths)
    shift_passes =
        record {
          from = source k j ends;
          within = λ i one le. within-came i one le (source k j ends i) (downshift left k j ends paths i) (origin i one le);
          from_one = source_one left k j ends paths high.one high.bound high.top;
          shifted = λ i one le opn. shifted-came i one le (source k j ends i) (downshift left k j ends paths i) opn (origin i one le);
          comes = λ i one le. comes-came i one le (source k j ends i) (downshift left k j ends paths i) (origin i one le);
          from_open = λ i one le. opens-came i one le (source k j ends i) (downshift left k j ends paths i) (origin i one le);
          from_closed = λ i one le. closed-came i one le (source k j ends i) (downshift left k j ends paths i) (origin i one le);
        }
      where
        origin : (i : ℕ) → 1 ≤ i → i ≤ k → Came left j ends paths i (source k j ends i) (downshift left k j ends paths i)
        origin = came left k j ends paths high.one high.bound high.top

-- Where w was in the path of one index at most, it still is.
pub passed-once : {left : ℕ → ℕ → ℕ} {k s c j v : ℕ} {opens : ℕ → Bool} {old new : ℕ → List ℕ} (w : ℕ)
    → Passed left k s c j v opens old new
    → ((i h : ℕ) → 1 ≤ i → i ≤ k → 1 ≤ h → h ≤ k → suc v < w → has (old i) w ≡ true → has (old h) w ≡ true → i ≡ h)
    → (i h : ℕ) → 1 ≤ i → i ≤ k → 1 ≤ h → h ≤ k → suc v ≤ w → has (new i) w ≡ true → has (new h) w ≡ true → i ≡ h
passed-once {left} {k} {s} {c} {j} {v} {opens} {old} {new} w passed once i h one le one' le' upto in_i in_h =
    go (passed.comes i one le w upto in_i) (passed.comes h one' le' w upto in_h)
  where
    go : ((suc v < w) × (has (old (passed.from i)) w ≡ true)) ⊎ ((w ≡ suc v) × (i ≡ j) × (end_of (new i) ≡ suc v))
        → ((suc v < w) × (has (old (passed.from h)) w ≡ true)) ⊎ ((w ≡ suc v) × (h ≡ j) × (end_of (new h) ≡ suc v))
        → i ≡ h
    go (inl p) (inl q) =
        let a : (1 ≤ passed.from i) × (passed.from i ≤ k) = passed.within i one le in
        let b : (1 ≤ passed.from h) × (passed.from h ≤ k) = passed.within h one' le' in
        passed.from_one i h one le one' le' (once (passed.from i) (passed.from h) a.0 a.1 b.0 b.1 p.0 p.1 q.1)
    go (inl p) (inr q) = absurd (omega arith)
    go (inr p) (inl q) = absurd (omega arith)
    go (inr p) (inr q) = omega arith
