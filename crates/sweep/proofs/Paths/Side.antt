-- A side's list holds a path of the sweep: its end and last but one stand at its index, and from there each place has the one
-- before it, up to the start, which has none. What the two stores into a side, `set_path` and `set_prior`, leave of the paths that
-- it holds. Over sides of at least prior_start entries and indices up to 32.
use Prim.Native.Nat.{ℕ, ◌+◌, ◌*◌, ◌≤◌, ◌<◌}
use mathlib.Core.Bool.{true}
use mathlib.Core.List.{List, [], ◌∷◌, tail}
use mathlib.Core.Logic.{◌≢◌}
use mathlib.Core.Path.{◌≡◌, sym, ◌∙◌, subst}
use native.Mathlib.Omega.{arith}
use lib.ListN.{length, set, length-set}
use lib.Seq.{get_or-set_same, get_or-set_other}
use Rattle.definitions.specs.Lists.{has}
use Rattle.definitions.specs.Forests.{Entry}
use Rattle.definitions.specs.Sweep as Sweep
use Rattle.lists.specs.Cases.{has_here, has_there}
use Rattle.sweep.specs.Side.{second_start, link_start, prior_start, end_in, second_in, prior_in, set_path, set_prior}
use Rattle.theory.specs.PlaceSweep.{end_of, before_end}

-- From x back to the start of its path stand these relays.
abbrev pub Chain : List ℕ → ℕ → List ℕ → Type 0
Chain side x [] = x ≡ 0
Chain side x (y ∷ rest) = (x ≡ y) × (0 < y) × Chain side (prior_in side y) rest

-- Index i of a side has this path.
abbrev pub HoldsPath : List ℕ → ℕ → List ℕ → Type 0
HoldsPath side i [] = ⊥
HoldsPath side i (x ∷ rest) = (end_in side i ≡ x) × Chain side (second_in side i) rest

-- The side has room for the places up to `reach` and these paths at the indices 1 to k, and its start c is the first relay of
-- its path.
pub record SideHolds (reach k c : ℕ) (side : List ℕ) (paths : ℕ → List ℕ) : Type 0 where
  pub long : prior_start + (2 * reach + 1) < length side
  pub base : prior_in side c ≡ 0
  pub held : (i : ℕ) → 1 ≤ i → i ≤ k → HoldsPath side i (paths i)

-- A side that holds equal paths.
pub side_same : (reach k c : ℕ) (side : List ℕ) (old new : ℕ → List ℕ) → ((i : ℕ) → 1 ≤ i → i ≤ k → new i ≡ old i) → SideHolds reach k c side old
    → SideHolds reach k c side new
side_same reach k c side old new same held =
    record {
      long = held.long;
      base = held.base;
      held = λ i one le. subst (λ (p : List ℕ). HoldsPath side i p) (sym (same i one le)) (held.held i one le);
    }

pub held-end : (side : List ℕ) (i : ℕ) (path : List ℕ) → HoldsPath side i path → end_in side i ≡ end_of path
unfolding Sweep.end_of
held-end side i [] h = absurd h
held-end side i (x ∷ rest) h = h.0

chain_head : (side : List ℕ) (x : ℕ) (path : List ℕ) → Chain side x path → x ≡ end_of path
unfolding Sweep.end_of
chain_head side x [] e = e
chain_head side x (y ∷ rest) h = h.0

pub held-before : (side : List ℕ) (i : ℕ) (path : List ℕ) → HoldsPath side i path → second_in side i ≡ before_end path
unfolding Sweep.before_end
held-before side i [] h = absurd h
held-before side i (x ∷ rest) h = chain_head side (second_in side i) rest h.1

pub held-chain : (side : List ℕ) (i : ℕ) (path : List ℕ) → HoldsPath side i path → Chain side (second_in side i) (tail path)
held-chain side i [] h = absurd h
held-chain side i (x ∷ rest) h = h.1

-- A chain whose relays keep their predecessors.
pub chain_same : (side side' : List ℕ) (x : ℕ) (path : List ℕ) → ((y : ℕ) → has path y ≡ true → prior_in side' y ≡ prior_in side y)
    → Chain side x path → Chain side' x path
chain_same side side' x [] same e = e
chain_same side side' x (y ∷ rest) same h =
    let deeper : Chain side' (prior_in side y) rest =
    chain_same side side' (prior_in side y) rest (λ z into. same z (has_there y rest z into)) h.2 in
    (h.0, h.1, subst (λ (z : ℕ). Chain side' z rest) (sym (same y (has_here y rest))) deeper)

pub held_same : (side side' : List ℕ) (i : ℕ) (path : List ℕ) → end_in side' i ≡ end_in side i → second_in side' i ≡ second_in side i
    → ((y : ℕ) → has (tail path) y ≡ true → prior_in side' y ≡ prior_in side y) → HoldsPath side i path → HoldsPath side' i path
held_same side side' i [] e u same h = absurd h
held_same side side' i (x ∷ rest) e u same h =
    (e ∙ h.0, subst (λ (z : ℕ). Chain side' z rest) (sym u) (chain_same side side' (second_in side i) rest same h.1))

module _ (side : List ℕ) (i : ℕ) (end : Entry) (second : ℕ) where
  -- The list after the first store, and after the second.
  abbrev ended : List ℕ
  ended = set side i end.place

  abbrev joined : List ℕ
  joined = set ended (second_start + i) second

  pub length-set_path : length (set_path side i end second) ≡ length side
  unfolding set_path
  length-set_path =
      length-set joined (link_start + i) end.link ∙ length-set ended (second_start + i) second ∙ length-set side i end.place

  pub prior-set_path : i ≤ 32 → (x : ℕ) → prior_in (set_path side i end second) x ≡ prior_in side x
  unfolding set_path prior_in
  prior-set_path small x =
      get_or-set_other joined (link_start + i) (prior_start + 2 * x) end.link 0 (λ e. omega arith)
      ∙ get_or-set_other ended (second_start + i) (prior_start + 2 * x) second 0 (λ e. omega arith)
      ∙ get_or-set_other side i (prior_start + 2 * x) end.place 0 (λ e. omega arith)

  pub end-set_path : prior_start ≤ length side → i ≤ 32 → end_in (set_path side i end second) i ≡ end.place
  unfolding set_path end_in
  end-set_path long small =
      get_or-set_other joined (link_start + i) i end.link 0 (λ e. omega arith)
      ∙ get_or-set_other ended (second_start + i) i second 0 (λ e. omega arith)
      ∙ get_or-set_same side i end.place 0 (omega arith)

  pub second-set_path : prior_start ≤ length side → i ≤ 32 → second_in (set_path side i end second) i ≡ second
  unfolding set_path second_in
  second-set_path long small =
      get_or-set_other joined (link_start + i) (second_start + i) end.link 0 (λ e. omega arith)
      ∙ get_or-set_same ended (second_start + i) second 0 (omega (arith, length-set side i end.place))

  module _ (h : ℕ) (other : h ≢ i) (small : i ≤ 32) (within : h ≤ 32) where
    pub end-set_path-other : end_in (set_path side i end second) h ≡ end_in side h
    unfolding set_path end_in
    end-set_path-other =
        get_or-set_other joined (link_start + i) h end.link 0 (λ e. omega arith)
        ∙ get_or-set_other ended (second_start + i) h second 0 (λ e. omega arith)
        ∙ get_or-set_other side i h end.place 0 other

    pub second-set_path-other : second_in (set_path side i end second) h ≡ second_in side h
    unfolding set_path second_in
    second-set_path-other =
        get_or-set_other joined (link_start + i) (second_start + h) end.link 0 (λ e. omega arith)
        ∙ get_or-set_other ended (second_start + i) (second_start + h) second 0 (λ e. other (omega arith))
        ∙ get_or-set_other side i (second_start + h) end.place 0 (λ e. omega arith)

    -- The paths of the other indices stay.
    pub held-set_path-other : (path : List ℕ) → HoldsPath side h path → HoldsPath (set_path side i end second) h path
    held-set_path-other path =
        held_same side (set_path side i end second) h path end-set_path-other second-set_path-other (λ y _. prior-set_path small y)

  -- The path that was set.
  pub held-set_path : prior_start ≤ length side → i ≤ 32 → (rest : List ℕ) → Chain side second rest
      → HoldsPath (set_path side i end second) i (end.place ∷ rest)
  held-set_path long small rest chain =
      let new : List ℕ = set_path side i end second in (
        end-set_path long small,
        subst (λ (z : ℕ). Chain new z rest) (sym (second-set_path long small))
            (chain_same side new second rest (λ y _. prior-set_path small y) chain),
      )

-- The relay before v is stored, and the link from there.
module _ (side : List ℕ) (v second link : ℕ) where
  abbrev placed : List ℕ
  placed = set side (prior_start + 2 * v) second

  pub length-set_prior : length (set_prior side v second link) ≡ length side
  unfolding set_prior
  length-set_prior = length-set placed (prior_start + (2 * v + 1)) link ∙ length-set side (prior_start + 2 * v) second

  pub end-set_prior : (i : ℕ) → i ≤ 32 → end_in (set_prior side v second link) i ≡ end_in side i
  unfolding set_prior end_in
  end-set_prior i small =
      get_or-set_other placed (prior_start + (2 * v + 1)) i link 0 (λ e. omega arith)
      ∙ get_or-set_other side (prior_start + 2 * v) i second 0 (λ e. omega arith)

  pub second-set_prior : (i : ℕ) → i ≤ 32 → second_in (set_prior side v second link) i ≡ second_in side i
  unfolding set_prior second_in
  second-set_prior i small =
      get_or-set_other placed (prior_start + (2 * v + 1)) (second_start + i) link 0 (λ e. omega arith)
      ∙ get_or-set_other side (prior_start + 2 * v) (second_start + i) second 0 (λ e. omega arith)

  pub prior-set_prior : prior_start + 2 * v < length side → prior_in (set_prior side v second link) v ≡ second
  unfolding set_prior prior_in
  prior-set_prior long =
      get_or-set_other placed (prior_start + (2 * v + 1)) (prior_start + 2 * v) link 0 (λ e. omega arith)
      ∙ get_or-set_same side (prior_start + 2 * v) second 0 long

  pub prior-set_prior-other : (x : ℕ) → x ≢ v → prior_in (set_prior side v second link) x ≡ prior_in side x
  unfolding set_prior prior_in
  prior-set_prior-other x other =
      get_or-set_other placed (prior_start + (2 * v + 1)) (prior_start + 2 * x) link 0 (λ e. omega arith)
      ∙ get_or-set_other side (prior_start + 2 * v) (prior_start + 2 * x) second 0 (λ e. other (omega arith))
