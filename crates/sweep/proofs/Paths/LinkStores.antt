-- What the two stores into a side, `set_path` and `set_prior`, leave of the links beside its paths. Over sides of at least prior_start
-- entries and indices up to 32.
use Prim.Native.Nat.{ℕ, ◌+◌, ◌*◌, ◌≤◌, ◌<◌}
use mathlib.Core.List.{List}
use mathlib.Core.Logic.{◌≢◌}
use mathlib.Core.Path.{◌≡◌, ◌∙◌}
use native.Mathlib.Omega.{arith}
use lib.ListN.{length, set, length-set}
use lib.Seq.{get_or-set_same, get_or-set_other}
use Rattle.definitions.specs.Forests.{Entry}
use Rattle.sweep.specs.Side.{second_start, link_start, prior_start, link_in, prior_link_in, set_path, set_prior}

module _ (side : List ℕ) (i : ℕ) (end : Entry) (second : ℕ) where
  -- The list after the first store, and after the second.
  abbrev ended : List ℕ
  ended = set side i end.place

  abbrev joined : List ℕ
  joined = set ended (second_start + i) second

  pub link-set_path : prior_start ≤ length side → i ≤ 32 → link_in (set_path side i end second) i ≡ end.link
  unfolding set_path link_in
  link-set_path long small =
      get_or-set_same joined (link_start + i) end.link 0
      (omega (arith, length-set ended (second_start + i) second, length-set side i end.place))

  pub link-set_path-other : (h : ℕ) → h ≢ i → i ≤ 32 → h ≤ 32 → link_in (set_path side i end second) h ≡ link_in side h
  unfolding set_path link_in
  link-set_path-other h other small within =
      get_or-set_other joined (link_start + i) (link_start + h) end.link 0 (λ e. other (omega arith))
      ∙ get_or-set_other ended (second_start + i) (link_start + h) second 0 (λ e. omega arith)
      ∙ get_or-set_other side i (link_start + h) end.place 0 (λ e. omega arith)

  pub prior_link-set_path : i ≤ 32 → (x : ℕ) → prior_link_in (set_path side i end second) x ≡ prior_link_in side x
  unfolding set_path prior_link_in
  prior_link-set_path small x =
      get_or-set_other joined (link_start + i) (prior_start + (2 * x + 1)) end.link 0 (λ e. omega arith)
      ∙ get_or-set_other ended (second_start + i) (prior_start + (2 * x + 1)) second 0 (λ e. omega arith)
      ∙ get_or-set_other side i (prior_start + (2 * x + 1)) end.place 0 (λ e. omega arith)

module _ (side : List ℕ) (v second link : ℕ) where
  abbrev placed : List ℕ
  placed = set side (prior_start + 2 * v) second

  pub link-set_prior : (i : ℕ) → i ≤ 32 → link_in (set_prior side v second link) i ≡ link_in side i
  unfolding set_prior link_in
  link-set_prior i small =
      get_or-set_other placed (prior_start + (2 * v + 1)) (link_start + i) link 0 (λ e. omega arith)
      ∙ get_or-set_other side (prior_start + 2 * v) (link_start + i) second 0 (λ e. omega arith)

  pub prior_link-set_prior : prior_start + (2 * v + 1) < length side → prior_link_in (set_prior side v second link) v ≡ link
  unfolding set_prior prior_link_in
  prior_link-set_prior long =
      get_or-set_same placed (prior_start + (2 * v + 1)) link 0 (omega (arith, length-set side (prior_start + 2 * v) second))

  pub prior_link-set_prior-other : (x : ℕ) → x ≢ v → prior_link_in (set_prior side v second link) x ≡ prior_link_in side x
  unfolding set_prior prior_link_in
  prior_link-set_prior-other x other =
      get_or-set_other placed (prior_start + (2 * v + 1)) (prior_start + (2 * x + 1)) link 0 (λ e. other (omega arith))
      ∙ get_or-set_other side (prior_start + 2 * v) (prior_start + (2 * x + 1)) second 0 (λ e. omega arith)
