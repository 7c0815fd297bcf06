-- Both sides of the sweep, A and B: the start, the step at a place and the sweep, as the loops run. Assumes nothing.
use Rattle.std.specs.Prelude.{ℕ, zero, suc, pred, ◌||◌, List, Option, None, Some, eqb}
use Rattle.definitions.specs.Outcome.{pick}
use Rattle.definitions.specs.Lists.{largest}
use Rattle.definitions.specs.Forests.{Entry}
use Rattle.sweep.specs.Side.{end_in, set_path, advance, trade_from}

pub record Sides : Type 0 where
  pub side_a : List ℕ
  pub side_b : List ℕ

abbrev pub sides : List ℕ → List ℕ → Sides
sides a b = record { side_a = a; side_b = b }

-- The largest index up to k whose A-path or B-path ends at v, or 0.
unfoldable pub highest_in : (k v : ℕ) (a b : List ℕ) → ℕ
highest_in k v a b = largest (λ i. eqb (end_in a i) v || eqb (end_in b i) v) k

-- The same with None for 0.
unfoldable pub some_index : ℕ → Option ℕ
some_index zero = None
some_index (suc i) = Some (suc i)

-- Path i for i, …, 1 of side A starts as s, left(i, s).
unfoldable pub start_a : (look : ℕ → ℕ → Entry) (s i : ℕ) (a : List ℕ) → List ℕ
start_a look s zero a = a
start_a look s (suc i) a = start_a look s i (set_path a (suc i) (look (suc i) s) s)

-- Path i for i, …, 1 of side B starts as t alone.
unfoldable pub start_b : (t i : ℕ) (b : List ℕ) → List ℕ
start_b t zero b = b
start_b t (suc i) b = start_b t i (set_path b (suc i) (record { place = t; link = 0 }) 0)

-- B-path i goes on from t to left(i, t) unless A-path i ends at t; for i, …, 1.
unfoldable pub leave_at : (look : ℕ → ℕ → Entry) (t : ℕ) (a : List ℕ) (i : ℕ) (b : List ℕ) → List ℕ
leave_at look t a i b = pick (eqb (end_in a i) t) b (set_path b i (look i t) t)

unfoldable pub leave_from : (look : ℕ → ℕ → Entry) (t : ℕ) (a : List ℕ) (i : ℕ) (b : List ℕ) → List ℕ
leave_from look t a zero b = b
leave_from look t a (suc i) b = leave_from look t a i (leave_at look t a (suc i) b)

-- At v both sides trade for j, and its two paths meet or go on.
unfoldable pub pass_at : (look : ℕ → ℕ → Entry) (v j : ℕ) (a b : List ℕ) → Sides
pass_at look v j a b =
    let a' = trade_from look v j (pred j) a in
    let b' = trade_from look v j (pred j) b in
    sides (advance look v j (end_in b' j) a') (advance look v j (end_in a' j) b')

-- The step at v.
unfoldable pub step_in : (look : ℕ → ℕ → Entry) (k t v : ℕ) (a b : List ℕ) → Sides
step_in look k t v a b =
    let j = highest_in k v a b in
    pick (eqb v t) (sides a (leave_from look t a k b)) (pick (eqb j 0) (sides a b) (pass_at look v j a b))

-- The steps at v, …, 1.
unfoldable pub sweep_in : (look : ℕ → ℕ → Entry) (k t v : ℕ) (a b : List ℕ) → Sides
sweep_in look k t zero a b = sides a b
sweep_in look k t (suc v) a b =
    let after = step_in look k t (suc v) a b in
    sweep_in look k t v after.side_a after.side_b

-- The sweep from the start.
unfoldable pub swept_in : (look : ℕ → ℕ → Entry) (k s t : ℕ) (a b : List ℕ) → Sides
swept_in look k s t a b = sweep_in look k t (pred s) (start_a look s k a) (start_b t k b)
