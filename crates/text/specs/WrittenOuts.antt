-- The `out` lines of a list of states relay by relay, and how a buffer takes them. Assumes nothing.
use Rattle.std.specs.Prelude.{ℕ, zero, suc, ◌+◌, ◌-◌, ◌≤◌, ◌<◌, List, [], ◌∷◌, ◌++◌, ◌≡◌, refl, length, get_or}
use Rattle.std.proofs.Common.{sym, ◌∙◌, ap, arith, length-append, eq-eqb, ne_eqb}
use Rattle.std.proofs.lemmas.List.Edits.{sets}
use Rattle.definitions.specs.Form.{write_form}
use Rattle.definitions.specs.Text.{out_form, out_line, out_lines}
use Rattle.text.specs.Put.{Put, put_rest}

-- The line of a relay: one where it is withdrawn, and none where it is in service.
pub line-out : (state r : ℕ) → state ≡ 0 → out_line state r ≡ write_form out_form (r ∷ [])
unfolding out_line
line-out state r e = rw (eq-eqb state 0 e)

pub line-none : (state r : ℕ) → (state ≡ 0 → ⊥) → out_line state r ≡ []
unfolding out_line
line-none state r e = rw (ne_eqb state 0 e)

-- Nothing is written.
pub put-none : (buffer : List ℕ) (at : ℕ) → Put buffer at [] buffer at
put-none buffer at = record { bytes = refl; ends = omega arith; same = refl }

-- The lines of the relays from r on.
abbrev pub outs_from : List ℕ → ℕ → List ℕ
outs_from states r = out_lines states r (length states - r)

-- The first of them, and none.
pub outs-step : (states : List ℕ) (r : ℕ) → r < length states
    → outs_from states r ≡ out_line (get_or states r 0) r ++ outs_from states (r + 1)
unfolding out_lines
outs-step states r h =
    let more : length states - r ≡ suc (length states - (r + 1)) = omega arith in
    rw more

pub outs-end : (states : List ℕ) (r : ℕ) → length states ≤ r → outs_from states r ≡ []
unfolding out_lines
outs-end states r h =
    let e : length states - r ≡ 0 = omega arith in
    rw e

pub length-outs-step : (states : List ℕ) (r : ℕ) → r < length states
    → length (outs_from states r) ≡ length (out_line (get_or states r 0) r) + length (outs_from states (r + 1))
length-outs-step states r h =
    ap length (outs-step states r h) ∙ length-append (out_line (get_or states r 0) r) (outs_from states (r + 1))

pub outs-all : (states : List ℕ) → outs_from states 0 ≡ out_lines states 0 (length states)
outs-all states =
    let e : length states - 0 ≡ length states = omega arith in
    rw e

-- A number that none of the first `count` states is below.
abbrev pub AtMostEach : ℕ → List ℕ → ℕ → Type 0
AtMostEach least states count = (r : ℕ) → r < count → least ≤ get_or states r 0

-- Where no state is 0 there is no line.
none_within : (states : List ℕ) (count r : ℕ) → ((i : ℕ) → i < r + count → 0 < get_or states i 0) → out_lines states r count ≡ []
unfolding out_lines
none_within states zero r serve = refl
none_within states (suc count) r serve =
    let here : 0 < get_or states r 0 = serve r (omega arith) in
    rw (
      line-none (get_or states r 0) r (λ e. omega arith),
      none_within states count (r + 1) (λ i h. serve i (omega arith)),
    )

pub outs-none : (least : ℕ) (states : List ℕ) → AtMostEach least states (length states) → (least ≡ 0 → ⊥)
    → out_lines states 0 (length states) ≡ []
outs-none least states each positive =
    none_within states (length states) 0 (λ i h. omega (arith, each i (omega arith), positive))

-- ---- all lines, into the buffer `start` from an offset on
module _ (start : List ℕ) (at : ℕ) (states : List ℕ) where
  -- Behind the lines of the relays below r: the whole run of stores is that of what is left, on the buffer as it is.
  pub record OutsStanding (buffer : List ℕ) (p r : ℕ) : Type 0 where
    pub within : r ≤ length states
    pub same : length buffer ≡ length start
    pub ends : p + length (outs_from states r) ≡ at + length (out_lines states 0 (length states))
    pub bytes : sets start at (out_lines states 0 (length states)) ≡ sets buffer p (outs_from states r)

  pub outs-first : OutsStanding start at 0
  outs-first =
      record {
        within = omega arith;
        same = refl;
        ends = rw (outs-all states);
        bytes = rw (outs-all states);
      }

  pub outs-put : (buffer after : List ℕ) (p q r : ℕ) → OutsStanding buffer p r → r < length states
      → Put buffer p (out_line (get_or states r 0) r) after q → OutsStanding after q (r + 1)
  outs-put buffer after p q r s h put =
      record {
        within = omega arith;
        same = put.same ∙ s.same;
        ends = omega (arith, s.ends, put.ends, length-outs-step states r h);
        bytes = s.bytes
            ∙ ap (sets buffer p) (outs-step states r h)
            ∙ put_rest buffer (out_line (get_or states r 0) r) after (outs_from states (r + 1)) p q put;
      }

  pub outs-written : (buffer : List ℕ) (p r : ℕ) → OutsStanding buffer p r → length states ≤ r
      → Put start at (out_lines states 0 (length states)) buffer p
  outs-written buffer p r s h =
      record {
        bytes = sym (s.bytes ∙ ap (sets buffer p) (outs-end states r h));
        ends = omega (arith, s.ends, ap length (outs-end states r h));
        same = s.same;
      }
