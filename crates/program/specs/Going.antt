-- A writing under way: what is left of the bytes that are due, and where they go. Assumes nothing.
use Rattle.std.specs.Prelude.{ℕ, ◌+◌, List, [], ◌++◌, ◌≡◌, refl, length}
use Rattle.std.proofs.Common.{sym, ◌∙◌, arith, length-append}
use Rattle.std.proofs.lemmas.List.Edits.{sets}
use Rattle.lists.specs.Stores.{sets-append}
use Rattle.text.specs.Put.{Put}

-- Writing `whole` at `at` is, from here on, writing `rest` at `p` of the list as it is now.
pub record Going (before : List ℕ) (at : ℕ) (whole after : List ℕ) (p : ℕ) (rest : List ℕ) : Type 0 where
  pub bytes : sets before at whole ≡ sets after p rest
  pub ends : at + length whole ≡ p + length rest
  pub same : length after ≡ length before

pub going_start : (before : List ℕ) (at : ℕ) (whole : List ℕ) → Going before at whole before at whole
going_start before at whole = record { bytes = refl; ends = refl; same = refl }

pub going_step : (before : List ℕ) (at : ℕ) (whole mid : List ℕ) (p : ℕ) (due first rest after : List ℕ) (q : ℕ)
    → Going before at whole mid p due → due ≡ first ++ rest → Put mid p first after q → Going before at whole after q rest
going_step before at whole mid p due first rest after q going split put =
    let due-length : length due ≡ length first + length rest = rw split (length-append first rest) in
    record {
      bytes = going.bytes ∙ rw split (sets-append first rest mid p ∙ rw (put.bytes, put.ends));
      ends = omega (arith, going.ends, put.ends);
      same = put.same ∙ going.same;
    }

pub going_end : (before : List ℕ) (at : ℕ) (whole after : List ℕ) (p : ℕ) → Going before at whole after p []
    → Put before at whole after p
going_end before at whole after p going =
    record { bytes = sym going.bytes; ends = omega (arith, going.ends); same = going.same }
