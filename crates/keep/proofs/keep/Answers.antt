-- `keep::keep` meets its contract: the line in front departs, or the network behind it is read.
use Prim.Native.Nat.{ℕ, ◌-◌, ◌≤◌}
use mathlib.Core.Path.{◌≡◌, sym, ap}
use mathlib.Core.List.{List, [], ◌∷◌}
use native.Mathlib.Omega.{arith}
use lib.ListN.{length, take, drop}
use Rattle.network.specs.Answers.{refusal_of}
use Rattle.network.specs.declared.refusal.Refusal.TheVariants.{Wish}
use Rattle.definitions.specs.Form.{departs, reads, scan_form}
use Rattle.definitions.specs.Program.{printed}
use Rattle.definitions.specs.Keep.{keep_form, lease_room, lease_text, keep_text}
use Rattle.keep.specs.Longest.{keep-length}
use Rattle.program.specs.ReadStage.{whole-put}
use Rattle.keep.specs.Stages.{read_stage, keep-departed, keep_taken}
use Rattle.keep.proofs.keep.Goals as goal

departed : (input : List ℕ) (p : ℕ) → scan_form input keep_form 0 ≡ departs p
    → keep_text input ≡ printed lease_text (refusal_of (Wish p))
unfolding keep_text
departed input p e = ap (printed lease_text) (keep-departed input p e)

taken : (input : List ℕ) (k p : ℕ) → scan_form input keep_form 0 ≡ reads (k ∷ []) p
    → (p ≤ length input) × (keep_text input ≡ printed lease_text (read_stage (take (length input - p) (drop p input)) k))
unfolding keep_text
taken input k p e =
    let read = keep_taken input k p e in
    (read.0, ap (printed lease_text) read.1)

pub keep_network-requires : goal.keep_network-requires
unfolding lease_room
keep_network-requires c =
    let input = c.args.input.now in
    let is = (taken input c.in-Ok.k c.in-Ok.p (sym c.in-Ok.ensures)).1 in
    omega (arith, keep-length input, ap length is)

pub slice_bounds-keep_network-start : goal.slice_bounds-keep_network-start
slice_bounds-keep_network-start c = (taken c.args.input.now c.in-Ok.k c.in-Ok.p (sym c.in-Ok.ensures)).0

pub slice_bounds-keep_network-count : goal.slice_bounds-keep_network-count
slice_bounds-keep_network-count c = (taken c.args.input.now c.in-Ok.k c.in-Ok.p (sym c.in-Ok.ensures)).0

pub put_refusal-requires : goal.put_refusal-requires
unfolding printed lease_room
put_refusal-requires c =
    let input = c.args.input.now in
    let is = departed input c.in-Err.departure.0 (sym c.in-Err.ensures) in
    omega (arith, keep-length input, ap length is)

pub returns-in-Ok : goal.returns-in-Ok
unfolding lease_room
returns-in-Ok c =
    let input = c.args.input.now in
    let is = (taken input c.in-Ok.k c.in-Ok.p (sym c.in-Ok.ensures)).1 in
    let whole = whole-put _ _ _ _ _ is (omega (arith, keep-length input)) c.keep_network.ensures in
    record { length = whole.0; bytes = whole.1 }

pub returns-in-Err : goal.returns-in-Err
unfolding printed lease_room
returns-in-Err c =
    let input = c.args.input.now in
    let is = departed input c.in-Err.departure.0 (sym c.in-Err.ensures) in
    let whole = whole-put _ _ _ _ _ is (omega (arith, keep-length input)) c.put_refusal.ensures in
    record { length = whole.0; bytes = whole.1 }
