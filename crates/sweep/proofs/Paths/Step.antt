-- `step_in` on the two sides' lists is the definition's `slot_after` of the paths that they hold. Over any `left` with the laws,
-- where t and s are in one tree of forest k, and k up to 32.
use Prim.Native.Nat.{ℕ, suc, pred, ◌≤◌, ◌<◌}
use mathlib.Core.Bool.{Bool, true, false, ◌||◌}
use mathlib.Core.List.{List, [], ◌∷◌}
use mathlib.Core.Logic.{inl, inr, ◌≢◌, by_cases}
use mathlib.Core.Path.{◌≡◌, refl, sym, ◌∙◌, ap, ap₂}
use native.Mathlib.Decide.{ℕ_discrete, dec_lt}
use native.Mathlib.Omega.{arith}
use lib.Dec.{eqb}
use borrow.Author.Tests.{eq-eqb, ne_eqb}
use Rattle.definitions.specs.Forests.{Entry}
use Rattle.definitions.specs.Sweep as Sweep
use Rattle.lists.specs.Searches.{largest-same}
use Rattle.theory.specs.PlaceSweep.{Slot, end_of, ends_a, ends_b, highest_at, downshift, shifted_slot, settle, slot_after}
use Rattle.theory.specs.LeftLaws.{LeftLaws}
use Rattle.theory.proofs.Trees.{Alive}
use Rattle.theory.proofs.SweepInvariant.{Sweeping, ClosedSlot}
use Rattle.theory.proofs.SweepReady.{ready_a, ready_b, highest_a, highest_b}
use Rattle.theory.proofs.SweepStep.{never-rests, never-rests-at}
use Rattle.theory.proofs.SweepPaths.{trail-start}
use Rattle.sweep.specs.Side.{end_in, advance, trade_from}
use Rattle.sweep.specs.Sides.{Sides, sides, highest_in, leave_from, pass_at, step_in}
use Rattle.sweep.proofs.Paths.Side.{SideHolds, held-end, side_same}
use Rattle.sweep.proofs.Paths.Downshift.{downshift-holds}
use Rattle.sweep.proofs.Paths.Advance.{advance-holds}
use Rattle.sweep.proofs.Paths.Ready.{ready-ends, shifted-tails}
use Rattle.sweep.proofs.Paths.Slots.{after-t, after_none, after-other, after-highest, settled-goes_a, settled-goes_b, settled-meets_a, settled-meets_b, settled-waits_a, settled-waits_b, at-t-A, at-t-meets, at-t-goes}
use Rattle.sweep.proofs.Paths.StartAndLeave.{leave-holds}

-- Both sides hold the paths of the slots.
pub record SidesHold (k s t : ℕ) (both : Sides) (slots : ℕ → Slot) : Type 0 where
  pub held_a : SideHolds s k s both.side_a (λ i. (slots i).path_a)
  pub held_b : SideHolds s k t both.side_b (λ i. (slots i).path_b)

module _ (left : ℕ → ℕ → ℕ) (look : ℕ → ℕ → Entry) (laws : LeftLaws left) (k s t : ℕ) (less : t < s) (alive : Alive left k t s) (positive : 1 ≤ t)
    (small : k ≤ 32) (agree : (i x : ℕ) → 1 ≤ i → i ≤ k → (look i x).place ≡ left i x) where
  module _ (v : ℕ) (slots : ℕ → Slot) (inv : Sweeping left k s t (suc v) slots) (a b : List ℕ) (now : SidesHold k s t (sides a b) slots) where
    abbrev new : ℕ → Slot
    new = slot_after left k t (suc v) slots

    end_a : (i : ℕ) → 1 ≤ i → i ≤ k → end_in a i ≡ end_of (slots i).path_a
    end_a i one le = held-end a i (slots i).path_a (now.held_a.held i one le)

    end_b : (i : ℕ) → 1 ≤ i → i ≤ k → end_in b i ≡ end_of (slots i).path_b
    end_b i one le = held-end b i (slots i).path_b (now.held_b.held i one le)

    -- At t.
    module _ (at : suc v ≡ t) where
      alone_b : (i : ℕ) → 1 ≤ i → i ≤ k → (slots i).path_b ≡ t ∷ []
      alone_b i one le = go (slots i).is_open refl
        where
          go : (o : Bool) → (slots i).is_open ≡ o → (slots i).path_b ≡ t ∷ []
          go true e = (inv.opened i one le e).alone (omega arith)
          go false e =
              let c : ClosedSlot left k s t (suc v) i (slots i) = inv.closed i one le e in
              absurd (omega (arith, c.above, trail-start left laws k t c.meet c.rest_b c.trail_b))

      t-holds : SidesHold k s t (sides a (leave_from look t a k b)) new
      t-holds =
          record {
            held_a =
                side_same s k s a (λ i. (slots i).path_a) (λ i. (new i).path_a)
                (λ i _ _. ap (λ (x : Slot). x.path_a) (after-t left k t (suc v) slots at i) ∙ at-t-A left t (slots i) i) now.held_a;
            held_b =
                leave-holds left look s k small agree t positive a (λ i. (new i).path_b)
                (λ i one le ends.
                ap (λ (x : Slot). x.path_b) (after-t left k t (suc v) slots at i)
                ∙ at-t-meets left t (slots i) i (sym (end_a i one le) ∙ ends) ∙ alone_b i one le)
                (λ i one le off.
                let off' : end_of (slots i).path_a ≢ t = λ e. off (end_a i one le ∙ e) in
                ap (λ (x : Slot). x.path_b) (after-t left k t (suc v) slots at i)
                ∙ at-t-goes left t (slots i) i off' (never-rests-at left laws k s t less alive v slots inv at i one le off')
                ∙ ap (λ (p : List ℕ). left i t ∷ p) (alone_b i one le))
                b (side_same s k t b (λ i. (slots i).path_b) (λ i. t ∷ []) (λ i one le. sym (alone_b i one le)) now.held_b);
          }

    -- Elsewhere.
    module _ (other : suc v ≢ t) where
      abbrev j : ℕ
      j = highest_at k t (suc v) slots

      tests_a : (i : ℕ) → 1 ≤ i → i ≤ k → ends_a (suc v) (slots i) ≡ eqb (end_of (slots i).path_a) (suc v)
      tests_a =
          ready-ends left laws k s s (suc v) (λ i. (slots i).is_open) (λ i. ends_a (suc v) (slots i)) (λ i. (slots i).path_a)
          (ready_a left laws k s t (suc v) slots inv) (omega arith)

      tests_b : (i : ℕ) → 1 ≤ i → i ≤ k → ends_b t (suc v) (slots i) ≡ eqb (end_of (slots i).path_b) (suc v)
      tests_b =
          ready-ends left laws k s t (suc v) (λ i. (slots i).is_open) (λ i. ends_b t (suc v) (slots i)) (λ i. (slots i).path_b)
          (ready_b left laws k s t (suc v) slots inv other) (omega arith)

      found : highest_in k (suc v) a b ≡ j
      unfolding highest_in Sweep.highest_at
      found =
          largest-same (λ i. eqb (end_in a i) (suc v) || eqb (end_in b i) (suc v)) (λ i. ends_a (suc v) (slots i) || ends_b t (suc v) (slots i)) k
          (λ i one le. ap₂ ◌||◌
          (ap (λ (x : ℕ). eqb x (suc v)) (end_a i one le) ∙ sym (tests_a i one le))
          (ap (λ (x : ℕ). eqb x (suc v)) (end_b i one le) ∙ sym (tests_b i one le)))

      none-holds : j ≡ 0 → SidesHold k s t (sides a b) new
      none-holds none =
          record {
            held_a = side_same s k s a (λ i. (slots i).path_a) (λ i. (new i).path_a) (λ i _ _. ap (λ (x : Slot). x.path_a) (after_none left k t (suc v) slots other none i)) now.held_a;
            held_b = side_same s k t b (λ i. (slots i).path_b) (λ i. (new i).path_b) (λ i _ _. ap (λ (x : Slot). x.path_b) (after_none left k t (suc v) slots other none i)) now.held_b;
          }

      module _ (some : 0 < j) where
        abbrev shift_a : ℕ → List ℕ
        shift_a = downshift left k j (λ i. ends_a (suc v) (slots i)) (λ i. (slots i).path_a)

        abbrev shift_b : ℕ → List ℕ
        shift_b = downshift left k j (λ i. ends_b t (suc v) (slots i)) (λ i. (slots i).path_b)

        abbrev a' : List ℕ
        a' = trade_from look (suc v) j (pred j) a

        abbrev b' : List ℕ
        b' = trade_from look (suc v) j (pred j) b

        bound : j ≤ k
        bound = (highest_a k t (suc v) slots some).bound

        held_a' : SideHolds s k s a' shift_a
        held_a' =
            downshift-holds left look s k s j (suc v) (λ i. ends_a (suc v) (slots i)) (λ i. (slots i).path_a) some bound small
            (highest_a k t (suc v) slots some).top agree tests_a a now.held_a

        held_b' : SideHolds s k t b' shift_b
        held_b' =
            downshift-holds left look s k t j (suc v) (λ i. ends_b t (suc v) (slots i)) (λ i. (slots i).path_b) some bound small
            (highest_b k t (suc v) slots some).top agree tests_b b now.held_b

        end_a' : end_in a' j ≡ end_of (shift_a j)
        end_a' = held-end a' j (shift_a j) (held_a'.held j some bound)

        end_b' : end_in b' j ≡ end_of (shift_b j)
        end_b' = held-end b' j (shift_b j) (held_b'.held j some bound)

        abbrev shifted : Slot
        shifted = shifted_slot left k t (suc v) j slots j

        highest_path : (f : Slot → List ℕ) → f (new j) ≡ f (settle left (suc v) j shifted)
        highest_path f = ap f (after-highest left k t (suc v) slots other some)

        other_path : (f : Slot → List ℕ) (i : ℕ) → i ≢ j → f (new i) ≡ f (shifted_slot left k t (suc v) j slots i)
        other_path f i apart = ap f (after-other left k t (suc v) slots other some i apart)

        side_a : SideHolds s k s (advance look (suc v) j (end_in b' j) a') (λ i. (new i).path_a)
        unfolding Sweep.shifted_slot
        side_a =
            advance-holds look s k s (suc v) j a' shift_a small (omega arith) (omega (arith, inv.below)) (λ e. omega (arith, inv.below)) some bound held_a'
            (shifted-tails left laws k s s (suc v) (λ i. (slots i).is_open) (λ i. ends_a (suc v) (slots i)) (λ i. (slots i).path_a)
            (ready_a left laws k s t (suc v) slots inv) j (highest_a k t (suc v) slots some))
            (end_in b' j) (λ i. (new i).path_a) (λ i apart. other_path (λ x. x.path_a) i apart)
            (λ at off.
            let off' : end_of shifted.path_b ≢ suc v = λ e. off (end_b' ∙ e) in
            highest_path (λ x. x.path_a)
            ∙ settled-goes_a left (suc v) j shifted at off' (never-rests left laws k s t less alive v slots inv other some (inr off'))
            ∙ ap (λ (x : ℕ). x ∷ shift_a j) (sym (agree j (suc v) some bound)))
            (λ at at'. highest_path (λ x. x.path_a) ∙ settled-meets_a left (suc v) j shifted at (sym end_b' ∙ at'))
            (λ off. highest_path (λ x. x.path_a) ∙ settled-waits_a left (suc v) j shifted off)

        side_b : SideHolds s k t (advance look (suc v) j (end_in a' j) b') (λ i. (new i).path_b)
        unfolding Sweep.shifted_slot
        side_b =
            advance-holds look s k t (suc v) j b' shift_b small (omega arith) (omega (arith, inv.below)) other some bound held_b'
            (shifted-tails left laws k s t (suc v) (λ i. (slots i).is_open) (λ i. ends_b t (suc v) (slots i)) (λ i. (slots i).path_b)
            (ready_b left laws k s t (suc v) slots inv other) j (highest_b k t (suc v) slots some))
            (end_in a' j) (λ i. (new i).path_b) (λ i apart. other_path (λ x. x.path_b) i apart)
            (λ at off.
            let off' : end_of shifted.path_a ≢ suc v = λ e. off (end_a' ∙ e) in
            highest_path (λ x. x.path_b)
            ∙ settled-goes_b left (suc v) j shifted at off' (never-rests left laws k s t less alive v slots inv other some (inl off'))
            ∙ ap (λ (x : ℕ). x ∷ shift_b j) (sym (agree j (suc v) some bound)))
            (λ at at'. highest_path (λ x. x.path_b) ∙ settled-meets_b left (suc v) j shifted (sym end_a' ∙ at') at)
            (λ off. highest_path (λ x. x.path_b) ∙ settled-waits_b left (suc v) j shifted off)

    pub step-holds : SidesHold k s t (step_in look k t (suc v) a b) new
    unfolding step_in pass_at
    step-holds =
        by_cases (ℕ_discrete (suc v) t)
        (λ at. rw (eq-eqb (suc v) t at) (t-holds at))
        (λ other.
        by_cases (dec_lt 0 (highest_at k t (suc v) slots))
        (λ some.
        rw (ne_eqb (suc v) t other, found other, ne_eqb (highest_at k t (suc v) slots) 0 (λ e. omega arith))
        (record { held_a = side_a other some; held_b = side_b other some }))
        (λ none.
        let zero' : highest_at k t (suc v) slots ≡ 0 = omega arith in
        rw (ne_eqb (suc v) t other, found other, eq-eqb (highest_at k t (suc v) slots) 0 zero') (none-holds other zero')))
