-- What the lines of a set tell decides what it is refused for; a set with no fault is joined. Assumes nothing.
use Rattle.std.specs.Prelude.{⊤, Result, Ok, Err}
use Prim.Native.Nat.{ℕ, ◌≤◌}
use mathlib.Core.Bool.{Bool, true, false}
use mathlib.Core.List.{List, []}
use mathlib.Core.Path.{◌≡◌, refl, ◌∙◌, ap, subst, fun_ext}
use native.Mathlib.Omega.{arith}
use lib.ListN.{length, get_or}
use Rattle.definitions.specs.Outcome.{pick, refused, done, refuse_if, and_then}
use Rattle.definitions.specs.Lists.{table, outside}
use Rattle.definitions.specs.Text.{Network, sized}
use Rattle.definitions.specs.ReportSets.{
  read_reports,
  seen_by,
  see_each_other,
  reported_link,
  reported_state,
  reported_network,
  judged_reports,
  reports_network,
  reports_answer,
  reports_lows,
  reports_highs,
  reports_states,
}
use Rattle.lists.specs.Outcomes.{refuse-not}
use Rattle.lists.specs.Ranges.{inside}
use Rattle.theory.specs.ReportPlaces.{seen-ascends, seen-within}
use Rattle.theory.specs.ReportedTable.{not_beyond}
use Rattle.text_theory.specs.ReportRoundTrip.{reports-written}
use Rattle.network.specs.Answers.{refusal_of}
use Rattle.network.specs.declared.refusal.Refusal.{Refusal}
use Rattle.text.specs.Answers.{read_outcome}
use Rattle.text.specs.Sizes.{SizeChecked, links-many}
use Rattle.text.specs.Tables.{TableRead, ReadWhole}
use Rattle.text.specs.declared.TableSize.{TableSize}
use Rattle.reports.specs.Offsets.{no_places, reports_by, seen_from}
use Rattle.reports.specs.declared.places.Places.{Places}
use Rattle.reports.specs.Places.{AllTold, StatesPut}
use Rattle.reports.specs.Merges.{Mergeable, AllLinks, LinksMerged}
use Rattle.reports.proofs.MarkLaws.{some-marks}

-- n out of its range, a line out of form or bad, a relay that reports twice, a number not below n.
module _ (n : ℕ) (text : List ℕ) (room_lows room_highs room_states : ℕ) where
  pub set-outside : outside 1 1000 n ≡ true → reports_network n text room_lows room_highs room_states ≡ refused 3 0
  unfolding reports_network refuse_if
  set-outside e = rw e

  module _ (some : 1 ≤ n) (few : n ≤ 1000) where
    pub set-bad : read_reports text [] 0 (length text) ≡ refused 19 0 → reports_network n text room_lows room_highs room_states ≡ refused 19 0
    unfolding reports_network refuse_if and_then
    set-bad e = rw (inside 1 1000 n some few, e)

    module _ (places : List Places) (twice far : Bool) (told : AllTold text n places twice far) where
      set-read : reports_network n text room_lows room_highs room_states
          ≡ refuse_if twice 20 0
          (refuse_if far 5 0
          (let network = reported_network n told.reports in
          sized n (length network.lows) room_lows room_highs room_states (done network)))
      unfolding reports_network and_then judged_reports
      set-read =
          refuse-not (outside 1 1000 n) 3 0 _ (inside 1 1000 n some few)
          ∙ rw (told.read, told.twice_is, told.far_is)

      pub set_twice : twice ≡ true → reports_network n text room_lows room_highs room_states ≡ refused 20 0
      unfolding refuse_if
      set_twice e = set-read ∙ rw e

      pub set-far : twice ≡ false → far ≡ true → reports_network n text room_lows room_highs room_states ≡ refused 5 0
      unfolding refuse_if
      set-far once e = set-read ∙ rw (once, e)

-- What is answered once the size is checked.
abbrev pub table_of : (n m : ℕ) → Result ⊤ Refusal → Result TableSize Refusal
table_of n m (Ok _) = Ok (record { relays = n; links = m })
table_of n m (Err refusal) = Err refusal

module _ (text : List ℕ) (n : ℕ) (places : List Places) (some : 1 ≤ n) (few : n ≤ 1000) (told : AllTold text n places false false) where
  pub set-merges : Mergeable text n places
  set-merges =
      let reports = told.reports in
      let holds = (told.placed refl).holds in
      record {
        few = few;
        room = told.room;
        started = told.started;
        ascends = λ b. rw (holds b) (seen-ascends reports (reports-written text reports told.read).0 b);
        below = λ b x h. seen-within n reports (not_beyond n reports told.far_is) b x (rw (holds b) at h);
      }

  states-same : table (λ r. pick (reports_by places r) 1 0) 0 n ≡ table (reported_state told.reports) 0 n
  unfolding reported_state
  states-same =
      ap (λ (f : ℕ → ℕ). table f 0 n) (fun_ext λ r. ap (λ (t : Bool). pick {A = ℕ} t 1 0) (some-marks (get_or places r no_places) ∙ (told.placed refl).marks r))

  -- Over 3,000 links.
  pub set-many : (lows highs states lows_then highs_then states_then : List ℕ) (refusal : Refusal) → StatesPut places n states states_then
      → LinksMerged (seen_from text places) n lows highs lows_then highs_then (Err refusal)
      → TableRead (reports_network n text (length lows) (length highs) (length states)) lows highs states lows_then highs_then states_then (Err refusal)
  unfolding reported_network reported_link see_each_other
  set-many lows highs states lows_then highs_then states_then refusal put links =
      let merged =
      subst (λ (seen : ℕ → List ℕ). LinksMerged seen n lows highs lows_then highs_then (Err refusal)) (fun_ext (told.placed refl).holds) links in
      let network = reported_network n told.reports in
      let number : refusal_of {A = Network} refusal ≡ refused 4 0 = ap (refusal_of {A = Network}) merged.told.0 in
      let checked =
      links-many n (length network.lows) (length lows) (length highs) (length states) refusal number (inside 1 1000 n some few) merged.told.1 in
      record {
        network =
            set-read n text (length lows) (length highs) (length states) some few places false false told
            ∙ refuse-not false 20 0 _ refl
            ∙ refuse-not false 5 0 _ refl
            ∙ checked.decides (done network);
        low_room = omega arith;
        high_room = omega arith;
        state_room = omega arith;
        same_lows = links.same_lows;
        same_highs = links.same_highs;
        same_states = put.size;
      }

  module _ (lows highs states lows_then highs_then states_then : List ℕ) (m : ℕ) (put : StatesPut places n states states_then)
      (links : LinksMerged (seen_from text places) n lows highs lows_then highs_then (Ok m)) where
    merged : AllLinks (seen_by told.reports) n lows highs lows_then highs_then m
    merged =
        subst (λ (seen : ℕ → List ℕ). AllLinks seen n lows highs lows_then highs_then m) (fun_ext (told.placed refl).holds) links.told

    set-sized : reports_network n text (length lows) (length highs) (length states)
        ≡ sized n m (length lows_then) (length highs_then) (length states_then) (done (reported_network n told.reports))
    unfolding reported_network reported_link see_each_other refuse_if
    set-sized =
        set-read n text (length lows) (length highs) (length states) some few places false false told
        ∙ rw (links.same_lows, links.same_highs, put.size, merged.counted)

    pub set-joined : (r : Result ⊤ Refusal) → SizeChecked n m (length lows_then) (length highs_then) (length states_then) r
        → TableRead (reports_network n text (length lows) (length highs) (length states)) lows highs states lows_then highs_then states_then
        (table_of n m r)
    unfolding reported_network reported_link see_each_other
    set-joined (Err refusal) checked =
        record {
          network = set-sized ∙ checked.decides (done (reported_network n told.reports));
          low_room = omega arith;
          high_room = omega arith;
          state_room = omega arith;
          same_lows = links.same_lows;
          same_highs = links.same_highs;
          same_states = put.size;
        }
    set-joined (Ok _) checked =
        let room = checked.room in
        record {
          network =
              set-sized
              ∙ checked.decides (done (reported_network n told.reports))
              ∙ rw (
                merged.lows_are (omega (arith, room.in_lows, links.same_lows)),
                merged.highs_are (omega (arith, room.in_highs, links.same_highs)),
                put.states (omega (arith, room.in_states, put.size)) ∙ states-same,
              );
          low_room = room.in_lows;
          high_room = room.in_highs;
          state_room = room.in_states;
          same_lows = links.same_lows;
          same_highs = links.same_highs;
          same_states = put.size;
        }

-- The promises of a set.
pub reports-promises : (n : ℕ) (text lows highs states lows_end highs_end states_end : List ℕ) (r : Result TableSize Refusal)
    → ReadWhole (reports_network n text (length lows) (length highs) (length states)) lows highs states lows_end highs_end states_end r
    → (read_outcome r ≡ reports_answer n text lows highs states) × ((lows_end ≡ reports_lows n text lows highs states)
    × ((highs_end ≡ reports_highs n text lows highs states) × (states_end ≡ reports_states n text lows highs states)))
unfolding reports_answer reports_lows reports_highs reports_states
reports-promises n text lows highs states lows_end highs_end states_end r promises =
    (promises.answer, (promises.low_list, (promises.high_list, promises.state_list)))
