-- The answers of Order, Split and Cut and their lists afterwards, way by way. Assumes nothing.
use Prim.Native.Nat.{ℕ, ◌≤◌, ◌<◌}
use mathlib.Core.Bool.{true, false, ◌||◌}
use mathlib.Core.List.{List, [], ◌∷◌, ◌++◌, map}
use mathlib.Core.Path.{◌≡◌, sym, ◌∙◌, ap}
use borrow.Author.Tests.{lt-ltb, le-ltb}
use lib.Dec.{ltb}
use lib.ListN.{length, take, drop, length-map}
use lib.Seq.{take_at, drop_at}
use Rattle.definitions.specs.Outcome.{refused, done, refuse_if, and_then, if_done, Answer}
use Rattle.definitions.specs.Lists.{overwrite, outside, total, greatest}
use Rattle.definitions.specs.Network.{table_check, Accepted}
use Rattle.definitions.specs.Order.{order_of, places_of, order_answer, relays_after, places_after}
use Rattle.definitions.specs.Forests.{
  forests_of,
  split_answer,
  forests_after,
  mark_of,
  marks_of,
  cut_answer,
  marks_after,
}
use Rattle.lists.specs.Tests.{or-neither}
use Rattle.network.specs.Answers.{refusal_of}
use Rattle.network.specs.Refusals.{refusal-then, refusal-keeps}
use Rattle.network.specs.declared.refusal.Refusal.{Refusal}
use Rattle.theory.proofs.ForestBound.{forests-length}

-- After a refusal of the table check the refusal stands, and no list changes.
refusal-stands : (refusal : Refusal) (check : Answer) (next : List ℕ → Answer) → check ≡ refusal_of refusal
    → refusal_of refusal ≡ and_then check next
refusal-stands refusal check next e = sym (ap (λ c. and_then c next) e ∙ refusal-then refusal next)

kept_by : (refusal : Refusal) (answer : Answer) (new old : List ℕ) → refusal_of refusal ≡ answer → old ≡ if_done answer new old
kept_by refusal answer new old e = sym (ap (λ a. if_done a new old) (sym e) ∙ refusal-keeps (List ℕ) refusal new old)

module _ (n : ℕ) (lows highs states relays places : List ℕ) where
  pub order-refused : (refusal : Refusal) → refusal_of refusal ≡ table_check n lows highs states
      → (refusal_of refusal ≡ order_answer n lows highs states relays places)
      × ((relays ≡ relays_after n lows highs states relays places) × (places ≡ places_after n lows highs states relays places))
  unfolding order_answer relays_after places_after
  order-refused refusal e =
      let stands = refusal-stands refusal (table_check n lows highs states) _ (sym e) in (
        stands,
        (
          kept_by refusal (order_answer n lows highs states relays places) _ relays stands,
          kept_by refusal (order_answer n lows highs states relays places) _ places stands,
        ),
      )

  pub order-short : Accepted n lows highs states → (ltb (length relays) n || ltb (length places) n) ≡ true
      → (refused 12 0 ≡ order_answer n lows highs states relays places)
      × ((relays ≡ relays_after n lows highs states relays places) × (places ≡ places_after n lows highs states relays places))
  unfolding order_answer relays_after places_after and_then refuse_if if_done
  order-short ok h = (rw (ok, h), (rw (ok, h), rw (ok, h)))

  pub order-done : {relays' places' : List ℕ} → Accepted n lows highs states → n ≤ length relays → n ≤ length places
      → relays' ≡ overwrite (order_of n lows highs states) relays → places' ≡ overwrite (places_of n (order_of n lows highs states)) places
      → (done [] ≡ order_answer n lows highs states relays places)
      × ((relays' ≡ relays_after n lows highs states relays places) × (places' ≡ places_after n lows highs states relays places))
  unfolding order_answer relays_after places_after and_then refuse_if if_done
  order-done ok h k r p =
      let long = or-neither (ltb (length relays) n) (ltb (length places) n) (le-ltb (length relays) n h) (le-ltb (length places) n k) in
      (rw (ok, long), (rw (ok, long) r, rw (ok, long) p))

module _ (n : ℕ) (lows highs states forests : List ℕ) where
  pub split-refused : (refusal : Refusal) → refusal_of refusal ≡ table_check n lows highs states
      → (refusal_of refusal ≡ split_answer n lows highs states forests) × (forests ≡ forests_after n lows highs states forests)
  unfolding split_answer forests_after
  split-refused refusal e =
      let stands = refusal-stands refusal (table_check n lows highs states) _ (sym e) in
      (stands, kept_by refusal (split_answer n lows highs states forests) _ forests stands)

  pub split-short : Accepted n lows highs states → length forests < length lows
      → (refused 12 0 ≡ split_answer n lows highs states forests) × (forests ≡ forests_after n lows highs states forests)
  unfolding split_answer forests_after and_then refuse_if if_done
  split-short ok h =
      let short = lt-ltb (length forests) (length lows) h in
      (rw (ok, short), rw (ok, short))

  front-forests : take (length lows) (overwrite (forests_of n lows highs states) forests) ≡ forests_of n lows highs states
  unfolding overwrite
  front-forests = take_at (forests_of n lows highs states) (drop (length (forests_of n lows highs states)) forests) (length lows) (forests-length n lows highs states)

  pub split_done : {forests' : List ℕ} (highest : ℕ) → Accepted n lows highs states → length lows ≤ length forests
      → forests' ≡ overwrite (forests_of n lows highs states) forests → highest ≡ greatest (take (length lows) forests')
      → (done (highest ∷ []) ≡ split_answer n lows highs states forests) × (forests' ≡ forests_after n lows highs states forests)
  unfolding split_answer forests_after and_then refuse_if if_done
  split_done highest ok h f e =
      let long = le-ltb (length forests) (length lows) h in
      let value : highest ≡ greatest (forests_of n lows highs states) =
      e ∙ ap (λ l. greatest (take (length lows) l)) f ∙ ap greatest front-forests in
      (rw (ok, long) (ap (λ x. done (x ∷ [])) value), rw (ok, long) f)

module _ (n : ℕ) (lows highs states : List ℕ) (k : ℕ) (marks : List ℕ) where
  pub cut-refused : (refusal : Refusal) → refusal_of refusal ≡ table_check n lows highs states
      → (refusal_of refusal ≡ cut_answer n lows highs states k marks) × (marks ≡ marks_after n lows highs states k marks)
  unfolding cut_answer marks_after
  cut-refused refusal e =
      let stands = refusal-stands refusal (table_check n lows highs states) _ (sym e) in
      (stands, kept_by refusal (cut_answer n lows highs states k marks) _ marks stands)

  pub cut-count : Accepted n lows highs states → outside 1 32 k ≡ true
      → (refused 9 0 ≡ cut_answer n lows highs states k marks) × (marks ≡ marks_after n lows highs states k marks)
  unfolding cut_answer marks_after and_then refuse_if if_done
  cut-count ok h = (rw (ok, h), rw (ok, h))

  pub cut_short : Accepted n lows highs states → outside 1 32 k ≡ false → length marks < length lows
      → (refused 12 0 ≡ cut_answer n lows highs states k marks) × (marks ≡ marks_after n lows highs states k marks)
  unfolding cut_answer marks_after and_then refuse_if if_done
  cut_short ok h p =
      let short = lt-ltb (length marks) (length lows) p in
      (rw (ok, h, short), rw (ok, h, short))

  -- The links are counted by their forest numbers, which then become marks.
  module _ {numbers : List ℕ} (f : numbers ≡ overwrite (forests_of n lows highs states) marks) where
    front : take (length lows) numbers ≡ forests_of n lows highs states
    front = ap (take (length lows)) f ∙ front-forests n lows highs states marks

    pub kept-counted : (kept : ℕ) → kept ≡ total (map (mark_of k) (take (length lows) numbers)) → kept ≡ total (marks_of n lows highs states k)
    unfolding marks_of
    kept-counted kept e = e ∙ ap (λ l. total (map (mark_of k) l)) front

    pub marks-done : {marks' : List ℕ} → marks' ≡ map (mark_of k) (take (length lows) numbers) ++ drop (length lows) numbers
        → marks' ≡ overwrite (marks_of n lows highs states k) marks
    unfolding marks_of overwrite
    marks-done m =
        let all = forests_of n lows highs states in
        let rest : drop (length lows) numbers ≡ drop (length (map (mark_of k) all)) marks =
        ap (drop (length lows)) f
        ∙ drop_at all (drop (length all) marks) (length lows) (forests-length n lows highs states)
        ∙ ap (λ j. drop j marks) (sym (length-map all (mark_of k))) in
        m ∙ ap (λ l. map (mark_of k) l ++ drop (length lows) numbers) front ∙ ap (λ l. map (mark_of k) all ++ l) rest

  pub cut-done : {marks' : List ℕ} (kept : ℕ) → Accepted n lows highs states → outside 1 32 k ≡ false → length lows ≤ length marks
      → kept ≡ total (marks_of n lows highs states k) → marks' ≡ overwrite (marks_of n lows highs states k) marks
      → (done (kept ∷ []) ≡ cut_answer n lows highs states k marks) × (marks' ≡ marks_after n lows highs states k marks)
  unfolding cut_answer marks_after and_then refuse_if if_done
  cut-done kept ok h p e m =
      let long = le-ltb (length marks) (length lows) p in
      (rw (ok, h, long) (ap (λ x. done (x ∷ [])) e), rw (ok, h, long) m)
