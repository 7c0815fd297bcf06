-- How the definition reads a link line and the end, by what the form gave, and zeros from an index on. Assumes nothing.
use Rattle.std.specs.Prelude.{ℕ, suc, ◌+◌, ◌-◌, ◌≤◌, ◌<◌, List, [], ◌∷◌, ◌++◌, ◌≡◌, refl, length, take, drop, set, replicate, ltb, ⊤, Result, Ok, Err, IfOk}
use Rattle.std.proofs.Common.{append-nil, sym, ◌∙◌, ap, subst, add-one, arith, length-set, length-append, length-drop, drop_of_length-le, take-suc-set, length-take-le}
use Rattle.std.proofs.lemmas.List.{take_min, length-take}
use Prim.Native.Nat.{min}
use borrow.Author.Tests.{lt-ltb, le-ltb}
use Rattle.definitions.specs.Outcome.{Outcome, refused, done, refuse_if}
use Rattle.definitions.specs.Network.{link_fault}
use Rattle.definitions.specs.Form.{departs, reads, scan_form, on_scan}
use Rattle.definitions.specs.Text.{link_form, end_form, Network, all_states, read_end, read_links}
use Rattle.network.specs.Answers.{refusal_number, refusal_place, refusal_of}
use Rattle.network.specs.Seen.{fault_of, some-fault, fault_refusal, LinkChecked, Seen, seen-fault, seen-snoc}
use Rattle.network.specs.declared.LinkFault.{LinkFault}
use Rattle.network.specs.declared.Relay.{Relay}
use Rattle.network.specs.declared.refusal.Refusal.{Refusal}
use Rattle.network.specs.declared.refusal.Refusal.TheVariants.{Form}
use Rattle.text.specs.Rows.{on_step, LineReading, LinkScanned, LinkRead, cleared_from}

-- A link line that departs, one with a fault, and one without.
module _ (text : List ℕ) (n : ℕ) (lows highs : List ℕ) (at count : ℕ) where
  pub link-departs : (p : ℕ) → scan_form text link_form at ≡ departs p
      → read_links text n lows highs at (suc count) ≡ refused 2 p
  unfolding read_links on_scan
  link-departs p e = rw e

  pub link-faulty : (a b p fault : ℕ) → scan_form text link_form at ≡ reads (a ∷ b ∷ []) p
      → link_fault n lows highs (length lows) a b ≡ fault → 0 < fault
      → read_links text n lows highs at (suc count) ≡ refused fault (length lows)
  unfolding read_links on_scan refuse_if
  link-faulty a b p fault e f h = rw (e, f, lt-ltb 0 fault h)

  pub link-fine : (a b p : ℕ) → scan_form text link_form at ≡ reads (a ∷ b ∷ []) p
      → link_fault n lows highs (length lows) a b ≡ 0
      → read_links text n lows highs at (suc count) ≡ read_links text n (lows ++ (a ∷ [])) (highs ++ (b ∷ [])) p count
  unfolding read_links on_scan refuse_if
  link-fine a b p e f = rw (e, f)

-- An end line that departs, one with something after it, and one at the end of the text.
module _ (text : List ℕ) (n : ℕ) (lows highs states : List ℕ) (at p : ℕ) where
  pub end-departs : scan_form text end_form at ≡ departs p → read_end text n lows highs states at ≡ refused 2 p
  unfolding read_end on_scan
  end-departs e = rw e

  pub end_more : (values : List ℕ) → scan_form text end_form at ≡ reads values p → p < length text → read_end text n lows highs states at ≡ refused 2 p
  unfolding read_end on_scan refuse_if
  end_more values e h = rw (e, lt-ltb p (length text) h)

  pub end-done : (values : List ℕ) → scan_form text end_form at ≡ reads values p → length text ≤ p
      → read_end text n lows highs states at ≡ done (record { relays = n; lows = lows; highs = highs; states = all_states n states })
  unfolding read_end on_scan refuse_if
  end-done values e h = rw (e, le-ltb p (length text) h)

-- One more link in a list.
pub take-stored : (list : List ℕ) (i x : ℕ) → i < length list → take (i + 1) (set list i x) ≡ take i list ++ (x ∷ [])
take-stored list i x h = rw (add-one i) (take-suc-set list i x h)

-- The list with the part from an index on written over by zeros, where an index past the end counts as the end.
pub cleared-cut : (from at : ℕ) (list rest : List ℕ) → at ≡ min from (length list)
    → rest ≡ replicate (length (take (length list - at) (drop at list))) 0
    → take at list ++ (rest ++ drop (length list - at) (drop at list)) ≡ cleared_from from list
unfolding cleared_from
cleared-cut from at list rest cut zeros =
    let none : drop (length list - at) (drop at list) ≡ [] = drop_of_length-le (drop at list) (omega (arith, length-drop at list)) in
    let count : length (take (length list - at) (drop at list)) ≡ length list - from =
    omega (arith, length-take (length list - at) (drop at list), length-drop at list) in
    let front : take at list ≡ take from list = rw cut (take_min from list) in
    rw (none, zeros, count, front, append-nil)

-- The number and the place of a refusal are the same in each outcome.
pub refusal-anywhere : {A : Type 0} (refusal : Refusal) (number place : ℕ) → refusal_of {A = List ℕ} refusal ≡ refused number place
    → refusal_of {A = A} refusal ≡ refused number place
refusal-anywhere refusal number place e =
    let same_number : refusal_number refusal ≡ number = cc in
    let same_place : refusal_place refusal ≡ place = cc in
    rw (same_number, same_place)

-- A line that is refused leaves the lists as they were, however it is read.
pub stopped-link : (reading : LineReading) (n i at : ℕ) (lows highs then : List ℕ) (refusal : Refusal)
    → ((count : ℕ) → reading (take i lows) (take i highs) at (suc count) ≡ refusal_of refusal)
    → LinkRead reading n i at lows highs lows highs then (Err refusal)
stopped-link reading n i at lows highs then refusal stops =
    record { follows = stops; seen = tt; same_lows = refl; same_highs = refl }

-- A link with no fault is stored and its pair marked, however its line is read.
pub fine-link : (reading : LineReading) (n i at : ℕ) (lows highs bits : List ℕ) (a b p : ℕ) (then : List ℕ) (r : Result ⊤ LinkFault)
    → i < length lows → i < length highs → Seen n bits (take i lows) (take i highs) i → LinkChecked n a b bits then r → fault_of r ≡ 0
    → ((count : ℕ) → reading (take i lows) (take i highs) at (suc count)
    ≡ reading (take i lows ++ (a ∷ [])) (take i highs ++ (b ∷ [])) p count)
    → LinkRead reading n i at lows highs (set lows i a) (set highs i b) then (Ok p)
fine-link reading n i at lows highs bits a b p then r low_room high_room marks checked fine onward =
    record {
      follows = λ count. onward count ∙ rw (take-stored lows i a low_room, take-stored highs i b high_room);
      seen = rw (take-stored lows i a low_room, take-stored highs i b high_room, ← grown) more;
      same_lows = length-set lows i a;
      same_highs = length-set highs i b;
    }
  where
    count_of : length (take i lows) ≡ i
    count_of = length-take-le i lows (omega arith)

    grown : length (take i lows ++ (a ∷ [])) ≡ i + 1
    grown = length-append (take i lows) (a ∷ []) ∙ ap (λ (k : ℕ). k + 1) count_of

    more : Seen n then (take i lows ++ (a ∷ [])) (take i highs ++ (b ∷ [])) (length (take i lows ++ (a ∷ [])))
    more =
        seen-snoc n a b (take i lows) (take i highs) bits then r
        (count_of ∙ sym (length-take-le i highs (omega arith))) (rw count_of marks) checked fine

-- What `scan_link` of a network's text promises, way by way.
module _ (text : List ℕ) (n i at : ℕ) where
  pub scan-departs : (refusal : Refusal) (p : ℕ) → refusal ≡ Form p → scan_form text link_form at ≡ departs p
      → LinkScanned (read_links text n) n i at (Err refusal)
  scan-departs refusal p is e lows highs count here = link-departs text n lows highs at count p e ∙ rw is

  pub scan-reads : (a b : Relay) (p : ℕ) → scan_form text link_form at ≡ reads (a.0 ∷ b.0 ∷ []) p
      → LinkScanned (read_links text n) n i at (Ok (a, b, p))
  unfolding read_links on_scan
  scan-reads a b p e lows highs count here = rw (e, here)

-- What `read_link` promises, way by way, however its line is read.
module _ (reading : LineReading) (n i at : ℕ) (lows highs : List ℕ) (low_room : i < length lows) where
  count_of : length (take i lows) ≡ i
  count_of = length-take-le i lows (omega arith)

  pub read-departs : (then : List ℕ) (refusal : Refusal) → LinkScanned reading n i at (Err refusal)
      → LinkRead reading n i at lows highs lows highs then (Err refusal)
  read-departs then refusal scanned =
      stopped-link reading n i at lows highs then refusal (λ count. scanned (take i lows) (take i highs) count count_of)

  module _ (bits : List ℕ) (a b : Relay) (p : ℕ) (then : List ℕ) (r : Result ⊤ LinkFault) (high_room : i < length highs)
      (marks : Seen n bits (take i lows) (take i highs) i) (checked : LinkChecked n a.0 b.0 bits then r)
      (scanned : LinkScanned reading n i at (Ok (a, b, p))) where
    onward : (f count : ℕ) → fault_of r ≡ f → reading (take i lows) (take i highs) at (suc count)
        ≡ refuse_if (ltb 0 f) f i (reading (take i lows ++ (a.0 ∷ [])) (take i highs ++ (b.0 ∷ [])) p count)
    onward f count e =
        scanned (take i lows) (take i highs) count count_of
        ∙ ap (λ (x : ℕ). refuse_if (ltb 0 x) x i (reading (take i lows ++ (a.0 ∷ [])) (take i highs ++ (b.0 ∷ [])) p count))
        (sym (seen-fault n a.0 b.0 (take i lows) (take i highs) i bits then r marks checked) ∙ e)

    pub read-faulty : (fault : LinkFault) (refusal : Refusal) → r ≡ Err fault → fault_refusal fault i refusal
        → LinkRead reading n i at lows highs lows highs then (Err refusal)
    unfolding refuse_if
    read-faulty fault refusal is told =
        stopped-link reading n i at lows highs then refusal
        (λ count. onward (fault_of (Err fault)) count (ap fault_of is)
        ∙ rw (some-fault fault) (sym (refusal-anywhere refusal _ _ told)))

    pub read-fine : fault_of r ≡ 0
        → LinkRead reading n i at lows highs (set lows i a.0) (set highs i b.0) then (Ok p)
    unfolding refuse_if
    read-fine fine =
        fine-link reading n i at lows highs bits a.0 b.0 p then r low_room high_room marks checked fine
        (λ count. onward 0 count fine)

-- What a link line that was read, or refused, leaves of the whole reading.
module _ (reading : LineReading) (n i at : ℕ) (lows highs lows_then highs_then bits : List ℕ) (r : Result ℕ Refusal)
    (link : LinkRead reading n i at lows highs lows_then highs_then bits r) where
  pub link-next : (p m : ℕ) (whole : Outcome Network) → r ≡ Ok p → i < m
      → whole ≡ reading (take i lows) (take i highs) at (m - i)
      → whole ≡ reading (take (i + 1) lows_then) (take (i + 1) highs_then) p (m - (i + 1))
  link-next p m whole e h left =
      let more : m - i ≡ suc (m - (i + 1)) = omega arith in
      let rest : ℕ → Outcome Network = λ q. reading (take (i + 1) lows_then) (take (i + 1) highs_then) q (m - (i + 1)) in
      left ∙ rw more (link.follows (m - (i + 1)) ∙ ap (λ (s : Result ℕ Refusal). on_step s rest) e)

  pub link-refused : (refusal : Refusal) (m : ℕ) (whole : Outcome Network) → r ≡ Err refusal → i < m
      → whole ≡ reading (take i lows) (take i highs) at (m - i)
      → whole ≡ refusal_of refusal
  link-refused refusal m whole e h left =
      let more : m - i ≡ suc (m - (i + 1)) = omega arith in
      let rest : ℕ → Outcome Network = λ q. reading (take (i + 1) lows_then) (take (i + 1) highs_then) q (m - (i + 1)) in
      left ∙ rw more (link.follows (m - (i + 1)) ∙ ap (λ (s : Result ℕ Refusal). on_step s rest) e)

  pub link-seen : (p : ℕ) → r ≡ Ok p → Seen n bits (take (i + 1) lows_then) (take (i + 1) highs_then) (i + 1)
  link-seen p e =
      subst (λ (s : Result ℕ Refusal). IfOk s (λ q. Seen n bits (take (i + 1) lows_then) (take (i + 1) highs_then) (i + 1))) e link.seen

-- No link line is left.
pub links-over : (reading : LineReading) (i m p : ℕ) (lows highs : List ℕ) → i ≤ m → m ≤ i
    → reading (take i lows) (take i highs) p (m - i) ≡ reading (take m lows) (take m highs) p 0
links-over reading i m p lows highs h k =
    let e : i ≡ m = omega arith in
    let none : m - m ≡ 0 = omega arith in
    rw (e, none)
