-- What the reader had read of out lines, wherever it does not refuse with 16: the lines of these states, and where it went on.
-- Assumes nothing.
use Rattle.std.specs.Prelude.{ℕ, zero, suc, ◌+◌, ◌-◌, ◌≤◌, ◌<◌, Bool, true, false, ◌||◌, List, [], ◌∷◌, ◌++◌, ◌≢◌, ◌≡◌, refl, eqb, ltb, leb, length, get_or, replicate}
use Rattle.std.proofs.Common.{append-nil, sym, ◌∙◌, ap, arith, length-append, eqb-true, leb-false, ltb-false}
use Rattle.std.proofs.lemmas.List.{length-replicate}
use Rattle.std.proofs.lemmas.Bool.{eqb-false}
use Rattle.definitions.specs.Outcome.{pick, Outcome, refused, refuse_if}
use Rattle.definitions.specs.Form.{Scan, departs, reads, byte_at, scan_form, on_scan, write_form}
use Rattle.definitions.specs.Text.{out_form, Network, withdrawn, all_states, read_end, read_outs, out_line}
use Rattle.lists.specs.Parts.{Part, part-empty, part-append}
use Rattle.lists.specs.Tests.{or-false}
use Rattle.text_theory.specs.Forms.{out-line}
use Rattle.text_theory.specs.NetworkLines.{read-line, out-numbers}
use Rattle.text_theory.specs.OutByOut.{
  outs,
  outs-serving,
  EachState,
  each-serving,
  length-withdrawn,
  withdrawn-then,
}

-- Behind the last out line that was read, at byte `at`: the text departs from one more, or no more is begun and the reader goes on
-- to the end line.
pub data OutsOver (text : List ℕ) (n : ℕ) (lows highs states : List ℕ) (at : ℕ) (outcome : Outcome Network) : Type 0 where
  out_departs : (q : ℕ) → byte_at text (at + 1) ≡ 111 → scan_form text out_form at ≡ departs q → outcome ≡ refused 2 q
      → OutsOver text n lows highs states at outcome
  no_out : (told : List ℕ) → byte_at text (at + 1) ≢ 111 → all_states n told ≡ states → read_end text n lows highs told at ≡ outcome
      → OutsOver text n lows highs states at outcome

-- The states behind those told, whose lines stand from byte p on.
pub record OutsRead (text : List ℕ) (n : ℕ) (lows highs told : List ℕ) (p : ℕ) (outcome : Outcome Network) : Type 0 where
  pub ss : List ℕ
  pub at : ℕ
  pub many : length told + length ss ≡ n
  pub each : EachState ss
  pub part : Part text p (outs (length told) ss) at
  pub over : OutsOver text n lows highs (told ++ ss) at outcome

-- No line was read: the relays left are in service.
none_read : (text : List ℕ) (n : ℕ) (lows highs told : List ℕ) (p : ℕ) (outcome : Outcome Network) → length told ≤ n
    → p ≤ length text → OutsOver text n lows highs (all_states n told) p outcome → OutsRead text n lows highs told p outcome
unfolding all_states outs
none_read text n lows highs told p outcome below within over =
    let ss : List ℕ = replicate (n - length told) 1 in
    let nothing : outs (length told) ss ≡ [] =
    ap (outs (length told)) (sym (append-nil ss)) ∙ outs-serving (n - length told) (length told) [] in
    record {
      ss = ss;
      at = p;
      many = omega (arith, length-replicate {A = ℕ} (n - length told) 1);
      each = rw (append-nil ss) at (each-serving (n - length told) [] tt);
      part = rw nothing (part-empty text p within);
      over = over;
    }

-- A line of relay r, and behind it the others.
one_more : (text : List ℕ) (n : ℕ) (lows highs told : List ℕ) (r p q : ℕ) (outcome : Outcome Network) → length told ≤ r
    → Part text p (write_form out_form (r ∷ [])) q → OutsRead text n lows highs (withdrawn told r) q outcome
    → OutsRead text n lows highs told p outcome
unfolding outs out_line
one_more text n lows highs told r p q outcome above line after =
    let ones : List ℕ = replicate (r - length told) 1 in
    let start = length-withdrawn told r above in
    let here : length told + (r - length told) ≡ r = omega arith in
    let written : outs (length told) (ones ++ (0 ∷ after.ss)) ≡ write_form out_form (r ∷ []) ++ outs (r + 1) after.ss =
    outs-serving (r - length told) (length told) (0 ∷ after.ss) ∙ ap (λ (i : ℕ). outs i (0 ∷ after.ss)) here in
    record {
      ss = ones ++ (0 ∷ after.ss);
      at = after.at;
      many = omega (
        arith,
        length-append ones (0 ∷ after.ss),
        length-replicate {A = ℕ} (r - length told) 1,
        after.many,
      );
      each = each-serving (r - length told) (0 ∷ after.ss) (omega arith, after.each);
      part =
          rw written
          (part-append text (write_form out_form (r ∷ [])) (outs (r + 1) after.ss) p q after.at line
          (rw start at after.part));
      over = rw (withdrawn-then told r after.ss) at after.over;
    }

-- The lines behind one of relay r are read as they should be, with `most` of them allowed.
abbrev Later : (text : List ℕ) (n : ℕ) (lows highs told : List ℕ) (most : ℕ) (outcome : Outcome Network) → Type 0
Later text n lows highs told most outcome =
    (r q : ℕ) → length (withdrawn told r) ≤ n → n < length (withdrawn told r) + most → q ≤ length text
    → read_outs text n lows highs (withdrawn told r) q most ≡ outcome → OutsRead text n lows highs (withdrawn told r) q outcome

-- A line of the form: its relay is refused, or the reader goes on.
read_out : (text : List ℕ) (n : ℕ) (lows highs told : List ℕ) (p most : ℕ) (outcome : Outcome Network)
    → n < length told + suc most → p ≤ length text → (values : List ℕ) (q : ℕ) → scan_form text out_form p ≡ reads values q
    → refuse_if (leb n (get_or values 0 0) || ltb (get_or values 0 0) (length told)) 16 0
    (read_outs text n lows highs (withdrawn told (get_or values 0 0)) q most) ≡ outcome
    → outcome ≢ refused 16 0 → Later text n lows highs told most outcome → OutsRead text n lows highs told p outcome
unfolding refuse_if
read_out text n lows highs told p most outcome enough within values q scan e other later =
    go (leb n r || ltb r (length told)) refl e
  where
    r : ℕ
    r = get_or values 0 0

    go : (b : Bool) → (leb n r || ltb r (length told)) ≡ b
        → refuse_if b 16 0 (read_outs text n lows highs (withdrawn told r) q most) ≡ outcome → OutsRead text n lows highs told p outcome
    go true test e = absurd (other (sym e))
    go false test e =
        let both = or-false (leb n r) (ltb r (length told)) test in
        let under = leb-false n r both.0 in
        let above = ltb-false r (length told) both.1 in
        let start = length-withdrawn told r above in
        let line = read-line out_form text p values q out-line within scan in
        let here : Part text p (write_form out_form (r ∷ [])) q = rw (out-numbers values line.0) at line.1 in
        one_more text n lows highs told r p q outcome above here (later r q (omega arith) (omega arith) line.1.within e)

-- The reader may read more lines than there are relays left to tell of.
pub read-outs : (most : ℕ) (text : List ℕ) (n : ℕ) (lows highs told : List ℕ) (p : ℕ) (outcome : Outcome Network) → length told ≤ n
    → n < length told + most → p ≤ length text → read_outs text n lows highs told p most ≡ outcome → outcome ≢ refused 16 0
    → OutsRead text n lows highs told p outcome
unfolding read_outs on_scan
read-outs zero text n lows highs told p outcome below enough within e other = absurd (omega arith)
read-outs (suc most) text n lows highs told p outcome below enough within e other =
    go (eqb (byte_at text (p + 1)) 111) refl e
    (λ r q under more inside f. read-outs most text n lows highs (withdrawn told r) q outcome under more inside f other)
  where
    next : List ℕ → ℕ → Outcome Network
    next line q =
        refuse_if (leb n (get_or line 0 0) || ltb (get_or line 0 0) (length told)) 16 0
        (read_outs text n lows highs (withdrawn told (get_or line 0 0)) q most)

    begun : byte_at text (p + 1) ≡ 111 → (scan : Scan) → scan_form text out_form p ≡ scan → on_scan 2 scan next ≡ outcome
        → Later text n lows highs told most outcome → OutsRead text n lows highs told p outcome
    begun letter (departs q) scan e later =
        none_read text n lows highs told p outcome below within (out_departs q letter scan (sym e))
    begun letter (reads values q) scan e later =
        read_out text n lows highs told p most outcome enough within values q scan e other later

    go : (b : Bool) → eqb (byte_at text (p + 1)) 111 ≡ b
        → pick b (on_scan 2 (scan_form text out_form p) next) (read_end text n lows highs told p) ≡ outcome
        → Later text n lows highs told most outcome → OutsRead text n lows highs told p outcome
    go true test e later = begun (eqb-true (byte_at text (p + 1)) 111 test) (scan_form text out_form p) refl e later
    go false test e later =
        none_read text n lows highs told p outcome below within (no_out told (eqb-false (byte_at text (p + 1)) 111 test) refl e)
