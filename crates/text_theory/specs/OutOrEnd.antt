-- Behind the link lines two forms are due at once, an out line and the end line. They part at the second byte, which decides which
-- of them the reader goes by: it departs where the text departs from the later of the two. Assumes nothing.
use Rattle.std.specs.Prelude.{ℕ, zero, suc, ◌+◌, ◌≤◌, ◌<◌, Bool, true, false, List, [], ◌∷◌, ◌≢◌, ◌≡◌, refl, eqb, ltb, length}
use Rattle.std.proofs.Common.{sym, ◌∙◌, ap, arith, eqb-true, eq-eqb, ne_eqb, ltb-true, lt-ltb}
use Rattle.std.proofs.lemmas.Bool.{eqb-false}
use Rattle.definitions.specs.Outcome.{refused, done, refuse_if}
use Rattle.definitions.specs.Form.{
  Item,
  word,
  Scan,
  departs,
  reads,
  byte_at,
  scan_word,
  scan_item,
  following,
  scan_form,
  on_scan,
  write_form,
}
use Rattle.definitions.specs.Text.{out_form, end_form, Network, all_states, read_end, read_outs}
use Rattle.definitions.specs.RefusalTwo.{BothDepart, EndDeparts, out_or_end_due, nothing_due}
use Rattle.lists.specs.Parts.{Part}
use Rattle.theory.specs.Accepted.{ProperStates}
use Rattle.text_theory.specs.Forms.{out-line, end-line}
use Rattle.text_theory.specs.NetworkLines.{read-line, end-numbers}
use Rattle.text_theory.specs.Looks.{offset, form-looks}
use Rattle.text_theory.specs.DepartsFromForm.{departs-at}
use Rattle.text_theory.specs.DepartsOnce.{departs-exactly}
use Rattle.text_theory.specs.OutByOut.{outs, each-proper}
use Rattle.text_theory.specs.Onward.{end-onward}
use Rattle.text_theory.specs.Standing.{part-stands, stands-part}
use Rattle.text_theory.specs.OutsRead.{OutsOver, out_departs, no_out, OutsRead, read-outs}

-- ---- two forms that part at the second byte

-- The first byte of a form is there, or it is not.
first-there : (b : ℕ) (w : List ℕ) (items : List Item) (text : List ℕ) (p : ℕ) → byte_at text p ≡ b
    → scan_form text (word (b ∷ w) ∷ items) p ≡ scan_form text (word w ∷ items) (p + 1)
unfolding scan_form scan_item scan_word
first-there b w items text p e = rw (eq-eqb (byte_at text p) b e)

first-departs : (b : ℕ) (w : List ℕ) (items : List Item) (text : List ℕ) (p : ℕ) → byte_at text p ≢ b
    → scan_form text (word (b ∷ w) ∷ items) p ≡ departs p
unfolding scan_form scan_item scan_word following
first-departs b w items text p e = rw (ne_eqb (byte_at text p) b e)

-- Of two forms with the same first byte one departs at its second byte, or before: then the other departs no earlier.
apart : (b c d : ℕ) (w v : List ℕ) (items others : List Item) (text : List ℕ) (p : ℕ) → byte_at text (p + 1) ≢ d
    → (q : ℕ) × (scan_form text (word (b ∷ d ∷ v) ∷ others) p ≡ departs q)
    × (q ≤ offset (scan_form text (word (b ∷ c ∷ w) ∷ items) p))
apart b c d w v items others text p second = go (eqb (byte_at text p) b) refl
  where
    go : (t : Bool) → eqb (byte_at text p) b ≡ t
        → (q : ℕ) × (scan_form text (word (b ∷ d ∷ v) ∷ others) p ≡ departs q)
        × (q ≤ offset (scan_form text (word (b ∷ c ∷ w) ∷ items) p))
    go true test =
        let here = eqb-true (byte_at text p) b test in (
          p + 1,
          first-there b (d ∷ v) others text p here ∙ first-departs d v others text (p + 1) second,
          rw (first-there b (c ∷ w) items text p here) (form-looks (word (c ∷ w) ∷ items) text (p + 1)).0,
        )
    go false test = (
      p,
      first-departs b (d ∷ v) others text p (eqb-false (byte_at text p) b test),
      (form-looks (word (b ∷ c ∷ w) ∷ items) text p).0,
    )

end-apart : (text : List ℕ) (p : ℕ) → byte_at text (p + 1) ≡ 111
    → (q : ℕ) × (scan_form text end_form p ≡ departs q) × (q ≤ offset (scan_form text out_form p))
unfolding out_form end_form
end-apart text p letter = apart 40 111 101 _ _ _ _ text p (λ e. omega arith)

out-apart : (text : List ℕ) (p : ℕ) → byte_at text (p + 1) ≢ 111
    → (q : ℕ) × (scan_form text out_form p ≡ departs q) × (q ≤ offset (scan_form text end_form p))
unfolding out_form end_form
out-apart text p other = apart 40 101 111 _ _ _ _ text p other

-- ---- the reader goes by the second byte

out-departs : (text : List ℕ) (p q : ℕ) → p ≤ length text → byte_at text (p + 1) ≡ 111 → scan_form text out_form p ≡ departs q
    → BothDepart text p q
out-departs text p q within letter e =
    let (b, end, before) = end-apart text p letter in
    let first : b ≤ q = rw e at before in
    record {
      from_out = q;
      from_end = b;
      out_line = departs-at out_form text p q out-line.0 within e;
      end_line = departs-at end_form text p b end-line.0 within end;
      later = omega arith;
    }

end-departs : (text : List ℕ) (p q : ℕ) → p ≤ length text → byte_at text (p + 1) ≢ 111 → scan_form text end_form p ≡ departs q
    → BothDepart text p q
end-departs text p q within other e =
    let (a, out, before) = out-apart text p other in
    let first : a ≤ q = rw e at before in
    record {
      from_out = a;
      from_end = q;
      out_line = departs-at out_form text p a out-line.0 within out;
      end_line = departs-at end_form text p q end-line.0 within e;
      later = omega arith;
    }

departs-same : (a b : ℕ) → departs a ≡ departs b → a ≡ b
departs-same a b e = cc

-- Where both depart, the reader departs at the later byte.
both-refused : (text : List ℕ) (n : ℕ) (lows highs told : List ℕ) (at q most : ℕ) → at ≤ length text → BothDepart text at q
    → read_outs text n lows highs told at (suc most) ≡ refused 2 q
unfolding read_outs read_end on_scan
both-refused text n lows highs told at q most within both = go (eqb (byte_at text (at + 1)) 111) refl
  where
    out : scan_form text out_form at ≡ departs both.from_out
    out = (departs-exactly out_form text at both.from_out out-line within).1 both.out_line

    end : scan_form text end_form at ≡ departs both.from_end
    end = (departs-exactly end_form text at both.from_end end-line within).1 both.end_line

    go : (b : Bool) → eqb (byte_at text (at + 1)) 111 ≡ b → read_outs text n lows highs told at (suc most) ≡ refused 2 q
    go true test =
        let (b, first, before) = end-apart text at (eqb-true (byte_at text (at + 1)) 111 test) in
        let earlier : b ≤ both.from_out = rw out at before in
        let same : b ≡ both.from_end = departs-same b both.from_end (sym first ∙ end) in
        let last : both.from_out ≡ q = omega (arith, both.later) in
        rw (test, out, last)
    go false test =
        let (a, first, before) = out-apart text at (eqb-false (byte_at text (at + 1)) 111 test) in
        let earlier : a ≤ both.from_end = rw end at before in
        let same : a ≡ both.from_out = departs-same a both.from_out (sym first ∙ out) in
        let last : both.from_end ≡ q = omega (arith, both.later) in
        rw (test, end, last)

-- What is due decides the reader's answer, with a line left to it.
pub due-refused : (text : List ℕ) (n : ℕ) (lows highs told : List ℕ) (at q left : ℕ) → at ≤ length text → 0 < left
    → EndDeparts text at q → read_outs text n lows highs told at left ≡ refused 2 q
unfolding refuse_if
due-refused text n lows highs told at q zero within some due = absurd (omega arith)
due-refused text n lows highs told at q (suc left) within some (out_or_end_due both) =
    both-refused text n lows highs told at q left within both
due-refused text n lows highs told at q (suc left) within some (nothing_due here before) =
    end-onward text n lows highs told at q (suc left) (stands-part text (write_form end_form []) at q within here) ∙ rw (lt-ltb q (length text) before)

-- ---- what a refusal means

-- The end line is due and no out line is begun.
end_refused : (text : List ℕ) (n : ℕ) (lows highs told : List ℕ) (p q : ℕ) → p ≤ length text → byte_at text (p + 1) ≢ 111
    → read_end text n lows highs told p ≡ refused 2 q → EndDeparts text p q
unfolding read_end on_scan refuse_if
end_refused text n lows highs told p q within other e = go (scan_form text end_form p) refl e
  where
    network : Network
    network = record { relays = n; lows = lows; highs = highs; states = all_states n told }

    over : (values : List ℕ) (at : ℕ) → scan_form text end_form p ≡ reads values at → (b : Bool) → ltb at (length text) ≡ b
        → refuse_if b 2 at (done network) ≡ refused 2 q → EndDeparts text p q
    over values at first true test e =
        let same : at ≡ q = cc in
        let line = read-line end_form text p values at end-line within first in
        let here : Part text p (write_form end_form []) at = rw (end-numbers values line.0) at line.1 in
        nothing_due (part-stands text (write_form end_form []) p q (rw same at here)) (rw same at (ltb-true at (length text) test))
    over values at first false test e = let z : ◌≡◌ {A = ℕ} 0 1 = cc in absurd (omega arith)

    go : (scan : Scan) → scan_form text end_form p ≡ scan
        → on_scan 2 scan (λ _ at. refuse_if (ltb at (length text)) 2 at (done network)) ≡ refused 2 q → EndDeparts text p q
    go (departs at) first e =
        let same : at ≡ q = cc in
        out_or_end_due (end-departs text p q within other (first ∙ ap departs same))
    go (reads values at) first e = over values at first (ltb at (length text)) refl e

-- The states whose lines were read from byte p on, up to byte `at`, and what is due there.
pub record OutsDepart (text : List ℕ) (n p q : ℕ) : Type 0 where
  pub states : List ℕ
  pub at : ℕ
  pub proper : ProperStates n states
  pub part : Part text p (outs 0 states) at
  pub due : EndDeparts text at q

pub outs-depart : (text : List ℕ) (n : ℕ) (lows highs : List ℕ) (p q : ℕ) → p ≤ length text
    → read_outs text n lows highs [] p (suc n) ≡ refused 2 q → OutsDepart text n p q
outs-depart text n lows highs p q within e =
    go (read-outs (suc n) text n lows highs [] p (refused 2 q) (omega arith) (omega arith) within e
    (λ z. let clash : ◌≡◌ {A = ℕ} 2 16 = cc in omega arith))
  where
    over : (states : List ℕ) (at : ℕ) → at ≤ length text → OutsOver text n lows highs states at (refused 2 q) → EndDeparts text at q
    over states at inside (out_departs r letter scan f) =
        let same : r ≡ q = cc in
        out_or_end_due (out-departs text at q inside letter (scan ∙ ap departs same))
    over states at inside (no_out told other all f) = end_refused text n lows highs told at q inside other f

    go : OutsRead text n lows highs [] p (refused 2 q) → OutsDepart text n p q
    go seen =
        record {
          states = seen.ss;
          at = seen.at;
          proper = each-proper n seen.ss (omega (arith, seen.many)) seen.each;
          part = seen.part;
          due = over seen.ss seen.at seen.part.within seen.over;
        }
