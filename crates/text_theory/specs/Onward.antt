-- The reader goes on behind each line of a network text that stands there, with what the line says.
-- Assumes nothing.
use Rattle.std.specs.Prelude.{ℕ, zero, suc, ◌+◌, ◌≤◌, ◌<◌, false, ◌||◌, List, [], ◌∷◌, ◌++◌, ◌≡◌, eqb, ltb, leb, length}
use Rattle.std.proofs.Common.{append-nil, ◌∙◌, zero-add, arith, le-ltb, eq-eqb, ne_eqb}
use Rattle.std.proofs.Math.Seq.{append_snoc}
use Rattle.std.proofs.lemmas.Bool.{lt-leb}
use Rattle.definitions.specs.Outcome.{done, refuse_if}
use Rattle.definitions.specs.Lists.{outside}
use Rattle.definitions.specs.Network.{link_fault}
use Rattle.definitions.specs.Form.{byte_at, on_scan, write_form}
use Rattle.definitions.specs.Text.{
  header_form,
  link_form,
  out_form,
  end_form,
  withdrawn,
  all_states,
  read_end,
  read_outs,
  read_links,
  read_network,
  out_line,
}
use Rattle.lists.specs.Outcomes.{refuse-not}
use Rattle.lists.specs.Ranges.{inside}
use Rattle.lists.specs.Tests.{or-neither}
use Rattle.lists.specs.Parts.{Part, part-head, part-tail, part-first, part-second}
use Rattle.theory.specs.Accepted.{ProperStates}
use Rattle.text_theory.specs.Forms.{header-line, link-line, out-line, end-line}
use Rattle.text_theory.specs.NetworkLines.{line_read, header-fits, out-fits, end_fits, faultless-fits}
use Rattle.text_theory.specs.LinkByLink.{lines, Faultless}
use Rattle.text_theory.specs.OutByOut.{outs, tell, length-withdrawn}

-- Behind a header within the limits: "8, a table list shorter than m" or "a state list shorter than n", or the link lines.
pub header-roomy : (text : List ℕ) (n m p room_lows room_highs room_states : ℕ) → 1 ≤ n → n ≤ 1000 → m ≤ 3000
    → Part text 0 (write_form header_form (n ∷ m ∷ [])) p
    → read_network text room_lows room_highs room_states
    ≡ refuse_if (ltb room_lows m || (ltb room_highs m || ltb room_states n)) 8 0 (read_links text n [] [] p m)
unfolding read_network on_scan
header-roomy text n m p room_lows room_highs room_states some few short part =
    let full = ltb room_lows m || (ltb room_highs m || ltb room_states n) in
    let roomy = refuse_if full 8 0 (read_links text n [] [] p m) in
    rw (line_read header_form (n ∷ m ∷ []) text 0 p header-line (header-fits n m (omega arith) (omega arith)) part)
    (refuse-not (outside 1 1000 n) 3 0 (refuse_if (ltb 3000 m) 4 0 roomy) (inside 1 1000 n some few)
    ∙ refuse-not (ltb 3000 m) 4 0 roomy (le-ltb 3000 m short))

pub links-onward : (text : List ℕ) (n : ℕ) (ls hs lows highs : List ℕ) (p at left : ℕ) → n ≤ 1000 → length ls ≡ length hs
    → Faultless n lows highs ls hs → Part text p (lines ls hs) at
    → read_links text n lows highs p (length ls + left) ≡ read_links text n (lows ++ ls) (highs ++ hs) at left
unfolding read_links on_scan lines
links-onward text n [] [] lows highs p at left few rest good part =
    let same : p ≡ at = omega (arith, part.reaches) in
    rw (zero-add left, append-nil lows, append-nil highs, same)
links-onward text n [] (b ∷ hs) lows highs p at left few rest good part = absurd (omega arith)
links-onward text n (a ∷ ls) [] lows highs p at left few rest good part = absurd (omega arith)
links-onward text n (a ∷ ls) (b ∷ hs) lows highs p at left few rest good part =
    let fault = link_fault n lows highs (length lows) a b in
    let line = write_form link_form (a ∷ b ∷ []) in
    let q = p + length line in
    let after =
    links-onward text n ls hs (lows ++ (a ∷ [])) (highs ++ (b ∷ [])) q at left few (omega arith) good.1
    (part-second text line (lines ls hs) p at part) in
    let count : suc (length ls) + left ≡ suc (length ls + left) = omega arith in
    rw (
      count,
      line_read link_form (a ∷ b ∷ []) text p q link-line (faultless-fits n lows highs (length lows) a b few good.0)
          (part-first text line (lines ls hs) p at part),
    )
    (refuse-not (ltb 0 fault) fault (length lows)
    (read_links text n (lows ++ (a ∷ [])) (highs ++ (b ∷ [])) q (length ls + left)) (le-ltb 0 fault (omega (arith, good.0)))
    ∙ (rw (append_snoc lows a ls, append_snoc highs b hs) at after))

-- An out line and the end line part at the second byte.
out-second : (text : List ℕ) (r p q : ℕ) → Part text p (write_form out_form (r ∷ [])) q → byte_at text (p + 1) ≡ 111
unfolding byte_at out_form write_form
out-second text r p q part = part-head text _ 111 (p + 1) q (part-tail text _ 40 p q part)

end-second : (text : List ℕ) (p q : ℕ) → Part text p (write_form end_form []) q → byte_at text (p + 1) ≡ 101
unfolding byte_at end_form write_form
end-second text p q part = part-head text _ 101 (p + 1) q (part-tail text _ 40 p q part)

-- A line of relay r, and behind it what is left to read.
out-onward : (text : List ℕ) (n : ℕ) (lows highs told : List ℕ) (r p q most : ℕ) → n ≤ 1000 → length told ≤ r → r < n
    → Part text p (write_form out_form (r ∷ [])) q
    → read_outs text n lows highs told p (suc most) ≡ read_outs text n lows highs (withdrawn told r) q most
unfolding read_outs on_scan
out-onward text n lows highs told r p q most few above below part =
    rw (
      eq-eqb (byte_at text (p + 1)) 111 (out-second text r p q part),
      line_read out_form (r ∷ []) text p q out-line (out-fits r (omega arith)) part,
    )
    (refuse-not (leb n r || ltb r (length told)) 16 0 (read_outs text n lows highs (withdrawn told r) q most)
    (or-neither (leb n r) (ltb r (length told)) (lt-leb n r below) (le-ltb r (length told) above)))

-- The reader may read one line more than there are relays from r on, so that some line is left to it behind theirs.
pub outs-onward : (text : List ℕ) (n : ℕ) (lows highs ss told : List ℕ) (r p at most : ℕ) → n ≤ 1000 → length told ≤ r
    → r + length ss ≤ n → length ss < most → Part text p (outs r ss) at
    → (left : ℕ) × (0 < left)
    × (read_outs text n lows highs told p most ≡ read_outs text n lows highs (tell told r ss) at left)
unfolding outs out_line tell
outs-onward text n lows highs [] told r p at most few above below enough part =
    let same : p ≡ at = omega (arith, part.reaches) in
    (most, omega arith, rw same)
outs-onward text n lows highs (zero ∷ ss) told r p at zero few above below enough part = absurd (omega arith)
outs-onward text n lows highs (zero ∷ ss) told r p at (suc most) few above below enough part =
    let line = write_form out_form (r ∷ []) in
    let q = p + length line in
    let (left, some, after) =
    outs-onward text n lows highs ss (withdrawn told r) (r + 1) q at most few (omega (arith, length-withdrawn told r above))
    (omega arith) (omega arith) (part-second text line (outs (r + 1) ss) p at part) in (
      left,
      some,
      out-onward text n lows highs told r p q most few above (omega arith) (part-first text line (outs (r + 1) ss) p at part) ∙ after,
    )
outs-onward text n lows highs (suc s ∷ ss) told r p at most few above below enough part =
    let serves : eqb (suc s) 0 ≡ false = ne_eqb (suc s) 0 (λ e. omega arith) in
    rw serves
    (outs-onward text n lows highs ss told (r + 1) p at most few (omega arith) (omega arith) (omega arith) (rw serves at part))

-- The lines of all the states of a network, behind the last link line.
pub states-onward : (text : List ℕ) (n : ℕ) (lows highs states : List ℕ) (p at : ℕ) → n ≤ 1000 → ProperStates n states
    → Part text p (outs 0 states) at
    → (left : ℕ) × (0 < left) × (read_links text n lows highs p 0 ≡ read_outs text n lows highs (tell [] 0 states) at left)
unfolding read_links
states-onward text n lows highs states p at few proper part =
    let long = proper.long in
    outs-onward text n lows highs states [] 0 p at (suc n) few (omega arith) (omega arith) (omega arith) part

pub end-onward : (text : List ℕ) (n : ℕ) (lows highs told : List ℕ) (p q most : ℕ) → Part text p (write_form end_form []) q
    → read_outs text n lows highs told p most
    ≡ refuse_if (ltb q (length text)) 2 q (done (record { relays = n; lows = lows; highs = highs; states = all_states n told }))
unfolding read_outs read_end on_scan
end-onward text n lows highs told p q zero part = rw (line_read end_form [] text p q end-line end_fits part)
end-onward text n lows highs told p q (suc most) part =
    rw (
      ne_eqb (byte_at text (p + 1)) 111 (λ e. omega (arith, end-second text p q part)),
      line_read end_form [] text p q end-line end_fits part,
    )
