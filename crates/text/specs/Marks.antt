-- The write mark: what moving it over a form of a network's text writes, and how a text is written form by form.
-- Assumes nothing.
use Rattle.std.specs.Prelude.{ℕ, ◌+◌, ◌-◌, ◌≤◌, ◌<◌, List, [], ◌∷◌, ◌++◌, ◌≡◌, get_or}
use Rattle.std.proofs.Common.{append_assoc, sym, ◌∙◌, ap}
use native.Mathlib.Omega.{arith}
use Rattle.std.proofs.Math.ListN.{length, length-append}
use Rattle.std.proofs.lemmas.List.Edits.{sets}
use Rattle.definitions.specs.Form.{write_form}
use Rattle.definitions.specs.Text.{header_form, link_form, end_form, link_lines, out_lines, text_of}
use Rattle.text.specs.declared.put.WriteMark.{WriteMark}
use Rattle.text.specs.declared.scan.Due.{Due}
use Rattle.text.specs.declared.scan.Due.TheVariants as dues
use Rattle.text.specs.Put.{Put, put_rest}
use Rattle.text_theory.specs.Lengths.{length-header, length-text}
use Rattle.text.specs.Written.{links-step, length-links-step, links_end}

-- The bytes of the form that is due behind i links: the `out` lines are one form.
abbrev pub due_text : (due : Due) (n : ℕ) (lows highs states : List ℕ) (i : ℕ) → List ℕ
due_text dues.Header n lows highs states i = write_form header_form (n ∷ length lows ∷ [])
due_text dues.Link n lows highs states i = write_form link_form (get_or lows i 0 ∷ get_or highs i 0 ∷ [])
due_text dues.Out n lows highs states i = out_lines states 0 (length states)
due_text dues.End n lows highs states i = write_form end_form []

abbrev pub links_after : Due → ℕ → ℕ
links_after dues.Header i = i
links_after dues.Link i = i + 1
links_after dues.Out i = i
links_after dues.End i = i

-- A link line needs an entry in each list.
abbrev pub DueEntries : (due : Due) (i : ℕ) (lows highs : List ℕ) → Type 0
DueEntries dues.Header i lows highs = Unit {0}
DueEntries dues.Link i lows highs = (i < length lows) × (i < length highs)
DueEntries dues.Out i lows highs = Unit {0}
DueEntries dues.End i lows highs = Unit {0}

-- The buffer has the room for the form, and the lists have what it says.
pub record FormWritable (buffer : List ℕ) (mark : WriteMark) (due : Due) (n : ℕ) (lows highs states : List ℕ) : Type 0 where
  pub within : mark.links ≤ length lows
  pub entries : DueEntries due mark.links lows highs
  pub room : mark.next + length (due_text due n lows highs states mark.links) ≤ length buffer

-- The form stands at the mark, and the mark behind it.
pub record Moved
    (before : List ℕ) (mark : WriteMark) (due : Due) (after : List ℕ) (moved : WriteMark) (n : ℕ) (lows highs states : List ℕ)
    : Type 0 where
  pub put : Put before mark.next (due_text due n lows highs states mark.links) after moved.next
  pub counts : moved.links ≡ links_after due mark.links

-- The room for the form, where it is known which one is due.
pub due-room : {buffer : List ℕ} {mark : WriteMark} {due : Due} {n : ℕ} {lows highs states : List ℕ} (form : Due) → due ≡ form
    → FormWritable buffer mark due n lows highs states → mark.next + length (due_text form n lows highs states mark.links) ≤ length buffer
due-room form e fits = rw (sym e) fits.room

-- Before the first form.
abbrev pub first : WriteMark
first = record { next = 0; links = 0 }

-- A table of two equal lists, and a buffer with the room for its text.
pub record Writable (buffer : List ℕ) (n : ℕ) (lows highs states : List ℕ) : Type 0 where
  pub even : length lows ≡ length highs
  pub enough : length (text_of n lows highs states) ≤ length buffer

-- ---- the text of a table, from the buffer `start` on
module _ (n : ℕ) (lows highs states start : List ℕ) where
  -- What is left of the text behind the links, and behind i of them.
  abbrev tail : List ℕ
  tail = out_lines states 0 (length states) ++ write_form end_form []

  abbrev pub left : ℕ → List ℕ
  left i = link_lines lows highs i (length lows - i) ++ tail

  -- Behind the header and some of the links: the whole run of stores is that of what is left, on the buffer as it is.
  pub record Standing (buffer : List ℕ) (mark : WriteMark) : Type 0 where
    pub within : mark.links ≤ length lows
    pub same : length buffer ≡ length start
    pub ends : mark.next + length (left mark.links) ≡ length (text_of n lows highs states)
    pub bytes : sets start 0 (text_of n lows highs states) ≡ sets buffer mark.next (left mark.links)

  -- Behind the `out` lines: only the end is left.
  pub record Ending (buffer : List ℕ) (mark : WriteMark) : Type 0 where
    pub within : mark.links ≤ length lows
    pub same : length buffer ≡ length start
    pub ends : mark.next + length (write_form end_form []) ≡ length (text_of n lows highs states)
    pub bytes : sets start 0 (text_of n lows highs states) ≡ sets buffer mark.next (write_form end_form [])

  -- How much is left behind i links.
  length-left : (i : ℕ) → length (left i)
      ≡ length (link_lines lows highs i (length lows - i)) + (length (out_lines states 0 (length states)) + length (write_form end_form []))
  length-left i = simp length-append

  module _ (writable : Writable start n lows highs states) where
    pub header-writable : FormWritable start first dues.Header n lows highs states
    header-writable =
        record {
          within = omega arith;
          entries = tt;
          room = omega (arith, writable.enough, length-text n lows highs states, length-header n (length lows));
        }

    pub link-writable : (buffer : List ℕ) (mark : WriteMark) → Standing buffer mark → mark.links < length lows
        → FormWritable buffer mark dues.Link n lows highs states
    link-writable buffer mark s h =
        record {
          within = s.within;
          entries = (h, omega (arith, writable.even));
          room = omega (
            arith,
            writable.enough,
            s.same,
            s.ends,
            length-left mark.links,
            length-links-step lows highs mark.links (length lows) h,
          );
        }

    pub outs-writable : (buffer : List ℕ) (mark : WriteMark) → Standing buffer mark
        → FormWritable buffer mark dues.Out n lows highs states
    outs-writable buffer mark s =
        record {
          within = s.within;
          entries = tt;
          room = omega (arith, writable.enough, s.same, s.ends, length-left mark.links);
        }

    pub end-writable : (buffer : List ℕ) (mark : WriteMark) → Ending buffer mark
        → FormWritable buffer mark dues.End n lows highs states
    end-writable buffer mark s =
        record { within = s.within; entries = tt; room = omega (arith, writable.enough, s.same, s.ends) }

  pub header-moved : (buffer : List ℕ) (mark : WriteMark) → Moved start first dues.Header buffer mark n lows highs states
      → Standing buffer mark
  unfolding text_of
  header-moved buffer mark m =
      let e : length lows - 0 ≡ length lows = omega arith in
      record {
        within = omega (arith, m.counts);
        same = m.put.same;
        ends = rw (m.counts, e) (omega (
          arith,
          m.put.ends,
          length-append (write_form header_form (n ∷ length lows ∷ [])) (link_lines lows highs 0 (length lows) ++ tail),
        ));
        bytes = rw (m.counts, e) (put_rest start _ buffer _ 0 mark.next m.put);
      }

  pub link-moved : (buffer after : List ℕ) (mark moved : WriteMark) → Standing buffer mark → mark.links < length lows
      → Moved buffer mark dues.Link after moved n lows highs states → Standing after moved
  link-moved buffer after mark moved s h m =
      let step = links-step lows highs mark.links (length lows) h in
      let form = write_form link_form (get_or lows mark.links 0 ∷ get_or highs mark.links 0 ∷ []) in
      let rest = link_lines lows highs (mark.links + 1) (length lows - (mark.links + 1)) in
      let whole : left mark.links ≡ form ++ (rest ++ tail) =
      ap (λ (l : List ℕ). l ++ tail) step ∙ append_assoc form rest tail in
      record {
        within = omega (arith, m.counts);
        same = m.put.same ∙ s.same;
        ends = rw m.counts (omega (arith, s.ends, m.put.ends, ap length whole, length-append form (rest ++ tail)));
        bytes = rw m.counts
            (s.bytes
            ∙ (ap (sets buffer mark.next) whole ∙ put_rest buffer form after (rest ++ tail) mark.next moved.next m.put));
      }

  pub outs-moved : (buffer after : List ℕ) (mark moved : WriteMark) → Standing buffer mark → length lows ≤ mark.links
      → Moved buffer mark dues.Out after moved n lows highs states → Ending after moved
  outs-moved buffer after mark moved s h m =
      let lines = out_lines states 0 (length states) in
      let whole : left mark.links ≡ tail =
      ap (λ (l : List ℕ). l ++ tail) (links_end lows highs mark.links (length lows) h) in
      record {
        within = omega (arith, s.within, m.counts);
        same = m.put.same ∙ s.same;
        ends = omega (arith, s.ends, m.put.ends, ap length whole, length-append lines (write_form end_form []));
        bytes = s.bytes
            ∙ (ap (sets buffer mark.next) whole
            ∙ put_rest buffer lines after (write_form end_form []) mark.next moved.next m.put);
      }

  pub end_moved : (buffer after : List ℕ) (mark moved : WriteMark) → Ending buffer mark
      → Moved buffer mark dues.End after moved n lows highs states → Put start 0 (text_of n lows highs states) after moved.next
  end_moved buffer after mark moved s m =
      record {
        bytes = m.put.bytes ∙ sym s.bytes;
        ends = omega (arith, s.ends, m.put.ends);
        same = m.put.same ∙ s.same;
      }
