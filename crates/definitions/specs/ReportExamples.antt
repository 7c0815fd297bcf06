-- Reports on small texts (document 02, #108): which of two stands, each refusal, and sets with their networks. By computation.
-- Assumes nothing.
use Rattle.std.specs.Prelude.{ℕ, List, [], ◌∷◌, ◌≡◌, refl, replicate}
use Prim.Native.String.{String}
use Rattle.definitions.specs.Outcome.{refused, done, Answer}
use Rattle.definitions.specs.Form.{bytes}
use Rattle.definitions.specs.Stands.{standing_bytes, standing_check, stands_answer, stands_input, stands_text}
use Rattle.definitions.specs.ReportSets.{reports_answer, reports_lows, reports_highs, reports_states, reports_text}
use Rattle.definitions.specs.Networks.{Example, AllHold, lent}
use Rattle.definitions.specs.Opened.{opened}

-- Of two texts the second stands, or the first: its bytes, and for C which it is and how long.
abbrev second_stands : (one other : String) (size : ℕ) → List Example
second_stands one other size =
    record {
      found = record { answer = standing_check (bytes one) (bytes other); lists = standing_bytes (bytes one) (bytes other) ∷ [] };
      due = record { answer = done []; lists = bytes other ∷ [] };
    }
    ∷ record {
      found = record { answer = stands_answer (bytes one) (bytes other); lists = [] };
      due = record { answer = done (1 ∷ size ∷ []); lists = [] };
    }
    ∷ []

abbrev first_stands : (one other : String) → Example
first_stands one other =
    record {
      found = record { answer = standing_check (bytes one) (bytes other); lists = standing_bytes (bytes one) (bytes other) ∷ [] };
      due = record { answer = done []; lists = bytes one ∷ [] };
    }

-- Neither stands.
abbrev none_stands : (one other : String) (number : ℕ) → Example
none_stands one other number =
    record {
      found = record { answer = standing_check (bytes one) (bytes other); lists = standing_bytes (bytes one) (bytes other) ∷ [] };
      due = record { answer = refused number 0; lists = [] ∷ [] };
    }

-- A text that is no report: beside a good one it is refused with 19.
abbrev out : (text : String) → Example
out text = none_stands "(report 4 0 (sees))\n" text 19

abbrev stand_examples : List Example
stand_examples =
    first_stands "(report 4 8 (sees 2 3))\n" "(report 4 7 (sees))\n"
    -- "that starts again at 0": 3 comes after 4,294,967,295.
    ∷ first_stands "(report 4 3 (sees))\n" "(report 4 4294967295 (sees 2 3))\n"
    -- One below half of the range, half of it, and one above.
    ∷ first_stands "(report 4 2147483647 (sees))\n" "(report 4 0 (sees 2))\n"
    ∷ none_stands "(report 4 2147483648 (sees))\n" "(report 4 0 (sees 2))\n" 21
    ∷ none_stands "(report 4 0 (sees 2))\n" "(report 4 2147483648 (sees))\n" 21
    ∷ first_stands "(report 4 0 (sees 2))\n" "(report 4 2147483649 (sees))\n"
    -- Equal serials: on equal bytes the first, on others 21.
    ∷ first_stands "(report 4 9 (sees 2))\n" "(report 4 9 (sees 2))\n"
    ∷ none_stands "(report 4 9 (sees 2))\n" "(report 4 9 (sees 3))\n" 21
    -- 20, but 19 comes before it.
    ∷ none_stands "(report 4 9 (sees 2))\n" "(report 5 9 (sees 2))\n" 20
    ∷ none_stands "(report 5 9 (sees 2))\n" "(report 4 9 (sees 4))\n" 19
    -- Out of form: no line end, more behind it, a space too many, another word, nothing at all.
    ∷ out "(report 4 1 (sees))"
    ∷ out "(report 4 1 (sees))\n(report 4 1 (sees))\n"
    ∷ out "(report 4 1 (sees ))\n"
    ∷ out "(report 4 1 (seen))\n"
    ∷ out ""
    -- The serial: past its range, a zero in front, eleven digits, none.
    ∷ first_stands "(report 4 4294967295 (sees))\n" "(report 4 4294967290 (sees))\n"
    ∷ out "(report 4 4294967296 (sees))\n"
    ∷ out "(report 4 9999999999 (sees))\n"
    ∷ out "(report 4 01 (sees))\n"
    ∷ out "(report 4 10000000000 (sees))\n"
    ∷ out "(report 4  (sees))\n"
    -- Relays: over 999, its own, neighbours that fall or stand twice.
    ∷ first_stands "(report 999 1 (sees 0 998))\n" "(report 999 0 (sees))\n"
    ∷ out "(report 1000 1 (sees))\n"
    ∷ out "(report 4 1 (sees 3 1000))\n"
    ∷ out "(report 4 1 (sees 3 4))\n"
    ∷ out "(report 4 1 (sees 3 2))\n"
    ∷ out "(report 4 1 (sees 3 3))\n"
    ∷ second_stands "(report 4 4294967295 (sees 2 3))\n" "(report 4 3 (sees))\n" 20

-- A set of n relays into lists of three links and five states.
abbrev sets : (n : ℕ) (text : String) (answer : Answer) (lows highs states : List ℕ) → Example
sets n text answer lows highs states =
    record {
      found =
          record {
            answer = reports_answer n (bytes text) (lent 3) (lent 3) (lent 5);
            lists =
                reports_lows n (bytes text) (lent 3) (lent 3) (lent 5)
                ∷ reports_highs n (bytes text) (lent 3) (lent 3) (lent 5)
                ∷ reports_states n (bytes text) (lent 3) (lent 3) (lent 5)
                ∷ [];
          };
      due = record { answer = answer; lists = lows ∷ highs ∷ states ∷ [] };
    }

abbrev no_set : (n : ℕ) (text : String) (number : ℕ) → Example
no_set n text number = sets n text (refused number 0) (replicate 3 0) (replicate 3 0) (replicate 5 0)

abbrev set_examples : List Example
set_examples =
    -- Lines in any order; 3 sees 1, which does not report, and 2 sees 1: no link. Relay 1 is withdrawn.
    sets 5 "(report 4 1 (sees 2 3))\n(report 2 7 (sees 0 1 3 4))\n(report 3 0 (sees 1 2))\n(report 0 0 (sees 2))\n"
    (done (5 ∷ 3 ∷ [])) (0 ∷ 2 ∷ 2 ∷ []) (2 ∷ 3 ∷ 4 ∷ []) (1 ∷ 0 ∷ 1 ∷ 1 ∷ 1 ∷ [])
    -- Zeros behind the links and states; a relay that sees none is in service.
    ∷ sets 4 "(report 3 5 (sees))\n(report 2 0 (sees 1))\n(report 1 4294967295 (sees 2 3))\n"
    (done (4 ∷ 1 ∷ [])) (1 ∷ 0 ∷ 0 ∷ []) (2 ∷ 0 ∷ 0 ∷ []) (0 ∷ 1 ∷ 1 ∷ 1 ∷ 0 ∷ [])
    -- No report at all.
    ∷ sets 2 "" (done (2 ∷ 0 ∷ [])) (0 ∷ 0 ∷ 0 ∷ []) (0 ∷ 0 ∷ 0 ∷ []) (0 ∷ 0 ∷ 0 ∷ 0 ∷ 0 ∷ [])
    -- 3 first; 19 on the last line before 20; 20 on two equal lines before 5; 5 for a relay that is only seen, and for one that reports.
    ∷ no_set 0 "(report" 3
    ∷ no_set 1001 "(report" 3
    ∷ no_set 5 "(report 4 1 (sees 2))\n(report 4 1 (sees 2))\n(report 3 0 (sees)\n" 19
    ∷ no_set 5 "(report 4 1 (sees 2))\n(report 4 1 (sees 2))\n(report 900 0 (sees))\n" 20
    ∷ no_set 5 "(report 4 1 (sees 5))\n" 5
    ∷ no_set 5 "(report 5 1 (sees))\n" 5
    -- 8: four links, or six states.
    ∷ no_set 5 "(report 0 0 (sees 1 2 3 4))\n(report 1 0 (sees 0))\n(report 2 0 (sees 0))\n(report 3 0 (sees 0))\n(report 4 0 (sees 0))\n" 8
    ∷ no_set 6 "(report 0 0 (sees))\n" 8
    ∷ []

pub stand-examples : AllHold stand_examples
unfolding opened
stand-examples = refl

pub set-examples : AllHold set_examples
unfolding opened
set-examples = refl

-- What the two programs print.
abbrev prints : (text due : List ℕ) → Example
prints text due =
    record {
      found = record { answer = done []; lists = text ∷ [] };
      due = record { answer = done []; lists = due ∷ [] };
    }

abbrev prints_set : (input due : String) → Example
prints_set input due = prints (reports_text (bytes input)) (bytes due)

abbrev prints_standing : (one other due : String) → Example
prints_standing one other due = prints (stands_text (stands_input (bytes one) (bytes other))) (bytes due)

abbrev print_examples : List Example
print_examples =
    prints_set "(reports 3)\n(report 2 1 (sees 0))\n(report 0 4 (sees 1 2))\n" "(net (relays 3) (links 1))\n(link 0 2)\n(out 1)\n(end)\n"
    ∷ prints_set "(reports 2)\n" "(net (relays 2) (links 0))\n(out 0)\n(out 1)\n(end)\n"
    ∷ prints_set "(reports 3)\n(report 2 1 (sees 3))\n" "(refused 5 0)\n"
    ∷ prints_standing "(report 2 1 (sees 0))\n" "(report 2 4 (sees 1))\n" "(report 2 4 (sees 1))\n"
    ∷ prints_standing "(report 2 4 (sees 0))\n" "(report 2 1 (sees 1))\n" "(report 2 4 (sees 0))\n"
    -- The border decides which bytes are whose: two halves that make two lines only together are no reports.
    ∷ prints_standing "(report 2 4 (sees 0" "))\n(report 2 5 (sees 1))\n" "(refused 19 0)\n"
    ∷ prints_standing "(report 2 4 (sees 0))\n" "" "(refused 19 0)\n"
    -- 1: another line in front.
    ∷ prints_set "(reports x)\n" "(refused 1 9)\n"
    ∷ prints_set "" "(refused 1 0)\n"
    ∷ prints (stands_text (bytes "(stands 1)\n")) (bytes "(refused 1 9)\n")
    ∷ []

pub stands-input : stands_input (bytes "(report 2 4 (sees 0))\n") (bytes "(report 2 1 (sees 1))\n")
    ≡ bytes "(stands 0 22)\n(report 2 4 (sees 0))\n(report 2 1 (sees 1))\n"
unfolding opened
stands-input = refl

pub print-examples : AllHold print_examples
unfolding opened
print-examples = refl
