-- Link lines and the check of a table, link by link over what was read so far, as the reader goes through them.
-- `lows` and `highs` are what was read so far, `ls` and `hs` what is to come. Assumes nothing.
use Rattle.std.specs.Prelude.{ℕ, suc, ◌+◌, ◌≤◌, false, ◌||◌, not, List, [], ◌∷◌, ◌++◌, ◌≡◌, refl, eqb, ltb, length}
use Rattle.std.proofs.Common.{sym, ◌∙◌, arith, length-append, ltb-false, le-ltb, eq-eqb}
use Rattle.std.proofs.Math.ListN.{get_or-append}
use Rattle.std.proofs.Math.Seq.{append_snoc, get_or-append_seam}
use Rattle.std.proofs.lemmas.List.{get_or_at}
use Rattle.definitions.specs.Outcome.{Answer, done, refuse_if, and_then}
use Rattle.definitions.specs.Lists.{outside}
use Rattle.definitions.specs.Network.{is_pair, link_fault, links_check, states_fault, table_check, Accepted}
use Rattle.definitions.specs.Form.{write_form}
use Rattle.definitions.specs.Text.{link_form, link_lines}
use Rattle.lists.specs.Outcomes.{not-refused, refuse-not, then-done}
use Rattle.lists.specs.SameOutcomes.{done-then}
use Rattle.lists.specs.Below.{some_same}
use Rattle.theory.specs.Accepted.{ProperStates, proper-fault, accepted}

-- The lines of these links.
unfoldable pub lines : List ℕ → List ℕ → List ℕ
lines [] hs = []
lines (a ∷ ls) [] = []
lines (a ∷ ls) (b ∷ hs) = write_form link_form (a ∷ b ∷ []) ++ lines ls hs

-- None of these links has a fault, each behind those before it.
abbrev pub Faultless : (n : ℕ) (lows highs ls hs : List ℕ) → Type 0
Faultless n lows highs [] hs = Unit {0}
Faultless n lows highs (a ∷ ls) [] = Unit {0}
Faultless n lows highs (a ∷ ls) (b ∷ hs) =
    (link_fault n lows highs (length lows) a b ≡ 0) × Faultless n (lows ++ (a ∷ [])) (highs ++ (b ∷ [])) ls hs

snoc-even : (lows highs : List ℕ) (a b : ℕ) → length lows ≡ length highs
    → length (lows ++ (a ∷ [])) ≡ length (highs ++ (b ∷ []))
snoc-even lows highs a b even = omega (arith, length-append lows (a ∷ []), length-append highs (b ∷ []))

pub link_lines-lines : (ls hs lows highs : List ℕ) → length lows ≡ length highs → length ls ≡ length hs
    → link_lines (lows ++ ls) (highs ++ hs) (length lows) (length ls) ≡ lines ls hs
unfolding link_lines lines
link_lines-lines [] hs lows highs even rest = refl
link_lines-lines (a ∷ ls) [] lows highs even rest = absurd (omega arith)
link_lines-lines (a ∷ ls) (b ∷ hs) lows highs even rest =
    let hyp = link_lines-lines ls hs (lows ++ (a ∷ [])) (highs ++ (b ∷ []))
    (snoc-even lows highs a b even) (omega arith) in
    let after : link_lines (lows ++ a ∷ ls) (highs ++ b ∷ hs) (length lows + 1) (length ls) ≡ lines ls hs =
    rw (append_snoc lows a ls, append_snoc highs b hs, length-append lows (a ∷ [])) at hyp in
    rw (get_or-append_seam lows a ls 0, get_or_at highs b hs 0 (length lows) (sym even), after)

-- A link's fault is the same whatever comes behind it.
fault-front : (n : ℕ) (lows highs ls hs : List ℕ) (a b : ℕ) → length lows ≡ length highs
    → link_fault n (lows ++ ls) (highs ++ hs) (length lows) a b ≡ link_fault n lows highs (length lows) a b
unfolding link_fault is_pair
fault-front n lows highs ls hs a b even =
    rw (some_same (is_pair (lows ++ ls) (highs ++ hs) a b) (is_pair lows highs a b) (length lows)
    (λ j h. rw (get_or-append lows ls 0 j h, get_or-append highs hs 0 j (omega arith))))

-- One link of the check.
check-step : (n : ℕ) (lows highs ls hs : List ℕ) (a b : ℕ) → length lows ≡ length highs
    → links_check n (lows ++ a ∷ ls) (highs ++ b ∷ hs) (length lows) (suc (length ls))
    ≡ refuse_if (ltb 0 (link_fault n lows highs (length lows) a b)) (link_fault n lows highs (length lows) a b) (length lows)
    (links_check n (lows ++ (a ∷ []) ++ ls) (highs ++ (b ∷ []) ++ hs) (length (lows ++ (a ∷ []))) (length ls))
unfolding links_check
check-step n lows highs ls hs a b even =
    rw (
      get_or-append_seam lows a ls 0,
      get_or_at highs b hs 0 (length lows) (sym even),
      fault-front n lows highs (a ∷ ls) (b ∷ hs) a b even,
      append_snoc lows a ls,
      append_snoc highs b hs,
      length-append lows (a ∷ []),
    )

-- The check of the links, both ways.
check-faultless : (n : ℕ) (ls hs lows highs values : List ℕ) → length lows ≡ length highs → length ls ≡ length hs
    → links_check n (lows ++ ls) (highs ++ hs) (length lows) (length ls) ≡ done values → Faultless n lows highs ls hs
check-faultless n [] hs lows highs values even rest check = tt
check-faultless n (a ∷ ls) [] lows highs values even rest check = tt
check-faultless n (a ∷ ls) (b ∷ hs) lows highs values even rest check =
    let fault = link_fault n lows highs (length lows) a b in
    let after = links_check n (lows ++ (a ∷ []) ++ ls) (highs ++ (b ∷ []) ++ hs) (length (lows ++ (a ∷ []))) (length ls) in
    let step = not-refused (ltb 0 fault) fault (length lows) after values (sym (check-step n lows highs ls hs a b even) ∙ check) in
    let none : fault ≡ 0 = omega (arith, ltb-false 0 fault step.0) in
    (none, check-faultless n ls hs (lows ++ (a ∷ [])) (highs ++ (b ∷ [])) values (snoc-even lows highs a b even) (omega arith) step.1)

faultless-check : (n : ℕ) (ls hs lows highs : List ℕ) → length lows ≡ length highs → length ls ≡ length hs
    → Faultless n lows highs ls hs → links_check n (lows ++ ls) (highs ++ hs) (length lows) (length ls) ≡ done []
unfolding links_check
faultless-check n [] hs lows highs even rest good = refl
faultless-check n (a ∷ ls) [] lows highs even rest good = absurd (omega arith)
faultless-check n (a ∷ ls) (b ∷ hs) lows highs even rest good =
    let fault = link_fault n lows highs (length lows) a b in
    let after = links_check n (lows ++ (a ∷ []) ++ ls) (highs ++ (b ∷ []) ++ hs) (length (lows ++ (a ∷ []))) (length ls) in
    check-step n lows highs ls hs a b even
    ∙ refuse-not (ltb 0 fault) fault (length lows) after (le-ltb 0 fault (omega (arith, good.0)))
    ∙ faultless-check n ls hs (lows ++ (a ∷ [])) (highs ++ (b ∷ [])) (snoc-even lows highs a b even) (omega arith) good.1

-- What the table of an accepted network has, and what makes a table that of an accepted network, link by link.
pub accepted-faultless : (n : ℕ) (lows highs states : List ℕ) → Accepted n lows highs states → Faultless n [] [] lows highs
unfolding table_check
accepted-faultless n lows highs states check =
    let table = accepted n lows highs states check in
    let last : Answer = refuse_if (states_fault n states) 16 0 (done []) in
    let links = and_then (links_check n lows highs 0 (length lows)) λ _. last in
    let uneven = not (eqb (length lows) (length highs)) || ltb 3000 (length lows) in
    let first = not-refused (outside 1 1000 n) 3 0 (refuse_if uneven 4 0 links) [] check in
    let second = not-refused uneven 4 0 links [] first.1 in
    let (values, found, fit) = done-then (links_check n lows highs 0 (length lows)) (λ _. last) [] second.1 in
    check-faultless n lows highs [] [] values refl table.even found

pub faultless-accepted : (n : ℕ) (lows highs states : List ℕ) → outside 1 1000 n ≡ false → length lows ≡ length highs
    → length lows ≤ 3000 → Faultless n [] [] lows highs → ProperStates n states → Accepted n lows highs states
unfolding table_check
faultless-accepted n lows highs states size even few good proper =
    let last : Answer = refuse_if (states_fault n states) 16 0 (done []) in
    let links = and_then (links_check n lows highs 0 (length lows)) λ _. last in
    let uneven = not (eqb (length lows) (length highs)) || ltb 3000 (length lows) in
    let fits : uneven ≡ false = rw (eq-eqb (length lows) (length highs) even, le-ltb 3000 (length lows) few) in
    refuse-not (outside 1 1000 n) 3 0 (refuse_if uneven 4 0 links) size
    ∙ refuse-not uneven 4 0 links fits
    ∙ then-done (links_check n lows highs 0 (length lows)) (λ _. last) [] (faultless-check n lows highs [] [] refl even good)
    ∙ refuse-not (states_fault n states) 16 0 (done []) (proper-fault n states proper)
