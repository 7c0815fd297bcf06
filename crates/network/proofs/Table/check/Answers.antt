-- The table check meets its contract: the tests on the way to each answer are those of the definition.
use Rattle.std.proofs.Common.{rules, refl, ℕ, List, [], length, ◌≤◌, ◌≡◌, ◌∙◌, sym, arith, lt-ltb, le-ltb, eq-eqb, ne_eqb}
use Rattle.definitions.specs.Outcome.{done, refuse_if, and_then}
use Rattle.definitions.specs.Lists.{outside}
use Rattle.definitions.specs.Network.{table_check, links_check, states_fault}
use Rattle.network.proofs.Table.check.Goals as goal
use Rattle.network.proofs.Table.check.Goals.{then-self-lt1-via-then-self-lt1, then-self-lt1-via-else-self-lt1+then-self-gt-RELAYS, then-self-via-then-self, then-self-via-else-self+then-self-gt-LINK_ROOM}

pub returns-then-self-lt1-clause-answer : goal.returns-then-self-lt1-clause-answer
unfolding table_check outside refuse_if and_then
returns-then-self-lt1-clause-answer c =
    elim c.then-self-lt1.branch [
      | then-self-lt1-via-then-self-lt1 w ↦ simp (lt-ltb _ _ w.if-self-lt1.true)
      | then-self-lt1-via-else-self-lt1+then-self-gt-RELAYS w ↦
          simp (le-ltb _ _ w.if-self-lt1.false, lt-ltb _ _ w.if-self-gt-RELAYS.true)
    ]

pub returns-then-self-clause-answer : goal.returns-then-self-clause-answer
unfolding table_check outside refuse_if and_then
returns-then-self-clause-answer c =
    let n = c.args.self.n in
    elim c.then-self.branch [
      | then-self-via-then-self w ↦
          simp (le-ltb n 1 (omega arith), le-ltb 1000 n (omega arith), ne_eqb _ _ w.if-self.true)
      | then-self-via-else-self+then-self-gt-LINK_ROOM w ↦
          simp (
            le-ltb n 1 (omega arith),
            le-ltb 1000 n (omega arith),
            eq-eqb _ _ w.if-self.false,
            lt-ltb _ _ w.if-self-gt-LINK_ROOM.true,
          )
    ]

-- Where the counts are in range the links decide, and after them the states.
after_counts : (n : ℕ) (lows highs states : List ℕ) → 1 ≤ n → n ≤ 1000 → length lows ≡ length highs → length lows ≤ 3000
    → table_check n lows highs states
    ≡ and_then (links_check n lows highs 0 (length lows)) λ _. refuse_if (states_fault n states) 16 0 (done [])
unfolding table_check outside refuse_if
after_counts n lows highs states low high same few =
    simp (le-ltb n 1 low, le-ltb 1000 n high, eq-eqb _ _ same, le-ltb _ _ few)

pub returns-in_err-all_links_check-clause-answer : goal.returns-in_err-all_links_check-clause-answer
unfolding and_then
returns-in_err-all_links_check-clause-answer c =
    let t = c.args.self in
    let counts = after_counts t.n t.lows.now t.highs.now t.states.now (omega arith) (omega arith)
    c.if-self.false c.if-self-gt-LINK_ROOM.false in
    search rules

pub returns-in_err-states_check-clause-answer : goal.returns-in_err-states_check-clause-answer
unfolding and_then
returns-in_err-states_check-clause-answer c =
    let t = c.args.self in
    let counts = after_counts t.n t.lows.now t.highs.now t.states.now (omega arith) (omega arith)
    c.if-self.false c.if-self-gt-LINK_ROOM.false in
    let whole = counts ∙ rw (sym c.in_ok-all_links_check.ensures) refl ∙ sym c.in_err-states_check.ensures in
    search rules

pub invariant_of-result : goal.invariant_of-result
unfolding and_then
invariant_of-result c =
    let t = c.args.self in
    record {
      accepted = after_counts t.n t.lows.now t.highs.now t.states.now (omega arith) (omega arith)
          c.if-self.false c.if-self-gt-LINK_ROOM.false
          ∙ rw (sym c.in_ok-all_links_check.ensures) (sym c.in_ok-states_check.ensures);
    }
