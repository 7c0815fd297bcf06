-- What reading a table promises before the lists are cleared behind it, and what follows for Read. Assumes nothing.
use Rattle.std.specs.Prelude.{ℕ, ◌-◌, ◌≤◌, List, [], ◌∷◌, ◌≡◌, refl, take, Result, Ok, Err}
use Rattle.std.specs.Result.{result_unwrap_or}
use Rattle.std.proofs.Common.{sym, ◌∙◌, arith, length-drop}
use Rattle.std.proofs.Math.Path.{ap}
use Rattle.std.proofs.Math.ListN.{length}
use Rattle.std.proofs.Math.Seq.{length-take-le}
use Rattle.definitions.specs.Outcome.{Outcome, done, and_then}
use Rattle.definitions.specs.Lists.{zeroed}
use Rattle.definitions.specs.Form.{departs, reads, scan_form, on_scan}
use Rattle.definitions.specs.Text.{
  header_form,
  Network,
  read_links,
  sized,
  read_network,
  counts_of,
  read_answer,
  filled,
  lows_after,
  highs_after,
  states_after,
}
use Rattle.network.specs.Answers.{refusal_of}
use Rattle.network.specs.Refusals.{refusal-then}
use Rattle.network.specs.declared.refusal.Refusal.{Refusal}
use Rattle.network.specs.declared.refusal.Refusal.TheVariants.{Form}
use Rattle.text.specs.Answers.{read_outcome}
use Rattle.text.specs.Outs.{StatesRead}
use Rattle.text.specs.Rows.{on_step, LineReading, LinksRead, cleared_from, Cleared}
use Rattle.text.specs.declared.TableSize.{TableSize}

-- The network that an answer stands for, with the fronts of the two lists.
abbrev pub network_of : Result TableSize Refusal → List ℕ → List ℕ → List ℕ → Outcome Network
network_of (Ok size) lows highs states =
    done (record {
      relays = size.relays;
      lows = take size.links lows;
      highs = take size.links highs;
      states = take size.relays states;
    })
network_of (Err refusal) lows highs states = refusal_of refusal

-- How many links stand in the first two lists, and how many states in the third.
abbrev pub links_kept : Result TableSize Refusal → ℕ
links_kept (Ok size) = size.links
links_kept (Err refusal) = 0

abbrev pub states_kept : Result TableSize Refusal → ℕ
states_kept (Ok size) = size.relays
states_kept (Err refusal) = 0

-- What reading gave is the outcome; the lists keep their lengths.
pub record TableRead
    (outcome : Outcome Network) (lows highs states lows_then highs_then states_then : List ℕ) (r : Result TableSize Refusal)
    : Type 0 where
  pub network : outcome ≡ network_of r lows_then highs_then states_then
  pub low_room : links_kept r ≤ length lows_then
  pub high_room : links_kept r ≤ length highs_then
  pub state_room : states_kept r ≤ length states_then
  pub same_lows : length lows_then ≡ length lows
  pub same_highs : length highs_then ≡ length highs
  pub same_states : length states_then ≡ length states

-- Lists of the lengths they had serve a refusal.
refused-same : (outcome : Outcome Network) (lows highs states lows_then highs_then states_then : List ℕ) (refusal : Refusal)
    → outcome ≡ refusal_of refusal → length lows_then ≡ length lows → length highs_then ≡ length highs
    → length states_then ≡ length states
    → TableRead outcome lows highs states lows_then highs_then states_then (Err refusal)
refused-same outcome lows highs states lows_then highs_then states_then refusal e l h s =
    record {
      network = e;
      low_room = omega arith;
      high_room = omega arith;
      state_room = omega arith;
      same_lows = l;
      same_highs = h;
      same_states = s;
    }

-- The lists are as they were after a refusal before any link.
pub refused-early : (outcome : Outcome Network) (lows highs states : List ℕ) (refusal : Refusal) → outcome ≡ refusal_of refusal
    → TableRead outcome lows highs states lows highs states (Err refusal)
refused-early outcome lows highs states refusal e = refused-same outcome lows highs states lows highs states refusal e refl refl refl

pub header_read : (text : List ℕ) (n m p room_lows room_highs room_states : ℕ) → scan_form text header_form 0 ≡ reads (n ∷ m ∷ []) p
    → read_network text room_lows room_highs room_states ≡ sized n m room_lows room_highs room_states (read_links text n [] [] p m)
unfolding read_network on_scan
header_read text n m p room_lows room_highs room_states e = rw e

pub header-departs : (text : List ℕ) (refusal : Refusal) (p room_lows room_highs room_states : ℕ) → refusal ≡ Form p
    → scan_form text header_form 0 ≡ departs p → read_network text room_lows room_highs room_states ≡ refusal_of refusal
unfolding read_network on_scan
header-departs text refusal p room_lows room_highs room_states is e = rw (e, is)

-- Behind the link lines of a network text: the states and the end.
pub states-behind : (text : List ℕ) (n p : ℕ) (lows highs states states_then : List ℕ) (q : Result ℕ Refusal) → StatesRead text n p states states_then q
    → read_links text n lows highs p 0
    ≡ on_step q (λ _. done (record { relays = n; lows = lows; highs = highs; states = take n states_then }))
unfolding read_links
states-behind text n p lows highs states states_then q told = told.follows lows highs

-- A refused link line, a refusal behind the last of them, and a whole table.
module _ (reading : LineReading) (m at : ℕ) (lows highs states lows_then highs_then : List ℕ) (r : Result ℕ Refusal)
    (links : LinksRead reading m at lows highs lows_then highs_then r) where
  pub links-refused : (refusal : Refusal) → r ≡ Err refusal
      → TableRead (reading [] [] at m) lows highs states lows_then highs_then states (Err refusal)
  links-refused refusal e =
      refused-same (reading [] [] at m) lows highs states lows_then highs_then states refusal
      (links.follows ∙ ap (λ (s : Result ℕ Refusal). on_step s (λ p. reading (take m lows_then) (take m highs_then) p 0)) e)
      links.same_lows links.same_highs refl

  module _ (n p : ℕ) (e : r ≡ Ok p) (states_then : List ℕ) (q : Result ℕ Refusal)
      (behind : reading (take m lows_then) (take m highs_then) p 0
      ≡ on_step q (λ _. done (record { relays = n; lows = take m lows_then; highs = take m highs_then; states = take n states_then })))
      (same : length states_then ≡ length states) where
    whole : Outcome Network
    whole = done (record { relays = n; lows = take m lows_then; highs = take m highs_then; states = take n states_then })

    at-end : reading [] [] at m ≡ on_step q (λ _. whole)
    unfolding whole
    at-end =
        links.follows
        ∙ ap (λ (s : Result ℕ Refusal). on_step s (λ p. reading (take m lows_then) (take m highs_then) p 0)) e
        ∙ behind

    pub rest-refused : (refusal : Refusal) → q ≡ Err refusal
        → TableRead (reading [] [] at m) lows highs states lows_then highs_then states_then (Err refusal)
    rest-refused refusal f =
        refused-same (reading [] [] at m) lows highs states lows_then highs_then states_then refusal
        (at-end ∙ ap (λ (s : Result ℕ Refusal). on_step s (λ _. whole)) f) links.same_lows links.same_highs same

    pub table-whole : (next : ℕ) → q ≡ Ok next → m ≤ length lows → m ≤ length highs → n ≤ length states
        → TableRead (reading [] [] at m) lows highs states lows_then highs_then states_then (Ok (record { relays = n; links = m }))
    unfolding whole
    table-whole next f h k l =
        record {
          network = at-end ∙ ap (λ (s : Result ℕ Refusal). on_step s (λ _. whole)) f;
          low_room = omega (arith, links.same_lows);
          high_room = omega (arith, links.same_highs);
          state_room = omega (arith, same);
          same_lows = links.same_lows;
          same_highs = links.same_highs;
          same_states = same;
        }

-- The same reading under another name.
pub table_same : (one other : Outcome Network) (lows highs states lows_then highs_then states_then : List ℕ) (r : Result TableSize Refusal)
    → other ≡ one → TableRead one lows highs states lows_then highs_then states_then r
    → TableRead other lows highs states lows_then highs_then states_then r
table_same one other lows highs states lows_then highs_then states_then r e t =
    record {
      network = e ∙ t.network;
      low_room = t.low_room;
      high_room = t.high_room;
      state_room = t.state_room;
      same_lows = t.same_lows;
      same_highs = t.same_highs;
      same_states = t.same_states;
    }

-- A column of what was read, with zeros behind it.
filled-table : (column : Network → List ℕ) (old new : List ℕ) (network : Network) (kept : ℕ)
    → column network ≡ take kept new → kept ≤ length new → length new ≡ length old
    → filled column (done network) old ≡ cleared_from kept new
unfolding filled zeroed cleared_from
filled-table column old new network kept e h s =
    rw (e, length-take-le kept new h, length-drop kept old, s)

filled-refused : (column : Network → List ℕ) (old new : List ℕ) (refusal : Refusal) → length new ≡ length old
    → filled column (refusal_of refusal) old ≡ cleared_from 0 new
unfolding filled zeroed cleared_from
filled-refused column old new refusal s =
    let e : length new - 0 ≡ length old = omega arith in
    rw e

-- The answer and the three lists afterwards, from what was read.
module _ (outcome : Outcome Network) (lows highs states lows_then highs_then states_then : List ℕ) where
  abbrev Reading : Result TableSize Refusal → Type 0
  Reading r = TableRead outcome lows highs states lows_then highs_then states_then r

  pub answer-of : (r : Result TableSize Refusal) → Reading r → read_outcome r ≡ counts_of outcome
  unfolding and_then
  answer-of (Ok size) t = rw (t.network, length-take-le size.links lows_then t.low_room)
  answer-of (Err refusal) t =
      rw t.network (sym (refusal-then refusal (λ (network : Network). done (network.relays ∷ length network.lows ∷ []))))

  pub lows-of : (r : Result TableSize Refusal) → Reading r → filled (λ network. network.lows) outcome lows ≡ cleared_from (links_kept r) lows_then
  lows-of (Ok size) t =
      rw t.network (filled-table (λ network. network.lows) lows lows_then _ size.links refl t.low_room t.same_lows)
  lows-of (Err refusal) t =
      rw t.network (filled-refused (λ network. network.lows) lows lows_then refusal t.same_lows)

  pub highs-of : (r : Result TableSize Refusal) → Reading r → filled (λ network. network.highs) outcome highs ≡ cleared_from (links_kept r) highs_then
  highs-of (Ok size) t =
      rw t.network (filled-table (λ network. network.highs) highs highs_then _ size.links refl t.high_room t.same_highs)
  highs-of (Err refusal) t =
      rw t.network (filled-refused (λ network. network.highs) highs highs_then refusal t.same_highs)

  pub states-of : (r : Result TableSize Refusal) → Reading r → filled (λ network. network.states) outcome states ≡ cleared_from (states_kept r) states_then
  states-of (Ok size) t =
      rw t.network (filled-table (λ network. network.states) states states_then _ size.relays refl t.state_room t.same_states)
  states-of (Err refusal) t =
      rw t.network (filled-refused (λ network. network.states) states states_then refusal t.same_states)

-- What the lists are once they are cleared behind what stands in them, by the answer that was given: the four promises together.
pub record ReadWhole (outcome : Outcome Network) (lows highs states lows_end highs_end states_end : List ℕ) (r : Result TableSize Refusal) : Type 0 where
  pub answer : read_outcome r ≡ counts_of outcome
  pub low_list : lows_end ≡ filled (λ network. network.lows) outcome lows
  pub high_list : highs_end ≡ filled (λ network. network.highs) outcome highs
  pub state_list : states_end ≡ filled (λ network. network.states) outcome states

-- After a refusal nothing is kept.
abbrev pub none_kept : TableSize
none_kept = record { relays = 0; links = 0 }

kept-links : (r : Result TableSize Refusal) → (result_unwrap_or r none_kept).links ≡ links_kept r
kept-links (Ok size) = refl
kept-links (Err refusal) = refl

kept-states : (r : Result TableSize Refusal) → (result_unwrap_or r none_kept).relays ≡ states_kept r
kept-states (Ok size) = refl
kept-states (Err refusal) = refl

pub read_whole : (outcome : Outcome Network) (lows highs states lows_then highs_then states_then lows_end highs_end states_end : List ℕ)
    (r : Result TableSize Refusal) (kept : TableSize) → kept ≡ result_unwrap_or r none_kept
    → TableRead outcome lows highs states lows_then highs_then states_then r
    → Cleared kept.links kept.relays lows_then highs_then states_then lows_end highs_end states_end
    → ReadWhole outcome lows highs states lows_end highs_end states_end r
read_whole outcome lows highs states lows_then highs_then states_then lows_end highs_end states_end r kept e table cleared =
    let links : kept.links ≡ links_kept r = ap (λ (s : TableSize). s.links) e ∙ kept-links r in
    let relays : kept.relays ≡ states_kept r = ap (λ (s : TableSize). s.relays) e ∙ kept-states r in
    record {
      answer = answer-of outcome lows highs states lows_then highs_then states_then r table;
      low_list = cleared.low_list
          ∙ ap (λ (k : ℕ). cleared_from k lows_then) links
          ∙ sym (lows-of outcome lows highs states lows_then highs_then states_then r table);
      high_list = cleared.high_list
          ∙ ap (λ (k : ℕ). cleared_from k highs_then) links
          ∙ sym (highs-of outcome lows highs states lows_then highs_then states_then r table);
      state_list = cleared.state_list
          ∙ ap (λ (k : ℕ). cleared_from k states_then) relays
          ∙ sym (states-of outcome lows highs states lows_then highs_then states_then r table);
    }

-- Read's.
pub read-promises : (text lows highs states lows_end highs_end states_end : List ℕ) (r : Result TableSize Refusal)
    → ReadWhole (read_network text (length lows) (length highs) (length states)) lows highs states lows_end highs_end states_end r
    → (read_outcome r ≡ read_answer text lows highs states) × ((lows_end ≡ lows_after text lows highs states)
    × ((highs_end ≡ highs_after text lows highs states) × (states_end ≡ states_after text lows highs states)))
unfolding read_answer lows_after highs_after states_after
read-promises text lows highs states lows_end highs_end states_end r promises =
    (promises.answer, (promises.low_list, (promises.high_list, promises.state_list)))
