-- The round trip of the network text: the reader accepts exactly the texts of accepted networks, and gives those networks.
-- Assumes nothing.
use Rattle.std.specs.Prelude.{ℕ, zero, suc, ◌+◌, ◌≤◌, false, ◌||◌, List, [], ◌∷◌, ◌++◌, ◌≡◌, refl, ltb, length, get_or}
use Rattle.std.proofs.Common.{append-nil, append_assoc, sym, ◌∙◌, ap, add-zero, arith, ltb-false, le-ltb}
use Rattle.std.proofs.Math.Seq.{append_snoc}
use Rattle.definitions.specs.Outcome.{Outcome, done, refuse_if}
use Rattle.definitions.specs.Lists.{outside}
use Rattle.definitions.specs.Network.{link_fault, Accepted}
use Rattle.definitions.specs.Form.{Scan, departs, reads, scan_form, on_scan, write_form}
use Rattle.definitions.specs.Text.{header_form, link_form, end_form, Network, sized, all_states, read_end, read_outs, read_links, read_network, text_of}
use Rattle.lists.specs.Outcomes.{not-refused, refuse-not}
use Rattle.lists.specs.Parts.{Part, part-append, part-first, part-second, part-start, part_end, part-whole}
use Rattle.theory.specs.Accepted.{ProperStates, accepted, accepted-states}
use Rattle.text_theory.specs.Forms.{header-line, link-line, end-line}
use Rattle.text_theory.specs.NetworkLines.{
  read-line,
  link-numbers,
  header-numbers,
  end-numbers,
}
use Rattle.text_theory.specs.LinkByLink.{lines, Faultless, link_lines-lines, accepted-faultless, faultless-accepted}
use Rattle.text_theory.specs.OutByOut.{outs, out_lines-outs, each-proper, tell, all-told-states}
use Rattle.text_theory.specs.Onward.{header-roomy, links-onward, states-onward, end-onward}
use Rattle.text_theory.specs.Sized.{sized-done}
use Rattle.text_theory.specs.OutsRead.{OutsOver, out_departs, no_out, OutsRead, read-outs}

-- The text behind the link lines, and behind the header line.
abbrev after : List ℕ → List ℕ
after states = outs 0 states ++ write_form end_form []

abbrev body : List ℕ → List ℕ → List ℕ → List ℕ
body ls hs states = lines ls hs ++ after states

-- What a reading that was done had behind it.
pub on-scan-done : {A : Type 0} (number : ℕ) (scan : Scan) (next : List ℕ → ℕ → Outcome A) (value : A)
    → on_scan number scan next ≡ done value
    → (values : List ℕ) × (q : ℕ) × (scan ≡ reads values q) × (next values q ≡ done value)
unfolding on_scan
on-scan-done number (departs p) next value e = let z : ◌≡◌ {A = ℕ} 0 1 = cc in absurd (omega arith)
on-scan-done number (reads values q) next value e = (values, q, refl, e)

record LinksStand (text : List ℕ) (n : ℕ) (lows highs : List ℕ) (p count : ℕ) (network : Network) : Type 0 where
  ls : List ℕ
  hs : List ℕ
  states : List ℕ
  even : length ls ≡ length hs
  many : length ls ≡ count
  result : network ≡ record { relays = n; lows = lows ++ ls; highs = highs ++ hs; states = states }
  good : Faultless n lows highs ls hs
  proper : ProperStates n states
  part : Part text p (body ls hs states) (length text)

-- A link line, and behind it the others.
one_more : (count : ℕ) (text : List ℕ) (n : ℕ) (lows highs : List ℕ) (a b p q : ℕ) (network : Network)
    → link_fault n lows highs (length lows) a b ≡ 0 → Part text p (write_form link_form (a ∷ b ∷ [])) q
    → LinksStand text n (lows ++ (a ∷ [])) (highs ++ (b ∷ [])) q count network → LinksStand text n lows highs p (suc count) network
unfolding lines
one_more count text n lows highs a b p q network none line rest =
    record {
      ls = a ∷ rest.ls;
      hs = b ∷ rest.hs;
      states = rest.states;
      even = ap suc rest.even;
      many = ap suc rest.many;
      result = rw (append_snoc lows a rest.ls, append_snoc highs b rest.hs) at rest.result;
      good = (none, rest.good);
      proper = rest.proper;
      part =
          rw (append_assoc (write_form link_form (a ∷ b ∷ [])) (lines rest.ls rest.hs) (after rest.states))
          (part-append text (write_form link_form (a ∷ b ∷ [])) (body rest.ls rest.hs rest.states) p q (length text) line
          rest.part);
    }

read-end : (text : List ℕ) (n : ℕ) (lows highs told : List ℕ) (p : ℕ) (network : Network) → p ≤ length text
    → read_end text n lows highs told p ≡ done network
    → (network ≡ record { relays = n; lows = lows; highs = highs; states = all_states n told })
    × Part text p (write_form end_form []) (length text)
unfolding read_end
read-end text n lows highs told p network within e =
    let (values, q, first, second) =
    on-scan-done 2 (scan_form text end_form p)
    (λ _ q. refuse_if (ltb q (length text)) 2 q
    (done (record { relays = n; lows = lows; highs = highs; states = all_states n told }))) network e in
    let line = read-line end_form text p values q end-line within first in
    let over = not-refused (ltb q (length text)) 2 q _ network second in
    let last : q ≡ length text = omega (arith, ltb-false q (length text) over.0, line.1.within) in
    let here : Part text p (write_form end_form []) q = rw (end-numbers values line.0) at line.1 in
    (cc over.1, rw last at here)

-- Behind the link lines: the out lines of some states, and the end.
read-states : (text : List ℕ) (n : ℕ) (lows highs : List ℕ) (p : ℕ) (network : Network) → p ≤ length text
    → read_outs text n lows highs [] p (suc n) ≡ done network → LinksStand text n lows highs p zero network
unfolding lines
read-states text n lows highs p network within e =
    go (read-outs (suc n) text n lows highs [] p (done network) (omega arith) (omega arith) within e
    (λ z. let clash : ◌≡◌ {A = ℕ} 0 1 = cc in omega arith))
  where
    stand : (seen : OutsRead text n lows highs [] p (done network)) (told : List ℕ) → all_states n told ≡ seen.ss
        → read_end text n lows highs told seen.at ≡ done network → LinksStand text n lows highs p zero network
    stand seen told all e =
        let end = read-end text n lows highs told seen.at network seen.part.within e in
        record {
          ls = [];
          hs = [];
          states = seen.ss;
          even = refl;
          many = refl;
          result = rw (append-nil lows, append-nil highs, ← all) end.0;
          good = tt;
          proper = each-proper n seen.ss (omega (arith, seen.many)) seen.each;
          part =
              part-append text (outs 0 seen.ss) (write_form end_form []) p seen.at (length text)
              seen.part end.1;
        }

    over : (seen : OutsRead text n lows highs [] p (done network))
        → OutsOver text n lows highs seen.ss seen.at (done network) → LinksStand text n lows highs p zero network
    over seen (out_departs q letter scan f) = let z : ◌≡◌ {A = ℕ} 0 1 = cc in absurd (omega arith)
    over seen (no_out told letter all f) = stand seen told all f

    go : OutsRead text n lows highs [] p (done network) → LinksStand text n lows highs p zero network
    go seen = over seen seen.over

read-links : (count : ℕ) (text : List ℕ) (n : ℕ) (lows highs : List ℕ) (p : ℕ) (network : Network) → p ≤ length text
    → read_links text n lows highs p count ≡ done network → LinksStand text n lows highs p count network
unfolding read_links
read-links zero text n lows highs p network within e = read-states text n lows highs p network within e
read-links (suc count) text n lows highs p network within e =
    let (values, q, first, second) =
    on-scan-done 2 (scan_form text link_form p)
    (λ ends q. refuse_if
    (ltb 0 (link_fault n lows highs (length lows) (get_or ends 0 0) (get_or ends 1 0)))
    (link_fault n lows highs (length lows) (get_or ends 0 0) (get_or ends 1 0)) (length lows)
    (read_links text n (lows ++ (get_or ends 0 0 ∷ [])) (highs ++ (get_or ends 1 0 ∷ [])) q count)) network e in
    let line = read-line link_form text p values q link-line within first in
    let a = get_or values 0 0 in
    let b = get_or values 1 0 in
    let fault = link_fault n lows highs (length lows) a b in
    let over = not-refused (ltb 0 fault) fault (length lows)
    (read_links text n (lows ++ (a ∷ [])) (highs ++ (b ∷ [])) q count) network second in
    let here : Part text p (write_form link_form (a ∷ b ∷ [])) q = rw (link-numbers values line.0) at line.1 in
    one_more count text n lows highs a b p q network (omega (arith, ltb-false 0 fault over.0)) here
    (read-links count text n (lows ++ (a ∷ [])) (highs ++ (b ∷ [])) q network line.1.within over.1)

-- The text of a network, line by line.
text-lines : (n : ℕ) (lows highs states : List ℕ) → length lows ≡ length highs
    → text_of n lows highs states ≡ write_form header_form (n ∷ length lows ∷ []) ++ body lows highs states
unfolding text_of
text-lines n lows highs states even =
    rw (link_lines-lines lows highs [] [] refl even, out_lines-outs states [])

-- An accepted network is read back from its text, by lists with the room for its links and for its relays.
pub read-written : (n : ℕ) (lows highs states : List ℕ) → Accepted n lows highs states → (room_lows room_highs room_states : ℕ)
    → read_network (text_of n lows highs states) room_lows room_highs room_states
    ≡ refuse_if (ltb room_lows (length lows) || (ltb room_highs (length lows) || ltb room_states n)) 8 0
    (done (record { relays = n; lows = lows; highs = highs; states = states }))
read-written n lows highs states check room_lows room_highs room_states =
    let table = accepted n lows highs states check in
    let proper = accepted-states n lows highs states check in
    let m = length lows in
    let end = write_form end_form [] in
    let header = write_form header_form (n ∷ m ∷ []) in
    let text = header ++ body lows highs states in
    let p = length header in
    let q = p + length (lines lows highs) in
    let at = q + length (outs 0 states) in
    let behind : Part text p (body lows highs states) (length text) = part_end header (body lows highs states) in
    let rest = part-second text (lines lows highs) (after states) p (length text) behind in
    let last = part-second text (outs 0 states) end q (length text) rest in
    let links = links-onward text n lows highs [] [] p q 0 table.few table.even (accepted-faultless n lows highs states check)
    (part-first text (lines lows highs) (after states) p (length text) behind) in
    let (left, some, told) =
    states-onward text n lows highs states q at table.few proper (part-first text (outs 0 states) end q (length text) rest) in
    let network : Outcome Network = done (record { relays = n; lows = lows; highs = highs; states = states }) in
    let whole : read_links text n [] [] p m ≡ network =
    (rw (add-zero m) at links)
    ∙ told
    ∙ (rw (all-told-states n states proper) at (end-onward text n lows highs (tell [] 0 states) at (length text) left last))
    ∙ refuse-not (ltb (length text) (length text)) 2 (length text) network (le-ltb (length text) (length text) (omega arith)) in
    rw (text-lines n lows highs states table.even)
    (header-roomy text n m p room_lows room_highs room_states table.some table.few table.short
    (part-start header (body lows highs states))
    ∙ ap (refuse_if (ltb room_lows m || (ltb room_highs m || ltb room_states n)) 8 0) whole)

-- The network and its text from the header line on.
read_whole : (text : List ℕ) (n m p : ℕ) (network : Network) → Part text 0 (write_form header_form (n ∷ m ∷ [])) p
    → outside 1 1000 n ≡ false → m ≤ 3000 → LinksStand text n [] [] p m network
    → (text_of network.relays network.lows network.highs network.states ≡ text)
    × Accepted network.relays network.lows network.highs network.states
read_whole text n m p network header size many links =
    let rest = body links.ls links.hs links.states in
    let short : length links.ls ≤ 3000 = omega (arith, links.many) in
    rw links.result (
      text-lines n links.ls links.hs links.states links.even
          ∙ ap (λ (count : ℕ). write_form header_form (n ∷ count ∷ []) ++ rest) links.many
          ∙ part-whole text (write_form header_form (n ∷ m ∷ []) ++ rest)
          (part-append text (write_form header_form (n ∷ m ∷ [])) rest 0 p (length text) header links.part),
      faultless-accepted n links.ls links.hs links.states size links.even short links.good links.proper,
    )

-- What the reader accepts is the text of the network that it gives, and that network is an accepted one.
pub written_read : (text : List ℕ) (room_lows room_highs room_states : ℕ) (network : Network)
    → read_network text room_lows room_highs room_states ≡ done network
    → (text_of network.relays network.lows network.highs network.states ≡ text)
    × Accepted network.relays network.lows network.highs network.states
unfolding read_network
written_read text room_lows room_highs room_states network e =
    let (values, p, first, second) =
    on-scan-done 2 (scan_form text header_form 0)
    (λ counts p. sized (get_or counts 0 0) (get_or counts 1 0) room_lows room_highs room_states
    (read_links text (get_or counts 0 0) [] [] p (get_or counts 1 0))) network e in
    let line = read-line header_form text 0 values p header-line (omega arith) first in
    let n = get_or values 0 0 in
    let m = get_or values 1 0 in
    let here : Part text 0 (write_form header_form (n ∷ m ∷ [])) p = rw (header-numbers values line.0) at line.1 in
    let (pass, links) = sized-done n m room_lows room_highs room_states (read_links text n [] [] p m) network second in
    read_whole text n m p network here pass.size pass.few (read-links m text n [] [] p network line.1.within links)

-- "Each table has one text", with its states: two texts that are read as one network are the same.
pub one-text : (text other : List ℕ) (room_lows room_highs room_states other_lows other_highs other_states : ℕ) (network : Network)
    → read_network text room_lows room_highs room_states ≡ done network
    → read_network other other_lows other_highs other_states ≡ done network → text ≡ other
one-text text other room_lows room_highs room_states other_lows other_highs other_states network e f =
    sym (written_read text room_lows room_highs room_states network e).0
    ∙ (written_read other other_lows other_highs other_states network f).0
