-- What the import promises, proved for every room. Assumes nothing.
use Rattle.std.specs.Prelude.{ℕ, ◌≤◌, List, [], ◌⊎◌, ◌≢◌, ◌≡◌, length, drop, replicate}
use Rattle.std.proofs.Common.{inl, inr, sym, ◌∙◌, ap, arith}
use Rattle.definitions.specs.Outcome.{done}
use Rattle.definitions.specs.Network.{Accepted}
use Rattle.definitions.specs.Text.{Network, sized}
use Rattle.definitions.specs.Dimacs.{import_network}
use Rattle.definitions.specs.DimacsText.{Drawing, DrawingFits, dimacs_text, judged_edges, judged, Draws}
use Rattle.definitions.specs.Program.{printed, network_text}
use Rattle.definitions.specs.Import.{importer, imported, import_text}
use Rattle.definitions.specs.ImportPromise.{ImportedAs, ImportPromise, PrintedRead, ImportAnswered}
use Rattle.definitions.specs.Promised.{NetworkPrinted}
use Rattle.lists.specs.RefusedWithin.{as-more}
use Rattle.text_theory.specs.LinkByLink.{accepted-faultless, faultless-accepted}
use Rattle.text_theory.specs.OutByOut.{all-serve}
use Rattle.text_theory.specs.Sized.{sized-done}
use Rattle.text_theory.specs.NetworkPrinted.{own_read, network-printed}
use Rattle.text_theory.specs.DimacsRoundTrip.{drawing-read}
use Rattle.text_theory.specs.JudgedEdges.{drawn, judged-good, good-judged, draws-many}
use Rattle.text_theory.specs.DimacsRead.{import-written}
use Rattle.text_theory.specs.RefusalEighteen.{refused-eighteen-exactly}
use Rattle.text_theory.specs.ImportRefusals.{ImportRefusal, import-within}
use Rattle.text_theory.specs.Programs.{outcome-read, answered}

-- What was judged good is an accepted network, all in service, and the drawing draws it.
judged-as : (text : List ℕ) (room_lows room_highs room_states : ℕ) (network : Network) (drawing : Drawing) → DrawingFits drawing
    → dimacs_text drawing ≡ text → judged drawing room_lows room_highs room_states ≡ done network
    → ImportedAs text room_lows room_highs room_states network
unfolding judged
judged-as text room_lows room_highs room_states network drawing fits written judges =
    let n = drawing.relays in
    let edges = drawing.edges in
    let (pass, rest) =
    sized-done n (length edges) room_lows room_highs room_states (judged_edges n [] [] edges) network judges in
    let good = judged-good edges n [] [] network rest in
    let same : network ≡ drawn n [] [] good.ls good.hs = good.result in
    record {
      drawing = drawing;
      fits = fits;
      written = written;
      judges = judges;
      draws = rw same good.draws;
      serves = rw same;
      accepted = rw same
          (faultless-accepted n good.ls good.hs (replicate n 1) pass.size good.even
          (omega (arith, pass.few, good.many)) good.good (all-serve n));
    }

imported-as : (text : List ℕ) (room_lows room_highs room_states : ℕ) (network : Network)
    → import_network text room_lows room_highs room_states ≡ done network → ImportedAs text room_lows room_highs room_states network
imported-as text room_lows room_highs room_states network e =
    let (drawing, fits, written) = import-written text room_lows room_highs room_states network e in
    judged-as text room_lows room_highs room_states network drawing fits written
    (sym (drawing-read drawing room_lows room_highs room_states fits)
    ∙ ap (λ (t : List ℕ). import_network t room_lows room_highs room_states) written
    ∙ e)

drawn-back : (drawing : Drawing) (lows highs states : List ℕ) (room_lows room_highs room_states : ℕ)
    → Accepted drawing.relays lows highs states → Draws drawing.edges lows highs → DrawingFits drawing
    → import_network (dimacs_text drawing) room_lows room_highs room_states
    ≡ sized drawing.relays (length lows) room_lows room_highs room_states
    (done (record { relays = drawing.relays; lows = lows; highs = highs; states = replicate drawing.relays 1 }))
unfolding judged
drawn-back drawing lows highs states room_lows room_highs room_states check draws fits =
    let n = drawing.relays in
    let edges = drawing.edges in
    drawing-read drawing room_lows room_highs room_states fits
    ∙ rw (good-judged edges lows highs n [] [] draws (accepted-faultless n lows highs states check), draws-many edges lows highs draws)

pub import-promise : (room_lows room_highs room_states : ℕ) → ImportPromise room_lows room_highs room_states
import-promise room_lows room_highs room_states =
    record {
      eighteen = λ text q. refused-eighteen-exactly text room_lows room_highs room_states q;
      form = λ drawing fits. drawing-read drawing room_lows room_highs room_states fits;
      imported = λ text network e. imported-as text room_lows room_highs room_states network e;
      back = λ drawing lows highs states check draws fits.
          drawn-back drawing lows highs states room_lows room_highs room_states check draws fits;
    }

-- What the program has is what the import gives for the whole input.
pub import-outcome : (input : List ℕ) → imported input ≡ import_network input 3000 3000 1000
unfolding imported
import-outcome input = outcome-read importer.read input

-- The printed text of what was imported is read back.
pub printed-read : PrintedRead
unfolding import_text printed
printed-read input network e =
    rw (import-outcome input ∙ e) (own_read network (imported-as input 3000 3000 1000 network e).accepted)

-- Every input gets the text of an accepted network, or the line of the first refusal met, which is neither 8 nor 12.
pub import-answered : ImportAnswered
unfolding import_text imported
import-answered input =
    answered importer (λ _ network. network) input network_text NetworkPrinted
    (as-more ImportRefusal _ (imported input) (λ number place one. go number one)
    (rw (import-outcome input) (import-within input 3000 3000 1000 (omega arith) (omega arith) (omega arith))))
    (λ line network asked _.
    let check = (imported-as (drop asked.behind input) 3000 3000 1000 network asked.read).accepted in
    network-printed line network check)
  where
    go : (number : ℕ) → (number ≤ 7) ⊎ (number ≡ 18) → (number ≢ 8) × (number ≢ 12)
    go number (inl few) = (λ e. omega arith, λ e. omega arith)
    go number (inr last) = (λ e. omega arith, λ e. omega arith)
