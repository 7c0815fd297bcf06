-- What the import promises (document 02, #106) beyond its answer and lists, as statements about them for every text and every room. The
-- statements are types; the crate `text_theory` proves them. Assumes nothing.
use Rattle.std.specs.Prelude.{ℕ, List, ◌↔◌, ◌≡◌, length, replicate}
use Rattle.definitions.specs.Outcome.{refused, done}
use Rattle.definitions.specs.Network.{Accepted}
use Rattle.definitions.specs.Text.{Network, sized, read_network}
use Rattle.definitions.specs.Departs.{Begins, DepartsFrom}
use Rattle.definitions.specs.Dimacs.{import_network}
use Rattle.definitions.specs.DimacsText.{Drawing, DrawingFits, dimacs_text, judged, Front, front_text, FrontFits, judged_front, Draws}
use Rattle.definitions.specs.Promised.{AllAnswered, NetworkPrinted}
use Rattle.definitions.specs.Import.{importer, import_text}

-- The numbers of the lines that stand whole at the front of the text pass: they give no cause for 3 to 8. Where the text departs from
-- the form, these are lines before the departure.
abbrev pub NumbersPass : (text : List ℕ) (room_lows room_highs room_states : ℕ) → Type 0
NumbersPass text room_lows room_highs room_states =
    (front : Front) → FrontFits front → Begins (front_text front) text
    → (network : Network) × (judged_front front room_lows room_highs room_states ≡ done network)

-- A drawing whose text was imported as this network.
pub record ImportedAs (text : List ℕ) (room_lows room_highs room_states : ℕ) (network : Network) : Type 0 where
  pub drawing : Drawing
  pub fits : DrawingFits drawing
  pub written : dimacs_text drawing ≡ text
  pub judges : judged drawing room_lows room_highs room_states ≡ done network
  -- "Ends may come in either order": its `e` lines are the links of the table, in turn.
  pub draws : Draws drawing.edges network.lows network.highs
  -- The table passes the table check, all in service.
  pub serves : network.states ≡ replicate network.relays 1
  pub accepted : Accepted network.relays network.lows network.highs network.states

pub record ImportPromise (room_lows room_highs room_states : ℕ) : Type 0 where
  -- "18 a text that departs from this form, at the byte": exactly at the first byte that no text of the form has there, where the
  -- numbers that come before pass.
  pub eighteen : (text : List ℕ) (q : ℕ)
      → (import_network text room_lows room_highs room_states ≡ refused 18 q)
      ↔ (DepartsFrom DrawingFits dimacs_text text q × NumbersPass text room_lows room_highs room_states)
  -- A text of the form gets what its numbers decide, whatever its comments say.
  pub form : (drawing : Drawing) → DrawingFits drawing
      → import_network (dimacs_text drawing) room_lows room_highs room_states ≡ judged drawing room_lows room_highs room_states
  -- Only texts of the form are imported, and what is imported is an accepted network.
  pub imported : (text : List ℕ) (network : Network) → import_network text room_lows room_highs room_states ≡ done network
      → ImportedAs text room_lows room_highs room_states network
  -- Every DIMACS text of an accepted network, its ends in either order and comments anywhere, gives that network with its ends in
  -- order, all in service; 8 where a list is too short.
  pub back : (drawing : Drawing) (lows highs states : List ℕ) → Accepted drawing.relays lows highs states
      → Draws drawing.edges lows highs → DrawingFits drawing
      → import_network (dimacs_text drawing) room_lows room_highs room_states
      ≡ sized drawing.relays (length lows) room_lows room_highs room_states
      (done (record { relays = drawing.relays; lows = lows; highs = highs; states = replicate drawing.relays 1 }))

-- What the program prints of a drawing that it imports is the text of that network: Read gives it back.
abbrev pub PrintedRead : Type 0
PrintedRead =
    (input : List ℕ) (network : Network) → import_network input 3000 3000 1000 ≡ done network
    → read_network (import_text input) 3000 3000 1000 ≡ done network

-- Every input gets the text of an accepted network, or the line of the first refusal met.
abbrev pub ImportAnswered : Type 0
ImportAnswered = AllAnswered importer NetworkPrinted import_text
