-- Document 02, #106, as a program: a text in the DIMACS edge format comes in, the network's own text goes out. Assumes nothing.
use Rattle.std.specs.Prelude.{ℕ, List, []}
use Rattle.definitions.specs.Outcome.{Outcome}
use Rattle.definitions.specs.Text.{Network}
use Rattle.definitions.specs.Dimacs.{import_network}
use Rattle.definitions.specs.Program.{Program, outcome_of, printed, network_text}

-- No line in front: the whole input is the drawing. No refusal but the import's, with a program's own lists.
abbrev pub importer : Program Network
importer = record { form = []; read = λ _ text. import_network text 3000 3000 1000; answers = λ _ _. [] }

unfoldable pub imported : (input : List ℕ) → Outcome Network
imported = outcome_of importer (λ _ network. network)

-- What the program writes for what it reads: the network text, or the refusal.
unfoldable pub import_text : (input : List ℕ) → List ℕ
import_text input = printed network_text (imported input)
