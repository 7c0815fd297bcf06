-- `text::put::put_end` meets its contract: the form is one word.
use mathlib.Core.Path.{ap}
use native.Mathlib.Omega.{arith}
use lib.ListN.{length}
use Rattle.definitions.specs.Form.{bytes}
use Rattle.definitions.specs.Text.{end_form}
use Rattle.text.specs.Put.{word-written}
use Rattle.text.proofs.put.put_end.Goals as goal

pub put_word-requires : goal.put_word-requires
unfolding end_form
put_word-requires c = omega (arith, ap length (word-written (bytes "(end)\n")))

pub returns : goal.returns
unfolding end_form
returns c = rw (word-written (bytes "(end)\n")) c.put_word.ensures
