-- `text::put::put_header` meets its contract: three words with two numbers between them.
use Rattle.definitions.specs.Text.{header_form}
use Rattle.text.proofs.put.put_header.Goals as goal

pub put_pair-requires : goal.put_pair-requires
unfolding header_form
put_pair-requires c = c.requires

pub returns : goal.returns
unfolding header_form
returns c = c.put_pair.ensures
