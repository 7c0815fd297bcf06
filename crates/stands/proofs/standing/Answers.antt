-- `stands::standing` meets its contract: the text that stands, itself, or the first one's empty front.
use Rattle.std.proofs.Common.{Ok, sym, refl, ap, ◌∙◌}
use Rattle.definitions.specs.Stands.{text_of_which, bytes_of, standing_bytes}
use Rattle.stands.specs.Standing.{which_outcome}
use Rattle.stands.proofs.standing.Goals as goal

pub returns-in-Ok-First : goal.returns-in-Ok-First
unfolding standing_bytes bytes_of text_of_which
returns-in-Ok-First c = record {
  bytes = rw (sym c.which_stands.ensures ∙ ap which_outcome (c.in-Ok-First.is ∙ ap Ok c.in-Ok-First.field-0-is)) refl;
  own = rw (sym c.which_stands.ensures ∙ ap which_outcome (c.in-Ok-First.is ∙ ap Ok c.in-Ok-First.field-0-is)) refl;
}

pub returns-in-Ok-Second : goal.returns-in-Ok-Second
unfolding standing_bytes bytes_of text_of_which
returns-in-Ok-Second c = record {
  bytes = rw (sym c.which_stands.ensures ∙ ap which_outcome (c.in-Ok-Second.is ∙ ap Ok c.in-Ok-Second.field-0-is)) refl;
  own = rw (sym c.which_stands.ensures ∙ ap which_outcome (c.in-Ok-Second.is ∙ ap Ok c.in-Ok-Second.field-0-is)) refl;
}

pub returns-in-Err : goal.returns-in-Err
unfolding standing_bytes bytes_of
returns-in-Err c = record {
  bytes = rw (sym c.which_stands.ensures ∙ ap which_outcome c.in-Err.is) refl;
  own = rw (sym c.which_stands.ensures ∙ ap which_outcome c.in-Err.is) tt;
}
