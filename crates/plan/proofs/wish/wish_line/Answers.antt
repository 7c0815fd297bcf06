-- `plan::wish::wish_line` meets its contract: a line of two numbers, and a third with the line end.
use Rattle.std.proofs.Common.{rules, [], ◌∷◌, refl, sym, ◌∙◌, ap}
use Rattle.definitions.specs.Form.{with_front}
use Rattle.text_theory.specs.Forms.{no_zero}
use Rattle.plan.specs.Wish.{wish-departs, wish-reads}
use Rattle.plan.proofs.wish.wish_line.Goals as goal

pub pair_line-requires : goal.pair_line-requires
unfolding no_zero
pair_line-requires c = record { front_value = refl; middle_value = refl; back_value = refl }

pub number_word-requires : goal.number_word-requires
unfolding no_zero
number_word-requires c = refl

pub returns-in_err-from : goal.returns-in_err-from
returns-in_err-from c =
    let departed = wish-departs c.args.input.now _ (sym c.in_err-from.ensures) in
    search rules

pub returns-in_err-k : goal.returns-in_err-k
unfolding with_front
returns-in_err-k c =
    let departed =
    wish-reads c.args.input.now _ _ (sym c.in_ok-from.ensures)
    ∙ ap (with_front (c.in_ok-from.from ∷ c.in_ok-from.to ∷ [])) (sym c.in_err-k.ensures) in
    search rules

pub returns : goal.returns
unfolding with_front
returns c =
    sym
    (wish-reads c.args.input.now _ _ (sym c.in_ok-from.ensures)
    ∙ ap (with_front (c.in_ok-from.from ∷ c.in_ok-from.to ∷ [])) (sym c.in_ok-k.ensures))
