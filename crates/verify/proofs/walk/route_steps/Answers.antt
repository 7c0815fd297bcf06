-- `route_steps` meets its contract: what stands at the two offsets, and the walk from there.
use Rattle.std.proofs.Common.{◌≡◌, eqb, refl, sym}
use Rattle.text_theory.specs.Forms.{no_zero}
use Rattle.std.proofs.lemmas.Bool.{eqb-true, eqb-false}
use borrow.Author.Tests.{not-true, not-false}
use Rattle.verify.proofs.RouteLaws.{no-route, no-links, starts-here, starts-elsewhere}
use Rattle.verify.proofs.walk.route_steps.Goals as goal

pub word_number-requires : goal.word_number-requires
unfolding no_zero
word_number-requires c = refl

pub word-requires : goal.word-requires
unfolding no_zero
word-requires c = refl

pub returns-in_default : goal.returns-in_default
returns-in_default c =
    let a = c.args in
    no-route a.network.table a.text.now a.wish.from.0 a.wish.to.0 a.lines.relays a.lines.links a.marks.now _ (sym c.in_default.ensures)

pub returns-in_default-word : goal.returns-in_default-word
returns-in_default-word c =
    let a = c.args in
    no-links a.network.table a.text.now a.wish.from.0 a.wish.to.0 a.lines.relays a.lines.links a.marks.now _ (sym c.in_default-word.ensures)

pub returns-then-ne : goal.returns-then-ne
returns-then-ne c =
    let a = c.args in
    starts-elsewhere a.network.table a.text.now a.wish.from.0 a.wish.to.0 a.lines.relays a.lines.links a.marks.now _ _ _
    (sym c.in-Ok.ensures) (sym c.in-Ok-word.ensures)
    (eqb-false c.in-Ok.first a.wish.from.0 (not-true (eqb c.in-Ok.first a.wish.from.0) (sym c.if-ne.ensures)))

pub returns : goal.returns
returns c =
    let a = c.args in
    let same : c.in-Ok.first ≡ a.wish.from.0 =
    eqb-true c.in-Ok.first a.wish.from.0 (not-false (eqb c.in-Ok.first a.wish.from.0) (sym c.if-ne.ensures)) in
    starts-here a.network.table a.text.now a.wish.from.0 a.wish.to.0 a.lines.relays a.lines.links a.marks.now _ _ _
    (sym c.in-Ok.ensures) (sym c.in-Ok-word.ensures) same _ _ c.walk.ensures
