-- `input::answer` meets its contract: what it hands over is the text of the bytes read, which fill the room or are all of the input.
use Rattle.std.proofs.Common.{rules, ◌≡◌, sym, arith, None, take}
use Rattle.input.specs.Due.{text_of, due-either}
use Rattle.input.specs.declared.arrived.End.TheVariants.{Full}
use Rattle.input.proofs.answer.Goals as goal

pub hand_over-requires : goal.hand_over-requires
hand_over-requires g c =
    let bytes = take c.in-Ok.arrived.count c.read_all.new.buffer in
    let same : c.print-printed.result.now ≡ text_of c.args.feature bytes = search rules in
    let none : c.in-Ok.arrived.end ≡ Full → c.args.complaints.too_long ≡ None = λ full. search rules in
    due-either _ bytes _ _ _ (sym c.in-Ok.ensures.within.1) same
    (λ full. let front = c.requires.front (none full) in (omega (arith, front.0, c.requires.room, c.in-Ok.ensures.full full), front.1))
