-- The loop's invariant: the whole reading is that of the lines left, with the links read in front of the lists and their pairs
-- marked.
use Rattle.std.proofs.Common.{◌≡◌, ◌-◌, [], length, take}
use Rattle.network.specs.Seen.{Seen}
use Rattle.text.proofs.rows.read_links.Given as goal

abbrev pub invariant-loop-i : goal.invariant-loop-i
invariant-loop-i g l =
    let reading = g.L.LinkLines.reading in
    (l.marks.n ≡ l.initial.marks.n) × (length l.lows ≡ length l.initial.lows) × (length l.highs ≡ length l.initial.highs)
    × Seen l.marks.n l.marks.seen.now (take l.i l.lows) (take l.i l.highs) l.i
    × (reading l.text l.initial.marks.n [] [] l.at l.m ≡ reading l.text l.initial.marks.n (take l.i l.lows) (take l.i l.highs) l.p (l.m - l.i))
