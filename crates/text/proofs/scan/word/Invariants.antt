-- The loop's invariant: the whole scan is that of the letters left, at the offset reached.
use Rattle.std.proofs.Common.{◌≡◌, drop}
use Rattle.definitions.specs.Form.{scan_word}
use Rattle.text.proofs.scan.word.Given as goal

abbrev pub invariant-loop-letter : goal.invariant-loop-letter
invariant-loop-letter l = scan_word l.text l.letters l.at ≡ scan_word l.text (drop l.letter-index l.letters) l.p
