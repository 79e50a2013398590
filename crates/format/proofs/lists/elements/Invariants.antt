use Rattle.std.proofs.Common.{◌≡◌, take}
use Rattle.bits.specs.Bits.{all_bits}
use Rattle.format.proofs.Loops.{Left}
use Rattle.format.proofs.lists.elements.Given as goal

abbrev pub invariant-loop-place : goal.invariant-loop-place
invariant-loop-place g l =
    (l.reader.bytes ≡ l.fn.reader.bytes)
    × Left (λ i e. e) (g.E.Element.reading l.element (all_bits l.fn.reader.bytes.now)) l.place-index-end l.fn.reader.at l.place-index l.reader.at (take l.place-index l.place-items)
