use Rattle.std.proofs.Common.{◌≡◌, take}
use Rattle.bits.specs.Bits.{all_bits, number}
use Rattle.bits.proofs.reader.spelled.Given as goal

abbrev pub invariant-loop-byte : goal.invariant-loop-byte
invariant-loop-byte l = l.value ≡ number (all_bits (take l.byte-index l.bytes))
