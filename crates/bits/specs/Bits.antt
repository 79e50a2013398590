-- Bits and the numbers that they spell, most significant first, and the fields of bytes.
use Rattle.std.specs.Prelude.{ℕ, zero, suc, ◌+◌, ◌-◌, ◌*◌, ◌/◌, ◌%◌, ◌^◌, Bool, cond, List, [], ◌∷◌, ◌++◌, length, take, drop, Ok, Err, Result, ◌==◌, nat_le}
use Rattle.bits.specs.declared.reader.Lacking.{Lacking}

-- a bit as a number
abbrev pub bit : Bool → ℕ
bit b = cond b 1 0

-- the lowest bit of a number
abbrev pub odd : ℕ → Bool
odd v = v % 2 == 1

-- the w lowest bits of a number
unfoldable pub bits_of : ℕ → ℕ → List Bool
bits_of zero v = []
bits_of (suc w) v = odd (v / 2 ^ w) ∷ bits_of w v

-- the number that bits spell
unfoldable pub number : List Bool → ℕ
number [] = 0
number (b ∷ bs) = bit b * 2 ^ length bs + number bs

-- the bits of bytes
unfoldable pub all_bits : List ℕ → List Bool
all_bits [] = []
all_bits (b ∷ bs) = bits_of 8 b ++ all_bits bs

-- w bits from bit p on, or as many as there are
abbrev pub piece : List Bool → ℕ → ℕ → List Bool
piece bits p w = take w (drop p bits)

-- the field of w bits at bit p: the number that its last 64 bits spell and the next bit, or p if fewer bits remain
unfoldable pub field_read : List ℕ → ℕ → ℕ → Result (ℕ × ℕ) Lacking
field_read bs p w =
    cond (nat_le w (length (all_bits bs) - p)) (Ok (number (piece (all_bits bs) p w) % 2 ^ 64, p + w)) (Err (record { at = p }))
