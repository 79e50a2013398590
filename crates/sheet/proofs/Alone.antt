-- Two sheets that are the writing of the same parts and lines are the same bytes. Assumes nothing.
use Rattle.std.proofs.Common.{◌≡◌, ℕ, suc, Bool, false, List, [], ◌∷◌, ◌++◌, length, take, drop, replicate, sym, refl, ap, ◌∙◌, ap₂, arith}
use Rattle.std.proofs.lemmas.List.{take_at, drop_at, length-append, length-replicate}
use Rattle.format.specs.Formats.{write}
use Rattle.bits.specs.Bits.{bits_of, all_bits}
use Rattle.bits.proofs.Bits.{length_bits_of, length_all_bits, number_bits_of_below}
use Rattle.sheet.specs.Sheets.{sheet}
use Rattle.sheet.specs.Reading.{AreBytes, Alone}
use Rattle.bits.specs.Bits.{number}

-- bytes with the same bits are the same
same_bytes : (xs ys : List ℕ) → AreBytes xs → AreBytes ys → all_bits xs ≡ all_bits ys → xs ≡ ys
unfolding all_bits
same_bytes [] [] h k e = refl
same_bytes [] (y ∷ ys) h k e = absurd (omega (arith, ap length e, length-append (bits_of 8 y) (all_bits ys), length_bits_of 8 y))
same_bytes (x ∷ xs) [] h k e = absurd (omega (arith, ap length e, length-append (bits_of 8 x) (all_bits xs), length_bits_of 8 x))
same_bytes (x ∷ xs) (y ∷ ys) h k e =
    let front = sym (take_at (bits_of 8 x) (all_bits xs) 8 (length_bits_of 8 x)) ∙ ap (λ (l : List Bool). take 8 l) e ∙ take_at (bits_of 8 y) (all_bits ys) 8 (length_bits_of 8 y) in
    let rest = sym (drop_at (bits_of 8 x) (all_bits xs) 8 (length_bits_of 8 x)) ∙ ap (λ (l : List Bool). drop 8 l) e ∙ drop_at (bits_of 8 y) (all_bits ys) 8 (length_bits_of 8 y) in
    let first : x ≡ y = sym (number_bits_of_below 8 x (h 0)) ∙ ap number front ∙ number_bits_of_below 8 y (k 0) in
    ap₂ (λ (b : ℕ) (l : List ℕ). b ∷ l) first (same_bytes xs ys (λ i. h (suc i)) (λ i. k (suc i)) rest)

pub alone : (bytes : List ℕ) → AreBytes bytes → Alone bytes
alone bytes are parts ls others are' theirs ours =
    let w = write sheet (parts, ls) in
    let long = length_all_bits bytes in
    let long' = length_all_bits others in
    let same : theirs.zeros ≡ ours.zeros =
    omega (
      arith,
      long,
      long',
      ap length ours.bits,
      ap length theirs.bits,
      length-append w (replicate ours.zeros false),
      length-append w (replicate theirs.zeros false),
      length-replicate ours.zeros false,
      length-replicate theirs.zeros false,
      ours.few,
      theirs.few,
    )
    in
    same_bytes others bytes are' are (theirs.bits ∙ ap (λ (n : ℕ). w ++ replicate n false) same ∙ sym ours.bits)
