-- Bits and the numbers that they spell, the bits of bytes, and pieces of bits. Assumes nothing.
use Rattle.std.proofs.Common.{◌≡◌, ℕ, zero, suc, ◌+◌, ◌-◌, ◌*◌, ◌/◌, ◌%◌, ◌^◌, ◌<◌, ◌≤◌, Bool, true, false, List, [], ◌∷◌, ◌++◌, length, take, drop, sym, refl, ap, ◌∙◌, subst, ap₂, append_assoc, mod-eq_of_lt, mul_assoc, add-mul, add-one, one-add, arith, pow_mono}
use Rattle.std.proofs.Math.Nat.{mod-one, two-pow-succ}
use Rattle.std.proofs.Math.Pow.{mod-mod-pow}
use Rattle.std.proofs.lemmas.Nat.{pow-add, mod-pow-add, mod_below, shr_high, mod_low}
use Rattle.std.proofs.lemmas.List.{length-append, length-take, length-drop, length-take-le, take-append-drop, drop-drop, take_at, drop_at, drop-append-le, take-append-le}
use Rattle.std.proofs.lemmas.Bool.{eqb-true, eqb-false}
use Rattle.bits.specs.Bits.{bit, odd, bits_of, number, all_bits, piece}

-- the number of a bit and of the bits after it
shifted : (a x y n m : ℕ) → a * 2 ^ (n + m) + (x * 2 ^ m + y) ≡ (a * 2 ^ n + x) * 2 ^ m + y
shifted a x y n m =
    let both = ap (λ (p : ℕ). a * p) (pow-add 2 n m) in
    omega (arith, both, mul_assoc a (2 ^ n) (2 ^ m), add-mul (a * 2 ^ n) x (2 ^ m))

-- the lowest bit of a number is its remainder by 2
bit_odd : (v : ℕ) → bit (odd v) ≡ v % 2
bit_odd v = at (odd v) refl
  where
    at : (b : Bool) → odd v ≡ b → bit b ≡ v % 2
    at true e = sym (eqb-true (v % 2) 1 e)
    at false e = let other = eqb-false (v % 2) 1 e in let small = mod_below v 2 (omega arith) in omega arith

pub length_bits_of : (w v : ℕ) → length (bits_of w v) ≡ w
unfolding bits_of
length_bits_of zero v = refl
length_bits_of (suc w) v = ap suc (length_bits_of w v)

pub number_below : (l : List Bool) → number l < 2 ^ length l
unfolding number
number_below [] = omega arith
number_below (b ∷ l) = at b (number_below l)
  where
    at : (b : Bool) → number l < 2 ^ length l → bit b * 2 ^ length l + number l < 2 ^ suc (length l)
    at true h = omega (arith, two-pow-succ (length l))
    at false h = omega (arith, two-pow-succ (length l))

pub number_append : (xs ys : List Bool) → number (xs ++ ys) ≡ number xs * 2 ^ length ys + number ys
unfolding number
number_append [] ys = omega arith
number_append (b ∷ xs) ys =
    ap₂ (λ (n m : ℕ). bit b * 2 ^ n + m) (length-append xs ys) (number_append xs ys)
    ∙ shifted (bit b) (number xs) (number ys) (length xs) (length ys)

pub number_bits_of : (w v : ℕ) → number (bits_of w v) ≡ v % 2 ^ w
unfolding number bits_of
number_bits_of zero v = sym (mod-one v)
number_bits_of (suc w) v =
    ap₂ (λ (n m : ℕ). bit (odd (v / 2 ^ w)) * 2 ^ n + m) (length_bits_of w v) (number_bits_of w v)
    ∙ ap (λ (n : ℕ). n * 2 ^ w + v % 2 ^ w) (bit_odd (v / 2 ^ w))
    ∙ sym (mod-pow-add v 1 w) ∙ ap (λ (n : ℕ). v % 2 ^ n) (one-add w)

-- a number of w bits is what its bits spell
pub number_bits_of_below : (w v : ℕ) → v < 2 ^ w → number (bits_of w v) ≡ v
number_bits_of_below w v h = number_bits_of w v ∙ mod-eq_of_lt h

-- two lists of bits of one length that spell one number
pub number_injective : (xs ys : List Bool) → length xs ≡ length ys → number xs ≡ number ys → xs ≡ ys
unfolding number
number_injective [] [] e q = refl
number_injective [] (y ∷ ys) e q = absurd (omega arith)
number_injective (x ∷ xs) [] e q = absurd (omega arith)
number_injective (x ∷ xs) (y ∷ ys) e q = at x y (q ∙ ap (λ (n : ℕ). bit y * 2 ^ n + number ys) (sym long)) (number_injective xs ys long)
  where
    long : length xs ≡ length ys
    long = omega arith

    low : number ys < 2 ^ length xs
    low = subst (λ (n : ℕ). number ys < 2 ^ n) (sym long) (number_below ys)

    at : (x y : Bool) → bit x * 2 ^ length xs + number xs ≡ bit y * 2 ^ length xs + number ys → (number xs ≡ number ys → xs ≡ ys) → x ∷ xs ≡ y ∷ ys
    at true true r same = ap (λ (l : List Bool). true ∷ l) (same (omega arith))
    at false false r same = ap (λ (l : List Bool). false ∷ l) (same (omega arith))
    at true false r same = absurd (omega (arith, low))
    at false true r same = absurd (omega (arith, number_below xs))

-- bits are those of the number that they spell
pub bits_of_number : (l : List Bool) → bits_of (length l) (number l) ≡ l
bits_of_number l =
    number_injective (bits_of (length l) (number l)) l (length_bits_of (length l) (number l))
    (number_bits_of_below (length l) (number l) (number_below l))

-- the bits of half a number, then its lowest bit
pub bits_of_push : (w v : ℕ) → bits_of (suc w) v ≡ bits_of w (v / 2) ++ odd v ∷ []
unfolding number
bits_of_push w v =
    let short : length (bits_of w (v / 2) ++ odd v ∷ []) ≡ suc w = length-append (bits_of w (v / 2)) (odd v ∷ []) ∙ omega (arith, length_bits_of w (v / 2)) in
    let last : number (odd v ∷ []) ≡ v % 2 = omega (arith, bit_odd v) in
    number_injective (bits_of (suc w) v) (bits_of w (v / 2) ++ odd v ∷ []) (length_bits_of (suc w) v ∙ sym short)
    (number_bits_of (suc w) v ∙ ap (λ (n : ℕ). v % 2 ^ n) (sym (add-one w)) ∙ mod-pow-add v w 1
    ∙ sym (number_append (bits_of w (v / 2)) (odd v ∷ []) ∙ ap₂ (λ (n m : ℕ). n * 2 + m) (number_bits_of w (v / 2)) last))

pub length_all_bits : (bs : List ℕ) → length (all_bits bs) ≡ 8 * length bs
unfolding all_bits
length_all_bits [] = refl
length_all_bits (b ∷ bs) = omega (arith, length-append (bits_of 8 b) (all_bits bs), length_bits_of 8 b, length_all_bits bs)

pub all_bits_append : (xs ys : List ℕ) → all_bits (xs ++ ys) ≡ all_bits xs ++ all_bits ys
unfolding all_bits
all_bits_append [] ys = refl
all_bits_append (x ∷ xs) ys =
    ap (λ (l : List Bool). bits_of 8 x ++ l) (all_bits_append xs ys) ∙ sym (append_assoc (bits_of 8 x) (all_bits xs) (all_bits ys))

-- one more byte
pub number_all_bits_push : (bs : List ℕ) (b : ℕ) → b < 2 ^ 8 → number (all_bits (bs ++ b ∷ [])) ≡ number (all_bits bs) * 2 ^ 8 + b
unfolding all_bits number
number_all_bits_push bs b h =
    ap number (all_bits_append bs (b ∷ [])) ∙ number_append (all_bits bs) (bits_of 8 b ++ [])
    ∙ ap₂ (λ (n m : ℕ). number (all_bits bs) * 2 ^ n + m) (length-append (bits_of 8 b) [] ∙ ap (λ (n : ℕ). n + 0) (length_bits_of 8 b))
    (number_append (bits_of 8 b) [] ∙ omega (arith, number_bits_of_below 8 b h))

-- the bits in the middle
pub piece_at : (xs ms ys : List Bool) → piece (xs ++ (ms ++ ys)) (length xs) (length ms) ≡ ms
piece_at xs ms ys = ap (λ (l : List Bool). take (length ms) l) (drop_at xs (ms ++ ys) (length xs) refl) ∙ take_at ms ys (length ms) refl

-- a written field is read back
pub piece_written : (xs ys : List Bool) (w v : ℕ) → piece (xs ++ bits_of w v ++ ys) (length xs) w ≡ bits_of w v
piece_written xs ys w v =
    ap₂ (λ (l : List Bool) (n : ℕ). piece l (length xs) n) (append_assoc xs (bits_of w v) ys) (sym (length_bits_of w v))
    ∙ piece_at xs (bits_of w v) ys

-- a piece of the bits in the middle
pub piece_within : (xs ms ys : List Bool) (k w : ℕ) → k + w ≤ length ms → piece (xs ++ (ms ++ ys)) (length xs + k) w ≡ piece ms k w
piece_within xs ms ys k w h =
    ap (λ (l : List Bool). take w l)
    (sym (drop-drop k (length xs) (xs ++ (ms ++ ys))) ∙ ap (λ (l : List Bool). drop k l) (drop_at xs (ms ++ ys) (length xs) refl) ∙ drop-append-le k ms ys (omega arith))
    ∙ take-append-le w (drop k ms) ys (omega (arith, length-drop k ms))

-- bits before a piece, the piece, and the bits after it
pub piece_splits : (l : List Bool) (p w : ℕ) → l ≡ take p l ++ (piece l p w ++ drop (p + w) l)
piece_splits l p w =
    sym (take-append-drop p l)
    ∙ ap (λ (r : List Bool). take p l ++ r) (sym (take-append-drop w (drop p l)) ∙ ap (λ (r : List Bool). piece l p w ++ r) (drop-drop w p l))

-- a piece has all its bits where as many remain
pub length_piece : (l : List Bool) (p w : ℕ) → w ≤ length l - p → length (piece l p w) ≡ w
length_piece l p w h = length-take-le w (drop p l) (omega (arith, length-drop p l))

pub number_piece_below : (l : List Bool) (p w : ℕ) → number (piece l p w) < 2 ^ w
number_piece_below l p w =
    let short : length (piece l p w) ≤ w = omega (arith, length-take w (drop p l)) in
    omega (arith, number_below (piece l p w), pow_mono short)

-- the number that the bits in the middle spell
number_middle : (xs ms ys : List Bool) → number (xs ++ (ms ++ ys)) / 2 ^ length ys % 2 ^ length ms ≡ number ms
number_middle xs ms ys =
    ap (λ (n : ℕ). n % 2 ^ length ms)
    (ap (λ (l : List Bool). number l / 2 ^ length ys) (sym (append_assoc xs ms ys))
    ∙ ap (λ (n : ℕ). n / 2 ^ length ys) (number_append (xs ++ ms) ys)
    ∙ shr_high (number (xs ++ ms)) (length ys) (number ys) (number_below ys)
    ∙ number_append xs ms)
    ∙ mod_low (number xs) (length ms) (number ms) (number_below ms)

-- the number of a piece by that of all bits
pub number_piece : (l : List Bool) (p w : ℕ) → w ≤ length l - p → number (piece l p w) ≡ number l / 2 ^ (length l - (p + w)) % 2 ^ w
number_piece l p w h =
    sym (number_middle (take p l) (piece l p w) (drop (p + w) l))
    ∙ ap₂ (λ (n m : ℕ). number (take p l ++ (piece l p w ++ drop (p + w) l)) / 2 ^ n % 2 ^ m) (length-drop (p + w) l) (length_piece l p w h)
    ∙ ap (λ (r : List Bool). number r / 2 ^ (length l - (p + w)) % 2 ^ w) (sym (piece_splits l p w))

-- the number of a piece at 2 ^ k is that of its last k bits
pub number_last : (l : List Bool) (p w k : ℕ) → k ≤ w → w ≤ length l - p → number (piece l p w) % 2 ^ k ≡ number (piece l (p + w - k) k)
number_last l p w k h fits =
    let rest = number l / 2 ^ (length l - (p + w)) in
    let parts : w ≡ w - k + k = omega arith in
    let end : p + w ≡ p + w - k + k = omega arith in
    ap (λ (n : ℕ). n % 2 ^ k) (number_piece l p w fits)
    ∙ ap (λ (n : ℕ). rest % 2 ^ n % 2 ^ k) parts
    ∙ mod-mod-pow rest (w - k) k
    ∙ ap (λ (n : ℕ). number l / 2 ^ (length l - n) % 2 ^ k) end
    ∙ sym (number_piece l (p + w - k) k (omega arith))
