-- Fields over bytes: what a reader's field tells of a format's, and a number with its bits turned. Assumes nothing.
use Rattle.std.proofs.Common.{◌≡◌, ℕ, zero, suc, ◌+◌, ◌-◌, ◌*◌, ◌/◌, ◌%◌, ◌^◌, ◌<◌, ◌≤◌, min, Bool, ◌⊎◌, List, [], ◌∷◌, ◌++◌, reverse, length, take, Ok, Err, sym, ap, ◌∙◌, subst, ap₂, inl, inr, mul_assoc, add-mul, suc-add, div-one, one-add, arith, pow_mono}
use Rattle.std.proofs.Math.Nat.{two-pow-succ}
use Rattle.std.proofs.lemmas.Nat.{shl-shr, shr-shr, shr_below}
use Rattle.std.proofs.lemmas.List.{length-reverse, reverse-append, take_all, take_at, append-nil}
use Rattle.std.proofs.lemmas.Bool.{cases_lt}
use Rattle.std.specs.Int.{reverse_bits_onto}
use Rattle.bits.specs.Bits.{bit, odd, bits_of, number, all_bits, piece, field_read}
use Rattle.bits.proofs.Bits.{length_bits_of, number_bits_of, bits_of_number, bits_of_push, length_piece, number_below}
use Rattle.bits.proofs.Fields.{field_fits, field_lacks, number_wide}
use Rattle.bits.specs.declared.reader.Lacking as bits
use Rattle.format.specs.Formats.{Reading, followed, under, bits_at, limited, field_at, turned_at}
use Rattle.format.specs.declared.fault.FieldFault.{FieldFault}
use Rattle.format.specs.declared.fault.FieldFault.TheVariants.{Lacking}
use Rattle.format.proofs.Pieces.{piece_add}
use Rattle.format.proofs.Readings.{bits_fit, bits_lack}

-- what lacks, as a fault of a field
abbrev pub lacks : bits.Lacking → FieldFault
lacks e = Lacking e.at

-- what a reader answers of a field
abbrev ReaderField : Type 0
ReaderField = Reading bits.Lacking ℕ

-- a field of bytes is the reader's field, judged by its limits
pub field_by_bytes : (bs : List ℕ) (w least most p : ℕ) → field_at w least most (all_bits bs) p ≡ followed (under lacks (field_read bs p w)) (limited least most p)
unfolding field_at
field_by_bytes bs w least most p = at (cases_lt (length (all_bits bs) - p) w)
  where
    at : (length (all_bits bs) - p < w) ⊎ (w ≤ length (all_bits bs) - p) → followed (bits_at (all_bits bs) p w) (λ l q. limited least most p (number l % 2 ^ 64) q) ≡ followed (under lacks (field_read bs p w)) (limited least most p)
    at (inl h) = rw (bits_lack (all_bits bs) p w h, field_lacks bs p w h)
    at (inr h) = rw (bits_fit (all_bits bs) p w h, field_fits bs p w h)

module _ (bs : List ℕ) (w p : ℕ) where
  pub field_value : (least most v q : ℕ) → field_read bs p w ≡ Ok (v, q) → field_at w least most (all_bits bs) p ≡ limited least most p v q
  field_value least most v q e =
      field_by_bytes bs w least most p ∙ ap (λ (r : ReaderField). followed (under lacks r) (limited least most p)) e

  pub field_lacking : (least most : ℕ) (e : bits.Lacking) → field_read bs p w ≡ Err e → field_at w least most (all_bits bs) p ≡ Err (lacks e)
  field_lacking least most x e =
      field_by_bytes bs w least most p ∙ ap (λ (r : ReaderField). followed (under lacks r) (limited least most p)) e

-- the bits of a piece from its last on, of which 64 count
turned_piece : (bits : List Bool) (p w : ℕ) → w ≤ length bits - p → take 64 (reverse (piece bits p w)) ≡ reverse (bits_of (min w 64) (number (piece bits p w) % 2 ^ 64))
turned_piece bits p w fits =
    ap (λ (l : List Bool). take 64 (reverse l)) split ∙ ap (take 64) (reverse-append front last) ∙ cut (cases_lt 64 w)
    ∙ ap reverse (sym (bits_of_number last) ∙ ap₂ bits_of long (sym value))
  where
    m : ℕ
    m = min w 64

    front : List Bool
    front = piece bits p (w - m)

    last : List Bool
    last = piece bits (p + w - m) m

    long : length last ≡ m
    long = length_piece bits (p + w - m) m (omega arith)

    split : piece bits p w ≡ front ++ last
    split =
        let parts : w ≡ w - m + m = omega arith in
        let start : p + (w - m) ≡ p + w - m = omega arith in
        ap (piece bits p) parts ∙ piece_add bits p (w - m) m ∙ ap (λ (n : ℕ). front ++ piece bits n m) start

    value : number (piece bits p w) % 2 ^ 64 ≡ number last
    value = number_wide bits p w fits

    cut : (64 < w) ⊎ (w ≤ 64) → take 64 (reverse last ++ reverse front) ≡ reverse last
    cut (inl h) = take_at (reverse last) (reverse front) 64 (length-reverse last ∙ long ∙ omega arith)
    cut (inr h) =
        let none : w - m ≡ 0 = omega arith in
        ap (λ (n : ℕ). take 64 (reverse last ++ reverse (piece bits p n))) none ∙ ap (take 64) (append-nil (reverse last))
        ∙ take_all 64 (reverse last) (omega (arith, length-reverse last, long))

-- a turned field of bytes is the reader's field with its bits turned
pub turned_by_bytes : (bs : List ℕ) (w p : ℕ) → turned_at w (all_bits bs) p ≡ followed (under lacks (field_read bs p w)) (λ v q. Ok (number (reverse (bits_of (min w 64) v)), q))
unfolding turned_at
turned_by_bytes bs w p = at (cases_lt (length (all_bits bs) - p) w)
  where
    at : (length (all_bits bs) - p < w) ⊎ (w ≤ length (all_bits bs) - p) → followed (bits_at (all_bits bs) p w) (λ l q. Ok (number (take 64 (reverse l)), q)) ≡ followed (under lacks (field_read bs p w)) (λ v q. Ok (number (reverse (bits_of (min w 64) v)), q))
    at (inl h) = rw (bits_lack (all_bits bs) p w h, field_lacks bs p w h)
    at (inr h) =
        rw (bits_fit (all_bits bs) p w h, field_fits bs p w h)
        (ap (λ (l : List Bool). Ok (number l, p + w)) (turned_piece (all_bits bs) p w h))

module _ (bs : List ℕ) (w p : ℕ) where
  pub turned_value : (v q : ℕ) → field_read bs p w ≡ Ok (v, q) → turned_at w (all_bits bs) p ≡ Ok (number (reverse (bits_of (min w 64) v)), q)
  turned_value v q e =
      turned_by_bytes bs w p ∙ ap (λ (r : ReaderField). followed (under lacks r) (λ v q. Ok (number (reverse (bits_of (min w 64) v)), q))) e

  pub turned_lacking : (e : bits.Lacking) → field_read bs p w ≡ Err e → turned_at w (all_bits bs) p ≡ Err (lacks e)
  turned_lacking x e =
      turned_by_bytes bs w p ∙ ap (λ (r : ReaderField). followed (under lacks r) (λ v q. Ok (number (reverse (bits_of (min w 64) v)), q))) e

-- the lowest bits of a number, last first
reversed_bits : (k n a : ℕ) → reverse_bits_onto k n a ≡ a * 2 ^ k + number (reverse (bits_of k n))
unfolding reverse_bits_onto number bits_of
reversed_bits zero n a = omega arith
reversed_bits (suc k) n a =
    let rest = reverse (bits_of k (n / 2)) in
    let long : length rest ≡ k = length-reverse (bits_of k (n / 2)) ∙ length_bits_of k (n / 2) in
    let low : bit (odd n) ≡ n % 2 = omega (arith, ap number (sym (bits_of_push 0 n)) ∙ number_bits_of 1 n) in
    let turned : reverse (bits_of (suc k) n) ≡ odd n ∷ rest = ap reverse (bits_of_push k n) ∙ reverse-append (bits_of k (n / 2)) (odd n ∷ []) in
    let value : number (reverse (bits_of (suc k) n)) ≡ n % 2 * 2 ^ k + number rest = ap number turned ∙ ap₂ (λ (b m : ℕ). b * 2 ^ m + number rest) low long in
    reversed_bits k (n / 2) (a * 2 + n % 2)
    ∙ omega (arith, value, add-mul (a * 2) (n % 2) (2 ^ k), mul_assoc a 2 (2 ^ k), ap (λ (m : ℕ). a * m) (two-pow-succ k))

-- the bits of a number one part after the other
reversed_add : (m k n a : ℕ) → reverse_bits_onto (m + k) n a ≡ reverse_bits_onto k (n / 2 ^ m) (reverse_bits_onto m n a)
unfolding reverse_bits_onto
reversed_add zero k n a = let none : 0 + k ≡ k = omega arith in ap₂ (λ (i j : ℕ). reverse_bits_onto i j a) none (sym (div-one n))
reversed_add (suc m) k n a =
    ap (λ (i : ℕ). reverse_bits_onto i n a) (suc-add m k) ∙ reversed_add m k (n / 2) (a * 2 + n % 2)
    ∙ ap (λ (j : ℕ). reverse_bits_onto k j (reverse_bits_onto m (n / 2) (a * 2 + n % 2))) (shr-shr n 1 m ∙ ap (λ (i : ℕ). n / 2 ^ i) (one-add m))

reversed_none : (k a : ℕ) → reverse_bits_onto k 0 a ≡ a * 2 ^ k
unfolding reverse_bits_onto
reversed_none zero a = omega arith
reversed_none (suc k) a = reversed_none k (a * 2 + 0) ∙ omega (arith, add-mul (a * 2) 0 (2 ^ k), mul_assoc a 2 (2 ^ k), ap (λ (m : ℕ). a * m) (two-pow-succ k))

-- a number of m bits that is turned in k + m bits and shifted back
pub turned_shifted : (m k v : ℕ) → v < 2 ^ m → reverse_bits_onto (m + k) v 0 / 2 ^ k ≡ number (reverse (bits_of m v))
turned_shifted m k v small =
    let high : v / 2 ^ m ≡ 0 = omega (arith, shr_below v 0 m (let e : 0 + m ≡ m = omega arith in subst (λ (n : ℕ). v < 2 ^ n) (sym e) small)) in
    ap (λ (x : ℕ). x / 2 ^ k)
    (reversed_add m k v 0 ∙ ap (λ (j : ℕ). reverse_bits_onto k j (reverse_bits_onto m v 0)) high ∙ reversed_none k (reverse_bits_onto m v 0))
    ∙ shl-shr (reverse_bits_onto m v 0) k ∙ reversed_bits m v 0 ∙ omega arith

pub turned_none : (w v : ℕ) → w ≡ 0 → number (reverse (bits_of (min w 64) v)) ≡ 0
unfolding number bits_of
turned_none w v e = let none : min w 64 ≡ 0 = omega arith in ap (λ (n : ℕ). number (reverse (bits_of n v))) none

-- the shift that turns a number of w bits in place
pub turned_number : (w v : ℕ) → v < 2 ^ min w 64 → reverse_bits_onto 64 v 0 / 2 ^ (64 - min w 64) ≡ number (reverse (bits_of (min w 64) v))
turned_number w v small =
    let whole : 64 ≡ min w 64 + (64 - min w 64) = omega arith in
    ap (λ (n : ℕ). reverse_bits_onto n v 0 / 2 ^ (64 - min w 64)) whole ∙ turned_shifted (min w 64) (64 - min w 64) v small

-- a number of at most w and 64 bits
pub below_both : (w v : ℕ) → v < 2 ^ w → v < 2 ^ 64 → v < 2 ^ min w 64
below_both w v narrow short = at (cases_lt 64 w)
  where
    at : (64 < w) ⊎ (w ≤ 64) → v < 2 ^ min w 64
    at (inl h) = let e : 64 ≡ min w 64 = omega arith in subst (λ (n : ℕ). v < 2 ^ n) e short
    at (inr h) = let e : w ≡ min w 64 = omega arith in subst (λ (n : ℕ). v < 2 ^ n) e narrow

pub turned_below : (w v : ℕ) → number (reverse (bits_of (min w 64) v)) < 2 ^ w
turned_below w v =
    let l = reverse (bits_of (min w 64) v) in
    let short : length l ≤ w = omega (arith, length-reverse (bits_of (min w 64) v), length_bits_of (min w 64) v) in
    omega (arith, number_below l, pow_mono short)
