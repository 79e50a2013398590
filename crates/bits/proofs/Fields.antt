-- The fields of bytes: what a field answers, and that a written field is read back. Assumes nothing.
use Rattle.std.proofs.Common.{◌≡◌, ℕ, ◌+◌, ◌-◌, ◌*◌, ◌/◌, ◌%◌, ◌^◌, ◌<◌, ◌≤◌, min, Bool, leb, ◌⊎◌, List, ◌++◌, length, take, drop, Ok, Err, sym, refl, ap, ◌∙◌, ap₂, inl, inr, mod-eq_of_lt, arith, pow_mono}
use Rattle.std.proofs.Math.Nat.{mod-le}
use Rattle.std.proofs.lemmas.List.{length-drop, length-take-le, take-append-drop, length-append}
use Rattle.std.proofs.lemmas.Bool.{cases_lt, cond-true, cond-false, le-leb, lt-leb}
use Rattle.bits.specs.Bits.{bits_of, number, all_bits, piece, field_read}
use Rattle.bits.specs.declared.reader.Lacking.{Lacking}
use Rattle.bits.proofs.Bits.{length_bits_of, length_all_bits, length_piece, all_bits_append, number_piece_below, number_bits_of_below, bits_of_number, number_piece, number_last, piece_within, piece_written}

-- a field for which enough bits remain
pub field_fits : (bs : List ℕ) (p w : ℕ) → w ≤ length (all_bits bs) - p → field_read bs p w ≡ Ok (number (piece (all_bits bs) p w) % 2 ^ 64, p + w)
unfolding field_read
field_fits bs p w h = cond-true (leb w (length (all_bits bs) - p)) _ _ (le-leb w (length (all_bits bs) - p) h)

-- a field that needs more bits than remain
pub field_lacks : (bs : List ℕ) (p w : ℕ) → length (all_bits bs) - p < w → field_read bs p w ≡ Err (record { at = p })
unfolding field_read
field_lacks bs p w h = cond-false (leb w (length (all_bits bs) - p)) _ _ (lt-leb w (length (all_bits bs) - p) h)

-- a field by its value and the next bit
pub field_answers : (bs : List ℕ) (p w v q : ℕ) → w ≤ length (all_bits bs) - p → v ≡ number (piece (all_bits bs) p w) % 2 ^ 64 → q ≡ p + w → field_read bs p w ≡ Ok (v, q)
field_answers bs p w v q h value next = field_fits bs p w h ∙ ap₂ (λ (n m : ℕ). Ok (n, m)) (sym value) (sym next)

-- no bits spell 0
pub number_none : (l : List Bool) (p w : ℕ) → w ≡ 0 → 0 ≡ number (piece l p w) % 2 ^ 64
unfolding number
number_none l p w e = sym (ap (λ (n : ℕ). number (piece l p n) % 2 ^ 64) e)

-- the value of a field of at most 64 bits is the number that its bits spell
pub number_narrow : (l : List Bool) (p w : ℕ) → w ≤ 64 → number (piece l p w) % 2 ^ 64 ≡ number (piece l p w)
number_narrow l p w h = mod-eq_of_lt (omega (arith, number_piece_below l p w, pow_mono h))

-- the value of a field is the number that its last 64 bits spell, or all of them if there are fewer
pub number_wide : (l : List Bool) (p w : ℕ) → w ≤ length l - p → number (piece l p w) % 2 ^ 64 ≡ number (piece l (p + w - min w 64) (min w 64))
number_wide l p w fits = at (cases_lt 64 w)
  where
    at : (64 < w) ⊎ (w ≤ 64) → number (piece l p w) % 2 ^ 64 ≡ number (piece l (p + w - min w 64) (min w 64))
    at (inl h) =
        let wide : 64 ≡ min w 64 = omega arith in
        number_last l p w 64 (omega arith) fits ∙ ap (λ (n : ℕ). number (piece l (p + w - n) n)) wide
    at (inr h) =
        let narrow : w ≡ min w 64 = omega arith in
        let start : p ≡ p + w - min w 64 = omega arith in
        number_narrow l p w h ∙ ap₂ (λ (q n : ℕ). number (piece l q n)) start narrow

-- a piece of the bits of bytes lies in the bytes from index f up to index l
pub number_piece_bytes : (bs : List ℕ) (f l e w : ℕ) → w ≤ e → 8 * f ≤ e - w → f ≤ l → e ≤ 8 * l → l ≤ length bs → number (piece (all_bits bs) (e - w) w) ≡ number (all_bits (take (l - f) (drop f bs))) / 2 ^ (8 * l - e) % 2 ^ w
number_piece_bytes bs f l e w h from between to end =
    let k = e - w - 8 * f in
    let start : e - w ≡ length before + k = omega (arith, length_before) in
    let spare : length mid - (k + w) ≡ 8 * l - e = omega (arith, length_mid) in
    ap (λ (r : List Bool). number (piece r (e - w) w)) split
    ∙ ap (λ (p : ℕ). number (piece (before ++ (mid ++ after)) p w)) start
    ∙ ap number (piece_within before mid after k w (omega (arith, length_mid)))
    ∙ number_piece mid k w (omega (arith, length_mid))
    ∙ ap (λ (n : ℕ). number mid / 2 ^ n % 2 ^ w) spare
  where
    before : List Bool
    before = all_bits (take f bs)

    mid : List Bool
    mid = all_bits (take (l - f) (drop f bs))

    after : List Bool
    after = all_bits (drop (l - f) (drop f bs))

    split : all_bits bs ≡ before ++ (mid ++ after)
    split =
        ap all_bits (sym (take-append-drop f bs)) ∙ all_bits_append (take f bs) (drop f bs)
        ∙ ap (λ (r : List Bool). before ++ r) (ap all_bits (sym (take-append-drop (l - f) (drop f bs))) ∙ all_bits_append (take (l - f) (drop f bs)) (drop (l - f) (drop f bs)))

    length_before : length before ≡ 8 * f
    length_before = length_all_bits (take f bs) ∙ ap (λ (n : ℕ). 8 * n) (length-take-le f bs (omega arith))

    length_mid : length mid ≡ 8 * (l - f)
    length_mid = length_all_bits (take (l - f) (drop f bs)) ∙ ap (λ (n : ℕ). 8 * n) (length-take-le (l - f) (drop f bs) (omega (arith, length-drop f bs)))

-- a written field is read back
pub field_read_back : (bs : List ℕ) (xs ys : List Bool) (w v : ℕ) → w ≤ 64 → v < 2 ^ w → all_bits bs ≡ xs ++ bits_of w v ++ ys → field_read bs (length xs) w ≡ Ok (v, length xs + w)
field_read_back bs xs ys w v narrow small written =
    let long : length (all_bits bs) ≡ length xs + w + length ys = ap length written ∙ length-append (xs ++ bits_of w v) ys ∙ ap (λ (n : ℕ). n + length ys) (length-append xs (bits_of w v) ∙ ap (λ (n : ℕ). length xs + n) (length_bits_of w v)) in
    let value : v ≡ number (piece (all_bits bs) (length xs) w) = sym (ap (λ (l : List Bool). number (piece l (length xs) w)) written ∙ ap number (piece_written xs ys w v) ∙ number_bits_of_below w v small) in
    field_answers bs (length xs) w v (length xs + w) (omega (arith, long)) (value ∙ sym (number_narrow (all_bits bs) (length xs) w narrow)) refl

-- what a field that was read tells: enough bits remained, its value, and the next bit
pub record WasRead (bs : List ℕ) (p w v q : ℕ) : Type 0 where
  pub fits : w ≤ length (all_bits bs) - p
  pub value : v ≡ number (piece (all_bits bs) p w) % 2 ^ 64
  pub next : q ≡ p + w

pub field_was_read : (bs : List ℕ) (p w v q : ℕ) → field_read bs p w ≡ Ok (v, q) → WasRead bs p w v q
field_was_read bs p w v q e = at (cases_lt (length (all_bits bs) - p) w)
  where
    at : (length (all_bits bs) - p < w) ⊎ (w ≤ length (all_bits bs) - p) → WasRead bs p w v q
    at (inl h) = let lacks = field_lacks bs p w h in let z : ◌≡◌ {A = ℕ} 0 1 = cc in absurd (omega arith)
    at (inr h) =
        let fits = field_fits bs p w h in
        let same : (v, q) ≡ (number (piece (all_bits bs) p w) % 2 ^ 64, p + w) = cc in
        record { fits = h; value = ap (λ (a : ℕ × ℕ). a.0) same; next = ap (λ (a : ℕ × ℕ). a.1) same }

-- the value of a field of w bits is below 2 ^ w
pub field_below : (bs : List ℕ) (p w v q : ℕ) → field_read bs p w ≡ Ok (v, q) → v < 2 ^ w
field_below bs p w v q e =
    omega (arith, (field_was_read bs p w v q e).value, mod-le (number (piece (all_bits bs) p w)) (2 ^ 64), number_piece_below (all_bits bs) p w)

-- what was read was written so
pub field_written : (bs : List ℕ) (p w v q : ℕ) → w ≤ 64 → field_read bs p w ≡ Ok (v, q) → piece (all_bits bs) p w ≡ bits_of w v
field_written bs p w v q narrow e =
    let was = field_was_read bs p w v q e in
    let l = piece (all_bits bs) p w in
    sym (ap₂ bits_of (sym (length_piece (all_bits bs) p w was.fits)) (was.value ∙ number_narrow (all_bits bs) p w narrow) ∙ bits_of_number l)

-- a refused field names its first bit, and needs more bits than remain
pub field_was_refused : (bs : List ℕ) (p w : ℕ) (e : Lacking) → field_read bs p w ≡ Err e → (e ≡ record { at = p }) × (length (all_bits bs) - p < w)
field_was_refused bs p w e was = at (cases_lt (length (all_bits bs) - p) w)
  where
    at : (length (all_bits bs) - p < w) ⊎ (w ≤ length (all_bits bs) - p) → (e ≡ record { at = p }) × (length (all_bits bs) - p < w)
    at (inl h) = let lacks = field_lacks bs p w h in (cc, h)
    at (inr h) = let fits = field_fits bs p w h in let z : ◌≡◌ {A = ℕ} 0 1 = cc in absurd (omega arith)
