-- The law of formats, both ways: what is read was written so, and what is written is read back. Assumes nothing.
use Rattle.std.proofs.Common.{◌≡◌, ℕ, zero, suc, ◌+◌, ◌-◌, ◌≤◌, Bool, true, false, ◌⊎◌, List, [], ◌∷◌, ◌++◌, reverse, length, take, Ok, MatchBool, sym, refl, ap, ◌∙◌, subst, ap₂, inl, inr, arith}
use Rattle.std.specs.List.{flat_map, AllByRecursion}
use Rattle.std.proofs.lemmas.List.{length-append, length-reverse, take_at}
use Rattle.bits.specs.Bits.{bits_of, piece}
use Rattle.bits.proofs.Bits.{length_bits_of}
use Rattle.format.specs.Formats.{Format, done, field, turned, part, either, inside, many, Reading, followed, under, row_at, read, write, Writes, Sound}
use Rattle.format.proofs.Pieces.{Stands, stands_both, stands_first, stands_rest, stands_fits, stands_agree}
use Rattle.format.proofs.Readings.{ok_same, ok_injective, followed_ok, followed_by, under_ok, field_ok, field_back, turned_ok, turned_back}

-- the value a can be written, and its bits stand from bit p up to bit q
pub record Written {A : Type 0} (Can : A → Type 0) (wrote : A → List Bool) (bits : List Bool) (p : ℕ) (a : A) (q : ℕ) : Type 0 where
  pub can : Can a
  pub next : q ≡ p + length (wrote a)
  pub stands : Stands bits p (wrote a)

-- two parts in a row
joins : (bits : List Bool) (p q r : ℕ) (xs ys : List Bool) → q ≡ p + length xs → Stands bits p xs → r ≡ q + length ys → Stands bits q ys → (r ≡ p + length (xs ++ ys)) × Stands bits p (xs ++ ys)
joins bits p q r xs ys first h second k = (
  omega (arith, length-append xs ys),
  stands_both bits p xs ys h (subst (λ (n : ℕ). Stands bits n ys) first k),
)

-- values in a row
module _ {E F A : Type 0} (Can : A → Type 0) (wrote : A → List Bool) (wrap : ℕ → E → F) (bits : List Bool) (one : ℕ → Reading E A) where
  row_was_written : ((p : ℕ) (a : A) (q : ℕ) → one p ≡ Ok (a, q) → Written Can wrote bits p a q) → (n i p : ℕ) (xs : List A) (q : ℕ) → row_at wrap one i n p ≡ Ok (xs, q) → Written (λ xs. (length xs ≡ n) × AllByRecursion Can xs) (flat_map wrote) bits p xs q
  row_was_written each zero i p xs q e =
      let same = ok_same [] xs p q e in
      subst (λ (l : List A). Written (λ xs. (length xs ≡ 0) × AllByRecursion Can xs) (flat_map wrote) bits p l q) same.0
      (record { can = (refl, tt); next = omega (arith, same.1); stands = refl })
  row_was_written each (suc n) i p xs q e =
      let was = followed_ok (under (wrap i) (one p)) (λ a m. followed (row_at wrap one (suc i) n m) (λ rest r. Ok (a ∷ rest, r))) xs q e in
      let a = was.value in
      let m = was.place in
      let first = each p a m (under_ok (wrap i) (one p) a m was.first) in
      let later = followed_ok (row_at wrap one (suc i) n m) (λ rest r. Ok (a ∷ rest, r)) xs q was.then in
      let rest = row_was_written each n (suc i) m later.value later.place later.first in
      let same = ok_same (a ∷ later.value) xs later.place q later.then in
      let both = joins bits p m later.place (wrote a) (flat_map wrote later.value) first.next first.stands rest.next rest.stands in
      subst (λ (l : List A). Written (λ xs. (length xs ≡ suc n) × AllByRecursion Can xs) (flat_map wrote) bits p l q) same.0
      (record { can = (ap suc rest.can.0, (first.can, rest.can.1)); next = sym same.1 ∙ both.0; stands = both.1 })

  row_back : ((p : ℕ) (a : A) → Can a → Stands bits p (wrote a) → one p ≡ Ok (a, p + length (wrote a))) → (n i p : ℕ) (xs : List A) → length xs ≡ n → AllByRecursion Can xs → Stands bits p (flat_map wrote xs) → row_at wrap one i n p ≡ Ok (xs, p + length (flat_map wrote xs))
  row_back each zero i p [] e all h = ap (λ (n : ℕ). Ok ([], n)) (omega arith)
  row_back each zero i p (x ∷ xs) e all h = absurd (omega arith)
  row_back each (suc n) i p [] e all h = absurd (omega arith)
  row_back each (suc n) i p (x ∷ xs) e all h =
      let m = p + length (wrote x) in
      let end : m + length (flat_map wrote xs) ≡ p + length (wrote x ++ flat_map wrote xs) = omega (arith, length-append (wrote x) (flat_map wrote xs)) in
      let first = each p x all.0 (stands_first bits p (wrote x) (flat_map wrote xs) h) in
      let rest = row_back each n (suc i) m xs (omega arith) all.1 (stands_rest bits p (wrote x) (flat_map wrote xs) h) in
      followed_by (under (wrap i) (one p)) (λ a r. followed (row_at wrap one (suc i) n r) (λ rest r. Ok (a ∷ rest, r))) x m (ap (under (wrap i)) first)
      ∙ followed_by (row_at wrap one (suc i) n m) (λ rest r. Ok (x ∷ rest, r)) xs (m + length (flat_map wrote xs)) rest
      ∙ ap (λ (k : ℕ). Ok (x ∷ xs, k)) end

-- what is read was written so
pub was_written : {F A : Type 0} (f : Format F A) → Sound f → (bits : List Bool) (p : ℕ) (a : A) (q : ℕ) → read f bits p ≡ Ok (a, q) → Written (Writes f) (write f) bits p a q
was_written (done a) sound bits p b q e =
    let same = ok_same a b p q e in
    record { can = sym same.0; next = omega (arith, same.1); stands = refl }
was_written (field w least most) sound bits p v q e =
    let was = field_ok w least most bits p v q sound.1 e in
    let long = length_bits_of w v in
    record { can = was.0; next = omega (arith, was.1, long); stands = ap (λ (n : ℕ). piece bits p n) long ∙ was.2 }
was_written (turned w) sound bits p v q e =
    let was = turned_ok w bits p v q sound.1 e in
    let long = length-reverse (bits_of w v) ∙ length_bits_of w v in
    record { can = was.0; next = omega (arith, was.1, long); stands = ap (λ (n : ℕ). piece bits p n) long ∙ was.2 }
was_written (part {A = A} f get rest) sound bits p b q e =
    let was = followed_ok (read f bits p) (λ a m. read (rest a) bits m) b q e in
    let a = was.value in
    let m = was.place in
    let first = was_written f sound.0 bits p a m was.first in
    let second = was_written (rest a) (sound.1 a first.can) bits m b q was.then in
    let got : a ≡ get b = sym (sound.2 a b first.can second.can) in
    let both = joins bits p m q (write f a) (write (rest a) b) first.next first.stands second.next second.stands in
    record {
      can = subst (λ (x : A). Writes f x × Writes (rest x) b) got (first.can, second.can);
      next = subst (λ (x : A). q ≡ p + length (write f x ++ write (rest x) b)) got both.0;
      stands = subst (λ (x : A). Stands bits p (write f x ++ write (rest x) b)) got both.1;
    }
was_written (either true f g) sound bits p a q e = let was = was_written f (sound.0 refl) bits p a q e in record { can = was.can; next = was.next; stands = was.stands }
was_written (either false f g) sound bits p a q e = let was = was_written g (sound.1 refl) bits p a q e in record { can = was.can; next = was.next; stands = was.stands }
was_written (inside wrap f) sound bits p a q e =
    let was = was_written f sound bits p a q (under_ok wrap (read f bits p) a q e) in
    record { can = was.can; next = was.next; stands = was.stands }
was_written (many n wrap f) sound bits p xs q e =
    let was = row_was_written (Writes f) (write f) wrap bits (read f bits) (was_written f sound bits) n 0 p xs q e in
    record { can = was.can; next = was.next; stands = was.stands }

-- the same by the next bit
pub read_so : {F A : Type 0} (f : Format F A) → Sound f → (bits : List Bool) (p : ℕ) (a : A) (q : ℕ) → read f bits p ≡ Ok (a, q) → Writes f a × (p ≤ q) × (p ≤ length bits → q ≤ length bits) × (piece bits p (q - p) ≡ write f a)
read_so f sound bits p a q e =
    let was = was_written f sound bits p a q e in
    let long : q - p ≡ length (write f a) = omega (arith, was.next) in (
      was.can,
      omega (arith, was.next),
      (λ h. omega (arith, was.next, stands_fits bits p (write f a) was.stands)),
      ap (λ (n : ℕ). piece bits p n) long ∙ was.stands,
    )

-- what is written is read back
pub read_back : {F A : Type 0} (f : Format F A) → Sound f → (bits : List Bool) (p : ℕ) (a : A) → Writes f a → Stands bits p (write f a) → read f bits p ≡ Ok (a, p + length (write f a))
read_back (done a) sound bits p b can h = ap₂ (λ x n. Ok (x, n)) (sym can) (omega arith)
read_back (field w least most) sound bits p v can h =
    let long = length_bits_of w v in
    field_back w least most bits p v sound.1 can.0 can.1 can.2 (omega (arith, stands_fits bits p (bits_of w v) h)) (ap (λ (n : ℕ). piece bits p n) (sym long) ∙ h)
    ∙ ap (λ (n : ℕ). Ok (v, p + n)) (sym long)
read_back (turned w) sound bits p v can h =
    let long = length-reverse (bits_of w v) ∙ length_bits_of w v in
    turned_back w bits p v sound.1 can (omega (arith, stands_fits bits p (reverse (bits_of w v)) h)) (ap (λ (n : ℕ). piece bits p n) (sym long) ∙ h)
    ∙ ap (λ (n : ℕ). Ok (v, p + n)) (sym long)
read_back (part f get rest) sound bits p b can h =
    let a = get b in
    let xs = write f a in
    let ys = write (rest a) b in
    let m = p + length xs in
    let end : m + length ys ≡ p + length (xs ++ ys) = omega (arith, length-append xs ys) in
    followed_by (read f bits p) (λ a m. read (rest a) bits m) a m (read_back f sound.0 bits p a can.0 (stands_first bits p xs ys h))
    ∙ read_back (rest a) (sound.1 a can.0) bits m b can.1 (stands_rest bits p xs ys h)
    ∙ ap (λ (n : ℕ). Ok (b, n)) end
read_back (either true f g) sound bits p a can h = read_back f (sound.0 refl) bits p a can h
read_back (either false f g) sound bits p a can h = read_back g (sound.1 refl) bits p a can h
read_back (inside wrap f) sound bits p a can h = ap (under wrap) (read_back f sound bits p a can h)
read_back (many n wrap f) sound bits p xs can h =
    row_back (Writes f) (write f) wrap bits (read f bits) (read_back f sound bits) n 0 p xs can.0 can.1 h

-- what is read depends on the bits before the next bit alone
pub read_agrees : {F A : Type 0} (f : Format F A) → Sound f → (bits bits' : List Bool) (p : ℕ) (a : A) (q : ℕ) → read f bits p ≡ Ok (a, q) → take q bits ≡ take q bits' → read f bits' p ≡ Ok (a, q)
read_agrees f sound bits bits' p a q e same =
    let was = was_written f sound bits p a q e in
    read_back f sound bits' p a was.can (stands_agree bits bits' p q (write f a) was.next same was.stands)
    ∙ ap (λ (n : ℕ). Ok (a, n)) (sym was.next)

-- no two values are written as the beginning of one list of bits
pub write_injective : {F A : Type 0} (f : Format F A) → Sound f → (a b : A) → Writes f a → Writes f b → (xs ys : List Bool) → write f a ++ xs ≡ write f b ++ ys → a ≡ b
write_injective f sound a b can can' xs ys same =
    (ok_injective (read f (write f a ++ xs) 0) a b (0 + length (write f a)) (0 + length (write f b))
    (read_back f sound (write f a ++ xs) 0 a can (take_at (write f a) xs (length (write f a)) refl))
    (subst (λ (l : List Bool). read f l 0 ≡ Ok (b, 0 + length (write f b))) (sym same)
    (read_back f sound (write f b ++ ys) 0 b can' (take_at (write f b) ys (length (write f b)) refl)))).0

-- which of two formats can write a value
pub when_cases : (b : Bool) (P Q : Type 0) → MatchBool b P Q → ((b ≡ true) × P) ⊎ ((b ≡ false) × Q)
when_cases true P Q can = inl (refl, can)
when_cases false P Q can = inr (refl, can)
