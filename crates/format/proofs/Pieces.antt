-- Bits that stand somewhere in a list of bits. Assumes nothing.
use Rattle.std.proofs.Common.{◌≡◌, ℕ, ◌+◌, ◌-◌, ◌≤◌, Bool, List, ◌++◌, length, take, drop, sym, refl, ap, ◌∙◌, ap₂, arith}
use Rattle.std.proofs.lemmas.List.{length-append, length-take, length-drop, take-append-drop, take-take, drop-take, drop-drop, take_at, drop_at}
use Rattle.bits.specs.Bits.{piece}

-- the bits l stand at bit p
abbrev pub Stands : List Bool → ℕ → List Bool → Type 0
Stands bits p l = piece bits p (length l) ≡ l

-- a piece in two parts
pub piece_add : (l : List Bool) (p n m : ℕ) → piece l p (n + m) ≡ piece l p n ++ piece l (p + n) m
piece_add l p n m =
    sym (take-append-drop n (piece l p (n + m)))
    ∙ ap₂ (λ (x y : List Bool). x ++ y) (take-take n (n + m) (drop p l) (omega arith)) (drop-take n m (drop p l) ∙ ap (λ (x : List Bool). take m x) (drop-drop n p l))

module _ (bits : List Bool) (p : ℕ) (xs ys : List Bool) where
  pub stands_both : Stands bits p xs → Stands bits (p + length xs) ys → Stands bits p (xs ++ ys)
  stands_both h k =
      ap (λ (n : ℕ). piece bits p n) (length-append xs ys) ∙ piece_add bits p (length xs) (length ys) ∙ ap₂ (λ (x y : List Bool). x ++ y) h k

  pub stands_first : Stands bits p (xs ++ ys) → Stands bits p xs
  stands_first h =
      sym (take-take (length xs) (length (xs ++ ys)) (drop p bits) (omega (arith, length-append xs ys)))
      ∙ ap (λ (l : List Bool). take (length xs) l) h ∙ take_at xs ys (length xs) refl

  pub stands_rest : Stands bits p (xs ++ ys) → Stands bits (p + length xs) ys
  stands_rest h =
      ap (λ (l : List Bool). take (length ys) l) (sym (drop-drop (length xs) p bits))
      ∙ sym (drop-take (length xs) (length ys) (drop p bits))
      ∙ ap (λ (n : ℕ). drop (length xs) (piece bits p n)) (sym (length-append xs ys))
      ∙ ap (λ (l : List Bool). drop (length xs) l) h ∙ drop_at xs ys (length xs) refl

-- as many bits remain
pub stands_fits : (bits : List Bool) (p : ℕ) (l : List Bool) → Stands bits p l → length l ≤ length bits - p
stands_fits bits p l h = omega (arith, ap length h, length-take (length l) (drop p bits), length-drop p bits)

-- what stands before bit n stands in all bits that agree up to there
pub stands_agree : (bits bits' : List Bool) (p n : ℕ) (l : List Bool) → n ≡ p + length l → take n bits ≡ take n bits' → Stands bits p l → Stands bits' p l
stands_agree bits bits' p n l e same h = sym (cut bits') ∙ ap (λ (x : List Bool). drop p x) (sym same) ∙ cut bits ∙ h
  where
    cut : (x : List Bool) → drop p (take n x) ≡ piece x p (length l)
    cut x = ap (λ (m : ℕ). drop p (take m x)) e ∙ drop-take p (length l) x
