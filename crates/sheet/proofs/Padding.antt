-- The bits behind the last line, read as one field. Assumes nothing.
use Rattle.std.proofs.Common.{◌≡◌, ℕ, ◌+◌, ◌-◌, ◌*◌, ◌%◌, ◌^◌, ◌<◌, ◌≤◌, Bool, false, ◌&&◌, eqb, ltb, leb, List, length, drop, Ok, Err, Result, MatchResult, sym, ap, ◌∙◌, mod-eq_of_lt, arith, pow_mono}
use Rattle.std.proofs.lemmas.List.{length-drop, take_all}
use Rattle.std.proofs.lemmas.Bool.{le-ltb, lt-ltb, le-leb, and_left, cond-true}
use Rattle.bits.specs.Bits.{all_bits, number, piece, field_read}
use Rattle.bits.specs.declared.reader.Lacking.{Lacking}
use Rattle.bits.proofs.Bits.{length_all_bits, number_below}
use Rattle.sheet.specs.Reading.{only_padding}

module _ (bytes : List ℕ) (at rest : ℕ) (left : rest ≡ length bytes * 8 - at) where
  remains : rest ≡ length (all_bits bytes) - at
  remains = omega (arith, left, length_all_bits bytes)

  pub too_much : 8 ≤ rest → false ≡ only_padding (all_bits bytes) at
  too_much h = sym (and_left (ltb (length (all_bits bytes) - at) 8) (eqb (number (drop at (all_bits bytes))) 0) (le-ltb (length (all_bits bytes) - at) 8 (omega (arith, remains))))

  -- what is left is one field
  whole : piece (all_bits bytes) at rest ≡ drop at (all_bits bytes)
  whole = take_all rest (drop at (all_bits bytes)) (omega (arith, remains, length-drop at (all_bits bytes)))

  answered : field_read bytes at rest ≡ Ok (number (piece (all_bits bytes) at rest) % 2 ^ 64, at + rest)
  unfolding field_read
  answered = cond-true (leb rest (length (all_bits bytes) - at)) (Ok (number (piece (all_bits bytes) at rest) % 2 ^ 64, at + rest)) (Err (record { at = at })) (le-leb rest (length (all_bits bytes) - at) (omega (arith, remains)))

  pub padding_read : (v q : ℕ) → rest < 8 → field_read bytes at rest ≡ Ok (v, q) → eqb v 0 ≡ only_padding (all_bits bytes) at
  padding_read v q h e =
      let same : ◌≡◌ {A = ℕ × ℕ} (number (piece (all_bits bytes) at rest) % 2 ^ 64, at + rest) (v, q) = cc (answered) in
      let small : number (piece (all_bits bytes) at rest) < 2 ^ 64 =
      omega (arith, number_below (piece (all_bits bytes) at rest), pow_mono {i = length (piece (all_bits bytes) at rest)} {j = 64} (omega (arith, ap length whole, length-drop at (all_bits bytes), remains)))
      in
      let value : v ≡ number (drop at (all_bits bytes)) = sym (ap (λ (x : ℕ × ℕ). x.0) same) ∙ mod-eq_of_lt small ∙ ap number whole in
      ap (λ (x : ℕ). eqb x 0) value
      ∙ sym (ap (λ (t : Bool). t && eqb (number (drop at (all_bits bytes))) 0) (lt-ltb (length (all_bits bytes) - at) 8 (omega (arith, remains))))

  pub padding_never_lacks : (e : Lacking) → field_read bytes at rest ≡ Err e → false ≡ only_padding (all_bits bytes) at
  padding_never_lacks e h = let z : ◌≡◌ {A = ℕ} 0 1 = cc (answered, h) in absurd (omega arith)

  -- what is left was read, and of b it is known what the value says
  pub padding_judged : (so : ℕ → Type 0) (r : Result ℕ Lacking) (q : ℕ) (b : Bool) → rest < 8 → MatchResult r (λ v. field_read bytes at rest ≡ Ok (v, q)) (λ e. field_read bytes at rest ≡ Err e) → ((v : ℕ) → so v → b ≡ eqb v 0) → MatchResult r so (λ _. b ≡ false) → b ≡ only_padding (all_bits bytes) at
  padding_judged so (Ok v) q b h e test told = test v told ∙ padding_read v q h e
  padding_judged so (Err x) q b h e test told = told ∙ padding_never_lacks x e
