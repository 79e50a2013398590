use Rattle.std.proofs.Common.{◌≡◌, ℕ, ◌+◌, ◌*◌, ◌^◌, ◌<◌, length, get_or, take, sym, refl, ap, ◌∙◌, subst, ap₂, arith, bit_or}
use Rattle.std.proofs.lemmas.Nat.{or_shifted, shl_whole}
use Rattle.std.proofs.lemmas.List.{take_more, take_all, length-take-le}
use Rattle.bits.specs.Bits.{all_bits, number}
use Rattle.bits.proofs.Bits.{number_below, length_all_bits, number_all_bits_push}
use Rattle.bits.proofs.reader.spelled.Goals as goal

pub loop-byte-init : goal.loop-byte-init
unfolding number all_bits
loop-byte-init c = refl

pub loop-byte-preserved : goal.loop-byte-preserved
loop-byte-preserved c =
    let bs = c.args.bytes.now in
    let i = c.loop-byte.byte-index in
    let v = c.loop-byte.value in
    let b = get_or bs i 0 in
    let small : b < 2 ^ 8 = omega (arith, c.type_inv.bytes i) in
    let long : length (all_bits (take i bs)) ≡ 8 * i = length_all_bits (take i bs) ∙ ap (λ (n : ℕ). 8 * n) (length-take-le i bs (omega arith)) in
    let fits : v < 2 ^ (8 * i) = subst (λ (n : ℕ). v < 2 ^ n) long (subst (λ (n : ℕ). n < 2 ^ length (all_bits (take i bs))) (sym c.loop-byte.invariant) (number_below (all_bits (take i bs)))) in
    ap₂ bit_or (shl_whole v (8 * i) 8 128 fits (omega (arith, c.requires))) c.from.ensures
    ∙ or_shifted v 8 b small
    ∙ ap (λ (n : ℕ). n * 2 ^ 8 + b) c.loop-byte.invariant
    ∙ sym (number_all_bits_push (take i bs) b small)
    ∙ ap (λ l. number (all_bits l)) (sym (take_more bs i 0 c.loop-byte-test.true))

pub returns : goal.returns
returns c = c.loop-byte.invariant ∙ ap (λ l. number (all_bits l)) (take_all c.loop-byte.byte-index c.args.bytes.now c.loop-byte-test.false)
