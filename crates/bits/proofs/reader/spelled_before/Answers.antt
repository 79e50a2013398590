use Rattle.std.proofs.Common.{◌≡◌, ℕ, ◌-◌, ◌*◌, ◌/◌, ◌%◌, ◌^◌, take, drop, sym, ap, ◌∙◌, ap₂, arith}
use Rattle.std.proofs.lemmas.Nat.{one_shl}
use Rattle.bits.specs.Bits.{all_bits, number}
use Rattle.bits.proofs.Fields.{number_piece_bytes}
use Rattle.bits.proofs.reader.spelled_before.Goals as goal

pub returns : goal.returns
returns c =
    let bs = c.args.bytes.now in
    let e = c.args.end in
    let w = c.args.width in
    let f = (e - c.from.result) / 8 in
    let l = c.div_ceil-last.result in
    let spare : l * 8 - e ≡ 8 * l - e = omega arith in
    ap (λ (n : ℕ). n / 2 ^ (l * 8 - e) % (1 * 2 ^ w % 2 ^ 128)) c.spelled-whole.ensures
    ∙ ap₂ (λ (s m : ℕ). number (all_bits (take (l - f) (drop f bs))) / 2 ^ s % m) spare (one_shl w 128 (omega arith))
    ∙ sym (number_piece_bytes bs f l e w (omega arith) (omega arith) (omega arith) (omega arith) (omega arith))
