use Rattle.std.proofs.Common.{◌≡◌, ℕ, ◌-◌, ◌/◌, ◌^◌, ◌<◌, min, reverse, Ok, sym, ap, ◌∙◌, subst, ap₂, arith}
use Rattle.std.proofs.lemmas.Nat.{pow_pos}
use Rattle.std.proofs.lemmas.Result.{err_from_is_err_and}
use Rattle.bits.specs.Bits.{bits_of, number}
use Rattle.format.proofs.Bytes.{turned_value, turned_lacking, turned_number, turned_none, turned_below, below_both}
use Rattle.format.proofs.fields.turned.Goals as goal

pub returns-in_err-value : goal.returns-in_err-value
returns-in_err-value c =
    let p = err_from_is_err_and c.from_residual.result c.from_residual.ensures.1 in
    let bs = c.args.reader.now.bytes.now in
    let at = c.args.reader.now.at in
    let was = c.in_err-value.ensures in
    rw (p.1, p.2)
    (record {
      takes = record { reads = record { value = turned_lacking bs c.args.width at c.in_err-value.field-0.0 was.field; bytes = was.bytes }; stays = was.stays };
      limits = tt;
    })

pub returns-then-width-eq0 : goal.returns-then-width-eq0
returns-then-width-eq0 c =
    let v = c.in_ok-value.value in
    let end = c.read.new.self.at in
    let was = c.in_ok-value.ensures in
    record {
      takes = record { reads = record { value = turned_value c.args.reader.now.bytes.now c.args.width c.args.reader.now.at v end was.field ∙ ap (λ (n : ℕ). Ok (n, end)) (turned_none c.args.width v c.if-width-eq0.true); bytes = was.bytes }; stays = tt };
      limits = pow_pos c.args.width;
    }

pub returns : goal.returns
returns c =
    let w = c.args.width in
    let v = c.in_ok-value.value in
    let end = c.read.new.self.at in
    let was = c.in_ok-value.ensures in
    let same : c.reverse_bits.result / 2 ^ (64 - c.min.result) ≡ number (reverse (bits_of (min w 64) v)) =
    ap₂ (λ (x m : ℕ). x / 2 ^ (64 - m)) c.reverse_bits.ensures c.min.ensures ∙ turned_number w v (below_both w v was.below (omega arith)) in
    record {
      takes = record { reads = record { value = turned_value c.args.reader.now.bytes.now w c.args.reader.now.at v end was.field ∙ ap (λ (n : ℕ). Ok (n, end)) (sym same); bytes = was.bytes }; stays = tt };
      limits = subst (λ (n : ℕ). n < 2 ^ w) (sym same) (turned_below w v);
    }
