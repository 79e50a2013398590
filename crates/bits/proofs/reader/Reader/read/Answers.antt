use Rattle.std.proofs.Common.{◌≡◌, ℕ, ◌+◌, ◌-◌, ◌%◌, ◌^◌, ◌≤◌, length, sym, ◌∙◌, ap₂, arith}
use Rattle.bits.specs.Bits.{all_bits, number, piece}
use Rattle.bits.proofs.Bits.{length_all_bits}
use Rattle.bits.proofs.Fields.{field_answers, field_below, field_lacks, number_none, number_wide}
use Rattle.bits.proofs.reader.Reader.read.Goals.{then-width-eq0, else-width-eq0}
use Rattle.bits.proofs.reader.Reader.read.Goals as goal

pub returns-then-bits-saturating_sub-clause-field : goal.returns-then-bits-saturating_sub-clause-field
returns-then-bits-saturating_sub-clause-field c =
    field_lacks c.args.self.now.bytes.now c.args.self.now.at c.args.width (omega (arith, length_all_bits c.args.self.now.bytes.now))

pub returns-clause-field : goal.returns-clause-field
returns-clause-field c =
    let bs = c.args.self.now.bytes.now in
    let p = c.args.self.now.at in
    let w = c.args.width in
    let v = c.if-width-eq0.value in
    let fits : w ≤ length (all_bits bs) - p = omega (arith, length_all_bits bs) in
    let value : v ≡ number (piece (all_bits bs) p w) % 2 ^ 64 = elim c.if-width-eq0.branch [
      | then-width-eq0 none ↦ none.value-is ∙ number_none (all_bits bs) p w none.if-width-eq0.true
      | else-width-eq0 some ↦
          some.value-is ∙ some.spelled_before-value.ensures
          ∙ ap₂ (λ (n m : ℕ). number (piece (all_bits bs) (p + n - m) m)) c.from-bits.ensures some.min.ensures
          ∙ sym (number_wide (all_bits bs) p w fits)
    ] in
    field_answers bs p w v (p + c.from-bits.result) fits value (omega arith)

pub returns-clause-below : goal.returns-clause-below
returns-clause-below c =
    field_below c.args.self.now.bytes.now c.args.self.now.at c.args.width c.if-width-eq0.value (c.args.self.now.at + c.from-bits.result) (returns-clause-field c)
