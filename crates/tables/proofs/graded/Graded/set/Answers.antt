use Rattle.std.proofs.Common.{ℕ, ◌-◌, ap, ◌∙◌, arith, bit_and}
use Rattle.std.proofs.lemmas.Nat.{one_shl, and_mask}
use Rattle.tables.proofs.graded.Graded.set.Goals as goal

pub returns : goal.returns
returns c =
    let lattice = c.args.self.now in
    ap (λ (x : ℕ). bit_and c.args.label (x - 1)) (one_shl lattice.compartments 64 (omega arith))
    ∙ and_mask c.args.label lattice.compartments
