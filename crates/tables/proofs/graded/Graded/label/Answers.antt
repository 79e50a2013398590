use Rattle.std.proofs.Common.{ℕ, ap, ◌∙◌, arith, bit_or}
use Rattle.std.proofs.lemmas.Nat.{shl_whole, or_shifted}
use Rattle.tables.proofs.graded.Graded.label.Goals as goal

pub returns : goal.returns
returns c =
    let lattice = c.args.self.now in
    ap (λ (x : ℕ). bit_or x c.args.set) (shl_whole c.args.level 3 lattice.compartments 64 (omega arith) (omega arith))
    ∙ or_shifted c.args.level lattice.compartments c.args.set c.requires.1
