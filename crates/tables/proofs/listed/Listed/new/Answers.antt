use Rattle.tables.specs.Lattices.{one_lattice}
use Rattle.tables.proofs.listed.Listed.new.Goals as goal

pub invariant_of-result : goal.invariant_of-result
invariant_of-result c =
    let t = c.new.result in
    record { lattice = ∣ one_lattice t.rows.count t.rows.places c.new.ensures t.some t.few t.lawful ∣₁ }
