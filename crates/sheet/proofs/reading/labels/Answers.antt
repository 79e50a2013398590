use Rattle.std.proofs.Common.{◌≡◌, ◌*◌, ◌%◌, ◌^◌, ◌≤◌, subst, arith, pow_mono}
use Rattle.std.proofs.lemmas.Nat.{shl_whole, mul-le}
use Rattle.house.specs.declared.description.House.{House}
use Rattle.house.specs.Houses.{Within}
use Rattle.sheet.proofs.reading.labels.Goals as goal

pub returns-in-Graded-clause-few : goal.returns-in-Graded-clause-few
returns-in-Graded-clause-few c =
    let v = c.in-Graded.levels in
    let k = c.in-Graded.compartments in
    let within = subst (λ (h : House). Within h) c.in-Graded.is c.requires in
    let whole : (v * 2 ^ k) % 2 ^ 64 ≡ v * 2 ^ k = shl_whole v 4 k 64 (omega (arith, within.1)) (omega (arith, within.2)) in
    let few : v * 2 ^ k ≤ 8 * 8 = mul-le v (2 ^ k) 8 8 within.1 (pow_mono within.2) in
    omega (arith, whole, few)
