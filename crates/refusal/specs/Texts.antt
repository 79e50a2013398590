-- How a refusal is written out.
use Rattle.std.specs.Prelude.{ℕ, List, ◌++◌, codes, decimal}
use Rattle.refusal.specs.Sides.{side_number}
use Rattle.refusal.specs.declared.refused.Refused.{Refused}

-- REFUSE, number, line, side, p and q, with a blank between
abbrev pub refused_text : Refused → List ℕ
refused_text v =
    let r = v.refusal in
    codes "REFUSE "
    ++ (decimal r.number
    ++ (codes " " ++ (decimal v.line ++ (codes " " ++ (decimal (side_number r.side) ++ (codes " " ++ (decimal r.p ++ (codes " " ++ decimal r.q))))))))
