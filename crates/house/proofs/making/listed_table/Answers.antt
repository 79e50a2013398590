use Rattle.std.proofs.Common.{◌≡◌, length, rules}
use Rattle.house.proofs.Described.{built_rows, decides_rows}
use Rattle.house.proofs.making.listed_table.Goals as goal

pub returns : goal.returns
returns c =
    let rows = c.args.rows.now in
    let enough : length rows.places ≡ 32 = search rules in
    let told = rw c.as_slice.ensures.elements at c.try_from.ensures in
    record {
      answer = built_rows rows c.if-rows.false enough c.try_from.result told.0;
      law = decides_rows rows c.if-rows.false _ told.1;
    }
