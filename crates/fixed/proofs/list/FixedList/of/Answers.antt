use Rattle.std.proofs.Common.{◌≡◌, length, take}
use Rattle.std.proofs.lemmas.List.{drop-replicate, take_min}
use Rattle.fixed.specs.Lists.{padded}
use Rattle.fixed.proofs.list.FixedList.of.Goals as goal

pub returns : goal.returns
unfolding padded
returns g c =
    let blank = c.args.blank in
    let kept : take c.min.result c.args.list.now ≡ take g.row.N c.args.list.now = rw (c.min.ensures, take_min g.row.N c.args.list.now) in
    rw (c.copy_from_slice.ensures.after, drop-replicate (length (take c.min.result c.args.list.now)) g.row.N blank, kept)
