use Rattle.std.proofs.Common.{sym, arith}
use Rattle.std.proofs.lemmas.Bool.{lt-ltb}
use Rattle.refusal.proofs.Judging.{check_at, left_more}
use Rattle.agreement.specs.Maps.{at}
use Rattle.agreement.specs.declared.fault.Broken.TheVariants.{Entry}
use Rattle.agreement.proofs.map.LabelMap.total.Goals as goal

pub loop-label-preserved : goal.loop-label-preserved
loop-label-preserved g c =
    let a = c.loop-label.label in
    let entry = at c.args.self.now.images.now a in
    left_more c.loop-label.invariant (omega (arith, c.count.ensures, c.if-self-count.false))
    (check_at (Entry a entry) (sym (lt-ltb entry (g.Q.Order.meaning c.args.self.now.to).count (omega (arith, c.count-known.ensures)))))
