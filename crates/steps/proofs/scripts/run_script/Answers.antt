use Rattle.std.proofs.Common.{sym}
use Rattle.agreement.specs.Agreements.{joined}
use Rattle.steps.proofs.Running.{script_readable}
use Rattle.steps.proofs.scripts.run_script.Goals as goal

pub do_script-requires : goal.do_script-requires
do_script-requires g c =
    script_readable (joined g.N.Order.meaning g.F.Order.meaning c.args.houses.now) c.args.bytes.now c.args.at
    c.in_ok-judged.judged (sym c.in_ok-judged.ensures)
