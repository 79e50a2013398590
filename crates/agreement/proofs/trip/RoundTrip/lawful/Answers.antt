use Rattle.std.proofs.Common.{get_or}
use Rattle.refusal.proofs.Judging.{check_at, left_more, left_err}
use Rattle.agreement.specs.Rules.{no_item}
use Rattle.agreement.specs.declared.fault.Broken.TheVariants.{Unlawful}
use Rattle.agreement.proofs.trip.RoundTrip.lawful.Goals as goal

pub loop-place-preserved : goal.loop-place-preserved
loop-place-preserved g c =
    let i = c.loop-place.place in
    left_more c.loop-place.invariant c.loop-place-test.true (check_at (Unlawful i (get_or c.args.items.now i no_item).label) c.if-not-lawful_item.ensures)

pub returns-then-not-lawful_item : goal.returns-then-not-lawful_item
returns-then-not-lawful_item g c =
    let i = c.loop-place.place in
    left_err c.loop-place.invariant c.loop-place-test.true (check_at (Unlawful i (get_or c.args.items.now i no_item).label) c.if-not-lawful_item.ensures)
