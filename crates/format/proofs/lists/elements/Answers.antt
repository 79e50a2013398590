use Rattle.std.proofs.Common.{length, take, replicate, sym, ap, ◌∙◌, arith}
use Rattle.bits.specs.Bits.{all_bits}
use Rattle.format.specs.Formats.{under}
use Rattle.format.proofs.Loops.{left_stored, stored}
use Rattle.format.proofs.lists.elements.Goals as goal

pub loop-place-preserved : goal.loop-place-preserved
loop-place-preserved g c =
    let one = g.E.Element.reading c.args.element.now in
    let same = c.loop-place.invariant.0 in
    let got = c.in_ok-place.ensures.reads in
    let n = length (take c.min-count.result (replicate g.row.N c.args.blank)) in (
      got.bytes ∙ same,
      left_stored (λ i e. e) (one (all_bits c.args.reader.now.bytes.now)) n c.args.reader.now.at c.loop-place.place-index c.loop-place.reader.at
          c.loop-place.place-items c.in_ok-place.field-0 c.read.new.reader.at c.loop-place-test.true (omega (arith, c.loop-place.auto.place-items))
          (ap (λ b. under (λ e. e) (one (all_bits b.now) c.loop-place.reader.at)) (sym same) ∙ ap (under (λ e. e)) got.value) c.loop-place.invariant.1,
    )

pub returns-clause-reads : goal.returns-clause-reads
returns-clause-reads g c =
    let one = g.E.Element.reading c.args.element.now in
    record {
      value = stored (λ i e. e) (one (all_bits c.args.reader.now.bytes.now)) g.row.N c.args.blank c.args.count c.min-count.result c.args.reader.now.at c.loop-place.place-index c.loop-place.reader.at c.loop-place.place-items
          c.min-count.ensures c.loop-place.auto.place-items c.loop-place-test.false c.loop-place.invariant.1;
      bytes = c.loop-place.invariant.0;
    }
