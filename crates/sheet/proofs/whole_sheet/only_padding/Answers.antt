use Rattle.std.proofs.Common.{sym, rules}
use Rattle.sheet.proofs.Padding.{too_much, padding_judged}
use Rattle.sheet.proofs.whole_sheet.only_padding.Goals as goal

pub returns-then-rest-ge8 : goal.returns-then-rest-ge8
returns-then-rest-ge8 c = too_much c.args.bytes.now c.args.at c.saturating_sub-rest.result c.saturating_sub-rest.ensures c.if-rest-ge8.true

pub returns : goal.returns
returns c =
    padding_judged c.args.bytes.now c.args.at c.saturating_sub-rest.result c.saturating_sub-rest.ensures _ c.read.result c.read.new.self.at c.is_ok_and.result c.if-rest-ge8.false
    (simp (sym c.new.ensures.bytes, sym c.new.ensures.at) c.read.ensures.field) (λ v told. search rules) c.is_ok_and.ensures
