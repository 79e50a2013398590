use Rattle.sheet.proofs.Laws.{sheet_written, sheet_back}
use Rattle.sheet.proofs.Alone.{alone}
use Rattle.sheet.proofs.whole_sheet.read_sheet.Goals as goal

pub returns-clause-written : goal.returns-clause-written
returns-clause-written c = sheet_written c.args.bytes.now c.whole.result c.whole.ensures

pub returns-clause-back : goal.returns-clause-back
returns-clause-back c = sheet_back c.args.bytes.now c.whole.result c.whole.ensures

pub returns-clause-alone : goal.returns-clause-alone
returns-clause-alone c = alone c.args.bytes.now (λ i. (c.type_inv.bytes i).fits)
