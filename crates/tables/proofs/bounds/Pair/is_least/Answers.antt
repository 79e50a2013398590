use Rattle.std.proofs.Common.{◌≡◌, ℕ, Bool, true, not, ◌||◌, rules}
use borrow.Author.Tests.{tests}
use Rattle.std.proofs.lemmas.Bool.Decides.{same_from_decides}
use Rattle.refusal.proofs.Deciding.{decides_self}
use Rattle.refusal.proofs.Ranges.{decides_from_all}
use Rattle.tables.specs.Bounded.{upper, least_in}
use Rattle.tables.specs.Searches.{decides_all}
use Rattle.tables.proofs.bounds.Pair.is_least.Goals as goal

pub returns : goal.returns
returns g c =
    let pair = c.args.self.now in
    let P = g.O.Order.meaning pair.order in
    let under : ℕ → Bool = λ d. not (upper P.flow pair.a pair.b d) || P.flow c.args.label d in
    same_from_decides c.all.result (least_in P pair.a pair.b c.args.label)
    (decides_from_all under P.count c.all.result c.all.ensures.ran (cc) (λ x b q k. search (rules, tests)))
    (decides_all under (λ d. under d ≡ true) (λ d. decides_self (under d)) P.count)
