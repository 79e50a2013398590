use Rattle.std.proofs.Common.{◌≡◌, ℕ, List, map, filter, IfOk, vec_items, sym, subst, rules}
use borrow.Author.Tests.{tests}
use Rattle.std.specs.List.{enumerate_from}
use Rattle.std.proofs.lemmas.Iterator.{YieldsList-from_slice, YieldsList-from_map, items_from_collect}
use Rattle.std.proofs.lemmas.Iterator.Consumers.{YieldsList-at, YieldsList-from_filter, YieldsList-from_enumerate}
use Rattle.std.proofs.lemmas.Result.{IfOk-weaker}
use Rattle.agreement.specs.Views.{Lists}
use Rattle.agreement.specs.declared.item.Item.{Item}
use Rattle.agreement.proofs.Listings.{listed_numbers, lists}
use Rattle.agreement.proofs.views.items_up_to.Goals as goal

pub returns : goal.returns
returns g c =
    let P = g.O.Order.meaning c.args.order.now in
    let xs = c.args.items.now in
    let numbers : IfOk c.collect.result (λ v. vec_items v ≡ map (λ (p : ℕ × Item). p.0) (filter (λ (p : ℕ × Item). P.flow p.1.label c.args.highest) (enumerate_from 0 xs))) =
    items_from_collect _ c.collect.ensures.ran
    (YieldsList-from_map _ (λ (p : ℕ × Item). p.0)
    (YieldsList-at c.map.ensures.source
    (YieldsList-from_filter _ (λ (p : ℕ × Item). P.flow p.1.label c.args.highest)
    (YieldsList-at c.filter.ensures.source (YieldsList-from_enumerate (YieldsList-from_slice xs (cc)) (cc)))
    c.filter.ensures.closure (λ x b q k. search (rules, tests))))
    c.map.ensures.closure (λ x r q k. search rules))
    in
    let all = subst (λ (is : List ℕ). IfOk c.collect.result (λ v. vec_items v ≡ is)) (listed_numbers P c.args.highest 0 xs) numbers in
    record {
      items = all;
      exact = IfOk-weaker c.collect.result _ _ (λ v e. subst (λ (is : List ℕ). Lists P c.args.highest xs is) (sym e) (lists P c.args.highest xs)) all;
    }
