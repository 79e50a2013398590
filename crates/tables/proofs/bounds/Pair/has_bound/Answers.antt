use Rattle.std.proofs.Common.{◌≡◌, ℕ, Bool, false, [], ◌∷◌, Some, None, Option, sym, ◌∙◌, rules}
use borrow.Author.Tests.{tests}
use Rattle.std.specs.Option.{MatchOption}
use Rattle.order.specs.Orders.{PartialOrder}
use Rattle.tables.specs.Bounded.{least_in, bounded_in, Candidate}
use Rattle.tables.specs.Suprema.{bounded_above, bounded_below, candidate_none, candidate_some}
use Rattle.tables.proofs.bounds.Pair.has_bound.Goals as goal
use Rattle.tables.proofs.bounds.Pair.has_bound.Goals.{then-flows-via-then-flows, then-flows-via-else-flows+then-flows-2}

-- what is answered of the label that a pass found, if it found one
answered : (P : PartialOrder) (a b : ℕ) (found : Option ℕ) (r : Bool) {Q : ℕ → Type 0} → Candidate P (a ∷ b ∷ []) found → MatchOption found (r ≡ false) Q → ((x : ℕ) → Q x → r ≡ least_in P a b x) → r ≡ bounded_in P a b
answered P a b None r p e least = e ∙ candidate_none P a b p
answered P a b (Some x) r p q least = least x q ∙ candidate_some P a b x p

pub returns-then-flows : goal.returns-then-flows
returns-then-flows g c =
    let pair = c.args.self.now in
    let P = g.O.Order.meaning pair.order in
    elim c.then-flows.branch [
      | then-flows-via-then-flows w ↦ bounded_above P pair.a pair.b (sym c.flows.ensures ∙ w.if-flows.true)
      | then-flows-via-else-flows+then-flows-2 w ↦ bounded_below P pair.a pair.b (sym w.flows-else-flows.ensures ∙ w.if-flows-2.true)
    ]

pub returns : goal.returns
returns g c =
    let pair = c.args.self.now in
    answered (g.O.Order.meaning pair.order) pair.a pair.b c.candidate.result c.is_some_and.result c.candidate.ensures c.is_some_and.ensures (λ x q. search (rules, tests))
