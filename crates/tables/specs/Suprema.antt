-- Whether a label is better than the best upper one so far, and whether two labels have a least upper one. Assumes nothing.
use Rattle.std.specs.Prelude.{◌≡◌, ℕ, ◌<◌, Bool, true, false, not, ◌&&◌, ◌||◌, [], ◌∷◌, Some, None, Decides, Option, refl}
use Rattle.std.proofs.Common.{sym, subst, ◌∙◌, arith}
use Rattle.std.proofs.lemmas.Bool.{and_parts, and_from}
use Rattle.std.proofs.lemmas.Bool.Decides.{Decides-like, Decides-and, same_from_decides}
use Rattle.order.specs.Orders.{PartialOrder}
use Rattle.order.specs.Bounds.{Upper, Supremum, toward}
use Rattle.order.specs.declared.bound.Bound.{Bound}
use Rattle.order.specs.declared.bound.Bound.TheVariants.{Join, Meet}
use Rattle.order.proofs.Suprema.{Better}
use Rattle.refusal.specs.Judging.{check}
use Rattle.refusal.proofs.Deciding.{decides_self, decides_implied, decides_never}
use Rattle.refusal.proofs.Judging.{check_at}
use Rattle.tables.specs.Bounded.{upper, least_in, bounded, bounded_in, bounded_at, flow_toward, lacking, better, Candidate}
use Rattle.tables.specs.Searches.{decides_all, decides_any}

module _ (P : PartialOrder) (a b : ℕ) where
  pub decides_upper : (c : ℕ) → Decides (upper P.flow a b c) (Upper P (a ∷ b ∷ []) c)
  decides_upper c =
      (λ e. let both = and_parts (P.flow a c) (P.flow b c) e in (both.0, (both.1, tt)), λ u. and_from (P.flow a c) (P.flow b c) u.0 u.1.0)

  pub decides_better : (k : ℕ) (best : Option ℕ) → Decides (better P.flow a b k best) (Better P (a ∷ b ∷ []) k best)
  decides_better k None = Decides-like (upper P.flow a b k) (λ u. (u, tt)) (λ w. w.0) (decides_upper k)
  decides_better k (Some m) = Decides-and (upper P.flow a b k) (P.flow k m) (decides_upper k) (decides_self (P.flow k m))

  abbrev pub Least : ℕ → Type 0
  Least c = (d : ℕ) → d < P.count → Upper P (a ∷ b ∷ []) d → P.flow c d ≡ true

  pub decides_least : (c : ℕ) → Decides (least_in P a b c) (Least c)
  decides_least c =
      decides_all (λ d. not (upper P.flow a b d) || P.flow c d) (λ d. Upper P (a ∷ b ∷ []) d → P.flow c d ≡ true)
      (λ d. decides_implied (upper P.flow a b d) (P.flow c d) (decides_upper d) (decides_self (P.flow c d))) P.count

  pub decides_bounded : Decides (bounded_in P a b) ((c : ℕ) × Supremum P (a ∷ b ∷ []) c)
  unfolding bounded
  decides_bounded =
      Decides-like (bounded_in P a b)
      (λ w. (w.0, record { known = w.1; upper = w.2.0; least = w.2.1 }))
      (λ w. (w.0, w.1.known, (w.1.upper, w.1.least)))
      (decides_any (λ c. upper P.flow a b c && least_in P a b c) (λ c. Upper P (a ∷ b ∷ []) c × Least c)
      (λ c. Decides-and (upper P.flow a b c) (least_in P a b c) (decides_upper c) (decides_least c)) P.count)

  -- of two labels of which one flows to the other, that is the bound
  pub bounded_above : P.flow a b ≡ true → true ≡ bounded_in P a b
  bounded_above f = sym (decides_bounded.1 (b, record { known = (P.known a b f).1; upper = (f, (P.reflexive b (P.known a b f).1, tt)); least = λ d k u. u.1.0 }))

  pub bounded_below : P.flow b a ≡ true → true ≡ bounded_in P a b
  bounded_below f = sym (decides_bounded.1 (a, record { known = (P.known b a f).1; upper = (P.reflexive a (P.known b a f).1, (f, tt)); least = λ d k u. u.0 }))

  -- a pass that found nothing
  pub candidate_none : Candidate P (a ∷ b ∷ []) None → false ≡ bounded_in P a b
  candidate_none p =
      decides_never (bounded_in P a b) decides_bounded (λ w. let never = p.first w.0 w.1 in let z : ◌≡◌ {A = ℕ} 0 1 = cc in omega arith)

  -- a pass that found a label, which is the least upper one or not
  pub candidate_some : (c : ℕ) → Candidate P (a ∷ b ∷ []) (Some c) → least_in P a b c ≡ bounded_in P a b
  candidate_some c p =
      same_from_decides (least_in P a b c) (bounded_in P a b)
      (Decides-like (least_in P a b c)
      (λ l. (c, record { known = p.above.0; upper = p.above.1; least = l }))
      (λ w. let found = p.first w.0 w.1 in let same : w.0 ≡ c = cc in subst Least same w.1.least)
      (decides_least c))
      decides_bounded

pub bounded_toward : (w : Bound) (Q : PartialOrder) (a b : ℕ) → bounded_in (toward w Q) a b ≡ bounded Q.count (flow_toward w Q.flow) a b
bounded_toward Join Q a b = refl
bounded_toward Meet Q a b = refl

-- what a pair is judged by
pub bound_judged : (w : Bound) (Q : PartialOrder) (a b : ℕ) (t : Bool) → t ≡ bounded_in (toward w Q) a b → check t (lacking w a b) ≡ bounded_at w Q.count Q.flow a b
bound_judged w Q a b t e = check_at (lacking w a b) (e ∙ bounded_toward w Q a b)
