-- Rows are accepted exactly where they are an order. Assumes nothing.
use Rattle.std.specs.Prelude.{◌≡◌, ℕ, ◌<◌, ◌≤◌, Bool, true, not, ◌&&◌, ◌||◌, ◌⊎◌, List, [], ◌∷◌, ◌++◌, length, nat_le, refl}
use Rattle.std.proofs.Common.{sym, ap, ◌∙◌, inl, inr, arith}
use Rattle.std.proofs.lemmas.Bool.{cases_order, and_from, le-leb}
use Rattle.std.proofs.lemmas.Bool.Decides.{Decides-not, Decides-and}
use Rattle.refusal.proofs.Deciding.{decides_leb, decides_self, decides_implied}
use Rattle.refusal.proofs.Fitting.{Fits, fits_as, check_fits, then_fits, below_fits}
use Rattle.refusal.proofs.Judging.{check_at, then_at}
use Rattle.order.specs.Search.{all_below}
use Rattle.tables.specs.Listed.{carries, laws_judged, order_judged, OrderRows}
use Rattle.tables.specs.Rows.{listed_flow, rows_flow, flow_known, IsOrder}
use Rattle.tables.specs.declared.fault.TableFault.TheVariants.{Rows, NotReflexive, NotAntisymmetric, NotTransitive}
use Rattle.tables.specs.Flows.{flow_more}
use Rattle.tables.specs.Searches.{decides_onward, ordered_pairs_fit}

module _ (n : ℕ) (rows : List ℕ) where
  abbrev flow : ℕ → ℕ → Bool
  flow = listed_flow n rows

  laws_fit : Fits (laws_judged n flow) (IsOrder n rows) (λ _. Unit {0})
  laws_fit =
      fits_as
      (λ k. record {
        reflexive = k.0;
        antisymmetric = λ a b h l. same k.1.0 a b h l (cases_order a b);
        transitive = λ a b c h l. let ab = flow_known n rows a b h in k.1.1 a ab.0 b ab.1 h c (flow_known n rows b c l).1 l;
      })
      (λ o. (o.reflexive, ((λ a b h l both. let equal = o.antisymmetric a b both.0 both.1 in omega arith), λ a h b l f c m. o.transitive a b c f)))
      (λ _ _. tt)
      (then_fits (below_fits n (λ a h. check_fits (flow a a) (NotReflexive a) (decides_self (flow a a))))
      (λ _. then_fits (ordered_pairs_fit n (λ a b. check_fits (not (flow a b && flow b a)) (NotAntisymmetric a b) (Decides-not (flow a b && flow b a) (Decides-and (flow a b) (flow b a) (decides_self (flow a b)) (decides_self (flow b a))))))
      (λ _. below_fits n (λ a h. below_fits n (λ b k. check_fits (carries n flow a b) (NotTransitive a b)
      (decides_implied (flow a b) (all_below (λ c. not (flow b c) || flow a c) n) (decides_self (flow a b)) (decides_onward n flow a b)))))))
    where
      same : ((a b : ℕ) → a < b → b < n → (flow a b ≡ true) × (flow b a ≡ true) → ⊥) → (a b : ℕ) → flow a b ≡ true → flow b a ≡ true → (a ≡ b) ⊎ ((a < b) ⊎ (b < a)) → a ≡ b
      same apart a b h l (inl q) = q
      same apart a b h l (inr (inl q)) = absurd (apart a b q (flow_known n rows a b h).1 (h, l))
      same apart a b h l (inr (inr q)) = absurd (apart b a q (flow_known n rows a b h).0 (l, h))

pub order_fits : (rows : List ℕ) → Fits (order_judged rows) (OrderRows rows) (λ _. Unit {0})
order_fits rows =
    let n = length rows in
    fits_as (λ k. record { some = k.0.0; few = k.0.1; ordered = k.1 }) (λ o. ((o.some, o.few), o.ordered)) (λ _ _. tt)
    (then_fits (check_fits (nat_le 1 n && nat_le n 32) Rows (Decides-and (nat_le 1 n) (nat_le n 32) (decides_leb 1 n) (decides_leb n 32))) (λ _. laws_fit n rows))

-- 1 to 32 rows are judged by the laws
pub order_in_range : (rows : List ℕ) → 1 ≤ length rows → length rows ≤ 32 → laws_judged (length rows) (rows_flow rows) ≡ order_judged rows
order_in_range rows some few =
    then_at (laws_judged (length rows) (rows_flow rows))
    (check_at Rows (sym (and_from (nat_le 1 (length rows)) (nat_le (length rows) 32) (le-leb 1 (length rows) some) (le-leb (length rows) 32 few))))

-- rows behind those of the labels change nothing
pub order_more : (n : ℕ) (rows more : List ℕ) → n ≤ length rows → IsOrder n rows → IsOrder n (rows ++ more)
order_more n rows more h o = (laws_fit n (rows ++ more)).kept (ap (laws_judged n) (flow_more n rows more h) ∙ (laws_fit n rows).accepts o)

-- the row of the one label that flows to itself
pub one_ordered : OrderRows (1 ∷ [])
unfolding listed_flow
one_ordered = (order_fits (1 ∷ [])).kept refl
