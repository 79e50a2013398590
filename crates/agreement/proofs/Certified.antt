-- Certification accepts exactly where the agreement holds, and else names the first broken case. Assumes nothing.
use Rattle.std.proofs.Common.{◌≡◌, ℕ, ◌<◌, ◌≤◌, Bool, true, false, cond, not, ◌||◌, eqb, ltb, leb, ◌⊎◌, List, [], ◌∷◌, length, get_or, drop, is_ok, IfErr, Ok, Err, Decides, ◌≢◌, sym, refl, ap, ◌∙◌, subst}
use Rattle.std.proofs.lemmas.Bool.{eqb-true, eqb-false, eq-eqb}
use Rattle.std.proofs.lemmas.Bool.Decides.{Decides-at, Decides-like, Decides-and, Decides-eqb, Decides-ltb}
use Rattle.refusal.specs.Judging.{Judgement, check, each_from, under}
use Rattle.refusal.specs.Sides.{other}
use Rattle.refusal.specs.declared.Side.{Side}
use Rattle.refusal.specs.declared.Side.TheVariants.{Near, Far}
use Rattle.refusal.proofs.Deciding.{decides_leb, decides_self, decides_implied}
use Rattle.refusal.proofs.Fitting.{Fits, never, fits_as, check_fits, then_fits, below_fits, decides_fits}
use Rattle.order.specs.Orders.{PartialOrder}
use Rattle.agreement.specs.Maps.{at, is_settled}
use Rattle.agreement.specs.Rules.{total_judged, monotone_judged, rising_judged, stable_judged, items_judged, keeps, rises, stays, lawful_item, no_item}
use Rattle.agreement.specs.Connection.{Total, Monotone, Rising, Stable, Settled, Lawful, LawfulItems}
use Rattle.agreement.specs.Agreements.{Joint}
use Rattle.agreement.specs.Certified.{rule_judged, rules, all_judged, certified, on, Keeps, Breaks, FirstBroken, Smallest, SmallestPair, Holds}
use Rattle.agreement.specs.declared.item.Item.{Item}
use Rattle.agreement.specs.declared.fault.Broken.{Broken}
use Rattle.agreement.specs.declared.fault.Broken.TheVariants.{Length, Entry, NotMonotone, Falls, Drifts, TooMany, Unlawful}
use Rattle.agreement.specs.declared.fault.Fault.{Fault}
use Rattle.agreement.specs.declared.rule.Rule.{Rule}
use Rattle.agreement.specs.declared.rule.Rule.TheVariants.{Totality, Monotony, Rise, Stability, Lawfulness}
use Rattle.agreement.proofs.Connections.{keeps_total, rises_total, stays_total, settled_total, settled_parts}

-- tests at the numbers below n, each of which decides a fact
tested_fits : (n : ℕ) (test : ℕ → Bool) (P : ℕ → Type 0) (fault : ℕ → Broken) → ((a : ℕ) → a < n → Decides (test a) (P a)) →
    Fits (each_from (λ a. check (test a) (fault a)) 0 n) ((a : ℕ) → a < n → P a) (Smallest n P fault)
tested_fits n test P fault decides =
    fits_as (λ k. k) (λ k. k) (λ x w. (w.0, w.1, w.2.0, sym w.2.1, w.3)) (below_fits n (λ a h. check_fits (test a) (fault a) (decides a h)))

-- tests at each two numbers below n
pairs_fit : (n : ℕ) (test : ℕ → ℕ → Bool) (P : ℕ → ℕ → Type 0) (fault : ℕ → ℕ → Broken) → ((a b : ℕ) → a < n → b < n → Decides (test a b) (P a b)) →
    Fits (each_from (λ a. each_from (λ b. check (test a b) (fault a b)) 0 n) 0 n) ((a b : ℕ) → a < n → b < n → P a b) (SmallestPair n P fault)
pairs_fit n test P fault decides =
    fits_as (λ k a b h l. k a h b l) (λ k a h b l. k a b h l)
    (λ x w. let v = w.2 in (w.0, v.0, w.1, v.1, v.2, v.3, (λ c d h l. w.3 c h d l), v.4))
    (below_fits n (λ a h. tested_fits n (test a) (P a) (fault a) (λ b l. decides a b h l)))

-- a fault is told its side
under_fits : (s : Side) {r : Judgement Broken} {K : Type 0} {B : Broken → Type 0} → Fits r K B → Fits (under (on s) r) K (λ f. (f.side ≡ s) × B f.broken)
under_fits s {r = Ok u} f = record { kept = λ _. f.kept refl; accepts = λ _. refl; broken = λ x e. absurd (never e) }
under_fits s {r = Err b} {B = B} f = record {
  kept = λ e. absurd (never (sym e));
  accepts = λ k. absurd (never (sym (f.accepts k)));
  broken = λ x e. let same : on s b ≡ x = cc in (ap (λ (y : Fault). y.side) (sym same), subst (λ (y : Fault). B y.broken) same (f.broken b refl));
}

module _ (P Q : PartialOrder) (m w : List ℕ) where
  total_fits : Fits (total_judged P Q m) (Total P Q m) (λ b. (((length m ≡ P.count) → ⊥) × (b ≡ Length)) ⊎ ((length m ≡ P.count) × Smallest P.count (λ a. at m a < Q.count) (λ a. Entry a (at m a)) b))
  total_fits =
      fits_as (λ k. record { long = k.0; known = k.1 }) (λ t. (t.long, t.known)) (λ _ b. b)
      (then_fits (check_fits (eqb (length m) P.count) Length (Decides-eqb (length m) P.count))
      (λ long. tested_fits P.count (λ a. ltb (at m a) Q.count) (λ a. at m a < Q.count) (λ a. Entry a (at m a)) (λ a h. Decides-ltb (at m a) Q.count)))

  module _ (t : Total P Q m) (u : Total Q P w) where
    monotone_fits : Fits (monotone_judged P Q m) (Monotone P Q m) (SmallestPair P.count (λ a b. P.flow a b ≡ true → Q.flow (at m a) (at m b) ≡ true) NotMonotone)
    monotone_fits =
        fits_as (λ k a b f. k a b (P.known a b f).0 (P.known a b f).1 f) (λ k a b h l. k a b) (λ _ b. b)
        (pairs_fit P.count (keeps P Q m) (λ a b. P.flow a b ≡ true → Q.flow (at m a) (at m b) ≡ true) NotMonotone
        (λ a b h k. Decides-at (keeps P Q m a b) (not (P.flow a b) || Q.flow (at m a) (at m b)) (keeps_total P Q m w t u a b h k)
        (decides_implied (P.flow a b) (Q.flow (at m a) (at m b)) (decides_self (P.flow a b)) (decides_self (Q.flow (at m a) (at m b))))))

    rising_fits : Fits (rising_judged P Q m w) (Rising P m w) (Smallest P.count (λ a. P.flow a (at w (at m a)) ≡ true) Falls)
    rising_fits =
        tested_fits P.count (rises P Q m w) (λ a. P.flow a (at w (at m a)) ≡ true) Falls
        (λ a h. Decides-at (rises P Q m w a) (P.flow a (at w (at m a))) (rises_total P Q m w t u a h) (decides_self (P.flow a (at w (at m a)))))

    stable_fits : Fits (stable_judged P Q m w) (Stable P m w) (Smallest P.count (λ a. at m (at w (at m a)) ≡ at m a) Drifts)
    stable_fits =
        tested_fits P.count (stays P Q m w) (λ a. at m (at w (at m a)) ≡ at m a) Drifts
        (λ a h. Decides-at (stays P Q m w a) (eqb (at m (at w (at m a))) (at m a)) (stays_total P Q m w t u a h) (Decides-eqb (at m (at w (at m a))) (at m a)))

    decides_lawful : (x : Item) → Decides (lawful_item P Q m w x) (Lawful P m w x)
    decides_lawful x =
        Decides-like (lawful_item P Q m w x) (λ k. record { role = k.0; label = k.1.0; settled = k.1.1 }) (λ l. (l.role, (l.label, l.settled)))
        (Decides-and (leb x.role 2) (label_test (eqb x.role 0)) (decides_leb x.role 2) (decides_label (eqb x.role 0) refl))
      where
        label_test : Bool → Bool
        label_test b = cond b (ltb x.label P.count) (is_settled P Q m w x.label)

        decides_label : (b : Bool) → eqb x.role 0 ≡ b → Decides (label_test b) ((x.label < P.count) × ((x.role ≢ 0) → Settled m w x.label))
        decides_label true e =
            Decides-like (ltb x.label P.count) (λ h. (h, λ other_role. absurd (other_role (eqb-true x.role 0 e)))) (λ k. k.0) (Decides-ltb x.label P.count)
        decides_label false e = (
          λ h. let s = settled_parts P Q m w x.label h in (s.0, λ _. s.1),
          λ k. settled_total P Q m w t u x.label k.0 ∙ eq-eqb (at w (at m x.label)) x.label (k.1 (eqb-false x.role 0 e)),
        )

    items_fits : (xs : List Item) → Fits (items_judged P Q m w xs) (LawfulItems P m w xs) (λ b. ((length xs ≤ 128 → ⊥) × (b ≡ TooMany)) ⊎ ((length xs ≤ 128) × Smallest (length xs) (λ i. Lawful P m w (get_or xs i no_item)) (λ i. Unlawful i (get_or xs i no_item).label) b))
    items_fits xs =
        fits_as (λ k. record { few = k.0; each = k.1 }) (λ l. (l.few, l.each)) (λ _ b. b)
        (then_fits (check_fits (leb (length xs) 128) TooMany (decides_leb (length xs) 128))
        (λ few. tested_fits (length xs) (λ i. lawful_item P Q m w (get_or xs i no_item)) (λ i. Lawful P m w (get_or xs i no_item)) (λ i. Unlawful i (get_or xs i no_item).label) (λ i h. decides_lawful (get_or xs i no_item))))

abbrev AllKept : Joint → List (Rule × Side) → Type 0
AllKept J [] = Unit {0}
AllKept J (r ∷ rs) = Keeps J r.0 r.1 × AllKept J rs

-- the rules after those on totality
abbrev later : List (Rule × Side)
later = drop 2 rules

module _ (J : Joint) where
  totality_fits : (s : Side) → Fits (rule_judged J Totality s) (Keeps J Totality s) (Breaks J Totality s)
  totality_fits s = total_fits (J.order s) (J.order (other s)) (J.map s) (J.map (other s))

  -- the other rules are judged where both maps are total
  module _ (near : Keeps J Totality Near) (far : Keeps J Totality Far) where
    own : (s : Side) → Keeps J Totality s
    own Near = near
    own Far = far

    across : (s : Side) → Total (J.order (other s)) (J.order s) (J.map (other s))
    across Near = far
    across Far = near

    rule_fits : (r : Rule) (s : Side) → Fits (rule_judged J r s) (Keeps J r s) (Breaks J r s)
    rule_fits Totality s = totality_fits s
    rule_fits Monotony s = monotone_fits (J.order s) (J.order (other s)) (J.map s) (J.map (other s)) (own s) (across s)
    rule_fits Rise s = rising_fits (J.order s) (J.order (other s)) (J.map s) (J.map (other s)) (own s) (across s)
    rule_fits Stability s = stable_fits (J.order s) (J.order (other s)) (J.map s) (J.map (other s)) (own s) (across s)
    rule_fits Lawfulness s = items_fits (J.order s) (J.order (other s)) (J.map s) (J.map (other s)) (own s) (across s) (J.items s)

    rules_fit : (rs : List (Rule × Side)) → Fits (all_judged J rs) (AllKept J rs) (FirstBroken J rs)
    rules_fit [] = record { kept = λ _. tt; accepts = λ _. refl; broken = λ f e. absurd (never e) }
    rules_fit (r ∷ rs) = then_fits (under_fits r.1 (rule_fits r.0 r.1)) (λ _. rules_fit rs)

  all_fit : Fits (certified J) (AllKept J rules) (FirstBroken J rules)
  all_fit =
      then_fits (under_fits Near (totality_fits Near)) (λ near.
      then_fits (under_fits Far (totality_fits Far)) (λ far. rules_fit near far later))

  -- accepted exactly where the agreement holds, and a refusal names the first broken case
  certified_fits : Fits (certified J) (Holds J) (FirstBroken J rules)
  certified_fits = fits_as holds kept (λ _ b. b) all_fit
    where
      holds : AllKept J rules → Holds J
      holds (out_total, (back_total, (out_monotone, (back_monotone, (lc1, (lc2, (lc3, (lc4, (near_items, (far_items, u)))))))))) = record {
        connection = record {
          out_total = out_total;
          back_total = back_total;
          out_monotone = out_monotone;
          back_monotone = back_monotone;
          lc1 = lc1;
          lc2 = lc2;
          lc3 = lc3;
          lc4 = lc4;
        };
        near_items = near_items;
        far_items = far_items;
      }

      kept : Holds J → AllKept J rules
      kept h =
          let c = h.connection in
          (c.out_total, (c.back_total, (c.out_monotone, (c.back_monotone, (c.lc1, (c.lc2, (c.lc3, (c.lc4, (h.near_items, (h.far_items, tt))))))))))

  pub exact : (r : Judgement Fault) → r ≡ certified J → Decides (is_ok r) (Holds J)
  exact r e = decides_fits r e certified_fits

  pub first : (r : Judgement Fault) → r ≡ certified J → IfErr r (FirstBroken J rules)
  first (Ok u) e = tt
  first (Err f) e = certified_fits.broken f (sym e)
