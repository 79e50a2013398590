-- The search for a least upper label finds the one that there is. Assumes nothing.
use Rattle.std.proofs.Common.{◌≡◌, ℕ, zero, suc, ◌<◌, ◌≤◌, Bool, true, false, cond, not, ◌||◌, ltb, List, [], ◌∷◌, is_some, Some, None, Decides, Option, sym, refl, ap, ◌∙◌, ⊎_elim, eq-or-lt_of_le, arith}
use Rattle.std.proofs.Math.Bool.{Bool-set}
use Rattle.std.proofs.Math.Logic.{∥∥₁_elim, ∥∥₁_map}
use Rattle.std.proofs.lemmas.Bool.Decides.{Decides-below_and}
use Rattle.std.proofs.lemmas.Bool.{ltb-true, lt-ltb, and_parts, and_from, both_ways, cond-true, cond-false, cases_Bool, or_cases, or_left, or_right, not-true, not_from_false}
use Rattle.order.specs.Orders.{PartialOrder, dual}
use Rattle.order.specs.Bounds.{Known, Upper, Supremum, Joined, Joins}
use Rattle.order.proofs.Suprema.{upper_flow, bottom}
use Rattle.order.specs.Search.{all_known, is_upper, all_below, some_below, is_supremum, supremum_of}

known_true : (P : PartialOrder) (xs : List ℕ) → Known P xs → all_known P xs ≡ true
known_true P [] all = refl
known_true P (x ∷ xs) all = and_from (ltb x P.count) (all_known P xs) (lt-ltb x P.count all.0) (known_true P xs all.1)

pub true_known : (P : PartialOrder) (xs : List ℕ) → all_known P xs ≡ true → Known P xs
true_known P [] e = tt
true_known P (x ∷ xs) e = let both = and_parts (ltb x P.count) (all_known P xs) e in (ltb-true x P.count both.0, true_known P xs both.1)

upper_true : (P : PartialOrder) (xs : List ℕ) (c : ℕ) → Upper P xs c → is_upper P xs c ≡ true
upper_true P [] c up = refl
upper_true P (x ∷ xs) c up = and_from (P.flow x c) (is_upper P xs c) up.0 (upper_true P xs c up.1)

true_upper : (P : PartialOrder) (xs : List ℕ) (c : ℕ) → is_upper P xs c ≡ true → Upper P xs c
true_upper P [] c e = tt
true_upper P (x ∷ xs) c e = let both = and_parts (P.flow x c) (is_upper P xs c) e in (both.0, true_upper P xs c both.1)

-- labels that flow somewhere are known
pub upper_known : (P : PartialOrder) (xs : List ℕ) (c : ℕ) → Upper P xs c → Known P xs
upper_known P [] c up = tt
upper_known P (x ∷ xs) c up = ((P.known x c up.0).0, upper_known P xs c up.1)

decides_all : (test : ℕ → Bool) (n : ℕ) → Decides (all_below test n) ((d : ℕ) → d < n → test d ≡ true)
decides_all test n = Decides-below_and test (λ d. test d ≡ true) (all_below test) (λ d. (λ e. e, λ e. e)) refl (λ _. refl) n

finds : (test : ℕ → Bool) (n c : ℕ) → c < n → test c ≡ true → (k : ℕ) × (some_below test n ≡ Some k) × (k < n) × (test k ≡ true)
finds test zero c h e = absurd (omega arith)
finds test (suc n) c h e = go (λ l. finds test n c l e) (test n) refl
  where
    go : (c < n → (k : ℕ) × (some_below test n ≡ Some k) × (k < n) × (test k ≡ true)) → (b : Bool) → test n ≡ b → (k : ℕ) × (cond b (Some n) (some_below test n) ≡ Some k) × (k < suc n) × (test k ≡ true)
    go below true t = (n, refl, omega arith, t)
    go below false t =
        let le : c ≤ n = omega arith in
        let later = ⊎_elim (λ q. absurd (both_ways (test n) t (ap test (sym q) ∙ e))) below (eq-or-lt_of_le le) in
        (later.0, later.1, omega (arith, later.2), later.3)

module _ (P : PartialOrder) (xs : List ℕ) where
  supremum_true : (c : ℕ) → Supremum P xs c → is_supremum P xs c ≡ true
  supremum_true c s =
      and_from (is_upper P xs c) (all_below (λ d. not (is_upper P xs d) || P.flow c d) P.count) (upper_true P xs c s.upper)
      ((decides_all (λ d. not (is_upper P xs d) || P.flow c d) P.count).1 (λ d h.
      ⊎_elim (λ up. or_right (not (is_upper P xs d)) (P.flow c d) (s.least d h (true_upper P xs d up)))
      (λ no_up. or_left (not (is_upper P xs d)) (P.flow c d) (not_from_false (is_upper P xs d) no_up)) (cases_Bool (is_upper P xs d))))

  true_supremum : (c : ℕ) → c < P.count → is_supremum P xs c ≡ true → Supremum P xs c
  true_supremum c h e =
      let both = and_parts (is_upper P xs c) (all_below (λ d. not (is_upper P xs d) || P.flow c d) P.count) e in
      record {
        known = h;
        upper = true_upper P xs c both.0;
        least = λ d l up.
            ⊎_elim (λ no_up. absurd (both_ways (is_upper P xs d) (not-true (is_upper P xs d) no_up) (upper_true P xs d up))) (λ f. f)
            (or_cases (not (is_upper P xs d)) (P.flow c d) ((decides_all (λ d. not (is_upper P xs d) || P.flow c d) P.count).0 both.1 d l));
      }

  -- what is found is the one that there is
  found : (c : ℕ) → Supremum P xs c → some_below (is_supremum P xs) P.count ≡ Some c
  found c s =
      let f = finds (is_supremum P xs) P.count c s.known (supremum_true c s) in
      let t = true_supremum f.0 f.2 f.3 in
      f.1 ∙ ap Some (P.antisymmetric f.0 c (t.least c s.known s.upper) (s.least f.0 f.2 t.upper))

  -- an answer that is a least upper label, or absent where a label is unknown, is what the search finds
  pub supremum_is : (r : Option ℕ) → Joined P xs r → r ≡ supremum_of P xs
  unfolding supremum_of
  supremum_is None unknown = sym (cond-false (all_known P xs) (some_below (is_supremum P xs) P.count) None (not_known (all_known P xs) refl))
    where
      not_known : (b : Bool) → all_known P xs ≡ b → all_known P xs ≡ false
      not_known true e = absurd (unknown (true_known P xs e))
      not_known false e = e
  supremum_is (Some c) s =
      sym (cond-true (all_known P xs) (some_below (is_supremum P xs) P.count) None (known_true P xs (upper_known P xs c s.upper)) ∙ found c s)

some_found : (test : ℕ → Bool) (n c : ℕ) → some_below test n ≡ Some c → (c < n) × (test c ≡ true)
some_found test zero c e = let z : ◌≡◌ {A = ℕ} 0 1 = cc in absurd (omega arith)
some_found test (suc n) c e = go (λ q. some_found test n c q) (test n) refl e
  where
    go : (some_below test n ≡ Some c → (c < n) × (test c ≡ true)) → (b : Bool) → test n ≡ b → cond b (Some n) (some_below test n) ≡ Some c → (c < suc n) × (test c ≡ true)
    go below true t q = let same : n ≡ c = cc in (omega arith, ap test (sym same) ∙ t)
    go below false t q = let b = below q in (omega (arith, b.0), b.1)

-- what the search finds is the least upper label
pub found_supremum : (P : PartialOrder) (xs : List ℕ) (c : ℕ) → supremum_of P xs ≡ Some c → Supremum P xs c
unfolding supremum_of
found_supremum P xs c e = go (all_known P xs) e
  where
    go : (b : Bool) → cond b (some_below (is_supremum P xs) P.count) None ≡ Some c → Supremum P xs c
    go true q = let f = some_found (is_supremum P xs) P.count c q in true_supremum P xs c f.0 f.1
    go false q = let z : ◌≡◌ {A = ℕ} 0 1 = cc in absurd (omega arith)

-- the least upper label of a list, from that of its rest
supremum_cons : (P : PartialOrder) (x : ℕ) (xs : List ℕ) (c e : ℕ) → Supremum P xs c → Supremum P (x ∷ c ∷ []) e → Supremum P (x ∷ xs) e
supremum_cons P x xs c e s t = record {
  known = t.known;
  upper = (t.upper.0, upper_flow P xs c e s.upper t.upper.1.0);
  least = λ d k u. t.least d k (u.0, (s.least d k u.1, tt));
}

-- every list of known labels of a lattice has a least upper label
exists : (P : PartialOrder) → Joins P → Joins (dual P) → (xs : List ℕ) → Known P xs → ∥ ((c : ℕ) × Supremum P xs c) ∥₁
exists P joins meets [] all = bottom P meets
exists P joins meets (x ∷ xs) all =
    ∥∥₁_elim (exists P joins meets xs all.1) squash₁
    (λ w. ∥∥₁_map (joins x w.0 all.0 w.1.known) (λ v. (v.0, supremum_cons P x xs w.0 v.0 w.1 v.1)))

-- the search finds it
pub finds_supremum : (P : PartialOrder) → Joins P → Joins (dual P) → (xs : List ℕ) → Known P xs → (c : ℕ) × (supremum_of P xs ≡ Some c)
finds_supremum P joins meets xs all =
    some (supremum_of P xs) (∥∥₁_elim (exists P joins meets xs all) (Bool-set (is_some (supremum_of P xs)) true) (λ w. ap is_some (sym (supremum_is P xs (Some w.0) w.1))))
  where
    some : (o : Option ℕ) → is_some o ≡ true → (c : ℕ) × (o ≡ Some c)
    some (Some c) e = (c, refl)
    some None e = absurd (both_ways false refl e)
