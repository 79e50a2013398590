-- The list of the items up to a label has exactly those items, in order. Assumes nothing.
use Rattle.std.proofs.Common.{◌≡◌, ℕ, zero, suc, ◌+◌, ◌<◌, Bool, true, false, cond, List, [], ◌∷◌, length, map, filter, get_or, sym, refl, ap, ◌∙◌, subst, add-one, arith}
use Rattle.std.specs.List.{enumerate_from}
use Rattle.std.proofs.lemmas.Bool.{both_ways}
use Rattle.order.specs.Orders.{PartialOrder}
use Rattle.agreement.specs.Rules.{no_item}
use Rattle.agreement.specs.Views.{listed, Lists}
use Rattle.agreement.specs.declared.item.Item.{Item}

module _ (P : PartialOrder) (highest : ℕ) where
  abbrev up : Item → Bool
  up x = P.flow x.label highest

  -- the items of xs, counted from k
  record From (k : ℕ) (xs : List Item) (is : List ℕ) : Type 0 where
    sound : (j : ℕ) → j < length is → (i : ℕ) × (i < length xs) × (get_or is j 0 ≡ k + i) × (up (get_or xs i no_item) ≡ true)
    complete : (i : ℕ) → i < length xs → up (get_or xs i no_item) ≡ true → (j : ℕ) × (j < length is) × (get_or is j 0 ≡ k + i)
    ascending : (j : ℕ) → suc j < length is → get_or is j 0 < get_or is (suc j) 0

  from_none : (k : ℕ) → From k [] []
  from_none k = record {
    sound = λ j h. absurd (omega arith);
    complete = λ i h. absurd (omega arith);
    ascending = λ j h. absurd (omega arith);
  }

  from_skip : (k : ℕ) (x : Item) (xs : List Item) (is : List ℕ) → up x ≡ false → From (suc k) xs is → From k (x ∷ xs) is
  from_skip k x xs is no_flow f = record {
    sound = λ j h. let w = f.sound j h in (suc w.0, omega (arith, w.1), omega (arith, w.2), w.3);
    complete = at;
    ascending = f.ascending;
  }
    where
      at : (i : ℕ) → i < length (x ∷ xs) → up (get_or (x ∷ xs) i no_item) ≡ true → (j : ℕ) × (j < length is) × (get_or is j 0 ≡ k + i)
      at zero h e = absurd (both_ways (up x) no_flow e)
      at (suc i) h e = let w = f.complete i (omega arith) e in (w.0, w.1, omega (arith, w.2))

  from_take : (k : ℕ) (x : Item) (xs : List Item) (is : List ℕ) → up x ≡ true → From (suc k) xs is → From k (x ∷ xs) (k ∷ is)
  from_take k x xs is flow f = record { sound = sound_at; complete = at; ascending = rising }
    where
      sound_at : (j : ℕ) → j < length (k ∷ is) → (i : ℕ) × (i < length (x ∷ xs)) × (get_or (k ∷ is) j 0 ≡ k + i) × (up (get_or (x ∷ xs) i no_item) ≡ true)
      sound_at zero h = (0, omega arith, omega arith, flow)
      sound_at (suc j) h = let w = f.sound j (omega arith) in (suc w.0, omega (arith, w.1), omega (arith, w.2), w.3)

      at : (i : ℕ) → i < length (x ∷ xs) → up (get_or (x ∷ xs) i no_item) ≡ true → (j : ℕ) × (j < length (k ∷ is)) × (get_or (k ∷ is) j 0 ≡ k + i)
      at zero h e = (0, omega arith, omega arith)
      at (suc i) h e = let w = f.complete i (omega arith) e in (suc w.0, omega (arith, w.1), omega (arith, w.2))

      rising : (j : ℕ) → suc j < length (k ∷ is) → get_or (k ∷ is) j 0 < get_or (k ∷ is) (suc j) 0
      rising zero h = let w = f.sound 0 (omega arith) in omega (arith, w.2)
      rising (suc j) h = f.ascending j (omega arith)

  listed_from : (xs : List Item) (k : ℕ) → From k xs (listed P highest k xs)
  listed_from [] k = from_none k
  listed_from (x ∷ xs) k = go (up x) refl (listed_from xs (suc k))
    where
      go : (b : Bool) → up x ≡ b → From (suc k) xs (listed P highest (suc k) xs) → From k (x ∷ xs) (listed P highest k (x ∷ xs))
      go true e f = subst (λ (t : Bool). From k (x ∷ xs) (cond t (k ∷ listed P highest (suc k) xs) (listed P highest (suc k) xs))) (sym e) (from_take k x xs (listed P highest (suc k) xs) e f)
      go false e f = subst (λ (t : Bool). From k (x ∷ xs) (cond t (k ∷ listed P highest (suc k) xs) (listed P highest (suc k) xs))) (sym e) (from_skip k x xs (listed P highest (suc k) xs) e f)

  pub lists : (xs : List Item) → Lists P highest xs (listed P highest 0 xs)
  lists xs =
      let f = listed_from xs 0 in
      record {
        sound = λ j h. let w = f.sound j h in let e : w.0 ≡ get_or (listed P highest 0 xs) j 0 = omega (arith, w.2) in
            (omega (arith, w.1), subst (λ (i : ℕ). up (get_or xs i no_item) ≡ true) e w.3);
        complete = λ i h e. let w = f.complete i h e in (w.0, w.1, omega (arith, w.2));
        ascending = f.ascending;
      }

  -- the numbers of the items that the test leaves
  numbers : (b : Bool) (k : ℕ) (x : Item) (rest : List (ℕ × Item)) (is : List ℕ) → map (λ (p : ℕ × Item). p.0) rest ≡ is → map (λ (p : ℕ × Item). p.0) (cond b ((k, x) ∷ rest) rest) ≡ cond b (k ∷ is) is
  numbers true k x rest is e = ap (λ (l : List ℕ). k ∷ l) e
  numbers false k x rest is e = e

  pub listed_numbers : (k : ℕ) (xs : List Item) → map (λ (p : ℕ × Item). p.0) (filter (λ (p : ℕ × Item). up p.1) (enumerate_from k xs)) ≡ listed P highest k xs
  listed_numbers k [] = refl
  listed_numbers k (x ∷ xs) =
      numbers (up x) k x (filter (λ (p : ℕ × Item). up p.1) (enumerate_from (k + 1) xs)) (listed P highest (suc k) xs)
      (listed_numbers (k + 1) xs ∙ ap (λ (n : ℕ). listed P highest n xs) (add-one k))
