-- Loops that read values in a row: what is left gives the whole. Assumes nothing.
use Rattle.std.proofs.Common.{◌≡◌, ℕ, suc, ◌+◌, ◌-◌, ◌<◌, ◌≤◌, List, [], ◌∷◌, ◌++◌, length, take, drop, min, set, replicate, Ok, Err, sym, refl, ap, ◌∙◌, subst, ap₂, add-one, arith}
use Rattle.std.proofs.lemmas.List.{append-nil, append_assoc, take_all, take_more_set, drop-replicate, length-replicate, length-take-le}
use Rattle.fixed.specs.Lists.{padded, filled}
use Rattle.format.specs.Formats.{Reading, followed, under, row_at}

-- what was read, after values that were read before
abbrev pub onto : {F A : Type 0} → List A → Reading F (List A) → Reading F (List A)
onto xs r = followed r (λ ys q. Ok (xs ++ ys, q))

-- only where reading ends
abbrev pub ends_at : {F A : Type 0} → Reading F A → Reading F (Unit {0})
ends_at r = followed r (λ a q. Ok (tt, q))

onto_cons : {F A : Type 0} (xs : List A) (a : A) (r : Reading F (List A)) → onto xs (followed r (λ ys q. Ok (a ∷ ys, q))) ≡ onto (xs ++ a ∷ []) r
onto_cons xs a (Ok x) = ap (λ l. Ok (l, x.1)) (sym (append_assoc xs (a ∷ []) x.0))
onto_cons xs a (Err e) = refl

ends_cons : {F A : Type 0} (a : A) (r : Reading F (List A)) → ends_at (followed r (λ ys q. Ok (a ∷ ys, q))) ≡ ends_at r
ends_cons a (Ok x) = refl
ends_cons a (Err e) = refl

onto_none : {F A : Type 0} (r : Reading F (List A)) → r ≡ onto [] r
onto_none (Ok x) = refl
onto_none (Err e) = refl

ends_err : {F A : Type 0} (r : Reading F A) (e : F) → ends_at r ≡ Err e → r ≡ Err e
ends_err (Ok x) e h = let z : ◌≡◌ {A = ℕ} 0 1 = cc in absurd (omega arith)
ends_err (Err x) e h = cc

module _ {E F A : Type 0} (wrap : ℕ → E → F) (one : ℕ → Reading E A) where
  -- the values from number i on, of n in all
  abbrev pub rest_at : ℕ → ℕ → ℕ → Reading F (List A)
  rest_at n i p = row_at wrap one i (n - i) p

  -- one value and the rest, a fault, or the end
  rest_more : (n i p : ℕ) (a : A) (q : ℕ) → i < n → under (wrap i) (one p) ≡ Ok (a, q) → rest_at n i p ≡ followed (rest_at n (i + 1) q) (λ ys r. Ok (a ∷ ys, r))
  rest_more n i p a q h e =
      let less : n - i ≡ suc (n - (i + 1)) = omega arith in
      ap (λ (m : ℕ). row_at wrap one i m p) less
      ∙ ap (λ (x : Reading F A). followed x (λ a q. followed (row_at wrap one (suc i) (n - (i + 1)) q) (λ ys r. Ok (a ∷ ys, r)))) e
      ∙ ap (λ (k : ℕ). followed (row_at wrap one k (n - (i + 1)) q) (λ ys r. Ok (a ∷ ys, r))) (sym (add-one i))

  rest_stop : (n i p : ℕ) (e : F) → i < n → under (wrap i) (one p) ≡ Err e → rest_at n i p ≡ Err e
  rest_stop n i p e h d =
      let less : n - i ≡ suc (n - (i + 1)) = omega arith in
      ap (λ (m : ℕ). row_at wrap one i m p) less
      ∙ ap (λ (x : Reading F A). followed x (λ a q. followed (row_at wrap one (suc i) (n - (i + 1)) q) (λ ys r. Ok (a ∷ ys, r)))) d

  rest_end : (n i p : ℕ) → n ≤ i → rest_at n i p ≡ Ok ([], p)
  rest_end n i p h = let none : n - i ≡ 0 = omega arith in ap (λ (m : ℕ). row_at wrap one i m p) none

  -- Of n values from bit start on, xs were read up to bit p, and those from number i on are left:
  -- the invariant of a loop that keeps the values, its start, its step and its two ends.
  abbrev pub Left : ℕ → ℕ → ℕ → ℕ → List A → Type 0
  Left n start i p xs = row_at wrap one 0 n start ≡ onto xs (rest_at n i p)

  pub left_start : (n start : ℕ) → Left n start 0 start []
  left_start n start = let all : n ≡ n - 0 = omega arith in ap (λ (m : ℕ). row_at wrap one 0 m start) all ∙ onto_none (rest_at n 0 start)

  pub left_more : (n start i p : ℕ) (xs : List A) (a : A) (q : ℕ) → i < n → under (wrap i) (one p) ≡ Ok (a, q) → Left n start i p xs → Left n start (i + 1) q (xs ++ a ∷ [])
  left_more n start i p xs a q h e left = left ∙ ap (onto xs) (rest_more n i p a q h e) ∙ onto_cons xs a (rest_at n (i + 1) q)

  pub left_stop : (n start i p : ℕ) (xs : List A) (e : F) → i < n → under (wrap i) (one p) ≡ Err e → Left n start i p xs → row_at wrap one 0 n start ≡ Err e
  left_stop n start i p xs e h d left = left ∙ ap (onto xs) (rest_stop n i p e h d)

  pub left_end : (n start i p : ℕ) (xs : List A) → n ≤ i → Left n start i p xs → row_at wrap one 0 n start ≡ Ok (xs, p)
  left_end n start i p xs h left = left ∙ ap (onto xs) (rest_end n i p h) ∙ ap (λ (l : List A). Ok (l, p)) (append-nil xs)

  -- the step of a loop that stores the values in an array
  pub left_stored : (n start i p : ℕ) (xs : List A) (a : A) (q : ℕ) → i < n → i < length xs → under (wrap i) (one p) ≡ Ok (a, q) → Left n start i p (take i xs) → Left n start (i + 1) q (take (i + 1) (set xs i a))
  left_stored n start i p xs a q h room e left =
      subst (Left n start (i + 1) q) (sym (take_more_set xs i a room)) (left_more n start i p (take i xs) a q h e left)

  -- the end of a loop that stores the values in the front of a table of blanks
  pub stored : (size : ℕ) (blank : A) (count m start i p : ℕ) (xs : List A) → m ≡ min count size → length xs ≡ length (take m (replicate size blank)) → length (take m (replicate size blank)) ≤ i → Left (length (take m (replicate size blank))) start i p (take i xs) → followed (row_at wrap one 0 (min count size) start) (λ ys q. Ok (filled size blank ys, q)) ≡ Ok (record { count = m; places = xs ++ drop m (replicate size blank) }, p)
  unfolding padded
  stored size blank count m start i p xs least long h left =
      let front : length (take m (replicate size blank)) ≡ m = length-take-le m (replicate size blank) (omega (arith, length-replicate size blank)) in
      let all : take i xs ≡ xs = take_all i xs (omega arith) in
      let row : row_at wrap one 0 (min count size) start ≡ Ok (xs, p) =
      ap (λ (n : ℕ). row_at wrap one 0 n start) (sym (front ∙ least)) ∙ left_end (length (take m (replicate size blank))) start i p (take i xs) h left
      ∙ ap (λ (l : List A). Ok (l, p)) all in
      let back : replicate (size - length xs) blank ≡ drop m (replicate size blank) = ap (λ (n : ℕ). replicate (size - n) blank) (long ∙ front) ∙ sym (drop-replicate m size blank) in
      ap (λ (r : Reading F (List A)). followed r (λ ys q. Ok (filled size blank ys, q))) row
      ∙ ap₂ (λ (n : ℕ) (l : List A). Ok (record { count = n; places = xs ++ l }, p)) (long ∙ front) back

  -- the same of a loop that keeps no value: what is left ends where the whole ends
  abbrev pub Passing : ℕ → ℕ → ℕ → ℕ → Type 0
  Passing n start i p = ends_at (row_at wrap one 0 n start) ≡ ends_at (rest_at n i p)

  pub passing_start : (n start : ℕ) → Passing n start 0 start
  passing_start n start = let all : n ≡ n - 0 = omega arith in ap (λ (m : ℕ). ends_at (row_at wrap one 0 m start)) all

  pub passing_more : (n start i p : ℕ) (a : A) (q : ℕ) → i < n → under (wrap i) (one p) ≡ Ok (a, q) → Passing n start i p → Passing n start (i + 1) q
  passing_more n start i p a q h e left = left ∙ ap ends_at (rest_more n i p a q h e) ∙ ends_cons a (rest_at n (i + 1) q)

  pub passing_stop : (n start i p : ℕ) (e : F) → i < n → under (wrap i) (one p) ≡ Err e → Passing n start i p → row_at wrap one 0 n start ≡ Err e
  passing_stop n start i p e h d left = ends_err (row_at wrap one 0 n start) e (left ∙ ap ends_at (rest_stop n i p e h d))

  pub passing_end : (n start i p : ℕ) → n ≤ i → Passing n start i p → ends_at (row_at wrap one 0 n start) ≡ Ok (tt, p)
  passing_end n start i p h left = left ∙ ap ends_at (rest_end n i p h)
