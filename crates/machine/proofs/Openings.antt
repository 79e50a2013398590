-- What openings hold, and the openings that differ in one place. Assumes nothing.
use Rattle.std.proofs.Common.{◌≡◌, ℕ, ◌-◌, ◌^◌, ◌<◌, ◌⊎◌, List, length, get_or, set, replicate, sym, refl, ap, ◌∙◌, inl, inr, arith, rules}
use Rattle.std.proofs.lemmas.Grind.{common_steps}
use Rattle.std.proofs.lemmas.List.{places, get_or_append_left, length-set, length-replicate, get_or-set_same, get_or-set_other, get_or-replicate, get_or_past}
use Rattle.std.proofs.lemmas.Bool.{eqb-true, eq-eqb, cases_eq, cases_lt}
use Rattle.fixed.specs.Lists.{padded}
use Rattle.fixed.proofs.Padding.{length_padded}
use Rattle.refusal.specs.Judging.{accepted}
use Rattle.refusal.specs.declared.Side.{Side}
use Rattle.refusal.specs.declared.Side.TheVariants.{Near, Far}
use Rattle.refusal.proofs.Accepting.{check_accepted, both_accepted}
use Rattle.refusal.proofs.Judging.{check_at, then_at}
use Rattle.agreement.specs.Agreements.{Joint}
use Rattle.machine.specs.Places.{Place, place, held}
use Rattle.machine.specs.Openings.{opening_judged, Opening, start}
use Rattle.machine.specs.Secrets.{KnownItem}
use Rattle.machine.proofs.Facts.{Facts, items}
use Rattle.machine.proofs.Places.{Sized}

padded_at : (xs : List ℕ) (i : ℕ) → i < length xs → get_or (padded 128 0 xs) i 0 ≡ get_or xs i 0
unfolding padded
padded_at xs i h = get_or_append_left xs (replicate (128 - length xs) 0) 0 i h

abbrev zeros : ℕ → List ℕ
zeros n = replicate n 0

length_zeros : (n : ℕ) → length (zeros n) ≡ n
length_zeros n = length-replicate {A = ℕ} n 0

module _ {J : Joint} (F : Facts J) where
  pub opening_lengths : (near far : List ℕ) → opening_judged J near far ≡ accepted → (length near ≡ length (J.items Near)) × (length far ≡ length (J.items Far))
  opening_lengths near far e = let both = both_accepted _ _ e in (eqb-true _ _ (check_accepted _ _ both.0), eqb-true _ _ (check_accepted _ _ both.1))

  pub start_sized : (o : Opening J) → Sized (start o)
  start_sized o Near = length_padded 128 0 o.near (omega (arith, (opening_lengths o.near o.far o.fits).0, (items F Near).few))
  start_sized o Far = length_padded 128 0 o.far (omega (arith, (opening_lengths o.near o.far o.fits).1, (items F Far).few))

  -- zeros, and x at one place
  probe_in : Side → ℕ → ℕ → Side → List ℕ
  probe_in Near i x Near = set (zeros (length (J.items Near))) i x
  probe_in Near i x Far = zeros (length (J.items Far))
  probe_in Far i x Near = zeros (length (J.items Near))
  probe_in Far i x Far = set (zeros (length (J.items Far))) i x

  zeros_below : (n i : ℕ) → get_or (zeros n) i 0 ≡ 0
  zeros_below n i = grind (arith, common_steps, places)

  set_below : (n i x k : ℕ) → x < 2 ^ 64 → get_or (set (zeros n) i x) k 0 < 2 ^ 64
  set_below n i x k h = grind (arith, get_or-set_same, get_or-set_other, get_or_past, length-set, length-replicate, get_or-replicate, cases_eq, cases_lt)

  probe_length : (s : Side) (i x : ℕ) (u : Side) → length (probe_in s i x u) ≡ length (J.items u)
  unfolding probe_in
  probe_length Near i x Near = search (rules, places)
  probe_length Near i x Far = search (rules, places)
  probe_length Far i x Near = search (rules, places)
  probe_length Far i x Far = search (rules, places)

  probe_below : (s : Side) (i x : ℕ) → x < 2 ^ 64 → (u : Side) (k : ℕ) → get_or (probe_in s i x u) k 0 < 2 ^ 64
  unfolding probe_in
  probe_below Near i x h Near k = set_below (length (J.items Near)) i x k h
  probe_below Near i x h Far k = omega (arith, zeros_below (length (J.items Far)) k, h)
  probe_below Far i x h Near k = omega (arith, zeros_below (length (J.items Near)) k, h)
  probe_below Far i x h Far k = set_below (length (J.items Far)) i x k h

  pub probe : Side → ℕ → (x : ℕ) → x < 2 ^ 64 → Opening J
  probe s i x h = record {
    near = probe_in s i x Near;
    far = probe_in s i x Far;
    fits = then_at _ (check_at _ (eq-eqb _ _ (probe_length s i x Near))) ∙ check_at _ (eq-eqb _ _ (probe_length s i x Far));
    near_below = probe_below s i x h Near;
    far_below = probe_below s i x h Far;
  }

  probe_held : (s : Side) (i x : ℕ) (h : x < 2 ^ 64) (u : Side) (k : ℕ) → k < length (J.items u) → held (start (probe s i x h)) (place u k) ≡ get_or (probe_in s i x u) k 0
  unfolding probe
  probe_held s i x h Near k l = padded_at _ k (omega (arith, probe_length s i x Near))
  probe_held s i x h Far k l = padded_at _ k (omega (arith, probe_length s i x Far))

  -- the probe holds x at its place
  pub probe_there : (s : Side) (i x : ℕ) (h : x < 2 ^ 64) → i < length (J.items s) → held (start (probe s i x h)) (place s i) ≡ x
  unfolding probe_in
  probe_there s i x h l = probe_held s i x h s i l ∙ at s l
    where
      at : (s : Side) → i < length (J.items s) → get_or (probe_in s i x s) i 0 ≡ x
      at Near l = get_or-set_same _ i x 0 (omega (arith, length_zeros (length (J.items Near))))
      at Far l = get_or-set_same _ i x 0 (omega (arith, length_zeros (length (J.items Far))))

  -- and elsewhere what any other probe of that place holds
  pub probe_elsewhere : (s : Side) (i x y : ℕ) (hx : x < 2 ^ 64) (hy : y < 2 ^ 64) (p : Place) → KnownItem J p → (place s i ≡ p) ⊎ (held (start (probe s i x hx)) p ≡ held (start (probe s i y hy)) p)
  unfolding probe_in
  probe_elsewhere s i x y hx hy p l = go s p.side p.item l
    where
      same : (s u : Side) (k : ℕ) → k < length (J.items u) → get_or (probe_in s i x u) k 0 ≡ get_or (probe_in s i y u) k 0 → held (start (probe s i x hx)) (place u k) ≡ held (start (probe s i y hy)) (place u k)
      same s u k l e = probe_held s i x hx u k l ∙ e ∙ sym (probe_held s i y hy u k l)

      go : (s u : Side) (k : ℕ) → k < length (J.items u) → (place s i ≡ place u k) ⊎ (held (start (probe s i x hx)) (place u k) ≡ held (start (probe s i y hy)) (place u k))
      go Near Far k l = inr (same Near Far k l refl)
      go Far Near k l = inr (same Far Near k l refl)
      go Near Near k l = elim (cases_eq k i) [
        | inl e ↦ inl (ap (place Near) (sym e))
        | inr ne ↦ inr (same Near Near k l (get_or-set_other _ i k x 0 ne ∙ sym (get_or-set_other _ i k y 0 ne)))
      ]
      go Far Far k l = elim (cases_eq k i) [
        | inl e ↦ inl (ap (place Far) (sym e))
        | inr ne ↦ inr (same Far Far k l (get_or-set_other _ i k x 0 ne ∙ sym (get_or-set_other _ i k y 0 ne)))
      ]
