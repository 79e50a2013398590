-- Writing places: what is held afterwards, and what two memories that agree at a place hold there. Assumes nothing.
use Rattle.std.proofs.Common.{◌≡◌, ℕ, ◌<◌, ◌⊎◌, List, [], ◌∷◌, ◌++◌, length, sym, refl, ap, ◌∙◌, inl, inr}
use Rattle.std.proofs.lemmas.List.{get_or-set_same, get_or-set_other, length-set}
use Rattle.std.proofs.lemmas.Bool.{cases_eq}
use Rattle.refusal.specs.declared.Side.{Side}
use Rattle.refusal.specs.declared.Side.TheVariants.{Near, Far}
use Rattle.machine.specs.Places.{Place, place, values_in, held, put, Write, written, all_written}
use Rattle.machine.specs.declared.values.Values.{Values}

-- both memories have their full size
abbrev pub Sized : Values → Type 0
Sized v = (s : Side) → length (values_in v s) ≡ 128

pub sized_put : (v : Values) (p : Place) (x : ℕ) → Sized v → Sized (put v p x)
sized_put v p x sized u = go p.side p.item u
  where
    go : (s : Side) (i : ℕ) (u : Side) → length (values_in (put v (place s i) x) u) ≡ 128
    go Near i Near = length-set v.near i x ∙ sized Near
    go Near i Far = sized Far
    go Far i Near = sized Near
    go Far i Far = length-set v.far i x ∙ sized Far

pub held_put : (v : Values) (s : Side) (i x : ℕ) → i < length (values_in v s) → held (put v (place s i) x) (place s i) ≡ x
held_put v Near i x h = get_or-set_same v.near i x 0 h
held_put v Far i x h = get_or-set_same v.far i x 0 h

-- a place is the one that is written, or holds what it held
pub written_or_kept : (t p : Place) → (t ≡ p) ⊎ ((v : Values) (x : ℕ) → held (put v t x) p ≡ held v p)
written_or_kept t p = go t.side t.item p.side p.item
  where
    go : (s : Side) (i : ℕ) (u : Side) (k : ℕ) → (place s i ≡ place u k) ⊎ ((v : Values) (x : ℕ) → held (put v (place s i) x) (place u k) ≡ held v (place u k))
    go Near i Far k = inr (λ v x. refl)
    go Far i Near k = inr (λ v x. refl)
    go Near i Near k = elim (cases_eq k i) [ inl e ↦ inl (ap (place Near) (sym e)) | inr ne ↦ inr (λ v x. get_or-set_other v.near i k x 0 ne) ]
    go Far i Far k = elim (cases_eq k i) [ inl e ↦ inl (ap (place Far) (sym e)) | inr ne ↦ inr (λ v x. get_or-set_other v.far i k x 0 ne) ]

-- two memories that hold the same at a place still do, where what is written into it is the same
pub put_alike : (v w : Values) (t p : Place) (x y : ℕ) → t.item < length (values_in v t.side) → t.item < length (values_in w t.side) → (t ≡ p → x ≡ y) → held v p ≡ held w p → held (put v t x) p ≡ held (put w t y) p
put_alike v w t p x y hv hw same e =
    elim (written_or_kept t p) [
      | inl q ↦ ap (held (put v t x)) (sym q) ∙ held_put v t.side t.item x hv ∙ same q
          ∙ sym (held_put w t.side t.item y hw) ∙ ap (held (put w t y)) q
      | inr kept ↦ kept v x ∙ e ∙ sym (kept w y)
    ]

pub all_written_append : (v : Values) (xs ys : List Write) → all_written v (xs ++ ys) ≡ all_written (all_written v xs) ys
all_written_append v [] ys = refl
all_written_append v (x ∷ xs) ys = all_written_append (written v x) xs ys
