-- Greatest lower labels of lists that grow at the end. Assumes nothing.
use Rattle.std.proofs.Common.{◌≡◌, ℕ, ◌+◌, ◌<◌, List, [], ◌∷◌, ◌++◌, map, length, get_or, take, Some, None, Option, MatchOption, sym, refl, ap, ◌∙◌, subst}
use Rattle.std.proofs.lemmas.List.{append-nil, append_assoc, map_more}
use Rattle.std.proofs.lemmas.Option.{MatchOption-at_some, MatchOption-at_none}
use Rattle.refusal.specs.declared.Side.{Side}
use Rattle.refusal.specs.declared.Side.TheVariants.{Near, Far}
use Rattle.order.specs.Bounds.{Known, Joined, Supremum}
use Rattle.order.specs.Orders.{PartialOrder, dual}
use Rattle.order.proofs.Searches.{supremum_is}
use Rattle.order.proofs.Suprema.{supremum_push}
use Rattle.agreement.specs.Agreements.{Joint}
use Rattle.script.specs.Lines.{blank}
use Rattle.script.specs.declared.line.Assignment.{Assignment}
use Rattle.machine.specs.Steps.{compute, label_of}
use Rattle.machine.specs.Types.{for_house, or_zero, or_top}
use Rattle.steps.specs.Folds.{Lowers, LowersBoth, LowersBy}
use Rattle.steps.specs.declared.typing.Lowest.{Lowest}

known_front : (P : PartialOrder) (xs : List ℕ) (y : ℕ) → Known P (xs ++ y ∷ []) → Known P xs
known_front P [] y all = tt
known_front P (x ∷ xs) y all = (all.0, known_front P xs y all.1)

known_last : (P : PartialOrder) (xs : List ℕ) (y : ℕ) → Known P (xs ++ y ∷ []) → y < P.count
known_last P [] y all = all.0
known_last P (x ∷ xs) y all = known_last P xs y all.1

module _ (P : PartialOrder) where
  -- one label more, where there is no bound
  pub lowers_absent : (y : ℕ) {before now : Option ℕ} → before ≡ None → now ≡ None → Lowers P (y ∷ []) before now
  lowers_absent y {before} {now} e d ls j =
      subst (λ (o : Option ℕ). Joined (dual P) (ls ++ y ∷ []) o) (sym d)
      (λ all. MatchOption-at_none (Known (dual P) ls → ⊥) (λ c. Supremum (dual P) ls c) e j (known_front (dual P) ls y all))

  -- one label more, by the bound of two labels
  pub lowers_one : (y b : ℕ) {before : Option ℕ} (now : Option ℕ) → before ≡ Some b → Joined (dual P) (b ∷ y ∷ []) now → Lowers P (y ∷ []) before now
  lowers_one y b now e t ls j = two now t (MatchOption-at_some (Known (dual P) ls → ⊥) (λ c. Supremum (dual P) ls c) b e j)
    where
      two : (o : Option ℕ) → Joined (dual P) (b ∷ y ∷ []) o → Supremum (dual P) ls b → Joined (dual P) (ls ++ y ∷ []) o
      two None unknown s = λ all. unknown (s.known, (known_last (dual P) ls y all, tt))
      two (Some c) t s = supremum_push (dual P) ls b y c s t

  pub lowers_none : (b : Option ℕ) → Lowers P [] b b
  lowers_none b ls j = subst (λ (l : List ℕ). Joined (dual P) l b) (sym (append-nil ls)) j

  pub lowers_then : (xs ys : List ℕ) (a b c : Option ℕ) → Lowers P xs a b → Lowers P ys b c → Lowers P (xs ++ ys) a c
  lowers_then xs ys a b c f g ls j = subst (λ (l : List ℕ). Joined (dual P) l c) (append_assoc ls xs ys) (g (ls ++ xs) (f ls j))

  -- a bound, and where it is absent the top
  pub or_top_is : (bound : Option ℕ) {top : ℕ} → MatchOption bound (Supremum (dual P) [] top) (λ c. top ≡ c) → top ≡ or_top P bound
  or_top_is None {top} s = ap or_zero (supremum_is (dual P) [] (Some top) s)
  or_top_is (Some c) e = e

for_house_append : (s u : Side) (xs ys : List ℕ) → (for_house s u xs ++ for_house s u ys) ≡ for_house s u (xs ++ ys)
for_house_append Near Near xs ys = refl
for_house_append Near Far xs ys = refl
for_house_append Far Near xs ys = refl
for_house_append Far Far xs ys = refl

-- more labels in both houses, one list after the other
pub both_then : (J : Joint) (f g : Side → List ℕ) (b c d : Lowest) → LowersBy J f b c → LowersBy J g c d → LowersBy J (λ u. f u ++ g u) b d
both_then J f g b c d one two = (
  lowers_then (J.order Near) (f Near) (g Near) b.near c.near d.near one.0 two.0,
  lowers_then (J.order Far) (f Far) (g Far) b.far c.far d.far one.1 two.1,
)

module _ (J : Joint) (s : Side) (xs : List Assignment) where
  abbrev label : Assignment → ℕ
  label a = label_of (J.items s) a.target

  -- the target of one assignment more
  pub target_lowers : (i : ℕ) (b c d : Lowest) → i < length xs → LowersBoth J (compute s (take i xs)) b c → LowersBy J (λ u. for_house s u (label (get_or xs i blank) ∷ [])) c d → LowersBoth J (compute s (take (i + 1) xs)) b d
  target_lowers i b c d h before one =
      let both = both_then J (λ u. for_house s u (map label (take i xs))) (λ u. for_house s u (label (get_or xs i blank) ∷ [])) b c d before one in
      (subst (λ (l : List ℕ). Lowers (J.order Near) l b.near d.near) (same Near) both.0, subst (λ (l : List ℕ). Lowers (J.order Far) l b.far d.far) (same Far) both.1)
    where
      same : (u : Side) → (for_house s u (map label (take i xs)) ++ for_house s u (label (get_or xs i blank) ∷ [])) ≡ for_house s u (map label (take (i + 1) xs))
      same u = for_house_append s u _ _ ∙ ap (for_house s u) (sym (map_more label xs i blank h))
