-- What the rules say where both maps are total, and what follows of a Lagois connection. Assumes nothing.
use Rattle.std.proofs.Common.{◌≡◌, ℕ, ◌<◌, Bool, true, false, not, ◌&&◌, ◌||◌, eqb, ltb, List, length, Some, None, Option, refl, ap, ◌∙◌, arith}
use Rattle.std.proofs.lemmas.Bool.{lt-ltb, ltb-true, and_parts, eqb-true, and_from, cond-true, both_ways}
use Rattle.std.proofs.lemmas.Bool.Decides.{same_from_decides}
use Rattle.std.proofs.lemmas.Option.{cond_some}
use Rattle.refusal.proofs.Deciding.{decides_self}
use Rattle.order.specs.Orders.{PartialOrder}
use Rattle.agreement.specs.Maps.{at, image_of, and_then, round_of, related, is_settled, moves}
use Rattle.agreement.specs.Rules.{keeps, rises, stays}
use Rattle.agreement.specs.Connection.{Total, Settled, MovesWithinView}

pub image_total : (P Q : PartialOrder) (m : List ℕ) → Total P Q m → (a : ℕ) → a < P.count → image_of P Q m a ≡ Some (at m a)
image_total P Q m t a h =
    cond-true (ltb a P.count && (ltb a (length m) && ltb (at m a) Q.count)) (Some (at m a)) None
    (and_from (ltb a P.count) (ltb a (length m) && ltb (at m a) Q.count) (lt-ltb a P.count h)
    (and_from (ltb a (length m)) (ltb (at m a) Q.count) (lt-ltb a (length m) (omega (arith, t.long))) (lt-ltb (at m a) Q.count (t.known a h))))

module _ (P Q : PartialOrder) (m w : List ℕ) (t : Total P Q m) (u : Total Q P w) where
  pub round_total : (a : ℕ) → a < P.count → round_of P Q m w a ≡ Some (at w (at m a))
  round_total a h = ap (λ (o : Option ℕ). and_then o (image_of Q P w)) (image_total P Q m t a h) ∙ image_total Q P w u (at m a) (t.known a h)

  pub keeps_total : (a b : ℕ) → a < P.count → b < P.count → keeps P Q m a b ≡ (not (P.flow a b) || Q.flow (at m a) (at m b))
  keeps_total a b h k =
      ap (λ (o : Option ℕ). not (P.flow a b) || related Q.flow o (image_of P Q m b)) (image_total P Q m t a h)
      ∙ ap (λ (o : Option ℕ). not (P.flow a b) || related Q.flow (Some (at m a)) o) (image_total P Q m t b k)

  pub rises_total : (a : ℕ) → a < P.count → rises P Q m w a ≡ P.flow a (at w (at m a))
  rises_total a h = ap (λ (o : Option ℕ). related P.flow (Some a) o) (round_total a h)

  pub stays_total : (a : ℕ) → a < P.count → stays P Q m w a ≡ eqb (at m (at w (at m a))) (at m a)
  stays_total a h =
      ap (λ (o : Option ℕ). related eqb (and_then o (image_of P Q m)) (image_of P Q m a)) (round_total a h)
      ∙ ap (λ (o : Option ℕ). related eqb o (image_of P Q m a)) (image_total P Q m t (at w (at m a)) (u.known (at m a) (t.known a h)))
      ∙ ap (λ (o : Option ℕ). related eqb (Some (at m (at w (at m a)))) o) (image_total P Q m t a h)

  pub settled_total : (a : ℕ) → a < P.count → is_settled P Q m w a ≡ eqb (at w (at m a)) a
  settled_total a h = ap (λ (o : Option ℕ). related eqb o (Some a)) (round_total a h)

-- an image is the entry of a known label
pub image_some : (P Q : PartialOrder) (m : List ℕ) (a x : ℕ) → image_of P Q m a ≡ Some x → (a < P.count) × (at m a ≡ x)
image_some P Q m a x e =
    let found = cond_some (ltb a P.count && (ltb a (length m) && ltb (at m a) Q.count)) (at m a) x e in
    (ltb-true a P.count (and_parts (ltb a P.count) (ltb a (length m) && ltb (at m a) Q.count) found.0).0, found.1)

-- a settled label is known, and going across and back gives it again
pub settled_parts : (P Q : PartialOrder) (m w : List ℕ) (a : ℕ) → is_settled P Q m w a ≡ true → (a < P.count) × Settled m w a
settled_parts P Q m w a e = across (image_of P Q m a) refl e
  where
    and_back : (x : ℕ) → image_of P Q m a ≡ Some x → (o : Option ℕ) → image_of Q P w x ≡ o → related eqb o (Some a) ≡ true → (a < P.count) × Settled m w a
    and_back x i None q t = absurd (both_ways false refl t)
    and_back x i (Some y) q t =
        let out = image_some P Q m a x i in
        let back = image_some Q P w x y q in
        (out.0, ap (at w) out.1 ∙ back.1 ∙ eqb-true y a t)

    across : (o : Option ℕ) → image_of P Q m a ≡ o → related eqb (and_then o (image_of Q P w)) (Some a) ≡ true → (a < P.count) × Settled m w a
    across None q t = absurd (both_ways false refl t)
    across (Some x) q t = and_back x q (image_of Q P w x) refl t

-- in a connection the image of a label flows to a settled label exactly if the label flows to the image of that
pub moves_within : (P Q : PartialOrder) (m : List ℕ) (a b : ℕ) (r : Bool) → r ≡ moves P Q m a b → MovesWithinView P Q m a b r
moves_within P Q m a b r e w l h k s =
    e ∙ ap (λ (o : Option ℕ). related Q.flow o (Some b)) (image_total P Q m l.out_total a h)
    ∙ same_from_decides (Q.flow (at m a) b) (P.flow a (at w b)) (decides_self (Q.flow (at m a) b)) (down, up)
  where
    down : P.flow a (at w b) ≡ true → Q.flow (at m a) b ≡ true
    down f = rw s at (l.out_monotone a (at w b) f)

    up : Q.flow (at m a) b ≡ true → P.flow a (at w b) ≡ true
    up f = P.transitive a (at w (at m a)) (at w b) (l.lc1 a h) (l.back_monotone (at m a) b f)
