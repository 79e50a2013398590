-- Closed views: what may come to be at a label of the view comes from a label of it. Assumes nothing.
use Rattle.std.proofs.Common.{◌≡◌, ℕ, ◌<◌, Bool, true, List, Some, None, Option, refl, ap, ◌∙◌, subst}
use Rattle.refusal.specs.Sides.{other}
use Rattle.refusal.specs.declared.Side.{Side}
use Rattle.refusal.specs.declared.Side.TheVariants.{Near, Far}
use Rattle.order.specs.Orders.{PartialOrder}
use Rattle.agreement.specs.Agreements.{Joint}
use Rattle.agreement.specs.Connection.{Total, Monotone, Rising}
use Rattle.agreement.specs.Maps.{at, image_of, related, moves}
use Rattle.agreement.specs.Views.{view_at, view_in, highest_in}
use Rattle.agreement.specs.declared.views.View.{View}
use Rattle.agreement.proofs.Connections.{image_total, image_some}
use Rattle.machine.specs.Secrets.{Sees, Observer, NothingIsMissing}
use Rattle.machine.proofs.Facts.{Facts, total, total_back, monotone_back, rising, stable}

-- each map carries the highest label of a house below that of the other
abbrev pub Closed : Joint → View → Type 0
Closed J V = (s : Side) → (J.order (other s)).flow (at (J.map s) (highest_in V s)) (highest_in V (other s)) ≡ true

-- what a label of house s is allowed to become in house t: in one house by flow, across by flow of its image
abbrev pub reaches : Joint → Side → ℕ → Side → ℕ → Bool
reaches J Near a Near b = (J.order Near).flow a b
reaches J Near a Far b = moves (J.order Near) (J.order Far) (J.map Near) a b
reaches J Far a Near b = moves (J.order Far) (J.order Near) (J.map Far) a b
reaches J Far a Far b = (J.order Far).flow a b

pub reaches_inside : (J : Joint) (s : Side) (a b : ℕ) → (J.order s).flow a b ≡ true → reaches J s a s b ≡ true
reaches_inside J Near a b e = e
reaches_inside J Far a b e = e

pub reaches_across : (J : Joint) (s : Side) (a b : ℕ) → moves (J.order s) (J.order (other s)) (J.map s) a b ≡ true → reaches J s a (other s) b ≡ true
reaches_across J Near a b e = e
reaches_across J Far a b e = e

-- a move is allowed exactly where the image of a known label flows
pub moves_parts : (P Q : PartialOrder) (m : List ℕ) (a b : ℕ) → moves P Q m a b ≡ true → (a < P.count) × (Q.flow (at m a) b ≡ true)
moves_parts P Q m a b e = go (image_of P Q m a) refl e
  where
    go : (o : Option ℕ) → image_of P Q m a ≡ o → related Q.flow o (Some b) ≡ true → (a < P.count) × (Q.flow (at m a) b ≡ true)
    go None i t = absurd cc
    go (Some x) i t = let some = image_some P Q m a x i in (some.0, ap (λ (y : ℕ). Q.flow y b) some.1 ∙ t)

pub moves_from : (P Q : PartialOrder) (m : List ℕ) (a b : ℕ) → Total P Q m → a < P.count → Q.flow (at m a) b ≡ true → moves P Q m a b ≡ true
moves_from P Q m a b t h f = ap (λ (o : Option ℕ). related Q.flow o (Some b)) (image_total P Q m t a h) ∙ f

-- a label whose image flows below v flows below what v is carried back to
back_below : (P Q : PartialOrder) (m w : List ℕ) (a b u v : ℕ) → Monotone Q P w → Rising P m w → P.flow (at w v) u ≡ true → moves P Q m a b ≡ true → Q.flow b v ≡ true → P.flow a u ≡ true
back_below P Q m w a b u v mono rise closed e f =
    let parts = moves_parts P Q m a b e in
    let up = mono (at m a) v (Q.transitive (at m a) b v parts.1 f) in
    P.transitive a (at w v) u (P.transitive a (at w (at m a)) (at w v) (rise a parts.0) up) closed

module _ {J : Joint} (F : Facts J) where
  -- what reaches a label of a closed view is in the view
  pub reaches_from_view : (V : View) → Closed J V → (s : Side) (a : ℕ) (t : Side) (b : ℕ) → reaches J s a t b ≡ true → Sees J V t b → Sees J V s a
  reaches_from_view V closed Near a Near b e f = (J.order Near).transitive a b V.near e f
  reaches_from_view V closed Far a Far b e f = (J.order Far).transitive a b V.far e f
  reaches_from_view V closed Near a Far b e f =
      back_below (J.order Near) (J.order Far) (J.map Near) (J.map Far) a b V.near V.far (monotone_back F Near) (rising F Near) (closed Far) e f
  reaches_from_view V closed Far a Near b e f =
      back_below (J.order Far) (J.order Near) (J.map Far) (J.map Near) a b V.far V.near (monotone_back F Far) (rising F Far) (closed Near) e f

  -- the view of a known label is its round trip and its image
  pub view_is : (s : Side) (c : ℕ) → c < (J.order s).count → view_in J s c ≡ Some (view_at s (at (J.map (other s)) (at (J.map s) c)) (at (J.map s) c))
  view_is s c h = rw (image_total _ _ _ (total F s) c h, image_total _ _ _ (total_back F s) _ ((total F s).known c h))

  closed_at : (s : Side) (c : ℕ) → c < (J.order s).count → Closed J (view_at s (at (J.map (other s)) (at (J.map s) c)) (at (J.map s) c))
  closed_at Near c h = go
    where
      go : Closed J (view_at Near (at (J.map Far) (at (J.map Near) c)) (at (J.map Near) c))
      go Near = rw (stable F Near c h) ((J.order Far).reflexive _ ((total F Near).known c h))
      go Far = (J.order Near).reflexive _ ((total F Far).known _ ((total F Near).known c h))
  closed_at Far c h = go
    where
      go : Closed J (view_at Far (at (J.map Near) (at (J.map Far) c)) (at (J.map Far) c))
      go Far = rw (stable F Far c h) ((J.order Near).reflexive _ ((total F Far).known c h))
      go Near = (J.order Far).reflexive _ ((total F Near).known _ ((total F Far).known c h))

  pub view_closed : (o : Observer J) → Closed J o.view
  view_closed o =
      let is = view_is o.side o.label o.known in
      let same : view_at o.side (at (J.map (other o.side)) (at (J.map o.side) o.label)) (at (J.map o.side) o.label) ≡ o.view = cc (is, o.sees) in
      subst (λ (V : View). Closed J V) same (closed_at o.side o.label o.known)

  pub nothing_is_missing : NothingIsMissing J
  nothing_is_missing = record {
    images = λ s a h. (at (J.map s) a, image_total (J.order s) (J.order (other s)) (J.map s) (total F s) a h);
    views = λ s a h. (view_at s (at (J.map (other s)) (at (J.map s) a)) (at (J.map s) a), view_is s a h);
  }
