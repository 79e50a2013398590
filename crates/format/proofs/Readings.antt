-- What readings that follow one another tell, and the fields. Assumes nothing.
use Rattle.std.proofs.Common.{◌≡◌, ℕ, ◌+◌, ◌-◌, ◌%◌, ◌^◌, ◌<◌, ◌≤◌, Bool, true, false, cond, ◌&&◌, leb, ◌⊎◌, List, reverse, length, take, Ok, Err, sym, refl, ap, ◌∙◌, subst, ap₂, inl, inr, mod-eq_of_lt, arith, pow_mono}
use Rattle.std.proofs.lemmas.List.{take_all, reverse-reverse, length-reverse}
use Rattle.std.proofs.lemmas.Bool.{cases_lt, cond-true, cond-false, le-leb, lt-leb, leb-true, and_parts, and_from, and_left, and_right}
use Rattle.bits.specs.Bits.{bits_of, number, piece}
use Rattle.bits.proofs.Bits.{length_bits_of, length_piece, number_below, number_piece_below, number_bits_of_below, bits_of_number}
use Rattle.format.specs.Formats.{Reading, followed, under, bits_at, limited, field_at, turned_at}
use Rattle.format.specs.declared.fault.FieldFault.{FieldFault}
use Rattle.format.specs.declared.fault.FieldFault.TheVariants.{Lacking, NotAllowed}

-- a reading answers one value and one next bit
pub ok_same : {F A : Type 0} (a b : A) (p q : ℕ) → ◌≡◌ {A = Reading F A} (Ok (a, p)) (Ok (b, q)) → (a ≡ b) × (p ≡ q)
ok_same {A = A} a b p q e = let same : (a, p) ≡ (b, q) = cc in (ap (λ (x : A × ℕ). x.0) same, ap (λ (x : A × ℕ). x.1) same)

pub ok_injective : {F A : Type 0} (r : Reading F A) (a b : A) (p q : ℕ) → r ≡ Ok (a, p) → r ≡ Ok (b, q) → (a ≡ b) × (p ≡ q)
ok_injective r a b p q e d = ok_same a b p q (sym e ∙ d)

-- what was read before something that was read
pub record First {F A B : Type 0} (r : Reading F A) (next : A → ℕ → Reading F B) (b : B) (q : ℕ) : Type 0 where
  pub value : A
  pub place : ℕ
  pub first : r ≡ Ok (value, place)
  pub then : next value place ≡ Ok (b, q)

pub followed_ok : {F A B : Type 0} (r : Reading F A) (next : A → ℕ → Reading F B) (b : B) (q : ℕ) → followed r next ≡ Ok (b, q) → First r next b q
followed_ok (Ok x) next b q e = record { value = x.0; place = x.1; first = refl; then = e }
followed_ok (Err x) next b q e = let z : ◌≡◌ {A = ℕ} 0 1 = cc in absurd (omega arith)

pub followed_by : {F A B : Type 0} (r : Reading F A) (next : A → ℕ → Reading F B) (a : A) (q : ℕ) → r ≡ Ok (a, q) → followed r next ≡ next a q
followed_by {F} {A} r next a q e = ap (λ (x : Reading F A). followed x next) e

-- what is made of what was read
pub made_of : {F A B C : Type 0} {b : B} {q : ℕ} (f : A → B) (g : B → C) (r : Reading F A) → followed r (λ a p. Ok (f a, p)) ≡ Ok (b, q) → followed r (λ a p. Ok (g (f a), p)) ≡ Ok (g b, q)
made_of {b} {q} f g (Ok x) e = let same = ok_same (f x.0) b x.1 q e in ap₂ (λ c p. Ok (g c, p)) same.0 same.1
made_of f g (Err x) e = let z : ◌≡◌ {A = ℕ} 0 1 = cc in absurd (omega arith)

pub under_ok : {E F A : Type 0} (wrap : E → F) (r : Reading E A) (a : A) (q : ℕ) → under wrap r ≡ Ok (a, q) → r ≡ Ok (a, q)
under_ok wrap (Ok x) a q e = cc
under_ok wrap (Err x) a q e = let z : ◌≡◌ {A = ℕ} 0 1 = cc in absurd (omega arith)

pub bits_fit : (bits : List Bool) (p w : ℕ) → w ≤ length bits - p → bits_at bits p w ≡ Ok (piece bits p w, p + w)
unfolding bits_at
bits_fit bits p w h = cond-true (leb w (length bits - p)) _ _ (le-leb w (length bits - p) h)

pub bits_lack : (bits : List Bool) (p w : ℕ) → length bits - p < w → bits_at bits p w ≡ Err (Lacking p)
unfolding bits_at
bits_lack bits p w h = cond-false (leb w (length bits - p)) _ _ (lt-leb w (length bits - p) h)

pub bits_ok : (bits : List Bool) (p w : ℕ) (l : List Bool) (q : ℕ) → bits_at bits p w ≡ Ok (l, q) → (w ≤ length bits - p) × (l ≡ piece bits p w) × (q ≡ p + w)
bits_ok bits p w l q e = at (cases_lt (length bits - p) w)
  where
    at : (length bits - p < w) ⊎ (w ≤ length bits - p) → (w ≤ length bits - p) × (l ≡ piece bits p w) × (q ≡ p + w)
    at (inl h) = let lack = bits_lack bits p w h in let z : ◌≡◌ {A = ℕ} 0 1 = cc in absurd (omega arith)
    at (inr h) =
        let same = ok_injective (bits_at bits p w) l (piece bits p w) q (p + w) e (bits_fit bits p w h) in
        (h, same.0, same.1)

pub limited_within : (least most p v q : ℕ) → least ≤ v → v ≤ most → limited least most p v q ≡ Ok (v, q)
limited_within least most p v q low high =
    cond-true (leb least v && leb v most) _ _ (and_from (leb least v) (leb v most) (le-leb least v low) (le-leb v most high))

pub limited_outside : (least most p v q : ℕ) → (v < least) ⊎ ((least ≤ v) × (most < v)) → limited least most p v q ≡ Err (NotAllowed p v)
limited_outside least most p v q (inl low) =
    cond-false (leb least v && leb v most) _ _ (and_left (leb least v) (leb v most) (lt-leb least v low))
limited_outside least most p v q (inr high) =
    cond-false (leb least v && leb v most) _ _ (and_right (leb least v) (leb v most) (lt-leb v most high.1))

pub limited_ok : (least most p v q u r : ℕ) → limited least most p v q ≡ Ok (u, r) → (least ≤ v) × (v ≤ most) × (v ≡ u) × (q ≡ r)
limited_ok least most p v q u r e = at (leb least v && leb v most) refl e
  where
    at : (b : Bool) → (leb least v && leb v most) ≡ b → cond {A = Reading FieldFault ℕ} b (Ok (v, q)) (Err (NotAllowed p v)) ≡ Ok (u, r) → (least ≤ v) × (v ≤ most) × (v ≡ u) × (q ≡ r)
    at true t e =
        let both = and_parts (leb least v) (leb v most) t in
        let same = ok_same v u q r e in
        (leb-true least v both.0, leb-true v most both.1, same.0, same.1)
    at false t e = let z : ◌≡◌ {A = ℕ} 0 1 = cc in absurd (omega arith)

-- a field of w bits that was read: its value is within its limits, and its bits stand there
pub field_ok : (w least most : ℕ) (bits : List Bool) (p v q : ℕ) → w ≤ 64 → field_at w least most bits p ≡ Ok (v, q) → ((v < 2 ^ w) × (least ≤ v) × (v ≤ most)) × (q ≡ p + w) × (piece bits p w ≡ bits_of w v)
unfolding field_at
field_ok w least most bits p v q narrow e =
    let was = followed_ok (bits_at bits p w) (λ l r. limited least most p (number l % 2 ^ 64) r) v q e in
    let cut = bits_ok bits p w was.value was.place was.first in
    let n = number was.value in
    let lim = limited_ok least most p (n % 2 ^ 64) was.place v q was.then in
    let small : n < 2 ^ w = subst (λ (l : List Bool). number l < 2 ^ w) (sym cut.1) (number_piece_below bits p w) in
    let same : v ≡ n = sym lim.2 ∙ mod-eq_of_lt (omega (arith, small, pow_mono narrow)) in
    let long : length was.value ≡ w = ap length cut.1 ∙ length_piece bits p w cut.0 in (
      (omega arith, omega (arith, lim), omega (arith, lim)),
      sym lim.3 ∙ cut.2,
      sym cut.1 ∙ sym (bits_of_number was.value) ∙ ap₂ bits_of long (sym same),
    )

-- a written field is read back
pub field_back : (w least most : ℕ) (bits : List Bool) (p v : ℕ) → w ≤ 64 → v < 2 ^ w → least ≤ v → v ≤ most → w ≤ length bits - p → piece bits p w ≡ bits_of w v → field_at w least most bits p ≡ Ok (v, p + w)
unfolding field_at
field_back w least most bits p v narrow small low high fits stands =
    let value : number (piece bits p w) % 2 ^ 64 ≡ v =
    ap (λ (l : List Bool). number l % 2 ^ 64) stands ∙ ap (λ (n : ℕ). n % 2 ^ 64) (number_bits_of_below w v small) ∙ mod-eq_of_lt (omega (arith, pow_mono narrow)) in
    followed_by (bits_at bits p w) (λ l r. limited least most p (number l % 2 ^ 64) r) (piece bits p w) (p + w) (bits_fit bits p w fits)
    ∙ ap (λ (n : ℕ). limited least most p n (p + w)) value ∙ limited_within least most p v (p + w) low high

pub turned_ok : (w : ℕ) (bits : List Bool) (p v q : ℕ) → w ≤ 64 → turned_at w bits p ≡ Ok (v, q) → (v < 2 ^ w) × (q ≡ p + w) × (piece bits p w ≡ reverse (bits_of w v))
unfolding turned_at
turned_ok w bits p v q narrow e =
    let was = followed_ok (bits_at bits p w) (λ l r. Ok (number (take 64 (reverse l)), r)) v q e in
    let cut = bits_ok bits p w was.value was.place was.first in
    let l = was.value in
    let end = ok_same (number (take 64 (reverse l))) v was.place q was.then in
    let long : length (reverse l) ≡ w = length-reverse l ∙ ap length cut.1 ∙ length_piece bits p w cut.0 in
    let same : v ≡ number (reverse l) = sym end.0 ∙ ap number (take_all 64 (reverse l) (omega arith)) in (
      subst (λ (n : ℕ). n < 2 ^ w) (sym same) (subst (λ (n : ℕ). number (reverse l) < 2 ^ n) long (number_below (reverse l))),
      sym end.1 ∙ cut.2,
      sym cut.1 ∙ sym (reverse-reverse l) ∙ ap reverse (sym (bits_of_number (reverse l)) ∙ ap₂ bits_of long (sym same)),
    )

pub turned_back : (w : ℕ) (bits : List Bool) (p v : ℕ) → w ≤ 64 → v < 2 ^ w → w ≤ length bits - p → piece bits p w ≡ reverse (bits_of w v) → turned_at w bits p ≡ Ok (v, p + w)
unfolding turned_at
turned_back w bits p v narrow small fits stands =
    let value : number (take 64 (reverse (piece bits p w))) ≡ v =
    ap (λ (l : List Bool). number (take 64 (reverse l))) stands ∙ ap (λ (l : List Bool). number (take 64 l)) (reverse-reverse (bits_of w v))
    ∙ ap number (take_all 64 (bits_of w v) (omega (arith, length_bits_of w v))) ∙ number_bits_of_below w v small in
    followed_by (bits_at bits p w) (λ l r. Ok (number (take 64 (reverse l)), r)) (piece bits p w) (p + w) (bits_fit bits p w fits)
    ∙ ap (λ (n : ℕ). Ok (n, p + w)) value
