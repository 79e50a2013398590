-- Rows are accepted exactly where they are a lattice, and what a table that holds them means. Assumes nothing.
use Rattle.std.specs.Prelude.{◌≡◌, ℕ, ◌-◌, ◌<◌, ◌≤◌, Bool, true, ◌⊎◌, List, [], ◌∷◌, length, replicate, Some, None, Decides, Option, refl}
use Rattle.std.proofs.Common.{sym, ap, subst, ◌∙◌, inl, inr, arith}
use Rattle.std.proofs.Math.Bool.{Bool-set}
use mathlib.Core.HLevel.{⊥_prop}
use Rattle.std.proofs.Math.Logic.{∥∥₁_elim, ∥∥₁_map}
use Rattle.std.proofs.lemmas.Bool.{cases_order}
use Rattle.std.proofs.lemmas.Bool.Decides.{Decides-at}
use Rattle.order.specs.Orders.{PartialOrder}
use Rattle.order.specs.Bounds.{Supremum, Joined, Joins, IsLattice, toward}
use Rattle.order.specs.declared.bound.Bound.{Bound}
use Rattle.order.specs.declared.bound.Bound.TheVariants.{Join, Meet}
use Rattle.order.proofs.Suprema.{toward_count, supremum_kept}
use Rattle.refusal.specs.Judging.{Judgement, accepted, ◌⨟◌}
use Rattle.refusal.proofs.Fitting.{Fits, fits_as, check_fits, then_fits}
use Rattle.refusal.proofs.Judging.{then_at}
use Rattle.tables.specs.Bounded.{bounded, bounded_in, bounds_judged, flow_toward, lacking, Candidate}
use Rattle.tables.specs.Listed.{order_judged, rows_judged, LatticeRows, Holds}
use Rattle.tables.specs.Rows.{listed_flow, rows_flow, listed_order, IsOrder}
use Rattle.tables.specs.declared.fault.TableFault.{TableFault}
use Rattle.tables.specs.Flows.{flow_more}
use Rattle.tables.specs.Orders.{order_fits}
use Rattle.tables.specs.Searches.{ordered_pairs_fit}
use Rattle.tables.specs.Suprema.{bounded_toward, decides_bounded}

swapped : (P : PartialOrder) (a b c : ℕ) → Supremum P (b ∷ a ∷ []) c → Supremum P (a ∷ b ∷ []) c
swapped P a b c s = record { known = s.known; upper = (s.upper.1.0, (s.upper.0, tt)); least = λ d k u. s.least d k (u.1.0, (u.0, tt)) }

-- a bound of every two labels, from that of every two in order
ordered_joins : (P : PartialOrder) → ((a b : ℕ) → a < b → b < P.count → ∥ ((c : ℕ) × Supremum P (a ∷ b ∷ []) c) ∥₁) → Joins P
ordered_joins P all a b h k = go (cases_order a b)
  where
    go : (a ≡ b) ⊎ ((a < b) ⊎ (b < a)) → ∥ ((c : ℕ) × Supremum P (a ∷ b ∷ []) c) ∥₁
    go (inl q) = ∣ (b, record { known = k; upper = (subst (λ (x : ℕ). P.flow x b ≡ true) (sym q) (P.reflexive b k), (P.reflexive b k, tt)); least = λ d l u. u.1.0 }) ∣₁
    go (inr (inl q)) = all a b q k
    go (inr (inr q)) = ∥∥₁_map (all b a q h) (λ w. (w.0, swapped P a b w.0 w.1))

bounds_fit : (w : Bound) (P : PartialOrder) → Fits (bounds_judged w P.count P.flow) (Joins (toward w P)) (λ _. Unit {0})
bounds_fit w P =
    fits_as (λ all. ordered_joins (toward w P) (λ a b h k. all a b h (omega (arith, toward_count w P))))
    (λ joins a b h k. joins a b (omega (arith, toward_count w P)) (omega (arith, toward_count w P))) (λ _ _. tt)
    (ordered_pairs_fit P.count (λ a b. check_fits (judged a b) (lacking w a b) (decides_some a b)))
  where
    judged : ℕ → ℕ → Bool
    judged a b = bounded P.count (flow_toward w P.flow) a b

    decides_some : (a b : ℕ) → Decides (judged a b) ∥ ((c : ℕ) × Supremum (toward w P) (a ∷ b ∷ []) c) ∥₁
    decides_some a b =
        let d = Decides-at (judged a b) (bounded_in (toward w P) a b) (sym (bounded_toward w P a b)) (decides_bounded (toward w P) a b) in
        (λ e. ∣ d.0 e ∣₁, λ some. ∥∥₁_elim some (Bool-set (judged a b) true) d.1)

pub judged_lattice : (P : PartialOrder) → accepted ≡ bounds_judged Join P.count P.flow → accepted ≡ bounds_judged Meet P.count P.flow → IsLattice P
judged_lattice P joins meets = record { joins = (bounds_fit Join P).kept (sym joins); meets = (bounds_fit Meet P).kept (sym meets) }

-- what is known of a lattice behind a truncation
pub lattice_of : (P : PartialOrder) → ∥ IsLattice P ∥₁ → IsLattice P
lattice_of P l = record {
  joins = λ a b h k. ∥∥₁_elim l squash₁ (λ m. m.joins a b h k);
  meets = λ a b h k. ∥∥₁_elim l squash₁ (λ m. m.meets a b h k);
}

-- where bounds exist, the pass over the labels finds them
pub candidate_joined : (P : PartialOrder) → Joins P → (a b : ℕ) (r : Option ℕ) → Candidate P (a ∷ b ∷ []) r → Joined P (a ∷ b ∷ []) r
candidate_joined P joins a b None p =
    λ known. ∥∥₁_elim (joins a b known.0 known.1.0) ⊥_prop (λ w. let found = p.first w.0 w.1 in let z : ◌≡◌ {A = ℕ} 0 1 = cc in omega arith)
candidate_joined P joins a b (Some c) p =
    supremum_kept P (a ∷ b ∷ []) c (joins a b (P.known a c p.above.1.0).0 (P.known b c p.above.1.1.0).0) p.above.0 p.above.1 p.first

pub lattice_fits : (rows : List ℕ) → Fits (rows_judged rows) (LatticeRows rows) (λ _. Unit {0})
lattice_fits rows =
    fits_as (λ k. record { order = k.0; lattice = record { joins = k.1.0; meets = k.1.1 } }) (λ l. (l.order, (l.lattice.joins, l.lattice.meets))) (λ _ _. tt)
    (then_fits (order_fits rows) (λ o.
    let P = listed_order (length rows) rows o.some o.few ∣ o.ordered ∣₁ in
    then_fits (bounds_fit Join P) (λ _. bounds_fit Meet P)))

-- a table that holds rows has their flow, and so their judgements
pub held_flow : (rows : List ℕ) (count : ℕ) (table : List ℕ) → Holds rows count table → listed_flow count table ≡ rows_flow rows
held_flow rows count table h =
    ap (λ (n : ℕ). listed_flow n table) h.counted ∙ ap (listed_flow (length rows)) h.stored ∙ flow_more (length rows) rows (replicate (32 - length rows) 0) (omega arith)

held_bounds : (w : Bound) (rows : List ℕ) (count : ℕ) (table : List ℕ) → Holds rows count table →
    bounds_judged w count (listed_flow count table) ≡ bounds_judged w (length rows) (rows_flow rows)
held_bounds w rows count table h =
    ap (bounds_judged w count) (held_flow rows count table h) ∙ ap (λ (n : ℕ). bounds_judged w n (rows_flow rows)) h.counted

-- rows that are an order are judged on by the bounds of the table
pub judged_on : (rows : List ℕ) (count : ℕ) (table : List ℕ) → Holds rows count table → order_judged rows ≡ accepted → (j m : Judgement TableFault) →
    j ≡ bounds_judged Join count (listed_flow count table) → m ≡ bounds_judged Meet count (listed_flow count table) → rows_judged rows ≡ (j ⨟ m)
judged_on rows count table h ordered j m joins meets =
    let judged = λ (w : Bound). bounds_judged w (length rows) (rows_flow rows) in
    then_at (judged Join ⨟ judged Meet) ordered
    ∙ sym (ap (λ (t : Judgement TableFault). j ⨟ t) (meets ∙ held_bounds Meet rows count table h) ∙ then_at (judged Meet) (joins ∙ held_bounds Join rows count table h))

-- the row of the one label that flows to itself
one_bounded : (w : Bound) → bounds_judged w 1 (rows_flow (1 ∷ [])) ≡ accepted
unfolding listed_flow bounded
one_bounded Join = refl
one_bounded Meet = refl

-- a table that holds it is a lattice
pub one_lattice : (count : ℕ) (table : List ℕ) → Holds (1 ∷ []) count table → (some : 1 ≤ count) (few : count ≤ 32) (lawful : ∥ IsOrder count table ∥₁) → IsLattice (listed_order count table some few lawful)
one_lattice count table h some few lawful =
    judged_lattice (listed_order count table some few lawful)
    (sym (held_bounds Join (1 ∷ []) count table h ∙ one_bounded Join)) (sym (held_bounds Meet (1 ∷ []) count table h ∙ one_bounded Meet))
