-- Rows kept in a table of 32 places. Assumes nothing.
use Rattle.std.proofs.Common.{◌≡◌, ℕ, ◌-◌, ◌≤◌, List, length, take, drop, replicate, sym, ap, ◌∙◌, subst, arith}
use Rattle.std.proofs.lemmas.List.{take_all, take-append-drop}
use Rattle.fixed.specs.Lists.{filled, padded}
use Rattle.fixed.specs.declared.list.FixedList.{FixedList}
use Rattle.tables.specs.Rows.{listed_flow, rows_flow, IsOrder}
use Rattle.tables.specs.Listed.{Holds}
use Rattle.tables.specs.Flows.{flow_more}
use Rattle.tables.specs.Orders.{order_more}

-- the first rows of a table have its flow
pub flow_kept : (count : ℕ) (table kept : List ℕ) → kept ≡ take count table → length kept ≡ count → rows_flow kept ≡ listed_flow count table
flow_kept count table kept e h =
    let all : length (take count table) ≡ count = sym (ap length e) ∙ h in
    ap (λ (n : ℕ). listed_flow n kept) h ∙ ap (listed_flow count) e ∙ sym (flow_more count (take count table) (drop count table) (omega (arith, all)))
    ∙ ap (listed_flow count) (take-append-drop count table)

-- what is made of at most 32 rows holds them
pub held_rows : (rows : List ℕ) (t : FixedList ℕ 32) → length rows ≤ 32 → t ≡ filled 32 0 (take 32 rows) → Holds rows t.count t.places
unfolding padded
held_rows rows t few e = let same = e ∙ ap (filled 32 0) (take_all 32 rows few) in record { counted = ap (λ (u : FixedList ℕ 32). u.count) same; stored = ap (λ (u : FixedList ℕ 32). u.places) same }

-- and is an order if they are
pub held_order : (rows : List ℕ) (count : ℕ) (table : List ℕ) → Holds rows count table → IsOrder (length rows) rows → IsOrder count table
held_order rows count table h o =
    subst (λ (n : ℕ). IsOrder n table) (sym h.counted) (subst (IsOrder (length rows)) (sym h.stored) (order_more (length rows) rows (replicate (32 - length rows) 0) (omega arith) o))
