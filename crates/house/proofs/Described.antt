-- What the judgement of rows and a table that holds them say of the house whose rows they are. Assumes nothing.
use Rattle.std.proofs.Common.{◌≡◌, ℕ, ◌≤◌, Bool, length, Ok, Err, Decides, Result, ap, ◌∙◌, arith, length-take, MatchResult}
use Rattle.std.proofs.lemmas.Bool.{le-leb}
use Rattle.std.proofs.lemmas.Bool.Decides.{Decides-like}
use Rattle.refusal.proofs.Judging.{then_at, check_at}
use Rattle.fixed.specs.Lists.{list_of}
use Rattle.fixed.specs.declared.list.FixedList.{FixedList}
use Rattle.tables.specs.Listed.{rows_judged, Holds, LatticeRows}
use Rattle.tables.specs.Rows.{listed_flow}
use Rattle.tables.specs.contracts.listed.ListedOrder.TheImpl.{ghosts as listed}
use Rattle.tables.specs.declared.fault.TableFault.{TableFault}
use Rattle.tables.specs.declared.fault.TableFault.TheVariants.{Rows}
use Rattle.tables.specs.declared.listed.Listed.{Listed as Table}
use Rattle.tables.specs.Lattices.{held_flow}
use Rattle.house.specs.Houses.{Built, house_judged, IsHouse, Means}
use Rattle.house.specs.declared.description.House.TheVariants.{Listed}

module _ (rows : FixedList ℕ 32) (few : rows.count ≤ 32) where
  -- a house of not too many rows is judged by them
  pub judged_rows : house_judged (Listed rows) ≡ rows_judged (list_of rows)
  judged_rows = then_at (rows_judged (list_of rows)) (check_at Rows (le-leb rows.count 32 few))

  pub decides_rows : (b : Bool) → Decides b (LatticeRows (list_of rows)) → Decides b (IsHouse (Listed rows))
  decides_rows b d = Decides-like b (λ l. (few, l)) (λ h. h.1) d

  -- a table that holds the rows means the house
  pub held_means : length rows.places ≡ 32 → (t : Table) → Holds (list_of rows) t.table.rows.count t.table.rows.places → Means (listed.meaning t) (Listed rows)
  held_means enough t h =
      let counted : length (list_of rows) ≡ rows.count = omega (arith, length-take rows.count rows.places) in
      record {
        counted = h.counted ∙ counted;
        flowing = λ a b.
            ap (λ (flow : ℕ → ℕ → Bool). flow a b)
            (held_flow (list_of rows) t.table.rows.count t.table.rows.places h ∙ ap (λ (n : ℕ). listed_flow n (list_of rows)) counted);
      }

  -- what making a table of the rows answers
  pub built_rows : length rows.places ≡ 32 → (r : Result Table TableFault) → MatchResult r (λ t. (rows_judged (list_of rows) ≡ Ok tt) × Holds (list_of rows) t.table.rows.count t.table.rows.places) (λ e. rows_judged (list_of rows) ≡ Err e) → Built listed.meaning (Listed rows) r
  built_rows enough (Ok t) h = (judged_rows ∙ h.0, held_means enough t h.1)
  built_rows enough (Err e) h = judged_rows ∙ h
