-- What is wrong with a table, and the refusal that names it.
use Rattle.std.specs.Prelude.{ℕ, None}
use Rattle.refusal.specs.declared.Refusal.{Refusal}
use Rattle.tables.specs.declared.fault.TableFault.{TableFault}
use Rattle.tables.specs.declared.fault.TableFault.TheVariants.{Rows, Limits, NotReflexive, NotAntisymmetric, NotTransitive, NoJoin, NoMeet}

-- a refusal that is about no side
abbrev pub refused : ℕ → ℕ → ℕ → Refusal
refused number p q = record { number = number; side = None; p = p; q = q }

abbrev pub refusal_of : TableFault → Refusal
refusal_of Rows = refused 4 0 0
refusal_of (Limits levels compartments) = refused 4 levels compartments
refusal_of (NotReflexive a) = refused 4 a a
refusal_of (NotAntisymmetric a b) = refused 4 a b
refusal_of (NotTransitive a b) = refused 4 a b
refusal_of (NoJoin a b) = refused 5 a b
refusal_of (NoMeet a b) = refused 5 a b
