-- The operations of assignments: what they read, and what they give.
use Rattle.std.specs.Prelude.{ℕ, ◌+◌, ◌-◌, ◌%◌, ◌^◌, min, max, List, [], ◌∷◌, Some, None, Option}
use Rattle.script.specs.Operations.{operation_of}
use Rattle.script.specs.declared.line.Assignment.{Assignment}
use Rattle.script.specs.declared.operation.Operation.{Operation}
use Rattle.script.specs.declared.operation.Operation.TheVariants.{Put, Copy, Sum, Difference, Smaller, Larger}

-- the operands that an operation has, of two that it may have
abbrev pub taken_by : Option Operation → ℕ → ℕ → List ℕ
taken_by (Some Put) x y = []
taken_by (Some Copy) x y = x ∷ []
taken_by (Some Sum) x y = x ∷ y ∷ []
taken_by (Some Difference) x y = x ∷ y ∷ []
taken_by (Some Smaller) x y = x ∷ y ∷ []
taken_by (Some Larger) x y = x ∷ y ∷ []
taken_by None x y = []

-- the items that an assignment reads
abbrev pub operands : Assignment → List ℕ
operands a = taken_by (operation_of a.operation) a.left a.right

-- what an operation gives of a constant and of what its operands hold
abbrev pub result_by : Option Operation → ℕ → ℕ → ℕ → ℕ
result_by (Some Put) c x y = c
result_by (Some Copy) c x y = x
result_by (Some Sum) c x y = (x + y) % 2 ^ 64
result_by (Some Difference) c x y = (x + (2 ^ 64 - y)) % 2 ^ 64
result_by (Some Smaller) c x y = min x y
result_by (Some Larger) c x y = max x y
result_by None c x y = 0

abbrev pub result_at : ℕ → ℕ → ℕ → ℕ → ℕ
result_at n = result_by (operation_of n)
