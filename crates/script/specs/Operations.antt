-- The operations of assignments, by their numbers.
use Rattle.std.specs.Prelude.{ℕ, cond, Some, None, Option, ◌==◌}
use Rattle.script.specs.declared.operation.Operation.{Operation}
use Rattle.script.specs.declared.operation.Operation.TheVariants.{Put, Copy, Sum, Difference, Smaller, Larger}

-- the numbers: 0 put a constant, 1 copy, 2 sum, 3 difference, 4 the smaller, 5 the larger
abbrev pub operation_of : ℕ → Option Operation
operation_of n =
    cond (n == 0) (Some Put) (cond (n == 1) (Some Copy) (cond (n == 2) (Some Sum) (cond (n == 3) (Some Difference)
    (cond (n == 4) (Some Smaller) (cond (n == 5) (Some Larger) None)))))
