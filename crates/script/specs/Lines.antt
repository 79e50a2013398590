-- Lines by their kinds, and the assignments of a compute.
use Rattle.std.specs.Prelude.{ℕ, cond, List, [], ◌==◌}
use Rattle.fixed.specs.Lists.{list_of, filled}
use Rattle.fixed.specs.declared.list.FixedList.{FixedList}
use Rattle.refusal.specs.declared.Side.TheVariants.{Near, Far}
use Rattle.script.specs.declared.line.Assignment.{Assignment}
use Rattle.script.specs.declared.line.Line.{Line}
use Rattle.script.specs.declared.line.Line.TheVariants.{Compute, Fetch, Store, Outward, Inward}

abbrev pub assigned : ℕ → ℕ → ℕ → ℕ → ℕ → Assignment
assigned operation target constant left right = record { operation = operation; target = target; constant = constant; left = left; right = right }

abbrev pub blank : Assignment
blank = assigned 0 0 0 0 0

-- up to 8 assignments
abbrev pub Batch : Type 0
Batch = FixedList Assignment 8

-- assignments, with blanks behind them
abbrev pub batch : List Assignment → Batch
batch xs = filled 8 blank xs

-- the kinds: 0 compute near, 1 compute far, 2 fetch near, 3 fetch far, 4 store near, 5 store far, 6 outward, 7 inward
abbrev pub kind_of : Line → ℕ
kind_of (Compute Near b) = 0
kind_of (Compute Far b) = 1
kind_of (Fetch Near t s) = 2
kind_of (Fetch Far t s) = 3
kind_of (Store Near t s) = 4
kind_of (Store Far t s) = 5
kind_of (Outward t s) = 6
kind_of (Inward t s) = 7

abbrev pub compute : ℕ → Batch → Line
compute k b = Compute (cond (k == 0) Near Far) b

-- a line of kind 2 to 7 that copies a source to a target
abbrev pub copy : ℕ → ℕ → ℕ → Line
copy k t s =
    cond (k == 2) (Fetch Near t s) (cond (k == 3) (Fetch Far t s) (cond (k == 4) (Store Near t s)
    (cond (k == 5) (Store Far t s) (cond (k == 6) (Outward t s) (Inward t s)))))

abbrev pub target_of : Line → ℕ
target_of (Compute s b) = 0
target_of (Fetch h t s) = t
target_of (Store h t s) = t
target_of (Outward t s) = t
target_of (Inward t s) = t

abbrev pub source_of : Line → ℕ
source_of (Compute s b) = 0
source_of (Fetch h t s) = s
source_of (Store h t s) = s
source_of (Outward t s) = s
source_of (Inward t s) = s

abbrev pub no_batch : Batch
no_batch = batch []

abbrev pub batch_of : Line → Batch
batch_of (Compute s b) = b
batch_of (Fetch h t s) = no_batch
batch_of (Store h t s) = no_batch
batch_of (Outward t s) = no_batch
batch_of (Inward t s) = no_batch

-- the assignments that are meant
abbrev pub meant : Batch → List Assignment
meant b = list_of b
