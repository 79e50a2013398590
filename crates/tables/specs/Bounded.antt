-- Judging all pairs of labels, and whether two labels have a least upper one. A greatest lower label is a least upper one where flow runs the other way.
use Rattle.std.specs.Prelude.{◌≡◌, ℕ, zero, suc, ◌+◌, ◌-◌, ◌<◌, Bool, false, not, ◌&&◌, ◌||◌, List, IfSome, Some, None, Option}
use Rattle.order.specs.Orders.{PartialOrder}
use Rattle.order.specs.Bounds.{Upper, Supremum}
use Rattle.order.specs.Search.{all_below}
use Rattle.order.specs.declared.bound.Bound.{Bound}
use Rattle.order.specs.declared.bound.Bound.TheVariants.{Join, Meet}
use Rattle.refusal.specs.Judging.{Judgement, check, each_from}
use Rattle.tables.specs.declared.fault.TableFault.{TableFault}
use Rattle.tables.specs.declared.fault.TableFault.TheVariants.{NoJoin, NoMeet}

-- the test holds of some number below n
abbrev pub any_below : (ℕ → Bool) → ℕ → Bool
any_below p zero = false
any_below p (suc n) = p n || any_below p n

-- the judgements of the pairs (a, b) with b from a + 1 to n - 1
abbrev pub each_after : {F : Type 0} → (ℕ → ℕ → Judgement F) → ℕ → ℕ → Judgement F
each_after f n a = each_from (f a) (a + 1) (n - (a + 1))

-- the judgements of all pairs a < b below n, by a and then by b
abbrev pub each_pair : {F : Type 0} → (ℕ → ℕ → Judgement F) → ℕ → Judgement F
each_pair f n = each_from (each_after f n) 0 n

-- a and b flow to c
abbrev pub upper : (ℕ → ℕ → Bool) → ℕ → ℕ → ℕ → Bool
upper flow a b c = flow a c && flow b c

-- c flows to every label that a and b flow to
abbrev pub least : ℕ → (ℕ → ℕ → Bool) → ℕ → ℕ → ℕ → Bool
least n flow a b c = all_below (λ d. not (upper flow a b d) || flow c d) n

-- some label is the least that a and b flow to
unfoldable pub bounded : ℕ → (ℕ → ℕ → Bool) → ℕ → ℕ → Bool
bounded n flow a b = any_below (λ c. upper flow a b c && least n flow a b c) n

-- the same of the labels of an order
abbrev pub least_in : PartialOrder → ℕ → ℕ → ℕ → Bool
least_in P a b c = least P.count P.flow a b c

abbrev pub bounded_in : PartialOrder → ℕ → ℕ → Bool
bounded_in P a b = bounded P.count P.flow a b

-- flow in the direction in which the bound that is asked for is a least upper one
abbrev pub flow_toward : Bound → (ℕ → ℕ → Bool) → ℕ → ℕ → Bool
flow_toward Join flow = flow
flow_toward Meet flow = λ a b. flow b a

-- the fault of two labels that lack the bound
abbrev pub lacking : Bound → ℕ → ℕ → TableFault
lacking Join a b = NoJoin a b
lacking Meet a b = NoMeet a b

abbrev pub bounded_at : Bound → ℕ → (ℕ → ℕ → Bool) → ℕ → ℕ → Judgement TableFault
bounded_at which n flow a b = check (bounded n (flow_toward which flow) a b) (lacking which a b)

-- every two labels have the bound, or the first pair that lacks it
abbrev pub bounds_judged : Bound → ℕ → (ℕ → ℕ → Bool) → Judgement TableFault
bounds_judged which n flow = each_pair (bounded_at which n flow) n

-- a and b flow to c, and c flows to the best so far, if there is one
abbrev pub better : (ℕ → ℕ → Bool) → ℕ → ℕ → ℕ → Option ℕ → Bool
better flow a b c None = upper flow a b c
better flow a b c (Some best) = upper flow a b c && flow c best

-- what a pass over all labels comes to: an upper label, and the least one if there is one
pub record Candidate (P : PartialOrder) (xs : List ℕ) (r : Option ℕ) : Type 0 where
  pub above : IfSome r (λ c. (c < P.count) × Upper P xs c)
  pub first : (c : ℕ) → Supremum P xs c → r ≡ Some c
