-- The steps: which are accepted, by what everyone knows (the orders, the maps and the items), and what they write.
use Rattle.std.specs.Prelude.{ℕ, Bool, true, ◌&&◌, List, [], ◌∷◌, map, length, get_or, is_some, Some, None, Option, ◌==◌, nat_le, nat_lt, slice_index, slice_index_or}
use Rattle.refusal.specs.Judging.{Judgement, accepted, ◌⨟◌, check, each_from}
use Rattle.refusal.specs.Sides.{other}
use Rattle.refusal.specs.declared.Side.{Side}
use Rattle.refusal.specs.declared.Side.TheVariants.{Near, Far}
use Rattle.order.specs.Orders.{PartialOrder}
use Rattle.agreement.specs.Agreements.{Joint}
use Rattle.agreement.specs.Maps.{moves}
use Rattle.agreement.specs.Roles.{role_number}
use Rattle.agreement.specs.Rules.{no_item}
use Rattle.agreement.specs.declared.item.Item.{Item}
use Rattle.agreement.specs.declared.item.Role.{Role}
use Rattle.agreement.specs.declared.item.Role.TheVariants.{Working, Import, Export}
use Rattle.script.specs.Lines.{blank}
use Rattle.script.specs.Operations.{operation_of}
use Rattle.script.specs.declared.line.Assignment.{Assignment}
use Rattle.machine.specs.Operations.{operands, result_at}
use Rattle.machine.specs.Places.{Place, place, Write}
use Rattle.machine.specs.declared.fault.StepFault.{StepFault}
use Rattle.machine.specs.declared.fault.StepFault.TheVariants.{Unsuitable, TooManyAssignments, UnknownOperation, NotAllowed, UnknownLabel}

-- A step, with any numbers and any count of assignments. Copies name their target and then their source; a move leaves the house of its side.
pub data Step : Type 0 where
  compute : Side → List Assignment → Step
  fetch store move : Side → ℕ → ℕ → Step

abbrev pub outward : ℕ → ℕ → Step
outward = move Near

abbrev pub inward : ℕ → ℕ → Step
inward = move Far

abbrev pub label_of : List Item → ℕ → ℕ
label_of xs i = (get_or xs i no_item).label

-- the role is the one that is needed
abbrev pub serves : Option Role → ℕ → Bool
serves (Some r) n = n == role_number (Some r)
serves None n = true

-- a known item of the role that is needed
abbrev pub item_judged : Side → List Item → ℕ → Option Role → Judgement StepFault
item_judged s xs i role = check (nat_lt i (length xs) && serves role (get_or xs i no_item).role) (Unsuitable s i role)

abbrev pub all_working : Side → List Item → List ℕ → Judgement StepFault
all_working s xs [] = accepted
all_working s xs (i ∷ is) = item_judged s xs i (Some Working) ⨟ all_working s xs is

-- A compute is judged in three parts: its form, its roles, and its flows.
abbrev pub operation_judged : Side → List Assignment → ℕ → Judgement StepFault
operation_judged s bs k = let n = (get_or bs k blank).operation in check (is_some (operation_of n)) (UnknownOperation s k n)

abbrev pub form_judged : Side → List Assignment → Judgement StepFault
form_judged s bs = check (nat_le (length bs) 8) (TooManyAssignments s) ⨟ each_from (operation_judged s bs) 0 (length bs)

abbrev pub assignment_roles : Side → List Item → List Assignment → ℕ → Judgement StepFault
assignment_roles s xs bs k = let a = get_or bs k blank in all_working s xs (a.target ∷ operands a)

abbrev pub roles_judged : Side → List Item → List Assignment → Judgement StepFault
roles_judged s xs bs = each_from (assignment_roles s xs bs) 0 (length bs)

abbrev pub all_flow : PartialOrder → List Item → List ℕ → ℕ → Bool
all_flow P xs [] l = true
all_flow P xs (i ∷ is) l = P.flow (label_of xs i) l && all_flow P xs is l

-- the operands at place k flow to the target at place i
abbrev pub pair_judged : PartialOrder → Side → List Item → List Assignment → ℕ → ℕ → Judgement StepFault
pair_judged P s xs bs i k = check (all_flow P xs (operands (slice_index_or bs k blank)) (label_of xs (get_or bs i blank).target)) (NotAllowed (Some s) i k)

abbrev pub target_judged : PartialOrder → Side → List Item → List Assignment → ℕ → Judgement StepFault
target_judged P s xs bs i = each_from (pair_judged P s xs bs i) 0 (length bs)

-- every operand of the compute flows to every target of it
abbrev pub flows_judged : PartialOrder → Side → List Item → List Assignment → Judgement StepFault
flows_judged P s xs bs = each_from (target_judged P s xs bs) 0 (length bs)

abbrev pub compute_judged : PartialOrder → Side → List Item → List Assignment → Judgement StepFault
compute_judged P s xs bs = form_judged s bs ⨟ roles_judged s xs bs ⨟ flows_judged P s xs bs

-- a copy inside a house
abbrev pub copy_judged : PartialOrder → Side → List Item → Role → Role → ℕ → ℕ → Judgement StepFault
copy_judged P s xs to from t q =
    item_judged s xs t (Some to) ⨟ item_judged s xs q (Some from) ⨟ check (P.flow (label_of xs q) (label_of xs t)) (NotAllowed (Some s) t q)

-- a copy across: the image of the source's label flows to the target's
abbrev pub move_judged : PartialOrder → PartialOrder → List ℕ → Side → List Item → List Item → ℕ → ℕ → Judgement StepFault
move_judged P Q m s xs ys t q =
    item_judged (other s) ys t (Some Import) ⨟ item_judged s xs q (Some Export) ⨟ check (moves P Q m (label_of xs q) (label_of ys t)) (NotAllowed None t q)

abbrev pub step_judged : Joint → Step → Judgement StepFault
step_judged J (compute s bs) = compute_judged (J.order s) s (J.items s) bs
step_judged J (fetch s t q) = copy_judged (J.order s) s (J.items s) Working Import t q
step_judged J (store s t q) = copy_judged (J.order s) s (J.items s) Export Working t q
step_judged J (move s t q) =
    move_judged (J.order s) (J.order (other s)) (J.map s) s (J.items s) (J.items (other s)) t q

-- a show at a label: a known one, of a known item whose label flows to it
abbrev pub show_judged : PartialOrder → Side → List Item → ℕ → ℕ → Judgement StepFault
show_judged P s xs l i =
    check (nat_lt l P.count) (UnknownLabel s l) ⨟ item_judged s xs i None ⨟ check (P.flow (label_of xs i) l) (NotAllowed (Some s) i l)

abbrev pub assignment_write : Side → Assignment → Write
assignment_write s a = record {
  target = place s a.target;
  reads = map (place s) (operands a);
  result = λ vs. result_at a.operation a.constant (slice_index vs 0) (slice_index vs 1);
}

abbrev pub copy_write : Place → Place → Write
copy_write to from = record { target = to; reads = from ∷ []; result = λ vs. slice_index vs 0 }

abbrev pub step_writes : Step → List Write
step_writes (compute s bs) = map (assignment_write s) bs
step_writes (fetch s t q) = copy_write (place s t) (place s q) ∷ []
step_writes (store s t q) = copy_write (place s t) (place s q) ∷ []
step_writes (move s t q) = copy_write (place (other s) t) (place s q) ∷ []
