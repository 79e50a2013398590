-- The writes of an accepted call are lawful: each into a known item, of known items that may come to be there. Assumes nothing.
use Rattle.std.proofs.Common.{◌≡◌, ℕ, suc, ◌<◌, true, List, [], ◌∷◌, map, length, get_or, Some, None, Ok, Err, Option, Result, sym, refl, ap, subst}
use Rattle.std.specs.List.{flat_map, AllByRecursion}
use Rattle.std.proofs.ByRecursion.{All-from_get_or, All-map, All-append}
use Rattle.std.proofs.lemmas.Bool.{ltb-true, and_parts}
use Rattle.bits.specs.Bits.{all_bits}
use Rattle.format.specs.Formats.{Reading, read}
use Rattle.refusal.specs.Judging.{Judgement, accepted, under}
use Rattle.refusal.specs.Sides.{other}
use Rattle.refusal.specs.declared.Side.{Side}
use Rattle.refusal.proofs.Accepting.{check_accepted, both_accepted, under_accepted, below_accepted}
use Rattle.agreement.specs.Agreements.{Joint}
use Rattle.agreement.specs.Maps.{moves}
use Rattle.agreement.specs.declared.item.Item.{Item}
use Rattle.agreement.specs.declared.item.Role.{Role}
use Rattle.agreement.specs.declared.item.Role.TheVariants.{Working, Import, Export}
use Rattle.script.specs.Lines.{blank}
use Rattle.script.specs.Scripts.{script}
use Rattle.script.specs.declared.fault.ScriptFault.{ScriptFault}
use Rattle.script.specs.declared.line.Assignment.{Assignment}
use Rattle.script.specs.declared.line.Line.{Line}
use Rattle.machine.specs.Operations.{operands}
use Rattle.machine.specs.Places.{Place, place, Write}
use Rattle.machine.specs.Steps.{Step, compute, fetch, store, move, label_of, item_judged, all_working, all_flow, roles_judged, assignment_roles, flows_judged, target_judged, pair_judged, compute_judged, copy_judged, step_judged, show_judged, assignment_write, copy_write, step_writes}
use Rattle.machine.specs.Types.{script_type}
use Rattle.machine.specs.Calls.{Call, step, run, show, Plan, plan, run_plan, done, typed, fixed, value_at, line_step, lines_judged, if_accepted, typed_lines, script_judged, line_writes, script_writes}
use Rattle.machine.specs.Secrets.{item_at, KnownItem}
use Rattle.machine.specs.declared.fault.CallFault.TheVariants.{Step as in_step}
use Rattle.machine.specs.declared.fault.RunFault.{RunFault}
use Rattle.machine.specs.declared.fault.StepFault.TheVariants.{NotAllowed}
use Rattle.machine.specs.declared.script_type.ScriptType.{ScriptType}
use Rattle.machine.proofs.Views.{reaches, reaches_inside, reaches_across}

-- a known item, whose label may come to be at the target's
abbrev pub Readable : Joint → Place → Place → Type 0
Readable J to p = KnownItem J p × (reaches J p.side (item_at J p).label to.side (item_at J to).label ≡ true)

pub record LawfulWrite (J : Joint) (w : Write) : Type 0 where
  pub known : KnownItem J w.target
  pub reads : AllByRecursion (Readable J w.target) w.reads

pub item_known : (s : Side) (xs : List Item) (i : ℕ) (role : Option Role) → item_judged s xs i role ≡ accepted → i < length xs
item_known s xs i role e = ltb-true _ _ (and_parts _ _ (check_accepted _ _ e)).0

module _ (J : Joint) where
  -- the items that are read, and that flow to the label of the target
  reads_lawful : (s : Side) (t : ℕ) (is : List ℕ) → all_working s (J.items s) is ≡ accepted → all_flow (J.order s) (J.items s) is (label_of (J.items s) t) ≡ true → AllByRecursion (Readable J (place s t)) (map (place s) is)
  reads_lawful s t [] w f = tt
  reads_lawful s t (i ∷ is) w f =
      let roles = both_accepted _ _ w in
      let flows = and_parts _ _ f in
      ((item_known s _ _ (Some Working) roles.0, reaches_inside J s _ _ flows.0), reads_lawful s t is roles.1 flows.1)

  assignment_lawful : (s : Side) (a : Assignment) → all_working s (J.items s) (a.target ∷ operands a) ≡ accepted → all_flow (J.order s) (J.items s) (operands a) (label_of (J.items s) a.target) ≡ true → LawfulWrite J (assignment_write s a)
  assignment_lawful s a w f =
      let roles = both_accepted _ _ w in
      record { known = item_known s _ _ (Some Working) roles.0; reads = reads_lawful s a.target (operands a) roles.1 f }

  -- of an accepted compute only this is used: the operands of each assignment flow to its own target
  compute_lawful : (s : Side) (bs : List Assignment) → compute_judged (J.order s) s (J.items s) bs ≡ accepted → AllByRecursion (LawfulWrite J) (map (assignment_write s) bs)
  compute_lawful s bs e =
      let P = J.order s in
      let xs = J.items s in
      let both = both_accepted (roles_judged s xs bs) (flows_judged P s xs bs) (both_accepted _ _ e).1 in
      All-map (LawfulWrite J) (assignment_write s) bs
      (All-from_get_or (λ a. LawfulWrite J (assignment_write s a)) bs blank (λ k h.
      assignment_lawful s (get_or bs k blank) (below_accepted (assignment_roles s xs bs) _ both.0 k h)
      (check_accepted _ (NotAllowed (Some s) k k) (below_accepted (pair_judged P s xs bs k) _ (below_accepted (target_judged P s xs bs) _ both.1 k h) k h))))

  copy_lawful : (s : Side) (to from : Role) (t q : ℕ) → copy_judged (J.order s) s (J.items s) to from t q ≡ accepted → AllByRecursion (LawfulWrite J) (copy_write (place s t) (place s q) ∷ [])
  copy_lawful s to from t q e =
      let target = both_accepted _ _ e in
      let source = both_accepted _ _ target.1 in (
        record {
          known = item_known s _ _ (Some to) target.0;
          reads = ((item_known s _ _ (Some from) source.0, reaches_inside J s _ _ (check_accepted _ (NotAllowed (Some s) t q) source.1)), tt);
        },
        tt,
      )

  -- a move between known items whose labels allow it
  pub across_lawful : (s : Side) (t q : ℕ) → t < length (J.items (other s)) → q < length (J.items s) → moves (J.order s) (J.order (other s)) (J.map s) (label_of (J.items s) q) (label_of (J.items (other s)) t) ≡ true → LawfulWrite J (copy_write (place (other s) t) (place s q))
  across_lawful s t q ht hq m = record { known = ht; reads = ((hq, reaches_across J s _ _ m), tt) }

  move_lawful : (s : Side) (t q : ℕ) → step_judged J (move s t q) ≡ accepted → AllByRecursion (LawfulWrite J) (step_writes (move s t q))
  move_lawful s t q e =
      let target = both_accepted _ _ e in
      let source = both_accepted _ _ target.1 in
      (across_lawful s t q (item_known (other s) _ _ (Some Import) target.0) (item_known s _ _ (Some Export) source.0) (check_accepted _ (NotAllowed None t q) source.1), tt)

  pub step_lawful : (x : Step) → step_judged J x ≡ accepted → AllByRecursion (LawfulWrite J) (step_writes x)
  step_lawful (compute s bs) e = compute_lawful s bs e
  step_lawful (fetch s t q) e = copy_lawful s Working Import t q e
  step_lawful (store s t q) e = copy_lawful s Export Working t q e
  step_lawful (move s t q) e = move_lawful s t q e

  -- the lines of an accepted script are accepted
  pub lines_accepted : (k : ℕ) (ls : List Line) → lines_judged J k ls ≡ accepted → AllByRecursion (λ l. step_judged J (line_step l) ≡ accepted) ls
  lines_accepted k [] e = tt
  lines_accepted k (l ∷ ls) e =
      let both = both_accepted _ _ e in
      (under_accepted _ _ both.0, lines_accepted (suc k) ls both.1)

  lines_lawful : (ls : List Line) → AllByRecursion (λ l. step_judged J (line_step l) ≡ accepted) ls → AllByRecursion (LawfulWrite J) (flat_map (λ l. step_writes (line_step l)) ls)
  lines_lawful [] all = tt
  lines_lawful (l ∷ ls) all = All-append _ _ _ (step_lawful (line_step l) all.0) (lines_lawful ls all.1)

-- an accepted script was read, and its lines were accepted
pub record ScriptAccepted (J : Joint) (bytes : List ℕ) (at : ℕ) (T : ScriptType) : Type 0 where
  pub lines : List Line
  pub end : ℕ
  pub was_read : read script (all_bits bytes) at ≡ Ok (lines, end)
  pub each : AllByRecursion (λ l. step_judged J (line_step l) ≡ accepted) lines
  pub type : script_type J (map line_step lines) ≡ T
  pub writes : script_writes bytes at ≡ flat_map (λ l. step_writes (line_step l)) lines

-- where a judgement lets a value through, it accepted, and the value is that one
accepted_if : {F A : Type 0} (r : Judgement F) (a b : A) → if_accepted r a ≡ Ok b → (r ≡ accepted) × (a ≡ b)
accepted_if (Ok u) a b e = (refl, cc)
accepted_if (Err x) a b e = absurd cc

pub script_accepted : (J : Joint) (bytes : List ℕ) (at : ℕ) (T : ScriptType) → script_judged J bytes at ≡ Ok T → ScriptAccepted J bytes at T
unfolding script_judged script_writes
script_accepted J bytes at T e = go (read script (all_bits bytes) at) refl e
  where
    go : (r : Reading ScriptFault (List Line)) → read script (all_bits bytes) at ≡ r → typed_lines J r ≡ Ok T → ScriptAccepted J bytes at T
    go (Ok x) q e =
        let both = accepted_if (lines_judged J 1 x.0) (script_type J (map line_step x.0)) T e in
        record { lines = x.0; end = x.1; was_read = q; each = lines_accepted J 1 x.0 both.0; type = both.1; writes = ap line_writes q }
    go (Err y) q e = absurd cc

pub plan_lawful : (J : Joint) (c : Call) (p : Plan) → plan J c ≡ Ok p → AllByRecursion (LawfulWrite J) p.writes
plan_lawful J (step x) p e =
    let both = accepted_if (under in_step (step_judged J x)) (record { writes = step_writes x; promise = fixed done }) p e in
    subst (λ (y : Plan). AllByRecursion (LawfulWrite J) y.writes) both.1 (step_lawful J x (under_accepted in_step (step_judged J x) both.0))
plan_lawful J (show s l i) p e =
    let both = accepted_if (under in_step (show_judged (J.order s) s (J.items s) l i)) (record { writes = []; promise = value_at (place s i) }) p e in
    subst (λ (y : Plan). AllByRecursion (LawfulWrite J) y.writes) both.1 tt
plan_lawful J (run bytes at) p e = go (script_judged J bytes at) refl e
  where
    go : (r : Result ScriptType RunFault) → script_judged J bytes at ≡ r → run_plan r (script_writes bytes at) ≡ Ok p → AllByRecursion (LawfulWrite J) p.writes
    go (Ok T) q e =
        let a = script_accepted J bytes at T q in
        let same : record { writes = script_writes bytes at; promise = fixed (typed T) } ≡ p = cc in
        subst (λ (y : Plan). AllByRecursion (LawfulWrite J) y.writes) same
        (subst (λ (ws : List Write). AllByRecursion (LawfulWrite J) ws) (sym a.writes) (lines_lawful J a.lines a.each))
    go (Err y) q e = absurd cc
