-- Two memories that are alike in a closed view stay alike in it through any calls, and the calls answer alike. Assumes nothing.
use Rattle.std.proofs.Common.{◌≡◌, ℕ, ◌<◌, List, [], ◌∷◌, map, length, Some, None, Ok, Err, Result, sym, refl, ap, subst, ap₂, inl, inr, arith}
use Rattle.std.specs.List.{AllByRecursion}
use Rattle.refusal.specs.Judging.{Judgement, accepted, check, under}
use Rattle.refusal.specs.declared.Side.{Side}
use Rattle.refusal.proofs.Accepting.{check_accepted, both_accepted}
use Rattle.agreement.specs.Agreements.{Joint}
use Rattle.agreement.specs.declared.views.View.{View}
use Rattle.machine.specs.Places.{Place, place, values_in, held, Write, written, all_written}
use Rattle.machine.specs.Steps.{label_of, show_judged, step_judged, step_writes}
use Rattle.machine.specs.Calls.{Call, step, run, show, done, shown, fixed, value_at, Plan, plan, run_plan, if_accepted, answered, done_by, answer, after, answers, after_all, script_judged, script_writes}
use Rattle.machine.specs.Secrets.{item_at, KnownItem, Sees, Alike, Agree, AllAgree}
use Rattle.machine.specs.declared.fault.CallFault.{CallFault}
use Rattle.machine.specs.declared.fault.CallFault.TheVariants.{Step as in_step}
use Rattle.machine.specs.declared.fault.RunFault.{RunFault}
use Rattle.machine.specs.declared.fault.StepFault.{StepFault}
use Rattle.machine.specs.declared.fault.StepFault.TheVariants.{NotAllowed}
use Rattle.machine.specs.declared.script_type.ScriptType.{ScriptType}
use Rattle.machine.specs.declared.values.Values.{Values}
use Rattle.machine.proofs.Facts.{Facts, items}
use Rattle.machine.proofs.Places.{Sized, sized_put, put_alike}
use Rattle.machine.proofs.Views.{Closed, reaches_from_view}
use Rattle.machine.proofs.Accepted.{Readable, LawfulWrite, item_known, plan_lawful}

-- two memories of full size that are alike in the view
pub record Twins (J : Joint) (V : View) (v w : Values) : Type 0 where
  pub sized : Sized v
  pub sized_too : Sized w
  pub alike : Alike J V v w

module _ {J : Joint} (F : Facts J) (V : View) (closed : Closed J V) where
  -- a known item has its place in a memory of full size
  within : (v : Values) (p : Place) → Sized v → KnownItem J p → p.item < length (values_in v p.side)
  within v p sized h = omega (arith, sized p.side, (items F p.side).few)

  -- what is read for a target in the view is the same
  reads_alike : (v w : Values) → Alike J V v w → (to : Place) → Sees J V to.side (item_at J to).label → (ps : List Place) → AllByRecursion (Readable J to) ps → map (held v) ps ≡ map (held w) ps
  reads_alike v w alike to sees [] all = refl
  reads_alike v w alike to sees (p ∷ ps) all =
      ap₂ (λ (x : ℕ) (l : List ℕ). x ∷ l) (alike p all.0.0 (reaches_from_view F V closed _ _ _ _ all.0.1 sees)) (reads_alike v w alike to sees ps all.1)

  write_twins : (v w : Values) (x : Write) → LawfulWrite J x → Twins J V v w → Twins J V (written v x) (written w x)
  write_twins v w x lawful twins = record {
    sized = sized_put v x.target _ twins.sized;
    sized_too = sized_put w x.target _ twins.sized_too;
    alike = λ p known sees.
        put_alike v w x.target p _ _
        (within v x.target twins.sized lawful.known) (within w x.target twins.sized_too lawful.known)
        (λ q. ap x.result (reads_alike v w twins.alike x.target (subst (λ (r : Place). Sees J V r.side (item_at J r).label) (sym q) sees) x.reads lawful.reads))
        (twins.alike p known sees);
  }

  pub writes_twins : (v w : Values) (xs : List Write) → AllByRecursion (LawfulWrite J) xs → Twins J V v w → Twins J V (all_written v xs) (all_written w xs)
  writes_twins v w [] all twins = twins
  writes_twins v w (x ∷ xs) all twins = writes_twins (written v x) (written w x) xs all.1 (write_twins v w x all.0 twins)

  call_twins : (c : Call) (v w : Values) → Twins J V v w → Twins J V (after J v c) (after J w c)
  call_twins c v w twins = go (plan J c) refl
    where
      go : (r : Result Plan CallFault) → plan J c ≡ r → Twins J V (done_by v r) (done_by w r)
      go (Ok p) e = writes_twins v w p.writes (plan_lawful J c p e) twins
      go (Err y) e = twins

  -- what is shown at a label in the view is in the view
  show_sees : (s : Side) (l i : ℕ) → show_judged (J.order s) s (J.items s) l i ≡ accepted → (i < length (J.items s)) × (Sees J V s l → Sees J V s (label_of (J.items s) i))
  show_sees s l i e =
      let flows = check ((J.order s).flow (label_of (J.items s) i) l) (NotAllowed (Some s) i l) in
      let known = both_accepted _ flows (both_accepted _ _ e).1 in
      (item_known s _ _ None known.0, λ sees. (J.order s).transitive _ _ _ (check_accepted _ (NotAllowed (Some s) i l) known.1) sees)

  call_agrees : (c : Call) (v w : Values) → Twins J V v w → Agree J V c (answer J v c) (answer J w c)
  call_agrees (step x) v w twins = go (under in_step (step_judged J x))
    where
      go : (r : Judgement CallFault) → answered v (if_accepted r (record { writes = step_writes x; promise = fixed done })) ≡ answered w (if_accepted r (record { writes = step_writes x; promise = fixed done }))
      go (Ok u) = refl
      go (Err y) = refl
  call_agrees (run bytes at) v w twins = go (script_judged J bytes at)
    where
      go : (r : Result ScriptType RunFault) → answered v (run_plan r (script_writes bytes at)) ≡ answered w (run_plan r (script_writes bytes at))
      go (Ok T) = refl
      go (Err y) = refl
  call_agrees (show s l i) v w twins = go (show_judged (J.order s) s (J.items s) l i) refl
    where
      go : (r : Judgement StepFault) → show_judged (J.order s) s (J.items s) l i ≡ r → Agree J V (show s l i) (answered v (if_accepted (under in_step r) (record { writes = []; promise = value_at (place s i) }))) (answered w (if_accepted (under in_step r) (record { writes = []; promise = value_at (place s i) })))
      go (Ok u) e =
          let seen = show_sees s l i e in
          ((λ sees. ap (λ (x : ℕ). Ok (shown x)) (twins.alike (place s i) seen.0 (seen.1 sees))), inr (held v (place s i), held w (place s i), refl, refl))
      go (Err y) e = ((λ _. refl), inl refl)

  pub calls_twins : (cs : List Call) (v w : Values) → Twins J V v w → Twins J V (after_all J v cs) (after_all J w cs) × AllAgree J V cs (answers J v cs) (answers J w cs)
  calls_twins [] v w twins = (twins, tt)
  calls_twins (c ∷ cs) v w twins =
      let rest = calls_twins cs (after J v c) (after J w c) (call_twins c v w twins) in
      (rest.0, (call_agrees c v w twins, rest.1))
