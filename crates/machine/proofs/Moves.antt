-- A move is refused exactly where its copy would leak. Assumes nothing.
use Rattle.std.proofs.Common.{◌≡◌, ℕ, ◌^◌, ◌<◌, Bool, true, false, Some, None, Err, sym, refl, ap, ◌∙◌, subst, inl, inr, arith, lit<}
use Rattle.std.proofs.lemmas.Bool.{lt-ltb, eq-eqb, and_from, both_ways}
use Rattle.refusal.specs.Judging.{Judgement, accepted, check, under}
use Rattle.refusal.specs.Sides.{other}
use Rattle.refusal.specs.declared.Side.{Side}
use Rattle.refusal.specs.declared.Side.TheVariants.{Near, Far}
use Rattle.refusal.proofs.Judging.{check_at, then_at}
use Rattle.agreement.specs.Agreements.{Joint}
use Rattle.agreement.specs.Maps.{at, moves}
use Rattle.agreement.specs.Views.{view_at, highest_in, view_in}
use Rattle.agreement.specs.declared.item.Role.{Role}
use Rattle.agreement.specs.declared.item.Role.TheVariants.{Import, Export}
use Rattle.agreement.specs.declared.views.View.{View}
use Rattle.machine.specs.Places.{Place, place, held, written}
use Rattle.machine.specs.Steps.{move, item_judged, label_of, copy_write, step_judged, step_writes}
use Rattle.machine.specs.Calls.{step, done, fixed, if_accepted, answered, answer, Answer}
use Rattle.machine.specs.Openings.{Opening, start}
use Rattle.machine.specs.Secrets.{item_at, HasRole, Sees, Leak, RefusedOnlyWhereItWouldLeak}
use Rattle.machine.specs.declared.fault.CallFault.TheVariants.{Step as in_step}
use Rattle.machine.specs.declared.fault.StepFault.{StepFault}
use Rattle.machine.specs.declared.fault.StepFault.TheVariants.{NotAllowed}
use Rattle.machine.specs.declared.values.Values.{Values}
use Rattle.machine.proofs.Facts.{Facts, total, monotone, items, lawful}
use Rattle.machine.proofs.Places.{held_put}
use Rattle.machine.proofs.Views.{moves_from, view_is, view_closed}
use Rattle.machine.proofs.Accepted.{across_lawful}
use Rattle.machine.proofs.Runs.{Twins, writes_twins}
use Rattle.machine.proofs.Openings.{start_sized, probe, probe_there, probe_elsewhere}

-- a known item of the role is suitable
suitable : (J : Joint) (s : Side) (i : ℕ) (r : Role) → HasRole J (place s i) r → item_judged s (J.items s) i (Some r) ≡ accepted
suitable J s i r has = check_at _ (and_from _ _ (lt-ltb _ _ has.0) (eq-eqb _ _ has.1))

other_other : (s : Side) → other (other s) ≡ s
other_other Near = refl
other_other Far = refl

-- the highest labels of a view, from its own side
own_highest : (s : Side) (own across : ℕ) → highest_in (view_at s own across) s ≡ own
own_highest Near own across = refl
own_highest Far own across = refl

across_highest : (s : Side) (own across : ℕ) → highest_in (view_at (other s) own across) s ≡ across
across_highest Near own across = refl
across_highest Far own across = refl

module _ {J : Joint} (F : Facts J) (s : Side) (t q : ℕ) (target : HasRole J (place (other s) t) Import) (source : HasRole J (place s q) Export) where
  abbrev allowed : Bool
  allowed = moves (J.order s) (J.order (other s)) (J.map s) (label_of (J.items s) q) (label_of (J.items (other s)) t)

  judged_so : step_judged J (move s t q) ≡ check allowed (NotAllowed None t q)
  judged_so = then_at _ (suitable J (other s) t Import target) ∙ then_at _ (suitable J s q Export source)

  -- the answer by whether the move is allowed
  abbrev answer_by : Values → Bool → Answer
  answer_by v b = answered v (if_accepted (under in_step (check b (NotAllowed None t q))) (record { writes = step_writes (move s t q); promise = fixed done }))

  answered_so : (v : Values) → answer J v (step (move s t q)) ≡ answer_by v allowed
  answered_so v = ap (λ (r : Judgement StepFault). answered v (if_accepted (under in_step r) (record { writes = step_writes (move s t q); promise = fixed done }))) judged_so

  -- an allowed copy does not leak
  allowed_keeps : allowed ≡ true → Leak J (place (other s) t) (place s q) → ⊥
  allowed_keeps e leak =
      let o = leak.observer in
      let twins : Twins J o.view (start leak.one) (start leak.two) = record { sized = start_sized F leak.one; sized_too = start_sized F leak.two; alike = leak.alike } in
      leak.differ (writes_twins F o.view (view_closed F o) (start leak.one) (start leak.two) (step_writes (move s t q)) (across_lawful J s t q target.0 source.0 e, tt) twins).alike

  abbrev label : ℕ
  label = label_of (J.items (other s)) t

  to_known : label < (J.order (other s)).count
  to_known = (lawful F (place (other s) t) target.0).label

  -- the label of an import is settled
  to_settled : at (J.map s) (at (J.map (other s)) label) ≡ label
  to_settled =
      ap (λ (u : Side). at (J.map u) (at (J.map (other s)) label)) (sym (other_other s))
      ∙ (lawful F (place (other s) t) target.0).settled (λ e. let z : ◌≡◌ {A = ℕ} 1 0 = sym target.1 ∙ e in omega arith)

  -- somebody cleared for the label of the target
  abbrev reader_view : View
  reader_view = view_at (other s) label (at (J.map (other s)) label)

  reader_sees : view_in J (other s) label ≡ Some reader_view
  reader_sees =
      view_is F (other s) label to_known
      ∙ ap (λ (u : Side). Some (view_at (other s) (at (J.map u) (at (J.map (other s)) label)) (at (J.map (other s)) label))) (other_other s)
      ∙ ap (λ (x : ℕ). Some (view_at (other s) x (at (J.map (other s)) label))) to_settled

  -- where the reader sees the source, the move is allowed
  source_seen : Sees J reader_view s (label_of (J.items s) q) → allowed ≡ true
  source_seen sees =
      let below : (J.order s).flow (label_of (J.items s) q) (at (J.map (other s)) label) ≡ true = rw across_highest at sees in
      moves_from _ _ _ _ _ (total F s) (lawful F (place s q) source.0).label (rw to_settled at (monotone F s _ _ below))

  reader_sees_target : Sees J reader_view (other s) label
  reader_sees_target = rw own_highest ((J.order (other s)).reflexive label to_known)

  abbrev holding : (x : ℕ) → x < 2 ^ 64 → Opening J
  holding x h = probe F s q x h

  -- what the copy leaves at the target
  copied : (x : ℕ) (h : x < 2 ^ 64) → held (written (start (holding x h)) (copy_write (place (other s) t) (place s q))) (place (other s) t) ≡ x
  copied x h =
      held_put (start (holding x h)) (other s) t (held (start (holding x h)) (place s q)) (omega (arith, start_sized F (holding x h) (other s), (items F (other s)).few, target.0))
      ∙ probe_there F s q x h source.0

  refused_leaks : allowed ≡ false → Leak J (place (other s) t) (place s q)
  refused_leaks e = record {
    observer = record { side = other s; label = label; known = to_known; view = reader_view; sees = reader_sees };
    one = holding 0 (lit< tt);
    two = holding 1 (lit< tt);
    alike = λ p known sees. elim (probe_elsewhere F s q 0 1 (lit< tt) (lit< tt) p known) [
      | inl same ↦ absurd (both_ways allowed e (source_seen (subst (λ (r : Place). Sees J reader_view r.side (item_at J r).label) (sym same) sees)))
      | inr kept ↦ kept
    ];
    differ = λ alike.
        let z : ◌≡◌ {A = ℕ} 0 1 = sym (copied 0 (lit< tt)) ∙ alike (place (other s) t) target.0 reader_sees_target ∙ copied 1 (lit< tt) in
        omega arith;
  }

  exact : (v : Values) → (answer J v (step (move s t q)) ≡ Err (in_step (NotAllowed None t q)) → Leak J (place (other s) t) (place s q)) × (Leak J (place (other s) t) (place s q) → answer J v (step (move s t q)) ≡ Err (in_step (NotAllowed None t q)))
  exact v = ((λ refused. leaks allowed refl (sym (answered_so v) ∙ refused)), λ leak. answered_so v ∙ refuses allowed refl leak)
    where
      leaks : (b : Bool) → allowed ≡ b → answer_by v b ≡ Err (in_step (NotAllowed None t q)) → Leak J (place (other s) t) (place s q)
      leaks true e refused = absurd cc
      leaks false e refused = refused_leaks e

      refuses : (b : Bool) → allowed ≡ b → Leak J (place (other s) t) (place s q) → answer_by v b ≡ Err (in_step (NotAllowed None t q))
      refuses true e leak = absurd (allowed_keeps e leak)
      refuses false e leak = refl

pub refused_only_where_it_would_leak : {J : Joint} → Facts J → RefusedOnlyWhereItWouldLeak J
refused_only_where_it_would_leak F s t q v target source = exact F s t q target source v
