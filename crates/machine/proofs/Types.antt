-- A run leaves what its lines leave, and changes only what lies above its type. Assumes nothing.
use Rattle.std.proofs.Common.{◌≡◌, ℕ, true, List, [], ◌∷◌, ◌++◌, map, length, replicate, Ok, Err, Option, Result, sym, refl, ap, ◌∙◌, subst, ap₂, inl, inr}
use Rattle.std.specs.List.{flat_map, AllByRecursion}
use Rattle.std.proofs.ByRecursion.{All-append}
use Rattle.bits.specs.Bits.{all_bits}
use Rattle.format.specs.Formats.{read}
use Rattle.script.specs.Scripts.{script}
use Rattle.refusal.specs.Judging.{accepted, under}
use Rattle.refusal.specs.Sides.{other}
use Rattle.refusal.specs.declared.Side.{Side}
use Rattle.refusal.specs.declared.Side.TheVariants.{Near, Far}
use Rattle.order.specs.Orders.{PartialOrder, dual}
use Rattle.order.specs.Bounds.{Known, Upper, Supremum}
use Rattle.order.proofs.Searches.{finds_supremum, found_supremum}
use Rattle.agreement.specs.Agreements.{Joint}
use Rattle.script.specs.declared.line.Assignment.{Assignment}
use Rattle.script.specs.declared.line.Line.{Line}
use Rattle.machine.specs.Places.{Place, place, held, Write, written, all_written}
use Rattle.machine.specs.Steps.{Step, compute, fetch, store, move, label_of, assignment_write, step_judged, step_writes}
use Rattle.machine.specs.Types.{for_house, given, all_given, lowest, or_top, type_in, script_type, type_of}
use Rattle.machine.specs.Calls.{Call, step, run, done, typed, fixed, run_plan, if_accepted, Answer, answered, done_by, answer, after, answers, after_all, line_step, script_judged, script_writes}
use Rattle.machine.specs.Secrets.{item_at, RunsAsItsLines, ARunIsItsLines}
use Rattle.machine.specs.declared.fault.CallFault.TheVariants.{Step as in_step}
use Rattle.machine.specs.declared.fault.RunFault.{RunFault}
use Rattle.machine.specs.declared.script_type.ScriptType.{ScriptType}
use Rattle.machine.specs.declared.values.Values.{Values}
use Rattle.machine.proofs.Facts.{Facts, lawful}
use Rattle.machine.proofs.Places.{written_or_kept, all_written_append}
use Rattle.machine.proofs.Accepted.{LawfulWrite, step_lawful, script_accepted}

-- the label of a house's type flows to the label of the place
abbrev Above : Joint → (Side → ℕ) → Place → Type 0
Above J T p = (J.order p.side).flow (T p.side) (item_at J p).label ≡ true

upper_append : (P : PartialOrder) (xs ys : List ℕ) (c : ℕ) → Upper P (xs ++ ys) c → Upper P xs c × Upper P ys c
upper_append P [] ys c up = (tt, up)
upper_append P (x ∷ xs) ys c up = let rest = upper_append P xs ys c up.1 in ((up.0, rest.0), rest.1)

known_append : (P : PartialOrder) (xs ys : List ℕ) → Known P xs → Known P ys → Known P (xs ++ ys)
known_append P [] ys k l = l
known_append P (x ∷ xs) ys k l = (k.0, known_append P xs ys k.1 l)

module _ (J : Joint) where
  -- T lies below every label that the step gives
  abbrev Below : (Side → ℕ) → Step → Type 0
  Below T x = (s : Side) → Upper (dual (J.order s)) (given J s x) (T s)

  targets_above : (T : Side → ℕ) (s : Side) (bs : List Assignment) → Upper (dual (J.order s)) (map (λ a. label_of (J.items s) a.target) bs) (T s) → AllByRecursion (λ w. Above J T w.target) (map (assignment_write s) bs)
  targets_above T s [] up = tt
  targets_above T s (b ∷ bs) up = (up.0, targets_above T s bs up.1)

  own_given : (T : Side → ℕ) (s : Side) (ls : List ℕ) → ((u : Side) → Upper (dual (J.order u)) (for_house s u ls) (T u)) → Upper (dual (J.order s)) ls (T s)
  own_given T Near ls below = below Near
  own_given T Far ls below = below Far

  step_above : (T : Side → ℕ) (x : Step) → Below T x → AllByRecursion (λ w. Above J T w.target) (step_writes x)
  step_above T (compute s bs) below = targets_above T s bs (own_given T s (map (λ a. label_of (J.items s) a.target) bs) below)
  step_above T (fetch s t q) below = ((own_given T s (label_of (J.items s) t ∷ []) below).0, tt)
  step_above T (store s t q) below = ((own_given T s (label_of (J.items s) t ∷ []) below).0, tt)
  step_above T (move s t q) below = (
    (own_given T (other s) (label_of (J.items (other s)) t ∷ [])
        (λ u. (upper_append (dual (J.order u)) (for_house s u (label_of (J.items s) q ∷ [])) _ (T u) (below u)).1)).0,
    tt,
  )

  steps_above : (T : Side → ℕ) (ls : List Line) → ((s : Side) → Upper (dual (J.order s)) (all_given J s (map line_step ls)) (T s)) → AllByRecursion (λ w. Above J T w.target) (flat_map (λ l. step_writes (line_step l)) ls)
  steps_above T [] below = tt
  steps_above T (l ∷ ls) below =
      let parts = λ (s : Side). upper_append (dual (J.order s)) (given J s (line_step l)) _ (T s) (below s) in
      All-append _ _ _ (step_above T (line_step l) (λ s. (parts s).0)) (steps_above T ls (λ s. (parts s).1))

  -- what writes change lies at one of their targets
  changed_above : (T : Side → ℕ) (v : Values) (ws : List Write) → AllByRecursion (λ w. Above J T w.target) ws → (p : Place) → (held (all_written v ws) p ≡ held v p → ⊥) → Above J T p
  changed_above T v [] all p changed = absurd (changed refl)
  changed_above T v (w ∷ ws) all p changed =
      elim (written_or_kept w.target p) [
        | inl same ↦ subst (λ (r : Place). Above J T r) same all.0
        | inr kept ↦ changed_above T (written v w) ws all.1 p (λ e. changed (e ∙ kept v (w.result (map (held v) w.reads))))
      ]

  -- an accepted step is done, and answers so
  step_done : (x : Step) (v : Values) → step_judged J x ≡ accepted → (after J v (step x) ≡ all_written v (step_writes x)) × (answer J v (step x) ≡ Ok done)
  step_done x v e =
      let so = ap (λ r. if_accepted (under in_step r) (record { writes = step_writes x; promise = fixed done })) e in
      (ap (done_by v) so, ap (answered v) so)

  abbrev line_calls : List Line → List Call
  line_calls ls = map (λ l. step (line_step l)) ls

  lines_done : (ls : List Line) (v : Values) → AllByRecursion (λ l. step_judged J (line_step l) ≡ accepted) ls → (all_written v (flat_map (λ l. step_writes (line_step l)) ls) ≡ after_all J v (line_calls ls)) × (answers J v (line_calls ls) ≡ replicate (length ls) (Ok done))
  lines_done [] v all = (refl, refl)
  lines_done (l ∷ ls) v all =
      let one = step_done (line_step l) v all.0 in
      let rest = lines_done ls (after J v (step (line_step l))) all.1 in (
        all_written_append v (step_writes (line_step l)) _
            ∙ ap (λ (w : Values). all_written w (flat_map (λ l. step_writes (line_step l)) ls)) (sym one.0) ∙ rest.0,
        ap₂ (λ (a : Answer) (b : List Answer). a ∷ b) one.1 rest.1,
      )

module _ {J : Joint} (F : Facts J) where
  -- the labels that an accepted step gives are known
  for_house_known : (s u : Side) (ls : List ℕ) → Known (J.order s) ls → Known (J.order u) (for_house s u ls)
  for_house_known Near Near ls k = k
  for_house_known Near Far ls k = tt
  for_house_known Far Near ls k = tt
  for_house_known Far Far ls k = k

  targets_known : (s : Side) (bs : List Assignment) → AllByRecursion (LawfulWrite J) (map (assignment_write s) bs) → Known (J.order s) (map (λ a. label_of (J.items s) a.target) bs)
  targets_known s [] all = tt
  targets_known s (b ∷ bs) all = ((lawful F (place s b.target) all.0.known).label, targets_known s bs all.1)

  given_known : (u : Side) (x : Step) → AllByRecursion (LawfulWrite J) (step_writes x) → Known (J.order u) (given J u x)
  given_known u (compute s bs) all = for_house_known s u (map (λ a. label_of (J.items s) a.target) bs) (targets_known s bs all)
  given_known u (fetch s t q) all = for_house_known s u (label_of (J.items s) t ∷ []) ((lawful F (place s t) all.0.known).label, tt)
  given_known u (store s t q) all = for_house_known s u (label_of (J.items s) t ∷ []) ((lawful F (place s t) all.0.known).label, tt)
  given_known u (move s t q) all =
      known_append (J.order u) _ _
      (for_house_known s u (label_of (J.items s) q ∷ []) ((lawful F (place s q) all.0.reads.0.0).label, tt))
      (for_house_known (other s) u (label_of (J.items (other s)) t ∷ []) ((lawful F (place (other s) t) all.0.known).label, tt))

  all_given_known : (u : Side) (ls : List Line) → AllByRecursion (λ l. step_judged J (line_step l) ≡ accepted) ls → Known (J.order u) (all_given J u (map line_step ls))
  all_given_known u [] all = tt
  all_given_known u (l ∷ ls) all =
      known_append (J.order u) _ _ (given_known u (line_step l) (step_lawful J (line_step l) all.0)) (all_given_known u ls all.1)

  -- a bound of known labels is there, and is the greatest lower one
  greatest : (u : Side) (ls : List ℕ) → Known (J.order u) ls → Supremum (dual (J.order u)) ls (or_top (J.order u) (lowest (J.order u) ls))
  greatest u ls known =
      let P = J.order u in
      let some = finds_supremum (dual P) (F.lattice u).meets (F.lattice u).joins ls (dual_known ls known) in
      subst (λ (o : Option ℕ). Supremum (dual P) ls (or_top P o)) (sym some.1) (found_supremum (dual P) ls some.0 some.1)
    where
      dual_known : (ls : List ℕ) → Known (J.order u) ls → Known (dual (J.order u)) ls
      dual_known [] k = tt
      dual_known (l ∷ ls) k = (k.0, dual_known ls k.1)

  type_greatest : (lines : List Line) (T : ScriptType) → AllByRecursion (λ l. step_judged J (line_step l) ≡ accepted) lines → script_type J (map line_step lines) ≡ T → (s : Side) → Supremum (dual (J.order s)) (all_given J s (map line_step lines)) (type_of T s)
  type_greatest lines T each same s =
      subst (λ (U : ScriptType). Supremum (dual (J.order s)) (all_given J s (map line_step lines)) (type_of U s)) same
      (go s (greatest s (all_given J s (map line_step lines)) (all_given_known s lines each)))
    where
      go : (s : Side) → Supremum (dual (J.order s)) (all_given J s (map line_step lines)) (type_in J s (map line_step lines)) → Supremum (dual (J.order s)) (all_given J s (map line_step lines)) (type_of (script_type J (map line_step lines)) s)
      go Near x = x
      go Far x = x

  pub a_run_is_its_lines : ARunIsItsLines J
  a_run_is_its_lines v bytes at T e = go (script_judged J bytes at) refl e
    where
      go : (r : Result ScriptType RunFault) → script_judged J bytes at ≡ r → answered v (run_plan r (script_writes bytes at)) ≡ Ok (typed T) →
          (lines : List Line) × (end : ℕ) × (read script (all_bits bytes) at ≡ Ok (lines, end)) × RunsAsItsLines J v bytes at T lines
      go (Err y) q e = absurd cc
      go (Ok U) q e =
          let same : U ≡ T = cc in
          let a = script_accepted J bytes at T (q ∙ ap Ok same) in
          let after_run : after J v (run bytes at) ≡ all_written v (flat_map (λ l. step_writes (line_step l)) a.lines) =
          ap (λ r. done_by v (run_plan r (script_writes bytes at))) q ∙ ap (all_written v) a.writes in
          let done_so = lines_done J a.lines v a.each in
          let top = type_greatest a.lines T a.each a.type in (
            a.lines,
            a.end,
            a.was_read,
            record {
              same_values = after_run ∙ done_so.0;
              none_refused = done_so.1;
              changes_above_the_type = λ p changed.
                  changed_above J (type_of T) v (flat_map (λ l. step_writes (line_step l)) a.lines) (steps_above J (type_of T) a.lines (λ s. (top s).upper)) p
                  (λ same. changed (ap (λ (w : Values). held w p) after_run ∙ same));
              greatest_type = top;
            },
          )
