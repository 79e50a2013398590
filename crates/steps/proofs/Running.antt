-- What the lines that were read make of a script: its judgement and its writes. Assumes nothing.
use Rattle.std.proofs.Common.{◌≡◌, ℕ, true, List, [], ◌∷◌, ◌++◌, map, is_ok, Ok, Err, Result, sym, refl, ap, ◌∙◌}
use Rattle.std.proofs.lemmas.List.{flat_map_more}
use Rattle.std.specs.List.{flat_map}
use Rattle.bits.specs.Bits.{all_bits}
use Rattle.format.specs.Formats.{Reading, read}
use Rattle.refusal.specs.Judging.{accepted}
use Rattle.agreement.specs.Agreements.{Joint}
use Rattle.script.specs.Scripts.{script}
use Rattle.script.specs.declared.fault.ScriptFault.{ScriptFault}
use Rattle.script.specs.declared.line.Line.{Line}
use Rattle.machine.specs.Calls.{line_step, lines_judged, script_judged, script_writes}
use Rattle.machine.specs.Places.{Write, all_written}
use Rattle.machine.proofs.Places.{all_written_append}
use Rattle.machine.specs.Steps.{step_writes}
use Rattle.machine.specs.Types.{script_type}
use Rattle.machine.specs.declared.fault.RunFault.{RunFault}
use Rattle.machine.specs.declared.fault.RunFault.TheVariants.{Unreadable}
use Rattle.machine.specs.declared.script_type.ScriptType.{ScriptType}
use Rattle.machine.specs.declared.values.Values.{Values}

-- what can be read does not fail
pub not_failed : {A E : Type 0} {r : Result A E} {e : E} → r ≡ Err e → is_ok r ≡ true → ⊥
not_failed d h = cc

module _ (J : Joint) (bytes : List ℕ) (at : ℕ) where
  pub script_unread : (e : ScriptFault) → read script (all_bits bytes) at ≡ Err e → script_judged J bytes at ≡ Err (Unreadable e)
  unfolding script_judged
  script_unread e h = rw h

  pub script_refused : (ls : List Line) (q : ℕ) (e : RunFault) → read script (all_bits bytes) at ≡ Ok (ls, q) → lines_judged J 1 ls ≡ Err e → script_judged J bytes at ≡ Err e
  unfolding script_judged
  script_refused ls q e h j = rw (h, j)

  pub script_typed : (ls : List Line) (q : ℕ) → read script (all_bits bytes) at ≡ Ok (ls, q) → lines_judged J 1 ls ≡ accepted → script_judged J bytes at ≡ Ok (script_type J (map line_step ls))
  unfolding script_judged
  script_typed ls q h j = rw (h, j)

  -- a script that has a type can be read
  pub script_readable : (T : ScriptType) → script_judged J bytes at ≡ Ok T → is_ok (read script (all_bits bytes) at) ≡ true
  script_readable T j = by (read script (all_bits bytes) at) refl
    where
      by : (r : Reading ScriptFault (List Line)) → read script (all_bits bytes) at ≡ r → is_ok (read script (all_bits bytes) at) ≡ true
      by (Ok x) h = ap is_ok h
      by (Err e) h = absurd (cc (script_unread e h))

abbrev pub line_writes : List Line → List Write
line_writes ls = flat_map (λ l. step_writes (line_step l)) ls

pub writes_are : (bytes : List ℕ) (at : ℕ) (ls : List Line) (q : ℕ) → read script (all_bits bytes) at ≡ Ok (ls, q) → line_writes ls ≡ script_writes bytes at
unfolding script_writes
writes_are bytes at ls q h = rw h

-- one line more is done
pub written_push : (v before after : Values) (ls : List Line) (l : Line) → before ≡ all_written v (line_writes ls) → after ≡ all_written before (step_writes (line_step l)) → after ≡ all_written v (line_writes (ls ++ l ∷ []))
written_push v before after ls l was step =
    step ∙ ap (λ (w : Values). all_written w (step_writes (line_step l))) was
    ∙ sym (all_written_append v (line_writes ls) (step_writes (line_step l)))
    ∙ ap (all_written v) (flat_map_more (λ x. step_writes (line_step x)) [] ls l)
