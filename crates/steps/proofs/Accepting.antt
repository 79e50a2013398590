-- Lines judged one after the other, with the labels that they give. Assumes nothing.
use Rattle.std.proofs.Common.{◌≡◌, ℕ, suc, ◌+◌, List, [], ◌∷◌, ◌++◌, map, length, Ok, Err, Option, Result, sym, refl, ap, ◌∙◌, subst, arith}
use Rattle.std.proofs.lemmas.List.{flat_map_more, map_push}
use Rattle.refusal.specs.Judging.{Judgement, accepted, ◌⨟◌, under}
use Rattle.refusal.specs.declared.Side.{Side}
use Rattle.refusal.specs.declared.Side.TheVariants.{Near, Far}
use Rattle.refusal.proofs.Judging.{then_at}
use Rattle.order.specs.Bounds.{Joined}
use Rattle.order.specs.Orders.{dual}
use Rattle.agreement.specs.Agreements.{Joint}
use Rattle.script.specs.declared.line.Line.{Line}
use Rattle.machine.specs.Calls.{line_step, at_line, lines_judged}
use Rattle.machine.specs.Steps.{step_judged}
use Rattle.machine.specs.Types.{given, all_given}
use Rattle.machine.specs.declared.fault.LineFault.{LineFault}
use Rattle.machine.specs.declared.fault.RunFault.{RunFault}
use Rattle.steps.specs.Folds.{Lowers, JudgesNext, JudgedSo}
use Rattle.steps.specs.declared.typing.Lowest.{Lowest}

then_accepted : {F : Type 0} (r : Judgement F) → (r ⨟ accepted) ≡ r
then_accepted (Ok u) = refl
then_accepted (Err e) = refl

then_assoc : {F : Type 0} (r s t : Judgement F) → (r ⨟ (s ⨟ t)) ≡ ((r ⨟ s) ⨟ t)
then_assoc (Ok u) s t = refl
then_assoc (Err e) s t = refl

module _ (J : Joint) where
  abbrev judged_at : ℕ → Line → Judgement RunFault
  judged_at k l = under (at_line k) (step_judged J (line_step l))

  lines_push : (k : ℕ) (ls : List Line) (l : Line) → lines_judged J k (ls ++ l ∷ []) ≡ (lines_judged J k ls ⨟ judged_at (k + length ls) l)
  lines_push k [] l =
      let here : k ≡ k + 0 = omega arith in
      then_accepted _ ∙ ap (λ (n : ℕ). judged_at n l) here
  lines_push k (x ∷ ls) l =
      let here : suc k + length ls ≡ k + suc (length ls) = omega arith in
      ap (λ (r : Judgement RunFault). judged_at k x ⨟ r)
      (lines_push (suc k) ls l ∙ ap (λ (n : ℕ). lines_judged J (suc k) ls ⨟ judged_at n l) here)
      ∙ then_assoc (judged_at k x) (lines_judged J (suc k) ls) _

  given_push : (s : Side) (ls : List Line) (l : Line) → all_given J s (map line_step ls) ++ given J s (line_step l) ≡ all_given J s (map line_step (ls ++ l ∷ []))
  given_push s ls l = flat_map_more (given J s) [] (map line_step ls) (line_step l) ∙ ap (all_given J s) (sym (map_push line_step ls l))

  lowest_push : (s : Side) (ls : List Line) (l : Line) (before now : Option ℕ) → Joined (dual (J.order s)) (all_given J s (map line_step ls)) before → Lowers (J.order s) (given J s (line_step l)) before now → Joined (dual (J.order s)) (all_given J s (map line_step (ls ++ l ∷ []))) now
  lowest_push s ls l before now j lowers =
      subst (λ (xs : List ℕ). Joined (dual (J.order s)) xs now) (given_push s ls l) (lowers (all_given J s (map line_step ls)) j)

  -- one line more
  pub judged_push : (ls : List Line) (l : Line) (k : ℕ) (before after : Result Lowest LineFault) → length ls + 1 ≡ k → JudgedSo J ls before → JudgesNext J before k l after → JudgedSo J (ls ++ l ∷ []) after
  judged_push ls l k (Err e) after here judged next =
      subst (JudgedSo J (ls ++ l ∷ [])) (sym next) (lines_push 1 ls l ∙ then_at _ judged)
  judged_push ls l k (Ok b) (Ok c) here judged next = (
    lines_push 1 ls l ∙ then_at _ judged.0 ∙ ap (under (at_line (1 + length ls))) next.0,
    (lowest_push Near ls l b.near c.near judged.1.0 next.1.0, lowest_push Far ls l b.far c.far judged.1.1 next.1.1),
  )
  judged_push ls l k (Ok b) (Err e) here judged next =
      let line : 1 + length ls ≡ e.line = omega (arith, next.1) in
      lines_push 1 ls l ∙ then_at _ judged.0 ∙ ap (under (at_line (1 + length ls))) next.0
      ∙ ap (λ (n : ℕ). Err (at_line n e.fault)) line
