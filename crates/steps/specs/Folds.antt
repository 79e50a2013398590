-- What the labels given so far have as their greatest lower label, in both houses.
use Rattle.std.specs.Prelude.{◌≡◌, ℕ, List, ◌++◌, map, Ok, Err, Option, Result, MatchResult}
use Rattle.bits.specs.Bits.{all_bits}
use Rattle.format.specs.Formats.{read}
use Rattle.refusal.specs.Judging.{accepted}
use Rattle.refusal.specs.declared.Side.{Side}
use Rattle.refusal.specs.declared.Side.TheVariants.{Near, Far}
use Rattle.order.specs.Bounds.{Joined}
use Rattle.order.specs.Orders.{PartialOrder, dual}
use Rattle.agreement.specs.Agreements.{Joint}
use Rattle.script.specs.Scripts.{script}
use Rattle.script.specs.declared.fault.ScriptFault.{ScriptFault}
use Rattle.script.specs.declared.line.Line.{Line}
use Rattle.machine.specs.Calls.{line_step, lines_judged}
use Rattle.machine.specs.Steps.{Step, step_judged}
use Rattle.machine.specs.Types.{given, all_given}
use Rattle.machine.specs.declared.fault.LineFault.{LineFault}
use Rattle.machine.specs.declared.fault.RunFault.TheVariants.{Line as in_line}
use Rattle.steps.specs.declared.typing.Lowest.{Lowest}

-- where `before` is the greatest lower label of some list, `now` is that of the list with more labels behind it
abbrev pub Lowers : PartialOrder → List ℕ → Option ℕ → Option ℕ → Type 0
Lowers P more before now = (ls : List ℕ) → Joined (dual P) ls before → Joined (dual P) (ls ++ more) now

-- the same in both houses, of the labels that each is given
abbrev pub LowersBy : Joint → (Side → List ℕ) → Lowest → Lowest → Type 0
LowersBy J more before now =
    Lowers (J.order Near) (more Near) before.near now.near × Lowers (J.order Far) (more Far) before.far now.far

-- of the labels that a step gives them
abbrev pub LowersBoth : Joint → Step → Lowest → Lowest → Type 0
LowersBoth J x before now = LowersBy J (λ u. given J u x) before now

-- the greatest lower labels of all that the steps give
abbrev pub LowestOf : Joint → List Step → Lowest → Type 0
LowestOf J xs b =
    Joined (dual (J.order Near)) (all_given J Near xs) b.near × Joined (dual (J.order Far)) (all_given J Far xs) b.far

-- the bounds after one line more, or its refusal; what was refused before stays refused
abbrev pub JudgesNext : Joint → Result Lowest LineFault → ℕ → Line → Result Lowest LineFault → Type 0
JudgesNext J (Ok b) k l r =
    MatchResult r (λ c. (step_judged J (line_step l) ≡ accepted) × LowersBoth J (line_step l) b c)
    (λ e. (step_judged J (line_step l) ≡ Err e.fault) × (e.line ≡ k))
JudgesNext J (Err e) k l r = r ≡ Err e

-- the bounds of the labels that accepted lines give, or their first refusal
abbrev pub JudgedSo : Joint → List Line → Result Lowest LineFault → Type 0
JudgedSo J ls r =
    MatchResult r (λ b. (lines_judged J 1 ls ≡ accepted) × LowestOf J (map line_step ls) b) (λ e. lines_judged J 1 ls ≡ Err (in_line e))

abbrev pub JudgesLines : Joint → List ℕ → ℕ → Result (Result Lowest LineFault) ScriptFault → Type 0
JudgesLines J bytes at r =
    let lines = read script (all_bits bytes) at in
    MatchResult r (λ judged. (ls : List Line) × (q : ℕ) × (lines ≡ Ok (ls, q)) × JudgedSo J ls judged) (λ e. lines ≡ Err e)
