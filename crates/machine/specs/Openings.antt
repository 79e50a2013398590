-- Openings of a certified session: two lists of values, as long as the items of their houses.
use Rattle.std.specs.Prelude.{◌≡◌, ℕ, ◌^◌, ◌<◌, List, length, ◌==◌, slice_index}
use Rattle.fixed.specs.Lists.{padded}
use Rattle.refusal.specs.Judging.{Judgement, accepted, ◌⨟◌, check}
use Rattle.refusal.specs.declared.Side.{Side}
use Rattle.refusal.specs.declared.Side.TheVariants.{Near, Far}
use Rattle.agreement.specs.Agreements.{Joint}
use Rattle.machine.specs.declared.fault.CallFault.{CallFault}
use Rattle.machine.specs.declared.fault.CallFault.TheVariants.{Values as wrong_length}
use Rattle.machine.specs.declared.values.Values.{Values}

abbrev pub length_judged : Joint → Side → List ℕ → Judgement CallFault
length_judged J s xs = check (length xs == length (J.items s)) (wrong_length s (length (J.items s)))

-- the near list and then the far list is as long as the items
abbrev pub opening_judged : Joint → List ℕ → List ℕ → Judgement CallFault
opening_judged J near far = length_judged J Near near ⨟ length_judged J Far far

-- the values that an opening sets, with zeros behind them
abbrev pub opened : List ℕ → List ℕ → Values
opened near far = record { near = padded 128 0 near; far = padded 128 0 far }

-- two lists that open a session
pub record Opening (J : Joint) : Type 0 where
  pub near : List ℕ
  pub far : List ℕ
  pub fits : opening_judged J near far ≡ accepted
  pub near_below : (i : ℕ) → slice_index near i < 2 ^ 64
  pub far_below : (i : ℕ) → slice_index far i < 2 ^ 64

abbrev pub start : {J : Joint} → Opening J → Values
start o = opened o.near o.far
