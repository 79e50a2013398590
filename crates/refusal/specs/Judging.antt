-- Judgements: accepted, or refused with a fault. Several in a row give the first fault.
use Rattle.std.specs.Prelude.{ℕ, zero, suc, Bool, true, false, Ok, Err, Result}

infixr 30 ◌⨟◌
abbrev pub Judgement : Type 0 → Type 0
Judgement F = Result (Unit {0}) F

abbrev pub accepted : {F : Type 0} → Judgement F
accepted = Ok tt

-- the first judgement, and if it accepts, the second
abbrev pub ◌⨟◌ : {F : Type 0} → Judgement F → Judgement F → Judgement F
Ok u ⨟ s = s
Err e ⨟ s = Err e

-- refused with the fault unless the test holds
abbrev pub check : {F : Type 0} → Bool → F → Judgement F
check true e = accepted
check false e = Err e

-- the judgements of the n numbers from k on
abbrev pub each_from : {F : Type 0} → (ℕ → Judgement F) → ℕ → ℕ → Judgement F
each_from f k zero = accepted
each_from f k (suc n) = f k ⨟ each_from f (suc k) n

-- a fault carried inside another
abbrev pub under : {E F : Type 0} → (E → F) → Judgement E → Judgement F
under wrap (Ok u) = accepted
under wrap (Err e) = Err (wrap e)
