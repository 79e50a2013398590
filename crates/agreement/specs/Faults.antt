-- What each fault of an agreement is refused with: number, side, p and q.
use Rattle.std.specs.Prelude.{ℕ, Some, None}
use Rattle.refusal.specs.declared.Refusal.{Refusal}
use Rattle.agreement.specs.declared.fault.Broken.{Broken}
use Rattle.agreement.specs.declared.fault.Broken.TheVariants.{Length, Entry, NotMonotone, Falls, Drifts, TooMany, Unlawful}
use Rattle.agreement.specs.declared.fault.Fault.{Fault}

abbrev numbered : ℕ → ℕ → ℕ → Refusal
numbered n p q = record { number = n; side = None; p = p; q = q }

abbrev pub broken_refusal : Broken → Refusal
broken_refusal Length = numbered 7 64 0
broken_refusal (Entry label entry) = numbered 7 label entry
broken_refusal (NotMonotone a b) = numbered 8 a b
broken_refusal (Falls label) = numbered 9 label 0
broken_refusal (Drifts label) = numbered 10 label 0
broken_refusal TooMany = numbered 11 128 0
broken_refusal (Unlawful item label) = numbered 11 item label

-- the same with its side
abbrev pub fault_refusal : Fault → Refusal
fault_refusal f =
    let r = broken_refusal f.broken in
    record { number = r.number; side = Some f.side; p = r.p; q = r.q }
