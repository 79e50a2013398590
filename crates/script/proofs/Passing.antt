-- Going through a script without keeping its lines. Assumes nothing.
use Rattle.std.proofs.Common.{◌≡◌, ℕ, suc, ◌+◌, ◌-◌, Bool, List, length, Ok, Err, sym, ap, ◌∙◌, arith}
use Rattle.bits.specs.Bits.{piece}
use Rattle.format.specs.Formats.{Reading, followed, inside, many, field, read, write}
use Rattle.format.proofs.Loops.{ends_at}
use Rattle.format.proofs.Laws.{was_written, read_back}
use Rattle.script.specs.Scripts.{line, on_line, script, OnlyTheseBits}
use Rattle.script.specs.declared.fault.ScriptFault.{ScriptFault}
use Rattle.script.specs.declared.line.Line.{Line}
use Rattle.script.proofs.Sound.{line_sound, script_sound}

-- what ended at a bit was read up to there
pub ended : {F A : Type 0} (r : Reading F A) (p : ℕ) → ends_at r ≡ Ok (tt, p) → (a : A) × (r ≡ Ok (a, p))
ended (Ok x) p e = let same : ◌≡◌ {A = Unit {0} × ℕ} (tt, x.1) (tt, p) = cc in (x.0, ap (λ (y : Unit {0} × ℕ). Ok (x.0, y.1)) same)
ended (Err y) p e = let z : ◌≡◌ {A = ℕ} 0 1 = cc in absurd (omega arith)

-- a script is its line count and its lines
pub script_read : (bits : List Bool) (p n q : ℕ) (ls : List Line) (r : ℕ) → read (inside (on_line 0) (field 8 0 255)) bits p ≡ Ok (n, q) → read (many n (λ i e. on_line (suc i) e) line) bits q ≡ Ok (ls, r) → read script bits p ≡ Ok (ls, r)
unfolding script
script_read bits p n q ls r e h =
    ap (λ (x : Reading ScriptFault ℕ). followed x (λ n q. followed (read (many n (λ i e. on_line (suc i) e) line) bits q) (λ ls r. Ok (ls, r)))) e
    ∙ ap (λ (x : Reading ScriptFault (List Line)). followed x (λ ls r. Ok (ls, r))) h

pub script_fails : (bits : List Bool) (p n q : ℕ) (e : ScriptFault) → read (inside (on_line 0) (field 8 0 255)) bits p ≡ Ok (n, q) → read (many n (λ i e. on_line (suc i) e) line) bits q ≡ Err e → read script bits p ≡ Err e
unfolding script
script_fails bits p n q e h k =
    ap (λ (x : Reading ScriptFault ℕ). followed x (λ n q. followed (read (many n (λ i e. on_line (suc i) e) line) bits q) (λ ls r. Ok (ls, r)))) h
    ∙ ap (λ (x : Reading ScriptFault (List Line)). followed x (λ ls r. Ok (ls, r))) k

pub count_fails : (bits : List Bool) (p : ℕ) (e : ScriptFault) → read (inside (on_line 0) (field 8 0 255)) bits p ≡ Err e → read script bits p ≡ Err e
unfolding script
count_fails bits p e h = ap (λ (x : Reading ScriptFault ℕ). followed x (λ n q. followed (read (many n (λ i e. on_line (suc i) e) line) bits q) (λ ls r. Ok (ls, r)))) h

-- a script depends on its own bits alone
pub only_these_bits : (bits : List Bool) (p q : ℕ) → OnlyTheseBits bits p q
only_these_bits bits p q ls e bits' p' same =
    let was = was_written script script_sound bits p ls q e in
    let long : length (write script ls) ≡ q - p = omega (arith, was.next) in
    let stands = ap (λ (n : ℕ). piece bits' p' n) long ∙ same ∙ ap (λ (n : ℕ). piece bits p n) (sym long) ∙ was.stands in
    read_back script script_sound bits' p' ls was.can stands ∙ ap (λ (n : ℕ). Ok (ls, p' + n)) long

-- a script that was read has as many lines as its line count says
pub counted : (bits : List Bool) (q n : ℕ) (ls : List Line) (r : ℕ) → read (many n (λ i e. on_line (suc i) e) line) bits q ≡ Ok (ls, r) → length ls ≡ n
counted bits q n ls r e = (was_written (many n (λ i e. on_line (suc i) e) line) line_sound bits q ls r e).can.0
