-- Scripts as formats: assignments, lines, and a whole script.
use Rattle.std.specs.Prelude.{◌≡◌, ℕ, suc, ◌+◌, ◌-◌, ◌^◌, Bool, List, length, Ok, Err, Result, ◌==◌, nat_lt}
use Rattle.bits.specs.Bits.{all_bits, piece}
use Rattle.bits.specs.declared.reader.Reader.{Reader}
use Rattle.format.specs.Formats.{Format, done, field, part, either, inside, many, read, Yields}
use Rattle.format.specs.declared.fault.FieldFault.{FieldFault}
use Rattle.script.specs.Lines.{assigned, Batch, batch, kind_of, compute, copy, target_of, source_of, batch_of, meant}
use Rattle.script.specs.declared.fault.ScriptFault.{ScriptFault}
use Rattle.script.specs.declared.line.Assignment.{Assignment}
use Rattle.script.specs.declared.line.Line.{Line}

-- 7 bits: the number of an item
abbrev pub item_field : Format FieldFault ℕ
item_field = field 7 0 127

-- 3 bits operation, up to 5; 7 bits target; then for operation 0 a 64-bit constant, for 1 one item, for 2 to 5 two
unfoldable pub assignment : Format FieldFault Assignment
assignment =
    part (field 3 0 5) (λ x. x.operation) (λ o.
    part item_field (λ x. x.target) (λ t.
    either (o == 0) (part (field 64 0 (2 ^ 64 - 1)) (λ x. x.constant) (λ c. done (assigned o t c 0 0)))
    (part item_field (λ x. x.left) (λ a.
    either (o == 1) (done (assigned o t 0 a 0))
    (part item_field (λ x. x.right) (λ b. done (assigned o t 0 a b)))))))

-- 4 bits count, up to 8, then as many assignments
unfoldable pub assignments : Format FieldFault Batch
assignments =
    part (field 4 0 8) (λ b. b.count) (λ n.
    part (many n (λ i e. e) assignment) meant (λ xs. done (batch xs)))

-- 3 bits kind; then the assignments of a compute, or 7 bits target and 7 bits source
unfoldable pub line : Format FieldFault Line
line =
    part (field 3 0 7) kind_of (λ k.
    either (nat_lt k 2) (part assignments batch_of (λ b. done (compute k b)))
    (part item_field target_of (λ t. part item_field source_of (λ s. done (copy k t s)))))

abbrev pub on_line : ℕ → FieldFault → ScriptFault
on_line k e = record { line = k; fault = e }

-- 8 bits line count, then the lines, numbered from 1
unfoldable pub script : Format ScriptFault (List Line)
script =
    part (inside (on_line 0) (field 8 0 255)) length (λ n.
    part (many n (λ i e. on_line (suc i) e) line) (λ ls. ls) (λ ls. done ls))

-- r is how many lines were read where a reader stands, and the reader stands behind the last of them afterwards
abbrev pub Passes : Reader → Result ℕ ScriptFault → Reader → Type 0
Passes before r after =
    let read_here = read script (all_bits before.bytes.now) before.at in
    Yields (λ n. (ls : List Line) × (read_here ≡ Ok (ls, after.at)) × (length ls ≡ n)) (λ e. read_here ≡ Err e) before r after

-- what was read between two bits is read wherever the same bits stand
abbrev pub OnlyTheseBits : List Bool → ℕ → ℕ → Type 0
OnlyTheseBits bits p q =
    (ls : List Line) → read script bits p ≡ Ok (ls, q) → (bits' : List Bool) (p' : ℕ) → piece bits' p' (q - p) ≡ piece bits p (q - p) → read script bits' p' ≡ Ok (ls, p' + (q - p))

-- r is what comes of reading n lines where a reader stands, and the reader stands behind the last of them afterwards
abbrev pub PassesLines : ℕ → Reader → Result (Unit {0}) ScriptFault → Reader → Type 0
PassesLines n before r after =
    let lines = read (many n (λ i e. on_line (suc i) e) line) (all_bits before.bytes.now) before.at in
    Yields (λ _. (ls : List Line) × (lines ≡ Ok (ls, after.at))) (λ e. lines ≡ Err e) before r after
