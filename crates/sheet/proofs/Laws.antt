-- A sheet is read without a fault exactly if it is the writing of what is read. Assumes nothing.
use Rattle.std.proofs.Common.{◌≡◌, ℕ, zero, suc, ◌+◌, ◌-◌, ◌<◌, ◌≤◌, Bool, true, false, cond, eqb, ltb, leb, List, [], ◌∷◌, ◌++◌, length, take, drop, replicate, Ok, Err, Result, sym, refl, ap, ◌∙◌, ap₂, zero-add, arith, pow_pos}
use Rattle.std.proofs.lemmas.List.{take-append-drop, drop_at, take_at, length-replicate, length-drop}
use Rattle.std.proofs.lemmas.Bool.{and_parts, and_from, ltb-true, lt-ltb, eqb-true, eq-eqb, leb-true, le-leb, lt-leb, cond-true}
use Rattle.bits.specs.Bits.{all_bits, number}
use Rattle.format.specs.Formats.{Format, Reading, followed, under, inside, read, write}
use Rattle.format.specs.declared.fault.FieldFault.{FieldFault}
use Rattle.script.specs.declared.fault.ScriptFault.{ScriptFault}
use Rattle.format.proofs.Laws.{was_written, read_back}
use Rattle.script.specs.Scripts.{script}
use Rattle.script.specs.declared.line.Line.{Line}
use Rattle.sheet.specs.Sheets.{front, sheet}
use Rattle.sheet.specs.Reading.{only_padding, Found, ended, bits_read, sheet_read, SheetOf, ReadsSheet, IsWritten, IsRead}
use Rattle.sheet.specs.declared.fault.SheetFault.{SheetFault}
use Rattle.sheet.specs.declared.fault.SheetFault.TheVariants.{TooLong, Field, Script, Trailing}
use Rattle.sheet.specs.declared.parts.Parts.{Parts}
use Rattle.sheet.specs.declared.parts.Sheet.{Sheet}
use Rattle.sheet.proofs.Sound.{sheet_sound}

-- bits that spell 0 are zeros
zeros : (l : List Bool) → number l ≡ 0 → l ≡ replicate (length l) false
unfolding number
zeros [] e = refl
zeros (true ∷ l) e = absurd (omega (arith, pow_pos (length l)))
zeros (false ∷ l) e = ap (λ (x : List Bool). false ∷ x) (zeros l (omega arith))

spells_zero : (n : ℕ) → number (replicate n false) ≡ 0
unfolding number
spells_zero zero = refl
spells_zero (suc n) = let e = spells_zero n in omega arith

-- what followed an answer
then_read : {F A B : Type 0} (r : Reading F A) (next : A → ℕ → Reading F B) (b : B) (q : ℕ) → followed r next ≡ Ok (b, q) → (a : A) × (p : ℕ) × (r ≡ Ok (a, p)) × (next a p ≡ Ok (b, q))
then_read (Ok x) next b q e = (x.0, x.1, refl, e)
then_read {F} {A} {B} (Err y) next b q e = let z : ◌≡◌ {A = ℕ} 0 1 = cc in absurd (omega arith)

module _ (bits : List Bool) where
  -- the two parts of a sheet, read one after the other
  whole : (parts : Parts) (p : ℕ) (lines : List Line) (q : ℕ) → read (inside Field front) bits 0 ≡ Ok (parts, p) → read (inside Script script) bits p ≡ Ok (lines, q) → read sheet bits 0 ≡ Ok ((parts, lines), q)
  unfolding sheet
  whole parts p lines q e h =
      ap (λ (r : Reading SheetFault Parts). followed r (λ a p. followed (read (inside Script script) bits p) (λ l q. Ok ((a, l), q)))) e
      ∙ ap (λ (r : Reading SheetFault (List Line)). followed r (λ l q. Ok ((parts, l), q))) h

  -- and taken apart again
  halves : (parts : Parts) (lines : List Line) (q : ℕ) → read sheet bits 0 ≡ Ok ((parts, lines), q) → (p : ℕ) × (read (inside Field front) bits 0 ≡ Ok (parts, p)) × (read (inside Script script) bits p ≡ Ok (lines, q))
  unfolding sheet
  halves parts lines q e =
      let first = then_read (read (inside Field front) bits 0) (λ a p. followed (read (inside Script script) bits p) (λ l q. Ok ((a, l), q))) (parts, lines) q e in
      let second = then_read (read (inside Script script) bits first.1) (λ l q. Ok ((first.0, l), q)) (parts, lines) q first.3 in
      let same : ◌≡◌ {A = (Parts × List Line) × ℕ} ((first.0, second.0), second.1) ((parts, lines), q) = ok_same second.3 in (
        first.1,
        first.2 ∙ ap (λ (x : (Parts × List Line) × ℕ). Ok (x.0.0, first.1)) same,
        second.2 ∙ ap (λ (x : (Parts × List Line) × ℕ). Ok (x.0.1, x.1)) same,
      )
    where
      ok_same : {x y : (Parts × List Line) × ℕ} → ◌≡◌ {A = Reading SheetFault (Parts × List Line)} (Ok x) (Ok y) → x ≡ y
      ok_same e = cc

-- a sheet that was read has these parts, and only padding behind them
found : (bits : List Bool) (parts : Parts) (p : ℕ) (lines : List Line) (q : ℕ) → bits_read bits ≡ Ok ((parts, (p, lines)), q) → (read sheet bits 0 ≡ Ok ((parts, lines), q)) × (only_padding bits q ≡ true)
found bits parts p lines q e =
    let first = then_read (read (inside Field front) bits 0) (λ a p. followed (read (inside Script script) bits p) (λ l q. ended bits a p l q)) (parts, (p, lines)) q e in
    let second = then_read (read (inside Script script) bits first.1) (λ l q. ended bits first.0 first.1 l q) (parts, (p, lines)) q first.3 in
    go first.0 first.1 second.0 second.1 first.2 second.2 (only_padding bits second.1) refl second.3
  where
    same : (x y : Found × ℕ) → ◌≡◌ {A = Reading SheetFault Found} (Ok x) (Ok y) → x ≡ y
    same x y e = cc

    go : (a : Parts) (n : ℕ) (l : List Line) (r : ℕ) → read (inside Field front) bits 0 ≡ Ok (a, n) → read (inside Script script) bits n ≡ Ok (l, r) → (b : Bool) → only_padding bits r ≡ b → cond {A = Reading SheetFault Found} b (Ok ((a, (n, l)), r)) (Err (Trailing r)) ≡ Ok ((parts, (p, lines)), q) → (read sheet bits 0 ≡ Ok ((parts, lines), q)) × (only_padding bits q ≡ true)
    go a n l r e h true t k =
        let x = same ((a, (n, l)), r) ((parts, (p, lines)), q) k in
        (whole bits a n l r e h ∙ ap (λ (y : Found × ℕ). Ok ((y.0.0, y.0.1.1), y.1)) x, ap (λ (y : Found × ℕ). only_padding bits y.1) (sym x) ∙ t)
    go a n l r e h false t k = let z : ◌≡◌ {A = ℕ} 0 1 = cc in absurd (omega arith)

-- what was read without a fault was written so
pub read_is_written : (bytes : List ℕ) (parts : Parts) (p : ℕ) (lines : List Line) (q : ℕ) → sheet_read bytes ≡ Ok ((parts, (p, lines)), q) → SheetOf bytes parts lines
unfolding sheet_read
read_is_written bytes parts p lines q e = go (leb (length bytes) 19659) refl e
  where
    go : (b : Bool) → leb (length bytes) 19659 ≡ b → cond b (bits_read (all_bits bytes)) (Err TooLong) ≡ Ok ((parts, (p, lines)), q) → SheetOf bytes parts lines
    go false t e = let z : ◌≡◌ {A = ℕ} 0 1 = cc in absurd (omega arith)
    go true t e =
        let f = found (all_bits bytes) parts p lines q e in
        let was = was_written sheet sheet_sound (all_bits bytes) 0 (parts, lines) q f.0 in
        let pad = and_parts (ltb (length (all_bits bytes) - q) 8) (eqb (number (drop q (all_bits bytes))) 0) f.1 in
        let rest = zeros (drop q (all_bits bytes)) (eqb-true (number (drop q (all_bits bytes))) 0 pad.1) in
        let long : q ≡ length (write sheet (parts, lines)) = omega (arith, was.next) in
        record {
          short = leb-true (length bytes) 19659 t;
          can = was.can;
          zeros = length (drop q (all_bits bytes));
          few = omega (arith, ltb-true (length (all_bits bytes) - q) 8 pad.0, length-drop q (all_bits bytes));
          bits = sym (take-append-drop q (all_bits bytes)) ∙ ap₂ (λ (x y : List Bool). x ++ y) (ap (λ (n : ℕ). take n (all_bits bytes)) long ∙ was.stands) rest;
        }

-- what is written so is read without a fault
pub written_is_read : (bytes : List ℕ) (parts : Parts) (lines : List Line) → SheetOf bytes parts lines → (p : ℕ) × (q : ℕ) × (sheet_read bytes ≡ Ok ((parts, (p, lines)), q))
unfolding sheet_read
written_is_read bytes parts lines s =
    let bits = all_bits bytes in
    let w = write sheet (parts, lines) in
    let q = 0 + length w in
    let stands = ap (λ (l : List Bool). take (length w) l) s.bits ∙ take_at w (replicate s.zeros false) (length w) refl in
    let back = read_back sheet sheet_sound bits 0 (parts, lines) s.can stands in
    let parted = halves bits parts lines q back in
    let rest : drop q bits ≡ replicate s.zeros false = ap (λ (l : List Bool). drop q l) s.bits ∙ drop_at w (replicate s.zeros false) q (sym (zero-add (length w))) in
    let pad : only_padding bits q ≡ true =
    and_from (ltb (length bits - q) 8) (eqb (number (drop q bits)) 0)
    (lt-ltb (length bits - q) 8 (omega (arith, s.few, length-drop q bits, ap length rest, length-replicate s.zeros false)))
    (eq-eqb (number (drop q bits)) 0 (ap number rest ∙ spells_zero s.zeros))
    in (
      parted.0,
      q,
      cond-true (leb (length bytes) 19659) (bits_read bits) (Err TooLong) (le-leb (length bytes) 19659 s.short)
          ∙ ap (λ (r : Reading SheetFault Parts). followed r (λ a p. followed (read (inside Script script) bits p) (λ l q. ended bits a p l q))) parted.1
          ∙ ap (λ (r : Reading SheetFault (List Line)). followed r (λ l q. ended bits parts parted.0 l q)) parted.2
          ∙ cond-true (only_padding bits q) (Ok ((parts, (parted.0, lines)), q)) (Err (Trailing q)) pad,
    )

-- how reading goes on, or where it stops
pub too_long : (bytes : List ℕ) → 19659 < length bytes → sheet_read bytes ≡ Err TooLong
unfolding sheet_read
too_long bytes h = ap (λ (b : Bool). cond b (bits_read (all_bits bytes)) (Err TooLong)) (lt-leb (length bytes) 19659 h)

module _ (bytes : List ℕ) (short : length bytes ≤ 19659) where
  within : sheet_read bytes ≡ bits_read (all_bits bytes)
  unfolding sheet_read
  within = ap (λ (b : Bool). cond b (bits_read (all_bits bytes)) (Err TooLong)) (le-leb (length bytes) 19659 short)

  after_front : Reading SheetFault Parts → Reading SheetFault Found
  after_front r = followed r (λ parts p. followed (read (inside Script script) (all_bits bytes) p) (λ lines q. ended (all_bits bytes) parts p lines q))

  pub front_stops : (e : FieldFault) → read front (all_bits bytes) 0 ≡ Err e → sheet_read bytes ≡ Err (Field e)
  unfolding after_front
  front_stops e h = within ∙ ap (λ r. after_front (under Field r)) h

  module _ (parts : Parts) (p : ℕ) (front_read : read front (all_bits bytes) 0 ≡ Ok (parts, p)) where
    pub script_stops : (e : ScriptFault) → read script (all_bits bytes) p ≡ Err e → sheet_read bytes ≡ Err (Script e)
    unfolding after_front
    script_stops e h =
        within ∙ ap (λ r. after_front (under Field r)) front_read
        ∙ ap (λ r. followed (under Script r) (λ lines q. ended (all_bits bytes) parts p lines q)) h

    pub sheet_ends : (lines : List Line) (q : ℕ) → read script (all_bits bytes) p ≡ Ok (lines, q) → sheet_read bytes ≡ ended (all_bits bytes) parts p lines q
    unfolding after_front
    sheet_ends lines q h =
        within ∙ ap (λ r. after_front (under Field r)) front_read
        ∙ ap (λ r. followed (under Script r) (λ lines q. ended (all_bits bytes) parts p lines q)) h

-- the two promises of reading, from its answer
pub sheet_written : (bytes : List ℕ) (r : Result Sheet SheetFault) → ReadsSheet bytes r → IsWritten bytes r
sheet_written bytes (Ok s) reads = (reads.0, read_is_written bytes s.parts s.script reads.0 reads.1 reads.2, reads.3)
sheet_written bytes (Err e) reads = tt

pub sheet_back : (bytes : List ℕ) (r : Result Sheet SheetFault) → ReadsSheet bytes r → IsRead bytes r
sheet_back bytes (Ok s) reads parts ls is =
    let back = written_is_read bytes parts ls is in
    let same : ◌≡◌ {A = Found × ℕ} ((s.parts, (s.script, reads.0)), reads.1) ((parts, (back.0, ls)), back.1) = cc (reads.2, back.2) in
    (ap (λ (x : Found × ℕ). x.0.0) same, ap (λ (x : Found × ℕ). length x.0.1.1) (sym same) ∙ reads.3)
sheet_back bytes (Err e) reads parts ls is =
    let back = written_is_read bytes parts ls is in
    let z : ◌≡◌ {A = ℕ} 0 1 = cc (reads, back.2) in
    absurd (omega arith)

-- the same bytes and the same bit
pub moved : {F A : Type 0} (f : Format F A) (b b' : List ℕ) (p p' : ℕ) (r : Reading F A) → b ≡ b' → p ≡ p' → read f (all_bits b) p ≡ r → read f (all_bits b') p' ≡ r
moved f b b' p p' r e h k = ap₂ (λ (x : List ℕ) (y : ℕ). read f (all_bits x) y) (sym e) (sym h) ∙ k
