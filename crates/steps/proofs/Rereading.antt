-- The lines of a script, read one after the other: what was read so far, and what comes of it at the end. Assumes nothing.
use Rattle.std.proofs.Common.{◌≡◌, ℕ, suc, ◌+◌, ◌<◌, ◌≤◌, List, [], ◌∷◌, ◌++◌, length, Ok, Err, sym, refl, ap, ◌∙◌, ap₂, subst, arith, add-one}
use Rattle.std.proofs.lemmas.List.{length_push}
use Rattle.bits.specs.Bits.{all_bits}
use Rattle.bits.specs.declared.reader.Reader.{Reader}
use Rattle.format.specs.Formats.{Reading, field, inside, many, read, under}
use Rattle.format.specs.declared.fault.FieldFault.{FieldFault}
use Rattle.format.proofs.Loops.{Left, left_start, left_more, left_stop, left_end}
use Rattle.script.specs.Scripts.{line, on_line, script}
use Rattle.script.specs.declared.fault.ScriptFault.{ScriptFault}
use Rattle.script.specs.declared.line.Line.{Line}
use Rattle.script.proofs.Passing.{script_read, script_fails, count_fails}

-- n lines begin where the reader stands, since the line count of the script in the bytes was read before them
pub record Counted (bytes : List ℕ) (at n : ℕ) (start : Reader) : Type 0 where
  pub same : start.bytes.now ≡ bytes
  pub count : read (inside (on_line 0) (field 8 0 255)) (all_bits bytes) at ≡ Ok (n, start.at)

-- a new reader reads what stands in the bytes
module _ {bytes : List ℕ} {at : ℕ} (first : Reader) (opened : first.bytes.now ≡ bytes) (there : first.at ≡ at) where
  opened_at : (r : Reading ScriptFault ℕ) → read (inside (on_line 0) (field 8 0 255)) (all_bits first.bytes.now) first.at ≡ r → read (inside (on_line 0) (field 8 0 255)) (all_bits bytes) at ≡ r
  opened_at r e = ap₂ (λ (b : List ℕ) (p : ℕ). read (inside (on_line 0) (field 8 0 255)) (all_bits b) p) (sym opened) (sym there) ∙ e

  pub counted : (n : ℕ) (start : Reader) → start.bytes ≡ first.bytes → read (inside (on_line 0) (field 8 0 255)) (all_bits first.bytes.now) first.at ≡ Ok (n, start.at) → Counted bytes at n start
  counted n start stays e = record { same = ap (λ x. x.now) stays ∙ opened; count = opened_at (Ok (n, start.at)) e }

  pub uncounted : (e : ScriptFault) → read (inside (on_line 0) (field 8 0 255)) (all_bits first.bytes.now) first.at ≡ Err e → read script (all_bits bytes) at ≡ Err e
  uncounted e d = count_fails (all_bits bytes) at e (opened_at (Err e) d)

module _ (n : ℕ) (start : Reader) where
  abbrev one : ℕ → Reading FieldFault Line
  one = read line (all_bits start.bytes.now)

  -- the lines before a number, from 1, were read from where the reader started: the invariant of a loop of reads, its start and its step
  pub record LinesRead (number : ℕ) (reader : Reader) (ls : List Line) : Type 0 where
    pub bytes : reader.bytes ≡ start.bytes
    pub left : Left (λ i e. on_line (suc i) e) one n start.at (length ls) reader.at ls
    pub next : length ls + 1 ≡ number

  pub lines_start : LinesRead 1 start []
  lines_start = record { bytes = refl; left = left_start (λ i e. on_line (suc i) e) one n start.at; next = refl }

  -- what was read over the same bytes
  over : (i number : ℕ) (reader : Reader) (r : Reading ScriptFault Line) → i + 1 ≡ number → reader.bytes ≡ start.bytes → read (inside (on_line number) line) (all_bits reader.bytes.now) reader.at ≡ r → under (on_line (suc i)) (one reader.at) ≡ r
  over i number reader r next same e =
      ap (λ (k : ℕ). under (on_line k) (one reader.at)) (sym (add-one i) ∙ next)
      ∙ ap (λ b. under (on_line number) (read line (all_bits b.now) reader.at)) (sym same) ∙ e

  pub lines_more : (number : ℕ) (reader after : Reader) (ls : List Line) (l : Line) → number ≤ n → read (inside (on_line number) line) (all_bits reader.bytes.now) reader.at ≡ Ok (l, after.at) → after.bytes ≡ reader.bytes → LinesRead number reader ls → LinesRead (number + 1) after (ls ++ l ∷ [])
  lines_more number reader after ls l h e stays inv = record {
    bytes = stays ∙ inv.bytes;
    left = subst (λ k. Left (λ i e. on_line (suc i) e) one n start.at k after.at (ls ++ l ∷ [])) (sym (length_push ls l))
        (left_more (λ i e. on_line (suc i) e) one n start.at (length ls) reader.at ls l after.at (omega (arith, inv.next, h)) (over (length ls) number reader (Ok (l, after.at)) inv.next inv.bytes e) inv.left);
    next = ap (λ (k : ℕ). k + 1) (length_push ls l ∙ inv.next);
  }

-- the two ends of the loop: a line that cannot be read, and the last line
module _ {bytes : List ℕ} {at n : ℕ} {start : Reader} (whole : Counted bytes at n start) where
  pub script_stops : (number : ℕ) (reader : Reader) (ls : List Line) (e : ScriptFault) → number ≤ n → read (inside (on_line number) line) (all_bits reader.bytes.now) reader.at ≡ Err e → LinesRead n start number reader ls → read script (all_bits bytes) at ≡ Err e
  script_stops number reader ls e h d inv =
      script_fails (all_bits bytes) at n start.at e whole.count
      (ap (λ (b : List ℕ). read (many n (λ i e. on_line (suc i) e) line) (all_bits b) start.at) (sym whole.same)
      ∙ left_stop (λ i e. on_line (suc i) e) (one n start) n start.at (length ls) reader.at ls e (omega (arith, inv.next, h)) (over n start (length ls) number reader (Err e) inv.next inv.bytes d) inv.left)

  pub script_ends : (number : ℕ) (reader : Reader) (ls : List Line) → n < number → LinesRead n start number reader ls → read script (all_bits bytes) at ≡ Ok (ls, reader.at)
  script_ends number reader ls h inv =
      script_read (all_bits bytes) at n start.at ls reader.at whole.count
      (ap (λ (b : List ℕ). read (many n (λ i e. on_line (suc i) e) line) (all_bits b) start.at) (sym whole.same)
      ∙ left_end (λ i e. on_line (suc i) e) (one n start) n start.at (length ls) reader.at ls (omega (arith, inv.next, h)) inv.left)
