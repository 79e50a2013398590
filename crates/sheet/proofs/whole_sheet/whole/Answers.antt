use Rattle.std.proofs.Common.{◌≡◌, ℕ, List, length, Ok, Err, sym, refl, ap, ◌∙◌, ap₂}
use Rattle.std.proofs.lemmas.Result.{err_from_is_err_and}
use Rattle.std.proofs.lemmas.Bool.{cond-true, cond-false}
use Rattle.bits.specs.Bits.{all_bits}
use Rattle.script.specs.Scripts.{script}
use Rattle.script.specs.declared.line.Line.{Line}
use Rattle.sheet.specs.Reading.{only_padding, ended, sheet_read}
use Rattle.sheet.specs.Sheets.{front}
use Rattle.sheet.specs.declared.fault.SheetFault.TheVariants.{Trailing}
use Rattle.sheet.proofs.Laws.{too_long, front_stops, script_stops, sheet_ends, moved}
use Rattle.sheet.proofs.whole_sheet.whole.Goals as goal
use Rattle.sheet.proofs.whole_sheet.whole.Goals.{After-only_padding, at-returns, at-returns-then-not-only_padding}

pub returns-then-bytes-gt-MOST_BYTES : goal.returns-then-bytes-gt-MOST_BYTES
returns-then-bytes-gt-MOST_BYTES c = too_long c.args.bytes.now c.if-bytes-gt-MOST_BYTES.true

pub returns-in_err-parts : goal.returns-in_err-parts
returns-in_err-parts c =
    let new = c.new-reader in
    let out = err_from_is_err_and c.from_residual.result c.from_residual.ensures.1 in
    let got = moved front new.result.bytes.now c.args.bytes.now new.result.at 0 (Err c.in_err-parts.field-0.0) new.ensures.bytes new.ensures.at c.in_err-parts.ensures.value in
    rw (out.1, out.2) (front_stops c.args.bytes.now c.if-bytes-gt-MOST_BYTES.false c.in_err-parts.field-0.0 got)

pub returns-in_err-lines : goal.returns-in_err-lines
returns-in_err-lines c =
    let new = c.new-reader in
    let bytes = c.args.bytes.now in
    let after = c.front.new.reader in
    let same = ap (λ x. x.now) c.in_ok-parts.ensures.bytes ∙ new.ensures.bytes in
    let parts = c.in_ok-parts.parts in
    let e = c.in_err-lines.field-0.0 in
    let out = err_from_is_err_and c.from_residual-in_err-lines.result c.from_residual-in_err-lines.ensures.1 in
    let first = moved front new.result.bytes.now bytes new.result.at 0 (Ok (parts, after.at)) new.ensures.bytes new.ensures.at c.in_ok-parts.ensures.value in
    let got = moved script after.bytes.now bytes after.at after.at (Err e) same refl c.in_err-lines.ensures.passes.value in
    rw (out.1, out.2) (script_stops bytes c.if-bytes-gt-MOST_BYTES.false parts after.at first e got)

-- what was read before the padding was looked at
read_so_far : (c : After-only_padding) → (ls : List Line) × (sheet_read c.args.bytes.now ≡ ended (all_bits c.args.bytes.now) c.in_ok-parts.parts c.at-script.result ls c.at-at.result) × (length ls ≡ c.in_ok-lines.lines)
read_so_far c =
    let new = c.new-reader in
    let bytes = c.args.bytes.now in
    let after = c.front.new.reader in
    let end = c.read_script.new.reader in
    let same = ap (λ x. x.now) c.in_ok-parts.ensures.bytes ∙ new.ensures.bytes in
    let parts = c.in_ok-parts.parts in
    let value = c.in_ok-lines.ensures.passes.value in
    let first = moved front new.result.bytes.now bytes new.result.at 0 (Ok (parts, after.at)) new.ensures.bytes new.ensures.at c.in_ok-parts.ensures.value in
    let got = moved script after.bytes.now bytes after.at after.at (Ok (value.0, end.at)) same refl value.1 in (
      value.0,
      sheet_ends bytes c.if-bytes-gt-MOST_BYTES.false parts after.at first value.0 end.at got
          ∙ ap₂ (λ (x y : ℕ). ended (all_bits bytes) parts x value.0 y) (sym c.at-script.ensures) (sym c.at-at.ensures),
      value.2,
    )

pub returns-then-not-only_padding : goal.returns-then-not-only_padding
returns-then-not-only_padding c =
    let so_far = read_so_far (at-returns-then-not-only_padding c).After-only_padding in
    so_far.1 ∙ cond-false (only_padding (all_bits c.args.bytes.now) c.at-at.result) (Ok ((c.in_ok-parts.parts, (c.at-script.result, so_far.0)), c.at-at.result)) (Err (Trailing c.at-at.result))
    (sym c.only_padding.ensures ∙ c.if-not-only_padding.true)

pub returns : goal.returns
returns c =
    let so_far = read_so_far (at-returns c).After-only_padding in (
      so_far.0,
      c.at-at.result,
      so_far.1 ∙ cond-true (only_padding (all_bits c.args.bytes.now) c.at-at.result) (Ok ((c.in_ok-parts.parts, (c.at-script.result, so_far.0)), c.at-at.result)) (Err (Trailing c.at-at.result))
          (sym c.only_padding.ensures ∙ c.if-not-only_padding.false),
      so_far.2,
    )
