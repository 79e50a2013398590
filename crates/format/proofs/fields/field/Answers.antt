use Rattle.std.proofs.Common.{ℕ, Err, sym, refl, ap, ◌∙◌}
use Rattle.std.proofs.lemmas.Result.{err_from_is_err_and}
use Rattle.format.specs.declared.fault.FieldFault.TheVariants.{NotAllowed}
use Rattle.format.proofs.Readings.{limited_within, limited_outside}
use Rattle.format.proofs.Bytes.{field_value, field_lacking}
use Rattle.format.proofs.fields.field.Goals as goal

pub returns-in_err-value : goal.returns-in_err-value
returns-in_err-value c =
    let p = err_from_is_err_and c.from_residual.result c.from_residual.ensures.1 in
    let bs = c.args.reader.now.bytes.now in
    rw (p.1, p.2)
    (record {
      takes = record { reads = record { value = field_lacking bs c.args.width c.args.reader.now.at c.args.least c.args.most c.in_err-value.field-0.0 c.in_err-value.ensures.field; bytes = refl }; stays = refl };
      limits = tt;
    })

pub returns-then-value-least : goal.returns-then-value-least
returns-then-value-least c =
    let bs = c.args.reader.now.bytes.now in
    let at = c.args.reader.now.at in
    let v = c.in_ok-value.value in
    let end = c.read.new.self.at in
    record {
      takes = record {
        reads = record {
          value =
              field_value bs c.args.width at c.args.least c.args.most v end c.in_ok-value.ensures.field
              ∙ limited_outside c.args.least c.args.most at v end c.then-value-least.either
              ∙ ap (λ (n : ℕ). Err (NotAllowed n v)) (sym c.at.ensures);
          bytes = refl;
        };
        stays = refl;
      };
      limits = tt;
    }

pub returns : goal.returns
returns c =
    let bs = c.args.reader.now.bytes.now in
    let at = c.args.reader.now.at in
    let v = c.in_ok-value.value in
    let end = c.read.new.self.at in
    let was = c.in_ok-value.ensures in
    record {
      takes = record {
        reads = record {
          value =
              field_value bs c.args.width at c.args.least c.args.most v end was.field
              ∙ limited_within c.args.least c.args.most at v end c.if-value-least.false c.if-value-most.false;
          bytes = was.bytes;
        };
        stays = tt;
      };
      limits = (was.below, c.if-value-least.false, c.if-value-most.false);
    }
