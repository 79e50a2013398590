-- A reader that reads one part after another. Assumes nothing.
use Rattle.std.proofs.Common.{◌≡◌, ℕ, Ok, Err, Result, sym, ◌∙◌, subst}
use Rattle.bits.specs.declared.reader.Reader.{Reader}
use Rattle.format.specs.Formats.{Reading, followed, Yields}
use Rattle.format.proofs.Readings.{followed_by}

-- what the rest answers is the answer of the whole, once the first part was read
pub part_then : {F A B : Type 0} {first : Reading F A} {a : A} {q : ℕ} {before middle after : Reader} {r : Result B F} (next : A → ℕ → Reading F B) (rest : Reading F B) → middle.bytes ≡ before.bytes → first ≡ Ok (a, q) → next a q ≡ rest → Yields (λ b. rest ≡ Ok (b, after.at)) (λ e. rest ≡ Err e) middle r after → Yields (λ b. followed first next ≡ Ok (b, after.at)) (λ e. followed first next ≡ Err e) before r after
part_then {F} {A} {B} {first} {a} {q} {before} {middle} {after} {r} next rest stays was same got =
    let whole : followed first next ≡ rest = followed_by first next a q was ∙ same in
    let answer = subst (λ (x : Reading F B). Yields (λ b. x ≡ Ok (b, after.at)) (λ e. x ≡ Err e) middle r after) (sym whole) got in
    record { value = answer.value; bytes = answer.bytes ∙ stays }
