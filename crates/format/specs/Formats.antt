-- Formats of bits, as a small language: what a format reads at a bit, how it writes a value, and which values it can write.
use Rattle.std.specs.Prelude.{◌≡◌, ℕ, zero, suc, ◌+◌, ◌-◌, ◌%◌, ◌^◌, ◌<◌, ◌≤◌, Bool, true, false, cond, ◌&&◌, List, [], ◌∷◌, ◌++◌, reverse, length, take, Ok, Err, MatchBool, OnErr, Result, MatchResult, nat_le}
use Rattle.std.specs.List.{flat_map, AllByRecursion}
use Rattle.fixed.specs.Lists.{filled}
use Rattle.fixed.specs.declared.list.FixedList.{FixedList}
use Rattle.bits.specs.Bits.{all_bits, bits_of, number, piece}
use Rattle.bits.specs.declared.reader.Reader.{Reader}
use Rattle.format.specs.declared.fault.FieldFault.{FieldFault}
use Rattle.format.specs.declared.fault.FieldFault.TheVariants.{Lacking, NotAllowed}

-- A format that reads a value of A, or refuses with a fault of F.
pub data Format : Type 0 → Type 0 → Type 1 where
  -- nothing is read: the value is known
  done : {F A : Type 0} → A → Format F A
  -- a field of w bits, whose value lies between least and most
  field : (w least most : ℕ) → Format FieldFault ℕ
  -- a field of w bits, of which the first is worth 1, the next 2, and so on
  turned : (w : ℕ) → Format FieldFault ℕ
  -- a part, and then the rest, which may depend on it; the getter finds the part in the whole
  part : {F A B : Type 0} → Format F A → (B → A) → (A → Format F B) → Format F B
  -- one of two formats, by what is known
  either : {F A : Type 0} → Bool → Format F A → Format F A → Format F A
  -- a format whose fault is carried inside another
  inside : {E F A : Type 0} → (E → F) → Format E A → Format F A
  -- n values in a row, each fault carried with the number of its value
  many : {E F A : Type 0} → ℕ → (ℕ → E → F) → Format E A → Format F (List A)

-- what reading answers: a value and the next bit, or the first fault
abbrev pub Reading : Type 0 → Type 0 → Type 0
Reading F A = Result (A × ℕ) F

-- what was read, and what is read after it
abbrev pub followed : {F A B : Type 0} → Reading F A → (A → ℕ → Reading F B) → Reading F B
followed (Ok x) next = next x.0 x.1
followed (Err e) next = Err e

-- a fault carried inside another
abbrev pub under : {E F A : Type 0} → (E → F) → Reading E A → Reading F A
under wrap (Ok x) = Ok x
under wrap (Err e) = Err (wrap e)

-- the w bits from bit p on, which lack if fewer remain
unfoldable pub bits_at : List Bool → ℕ → ℕ → Reading FieldFault (List Bool)
bits_at bits p w = cond (nat_le w (length bits - p)) (Ok (piece bits p w, p + w)) (Err (Lacking p))

-- the value of a field at bit p, judged by its limits
abbrev pub limited : ℕ → ℕ → ℕ → ℕ → ℕ → Reading FieldFault ℕ
limited least most p v q = cond (nat_le least v && nat_le v most) (Ok (v, q)) (Err (NotAllowed p v))

-- a field with limits, of which the last 64 bits count
unfoldable pub field_at : ℕ → ℕ → ℕ → List Bool → ℕ → Reading FieldFault ℕ
field_at w least most bits p = followed (bits_at bits p w) (λ l q. limited least most p (number l % 2 ^ 64) q)

-- a turned field, of which the last 64 bits count
unfoldable pub turned_at : ℕ → List Bool → ℕ → Reading FieldFault ℕ
turned_at w bits p = followed (bits_at bits p w) (λ l q. Ok (number (take 64 (reverse l)), q))

-- n values in a row, numbered from i on
abbrev pub row_at : {E F A : Type 0} → (ℕ → E → F) → (ℕ → Reading E A) → ℕ → ℕ → ℕ → Reading F (List A)
row_at wrap one i zero p = Ok ([], p)
row_at wrap one i (suc n) p =
    followed (under (wrap i) (one p)) (λ a q. followed (row_at wrap one (suc i) n q) (λ rest r. Ok (a ∷ rest, r)))

-- what a format reads from bit p on
abbrev pub read : {F A : Type 0} → Format F A → List Bool → ℕ → Reading F A
read (done a) bits p = Ok (a, p)
read (field w least most) bits p = field_at w least most bits p
read (turned w) bits p = turned_at w bits p
read (part f get rest) bits p = followed (read f bits p) (λ a q. read (rest a) bits q)
read (either b f g) bits p = cond b (read f bits p) (read g bits p)
read (inside wrap f) bits p = under wrap (read f bits p)
read (many n wrap f) bits p = row_at wrap (read f bits) 0 n p

-- of a result r that a reader gives so much is known, and its bytes stay
pub record Yields {F A : Type 0} (value_so : A → Type 0) (fault_so : F → Type 0) (before : Reader) (r : Result A F) (after : Reader) : Type 0 where
  pub value : MatchResult r value_so fault_so
  pub bytes : after.bytes ≡ before.bytes

-- r is what a reading answers where a reader stands, and where it is a value the reader stands behind it afterwards
abbrev pub ReadsBy : {F A : Type 0} → (List Bool → ℕ → Reading F A) → Reader → Result A F → Reader → Type 0
ReadsBy one before r after =
    let read_here = one (all_bits before.bytes.now) before.at in
    Yields (λ a. read_here ≡ Ok (a, after.at)) (λ e. read_here ≡ Err e) before r after

-- the same of what a format reads
abbrev pub Reads : {F A : Type 0} → Format F A → Reader → Result A F → Reader → Type 0
Reads f = ReadsBy (read f)

-- the same, and after a fault the reader is as it was
pub record Takes {F A : Type 0} (f : Format F A) (before : Reader) (r : Result A F) (after : Reader) : Type 0 where
  pub reads : Reads f before r after
  pub stays : OnErr r (after ≡ before)

-- the bits by which a format writes a value
abbrev pub write : {F A : Type 0} → Format F A → A → List Bool
write (done a) b = []
write (field w least most) v = bits_of w v
write (turned w) v = reverse (bits_of w v)
write (part f get rest) b = write f (get b) ++ write (rest (get b)) b
write (either b f g) a = cond b (write f a) (write g a)
write (inside wrap f) a = write f a
write (many n wrap f) xs = flat_map (write f) xs

-- which values a format can write
abbrev pub Writes : {F A : Type 0} → Format F A → A → Type 0
Writes (done a) b = b ≡ a
Writes (field w least most) v = (v < 2 ^ w) × (least ≤ v) × (v ≤ most)
Writes (turned w) v = v < 2 ^ w
Writes (part f get rest) b = Writes f (get b) × Writes (rest (get b)) b
Writes (either b f g) a = MatchBool b (Writes f a) (Writes g a)
Writes (inside wrap f) a = Writes f a
Writes (many n wrap f) xs = (length xs ≡ n) × AllByRecursion (Writes f) xs

-- a format whose fields have 1 to 64 bits, and whose getters find what was read
abbrev pub Sound : {F A : Type 0} → Format F A → Type 0
Sound (done a) = Unit {0}
Sound (field w least most) = (1 ≤ w) × (w ≤ 64)
Sound (turned w) = (1 ≤ w) × (w ≤ 64)
Sound (part {A = A} {B = B} f get rest) =
    Sound f × ((a : A) → Writes f a → Sound (rest a)) × ((a : A) (b : B) → Writes f a → Writes (rest a) b → get b ≡ a)
Sound (either b f g) = (b ≡ true → Sound f) × (b ≡ false → Sound g)
Sound (inside wrap f) = Sound f
Sound (many n wrap f) = Sound f

-- n values in a row that are kept in a table of so many places, with blanks behind them
abbrev pub list_at : {F A : Type 0} → (size : ℕ) → A → ℕ → (List Bool → ℕ → Reading F A) → List Bool → ℕ → Reading F (FixedList A size)
list_at size blank n one bits p = followed (row_at (λ i e. e) (one bits) 0 n p) (λ xs q. Ok (filled size blank xs, q))
