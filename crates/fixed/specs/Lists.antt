-- Lists in tables of a fixed length.
use Rattle.std.specs.Prelude.{ℕ, ◌-◌, List, ◌++◌, length, take, replicate}
use Rattle.fixed.specs.declared.list.FixedList.{FixedList}

-- a list with blanks behind it, n elements in all
unfoldable pub padded : {A : Type 0} → ℕ → A → List A → List A
padded n blank xs = xs ++ replicate (n - length xs) blank

-- the elements of a list that is kept in a table
abbrev pub list_of : {A : Type 0} {n : ℕ} → FixedList A n → List A
list_of t = take t.count t.places

-- a list kept in a table of n places, with blanks behind it
abbrev pub filled : {A : Type 0} → (n : ℕ) → A → List A → FixedList A n
filled n blank xs = record { count = length xs; places = padded n blank xs }
