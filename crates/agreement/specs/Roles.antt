-- The roles of items, by their numbers.
use Rattle.std.specs.Prelude.{◌≡◌, ℕ, cond, List, Some, None, codes, Option, Result, MatchResult, ◌==◌}
use Rattle.agreement.specs.declared.item.Role.{Role}
use Rattle.agreement.specs.declared.item.Role.TheVariants.{Working, Import, Export}
use Rattle.agreement.specs.declared.item.UnknownRole.{UnknownRole}

abbrev pub role_of : ℕ → Option Role
role_of n = cond (n == 0) (Some Working) (cond (n == 1) (Some Import) (cond (n == 2) (Some Export) None))

-- the result is the role that a number stands for, or the number where it stands for none
abbrev pub Reads : ℕ → Result Role UnknownRole → Type 0
Reads n r = MatchResult r (λ role. role_of n ≡ Some role) (λ e. (e.0 ≡ n) × (role_of n ≡ None))

-- the number of a role, and 3 where any will do
abbrev pub role_number : Option Role → ℕ
role_number (Some Working) = 0
role_number (Some Import) = 1
role_number (Some Export) = 2
role_number None = 3

abbrev pub role_word : Role → List ℕ
role_word Working = codes "working"
role_word Import = codes "import"
role_word Export = codes "export"
