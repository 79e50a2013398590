-- The least upper label of a list as a function of the order, by a search among its labels.
use Rattle.std.specs.Prelude.{ℕ, zero, suc, Bool, true, cond, not, ◌&&◌, ◌||◌, List, [], ◌∷◌, Some, None, Option, nat_lt}
use Rattle.order.specs.Orders.{PartialOrder}

-- every label of the list is known, as a test
abbrev pub all_known : PartialOrder → List ℕ → Bool
all_known P [] = true
all_known P (x ∷ xs) = nat_lt x P.count && all_known P xs

-- every label of the list flows to c, as a test
abbrev pub is_upper : PartialOrder → List ℕ → ℕ → Bool
is_upper P [] c = true
is_upper P (x ∷ xs) c = P.flow x c && is_upper P xs c

-- the test holds of every number below n
abbrev pub all_below : (ℕ → Bool) → ℕ → Bool
all_below test zero = true
all_below test (suc n) = test n && all_below test n

-- a number below n of which the test holds, the largest if there are several
abbrev pub some_below : (ℕ → Bool) → ℕ → Option ℕ
some_below test zero = None
some_below test (suc n) = cond (test n) (Some n) (some_below test n)

-- c is an upper label of the list that flows to every upper label, as a test
abbrev pub is_supremum : PartialOrder → List ℕ → ℕ → Bool
is_supremum P xs c = is_upper P xs c && all_below (λ d. not (is_upper P xs d) || P.flow c d) P.count

-- the least upper label of the list, by a search among the labels; absent where a label is unknown
unfoldable pub supremum_of : PartialOrder → List ℕ → Option ℕ
supremum_of P xs = cond (all_known P xs) (some_below (is_supremum P xs) P.count) None
