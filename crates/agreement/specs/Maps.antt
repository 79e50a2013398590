-- Maps between the labels of two orders, as lists of images, and going across and back.
use Rattle.std.specs.Prelude.{ℕ, Bool, false, cond, ◌&&◌, List, length, Some, None, Option, nat_eq, nat_lt, slice_index}
use Rattle.order.specs.Orders.{PartialOrder}

-- what a list of images has at a label
abbrev pub at : List ℕ → ℕ → ℕ
at m a = slice_index m a

-- the image of a label: absent where the label is unknown, has no entry, or has one that is no label of the other order
abbrev pub image_of : PartialOrder → PartialOrder → List ℕ → ℕ → Option ℕ
image_of P Q m a = cond (nat_lt a P.count && (nat_lt a (length m) && nat_lt (at m a) Q.count)) (Some (at m a)) None

abbrev pub and_then : {X Y : Type 0} → Option X → (X → Option Y) → Option Y
and_then (Some x) f = f x
and_then None f = None

-- across by m and back by w
abbrev pub round_of : PartialOrder → PartialOrder → List ℕ → List ℕ → ℕ → Option ℕ
round_of P Q m w a = and_then (image_of P Q m a) (image_of Q P w)

-- both labels are there, and the test holds of them
abbrev pub related : (ℕ → ℕ → Bool) → Option ℕ → Option ℕ → Bool
related test (Some x) (Some y) = test x y
related test (Some x) None = false
related test None y = false

-- going across and back gives the label again
abbrev pub is_settled : PartialOrder → PartialOrder → List ℕ → List ℕ → ℕ → Bool
is_settled P Q m w a = related nat_eq (round_of P Q m w a) (Some a)

-- the image of a flows to b: what a move from a to b across the map asks
abbrev pub moves : PartialOrder → PartialOrder → List ℕ → ℕ → ℕ → Bool
moves P Q m a b = related Q.flow (image_of P Q m a) (Some b)
