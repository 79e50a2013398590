-- The rules on one map, on a map and the map back, and on items, each as a judgement that names its smallest broken case.
use Rattle.std.specs.Prelude.{ℕ, Bool, cond, not, ◌&&◌, ◌||◌, List, length, get_or, Some, ◌==◌, nat_eq, nat_le, nat_lt, slice_index_or}
use Rattle.refusal.specs.Judging.{Judgement, ◌⨟◌, check, each_from}
use Rattle.order.specs.Orders.{PartialOrder}
use Rattle.agreement.specs.Maps.{at, image_of, and_then, round_of, related, is_settled}
use Rattle.agreement.specs.declared.fault.Broken.{Broken}
use Rattle.agreement.specs.declared.fault.Broken.TheVariants.{Length, Entry, NotMonotone, Falls, Drifts, TooMany, Unlawful}
use Rattle.agreement.specs.declared.item.Item.{Item}

-- one entry for each label, and each a label of the other order
abbrev pub entry_judged : PartialOrder → List ℕ → ℕ → Judgement Broken
entry_judged Q m a = check (nat_lt (at m a) Q.count) (Entry a (at m a))

abbrev pub total_judged : PartialOrder → PartialOrder → List ℕ → Judgement Broken
total_judged P Q m = check (length m == P.count) Length ⨟ each_from (entry_judged Q m) 0 P.count

-- if a flows to b, the image of a flows to the image of b
abbrev pub keeps : PartialOrder → PartialOrder → List ℕ → ℕ → ℕ → Bool
keeps P Q m a b = not (P.flow a b) || related Q.flow (image_of P Q m a) (image_of P Q m b)

abbrev pub pair_judged : PartialOrder → PartialOrder → List ℕ → ℕ → ℕ → Judgement Broken
pair_judged P Q m a b = check (keeps P Q m a b) (NotMonotone a b)

abbrev pub row_judged : PartialOrder → PartialOrder → List ℕ → ℕ → Judgement Broken
row_judged P Q m a = each_from (pair_judged P Q m a) 0 P.count

abbrev pub monotone_judged : PartialOrder → PartialOrder → List ℕ → Judgement Broken
monotone_judged P Q m = each_from (row_judged P Q m) 0 P.count

-- a label flows to its round trip
abbrev pub rises : PartialOrder → PartialOrder → List ℕ → List ℕ → ℕ → Bool
rises P Q m w a = related P.flow (Some a) (round_of P Q m w a)

abbrev pub rise_judged : PartialOrder → PartialOrder → List ℕ → List ℕ → ℕ → Judgement Broken
rise_judged P Q m w a = check (rises P Q m w a) (Falls a)

abbrev pub rising_judged : PartialOrder → PartialOrder → List ℕ → List ℕ → Judgement Broken
rising_judged P Q m w = each_from (rise_judged P Q m w) 0 P.count

-- across, back and across again is going across
abbrev pub stays : PartialOrder → PartialOrder → List ℕ → List ℕ → ℕ → Bool
stays P Q m w a = related nat_eq (and_then (round_of P Q m w a) (image_of P Q m)) (image_of P Q m a)

abbrev pub stay_judged : PartialOrder → PartialOrder → List ℕ → List ℕ → ℕ → Judgement Broken
stay_judged P Q m w a = check (stays P Q m w a) (Drifts a)

abbrev pub stable_judged : PartialOrder → PartialOrder → List ℕ → List ℕ → Judgement Broken
stable_judged P Q m w = each_from (stay_judged P Q m w) 0 P.count

-- an item has a role of at most 2, a known label, and a settled one, which is known, unless it is a working item
abbrev pub lawful_item : PartialOrder → PartialOrder → List ℕ → List ℕ → Item → Bool
lawful_item P Q m w x = nat_le x.role 2 && cond (x.role == 0) (nat_lt x.label P.count) (is_settled P Q m w x.label)

abbrev pub no_item : Item
no_item = record { role = 0; label = 0 }

abbrev pub item_judged : PartialOrder → PartialOrder → List ℕ → List ℕ → List Item → ℕ → Judgement Broken
item_judged P Q m w xs i = check (lawful_item P Q m w (slice_index_or xs i no_item)) (Unlawful i (get_or xs i no_item).label)

abbrev pub items_judged : PartialOrder → PartialOrder → List ℕ → List ℕ → List Item → Judgement Broken
items_judged P Q m w xs = check (nat_le (length xs) 128) TooMany ⨟ each_from (item_judged P Q m w xs) 0 (length xs)
