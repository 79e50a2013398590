-- The format of a sheet and of its parts is sound. Assumes nothing.
use Rattle.std.proofs.Common.{◌≡◌, ℕ, ◌≤◌, Bool, true, false, eqb, List, MatchBool, sym, refl, ap, ◌∙◌, arith}
use Rattle.std.proofs.lemmas.Bool.{eqb-true, eqb-false}
use Rattle.agreement.specs.Rules.{no_item}
use Rattle.agreement.specs.declared.item.Item.{Item}
use Rattle.fixed.specs.Lists.{list_of}
use Rattle.format.specs.Formats.{Sound, Writes}
use Rattle.fixed.proofs.Padding.{list_of_filled}
use Rattle.script.proofs.Sound.{script_sound}
use Rattle.script.specs.declared.line.Line.{Line}
use Rattle.sheet.specs.Parts.{Items, rows_of, kind_of, rows_less, levels_less, compartments_of}
use Rattle.house.specs.Houses.{labels}
use Rattle.sheet.specs.Sheets.{listed, graded, house, entries, item, items, front, sheet}
use Rattle.house.specs.declared.description.House.{House}
use Rattle.sheet.specs.declared.parts.Parts.{Parts}

pub listed_sound : Sound listed
unfolding listed
listed_sound = (
  (omega arith, omega arith),
  (λ m w. ((omega arith, omega (arith, w.2)), (λ rows _. tt), λ rows h v e. ap rows_of e ∙ list_of_filled 32 0 rows)),
  (λ m h _ w. ap rows_less w.1 ∙ omega (arith, w.0.0)),
)

pub graded_sound : Sound graded
unfolding graded
graded_sound = (
  (omega arith, omega arith),
  (λ v _. ((omega arith, omega arith), (λ c _. tt), λ c h _ e. ap compartments_of e)),
  (λ v h _ w. ap levels_less w.1 ∙ omega arith),
)

-- a house of either kind
kind_listed : (h : House) → Writes listed h → kind_of h ≡ 0
unfolding listed
kind_listed h w = ap kind_of w.1.1

kind_graded : (h : House) → Writes graded h → kind_of h ≡ 1
unfolding graded
kind_graded h w = ap kind_of w.1.1

pub house_sound : Sound house
unfolding house
house_sound = (
  (omega arith, omega arith),
  (λ k _. ((λ _. listed_sound), (λ _. graded_sound))),
  (λ k h m w. at k h (eqb k 0) refl m.2 w),
)
  where
    at : (k : ℕ) (h : House) (b : Bool) → eqb k 0 ≡ b → k ≤ 1 → MatchBool b (Writes listed h) (Writes graded h) → kind_of h ≡ k
    at k h true e l w = kind_listed h w ∙ sym (eqb-true k 0 e)
    at k h false e l w = let other : k ≡ 0 → ⊥ = eqb-false k 0 e in let one : 1 ≡ k = omega arith in kind_graded h w ∙ one

pub entries_sound : (n : ℕ) → Sound (entries n)
unfolding entries
entries_sound n =
    ((omega arith, omega arith), (λ xs _. tt), λ xs m w e. ap list_of e ∙ list_of_filled 64 0 xs)

pub item_sound : Sound item
unfolding item
item_sound = (
  (omega arith, omega arith),
  (λ r _. ((omega arith, omega arith), (λ l _. tt), λ l x _ e. ap (λ (y : Item). y.label) e)),
  (λ r x _ w. ap (λ (y : Item). y.role) w.1),
)

pub items_sound : Sound items
unfolding items
items_sound = (
  (omega arith, omega arith),
  (λ n _. (item_sound, (λ xs _. tt), λ xs m w e. ap list_of e ∙ list_of_filled 255 no_item xs)),
  (λ n m _ w. ap (λ (y : Items). y.count) w.1 ∙ w.0.0),
)

pub front_sound : Sound front
unfolding front
front_sound = (
  (omega arith, omega arith),
  (λ _ _. (
    house_sound,
    (λ near _. (
      house_sound,
      (λ far _. (
        entries_sound (labels near),
        (λ out _. (
          entries_sound (labels far),
          (λ back _. (
            items_sound,
            (λ near_items _. (
              items_sound,
              (λ far_items _. tt),
              (λ far_items x _ e. ap (λ (y : Parts). y.far_items) e),
            )),
            (λ near_items x _ w. ap (λ (y : Parts). y.near_items) w.1),
          )),
          (λ back x _ w. ap (λ (y : Parts). y.back) w.1.1),
        )),
        (λ out x _ w. ap (λ (y : Parts). y.out) w.1.1.1),
      )),
      (λ far x _ w. ap (λ (y : Parts). y.far) w.1.1.1.1),
    )),
    (λ near x _ w. ap (λ (y : Parts). y.near) w.1.1.1.1.1),
  )),
  (λ f x w _. omega (arith, w.1, w.2)),
)

pub sheet_sound : Sound sheet
unfolding sheet
sheet_sound = (
  front_sound,
  (λ parts _. (script_sound, (λ lines _. tt), λ lines x _ e. ap (λ (y : Parts × List Line). y.1) e)),
  (λ parts x _ w. ap (λ (y : Parts × List Line). y.0) w.1),
)
