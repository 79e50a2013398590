-- What a certified agreement promises of its sessions.
use Rattle.std.specs.Prelude.{◌≡◌, ℕ, ◌<◌, true, ◌⊎◌, List, [], ◌∷◌, map, length, replicate, Some, None, Ok, Err, ◌≢◌, slice_index_or}
use Rattle.bits.specs.Bits.{all_bits}
use Rattle.format.specs.Formats.{read}
use Rattle.refusal.specs.Sides.{other}
use Rattle.refusal.specs.declared.Side.{Side}
use Rattle.order.specs.Orders.{dual}
use Rattle.order.specs.Bounds.{Supremum}
use Rattle.agreement.specs.Agreements.{Joint}
use Rattle.agreement.specs.Maps.{image_of}
use Rattle.agreement.specs.Roles.{role_number}
use Rattle.agreement.specs.Rules.{no_item}
use Rattle.agreement.specs.Views.{view_in, highest_in}
use Rattle.agreement.specs.declared.item.Item.{Item}
use Rattle.agreement.specs.declared.item.Role.{Role}
use Rattle.agreement.specs.declared.item.Role.TheVariants.{Import, Export}
use Rattle.agreement.specs.declared.views.View.{View}
use Rattle.script.specs.Scripts.{script}
use Rattle.script.specs.declared.line.Line.{Line}
use Rattle.machine.specs.Places.{Place, place, held, written}
use Rattle.machine.specs.Steps.{move, copy_write}
use Rattle.machine.specs.Types.{all_given, type_of}
use Rattle.machine.specs.Calls.{Call, step, run, show, done, typed, shown, Answer, answer, after, answers, after_all, line_step}
use Rattle.machine.specs.Openings.{Opening, start}
use Rattle.machine.specs.declared.fault.CallFault.TheVariants.{Step as in_step}
use Rattle.machine.specs.declared.fault.StepFault.TheVariants.{NotAllowed}
use Rattle.machine.specs.declared.script_type.ScriptType.{ScriptType}
use Rattle.machine.specs.declared.values.Values.{Values}

abbrev pub item_at : Joint → Place → Item
item_at J p = slice_index_or (J.items p.side) p.item no_item

abbrev pub KnownItem : Joint → Place → Type 0
KnownItem J p = p.item < length (J.items p.side)

-- a known item of this role
abbrev pub HasRole : Joint → Place → Role → Type 0
HasRole J p r = KnownItem J p × ((item_at J p).role ≡ role_number (Some r))

-- a label of a house is in the view
abbrev pub Sees : Joint → View → Side → ℕ → Type 0
Sees J V s l = (J.order s).flow l (highest_in V s) ≡ true

-- every item whose label is in the view holds the same value
abbrev pub Alike : Joint → View → Values → Values → Type 0
Alike J V v w = (p : Place) → KnownItem J p → Sees J V p.side (item_at J p).label → held v p ≡ held w p

-- somebody cleared for a known label of either house, with the label's view
pub record Observer (J : Joint) : Type 0 where
  pub side : Side
  pub label : ℕ
  pub known : label < (J.order side).count
  pub view : View
  pub sees : view_in J side label ≡ Some view

-- Two answers to one call are the same; only a show at a label outside the view may answer two different values.
abbrev pub Agree : Joint → View → Call → Answer → Answer → Type 0
Agree J V (step x) a b = a ≡ b
Agree J V (run bytes at) a b = a ≡ b
Agree J V (show s l i) a b =
    (Sees J V s l → a ≡ b) × ((a ≡ b) ⊎ ((x : ℕ) × (y : ℕ) × (a ≡ Ok (shown x)) × (b ≡ Ok (shown y))))

abbrev pub AllAgree : Joint → View → List Call → List Answer → List Answer → Type 0
AllAgree J V [] [] [] = Unit {0}
AllAgree J V (c ∷ cs) (a ∷ xs) (b ∷ ys) = Agree J V c a b × AllAgree J V cs xs ys
AllAgree J V [] (a ∷ xs) ys = ⊥
AllAgree J V [] [] (b ∷ ys) = ⊥
AllAgree J V (c ∷ cs) [] ys = ⊥
AllAgree J V (c ∷ cs) (a ∷ xs) [] = ⊥

-- Two openings that are alike in somebody's view stay alike in it through any calls, and the calls answer alike.
abbrev pub NoInterference : Joint → Type 0
NoInterference J =
    (o : Observer J) (one two : Opening J) (cs : List Call) → Alike J o.view (start one) (start two) →
    Alike J o.view (after_all J (start one) cs) (after_all J (start two) cs)
    × AllAgree J o.view cs (answers J (start one) cs) (answers J (start two) cs)

-- two openings that are alike in somebody's view, and that a copy from one place to another would make differ in it
pub record Leak (J : Joint) (to from : Place) : Type 0 where
  pub observer : Observer J
  pub one : Opening J
  pub two : Opening J
  pub alike : Alike J observer.view (start one) (start two)
  pub differ : Alike J observer.view (written (start one) (copy_write to from)) (written (start two) (copy_write to from)) → ⊥

-- A move between items of the right roles is refused, with its target and source, exactly if its copy would leak.
abbrev pub RefusedOnlyWhereItWouldLeak : Joint → Type 0
RefusedOnlyWhereItWouldLeak J =
    (s : Side) (t q : ℕ) (v : Values) → HasRole J (place (other s) t) Import → HasRole J (place s q) Export →
    let refused = answer J v (step (move s t q)) ≡ Err (in_step (NotAllowed None t q)) in
    let leaks = Leak J (place (other s) t) (place s q) in
    (refused → leaks) × (leaks → refused)

-- What a run that answers a type leaves: the values that its lines leave, called one by one, none of them refused;
-- and it changes only items to whose label the type flows, which is the greatest label that flows to all that the lines give.
pub record RunsAsItsLines (J : Joint) (v : Values) (bytes : List ℕ) (at : ℕ) (T : ScriptType) (lines : List Line) : Type 0 where
  pub same_values : after J v (run bytes at) ≡ after_all J v (map (λ l. step (line_step l)) lines)
  pub none_refused : answers J v (map (λ l. step (line_step l)) lines) ≡ replicate (length lines) (Ok done)
  pub changes_above_the_type : (p : Place) → (held (after J v (run bytes at)) p ≢ held v p) → (J.order p.side).flow (type_of T p.side) (item_at J p).label ≡ true
  pub greatest_type : (s : Side) → Supremum (dual (J.order s)) (all_given J s (map line_step lines)) (type_of T s)

abbrev pub ARunIsItsLines : Joint → Type 0
ARunIsItsLines J =
    (v : Values) (bytes : List ℕ) (at : ℕ) (T : ScriptType) → answer J v (run bytes at) ≡ Ok (typed T) →
    (lines : List Line) × (end : ℕ) × (read script (all_bits bytes) at ≡ Ok (lines, end)) × RunsAsItsLines J v bytes at T lines

-- every known label has an image and a view
pub record NothingIsMissing (J : Joint) : Type 0 where
  pub images : (s : Side) (a : ℕ) → a < (J.order s).count → (b : ℕ) × (image_of (J.order s) (J.order (other s)) (J.map s) a ≡ Some b)
  pub views : (s : Side) (a : ℕ) → a < (J.order s).count → (V : View) × (view_in J s a ≡ Some V)

pub record KeepsSecrets (J : Joint) : Type 0 where
  pub no_interference : NoInterference J
  pub no_stricter_than_needed : RefusedOnlyWhereItWouldLeak J
  pub a_run_is_its_lines : ARunIsItsLines J
  pub nothing_is_missing : NothingIsMissing J
