-- Each kind that a step lists is met, also through any word, where there is a place for it, as in a graph of regions that may have one object more.
use Rattle.std.proofs.Common.{◌≡◌, ℕ, ◌+◌, ◌^◌, ◌<◌, Bool, true, false, ◌||◌, ◌&&◌, List, [], ◌∷◌, nat_le, Option, None, Some, refl}
use Rattle.std.specs.Prelude.{Result, Ok, Err, IfOk, Contains, if◌then◌else◌}
use Rattle.std.specs.List.{list_all, list_any}
use Rattle.std.proofs.lemmas.Bool.{false≢true}
use Rattle.graph.specs.declared.parts.KeyedObject.{KeyedObject}
use Rattle.graph.specs.declared.parts.Parts.{Parts}
use Rattle.graph.specs.declared.post.Post.{Post}
use Rattle.graph.specs.Maps.{held_by}
use Rattle.graph.specs.Nodes.{is_region}
use Rattle.graph.specs.State.{State}
use Rattle.graph.specs.WellFormed.{is_unequal_pair, nodes}
use Rattle.graph.proofs.Tests.{and_left, and_right, and_both}
use Rattle.changes.specs.AnyWords.{HasPlaceForOne, MeetsListed}
use Rattle.changes.specs.Following.{SomeFaults}
use Rattle.changes.specs.Posted.{Posted, on_held}
use Rattle.reinterpret.specs.declared.comparison.Comparison.{Comparison}
use Rattle.reinterpret.specs.declared.comparison.Comparison.TheVariants as known
use Rattle.reinterpret.specs.Comparing.{compared}
use Rattle.reinterpret.specs.Testing.{tested, equal_post}
use Rattle.heap_steps.specs.Regions.{AreRegions}
use Rattle.flow.specs.declared.instruction.Instr.{Instr}
use Rattle.flow.specs.declared.instruction.Instr.TheVariants.{Number, Address, Move, Read, Write, Shift, ShiftBy, Compute, Convert, IfSame, IfDifferent, Allocate, AllocateNone, Release, Fill, Copy, Enter, Leave, Finish, Input, Call, Return, Close}
use Rattle.range_steps.specs.AnyCopies.{HasPlaceToCopy, MeetsCopied}
use Rattle.range_steps.specs.Copies.{FaultsCopying}
use Rattle.block_steps.specs.Releasing.{FaultsReleasing, MeetsReleased}
use Rattle.transfer.specs.Means.{HasPlaceFor}

-- each kind that is listed is met, where there is a place for an access through any word
pub record MeetsAll (parts : Parts) (Faults : ℕ → State → Type 0) (Place : Type 0) (post : Post) : Type 0 where
  pub met : Place → (kind : ℕ) → Contains post.kinds kind → SomeFaults parts (Faults kind)

-- where all pass one test, and some another, some pass both
both_pass : {X : Type 0} (one other both : X → Bool) (items : List X) → ((item : X) → one item ≡ true → other item ≡ true → both item ≡ true) → list_all one items ≡ true → list_any other items ≡ true → list_any both items ≡ true
both_pass one other both [] follows all some = some
both_pass one other both (first ∷ rest) follows all some =
    by_first (other first) refl some (λ later. both_pass one other both rest follows (and_right (one first) (list_all one rest) all) later)
  where
    here : (b : Bool) → b ≡ true → (b || list_any both rest) ≡ true
    here true is = refl
    here false is = absurd (false≢true is)

    later_on : (b : Bool) → list_any both rest ≡ true → (b || list_any both rest) ≡ true
    later_on true is = refl
    later_on false is = is

    by_first : (b : Bool) → other first ≡ b → (b || list_any other rest) ≡ true → (list_any other rest ≡ true → list_any both rest ≡ true) → list_any both (first ∷ rest) ≡ true
    by_first true is some later = here (both first) (follows first (and_left (one first) (list_all one rest) all) is)
    by_first false is some later = later_on (both first) (later some)

module _ (parts : Parts) (regions : AreRegions parts.objects) where
  place_for_one : nodes parts + 1 < 2 ^ 30 → HasPlaceForOne parts
  place_for_one room = record {
    region = λ some.
        both_pass (λ (entry : KeyedObject). is_region entry.object.shape) (λ (entry : KeyedObject). entry.object.live) (λ (entry : KeyedObject). entry.object.live && is_region entry.object.shape) parts.objects
        (λ entry region live. and_both entry.object.live (is_region entry.object.shape) live region) regions some;
    room = room;
  }

  place_to_copy : (count : ℕ) → nodes parts + 1 < 2 ^ 30 → HasPlaceToCopy parts count
  place_to_copy count room = record {
    one = place_for_one room;
    region = λ some.
        both_pass (λ (entry : KeyedObject). is_region entry.object.shape) (λ (entry : KeyedObject). entry.object.live && nat_le count entry.object.size)
        (λ (entry : KeyedObject). entry.object.live && (is_region entry.object.shape && nat_le count entry.object.size)) parts.objects
        (λ entry region roomy. and_both entry.object.live (is_region entry.object.shape && nat_le count entry.object.size) (and_left entry.object.live (nat_le count entry.object.size) roomy)
        (and_both (is_region entry.object.shape) (nat_le count entry.object.size) region (and_right entry.object.live (nat_le count entry.object.size) roomy)))
        regions some;
  }

  -- each instruction has its place in a graph of regions that may have one object more
  pub place_for : (kind : Instr) → nodes parts + 1 < 2 ^ 30 → HasPlaceFor kind parts
  place_for (Number into number size) room = place_for_one room
  place_for (Address into variable) room = place_for_one room
  place_for (Move into from) room = place_for_one room
  place_for (Read into at size pointer) room = place_for_one room
  place_for (Write at from size) room = place_for_one room
  place_for (Shift into at by) room = place_for_one room
  place_for (ShiftBy into at by scale) room = place_for_one room
  place_for (Compute into op one other size signed) room = place_for_one room
  place_for (Convert into from size signed) room = place_for_one room
  place_for (IfSame one other) room = place_for_one room
  place_for (IfDifferent one other) room = place_for_one room
  place_for (Allocate into bytes zeroed) room = place_for_one room
  place_for (AllocateNone into) room = place_for_one room
  place_for (Release at) room = room
  place_for (Fill at from length) room = place_for_one room
  place_for (Copy to from length disjoint) room = place_to_copy length room
  place_for (Enter variables) room = place_for_one room
  place_for (Leave variables) room = place_for_one room
  place_for (Finish registers) room = place_for_one room
  place_for (Input into size signed truth) room = place_for_one room
  place_for (Call function arguments into) room = place_for_one room
  place_for (Return from) room = place_for_one room
  place_for Close room = place_for_one room

pub of_listed : {E : Type 0} (parts : Parts) (Faults : ℕ → State → Type 0) (answer : Result Post E) → IfOk answer (λ post. MeetsListed parts Faults post) → IfOk answer (λ post. MeetsAll parts Faults (HasPlaceForOne parts) post)
of_listed parts Faults (Ok post) listed = record { met = listed.met }
of_listed parts Faults (Err error) listed = tt

pub of_copied : {E : Type 0} (parts : Parts) (target from length : ℕ) (disjoint : Bool) (answer : Result Post E) → IfOk answer (λ post. MeetsCopied parts target from length disjoint post) →
    IfOk answer (λ post. MeetsAll parts (λ kind. FaultsCopying target from length disjoint kind) (HasPlaceToCopy parts length) post)
of_copied parts target from length disjoint (Ok post) listed = record { met = listed.met }
of_copied parts target from length disjoint (Err error) listed = tt

pub of_released : {E : Type 0} (parts : Parts) (at : ℕ) (answer : Result Post E) → IfOk answer (λ post. MeetsReleased parts at post) →
    IfOk answer (λ post. MeetsAll parts (λ kind. FaultsReleasing at kind) (nodes parts + 1 < 2 ^ 30) post)
of_released parts at (Ok post) listed = record { met = listed.met }
of_released parts at (Err error) listed = tt

-- a test whether two values are the same lists none
pub equal_none : (parts : Parts) (left right : ℕ) (same : Bool) → (equal_post parts left right same).kinds ≡ []
equal_none parts left right same = by_held (held_by parts.registers left) (held_by parts.registers right)
  where
    gone : List ℕ
    gone = left ∷ right ∷ []

    by_pair : (b : Bool) (one other : Posted) → one.kinds ≡ [] → other.kinds ≡ [] → (if b then one else other).kinds ≡ []
    by_pair true one other first second = first
    by_pair false one other first second = second

    by_test : (b : Bool) (comparison : Comparison) → (tested parts gone b comparison).kinds ≡ []
    by_test true known.Same = refl
    by_test false known.Same = refl
    by_test true known.Different = refl
    by_test false known.Different = refl
    by_test true (known.Either kept other) = refl
    by_test false (known.Either kept other) = by_pair (is_unequal_pair parts (record { left = kept; right = other })) _ _ refl refl
    by_test true known.Itself = refl
    by_test false known.Itself = refl
    by_test true known.Unknown = refl
    by_test false known.Unknown = refl

    by_held : (a b : Option ℕ) → (on_held a (λ one. on_held b (λ other. tested parts gone same (compared parts one other)))).kinds ≡ []
    by_held None b = refl
    by_held (Some one) None = refl
    by_held (Some one) (Some other) = by_test same (compared parts one other)
