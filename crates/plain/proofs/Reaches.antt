-- An access through a constant or an address leads to bytes of a live region, or meets the fault that the graph tells.
use Rattle.std.proofs.Common.{◌≡◌, ℕ, Bool, true, false, List, [], length, Option, None, Some, refl, sym, ◌∙◌, ap, subst, arith, ◌≤◌, ℤ, pos, negsuc}
use Rattle.std.specs.Prelude.{Contains, if◌then◌else◌}
use Rattle.std.proofs.lemmas.Bool.{false≢true}
use Rattle.std.proofs.lemmas.Option.{same_Some}
use Rattle.bytes_core.specs.Access.{access_fault, is_within}
use Rattle.bytes_core.specs.Fault.{access_outside_object, access_to_dead_object}
use Rattle.graph.specs.declared.object.Object.{Object}
use Rattle.graph.specs.declared.parts.Parts.{Parts}
use Rattle.graph.specs.declared.post.Post.{Post}
use Rattle.graph.specs.declared.value.Value.{Value}
use Rattle.graph.specs.declared.value.Value.TheVariants.{Const, Number, Any, Address}
use Rattle.graph.specs.Maps.{object_at, value_at}
use Rattle.graph.specs.Meaning.{maps_of, Assignment, Meets}
use Rattle.graph.specs.State.{State}
use Rattle.graph.specs.WellFormed.{IsWellFormed}
use Rattle.changes.specs.declared.reach.Reach.{Reach}
use Rattle.changes.specs.declared.reach.Reach.TheVariants as to
use Rattle.changes.specs.Posted.{Posted, IsPost, no_post, on_object, on_reach}
use Rattle.changes.specs.Reaching.{object_reach, value_reach, reach_of, names_no_segment}
use Rattle.changes.proofs.Meeting.{IsMet, Led, Anywhere, Within, led, kinds_listed, known_fault}
use Rattle.changes.proofs.Reached.{none_in}
use Rattle.plain.specs.Marks.{Marks}
use Rattle.plain.specs.Shown.{is_sure, IsShownAmong, IsPlainPost}

-- a post as it is defined
pub record IsPlainPosted (Steps : State → State → Type 0) (state : State) (after : Marks) (posted : Posted) : Type 0 where
  pub loss : posted.loss ≡ None
  pub single : length posted.graphs ≤ 1
  pub shows : (next : State) → Steps state next → IsShownAmong posted.graphs next after

pub plain_post : (Steps : State → State → Type 0) (state : State) (after : Marks) (posted : Posted) (post : Post) → IsPost posted post → IsPlainPosted Steps state after posted → IsPlainPost Steps state after post
plain_post Steps state after posted post is plain = record {
  loss = is.loss ∙ plain.loss;
  single = subst (λ (graphs : List Parts). length graphs ≤ 1) (sym is.graphs) plain.single;
  shows = λ next steps. subst (λ (graphs : List Parts). IsShownAmong graphs next after) (sym is.graphs) (plain.shows next steps);
}

-- no state follows
pub none_follows : (Steps : State → State → Type 0) (state : State) (after : Marks) (posted : Posted) → posted.loss ≡ None → posted.graphs ≡ [] → ((next : State) → Steps state next → ⊥) → IsPlainPosted Steps state after posted
none_follows Steps state after posted loss none never = record { loss = loss; single = subst (λ (graphs : List Parts). length graphs ≤ 1) (sym none) (omega arith); shows = λ next steps. absurd (never next steps) }

pub data Reaches (parts : Parts) (state : State) (given : Assignment) (at count : ℕ) : Type 0 where
  Faults : (kind : ℕ) → reach_of parts at count ≡ to.Fault kind → access_fault state.memory (given.word at) count ≡ Some kind → Reaches parts state given at count
  Room : access_fault state.memory (given.word at) count ≡ None → IsMet parts state given at count → Reaches parts state given at count

-- a reach of which the value alone does not tell
abbrev is_open : Reach → Bool
is_open to.Nothing = false
is_open (to.Fault kind) = false
is_open (to.Number small) = true
is_open (to.Anything live) = true
is_open (to.Room key from) = false

object_told : (found : Option Object) (key : ℕ) (offset : ℤ) (count : ℕ) → is_open (object_reach found key offset count) ≡ false
object_told None key offset count = refl
object_told (Some object) key (pos from) count = by_tests object.live (is_within object.size (pos from) count)
  where
    by_tests : (a b : Bool) → is_open (if a then (if b then to.Room key from else to.Fault access_outside_object) else to.Fault access_to_dead_object) ≡ false
    by_tests true true = refl
    by_tests true false = refl
    by_tests false b = refl
object_told (Some object) key (negsuc before) count = by_test object.live
  where
    by_test : (a : Bool) → is_open (if a then to.Fault access_outside_object else to.Fault access_to_dead_object) ≡ false
    by_test true = refl
    by_test false = refl

sure_told : (parts : Parts) (at count : ℕ) (value : Value) → is_sure value ≡ true → is_open (value_reach parts at (Some value) count) ≡ false
sure_told parts at count (Const number size) sure = refl
sure_told parts at count (Number size) sure = absurd (false≢true sure)
sure_told parts at count Any sure = absurd (false≢true sure)
sure_told parts at count (Address object offset target) sure = object_told (object_at parts.objects object) object offset count

module _ (parts : Parts) (form : IsWellFormed parts) (state : State) (given : Assignment) (meets : Meets (maps_of parts) state given) (at count : ℕ) (value : Value) (is : value_at parts.values at ≡ Some value) (sure : is_sure value ≡ true)
    (names : names_no_segment value ≡ true) where
  abbrev nowhere : ℕ → Object → ℕ → Posted
  nowhere key object from = no_post

  empty_object : (found : Option Object) → (on_object found (λ object. no_post)).kinds ≡ []
  empty_object None = refl
  empty_object (Some object) = refl

  -- an access without a fault leads to bytes of an object
  room : (reach : Reach) → reach_of parts at count ≡ reach → (on_reach parts reach nowhere).kinds ≡ [] → (found : Option ℕ) → access_fault state.memory (given.word at) count ≡ found → Reaches parts state given at count
  room reach reach_is none (Some kind) fault =
      none_in kind (subst (λ (kinds : List ℕ). Contains kinds kind) (ap (λ (r : Reach). (on_reach parts r nowhere).kinds) reach_is ∙ none) (kinds_listed parts state given form meets at count value is names kind fault nowhere))
  room reach reach_is none None free = by_led (led parts state given form meets at count value is names free)
    where
      by_led : Led parts state given at count → Reaches parts state given at count
      by_led (Anywhere any) = absurd (false≢true (ap is_sure (same_Some _ _ (sym any ∙ is)) ∙ sure))
      by_led (Within met) = Room free met

  pub reaches : Reaches parts state given at count
  reaches = by_reach (reach_of parts at count) refl
    where
      told : is_open (reach_of parts at count) ≡ false
      told = ap (λ (o : Option Value). is_open (value_reach parts at o count)) is ∙ sure_told parts at count value sure

      by_reach : (reach : Reach) → reach_of parts at count ≡ reach → Reaches parts state given at count
      by_reach to.Nothing reach_is = room to.Nothing reach_is refl (access_fault state.memory (given.word at) count) refl
      by_reach (to.Fault kind) reach_is = Faults kind reach_is (known_fault parts state given form meets at count value is names kind reach_is)
      by_reach (to.Number small) reach_is = absurd (false≢true (sym told ∙ ap is_open reach_is))
      by_reach (to.Anything live) reach_is = absurd (false≢true (sym told ∙ ap is_open reach_is))
      by_reach (to.Room key from) reach_is = room (to.Room key from) reach_is (empty_object (object_at parts.objects key)) (access_fault state.memory (given.word at) count) refl
