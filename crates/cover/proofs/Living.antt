-- Objects that live, one after the other.
use Rattle.std.proofs.Common.{◌≡◌, ℕ, suc, ◌+◌, ◌<◌, ◌≤◌, Bool, true, false, List, [], ◌∷◌, length, nat_eq, Option, None, Some, refl, sym, ◌∙◌, ap, subst, eqb-true, arith, slice_index_or}
use Rattle.std.specs.Prelude.{slice_get, ◌↔◌, if◌then◌else◌}
use Rattle.std.proofs.lemmas.Bool.{false≢true}
use Rattle.std.proofs.lemmas.Option.{none-some, slice_get_within}
use Rattle.graph.specs.declared.object.Object.{Object}
use Rattle.graph.specs.declared.value.Value.{Value}
use Rattle.graph.specs.declared.parts.KeyedObject.{KeyedObject}
use Rattle.graph.specs.declared.parts.KeyedValue.{KeyedValue}
use Rattle.graph.specs.declared.parts.Parts.{Parts}
use Rattle.graph.specs.Maps.{found_at, object_at, value_at}
use Rattle.graph.specs.Whole.{IsGraph}
use Rattle.cover.specs.Covers.{AreLivePaired}
use Rattle.cover.specs.Checked.{LivesAt, HasPartnerAmong, AreSomeLivePaired}
use Rattle.cover.proofs.Forced.{other-at}

-- what is found by a key stands at a place
place-of : {Entry Item : Type 0} (key : Entry → ℕ) (item : Entry → Item) (entries : List Entry) (at : ℕ) (found : Item) → found_at key item entries at ≡ Some found →
    (place : ℕ) × (entry : Entry) × (slice_get entries place ≡ Some entry) × (key entry ≡ at)
place-of key item [] at found is = absurd (none-some found is)
place-of {Entry} {Item} key item (first ∷ rest) at found is = by_test (nat_eq (key first) at) refl is (λ later. place-of key item rest at found later)
  where
    by_test : (b : Bool) → nat_eq (key first) at ≡ b → found_at key item (first ∷ rest) at ≡ Some found →
        (found_at key item rest at ≡ Some found → (place : ℕ) × (entry : Entry) × (slice_get rest place ≡ Some entry) × (key entry ≡ at)) →
        (place : ℕ) × (entry : Entry) × (slice_get (first ∷ rest) place ≡ Some entry) × (key entry ≡ at)
    by_test true hit is later = (0, first, refl, eqb-true _ _ hit)
    by_test false miss is later =
        let there = later (sym (ap (λ (b : Bool). if b then Some (item first) else found_at key item rest at) miss) ∙ is) in
        (suc there.0, there.1, there.2, there.3)

-- keys of objects are below their number
pub object-below : (parts : Parts) → IsGraph parts → (key : ℕ) (object : Object) → object_at parts.objects key ≡ Some object → key < length parts.objects
object-below parts graph key object is =
    let there = place-of (λ (entry : KeyedObject). entry.key) (λ entry. entry.object) parts.objects key object is in
    let within = slice_get_within parts.objects there.0 there.1 there.2 in
    let same = graph.keys.objects there.0 there.1 there.2 in
    subst (λ (k : ℕ). k < length parts.objects) (sym same ∙ there.3) within

pub value-below : (parts : Parts) → IsGraph parts → (key : ℕ) (value : Value) → value_at parts.values key ≡ Some value → key < length parts.values
value-below parts graph key value is =
    let there = place-of (λ (entry : KeyedValue). entry.key) (λ entry. entry.value) parts.values key value is in
    let within = slice_get_within parts.values there.0 there.1 there.2 in
    let same = graph.keys.values there.0 there.1 there.2 in
    subst (λ (k : ℕ). k < length parts.values) (sym same ∙ there.3) within

-- and above it nothing is
pub object-past : (parts : Parts) → IsGraph parts → (key : ℕ) → length parts.objects ≤ key → object_at parts.objects key ≡ None
object-past parts graph key past = by_object (object_at parts.objects key) refl
  where
    by_object : (found : Option Object) → object_at parts.objects key ≡ found → object_at parts.objects key ≡ None
    by_object None is = is
    by_object (Some object) is = absurd (let below = object-below parts graph key object is in omega arith)

pub value-past : (parts : Parts) → IsGraph parts → (key : ℕ) → length parts.values ≤ key → value_at parts.values key ≡ None
value-past parts graph key past = by_value (value_at parts.values key) refl
  where
    by_value : (found : Option Value) → value_at parts.values key ≡ found → value_at parts.values key ≡ None
    by_value None is = is
    by_value (Some value) is = absurd (let below = value-below parts graph key value is in omega arith)

module _ (objects : ℕ → Option Object) (partners : List (Option ℕ)) where
  pub live-start : AreSomeLivePaired objects partners 0
  live-start key below lives = absurd (omega arith)

  pub live-next : (at : ℕ) (one other : Bool) → AreSomeLivePaired objects partners at → ((one ≡ true) ↔ LivesAt objects at) → ((other ≡ true) ↔ HasPartnerAmong partners at) → (one ≡ true → other ≡ false → ⊥) →
      AreSomeLivePaired objects partners (at + 1)
  live-next at one other some (lives, is_live) (has, is_paired) not_both key below live = by_test (nat_eq key at) refl
    where
      paired : LivesAt objects at → HasPartnerAmong partners at
      paired live = by_other other refl
        where
          by_other : (b : Bool) → other ≡ b → HasPartnerAmong partners at
          by_other true is = has is
          by_other false is = absurd (not_both (is_live live) is)

      by_test : (b : Bool) → nat_eq key at ≡ b → HasPartnerAmong partners key
      by_test true hit = let here = eqb-true key at hit in subst (HasPartnerAmong partners) (sym here) (paired (subst (LivesAt objects) here live))
      by_test false miss = some key (other-at key at miss below) live

  pub live-lacks : (at : ℕ) (one other : Bool) → ((one ≡ true) ↔ LivesAt objects at) → ((other ≡ true) ↔ HasPartnerAmong partners at) → one ≡ true → other ≡ false →
      (false ≡ true) ↔ AreLivePaired objects (λ key. slice_index_or partners key None)
  live-lacks at one other (lives, is_live) (has, is_paired) is not_other =
      (λ e. absurd (false≢true e), λ all. let live = lives is in absurd (false≢true (sym not_other ∙ is_paired (all at live.0 live.1 live.2))))

  pub live-end : (at : ℕ) → AreSomeLivePaired objects partners at → ((key : ℕ) (object : Object) → objects key ≡ Some object → key < at) →
      (true ≡ true) ↔ AreLivePaired objects (λ key. slice_index_or partners key None)
  live-end at some below = (λ e key object is live. some key (below key object is) (object, is, live), λ all. refl)
