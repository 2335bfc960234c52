-- A look for lost blocks on a graph: which states go on, and which meet the fault.
use Rattle.std.proofs.Common.{◌≡◌, ℕ, suc, Bool, true, false, ◌||◌, List, [], ◌∷◌, None, ◌⊎◌, inl, inr, refl, sym, ◌∙◌, subst, arith}
use Rattle.std.specs.Prelude.{Contains}
use Rattle.std.specs.List.{list_any}
use Rattle.std.proofs.lemmas.Bool.{false≢true}
use Rattle.std.proofs.lemmas.Option.{none-some}
use Rattle.bytes_core.specs.Fault.{memory_lost}
use Rattle.graph.specs.declared.parts.KeyedObject.{KeyedObject}
use Rattle.graph.specs.declared.parts.Parts.{Parts}
use Rattle.graph.specs.State.{State, IsState}
use Rattle.graph.specs.Meaning.{StandsFor, IsOwned, Assignment, Meets, maps_of}
use Rattle.graph.specs.Whole.{IsGraph}
use Rattle.changes.specs.Posted.{SomeStandsFor}
use Rattle.heap_steps.specs.Looking.{loses_some, looked_by, looked}
use Rattle.heap_steps.specs.Reached.{IsLost}
use Rattle.heap_steps.specs.Steps.{LosesNone, LosesSome}
use Rattle.heap_steps.specs.Unreached.{is_unreached, unreached, may_lead_anywhere, SomeMemoryLoses}
use Rattle.heap_steps.proofs.Listed.{Contains-first, Contains-cases, Contains-none, Contains-get, get_contained, mapped_from, mapped_to}
use Rattle.heap_steps.proofs.Loses.{kept_from, kept_to, unreached_loses, loses_unreached, all_lost}
use Rattle.heap_steps.proofs.Tame.{some_at}

-- some item passes
pub some_item : {X : Type 0} (test : X → Bool) (xs : List X) → list_any test xs ≡ true → (x : X) × (test x ≡ true) × Contains xs x
some_item test [] some = absurd (false≢true some)
some_item test (first ∷ rest) some = by_first (test first) refl some (λ later. some_item test rest later)
  where
    by_first : (b : Bool) → test first ≡ b → (b || list_any test rest) ≡ true → (list_any test rest ≡ true → (x : _) × (test x ≡ true) × Contains rest x) → (x : _) × (test x ≡ true) × Contains (first ∷ rest) x
    by_first true passes either later = (first, passes, Contains-first first rest)
    by_first false fails either later = let found = later either in (found.0, found.1, (suc found.2.0, (let below = found.2.1 in omega arith), found.2.2))

module _ (parts : Parts) (graph : IsGraph parts) where
  -- some object is unreached
  pub some_unreached : loses_some parts ≡ true → (key : ℕ) × Contains (unreached parts) key
  some_unreached some =
      let found = some_item (is_unreached parts) parts.objects some in
      let kept = get_contained _ found.0 (kept_to (is_unreached parts) parts.objects found.0 found.1 found.2) in
      (found.0.key, mapped_to (λ (entry : KeyedObject). entry.key) _ kept.0 found.0 kept.1)

  -- a block that is lost is one of an object that is unreached
  pub lost_some : (state : State) (given : Assignment) → IsState state → Meets (maps_of parts) state given → (number : ℕ) → IsLost state number → loses_some parts ≡ true
  lost_some state given is meets number lost = by_key (loses_unreached parts graph (given.owner number) (record {
    there = owned.object;
    state = state;
    is = is;
    given = given;
    meets = meets;
    place = given.place number;
    number = number;
    block = owned.block;
    lost = lost;
  }))
    where
      owned : IsOwned (maps_of parts) given number
      owned = meets.used number lost.block lost.stands lost.live

      by_key : Contains (unreached parts) (given.owner number) → loses_some parts ≡ true
      by_key there =
          let mapped = mapped_from (λ (entry : KeyedObject). entry.key) _ (given.owner number) there in
          let kept = kept_from (is_unreached parts) parts.objects mapped.1 (Contains-get _ mapped.0 mapped.1 mapped.2) in
          let at = get_contained parts.objects mapped.1 kept.1 in
          some_at (is_unreached parts) parts.objects at.0 mapped.1 at.1 kept.0

  -- Both truths at once.

  pub looked_sound : (next : State) → IsState next → StandsFor parts next → LosesNone next → SomeStandsFor (looked parts).graphs next
  looked_sound next is stands none = by_cases (loses_some parts) refl (may_lead_anywhere parts) refl
    where
      here : SomeStandsFor (parts ∷ []) next
      here = record { graph = parts; among = Contains-first parts []; stands = stands }

      by_cases : (some : Bool) → loses_some parts ≡ some → (anywhere : Bool) → may_lead_anywhere parts ≡ anywhere → SomeStandsFor (looked_by parts some anywhere).graphs next
      by_cases false some_is anywhere anywhere_is = here
      by_cases true some_is true anywhere_is = here
      by_cases true some_is false anywhere_is =
          let key = some_unreached some_is in
          let lost = all_lost parts graph anywhere_is key.0 key.1 next stands.given is stands.meets in
          absurd (none lost.0 lost.1)

  pub looked_listed : (kind : ℕ) (next : State) → IsState next → StandsFor parts next → LosesSome kind next → Contains (looked parts).kinds kind
  looked_listed kind next is stands loses = by_cases (loses_some parts) refl (may_lead_anywhere parts)
    where
      some : loses_some parts ≡ true
      some = lost_some next stands.given is stands.meets loses.number loses.lost

      one : Contains (memory_lost ∷ []) kind
      one = subst (λ (k : ℕ). Contains (memory_lost ∷ []) k) (sym loses.is) (Contains-first memory_lost [])

      by_cases : (b : Bool) → loses_some parts ≡ b → (anywhere : Bool) → Contains (looked_by parts b anywhere).kinds kind
      by_cases false none anywhere = absurd (false≢true (sym none ∙ some))
      by_cases true is' false = one
      by_cases true is' true = one

  -- a kind that is listed is met
  pub record IsMetLooking (kind : ℕ) : Type 0 where
    pub is : kind ≡ memory_lost
    pub key : ℕ
    pub loses : SomeMemoryLoses parts key

  pub looked_met : (kind : ℕ) → Contains (looked parts).kinds kind → IsMetLooking kind
  looked_met kind there = by_cases (loses_some parts) refl (may_lead_anywhere parts) there
    where
      met : loses_some parts ≡ true → Contains (memory_lost ∷ []) kind → IsMetLooking kind
      met some listed = let key = some_unreached some in record { is = by_one (Contains-cases memory_lost kind [] listed); key = key.0; loses = unreached_loses parts graph key.0 key.1 }
        where
          by_one : (memory_lost ≡ kind) ⊎ Contains [] kind → kind ≡ memory_lost
          by_one (inl same) = sym same
          by_one (inr none) = absurd (Contains-none kind none)

      by_cases : (b : Bool) → loses_some parts ≡ b → (anywhere : Bool) → Contains (looked_by parts b anywhere).kinds kind → IsMetLooking kind
      by_cases false none anywhere listed = absurd (Contains-none kind listed)
      by_cases true some false listed = met some listed
      by_cases true some true listed = met some listed

  -- where no loss is named, a graph of the post stands for states that lose nothing
  pub record IsLookedExactly (next : State) : Type 0 where
    pub stands : StandsFor parts next
    pub none : loses_some parts ≡ false

  pub looked_exact : (looked parts).loss ≡ None → (next : State) → SomeStandsFor (looked parts).graphs next → IsLookedExactly next
  looked_exact loss next some = by_cases (loses_some parts) refl (may_lead_anywhere parts) loss some
    where
      by_cases : (b : Bool) → loses_some parts ≡ b → (anywhere : Bool) → (looked_by parts b anywhere).loss ≡ None → SomeStandsFor (looked_by parts b anywhere).graphs next → IsLookedExactly next
      by_cases false none anywhere loss' some' = record { stands = by_one some' (Contains-cases parts some'.graph [] some'.among); none = none }
        where
          by_one : (some : SomeStandsFor (parts ∷ []) next) → (parts ≡ some.graph) ⊎ Contains [] some.graph → StandsFor parts next
          by_one some (inl same) = subst (λ (p : Parts). StandsFor p next) (sym same) some.stands
          by_one some (inr nothing) = absurd (Contains-none some.graph nothing)
      by_cases true is false loss' some' = absurd (Contains-none some'.graph some'.among)
      by_cases true is true loss' some' = absurd (none-some 3 (sym loss'))

  pub none_lost : loses_some parts ≡ false → (state : State) (given : Assignment) → IsState state → Meets (maps_of parts) state given → LosesNone state
  none_lost none state given is meets number lost = false≢true (sym none ∙ lost_some state given is meets number lost)
