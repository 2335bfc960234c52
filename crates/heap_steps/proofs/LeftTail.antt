-- What is left of a graph whose scope is left.
use Rattle.std.proofs.Common.{◌≡◌, ◌≢◌, ℕ, Bool, true, false, not, ◌||◌, List, [], ◌∷◌, nat_eq, Option, None, Some, refl, sym, ◌∙◌, ap, eqb-true, eq-eqb}
use Rattle.std.specs.Prelude.{if◌then◌else◌}
use Rattle.std.proofs.lemmas.Bool.{false≢true, or_left, or_right}
use Rattle.std.proofs.lemmas.Option.{same_Some, none-some}
use Rattle.graph.specs.declared.object.Object.{Object}
use Rattle.graph.specs.declared.parts.Named.{Named}
use Rattle.graph.specs.declared.parts.Parts.{Parts}
use Rattle.graph.specs.Maps.{object_at, storage_of}
use Rattle.graph.specs.Whole.{IsGraph}
use Rattle.graph.proofs.Found.{IsSome-holds, found-all}
use Rattle.changes.specs.Dying.{died}
use Rattle.changes.specs.Parts.{is_among, emptied}
use Rattle.changes.proofs.Objects.{replaced-here, replaced-other}
use Rattle.heap_steps.specs.Leaving.{MayLeave, LeaveTail, without_variable, without_one, left}
use Rattle.heap_steps.proofs.EndedOne.{ended as ended_parts}
use Rattle.heap_steps.proofs.Left.{IsStored, stored, middle_is, middle_graph, rest_may, storage_middle}
use Rattle.heap_steps.proofs.VariableGone.{other_storage}

emptied_more : (variable : ℕ) (rest : List ℕ) (found : ℕ → Option ℕ) (at : ℕ) → emptied rest (emptied (variable ∷ []) found) at ≡ emptied (variable ∷ rest) found at
emptied_more variable rest found at = by_test (nat_eq variable at) (is_among rest at)
  where
    by_test : (here later : Bool) → (if later then None else (if here || false then None else found at)) ≡ (if here || later then None else found at)
    by_test true true = refl
    by_test true false = refl
    by_test false true = refl
    by_test false false = refl

tail_more : (variable : ℕ) (rest : List ℕ) (parts : Parts) (graph : IsGraph parts) (may : MayLeave parts (variable ∷ rest)) (after : Parts) → LeaveTail (without_one variable parts) rest after → LeaveTail parts (variable ∷ rest) after
tail_more variable rest parts graph may after later =
    let same = middle_is variable rest parts graph may in record {
      graph = later.graph;
      ports = later.ports ∙ ap (λ (p : Parts). p.ports) same;
      registers = later.registers ∙ ap (λ (p : Parts). p.registers) same;
      values = later.values ∙ ap (λ (p : Parts). p.values) same;
      unequal = later.unequal ∙ ap (λ (p : Parts). p.unequal) same;
      variables = λ at. later.variables at ∙ by_test at (is_among rest at) ∙ emptied_more variable rest (storage_of parts.variables) at;
      objects = λ key object stands others. later.objects key object
          (object_middle key object stands (λ own. others variable (or_left (nat_eq variable variable) (is_among rest variable) (eq-eqb variable variable refl)) own))
          (λ at among found. others at (or_right (nat_eq variable at) (is_among rest at) among) (was_stored at key found));
      dead = λ at key object among found stands. by_first at key object found stands (nat_eq variable at) refl among;
    }
  where
    store : IsStored variable parts
    store = stored variable rest parts graph may

    same_middle : without_one variable parts ≡ ended_parts variable store.key store.object parts graph store.named store.stands
    same_middle = middle_is variable rest parts graph may

    -- another object stays
    object_middle : (key : ℕ) (object : Object) → object_at parts.objects key ≡ Some object → storage_of parts.variables variable ≢ Some key → object_at (without_one variable parts).objects key ≡ Some object
    object_middle key object stands other =
        ap (λ (p : Parts). object_at p.objects key) same_middle ∙ replaced-other store.key (died store.object) parts.objects key (λ same. other (store.named ∙ ap Some (sym same))) ∙ stands

    was_stored : (at key : ℕ) → storage_of (without_one variable parts).variables at ≡ Some key → storage_of parts.variables at ≡ Some key
    was_stored at key found = by_hit (nat_eq variable at || false) (sym (storage_middle variable rest parts graph may at) ∙ found)
      where
        by_hit : (b : Bool) → ◌≡◌ {A = Option ℕ} (if b then None else storage_of parts.variables at) (Some key) → storage_of parts.variables at ≡ Some key
        by_hit true none = absurd (none-some key none)
        by_hit false is = is

    -- no other variable has the object that died
    none_else : (at : ℕ) → storage_of (without_one variable parts).variables at ≢ Some store.key
    none_else at found =
        let all = other_storage variable parts graph store.key store.named in
        let stored_else : storage_of (without_variable variable parts).variables at ≡ Some store.key = ap (λ (p : Parts). storage_of p.variables at) (sym same_middle) ∙ found in
        let differs = found-all (λ (named : Named). named.variable) (λ (named : Named). named.object) (λ key. not (nat_eq key store.key)) (without_variable variable parts).variables at store.key all stored_else in
        false≢true (sym (ap not (eq-eqb store.key store.key refl)) ∙ differs)

    died_middle : object_at (without_one variable parts).objects store.key ≡ Some (died store.object)
    died_middle = ap (λ (p : Parts). object_at p.objects store.key) same_middle ∙ replaced-here store.key (died store.object) parts.objects (IsSome-holds _ _ store.stands)

    by_first : (at key : ℕ) (object : Object) → storage_of parts.variables at ≡ Some key → object_at parts.objects key ≡ Some object → (b : Bool) → nat_eq variable at ≡ b → (b || is_among rest at) ≡ true → object_at after.objects key ≡ Some (died object)
    by_first at key object found stands true here among =
        let key_is : store.key ≡ key = same_Some _ _ (sym store.named ∙ ap (storage_of parts.variables) (eqb-true _ _ here) ∙ found) in
        let object_is : store.object ≡ object = same_Some _ _ (sym store.stands ∙ ap (object_at parts.objects) key_is ∙ stands) in
        ap (object_at after.objects) (sym key_is) ∙ later.objects store.key (died store.object) died_middle (λ other among'. none_else other) ∙ ap (λ (o : Object). Some (died o)) object_is
    by_first at key object found stands false elsewhere among =
        let still : storage_of (without_one variable parts).variables at ≡ Some key = storage_middle variable rest parts graph may at ∙ ap (λ (b : Bool). if b || false then None else storage_of parts.variables at) elsewhere ∙ found in
        later.dead at key object among still (object_middle key object stands (λ own. none_else at (still ∙ ap Some (same_Some _ _ (sym own ∙ store.named)))))

    by_test : (at : ℕ) (b : Bool) → (if b then None else storage_of (without_one variable parts).variables at) ≡ (if b then None else emptied (variable ∷ []) (storage_of parts.variables) at)
    by_test at true = refl
    by_test at false = storage_middle variable rest parts graph may at

pub all_tail : (which : List ℕ) (parts : Parts) → IsGraph parts → MayLeave parts which → LeaveTail parts which (left which parts)
all_tail [] parts graph may = record { graph = graph; ports = refl; registers = refl; values = refl; unequal = refl; variables = λ at. refl; objects = λ key object stands others. stands; dead = λ variable key object among found stands. absurd (false≢true among) }
all_tail (variable ∷ rest) parts graph may =
    tail_more variable rest parts graph may (left rest (without_one variable parts)) (all_tail rest (without_one variable parts) (middle_graph variable rest parts graph may) (rest_may variable rest parts graph may))
