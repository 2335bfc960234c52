-- The functions that are built in are declared one behind the other.
use Rattle.std.proofs.Common.{◌≡◌, ◌∙◌, ◌<◌, ◌≤◌, ◌+◌, ℕ, Bool, true, false, List, [], ◌∷◌, ◌++◌, map, drop, length, get_or, refl, sym, ap, subst, arith, All, Result, Ok, Err, OnOk, None}
use Rattle.std.proofs.lemmas.List.{drop_all, get_or_default, map-append}
use Rattle.std.proofs.lemmas.List.Elements.{All-nil, All-push}
use Rattle.cbase.specs.declared.abi.Abi.{Abi}
use Rattle.cbase.specs.declared.abi.Abi.TheVariants.{Lp64, Llp64}
use Rattle.cbase.specs.declared.ctype.CType.{CType}
use Rattle.cbase.specs.declared.ctype.CType.TheVariants.{Int as IntType, Pointer}
use Rattle.cbase.specs.declared.no_memory.NoMemory.{NoMemory}
use Rattle.typing.specs.declared.environment.entity.Definition.TheVariants.{NotDefined}
use Rattle.typing.specs.declared.environment.entity.Entity.TheVariants.{Function}
use Rattle.typing.specs.declared.environment.entity.Linked.{Linked}
use Rattle.typing.specs.declared.environment.environment.Environment.{Environment}
use Rattle.typing.specs.environment.BuiltIns.{FunctionType, size_type}
use Rattle.typing.specs.environment.Environment.{is_defined, signature_added}
use Rattle.typing.specs.environment.Linkage.{linked_declared}
use Rattle.typing.specs.environment.Names.{Entries}
use Rattle.expressions.specs.Context.{Context, Agrees, Grows, OnlyTypes}
use Rattle.expressions.specs.Language.{linked_function}
use Rattle.expressions.specs.Operated.{Numbers}
use Rattle.expressions.proofs.Growth.{agrees_before, agrees_before_types, below_only_types, grows_same, grows_trans, keeps_behind, number_back, only_types_grows, only_types_same, only_types_trans}
use Rattle.expressions.proofs.Loops.{next_item}
use Rattle.items.proofs.parameters.TypesAlike.{numbers_back}
use Rattle.items.specs.declared.built_ins.BuiltIn.{BuiltIn}
use Rattle.items.specs.Begun.{AreNumbers, HasMore, IsBuiltIn, IsNumberBehind, built_ins_declared, declared_unless, function_in, is_among}

-- `size_t` has 8 bytes
pub size_is : (abi : Abi) → size_type abi ≡ IntType 8 false
size_is Lp64 = refl
size_is Llp64 = refl

-- the number of a pointer to the type of a number
pub pointer_number : (t : CType) (old mid new : Context) (item number : ℕ) → Numbers (λ n. t) old mid item → Numbers (λ n. Pointer (n.ctype item)) mid new number
    → Numbers (λ n. Pointer t) old new number
pointer_number t old mid new item number first second = record {
  only_types = only_types_trans old mid new first.only_types second.only_types;
  below = second.below;
  meant = λ n agrees. second.meant n agrees ∙ ap Pointer (first.meant n (agrees_before_types mid new n second.only_types agrees));
}

-- numbers of types, one behind the other
no_numbers : (context : Context) (numbers : List ℕ) → numbers ≡ [] → AreNumbers [] context context numbers
no_numbers context numbers none = subst (λ (these : List ℕ). AreNumbers [] context context these) (sym none)
    (record { only_types = only_types_same context; below = All-nil (λ (one : ℕ). one < length context.types); meant = λ n agrees. refl })

below_later : (old new : Context) (numbers : List ℕ) → OnlyTypes old new → All (λ number. number < length old.types) numbers → All (λ number. number < length new.types) numbers
below_later old new numbers only below = λ at default within. below_only_types old new only (get_or numbers at default) (below at default within)

pub one_more_number : (types : List CType) (t : CType) (old mid new : Context) (before after : List ℕ) → AreNumbers types old mid before → IsNumberBehind t mid new before after
    → AreNumbers (types ++ t ∷ []) old new after
one_more_number types t old mid new before after first second =
    subst (λ (these : List ℕ). AreNumbers (types ++ t ∷ []) old new these) (sym second.1) (record {
      only_types = only_types_trans old mid new first.only_types second.2.only_types;
      below = All-push (λ (one : ℕ). one < length new.types) before second.0 (below_later mid new before second.2.only_types first.below) second.2.below;
      meant = λ n agrees.
          map-append n.ctype before (second.0 ∷ [])
          ∙ λ i. first.meant n (agrees_before_types mid new n second.2.only_types agrees) i ++ second.2.meant n agrees i ∷ [];
    })

pub last_number : (types : List CType) (t : CType) (old mid new : Context) (before after : List ℕ) (r : Result (Unit {0}) NoMemory) → AreNumbers types old mid before → OnOk r (IsNumberBehind t mid new before after)
    → OnOk r (AreNumbers (types ++ t ∷ []) old new after)
last_number types t old mid new before after (Ok told) first second = one_more_number types t old mid new before after first second
last_number types t old mid new before after (Err error) first second = tt

pub first_number : (t : CType) (old new : Context) (none after : List ℕ) → none ≡ [] → IsNumberBehind t old new none after → AreNumbers (t ∷ []) old new after
first_number t old new none after empty number = one_more_number [] t old old new none after (no_numbers old none empty) number

-- a function is declared behind the numbers of its types
module _ (name : List ℕ) (t : FunctionType) (old mid late more new : Context) (number signature : ℕ) (numbers : List ℕ)
    (of : Numbers (λ n. t.result) old mid number) (params : AreNumbers t.parameters mid late numbers) (last : signature ≡ length late.environment.signatures)
    (added : more ≡ record late { environment = signature_added (record { result = number; parameters = numbers }) late.environment }) where
  only : OnlyTypes old late
  only = only_types_trans old mid late of.only_types params.only_types

  abbrev the_function : Bool → Linked
  the_function defined = record { entity = Function signature defined true; definition = NotDefined }

  module _ (defined : Bool) (said : defined ≡ is_defined name more.environment) (is : new ≡ record more { environment = linked_declared name None (the_function defined) more.environment }) where
    whole : new ≡ record late {
      environment = linked_declared name None (the_function (is_defined name late.environment)) (signature_added (record { result = number; parameters = numbers }) late.environment);
    }
    whole = is
        ∙ (ap (λ (there : Bool). record more { environment = linked_declared name None (the_function there) more.environment }) said
        ∙ ap (λ (c : Context). record c { environment = linked_declared name None (the_function (is_defined name c.environment)) c.environment }) added)

    further : Grows late new
    further = record {
      types = λ at item there. rw (ap (λ (c : Context). c.types) whole) there;
      structs = λ at item there complete. rw (ap (λ (c : Context). c.structs) whole) there;
      longer = rw (ap (λ (c : Context). c.structs) whole) (omega arith);
      signatures = λ at item there. rw (ap (λ (c : Context). c.environment.signatures) whole) (keeps_behind late.environment.signatures (record { result = number; parameters = numbers }) at item there);
    }

    function_declared : IsBuiltIn name t old new
    function_declared = record {
      grows = grows_trans old late new (only_types_grows old late only) further;
      structs = ap (λ (c : Context). c.structs) whole ∙ only.structs;
      handed = ap (λ (c : Context). c.handed) whole ∙ only.handed;
      declares = λ n agrees.
          let then : Agrees n late = agrees_before late new n further agrees in
          let result : number ≡ n.number t.result =
          sym (number_back n late number then (below_only_types mid late params.only_types number of.below))
          ∙ ap n.number (of.meant n (agrees_before_types mid late n params.only_types then)) in
          let parameters : numbers ≡ map n.number t.parameters = sym (numbers_back n late then numbers params.below) ∙ ap (map n.number) (params.meant n then) in
          ap (λ (c : Context). c.environment) whole
          ∙ λ i. linked_declared name None (linked_function ((last ∙ ap (λ (env : Environment). length env.signatures) only.environment) i) (is_defined name (only.environment i)) true NotDefined)
          (signature_added (record { result = result i; parameters = parameters i }) (only.environment i));
    }

  pub function_result : (defined : Bool) (r : Result (Unit {0}) NoMemory) → defined ≡ is_defined name more.environment
      → OnOk r (new ≡ record more { environment = linked_declared name None (the_function defined) more.environment }) → OnOk r (IsBuiltIn name t old new)
  function_result defined (Ok told) said is = function_declared defined said is
  function_result defined (Err error) said is = tt

module _ (bodied : List (List ℕ)) where
  -- none
  pub none_more : (functions : Entries FunctionType) (context : Context) → functions ≡ [] → HasMore bodied functions context context
  none_more functions context none = subst (λ (these : Entries FunctionType). HasMore bodied these context context) (sym none)
      (record { grows = grows_same context; structs = refl; handed = refl; declares = λ n agrees. refl })

  -- one in front of others
  pub more_in_front : (function : List ℕ × FunctionType) (functions : Entries FunctionType) (old mid new : Context) → HasMore bodied (function ∷ []) old mid → HasMore bodied functions mid new
      → HasMore bodied (function ∷ functions) old new
  more_in_front function functions old mid new first rest = record {
    grows = grows_trans old mid new first.grows rest.grows;
    structs = rest.structs ∙ first.structs;
    handed = rest.handed ∙ first.handed;
    declares = λ n agrees. rest.declares n agrees ∙ ap (built_ins_declared n bodied functions) (first.declares n (agrees_before mid new n rest.grows agrees));
  }

  -- one that has a body, and one that has none
  pub none_with_body : (name : List ℕ) (t : FunctionType) (context : Context) → is_among name bodied ≡ true → HasMore bodied ((name, t) ∷ []) context context
  none_with_body name t context among = record {
    grows = grows_same context;
    structs = refl;
    handed = refl;
    declares = λ n agrees. ap (λ (has : Bool). declared_unless has n name t context.environment) (sym among);
  }

  one_without : (name : List ℕ) (t : FunctionType) (old new : Context) → is_among name bodied ≡ false → IsBuiltIn name t old new → HasMore bodied ((name, t) ∷ []) old new
  one_without name t old new among one = record {
    grows = one.grows;
    structs = one.structs;
    handed = one.handed;
    declares = λ n agrees. one.declares n agrees ∙ ap (λ (has : Bool). declared_unless has n name t old.environment) (sym among);
  }

  pub one_result : (name : List ℕ) (t : FunctionType) (old new : Context) (r : Result (Unit {0}) NoMemory) → is_among name bodied ≡ false → OnOk r (IsBuiltIn name t old new) → OnOk r (HasMore bodied ((name, t) ∷ []) old new)
  one_result name t old new (Ok told) among one = one_without name t old new among one
  one_result name t old new (Err error) among one = tt

  -- functions of a table of which so many are declared: what comes of the rest comes of all
  abbrev pub Declaring : Abi → List BuiltIn → Context → Context → ℕ → Type 0
  Declaring abi functions old mid index = (new : Context) → HasMore bodied (map (function_in abi) (drop index functions)) mid new → HasMore bodied (map (function_in abi) functions) old new

  pub declaring_next : (abi : Abi) (functions : List BuiltIn) (old mid late : Context) (index : ℕ) (none : BuiltIn) → index < length functions
      → HasMore bodied (function_in abi (get_or functions index none) ∷ []) mid late → Declaring abi functions old mid index → Declaring abi functions old late (index + 1)
  declaring_next abi functions old mid late index none within one whole = λ new rest.
      whole new (subst (λ (these : List BuiltIn). HasMore bodied (map (function_in abi) these) mid new)
      (sym (next_item functions index (get_or functions index none) within (get_or_default functions index none (get_or functions index none) within)))
      (more_in_front (function_in abi (get_or functions index none)) (map (function_in abi) (drop (index + 1) functions)) mid late new one rest))

  pub declaring_end : (abi : Abi) (functions : List BuiltIn) (old new : Context) (index : ℕ) → length functions ≤ index
      → Declaring abi functions old new index → HasMore bodied (map (function_in abi) functions) old new
  declaring_end abi functions old new index past whole =
      whole new (none_more (map (function_in abi) (drop index functions)) new (ap (map (function_in abi)) (drop_all index functions past)))
