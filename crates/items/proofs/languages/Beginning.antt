-- How a context comes to declare what C declares in front of a text: the functions that are built in one behind the other, and the names that the text
-- defines.
use Rattle.std.proofs.Common.{◌≡◌, ℕ, List, [], ◌∷◌, ◌++◌, length, Option, Some, None, refl, sym, ap, subst, ◌∙◌}
use Rattle.std.specs.Prelude.{Bool, true, false, not, ◌&&◌, ◌||◌, map, is_some, option_map, if◌then◌else◌}
use Rattle.std.specs.Str.{bytes_eq}
use Rattle.std.proofs.lemmas.List.{append_assoc, append-nil, map-append}
use Rattle.std.proofs.lemmas.List.Elements.{filter-append}
use Rattle.std.proofs.lemmas.List.Folds.{list_any-append}
use Rattle.cbase.specs.declared.abi.Abi.{Abi}
use Rattle.cbase.specs.declared.abi.Abi.TheVariants.{Lp64, Llp64}
use Rattle.typing.specs.declared.environment.entity.Binding.TheVariants.{WithLinkage as LinkageByNumber}
use Rattle.typing.specs.declared.environment.entity.Definition.TheVariants.{NotDefined as NotDefinedByNow}
use Rattle.typing.specs.declared.environment.entity.Signature.{Signature}
use Rattle.typing.specs.declared.environment.environment.Environment.{Environment}
use Rattle.typing.specs.environment.BuiltIns.{FunctionType, built_ins}
use Rattle.typing.specs.environment.Environment.{is_defined, name_defined, nothing_declared, scope_entered, signature_added, strict_set}
use Rattle.typing.specs.environment.Linkage.{linked_declared}
use Rattle.typing.specs.environment.Names.{Entries, value_in, with_value}
use Rattle.typing.specs.environment.Scopes.{declared}
use Rattle.typing.proofs.environment.Tables.{value-put}
use Rattle.typing.specs.Entities.{NotDefined}
use Rattle.expressions.specs.Language.{linked_function}
use Rattle.expressions.specs.Numbers.{Numbering}
use Rattle.items.specs.languages.AtTypes.{binding_at, link_at, declarations_at, HasSignatures}
use Rattle.items.specs.languages.CBegin.{is_among, without_body, built_in_link, with_linkage, with_functions, c_begin}
use Rattle.items.specs.languages.CLanguage.{Declarations}
use Rattle.items.specs.languages.CLanguage.{scope_entered as scope_entered_in_c}
use Rattle.items.specs.languages.LeadsBack.{LeadsBack}
use Rattle.items.specs.languages.Mapped.{entries_named}
use Rattle.items.specs.languages.Meanings.{AFunction, WithLinkage}
use Rattle.items.proofs.languages.AtTypes.{types_back}
use Rattle.items.proofs.languages.CCarries.{at_the_end, linked_with, signature_valid}
use Rattle.items.proofs.languages.Mapped.{value_named, declared_mapped}

-- a function that is built in is declared by numbers: its signature has the number behind the others
abbrev pub signature_of : Numbering → FunctionType → Signature
signature_of n function = record { result = n.number function.result; parameters = map n.number function.parameters }

abbrev pub built_in_added : Numbering → List ℕ → FunctionType → Environment → Environment
built_in_added n name function env =
    linked_declared name None (linked_function (length env.signatures) (is_defined name env) true NotDefinedByNow) (signature_added (signature_of n function) env)

-- a name that has no value gets one behind the others
put_behind : {A : Type 0} (name : List ℕ) (value : A) (table : Entries A) → value_in name table ≡ None → with_value name value table ≡ table ++ (name, value) ∷ []
put_behind name value [] none = refl
put_behind {A} name value (entry ∷ others) none = step (bytes_eq name entry.0) (put_behind name value others) none
  where
    step : (test : Bool) → (value_in name others ≡ None → with_value name value others ≡ others ++ (name, value) ∷ [])
        → (if test then Some entry.1 else value_in name others) ≡ None
        → (if test then (entry.0, value) ∷ others else entry ∷ with_value name value others) ≡ entry ∷ (others ++ (name, value) ∷ [])
    step true further is = cc is
    step false further is = ap (λ (rest : Entries A). entry ∷ rest) (further is)

module _ {A B : Type 0} (f : List ℕ → A → B) (name : List ℕ) (value : A) (table : Entries A) (none : value_in name table ≡ None) where
  grown : with_value name (f name value) (entries_named f table) ≡ entries_named f (table ++ (name, value) ∷ [])
  grown =
      put_behind name (f name value) (entries_named f table) (value_named f name table ∙ ap (option_map (f name)) none)
      ∙ sym (map-append (λ (entry : List ℕ × A). (entry.0, f entry.0 entry.1)) table ((name, value) ∷ []))

-- one more function that is built in
module _ (n : Numbering) (back : LeadsBack n) (strict : Bool) (defined : List (List ℕ)) (name : List ℕ) (function : FunctionType) (table : Entries FunctionType)
    (none : value_in name table ≡ None) where
  one_more : record (with_functions strict defined table) {
    names = declared name (WithLinkage None) (with_functions strict defined table).names;
    links = with_value name (built_in_link defined name function) (with_functions strict defined table).links;
  } ≡ with_functions strict defined (table ++ (name, function) ∷ [])
  one_more = λ i. record (with_functions strict defined table) {
    names = grown with_linkage name function table none i ∷ [];
    links = grown (built_in_link defined) name function table none i;
  }

  module _ (env : Environment) (so_far : declarations_at n (record { environment = env; structs = [] }) ≡ with_functions strict defined table)
      (number : n.signature (length env.signatures) ≡ signature_of n function) where
    link_is : link_at n (linked_function (length env.signatures) (is_defined name env) true NotDefinedByNow) ≡ built_in_link defined name function
    link_is =
        ap (λ (s : Signature). record {
          meaning = AFunction (record { result = n.ctype s.result; params = map n.ctype s.parameters; defined = is_defined name env; built_in = true });
          definition = NotDefined;
        }) number
        ∙ (λ i. record {
          meaning = AFunction (record { result = back function.result i; params = types_back n back function.parameters i; defined = (so_far i).defines name; built_in = true });
          definition = NotDefined;
        })

    built_in_one : declarations_at n (record { environment = built_in_added n name function env; structs = [] }) ≡ with_functions strict defined (table ++ (name, function) ∷ [])
    built_in_one =
        linked_with n name (linked_function (length env.signatures) (is_defined name env) true NotDefinedByNow) (built_in_link defined name function)
        (declared name (LinkageByNumber None) env.names) (declared name (WithLinkage None) (declarations_at n (record { environment = env; structs = [] })).names)
        (record { environment = signature_added (signature_of n function) env; structs = [] })
        (declared_mapped (binding_at n) name (LinkageByNumber None) env.names) link_is
        ∙ (ap (λ (at : Declarations). record at { names = declared name (WithLinkage None) at.names; links = with_value name (built_in_link defined name function) at.links }) so_far
        ∙ one_more)

-- each name of the table is new there
abbrev are_new : {A : Type 0} → Entries A → Entries A → Bool
are_new front [] = true
are_new front (entry ∷ rest) = not (is_some (value_in entry.0 front)) && are_new (front ++ entry ∷ []) rest

no_value : {A : Type 0} (o : Option A) (others : Bool) → (not (is_some o) && others) ≡ true → o ≡ None
no_value None others test = refl
no_value (Some value) others test = cc test

others_pass : (first others : Bool) → (first && others) ≡ true → others ≡ true
others_pass true others test = test
others_pass false others test = cc test

built_ins_are_new : (abi : Abi) → are_new [] (built_ins abi) ≡ true
built_ins_are_new Lp64 = refl
built_ins_are_new Llp64 = refl

-- where the text has a body for some names, those of the table that it has none for are new as well
module _ (bodied : List (List ℕ)) where
  none_kept : (test : Bool) (name : List ℕ) (entry : List ℕ × FunctionType) (table kept : Entries FunctionType) → (if bytes_eq name entry.0 then Some entry.1 else value_in name table) ≡ None
      → (value_in name table ≡ None → value_in name kept ≡ None) → value_in name (if test then entry ∷ kept else kept) ≡ None
  none_kept test name entry table kept none further = step test (bytes_eq name entry.0) none
    where
      others : (same : Bool) → (if same then Some entry.1 else value_in name table) ≡ None → value_in name table ≡ None
      others true is = cc is
      others false is = is

      first : (same : Bool) → (if same then Some entry.1 else value_in name table) ≡ None → (if same then Some entry.1 else value_in name kept) ≡ None
      first true is = cc is
      first false is = further is

      step : (test same : Bool) → (if same then Some entry.1 else value_in name table) ≡ None → value_in name (if test then entry ∷ kept else kept) ≡ None
      step true same is = first (bytes_eq name entry.0) none
      step false same is = further (others same is)

  new_without_body : (name : List ℕ) (table : Entries FunctionType) → value_in name table ≡ None → value_in name (without_body bodied table) ≡ None
  new_without_body name [] none = refl
  new_without_body name (entry ∷ table) none = none_kept (not (is_among entry.0 bodied)) name entry table (without_body bodied table) none (new_without_body name table)

  without_body_more : (table : Entries FunctionType) (entry : List ℕ × FunctionType) → is_among entry.0 bodied ≡ false
      → without_body bodied (table ++ entry ∷ []) ≡ without_body bodied table ++ entry ∷ []
  without_body_more table entry among =
      filter-append (λ e. not (is_among e.0 bodied)) table (entry ∷ []) ∙ ap (λ b. without_body bodied table ++ (if not b then entry ∷ [] else [])) among

  with_body : (table : Entries FunctionType) (entry : List ℕ × FunctionType) → is_among entry.0 bodied ≡ true
      → without_body bodied (table ++ entry ∷ []) ≡ without_body bodied table
  with_body table entry among =
      filter-append (λ e. not (is_among e.0 bodied)) table (entry ∷ [])
      ∙ (ap (λ b. without_body bodied table ++ (if not b then entry ∷ [] else [])) among ∙ append-nil (without_body bodied table))

-- functions of the table are declared one behind the other, but for those for which the text has a body
module _ (n : Numbering) (back : LeadsBack n) (strict : Bool) (bodied defined : List (List ℕ)) (all : Entries FunctionType → Environment → Environment)
    (all_none : (env : Environment) → all [] env ≡ env)
    (all_more : (function : List ℕ × FunctionType) (functions : Entries FunctionType) (env : Environment)
    → all (function ∷ functions) env ≡ all functions (if is_among function.0 bodied then env else built_in_added n function.0 function.1 env)) where
  abbrev Signed : Environment → Type 0
  Signed env = HasSignatures n (record { environment = env; structs = [] })

  signed_one : (test : Bool) (name : List ℕ) (function : FunctionType) (env : Environment) → Signed (if test then env else built_in_added n name function env) → Signed env
  signed_one true name function env signed = signed
  signed_one false name function env signed = signature_valid n (signature_of n function) (record { environment = env; structs = [] }) signed

  signed_before : (functions : Entries FunctionType) (env : Environment) → Signed (all functions env) → Signed env
  signed_before [] env signed = subst Signed (all_none env) signed
  signed_before (function ∷ functions) env signed =
      signed_one (is_among function.0 bodied) function.0 function.1 env
      (signed_before functions (if is_among function.0 bodied then env else built_in_added n function.0 function.1 env) (subst Signed (all_more function functions env) signed))

  all_declared_one : (test : Bool) (function : List ℕ × FunctionType) (front : Entries FunctionType) (env : Environment)
      → is_among function.0 bodied ≡ test
      → value_in function.0 front ≡ None
      → Signed (if test then env else built_in_added n function.0 function.1 env)
      → declarations_at n (record { environment = env; structs = [] }) ≡ with_functions strict defined (without_body bodied front)
      → declarations_at n (record { environment = (if test then env else built_in_added n function.0 function.1 env); structs = [] })
      ≡ with_functions strict defined (without_body bodied (front ++ function ∷ []))
  all_declared_one true function front env among none signed so_far = so_far ∙ ap (with_functions strict defined) (sym (with_body bodied front function among))
  all_declared_one false function front env among none signed so_far =
      built_in_one n back strict defined function.0 function.1 (without_body bodied front) (new_without_body bodied function.0 front none) env so_far
      (signed (length env.signatures) (signature_of n function.1) (at_the_end env.signatures (signature_of n function.1)))
      ∙ ap (with_functions strict defined) (sym (without_body_more bodied front function among))

  all_declared_behind : (front functions : Entries FunctionType) (env : Environment)
      → are_new front functions ≡ true
      → Signed (all functions env)
      → declarations_at n (record { environment = env; structs = [] }) ≡ with_functions strict defined (without_body bodied front)
      → declarations_at n (record { environment = all functions env; structs = [] }) ≡ with_functions strict defined (without_body bodied (front ++ functions))
  all_declared_behind front [] env new signed so_far =
      ap (λ (e : Environment). declarations_at n (record { environment = e; structs = [] })) (all_none env)
      ∙ (so_far ∙ ap (λ (table : Entries FunctionType). with_functions strict defined (without_body bodied table)) (sym (append-nil front)))
  all_declared_behind front (function ∷ functions) env new signed so_far =
      let next : Environment = (if is_among function.0 bodied then env else built_in_added n function.0 function.1 env) in
      let later : Signed (all functions next) = subst Signed (all_more function functions env) signed in
      ap (λ (e : Environment). declarations_at n (record { environment = e; structs = [] })) (all_more function functions env)
      ∙ (all_declared_behind (front ++ function ∷ []) functions next
      (others_pass (not (is_some (value_in function.0 front))) (are_new (front ++ function ∷ []) functions) new) later
      (all_declared_one (is_among function.0 bodied) function front env refl (no_value (value_in function.0 front) (are_new (front ++ function ∷ []) functions) new)
      (signed_before functions next later) so_far)
      ∙ ap (λ (table : Entries FunctionType). with_functions strict defined (without_body bodied table)) (append_assoc front (function ∷ []) functions))

  pub built_ins_at : (abi : Abi) (env : Environment) → Signed (all (built_ins abi) env)
      → declarations_at n (record { environment = env; structs = [] }) ≡ with_functions strict defined []
      → declarations_at n (record { environment = all (built_ins abi) env; structs = [] }) ≡ with_functions strict defined (without_body bodied (built_ins abi))
  built_ins_at abi env signed so_far = all_declared_behind [] (built_ins abi) env (built_ins_are_new abi) signed so_far

-- one more name that the text defines
module _ (name : List ℕ) where
  some_put : (other : List ℕ) (test : Bool) (o : Option (Unit {0})) → is_some (if test then Some tt else o) ≡ (test || is_some o)
  some_put other true o = refl
  some_put other false o = refl

  either_way : (a b : Bool) → (a || b) ≡ (b || (a || false))
  either_way true true = refl
  either_way true false = refl
  either_way false true = refl
  either_way false false = refl

  one_more_defined : (defined : List (List ℕ)) (definitions : Entries (Unit {0})) (other : List ℕ) → is_some (value_in other definitions) ≡ is_among other defined
      → is_some (value_in other (with_value name tt definitions)) ≡ is_among other (defined ++ name ∷ [])
  one_more_defined defined definitions other same =
      ap is_some (value-put other name tt definitions)
      ∙ (some_put other (bytes_eq other name) (value_in other definitions)
      ∙ (ap (λ b. bytes_eq other name || b) same
      ∙ (either_way (bytes_eq other name) (is_among other defined) ∙ sym (list_any-append (bytes_eq other) defined (name ∷ [])))))

-- all names that it defines, one behind the other
module _ (n : Numbering) (all : List (List ℕ) → Environment → Environment) (all_none : (env : Environment) → all [] env ≡ env)
    (all_more : (name : List ℕ) (names : List (List ℕ)) (env : Environment) → all (name ∷ names) env ≡ all names (name_defined name env)) where
  abbrev defining : Environment → (List ℕ → Bool) → Declarations
  defining env defines = record (declarations_at n (record { environment = env; structs = [] })) { defines = defines }

  all_defined_behind : (front names : List (List ℕ)) (env : Environment)
      → ((other : List ℕ) → is_some (value_in other env.definitions) ≡ is_among other front)
      → declarations_at n (record { environment = all names env; structs = [] }) ≡ defining env (λ other. is_among other (front ++ names))
  all_defined_behind front [] env same =
      ap (λ (e : Environment). declarations_at n (record { environment = e; structs = [] })) (all_none env)
      ∙ (λ i. defining env (λ other. (same other ∙ ap (is_among other) (sym (append-nil front))) i))
  all_defined_behind front (name ∷ names) env same =
      ap (λ (e : Environment). declarations_at n (record { environment = e; structs = [] })) (all_more name names env)
      ∙ (all_defined_behind (front ++ name ∷ []) names (name_defined name env) (λ other. one_more_defined name front env.definitions other (same other))
      ∙ ap (λ (defined : List (List ℕ)). defining env (λ other. is_among other defined)) (append_assoc front (name ∷ []) names))

  pub definitions_at : (strict : Bool) (names : List (List ℕ))
      → declarations_at n (record { environment = scope_entered (all names (strict_set strict nothing_declared)); structs = [] }) ≡ with_functions strict names []
  definitions_at strict names =
      ap scope_entered_in_c (all_defined_behind [] names (strict_set strict nothing_declared) (λ other. refl))

-- so the front of a text is declared by numbers as it is in C
pub front_at : (n : Numbering) → LeadsBack n → (abi : Abi) (strict : Bool) (bodied defined : List (List ℕ))
    (all : Entries FunctionType → Environment → Environment)
    (defining_all : List (List ℕ) → Environment → Environment)
    → ((env : Environment) → all [] env ≡ env)
    → ((function : List ℕ × FunctionType) (functions : Entries FunctionType) (env : Environment)
    → all (function ∷ functions) env ≡ all functions (if is_among function.0 bodied then env else built_in_added n function.0 function.1 env))
    → ((env : Environment) → defining_all [] env ≡ env)
    → ((name : List ℕ) (names : List (List ℕ)) (env : Environment) → defining_all (name ∷ names) env ≡ defining_all names (name_defined name env))
    → HasSignatures n (record { environment = all (built_ins abi) (scope_entered (defining_all defined (strict_set strict nothing_declared))); structs = [] })
    → declarations_at n (record { environment = all (built_ins abi) (scope_entered (defining_all defined (strict_set strict nothing_declared))); structs = [] })
    ≡ c_begin abi strict bodied defined
front_at n back abi strict bodied defined all defining_all all_none all_more defining_none defining_more signed =
    built_ins_at n back strict bodied defined all all_none all_more abi (scope_entered (defining_all defined (strict_set strict nothing_declared))) signed
    (definitions_at n defining_all defining_none defining_more strict defined)
