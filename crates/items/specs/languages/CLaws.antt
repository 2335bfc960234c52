-- What holds of the language of C.
use Rattle.std.specs.Prelude.{◌≡◌, ℕ, Bool, true, false, List, None, is_some, option_map, if◌then◌else◌}
use Rattle.cbase.specs.declared.abi.Abi.{Abi}
use Rattle.typing.specs.environment.BuiltIns.{FunctionType, built_ins}
use Rattle.typing.specs.environment.Names.{value_in}
use Rattle.typing.specs.Entities.{Entity, FunctionIs}
use Rattle.typing.specs.Items.{ItemSaying, FindsInFile}
use Rattle.expressions.specs.Context.{Context, Agrees, Grows, declared}
use Rattle.expressions.specs.FileScope.{file_scope}
use Rattle.expressions.specs.Language.{language}
use Rattle.expressions.specs.Numbers.{Numbering}
use Rattle.items.specs.languages.AtTypes.{declarations_at, HasSignatures}
use Rattle.items.specs.languages.Begins.{Begins}
use Rattle.items.specs.languages.Carries.{Carries, Carried}
use Rattle.items.specs.languages.CBegin.{is_among, c_begin}
use Rattle.items.specs.languages.CLanguage.{c_language, c_file}
use Rattle.items.specs.languages.LeadsBack.{LeadsBack}

-- the language of a context carries over to it, where its numbers are read back to every type; so what is found there by numbers is found in C
abbrev pub ContextsCarryOver : Type 0
ContextsCarryOver = (abi : Abi) (n : Numbering) → LeadsBack n → Carries (language abi n) (c_language abi) (file_scope abi n) (c_file abi) (declarations_at n) (HasSignatures n)

abbrev pub FindsWhatContextsFind : Type 0
FindsWhatContextsFind = (abi : Abi) (n : Numbering) → LeadsBack n → Carried (language abi n) (c_language abi) (file_scope abi n) (c_file abi) (declarations_at n) (HasSignatures n)

-- what is found of items from the front of a text on, by the numbers of the contexts there, is found in C from its front on
abbrev pub FindsFromTheFront : Type 0
FindsFromTheFront =
    (abi : Abi) (strict : Bool) (bodied defined : List (List ℕ)) (first last : Context) (said : Numbering → ItemSaying)
    → Begins abi strict bodied defined first
    → Grows first last
    → ((n : Numbering) → Agrees n last → FindsInFile (language abi n) (file_scope abi n) (declared first) (said n) (declared last))
    → (n : Numbering)
    → Agrees n last
    → LeadsBack n
    → FindsInFile (c_language abi) (c_file abi) (c_begin abi strict bodied defined) (said n) (declarations_at n (declared last))

-- what a name stands for in front of a text: one of the table stands for its function where the text has no body for it, and no other name stands for anything
abbrev pub built_in : Bool → FunctionType → Entity
built_in defined function = FunctionIs (record { result = function.result; params = function.parameters; defined = defined; built_in = true })

abbrev pub BuiltInsStand : Type 0
BuiltInsStand =
    (abi : Abi) (strict : Bool) (bodied defined : List (List ℕ)) (name : List ℕ)
    → (c_language abi).entity name (c_begin abi strict bodied defined) ≡ (if is_among name bodied then None else option_map (built_in (is_among name defined)) (value_in name (built_ins abi)))

-- and the file scope declares these alone
abbrev pub BuiltInsAreHere : Type 0
BuiltInsAreHere =
    (abi : Abi) (strict : Bool) (bodied defined : List (List ℕ)) (name : List ℕ)
    → (c_language abi).is_declared_here name (c_begin abi strict bodied defined) ≡ (if is_among name bodied then false else is_some (value_in name (built_ins abi)))
