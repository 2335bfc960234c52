-- The place in front of the first item of a text (C11 6.9).
use Rattle.std.specs.Prelude.{not, ℕ, Bool, true, false, List, [], ◌∷◌, None}
use Rattle.std.specs.List.{filter, list_any}
use Rattle.std.specs.Str.{bytes_eq}
use Rattle.cbase.specs.declared.abi.Abi.{Abi}
use Rattle.typing.specs.environment.BuiltIns.{FunctionType, built_ins}
use Rattle.typing.specs.environment.Names.{Entries}
use Rattle.typing.specs.Entities.{NotDefined}
use Rattle.items.specs.languages.CLanguage.{Declarations}
use Rattle.items.specs.languages.Mapped.{entries_named}
use Rattle.items.specs.languages.Meanings.{AFunction, Binding, WithLinkage, Link}

abbrev pub is_among : List ℕ → List (List ℕ) → Bool
is_among name names = list_any (bytes_eq name) names

-- a function of the table is built in exactly where the text has no definition of it with a body
abbrev pub without_body : List (List ℕ) → Entries FunctionType → Entries FunctionType
without_body bodied table = filter (λ entry. not (is_among entry.0 bodied)) table

-- what has linkage under its name. As any other function it is defined where the text defines its name
abbrev pub built_in_link : List (List ℕ) → List ℕ → FunctionType → Link
built_in_link defined name function = record {
  meaning = AFunction (record { result = function.result; params = function.parameters; defined = is_among name defined; built_in = true });
  definition = NotDefined;
}

abbrev pub with_linkage : List ℕ → FunctionType → Binding
with_linkage name function = WithLinkage None

-- the file scope has the names of these functions, with linkage, before its first item (6.2.1p4, 7.1.3p1), and nothing else is declared: so a block may hide such a
-- name, and outside of functions it is no typedef and no constant
abbrev pub with_functions : Bool → List (List ℕ) → Entries FunctionType → Declarations
with_functions strict defined table = record {
  names = entries_named with_linkage table ∷ [];
  tags = [] ∷ [];
  links = entries_named (built_in_link defined) table;
  structs = [];
  in_loop = false;
  result = None;
  strict = strict;
  defines = λ name. is_among name defined;
}

abbrev pub c_begin : Abi → Bool → List (List ℕ) → List (List ℕ) → Declarations
c_begin abi strict bodied defined = with_functions strict defined (without_body bodied (built_ins abi))
