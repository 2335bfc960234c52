-- The file scope of the examples. It declares of the names of `Sample.antt` what has linkage, and `free`, which is built in:
--
--     int n = 1;    char row[3];    extern int open[];    int f(int, char *) { .. }    void g(void);
--
-- The others are visible there as if they were declared around it.
use Rattle.std.specs.Prelude.{◌≡◌, ℕ, List, [], ◌∷◌, map, codes, true, false, Option, None, Some}
use Rattle.cbase.specs.declared.place.Place.{Place}
use Rattle.cbase.specs.declared.tree.item.Item.{Item}
use Rattle.typing.specs.declared.ctypes.found.Broken.{Broken}
use Rattle.typing.specs.ctypes.Binary.{int_type}
use Rattle.typing.specs.Entities.{ObjectIs, Definition, NotDefined}
use Rattle.typing.specs.Faults.{fault}
use Rattle.typing.specs.FileScope.{FileScope}
use Rattle.typing.specs.Items.{ItemsAre, FindsInFile}
use Rattle.typing.specs.Outcomes.{Handed, ExpressionHanded, StoreHanded, ObjectHanded, LinkHanded, FunctionHanded, ParameterHanded, Passes, Refused}
use Rattle.typing.specs.Sample.{sample, Declarations, start, ScopeName, OwnName, LinkedName, bound, bound_in, named_in, now_linked, token_of, token}

abbrev pub in_file : Declarations
in_file = record start {
  scopes = (
      (codes "n", LinkedName None)
      ∷ (codes "row", LinkedName None)
      ∷ (codes "open", LinkedName (Some int_type))
      ∷ (codes "f", LinkedName None)
      ∷ (codes "g", LinkedName None)
      ∷ (codes "free", LinkedName None)
      ∷ []
      ) ∷ [];
}

abbrev pub definition_of : Option Definition → Definition
definition_of None = NotDefined
definition_of (Some definition) = definition

-- a name in the scope around the innermost one
abbrev pub around_in : List ℕ → ScopeName → List (List (List ℕ × ScopeName)) → List (List (List ℕ × ScopeName))
around_in name meaning [] = []
around_in name meaning (scope ∷ scopes) = scope ∷ bound_in name meaning scopes

abbrev pub bound_around : List ℕ → ScopeName → Declarations → Declarations
bound_around name meaning env = record env { scopes = around_in name meaning env.scopes }

abbrev pub file : FileScope sample
file = record {
  definition = λ name env. definition_of (named_in env.definitions name);
  definition_set = λ name definition env. record env { definitions = (name, definition) ∷ env.definitions };
  first_token = λ name env. token_of (named_in env.tokens name);
  declared_around = λ name token linked env. bound_around name (LinkedName None) (now_linked name token linked env);
  main_parameter = λ name token t env. bound name (OwnName (ObjectIs (record { ctype = Some t; token = token; defined = true; of_main = true; fixed = false }))) env;
  result_set = λ result env. record env { result = result };
}

-- what is handed on beside expressions
abbrev pub beside_expressions : List Handed → List Handed
beside_expressions [] = []
beside_expressions (ExpressionHanded row ∷ handed) = beside_expressions handed
beside_expressions (StoreHanded row ∷ handed) = StoreHanded row ∷ beside_expressions handed
beside_expressions (ObjectHanded row ∷ handed) = ObjectHanded row ∷ beside_expressions handed
beside_expressions (LinkHanded row ∷ handed) = LinkHanded row ∷ beside_expressions handed
beside_expressions (FunctionHanded row ∷ handed) = FunctionHanded row ∷ beside_expressions handed
beside_expressions (ParameterHanded row ∷ handed) = ParameterHanded row ∷ beside_expressions handed

-- items that begin at the first token, as far as that is asked
abbrev pub placed : List Item → List (Place × Item)
placed items = map (λ item. (token 0, item)) items

-- what is said of items there: they pass; they pass and hand that on beside expressions; what is broken in them first, and where
abbrev pub PassInFile : List Item → Type 0
PassInFile items = (handed : List Handed) × (after : Declarations) × FindsInFile sample file in_file (ItemsAre (placed items) (Passes tt handed)) after

abbrev pub HandOn : List Item → List Handed → Type 0
HandOn items rows =
    (handed : List Handed) × (after : Declarations)
    × FindsInFile sample file in_file (ItemsAre (placed items) (Passes tt handed)) after
    × (beside_expressions handed ≡ rows)

abbrev pub AreRefused : List Item → ℕ → Broken → Type 0
AreRefused items at broken = (after : Declarations) × FindsInFile sample file in_file (ItemsAre (placed items) (Refused (fault (token at) broken))) after
