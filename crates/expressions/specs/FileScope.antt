-- The file scope of a context: what it declares outside of functions, by numbers that are read by a numbering.
use Rattle.std.specs.Prelude.{ℕ, true, List, Option, None, option_map}
use Rattle.cbase.specs.declared.abi.Abi.{Abi}
use Rattle.cbase.specs.declared.ctype.CType.{CType}
use Rattle.typing.specs.declared.environment.entity.DeclaredType.TheVariants.{Whole}
use Rattle.typing.specs.declared.environment.entity.Definition.{Definition as DefinitionByNow}
use Rattle.typing.specs.declared.environment.entity.Definition.TheVariants.{NotDefined as NotDefinedByNow, Tentative as TentativeByNow, Defined as DefinedByNow}
use Rattle.typing.specs.declared.environment.entity.Entity.TheVariants.{Object}
use Rattle.typing.specs.declared.environment.entity.Lifetime.TheVariants.{MainParameter}
use Rattle.typing.specs.environment.Environment.{definition_set, function_set}
use Rattle.typing.specs.environment.Linkage.{linked_declared_around, own_declared}
use Rattle.typing.specs.environment.Names.{value_in}
use Rattle.typing.specs.Entities.{Linked, Definition, NotDefined, Tentative, Defined}
use Rattle.typing.specs.FileScope.{FileScope}
use Rattle.expressions.specs.Context.{Declared}
use Rattle.expressions.specs.Language.{language, definition_by_now, token_by_now, name_linked_by}
use Rattle.expressions.specs.Numbers.{Numbering}

-- what the text so far has for what has linkage, and how a context says that
abbrev pub definition_at : DefinitionByNow → Definition
definition_at NotDefinedByNow = NotDefined
definition_at TentativeByNow = Tentative
definition_at DefinedByNow = Defined

abbrev pub definition_in_text : Definition → DefinitionByNow
definition_in_text NotDefined = NotDefinedByNow
definition_in_text Tentative = TentativeByNow
definition_in_text Defined = DefinedByNow

-- what has linkage is declared in the scope around the innermost one
abbrev pub name_linked_around : Numbering → List ℕ → ℕ → Linked → Declared → Declared
name_linked_around n name token linked before = name_linked_by linked_declared_around n name token None linked before

-- a parameter of `main`
abbrev pub main_parameter : Numbering → List ℕ → ℕ → CType → Declared → Declared
main_parameter n name token t before =
    record before { environment = own_declared name (Object (Whole (n.number t)) token MainParameter true) before.environment }

-- in the body of a function of that result, or outside of functions
abbrev pub result_set : Numbering → Option CType → Declared → Declared
result_set n result before = record before { environment = function_set (option_map n.number result) before.environment }

abbrev pub file_scope : (abi : Abi) → (n : Numbering) → FileScope (language abi n)
file_scope abi n = record {
  definition = λ name before. definition_at (definition_by_now (value_in name before.environment.linked));
  definition_set = λ name definition before. record before { environment = definition_set name (definition_in_text definition) before.environment };
  first_token = λ name before. token_by_now (value_in name before.environment.linked) 0;
  declared_around = name_linked_around n;
  main_parameter = main_parameter n;
  result_set = result_set n;
}
