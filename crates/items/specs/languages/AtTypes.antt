-- What a context declares, said by types: each number that it has is read as what it stands for.
use Rattle.std.specs.Prelude.{◌≡◌, ℕ, Some, is_some, option_map, slice_get}
use Rattle.typing.specs.declared.environment.entity.Binding.{Binding as BindingByNumber}
use Rattle.typing.specs.declared.environment.entity.Binding.TheVariants.{Own as OwnByNumber, WithLinkage as LinkageByNumber}
use Rattle.typing.specs.declared.environment.entity.Entity.{Entity as EntityByNumber}
use Rattle.typing.specs.declared.environment.entity.Entity.TheVariants.{Object, Typedef, Enumerator, Function}
use Rattle.typing.specs.declared.environment.entity.Linked.{Linked as LinkedByNumber}
use Rattle.typing.specs.declared.environment.entity.Signature.{Signature}
use Rattle.typing.specs.environment.Names.{value_in}
use Rattle.expressions.specs.Context.{Declared}
use Rattle.expressions.specs.FileScope.{definition_at}
use Rattle.expressions.specs.Numbers.{Numbering, is_of_main, is_fixed, function_at, tag_here_at, declared_type_at}
use Rattle.items.specs.languages.CLanguage.{Declarations}
use Rattle.items.specs.languages.Mapped.{entries_mapped, scopes_mapped}
use Rattle.items.specs.languages.Meanings.{Meaning, AnObject, AFunction, AConstant, ATypedef, Binding, Own, WithLinkage, Link}

abbrev pub meaning_at : Numbering → EntityByNumber → Meaning
meaning_at n (Object ctype token lifetime defined) =
    AnObject (record { ctype = declared_type_at n ctype; token = token; defined = defined; of_main = is_of_main lifetime; fixed = is_fixed lifetime })
meaning_at n (Typedef ctype) = ATypedef (declared_type_at n ctype)
meaning_at n (Enumerator bits) = AConstant bits
meaning_at n (Function signature defined built_in) = AFunction (function_at n (n.signature signature) defined built_in)

abbrev pub binding_at : Numbering → BindingByNumber → Binding
binding_at n (OwnByNumber entity) = Own (meaning_at n entity)
binding_at n (LinkageByNumber items) = WithLinkage (option_map n.ctype items)

abbrev pub link_at : Numbering → LinkedByNumber → Link
link_at n linked = record { meaning = meaning_at n linked.entity; definition = definition_at linked.definition }

abbrev pub declarations_at : Numbering → Declared → Declarations
declarations_at n before = record {
  names = scopes_mapped (binding_at n) before.environment.names;
  tags = scopes_mapped tag_here_at before.environment.tags;
  links = entries_mapped (link_at n) before.environment.linked;
  structs = before.structs;
  in_loop = before.environment.in_loop;
  result = option_map n.ctype before.environment.result;
  strict = before.environment.strict;
  defines = λ name. is_some (value_in name before.environment.definitions);
}

-- a numbering has the signatures of a context so far
abbrev pub HasSignatures : Numbering → Declared → Type 0
HasSignatures n before = (number : ℕ) (s : Signature) → slice_get before.environment.signatures number ≡ Some s → n.signature number ≡ s
