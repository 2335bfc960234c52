-- An object is declared by its name, with what the text has for it from then on.
use Rattle.std.proofs.Common.{◌≡◌, ◌∙◌, ℕ, List, refl, sym, ap, Option, None, Some}
use Rattle.cbase.specs.declared.abi.Abi.{Abi}
use Rattle.cbase.specs.declared.tree.decl.Declared.{Declared as DeclaredTree}
use Rattle.cbase.specs.declared.tree.decl.Storage.TheVariants.{Extern}
use Rattle.cbase.specs.declared.tree.expr.ExprForm.TheViews.{out-Declared}
use Rattle.typing.specs.declared.environment.entity.Definition.{Definition as DefinitionByNow}
use Rattle.typing.specs.declared.environment.entity.Linked.{Linked as LinkedByNumber}
use Rattle.typing.specs.declared.environment.environment.Environment.{Environment}
use Rattle.typing.specs.environment.Environment.{definition_of_linked, definition_set}
use Rattle.typing.specs.environment.Names.{value_in}
use Rattle.typing.specs.Declarations.{given, name_declared}
use Rattle.typing.specs.FileNames.{with_definition}
use Rattle.expressions.specs.Context.{Context, declared}
use Rattle.expressions.specs.FileScope.{definition_at, file_scope}
use Rattle.expressions.specs.Language.{language}
use Rattle.expressions.specs.Numbers.{Numbering, declared_type_at}
use Rattle.items.specs.declarations.Given.{bound}
use Rattle.items.proofs.declarations.Bound.{bound_signatures}
use Rattle.items.specs.declared.object.Object.{Object}
use Rattle.items.specs.Objects.{OnlyNames}
use Rattle.items.proofs.GivingObjects.{definition_back}

-- what the text has for a name changes no signature
of_linked_signatures : (name : List ℕ) (definition : DefinitionByNow) (linked : Option LinkedByNumber) (env : Environment) → (definition_of_linked name definition linked env).signatures ≡ env.signatures
of_linked_signatures name definition None env = refl
of_linked_signatures name definition (Some meaning) env = refl

module _ (name : DeclaredTree) (object : Object) (text : List ℕ) (now : DefinitionByNow) (old mid new : Context) (same : text ≡ (out-Declared name).name)
    (is : mid ≡ record old { environment = bound text (out-Declared name).place.at Extern object.ctype old.environment })
    (set : new ≡ record mid { environment = definition_set text now mid.environment }) where
  pub only_names : OnlyNames old new
  only_names = record {
    types = ap (λ (c : Context). c.types) set ∙ ap (λ (c : Context). c.types) is;
    structs = ap (λ (c : Context). c.structs) set ∙ ap (λ (c : Context). c.structs) is;
    signatures = ap (λ (c : Context). c.environment.signatures) set
        ∙ (of_linked_signatures text now (value_in text mid.environment.linked) mid.environment
        ∙ (ap (λ (c : Context). c.environment.signatures) is ∙ bound_signatures text (out-Declared name).place.at Extern object.ctype old.environment));
    handed = ap (λ (c : Context). c.handed) set ∙ ap (λ (c : Context). c.handed) is;
  }

  pub declares : (n : Numbering) (abi : Abi) → definition_at now ≡ with_definition (definition_at object.before) (definition_at object.adds)
      → declared mid ≡ name_declared (language abi n) text (out-Declared name).place.at (given Extern (declared_type_at n object.ctype)) (declared old)
      → declared new ≡ (file_scope abi n).definition_set (out-Declared name).name (with_definition (definition_at object.before) (definition_at object.adds))
      (name_declared (language abi n) (out-Declared name).name (out-Declared name).place.at (given Extern (declared_type_at n object.ctype)) (declared old))
  declares n abi adds means =
      ap declared set
      ∙ (ap (λ (d : DefinitionByNow). record (declared mid) { environment = definition_set text d mid.environment }) (sym (definition_back now))
      ∙ λ i. (file_scope abi n).definition_set (same i) (adds i) ((means ∙ ap (λ (t : List ℕ). name_declared (language abi n) t (out-Declared name).place.at (given Extern (declared_type_at n object.ctype)) (declared old)) same) i))
