-- An array whose size its initialiser tells is declared with it.
use Rattle.std.proofs.Common.{◌≡◌, ◌∙◌, ◌++◌, ℕ, Bool, true, List, ap, subst, Option, None}
use Rattle.cbase.specs.declared.abi.Abi.{Abi}
use Rattle.cbase.specs.declared.ctype.CType.{CType}
use Rattle.cbase.specs.declared.ctype.CType.TheVariants.{Array as ArrayType}
use Rattle.cbase.specs.declared.tree.decl.Declared.{Declared as DeclaredTree}
use Rattle.cbase.specs.declared.tree.decl.Storage.TheVariants.{Extern}
use Rattle.cbase.specs.declared.tree.expr.ExprForm.TheViews.{out-Declared}
use Rattle.typing.specs.declared.environment.entity.DeclaredType.TheVariants.{Whole}
use Rattle.typing.specs.declared.fault.Fault.{Fault}
use Rattle.typing.specs.Declarations.{LinkedGiven, given, name_declared}
use Rattle.typing.specs.Entities.{ObjectLinked, WholeType}
use Rattle.expressions.specs.Context.{Context, declared, Agrees}
use Rattle.expressions.specs.Language.{language}
use Rattle.expressions.specs.Numbers.{Numbering}
use Rattle.expressions.proofs.TypeWords.{grows_to}
use Rattle.items.specs.declarations.Given.{bound}
use Rattle.items.proofs.declarations.Bound.{bound_signatures}
use Rattle.items.specs.Objects.{ArrayTold, IsArrayAsked, static_rows}

module _ (abi : Abi) (name : DeclaredTree) (listed : Bool) (number count : ℕ) (old mid new : Context) (text : List ℕ) (answer : Option Fault) (none : answer ≡ None)
    (asks : (n : Numbering) (item : CType) → Agrees n old → n.ctype number ≡ ArrayType item count → IsArrayAsked abi name count item n old answer)
    (same : text ≡ (out-Declared name).name)
    (is : mid ≡ record old { environment = bound text (out-Declared name).place.at Extern (Whole number) old.environment })
    (means : (n : Numbering) → Agrees n old → declared mid ≡ name_declared (language abi n) text (out-Declared name).place.at (given Extern (WholeType (n.ctype number))) (declared old))
    (handed : new ≡ record mid { handed = mid.handed ++ static_rows listed (out-Declared name).place (Whole number) true }) where
  pub array_told : ArrayTold abi name listed number count old new
  array_told = record {
    grows = grows_to old new (ap (λ (c : Context). c.types) handed ∙ ap (λ (c : Context). c.types) is)
        (rw (ap (λ (c : Context). c.structs) handed ∙ ap (λ (c : Context). c.structs) is) (λ at one there. there))
        (ap (λ (c : Context). c.environment.signatures) handed ∙ (ap (λ (c : Context). c.environment.signatures) is ∙ bound_signatures text (out-Declared name).place.at Extern (Whole number) old.environment));
    handed = ap (λ (c : Context). c.handed) handed ∙ ap (λ (c : Context). c.handed ++ static_rows listed (out-Declared name).place (Whole number) true) is;
    asked = λ n item agrees meant. subst (λ (first : Option Fault). IsArrayAsked abi name count item n old first) none (asks n item agrees meant);
    declares = λ n item agrees meant.
        ap declared handed
        ∙ (means n agrees
        ∙ λ i. name_declared (language abi n) (same i) (out-Declared name).place.at (LinkedGiven (ObjectLinked (WholeType (meant i)))) (declared old));
  }
