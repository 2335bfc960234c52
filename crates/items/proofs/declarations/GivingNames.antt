-- A name is given its type where nothing is broken at it, and is refused where something is.
use Rattle.std.proofs.Common.{◌≡◌, ◌∙◌, ℕ, List, length, sym, ap, subst, Option, None, Some}
use Rattle.std.specs.Prelude.{is_some}
use Rattle.cbase.specs.declared.abi.Abi.{Abi}
use Rattle.cbase.specs.declared.structs.StructDef.{StructDef}
use Rattle.cbase.specs.declared.tree.decl.Declared.{Declared}
use Rattle.cbase.specs.declared.tree.decl.Storage.{Storage}
use Rattle.cbase.specs.declared.tree.expr.ExprForm.TheViews.{out-Declared}
use Rattle.typing.specs.declared.environment.entity.DeclaredType.{DeclaredType}
use Rattle.typing.specs.declared.environment.environment.Environment.{Environment}
use Rattle.typing.specs.environment.Bounds.{DeclaredBelow}
use Rattle.typing.specs.declared.ctypes.found.Broken.{Broken}
use Rattle.typing.specs.declared.fault.Fault.{Fault}
use Rattle.typing.specs.declared.size.Size.{Size}
use Rattle.typing.specs.Declarations.{Given, IsAgain, found_of_name, given, given_type, is_complete, name_declared, name_faults}
use Rattle.typing.specs.NamedTypes.{declared_type, is_large}
use Rattle.expressions.specs.declared.named_type.NamedType.{NamedType as NamedByNumber}
use Rattle.expressions.specs.Context.{Context, Declared as DeclaredHere, declared, Agrees, Grows, OnlyTypes}
use Rattle.expressions.specs.Language.{language}
use Rattle.expressions.specs.Numbers.{Numbering, declared_type_at, named_at}
use Rattle.expressions.specs.Settled.{IsFirstOf}
use Rattle.expressions.proofs.Growth.{agrees_as, agrees_before_types, grows_trans, only_types_grows, only_types_trans}
use Rattle.expressions.proofs.TypeWords.{declared_by_types, grows_to}
use Rattle.items.specs.declarations.Given.{IsAsked, IsFoundOfName, IsGivenType, IsJudged, NameBreaks, NameGives, bound, here_at, linked_now}
use Rattle.items.proofs.declarations.Bound.{bound_signatures}

module _ (abi : Abi) (storage : Storage) (base : NamedByNumber) (name : Declared) (sizes : List Size) (old mid late : Context) (t : DeclaredType) (found : Option Broken)
    (first : IsFoundOfName abi base (out-Declared name).stars sizes old mid found) (second : IsGivenType base (out-Declared name).stars sizes mid late t) where
  only : OnlyTypes old late
  only = only_types_trans old mid late first.only_types second.only_types

  -- what is asked at the name
  asked : (refused : Option Fault) → ((n : Numbering) → Agrees n late → IsJudged n late storage name t found refused) → (n : Numbering) → Agrees n late → IsAsked abi storage base name sizes old refused n
  asked refused judged n agrees =
      let here = judged n agrees in
      let gives : given storage (declared_type_at n t) ≡ given storage (given_type (named_at n base) (out-Declared name).stars sizes) = ap (given storage) (second.meant n agrees) in
      let is : found ≡ found_of_name (named_at n base) sizes (is_large abi old.structs (declared_type (named_at n base) (out-Declared name).stars sizes)) =
      first.meant n (agrees_before_types mid late n second.only_types agrees) in (
        here.again,
        subst (λ (g : Given). IsAgain (here_at n old (out-Declared name).name) (linked_now n old (out-Declared name).name) g here.again) gives
            (subst (λ (env : Environment). IsAgain (here_at n (record old { environment = env }) (out-Declared name).name) (linked_now n (record old { environment = env }) (out-Declared name).name) (given storage (declared_type_at n t)) here.again)
            only.environment here.is_again),
        subst (λ (g : Given). IsFirstOf (name_faults (out-Declared name).place (found_of_name (named_at n base) sizes (is_large abi old.structs (declared_type (named_at n base) (out-Declared name).stars sizes))) here.again
            (is_complete old.structs (is_some (out-Declared name).init) g)) refused) gives
            (subst (λ (f : Option Broken). IsFirstOf (name_faults (out-Declared name).place f here.again (is_complete old.structs (is_some (out-Declared name).init) (given storage (declared_type_at n t)))) refused) is
            (subst (λ (structs : List StructDef). IsFirstOf (name_faults (out-Declared name).place found here.again (is_complete structs (is_some (out-Declared name).init) (given storage (declared_type_at n t)))) refused) only.structs
            here.is_first)),
      )

  pub breaks : (fault : Fault) (answer : Option Fault) → answer ≡ Some fault → ((n : Numbering) → Agrees n late → IsJudged n late storage name t found answer) → NameBreaks abi storage base name sizes old late fault
  breaks fault answer is judged = record {
    only_types = only;
    asked = λ n agrees. subst (λ (refused : Option Fault). IsAsked abi storage base name sizes old refused n) is (asked answer judged n agrees);
  }

  pub gives : (new : Context) (text : List ℕ) (answer : Option Fault) → answer ≡ None → ((n : Numbering) → Agrees n late → IsJudged n late storage name t found answer)
      → text ≡ (out-Declared name).name
      → ((n : Numbering) → Agrees n late → declared new ≡ name_declared (language abi n) text (out-Declared name).place.at (given storage (declared_type_at n t)) (declared late))
      → new ≡ record late { environment = bound text (out-Declared name).place.at storage t late.environment } → NameGives abi storage base name sizes old new t
  gives new text answer none judged same means is =
      let signatures : new.environment.signatures ≡ late.environment.signatures =
      ap (λ (c : Context). c.environment.signatures) is ∙ bound_signatures text (out-Declared name).place.at storage t late.environment in
      let types = ap (λ (c : Context). c.types) is in
      let further : Grows late new = grows_to late new types (rw (ap (λ (c : Context). c.structs) is) (λ at one there. there)) signatures in
      record {
        grows = grows_trans old late new (only_types_grows old late only) further;
        handed = ap (λ (c : Context). c.handed) is ∙ only.handed;
        below = subst (λ (count : ℕ). DeclaredBelow count t) (ap length (sym types)) second.below;
        meant = λ n agrees. second.meant n (agrees_as n late new types signatures agrees);
        asked = λ n agrees. subst (λ (refused : Option Fault). IsAsked abi storage base name sizes old refused n) none (asked answer judged n (agrees_as n late new types signatures agrees));
        declares = λ n agrees.
            means n (agrees_as n late new types signatures agrees)
            ∙ (ap (λ (spelled : List ℕ). name_declared (language abi n) spelled (out-Declared name).place.at (given storage (declared_type_at n t)) (declared late)) same
            ∙ ap (λ (before : DeclaredHere). name_declared (language abi n) (out-Declared name).name (out-Declared name).place.at (given storage (declared_type_at n t)) before) (sym (declared_by_types old late only)));
      }
