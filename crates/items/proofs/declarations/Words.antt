-- What is found of a declaration: a tag alone, or its words and the names behind them.
use Rattle.std.proofs.Common.{◌≡◌, ◌∙◌, List, [], ◌∷◌, ◌++◌, map, refl, sym, subst, append-nil, None, Some, Result, Ok, Err, IfOk}
use Rattle.std.proofs.lemmas.List.{map-append}
use Rattle.cbase.specs.declared.abi.Abi.{Abi}
use Rattle.cbase.specs.declared.no_memory.NoMemory.{NoMemory}
use Rattle.cbase.specs.declared.place.Place.{Place}
use Rattle.cbase.specs.declared.tree.decl.Decl.{Decl}
use Rattle.cbase.specs.declared.tree.decl.Declared.{Declared as DeclaredTree}
use Rattle.cbase.specs.declared.tree.expr.ExprForm.TheViews.{out-Decl, out-TypeSpec}
use Rattle.cbase.specs.declared.tree.identifier.Identifier.{Identifier}
use Rattle.typing.specs.declared.fault.Fault.{Fault}
use Rattle.typing.specs.Declarations.{tag_alone}
use Rattle.typing.specs.Outcomes.{Outcome, Handed, Passes, Refused}
use Rattle.typing.specs.Typing.{DeclaratorsAre, DeclaredIs, DeclaredNamesAre, WordsAre, Finds, TagAlone, TagAloneOfOther, WordsWithNames, DeclaredWordsRefused, NoDeclarators, SomeDeclarators}
use Rattle.expressions.specs.declared.found.Found.{Found}
use Rattle.expressions.specs.declared.found.Found.TheVariants.{Passes as FoundToPass, Refused as FoundRefused}
use Rattle.expressions.specs.declared.named_type.NamedType.{NamedType as NamedByNumber}
use Rattle.expressions.specs.Context.{Context, Declared, declared, Agrees}
use Rattle.expressions.specs.Found.{a_type, nothing}
use Rattle.expressions.specs.Language.{language}
use Rattle.expressions.specs.Numbers.{Numbering, handed_at, named_at}
use Rattle.expressions.specs.Walked.{Tells, Passed, Stopped, Walked, Says, SaysBy}
use Rattle.expressions.proofs.Growth.{agrees_before, grows_same, grows_trans}
use Rattle.expressions.proofs.Walking.{handed_behind, passed_of, stopped_of}
use Rattle.items.specs.declarations.Given.{IsAlone, IsNothingDeclared}

module _ (abi : Abi) (place : Place) (decl : Decl) where
  -- what is said of the declaration
  abbrev pub SaysDeclared : Tells (Unit {0})
  SaysDeclared = Says abi (λ o. DeclaredIs place decl o)

  -- a tag alone
  alone_found : (tag : Identifier) (old new : Context) (found : Found (Unit {0})) → tag_alone (out-Decl decl).storage (out-TypeSpec (out-Decl decl).spec) (out-Decl decl).names ≡ Some tag
      → IsAlone abi tag old new found → Walked SaysDeclared nothing old new found
  alone_found tag old new (FoundToPass told) is declares = record {
    rows = [];
    handed = declares.handed ∙ sym (append-nil old.handed);
    grows = declares.grows;
    below = tt;
    found = λ n agrees. TagAlone refl refl is (declares.opens n);
  }
  alone_found tag old new (FoundRefused first) is twice =
      subst (λ (context : Context). Stopped SaysDeclared old context first) (sym twice.1)
      (record { grows = grows_same old; found = λ n agrees. TagAloneOfOther refl refl is (twice.0 n) })

  pub tag_walked : (tag : Identifier) (old new : Context) (r : Result (Found (Unit {0})) NoMemory) → tag_alone (out-Decl decl).storage (out-TypeSpec (out-Decl decl).spec) (out-Decl decl).names ≡ Some tag
      → IfOk r (λ found. IsAlone abi tag old new found) → IfOk r (λ found. Walked SaysDeclared nothing old new found)
  tag_walked tag old new (Ok found) is alone = alone_found tag old new found is alone
  tag_walked tag old new (Err error) is alone = tt

  module _ (old mid : Context) (words : Found NamedByNumber) (none : tag_alone (out-Decl decl).storage (out-TypeSpec (out-Decl decl).spec) (out-Decl decl).names ≡ None)
      (walked : Walked (Says abi (λ o. WordsAre (out-TypeSpec (out-Decl decl).spec) o)) a_type old mid words) where
    -- what is refused in its words
    pub words_stop : (first : Fault) → words ≡ FoundRefused first → Stopped SaysDeclared old mid first
    words_stop first is =
        let stopped = stopped_of (Says abi (λ o. WordsAre (out-TypeSpec (out-Decl decl).spec) o)) a_type old mid first words is walked in
        record { grows = stopped.grows; found = λ n agrees. DeclaredWordsRefused refl refl none (stopped.found n agrees) }

    module _ (base : NamedByNumber) (is : words ≡ FoundToPass base) where
      pub words_pass : Passed (Says abi (λ o. WordsAre (out-TypeSpec (out-Decl decl).spec) o)) a_type old mid base
      words_pass = passed_of (Says abi (λ o. WordsAre (out-TypeSpec (out-Decl decl).spec) o)) a_type old mid base words is walked

      -- nothing is declared
      nothing_behind : (n : Numbering) (outcome : Outcome (Unit {0})) (names : List DeclaredTree) → names ≡ [] → Agrees n mid
          → Finds (language abi n) (declared mid) (DeclaratorsAre place (out-Decl decl).storage (named_at n base) [] outcome) (declared mid)
          → Finds (language abi n) (declared mid) (DeclaratorsAre place (out-Decl decl).storage (named_at n base) names outcome) (declared mid)
      nothing_behind n outcome names empty agrees found =
          subst (λ (these : List DeclaredTree). Finds (language abi n) (declared mid) (DeclaratorsAre place (out-Decl decl).storage (named_at n base) these outcome) (declared mid)) (sym empty) found

      pub nothing_declared : (found : Found (Unit {0})) → (out-Decl decl).names ≡ [] → IsNothingDeclared place base.found found → Walked SaysDeclared nothing old mid found
      nothing_declared (FoundToPass told) empty unbroken = record {
        rows = words_pass.rows;
        handed = words_pass.handed;
        grows = words_pass.grows;
        below = tt;
        found = λ n agrees.
            subst (λ (handed : List Handed). SaysDeclared n (declared old) (Passes tt handed) (declared mid)) (append-nil (map (handed_at n) words_pass.rows))
            (WordsWithNames refl refl none (words_pass.found n agrees) (nothing_behind n (Passes tt []) (out-Decl decl).names empty agrees (NoDeclarators (unbroken, refl, refl))));
      }
      nothing_declared (FoundRefused first) empty broken = record {
        grows = words_pass.grows;
        found = λ n agrees. WordsWithNames refl refl none (words_pass.found n agrees) (nothing_behind n (Refused first) (out-Decl decl).names empty agrees (NoDeclarators broken));
      }

      -- some names are
      some_behind : (n : Numbering) (outcome : Outcome (Unit {0})) (after : Declared) (names : List DeclaredTree) → (names ≡ [] → ⊥)
          → Finds (language abi n) (declared mid) (DeclaredNamesAre (out-Decl decl).storage (named_at n base) names outcome) after
          → Finds (language abi n) (declared mid) (DeclaratorsAre place (out-Decl decl).storage (named_at n base) names outcome) after
      some_behind n outcome after [] some found = absurd (some refl)
      some_behind n outcome after (name ∷ names) some found = SomeDeclarators found

      names_found : (new : Context) (found : Found (Unit {0})) → ((out-Decl decl).names ≡ [] → ⊥)
          → Walked (SaysBy abi (λ n o. DeclaredNamesAre (out-Decl decl).storage (named_at n base) (out-Decl decl).names o)) nothing mid new found → Walked SaysDeclared nothing old new found
      names_found new (FoundToPass told) some passed = record {
        rows = words_pass.rows ++ passed.rows;
        handed = handed_behind old.handed mid.handed new.handed words_pass.rows passed.rows words_pass.handed passed.handed;
        grows = grows_trans old mid new words_pass.grows passed.grows;
        below = tt;
        found = λ n agrees.
            subst (λ (handed : List Handed). SaysDeclared n (declared old) (Passes tt handed) (declared new)) (sym (map-append (handed_at n) words_pass.rows passed.rows))
            (WordsWithNames refl refl none (words_pass.found n (agrees_before mid new n passed.grows agrees)) (some_behind n (Passes tt (map (handed_at n) passed.rows)) (declared new) (out-Decl decl).names some (passed.found n agrees)));
      }
      names_found new (FoundRefused first) some stopped = record {
        grows = grows_trans old mid new words_pass.grows stopped.grows;
        found = λ n agrees.
            WordsWithNames refl refl none (words_pass.found n (agrees_before mid new n stopped.grows agrees)) (some_behind n (Refused first) (declared new) (out-Decl decl).names some (stopped.found n agrees));
      }

      pub names_walked : (new : Context) (items : List DeclaredTree) (r : Result (Found (Unit {0})) NoMemory) → items ≡ (out-Decl decl).names → ((out-Decl decl).names ≡ [] → ⊥)
          → IfOk r (λ found. Walked (SaysBy abi (λ n o. DeclaredNamesAre (out-Decl decl).storage (named_at n base) items o)) nothing mid new found)
          → IfOk r (λ found. Walked SaysDeclared nothing old new found)
      names_walked new items (Ok found) same some names = names_found new found some
          (subst (λ (these : List DeclaredTree). Walked (SaysBy abi (λ n o. DeclaredNamesAre (out-Decl decl).storage (named_at n base) these o)) nothing mid new found) same names)
      names_walked new items (Err error) same some names = tt
