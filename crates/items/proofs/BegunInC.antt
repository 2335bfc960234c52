-- What is declared in front of a file by numbers is what C declares there.
use Rattle.std.proofs.Common.{◌≡◌, ℕ, List, [], ◌∷◌, refl, sym, ap, subst, ◌∙◌}
use Rattle.std.specs.Prelude.{◌||◌, Bool, true, false, if◌then◌else◌}
use Rattle.std.specs.Str.{bytes_eq}
use Rattle.std.proofs.lemmas.Bool.Decides.{same_from_decides}
use Rattle.std.proofs.lemmas.Slice.Eq.{bytes_eq-Decides}
use Rattle.cbase.specs.declared.abi.Abi.{Abi}
use Rattle.typing.specs.declared.environment.environment.Environment.{Environment}
use Rattle.typing.specs.environment.BuiltIns.{FunctionType}
use Rattle.expressions.specs.Context.{Context, Agrees, declared}
use Rattle.expressions.specs.Numbers.{Numbering}
use Rattle.items.specs.languages.AtTypes.{declarations_at, HasSignatures}
use Rattle.items.specs.languages.Begins.{Begins}
use Rattle.items.specs.languages.CBegin.{c_begin}
use Rattle.items.specs.languages.CBegin.{is_among as is_one_of}
use Rattle.items.specs.languages.LeadsBack.{LeadsBack}
use Rattle.items.proofs.languages.Beginning.{built_in_added, front_at}
use Rattle.items.specs.Begun.{all_defined, begun, built_ins_declared, declared_unless, is_among}

-- names are compared in either order
either_order : (one other : List ℕ) → bytes_eq one other ≡ bytes_eq other one
either_order one other = same_from_decides (bytes_eq one other) (bytes_eq other one) (bytes_eq-Decides one other)
    (λ e. sym ((bytes_eq-Decides other one).0 e), λ e. (bytes_eq-Decides other one).1 (sym e))

is_among_alike : (name : List ℕ) (names : List (List ℕ)) → is_among name names ≡ is_one_of name names
is_among_alike name [] = refl
is_among_alike name (one ∷ others) = λ i. either_order one name i || is_among_alike name others i

declared_if : (test : Bool) (n : Numbering) (name : List ℕ) (function : FunctionType) (env : Environment)
    → declared_unless test n name function env ≡ (if test then env else built_in_added n name function env)
declared_if true n name function env = refl
declared_if false n name function env = refl

pub begun_in_c : (n : Numbering) → LeadsBack n → (abi : Abi) (strict : Bool) (bodied defined : List (List ℕ)) → HasSignatures n (begun n abi strict bodied defined)
    → declarations_at n (begun n abi strict bodied defined) ≡ c_begin abi strict bodied defined
begun_in_c n back abi strict bodied defined signed =
    front_at n back abi strict bodied defined (built_ins_declared n bodied) all_defined (λ env. refl)
    (λ function functions env. ap (built_ins_declared n bodied functions)
    (declared_if (is_among function.0 bodied) n function.0 function.1 env
    ∙ ap (λ b. if b then env else built_in_added n function.0 function.1 env) (is_among_alike function.0 bodied)))
    (λ env. refl) (λ name names env. refl) signed

-- so a context in front of a file is begun as in C
pub begins : (abi : Abi) (strict : Bool) (bodied defined : List (List ℕ)) (context : Context)
    → ((n : Numbering) → Agrees n context → declared context ≡ begun n abi strict bodied defined)
    → context.handed ≡ []
    → Begins abi strict bodied defined context
begins abi strict bodied defined context declares handed = record {
  declares = λ n agrees back.
      let same : declared context ≡ begun n abi strict bodied defined = declares n agrees in
      ap (declarations_at n) same ∙ begun_in_c n back abi strict bodied defined (subst (HasSignatures n) same agrees.signatures);
  handed = handed;
}
