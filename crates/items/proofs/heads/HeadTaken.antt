-- What is found at the name of a function behind its parameters, outside of functions.
use Rattle.std.proofs.Common.{◌≡◌, ◌<◌, ◌++◌, ℕ, Bool, List, All, length, get_or, sym, ap, subst, ◌∙◌, arith, None, Some}
use Rattle.cbase.specs.declared.abi.Abi.{Abi}
use Rattle.cbase.specs.declared.ctype.CType.{CType}
use Rattle.cbase.specs.declared.tree.decl.Declared.{Declared as DeclaredName}
use Rattle.cbase.specs.declared.tree.decl.Storage.{Storage}
use Rattle.cbase.specs.declared.tree.expr.ExprForm.TheViews.{out-Declared}
use Rattle.typing.specs.declared.fault.Fault.{Fault}
use Rattle.typing.specs.NamedTypes.{with_stars}
use Rattle.expressions.specs.declared.handed_row.HandedRow.{HandedRow}
use Rattle.expressions.specs.declared.named_type.NamedType.{NamedType as NamedByNumber}
use Rattle.expressions.specs.Context.{Context, declared, Agrees, Grows, OnlyTypes}
use Rattle.expressions.specs.Numbers.{Numbering}
use Rattle.expressions.specs.Operated.{Numbers}
use Rattle.expressions.proofs.Growth.{agrees_before, below_only_types, grows_trans, only_types_grows}
use Rattle.expressions.proofs.TypeWords.{declared_by_types}
use Rattle.items.specs.declared.parameters.parameter.Parameter.{Parameter as ParameterByNumber}
use Rattle.items.specs.parameters.Parameters.{numbers_of}
use Rattle.items.proofs.parameters.NamesTaken.{types_below}
use Rattle.items.specs.Heads.{IsHeadJudged, HeadToPass, HeadBreaks, head_declared_in, rows_of_head}
use Rattle.items.proofs.heads.HeadDeclared.{head_declares, head_grows, head_handed, head_types}
use Rattle.items.proofs.heads.HeadFaults.{asked_by, head_of}

-- the types of parameters have numbers of a context in which only more types have them
pub params_below : (old mid : Context) (params : List ParameterByNumber) → OnlyTypes old mid
    → All (λ param. param.ctype < length old.types) params → All (λ param. param.ctype < length mid.types) params
params_below old mid params only below = λ at default inside. below_only_types old mid only (get_or params at default).ctype (below at default inside)

rows_grow : (context : Context) (rows : List HandedRow) → Grows context (record context { handed = context.handed ++ rows })
rows_grow context rows = record { types = λ number t is. is; structs = λ number s is complete. is; longer = omega arith; signatures = λ number s is. is }

module _ (abi : Abi) (bodied : Bool) (storage : Storage) (base : NamedByNumber) (name : DeclaredName) (params : List ParameterByNumber) (old mid : Context) (number : ℕ) (types : List ℕ)
    (listed : types ≡ numbers_of params) (numbers : Numbers (λ n. with_stars (out-Declared name).stars (n.ctype base.ctype)) old mid number) where
  -- what is broken is refused
  pub head_breaks : (slice : List ℕ) (first : Fault) → slice ≡ types
      → ((n : Numbering) → Agrees n mid → IsHeadJudged n mid (head_of bodied storage base number) name params slice (Some first))
      → HeadBreaks abi bodied storage base name params old mid first
  head_breaks slice first same judged = record {
    grows = only_types_grows old mid numbers.only_types;
    same = sym (declared_by_types old mid numbers.only_types);
    asked = λ n agrees. asked_by abi bodied storage base name params old mid number types listed numbers slice (Some first) n agrees same (judged n agrees);
  }

  -- and where nothing is, the function is declared and handed on
  pub head_passes : (slice : List ℕ) (late new : Context) → slice ≡ types → All (λ param. param.ctype < length old.types) params
      → ((n : Numbering) → Agrees n mid → IsHeadJudged n mid (head_of bodied storage base number) name params slice None)
      → late ≡ head_declared_in (head_of bodied storage base number) name params types mid
      → new ≡ record late { handed = late.handed ++ rows_of_head (head_of bodied storage base number) name params }
      → HeadToPass abi bodied storage base name params old new number
  head_passes slice late new same below judged declares hands =
      let head = head_of bodied storage base number in
      let further : Grows mid late = subst (Grows mid) (sym declares) (head_grows head name params types mid) in
      let behind : Grows late new = subst (Grows late) (sym hands) (rows_grow late (rows_of_head head name params)) in
      let grows : Grows mid new = grows_trans mid late new further behind in
      let types_now : new.types ≡ mid.types = ap (λ (c : Context). c.types) hands ∙ (ap (λ (c : Context). c.types) declares ∙ head_types head name params types mid) in
      let handed_late : late.handed ≡ old.handed = ap (λ (c : Context). c.handed) declares ∙ (head_handed head name params types mid ∙ numbers.only_types.handed) in
      record {
        grows = grows_trans old mid new (only_types_grows old mid numbers.only_types) grows;
        handed = ap (λ (c : Context). c.handed) hands ∙ ap (λ (handed : List HandedRow). handed ++ rows_of_head head name params) handed_late;
        below = subst (λ (all : List CType). number < length all) (sym types_now) numbers.below;
        meant = λ n agrees. numbers.meant n (agrees_before mid new n grows agrees);
        asked = λ n agrees.
            let before : Agrees n mid = agrees_before mid new n grows agrees in
            asked_by abi bodied storage base name params old mid number types listed numbers slice None n before same (judged n before);
        declares = λ n agrees.
            let before : Agrees n mid = agrees_before mid new n grows agrees in
            ap declared hands
            ∙ (ap declared declares
            ∙ head_declares abi head base name params types old mid listed (sym (declared_by_types old mid numbers.only_types)) (types_below old mid params types numbers.only_types listed below)
            (params_below old mid params numbers.only_types below) numbers.below n before (numbers.meant n before));
      }
