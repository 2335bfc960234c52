-- A call: what is found of its callee, and of the whole behind its arguments.
use Rattle.std.proofs.Common.{◌≡◌, ℕ, ◌<◌, Bool, false, List, [], ◌∷◌, map, length, Option, None, Some, refl, sym, ap, subst, ◌∙◌, Result, Ok, Err, IfOk, arith}
use Rattle.std.specs.Prelude.{IfSome, IfNone, option_map, option_and_then}
use Rattle.cbase.specs.declared.abi.Abi.{Abi}
use Rattle.cbase.specs.declared.no_memory.NoMemory.{NoMemory}
use Rattle.cbase.specs.declared.place.Place.{Place}
use Rattle.cbase.specs.declared.structs.StructDef.{StructDef}
use Rattle.cbase.specs.declared.tree.expr.Expr.{Expr}
use Rattle.cbase.specs.declared.tree.expr.ExprForm.TheOpen.{Call}
use Rattle.typing.specs.declared.environment.entity.Entity.{Entity}
use Rattle.typing.specs.declared.environment.entity.Entity.TheVariants.{Object, Typedef, Enumerator, Function}
use Rattle.typing.specs.environment.Environment.{name_found}
use Rattle.typing.specs.ctypes.Kinds.{kind_of}
use Rattle.typing.specs.declared.ctypes.found.Broken.TheVariants.{Construct}
use Rattle.typing.specs.Calls.{call_faults}
use Rattle.typing.specs.declared.fault.Fault.{Fault}
use Rattle.typing.specs.Faults.{fault}
use Rattle.typing.specs.Known.{Known, plain, behind}
use Rattle.typing.specs.Nodes.{is_function, function_faults, called_of}
use Rattle.typing.specs.Outcomes.{Passes, Refused}
use Rattle.typing.specs.Pieces.{Loaded, Called}
use Rattle.typing.specs.Rules.{AreArguments, NoArguments, MoreArguments, CallOfFunction, CallOfOther}
use Rattle.typing.specs.Told.{Told, FunctionNamed, NoFunction}
use Rattle.typing.specs.Typing.{named, PieceIs, PiecesAre, Finds, CalledFunction, CalledOther, CalledRefused}
use Rattle.expressions.specs.declared.found.Found.{Found}
use Rattle.expressions.specs.declared.found.Found.TheVariants.{Passes as FoundToPass, Refused as FoundRefused}
use Rattle.expressions.specs.declared.known.Known.{Known as KnownByNumber}
use Rattle.expressions.specs.declared.nodes.calling.Callee.{Callee}
use Rattle.expressions.specs.Arguments.{arguments_at}
use Rattle.expressions.specs.Counted.{IsCounted}
use Rattle.expressions.specs.Context.{Context, Declared, declared}
use Rattle.expressions.specs.Found.{Reading, an_expression, an_operand, operands_at, some_operands, no_function}
use Rattle.expressions.specs.Numbers.{Numbering, entity_at, function_at, handed_at, row_of}
use Rattle.expressions.specs.Language.{language}
use Rattle.expressions.specs.Settled.{Settled}
use Rattle.expressions.specs.Walked.{Passed, Stopped, Walked, Says, SaysForm}
use Rattle.expressions.proofs.Growth.{hands_on_grows, keeps_length}
use Rattle.expressions.proofs.Several.{pieces_refused, then_passes, then_refused}
use Rattle.expressions.proofs.Walking.{declared_same, settled_result}

-- a callee that names a function
abbrev pub a_function : List ℕ → ℕ → Bool → Bool → Reading (Unit {0}) Told
a_function name signature defined built_in = record {
  means = λ n told. FunctionNamed name (function_at n (n.signature signature) defined built_in);
  IsBelow = λ count told. Unit {0};
}

-- one that names a function or none
abbrev pub a_callee : Option Callee → Reading (Unit {0}) Told
a_callee None = no_function
a_callee (Some function) = a_function function.name.now function.signature function.defined function.built_in

-- arguments that are told of are those of the call
pub are_arguments : (n : Numbering) (structs : List StructDef) (args : List Expr) (known : List KnownByNumber) → length known ≡ length args
    → AreArguments structs args (operands_at n known) (arguments_at n structs args known)
are_arguments n structs [] [] count = NoArguments
are_arguments n structs [] (one ∷ known) count = cc count
are_arguments n structs (arg ∷ args) [] count = cc count
are_arguments n structs (arg ∷ args) (one ∷ known) count = MoreArguments refl (are_arguments n structs args known (cc count))

-- what a callee stands for that names no function
names_no_function : (n : Numbering) (entity : Option Entity) → ((signature : ℕ) (defined built_in : Bool) → entity ≡ Some (Function signature defined built_in) → ⊥)
    → is_function (option_map (entity_at n) entity) ≡ false
names_no_function n None other = refl
names_no_function n (Some (Object ctype token lifetime defined)) other = refl
names_no_function n (Some (Typedef ctype)) other = refl
names_no_function n (Some (Enumerator bits)) other = refl
names_no_function n (Some (Function signature defined built_in)) other = absurd (other signature defined built_in refl)

-- what is found, where what is known of it is not used
abbrev pub without : {A : Type 0} → Found A → Found (Unit {0})
without (FoundToPass told) = FoundToPass tt
without (FoundRefused first) = FoundRefused first

-- as many are known of as are counted
pub counted_of : {A : Type 0} (found : Found A) (told : A) (count wanted : ℕ) → found ≡ FoundToPass told → IsCounted found count wanted → count ≡ wanted
counted_of {A} found told count wanted is counted = subst (λ (f : Found A). IsCounted f count wanted) is counted

-- a callee names no function
abbrev pub IsOther : Expr → Context → Type 0
IsOther callee context = (name : List ℕ) (signature : ℕ) (defined built_in : Bool) → named callee ≡ Some name
    → name_found name context.environment ≡ Some (Function signature defined built_in) → ⊥

is_other : (n : Numbering) (context : Context) (name : Option (List ℕ))
    → ((given : List ℕ) (signature : ℕ) (defined built_in : Bool) → name ≡ Some given → name_found given context.environment ≡ Some (Function signature defined built_in) → ⊥)
    → is_function (option_and_then (λ given. option_map (entity_at n) (name_found given context.environment)) name) ≡ false
is_other n context None other = refl
is_other n context (Some name) other = names_no_function n (name_found name context.environment) (λ signature defined built_in. other name signature defined built_in refl)

module _ (abi : Abi) (callee : Expr) (old new : Context) where
  -- a callee that names a function
  called_piece : (name : List ℕ) (signature : ℕ) (defined built_in : Bool) (found : Found KnownByNumber)
      → named callee ≡ Some name → name_found name old.environment ≡ Some (Function signature defined built_in)
      → Settled (λ n. function_faults callee.place (function_at n (n.signature signature) defined built_in)) (λ n. called_of (function_at n (n.signature signature) defined built_in)) callee.number old new found
      → Walked (Says abi (λ o. PieceIs (Called callee) o)) (a_function name signature defined built_in) old new (without found)
  called_piece name signature defined built_in (FoundToPass known) is stands settled = record {
    rows = row_of callee.number known ∷ [];
    handed = settled.hands_on.handed;
    grows = hands_on_grows old new callee.number known settled.hands_on;
    below = tt;
    found = λ n agrees.
        subst (λ (after : Declared). Finds (language abi n) (declared old) (PieceIs (Called callee) (Passes (FunctionNamed name (function_at n (n.signature signature) defined built_in)) (map (handed_at n) (row_of callee.number known ∷ [])))) after)
        (sym (declared_same old new settled.hands_on.structs settled.hands_on.environment))
        (CalledFunction is (ap (option_map (entity_at n)) stands) (settled.nothing n agrees, refl, ap (λ (k : Known). behind [] callee.number k) (settled.meant n agrees)));
  }
  called_piece name signature defined built_in (FoundRefused first) is stands settled = record {
    grows = record { types = settled.stays.types; structs = λ at s found complete. rw settled.stays.structs found; longer = rw settled.stays.structs (omega arith); signatures = λ at s found. rw settled.stays.environment found };
    found = λ n agrees.
        subst (λ (after : Declared). Finds (language abi n) (declared old) (PieceIs (Called callee) (Refused first)) after)
        (sym (declared_same old new settled.stays.structs settled.stays.environment))
        (CalledFunction is (ap (option_map (entity_at n)) stands) (settled.is_first n agrees));
  }

  -- one that names none
  other_passes : (known : KnownByNumber) → IsOther callee old → Passed (Says abi (λ o. PieceIs (Loaded callee) o)) an_operand old new known
      → Passed (Says abi (λ o. PieceIs (Called callee) o)) no_function old new tt
  other_passes known other passed = record {
    rows = passed.rows;
    handed = passed.handed;
    grows = passed.grows;
    below = tt;
    found = λ n agrees. CalledOther (is_other n old (named callee) other) (passed.found n agrees);
  }

  other_refused : (first : Fault) → IsOther callee old → Stopped (Says abi (λ o. PieceIs (Loaded callee) o)) old new first
      → Stopped (Says abi (λ o. PieceIs (Called callee) o)) old new first
  other_refused first other stopped = record { grows = stopped.grows; found = λ n agrees. CalledRefused (is_other n old (named callee) other) (stopped.found n agrees) }

  other_piece : (found : Found KnownByNumber) → IsOther callee old → Walked (Says abi (λ o. PieceIs (Loaded callee) o)) an_operand old new found
      → Walked (Says abi (λ o. PieceIs (Called callee) o)) no_function old new (without found)
  other_piece (FoundToPass known) other passed = other_passes known other passed
  other_piece (FoundRefused first) other stopped = other_refused first other stopped

-- what is told of a callee, whichever of the two it is
module _ (abi : Abi) (callee : Expr) (function : Option Callee) (old : Context) where
  abbrev pub IsCalleeFound : Context → Found KnownByNumber → Type 0
  IsCalleeFound new found = Walked (Says abi (λ o. PieceIs (Called callee) o)) (a_callee function) old new (without found)

  abbrev pub IsCalleeTold : Context → Result (Found KnownByNumber) NoMemory → Type 0
  IsCalleeTold new told = IfOk told (λ found. IsCalleeFound new found)

  -- told in one of two ways
  told_there : (mid new : Context) (given told : Result (Found KnownByNumber) NoMemory) → told ≡ given → new ≡ mid → IsCalleeTold mid given → IsCalleeTold new told
  told_there mid new given told same here walked =
      subst (λ (context : Context). IsCalleeTold context told) (sym here) (subst (λ (r : Result (Found KnownByNumber) NoMemory). IsCalleeTold mid r) (sym same) walked)

  named_told : (f : Callee) (mid : Context) (given : Result (Found KnownByNumber) NoMemory) → function ≡ Some f
      → (named callee ≡ Some f.name.now) × (name_found f.name.now old.environment ≡ Some (Function f.signature f.defined f.built_in))
      → IfOk given (λ found. Settled (λ n. function_faults callee.place (function_at n (n.signature f.signature) f.defined f.built_in)) (λ n. called_of (function_at n (n.signature f.signature) f.defined f.built_in)) callee.number old mid found)
      → IsCalleeTold mid given
  named_told f mid (Ok found) is names settled = subst (λ (one : Option Callee). Walked (Says abi (λ o. PieceIs (Called callee) o)) (a_callee one) old mid (without found)) (sym is)
      (called_piece abi callee old mid f.name.now f.signature f.defined f.built_in found names.0 names.1 settled)
  named_told f mid (Err error) is names settled = tt

  other_told : (mid : Context) (given : Result (Found KnownByNumber) NoMemory) → function ≡ None → IsOther callee old
      → IfOk given (λ found. Walked (Says abi (λ o. PieceIs (Loaded callee) o)) an_operand old mid found) → IsCalleeTold mid given
  other_told mid (Ok found) is other walked = subst (λ (one : Option Callee). Walked (Says abi (λ o. PieceIs (Called callee) o)) (a_callee one) old mid (without found)) (sym is)
      (other_piece abi callee old mid found other walked)
  other_told mid (Err error) is other walked = tt

  -- by the function that it names
  pub told_by_name : (f : Callee) (mid new : Context) (given told : Result (Found KnownByNumber) NoMemory) → told ≡ given → new ≡ mid → function ≡ Some f
      → (named callee ≡ Some f.name.now) × (name_found f.name.now old.environment ≡ Some (Function f.signature f.defined f.built_in))
      → IfOk given (λ found. Settled (λ n. function_faults callee.place (function_at n (n.signature f.signature) f.defined f.built_in)) (λ n. called_of (function_at n (n.signature f.signature) f.defined f.built_in)) callee.number old mid found)
      → IsCalleeTold new told
  told_by_name f mid new given told same here is names settled = told_there mid new given told same here (named_told f mid given is names settled)

  -- as an operand
  pub told_by_value : (mid new : Context) (given told : Result (Found KnownByNumber) NoMemory) → told ≡ given → new ≡ mid → function ≡ None → IsOther callee old
      → IfOk given (λ found. Walked (Says abi (λ o. PieceIs (Loaded callee) o)) an_operand old mid found) → IsCalleeTold new told
  told_by_value mid new given told same here is other walked = told_there mid new given told same here (other_told mid given is other walked)

  -- and what is found of it
  pub callee_found : (new : Context) (told : Result (Found KnownByNumber) NoMemory) (found : Found KnownByNumber) → told ≡ Ok found → IsCalleeTold new told → IsCalleeFound new found
  callee_found new told found is walked = subst (λ (r : Result (Found KnownByNumber) NoMemory). IsCalleeTold new r) is walked

-- a function by its name and its arguments, and arguments of what is none
abbrev pub a_call : List ℕ → ℕ → Bool → Bool → List KnownByNumber → Reading (Unit {0}) (List Told)
a_call name signature defined built_in known = record {
  means = λ n told. FunctionNamed name (function_at n (n.signature signature) defined built_in) ∷ operands_at n known;
  IsBelow = λ count told. Unit {0};
}

abbrev pub another_call : List KnownByNumber → Reading (Unit {0}) (List Told)
another_call known = record { means = λ n told. NoFunction ∷ operands_at n known; IsBelow = λ count told. Unit {0} }

abbrev pub call_parts : Option Callee → List KnownByNumber → Reading (Unit {0}) (List Told)
call_parts None known = another_call known
call_parts (Some function) known = a_call function.name.now function.signature function.defined function.built_in known

module _ (abi : Abi) (number : ℕ) (place : Place) (callee : Expr) (args : List Expr) where
  -- all parts of the call pass
  abbrev pub PartsPass : Reading (Unit {0}) (List Told) → Context → Context → Type 0
  PartsPass reading old mid = Passed (Says abi (λ o. PiecesAre (Called callee ∷ map Loaded args) o)) reading old mid tt

  -- what is refused in one of them is refused in the call
  refused_in_call : (old new : Context) (first : Fault) → Stopped (Says abi (λ o. PiecesAre (Called callee ∷ map Loaded args) o)) old new first
      → Stopped (SaysForm abi number place (Call callee args)) old new first
  refused_in_call old new first stopped = record { grows = stopped.grows; found = λ n agrees. (Refused first, stopped.found n agrees, refl) }

  -- the callee is refused
  pub callee_refused : {B : Type 0} (reading : Reading B Told) (old new : Context) (first : Fault) (found : Found B) → found ≡ FoundRefused first
      → Walked (Says abi (λ o. PieceIs (Called callee) o)) reading old new found → Stopped (SaysForm abi number place (Call callee args)) old new first
  callee_refused reading old new first found is walked =
      refused_in_call old new first (pieces_refused abi (Called callee) (map Loaded args) reading old new first found is walked)

  -- an argument is refused
  pub argument_refused : {B : Type 0} (reading : Reading B Told) (known : List KnownByNumber) (old mid new : Context) (one : B) (first : Fault) (called : Found B) (found : Found (Unit {0}))
      → called ≡ FoundToPass one → Walked (Says abi (λ o. PieceIs (Called callee) o)) reading old mid called
      → found ≡ FoundRefused first → Walked (Says abi (λ o. PiecesAre (map Loaded args) o)) (some_operands known) mid new found
      → Stopped (SaysForm abi number place (Call callee args)) old new first
  argument_refused reading known old mid new one first called found is walked refused arguments =
      refused_in_call old new first (then_refused abi (Called callee) (map Loaded args) reading (some_operands known) old mid new one first called found is walked refused arguments)

  -- a callee and its arguments pass
  pub parts_pass : (function : Option Callee) (known : List KnownByNumber) (old mid new : Context) (last : Unit {0}) (called found : Found (Unit {0}))
      → called ≡ FoundToPass tt → Walked (Says abi (λ o. PieceIs (Called callee) o)) (a_callee function) old mid called
      → found ≡ FoundToPass last → Walked (Says abi (λ o. PiecesAre (map Loaded args) o)) (some_operands known) mid new found
      → PartsPass (call_parts function known) old new
  parts_pass None known old mid new last called found is walked passes arguments =
      then_passes abi (Called callee) (map Loaded args) no_function (some_operands known) (another_call known)
      old mid new tt last tt called found is walked passes arguments (λ n. refl) (λ grows first rest. tt)
  parts_pass (Some f) known old mid new last called found is walked passes arguments =
      then_passes abi (Called callee) (map Loaded args) (a_function f.name.now f.signature f.defined f.built_in) (some_operands known) (a_call f.name.now f.signature f.defined f.built_in known)
      old mid new tt last tt called found is walked passes arguments (λ n. refl) (λ grows first rest. tt)

  -- a number of a signature is one behind them
  pub signature_below : (reading : Reading (Unit {0}) (List Told)) (function : Option Callee) (old new : Context) → PartsPass reading old new
      → IfSome function (λ f. f.signature < length old.environment.signatures) → IfSome function (λ f. f.signature < length new.environment.signatures)
  signature_below reading None old new passed below = tt
  signature_below reading (Some f) old new passed below = omega (arith, below, keeps_length old.environment.signatures new.environment.signatures passed.grows.signatures)

  -- what is asked of a call of a function, behind its parts; code gives its arguments in other words
  call_result : (name : List ℕ) (signature : ℕ) (defined built_in : Bool) (known given : List KnownByNumber) (old mid new : Context) (r : Result (Found KnownByNumber) NoMemory)
      → given ≡ known → length known ≡ length args
      → IfOk r (λ found. Settled (λ n. call_faults mid.environment.strict place callee.place name built_in (kind_of mid.structs (n.ctype (n.signature signature).result)) (map (kind_of mid.structs) (map n.ctype (n.signature signature).parameters)) (arguments_at n mid.structs args given)) (λ n. plain (n.ctype (n.signature signature).result)) number mid new found)
      → PartsPass (a_call name signature defined built_in known) old mid
      → IfOk r (λ found. Walked (SaysForm abi number place (Call callee args)) an_expression old new found)
  call_result name signature defined built_in known given old mid new r same count settled passed =
      settled_result abi number place (Call callee args) (a_call name signature defined built_in known) old mid new tt
      (λ n. call_faults mid.environment.strict place callee.place name built_in (kind_of mid.structs (n.ctype (n.signature signature).result)) (map (kind_of mid.structs) (map n.ctype (n.signature signature).parameters)) (arguments_at n mid.structs args given))
      (λ n. plain (n.ctype (n.signature signature).result)) r settled passed
      (λ n handed outcome agrees is. CallOfFunction
      (subst (λ (all : List KnownByNumber). AreArguments mid.structs args (operands_at n all) (arguments_at n mid.structs args given)) same (are_arguments n mid.structs args given (ap length same ∙ count)))
      refl refl is)

  -- a call of what is no function name, behind its parts
  other_call : (known : List KnownByNumber) (old mid : Context) → PartsPass (another_call known) old mid
      → Stopped (SaysForm abi number place (Call callee args)) old mid (fault place (Construct 11))
  other_call known old mid passed = record {
    grows = passed.grows;
    found = λ n agrees. (Passes (NoFunction ∷ operands_at n known) (map (handed_at n) passed.rows), passed.found n agrees, CallOfOther);
  }

  -- a call behind its parts
  pub call_found : (function : Option Callee) (known given : List KnownByNumber) (old mid new : Context) (r : Result (Found KnownByNumber) NoMemory)
      → IfSome function (λ f. f.place ≡ callee.place) → given ≡ known → length known ≡ length args
      → IfSome function (λ f. IfOk r (λ found. Settled (λ n. call_faults mid.environment.strict place f.place f.name.now f.built_in (kind_of mid.structs (n.ctype (n.signature f.signature).result)) (map (kind_of mid.structs) (map n.ctype (n.signature f.signature).parameters)) (arguments_at n mid.structs args given)) (λ n. plain (n.ctype (n.signature f.signature).result)) number mid new found))
      → IfNone function (IfOk r (λ found. (found ≡ FoundRefused (fault place (Construct 11))) × (new ≡ mid)))
      → PartsPass (call_parts function known) old mid
      → IfOk r (λ found. Walked (SaysForm abi number place (Call callee args)) an_expression old new found)
  call_found None known given old mid new (Ok found) stands same count some none passed =
      subst (λ (answer : Found KnownByNumber). Walked (SaysForm abi number place (Call callee args)) an_expression old new answer) (sym none.0)
      (subst (λ (context : Context). Stopped (SaysForm abi number place (Call callee args)) old context (fault place (Construct 11))) (sym none.1) (other_call known old mid passed))
  call_found None known given old mid new (Err error) stands same count some none passed = tt
  call_found (Some f) known given old mid new r stands same count some none passed =
      call_result f.name.now f.signature f.defined f.built_in known given old mid new r same count
      (subst (λ (p : Place). IfOk r (λ found. Settled (λ n. call_faults mid.environment.strict place p f.name.now f.built_in (kind_of mid.structs (n.ctype (n.signature f.signature).result)) (map (kind_of mid.structs) (map n.ctype (n.signature f.signature).parameters)) (arguments_at n mid.structs args given)) (λ n. plain (n.ctype (n.signature f.signature).result)) number mid new found)) stands some) passed
