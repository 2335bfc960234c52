-- What is found of an enum with its constants: the value of each, each behind those before it, and the enum by its tag.
use Rattle.std.proofs.Common.{◌≡◌, ◌<◌, ◌≤◌, ◌+◌, ◌∙◌, ℕ, Bool, true, false, List, [], ◌++◌, map, drop, length, get_or, refl, sym, ap, subst, Option, None, Some, append-nil, Result, Ok, Err, IfOk}
use Rattle.std.specs.Prelude.{is_some}
use Rattle.std.proofs.lemmas.List.{append_assoc, map-append, drop_all}
use Rattle.cbase.specs.declared.abi.Abi.{Abi}
use Rattle.cbase.specs.declared.no_memory.NoMemory.{NoMemory}
use Rattle.cbase.specs.declared.place.Place.{Place}
use Rattle.cbase.specs.declared.tree.expr.Expr.{Expr}
use Rattle.cbase.specs.declared.tree.expr.ExprForm.TheOpen.{Enum}
use Rattle.cbase.specs.declared.tree.expr.ExprForm.TheViews.{out-Enumerator}
use Rattle.cbase.specs.declared.tree.identifier.Identifier.{Identifier}
use Rattle.cbase.specs.declared.tree.spec.Enumerator.{Enumerator}
use Rattle.typing.specs.declared.environment.entity.Binding.TheVariants.{Own}
use Rattle.typing.specs.declared.environment.entity.Entity.TheVariants.{Enumerator as EnumeratorEntity}
use Rattle.typing.specs.environment.Environment.{name_bound}
use Rattle.typing.specs.environment.Scopes.{found_here}
use Rattle.typing.specs.declared.ctypes.found.Broken.TheVariants.{Rule}
use Rattle.typing.specs.ctypes.Binary.{int_type}
use Rattle.typing.specs.ctypes.Kinds.{kind_of}
use Rattle.typing.specs.declared.fault.Fault.{Fault}
use Rattle.typing.specs.Faults.{fault}
use Rattle.typing.specs.NamedTypes.{NamedType, whole}
use Rattle.typing.specs.Outcomes.{Outcome, Handed, Passes, Refused, with_front}
use Rattle.typing.specs.Pieces.{Loaded}
use Rattle.typing.specs.Typing.{PieceIs, WordsAre, EnumeratorsAre, ValueOfEnumerator, Finds, EnumWithConstants, EnumTwice, NoEnumerators, EnumeratorTwice, EnumeratorRefused, EnumeratorTwiceInside, MoreEnumerators, NextValue, NoNextValue, GivenValue, GivenNoInt, GivenRefused}
use Rattle.typing.specs.values.Values.{int_value, next_value}
use Rattle.expressions.specs.declared.found.Found.{Found}
use Rattle.expressions.specs.declared.found.Found.TheVariants.{Passes as FoundToPass, Refused as FoundRefused}
use Rattle.expressions.specs.declared.handed_row.HandedRow.{HandedRow}
use Rattle.expressions.specs.declared.known.Known.{Known as KnownByNumber}
use Rattle.expressions.specs.declared.named_type.NamedType.{NamedType as NamedByNumber}
use Rattle.expressions.specs.Context.{Context, Declared, declared, Agrees, Grows}
use Rattle.expressions.specs.Enumerated.{int_found, IsIntValue, EnumeratorPasses, EnumeratorStops, IsEnumerated}
use Rattle.expressions.specs.Found.{an_operand, a_type, some_bits}
use Rattle.expressions.specs.Numbers.{Numbering, handed_at}
use Rattle.expressions.specs.Opened.{EnumOpens, IsEnumOpened}
use Rattle.expressions.specs.Operated.{Numbers}
use Rattle.expressions.specs.Language.{language}
use Rattle.expressions.specs.Walked.{Passed, Stopped, Walked, Says}
use Rattle.expressions.proofs.Growth.{agrees_before, grows_same, grows_trans, only_types_grows}
use Rattle.expressions.proofs.Loops.{next_item}
use Rattle.expressions.proofs.TypeWords.{declared_by_types, grows_to, whole_at}
use Rattle.expressions.proofs.Walking.{handed_behind, passed_of, stopped_of}

module _ (abi : Abi) (name : Option Identifier) (values : List Enumerator) (old mid : Context) where
  -- what is answered where memory is there
  answered : (r : Result (Option Fault) NoMemory) (refused answer : Option Fault) → r ≡ Ok refused → refused ≡ answer → IfOk r (λ found. IsEnumOpened abi name old mid found) → IsEnumOpened abi name old mid answer
  answered r refused answer was is opened = subst (λ (found : Option Fault). IsEnumOpened abi name old mid found) is
      (subst (λ (result : Result (Option Fault) NoMemory). IfOk result (λ found. IsEnumOpened abi name old mid found)) was opened)

  -- a tag that is given its constants twice
  pub enum_twice : (first : Fault) (r : Result (Option Fault) NoMemory) (refused : Option Fault) → r ≡ Ok refused → refused ≡ Some first → IfOk r (λ found. IsEnumOpened abi name old mid found)
      → Stopped (Says abi (λ o. WordsAre (Enum name (Some values)) o)) old mid first
  enum_twice first r refused was is opened =
      let twice : IsEnumOpened abi name old mid (Some first) = answered r refused (Some first) was is opened in
      subst (λ (context : Context). Stopped (Says abi (λ o. WordsAre (Enum name (Some values)) o)) old context first) (sym twice.1)
      (record { grows = grows_same old; found = λ n agrees. EnumTwice (twice.0 n) })

  enum_constants : (new : Context) (found : Found NamedByNumber) → EnumOpens abi name old mid
      → Walked (Says abi (λ o. EnumeratorsAre (Some 0) values o)) a_type mid new found
      → Walked (Says abi (λ o. WordsAre (Enum name (Some values)) o)) a_type old new found
  enum_constants new (FoundToPass named) opened passed = record {
    rows = passed.rows;
    handed = passed.handed ∙ ap (λ (handed : List HandedRow). handed ++ passed.rows) opened.handed;
    grows = grows_trans old mid new (grows_to old mid opened.types (rw opened.structs (λ at item is. is)) opened.signatures) passed.grows;
    below = passed.below;
    found = λ n agrees. EnumWithConstants (opened.opens n) (passed.found n agrees);
  }
  enum_constants new (FoundRefused first) opened stopped = record {
    grows = grows_trans old mid new (grows_to old mid opened.types (rw opened.structs (λ at item is. is)) opened.signatures) stopped.grows;
    found = λ n agrees. EnumWithConstants (opened.opens n) (stopped.found n agrees);
  }

  -- what is found of the constants, as code reads them, is found of the enum
  pub enum_walked : (items : List Enumerator) (new : Context) (r : Result (Option Fault) NoMemory) (refused : Option Fault) (s : Result (Found NamedByNumber) NoMemory) → items ≡ values → r ≡ Ok refused → refused ≡ None
      → IfOk r (λ found. IsEnumOpened abi name old mid found)
      → IfOk s (λ found. Walked (Says abi (λ o. EnumeratorsAre (Some 0) items o)) a_type mid new found)
      → IfOk s (λ found. Walked (Says abi (λ o. WordsAre (Enum name (Some values)) o)) a_type old new found)
  enum_walked items new r refused (Ok found) same was is opened walked = enum_constants new found (answered r refused None was is opened)
      (subst (λ (constants : List Enumerator). Walked (Says abi (λ o. EnumeratorsAre (Some 0) constants o)) a_type mid new found) same walked)
  enum_walked items new r refused (Err error) same was is opened walked = tt

-- a value that an int has, and one that none has
passes_of : (place : Place) (value : Option ℕ) (bits : ℕ) → FoundToPass bits ≡ int_found place value → value ≡ Some bits
passes_of place None bits is = cc is
passes_of place (Some given) bits is = cc is

refused_of : (place : Place) (value : Option ℕ) (first : Fault) → FoundRefused first ≡ int_found place value → (first ≡ fault place (Rule 9)) × (value ≡ None)
refused_of place None first is = (cc is, refl)
refused_of place (Some given) first is = (cc is, cc is)

module _ (abi : Abi) (place : Place) (next : Option ℕ) (value : Option Expr) (old : Context) where
  there : (expr : Expr) (new : Context) (found : Found ℕ) → value ≡ Some expr → Walked (Says abi (λ o. ValueOfEnumerator place next (Some expr) o)) some_bits old new found
      → Walked (Says abi (λ o. ValueOfEnumerator place next value o)) some_bits old new found
  there expr new found is walked = subst (λ (given : Option Expr). Walked (Says abi (λ o. ValueOfEnumerator place next given o)) some_bits old new found) (sym is) walked

  given_value : (expr : Expr) (new : Context) (known : KnownByNumber) (found : Found ℕ) → Passed (Says abi (λ o. PieceIs (Loaded expr) o)) an_operand old new known
      → IsIntValue new expr.place known found → Walked (Says abi (λ o. ValueOfEnumerator place next (Some expr) o)) some_bits old new found
  given_value expr new known (FoundToPass bits) passed is = record {
    rows = passed.rows;
    handed = passed.handed;
    grows = passed.grows;
    below = tt;
    found = λ n agrees. GivenValue (passed.found n agrees) refl (passes_of expr.place (int_value (kind_of new.structs (n.ctype known.ctype)) known.value) bits (is n agrees));
  }
  given_value expr new known (FoundRefused first) passed is = record {
    grows = passed.grows;
    found = λ n agrees.
        let none = refused_of expr.place (int_value (kind_of new.structs (n.ctype known.ctype)) known.value) first (is n agrees) in
        subst (λ (f : Fault). Finds (language abi n) (declared old) (ValueOfEnumerator place next (Some expr) (Refused f)) (declared new)) (sym none.0)
        (GivenNoInt (passed.found n agrees) refl none.1);
  }

  -- a value that is given
  pub value_given : (expr : Expr) (new : Context) (known : KnownByNumber) (operand : Found KnownByNumber) (found : Found ℕ) → value ≡ Some expr → operand ≡ FoundToPass known
      → Walked (Says abi (λ o. PieceIs (Loaded expr) o)) an_operand old new operand
      → IsIntValue new expr.place known found → Walked (Says abi (λ o. ValueOfEnumerator place next value o)) some_bits old new found
  value_given expr new known operand found given is walked int =
      there expr new found given (given_value expr new known found (passed_of (Says abi (λ o. PieceIs (Loaded expr) o)) an_operand old new known operand is walked) int)

  -- and one in which something is refused
  pub value_refused : (expr : Expr) (new : Context) (first : Fault) (operand : Found KnownByNumber) → value ≡ Some expr → operand ≡ FoundRefused first
      → Walked (Says abi (λ o. PieceIs (Loaded expr) o)) an_operand old new operand
      → Stopped (Says abi (λ o. ValueOfEnumerator place next value o)) old new first
  value_refused expr new first operand given is walked =
      let stopped = stopped_of (Says abi (λ o. PieceIs (Loaded expr) o)) an_operand old new first operand is walked in
      there expr new (FoundRefused first) given (record { grows = stopped.grows; found = λ n agrees. GivenRefused (stopped.found n agrees) })

-- the value behind that of the constant before it
following : (abi : Abi) (place : Place) (next : Option ℕ) (context : Context)
    → Walked (Says abi (λ o. ValueOfEnumerator place next None o)) some_bits context context (int_found place next)
following abi place None context = record { grows = grows_same context; found = λ n agrees. NoNextValue }
following abi place (Some bits) context = record {
  rows = [];
  handed = sym (append-nil context.handed);
  grows = grows_same context;
  below = tt;
  found = λ n agrees. NextValue;
}

pub value_following : (abi : Abi) (place : Place) (next : Option ℕ) (value : Option Expr) (context : Context) (found : Found ℕ) → value ≡ None → found ≡ int_found place next
    → Walked (Says abi (λ o. ValueOfEnumerator place next value o)) some_bits context context found
value_following abi place next value context found none is =
    subst (λ (given : Option Expr). Walked (Says abi (λ o. ValueOfEnumerator place next given o)) some_bits context context found) (sym none)
    (subst (λ (answer : Found ℕ). Walked (Says abi (λ o. ValueOfEnumerator place next None o)) some_bits context context answer) (sym is) (following abi place next context))

-- what is answered of the name of a constant, as code reads it
pub name_here : (constant : Enumerator) (name : List ℕ) (context : Context) (answer test : Bool) → name ≡ (out-Enumerator constant).name → answer ≡ is_some (found_here name context.environment.names) → answer ≡ test
    → is_some (found_here (out-Enumerator constant).name context.environment.names) ≡ test
name_here constant name context answer test same is told = ap (λ (text : List ℕ). is_some (found_here text context.environment.names)) (sym same) ∙ (sym is ∙ told)

module _ (abi : Abi) (next : Option ℕ) (constant : Enumerator) (old : Context) where
  abbrev IsNew : Context → Type 0
  IsNew context = is_some (found_here (out-Enumerator constant).name context.environment.names) ≡ false

  abbrev IsThere : Context → Type 0
  IsThere context = is_some (found_here (out-Enumerator constant).name context.environment.names) ≡ true

  abbrev Valued : Context → Found ℕ → Type 0
  Valued new found = Walked (Says abi (λ o. ValueOfEnumerator (out-Enumerator constant).place next (out-Enumerator constant).value o)) some_bits old new found

  -- a constant whose name its scope declares already
  pub constant_twice : IsThere old → EnumeratorStops abi next constant old old (fault (out-Enumerator constant).place (Rule 2))
  constant_twice here = record { grows = grows_same old; found = λ n agrees further. EnumeratorTwice refl here }

  -- one in whose value something is refused
  pub constant_refused : (new : Context) (first : Fault) (found : Found ℕ) → IsNew old → found ≡ FoundRefused first → Valued new found
      → EnumeratorStops abi next constant old new first
  constant_refused new first found fresh is walked =
      let stopped = stopped_of (Says abi (λ o. ValueOfEnumerator (out-Enumerator constant).place next (out-Enumerator constant).value o)) some_bits old new first found is walked in
      record { grows = stopped.grows; found = λ n agrees further. EnumeratorRefused refl fresh (stopped.found n agrees) }

  -- one that its own value declares
  pub constant_inside : (new : Context) (bits : ℕ) (found : Found ℕ) → IsNew old → found ≡ FoundToPass bits → Valued new found → IsThere new
      → EnumeratorStops abi next constant old new (fault (out-Enumerator constant).place (Rule 2))
  constant_inside new bits found fresh is walked here =
      let passed = passed_of (Says abi (λ o. ValueOfEnumerator (out-Enumerator constant).place next (out-Enumerator constant).value o)) some_bits old new bits found is walked in
      record { grows = passed.grows; found = λ n agrees further. EnumeratorTwiceInside refl fresh (passed.found n agrees) here }

  -- and one that is declared behind its value
  pub constant_passes : (mid new : Context) (bits : ℕ) (found : Found ℕ) → IsNew old → found ≡ FoundToPass bits → Valued mid found → IsNew mid
      → new ≡ record mid { environment = name_bound (out-Enumerator constant).name (Own (EnumeratorEntity bits)) mid.environment }
      → EnumeratorPasses abi next constant old new bits
  constant_passes mid new bits found fresh is walked unbound bound =
      let passed = passed_of (Says abi (λ o. ValueOfEnumerator (out-Enumerator constant).place next (out-Enumerator constant).value o)) some_bits old mid bits found is walked in
      let further : Grows mid new = grows_to mid new (ap (λ (c : Context). c.types) bound) (rw (ap (λ (c : Context). c.structs) bound) (λ at item there. there)) (ap (λ (c : Context). c.environment.signatures) bound) in
      record {
        rows = passed.rows;
        handed = ap (λ (c : Context). c.handed) bound ∙ passed.handed;
        grows = grows_trans old mid new passed.grows further;
        goes = λ n agrees others_behind outcome after rest.
            MoreEnumerators refl fresh (passed.found n (agrees_before mid new n further agrees)) unbound
            (subst (λ (before : Declared). Finds (language abi n) before (EnumeratorsAre (next_value bits) others_behind outcome) after) (ap declared bound) rest);
      }

front_nothing : (outcome : Outcome NamedType) → with_front [] outcome ≡ outcome
front_nothing (Passes named handed) = refl
front_nothing (Refused first) = refl

front_twice : (handed further : List Handed) (outcome : Outcome NamedType) → with_front handed (with_front further outcome) ≡ with_front (handed ++ further) outcome
front_twice handed further (Passes named rows) = λ i. Passes named (sym (append_assoc handed further rows) i)
front_twice handed further (Refused first) = refl

module _ (abi : Abi) (values : List Enumerator) where
  -- constants of which so many are walked: what is found of the rest, the first of which has the value `next` where none is given, makes what is found of all
  pub record Enumerators (next : Option ℕ) (old new : Context) (index : ℕ) : Type 0 where
    pub rows : List HandedRow
    pub handed : new.handed ≡ old.handed ++ rows
    pub grows : Grows old new
    pub goes : (n : Numbering) → Agrees n new → (outcome : Outcome NamedType) (after : Declared)
        → Finds (language abi n) (declared new) (EnumeratorsAre next (drop index values) outcome) after
        → Finds (language abi n) (declared old) (EnumeratorsAre (Some 0) values (with_front (map (handed_at n) rows) outcome)) after

  pub enumerators_start : (context : Context) → Enumerators (Some 0) context context 0
  enumerators_start context = record {
    rows = [];
    handed = sym (append-nil context.handed);
    grows = grows_same context;
    goes = λ n agrees outcome after found.
        subst (λ (o : Outcome NamedType). Finds (language abi n) (declared context) (EnumeratorsAre (Some 0) values o) after) (sym (front_nothing outcome)) found;
  }

  -- one more constant
  pub enumerators_next : (next : Option ℕ) (old mid new : Context) (index : ℕ) (constant : Enumerator) (bits : ℕ) (found : Found ℕ) → index < length values → constant ≡ get_or values index constant
      → found ≡ FoundToPass bits → IsEnumerated abi next constant mid new found
      → Enumerators next old mid index → Enumerators (next_value bits) old new (index + 1)
  enumerators_next next old mid new index constant bits found within is passes one walk =
      let passed : EnumeratorPasses abi next constant mid new bits = subst (λ (answer : Found ℕ). IsEnumerated abi next constant mid new answer) passes one in
      record {
        rows = walk.rows ++ passed.rows;
        handed = handed_behind old.handed mid.handed new.handed walk.rows passed.rows walk.handed passed.handed;
        grows = grows_trans old mid new walk.grows passed.grows;
        goes = λ n agrees outcome after rest.
            let all = walk.goes n (agrees_before mid new n passed.grows agrees) (with_front (map (handed_at n) passed.rows) outcome) after
            (subst (λ (constants : List Enumerator). Finds (language abi n) (declared mid) (EnumeratorsAre next constants (with_front (map (handed_at n) passed.rows) outcome)) after) (sym (next_item values index constant within is))
            (passed.goes n agrees (drop (index + 1) values) outcome after rest)) in
            let twice = front_twice (map (handed_at n) walk.rows) (map (handed_at n) passed.rows) outcome in
            let rows = ap (λ (handed : List Handed). with_front handed outcome) (sym (map-append (handed_at n) walk.rows passed.rows)) in
            subst (λ (o : Outcome NamedType). Finds (language abi n) (declared old) (EnumeratorsAre (Some 0) values o) after) (twice ∙ rows) all;
      }

  -- and one that is refused
  pub enumerators_refused : (next : Option ℕ) (old mid new : Context) (index : ℕ) (constant : Enumerator) (first : Fault) (found : Found ℕ) → index < length values → constant ≡ get_or values index constant
      → found ≡ FoundRefused first → IsEnumerated abi next constant mid new found
      → Enumerators next old mid index → Stopped (Says abi (λ o. EnumeratorsAre (Some 0) values o)) old new first
  enumerators_refused next old mid new index constant first found within is refused one walk =
      let stopped : EnumeratorStops abi next constant mid new first = subst (λ (answer : Found ℕ). IsEnumerated abi next constant mid new answer) refused one in
      record {
        grows = grows_trans old mid new walk.grows stopped.grows;
        found = λ n agrees. walk.goes n (agrees_before mid new n stopped.grows agrees) (Refused first) (declared new)
            (subst (λ (constants : List Enumerator). Finds (language abi n) (declared mid) (EnumeratorsAre next constants (Refused first)) (declared new)) (sym (next_item values index constant within is))
            (stopped.found n agrees (drop (index + 1) values)));
      }

  -- behind the last one the enum has the type int
  pub enumerators_end : (next : Option ℕ) (old mid new : Context) (index number : ℕ) → length values ≤ index → Enumerators next old mid index → Numbers (λ n. int_type) mid new number
      → Passed (Says abi (λ o. EnumeratorsAre (Some 0) values o)) a_type old new (whole_at number)
  enumerators_end next old mid new index number past walk numbers =
      let further : Grows mid new = only_types_grows mid new numbers.only_types in
      record {
        rows = walk.rows;
        handed = numbers.only_types.handed ∙ walk.handed;
        grows = grows_trans old mid new walk.grows further;
        below = numbers.below;
        found = λ n agrees.
            let all = walk.goes n (agrees_before mid new n further agrees) (Passes (whole int_type) []) (declared mid)
            (subst (λ (constants : List Enumerator). Finds (language abi n) (declared mid) (EnumeratorsAre next constants (Passes (whole int_type) [])) (declared mid)) (sym (drop_all index values past)) NoEnumerators) in
            let same : Passes (whole int_type) (map (handed_at n) walk.rows ++ []) ≡ Passes (whole (n.ctype number)) (map (handed_at n) walk.rows) =
            λ i. Passes (whole (sym (numbers.meant n agrees) i)) (append-nil (map (handed_at n) walk.rows) i) in
            subst (λ (after : Declared). Finds (language abi n) (declared old) (EnumeratorsAre (Some 0) values (Passes (whole (n.ctype number)) (map (handed_at n) walk.rows))) after) (declared_by_types mid new numbers.only_types)
            (subst (λ (o : Outcome NamedType). Finds (language abi n) (declared old) (EnumeratorsAre (Some 0) values o) (declared mid)) same all);
      }
