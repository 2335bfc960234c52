-- What is found of one part of an expression: an operand, an index, a size of an array, a type name.
use Rattle.std.proofs.Common.{◌≡◌, ◌<◌, ℕ, map, length, refl, sym, subst, Result, Ok, Err, IfOk}
use Rattle.cbase.specs.declared.abi.Abi.{Abi}
use Rattle.cbase.specs.declared.no_memory.NoMemory.{NoMemory}
use Rattle.cbase.specs.declared.tree.decl.TypeName.{TypeName}
use Rattle.cbase.specs.declared.tree.expr.Expr.{Expr}
use Rattle.typing.specs.declared.fault.Fault.{Fault}
use Rattle.typing.specs.declared.size.Size.{Size}
use Rattle.typing.specs.Outcomes.{Passes, Refused}
use Rattle.typing.specs.Pieces.{Loaded, Unloaded, ConstantIndex, SizeOfArray, OfType}
use Rattle.typing.specs.Told.{Told, OperandIs, TypeIs}
use Rattle.typing.specs.Typing.{ExpressionIs, PieceIs, NameOfTypeIs, Finds, LoadedValue, LoadOfIncomplete, LoadedRefused, UnloadedOperand, UnloadedRefused, IndexOfPath, IndexNotConstant, IndexRefused, SizeOfItems, SizeUnderOne, SizeRefused, TypeInside, TypeRefused}
use Rattle.expressions.specs.declared.found.Found.{Found}
use Rattle.expressions.specs.declared.found.Found.TheVariants.{Passes as FoundToPass, Refused as FoundRefused}
use Rattle.expressions.specs.declared.known.Known.{Known as KnownByNumber}
use Rattle.expressions.specs.declared.named_type.NamedType.{NamedType as NamedByNumber}
use Rattle.expressions.specs.Context.{Context, declared}
use Rattle.expressions.specs.Found.{Reading, an_expression, an_operand, an_index, a_size, a_type}
use Rattle.expressions.specs.Numbers.{known_at, handed_at, named_at}
use Rattle.expressions.specs.Language.{language}
use Rattle.expressions.specs.Taken.{IsLoaded, IsIndex, IsSize}
use Rattle.expressions.specs.Walked.{Passed, Stopped, Walked, Says}
use Rattle.expressions.proofs.Walking.{stopped_of}

-- a type name as a part
abbrev pub a_type_told : Reading NamedByNumber Told
a_type_told = record { means = λ n named. TypeIs (named_at n named); IsBelow = λ count named. named.ctype < count }

module _ (abi : Abi) (expr : Expr) (old new : Context) where
  unloaded_passed : (known : KnownByNumber) → Passed (Says abi (λ o. ExpressionIs expr o)) an_expression old new known
      → Passed (Says abi (λ o. PieceIs (Unloaded expr) o)) an_operand old new known
  unloaded_passed known passed = record {
    rows = passed.rows;
    handed = passed.handed;
    grows = passed.grows;
    below = passed.below;
    found = λ n agrees. UnloadedOperand (passed.found n agrees);
  }

  -- an operand of which only the place or the type is asked
  pub unloaded_part : (r : Result (Found KnownByNumber) NoMemory)
      → IfOk r (λ found. Walked (Says abi (λ o. ExpressionIs expr o)) an_expression old new found)
      → IfOk r (λ found. Walked (Says abi (λ o. PieceIs (Unloaded expr) o)) an_operand old new found)
  unloaded_part (Ok (FoundToPass known)) passed = unloaded_passed known passed
  unloaded_part (Ok (FoundRefused first)) refused = record { grows = refused.grows; found = λ n agrees. UnloadedRefused (refused.found n agrees) }
  unloaded_part (Err error) refused = tt

  -- and one whose value is taken
  pub loaded_part : (known : KnownByNumber) (found : Found KnownByNumber) → Passed (Says abi (λ o. ExpressionIs expr o)) an_expression old new known
      → IsLoaded new expr.place known found → Walked (Says abi (λ o. PieceIs (Loaded expr) o)) an_operand old new found
  loaded_part known (FoundToPass told) passed loaded = record {
    rows = passed.rows;
    handed = passed.handed;
    grows = passed.grows;
    below = subst (λ (k : KnownByNumber). k.ctype < length new.types) (sym loaded.0) passed.below;
    found = λ n agrees. subst (λ (k : KnownByNumber). Finds (language abi n) (declared old) (PieceIs (Loaded expr) (Passes (OperandIs (known_at n k)) (map (handed_at n) passed.rows))) (declared new)) (sym loaded.0)
        (LoadedValue (passed.found n agrees) (loaded.1 n agrees));
  }
  loaded_part known (FoundRefused first) passed refused = record {
    grows = passed.grows;
    found = λ n agrees.
        subst (λ (f : Fault). Finds (language abi n) (declared old) (PieceIs (Loaded expr) (Refused f)) (declared new)) (sym refused.0)
        (LoadOfIncomplete (passed.found n agrees) (refused.1 n agrees));
  }

  pub loaded_refused : (first : Fault) (found : Found KnownByNumber) → found ≡ FoundRefused first → Walked (Says abi (λ o. ExpressionIs expr o)) an_expression old new found
      → Stopped (Says abi (λ o. PieceIs (Loaded expr) o)) old new first
  loaded_refused first found is walked =
      let stopped = stopped_of (Says abi (λ o. ExpressionIs expr o)) an_expression old new first found is walked in
      record { grows = stopped.grows; found = λ n agrees. LoadedRefused (stopped.found n agrees) }

  -- an index of `__builtin_offsetof`
  pub index_part : (known : KnownByNumber) (found : Found ℕ) → Passed (Says abi (λ o. PieceIs (Loaded expr) o)) an_operand old new known
      → IsIndex new expr.place known found → Walked (Says abi (λ o. PieceIs (ConstantIndex expr) o)) an_index old new found
  index_part known (FoundToPass word) passed is = record {
    rows = passed.rows;
    handed = passed.handed;
    grows = passed.grows;
    below = tt;
    found = λ n agrees. IndexOfPath (passed.found n agrees) refl (is n agrees);
  }
  index_part known (FoundRefused first) passed refused = record {
    grows = passed.grows;
    found = λ n agrees.
        subst (λ (f : Fault). Finds (language abi n) (declared old) (PieceIs (ConstantIndex expr) (Refused f)) (declared new)) (sym refused.0)
        (IndexNotConstant (passed.found n agrees) refl (refused.1 n agrees));
  }

  pub index_refused : (first : Fault) (found : Found KnownByNumber) → found ≡ FoundRefused first → Walked (Says abi (λ o. PieceIs (Loaded expr) o)) an_operand old new found
      → Stopped (Says abi (λ o. PieceIs (ConstantIndex expr) o)) old new first
  index_refused first found is walked =
      let stopped = stopped_of (Says abi (λ o. PieceIs (Loaded expr) o)) an_operand old new first found is walked in
      record { grows = stopped.grows; found = λ n agrees. IndexRefused (stopped.found n agrees) }

  -- a size of an array
  pub size_part : (known : KnownByNumber) (found : Found Size) → Passed (Says abi (λ o. PieceIs (Loaded expr) o)) an_operand old new known
      → IsSize new expr.place known found → Walked (Says abi (λ o. PieceIs (SizeOfArray expr) o)) a_size old new found
  size_part known (FoundToPass size) passed is = record {
    rows = passed.rows;
    handed = passed.handed;
    grows = passed.grows;
    below = tt;
    found = λ n agrees. SizeOfItems (passed.found n agrees) refl (is n agrees);
  }
  size_part known (FoundRefused first) passed refused = record {
    grows = passed.grows;
    found = λ n agrees.
        subst (λ (f : Fault). Finds (language abi n) (declared old) (PieceIs (SizeOfArray expr) (Refused f)) (declared new)) (sym refused.0)
        (SizeUnderOne (passed.found n agrees) refl (refused.1 n agrees));
  }

  pub size_refused : (first : Fault) (found : Found KnownByNumber) → found ≡ FoundRefused first → Walked (Says abi (λ o. PieceIs (Loaded expr) o)) an_operand old new found
      → Stopped (Says abi (λ o. PieceIs (SizeOfArray expr) o)) old new first
  size_refused first found is walked =
      let stopped = stopped_of (Says abi (λ o. PieceIs (Loaded expr) o)) an_operand old new first found is walked in
      record { grows = stopped.grows; found = λ n agrees. SizeRefused (stopped.found n agrees) }

module _ (abi : Abi) (to : TypeName) (old new : Context) where
  -- a type name
  pub type_part : (named : NamedByNumber) → Passed (Says abi (λ o. NameOfTypeIs to o)) a_type old new named
      → Passed (Says abi (λ o. PieceIs (OfType to) o)) a_type_told old new named
  type_part named passed = record {
    rows = passed.rows;
    handed = passed.handed;
    grows = passed.grows;
    below = passed.below;
    found = λ n agrees. TypeInside (passed.found n agrees);
  }

  pub type_result : (r : Result (Found NamedByNumber) NoMemory)
      → IfOk r (λ found. Walked (Says abi (λ o. NameOfTypeIs to o)) a_type old new found)
      → IfOk r (λ found. Walked (Says abi (λ o. PieceIs (OfType to) o)) a_type_told old new found)
  type_result (Ok (FoundToPass named)) passed = type_part named passed
  type_result (Ok (FoundRefused first)) refused = record { grows = refused.grows; found = λ n agrees. TypeRefused (refused.found n agrees) }
  type_result (Err error) refused = tt

  pub type_found : (found : Found NamedByNumber)
      → Walked (Says abi (λ o. NameOfTypeIs to o)) a_type old new found → Walked (Says abi (λ o. PieceIs (OfType to) o)) a_type_told old new found
  type_found (FoundToPass named) passed = type_part named passed
  type_found (FoundRefused first) refused = record { grows = refused.grows; found = λ n agrees. TypeRefused (refused.found n agrees) }
