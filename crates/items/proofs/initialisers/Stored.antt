-- What is found of a value that is stored in an object.
use Rattle.std.proofs.Common.{◌≡◌, ◌<◌, ◌∙◌, ℕ, Bool, List, [], ◌∷◌, ◌++◌, map, drop, length, refl, sym, ap, subst, Result, Ok, Err, IfOk}
use Rattle.std.proofs.lemmas.List.{map-append}
use Rattle.std.proofs.Math.Seq.{drop-append_seam}
use Rattle.cbase.specs.declared.abi.Abi.{Abi}
use Rattle.cbase.specs.declared.no_memory.NoMemory.{NoMemory}
use Rattle.cbase.specs.declared.place.Place.{Place}
use Rattle.cbase.specs.declared.tree.expr.Expr.{Expr}
use Rattle.cbase.specs.declared.tree.expr.ExprForm.TheOpen.{Value}
use Rattle.cbase.specs.declared.tree.expr.ExprForm.TheViews.{out-Init}
use Rattle.cbase.specs.declared.tree.init.Init.{Init}
use Rattle.typing.specs.declared.fault.Fault.{Fault}
use Rattle.typing.specs.Initialisers.{IsAsked}
use Rattle.typing.specs.Outcomes.{Handed, Passes, Refused}
use Rattle.typing.specs.Pieces.{Loaded}
use Rattle.typing.specs.Statements.{Stored}
use Rattle.typing.specs.Typing.{PieceIs, ValueUsed, InitialiserIs, Finds, ValueTaken, ValueRefused, ValueStored}
use Rattle.expressions.specs.declared.found.Found.{Found}
use Rattle.expressions.specs.declared.found.Found.TheVariants.{Passes as FoundToPass, Refused as FoundRefused}
use Rattle.expressions.specs.declared.handed_row.HandedRow.{HandedRow}
use Rattle.expressions.specs.declared.handed_row.HandedRow.TheVariants.{Store as StoreRow}
use Rattle.expressions.specs.declared.known.Known.{Known as KnownByNumber}
use Rattle.expressions.specs.declared.part.Slot.{Slot as SlotByNumber}
use Rattle.expressions.specs.declared.part.Subject.{Subject as SubjectKept}
use Rattle.expressions.specs.Context.{Context, Declared, declared, Agrees, Grows}
use Rattle.expressions.specs.Found.{an_operand, nothing}
use Rattle.expressions.specs.Language.{language}
use Rattle.expressions.specs.Nests.{subject_of, slot_at}
use Rattle.expressions.specs.Numbers.{Numbering, handed_at}
use Rattle.expressions.specs.Walked.{Passed, Stopped, Walked, Says, SaysBy}
use Rattle.expressions.proofs.Growth.{agrees_before, below_grows, grows_trans}
use Rattle.expressions.proofs.TypeWords.{grows_to}
use Rattle.expressions.proofs.Walking.{handed_behind, passed_of, stopped_of}
use Rattle.items.specs.initialisers.Storing.{IsForm, IsStored}

module _ (abi : Abi) (subject : SubjectKept) (slot : SlotByNumber) (init : Init) (value : Expr) (after_it : Place) (is : out-Init init ≡ Value value after_it) (old mid : Context) where
  -- what was handed on behind the first rows is that of the value
  asked_of : (known : KnownByNumber) (before : ℕ) (constant : Bool) (n : Numbering) → before ≡ length old.handed
      → (passed : Passed (Says abi (λ o. PieceIs (Loaded value) o)) an_operand old mid known) → Agrees n mid
      → IsForm mid before subject.fixed value constant → IsAsked (Stored subject.fixed (n.ctype slot.ctype)) (map (handed_at n) passed.rows) value constant
  asked_of known before constant n from passed agrees form =
      let behind_it : drop before mid.handed ≡ passed.rows =
      ap (drop before) passed.handed ∙ (ap (λ (count : ℕ). drop count (old.handed ++ passed.rows)) from ∙ drop-append_seam old.handed passed.rows)
      in
      subst (λ (rows : List HandedRow). IsAsked (Stored subject.fixed (n.ctype slot.ctype)) (map (handed_at n) rows) value constant) behind_it (form n (n.ctype slot.ctype) agrees)

  stored_found : (new : Context) (known : KnownByNumber) (before : ℕ) (found : Found (Unit {0})) → before ≡ length old.handed
      → Passed (Says abi (λ o. PieceIs (Loaded value) o)) an_operand old mid known → IsStored before subject slot value known mid new found
      → Walked (SaysBy abi (λ n o. InitialiserIs (subject_of subject) (slot_at n slot) init o)) nothing old new found
  stored_found new known before (FoundToPass told) from passed stored =
      let further : Grows mid new = grows_to mid new (ap (λ (c : Context). c.types) stored.1) (rw (ap (λ (c : Context). c.structs) stored.1) (λ at item there. there)) (ap (λ (c : Context). c.environment.signatures) stored.1) in
      let row : HandedRow = StoreRow subject.place.at slot.offset slot.ctype value.number in
      record {
        rows = passed.rows ++ row ∷ [];
        handed = handed_behind old.handed mid.handed new.handed passed.rows (row ∷ []) passed.handed (ap (λ (c : Context). c.handed) stored.1);
        grows = grows_trans old mid new passed.grows further;
        below = tt;
        found = λ n agrees.
            let here : Agrees n mid = agrees_before mid new n further agrees in
            let used : Finds (language abi n) (declared old) (ValueUsed (Stored subject.fixed (n.ctype slot.ctype)) value (Passes tt (map (handed_at n) passed.rows))) (declared mid) =
            ValueTaken stored.0.0 (passed.found n here) (asked_of known before stored.0.0 n from passed here stored.0.1) refl (stored.0.2 n here, refl, refl)
            in
            let whole = ValueStored {subject = subject_of subject} {slot = slot_at n slot} {found = Passes tt (map (handed_at n) passed.rows)} is used in
            subst (λ (after : Declared). Finds (language abi n) (declared old) (InitialiserIs (subject_of subject) (slot_at n slot) init (Passes tt (map (handed_at n) (passed.rows ++ row ∷ [])))) after) (sym (ap declared stored.1))
            (subst (λ (rows : List Handed). Finds (language abi n) (declared old) (InitialiserIs (subject_of subject) (slot_at n slot) init (Passes tt rows)) (declared mid)) (sym (map-append (handed_at n) passed.rows (row ∷ []))) whole);
      }
  stored_found new known before (FoundRefused first) from passed stored =
      subst (λ (late : Context). Stopped (SaysBy abi (λ n o. InitialiserIs (subject_of subject) (slot_at n slot) init o)) old late first) (sym stored.1) (record {
        grows = passed.grows;
        found = λ n agrees.
            let used : Finds (language abi n) (declared old) (ValueUsed (Stored subject.fixed (n.ctype slot.ctype)) value (Refused first)) (declared mid) =
            ValueTaken stored.0.0 (passed.found n agrees) (asked_of known before stored.0.0 n from passed agrees stored.0.1) refl (stored.0.2 n agrees)
            in
            ValueStored {subject = subject_of subject} {slot = slot_at n slot} {found = Refused first} is used;
      })

  -- a value that passes
  pub value_stored : (new : Context) (known : KnownByNumber) (before : ℕ) (operand : Found KnownByNumber) (r : Result (Found (Unit {0})) NoMemory) → before ≡ length old.handed → operand ≡ FoundToPass known
      → Walked (Says abi (λ o. PieceIs (Loaded value) o)) an_operand old mid operand → IfOk r (λ found. IsStored before subject slot value known mid new found)
      → IfOk r (λ found. Walked (SaysBy abi (λ n o. InitialiserIs (subject_of subject) (slot_at n slot) init o)) nothing old new found)
  value_stored new known before operand (Ok found) from passes walked stored =
      stored_found new known before found from (passed_of (Says abi (λ o. PieceIs (Loaded value) o)) an_operand old mid known operand passes walked) stored
  value_stored new known before operand (Err error) from passes walked stored = tt

  -- and one in which something is refused
  pub value_refused : (first : Fault) (operand : Found KnownByNumber) → operand ≡ FoundRefused first → Walked (Says abi (λ o. PieceIs (Loaded value) o)) an_operand old mid operand
      → Stopped (SaysBy abi (λ n o. InitialiserIs (subject_of subject) (slot_at n slot) init o)) old mid first
  value_refused first operand refused walked =
      let stopped = stopped_of (Says abi (λ o. PieceIs (Loaded value) o)) an_operand old mid first operand refused walked in
      record { grows = stopped.grows; found = λ n agrees. ValueStored {subject = subject_of subject} {slot = slot_at n slot} {found = Refused first} is (ValueRefused (stopped.found n agrees)) }

-- what had a number has it behind a value that passes
pub below_behind : (abi : Abi) (value : Expr) (old mid : Context) (known : KnownByNumber) (operand : Found KnownByNumber) (number : ℕ) → operand ≡ FoundToPass known
    → Walked (Says abi (λ o. PieceIs (Loaded value) o)) an_operand old mid operand → number < length old.types → number < length mid.types
below_behind abi value old mid known operand number passes walked below =
    let passed = passed_of (Says abi (λ o. PieceIs (Loaded value) o)) an_operand old mid known operand passes walked in
    below_grows old mid passed.grows number below
