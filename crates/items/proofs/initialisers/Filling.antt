-- What is found of the parts in braces, one behind the other.
use Rattle.std.proofs.Common.{◌≡◌, ◌<◌, ◌≤◌, ◌+◌, ◌∙◌, ℕ, suc, true, List, [], ◌∷◌, ◌++◌, map, drop, length, get_or, refl, sym, ap, subst, append-nil, arith, Option, None, Some, Result, Ok, Err, IfOk}
use Rattle.std.specs.Prelude.{slice_get}
use Rattle.std.specs.Option.{option_map_or}
use Rattle.std.proofs.lemmas.List.{map-append, drop_all}
use Rattle.cbase.specs.declared.abi.Abi.{Abi}
use Rattle.cbase.specs.declared.no_memory.NoMemory.{NoMemory}
use Rattle.cbase.specs.declared.place.Place.{Place}
use Rattle.cbase.specs.declared.structs.StructDef.{StructDef}
use Rattle.cbase.specs.declared.tree.expr.ExprForm.TheOpen.{Braces}
use Rattle.cbase.specs.declared.tree.expr.ExprForm.TheViews.{out-Init, out-InitPart}
use Rattle.cbase.specs.declared.tree.init.Init.{Init}
use Rattle.cbase.specs.declared.tree.init.InitPart.{InitPart}
use Rattle.typing.specs.declared.ctypes.found.Broken.TheVariants.{Rule}
use Rattle.typing.specs.declared.fault.Fault.{Fault}
use Rattle.typing.specs.Faults.{fault}
use Rattle.typing.specs.Initialisers.{Filled, Members, next_in, ended}
use Rattle.typing.specs.Outcomes.{Outcome, Handed, Passes, Refused, with_front}
use Rattle.typing.specs.Typing.{InitialiserIs, PartsFill, SurplusAre, Finds, BracesFill, BracesTooMany, NoMoreParts, PartSets, PartRefused, NoMemberToSet, NothingToSet}
use Rattle.expressions.specs.declared.found.Found.{Found}
use Rattle.expressions.specs.declared.found.Found.TheVariants.{Passes as FoundToPass, Refused as FoundRefused}
use Rattle.expressions.specs.declared.handed_row.HandedRow.{HandedRow}
use Rattle.expressions.specs.declared.part.Slot.{Slot as SlotByNumber}
use Rattle.expressions.specs.declared.part.Subject.{Subject as SubjectKept}
use Rattle.expressions.specs.Context.{Context, Declared, declared, Agrees, Grows}
use Rattle.expressions.specs.Found.{nothing}
use Rattle.expressions.specs.Language.{language}
use Rattle.expressions.specs.Nests.{subject_of, slot_at}
use Rattle.expressions.specs.Numbers.{Numbering, handed_at}
use Rattle.expressions.specs.Walked.{Stopped, Walked, Says, SaysBy}
use Rattle.expressions.proofs.Growth.{agrees_before, below_grows, grows_same, grows_trans}
use Rattle.expressions.proofs.Loops.{next_item}
use Rattle.expressions.proofs.StructMembers.{front_of_nothing, front_twice}
use Rattle.expressions.proofs.Walking.{handed_behind, passed_of, stopped_of}
use Rattle.items.specs.declared.initialisers.filled.Filled.{Filled as FilledByNumber}
use Rattle.items.specs.declared.initialisers.filled.Filled.TheVariants as kept
use Rattle.items.specs.declared.initialisers.next.Next.{Next as NextByNumber}
use Rattle.items.specs.declared.initialisers.next.Next.TheVariants as comes
use Rattle.items.specs.initialisers.Filled.{filled_at, is_complete, IsKept, IsFilled, IsNext, next_at, outcome_of}

-- a complete struct is there, and stays as it is
complete_there : (found : Option StructDef) → is_complete found ≡ true → (definition : StructDef) × (found ≡ Some definition) × (definition.complete ≡ true)
complete_there None is = cc is
complete_there (Some definition) is = (definition, refl, is)

module _ (old new : Context) (grows : Grows old new) where
  same_struct : (of : ℕ) → is_complete (slice_get old.structs of) ≡ true → slice_get new.structs of ≡ slice_get old.structs of
  same_struct of complete =
      let there = complete_there (slice_get old.structs of) complete in
      grows.structs of there.0 there.1 there.2 ∙ sym there.1

  pub kept_later : (filled : FilledByNumber) → IsKept (length old.types) old.structs filled → IsKept (length new.types) new.structs filled
  kept_later (kept.One slot) below = below_grows old new grows slot.ctype below
  kept_later (kept.Nothing offset) below = tt
  kept_later (kept.Members offset of) complete = ap is_complete (same_struct of complete) ∙ complete
  kept_later (kept.Items offset item count bytes) below = below_grows old new grows item below

  pub same_filled : (n : Numbering) (filled : FilledByNumber) → IsKept (length old.types) old.structs filled → filled_at n new.structs filled ≡ filled_at n old.structs filled
  same_filled n (kept.One slot) below = refl
  same_filled n (kept.Nothing offset) below = refl
  same_filled n (kept.Members offset of) complete =
      ap (λ (found : Option StructDef). Members offset (option_map_or (λ definition. definition.fields) found [])) (same_struct of complete)
  same_filled n (kept.Items offset item count bytes) below = refl

module _ (abi : Abi) (subject : SubjectKept) (filled : FilledByNumber) (parts : List InitPart) where
  -- parts of which so many are walked, behind which what stands at that index follows: what is found of the rest makes what is found of all
  pub record Fills (next : ℕ) (old new : Context) (index : ℕ) : Type 0 where
    pub rows : List HandedRow
    pub handed : new.handed ≡ old.handed ++ rows
    pub grows : Grows old new
    pub kept_there : IsKept (length old.types) old.structs filled
    pub goes : (n : Numbering) → Agrees n new → (outcome : Outcome (Unit {0})) (after : Declared)
        → Finds (language abi n) (declared new) (PartsFill (subject_of subject) (filled_at n old.structs filled) next (drop index parts) outcome) after
        → Finds (language abi n) (declared old) (PartsFill (subject_of subject) (filled_at n old.structs filled) 0 parts (with_front (map (handed_at n) rows) outcome)) after

  pub fills_start : (context : Context) → IsKept (length context.types) context.structs filled → Fills 0 context context 0
  fills_start context there = record {
    rows = [];
    handed = sym (append-nil context.handed);
    grows = grows_same context;
    kept_there = there;
    goes = λ n agrees outcome after found.
        subst (λ (o : Outcome (Unit {0})). Finds (language abi n) (declared context) (PartsFill (subject_of subject) (filled_at n context.structs filled) 0 parts o) after) (sym (front_of_nothing outcome)) found;
  }

  pub kept_now : (next index : ℕ) (old new : Context) → Fills next old new index → IsKept (length new.types) new.structs filled
  kept_now next index old new fills = kept_later old new fills.grows filled fills.kept_there

  module _ (next index : ℕ) (old mid : Context) (fills : Fills next old mid index) where
    abbrev SaysAll : Numbering → Declared → Outcome (Unit {0}) → Declared → Type 0
    SaysAll = SaysBy abi (λ n o. PartsFill (subject_of subject) (filled_at n old.structs filled) 0 parts o)

    ending : (n : Numbering) (outcome : Outcome (Unit {0})) → length parts ≤ index → ended subject.place (filled_at n old.structs filled) next ≡ outcome
        → Finds (language abi n) (declared mid) (PartsFill (subject_of subject) (filled_at n old.structs filled) next (drop index parts) outcome) (declared mid)
    ending n outcome past same =
        subst (λ (these : List InitPart). Finds (language abi n) (declared mid) (PartsFill (subject_of subject) (filled_at n old.structs filled) next these outcome) (declared mid)) (sym (drop_all index parts past))
        (subst (λ (o : Outcome (Unit {0})). Finds (language abi n) (declared mid) (PartsFill (subject_of subject) (filled_at n old.structs filled) next [] o) (declared mid)) same NoMoreParts)

    -- behind the last part
    pub fills_end : (found : Found (Unit {0})) → length parts ≤ index
        → ((n : Numbering) (structs : List StructDef) → ended subject.place (filled_at n structs filled) next ≡ outcome_of found)
        → Walked SaysAll nothing old mid found
    fills_end (FoundToPass told) past is = record {
      rows = fills.rows;
      handed = fills.handed;
      grows = fills.grows;
      below = tt;
      found = λ n agrees.
          subst (λ (rows : List Handed). SaysAll n (declared old) (Passes tt rows) (declared mid)) (append-nil (map (handed_at n) fills.rows))
          (fills.goes n agrees (Passes tt []) (declared mid) (ending n (Passes tt []) past (is n old.structs)));
    }
    fills_end (FoundRefused first) past is = record {
      grows = fills.grows;
      found = λ n agrees. fills.goes n agrees (Refused first) (declared mid) (ending n (Refused first) past (is n old.structs));
    }

    module _ (part : InitPart) (within : index < length parts) (here : part ≡ get_or parts index part) where
      -- what is found of the part and of what is behind it
      with_part : (n : Numbering) (outcome : Outcome (Unit {0})) (after : Declared) → Agrees n mid
          → Finds (language abi n) (declared mid) (PartsFill (subject_of subject) (filled_at n old.structs filled) next (part ∷ drop (index + 1) parts) outcome) after
          → SaysAll n (declared old) (with_front (map (handed_at n) fills.rows) outcome) after
      with_part n outcome after agrees found = fills.goes n agrees outcome after
          (subst (λ (these : List InitPart). Finds (language abi n) (declared mid) (PartsFill (subject_of subject) (filled_at n old.structs filled) next these outcome) after) (sym (next_item parts index part within here)) found)

      -- what the part sets
      comes_next : (answer : NextByNumber) (n : Numbering) → Agrees n mid
          → IsNext mid (λ m a. next_in a mid.structs (filled_at m mid.structs filled) next (out-InitPart part).member) answer
          → next_in abi mid.structs (filled_at n old.structs filled) next (out-InitPart part).member ≡ next_at n answer
      comes_next answer n agrees is =
          ap (λ (what : Filled). next_in abi mid.structs what next (out-InitPart part).member) (sym (same_filled old mid fills.grows n filled fills.kept_there)) ∙ is.1 n abi agrees

      abbrev IsTheNext : NextByNumber → Type 0
      IsTheNext answer = IsNext mid (λ m a. next_in a mid.structs (filled_at m mid.structs filled) next (out-InitPart part).member) answer

      -- a designator that names no member
      pub fills_no_member : (place : Place) (answer : NextByNumber) → answer ≡ comes.NoMember place → IsTheNext answer → Stopped SaysAll old mid (fault place (Rule 6))
      fills_no_member place answer is told = record {
        grows = fills.grows;
        found = λ n agrees. with_part n (Refused (fault place (Rule 6))) (declared mid) agrees (NoMemberToSet refl (comes_next (comes.NoMember place) n agrees (subst IsTheNext is told)));
      }

      -- no place is left
      module _ (new : Context) (items : List InitPart) where
        abbrev SaysRest : Numbering → Declared → Outcome (Unit {0}) → Declared → Type 0
        SaysRest = Says abi (λ o. SurplusAre subject.place items o)

        full_here : (n : Numbering) (outcome : Outcome (Unit {0})) → items ≡ drop index parts → Agrees n mid → IsTheNext comes.Full
            → SaysRest n (declared mid) outcome (declared new)
            → SaysAll n (declared old) (with_front (map (handed_at n) fills.rows) outcome) (declared new)
        full_here n outcome same agrees told found = with_part n outcome (declared new) agrees (NothingToSet refl (comes_next comes.Full n agrees told)
            (subst (λ (these : List InitPart). Finds (language abi n) (declared mid) (SurplusAre subject.place these outcome) (declared new)) (same ∙ next_item parts index part within here) found))

        full_found : (found : Found (Unit {0})) → items ≡ drop index parts → IsTheNext comes.Full → Walked SaysRest nothing mid new found → Walked SaysAll nothing old new found
        full_found (FoundToPass told) same is passed = record {
          rows = fills.rows ++ passed.rows;
          handed = handed_behind old.handed mid.handed new.handed fills.rows passed.rows fills.handed passed.handed;
          grows = grows_trans old mid new fills.grows passed.grows;
          below = tt;
          found = λ n agrees.
              let before : Agrees n mid = agrees_before mid new n passed.grows agrees in
              subst (λ (rows : List Handed). SaysAll n (declared old) (Passes tt rows) (declared new)) (sym (map-append (handed_at n) fills.rows passed.rows))
              (full_here n (Passes tt (map (handed_at n) passed.rows)) same before is (passed.found n agrees));
        }
        full_found (FoundRefused first) same is stopped = record {
          grows = grows_trans old mid new fills.grows stopped.grows;
          found = λ n agrees. full_here n (Refused first) same (agrees_before mid new n stopped.grows agrees) is (stopped.found n agrees);
        }

        pub fills_full : (answer : NextByNumber) (r : Result (Found (Unit {0})) NoMemory) → items ≡ drop index parts → answer ≡ comes.Full → IsTheNext answer
            → IfOk r (λ found. Walked SaysRest nothing mid new found) → IfOk r (λ found. Walked SaysAll nothing old new found)
        fills_full answer (Ok found) same is told walked = full_found found same (subst IsTheNext is told) walked
        fills_full answer (Err error) same is told walked = tt

      -- what the part sets is set
      module _ (new : Context) (at : ℕ) (slot : SlotByNumber) (answer : NextByNumber) (found : Found (Unit {0})) (is : answer ≡ comes.Sets at slot) (told : IsTheNext answer) where
        abbrev SaysPart : Numbering → Declared → Outcome (Unit {0}) → Declared → Type 0
        SaysPart = SaysBy abi (λ n o. InitialiserIs (subject_of subject) (slot_at n slot) (out-InitPart part).init o)

        sets_here : IsTheNext (comes.Sets at slot)
        sets_here = subst IsTheNext is told

        -- something is refused in it
        pub fills_refused : (first : Fault) → found ≡ FoundRefused first → Walked SaysPart nothing mid new found → Stopped SaysAll old new first
        fills_refused first refused walked =
            let stopped = stopped_of SaysPart nothing mid new first found refused walked in
            record {
              grows = grows_trans old mid new fills.grows stopped.grows;
              found = λ n agrees.
                  let before : Agrees n mid = agrees_before mid new n stopped.grows agrees in
                  with_part n (Refused first) (declared new) before (PartRefused refl (comes_next (comes.Sets at slot) n before sets_here) (stopped.found n agrees));
            }

        -- or it passes
        pub fills_next : (unit : Unit {0}) (further : ℕ) → found ≡ FoundToPass unit → further ≡ at + 1 → Walked SaysPart nothing mid new found → Fills further old new (index + 1)
        fills_next unit further passes follows walked =
            let passed = passed_of SaysPart nothing mid new unit found passes walked in
            let position : further ≡ suc at = omega (arith, follows) in
            subst (λ (behind_it : ℕ). Fills behind_it old new (index + 1)) (sym position) (record {
              rows = fills.rows ++ passed.rows;
              handed = handed_behind old.handed mid.handed new.handed fills.rows passed.rows fills.handed passed.handed;
              grows = grows_trans old mid new fills.grows passed.grows;
              kept_there = fills.kept_there;
              goes = λ n agrees outcome after rest.
                  let before : Agrees n mid = agrees_before mid new n passed.grows agrees in
                  let whole = with_part n (with_front (map (handed_at n) passed.rows) outcome) after before (PartSets refl (comes_next (comes.Sets at slot) n before sets_here) (passed.found n agrees) rest) in
                  let twice = front_twice (map (handed_at n) fills.rows) (map (handed_at n) passed.rows) outcome in
                  let rows = ap (λ (handed : List Handed). with_front handed outcome) (sym (map-append (handed_at n) fills.rows passed.rows)) in
                  subst (λ (o : Outcome (Unit {0})). SaysAll n (declared old) o after) (twice ∙ rows) whole;
            })

module _ (abi : Abi) (subject : SubjectKept) (slot : SlotByNumber) (init : Init) (parts : List InitPart) (old new : Context) (is : out-Init init ≡ Braces parts) (braced : Option FilledByNumber) (told : IsFilled old slot braced) where
  abbrev SaysInit : Numbering → Declared → Outcome (Unit {0}) → Declared → Type 0
  SaysInit = SaysBy abi (λ n o. InitialiserIs (subject_of subject) (slot_at n slot) init o)

  filled_found : (filled : FilledByNumber) (found : Found (Unit {0})) → IsFilled old slot (Some filled)
      → Walked (SaysBy abi (λ n o. PartsFill (subject_of subject) (filled_at n old.structs filled) 0 parts o)) nothing old new found → Walked SaysInit nothing old new found
  filled_found filled (FoundToPass unit) here passed = record {
    rows = passed.rows;
    handed = passed.handed;
    grows = passed.grows;
    below = tt;
    found = λ n agrees. BracesFill is (here.1 n abi (agrees_before old new n passed.grows agrees)) (passed.found n agrees);
  }
  filled_found filled (FoundRefused first) here stopped = record {
    grows = stopped.grows;
    found = λ n agrees. BracesFill is (here.1 n abi (agrees_before old new n stopped.grows agrees)) (stopped.found n agrees);
  }

  -- braces that may stand there
  pub braces_fill : (filled : FilledByNumber) (r : Result (Found (Unit {0})) NoMemory) → braced ≡ Some filled
      → IfOk r (λ found. Walked (SaysBy abi (λ n o. PartsFill (subject_of subject) (filled_at n old.structs filled) 0 parts o)) nothing old new found)
      → IfOk r (λ found. Walked SaysInit nothing old new found)
  braces_fill filled (Ok found) there walked = filled_found filled found (subst (IsFilled old slot) there told) walked
  braces_fill filled (Err error) there walked = tt

  too_many_found : (found : Found (Unit {0})) → IsFilled old slot None → Walked (Says abi (λ o. SurplusAre subject.place parts o)) nothing old new found → Walked SaysInit nothing old new found
  too_many_found (FoundToPass unit) here passed = record {
    rows = passed.rows;
    handed = passed.handed;
    grows = passed.grows;
    below = tt;
    found = λ n agrees. BracesTooMany is (here.1 n abi (agrees_before old new n passed.grows agrees)) (passed.found n agrees);
  }
  too_many_found (FoundRefused first) here stopped = record {
    grows = stopped.grows;
    found = λ n agrees. BracesTooMany is (here.1 n abi (agrees_before old new n stopped.grows agrees)) (stopped.found n agrees);
  }

  -- and too many of them
  pub braces_too_many : (r : Result (Found (Unit {0})) NoMemory) → braced ≡ None → IfOk r (λ found. Walked (Says abi (λ o. SurplusAre subject.place parts o)) nothing old new found)
      → IfOk r (λ found. Walked SaysInit nothing old new found)
  braces_too_many (Ok found) there walked = too_many_found found (subst (IsFilled old slot) there told) walked
  braces_too_many (Err error) there walked = tt
