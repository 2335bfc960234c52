-- What is found of a struct with its members in braces: its tag, the members, and the struct behind them.
use Rattle.std.proofs.Common.{◌≡◌, ◌≤◌, ◌∙◌, ℕ, Bool, true, false, List, [], ◌++◌, map, length, refl, sym, ap, subst, arith, slice_get, Option, None, Some, Result, Ok, Err, IfOk}
use Rattle.std.specs.Prelude.{◌&&◌, not, slice_set, if◌then◌else◌}
use Rattle.std.specs.Option.{option_map_or}
use Rattle.std.proofs.lemmas.List.{length-set}
use Rattle.cbase.specs.declared.abi.Abi.{Abi}
use Rattle.cbase.specs.declared.ctype.CType.TheVariants.{Struct as StructType}
use Rattle.cbase.specs.declared.no_memory.NoMemory.{NoMemory}
use Rattle.cbase.specs.declared.structs.Field.{Field}
use Rattle.cbase.specs.declared.structs.StructDef.{StructDef}
use Rattle.cbase.specs.declared.tree.expr.ExprForm.TheOpen.{Struct}
use Rattle.cbase.specs.declared.tree.identifier.Identifier.{Identifier}
use Rattle.cbase.specs.declared.tree.spec.FieldDecl.{FieldDecl}
use Rattle.cbase.specs.Completing.{is_open, are_complete, may_complete, with_fields, completed}
use Rattle.cbase.proofs.Growing.{GrowsTo}
use Rattle.cbase.proofs.KeptStructs.{set_other}
use Rattle.typing.specs.declared.ctypes.structs.Member.{Member}
use Rattle.typing.specs.ctypes.Structs.{fields_of}
use Rattle.typing.specs.declared.fault.Fault.{Fault}
use Rattle.typing.specs.Braces.{Opens, struct_opening}
use Rattle.typing.specs.NamedTypes.{NamedType, whole}
use Rattle.typing.specs.Outcomes.{Outcome, Passes, Refused}
use Rattle.typing.specs.Typing.{WordsAre, MembersAre, Finds, StructWithMembers, MembersRefused, StructTwice}
use Rattle.expressions.specs.declared.found.Found.{Found}
use Rattle.expressions.specs.declared.found.Found.TheVariants.{Passes as FoundToPass, Refused as FoundRefused}
use Rattle.expressions.specs.declared.handed_row.HandedRow.{HandedRow}
use Rattle.expressions.specs.declared.named_type.NamedType.{NamedType as NamedByNumber}
use Rattle.expressions.specs.Context.{Context, Declared, declared, Agrees, Grows}
use Rattle.expressions.specs.Declaring.{IsClosed}
use Rattle.expressions.specs.Found.{a_type, some_members}
use Rattle.expressions.specs.Numbers.{Numbering, named_at, handed_at, fields_at}
use Rattle.expressions.specs.Opened.{StructOpens, IsStructOpened}
use Rattle.expressions.specs.Language.{language, struct_completed}
use Rattle.expressions.specs.Walked.{Stopped, Walked, Says, SaysBy}
use Rattle.expressions.proofs.Growth.{agrees_before, grows_same, grows_trans, only_types_grows}
use Rattle.expressions.proofs.MembersSoFar.{fields_at_are}
use Rattle.expressions.proofs.TypeWords.{declared_by_types, grows_to}
use Rattle.expressions.proofs.Walking.{passed_of, stopped_of}

-- a struct that is completed is another one than those that are complete
module _ (structs : List StructDef) (number : ℕ) (fields : List Field) where
  set_keeps : (definition : StructDef) → slice_get structs number ≡ Some definition → definition.complete ≡ false → GrowsTo structs (slice_set structs number (with_fields fields definition))
  set_keeps definition found unfilled at s is complete = set_other structs number at (with_fields fields definition) s
      (λ same.
      let first : Some definition ≡ Some s = sym found ∙ (ap (slice_get structs) same ∙ is) in
      let one : definition ≡ s = cc first in
      absurd (cc (sym unfilled ∙ (ap (λ (d : StructDef). d.complete) one ∙ complete))))
      is

  not_true : (complete : Bool) → not complete ≡ true → complete ≡ false
  not_true true is = absurd (cc is)
  not_true false is = refl

  completed_keep : (found : Option StructDef) → slice_get structs number ≡ found → is_open found ≡ true → GrowsTo structs (option_map_or (λ definition. slice_set structs number (with_fields fields definition)) found structs)
  completed_keep None is unfilled = absurd (cc unfilled)
  completed_keep (Some definition) is unfilled = set_keeps definition is (not_true definition.complete unfilled)

  first_of : (first second : Bool) → (first && second) ≡ true → first ≡ true
  first_of true second is = refl
  first_of false second is = is

  if_keeps : (done : Bool) → may_complete structs number fields ≡ done → GrowsTo structs (if done then completed structs number fields else structs)
  if_keeps true may = completed_keep (slice_get structs number) refl (first_of (is_open (slice_get structs number)) (are_complete structs fields) may)
  if_keeps false may = λ at s is complete. is

  set_longer : (found : Option StructDef) → length structs ≤ length (option_map_or (λ definition. slice_set structs number (with_fields fields definition)) found structs)
  set_longer None = omega arith
  set_longer (Some definition) = omega (arith, length-set structs number (with_fields fields definition))

  if_longer : (done : Bool) → length structs ≤ length (if done then completed structs number fields else structs)
  if_longer true = set_longer (slice_get structs number)
  if_longer false = omega arith

  pub completed_longer : length structs ≤ length (if may_complete structs number fields then completed structs number fields else structs)
  completed_longer = if_longer (may_complete structs number fields)

  pub completed_keeps : GrowsTo structs (if may_complete structs number fields then completed structs number fields else structs)
  completed_keeps = if_keeps (may_complete structs number fields) refl

module _ (abi : Abi) (name : Option Identifier) (fields : List FieldDecl) where
  -- what is said of a struct with its braces
  abbrev pub SaysStruct : Numbering → Declared → Outcome NamedType → Declared → Type 0
  SaysStruct = Says abi (λ o. WordsAre (Struct name (Some fields)) o)

  -- its tag is refused
  pub tag_refused : (old new : Context) (first : Fault) (found : Found ℕ) → found ≡ FoundRefused first → IsStructOpened abi name old new found → Stopped SaysStruct old new first
  tag_refused old new first found is opened =
      let twice : IsStructOpened abi name old new (FoundRefused first) = subst (λ (f : Found ℕ). IsStructOpened abi name old new f) is opened in
      subst (λ (context : Context). Stopped SaysStruct old context first) (sym twice.1) (record {
        grows = grows_same old;
        found = λ n agrees. StructTwice (twice.0 n);
      })

  module _ (old inside late : Context) (number : ℕ) (tag : Found ℕ) (opening : tag ≡ FoundToPass number) (opened : IsStructOpened abi name old inside tag)
      (before after : List Member) (items : List FieldDecl) (none : before ≡ []) (same : items ≡ fields) (walk : Found (Unit {0}))
      (walked : Walked (SaysBy abi (λ n o. MembersAre (fields_at n before) items o)) (some_members after) inside late walk) where
    opens : StructOpens abi name old inside number
    opens = subst (λ (f : Found ℕ). IsStructOpened abi name old inside f) opening opened

    opens_to : (n : Numbering) → struct_opening (language abi n) name (declared old) ≡ Opens (number, declared inside)
    opens_to n = opens.opens n

    opens_grow : Grows old inside
    opens_grow = grows_to old inside opens.types opens.keeps opens.signatures

    in_braces : (n : Numbering) (outcome : Outcome (List Field)) → Finds (language abi n) (declared inside) (MembersAre (fields_at n before) items outcome) (declared late)
        → Finds (language abi n) (declared inside) (MembersAre [] fields outcome) (declared late)
    in_braces n outcome found =
        subst (λ (these : List FieldDecl). Finds (language abi n) (declared inside) (MembersAre [] these outcome) (declared late)) same
        (subst (λ (so_far : List Member). Finds (language abi n) (declared inside) (MembersAre (fields_at n so_far) items outcome) (declared late)) none found)

    -- a member is refused
    members_refused : (first : Fault) → walk ≡ FoundRefused first → Stopped SaysStruct old late first
    members_refused first is =
        let stopped = stopped_of (SaysBy abi (λ n o. MembersAre (fields_at n before) items o)) (some_members after) inside late first walk is walked in
        record {
          grows = grows_trans old inside late opens_grow stopped.grows;
          found = λ n agrees. MembersRefused (opens_to n) (in_braces n (Refused first) (stopped.found n agrees));
        }

    -- behind its members the struct is complete
    closes : (told : Unit {0}) (new : Context) (found : Found NamedByNumber) → walk ≡ FoundToPass told → IsClosed number after late new found → Walked SaysStruct a_type old new found
    closes told new (FoundToPass named) is closed =
        let passed = passed_of (SaysBy abi (λ n o. MembersAre (fields_at n before) items o)) (some_members after) inside late told walk is walked in
        let only = closed.numbers.only_types in
        let completes : Grows late closed.middle = record {
          types = λ at t found. rw closed.types found;
          structs = λ at s found complete. rw (ap (λ (d : Declared). d.structs) closed.declared) (completed_keeps late.structs number (fields_of late.types after) at s found complete);
          longer = rw (ap (λ (d : Declared). d.structs) closed.declared) (completed_longer late.structs number (fields_of late.types after));
          signatures = λ at s found. rw (ap (λ (d : Declared). d.environment.signatures) closed.declared) found;
        } in
        let later : Grows late new = grows_trans late closed.middle new completes (only_types_grows closed.middle new only) in
        record {
          rows = passed.rows;
          handed = only.handed ∙ (closed.handed ∙ (passed.handed ∙ ap (λ (all : List HandedRow). all ++ passed.rows) opens.handed));
          grows = grows_trans old inside new opens_grow (grows_trans inside late new passed.grows later);
          below = closed.numbers.below;
          found = λ n agrees.
              let there : Agrees n late = agrees_before late new n later agrees in
              let finds = StructWithMembers (opens_to n) (in_braces n (Passes (fields_at n after) (map (handed_at n) passed.rows)) (passed.found n there)) in
              let fields_same : fields_at n after ≡ fields_of late.types after = fields_at_are n late after there passed.below in
              let ends : struct_completed number (fields_at n after) (declared late) ≡ declared new =
              ap (λ (these : List Field). struct_completed number these (declared late)) fields_same ∙ (sym closed.declared ∙ declared_by_types closed.middle new only) in
              let means : whole (StructType number) ≡ named_at n named =
              λ i. record { ctype = sym (closed.numbers.meant n agrees) i; found = sym closed.found i } in
              subst (λ (t : NamedType). SaysStruct n (declared old) (Passes t (map (handed_at n) passed.rows)) (declared new)) means
              (subst (λ (end : Declared). SaysStruct n (declared old) (Passes (whole (StructType number)) (map (handed_at n) passed.rows)) end) ends finds);
        }
    closes told new (FoundRefused first) is closed = absurd closed

    struct_closes : (told : Unit {0}) (new : Context) (members : List Member) (r : Result (Found NamedByNumber) NoMemory) → walk ≡ FoundToPass told → members ≡ after
        → IfOk r (λ found. IsClosed number members late new found) → IfOk r (λ found. Walked SaysStruct a_type old new found)
    struct_closes told new members (Ok found) is all closed = closes told new found is (subst (λ (these : List Member). IsClosed number these late new found) all closed)
    struct_closes told new members (Err error) is all closed = tt

  -- what is found of the members, where memory is there, is found of the struct
  pub struct_ends : (old inside late new : Context) (number : ℕ) (tag : Found ℕ) → tag ≡ FoundToPass number → IsStructOpened abi name old inside tag
      → (before after members : List Member) (items : List FieldDecl) → before ≡ [] → items ≡ fields → members ≡ after → (walk : Result (Found (Unit {0})) NoMemory)
      → IfOk walk (λ found. Walked (SaysBy abi (λ n o. MembersAre (fields_at n before) items o)) (some_members after) inside late found) → (r : Result (Found NamedByNumber) NoMemory)
      → (walk ≡ Ok (FoundToPass tt) → IfOk r (λ found. IsClosed number members late new found))
      → ((first : Fault) → walk ≡ Ok (FoundRefused first) → IfOk r (λ found. (found ≡ FoundRefused first) × (new ≡ late)))
      → ((error : NoMemory) → walk ≡ Err error → IfOk r (λ found. ⊥))
      → IfOk r (λ found. Walked SaysStruct a_type old new found)
  struct_ends old inside late new number tag opening opened before after members items none same all (Ok (FoundToPass told)) walked r passes refused err =
      struct_closes old inside late number tag opening opened before after items none same (FoundToPass told) walked told new members r refl all (passes refl)
  struct_ends old inside late new number tag opening opened before after members items none same all (Ok (FoundRefused first)) walked (Ok found) passes refused err =
      subst (λ (answer : Found NamedByNumber). Walked SaysStruct a_type old new answer) (sym (refused first refl).0)
      (subst (λ (context : Context). Stopped SaysStruct old context first) (sym (refused first refl).1) (members_refused old inside late number tag opening opened before after items none same (FoundRefused first) walked first refl))
  struct_ends old inside late new number tag opening opened before after members items none same all (Ok (FoundRefused first)) walked (Err error) passes refused err = tt
  struct_ends old inside late new number tag opening opened before after members items none same all (Err error) walked (Ok found) passes refused err = absurd (err error refl)
  struct_ends old inside late new number tag opening opened before after members items none same all (Err error) walked (Err other) passes refused err = tt
