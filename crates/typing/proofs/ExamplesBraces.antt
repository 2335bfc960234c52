-- Braces of the examples.
use Rattle.std.proofs.Common.{◌≡◌, ℕ, Bool, true, false, List, [], ◌∷◌, ◌++◌, Option, Some, None, refl, ap, ◌∙◌, arith}
use Rattle.std.specs.Prelude.{is_some, codes, length, option_map}
use Rattle.cbase.specs.declared.abi.Abi.TheVariants.{Lp64}
use Rattle.cbase.specs.declared.ctype.CType.{CType}
use Rattle.cbase.specs.declared.ctype.CType.TheVariants.{Void as VoidType, Int as IntType, Pointer as PointerType, Struct as StructType, Array as ArrayType}
use Rattle.cbase.specs.declared.layout.Layout.{Layout}
use Rattle.cbase.specs.declared.structs.Field.{Field}
use Rattle.cbase.specs.declared.structs.StructDef.{StructDef}
use Rattle.cbase.specs.declared.tree.expr.ExprForm.TheViews.{outs-Name, outs-SizeOfType, outs-Binary, outs-Basic, outs-Named, outs-Struct, outs-Enum, out-TypeSpec, out-roll-TypeName, roll-FieldDecl, roll-FieldName, out-roll-FieldDecl, out-roll-FieldName, out-roll-Enumerator}
use Rattle.cbase.specs.declared.tree.expr.ExprForm.TheVariants.{SizeOfType}
use Rattle.cbase.specs.declared.tree.operators.BinaryOp.TheVariants.{Add}
use Rattle.cbase.specs.declared.tree.spec.BasicType.TheVariants.{Void, Integer}
use Rattle.cbase.specs.declared.tree.spec.Rank.TheVariants.{Char, Int}
use Rattle.cbase.specs.declared.tree.spec.FieldDecl.{FieldDecl}
use Rattle.cbase.specs.declared.tree.spec.FieldName.{FieldName}
use Rattle.cbase.specs.declared.tree.spec.TypeSpec.{TypeSpec}
use Rattle.cbase.specs.declared.tree.spec.TypeSpec.TheVariants.{Basic}
use Rattle.cbase.specs.Layout.{layout_of, struct_at, extent_of, fields_layout, no_fields, scalar, repeated}
use Rattle.cbase.proofs.Types.{type_layout-Void, type_layout-Int, type_layout-Pointer, type_layout-Array, type_layout-Struct}
use Rattle.typing.specs.constants.Deciding.{letter, integer, meaning_of}
use Rattle.typing.specs.declared.constants.meaning.Meaning.TheVariants.{Known as Meant}
use Rattle.typing.specs.declared.ctypes.found.Broken.{Broken}
use Rattle.typing.specs.declared.ctypes.found.Broken.TheVariants.{Construct, Rule}
use Rattle.typing.specs.ctypes.Binary.{int_type}
use Rattle.typing.specs.ctypes.Integers.{integer as integer_of}
use Rattle.typing.specs.ctypes.Kinds.{Integer as IntegerKind, kind_of}
use Rattle.typing.proofs.ctypes.ShapeKinds.{are_kinds}
use Rattle.typing.specs.declared.fault.Fault.{Fault}
use Rattle.typing.specs.declared.size.Size.{Size}
use Rattle.typing.specs.declared.size.Size.TheVariants.{Counted, NotConstant, LeftOut}
use Rattle.typing.specs.Braces.{member, member_type, member_faults, faults_of_member, has_member}
use Rattle.typing.specs.Examples.{AreBraces}
use Rattle.typing.specs.Faults.{fault}
use Rattle.typing.specs.Forms.{Words, MemberParts}
use Rattle.typing.specs.Known.{behind}
use Rattle.typing.specs.NamedTypes.{NamedType, is_over, declared_type, declared, whole, no_type}
use Rattle.typing.specs.Outcomes.{Outcome, Handed, Passes, Refused, IsSettled}
use Rattle.typing.specs.Rules.{UndeclaredName, ObjectName, EnumeratorName, SizeOfTypeName, AdditionOperator}
use Rattle.typing.specs.Sample.{sample, start, Declarations, token, node, type_name, declaration, field, enumerator, opened, IsRefused, char_type}
use Rattle.typing.specs.Typing.{Finds, EnumeratorsAre, WordsAre, MembersAre, DeclarationIs, MemberIs, MemberSizesAre, WidthIs, RefusedInside, Walked, NoPieces, MorePieces, RefusedHere, LoadedValue, LoadedRefused, TypeInside, TypeNamed, TypeRefused, WordsRefused, BasicSpecifier, TypedefSpecifier, StructSpecifier, NoSizes, SizeOfItems, SizeUnderOne, SizeRefused, StructWithMembers, MembersRefused, StructTwice, EnumWithConstants, EnumTwice, NoDeclarations, MoreDeclarations, DeclarationRefused, MembersDeclared, NoNames, MoreNames, NameRefused, MemberFound, MemberSizesRefused, MemberWidthRefused, NoMemberSizes, MoreMemberSizes, MemberSizeRefusedHere, MemberSizeLeftOut, MemberSizeGiven, MemberSizeRefused, NoWidth, WidthGiven, NoEnumerators, EnumeratorTwice, EnumeratorRefused, EnumeratorTwiceInside, MoreEnumerators, NextValue, NoNextValue, GivenValue, GivenNoInt}
use Rattle.typing.proofs.SampleFacts.{k_int, k_unsigned, k_size, seen, operand_by, alone, int_of, unsigned_of, vn, vread, read_in, one, both, laid_4, m_0, m_3, m_70000}

-- layouts, whatever is declared
int_laid : (among : List StructDef) → layout_of Lp64 among int_type ≡ Some (scalar 4)
int_laid among = type_layout-Int Lp64 (struct_at Lp64 (length among) among) 4 true

char_laid : (among : List StructDef) → layout_of Lp64 among char_type ≡ Some (scalar 1)
char_laid among = type_layout-Int Lp64 (struct_at Lp64 (length among) among) 1 true

pointer_laid : (among : List StructDef) (item : CType) → layout_of Lp64 among (PointerType item) ≡ Some (scalar 8)
pointer_laid among item = type_layout-Pointer Lp64 (struct_at Lp64 (length among) among) item

void_laid : (among : List StructDef) → layout_of Lp64 among VoidType ≡ None
void_laid among = type_layout-Void Lp64 (struct_at Lp64 (length among) among)

chars_laid : (among : List StructDef) (count : ℕ) → layout_of Lp64 among (ArrayType char_type count) ≡ Some (repeated count (scalar 1))
chars_laid among count = type_layout-Array Lp64 (struct_at Lp64 (length among) among) char_type count ∙ ap (option_map (repeated count)) (char_laid among)

-- a member behind no others, and behind one
first_faults : (among : List StructDef) (parts : MemberParts) (named : NamedType) (layout : Option Layout) → layout_of Lp64 among named.ctype ≡ layout
    → faults_of_member Lp64 among [] parts named
    ≡ member_faults parts.place named.found (is_some parts.bits) (is_over (fields_layout no_fields (layout ∷ []))) (has_member parts.name []) (is_some layout)
first_faults among parts named layout laid =
    ap (λ (o : Option Layout). member_faults parts.place named.found (is_some parts.bits) (is_over (fields_layout no_fields (o ∷ []))) (has_member parts.name []) (is_some o)) laid

second_faults : (among : List StructDef) (before : Field) (parts : MemberParts) (named : NamedType) (front layout : Option Layout)
    → layout_of Lp64 among before.ctype ≡ front → layout_of Lp64 among named.ctype ≡ layout
    → faults_of_member Lp64 among (before ∷ []) parts named
    ≡ member_faults parts.place named.found (is_some parts.bits) (is_over (fields_layout no_fields (front ∷ layout ∷ []))) (has_member parts.name (before ∷ [])) (is_some layout)
second_faults among before parts named front layout laid behind =
    both (λ (o p : Option Layout). member_faults parts.place named.found (is_some parts.bits) (is_over (fields_layout no_fields (o ∷ p ∷ []))) (has_member parts.name (before ∷ [])) (is_some p)) _ _ _ _ laid behind

typed : (among : List StructDef) (base : NamedType) (parts : MemberParts) (counts : List Size) (layout : Option Layout) → layout_of Lp64 among (declared_type base parts.stars counts) ≡ layout
    → member_type Lp64 among base parts counts ≡ declared base parts.stars counts (is_over layout)
typed among base parts counts layout laid = ap (λ (o : Option Layout). declared base parts.stars counts (is_over o)) laid

first_member : {before middle after : Declarations} (base : NamedType) (parts : MemberParts) (counts : List Size) (layout : Option Layout) {handed further : List Handed} {outcome : Outcome (List Field)}
    → Finds sample before (MemberSizesAre parts.sizes (Passes counts handed)) middle → Finds sample middle (WidthIs parts.bits (Passes tt further)) after
    → layout_of Lp64 after.structs (declared_type base parts.stars counts) ≡ layout
    → IsSettled (member_faults parts.place (declared base parts.stars counts (is_over layout)).found (is_some parts.bits) (is_over (fields_layout no_fields (layout ∷ []))) (has_member parts.name []) (is_some layout))
    (member parts.name (declared_type base parts.stars counts) ∷ []) (handed ++ further) outcome
    → Finds sample before (MemberIs base [] (roll-FieldName parts) outcome) after
first_member {after = after} base parts counts layout sizes width laid settled =
    MemberFound {named = declared base parts.stars counts (is_over layout)} (out-roll-FieldName parts) sizes width (typed after.structs base parts counts layout laid)
    (first_faults after.structs parts (declared base parts.stars counts (is_over layout)) layout laid) settled

second_member : {env : Declarations} (before : Field) (base : NamedType) (parts : MemberParts) (front layout : Option Layout) {outcome : Outcome (List Field)}
    → Finds sample env (MemberSizesAre parts.sizes (Passes [] [])) env → Finds sample env (WidthIs parts.bits (Passes tt [])) env
    → layout_of Lp64 env.structs before.ctype ≡ front → layout_of Lp64 env.structs (declared_type base parts.stars []) ≡ layout
    → IsSettled (member_faults parts.place (declared base parts.stars [] (is_over layout)).found (is_some parts.bits) (is_over (fields_layout no_fields (front ∷ layout ∷ []))) (has_member parts.name (before ∷ [])) (is_some layout))
    (before ∷ member parts.name (declared_type base parts.stars []) ∷ []) [] outcome
    → Finds sample env (MemberIs base (before ∷ []) (roll-FieldName parts) outcome) env
second_member {env} before base parts front layout sizes width laid behind settled =
    MemberFound {named = declared base parts.stars [] (is_over layout)} (out-roll-FieldName parts) sizes width (typed env.structs base parts [] layout behind)
    (second_faults env.structs before parts (declared base parts.stars [] (is_over layout)) front layout laid behind) settled

-- declarations of one name
declares : {before middle after : Declarations} (spec : TypeSpec) {words : Words} {base : NamedType} {members more : List Field} {name : FieldName} {handed further : List Handed}
    → out-TypeSpec spec ≡ words → Finds sample before (WordsAre words (Passes base handed)) middle → Finds sample middle (MemberIs base members name (Passes more further)) after
    → Finds sample before (DeclarationIs members (roll-FieldDecl (record { spec = spec; names = name ∷ [] })) (Passes more (handed ++ (further ++ [])))) after
declares spec {more = more} {further = further} e words found = MembersDeclared {outcome = Passes more (further ++ [])} (out-roll-FieldDecl _) e words (MoreNames {outcome = Passes more []} found NoNames)

refuses : {before middle after : Declarations} (spec : TypeSpec) {words : Words} {base : NamedType} {members : List Field} {name : FieldName} {handed : List Handed} {first : Fault}
    → out-TypeSpec spec ≡ words → Finds sample before (WordsAre words (Passes base handed)) middle → Finds sample middle (MemberIs base members name (Refused first)) after
    → Finds sample before (DeclarationIs members (roll-FieldDecl (record { spec = spec; names = name ∷ [] })) (Refused first)) after
refuses spec {first = first} e words found = MembersDeclared {outcome = Refused first} (out-roll-FieldDecl _) e words (NameRefused found)

-- `sizeof` of words that are refused
is_refused : {words : Words} {after : Declarations} {at : ℕ} {broken : Broken} (number : ℕ) (spec : TypeSpec)
    → out-TypeSpec spec ≡ words → Finds sample start (WordsAre words (Refused (fault (token at) broken))) after
    → IsRefused (node number 0 (SizeOfType (type_name spec 0 []))) at broken
is_refused {after = after} number spec e words = (after, RefusedInside (outs-SizeOfType _) (RefusedHere (TypeRefused (WordsRefused (out-roll-TypeName _) e words))))

-- what spellings mean
m_4294967295u : meaning_of Lp64 (codes "4294967295u") ≡ Meant (unsigned_of 4294967295)
unfolding letter integer
m_4294967295u = refl

m_2147483647 : meaning_of Lp64 (codes "2147483647") ≡ Meant (int_of 2147483647)
unfolding letter integer
m_2147483647 = refl

-- constants, objects and names in any environment of the examples
seen_in : (among : List StructDef) (bytes : ℕ) (signed lvalue null : Bool)
    → operand_by (IntType bytes signed) lvalue null (kind_of among (IntType bytes signed)) ≡ operand_by (IntType bytes signed) lvalue null (IntegerKind (integer_of bytes signed))
seen_in among bytes signed lvalue null = ap (operand_by (IntType bytes signed) lvalue null) ((are_kinds among).int bytes signed)

-- more declarations
more_declared : {before middle after : Declarations} {members more last : List Field} {declared : FieldDecl} {others : List FieldDecl} {handed further : List Handed}
    → Finds sample before (DeclarationIs members declared (Passes more handed)) middle → Finds sample middle (MembersAre more others (Passes last further)) after
    → Finds sample before (MembersAre members (declared ∷ others) (Passes last (handed ++ further))) after
more_declared {last = last} {further = further} first rest = MoreDeclarations {outcome = Passes last further} first rest

-- an int and a char behind it
int_member : {env : Declarations} (bytes : List ℕ) (at : ℕ) → Finds sample env (MemberIs (whole int_type) [] (field bytes at 0 []) (Passes (record { name = bytes; ctype = int_type } ∷ []) [])) env
int_member {env} bytes at = first_member (whole int_type) _ [] (Some (scalar 4)) NoMemberSizes NoWidth (int_laid env.structs) (refl, refl, refl)

an_int : {env : Declarations} (bytes : List ℕ) (at : ℕ) → Finds sample env (DeclarationIs [] (declaration (Basic (Integer Int true)) (field bytes at 0 [] ∷ [])) (Passes (record { name = bytes; ctype = int_type } ∷ []) [])) env
an_int bytes at = declares _ (outs-Basic (Integer Int true)) BasicSpecifier (int_member bytes at)

-- the structs behind the braces
abbrev behind_braces : ℕ → Option (List ℕ) → List Field → List StructDef
behind_braces number tag members = (sample.struct_completed number members (opened tag start)).structs

abbrev a_int : Field
a_int = record { name = codes "a"; ctype = int_type }

abbrev b_char : Field
b_char = record { name = codes "b"; ctype = char_type }

abbrev a_pointer : Field
a_pointer = record { name = codes "a"; ctype = PointerType (StructType 3) }

pair_laid : layout_of Lp64 (behind_braces 3 None (a_int ∷ b_char ∷ [])) (StructType 3) ≡ Some (record { size = 8; alignment = 4 })
pair_laid =
    let among : List StructDef = behind_braces 3 None (a_int ∷ b_char ∷ []) in
    type_layout-Struct Lp64 (struct_at Lp64 4 among) 3
    ∙ both (λ (a b : Option Layout). fields_layout no_fields (a ∷ b ∷ [])) _ _ _ _ (type_layout-Int Lp64 (struct_at Lp64 3 among) 4 true) (type_layout-Int Lp64 (struct_at Lp64 3 among) 1 true)

t_laid : layout_of Lp64 (sample.struct_completed 1 (a_int ∷ []) start).structs (StructType 1) ≡ Some (record { size = 4; alignment = 4 })
t_laid =
    let among : List StructDef = (sample.struct_completed 1 (a_int ∷ []) start).structs in
    type_layout-Struct Lp64 (struct_at Lp64 3 among) 1 ∙ ap (λ (a : Option Layout). fields_layout no_fields (a ∷ [])) (type_layout-Int Lp64 (struct_at Lp64 2 among) 4 true)

w_laid : layout_of Lp64 (behind_braces 3 (Some (codes "w")) (a_pointer ∷ [])) (StructType 3) ≡ Some (record { size = 8; alignment = 8 })
w_laid =
    let among : List StructDef = behind_braces 3 (Some (codes "w")) (a_pointer ∷ []) in
    type_layout-Struct Lp64 (struct_at Lp64 4 among) 3 ∙ ap (λ (a : Option Layout). fields_layout no_fields (a ∷ [])) (type_layout-Pointer Lp64 (struct_at Lp64 3 among) (StructType 3))

open_laid : layout_of Lp64 (opened (Some (codes "w")) start).structs (StructType 3) ≡ None
open_laid = type_layout-Struct Lp64 (struct_at Lp64 4 (opened (Some (codes "w")) start).structs) 3

-- one constant of an enum, and no more
next_constant : (bytes : List ℕ) (at bits : ℕ) (env : Declarations) → sample.is_declared_here bytes env ≡ false
    → Finds sample env (EnumeratorsAre (Some bits) (enumerator bytes at None ∷ []) (Passes (whole int_type) [])) (sample.constant_declared bytes bits env)
next_constant bytes at bits env here = MoreEnumerators {outcome = Passes (whole int_type) []} (out-roll-Enumerator _) here NextValue here NoEnumerators

abbrev unnamed : Declarations
unnamed = opened None start

-- the structs inside the braces of a struct without a tag, and inside those of `w`
abbrev in_unnamed : List StructDef
in_unnamed = unnamed.structs

abbrev in_w : List StructDef
in_w = (opened (Some (codes "w")) start).structs

pub are_braces : AreBraces
are_braces = record {
  members = (_, _, _, Walked (outs-SizeOfType _) (one (TypeInside (TypeNamed (out-roll-TypeName _) (outs-Struct _ _) (StructWithMembers refl (more_declared (an_int (codes "a") 5) (more_declared (declares _ (outs-Basic (Integer Char true)) BasicSpecifier (second_member a_int (whole char_type) _ (Some (scalar 4)) (Some (scalar 1)) NoMemberSizes NoWidth (int_laid in_unnamed) (char_laid in_unnamed) (refl, refl, refl))) NoDeclarations))) NoSizes (ap is_over pair_laid)))) (SizeOfTypeName (ap extent_of pair_laid) (refl, refl, refl)), refl, refl);
  completed = (_, _, _, Walked (outs-SizeOfType _) (one (TypeInside (TypeNamed (out-roll-TypeName _) (outs-Struct _ _) (StructWithMembers refl (more_declared (an_int (codes "a") 6) NoDeclarations)) NoSizes (ap is_over t_laid)))) (SizeOfTypeName (ap extent_of t_laid) (refl, refl, refl)), refl, refl);
  to_itself = (_, _, _, Walked (outs-SizeOfType _) (one (TypeInside (TypeNamed (out-roll-TypeName _) (outs-Struct _ _) (StructWithMembers refl (more_declared (declares _ (outs-Struct _ _) (StructSpecifier refl) (first_member (whole (StructType 3)) _ [] (Some (scalar 8)) NoMemberSizes NoWidth (pointer_laid in_w (StructType 3)) (refl, refl, refl))) NoDeclarations)) NoSizes (ap is_over w_laid)))) (SizeOfTypeName (ap extent_of w_laid) (refl, refl, refl)), refl, refl);
  twice = is_refused 0 _ (outs-Struct _ _) (StructTwice refl);
  enum_is_struct = is_refused 1 _ (outs-Enum _ _) (EnumTwice refl);
  inside_itself = is_refused 1 _ (outs-Struct _ _) (MembersRefused refl (DeclarationRefused (refuses _ (outs-Basic (Integer Char true)) BasicSpecifier (MemberSizesRefused (out-roll-FieldName _)
      (MemberSizeRefusedHere (MemberSizeRefused (SizeRefused (LoadedRefused (RefusedInside (outs-SizeOfType _) (RefusedHere (TypeRefused (WordsRefused (out-roll-TypeName _) (outs-Struct _ _) (StructTwice refl)))))))))))));
  same_name = is_refused 0 _ (outs-Struct _ _) (MembersRefused refl (MoreDeclarations {outcome = Refused (fault (token 8) (Rule 2))} (an_int (codes "a") 5) (DeclarationRefused (refuses _ (outs-Basic (Integer Char true)) BasicSpecifier (second_member a_int (whole char_type) _ (Some (scalar 4)) (Some (scalar 1)) NoMemberSizes NoWidth (int_laid in_unnamed) (char_laid in_unnamed) (alone _))))));
  of_void = is_refused 0 _ (outs-Struct _ _) (MembersRefused refl (DeclarationRefused (refuses _ (outs-Basic Void) BasicSpecifier (first_member (whole VoidType) _ [] None NoMemberSizes NoWidth (void_laid in_unnamed) (alone _)))));
  of_itself = is_refused 0 _ (outs-Struct _ _) (MembersRefused refl (DeclarationRefused (refuses _ (outs-Struct _ _) (StructSpecifier refl) (first_member (whole (StructType 3)) _ [] None NoMemberSizes NoWidth open_laid (alone _)))));
  of_undeclared = is_refused 0 _ (outs-Struct _ _) (MembersRefused refl (DeclarationRefused (refuses _ (outs-Named _) TypedefSpecifier (first_member no_type _ [] None NoMemberSizes NoWidth (void_laid in_unnamed) (record { front = []; back = fault (token 5) (Rule 3) ∷ []; whole = refl; later = tt; behind = (omega arith, tt) })))));
  of_bits = is_refused 1 _ (outs-Struct _ _) (MembersRefused refl (DeclarationRefused (refuses _ (outs-Basic (Integer Int true)) BasicSpecifier (first_member (whole int_type) _ [] (Some (scalar 4)) NoMemberSizes (WidthGiven {found = Passes _ _} (read_in unnamed (codes "3") (int_of 3) 0 7 m_3)) (int_laid in_unnamed) (alone _)))));
  width_first = is_refused 1 _ (outs-Struct _ _) (MembersRefused refl (DeclarationRefused (refuses _ (outs-Basic (Integer Int true)) BasicSpecifier (MemberWidthRefused (out-roll-FieldName _) NoMemberSizes (WidthGiven {found = Refused _} (LoadedRefused (Walked (outs-Name (codes "y")) NoPieces (UndeclaredName refl))))))));
  variable = is_refused 1 _ (outs-Struct _ _) (MembersRefused refl (DeclarationRefused (refuses _ (outs-Basic (Integer Char true)) BasicSpecifier (MemberSizesRefused (out-roll-FieldName _) (MemberSizeRefusedHere (MemberSizeGiven {size = NotConstant} (SizeOfItems (LoadedValue (Walked (outs-Name (codes "n")) NoPieces (ObjectName refl (ap is_some (int_laid in_unnamed)) (refl, refl, refl))) (ap is_some (int_laid in_unnamed))) (seen_in in_unnamed 4 true true false) refl)))))));
  empty = is_refused 1 _ (outs-Struct _ _) (MembersRefused refl (DeclarationRefused (refuses _ (outs-Basic (Integer Char true)) BasicSpecifier (MemberSizesRefused (out-roll-FieldName _) (MemberSizeRefusedHere (MemberSizeRefused (SizeUnderOne (read_in unnamed (codes "0") (int_of 0) 0 7 m_0) (seen_in in_unnamed 4 true false true) refl)))))));
  size_left_out = is_refused 0 _ (outs-Struct _ _) (MembersRefused refl (DeclarationRefused (refuses _ (outs-Basic (Integer Char true)) BasicSpecifier (first_member (whole char_type) _ (LeftOut ∷ []) (Some (repeated 1 (scalar 1))) (MoreMemberSizes MemberSizeLeftOut NoMemberSizes) NoWidth (chars_laid in_unnamed 1) (alone _)))));
  large = is_refused 1 _ (outs-Struct _ _) (MembersRefused refl (DeclarationRefused (refuses _ (outs-Basic (Integer Char true)) BasicSpecifier (first_member (whole char_type) _ (Counted 70000 ∷ []) (Some (repeated 70000 (scalar 1))) (MoreMemberSizes (MemberSizeGiven {size = Counted 70000} (SizeOfItems (read_in unnamed (codes "70000") (int_of 70000) 0 7 m_70000) (seen_in in_unnamed 4 true false false) refl)) NoMemberSizes) NoWidth (chars_laid in_unnamed 70000) (record { front = []; back = fault (token 5) (Construct 19) ∷ []; whole = refl; later = tt; behind = (omega arith, tt) })))));
  constants = (_, _, _, Walked (outs-SizeOfType _) (one (TypeInside (TypeNamed (out-roll-TypeName _) (outs-Enum _ _) (EnumWithConstants refl (MoreEnumerators {outcome = Passes (whole int_type) []} (out-roll-Enumerator _) refl NextValue refl (next_constant (codes "b") 6 1 _ refl))) NoSizes (ap is_over (laid_4 true))))) (SizeOfTypeName (ap extent_of (laid_4 true)) (refl, refl, refl)), refl, refl);
  counted = (_, _, _, Walked (outs-Binary Add _ _) (MorePieces (LoadedValue (Walked (outs-SizeOfType _) (one (TypeInside (TypeNamed (out-roll-TypeName _) (outs-Enum _ _) (EnumWithConstants refl (MoreEnumerators {outcome = Passes (whole int_type) []} (out-roll-Enumerator _) refl (GivenValue (vread (codes "3") (int_of 3) 0 6 m_3) (seen k_int) refl) refl (next_constant (codes "b") 8 4 _ refl))) NoSizes (ap is_over (laid_4 true))))) (SizeOfTypeName (ap extent_of (laid_4 true)) (refl, refl, refl))) refl) (MorePieces (LoadedValue (Walked (outs-Name (codes "b")) NoPieces (EnumeratorName refl)) refl) NoPieces)) (AdditionOperator refl (seen k_size) (seen k_int)), refl, refl);
  declared = is_refused 0 _ (outs-Enum _ _) (EnumWithConstants refl (EnumeratorTwice (out-roll-Enumerator _) refl));
  same_constant = is_refused 0 _ (outs-Enum _ _) (EnumWithConstants refl (MoreEnumerators {outcome = Refused (fault (token 6) (Rule 2))} (out-roll-Enumerator _) refl NextValue refl (EnumeratorTwice (out-roll-Enumerator _) refl)));
  declared_inside = is_refused 1 _ (outs-Enum _ _) (EnumWithConstants refl (EnumeratorTwiceInside (out-roll-Enumerator _) refl (GivenValue (LoadedValue (Walked (outs-SizeOfType _) (one (TypeInside (TypeNamed (out-roll-TypeName _) (outs-Enum _ _) (EnumWithConstants refl (next_constant (codes "a") 10 0 start refl)) NoSizes (ap is_over (laid_4 true))))) (SizeOfTypeName (ap extent_of (laid_4 true)) (refl, refl, refl))) refl) (seen k_size) refl) refl));
  no_int = is_refused 1 _ (outs-Enum _ _) (EnumWithConstants refl (EnumeratorRefused (out-roll-Enumerator _) refl (GivenNoInt (vread (codes "4294967295u") (unsigned_of 4294967295) 0 6 m_4294967295u) (seen k_unsigned) refl)));
  no_constant = is_refused 1 _ (outs-Enum _ _) (EnumWithConstants refl (EnumeratorRefused (out-roll-Enumerator _) refl (GivenNoInt (vn 0 6) (seen k_int) refl)));
  behind_the_last = is_refused 1 _ (outs-Enum _ _) (EnumWithConstants refl (MoreEnumerators {outcome = Refused (fault (token 8) (Rule 9))} (out-roll-Enumerator _) refl (GivenValue (vread (codes "2147483647") (int_of 2147483647) 0 6 m_2147483647) (seen k_int) refl) refl (EnumeratorRefused (out-roll-Enumerator _) refl NoNextValue)));
}
