-- What is known of the declarations of the examples, and derivations of single names and constants.
use Rattle.std.proofs.Common.{◌≡◌, ℕ, suc, Bool, true, false, List, [], ◌∷◌, ◌++◌, Option, Some, None, refl, ap, ◌∙◌, subst}
use Rattle.std.specs.Prelude.{not, is_some, option_map, codes, length, if◌then◌else◌}
use Rattle.cbase.specs.declared.abi.Abi.TheVariants.{Lp64}
use Rattle.cbase.specs.declared.ctype.CType.{CType}
use Rattle.cbase.specs.declared.ctype.CType.TheVariants.{Void as VoidType, Bool as BoolType, Int as IntType, Pointer as PointerType, Struct as StructType, Array as ArrayType}
use Rattle.cbase.specs.declared.ctype.CType.TheViews.{outs-Int}
use Rattle.cbase.specs.declared.layout.Layout.{Layout}
use Rattle.cbase.specs.declared.structs.StructDef.{StructDef}
use Rattle.cbase.specs.declared.tree.expr.Expr.{Expr}
use Rattle.cbase.specs.declared.tree.expr.ExprForm.TheVariants.{Unary}
use Rattle.cbase.specs.declared.tree.expr.ExprForm.TheViews.{outs-Name, outs-Constant, outs-Unary}
use Rattle.cbase.specs.declared.tree.operators.UnaryOp.TheVariants.{Minus}
use Rattle.cbase.specs.Layout.{layout_of, struct_at, fields_layout, no_fields, scalar, repeated}
use Rattle.cbase.proofs.Types.{type_layout-Void, type_layout-Bool, type_layout-Int, type_layout-Pointer, type_layout-Array, type_layout-Struct}
use Rattle.typing.specs.declared.constants.meaning.Constant.{Constant}
use Rattle.typing.specs.declared.constants.meaning.Meaning.TheVariants.{Known as Meant}
use Rattle.typing.specs.constants.Deciding.{letter, integer, meaning_of}
use Rattle.typing.specs.constants.Meanings.{Means}
use Rattle.typing.proofs.constants.Exact.{means}
use Rattle.typing.specs.declared.ctypes.found.Broken.{Broken}
use Rattle.typing.specs.declared.ctypes.found.Broken.TheVariants.{Construct, Rule}
use Rattle.typing.specs.declared.ctypes.kind.Target.TheVariants.{Void as VoidTarget, Sized, Unsized}
use Rattle.typing.specs.ctypes.Binary.{int_type}
use Rattle.typing.specs.ctypes.Integers.{integer as integer_of, truth}
use Rattle.typing.specs.ctypes.Kinds.{Kind, Integer, Pointer, Array, Struct, Void, kind_of, target_in, target_of, has_size}
use Rattle.typing.specs.ctypes.Operands.{Operand}
use Rattle.typing.specs.ctypes.Unary.{size_type}
use Rattle.typing.proofs.ctypes.ShapeKinds.{are_kinds, are_targets}
use Rattle.typing.specs.Entities.{ObjectEntity, ObjectIs}
use Rattle.typing.specs.declared.fault.Fault.{Fault}
use Rattle.typing.specs.Faults.{fault, unless, IsFirst}
use Rattle.typing.specs.Known.{Known, can_load, behind, valued}
use Rattle.typing.specs.Nodes.{object_type, is_sized, object_known, enumerator_known, constant_known}
use Rattle.typing.specs.Outcomes.{Handed, Passes, Refused}
use Rattle.typing.specs.Pieces.{Piece, Loaded}
use Rattle.typing.specs.Sample.{entity_in, char_type, unsigned_type, long_type, object, names, named_in, Declarations, start, sample, token, node, name, constant}
use Rattle.typing.specs.Rules.{ObjectName, EnumeratorName, UndeclaredName, ConstantOfType, UnaryArithmetic}
use Rattle.typing.specs.Told.{Told, OperandIs}
use Rattle.typing.specs.Typing.{Finds, ExpressionIs, PieceIs, PiecesAre, Walked, NoPieces, MorePieces, LoadedValue}

-- two equations at once
pub both : {A B C : Type 0} (f : A → B → C) (a c : A) (b d : B) → a ≡ c → b ≡ d → f a b ≡ f c d
both f a c b d p q = λ i. f (p i) (q i)

abbrev pub structs : List StructDef
structs = start.structs

-- layouts
pub laid_4 : (signed : Bool) → layout_of Lp64 structs (IntType 4 signed) ≡ Some (scalar 4)
laid_4 signed = type_layout-Int Lp64 (struct_at Lp64 3 structs) 4 signed

pub laid_1 : (signed : Bool) → layout_of Lp64 structs (IntType 1 signed) ≡ Some (scalar 1)
laid_1 signed = type_layout-Int Lp64 (struct_at Lp64 3 structs) 1 signed

pub laid_8 : (signed : Bool) → layout_of Lp64 structs (IntType 8 signed) ≡ Some (scalar 8)
laid_8 signed = type_layout-Int Lp64 (struct_at Lp64 3 structs) 8 signed

pub laid_void : layout_of Lp64 structs VoidType ≡ None
laid_void = type_layout-Void Lp64 (struct_at Lp64 3 structs)

pub laid_pointer : (item : CType) → layout_of Lp64 structs (PointerType item) ≡ Some (scalar 8)
laid_pointer item = type_layout-Pointer Lp64 (struct_at Lp64 3 structs) item

-- and whatever else is declared
pub pointer_laid : (among : List StructDef) (item : CType) → layout_of Lp64 among (PointerType item) ≡ Some (scalar 8)
pointer_laid among item = type_layout-Pointer Lp64 (struct_at Lp64 (length among) among) item

pub laid_chars : (count : ℕ) → layout_of Lp64 structs (ArrayType char_type count) ≡ Some (repeated count (scalar 1))
laid_chars count = type_layout-Array Lp64 (struct_at Lp64 3 structs) char_type count ∙ ap (option_map (repeated count)) (laid_1 true)

pub laid_s : layout_of Lp64 structs (StructType 0) ≡ Some (record { size = 16; alignment = 8 })
laid_s =
    type_layout-Struct Lp64 (struct_at Lp64 3 structs) 0
    ∙ both (λ (a b : Option Layout). fields_layout no_fields (a ∷ b ∷ [])) _ _ _ _ (type_layout-Int Lp64 (struct_at Lp64 2 structs) 4 true) (type_layout-Pointer Lp64 (struct_at Lp64 2 structs) char_type)

pub laid_t : layout_of Lp64 structs (StructType 1) ≡ None
laid_t = type_layout-Struct Lp64 (struct_at Lp64 3 structs) 1

pub laid_v : layout_of Lp64 structs (StructType 2) ≡ Some (record { size = 8; alignment = 4 })
laid_v =
    type_layout-Struct Lp64 (struct_at Lp64 3 structs) 2
    ∙ both (λ (a b : Option Layout). fields_layout no_fields (a ∷ b ∷ [])) _ _ _ _ (type_layout-Int Lp64 (struct_at Lp64 2 structs) 4 true)
    (type_layout-Array Lp64 (struct_at Lp64 2 structs) char_type 3 ∙ ap (option_map (repeated 3)) (type_layout-Int Lp64 (struct_at Lp64 2 structs) 1 true))

pub laid_bool : layout_of Lp64 structs BoolType ≡ Some (scalar 1)
laid_bool = type_layout-Bool Lp64 (struct_at Lp64 3 structs)

pub laid_rows : (rows count : ℕ) → layout_of Lp64 structs (ArrayType (ArrayType char_type count) rows) ≡ Some (repeated rows (repeated count (scalar 1)))
laid_rows rows count = type_layout-Array Lp64 (struct_at Lp64 3 structs) (ArrayType char_type count) rows ∙ ap (option_map (repeated rows)) (laid_chars count)

-- kinds
pub k_bool : kind_of structs BoolType ≡ Integer truth
k_bool = (are_kinds structs).bool

pub k_pointer_to_none : kind_of structs (PointerType (ArrayType char_type 1)) ≡ Pointer (ArrayType char_type 1) Sized
k_pointer_to_none =
    (are_kinds structs).pointer (ArrayType char_type 1)
    ∙ ap (Pointer (ArrayType char_type 1)) ((are_targets structs).array char_type 1 ∙ ap (λ (sized : Bool). if sized then Sized else Unsized) (ap is_some (laid_chars 1)))

pub k_int : kind_of structs int_type ≡ Integer (integer_of 4 true)
k_int = (are_kinds structs).int 4 true

pub k_unsigned : kind_of structs unsigned_type ≡ Integer (integer_of 4 false)
k_unsigned = (are_kinds structs).int 4 false

pub k_char : kind_of structs char_type ≡ Integer (integer_of 1 true)
k_char = (are_kinds structs).int 1 true

pub k_long : kind_of structs long_type ≡ Integer (integer_of 8 true)
k_long = (are_kinds structs).int 8 true

pub k_size : kind_of structs size_type ≡ Integer (integer_of 8 false)
k_size = (are_kinds structs).int 8 false

pub k_void : kind_of structs VoidType ≡ Void
k_void = (are_kinds structs).void

pub k_s : kind_of structs (StructType 0) ≡ Struct 0
k_s = (are_kinds structs).struct 0

pub k_v : kind_of structs (StructType 2) ≡ Struct 2
k_v = (are_kinds structs).struct 2

target_int : (bytes : ℕ) (signed : Bool) → has_size structs (IntType bytes signed) ≡ true → target_of structs (IntType bytes signed) ≡ Sized
target_int bytes signed sized =
    both target_in _ _ _ _ (outs-Int bytes signed) sized

target_struct : (number : ℕ) (sized : Bool) → has_size structs (StructType number) ≡ sized → target_of structs (StructType number) ≡ (if sized then Sized else Unsized)
target_struct number sized e = (are_targets structs).struct number ∙ ap (λ (b : Bool). if b then Sized else Unsized) e

pub k_p : kind_of structs (PointerType VoidType) ≡ Pointer VoidType VoidTarget
k_p = (are_kinds structs).pointer VoidType ∙ ap (Pointer VoidType) (are_targets structs).void

pub k_q : kind_of structs (PointerType int_type) ≡ Pointer int_type Sized
k_q = (are_kinds structs).pointer int_type ∙ ap (Pointer int_type) (target_int 4 true (ap is_some (laid_4 true)))

pub k_chars : kind_of structs (PointerType char_type) ≡ Pointer char_type Sized
k_chars = (are_kinds structs).pointer char_type ∙ ap (Pointer char_type) (target_int 1 true (ap is_some (laid_1 true)))

pub k_row : (count : ℕ) → kind_of structs (ArrayType char_type count) ≡ Array char_type Sized
k_row count = (are_kinds structs).array char_type count ∙ ap (Array char_type) (target_int 1 true (ap is_some (laid_1 true)))

pub k_r : kind_of structs (PointerType (StructType 0)) ≡ Pointer (StructType 0) Sized
k_r = (are_kinds structs).pointer (StructType 0) ∙ ap (Pointer (StructType 0)) (target_struct 0 true (ap is_some laid_s))

pub k_z : kind_of structs (PointerType (StructType 1)) ≡ Pointer (StructType 1) Unsized
k_z = (are_kinds structs).pointer (StructType 1) ∙ ap (Pointer (StructType 1)) (target_struct 1 false (ap is_some laid_t))

-- an operand of a kind
abbrev pub operand_by : CType → Bool → Bool → Kind → Operand
operand_by t lvalue null kind = record { ctype = t; kind = kind; lvalue = lvalue; null = null }

pub seen : {t : CType} {kind : Kind} {lvalue null : Bool} → kind_of structs t ≡ kind → operand_by t lvalue null (kind_of structs t) ≡ operand_by t lvalue null kind
seen {t} {kind} {lvalue} {null} e = ap (operand_by t lvalue null) e

-- one thing that is broken is the first
pub alone : (first : Fault) → IsFirst (first ∷ []) first
alone first = record { front = []; back = []; whole = refl; later = tt; behind = tt }

-- what is found of an expression, and of one that is loaded
abbrev pub Is : Expr → Known → List Handed → Type 0
Is expr known handed = Finds sample start (ExpressionIs expr (Passes known handed)) start

abbrev pub IsLoaded : Expr → Known → List Handed → Type 0
IsLoaded expr known handed = Finds sample start (PieceIs (Loaded expr) (Passes (OperandIs known) handed)) start

abbrev pub IsBroken : Expr → ℕ → Broken → Type 0
IsBroken expr at broken = Finds sample start (ExpressionIs expr (Refused (fault (token at) broken))) start

-- an object, and its value
object_is : (bytes : List ℕ) (t : CType) (number at : ℕ) → named_in names bytes ≡ Some (ObjectIs (object t)) → has_size structs t ≡ true
    → Is (name bytes number at) (object_known (object t)) (behind [] number (object_known (object t)))
object_is bytes t number at is sized = Walked (outs-Name bytes) NoPieces (ObjectName is sized (refl, refl, refl))

-- an object whose type has a size can be loaded
load_sized : (among : List StructDef) (t : Option CType) → is_sized among t ≡ true → has_size among (object_type t) ≡ true
load_sized among None sized = absurd (cc sized)
load_sized among (Some t) sized = sized

-- and in any environment
pub object_in : (env : Declarations) (bytes : List ℕ) (entity : ObjectEntity) (number at : ℕ) → entity_in env bytes ≡ Some (ObjectIs entity) → is_sized env.structs entity.ctype ≡ true
    → entity.defined ≡ true → entity.of_main ≡ false → Finds sample env (ExpressionIs (name bytes number at) (Passes (object_known entity) (behind [] number (object_known entity)))) env
object_in env bytes entity number at is sized defined other =
    Walked (outs-Name bytes) NoPieces (ObjectName is sized ((λ i. unless (defined i) (token at) (Construct 12) ++ unless (not (other i)) (token at) (Rule 12)), refl, refl))

pub n : (number at : ℕ) → Is (name (codes "n") number at) (object_known (object int_type)) (behind [] number (object_known (object int_type)))
n number at = object_is (codes "n") int_type number at refl (ap is_some (laid_4 true))

pub u : (number at : ℕ) → Is (name (codes "u") number at) (object_known (object unsigned_type)) (behind [] number (object_known (object unsigned_type)))
u number at = object_is (codes "u") unsigned_type number at refl (ap is_some (laid_4 false))

pub c : (number at : ℕ) → Is (name (codes "c") number at) (object_known (object char_type)) (behind [] number (object_known (object char_type)))
c number at = object_is (codes "c") char_type number at refl (ap is_some (laid_1 true))

pub p : (number at : ℕ) → Is (name (codes "p") number at) (object_known (object (PointerType VoidType))) (behind [] number (object_known (object (PointerType VoidType))))
p number at = object_is (codes "p") (PointerType VoidType) number at refl (ap is_some (laid_pointer VoidType))

pub q : (number at : ℕ) → Is (name (codes "q") number at) (object_known (object (PointerType int_type))) (behind [] number (object_known (object (PointerType int_type))))
q number at = object_is (codes "q") (PointerType int_type) number at refl (ap is_some (laid_pointer int_type))

pub row : (number at : ℕ) → Is (name (codes "row") number at) (object_known (object (ArrayType char_type 3))) (behind [] number (object_known (object (ArrayType char_type 3))))
row number at = object_is (codes "row") (ArrayType char_type 3) number at refl (ap is_some (laid_chars 3))

pub vast : (number at : ℕ) → Is (name (codes "vast") number at) (object_known (object (ArrayType char_type 70000))) (behind [] number (object_known (object (ArrayType char_type 70000))))
vast number at = object_is (codes "vast") (ArrayType char_type 70000) number at refl (ap is_some (laid_chars 70000))

pub x : (number at : ℕ) → Is (name (codes "x") number at) (object_known (object (StructType 0))) (behind [] number (object_known (object (StructType 0))))
x number at = object_is (codes "x") (StructType 0) number at refl (ap is_some laid_s)

pub r : (number at : ℕ) → Is (name (codes "r") number at) (object_known (object (PointerType (StructType 0)))) (behind [] number (object_known (object (PointerType (StructType 0)))))
r number at = object_is (codes "r") (PointerType (StructType 0)) number at refl (ap is_some (laid_pointer (StructType 0)))

pub z : (number at : ℕ) → Is (name (codes "z") number at) (object_known (object (PointerType (StructType 1)))) (behind [] number (object_known (object (PointerType (StructType 1)))))
z number at = object_is (codes "z") (PointerType (StructType 1)) number at refl (ap is_some (laid_pointer (StructType 1)))

pub five : (number at : ℕ) → Is (name (codes "five") number at) (enumerator_known 5) (behind [] number (enumerator_known 5))
five number at = Walked (outs-Name (codes "five")) NoPieces (EnumeratorName refl)

-- a name that is not declared
pub y : (number at : ℕ) → IsBroken (name (codes "y") number at) at (Rule 1)
y number at = Walked (outs-Name (codes "y")) NoPieces (UndeclaredName refl)

-- a constant, as it is read
pub read : (spelling : List ℕ) (meant : Constant) (number at : ℕ) → meaning_of Lp64 spelling ≡ Meant meant
    → Is (constant spelling number at) (constant_known meant) (behind [] number (constant_known meant))
read spelling meant number at is = Walked (outs-Constant spelling) NoPieces (ConstantOfType (subst (Means Lp64 spelling) is (means Lp64 spelling)))

-- an int that is spelled so
abbrev pub int_of : ℕ → Constant
int_of bits = record { bytes = 4; signed = true; bits = bits }

abbrev pub unsigned_of : ℕ → Constant
unsigned_of bits = record { bytes = 4; signed = false; bits = bits }

-- values that are taken
pub load : {expr : Expr} {known : Known} {handed : List Handed} → Is expr known handed → can_load structs known ≡ true → IsLoaded expr known handed
load is sized = LoadedValue is sized

pub vn : (number at : ℕ) → IsLoaded (name (codes "n") number at) (object_known (object int_type)) (behind [] number (object_known (object int_type)))
vn number at = load (n number at) (ap is_some (laid_4 true))

pub vu : (number at : ℕ) → IsLoaded (name (codes "u") number at) (object_known (object unsigned_type)) (behind [] number (object_known (object unsigned_type)))
vu number at = load (u number at) (ap is_some (laid_4 false))

pub vc : (number at : ℕ) → IsLoaded (name (codes "c") number at) (object_known (object char_type)) (behind [] number (object_known (object char_type)))
vc number at = load (c number at) (ap is_some (laid_1 true))

pub vp : (number at : ℕ) → IsLoaded (name (codes "p") number at) (object_known (object (PointerType VoidType))) (behind [] number (object_known (object (PointerType VoidType))))
vp number at = load (p number at) (ap is_some (laid_pointer VoidType))

pub vq : (number at : ℕ) → IsLoaded (name (codes "q") number at) (object_known (object (PointerType int_type))) (behind [] number (object_known (object (PointerType int_type))))
vq number at = load (q number at) (ap is_some (laid_pointer int_type))

pub vrow : (number at : ℕ) → IsLoaded (name (codes "row") number at) (object_known (object (ArrayType char_type 3))) (behind [] number (object_known (object (ArrayType char_type 3))))
vrow number at = load (row number at) (ap is_some (laid_chars 3))

pub vx : (number at : ℕ) → IsLoaded (name (codes "x") number at) (object_known (object (StructType 0))) (behind [] number (object_known (object (StructType 0))))
vx number at = load (x number at) (ap is_some laid_s)

pub vr : (number at : ℕ) → IsLoaded (name (codes "r") number at) (object_known (object (PointerType (StructType 0)))) (behind [] number (object_known (object (PointerType (StructType 0)))))
vr number at = load (r number at) (ap is_some (laid_pointer (StructType 0)))

pub vz : (number at : ℕ) → IsLoaded (name (codes "z") number at) (object_known (object (PointerType (StructType 1)))) (behind [] number (object_known (object (PointerType (StructType 1)))))
vz number at = load (z number at) (ap is_some (laid_pointer (StructType 1)))

pub vfive : (number at : ℕ) → IsLoaded (name (codes "five") number at) (enumerator_known 5) (behind [] number (enumerator_known 5))
vfive number at = load (five number at) refl

pub vread : (spelling : List ℕ) (meant : Constant) (number at : ℕ) → meaning_of Lp64 spelling ≡ Meant meant
    → IsLoaded (constant spelling number at) (constant_known meant) (behind [] number (constant_known meant))
vread spelling meant number at is = load (read spelling meant number at is) refl

-- values that are taken in any environment: of an object of a type that all declarations lay alike, and of a constant
pub loaded_in : (env : Declarations) (bytes : List ℕ) (entity : ObjectEntity) (number at : ℕ) → entity_in env bytes ≡ Some (ObjectIs entity) → is_sized env.structs entity.ctype ≡ true
    → entity.defined ≡ true → entity.of_main ≡ false → Finds sample env (PieceIs (Loaded (name bytes number at)) (Passes (OperandIs (object_known entity)) (behind [] number (object_known entity)))) env
loaded_in env bytes entity number at is sized defined other = LoadedValue (object_in env bytes entity number at is sized defined other) (load_sized env.structs entity.ctype sized)

pub read_in : (env : Declarations) (spelling : List ℕ) (meant : Constant) (number at : ℕ) → meaning_of Lp64 spelling ≡ Meant meant
    → Finds sample env (PieceIs (Loaded (constant spelling number at)) (Passes (OperandIs (constant_known meant)) (behind [] number (constant_known meant)))) env
read_in env spelling meant number at is = LoadedValue (Walked (outs-Constant spelling) NoPieces (ConstantOfType (subst (Means Lp64 spelling) is (means Lp64 spelling)))) refl

-- one part, and two
pub one : {piece : Piece} {told : Told} {handed : List Handed} {after : Declarations} → Finds sample start (PieceIs piece (Passes told handed)) after
    → Finds sample start (PiecesAre (piece ∷ []) (Passes (told ∷ []) (handed ++ []))) after
one first = MorePieces first NoPieces

pub two : {piece other : Piece} {told others : Told} {handed further : List Handed}
    → Finds sample start (PieceIs piece (Passes told handed)) start → Finds sample start (PieceIs other (Passes others further)) start
    → Finds sample start (PiecesAre (piece ∷ other ∷ []) (Passes (told ∷ others ∷ []) (handed ++ (further ++ [])))) start
two first second = MorePieces first (MorePieces second NoPieces)

pub three : {piece other third : Piece} {told others last : Told} {handed further rest : List Handed}
    → Finds sample start (PieceIs piece (Passes told handed)) start → Finds sample start (PieceIs other (Passes others further)) start → Finds sample start (PieceIs third (Passes last rest)) start
    → Finds sample start (PiecesAre (piece ∷ other ∷ third ∷ []) (Passes (told ∷ others ∷ last ∷ []) (handed ++ (further ++ (rest ++ []))))) start
three first second last = MorePieces first (MorePieces second (MorePieces last NoPieces))

-- what spellings mean
pub m_0 : meaning_of Lp64 (codes "0") ≡ Meant (int_of 0)
unfolding letter integer
m_0 = refl

pub m_1 : meaning_of Lp64 (codes "1") ≡ Meant (int_of 1)
unfolding letter integer
m_1 = refl

pub m_2 : meaning_of Lp64 (codes "2") ≡ Meant (int_of 2)
unfolding letter integer
m_2 = refl

pub m_3 : meaning_of Lp64 (codes "3") ≡ Meant (int_of 3)
unfolding letter integer
m_3 = refl

pub m_4 : meaning_of Lp64 (codes "4") ≡ Meant (int_of 4)
unfolding letter integer
m_4 = refl

pub m_5 : meaning_of Lp64 (codes "5") ≡ Meant (int_of 5)
unfolding letter integer
m_5 = refl

pub m_8 : meaning_of Lp64 (codes "8") ≡ Meant (int_of 8)
unfolding letter integer
m_8 = refl

pub m_0u : meaning_of Lp64 (codes "0u") ≡ Meant (unsigned_of 0)
unfolding letter integer
m_0u = refl

pub m_300 : meaning_of Lp64 (codes "300") ≡ Meant (int_of 300)
unfolding letter integer
m_300 = refl

pub m_256 : meaning_of Lp64 (codes "256") ≡ Meant (int_of 256)
unfolding letter integer
m_256 = refl

pub m_257 : meaning_of Lp64 (codes "257") ≡ Meant (int_of 257)
unfolding letter integer
m_257 = refl

pub m_70000 : meaning_of Lp64 (codes "70000") ≡ Meant (int_of 70000)
unfolding letter integer
m_70000 = refl

pub v0 : (number at : ℕ) → IsLoaded (constant (codes "0") number at) (constant_known (int_of 0)) (behind [] number (constant_known (int_of 0)))
v0 number at = vread (codes "0") (int_of 0) number at m_0

pub v1 : (number at : ℕ) → IsLoaded (constant (codes "1") number at) (constant_known (int_of 1)) (behind [] number (constant_known (int_of 1)))
v1 number at = vread (codes "1") (int_of 1) number at m_1

-- `-1`
pub negative_one : (number at mark : ℕ) → IsLoaded (node (suc number) mark (Unary Minus (constant (codes "1") number at))) (valued (Some 4294967295) int_type) (behind (behind [] number (constant_known (int_of 1))) (suc number) (valued (Some 4294967295) int_type))
negative_one number at mark = load (Walked (outs-Unary Minus (constant (codes "1") number at)) (one (v1 number at)) (UnaryArithmetic refl (seen k_int))) refl

-- `-8`
pub negative_eight : (number at mark : ℕ) → IsLoaded (node (suc number) mark (Unary Minus (constant (codes "8") number at))) (valued (Some 4294967288) int_type) (behind (behind [] number (constant_known (int_of 8))) (suc number) (valued (Some 4294967288) int_type))
negative_eight number at mark = load (Walked (outs-Unary Minus (constant (codes "8") number at)) (one (vread (codes "8") (int_of 8) number at m_8)) (UnaryArithmetic refl (seen k_int))) refl
