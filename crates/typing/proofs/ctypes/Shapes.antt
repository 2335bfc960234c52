-- Shapes and the types that they stand for: two shapes of one type are one.
use Rattle.std.proofs.Common.{◌≡◌, ℕ, ◌≤◌, ◌++◌, List, length, refl, sym, ap, ◌∙◌, arith}
use Rattle.std.proofs.lemmas.List.{get_or_append_left}
use Rattle.cbase.specs.declared.ctype.CType.{CType}
use Rattle.cbase.specs.declared.ctype.CType.TheVariants.{Void as VoidType, Pointer as PointerType, Array as ArrayType}
use Rattle.cbase.specs.declared.ctype.CType.TheOpen.{CType-F, Void as VoidOpen, Bool as BoolOpen, Int as IntOpen, Pointer as PointerOpen, Struct as StructOpen, Array as ArrayOpen}
use Rattle.cbase.specs.declared.ctype.CType.TheViews.{out-CType, outs-Void, outs-Bool, outs-Int, outs-Pointer, outs-Struct, outs-Array}
use Rattle.typing.specs.declared.ctypes.shape.Shape.{Shape}
use Rattle.typing.specs.declared.ctypes.shape.Shape.TheVariants.{Void, Bool, Int, Pointer, Struct, Array}
use Rattle.typing.specs.ctypes.Table.{type_at, type_of, NamesBelow, AreApart}

abbrev open_of : List CType → Shape → CType-F CType
open_of types Void = VoidOpen
open_of types Bool = BoolOpen
open_of types (Int bytes signed) = IntOpen bytes signed
open_of types (Pointer item) = PointerOpen (type_at types item)
open_of types (Struct number) = StructOpen number
open_of types (Array item count) = ArrayOpen (type_at types item) count

outs : (types : List CType) (shape : Shape) → out-CType (type_of types shape) ≡ open_of types shape
outs types Void = outs-Void
outs types Bool = outs-Bool
outs types (Int bytes signed) = outs-Int bytes signed
outs types (Pointer item) = outs-Pointer (type_at types item)
outs types (Struct number) = outs-Struct number
outs types (Array item count) = outs-Array (type_at types item) count

same_open : (types : List CType) → AreApart types → (s t : Shape) → NamesBelow (length types) s → NamesBelow (length types) t → open_of types s ≡ open_of types t → s ≡ t
same_open types apart Void Void h k e = refl
same_open types apart Void Bool h k e = cc
same_open types apart Void (Int b2 s2) h k e = cc
same_open types apart Void (Pointer i2) h k e = cc
same_open types apart Void (Struct n2) h k e = cc
same_open types apart Void (Array i2 c2) h k e = cc
same_open types apart Bool Void h k e = cc
same_open types apart Bool Bool h k e = refl
same_open types apart Bool (Int b2 s2) h k e = cc
same_open types apart Bool (Pointer i2) h k e = cc
same_open types apart Bool (Struct n2) h k e = cc
same_open types apart Bool (Array i2 c2) h k e = cc
same_open types apart (Int b1 s1) Void h k e = cc
same_open types apart (Int b1 s1) Bool h k e = cc
same_open types apart (Int b1 s1) (Int b2 s2) h k e = let p : b1 ≡ b2 = cc in let q : s1 ≡ s2 = cc in cc
same_open types apart (Int b1 s1) (Pointer i2) h k e = cc
same_open types apart (Int b1 s1) (Struct n2) h k e = cc
same_open types apart (Int b1 s1) (Array i2 c2) h k e = cc
same_open types apart (Pointer i1) Void h k e = cc
same_open types apart (Pointer i1) Bool h k e = cc
same_open types apart (Pointer i1) (Int b2 s2) h k e = cc
same_open types apart (Pointer i1) (Pointer i2) h k e = let p : type_at types i1 ≡ type_at types i2 = cc in ap Pointer (apart i1 i2 h k p)
same_open types apart (Pointer i1) (Struct n2) h k e = cc
same_open types apart (Pointer i1) (Array i2 c2) h k e = cc
same_open types apart (Struct n1) Void h k e = cc
same_open types apart (Struct n1) Bool h k e = cc
same_open types apart (Struct n1) (Int b2 s2) h k e = cc
same_open types apart (Struct n1) (Pointer i2) h k e = cc
same_open types apart (Struct n1) (Struct n2) h k e = let p : n1 ≡ n2 = cc in ap Struct p
same_open types apart (Struct n1) (Array i2 c2) h k e = cc
same_open types apart (Array i1 c1) Void h k e = cc
same_open types apart (Array i1 c1) Bool h k e = cc
same_open types apart (Array i1 c1) (Int b2 s2) h k e = cc
same_open types apart (Array i1 c1) (Pointer i2) h k e = cc
same_open types apart (Array i1 c1) (Struct n2) h k e = cc
same_open types apart (Array i1 c1) (Array i2 c2) h k e = let p : type_at types i1 ≡ type_at types i2 = cc in let q : c1 ≡ c2 = cc in ap (λ i. Array i c1) (apart i1 i2 h k p) ∙ ap (λ c. Array i2 c) q

pub same_shape : (types : List CType) → AreApart types → (s t : Shape) → NamesBelow (length types) s → NamesBelow (length types) t → type_of types s ≡ type_of types t → s ≡ t
same_shape types apart s t h k e = same_open types apart s t h k (sym (outs types s) ∙ (ap out-CType e ∙ outs types t))

pub type_of-grown : (types more : List CType) (shape : Shape) → NamesBelow (length types) shape → type_of (types ++ more) shape ≡ type_of types shape
type_of-grown types more Void h = refl
type_of-grown types more Bool h = refl
type_of-grown types more (Int bytes signed) h = refl
type_of-grown types more (Pointer item) h = ap PointerType (get_or_append_left types more VoidType item h)
type_of-grown types more (Struct number) h = refl
type_of-grown types more (Array item count) h = ap (λ t. ArrayType t count) (get_or_append_left types more VoidType item h)

pub names_below-more : (few many : ℕ) (shape : Shape) → few ≤ many → NamesBelow few shape → NamesBelow many shape
names_below-more few many Void less h = tt
names_below-more few many Bool less h = tt
names_below-more few many (Int bytes signed) less h = tt
names_below-more few many (Pointer item) less h = omega arith
names_below-more few many (Struct number) less h = tt
names_below-more few many (Array item count) less h = omega arith
