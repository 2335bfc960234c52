-- What is read of an expression, for each program that the context stands for.
use Rattle.std.proofs.Common.{◌≡◌, ℕ, Bool, true, false, List, Option, None, Some, option_map, if◌then◌else◌, refl, sym, ap, subst, ◌∙◌}
use Rattle.std.specs.Prelude.{nat_le}
use Rattle.cbase.specs.declared.tree.expr.Expr.{Expr}
use Rattle.cbase.specs.declared.tree.expr.ExprForm.{ExprForm}
use Rattle.cbase.specs.declared.tree.expr.ExprForm.TheViews.{out-ExprForm}
use Rattle.cbase.specs.declared.tree.identifier.Identifier.{Identifier}
use Rattle.cbase.specs.declared.tree.stmt.Stmt.{Stmt}
use Rattle.expressions.specs.Context.{Context}
use Rattle.expressions.specs.Numbers.{Numbering}
use Rattle.typing.specs.ctypes.Kinds.{kind_of}
use Rattle.typing.specs.declared.ctypes.kind.IntegerType.{IntegerType}
use Rattle.typing.specs.Forms.{Form as Layer, name_in}
use Rattle.typing.specs.Idiom.{member_offset}
use Rattle.typing.specs.Nodes.{pointed_offset}
use Rattle.typing.specs.values.Values.{is_whole}
use Rattle.c_machine.specs.declared.kind.Kind.{Kind}
use Rattle.c_machine.specs.declared.kind.Kind.TheVariants.{Integer, Pointer, Array, Struct, Void}
use Rattle.c_machine.specs.Program.{Program, constant_of, entity_of, functions_in, number_in, type_of}
use Rattle.c_machine.specs.Text.{ConstantStands, Form, Member}
use Rattle.c_machine.specs.Text as text
use Rattle.c_machine.specs.Trees.{body_stands, form_of, kind_in, offset, standing, text_of}
use Rattle.c_machine.specs.Words.{decayed}
use Rattle.c_text.specs.Kept.{kept}
use Rattle.c_text.specs.declared.standing.Standing.{Standing as Told}
use Rattle.c_text.specs.declared.standing.Standing.TheVariants.{Object, Constant, BuiltIn, Body, Nothing}
use Rattle.c_text.specs.Standing.{standing_by}
use Rattle.c_text.specs.Stands.{StandsFor}
use Rattle.lowering.specs.Reading.{IsKind, IsValueKind, IsConstant, IsNoConstant, IsObjectToken, IsForm, IsKnown, IsMember, token_of}
use Rattle.lowering.specs.Source.{Reads}

-- what is kept of a type is that type
bytes_of : (made : ℕ → Kind) (bytes : ℕ) (fits : Bool) (kind : Kind) → Some kind ≡ option_map made (if fits then Some bytes else None) → kind ≡ made bytes
bytes_of made bytes true kind is = cc
bytes_of made bytes false kind is = absurd cc

integer_of : (of : IntegerType) (fits : Bool) (kind : Kind) → Some kind ≡ option_map Integer (if fits then Some of else None) → kind ≡ Integer of
integer_of of true kind is = cc
integer_of of false kind is = absurd cc

pub kept_is : (own kind : Kind) → Some kind ≡ kept own → kind ≡ own
kept_is (Integer of) kind is = integer_of of (is_whole of) kind is
kept_is (Pointer bytes) kind is = bytes_of Pointer bytes (nat_le bytes 65536) kind is
kept_is (Array bytes) kind is = bytes_of Array bytes (nat_le bytes 65536) kind is
kept_is (Struct bytes) kind is = bytes_of Struct bytes (nat_le bytes 65536) kind is
kept_is Void kind is = cc

pub kind_is : (context own : Context) (expr : Expr) (kind : Kind) → own ≡ context →
    ((n : Numbering) (p : Program) → StandsFor n own p → Some kind ≡ kept (kind_in p (type_of p expr))) → IsKind context expr kind
kind_is context own expr kind same is = record {
  of = λ p reads.
      kept_is (kind_in p (type_of p expr)) kind (is reads.0 p (subst (λ (context : Context). StandsFor reads.0 context p) (sym same) reads.1));
}

pub value_kind_is : (context : Context) (expr : Expr) (kind value : Kind) → IsKind context expr kind → value ≡ decayed kind → IsValueKind context expr value
value_kind_is context expr kind value is decays = record { of = λ p reads. decays ∙ ap decayed (is.of p reads) }

-- names
pub stands_as : (context own : Context) (expr : Expr) (told : Told) (p : Program) (reads : Reads context p) → own ≡ context →
    ((n : Numbering) (p : Program) (other : Expr) (name : Option (List ℕ)) → StandsFor n own p → other.number ≡ expr.number
    → standing_by n p name told ≡ standing p name (entity_of p other)) →
    standing_by reads.0 p (name_in (out-ExprForm expr.form)) told ≡ (text_of p).stands expr
stands_as context own expr told p reads same is =
    is reads.0 p expr (name_in (out-ExprForm expr.form)) (subst (λ (context : Context). StandsFor reads.0 context p) (sym same) reads.1) refl

abbrev pub Tells : Context → Expr → Told → Type 0
Tells own expr told = (n : Numbering) (p : Program) (other : Expr) (name : Option (List ℕ)) → StandsFor n own p → other.number ≡ expr.number
    → standing_by n p name told ≡ standing p name (entity_of p other)

pub constant_is : (context own : Context) (expr : Expr) (told : Told) (bits : ℕ) → own ≡ context → told ≡ Constant bits → Tells own expr told → IsConstant context expr bits
constant_is context own expr told bits same told_is is = record {
  of = λ p reads.
      sym (stands_as context own expr told p reads same is) ∙ ap (standing_by reads.0 p (name_in (out-ExprForm expr.form))) told_is;
}

found_no_constant : (found : Option ℕ) (bits : ℕ) → body_stands found ≡ ConstantStands bits → ⊥
found_no_constant None bits is = absurd cc
found_no_constant (Some number) bits is = absurd cc

told_no_constant : (n : Numbering) (p : Program) (name : Option (List ℕ)) (told : Told) → ((bits : ℕ) → told ≡ Constant bits → ⊥) → (bits : ℕ) →
    standing_by n p name told ≡ ConstantStands bits → ⊥
told_no_constant n p name (Object token) not bits is = absurd cc
told_no_constant n p name (Constant own) not bits is = absurd (not own refl)
told_no_constant n p None (BuiltIn signature) not bits is = absurd cc
told_no_constant n p (Some name) (BuiltIn signature) not bits is = absurd cc
told_no_constant n p None Body not bits is = absurd cc
told_no_constant n p (Some name) Body not bits is = found_no_constant (number_in (functions_in p.items) name) bits is
told_no_constant n p name Nothing not bits is = absurd cc

pub no_constant_is : (context own : Context) (expr : Expr) (told : Told) → own ≡ context → ((bits : ℕ) → told ≡ Constant bits → ⊥) → Tells own expr told →
    IsNoConstant context expr
no_constant_is context own expr told same not is = record {
  of = λ p reads bits stands.
      told_no_constant reads.0 p (name_in (out-ExprForm expr.form)) told not bits (stands_as context own expr told p reads same is ∙ stands);
}

pub token_is : (context own : Context) (expr : Expr) (told : Told) (token : ℕ) → own ≡ context → told ≡ Object token → Tells own expr told → IsObjectToken context expr (Some token)
token_is context own expr told token same told_is is = record {
  of = λ p reads.
      sym (ap token_of (sym (stands_as context own expr told p reads same is) ∙ ap (standing_by reads.0 p (name_in (out-ExprForm expr.form))) told_is));
}

found_no_token : (found : Option ℕ) → None ≡ token_of (body_stands found)
found_no_token None = refl
found_no_token (Some number) = refl

told_no_token : (n : Numbering) (p : Program) (name : Option (List ℕ)) (told : Told) → ((token : ℕ) → told ≡ Object token → ⊥) → None ≡ token_of (standing_by n p name told)
told_no_token n p name (Object token) not = absurd (not token refl)
told_no_token n p name (Constant bits) not = refl
told_no_token n p None (BuiltIn signature) not = refl
told_no_token n p (Some name) (BuiltIn signature) not = refl
told_no_token n p None Body not = refl
told_no_token n p (Some name) Body not = found_no_token (number_in (functions_in p.items) name)
told_no_token n p name Nothing not = refl

pub no_token_is : (context own : Context) (expr : Expr) (told : Told) → own ≡ context → ((token : ℕ) → told ≡ Object token → ⊥) → Tells own expr told →
    IsObjectToken context expr None
no_token_is context own expr told same not is = record {
  of = λ p reads.
      told_no_token reads.0 p (name_in (out-ExprForm expr.form)) told not ∙ ap token_of (stands_as context own expr told p reads same is);
}

-- forms
pub form_is : (context : Context) (expr : Expr) (form : Form Expr Stmt) (own : ExprForm) (layer : Layer) → expr.form ≡ own → out-ExprForm own ≡ layer →
    ((p : Program) → Reads context p → form ≡ form_of p expr layer) → IsForm context expr form
form_is context expr form own layer is out same = record { of = λ p reads. same p reads ∙ ap (form_of p expr) (sym (ap out-ExprForm is ∙ out)) }

pub known_form : (context own : Context) (expr : Expr) (bits : Option ℕ) → own ≡ context →
    ((n : Numbering) (p : Program) (other : Expr) → StandsFor n own p → other.number ≡ expr.number → bits ≡ constant_of p other) → IsKnown context expr (text.Known bits)
known_form context own expr bits same is = record {
  of = λ p reads.
      ap text.Known (is reads.0 p expr (subst (λ (context : Context). StandsFor reads.0 context p) (sym same) reads.1) refl);
}

pub pointed_form : (context own : Context) (base : Expr) (name : Identifier) (spelled : List ℕ) (bytes : ℕ) → own ≡ context → spelled ≡ name.name →
    ((n : Numbering) (p : Program) (other : Expr) → StandsFor n own p → other.number ≡ base.number
    → bytes ≡ offset (pointed_offset p.abi p.structs (kind_of p.structs (type_of p other)) spelled)) →
    IsMember context base name true (Member base bytes true)
pointed_form context own base name spelled bytes same names is = record {
  of = λ p expr reads.
      ap (λ (bytes : ℕ). Member base bytes true)
      (is reads.0 p base (subst (λ (context : Context). StandsFor reads.0 context p) (sym same) reads.1) refl
      ∙ ap (λ (name : List ℕ). offset (pointed_offset p.abi p.structs (kind_of p.structs (type_of p base)) name)) names);
}

pub member_form : (context own : Context) (base : Expr) (name : Identifier) (spelled : List ℕ) (bytes : ℕ) → own ≡ context → spelled ≡ name.name →
    ((n : Numbering) (p : Program) (other : Expr) → StandsFor n own p → other.number ≡ base.number
    → bytes ≡ offset (member_offset p.abi p.structs (type_of p other) spelled)) →
    IsMember context base name false (Member base bytes false)
member_form context own base name spelled bytes same names is = record {
  of = λ p expr reads.
      ap (λ (bytes : ℕ). Member base bytes false)
      (is reads.0 p base (subst (λ (context : Context). StandsFor reads.0 context p) (sym same) reads.1) refl
      ∙ ap (λ (name : List ℕ). offset (member_offset p.abi p.structs (type_of p base) name)) names);
}
