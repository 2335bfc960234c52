-- Which parts leave as much as others.
use Rattle.std.proofs.Common.{◌≡◌, ℕ, zero, suc, min, ◌≤◌, length, drop, Bool, true, false, List, [], ◌∷◌, refl, sym, ap, ◌∙◌, if◌then◌else◌, arith}
use Rattle.std.specs.Prelude.{max}
use Rattle.cbase.specs.declared.tree.expr.Expr.{Expr}
use Rattle.cbase.specs.declared.tree.operators.BinaryOp.{BinaryOp}
use Rattle.cbase.specs.declared.tree.operators.BinaryOp.TheVariants as b
use Rattle.cbase.specs.declared.tree.operators.UnaryOp.{UnaryOp}
use Rattle.cbase.specs.declared.tree.operators.UnaryOp.TheVariants as u
use Rattle.cbase.specs.declared.tree.stmt.Stmt.{Stmt}
use Rattle.c_machine.specs.declared.kind.Kind.{Kind}
use Rattle.c_machine.specs.declared.kind.Kind.TheVariants.{Integer, Pointer, Array, Struct, Void}
use Rattle.c_machine.specs.Expressions.{value_kind}
use Rattle.c_machine.specs.Program.{Program}
use Rattle.c_machine.specs.Text.{Form, Unary, Binary}
use Rattle.c_machine.specs.Trees.{text_of}
use Rattle.lowering.specs.Kinds.{is_void}
use Rattle.lowering.specs.LetGo.{AsPlace, AsValue, leaves_nothing, left_by_arguments, left_both, left_within}
use Rattle.lowering.specs.Lefts.{As, OfOtherWork, OfTest, OfValue, Stored, TwoSides, TwoValues, Whole, left_part}

-- operators
pub unary_apart : (p : Program) (levels : ℕ) (expr : Expr) (op : UnaryOp) (arg : Expr) (in_spare : Bool) →
    (op ≡ u.Address → ⊥) → (op ≡ u.Follow → ⊥) → (op ≡ u.Not → ⊥) → (op ≡ u.Plus → ⊥) →
    left_part p levels (Whole (AsValue false) arg) ≡ left_part p levels (OfValue expr in_spare (Unary op arg))
unary_apart p levels expr u.Address arg in_spare no_address no_follow no_not no_plus = absurd (no_address refl)
unary_apart p levels expr u.Follow arg in_spare no_address no_follow no_not no_plus = absurd (no_follow refl)
unary_apart p levels expr u.Not arg in_spare no_address no_follow no_not no_plus = absurd (no_not refl)
unary_apart p levels expr u.Plus arg in_spare no_address no_follow no_not no_plus = absurd (no_plus refl)
unary_apart p levels expr u.Minus arg in_spare no_address no_follow no_not no_plus = refl
unary_apart p levels expr u.Flip arg in_spare no_address no_follow no_not no_plus = refl

pub sides_both : (p : Program) (levels : ℕ) (expr : Expr) (op : BinaryOp) (one other : Expr) (in_spare : Bool) →
    (op ≡ b.Both → ⊥) → (op ≡ b.Either → ⊥) → (op ≡ b.Equal → ⊥) → (op ≡ b.NotEqual → ⊥) → (op ≡ b.Comma → ⊥) →
    left_part p levels (TwoValues one other) ≡ left_part p levels (TwoSides expr op one other in_spare)
sides_both p levels expr b.Both one other in_spare no_both no_either no_equal no_differ no_comma = absurd (no_both refl)
sides_both p levels expr b.Either one other in_spare no_both no_either no_equal no_differ no_comma = absurd (no_either refl)
sides_both p levels expr b.Equal one other in_spare no_both no_either no_equal no_differ no_comma = absurd (no_equal refl)
sides_both p levels expr b.NotEqual one other in_spare no_both no_either no_equal no_differ no_comma = absurd (no_differ refl)
sides_both p levels expr b.Comma one other in_spare no_both no_either no_equal no_differ no_comma = absurd (no_comma refl)
sides_both p levels expr b.Mul one other in_spare no_both no_either no_equal no_differ no_comma = refl
sides_both p levels expr b.Div one other in_spare no_both no_either no_equal no_differ no_comma = refl
sides_both p levels expr b.Rem one other in_spare no_both no_either no_equal no_differ no_comma = refl
sides_both p levels expr b.Add one other in_spare no_both no_either no_equal no_differ no_comma = refl
sides_both p levels expr b.Sub one other in_spare no_both no_either no_equal no_differ no_comma = refl
sides_both p levels expr b.Left one other in_spare no_both no_either no_equal no_differ no_comma = refl
sides_both p levels expr b.Right one other in_spare no_both no_either no_equal no_differ no_comma = refl
sides_both p levels expr b.Less one other in_spare no_both no_either no_equal no_differ no_comma = refl
sides_both p levels expr b.Greater one other in_spare no_both no_either no_equal no_differ no_comma = refl
sides_both p levels expr b.LessEqual one other in_spare no_both no_either no_equal no_differ no_comma = refl
sides_both p levels expr b.GreaterEqual one other in_spare no_both no_either no_equal no_differ no_comma = refl
sides_both p levels expr b.And one other in_spare no_both no_either no_equal no_differ no_comma = refl
sides_both p levels expr b.Xor one other in_spare no_both no_either no_equal no_differ no_comma = refl
sides_both p levels expr b.Or one other in_spare no_both no_either no_equal no_differ no_comma = refl

-- a condition that is no operator on conditions
pub test_apart : (p : Program) (levels : ℕ) (expr : Expr) (op : BinaryOp) (one other : Expr) →
    (op ≡ b.Both → ⊥) → (op ≡ b.Either → ⊥) → (op ≡ b.Equal → ⊥) → (op ≡ b.NotEqual → ⊥) →
    left_part p levels (Whole (AsValue false) expr) ≡ left_part p levels (OfTest expr (Binary op one other))
test_apart p levels expr b.Both one other no_both no_either no_equal no_differ = absurd (no_both refl)
test_apart p levels expr b.Either one other no_both no_either no_equal no_differ = absurd (no_either refl)
test_apart p levels expr b.Equal one other no_both no_either no_equal no_differ = absurd (no_equal refl)
test_apart p levels expr b.NotEqual one other no_both no_either no_equal no_differ = absurd (no_differ refl)
test_apart p levels expr b.Comma one other no_both no_either no_equal no_differ = refl
test_apart p levels expr b.Mul one other no_both no_either no_equal no_differ = refl
test_apart p levels expr b.Div one other no_both no_either no_equal no_differ = refl
test_apart p levels expr b.Rem one other no_both no_either no_equal no_differ = refl
test_apart p levels expr b.Add one other no_both no_either no_equal no_differ = refl
test_apart p levels expr b.Sub one other no_both no_either no_equal no_differ = refl
test_apart p levels expr b.Left one other no_both no_either no_equal no_differ = refl
test_apart p levels expr b.Right one other no_both no_either no_equal no_differ = refl
test_apart p levels expr b.Less one other no_both no_either no_equal no_differ = refl
test_apart p levels expr b.Greater one other no_both no_either no_equal no_differ = refl
test_apart p levels expr b.LessEqual one other no_both no_either no_equal no_differ = refl
test_apart p levels expr b.GreaterEqual one other no_both no_either no_equal no_differ = refl
test_apart p levels expr b.And one other no_both no_either no_equal no_differ = refl
test_apart p levels expr b.Xor one other no_both no_either no_equal no_differ = refl
test_apart p levels expr b.Or one other no_both no_either no_equal no_differ = refl

-- by the kind of its value, and by whether it leaves one
pub work_void : (p : Program) (levels : ℕ) (expr : Expr) (form : Form Expr Stmt) → is_void (value_kind (text_of p) expr) ≡ true →
    left_part p levels (OfValue expr false form) ≡ left_part p levels (OfOtherWork expr form)
work_void p levels expr form void = ap
    (λ (void : Bool). if void then left_part p levels (OfValue expr false form)
    else (if leaves_nothing (text_of p) form then left_part p levels (OfValue expr false form) else left_both 1 (left_within levels (text_of p) (AsValue true) expr)))
    (sym void)

pub work_nothing : (p : Program) (levels : ℕ) (expr : Expr) (form : Form Expr Stmt) → is_void (value_kind (text_of p) expr) ≡ false → leaves_nothing (text_of p) form ≡ true →
    left_part p levels (OfValue expr false form) ≡ left_part p levels (OfOtherWork expr form)
work_nothing p levels expr form void nothing =
    ap (λ (nothing : Bool). if nothing then left_part p levels (OfValue expr false form) else left_both 1 (left_within levels (text_of p) (AsValue true) expr)) (sym nothing)
    ∙ ap
    (λ (void : Bool). if void then left_part p levels (OfValue expr false form)
    else (if leaves_nothing (text_of p) form then left_part p levels (OfValue expr false form) else left_both 1 (left_within levels (text_of p) (AsValue true) expr)))
    (sym void)

pub work_dropped : (p : Program) (levels : ℕ) (expr : Expr) (form : Form Expr Stmt) → is_void (value_kind (text_of p) expr) ≡ false → leaves_nothing (text_of p) form ≡ false →
    max 1 (left_part p levels (Whole (AsValue true) expr)) ≡ left_part p levels (OfOtherWork expr form)
work_dropped p levels expr form void nothing =
    ap (λ (nothing : Bool). if nothing then left_part p levels (OfValue expr false form) else left_both 1 (left_within levels (text_of p) (AsValue true) expr)) (sym nothing)
    ∙ ap
    (λ (void : Bool). if void then left_part p levels (OfValue expr false form)
    else (if leaves_nothing (text_of p) form then left_part p levels (OfValue expr false form) else left_both 1 (left_within levels (text_of p) (AsValue true) expr)))
    (sym void)

-- what is stored that is no struct
pub stored_scalar : (p : Program) (levels : ℕ) (one other : Expr) (kind : Kind) → ((bytes : ℕ) → kind ≡ Struct bytes → ⊥) →
    max (left_part p levels (Whole (AsPlace false) one)) (left_part p levels (As other false kind)) ≡ left_part p levels (Stored one other kind)
stored_scalar p levels one other (Integer of) not = refl
stored_scalar p levels one other (Pointer bytes) not = refl
stored_scalar p levels one other (Array bytes) not = refl
stored_scalar p levels one other (Struct bytes) not = absurd (not bytes refl)
stored_scalar p levels one other Void not = refl

-- behind the last argument of a parameter
pub arguments_end : (p : Program) (levels : ℕ) (args : List Expr) (params : List Kind) (at : ℕ) → min (length args) (length params) ≤ at →
    0 ≡ left_by_arguments (text_of p) (left_within levels (text_of p)) (drop at args) (drop at params)
arguments_end p levels [] params zero past = refl
arguments_end p levels [] params (suc at) past = refl
arguments_end p levels (arg ∷ args) [] zero past = refl
arguments_end p levels (arg ∷ args) [] (suc at) past = by_args (drop at args)
  where
    by_args : (args : List Expr) → 0 ≡ left_by_arguments (text_of p) (left_within levels (text_of p)) args []
    by_args [] = refl
    by_args (arg ∷ args) = refl
arguments_end p levels (arg ∷ args) (param ∷ params) zero past = absurd (none (length args) (length params) past)
  where
    none : (a b : ℕ) → min (suc a) (suc b) ≤ 0 → ⊥
    none a b past = omega (arith, past)
arguments_end p levels (arg ∷ args) (param ∷ params) (suc at) past = arguments_end p levels args params at (less (length args) (length params) at past)
  where
    less : (a b at : ℕ) → min (suc a) (suc b) ≤ suc at → min a b ≤ at
    less a b at past = omega (arith, past)
