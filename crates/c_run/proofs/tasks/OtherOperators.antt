-- Operators whose operands have all their values before.
use Rattle.std.proofs.Common.{◌≡◌, [], ◌∷◌, refl}
use Rattle.cbase.specs.declared.tree.operators.UnaryOp.{UnaryOp}
use Rattle.cbase.specs.declared.tree.operators.UnaryOp.TheVariants.{Address, Follow, Plus, Minus, Flip, Not}
use Rattle.cbase.specs.declared.tree.operators.BinaryOp.{BinaryOp}
use Rattle.cbase.specs.declared.tree.operators.BinaryOp.TheVariants.{Mul, Div, Rem, Add, Sub, Left, Right, Less, Greater, LessEqual, GreaterEqual, Equal, NotEqual, And, Xor, Or, Both, Either, Comma}
use Rattle.c_machine.specs.declared.task.Task.TheVariants.{Apply, Operate, ValueOf}
use Rattle.c_machine.specs.Expressions.{binary_parts, value_kind, value_parts}
use Rattle.c_machine.specs.Text.{Text, Unary}

pub other_unary : (t : Text) (expr arg : t.Expr) (op : UnaryOp) → (op ≡ Address → ⊥) → (op ≡ Follow → ⊥) → (op ≡ Not → ⊥) →
    value_parts t expr (Unary op arg) ≡ ValueOf arg ∷ Apply op (value_kind t arg) ∷ []
other_unary t expr arg Address no_address no_follow no_not = absurd (no_address refl)
other_unary t expr arg Follow no_address no_follow no_not = absurd (no_follow refl)
other_unary t expr arg Not no_address no_follow no_not = absurd (no_not refl)
other_unary t expr arg Plus no_address no_follow no_not = refl
other_unary t expr arg Minus no_address no_follow no_not = refl
other_unary t expr arg Flip no_address no_follow no_not = refl

pub other_binary : (t : Text) (left right : t.Expr) (op : BinaryOp) → (op ≡ Both → ⊥) → (op ≡ Either → ⊥) → (op ≡ Comma → ⊥) →
    binary_parts t op left right ≡ ValueOf left ∷ ValueOf right ∷ Operate op (value_kind t left) (value_kind t right) ∷ []
other_binary t left right Both no_both no_either no_comma = absurd (no_both refl)
other_binary t left right Either no_both no_either no_comma = absurd (no_either refl)
other_binary t left right Comma no_both no_either no_comma = absurd (no_comma refl)
other_binary t left right Mul no_both no_either no_comma = refl
other_binary t left right Div no_both no_either no_comma = refl
other_binary t left right Rem no_both no_either no_comma = refl
other_binary t left right Add no_both no_either no_comma = refl
other_binary t left right Sub no_both no_either no_comma = refl
other_binary t left right Left no_both no_either no_comma = refl
other_binary t left right Right no_both no_either no_comma = refl
other_binary t left right Less no_both no_either no_comma = refl
other_binary t left right Greater no_both no_either no_comma = refl
other_binary t left right LessEqual no_both no_either no_comma = refl
other_binary t left right GreaterEqual no_both no_either no_comma = refl
other_binary t left right Equal no_both no_either no_comma = refl
other_binary t left right NotEqual no_both no_either no_comma = refl
other_binary t left right And no_both no_either no_comma = refl
other_binary t left right Xor no_both no_either no_comma = refl
other_binary t left right Or no_both no_either no_comma = refl
