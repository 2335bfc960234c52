-- Where nothing is let go of beside a value in a register of its own, nothing is beside it in the spare one.
use Rattle.std.proofs.Common.{◌≡◌, ◌≤◌, ℕ, zero, suc, ◌+◌, max, List, [], ◌∷◌, Bool, true, false, ◌&&◌, nat_eq, refl, ap, arith, Option, None, Some}
use Rattle.std.proofs.lemmas.Bool.{eqb-true}
use Rattle.cbase.specs.declared.tree.operators.BinaryOp.TheVariants.{Comma}
use Rattle.cbase.specs.declared.tree.operators.UnaryOp.TheVariants.{Address, Follow, Plus}
use Rattle.typing.specs.ctypes.Integers.{promoted}
use Rattle.c_machine.specs.declared.built_in.BuiltIn.{BuiltIn}
use Rattle.c_machine.specs.declared.built_in.BuiltIn.TheVariants.{Expect, Memset, Memcpy, Memmove}
use Rattle.c_machine.specs.declared.kind.Kind.{Kind}
use Rattle.c_machine.specs.declared.kind.Kind.TheVariants.{Integer}
use Rattle.c_machine.specs.Text.{Standing, BuiltInStands, Form, Name, Unary, Binary, Choose, Cast, Index, Member, Call, Text}
use Rattle.c_machine.specs.Expressions.{value_kind, built_in}
use Rattle.c_machine.specs.Words.{scalar_bytes}
use Rattle.lowering.specs.Kinds.{conversion, as_operand}
use Rattle.lowering.specs.declared.conversion.Conversion.{Conversion}
use Rattle.lowering.specs.declared.conversion.Conversion.TheVariants.{Nothing, Resized, Tested, Dropped, Unknown}
use Rattle.lowering.specs.LetGo.{Wanted, AsValue, AsPlace, AsWork, AsTest, left_converted, left_as, left_by_load, in_spare_still, stays, left_by_built_in, left_by_call, left_by_value, left_by_place, left_within, left_of}

one_zero : (one other : ℕ) → max one other ≡ 0 → one ≡ 0
one_zero one other is = omega arith

other_zero : (one other : ℕ) → max one other ≡ 0 → other ≡ 0
other_zero one other is = omega arith

both_zero : (one other : ℕ) → one ≡ 0 → other ≡ 0 → max one other ≡ 0
both_zero one other is is' = omega arith

never_zero : {A : Type 0} (one other : ℕ) → max one (max 1 other) ≡ 0 → A
never_zero one other is = absurd (omega arith)

module _ (t : Text) where
  -- of parts that are told
  module _ (left : Wanted → t.Expr → ℕ) (values : (expr : t.Expr) → left (AsValue false) expr ≡ 0 → left (AsValue true) expr ≡ 0) (places : (expr : t.Expr) → left (AsPlace false) expr ≡ 0 → left (AsPlace true) expr ≡ 0) where
    converted_none : (expr : t.Expr) (change : Conversion) → left_converted t left expr false change ≡ 0 → left_converted t left expr true change ≡ 0
    converted_none expr Nothing is = values expr is
    converted_none expr (Resized bytes signed) is = is
    converted_none expr Tested is = is
    converted_none expr Dropped is = is
    converted_none expr Unknown is = is

    as_none : (expr : t.Expr) (kind : Kind) → left_as t left expr false kind ≡ 0 → left_as t left expr true kind ≡ 0
    as_none expr kind is = converted_none expr (conversion (value_kind t expr) kind) is

    load_none : (expr : t.Expr) (size : Option ℕ) → left_by_load t left expr false size ≡ 0 → left_by_load t left expr true size ≡ 0
    load_none expr None is = places expr is
    load_none expr (Some bytes) is = is

    value_where : (expr : t.Expr) (still : Bool) → left (AsValue (still && false)) expr ≡ 0 → left (AsValue (still && true)) expr ≡ 0
    value_where expr true is = values expr is
    value_where expr false is = is

    plus_none : (arg : t.Expr) (kind : Kind) → left (AsValue (in_spare_still Plus kind false)) arg ≡ 0 → left (AsValue (in_spare_still Plus kind true)) arg ≡ 0
    plus_none arg (Integer of) is = value_where arg (stays (as_operand of (promoted of))) is
    plus_none arg kind is = is

    built_in_none : (what : BuiltIn) (args : List t.Expr) (params : List Kind) → left_by_built_in t left what args params false ≡ 0 → left_by_built_in t left what args params true ≡ 0
    built_in_none Expect (arg ∷ expected ∷ []) (param ∷ param' ∷ []) is = never_zero (left_as t left arg false param) (left_as t left expected true param') is
    built_in_none Expect args params is = is
    built_in_none Memset (arg ∷ byte ∷ args) (param ∷ param' ∷ params) is = is
    built_in_none Memset args params is = is
    built_in_none Memcpy (to ∷ from ∷ args) (param ∷ param' ∷ params) is = is
    built_in_none Memcpy args params is = is
    built_in_none Memmove (to ∷ from ∷ args) (param ∷ param' ∷ params) is = is
    built_in_none Memmove args params is = is
    built_in_none what args params is = is

    call_none : (args : List t.Expr) (standing : Standing) → left_by_call t left args false standing ≡ 0 → left_by_call t left args true standing ≡ 0
    call_none args (BuiltInStands name params result) is = built_in_none (built_in name) args params is
    call_none args standing is = is

    value_none : (expr : t.Expr) (form : Form t.Expr t.Stmt) → left_by_value t left expr false form ≡ 0 → left_by_value t left expr true form ≡ 0
    value_none expr (Unary Address arg) is = places arg is
    value_none expr (Unary Follow arg) is = load_none expr (scalar_bytes (t.kind expr)) is
    value_none expr (Unary Plus arg) is = plus_none arg (value_kind t arg) is
    value_none expr (Binary Comma one other) is =
        both_zero (left AsWork one) (left (AsValue true) other) (one_zero (left AsWork one) (left (AsValue false) other) is) (values other (other_zero (left AsWork one) (left (AsValue false) other) is))
    value_none expr (Choose test one other) is =
        let kind : Kind = value_kind t expr in
        let arms : max (left_as t left one false kind) (left_as t left other false kind) ≡ 0 = other_zero (left AsTest test) (max (left_as t left one false kind) (left_as t left other false kind)) is in
        both_zero (left AsTest test) (max (left_as t left one true kind) (left_as t left other true kind)) (one_zero (left AsTest test) (max (left_as t left one false kind) (left_as t left other false kind)) is)
        (both_zero (left_as t left one true kind) (left_as t left other true kind)
        (as_none one kind (one_zero (left_as t left one false kind) (left_as t left other false kind) arms)) (as_none other kind (other_zero (left_as t left one false kind) (left_as t left other false kind) arms)))
    value_none expr (Cast arg) is = as_none arg (t.kind expr) is
    value_none expr (Index base index) is = load_none expr (scalar_bytes (t.kind expr)) is
    value_none expr (Member base offset through) is = load_none expr (scalar_bytes (t.kind expr)) is
    value_none expr (Call callee args) is = call_none args (t.stands callee) is
    value_none expr form is = is

    place_where : (expr : t.Expr) (still : Bool) → left (AsPlace false) expr ≡ 0 → left (AsPlace still) expr ≡ 0
    place_where expr true is = places expr is
    place_where expr false is = is

    pointer_where : (expr : t.Expr) (still : Bool) → left (AsValue false) expr ≡ 0 → left (AsValue still) expr ≡ 0
    pointer_where expr true is = values expr is
    pointer_where expr false is = is

    place_none : (form : Form t.Expr t.Stmt) → left_by_place t left false form ≡ 0 → left_by_place t left true form ≡ 0
    place_none (Unary Follow arg) is = values arg is
    place_none (Member base offset false) is = place_where base (nat_eq offset 0) is
    place_none (Member base offset true) is = pointer_where base (nat_eq offset 0) is
    place_none form is = is

  none_left : (levels : ℕ) → ((expr : t.Expr) → left_within levels t (AsValue false) expr ≡ 0 → left_within levels t (AsValue true) expr ≡ 0)
      × ((expr : t.Expr) → left_within levels t (AsPlace false) expr ≡ 0 → left_within levels t (AsPlace true) expr ≡ 0)
  none_left zero = (λ expr is. refl, λ expr is. refl)
  none_left (suc levels) =
      let before = none_left levels in (
        λ expr is. value_none (left_within levels t) before.0 before.1 expr (t.form expr) is,
        λ expr is. place_none (left_within levels t) before.0 before.1 (t.form expr) is,
      )

  -- a register behind those of what is let go of is the spare one only where nothing is let go of
  pub own_value : (expr : t.Expr) (spare left register : ℕ) → spare + left ≤ register → left_of t (AsValue false) expr ≤ left → left_of t (AsValue (nat_eq register spare)) expr ≤ left
  own_value expr spare left register above less = by_same (nat_eq register spare) refl
    where
      by_same : (same : Bool) → nat_eq register spare ≡ same → left_of t (AsValue same) expr ≤ left
      by_same false is = less
      by_same true is =
          let here : register ≡ spare = eqb-true register spare is in
          let none : left_of t (AsValue true) expr ≡ 0 = (none_left t.enough).0 expr (let h : left_of t (AsValue false) expr ≡ 0 = omega arith in h) in omega arith

  pub own_place : (expr : t.Expr) (spare left register : ℕ) → spare + left ≤ register → left_of t (AsPlace false) expr ≤ left → left_of t (AsPlace (nat_eq register spare)) expr ≤ left
  own_place expr spare left register above less = by_same (nat_eq register spare) refl
    where
      by_same : (same : Bool) → nat_eq register spare ≡ same → left_of t (AsPlace same) expr ≤ left
      by_same false is = less
      by_same true is =
          let here : register ≡ spare = eqb-true register spare is in
          let none : left_of t (AsPlace true) expr ≡ 0 = (none_left t.enough).1 expr (let h : left_of t (AsPlace false) expr ≡ 0 = omega arith in h) in omega arith

  pub own_as : (expr : t.Expr) (kind : Kind) (spare left register : ℕ) → spare + left ≤ register → left_as t (left_of t) expr false kind ≤ left → left_as t (left_of t) expr (nat_eq register spare) kind ≤ left
  own_as expr kind spare left register above less = by_same (nat_eq register spare) refl
    where
      by_same : (same : Bool) → nat_eq register spare ≡ same → left_as t (left_of t) expr same kind ≤ left
      by_same false is = less
      by_same true is =
          let here : register ≡ spare = eqb-true register spare is in
          let none : left_as t (left_of t) expr true kind ≡ 0 =
          as_none (left_of t) (none_left t.enough).0 (none_left t.enough).1 expr kind (let h : left_as t (left_of t) expr false kind ≡ 0 = omega arith in h) in omega arith

  -- the address of a name lets go of nothing
  name_within : (levels : ℕ) (expr : t.Expr) (in_spare : Bool) → t.form expr ≡ Name → left_within levels t (AsPlace in_spare) expr ≡ 0
  name_within zero expr in_spare is = refl
  name_within (suc levels) expr in_spare is = ap (left_by_place t (left_within levels t) in_spare) is

  name_by : (expr : t.Expr) (in_spare : Bool) (size : Option ℕ) → t.form expr ≡ Name → left_by_load t (left_of t) expr in_spare size ≡ 0
  name_by expr in_spare None is = name_within t.enough expr in_spare is
  name_by expr in_spare (Some bytes) is = name_within t.enough expr false is

  pub name_load : (expr : t.Expr) (in_spare : Bool) → t.form expr ≡ Name → left_by_load t (left_of t) expr in_spare (scalar_bytes (t.kind expr)) ≡ 0
  name_load expr in_spare is = name_by expr in_spare (scalar_bytes (t.kind expr)) is
