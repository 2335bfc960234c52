-- Programs with graphs: what each comes to, in the source and along its graph, and that what stands at each point is what each edge leaves there. Each declares
-- what stands in `begun`, and ends with a test that holds, behind which a null pointer is followed at token 7.
use Rattle.std.specs.Prelude.{◌≡◌, ℕ, Option, pos, ◌-◌, ◌^◌, true, false, List, [], ◌∷◌, replicate, None, Some}
use Rattle.cbase.specs.declared.abi.Abi.TheVariants.{Lp64}
use Rattle.cbase.specs.declared.tree.operators.BinaryOp.TheVariants.{Add, Sub, Left, Less, Greater, GreaterEqual, Equal, Both, Either, Comma}
use Rattle.cbase.specs.declared.tree.operators.UnaryOp.TheVariants.{Address, Follow, Plus, Minus, Flip, Not}
use Rattle.choices.specs.declared.choice.Choice.{Choice}
use Rattle.choices.specs.declared.choice.Choice.TheVariants.{None as NoBlock, Block as NewBlock, Input}
use Rattle.typing.specs.Sample.{token}
use Rattle.c_machine.specs.declared.kind.Kind.TheVariants.{Pointer, Array, Struct, Void}
use Rattle.c_machine.specs.Run.{run_of}
use Rattle.c_machine.specs.State.{Faulted as SourceFaulted}
use Rattle.c_machine.specs.Text.{NothingStands, Function}
use Rattle.flow.specs.Machine.{Faulted}
use Rattle.flow.specs.declared.flow_graph.Flow.{Flow}
use Rattle.flow.specs.declared.flow_graph.Initial.{Initial}
use Rattle.flow.specs.declared.flow_graph.InitialWord.TheVariants as held
use Rattle.lowering.specs.Examples.{IsGraph, comes_to}
use Rattle.lowering.specs.Lowering.{flow_in}
use Rattle.lowering.specs.Samples.{Tree, AnExpr, AValue, SomeBraces, trees, AnAssertion, Sample, text_in, an_int, a_char, a_long, a_truth, number, variable, unary, binary, set_to, copied_to, update, counted, choice, cast_to, index, member, inner, null, at, malloc, memset, memcpy, expect, assume, abort, any_int, call, eval, give, give_nothing, leave, go_on, block, where_true, where_either, while_true, do_while, for_each, nothing, declare, declare_as, declare_braces, local_at, parameter, main, function}

abbrev pub x : Tree
x = variable an_int 1

abbrev pub i : Tree
i = variable an_int 2

abbrev pub b : Tree
b = variable a_truth 3

abbrev pub p : Tree
p = variable (Pointer 4) 4

abbrev pub c : Tree
c = variable a_char 5

abbrev pub l : Tree
l = variable a_long 6

-- structs of an int and, 8 bytes behind the front, a pointer to such a struct
abbrev pub s : Tree
s = variable (Struct 16) 9

abbrev pub t : Tree
t = variable (Struct 16) 10

-- an array of two ints
abbrev pub a : Tree
a = variable (Array 4) 11

abbrev pub met : Tree
met = eval (set_to (at 7 (unary an_int Follow null)) (number 1))

abbrev pub check : Tree → ℕ → Tree
check expr value = where_true (binary an_int Equal expr (number value)) met

abbrev pub begun : List Tree → List (Function Tree) → Sample
begun body functions = record {
  locals = local_at 1 4 ∷ local_at 2 4 ∷ local_at 3 1 ∷ local_at 4 8 ∷ local_at 5 1 ∷ local_at 6 8 ∷ local_at 9 16 ∷ local_at 10 16 ∷ local_at 11 8 ∷ local_at 13 8 ∷ [];
  statics = [];
  sets = [];
  functions = main (declare 1 ∷ declare 2 ∷ declare 3 ∷ declare 4 ∷ declare 5 ∷ declare 6 ∷ declare 9 ∷ declare 10 ∷ declare 11 ∷ body) ∷ functions;
  enough = 30;
  strict = false;
}

abbrev pub zeros : ℕ → ℕ → Choice
zeros base bytes = NewBlock base (replicate bytes 0)

abbrev pub begins : List Choice → List Choice
begins choices = zeros 16 4 ∷ zeros 48 4 ∷ zeros 80 1 ∷ zeros 112 8 ∷ zeros 144 1 ∷ zeros 176 8 ∷ zeros 208 16 ∷ zeros 240 16 ∷ zeros 272 8 ∷ choices

pub record Meets (sample : Sample) (choices : List Choice) : Type 0 where
  pub source : run_of (text_in sample) choices 300 ≡ SourceFaulted 1 (token 7)
  pub along : comes_to (flow_in Lp64 (text_in sample)) choices ≡ Faulted 1 (token 7)
  pub fits : IsGraph (flow_in Lp64 (text_in sample))

abbrev pub Comes : List Tree → List (Function Tree) → List Choice → Type 0
Comes body functions choices = Meets (begun body functions) (begins choices)

pub record DoUpdatesMeet : Type 0 where
  -- x = 5; x += 3; x == 8
  pub plus_is : Comes (eval (set_to x (number 5)) ∷ eval (update Add x (number 3)) ∷ check x 8 ∷ []) [] []
  -- c = 100; c += 100; c == -56
  pub char_wraps : Comes (eval (set_to c (number 100)) ∷ eval (update Add c (number 100)) ∷ check c (2 ^ 32 - 56) ∷ []) [] []
  -- b += 2; b == 1
  pub truth_plus : Comes (eval (update Add b (number 2)) ∷ check b 1 ∷ []) [] []
  -- i = (x += 3) + (b += 7); i == 4
  pub update_value : Comes (eval (set_to i (binary an_int Add (update Add x (number 3)) (update Add b (number 7)))) ∷ check i 4 ∷ []) [] []
  -- x = 3; x <<= 2L; x == 12
  pub shift_is : Comes (eval (set_to x (number 3)) ∷ eval (update Left x (cast_to a_long (number 2))) ∷ check x 12 ∷ []) [] []

pub record DoCountsMeet : Type 0 where
  -- x = 5; i = x++; i == 5 && x == 6
  pub old_value : Comes (eval (set_to x (number 5)) ∷ eval (set_to i (counted true true x)) ∷ where_true (binary an_int Both (binary an_int Equal i (number 5)) (binary an_int Equal x (number 6))) met ∷ []) [] []
  -- x = 5; i = --x; i == 4 && x == 4
  pub new_value : Comes (eval (set_to x (number 5)) ∷ eval (set_to i (counted false false x)) ∷ where_true (binary an_int Both (binary an_int Equal i (number 4)) (binary an_int Equal x (number 4))) met ∷ []) [] []
  -- c = 127; c++; c == -128
  pub char_counts : Comes (eval (set_to c (number 127)) ∷ eval (counted true true c) ∷ check c (2 ^ 32 - 128) ∷ []) [] []
  -- b++; x = b++; x == 1 && b == 1
  pub truth_counts : Comes (eval (counted true true b) ∷ eval (set_to x (counted true true b)) ∷ where_true (binary an_int Both (binary an_int Equal x (number 1)) (binary an_int Equal b (number 1))) met ∷ []) [] []
  -- p = a; *p++ = 3; *p = 9; a[1] == 9 && a[0] == 3
  pub pointer_counts : Comes (eval (set_to p a) ∷ eval (set_to (unary an_int Follow (counted true true p)) (number 3)) ∷ eval (set_to (unary an_int Follow p) (number 9)) ∷ where_true (binary an_int Both (binary an_int Equal (index an_int a (number 1)) (number 9)) (binary an_int Equal (index an_int a (number 0)) (number 3))) met ∷ []) [] []
  -- c = 0; p = a; p += 2; p = p - 1; p = c + p; p == a + 1
  pub pointer_moves : Comes (eval (set_to c (number 0)) ∷ eval (set_to p a) ∷ eval (update Add p (number 2)) ∷ eval (set_to p (binary (Pointer 4) Sub p (number 1))) ∷ eval (set_to p (binary (Pointer 4) Add c p)) ∷ where_true (binary an_int Equal p (binary (Pointer 4) Add a (number 1))) met ∷ []) [] []

pub record DoTestsMeet : Type 0 where
  -- x = i == 0 && b == 0; x == 1
  pub both_value : Comes (eval (set_to x (binary an_int Both (binary an_int Equal i (number 0)) (binary an_int Equal b (number 0)))) ∷ check x 1 ∷ []) [] []
  -- x = i || __builtin_expect(i == 0, 1); x == 1
  pub either_lets_go : Comes (eval (set_to x (binary an_int Either i (expect (binary an_int Equal i (number 0)) (number 1)))) ∷ check x 1 ∷ []) [] []
  -- x = ((void)c, i == 0) && ((void)l, 1); x == 1
  pub both_lets_go : Comes (eval (set_to x (binary an_int Both (binary an_int Comma (cast_to Void c) (binary an_int Equal i (number 0))) (binary an_int Comma (cast_to Void l) (number 1)))) ∷ check x 1 ∷ []) [] []
  -- x = !!4; x == 1
  pub not_is : Comes (eval (set_to x (unary an_int Not (unary an_int Not (number 4)))) ∷ check x 1 ∷ []) [] []
  -- b = c == 1; b == 0
  pub truth_of_equality : Comes (eval (set_to b (binary an_int Equal c (number 1))) ∷ check b 0 ∷ []) [] []
  -- p = a; b = p; b == 1
  pub truth_of_pointer : Comes (eval (set_to p a) ∷ eval (set_to b p) ∷ check b 1 ∷ []) [] []

pub record DoChoicesMeet : Type 0 where
  -- x = i ? 1 : c; x == 0, with arms of two types
  pub choice_is : Comes (eval (set_to x (number 3)) ∷ eval (set_to x (choice an_int i (number 1) c)) ∷ check x 0 ∷ []) [] []
  -- x = i ? __builtin_expect(x, 1) : 2; x == 2
  pub choice_lets_go : Comes (eval (set_to x (choice a_long i (expect x (number 1)) (cast_to a_long (number 2)))) ∷ check x 2 ∷ []) [] []
  -- i ? (void)x : f(); ..    f() sets nothing
  pub void_choice : Comes (eval (choice Void i (cast_to Void x) (call 1 Void [])) ∷ met ∷ []) (function Void [] [] ∷ []) []
  -- i ? x : ((void)c, 2); ..    in the spare register itself
  pub dropped_choice : Comes (eval (choice an_int i x (binary an_int Comma (cast_to Void c) (number 2))) ∷ met ∷ []) [] []
  -- i ? 3L : __builtin_expect(x, __builtin_expect(1, 2)); ..
  pub dropped_expect : Comes (eval (choice a_long i (cast_to a_long (number 3)) (expect x (expect (number 1) (number 2)))) ∷ met ∷ []) [] []
  -- (void)x, x = 3, i = x; i == 3
  pub comma_is : Comes (eval (binary an_int Comma (binary an_int Comma (cast_to Void x) (set_to x (number 3))) (set_to i x)) ∷ check i 3 ∷ []) [] []

pub record DoOperatorsMeet : Type 0 where
  -- x = 3 > 2; x == 1
  pub greater_is : Comes (eval (set_to x (binary an_int Greater (number 3) (number 2))) ∷ check x 1 ∷ []) [] []
  -- x = 2 >= 3; x == 0
  pub greater_or_equal : Comes (eval (set_to x (binary an_int GreaterEqual (number 2) (number 3))) ∷ check x 0 ∷ []) [] []
  -- c = 5; x = -c; x == -5
  pub minus_is : Comes (eval (set_to c (number 5)) ∷ eval (set_to x (unary an_int Minus c)) ∷ check x (2 ^ 32 - 5) ∷ []) [] []
  -- x = ~5; x == -6
  pub flip_is : Comes (eval (set_to x (unary an_int Flip (number 5))) ∷ check x (2 ^ 32 - 6) ∷ []) [] []
  -- c = 5; x = +c; x == 5
  pub plus_sign : Comes (eval (set_to c (number 5)) ∷ eval (set_to x (unary an_int Plus c)) ∷ check x 5 ∷ []) [] []
  -- x = -1; l = x; l == -1L; x = l; l = (long)p
  pub long_is : Comes (eval (set_to x (unary an_int Minus (number 1))) ∷ eval (set_to l x) ∷ eval (set_to p null) ∷ eval (set_to x l) ∷ where_true (binary an_int Both (binary an_int Equal l (number (2 ^ 32 - 1))) (binary an_int Equal (cast_to a_long p) (number 0))) met ∷ []) [] []

pub record DoMembersMeet : Type 0 where
  -- s.a = 4; s.n = &s; p = s.n; s.n->a == 4
  pub members : Comes (eval (set_to (member an_int s 0 false) (number 4)) ∷ eval (set_to (member (Pointer 16) s 8 false) (unary (Pointer 16) Address s)) ∷ check (member an_int (member (Pointer 16) s 8 false) 0 true) 4 ∷ []) [] []
  -- s.n = &s; s.n->n == &s
  pub inner_member : Comes (eval (set_to (member (Pointer 16) s 8 false) (unary (Pointer 16) Address s)) ∷ where_true (binary an_int Equal (member (Pointer 16) (member (Pointer 16) s 8 false) 8 true) (unary (Pointer 16) Address s)) met ∷ []) [] []
  -- s.a = 4; t = s; t.a == 4
  pub struct_copy : Comes (eval (set_to (member an_int s 0 false) (number 4)) ∷ eval (copied_to t s) ∷ check (member an_int t 0 false) 4 ∷ []) [] []
  -- memset(&s, 1, 8 + 8); s.a == 0x01010101
  pub memset_fills : Comes (eval (memset (unary (Pointer 16) Address s) (number 1) (binary an_int Add (number 8) (number 8))) ∷ check (member an_int s 0 false) 16843009 ∷ []) [] []
  -- s.a = 4; p = memcpy(&t, &s, 16); *p == 4
  pub memcpy_answers : Comes (eval (set_to (member an_int s 0 false) (number 4)) ∷ eval (set_to p (memcpy (unary (Pointer 16) Address t) (unary (Pointer 16) Address s) (number 16))) ∷ check (unary an_int Follow p) 4 ∷ []) [] []

pub record DoCallsMeet : Type 0 where
  -- __builtin_expect(x, 1); ..
  pub expect_alone : Comes (eval (expect x (number 1)) ∷ met ∷ []) [] []
  -- __builtin_expect(x, __builtin_expect(1, 2)); ..
  pub expect_within : Comes (eval (expect x (expect (number 1) (number 2))) ∷ met ∷ []) [] []
  -- x = __builtin_expect(4, 1); x == 4
  pub expect_is : Comes (eval (set_to x (expect (number 4) (number 1))) ∷ check x 4 ∷ []) [] []
  -- x = 1; __VERIFIER_assume(x == 1); ..
  pub assume_holds : Comes (eval (set_to x (number 1)) ∷ eval (assume (binary an_int Equal x (number 1))) ∷ met ∷ []) [] []
  -- x = __VERIFIER_nondet_int(); x == 9
  pub input_is : Comes (eval (set_to x any_int) ∷ check x 9 ∷ []) [] (Input 9 ∷ [])
  -- x = 0; if (x) abort(); ..
  pub abort_in_arm : Comes (eval (set_to x (number 0)) ∷ where_true x (eval abort) ∷ met ∷ []) [] []
  -- if (c) __assert_fail(); ..
  pub assertion : Comes (eval (set_to c (number 0)) ∷ where_true c (eval (AnExpr Void 0 NothingStands AnAssertion)) ∷ met ∷ []) [] []

pub record DoLoopsMeet : Type 0 where
  -- x = 0; for (i = 0; i < 3; i++) { if (i == 1) continue; x += i; } x == 2
  pub for_continues : Comes (eval (set_to x (number 0)) ∷ for_each (eval (set_to i (number 0))) (Some (binary an_int Less i (number 3))) (Some (counted true true i)) (block (where_true (binary an_int Equal i (number 1)) go_on ∷ eval (update Add x i) ∷ [])) ∷ check x 2 ∷ []) [] []
  -- x = 0; while (x < 2) if (x++) continue; x == 2
  pub while_continues : Comes (eval (set_to x (number 0)) ∷ while_true (binary an_int Less x (number 2)) (where_true (counted true true x) go_on) ∷ check x 2 ∷ []) [] []
  -- x = 0; do continue; while (x++ < 2); x == 3
  pub do_continues : Comes (eval (set_to x (number 0)) ∷ do_while go_on (binary an_int Less (counted true true x) (number 2)) ∷ check x 3 ∷ []) [] []
  -- x = 0; do ; while (x++ < 2); x == 3
  pub do_passes : Comes (eval (set_to x (number 0)) ∷ do_while nothing (binary an_int Less (counted true true x) (number 2)) ∷ check x 3 ∷ []) [] []
  -- x = 0; for (;; x++) if (x == 2) break; x == 2
  pub for_ever : Comes (eval (set_to x (number 0)) ∷ for_each nothing None (Some (counted true true x)) (where_true (binary an_int Equal x (number 2)) leave) ∷ check x 2 ∷ []) [] []
  -- x = 0; for (;; ({ if (x == 2) { x = 7; *(int *)0 = 1; } x++; })) ; ..
  pub for_passes : Comes (eval (set_to x (number 0)) ∷ for_each nothing None (Some (inner an_int (where_true (binary an_int Equal x (number 2)) met ∷ eval (counted true true x) ∷ []))) nothing ∷ []) [] []

pub record DoJumpsMeet : Type 0 where
  -- while (1) x = 1 + ({ break; 2; }); ..
  pub break_drops : Comes (while_true (number 1) (eval (set_to x (binary an_int Add (number 1) (inner an_int (leave ∷ eval (number 2) ∷ []))))) ∷ met ∷ []) [] []
  -- i = 0; while (i < 2) x = 1 + ({ i++; continue; 2; }); i == 2
  pub continue_drops : Comes (eval (set_to i (number 0)) ∷ while_true (binary an_int Less i (number 2)) (eval (set_to x (binary an_int Add (number 1) (inner an_int (eval (counted true true i) ∷ go_on ∷ eval (number 2) ∷ []))))) ∷ check i 2 ∷ []) [] []
  -- while (1) { int d = 2; { if (d) break; } } ..
  pub break_behind_block : Comes (while_true (number 1) (block (declare_as 13 an_int (number 2) ∷ block (where_true (variable an_int 13) leave ∷ []) ∷ [])) ∷ met ∷ []) [] (zeros 512 8 ∷ [])
  -- while (1) if (1) break; ..
  pub break_leads_on : Comes (while_true (number 1) (where_true (number 1) leave) ∷ met ∷ []) [] []
  -- for (;;) { break; x = 1; } ..
  pub break_ends_body : Comes (for_each nothing None None (block (leave ∷ eval (set_to x (number 1)) ∷ [])) ∷ met ∷ []) [] []
  -- return 0; ..    what stands behind it has its edges too
  pub never_reached : Comes (where_true (number 0) (give (number 0)) ∷ met ∷ []) [] []

pub record DoReturnsMeet : Type 0 where
  -- int f(void) { return 1 + ({ return 5; 2; }); } f() == 5
  pub return_drops : Comes (check (call 1 an_int []) 5 ∷ []) (function an_int [] (give (binary an_int Add (number 1) (inner an_int (give (number 5) ∷ eval (number 2) ∷ []))) ∷ []) ∷ []) []
  -- void f(void) { 1 + ({ return; 2; }); } f(); ..
  pub void_returns : Comes (eval (call 1 Void []) ∷ met ∷ []) (function Void [] (eval (binary an_int Add (number 1) (inner an_int (give_nothing ∷ eval (number 2) ∷ []))) ∷ []) ∷ []) []
  -- _Bool f(int e) { return e; } f(2) == 1
  pub returns_truth : Comes (check (call 1 a_truth (number 2 ∷ [])) 1 ∷ []) (function a_truth (parameter 12 4 an_int ∷ []) (give (variable an_int 12) ∷ []) ∷ []) (zeros 512 4 ∷ [])
  -- _Bool f(int e) { return e == 2; } f(2) == 1
  pub returns_truth_of : Comes (check (call 1 a_truth (number 2 ∷ [])) 1 ∷ []) (function a_truth (parameter 12 4 an_int ∷ []) (give (binary an_int Equal (variable an_int 12) (number 2)) ∷ []) ∷ []) (zeros 512 4 ∷ [])
  -- x = 3; if (x == 4) x = 1; else x = 2; x == 2
  pub either_arm : Comes (eval (set_to x (number 3)) ∷ where_either (binary an_int Equal x (number 4)) (eval (set_to x (number 1))) (eval (set_to x (number 2))) ∷ check x 2 ∷ []) [] []

pub record DoObjectsMeet : Type 0 where
  -- p = malloc(4); !p
  pub malloc_null : Comes (eval (set_to p (malloc (number 4))) ∷ where_true (unary an_int Not p) met ∷ []) [] (NoBlock ∷ [])
  -- p = malloc(1 + 3); *p = 6; *p == 6, and it is lost where main ends
  pub malloc_block : Comes (eval (set_to p (malloc (binary an_int Add (number 1) (number 3)))) ∷ eval (set_to (unary an_int Follow p) (number 6)) ∷ check (unary an_int Follow p) 6 ∷ []) [] (zeros 512 4 ∷ [])
  -- { int d[2] = { 3 }; a[0] = d[0] + d[1]; } a[0] == 3
  pub braces_are : Comes (block (declare_braces 13 (AValue 0 an_int (number 3) ∷ []) ∷ eval (set_to (index an_int a (number 0)) (binary an_int Add (index an_int (variable (Array 4) 13) (number 0)) (index an_int (variable (Array 4) 13) (number 1)))) ∷ []) ∷ check (index an_int a (number 0)) 3 ∷ []) [] (zeros 512 8 ∷ [])
  -- { int d[2] = { [1] = 3 }; d[1] == 3 }
  pub member_set : Comes (block (declare_braces 13 (AValue 4 an_int (number 3) ∷ []) ∷ check (index an_int (variable (Array 4) 13) (number 1)) 3 ∷ []) ∷ []) [] (zeros 512 8 ∷ [])

-- static int y = 3; static _Bool z = 3; static int v[2] = { 1, [1] = 2, [1] = 5 }; static int *w = &y, *u = &v[1];
abbrev pub y : Tree
y = variable an_int 21

abbrev pub z : Tree
z = variable a_truth 22

abbrev pub v : Tree
v = variable (Array 4) 23

abbrev pub w : Tree
w = variable (Pointer 4) 24

abbrev pub u : Tree
u = variable (Pointer 4) 25

abbrev pub with_statics : List Tree → Sample
with_statics body = record {
  locals = [];
  statics = record { token = Some 21; bytes = 4 } ∷ record { token = Some 22; bytes = 1 } ∷ record { token = Some 23; bytes = 8 }
      ∷ record { token = Some 24; bytes = 8 } ∷ record { token = Some 25; bytes = 8 } ∷ [];
  sets = record { place = token 21; init = AValue 0 an_int (number 3) } ∷ record { place = token 22; init = AValue 0 a_truth (number 3) }
      ∷ record { place = token 23; init = SomeBraces (trees (AValue 0 an_int (number 1) ∷ AValue 4 an_int (number 2) ∷ AValue 4 an_int (number 5) ∷ [])) }
      ∷ record { place = token 24; init = AValue 0 (Pointer 4) (unary (Pointer 4) Address y) }
      ∷ record { place = token 25; init = AValue 0 (Pointer 4) (unary (Pointer 4) Address (index an_int v (number 1))) } ∷ [];
  functions = main body ∷ [];
  enough = 200;
  strict = false;
}

abbrev pub initial_in : Option Flow → List Initial
initial_in None = []
initial_in (Some flow) = flow.initial

abbrev pub five_blocks : List Choice
five_blocks = zeros 16 4 ∷ zeros 48 1 ∷ zeros 80 8 ∷ zeros 112 8 ∷ zeros 144 8 ∷ []

pub record DoStaticsMeet : Type 0 where
  -- a scalar each, and of the one that is set twice the later one
  pub initial : initial_in (flow_in Lp64 (text_in (with_statics []))) ≡
      record { variable = 0; at = 0; size = 4; word = held.Number 3 } ∷ record { variable = 1; at = 0; size = 1; word = held.Number 1 }
      ∷ record { variable = 2; at = 0; size = 4; word = held.Number 1 } ∷ record { variable = 2; at = 4; size = 4; word = held.Number 5 }
      ∷ record { variable = 3; at = 0; size = 8; word = held.Address 0 (pos 0) } ∷ record { variable = 4; at = 0; size = 8; word = held.Address 2 (pos 4) } ∷ []
  -- *w == 3, z == 1, *u == 5
  pub numbers_are : Meets (with_statics (check (unary an_int Follow w) 3 ∷ [])) five_blocks
  pub truth_is : Meets (with_statics (check z 1 ∷ [])) five_blocks
  pub later_stands : Meets (with_statics (check (unary an_int Follow u) 5 ∷ [])) five_blocks
