-- One program for each of some rules: with these choices its run comes to that, worked out by hand. «1» and «7» stand before the token at which a fault of this
-- kind is met, which has the number 7 here. A null pointer is followed where a test is to be seen to pass. Without a function a text stands in `int main(void) { .. }`.
use Rattle.std.specs.Prelude.{◌≡◌, ℕ, ◌-◌, ◌^◌, Bool, true, false, List, [], ◌∷◌, map, codes, None, Some}
use Rattle.cbase.specs.declared.ctype.CType.{CType}
use Rattle.cbase.specs.declared.tree.operators.BinaryOp.TheVariants.{Add, Sub, Equal}
use Rattle.bytes_core.specs.declared.word.Word.TheVariants.{Plain}
use Rattle.choices.specs.declared.choice.Choice.TheVariants.{Block as NewBlock, Input}
use Rattle.typing.specs.Outcomes.{ObjectHanded}
use Rattle.typing.specs.Sample.{token}
use Rattle.c_machine.specs.declared.kind.Kind.TheVariants.{Pointer, Array, Void}
use Rattle.cbase.specs.declared.place.Place.{Place}
use Rattle.cbase.specs.declared.tree.stmt.Stmt.{Stmt}
use Rattle.c_machine.specs.Program.{Program, automatic_row, fixed_in, number_in}
use Rattle.c_machine.specs.State.{Waits, Ended, Faulted}
use Rattle.c_machine.specs.Text.{BuiltInStands, Function}
use Rattle.c_machine.specs.Trees.{kind_in, function_stands}
use Rattle.c_machine.specs.Words.{as_kind, operated}
use Rattle.c_machine.specs.Script.{Script, Tree, an_int, a_char, a_truth, number, variable, enumerator, address, follow, binary, comma, set_to, inner, null, at, malloc, calloc, free, any_int, call, eval, give, leave, block, where_true, while_true, do_while, for_each, nothing, declare, declare_as, declare_braces, ends, int_at, truth_at, pointer_at, parameter, main, function, closes, program, zeros, ComesTo}

-- `*(int *)0 = 1;`, which is met at token 7
abbrev pub met : Tree
met = eval (set_to (at 7 (follow an_int null)) (number 1))

abbrev pub if_equal : Tree → ℕ → Tree
if_equal expr value = where_true (binary an_int Equal expr (number value)) met

-- `x`, `y` and `i` are ints, `p` and `q` pointers, `b` is a `_Bool`
abbrev pub x : Tree
x = variable an_int 1

abbrev pub i : Tree
i = variable an_int 2

abbrev pub b : Tree
b = variable a_truth 3

abbrev pub q : Tree
q = variable (Pointer 1) 4

abbrev pub own : List (Function Tree) → Script
own functions = program (int_at 1 ∷ int_at 2 ∷ truth_at 3 ∷ pointer_at 4 ∷ record { token = 5; bytes = 8; kind = an_int } ∷ []) functions

-- `a`, a parameter that is an int, a pointer or a `_Bool`
abbrev pub int_parameter : Function Tree → Function Tree
int_parameter f = record f { params = parameter 11 4 an_int ∷ [] }

abbrev pub a : Tree
a = variable an_int 11

pub record AreExpressions : Type 0 where
  -- b = 2; if (b == 1) «1»..    what is stored is converted
  pub stored_as : ComesTo (own (main (declare 3 ∷ eval (set_to b (number 2)) ∷ if_equal b 1 ∷ []) ∷ [])) (zeros 16 1 ∷ []) (Faulted 1 (token 7))
  -- int i = 1; if (i - (i = 5) == -4) «1»..    the left side comes first
  pub left_first : ComesTo (own (main (declare_as 2 (number 1) ∷ if_equal (binary an_int Sub i (set_to i (number 5))) (2 ^ 32 - 4) ∷ []) ∷ [])) (zeros 16 4 ∷ []) (Faulted 1 (token 7))
  -- if (E == 3) «1»..    where E is a constant of an enum that is 3
  pub enumerator_is : ComesTo (own (main (if_equal (enumerator 3) 3 ∷ []) ∷ [])) [] (Faulted 1 (token 7))
  -- malloc(8), ({ 0«7»; 0; });    a comma lets go of its left side
  pub comma_lets_go : ComesTo (own (main (eval (comma (malloc 8) (inner an_int (ends 7 (eval (number 0)) ∷ eval (number 0) ∷ []))) ∷ []) ∷ [])) (zeros 16 8 ∷ []) (Faulted 7 (token 7))
  -- malloc(8) == ({ 0; q; })«7»;    `==` holds it
  pub equality_holds : ComesTo (own (main (declare 4 ∷ ends 7 (eval (binary an_int Equal (malloc 8) (inner (Pointer 1) (eval (number 0) ∷ eval q ∷ [])))) ∷ []) ∷ []))
      (zeros 16 8 ∷ zeros 32 8 ∷ []) (Faulted 7 (token 7))
  -- malloc(8), ({ 0«7»; });    the last expression of an inner block ends as a full expression, too
  pub inner_value_ends : ComesTo (own (main (eval (comma (malloc 8) (inner an_int (ends 7 (eval (number 0)) ∷ []))) ∷ []) ∷ [])) (zeros 16 8 ∷ []) (Faulted 7 (token 7))
  -- free(({ malloc(8); })); «1»..    and its value is kept
  pub inner_value_is_kept : ComesTo (own (main (eval (free (inner (Pointer 1) (eval (malloc 8) ∷ []))) ∷ met ∷ []) ∷ [])) (zeros 16 8 ∷ []) (Faulted 1 (token 7))
  -- calloc(1, 8);    takes zeros alone
  pub calloc_is_zero : ComesTo (own (main (eval (calloc 1 8) ∷ []) ∷ [])) (NewBlock 16 (1 ∷ 0 ∷ 0 ∷ 0 ∷ 0 ∷ 0 ∷ 0 ∷ 0 ∷ []) ∷ []) Ended
  -- a `_Bool` whose byte is 5 stays so where it is copied (C11 6.3p2), and an int becomes 1 there (6.3.1.2)
  pub truth_stays : as_kind [] a_truth a_truth (Plain 5) ≡ Plain 5
  pub int_is_true : as_kind [] an_int a_truth (Plain 5) ≡ Plain 1
  -- a number beside a pointer becomes an address by its own sign (6.5.9p5)
  pub number_is_address : operated [] Equal (Pointer 1) a_char (Plain (2 ^ 64 - 1)) (Plain 255) ≡ Some (Plain 1)
  pub number_is_address_on_the_left : operated [] Equal a_char (Pointer 1) (Plain 255) (Plain (2 ^ 64 - 1)) ≡ Some (Plain 1)

pub record AreStatements : Type 0 where
  -- { void *q = malloc(8); «7»}
  pub at_end_of_block : ComesTo (own (main (ends 7 (block (declare_as 4 (malloc 8) ∷ [])) ∷ []) ∷ [])) (zeros 16 8 ∷ zeros 32 8 ∷ []) (Faulted 7 (token 7))
  -- { int x; q = &x; } «3»*q;    an object dies with its block
  pub object_dies : ComesTo (own (main (declare 4 ∷ block (declare 1 ∷ eval (set_to q (address x)) ∷ []) ∷ eval (at 7 (follow an_int q)) ∷ []) ∷ []))
      (zeros 16 8 ∷ zeros 32 4 ∷ []) (Faulted 3 (token 7))
  -- int a[2] = { 1 }; if (a[1] == 0) «1»..    braces fill the rest with 0
  pub braces_fill : ComesTo (own (main (declare_braces 5 (number 1 ∷ []) ∷ if_equal (follow an_int (binary (Pointer 4) Add (variable (Array 4) 5) (number 1))) 0 ∷ []) ∷ []))
      (NewBlock 16 (9 ∷ 9 ∷ 9 ∷ 9 ∷ 9 ∷ 9 ∷ 9 ∷ 9 ∷ []) ∷ []) (Faulted 1 (token 7))
  -- do «1»*(int *)0 = 1; while (0);
  pub do_runs_first : ComesTo (own (main (do_while met (number 0) ∷ []) ∷ [])) [] (Faulted 1 (token 7))
  -- for (int i = 0; i == 0; i = 1) ; «1»..    each turn ends with the last part
  pub for_goes_on : ComesTo (own (main (for_each (declare_as 2 (number 0)) (Some (binary an_int Equal i (number 0))) (Some (set_to i (number 1))) nothing ∷ met ∷ []) ∷ []))
      (zeros 16 4 ∷ []) (Faulted 1 (token 7))
  -- for (void *q = malloc(8);;) «7»break;    the block of the `for` is left at the word
  pub break_leaves_for : ComesTo (own (main (for_each (declare_as 4 (malloc 8)) None None (at 7 leave) ∷ []) ∷ [])) (zeros 16 8 ∷ zeros 32 8 ∷ []) (Faulted 7 (token 7))
  -- while (1) for (; ({ break; 1; });) ; «1»..    a `break` in a condition is one of the loop outside
  pub break_in_condition : ComesTo (own (main (while_true (number 1) (for_each nothing (Some (inner an_int (leave ∷ eval (number 1) ∷ []))) None nothing) ∷ met ∷ []) ∷ [])) []
      (Faulted 1 (token 7))
  -- malloc(8), ({ do break; while (0); 0«7»; });    `break` has no look of its own
  pub break_looks_at_nothing : ComesTo (own (main (eval (comma (malloc 8) (inner an_int (do_while leave (number 0) ∷ ends 7 (eval (number 0)) ∷ []))) ∷ []) ∷ []))
      (zeros 16 8 ∷ []) (Faulted 7 (token 7))
  -- while (1) malloc(8) == ({ «7»break; q; });    but the inner block that it leaves has one, at the word
  pub break_out_of_inner_block : ComesTo (own (main (declare 4 ∷ while_true (number 1) (eval (binary an_int Equal (malloc 8) (inner (Pointer 1) (at 7 leave ∷ eval q ∷ [])))) ∷ []) ∷ []))
      (zeros 16 8 ∷ zeros 32 8 ∷ []) (Faulted 7 (token 7))
  -- { void *q = malloc(8); { «7»return 0; } }
  pub return_leaves_all : ComesTo (own (main (block (declare_as 4 (malloc 8) ∷ block (at 7 (give (number 0)) ∷ []) ∷ []) ∷ []) ∷ [])) (zeros 16 8 ∷ zeros 32 8 ∷ []) (Faulted 7 (token 7))
  -- int main(void) { }    answers 0, and asks for no choice
  pub main_answers : ComesTo (own (main [] ∷ [])) [] Ended
  -- q = malloc(8); return 0; with a static q, where no allocated block may live when main returns
  pub never_freed : ComesTo (record { declarations = []; statics = record { token = Some 4; bytes = 8 } ∷ []; functions = main (eval (set_to q (malloc 8)) ∷ at 7 (give (number 0)) ∷ []) ∷ []; strict = true })
      (zeros 16 8 ∷ zeros 32 8 ∷ []) (Faulted 9 (token 7))

pub record AreCalls : Type 0 where
  -- int f(int a) { return a; } .. if (f(3) == 3) «1»..
  pub argument_comes_in : ComesTo (own (main (if_equal (call 1 an_int (number 3 ∷ [])) 3 ∷ []) ∷ int_parameter (function an_int [] (give a ∷ [])) ∷ [])) (zeros 16 4 ∷ []) (Faulted 1 (token 7))
  -- int f(_Bool c) { return c; } .. if (f(2) == 1) «1»..    an argument is converted to its parameter
  pub argument_is_converted : ComesTo (own (main (if_equal (call 1 an_int (number 2 ∷ [])) 1 ∷ []) ∷ function an_int (parameter 12 1 a_truth ∷ []) (give (variable a_truth 12) ∷ []) ∷ []))
      (zeros 16 1 ∷ []) (Faulted 1 (token 7))
  -- int f(int a, int c) { return a - c; } .. int i = 1; if (f(i = 5, i) == 0) «1»..    arguments from left to right
  pub left_argument_first : ComesTo (own (main (declare_as 2 (number 1) ∷ if_equal (call 1 an_int (set_to i (number 5) ∷ i ∷ [])) 0 ∷ []) ∷
      function an_int (parameter 11 4 an_int ∷ parameter 12 4 an_int ∷ []) (give (binary an_int Sub a (variable an_int 12)) ∷ []) ∷ []))
      (zeros 16 4 ∷ zeros 32 4 ∷ zeros 48 4 ∷ []) (Faulted 1 (token 7))
  -- int f(int a, _Bool c) { return a; } .. f(__VERIFIER_nondet_int(), 0)    all arguments come before the first parameter, and the parameters in order
  pub then_parameters : ComesTo (own (main (if_equal (call 1 an_int (any_int ∷ number 0 ∷ [])) 9 ∷ []) ∷ function an_int (parameter 11 4 an_int ∷ parameter 12 1 a_truth ∷ []) (give a ∷ []) ∷ []))
      (Input 9 ∷ zeros 16 4 ∷ zeros 32 1 ∷ []) (Faulted 1 (token 7))
  -- int f(int a) { int i; .. } .. f(3)    then the objects of the body
  pub then_body : ComesTo (own (main (eval (call 1 an_int (number 3 ∷ [])) ∷ []) ∷ int_parameter (function an_int [] (declare 3 ∷ give a ∷ [])) ∷ [])) (zeros 16 4 ∷ []) Waits
  -- int f(int) { return 1; } .. f(3)    a parameter without a name is an object
  pub nameless : ComesTo (own (main (eval (call 1 an_int (number 3 ∷ [])) ∷ []) ∷ function an_int (record { object = record { token = None; bytes = 4 }; kind = an_int } ∷ []) (give (number 1) ∷ []) ∷ [])) []
      Waits
  -- int f(int a) { if (a == 0) «1»..; return f(a - 1); } .. f(2)
  pub recursion : ComesTo (own (main (eval (call 1 an_int (number 2 ∷ [])) ∷ []) ∷ int_parameter (function an_int [] (if_equal a 0 ∷ give (call 1 an_int (binary an_int Sub a (number 1) ∷ [])) ∷ [])) ∷ []))
      (zeros 16 4 ∷ zeros 32 4 ∷ zeros 48 4 ∷ []) (Faulted 1 (token 7))
  -- int f(int a) { if (a == 0) return 0; return f(a - 1) + a; } .. if (f(2) == 3) «1»..    each call has an `a` of its own
  pub own_objects : ComesTo (own (main (if_equal (call 1 an_int (number 2 ∷ [])) 3 ∷ []) ∷
      int_parameter (function an_int [] (where_true (binary an_int Equal a (number 0)) (give (number 0)) ∷ give (binary an_int Add (call 1 an_int (binary an_int Sub a (number 1) ∷ [])) a) ∷ [])) ∷ []))
      (zeros 16 4 ∷ zeros 32 4 ∷ zeros 48 4 ∷ []) (Faulted 1 (token 7))
  -- void f(int *c) { *c = 5; } .. int x; f(&x); if (x == 5) «1»..    the objects of the one that calls live
  pub callers_object_lives : ComesTo (own (main (declare 1 ∷ eval (call 1 Void (address x ∷ [])) ∷ if_equal x 5 ∷ []) ∷
      function Void (parameter 12 8 (Pointer 4) ∷ []) (eval (set_to (follow an_int (variable (Pointer 4) 12)) (number 5)) ∷ []) ∷ [])) (zeros 16 4 ∷ zeros 32 8 ∷ []) (Faulted 1 (token 7))
  -- int *f(int a) { return &a; } .. «3»*f(1);    and those of the one that was called are dead
  pub own_object_dies : ComesTo (own (main (eval (at 7 (follow an_int (call 1 (Pointer 4) (number 1 ∷ [])))) ∷ []) ∷ int_parameter (function (Pointer 4) [] (give (address a) ∷ [])) ∷ []))
      (zeros 16 4 ∷ []) (Faulted 3 (token 7))
  -- void f(void) { 0; } .. void *q = malloc(8); f(); free(q); «1»..    the objects of callers are roots
  pub callers_are_roots : ComesTo (own (main (declare_as 4 (malloc 8) ∷ eval (call 1 Void []) ∷ eval (free q) ∷ met ∷ []) ∷ function Void [] (eval (number 0) ∷ []) ∷ []))
      (zeros 16 8 ∷ zeros 32 8 ∷ []) (Faulted 1 (token 7))
  -- void *f(void) { 0; return 0; } .. malloc(8) == f()«7»;    and so is what their expressions hold
  pub held_operands_are_roots : ComesTo (own (main (ends 7 (eval (binary an_int Equal (malloc 8) (call 1 (Pointer 1) []))) ∷ []) ∷ function (Pointer 1) [] (eval (number 0) ∷ give (number 0) ∷ []) ∷ []))
      (zeros 16 8 ∷ []) (Faulted 7 (token 7))
  -- void *f(void *c) { return c; } .. free(f(malloc(8))); «1»..    and the argument, and the value that is returned
  pub returned_value_is_held : ComesTo (own (main (eval (free (call 1 (Pointer 1) (malloc 8 ∷ []))) ∷ met ∷ []) ∷ function (Pointer 1) (parameter 12 8 (Pointer 1) ∷ []) (give (variable (Pointer 1) 12) ∷ []) ∷ []))
      (zeros 16 8 ∷ zeros 32 8 ∷ []) (Faulted 1 (token 7))
  -- int f(void) { void *q = malloc(8); «7»return 0; }    loss is looked for at the word
  pub lost_at_return : ComesTo (own (main (eval (call 1 an_int []) ∷ []) ∷ function an_int [] (declare_as 4 (malloc 8) ∷ at 7 (give (number 0)) ∷ []) ∷ [])) (zeros 16 8 ∷ zeros 32 8 ∷ []) (Faulted 7 (token 7))
  -- void f(void) { void *q = malloc(8); «7»}    or at the `}`
  pub lost_at_end : ComesTo (own (main (eval (call 1 Void []) ∷ []) ∷ closes 7 (function Void [] (declare_as 4 (malloc 8) ∷ [])) ∷ [])) (zeros 16 8 ∷ zeros 32 8 ∷ []) (Faulted 7 (token 7))
  -- _Bool f(void) { return 2; } .. if (f() == 1) «1»..    the result is converted
  pub result_is_converted : ComesTo (own (main (if_equal (call 1 a_truth []) 1 ∷ []) ∷ function a_truth [] (give (number 2) ∷ []) ∷ [])) [] (Faulted 1 (token 7))
  -- int f(void) { } .. if (f() == 9) «1»..    the `}` of a function with a result is any input of it (C11 6.9.1p12)
  pub end_is_input : ComesTo (own (main (if_equal (call 1 an_int []) 9 ∷ []) ∷ function an_int [] [] ∷ [])) (Input 9 ∷ []) (Faulted 1 (token 7))
  pub end_asks : ComesTo (own (main (eval (call 1 an_int []) ∷ []) ∷ function an_int [] [] ∷ [])) [] Waits
  -- of a pointer any 64 bits, of `_Bool` 0 or 1
  pub end_of_pointer : ComesTo (own (main (eval (call 1 (Pointer 1) []) ∷ met ∷ []) ∷ function (Pointer 1) [] [] ∷ [])) (Input (2 ^ 64 - 1) ∷ []) (Faulted 1 (token 7))
  pub end_of_truth : ComesTo (own (main (eval (call 1 a_truth []) ∷ met ∷ []) ∷ function a_truth [] [] ∷ [])) (Input 2 ∷ []) Ended
  -- static int x; int main(void) { if (x == 0) { x = 1; if (main() == 0) «1»..; } }    main that is called answers 0 at its `}`, too, and the run goes on
  pub main_is_called : ComesTo (record {
    declarations = [];
    statics = record { token = Some 1; bytes = 4 } ∷ [];
    functions =
        main (where_true (binary an_int Equal x (number 0)) (block (eval (set_to x (number 1)) ∷ if_equal (call 0 an_int []) 0 ∷ [])) ∷ []) ∷ [];
    strict = false;
  })
      (zeros 16 4 ∷ []) (Faulted 1 (token 7))

-- what is found in a program
pub record AreFound : Type 0 where
  -- static objects in the order of the tokens of their names, those of the file first, whatever the order is in which they are handed on
  pub in_order : (t : CType) (zeroed : Bool) →
      fixed_in [] false (ObjectHanded (record { token = 9; ctype = t; fixed = true; zeroed = zeroed }) ∷ ObjectHanded (record { token = 3; ctype = t; fixed = true; zeroed = zeroed }) ∷ [])
      ≡ record { token = 3; ctype = t; fixed = true; zeroed = zeroed } ∷ record { token = 9; ctype = t; fixed = true; zeroed = zeroed } ∷ []
  -- an object inside a function that lives as long as the program runs is not made where its block is entered (C11 6.2.4p3)
  pub static_is_made_once : (t : CType) (token : ℕ) (zeroed : Bool) → automatic_row (Some (record { token = token; ctype = t; fixed = true; zeroed = zeroed })) ≡ None
  -- the function of a name is the first one that has it, by its number
  pub by_name : (one two : List Stmt) (close : Place) → number_in
      (record { name = codes "f"; token = 1; body = one; close = close } ∷ record { name = codes "main"; token = 7; body = two; close = close } ∷ []) (codes "main") ≡ Some 1
  -- a function that is built in stays one where an object of its name is passed over
  pub built_in_stays : (p : Program) (name : List ℕ) (result : CType) (params : List CType) (defined : Bool) →
      function_stands p (Some name) (record { result = result; params = params; defined = defined; built_in = true }) ≡ BuiltInStands name (map (kind_in p) params) (kind_in p result)
