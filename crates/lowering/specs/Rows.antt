-- The worked programs of the source machine, run along their graphs: with the same choices each comes to the same.
use Rattle.std.specs.Prelude.{true, false, [], ◌∷◌, ◌-◌, ◌^◌, None, Some}
use Rattle.cbase.specs.declared.tree.operators.BinaryOp.TheVariants.{Add, Sub, Equal}
use Rattle.choices.specs.declared.choice.Choice.TheVariants.{Block as NewBlock, Input}
use Rattle.typing.specs.Sample.{token}
use Rattle.c_machine.specs.declared.kind.Kind.TheVariants.{Pointer, Array, Void}
use Rattle.c_machine.specs.Examples.{met, if_equal, x, i, b, q, a, own, int_parameter}
use Rattle.c_machine.specs.Script.{Script, an_int, a_truth, number, variable, enumerator, address, follow, binary, comma, set_to, inner, at, malloc, calloc, free, any_int, call, eval, give, leave, block, where_true, while_true, do_while, for_each, nothing, declare, declare_as, declare_braces, ends, parameter, main, function, closes, zeros}
use Rattle.flow.specs.Machine.{Waits, Ended, Faulted}
use Rattle.lowering.specs.Examples.{GraphComesTo, HasGraph}

-- { int x; while (x) x = 1 + 2; }
abbrev pub loops : Script
loops = own (main (declare 1 ∷ while_true x (eval (set_to x (binary an_int Add (number 1) (number 2)))) ∷ []) ∷ [])

-- what stands at each point is what each edge leaves there
pub record AreGraphs : Type 0 where
  pub loops_is : HasGraph loops
  -- b = 2; if (b == 1) «1»..    what is stored is converted
  pub stored_as : HasGraph (own (main (declare 3 ∷ eval (set_to b (number 2)) ∷ if_equal b 1 ∷ []) ∷ []))
  -- int i = 1; if (i - (i = 5) == -4) «1»..    the left side comes first
  pub left_first : HasGraph (own (main (declare_as 2 (number 1) ∷ if_equal (binary an_int Sub i (set_to i (number 5))) (2 ^ 32 - 4) ∷ []) ∷ []))
  -- if (E == 3) «1»..    where E is a constant of an enum that is 3
  pub enumerator_is : HasGraph (own (main (if_equal (enumerator 3) 3 ∷ []) ∷ []))
  -- malloc(8), ({ 0«7»; 0; });    a comma lets go of its left side
  pub comma_lets_go : HasGraph (own (main (eval (comma (malloc 8) (inner an_int (ends 7 (eval (number 0)) ∷ eval (number 0) ∷ []))) ∷ []) ∷ []))
  -- malloc(8) == ({ 0; q; })«7»;    `==` holds it
  pub equality_holds : HasGraph (own (main (declare 4 ∷ ends 7 (eval (binary an_int Equal (malloc 8) (inner (Pointer 1) (eval (number 0) ∷ eval q ∷ [])))) ∷ []) ∷ []))
  -- malloc(8), ({ 0«7»; });    the last expression of an inner block ends as a full expression, too
  pub inner_value_ends : HasGraph (own (main (eval (comma (malloc 8) (inner an_int (ends 7 (eval (number 0)) ∷ []))) ∷ []) ∷ []))
  -- free(({ malloc(8); })); «1»..    and its value is kept
  pub inner_value_is_kept : HasGraph (own (main (eval (free (inner (Pointer 1) (eval (malloc 8) ∷ []))) ∷ met ∷ []) ∷ []))
  -- calloc(1, 8);    takes zeros alone
  pub calloc_is_zero : HasGraph (own (main (eval (calloc 1 8) ∷ []) ∷ []))
  -- { void *q = malloc(8); «7»}
  pub at_end_of_block : HasGraph (own (main (ends 7 (block (declare_as 4 (malloc 8) ∷ [])) ∷ []) ∷ []))
  -- { int x; q = &x; } «3»*q;    an object dies with its block
  pub object_dies : HasGraph (own (main (declare 4 ∷ block (declare 1 ∷ eval (set_to q (address x)) ∷ []) ∷ eval (at 7 (follow an_int q)) ∷ []) ∷ []))
  -- int a[2] = { 1 }; if (a[1] == 0) «1»..    braces fill the rest with 0
  pub braces_fill : HasGraph (own (main (declare_braces 5 (number 1 ∷ []) ∷ if_equal (follow an_int (binary (Pointer 4) Add (variable (Array 4) 5) (number 1))) 0 ∷ []) ∷ []))
  -- do «1»*(int *)0 = 1; while (0);
  pub do_runs_first : HasGraph (own (main (do_while met (number 0) ∷ []) ∷ []))
  -- for (int i = 0; i == 0; i = 1) ; «1»..    each turn ends with the last part
  pub for_goes_on : HasGraph (own (main (for_each (declare_as 2 (number 0)) (Some (binary an_int Equal i (number 0))) (Some (set_to i (number 1))) nothing ∷ met ∷ []) ∷ []))
  -- for (void *q = malloc(8);;) «7»break;    the block of the `for` is left at the word
  pub break_leaves_for : HasGraph (own (main (for_each (declare_as 4 (malloc 8)) None None (at 7 leave) ∷ []) ∷ []))
  -- while (1) for (; ({ break; 1; });) ; «1»..    a `break` in a condition is one of the loop outside
  pub break_in_condition : HasGraph (own (main (while_true (number 1) (for_each nothing (Some (inner an_int (leave ∷ eval (number 1) ∷ []))) None nothing) ∷ met ∷ []) ∷ []))
  -- malloc(8), ({ do break; while (0); 0«7»; });    `break` has no look of its own
  pub break_looks_at_nothing : HasGraph (own (main (eval (comma (malloc 8) (inner an_int (do_while leave (number 0) ∷ ends 7 (eval (number 0)) ∷ []))) ∷ []) ∷ []))
  -- while (1) malloc(8) == ({ «7»break; q; });    but the inner block that it leaves has one, at the word
  pub break_out_of_inner_block : HasGraph (own (main (declare 4 ∷ while_true (number 1) (eval (binary an_int Equal (malloc 8) (inner (Pointer 1) (at 7 leave ∷ eval q ∷ [])))) ∷ []) ∷ []))
  -- { void *q = malloc(8); { «7»return 0; } }
  pub return_leaves_all : HasGraph (own (main (block (declare_as 4 (malloc 8) ∷ block (at 7 (give (number 0)) ∷ []) ∷ []) ∷ []) ∷ []))
  -- int main(void) { }    answers 0, and asks for no choice
  pub main_answers : HasGraph (own (main [] ∷ []))
  -- q = malloc(8); return 0; with a static q, where no allocated block may live when main returns
  pub never_freed : HasGraph (record { declarations = []; statics = record { token = Some 4; bytes = 8 } ∷ []; functions = main (eval (set_to q (malloc 8)) ∷ at 7 (give (number 0)) ∷ []) ∷ []; strict = true })
  -- int f(int a) { return a; } .. if (f(3) == 3) «1»..
  pub argument_comes_in : HasGraph (own (main (if_equal (call 1 an_int (number 3 ∷ [])) 3 ∷ []) ∷ int_parameter (function an_int [] (give a ∷ [])) ∷ []))
  -- int f(_Bool c) { return c; } .. if (f(2) == 1) «1»..    an argument is converted to its parameter
  pub argument_is_converted : HasGraph (own (main (if_equal (call 1 an_int (number 2 ∷ [])) 1 ∷ []) ∷ function an_int (parameter 12 1 a_truth ∷ []) (give (variable a_truth 12) ∷ []) ∷ []))
  -- int f(int a, int c) { return a - c; } .. int i = 1; if (f(i = 5, i) == 0) «1»..    arguments from left to right
  pub left_argument_first : HasGraph (own (main (declare_as 2 (number 1) ∷ if_equal (call 1 an_int (set_to i (number 5) ∷ i ∷ [])) 0 ∷ []) ∷
      function an_int (parameter 11 4 an_int ∷ parameter 12 4 an_int ∷ []) (give (binary an_int Sub a (variable an_int 12)) ∷ []) ∷ []))
  -- int f(int a, _Bool c) { return a; } .. f(__VERIFIER_nondet_int(), 0)    all arguments come before the first parameter, and the parameters in order
  pub then_parameters : HasGraph (own (main (if_equal (call 1 an_int (any_int ∷ number 0 ∷ [])) 9 ∷ []) ∷ function an_int (parameter 11 4 an_int ∷ parameter 12 1 a_truth ∷ []) (give a ∷ []) ∷ []))
  -- int f(int a) { int i; .. } .. f(3)    then the objects of the body
  pub then_body : HasGraph (own (main (eval (call 1 an_int (number 3 ∷ [])) ∷ []) ∷ int_parameter (function an_int [] (declare 3 ∷ give a ∷ [])) ∷ []))
  -- int f(int) { return 1; } .. f(3)    a parameter without a name is an object
  pub nameless : HasGraph (own (main (eval (call 1 an_int (number 3 ∷ [])) ∷ []) ∷ function an_int (record { object = record { token = None; bytes = 4 }; kind = an_int } ∷ []) (give (number 1) ∷ []) ∷ []))
  -- int f(int a) { if (a == 0) «1»..; return f(a - 1); } .. f(2)
  pub recursion : HasGraph (own (main (eval (call 1 an_int (number 2 ∷ [])) ∷ []) ∷ int_parameter (function an_int [] (if_equal a 0 ∷ give (call 1 an_int (binary an_int Sub a (number 1) ∷ [])) ∷ [])) ∷ []))
  -- int f(int a) { if (a == 0) return 0; return f(a - 1) + a; } .. if (f(2) == 3) «1»..    each call has an `a` of its own
  pub own_objects : HasGraph (own (main (if_equal (call 1 an_int (number 2 ∷ [])) 3 ∷ []) ∷
      int_parameter (function an_int [] (where_true (binary an_int Equal a (number 0)) (give (number 0)) ∷ give (binary an_int Add (call 1 an_int (binary an_int Sub a (number 1) ∷ [])) a) ∷ [])) ∷ []))
  -- void f(int *c) { *c = 5; } .. int x; f(&x); if (x == 5) «1»..    the objects of the one that calls live
  pub callers_object_lives : HasGraph (own (main (declare 1 ∷ eval (call 1 Void (address x ∷ [])) ∷ if_equal x 5 ∷ []) ∷
      function Void (parameter 12 8 (Pointer 4) ∷ []) (eval (set_to (follow an_int (variable (Pointer 4) 12)) (number 5)) ∷ []) ∷ []))
  -- int *f(int a) { return &a; } .. «3»*f(1);    and those of the one that was called are dead
  pub own_object_dies : HasGraph (own (main (eval (at 7 (follow an_int (call 1 (Pointer 4) (number 1 ∷ [])))) ∷ []) ∷ int_parameter (function (Pointer 4) [] (give (address a) ∷ [])) ∷ []))
  -- void f(void) { 0; } .. void *q = malloc(8); f(); free(q); «1»..    the objects of callers are roots
  pub callers_are_roots : HasGraph (own (main (declare_as 4 (malloc 8) ∷ eval (call 1 Void []) ∷ eval (free q) ∷ met ∷ []) ∷ function Void [] (eval (number 0) ∷ []) ∷ []))
  -- void *f(void) { 0; return 0; } .. malloc(8) == f()«7»;    and so is what their expressions hold
  pub held_operands_are_roots : HasGraph (own (main (ends 7 (eval (binary an_int Equal (malloc 8) (call 1 (Pointer 1) []))) ∷ []) ∷ function (Pointer 1) [] (eval (number 0) ∷ give (number 0) ∷ []) ∷ []))
  -- void *f(void *c) { return c; } .. free(f(malloc(8))); «1»..    and the argument, and the value that is returned
  pub returned_value_is_held : HasGraph (own (main (eval (free (call 1 (Pointer 1) (malloc 8 ∷ []))) ∷ met ∷ []) ∷ function (Pointer 1) (parameter 12 8 (Pointer 1) ∷ []) (give (variable (Pointer 1) 12) ∷ []) ∷ []))
  -- int f(void) { void *q = malloc(8); «7»return 0; }    loss is looked for at the word
  pub lost_at_return : HasGraph (own (main (eval (call 1 an_int []) ∷ []) ∷ function an_int [] (declare_as 4 (malloc 8) ∷ at 7 (give (number 0)) ∷ []) ∷ []))
  -- void f(void) { void *q = malloc(8); «7»}    or at the `}`
  pub lost_at_end : HasGraph (own (main (eval (call 1 Void []) ∷ []) ∷ closes 7 (function Void [] (declare_as 4 (malloc 8) ∷ [])) ∷ []))
  -- _Bool f(void) { return 2; } .. if (f() == 1) «1»..    the result is converted
  pub result_is_converted : HasGraph (own (main (if_equal (call 1 a_truth []) 1 ∷ []) ∷ function a_truth [] (give (number 2) ∷ []) ∷ []))
  -- int f(void) { } .. if (f() == 9) «1»..    the `}` of a function with a result is any input of it (C11 6.9.1p12)
  pub end_is_input : HasGraph (own (main (if_equal (call 1 an_int []) 9 ∷ []) ∷ function an_int [] [] ∷ []))
  pub end_asks : HasGraph (own (main (eval (call 1 an_int []) ∷ []) ∷ function an_int [] [] ∷ []))
  -- of a pointer any 64 bits, of `_Bool` 0 or 1
  pub end_of_pointer : HasGraph (own (main (eval (call 1 (Pointer 1) []) ∷ met ∷ []) ∷ function (Pointer 1) [] [] ∷ []))
  pub end_of_truth : HasGraph (own (main (eval (call 1 a_truth []) ∷ met ∷ []) ∷ function a_truth [] [] ∷ []))
  -- static int x; int main(void) { if (x == 0) { x = 1; if (main() == 0) «1»..; } }    main that is called answers 0 at its `}`, too, and the run goes on
  pub main_is_called : HasGraph (record { declarations = []; statics = record { token = Some 1; bytes = 4 } ∷ []; functions = main (where_true (binary an_int Equal x (number 0)) (block (eval (set_to x (number 1)) ∷ if_equal (call 0 an_int []) 0 ∷ [])) ∷ []) ∷ []; strict = false })

pub record DoExpressionsRun : Type 0 where
  -- b = 2; if (b == 1) «1»..    what is stored is converted
  pub stored_as : GraphComesTo (own (main (declare 3 ∷ eval (set_to b (number 2)) ∷ if_equal b 1 ∷ []) ∷ [])) (zeros 16 1 ∷ []) (Faulted 1 (token 7))
  -- int i = 1; if (i - (i = 5) == -4) «1»..    the left side comes first
  pub left_first : GraphComesTo (own (main (declare_as 2 (number 1) ∷ if_equal (binary an_int Sub i (set_to i (number 5))) (2 ^ 32 - 4) ∷ []) ∷ [])) (zeros 16 4 ∷ []) (Faulted 1 (token 7))
  -- if (E == 3) «1»..    where E is a constant of an enum that is 3
  pub enumerator_is : GraphComesTo (own (main (if_equal (enumerator 3) 3 ∷ []) ∷ [])) [] (Faulted 1 (token 7))
  -- malloc(8), ({ 0«7»; 0; });    a comma lets go of its left side
  pub comma_lets_go : GraphComesTo (own (main (eval (comma (malloc 8) (inner an_int (ends 7 (eval (number 0)) ∷ eval (number 0) ∷ []))) ∷ []) ∷ [])) (zeros 16 8 ∷ []) (Faulted 7 (token 7))
  -- malloc(8) == ({ 0; q; })«7»;    `==` holds it
  pub equality_holds : GraphComesTo (own (main (declare 4 ∷ ends 7 (eval (binary an_int Equal (malloc 8) (inner (Pointer 1) (eval (number 0) ∷ eval q ∷ [])))) ∷ []) ∷ []))
      (zeros 16 8 ∷ zeros 32 8 ∷ []) (Faulted 7 (token 7))
  -- malloc(8), ({ 0«7»; });    the last expression of an inner block ends as a full expression, too
  pub inner_value_ends : GraphComesTo (own (main (eval (comma (malloc 8) (inner an_int (ends 7 (eval (number 0)) ∷ []))) ∷ []) ∷ [])) (zeros 16 8 ∷ []) (Faulted 7 (token 7))
  -- free(({ malloc(8); })); «1»..    and its value is kept
  pub inner_value_is_kept : GraphComesTo (own (main (eval (free (inner (Pointer 1) (eval (malloc 8) ∷ []))) ∷ met ∷ []) ∷ [])) (zeros 16 8 ∷ []) (Faulted 1 (token 7))
  -- calloc(1, 8);    takes zeros alone
  pub calloc_is_zero : GraphComesTo (own (main (eval (calloc 1 8) ∷ []) ∷ [])) (NewBlock 16 (1 ∷ 0 ∷ 0 ∷ 0 ∷ 0 ∷ 0 ∷ 0 ∷ 0 ∷ []) ∷ []) Ended

pub record DoStatementsRun : Type 0 where
  -- { void *q = malloc(8); «7»}
  pub at_end_of_block : GraphComesTo (own (main (ends 7 (block (declare_as 4 (malloc 8) ∷ [])) ∷ []) ∷ [])) (zeros 16 8 ∷ zeros 32 8 ∷ []) (Faulted 7 (token 7))
  -- { int x; q = &x; } «3»*q;    an object dies with its block
  pub object_dies : GraphComesTo (own (main (declare 4 ∷ block (declare 1 ∷ eval (set_to q (address x)) ∷ []) ∷ eval (at 7 (follow an_int q)) ∷ []) ∷ []))
      (zeros 16 8 ∷ zeros 32 4 ∷ []) (Faulted 3 (token 7))
  -- int a[2] = { 1 }; if (a[1] == 0) «1»..    braces fill the rest with 0
  pub braces_fill : GraphComesTo (own (main (declare_braces 5 (number 1 ∷ []) ∷ if_equal (follow an_int (binary (Pointer 4) Add (variable (Array 4) 5) (number 1))) 0 ∷ []) ∷ []))
      (NewBlock 16 (9 ∷ 9 ∷ 9 ∷ 9 ∷ 9 ∷ 9 ∷ 9 ∷ 9 ∷ []) ∷ []) (Faulted 1 (token 7))
  -- do «1»*(int *)0 = 1; while (0);
  pub do_runs_first : GraphComesTo (own (main (do_while met (number 0) ∷ []) ∷ [])) [] (Faulted 1 (token 7))
  -- for (int i = 0; i == 0; i = 1) ; «1»..    each turn ends with the last part
  pub for_goes_on : GraphComesTo (own (main (for_each (declare_as 2 (number 0)) (Some (binary an_int Equal i (number 0))) (Some (set_to i (number 1))) nothing ∷ met ∷ []) ∷ []))
      (zeros 16 4 ∷ []) (Faulted 1 (token 7))
  -- for (void *q = malloc(8);;) «7»break;    the block of the `for` is left at the word
  pub break_leaves_for : GraphComesTo (own (main (for_each (declare_as 4 (malloc 8)) None None (at 7 leave) ∷ []) ∷ [])) (zeros 16 8 ∷ zeros 32 8 ∷ []) (Faulted 7 (token 7))
  -- while (1) for (; ({ break; 1; });) ; «1»..    a `break` in a condition is one of the loop outside
  pub break_in_condition : GraphComesTo (own (main (while_true (number 1) (for_each nothing (Some (inner an_int (leave ∷ eval (number 1) ∷ []))) None nothing) ∷ met ∷ []) ∷ [])) []
      (Faulted 1 (token 7))
  -- malloc(8), ({ do break; while (0); 0«7»; });    `break` has no look of its own
  pub break_looks_at_nothing : GraphComesTo (own (main (eval (comma (malloc 8) (inner an_int (do_while leave (number 0) ∷ ends 7 (eval (number 0)) ∷ []))) ∷ []) ∷ []))
      (zeros 16 8 ∷ []) (Faulted 7 (token 7))
  -- while (1) malloc(8) == ({ «7»break; q; });    but the inner block that it leaves has one, at the word
  pub break_out_of_inner_block : GraphComesTo (own (main (declare 4 ∷ while_true (number 1) (eval (binary an_int Equal (malloc 8) (inner (Pointer 1) (at 7 leave ∷ eval q ∷ [])))) ∷ []) ∷ []))
      (zeros 16 8 ∷ zeros 32 8 ∷ []) (Faulted 7 (token 7))
  -- { void *q = malloc(8); { «7»return 0; } }
  pub return_leaves_all : GraphComesTo (own (main (block (declare_as 4 (malloc 8) ∷ block (at 7 (give (number 0)) ∷ []) ∷ []) ∷ []) ∷ [])) (zeros 16 8 ∷ zeros 32 8 ∷ []) (Faulted 7 (token 7))
  -- int main(void) { }    answers 0, and asks for no choice
  pub main_answers : GraphComesTo (own (main [] ∷ [])) [] Ended
  -- q = malloc(8); return 0; with a static q, where no allocated block may live when main returns
  pub never_freed : GraphComesTo (record { declarations = []; statics = record { token = Some 4; bytes = 8 } ∷ []; functions = main (eval (set_to q (malloc 8)) ∷ at 7 (give (number 0)) ∷ []) ∷ []; strict = true })
      (zeros 16 8 ∷ zeros 32 8 ∷ []) (Faulted 9 (token 7))

pub record DoCallsRun : Type 0 where
  -- int f(int a) { return a; } .. if (f(3) == 3) «1»..
  pub argument_comes_in : GraphComesTo (own (main (if_equal (call 1 an_int (number 3 ∷ [])) 3 ∷ []) ∷ int_parameter (function an_int [] (give a ∷ [])) ∷ [])) (zeros 16 4 ∷ []) (Faulted 1 (token 7))
  -- int f(_Bool c) { return c; } .. if (f(2) == 1) «1»..    an argument is converted to its parameter
  pub argument_is_converted : GraphComesTo (own (main (if_equal (call 1 an_int (number 2 ∷ [])) 1 ∷ []) ∷ function an_int (parameter 12 1 a_truth ∷ []) (give (variable a_truth 12) ∷ []) ∷ []))
      (zeros 16 1 ∷ []) (Faulted 1 (token 7))
  -- int f(int a, int c) { return a - c; } .. int i = 1; if (f(i = 5, i) == 0) «1»..    arguments from left to right
  pub left_argument_first : GraphComesTo (own (main (declare_as 2 (number 1) ∷ if_equal (call 1 an_int (set_to i (number 5) ∷ i ∷ [])) 0 ∷ []) ∷
      function an_int (parameter 11 4 an_int ∷ parameter 12 4 an_int ∷ []) (give (binary an_int Sub a (variable an_int 12)) ∷ []) ∷ []))
      (zeros 16 4 ∷ zeros 32 4 ∷ zeros 48 4 ∷ []) (Faulted 1 (token 7))
  -- int f(int a, _Bool c) { return a; } .. f(__VERIFIER_nondet_int(), 0)    all arguments come before the first parameter, and the parameters in order
  pub then_parameters : GraphComesTo (own (main (if_equal (call 1 an_int (any_int ∷ number 0 ∷ [])) 9 ∷ []) ∷ function an_int (parameter 11 4 an_int ∷ parameter 12 1 a_truth ∷ []) (give a ∷ []) ∷ []))
      (Input 9 ∷ zeros 16 4 ∷ zeros 32 1 ∷ []) (Faulted 1 (token 7))
  -- int f(int a) { int i; .. } .. f(3)    then the objects of the body
  pub then_body : GraphComesTo (own (main (eval (call 1 an_int (number 3 ∷ [])) ∷ []) ∷ int_parameter (function an_int [] (declare 3 ∷ give a ∷ [])) ∷ [])) (zeros 16 4 ∷ []) Waits
  -- int f(int) { return 1; } .. f(3)    a parameter without a name is an object
  pub nameless : GraphComesTo (own (main (eval (call 1 an_int (number 3 ∷ [])) ∷ []) ∷ function an_int (record { object = record { token = None; bytes = 4 }; kind = an_int } ∷ []) (give (number 1) ∷ []) ∷ [])) []
      Waits
  -- int f(int a) { if (a == 0) «1»..; return f(a - 1); } .. f(2)
  pub recursion : GraphComesTo (own (main (eval (call 1 an_int (number 2 ∷ [])) ∷ []) ∷ int_parameter (function an_int [] (if_equal a 0 ∷ give (call 1 an_int (binary an_int Sub a (number 1) ∷ [])) ∷ [])) ∷ []))
      (zeros 16 4 ∷ zeros 32 4 ∷ zeros 48 4 ∷ []) (Faulted 1 (token 7))
  -- int f(int a) { if (a == 0) return 0; return f(a - 1) + a; } .. if (f(2) == 3) «1»..    each call has an `a` of its own
  pub own_objects : GraphComesTo (own (main (if_equal (call 1 an_int (number 2 ∷ [])) 3 ∷ []) ∷
      int_parameter (function an_int [] (where_true (binary an_int Equal a (number 0)) (give (number 0)) ∷ give (binary an_int Add (call 1 an_int (binary an_int Sub a (number 1) ∷ [])) a) ∷ [])) ∷ []))
      (zeros 16 4 ∷ zeros 32 4 ∷ zeros 48 4 ∷ []) (Faulted 1 (token 7))
  -- void f(int *c) { *c = 5; } .. int x; f(&x); if (x == 5) «1»..    the objects of the one that calls live
  pub callers_object_lives : GraphComesTo (own (main (declare 1 ∷ eval (call 1 Void (address x ∷ [])) ∷ if_equal x 5 ∷ []) ∷
      function Void (parameter 12 8 (Pointer 4) ∷ []) (eval (set_to (follow an_int (variable (Pointer 4) 12)) (number 5)) ∷ []) ∷ [])) (zeros 16 4 ∷ zeros 32 8 ∷ []) (Faulted 1 (token 7))
  -- int *f(int a) { return &a; } .. «3»*f(1);    and those of the one that was called are dead
  pub own_object_dies : GraphComesTo (own (main (eval (at 7 (follow an_int (call 1 (Pointer 4) (number 1 ∷ [])))) ∷ []) ∷ int_parameter (function (Pointer 4) [] (give (address a) ∷ [])) ∷ []))
      (zeros 16 4 ∷ []) (Faulted 3 (token 7))
  -- void f(void) { 0; } .. void *q = malloc(8); f(); free(q); «1»..    the objects of callers are roots
  pub callers_are_roots : GraphComesTo (own (main (declare_as 4 (malloc 8) ∷ eval (call 1 Void []) ∷ eval (free q) ∷ met ∷ []) ∷ function Void [] (eval (number 0) ∷ []) ∷ []))
      (zeros 16 8 ∷ zeros 32 8 ∷ []) (Faulted 1 (token 7))
  -- void *f(void) { 0; return 0; } .. malloc(8) == f()«7»;    and so is what their expressions hold
  pub held_operands_are_roots : GraphComesTo (own (main (ends 7 (eval (binary an_int Equal (malloc 8) (call 1 (Pointer 1) []))) ∷ []) ∷ function (Pointer 1) [] (eval (number 0) ∷ give (number 0) ∷ []) ∷ []))
      (zeros 16 8 ∷ []) (Faulted 7 (token 7))
  -- void *f(void *c) { return c; } .. free(f(malloc(8))); «1»..    and the argument, and the value that is returned
  pub returned_value_is_held : GraphComesTo (own (main (eval (free (call 1 (Pointer 1) (malloc 8 ∷ []))) ∷ met ∷ []) ∷ function (Pointer 1) (parameter 12 8 (Pointer 1) ∷ []) (give (variable (Pointer 1) 12) ∷ []) ∷ []))
      (zeros 16 8 ∷ zeros 32 8 ∷ []) (Faulted 1 (token 7))
  -- int f(void) { void *q = malloc(8); «7»return 0; }    loss is looked for at the word
  pub lost_at_return : GraphComesTo (own (main (eval (call 1 an_int []) ∷ []) ∷ function an_int [] (declare_as 4 (malloc 8) ∷ at 7 (give (number 0)) ∷ []) ∷ [])) (zeros 16 8 ∷ zeros 32 8 ∷ []) (Faulted 7 (token 7))
  -- void f(void) { void *q = malloc(8); «7»}    or at the `}`
  pub lost_at_end : GraphComesTo (own (main (eval (call 1 Void []) ∷ []) ∷ closes 7 (function Void [] (declare_as 4 (malloc 8) ∷ [])) ∷ [])) (zeros 16 8 ∷ zeros 32 8 ∷ []) (Faulted 7 (token 7))
  -- _Bool f(void) { return 2; } .. if (f() == 1) «1»..    the result is converted
  pub result_is_converted : GraphComesTo (own (main (if_equal (call 1 a_truth []) 1 ∷ []) ∷ function a_truth [] (give (number 2) ∷ []) ∷ [])) [] (Faulted 1 (token 7))
  -- int f(void) { } .. if (f() == 9) «1»..    the `}` of a function with a result is any input of it (C11 6.9.1p12)
  pub end_is_input : GraphComesTo (own (main (if_equal (call 1 an_int []) 9 ∷ []) ∷ function an_int [] [] ∷ [])) (Input 9 ∷ []) (Faulted 1 (token 7))
  pub end_asks : GraphComesTo (own (main (eval (call 1 an_int []) ∷ []) ∷ function an_int [] [] ∷ [])) [] Waits
  -- of a pointer any 64 bits, of `_Bool` 0 or 1
  pub end_of_pointer : GraphComesTo (own (main (eval (call 1 (Pointer 1) []) ∷ met ∷ []) ∷ function (Pointer 1) [] [] ∷ [])) (Input (2 ^ 64 - 1) ∷ []) (Faulted 1 (token 7))
  pub end_of_truth : GraphComesTo (own (main (eval (call 1 a_truth []) ∷ met ∷ []) ∷ function a_truth [] [] ∷ [])) (Input 2 ∷ []) Ended
  -- static int x; int main(void) { if (x == 0) { x = 1; if (main() == 0) «1»..; } }    main that is called answers 0 at its `}`, too, and the run goes on
  pub main_is_called : GraphComesTo (record { declarations = []; statics = record { token = Some 1; bytes = 4 } ∷ []; functions = main (where_true (binary an_int Equal x (number 0)) (block (eval (set_to x (number 1)) ∷ if_equal (call 0 an_int []) 0 ∷ [])) ∷ []) ∷ []; strict = false }) (zeros 16 4 ∷ []) (Faulted 1 (token 7))
