-- Whole graphs, written out by hand: the edges in the order in which they are made, from a point, with an instruction, to a point.
use Rattle.std.specs.Prelude.{◌≡◌, ℕ, true, false, List, [], ◌∷◌, map, Option, None, Some}
use Rattle.cbase.specs.declared.abi.Abi.TheVariants.{Lp64}
use Rattle.arithmetic.specs.declared.op.Op.TheVariants as op
use Rattle.c_machine.specs.declared.kind.Kind.TheVariants.{Pointer, Void}
use Rattle.c_machine.specs.Text.{Function}
use Rattle.cbase.specs.declared.tree.operators.UnaryOp.TheVariants.{Not}
use Rattle.flow.specs.declared.instruction.Instr.{Instr}
use Rattle.flow.specs.declared.instruction.Instr.TheVariants as i
use Rattle.flow.specs.declared.flow_graph.Flow.{Flow}
use Rattle.lowering.specs.Lowering.{flow_in}
use Rattle.lowering.specs.Samples.{Tree, text_in, an_int, number, variable, unary, set_to, counted, choice, cast_to, malloc, call, eval, give, where_true, while_true, nothing, declare, local_at, main, function}

pub record Step : Type 0 where
  pub from : ℕ
  pub instr : Instr
  pub to : ℕ

abbrev pub step : ℕ → Instr → ℕ → Step
step from instr to = record { from = from; instr = instr; to = to }

abbrev pub steps_of : Option Flow → List Step
steps_of None = []
steps_of (Some flow) = map (λ edge. step edge.from edge.instr edge.to) flow.edges

abbrev pub heads_of : Option Flow → List ℕ
heads_of None = []
heads_of (Some flow) = flow.heads

-- `n`, an int, and pointers `q`
abbrev pub own : List Tree → List (Function Tree) → Option Flow
own body functions = flow_in Lp64 (text_in (record {
  locals = local_at 1 4 ∷ local_at 2 4 ∷ local_at 4 8 ∷ [];
  statics = [];
  sets = [];
  functions = main body ∷ functions;
  enough = 30;
  strict = false;
}))

abbrev pub x : Tree
x = variable an_int 1

abbrev pub n : Tree
n = variable an_int 2

abbrev pub q : Tree
q = variable (Pointer 4) 4

pub record AreWritten : Type 0 where
  -- return 0;    behind it the `}` has its edges, to which none leads
  pub returns : steps_of (own (give (number 0) ∷ []) []) ≡
      step 0 (i.Enter []) 3 ∷ step 3 (i.Number 1 0 4) 5 ∷ step 5 (i.Move 0 1) 6 ∷ step 6 (i.Finish (1 ∷ [])) 7 ∷ step 7 (i.Leave []) 1
      ∷ step 4 (i.Number 0 0 4) 8 ∷ step 8 (i.Leave []) 1 ∷ step 1 (i.Return (Some 0)) 2 ∷ []
  -- int *q; if (!q) ;    both sides of the test have a `Finish`, and `;` has no edge
  pub tests : steps_of (own (declare 4 ∷ where_true (unary an_int Not q) nothing ∷ []) []) ≡
      step 0 (i.Enter (0 ∷ [])) 3 ∷ step 3 (i.Address 3 0) 8 ∷ step 8 (i.Read 1 3 8 true) 7 ∷ step 7 (i.Number 2 0 8) 9
      ∷ step 9 (i.IfSame 1 2) 6 ∷ step 9 (i.IfDifferent 1 2) 5 ∷ step 6 (i.Finish []) 4 ∷ step 5 (i.Finish []) 4
      ∷ step 4 (i.Number 0 0 4) 10 ∷ step 10 (i.Leave (0 ∷ [])) 1 ∷ step 1 (i.Return (Some 0)) 2 ∷ []
  -- int n, x; x = n++;    the old value is moved before the sum empties its register
  pub counts : steps_of (own (declare 2 ∷ declare 1 ∷ eval (set_to x (counted true true n)) ∷ []) []) ≡
      step 0 (i.Enter (0 ∷ 1 ∷ [])) 3 ∷ step 3 (i.Address 1 1) 6 ∷ step 6 (i.Address 3 0) 8 ∷ step 8 (i.Move 4 3) 9 ∷ step 9 (i.Read 5 4 4 false) 10
      ∷ step 10 (i.Move 2 5) 11 ∷ step 11 (i.Number 7 1 4) 12 ∷ step 12 (i.Compute 8 op.Add 5 7 4 true) 13 ∷ step 13 (i.Write 3 8 4) 7
      ∷ step 7 (i.Write 1 2 4) 5 ∷ step 5 (i.Finish []) 4 ∷ step 4 (i.Number 0 0 4) 14 ∷ step 14 (i.Leave (0 ∷ 1 ∷ [])) 1 ∷ step 1 (i.Return (Some 0)) 2 ∷ []
  -- int *q; q = malloc(4);    two edges out of one point, one with a block of 4 bytes
  pub allocates : steps_of (own (declare 4 ∷ eval (set_to q (malloc (number 4))) ∷ []) []) ≡
      step 0 (i.Enter (0 ∷ [])) 3 ∷ step 3 (i.Address 1 0) 6 ∷ step 6 (i.Allocate 2 4 false) 7 ∷ step 6 (i.AllocateNone 2) 7
      ∷ step 7 (i.Write 1 2 8) 5 ∷ step 5 (i.Finish []) 4 ∷ step 4 (i.Number 0 0 4) 8 ∷ step 8 (i.Leave (0 ∷ [])) 1 ∷ step 1 (i.Return (Some 0)) 2 ∷ []
  -- int n, *q; n ? (void)q : f();    with void f(void) { }: behind the call a register with 0 stands, as on the other side
  pub lets_go : steps_of (own (declare 2 ∷ declare 4 ∷ eval (choice Void n (cast_to Void q) (call 1 Void [])) ∷ []) (function Void [] [] ∷ [])) ≡
      step 0 (i.Enter (0 ∷ 1 ∷ [])) 3 ∷ step 3 (i.Address 4 0) 9 ∷ step 9 (i.Read 2 4 4 false) 8 ∷ step 8 (i.Number 3 0 4) 10
      ∷ step 10 (i.IfSame 2 3) 6 ∷ step 10 (i.IfDifferent 2 3) 7 ∷ step 7 (i.Address 5 1) 12 ∷ step 12 (i.Read 1 5 8 true) 11 ∷ step 11 (i.Number 1 0 8) 5
      ∷ step 6 (i.Call 1 [] None) 13 ∷ step 13 (i.Number 1 0 8) 5 ∷ step 5 (i.Finish (1 ∷ [])) 4
      ∷ step 4 (i.Number 0 0 4) 14 ∷ step 14 (i.Leave (0 ∷ 1 ∷ [])) 1 ∷ step 1 (i.Return (Some 0)) 2
      ∷ step 15 (i.Enter []) 18 ∷ step 18 (i.Leave []) 16 ∷ step 16 (i.Return None) 17 ∷ []
  -- while (1) ;    the head is where the test begins
  pub loops : steps_of (own (while_true (number 1) nothing ∷ []) []) ≡
      step 0 (i.Enter []) 3 ∷ step 3 (i.Number 1 1 4) 7 ∷ step 7 (i.Number 2 0 4) 8 ∷ step 8 (i.IfSame 1 2) 5 ∷ step 8 (i.IfDifferent 1 2) 6
      ∷ step 6 (i.Finish []) 3 ∷ step 5 (i.Finish []) 4 ∷ step 4 (i.Number 0 0 4) 9 ∷ step 9 (i.Leave []) 1 ∷ step 1 (i.Return (Some 0)) 2 ∷ []
  pub head : heads_of (own (while_true (number 1) nothing ∷ []) []) ≡ 3 ∷ []
