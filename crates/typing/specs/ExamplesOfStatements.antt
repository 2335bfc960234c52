-- Statements with what is found of them, worked out by hand from C11. Tokens are counted from 0.
use Rattle.std.specs.Prelude.{[], ◌∷◌, None, Some, codes}
use Rattle.cbase.specs.declared.tree.expr.ExprForm.TheVariants.{SizeOfType, Call, Inner}
use Rattle.cbase.specs.declared.tree.spec.TypeSpec.TheVariants.{Enum as EnumWords}
use Rattle.cbase.specs.declared.tree.stmt.StmtForm.TheVariants.{Eval, Block, If, While, Do, For, Break, Continue, Return}
use Rattle.typing.specs.declared.ctypes.found.Broken.TheVariants.{Rule}
use Rattle.typing.specs.Sample.{start, token, node, name, type_name, enumerator, statement_at, in_function, in_procedure, PassesIn, IsRefusedIn}

-- statements (C11 6.8), in the body of a function whose result is an int, of one without, and outside of functions
pub record AreStatements : Type 0 where
  -- ;
  pub nothing : PassesIn in_function (statement_at 0 (Eval None))
  -- n;
  pub dropped : PassesIn in_function (statement_at 0 (Eval (Some (name (codes "n") 0 0))))
  -- x;
  pub struct_dropped : IsRefusedIn in_function (statement_at 0 (Eval (Some (name (codes "x") 0 0)))) 0 (Rule 4)
  -- y;
  pub undeclared : IsRefusedIn in_function (statement_at 0 (Eval (Some (name (codes "y") 0 0)))) 0 (Rule 1)
  -- if (n) ;
  pub condition : PassesIn in_function (statement_at 0 (If (name (codes "n") 0 2) (token 3) (statement_at 4 (Eval None)) None))
  -- if (x) ;
  pub struct_as_condition : IsRefusedIn in_function (statement_at 0 (If (name (codes "x") 0 2) (token 3) (statement_at 4 (Eval None)) None)) 2 (Rule 4)
  -- if (g()) ;
  pub void_as_condition : IsRefusedIn in_function (statement_at 0 (If (node 1 2 (Call (name (codes "g") 0 2) [])) (token 5) (statement_at 6 (Eval None)) None)) 2 (Rule 4)
  -- if (y) break;
  pub condition_first : IsRefusedIn in_function (statement_at 0 (If (name (codes "y") 0 2) (token 3) (statement_at 4 Break) None)) 2 (Rule 1)
  -- if (n) break;
  pub branch : IsRefusedIn in_function (statement_at 0 (If (name (codes "n") 0 2) (token 3) (statement_at 4 Break) None)) 4 (Rule 10)
  -- if (n) ; else break;
  pub other_branch : IsRefusedIn in_function (statement_at 0 (If (name (codes "n") 0 2) (token 3) (statement_at 4 (Eval None)) (Some (statement_at 6 Break)))) 6 (Rule 10)
  -- if (n) break; else y;
  pub first_branch_first : IsRefusedIn in_function (statement_at 0 (If (name (codes "n") 0 2) (token 3) (statement_at 4 Break) (Some (statement_at 7 (Eval (Some (name (codes "y") 1 7))))))) 4 (Rule 10)
  -- while (n) break;
  pub left : PassesIn in_function (statement_at 0 (While (name (codes "n") 0 2) (token 3) (statement_at 4 Break)))
  -- while (n) if (n) continue;
  pub left_in_branch : PassesIn in_function (statement_at 0 (While (name (codes "n") 0 2) (token 3) (statement_at 4 (If (name (codes "n") 1 6) (token 7) (statement_at 8 Continue) None))))
  -- break;
  pub no_loop : IsRefusedIn in_function (statement_at 0 Break) 0 (Rule 10)
  -- continue;
  pub no_loop_to_continue : IsRefusedIn in_function (statement_at 0 Continue) 0 (Rule 10)
  -- { while (n) ; break; }
  pub behind_loop : IsRefusedIn in_function (statement_at 0 (Block ((statement_at 1 (While (name (codes "n") 0 3) (token 4) (statement_at 5 (Eval None)))) ∷ (statement_at 6 Break) ∷ []))) 6 (Rule 10)
  -- do continue; while (n);
  pub at_least_once : PassesIn in_function (statement_at 0 (Do (statement_at 1 Continue) (name (codes "n") 0 5) (token 6)))
  -- do ; while (x);
  pub struct_behind_body : IsRefusedIn in_function (statement_at 0 (Do (statement_at 1 (Eval None)) (name (codes "x") 0 4) (token 5))) 4 (Rule 4)
  -- do y; while (x);
  pub body_before_condition : IsRefusedIn in_function (statement_at 0 (Do (statement_at 1 (Eval (Some (name (codes "y") 0 1)))) (name (codes "x") 1 5) (token 6))) 1 (Rule 1)
  -- while (({ break; n; })) ;
  pub left_in_condition : IsRefusedIn in_function (statement_at 0 (While (node 1 3 (Inner ((statement_at 5 Break) ∷ (statement_at 7 (Eval (Some (name (codes "n") 0 7)))) ∷ []) (token 9))) (token 11) (statement_at 12 (Eval None)))) 5 (Rule 10)
  -- while (n) while (({ break; n; })) ;
  pub left_in_inner_condition : PassesIn in_function (statement_at 0 (While (name (codes "n") 0 2) (token 3) (statement_at 4 (While (node 2 7 (Inner ((statement_at 9 Break) ∷ (statement_at 11 (Eval (Some (name (codes "n") 1 11)))) ∷ []) (token 13))) (token 15) (statement_at 16 (Eval None))))))
  -- for (;; ({ break; n; })) ;
  pub left_in_part_of_for : IsRefusedIn in_function (statement_at 0 (For (statement_at 2 (Eval None)) None (token 3) (Some (node 1 4 (Inner ((statement_at 6 Break) ∷ (statement_at 8 (Eval (Some (name (codes "n") 0 8)))) ∷ []) (token 10)))) (token 12) (statement_at 13 (Eval None)))) 6 (Rule 10)
  -- for (;;) break;
  pub endless : PassesIn in_function (statement_at 0 (For (statement_at 2 (Eval None)) None (token 3) None (token 4) (statement_at 5 Break)))
  -- for (n; n; n) continue;
  pub all_parts : PassesIn in_function (statement_at 0 (For (statement_at 2 (Eval (Some (name (codes "n") 0 2)))) (Some (name (codes "n") 1 4)) (token 5) (Some (name (codes "n") 2 6)) (token 7) (statement_at 8 Continue)))
  -- for (x; y; ) ;
  pub struct_in_first_part : IsRefusedIn in_function (statement_at 0 (For (statement_at 2 (Eval (Some (name (codes "x") 0 2)))) (Some (name (codes "y") 1 4)) (token 5) None (token 6) (statement_at 7 (Eval None)))) 2 (Rule 4)
  -- for (;; x) ;
  pub struct_in_last_part : IsRefusedIn in_function (statement_at 0 (For (statement_at 2 (Eval None)) None (token 3) (Some (name (codes "x") 0 4)) (token 5) (statement_at 6 (Eval None)))) 4 (Rule 4)
  -- for (; x; ) ;
  pub struct_as_test : IsRefusedIn in_function (statement_at 0 (For (statement_at 2 (Eval None)) (Some (name (codes "x") 0 3)) (token 4) None (token 5) (statement_at 6 (Eval None)))) 3 (Rule 4)
  -- return n;
  pub returned : PassesIn in_function (statement_at 0 (Return (Some (name (codes "n") 0 1))))
  -- return;
  pub nothing_returned : IsRefusedIn in_function (statement_at 0 (Return None)) 0 (Rule 11)
  -- return; (in a function without a result)
  pub returned_from_procedure : PassesIn in_procedure (statement_at 0 (Return None))
  -- return n; (in a function without a result)
  pub value_in_procedure : IsRefusedIn in_procedure (statement_at 0 (Return (Some (name (codes "n") 0 1)))) 0 (Rule 11)
  -- return y; (in a function without a result)
  pub value_first : IsRefusedIn in_procedure (statement_at 0 (Return (Some (name (codes "y") 0 1)))) 1 (Rule 1)
  -- return p;
  pub pointer_as_int : IsRefusedIn in_function (statement_at 0 (Return (Some (name (codes "p") 0 1)))) 1 (Rule 5)
  -- return n; (outside of functions)
  pub outside : IsRefusedIn start (statement_at 0 (Return (Some (name (codes "n") 0 1)))) 0 (Rule 11)
  -- return; (outside of functions)
  pub nothing_outside : IsRefusedIn start (statement_at 0 (Return None)) 0 (Rule 11)
  -- { x; }
  pub struct_in_block : IsRefusedIn in_function (statement_at 0 (Block ((statement_at 1 (Eval (Some (name (codes "x") 0 1)))) ∷ []))) 1 (Rule 4)
  -- { n; n; }
  pub value_in_block : PassesIn in_function (statement_at 0 (Block ((statement_at 1 (Eval (Some (name (codes "n") 0 1)))) ∷ (statement_at 3 (Eval (Some (name (codes "n") 1 3)))) ∷ [])))
  -- { if (sizeof(enum { k })) k; k; }
  pub scope_of_condition : IsRefusedIn in_function (statement_at 0 (Block ((statement_at 1 (If (node 0 3 (SizeOfType (type_name (EnumWords None (Some (enumerator (codes "k") 7 None ∷ []))) 0 []))) (token 10) (statement_at 11 (Eval (Some (name (codes "k") 1 11)))) None)) ∷ (statement_at 13 (Eval (Some (name (codes "k") 2 13)))) ∷ []))) 13 (Rule 1)
