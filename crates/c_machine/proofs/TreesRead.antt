-- Trees are read form by form.
use Rattle.std.proofs.Common.{◌≡◌, ◌∙◌, ℕ, true, false, ap}
use Rattle.std.specs.Prelude.{map}
use Rattle.cbase.specs.declared.ctype.CType.TheVariants as ctype
use Rattle.cbase.specs.declared.place.Place.{Place}
use Rattle.cbase.specs.declared.tree.expr.ExprForm.TheVariants as tree
use Rattle.cbase.specs.declared.tree.expr.ExprForm.TheOpen as layer
use Rattle.cbase.specs.declared.tree.expr.ExprForm.TheViews.{out-roll-Decl, out-roll-Declared, outs-Name, outs-Constant, outs-Unary, outs-Binary, outs-Assign, outs-Count, outs-Choose, outs-Cast, outs-SizeOf, outs-SizeOfType, outs-OffsetOf, outs-Index, outs-ExprForm::Member, outs-Call, outs-Inner, outs-AssertFail, outs-Declare, outs-Eval, outs-Block, outs-If, outs-While, outs-Do, outs-For, outs-Break, outs-Continue, outs-Return, outs-Value, outs-Braces, roll-Decl}
use Rattle.typing.proofs.ctypes.ShapeKinds.{are_kinds}
use Rattle.typing.specs.Forms.{NamesParts, DeclaratorParts}
use Rattle.c_machine.specs.Program.{Program}
use Rattle.c_machine.specs.Reading.{expr_of, AreExpressionsRead, AreStatementsRead, AreTypesRead, AreRead}
use Rattle.c_machine.specs.Text.{Declare}
use Rattle.c_machine.specs.Trees.{form_of, clause_of, initialiser_of, kind_as, name_of}

expressions_read : (p : Program) (number : ℕ) (place : Place) → AreExpressionsRead p number place
expressions_read p number place = record {
  name = λ bytes. ap (form_of p (expr_of number place (tree.Name bytes))) (outs-Name bytes);
  constant = λ spelling. ap (form_of p (expr_of number place (tree.Constant spelling))) (outs-Constant spelling);
  unary = λ op arg. ap (form_of p (expr_of number place (tree.Unary op arg))) (outs-Unary op arg);
  binary = λ op left right. ap (form_of p (expr_of number place (tree.Binary op left right))) (outs-Binary op left right);
  assignment = λ op left right. ap (form_of p (expr_of number place (tree.Assign op left right))) (outs-Assign op left right);
  counting = λ up after arg. ap (form_of p (expr_of number place (tree.Count up after arg))) (outs-Count up after arg);
  choice = λ test one other. ap (form_of p (expr_of number place (tree.Choose test one other))) (outs-Choose test one other);
  cast = λ to arg. ap (form_of p (expr_of number place (tree.Cast to arg))) (outs-Cast to arg);
  size = λ arg. ap (form_of p (expr_of number place (tree.SizeOf arg))) (outs-SizeOf arg);
  size_of_type = λ to. ap (form_of p (expr_of number place (tree.SizeOfType to))) (outs-SizeOfType to);
  offset_of = λ to path. ap (form_of p (expr_of number place (tree.OffsetOf to path))) (outs-OffsetOf to path);
  index = λ base index. ap (form_of p (expr_of number place (tree.Index base index))) (outs-Index base index);
  member = λ base name. ap (form_of p (expr_of number place (tree.Member base name false))) (outs-ExprForm::Member base name false);
  pointed = λ base name. ap (form_of p (expr_of number place (tree.Member base name true))) (outs-ExprForm::Member base name true);
  call = λ callee args. ap (form_of p (expr_of number place (tree.Call callee args))) (outs-Call callee args);
  inner = λ body close. ap (form_of p (expr_of number place (tree.Inner body close))) (outs-Inner body close);
  assertion = ap (form_of p (expr_of number place tree.AssertFail)) outs-AssertFail;
}

declaration_read : (parts : NamesParts) → clause_of (layer.Declare (roll-Decl parts)) ≡ Declare (map name_of parts.names)
declaration_read parts = ap (λ (read : NamesParts). Declare (map name_of read.names)) (out-roll-Decl parts)

statements_read : (p : Program) (first last : Place) → AreStatementsRead p first last
statements_read p first last = record {
  declaration = λ parts. ap clause_of (outs-Declare (roll-Decl parts)) ∙ declaration_read parts;
  declared = λ parts. ap (λ (read : DeclaratorParts). record { place = read.place; init = read.init }) (out-roll-Declared parts);
  evaluation = λ expr. ap clause_of (outs-Eval expr);
  block = λ body. ap clause_of (outs-Block body);
  branch = λ test close one other. ap clause_of (outs-If test close one other);
  while_loop = λ test close body. ap clause_of (outs-While test close body);
  do_loop = λ body test close. ap clause_of (outs-Do body test close);
  for_loop = λ begin test semicolon next close body. ap clause_of (outs-For begin test semicolon next close body);
  leaving = ap clause_of outs-Break;
  continuing = ap clause_of outs-Continue;
  returning = λ expr. ap clause_of (outs-Return expr);
  value = λ value after. ap initialiser_of (outs-Value value after);
  braces = λ parts. ap initialiser_of (outs-Braces parts);
}

types_read : (p : Program) → AreTypesRead p
types_read p = record {
  void = ap (kind_as p ctype.Void) (are_kinds p.structs).void;
  bool = ap (kind_as p ctype.Bool) (are_kinds p.structs).bool;
  int = λ bytes signed. ap (kind_as p (ctype.Int bytes signed)) ((are_kinds p.structs).int bytes signed);
  pointer = λ item. ap (kind_as p (ctype.Pointer item)) ((are_kinds p.structs).pointer item);
  array = λ item count. ap (kind_as p (ctype.Array item count)) ((are_kinds p.structs).array item count);
  struct = λ number. ap (kind_as p (ctype.Struct number)) ((are_kinds p.structs).struct number);
}

pub trees_are_read : AreRead
trees_are_read p = (expressions_read p, statements_read p, types_read p)
