-- The readers of all levels agree: the steps come to what the reader function gives.
use Rattle.std.proofs.Common.{◌≡◌, ℕ, zero, suc, ◌+◌, refl, arith}
use Rattle.cgrammar.specs.ReadLevels.{Level}
use Rattle.cgrammar.specs.Reader.{level}
use Rattle.cparser.specs.ReadingSteps.{reads, inner_at}
use Rattle.cparser.specs.Steps.{Inner}
use Rattle.cread_expr.proofs.Agreed.{LevelAgrees}
use Rattle.cread_expr.proofs.AgreedBrackets.{cast_agrees, operation_reads, conditional_reads, assignment_reads, expression_reads}
use Rattle.cread_expr.proofs.AgreedInitializers.{initializer_agrees}
use Rattle.cread_expr.proofs.AgreedLists.{failed_lost}
use Rattle.cread_expr.proofs.AgreedOperands.{PartsAgree}
use Rattle.cread_expr.proofs.AgreedRules.{agreed_failed}
use Rattle.cread_expr.proofs.AgreedStatements.{as_anyhow, block_agrees, clause_agrees}
use Rattle.cread_expr.proofs.AgreedStatementsLabels.{statement_agrees, item_agrees}
use Rattle.cread_expr.proofs.AgreedTypesSizes.{type_name_agrees}
use Rattle.cread_expr.proofs.AgreedTypesSpecifiers.{specifier_agrees}

-- no tree has no level
none_agrees : LevelAgrees (level 0) (inner_at 0)
unfolding reads
none_agrees = record {
  most = refl;
  cast = λ s before is none_before. agreed_failed (failed_lost s);
  operation = λ loosest s before is none_before. agreed_failed (failed_lost s);
  conditional = λ s before is none_before. agreed_failed (failed_lost s);
  assignment = λ s before is none_before. agreed_failed (failed_lost s);
  expression = λ s before is none_before. agreed_failed (failed_lost s);
  specifier = λ s before is none_before. agreed_failed (failed_lost s);
  initializer = λ s before is none_before. agreed_failed (failed_lost s);
  clause = λ s before is none_before. agreed_failed (failed_lost s);
  statement = λ s before is none_before. agreed_failed (failed_lost s);
  item = λ s before is none_before. agreed_failed (failed_lost s);
}

-- one level more
operands_agree : {level : Level} {inner : Inner} → LevelAgrees level inner → PartsAgree level inner
operands_agree below = record {
  deeper = below;
  blocks = block_agrees below;
  types = type_name_agrees below;
}

above_agrees : (most : ℕ) → LevelAgrees (level most) (inner_at most) → LevelAgrees (level (suc most)) (inner_at (suc most))
unfolding reads
above_agrees most below =
    let same = below.most in
    let parts : PartsAgree (level most) (inner_at most) = operands_agree below in
    record {
      most = one_more most (level most).most same;
      cast = cast_agrees parts;
      operation = λ loosest. operation_reads loosest parts;
      conditional = conditional_reads parts;
      assignment = assignment_reads parts;
      expression = expression_reads parts;
      specifier = specifier_agrees below;
      initializer = initializer_agrees below;
      clause = λ s before is none_before. as_anyhow _ (clause_agrees below s before is none_before);
      statement = λ s before is none_before. as_anyhow _ (statement_agrees below s before is none_before);
      item = λ s before is none_before. as_anyhow _ (item_agrees below s before is none_before);
    }
  where
    one_more : (one other : ℕ) → one ≡ other → suc one ≡ other + 1
    one_more one other same = omega (arith, same)

pub levels_agree : (most : ℕ) → LevelAgrees (level most) (inner_at most)
levels_agree zero = none_agrees
levels_agree (suc most) = above_agrees most (levels_agree most)
