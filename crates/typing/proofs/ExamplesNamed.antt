-- Names and constants of the examples.
use Rattle.std.proofs.Common.{◌≡◌, true, [], ◌∷◌, refl, ap, subst, arith}
use Rattle.std.specs.Prelude.{is_some, codes}
use Rattle.cbase.specs.declared.abi.Abi.TheVariants.{Lp64}
use Rattle.typing.specs.declared.constants.meaning.Meaning.TheVariants.{NoConstant, FitsNoType, Known as Meant}
use Rattle.typing.specs.constants.Deciding.{letter, integer, meaning_of}
use Rattle.typing.specs.constants.Meanings.{Means}
use Rattle.typing.proofs.constants.Exact.{means}
use Rattle.cbase.specs.declared.tree.expr.ExprForm.TheViews.{outs-Name, outs-Constant, outs-AssertFail}
use Rattle.typing.specs.Faults.{fault}
use Rattle.typing.specs.declared.ctypes.found.Broken.TheVariants.{Construct}
use Rattle.typing.specs.Examples.{AreNamed}
use Rattle.typing.specs.Sample.{start, token}
use Rattle.typing.specs.Rules.{TypeAsOperand, ObjectName, FunctionAsOperand, ConstantOfNoType, SpellingOfNoConstant, AssertionFailed}
use Rattle.typing.specs.Typing.{Walked, NoPieces}
use Rattle.typing.proofs.SampleFacts.{laid_4, alone, n, row, five, y, read, int_of, unsigned_of, m_1}

m_hexadecimal : meaning_of Lp64 (codes "0x80000000") ≡ Meant (unsigned_of 2147483648)
unfolding letter integer
m_hexadecimal = refl

m_letter : meaning_of Lp64 (codes "'\\377'") ≡ Meant (int_of 4294967295)
unfolding letter integer
m_letter = refl

m_too_large : meaning_of Lp64 (codes "9223372036854775808") ≡ FitsNoType
unfolding letter integer
m_too_large = refl

m_none : meaning_of Lp64 (codes "1x") ≡ NoConstant
unfolding letter integer
m_none = refl

pub are_named : AreNamed
are_named = record {
  object = (_, _, _, n 0 0, refl);
  of_array = (_, _, _, row 0 0, refl);
  of_enum = (_, _, _, five 0 0, refl, refl);
  undeclared = (start, y 0 0);
  of_type = (start, Walked (outs-Name (codes "T")) NoPieces (TypeAsOperand refl));
  undefined = (start, Walked (outs-Name (codes "missing")) NoPieces (ObjectName refl (ap is_some (laid_4 true)) (alone _)));
  unsized = (start, Walked (outs-Name (codes "open")) NoPieces (ObjectName refl refl (alone _)));
  of_main = (start, Walked (outs-Name (codes "count")) NoPieces (ObjectName refl (ap is_some (laid_4 true)) (alone _)));
  of_function = (start, Walked (outs-Name (codes "f")) NoPieces (FunctionAsOperand refl (alone _)));
  of_undefined_function = (start, Walked (outs-Name (codes "lost")) NoPieces (FunctionAsOperand refl (record { front = []; back = fault (token 0) (Construct 20) ∷ []; whole = refl; later = tt; behind = (omega arith, tt) })));
  one = (_, _, _, read (codes "1") (int_of 1) 0 0 m_1, refl, refl);
  hexadecimal = (_, _, _, read (codes "0x80000000") (unsigned_of 2147483648) 0 0 m_hexadecimal, refl, refl);
  letter = (_, _, _, read (codes "'\\377'") (int_of 4294967295) 0 0 m_letter, refl, refl);
  too_large = (start, Walked (outs-Constant (codes "9223372036854775808")) NoPieces (ConstantOfNoType (subst (Means Lp64 (codes "9223372036854775808")) m_too_large (means Lp64 (codes "9223372036854775808")))));
  of_no_constant = (start, Walked (outs-Constant (codes "1x")) NoPieces (SpellingOfNoConstant (subst (Means Lp64 (codes "1x")) m_none (means Lp64 (codes "1x")))));
  assertion = (_, _, _, Walked outs-AssertFail NoPieces AssertionFailed, refl);
}
