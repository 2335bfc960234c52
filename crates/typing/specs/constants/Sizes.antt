-- What holds of every constant: it has 4 bytes or 8, and its bits fit these.
use Rattle.std.specs.Prelude.{◌≡◌, ◌<◌, ◌⊎◌}
use Rattle.arithmetic.specs.Value.{modulus}
use Rattle.typing.specs.declared.constants.meaning.Constant.{Constant}
use Rattle.typing.specs.declared.constants.meaning.Meaning.{Meaning}
use Rattle.typing.specs.declared.constants.meaning.Meaning.TheVariants.{NoConstant, FitsNoType, Known}

pub record IsSized (constant : Constant) : Type 0 where
  pub bytes : (constant.bytes ≡ 4) ⊎ (constant.bytes ≡ 8)
  pub bits : constant.bits < modulus constant.bytes

abbrev pub IsSizedIfKnown : Meaning → Type 0
IsSizedIfKnown NoConstant = Unit {0}
IsSizedIfKnown FitsNoType = Unit {0}
IsSizedIfKnown (Known constant) = IsSized constant
