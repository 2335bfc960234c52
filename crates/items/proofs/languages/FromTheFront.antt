-- What is found from the front of a text on, by the numbers of contexts, is found in C.
use Rattle.std.proofs.Common.{subst}
use Rattle.typing.specs.Items.{FindsInFile}
use Rattle.expressions.proofs.Growth.{agrees_before}
use Rattle.expressions.specs.Context.{declared}
use Rattle.expressions.specs.FileScope.{file_scope}
use Rattle.expressions.specs.Language.{language}
use Rattle.items.proofs.languages.Carried.{carried}
use Rattle.items.proofs.languages.CCarries.{carries}
use Rattle.items.specs.languages.AtTypes.{declarations_at, HasSignatures}
use Rattle.items.specs.languages.CLanguage.{Declarations, c_language, c_file}
use Rattle.items.specs.languages.CLaws.{FindsFromTheFront}

pub finds_from_the_front : FindsFromTheFront
finds_from_the_front abi strict bodied defined first last said begins grows found n agrees back =
    subst (λ (before : Declarations). FindsInFile (c_language abi) (c_file abi) before (said n) (declarations_at n (declared last)))
    (begins.declares n (agrees_before first last n grows agrees) back)
    ((carried (language abi n) (c_language abi) (file_scope abi n) (c_file abi) (declarations_at n) (HasSignatures n) (carries abi n back)).items
    (declared first) (said n) (declared last) (found n agrees) agrees.signatures).0
