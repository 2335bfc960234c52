-- So what is found by the one is found by the other.
use Rattle.expressions.specs.FileScope.{file_scope}
use Rattle.expressions.specs.Language.{language}
use Rattle.items.specs.languages.AtTypes.{declarations_at, HasSignatures}
use Rattle.items.specs.languages.CLanguage.{c_language, c_file}
use Rattle.items.proofs.languages.Carried.{carried}
use Rattle.items.proofs.languages.CCarries.{carries}
use Rattle.items.proofs.languages.contexts.c_finds_what_contexts_find.Goals as goal

pub returns : goal.returns
returns c = λ abi n back. carried (language abi n) (c_language abi) (file_scope abi n) (c_file abi) (declarations_at n) (HasSignatures n) (carries abi n back)
