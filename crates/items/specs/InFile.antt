-- What is found of a part of an item, in the language that a numbering gives, outside of functions.
use Rattle.cbase.specs.declared.abi.Abi.{Abi}
use Rattle.typing.specs.Items.{ItemSaying, FindsInFile}
use Rattle.typing.specs.Outcomes.{Outcome}
use Rattle.expressions.specs.FileScope.{file_scope}
use Rattle.expressions.specs.Language.{language}
use Rattle.expressions.specs.Numbers.{Numbering}
use Rattle.expressions.specs.Walked.{Tells}

abbrev pub SaysInFile : {A : Type 0} → Abi → (Outcome A → ItemSaying) → Tells A
SaysInFile abi say n before outcome after = FindsInFile (language abi n) (file_scope abi n) before (say outcome) after

-- one of which is said what numbers stand for
abbrev pub SaysInFileBy : {A : Type 0} → Abi → (Numbering → Outcome A → ItemSaying) → Tells A
SaysInFileBy abi say n before outcome after = FindsInFile (language abi n) (file_scope abi n) before (say n outcome) after
