-- What was told of a statement, and of an item of the file, is what is found of it, since it has one outcome.
use Rattle.std.proofs.Common.{◌≡◌, Result, Ok, Err, IfOk, map}
use Rattle.cbase.specs.declared.abi.Abi.{Abi}
use Rattle.cbase.specs.declared.no_memory.NoMemory.{NoMemory}
use Rattle.cbase.specs.declared.place.Place.{Place}
use Rattle.cbase.specs.declared.tree.item.Item.{Item}
use Rattle.cbase.specs.declared.tree.stmt.Stmt.{Stmt}
use Rattle.typing.specs.Items.{ItemIs}
use Rattle.typing.specs.Outcomes.{Passes, Refused}
use Rattle.typing.specs.Typing.{StatementIs}
use Rattle.typing.proofs.OneItem.{one_item}
use Rattle.typing.proofs.OneOutcome.{one_outcome}
use Rattle.expressions.specs.declared.found.Found.{Found}
use Rattle.expressions.specs.declared.found.Found.TheVariants.{Passes as FoundToPass, Refused as FoundRefused}
use Rattle.expressions.specs.Context.{Context, declared}
use Rattle.expressions.specs.Found.{nothing}
use Rattle.expressions.specs.FileScope.{file_scope}
use Rattle.expressions.specs.Language.{language}
use Rattle.expressions.specs.Numbers.{handed_at}
use Rattle.expressions.specs.Walked.{Walked, Says}
use Rattle.items.specs.InFile.{SaysInFile}
use Rattle.items.specs.tree_walk.Exact.{ItemIsNothingElse, NothingElse}

nothing_else : (abi : Abi) (stmt : Stmt) (old new : Context) (found : Found (Unit {0}))
    → Walked (Says abi (λ o. StatementIs stmt o)) nothing old new found → NothingElse abi stmt old new found
nothing_else abi stmt old new (FoundToPass told) walked = λ n agrees outcome after also.
    let same : (outcome ≡ Passes tt (map (handed_at n) walked.rows)) × (after ≡ declared new) =
    (one_outcome (language abi n)).statements (declared old) stmt outcome (Passes tt (map (handed_at n) walked.rows)) after (declared new) also (walked.found n agrees) in
    ((walked.rows, walked.handed, same.0), same.1)
nothing_else abi stmt old new (FoundRefused first) walked = λ n agrees outcome after also.
    (one_outcome (language abi n)).statements (declared old) stmt outcome (Refused first) after (declared new) also (walked.found n agrees)

pub nothing_else_result : (abi : Abi) (stmt : Stmt) (old new : Context) (r : Result (Found (Unit {0})) NoMemory)
    → IfOk r (λ found. Walked (Says abi (λ o. StatementIs stmt o)) nothing old new found) → IfOk r (λ found. NothingElse abi stmt old new found)
nothing_else_result abi stmt old new (Ok found) walked = nothing_else abi stmt old new found walked
nothing_else_result abi stmt old new (Err error) walked = tt

item_is_nothing_else : (abi : Abi) (place : Place) (item : Item) (old new : Context) (found : Found (Unit {0}))
    → Walked (SaysInFile abi (λ o. ItemIs place item o)) nothing old new found → ItemIsNothingElse abi place item old new found
item_is_nothing_else abi place item old new (FoundToPass told) walked = λ n agrees outcome after also.
    let same : (outcome ≡ Passes tt (map (handed_at n) walked.rows)) × (after ≡ declared new) =
    (one_item (language abi n) (file_scope abi n)).one (declared old) place item outcome (Passes tt (map (handed_at n) walked.rows)) after (declared new) also (walked.found n agrees) in
    ((walked.rows, walked.handed, same.0), same.1)
item_is_nothing_else abi place item old new (FoundRefused first) walked = λ n agrees outcome after also.
    (one_item (language abi n) (file_scope abi n)).one (declared old) place item outcome (Refused first) after (declared new) also (walked.found n agrees)

pub item_result : (abi : Abi) (place : Place) (item : Item) (old new : Context) (r : Result (Found (Unit {0})) NoMemory)
    → IfOk r (λ found. Walked (SaysInFile abi (λ o. ItemIs place item o)) nothing old new found) → IfOk r (λ found. ItemIsNothingElse abi place item old new found)
item_result abi place item old new (Ok found) walked = item_is_nothing_else abi place item old new found walked
item_result abi place item old new (Err error) walked = tt
