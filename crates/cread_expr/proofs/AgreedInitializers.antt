-- Initialisers.
use Rattle.std.proofs.Common.{ℕ, ◌+◌, List, [], ◌∷◌, ◌++◌, length, codes, None, Some, refl, arith}
use Rattle.cbase.specs.declared.tree.init.Init.TheVariants.{Value}
use Rattle.cbase.specs.declared.tree.init.InitPart.{InitPart}
use Rattle.cevents.specs.declared.event.Event.TheVariants as event
use Rattle.cevents.specs.declared.piece.Piece.TheVariants as piece
use Rattle.cgrammar.specs.Phrases.{Context}
use Rattle.cgrammar.specs.ReadDeclarations.{read_part, read_initializer}
use Rattle.cgrammar.specs.ReadDeclarations as reader
use Rattle.cgrammar.specs.ReadLevels.{Level, read_list}
use Rattle.cgrammar.specs.ReadTypes.{closes_braces, behind_comma}
use Rattle.cgrammar.specs.Terminals.{Terminal, is_mark, is_name}
use Rattle.cgrammar.specs.Trees as tree
use Rattle.cparser.specs.DeclarationSteps.{member_part, init_part, init_parts, in_braces, valued, initializer}
use Rattle.cparser.specs.State.{State, rest}
use Rattle.cparser.specs.Steps.{Inner, all_parts}
use Rattle.cparser.specs.declared.wanted.Wanted.TheVariants as wanted
use Rattle.cread_expr.proofs.Agreed.{shop, Pieces, none, Ended, Agreed, Reads, Continues, ends, anyhow, context_of, init_piece, LevelAgrees}
use Rattle.cread_expr.proofs.AgreedRules.{agreed_goes, if_first, then_asked, then_ends, then_mark}
use Rattle.cread_expr.proofs.AgreedSteps.{still_lost, still_mark, still_write, still_make, still_ask_whole, ended_levels, ended_part, ended_none, ended_skip, ended_token, place_next, ended_write, ended_make}
use Rattle.cread_expr.proofs.AgreedTypesFields.{all_parts_agree}
use Rattle.cread_expr.proofs.AgreedTypesSizes.{read_ends, lost_here}
use Rattle.cread_expr.proofs.AgreedTypesSpecifiers.{still_over_comma, ended_comma, agreed_anyhow}

abbrev pub parts_piece : List InitPart → Pieces
parts_piece parts pieces = piece.Parts parts ∷ pieces

-- a part of a list in braces
pub init_part_agrees : {level : Level} {inner : Inner} (done : List InitPart) → LevelAgrees level inner
    → Continues (parts_piece done) (λ part. parts_piece (done ++ part ∷ [])) ends (read_part level) (init_part inner)
unfolding read_part init_part member_part
init_part_agrees {level} {inner} done agrees s before is =
    let far = ended_part s (parts_piece done) before is in
    agreed_goes s s is.status
    (if_first (is_mark (codes ".")) (rest s) _ _ far
    (λ next. then_asked (parts_piece done) level.initializer inner wanted.Initializer _ far agrees.initializer (still_write _ still_lost) (λ init levels behind others further.
    read_ends (ended_levels (omega arith) (ended_write (event.Part None) (λ pieces. refl) further))))
    (λ dot others is at_dot behind_dot. if_first is_name others _ _ behind_dot
    (λ none. lost_here behind_dot still_lost)
    (λ name more named at_name behind_name.
    then_mark (codes "=") more _ behind_name (still_write _ (still_ask_whole _ _ still_lost)) (λ equals end is at_equals behind_equals.
    then_asked (parts_piece done) level.initializer inner wanted.Initializer _ behind_equals agrees.initializer (still_write _ still_lost) (λ init levels behind last further.
    read_ends (ended_levels (omega arith) (ended_write (event.Part (Some _)) (λ pieces i. shop behind.expressions (piece.Parts (done ++ tree.initializer (Some (tree.identifier (ended_token at_name i))) init ∷ []) ∷ pieces)) further)))))))

in_braces_agrees : {level : Level} {inner : Inner} {s t : State} {before : ℕ} {context : Context} (row : List Terminal) → LevelAgrees level inner → Ended s t none none 0 0 before context row
    → Agreed none init_piece ends 0 before (reader.in_braces level context row) s (in_braces inner t)
unfolding in_braces init_parts
in_braces_agrees {level} {inner} row agrees far =
    if_first (is_mark (codes "}")) row _ _ far
    (λ some. then_ends none (λ context row. read_list closes_braces (read_part level) (length row + 1) context row) (all_parts closes_braces (init_part inner)) _ (ended_write event.NoParts (λ pieces. refl) far)
    (all_parts_agree parts_piece closes_braces (read_part level) (init_part inner) (λ done. init_part_agrees done agrees)) (still_make _ (still_mark _ (still_over_comma still_lost))) (λ parts levels behind others further.
    then_mark (codes "}") (behind_comma others) _ (ended_comma further) (still_make _ still_lost) (λ closing end is at_closing behind_closing.
    read_ends (ended_levels (omega arith) (ended_make event.Braces (λ pieces. refl) behind_closing)))))
    (λ closing others is at_closing behind_closing.
    read_ends (ended_levels (omega arith) (ended_make event.Braces (λ pieces. refl) (ended_skip (ended_write event.NoParts (λ pieces. refl) at_closing)))))

-- an initialiser
pub initializer_ends : {level : Level} {inner : Inner} → LevelAgrees level inner → Reads init_piece ends (read_initializer level) (initializer inner)
unfolding read_initializer initializer valued
initializer_ends {level} {inner} agrees s before is flat =
    let far = ended_none s none before is flat in
    agreed_goes s s is.status
    (if_first (is_mark (codes "{")) (rest s) _ _ far
    (λ value. then_asked none level.assignment inner wanted.Assignment _ far agrees.assignment (still_make _ still_lost) (λ value levels behind others further.
    let place = place_next further in
    read_ends (ended_levels (omega arith) (ended_make _ (λ pieces i. shop behind.expressions (piece.Init (Value value (place i)) ∷ pieces)) further))))
    (λ opening others is at_opening behind_opening. in_braces_agrees others agrees behind_opening))

pub initializer_agrees : {level : Level} {inner : Inner} → LevelAgrees level inner → Reads init_piece anyhow (read_initializer level) (initializer inner)
initializer_agrees {level} agrees s before is flat = agreed_anyhow (read_initializer level (context_of s before) (rest s)) (initializer_ends agrees s before is flat)
