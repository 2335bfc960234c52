-- FILE is refused, or holds a program in which each item passes.
use Rattle.std.proofs.Common.{refl}
use Rattle.replay.proofs.Around.{about_file, about_text}
use Rattle.replay.proofs.Files.{answer_refused, program_held}
use Rattle.replay.proofs.answering.answer_of_text.Goals as goal

-- what FILE is refused for is said of it
pub returns-in-Refused : goal.returns-in-Refused
returns-in-Refused g c =
    let (about, told) = answer_refused c.args.command.now c.args.text.now _ c.in-Refused.answered c.in-Refused.is c.in_ok-answered.ensures in
    (about_file _ c.args.command.now c.args.text.now c.in-Refused.answered refl c.requires.opened about told, tt)

-- the tokens are those of FILE's bytes
pub returns-in-Holds : goal.returns-in-Holds
returns-in-Holds g c =
    let (whole, named, held) = program_held c.args.command.now c.args.text.now _ c.in-Holds.t c.in-Holds.typed c.in-Holds.is c.in_ok-answered.ensures in
    about_text _ c.args.command.now _ _ c.answer_of_typed.result whole c.answer_of_typed.ensures
