use Rattle.c_machine.proofs.FittingTexts.{texts_fit}
use Rattle.c_machine.proofs.laws.a_text_has_the_numbers_of_its_program.Goals as goal

pub returns : goal.returns
returns c = texts_fit
