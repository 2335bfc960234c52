use Rattle.choices.proofs.Whole.{word_of_a_number}
use Rattle.choices.proofs.laws.number_has_one_word.Goals as goal

pub returns : goal.returns
returns c = word_of_a_number
