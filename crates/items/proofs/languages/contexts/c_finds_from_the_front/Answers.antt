-- What is found from the front of a text on carries over, too.
use Rattle.items.proofs.languages.FromTheFront.{finds_from_the_front}
use Rattle.items.proofs.languages.contexts.c_finds_from_the_front.Goals as goal

pub returns : goal.returns
returns c = finds_from_the_front
