use Rattle.std.proofs.Common.{◌∙◌}
use Rattle.ctokens.proofs.WordLengths.{by_length}
use Rattle.ctokens.proofs.symbol_of.word_symbol.Goals as goal

pub returns-in-1 : goal.returns-in-1
returns-in-1 c = by_length 1 c.args.bytes.now c.in-1.is

pub returns-in-2 : goal.returns-in-2
returns-in-2 c = c.symbol_of_two.ensures ∙ by_length 2 c.args.bytes.now c.in-2.is

pub returns-in-3 : goal.returns-in-3
returns-in-3 c = c.symbol_of_three.ensures ∙ by_length 3 c.args.bytes.now c.in-3.is

pub returns-in-4 : goal.returns-in-4
returns-in-4 c = c.symbol_of_four.ensures ∙ by_length 4 c.args.bytes.now c.in-4.is

pub returns-in-5 : goal.returns-in-5
returns-in-5 c = c.symbol_of_five.ensures ∙ by_length 5 c.args.bytes.now c.in-5.is

pub returns-in-6 : goal.returns-in-6
returns-in-6 c = c.symbol_of_six.ensures ∙ by_length 6 c.args.bytes.now c.in-6.is

pub returns-in-7 : goal.returns-in-7
returns-in-7 c = c.symbol_of_seven.ensures ∙ by_length 7 c.args.bytes.now c.in-7.is

pub returns-in-8 : goal.returns-in-8
returns-in-8 c = c.symbol_of_eight.ensures ∙ by_length 8 c.args.bytes.now c.in-8.is
