use Rattle.std.proofs.Common.{◌≡◌, ◌≤◌, length, map, take, vec_capacity, vec_len}
use Rattle.ctokens.specs.ItemRows.{symbols_in, words_in}
use Rattle.ctokens.specs.TokenSymbols.{token_word}
use Rattle.ctokens.proofs.Numbered.{IsBlank, Numbered}
use Rattle.ctokens.proofs.numbering.number_words.Given as goal

abbrev pub invariant-loop-i : goal.invariant-loop-i
invariant-loop-i l = record {
  len : vec_len l.tokens ≡ l.i;
  room : length l.list ≤ vec_capacity l.tokens;
  symbols : symbols_in l.tokens.items ≡ take l.i l.read;
  numbered : Numbered l.names.keys (map (token_word l.text) (take l.i l.list)) (words_in l.tokens.items);
  blank : IsBlank l.names.keys l.blank;
}
