use Rattle.std.proofs.Common.{◌≡◌, ◌∷◌, ◌++◌, [], map, take, arith, refl, ap, sym, ◌∙◌}
use Rattle.std.proofs.lemmas.Grind.{common_steps}
use Rattle.ctokens.specs.TokenSymbols.{token_word}
use Rattle.ctokens.proofs.Numbered.{blank_more, known_word, numbered_again, numbered_more, numbering_of, same_numbered, symbols_more, word_more, words_more}
use Rattle.ctokens.proofs.numbering.number_words.Goals as goal

pub loop-i-preserved-in-Some : goal.loop-i-preserved-in-Some
loop-i-preserved-in-Some c =
    let text = c.as_slice-text.result.now in
    let list = c.as_slice-list.result.now in
    let i = c.loop-i.i in
    let bytes = c.token_word-bytes.result.now in
    let is = known_word c.loop-i.blank bytes c.in-Some.word (sym c.known.ensures ∙ c.in-Some.is) in
    let there = c.loop-i.invariant.blank c.in-Some.word is.1 in
    let longer = ap (λ w. map (token_word text) (take i list) ++ w ∷ []) c.token_word-bytes.ensures ∙ word_more text list i _ (omega (arith, c.loop-i-test.true)) in
    record {
      len = omega (arith, c.loop-i.invariant.len, c.push_reserved.ensures.len);
      room = omega (arith, c.loop-i.invariant.room, c.push_reserved.ensures.capacity);
      symbols = symbols_more _ _ _ c.args.read.now i _ c.push_reserved.ensures.items (grind (arith, common_steps, c.loop-i-test.true, c.requires.each, c.as_slice-list.ensures)) refl c.loop-i.invariant.symbols;
      numbered = same_numbered _ _ _ _ _ (numbered_again _ _ _ bytes c.in-Some.word c.loop-i.invariant.numbered there.0 (there.1 ∙ sym is.0)) longer (words_more _ _ _ c.push_reserved.ensures.items);
      blank = c.loop-i.invariant.blank;
    }

pub loop-i-preserved : goal.loop-i-preserved
loop-i-preserved c =
    let text = c.as_slice-text.result.now in
    let list = c.as_slice-list.result.now in
    let i = c.loop-i.i in
    let longer = ap (λ w. map (token_word text) (take i list) ++ w ∷ []) c.token_word-bytes.ensures ∙ word_more text list i _ (omega (arith, c.loop-i-test.true)) in
    record {
      len = omega (arith, c.loop-i.invariant.len, c.push_reserved-in-loop-i.ensures.len);
      room = omega (arith, c.loop-i.invariant.room, c.push_reserved-in-loop-i.ensures.capacity);
      symbols = symbols_more _ _ _ c.args.read.now i _ c.push_reserved-in-loop-i.ensures.items (grind (arith, common_steps, c.loop-i-test.true, c.requires.each, c.as_slice-list.ensures)) refl c.loop-i.invariant.symbols;
      numbered = same_numbered _ _ _ _ _
          (numbered_more _ _ _ _ _ _ c.loop-i.invariant.numbered c.in_ok-found.ensures.keys c.in_ok-found.ensures.within c.in_ok-found.ensures.stored c.in_ok-found.ensures.unique)
          longer (words_more _ _ _ c.push_reserved-in-loop-i.ensures.items);
      blank = rw c.blank_behind-blank.ensures (blank_more _ _ _ _ _ c.loop-i.invariant.blank c.in_ok-found.ensures.keys c.in_ok-found.ensures.within c.in_ok-found.ensures.stored);
    }

pub returns-clause-numbers : goal.returns-clause-numbers
returns-clause-numbers c =
    let whole : map (token_word c.as_slice-text.result.now) (take c.loop-i.i c.as_slice-list.result.now) ≡ map (token_word c.args.t.now.text) c.args.t.now.list =
    grind (arith, common_steps, c.as_slice-text.ensures, c.as_slice-list.ensures) in
    numbering_of _ _ _ _ (same_numbered _ _ _ _ _ c.loop-i.invariant.numbered whole refl) c.len.ensures.len
