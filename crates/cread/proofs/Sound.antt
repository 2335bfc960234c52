-- The reader of items is sound: what it reads spells the item.
use Rattle.std.proofs.Common.{ℕ, ◌+◌, refl, sym, ◌∙◌, subst, List, length, codes, arith}
use Rattle.cbase.specs.declared.tree.item.Item.{Item}
use Rattle.ctrees.specs.Levels.{declared_levels, item_levels}
use Rattle.cgrammar.proofs.Sound.{sound_level, most_of_level}
use Rattle.cgrammar.proofs.SoundDeclarations.{sound_specifiers, sound_parameters, sound_declaration}
use Rattle.cgrammar.proofs.SoundLists.{stars_of}
use Rattle.cgrammar.proofs.SoundSays.{SoundLevel}
use Rattle.cgrammar.proofs.SoundStatements.{sound_items}
use Rattle.cgrammar.proofs.SoundSteps.{Sound, Reads, made, sound_nothing, sound_then, sound_if, sound_first, first_of, split_first, split_last, split_more, larger, larger_fits}
use Rattle.cgrammar.proofs.TreeLevels.{levels_function}
use Rattle.cgrammar.specs.Grammar.{Spells}
use Rattle.cgrammar.specs.Outcomes.{Read, has_mark}
use Rattle.cgrammar.specs.Phrases.{Context, FunctionDeclarator}
use Rattle.cgrammar.specs.ReadDeclarations.{read_specifiers, read_parameters, read_declaration}
use Rattle.cgrammar.specs.ReadLevels.{Level, read_until_brace}
use Rattle.cgrammar.specs.ReadTypes.{behind_stars}
use Rattle.cgrammar.specs.Reader.{level}
use Rattle.cgrammar.specs.Terminals.{Terminal, is_mark}
use Rattle.cgrammar.specs.Trees.{function}
use Rattle.cgrammar.specs.TypeWords.{declares_typedef}
use Rattle.cread.proofs.BehindFunctions.{function_spelled}
use Rattle.cread.specs.Items.{SpellsItem, EmptyItem, DeclarationItem, in_body}
use Rattle.cread.specs.ReadItem.{Head, head_of, read_head, read_function, read_external}
use Rattle.cparser.specs.ItemSteps.{ends_with_brace}

abbrev says_head : Head → Context → List Terminal → Context → List Terminal → Type 0
says_head head before front behind rest = Spells (FunctionDeclarator head.name head.declared) before front behind

abbrev head_levels : Head → ℕ
head_levels head = declared_levels head.declared

abbrev pub says_external : Item → Context → List Terminal → Context → List Terminal → Type 0
says_external item before front behind rest = SpellsItem item before front behind

sound_head : (inner : Level) → SoundLevel inner → Reads says_head head_levels inner.most (read_head inner)
unfolding read_head
sound_head inner is context row =
    let stars = stars_of row in
    sound_first _ (behind_stars row) _ _ (λ none. sound_nothing) (λ name rest from named.
    sound_first _ rest _ _ (λ none. sound_nothing) (λ opening others next marked.
    sound_then (read_parameters inner context others) _ (sound_parameters inner is context others) (λ params levels within more read.
    subst (λ (n : ℕ). Sound says_head head_levels inner.most context row (Read (head_of name.bytes (function name n params)) levels within more)) stars.counted
    (made (split_more stars.split (split_first from (split_first next read.whole))) (read.spelled stars.stars name opening stars.are named marked) (read.same ∙ sym (levels_function name (length stars.stars) params)) read.fits))))

sound_function : (inner : Level) → SoundLevel inner → Reads says_external item_levels inner.most (read_function inner)
unfolding read_function
sound_function inner is context row =
    sound_then (read_specifiers inner context row) _ (sound_specifiers inner is context row) (λ specifiers levels behind rest read.
    sound_then (read_head inner behind rest) _ (sound_head inner is behind rest) (λ head heads within more read_head_of.
    sound_first _ more _ _ (λ none. sound_nothing) (λ opening others from marked.
    sound_then (read_until_brace inner.item (length others + 1) (in_body head.name (declares_typedef specifiers.storage) within) others) _
    (sound_items inner (length others + 1) is (in_body head.name (declares_typedef specifiers.storage) within) others) (λ body bodies last end read_body.
    sound_first _ end _ _ (λ none. sound_nothing) (λ closing final next ends.
    made (split_more read.whole (split_more read_head_of.whole (split_first from (split_more read_body.whole (split_last next)))))
    (function_spelled opening closing read.spelled read_head_of.spelled marked read_body.spelled.0 ends)
    (larger read.same (larger read_head_of.same read_body.same))
    (larger_fits read.fits (larger_fits read_head_of.fits read_body.fits)))))))

pub sound_external : (inner : Level) → SoundLevel inner → Reads says_external item_levels inner.most (read_external inner)
unfolding read_external
sound_external inner is context row =
    sound_if (has_mark (codes ";") row) _ _
    (λ marked.
    let semicolon = first_of (is_mark (codes ";")) row marked in
    made (split_last semicolon.1) (EmptyItem semicolon.0 semicolon.2) refl (omega arith))
    (λ other. sound_if (ends_with_brace row) _ _
    (λ brace. sound_function inner is context row)
    (λ none. sound_then (read_declaration inner context row) _ (sound_declaration inner is context row) (λ decl levels behind rest read.
    made read.whole (DeclarationItem read.spelled) read.same read.fits)))

-- the reader of items of at most so many levels
pub sound_item : (n : ℕ) → Reads says_external item_levels n (read_external (level n))
sound_item n =
    let P : ℕ → Type 0 = λ most. Reads says_external item_levels most (read_external (level n)) in
    subst P (most_of_level n) (sound_external (level n) (sound_level n))
