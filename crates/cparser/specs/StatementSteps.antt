-- Statements and blocks (C11 6.8).
use Rattle.std.specs.Prelude.{ℕ, ◌+◌, ◌-◌, Bool, ◌&&◌, if◌then◌else◌, List, [], ◌∷◌, Option, None, Some, codes}
use Rattle.cevents.specs.declared.event.Event.TheVariants as event
use Rattle.cgrammar.specs.Firsts.{begins_declaration}
use Rattle.cgrammar.specs.FrontReadings.{begins_with_label}
use Rattle.cgrammar.specs.Outcomes.{has_mark, has_first}
use Rattle.cgrammar.specs.ReadStarts.{statement_start}
use Rattle.cgrammar.specs.Scope.{Names}
use Rattle.cgrammar.specs.Terminals.{Terminal, is_mark, is_word, begins_with_typedef}
use Rattle.cgrammar.specs.declared.reading.starts.StatementStart.{StatementStart}
use Rattle.cgrammar.specs.declared.reading.starts.StatementStart.TheVariants as start
use Rattle.cparser.specs.DeclarationSteps.{declaration}
use Rattle.cparser.specs.State.{State, rest, goes, skipped, lost}
use Rattle.cparser.specs.Steps.{Inner, mark, word, ask_whole, write, make, enter, leave, until_brace}
use Rattle.cparser.specs.declared.wanted.Wanted.TheVariants as wanted

-- A block, a scope of its own (C11 6.8.2).
unfoldable pub block_item : Inner → State → State
block_item inner s = write event.Statement (ask_whole inner wanted.Item s)

unfoldable pub block_items : Inner → State → State
block_items inner s = until_brace (block_item inner) s

unfoldable pub block : Inner → State → State
block inner s = leave (block_items inner (enter (write event.NoStatements (mark (codes "{") s))))

-- an expression that may be left out before a token
unfoldable pub maybe : Inner → (Terminal → Bool) → State → State
maybe inner ends s =
    if goes s
    then (if has_first ends (rest s) then write event.NoExpression s else write event.OneExpression (ask_whole inner wanted.Expression s))
    else s

-- A statement whose last token is read: the places of its first and its last token are part of it.
unfoldable pub declared : ℕ → State → State
declared first s = make (event.Declare first (s.at - 1)) s

unfoldable pub declared_statement : Inner → State → State
declared_statement inner s = declared s.at (declaration inner s)

unfoldable pub evaluated : ℕ → State → State
evaluated first s = make (event.Eval first (s.at - 1)) s

unfoldable pub expression_statement : Inner → State → State
expression_statement inner s = evaluated s.at (mark (codes ";") (write event.OneExpression (ask_whole inner wanted.Expression s)))

-- a `;` alone
abbrev pub empty_statement : State → State
empty_statement s = make (event.Eval s.at s.at) (write event.NoExpression (skipped 1 s))

-- a declaration, or an expression that may be left out with its `;` (C11 6.8.3, 6.8.5.3)
unfoldable pub clause : Inner → State → State
clause inner s =
    if goes s
    then (if has_first (begins_declaration s.scope) (rest s) then declared_statement inner s
    else (if has_mark (codes ";") (rest s) then empty_statement s
    else expression_statement inner s))
    else s

-- an expression behind a `(`, where no name of a typedef stands
unfoldable pub untyped : Inner → State → State
untyped inner s = if goes s && begins_with_typedef s.scope (rest s) then lost s else ask_whole inner wanted.Expression s

-- an expression in brackets
unfoldable pub tested : Inner → State → State
tested inner s = mark (codes ")") (untyped inner (mark (codes "(") s))

-- a statement in an `if` or in a loop, a block for names (C11 6.8.4p3, 6.8.5p5)
unfoldable pub substatement : Inner → State → State
substatement inner s = leave (ask_whole inner wanted.Statement (enter s))

-- `if` (C11 6.8.4.1), a scope of its own: an `else` belongs to the nearest
unfoldable pub otherwise_behind : Inner → ℕ → ℕ → State → State
otherwise_behind inner first close s =
    if goes s
    then (if has_first (is_word (codes "else")) (rest s) then make (event.IfElse first close) (substatement inner (skipped 1 s))
    else make (event.If first close) s)
    else s

-- from behind its test on, whose `)` is the token that was read last
unfoldable pub if_tested : Inner → ℕ → State → State
if_tested inner first s = otherwise_behind inner first (s.at - 1) (substatement inner s)

unfoldable pub if_behind : Inner → ℕ → State → State
if_behind inner first s = leave (if_tested inner first (tested inner (enter s)))

-- `while` (C11 6.8.5.1), a scope of its own
unfoldable pub while_tested : Inner → ℕ → State → State
while_tested inner first s = make (event.While first (s.at - 1)) (substatement inner s)

unfoldable pub while_behind : Inner → ℕ → State → State
while_behind inner first s = leave (while_tested inner first (tested inner (enter s)))

-- `do` (C11 6.8.5.2), a scope of its own
unfoldable pub done : ℕ → ℕ → State → State
done first close s = make (event.Do first close (s.at - 1)) s

unfoldable pub do_tested : ℕ → State → State
do_tested first s = done first (s.at - 1) (mark (codes ";") s)

unfoldable pub do_behind : Inner → ℕ → State → State
do_behind inner first s = leave (do_tested first (tested inner (word (codes "while") (substatement inner (enter s)))))

-- `for` (C11 6.8.5.3), a scope of its own: from behind the `)` on, and from behind its second `;` on
unfoldable pub for_closed : Inner → ℕ → ℕ → State → State
for_closed inner first semicolon s = make (event.For first semicolon (s.at - 1)) (substatement inner s)

unfoldable pub for_next : Inner → ℕ → State → State
for_next inner first s = for_closed inner first (s.at - 1) (mark (codes ")") (maybe inner (is_mark (codes ")")) s))

unfoldable pub for_behind : Inner → ℕ → State → State
for_behind inner first s =
    leave (for_next inner first (mark (codes ";") (maybe inner (is_mark (codes ";"))
    (ask_whole inner wanted.Clause (enter (mark (codes "(") s))))))

unfoldable pub broken : ℕ → State → State
broken first s = make (event.Break first (s.at - 1)) s

unfoldable pub break_behind : ℕ → State → State
break_behind first s = broken first (mark (codes ";") s)

unfoldable pub continued : ℕ → State → State
continued first s = make (event.Continue first (s.at - 1)) s

unfoldable pub continue_behind : ℕ → State → State
continue_behind first s = continued first (mark (codes ";") s)

unfoldable pub returned : ℕ → State → State
returned first s = make (event.Return first (s.at - 1)) s

unfoldable pub return_behind : Inner → ℕ → State → State
return_behind inner first s = returned first (mark (codes ";") (maybe inner (is_mark (codes ";")) s))

unfoldable pub blocked : ℕ → State → State
blocked first s = make (event.Block first (s.at - 1)) s

unfoldable pub block_statement : Inner → State → State
block_statement inner s = blocked s.at (block inner s)

-- a statement that begins with none of the words and brackets that statements begin with
unfoldable pub other_statement : Inner → State → State
other_statement inner s = if has_first (begins_declaration s.scope) (rest s) then lost s else clause inner s

abbrev pub statement_with : Inner → State → StatementStart → State
statement_with inner s start.Block = block_statement inner s
statement_with inner s start.If = if_behind inner s.at (skipped 1 s)
statement_with inner s start.While = while_behind inner s.at (skipped 1 s)
statement_with inner s start.Do = do_behind inner s.at (skipped 1 s)
statement_with inner s start.For = for_behind inner s.at (skipped 1 s)
statement_with inner s start.Break = break_behind s.at (skipped 1 s)
statement_with inner s start.Continue = continue_behind s.at (skipped 1 s)
statement_with inner s start.Return = return_behind inner s.at (skipped 1 s)
statement_with inner s start.Other = other_statement inner s

abbrev pub statement_first : List Terminal → Option StatementStart
statement_first [] = None
statement_first (first ∷ others) = Some (statement_start first)

abbrev pub unlabeled_with : Inner → State → Option StatementStart → State
unlabeled_with inner s None = lost s
unlabeled_with inner s (Some first) = statement_with inner s first

-- a statement without its labels
unfoldable pub unlabeled : Inner → State → State
unlabeled inner s = if goes s then unlabeled_with inner s (statement_first (rest s)) else s

-- how many tokens the labels take that a row begins with, each with its `:` (C11 6.8.1); they leave no trace
unfoldable pub labels_length : List Names → List Terminal → ℕ
labels_length scope [] = 0
labels_length scope (first ∷ []) = 0
labels_length scope (first ∷ (second ∷ row)) = if begins_with_label scope (first ∷ (second ∷ row)) then 2 + labels_length scope row else 0

unfoldable pub statement : Inner → State → State
statement inner s = if goes s then unlabeled inner (skipped (labels_length s.scope (rest s)) s) else s

-- what stands in a block: a statement that begins with a type or a storage word is a declaration
unfoldable pub item : Inner → State → State
item inner s =
    if goes s then (if has_first (begins_declaration s.scope) (rest s) then clause inner s else statement inner s) else s
