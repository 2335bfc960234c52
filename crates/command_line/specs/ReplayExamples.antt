-- Words behind `predator replay`, with what they ask for: nothing where the usage line is the answer.
use Rattle.std.specs.Prelude.{◌≡◌, ℕ, Bool, true, false, List, [], ◌∷◌, Option, Some, None, codes, map}
use Rattle.cbase.specs.declared.abi.Abi.{Abi}
use Rattle.cbase.specs.declared.abi.Abi.TheVariants.{Lp64, Llp64}
use Rattle.command_line.specs.Words.{Word}
use Rattle.command_line.specs.ReplayLine.{replay_command_of}
use Rattle.command_line.specs.declared.replay.ReplayCommand.{ReplayCommand}

-- a command
abbrev pub asks : Word → Word → ℕ → Abi → Bool → Option ReplayCommand
asks file choices steps model strict = Some (record { file = file; choices = choices; steps = steps; model = model; strict = strict })

-- that of FILE `t.c` and CHOICES `w`
abbrev pub asks_of : ℕ → Abi → Bool → Option ReplayCommand
asks_of steps model strict = asks (codes "t.c") (codes "w") steps model strict

-- two files
abbrev pub both : List Word
both = codes "t.c" ∷ codes "w" ∷ []

-- the words, with what they ask for
abbrev pub examples : List (List Word × Option ReplayCommand)
examples =
    -- how many files there are, and none is empty
    ([], None)
    ∷ (codes "t.c" ∷ [], None)
    ∷ (both, asks_of 1000000 Lp64 false)
    ∷ (codes "t.c" ∷ codes "w" ∷ codes "u" ∷ [], None)
    ∷ (codes "" ∷ codes "w" ∷ [], None)
    ∷ (codes "t.c" ∷ codes "" ∷ [], None)
    ∷ (codes "-" ∷ codes "w" ∷ [], asks (codes "-") (codes "w") 1000000 Lp64 false)
    -- N
    ∷ (codes "--steps" ∷ codes "0" ∷ both, None)
    ∷ (codes "--steps=0000001" ∷ both, asks_of 1 Lp64 false)
    ∷ (codes "--steps=00000001" ∷ both, None)
    ∷ (codes "--steps" ∷ codes "1000000" ∷ both, asks_of 1000000 Lp64 false)
    ∷ (codes "--steps" ∷ codes "1000001" ∷ both, None)
    ∷ (codes "--steps" ∷ codes "10000000" ∷ both, None)
    ∷ (codes "--steps=" ∷ both, None)
    ∷ (codes "--steps" ∷ codes "-5" ∷ both, None)
    ∷ (codes "--steps=5" ∷ codes "--steps=5" ∷ both, None)
    -- M
    ∷ (codes "--model" ∷ [], None)
    ∷ (codes "t.c" ∷ codes "w" ∷ codes "--model" ∷ [], None)
    ∷ (codes "--model" ∷ both, None)
    ∷ (codes "--model=lp64" ∷ both, asks_of 1000000 Lp64 false)
    ∷ (codes "--model" ∷ codes "LP64" ∷ both, None)
    ∷ (codes "t.c" ∷ codes "--model" ∷ codes "llp64" ∷ codes "w" ∷ [], asks_of 1000000 Llp64 false)
    ∷ (codes "--model=llp64" ∷ codes "t.c" ∷ codes "w" ∷ codes "--model=lp64" ∷ [], None)
    ∷ (codes "--model" ∷ codes "--" ∷ both, None)
    ∷ (codes "--model" ∷ codes "--strict" ∷ both, None)
    -- `--strict`
    ∷ (codes "--strict" ∷ both, asks_of 1000000 Lp64 true)
    ∷ (codes "--strict" ∷ codes "t.c" ∷ codes "w" ∷ codes "--strict" ∷ [], None)
    ∷ (codes "--strict=1" ∷ both, None)
    ∷ (codes "--strict=" ∷ both, None)
    ∷ (codes "--Strict" ∷ both, None)
    ∷ (codes "-s" ∷ both, None)
    -- the mark `--`, behind which every word is a file
    ∷ (codes "--" ∷ codes "--strict" ∷ codes "c" ∷ [], asks (codes "--strict") (codes "c") 1000000 Lp64 false)
    ∷ (codes "t.c" ∷ codes "--" ∷ codes "w" ∷ [], asks_of 1000000 Lp64 false)
    ∷ (codes "t.c" ∷ codes "w" ∷ codes "--" ∷ [], asks_of 1000000 Lp64 false)
    ∷ (codes "t.c" ∷ codes "w" ∷ codes "--" ∷ codes "--strict" ∷ [], None)
    ∷ (codes "--steps=7" ∷ codes "t.c" ∷ codes "--strict" ∷ codes "w" ∷ codes "--model" ∷ codes "llp64" ∷ [], asks_of 7 Llp64 true)
    ∷ []

-- each asks for what stands beside it
abbrev pub ExamplesHold : Type 0
ExamplesHold = map (λ row. replay_command_of row.0) examples ≡ map (λ row. row.1) examples
