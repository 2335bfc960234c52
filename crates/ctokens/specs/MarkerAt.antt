-- What a line marker says, found byte by byte.
use Rattle.std.specs.Prelude.{ℕ, ◌+◌, ◌-◌, ◌*◌, Bool, true, false, ◌||◌, List, [], ◌∷◌, take, drop, nat_eq, nat_le, Option, None, Some, option_map, codes, if◌then◌else◌}
use Rattle.std.specs.List.{list_all, prefix_len, starts_with}
use Rattle.cbase.specs.Bytes.{is_digit}
use Rattle.ctokens.specs.Directive.{unblanked, begins_with_blank, greatest_line, is_flag_byte}
use Rattle.ctokens.specs.declared.marker.FoundMarker.{FoundMarker}
use Rattle.ctokens.specs.declared.marker.FoundName.{FoundName}
use Rattle.ctokens.specs.declared.marker.Role.{Role}
use Rattle.ctokens.specs.declared.marker.Role.TheVariants.{Holds, Skips, Ends, Breaks}

-- the value of digits behind digits with the value `before`, unless it is above the greatest number of a line
abbrev pub line_number : ℕ → List ℕ → Option ℕ
line_number before [] = Some before
line_number before (digit ∷ others) =
    if nat_le (10 * before + (digit - 48)) greatest_line then line_number (10 * before + (digit - 48)) others else None

-- a found name with one more byte at its front
abbrev pub preceded : ℕ → FoundName → FoundName
preceded byte found = record { name = byte ∷ found.name; taken = 1 + found.taken }

-- a found name behind a `\`
abbrev pub skipped : FoundName → FoundName
skipped found = record { name = found.name; taken = 1 + found.taken }

-- how a byte goes on with a name; `kept` says that a `\` stands before it
abbrev pub role_in_name : Bool → ℕ → Role
role_in_name true byte = if nat_eq byte 34 || nat_eq byte 92 then Holds else Breaks
role_in_name false byte = if nat_eq byte 34 then Ends else (if nat_eq byte 92 then Skips else Holds)

-- what follows from a role, by its four cases
abbrev pub by_role : {A : Type 0} → Role → A → A → A → A → A
by_role Holds holds skips ends breaks = holds
by_role Skips holds skips ends breaks = skips
by_role Ends holds skips ends breaks = ends
by_role Breaks holds skips ends breaks = breaks

-- the name behind a first quote
abbrev pub name_at : Bool → List ℕ → Option FoundName
name_at kept [] = None
name_at kept (byte ∷ others) =
    by_role (role_in_name kept byte) (option_map (preceded byte) (name_at false others)) (option_map skipped (name_at true others)) (Some (record { name = []; taken = 1 })) None

-- what a marker says whose name was found, if only flags stand behind it
abbrev pub flagged : ℕ → List ℕ → Option FoundName → Option FoundMarker
flagged number text None = None
flagged number text (Some found) =
    if list_all is_flag_byte (drop found.taken text) then Some (record { number = number; name = found.name }) else None

-- the name and the flags behind the blanks behind a number
unfoldable pub name_and_flags : ℕ → List ℕ → Option FoundMarker
name_and_flags number [] = None
name_and_flags number (first ∷ others) = if nat_eq first 34 then flagged number others (name_at false others) else None

-- the name and the flags behind a number, where there is one
abbrev pub numbered : List ℕ → Option ℕ → Option FoundMarker
numbered rest None = None
numbered rest (Some number) = name_and_flags number rest

-- the number and all that stands behind it
unfoldable pub number_and_name : List ℕ → Option FoundMarker
number_and_name text =
    if nat_eq (prefix_len is_digit text) 0 then None
    else numbered (unblanked (drop (prefix_len is_digit text) text)) (line_number 0 (take (prefix_len is_digit text) text))

-- what the line says, if it is a line marker
unfoldable pub marker_at : List ℕ → Option FoundMarker
marker_at line =
    if starts_with nat_eq line (codes "#line")
    then (if begins_with_blank (drop 5 line) then number_and_name (unblanked (drop 5 line)) else None)
    else number_and_name (unblanked (drop 1 line))
