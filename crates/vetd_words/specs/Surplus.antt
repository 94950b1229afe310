-- The first extra word after a command that reads a file on standard input (ours).
use Rattle.std.specs.Prelude.{◌==◌, Bool, ℕ, List, [], ◌∷◌, Option, Some, None, codes, if◌then◌else◌, false}
use Rattle.std.specs.Prelude.{option_and_then}
use Rattle.std.specs.List.{list_any, slice_get}
use Rattle.std.specs.Str.{bytes_eq}
use Rattle.clap.specs.Walk.{Text}

-- whether a word looks like a flag: it begins with '-'
abbrev pub is_flag : Text → Bool
is_flag [] = false
is_flag (code ∷ rest) = code == 45

-- the number of words, including its name, that a command takes if it reads a file on standard input
abbrev pub words_taken : Text → Option ℕ
words_taken name =
    if bytes_eq name (codes "class") then Some 4 else (if bytes_eq name (codes "read") then Some 2 else None)

-- the first word that such a command doesn't take, if no word looks like a flag
abbrev pub surplus_of : List Text → Option Text
surplus_of words =
    if list_any is_flag words then None
    else option_and_then (λ name. option_and_then (λ taken. slice_get words taken) (words_taken name))
    (slice_get words 0)
