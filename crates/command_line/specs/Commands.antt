-- The commands, as values and as words.
use Rattle.std.specs.Prelude.{◌≡◌, List, [], ◌∷◌, codes, decimal, Option, Some, option_map, option_and_then}
use Rattle.clap.specs.Words.{Row, Text, first_of}
use Rattle.command_line.specs.CommandLine.{all_said, line_of, plain_line_of, subcommand_named}
use Rattle.command_line.specs.declared.Command.{Command}
use Rattle.command_line.specs.declared.Command.TheVariants.{Mean, Try, Build, Run, Asm, Dis, Gen, Save, Resume, Migrate, Undo, Audit}

-- the words of a command's line, with neither a `--` nor a hyphen in front of a file, and with a number in its decimal digits
abbrev pub plain_line : Command → List Text
plain_line (Mean source trace) = codes "mean" ∷ source.now ∷ trace.now ∷ []
plain_line (Try source trace image) = codes "try" ∷ source.now ∷ trace.now ∷ image.now ∷ []
plain_line (Build source image) = codes "build" ∷ source.now ∷ image.now ∷ []
plain_line (Run image trace) = codes "run" ∷ image.now ∷ trace.now ∷ []
plain_line (Asm assembly image) = codes "asm" ∷ assembly.now ∷ image.now ∷ []
plain_line (Dis image) = codes "dis" ∷ image.now ∷ []
plain_line (Gen number image) = codes "gen" ∷ decimal number ∷ image.now ∷ []
plain_line (Save image trace state) = codes "save" ∷ image.now ∷ trace.now ∷ state.now ∷ []
plain_line (Resume image state trace) = codes "resume" ∷ image.now ∷ state.now ∷ trace.now ∷ []
plain_line (Migrate source image state new_source new_image new_state) =
    codes "migrate" ∷ source.now ∷ image.now ∷ state.now ∷ new_source.now ∷ new_image.now ∷ new_state.now ∷ []
plain_line (Undo source trace image) = codes "undo" ∷ source.now ∷ trace.now ∷ image.now ∷ []
plain_line (Audit source report trace) = codes "audit" ∷ source.now ∷ report.now ∷ trace.now ∷ []

-- the first values of these arguments, where each has one
abbrev pub values_of : List Text → List Row → Option (List Text)
values_of [] rows = Some []
values_of (id ∷ ids) rows =
    option_and_then (λ file. option_map (λ files. file ∷ files) (values_of ids rows))
    (first_of id rows)

-- the line of the command of this name, with what the values say that a parse found
abbrev pub line_found : Text → List Row → Option (List Text)
line_found name rows = option_and_then (λ s. option_map (λ texts. name ∷ texts)
    (option_and_then (all_said s.files) (values_of s.files rows))) (subcommand_named name)

-- the words name a command and then its files, and no more
abbrev pub NamesCommand : List Text → Type 0
NamesCommand words = (c : Command) × (line_of words ≡ Some (plain_line c))

-- the words are a command's name and then its files, and no more
abbrev pub IsPlainLine : List Text → Type 0
IsPlainLine words = (c : Command) × (plain_line_of words ≡ Some (plain_line c))

-- the name is none of these
abbrev pub IsNoneOf : Text → List Text → Type 0
IsNoneOf name [] = Unit {0}
IsNoneOf name (other ∷ others) = (name ≡ other → ⊥) × IsNoneOf name others

-- the plain commands, which need no compiler and keep no state
abbrev pub plain_names : List Text
plain_names = codes "mean" ∷ codes "run" ∷ codes "asm" ∷ codes "dis" ∷ codes "audit" ∷ []

-- the commands that compile a source
abbrev pub compiler_names : List Text
compiler_names = codes "build" ∷ codes "try" ∷ codes "undo" ∷ codes "gen" ∷ []
