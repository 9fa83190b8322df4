-- The command lines of the program: its commands as `clap` reads them.
use Rattle.std.specs.Prelude.{◌≡◌, ◌==◌, ◌&&◌, ℕ, pos, List, [], ◌∷◌, Bool, true, false, not, codes, map, find, decimal}
use Rattle.std.specs.Prelude.{Option, Some, None, option_map, option_and_then, if◌then◌else◌}
use Rattle.std.specs.Option.{option_map_or}
use Rattle.std.specs.Str.{IsUtf8, bytes_eq}
use Rattle.std.specs.Str.Parse.{digits_value, without_leading_sign}
use Rattle.clap.specs.ValueTests.{is_signed_in}
use Rattle.clap.specs.Simple.{new_shape}
use Rattle.clap.specs.Words.{App, Rule, Shape, Text, app_of, fault_of, new_app, new_rule}
use Rattle.clap.specs.declared.builder.command.Command.{Command}
use Rattle.clap.specs.declared.builder.command.Command.TheViews.{out-Command as fields_of}
use Rattle.clap.specs.declared.builder.value_parser.ValueParser.{ValueParser}
use Rattle.clap.specs.declared.builder.value_parser.ValueParser.TheVariants as vp

-- a command of the program: its name, and the names of what has to follow it, in order: files, and the number N
pub record Subcommand : Type 0 where
  pub name : Text
  pub files : List Text

-- all commands
abbrev pub subcommands : List Subcommand
subcommands = record { name = codes "mean"; files = codes "SRC" ∷ codes "TRACE" ∷ [] }
    ∷ record { name = codes "try"; files = codes "SRC" ∷ codes "TRACE" ∷ codes "IMAGE" ∷ [] }
    ∷ record { name = codes "build"; files = codes "SRC" ∷ codes "IMAGE" ∷ [] }
    ∷ record { name = codes "run"; files = codes "IMAGE" ∷ codes "TRACE" ∷ [] }
    ∷ record { name = codes "asm"; files = codes "ASM" ∷ codes "IMAGE" ∷ [] }
    ∷ record { name = codes "dis"; files = codes "IMAGE" ∷ [] }
    ∷ record { name = codes "gen"; files = codes "N" ∷ codes "IMAGE" ∷ [] }
    ∷ record { name = codes "save"; files = codes "IMAGE" ∷ codes "TRACE" ∷ codes "STATE" ∷ [] }
    ∷ record { name = codes "resume"; files = codes "IMAGE" ∷ codes "STATE" ∷ codes "TRACE" ∷ [] }
    ∷ record {
      name = codes "migrate";
      files = codes "SRC" ∷ codes "IMAGE" ∷ codes "STATE" ∷ codes "NEWSRC" ∷ codes "NEWIMAGE" ∷ codes "NEWSTATE" ∷ [];
    }
    ∷ record { name = codes "undo"; files = codes "SRC" ∷ codes "TRACE" ∷ codes "IMAGE" ∷ [] }
    ∷ record { name = codes "audit"; files = codes "SRC" ∷ codes "REPORT" ∷ codes "TRACE" ∷ [] } ∷ []

-- N is a number, and each other one is a file
abbrev pub is_number_name : Text → Bool
is_number_name name = bytes_eq name (codes "N")

-- `value_parser!(u32)`
abbrev pub number_parser : ValueParser
number_parser = vp.Signed (pos 0) (pos 4294967295)

-- what `clap` reads a value with
abbrev pub parser_named : Text → Option ValueParser
parser_named name = if is_number_name name then Some number_parser else None

-- `Arg::new(name).required(true)`, with the parser of its name: a positional that has to be there
abbrev pub file_rule : Text → Rule
file_rule name = record (new_rule name) { required = true; parser = parser_named name }

-- what `clap` reads of the command: its positionals, in order
abbrev pub subcommand_shape : Subcommand → Shape
subcommand_shape s = record (new_shape s.name) { rules = map file_rule s.files }

-- the command alone, as an app of its own
abbrev pub subcommand_app : Subcommand → App
subcommand_app s = record { top = subcommand_shape s; subs = [] }

-- the program's command line with no command yet
unfoldable pub bare_app : App
bare_app = record (new_app (codes "alpaca")) {
  top = record (new_shape (codes "alpaca")) { no_binary_name = true; disable_help_flag = true; disable_help_subcommand = true; subcommand_required = true };
}

-- the program's command line as `clap` sees it: one of the commands has to be named, and there are
-- no help flag and no help command
unfoldable pub alpaca_app : App
alpaca_app = record {
  top = record (new_shape (codes "alpaca")) {
    no_binary_name = true;
    disable_help_flag = true;
    disable_help_subcommand = true;
    subcommand_required = true;
    is_leaf = false;
  };
  subs = map subcommand_shape subcommands;
}

-- the words are a command line of the program: `clap`'s rules give no fault for them
abbrev pub IsLine : List Text → Type 0
IsLine words = fault_of alpaca_app words ≡ []

-- it has an argument that its subcommands share
abbrev pub has_globals : Command → Bool
has_globals c = (fields_of c).has_globals

-- a command that clap has not built yet, and what it reads of it
pub record IsCommand (a : App) (c : Command) : Type 0 where
  pub app : app_of c ≡ a
  pub globals : (fields_of c).has_globals ≡ false

-- ---- the same in plain words; that it is the same are the laws of `command_lines`

-- the word's first byte is a hyphen
abbrev pub begins_with_hyphen : Text → Bool
begins_with_hyphen [] = false
begins_with_hyphen (b ∷ rest) = b == 45

-- the word is a hyphen and more; a hyphen alone is a file's name
abbrev pub is_flag : Text → Bool
is_flag word = begins_with_hyphen word && not (bytes_eq word (codes "-"))

-- The files that the words after a command's name give. The program has no flag, so no word may be
-- one, up to a `--`, which is dropped: every word behind it is a file's name (guidelines 10 and 13
-- of POSIX's utility syntax).
abbrev pub files_of : List Text → Option (List Text)
files_of [] = Some []
files_of (word ∷ rest) = if bytes_eq word (codes "--") then Some rest
    else (if is_flag word then None else option_map (λ files. word ∷ files) (files_of rest))

-- the command of this name
abbrev pub subcommand_named : Text → Option Subcommand
subcommand_named name = find (λ s. bytes_eq s.name name) subcommands

-- the number that a word says behind its sign
abbrev pub number_in : Text → ℕ
number_in word = digits_value 10 (without_leading_sign word)

-- A word that says a number of 32 bits, as its decimal digits. `clap` takes decimal digits, and a sign before them;
-- below 0 there is no such number.
abbrev pub number_said : Text → Option Text
number_said word = if is_signed_in (pos 0) (pos 4294967295) word then Some (decimal (number_in word)) else None

-- what a word says in the place of this name
abbrev pub said : Text → Text → Option Text
said name word = if is_number_name name then number_said word else Some word

-- what words say in the places of these names
abbrev pub all_said : List Text → List Text → Option (List Text)
all_said [] words = Some words
all_said (name ∷ names) [] = Some []
all_said (name ∷ names) (word ∷ words) =
    option_and_then (λ text. option_map (λ texts. text ∷ texts) (all_said names words)) (said name word)

-- what words say behind a command's name
abbrev pub said_behind : Text → List Text → Option (List Text)
said_behind name words = all_said (option_map_or (λ s. s.files) (subcommand_named name) []) words

-- the command's name and then what the files say that the words behind it give
abbrev pub line_of : List Text → Option (List Text)
line_of [] = None
line_of (name ∷ rest) = option_map (λ texts. name ∷ texts) (option_and_then (said_behind name) (files_of rest))

-- the same of words of which none is a flag or a `--`
abbrev pub plain_line_of : List Text → Option (List Text)
plain_line_of [] = None
plain_line_of (name ∷ words) = option_map (λ texts. name ∷ texts) (said_behind name words)

-- the words are UTF-8, as those of a program are that has taken them as strings
abbrev pub AreTexts : List Text → Type 0
AreTexts [] = Unit {0}
AreTexts (word ∷ words) = IsUtf8 word × AreTexts words
