-- The command lines of `alpaca-scope`: its commands as `clap` reads them, and in plain words.
use Rattle.std.specs.Prelude.{◌≡◌, List, [], ◌∷◌, true, false, codes, map, find, Option, Some, None, option_map, option_and_then}
use Rattle.std.specs.Str.{bytes_eq}
use Rattle.clap.specs.Simple.{new_shape}
use Rattle.clap.specs.Words.{App, Row, Text, fault_of, new_app}
use Rattle.command_line.specs.CommandLine.{Subcommand, subcommand_shape, files_of}
use Rattle.command_line.specs.Commands.{values_of}
use Rattle.scope_line.specs.declared.Command.{Command}
use Rattle.scope_line.specs.declared.Command.TheVariants.{Bounds}

-- `bounds SRC`
abbrev pub bounds_line : Subcommand
bounds_line = record { name = codes "bounds"; files = codes "SRC" ∷ [] }

-- all commands
abbrev pub scope_subcommands : List Subcommand
scope_subcommands = bounds_line ∷ []

-- the program's command line with no command yet
unfoldable pub bare_scope : App
bare_scope = record (new_app (codes "alpaca-scope")) {
  top = record (new_shape (codes "alpaca-scope")) {
    no_binary_name = true;
    disable_help_flag = true;
    disable_help_subcommand = true;
    subcommand_required = true;
  };
}

-- the program's command line as `clap` sees it: one of the commands has to be named, and there are
-- no help flag and no help command
unfoldable pub scope_app : App
scope_app = record {
  top = record (new_shape (codes "alpaca-scope")) {
    no_binary_name = true;
    disable_help_flag = true;
    disable_help_subcommand = true;
    subcommand_required = true;
    is_leaf = false;
  };
  subs = map subcommand_shape scope_subcommands;
}

-- the words are a command line of the program: `clap`'s rules give no fault for them
abbrev pub IsScopeLine : List Text → Type 0
IsScopeLine words = fault_of scope_app words ≡ []

-- ---- the same in plain words; that it is the same is the law of `scope_lines`

-- the command of this name
abbrev pub subcommand_named : Text → Option Subcommand
subcommand_named name = find (λ s. bytes_eq s.name name) scope_subcommands

-- the first word and then the files that the words behind it give
abbrev pub scope_line_of : List Text → Option (List Text)
scope_line_of [] = None
scope_line_of (name ∷ rest) = option_map (λ files. name ∷ files) (files_of rest)

-- the words of a command's line, with neither a `--` nor a hyphen in front of a file
abbrev pub plain_line : Command → List Text
plain_line (Bounds source) = codes "bounds" ∷ source.now ∷ []

-- the words name a command and then its files, and no more
abbrev pub NamesScopeCommand : List Text → Type 0
NamesScopeCommand words = (c : Command) × (scope_line_of words ≡ Some (plain_line c))

-- the line of the command of this name, with the files that a parse found
abbrev pub line_found : Text → List Row → Option (List Text)
line_found name rows = option_and_then (λ s. option_map (λ files. name ∷ files) (values_of s.files rows)) (subcommand_named name)
