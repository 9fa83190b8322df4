-- What each status says of the files, the output and the line to standard error.
use Rattle.std.specs.Prelude.{◌≡◌, ℕ, ◌⊎◌, List, Some, codes}
use Rattle.plain_commands.specs.alp_io.Shelf.{Files}
use Rattle.plain_commands.specs.command_answers.declared.status.Status.{Status}
use Rattle.plain_commands.specs.command_answers.declared.status.Status.TheVariants.{Usage, OutOfMemory}
use Rattle.plain_commands.specs.command_answers.CommandAnswers.{CommandAnswers, IsLineOf, OnlyTold}
use Rattle.plain_commands.specs.command_answers.InputFiles.{AreHeld}
use Rattle.plain_commands.specs.command_answers.Messages.{memory_line}
use Rattle.plain_commands.specs.command_answers.Outside.{Shelved, Written, IsSilent}
use Rattle.plain_commands.specs.command_answers.Promises.{Promise}
use Rattle.scope_line.specs.ScopeLine.{IsScopeLine, NamesScopeCommand, plain_line, scope_line_of}
use Rattle.scope_line.specs.declared.Command.{Command}
use Rattle.scope_line.specs.declared.Command.TheVariants.{Bounds}
use Rattle.scope_commands.specs.Bounds.{bounds_promise}

-- the line where the words are no command line: all commands
unfoldable pub scope_usage : List ℕ
scope_usage = codes "usage: alpaca-scope bounds SRC\n"

-- what a command promises
abbrev pub promise_of : Command → Promise
promise_of (Bounds source) = bounds_promise source.now

-- the words are the line of a command, and this holds of it
abbrev pub OnScopeLine : List (List ℕ) → (Command → Type 0) → Type 0
OnScopeLine words P = (c : Command) × (scope_line_of words ≡ Some (plain_line c)) × P c

-- What a status says of a call with these words.
abbrev pub ScopeAnswers : Status → List (List ℕ) → Shelved → Written → Written → Type 0
-- the words are no command line
ScopeAnswers Usage words shelf out err = (IsScopeLine words → ⊥) × (NamesScopeCommand words → ⊥) × OnlyTold shelf out err scope_usage
-- memory was refused
ScopeAnswers OutOfMemory words shelf out err = OnlyTold shelf out err memory_line
ScopeAnswers status words shelf out err = OnScopeLine words (λ c. CommandAnswers status (promise_of c) shelf out err)

-- nothing is wanting of what the words ask for: they are the line of a command, and the files hold texts that it takes
pub record IsToBeDone (words : List (List ℕ)) (f : Files) : Type 0 where
  pub command : Command
  pub line : scope_line_of words ≡ Some (plain_line command)
  pub texts : List (List ℕ)
  pub held : AreHeld f (promise_of command).reads texts
  pub taken : (promise_of command).takes texts

-- some words were answered so, over some files; or one of them isn't UTF-8, and the usage was told
abbrev pub AnswersArguments : Status → Written → Written → Type 0
AnswersArguments status out err = ((words : List (List ℕ)) × (shelf : Shelved) × ScopeAnswers status words shelf out err)
    ⊎ ((status ≡ Usage) × IsSilent out × IsLineOf scope_usage err)
