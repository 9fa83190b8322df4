-- What the program says of the words that it was started with, whatever they were.
use Rattle.std.specs.Prelude.{◌≡◌, ℕ, ◌⊎◌, List}
use Rattle.plain_commands.specs.command_answers.declared.status.Status.{Status}
use Rattle.plain_commands.specs.command_answers.declared.status.Status.TheVariants.{Usage}
use Rattle.alpaca_cli.specs.Answers.{Answers}
use Rattle.plain_commands.specs.command_answers.CommandAnswers.{IsLineOf}
use Rattle.plain_commands.specs.command_answers.Messages.{usage_line}
use Rattle.plain_commands.specs.command_answers.Outside.{Shelved, Written, IsSilent}

-- some words were answered so, over some files; or one of them isn't UTF-8, and the usage was told
abbrev pub AnswersArguments : Status → Written → Written → Type 0
AnswersArguments status out err = ((words : List (List ℕ)) × (shelf : Shelved) × Answers status words shelf out err)
    ⊎ ((status ≡ Usage) × IsSilent out × IsLineOf usage_line err)
