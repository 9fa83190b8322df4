-- The status and the line of each reason why a command ended without its whole output.
use Rattle.std.specs.Prelude.{◌≡◌, ℕ, List}
use Rattle.command_answers.specs.declared.status.Status.{Status}
use Rattle.command_answers.specs.declared.status.Status.TheVariants as status
use Rattle.command_answers.specs.declared.inputs.Unread.{Unread}
use Rattle.command_answers.specs.declared.inputs.Unread.TheVariants as unread
use Rattle.command_answers.specs.declared.failure.Failure.{Failure}
use Rattle.command_answers.specs.declared.failure.Failure.TheVariants as failure
use Rattle.command_answers.specs.Refusals.{refused_line}
use Rattle.command_answers.specs.Views.{refusal_of}
use Rattle.command_answers.specs.Messages.{unreadable_line, too_long_line, unput_line, unwritable_line, memory_line}
use Rattle.command_answers.specs.Outside.{Written}
use Rattle.command_answers.specs.CommandAnswers.{IsLineOf}

-- this status, and this line
pub record IsTold (status wanted : Status) (err : Written) (line : List ℕ) : Type 0 where
  pub is : status ≡ wanted
  pub told : IsLineOf line err

-- why the files weren't read
abbrev pub TellsUnread : Unread → Status → Written → Type 0
TellsUnread (unread.Unreadable name) s err = IsTold s status.Unreadable err (unreadable_line name.now)
TellsUnread (unread.TooLong name) s err = IsTold s status.TooLong err (too_long_line name.now)
TellsUnread unread.Memory s err = IsTold s status.OutOfMemory err memory_line

-- why a command isn't whole
abbrev pub TellsFailure : Failure → Status → Written → Type 0
TellsFailure (failure.Refused file r) s err = IsTold s status.Refused err (refused_line file.now (refusal_of r))
TellsFailure (failure.Put name) s err = IsTold s status.Unwritable err (unput_line name.now)
TellsFailure failure.Write s err = IsTold s status.Unwritable err unwritable_line
TellsFailure failure.Memory s err = IsTold s status.OutOfMemory err memory_line
