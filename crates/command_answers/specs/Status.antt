-- The exit code of each status.
use Rattle.std.specs.Prelude.{ℕ}
use Rattle.command_answers.specs.declared.status.Status.{Status}
use Rattle.command_answers.specs.declared.status.Status.TheVariants.{Done, Refused, Usage, Unreadable, Unwritable, OutOfMemory, MachineFault, TooLong, Differs}

-- 0 where the output is whole, and a number of its own for each cause
abbrev pub exit_code : Status → ℕ
exit_code Done = 0
exit_code Refused = 1
exit_code Usage = 2
exit_code Unreadable = 3
exit_code Unwritable = 4
exit_code OutOfMemory = 5
exit_code MachineFault = 6
exit_code TooLong = 7
exit_code Differs = 8
