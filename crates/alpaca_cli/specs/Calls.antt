-- The program's commands with the names of their files and the number of `gen`, and what their lines are.
use Rattle.std.specs.Prelude.{◌≡◌, ℕ, ◌^◌, ◌<◌, List, [], ◌∷◌, codes, decimal, Option, Some}
use Rattle.command_line.specs.CommandLine.{line_of}
use Rattle.command_line.specs.declared.Command.{Command}
use Rattle.command_line.specs.declared.Command.TheVariants as command
use Rattle.plain_commands.specs.command_answers.Promises.{Promise}
use Rattle.plain_commands.specs.Mean.{mean_promise}
use Rattle.plain_commands.specs.Run.{run_promise}
use Rattle.plain_commands.specs.Asm.{asm_promise}
use Rattle.plain_commands.specs.Dis.{dis_promise}
use Rattle.plain_commands.specs.Audit.{audit_promise}
use Rattle.compiler_commands.specs.Build.{build_promise}
use Rattle.compiler_commands.specs.Try.{try_promise, undo_promise}
use Rattle.compiler_commands.specs.Gen.{gen_promise}
use Rattle.state_commands.specs.Saved.{save_promise}
use Rattle.alpaca_cli.specs.OfSources.{SavedStatesStay, IsOfItsSource, RestsInItsSource}
use Rattle.state_commands.specs.Resumed.{resume_promise}
use Rattle.state_commands.specs.Migrated.{migrate_promise}

-- a command, with what stands on its line, in order
pub data Call : Type 0 where
  mean : (source trace : List ℕ) → Call
  try_ : (source trace image : List ℕ) → Call
  build : (source image : List ℕ) → Call
  run : (image trace : List ℕ) → Call
  asm : (assembly image : List ℕ) → Call
  dis : (image : List ℕ) → Call
  gen : (number : ℕ) (image : List ℕ) → Call
  save : (image trace state : List ℕ) → Call
  resume : (image state trace : List ℕ) → Call
  migrate : (source image state new_source new_image new_state : List ℕ) → Call
  undo : (source trace image : List ℕ) → Call
  audit : (source report trace : List ℕ) → Call

-- what a command that was read from its line calls for
abbrev pub call_of : Command → Call
call_of (command.Mean source trace) = mean source.now trace.now
call_of (command.Try source trace image) = try_ source.now trace.now image.now
call_of (command.Build source image) = build source.now image.now
call_of (command.Run image trace) = run image.now trace.now
call_of (command.Asm assembly image) = asm assembly.now image.now
call_of (command.Dis image) = dis image.now
call_of (command.Gen number image) = gen number image.now
call_of (command.Save image trace state) = save image.now trace.now state.now
call_of (command.Resume image state trace) = resume image.now state.now trace.now
call_of (command.Migrate source image state new_source new_image new_state) =
    migrate source.now image.now state.now new_source.now new_image.now new_state.now
call_of (command.Undo source trace image) = undo source.now trace.now image.now
call_of (command.Audit source report trace) = audit source.now report.now trace.now

-- its line: its first word, and then the names, and the number in its decimal digits
abbrev pub line_text : Call → List (List ℕ)
line_text (mean source trace) = codes "mean" ∷ source ∷ trace ∷ []
line_text (try_ source trace image) = codes "try" ∷ source ∷ trace ∷ image ∷ []
line_text (build source image) = codes "build" ∷ source ∷ image ∷ []
line_text (run image trace) = codes "run" ∷ image ∷ trace ∷ []
line_text (asm assembly image) = codes "asm" ∷ assembly ∷ image ∷ []
line_text (dis image) = codes "dis" ∷ image ∷ []
line_text (gen number image) = codes "gen" ∷ decimal number ∷ image ∷ []
line_text (save image trace state) = codes "save" ∷ image ∷ trace ∷ state ∷ []
line_text (resume image state trace) = codes "resume" ∷ image ∷ state ∷ trace ∷ []
line_text (migrate source image state new_source new_image new_state) =
    codes "migrate" ∷ source ∷ image ∷ state ∷ new_source ∷ new_image ∷ new_state ∷ []
line_text (undo source trace image) = codes "undo" ∷ source ∷ trace ∷ image ∷ []
line_text (audit source report trace) = codes "audit" ∷ source ∷ report ∷ trace ∷ []

-- what it promises
abbrev pub promise_of : Call → Promise
promise_of (mean source trace) = mean_promise source trace
promise_of (try_ source trace image) = try_promise source trace image
promise_of (build source image) = build_promise source image
promise_of (run image trace) = run_promise image trace
promise_of (asm assembly image) = asm_promise assembly image
promise_of (dis image) = dis_promise image
promise_of (gen number image) = gen_promise number image
promise_of (save image trace state) = save_promise SavedStatesStay image trace state
promise_of (resume image state trace) = resume_promise IsOfItsSource image state trace
promise_of (migrate source image state new_source new_image new_state) = migrate_promise RestsInItsSource source image state new_source new_image new_state
promise_of (undo source trace image) = undo_promise source trace image
promise_of (audit source report trace) = audit_promise source report trace

-- the names of the files that it reads, in order
abbrev pub reads : Call → List (List ℕ)
reads call = (promise_of call).reads

-- the name of the file that it puts, if it puts one
abbrev pub puts : Call → Option (List ℕ)
puts call = (promise_of call).puts

-- it audits a report
abbrev pub IsAudit : Call → Type 0
IsAudit (audit source report trace) = Unit {0}
IsAudit call = ⊥

-- it runs an image or a state that it reads
abbrev pub IsRun : Call → Type 0
IsRun (run image trace) = Unit {0}
IsRun (save image trace state) = Unit {0}
IsRun (resume image state trace) = Unit {0}
IsRun call = ⊥

-- it needs no compiler and keeps no state
abbrev pub IsPlainCall : Call → Type 0
IsPlainCall (mean source trace) = Unit {0}
IsPlainCall (run image trace) = Unit {0}
IsPlainCall (asm assembly image) = Unit {0}
IsPlainCall (dis image) = Unit {0}
IsPlainCall (audit source report trace) = Unit {0}
IsPlainCall call = ⊥

-- it migrates a state
abbrev pub IsMigration : Call → Type 0
IsMigration (migrate source image state new_source new_image new_state) = Unit {0}
IsMigration call = ⊥

-- it saves, resumes or migrates a state
abbrev pub IsOnStates : Call → Type 0
IsOnStates (save image trace state) = Unit {0}
IsOnStates (resume image state trace) = Unit {0}
IsOnStates call = IsMigration call

-- its number, if it has one, is of 32 bits
abbrev pub HasNumber : Call → Type 0
HasNumber (gen number image) = number < 2 ^ 32
HasNumber call = Unit {0}

-- the words are the line of this command
pub record Says (words : List (List ℕ)) (call : Call) : Type 0 where
  pub number : HasNumber call
  pub line : line_of words ≡ Some (line_text call)

-- the words are the line of a command, and this holds of it
abbrev pub OnLine : List (List ℕ) → (Call → Type 0) → Type 0
OnLine words P = (call : Call) × Says words call × P call
