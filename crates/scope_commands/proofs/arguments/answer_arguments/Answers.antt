use Rattle.std.proofs.Common.{[], None, inl, refl}
use Rattle.plain_commands.specs.alp_io.Shelf.{Counts}
use Rattle.plain_commands.specs.command_answers.Outside.{Shelved}
use Rattle.scope_commands.proofs.arguments.answer_arguments.Goals as goal

abbrev no_fault : Counts
no_fault = record { failed_reads = 0; missing_reads = 0; overlong_reads = 0; failed_puts = 0 }

-- no file is told, and none is asked for
abbrev no_files : Shelved
no_files = record { old = None; new = None; counts_old = no_fault; counts_new = no_fault }

pub returns-in-Ok-clause-answers : goal.returns-in-Ok-clause-answers
returns-in-Ok-clause-answers g c = inl (_, _, c.alpaca_scope.ensures.answers)

pub returns-in-Err-Memory-clause-answers : goal.returns-in-Err-Memory-clause-answers
returns-in-Err-Memory-clause-answers g c = inl ([], no_files, record { stands = refl; silent = refl; told = c.tell_out_of_memory.ensures.line })
