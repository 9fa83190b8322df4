-- No file is changed but one that the words put.
use Rattle.std.proofs.Common.{ℕ, List}
use Rattle.plain_commands.specs.command_answers.declared.status.Status.{Status}
use Rattle.plain_commands.specs.command_answers.declared.status.Status.TheVariants.{Done, Refused, Usage, Unreadable, Unwritable, OutOfMemory, MachineFault}
use Rattle.plain_commands.specs.command_answers.declared.status.Status.TheVariants.{TooLong, Differs}
use Rattle.alpaca_cli.specs.Answers.{Answers, OthersStand}
use Rattle.alpaca_cli.specs.Calls.{promise_of}
use Rattle.plain_commands.specs.command_answers.Outside.{Shelved, Written}
use Rattle.plain_commands.proofs.command_answers.Interface.{all_same, command_same}

pub others_stand : (status : Status) (words : List (List ℕ)) (shelf : Shelved) (out err : Written) → Answers status words shelf out err
    → OthersStand words shelf.old shelf.new
others_stand Usage words shelf out err a = λ name unnamed. all_same shelf.old shelf.new name a.2.stands
others_stand OutOfMemory words shelf out err a = λ name unnamed. all_same shelf.old shelf.new name a.stands
others_stand Done words shelf out err a = λ name unnamed. command_same Done (promise_of a.0) name shelf out err (λ named. unnamed (a.0, a.1, named)) a.2
others_stand Refused words shelf out err a = λ name unnamed. command_same Refused (promise_of a.0) name shelf out err (λ named. unnamed (a.0, a.1, named)) a.2
others_stand Unreadable words shelf out err a = λ name unnamed. command_same Unreadable (promise_of a.0) name shelf out err
    (λ named. unnamed (a.0, a.1, named)) a.2
others_stand Unwritable words shelf out err a = λ name unnamed. command_same Unwritable (promise_of a.0) name shelf out err
    (λ named. unnamed (a.0, a.1, named)) a.2
others_stand MachineFault words shelf out err a = λ name unnamed. command_same MachineFault (promise_of a.0) name shelf out err
    (λ named. unnamed (a.0, a.1, named)) a.2
others_stand Differs words shelf out err a = λ name unnamed. command_same Differs (promise_of a.0) name shelf out err (λ named. unnamed (a.0, a.1, named)) a.2
others_stand TooLong words shelf out err a = λ name unnamed. command_same TooLong (promise_of a.0) name shelf out err (λ named. unnamed (a.0, a.1, named)) a.2
