-- What each status says of the files, the output and the line to standard error.
use Rattle.std.specs.Prelude.{◌≡◌, ℕ, List, Option, Some}
use Rattle.plain_commands.specs.alp_io.Shelf.{Files, Told}
use Rattle.command_line.specs.CommandLine.{IsLine}
use Rattle.plain_commands.specs.command_answers.declared.status.Status.{Status}
use Rattle.plain_commands.specs.command_answers.declared.status.Status.TheVariants.{Done, Usage, OutOfMemory, MachineFault, Differs}
use Rattle.plain_commands.specs.command_answers.Messages.{memory_line, usage_line}
use Rattle.alpaca_cli.specs.Calls.{Call, OnLine, puts, promise_of}
use Rattle.plain_commands.specs.command_answers.Ending.{Ending, well, at_fault, differs}
use Rattle.plain_commands.specs.command_answers.Outside.{Shelved, Written}
use Rattle.plain_commands.specs.command_answers.Promises.{Product}
use Rattle.alpaca_cli.specs.Products.{IsProduct}
use Rattle.plain_commands.specs.command_answers.CommandAnswers.{CommandAnswers, OnlyTold}

-- What a status says of a call with these words.
abbrev pub Answers : Status → List (List ℕ) → Shelved → Written → Written → Type 0
-- the words are no command line
Answers Usage words shelf out err = (IsLine words → ⊥) × (OnLine words (λ call. Unit {0}) → ⊥) × OnlyTold shelf out err usage_line
-- memory was refused
Answers OutOfMemory words shelf out err = OnlyTold shelf out err memory_line
Answers status words shelf out err = OnLine words (λ call. CommandAnswers status (promise_of call) shelf out err)

-- as far as the files are told, each is as before, but for one that the words put
abbrev pub OthersStand : List (List ℕ) → Option Files → Option Files → Type 0
OthersStand words old new = (name : List ℕ) → (OnLine words (λ call. puts call ≡ Some name) → ⊥) → Told old new (λ before after. after name ≡ before name)

-- the status of a whole command
abbrev pub status_of : Ending → Status
status_of well = Done
status_of at_fault = MachineFault
status_of differs = Differs

-- the command is carried out: whatever it makes of these texts ends so, and the status says it
pub record IsCarriedOut (call : Call) (texts : List (List ℕ)) (status : Status) : Type 0 where
  pub ending : Ending
  pub said : status ≡ status_of ending
  pub only : (product : Product) → IsProduct call texts product → product.ending ≡ ending
