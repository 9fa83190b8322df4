-- What is said of a command is said of the words.
use Rattle.std.proofs.Common.{◌≡◌, ℕ, List, Some}
use Rattle.plain_commands.specs.alp_io.Shelf.{Told}
use Rattle.plain_commands.specs.command_answers.declared.status.Status.{Status}
use Rattle.plain_commands.specs.command_answers.declared.status.Status.TheVariants.{Done, Refused, Usage, Unreadable, Unwritable, OutOfMemory, MachineFault}
use Rattle.plain_commands.specs.command_answers.declared.status.Status.TheVariants.{TooLong, Differs}
use Rattle.plain_commands.specs.command_answers.CommandAnswers.{CommandAnswers}
use Rattle.plain_commands.specs.command_answers.Outside.{Shelved, Written}
use Rattle.plain_commands.proofs.command_answers.Interface.{all_same, command_same}
use Rattle.scope_line.specs.ScopeLine.{plain_line, scope_line_of}
use Rattle.scope_line.specs.declared.Command.{Command}
use Rattle.scope_line.specs.declared.Command.TheVariants.{Bounds}
use Rattle.scope_commands.specs.Answers.{ScopeAnswers, promise_of}

-- the words are a line, and this is said of its command
pub on_line : (status : Status) (c : Command) (words : List (List ℕ)) (shelf : Shelved) (out err : Written)
    → scope_line_of words ≡ Some (plain_line c) → CommandAnswers status (promise_of c) shelf out err → ScopeAnswers status words shelf out err
on_line Done c words shelf out err is a = (c, is, a)
on_line Refused c words shelf out err is a = (c, is, a)
on_line Usage c words shelf out err is a = absurd a.2
on_line Unreadable c words shelf out err is a = (c, is, a)
on_line Unwritable c words shelf out err is a = (c, is, a)
on_line OutOfMemory c words shelf out err is a = a
on_line MachineFault c words shelf out err is a = (c, is, a)
on_line TooLong c words shelf out err is a = (c, is, a)
on_line Differs c words shelf out err is a = (c, is, a)

-- no command puts a file
puts_nothing : (c : Command) (name : List ℕ) → (promise_of c).puts ≡ Some name → ⊥
puts_nothing (Bounds source) name e = cc

-- so each file is as before
pub files_stand : (status : Status) (words : List (List ℕ)) (shelf : Shelved) (out err : Written) → ScopeAnswers status words shelf out err
    → (name : List ℕ) → Told shelf.old shelf.new (λ before after. after name ≡ before name)
files_stand Usage words shelf out err a name = all_same shelf.old shelf.new name a.2.stands
files_stand OutOfMemory words shelf out err a name = all_same shelf.old shelf.new name a.stands
files_stand Done words shelf out err a name = command_same Done (promise_of a.0) name shelf out err (puts_nothing a.0 name) a.2
files_stand Refused words shelf out err a name = command_same Refused (promise_of a.0) name shelf out err (puts_nothing a.0 name) a.2
files_stand Unreadable words shelf out err a name = command_same Unreadable (promise_of a.0) name shelf out err (puts_nothing a.0 name) a.2
files_stand Unwritable words shelf out err a name = command_same Unwritable (promise_of a.0) name shelf out err (puts_nothing a.0 name) a.2
files_stand MachineFault words shelf out err a name = command_same MachineFault (promise_of a.0) name shelf out err (puts_nothing a.0 name) a.2
files_stand Differs words shelf out err a name = command_same Differs (promise_of a.0) name shelf out err (puts_nothing a.0 name) a.2
files_stand TooLong words shelf out err a name = command_same TooLong (promise_of a.0) name shelf out err (puts_nothing a.0 name) a.2
