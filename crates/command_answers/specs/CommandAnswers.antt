-- What each status says of a command, of its files, the output and the line to standard error.
use Rattle.std.specs.Prelude.{◌≡◌, ℕ, ◌⊎◌, List, Option, Some, IfSome, slice_get}
use Rattle.std.specs.Io.KnownBytes.{Appends}
use Rattle.alp_io.specs.Count.{Rose}
use Rattle.alp_io.specs.Shelf.{Files}
use Rattle.alp_io.specs.Sink.{AppendsProperPrefix}
use Rattle.command_answers.specs.declared.status.Status.{Status}
use Rattle.command_answers.specs.declared.status.Status.TheVariants.{Done, Refused, Unreadable, Unwritable, OutOfMemory, MachineFault, TooLong, Differs}
use Rattle.command_answers.specs.InputFiles.{AreHeld, IsUnreadable, IsTooLong}
use Rattle.command_answers.specs.Refusals.{Refusal, refused_line}
use Rattle.command_answers.specs.Messages.{Tells, unreadable_line, too_long_line, unput_line, unwritable_line, memory_line, machine_fault_line, differs_line}
use Rattle.command_answers.specs.Ending.{Ending, well, at_fault, differs}
use Rattle.command_answers.specs.Outside.{Shelved, Written, Stands, IsSilent, IsPut, IsUnput}
use Rattle.command_answers.specs.Promises.{Product, Promise}

-- this line was told to standard error
abbrev pub IsLineOf : List ℕ → Written → Type 0
IsLineOf line err = Tells err.old err.new err.faults_old err.faults_new line

-- no file is changed, the output gained nothing, and this line was told to standard error
pub record OnlyTold (shelf : Shelved) (out err : Written) (line : List ℕ) : Type 0 where
  pub stands : Stands shelf
  pub silent : IsSilent out
  pub told : IsLineOf line err

-- the command is whole, and ends so: its file is put, and its output is written
pub record IsWhole (promise : Promise) (texts : List (List ℕ)) (ending : Ending) (shelf : Shelved) (out : Written) : Type 0 where
  pub product : Product
  pub is : promise.makes texts product
  pub ends : product.ending ≡ ending
  pub put : IsPut promise.puts product.file shelf.old shelf.new
  pub written : Appends out.old out.new product.output

-- a write failed: the file is put, and the output gained a proper prefix of the whole
pub record IsBroken (promise : Promise) (texts : List (List ℕ)) (shelf : Shelved) (out : Written) : Type 0 where
  pub product : Product
  pub is : promise.makes texts product
  pub put : IsPut promise.puts product.file shelf.old shelf.new
  pub written : AppendsProperPrefix out.old out.new product.output
  pub failed : Rose out.faults_old out.faults_new

-- the put of the named file failed, and the output gained nothing
pub record FailsPut (promise : Promise) (texts : List (List ℕ)) (name : List ℕ) (shelf : Shelved) (out : Written) : Type 0 where
  pub product : Product
  pub is : promise.makes texts product
  pub named : promise.puts ≡ Some name
  pub unput : IsUnput name shelf
  pub silent : IsSilent out

-- the text of this name is refused, and it is the first
pub record IsFirstRefused (promise : Promise) (texts : List (List ℕ)) (name : List ℕ) (r : Refusal) : Type 0 where
  pub place : ℕ
  pub named : slice_get promise.judges place ≡ Some name
  pub refused : promise.refuses texts place r

-- What a status says of the texts of a command whose files were read.
abbrev pub TextAnswers : Status → Promise → List (List ℕ) → Shelved → Written → Written → Type 0
-- the command is whole, and nothing was told
TextAnswers Done promise texts shelf out err = IsWhole promise texts well shelf out × IsSilent err
-- the output is whole, and its last line says the fault
TextAnswers MachineFault promise texts shelf out err = IsWhole promise texts at_fault shelf out × IsLineOf machine_fault_line err
-- the output is whole, and tells the line at which the report stops being one that the source could have told
TextAnswers Differs promise texts shelf out err = IsWhole promise texts differs shelf out × IsLineOf differs_line err
-- the named text is the first that is refused
TextAnswers Refused promise texts shelf out err = (name : List ℕ) × (r : Refusal) × IsFirstRefused promise texts name r
    × OnlyTold shelf out err (refused_line name r)
-- the output is broken off, or the file isn't put
TextAnswers Unwritable promise texts shelf out err = (IsBroken promise texts shelf out × IsLineOf unwritable_line err)
    ⊎ ((name : List ℕ) × FailsPut promise texts name shelf out × IsLineOf (unput_line name) err)
-- memory was refused
TextAnswers OutOfMemory promise texts shelf out err = OnlyTold shelf out err memory_line
TextAnswers _ promise texts shelf out err = ⊥

-- the files hold these texts, as far as they are told, and this holds of the texts
abbrev pub OfTexts : Option Files → List (List ℕ) → (List (List ℕ) → Type 0) → Type 0
OfTexts told files P = (texts : List (List ℕ)) × IfSome told (λ f. AreHeld f files texts) × P texts

-- What a status says of a command.
abbrev pub CommandAnswers : Status → Promise → Shelved → Written → Written → Type 0
-- the named file could not be read
CommandAnswers Unreadable promise shelf out err =
    (name : List ℕ) × IsUnreadable shelf.old promise.reads name shelf.counts_old shelf.counts_new × OnlyTold shelf out err (unreadable_line name)
-- the named file has too many bytes
CommandAnswers TooLong promise shelf out err =
    (name : List ℕ) × IsTooLong shelf.old promise.reads name shelf.counts_old shelf.counts_new × OnlyTold shelf out err (too_long_line name)
-- memory was refused
CommandAnswers OutOfMemory promise shelf out err = OnlyTold shelf out err memory_line
CommandAnswers status promise shelf out err = OfTexts shelf.old promise.reads (λ texts. TextAnswers status promise texts shelf out err)
