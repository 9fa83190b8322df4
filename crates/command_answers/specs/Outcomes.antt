-- What a command whose files were read leaves, by its result.
use Rattle.std.specs.Prelude.{◌≡◌, ℕ, List}
use Rattle.std.specs.Io.KnownBytes.{Appends}
use Rattle.alp_io.specs.Count.{Rose}
use Rattle.alp_io.specs.Sink.{AppendsProperPrefix}
use Rattle.command_answers.specs.declared.failure.Failure.{Failure}
use Rattle.command_answers.specs.declared.failure.Failure.TheVariants.{Refused, Put, Write, Memory}
use Rattle.command_answers.specs.Views.{refusal_of}
use Rattle.command_answers.specs.Outside.{Shelved, Written, Stands, IsSilent, IsUnput}
use Rattle.command_answers.specs.CommandAnswers.{IsBroken, IsFirstRefused, FailsPut}
use Rattle.command_answers.specs.Refusals.{Refusal}
use Rattle.command_answers.specs.Promises.{Promise}

-- what each failure says
abbrev pub FailsBy : Failure → Promise → List (List ℕ) → Shelved → Written → Type 0
FailsBy (Refused file r) promise texts shelf out = IsFirstRefused promise texts file.now (refusal_of r) × Stands shelf × IsSilent out
FailsBy (Put name) promise texts shelf out = FailsPut promise texts name.now shelf out
FailsBy Write promise texts shelf out = IsBroken promise texts shelf out
FailsBy Memory promise texts shelf out = Stands shelf × IsSilent out

-- the output gained a text of which this holds
abbrev pub Gains : Written → (List ℕ → Type 0) → Type 0
Gains out P = (output : List ℕ) × P output × Appends out.old out.new output

-- a write of a text of which this holds failed
abbrev pub Breaks : Written → (List ℕ → Type 0) → Type 0
Breaks out P = (output : List ℕ) × P output × AppendsProperPrefix out.old out.new output × Rose out.faults_old out.faults_new

-- a write of a text of which this holds failed, or memory was refused before it
abbrev pub FailsWriting : Failure → Written → (List ℕ → Type 0) → Type 0
FailsWriting (Refused file r) out P = ⊥
FailsWriting (Put name) out P = ⊥
FailsWriting Write out P = Breaks out P
FailsWriting Memory out P = IsSilent out

-- a put of the named file failed, or memory was refused
abbrev pub FailsPutting : Failure → List ℕ → Shelved → Type 0
FailsPutting (Refused file r) name shelf = ⊥
FailsPutting (Put named) name shelf = (named.now ≡ name) × IsUnput name shelf
FailsPutting Write name shelf = ⊥
FailsPutting Memory name shelf = Stands shelf

-- the text of this file is refused in this way, or memory was
abbrev pub FailsRefused : List ℕ → (Refusal → Type 0) → Failure → Type 0
FailsRefused name P (Refused file r) = (file.now ≡ name) × P (refusal_of r)
FailsRefused name P (Put file) = ⊥
FailsRefused name P Write = ⊥
FailsRefused name P Memory = Unit {0}
