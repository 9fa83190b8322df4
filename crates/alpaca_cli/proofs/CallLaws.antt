-- What a command calls for, which group it is of, and how it is answered.
use Rattle.std.proofs.Common.{◌≡◌, ℕ, refl, sym, subst}
use Rattle.std.specs.Borrow.{Bor}
use Rattle.std.specs.Prelude.{List}
use Rattle.command_line.specs.Commands.{plain_line}
use Rattle.command_line.specs.declared.Command.{Command}
use Rattle.command_line.specs.declared.Command.TheVariants.{Mean, Try, Build, Run, Asm, Dis, Gen, Save, Resume, Migrate, Undo, Audit}
use Rattle.plain_commands.specs.command_answers.CommandAnswers.{CommandAnswers}
use Rattle.plain_commands.specs.command_answers.Outside.{Shelved, Written}
use Rattle.plain_commands.specs.command_answers.declared.status.Status.{Status}
use Rattle.alpaca_cli.specs.Calls.{HasNumber, IsMigration, IsOnStates, IsPlainCall, call_of, line_text, promise_of}

abbrev Name : Type 0
Name = Bor (List ℕ)

-- the line of a command is that of what it calls for
pub its_line : (c : Command) → plain_line c ≡ line_text (call_of c)
its_line (Mean a b) = refl
its_line (Try a b c) = refl
its_line (Build a b) = refl
its_line (Run a b) = refl
its_line (Asm a b) = refl
its_line (Dis a) = refl
its_line (Gen n a) = refl
its_line (Save a b c) = refl
its_line (Resume a b c) = refl
its_line (Migrate a b c d e f) = refl
its_line (Undo a b c) = refl
its_line (Audit a b c) = refl

-- the same command is answered in the same way, and has the same number
pub answers_as : (status : Status) (c d : Command) (shelf : Shelved) (out err : Written) → c ≡ d
    → CommandAnswers status (promise_of (call_of d)) shelf out err → CommandAnswers status (promise_of (call_of c)) shelf out err
answers_as status c d shelf out err is a = subst (λ x. CommandAnswers status (promise_of (call_of x)) shelf out err) (sym is) a

pub number_as : (c d : Command) → c ≡ d → HasNumber (call_of d) → HasNumber (call_of c)
number_as c d is n = subst (λ x. HasNumber (call_of x)) (sym is) n

-- ---- the groups

pub not_plain : (c : Command) → ((a b : Name) → c ≡ Mean a b → ⊥) → ((a b : Name) → c ≡ Run a b → ⊥) → ((a b : Name) → c ≡ Asm a b → ⊥)
    → ((a : Name) → c ≡ Dis a → ⊥) → ((a b d : Name) → c ≡ Audit a b d → ⊥) → IsPlainCall (call_of c) → ⊥
not_plain (Mean a b) means runs assembles lists audits plain = means a b refl
not_plain (Run a b) means runs assembles lists audits plain = runs a b refl
not_plain (Asm a b) means runs assembles lists audits plain = assembles a b refl
not_plain (Dis a) means runs assembles lists audits plain = lists a refl
not_plain (Audit a b c) means runs assembles lists audits plain = audits a b c refl
not_plain _ means runs assembles lists audits plain = plain

pub on_states : (c : Command) → (IsPlainCall (call_of c) → ⊥) → ((a b d : Name) → c ≡ Try a b d → ⊥) → ((a b d : Name) → c ≡ Undo a b d → ⊥)
    → ((a b : Name) → c ≡ Build a b → ⊥) → ((n : ℕ) (a : Name) → c ≡ Gen n a → ⊥) → IsOnStates (call_of c)
on_states (Try a b c) plain tries undoes builds generates = absurd (tries a b c refl)
on_states (Undo a b c) plain tries undoes builds generates = absurd (undoes a b c refl)
on_states (Build a b) plain tries undoes builds generates = absurd (builds a b refl)
on_states (Gen n a) plain tries undoes builds generates = absurd (generates n a refl)
on_states (Save a b c) plain tries undoes builds generates = tt
on_states (Resume a b c) plain tries undoes builds generates = tt
on_states (Migrate a b c d e f) plain tries undoes builds generates = tt
on_states _ plain tries undoes builds generates = absurd (plain tt)

pub has_no_number : (c : Command) → IsOnStates (call_of c) → HasNumber (call_of c)
has_no_number (Gen n a) states = absurd states
has_no_number _ states = tt

pub it_migrates : (c : Command) → IsOnStates (call_of c) → ((a b d : Name) → c ≡ Save a b d → ⊥) → ((a b d : Name) → c ≡ Resume a b d → ⊥)
    → IsMigration (call_of c)
it_migrates (Save a b c) states saves resumes = absurd (saves a b c refl)
it_migrates (Resume a b c) states saves resumes = absurd (resumes a b c refl)
it_migrates _ states saves resumes = states

pub no_other : (c : Command) → IsMigration (call_of c) → ((a b d e f g : Name) → c ≡ Migrate a b d e f g → ⊥) → ⊥
no_other (Migrate a b c d e f) migrates never = never a b c d e f refl
no_other _ migrates never = migrates
