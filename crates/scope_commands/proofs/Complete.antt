-- A command whose words are a line, whose file is held and is a source, is done, or memory ran out, where no read and no write failed.
use Rattle.std.proofs.Common.{◌≡◌, ◌∙◌, ◌⊎◌, inl, inr, ◌≤◌, ℕ, List, [], ◌∷◌, length, Option, Some, None, IfSome, arith, refl, sym, ap, subst}
use Rattle.std.specs.Prelude.{unwrap_or}
use Rattle.plain_commands.specs.alp_io.Count.{Rose}
use Rattle.plain_commands.specs.alp_io.Shelf.{Files, Counts}
use Rattle.plain_commands.specs.command_answers.declared.status.Status.{Status}
use Rattle.plain_commands.specs.command_answers.declared.status.Status.TheVariants.{Done, Refused, Usage, Unreadable, Unwritable, OutOfMemory, MachineFault}
use Rattle.plain_commands.specs.command_answers.declared.status.Status.TheVariants.{TooLong, Differs}
use Rattle.plain_commands.specs.command_answers.CommandAnswers.{CommandAnswers}
use Rattle.plain_commands.specs.command_answers.Ending.{Ending, well, at_fault, differs}
use Rattle.plain_commands.specs.command_answers.InputFiles.{AreHeld, IsFirstUnfit, here, behind, IsOverlong}
use Rattle.plain_commands.specs.command_answers.Outside.{Shelved, Written}
use Rattle.plain_commands.specs.command_answers.Promises.{Product}
use Rattle.plain_commands.specs.command_answers.Refusals.{Refusal}
use Rattle.plain_commands.specs.command_texts.Sources.{RefusesSource}
use Rattle.plain_commands.proofs.command_texts.Interface.{SourcesExclude}
use Rattle.scope_line.specs.ScopeLine.{plain_line, scope_line_of}
use Rattle.scope_line.specs.declared.Command.{Command}
use Rattle.scope_line.specs.declared.Command.TheVariants.{Bounds}
use Rattle.scope_commands.specs.Answers.{ScopeAnswers, IsToBeDone, promise_of}
use Rattle.scope_commands.specs.Bounds.{bounds_promise}

-- done, or memory ran out
abbrev IsDone : Status → Type 0
IsDone status = (status ≡ Done) ⊎ (status ≡ OutOfMemory)

-- a shelf that told these files before the call
abbrev told : Files → Option Files → Counts → Counts → Shelved
told f now old new = record { old = Some f; new = now; counts_old = old; counts_new = new }

-- ---- the files

-- none of the files that hold these texts is the first unfit one
no_unfit_file : (f : Files) (P : Option (List ℕ) → Type 0) (name : List ℕ) (files texts : List (List ℕ))
    → ((text : List ℕ) → length text ≤ 1048576 → P (Some text) → ⊥) → AreHeld f files texts → IsFirstUnfit f P files name → ⊥
no_unfit_file f P name files [] fit held (here n names p) = held
no_unfit_file f P name files (t ∷ ts) fit held (here n names p) = fit t held.1 (subst P held.0 p)
no_unfit_file f P name files [] fit held (behind n other names fits rest) = held
no_unfit_file f P name files (t ∷ ts) fit held (behind n other names fits rest) = no_unfit_file f P n names ts fit held.2 rest

stands : (text : List ℕ) → length text ≤ 1048576 → Some text ≡ None → ⊥
stands text le e = cc

fits : (text : List ℕ) → length text ≤ 1048576 → IsOverlong (Some text) → ⊥
fits text le lt = omega arith

-- ---- the texts

-- a file has one text
same_text : (f : Files) (name a b : List ℕ) → f name ≡ Some a → f name ≡ Some b → a ≡ b
same_text f name a b x y = ap (λ o. unwrap_or o a) (sym x ∙ y)

-- the text that a file holds and that is taken is not refused
not_refused : SourcesExclude → (f : Files) (name : List ℕ) (texts others : List (List ℕ)) (place : ℕ) (r : Refusal) → AreHeld f (name ∷ []) texts
    → (bounds_promise name).takes texts → AreHeld f (name ∷ []) others → (bounds_promise name).refuses others place r → ⊥
not_refused exclude f name [] others place r held takes also refuses = held
not_refused exclude f name (a ∷ []) [] place r held takes also refuses = also
not_refused exclude f name (a ∷ []) (b ∷ []) place r held takes also refuses =
    let refused : RefusesSource a r = subst (λ t. RefusesSource t r) (same_text f name b a also.0 held.0) refuses.0 in
    exclude a takes.0 r takes.1 refused
not_refused exclude f name (a ∷ []) (b ∷ c ∷ more) place r held takes also refuses = also.2
not_refused exclude f name (a ∷ b ∷ more) others place r held takes also refuses = held.2

-- what is made of texts ends well
ends_well : (name : List ℕ) (texts : List (List ℕ)) (product : Product) → (bounds_promise name).makes texts product → product.ending ≡ well
ends_well name [] product made = absurd made
ends_well name (a ∷ []) product made = made.2
ends_well name (a ∷ b ∷ more) product made = absurd made

not_at_fault : (e : Ending) → e ≡ well → e ≡ at_fault → ⊥
not_at_fault e a b = let clash : well ≡ at_fault = sym a ∙ b in absurd (cc)

not_differing : (e : Ending) → e ≡ well → e ≡ differs → ⊥
not_differing e a b = let clash : well ≡ differs = sym a ∙ b in absurd (cc)

-- ---- the command

-- neither a read nor a write has failed
record NothingFailed (old new : Counts) (out : Written) : Type 0 where
  no_read : Rose old.failed_reads new.failed_reads → ⊥
  no_write : Rose out.faults_old out.faults_new → ⊥

command_done : SourcesExclude → (status : Status) (name : List ℕ) (texts : List (List ℕ)) (f : Files) (now : Option Files) (old new : Counts)
    (out err : Written) → AreHeld f (name ∷ []) texts → (bounds_promise name).takes texts → NothingFailed old new out
    → CommandAnswers status (bounds_promise name) (told f now old new) out err → IsDone status
command_done exclude Done name texts f now old new out err held takes fine a = inl refl
command_done exclude OutOfMemory name texts f now old new out err held takes fine a = inr refl
command_done exclude MachineFault name texts f now old new out err held takes fine a =
    let whole = a.2.0 in absurd (not_at_fault whole.product.ending (ends_well name a.0 whole.product whole.is) whole.ends)
command_done exclude Differs name texts f now old new out err held takes fine a =
    let whole = a.2.0 in absurd (not_differing whole.product.ending (ends_well name a.0 whole.product whole.is) whole.ends)
command_done exclude Refused name texts f now old new out err held takes fine a =
    let first = a.2.2 in absurd (not_refused exclude f name texts a.0 first.place a.2.1 held takes a.1 first.refused)
command_done exclude Unreadable name texts f now old new out err held takes fine a = absurd (cause a.1.cause)
  where
    cause : Rose old.failed_reads new.failed_reads ⊎ (Rose old.missing_reads new.missing_reads × IsFirstUnfit f (λ file. file ≡ None) (name ∷ []) a.0) → ⊥
    cause (inl rose) = fine.no_read rose
    cause (inr (rose, none)) = no_unfit_file f _ a.0 (name ∷ []) texts stands held none
command_done exclude TooLong name texts f now old new out err held takes fine a =
    absurd (no_unfit_file f _ a.0 (name ∷ []) texts fits held a.1.overlong)
command_done exclude Unwritable name texts f now old new out err held takes fine (ts, theirs, inl broken) = absurd (fine.no_write broken.0.failed)
command_done exclude Unwritable name texts f now old new out err held takes fine (ts, theirs, inr unput) =
    absurd (let named = unput.1.named in cc (named))
command_done exclude Usage name texts f now old new out err held takes fine a = absurd a.2

-- ---- the words

-- of two commands of one line what is promised is the same
same_promise : (c d : Command) (words : List (List ℕ)) (status : Status) (shelf : Shelved) (out err : Written) → scope_line_of words ≡ Some (plain_line c)
    → scope_line_of words ≡ Some (plain_line d) → CommandAnswers status (promise_of c) shelf out err → CommandAnswers status (promise_of d) shelf out err
same_promise (Bounds a) (Bounds b) words status shelf out err is also answers =
    let line : Some (plain_line (Bounds a)) ≡ Some (plain_line (Bounds b)) = sym is ∙ also in
    let same : a.now ≡ b.now = cc line in
    subst (λ name. CommandAnswers status (bounds_promise name) shelf out err) same answers

done_on : SourcesExclude → (status : Status) (c : Command) (texts : List (List ℕ)) (f : Files) (now : Option Files) (old new : Counts) (out err : Written)
    → AreHeld f (promise_of c).reads texts → (promise_of c).takes texts → NothingFailed old new out
    → CommandAnswers status (promise_of c) (told f now old new) out err → IsDone status
done_on exclude status (Bounds source) texts f now old new out err held takes fine a =
    command_done exclude status source.now texts f now old new out err held takes fine a

module _ (exclude : SourcesExclude) (words : List (List ℕ)) (f : Files) (now : Option Files) (old new : Counts) (out err : Written) (k : IsToBeDone words f)
    (fine : NothingFailed old new out) where
  on_line : (status : Status) → (c : Command) × (scope_line_of words ≡ Some (plain_line c)) × CommandAnswers status (promise_of c) (told f now old new) out err
      → IsDone status
  on_line status a =
      done_on exclude status k.command k.texts f now old new out err k.held k.taken fine
      (same_promise a.0 k.command words status (told f now old new) out err a.1 k.line a.2)

  done : (status : Status) → ScopeAnswers status words (told f now old new) out err → IsDone status
  done Usage a = absurd (a.1 (k.command, k.line))
  done OutOfMemory a = inr refl
  done Done a = inl refl
  done Refused a = on_line Refused a
  done Unreadable a = on_line Unreadable a
  done Unwritable a = on_line Unwritable a
  done MachineFault a = on_line MachineFault a
  done TooLong a = on_line TooLong a
  done Differs a = on_line Differs a

-- where the files may be untold
pub complete : SourcesExclude → (status : Status) (words : List (List ℕ)) (before now : Option Files) (old new : Counts) (out err : Written)
    → ScopeAnswers status words (record { old = before; new = now; counts_old = old; counts_new = new }) out err
    → IfSome before (λ f. IsToBeDone words f → (Rose old.failed_reads new.failed_reads → ⊥) → (Rose out.faults_old out.faults_new → ⊥)
    → (status ≡ Done) ⊎ (status ≡ OutOfMemory))
complete exclude status words None now old new out err a = tt
complete exclude status words (Some f) now old new out err a = λ k no_read no_write.
    done exclude words f now old new out err k (record { no_read = no_read; no_write = no_write }) status a
