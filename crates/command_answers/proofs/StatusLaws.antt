-- The status of a command, from why its files weren't read or its texts failed.
use Rattle.std.proofs.Common.{◌≡◌, ◌≤◌, inl, inr, ℕ, List, [], ◌∷◌, length, Option, Some, None, IfSome, sym, subst}
use Rattle.alp_io.specs.Shelf.{Files, Counts, NeverFall}
use Rattle.command_answers.specs.declared.status.Status.{Status}
use Rattle.command_answers.specs.declared.status.Status.TheVariants.{Done, Refused, Usage, Unreadable, Unwritable, OutOfMemory, MachineFault, TooLong, Differs}
use Rattle.command_answers.specs.declared.failure.Failure.{Failure}
use Rattle.command_answers.specs.declared.failure.Failure.TheVariants as failure
use Rattle.command_answers.specs.declared.inputs.Unread.{Unread}
use Rattle.command_answers.specs.declared.inputs.Unread.TheVariants as unread
use Rattle.command_answers.specs.CommandAnswers.{CommandAnswers, IsWhole, TextAnswers}
use Rattle.command_answers.specs.Ending.{Ending}
use Rattle.command_answers.specs.InputFiles.{AreHeld, IsUnread}
use Rattle.command_answers.specs.Outcomes.{FailsBy}
use Rattle.command_answers.specs.Outside.{Shelved, Written, Stands, IsSilent}
use Rattle.command_answers.specs.Told.{TellsFailure, TellsUnread}
use Rattle.command_answers.specs.Views.{refusal_of}
use Rattle.command_answers.proofs.ShelfLaws.{earlier}
use Rattle.command_answers.specs.Promises.{Promise}

pub of_failure : (e : Failure) (status : Status) (promise : Promise) (texts : List (List ℕ)) (shelf : Shelved) (out err : Written)
    → TellsFailure e status err → FailsBy e promise texts shelf out → TextAnswers status promise texts shelf out err
of_failure (failure.Refused file r) status promise texts shelf out err told fails =
    subst (λ s. TextAnswers s promise texts shelf out err) (sym told.is)
    (file.now, refusal_of r, fails.0, record { stands = fails.1; silent = fails.2; told = told.told })
of_failure (failure.Put name) status promise texts shelf out err told fails =
    subst (λ s. TextAnswers s promise texts shelf out err) (sym told.is) (inr (name.now, fails, told.told))
of_failure failure.Write status promise texts shelf out err told fails =
    subst (λ s. TextAnswers s promise texts shelf out err) (sym told.is) (inl (fails, told.told))
of_failure failure.Memory status promise texts shelf out err told fails =
    subst (λ s. TextAnswers s promise texts shelf out err) (sym told.is) (record { stands = fails.0; silent = fails.1; told = told.told })

pub of_unread : (u : Unread) (status : Status) (promise : Promise) (shelf : Shelved) (out err : Written)
    → TellsUnread u status err → IsUnread u shelf.old promise.reads shelf.counts_old shelf.counts_new → Stands shelf → IsSilent out
    → CommandAnswers status promise shelf out err
of_unread (unread.Unreadable name) status promise shelf out err told is stands silent =
    subst (λ s. CommandAnswers s promise shelf out err) (sym told.is) (name.now, is, record { stands = stands; silent = silent; told = told.told })
of_unread (unread.TooLong name) status promise shelf out err told is stands silent =
    subst (λ s. CommandAnswers s promise shelf out err) (sym told.is) (name.now, is, record { stands = stands; silent = silent; told = told.told })
of_unread unread.Memory status promise shelf out err told is stands silent =
    subst (λ s. CommandAnswers s promise shelf out err) (sym told.is) (record { stands = stands; silent = silent; told = told.told })

pub of_texts : (status : Status) (promise : Promise) (texts : List (List ℕ)) (shelf : Shelved) (out err : Written)
    → IfSome shelf.old (λ f. AreHeld f promise.reads texts) → TextAnswers status promise texts shelf out err → CommandAnswers status promise shelf out err
of_texts Done promise texts shelf out err held a = (texts, held, a)
of_texts Refused promise texts shelf out err held a = (texts, held, a)
of_texts Usage promise texts shelf out err held a = absurd a
of_texts Unreadable promise texts shelf out err held a = absurd a
of_texts Unwritable promise texts shelf out err held a = (texts, held, a)
of_texts OutOfMemory promise texts shelf out err held a = a
of_texts MachineFault promise texts shelf out err held a = (texts, held, a)
of_texts TooLong promise texts shelf out err held a = absurd a
of_texts Differs promise texts shelf out err held a = (texts, held, a)

-- no file is read
pub none_held : (files : Option Files) → IfSome files (λ f. AreHeld f [] [])
none_held None = tt
none_held (Some f) = tt

-- one file is held
pub held_alone : (files : Option Files) (name text : List ℕ) → IfSome files (λ f. f name ≡ Some text) → length text ≤ 1048576
    → IfSome files (λ f. AreHeld f (name ∷ []) (text ∷ []))
held_alone None name text held fits = tt
held_alone (Some f) name text held fits = (held, fits, tt)

-- a command that reads two files and puts none
pub of_two : (status : Status) (promise : Promise) (first second a b : List ℕ) (shelf : Shelved) (out err : Written)
    → a ≡ first → b ≡ second → IfSome shelf.old (λ f. AreHeld f promise.reads (first ∷ second ∷ []))
    → TextAnswers status promise (a ∷ b ∷ []) shelf out err → CommandAnswers status promise shelf out err
of_two status promise first second a b shelf out err is_a is_b held answer =
    let first_held = subst (λ x. IfSome shelf.old (λ f. AreHeld f promise.reads (x ∷ second ∷ []))) (sym is_a) held in
    of_texts status promise (a ∷ b ∷ []) shelf out err (subst (λ x. IfSome shelf.old (λ f. AreHeld f promise.reads (a ∷ x ∷ []))) (sym is_b) first_held) answer

-- a command that reads one file and puts none
pub of_one : (status : Status) (promise : Promise) (text a : List ℕ) (shelf : Shelved) (out err : Written)
    → a ≡ text → IfSome shelf.old (λ f. AreHeld f promise.reads (text ∷ []))
    → TextAnswers status promise (a ∷ []) shelf out err → CommandAnswers status promise shelf out err
of_one status promise text a shelf out err is_a held answer =
    of_texts status promise (a ∷ []) shelf out err (subst (λ x. IfSome shelf.old (λ f. AreHeld f promise.reads (x ∷ []))) (sym is_a) held) answer

-- what is said from behind the reads on, from before them
pub earlier_read : (status : Status) (promise : Promise) (texts : List (List ℕ)) (files mid now : Option Files) (before between after : Counts)
    (out err : Written)
    → mid ≡ files → NeverFall before between
    → TextAnswers status promise texts (record { old = mid; new = now; counts_old = between; counts_new = after }) out err
    → TextAnswers status promise texts (record { old = files; new = now; counts_old = before; counts_new = after }) out err
earlier_read status promise texts files mid now before between after out err same falls answer =
    earlier status promise texts files now before between after out err falls
    (subst (λ m. TextAnswers status promise texts (record { old = m; new = now; counts_old = between; counts_new = after }) out err) same answer)

-- a command that reads one file and then may put one
pub of_one_read : (status : Status) (promise : Promise) (text a : List ℕ) (files mid now : Option Files) (before between after : Counts) (out err : Written)
    → a ≡ text → mid ≡ files → NeverFall before between → IfSome files (λ f. AreHeld f promise.reads (text ∷ []))
    → TextAnswers status promise (a ∷ []) (record { old = mid; new = now; counts_old = between; counts_new = after }) out err
    → CommandAnswers status promise (record { old = files; new = now; counts_old = before; counts_new = after }) out err
of_one_read status promise text a files mid now before between after out err is_a same falls held answer =
    of_one status promise text a _ out err is_a held (earlier_read status promise (a ∷ []) files mid now before between after out err same falls answer)

-- a command that reads two files and then may put one
pub of_two_read : (status : Status) (promise : Promise) (first second a b : List ℕ) (files mid now : Option Files) (before between after : Counts)
    (out err : Written)
    → a ≡ first → b ≡ second → mid ≡ files → NeverFall before between → IfSome files (λ f. AreHeld f promise.reads (first ∷ second ∷ []))
    → TextAnswers status promise (a ∷ b ∷ []) (record { old = mid; new = now; counts_old = between; counts_new = after }) out err
    → CommandAnswers status promise (record { old = files; new = now; counts_old = before; counts_new = after }) out err
of_two_read status promise first second a b files mid now before between after out err is_a is_b same falls held answer =
    of_two status promise first second a b _ out err is_a is_b held
    (earlier_read status promise (a ∷ b ∷ []) files mid now before between after out err same falls answer)

-- a whole command, by how it ends
pub whole_ending : (promise : Promise) (texts : List (List ℕ)) (shelf : Shelved) (out : Written) (e f : Ending) → e ≡ f
    → IsWhole promise texts e shelf out → IsWhole promise texts f shelf out
whole_ending promise texts shelf out e f same whole = subst (λ x. IsWhole promise texts x shelf out) same whole
