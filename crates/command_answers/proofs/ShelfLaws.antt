-- Files that stand.
use Rattle.std.proofs.Common.{◌≡◌, ◌∙◌, inl, inr, ℕ, List, Option, Some, None, refl, sym, ap, subst}
use Rattle.std.specs.Prelude.{IsSomeAnd}
use Rattle.alp_io.specs.Shelf.{Files, Counts, NeverFall, Told}
use Rattle.command_answers.specs.declared.status.Status.{Status}
use Rattle.command_answers.specs.declared.status.Status.TheVariants.{Done, Refused, Usage, Unreadable, Unwritable, OutOfMemory, MachineFault, TooLong, Differs}
use Rattle.command_answers.specs.CommandAnswers.{CommandAnswers, TextAnswers}
use Rattle.command_answers.specs.Outside.{Shelved, Written, IsPut}
use Rattle.command_answers.proofs.UnreadFiles.{rose_later}
use Rattle.command_answers.specs.Promises.{Promise}

-- the file of this name is as before
abbrev pub IsSame : List ℕ → Files → Files → Type 0
IsSame name before after = after name ≡ before name

pub all_same : (old new : Option Files) (name : List ℕ) → new ≡ old → Told old new (IsSame name)
all_same None new name same = tt
all_same (Some f) new name same = subst (λ n. IsSomeAnd n (IsSame name f)) (sym same) refl

told_as : (old new : Option Files) (P Q : Files → Files → Type 0) → ((f g : Files) → P f g → Q f g) → Told old new P → Told old new Q
told_as None new P Q is told = tt
told_as (Some f) None P Q is told = told
told_as (Some f) (Some g) P Q is told = is f g told

other_name : (a b : List ℕ) → (Some a ≡ Some b → ⊥) → b ≡ a → ⊥
other_name a b unnamed same = unnamed (ap Some (sym same))

put_same : (p file : Option (List ℕ)) (name : List ℕ) (old new : Option Files) → (p ≡ Some name → ⊥) → IsPut p file old new → Told old new (IsSame name)
put_same (Some n) (Some bytes) name old new unnamed put = told_as old new _ _ (λ f g s. s.others name (other_name n name unnamed)) put
put_same (Some n) None name old new unnamed put = all_same old new name put
put_same None (Some bytes) name old new unnamed put = absurd put
put_same None None name old new unnamed put = all_same old new name put

text_same : (status : Status) (promise : Promise) (texts : List (List ℕ)) (name : List ℕ) (shelf : Shelved) (out err : Written)
    → (promise.puts ≡ Some name → ⊥) → TextAnswers status promise texts shelf out err → Told shelf.old shelf.new (IsSame name)
text_same Done promise texts name shelf out err unnamed a = put_same promise.puts a.0.product.file name shelf.old shelf.new unnamed a.0.put
text_same MachineFault promise texts name shelf out err unnamed a = put_same promise.puts a.0.product.file name shelf.old shelf.new unnamed a.0.put
text_same Refused promise texts name shelf out err unnamed a = all_same shelf.old shelf.new name a.3.stands
text_same Unwritable promise texts name shelf out err unnamed (inl a) = put_same promise.puts a.0.product.file name shelf.old shelf.new unnamed a.0.put
text_same Unwritable promise texts name shelf out err unnamed (inr a) =
    told_as shelf.old shelf.new _ _ (λ f g s. s name (other_name a.0 name (λ same. unnamed (a.1.named ∙ same)))) a.1.unput.others
text_same OutOfMemory promise texts name shelf out err unnamed a = all_same shelf.old shelf.new name a.stands
text_same Usage promise texts name shelf out err unnamed a = absurd a
text_same Unreadable promise texts name shelf out err unnamed a = absurd a
text_same TooLong promise texts name shelf out err unnamed a = absurd a
text_same Differs promise texts name shelf out err unnamed a = put_same promise.puts a.0.product.file name shelf.old shelf.new unnamed a.0.put

pub command_same : (status : Status) (promise : Promise) (name : List ℕ) (shelf : Shelved) (out err : Written)
    → (promise.puts ≡ Some name → ⊥) → CommandAnswers status promise shelf out err → Told shelf.old shelf.new (IsSame name)
command_same Done promise name shelf out err unnamed a = text_same Done promise a.0 name shelf out err unnamed a.2
command_same MachineFault promise name shelf out err unnamed a = text_same MachineFault promise a.0 name shelf out err unnamed a.2
command_same Refused promise name shelf out err unnamed a = text_same Refused promise a.0 name shelf out err unnamed a.2
command_same Unwritable promise name shelf out err unnamed a = text_same Unwritable promise a.0 name shelf out err unnamed a.2
command_same OutOfMemory promise name shelf out err unnamed a = all_same shelf.old shelf.new name a.stands
command_same Usage promise name shelf out err unnamed a = absurd a.2
command_same Unreadable promise name shelf out err unnamed a = all_same shelf.old shelf.new name a.2.stands
command_same Differs promise name shelf out err unnamed a = text_same Differs promise a.0 name shelf out err unnamed a.2
command_same TooLong promise name shelf out err unnamed a = all_same shelf.old shelf.new name a.2.stands

-- the same counted from before them
pub earlier : (status : Status) (promise : Promise) (texts : List (List ℕ)) (files now : Option Files) (before mid after : Counts) (out err : Written)
    → NeverFall before mid
    → TextAnswers status promise texts (record { old = files; new = now; counts_old = mid; counts_new = after }) out err
    → TextAnswers status promise texts (record { old = files; new = now; counts_old = before; counts_new = after }) out err
earlier Done promise texts files now before mid after out err falls a =
    (record { product = a.0.product; is = a.0.is; ends = a.0.ends; put = a.0.put; written = a.0.written }, a.1)
earlier MachineFault promise texts files now before mid after out err falls a =
    (record { product = a.0.product; is = a.0.is; ends = a.0.ends; put = a.0.put; written = a.0.written }, a.1)
earlier Refused promise texts files now before mid after out err falls a =
    (a.0, a.1, a.2, record { stands = a.3.stands; silent = a.3.silent; told = a.3.told })
earlier Unwritable promise texts files now before mid after out err falls (inl a) =
    inl (record { product = a.0.product; is = a.0.is; put = a.0.put; written = a.0.written; failed = a.0.failed }, a.1)
earlier Unwritable promise texts files now before mid after out err falls (inr a) =
    inr (
      a.0,
      record {
        product = a.1.product;
        is = a.1.is;
        named = a.1.named;
        unput = record { others = a.1.unput.others; failed = rose_later _ _ _ falls.failed_puts a.1.unput.failed };
        silent = a.1.silent;
      },
      a.2,
    )
earlier OutOfMemory promise texts files now before mid after out err falls a = record { stands = a.stands; silent = a.silent; told = a.told }
earlier Usage promise texts files now before mid after out err falls a = a
earlier Unreadable promise texts files now before mid after out err falls a = a
earlier TooLong promise texts files now before mid after out err falls a = a
earlier Differs promise texts files now before mid after out err falls a =
    (record { product = a.0.product; is = a.0.is; ends = a.0.ends; put = a.0.put; written = a.0.written }, a.1)
