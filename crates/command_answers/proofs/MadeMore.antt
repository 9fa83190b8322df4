-- A command that makes one thing of its texts makes what follows from that.
use Rattle.std.proofs.Common.{inl, inr, List, ℕ}
use Rattle.command_answers.specs.declared.status.Status.{Status}
use Rattle.command_answers.specs.declared.status.Status.TheVariants.{Done, Refused, Usage, Unreadable, Unwritable, OutOfMemory, MachineFault, TooLong, Differs}
use Rattle.command_answers.specs.Ending.{Ending}
use Rattle.command_answers.specs.Outside.{Shelved, Written}
use Rattle.command_answers.specs.Promises.{Product, Promise}
use Rattle.command_answers.specs.CommandAnswers.{CommandAnswers, IsWhole, TextAnswers}

module _ (promise : Promise) (Makes : List (List ℕ) → Product → Type 0)
    (follows : (texts : List (List ℕ)) (p : Product) → promise.makes texts p → Makes texts p) where
  -- the promise of what follows
  abbrev pub made_more : Promise
  made_more = record (promise) { makes = Makes }

  whole_more : (texts : List (List ℕ)) (ending : Ending) (shelf : Shelved) (out : Written)
      → IsWhole promise texts ending shelf out → IsWhole made_more texts ending shelf out
  whole_more texts ending shelf out a =
      record { product = a.product; is = follows texts a.product a.is; ends = a.ends; put = a.put; written = a.written }

  texts_more : (status : Status) (texts : List (List ℕ)) (shelf : Shelved) (out err : Written)
      → TextAnswers status promise texts shelf out err → TextAnswers status made_more texts shelf out err
  texts_more Done texts shelf out err a = (whole_more texts _ shelf out a.0, a.1)
  texts_more MachineFault texts shelf out err a = (whole_more texts _ shelf out a.0, a.1)
  texts_more Differs texts shelf out err a = (whole_more texts _ shelf out a.0, a.1)
  texts_more Refused texts shelf out err a = (a.0, a.1, record { place = a.2.place; named = a.2.named; refused = a.2.refused }, a.3)
  texts_more Unwritable texts shelf out err (inl (a, told)) = inl (
    record { product = a.product; is = follows texts a.product a.is; put = a.put; written = a.written; failed = a.failed },
    told,
  )
  texts_more Unwritable texts shelf out err (inr (name, a, told)) = inr (
    name,
    record { product = a.product; is = follows texts a.product a.is; named = a.named; unput = a.unput; silent = a.silent },
    told,
  )
  texts_more OutOfMemory texts shelf out err a = a
  texts_more Usage texts shelf out err a = a
  texts_more Unreadable texts shelf out err a = a
  texts_more TooLong texts shelf out err a = a

  pub answers_more : (status : Status) (shelf : Shelved) (out err : Written)
      → CommandAnswers status promise shelf out err → CommandAnswers status made_more shelf out err
  answers_more Unreadable shelf out err a = a
  answers_more TooLong shelf out err a = a
  answers_more OutOfMemory shelf out err a = a
  answers_more Done shelf out err a = (a.0, a.1, texts_more Done a.0 shelf out err a.2)
  answers_more Refused shelf out err a = (a.0, a.1, texts_more Refused a.0 shelf out err a.2)
  answers_more Unwritable shelf out err a = (a.0, a.1, texts_more Unwritable a.0 shelf out err a.2)
  answers_more MachineFault shelf out err a = (a.0, a.1, texts_more MachineFault a.0 shelf out err a.2)
  answers_more Differs shelf out err a = (a.0, a.1, texts_more Differs a.0 shelf out err a.2)
  answers_more Usage shelf out err a = (a.0, a.1, texts_more Usage a.0 shelf out err a.2)
