-- The laws of what a world stands for.
use Rattle.stands_for.proofs.Names.{[], ◌++◌, take, drop, refl, sym, ap, ◌∙◌, subst, inr, take-append-drop, IsBetween, KeepsTheLaws, NumberedStarts}
use Rattle.stands_for.proofs.Names.{PendingCanCommit, CommitStores}
use Rattle.stands_for.proofs.Pending.{sent_first, commit_keeps, commit_stores, can_commit}
use Rattle.stands_for.proofs.Behind.{behind_commit}
use Rattle.stands_for.proofs.Again.{committing}
use Rattle.stands_for.proofs.Commits.{stays_decided, decided_committing}
use Rattle.stands_for.proofs.Starts.{none_answered, numbered_start}
use Rattle.stands_for.proofs.Attempts.{attempts}

-- from a start and tasks that keep their contracts, all that the crash theorem asks of a source
pub keeps_the_laws : (St : Type 0) → KeepsTheLaws St
keeps_the_laws St l v privates p apart room start tasks =
    record {
      rests_settled = λ s x r. record { is_open = r.is_open; shared = λ a h. inr (r.shared a h) };
      rests_words = λ s x r. r.is_open.accepted;
      settled_undecided = λ s x u. u;
      undecided_gate = λ s x u. u.is_open.gate;
      undecided_task = λ s x u. u.is_open.is_task;
      undecided_words = λ s x u. u.is_open.accepted;
      decided_task = λ s next x d. d.decided.sends.is_task;
      decided_words = λ s next x d. record {
        sent = take d.decided.sends.accepted.count d.emits;
        unsent = drop d.decided.sends.accepted.count d.emits;
        accepted_is = d.decided.sends.accepted.is;
        to_is = d.decided.sends.emitted ∙ ap (λ l. v.emitted s ++ l) (sym (take-append-drop d.decided.sends.accepted.count d.emits));
      };
      decided_commits = λ s next x d inputs. commit_keeps l v p apart _ next inputs x (decided_committing l apart room v s next x d)
          (stays_decided l apart room v s next x d);
      decided_committing = decided_committing l apart room v;
      committing_gate = λ to x d. d.pending.gate;
      committing_words = λ to x d. subst (λ ws. IsBetween [] ws x.accepted)
          (sym (ap (λ y. y.accepted) (behind_commit l.map x)) ∙ d.rests.is_open.accepted) (sent_first l apart x d.pending room);
      commits = λ to x inputs d. commit_keeps l v p apart _ to inputs x d (committing l v apart room to x d);
      recovers = λ s x u. record { stays = record { takes_none = refl; answers_none = none_answered l.map [] tt; elsewhere = tt; undecided = u }; settled = u };
      attempts = attempts l v privates p apart start tasks;
    }

-- the start that numbers attempts keeps its contract
pub numbered_starts : (St : Type 0) → NumberedStarts St
numbered_starts St l v privates apart laid = numbered_start l apart v privates laid

-- a pending commit has what it needs
pub pending_can_commit : PendingCanCommit
pending_can_commit l x apart p = can_commit l apart x p

-- it stores to shared words, CUR, BASE and GATE alone
pub commit_stores_there : CommitStores
commit_stores_there l x apart p = commit_stores l apart x p
