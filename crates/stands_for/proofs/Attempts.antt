-- A start in front of a task that keeps its contract is an attempt that keeps its own.
use Rattle.stands_for.proofs.Names.{ℕ, List, sym, subst, World, world_after, fram_after, CopyPair, behind_effects, Inputs, InputsAreWords, AttemptContract}
use Rattle.stands_for.proofs.Names.{world_fram, in_front, ProgramPlaces, StateView, UndecidedAt, ProgramParts, attempt_effects, program_model, StartContract}
use Rattle.stands_for.proofs.Names.{TasksContract, AreApart}
use Rattle.stands_for.proofs.Starts.{start_off_gate, start_answers_none}

module _ {St : Type 0} (l : ProgramPlaces) (v : StateView St) (privates : ℕ → List CopyPair) (p : ProgramParts St) (apart : AreApart l.map)
    (start : StartContract l v privates p.start) (tasks : TasksContract l v privates p) where
  -- an attempt keeps its contract
  pub attempts : (s : St) (x : World) (inputs : Inputs) → InputsAreWords inputs → UndecidedAt l v s x
      → AttemptContract (program_model l v p) s inputs x (attempt_effects l p x.fram inputs)
  attempts s x inputs words u =
      let m = program_model l v p in
      let st = p.start x.fram in
      let y = world_after st x in
      let stores = start.stores x.fram in
      let k = in_front m s x inputs st (p.body (v.task s) y.fram inputs)
      (record {
        takes_none = start.takes_none x.fram;
        answers_none = start_answers_none l apart v st stores;
        elsewhere = start_off_gate l apart v st stores;
        undecided = start.undecided s x u;
      })
      (tasks s y inputs words (start.started s x u)) in
      let k2 : AttemptContract m s inputs x (behind_effects st (p.body (v.task s) (fram_after st x.fram) inputs)) =
      subst (λ f. AttemptContract m s inputs x (behind_effects st (p.body (v.task s) f inputs))) (world_fram st x) k in
      subst (λ t. AttemptContract m s inputs x (behind_effects st (p.body t (fram_after st x.fram) inputs))) (sym u.is_open.current_task) k2
