-- What keeps the rules of a map can be added to it one behind the other.
use Rattle.std.proofs.Common.{◌≡◌, ◌∙◌, ℕ, true, List, [], ◌∷◌, ◌++◌, sym, ap, subst, append_assoc, append-nil}
use Rattle.std.specs.Prelude.{All}
use Rattle.image_map.specs.declared.parts.Variable.{Variable}
use Rattle.image_map.specs.MapValue.{MapValue, TaskValue, are_scalars, with_private}
use Rattle.image_map.specs.Kept.{IsMap}
use Rattle.image_map.proofs.Interface.{variables_alone, tasks_alone, task_with, middle, takes_next_variable, takes_next_task, takes_next_private, onto_of}
use Rattle.source_maps.specs.Adding.{with_variables, TakesVariables, with_privates, TakesPrivates, with_whole_task, with_tasks, TakesTasks}

-- ---- variables

pub takes_variables : (m : MapValue) (done rest : List Variable) → m.variables ≡ done ++ rest → IsMap m → TakesVariables (variables_alone m done) rest
takes_variables m done [] e h = tt
takes_variables m done (v ∷ rest) e h =
    (takes_next_variable m done rest v e h, takes_variables m (done ++ v ∷ []) rest (e ∙ sym (append_assoc done (v ∷ []) rest)) h)

pub all_variables : (m : MapValue) (done rest : List Variable) → with_variables (variables_alone m done) rest ≡ variables_alone m (done ++ rest)
all_variables m done [] = ap (variables_alone m) (sym (append-nil done))
all_variables m done (v ∷ rest) = all_variables m (done ++ v ∷ []) rest ∙ ap (variables_alone m) (append_assoc done (v ∷ []) rest)

-- ---- private scalars

next_private : (m : MapValue) (done : List TaskValue) (name : List ℕ) (ns : List (List ℕ)) (n : List ℕ)
    → with_private (tasks_alone m (done ++ task_with name ns ∷ [])) n ≡ tasks_alone m (done ++ task_with name (ns ++ n ∷ []) ∷ [])
next_private m done name ns n = ap (tasks_alone m) (onto_of done (task_with name ns) n)

takes_privates : (m : MapValue) (done : List TaskValue) (name : List ℕ) (ns rest : List (List ℕ)) → are_scalars (ns ++ rest) m.variables ≡ true
    → TakesPrivates (tasks_alone m (done ++ task_with name ns ∷ [])) rest
takes_privates m done name ns [] h = tt
takes_privates m done name ns (n ∷ rest) h = (
  takes_next_private m done name ns rest n h,
  subst (λ x. TakesPrivates x rest) (sym (next_private m done name ns n))
      (takes_privates m done name (ns ++ n ∷ []) rest (ap (λ l. are_scalars l m.variables) (append_assoc ns (n ∷ []) rest) ∙ h)),
)

all_privates : (m : MapValue) (done : List TaskValue) (name : List ℕ) (ns rest : List (List ℕ))
    → with_privates (tasks_alone m (done ++ task_with name ns ∷ [])) rest ≡ tasks_alone m (done ++ task_with name (ns ++ rest) ∷ [])
all_privates m done name ns [] = ap (λ l. tasks_alone m (done ++ task_with name l ∷ [])) (sym (append-nil ns))
all_privates m done name ns (n ∷ rest) =
    ap (λ x. with_privates x rest) (next_private m done name ns n) ∙ all_privates m done name (ns ++ n ∷ []) rest
    ∙ ap (λ l. tasks_alone m (done ++ task_with name l ∷ [])) (append_assoc ns (n ∷ []) rest)

-- ---- tasks

whole_task : (m : MapValue) (done : List TaskValue) (t : TaskValue) → with_whole_task (tasks_alone m done) t ≡ tasks_alone m (done ++ t ∷ [])
whole_task m done t = all_privates m done t.name [] t.privates

pub takes_tasks : (m : MapValue) (done rest : List TaskValue) → m.tasks ≡ done ++ rest → IsMap m → TakesTasks (tasks_alone m done) rest
takes_tasks m done [] e h = tt
takes_tasks m done (t ∷ rest) e h =
    let Q : List TaskValue → Type 0 = λ ts. All (λ t. are_scalars t.privates m.variables ≡ true) ts in
    let scalars = middle (λ t. are_scalars t.privates m.variables ≡ true) done rest t (subst Q e h.privates) in (
      takes_next_task m done rest t e h,
      takes_privates m done t.name [] t.privates scalars,
      subst (λ x. TakesTasks x rest) (sym (whole_task m done t)) (takes_tasks m (done ++ t ∷ []) rest (e ∙ sym (append_assoc done (t ∷ []) rest)) h),
    )

pub all_tasks : (m : MapValue) (done rest : List TaskValue) → with_tasks (tasks_alone m done) rest ≡ tasks_alone m (done ++ rest)
all_tasks m done [] = ap (tasks_alone m) (sym (append-nil done))
all_tasks m done (t ∷ rest) =
    ap (λ x. with_tasks x rest) (whole_task m done t) ∙ all_tasks m (done ++ t ∷ []) rest ∙ ap (tasks_alone m) (append_assoc done (t ∷ []) rest)
