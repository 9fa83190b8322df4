-- One more name walked over.
use Rattle.std.proofs.Common.{◌≡◌, ℕ, ◌+◌, List, ◌∷◌, ◌++◌, length, None, sym, ap, ◌∙◌}
use denote.Ref.{Bor}
use Rattle.std.specs.BTreeMap.{BTreeMap}
use Rattle.std.specs.Option.{option_or}
use Rattle.std.specs.Str.{bytes_eq}
use Rattle.task_check.specs.declared.occurrence.Occurrence.{Occurrence}
use Rattle.task_check.specs.declared.symbol.Global.{Global}
use Rattle.task_check.specs.declared.symbol.Counts.{Counts}
use Rattle.task_check.specs.declared.walk.Walk.{Walk}
use Rattle.task_check.specs.declared.fault.CheckFault.TheVariants as fault
use Rattle.task_check.specs.Scope.{text_of, shared_in, functions_in, tasks_in, locals_in, locals_after, one_shared, one_function, one_task, global_in}
use Rattle.task_check.specs.Scope.{local_in, local_with, if_named}
use Rattle.task_check.specs.Scope.{known_functions, meaning, stands_in_front}
use Rattle.task_check.specs.LookedUp.{symbol_by, symbol_at, behind, variable_by, call_by, target_by, variables_in, calls_in, targets_in}
use Rattle.task_check.specs.Faults.{first_fault, name_fault, name_fault_if, use_fault, use_fault_by, limit_fault, is_repeated, is_unknown, is_too_many}
use Rattle.task_check.specs.Faults.{fault_if, line_at}
use Rattle.task_check.specs.Tables.{found}
use Rattle.task_check.specs.Walks.{HasGlobals, HasLocals, IsWalked, counts_in, symbol_of, name_fault_of, IsOneOn}

pub counts_same : (k : Counts) (w x y z : ℕ) → k.shared ≡ w → k.functions ≡ x → k.tasks ≡ y → k.locals ≡ z
    → k ≡ record { shared = w; functions = x; tasks = y; locals = z }
counts_same k w x y z d e f g = λ i. record { shared = d i; functions = e i; tasks = f i; locals = g i }

module _ (source : List ℕ) (all front : List Occurrence) (o : Occurrence) (globals : BTreeMap (Bor (List ℕ)) Global) (w : Walk) (b n : ℕ)
    (has : HasGlobals source all globals) (walked : IsWalked source all front w) (bs : b ≡ behind all front) (ns : n ≡ length front) where
  same_symbol : symbol_of source globals w o b ≡ symbol_at source all o front
  unfolding symbol_of symbol_at
  same_symbol =
      let known = known_functions (functions_in front) (tasks_in front) in
      ap (λ l. symbol_by o.role l.locals (meaning (known_functions l.functions l.tasks) b (found w.locals (text_of source o.span))
      (found globals (text_of source o.span)))) walked.counts
      ∙ (ap (λ k. symbol_by o.role (locals_in front) (meaning known k (found w.locals (text_of source o.span))
      (found globals (text_of source o.span)))) bs
      ∙ (ap (λ l. symbol_by o.role (locals_in front) (meaning known (behind all front) l (found globals (text_of source o.span))))
      (walked.locals (text_of source o.span))
      ∙ ap (λ g. symbol_by o.role (locals_in front) (meaning known (behind all front) (local_in source (text_of source o.span) front) g))
      (has (text_of source o.span))))

  pub same_name_fault : name_fault_of source globals w o n b ≡ name_fault source all o front
  unfolding name_fault_of name_fault
  same_name_fault =
      ap (λ k. name_fault_if source o (is_repeated o.role (stands_in_front k (found globals (text_of source o.span))) w.counts.functions w.counts.tasks
      (found w.locals (text_of source o.span))) (is_unknown o.role (symbol_of source globals w o b))) ns
      ∙ (ap (λ g. name_fault_if source o (is_repeated o.role (stands_in_front (length front) g) w.counts.functions w.counts.tasks
      (found w.locals (text_of source o.span)))
      (is_unknown o.role (symbol_of source globals w o b))) (has (text_of source o.span))
      ∙ (ap (λ c. name_fault_if source o (is_repeated o.role (stands_in_front (length front) (global_in source (text_of source o.span) all)) c.functions c.tasks
      (found w.locals (text_of source o.span))) (is_unknown o.role (symbol_of source globals w o b))) walked.counts
      ∙ (ap (λ l. name_fault_if source o (is_repeated o.role (stands_in_front (length front) (global_in source (text_of source o.span) all))
      (functions_in front)
      (tasks_in front) l) (is_unknown o.role (symbol_of source globals w o b))) (walked.locals (text_of source o.span))
      ∙ ap (λ s. name_fault_if source o (is_repeated o.role (stands_in_front (length front) (global_in source (text_of source o.span) all)) (functions_in front)
      (tasks_in front) (local_in source (text_of source o.span) front)) (is_unknown o.role s)) same_symbol)))

  module _ (v : Walk) (on : IsOneOn source o (symbol_of source globals w o b) w v) where
    counts_on : v.counts ≡ counts_in (o ∷ front)
    counts_on =
        let a : v.counts.shared ≡ shared_in (o ∷ front) = on.shared ∙ ap (λ c. c.shared + one_shared o.role) walked.counts in
        let b : v.counts.functions ≡ functions_in (o ∷ front) = on.functions ∙ ap (λ c. c.functions + one_function o.role) walked.counts in
        let c : v.counts.tasks ≡ tasks_in (o ∷ front) = on.tasks ∙ ap (λ c. c.tasks + one_task o.role) walked.counts in
        let d : v.counts.locals ≡ locals_in (o ∷ front) = on.task_locals ∙ ap (λ c. locals_after c.locals o.role) walked.counts in
        counts_same _ _ _ _ _ a b c d

    locals_on : HasLocals source (o ∷ front) v.locals
    locals_on q = on.locals q
        ∙ (ap (λ c. option_or (if_named (bytes_eq (text_of source o.span) q) (local_with o.role c.functions c.tasks c.locals)) (found w.locals q))
        walked.counts
        ∙ ap (λ r. option_or (if_named (bytes_eq (text_of source o.span) q) (local_with o.role (functions_in front) (tasks_in front) (locals_in front))) r)
        (walked.locals q))

    variables_on : v.variables.items ≡ variables_in source all (o ∷ front)
    variables_on = on.variables ∙ (ap (λ xs. xs ++ variable_by o.role (symbol_of source globals w o b)) walked.variables
        ∙ ap (λ s. variables_in source all front ++ variable_by o.role s) same_symbol)

    calls_on : v.calls.items ≡ calls_in source all (o ∷ front)
    calls_on = on.calls ∙ (ap (λ xs. xs ++ call_by o.role (symbol_of source globals w o b)) walked.calls
        ∙ ap (λ s. calls_in source all front ++ call_by o.role s) same_symbol)

    targets_on : v.targets.items ≡ targets_in source all (o ∷ front)
    targets_on = on.targets ∙ (ap (λ xs. xs ++ target_by o.role (symbol_of source globals w o b)) walked.targets
        ∙ ap (λ s. targets_in source all front ++ target_by o.role s) same_symbol)

    wrong_use_on : v.wrong_use ≡ first_fault (use_fault source all) (o ∷ front)
    unfolding use_fault
    wrong_use_on = on.wrong_use ∙ (ap (λ e. option_or e (use_fault_by source o o.role (symbol_of source globals w o b))) walked.wrong_use
        ∙ ap (λ s. option_or (first_fault (use_fault source all) front) (use_fault_by source o o.role s)) same_symbol)

    too_many_on : v.too_many ≡ first_fault (limit_fault source) (o ∷ front)
    unfolding limit_fault
    too_many_on = on.too_many ∙ (ap (λ e. option_or e
        (fault_if (is_too_many o.role w.counts.shared w.counts.functions w.counts.tasks w.counts.locals) (fault.TooMany (line_at source o)))) walked.too_many
        ∙ ap (λ c. option_or (first_fault (limit_fault source) front)
        (fault_if (is_too_many o.role c.shared c.functions c.tasks c.locals) (fault.TooMany (line_at source o)))) walked.counts)

    -- the walk is right one name further
    pub walked_on : name_fault_of source globals w o n b ≡ None → IsWalked source all (o ∷ front) v
    walked_on fine = record {
      locals = locals_on;
      counts = counts_on;
      variables = variables_on;
      calls = calls_on;
      targets = targets_on;
      wrong_use = wrong_use_on;
      too_many = too_many_on;
      names = ap (λ e. option_or e (name_fault source all o front)) walked.names ∙ (sym same_name_fault ∙ fine);
    }
