-- What is known of the names in front of a place.
use Rattle.std.specs.Prelude.{◌≡◌, ℕ, ◌+◌, List, ◌++◌, Option, None}
use denote.Ref.{Bor}
use Rattle.std.specs.BTreeMap.{BTreeMap}
use Rattle.task_check.specs.declared.occurrence.Occurrence.{Occurrence}
use Rattle.task_check.specs.declared.symbol.Global.{Global}
use Rattle.task_check.specs.declared.symbol.Local.{Local}
use Rattle.task_check.specs.declared.symbol.Counts.{Counts}
use Rattle.task_check.specs.declared.walk.Walk.{Walk}
use Rattle.task_check.specs.declared.symbol.Symbol.{Symbol}
use Rattle.task_check.specs.declared.fault.CheckFault.{CheckFault}
use Rattle.task_check.specs.declared.fault.CheckFault.TheVariants as fault
use Rattle.std.specs.Option.{option_or}
use Rattle.std.specs.Str.{bytes_eq}
use Rattle.task_check.specs.Scope.{text_of, shared_in, functions_in, tasks_in, locals_in, locals_after, one_shared, one_function, one_task, global_in}
use Rattle.task_check.specs.Scope.{local_in, local_with, if_named}
use Rattle.task_check.specs.Scope.{known_functions, meaning, stands_in_front}
use Rattle.task_check.specs.LookedUp.{symbol_by, variable_by, call_by, target_by, variables_in, calls_in, targets_in}
use Rattle.task_check.specs.Faults.{first_fault, name_fault, name_fault_if, use_fault, use_fault_by, limit_fault, is_repeated, is_unknown, is_too_many}
use Rattle.task_check.specs.Faults.{fault_if, line_at}
use Rattle.task_check.specs.Tables.{found}

-- the numbers of declarations in front
abbrev pub counts_in : List Occurrence → Counts
counts_in front = record { shared = shared_in front; functions = functions_in front; tasks = tasks_in front; locals = locals_in front }

-- the table has the first shared variable, function or task of each name
abbrev pub HasGlobals : List ℕ → List Occurrence → BTreeMap (Bor (List ℕ)) Global → Type 0
HasGlobals source front table = (name : List ℕ) → found table name ≡ global_in source name front

-- the table has the last local of each name
abbrev pub HasLocals : List ℕ → List Occurrence → BTreeMap (Bor (List ℕ)) Local → Type 0
HasLocals source front table = (name : List ℕ) → found table name ≡ local_in source name front

-- the names in front have been walked over, and none is repeated or unknown
pub record IsWalked (source : List ℕ) (all front : List Occurrence) (w : Walk) : Type 0 where
  pub locals : HasLocals source front w.locals
  pub counts : w.counts ≡ counts_in front
  pub variables : w.variables.items ≡ variables_in source all front
  pub calls : w.calls.items ≡ calls_in source all front
  pub targets : w.targets.items ≡ targets_in source all front
  pub wrong_use : w.wrong_use ≡ first_fault (use_fault source all) front
  pub too_many : w.too_many ≡ first_fault (limit_fault source) front
  pub names : first_fault (name_fault source all) front ≡ None

-- ---- one step of the walk

-- what a name stands for, by the tables in front of it
unfoldable pub symbol_of : List ℕ → BTreeMap (Bor (List ℕ)) Global → Walk → Occurrence → ℕ → Option Symbol
symbol_of source globals w o behind = symbol_by o.role w.counts.locals
    (meaning (known_functions w.counts.functions w.counts.tasks) behind (found w.locals (text_of source o.span)) (found globals (text_of source o.span)))

-- whether it is repeated or unknown
unfoldable pub name_fault_of : List ℕ → BTreeMap (Bor (List ℕ)) Global → Walk → Occurrence → ℕ → ℕ → Option CheckFault
name_fault_of source globals w o front behind = name_fault_if source o
    (is_repeated o.role (stands_in_front front (found globals (text_of source o.span))) w.counts.functions w.counts.tasks
    (found w.locals (text_of source o.span)))
    (is_unknown o.role (symbol_of source globals w o behind))

-- one more name has been walked over
pub record IsOneOn (source : List ℕ) (o : Occurrence) (s : Option Symbol) (w v : Walk) : Type 0 where
  pub locals : (q : List ℕ) → found v.locals q ≡ option_or
      (if_named (bytes_eq (text_of source o.span) q) (local_with o.role w.counts.functions w.counts.tasks w.counts.locals))
      (found w.locals q)
  pub shared : v.counts.shared ≡ w.counts.shared + one_shared o.role
  pub functions : v.counts.functions ≡ w.counts.functions + one_function o.role
  pub tasks : v.counts.tasks ≡ w.counts.tasks + one_task o.role
  pub task_locals : v.counts.locals ≡ locals_after w.counts.locals o.role
  pub variables : v.variables.items ≡ w.variables.items ++ variable_by o.role s
  pub calls : v.calls.items ≡ w.calls.items ++ call_by o.role s
  pub targets : v.targets.items ≡ w.targets.items ++ target_by o.role s
  pub wrong_use : v.wrong_use ≡ option_or w.wrong_use (use_fault_by source o o.role s)
  pub too_many : v.too_many ≡ option_or w.too_many (fault_if (is_too_many o.role w.counts.shared w.counts.functions w.counts.tasks w.counts.locals)
      (fault.TooMany (line_at source o)))
