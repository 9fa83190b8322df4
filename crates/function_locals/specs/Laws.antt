-- What holds of the locals of functions and of their frames.
use Rattle.std.specs.Prelude.{◌≡◌, ℕ, ◌+◌, ◌<◌, ◌≤◌, true, List, length, Some, slice_get}
use Rattle.task_ast.specs.Paths.{CheckedFunction}
use Rattle.task_ast.specs.Calls.{BlockCallsBelow, FunctionsCallBelow}
use Rattle.cost_bound.specs.Summary.{Summary}
use Rattle.cost_bound.specs.Summaries.{function_summaries}
use Rattle.cost_bound.specs.Counts.{CheckedBlock, block_calls, reaches_of}
use Rattle.cost_bound.specs.Frames.{frame_of, deepest}
use Rattle.function_locals.specs.declared.locals.FunctionLocals.{FunctionLocals}
use Rattle.function_locals.specs.Locals.{register_end, base_of, own_locals, all_locals}

-- ---- registers

-- no function takes registers behind the eighth, whatever it is
pub record RegistersAreFew (l : FunctionLocals) : Type 0 where
  pub base : l.base ≤ 8
  pub end : register_end l ≤ 8

-- Of a source's functions: each has its own locals, in registers behind those of the functions in front of it that it calls. So it is of a task.
pub record LocalsStand (fs : List CheckedFunction) : Type 0 where
  pub few : (k : ℕ) (l : FunctionLocals) → slice_get (all_locals fs) k ≡ Some l → RegistersAreFew l
  pub own : (k : ℕ) (f : CheckedFunction) (l : FunctionLocals) → slice_get fs k ≡ Some f → slice_get (all_locals fs) k ≡ Some l → l.own ≡ own_locals f
  pub callees : (j k : ℕ) (f : CheckedFunction) (l m : FunctionLocals) → j < k → slice_get fs k ≡ Some f → slice_get (all_locals fs) k ≡ Some l
      → slice_get (all_locals fs) j ≡ Some m → block_calls j f.body ≡ true → register_end m ≤ l.base
  pub few_of_task : (b : CheckedBlock) → base_of (all_locals fs) b ≤ 8
  pub callees_of_task : (b : CheckedBlock) (j : ℕ) (m : FunctionLocals) → slice_get (all_locals fs) j ≡ Some m → block_calls j b ≡ true
      → register_end m ≤ base_of (all_locals fs) b

abbrev pub AllLocalsStand : Type 0
AllLocalsStand = (fs : List CheckedFunction) → LocalsStand fs

-- ---- frames

-- Of a source's functions, of which each calls functions in front of it alone: the frame of a function and those of the deepest chain that begins with
-- one that it calls are within its depth, and what a text reaches is no deeper than what it calls.
pub record DepthsStand (fs : List CheckedFunction) : Type 0 where
  pub callees : (j k : ℕ) (f : CheckedFunction) (s z : Summary) → slice_get fs k ≡ Some f → slice_get (function_summaries fs) k ≡ Some s
      → slice_get (function_summaries fs) j ≡ Some z → block_calls j f.body ≡ true → frame_of (length f.parameters) f.body + z.depth ≤ s.depth
  pub frame : (k : ℕ) (f : CheckedFunction) (s : Summary) → slice_get fs k ≡ Some f → slice_get (function_summaries fs) k ≡ Some s
      → frame_of (length f.parameters) f.body ≤ s.depth
  pub called : (b : CheckedBlock) (j : ℕ) (z : Summary) → slice_get (function_summaries fs) j ≡ Some z → block_calls j b ≡ true
      → z.depth ≤ deepest (function_summaries fs) b
  pub reached : (b : CheckedBlock) (j : ℕ) (z : Summary) → BlockCallsBelow (length fs) b → slice_get (function_summaries fs) j ≡ Some z
      → reaches_of (function_summaries fs) j b ≡ true → z.depth ≤ deepest (function_summaries fs) b

abbrev pub AllDepthsStand : Type 0
AllDepthsStand = (fs : List CheckedFunction) → FunctionsCallBelow 0 fs → DepthsStand fs

-- what a function calls in a text that reaches it is reached too
abbrev pub ReachesGoOn : Type 0
ReachesGoOn = (fs : List CheckedFunction) (b : CheckedBlock) (j k : ℕ) (f : CheckedFunction) → FunctionsCallBelow 0 fs → slice_get fs k ≡ Some f
    → reaches_of (function_summaries fs) k b ≡ true → block_calls j f.body ≡ true → reaches_of (function_summaries fs) j b ≡ true
