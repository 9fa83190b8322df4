-- The locals of a task and its stack have room in RAM, from its end down.
use Rattle.std.proofs.Common.{◌≡◌, ℕ, zero, suc, ◌+◌, ◌-◌, ◌*◌, ◌<◌, ◌≤◌, List, [], ◌∷◌, Some, None, slice_get, ap, arith}
use Rattle.std.proofs.lemmas.Option.{same_Some}
use Rattle.address_space.specs.Limits.{HasStackRoom}
use Rattle.task_ast.specs.Paths.{CheckedProgram, CheckedTask, CheckedBlock}
use Rattle.cost_bound.specs.Frames.{block_locals, frame_of, stack_of}
use Rattle.cost_bound.specs.Summaries.{summaries}
use Rattle.cost_bound.specs.Allowance.{greatest}
use Rattle.function_locals.specs.Locals.{base_of, all_locals}
use Rattle.function_locals.proofs.Interface.{locals_stand}
use Rattle.array_versions.specs.Form.{stack_base}
use Rattle.whole_programs.proofs.Rooms.{room_of}

-- ---- lists

-- a task has no more than the greatest
pub below_greatest : (f : CheckedBlock → ℕ) (ts : List CheckedTask) (k : ℕ) (task : CheckedTask) → slice_get ts k ≡ Some task → f task.body ≤ greatest f ts
below_greatest f [] k task e = absurd (let none : None ≡ Some task = e in cc)
below_greatest f (t ∷ ts) zero task e = let same = ap (λ u. f u.body) (same_Some t task e) in omega (arith, same)
below_greatest f (t ∷ ts) (suc k) task e = let rest = below_greatest f ts k task e in omega (arith, rest)

-- ---- where a task's stack is

-- a task's own locals are below a number; its stack has room below them, and above those of all that it calls
pub record Ground (program : CheckedProgram) (body : CheckedBlock) : Type 0 where
  pub locals : ℕ
  pub below : (n : ℕ) → n < 256 → n < block_locals body → base_of (all_locals program.functions) body + n < locals
  pub fits : HasStackRoom (stack_base locals) (room_of body)
  pub lowest : 0x2400 - 2 * frame_of 0 body + 2 * room_of body ≤ stack_base locals

-- each task of a source has its ground
pub ground : (program : CheckedProgram) → greatest (stack_of (summaries program)) program.tasks ≤ 1000 → (k : ℕ) (task : CheckedTask)
    → slice_get program.tasks k ≡ Some task → Ground program task.body
ground program within k task e =
    let base = base_of (all_locals program.functions) task.body in
    let registers = (locals_stand program.functions).few_of_task task.body in
    let low = below_greatest (stack_of (summaries program)) program.tasks k task e in
    let few : stack_of (summaries program) task.body ≤ 1000 = omega (arith, low, within) in
    record {
      locals = base + block_locals task.body;
      below = λ n l own. omega (arith, own);
      fits = record { fits = omega (arith, few, registers) };
      lowest = omega (arith, few, registers);
    }
