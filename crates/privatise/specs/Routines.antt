-- The functions that a task reaches: where their code stands, and where they have their locals. Those of a function that doesn't have them in registers
-- stand in RAM, below the frames of all that may have called it.
use Rattle.std.specs.Prelude.{◌≡◌, ℕ, ◌+◌, ◌-◌, ◌*◌, Bool, true, if◌then◌else◌, List, [], ◌∷◌, length, Option, Some, None, slice_get}
use Rattle.task_ast.specs.Paths.{CheckedFunction}
use Rattle.cost_bound.specs.Summary.{Summary}
use Rattle.cost_bound.specs.Summaries.{summaries}
use Rattle.cost_bound.specs.Counts.{CheckedBlock, reaches_of}
use Rattle.cost_bound.specs.Frames.{frame_of, stack_of}
use Rattle.cost_bound.specs.Allowance.{CheckedProgram}
use Rattle.memory_map.specs.address_space.Limits.{stack_top}
use Rattle.memory_map.specs.declared.place.RoutinePlace.{RoutinePlace}
use Rattle.function_locals.specs.declared.locals.FunctionLocals.{FunctionLocals}
use Rattle.function_locals.specs.Locals.{is_light, all_locals}

-- what is known of a source's functions, in the order of the text
pub record KnownFunctions : Type 0 where
  pub summaries : List Summary
  pub locals : List FunctionLocals

abbrev pub known_functions : CheckedProgram → KnownFunctions
known_functions p = record { summaries = summaries p; locals = all_locals p.functions }

-- ---- frames

-- the words from the end of RAM down to the frame of a function of this depth, in a task with a stack of so many words
abbrev pub words_above : ℕ → ℕ → ℕ
words_above stack depth = stack - 16 - depth

-- the number of the first local of a function: numbers from 8 on are words of RAM, from its last word down
abbrev pub first_local : ℕ → ℕ → FunctionLocals → ℕ
first_local stack depth l = if is_light l then l.base else 8 + words_above stack depth

-- where the stack of a function begins whose locals stand in RAM: right below them
abbrev pub frame_address : ℕ → ℕ → ℕ
frame_address first own = stack_top - 2 * (first + own - 8)

abbrev pub frame_of_locals : ℕ → ℕ → FunctionLocals → Option ℕ
frame_of_locals stack depth l = if is_light l then None else Some (frame_address (8 + words_above stack depth) l.own)

-- ---- the functions of a task

-- the words of a function's code in a task: those of its body and what it has beside it
abbrev pub routine_room : Summary → ℕ
routine_room s = 40 + s.words

-- the function of a number in a task with so many words of stack, its code from an address on
abbrev pub routine_at : ℕ → ℕ → ℕ → Summary → FunctionLocals → RoutinePlace
routine_at stack number at s l = record {
  function = number;
  code = record { address = at; words = routine_room s };
  frame = frame_of_locals stack s.depth l;
  first = first_local stack s.depth l;
}

-- those of the functions that are marked, the first of all being that of a number, their code one right behind another from an address on
abbrev pub routines_from : ℕ → (ℕ → Bool) → ℕ → ℕ → List Summary → List FunctionLocals → List RoutinePlace
routines_from stack marks k at (s ∷ ss) (l ∷ ls) =
    if marks k then routine_at stack k at s l ∷ routines_from stack marks (k + 1) (at + 2 * routine_room s) ss ls
    else routines_from stack marks (k + 1) at ss ls
routines_from stack marks k at [] ls = []
routines_from stack marks k at (s ∷ ss) [] = []

-- the functions that a task reaches, their code from an address on
abbrev pub task_routines : KnownFunctions → CheckedBlock → ℕ → List RoutinePlace
task_routines known body at =
    routines_from (stack_of known.summaries body) (λ k. reaches_of known.summaries k body) 0 at known.summaries known.locals

-- ---- what is known of each

-- a function with what is known of it
pub record Known : Type 0 where
  pub function : CheckedFunction
  pub summary : Summary
  pub locals : FunctionLocals

-- the function of a number
pub record IsFunction (p : CheckedProgram) (number : ℕ) (f : Known) : Type 0 where
  pub function : slice_get p.functions number ≡ Some f.function
  pub summary : slice_get (summaries p) number ≡ Some f.summary
  pub locals : slice_get (all_locals p.functions) number ≡ Some f.locals

-- its frame, in words
abbrev pub frame_words : Known → ℕ
frame_words f = frame_of (length f.function.parameters) f.function.body

-- the words from the end of RAM down to the lowest that its frame has, in a task with a stack of so many words
abbrev pub floor_words : ℕ → Known → ℕ
floor_words stack f = words_above stack f.summary.depth + frame_words f

-- the place of a function that a task with this text reaches
pub record IsRoutineOf (p : CheckedProgram) (body : CheckedBlock) (r : RoutinePlace) : Type 0 where
  pub known : Known
  pub is : IsFunction p r.function known
  pub reached : reaches_of (summaries p) r.function body ≡ true
  pub words : r.code.words ≡ routine_room known.summary
  pub first : r.first ≡ first_local (stack_of (summaries p) body) known.summary.depth known.locals
  pub frame : r.frame ≡ frame_of_locals (stack_of (summaries p) body) known.summary.depth known.locals
