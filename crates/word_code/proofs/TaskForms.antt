-- Whatever holds of each form that the code of tasks is made of holds of each form of a program's code: a fact is a list of cases on forms.
use Rattle.word_code.proofs.Names.{ℕ, Bool, List, [], ◌∷◌, Form, Move, Calculate, Update, Push, Jump, SetStack, instruction_of, instructions}
use Rattle.word_code.proofs.Names.{AreInstructions, Ram}
use Rattle.word_code.proofs.Names.{ToRam, Source, Program, code_of, routine_code, stack_base, CodeIsInstructions}
use Rattle.array_versions.specs.msp_step.msp_isa.Encoding.{IsInstruction}
use Rattle.code_forms.specs.Forms as forms
use Rattle.word_code.specs.TaskForms.{named_of, named_from, EachForm, NamesRamFrom, SourceFrom, IsTaskSource, IsTaskForm, CodeIsOfTaskForms, CodeNamesRamFrom}
use Rattle.word_code.proofs.CodeTakes.{IsCoded}
use Rattle.word_code.proofs.Lengths.{whole_takes, routine_takes}

pub each_weaker : (F G : Form → Type 0) (ms : List Form) → ((m : Form) → F m → G m) → EachForm F ms → EachForm G ms
each_weaker F G [] f h = tt
each_weaker F G (m ∷ ms) f h = (f m h.0, each_weaker F G ms f h.1)

-- a program's code has each fact that all forms of tasks' code have
pub code_has : (F : Form → Type 0) (p : Program) → ((m : Form) → IsCoded (named_of p) m → F m) → EachForm F (code_of p)
code_has F p f = each_weaker (IsCoded (named_of p)) F (code_of p) f (whole_takes p).each

-- and so has that of a function's body
pub routine_has : (F : Form → Type 0) (p : Program) → ((m : Form) → IsCoded (named_of p) m → F m) → EachForm F (routine_code p)
routine_has F p f = each_weaker (IsCoded (named_of p)) F (routine_code p) f (routine_takes p).each

-- ---- they are instructions

form_is : (k : ℕ) (m : Form) → IsCoded k m → IsInstruction (instruction_of m)
form_is k (Jump c offset) h = h
form_is k _ h = tt

are_instructions : (ms : List Form) → EachForm (λ m. IsInstruction (instruction_of m)) ms → AreInstructions (instructions ms)
are_instructions [] h = tt
are_instructions (m ∷ ms) h = (h.0, are_instructions ms h.1)

pub code_are : (p : Program) → AreInstructions (instructions (code_of p))
code_are p = are_instructions (code_of p) (code_has (λ m. IsInstruction (instruction_of m)) p (form_is (named_of p)))

pub routine_are : (p : Program) → AreInstructions (instructions (routine_code p))
routine_are p = are_instructions (routine_code p) (routine_has (λ m. IsInstruction (instruction_of m)) p (form_is (named_of p)))

pub code_is_instructions : CodeIsInstructions
code_is_instructions p = (code_are p, routine_are p)

-- ---- they are of a task's code

task_form : (k : ℕ) (m : Form) → IsCoded k m → IsTaskForm (stack_base k) m
task_form k (Jump c offset) h = tt
task_form k _ h = h

pub code_is_of_task_forms : CodeIsOfTaskForms
code_is_of_task_forms p = (
  code_has (IsTaskForm (named_from p)) p (task_form (named_of p)),
  routine_has (IsTaskForm (named_from p)) p (task_form (named_of p)),
)

-- ---- they name no word of RAM below the stack

source_names : (low : ℕ) (x : Source) → IsTaskSource low x → SourceFrom low x
source_names low (Ram a) h = h
source_names low _ h = tt

form_names : (k : ℕ) (m : Form) → IsCoded k m → NamesRamFrom (stack_base k) m
form_names k (Move x (ToRam a)) h = (source_names (stack_base k) x h.0, h.1)
form_names k (Move x _) h = (source_names (stack_base k) x h.0, tt)
form_names k (Calculate o x b) h = source_names (stack_base k) x h
form_names k (forms.Compare x a) h = source_names (stack_base k) x h
form_names k (Update o x a) h = source_names (stack_base k) x h
form_names k (Push x) h = source_names (stack_base k) x h
form_names k (SetStack n) h = h
form_names k _ h = tt

pub code_names_ram_from : CodeNamesRamFrom
code_names_ram_from p = (
  code_has (NamesRamFrom (named_from p)) p (form_names (named_of p)),
  routine_has (NamesRamFrom (named_from p)) p (form_names (named_of p)),
)
