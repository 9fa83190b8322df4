-- The source that is generated from a number: its draws are made in the order of the text.
-- 8 scalars, each with a draw; 2 arrays; 16 tasks, each with 6 draws for its statements and one for the task that comes next.
use Rattle.std.specs.Prelude.{ℕ, zero, suc, ◌+◌, ◌/◌, ◌%◌, ◌==◌, if◌then◌else◌, List, [], ◌∷◌, ◌++◌, codes, decimal, flat_map}
pub use Rattle.alp_text.specs.Pieces.{texts}
use Rattle.source_generator.specs.Draws.{drawn, draws, behind}

-- the statement that a draw chooses, by its remainder by 6; its capital letters are still open
abbrev pub template : ℕ → List ℕ
template k = if k == 0 then codes "xA = xB + sense();"
    else if k == 1 then codes "aC[xA] = xB;"
    else if k == 2 then codes "xA = aC[xB % 32] ^ D;"
    else if k == 3 then codes "if (xA < xB) { xA = D; } else { emit(xB); }"
    else if k == 4 then codes "for (i = 0; i < 8; i++) { aC[i] = aC[i] + xB; }"
    else codes "emit(xA * xB);"

-- what stands for a byte of a template: a draw chooses the scalars A and B and the array C, and D is the draw itself
unfoldable pub letter_text : ℕ → ℕ → List ℕ
letter_text d b = if b == 65 then decimal (d / 6 % 8)
    else if b == 66 then decimal (d / 48 % 8)
    else if b == 67 then decimal (d / 384 % 2)
    else if b == 68 then decimal d
    else b ∷ []

-- a template with its letters filled in
abbrev pub filled : ℕ → List ℕ → List ℕ
filled d text = flat_map (letter_text d) text

-- the line of a statement
unfoldable pub statement_text : ℕ → List ℕ
statement_text d = texts (codes "  " ∷ filled d (template (d % 6)) ∷ codes "\n" ∷ [])

-- the line of a scalar's declaration, with its first value
unfoldable pub scalar_text : ℕ → ℕ → List ℕ
scalar_text k value = texts (codes "shared unsigned x" ∷ decimal k ∷ codes " = " ∷ decimal value ∷ codes ";\n" ∷ [])

-- the scalars from number k on, one for each draw
abbrev pub scalar_texts : ℕ → List ℕ → List ℕ
scalar_texts k [] = []
scalar_texts k (value ∷ values) = scalar_text k value ++ scalar_texts (k + 1) values

-- the first line of task k, and its local
unfoldable pub task_head : ℕ → List ℕ
task_head k = texts (codes "task t" ∷ decimal k ∷ codes " {\n  unsigned i;\n" ∷ [])

-- the last lines of task k: a draw chooses one of the three tasks behind it, in a circle
unfoldable pub task_end : ℕ → ℕ → List ℕ
task_end k e = texts (codes "  transition_to(t" ∷ decimal ((k + 1 + e % 3) % 16) ∷ codes ");\n}\n" ∷ [])

-- task k, with the generator in this state
unfoldable pub task_text : ℕ → ℕ → List ℕ
task_text k s = task_head k ++ (flat_map statement_text (draws 6 s) ++ task_end k (drawn (behind 6 s)))

-- so many tasks from task k on
unfoldable pub task_texts : ℕ → ℕ → ℕ → List ℕ
task_texts zero k s = []
task_texts (suc n) k s = task_text k s ++ task_texts n (k + 1) (behind 7 s)

-- the whole source
unfoldable pub generated_text : ℕ → List ℕ
generated_text n = scalar_texts 0 (draws 8 n)
    ++ (codes "shared unsigned a0[32];\nshared unsigned a1[32];\n" ++ (task_texts 16 0 (behind 8 n) ++ codes "entry t0;\n"))
