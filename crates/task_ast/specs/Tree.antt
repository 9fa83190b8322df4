-- The tree of a source as a value, without where its parts lie in memory. What the language means is said of these.
use Rattle.std.specs.Prelude.{ℕ, List, [], ◌∷◌, Option, Some, None}
use Rattle.alp_text.specs.declared.lines.Span.{Span}
use Rattle.task_ast.specs.declared.WordType.{WordType}
use Rattle.task_ast.specs.declared.UnaryOperator.{UnaryOperator}
use Rattle.task_ast.specs.declared.PlacedOperator.{PlacedOperator}
use Rattle.task_ast.specs.declared.ShiftOperator.{ShiftOperator}
use Rattle.task_ast.specs.declared.ShortCircuitOperator.{ShortCircuitOperator}
use Rattle.task_ast.specs.declared.Literal.{Literal}
use Rattle.task_ast.specs.declared.SharedDeclaration.{SharedDeclaration}
use Rattle.task_ast.specs.declared.Parameter.{Parameter}

mutual
  -- Expressions as in C over names of variables V and of functions F, with no brackets left.
  pub data Expression (V F : Type 0) : Type 0 where
    -- a number of one word, and one of two words
    number : ℕ → Expression V F
    long_number : ℕ → Expression V F
    name : V → Expression V F
    -- an element of an array: its name and the index
    element : V → Expression V F → Expression V F
    -- the next reading
    sense : Expression V F
    -- the next event
    next_event : Expression V F
    -- a call of a function
    call : F → Values V F → Expression V F
    unary : UnaryOperator → Expression V F → Expression V F
    binary : PlacedOperator → Expression V F → Expression V F → Expression V F
    shift : ShiftOperator → Expression V F → Literal → Expression V F
    short_circuit : ShortCircuitOperator → Expression V F → Expression V F → Expression V F

  -- what a call gives its function, in the text's order
  pub data Values (V F : Type 0) : Type 0 where
    no_value : Values V F
    value : Expression V F → Values V F → Values V F

mutual
  -- Statements as in C over names of variables V, of tasks T and of functions F, and those of the Alpaca tasks: a transition ends the
  -- task (Maeng, Colin, Lucia: Alpaca, OOPSLA 2017).
  pub data Statement (V T F : Type 0) : Type 0 where
    declare : WordType → V → Option (Expression V F) → Statement V T F
    assign : V → Expression V F → Statement V T F
    -- an array's name, the index, the value
    store : V → Expression V F → Expression V F → Statement V T F
    choose : Choice V T F → Statement V T F
    -- `for (variable = from; tested < below; stepped++) body`
    loop : (variable : V) (from : ℕ) (tested : V) (below : ℕ) (stepped : V) (body : Block V T F) → Statement V T F
    emit : Expression V F → Statement V T F
    -- `return`, with the keyword's place
    give : Span → Expression V F → Statement V T F
    -- `transition_to`, with the keyword's place
    transition : Span → T → Statement V T F

  -- the conditions of an `if` with their blocks, in their order, then the last block, if there is one
  pub data Choice (V T F : Type 0) : Type 0 where
    nothing : Choice V T F
    otherwise : Block V T F → Choice V T F
    test : Expression V F → Block V T F → Choice V T F → Choice V T F

  -- statements, one after another
  pub data Block (V T F : Type 0) : Type 0 where
    end : Block V T F
    step : Statement V T F → Block V T F → Block V T F

-- a list of statements as a block
abbrev pub block_of : {V T F : Type 0} → List (Statement V T F) → Block V T F
block_of [] = end
block_of (s ∷ more) = step s (block_of more)

-- a condition and its block
pub record Tested (V T F : Type 0) : Type 0 where
  pub condition : Expression V F
  pub block : Block V T F

-- conditions with their blocks, and the last block, as a choice
abbrev pub choice_of : {V T F : Type 0} → List (Tested V T F) → Option (Block V T F) → Choice V T F
choice_of [] None = nothing
choice_of [] (Some last) = otherwise last
choice_of (t ∷ more) last = test t.condition t.block (choice_of more last)

-- a function: the type of what it gives, where its name stands, its parameters, and what it does
pub record Function (V T F : Type 0) : Type 0 where
  pub word_type : WordType
  pub name : Span
  pub parameters : List (Parameter V)
  pub body : Block V T F

-- a task: where its name stands, and what it does
pub record Task (V T F : Type 0) : Type 0 where
  pub name : Span
  pub body : Block V T F

-- the declarations in the order of the text, and the name behind `entry`
pub record Program (V T F : Type 0) : Type 0 where
  pub shared : List SharedDeclaration
  pub functions : List (Function V T F)
  pub tasks : List (Task V T F)
  pub entry : T
