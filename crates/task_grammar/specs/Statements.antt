-- Reading statements.
use Rattle.std.specs.Prelude.{ℕ, zero, suc, Bool, true, false, List, [], ◌∷◌, ◌++◌, length, Option, Some, None}
use Rattle.task_lex.specs.declared.token.Token.{Token}
use Rattle.task_lex.specs.declared.token.Kind.{Kind}
use Rattle.task_lex.specs.declared.token.Kind.TheVariants as k
use Rattle.task_ast.specs.declared.WordType.{WordType}
use Rattle.task_ast.specs.Tree.{block_of, choice_of}
use Rattle.task_grammar.specs.Parsed.{Expression, Statement, Block, Tested}
use Rattle.task_ast.specs.Tree as node
use Rattle.task_grammar.specs.Grammar.{arm_from, type_of}
use Rattle.task_grammar.specs.Reading.{Parser, ◌>>=◌, pure, refuse, token, by, accept, Turn, again, over, repeat}
use Rattle.task_grammar.specs.Expressions.{expression}

-- `= value ;`
unfoldable pub given : Parser Expression
given = token k.Assign >>= λ q. expression >>= λ value. token k.Semicolon >>= λ z. pure value

-- behind a name that begins a statement
abbrev pub assigned_by : Token → Option Kind → Parser Statement
assigned_by n (Some k.OpenSquare) = token k.OpenSquare >>= λ o. expression >>= λ index. token k.CloseSquare >>= λ c.
    given >>= λ value. pure (node.store n.span index value)
assigned_by n _ = given >>= λ value. pure (node.assign n.span value)

-- an assignment to a variable or an element
unfoldable pub assigned : Parser Statement
assigned = token k.Name >>= λ n. by (assigned_by n)

-- `emit (value) ;`
unfoldable pub emitted : Parser Statement
emitted = token k.Emit >>= λ t. token k.Open >>= λ o. expression >>= λ value. token k.Close >>= λ c.
    token k.Semicolon >>= λ z. pure (node.emit value)

-- `return value ;`
unfoldable pub returned : Parser Statement
returned = token k.Return >>= λ t. expression >>= λ value. token k.Semicolon >>= λ z. pure (node.give t.span value)

-- `transition_to (name) ;`
unfoldable pub transition : Parser Statement
transition = token k.TransitionTo >>= λ t. token k.Open >>= λ o. token k.Name >>= λ n. token k.Close >>= λ c.
    token k.Semicolon >>= λ z. pure (node.transition t.span n.span)

-- a type
unfoldable pub typed : Parser WordType
typed = accept type_of pure refuse

-- behind the name of a declaration
abbrev pub declared_by : WordType → Token → Option Kind → Parser Statement
declared_by of n (Some k.Assign) = given >>= λ value. pure (node.declare of n.span (Some value))
declared_by of n _ = token k.Semicolon >>= λ z. pure (node.declare of n.span None)

-- the declaration of a local
unfoldable pub declared : Parser Statement
declared = typed >>= λ of. token k.Name >>= λ n. by (declared_by of n)

-- whether the next token begins a statement
abbrev pub begins : Option Kind → Bool
begins (Some k.Unsigned) = true
begins (Some k.Int) = true
begins (Some k.Name) = true
begins (Some k.If) = true
begins (Some k.For) = true
begins (Some k.Emit) = true
begins (Some k.Return) = true
begins (Some k.TransitionTo) = true
begins _ = false

module _ (block : Parser Block) where
  -- `if (condition) block`
  unfoldable pub arm : Parser Tested
  arm = token k.If >>= λ i. token k.Open >>= λ o. expression >>= λ condition. token k.Close >>= λ c. block >>= λ b.
      pure (arm_from condition b)

  -- behind an `else`: another arm, or the last block
  abbrev pub after_else : List Tested → Option Kind → Parser (Turn (List Tested) (List Tested × Option Block))
  after_else found (Some k.If) = arm >>= λ a. pure (again (found ++ a ∷ []))
  after_else found _ = block >>= λ b. pure (over (found, Some b))

  -- an `else`, or the end of the `if`
  abbrev pub else_by : List Tested → Option Kind → Parser (Turn (List Tested) (List Tested × Option Block))
  else_by found (Some k.Else) = token k.Else >>= λ t. by (after_else found)
  else_by found _ = pure (over (found, None))

  -- one `else`
  unfoldable pub else_turn : List Tested → Parser (Turn (List Tested) (List Tested × Option Block))
  else_turn found = by (else_by found)

  -- all of them
  abbrev pub elses : List Tested → Parser (List Tested × Option Block)
  elses = repeat else_turn

  -- a whole `if`
  unfoldable pub choice : Parser Statement
  choice = arm >>= λ a. elses (a ∷ []) >>= λ r. pure (node.choose (choice_of r.0 r.1))

  -- a whole `for`
  unfoldable pub looped : Parser Statement
  looped = token k.For >>= λ f. token k.Open >>= λ o. token k.Name >>= λ n. token k.Assign >>= λ q.
      token k.Number >>= λ a. token k.Semicolon >>= λ y.
      token k.Name >>= λ m. token k.Less >>= λ l. token k.Number >>= λ b. token k.Semicolon >>= λ z.
      token k.Name >>= λ w. token k.PlusPlus >>= λ p. token k.Close >>= λ c.
      block >>= λ body. pure (node.loop n.span a.value m.span b.value w.span body)

  -- by the next token
  abbrev pub statement_by : Option Kind → Parser Statement
  statement_by (Some k.Unsigned) = declared
  statement_by (Some k.Int) = declared
  statement_by (Some k.Name) = assigned
  statement_by (Some k.If) = choice
  statement_by (Some k.For) = looped
  statement_by (Some k.Emit) = emitted
  statement_by (Some k.Return) = returned
  statement_by (Some k.TransitionTo) = transition
  statement_by _ = refuse

  -- a statement
  unfoldable pub statement : Parser Statement
  statement = by statement_by

  -- one more statement, if one begins
  abbrev pub statement_if : List Statement → Bool → Parser (Turn (List Statement) (List Statement))
  statement_if found true = statement >>= λ x. pure (again (found ++ x ∷ []))
  statement_if found false = pure (over found)

  -- by the next token
  unfoldable pub statement_turn : List Statement → Parser (Turn (List Statement) (List Statement))
  statement_turn found = by (λ kind. statement_if found (begins kind))

  -- statements, as long as the next token begins one
  abbrev pub statements : List Statement → Parser (List Statement)
  statements = repeat statement_turn

  -- statements in braces
  unfoldable pub braced : Parser Block
  braced = token k.OpenBrace >>= λ o. statements [] >>= λ all. token k.CloseBrace >>= λ c. pure (block_of all)

-- with blocks nested no deeper than the number
unfoldable pub block_within : ℕ → Parser Block
block_within zero = refuse
block_within (suc n) = braced (block_within n)

-- the number of tokens is enough
unfoldable pub block : Parser Block
block ts = block_within (length ts) ts
