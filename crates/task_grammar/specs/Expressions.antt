-- Reading expressions.
use Rattle.std.specs.Prelude.{ℕ, zero, suc, ◌==◌, if◌then◌else◌, length, Option, Some, None}
use Rattle.alp_text.specs.declared.lines.Span.{Span}
use Rattle.task_lex.specs.declared.token.Token.{Token}
use Rattle.task_lex.specs.declared.token.Kind.{Kind}
use Rattle.task_lex.specs.declared.token.Kind.TheVariants as k
use Rattle.task_grammar.specs.Parsed.{Expression, Values}
use Rattle.task_ast.specs.Tree as node
use Rattle.task_grammar.specs.declared.operators.Infix.{Infix}
use Rattle.task_grammar.specs.declared.operators.Infix.TheVariants.{Binary, Shift, ShortCircuit}
use Rattle.task_grammar.specs.Grammar.{prefix_of, infix_of, weakest, placed, long_worth, literal_of}
use Rattle.task_grammar.specs.Reading.{Parser, ◌>>=◌, pure, refuse, token, by, accept, accept_at, Turn, again, over, repeat}

-- the operator, if it has the precedence
abbrev pub of_precedence : ℕ → Option (ℕ × Infix) → Option Infix
of_precedence j None = None
of_precedence j (Some p) = if p.0 == j then Some p.1 else None

-- the operator of the precedence that a mark is between two sides
unfoldable pub infix_at : ℕ → Kind → Option Infix
infix_at j kind = of_precedence j (infix_of kind)

-- the right side of an operator, a number for a shift, put together with the left one
abbrev pub joined_with : Parser Expression → Expression → Span → Infix → Parser Expression
joined_with tighter left place (Binary op) = tighter >>= λ right. pure (node.binary (placed op place) left right)
joined_with tighter left place (ShortCircuit op) = tighter >>= λ right. pure (node.short_circuit op left right)
joined_with tighter left place (Shift op) = token k.Number >>= λ n. pure (node.shift op left (literal_of n))

-- both sides are the left one of what goes on
abbrev pub climb_on : Parser Expression → Expression → Span → Infix → Parser (Turn Expression Expression)
climb_on tighter left place op = joined_with tighter left place op >>= λ whole. pure (again whole)

-- goes on from the left side, with an operator of the precedence
unfoldable pub climb_turn : Parser Expression → ℕ → Expression → Parser (Turn Expression Expression)
climb_turn tighter j left = accept_at (infix_at j) (climb_on tighter left) (pure (over left))

-- goes on with such operators, as long as they come: to the left
abbrev pub climb : Parser Expression → ℕ → Expression → Parser Expression
climb tighter j = repeat (climb_turn tighter j)

-- a number
unfoldable pub number : Parser Expression
number = token k.Number >>= λ t. pure (node.number t.value)

-- a long number
unfoldable pub long_number : Parser Expression
long_number = token k.LongNumber >>= λ t. pure (node.long_number (long_worth t))

-- `sense()`
unfoldable pub sense : Parser Expression
sense = token k.Sense >>= λ s. token k.Open >>= λ o. token k.Close >>= λ c. pure node.sense

-- `next_event()`
unfoldable pub next_event : Parser Expression
next_event = token k.NextEvent >>= λ e. token k.Open >>= λ o. token k.Close >>= λ c. pure node.next_event

-- an expression with operators up to the precedence
unfoldable pub up_to : Parser Expression → ℕ → Parser Expression
up_to unary zero = unary
up_to unary (suc j) = up_to unary j >>= climb (up_to unary j) (suc j)

module _ (expression : Parser Expression) where
  -- a further value of a call behind its comma, and those behind it
  abbrev pub more_by : Parser Values → Option Kind → Parser Values
  more_by more (Some k.Comma) = token k.Comma >>= λ c. expression >>= λ next. more >>= λ behind. pure (node.value next behind)
  more_by more _ = pure node.no_value

  -- fewer of them than the number
  unfoldable pub more_within : ℕ → Parser Values
  more_within zero = refuse
  more_within (suc n) = by (more_by (more_within n))

  -- each takes a token, so the number of tokens is enough
  unfoldable pub more_values : Parser Values
  more_values ts = more_within (suc (length ts)) ts

  -- by the token behind the opening bracket of a call
  abbrev pub values_by : Option Kind → Parser Values
  values_by (Some k.Close) = pure node.no_value
  values_by _ = expression >>= λ first. more_values >>= λ more. pure (node.value first more)

  -- the values of a call
  unfoldable pub values : Parser Values
  values = by values_by

  -- behind a name
  abbrev pub named_by : Token → Option Kind → Parser Expression
  named_by n (Some k.OpenSquare) = token k.OpenSquare >>= λ o. expression >>= λ index. token k.CloseSquare >>= λ c.
      pure (node.element n.span index)
  named_by n (Some k.Open) = token k.Open >>= λ o. values >>= λ given. token k.Close >>= λ c. pure (node.call n.span given)
  named_by n _ = pure (node.name n.span)

  -- a name, with an index, with values or alone
  unfoldable pub named : Parser Expression
  named = token k.Name >>= λ n. by (named_by n)

  -- an expression in brackets
  unfoldable pub bracketed : Parser Expression
  bracketed = token k.Open >>= λ o. expression >>= λ inner. token k.Close >>= λ c. pure inner

  -- by the next token
  abbrev pub primary_by : Option Kind → Parser Expression
  primary_by (Some k.Number) = number
  primary_by (Some k.LongNumber) = long_number
  primary_by (Some k.Name) = named
  primary_by (Some k.Sense) = sense
  primary_by (Some k.NextEvent) = next_event
  primary_by (Some k.Open) = bracketed
  primary_by _ = refuse

  -- an operand without signs
  unfoldable pub primary : Parser Expression
  primary = by primary_by

  -- an operand with the signs in front of it
  unfoldable pub prefixed : Parser Expression → Parser Expression
  prefixed unary = accept prefix_of (λ op. unary >>= λ inner. pure (node.unary op inner)) primary

-- with expressions nested no deeper than the number
unfoldable pub unary_within : ℕ → Parser Expression
unary_within zero = refuse
unary_within (suc n) = prefixed (up_to (unary_within n) weakest) (unary_within n)

-- the number of tokens is enough
unfoldable pub unary : Parser Expression
unary ts = unary_within (length ts) ts

-- any expression
abbrev pub expression : Parser Expression
expression = up_to unary weakest
