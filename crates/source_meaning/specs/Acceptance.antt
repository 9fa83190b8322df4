-- The texts that are accepted, and the first refusal of those that aren't. The passes come in this order: tokens, grammar,
-- names and paths, allowance.
use Rattle.std.specs.Prelude.{◌≡◌, ℕ, List, map, Result, Err}
use Rattle.std.specs.Global.{Vec}
use Rattle.source_values.specs.alp_text.declared.lines.Span.{Span}
use Rattle.task_ast.specs.Paths.{CheckedProgram}
use Rattle.task_ast.specs.Tree.{Program}
use Rattle.task_lex.specs.declared.token.Token.{Token}
use Rattle.task_lex.specs.declared.fault.LexFault.{LexFault}
use Rattle.task_lex.specs.declared.fault.LexFault.TheVariants as lex_fault
use Rattle.task_lex.specs.Lex.{lexed, tokens}
use Rattle.task_lex.specs.Faults.{Lexes, line_of}
use Rattle.task_parse.specs.Grammar.{IsProgram}
use Rattle.task_parse.specs.Stops.{StopsAt, token_line}
use Rattle.task_check.specs.declared.fault.CheckFault.{CheckFault}
use Rattle.task_check.specs.declared.fault.CheckFault.TheVariants as check_fault
use Rattle.task_check.specs.Answers.{IsAccepted, IsRefused}
use Rattle.cost_bound.specs.declared.fault.Over.{Over}
use Rattle.cost_bound.specs.declared.allowance.Allow.{Allow}
use Rattle.cost_bound.specs.Allowance.{IsAllowed, IsOver}
use Rattle.source_meaning.specs.declared.fault.SourceFault.{SourceFault}
use Rattle.source_meaning.specs.declared.fault.SourceFault.TheVariants as source_fault

-- the text spells tokens that are this program of the grammar
pub record Parses (text : List ℕ) (tree : Program Span Span Span) : Type 0 where
  pub words : List Token
  pub lexes : lexed text ≡ tokens words
  pub grammar : IsProgram words tree

-- the text parses, and no check refuses its names and paths: this is the source with its names looked up
pub record Checks (text : List ℕ) (program : CheckedProgram) : Type 0 where
  pub tree : Program Span Span Span
  pub parses : Parses text tree
  pub checks : IsAccepted text tree program

-- the lines of the tasks' names in their declarations, from 1
abbrev pub task_lines : List ℕ → CheckedProgram → List ℕ
task_lines text program = map (λ t. line_of text t.name.from) program.tasks

-- the text is accepted as this program: no check refuses it, and it costs no more than it may: this is its allowance
pub record IsAcceptedText (text : List ℕ) (program : CheckedProgram) (allow : Allow) : Type 0 where
  pub checks : Checks text program
  pub allowed : IsAllowed program allow

-- its tokens stop being the beginning of a program at a token on this line
pub record IsNoProgram (text : List ℕ) (line : ℕ) : Type 0 where
  pub words : List Token
  pub lexes : lexed text ≡ tokens words
  pub at : ℕ
  pub stops : StopsAt words at
  pub line_is : line ≡ token_line text words at

-- it parses, and a check refuses it
pub record IsUnchecked (text : List ℕ) (fault : CheckFault) : Type 0 where
  pub tree : Program Span Span Span
  pub parses : Parses text tree
  pub refused : IsRefused text tree fault

-- no check refuses it, and it costs too much
pub record IsTooCostly (text : List ℕ) (over : Over) : Type 0 where
  pub program : CheckedProgram
  pub checks : Checks text program
  pub costs : IsOver program (task_lines text program) over

-- the first pass that refuses a text does so by this fault; nothing is said where memory runs out, which stands alone. No pass says that
-- something isn't compiled yet: it is accepted
abbrev pub IsRefusedText : List ℕ → SourceFault → Type 0
IsRefusedText text (source_fault.Lex fault) = (fault ≡ lex_fault.Memory → ⊥) × (let answer : Result (Vec Token) LexFault = Err fault in Lexes text answer)
IsRefusedText text (source_fault.Syntax line) = IsNoProgram text line
IsRefusedText text (source_fault.Check fault) = (fault ≡ check_fault.Memory → ⊥) × IsUnchecked text fault
IsRefusedText text (source_fault.Over over) = IsTooCostly text over
IsRefusedText text source_fault.Memory = Unit {0}
