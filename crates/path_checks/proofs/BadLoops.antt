-- What is found is the first bad loop.
use Rattle.std.proofs.Common.{◌≡◌, Bool, true, false, refl, Option, Some, None, if◌then◌else◌, ap, subst, sym, arith, List}
use Rattle.alp_text.specs.declared.lines.Span.{Span}
use Rattle.task_ast.specs.declared.names.FunctionName.{FunctionName}
use Rattle.task_ast.specs.declared.names.VariableName.{VariableName}
use Rattle.task_ast.specs.declared.names.TaskName.{TaskName}
use Rattle.task_ast.specs.declared.Stmt.{Stmt}
use Rattle.task_ast.specs.View.{block_view}
use Rattle.task_ast.specs.Tree as t
use Rattle.task_ast.specs.Paths.{CheckedStatement, CheckedChoice, CheckedBlock}
use Rattle.path_checks.specs.Firsts.{IsFirst}
use Rattle.path_checks.specs.Loops.{is_good_loop, BadLoopInStatement, BadLoopInChoice, BadLoopIn}
use Rattle.path_checks.specs.FirstLoops.{bad_head, bad_in_statement, bad_in_choice, bad_in_block}
use Rattle.path_checks.proofs.FirstPlaces.{first_either}

head_is : (a b c : VariableName) (body : CheckedBlock) → IsFirst (bad_head a b c body) (λ s. (a.span ≡ s) × (is_good_loop a b c body ≡ false))
head_is a b c body = by_test (is_good_loop a b c body)
  where
    by_test : (good : Bool) → IsFirst (if good then None else Some a.span) (λ s. (a.span ≡ s) × (good ≡ false))
    by_test true = λ s h. let no : true ≡ false = h.1 in cc
    by_test false = ((refl, refl), λ s h. let e : a.span ≡ s = h.0 in omega (arith, ap (λ s. s.from) e))

mutual
  statement_is : (s : CheckedStatement) → IsFirst (bad_in_statement s) (BadLoopInStatement s)
  statement_is (t.declare _ _ _) = λ s h. h
  statement_is (t.assign _ _) = λ s h. h
  statement_is (t.store _ _ _) = λ s h. h
  statement_is (t.choose c) = choice_is c
  statement_is (t.loop a _ b _ c body) = first_either _ _ _ _ (head_is a b c body) (block_is body)
  statement_is (t.emit _) = λ s h. h
  statement_is (t.give _ _) = λ s h. h
  statement_is (t.transition _ _) = λ s h. h

  choice_is : (c : CheckedChoice) → IsFirst (bad_in_choice c) (BadLoopInChoice c)
  choice_is t.nothing = λ s h. h
  choice_is (t.otherwise b) = block_is b
  choice_is (t.test _ b more) = first_either _ _ _ _ (block_is b) (choice_is more)

  block_is : (b : CheckedBlock) → IsFirst (bad_in_block b) (BadLoopIn b)
  block_is t.end = λ s h. h
  block_is (t.step statement more) = first_either _ _ _ _ (statement_is statement) (block_is more)

pub found_is : (r : Option Span) (xs ys : List (Stmt VariableName TaskName FunctionName)) → r ≡ bad_in_block (block_view xs) → xs ≡ ys
    → IsFirst r (BadLoopIn (block_view ys))
found_is r xs ys e d = subst (λ zs. IsFirst r (BadLoopIn (block_view zs))) d
    (subst (λ o. IsFirst o (BadLoopIn (block_view xs))) (sym e) (block_is (block_view xs)))
