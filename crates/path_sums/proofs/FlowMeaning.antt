-- Whether some path goes on is a sum over paths.
use Rattle.std.proofs.Common.{◌≡◌, ◌==◌, ◌-◌, Bool, true, false, ◌&&◌, ◌||◌, List, refl, ap, ap₂, sym, ◌∙◌, if◌then◌else◌, Some, None, [], ◌∷◌, length, map}
use Rattle.std.proofs.Common.{subst}
use Rattle.std.proofs.lemmas.List.{length-map}
use Rattle.std.specs.Prelude.{IsTrue, ◌↔◌}
use Rattle.task_ast.specs.Tree as t
use Rattle.task_ast.specs.Calls.{BlockCallsBelow}
use Rattle.task_ast.specs.Paths.{CheckedExpression, CheckedValues, CheckedStatement, CheckedChoice, CheckedBlock, CheckedFunction}
use Rattle.task_ast.specs.Paths.{Access, End, goes_on, goes_to, returns, BlockPath}
use Rattle.path_sums.specs.Sums.{Algebra, expression_sum, values_sum, statement_sum, choice_sum, block_sum}
use Rattle.path_sums.specs.Reaches.{at_once, ReachesEnd, statement_falls_through, choice_falls_through, block_falls_through}
use Rattle.path_sums.proofs.Taut.{agree}
use Rattle.path_sums.proofs.Joins.{Lawful, path_sum, Joins, joins_block}
use Rattle.path_sums.proofs.Calls.{at_once_known}
use Rattle.path_sums.proofs.Bits.{found, holds}

-- whether some path goes on
abbrev flow : Algebra Bool
flow = record { unit = true; gone = false; one = λ _. true; seq = λ a b. a && b; join = λ a b. a || b; called = λ _. true }

flow_law : Lawful flow
flow_law = record {
  unit_l = λ s. refl;
  unit_r = agree 1 (λ s. s && true) (λ s. s) refl;
  gone_l = λ s. refl;
  assoc = agree 3 (λ r s t. (r && s) && t) (λ r s t. r && (s && t)) refl;
  distr_l = agree 3 (λ r s t. r && (s || t)) (λ r s t. (r && s) || (r && t)) refl;
  distr_r = agree 3 (λ r s t. (r || s) && t) (λ r s t. (r && t) || (s && t)) refl;
  idem = agree 1 (λ s. s || s) (λ s. s) refl;
  join_assoc = agree 3 (λ r s t. (r || s) || t) (λ r s t. r || (s || t)) refl;
  join_comm = agree 2 (λ r s. r || s) (λ r s. s || r) refl;
  cube = agree 1 (λ s. s && (s && s)) (λ s. s && s) refl;
  called_gone = refl;
  called_seen = λ x s h. refl;
  called_unseen = λ x s h. refl;
  called_join = λ r s. refl;
}

mutual
  -- an expression goes on
  expression_goes : (e : CheckedExpression) → expression_sum [] flow e ≡ true
  expression_goes (t.number _) = refl
  expression_goes (t.long_number _) = refl
  expression_goes (t.name _) = refl
  expression_goes (t.element _ index) = ap (λ a. a && true) (expression_goes index)
  expression_goes t.sense = refl
  expression_goes t.next_event = refl
  expression_goes (t.call _ values) = ap (λ a. a && true) (values_go values)
  expression_goes (t.unary _ a) = expression_goes a
  expression_goes (t.binary _ a b) = ap₂ (λ a b. a && b) (expression_goes a) (expression_goes b)
  expression_goes (t.shift _ a _) = expression_goes a
  expression_goes (t.short_circuit _ a b) = ap₂ (λ a b. a || (a && b)) (expression_goes a) (expression_goes b)

  values_go : (values : CheckedValues) → values_sum [] flow values ≡ true
  values_go t.no_value = refl
  values_go (t.value e more) = ap₂ (λ a b. a && b) (expression_goes e) (values_go more)

turns_go : (none one body : Bool) → (if none then true else (if one then (body && true) else ((body && true) && (body && true)))) ≡ (none || body)
turns_go = agree 3 (λ none one body. if none then true else (if one then (body && true) else ((body && true) && (body && true))))
    (λ none one body. none || body) refl

mutual
  statement_is : (s : CheckedStatement) → statement_sum [] flow s ≡ statement_falls_through s
  statement_is (t.declare _ _ None) = refl
  statement_is (t.declare _ _ (Some value)) = ap (λ a. a && true) (expression_goes value)
  statement_is (t.assign _ value) = ap (λ a. a && true) (expression_goes value)
  statement_is (t.store _ index value) = ap₂ (λ a b. a && (b && true)) (expression_goes index) (expression_goes value)
  statement_is (t.choose c) = choice_is c
  statement_is (t.loop _ from _ below _ body) =
      turns_go (below - from == 0) (below - from == 1) (block_sum [] flow body) ∙ ap (λ b. below - from == 0 || b) (block_is body)
  statement_is (t.emit value) = expression_goes value
  statement_is (t.give _ value) = ap (λ a. a && false) (expression_goes value)
  statement_is (t.transition _ _) = refl

  choice_is : (c : CheckedChoice) → choice_sum [] flow c ≡ choice_falls_through c
  choice_is t.nothing = refl
  choice_is (t.otherwise b) = block_is b
  choice_is (t.test e b more) =
      ap (λ a. a && (block_sum [] flow b || choice_sum [] flow more)) (expression_goes e) ∙ ap₂ (λ a b. a || b) (block_is b) (choice_is more)

  block_is : (b : CheckedBlock) → block_sum [] flow b ≡ block_falls_through b
  block_is t.end = refl
  block_is (t.step s more) = ap₂ (λ a b. a && b) (statement_is s) (block_is more)

abbrev goes : End → Bool
goes goes_on = true
goes (goes_to _) = false
goes returns = false

path_goes : (xs : List Access) (end : End) → path_sum flow xs end ≡ goes end
path_goes [] goes_on = refl
path_goes [] (goes_to _) = refl
path_goes [] returns = refl
path_goes (x ∷ xs) end = path_goes xs end

module _ (fs : List CheckedFunction) (b : CheckedBlock) (calls : BlockCallsBelow (length fs) b) where
  in_all : BlockCallsBelow (length (map at_once fs)) b
  in_all = subst (λ n. BlockCallsBelow n b) (sym (length-map fs at_once)) calls

  sum : Joins flow (BlockPath (map at_once fs) b) (block_sum [] flow b)
  sum = joins_block flow flow_law (map at_once fs) [] (at_once_known flow flow_law (λ s. refl) fs) b in_all

  at_end : (xs : List Access) (end : End) → BlockPath (map at_once fs) b xs end → goes end ≡ true → ReachesEnd fs b
  at_end xs goes_on h is = (xs, h)
  at_end xs (goes_to _) h is = cc
  at_end xs returns h is = cc

  some_goes : block_sum [] flow b ≡ true → ReachesEnd fs b
  some_goes h = let f = found flow (λ s. s) (λ s t. refl) (BlockPath (map at_once fs) b) _ sum h in at_end f.0 f.1 f.2 (sym (path_goes f.0 f.1) ∙ f.3)

  goes_some : ReachesEnd fs b → block_sum [] flow b ≡ true
  goes_some f = holds flow (λ s. s) (λ s t. refl) (BlockPath (map at_once fs) b) _ sum f.0 goes_on f.1 (path_goes f.0 goes_on)

  pub reaches : (r : Bool) → r ≡ block_falls_through b → IsTrue r ↔ ReachesEnd fs b
  reaches r e = (λ h. some_goes (block_is b ∙ sym e ∙ h), λ f. e ∙ sym (block_is b) ∙ goes_some f)
