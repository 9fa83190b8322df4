-- The answer of the checks behind those of names.
use Rattle.std.proofs.Common.{◌≡◌, ℕ, List, [], ◌∷◌, Option, Some, None, Result, Ok, Err, IfOk, MatchResult, ◌⊎◌, inl, inr, refl, sym, subst, ◌∙◌}
use Rattle.std.specs.Result.{IfErr}
use Rattle.alp_text.specs.declared.lines.Span.{Span}
use Rattle.task_ast.specs.declared.names.FunctionName.{FunctionName}
use Rattle.task_ast.specs.Paths.{CheckedProgram}
use Rattle.task_ast.specs.declared.names.VariableName.{VariableName}
use Rattle.task_ast.specs.declared.names.TaskName.{TaskName}
use Rattle.task_ast.specs.declared.Source.{Source}
use Rattle.task_ast.specs.Tree.{Program}
use Rattle.task_ast.specs.View.{program_of}
use Rattle.task_check.specs.declared.occurrence.Occurrence.{Occurrence}
use Rattle.task_check.specs.declared.fault.CheckFault.{CheckFault}
use Rattle.task_check.specs.declared.fault.CheckFault.TheVariants as fault
use Rattle.task_check.specs.declared.checked.Checked.{Checked}
use Rattle.task_check.specs.declared.walk.Walk.{Walk}
use Rattle.task_check.specs.Occurrences.{program_names}
use Rattle.task_check.specs.LookedUp.{program_back, program_variables, program_calls, program_targets, variables_in, calls_in, targets_in}
use Rattle.task_check.specs.Placed.{IsPlaced}
use Rattle.task_check.specs.Faults.{first_fault, name_fault, use_fault, limit_fault}
use Rattle.task_check.specs.Walks.{IsWalked}
use Rattle.task_check.proofs.Standing.{is_placed}
use Rattle.task_check.specs.Answers.{IsLookedUp, IsNamed, IsAccepted, IsCleanOnPaths, IsRefusedOnPaths, on_paths, at_limits, IsRefusedOrMemory, limits_fault}

-- a refusal of a source whose parts stand where they may
pub placed_refusal : (r : Result Checked CheckFault) (p : CheckedProgram) (P : CheckFault → Type 0) → IsPlaced p
    → IfErr r (λ e. (e ≡ fault.Memory) ⊎ P e) → IfErr r (λ e. (e ≡ fault.Memory) ⊎ (IsPlaced p × P e))
placed_refusal (Ok c) p P placed h = tt
placed_refusal (Err e) p P placed h = elim h [ inl m ↦ inl m | inr x ↦ inr (placed, x) ]

module _ (source : List ℕ) (tree : Program Span Span Span) (names : List Occurrence) (w : Walk) (same : names ≡ program_names source tree)
    (walked : IsWalked source names names w) where
  -- what was built from the names that were walked over
  pub record IsBuilt (checked : CheckedProgram) : Type 0 where
    pub fine : w.wrong_use ≡ None
    pub back : program_back checked ≡ tree
    pub variables : program_variables checked ≡ w.variables.items
    pub calls : program_calls checked ≡ w.calls.items
    pub targets : program_targets checked ≡ w.targets.items

  looked_up : (checked : CheckedProgram) → IsBuilt checked → IsLookedUp source tree checked
  looked_up checked built = record {
    places = built.back;
    variables = subst (λ xs. program_variables checked ≡ variables_in source xs xs) same (built.variables ∙ walked.variables);
    calls = subst (λ xs. program_calls checked ≡ calls_in source xs xs) same (built.calls ∙ walked.calls);
    targets = subst (λ xs. program_targets checked ≡ targets_in source xs xs) same (built.targets ∙ walked.targets);
  }

  named_is : (checked : CheckedProgram) → IsBuilt checked → IsPlaced checked → IsNamed source tree checked
  named_is checked built placed = record {
    names = subst (λ xs. first_fault (name_fault source xs) xs ≡ None) same walked.names;
    uses = subst (λ xs. first_fault (use_fault source xs) xs ≡ None) same (sym walked.wrong_use ∙ built.fine);
    looked_up = looked_up checked built;
    placed = placed;
  }

  limits_are : (r : Option CheckFault) → w.too_many ≡ r → limits_fault source tree ≡ r
  limits_are r e = subst (λ xs. first_fault (limit_fault source) xs ≡ r) same (sym walked.too_many ∙ e)

  pub looked_up_is : (checked : CheckedProgram) → IsBuilt checked → IsLookedUp source (program_back checked) checked
  looked_up_is checked built = subst (λ t. IsLookedUp source t checked) (sym built.back) (looked_up checked built)

  pub limits_back : (checked : CheckedProgram) → program_back checked ≡ tree → w.too_many ≡ limits_fault source (program_back checked)
  limits_back checked back = subst (λ t. w.too_many ≡ limits_fault source t) (sym back) (sym (limits_are w.too_many refl))

  -- what the checks of paths and limits answer
  pub finished : (r : Result Checked CheckFault) (checked : Source VariableName TaskName FunctionName) → IsBuilt (program_of checked)
      → IfOk r (λ c. c.source ≡ checked) → IfOk r (λ c. w.too_many ≡ None)
      → IfErr r (λ e. (e ≡ fault.Memory) ⊎ (IsPlaced (program_of checked)
      × (IsRefusedOnPaths source (program_of checked) e ⊎ (IsCleanOnPaths (program_of checked) × (w.too_many ≡ Some e)))))
      → MatchResult r (λ c. IsAccepted source tree (program_of c.source)) (λ e. IsRefusedOrMemory source tree e)
  finished (Ok c) checked built is none err = record {
    named = named_is (program_of c.source) (subst (λ s. IsBuilt (program_of s)) (sym is) built) (is_placed (program_of c.source) c.placed);
    paths = record { loops = c.loops; assigned = c.assigned; returns = c.returns; transitions = c.transitions };
    limits = limits_are None none;
  }
  finished (Err e) checked built is none err = elim err [
    | inl m ↦ inl m
    | inr p ↦ elim p.1 [
      | inl h ↦ inr (on_paths (program_of checked) (named_is (program_of checked) built p.0) h)
      | inr h ↦ inr (at_limits (program_of checked) (named_is (program_of checked) built p.0) h.0 (limits_are (Some e) h.1))
    ]
  ]
