-- What `bounds` makes, whose source keeps its text.
use Rattle.std.proofs.Common.{◌≡◌, ℕ, List, [], ◌∷◌, Result, refl, sym, subst, IfOk, IfErr}
use Rattle.plain_commands.specs.cost_bound.declared.allowance.Allow.{Allow}
use Rattle.plain_commands.specs.source_values.Runs.{CheckedProgram}
use Rattle.plain_commands.specs.source_meaning.Acceptance.{IsAcceptedText}
use Rattle.plain_commands.specs.command_answers.declared.failure.Failure.{Failure}
use Rattle.plain_commands.specs.command_answers.Ending.{well}
use Rattle.plain_commands.specs.command_answers.CommandAnswers.{IsWhole}
use Rattle.plain_commands.specs.command_answers.Outcomes.{FailsBy, FailsWriting, Gains}
use Rattle.plain_commands.specs.command_answers.Outside.{Written, WhereStands}
use Rattle.plain_commands.proofs.command_answers.Interface.{whole_by, fails_by}
use Rattle.memory_map.specs.declared.runtime.Logging.TheVariants.{Redo, Undo}
use Rattle.memory_map.specs.MemoryMap.{MemoryMap}
use Rattle.image_reports.specs.ImageLaw.{ImagesKeepTheLaws, IsLawful}
use Rattle.need_lines.specs.Rows.{NeedRow}
use Rattle.need_lines.specs.Lines.{needs_text}
use Rattle.source_needs.specs.Needs.{AreNeedsOf}
use Rattle.scope_commands.specs.Bounds.{IsScope, Scopes, bounds_promise}

-- the law of images, by the layout of which the lines tell
pub scoped : ImagesKeepTheLaws → (source : List ℕ) (p : CheckedProgram) (allow : Allow) (rows : List NeedRow) (output : List ℕ)
    → IsAcceptedText source p allow
    → AreNeedsOf source p allow rows → output ≡ needs_text rows allow.cycles → IsScope source p allow output
scoped law source p allow rows output accepted needs lines = record {
  rows = rows;
  needs = needs;
  lines = lines;
  lawful = λ image compiled.
      let P : MemoryMap → Type 0 = λ l. IsLawful source p allow l image in
      subst P (needs.only compiled.plans compiled.layout compiled.is_plan compiled.is_layout) (law Redo source p allow image accepted compiled);
  lawful_in_place = λ image compiled.
      let P : MemoryMap → Type 0 = λ l. IsLawful source p allow l image in
      subst P (needs.only_in_place compiled.plans compiled.layout compiled.is_plan compiled.is_layout) (law Undo source p allow image accepted compiled);
}

-- a text as it was given, and as its source keeps it; the source that it is; and its lines
pub record Scoped (source bytes : List ℕ) : Type 0 where
  pub text : List ℕ
  pub program : CheckedProgram
  pub allow : Allow
  pub kept : text ≡ source
  pub accepted : IsAcceptedText source program allow
  pub scope : IsScope text program allow bytes

-- what is made of it
made : (source bytes output : List ℕ) → Scoped source bytes → output ≡ bytes → Scopes source output
made source bytes output s is = record {
  program = s.program;
  allow = s.allow;
  accepted = s.accepted;
  scope = subst (λ x. IsScope source s.program s.allow x) (sym is) (subst (λ x. IsScope x s.program s.allow bytes) s.kept s.scope);
}

pub scope_whole : {A : Type 0} (result : Result A Failure) (a source bytes : List ℕ) (out : Written) → Scoped source bytes
    → IfOk result (λ x. Gains out (λ output. output ≡ bytes))
    → IfOk result (λ x. WhereStands (λ shelf. IsWhole (bounds_promise a) (source ∷ []) well shelf out))
scope_whole result a source bytes out scoped gains =
    whole_by result (λ output. output ≡ bytes) (bounds_promise a) (source ∷ []) well out refl
    (λ output is. (made source bytes output scoped is, refl, refl)) gains

pub scope_fails : {A : Type 0} (result : Result A Failure) (a source bytes : List ℕ) (out : Written) → Scoped source bytes
    → IfErr result (λ e. FailsWriting e out (λ output. output ≡ bytes))
    → IfErr result (λ e. WhereStands (λ shelf. FailsBy e (bounds_promise a) (source ∷ []) shelf out))
scope_fails result a source bytes out scoped fails =
    fails_by result (λ output. output ≡ bytes) (bounds_promise a) (source ∷ []) well out refl
    (λ output is. (made source bytes output scoped is, refl, refl)) fails
