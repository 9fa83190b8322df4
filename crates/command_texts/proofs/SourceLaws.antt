-- No text is a source and refused as one.
use Rattle.std.proofs.Common.{◌≡◌, ◌∙◌, Some, None, sym, ap, ℕ, List}
use Rattle.source_meaning.specs.Laws.{OneAnswer}
use Rattle.command_texts.specs.Sources.{source_refusal, IsSourceText, RefusesSource}
use Rattle.command_answers.specs.source_values.Runs.{CheckedProgram}
use Rattle.command_answers.specs.Refusals.{Refusal}

-- no text is a source and refused as one
abbrev pub SourcesExclude : Type 0
SourcesExclude = (text : List ℕ) (p : CheckedProgram) (r : Refusal) → IsSourceText text p → RefusesSource text r → ⊥

pub sources_exclude : OneAnswer → SourcesExclude
sources_exclude law text p r said refused =
    let memory = law text p said.allow refused.cause said.accepted refused.refused in
    let none : Some r ≡ None = sym refused.told ∙ ap (source_refusal text) memory in
    cc
