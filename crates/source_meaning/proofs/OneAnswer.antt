-- No text is accepted and refused, and an accepted one is one program.
use Rattle.std.proofs.Common.{◌≡◌, ◌∙◌, ℕ, List, [], refl, sym, subst}
use Rattle.source_values.specs.alp_text.declared.lines.Span.{Span}
use Rattle.task_ast.specs.Paths.{CheckedProgram}
use Rattle.task_ast.specs.Tree.{Program}
use Rattle.task_lex.specs.declared.token.Token.{Token}
use Rattle.task_lex.specs.declared.fault.Flaw.{Flaw}
use Rattle.task_lex.specs.declared.fault.LexFault.TheVariants as lex_fault
use Rattle.task_lex.specs.Lex.{lexed, tokens, fault}
use Rattle.task_lex.specs.Faults.{FirstFlaw}
use Rattle.task_parse.specs.Grammar.{IsProgram}
use Rattle.task_parse.specs.Stops.{StopsAt}
use Rattle.task_parse.specs.Stops as parse
use Rattle.task_check.specs.declared.fault.CheckFault.{CheckFault}
use Rattle.task_check.specs.Answers.{IsAccepted, IsRefused}
use Rattle.task_check.specs.Laws as check
use Rattle.cost_bound.specs.declared.allowance.Allow.{Allow}
use Rattle.cost_bound.specs.declared.fault.Over.{Over}
use Rattle.cost_bound.specs.Allowance.{IsAllowed}
use Rattle.cost_bound.specs.Laws as cost
use Rattle.source_meaning.specs.declared.fault.SourceFault.TheVariants as source_fault
use Rattle.source_meaning.specs.Acceptance.{Parses, Checks, IsNoProgram, IsUnchecked, IsTooCostly, task_lines}
use Rattle.source_meaning.specs.Laws.{OneAnswer, OneProgram}
use Rattle.source_meaning.proofs.Unique.{same_tokens}

no_flaw : (text : List ℕ) (words : List Token) (kind : Flaw) (line : ℕ) → lexed text ≡ tokens words → FirstFlaw text kind line → ⊥
no_flaw text words kind line lexes f = let e : tokens words ≡ fault kind f.0 = sym lexes ∙ f.1 in cc

same_tree : parse.OneAnswer → (text : List ℕ) (a b : Program Span Span Span) → Parses text a → Parses text b → a ≡ b
same_tree law text a b x y =
    law.one_tree x.words a b x.grammar (subst (λ ts. IsProgram ts b) (same_tokens y.words x.words (sym y.lexes ∙ x.lexes)) y.grammar)

same_program : parse.OneAnswer → check.OneAnswer → (text : List ℕ) (p q : CheckedProgram) → Checks text p → Checks text q → p ≡ q
same_program parses checks text p q x y =
    let tree = same_tree parses text x.tree y.tree x.parses y.parses in
    let other = subst (λ t. IsAccepted text t q) (sym tree) y.checks in
    checks.one_source text x.tree p q x.checks.named.looked_up other.named.looked_up

pub one_program : parse.OneAnswer → check.OneAnswer → ((p : CheckedProgram) (lines : List ℕ) → cost.OneAnswer p lines) → OneProgram
one_program parses checks costs text p q a b x y =
    let same = same_program parses checks text p q x.checks y.checks in
    (same, (costs q []).one_allowance a b (subst (λ r. IsAllowed r a) same x.allowed) y.allowed)

no_stop : parse.OneAnswer → (text : List ℕ) (tree : Program Span Span Span) (line : ℕ) → Parses text tree → IsNoProgram text line → ⊥
no_stop law text tree line x refused =
    law.no_program x.words refused.at tree (subst (λ ts. StopsAt ts refused.at) (same_tokens refused.words x.words (sym refused.lexes ∙ x.lexes))
    refused.stops) x.grammar

no_check : parse.OneAnswer → check.OneAnswer → (text : List ℕ) (p : CheckedProgram) (e : CheckFault) → Checks text p → IsUnchecked text e → ⊥
no_check parses checks text p e x refused =
    checks.no_refusal text x.tree p e x.checks (subst (λ t. IsRefused text t e) (same_tree parses text refused.tree x.tree refused.parses x.parses)
    refused.refused)

no_over : parse.OneAnswer → check.OneAnswer → ((p : CheckedProgram) (lines : List ℕ) → cost.OneAnswer p lines)
    → (text : List ℕ) (p : CheckedProgram) (a : Allow) (e : Over) → Checks text p → IsAllowed p a → IsTooCostly text e → ⊥
no_over parses checks costs text p a e x allowed refused =
    let same = same_program parses checks text p refused.program x refused.checks in
    (costs refused.program (task_lines text refused.program)).never_both a e (subst (λ q. IsAllowed q a) same allowed) refused.costs

pub one_answer : parse.OneAnswer → check.OneAnswer → ((p : CheckedProgram) (lines : List ℕ) → cost.OneAnswer p lines) → OneAnswer
one_answer parses checks costs text p a (source_fault.Lex lex_fault.Memory) x refused = absurd (refused.0 refl)
one_answer parses checks costs text p a (source_fault.Lex (lex_fault.BadByte n)) x refused = absurd (no_flaw text _ _ n x.checks.parses.lexes refused.1)
one_answer parses checks costs text p a (source_fault.Lex (lex_fault.BadNumber n)) x refused = absurd (no_flaw text _ _ n x.checks.parses.lexes refused.1)
one_answer parses checks costs text p a (source_fault.Lex (lex_fault.BadName n)) x refused = absurd (no_flaw text _ _ n x.checks.parses.lexes refused.1)
one_answer parses checks costs text p a (source_fault.Lex (lex_fault.TooDeep n)) x refused = absurd (no_flaw text _ _ n x.checks.parses.lexes refused.1)
one_answer parses checks costs text p a (source_fault.Lex (lex_fault.TooWide n)) x refused = absurd (no_flaw text _ _ n x.checks.parses.lexes refused.1)
one_answer parses checks costs text p a (source_fault.Syntax line) x refused = absurd (no_stop parses text _ line x.checks.parses refused)
one_answer parses checks costs text p a (source_fault.Check e) x refused = absurd (no_check parses checks text p e x.checks refused.1)
one_answer parses checks costs text p a (source_fault.Over e) x refused = absurd (no_over parses checks costs text p a e x.checks x.allowed refused)
one_answer parses checks costs text p a source_fault.Memory x refused = refl
