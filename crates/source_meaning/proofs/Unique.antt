-- An accepted text is one program with one allowance.
use Rattle.std.proofs.Common.{◌≡◌, ℕ, List, [], sym, subst, ◌∙◌}
use Rattle.source_values.specs.alp_text.declared.lines.Span.{Span}
use Rattle.task_ast.specs.Paths.{CheckedProgram}
use Rattle.task_ast.specs.Tree.{Program}
use Rattle.task_lex.specs.declared.token.Token.{Token}
use Rattle.task_lex.specs.Lex.{lexed, tokens}
use Rattle.task_parse.specs.Grammar.{IsProgram}
use Rattle.task_check.specs.Answers.{IsNamed, IsAccepted}
use Rattle.task_check.proofs.Interface.{one_program as one_source}
use Rattle.cost_bound.specs.declared.allowance.Allow.{Allow}
use Rattle.cost_bound.specs.Allowance.{IsAllowed}
use Rattle.cost_bound.specs.Laws.{OneAnswer}
use Rattle.source_meaning.specs.Acceptance.{Parses, Checks, IsAcceptedText}

pub same_tokens : (a b : List Token) → tokens a ≡ tokens b → a ≡ b
same_tokens a b h = cc

pub one_tree : (text : List ℕ) (words : List Token) (tree : Program Span Span Span) → lexed text ≡ tokens words
    → ((other : Program Span Span Span) → IsProgram words other → other ≡ tree)
    → (other : Program Span Span Span) → Parses text other → other ≡ tree
one_tree text words tree lexes only other x =
    only other (subst (λ ts. IsProgram ts other) (same_tokens x.words words (sym x.lexes ∙ lexes)) x.grammar)

named_once : (text : List ℕ) (tree : Program Span Span Span) (p q : CheckedProgram) → IsNamed text tree p → IsNamed text tree q → p ≡ q
named_once text tree p q x y =
    one_source p q (x.looked_up.places ∙ sym y.looked_up.places) (x.looked_up.variables ∙ sym y.looked_up.variables)
    (x.looked_up.calls ∙ sym y.looked_up.calls) (x.looked_up.targets ∙ sym y.looked_up.targets)

pub one_checked : (text : List ℕ) (tree : Program Span Span Span) (p : CheckedProgram)
    → ((other : Program Span Span Span) → Parses text other → other ≡ tree) → IsAccepted text tree p
    → (other : CheckedProgram) → Checks text other → other ≡ p
one_checked text tree p only accepted other x =
    let on = subst (λ t. IsAccepted text t other) (only x.tree x.parses) x.checks in
    named_once text tree other p on.named accepted.named

pub one_program : (text : List ℕ) (p : CheckedProgram) (a : Allow)
    → ((other : CheckedProgram) → Checks text other → other ≡ p) → IsAllowed p a → OneAnswer p []
    → (other : CheckedProgram) (b : Allow) → IsAcceptedText text other b → (other ≡ p) × (b ≡ a)
one_program text p a only allowed one other b x =
    let same = only other x.checks in
    (same, one.one_allowance b a (subst (λ r. IsAllowed r b) same x.allowed) allowed)
