-- The answers of the checks exclude one another.
use Rattle.std.proofs.Common.{◌≡◌, ◌≤◌, ℕ, List, Option, Some, None, refl, sym, subst, ap, ◌∙◌, arith}
use Rattle.alp_text.specs.declared.lines.Span.{Span}
use Rattle.task_ast.specs.Paths.{CheckedProgram}
use Rattle.task_ast.specs.Tree.{Program}
use Rattle.task_lex.specs.Faults.{line_of}
use Rattle.path_checks.specs.Firsts.{IsFirst}
use Rattle.task_check.specs.declared.fault.CheckFault.{CheckFault}
use Rattle.task_check.specs.declared.fault.CheckFault.TheVariants as fault
use Rattle.task_check.specs.Answers.{IsLookedUp, IsNamed, IsAccepted, IsCleanOnPaths, IsRefusedOnPaths, IsRefused, at_names, at_uses, on_paths, at_limits}
use Rattle.task_check.specs.Laws.{IsAlike, OneAnswer}
use Rattle.task_check.proofs.Fill.{one_program}

one_source : (source : List ℕ) (tree : Program Span Span Span) (c d : CheckedProgram) → IsLookedUp source tree c → IsLookedUp source tree d → c ≡ d
one_source source tree c d h k = one_program c d (h.places ∙ sym k.places) (h.variables ∙ sym k.variables) (h.calls ∙ sym k.calls) (h.targets ∙ sym k.targets)

clash : {A : Type 0} (o : Option A) (e : A) → o ≡ None → o ≡ Some e → ⊥
clash o e h k = grind (arith, h, k)

same : {A : Type 0} (o : Option A) (e d : A) → o ≡ Some e → o ≡ Some d → e ≡ d
same o e d h k = grind (arith, h, k)

alike : (e d : CheckFault) → e ≡ d → IsAlike e d
alike e d h = subst (λ x. IsAlike e x) h (self e)
  where
    self : (e : CheckFault) → IsAlike e e
    self (fault.RepeatedName l n) = refl
    self (fault.UnknownName l n) = refl
    self (fault.WrongUse l n) = refl
    self (fault.BadLength l n) = refl
    self (fault.BadLoop l n) = (refl, refl)
    self (fault.Unassigned l n) = (refl, refl)
    self (fault.NoReturn l n) = (refl, refl)
    self (fault.NoTransition l n) = (refl, refl)
    self (fault.TooMany l) = refl
    self fault.Memory = refl

one_first : (P : Span → Type 0) (n k : Span) → IsFirst (Some n) P → IsFirst (Some k) P → n.from ≡ k.from
one_first P n k h g = let a : n.from ≤ k.from = h.1 k g.0 in let b : k.from ≤ n.from = g.1 n h.0 in omega arith

lines : (source : List ℕ) (l m : ℕ) (n k : Span) → l ≡ line_of source n.from → m ≡ line_of source k.from → n.from ≡ k.from → l ≡ m
lines source l m n k h g e = h ∙ (ap (line_of source) e ∙ sym g)

clean_refused : (source : List ℕ) (c : CheckedProgram) (e : CheckFault) → IsCleanOnPaths c → IsRefusedOnPaths source c e → ⊥
clean_refused source c (fault.BadLoop l n) h k = h.loops n k.0.0
clean_refused source c (fault.Unassigned l n) h k = h.assigned n k.1.0
clean_refused source c (fault.NoReturn l n) h k = h.returns n k.2.0
clean_refused source c (fault.NoTransition l n) h k = h.transitions n k.3.0
clean_refused source c _ h k = k

on_paths_alike : (source : List ℕ) (c : CheckedProgram) (e d : CheckFault) → IsRefusedOnPaths source c e → IsRefusedOnPaths source c d
    → IsAlike e d
on_paths_alike source c (fault.BadLoop l n) (fault.BadLoop m k) h g = let f = one_first _ n k h.0 g.0 in (lines source l m n k h.1 g.1 f, f)
on_paths_alike source c (fault.BadLoop l n) (fault.Unassigned m k) h g = absurd (g.0 n h.0.0)
on_paths_alike source c (fault.BadLoop l n) (fault.NoReturn m k) h g = absurd (g.0 n h.0.0)
on_paths_alike source c (fault.BadLoop l n) (fault.NoTransition m k) h g = absurd (g.0 n h.0.0)
on_paths_alike source c (fault.Unassigned l n) (fault.BadLoop m k) h g = absurd (h.0 k g.0.0)
on_paths_alike source c (fault.Unassigned l n) (fault.Unassigned m k) h g = let f = one_first _ n k h.1 g.1 in (lines source l m n k h.2 g.2 f, f)
on_paths_alike source c (fault.Unassigned l n) (fault.NoReturn m k) h g = absurd (g.1 n h.1.0)
on_paths_alike source c (fault.Unassigned l n) (fault.NoTransition m k) h g = absurd (g.1 n h.1.0)
on_paths_alike source c (fault.NoReturn l n) (fault.BadLoop m k) h g = absurd (h.0 k g.0.0)
on_paths_alike source c (fault.NoReturn l n) (fault.Unassigned m k) h g = absurd (h.1 k g.1.0)
on_paths_alike source c (fault.NoReturn l n) (fault.NoReturn m k) h g = let f = one_first _ n k h.2 g.2 in (lines source l m n k h.3 g.3 f, f)
on_paths_alike source c (fault.NoReturn l n) (fault.NoTransition m k) h g = absurd (g.2 n h.2.0)
on_paths_alike source c (fault.NoTransition l n) (fault.BadLoop m k) h g = absurd (h.0 k g.0.0)
on_paths_alike source c (fault.NoTransition l n) (fault.Unassigned m k) h g = absurd (h.1 k g.1.0)
on_paths_alike source c (fault.NoTransition l n) (fault.NoReturn m k) h g = absurd (h.2 k g.2.0)
on_paths_alike source c (fault.NoTransition l n) (fault.NoTransition m k) h g = let f = one_first _ n k h.3 g.3 in (lines source l m n k h.4 g.4 f, f)
on_paths_alike source c (fault.BadLoop l n) _ h g = absurd g
on_paths_alike source c (fault.Unassigned l n) _ h g = absurd g
on_paths_alike source c (fault.NoReturn l n) _ h g = absurd g
on_paths_alike source c (fault.NoTransition l n) _ h g = absurd g
on_paths_alike source c _ d h g = absurd h

module _ (source : List ℕ) (tree : Program Span Span Span) where
  same_source : (c d : CheckedProgram) → IsNamed source tree c → IsNamed source tree d → c ≡ d
  same_source c d h k = one_source source tree c d h.looked_up k.looked_up

  no_refusal : (c : CheckedProgram) (e : CheckFault) → IsAccepted source tree c → IsRefused source tree e → ⊥
  no_refusal c e h (at_names x) = clash _ e h.named.names x
  no_refusal c e h (at_uses n x) = clash _ e h.named.uses x
  no_refusal c e h (on_paths d n x) = clean_refused source d e (subst IsCleanOnPaths (same_source c d h.named n) h.paths) x
  no_refusal c e h (at_limits d n p x) = clash _ e h.limits x

  one_refusal : (e d : CheckFault) → IsRefused source tree e → IsRefused source tree d → IsAlike e d
  one_refusal e d (at_names x) (at_names y) = alike e d (same _ e d x y)
  one_refusal e d (at_names x) (at_uses n y) = absurd (clash _ e n x)
  one_refusal e d (at_names x) (on_paths c n y) = absurd (clash _ e n.names x)
  one_refusal e d (at_names x) (at_limits c n p y) = absurd (clash _ e n.names x)
  one_refusal e d (at_uses m x) (at_names y) = absurd (clash _ d m y)
  one_refusal e d (at_uses m x) (at_uses n y) = alike e d (same _ e d x y)
  one_refusal e d (at_uses m x) (on_paths c n y) = absurd (clash _ e n.uses x)
  one_refusal e d (at_uses m x) (at_limits c n p y) = absurd (clash _ e n.uses x)
  one_refusal e d (on_paths b m x) (at_names y) = absurd (clash _ d m.names y)
  one_refusal e d (on_paths b m x) (at_uses n y) = absurd (clash _ d m.uses y)
  one_refusal e d (on_paths b m x) (on_paths c n y) = on_paths_alike source c e d (subst (λ z. IsRefusedOnPaths source z e) (same_source b c m n) x) y
  one_refusal e d (on_paths b m x) (at_limits c n p y) = absurd (clean_refused source b e (subst IsCleanOnPaths (same_source c b n m) p) x)
  one_refusal e d (at_limits b m p x) (at_names y) = absurd (clash _ d m.names y)
  one_refusal e d (at_limits b m p x) (at_uses n y) = absurd (clash _ d m.uses y)
  one_refusal e d (at_limits b m p x) (on_paths c n y) = absurd (clean_refused source c d (subst IsCleanOnPaths (same_source b c m n) p) y)
  one_refusal e d (at_limits b m p x) (at_limits c n q y) = alike e d (same _ e d x y)

pub one_answer : OneAnswer
one_answer = record { one_source = one_source; no_refusal = no_refusal; one_refusal = one_refusal }
