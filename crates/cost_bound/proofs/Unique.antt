-- One answer, and the room of what is allowed.
use Rattle.std.proofs.Common.{◌≡◌, ℕ, suc, ◌+◌, ◌*◌, ◌<◌, ◌≤◌, Bool, true, false, List, [], ◌∷◌, length, get_or, take, ap, sym, subst, ◌∙◌, arith, inl, inr}
use Rattle.std.specs.Prelude.{All, slice_index}
use Rattle.std.proofs.lemmas.Option.{get_or_from_slice_get, slice_get_within}
use Rattle.std.proofs.lemmas.List.{get_or-take, length-take}
use Rattle.std.proofs.lemmas.Bool.{cases_lt}
use Rattle.task_ast.specs.declared.Extent.{Extent}
use Rattle.task_ast.specs.declared.Extent.TheVariants.{Scalar, Long, Array}
use Rattle.task_ast.specs.declared.SharedDeclaration.{SharedDeclaration}
use Rattle.cost_bound.specs.declared.allowance.Allow.{Allow}
use Rattle.cost_bound.specs.declared.fault.Over.{Over}
use Rattle.cost_bound.specs.declared.fault.Over.TheVariants.{TooManyEmits, BoundTooLarge, TooLarge, StackTooLarge}
use Rattle.cost_bound.specs.Summary.{Summary}
use Rattle.cost_bound.specs.Summaries.{summaries}
use Rattle.cost_bound.specs.Table.{capped}
use Rattle.cost_bound.specs.Counts.{emits_of}
use Rattle.cost_bound.specs.Allowance.{CheckedProgram, CheckedTask, FewEmits, IsFirstOver, IsAllowed, IsOver, greatest, shared_sum_from, version_part}
use Rattle.cost_bound.specs.Allowance.{place_part, is_written, versions_of, places_of}
use Rattle.cost_bound.specs.Laws.{OneAnswer, IsSmall}

small_emits : (known : List Summary) (ts : List CheckedTask) → All (FewEmits known) ts → greatest (emits_of known) ts ≤ 256
small_emits known [] all = omega arith
small_emits known (t ∷ ts) all =
    let here : emits_of known t.body ≤ 256 = all 0 t (omega arith) in
    let more : greatest (emits_of known) ts ≤ 256 = small_emits known ts (λ k d l. all (suc k) d (omega arith)) in omega arith

part_small : (written : Bool) (e : Extent) → 3 * version_part written e ≤ place_part written e
part_small written (Scalar _) = omega arith
part_small written (Long _) = omega arith
part_small true (Array n) = omega arith
part_small false (Array n) = omega arith

versions_small : (written : ℕ → Bool) (i : ℕ) (ds : List SharedDeclaration)
    → 3 * shared_sum_from (λ k e. version_part (written k) e) i ds ≤ shared_sum_from (λ k e. place_part (written k) e) i ds
versions_small written i [] = omega arith
versions_small written i (d ∷ ds) =
    let a : 3 * version_part (written i) d.extent ≤ place_part (written i) d.extent = part_small (written i) d.extent in
    let b : 3 * shared_sum_from (λ k e. version_part (written k) e) (i + 1) ds ≤ shared_sum_from (λ k e. place_part (written k) e) (i + 1) ds =
    versions_small written (i + 1) ds in
    omega arith

pub is_small : (p : CheckedProgram) (allow : Allow) → IsAllowed p allow → IsSmall allow
is_small p allow h =
    let e : greatest (emits_of (summaries p)) p.tasks ≤ 256 = small_emits (summaries p) p.tasks h.few_emits in
    let v : 3 * versions_of p ≤ places_of p = versions_small (is_written (summaries p) p.tasks) 0 p.shared in
    record {
      emits = omega arith;
      all = omega arith;
      words = omega arith;
      cycles = omega arith;
    }

module _ (known : List Summary) where
  too_many : (t u : CheckedTask) → t ≡ u → 256 < emits_of known t.body → FewEmits known u → ⊥
  too_many t u e over few = let h : emits_of known t.body ≤ 256 = subst (FewEmits known) (sym e) few in omega arith

  none_over : (ts : List CheckedTask) (n : ℕ) → All (FewEmits known) ts → IsFirstOver known ts n → ⊥
  none_over ts n all f =
      too_many f.task (get_or ts n f.task) (sym (get_or_from_slice_get ts n f.task f.task f.at)) f.over (all n f.task (slice_get_within ts n f.task f.at))

  not_before : (ts : List CheckedTask) (m n : ℕ) → IsFirstOver known ts m → IsFirstOver known ts n → m < n → ⊥
  not_before ts m n f g lt =
      let inside : m < length ts = slice_get_within ts m f.task f.at in
      let front : m < length (take n ts) = omega (arith, length-take n ts) in
      too_many f.task (get_or (take n ts) m f.task) (sym (get_or-take n ts m f.task lt ∙ get_or_from_slice_get ts m f.task f.task f.at)) f.over
      (g.first m f.task front)

  one_first : (ts : List CheckedTask) (m n : ℕ) → IsFirstOver known ts m → IsFirstOver known ts n → m ≡ n
  one_first ts m n f g = elim (cases_lt m n) [
    | inl lt ↦ absurd (not_before ts m n f g lt)
    | inr ge ↦ (elim (cases_lt n m) [ inl lt ↦ absurd (not_before ts n m g f lt) | inr le ↦ omega arith ])
  ]

  one_task : (ts : List CheckedTask) (m n : ℕ) (f : IsFirstOver known ts m) (g : IsFirstOver known ts n) → m ≡ n → f.task ≡ g.task
  one_task ts m n f g e = sym (get_or_from_slice_get ts m f.task f.task f.at) ∙ ap (λ k. get_or ts k f.task) e
      ∙ get_or_from_slice_get ts n g.task f.task g.at

make : ℕ → ℕ → ℕ → ℕ → ℕ → Allow
make c w l e v = record { cycles = c; words = w; list = l; emits = e; versions = v }

same : (c w l e v c' w' l' e' v' : ℕ) → c ≡ c' → w ≡ w' → l ≡ l' → e ≡ e' → v ≡ v' → make c w l e v ≡ make c' w' l' e' v'
same c w l e v c' w' l' e' v' x y z s t = cc

one_allowance : (p : CheckedProgram) (a b : Allow) → IsAllowed p a → IsAllowed p b → a ≡ b
unfolding make
one_allowance p a b h k = same a.cycles a.words a.list a.emits a.versions b.cycles b.words b.list b.emits b.versions
    (h.cycles ∙ sym k.cycles) (h.words ∙ sym k.words) (h.list ∙ sym k.list) (h.emits ∙ sym k.emits) (h.versions ∙ sym k.versions)

one_refusal : (p : CheckedProgram) (lines : List ℕ) (a b : Over) → IsOver p lines a → IsOver p lines b → a ≡ b
one_refusal p lines (TooManyEmits l n c) (TooManyEmits l' n' c') h k =
    let e : h.number ≡ k.number = one_first (summaries p) p.tasks h.number k.number h.first k.first in
    let t : h.first.task ≡ k.first.task = one_task (summaries p) p.tasks h.number k.number h.first k.first e in
    let x : l ≡ l' = h.line_is ∙ ap (λ i. slice_index lines i) e ∙ sym k.line_is in
    let y : n ≡ n' = h.name_is ∙ ap (λ u. u.name) t ∙ sym k.name_is in
    let z : c ≡ c' = h.count_is ∙ ap (λ u. capped (emits_of (summaries p) u.body)) t ∙ sym k.count_is in cc
one_refusal p lines (TooManyEmits _ _ _) (BoundTooLarge _) h k = absurd (none_over (summaries p) p.tasks h.number k.0 h.first)
one_refusal p lines (TooManyEmits _ _ _) (TooLarge _) h k = absurd (none_over (summaries p) p.tasks h.number k.0 h.first)
one_refusal p lines (TooManyEmits _ _ _) (StackTooLarge _) h k = absurd (none_over (summaries p) p.tasks h.number k.0 h.first)
one_refusal p lines (BoundTooLarge _) (TooManyEmits _ _ _) h k = absurd (none_over (summaries p) p.tasks k.number h.0 k.first)
one_refusal p lines (BoundTooLarge m) (BoundTooLarge n) h k = let e : m ≡ n = omega arith in ap BoundTooLarge e
one_refusal p lines (BoundTooLarge _) (TooLarge _) h k = absurd (omega arith)
one_refusal p lines (BoundTooLarge _) (StackTooLarge _) h k = absurd (omega arith)
one_refusal p lines (TooLarge _) (TooManyEmits _ _ _) h k = absurd (none_over (summaries p) p.tasks k.number h.0 k.first)
one_refusal p lines (TooLarge _) (BoundTooLarge _) h k = absurd (omega arith)
one_refusal p lines (TooLarge m) (TooLarge n) h k = let e : m ≡ n = omega arith in ap TooLarge e
one_refusal p lines (TooLarge _) (StackTooLarge _) h k = absurd (omega arith)
one_refusal p lines (StackTooLarge _) (TooManyEmits _ _ _) h k = absurd (none_over (summaries p) p.tasks k.number h.0 k.first)
one_refusal p lines (StackTooLarge _) (BoundTooLarge _) h k = absurd (omega arith)
one_refusal p lines (StackTooLarge _) (TooLarge _) h k = absurd (omega arith)
one_refusal p lines (StackTooLarge m) (StackTooLarge n) h k = let e : m ≡ n = omega arith in ap StackTooLarge e

never_both : (p : CheckedProgram) (lines : List ℕ) (a : Allow) (b : Over) → IsAllowed p a → IsOver p lines b → ⊥
never_both p lines a (TooManyEmits _ _ _) h k = none_over (summaries p) p.tasks k.number h.few_emits k.first
never_both p lines a (BoundTooLarge _) h k = omega arith
never_both p lines a (TooLarge _) h k = omega arith
never_both p lines a (StackTooLarge _) h k = omega arith

pub one_answer_of : (p : CheckedProgram) (lines : List ℕ) → OneAnswer p lines
one_answer_of p lines = record { one_allowance = one_allowance p; one_refusal = one_refusal p lines; never_both = never_both p lines }
