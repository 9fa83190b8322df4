-- Sums over the shared variables, from what the walks kept.
use Rattle.std.proofs.Common.{◌≡◌, ℕ, ◌+◌, ◌<◌, ◌≤◌, ◌||◌, Bool, false, List, [], ◌∷◌, length, replicate, ap, ◌∙◌, refl, arith, slice_index, slice_index_or}
use Rattle.std.proofs.lemmas.List.{get_or-replicate}
use Rattle.task_ast.specs.declared.Extent.{Extent}
use Rattle.task_ast.specs.declared.Extent.TheVariants.{Scalar, Long, Array}
use Rattle.task_ast.specs.declared.SharedDeclaration.{SharedDeclaration}
use Rattle.cost_bound.specs.Table.{capped}
use Rattle.cost_bound.specs.Summary.{Summary}
use Rattle.cost_bound.specs.Counts.{CheckedBlock, called_stores, block_count, is_store_to, stores_of}
use Rattle.cost_bound.specs.Rooms.{AreCapped, AreMarked}
use Rattle.cost_bound.specs.Allowance.{shared_sum_from, shared_sum, list_part, scalars_of, list_of}

pub same_from : (f g : ℕ → Extent → ℕ) (i : ℕ) (ds : List SharedDeclaration) → i + length ds ≤ 256 → ((k : ℕ) (e : Extent) → k < 256 → f k e ≡ g k e)
    → shared_sum_from f i ds ≡ shared_sum_from g i ds
same_from f g i [] h e = refl
same_from f g i (d ∷ ds) h e =
    let l : i < 256 = omega arith in
    let a : f i d.extent ≡ g i d.extent = e i d.extent l in
    let b : shared_sum_from f (i + 1) ds ≡ shared_sum_from g (i + 1) ds = same_from f g (i + 1) ds (omega arith) e in omega arith

pub capped_from : (f g : ℕ → Extent → ℕ) (i : ℕ) (ds : List SharedDeclaration) → i + length ds ≤ 256
    → ((k : ℕ) (e : Extent) → k < 256 → capped (f k e) ≡ capped (g k e))
    → capped (shared_sum_from f i ds) ≡ capped (shared_sum_from g i ds)
capped_from f g i [] h e = refl
capped_from f g i (d ∷ ds) h e =
    let l : i < 256 = omega arith in
    let a : capped (f i d.extent) ≡ capped (g i d.extent) = e i d.extent l in
    let b : capped (shared_sum_from f (i + 1) ds) ≡ capped (shared_sum_from g (i + 1) ds) = capped_from f g (i + 1) ds (omega arith) e in omega arith

-- a mark that was set from none
pub mark_is : (marks : List Bool) (of : ℕ → Bool) → AreMarked (replicate 256 false) marks of → (k : ℕ) → k < 256 → slice_index_or marks k false ≡ of k
mark_is marks of h k l = h k l ∙ ap (λ b. b || of k) (get_or-replicate 256 k false false l)

pub capped_list_part : (stores of : ℕ) (e : Extent) → capped stores ≡ capped of → capped (list_part stores e) ≡ capped (list_part of e)
capped_list_part stores of (Scalar _) h = refl
capped_list_part stores of (Long _) h = refl
capped_list_part stores of (Array n) h = omega arith

pub list_is : (known : List Summary) (shared : List SharedDeclaration) (stores : List ℕ) (code : CheckedBlock) (scalars entries result : ℕ)
    → length shared ≤ 256 → AreCapped stores (λ i. block_count (called_stores known i) (is_store_to i) code)
    → scalars ≡ scalars_of known shared code → entries ≡ shared_sum (λ i e. list_part (slice_index stores i) e) shared
    → result ≡ capped (scalars + entries) → result ≡ capped (list_of known shared code)
unfolding stores_of
list_is known shared stores code scalars entries result h m a b c =
    let d : capped (shared_sum (λ i e. list_part (slice_index stores i) e) shared) ≡ capped (shared_sum (λ i e. list_part (stores_of known i code) e) shared)
    = capped_from (λ i e. list_part (slice_index stores i) e) (λ i e. list_part (stores_of known i code) e) 0 shared (omega arith)
    (λ k e l. capped_list_part (slice_index stores k) (stores_of known k code) e (m k l)) in
    omega (arith, a, b, c, d)

-- a sum by marks that are known
pub written_sum : (part : Bool → Extent → ℕ) (shared items : List SharedDeclaration) (marks : List Bool) (of : ℕ → Bool) (result : ℕ) → length shared ≤ 256
    → items ≡ shared
    → ((k : ℕ) → k < 256 → slice_index_or marks k false ≡ of k)
    → result ≡ shared_sum (λ k e. part (slice_index_or marks k false) e) items → result ≡ shared_sum (λ k e. part (of k) e) shared
written_sum part shared items marks of result h e m is =
    is ∙ ap (λ ds. shared_sum (λ k e. part (slice_index_or marks k false) e) ds) e
    ∙ same_from (λ k e. part (slice_index_or marks k false) e) (λ k e. part (of k) e) 0 shared (omega arith) (λ k e l. ap (λ b. part b e) (m k l))
