-- Where the start of an attempt stores.
use Rattle.std.proofs.Common.{◌≡◌, ◌≢◌, ℕ, zero, suc, ◌+◌, ◌*◌, ◌<◌, inl, inr, List, [], ◌∷◌, arith, subst, Bool, true, false}
use Rattle.std.specs.List.{All}
use Rattle.std.proofs.lemmas.List.Elements.{All-head, All-tail, All-weaker}
use Rattle.runtime_code.specs.fram_board.Effects.{Store}
use Rattle.runtime_code.specs.machine_effects.World.{put, fram_after, EachStore}
use Rattle.runtime_code.specs.machine_effects.Machine.{IsPlace}
use Rattle.runtime_code.proofs.machine_effects.Interface.{each_store-append, fram_untouched}
use Rattle.memory_map.specs.declared.words.RuntimeWord.TheVariants.{CurrentTask, ListLength, EmitCount, Version}
use Rattle.memory_map.specs.MemoryMap.{MemoryMap, word_place}
use Rattle.runtime_code.proofs.runtime_effects.Interface.{where_stores}
use Rattle.memory_map.specs.event_places.Places.{count_place}
use Rattle.runtime_code.specs.runtime_effects.Places.{CopyPair}
use Rattle.runtime_code.specs.runtime_effects.Stages.{is_at_end, clearing_if, cleared, counting_effects, copied_in, opening_effects, start_effects}
use Rattle.runtime_code.specs.runtime_effects.Needs.{IsOutOf, KeepsTask, ArePairWords}
use Rattle.runtime_code.proofs.Interface.{all_left, left_from, first_left, count_is_place}
use Rattle.boot_runtime.specs.Laws.{StartStoresInFram}

words_cleared : (P : ℕ → ℕ → Type 0) (n p : ℕ) → ((i : ℕ) → i < n → P (p + 2 * i) 0) → EachStore P (cleared n p)
words_cleared P zero p h = tt
words_cleared P (suc n) p h =
    (subst (λ a. P a 0) (omega arith) (h 0 (omega arith)), words_cleared P n (p + 2) (λ i l. subst (λ a. P a 0) (omega arith) (h (suc i) (omega (arith, l)))))

copies_stored : (P : ℕ → ℕ → Type 0) (xs : List CopyPair) (f : ℕ → ℕ) → All (λ x. (w : ℕ) → P x.copy w) xs → EachStore P (copied_in xs f)
copies_stored P [] f h = tt
copies_stored P (x ∷ xs) f h = (
  All-head (λ x. (w : ℕ) → P x.copy w) x xs h (f x.home),
  copies_stored P xs (put f x.copy (f x.home)) (All-tail (λ x. (w : ℕ) → P x.copy w) x xs h),
)

-- what holds at each version word, at VER with any word, at CLN, EN and EC holds of each store of an opening
opening_stores : (P : ℕ → ℕ → Type 0) (m : MemoryMap) (f : ℕ → ℕ)
    → ((i : ℕ) → i < m.versions.words → P (m.versions.address + 2 * i) 0)
    → ((w : ℕ) → P (word_place m Version) w) → P (word_place m ListLength) 0 → P (word_place m EmitCount) 0 → P count_place 0
    → EachStore P (opening_effects m f)
opening_stores P m f versions version length count events =
    let es = clearing_if m (is_at_end m f) in
    each_store-append P es (counting_effects m (fram_after es f)) (clearing_stores (is_at_end m f))
    (version _, (length, (count, where_stores P m.runtime.events count_place 0 (λ on. events))))
  where
    clearing_stores : (b : Bool) → EachStore P (clearing_if m b)
    clearing_stores true =
        each_store-append P (cleared m.versions.words m.versions.address) (Store (word_place m Version) 0 ∷ [])
        (words_cleared P m.versions.words m.versions.address versions) (version 0, tt)
    clearing_stores false = tt

-- and of each store of a start, where it holds at the copies of the task's private scalars
pub start_stores : (P : ℕ → ℕ → Type 0) (m : MemoryMap) (privates : ℕ → List CopyPair) (f : ℕ → ℕ)
    → ((i : ℕ) → i < m.versions.words → P (m.versions.address + 2 * i) 0)
    → ((w : ℕ) → P (word_place m Version) w) → P (word_place m ListLength) 0 → P (word_place m EmitCount) 0 → P count_place 0
    → All (λ x. (w : ℕ) → P x.copy w) (privates (f (word_place m CurrentTask)))
    → EachStore P (start_effects m privates f)
start_stores P m privates f versions version length count events copies =
    let g = fram_after (opening_effects m f) f in
    each_store-append P (opening_effects m f) (copied_in (privates (f (word_place m CurrentTask))) g)
    (opening_stores P m f versions version length count events)
    (copies_stored P (privates (f (word_place m CurrentTask))) g copies)

pub start_stores_in_fram : StartStoresInFram
start_stores_in_fram m privates f places words =
    let left : (i : ℕ) → i < m.versions.words → IsPlace (m.versions.address + 2 * i) = λ i l.
    let all = all_left (2 * m.versions.words) places.versions (omega arith) in
    first_left places.versions (left_from (2 * i) 2 all (omega arith) (omega (arith, l))) (omega arith) in
    start_stores (λ a w. IsPlace a) m privates f left (λ w. places.words Version) (places.words ListLength) (places.words EmitCount)
    count_is_place (All-weaker ArePairWords (λ x. (w : ℕ) → IsPlace x.copy) (λ x h w. h.copy) (privates (f (word_place m CurrentTask))) words)

-- an address outside others
out_of : (p n a i : ℕ) → IsOutOf p (2 * n) a → i < n → p + 2 * i ≢ a
out_of p n a i (inl l) below e = omega (arith, l, below, e)
out_of p n a i (inr g) below e = omega (arith, g, below, e)

-- the opening leaves CUR
pub task_stays : (m : MemoryMap) (f : ℕ → ℕ) → KeepsTask m → fram_after (opening_effects m f) f (word_place m CurrentTask) ≡ f (word_place m CurrentTask)
task_stays m f keeps =
    let a = word_place m CurrentTask in
    let version : word_place m Version ≢ a = λ e. omega (arith, e) in
    let length : word_place m ListLength ≢ a = λ e. omega (arith, e) in
    let count : word_place m EmitCount ≢ a = λ e. omega (arith, e) in
    fram_untouched (opening_effects m f) a f
    (opening_stores (λ b w. b ≢ a) m f (λ i l. out_of m.versions.address m.versions.words a i keeps.versions l) (λ w. version) length count keeps.event_count)
