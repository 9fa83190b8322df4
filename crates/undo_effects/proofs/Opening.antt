-- Where an attempt's opening stores.
use Rattle.std.proofs.Common.{ℕ, zero, suc, ◌+◌, ◌*◌, ◌<◌, [], ◌∷◌, Bool, true, false, subst, arith}
use Rattle.runtime_effects.specs.fram_board.Effects.{Store}
use Rattle.runtime_effects.specs.machine_effects.World.{fram_after, EachStore}
use Rattle.runtime_effects.proofs.machine_effects.Interface.{each_store-append}
use Rattle.runtime_effects.specs.memory_map.event_places.Places.{count_place}
use Rattle.runtime_effects.specs.memory_map.declared.words.RuntimeWord.TheVariants.{EmitCount, Version}
use Rattle.runtime_effects.specs.memory_map.MemoryMap.{MemoryMap, word_place}
use Rattle.runtime_effects.specs.Stages.{is_at_end, clearing_if, cleared}
use Rattle.runtime_effects.proofs.Interface.{where_stores}
use Rattle.undo_effects.specs.Stages.{numbering_effects, undo_opening}

words_cleared : (P : ℕ → Type 0) (n p : ℕ) → ((i : ℕ) → i < n → P (p + 2 * i)) → EachStore (λ a w. P a) (cleared n p)
words_cleared P zero p h = tt
words_cleared P (suc n) p h =
    (subst P (omega arith) (h 0 (omega arith)), words_cleared P n (p + 2) (λ i l. subst P (omega arith) (h (suc i) (omega (arith, l)))))

-- what holds at each version word, at VER, EN and EC holds of each of its stores
pub opening_stores : (P : ℕ → Type 0) (m : MemoryMap) (f : ℕ → ℕ)
    → ((i : ℕ) → i < m.versions.words → P (m.versions.address + 2 * i))
    → P (word_place m Version) → P (word_place m EmitCount) → P count_place → EachStore (λ a w. P a) (undo_opening m f)
opening_stores P m f versions version count events =
    let es = clearing_if m (is_at_end m f) in
    each_store-append (λ a w. P a) es (numbering_effects m (fram_after es f)) (clearing_stores (is_at_end m f))
    (version, (count, where_stores (λ a w. P a) m.runtime.events count_place 0 (λ on. events)))
  where
    clearing_stores : (b : Bool) → EachStore (λ a w. P a) (clearing_if m b)
    clearing_stores true =
        each_store-append (λ a w. P a) (cleared m.versions.words m.versions.address) (Store (word_place m Version) 0 ∷ [])
        (words_cleared P m.versions.words m.versions.address versions) (version, tt)
    clearing_stores false = tt
