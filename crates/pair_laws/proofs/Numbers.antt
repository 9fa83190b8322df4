-- 16-bit numbers and the places that they are of.
use Rattle.std.proofs.Common.{◌≡◌, ◌<◌, ◌≤◌, ◌+◌, ◌-◌, ◌%◌, ℕ, arith, refl, Bool, true, nat_lt, ◌&&◌, ◌⊎◌, inl, inr}
use Rattle.std.proofs.lemmas.Bool.{and_parts, ltb-true}
use Rattle.pair_run.specs.Pair.{most_words}
use Rattle.pair_laws.specs.Numbers.{word_number, is_above, AboveIsGreater, IsAboveWronglyBehind, NumbersTellPlaces}

-- the difference d of an acknowledgement and a number, where the number is a place so far
greater : (a place number d : ℕ) → place ≤ most_words → number ≡ place % 0x10000 → d ≡ (a + 0x10000 - number) % 0x10000 → 0 < d → d < 0x8000 → place < a
greater a place number d few is e low high = omega arith

pub above_is_greater : AboveIsGreater
above_is_greater a place few above =
    let d = (a + 0x10000 - word_number place) % 0x10000 in
    let parts = and_parts (nat_lt 0 d) (nat_lt d 0x8000) above in
    greater a place (word_number place) d few refl refl (ltb-true 0 d parts.0) (ltb-true d 0x8000 parts.1)

pub is_above_wrongly_behind : IsAboveWronglyBehind
is_above_wrongly_behind = refl

pub numbers_tell_places : NumbersTellPlaces
numbers_tell_places i j low high e = omega arith
