-- Stretches that have an address, and stretches that don't.
use Rattle.compiled_states.proofs.Names.{◌≡◌, ◌⊎◌, inl, inr, ℕ, ◌<◌, ◌≤◌, true, false, List, [], ◌∷◌, refl, arith, nat_le, nat_lt, leb-true, ltb-true, le-leb}
use Rattle.compiled_states.proofs.Names.{lt-ltb, le-ltb, and_parts, and_from, and_right, or_from, or_left, or_right, cases_lt, holds, is_held}
use Rattle.fram_state.specs.declared.stretch.Stretch.{Stretch}

pub within : (s : Stretch) (a : ℕ) → s.from ≤ a → a < s.to → holds s a ≡ true
within s a from to = and_from (nat_le s.from a) (nat_lt a s.to) (le-leb s.from a from) (lt-ltb a s.to to)

pub past : (s : Stretch) (a : ℕ) → s.to ≤ a → holds s a ≡ false
past s a h = and_right (nat_le s.from a) (nat_lt a s.to) (le-ltb a s.to h)

pub bounds_of : (s : Stretch) (a : ℕ) → holds s a ≡ true → (s.from ≤ a) × (a < s.to)
bounds_of s a h =
    let both = and_parts (nat_le s.from a) (nat_lt a s.to) h in
    (leb-true s.from a both.0, ltb-true a s.to both.1)

-- all of these end in front of an address
abbrev pub AllEndBefore : ℕ → List Stretch → Type 0
AllEndBefore a [] = Unit {0}
AllEndBefore a (s ∷ ss) = (s.to ≤ a) × AllEndBefore a ss

pub none_held : (ss : List Stretch) (a : ℕ) → AllEndBefore a ss → is_held ss a ≡ false
none_held [] a h = refl
none_held (s ∷ ss) a h = or_from (holds s a) (is_held ss a) (past s a h.0) (none_held ss a h.1)

-- these leave nothing out between two addresses
abbrev pub LeaveNothing : ℕ → List Stretch → ℕ → Type 0
LeaveNothing from [] to = to ≤ from
LeaveNothing from (s ∷ ss) to = (s.from ≤ from) × LeaveNothing s.to ss to

pub all_held : (ss : List Stretch) (from to a : ℕ) → LeaveNothing from ss to → from ≤ a → a < to → is_held ss a ≡ true
all_held [] from to a h low high = absurd (omega (arith, h, low, high))
all_held (s ∷ ss) from to a h low high = by_order (cases_lt a s.to) (λ ge. all_held ss s.to to a h.1 ge high)
  where
    by_order : (a < s.to) ⊎ (s.to ≤ a) → (s.to ≤ a → is_held ss a ≡ true) → is_held (s ∷ ss) a ≡ true
    by_order (inl lt) more = let begin = h.0 in or_left (holds s a) (is_held ss a) (within s a (omega (arith, begin, low)) lt)
    by_order (inr ge) more = or_right (holds s a) (is_held ss a) (more ge)
