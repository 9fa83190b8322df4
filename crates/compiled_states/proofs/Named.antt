-- What the map of a source names: the words of the runtime, the buffers, the variables and the copies, which are all in front of the code; and the
-- ring, where the source takes events.
use Rattle.compiled_states.proofs.Names.{◌≡◌, ◌⊎◌, inl, inr, ℕ, zero, suc, ◌+◌, ◌*◌, ◌%◌, ◌<◌, ◌≤◌, ◌||◌, Bool, true, false, List, [], ◌∷◌, length, Some, None}
use Rattle.compiled_states.proofs.Names.{map, refl, sym, ap, arith, slice_get, false≢true, cases_lt, or_cases, or_from, or_left, or_right}
use Rattle.compiled_states.proofs.Names.{SharedDeclaration, Allow, CheckedProgram, TaskPlanValue, VariablePlace, MemoryMap, end_of}
use Rattle.compiled_states.proofs.Names.{home_region, AreInOrder, AreApart, apart_of, in_order_end, IsSharedWord, program_places, shared_words_are_of_variables}
use Rattle.compiled_states.proofs.Names.{IsFram, length_of, map_words, map_list, map_buffer, value_type_of, variable_of, variables_of, map_of}
use Rattle.compiled_states.proofs.Names.{ArePlacesOf, MapValue, word_count, holds, is_held, place_words, list_words, variable_words, runtime_words, buffers}
use Rattle.compiled_states.proofs.Names.{is_in_ring, is_shared, is_named, map_ring}
use Rattle.std.proofs.Common.{subst}
use Rattle.fram_state.specs.Named.{copies_words}
use Rattle.memory_map.specs.declared.runtime.Logging.TheVariants.{Redo}
use Rattle.source_maps.specs.Maps.{copied_words}
use Rattle.layout_facts.specs.Facts.{HasLayout}
use Rattle.image_reports.proofs.Interface.{words_are}
use Rattle.compiled_states.proofs.Full.{IsFull, layout_is_full}
use Rattle.compiled_states.proofs.Held.{within, bounds_of, none_held, all_held}

-- ---- the variables

-- a word of a variable lies where the variables are
shared_between : (text : List ℕ) (ds : List SharedDeclaration) (places : List VariablePlace) (from end a : ℕ) → ArePlacesOf ds places
    → AreInOrder from (map home_region places) end → is_shared (variables_of text ds places) a ≡ true → (from ≤ a) × (a < end)
shared_between text [] [] from end a kinds order h = absurd (false≢true h)
shared_between text [] (place ∷ places) from end a kinds order h = absurd kinds
shared_between text (d ∷ ds) [] from end a kinds order h = absurd kinds
shared_between text (d ∷ ds) (place ∷ places) from end a kinds order h =
    by_first (or_cases (holds (variable_words (variable_of text d place)) a) (is_shared (variables_of text ds places) a) h)
    (shared_between text ds places (end_of (home_region place)) end a kinds.1 order.1)
  where
    size : word_count (value_type_of d.word_type d.extent) (length_of d.extent) ≡ (home_region place).words
    size = words_are d.word_type d.extent place kinds.0

    begin : from ≤ (home_region place).address
    begin = order.0.from

    by_first : (holds (variable_words (variable_of text d place)) a ≡ true) ⊎ (is_shared (variables_of text ds places) a ≡ true)
        → (is_shared (variables_of text ds places) a ≡ true → (end_of (home_region place) ≤ a) × (a < end)) → (from ≤ a) × (a < end)
    by_first (inl here) others =
        let b = bounds_of (variable_words (variable_of text d place)) a here in
        let low : (home_region place).address ≤ a = b.0 in
        let high : a < (home_region place).address + 2 * word_count (value_type_of d.word_type d.extent) (length_of d.extent) = b.1 in
        let behind = in_order_end (end_of (home_region place)) (map home_region places) end order.1 in
        let first = begin in let words = size in
        (omega (arith, first, low), omega (arith, high, words, behind))
    by_first (inr later) others =
        let b = others later in
        let low = b.0 in let first = begin in
        (omega (arith, first, low), b.1)

-- each word of a place is one of its variable
shared_at : (text : List ℕ) (ds : List SharedDeclaration) (places : List VariablePlace) (n i a : ℕ) (place : VariablePlace) → ArePlacesOf ds places
    → slice_get places n ≡ Some place → i < (home_region place).words → a ≡ 2 * i + (home_region place).address
    → is_shared (variables_of text ds places) a ≡ true
shared_at text [] [] n i a place kinds at below is = let no : None ≡ Some place = at in cc
shared_at text [] (other ∷ places) n i a place kinds at below is = absurd kinds
shared_at text (d ∷ ds) [] n i a place kinds at below is = absurd kinds
shared_at text (d ∷ ds) (other ∷ places) zero i a place kinds at below is =
    let same : other ≡ place = cc in
    let size : word_count (value_type_of d.word_type d.extent) (length_of d.extent) ≡ (home_region other).words =
    words_are d.word_type d.extent other kinds.0 in
    let address : (home_region other).address ≡ (home_region place).address = ap (λ v. (home_region v).address) same in
    let words : (home_region other).words ≡ (home_region place).words = ap (λ v. (home_region v).words) same in
    or_left (holds (variable_words (variable_of text d other)) a) (is_shared (variables_of text ds places) a)
    (within (variable_words (variable_of text d other)) a (omega (arith, is, address)) (omega (arith, is, address, words, size, below)))
shared_at text (d ∷ ds) (other ∷ places) (suc n) i a place kinds at below is =
    or_right (holds (variable_words (variable_of text d other)) a) (is_shared (variables_of text ds places) a)
    (shared_at text ds places n i a place kinds.1 at below is)

-- ---- all that the map names

-- a source with its layout, and how its image's map names them: variables by their declarations, and each task
pub record Mapped : Type 0 where
  pub text : List ℕ
  pub program : CheckedProgram
  pub allow : Allow
  pub plans : List TaskPlanValue
  pub layout : MemoryMap
  pub laid : HasLayout program allow plans layout
  pub redo : layout.runtime.logging ≡ Redo
  pub kinds : ArePlacesOf program.shared layout.variables
  pub tasks : length (map_of text program layout allow).tasks ≡ length program.tasks

-- the map
abbrev pub its_map : Mapped → MapValue
its_map own = map_of own.text own.program own.layout own.allow

module _ (own : Mapped) where
  open own use {text, program as p, allow, plans, layout as l, laid, redo, kinds}

  abbrev m : MapValue
  m = its_map own

  apart : AreApart l
  apart = apart_of l laid.layout.rules

  full : IsFull l
  full = layout_is_full p allow plans l laid.allowed laid.layout

  -- the runtime works in copies, so the map names them all
  pub copies_are : copies_words m.copies ≡ place_words (map_buffer l.copies)
  copies_are = ap (λ g. place_words (record { address = l.copies.address; capacity = copied_words g l.copies.words })) redo

  pub shared_is : (a : ℕ) → a % 2 ≡ 0 → is_shared m.variables a ≡ true → IsSharedWord (program_places p l) a
  shared_is a even h =
      let b = shared_between text p.shared l.variables l.homes.address (end_of l.homes) a kinds laid.layout.rules.homes h in
      record { even = even; from = b.0; below = b.1 }

  pub is_a_shared : (a : ℕ) → IsSharedWord (program_places p l) a → is_shared m.variables a ≡ true
  is_a_shared a s =
      let w = shared_words_are_of_variables p allow plans l laid a s in
      shared_at text p.shared l.variables w.0 w.1 a w.2.place kinds w.2.at w.2.below w.2.address

  -- a word in front of the variables or behind them is none of theirs
  pub not_shared : (a : ℕ) → (a < l.homes.address) ⊎ (end_of l.homes ≤ a) → is_shared m.variables a ≡ false
  not_shared a outside = by_test (is_shared m.variables a) refl
    where
      nowhere : (a < l.homes.address) ⊎ (end_of l.homes ≤ a) → (l.homes.address ≤ a) × (a < end_of l.homes) → ⊥
      nowhere (inl front) b = let low = b.0 in omega (arith, front, low)
      nowhere (inr behind) b = let high = b.1 in omega (arith, behind, high)

      by_test : (b : Bool) → is_shared m.variables a ≡ b → b ≡ false
      by_test false e = refl
      by_test true e =
          absurd (nowhere outside (shared_between text p.shared l.variables l.homes.address (end_of l.homes) a kinds laid.layout.rules.homes e))

  -- the code, and what stands behind it but for the ring, has no name
  pub unnamed : (a : ℕ) → l.boot.address ≤ a → is_in_ring (map_ring l) a ≡ false → is_named m a ≡ false
  unnamed a from off =
      let k = apart in
      let row : l.row + 16 ≤ a = omega (arith, k, from) in
      let list : l.list.address + 6 * l.entries ≤ a = omega (arith, k, from) in
      let emits : end_of l.emits ≤ a = omega (arith, k, from) in
      let versions : end_of l.versions ≤ a = omega (arith, k, from) in
      let homes : end_of l.homes ≤ a = omega (arith, k, from) in
      let behind : end_of l.copies ≤ a = omega (arith, k, from) in
      let copies : (copies_words m.copies).to ≤ a = subst (λ r. r.to ≤ a) (sym copies_are) behind in
      or_from (is_held (runtime_words (map_words l)) a) (is_held (buffers m) a || (is_in_ring (map_ring l) a || is_shared m.variables a))
      (none_held (runtime_words (map_words l)) a (
        omega (arith, row),
        (
          omega (arith, row),
          (
            omega (arith, row),
            (
              omega (arith, row),
              (omega (arith, row), (omega (arith, row), (omega (arith, row), (omega (arith, row), tt)))),
            ),
          ),
        ),
      ))
      (or_from (is_held (buffers m) a) (is_in_ring (map_ring l) a || is_shared m.variables a)
      (none_held (buffers m) a (omega (arith, list), (emits, (versions, (copies, tt)))))
      (or_from (is_in_ring (map_ring l) a) (is_shared m.variables a) off (not_shared a (inr homes))))

  -- one that a buffer has
  of_buffers : (a : ℕ) → is_held (buffers m) a ≡ true → is_named m a ≡ true
  of_buffers a h =
      or_right (is_held (runtime_words (map_words l)) a) (is_held (buffers m) a || (is_in_ring (map_ring l) a || is_shared m.variables a))
      (or_left (is_held (buffers m) a) (is_in_ring (map_ring l) a || is_shared m.variables a) h)

  -- one of the ring
  pub of_ring : (a : ℕ) → is_in_ring (map_ring l) a ≡ true → is_named m a ≡ true
  of_ring a h =
      or_right (is_held (runtime_words (map_words l)) a) (is_held (buffers m) a || (is_in_ring (map_ring l) a || is_shared m.variables a))
      (or_right (is_held (buffers m) a) (is_in_ring (map_ring l) a || is_shared m.variables a)
      (or_left (is_in_ring (map_ring l) a) (is_shared m.variables a) h))

  -- all in front of the code has one
  pub named : (a : ℕ) → IsFram a → a < l.boot.address → is_named m a ≡ true
  named a is below = by_row (cases_lt a l.list.address)
    where
      by_copies : end_of l.homes ≤ a → is_named m a ≡ true
      by_copies from =
          let k = full in
          let here : holds (copies_words m.copies) a ≡ true = subst (λ r. holds r a ≡ true) (sym copies_are)
          (within (place_words (map_buffer l.copies)) a (omega (arith, k, from)) (omega (arith, k, below))) in
          of_buffers a (or_right (holds (list_words (map_list l)) a) _ (or_right (holds (place_words (map_buffer l.emits)) a) _
          (or_right (holds (place_words (map_buffer l.versions)) a) _ (or_left (holds (copies_words m.copies) a) false here))))

      by_homes : l.homes.address ≤ a → (a < end_of l.homes) ⊎ (end_of l.homes ≤ a) → is_named m a ≡ true
      by_homes from (inl lt) =
          or_right (is_held (runtime_words (map_words l)) a) (is_held (buffers m) a || (is_in_ring (map_ring l) a || is_shared m.variables a))
          (or_right (is_held (buffers m) a) (is_in_ring (map_ring l) a || is_shared m.variables a)
          (or_right (is_in_ring (map_ring l) a) (is_shared m.variables a) (is_a_shared a (record { even = is.even; from = from; below = lt }))))
      by_homes from (inr ge) = by_copies ge

      by_versions : end_of l.emits ≤ a → (a < end_of l.versions) ⊎ (end_of l.versions ≤ a) → is_named m a ≡ true
      by_versions from (inl lt) =
          let k = full in
          let here : holds (place_words (map_buffer l.versions)) a ≡ true = within (place_words (map_buffer l.versions)) a (omega (arith, k, from)) lt in
          of_buffers a (or_right (holds (list_words (map_list l)) a) _ (or_right (holds (place_words (map_buffer l.emits)) a) _
          (or_left (holds (place_words (map_buffer l.versions)) a) _ here)))
      by_versions from (inr ge) = let k = full in by_homes (omega (arith, k, ge)) (cases_lt a (end_of l.homes))

      by_emits : l.list.address + 6 * l.entries ≤ a → (a < end_of l.emits) ⊎ (end_of l.emits ≤ a) → is_named m a ≡ true
      by_emits from (inl lt) =
          let k = full in
          let here : holds (place_words (map_buffer l.emits)) a ≡ true = within (place_words (map_buffer l.emits)) a (omega (arith, k, from)) lt in
          of_buffers a (or_right (holds (list_words (map_list l)) a) _ (or_left (holds (place_words (map_buffer l.emits)) a) _ here))
      by_emits from (inr ge) = by_versions ge (cases_lt a (end_of l.versions))

      by_list : l.list.address ≤ a → (a < l.list.address + 6 * l.entries) ⊎ (l.list.address + 6 * l.entries ≤ a) → is_named m a ≡ true
      by_list from (inl lt) =
          let here : holds (list_words (map_list l)) a ≡ true = within (list_words (map_list l)) a from (omega (arith, lt)) in
          of_buffers a (or_left (holds (list_words (map_list l)) a) _ here)
      by_list from (inr ge) = by_emits ge (cases_lt a (end_of l.emits))

      by_row : (a < l.list.address) ⊎ (l.list.address ≤ a) → is_named m a ≡ true
      by_row (inl lt) =
          let k = full in let low = is.low in
          or_left (is_held (runtime_words (map_words l)) a) (is_held (buffers m) a || (is_in_ring (map_ring l) a || is_shared m.variables a))
          (all_held (runtime_words (map_words l)) l.row (l.row + 16) a (
            omega arith,
            (
              omega arith,
              (
                omega arith,
                (
                  omega arith,
                  (omega arith, (omega arith, (omega arith, (omega arith, omega arith)))),
                ),
              ),
            ),
          )
          (omega (arith, k, low)) (omega (arith, k, lt)))
      by_row (inr ge) = by_list ge (cases_lt a (l.list.address + 6 * l.entries))
