-- What a migration makes of an old state belongs to the new image, and rests at the state that the old words make.
use Rattle.compiled_states.proofs.Names.{◌≡◌, ◌⊎◌, inl, inr, ℕ, ◌+◌, ◌*◌, ◌<◌, ◌≤◌, ◌==◌, if◌then◌else◌, Bool, false, List, [], length, map, Option, Some, refl}
use Rattle.compiled_states.proofs.Names.{sym, ap, ap₂, ◌∙◌, subst, arith, unwrap_or, IfSome, length-map, eq-eqb, ne_eqb, State, is_shared, word_in}
use Rattle.compiled_states.proofs.Names.{EditionValue, edition_with, row_of, rows_of, shared_word, IsStateOf, IsPendingAt, IsMigrated, edition_of_state}
use Rattle.compiled_states.proofs.Names.{row_length, RuntimeWord, CurrentTask, Gate, ListLength, EmitCount, Base, Version, MemoryMap, word_place, end_of}
use Rattle.compiled_states.proofs.Names.{home_region, AreApart, WordStands, apart_of, even_of, words_stand, IsOpen, IsAtRest, SoundAtRest, program_places}
use Rattle.compiled_states.proofs.Names.{row_in, state_view, state_in, MapValue, ImageValue, IsFram, fram_of, CheckedProgram, first_state, IsImageOf}
use Rattle.compiled_states.proofs.Names.{steady, steady_low, map_ring, is_in_ring, is_ring_at, is_pending, runtime_of, KeepsRing, None, true}
use Rattle.compiled_states.proofs.Names.{fresh_world, logs_so, images_are_fresh, worlds_stand, BelongsTo, images_belong, world_of, state_with, MayHaveAccepted}
use Rattle.compiled_states.proofs.Names.{HasFramWords, HasCodeWords, BelongsAt, MigratedStatesBelong}
use Rattle.fram_state.specs.Sound as state
use Rattle.source_values.specs.Runs as runs
use Rattle.fram_state.specs.Kept.{task_names}
use Rattle.fram_state.specs.Editions.{IsEdition}
use Rattle.image_map.specs.Kept.{IsMap}
use Rattle.crash_rules.specs.Model.{Model}
use Rattle.compiled_model.specs.Parts.{compiled_model}
use Rattle.compiled_model.proofs.Interface.{is_redo}
use Rattle.compiled_states.proofs.Words.{fram_at, steady_small}
use Rattle.compiled_states.proofs.Ring.{low_off, none_kept, head_word, tail_word, waits_keep}
use Rattle.image_map.specs.declared.parts.RingPlaces.{RingPlaces}
use Rattle.source_maps.specs.Maps.{event_ring}
use Rattle.fram_state.specs.Migrated.{kept_ring_word}
use Rattle.compiled_states.proofs.Named.{its_map, not_shared}
use Rattle.compiled_states.proofs.Rows.{none_there, position_below, rows_stand}
use Rattle.compiled_states.proofs.Sound.{base_at_rest, ring_at_rest}
use Rattle.compiled_states.proofs.States.{mapped, image_of, one_map, keeps_code, as_state, some_words, words_before}

module _ (text : List ℕ) (image : ImageValue) (of : IsImageOf text image) (old : EditionValue) (is_old : IsEdition old) (number : ℕ) (t : State)
    (whole : HasFramWords t) (g : IsMigrated old (edition_with text of.program (its_map (mapped text image of)) image.words) number t)
    (old_base : word_in old.words old.named.words.base ≡ number) (old_ring : is_ring_at old.named.ring old.words false ≡ true) where
  open of use {program as p, allow, accepted as ok, compiled as c}

  abbrev l : MemoryMap
  l = c.layout

  abbrev m : MapValue
  m = its_map (mapped text image of)

  abbrev new : EditionValue
  new = edition_with text p m image.words

  abbrev rows : List (List ℕ)
  rows = rows_of old new

  abbrev task : ℕ
  task = g.migrates.can.number

  -- the words of the FRAM, and of its world
  abbrev g0 : ℕ → ℕ
  g0 = fram_of t.image.words

  abbrev f : ℕ → ℕ
  f = steady g0

  apart : AreApart l
  apart = apart_of l c.is_layout.rules

  stands : (w : RuntimeWord) → WordStands l w
  stands w = words_stand l w c.is_layout.rules

  -- ---- the words of the FRAM

  -- the word that a migration puts at an address: CUR's is the task, BASE's the number, the ring's the old one's, a variable's that of its row, and
  -- each other the image's
  abbrev put_by : Bool → Bool → ℕ → ℕ
  put_by is_task is_base a =
      if is_task then task
      else (if is_base then word_in old.words old.named.words.base else unwrap_or (kept_ring_word (map_ring l) old.named.ring old.words a)
      (unwrap_or (shared_word m.variables rows a) (word_in image.words a)))

  put_at : (a : ℕ) → IsFram a → g0 a ≡ put_by (a == word_place l CurrentTask) (a == word_place l Base) a
  put_at a is = fram_at t.image.words a is ∙ g.migrates.each a (record { low = is.low; high = is.high; even = is.even })

  -- the word at an address that is neither CUR's nor BASE's
  of_others : (a : ℕ) → IsFram a → (a ≡ word_place l CurrentTask → ⊥) → (a ≡ word_place l Base → ⊥)
      → g0 a ≡ unwrap_or (kept_ring_word (map_ring l) old.named.ring old.words a) (unwrap_or (shared_word m.variables rows a) (word_in image.words a))
  of_others a is no_task no_base =
      put_at a is ∙ ap₂ (λ b c. put_by b c a) (ne_eqb a (word_place l CurrentTask) no_task) (ne_eqb a (word_place l Base) no_base)

  -- nor the ring's
  word_elsewhere : (a : ℕ) → IsFram a → is_in_ring (map_ring l) a ≡ false → (a ≡ word_place l CurrentTask → ⊥) → (a ≡ word_place l Base → ⊥)
      → g0 a ≡ unwrap_or (shared_word m.variables rows a) (word_in image.words a)
  word_elsewhere a is off no_task no_base =
      of_others a is no_task no_base
      ∙ ap (λ o. unwrap_or o (unwrap_or (shared_word m.variables rows a) (word_in image.words a))) (none_kept (map_ring l) old.named.ring old.words a off)

  -- outside of the variables, too, it is the new image's
  as_image : (a : ℕ) → IsFram a → is_in_ring (map_ring l) a ≡ false → (a ≡ word_place l CurrentTask → ⊥) → (a ≡ word_place l Base → ⊥)
      → (a < l.homes.address) ⊎ (end_of l.homes ≤ a) → g0 a ≡ fram_of image.words a
  as_image a is off no_task no_base outside =
      let free : is_shared m.variables a ≡ false = not_shared (mapped text image of) a outside in
      word_elsewhere a is off no_task no_base ∙ ap (λ o. unwrap_or o (word_in image.words a)) (none_there m.variables rows a free)
      ∙ sym (fram_at image.words a is)

  -- in front of the code all is off the ring
  low_image : (a : ℕ) → IsFram a → a < 0xFF18 → (a ≡ word_place l CurrentTask → ⊥) → (a ≡ word_place l Base → ⊥)
      → (a < l.homes.address) ⊎ (end_of l.homes ≤ a) → f a ≡ fram_of image.words a
  low_image a is below no_task no_base outside =
      steady_low g0 a (omega (arith, below)) ∙ as_image a is (low_off l a below) no_task no_base outside

  -- a word of the runtime is one of the FRAM
  is_word : (w : RuntimeWord) → IsFram (word_place l w)
  is_word w = let is = (stands w).is_fram in let low = is.low in let high = is.high in
      record { even = is.even; low = omega (arith, low); high = omega (arith, high) }

  -- and another one than CUR and BASE is the new image's
  runtime_word : (w : RuntimeWord) → (word_place l w ≡ word_place l CurrentTask → ⊥) → (word_place l w ≡ word_place l Base → ⊥)
      → f (word_place l w) ≡ fram_of image.words (word_place l w)
  runtime_word w no_task no_base =
      let below = (stands w).below in let k = apart in
      low_image (word_place l w) (is_word w) (omega (arith, below, k)) no_task no_base (inl (omega (arith, below, k)))

  low_word : (w : RuntimeWord) → f (word_place l w) ≡ g0 (word_place l w)
  low_word w = let below = (stands w).below in let k = apart in steady_low g0 (word_place l w) (omega (arith, below, k))

  -- the image's own word is off the ring, too
  image_word : (w : RuntimeWord) → steady (fram_of image.words) (word_place l w) ≡ fram_of image.words (word_place l w)
  image_word w = let below = (stands w).below in let k = apart in steady_low (fram_of image.words) (word_place l w) (omega (arith, below, k))

  current : f (word_place l CurrentTask) ≡ task
  current =
      let a = word_place l CurrentTask in
      low_word CurrentTask ∙ put_at a (is_word CurrentTask) ∙ ap (λ b. put_by b (a == word_place l Base) a) (eq-eqb a a refl)

  base : f (word_place l Base) ≡ number
  base =
      let a = word_place l Base in
      low_word Base ∙ put_at a (is_word Base) ∙ ap₂ (λ b c. put_by b c a) (ne_eqb a (word_place l CurrentTask) (λ e. omega (arith, e))) (eq-eqb a a refl)
      ∙ old_base

  -- a version word is the new image's
  version_word : (i : ℕ) → i < l.versions.words → f (l.versions.address + 2 * i) ≡ fram_of image.words (l.versions.address + 2 * i)
  version_word i lt =
      let k = apart in
      let even = (even_of l c.is_layout.rules).versions in
      let first = (stands CurrentTask).below in let second = (stands Base).below in
      low_image (l.versions.address + 2 * i) (record { even = omega (arith, even); low = omega (arith, k); high = omega (arith, k, lt) }) (omega (arith, k, lt))
      (λ e. omega (arith, k, first, e)) (λ e. omega (arith, k, second, e)) (inl (omega (arith, k, lt)))

  -- from the code on all words are the new image's
  code_words : HasCodeWords l image t
  code_words a is from off =
      let k = apart in
      let first = (stands CurrentTask).below in let second = (stands Base).below in
      as_image a is off (λ e. omega (arith, k, first, from, e)) (λ e. omega (arith, k, second, from, e)) (inr (omega (arith, k, from)))

  -- ---- the world of the state

  fresh : IsOpen (program_places p l) (state_view p l) (first_state p) (fresh_world image)
  fresh =
      let P : Model runs.State → Type 0 = λ k. k.Rests (first_state p) (fresh_world image) in
      (subst P (is_redo p l (logs_so text p allow image c)) (images_are_fresh text p allow image ok c).rests).is_open

  new_world : BelongsTo p l image (world_of (record { image = image; receiver = 0 }) [])
  new_world = images_belong text p allow image ok c

  is_task : task < length p.tasks
  is_task =
      let below : task < 0 + length (task_names text p) =
      position_below _ (task_names text p) 0 task g.migrates.can.goes_on.named in
      let count : length (task_names text p) ≡ length p.tasks = length-map p.tasks _ in
      omega (arith, below, count)

  module _ (accepted : List ℕ) (count : MayHaveAccepted t accepted) where
    rests_there : IsAtRest (program_places p l) (world_of t accepted)
    rests_there = record {
      words = steady_small t.image.words whole.are_words;
      current_task = (let is = current in let below = is_task in omega (arith, is, below));
      gate = runtime_word Gate (λ e. omega (arith, e)) (λ e. omega (arith, e)) ∙ fresh.gate;
      base = base ∙ sym g.keeps ∙ sym count;
      versions = λ i lt.
          let here = version_word i lt in let there = runtime_word Version (λ e. omega (arith, e)) (λ e. omega (arith, e)) in
          let most = fresh.versions i lt in
          omega (arith, here, there, most);
    }

    belongs_to : BelongsTo p l image (world_of t accepted)
    belongs_to =
        let k = new_world.capacities in
        record {
          code = keeps_code text image of t code_words;
          capacities = record {
            list = (let here = runtime_word ListLength (λ e. omega (arith, e)) (λ e. omega (arith, e)) in let there = image_word ListLength in
                let most = k.list in omega (arith, here, there, most));
            emits = (let here = runtime_word EmitCount (λ e. omega (arith, e)) (λ e. omega (arith, e)) in let there = image_word EmitCount in
                let most = k.emits in omega (arith, here, there, most));
            versions = rests_there.versions;
          };
          sound = SoundAtRest rests_there;
        }

  -- ---- the ring

  -- a word that may be one of the ring is none of the runtime or of a variable
  of_ring : (a : ℕ) → IsFram a → 0xFF18 ≤ a → g0 a ≡ unwrap_or (kept_ring_word (map_ring l) old.named.ring old.words a) (word_in image.words a)
  of_ring a is from =
      let k = apart in
      let first = (stands CurrentTask).below in let second = (stands Base).below in
      let free : is_shared m.variables a ≡ false = not_shared (mapped text image of) a (inr (omega (arith, k, from))) in
      of_others a is (λ e. omega (arith, k, first, from, e)) (λ e. omega (arith, k, second, from, e))
      ∙ ap (λ o. unwrap_or (kept_ring_word (map_ring l) old.named.ring old.words a) (unwrap_or o (word_in image.words a)))
      (none_there m.variables rows a free)

  -- HEAD and TAIL go on, or begin anew
  ring_goes_on : (ring : Option RingPlaces) → is_ring_at ring old.words false ≡ true
      → word_in t.image.words 0xFF6E ≡ unwrap_or (kept_ring_word (Some event_ring) ring old.words 0xFF6E) (word_in image.words 0xFF6E)
      → word_in t.image.words 0xFF18 ≡ unwrap_or (kept_ring_word (Some event_ring) ring old.words 0xFF18) (word_in image.words 0xFF18)
      → is_ring_at (Some event_ring) t.image.words false ≡ true
  ring_goes_on None keeps head tail =
      let h = head ∙ head_word text image of in let k = tail ∙ tail_word text image of in
      waits_keep (word_in t.image.words 0xFF6E) (word_in t.image.words 0xFF18) 0 0 h k refl
  ring_goes_on (Some o) keeps head tail =
      waits_keep (word_in t.image.words 0xFF6E) (word_in t.image.words 0xFF18) (word_in old.words o.head) (word_in old.words o.tail) head tail keeps

  ring_by : (events : Bool) → l.runtime.events ≡ events → is_ring_at (if events then Some event_ring else None) t.image.words false ≡ true
  ring_by false off = refl
  ring_by true on =
      let is : (a : ℕ) → IsFram a → 0xFF18 ≤ a
      → word_in t.image.words a ≡ unwrap_or (kept_ring_word (Some event_ring) old.named.ring old.words a) (word_in image.words a) =
      λ a fram from. sym (fram_at t.image.words a fram) ∙ of_ring a fram from
      ∙ ap (λ (e : Bool). unwrap_or (kept_ring_word (if e then Some event_ring else None) old.named.ring old.words a) (word_in image.words a)) on in
      ring_goes_on old.named.ring old_ring (is 0xFF6E (record { even = refl; low = omega arith; high = omega arith }) (omega arith))
      (is 0xFF18 (record { even = refl; low = omega arith; high = omega arith }) (omega arith))

  none_pending : is_pending (runtime_of m.words t.image.words) ≡ false
  none_pending =
      let a = word_place l Gate in
      let gate = sym (fram_at t.image.words a (is_word Gate)) ∙ sym (low_word Gate)
      ∙ runtime_word Gate (λ e. omega (arith, e)) (λ e. omega (arith, e)) ∙ fresh.gate in
      ne_eqb (word_in t.image.words a) 1 (λ e. omega (arith, gate, e))

  keeps_ring : KeepsRing t
  keeps_ring =
      let P : Option MapValue → Type 0 = λ o. IfSome o (λ n. is_ring_at n.ring t.image.words (is_pending (runtime_of n.words t.image.words)) ≡ true) in
      let Q : Bool → Type 0 = λ pending. is_ring_at (map_ring l) t.image.words pending ≡ true in
      subst P (sym g.mapped) (subst Q (sym none_pending) (ring_by l.runtime.events refl))

  -- the variables have the words of the rows
  rows_are : map (λ v. row_in f (home_region v)) l.variables ≡ rows
  rows_are =
      let k = apart in
      let first = (stands CurrentTask).below in let second = (stands Base).below in
      rows_stand text (row_of old text) (row_length old is_old text) f (word_in image.words) p.shared l.variables l.homes.address (end_of l.homes)
      (mapped text image of).kinds c.is_layout.rules.homes
      (λ a even low high. steady_low g0 a (omega (arith, k, high))
      ∙ word_elsewhere a (record { even = even; low = omega (arith, k, low); high = omega (arith, k, high) }) (low_off l a (omega (arith, k, high)))
      (λ e. omega (arith, k, first, low, e)) (λ e. omega (arith, k, second, low, e)))

  has_state : (accepted : List ℕ) → state_in l (world_of t accepted) ≡ state_with rows task accepted
  has_state accepted = ap₂ (λ shared n. state_with shared n accepted) rows_are current

  pub belongs_at : BelongsAt p l image rows task t
  belongs_at = record {
    belongs = as_state text image of t (some_words t.receiver) (words_before t.receiver whole.receiver) whole.count
        (g.mapped ∙ sym c.map) code_words keeps_ring (belongs_to (some_words t.receiver) (words_before t.receiver whole.receiver));
    has = has_state;
    rests = λ accepted count.
        subst (λ s. (compiled_model p l).Rests s (world_of t accepted)) (has_state accepted)
        ((worlds_stand text p allow image ok c).rest (world_of t accepted) (rests_there accepted count));
  }

-- ---- the law

-- BASE of an old state that can be migrated
old_base_is : (text : List ℕ) (p : CheckedProgram) (s : State) (m : MapValue) → IsStateOf text p s → s.image.map ≡ Some m
    → (IsPendingAt (edition_with text p m s.image.words) → ⊥) → word_in s.image.words m.words.base ≡ s.receiver
old_base_is text p s m is mapped rests =
    let both : Some is.belongs.map ≡ Some m = sym is.belongs.have.of_state ∙ mapped in
    let one : is.belongs.map ≡ m = cc in
    base_at_rest m s.image.words s.receiver (subst (λ n. state.IsSound n s.image.words s.receiver) one is.belongs.sound) rests

-- and its ring
old_ring_is : (text : List ℕ) (p : CheckedProgram) (s : State) (m : MapValue) → IsStateOf text p s → s.image.map ≡ Some m
    → (IsPendingAt (edition_with text p m s.image.words) → ⊥) → is_ring_at m.ring s.image.words false ≡ true
old_ring_is text p s m is mapped rests =
    let both : Some is.belongs.map ≡ Some m = sym is.belongs.have.of_state ∙ mapped in
    let one : is.belongs.map ≡ m = cc in
    ring_at_rest m s.image.words s.receiver (subst (λ n. state.IsSound n s.image.words s.receiver) one is.belongs.sound) rests

-- a map that keeps the rules
rules_of : (o : Option MapValue) (m : MapValue) → IfSome o IsMap → o ≡ Some m → IsMap m
rules_of o m rules is = let P : Option MapValue → Type 0 = λ x. IfSome x IsMap in subst P is rules

pub migrated_states_belong : MigratedStatesBelong
migrated_states_belong s t old_whole rules whole text p allow image ok c old_text old_p m n is mapped has g =
    let old : EditionValue = edition_with old_text old_p m s.image.words in
    let is_old : IsEdition old = edition_of_state old_text old_p s m is mapped (rules_of s.image.map m rules mapped) old_whole.count in
    let Law : MapValue → Type 0 = λ k. (h : IsMigrated old (edition_with text p k image.words) s.receiver t)
    → BelongsAt p c.layout image (rows_of old (edition_with text p k image.words)) h.migrates.can.number t in
    subst Law (sym (one_map text image (image_of text p allow image ok c) n has))
    (λ h. belongs_at text image (image_of text p allow image ok c) old is_old s.receiver t whole h
    (old_base_is old_text old_p s m is mapped h.migrates.can.at_rest)
    (old_ring_is old_text old_p s m is mapped h.migrates.can.at_rest)) g
