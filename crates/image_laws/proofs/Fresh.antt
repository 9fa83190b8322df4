-- The world of an image before anything was done.
use Rattle.image_laws.proofs.Names.{◌≡◌, ◌≢◌, ℕ, ◌+◌, ◌-◌, ◌*◌, ◌/◌, ◌%◌, ◌<◌, ◌≤◌, ◌==◌, ◌&&◌, if◌then◌else◌, cond, ne_eqb, refl, sym, ap, ◌∙◌, subst, arith}
use Rattle.image_laws.proofs.Names.{true, false, List, length, All, slice_index, Allow, CheckedProgram, State, first_state, initial_rows}
use Rattle.image_laws.proofs.Names.{IsAcceptedText, ImageValue, place_of, is_fram, IsFram, fram_of, IsSharedWord, HoldsWords, RestsAt, privates_are_few}
use Rattle.image_laws.proofs.Names.{calls_are_theirs}
use Rattle.image_laws.proofs.Names.{HasLayout, tasks_match, program_places, is_within, shared_word, state_view, Model, is_redo, code_words, code_region}
use Rattle.image_laws.proofs.Names.{data_word, IsCompiledFor, fresh_world, IsFreshImage, reset_vector, CurrentTask, Gate, ListLength, Base, MemoryMap}
use Rattle.image_laws.proofs.Names.{word_place, end_of, IsLaidOut, Bool, eq-eqb, leb-true, ltb-true, ⊎_elim, ◌⊎◌, nat_le, nat_lt, event_vector}
use Rattle.image_laws.proofs.Names.{program_end, handler_place, head_place, is_ring}
use Rattle.image_laws.proofs.Names.{HasHandler, handler_length, handler_words, handler_region, with_handler}
use Rattle.std.proofs.lemmas.Bool.{and_parts}
use Rattle.war_analysis.proofs.Interface.{each_returns}
use Rattle.source_values.specs.Running.{IsRunnable}
use Rattle.source_meaning.proofs.Interface.{accepted_texts_run}
use Rattle.machine_effects.proofs.Interface.{index_small}
use Rattle.array_versions.proofs.Interface.{zero_unless}
use Rattle.lower.specs.Lowered.{lowered}
use Rattle.linked_code.specs.Linked.{CodeFits}
use Rattle.linked_code.proofs.Interface.{linked_is_code}
use Rattle.compiled_runs.proofs.Interface.{sources_have_room}
use Rattle.memory_map.specs.declared.runtime.Logging.{Logging}
use Rattle.image_laws.proofs.Names.{compiled_model, either_logging, is_logged}
use Rattle.memory_map.specs.declared.words.RuntimeWord.{RuntimeWord}
use Rattle.memory_map.proofs.Interface.{apart_of, even_of}
use Rattle.runtime_code.proofs.Interface.{places_are_in_fram}
use Rattle.image_laws.proofs.Fram.{place_in_fram, within, outside_before, outside_behind, none_before, none_behind, holds_by}
use Rattle.image_laws.proofs.Initial.{initial_rows_are}
use Rattle.image_laws.proofs.States.{finds_state}
use Rattle.image_laws.proofs.Laid.{laid_out}

holds_words : (words : List ℕ) → All (λ w. w < 0x10000) words → HoldsWords (fram_of words)
holds_words words all a = zero_unless ((a % 2 == 0) && is_fram a) (slice_index words (place_of a)) (index_small words (place_of a) all)

pub half : (p k : ℕ) → (p + 2 * k - p) / 2 ≡ k
half p k = omega arith

same_number : (a : ℕ) → (a == a) ≡ true
same_number a = eq-eqb a a refl

-- where HEAD and the ring stand
in_ring : (a : ℕ) → is_ring a ≡ true → (head_place ≤ a) × (a < event_vector)
in_ring a there =
    let bounds = and_parts (nat_le head_place a) (nat_lt a event_vector) there in (leb-true head_place a bounds.0, ltb-true a event_vector bounds.1)

-- a word that is neither the vector of interrupts nor in the handler
beside_handler : (events : Bool) (a w : ℕ) → a ≢ event_vector → is_within handler_region a ≡ false → with_handler events a w ≡ w
beside_handler false a w other out = refl
beside_handler true a w other out =
    ap (λ b. cond b handler_place (cond (is_within handler_region a) (slice_index handler_words ((a - handler_place) / 2)) w)) (ne_eqb a event_vector other)
    ∙ ap (λ b. cond b (slice_index handler_words ((a - handler_place) / 2)) w) out

-- one of the handler's
in_handler : (k w : ℕ) → k < handler_length → with_handler true (handler_place + 2 * k) w ≡ slice_index handler_words k
in_handler k w below =
    let a = handler_place + 2 * k in
    ap (λ b. cond b handler_place (cond (is_within handler_region a) (slice_index handler_words ((a - handler_place) / 2)) w))
    (ne_eqb a event_vector (λ e. omega (arith, below, e)))
    ∙ ap (λ b. cond b (slice_index handler_words ((a - handler_place) / 2)) w) (within handler_region a (omega arith) (omega (arith, below)))
    ∙ ap (slice_index handler_words) (half handler_place k)

module _ {logging : Logging} (text : List ℕ) (p : CheckedProgram) (allow : Allow) (image : ImageValue) (ok : IsAcceptedText text p allow)
    (runs : IsRunnable p) (c : IsCompiledFor logging text p allow image) where
  abbrev l : MemoryMap
  l = c.layout

  abbrev f : ℕ → ℕ
  f = fram_of image.words

  laid : HasLayout p allow c.plans l
  laid = record {
    allowed = ok.allowed;
    plan = c.is_plan;
    logging = logging;
    layout = c.is_layout;
    few = privates_are_few text p allow c.plans l (laid_out text p allow image ok c);
    returning = (let k = ok.checks.checks in each_returns p k.named.placed k.paths.returns);
  }

  abbrev rules : IsLaidOut l
  rules = c.is_layout.rules

  fits : CodeFits l (lowered l p)
  fits = sources_have_room logging p allow c.plans l ok.allowed c.is_layout c.is_plan.count
      (λ k task own at own_at. (tasks_match p allow c.plans l laid k task own (record { is_task = at; is_layout = own_at })).count)
      (calls_are_theirs text p allow c.plans l (laid_out text p allow image ok c))

  pub code_end : l.boot.address + 2 * length (code_words p l) ≤ end_of l.code
  code_end = (linked_is_code l (lowered l p) fits).end

  -- a word that is code or data, if it isn't the handler's
  abbrev own_word : ℕ → ℕ
  own_word a = if is_within (code_region p l) a then slice_index (code_words p l) ((a - l.boot.address) / 2) else data_word p l a

  own_at : (a : ℕ) → IsFram a → a < event_vector → is_within handler_region a ≡ false → f a ≡ own_word a
  own_at a is below out =
      let other : (a == reset_vector) ≡ false = ne_eqb a reset_vector (λ e. omega (arith, below, e)) in
      c.words.each a is
      ∙ ap (λ b. cond b l.boot.address (with_handler l.runtime.events a (own_word a))) other
      ∙ beside_handler l.runtime.events a (own_word a) (λ e. omega (arith, below, e)) out

  low_word : (a : ℕ) → IsFram a → a < handler_place → f a ≡ own_word a
  low_word a is below = own_at a is (omega (arith, below)) (outside_before handler_region a below)

  -- the word before the code
  data_at : (a : ℕ) → IsFram a → a < l.boot.address → f a ≡ data_word p l a
  data_at a is low =
      let high = (apart_of l rules).high in
      let end = code_end in
      low_word a is (omega (arith, low, high, end))
      ∙ ap (λ b. cond b (slice_index (code_words p l) ((a - l.boot.address) / 2)) (data_word p l a)) (outside_before (code_region p l) a low)

  -- a word of the code
  code_at : (k : ℕ) → k < length (code_words p l) → f (l.boot.address + 2 * k) ≡ slice_index (code_words p l) k
  code_at k below =
      let a = l.boot.address + 2 * k in
      let apart = apart_of l rules in
      let even = (even_of l rules).boot in
      let end = code_end in
      let is : IsFram a = record { even = omega (arith, even); low = omega (arith, apart); high = omega (arith, apart, end, below) } in
      let high = apart.high in
      let there : is_within (code_region p l) a ≡ true = within (code_region p l) a (omega arith) (omega (arith, below)) in
      low_word a is (omega (arith, high, end, below))
      ∙ ap (λ b. cond b (slice_index (code_words p l) ((a - l.boot.address) / 2)) (data_word p l a)) there
      ∙ ap (slice_index (code_words p l)) (half l.boot.address k)

  vector : f reset_vector ≡ l.boot.address
  vector = c.words.each reset_vector (record { even = refl; low = omega arith; high = omega arith })

  -- the handler, where the source takes events
  handler : l.runtime.events ≡ true → HasHandler f
  handler on = record { words = word_of_handler; vector = to_handler }
    where
      word_of_handler : (k : ℕ) → k < handler_length → f (handler_place + 2 * k) ≡ slice_index handler_words k
      word_of_handler k below =
          let a = handler_place + 2 * k in
          let other : (a == reset_vector) ≡ false = ne_eqb a reset_vector (λ e. omega (arith, below, e)) in
          c.words.each a (record { even = omega arith; low = omega arith; high = omega (arith, below) })
          ∙ ap (λ b. cond b l.boot.address (with_handler l.runtime.events a (own_word a))) other
          ∙ ap (λ e. with_handler e a (own_word a)) on ∙ in_handler k (own_word a) below

      to_handler : f event_vector ≡ handler_place
      to_handler = c.words.each event_vector (record { even = refl; low = omega arith; high = omega arith })
          ∙ ap (λ e. with_handler e event_vector (own_word event_vector)) on

  -- no code and no variable stands behind the end of programs: what counts events, and the ring, is 0
  zero_behind : (a : ℕ) → IsFram a → program_end ≤ a → a < event_vector → is_within handler_region a ≡ false → f a ≡ 0
  zero_behind a is behind below out =
      let apart = apart_of l rules in
      let end = code_end in
      let current : (a == (word_place l CurrentTask)) ≡ false = ne_eqb a (word_place l CurrentTask) (λ e. omega (arith, apart, behind, e)) in
      own_at a is below out
      ∙ ap (λ b. cond b (slice_index (code_words p l) ((a - l.boot.address) / 2)) (data_word p l a))
      (outside_behind (code_region p l) a (omega (arith, apart, end, behind)))
      ∙ ap (λ b. cond b p.entry.task (shared_word l.variables (initial_rows p) a)) current
      ∙ none_behind l.homes.address (end_of l.homes) a l.variables (initial_rows p) rules.homes (omega (arith, apart, behind))

  ring : (a : ℕ) → IsFram a → program_end ≤ a → a < handler_place ⊎ is_ring a ≡ true → f a ≡ 0
  ring a is behind there = ⊎_elim {C = f a ≡ 0}
      (λ below. zero_behind a is behind (omega (arith, below)) (outside_before handler_region a below))
      (λ there. let bounds = in_ring a there in let from = bounds.0 in
      zero_behind a is behind bounds.1 (outside_behind handler_region a (omega (arith, from)))) there

  -- the runtime's words are words of FRAM
  words_are : (w : RuntimeWord) → IsFram (word_place l w)
  words_are w = place_in_fram (word_place l w) ((places_are_in_fram l rules).words w)

  -- the runtime's words but CUR are 0
  pub zero_at : (a : ℕ) → IsFram a → a ≢ word_place l CurrentTask → a < l.homes.address → f a ≡ 0
  zero_at a is other low =
      let apart = apart_of l rules in
      let e : (a == (word_place l CurrentTask)) ≡ false = ne_eqb a (word_place l CurrentTask) other in
      data_at a is (omega (arith, apart, low))
      ∙ ap (λ b. cond b p.entry.task (shared_word l.variables (initial_rows p) a)) e
      ∙ none_before l.homes.address (end_of l.homes) a l.variables (initial_rows p) rules.homes low

  current : f (word_place l CurrentTask) ≡ p.entry.task
  current =
      let apart = apart_of l rules in
      let a = (word_place l CurrentTask) in
      let same : (a == a) ≡ true = same_number a in
      data_at a (words_are CurrentTask) (omega (arith, apart))
      ∙ ap (λ b. cond b p.entry.task (shared_word l.variables (initial_rows p) a)) same

  gate : f (word_place l Gate) ≡ 0
  gate =
      let apart = apart_of l rules in
      zero_at (word_place l Gate) (words_are Gate) (λ e. omega (arith, e)) (omega (arith, apart))

  base : f (word_place l Base) ≡ 0
  base =
      let apart = apart_of l rules in
      zero_at (word_place l Base) (words_are Base) (λ e. omega (arith, e)) (omega (arith, apart))

  -- each version word of a fresh image is 0
  pub version : (i : ℕ) → i < l.versions.words → f (l.versions.address + 2 * i) ≡ 0
  version i below =
      let apart = apart_of l rules in
      let even = (even_of l rules).versions in
      zero_at (l.versions.address + 2 * i)
      (record { even = omega (arith, even); low = omega (arith, apart); high = omega (arith, apart, below) }) (λ e. omega (arith, apart, e))
      (omega (arith, apart, below))

  shared_at : (a : ℕ) → IsSharedWord (program_places p l) a → f a ≡ shared_word l.variables (initial_rows p) a
  shared_at a is =
      let apart = apart_of l rules in
      let low = is.from in
      let high = is.below in
      let e : (a == (word_place l CurrentTask)) ≡ false = ne_eqb a (word_place l CurrentTask) (λ q. omega (arith, apart, low, q)) in
      data_at a (record { even = is.even; low = omega (arith, apart, low); high = omega (arith, apart, high) }) (omega (arith, apart, high))
      ∙ ap (λ b. cond b p.entry.task (shared_word l.variables (initial_rows p) a)) e

  rests : RestsAt (program_places p l) (state_view p l) (first_state p) (fresh_world image)
  rests = record {
    is_open = record {
      is_state = initial_rows_are text p ok.checks;
      is_task = runs.entry;
      words = holds_words image.words c.words.are_words;
      current_task = current;
      gate = gate;
      accepted = refl;
      base = base;
      versions = λ i below. let z = version i below in omega (arith, z);
    };
    shared = shared_at;
  }

  -- and nothing is listed
  none_listed : f (word_place l ListLength) ≡ 0
  none_listed =
      let apart = apart_of l rules in
      zero_at (word_place l ListLength) (words_are ListLength) (λ e. omega (arith, e)) (omega (arith, apart))

  rests_clear : (compiled_model p l).Rests (first_state p) (fresh_world image)
  rests_clear =
      let P : Model State → Type 0 = λ m. m.Rests (first_state p) (fresh_world image) in
      ⊎_elim {C = (compiled_model p l).Rests (first_state p) (fresh_world image)} (λ redo. subst P (sym (is_redo p l redo)) rests)
      (λ undo. subst P (sym (is_logged p l undo)) (record { rests = rests; none = none_listed })) (either_logging l.runtime.logging)

  pub is_fresh : IsFreshImage text p allow l image
  is_fresh = record {
    fits = fits;
    code = holds_by f l.boot.address (code_words p l) code_at;
    vector = vector;
    handler = handler;
    ring = ring;
    rests = rests_clear;
    has_words = finds_state text p allow c.plans l laid (first_state p) (fresh_world image) rests;
  }

pub images_are_fresh : {logging : Logging} (text : List ℕ) (p : CheckedProgram) (allow : Allow) (image : ImageValue) → IsAcceptedText text p allow
    → (c : IsCompiledFor logging text p allow image) → IsFreshImage text p allow c.layout image
images_are_fresh text p allow image ok c = is_fresh text p allow image ok (accepted_texts_run text p allow ok) c
