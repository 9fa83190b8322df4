-- Where a task's program stores under redo: at words that an undecided world doesn't speak of.
use Rattle.task_attempts.proofs.Names.{◌≡◌, ℕ, ◌+◌, ◌*◌, ◌<◌, ◌≤◌, ◌∙◌, Some, false, not, sym, ap, subst, ⊎_elim, arith, cases_Bool, and_from, true, slice_get}
use Rattle.task_attempts.proofs.Names.{list_of, task_body, CurrentTask, Gate, Base, Version, Scalar, word_place, IsSharedWord}
use Rattle.task_attempts.proofs.Names.{IsCopyWord, scalar_home, IsPlaceOfScalar, scalar_place, words_scalar, some_path_writes, map_seen, scalar_of_seen}
use Rattle.task_attempts.proofs.Names.{scalar_is, scalar_address, words_at, IsScalarWord, PrivateScalar, scalar_words, IsTaskStore, at_variable}
use Rattle.task_attempts.proofs.Names.{at_copy, at_element, at_version, in_list, at_list_length, at_emit_count, in_buffer, is_private_in, stays_in_place}
use Rattle.task_attempts.proofs.Entries as transition
use Rattle.task_attempts.proofs.Given.{IsVersionWord}
use Rattle.task_attempts.proofs.Quiet.{IsQuiet}
use Rattle.task_attempts.proofs.Names.{at_answer}
use Rattle.task_attempts.proofs.Entries.{IsTransitionStore, at_next_task, at_sent_base, at_sent_tail, in_entries}
use Rattle.task_attempts.proofs.Tasks.{body_is, private_copy}
use Rattle.memory_map.specs.event_places.Places.{count_place}
use Rattle.task_attempts.proofs.Started.{Attempting, scene, Started, redo_run}
use Rattle.task_attempts.proofs.Tame.{emits_fit}
use Rattle.cost_bound.specs.Summaries.{summaries}

module _ (st : Started) where
  abbrev run : Attempting
  run = redo_run st

  open st use {program as p, map as l, given, state as s, task as i, facts}
  open (scene run) use {here, code, space, sites, ver}

  -- a store that an undecided world bears
  abbrev pub Quiet : ℕ → ℕ → Type 0
  Quiet a w = IsQuiet sites s.task ver a w

  -- to a word of the runtime behind CUR that is none of GATE, BASE and VER
  word_quiet : (a w : ℕ) → w < 0x10000 → word_place l CurrentTask < a → a < l.list.address → (a ≡ word_place l Gate → ⊥) → (a ≡ word_place l Base → ⊥)
      → (a ≡ word_place l Version → ⊥) → Quiet a w
  word_quiet a w small lo hi gate base version =
      let apart = given.source.apart in
      record {
        is_word = small;
        in_place = λ h. absurd (omega (arith, apart, h, hi));
        current_task = λ e. omega (arith, e, lo);
        gate = gate;
        base = base;
        version = version;
        versions = λ i h e. absurd (omega (arith, apart, e, hi));
      }

  -- to a word that counts events
  event_quiet : (a w : ℕ) → w < 0x10000 → count_place ≤ a → Quiet a w
  event_quiet a w small high =
      let apart = given.source.apart in
      record {
        is_word = small;
        in_place = λ h. absurd (omega (arith, apart, h, high));
        current_task = λ e. omega (arith, apart, e, high);
        gate = λ e. omega (arith, apart, e, high);
        base = λ e. omega (arith, apart, e, high);
        version = λ e. omega (arith, apart, e, high);
        versions = λ i h e. omega (arith, apart, e, h, high);
      }

  -- to a word behind the runtime's: where a scalar stands, the task writes it in place, and a version word becomes VER
  behind_quiet : (a w : ℕ) → w < 0x10000 → l.list.address ≤ a → (IsSharedWord sites a → sites.written_in_place s.task a ≡ true)
      → (IsVersionWord l a → w ≤ ver) → Quiet a w
  behind_quiet a w small lo in_place most =
      let apart = given.source.apart in
      record {
        is_word = small;
        in_place = in_place;
        current_task = λ e. omega (arith, apart, e, lo);
        gate = λ e. omega (arith, apart, e, lo);
        base = λ e. omega (arith, apart, e, lo);
        version = λ e. omega (arith, apart, e, lo);
        versions = λ i h e. most (record { number = i; below = h; is = e });
      }

  -- to one of the list or of the buffer
  buffer_quiet : (a w : ℕ) → w < 0x10000 → l.list.address ≤ a → a < l.versions.address → Quiet a w
  buffer_quiet a w small lo hi =
      let apart = given.source.apart in
      behind_quiet a w small lo (λ h. absurd (omega (arith, apart, h, hi))) (λ v. let is = v.is in absurd (omega (arith, is, hi)))

  copy_quiet : (a w : ℕ) → w < 0x10000 → IsCopyWord sites a → Quiet a w
  copy_quiet a w small c =
      let apart = given.source.apart in
      behind_quiet a w small (omega (arith, apart, c)) (λ h. absurd (omega (arith, apart, h, c)))
      (λ v. let is = v.is in let below = v.below in absurd (omega (arith, apart, is, below, c)))

  version_quiet : (a w : ℕ) → w < 0x10000 → w ≡ ver → IsVersionWord l a → Quiet a w
  version_quiet a w small is c =
      let apart = given.source.apart in
      let at = c.is in let below = c.below in
      behind_quiet a w small (omega (arith, apart, at, below)) (λ h. absurd (omega (arith, apart, h, at, below))) (λ v. omega (arith, is))

  -- to a word of a scalar that the task writes in place
  home_quiet : (a w : ℕ) → w < 0x10000 → IsSharedWord sites a → sites.written_in_place s.task a ≡ true → Quiet a w
  home_quiet a w small c is =
      let apart = given.source.apart in
      behind_quiet a w small (omega (arith, apart, c)) (λ h. is)
      (λ v. let at = v.is in let below = v.below in absurd (omega (arith, apart, at, below, c)))

  -- the runtime's words are before the list
  before_list : (a : ℕ) → a < l.row + 16 → a < l.list.address
  before_list a h = let apart = given.source.apart in omega (arith, apart, h)

  list_fits : list_of (summaries p) p.shared code ≤ l.entries
  list_fits = subst (λ b. list_of (summaries p) p.shared b ≤ l.entries) (body_is p l s.task i)
      (given.source.room.list s.task st.start.undecided.is_open.is_task)

  -- a scalar that the task writes is private, and then the task has its copy, or is written in place
  written_quiet : (v n w : ℕ) → IsScalarWord here v n → some_path_writes p.functions code v ≡ true → w < 0x10000 → Quiet (scalar_address here v n) w
  written_quiet v n w h e small = ⊎_elim copied in_place (cases_Bool (is_private_in p.functions code v))
    where
      its : IsPlaceOfScalar (slice_get (map_seen p.functions code l).variables v)
      its = scalar_place (slice_get (map_seen p.functions code l).variables v) (words_scalar (slice_get (map_seen p.functions code l).variables v) n h)

      below : n < scalar_words its.width
      below = subst (λ k. n < k) (ap words_at its.place) h

      at : slice_get l.variables v ≡ Some (Scalar its.home its.copy its.width)
      at = scalar_of_seen p.functions code l v its.home its.copy its.width its.place

      copied : is_private_in p.functions code v ≡ true → Quiet (scalar_address here v n) w
      copied is =
          let r = facts.privates in
          let entry : PrivateScalar = record { number = v; home = its.home; copy = its.copy; width = its.width } in
          copy_quiet (scalar_address here v n) w small
          (subst (IsCopyWord sites) (sym (ap (λ z. 2 * n + z) (r.private v its.home its.copy its.width at is)))
          (private_copy p l given.privates s.task i entry n (r.each v its.home its.copy its.width at is) below))

      in_place : is_private_in p.functions code v ≡ false → Quiet (scalar_address here v n) w
      in_place not_private =
          let stays : stays_in_place p.functions code v ≡ true =
          and_from (some_path_writes p.functions code v) (not (is_private_in p.functions code v)) e (ap not not_private) in
          let number : v ≡ 0 + v = omega arith in
          let is : sites.written_in_place s.task (2 * n + its.home) ≡ true =
          scalar_is (stays_in_place p.functions (task_body p s.task)) 0 l.variables v its.home its.copy its.width n at below
          (sym (ap (stays_in_place p.functions (task_body p s.task)) number) ∙ ap (λ b. stays_in_place p.functions b v) (body_is p l s.task i) ∙ stays) in
          let word = scalar_home l v its.home its.copy its.width n at below in
          subst (λ z. Quiet z w) (sym (ap (λ z. 2 * n + z) (facts.privates.left v its.home its.copy its.width at not_private)))
          (home_quiet (2 * n + its.home) w small (given.source.words.is_shared v n (2 * n + its.home) word) is)

  pub task_quiet : (a w : ℕ) → IsTaskStore here (some_path_writes p.functions code) space ver a w → w < 0x10000 → Quiet a w
  task_quiet a w (at_variable v n h e is) small = subst (λ z. Quiet z w) (sym is) (written_quiet v n w h e small)
  task_quiet a w (at_copy x h is) small = subst (λ z. Quiet z w) (sym is) (copy_quiet _ w small (facts.seen.copies x h))
  task_quiet a w (at_element undo x h is) small = let redo = facts.redo in absurd (cc (redo, undo))
  task_quiet a w (at_version x h is e) small = subst (λ z. Quiet z w) (sym is) (version_quiet _ w small e (facts.seen.versions x h))
  task_quiet a w (in_list lo hi) small =
      let apart = given.source.apart in let fits = list_fits in buffer_quiet a w small lo (omega (arith, apart, hi, fits))
  task_quiet a w (at_list_length is h) small =
      word_quiet a w small (omega (arith, is)) (before_list a (omega (arith, is))) (λ q. omega (arith, is, q)) (λ q. omega (arith, is, q))
      (λ q. omega (arith, is, q))
  task_quiet a w (at_emit_count is h) small =
      word_quiet a w small (omega (arith, is)) (before_list a (omega (arith, is))) (λ q. omega (arith, is, q)) (λ q. omega (arith, is, q))
      (λ q. omega (arith, is, q))
  task_quiet a w (in_buffer j h is) small =
      let apart = given.source.apart in let fits = emits_fit run in buffer_quiet a w small (omega (arith, apart, is)) (omega (arith, apart, is, h, fits))
  task_quiet a w (at_answer k) small =
      ⊎_elim {C = Quiet a w} (λ e. event_quiet a w small (omega (arith, e))) (λ e. event_quiet a w small (omega (arith, e))) k.1

  pub transition_quiet : (a w : ℕ) → IsTransitionStore here space a w → w < 0x10000 → Quiet a w
  transition_quiet a w (at_next_task is) small =
      word_quiet a w small (omega (arith, is)) (before_list a (omega (arith, is))) (λ q. omega (arith, is, q)) (λ q. omega (arith, is, q))
      (λ q. omega (arith, is, q))
  transition_quiet a w (transition.at_list_length is h) small =
      word_quiet a w small (omega (arith, is)) (before_list a (omega (arith, is))) (λ q. omega (arith, is, q)) (λ q. omega (arith, is, q))
      (λ q. omega (arith, is, q))
  transition_quiet a w (at_sent_base is) small =
      word_quiet a w small (omega (arith, is)) (before_list a (omega (arith, is))) (λ q. omega (arith, is, q)) (λ q. omega (arith, is, q))
      (λ q. omega (arith, is, q))
  transition_quiet a w (in_entries lo hi) small =
      let apart = given.source.apart in let fits = list_fits in buffer_quiet a w small lo (omega (arith, apart, hi, fits))
  transition_quiet a w (at_sent_tail on e) small = event_quiet a w small (omega (arith, e))
