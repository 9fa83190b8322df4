-- A started attempt stands for the source's attempt of the task.
use Rattle.task_attempts.proofs.Names.{◌≡◌, ℕ, ◌+◌, ◌*◌, ◌<◌, [], length, Option, Some, None, Bool, true, false, ◌&&◌, not, refl, sym, ap, ◌∙◌, subst, ⊎_elim}
use Rattle.task_attempts.proofs.Names.{arith, cases_Bool, and_parts, and_from, slice_get_within, slice_get, slice_index_or, entries_from}
use Rattle.task_attempts.proofs.Names.{is_private_of, Variables, word_at, Attempt, run_block, fresh_attempt, task_body, Shared, started}
use Rattle.task_attempts.proofs.Names.{List, TaskInputs, answered_by}
use Rattle.task_attempts.proofs.Names.{own_word, place_length}
use Rattle.task_attempts.proofs.Names.{StandsFor, some_path_writes, map_seen, SeenFrom, seen_from, IsScalarIn, scalar_found}
use Rattle.task_attempts.proofs.Names.{found_word, in_place_written, in_place_not_private, stays_in_place, program_places}
use Rattle.task_attempts.proofs.Names.{IsPlaceOfScalar, Version, VariablePlace, Scalar, Array}
use Rattle.task_attempts.proofs.Names.{scalar_words, home_region, word_place, scalar_address, words_at, home_in, IsScalarWord, Element, IsElement, IsCopied}
use Rattle.task_attempts.proofs.Names.{version_address, element_address, IsWordOf}
use Rattle.source_values.specs.Statements.{meanings}
use Rattle.task_ast.specs.Paths.{CheckedFunction}
use Rattle.std.specs.Prelude.{All}
use Rattle.lower.proofs.Interface.{scalar as seen_scalar, array as seen_array, read as seen_read}
use Rattle.task_attempts.proofs.Tasks.{body_is}
use Rattle.task_attempts.proofs.Names.{IsRedo, IsUndo, ListLength}
use Rattle.task_attempts.proofs.Started.{Attempting, scene}
use Rattle.task_attempts.proofs.Held.{refreshed, refreshed_count, refreshed_locals, refreshed_rows, refreshed_other, refreshed_held, refreshed_runs}
use Rattle.task_attempts.proofs.Rows.{rows_count}
use Rattle.task_attempts.proofs.Words.{own_unmarked, element_word}

-- whether a place is one of a scalar
abbrev pub is_scalar_at : Option VariablePlace → Bool
is_scalar_at (Some (Scalar home copy width)) = true
is_scalar_at (Some (Array elements length copies)) = false
is_scalar_at None = false

scalar_at_is : (o : Option VariablePlace) → is_scalar_at o ≡ true → IsPlaceOfScalar o
scalar_at_is (Some (Scalar home copy width)) h = record { home = home; copy = copy; width = width; place = refl }
scalar_at_is (Some (Array elements length copies)) h = absurd (let none : false ≡ true = h in cc)
scalar_at_is None h = absurd (let none : false ≡ true = h in cc)

pub unheld_of : (a b c : Bool) → c ≡ true → (a && (b && not c)) ≡ false
unheld_of true true true h = refl
unheld_of true true false h = absurd (let none : false ≡ true = h in cc)
unheld_of true false c h = refl
unheld_of false b c h = refl

module _ (run : Attempting) where
  open run use {program as p, map as l, given, state as s, task as i, own as own_place, facts, world as x, inputs, undecided}
  open (scene run) use {here, code}

  -- the scalars that the task writes in place, and their words in FRAM
  abbrev pub is_held : ℕ → Bool
  is_held v = is_scalar_at (slice_get l.variables v) && stays_in_place p.functions code v

  abbrev pub held_words : ℕ → ℕ
  held_words v = words_at (slice_get l.variables v)

  abbrev pub held_word : ℕ → ℕ → ℕ
  held_word v n = x.fram (2 * n + home_in (slice_get l.variables v))

  -- the readings that are left, and these answers
  abbrev pub readings_and : List ℕ → TaskInputs
  readings_and answers = record { readings = inputs.readings; answers = answers }

  abbrev pub own : Variables
  own = (fresh_attempt s.shared (readings_and [])).variables

  -- the variables as FRAM has them: the state's words, but for the scalars that the task writes in place
  abbrev pub held : Variables
  held = refreshed is_held held_words held_word (length l.variables) own

  abbrev pub held_attempt : Attempt
  held_attempt = record (fresh_attempt s.shared (readings_and [])) { variables = held }

  count_is : length s.shared ≡ length l.variables
  count_is = rows_count p.shared s.shared undecided.is_open.is_state ∙ sym given.variables.count

  held_scalar : (v : ℕ) → is_held v ≡ true → IsPlaceOfScalar (slice_get l.variables v) × (stays_in_place p.functions code v ≡ true)
  held_scalar v h =
      let parts = and_parts (is_scalar_at (slice_get l.variables v)) (stays_in_place p.functions code v) h in
      (scalar_at_is (slice_get l.variables v) parts.0, parts.1)

  -- the task comes to the same from what FRAM has as from the state
  pub held_runs : (answers : List ℕ)
      → run_block (meanings p) code (answered_by answers held_attempt) ≡ run_block (meanings p) code (fresh_attempt s.shared (readings_and answers))
  held_runs answers =
      refreshed_runs is_held held_words held_word p.functions facts.callable code facts.calls (λ v h.
      let at = held_scalar v h in
      let place = at.0 in
      let scalars = facts.scalars v place.home place.copy place.width place.place in (
        subst (λ n. IsScalarIn v n code) (sym (ap words_at place.place)) scalars.0,
        subst (λ n. All (λ (f : CheckedFunction). IsScalarIn v n f.body) p.functions) (sym (ap words_at place.place)) scalars.1,
        in_place_written p.functions facts.callable code v facts.calls at.1,
        λ private.
            let clash : true ≡ false =
            sym (is_private_of (Shared v) p.functions facts.callable code facts.calls private) ∙ in_place_not_private p.functions code v at.1 in absurd (cc),
      ))
      (length l.variables) (fresh_attempt s.shared (readings_and answers))

  -- a word that is written in place is one of a held scalar
  in_place_held : (v n a : ℕ) → IsWordOf l v n a → (program_places p l).written_in_place s.task a ≡ true → is_held v ≡ true
  in_place_held v n a h w =
      let at = scalar_found (stays_in_place p.functions (task_body p s.task)) 0 l.variables a w in
      let word = found_word (stays_in_place p.functions (task_body p s.task)) 0 l a at in
      let same : at.behind ≡ v = (given.words.one at.behind v at.index n a word h).0 in
      let number : 0 + at.behind ≡ v = omega (arith, same) in
      let stays : stays_in_place p.functions code v ≡ true =
      sym (ap (λ b. stays_in_place p.functions b v) (body_is p l s.task i)) ∙ sym (ap (stays_in_place p.functions (task_body p s.task)) number) ∙ at.is_so in
      and_from (is_scalar_at (slice_get l.variables v)) (stays_in_place p.functions code v)
      (ap (λ o. is_scalar_at o) (sym (ap (slice_get l.variables) same) ∙ at.place)) stays

  -- a word that isn't held is the state's
  word_stays : (v n a : ℕ) → IsWordOf l v n a → is_held v ≡ false → x.fram a ≡ word_at own (Shared v) n
  word_stays v n a h none =
      ⊎_elim {C = x.fram a ≡ word_at own (Shared v) n}
      (λ w. let clash : true ≡ false = sym (in_place_held v n a h w) ∙ none in absurd (cc))
      (λ e. e ∙ given.words.is_word s.shared v n a h)
      (undecided.shared a (given.words.is_shared v n a h))

  held_place : (v n a : ℕ) (place : VariablePlace) → slice_get l.variables v ≡ Some place → n < (home_region place).words
      → a ≡ 2 * n + (home_region place).address
      → is_held v ≡ true → x.fram a ≡ word_at held (Shared v) n
  held_place v n a (Scalar home copy width) at below is h =
      let inside = slice_get_within l.variables v (Scalar home copy width) at in
      let row = (given.words.fit s.shared undecided.is_open.is_state v (Scalar home copy width) at).1 in
      let count = count_is in
      let wide : held_words v ≡ scalar_words width = ap words_at at in
      ap x.fram is ∙ sym (ap (λ o. x.fram (2 * n + home_in o)) at)
      ∙ sym (refreshed_held is_held held_words held_word (length l.variables) own v n h inside (omega (arith, count)) (omega (arith, row, wide))
      (omega (arith, below, wide)))
  held_place v n a (Array elements len copies) at below is h =
      let scalar = (held_scalar v h).0 in
      let both : Some (Array elements len copies) ≡ Some (Scalar scalar.home scalar.copy scalar.width) = sym at ∙ scalar.place in absurd (cc)

  -- a shared word is that of the variables
  pub home_stands : (v n a : ℕ) → IsWordOf l v n a → x.fram a ≡ word_at held (Shared v) n
  home_stands v n a h =
      ⊎_elim {C = x.fram a ≡ word_at held (Shared v) n}
      (λ e. held_place v n a h.place h.at h.below h.address e)
      (λ e. word_stays v n a h e ∙ sym (refreshed_other is_held held_words held_word (length l.variables) own v n e))
      (cases_Bool (is_held v))

  -- no element has a version word of this attempt
  none_marked : (e : Element) → IsCopied here e
      → x.fram (version_address here e) ≡ x.fram (word_place l Version) → ⊥
  none_marked e c h =
      let v = facts.versions e c in
      let below = run.versions v.number v.below in
      let at : x.fram (version_address here e) ≡ x.fram (l.versions.address + 2 * v.number) = ap x.fram v.is in
      omega (arith, h, below, at)

  element_stands : (e : Element) → IsElement here e
      → own_word here x.fram (slice_get (map_seen p.functions code l).variables e.array) e.index ≡ word_at held (Shared e.array) e.index
  element_stands e h =
      own_unmarked here x.fram e h (none_marked e) ∙ home_stands e.array e.index (element_address here e) (element_word p.functions l code own_place e h)

  -- the lengths of the variables' rows
  length_seen : (v : ℕ) (place : VariablePlace) → SeenFrom l.variables v (some_path_writes p.functions code v) place
      → (v < length s.shared) × (length (slice_index_or s.shared v []) ≡ place_length place)
  length_seen v _ (seen_scalar home copy width at) = given.words.fit s.shared undecided.is_open.is_state v (Scalar home copy width) at
  length_seen v _ (seen_array elements n copies at written) = given.words.fit s.shared undecided.is_open.is_state v (Array elements n copies) at
  length_seen v _ (seen_read elements n copies at unwritten) = given.words.fit s.shared undecided.is_open.is_state v (Array elements n copies) at

  lengths_are : (v : ℕ) (place : VariablePlace) → slice_get (map_seen p.functions code l).variables v ≡ Some place
      → (v < length s.shared) × (length (slice_index_or s.shared v []) ≡ place_length place)
  lengths_are v place e = length_seen v place (seen_from (some_path_writes p.functions code) l.variables v place e)

  -- nothing is listed but what the start lists
  pub record ListsNone : Type 0 where
    pub pairs : IsRedo here → entries_from (x.fram (word_place l ListLength)) l.list.address x.fram ≡ []
    pub runs : IsRedo here → (i : ℕ) → i < x.fram (word_place l ListLength) → 0 < x.fram (l.list.address + 6 * i + 4)
    pub count : IsUndo here → x.fram (word_place l ListLength) ≡ run.first + 0

  -- where each scalar has the attempt's words, the state stands for it
  pub attempt_stands : ((v n : ℕ) → IsScalarWord here v n → x.fram (scalar_address here v n) ≡ word_at held (Shared v) n) → ListsNone
      → StandsFor here run.first held_attempt [] (started x.fram inputs)
  attempt_stands words none =
      let count = count_is in
      record {
        variables = record {
          words = words;
          elements = element_stands;
          rows = λ v place e.
              let inside = (lengths_are v place e).0 in
              let rows = refreshed_count is_held held_words held_word (length l.variables) own in omega (arith, inside, rows);
          lengths = λ v place e.
              refreshed_rows is_held held_words held_word (length l.variables) own v (omega (arith, count)) ∙ (lengths_are v place e).1;
          locals = λ n v e. cc e;
          local_count = ap length (refreshed_locals is_held held_words held_word (length l.variables) own);
        };
        emitted = record { emit_count = run.emit_count; emits = λ n h. absurd (omega (arith, h)) };
        list = record {
          are_listed = record { copied = λ n d h. absurd (omega (arith, h)); different = λ n m d a b. absurd (omega (arith, b)) };
          pairs = none.pairs;
          runs = none.runs;
          count = none.count;
          marked = λ e h. let k = h.1 in absurd (omega (arith, k));
          only_marked = λ e c h. absurd (none_marked e c h);
        };
        readings = refl;
      }
