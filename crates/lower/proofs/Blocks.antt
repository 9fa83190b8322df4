-- The program of statements does what they do.
use Rattle.lower.proofs.Names.{◌≡◌, ℕ, zero, suc, ◌+◌, ◌-◌, ◌*◌, ◌/◌, ◌%◌, ◌<◌, ◌≤◌, List, [], ◌∷◌, ◌++◌, length, Option, Some, None, Bool, true, false, refl}
use Rattle.lower.proofs.Names.{sym, ap, ◌∙◌, subst, arith, if◌then◌else◌, le_refl, ⊎_elim, cases_lt, Store, put, CheckedExpression, CheckedStatement}
use Rattle.lower.proofs.Names.{CheckedChoice, CheckedBlock, PlacedOperator, Variable, Shared, Local, CheckedTask, Evaluated, word_at, with_word, converted}
use Rattle.lower.proofs.Names.{value_of, holds, Outcome, to_task, if_value, with_value, run_statement, run_choice, run_block, statement_emits, choice_emits}
use Rattle.lower.proofs.Names.{step, block_emits, statement_count, choice_count, block_count, is_shared, is_store_to, more_turns, IsOneWord, WordType}
use Rattle.lower.proofs.Names.{Unsigned, Int, Long, runs_go_on_along_paths, PlainOperation, plain_word, stacked, Program, keep, emit_word}
use Rattle.lower.proofs.Names.{choose, repeat, nothing, joined, WordState, Behaviour, then_on, local_updated, is_place, at_place, stored}
use Rattle.lower.proofs.Names.{with_local, word_emitted, pushed, way_by_top, tested, behaviour, with_stack, step_behaviour, joined_go_on, joined_assoc}
use Rattle.lower.proofs.Names.{ShiftOperator, Literal}
use Rattle.lower.proofs.Names.{decided_by_truth, update_step, write_long, setting, long_setting, updating, of_words, sides_set, scalar_assignment}
use Rattle.lower.proofs.Names.{doubling, shift_set}
use Rattle.lower.proofs.Names.{lowered_long, one, write_step, written_array, list_place, store_step, update_element_step, loop_local, assignment}
use Rattle.lower.proofs.Names.{index_and_value, element_setting, element_updating, element_sides_set, element_assignment, lowered_transition}
use Rattle.lower.proofs.Names.{lowered_expression, lowered_test, lowered_statement, lowered_choice, lowered_block, lowered_task, lowered_tasks}
use Rattle.lower.proofs.Names.{listed_of, IsLocal, WellFormedExpression, WellFormedStatement, WellFormedChoice, WellFormedBlock, local_word}
use Rattle.lower.proofs.Names.{assignment_writes, store_writes, loop_writes, taken_writes, passed_writes, first_writes, others_write, statement_sum}
use Rattle.lower.proofs.Names.{choice_sum, block_sum, summary, IsWrittenArray, StandsFor, Scene, converted_to}
use Rattle.lower.proofs.Names.{truth_of, BlocksAgree, MemoryMap, TaskPlace, word_place, ListLength, EmitCount, Version, VariablePlace, word_even}
use Rattle.lower.proofs.Names.{first_word, privates_few, address_of, scalar_address, IsScalarWord, scalar, Inputs}
use Rattle.lower.proofs.Names.{AdmitsExpression, ExpressionWritesWithin, HoldVariables, called_stores, code_places, give, local_number, locals_from, returns}
use Rattle.lower.proofs.Names.{seen_from}
use Rattle.source_values.specs.Values.{Attempt}
use Rattle.source_values.specs.Statements.{goes_on}
use Rattle.task_ast.specs.Types.{type_of, joined_type}
use Rattle.lower.proofs.Declared.{IsTarget, IsLongTarget, IsTargetOf, local_target, target_of, array_target}
use Rattle.lower.proofs.Addresses.{fram_place, placed, spot_place, first_address}
use Rattle.lower.proofs.Updates.{is_update, update_goes_on, is_doubling, doubling_goes_on, is_element_update, element_update_goes_on, is_of_words, joined_words}
use Rattle.cost_bound.specs.Counts.{stores_of}
use Rattle.lower.proofs.Assigned.{word_value, word_as_value, if_same, if_converted, both_assigned, assigned_as, same_conversion, words_commute}
use Rattle.lower.proofs.Names.{AdmitsBlock, AdmitsChoice, AdmitsStatement, Answering, IsFit, answered_by, conditions_count, conditions_emit, max}
use Rattle.lower.proofs.Names.{by_answers, event_index, runs_of, Base}
use Rattle.lower.proofs.Sequence.{Spare, none_spare, Covers, before, Keeping, Keeps, spared, stands_still, LeavesWords, as_outcome, value_then}
use Rattle.lower.proofs.Values.{holds_bit, truth_pushed, single}
use Rattle.lower.proofs.EachExpression.{high_is, KeepsBefore, expression_leaves, long_leaves, test_leaves}
use Rattle.lower.proofs.Writes.{declared_writes, assigned_writes, place_writes, stored_writes, given_writes, condition_writes, right_writes, known_goes_on}
use Rattle.lower.proofs.Calls.{KnownAgree}
use Rattle.lower.proofs.Emitted.{EmitsAtMost, statement_emitted, block_emitted}
use Rattle.lower.proofs.Stored.{same_variables, same_list, spot_list, scalar_set, local_holds, after_emit, emit_spots, first_held, emit_list, emitted_emits}
use Rattle.lower.proofs.Stored.{own_number, few_words}
use Rattle.lower.proofs.Neighbours.{runs_are_few}
use Rattle.lower.proofs.Transitions.{transition_behaves, transition_untold, untold_store}
use Rattle.lower.proofs.Ends.{Does, does_then, does_alone, does_behind, settles}
use Rattle.lower.proofs.Names.{Logging, Redo, Undo, own_write, own_update, array_place, to_variable, to_buffer, to_emit_count}
use Rattle.lower.proofs.Acts.{plain_did}
use Rattle.lower.proofs.Logged.{logged_does, logged_update_does}
use Rattle.lower.proofs.Elements.{Start, DoesFrom, few_emitted, few_listed, list_fits, store_does, element_update_does, spot_stands}
use Rattle.task_ast.specs.Tree as t
use Rattle.source_values.specs.Statements as source
use Rattle.task_ast.proofs.Interface as one_word
use Rattle.array_versions.specs.Behaviour as words

module _ (z : Scene) (known : KnownAgree z) where
  -- the number of a local
  abbrev number_of : ℕ → ℕ
  number_of n = local_number (code_places z) n

  -- how many stores to a shared array the calls of a text count
  abbrev stores_in : ℕ → List ℕ
  stores_in v = called_stores z.fs.summaries v

  -- ---- steps that take a value, where statements begin

  -- nothing is done
  nothing_does : {n : ℕ} {count : ℕ → ℕ} (here : Start z n count) → DoesFrom here (words.goes_on [] here.w) goes_on
  nothing_does here = settles z here.w.fram here.most here.w.stack [] here.w here.m (record {
    did = plain_did z.p z.written z.room z.ver [] here.w.fram tt;
    untold = refl;
    stack_kept = refl;
    listed = here.listed;
    stands = here.stands;
    few = few_listed here;
  })

  -- where a word of a shared scalar is set
  word_stands : (i j : ℕ) {n : ℕ} {count : ℕ → ℕ} (here : Start z n count) (v : ℕ) → IsScalarWord z.p i j
      → StandsFor z.p z.first (source.assigned here.m (Shared i) j v) here.listed (seen_from z.own (stored (scalar_address z.p i j) v here.w))
  word_stands i j here v is = spot_stands here (scalar i j) v (with_word here.m.variables (Shared i) j v) is (λ x e. cc)
      (scalar_set z.p z.room i j v here.m.variables here.w.fram (locals_from z.own here.w.locals) z.apart is here.stands.variables)

  word_number : (i j : ℕ) {n : ℕ} {count : ℕ → ℕ} (here : Start z n count) (v : ℕ) → IsScalarWord z.p i j
      → put here.w.fram (scalar_address z.p i j) v (word_place z.p.map Version) ≡ z.ver
  word_number i j here v is = (spot_list z.p z.room (scalar i j) v here.w.fram z.apart is (λ x e. cc)).version ∙ here.number

  abbrev word_set : (i j : ℕ) {n : ℕ} {count : ℕ → ℕ} (here : Start z n count) (v : ℕ) → IsScalarWord z.p i j → Start z n count
  word_set i j here v is = record {
    m = source.assigned here.m (Shared i) j v;
    listed = here.listed;
    w = stored (scalar_address z.p i j) v here.w;
    most = here.most;
    stands = word_stands i j here v is;
    number = word_number i j here v is;
    emits = here.emits;
    lists = here.lists;
    within = here.within;
  }

  -- a word of a shared scalar is set, and what is done behind that with the stack below
  word_kept_then : (i j : ℕ) {n : ℕ} {count : ℕ → ℕ} (here : Start z n count) (v : ℕ) (below : List ℕ) (next : WordState → Behaviour)
      (run : Attempt → Outcome) → (is : IsScalarWord z.p i j) → z.written i ≡ true
      → DoesFrom (word_set i j here v is) (next (with_stack below (stored (scalar_address z.p i j) v here.w))) run
      → DoesFrom here (then_on (step_behaviour (keep (scalar_address z.p i j)) (with_stack (v ∷ below) here.w)) next)
      (λ m. run (source.assigned m (Shared i) j v))
  word_kept_then i j here v below next run is ok h =
      let at = scalar_address z.p i j in
      let u : WordState = with_stack below (stored at v here.w) in
      let low = z.apart.below (scalar i j) is in
      subst (λ r. DoesFrom here (then_on r next) (λ m. run (source.assigned m (Shared i) j v)))
      (sym (placed at (words.goes_on (Store at v ∷ []) u) (spot_place z.p z.room (scalar i j) z.apart z.even is)))
      (does_behind z here.w.fram u.fram here.most here.w.stack (Store at v ∷ []) (next u)
      (λ answers. run (answered_by answers (source.assigned here.m (Shared i) j v))) refl
      (plain_did z.p z.written z.room z.ver (Store at v ∷ []) here.w.fram (to_variable i j is ok refl, tt))
      (untold_store at v [] (λ e. omega (arith, e, low))) h)

  word_kept_does : (i j a : ℕ) {n : ℕ} {count : ℕ → ℕ} (here : Start z n count) (v : ℕ)
      → a ≡ scalar_address z.p i j → IsScalarWord z.p i j → z.written i ≡ true
      → DoesFrom here (behaviour (one (keep a)) (pushed v here.w)) (λ m. goes_on (source.assigned m (Shared i) j v))
  word_kept_does i j a here v e is ok =
      subst (λ c. DoesFrom here (behaviour (one (keep c)) (pushed v here.w)) (λ m. goes_on (source.assigned m (Shared i) j v))) (sym e)
      (word_kept_then i j here v here.w.stack (behaviour nothing) goes_on is ok (nothing_does (word_set i j here v is)))

  -- a local is set, and what is known else stays
  local_stands : {n : ℕ} {count : ℕ → ℕ} (i k : ℕ) → i < 256 → (here : Start z n count)
      → StandsFor z.p z.first (source.assigned here.m (Local i) 0 k) here.listed (seen_from z.own (with_local (number_of i) k here.w))
  local_stands i k low here = record {
    variables =
        let P : ℕ → Type 0 = λ n. HoldVariables z.p (with_word here.m.variables (Local i) 0 k) here.w.fram
        (locals_from z.own (words.assigned here.w.locals n k)) in
        subst P (sym (own_number z i low)) (local_holds z.p z.own i k here.m.variables here.w.fram here.w.locals low here.stands.variables);
    emitted = here.stands.emitted;
    list = here.stands.list;
    readings = here.stands.readings;
  }

  write_does : (x : Variable) {n : ℕ} {count : ℕ → ℕ} (here : Start z n count) (v : ℕ) → IsTarget z.p z.written x
      → DoesFrom here (behaviour (one (write_step (code_places z) x)) (pushed v here.w)) (λ m. goes_on (source.assigned m x 0 v))
  write_does (Local i) here v k =
      settles z here.w.fram here.most here.w.stack [] (with_local (number_of i) v here.w) (source.assigned here.m (Local i) 0 v) (record {
        did = plain_did z.p z.written z.room z.ver [] here.w.fram tt;
        untold = refl;
        stack_kept = refl;
        listed = here.listed;
        stands = local_stands i v k here;
        few = few_listed here;
      })
  write_does (Shared i) here v k =
      word_kept_does i 0 (address_of z.p i) here v (sym (first_address z.p i)) (first_word z.p i k.0) k.1

  -- a local that has a word has what the operation gives of it
  local_updated_does : (op : PlainOperation) (i v : ℕ) (o : Option ℕ) {n : ℕ} {count : ℕ → ℕ} (here : Start z n count)
      → i < 256 → ((u : ℕ) → o ≡ Some u → word_at here.m.variables (Local i) 0 ≡ u)
      → DoesFrom here (then_on (local_updated op (number_of i) v o here.w) (behaviour nothing))
      (λ m. goes_on (source.assigned m (Local i) 0 (plain_word op (word_at m.variables (Local i) 0) v)))
  local_updated_does op i v None here few is others = tt
  local_updated_does op i v (Some u) here few is others =
      let P : ℕ → Type 0 = λ x. DoesFrom here (behaviour (one (write_step (code_places z) (Local i))) (pushed (plain_word op u v) here.w))
      (λ m. goes_on (source.assigned m (Local i) 0 (plain_word op x v))) in
      subst P (sym (is u refl)) (write_does (Local i) here (plain_word op u v) few) others

  update_does : (op : PlainOperation) (x : Variable) {n : ℕ} {count : ℕ → ℕ} (here : Start z n count) (v : ℕ) → IsTarget z.p z.written x
      → DoesFrom here (behaviour (one (update_step (code_places z) op x)) (pushed v here.w))
      (λ m. goes_on (source.assigned m x 0 (plain_word op (word_at m.variables x 0) v)))
  update_does op (Local i) here v k =
      let small = own_number z i k in
      local_updated_does op i v (here.w.locals (number_of i)) here k (λ u e. here.stands.variables.locals i u (ap here.w.locals (sym small) ∙ e))
  update_does op (Shared i) here v k =
      let u = plain_word op (here.w.fram (address_of z.p i)) v in
      let P : ℕ → Type 0 = λ x. DoesFrom here (behaviour (one (write_step (code_places z) (Shared i))) (pushed u here.w))
      (λ m. goes_on (source.assigned m (Shared i) 0 x)) in
      let held = first_held z.p i here.m.variables here.w.fram (locals_from z.own here.w.locals) here.stands.variables k.0 in
      subst P (ap (λ x. plain_word op x v) held) (write_does (Shared i) here u k)

  -- both words of a long, the high one first
  write_long_does : (x : Variable) {n : ℕ} {count : ℕ → ℕ} (here : Start z n count) (v : ℕ) → IsLongTarget z.p z.written x
      → DoesFrom here (behaviour (write_long (code_places z) x) (pushed (v / 65536) (pushed (v % 65536) here.w)))
      (λ m. goes_on (both_assigned m x v))
  write_long_does (Local i) here v k = absurd k
  write_long_does (Shared i) here v k =
      let first : IsScalarWord z.p i 0 = let is = k.0 in omega (arith, is) in
      let a = address_of z.p i in
      let low = v % 65536 in
      let high = v / 65536 in
      let behind = word_set i 1 here high k.0 in
      let last : Attempt → Outcome = λ m. goes_on (source.assigned m (Shared i) 0 low) in
      subst (λ x. DoesFrom here (behaviour (write_long (code_places z) (Shared i)) (pushed high (pushed low here.w)))
      (λ m. goes_on (record m { variables = x })))
      (words_commute here.m.variables i high low)
      (subst (λ c. DoesFrom here (behaviour (step (keep c) (one (keep a))) (pushed high (pushed low here.w)))
      (λ m. last (source.assigned m (Shared i) 1 high))) (sym (high_is z.p z.room i z.apart k.0))
      (word_kept_then i 1 here high (low ∷ here.w.stack) (behaviour (one (keep a))) last k.0 k.1
      (word_kept_does i 0 a behind low (sym (first_address z.p i)) first k.1)))

  -- so many stores to the elements of one variable
  abbrev one_store : Variable → ℕ → ℕ
  one_store x u = if is_shared u x then 1 else 0

  store_step_does : (x : Variable) (i v : ℕ) (here : Start z 0 (one_store x)) → IsWrittenArray z.p x
      → DoesFrom here (behaviour (one (store_step (code_places z) x)) (pushed v (pushed i here.w)))
      (λ m. goes_on (source.assigned m x i v))
  store_step_does (Local n) i v here k = absurd k
  store_step_does (Shared n) i v here k =
      let P : Option VariablePlace → Type 0 =
      λ o. DoesFrom here (behaviour (one (own_write z.p.map.runtime.logging (written_array o) (list_place z.p))) (pushed v (pushed i here.w)))
      (λ m. goes_on (source.assigned m (Shared n) i v)) in
      subst P (sym k.3.place) (by z.p.map.runtime.logging refl)
    where
      by : (logging : Logging) → z.p.map.runtime.logging ≡ logging
          → DoesFrom here (behaviour (one (own_write logging (array_place k.0 k.1 k.2) (list_place z.p))) (pushed v (pushed i here.w)))
          (λ m. goes_on (source.assigned m (Shared n) i v))
      by Redo redo = store_does z n i v k.0 k.1 k.2 k.3 here redo
      by Undo undo = logged_does z n i v k.0 k.1 k.2 k.3 here undo

  update_step_does : (op : PlainOperation) (x : Variable) (i v : ℕ) (here : Start z 0 (one_store x)) → IsWrittenArray z.p x
      → DoesFrom here (behaviour (one (update_element_step (code_places z) op x)) (pushed v (pushed i here.w)))
      (λ m. goes_on (source.assigned m x i (plain_word op (word_at m.variables x i) v)))
  update_step_does op (Local n) i v here k = absurd k
  update_step_does op (Shared n) i v here k =
      let P : Option VariablePlace → Type 0 =
      λ o. DoesFrom here (behaviour (one (own_update z.p.map.runtime.logging op (written_array o) (list_place z.p))) (pushed v (pushed i here.w)))
      (λ m. goes_on (source.assigned m (Shared n) i u)) in
      subst P (sym k.3.place) (by z.p.map.runtime.logging refl)
    where
      u : ℕ
      u = plain_word op (word_at here.m.variables (Shared n) i) v

      by : (logging : Logging) → z.p.map.runtime.logging ≡ logging
          → DoesFrom here (behaviour (one (own_update logging op (array_place k.0 k.1 k.2) (list_place z.p))) (pushed v (pushed i here.w)))
          (λ m. goes_on (source.assigned m (Shared n) i u))
      by Redo redo = element_update_does z n i u k.0 k.1 k.2 k.3 here redo op v refl
      by Undo undo = logged_update_does z n i u k.0 k.1 k.2 k.3 here undo op v refl

  -- ---- emits

  buffer_even : (n : ℕ) → (2 * n + z.p.map.emits.address) % 2 ≡ 0
  buffer_even n = let h = z.even.emits in omega (arith, h)

  buffer_place : (n : ℕ) → n < z.room.emits → is_place (2 * n + z.p.map.emits.address) ≡ true
  buffer_place n h = let apart = z.apart in fram_place (2 * n + z.p.map.emits.address) (buffer_even n) (omega (arith, apart)) (omega (arith, apart, h))

  emit_does : {count : ℕ → ℕ} (here : Start z 1 count) (v : ℕ)
      → DoesFrom here (behaviour (one (emit_word (word_place z.p.map EmitCount) z.p.map.emits.address)) (pushed v here.w))
      (λ m. goes_on (record m { emitted = m.emitted ++ v ∷ [] }))
  emit_does here v =
      let p = z.p in
      let apart = z.apart in
      let m = here.m in
      let f = here.w.fram in
      let count = word_place p.map EmitCount in
      let n = f count in
      let a = 2 * n + p.map.emits.address in
      let o : Attempt → Outcome = λ m. goes_on (record m { emitted = m.emitted ++ v ∷ [] }) in
      let after : Attempt = record m { emitted = m.emitted ++ v ∷ [] } in
      let counted = here.stands.emitted.emit_count in
      let few = here.emits in
      let fits = list_fits here in
      let below : n < z.room.emits = omega (arith, counted, few) in
      let last : Behaviour = words.goes_on (Store a v ∷ Store count (n + 1) ∷ []) (stored count (n + 1) (stored a v here.w)) in
      let is : word_emitted count p.map.emits.address v here.w ≡ last =
      placed count (at_place a last) (fram_place count (word_even z.p.map EmitCount z.even.row) (omega (arith, apart)) (omega (arith, apart)))
      ∙ placed a last (buffer_place n below) in
      let P : Behaviour → Type 0 = λ b. DoesFrom here (then_on b (behaviour nothing)) o in
      subst P (sym is) (settles z f here.most here.w.stack (Store a v ∷ Store count (n + 1) ∷ []) (stored count (n + 1) (stored a v here.w)) after (record {
        did = plain_did z.p z.written z.room z.ver (Store a v ∷ Store count (n + 1) ∷ []) f
            (to_buffer n below refl, (to_emit_count refl (omega (arith, below)), tt));
        untold = untold_store a v (Store count (n + 1) ∷ []) (λ e. omega (arith, e, below, apart))
            ∙ untold_store count (n + 1) [] (λ e. omega (arith, e, apart));
        stack_kept = refl;
        listed = here.listed;
        stands = record {
          variables =
              same_variables p m.variables f (after_emit p n v (n + 1) f) (locals_from z.own here.w.locals) (emit_spots p z.room n v (n + 1) f apart below)
              here.stands.variables;
          emitted = emitted_emits p z.room v m.emitted f apart here.stands.emitted;
          list = same_list p z.first z.room here.listed f (after_emit p n v (n + 1) f) (omega (arith, fits)) (emit_list p z.room n v (n + 1) f apart below)
              here.stands.list;
          readings = here.stands.readings;
        };
        few = few_listed here;
      }))

  -- ---- behind a value

  -- what states keep where statements begin, with so much to spare behind a value
  abbrev keeping : {n : ℕ} {count : ℕ → ℕ} → Start z n count → Spare → Keeping
  keeping here free = record { z = z; most = here.most; within = here.within; free = free }

  -- an expression fits the code: it is well-formed, `next_event()` stands in it only where events are taken, and the task writes what its calls write
  abbrev Fits : CheckedExpression → Type 0
  Fits e = WellFormedExpression z.shared e × AdmitsExpression z.p.map.runtime.events e × ExpressionWritesWithin z e

  -- so does the right side of an operator
  right_fits : (op : PlacedOperator) (a b : CheckedExpression) → Fits (t.binary op a b) → Fits b
  right_fits op a b fits = (fits.0.1, fits.1.1, λ v h. fits.2 v (right_writes v (z.fs.sums v) (known.go_on v) op a b h))

  -- an expression may be evaluated there, with so much to spare behind it
  abbrev HasSpare : CheckedExpression → ℕ → (ℕ → ℕ) → Spare → Type 0
  HasSpare e n count free = Covers (record { emits = n; lists = count }) (before z.fs e free)

  at_first : (e : CheckedExpression) {n : ℕ} {count : ℕ → ℕ} (here : Start z n count) (free : Spare) → HasSpare e n count free
      → KeepsBefore (keeping here free) e here.m here.w
  at_first e {n} {count} here free room =
      spared (keeping here (record { emits = n; lists = count })) (before z.fs e free) here.m here.w room (record {
        listed = here.listed;
        stands = record {
          variables = here.stands.variables;
          emitted = here.stands.emitted;
          list = here.stands.list;
          readings = here.stands.readings;
        };
        number = here.number;
        emits = here.emits;
        lists = here.lists;
      })

  -- a state behind a value, the value taken from the stack
  record Behind {n : ℕ} {count : ℕ → ℕ} (here : Start z n count) (free : Spare) : Type 0 where
    m : Attempt
    w : WordState
    kept : Keeps (keeping here free) m w

  abbrev behind_value : {n : ℕ} {count : ℕ → ℕ} (here : Start z n count) (free : Spare) → Behind here free → Start z free.emits free.lists
  behind_value here free there = record {
    m = there.m;
    listed = there.kept.listed;
    w = with_stack here.w.stack there.w;
    most = here.most;
    stands = stands_still (keeping here free) there.m there.w here.w.stack there.kept;
    number = there.kept.number;
    emits = there.kept.emits;
    lists = there.kept.lists;
    within = here.within;
  }

  -- what is done from each state behind a value, with words of it on these
  abbrev DoesBehind : {n : ℕ} {count : ℕ → ℕ} → Start z n count → Spare → (ℕ → List ℕ) → List ℕ → (WordState → Behaviour) → (ℕ → Attempt → Outcome) → Type 0
  DoesBehind here free words below next more =
      (v : ℕ) (there : Behind here free) → DoesFrom (behind_value here free there) (next (with_stack (words v ++ below) there.w)) (more v)

  -- a program that leaves words of a value, and what goes on from there
  value_does : {n : ℕ} {count : ℕ → ℕ} (here : Start z n count) (free : Spare) (words : ℕ → List ℕ) (u : WordState) (b : Behaviour) (o : Answering)
      (next : WordState → Behaviour) (more : ℕ → Attempt → Outcome) → LeavesWords (keeping here free) words u b o
      → DoesBehind here free words u.stack next more
      → Does z u.fram here.most here.w.stack (then_on b next) (λ answers. if_value (o answers) more)
  value_does here free words u b o next more leaves does =
      value_then (keeping here free) (as_outcome z here.most here.w.stack) words u b o next (λ x. more x.value x.behind) leaves
      (λ x s kept. does x.value (record { m = x.behind; w = s; kept = kept }))

  -- what a program does with a word on the stack, behind a value
  abbrev DoesWith : {n : ℕ} {count : ℕ → ℕ} → Start z n count → Spare → Program → (ℕ → Attempt → Outcome) → Type 0
  DoesWith here free last more = DoesBehind here free single here.w.stack (behaviour last) more

  -- the value of an expression as one word, and a program that takes it
  value_taken : (e : CheckedExpression) {n : ℕ} {count : ℕ → ℕ} (here : Start z n count) (free : Spare) (last : Program)
      (more : ℕ → Attempt → Outcome) → HasSpare e n count free → Fits e → DoesWith here free last more
      → DoesFrom here (behaviour (joined (lowered_expression (code_places z) z.fs.bodies e) last) here.w) (λ m. if_value (word_value z.fs.meanings e m) more)
  value_taken e here free last more room fits k =
      let q = lowered_expression (code_places z) z.fs.bodies e in
      subst (λ b. DoesFrom here b (λ m. if_value (word_value z.fs.meanings e m) more)) (sym (joined_go_on q last here.w))
      (value_does here free single here.w (behaviour q here.w) (by_answers here.m (word_value z.fs.meanings e)) (behaviour last) more
      (expression_leaves (keeping here free) known e here.m here.w (at_first e here free room) (fits.0, fits.1) fits.2) k)

  -- ---- assignments

  -- a variable of one word is set to a value as one word
  abbrev Sets : {n : ℕ} {count : ℕ → ℕ} → Variable → CheckedExpression → Start z n count → Program → Type 0
  Sets x e here q = DoesFrom here (behaviour q here.w) (λ m. if_value (word_value z.fs.meanings e m) (λ v s. goes_on (source.assigned s x 0 v)))

  setting_does : (x : Variable) (e : CheckedExpression) {n : ℕ} {count : ℕ → ℕ} (here : Start z n count)
      → HasSpare e n count none_spare → Fits e → IsTarget z.p z.written x
      → Sets x e here (setting (code_places z) z.fs.bodies x e)
  setting_does x e here room fits target =
      value_taken e here none_spare (one (write_step (code_places z) x)) (λ v s. goes_on (source.assigned s x 0 v)) room fits
      (λ v there. write_does x (behind_value here none_spare there) v target)

  -- room for both sides is room for the right one
  right_room : (op : PlacedOperator) (a b : CheckedExpression) {n : ℕ} {count : ℕ → ℕ} (free : Spare) → HasSpare (t.binary op a b) n count free
      → HasSpare b n count free
  right_room op a b free room = record {
    emits = let l = room.emits in omega (arith, l);
    lists = λ v. let l = room.lists v in omega (arith, l);
  }

  -- in place, where both sides are of one word
  sides_do : (x : Variable) (op : PlacedOperator) (a b : CheckedExpression) (o : Option PlainOperation) {n : ℕ} {count : ℕ → ℕ} (here : Start z n count)
      → of_words (joined_type (type_of a) (type_of b)) (updating x op.operator a b) ≡ o
      → HasSpare (t.binary op a b) n count none_spare → Fits (t.binary op a b) → IsTarget z.p z.written x
      → Sets x (t.binary op a b) here (sides_set (code_places z) z.fs.bodies x op a b o)
  sides_do x op a b None here is room fits target = setting_does x (t.binary op a b) here room fits target
  sides_do x op a b (Some o) here is room fits target =
      let word = is_of_words (joined_type (type_of a) (type_of b)) (updating x op.operator a b) o is in
      let types = joined_words (type_of a) (type_of b) word.word in
      let whole = one_word.binary_word op.operator (type_of a) (type_of b) types.0 types.1 in
      let given : ℕ → Attempt → Outcome = λ v s. goes_on (source.assigned s x 0 v) in
      let next : ℕ → Attempt → Outcome = λ v s. goes_on (source.assigned s x 0 (plain_word o (word_at s.variables x 0) v)) in
      let same : (m : Attempt) → if_value (word_value z.fs.meanings b m) next ≡ if_value (word_value z.fs.meanings (t.binary op a b) m) given =
      λ m. ap (λ r. if_value r next) (word_as_value z.fs.meanings b m types.1)
      ∙ sym (update_goes_on z.fs.meanings x op a b o m (is_update x op.operator a b o word.is) types.0 types.1)
      ∙ sym (ap (λ r. if_value r given) (word_as_value z.fs.meanings (t.binary op a b) m whole)) in
      subst (DoesFrom here (behaviour (sides_set (code_places z) z.fs.bodies x op a b (Some o)) here.w)) (λ j. λ m. same m j)
      (value_taken b here none_spare (one (update_step (code_places z) o x)) next (right_room op a b none_spare room) (right_fits op a b fits)
      (λ v there. update_does o x (behind_value here none_spare there) v target))

  shift_does : (x : Variable) (op : ShiftOperator) (e : CheckedExpression) (k : Literal) (o : Option PlainOperation) {n : ℕ} {count : ℕ → ℕ}
      (here : Start z n count) → of_words (type_of e) (doubling x op e k.value) ≡ o
      → HasSpare (t.shift op e k) n count none_spare → Fits (t.shift op e k) → IsTarget z.p z.written x
      → Sets x (t.shift op e k) here (shift_set (code_places z) z.fs.bodies x op e k o)
  shift_does x op e k None here is room fits target = setting_does x (t.shift op e k) here room fits target
  shift_does x op e k (Some o) here is room fits target =
      let word = is_of_words (type_of e) (doubling x op e k.value) o is in
      let given : ℕ → Attempt → Outcome = λ v s. goes_on (source.assigned s x 0 v) in
      let next : ℕ → Attempt → Outcome = λ v s. goes_on (source.assigned s x 0 (plain_word o (word_at s.variables x 0) v)) in
      let same : (m : Attempt) → if_value (word_value z.fs.meanings e m) next ≡ if_value (word_value z.fs.meanings (t.shift op e k) m) given =
      λ m. ap (λ r. if_value r next) (word_as_value z.fs.meanings e m word.word)
      ∙ sym (doubling_goes_on z.fs.meanings x op e k o m (is_doubling x op e k.value o word.is) word.word)
      ∙ sym (ap (λ r. if_value r given) (word_as_value z.fs.meanings (t.shift op e k) m word.word)) in
      subst (DoesFrom here (behaviour (shift_set (code_places z) z.fs.bodies x op e k (Some o)) here.w)) (λ j. λ m. same m j)
      (value_taken e here none_spare (one (update_step (code_places z) o x)) next room (fits.0.0, fits.1, fits.2)
      (λ v there. update_does o x (behind_value here none_spare there) v target))

  -- by the kind of the expression: the first clause makes it a proof by cases
  assignment_does : (x : Variable) (e : CheckedExpression) {n : ℕ} {count : ℕ → ℕ} (here : Start z n count)
      → HasSpare e n count none_spare → Fits e → IsTarget z.p z.written x
      → Sets x e here (assignment (code_places z) z.fs.bodies x e)
  assignment_does x (t.binary op a b) here room fits target =
      sides_do x op a b (of_words (joined_type (type_of a) (type_of b)) (updating x op.operator a b)) here refl room fits target
  assignment_does x (t.shift op e count) here room fits target =
      shift_does x op e count (of_words (type_of e) (doubling x op e count.value)) here refl room fits target
  assignment_does x e here room fits target = setting_does x e here room fits target

  long_setting_does : (x : Variable) (e : CheckedExpression) {n : ℕ} {count : ℕ → ℕ} (here : Start z n count)
      → HasSpare e n count none_spare → Fits e → IsLongTarget z.p z.written x
      → DoesFrom here (behaviour (long_setting (code_places z) z.fs.bodies x e) here.w)
      (λ m. if_value (converted_to (type_of e) Long (value_of z.fs.meanings e m)) (λ v s. goes_on (both_assigned s x v)))
  long_setting_does x e here room fits target =
      let o : Attempt → Option Evaluated = λ m. converted_to (type_of e) Long (value_of z.fs.meanings e m) in
      let given : ℕ → Attempt → Outcome = λ v s. goes_on (both_assigned s x v) in
      let q = lowered_long (code_places z) z.fs.bodies e in
      subst (λ b. DoesFrom here b (λ m. if_value (o m) given)) (sym (joined_go_on q (write_long (code_places z) x) here.w))
      (value_does here none_spare stacked here.w (behaviour q here.w) (by_answers here.m o) (behaviour (write_long (code_places z) x)) given
      (long_leaves (keeping here none_spare) known e here.m here.w (at_first e here none_spare room) (fits.0, fits.1) fits.2)
      (λ v there. write_long_does x (behind_value here none_spare there) v target))

  -- a variable of one word takes the value as one word
  word_assigned_does : (of : WordType) (x : Variable) (e : CheckedExpression) {n : ℕ} {count : ℕ → ℕ} (here : Start z n count) → IsOneWord of
      → HasSpare e n count none_spare → Fits e → IsTarget z.p z.written x
      → DoesFrom here (behaviour (assignment (code_places z) z.fs.bodies x e) here.w)
      (λ m. with_value z.fs.meanings e m (λ v s. goes_on (assigned_as of s x (type_of e) v)))
  word_assigned_does of x e here word room fits target =
      subst (DoesFrom here (behaviour (assignment (code_places z) z.fs.bodies x e) here.w)) (λ j. λ m. as_word m j) (assignment_does x e here room fits target)
    where
      same : (v : ℕ) (s : Attempt) → source.assigned s x 0 (converted (type_of e) Unsigned v) ≡ assigned_as of s x (type_of e) v
      same v s = ap (source.assigned s x 0) (same_conversion (type_of e) of v word)
          ∙ sym (one_word.by_one_word of (source.assigned s x 0 (converted (type_of e) of v)) (both_assigned s x (converted (type_of e) of v)) word)

      as_word : (m : Attempt) → if_value (word_value z.fs.meanings e m) (λ v s. goes_on (source.assigned s x 0 v))
          ≡ with_value z.fs.meanings e m (λ v s. goes_on (assigned_as of s x (type_of e) v))
      as_word m =
          if_converted (type_of e) Unsigned (value_of z.fs.meanings e m) (λ v s. goes_on (source.assigned s x 0 v))
          ∙ if_same (value_of z.fs.meanings e m) _ _ (λ v s. ap goes_on (same v s))

  -- an assignment to a scalar of a type
  scalar_does : (of : WordType) (x : Variable) (e : CheckedExpression) {n : ℕ} {count : ℕ → ℕ} (here : Start z n count)
      → HasSpare e n count none_spare → Fits e → IsTargetOf z.p z.written of x
      → DoesFrom here (behaviour (scalar_assignment (code_places z) z.fs.bodies of x e) here.w)
      (λ m. with_value z.fs.meanings e m (λ v s. goes_on (assigned_as of s x (type_of e) v)))
  scalar_does Long x e here room fits target =
      subst (DoesFrom here (behaviour (long_setting (code_places z) z.fs.bodies x e) here.w))
      (λ j. λ m. if_converted (type_of e) Long (value_of z.fs.meanings e m) (λ v s. goes_on (both_assigned s x v)) j)
      (long_setting_does x e here room fits target)
  scalar_does Int x e here room fits target = word_assigned_does Int x e here tt room fits target
  scalar_does Unsigned x e here room fits target = word_assigned_does Unsigned x e here tt room fits target

  -- ---- stores to elements

  -- an index and a value, and what a program does with both
  index_and_value_do : (index e : CheckedExpression) (last : Program) (given : ℕ → ℕ → Attempt → Outcome) {n : ℕ} {count : ℕ → ℕ} (here : Start z n count)
      (free : Spare) → HasSpare index n count (before z.fs e free) → Fits index → Fits e
      → ((i v : ℕ) (there : Behind here free)
      → DoesFrom (behind_value here free there) (behaviour last (with_stack (v ∷ (i ∷ here.w.stack)) there.w)) (given i v))
      → DoesFrom here (behaviour (joined (index_and_value (code_places z) z.fs.bodies index e) last) here.w)
      (λ m. if_value (word_value z.fs.meanings index m) (λ i s. if_value (word_value z.fs.meanings e s) (given i)))
  index_and_value_do index e last given here free room of_index of_e k =
      let first = lowered_expression (code_places z) z.fs.bodies index in
      let second = lowered_expression (code_places z) z.fs.bodies e in
      let more : ℕ → Attempt → Outcome = λ i s. if_value (word_value z.fs.meanings e s) (given i) in
      subst (λ q. DoesFrom here (behaviour q here.w) (λ m. if_value (word_value z.fs.meanings index m) more)) (sym (joined_assoc first second last))
      (value_taken index here (before z.fs e free) (joined second last) more room of_index
      (λ i there.
      let u : WordState = with_stack (i ∷ here.w.stack) there.w in
      subst (λ b. DoesFrom (behind_value here (before z.fs e free) there) b (more i)) (sym (joined_go_on second last u))
      (value_does here free single u (behaviour second u) (by_answers there.m (word_value z.fs.meanings e)) (behaviour last) (given i)
      (expression_leaves (keeping here free) known e there.m u there.kept (of_e.0, of_e.1) of_e.2) (k i))))

  -- an assignment to an element does what the source's does: the index and the value are taken as one word
  abbrev stored_word : Variable → CheckedExpression → ℕ → Attempt → Outcome
  stored_word x e i s = if_value (word_value z.fs.meanings e s) (λ v s. goes_on (source.assigned s x i v))

  abbrev AssignsElement : Variable → CheckedExpression → CheckedExpression → {n : ℕ} {count : ℕ → ℕ} → Start z n count → Program → Type 0
  AssignsElement x index e here q = DoesFrom here (behaviour q here.w) (λ m. if_value (word_value z.fs.meanings index m) (stored_word x e))

  -- one store is to spare behind the index and the value
  abbrev store_spare : Variable → Spare
  store_spare x = record { emits = 0; lists = one_store x }

  abbrev HasStoreSpare : Variable → CheckedExpression → CheckedExpression → ℕ → (ℕ → ℕ) → Type 0
  HasStoreSpare x index e n count = HasSpare index n count (before z.fs e (store_spare x))

  element_setting_does : (x : Variable) (index e : CheckedExpression) {n : ℕ} {count : ℕ → ℕ} (here : Start z n count) → IsWrittenArray z.p x
      → HasStoreSpare x index e n count → Fits index → Fits e
      → AssignsElement x index e here (element_setting (code_places z) z.fs.bodies x index e)
  element_setting_does x index e here array room of_index of_e =
      index_and_value_do index e (one (store_step (code_places z) x)) (λ i v s. goes_on (source.assigned s x i v)) here (store_spare x) room of_index of_e
      (λ i v there. store_step_does x i v (behind_value here (store_spare x) there) array)

  -- what is given of an index and of a value, as of expressions of one word
  as_values : (index e : CheckedExpression) (m : Attempt) (given : ℕ → ℕ → Attempt → Outcome) → IsOneWord (type_of index) → IsOneWord (type_of e)
      → if_value (word_value z.fs.meanings index m) (λ i s. if_value (word_value z.fs.meanings e s) (given i))
      ≡ with_value z.fs.meanings index m (λ i s. with_value z.fs.meanings e s (given i))
  as_values index e m given of_index of_e =
      let more : ℕ → Attempt → Outcome = λ i s. with_value z.fs.meanings e s (given i) in
      if_same (word_value z.fs.meanings index m) _ more (λ i s. ap (λ r. if_value r (given i)) (word_as_value z.fs.meanings e s of_e))
      ∙ ap (λ r. if_value r more) (word_as_value z.fs.meanings index m of_index)

  -- room for the index and both sides is room for the index and the right one
  right_store_room : (x : Variable) (index : CheckedExpression) (op : PlacedOperator) (a b : CheckedExpression) {n : ℕ} {count : ℕ → ℕ}
      → HasStoreSpare x index (t.binary op a b) n count → HasStoreSpare x index b n count
  right_store_room x index op a b room = record {
    emits = let l = room.emits in omega (arith, l);
    lists = λ v. let l = room.lists v in omega (arith, l);
  }

  -- in place, where both sides are of one word
  element_sides_do : (x : Variable) (index : CheckedExpression) (op : PlacedOperator) (a b : CheckedExpression) (o : Option PlainOperation)
      {n : ℕ} {count : ℕ → ℕ} (here : Start z n count)
      → of_words (joined_type (type_of a) (type_of b)) (element_updating x index op.operator a b) ≡ o
      → IsWrittenArray z.p x → HasStoreSpare x index (t.binary op a b) n count → Fits index → IsOneWord (type_of index)
      → Fits (t.binary op a b)
      → AssignsElement x index (t.binary op a b) here (element_sides_set (code_places z) z.fs.bodies x index op a b o)
  element_sides_do x index op a b None here is array room of_index index_word of_e =
      element_setting_does x index (t.binary op a b) here array room of_index of_e
  element_sides_do x index op a b (Some o) here is array room of_index index_word of_e =
      let word = is_of_words (joined_type (type_of a) (type_of b)) (element_updating x index op.operator a b) o is in
      let types = joined_words (type_of a) (type_of b) word.word in
      let whole = one_word.binary_word op.operator (type_of a) (type_of b) types.0 types.1 in
      let u = is_element_update x index op.operator a b o word.is in
      let element = subst (WellFormedExpression z.shared) u.is of_e.0.0 in
      let given : ℕ → ℕ → Attempt → Outcome = λ i v s. goes_on (source.assigned s x i v) in
      let next : ℕ → ℕ → Attempt → Outcome = λ i v s. goes_on (source.assigned s x i (plain_word o (word_at s.variables x i) v)) in
      let same : (m : Attempt) → if_value (word_value z.fs.meanings index m) (λ i s. if_value (word_value z.fs.meanings b s) (next i))
      ≡ if_value (word_value z.fs.meanings index m) (stored_word x (t.binary op a b)) =
      λ m. as_values index b m next index_word types.1
      ∙ sym (element_update_goes_on z.fs.meanings x index op a b o m u (record { index = index_word; other = element.3; left = types.0; right = types.1 }))
      ∙ sym (as_values index (t.binary op a b) m given index_word whole) in
      subst (DoesFrom here (behaviour (element_sides_set (code_places z) z.fs.bodies x index op a b (Some o)) here.w)) (λ j. λ m. same m j)
      (index_and_value_do index b (one (update_element_step (code_places z) o x)) next here (store_spare x) (right_store_room x index op a b room)
      of_index (right_fits op a b of_e)
      (λ i v there. update_step_does o x i v (behind_value here (store_spare x) there) array))

  -- by the kind of the expression: the first clause makes it a proof by cases
  element_does : (x : Variable) (index e : CheckedExpression) {n : ℕ} {count : ℕ → ℕ} (here : Start z n count) → IsWrittenArray z.p x
      → HasStoreSpare x index e n count → Fits index → IsOneWord (type_of index) → Fits e
      → AssignsElement x index e here (element_assignment (code_places z) z.fs.bodies x index e)
  element_does x index (t.binary op a b) here array room of_index index_word of_e =
      element_sides_do x index op a b (of_words (joined_type (type_of a) (type_of b)) (element_updating x index op.operator a b)) here refl array room
      of_index index_word of_e
  element_does x index e here array room of_index index_word of_e = element_setting_does x index e here array room of_index of_e

  element_store_does : (x : Variable) (index e : CheckedExpression) {n : ℕ} {count : ℕ → ℕ} (here : Start z n count) → IsWrittenArray z.p x
      → HasStoreSpare x index e n count → Fits index → IsOneWord (type_of index) → Fits e
      → DoesFrom here (behaviour (element_assignment (code_places z) z.fs.bodies x index e) here.w)
      (λ m. with_value z.fs.meanings index m (λ i s. with_value z.fs.meanings e s (λ v s. goes_on (source.assigned s x i (source.word_of e v)))))
  element_store_does x index e here array room of_index index_word of_e =
      let given : ℕ → ℕ → Attempt → Outcome = λ i v s. goes_on (source.assigned s x i v) in
      let same : (m : Attempt) → if_value (word_value z.fs.meanings index m) (stored_word x e)
      ≡ with_value z.fs.meanings index m (λ i s. with_value z.fs.meanings e s (λ v s. goes_on (source.assigned s x i (source.word_of e v)))) =
      λ m. ap (λ r. if_value r (stored_word x e)) (word_as_value z.fs.meanings index m index_word)
      ∙ if_same (value_of z.fs.meanings index m) (stored_word x e) _ (λ i s. if_converted (type_of e) Unsigned (value_of z.fs.meanings e s) (given i)) in
      subst (DoesFrom here (behaviour (element_assignment (code_places z) z.fs.bodies x index e) here.w)) (λ j. λ m. same m j)
      (element_does x index e here array room of_index index_word of_e)

  -- ---- transitions

  transition_does : (task : ℕ) {n : ℕ} {count : ℕ → ℕ} (here : Start z n count)
      → DoesFrom here (behaviour (lowered_transition z.p task) here.w) (to_task task)
  transition_does task here =
      let w = here.w in
      let before = w.fram (word_place z.p.map ListLength) in
      let base = w.fram (word_place z.p.map Base) in
      let entries = few_words z.p z.first here.listed w.fram here.stands.list in
      let runs = runs_are_few z.p.privates in
      let scalars = privates_few z.p.privates in
      let fits = list_fits here in
      let few : before + length (runs_of z.p.privates) ≤ z.room.list = omega (arith, entries, runs, scalars, fits) in
      let b = transition_behaves z.p z.room task before w z.apart z.even refl few in
      let untold = transition_untold z.p z.room task before base (event_index w.fram) z.apart few in
      let P : Behaviour → Type 0 = λ b. DoesFrom here b (to_task task) in
      subst P (sym b.1) (λ others. record {
        body = [];
        there = w;
        listed = here.listed;
        effects = refl;
        did = plain_did z.p z.written z.room z.ver [] w.fram tt;
        arrived = refl;
        stands = here.stands;
        few = few_listed here;
        commits = refl;
        readings = b.2 ∙ here.stands.readings;
        answers = ap (λ l. l ++ others) untold;
      })

  -- ---- returns

  give_does : {n : ℕ} {count : ℕ → ℕ} (here : Start z n count) (v : ℕ) → DoesFrom here (behaviour (one give) (pushed v here.w)) (source.returns v)
  give_does here v others = record {
    is = refl;
    did = plain_did z.p z.written z.room z.ver [] here.w.fram tt;
    listed = here.listed;
    stands = here.stands;
    few = few_listed here;
    answers = refl;
  }

  -- ---- loops

  -- a turn of a loop: what its program does, and that it emits so much at most
  record Turn (q : Program) (run : Attempt → Outcome) (e : ℕ) (c : ℕ → ℕ) : Type 0 where
    does : (here : Start z e c) → DoesFrom here (behaviour q here.w) run
    emitted : (m : Attempt) (k : ℕ) → length m.emitted + e ≤ k → EmitsAtMost k (run m)

  -- so many turns, from a number on
  abbrev TurnsDo : ℕ → Program → (Attempt → Outcome) → ℕ → ℕ → List ℕ → {n : ℕ} {count : ℕ → ℕ} → Start z n count → Type 0
  TurnsDo i q run j k stack here =
      Does z here.w.fram here.most stack (words.turns j (number_of i) k (behaviour q) here.w)
      (λ answers. source.turns j k (Local i) run (answered_by answers here.m))

  -- no turn
  no_turns : (i : ℕ) (q : Program) (run : Attempt → Outcome) (k : ℕ) (stack : List ℕ) {n : ℕ} {count : ℕ → ℕ} (here : Start z n count) → i < 256
      → here.w.stack ≡ stack → TurnsDo i q run 0 k stack here
  no_turns i q run k stack here low same =
      settles z here.w.fram here.most stack [] (with_local (number_of i) k here.w) (source.assigned here.m (Local i) 0 k) (record {
        did = plain_did z.p z.written z.room z.ver [] here.w.fram tt;
        untold = refl;
        stack_kept = same;
        listed = here.listed;
        stands = local_stands i k low here;
        few = few_listed here;
      })

  turns_do : (i : ℕ) (q : Program) (run : Attempt → Outcome) (e : ℕ) (c : ℕ → ℕ) → i < 256 → Turn q run e c → (j k : ℕ) (stack : List ℕ)
      (here : Start z (j * e) (λ v. j * c v)) → here.w.stack ≡ stack → TurnsDo i q run j k stack here
  turns_do i q run e c low turn zero k stack here same = no_turns i q run k stack here low same
  turns_do i q run e c low turn (suc j) k stack here same =
      let m = here.m in
      let fits = more_turns j e (length m.emitted) z.room.emits here.emits in
      let lists : (v : ℕ) → listed_of v here.listed + c v + j * c v ≤ here.most v =
      λ v. more_turns j (c v) (listed_of v here.listed) (here.most v) (here.lists v) in
      let once : ℕ → ℕ = λ v. listed_of v here.listed + c v in
      let fewer : (v : ℕ) → once v ≤ here.most v = λ v. let a = lists v in omega (arith, a) in
      let first : Start z e c = record {
        m = source.assigned m (Local i) 0 k;
        listed = here.listed;
        w = with_local (number_of i) k here.w;
        most = once;
        stands = local_stands i k low here;
        number = here.number;
        emits = omega (arith, fits);
        lists = λ v. omega arith;
        within = λ v. let a = fewer v in let b = here.within v in omega (arith, a, b);
      } in
      let P : List ℕ → Type 0 = λ s. Does z here.w.fram once s (behaviour q first.w) (λ answers. run (answered_by answers first.m)) in
      does_then z once here.most stack (length m.emitted + e) (λ answers. run (answered_by answers first.m)) (record {
        q = q;
        w = first.w;
        ver = here.number;
        does = subst P same (turn.does first);
        emits = λ answers. turn.emitted (answered_by answers first.m) (length m.emitted + e) (omega arith);
      })
      (words.turns j (number_of i) (k + 1) (behaviour q)) (source.turns j (k + 1) (Local i) run) fewer
      (λ s u listing answers is there. let below = there.few_emitted in turns_do i q run e c low turn j (k + 1) stack (record {
        m = u;
        listed = listing;
        w = s;
        most = here.most;
        stands = there.stands;
        number = there.number;
        emits = omega (arith, fits, below);
        lists = λ v. let a = lists v in let b = there.few_listed v in omega (arith, a, b);
        within = here.within;
      }) there.stack_kept)

  loop_does : (x : Variable) (from below : ℕ) (q : Program) (run : Attempt → Outcome) (e : ℕ) (c : ℕ → ℕ) → IsLocal x → (from < below → Turn q run e c)
      → (here : Start z ((below - from) * e) (λ v. (below - from) * c v))
      → DoesFrom here (behaviour (one (repeat (loop_local (code_places z) x) from below q)) here.w)
      (source.turns (below - from) from x run)
  loop_does (Shared v) from below q run e c low turn here = absurd low
  loop_does (Local i) from below q run e c low turn here =
      let w = here.w in
      does_alone z w.fram here.most w.stack (words.turns (below - from) (number_of i) from (behaviour q) w)
      (λ answers. source.turns (below - from) from (Local i) run (answered_by answers here.m))
      (⊎_elim
      (λ some. turns_do i q run e c low (turn some) (below - from) from w.stack here refl)
      (λ none.
      let zero_turns : below - from ≡ 0 = omega (arith, none) in
      subst (λ j. TurnsDo i q run j from w.stack here) (sym zero_turns) (no_turns i q run from w.stack here low refl))
      (cases_lt from below))

  -- ---- conditions

  -- one of two ways
  either_does : (b : Bool) {n : ℕ} {count : ℕ → ℕ} (here : Start z n count) (taken otherwise : Behaviour) (o q : Attempt → Outcome)
      → DoesFrom here taken o → DoesFrom here otherwise q → DoesFrom here (if b then taken else otherwise) (λ m. if b then o m else q m)
  either_does true here taken otherwise o q h k = h
  either_does false here taken otherwise o q h k = k

  -- a choice by a value is one by its truth
  by_truth : (o : Option Evaluated) (f g : Attempt → Outcome)
      → if_value (truth_of o) (λ v s. if holds v then f s else g s) ≡ if_value o (λ v s. if holds v then f s else g s)
  by_truth None f g = refl
  by_truth (Some x) f g = ap (λ b. if b then f x.behind else g x.behind) (holds_bit (holds x.value))

  -- one way of a choice does what the source runs, from any attempt behind the condition on
  abbrev WayDoes : {n : ℕ} {count : ℕ → ℕ} → Start z n count → Spare → Program → (Attempt → Outcome) → Type 0
  WayDoes here free q run = (there : Behind here free) → DoesFrom (behind_value here free there) (behaviour q (with_stack here.w.stack there.w)) run

  -- a choice, where both ways do
  choice_of_ways : (e : CheckedExpression) {n : ℕ} {count : ℕ → ℕ} (here : Start z n count) (free : Spare) (taken otherwise : Program)
      (f g : Attempt → Outcome) → HasSpare e n count free → Fits e → WayDoes here free taken f → WayDoes here free otherwise g
      → DoesFrom here (behaviour (one (choose (lowered_test (code_places z) z.fs.bodies e) taken otherwise)) here.w)
      (λ m. with_value z.fs.meanings e m (λ v s. if holds v then f s else g s))
  choice_of_ways e here free taken otherwise f g room fits a b =
      let w = here.w in
      let c = lowered_test (code_places z) z.fs.bodies e in
      let run : ℕ → Attempt → Outcome = λ v s. if holds v then f s else g s in
      let o : Attempt → Option Evaluated = λ m. truth_of (value_of z.fs.meanings e m) in
      let ways = way_by_top (behaviour taken) (behaviour otherwise) in
      does_alone z w.fram here.most w.stack (tested c (behaviour taken) (behaviour otherwise) w)
      (λ answers. with_value z.fs.meanings e (answered_by answers here.m) run)
      (subst (λ r. DoesFrom here r (λ m. with_value z.fs.meanings e m run)) (sym (decided_by_truth c (behaviour taken) (behaviour otherwise) w))
      (subst (DoesFrom here (then_on (truth_pushed c w) ways)) (λ j. λ m. by_truth (value_of z.fs.meanings e m) f g j)
      (value_does here free single w (truth_pushed c w) (by_answers here.m o) ways run
      (test_leaves (keeping here free) known e here.m w (at_first e here free room) (fits.0, fits.1) fits.2)
      (λ v there. let s = with_stack w.stack there.w in
      either_does (holds v) (behind_value here free there) (behaviour taken s) (behaviour otherwise s) f g (a there) (b there)))))

  -- for statements that emit and list no more
  abbrev with_fewer : {n : ℕ} {count : ℕ → ℕ} (here : Start z n count) (k : ℕ) (fewer : ℕ → ℕ) → k ≤ n → ((v : ℕ) → fewer v ≤ count v)
      → Start z k fewer
  with_fewer here k fewer l less =
      let e = here.emits in
      record {
        m = here.m;
        listed = here.listed;
        w = here.w;
        most = here.most;
        stands = here.stands;
        number = here.number;
        emits = omega (arith, e, l);
        lists = λ v. let a = here.lists v in let b = less v in omega (arith, a, b);
        within = here.within;
      }

  -- ---- all statements

  -- what an emit wants behind its value, what conditions want with the greatest of their blocks, and what the ways behind one of them want
  abbrev emit_spare : Spare
  emit_spare = record { emits = 1; lists = λ v. 0 }

  abbrev choice_spare : CheckedChoice → Spare
  choice_spare c = record {
    emits = conditions_emit z.fs.emits c + choice_emits z.fs.emits c;
    lists = λ v. conditions_count (stores_in v) c + choice_count (stores_in v) (is_store_to v) c;
  }

  abbrev ways_spare : CheckedBlock → CheckedChoice → Spare
  ways_spare block more = record {
    emits = conditions_emit z.fs.emits more + max (block_emits z.fs.emits block) (choice_emits z.fs.emits more);
    lists = λ v. conditions_count (stores_in v) more + max (block_count (stores_in v) (is_store_to v) block) (choice_count (stores_in v) (is_store_to v) more);
  }

  -- what some path writes, the task writes
  abbrev Writes : (ℕ → Bool) → Type 0
  Writes writes = (v : ℕ) → writes v ≡ true → z.written v ≡ true

  mutual
    statement_does : (s : CheckedStatement) (here : Start z (statement_emits z.fs.emits s) (λ v. statement_count (stores_in v) (is_store_to v) s))
        → WellFormedStatement z.shared s
        → AdmitsStatement z.p.map.runtime.events s → Writes (λ v. (statement_sum (z.fs.sums v) (summary (Shared v)) s).writes)
        → DoesFrom here (behaviour (lowered_statement (code_places z) z.fs.bodies s) here.w) (run_statement z.fs.meanings s)
    statement_does (t.declare of x None) here fits admits writes = nothing_does here
    statement_does (t.declare of x (Some e)) here fits admits writes =
        word_assigned_does x.word_type x.variable e here (local_word z.shared x.word_type x.variable fits.0 fits.2)
        (record { emits = omega arith; lists = λ v. omega arith })
        (fits.1, admits, λ v k. writes v (declared_writes v (z.fs.sums v) (known.go_on v) of x e k)) (local_target z.p z.written x.variable fits.0)
    statement_does (t.assign x e) here fits admits writes =
        scalar_does x.word_type x.variable e here (record { emits = omega arith; lists = λ v. omega arith })
        (fits.1, admits, λ v k. writes v (assigned_writes v (z.fs.sums v) (known.go_on v) x e k))
        (target_of z.shared z.p z.written z.declared x.word_type x.variable fits.0 fits.2
        (λ v k. writes v (assignment_writes v (z.fs.sums v) (known_goes_on v (z.fs.sums v) (known.go_on v)) x e k)))
    statement_does (t.store x index e) here fits admits writes =
        element_store_does x.variable index e here
        (array_target z.shared z.p z.written z.declared x.variable z.copied fits.0
        (λ v k. writes v (store_writes v (z.fs.sums v) (known_goes_on v (z.fs.sums v) (known.go_on v)) x index e k)))
        (record { emits = omega arith; lists = λ v. omega arith })
        (fits.1, admits.0, λ v k. writes v (place_writes v (z.fs.sums v) (known.go_on v) x index e k)) fits.3
        (fits.2, admits.1, λ v k. writes v (stored_writes v (z.fs.sums v) (known.go_on v) x index e k))
    statement_does (t.choose choice) here fits admits writes =
        choice_does choice here fits admits writes
    statement_does (t.loop x from tested below stepped body) here fits admits writes =
        loop_does x.variable from below (lowered_block (code_places z) z.fs.bodies body) (run_block z.fs.meanings body) (block_emits z.fs.emits body)
        (λ v. block_count (stores_in v) (is_store_to v) body) fits.0
        (λ some. record {
          does = λ turn. block_does body turn fits.1 admits (λ v k. writes v
              (loop_writes v (z.fs.sums v) (known_goes_on v (z.fs.sums v) (known.go_on v)) x from tested below stepped body some k));
          emitted = block_emitted z.fs.meanings z.fs.emits known.up_to body;
        }) here
    statement_does (t.emit e) here fits admits writes =
        let last = one (emit_word (word_place z.p.map EmitCount) z.p.map.emits.address) in
        let given : ℕ → Attempt → Outcome = λ v s. goes_on (record s { emitted = s.emitted ++ v ∷ [] }) in
        subst (DoesFrom here (behaviour (joined (lowered_expression (code_places z) z.fs.bodies e) last) here.w))
        (λ j. λ m. if_converted (type_of e) Unsigned (value_of z.fs.meanings e m) given j)
        (value_taken e here emit_spare last given (record { emits = omega arith; lists = λ v. omega arith }) (fits.0, admits, writes)
        (λ v there. emit_does (behind_value here emit_spare there) v))
    statement_does (t.give at e) here fits admits writes =
        let given : ℕ → Attempt → Outcome = λ v s. source.returns v s in
        subst (DoesFrom here (behaviour (joined (lowered_expression (code_places z) z.fs.bodies e) (one give)) here.w))
        (λ j. λ m. if_converted (type_of e) Unsigned (value_of z.fs.meanings e m) given j)
        (value_taken e here none_spare (one give) given (record { emits = omega arith; lists = λ v. omega arith })
        (fits.0, admits, λ v k. writes v (given_writes v (z.fs.sums v) (known.go_on v) at e k))
        (λ v there. give_does (behind_value here none_spare there) v))
    statement_does (t.transition at task) here fits admits writes = transition_does task.task here

    choice_does : (c : CheckedChoice) (here : Start z (choice_spare c).emits (choice_spare c).lists) → WellFormedChoice z.shared c
        → AdmitsChoice z.p.map.runtime.events c → Writes (λ v. (choice_sum (z.fs.sums v) (summary (Shared v)) c).writes)
        → DoesFrom here (behaviour (lowered_choice (code_places z) z.fs.bodies c) here.w) (run_choice z.fs.meanings c)
    choice_does t.nothing here fits admits writes = nothing_does here
    choice_does (t.otherwise block) here fits admits writes =
        block_does block (with_fewer here (block_emits z.fs.emits block) (λ v. block_count (stores_in v) (is_store_to v) block) (omega arith)
        (λ v. omega arith)) fits admits writes
    choice_does (t.test e block more) here fits admits writes =
        let free = ways_spare block more in
        choice_of_ways e here free (lowered_block (code_places z) z.fs.bodies block) (lowered_choice (code_places z) z.fs.bodies more)
        (run_block z.fs.meanings block) (run_choice z.fs.meanings more)
        (record { emits = omega arith; lists = λ v. omega arith })
        (fits.0, admits.0, λ v k. writes v (condition_writes v (z.fs.sums v) (known.go_on v) e block more k))
        (λ there. block_does block
        (with_fewer (behind_value here free there) (block_emits z.fs.emits block) (λ v. block_count (stores_in v) (is_store_to v) block) (omega arith)
        (λ v. omega arith)) fits.1
        admits.1 (λ v k. writes v (taken_writes v (z.fs.sums v) (known_goes_on v (z.fs.sums v) (known.go_on v)) e block more k)))
        (λ there. choice_does more
        (with_fewer (behind_value here free there) (choice_spare more).emits (choice_spare more).lists (omega arith) (λ v. omega arith)) fits.2
        admits.2 (λ v k. writes v (passed_writes v (z.fs.sums v) (known_goes_on v (z.fs.sums v) (known.go_on v)) e block more k)))

    pub block_does : (b : CheckedBlock) (here : Start z (block_emits z.fs.emits b) (λ v. block_count (stores_in v) (is_store_to v) b))
        → WellFormedBlock z.shared b
        → AdmitsBlock z.p.map.runtime.events b → Writes (λ v. (block_sum (z.fs.sums v) (summary (Shared v)) b).writes)
        → DoesFrom here (behaviour (lowered_block (code_places z) z.fs.bodies b) here.w) (run_block z.fs.meanings b)
    block_does t.end here fits admits writes = nothing_does here
    block_does (t.step s more) here fits admits writes =
        let w = here.w in
        let m = here.m in
        let P : Behaviour → Type 0 = λ b. DoesFrom here b (run_block z.fs.meanings (t.step s more)) in
        let room = here.emits in
        let once : ℕ → ℕ = λ v. listed_of v here.listed + statement_count (stores_in v) (is_store_to v) s in
        let fewer : (v : ℕ) → once v ≤ here.most v = λ v. let a = here.lists v in omega (arith, a) in
        let first : Start z (statement_emits z.fs.emits s) (λ v. statement_count (stores_in v) (is_store_to v) s) = record {
          m = m;
          listed = here.listed;
          w = w;
          most = once;
          stands = here.stands;
          number = here.number;
          emits = omega (arith, room);
          lists = λ v. omega arith;
          within = λ v. let a = fewer v in let b = here.within v in omega (arith, a, b);
        } in
        subst P (sym (joined_go_on (lowered_statement (code_places z) z.fs.bodies s) (lowered_block (code_places z) z.fs.bodies more) w))
        (does_then z once here.most w.stack (length m.emitted + statement_emits z.fs.emits s)
        (λ answers. run_statement z.fs.meanings s (answered_by answers m)) (record {
          q = lowered_statement (code_places z) z.fs.bodies s;
          w = w;
          ver = here.number;
          does = statement_does s first fits.0 admits.0 (λ v k. writes v (first_writes v (z.fs.sums v) s more k));
          emits = λ answers. statement_emitted z.fs.meanings z.fs.emits known.up_to s (answered_by answers m)
              (length m.emitted + statement_emits z.fs.emits s) (omega arith);
        })
        (behaviour (lowered_block (code_places z) z.fs.bodies more)) (run_block z.fs.meanings more) fewer
        (λ u n listing answers is there.
        let below = there.few_emitted in
        let Q : List ℕ → Type 0 = λ l. Does z u.fram here.most l (behaviour (lowered_block (code_places z) z.fs.bodies more) u)
        (λ answers. run_block z.fs.meanings more (answered_by answers n)) in
        let behind : Start z (block_emits z.fs.emits more) (λ v. block_count (stores_in v) (is_store_to v) more) = record {
          m = n;
          listed = listing;
          w = u;
          most = here.most;
          stands = there.stands;
          number = there.number;
          emits = omega (arith, room, below);
          lists = λ v. let a = here.lists v in let b = there.few_listed v in omega (arith, a, b);
          within = here.within;
        } in
        subst Q there.stack_kept
        (block_does more behind fits.1 admits.1 (λ v k. writes v
        (others_write v (z.fs.sums v) (known_goes_on v (z.fs.sums v) (known.go_on v)) s more
        (runs_go_on_along_paths z.fs.meanings s (answered_by answers m) n is) k)))))
