-- Along each way through a task's program: the stack has room, each local that is read is assigned, and the way ends in a jump where the
-- paths of the task do.
use Rattle.std.proofs.Common.{◌≡◌, ℕ, zero, suc, ◌+◌, ◌-◌, ◌%◌, ◌==◌, ◌<◌, ◌≤◌, ◌||◌, Bool, true, false, nat_eq, List, [], ◌∷◌, ◌++◌, Option, Some}
use Rattle.std.proofs.Common.{None, slice_index_or, length, map, not, nat_lt, ltb-true, refl, sym, ap, subst, ◌∙◌, arith, if◌then◌else◌}
use Rattle.std.proofs.lemmas.Bool.Decides.{nat_tests}
use Rattle.task_ast.specs.Tree as t
use Rattle.task_ast.specs.Calls.{CallsAreBelow, BlockCallsBelow}
use Rattle.task_ast.specs.Paths.{CheckedExpression, CheckedValues, CheckedStatement, CheckedChoice, CheckedBlock, CheckedFunction, Access, read, write}
use Rattle.task_ast.specs.Paths.{unset, End, goes_on, goes_to, returns, StatementPath, ChoicePath, TurnsPath, BlockPath}
use Rattle.cost_bound.specs.path_sums.Reaches.{at_once}
use Rattle.task_ast.specs.Paths as path
use Rattle.task_ast.specs.declared.SharedDeclaration.{SharedDeclaration}
use Rattle.task_ast.specs.declared.WordType.{WordType}
use Rattle.task_ast.specs.declared.WordType.TheVariants.{Unsigned, Int, Long}
use Rattle.task_ast.specs.declared.PlacedOperator.{PlacedOperator}
use Rattle.task_ast.specs.declared.ShiftOperator.{ShiftOperator}
use Rattle.task_ast.specs.declared.Literal.{Literal}
use Rattle.task_ast.specs.declared.names.Variable.{Variable}
use Rattle.task_ast.specs.declared.names.Variable.TheVariants.{Shared, Local}
use Rattle.task_ast.specs.declared.names.VariableName.{VariableName}
use Rattle.path_checks.specs.Loops.{is_local}
use Rattle.source_values.specs.Values.{joined_type, type_of}
use Rattle.array_versions.specs.declared.operations.PlainOperation.{PlainOperation}
use Rattle.array_versions.specs.Program.{Step, Test, Program, emit_word, store_number, move_word, jump, give, nothing}
use Rattle.array_versions.specs.Program.{step, joined, truth, holds, local, compares}
use Rattle.array_versions.specs.declared.operations.Comparison.{Comparison}
use Rattle.array_versions.specs.Form.{Place, start, assigning, Moves, EachTurn, EachStepWay, EachTestWay, EachWay, StepOfWords}
use Rattle.memory_map.specs.MemoryMap.{word_place}
use Rattle.memory_map.specs.declared.words.RuntimeWord.TheVariants.{Gate, ListLength, EmitCount, Base, SentBase}
use Rattle.lower.specs.declared.runs.Run.{Run}
use Rattle.lower.specs.Runs.{runs_of}
use Rattle.memory_map.specs.declared.place.RoutinePlace.{RoutinePlace}
use Rattle.memory_map.specs.Spots.{Places, routine_of}
use Rattle.lower.specs.Lowered.{one, write_step, write_long, store_step}
use Rattle.lower.specs.Lowered.{lowering, lowered_expression, widened_type, lowered_long, assignment}
use Rattle.lower.specs.Lowered.{scalar_assignment}
use Rattle.lower.specs.Lowered.{update_step, setting, long_setting, updating, doubling, of_words, sides_set, shift_set}
use Rattle.lower.specs.Lowered.{update_element_step, index_and_value, element_updating, element_sides_set, element_assignment}
use Rattle.array_versions.specs.Program.{freeze_events}
use Rattle.lower.specs.Lowered.{own_write, own_update, stored_array, list_place}
use Rattle.array_versions.specs.declared.program.ArrayPlace.{ArrayPlace}
use Rattle.array_versions.specs.declared.program.ListPlace.{ListPlace}
use Rattle.memory_map.specs.declared.runtime.Logging.{Logging}
use Rattle.memory_map.specs.declared.runtime.Logging.TheVariants.{Redo, Undo}
use Rattle.lower.specs.Lowered.{call_at, call_step, local_number}
use Rattle.lower.specs.Lowered.{freezing, loop_local, entries, lowered_transition, lowered_statement, lowered_choice, lowered_block}
use Rattle.checked_trees.specs.WellFormed.{IsWordName, IsArrayName, WellFormedExpression, WellFormedValues}
use Rattle.lower.proofs.Interface.{is_update, is_doubling}
use Rattle.whole_programs.proofs.Placed.{PlacesOfWords}
use Rattle.whole_programs.proofs.Built.{Leaf, a_number, a_load, a_reading, an_event, a_unary, a_shift, an_element, a_version, a_binary, a_widening, a_join}
use Rattle.whole_programs.proofs.Built.{a_low_word}
use Rattle.whole_programs.proofs.Built.{a_complement, a_left_shift, a_right_shift, a_calculation, is_below, is_above, ReadOf, Reads, ValuesRead, two_fit}
use Rattle.whole_programs.proofs.Built.{Fact}
use Rattle.whole_programs.proofs.Fit.{Anything, any_call, Setting, IsFitStatement, IsFitChoice, IsFitBlock, first_fit, rest_fit, choice_fit, otherwise_fit}
use Rattle.whole_programs.proofs.Fit.{taken_fit, passed_fit}
use Rattle.whole_programs.proofs.Built.{FitsAbove, right_fits, lowering_has, long_has}
use Rattle.checked_trees.proofs.Interface.{HasPath, names_read, values_read, is_path, some_turns, some_block, written, forgotten, behind, behind_both}
use Rattle.checked_trees.proofs.Interface.{behind_names, behind_expression, IsAssigned, Safe, safe_both, safe_expression, not_given}

-- ---- ways

-- so many words on the stack, and these locals assigned
abbrev pub at : ℕ → (ℕ → Bool) → Place
at d a = record { depth = d; assigned = a }

-- a way through one program and another behind it
joined_ways : (room : ℕ) (p q : Program) (next : Place → Type 0) → EachWay room (joined p q) next ≡ EachWay room p (EachWay room q next)
joined_ways room nothing q next = refl
joined_ways room (step first more) q next = ap (EachStepWay room first) (joined_ways room more q next)

joined_way : (room : ℕ) (p q : Program) (next : Place → Type 0) (o : Place) → EachWay room p (EachWay room q next) o → EachWay room (joined p q) next o
joined_way room p q next o h = subst (λ f. f o) (sym (joined_ways room p q next)) h

-- words popped and pushed
moves : (room pops pushes d e : ℕ) (a : ℕ → Bool) (next : Place → Type 0) → pops ≤ d → e + pops ≡ d + pushes → e ≤ room → next (at e a)
    → Moves room pops pushes next (at d a)
moves room pops pushes d e a next l same few h =
    let is : e ≡ d - pops + pushes = omega arith in
    (l, omega arith, subst (λ n. next (at n a)) is h)

-- ---- expressions

-- a local is assigned
abbrev Assigned : Places → (ℕ → Bool) → ℕ → Type 0
Assigned p a n = a (local_number p n) ≡ true

module _ (p : Places) (rs : List Program) (room : ℕ) (a : ℕ → Bool) where
  -- ways through a step, and through a program, that leaves the stack so deep
  abbrev StepLeaves : ℕ → ℕ → Step → Type 1
  StepLeaves d e s = (next : Place → Type 0) → next (at e a) → EachStepWay room s next (at d a)

  abbrev Leaves : ℕ → ℕ → Program → Type 1
  Leaves d e q = (next : Place → Type 0) → next (at e a) → EachWay room q next (at d a)

  -- ways through a test
  abbrev Decides : ℕ → Test → Type 1
  Decides d c = (held failed : Place → Type 0) → held (at d a) → failed (at d a) → EachTestWay room c held failed (at d a)

  leaf_way : (d e : ℕ) (s : Step) → Leaf d e s → StepOfWords s → e ≤ room → StepLeaves d e s
  leaf_way d e s (a_number w) numbers few next h = moves room 0 1 d e a next (omega arith) (omega arith) few h
  leaf_way d e s (a_load to) numbers few next h = moves room 0 1 d e a next (omega arith) (omega arith) few h
  leaf_way d e s a_reading numbers few next h = moves room 0 1 d e a next (omega arith) (omega arith) few h
  leaf_way d e s an_event numbers few next h = moves room 0 1 d e a next (omega arith) (omega arith) few h
  leaf_way d e s (a_unary op) numbers few next h = moves room 1 1 d e a next (omega arith) (omega arith) few h
  leaf_way d e s (a_shift op k) numbers few next h = moves room 1 1 d e a next (omega arith) (omega arith) few h
  leaf_way d e s (an_element base length) numbers few next h = moves room 1 1 d e a next (omega arith) (omega arith) few h
  leaf_way d e s (a_version place list) numbers few next h = moves room 1 1 d e a next (omega arith) (omega arith) few h
  leaf_way d e s (a_binary op) numbers few next h = moves room 2 1 d e a next (omega arith) (omega arith) few h
  leaf_way d e s a_widening numbers few next h = moves room 1 2 d e a next (omega arith) (omega arith) few h
  leaf_way d e s a_join numbers few next h = moves room 2 2 d e a next (omega arith) (omega arith) few h
  leaf_way d e s a_low_word numbers few next h = moves room 2 1 d e a next (omega arith) (omega arith) few h
  leaf_way d e s a_complement numbers few next h = moves room 2 2 d e a next (omega arith) (omega arith) few h
  leaf_way d e s (a_left_shift k) numbers few next h = moves room 2 2 d e a next (omega arith) (omega arith) few h
  leaf_way d e s (a_right_shift k) numbers few next h = moves room 2 2 d e a next (omega arith) (omega arith) few h
  leaf_way d e s (a_calculation op) numbers few next h = moves room 4 2 d e a next (omega arith) (omega arith) few h
  leaf_way d e s is_below numbers few next h = moves room 4 1 d e a next (omega arith) (omega arith) few h
  leaf_way d e s is_above numbers few next h = moves room 4 1 d e a next (omega arith) (omega arith) few h

  read_way : (d n : ℕ) → Assigned p a n → suc d ≤ room → StepLeaves d (suc d) (local (local_number p n))
  read_way d n is few next h = (is, moves room 0 1 d (suc d) a next (omega arith) (omega arith) few h)

  -- a call pops its values and pushes a word, wherever its function is
  call_way : (d k count : ℕ) → count ≤ 256 → suc d ≤ room → StepLeaves (count + d) (suc d) (call_step p rs k (count % 65536))
  call_way d k count low few next h = by_place (routine_of p k)
    where
      popped : Moves room (count % 65536) 1 next (at (count + d) a)
      popped = moves room (count % 65536) 1 (count + d) (suc d) a next (omega (arith, low)) (omega (arith, low)) few h

      by_place : (o : Option RoutinePlace) → EachStepWay room (call_at o (count % 65536) (slice_index_or rs k nothing)) next (at (count + d) a)
      by_place (Some r) = popped
      by_place None = popped

  truth_way : (d : ℕ) (c : Test) → suc d ≤ room → Decides d c → StepLeaves d (suc d) (truth c)
  truth_way d c few h next x =
      let pushed : Moves room 0 1 next (at d a) = moves room 0 1 d (suc d) a next (omega arith) (omega arith) few x in
      h (Moves room 0 1 next) (Moves room 0 1 next) pushed pushed

  -- the test of a word, and of two
  holds_way : (d : ℕ) (q : Program) → suc d ≤ room → Leaves d (suc d) q → Decides d (holds q)
  holds_way d q few h held failed x y =
      h (Moves room 1 0 (λ r. held r × failed r)) (moves room 1 0 (suc d) d a (λ r. held r × failed r) (omega arith) (omega arith) (omega (arith, few)) (x, y))

  compares_way : (d : ℕ) (c : Comparison) (q : Program) → suc (suc d) ≤ room → Leaves d (suc (suc d)) q → Decides d (compares c q)
  compares_way d c q two h held failed x y =
      h (Moves room 2 0 (λ r. held r × failed r))
      (moves room 2 0 (suc (suc d)) d a (λ r. held r × failed r) (omega arith) (omega arith) (omega (arith, two)) (x, y))

  abbrev ways : Fact {1} p rs room
  ways = record {
    of_step = StepLeaves;
    of_program = Leaves;
    of_test = Decides;
    of_local = Assigned p a;
    of_call = Anything;
    leaf = leaf_way;
    reads = read_way;
    called = λ d k count low any few. call_way d k count low few;
    asked = truth_way;
    empty = λ d next h. h;
    alone = λ d e s h. h;
    chain = λ d e f q r h k next x. joined_way room q r next (at d a) (h (EachWay room r next) (k next x));
    not_zero = holds_way;
    compared = compares_way;
    both_hold = λ d b c h k held failed x y. h (EachTestWay room c held failed) failed (k held failed x y) y;
    one_holds = λ d b c h k held failed x y. h held (EachTestWay room c held failed) x (k held failed x y);
    turned = λ d c h held failed x y. h failed held y x;
  }

-- a well-formed expression with room above so many words, whose locals are assigned
abbrev Ready : Places → List SharedDeclaration → ℕ → (ℕ → Bool) → ℕ → CheckedExpression → Type 0
Ready p shared room a d e = FitsAbove shared room d e × Reads (Assigned p a) e

-- so is what is shifted
shifted_ready : (p : Places) (shared : List SharedDeclaration) (room : ℕ) (a : ℕ → Bool) (d : ℕ) (op : ShiftOperator) (e : CheckedExpression)
    (count : Literal) → Ready p shared room a d (t.shift op e count) → Ready p shared room a d e
shifted_ready p shared room a d op e count r = ((r.0.0.0, r.0.1), r.1)

-- so is the right side of an operator
right_ready : (p : Places) (shared : List SharedDeclaration) (room : ℕ) (a : ℕ → Bool) (d : ℕ) (op : PlacedOperator) (b e : CheckedExpression)
    → Ready p shared room a d (t.binary op b e) → Ready p shared room a d e
right_ready p shared room a d op b e r = (right_fits shared room d op b e r.0, r.1.1)

expression_way : (p : Places) (rs : List Program) → PlacesOfWords p → (shared : List SharedDeclaration) (room d : ℕ) (a : ℕ → Bool) (e : CheckedExpression)
    (next : Place → Type 0) → Ready p shared room a d e → next (at (suc d) a) → EachWay room (lowered_expression p rs e) next (at d a)
expression_way p rs words shared room d a e next r h =
    (lowering_has (ways p rs room a) words shared d e r.0.0 r.0.1 r.1 (any_call e)).word next h

-- ---- locals

-- each local that is assigned on the path is assigned in the program
abbrev pub Covers : Places → (ℕ → Bool) → (ℕ → Bool) → Type 0
Covers p u a = (x : ℕ) → x < 256 → u x ≡ false → a (local_number p x) ≡ true

-- behind a write to a variable its local is assigned
covers_written : (p : Places) (u a : ℕ → Bool) (x : VariableName) → Covers p u a
    → Covers p (written u x) (λ m. nat_eq m (loop_local p x.variable) || a m)
covers_written p u a x c y l h = by_variable x.variable h
  where
    or_true : (b : Bool) → (b || true) ≡ true
    or_true true = refl
    or_true false = refl

    same : (b : Bool) → b ≡ true → (b || a (local_number p y)) ≡ true
    same true e = refl
    same false e = absurd (cc)

    by_test : (n : ℕ) (b : Bool) → (n == y) ≡ b → (if b then false else u y) ≡ false
        → (nat_eq (local_number p y) (local_number p n) || a (local_number p y)) ≡ true
    by_test n true e h =
        let is : n ≡ y = grind (arith, nat_tests) in
        let k : local_number p n ≡ local_number p y = ap (local_number p) is in
        same (nat_eq (local_number p y) (local_number p n)) (grind (arith, nat_tests))
    by_test n false e h =
        let there = nat_eq (local_number p y) (local_number p n) in subst (λ b. (there || b) ≡ true) (sym (c y l h)) (or_true there)

    by_variable : (v : Variable) → (if is_local y v then false else u y) ≡ false → (nat_eq (local_number p y) (loop_local p v) || a (local_number p y)) ≡ true
    by_variable (Shared v) h = subst (λ b. (nat_eq (local_number p y) 0 || b) ≡ true) (sym (c y l h)) (or_true (nat_eq (local_number p y) 0))
    by_variable (Local n) h = by_test n (n == y) refl h

-- a write to a shared variable leaves the locals as they are
covers_shared : (p : Places) (u a : ℕ → Bool) (x : VariableName) (v : ℕ) → x.variable ≡ Shared v → Covers p u a → Covers p (written u x) a
covers_shared p u a x v is c y l h = c y l (subst (λ w. (if is_local y w then false else u y) ≡ false) is h)

-- so does a declaration without a value
covers_forgotten : (p : Places) (u a : ℕ → Bool) (x : VariableName) → Covers p u a → Covers p (forgotten u x) a
covers_forgotten p u a x c y l h = c y l (by_test (is_local y x.variable) h)
  where
    by_test : (b : Bool) → (if b then true else u y) ≡ false → u y ≡ false
    by_test true h = absurd (cc)
    by_test false h = h

module _ (p : Places) (shared : List SharedDeclaration) (u a : ℕ → Bool) (c : Covers p u a) where
  read_assigned : (v : Variable) → IsWordName shared v → IsAssigned u v → ReadOf (Assigned p a) v
  read_assigned (Shared v) n s = tt
  read_assigned (Local k) n s = c k n s

  mutual
    -- what an expression reads is assigned
    reads_assigned : (e : CheckedExpression) → WellFormedExpression shared e → Safe u (names_read e) → Reads (Assigned p a) e
    reads_assigned (t.number w) n s = tt
    reads_assigned (t.long_number w) n s = tt
    reads_assigned (t.name x) n s = read_assigned x.variable n.0 s.0
    reads_assigned (t.element x index) n s = reads_assigned index n.1 (safe_both u (names_read index) (read x ∷ []) s).0
    reads_assigned t.sense n s = tt
    reads_assigned t.next_event n s = tt
    reads_assigned (t.call f values) n s = values_assigned values n.1 s
    reads_assigned (t.unary op e) n s = reads_assigned e n s
    reads_assigned (t.binary op x y) n s =
        let r = safe_expression u x (names_read y) s in (reads_assigned x n.0 r.0, reads_assigned y n.1 r.1)
    reads_assigned (t.shift op e count) n s = reads_assigned e n.0 s
    reads_assigned (t.short_circuit op x y) n s =
        let r = safe_expression u x (names_read y) s in (reads_assigned x n.0 r.0, reads_assigned y n.1 r.1)

    values_assigned : (values : CheckedValues) → WellFormedValues shared values → Safe u (values_read values) → ValuesRead (Assigned p a) values
    values_assigned t.no_value n s = tt
    values_assigned (t.value e more) n s =
        let r = safe_expression u e (values_read more) s in (reads_assigned e n.0 r.0, values_assigned more n.1 r.1)

-- ---- statements

-- paths that read no unassigned local, and behind which what follows is fit
record Follows (p : Places) (Path : List Access → End → Type 0) (u : ℕ → Bool) (next : Place → Type 0) : Type 0 where
  safe : (xs : List Access) (end : End) → Path xs end → Safe u xs
  on : (xs : List Access) → Path xs goes_on → (a : ℕ → Bool) → Covers p (behind u xs) a → next (at 0 a)

-- the body of a loop
abbrev BodyWay : Places → List CheckedFunction → ℕ → Program → CheckedBlock → Type 1
BodyWay p functions room code body =
    (u a : ℕ → Bool) (next : Place → Type 0) → Covers p u a → Follows p (BlockPath (map at_once functions) body) u next → EachWay room code next (at 0 a)

module _ (p : Places) (functions : List CheckedFunction) (n : ℕ) (few : n ≤ length functions) (room : ℕ) (x : VariableName) (code : Program)
    (body : CheckedBlock) (way : BodyWay p functions room code body) (some : HasPath (BlockPath (map at_once functions) body)) where
  abbrev direct_turns : List CheckedFunction
  direct_turns = map at_once functions

  -- what follows the body, with turns left
  turn_follows : (m : ℕ) (u : ℕ → Bool) (next : Place → Type 0) (rest : Place → Type 0) → Follows p (TurnsPath direct_turns x (suc m) body) u next
      → ((xs : List Access) → BlockPath direct_turns body xs goes_on → (a : ℕ → Bool) → Covers p (behind u xs) a → rest (at 0 a))
      → Follows p (BlockPath direct_turns body) u rest
  turn_follows m u next rest h k = record { safe = λ xs end q. by_end xs end q; on = k }
    where
      by_end : (xs : List Access) (end : End) → BlockPath direct_turns body xs end → Safe u xs
      by_end xs goes_on q =
          let more = some_turns functions n few x m body some in
          let r = path.turn x m body xs more.accesses more.end q more.is in
          (safe_both u xs (write x ∷ more.accesses) (h.safe (xs ++ write x ∷ more.accesses) more.end r)).0
      by_end xs (goes_to task) q = h.safe xs (goes_to task) (path.cut x m body xs (goes_to task) tt q)
      by_end xs returns q = h.safe xs returns (path.cut x m body xs returns tt q)

  -- what follows a turn
  turns_follow : (m : ℕ) (u : ℕ → Bool) (next : Place → Type 0) (xs : List Access) → Follows p (TurnsPath direct_turns x (suc m) body) u next
      → BlockPath direct_turns body xs goes_on
      → Follows p (TurnsPath direct_turns x m body) (written (behind u xs) x) next
  turns_follow m u next xs h q = record {
    safe = λ ys end r. (safe_both u xs (write x ∷ ys) (h.safe (xs ++ write x ∷ ys) end (path.turn x m body xs ys end q r))).1;
    on = λ ys r a c. h.on (xs ++ write x ∷ ys) (path.turn x m body xs ys goes_on q r) a (subst (λ v. Covers p v a) (sym (behind_both u xs (write x ∷ ys))) c);
  }

  turns_way : (m : ℕ) (u a : ℕ → Bool) (next : Place → Type 0) → Covers p u a → Follows p (TurnsPath direct_turns x m body) (written u x) next
      → EachTurn m (loop_local p x.variable) (EachWay room code) next (at 0 a)
  turns_way zero u a next c h = h.on [] (path.over x body) _ (covers_written p u a x c)
  turns_way (suc m) u a next c h =
      way (written u x) _ _ (covers_written p u a x c)
      (turn_follows m (written u x) next _ h (λ xs q b d. turns_way m (behind (written u x) xs) b next d (turns_follow m (written u x) next xs h q)))

-- a body that calls the first n of these functions, in a task or in a function
module _ (p : Places) (rs : List Program) (words : PlacesOfWords p) (functions : List CheckedFunction) (g : Setting) (few : g.callable ≤ length functions)
    (even : g.in_task ≡ true → p.map.commit.address % 2 ≡ 0) where
  abbrev shared : List SharedDeclaration
  shared = g.shared

  abbrev n : ℕ
  n = g.callable

  abbrev room : ℕ
  room = g.room

  abbrev direct : List CheckedFunction
  direct = map at_once functions

  write_way : (u a : ℕ → Bool) (x : VariableName) (next : Place → Type 0) → Covers p u a → ((b : ℕ → Bool) → Covers p (written u x) b → next (at 0 b))
      → EachStepWay room (write_step p x.variable) next (at 1 a)
  write_way u a x next c h = by_variable x.variable refl
    where
      by_variable : (v : Variable) → x.variable ≡ v → EachStepWay room (write_step p v) next (at 1 a)
      by_variable (Shared v) is = moves room 1 0 1 0 a next (omega arith) (omega arith) (omega arith) (h a (covers_shared p u a x v is c))
      by_variable (Local n) is =
          moves room 1 0 1 0 a (λ q. next (assigning (local_number p n) q)) (omega arith) (omega arith) (omega arith)
          (h (λ m. nat_eq m (local_number p n) || a m)
          (subst (λ v. Covers p (written u x) (λ m. nat_eq m (loop_local p v) || a m)) is (covers_written p u a x c)))

  -- the same of a long
  long_write_way : (u a : ℕ → Bool) (x : VariableName) (next : Place → Type 0) → 2 ≤ room → Covers p u a
      → ((b : ℕ → Bool) → Covers p (written u x) b → next (at 0 b))
      → EachWay room (write_long p x.variable) next (at 2 a)
  long_write_way u a x next l c h = by_variable x.variable refl
    where
      by_variable : (v : Variable) → x.variable ≡ v → EachWay room (write_long p v) next (at 2 a)
      by_variable (Shared v) is =
          moves room 1 0 2 1 a (Moves room 1 0 next) (omega arith) (omega arith) (omega (arith, l))
          (moves room 1 0 1 0 a next (omega arith) (omega arith) (omega arith) (h a (covers_shared p u a x v is c)))
      by_variable (Local n) is =
          moves room 2 1 2 1 a (EachStepWay room (write_step p (Local n)) next) (omega arith) (omega arith) (omega (arith, l))
          (subst (λ v. EachStepWay room (write_step p v) next (at 1 a)) is (write_way u a x next c h))

  -- where the variable is assigned it may be updated
  update_way : (a : ℕ → Bool) (o : PlainOperation) (v : Variable) (next : Place → Type 0) → ReadOf (Assigned p a) v
      → EachStepWay room (write_step p v) next (at 1 a)
      → EachStepWay room (update_step p o v) next (at 1 a)
  update_way a o (Shared v) next r h = h
  update_way a o (Local n) next r h = (r, h)

  -- what follows behind the write
  abbrev Written : (ℕ → Bool) → VariableName → CheckedExpression → (Place → Type 0) → Type 0
  Written u x e next = (b : ℕ → Bool) → Covers p (behind u (names_read e ++ write x ∷ [])) b → next (at 0 b)

  write_behind : (u a : ℕ → Bool) (x : VariableName) (e : CheckedExpression) (next : Place → Type 0) → Covers p u a → Written u x e next
      → EachStepWay room (write_step p x.variable) next (at 1 a)
  write_behind u a x e next c h = write_way u a x next c (λ b d. h b (subst (λ v. Covers p v b) (sym (behind_expression u e (write x ∷ []))) d))

  -- an expression's value is set
  setting_way : (u a : ℕ → Bool) (x : VariableName) (e : CheckedExpression) (next : Place → Type 0) → Ready p shared room a 0 e → Covers p u a
      → Written u x e next → EachWay room (setting p rs x.variable e) next (at 0 a)
  setting_way u a x e next r c h =
      joined_way room (lowered_expression p rs e) (one (write_step p x.variable)) next (at 0 a)
      (expression_way p rs words shared room 0 a e _ r (write_behind u a x e next c h))

  -- so is one of two words
  long_setting_way : (u a : ℕ → Bool) (x : VariableName) (e : CheckedExpression) (next : Place → Type 0) → Ready p shared room a 0 e → Covers p u a
      → Written u x e next → EachWay room (long_setting p rs x.variable e) next (at 0 a)
  long_setting_way u a x e next r c h =
      let two = two_fit room 0 e r.0.1 in
      joined_way room (lowered_long p rs e) (write_long p x.variable) next (at 0 a)
      (long_has (ways p rs room a) 0 (widened_type e) (lowering p rs e) two (lowering_has (ways p rs room a) words shared 0 e r.0.0 r.0.1 r.1 (any_call e))
      (EachWay room (write_long p x.variable) next)
      (long_write_way u a x next two c (λ b d. h b (subst (λ v. Covers p v b) (sym (behind_expression u e (write x ∷ []))) d))))

  sides_set_way : (u a : ℕ → Bool) (x : VariableName) (op : PlacedOperator) (b e : CheckedExpression) (o : Option PlainOperation) (next : Place → Type 0)
      → updating x.variable op.operator b e ≡ o → Ready p shared room a 0 (t.binary op b e) → Covers p u a
      → Written u x (t.binary op b e) next → EachWay room (sides_set p rs x.variable op b e o) next (at 0 a)
  sides_set_way u a x op b e None next is r c h = setting_way u a x (t.binary op b e) next r c h
  sides_set_way u a x op b e (Some o) next is r c h =
      let update = is_update x.variable op.operator b e o is in
      let own : ReadOf (Assigned p a) x.variable = subst (ReadOf (Assigned p a)) update.same (subst (Reads (Assigned p a)) update.is r.1.0) in
      joined_way room (lowered_expression p rs e) (one (update_step p o x.variable)) next (at 0 a)
      (expression_way p rs words shared room 0 a e _ (right_ready p shared room a 0 op b e r)
      (update_way a o x.variable next own (write_behind u a x (t.binary op b e) next c h)))

  shift_set_way : (u a : ℕ → Bool) (x : VariableName) (op : ShiftOperator) (e : CheckedExpression) (count : Literal) (o : Option PlainOperation)
      (next : Place → Type 0) → doubling x.variable op e count.value ≡ o → Ready p shared room a 0 (t.shift op e count) → Covers p u a
      → Written u x (t.shift op e count) next → EachWay room (shift_set p rs x.variable op e count o) next (at 0 a)
  shift_set_way u a x op e count None next is r c h = setting_way u a x (t.shift op e count) next r c h
  shift_set_way u a x op e count (Some o) next is r c h =
      let double = is_doubling x.variable op e count.value o is in
      let own : ReadOf (Assigned p a) x.variable = subst (ReadOf (Assigned p a)) double.same (subst (Reads (Assigned p a)) double.is r.1) in
      joined_way room (lowered_expression p rs e) (one (update_step p o x.variable)) next (at 0 a)
      (expression_way p rs words shared room 0 a e _ (shifted_ready p shared room a 0 op e count r)
      (update_way a o x.variable next own (write_behind u a x (t.shift op e count) next c h)))

  -- the first clause makes it a proof by cases
  assignment_way : (u a : ℕ → Bool) (x : VariableName) (e : CheckedExpression) (next : Place → Type 0) → Ready p shared room a 0 e → Covers p u a
      → Written u x e next → EachWay room (assignment p rs x.variable e) next (at 0 a)
  assignment_way u a x (t.binary op b e) next r c h = by_type (joined_type (type_of b) (type_of e))
    where
      by_type : (of : WordType) → EachWay room (sides_set p rs x.variable op b e (of_words of (updating x.variable op.operator b e))) next (at 0 a)
      by_type Long = setting_way u a x (t.binary op b e) next r c h
      by_type Int = sides_set_way u a x op b e (updating x.variable op.operator b e) next refl r c h
      by_type Unsigned = sides_set_way u a x op b e (updating x.variable op.operator b e) next refl r c h
  assignment_way u a x (t.shift op e count) next r c h = by_type (type_of e)
    where
      by_type : (of : WordType) → EachWay room (shift_set p rs x.variable op e count (of_words of (doubling x.variable op e count.value))) next (at 0 a)
      by_type Long = setting_way u a x (t.shift op e count) next r c h
      by_type Int = shift_set_way u a x op e count (doubling x.variable op e count.value) next refl r c h
      by_type Unsigned = shift_set_way u a x op e count (doubling x.variable op e count.value) next refl r c h
  assignment_way u a x e next r c h = setting_way u a x e next r c h

  typed_assignment_way : (u a : ℕ → Bool) (of : WordType) (x : VariableName) (e : CheckedExpression) (next : Place → Type 0) → Ready p shared room a 0 e
      → Covers p u a → Written u x e next → EachWay room (scalar_assignment p rs of x.variable e) next (at 0 a)
  typed_assignment_way u a Long x e next r c h = long_setting_way u a x e next r c h
  typed_assignment_way u a Int x e next r c h = assignment_way u a x e next r c h
  typed_assignment_way u a Unsigned x e next r c h = assignment_way u a x e next r c h

  assigned_way : (u a : ℕ → Bool) (of : WordType) (x : VariableName) (e : CheckedExpression) (next : Place → Type 0) → FitsAbove shared room 0 e
      → Covers p u a → Safe u (names_read e ++ write x ∷ []) → Written u x e next
      → EachWay room (scalar_assignment p rs of x.variable e) next (at 0 a)
  assigned_way u a of x e next f c s h =
      typed_assignment_way u a of x e next (f, reads_assigned p shared u a c e f.0 (safe_expression u e (write x ∷ []) s).0) c h

  entries_way : (count list : ℕ) (runs : List Run) (next : Place → Type 0) (o : Place) → next o
      → EachWay room (entries count list runs) next o
  entries_way count list [] next o h = h
  entries_way count list (s ∷ more) next o h = entries_way count list more next o h

  frozen_way : (events : Bool) (next : Place → Type 0) (o : Place) → next o → EachWay room (if events then one freeze_events else nothing) next o
  frozen_way true next o h = h
  frozen_way false next o h = h

  transition_way : (task : ℕ) (next : Place → Type 0) (o : Place) → g.in_task ≡ true → EachWay room (lowered_transition p task) next o
  transition_way task next o ends =
      let gated : Program = step (store_number (word_place p.map Gate) 1) (one (jump p.map.commit.address)) in
      let close : Program = step (move_word (word_place p.map Base) (word_place p.map SentBase)) (joined (freezing p) gated) in
      joined_way room (entries (word_place p.map ListLength) p.map.list.address (runs_of p.privates)) close next o
      (entries_way (word_place p.map ListLength) p.map.list.address (runs_of p.privates) (EachWay room close next) o
      (joined_way room (freezing p) gated next o (frozen_way p.map.runtime.events (EachWay room gated next) o (even ends))))

  -- an index and a value, and a step behind both
  index_and_value_way : (a : ℕ → Bool) (index e : CheckedExpression) (s : Step) (next : Place → Type 0) → Ready p shared room a 0 index
      → Ready p shared room a 1 e → EachStepWay room s next (at 2 a) → EachWay room (joined (index_and_value p rs index e) (one s)) next (at 0 a)
  index_and_value_way a index e s next q r h =
      joined_way room (index_and_value p rs index e) (one s) next (at 0 a)
      (joined_way room (lowered_expression p rs index) (lowered_expression p rs e) (EachWay room (one s) next) (at 0 a)
      (expression_way p rs words shared room 0 a index _ q (expression_way p rs words shared room 1 a e _ r h)))

  -- a store to an element takes both, under each runtime
  own_write_way : (logging : Logging) (array : ArrayPlace) (list : ListPlace) (next : Place → Type 0) (o : Place) → Moves room 2 0 next o
      → EachStepWay room (own_write logging array list) next o
  own_write_way Redo array list next o h = h
  own_write_way Undo array list next o h = h

  own_update_way : (logging : Logging) (op : PlainOperation) (array : ArrayPlace) (list : ListPlace) (next : Place → Type 0) (o : Place)
      → Moves room 2 0 next o → EachStepWay room (own_update logging op array list) next o
  own_update_way Redo op array list next o h = h
  own_update_way Undo op array list next o h = h

  element_sides_way : (a : ℕ → Bool) (x : Variable) (index : CheckedExpression) (op : PlacedOperator) (b e : CheckedExpression) (o : Option PlainOperation)
      (next : Place → Type 0) → Ready p shared room a 0 index → Ready p shared room a 1 (t.binary op b e) → Moves room 2 0 next (at 2 a)
      → EachWay room (element_sides_set p rs x index op b e o) next (at 0 a)
  element_sides_way a x index op b e None next q r h =
      index_and_value_way a index (t.binary op b e) (store_step p x) next q r
      (own_write_way p.map.runtime.logging (stored_array p x) (list_place p) next (at 2 a) h)
  element_sides_way a x index op b e (Some o) next q r h =
      index_and_value_way a index e (update_element_step p o x) next q (right_ready p shared room a 1 op b e r)
      (own_update_way p.map.runtime.logging o (stored_array p x) (list_place p) next (at 2 a) h)

  -- the first clause makes it a proof by cases
  element_assignment_way : (a : ℕ → Bool) (x : Variable) (index e : CheckedExpression) (next : Place → Type 0) → Ready p shared room a 0 index
      → Ready p shared room a 1 e → Moves room 2 0 next (at 2 a) → EachWay room (element_assignment p rs x index e) next (at 0 a)
  element_assignment_way a x index (t.binary op b e) next q r h =
      element_sides_way a x index op b e (of_words (joined_type (type_of b) (type_of e)) (element_updating x index op.operator b e)) next q r h
  element_assignment_way a x index e next q r h =
      index_and_value_way a index e (store_step p x) next q r
      (own_write_way p.map.runtime.logging (stored_array p x) (list_place p) next (at 2 a) h)

  -- of an index and a value
  element_assigned_way : (u a : ℕ → Bool) (x : VariableName) (index e : CheckedExpression) (next : Place → Type 0) → FitsAbove shared room 0 index
      → FitsAbove shared room 1 e → IsArrayName shared x.variable → Covers p u a
      → Safe u (names_read index ++ (names_read e ++ write x ∷ []))
      → ((b : ℕ → Bool) → Covers p (behind u (names_read index ++ (names_read e ++ write x ∷ []))) b → next (at 0 b))
      → EachWay room (element_assignment p rs x.variable index e) next (at 0 a)
  element_assigned_way u a x index e next f g array c s h =
      let first = safe_expression u index (names_read e ++ write x ∷ []) s in
      let second = safe_expression u e (write x ∷ []) first.1 in
      element_assignment_way a x.variable index e next (f, reads_assigned p shared u a c index f.0 first.0) (g, reads_assigned p shared u a c e g.0 second.0)
      (by_variable x.variable refl array)
    where
      reaches : (v : ℕ) → x.variable ≡ Shared v → Covers p (behind u (names_read index ++ (names_read e ++ write x ∷ []))) a
      reaches v is =
          subst (λ w. Covers p w a) (sym (behind_expression u index (names_read e ++ write x ∷ []) ∙ behind_expression u e (write x ∷ [])))
          (covers_shared p u a x v is c)

      by_variable : (v : Variable) → x.variable ≡ v → IsArrayName shared v → Moves room 2 0 next (at 2 a)
      by_variable (Shared v) is k = moves room 2 0 2 0 a next (omega arith) (omega arith) (omega arith) (h a (reaches v is))
      by_variable (Local v) is k = absurd k

  -- what follows a statement, where others stand behind it
  step_follows : (s : CheckedStatement) (more : CheckedBlock) (u : ℕ → Bool) (next rest : Place → Type 0) → BlockCallsBelow n more
      → Follows p (BlockPath direct (t.step s more)) u next
      → ((xs : List Access) → StatementPath direct s xs goes_on → (a : ℕ → Bool) → Covers p (behind u xs) a → rest (at 0 a))
      → Follows p (StatementPath direct s) u rest
  step_follows s more u next rest calls h k = record { safe = λ xs end q. by_end xs end q; on = k }
    where
      by_end : (xs : List Access) (end : End) → StatementPath direct s xs end → Safe u xs
      by_end xs goes_on q =
          let m = some_block functions n few more calls in
          (safe_both u xs m.accesses (h.safe (xs ++ m.accesses) m.end (path.step s more xs m.accesses m.end q m.is))).0
      by_end xs (goes_to task) q = h.safe xs (goes_to task) (path.stopped s more xs (goes_to task) tt q)
      by_end xs returns q = h.safe xs returns (path.stopped s more xs returns tt q)

  -- what follows those
  block_follows : (s : CheckedStatement) (more : CheckedBlock) (u : ℕ → Bool) (next : Place → Type 0) (xs : List Access)
      → Follows p (BlockPath direct (t.step s more)) u next → StatementPath direct s xs goes_on
      → Follows p (BlockPath direct more) (behind u xs) next
  block_follows s more u next xs h q = record {
    safe = λ ys end r. (safe_both u xs ys (h.safe (xs ++ ys) end (path.step s more xs ys end q r))).1;
    on = λ ys r a c. h.on (xs ++ ys) (path.step s more xs ys goes_on q r) a (subst (λ v. Covers p v a) (sym (behind_both u xs ys)) c);
  }

  -- what follows a block that an `if` takes, and what the conditions that come next
  taken_follows : (e : CheckedExpression) (b : CheckedBlock) (more : CheckedChoice) (u : ℕ → Bool) (next : Place → Type 0)
      → CallsAreBelow n e → Follows p (ChoicePath direct (t.test e b more)) u next → Follows p (BlockPath direct b) u next
  taken_follows e b more u next calls h = record {
    safe =
        λ ys end r. (safe_expression u e ys (h.safe (names_read e ++ ys) end
        (path.taken e b more (names_read e) ys end (is_path functions n few e calls) r))).1;
    on =
        λ ys r a c. h.on (names_read e ++ ys) (path.taken e b more (names_read e) ys goes_on (is_path functions n few e calls) r) a
        (subst (λ v. Covers p v a) (sym (behind_expression u e ys)) c);
  }

  passed_follows : (e : CheckedExpression) (b : CheckedBlock) (more : CheckedChoice) (u : ℕ → Bool) (next : Place → Type 0)
      → CallsAreBelow n e → Follows p (ChoicePath direct (t.test e b more)) u next → Follows p (ChoicePath direct more) u next
  passed_follows e b more u next calls h = record {
    safe =
        λ ys end r. (safe_expression u e ys (h.safe (names_read e ++ ys) end
        (path.passed e b more (names_read e) ys end (is_path functions n few e calls) r))).1;
    on =
        λ ys r a c. h.on (names_read e ++ ys) (path.passed e b more (names_read e) ys goes_on (is_path functions n few e calls) r) a
        (subst (λ v. Covers p v a) (sym (behind_expression u e ys)) c);
  }

  mutual
    statement_way : (s : CheckedStatement) (u a : ℕ → Bool) (next : Place → Type 0) → IsFitStatement g s → Covers p u a
        → Follows p (StatementPath direct s) u next → EachWay room (lowered_statement p rs s) next (at 0 a)
    statement_way (t.declare of x None) u a next is c h = h.on (unset x ∷ []) (path.declare_unset of x) a (covers_forgotten p u a x c)
    statement_way (t.declare of x (Some e)) u a next is c h =
        let q = path.declare_set of x e (names_read e) (is_path functions n few e is.below) in
        let xs = names_read e ++ write x ∷ [] in
        assigned_way u a Unsigned x e next (is.formed.1, is.fits) c (h.safe xs goes_on q) (h.on xs q)
    statement_way (t.assign x e) u a next is c h =
        let q = path.assign x e (names_read e) (is_path functions n few e is.below) in
        let xs = names_read e ++ write x ∷ [] in
        assigned_way u a x.word_type x e next (is.formed.1, is.fits) c (h.safe xs goes_on q) (h.on xs q)
    statement_way (t.store x index e) u a next is c h =
        let q = path.store x index e (names_read index) (names_read e) (is_path functions n few index is.below.0) (is_path functions n few e is.below.1) in
        let xs = names_read index ++ (names_read e ++ write x ∷ []) in
        element_assigned_way u a x index e next (is.formed.1, is.fits.0) (is.formed.2, is.fits.1) is.formed.0 c (h.safe xs goes_on q) (h.on xs q)
    statement_way (t.choose choice) u a next is c h =
        choice_way choice u a next (choice_fit g choice is) c (record {
          safe = λ xs end q. h.safe xs end (path.choose choice xs end q);
          on = λ xs q. h.on xs (path.choose choice xs goes_on q);
        })
    statement_way (t.loop x from tested below stepped body) u a next is c h =
        let inner : IsFitBlock g body =
        record { formed = is.formed.1; fits = is.fits; below = is.below; names = is.names.1; calls = is.calls; ends = is.ends } in
        turns_way p functions n few room x (lowered_block p rs body) body (λ v b rest d k. block_way body v b rest inner d k)
        (some_block functions n few body is.below) (below - from) u a next c (record {
          safe = λ xs end q. h.safe (write x ∷ xs) end (path.loop x from tested below stepped body xs end q);
          on = λ xs q. h.on (write x ∷ xs) (path.loop x from tested below stepped body xs goes_on q);
        })
    statement_way (t.emit e) u a next is c h =
        let q = path.emit e (names_read e) (is_path functions n few e is.below) in
        let reads = reads_assigned p shared u a c e is.formed.0 (h.safe (names_read e) goes_on q) in
        joined_way room (lowered_expression p rs e) (one (emit_word (word_place p.map EmitCount) p.map.emits.address)) next (at 0 a)
        (expression_way p rs words shared room 0 a e _ ((is.formed.0, is.fits), reads)
        (moves room 1 0 1 0 a next (omega arith) (omega arith) (omega arith) (h.on (names_read e) q a (subst (λ v. Covers p v a) (sym (behind_names u e)) c))))
    -- a body gives its word from an otherwise empty stack
    statement_way (t.give place e) u a next is c h =
        let q = path.give place e (names_read e) (is_path functions n few e is.below) in
        let reads = reads_assigned p shared u a c e is.formed.0 (h.safe (names_read e) returns q) in
        joined_way room (lowered_expression p rs e) (one give) next (at 0 a)
        (expression_way p rs words shared room 0 a e _ ((is.formed.0, is.fits), reads) refl)
    statement_way (t.transition place task) u a next is c h = transition_way task.task next (at 0 a) is.ends

    choice_way : (choice : CheckedChoice) (u a : ℕ → Bool) (next : Place → Type 0) → IsFitChoice g choice → Covers p u a
        → Follows p (ChoicePath direct choice) u next → EachWay room (lowered_choice p rs choice) next (at 0 a)
    choice_way t.nothing u a next is c h = h.on [] path.nothing a c
    choice_way (t.otherwise b) u a next is c h =
        block_way b u a next (otherwise_fit g b is) c
        (record { safe = λ xs end q. h.safe xs end (path.otherwise b xs end q); on = λ xs q. h.on xs (path.otherwise b xs goes_on q) })
    choice_way (t.test e b more) u a next is c h =
        let some = some_block functions n few b is.below.1.0 in
        let s = h.safe (names_read e ++ some.accesses) some.end
        (path.taken e b more (names_read e) some.accesses some.end (is_path functions n few e is.below.0) some.is) in
        let reads = reads_assigned p shared u a c e is.formed.0 (safe_expression u e some.accesses s).0 in
        (lowering_has (ways p rs room a) words shared 0 e is.formed.0 is.fits.0 reads (any_call e)).test (EachWay room (lowered_block p rs b) next)
        (EachWay room (lowered_choice p rs more) next)
        (block_way b u a next (taken_fit g e b more is) c (taken_follows e b more u next is.below.0 h))
        (choice_way more u a next (passed_fit g e b more is) c (passed_follows e b more u next is.below.0 h))

    block_way : (b : CheckedBlock) (u a : ℕ → Bool) (next : Place → Type 0) → IsFitBlock g b → Covers p u a
        → Follows p (BlockPath direct b) u next → EachWay room (lowered_block p rs b) next (at 0 a)
    block_way t.end u a next is c h = h.on [] path.finished a c
    block_way (t.step s more) u a next is c h =
        joined_way room (lowered_statement p rs s) (lowered_block p rs more) next (at 0 a)
        (statement_way s u a (EachWay room (lowered_block p rs more) next) (first_fit g s more is) c
        (step_follows s more u next (EachWay room (lowered_block p rs more) next) is.below.1 h
        (λ xs q b d. block_way more (behind u xs) b next (rest_fit g s more is) d (block_follows s more u next xs h q))))

  -- from the start of a body, of which no path reads an unassigned local or goes on behind its end, and where these locals are assigned
  pub body_way : (b : CheckedBlock) (u a : ℕ → Bool) → IsFitBlock g b → Covers p u a
      → ((xs : List Access) (end : End) → BlockPath direct b xs end → Safe u xs)
      → ((xs : List Access) → BlockPath direct b xs goes_on → ⊥)
      → EachWay room (lowered_block p rs b) (λ q. ⊥) (at 0 a)
  body_way b u a is c safe none = block_way b u a (λ q. ⊥) is c (record { safe = safe; on = λ xs q d e. none xs q })

  -- of a task, all whose locals are unassigned
  pub task_way : (b : CheckedBlock) → IsFitBlock g b → ((xs : List Access) (end : End) → BlockPath direct b xs end → Safe (not_given 0) xs)
      → ((xs : List Access) → BlockPath direct b xs goes_on → ⊥)
      → EachWay room (lowered_block p rs b) (λ q. ⊥) start
  task_way b is safe none =
      body_way b (not_given 0) (λ x. false) is (λ x l h. absurd (differs (not_given 0 x) (none_given x) h)) safe none
    where
      differs : (c : Bool) → c ≡ true → c ≡ false → ⊥
      differs true h k = let no : true ≡ false = k in cc
      differs false h k = let no : false ≡ true = h in cc

      none_given : (x : ℕ) → not_given 0 x ≡ true
      none_given x = by (nat_lt x 0) refl
        where
          by : (c : Bool) → nat_lt x 0 ≡ c → not c ≡ true
          by true e = let low : x < 0 = ltb-true x 0 e in let none : ⊥ = omega (arith, low) in absurd none
          by false e = refl
