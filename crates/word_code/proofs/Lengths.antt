-- The code of a program is made of forms of tasks' code, whose jumps reach no further than ten bits say, and is no longer than its words say.
use Rattle.word_code.specs.Code.{is_turned, compare_source, any_at}
use Rattle.word_code.proofs.Names.{ToFram, power, sides, ◌≡◌, ℕ, ◌+◌, ◌-◌, ◌*◌, ◌<◌, ◌≤◌, ◌==◌, List, [], ◌∷◌, ◌++◌, length, refl, arith, length-append, Bool}
use Rattle.word_code.proofs.Names.{true, false, not, nat_le, nat_lt, Option, Some, None, if◌then◌else◌, nat_tests, word_sum, Condition, R4, R5, Register}
use Rattle.word_code.proofs.Names.{Constant, Number, Ram, Source, source_bytes, ToRegister, ToRam, ToIndexed, Form, Move, Calculate, Update, Push, Jump, Skip}
use Rattle.word_code.proofs.Names.{SetStack, instruction_of, forms_bytes, instruction_words, instructions, bytes_are, UnaryOperation, Negate, BinaryOperation}
use Rattle.word_code.proofs.Names.{Multiply, Divide, Remainder, Plain, PlainOperation, And, Left, Right, Comparison, Above, SignedAbove, ArrayPlace, ListPlace}
use Rattle.word_code.proofs.Names.{Step, Test, Program, number, load, keep, update, local, set_local, update_local, unary, binary, shift, long, element}
use Rattle.word_code.proofs.Names.{emit_word, list_entry, versioned_read, versioned_write, versioned_update, sense, truth, choose, repeat, store_number}
use Rattle.word_code.proofs.Names.{next_event, freeze_events, event_code, freeze_code, logged_write, logged_update, LoggedPlace, logged_first, logged_code}
use Rattle.word_code.proofs.Names.{kept_in, made_in, known_logged, logged_update_at}
use Rattle.word_code.proofs.Names.{move_word, jump, holds, compares, both, either, fails, nothing, step, unary_words, binary_words, right_words, step_words}
use Rattle.word_code.proofs.Names.{test_words, words_of, Bound, Waiting, local_register, local_address, flushed, top_of, source_from, below_top, kept, stays}
use Rattle.word_code.proofs.Names.{right_source, top_power, two_code, power_code, power_result, two_to_registers, unary_middle, binary_middle, binary_result}
use Rattle.word_code.proofs.Names.{plain_instruction, update_code, ram_update, check_code, zero_code, fetch_code, element_code, emit_code, pair_code, own_code}
use Rattle.word_code.proofs.Names.{read_code, stored_code, write_code, compare_form, holding, failing, size, pass_over, decision, holds_code, compares_code}
use Rattle.word_code.proofs.Names.{truth_code, number_source, turn_end, ram_turn_end, turns_code, waiting_behind, waiting_after, step_code, test_code}
use Rattle.word_code.proofs.Names.{steps_code, top_number, element_at, bound_of, is_inside, block_code, code_of, rests, rest_source, indexed_update}
use Rattle.word_code.proofs.Names.{known_update, known_index, update_at, CodeHasItsBytes, CodeHasItsWords, made_code, first_update, by_version, inside_update}
use Rattle.word_code.proofs.Names.{max, stack_base, stack_set, step_locals, test_locals, locals_of, call, give, zero, suc, Call, Return, KeepStack}
use Rattle.word_code.proofs.Names.{RestoreStack}
use Rattle.word_code.proofs.Names.{StackNext, below_words, values_code, light_call, frame_code, framed_call, give_code, routine_code}
use Rattle.word_code.specs.TaskForms.{call_named, step_named, test_named, named_of}
use Rattle.array_versions.specs.msp_step.msp_isa.Encoding.{encoding}
use Rattle.array_versions.specs.msp_step.msp_isa.declared.instructions.TwoOp.TheVariants as op
use Rattle.array_versions.specs.msp_step.msp_isa.declared.instructions.Condition.TheVariants as condition
use Rattle.array_versions.specs.msp_step.msp_isa.declared.operands.Konst.TheVariants as konst
use Rattle.code_forms.specs.Forms as forms
use Rattle.word_code.specs.declared.waiting.Waiting.TheVariants as waiting
use Rattle.array_versions.proofs.Interface.{right_low}
use Rattle.word_code.proofs.UpdateBytes.{reads_bytes, near_size}
use Rattle.word_code.proofs.CodeTakes.{IsRead, Takes, behind, so_takes, joined, either_takes, nothing_takes, made_of, number_bytes, number_is, source_is}
use Rattle.word_code.proofs.CodeTakes.{side_is, side_takes, kept_bytes_of, kept_bytes, source_short, shift_takes, shift_most, flushed_takes, cleared_by}
use Rattle.word_code.proofs.CodeTakes.{cleared_takes, four_takes, five_takes, top_to_four_takes, top_to_five_takes, two_takes, set_bytes, set_small, set_most}
use Rattle.word_code.proofs.LongLengths.{long_takes}

-- ---- facts on numbers

near_is : (d : ℕ) → nat_le d 511 ≡ true → d < 0x400
near_is d e = grind (arith, nat_tests)

-- a local in RAM stands above the stack
above : (k n : ℕ) → n < k → stack_base k ≤ local_address n
above k n l = omega (arith, l)

known_bytes_most : (b : Bool) (a : ℕ) → kept_bytes_of (if b then waiting.Fram a else (waiting.Number 0)) ≤ 4
known_bytes_most true a = omega arith
known_bytes_most false a = omega arith

-- what an operation on two words and its result take
abbrev OperationTakes : ℕ → Waiting → List Waiting → List Form → BinaryOperation → Type 0
OperationTakes k r os ms o = Takes k ms (kept_bytes (kept (below_top (below_top os))) + kept_bytes_of r) (2 * binary_words o + kept_bytes os)

-- the code of a task whose locals are below a number
module _ {k : ℕ} where
  -- ---- the parts of steps

  unary_takes : (o : UnaryOperation) → Takes k (unary_middle o) 4 (2 * unary_words o)
  unary_takes Negate = record { each = search arith; bytes = omega arith }
  unary_takes _ = record { each = search arith; bytes = omega arith }

  -- of each operation alike: the first clause makes it a proof by cases
  binary_takes : (o : BinaryOperation) → Takes k (binary_middle o) (kept_bytes_of (binary_result o) + 4) (2 * binary_words o)
  binary_takes Multiply = record { each = search arith; bytes = omega arith }
  binary_takes _ = record { each = search arith; bytes = omega arith }

  -- code behind the check of an index
  checked_takes : {ms : List Form} {n : ℕ} (length over : ℕ) → over < 0x400 → Takes k ms 0 n → Takes k (check_code length over ++ ms) 0 (6 + n)
  checked_takes length over l x =
      joined (made_of (check_code length over) 6 (number_is k length, (l, tt)) (omega (arith, number_bytes length))) x (omega arith)

  element_code_takes : (b : Bool) (base length : ℕ) → Takes k (element_code b base length) 0 16
  element_code_takes true base length = record { each = search arith; bytes = omega arith }
  element_code_takes false base length =
      checked_takes length 4 (omega arith) (made_of (fetch_code base ++ zero_code) 10 (search arith) (omega arith))

  -- by whether the entry has one word
  entry_takes : (count list home copy words : ℕ) (b : Bool) → Takes k (pair_code count list home copy ++ (Move (if b then Constant konst.One else
      Number words) (ToIndexed R4 (word_sum list 4)) ∷ Update op.Add (Constant konst.One) count ∷ [])) 0 (2 * (if b then 16 else 17))
  entry_takes count list home copy words true = record { each = search arith; bytes = omega arith }
  entry_takes count list home copy words false = record { each = search arith; bytes = omega arith }

  read_takes : (b : Bool) (place : ArrayPlace) (list : ListPlace) → Takes k (read_code b place list) 0 32
  read_takes true place list = record { each = search arith; bytes = omega arith }
  read_takes false place list = checked_takes place.length 12 (omega arith) (made_of (own_code 4 place list ++ zero_code) 26 (search arith) (omega arith))

  stored_takes : (place : ArrayPlace) (list : ListPlace) → Takes k (stored_code place list) 0 108
  stored_takes place list = record { each = search arith; bytes = omega arith }

  write_takes : (b : Bool) (place : ArrayPlace) (list : ListPlace) → Takes k (write_code b place list) 0 114
  write_takes true place list = so_takes (stored_takes place list) (omega arith)
  write_takes false place list = checked_takes place.length 54 (omega arith) (stored_takes place list)

  -- a logged element, by what stores it
  logged_takes : {n : ℕ} (b : Bool) (place : LoggedPlace) (list : ListPlace) (last : List Form) → n ≤ 20 → Takes k last 0 n
      → Takes k (logged_code b place list last) 0 (52 + n)
  logged_takes true place list last l x =
      joined (made_of (logged_first place list) 46 (search arith) (omega arith)) x (omega arith)
  logged_takes false place list last l x =
      let inside = behind (made_of (logged_first place list) 46 (search arith) (omega arith)) x in
      let ms = logged_first place list ++ last in
      so_takes (checked_takes place.length (size ms) (omega (arith, near_size ms 66 (omega (arith, inside.bytes, l)) (omega arith))) inside) (omega arith)

  -- ---- jumps

  -- a jump, by whether it is near
  jump_takes : (near : Bool) (met opposite : Condition) (offset far : ℕ) → (near ≡ true → offset < 0x400)
      → Takes k (if near then Jump met offset ∷ [] else (Jump opposite 2 ∷ Skip far ∷ [])) 0 6
  jump_takes true met opposite offset far f = record { each = (f refl, tt); bytes = omega arith }
  jump_takes false met opposite offset far f = record { each = search arith; bytes = omega arith }

  decision_takes : (when : Bool) (d : ℕ) (met opposite : Condition) → Takes k (decision when d met opposite) 0 6
  decision_takes true d met opposite = jump_takes (nat_le d 511) met opposite d (2 * d) (near_is d)
  decision_takes false d met opposite = jump_takes (nat_le d 511) opposite met d (2 * d) (near_is d)

  pass_fits : (d : ℕ) → Takes k (pass_over d) 0 4
  pass_fits d = either_takes (d == 0) (λ b. 4) (nothing_takes 0 4 (omega arith)) (by (nat_le d 511) refl)
    where
      by : (near : Bool) → nat_le d 511 ≡ near → Takes k (if near then Jump condition.Always d ∷ [] else (Skip (2 * d) ∷ [])) 0 4
      by true e = record { each = (near_is d e, tt); bytes = omega arith }
      by false e = record { each = (tt, tt); bytes = omega arith }

  -- ---- locals, of which those in RAM stand above the stack

  -- a word to a local
  target_takes : (b : Bool) (n : ℕ) (x : Source) → n < k → IsRead k x
      → Takes k (Move x (if b then ToRegister (local_register n) else ToRam (local_address n)) ∷ []) 0 (source_bytes x + 4)
  target_takes true n x l h = record { each = ((h, tt), tt); bytes = omega arith }
  target_takes false n x l h = record { each = ((h, above k n l), tt); bytes = omega arith }

  local_takes : (b : Bool) (n : ℕ) (os : List Waiting) → n < k → Takes k (if b then [] else (flushed os ++ Push (Ram (local_address n)) ∷ []))
      (kept_bytes (if b then waiting.Local n ∷ os else [])) (4 + kept_bytes os)
  local_takes true n os l = nothing_takes (kept_bytes os + 4) (4 + kept_bytes os) (omega arith)
  local_takes false n os l =
      joined (flushed_takes os) (made_of (Push (Ram (local_address n)) ∷ []) 4 (above k n l, tt) (omega arith)) (omega arith)

  update_takes : (o : PlainOperation) (n : ℕ) (x : Source) → n < k → IsRead k x → Takes k (update_code o n x) 0 (source_bytes x + 12)
  update_takes o n x l h =
      either_takes (nat_lt n 8) (λ b. source_bytes x + 12) (record { each = (h, tt); bytes = omega arith })
      (made_of (ram_update o n x) (source_bytes x + 12) ((h, tt), ((above k n l, tt), (tt, ((tt, above k n l), tt)))) (omega arith))

  turn_end_fits : (n below : ℕ) → n < k → Takes k (turn_end n below) 0 14
  turn_end_fits n below l =
      either_takes (nat_lt n 8) (λ b. 14) (record { each = (tt, (number_is k below, tt)); bytes = omega (arith, number_bytes below) })
      (made_of (ram_turn_end n below) 14 ((above k n l, tt), (tt, ((tt, above k n l), (number_is k below, tt)))) (omega (arith, number_bytes below)))

  -- turns have ten words more than their body
  turns_takes : {j m : ℕ} (n below : ℕ) (body : List Form) → n < k → Takes k body j m → Takes k (turns_code n below body) j (m + 20)
  turns_takes n below body l x =
      let d = size (body ++ turn_end n below) in
      let back = jump_takes (nat_le d 511) condition.NotEqual condition.Equal (1023 - d) (0xFFFA - 2 * d) (λ e. omega arith) in
      joined (behind x (turn_end_fits n below l)) back (omega arith)

  -- ---- words that wait

  -- what brings both sides, with the reading instruction's extension word
  sides_take : (os : List Waiting)
      → Takes k (sides os) (source_bytes (right_source (top_of os)) + kept_bytes (kept (below_top (below_top os)))) (4 + kept_bytes os)
  sides_take os =
      let under = below_top os in
      joined (cleared_takes (below_top under)) (behind (side_takes (stays (top_of os)) R5 os) (four_takes under)) (omega arith)

  -- a plain operation behind that
  plain_takes : (o : PlainOperation) (os : List Waiting)
      → Takes k (two_code os (Plain o)) (kept_bytes (kept (below_top (below_top os))) + 2) (8 + kept_bytes os)
  plain_takes o os =
      let s = right_source (top_of os) in
      let is = side_is k (stays (top_of os)) (top_of os) R5 in
      joined (sides_take os) (made_of (Calculate (plain_instruction o) s R4 ∷ []) (2 + source_bytes s) (is, tt) (omega arith)) (omega arith)

  two_code_takes : (o : BinaryOperation) (os : List Waiting) → OperationTakes k (binary_result o) os (two_code os o) o
  two_code_takes (Plain o) os = plain_takes o os
  two_code_takes o os = joined (two_takes os) (binary_takes o) (omega arith)

  power_takes : (p : Option ℕ) (n : ℕ) (os : List Waiting) (o : BinaryOperation)
      → OperationTakes k (power_result p o) (waiting.Number n ∷ os) (power_code p (waiting.Number n ∷ os) o) o
  power_takes None n os o = two_code_takes o (waiting.Number n ∷ os)
  power_takes (Some m) n os Multiply =
      joined (top_to_four_takes os) (shift_takes Left m) (omega (arith, shift_most m m (omega arith)))
  power_takes (Some m) n os Divide =
      joined (top_to_four_takes os) (shift_takes Right m) (omega (arith, shift_most m (right_words m) (right_low m)))
  power_takes (Some m) n os Remainder = so_takes (plain_takes And (waiting.Number (n - 1) ∷ os)) (omega arith)
  power_takes (Some m) n os (Plain o) = two_code_takes (Plain o) (waiting.Number n ∷ os)

  operation_takes : (o : BinaryOperation) (os : List Waiting)
      → OperationTakes k (power_result (top_power (top_of os)) o) os (power_code (top_power (top_of os)) os o) o
  operation_takes o (waiting.Number n ∷ os) = power_takes (power n) n os o
  operation_takes o os = two_code_takes o os

  -- an element, at a number that waits and elsewhere
  element_takes : (b : Bool) (base n : ℕ) (os : List Waiting)
      → Takes k (element_at b (top_number (top_of os)) os base n) (kept_bytes (waiting_behind os (element base n))) (20 + kept_bytes os)
  element_takes b base n (waiting.Number m ∷ os) =
      record { each = tt; bytes = omega (arith, known_bytes_most (nat_lt m n) (word_sum base (word_sum m m))) }
  element_takes b base n os = joined (top_to_four_takes os) (element_code_takes b base n) (omega arith)

  -- ---- an element that is updated in place

  first_takes : (o : PlainOperation) (x : Source) (place : ArrayPlace) (list : ListPlace) → IsRead k x
      → Takes k (first_update o x place list) 0 (106 + source_bytes x)
  first_takes o x place list h =
      let stored = (stored_takes place list).each in
      record { each = ((tt, tt), (h, ((tt, tt), ((tt, tt), stored.1.1.1.1.1)))); bytes = omega arith }

  -- the two ways of an update, which are short
  ways_takes : {m n : ℕ} (again first : List Form) → m ≤ 400 → n ≤ 400 → Takes k again 0 m → Takes k first 0 n
      → Takes k (by_version again first) 0 (4 + m + n)
  ways_takes again first la lf x y =
      let leave = Jump condition.Always (size first) ∷ [] in
      let near : size first < 0x400 = omega (arith, near_size first 400 (omega (arith, lf, y.bytes)) (omega arith)) in
      let next = behind x (made_of leave 2 (near, tt) (omega arith)) in
      let far : size (again ++ leave) < 0x400 = omega (arith, near_size (again ++ leave) 402 (omega (arith, la, next.bytes)) (omega arith)) in
      let both = behind next y in
      record { each = (far, both.each); bytes = omega (arith, both.bytes) }

  inside_takes : (o : PlainOperation) (x : Source) (place : ArrayPlace) (list : ListPlace) → IsRead k x
      → Takes k (inside_update o x place list) 0 (130 + 2 * source_bytes x)
  inside_takes o x place list h =
      let small = reads_bytes o x in
      let made = made_code o x place.copies place.copies in
      let again = made_of made (10 + source_bytes x) ((tt, tt), (h, ((tt, tt), tt))) (omega arith) in
      let ways = ways_takes made (first_update o x place list) (omega (arith, small)) (omega (arith, small)) again (first_takes o x place list h) in
      record { each = (tt, ((tt, tt), (tt, ways.each))); bytes = omega (arith, ways.bytes) }

  known_takes : (o : PlainOperation) (x : Source) (place : ArrayPlace) (list : ListPlace) (n : ℕ) → IsRead k x
      → Takes k (known_update o x place list n) 0 (126 + 2 * source_bytes x)
  known_takes o x place list n h =
      let small = reads_bytes o x in
      let rest = first_takes o x place list h in
      let one = Update (plain_instruction o) x (word_sum place.copies (word_sum n n)) ∷ [] in
      let all = Move (Number (word_sum n n)) (ToRegister R4) ∷ first_update o x place list in
      let again = made_of one (4 + source_bytes x) (h, tt) (omega arith) in
      let first = made_of all (110 + source_bytes x) ((tt, tt), rest.each) (omega (arith, rest.bytes)) in
      let ways = ways_takes one all (omega (arith, small)) (omega (arith, small)) again first in
      record { each = ((tt, tt), (tt, ways.each)); bytes = omega (arith, ways.bytes) }

  indexed_takes : (sure : Bool) (o : PlainOperation) (x : Source) (place : ArrayPlace) (list : ListPlace) → IsRead k x
      → Takes k (indexed_update sure o x place list) 0 (136 + 2 * source_bytes x)
  indexed_takes true o x place list h = so_takes (inside_takes o x place list h) (omega arith)
  indexed_takes false o x place list h =
      let ms = inside_update o x place list in
      let inside = inside_takes o x place list h in
      let far : size ms < 0x400 = omega (arith, near_size ms 200 (omega (arith, inside.bytes, reads_bytes o x)) (omega arith)) in
      record { each = (tt, (far, inside.each)); bytes = omega (arith, inside.bytes) }

  in_place_takes : (n : Option ℕ) (sure : Bool) (o : PlainOperation) (place : ArrayPlace) (list : ListPlace) (os : List Waiting)
      → Takes k (update_at n sure os o place list) 0 (140 + kept_bytes os)
  in_place_takes None sure o place list os =
      let under = below_top os in
      let last = indexed_takes sure o (rest_source (top_of os)) place list (side_is k (rests (top_of os)) (top_of os) R5) in
      joined (behind (flushed_takes (below_top under)) (behind (side_takes (rests (top_of os)) R5 os) (four_takes under))) last (omega arith)
  in_place_takes (Some n) sure o place list os =
      let under = below_top os in
      let last = known_takes o (rest_source (top_of os)) place list n (side_is k (rests (top_of os)) (top_of os) R5) in
      joined (behind (flushed_takes (below_top under)) (side_takes (rests (top_of os)) R5 os)) last (omega (arith, source_short under))

  -- ---- steps

  -- code behind the pushes of all that waits
  behind_flushed : {ms : List Form} {j n : ℕ} (os : List Waiting) → Takes k ms j n → Takes k (flushed os ++ ms) j (n + kept_bytes os)
  behind_flushed os x = joined (flushed_takes os) x (omega arith)

  -- a statement's instruction behind the pushes of what waits below its source
  behind_below : {ms : List Form} (n : ℕ) (os : List Waiting) → Takes k ms 0 (source_bytes (source_from (top_of os)) + n)
      → Takes k (flushed (below_top os) ++ ms) 0 (n + kept_bytes os)
  behind_below n os x = joined (flushed_takes (below_top os)) x (omega (arith, source_short os))

  -- what sets the place of the stack
  set_takes : (locals : ℕ) → locals ≤ k → Takes k (stack_set locals) 0 (set_bytes locals)
  set_takes locals l =
      either_takes (nat_lt 8 locals) (λ b. if b then 4 else 0) (made_of (SetStack (stack_base locals) ∷ []) 4 (omega (arith, l), tt) (omega arith))
      (nothing_takes 0 0 (omega arith))

  -- calls
  values_take : (first n : ℕ) (os : List Waiting) → Takes k (values_code first n os) (kept_bytes (below_words n os)) (2 * n + kept_bytes os)
  values_take first zero os = nothing_takes (kept_bytes os) (2 * 0 + kept_bytes os) (omega arith)
  values_take first (suc n) os =
      joined (side_takes false (local_register (first + n)) os) (values_take first n (below_top os)) (omega arith)

  light_takes : (entry first count : ℕ) (os : List Waiting)
      → Takes k (light_call entry first count os) (kept_bytes (waiting.R4 ∷ [])) (2 * (3 + count) + kept_bytes os)
  light_takes entry first count os =
      joined (behind (values_take first count os) (flushed_takes (below_words count os))) (made_of (Call entry ∷ []) 4 (tt, tt) (omega arith)) (omega arith)

  moved_takes : (b : Bool) (m : ℕ) → m < k
      → Takes k (Move (StackNext R4) (if b then ToRegister (local_register m) else ToRam (local_address m)) ∷ []) 0 4
  moved_takes true m l = made_of (Move (StackNext R4) (ToRegister (local_register m)) ∷ []) 4 ((tt, tt), tt) (omega arith)
  moved_takes false m l = made_of (Move (StackNext R4) (ToRam (local_address m)) ∷ []) 4 ((tt, above k m l), tt) (omega arith)

  frame_takes : (first n : ℕ) → first + n ≤ k → Takes k (frame_code first n) 0 (4 * n)
  frame_takes first zero l = nothing_takes 0 0 (omega arith)
  frame_takes first (suc n) l =
      joined (moved_takes (nat_lt (first + n) 8) (first + n) (omega (arith, l))) (frame_takes first n (omega (arith, l))) (omega arith)

  framed_takes : (entry f first count : ℕ) (os : List Waiting) → call_named (Some f) first count ≤ k
      → Takes k (framed_call entry f first count os) (kept_bytes (waiting.R4 ∷ [])) (2 * (8 + 2 * count) + kept_bytes os)
  framed_takes entry f first count os l =
      let front = made_of (KeepStack R4 ∷ SetStack f ∷ []) 6 (tt, (omega (arith, l), tt)) (omega arith) in
      let last = made_of (Push (Register R4) ∷ Call entry ∷ RestoreStack ∷ []) 8 (tt, (tt, (tt, tt))) (omega arith) in
      joined (flushed_takes os) (behind front (behind (frame_takes first count (omega (arith, l))) last)) (omega arith)

  give_takes : (os : List Waiting) → Takes k (give_code os) 0 (4 + kept_bytes os)
  give_takes os = joined (four_takes os) (made_of (Return ∷ []) 2 (tt, tt) (omega arith)) (omega arith)

  -- steps with no word waiting in front of them, and then those that wait behind them are pushed
  block_takes : (bs : List Bound) (p : Program)
      → Takes k (steps_code bs [] p) (set_bytes (locals_of p) + kept_bytes (waiting_after [] p)) (2 * words_of p + 0)
      → Takes k (block_code bs p) (set_bytes (locals_of p)) (2 * words_of p)
  block_takes bs p x = joined x (flushed_takes (waiting_after [] p)) (omega arith)

  holds_takes : (os : List Waiting) (when : Bool) (d : ℕ) → Takes k (holds_code os when d) 0 (10 + kept_bytes os)
  holds_takes os when d =
      let test = made_of (Calculate op.Cmp (Constant konst.Zero) R4 ∷ []) 2 (tt, tt) (omega arith) in
      let decide = behind test (decision_takes when d condition.NotEqual condition.Equal) in
      joined (behind (top_to_four_takes os) (flushed_takes (kept (below_top os)))) decide (omega arith)

  -- what brings both sides of a comparison
  compare_sides_take : (turned : Bool) (os : List Waiting) → Takes k (if turned then two_to_registers os else (sides os))
      (source_bytes (if turned then Register R5 else (right_source (top_of os))) + kept_bytes (kept (below_top (below_top os)))) (4 + kept_bytes os)
  compare_sides_take true os = so_takes (two_takes os) (omega arith)
  compare_sides_take false os = sides_take os

  compare_takes : (c : Comparison) (o : Option Waiting)
      → Takes k (compare_form c (compare_source c o) ∷ []) 0 (2 + source_bytes (compare_source c o))
  compare_takes Above o = record { each = (tt, tt); bytes = omega arith }
  compare_takes SignedAbove o = record { each = (tt, tt); bytes = omega arith }
  compare_takes _ o = record { each = (side_is k (stays o) o R5, tt); bytes = omega arith }

  compares_takes : (os : List Waiting) (c : Comparison) (when : Bool) (d : ℕ) → Takes k (compares_code os c when d) 0 (12 + kept_bytes os)
  compares_takes os c when d =
      let decide = behind (compare_takes c (top_of os)) (decision_takes when d (holding c) (failing c)) in
      joined (behind (compare_sides_take (is_turned c) os) (flushed_takes (kept (below_top (below_top os))))) decide (omega arith)

  -- with what brings the index and the word
  logged_step_takes : {n : ℕ} (bs : List Bound) (place : LoggedPlace) (list : ListPlace) (os : List Waiting) (last : List Form) → n ≤ 20 → Takes k last 0 n
      → (let under = below_top os in
      Takes k ((two_to_registers os ++ flushed (kept (below_top under))) ++ logged_code (is_inside bs (top_of under) place.length) place list last) 0
      (56 + n + kept_bytes os))
  logged_step_takes bs place list os last l x =
      let under = below_top os in
      joined (behind (two_takes os) (flushed_takes (kept (below_top under)))) (logged_takes (is_inside bs (top_of under) place.length) place list last l x)
      (omega arith)

  logged_update_takes : (n : Option ℕ) (bs : List Bound) (o : PlainOperation) (place : LoggedPlace) (list : ListPlace) (os : List Waiting)
      → Takes k (logged_update_at n (is_inside bs (top_of (below_top os)) place.length) os o place list) 0 (66 + kept_bytes os)
  logged_update_takes None bs o place list os =
      logged_step_takes bs place list os (made_in o place.elements) (omega arith) (made_of (made_in o place.elements) 10 (search arith) (omega arith))
  logged_update_takes (Some n) bs o place list os =
      let under = below_top os in
      joined (behind (flushed_takes (below_top under)) (five_takes os)) (made_of (known_logged o place list n) 52 (search arith) (omega arith))
      (omega (arith, source_short under))

  -- steps leave the bytes with which the place of the stack is set, where they name a local that stands in RAM
  mutual
    step_takes : (bs : List Bound) (s : Step) (os : List Waiting) → step_named s ≤ k
        → Takes k (step_code bs os s) (set_bytes (step_locals s) + kept_bytes (waiting_behind os s)) (2 * step_words s + kept_bytes os)
    step_takes bs (number w) os l = nothing_takes _ _ (omega arith)
    step_takes bs (load a) os l = nothing_takes _ _ (omega arith)
    step_takes bs (keep a) os l =
        let x = source_from (top_of os) in
        let last = made_of (Move x (ToFram a) ∷ []) (4 + source_bytes x) ((source_is k (top_of os), tt), tt) (omega arith) in
        joined (cleared_by (any_at a (below_top os)) (below_top os)) last (omega (arith, source_short os))
    step_takes bs (update o a) os l = behind_below 4 os (record { each = (source_is k (top_of os), tt); bytes = omega arith })
    step_takes bs (local n) os l = so_takes (local_takes (nat_lt n 8) n os (omega (arith, l))) (omega (arith, set_small (n + 1)))
    step_takes bs (set_local n) os l =
        so_takes (behind_below 4 os (target_takes (nat_lt n 8) n _ (omega (arith, l)) (source_is k (top_of os)))) (omega (arith, set_small (n + 1)))
    step_takes bs (update_local o n) os l =
        so_takes (behind_below 12 os (update_takes o n _ (omega (arith, l)) (source_is k (top_of os)))) (omega (arith, set_small (n + 1)))
    step_takes bs (unary o) os l = joined (top_to_five_takes os) (unary_takes o) (omega arith)
    step_takes bs (binary o) os l = so_takes (operation_takes o os) (omega arith)
    step_takes bs (shift o n) os l = joined (top_to_four_takes os) (shift_takes o n) (omega arith)
    step_takes bs (long operation) os l = so_takes (long_takes operation os) (omega arith)
    step_takes bs (element base n) os l = so_takes (element_takes (is_inside bs (top_of os) n) base n os) (omega arith)
    step_takes bs (emit_word count buffer) os l =
        let last = made_of (emit_code count buffer) 18 (search arith) (omega arith) in
        joined (behind (top_to_five_takes os) (flushed_takes (kept (below_top os)))) last (omega arith)
    step_takes bs (list_entry count list home copy words) os l = behind_flushed os (entry_takes count list home copy words (words == 1))
    step_takes bs (versioned_read place list) os l =
        joined (top_to_four_takes os) (read_takes (is_inside bs (top_of os) place.length) place list) (omega arith)
    step_takes bs (versioned_write place list) os l =
        let under = below_top os in
        let front = behind (two_takes os) (flushed_takes (kept (below_top under))) in
        joined front (write_takes (is_inside bs (top_of under) place.length) place list) (omega arith)
    step_takes bs (versioned_update o place list) os l =
        in_place_takes (known_index os place.length) (is_inside bs (top_of (below_top os)) place.length) o place list os
    step_takes bs (logged_write place list) os l =
        let last = made_of (kept_in place.elements) 4 (search arith) (omega arith) in
        logged_step_takes bs place list os (kept_in place.elements) (omega arith) last
    step_takes bs (logged_update o place list) os l =
        logged_update_takes (known_index os place.length) bs o place list os
    step_takes bs sense os l = joined (cleared_takes os) (made_of (forms.Sense R4 ∷ []) 4 (tt, tt) (omega arith)) (omega arith)
    step_takes bs next_event os l = so_takes (behind_flushed os (made_of event_code 38 (search arith) (omega arith))) (omega arith)
    step_takes bs freeze_events os l = behind_flushed os (made_of freeze_code 12 (search arith) (omega arith))
    step_takes bs (truth t) os l =
        let push = made_of truth_code 6 (search arith) (omega arith) in
        so_takes (behind_flushed os (behind (test_fits bs t false 2 l) push)) (omega arith)
    step_takes bs (choose t taken otherwise) os l =
        let other = block_takes bs otherwise (steps_takes bs otherwise [] (omega (arith, l))) in
        let over = pass_fits (size (block_code bs otherwise)) in
        let first = behind (block_takes bs taken (steps_takes bs taken [] (omega (arith, l)))) over in
        let test = test_fits bs t false (size (block_code bs taken ++ pass_over (size (block_code bs otherwise)))) (omega (arith, l)) in
        let ways = max (locals_of taken) (locals_of otherwise) in
        so_takes (behind_flushed os (behind test (behind first other)))
        (omega (arith, set_most (test_locals t) ways, set_most (locals_of taken) (locals_of otherwise)))
    step_takes bs (repeat n from below body) os l =
        let inner = bound_of n below ∷ bs in
        let turns = turns_takes n below (block_code inner body) (omega (arith, l)) (block_takes inner body (steps_takes inner body [] (omega (arith, l)))) in
        let left = set_bytes (locals_of body) in
        let most = 2 * words_of body + 20 in
        let some = either_takes (nat_lt from below) (λ b. most) turns (nothing_takes left most (omega (arith, set_small (locals_of body)))) in
        let first = target_takes (nat_lt n 8) n (number_source from) (omega (arith, l)) (number_is k from) in
        so_takes (behind_flushed os (behind first some))
        (omega (arith, set_most (n + 1) (locals_of body), set_small (n + 1), number_bytes from))
    step_takes bs (store_number a w) os l =
        behind_flushed os (record { each = ((number_is k w, tt), tt); bytes = omega (arith, number_bytes w) })
    step_takes bs (move_word from to) os l = behind_flushed os (record { each = ((tt, tt), tt); bytes = omega arith })
    step_takes bs (jump to) os l = behind_flushed os (record { each = (tt, tt); bytes = omega arith })
    step_takes bs (call entry None first count body) os l = light_takes entry first count os
    step_takes bs (call entry (Some f) first count body) os l = framed_takes entry f first count os l
    step_takes bs give os l = give_takes os

    test_fits : (bs : List Bound) (t : Test) (when : Bool) (d : ℕ) → test_named t ≤ k
        → Takes k (test_code bs t when d) (set_bytes (test_locals t)) (2 * test_words t)
    test_fits bs (holds p) when d l = joined (steps_takes bs p [] l) (holds_takes (waiting_after [] p) when d) (omega arith)
    test_fits bs (compares c p) when d l = joined (steps_takes bs p [] l) (compares_takes (waiting_after [] p) c when d) (omega arith)
    test_fits bs (both t u) when d l =
        let first = test_fits bs t false (size (test_code bs u when d) + (if not when then d else 0)) (omega (arith, l)) in
        joined first (test_fits bs u when d (omega (arith, l))) (omega (arith, set_most (test_locals t) (test_locals u)))
    test_fits bs (either t u) when d l =
        let first = test_fits bs t true (size (test_code bs u when d) + (if when then d else 0)) (omega (arith, l)) in
        joined first (test_fits bs u when d (omega (arith, l))) (omega (arith, set_most (test_locals t) (test_locals u)))
    test_fits bs (fails t) when d l = test_fits bs t (not when) d l

    steps_takes : (bs : List Bound) (p : Program) (os : List Waiting) → named_of p ≤ k
        → Takes k (steps_code bs os p) (set_bytes (locals_of p) + kept_bytes (waiting_after os p)) (2 * words_of p + kept_bytes os)
    steps_takes bs nothing os l = nothing_takes _ _ (omega arith)
    steps_takes bs (step first more) os l =
        joined (step_takes bs first os (omega (arith, l))) (steps_takes bs more (waiting_behind os first) (omega (arith, l)))
        (omega (arith, set_most (step_locals first) (locals_of more)))

-- ---- programs

-- the parts of code by themselves
pub pass_takes : (d : ℕ) → Takes 0 (pass_over d) 0 4
pass_takes d = pass_fits d

pub turn_end_takes : (n below : ℕ) → Takes (n + 1) (turn_end n below) 0 14
turn_end_takes n below = turn_end_fits n below (omega arith)

pub test_takes : (bs : List Bound) (t : Test) (when : Bool) (d : ℕ) → Takes (test_named t) (test_code bs t when d) 0 (2 * test_words t)
test_takes bs t when d = so_takes (test_fits bs t when d (omega arith)) (omega arith)

block_fits : (bs : List Bound) (p : Program) → Takes (named_of p) (block_code bs p) (set_bytes (locals_of p)) (2 * words_of p)
block_fits bs p = block_takes bs p (steps_takes bs p [] (omega arith))

pub inner_takes : (bs : List Bound) (p : Program) → Takes (named_of p) (block_code bs p) 0 (2 * words_of p)
inner_takes bs p = so_takes (block_fits bs p) (omega arith)

-- a program's own locals are among those that its code names
mutual
  step_names : (s : Step) → step_locals s ≤ step_named s
  step_names (local n) = omega arith
  step_names (set_local n) = omega arith
  step_names (update_local o n) = omega arith
  step_names (truth t) = test_names t
  step_names (choose t p q) = omega (arith, test_names t, program_names p, program_names q)
  step_names (repeat n from below p) = omega (arith, program_names p)
  step_names _ = omega arith

  test_names : (t : Test) → test_locals t ≤ test_named t
  test_names (holds p) = program_names p
  test_names (compares c p) = program_names p
  test_names (both t u) = omega (arith, test_names t, test_names u)
  test_names (either t u) = omega (arith, test_names t, test_names u)
  test_names (fails t) = test_names t

  program_names : (p : Program) → locals_of p ≤ named_of p
  program_names nothing = omega arith
  program_names (step s p) = omega (arith, step_names s, program_names p)

pub whole_takes : (p : Program) → Takes (named_of p) (code_of p) 0 (2 * words_of p)
whole_takes p = joined (set_takes (locals_of p) (program_names p)) (block_fits [] p) (omega arith)

pub code_short : (p : Program) → forms_bytes (code_of p) ≤ 2 * words_of p
code_short p = omega (arith, (whole_takes p).bytes)

-- the code of a function's body
pub routine_takes : (p : Program) → Takes (named_of p) (routine_code p) 0 (2 * words_of p)
routine_takes p = inner_takes [] p

pub routine_short : (p : Program) → forms_bytes (routine_code p) ≤ 2 * words_of p
routine_short p = omega (arith, (routine_takes p).bytes)

instructions_length : (ms : List Form) → 2 * length (instruction_words (instructions ms)) ≡ forms_bytes ms
instructions_length [] = refl
instructions_length (m ∷ ms) =
    omega (arith, bytes_are m, instructions_length ms, length-append (encoding (instruction_of m)) (instruction_words (instructions ms)))

pub code_has_its_bytes : CodeHasItsBytes
code_has_its_bytes p = (code_short p, routine_short p)

pub code_has_its_words : CodeHasItsWords
code_has_its_words p = (
  omega (arith, code_short p, instructions_length (code_of p)),
  omega (arith, routine_short p, instructions_length (routine_code p)),
)
