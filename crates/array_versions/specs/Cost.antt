-- What the code of a word program costs at most, in cycles and in words.
use Rattle.std.specs.Prelude.{ℕ, zero, suc, ◌+◌, ◌-◌, ◌*◌, max, nat_le, nat_lt, ◌==◌, if◌then◌else◌, List, [], ◌∷◌, Option, Some, None}
use Rattle.array_versions.specs.declared.operations.UnaryOperation.{UnaryOperation}
use Rattle.array_versions.specs.declared.operations.UnaryOperation.TheVariants.{Negate, Complement}
use Rattle.array_versions.specs.declared.operations.BinaryOperation.{BinaryOperation}
use Rattle.array_versions.specs.declared.operations.BinaryOperation.TheVariants.{Multiply, Divide, Remainder, Plain}
use Rattle.array_versions.specs.declared.operations.Comparison.{Comparison}
use Rattle.array_versions.specs.declared.operations.ShiftOperation.{ShiftOperation}
use Rattle.array_versions.specs.declared.operations.ShiftOperation.TheVariants.{Left, Right, SignedRight}
use Rattle.array_versions.specs.declared.operations.LongOperation.{LongOperation}
use Rattle.array_versions.specs.declared.operations.LongOperation.TheVariants as with_longs
use Rattle.array_versions.specs.Operations.{is_true, compare_words}
use Rattle.array_versions.specs.Program.{Step, Test, Program, number, load, keep, update, local, set_local, update_local, unary, binary, shift, long, element}
use Rattle.array_versions.specs.Program.{emit_word}
use Rattle.array_versions.specs.Program.{list_entry}
use Rattle.array_versions.specs.Program.{versioned_read, versioned_write, versioned_update, logged_write, logged_update, sense, next_event, freeze_events}
use Rattle.array_versions.specs.Program.{truth, choose, repeat}
use Rattle.array_versions.specs.Program.{store_number}
use Rattle.array_versions.specs.Program.{move_word, jump, call, give, holds}
use Rattle.array_versions.specs.Program.{compares}
use Rattle.array_versions.specs.Program.{both, either, fails, nothing, step}
use Rattle.array_versions.specs.Behaviour.{WordState, End, GoesOn, Jumps, Gives, Short, Strays, Broken, Behaviour, with_stack, with_local, called}
use Rattle.array_versions.specs.Behaviour.{step_behaviour}
use Rattle.array_versions.specs.Behaviour.{behaviour}

-- the cycles of an operation on the top of the stack
abbrev pub unary_cycles : UnaryOperation → ℕ
unary_cycles Negate = 7
unary_cycles Complement = 7

-- its words
abbrev pub unary_words : UnaryOperation → ℕ
unary_words Negate = 4
unary_words Complement = 4

-- the cycles of an operation on two words; products and quotients go by the bits of a word
abbrev pub binary_cycles : BinaryOperation → ℕ
binary_cycles Multiply = 152
binary_cycles Divide = 202
binary_cycles Remainder = 202
binary_cycles (Plain op) = 8

-- its words
abbrev pub binary_words : BinaryOperation → ℕ
binary_words Multiply = 11
binary_words Divide = 15
binary_words Remainder = 15
binary_words (Plain op) = 4

-- the words that shift a register to the right by fewer than 8 bits: behind the first bit RRA brings in 0
abbrev pub right_words : ℕ → ℕ
right_words zero = 0
right_words (suc k) = 2 + k

-- the words that shift a register: by 8 and more its bytes are exchanged first
abbrev pub shift_words : ShiftOperation → ℕ → ℕ
shift_words Left k = if nat_lt k 8 then k else 3 + (k - 8)
shift_words Right k = if nat_lt k 8 then right_words k else 3 + (k - 8)
shift_words SignedRight k = if nat_lt k 8 then k else 2 + (k - 8)

-- the cycles of an operation with longs
abbrev pub long_cycles : LongOperation → ℕ
long_cycles (with_longs.Calculate op) = 16
long_cycles with_longs.Below = 14
long_cycles with_longs.Above = 16
long_cycles (with_longs.ShiftLeft k) = 32
long_cycles (with_longs.ShiftRight k) = 32
long_cycles with_longs.Complement = 16
long_cycles with_longs.Widen = 12
long_cycles with_longs.Join = 0
long_cycles with_longs.LowWord = 2
long_cycles with_longs.HighWord = 7

-- its words
abbrev pub long_words : LongOperation → ℕ
long_words (with_longs.Calculate op) = 8
long_words with_longs.Below = 8
long_words with_longs.Above = 10
long_words (with_longs.ShiftLeft k) = 26
long_words (with_longs.ShiftRight k) = 26
long_words with_longs.Complement = 8
long_words with_longs.Widen = 7
long_words with_longs.Join = 0
long_words with_longs.LowWord = 1
long_words with_longs.HighWord = 3

-- the words that store an entry of so many words: 1 takes no word of its own
abbrev pub entry_words : ℕ → ℕ
entry_words words = if words == 1 then 16 else 17

-- the cycles of a call of so many values beside those of the function's body, with the push of the word that it gives: where the function has a frame
-- the values are pushed first, then moved there
abbrev pub call_cycles : Option ℕ → ℕ → ℕ
call_cycles None count = 8 + 2 * count
call_cycles (Some f) count = 16 + 5 * count

-- its words. Those of the body count where it stands
abbrev pub call_words : Option ℕ → ℕ → ℕ
call_words None count = 3 + count
call_words (Some f) count = 8 + 2 * count

abbrev mutual
  -- the cycles of a step, at most: of two ways the greater, of a loop its turns
  pub step_cycles : Step → ℕ
  step_cycles (number w) = 4
  step_cycles (load a) = 5
  step_cycles (keep a) = 5
  step_cycles (update op a) = 5
  step_cycles (local n) = 5
  step_cycles (set_local n) = 5
  step_cycles (update_local op n) = 10
  step_cycles (unary op) = unary_cycles op
  step_cycles (binary op) = binary_cycles op
  step_cycles (shift op k) = 15
  step_cycles (long op) = long_cycles op
  step_cycles (element base length) = 15
  step_cycles (emit_word count buffer) = 16
  step_cycles (list_entry count list home copy words) = 26
  step_cycles (versioned_read place list) = 23
  step_cycles (versioned_write place list) = 79
  step_cycles (versioned_update op place list) = 86
  step_cycles (logged_write place list) = 49
  step_cycles (logged_update op place list) = 53
  step_cycles sense = 6
  step_cycles next_event = 31
  step_cycles freeze_events = 10
  step_cycles (truth t) = test_cycles t + 5
  step_cycles (choose t taken otherwise) = test_cycles t + max (cycles_of taken + 3) (cycles_of otherwise)
  step_cycles (repeat n from below body) = 5 + (below - from) * (15 + cycles_of body)
  step_cycles (store_number a w) = 5
  step_cycles (move_word from to) = 6
  step_cycles (jump to) = 3
  step_cycles (call entry frame first count body) = call_cycles frame count + cycles_of body
  step_cycles give = 5

  -- the cycles of a test, at most, up to where it goes on
  pub test_cycles : Test → ℕ
  test_cycles (holds p) = cycles_of p + 8
  test_cycles (compares op p) = cycles_of p + 10
  test_cycles (both t u) = test_cycles t + test_cycles u
  test_cycles (either t u) = test_cycles t + test_cycles u
  test_cycles (fails t) = test_cycles t

  -- the cycles of a program, at most
  pub cycles_of : Program → ℕ
  cycles_of nothing = 0
  cycles_of (step first more) = step_cycles first + cycles_of more

abbrev mutual
  -- the words of a step's code, at most. A step that names a local has two more, with which the place of the stack may be set in front of all
  pub step_words : Step → ℕ
  step_words (number w) = 2
  step_words (load a) = 2
  step_words (keep a) = 2
  step_words (update op a) = 2
  step_words (local n) = 4
  step_words (set_local n) = 4
  step_words (update_local op n) = 8
  step_words (unary op) = unary_words op
  step_words (binary op) = binary_words op
  step_words (shift op k) = 2 + (if nat_le k 15 then shift_words op k else 1)
  step_words (long op) = long_words op
  step_words (element base length) = 10
  step_words (emit_word count buffer) = 10
  step_words (list_entry count list home copy words) = entry_words words
  step_words (versioned_read place list) = 18
  step_words (versioned_write place list) = 59
  step_words (versioned_update op place list) = 70
  step_words (logged_write place list) = 30
  step_words (logged_update op place list) = 33
  step_words sense = 3
  step_words next_event = 20
  step_words freeze_events = 6
  step_words (truth t) = test_words t + 3
  step_words (choose t taken otherwise) = test_words t + 2 + words_of taken + words_of otherwise
  step_words (repeat n from below body) = 15 + words_of body
  step_words (store_number a w) = 3
  step_words (move_word from to) = 3
  step_words (jump to) = 2
  step_words (call entry frame first count body) = call_words frame count
  step_words give = 2

  -- the words of a test's code, at most
  pub test_words : Test → ℕ
  test_words (holds p) = words_of p + 5
  test_words (compares op p) = words_of p + 6
  test_words (both t u) = test_words t + test_words u
  test_words (either t u) = test_words t + test_words u
  test_words (fails t) = test_words t

  -- the words of a program's code, at most
  pub words_of : Program → ℕ
  words_of nothing = 0
  words_of (step first more) = step_words first + words_of more

-- what is spent behind an end: something only where it goes on
abbrev pub spent_on : End → (WordState → ℕ) → ℕ
spent_on (GoesOn s) next = next s
spent_on (Jumps to s) next = 0
spent_on (Gives v s) next = 0
spent_on Short next = 0
spent_on Strays next = 0
spent_on Broken next = 0

-- what is spent behind a word that is popped
abbrev pub top_spent : List ℕ → (ℕ → List ℕ → ℕ) → ℕ
top_spent [] next = 0
top_spent (v ∷ vs) next = next v vs

-- what is spent behind so many words that are popped
abbrev pub words_spent : ℕ → List ℕ → (List ℕ → ℕ) → ℕ
words_spent zero vs next = next []
words_spent (suc n) vs next = top_spent vs (λ v us. words_spent n us (λ words. next (v ∷ words)))

-- what one of two ways spends, by the top of the stack: the first where it isn't 0
abbrev pub spent_by_top : (WordState → ℕ) → (WordState → ℕ) → WordState → ℕ
spent_by_top held failed s = top_spent s.stack (λ v vs. if is_true v then held (with_stack vs s) else failed (with_stack vs s))

-- what one of two ways spends, by the two words on top of the stack: the first where they compare so
abbrev pub spent_by_two : Comparison → (WordState → ℕ) → (WordState → ℕ) → WordState → ℕ
spent_by_two op held failed s =
    top_spent s.stack (λ v us. top_spent us (λ u vs. if compare_words op u v then held (with_stack vs s) else failed (with_stack vs s)))

-- what so many turns spend, from number k on
abbrev pub turns_spent : ℕ → ℕ → ℕ → (WordState → Behaviour) → (WordState → ℕ) → WordState → ℕ
turns_spent zero n k body cost s = 0
turns_spent (suc m) n k body cost s = let t = with_local n k s in 15 + cost t + spent_on (body t).end (turns_spent m n (k + 1) body cost)

abbrev mutual
  -- the cycles of a step from a state on, at most, on the way that it takes: a loop that is left by a jump makes no further turns
  pub step_spent : Step → WordState → ℕ
  step_spent (truth t) s = test_spent t (λ v. 5) (λ v. 3) s
  step_spent (choose t taken otherwise) s = test_spent t (λ v. spent taken v + 3) (spent otherwise) s
  step_spent (repeat n from below body) s = 5 + turns_spent (below - from) n from (behaviour body) (spent body) s
  step_spent (number w) s = step_cycles (number w)
  step_spent (load a) s = step_cycles (load a)
  step_spent (keep a) s = step_cycles (keep a)
  step_spent (update op a) s = step_cycles (update op a)
  step_spent (local n) s = step_cycles (local n)
  step_spent (set_local n) s = step_cycles (set_local n)
  step_spent (update_local op n) s = step_cycles (update_local op n)
  step_spent (unary op) s = step_cycles (unary op)
  step_spent (binary op) s = step_cycles (binary op)
  step_spent (shift op k) s = step_cycles (shift op k)
  step_spent (long op) s = step_cycles (long op)
  step_spent (element base length) s = step_cycles (element base length)
  step_spent (emit_word count buffer) s = step_cycles (emit_word count buffer)
  step_spent (list_entry count list home copy words) s = step_cycles (list_entry count list home copy words)
  step_spent (versioned_read place list) s = step_cycles (versioned_read place list)
  step_spent (versioned_write place list) s = step_cycles (versioned_write place list)
  step_spent (versioned_update op place list) s = step_cycles (versioned_update op place list)
  step_spent (logged_write place list) s = step_cycles (logged_write place list)
  step_spent (logged_update op place list) s = step_cycles (logged_update op place list)
  step_spent sense s = step_cycles sense
  step_spent next_event s = step_cycles next_event
  step_spent freeze_events s = step_cycles freeze_events
  step_spent (store_number a w) s = step_cycles (store_number a w)
  step_spent (move_word from to) s = step_cycles (move_word from to)
  step_spent (jump to) s = step_cycles (jump to)
  step_spent (call entry frame first count body) s =
      call_cycles frame count + words_spent count s.stack (λ words. spent body (called first words s))
  step_spent give s = step_cycles give

  -- the cycles of a test and of the way that it takes, where each way spends so many by the state that it begins with
  pub test_spent : Test → (WordState → ℕ) → (WordState → ℕ) → WordState → ℕ
  test_spent (holds p) held failed s = spent p s + spent_on (behaviour p s).end (λ v. 8 + spent_by_top held failed v)
  test_spent (compares op p) held failed s = spent p s + spent_on (behaviour p s).end (λ v. 10 + spent_by_two op held failed v)
  test_spent (both t u) held failed s = test_spent t (test_spent u held failed) failed s
  test_spent (either t u) held failed s = test_spent t held (test_spent u held failed) s
  test_spent (fails t) held failed s = test_spent t failed held s

  -- the cycles of a program from a state on, at most
  pub spent : Program → WordState → ℕ
  spent nothing s = 0
  spent (step first more) s = step_spent first s + spent_on (step_behaviour first s).end (spent more)
