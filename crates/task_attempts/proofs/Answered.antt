-- What each word program does with the words that count events: it asks for words of the ring in order, and freezes their count.
use Rattle.std.proofs.Common.{◌≡◌, ◌≢◌, ℕ, zero, suc, ◌+◌, ◌-◌, ◌%◌, ◌==◌, List, [], ◌∷◌, Option, Some, None, Bool, true, false, refl, sym}
use Rattle.std.proofs.Common.{if◌then◌else◌, ◌∙◌}
use Rattle.std.proofs.lemmas.Bool.{eqb-true, eq-eqb}
use Rattle.machine_effects.specs.Inputs.{Look, first_look, other_looks, look_effects}
use Rattle.memory_map.specs.event_places.Places.{head_place, slot_place}
use Rattle.array_versions.specs.declared.operations.PlainOperation.{PlainOperation}
use Rattle.array_versions.specs.Operations.{unary_word, plain_word, binary_word, shift_word, is_true, compare_words, long_pops}
use Rattle.array_versions.specs.Program.{Step, Test, Program, number, load, keep, update, local, set_local, update_local, unary, binary, shift, long, element}
use Rattle.array_versions.specs.Program.{emit_word, list_entry, versioned_read, versioned_write, versioned_update, logged_write, logged_update, sense}
use Rattle.array_versions.specs.Program.{next_event, freeze_events, truth, choose, repeat, store_number, move_word, jump, holds, compares, both, either, fails}
use Rattle.array_versions.specs.Program.{nothing, step, call, give}
use Rattle.machine_effects.specs.fram_board.Effects.{Effect}
use Rattle.array_versions.specs.Behaviour.{WordState, End, GoesOn, Jumps, Behaviour, behaves, goes_on, strays, broken, behind_effects, is_place, with_top}
use Rattle.array_versions.specs.Behaviour.{with_two}
use Rattle.array_versions.specs.Behaviour.{Gives, called}
use Rattle.array_versions.specs.Behaviour.{with_words, with_stack, pushed, with_local, local_pushed, local_updated, reading_pushed, event_index, none_answered}
use Rattle.array_versions.specs.Behaviour.{word_answered, with_looks, event_pushed, word_stored, element_pushed, word_emitted, versioned_pushed}
use Rattle.array_versions.specs.Behaviour.{versioned_stored, logged_stored, logged_updated}
use Rattle.array_versions.specs.Behaviour.{versioned_updated, number_pushed, way_by_top, way_by_two, turns, step_behaviour, tested, behaviour}
use Rattle.event_rules.specs.Taking.{Ended, Next, Blind}
use Rattle.task_attempts.proofs.Asks.{Takes, Looks, Sees, AnswersNone, AnswersWord, Counts, Freezes, AsksFrom, Reaches, Does, Leads, does_behind, then_does}
use Rattle.task_attempts.proofs.Asks.{called_does, still, one_does, loads, element_pushes, versioned_pushes, word_stores, emitted_stores, entry_stores}
use Rattle.task_attempts.proofs.Asks.{versioned_stores}
use Rattle.task_attempts.proofs.Asks.{versioned_updates, logged_stores, logged_updates}

-- ---- an answer

no_value : (n m : ℕ) → (n == m) ≡ false → n ≢ m
no_value n m e same = different (sym (eq-eqb n m same)) e
  where
    different : {c : Bool} → true ≡ c → c ≡ false → ⊥
    different t f = let x : true ≡ false = t ∙ f in absurd cc

-- behind two looks, by whether HEAD was the index of the next word; where looks run out nothing is said
abbrev answered_on : List Look → WordState → Bool → Behaviour
answered_on looks s c =
    let others = other_looks looks in
    let t = with_looks (other_looks others) s in
    behind_effects (look_effects looks) (behind_effects (look_effects others)
    (if c then none_answered t else word_answered (first_look others (slot_place (event_index s.fram))) t))

answer_does : (looks : List Look) (s : WordState) (c : Bool) → (event_index s.fram == first_look looks head_place) ≡ c
    → Does (with_looks looks s) (answered_on looks s c)
answer_does [] s true e = record { asks = Blind; fram = refl; looks = refl }
answer_does [] s false e = record { asks = Blind; fram = refl; looks = refl }
answer_does (first ∷ []) s true e = record { asks = Next (Looks refl) Blind; fram = refl; looks = refl }
answer_does (first ∷ []) s false e = record { asks = Next (Looks refl) Blind; fram = refl; looks = refl }
answer_does (first ∷ (second ∷ [])) s true e = record { asks = Next (Looks refl) (Next (Sees refl) Blind); fram = refl; looks = refl }
answer_does (first ∷ (second ∷ [])) s false e = record { asks = Next (Looks refl) (Next (Sees refl) Blind); fram = refl; looks = refl }
answer_does (first ∷ (second ∷ (third ∷ more))) s true e = record {
  asks = Next (Looks refl) (Next (Sees refl) (Next (AnswersNone refl refl (eqb-true (event_index s.fram) (first head_place) e)) Ended));
  fram = refl;
  looks = refl;
}
answer_does (first ∷ (second ∷ (third ∷ more))) s false e = record {
  asks = Next (Looks refl) (Next (Sees refl) (Next (AnswersWord refl refl (no_value (event_index s.fram) (first head_place) e))
      (Next (Counts refl refl) Ended)));
  fram = refl;
  looks = refl;
}

event_does : (s : WordState) → Does s (event_pushed s.inputs.looks s)
event_does s = answer_does s.inputs.looks s (event_index s.fram == first_look s.inputs.looks head_place) refl

-- ---- steps

reading_does : (rs : List ℕ) (s : WordState) → Does s (reading_pushed rs s)
reading_does [] s = Ended
reading_does (r ∷ rs) s = record { asks = Next Takes Ended; fram = refl; looks = refl }

top_does : (s : WordState) (vs : List ℕ) (next : ℕ → List ℕ → Behaviour) → ((v : ℕ) (us : List ℕ) → Does s (next v us)) → Does s (with_top vs next)
top_does s [] next h = Ended
top_does s (v ∷ vs) next h = h v vs

words_do : (n : ℕ) (s : WordState) (vs : List ℕ) (next : List ℕ → List ℕ → Behaviour) → ((ws us : List ℕ) → Does s (next ws us)) → Does s (with_words n vs next)
words_do zero s vs next h = h [] vs
words_do (suc n) s vs next h = top_does s vs _ (λ v us. words_do n s us _ (λ ws rest. h (v ∷ ws) rest))

-- what goes on from the state with other words on its stack
popped : (s : WordState) (next : ℕ → WordState → Behaviour) → ((v : ℕ) → Leads (next v)) → Does s (with_top s.stack (λ v vs. next v (with_stack vs s)))
popped s next h = top_does s s.stack _ (λ v vs. let b = next v (with_stack vs s) in does_behind b.effects b.end (still refl refl) (h v (with_stack vs s)))

two_popped : (s : WordState) (next : ℕ → ℕ → WordState → Behaviour) → ((u v : ℕ) → Leads (next u v))
    → Does s (with_two s.stack (λ u v vs. next u v (with_stack vs s)))
two_popped s next h = popped s (λ v t. with_top t.stack (λ u vs. next u v (with_stack vs t))) (λ v t. popped t (λ u. next u v) (λ u. h u v))

local_does : (o : Option ℕ) (s : WordState) → Does s (local_pushed o s)
local_does None s = Ended
local_does (Some v) s = still refl refl

updated_does : (op : PlainOperation) (n v : ℕ) (o : Option ℕ) (s : WordState) → Does s (local_updated op n v o s)
updated_does op n v None s = Ended
updated_does op n v (Some u) s = still refl refl

turns_do : (m n k : ℕ) (body : WordState → Behaviour) (s : WordState) → Leads body → Does s (turns m n k body s)
turns_do zero n k body s f = still refl refl
turns_do (suc m) n k body s f =
    let t = with_local n k s in
    let b = body t in
    let rest = turns m n (k + 1) body in
    let all = then_does t b.effects b.end rest (f t) (λ u. turns_do m n (k + 1) body u f) in
    does_behind _ _ (still refl refl) all

jump_does : (c : Bool) (to : ℕ) (s : WordState) → Does s (if c then behaves [] (Jumps to s) else broken)
jump_does true to s = Ended
jump_does false to s = Ended

mutual
  step_does : (first : Step) (s : WordState) → Does s (step_behaviour first s)
  step_does (number v) s = still refl refl
  step_does (load a) s = loads a s
  step_does (keep a) s = popped s (word_stored a) (λ v t. word_stores a v t)
  step_does (update op a) s = popped s (λ v t. word_stored a (plain_word op (s.fram a) v) t) (λ v t. word_stores a (plain_word op (s.fram a) v) t)
  step_does (local n) s = local_does (s.locals n) s
  step_does (set_local n) s = popped s (λ v t. goes_on [] (with_local n v t)) (λ v t. still refl refl)
  step_does (update_local op n) s = popped s (λ v t. local_updated op n v (s.locals n) t) (λ v t. updated_does op n v (s.locals n) t)
  step_does (unary op) s = popped s (λ v t. goes_on [] (pushed (unary_word op v) t)) (λ v t. still refl refl)
  step_does (binary op) s = two_popped s (λ u v t. goes_on [] (pushed (binary_word op u v) t)) (λ u v t. still refl refl)
  step_does (shift op n) s = popped s (λ v t. goes_on [] (pushed (shift_word op v n) t)) (λ v t. still refl refl)
  step_does (long op) s = words_do (long_pops op) s s.stack _ (λ ws vs. still refl refl)
  step_does (element base length) s = popped s (element_pushed base length) (λ v t. element_pushes base length v t)
  step_does (emit_word count buffer) s = popped s (word_emitted count buffer) (λ v t. emitted_stores count buffer v t)
  step_does (list_entry count list home copy words) s = entry_stores count list home copy words s
  step_does (versioned_read place list) s = popped s (versioned_pushed place list) (λ v t. versioned_pushes place list v t)
  step_does (versioned_write place list) s = two_popped s (versioned_stored place list) (λ u v t. versioned_stores place list u v t)
  step_does (versioned_update op place list) s = two_popped s (versioned_updated op place list) (λ u v t. versioned_updates op place list u v t)
  step_does (logged_write place list) s = two_popped s (logged_stored place list) (λ u v t. logged_stores place list u v t)
  step_does (logged_update op place list) s = two_popped s (logged_updated op place list) (λ u v t. logged_updates op place list u v t)
  step_does sense s = reading_does s.inputs.readings s
  step_does next_event s = event_does s
  step_does freeze_events s = record { asks = Next (Freezes refl refl) Ended; fram = refl; looks = refl }
  step_does (truth t) s = test_does t s (number_pushed 1) (number_pushed 0) (λ u. still refl refl) (λ u. still refl refl)
  step_does (choose t taken otherwise) s =
      test_does t s (behaviour taken) (behaviour otherwise) (λ u. program_does taken u) (λ u. program_does otherwise u)
  step_does (repeat n from below body) s = turns_do (below - from) n from (behaviour body) s (λ u. program_does body u)
  step_does (store_number a v) s = word_stores a v s
  step_does (move_word from to) s = one_does (is_place from) s (word_stored to (s.fram from) s) strays (word_stores to (s.fram from) s) Ended
  step_does (jump to) s = jump_does (to % 2 == 0) to s
  step_does (call entry frame first count body) s = words_do count s s.stack _ (λ ws vs.
      let t = with_stack vs s in
      let b = behaviour body (called first ws t) in
      called_does s t b.effects b.end (does_behind b.effects b.end (still refl refl) (program_does body (called first ws t))))
  step_does give s = popped s (λ v t. behaves [] (Gives v t)) (λ v t. still refl refl)

  test_does : (t : Test) (s : WordState) (held failed : WordState → Behaviour) → Leads held → Leads failed → Does s (tested t held failed s)
  test_does (holds p) s held failed f g =
      let b = behaviour p s in
      then_does s b.effects b.end (way_by_top held failed) (program_does p s) (λ u.
      popped u (λ v t. if is_true v then held t else failed t) (λ v t. one_does (is_true v) t (held t) (failed t) (f t) (g t)))
  test_does (compares op p) s held failed f g =
      let b = behaviour p s in
      then_does s b.effects b.end (way_by_two op held failed) (program_does p s) (λ u.
      two_popped u (λ y z t. if compare_words op y z then held t else failed t) (λ y z t.
      one_does (compare_words op y z) t (held t) (failed t) (f t) (g t)))
  test_does (both t u) s held failed f g = test_does t s (tested u held failed) failed (λ v. test_does u v held failed f g) g
  test_does (either t u) s held failed f g = test_does t s held (tested u held failed) f (λ v. test_does u v held failed f g)
  test_does (fails t) s held failed f g = test_does t s failed held g f

  program_does : (p : Program) (s : WordState) → Does s (behaviour p s)
  program_does nothing s = still refl refl
  program_does (step first more) s =
      let b = step_behaviour first s in then_does s b.effects b.end (behaviour more) (step_does first s) (λ u. program_does more u)

-- at whatever end
asks_by : (s : WordState) (es : List Effect) (e : End) → Reaches s es e → AsksFrom s es
asks_by s es (GoesOn t) k = k.asks
asks_by s es (Gives v t) k = k.asks
asks_by s es (Jumps to t) k = k
asks_by s es _ k = k

pub program_asks : (p : Program) (s : WordState) → AsksFrom s (behaviour p s).effects
program_asks p s = let b = behaviour p s in asks_by s b.effects b.end (program_does p s)
