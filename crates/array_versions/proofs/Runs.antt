-- What each program does, as a chain of what its steps do to a state: said once by the cases of steps.
use Rattle.std.proofs.Common.{◌≡◌, ℕ, zero, suc, ◌+◌, ◌-◌, ◌%◌, ◌==◌, ◌<◌, List, [], ◌∷◌, ◌++◌, Option, Some, None, Bool, true, false, refl, sym, arith}
use Rattle.std.proofs.Common.{◌≢◌, if◌then◌else◌, ap, subst}
use Rattle.machine_effects.specs.alp_words.Words.{AreWords}
use Rattle.machine_effects.specs.fram_board.Effects.{Effect, Store, Take, Outside, Looked}
use Rattle.machine_effects.specs.event_places.Places.{count_place, sent_place, answer_place, head_place, slot_place}
use Rattle.machine_effects.specs.Inputs.{Look, Inputs, first_look, other_looks, TakesExactly}
use Rattle.machine_effects.proofs.Interface.{taken_is_word}
use Rattle.array_versions.specs.declared.operations.PlainOperation.{PlainOperation}
use Rattle.array_versions.specs.Operations.{unary_word, plain_word, binary_word, shift_word, is_true, compare_words, long_pops, long_result}
use Rattle.array_versions.specs.Program.{Step, Test, Program, number, load, keep, update, local, set_local, update_local, unary, binary, shift, long, element}
use Rattle.array_versions.specs.Program.{emit_word, list_entry, versioned_read, versioned_write, versioned_update, logged_write, logged_update, sense}
use Rattle.array_versions.specs.Program.{next_event, freeze_events, truth, choose, repeat, store_number}
use Rattle.array_versions.specs.Program.{move_word, jump, call, give, holds, compares, both, either, fails, nothing, step}
use Rattle.array_versions.specs.Behaviour.{WordState, End, GoesOn, Jumps, Gives, Short, Strays, Broken, Behaviour, behaves, goes_on, strays, broken, then_on}
use Rattle.array_versions.specs.Behaviour.{is_place}
use Rattle.array_versions.specs.Behaviour.{called, called_behind}
use Rattle.array_versions.specs.Behaviour.{with_top, with_two, with_words, with_stack, pushed, stored, with_local, local_pushed, local_updated, reading_pushed}
use Rattle.array_versions.specs.Behaviour.{event_index, none_answered, word_answered, event_answered, with_looks, event_pushed}
use Rattle.array_versions.specs.Behaviour.{word_stored, element_pushed, word_emitted, versioned_pushed, versioned_stored, versioned_updated, number_pushed}
use Rattle.array_versions.specs.Behaviour.{logged_stored, logged_updated}
use Rattle.array_versions.specs.Behaviour.{way_by_top, way_by_two, turns, step_behaviour, tested, behaviour}
use Rattle.array_versions.specs.Form.{StepSpares, TestSpares, Spares, StepOfWords, TestOfWords, OfWords}
use Rattle.array_versions.specs.Laws.{IsStateOfWords}
use Rattle.array_versions.proofs.Words.{unary_small, plain_small, binary_small, shift_small, long_words, on_words, stack_words, stored_words, local_words}
use Rattle.array_versions.proofs.Words.{input_words, second_look_words, called_words}
use Rattle.array_versions.proofs.Chains.{Run, stays, stacks, assigns, stores, takes, sees, works, run_behind, run_words, called_works}
use Rattle.array_versions.proofs.Parts.{Writes, astray, done, writes, Pushes, off, on_top, Known, loads, element_pushes, versioned_pushes, word_writes}
use Rattle.array_versions.proofs.Parts.{emitted_writes, entry_writes, versioned_writes, updated_writes, logged_writes, logged_update_writes}

module _ (W : Type 0) (spared : ℕ → Type 0) where
  -- how far a chain leads that ends so: where a reading is wanted, to a state with none left
  abbrev pub Reaches : WordState → List Effect → End → Type 0
  Reaches s es (GoesOn t) = Run W spared s es t
  Reaches s es (Jumps to t) = Run W spared s es t
  Reaches s es (Gives v t) = (W → v < 0x10000) × Run W spared s es t
  Reaches s es Short = (t : WordState) × Run W spared s es t × (t.inputs.readings ≡ [])
  Reaches s es Strays = (t : WordState) × Run W spared s es t
  Reaches s es Broken = (t : WordState) × Run W spared s es t

  abbrev Does : WordState → Behaviour → Type 0
  Does s b = Reaches s b.effects b.end

  -- a way that each state of words may go on
  abbrev Leads : (WordState → Behaviour) → Type 0
  Leads go = (s : WordState) → Known W s → Does s (go s)

  does_behind : (fs : List Effect) (e : End) {s t : WordState} {es : List Effect} → Run W spared s es t → Reaches t fs e → Reaches s (es ++ fs) e
  does_behind fs (GoesOn u) q r = run_behind q r
  does_behind fs (Jumps to u) q r = run_behind q r
  does_behind fs (Gives v u) q r = (r.0, run_behind q r.1)
  does_behind fs Short q r = (r.0, run_behind q r.1, r.2)
  does_behind fs Strays q r = (r.0, run_behind q r.1)
  does_behind fs Broken q r = (r.0, run_behind q r.1)

  then_does : (s : WordState) (es : List Effect) (e : End) (next : WordState → Behaviour) → Known W s → Reaches s es e → Leads next
      → Does s (then_on (behaves es e) next)
  then_does s es (GoesOn t) next i h k = does_behind (next t).effects (next t).end h (k t (λ x. run_words h x (i x)))
  then_does s es (Jumps to t) next i h k = run_behind h stays
  then_does s es (Gives v t) next i h k = (h.0, run_behind h.1 stays)
  then_does s es Short next i h k = (h.0, run_behind h.1 stays, h.2)
  then_does s es Strays next i h k = (h.0, run_behind h.1 stays)
  then_does s es Broken next i h k = (h.0, run_behind h.1 stays)

  -- a part of a step
  part_writes : {s : WordState} {es : List Effect} {e : End} → Writes W s es e → Reaches s es e
  part_writes (astray {s = s}) = (s, stays)
  part_writes done = stays
  part_writes (writes {es = es} {e = e} a v l w) = does_behind es e (stores a v l stays) (part_writes w)

  push : (s : WordState) (v : ℕ) → Known W s → (W → v < 0x10000) → Does s (goes_on [] (pushed v s))
  push s v i l = stacks (v ∷ s.stack) (λ x. (l x, (i x).stack)) stays

  part_pushes : {s : WordState} {es : List Effect} {e : End} → Known W s → Pushes W s es e → Reaches s es e
  part_pushes {s = s} i off = (s, stays)
  part_pushes {s = s} i (on_top v l) = push s v i l

  -- words popped
  top_does : (s : WordState) (vs : List ℕ) (next : ℕ → List ℕ → Behaviour) → (W → AreWords vs)
      → ((v : ℕ) (us : List ℕ) → (W → v < 0x10000) → (W → AreWords us) → Does s (next v us)) → Does s (with_top vs next)
  top_does s [] next w h = (s, stays)
  top_does s (v ∷ vs) next w h = h v vs (λ x. (w x).0) (λ x. (w x).1)

  words_do : (n : ℕ) (s : WordState) (vs : List ℕ) (next : List ℕ → List ℕ → Behaviour) → (W → AreWords vs)
      → ((ws us : List ℕ) → (W → AreWords ws) → (W → AreWords us) → Does s (next ws us)) → Does s (with_words n vs next)
  words_do zero s vs next w h = h [] vs (λ x. tt) w
  words_do (suc n) s vs next w h =
      top_does s vs _ w (λ v us l m. words_do n s us _ m (λ ws rest k j. h (v ∷ ws) rest (λ x. (l x, k x)) j))

  popped : (s : WordState) (next : ℕ → WordState → Behaviour) → Known W s → ((v : ℕ) → (W → v < 0x10000) → Leads (next v))
      → Does s (with_top s.stack (λ v vs. next v (with_stack vs s)))
  popped s next i h = top_does s s.stack _ (λ x. (i x).stack) (λ v vs l m.
      let t = with_stack vs s in
      let b = next v t in
      does_behind b.effects b.end (stacks vs m stays) (h v l t (λ x. stack_words s vs (i x) (m x))))

  two_popped : (s : WordState) (next : ℕ → ℕ → WordState → Behaviour) → Known W s
      → ((u v : ℕ) → (W → u < 0x10000) → (W → v < 0x10000) → Leads (next u v)) → Does s (with_two s.stack (λ u v vs. next u v (with_stack vs s)))
  two_popped s next i h =
      popped s (λ v t. with_top t.stack (λ u vs. next u v (with_stack vs t))) i (λ v l t j. popped t (λ u. next u v) j (λ u m. h u v m l))

  -- one of two ways
  one_does : (c : Bool) (s : WordState) (a b : Behaviour) → Does s a → Does s b → Does s (if c then a else b)
  one_does true s a b h k = h
  one_does false s a b h k = k

  local_does : (o : Option ℕ) (s : WordState) → Known W s → ((v : ℕ) → o ≡ Some v → W → v < 0x10000) → Does s (local_pushed o s)
  local_does None s i h = (s, stays)
  local_does (Some v) s i h = push s v i (h v refl)

  updated_does : (op : PlainOperation) (n v : ℕ) (o : Option ℕ) (s : WordState) → ((m : ℕ) → spared m → n ≢ m) → (W → v < 0x10000)
      → ((u : ℕ) → o ≡ Some u → W → u < 0x10000) → Does s (local_updated op n v o s)
  updated_does op n v None s d l h = (s, stays)
  updated_does op n v (Some u) s d l h = assigns n (plain_word op u v) d (λ x. plain_small op u v (h u refl x) (l x)) stays

  reading_does : (rs : List ℕ) (s : WordState) → s.inputs.readings ≡ rs → Known W s → Does s (reading_pushed rs s)
  reading_does [] s e i = (s, stays, e)
  reading_does (r ∷ rs) s e i =
      let left : Inputs = record s.inputs { readings = rs } in
      let taken : TakesExactly (Take r ∷ []) s.inputs left = record { readings = sym e; looks = refl } in
      takes r left taken (stacks (r ∷ s.stack) (λ x. (taken_is_word r s.inputs left taken (i x).inputs, (i x).stack)) stays)

  -- an answer
  none_does : (s : WordState) → Known W s → Does s (none_answered s)
  none_does s i =
      let small : W → 0 < 0x10000 = λ x. omega arith in
      stores answer_place 0 small (stacks (0 ∷ s.stack) (λ x. (small x, (i x).stack)) stays)

  word_does : (w : ℕ) (s : WordState) → Known W s → (W → w < 0x10000) → Does s (word_answered w s)
  word_does w s i l =
      let n = (s.fram count_place + 1) % 65536 in
      stores answer_place w l (stacks (w ∷ s.stack) (λ x. (l x, (i x).stack)) (stores count_place n (λ x. omega arith) stays))

  -- by what is seen at HEAD and at the slot
  answer_does : (first second : Look) (s : WordState) → Known W s → (W → (a : ℕ) → second a < 0x10000) → Does s (event_answered first second s)
  answer_does first second s i small =
      let at = event_index s.fram in
      let v = second (slot_place at) in
      one_does (at == first head_place) s (none_answered s) (word_answered v s) (none_does s i) (word_does v s i (λ x. small x (slot_place at)))

  -- the inputs behind a look
  look_takes : (s : WordState) (look : Look) (more : List Look) → s.inputs.looks ≡ look ∷ more
      → TakesExactly (Outside (Looked look) ∷ []) s.inputs (with_looks more s).inputs
  look_takes s look more e = record { readings = refl; looks = sym e }

  -- behind two looks
  event_does : (looks : List Look) (s : WordState) → s.inputs.looks ≡ looks → Known W s → Does s (event_pushed looks s)
  event_does [] s e i =
      let t = with_looks [] s in
      let same : t ≡ s = ap (λ l. with_looks l s) (sym e) in
      let j : Known W t = λ x. subst IsStateOfWords (sym same) (i x) in
      subst (λ u. Does u (event_pushed [] s)) same (answer_does (first_look []) (first_look []) t j (λ x a. omega arith))
  event_does (first ∷ []) s e i =
      let t = with_looks [] s in
      let taken = look_takes s first [] e in
      let j : Known W t = λ x. input_words s (Outside (Looked first) ∷ []) t.inputs taken (i x) in
      let b = event_answered first (first_look []) t in
      does_behind b.effects b.end (sees first t.inputs taken stays) (answer_does first (first_look []) t j (λ x a. omega arith))
  event_does (first ∷ (second ∷ more)) s e i =
      let r = with_looks (second ∷ more) s in
      let t = with_looks more s in
      let taken = look_takes s first (second ∷ more) e in
      let next = look_takes r second more refl in
      let j : Known W t = λ x. input_words r (Outside (Looked second) ∷ []) t.inputs next (input_words s (Outside (Looked first) ∷ []) r.inputs taken (i x)) in
      let b = event_answered first second t in
      does_behind b.effects b.end (sees first r.inputs taken (sees second t.inputs next stays))
      (answer_does first second t j (λ x. second_look_words s (first ∷ (second ∷ more)) e (i x)))

  turns_do : (m n k : ℕ) (body : WordState → Behaviour) (s : WordState) → ((x : ℕ) → spared x → n ≢ x) → (W → k + m < 0x10000) → Leads body → Known W s
      → Does s (turns m n k body s)
  turns_do zero n k body s d l f i = assigns n k d (λ x. omega (arith, l x)) stays
  turns_do (suc m) n k body s d l f i =
      let t = with_local n k s in
      let small : W → k < 0x10000 = λ x. omega (arith, l x) in
      let j : Known W t = λ x. local_words s n k (i x) (small x) in
      let b = body t in
      let rest = turns m n (k + 1) body in
      let all = then_on b rest in
      does_behind all.effects all.end (assigns n k d small stays)
      (then_does t b.effects b.end rest j (f t j) (λ u p. turns_do m n (k + 1) body u d (λ x. omega (arith, l x)) f p))

  jump_does : (c : Bool) (to : ℕ) (s : WordState) → Does s (if c then behaves [] (Jumps to s) else broken)
  jump_does true to s = stays
  jump_does false to s = (s, stays)

-- behind a function that is called, by how its body ends
called_does : (W : Type 0) (spared : ℕ → Type 0) (first : ℕ) (ws : List ℕ) (s : WordState) (es : List Effect) (e : End) → (W → AreWords ws) → Known W s
    → Reaches W (λ n. ⊥) (called first ws s) es e → Does W spared s (called_behind s (behaves es e))
called_does W spared first ws s es (Gives v t) k i r =
    works (called_works first ws k r.1) (stacks (v ∷ s.stack) (λ x. (r.0 x, (i x).stack)) stays)
called_does W spared first ws s es Short k i r = (record r.0 { stack = s.stack; locals = s.locals }, works (called_works first ws k r.1) stays, r.2)
called_does W spared first ws s es Strays k i r = (record r.0 { stack = s.stack; locals = s.locals }, works (called_works first ws k r.1) stays)
called_does W spared first ws s es Broken k i r = (record r.0 { stack = s.stack; locals = s.locals }, works (called_works first ws k r.1) stays)
called_does W spared first ws s es (GoesOn t) k i r = (record t { stack = s.stack; locals = s.locals }, works (called_works first ws k r) stays)
called_does W spared first ws s es (Jumps to t) k i r = (record t { stack = s.stack; locals = s.locals }, works (called_works first ws k r) stays)

module _ (W : Type 0) where
  mutual
    -- each step, by what is known of its numbers and of the locals that it sets
    pub step_does : (spared : ℕ → Type 0) (first : Step) (s : WordState) → (W → StepOfWords first) → ((m : ℕ) → spared m → StepSpares m first) → Known W s
        → Does W spared s (step_behaviour first s)
    step_does spared (number v) s h d i = push W spared s v i h
    step_does spared (load a) s h d i = part_pushes W spared i (loads W a s i)
    step_does spared (keep a) s h d i = popped W spared s (word_stored a) i (λ v l t j. part_writes W spared (word_writes W a v t l))
    step_does spared (update op a) s h d i = popped W spared s (λ v t. word_stored a (plain_word op (s.fram a) v) t) i (λ v l t j.
        part_writes W spared (word_writes W a (plain_word op (s.fram a) v) t (λ x. plain_small op (s.fram a) v ((i x).fram a) (l x))))
    step_does spared (local n) s h d i = local_does W spared (s.locals n) s i (λ v e x. (i x).locals n v e)
    step_does spared (set_local n) s h d i = popped W spared s (λ v t. goes_on [] (with_local n v t)) i (λ v l t j. assigns n v d l stays)
    step_does spared (update_local op n) s h d i =
        popped W spared s (λ v t. local_updated op n v (s.locals n) t) i
        (λ v l t j. updated_does W spared op n v (s.locals n) t d l (λ u e x. (i x).locals n u e))
    step_does spared (unary op) s h d i =
        popped W spared s (λ v t. goes_on [] (pushed (unary_word op v) t)) i (λ v l t j. push W spared t (unary_word op v) j (λ x. unary_small op v (l x)))
    step_does spared (binary op) s h d i = two_popped W spared s (λ u v t. goes_on [] (pushed (binary_word op u v) t)) i (λ u v k l t j.
        push W spared t (binary_word op u v) j (λ x. binary_small op u v (k x) (l x)))
    step_does spared (shift op n) s h d i =
        popped W spared s (λ v t. goes_on [] (pushed (shift_word op v n) t)) i
        (λ v l t j. push W spared t (shift_word op v n) j (λ x. shift_small op v n (l x)))
    step_does spared (long op) s h d i = words_do W spared (long_pops op) s s.stack _ (λ x. (i x).stack) (λ ws vs k m.
        stacks (long_result op ws ++ vs) (λ x. on_words (long_result op ws) vs (long_words op ws (k x)) (m x)) stays)
    step_does spared (element base length) s h d i =
        popped W spared s (element_pushed base length) i (λ v l t j. part_pushes W spared j (element_pushes W base length v t j))
    step_does spared (emit_word count buffer) s h d i =
        popped W spared s (word_emitted count buffer) i (λ v l t j. part_writes W spared (emitted_writes W count buffer v t l))
    step_does spared (list_entry count list home copy words) s h d i =
        part_writes W spared (entry_writes W count list home copy words s (λ x. (h x).2) (λ x. (h x).3) (λ x. (h x).4))
    step_does spared (versioned_read place list) s h d i =
        popped W spared s (versioned_pushed place list) i (λ v l t j. part_pushes W spared j (versioned_pushes W place list v t j))
    step_does spared (versioned_write place list) s h d i =
        two_popped W spared s (versioned_stored place list) i (λ u v k l t j. part_writes W spared (versioned_writes W place list u v t l j))
    step_does spared (versioned_update op place list) s h d i =
        two_popped W spared s (versioned_updated op place list) i (λ u v k l t j. part_writes W spared (updated_writes W op place list u v t l j))
    step_does spared (logged_write place list) s h d i =
        two_popped W spared s (logged_stored place list) i (λ u v k l t j. part_writes W spared (logged_writes W place list u v t l j))
    step_does spared (logged_update op place list) s h d i =
        two_popped W spared s (logged_updated op place list) i (λ u v k l t j. part_writes W spared (logged_update_writes W op place list u v t l j))
    step_does spared sense s h d i = reading_does W spared s.inputs.readings s refl i
    step_does spared next_event s h d i = event_does W spared s.inputs.looks s refl i
    step_does spared freeze_events s h d i = part_writes W spared (writes sent_place (event_index s.fram) (λ x. omega arith) done)
    step_does spared (truth t) s h d i = test_does spared t s (number_pushed 1) (number_pushed 0) h d i (λ u j. push W spared u 1 j (λ x. omega arith))
        (λ u j. push W spared u 0 j (λ x. omega arith))
    step_does spared (choose t taken otherwise) s h d i =
        test_does spared t s (behaviour taken) (behaviour otherwise) (λ x. (h x).0) (λ m y. (d m y).0) i
        (λ u j. program_does spared taken u (λ x. (h x).1) (λ m y. (d m y).1) j) (λ u j. program_does spared otherwise u (λ x. (h x).2) (λ m y. (d m y).2) j)
    step_does spared (repeat n from below body) s h d i =
        turns_do W spared (below - from) n from (behaviour body) s (λ m y. (d m y).0) (λ x. let a = (h x).1 in let b = (h x).2 in omega arith)
        (λ u j. program_does spared body u (λ x. (h x).3) (λ m y. (d m y).1) j) i
    step_does spared (store_number a v) s h d i = part_writes W spared (word_writes W a v s (λ x. (h x).1))
    step_does spared (move_word from to) s h d i = one_does W spared (is_place from) s (word_stored to (s.fram from) s) strays
        (part_writes W spared (word_writes W to (s.fram from) s (λ x. (i x).fram from))) (s, stays)
    step_does spared (jump to) s h d i = jump_does W spared (to % 2 == 0) to s
    step_does spared (call entry frame first count body) s h d i = words_do W spared count s s.stack _ (λ x. (i x).stack) (λ ws vs k m.
        let t = with_stack vs s in
        let j : Known W t = λ x. stack_words s vs (i x) (m x) in
        let b = behaviour body (called first ws t) in
        let all = called_behind t b in
        does_behind W spared all.effects all.end (stacks vs m stays) (called_does W spared first ws t b.effects b.end k j
        (program_does (λ n. ⊥) body (called first ws t) (λ x. (h x).4) (λ n y. absurd y) (λ x. called_words t first ws (j x) (k x)))))
    step_does spared give s h d i = popped W spared s (λ v t. behaves [] (Gives v t)) i (λ v l t j. (l, stays))

    test_does : (spared : ℕ → Type 0) (t : Test) (s : WordState) (held failed : WordState → Behaviour) → (W → TestOfWords t)
        → ((m : ℕ) → spared m → TestSpares m t) → Known W s
        → Leads W spared held → Leads W spared failed → Does W spared s (tested t held failed s)
    test_does spared (holds p) s held failed h d i f g =
        let b = behaviour p s in
        then_does W spared s b.effects b.end (way_by_top held failed) i (program_does spared p s h d i) (λ u j.
        popped W spared u (λ v t. if is_true v then held t else failed t) j (λ v l t k. one_does W spared (is_true v) t (held t) (failed t) (f t k) (g t k)))
    test_does spared (compares op p) s held failed h d i f g =
        let b = behaviour p s in
        then_does W spared s b.effects b.end (way_by_two op held failed) i (program_does spared p s h d i) (λ u j.
        two_popped W spared u (λ y z t. if compare_words op y z then held t else failed t) j (λ y z l m t k.
        one_does W spared (compare_words op y z) t (held t) (failed t) (f t k) (g t k)))
    test_does spared (both t u) s held failed h d i f g =
        test_does spared t s (tested u held failed) failed (λ x. (h x).0) (λ m y. (d m y).0) i
        (λ v j. test_does spared u v held failed (λ x. (h x).1) (λ m y. (d m y).1) j f g) g
    test_does spared (either t u) s held failed h d i f g =
        test_does spared t s held (tested u held failed) (λ x. (h x).0) (λ m y. (d m y).0) i f
        (λ v j. test_does spared u v held failed (λ x. (h x).1) (λ m y. (d m y).1) j f g)
    test_does spared (fails t) s held failed h d i f g = test_does spared t s failed held h d i g f

    program_does : (spared : ℕ → Type 0) (p : Program) (s : WordState) → (W → OfWords p) → ((m : ℕ) → spared m → Spares m p) → Known W s
        → Does W spared s (behaviour p s)
    program_does spared nothing s h d i = stays
    program_does spared (step first more) s h d i =
        let b = step_behaviour first s in
        then_does W spared s b.effects b.end (behaviour more) i (step_does spared first s (λ x. (h x).0) (λ m y. (d m y).0) i)
        (λ u j. program_does spared more u (λ x. (h x).1) (λ m y. (d m y).1) j)

-- what each program does: it goes through words where it and the state in front are of words, and sets no local that it spares
pub runs : (p : Program) (s : WordState) → Reaches (OfWords p × IsStateOfWords s) (λ m. Spares m p) s (behaviour p s).effects (behaviour p s).end
runs p s = program_does (OfWords p × IsStateOfWords s) (λ m. Spares m p) p s (λ x. x.0) (λ m y. y) (λ x. x.1)
