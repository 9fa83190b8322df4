-- What a word program does takes no more readings than the program has, and offers no word: so it weighs no more, whatever a word weighs.
use Rattle.std.proofs.Common.{◌≡◌, ℕ, zero, suc, ◌+◌, ◌-◌, ◌*◌, ◌%◌, ◌==◌, ◌≤◌, max, nat_lt, Bool, true, false, if◌then◌else◌, List, [], ◌∷◌, ◌++◌}
use Rattle.std.proofs.Common.{Option, Some, None, refl, arith}
use Rattle.std.proofs.Math.Nat.{suc-mul}
use Rattle.machine_effects.specs.fram_board.Effects.{Effect, Store}
use Rattle.machine_effects.specs.Inputs.{Look, look_effects, other_looks, first_look}
use Rattle.machine_effects.specs.event_places.Places.{head_place, slot_place, answer_place, count_place}
use Rattle.array_versions.specs.declared.program.ArrayPlace.{ArrayPlace}
use Rattle.array_versions.specs.declared.program.ListPlace.{ListPlace}
use Rattle.array_versions.specs.declared.program.LoggedPlace.{LoggedPlace}
use Rattle.array_versions.specs.declared.operations.PlainOperation.{PlainOperation}
use Rattle.array_versions.specs.Operations.{unary_word, plain_word, binary_word, shift_word, is_true, compare_words, long_pops, long_result}
use Rattle.array_versions.specs.Program.{Step, Test, Program, number, load, keep, update, local, set_local, update_local, unary, binary, shift, long, element}
use Rattle.array_versions.specs.Program.{emit_word, list_entry, versioned_read, versioned_write, versioned_update, logged_write, logged_update, sense}
use Rattle.array_versions.specs.Program.{next_event, freeze_events, truth, choose, repeat, store_number, move_word, jump, holds, compares, both, either, fails}
use Rattle.array_versions.specs.Program.{nothing, step, call, give}
use Rattle.array_versions.specs.Behaviour.{WordState, End, GoesOn, Jumps, Gives, Short, Strays, Broken, Behaviour, behaves, goes_on, behind_effects, on_end}
use Rattle.array_versions.specs.Behaviour.{then_on, called, behind_call, called_behind}
use Rattle.array_versions.specs.Behaviour.{is_place, at_place, with_top, with_two, with_words, with_stack, pushed, stored, with_local, local_pushed, strays}
use Rattle.array_versions.specs.Behaviour.{local_updated, reading_pushed, raised, event_index, none_answered, word_answered, event_answered}
use Rattle.array_versions.specs.Behaviour.{with_looks, event_pushed, word_stored, element_pushed, word_emitted, entry_stored, ends_before}
use Rattle.array_versions.specs.Behaviour.{listed_behind, word_listed, own_element, versioned_pushed, first_stored, own_stored, versioned_stored, own_place}
use Rattle.array_versions.specs.Behaviour.{own_kept, own_updated, versioned_updated, number_pushed, way_by_top, way_by_two, turns, jumped, step_behaviour}
use Rattle.array_versions.specs.Behaviour.{tested, behaviour, broken, first_logged, own_logged, logged_stored, logged_updated}
use Rattle.charge_limits.proofs.Senses.{step_senses, test_senses, senses}
use Rattle.charge_limits.proofs.Weights.{weighed, weighed-append}

module _ (weight : ℕ) where
  -- what a program's effects weigh
  abbrev Takes : ℕ → Behaviour → Type 0
  Takes n b = weighed weight b.effects ≤ n

  if_takes : (n : ℕ) (c : Bool) (a b : Behaviour) → Takes n a → Takes n b → Takes n (if c then a else b)
  if_takes n true a b h k = h
  if_takes n false a b h k = k

  behind_takes : (n : ℕ) (es : List Effect) (b : Behaviour) → weighed weight es ≡ 0 → Takes n b → Takes n (behind_effects es b)
  behind_takes n es b none h = let all = weighed-append weight es b.effects in omega (arith, all, none, h)

  end_takes : (n : ℕ) (e : End) (next : WordState → Behaviour) → ((s : WordState) → Takes n (next s)) → Takes n (on_end e next)
  end_takes n (GoesOn s) next f = f s
  end_takes n (Jumps to s) next f = omega arith
  end_takes n (Gives v s) next f = omega arith
  end_takes n Short next f = omega arith
  end_takes n Strays next f = omega arith
  end_takes n Broken next f = omega arith

  then_takes : (a c : ℕ) (b : Behaviour) (next : WordState → Behaviour) → Takes a b → ((s : WordState) → Takes c (next s)) → Takes (a + c) (then_on b next)
  then_takes a c b next h f =
      let all = weighed-append weight b.effects (on_end b.end next).effects in
      let rest = end_takes c b.end next f in
      omega (arith, all, h, rest)

  at_takes : (n a : ℕ) (b : Behaviour) → Takes n b → Takes n (at_place a b)
  at_takes n a b h = if_takes n (is_place a) b strays h (omega arith)

  top_takes : (n : ℕ) (vs : List ℕ) (next : ℕ → List ℕ → Behaviour) → ((v : ℕ) (us : List ℕ) → Takes n (next v us)) → Takes n (with_top vs next)
  top_takes n [] next f = omega arith
  top_takes n (v ∷ vs) next f = f v vs

  two_take : (n : ℕ) (vs : List ℕ) (next : ℕ → ℕ → List ℕ → Behaviour) → ((u v : ℕ) (us : List ℕ) → Takes n (next u v us)) → Takes n (with_two vs next)
  two_take n vs next f =
      top_takes n vs (λ v us. with_top us (λ u rest. next u v rest)) (λ v us. top_takes n us (λ u rest. next u v rest) (λ u rest. f u v rest))

  words_take : (n k : ℕ) (vs : List ℕ) (next : List ℕ → List ℕ → Behaviour) → ((ws us : List ℕ) → Takes n (next ws us)) → Takes n (with_words k vs next)
  words_take n zero vs next f = f [] vs
  words_take n (suc k) vs next f =
      top_takes n vs (λ v us. with_words k us (λ words rest. next (v ∷ words) rest))
      (λ v us. words_take n k us (λ words rest. next (v ∷ words) rest) (λ ws rest. f (v ∷ ws) rest))

  -- ---- steps that take none

  abbrev None0 : Behaviour → Type 0
  None0 = Takes 0

  word_none : (a v : ℕ) (s : WordState) → None0 (word_stored a v s)
  word_none a v s = at_takes 0 a (goes_on (Store a v ∷ []) (stored a v s)) (omega arith)

  raised_none : (a : ℕ) (s : WordState) → None0 (raised a s)
  raised_none a s = omega arith

  entry_none : (count list home copy words : ℕ) (s : WordState) → None0 (entry_stored count list home copy words s)
  entry_none count list home copy words s =
      let a = 6 * s.fram count + list in
      let t = stored (a + 4) words (stored (a + 2) copy (stored a home s)) in
      let es : List Effect = Store a home ∷ Store (a + 2) copy ∷ Store (a + 4) words ∷ [] in
      let made = behind_effects es (raised count t) in
      at_takes 0 count (at_place a (at_place (a + 2) (at_place (a + 4) made)))
      (at_takes 0 a (at_place (a + 2) (at_place (a + 4) made)) (at_takes 0 (a + 2) (at_place (a + 4) made)
      (at_takes 0 (a + 4) made (behind_takes 0 es (raised count t) refl (raised_none count t)))))

  listed_none : (n : ℕ) (list : ListPlace) (home copy : ℕ) (s : WordState) → None0 (listed_behind n list home copy s)
  listed_none zero list home copy s = entry_none list.cln list.list home copy 1 s
  listed_none (suc n) list home copy s =
      let a = 6 * n + list.list in
      let made = if ends_before s.fram a home copy then raised (a + 4) s else entry_stored list.cln list.list home copy 1 s in
      at_takes 0 a (at_place (a + 2) (at_place (a + 4) made)) (at_takes 0 (a + 2) (at_place (a + 4) made) (at_takes 0 (a + 4) made
      (if_takes 0 (ends_before s.fram a home copy) (raised (a + 4) s) (entry_stored list.cln list.list home copy 1 s) (raised_none (a + 4) s)
      (entry_none list.cln list.list home copy 1 s))))

  word_listed_none : (list : ListPlace) (home copy : ℕ) (s : WordState) → None0 (word_listed list home copy s)
  word_listed_none list home copy s =
      at_takes 0 list.cln (listed_behind (s.fram list.cln) list home copy s) (listed_none (s.fram list.cln) list home copy s)

  element_none : (base length i : ℕ) (s : WordState) → None0 (element_pushed base length i s)
  element_none base length i s =
      let a = 2 * i + base in
      if_takes 0 (nat_lt i length) (at_place a (goes_on [] (pushed (s.fram a) s))) (goes_on [] (pushed 0 s))
      (at_takes 0 a (goes_on [] (pushed (s.fram a) s)) (omega arith)) (omega arith)

  own_element_none : (place : ArrayPlace) (list : ListPlace) (i : ℕ) (s : WordState) → None0 (own_element place list i s)
  own_element_none place list i s =
      let m = 2 * i + place.versions in
      let c = 2 * i + place.copies in
      let e = 2 * i + place.elements in
      let one = at_place c (goes_on [] (pushed (s.fram c) s)) in
      let other = at_place e (goes_on [] (pushed (s.fram e) s)) in
      let made = if s.fram list.ver == s.fram m then one else other in
      at_takes 0 list.ver (at_place m made) (at_takes 0 m made (if_takes 0 (s.fram list.ver == s.fram m) one other
      (at_takes 0 c (goes_on [] (pushed (s.fram c) s)) (omega arith)) (at_takes 0 e (goes_on [] (pushed (s.fram e) s)) (omega arith))))

  versioned_pushed_none : (place : ArrayPlace) (list : ListPlace) (i : ℕ) (s : WordState) → None0 (versioned_pushed place list i s)
  versioned_pushed_none place list i s =
      if_takes 0 (nat_lt i place.length) (own_element place list i s) (goes_on [] (pushed 0 s)) (own_element_none place list i s) (omega arith)

  first_none : (place : ArrayPlace) (list : ListPlace) (i : ℕ) (s : WordState) → None0 (first_stored place list i s)
  first_none place list i s =
      let m = 2 * i + place.versions in
      let e = 2 * i + place.elements in
      let v = s.fram list.ver in
      let rest = word_listed list e (2 * i + place.copies) (stored m v s) in
      at_takes 0 e (behind_effects (Store m v ∷ []) rest)
      (behind_takes 0 (Store m v ∷ []) rest refl (word_listed_none list e (2 * i + place.copies) (stored m v s)))

  own_stored_none : (place : ArrayPlace) (list : ListPlace) (i v : ℕ) (s : WordState) → None0 (own_stored place list i v s)
  own_stored_none place list i v s =
      let c = 2 * i + place.copies in
      let m = 2 * i + place.versions in
      let t = stored c v s in
      let again = goes_on (Store c v ∷ []) t in
      let first = behind_effects (Store c v ∷ []) (first_stored place list i t) in
      let made = if t.fram list.ver == t.fram m then again else first in
      at_takes 0 c (at_place list.ver (at_place m made)) (at_takes 0 list.ver (at_place m made) (at_takes 0 m made
      (if_takes 0 (t.fram list.ver == t.fram m) again first (omega arith)
      (behind_takes 0 (Store c v ∷ []) (first_stored place list i t) refl (first_none place list i t)))))

  versioned_stored_none : (place : ArrayPlace) (list : ListPlace) (i v : ℕ) (s : WordState) → None0 (versioned_stored place list i v s)
  versioned_stored_none place list i v s =
      if_takes 0 (nat_lt i place.length) (own_stored place list i v s) (goes_on [] s) (own_stored_none place list i v s) (omega arith)

  own_kept_none : (b : Bool) (place : ArrayPlace) (list : ListPlace) (i v : ℕ) (s : WordState) → None0 (own_kept b place list i v s)
  own_kept_none b place list i v s =
      let c = 2 * i + place.copies in
      let t = stored c v s in
      let again = goes_on (Store c v ∷ []) t in
      let first = behind_effects (Store c v ∷ []) (first_stored place list i t) in
      at_takes 0 c (if b then again else first) (if_takes 0 b again first (omega arith)
      (behind_takes 0 (Store c v ∷ []) (first_stored place list i t) refl (first_none place list i t)))

  versioned_updated_none : (op : PlainOperation) (place : ArrayPlace) (list : ListPlace) (i v : ℕ) (s : WordState)
      → None0 (versioned_updated op place list i v s)
  versioned_updated_none op place list i v s =
      let m = 2 * i + place.versions in
      let b = s.fram list.ver == s.fram m in
      let a = own_place b place i in
      let made = own_kept b place list i (plain_word op (s.fram a) v) s in
      if_takes 0 (nat_lt i place.length) (own_updated op place list i v s) (goes_on [] s)
      (at_takes 0 list.ver (at_place m (at_place a made)) (at_takes 0 m (at_place a made) (at_takes 0 a made
      (own_kept_none b place list i (plain_word op (s.fram a) v) s)))) (omega arith)

  first_logged_none : (list : ListPlace) (e m : ℕ) (word : WordState → ℕ) (s : WordState)
      → None0 (first_logged list e m s (λ t. goes_on (Store e (word t) ∷ []) (stored e (word t) t)))
  first_logged_none list e m word s =
      let a = list.list + 4 * s.fram list.cln in at_takes 0 list.cln _ (at_takes 0 a _ (at_takes 0 (a + 2) _ (omega arith)))

  own_logged_none : (place : LoggedPlace) (list : ListPlace) (i : ℕ) (word : WordState → ℕ) (s : WordState) → None0 (own_logged place list i word s)
  own_logged_none place list i word s =
      let e = 2 * i + place.elements in
      let m = 2 * i + place.versions in
      at_takes 0 e _ (at_takes 0 list.ver _ (at_takes 0 m _
      (if_takes 0 (s.fram list.ver == s.fram m) _ _ (omega arith) (first_logged_none list e m word s))))

  logged_stored_none : (place : LoggedPlace) (list : ListPlace) (i v : ℕ) (s : WordState) → None0 (logged_stored place list i v s)
  logged_stored_none place list i v s =
      if_takes 0 (nat_lt i place.length) _ (goes_on [] s) (own_logged_none place list i (λ t. v) s) (omega arith)

  logged_updated_none : (op : PlainOperation) (place : LoggedPlace) (list : ListPlace) (i v : ℕ) (s : WordState) → None0 (logged_updated op place list i v s)
  logged_updated_none op place list i v s =
      let e = 2 * i + place.elements in
      if_takes 0 (nat_lt i place.length) _ (goes_on [] s) (own_logged_none place list i (λ t. plain_word op (t.fram e) v) s) (omega arith)

  emitted_none : (count buffer v : ℕ) (s : WordState) → None0 (word_emitted count buffer v s)
  emitted_none count buffer v s =
      let n = s.fram count in
      let a = 2 * n + buffer in
      let made = goes_on (Store a v ∷ Store count (n + 1) ∷ []) (stored count (n + 1) (stored a v s)) in
      at_takes 0 count (at_place a made) (at_takes 0 a made (omega arith))

  local_none : (o : Option ℕ) (s : WordState) → None0 (local_pushed o s)
  local_none None s = omega arith
  local_none (Some v) s = omega arith

  local_updated_none : (op : PlainOperation) (n v : ℕ) (o : Option ℕ) (s : WordState) → None0 (local_updated op n v o s)
  local_updated_none op n v None s = omega arith
  local_updated_none op n v (Some u) s = omega arith

  reading_takes : (readings : List ℕ) (s : WordState) → Takes 1 (reading_pushed readings s)
  reading_takes [] s = omega arith
  reading_takes (r ∷ rs) s = omega arith

  looks_take_none : (looks : List Look) → weighed weight (look_effects looks) ≡ 0
  looks_take_none [] = refl
  looks_take_none (look ∷ more) = refl

  answered_none : (first second : Look) (s : WordState) → None0 (event_answered first second s)
  answered_none first second s =
      let at = event_index s.fram in
      let w = second (slot_place at) in
      let t = pushed w (stored answer_place w s) in
      if_takes 0 (at == first head_place) (none_answered s) (word_answered w s) (omega arith)
      (behind_takes 0 (Store answer_place w ∷ []) (raised count_place t) refl (raised_none count_place t))

  event_none : (looks : List Look) (s : WordState) → None0 (event_pushed looks s)
  event_none looks s =
      let others = other_looks looks in
      let t = with_looks (other_looks others) s in
      let answer = event_answered (first_look looks) (first_look others) t in
      behind_takes 0 (look_effects looks) (behind_effects (look_effects others) answer) (looks_take_none looks)
      (behind_takes 0 (look_effects others) answer (looks_take_none others) (answered_none (first_look looks) (first_look others) t))

  jumped_none : (to : ℕ) (s : WordState) → None0 (jumped to s)
  jumped_none to s = if_takes 0 (to % 2 == 0) (behaves [] (Jumps to s)) broken (omega arith) (omega arith)

  -- ---- programs

  -- nothing is taken behind the body of a function
  behind_call_none : (s : WordState) (e : End) → None0 (behind_call s e)
  behind_call_none s (Gives v t) = omega arith
  behind_call_none s Short = omega arith
  behind_call_none s Strays = omega arith
  behind_call_none s (GoesOn t) = omega arith
  behind_call_none s (Jumps to t) = omega arith
  behind_call_none s Broken = omega arith

  called_takes : (n : ℕ) (s : WordState) (b : Behaviour) → Takes n b → Takes n (called_behind s b)
  called_takes n s b h =
      let all = weighed-append weight b.effects (behind_call s b.end).effects in
      let rest = behind_call_none s b.end in
      omega (arith, all, h, rest)

  more_take : (n m : ℕ) (b : Behaviour) → n ≤ m → Takes n b → Takes m b
  more_take n m b l h = omega (arith, l, h)

  turns_take : (e : ℕ) (body : WordState → Behaviour) → ((s : WordState) → Takes e (body s)) → (m n k : ℕ) (s : WordState) → Takes (m * e) (turns m n k body s)
  turns_take e body f zero n k s = omega arith
  turns_take e body f (suc m) n k s =
      let is = suc-mul m e in
      let made = then_takes e (m * e) (body (with_local n k s)) (turns m n (k + 1) body) (f (with_local n k s)) (turns_take e body f m n (k + 1)) in
      omega (arith, is, made)

  mutual
    step_takes : (q : Step) (s : WordState) → Takes (step_senses q) (step_behaviour q s)
    step_takes (number w) s = omega arith
    step_takes (load a) s = at_takes 0 a (goes_on [] (pushed (s.fram a) s)) (omega arith)
    step_takes (keep a) s = top_takes 0 s.stack (λ v vs. word_stored a v (with_stack vs s)) (λ v vs. word_none a v (with_stack vs s))
    step_takes (update op a) s = top_takes 0 s.stack (λ v vs. word_stored a (plain_word op (s.fram a) v) (with_stack vs s))
        (λ v vs. word_none a (plain_word op (s.fram a) v) (with_stack vs s))
    step_takes (local n) s = local_none (s.locals n) s
    step_takes (set_local n) s = top_takes 0 s.stack (λ v vs. goes_on [] (with_local n v (with_stack vs s))) (λ v vs. omega arith)
    step_takes (update_local op n) s = top_takes 0 s.stack (λ v vs. local_updated op n v (s.locals n) (with_stack vs s))
        (λ v vs. local_updated_none op n v (s.locals n) (with_stack vs s))
    step_takes (unary op) s = top_takes 0 s.stack (λ v vs. goes_on [] (with_stack (unary_word op v ∷ vs) s)) (λ v vs. omega arith)
    step_takes (binary op) s = two_take 0 s.stack (λ u v vs. goes_on [] (with_stack (binary_word op u v ∷ vs) s)) (λ u v vs. omega arith)
    step_takes (shift op k) s = top_takes 0 s.stack (λ v vs. goes_on [] (with_stack (shift_word op v k ∷ vs) s)) (λ v vs. omega arith)
    step_takes (long op) s =
        words_take 0 (long_pops op) s.stack (λ words vs. goes_on [] (with_stack (long_result op words ++ vs) s)) (λ words vs. omega arith)
    step_takes (element base length) s = top_takes 0 s.stack (λ i vs. element_pushed base length i (with_stack vs s))
        (λ i vs. element_none base length i (with_stack vs s))
    step_takes (emit_word count buffer) s = top_takes 0 s.stack (λ v vs. word_emitted count buffer v (with_stack vs s))
        (λ v vs. emitted_none count buffer v (with_stack vs s))
    step_takes (list_entry count list home copy words) s = entry_none count list home copy words s
    step_takes (versioned_read place list) s = top_takes 0 s.stack (λ i vs. versioned_pushed place list i (with_stack vs s))
        (λ i vs. versioned_pushed_none place list i (with_stack vs s))
    step_takes (versioned_write place list) s = two_take 0 s.stack (λ i v vs. versioned_stored place list i v (with_stack vs s))
        (λ i v vs. versioned_stored_none place list i v (with_stack vs s))
    step_takes (versioned_update op place list) s = two_take 0 s.stack (λ i v vs. versioned_updated op place list i v (with_stack vs s))
        (λ i v vs. versioned_updated_none op place list i v (with_stack vs s))
    step_takes (logged_write place list) s = two_take 0 s.stack (λ i v vs. logged_stored place list i v (with_stack vs s))
        (λ i v vs. logged_stored_none place list i v (with_stack vs s))
    step_takes (logged_update op place list) s = two_take 0 s.stack (λ i v vs. logged_updated op place list i v (with_stack vs s))
        (λ i v vs. logged_updated_none op place list i v (with_stack vs s))
    step_takes sense s = reading_takes s.inputs.readings s
    step_takes next_event s = event_none s.inputs.looks s
    step_takes freeze_events s = omega arith
    step_takes (truth t) s =
        let made = tested_takes t 0 (number_pushed 1) (number_pushed 0) (λ u. omega arith) (λ u. omega arith) s in omega (arith, made)
    step_takes (choose t taken otherwise) s =
        let dearer = max (senses taken) (senses otherwise) in
        tested_takes t dearer (behaviour taken) (behaviour otherwise)
        (λ u. more_take (senses taken) dearer (behaviour taken u) (omega arith) (program_takes taken u))
        (λ u. more_take (senses otherwise) dearer (behaviour otherwise u) (omega arith) (program_takes otherwise u)) s
    step_takes (repeat n from below body) s = turns_take (senses body) (behaviour body) (program_takes body) (below - from) n from s
    step_takes (store_number a w) s = word_none a w s
    step_takes (move_word from to) s = at_takes 0 from (word_stored to (s.fram from) s) (word_none to (s.fram from) s)
    step_takes (jump to) s = jumped_none to s
    step_takes (call entry frame first count body) s =
        words_take (senses body) count s.stack (λ words vs. called_behind (with_stack vs s) (behaviour body (called first words (with_stack vs s))))
        (λ words vs. let t = with_stack vs s in
        called_takes (senses body) t (behaviour body (called first words t)) (program_takes body (called first words t)))
    step_takes give s = top_takes 0 s.stack (λ v vs. behaves [] (Gives v (with_stack vs s))) (λ v vs. omega arith)

    tested_takes : (t : Test) (n : ℕ) (held failed : WordState → Behaviour) → ((s : WordState) → Takes n (held s)) → ((s : WordState) → Takes n (failed s))
        → (s : WordState) → Takes (test_senses t + n) (tested t held failed s)
    tested_takes (holds p) n held failed h f s =
        then_takes (senses p) n (behaviour p s) (way_by_top held failed) (program_takes p s)
        (λ u. top_takes n u.stack (λ v vs. if is_true v then held (with_stack vs u) else failed (with_stack vs u))
        (λ v vs. if_takes n (is_true v) (held (with_stack vs u)) (failed (with_stack vs u)) (h (with_stack vs u)) (f (with_stack vs u))))
    tested_takes (compares op p) n held failed h f s =
        then_takes (senses p) n (behaviour p s) (way_by_two op held failed) (program_takes p s)
        (λ u. two_take n u.stack (λ a b vs. if compare_words op a b then held (with_stack vs u) else failed (with_stack vs u))
        (λ a b vs. if_takes n (compare_words op a b) (held (with_stack vs u)) (failed (with_stack vs u)) (h (with_stack vs u)) (f (with_stack vs u))))
    tested_takes (both t u) n held failed h f s =
        let more = test_senses u + n in
        let made = tested_takes t more (tested u held failed) failed (tested_takes u n held failed h f)
        (λ w. more_take n more (failed w) (omega arith) (f w)) s in
        omega (arith, made)
    tested_takes (either t u) n held failed h f s =
        let more = test_senses u + n in
        let made = tested_takes t more held (tested u held failed) (λ w. more_take n more (held w) (omega arith) (h w))
        (tested_takes u n held failed h f) s in
        omega (arith, made)
    tested_takes (fails t) n held failed h f s = tested_takes t n failed held f h s

    pub program_takes : (q : Program) (s : WordState) → Takes (senses q) (behaviour q s)
    program_takes nothing s = omega arith
    program_takes (step first more) s =
        then_takes (step_senses first) (senses more) (step_behaviour first s) (behaviour more) (step_takes first s) (program_takes more)
