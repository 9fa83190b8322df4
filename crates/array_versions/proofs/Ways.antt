-- A whole program is never broken: along each way the stack is as deep as is said, and the locals that are said to be assigned are.
use Rattle.std.proofs.Common.{◌≡◌, ℕ, zero, suc, ◌+◌, ◌-◌, ◌%◌, ◌==◌, ◌≤◌, ◌||◌, List, [], ◌∷◌, length, Option, Some, None, Bool, true, false}
use Rattle.std.proofs.Common.{nat_eq, refl, sym, ap, ◌∙◌, subst, arith, eq-eqb, if◌then◌else◌}
use Rattle.std.proofs.lemmas.List.{length-append}
use Rattle.machine_effects.specs.fram_board.Effects.{Effect}
use Rattle.machine_effects.specs.event_places.Places.{head_place, slot_place}
use Rattle.machine_effects.specs.Inputs.{Look, Inputs, first_look, other_looks}
use Rattle.array_versions.specs.declared.operations.PlainOperation.{PlainOperation}
use Rattle.array_versions.specs.declared.operations.LongOperation.{LongOperation}
use Rattle.array_versions.specs.declared.operations.LongOperation.TheVariants.{ShiftLeft}
use Rattle.array_versions.specs.Operations.{plain_word, is_true, compare_words, long_pops, long_pushes, long_result}
use Rattle.array_versions.specs.Program.{Step, Test, Program, number, load, keep, update, local, set_local, update_local, unary, binary, shift, long, element}
use Rattle.array_versions.specs.Program.{emit_word}
use Rattle.array_versions.specs.Program.{list_entry}
use Rattle.array_versions.specs.Program.{versioned_read, versioned_write, versioned_update, logged_write, logged_update, sense, next_event, freeze_events}
use Rattle.array_versions.specs.Program.{truth, choose, repeat}
use Rattle.array_versions.specs.Program.{store_number}
use Rattle.array_versions.specs.Program.{move_word, jump, call, give, holds}
use Rattle.array_versions.specs.Program.{compares}
use Rattle.array_versions.specs.Program.{both, either, fails, nothing, step}
use Rattle.array_versions.specs.Behaviour.{WordState, started, End, GoesOn, Jumps, Gives, Short, Strays, Broken, Behaviour, behaves}
use Rattle.array_versions.specs.Behaviour.{parameter_words, called, behind_call, called_behind}
use Rattle.array_versions.specs.Behaviour.{strays, broken, on_end, then_on, is_place, with_top, with_two, with_words, with_stack, pushed}
use Rattle.array_versions.specs.Behaviour.{with_local}
use Rattle.array_versions.specs.Behaviour.{local_pushed, local_updated, reading_pushed, event_index, none_answered, word_answered, with_looks}
use Rattle.array_versions.specs.Behaviour.{event_pushed}
use Rattle.array_versions.specs.Behaviour.{number_pushed, way_by_top, way_by_two, turns, step_behaviour, tested, behaviour}
use Rattle.array_versions.specs.Form.{Place, start, assigning, entry_place, Moves, EachTurn, EachStepWay, EachTestWay, EachWay, CallBounds}
use Rattle.array_versions.specs.Form.{StepIsFormed, TestIsFormed, IsFormed}
use Rattle.array_versions.specs.Laws.{IsSound, WholeEndsSoundly}
use Rattle.array_versions.proofs.Parts.{Writes, astray, done, writes, Pushes, off, on_top, Known, loads, element_pushes, versioned_pushes, word_writes}
use Rattle.array_versions.proofs.Parts.{emitted_writes, entry_writes, versioned_writes, updated_writes, logged_writes, logged_update_writes}

-- a local that is assigned has a word
pub record HasWord (o : Option ℕ) : Type 0 where
  pub word : ℕ
  pub is : o ≡ Some word

-- the state is as is known at this place
pub record Matches (q : Place) (s : WordState) : Type 0 where
  pub depth : length s.stack ≡ q.depth
  pub assigned : (n : ℕ) → q.assigned n ≡ true → HasWord (s.locals n)

-- where the end goes on, it is at a place from which what follows is fit; a function's body ends by giving a word, a task by a jump
abbrev pub GoesWell : (gives : Bool) → (Place → Type 0) → End → Type 0
GoesWell gives next (GoesOn t) = (q : Place) × next q × Matches q t
GoesWell gives next (Jumps to t) = gives ≡ false
GoesWell gives next (Gives v t) = gives ≡ true
GoesWell gives next Short = Unit {0}
GoesWell gives next Strays = Unit {0}
GoesWell gives next Broken = ⊥

-- a place of this depth
abbrev at_depth : ℕ → Place → Place
at_depth d q = record q { depth = d }

matches_depth : (q : Place) (s : WordState) (vs : List ℕ) (d : ℕ) → Matches q s → length vs ≡ d → Matches (at_depth d q) (with_stack vs s)
matches_depth q s vs d m e = record { depth = e; assigned = m.assigned }

assigned_by : (b : Bool) (o : Option ℕ) (known : Bool) (v : ℕ) → (known ≡ true → HasWord o) → (b || known) ≡ true → HasWord (if b then Some v else o)
assigned_by true o known v h e = record { word = v; is = refl }
assigned_by false o known v h e = h e

-- a local that is set is one that is assigned
pub matches_local : (q : Place) (s : WordState) (n v : ℕ) → Matches q s → Matches (assigning n q) (with_local n v s)
matches_local q s n v m = record { depth = m.depth; assigned = λ k e. assigned_by (nat_eq k n) (s.locals k) (q.assigned k) v (m.assigned k) e }

-- an operation with longs gives as many words as is said
long_pushes_so : (op : LongOperation) (words : List ℕ) → length (long_result op words) ≡ long_pushes op
long_pushes_so (ShiftLeft k) words = refl
long_pushes_so _ words = refl

-- what is known of words here: nothing
unknown : (s : WordState) → Known ⊥ s
unknown s x = absurd x

-- what is fit and what follows it goes well
abbrev Leads : (gives : Bool) → (Place → Type 0) → (Place → Type 0) → (WordState → Behaviour) → Type 0
Leads gives mid next go = (q : Place) (s : WordState) → mid q → Matches q s → GoesWell gives next (go s).end

-- where an answer leads: the places that are fit for what follows it
pub record Answer (gives : Bool) (next : Place → Type 0) : Type 1 where
  pub fit : Place → Type 0
  pub go : WordState → Behaviour
  pub leads : Leads gives fit next go

-- the state in which a function begins that is called
pub entry_matches : (first : ℕ) (ws : List ℕ) (s : WordState) → Matches (entry_place first (length ws)) (called first ws s)
entry_matches first [] s = record { depth = refl; assigned = λ n e. absurd (let f = e in (cc)) }
entry_matches first (w ∷ ws) s =
    let q = entry_place first (length ws) in
    let rest = entry_matches first ws s in
    record {
      depth = rest.depth;
      assigned = λ n e. assigned_by (nat_eq n (first + length ws)) (parameter_words first ws n) (q.assigned n) w (rest.assigned n) e;
    }

module _ (gives : Bool) where
  then_well : (mid next : Place → Type 0) (b : Behaviour) (go : WordState → Behaviour) → GoesWell gives mid b.end
      → ((q : Place) (t : WordState) → mid q → Matches q t → GoesWell gives next (go t).end) → GoesWell gives next (then_on b go).end
  then_well mid next b go h k = by_end b.end h
    where
      by_end : (e : End) → GoesWell gives mid e → GoesWell gives next (on_end e go).end
      by_end (GoesOn t) g = k g.0 t g.1 g.2
      by_end (Jumps to t) g = g
      by_end (Gives v t) g = g
      by_end Short g = tt
      by_end Strays g = tt
      by_end Broken g = g

  guarded : (next : Place → Type 0) (c : Bool) (b : Behaviour) → GoesWell gives next b.end → GoesWell gives next (if c then b else strays).end
  guarded next true b h = h
  guarded next false b h = tt

  top_well : (next : Place → Type 0) (vs : List ℕ) (go : ℕ → List ℕ → Behaviour) → 1 ≤ length vs
      → ((v : ℕ) (us : List ℕ) → length us + 1 ≡ length vs → GoesWell gives next (go v us).end) → GoesWell gives next (with_top vs go).end
  top_well next [] go l h = absurd (omega arith)
  top_well next (v ∷ vs) go l h = h v vs (omega arith)

  two_well : (next : Place → Type 0) (vs : List ℕ) (go : ℕ → ℕ → List ℕ → Behaviour) → 2 ≤ length vs
      → ((u v : ℕ) (us : List ℕ) → length us + 2 ≡ length vs → GoesWell gives next (go u v us).end) → GoesWell gives next (with_two vs go).end
  two_well next vs go l h =
      top_well next vs _ (omega arith) (λ v us e. top_well next us _ (omega arith) (λ u rest f. h u v rest (omega arith)))

  words_well : (next : Place → Type 0) (n : ℕ) (vs : List ℕ) (go : List ℕ → List ℕ → Behaviour) → n ≤ length vs
      → ((ws us : List ℕ) → length ws ≡ n → length us + n ≡ length vs → GoesWell gives next (go ws us).end) → GoesWell gives next (with_words n vs go).end
  words_well next zero vs go l h = h [] vs refl (omega arith)
  words_well next (suc n) vs go l h =
      top_well next vs _ (omega arith)
      (λ v us e. words_well next n us _ (omega arith) (λ ws rest size f. h (v ∷ ws) rest (omega (arith, size)) (omega arith)))

  same_well : (next : Place → Type 0) (q : Place) (s t : WordState) → next q → Matches q s → t.stack ≡ s.stack → t.locals ≡ s.locals
      → GoesWell gives next (GoesOn t)
  same_well next q s t h m e f =
      (q, h, record { depth = ap (length {A = ℕ}) e ∙ m.depth; assigned = λ n k. subst (λ l. HasWord (l n)) (sym f) (m.assigned n k) })

  -- words popped, and others pushed
  moved_well : (room pops pushes : ℕ) (next : Place → Type 0) (q : Place) (s t : WordState) → Moves room pops pushes next q → Matches q s
      → length t.stack + pops ≡ length s.stack + pushes → t.locals ≡ s.locals → GoesWell gives next (GoesOn t)
  moved_well room pops pushes next q s t h m e f = (
    at_depth (q.depth - pops + pushes) q,
    h.2,
    record { depth = let l = h.0 in omega (arith, m.depth); assigned = λ n k. subst (λ l. HasWord (l n)) (sym f) (m.assigned n k) },
  )

  long_well : (room : ℕ) (op : LongOperation) (next : Place → Type 0) (q : Place) (s : WordState) → Moves room (long_pops op) (long_pushes op) next q
      → Matches q s → GoesWell gives next (step_behaviour (long op) s).end
  long_well room op next q s h m =
      words_well next (long_pops op) s.stack _ (omega (arith, h.0, m.depth)) (λ ws vs few e.
      let size = length-append (long_result op ws) vs in
      moved_well room (long_pops op) (long_pushes op) next q s _ h m (omega (arith, size, long_pushes_so op ws, e)) refl)

  local_well : (room : ℕ) (o : Option ℕ) (next : Place → Type 0) (q : Place) (s : WordState) → HasWord o → Moves room 0 1 next q → Matches q s
      → GoesWell gives next (local_pushed o s).end
  local_well room None next q s w h m = absurd (let e = w.is in (cc))
  local_well room (Some v) next q s w h m = moved_well room 0 1 next q s _ h m (omega arith) refl

  -- a local that has a word has another
  updated_well : (op : PlainOperation) (n v : ℕ) (o : Option ℕ) (next : Place → Type 0) (q : Place) (s : WordState) → HasWord o → next (assigning n q)
      → Matches q s → GoesWell gives next (local_updated op n v o s).end
  updated_well op n v None next q s w h m = absurd (let e = w.is in (cc))
  updated_well op n v (Some u) next q s w h m = (assigning n q, h, matches_local q s n (plain_word op u v) m)

  reading_well : (room : ℕ) (rs : List ℕ) (next : Place → Type 0) (q : Place) (s : WordState) → Moves room 0 1 next q → Matches q s
      → GoesWell gives next (reading_pushed rs s).end
  reading_well room [] next q s h m = tt
  reading_well room (r ∷ rs) next q s h m = moved_well room 0 1 next q s _ h m (omega arith) refl

  -- one of two ways
  either_well : (c : Bool) (next : Place → Type 0) (a b : Behaviour) → GoesWell gives next a.end → GoesWell gives next b.end
      → GoesWell gives next (if c then a else b).end
  either_well true next a b h k = h
  either_well false next a b h k = k

  event_well : (room : ℕ) (looks : List Look) (next : Place → Type 0) (q : Place) (s : WordState) → Moves room 0 1 next q → Matches q s
      → GoesWell gives next (event_pushed looks s).end
  event_well room looks next q s h m =
      let others = other_looks looks in
      let t = with_looks (other_looks others) s in
      let at = event_index s.fram in
      either_well (at == first_look looks head_place) next (none_answered t) (word_answered (first_look others (slot_place at)) t)
      (moved_well room 0 1 next q s _ h m (omega arith) refl) (moved_well room 0 1 next q s _ h m (omega arith) refl)

  -- words that are written leave the stack and the locals
  written_well : (next : Place → Type 0) {s : WordState} {es : List Effect} {e : End} → Writes ⊥ s es e
      → ((f : ℕ → ℕ) → GoesWell gives next (GoesOn (record s { fram = f }))) → GoesWell gives next e
  written_well next astray h = tt
  written_well next (done {s = s}) h = h s.fram
  written_well next (writes a v l w) h = written_well next w h

  -- a word that is pushed
  pushed_well : (next : Place → Type 0) {s : WordState} {es : List Effect} {e : End} → Pushes ⊥ s es e → ((v : ℕ) → GoesWell gives next (GoesOn (pushed v s)))
      → GoesWell gives next e
  pushed_well next off h = tt
  pushed_well next (on_top v l) h = h v

  -- a number on top
  number_leads : (room n : ℕ) (next : Place → Type 0) → Leads gives (Moves room 0 1 next) next (number_pushed n)
  number_leads room n next q s h m = moved_well room 0 1 next q s _ h m (omega arith) refl

  -- one of two ways, behind words that are popped
  popped_well : (c : Bool) (d : ℕ) (vs : List ℕ) (next : Place → Type 0) (held failed : Answer gives next) (q : Place) (s : WordState)
      → held.fit (at_depth d q) × failed.fit (at_depth d q) → Matches q s → length vs ≡ d
      → GoesWell gives next (if c then held.go (with_stack vs s) else failed.go (with_stack vs s)).end
  popped_well c d vs next held failed q s h m e =
      let t = with_stack vs s in
      let n = matches_depth q s vs d m e in
      either_well c next (held.go t) (failed.go t) (held.leads (at_depth d q) t h.0 n) (failed.leads (at_depth d q) t h.1 n)

  turns_well : (body : (Place → Type 0) → Place → Type 0) (run : WordState → Behaviour)
      → ((next : Place → Type 0) (q : Place) (s : WordState) → body next q → Matches q s → GoesWell gives next (run s).end)
      → (m n k : ℕ) (next : Place → Type 0) (q : Place) (s : WordState) → EachTurn m n body next q → Matches q s → GoesWell gives next (turns m n k run s).end
  turns_well body run f zero n k next q s h m = (assigning n q, h, matches_local q s n k m)
  turns_well body run f (suc j) n k next q s h m =
      then_well (EachTurn j n body next) next (run (with_local n k s)) (turns j n (k + 1) run)
      (f (EachTurn j n body next) (assigning n q) (with_local n k s) h (matches_local q s n k m))
      (λ p t g w. turns_well body run f j n (k + 1) next p t g w)

  jump_well : (c : Bool) (to : ℕ) (next : Place → Type 0) (s : WordState) → gives ≡ false → c ≡ true
      → GoesWell gives next (if c then behaves [] (Jumps to s) else broken).end
  jump_well true to next s jumps e = jumps
  jump_well false to next s jumps e = absurd (cc)

  -- behind a function that is called, whose body ends by giving a word
  call_well : (next : Place → Type 0) (s : WordState) (b : Behaviour) → GoesWell true (λ q. ⊥) b.end
      → ((v : ℕ) (t : WordState) → GoesWell gives next (GoesOn (record t { stack = v ∷ s.stack; locals = s.locals })))
      → GoesWell gives next (called_behind s b).end
  call_well next s b h k = by_end b.end h
    where
      by_end : (e : End) → GoesWell true (λ q. ⊥) e → GoesWell gives next (behind_call s e).end
      by_end (Gives v t) g = k v t
      by_end Short g = tt
      by_end Strays g = tt
      by_end (GoesOn t) g = absurd g.1
      by_end (Jumps to t) g = absurd (let jumps = g in (cc))
      by_end Broken g = absurd g

mutual
  -- a step along each way
  pub step_well : (bounds : CallBounds) (gives : Bool) (room : ℕ) (first : Step) → StepIsFormed bounds gives first
      → (next : Place → Type 0) (q : Place) (s : WordState) → EachStepWay room first next q → Matches q s
      → GoesWell gives next (step_behaviour first s).end
  step_well bounds gives room (number w) formed next q s h m = moved_well gives room 0 1 next q s _ h m (omega arith) refl
  step_well bounds gives room (load a) formed next q s h m =
      pushed_well gives next (loads ⊥ a s (unknown s)) (λ v. moved_well gives room 0 1 next q s _ h m (omega arith) refl)
  step_well bounds gives room (keep a) formed next q s h m =
      top_well gives next s.stack _ (omega (arith, h.0, m.depth))
      (λ v vs e. written_well gives next (word_writes ⊥ a v (with_stack vs s) (λ x. absurd x))
      (λ f. moved_well gives room 1 0 next q s _ h m (omega arith) refl))
  step_well bounds gives room (update op a) formed next q s h m =
      top_well gives next s.stack _ (omega (arith, h.0, m.depth))
      (λ v vs e. written_well gives next (word_writes ⊥ a (plain_word op (s.fram a) v) (with_stack vs s) (λ x. absurd x))
      (λ f. moved_well gives room 1 0 next q s _ h m (omega arith) refl))
  step_well bounds gives room (local n) formed next q s h m = local_well gives room (s.locals n) next q s (m.assigned n h.0) h.1 m
  step_well bounds gives room (set_local n) formed next q s h m =
      top_well gives next s.stack _ (omega (arith, h.0, m.depth))
      (λ v vs e. (
        assigning n (at_depth (q.depth - 1 + 0) q),
        h.2,
        matches_local (at_depth (q.depth - 1 + 0) q) (with_stack vs s) n v (matches_depth q s vs (q.depth - 1 + 0) m (omega (arith, m.depth))),
      ))
  step_well bounds gives room (update_local op n) formed next q s h m =
      let f = h.1 in
      top_well gives next s.stack _ (omega (arith, f.0, m.depth)) (λ v vs e.
      let p = at_depth (q.depth - 1 + 0) q in
      updated_well gives op n v (s.locals n) next p (with_stack vs s) (m.assigned n h.0) f.2
      (matches_depth q s vs (q.depth - 1 + 0) m (omega (arith, m.depth))))
  step_well bounds gives room (unary op) formed next q s h m = top_well gives next s.stack _ (omega (arith, h.0, m.depth))
      (λ v vs e. moved_well gives room 1 1 next q s _ h m (omega arith) refl)
  step_well bounds gives room (binary op) formed next q s h m = two_well gives next s.stack _ (omega (arith, h.0, m.depth))
      (λ u v vs e. moved_well gives room 2 1 next q s _ h m (omega arith) refl)
  step_well bounds gives room (shift op k) formed next q s h m = top_well gives next s.stack _ (omega (arith, h.0, m.depth))
      (λ v vs e. moved_well gives room 1 1 next q s _ h m (omega arith) refl)
  step_well bounds gives room (long op) formed next q s h m = long_well gives room op next q s h m
  step_well bounds gives room (element base size) formed next q s h m =
      top_well gives next s.stack _ (omega (arith, h.0, m.depth)) (λ i vs e.
      let t = with_stack vs s in
      pushed_well gives next (element_pushes ⊥ base size i t (unknown t)) (λ v. moved_well gives room 1 1 next q s _ h m (omega arith) refl))
  step_well bounds gives room (emit_word count buffer) formed next q s h m =
      top_well gives next s.stack _ (omega (arith, h.0, m.depth))
      (λ v vs e. written_well gives next (emitted_writes ⊥ count buffer v (with_stack vs s) (λ x. absurd x))
      (λ f. moved_well gives room 1 0 next q s _ h m (omega arith) refl))
  step_well bounds gives room (list_entry count list home copy words) formed next q s h m =
      written_well gives next (entry_writes ⊥ count list home copy words s (λ x. absurd x) (λ x. absurd x) (λ x. absurd x))
      (λ f. same_well gives next q s _ h m refl refl)
  step_well bounds gives room (versioned_read place list) formed next q s h m =
      top_well gives next s.stack _ (omega (arith, h.0, m.depth)) (λ i vs e.
      let t = with_stack vs s in
      pushed_well gives next (versioned_pushes ⊥ place list i t (unknown t)) (λ v. moved_well gives room 1 1 next q s _ h m (omega arith) refl))
  step_well bounds gives room (versioned_write place list) formed next q s h m =
      two_well gives next s.stack _ (omega (arith, h.0, m.depth)) (λ i v vs e.
      let t = with_stack vs s in
      written_well gives next (versioned_writes ⊥ place list i v t (λ x. absurd x) (unknown t))
      (λ f. moved_well gives room 2 0 next q s _ h m (omega arith) refl))
  step_well bounds gives room (versioned_update op place list) formed next q s h m =
      two_well gives next s.stack _ (omega (arith, h.0, m.depth)) (λ i v vs e.
      let t = with_stack vs s in
      written_well gives next (updated_writes ⊥ op place list i v t (λ x. absurd x) (unknown t))
      (λ f. moved_well gives room 2 0 next q s _ h m (omega arith) refl))
  step_well bounds gives room (logged_write place list) formed next q s h m =
      two_well gives next s.stack _ (omega (arith, h.0, m.depth)) (λ i v vs e.
      let t = with_stack vs s in
      written_well gives next (logged_writes ⊥ place list i v t (λ x. absurd x) (unknown t)) (λ f. moved_well gives room 2 0 next q s _ h m (omega arith) refl))
  step_well bounds gives room (logged_update op place list) formed next q s h m =
      two_well gives next s.stack _ (omega (arith, h.0, m.depth)) (λ i v vs e.
      let t = with_stack vs s in
      written_well gives next (logged_update_writes ⊥ op place list i v t (λ x. absurd x) (unknown t))
      (λ f. moved_well gives room 2 0 next q s _ h m (omega arith) refl))
  step_well bounds gives room sense formed next q s h m = reading_well gives room s.inputs.readings next q s h m
  step_well bounds gives room next_event formed next q s h m = event_well gives room s.inputs.looks next q s h m
  step_well bounds gives room freeze_events formed next q s h m = same_well gives next q s _ h m refl refl
  step_well bounds gives room (truth t) formed next q s h m =
      let pushes : ℕ → Answer gives next = λ n. record { fit = Moves room 0 1 next; go = number_pushed n; leads = number_leads gives room n next } in
      test_well bounds gives room t formed next (pushes 1) (pushes 0) q s h m
  step_well bounds gives room (choose t taken otherwise) formed next q s h m =
      let held : Answer gives next = record { fit = EachWay room taken next; go = behaviour taken; leads = well bounds gives room taken formed.1 next } in
      let failed : Answer gives next =
      record { fit = EachWay room otherwise next; go = behaviour otherwise; leads = well bounds gives room otherwise formed.2 next } in
      test_well bounds gives room t formed.0 next held failed q s h m
  step_well bounds gives room (repeat n from below body) formed next q s h m =
      turns_well gives (EachWay room body) (behaviour body) (well bounds gives room body formed.1) (below - from) n from next q s h m
  step_well bounds gives room (store_number a w) formed next q s h m =
      written_well gives next (word_writes ⊥ a w s (λ x. absurd x)) (λ f. same_well gives next q s _ h m refl refl)
  step_well bounds gives room (move_word from to) formed next q s h m =
      guarded gives next (is_place from) _ (written_well gives next (word_writes ⊥ to (s.fram from) s (λ x. absurd x))
      (λ f. same_well gives next q s _ h m refl refl))
  step_well bounds gives room (jump to) formed next q s h m = jump_well gives (to % 2 == 0) to next s formed (eq-eqb (to % 2) 0 h)
  step_well bounds gives room (call entry frame first count body) formed next q s h m =
      words_well gives next count s.stack _ (omega (arith, h.0, m.depth)) (λ ws vs few e.
      let t = with_stack vs s in
      let start : Matches (entry_place first count) (called first ws t) = subst (λ n. Matches (entry_place first n) (called first ws t)) few
      (entry_matches first ws t) in
      let inner : CallBounds = record { first = formed.own; low = formed.lowest; floor = bounds.floor } in
      call_well gives next t (behaviour body (called first ws t))
      (well inner true formed.room body formed.deeper (λ p. ⊥) (entry_place first count) (called first ws t) formed.ways start)
      (λ v u. moved_well gives room count 1 next q s _ h m (omega (arith, e)) refl))
  step_well bounds gives room give formed next q s h m = top_well gives next s.stack _ (omega (arith, h, m.depth)) (λ v vs e. formed)

  -- a test along each way
  pub test_well : (bounds : CallBounds) (gives : Bool) (room : ℕ) (t : Test) → TestIsFormed bounds gives t
      → (next : Place → Type 0) (held failed : Answer gives next) (q : Place) (s : WordState) → EachTestWay room t held.fit failed.fit q → Matches q s
      → GoesWell gives next (tested t held.go failed.go s).end
  test_well bounds gives room (holds p) formed next held failed q s h m =
      then_well gives (Moves room 1 0 (λ r. held.fit r × failed.fit r)) next (behaviour p s) (way_by_top held.go failed.go)
      (well bounds gives room p formed _ q s h m)
      (λ r u k n. top_well gives next u.stack _ (omega (arith, k.0, n.depth)) (λ v vs e.
      popped_well gives (is_true v) (r.depth - 1 + 0) vs next held failed r u k.2 n (omega (arith, n.depth))))
  test_well bounds gives room (compares op p) formed next held failed q s h m =
      then_well gives (Moves room 2 0 (λ r. held.fit r × failed.fit r)) next (behaviour p s) (way_by_two op held.go failed.go)
      (well bounds gives room p formed _ q s h m)
      (λ r u k n. two_well gives next u.stack _ (omega (arith, k.0, n.depth)) (λ x y vs e.
      popped_well gives (compare_words op x y) (r.depth - 2 + 0) vs next held failed r u k.2 n (omega (arith, n.depth))))
  test_well bounds gives room (both t u) formed next held failed q s h m =
      let second : Answer gives next = record {
        fit = EachTestWay room u held.fit failed.fit;
        go = tested u held.go failed.go;
        leads = test_well bounds gives room u formed.1 next held failed;
      } in
      test_well bounds gives room t formed.0 next second failed q s h m
  test_well bounds gives room (either t u) formed next held failed q s h m =
      let second : Answer gives next = record {
        fit = EachTestWay room u held.fit failed.fit;
        go = tested u held.go failed.go;
        leads = test_well bounds gives room u formed.1 next held failed;
      } in
      test_well bounds gives room t formed.0 next held second q s h m
  test_well bounds gives room (fails t) formed next held failed q s h m = test_well bounds gives room t formed next failed held q s h m

  -- a program along each way
  pub well : (bounds : CallBounds) (gives : Bool) (room : ℕ) (p : Program) → IsFormed bounds gives p
      → (next : Place → Type 0) (q : Place) (s : WordState) → EachWay room p next q → Matches q s
      → GoesWell gives next (behaviour p s).end
  well bounds gives room nothing formed next q s h m = (q, h, m)
  well bounds gives room (step first more) formed next q s h m =
      then_well gives (EachWay room more next) next (step_behaviour first s) (behaviour more)
      (step_well bounds gives room first formed.0 (EachWay room more next) q s h m) (λ p t g w. well bounds gives room more formed.1 next p t g w)

-- the state that an attempt starts with
pub start_matches : (fram : ℕ → ℕ) (inputs : Inputs) → Matches start (started fram inputs)
start_matches fram inputs = record { depth = refl; assigned = λ n e. absurd (let f = e in (cc)) }

-- a whole program jumps, or is short of readings, or comes to an address that isn't in FRAM
pub whole_ends_soundly : WholeEndsSoundly
whole_ends_soundly p fram inputs h = by_end (behaviour p (started fram inputs)).end
    (well h.bounds false h.room p h.formed (λ q. ⊥) start (started fram inputs) h.ways (start_matches fram inputs))
  where
    by_end : (e : End) → GoesWell false (λ q. ⊥) e → IsSound e
    by_end (GoesOn t) g = g.1
    by_end (Jumps to t) g = tt
    by_end (Gives v t) g = absurd (let gives = g in (cc))
    by_end Short g = tt
    by_end Strays g = tt
    by_end Broken g = g
