-- The word in hand over one moment of a charge.
use Rattle.std.proofs.Common.{◌≤◌, ◌≡◌, ◌+◌, ◌<◌, ◌==◌, if◌then◌else◌, arith, ℕ, refl, sym, ap, ◌∙◌, subst, Bool, true, false, List, [], ◌∷◌, ◌++◌}
use Rattle.std.proofs.Common.{append-nil, ◌⊎◌, inl, inr, Option, Some, None, Ok, length, ne_eqb, eq-eqb}
use Rattle.event_places.specs.Places.{handler_place, head_place, tail_place, ring_slots, slot_place}
use Rattle.msp_isa.specs.declared.instructions.Instr.{Instr}
use Rattle.msp_cycles.specs.Cycles.{cycles_of}
use Rattle.msp_step.specs.alp_words.Words.{word_sum, word_difference}
use Rattle.std.proofs.lemmas.Bool.{and_parts}
use Rattle.fram_board.specs.declared.board.NextStep.TheVariants as next_step
use Rattle.fram_board.specs.declared.board.Stepped.{Stepped}
use Rattle.fram_board.specs.declared.events.Heard.{Heard}
use Rattle.fram_board.specs.declared.events.Heard.TheVariants as heard
use Rattle.fram_board.specs.Events.{is_full, port_word}
use Rattle.fram_board.specs.Board.{BoardValue, executed, performed, at_boundary}
use Rattle.fram_board.specs.Run.{StepKind, Accepting, Returning, Plain, Action, Execute, Moment, moment_of, kind_of, word_list}
use Rattle.board_run.specs.History.{word_in}
use Rattle.board_run.specs.Events.{HandEnd, Reads, ChangesHead, Hand, handed, handed_all, accepting, losing, reads_of, change_ends, return_ends, is_return}
use Rattle.board_run.specs.Events.{action_ends, hand_behind}
use Rattle.machine_effects.specs.Inputs.{look_effects}
use Rattle.machine_effects.specs.Going.{Goes}
use Rattle.machine_effects.specs.Machine.{MachineOutcome, fram_of, code_executed}
use Rattle.machine_effects.specs.View.{machine_with, looks_at, outcome_of_answer}
use Rattle.machine_effects.specs.Laws.{KeepsTheHandler}
use Rattle.fram_board.proofs.Interface.{told_heard}
use Rattle.machine_effects.proofs.Interface.{code_keeps, put_other, put_same, machine_is_of_words}
use Rattle.fram_board.specs.Effects.{effects_of}
use Rattle.event_handler.specs.Handler.{Stage, SaveR4, SaveR5, TakeEvent, LoadHead, SubtractTail, CompareRoom, LeaveIfFull, LoadHeadAgain, CutToSlots}
use Rattle.event_handler.specs.Handler.{DoubleIndex, StoreWord, RaiseHead, RestoreR5, RestoreR4, Return, instruction_at}
use Rattle.event_handler.specs.Boundaries.{IsInterrupted, IsInHandler, IsBehind, next_stage, heard_at, is_ring_full, head_of, event_of, fram_at, fram_behind}
use Rattle.event_handler.specs.Boundaries.{with_event, with_head_raised}
use Rattle.program_view.specs.Stands.{stage_behind, IsPrograms}
use Rattle.run_charges.specs.View.{is_handlers}
use Rattle.run_charges.specs.Moments.{IsMomentFrom, PowersUp, Instructs, Serves}
use Rattle.run_charges.specs.Charges.{IsInstruction}
use Rattle.run_charges.proofs.Interface.{no_power_up, PlacedProgram, Moves, MovesOwn, MovesIn, MovesOn}
use Rattle.event_rules.specs.Laws.{KeepsHand}

-- the word that the handler has in hand in front of each of its instructions: from where it took the event, until HEAD is raised; where the
-- ring is full until it returns
abbrev pub held_at : BoardValue → Stage → Option ℕ
held_at from SaveR4 = None
held_at from SaveR5 = None
held_at from TakeEvent = None
held_at from RestoreR5 = if is_ring_full from then from.line.port else None
held_at from RestoreR4 = if is_ring_full from then from.line.port else None
held_at from Return = if is_ring_full from then from.line.port else None
held_at from _ = from.line.port

abbrev pub held : Option (BoardValue × Stage) → Option ℕ
held None = None
held (Some x) = held_at x.0 x.1

-- the word that an instruction of the handler makes accepted
abbrev pub stored_at : BoardValue → Stage → List ℕ
stored_at from RaiseHead = event_of from ∷ []
stored_at from _ = []

-- a hand behind a moment: what it holds then, and what was accepted in it
pub record Behind (m : Moment) (h : Hand) (word : Option ℕ) (more : List ℕ) (behind : Hand) : Type 0 where
  pub holds : behind.word ≡ word
  pub keeps : KeepsHand m h behind
  pub exact : behind.accepted ≡ h.accepted ++ more

-- a word of HEAD, by the list of FRAM or by addresses
head_word : (xs : List ℕ) → word_in xs head_place ≡ fram_of xs head_place
head_word xs = refl

change_same : (was now : ℕ) → now ≡ was → change_ends was now ≡ []
change_same was now e = ap (λ (c : Bool). if c then [] else ChangesHead ∷ []) (eq-eqb now was e)

change_other : (was now : ℕ) → (now ≡ was → ⊥) → change_ends was now ≡ ChangesHead ∷ []
change_other was now ne = ap (λ (c : Bool). if c then [] else ChangesHead ∷ []) (ne_eqb now was ne)

-- the ends of a step that heard this, behind which HEAD is this
abbrev ends : Heard → ℕ → ℕ → Bool → List HandEnd
ends r was now returns = reads_of r ++ (change_ends was now ++ return_ends returns)

-- of a step that reads nothing and leaves HEAD
ends_quiet : (r : Heard) (was now : ℕ) (returns : Bool) → r ≡ heard.Nothing → now ≡ was → ends r was now returns ≡ return_ends returns
ends_quiet r was now returns none same =
    ap (λ (h : Heard). reads_of h ++ (change_ends was now ++ return_ends returns)) none ∙ ap (λ (l : List HandEnd). l ++ return_ends returns)
    (change_same was now same)

-- hands of which one lost and accepted no more
record SameHand (h k : Hand) : Type 0 where
  word : k.word ≡ h.word
  lost : k.lost ≡ h.lost
  accepted : k.accepted ≡ h.accepted

returned : (returns : Bool) (h : Hand) → h.word ≡ None → SameHand h (handed_all (return_ends returns) h)
returned true h none = record {
  word = sym none;
  lost = ap (λ (o : Option ℕ). h.lost + length (word_list o)) none ∙ (let e : h.lost + 0 ≡ h.lost = omega arith in e);
  accepted = refl;
}
returned false h none = record { word = refl; lost = refl; accepted = refl }

-- behind a step that does so
same_behind : (m : Moment) (h k : Hand) (word : Option ℕ) → h.word ≡ word → SameHand h k → Behind m h word [] k
same_behind m h k word is same = record {
  holds = same.word ∙ is;
  keeps = record { lost = inl same.lost; accepted = inl same.accepted };
  exact = same.accepted ∙ sym (append-nil h.accepted);
}

-- a step of this kind on a board
module _ (m : Moment) (kind : StepKind) (done : Stepped) (offered : Option ℕ) (is : m.action ≡ Execute kind done offered) (h : Hand) where
  abbrev was : ℕ
  was = word_in m.before.fram head_place

  abbrev now : ℕ
  now = word_in m.after.fram head_place

  hand_is : hand_behind (Some head_place) m h ≡ handed_all (ends done.heard was now (is_return kind)) h
  unfolding hand_behind
  hand_is = ap (λ (a : Action). handed_all (action_ends (Some head_place) a m.before.fram m.after.fram) h) is

  quiet_is : done.heard ≡ heard.Nothing → now ≡ was → hand_behind (Some head_place) m h ≡ handed_all (return_ends (is_return kind)) h
  quiet_is none same = hand_is ∙ ap (λ l. handed_all l h) (ends_quiet done.heard was now (is_return kind) none same)

  -- with nothing in hand
  empty_hand : done.heard ≡ heard.Nothing → now ≡ was → h.word ≡ None → Behind m h None [] (hand_behind (Some head_place) m h)
  empty_hand none same empty =
      let P : Hand → Type 0 = λ k. Behind m h None [] k in
      subst P (sym (quiet_is none same)) (same_behind m h _ None empty (returned (is_return kind) h empty))

  -- or with something, where it isn't a return
  full_hand : (word : Option ℕ) → done.heard ≡ heard.Nothing → now ≡ was → is_return kind ≡ false → h.word ≡ word
      → Behind m h word [] (hand_behind (Some head_place) m h)
  full_hand word none same plain holds =
      let P : Hand → Type 0 = λ k. Behind m h word [] k in
      subst P (sym (quiet_is none same ∙ ap (λ (c : Bool). handed_all (return_ends c) h) plain))
      (same_behind m h h word holds (record { word = refl; lost = refl; accepted = refl }))

-- the program's own instruction leaves HEAD and the ring
pub own_high : (b : BoardValue) (i : Instr) (done : Stepped) → (executed b i).answer ≡ Ok done → IsPrograms b i → (a : ℕ) → handler_place ≤ a
    → fram_of (at_boundary (executed b i).board).fram a ≡ fram_of b.fram a
own_high b i done answer own =
    let s = machine_with (looks_at b i) b in
    let fs = look_effects (looks_at b i) ++ effects_of b (executed b i) in
    let goes : code_executed s i ≡ Goes fs done.cycles (machine_with [] (executed b i).board) =
    own.step ∙ ap (λ y. outcome_of_answer fs (cycles_of i) y (machine_with [] (executed b i).board)) answer in
    let keeps : KeepsTheHandler s (Goes fs done.cycles (machine_with [] (executed b i).board)) =
    subst (λ (o : MachineOutcome). KeepsTheHandler s o) goes (code_keeps s i) in
    keeps

own_head : (b : BoardValue) (i : Instr) (done : Stepped) → (executed b i).answer ≡ Ok done → IsPrograms b i
    → word_in (at_boundary (executed b i).board).fram head_place ≡ word_in b.fram head_place
own_head b i done answer own = own_high b i done answer own head_place (omega arith)

raised_other : (n : ℕ) → n < 0x10000 → word_sum n 1 ≡ n → ⊥
raised_other n l e = omega (arith, l, e)

-- HEAD behind an instruction of the handler
pub no_slot : (index : ℕ) → head_place ≡ slot_place index → ⊥
no_slot index e = omega (arith, e)

pub event_head : (from : BoardValue) → with_event from head_place ≡ head_of from
event_head from = put_other (fram_of from.fram) (slot_place (head_of from)) (event_of from) head_place (no_slot (head_of from))

abbrev head_at : BoardValue → Option Stage → ℕ
head_at from None = fram_behind from head_place
head_at from (Some at) = fram_at from at head_place

behind_head : (from : BoardValue) (o : Option Stage) (b : BoardValue) → IsBehind from o b → word_in b.fram head_place ≡ head_at from o
behind_head from None b h = ap (λ f. f head_place) h.fram
behind_head from (Some at) b h = ap (λ f. f head_place) h.fram

either_head : (from : BoardValue) (c : Bool) → is_ring_full from ≡ c → head_at from (Some (if c then RestoreR5 else LoadHeadAgain)) ≡ head_of from
either_head from true e = ap (λ (c : Bool). (if c then fram_of from.fram else with_head_raised from) head_place) e
either_head from false e = refl

either_held : (from : BoardValue) (c : Bool) → is_ring_full from ≡ c → from.line.port ≡ held_at from (if c then RestoreR5 else LoadHeadAgain)
either_held from true e = sym (ap (λ (c : Bool). if c then from.line.port else None) e)
either_held from false e = refl

full_word : (port : Option ℕ) → is_full port ≡ true → word_list port ≡ port_word port ∷ []
full_word (Some w) e = refl
full_word None e = absurd cc

-- a step of the handler
module _ (from : BoardValue) (interrupted : IsInterrupted from) (b : BoardValue) (done : Stepped) (h : Hand) where
  abbrev full : Bool
  full = is_ring_full from

  abbrev moment : Stage → Moment
  moment at = moment_of b (next_step.Instruction (instruction_at at)) done

  abbrev after : Stage → BoardValue
  after at = at_boundary (executed b (instruction_at at)).board

  -- HEAD in front of it and behind it
  head_before : (at : Stage) → IsInHandler from at b → word_in b.fram head_place ≡ fram_at from at head_place
  head_before at inside = ap (λ f. f head_place) inside.fram

  -- one that reads nothing, leaves HEAD and doesn't return
  quiet : (at : Stage) (offered : Option ℕ) (word : Option ℕ) → IsInHandler from at b → IsBehind from (next_stage from at) (after at)
      → done.heard ≡ heard.Nothing → head_at from (next_stage from at) ≡ fram_at from at head_place
      → kind_of (next_step.Instruction (instruction_at at)) ≡ Plain → h.word ≡ word
      → Behind (moment at) h word [] (hand_behind (Some head_place) (moment at) h)
  quiet at offered word inside behind none same plain holds =
      full_hand (moment at) (kind_of (next_step.Instruction (instruction_at at))) done (executed b (instruction_at at)).offered refl h word none
      (behind_head from (next_stage from at) (after at) behind ∙ same ∙ sym (head_before at inside)) (ap is_return plain) holds

  -- the one that takes the event
  takes : IsInHandler from TakeEvent b → done.heard ≡ heard.Once from.line.port → IsBehind from (Some LoadHead) (after TakeEvent) → h.word ≡ None
      → Behind (moment TakeEvent) h from.line.port [] (hand_behind (Some head_place) (moment TakeEvent) h)
  takes inside once behind empty =
      let m = moment TakeEvent in
      let was = word_in b.fram head_place in
      let now = word_in (after TakeEvent).fram head_place in
      let same : now ≡ was = behind_head from (Some LoadHead) (after TakeEvent) behind ∙ sym (head_before TakeEvent inside) in
      let all : hand_behind (Some head_place) m h ≡ handed (Reads from.line.port) h =
      hand_is m Plain done (executed b (instruction_at TakeEvent)).offered refl h
      ∙ ap (λ (r : Heard). handed_all (ends r was now false) h) once
      ∙ ap (λ (l : List HandEnd). handed_all (Reads from.line.port ∷ (l ++ [])) h) (change_same was now same) in
      let lost : h.lost + length (word_list h.word) ≡ h.lost = ap (λ (o : Option ℕ). h.lost + length (word_list o)) empty
      ∙ (let e : h.lost + 0 ≡ h.lost = omega arith in e) in
      let P : Hand → Type 0 = λ k. Behind m h from.line.port [] k in
      subst P (sym all) (record { holds = refl; keeps = record { lost = inl lost; accepted = inl refl }; exact = sym (append-nil h.accepted) })

  -- the one that raises HEAD
  raises : IsInHandler from RaiseHead b → done.heard ≡ heard.Nothing → IsBehind from (Some RestoreR5) (after RaiseHead) → h.word ≡ from.line.port
      → Behind (moment RaiseHead) h (if full then from.line.port else None) (event_of from ∷ []) (hand_behind (Some head_place) (moment RaiseHead) h)
  raises inside none behind holds =
      let m = moment RaiseHead in
      let was = word_in b.fram head_place in
      let now = word_in (after RaiseHead).fram head_place in
      let room : is_ring_full from ≡ false = inside.knows in
      let before : was ≡ head_of from = head_before RaiseHead inside ∙ event_head from in
      let raised : fram_of (after RaiseHead).fram ≡ with_head_raised from =
      behind.fram ∙ ap (λ (c : Bool). if c then fram_of from.fram else with_head_raised from) room in
      let next : now ≡ word_sum (head_of from) 1 = ap (λ f. f head_place) raised ∙ put_same (with_event from) head_place (word_sum (head_of from) 1) in
      let small : head_of from < 0x10000 = (machine_is_of_words from interrupted.words).fram head_place in
      let other : now ≡ was → ⊥ = λ e. raised_other (head_of from) small (sym next ∙ e ∙ before) in
      let all : hand_behind (Some head_place) m h ≡ accepting h =
      hand_is m Plain done (executed b (instruction_at RaiseHead)).offered refl h
      ∙ ap (λ (r : Heard). handed_all (ends r was now false) h) none
      ∙ ap (λ (l : List HandEnd). handed_all (l ++ []) h) (change_other was now other) in
      let is_event : word_list h.word ≡ event_of from ∷ [] =
      ap word_list holds ∙ full_word from.line.port (and_parts (is_full from.line.port) _ interrupted.accepting).0 in
      let slot : fram_of (after RaiseHead).fram (slot_place (head_of b)) ≡ event_of from =
      ap (λ n. fram_of (after RaiseHead).fram (slot_place n)) before
      ∙ ap (λ f. f (slot_place (head_of from))) raised
      ∙ put_other (with_event from) head_place _ (slot_place (head_of from)) (λ e. no_slot (head_of from) (sym e))
      ∙ put_same (fram_of from.fram) (slot_place (head_of from)) (event_of from) in
      let P : Hand → Type 0 = λ k. Behind m h (if full then from.line.port else None) (event_of from ∷ []) k in
      subst P (sym all) (record {
        holds = sym (ap (λ (c : Bool). if c then from.line.port else None) room);
        keeps = record { lost = inl refl; accepted = inr (ap (λ l. h.accepted ++ l) (is_event ∙ ap (λ w. w ∷ []) (sym slot))) };
        exact = ap (λ l. h.accepted ++ l) is_event;
      })

  -- and the return
  returns_so : IsInHandler from Return b → done.heard ≡ heard.Nothing → IsBehind from None (after Return) → h.word ≡ (if full then from.line.port else None)
      → Behind (moment Return) h None [] (hand_behind (Some head_place) (moment Return) h)
  returns_so inside none behind holds =
      let m = moment Return in
      let same : word_in (after Return).fram head_place ≡ word_in b.fram head_place =
      behind_head from None (after Return) behind ∙ sym (head_before Return inside) in
      let all : hand_behind (Some head_place) m h ≡ losing h =
      quiet_is m Returning done (executed b (instruction_at Return)).offered refl h none same in
      let P : Hand → Type 0 = λ k. Behind m h None [] k in
      subst P (sym all) (record { holds = refl; keeps = record { lost = by full refl; accepted = inl refl }; exact = sym (append-nil h.accepted) })
    where
      by : (c : Bool) → is_ring_full from ≡ c → (h.lost + length (word_list h.word) ≡ h.lost) ⊎ (is_ring_full b ≡ true)
      by true e =
          let same : fram_of b.fram ≡ fram_of from.fram = inside.fram ∙ ap (λ (c : Bool). if c then fram_of from.fram else with_head_raised from) e in
          inr (ap (λ (f : ℕ → ℕ). word_difference (f head_place) (f tail_place) == ring_slots) same ∙ e)
      by false e =
          let empty : h.word ≡ None = holds ∙ ap (λ (c : Bool). if c then from.line.port else None) e in
          inl (ap (λ (o : Option ℕ). h.lost + length (word_list o)) empty ∙ (let n : h.lost + 0 ≡ h.lost = omega arith in n))

  stage_hand : (at : Stage) → IsInHandler from at b → done.heard ≡ heard_at from at → IsBehind from (next_stage from at) (after at) → h.word ≡ held_at from at
      → Behind (moment at) h (held (stage_behind from (next_stage from at))) (stored_at from at) (hand_behind (Some head_place) (moment at) h)
  stage_hand SaveR4 i q n w = quiet SaveR4 None None i n q refl refl w
  stage_hand SaveR5 i q n w = quiet SaveR5 None None i n q refl refl w
  stage_hand TakeEvent i q n w = takes i q n w
  stage_hand LoadHead i q n w = quiet LoadHead None from.line.port i n q refl refl w
  stage_hand SubtractTail i q n w = quiet SubtractTail None from.line.port i n q refl refl w
  stage_hand CompareRoom i q n w = quiet CompareRoom None from.line.port i n q refl refl w
  stage_hand LeaveIfFull i q n w =
      quiet LeaveIfFull None (held_at from (if full then RestoreR5 else LoadHeadAgain)) i n q (either_head from full refl) refl (w ∙ either_held from full refl)
  stage_hand LoadHeadAgain i q n w = quiet LoadHeadAgain None from.line.port i n q refl refl w
  stage_hand CutToSlots i q n w = quiet CutToSlots None from.line.port i n q refl refl w
  stage_hand DoubleIndex i q n w = quiet DoubleIndex None from.line.port i n q refl refl w
  stage_hand StoreWord i q n w = quiet StoreWord None from.line.port i n q (event_head from) refl w
  stage_hand RaiseHead i q n w = raises i q n w
  stage_hand RestoreR5 i q n w = quiet RestoreR5 None (if full then from.line.port else None) i n q refl refl w
  stage_hand RestoreR4 i q n w = quiet RestoreR4 None (if full then from.line.port else None) i n q refl refl w
  stage_hand Return i q n w = returns_so i q n w

-- a moment of a charge
module _ (on : PlacedProgram) (b : BoardValue) (m : Moment) (is : IsInstruction m.action) (silent : b.line.heard ≡ heard.Nothing) (h : Hand) where
  abbrev Hands : Moment → Option ℕ → List ℕ → Type 0
  Hands y word more = Behind y h word more (hand_behind (Some head_place) y h)

  own_hand : IsMomentFrom b m → is_handlers m ≡ false → h.word ≡ None → Hands m None []
  own_hand (PowersUp p ok e) own empty = absurd (no_power_up m (ap (λ (y : Moment). y.action) e) is)
  own_hand (Instructs i done c a programs e) own empty =
      let quiet : done.heard ≡ heard.Nothing =
      told_heard b (next_step.Instruction i) done a ∙ ap (λ q. q.heard) programs.line ∙ silent in
      subst (λ (y : Moment). Hands y None []) (sym e)
      (empty_hand (moment_of b (next_step.Instruction i) done) (kind_of (next_step.Instruction i)) done (executed b i).offered refl h quiet
      (own_head b i done a programs) empty)
  own_hand (Serves n done next a served e) own empty =
      let no : true ≡ false = sym served.handlers ∙ ap is_handlers (sym e) ∙ own in absurd cc

  -- what a move makes accepted
  abbrev pub stored_by : (s t : Option (BoardValue × Stage)) → Moves on b m s t → List ℕ
  stored_by _ _ (MovesOwn own) = []
  stored_by _ _ (MovesIn done interrupted inside quiet e) = []
  stored_by _ _ (MovesOn from at done interrupted inside read behind e) = stored_at from at

  pub moves_hand : (s t : Option (BoardValue × Stage)) (moves : Moves on b m s t) → IsMomentFrom b m → h.word ≡ held s → Hands m (held t) (stored_by s t moves)
  moves_hand _ _ (MovesOwn own) from empty = own_hand from own empty
  moves_hand _ _ (MovesIn done interrupted inside quiet e) from empty =
      subst (λ (y : Moment). Hands y None []) (sym e)
      (empty_hand (moment_of b next_step.Acceptance done) Accepting done (performed b next_step.Acceptance).offered refl h (quiet silent)
      (behind_head b (Some SaveR4) (at_boundary (performed b next_step.Acceptance).board) inside) empty)
  moves_hand _ _ (MovesOn from at done interrupted inside read behind e) start holds =
      subst (λ (y : Moment). Hands y (held (stage_behind from (next_stage from at))) (stored_at from at)) (sym e)
      (stage_hand from interrupted b done h at inside read behind holds)
