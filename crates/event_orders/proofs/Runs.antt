-- The order of a ring's words over whole runs.
use Rattle.std.proofs.Common.{◌≡◌, ◌≢◌, ◌+◌, ◌%◌, ◌≤◌, ◌<◌, ◌==◌, ◌⊎◌, inl, inr, if◌then◌else◌, arith, ℕ, zero, suc, refl, sym, ap, ap₂, ◌∙◌, subst, Bool}
use Rattle.std.proofs.Common.{true, false}
use Rattle.std.proofs.Common.{List, [], ◌∷◌, ◌++◌, append-nil, append_assoc, length, length-append, map, Option, Some, None, eqb-true, eq-eqb}
use Rattle.std.specs.Prelude.{flat_map, slice_get, Contains}
use Rattle.event_places.specs.Places.{handler_place, head_place, tail_place, count_place, sent_place, answer_place, ring_slots}
use Rattle.msp_step.specs.alp_words.Words.{word_sum, word_difference}
use Rattle.fram_board.specs.declared.events.Heard.TheVariants as heard
use Rattle.fram_board.specs.Board.{BoardValue}
use Rattle.fram_board.specs.Run.{Action, PowerUp, Execute, Moment, BoardCharge, RunOutcome, power_up_of}
use Rattle.board_run.specs.Events.{Hand, no_hand, hand_behind}
use Rattle.machine_effects.specs.World.{World}
use Rattle.machine_effects.specs.Inputs.{look_effects}
use Rattle.machine_effects.specs.Machine.{fram_of}
use Rattle.machine_effects.specs.View.{IsWhole, IsOfWords}
use Rattle.machine_effects.specs.Runs.{last_board}
use Rattle.machine_effects.proofs.Interface.{powered_heard, machine_is_of_words}
use Rattle.event_handler.specs.Handler.{Stage}
use Rattle.program_view.specs.Stands.{stage_of}
use Rattle.program_view.proofs.Interface.{steady_low}
use Rattle.crash_rules.specs.Model.{Marks, words_stored, answers_at, answers_in}
use Rattle.crash_rules.specs.History.{Done, History, observe, behind_boot, first_history}
use Rattle.crash_rules.specs.Runs.{Program}
use Rattle.crash_rules.proofs.Interface.{observed_world, world_fram}
use Rattle.run_charges.specs.View.{outside_of, outside_effects}
use Rattle.run_charges.specs.Moments.{AreMoments}
use Rattle.run_charges.specs.Charges.{AreInstructionMoments, behind_moment, observed}
use Rattle.run_charges.specs.Fronts.{ChargeFront, board_powered, board_behind, board_behind_all, moments_of, AreChargesFrom}
use Rattle.run_charges.proofs.Interface.{PlacedProgram, MoveOn, silent_behind, whole_behind, Ready, ready_on, reach, ready_behind, last_behind, front_charges}
use Rattle.run_charges.proofs.Interface.{run_front, placed_program, ready_there, programs_run, observed-append, running, are_behind}
use Rattle.event_rules.specs.Rings.{KeepsRing}
use Rattle.event_rules.specs.Taking.{Taking, Before, Open, SawHead, SawSlot, Took, Frozen, next_index, Follows, MomentFollows, EachFollows}
use Rattle.event_rules.proofs.Interface.{held, moves_hand, stored_by, after, after-append, power_up_empties, power_up_loses}
use Rattle.event_orders.specs.Answers.{not_zeros, AnswersInOrder}
use Rattle.event_orders.specs.Waiting.{words_from, first_index, waiting_in, words_behind, IsNextWord, IsAnswer, AnswersNone, AnswersNext, TakesInOrder}
use Rattle.event_orders.specs.Laws.{TakesEvents, IsInOrder, KeepsOrder, RingsKeepOrder}
use Rattle.event_orders.proofs.Window.{Stands, Window}
use Rattle.event_orders.proofs.Order.{account_of, answers_of, Fresh, Pending, Asked, Keeps, SeeRing, effects_advance, zeros_joined}
use Rattle.event_orders.proofs.Moments.{tells, looks_see, moves_leave}
use Rattle.event_orders.proofs.Looks.{SawAt, IsAnswered, step_saw, follows_split, answered_by, look_leaves, look_answers_none, saw_head, none_waited}
use Rattle.event_orders.proofs.Looks.{next_there, nothing_there}

-- the board behind one moment more
last_more : (b : BoardValue) (ms : List Moment) (m : Moment) → last_board b (ms ++ m ∷ []) ≡ m.after
last_more b [] m = refl
last_more b (x ∷ ms) m = last_more x.after ms m

-- ---- charge by charge

module _ (marks : Marks) (low : marks.gate < tail_place) (ans : marks.answer ≡ Some answer_place) (first : ℕ) (waiting : List ℕ) (start : BoardValue) where
  -- what holds of a board, where so much is known of it, and these were accepted
  abbrev pub Holds : Taking → BoardValue → History → List ℕ → Type 0
  Holds t b h ws = Keeps marks.gate first t (fram_of b.fram) (account_of marks h) (waiting ++ ws)

  -- behind these moments, in front of others
  record Over (t : Taking) (pre : List Moment) (b : BoardValue) (h : History) (hand : Hand) (rest : List Moment) : Type 0 where
    holds : Holds t b h hand.accepted
    told : (outside_of b).fram ≡ h.world.fram
    follows : EachFollows marks.gate t rest
    place : last_board start pre ≡ b
    saw : SawAt start pre t (outside_of b).fram

  -- steps of a charge
  record OverSteps (pre rest : List Moment) (s : Option (BoardValue × Stage)) (b : BoardValue) (h : History) (hand : Hand) : Type 0 where
    at : Taking
    word : hand.word ≡ held s
    over : Over at pre b h hand rest

  -- moments of instructions of a program, from a board that has read nothing of EVENT; from here on the handler has this in hand, and behind them that
  record Steps (on : PlacedProgram) (b : BoardValue) (ms : List Moment) (s t : Option (BoardValue × Stage)) : Type 0 where
    moves : MoveOn on b ms s t
    moments : AreMoments b ms
    instructions : AreInstructionMoments ms
    whole : IsWhole b
    words : IsOfWords b
    silent : b.line.heard ≡ heard.Nothing

  steps_keep : (on : PlacedProgram) (b : BoardValue) (ms rest : List Moment) (s t : Option (BoardValue × Stage)) → Steps on b ms s t
      → (h : History) (hand : Hand) → hand.word ≡ held s → (v : Taking) (pre : List Moment) → Over v pre b h hand (ms ++ rest)
      → OverSteps (pre ++ ms) rest t (last_board b ms) (observed marks ms h) (after ms hand)
  steps_keep on b [] rest s t steps h hand holds v pre over = record {
    at = v;
    word = holds ∙ ap held steps.moves;
    over = subst (λ l. Over v l b h hand rest) (sym (append-nil pre)) over;
  }
  steps_keep on b (m ∷ ms) rest s t steps h hand holds v pre over =
      let c = m.before in
      let moves = steps.moves in
      let are = steps.moments in
      let is = steps.instructions in
      let same : c ≡ b = are.0.same in
      let whole_there = subst IsWhole (sym same) steps.whole in
      let words_there = subst IsOfWords (sym same) steps.words in
      let here : c.line.heard ≡ heard.Nothing = subst (λ (y : BoardValue). y.line.heard ≡ heard.Nothing) (sym same) steps.silent in
      let next = whole_behind c m whole_there words_there are.1 in
      let one = moves_hand on c m is.0 here hand s moves.0 moves.1 are.1 holds in
      let before : Over v pre c h hand (m ∷ (ms ++ rest)) = subst (λ (y : BoardValue). Over v pre y h hand (m ∷ (ms ++ rest))) (sym same) over in
      let u = before.follows.0 in
      let leaves = moves_leave marks low ans first c m whole_there words_there is.0 are.1 on here hand refl h before.told (waiting ++ hand.accepted)
      s moves.0 moves.1 v u before.follows.1 before.holds in
      let k = behind_moment marks m h in
      let more = stored_by on c m is.0 here hand s moves.0 moves.1 in
      let joined : (waiting ++ hand.accepted) ++ more ≡ waiting ++ (hand_behind (Some head_place) m hand).accepted =
      append_assoc waiting hand.accepted more ∙ ap (λ l. waiting ++ l) (sym one.exact) in
      let behind : Over u (pre ++ m ∷ []) m.after k (hand_behind (Some head_place) m hand) (ms ++ rest) = record {
        holds = subst (λ l. Keeps marks.gate first u (fram_of m.after.fram) (account_of marks k) l) joined leaves.keeps;
        told = leaves.told;
        follows = before.follows.2;
        place = last_more start pre m;
        saw = step_saw marks.gate start pre m before.place is.0 whole_there words_there are.1 v u before.follows.1 before.saw;
      } in
      let others : Steps on m.after ms moves.0 t =
      record { moves = moves.2; moments = are.2; instructions = is.1; whole = next.0; words = next.1; silent = silent_behind c m are.1 } in
      let all = steps_keep on m.after ms rest moves.0 t others k (hand_behind (Some head_place) m hand) one.holds u (pre ++ m ∷ []) behind in
      subst (λ l. OverSteps l rest t (last_board m.after ms) (observed marks ms k) (after ms (hand_behind (Some head_place) m hand)))
      (append_assoc pre (m ∷ []) ms) all

  -- a power-up begins anew
  boots : (t : Taking) (ring : ℕ → ℕ) (h : History) (words : List ℕ) → Keeps marks.gate first t ring (account_of marks h) words
      → Keeps marks.gate first Before ring (account_of marks (behind_boot h)) words
  boots t ring h words k = by t k
    where
      none : not_zeros (account_of marks (behind_boot h)).asked ≡ []
      none = ap not_zeros (ap (λ o. answers_at o []) ans)

      asked : (t : Taking) → Asked marks.gate first t ring (account_of marks h) words → Fresh marks.gate first ring (account_of marks (behind_boot h)) words
      asked t k = record {
        done = k.done;
        left = k.taken ++ k.left;
        words_are = k.words_are;
        unpending = k.unpending;
        committed = k.committed;
        asked = none;
        tail = k.tail;
        window = k.window;
      }

      by : (t : Taking) → Keeps marks.gate first t ring (account_of marks h) words
          → Keeps marks.gate first Before ring (account_of marks (behind_boot h)) words
      by Before (inl k) = inl (record {
        done = k.done;
        left = k.left;
        words_are = k.words_are;
        unpending = k.unpending;
        committed = k.committed;
        asked = none;
        tail = k.tail;
        window = k.window;
      })
      by Before (inr k) = inr (record {
        done = k.done;
        left = k.left;
        words_are = k.words_are;
        closed = k.closed;
        committed = k.committed;
        sent = k.sent;
        window = k.window;
      })
      by Open k = inl (asked Open k)
      by (SawHead head) k = inl (asked (SawHead head) k)
      by (SawSlot head word) k = inl (asked (SawSlot head word) k)
      by Took k = inl (asked Took k)
      by Frozen k = inl (asked Frozen k)

  record OverCharges (pre rest : List Moment) (b : BoardValue) (h : History) (hand : Hand) : Type 0 where
    at : Taking
    over : Over at pre b h hand rest

  charges_keep : (on : PlacedProgram) → on.marks ≡ marks → (b : BoardValue) (h : History) (fs : List ChargeFront) (rest : List Moment) → Ready on b h
      → AreChargesFrom b fs → (hand : Hand) (v : Taking) (pre : List Moment) → Over v pre b h hand (moments_of fs ++ rest)
      → OverCharges (pre ++ moments_of fs) rest (board_behind_all b fs) (observed marks (moments_of fs) h) (after (moments_of fs) hand)
  charges_keep on same b h [] rest ready all hand v pre over = record {
    at = v;
    over = subst (λ l. Over v l b h hand rest) (sym (append-nil pre)) over;
  }
  charges_keep on same b h (f ∷ fs) rest ready all hand v pre over =
      let c = all.0 in
      let ms = f.instructions in
      let here = ready_on on b f.before h c.follows ready in
      let own = reach on f.before h here f.start c.start ms c.instructions c.moments in
      let boot = power_up_of f.before f.start in
      let up = hand_behind (Some head_place) boot hand in
      let accepted : up.accepted ≡ hand.accepted = ap (λ (y : Hand). y.accepted) (power_up_loses f.before f.start hand) in
      let run = running on f.before h here f.start c.start in
      let begun : Holds Before (board_powered f) (behind_boot h) up.accepted =
      subst (λ l. Holds Before (board_powered f) (behind_boot h) l) (sym accepted)
      (subst (λ (y : BoardValue). Holds Before y (behind_boot h) hand.accepted) (sym c.follows.same)
      (boots v (fram_of b.fram) h (waiting ++ hand.accepted) over.holds)) in
      let told : (outside_of (board_powered f)).fram ≡ h.world.fram =
      ap (λ (y : BoardValue). (outside_of y).fram) c.follows.same ∙ over.told in
      let follows : EachFollows marks.gate Before (ms ++ (moments_of fs ++ rest)) =
      subst (λ l. EachFollows marks.gate Before l) (append_assoc ms (moments_of fs) rest)
      (subst (λ t. EachFollows marks.gate t ((ms ++ moments_of fs) ++ rest)) over.follows.1 over.follows.2) in
      let behind : Over Before (pre ++ boot ∷ []) (board_powered f) (behind_boot h) up (ms ++ (moments_of fs ++ rest)) =
      record { holds = begun; told = told; follows = follows; place = last_more start pre boot; saw = tt } in
      let made : Steps on (board_powered f) ms None (stage_of own.end.stands) = record {
        moves = own.moves;
        moments = c.moments;
        instructions = c.instructions;
        whole = run.whole;
        words = run.words;
        silent = powered_heard f.before f.start;
      } in
      let steps = steps_keep on (board_powered f) ms (moments_of fs ++ rest) None (stage_of own.end.stands) made (behind_boot h) up
      (power_up_empties f.before f.start hand) Before (pre ++ boot ∷ []) behind in
      let k = observed marks ms (behind_boot h) in
      let ready_next : Ready on (board_behind f) k =
      subst (λ (n : Marks). Ready on (board_behind f) (observed n ms (behind_boot h))) same
      (ready_behind on f.before h here f.start c.start ms c.instructions c.moments) in
      let last = charges_keep on same (board_behind f) k fs rest ready_next all.1 (after ms up) steps.at ((pre ++ boot ∷ []) ++ ms) steps.over in
      let all_moments : ((pre ++ boot ∷ []) ++ ms) ++ moments_of fs ≡ pre ++ (boot ∷ (ms ++ moments_of fs)) =
      append_assoc (pre ++ boot ∷ []) ms (moments_of fs) ∙ append_assoc pre (boot ∷ []) (ms ++ moments_of fs) in
      let histories : observed marks (moments_of fs) k ≡ observed marks (ms ++ moments_of fs) (behind_boot h) =
      sym (observed-append marks ms (moments_of fs) (behind_boot h)) in
      let hands : after (moments_of fs) (after ms up) ≡ after (ms ++ moments_of fs) up = sym (after-append ms (moments_of fs) up) in
      let P : List Moment → History → Hand → Type 0 = λ l j y. OverCharges l rest (board_behind_all (board_behind f) fs) j y in
      subst (λ l. P l (observed marks (ms ++ moments_of fs) (behind_boot h)) (after (ms ++ moments_of fs) up)) all_moments
      (subst (λ j. P (((pre ++ boot ∷ []) ++ ms) ++ moments_of fs) j (after (ms ++ moments_of fs) up)) histories
      (subst (λ y. P (((pre ++ boot ∷ []) ++ ms) ++ moments_of fs) (observed marks (moments_of fs) k) y) hands last))

-- ---- how it begins

-- words of a ring from an index on stand in it
words_stand : (f : ℕ → ℕ) (i n : ℕ) → Stands f i (words_from f i n)
words_stand f i zero = tt
words_stand f i (suc n) = (refl, words_stand f (i + 1) n)

words_long : (f : ℕ → ℕ) (i n : ℕ) → length (words_from f i n) ≡ n
words_long f i zero = refl
words_long f i (suc n) = ap suc (words_long f (i + 1) n)

module _ (f : ℕ → ℕ) (words : (a : ℕ) → f a < 0x10000) (gate : ℕ) (ring : KeepsRing gate f) where
  head_there : (i : ℕ) → i < 0x10000 → f head_place ≡ ((i + 0) + length (words_from f i (word_difference (f head_place) i))) % 0x10000
  head_there i small =
      let long = words_long f i (word_difference (f head_place) i) in
      let head = words head_place in
      omega (arith, long, head, small)

  window_there : (i : ℕ) → i < 0x10000 → word_difference (f head_place) i ≤ word_difference (f head_place) (f tail_place)
      → Window f (f tail_place) (i + 0) (words_from f i (word_difference (f head_place) i))
  window_there i small near =
      let n = word_difference (f head_place) i in
      let long = words_long f i n in
      let e : i ≡ i + 0 = omega arith in
      record {
        stands = subst (λ j. Stands f j (words_from f i n)) e (words_stand f i n);
        head = head_there i small;
        near = omega (arith, long, near);
        room = ring.head;
      }

  -- what waits behind SE is no more than what waits behind TAIL
  sent_near : f gate ≡ 1 → word_difference (f head_place) (f sent_place) ≤ word_difference (f head_place) (f tail_place)
  sent_near one =
      let sent = ring.sent one in
      let a = words head_place in
      let b = words tail_place in
      let c = words sent_place in
      omega (arith, sent, a, b, c)

-- the ring at first
module _ (marks : Marks) (low : marks.gate < tail_place) (ans : marks.answer ≡ Some answer_place) (b : BoardValue) (words : IsOfWords b) (x : World)
    (fram : x.fram ≡ (outside_of b).fram) (ring : KeepsRing marks.gate (fram_of b.fram)) where
  abbrev f : ℕ → ℕ
  f = fram_of b.fram

  abbrev gate : ℕ
  gate = marks.gate

  abbrev first : ℕ
  first = first_index gate f

  abbrev waiting : List ℕ
  waiting = waiting_in gate f

  small : (a : ℕ) → f a < 0x10000
  small a = (machine_is_of_words b words).fram a

  -- a word in front of the handler is as the program sees it
  pub seen_low : (a : ℕ) → a < handler_place → (outside_of b).fram a ≡ f a
  seen_low a l = steady_low f a l

  as_told : (a : ℕ) → a < handler_place → x.fram a ≡ f a
  as_told a l = ap (λ (g : ℕ → ℕ). g a) fram ∙ seen_low a l

  none_asked : not_zeros (answers_in marks []) ≡ []
  none_asked = ap not_zeros (ap (λ o. answers_at o []) ans)

  at_first : Keeps gate first Before f (account_of marks (first_history marks x)) (waiting ++ [])
  at_first = by (f gate == 1) refl
    where
      from_gate : x.fram gate ≡ f gate
      from_gate = as_told gate (omega (arith, low))

      by : (c : Bool) → (f gate == 1) ≡ c → Keeps gate first Before f (account_of marks (first_history marks x)) (waiting ++ [])
      by true e =
          let one : f gate ≡ 1 = eqb-true (f gate) 1 e in
          let is : first ≡ f sent_place = ap (λ c. if c then f sent_place else f tail_place) e in
          let at : x.fram sent_place ≡ f sent_place = as_told sent_place (omega arith) in
          let low_sent = small sent_place in
          let P : ℕ → Type 0 = λ i. Window f (x.fram tail_place) (i + 0) (words_from f i (word_difference (f head_place) i)) in
          inr (record {
            done = [];
            left = waiting;
            words_are = append-nil waiting;
            closed = from_gate ∙ one;
            committed = refl;
            sent = at ∙ (let s : f sent_place ≡ (first + 0) % 0x10000 = omega (arith, is, low_sent) in s);
            window = subst P (sym is) (subst (λ t. Window f t (f sent_place + 0) (words_from f (f sent_place) (word_difference (f head_place) (f sent_place))))
                (sym (as_told tail_place (omega arith))) (window_there f small gate ring (f sent_place) low_sent (sent_near f small gate ring one)));
          })
      by false e =
          let other : f gate ≢ 1 = λ one. let yes = eq-eqb (f gate) 1 one in absurd (cc (yes, e)) in
          let is : first ≡ f tail_place = ap (λ c. if c then f sent_place else f tail_place) e in
          let at : x.fram tail_place ≡ f tail_place = as_told tail_place (omega arith) in
          let low_tail = small tail_place in
          let P : ℕ → Type 0 = λ i. Window f (x.fram tail_place) (i + 0) (words_from f i (word_difference (f head_place) i)) in
          inl (record {
            done = [];
            left = waiting;
            words_are = append-nil waiting;
            unpending = λ one. other (sym from_gate ∙ one);
            committed = refl;
            asked = none_asked;
            tail = at ∙ (let s : f tail_place ≡ (first + 0) % 0x10000 = omega (arith, is, low_tail) in s);
            window = subst P (sym is) (subst (λ t. Window f t (f tail_place + 0) (words_from f (f tail_place) (word_difference (f head_place) (f tail_place))))
                (sym at) (window_there f small gate ring (f tail_place) low_tail (omega arith)));
          })

-- ---- what it tells at the end

-- the lists of answers, joined
joined_answers : (ds : List Done) → flat_map (λ (l : List ℕ). l) (map (λ (d : Done). d.answers) ds) ≡ answers_of ds
joined_answers [] = refl
joined_answers (d ∷ ds) = ap (λ l. d.answers ++ l) (joined_answers ds)

module _ (marks : Marks) (low : marks.gate < tail_place) (first : ℕ) (b : BoardValue) (h : History) (told : (outside_of b).fram ≡ h.world.fram)
    (words : List ℕ) where
  abbrev ring : ℕ → ℕ
  ring = fram_of b.fram

  tells_low : (a : ℕ) → a < handler_place → h.world.fram a ≡ ring a
  tells_low a l = ap (λ (g : ℕ → ℕ). g a) (sym told) ∙ steady_low ring a l

  abbrev answers : List (List ℕ)
  answers = map (λ (d : Done). d.answers) h.completed

  room_there : (i : ℕ) (ws : List ℕ) → Window ring (h.world.fram tail_place) i ws → word_difference (ring head_place) (ring tail_place) ≤ ring_slots
  room_there i ws w = subst (λ t. word_difference (ring head_place) t ≤ ring_slots) (tells_low tail_place (omega arith)) w.room

  open_ring : (i : ℕ) (ws : List ℕ) → Window ring (h.world.fram tail_place) i ws → (h.world.fram marks.gate ≢ 1) → KeepsRing marks.gate ring
  open_ring i ws w unpending = record { head = room_there i ws w; sent = λ one. absurd (unpending (tells_low marks.gate (omega (arith, low)) ∙ one)) }

  -- where a commit is pending SE is among those that wait
  sent_between : (h0 t s i n : ℕ) → h0 ≡ (i + n) % 0x10000 → s ≡ i % 0x10000 → n ≤ word_difference h0 t → word_difference h0 t ≤ ring_slots
      → word_difference s t ≤ word_difference h0 t
  sent_between h0 t s i n head sent near room = omega (arith, head, sent, near, room)

  closed_ring : Pending marks.gate first ring (account_of marks h) words → KeepsRing marks.gate ring
  closed_ring k =
      let i = first + length k.done in
      let w = k.window in
      let tail = tells_low tail_place (omega arith) in
      let sent : ring sent_place ≡ i % 0x10000 = sym (tells_low sent_place (omega arith)) ∙ k.sent in
      let near : length k.left ≤ word_difference (ring head_place) (ring tail_place) =
      subst (λ t. length k.left ≤ word_difference (ring head_place) t) tail w.near in
      record {
        head = room_there i k.left w;
        sent = λ one. sent_between (ring head_place) (ring tail_place) (ring sent_place) i (length k.left) w.head sent near (room_there i k.left w);
      }

  ring_there : (t : Taking) → Keeps marks.gate first t ring (account_of marks h) words → KeepsRing marks.gate ring
  ring_there Before (inl k) = open_ring _ _ k.window k.unpending
  ring_there Before (inr k) = closed_ring k
  ring_there Open k = open_ring _ _ k.window k.unpending
  ring_there (SawHead head) k = open_ring _ _ k.window k.unpending
  ring_there (SawSlot head word) k = open_ring _ _ k.window k.unpending
  ring_there Took k = open_ring _ _ k.window k.unpending
  ring_there Frozen k = open_ring _ _ k.window k.unpending

  -- the answers of the dones are the first
  first_of : (done more : List ℕ) → words ≡ done ++ more → not_zeros (answers_of h.completed) ≡ not_zeros done → AnswersInOrder answers words
  first_of done more are committed = record {
    waiting = not_zeros more;
    joined = ap (λ l. not_zeros l ++ not_zeros more) (joined_answers h.completed) ∙ ap (λ l. l ++ not_zeros more) committed
        ∙ sym (zeros_joined done more) ∙ ap not_zeros (sym are);
  }

  closed_answers : Pending marks.gate first ring (account_of marks h) words → AnswersInOrder answers words
  closed_answers k = record {
    waiting = not_zeros h.answers ++ not_zeros k.left;
    joined = ap (λ l. not_zeros l ++ (not_zeros h.answers ++ not_zeros k.left)) (joined_answers h.completed)
        ∙ sym (append_assoc (not_zeros (answers_of h.completed)) (not_zeros h.answers) (not_zeros k.left))
        ∙ ap (λ l. l ++ not_zeros k.left) k.committed ∙ sym (zeros_joined k.done k.left) ∙ ap not_zeros (sym k.words_are);
  }

  answers_there : (t : Taking) → Keeps marks.gate first t ring (account_of marks h) words → AnswersInOrder answers words
  answers_there Before (inl k) = first_of k.done k.left k.words_are k.committed
  answers_there Before (inr k) = closed_answers k
  answers_there Open k = first_of k.done _ k.words_are k.committed
  answers_there (SawHead head) k = first_of k.done _ k.words_are k.committed
  answers_there (SawSlot head word) k = first_of k.done _ k.words_are k.committed
  answers_there Took k = first_of k.done _ k.words_are k.committed
  answers_there Frozen k = first_of k.done _ k.words_are k.committed

-- ---- a run

module _ (c : Program) (marks : Marks) (x : World) (cs : List BoardCharge) (b : BoardValue) (r : RunOutcome) (of : TakesEvents c marks x cs b r) where
  abbrev from : ℕ
  from = first_index marks.gate (fram_of b.fram)

  abbrev waited : List ℕ
  waited = waiting_in marks.gate (fram_of b.fram)

  abbrev start : History
  start = first_history marks x

  record There (ms rest : List Moment) (t : BoardValue) : Type 0 where
    at : Taking
    holds : Holds marks of.gate of.answer from waited b at t (observed marks ms start) (after ms no_hand).accepted
    told : (outside_of t).fram ≡ (observed marks ms start).world.fram
    follows : EachFollows marks.gate at rest
    saw : SawAt b ms at (outside_of t).fram

  there : (ms rest : List Moment) → r.moments ≡ ms ++ rest → There ms rest (last_board b ms)
  there ms rest e =
      let on = placed_program c marks b start of.stands in
      let ready = ready_there c marks b start of.stands cs r of.run in
      let all = front_charges b ms (run_front cs b r ms rest (programs_run c cs b r of.run marks start of.stands) e) in
      let place : last_board b ms ≡ board_behind_all b all.charges = ap (last_board b) all.moments ∙ last_behind b all.charges in
      let follows : EachFollows marks.gate Before (moments_of all.charges ++ rest) =
      subst (λ l. EachFollows marks.gate Before (l ++ rest)) all.moments (subst (λ l. EachFollows marks.gate Before l) e of.follows) in
      let begun = at_first marks of.gate of.answer b of.run.words x of.fram of.ring in
      let end = charges_keep marks of.gate of.answer from waited b on refl b start all.charges rest ready all.follow no_hand Before []
      (record { holds = begun; told = sym of.fram; follows = follows; place = refl; saw = tt }) in
      subst (λ t. There ms rest t) (sym place) (subst (λ l. There l rest (board_behind_all b all.charges)) (sym all.moments) (record {
        at = end.at;
        holds = end.over.holds;
        told = end.over.told;
        follows = end.over.follows;
        saw = end.over.saw;
      }))

  front_in_order : (ms rest : List Moment) → r.moments ≡ ms ++ rest → IsInOrder marks x b ms
  front_in_order ms rest e =
      let t = there ms rest e in
      let k = observed marks ms start in
      let words = words_behind marks.gate b ms in
      record {
        ring = ring_there marks of.gate from (last_board b ms) k t.told words t.at t.holds;
        answers = answers_there marks of.gate from (last_board b ms) k t.told words t.at t.holds;
      }

  -- ---- answers

  -- the word that an open look at a slot has seen is the next one
  is_next : (ms : List Moment) (h : History) → h.world.fram ≡ (outside_of (last_board b ms)).fram → (head word : ℕ)
      → Keeps marks.gate from (SawSlot head word) (fram_of (last_board b ms).fram) (account_of marks h) (words_behind marks.gate b ms)
      → next_index h.world.fram ≢ head → IsNextWord marks.gate b ms word
  is_next ms h told head word k other =
      let f : ℕ → ℕ = fram_of (last_board b ms).fram in
      let next = k.knows.1 other in
      let words = words_behind marks.gate b ms in
      let front = k.done ++ k.taken in
      let are : words ≡ front ++ (word ∷ next.0) =
      k.words_are ∙ ap (λ l. k.done ++ (k.taken ++ l)) next.1 ∙ sym (append_assoc k.done k.taken (word ∷ next.0)) in
      let long : length front ≡ length k.done + length k.taken = length-append k.done k.taken in
      let all : length words ≡ length front + length (word ∷ next.0) = ap length are ∙ length-append front (word ∷ next.0) in
      let wait : length (k.taken ++ k.left) ≡ length k.taken + length k.left = length-append k.taken k.left in
      let left : length k.left ≡ length (word ∷ next.0) = ap length next.1 in
      let near = k.window.near in
      let room = k.window.room in
      let tail = k.tail in
      let count = k.knows.0 in
      let seen : next_index f ≡ next_index h.world.fram =
      ap₂ (λ t c. word_sum t c) (sym (ap (λ (g : ℕ → ℕ). g tail_place) told ∙ steady_low f tail_place (omega arith)))
      (sym (ap (λ (g : ℕ → ℕ). g count_place) told ∙ steady_low f count_place (omega arith))) in
      record {
        number = length front;
        word = ap (λ l. slice_get l (length front)) are ∙ next_there front next.0 word;
        index = (let e : (from + length front) % 0x10000 ≡ next_index h.world.fram = omega (arith, long, tail, count) in e) ∙ sym seen;
        last = omega (arith, all, wait, left, near, room);
      }

  -- a step answers so
  step_answers : (ms rest : List Moment) (m : Moment) → There ms (m ∷ rest) (last_board b ms) → m.before ≡ last_board b ms → (t u : Taking)
      → Holds marks of.gate of.answer from waited b t (last_board b ms) (observed marks ms start) (after ms no_hand).accepted
      → SawAt b ms t (outside_of (last_board b ms)).fram → Follows marks.gate (outside_of m.before).fram t (outside_effects m) u
      → (w : ℕ) → Contains (words_stored answer_place (outside_effects m)) w → IsAnswer marks.gate b ms w
  step_answers ms rest m there same t u holds saw follows w stored =
      let told = tells m in
      let c = last_board b ms in
      let f : ℕ → ℕ = (outside_of c).fram in
      let h = observed marks ms start in
      let es = look_effects told.looks in
      let all : Follows marks.gate f t (es ++ told.acts) u =
      subst (λ (y : BoardValue). Follows marks.gate (outside_of y).fram t (es ++ told.acts) u) same
      (subst (λ l. Follows marks.gate (outside_of m.before).fram t l u) told.are follows) in
      let seen : (told.looks ≡ []) ⊎ (told.looks ≡ fram_of c.fram ∷ []) =
      subst (λ (y : BoardValue). (told.looks ≡ []) ⊎ (told.looks ≡ fram_of y.fram ∷ [])) same told.seen in
      let parts = follows_split marks.gate f t u es told.acts all in
      let acts : Follows marks.gate f parts.0 told.acts u =
      subst (λ (g : ℕ → ℕ). Follows marks.gate g parts.0 told.acts u) (look_leaves marks.gate of.gate told.looks f) parts.2 in
      let answered = answered_by marks.gate of.gate f parts.0 u told.acts told.none acts w
      (subst (λ l. Contains l w) (ap (words_stored answer_place) told.are ∙ look_answers_none marks.gate of.gate told.looks told.acts) stored) in
      let sees = looks_see marks of.gate of.answer from (fram_of c.fram) (words_behind marks.gate b ms) told.looks [] seen tt in
      let sees_all : SeeRing marks of.gate of.answer from (fram_of c.fram) (words_behind marks.gate b ms) es =
      subst (λ l. SeeRing marks of.gate of.answer from (fram_of c.fram) (words_behind marks.gate b ms) l) (append-nil es) sees in
      let kept =
      effects_advance marks of.gate of.answer from (fram_of c.fram) (words_behind marks.gate b ms) h f t parts.0 es there.told parts.1 sees_all holds in
      by parts.0 parts.1 kept answered
    where
      by : (v : Taking) → Follows marks.gate (outside_of (last_board b ms)).fram t (look_effects (tells m).looks) v
          → Keeps marks.gate from v (fram_of (last_board b ms).fram) (account_of marks (observe marks (look_effects (tells m).looks) (observed marks ms start)))
          (words_behind marks.gate b ms)
          → IsAnswered v (outside_of (last_board b ms)).fram w → IsAnswer marks.gate b ms w
      by Before looks kept a = absurd a
      by Open looks kept a = absurd a
      by (SawHead head) looks kept a = absurd a
      by Took looks kept a = absurd a
      by Frozen looks kept a = absurd a
      by (SawSlot head word) looks kept (inl none) =
          AnswersNone none.1 (none_waited b ms head (outside_of (last_board b ms)).fram none.0
          (saw_head marks.gate of.gate b ms (outside_of (last_board b ms)).fram (tells m).looks t head word looks saw))
      by (SawSlot head word) looks kept (inr some) =
          let h = observe marks (look_effects (tells m).looks) (observed marks ms start) in
          let world : h.world.fram ≡ (outside_of (last_board b ms)).fram =
          ap (λ (x : World). x.fram) (observed_world marks (look_effects (tells m).looks) (observed marks ms start))
          ∙ world_fram (look_effects (tells m).looks) (observed marks ms start).world
          ∙ look_leaves marks.gate of.gate (tells m).looks (observed marks ms start).world.fram ∙ sym there.told in
          let other : next_index h.world.fram ≢ head = λ e. some.0 (sym (ap next_index world) ∙ e) in
          AnswersNext (subst (λ v. IsNextWord marks.gate b ms v) (sym some.1) (is_next ms h world head word kept other))

  no_power_up_answers : (m : Moment) → m.action ≡ PowerUp → outside_effects m ≡ []
  no_power_up_answers m e = ap (λ (a : Action). outside_effects (record { action = a; before = m.before; after = m.after })) e

  takes : TakesInOrder marks.gate b r.moments
  takes ms m rest e w stored =
      let t = there ms (m ∷ rest) e in
      let are = are_behind b ms (m ∷ rest) (subst (λ l. AreMoments b l) e (programs_run c cs b r of.run marks start of.stands).moments) in
      by t are.0.same m.action refl t.follows.1
    where
      by : (t : There ms (m ∷ rest) (last_board b ms)) → m.before ≡ last_board b ms → (a : Action) → m.action ≡ a
          → MomentFollows marks.gate a m t.at t.follows.0 → IsAnswer marks.gate b ms w
      by t same PowerUp is follows = absurd (nothing_there _ w (ap (words_stored answer_place) (no_power_up_answers m is)) stored)
      by t same (Execute kind done offered) is follows = step_answers ms rest m t same t.at t.follows.0 t.holds t.saw follows w stored

  in_order : KeepsOrder marks x b r
  in_order = record { fronts = front_in_order; takes = takes }

pub rings_keep_order : (c : Program) → RingsKeepOrder c
rings_keep_order c marks x cs b r of = in_order c marks x cs b r of
