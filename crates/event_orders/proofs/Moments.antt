-- The words of the ring over the moments of a charge: the handler's, which bring words, and the program's, which take them.
use Rattle.std.proofs.Common.{◌≡◌, ◌+◌, ◌≤◌, ◌<◌, ◌==◌, ◌⊎◌, inl, inr, if◌then◌else◌, arith, ℕ, refl, sym, ap, ◌∙◌, subst, Bool, true, false}
use Rattle.std.proofs.Common.{List, [], ◌∷◌, ◌++◌, append-nil, append_assoc, length, length-append, Option, Some, None, Ok, Err, Result, map}
use Rattle.event_places.specs.Places.{handler_place, head_place, tail_place, answer_place, ring_slots, slot_place}
use Rattle.msp_step.specs.alp_words.Words.{word_sum, word_difference}
use Rattle.msp_step.specs.Registers.{registers_of}
use Rattle.msp_step.specs.Step.{return_place, status_place}
use Rattle.msp_step.specs.declared.machine.Stop.{Stop}
use Rattle.fram_board.specs.declared.board.NextStep.TheVariants as next_step
use Rattle.fram_board.specs.declared.events.Heard.TheVariants as heard
use Rattle.fram_board.specs.declared.board.Stepped.{Stepped}
use Rattle.fram_board.specs.Board.{BoardValue, BoardOutcome, executed, at_boundary}
use Rattle.fram_board.specs.Effects.{Effect, Store, Take, Outside, Offered, Looked, effects_of, takes_of, stores_of, store_at, sends_of}
use Rattle.fram_board.specs.Effects.{store_of}
use Rattle.fram_board.specs.Bus.{is_fram}
use Rattle.std.specs.List.{slice_range}
use Rattle.fram_board.specs.Run.{StepKind, Accepting, Returning, Plain, Action, PowerUp, Execute, Moment, moment_of}
use Rattle.board_run.specs.Events.{Hand}
use Rattle.machine_effects.specs.World.{World, Look, put, fram_after}
use Rattle.machine_effects.specs.Inputs.{look_effects}
use Rattle.machine_effects.specs.Machine.{fram_of}
use Rattle.machine_effects.specs.View.{IsWhole, IsOfWords}
use Rattle.machine_effects.specs.Runs.{step_effects, action_effects}
use Rattle.machine_effects.proofs.Interface.{put_other, put_same, machine_is_of_words}
use Rattle.event_handler.specs.Handler.{Stage, SaveR4, SaveR5, TakeEvent, LoadHead, SubtractTail, CompareRoom, LeaveIfFull, LoadHeadAgain, CutToSlots}
use Rattle.event_handler.specs.Handler.{DoubleIndex, StoreWord, RaiseHead, RestoreR5, RestoreR4, Return, instruction_at}
use Rattle.event_handler.specs.Boundaries.{IsInHandler, IsBehind, next_stage, is_ring_full, head_of, tail_of, event_of, fram_at, with_event}
use Rattle.event_handler.specs.Boundaries.{with_head_raised}
use Rattle.program_view.proofs.Interface.{handler_is_high}
use Rattle.crash_rules.specs.Model.{Marks}
use Rattle.crash_rules.specs.History.{History, observe}
use Rattle.crash_rules.proofs.Interface.{observed_world, world_fram}
use Rattle.run_charges.specs.View.{outside_of, is_handlers, looks_by, outside_effects}
use Rattle.run_charges.specs.Moments.{IsMomentFrom, PowersUp, Instructs, Serves}
use Rattle.run_charges.specs.Charges.{IsInstruction, behind_action, behind_moment}
use Rattle.run_charges.proofs.Interface.{PlacedProgram, Moves, MovesOwn, MovesIn, MovesOn, moment_is, IsPower, IsStepped}
use Rattle.run_charges.proofs.Interface.{IsPowerOrStep, no_power_up}
use Rattle.event_rules.specs.Taking.{Taking, Before, Open, SawHead, SawSlot, Took, Frozen, Follows, MomentFollows}
use Rattle.event_rules.proofs.Interface.{stored_at, stored_by, own_high, event_head, fram_next, next_fram, either_fram, after}
use Rattle.event_orders.proofs.Window.{Window, window_same, stores_word, raises_head}
use Rattle.event_orders.proofs.Order.{Account, account_of, Fresh, Pending, Asked, Knows, Keeps, SeeRing, effects_advance}

-- ---- what the handler brings

-- from one board to another these words come behind those that wait
abbrev Brings : BoardValue → BoardValue → List ℕ → Type 0
Brings b c more = (tail i : ℕ) (ws : List ℕ) → tail ≡ fram_of b.fram tail_place → Window (fram_of b.fram) tail i ws
    → Window (fram_of c.fram) tail i (ws ++ more)

-- none
brings_none : (b c : BoardValue) → ((a : ℕ) → handler_place ≤ a → fram_of c.fram a ≡ fram_of b.fram a) → Brings b c []
brings_none b c same tail i ws is w =
    subst (λ (l : List ℕ). Window (fram_of c.fram) tail i l) (sym (append-nil ws)) (window_same (fram_of b.fram) (fram_of c.fram) tail i ws same w)

-- a step of the handler
module _ (from : BoardValue) (b c : BoardValue) where
  quiet : (at : Stage) → IsInHandler from at b → IsBehind from (next_stage from at) c → fram_next from (next_stage from at) ≡ fram_at from at
      → Brings b c []
  quiet at inside behind same =
      let fram : fram_of c.fram ≡ fram_of b.fram = next_fram from (next_stage from at) c behind ∙ same ∙ sym inside.fram in
      brings_none b c (λ a l. ap (λ f. f a) fram)

  -- the ring isn't full, as HEAD and TAIL are
  not_full : (f : ℕ → ℕ) (tail : ℕ) → f head_place ≡ head_of from → f tail_place ≡ tail_of from → tail ≡ f tail_place → is_ring_full from ≡ false
      → (word_difference (f head_place) tail == ring_slots) ≡ false
  not_full f tail head at is room =
      ap (λ h. word_difference h tail == ring_slots) head ∙ ap (λ t. word_difference (head_of from) t == ring_slots) (is ∙ at) ∙ room

  stores : IsInHandler from StoreWord b → IsBehind from (Some RaiseHead) c → Brings b c []
  stores inside behind tail i ws is w =
      let f : ℕ → ℕ = fram_of from.fram in
      let same : fram_of b.fram ≡ f = inside.fram in
      let full = not_full f tail refl refl (is ∙ ap (λ g. g tail_place) same) inside.knows in
      let here : Window f tail i ws = subst (λ g. Window g tail i ws) same w in
      subst (λ (l : List ℕ). Window (fram_of c.fram) tail i l) (sym (append-nil ws))
      (subst (λ g. Window g tail i ws) (sym behind.fram) (stores_word f tail i (event_of from) ws full here))

  raises : IsInHandler from RaiseHead b → IsBehind from (Some RestoreR5) c → Brings b c (event_of from ∷ [])
  raises inside behind tail i ws is w =
      let f : ℕ → ℕ = with_event from in
      let room : is_ring_full from ≡ false = inside.knows in
      let at_tail : f tail_place ≡ tail_of from =
      put_other (fram_of from.fram) (slot_place (head_of from)) (event_of from) tail_place (λ e. omega (arith, e)) in
      let full = not_full f tail (event_head from) at_tail (is ∙ ap (λ g. g tail_place) inside.fram) room in
      let small : tail < 0x10000 = subst (λ t. t < 0x10000) (sym is) ((machine_is_of_words b inside.words).fram tail_place) in
      let raised : fram_of c.fram ≡ with_head_raised from =
      behind.fram ∙ ap (λ (d : Bool). if d then fram_of from.fram else with_head_raised from) room in
      let same : put f head_place (word_sum (f head_place) 1) ≡ with_head_raised from = ap (λ n. put f head_place (word_sum n 1)) (event_head from) in
      let stands : f (slot_place (f head_place)) ≡ event_of from =
      ap (λ n. f (slot_place n)) (event_head from) ∙ put_same (fram_of from.fram) (slot_place (head_of from)) (event_of from) in
      subst (λ g. Window g tail i (ws ++ event_of from ∷ [])) (same ∙ sym raised)
      (raises_head f tail i (event_of from) ws full small stands (subst (λ g. Window g tail i ws) inside.fram w))

  stage_brings : (at : Stage) → IsInHandler from at b → IsBehind from (next_stage from at) c → Brings b c (stored_at from at)
  stage_brings SaveR4 i n = quiet SaveR4 i n refl
  stage_brings SaveR5 i n = quiet SaveR5 i n refl
  stage_brings TakeEvent i n = quiet TakeEvent i n refl
  stage_brings LoadHead i n = quiet LoadHead i n refl
  stage_brings SubtractTail i n = quiet SubtractTail i n refl
  stage_brings CompareRoom i n = quiet CompareRoom i n refl
  stage_brings LeaveIfFull i n = quiet LeaveIfFull i n (either_fram from (is_ring_full from) refl)
  stage_brings LoadHeadAgain i n = quiet LoadHeadAgain i n refl
  stage_brings CutToSlots i n = quiet CutToSlots i n refl
  stage_brings DoubleIndex i n = quiet DoubleIndex i n refl
  stage_brings StoreWord i n = stores i n
  stage_brings RaiseHead i n = raises i n
  stage_brings RestoreR5 i n = quiet RestoreR5 i n refl
  stage_brings RestoreR4 i n = quiet RestoreR4 i n refl
  stage_brings Return i n = quiet Return i n refl

-- the program's own instruction leaves the ring
own_same : (b : BoardValue) (m : Moment) → IsInstruction m.action → IsMomentFrom b m → is_handlers m ≡ false
    → (a : ℕ) → handler_place ≤ a → fram_of m.after.fram a ≡ fram_of b.fram a
own_same b m is (PowersUp p ok e) own = absurd (no_power_up m (ap (λ (y : Moment). y.action) e) is)
own_same b m is (Instructs i done c a programs e) own =
    subst (λ (y : Moment). (a : ℕ) → handler_place ≤ a → fram_of y.after.fram a ≡ fram_of b.fram a) (sym e) (own_high b i done a programs)
own_same b m is (Serves n done next a served e) own =
    let no : true ≡ false = sym served.handlers ∙ ap is_handlers (sym e) ∙ own in absurd cc

-- ---- so the words that wait are more

longer : (xs ys : List ℕ) → 0 < length xs → 0 < length (xs ++ ys)
longer xs ys some = let e = length-append xs ys in omega (arith, e, some)

knows_more : (t : Taking) (f : ℕ → ℕ) (n from : ℕ) (left more : List ℕ) → Knows t f n from left → Knows t f n from (left ++ more)
knows_more Before f n from left more k = k
knows_more Open f n from left more k = k
knows_more (SawHead head) f n from left more k = (k.0, λ other. longer left more (k.1 other))
knows_more (SawSlot head word) f n from left more k = (k.0, λ other. let is = k.1 other in (is.0 ++ more, ap (λ l. l ++ more) is.1))
knows_more Took f n from left more k = k
knows_more Frozen f n from left more k = k

module _ (gate first : ℕ) (a : Account) (words more : List ℕ) (f g : ℕ → ℕ)
    (brings : (i : ℕ) (ws : List ℕ) → Window f (a.fram tail_place) i ws → Window g (a.fram tail_place) i (ws ++ more)) where
  fresh_more : Fresh gate first f a words → Fresh gate first g a (words ++ more)
  fresh_more h = record {
    done = h.done;
    left = h.left ++ more;
    words_are = ap (λ l. l ++ more) h.words_are ∙ append_assoc h.done h.left more;
    unpending = h.unpending;
    committed = h.committed;
    asked = h.asked;
    tail = h.tail;
    window = brings (first + length h.done) h.left h.window;
  }

  pending_more : Pending gate first f a words → Pending gate first g a (words ++ more)
  pending_more h = record {
    done = h.done;
    left = h.left ++ more;
    words_are = ap (λ l. l ++ more) h.words_are ∙ append_assoc h.done h.left more;
    closed = h.closed;
    committed = h.committed;
    sent = h.sent;
    window = brings (first + length h.done) h.left h.window;
  }

  asked_more : (t : Taking) → Asked gate first t f a words → Asked gate first t g a (words ++ more)
  asked_more t h = record {
    done = h.done;
    taken = h.taken;
    left = h.left ++ more;
    words_are = ap (λ l. l ++ more) h.words_are ∙ append_assoc h.done (h.taken ++ h.left) more ∙ ap (λ l. h.done ++ l) (append_assoc h.taken h.left more);
    unpending = h.unpending;
    committed = h.committed;
    asked = h.asked;
    tail = h.tail;
    window = subst (λ l. Window g (a.fram tail_place) (first + length h.done) l) (append_assoc h.taken h.left more)
        (brings (first + length h.done) (h.taken ++ h.left) h.window);
    knows = knows_more t a.fram (length h.taken) (first + length h.done) h.left more h.knows;
  }

  keeps_more : (t : Taking) → Keeps gate first t f a words → Keeps gate first t g a (words ++ more)
  keeps_more Before (inl h) = inl (fresh_more h)
  keeps_more Before (inr h) = inr (pending_more h)
  keeps_more Open h = asked_more Open h
  keeps_more (SawHead head) h = asked_more (SawHead head) h
  keeps_more (SawSlot head word) h = asked_more (SawSlot head word) h
  keeps_more Took h = asked_more Took h
  keeps_more Frozen h = asked_more Frozen h

-- ---- what a moment tells

-- effects without a look
abbrev pub NoLook : Effect → Type 0
NoLook (Store a w) = Unit {0}
NoLook (Take r) = Unit {0}
NoLook (Outside (Offered n w)) = Unit {0}
NoLook (Outside (Looked seen)) = ⊥

abbrev pub NoLooks : List Effect → Type 0
NoLooks [] = Unit {0}
NoLooks (e ∷ es) = NoLook e × NoLooks es

none-append : (es fs : List Effect) → NoLooks es → NoLooks fs → NoLooks (es ++ fs)
none-append [] fs h k = k
none-append (e ∷ es) fs h k = (h.0, none-append es fs h.1 k)

takes_no_look : (ws : List ℕ) → NoLooks (map (λ w. Take w) ws)
takes_no_look [] = tt
takes_no_look (w ∷ ws) = (tt, takes_no_look ws)

sends_no_look : (n : ℕ) (o : Option ℕ) → NoLooks (sends_of n o)
sends_no_look n None = tt
sends_no_look n (Some w) = (tt, tt)

if_no_look : (c : Bool) (a w : ℕ) → NoLooks (if c then Store a w ∷ [] else [])
if_no_look true a w = (tt, tt)
if_no_look false a w = tt

store_no_look : (o : Option ℕ) (fram : List ℕ) → NoLooks (store_at o fram)
store_no_look None fram = tt
store_no_look (Some a) fram = if_no_look (is_fram a) _ _

stored_no_look : (r : Result Stepped Stop) (after : BoardValue) → NoLooks (stores_of r after)
stored_no_look (Ok done) after = store_no_look done.wrote after.fram
stored_no_look (Err e) after = tt

effects_no_look : (b : BoardValue) (x : BoardOutcome) → NoLooks (effects_of b x)
effects_no_look b x =
    none-append (takes_of b x) _ (takes_no_look (slice_range b.readings b.taken x.board.taken))
    (none-append (stores_of x.answer x.board) (sends_of b.outnum x.offered) (stored_no_look x.answer x.board) (sends_no_look b.outnum x.offered))

one_no_look : (a w : ℕ) → NoLooks (store_of a w)
one_no_look a w = if_no_look (is_fram a) a w

step_no_look : (kind : StepKind) (b : BoardValue) (x : BoardOutcome) → NoLooks (step_effects kind b x)
step_no_look Accepting b x =
    let r = registers_of b.cpu in
    none-append (store_of (return_place r) (r 0)) (store_of (status_place r) (r 2)) (one_no_look (return_place r) (r 0)) (one_no_look (status_place r) (r 2))
step_no_look Returning b x = effects_no_look b x
step_no_look Plain b x = effects_no_look b x

action_no_look : (a : Action) (before after : BoardValue) → NoLooks (action_effects a before after)
action_no_look PowerUp before after = tt
action_no_look (Execute kind done offered) before after = step_no_look kind before _

-- what a moment tells: a look at what the board holds, if there is one, and effects without looks
pub record Tells (m : Moment) : Type 0 where
  pub looks : List Look
  pub acts : List Effect
  pub are : outside_effects m ≡ look_effects looks ++ acts
  pub none : NoLooks acts
  pub seen : (looks ≡ []) ⊎ (looks ≡ fram_of m.before.fram ∷ [])

pub tells : (m : Moment) → Tells m
tells m = by (is_handlers m) refl
  where
    looked : (a : Action) → (looks_by a m.before ≡ []) ⊎ (looks_by a m.before ≡ fram_of m.before.fram ∷ [])
    looked PowerUp = inl refl
    looked (Execute kind done offered) = one _
      where
        one : (c : Bool) → ((if c then fram_of m.before.fram ∷ [] else []) ≡ []) ⊎ ((if c then fram_of m.before.fram ∷ [] else []) ≡ fram_of m.before.fram ∷ [])
        one true = inr refl
        one false = inl refl

    by : (c : Bool) → is_handlers m ≡ c → Tells m
    by true e = record {
      looks = [];
      acts = [];
      are = ap (λ (c : Bool). if c then [] else look_effects (looks_by m.action m.before) ++ action_effects m.action m.before m.after) e;
      none = tt;
      seen = inl refl;
    }
    by false e = record {
      looks = looks_by m.action m.before;
      acts = action_effects m.action m.before m.after;
      are = ap (λ (c : Bool). if c then [] else look_effects (looks_by m.action m.before) ++ action_effects m.action m.before m.after) e;
      none = action_no_look m.action m.before m.after;
      seen = looked m.action;
    }

-- effects without looks see the ring, and those of a moment do
module _ (marks : Marks) (low : marks.gate < tail_place) (ans : marks.answer ≡ Some answer_place) (first : ℕ) (ring : ℕ → ℕ) (words : List ℕ) where
  abbrev Sees : List Effect → Type 0
  Sees es = SeeRing marks low ans first ring words es

  no_look_sees : (es : List Effect) → NoLooks es → Sees es
  no_look_sees [] h = tt
  no_look_sees (Store a w ∷ es) h = (tt, no_look_sees es h.1)
  no_look_sees (Take r ∷ es) h = (tt, no_look_sees es h.1)
  no_look_sees (Outside (Offered n w) ∷ es) h = (tt, no_look_sees es h.1)
  no_look_sees (Outside (Looked seen) ∷ es) h = absurd h.0

  pub looks_see : (looks : List Look) (acts : List Effect) → (looks ≡ []) ⊎ (looks ≡ ring ∷ []) → NoLooks acts → Sees (look_effects looks ++ acts)
  looks_see looks acts (inl e) none = subst (λ l. Sees (look_effects l ++ acts)) (sym e) (no_look_sees acts none)
  looks_see looks acts (inr e) none = subst (λ l. Sees (look_effects l ++ acts)) (sym e) (refl, no_look_sees acts none)

pub moment_sees : (marks : Marks) (low : marks.gate < tail_place) (ans : marks.answer ≡ Some answer_place) (first : ℕ) (words : List ℕ) (m : Moment)
    → SeeRing marks low ans first (fram_of m.before.fram) words (outside_effects m)
moment_sees marks low ans first words m =
    let t = tells m in
    subst (λ es. SeeRing marks low ans first (fram_of m.before.fram) words es) (sym t.are)
    (looks_see marks low ans first (fram_of m.before.fram) words t.looks t.acts t.seen t.none)

-- ---- how far the program is, over a moment

-- a handler's moment tells nothing
none_told : (m : Moment) → is_handlers m ≡ true → outside_effects m ≡ []
none_told m e = ap (λ (c : Bool). if c then [] else look_effects (looks_by m.action m.before) ++ action_effects m.action m.before m.after) e

pub step_follows : (gate : ℕ) (a : Action) (m : Moment) (t u : Taking) → IsInstruction a → MomentFollows gate a m t u
    → Follows gate (outside_of m.before).fram t (outside_effects m) u
step_follows gate PowerUp m t u is h = absurd is
step_follows gate (Execute kind done offered) m t u is h = h

step_observed : (marks : Marks) (a : Action) (es : List Effect) (h : History) → IsInstruction a → behind_action marks a es h ≡ observe marks es h
step_observed marks PowerUp es h is = absurd is
step_observed marks (Execute kind done offered) es h is = refl

-- what a step leaves
pub record Leaves (marks : Marks) (first : ℕ) (m : Moment) (h : History) (words more : List ℕ) (u : Taking) : Type 0 where
  pub keeps : Keeps marks.gate first u (fram_of m.after.fram) (account_of marks (behind_moment marks m h)) (words ++ more)
  pub told : (outside_of m.after).fram ≡ (behind_moment marks m h).world.fram

-- FRAM behind it is told
step_told : (marks : Marks) (b : BoardValue) (m : Moment) (h : History) → IsWhole b → IsOfWords b → IsMomentFrom b m → IsInstruction m.action
    → (outside_of b).fram ≡ h.world.fram → (outside_of m.after).fram ≡ (behind_moment marks m h).world.fram
step_told marks b m h whole words from is told = by (moment_is b m whole words from)
  where
    by : IsPowerOrStep b m → (outside_of m.after).fram ≡ (behind_moment marks m h).world.fram
    by (IsPower p ok e) = absurd (no_power_up m (ap (λ (y : Moment). y.action) e) is)
    by (IsStepped s) =
        let es = outside_effects m in
        s.fram ∙ ap (fram_after es) told ∙ sym (world_fram es h.world)
        ∙ sym (ap (λ (k : History). k.world.fram) (step_observed marks m.action es h is) ∙ ap (λ (x : World). x.fram) (observed_world marks es h))

module _ (marks : Marks) (low : marks.gate < tail_place) (ans : marks.answer ≡ Some answer_place) (first : ℕ) (b : BoardValue) (m : Moment) (whole : IsWhole b)
    (ofwords : IsOfWords b) (is : IsInstruction m.action) (from : IsMomentFrom b m) where
  module _ (same : m.before ≡ b) (h : History) (told : (outside_of b).fram ≡ h.world.fram) (words : List ℕ) where
    abbrev es : List Effect
    es = outside_effects m

    abbrev k : History
    k = behind_moment marks m h

    abbrev Here : Taking → (ℕ → ℕ) → History → List ℕ → Type 0
    Here t ring j ws = Keeps marks.gate first t ring (account_of marks j) ws

    -- the program's own effects
    own_leaves : is_handlers m ≡ false → (t u : Taking) → MomentFollows marks.gate m.action m t u → Here t (fram_of b.fram) h words
        → Leaves marks first m h words [] u
    own_leaves own t u follows keeps =
        let f : ℕ → ℕ = fram_of b.fram in
        let g : ℕ → ℕ = fram_of m.after.fram in
        let sees = subst (λ (y : BoardValue). SeeRing marks low ans first (fram_of y.fram) words es) same (moment_sees marks low ans first words m) in
        let there : Here u f (observe marks es h) words =
        effects_advance marks low ans first f words h (outside_of m.before).fram t u es (ap (λ (y : BoardValue). (outside_of y).fram) same ∙ told)
        (step_follows marks.gate m.action m t u is follows) sees keeps in
        let now : Here u f k words = subst (λ (j : History). Here u f j words) (sym (step_observed marks m.action es h is)) there in
        let tail = k.world.fram tail_place in
        record {
          keeps = keeps_more marks.gate first (account_of marks k) words [] f g
              (λ i ws w. subst (λ (l : List ℕ). Window g tail i l) (sym (append-nil ws)) (window_same f g tail i ws (own_same b m is from own) w)) u now;
          told = step_told marks b m h whole ofwords from is told;
        }

    -- the handler's moments bring words, and do nothing to the program
    handler_leaves : is_handlers m ≡ true → (more : List ℕ) → Brings b m.after more → (t u : Taking) → MomentFollows marks.gate m.action m t u
        → Here t (fram_of b.fram) h words → Leaves marks first m h words more u
    handler_leaves handlers more brings t u follows keeps =
        let none = none_told m handlers in
        let stays : u ≡ t = subst (λ l. Follows marks.gate (outside_of m.before).fram t l u) none (step_follows marks.gate m.action m t u is follows) in
        let still : k ≡ h = step_observed marks m.action es h is ∙ ap (λ l. observe marks l h) none in
        let f : ℕ → ℕ = fram_of b.fram in
        let g : ℕ → ℕ = fram_of m.after.fram in
        let tail : h.world.fram tail_place ≡ fram_of b.fram tail_place = ap (λ (x : ℕ → ℕ). x tail_place) (sym told) in
        let there : Here t g h (words ++ more) =
        keeps_more marks.gate first (account_of marks h) words more f g (λ i ws w. brings (h.world.fram tail_place) i ws tail w) t keeps in
        record {
          keeps = subst (λ v. Here v g k (words ++ more)) (sym stays) (subst (λ (j : History). Here t g j (words ++ more)) (sym still) there);
          told = step_told marks b m h whole ofwords from is told;
        }

  -- a moment of the handler's
  handlers_move : (p : BoardValue) (at : Stage) → IsInHandler p at b → is_handlers m ≡ true
  handlers_move p at inside = by from
    where
      by : IsMomentFrom b m → is_handlers m ≡ true
      by (PowersUp q ok e) = absurd (no_power_up m (ap (λ (y : Moment). y.action) e) is)
      by (Instructs i done c a programs e) =
          let high = handler_is_high p at b inside in
          let below = programs.below in
          absurd (omega (arith, high, below))
      by (Serves n done next a served e) = ap is_handlers e ∙ served.handlers

  -- a moment, by how the handler moves in it
  module _ (on : PlacedProgram) (silent : b.line.heard ≡ heard.Nothing) (hand : Hand) (same : m.before ≡ b) (h : History)
      (told : (outside_of b).fram ≡ h.world.fram) (words : List ℕ) where
    pub moves_leave : (s t : Option (BoardValue × Stage)) (moves : Moves on b m s t) (v u : Taking) → MomentFollows marks.gate m.action m v u
        → Keeps marks.gate first v (fram_of b.fram) (account_of marks h) words
        → Leaves marks first m h words (stored_by on b m is silent hand s t moves) u
    moves_leave _ _ (MovesOwn own) v u follows keeps = own_leaves same h told words own v u follows keeps
    moves_leave _ _ (MovesIn done interrupted inside quiet e) v u follows keeps =
        handler_leaves same h told words (ap is_handlers e) []
        (subst (λ (y : Moment). Brings b y.after []) (sym e)
        (brings_none b (moment_of b next_step.Acceptance done).after (λ a l. ap (λ (f : ℕ → ℕ). f a) inside.fram))) v u follows keeps
    moves_leave _ _ (MovesOn p at done interrupted inside read behind e) v u follows keeps =
        handler_leaves same h told words (handlers_move p at inside) (stored_at p at)
        (subst (λ (y : Moment). Brings b y.after (stored_at p at)) (sym e)
        (stage_brings p b (at_boundary (executed b (instruction_at at)).board) at inside behind)) v u follows keeps
