-- By which look an answer came about.
use Rattle.std.proofs.Common.{◌≡◌, ◌≢◌, ◌<◌, ◌⊎◌, inl, inr, if◌then◌else◌, arith, ℕ, zero, suc, refl, sym, ap, ap₂, ◌∙◌, subst, Bool}
use Rattle.std.proofs.Common.{List, [], ◌∷◌, ◌++◌, append-nil, append_assoc, length, Some, ne_eqb, eq-eqb, Contains}
use Rattle.std.specs.Prelude.{slice_get, slice_index_or}
use Rattle.event_places.specs.Places.{head_place, tail_place, count_place, answer_place}
use Rattle.msp_step.specs.alp_words.Words.{word_sum}
use Rattle.fram_board.specs.Board.{BoardValue}
use Rattle.fram_board.specs.Effects.{Effect, Store, Take, Outside, Looked}
use Rattle.fram_board.specs.Run.{Moment}
use Rattle.machine_effects.specs.World.{Look, fram_after_one, fram_after, EachStore}
use Rattle.machine_effects.specs.Inputs.{look_effects}
use Rattle.machine_effects.specs.Machine.{fram_of}
use Rattle.machine_effects.specs.View.{IsWhole, IsOfWords}
use Rattle.machine_effects.specs.Runs.{last_board}
use Rattle.machine_effects.proofs.Interface.{each_store-append, each_store-front, each_store-back}
use Rattle.program_view.proofs.Interface.{steady_low}
use Rattle.crash_rules.specs.Model.{words_stored}
use Rattle.run_charges.specs.View.{outside_of, outside_effects, all_outside_effects}
use Rattle.run_charges.specs.Moments.{IsMomentFrom}
use Rattle.run_charges.specs.Charges.{IsInstruction}
use Rattle.run_charges.proofs.Interface.{moment_is, IsPower, IsStepped, IsPowerOrStep, no_power_up}
use Rattle.event_rules.specs.Taking.{Taking, Before, Open, SawHead, SawSlot, Took, Frozen, IsIdle, next_index, Advances, Takes, Sends, Stores, Clears, Looks}
use Rattle.event_rules.specs.Taking.{Sees, AnswersNone, AnswersWord, Counts, Freezes, Decides, Moves, Ends, Follows, MomentFollows}
use Rattle.event_orders.specs.Waiting.{NoneWaited}
use Rattle.event_orders.proofs.Moments.{NoLook, NoLooks, Tells, tells, step_follows}

-- no look is open
abbrev pub NotSaw : Taking → Type 0
NotSaw Before = Unit {0}
NotSaw Open = Unit {0}
NotSaw (SawHead head) = ⊥
NotSaw (SawSlot head word) = ⊥
NotSaw Took = Unit {0}
NotSaw Frozen = Unit {0}

idle_not_saw : (t : Taking) → IsIdle t → NotSaw t
idle_not_saw Before i = tt
idle_not_saw Open i = tt
idle_not_saw (SawHead head) i = i
idle_not_saw (SawSlot head word) i = i
idle_not_saw Took i = tt
idle_not_saw Frozen i = tt

-- behind an effect without a look none is open
plain_closes : (gate : ℕ) (f : ℕ → ℕ) (t u : Taking) (e : Effect) → NoLook e → Advances gate f t e u → NotSaw u
plain_closes gate f t _ _ none (Takes idle) = idle_not_saw t idle
plain_closes gate f t _ _ none (Sends idle) = idle_not_saw t idle
plain_closes gate f t _ _ none (Stores idle below other) = idle_not_saw t idle
plain_closes gate f _ _ _ none (Clears at is other) = tt
plain_closes gate f _ _ _ none (Looks is) = none
plain_closes gate f _ _ _ none (Sees is) = none
plain_closes gate f _ _ _ none (AnswersNone at is same) = tt
plain_closes gate f _ _ _ none (AnswersWord at is other) = tt
plain_closes gate f _ _ _ none (Counts at is) = tt
plain_closes gate f _ _ _ none (Freezes at is) = tt
plain_closes gate f _ _ _ none (Decides at is other) = tt
plain_closes gate f _ _ _ none (Moves at is one) = tt
plain_closes gate f _ _ _ none (Ends at is one moved) = tt

all_close : (gate : ℕ) (f : ℕ → ℕ) (t u : Taking) (es : List Effect) → NoLooks es → NotSaw t → Follows gate f t es u → NotSaw u
all_close gate f t u [] none saw follows = subst NotSaw (sym follows) saw
all_close gate f t u (e ∷ es) none saw follows =
    all_close gate (fram_after_one e f) follows.0 u es none.1 (plain_closes gate f t follows.0 e none.0 follows.1) follows.2

-- what follows in two parts
pub follows_split : (gate : ℕ) (f : ℕ → ℕ) (t u : Taking) (es fs : List Effect) → Follows gate f t (es ++ fs) u
    → (v : Taking) × Follows gate f t es v × Follows gate (fram_after es f) v fs u
follows_split gate f t u [] fs h = (t, refl, h)
follows_split gate f t u (e ∷ es) fs h =
    let rest = follows_split gate (fram_after_one e f) h.0 u es fs h.2 in
    (rest.0, (h.0, h.1, rest.1), rest.2)

-- ---- the look that is open

-- a look at HEAD behind some of these moments, since which the program has stored nothing
pub record Saw (b : BoardValue) (ms : List Moment) (head : ℕ) (f : ℕ → ℕ) : Type 0 where
  pub before : List Moment
  pub since : List Moment
  pub are : ms ≡ before ++ since
  pub there : fram_of (last_board b before).fram head_place ≡ head
  pub index : next_index (fram_of (last_board b before).fram) ≡ next_index f
  pub quiet : EachStore (λ a w. ⊥) (all_outside_effects since)

abbrev pub SawAt : BoardValue → List Moment → Taking → (ℕ → ℕ) → Type 0
SawAt b ms Before f = Unit {0}
SawAt b ms Open f = Unit {0}
SawAt b ms (SawHead head) f = Saw b ms head f
SawAt b ms (SawSlot head word) f = Saw b ms head f
SawAt b ms Took f = Unit {0}
SawAt b ms Frozen f = Unit {0}

closed_at : (b : BoardValue) (ms : List Moment) (t : Taking) (f : ℕ → ℕ) → NotSaw t → SawAt b ms t f
closed_at b ms Before f n = tt
closed_at b ms Open f n = tt
closed_at b ms (SawHead head) f n = absurd n
closed_at b ms (SawSlot head word) f n = absurd n
closed_at b ms Took f n = tt
closed_at b ms Frozen f n = tt

abbrev NoStores : List Effect → Type 0
NoStores es = EachStore (λ a w. ⊥) es

quiet_more : (ms : List Moment) (m : Moment) → NoStores (all_outside_effects ms) → NoStores (outside_effects m) → NoStores (all_outside_effects (ms ++ m ∷ []))
quiet_more [] m h k = subst NoStores (sym (append-nil (outside_effects m))) k
quiet_more (x ∷ ms) m h k =
    let es = outside_effects x in
    let fs = all_outside_effects ms in
    each_store-append (λ a w. ⊥) es _ (each_store-front (λ a w. ⊥) es fs h) (quiet_more ms m (each_store-back (λ a w. ⊥) es fs h) k)

-- effects that store nothing leave FRAM
unstored : (es : List Effect) (f : ℕ → ℕ) → NoStores es → fram_after es f ≡ f
unstored [] f h = refl
unstored (Store a w ∷ es) f h = absurd h.0
unstored (Take r ∷ es) f h = unstored es f h.1
unstored (Outside o ∷ es) f h = unstored es f h.1

look_stores_none : (looks : List Look) → NoStores (look_effects looks)
look_stores_none [] = tt
look_stores_none (look ∷ more) = (tt, tt)

-- a step, and what is seen of it
module _ (gate : ℕ) (b : BoardValue) (ms : List Moment) (m : Moment) (place : last_board b ms ≡ m.before) (is : IsInstruction m.action)
    (whole : IsWhole m.before) (words : IsOfWords m.before) (from : IsMomentFrom m.before m) where
  abbrev f : ℕ → ℕ
  f = (outside_of m.before).fram

  abbrev g : ℕ → ℕ
  g = (outside_of m.after).fram

  abbrev now : List Moment
  now = ms ++ m ∷ []

  changed : g ≡ fram_after (outside_effects m) f
  changed = by (moment_is m.before m whole words from)
    where
      by : IsPowerOrStep m.before m → g ≡ fram_after (outside_effects m) f
      by (IsPower p ok e) = absurd (no_power_up m (ap (λ (y : Moment). y.action) e) is)
      by (IsStepped s) = s.fram

  module _ (quiet : NoStores (outside_effects m)) where
    same : next_index f ≡ next_index g
    same = ap next_index (sym (changed ∙ unstored (outside_effects m) f quiet))

    goes_on : (head : ℕ) → Saw b ms head f → Saw b now head g
    goes_on head s = record {
      before = s.before;
      since = s.since ++ m ∷ [];
      are = ap (λ l. l ++ m ∷ []) s.are ∙ append_assoc s.before s.since (m ∷ []);
      there = s.there;
      index = s.index ∙ same;
      quiet = quiet_more s.since m s.quiet quiet;
    }

    still : (t : Taking) → SawAt b ms t f → SawAt b now t g
    still Before s = tt
    still Open s = tt
    still (SawHead head) s = goes_on head s
    still (SawSlot head word) s = goes_on head s
    still Took s = tt
    still Frozen s = tt

    as_board : next_index (fram_of m.before.fram) ≡ next_index f
    as_board = ap₂ (λ t c. word_sum t c) (sym (steady_low (fram_of m.before.fram) tail_place (omega arith)))
        (sym (steady_low (fram_of m.before.fram) count_place (omega arith)))

    begins : (head : ℕ) → head ≡ fram_of m.before.fram head_place → Saw b now head g
    begins head at =
        let P : BoardValue → Type 0 = λ c. (fram_of c.fram head_place ≡ head) × (next_index (fram_of c.fram) ≡ next_index g) in
        let here = subst P (sym place) (sym at, as_board ∙ same) in
        record {
          before = ms;
          since = m ∷ [];
          are = refl;
          there = here.0;
          index = here.1;
          quiet = subst NoStores (sym (append-nil (outside_effects m))) quiet;
        }

    -- of one look
    one_look : (seen : Look) (t u : Taking) → seen ≡ fram_of m.before.fram → Advances gate f t (Outside (Looked seen)) u → SawAt b ms t f → SawAt b now u g
    one_look seen _ _ ring (Looks {head = head} is) s = begins head (is ∙ ap (λ (l : Look). l head_place) ring)
    one_look seen _ _ ring (Sees {head = head} is) s = goes_on head s

  -- of a look alone
  looks_alone : (looks : List Look) → outside_effects m ≡ look_effects looks → (looks ≡ []) ⊎ (looks ≡ fram_of m.before.fram ∷ []) → (t u : Taking)
      → Follows gate f t (look_effects looks) u → SawAt b ms t f → SawAt b now u g
  looks_alone looks are seen t u follows s = by looks seen are follows
    where
      by : (looks : List Look) → (looks ≡ []) ⊎ (looks ≡ fram_of m.before.fram ∷ []) → outside_effects m ≡ look_effects looks
          → Follows gate f t (look_effects looks) u → SawAt b now u g
      by [] seen are follows = subst (λ v. SawAt b now v g) (sym follows) (still (subst NoStores (sym are) tt) t s)
      by (look ∷ more) (inl e) are follows = absurd (cc e)
      by (look ∷ more) (inr e) are follows =
          let ring : look ≡ fram_of m.before.fram = cc e in
          subst (λ v. SawAt b now v g) (sym follows.2)
          (one_look (subst NoStores (sym are) (tt, tt)) look t follows.0 ring follows.1 s)

  pub step_saw : (t u : Taking) → MomentFollows gate m.action m t u → SawAt b ms t f → SawAt b now u g
  step_saw t u follows s = by told.acts told.none told.are
    where
      told : Tells m
      told = tells m

      all : Follows gate f t (outside_effects m) u
      all = step_follows gate m.action m t u is follows

      by : (acts : List Effect) → NoLooks acts → outside_effects m ≡ look_effects told.looks ++ acts → SawAt b now u g
      by [] none are =
          let alone : outside_effects m ≡ look_effects told.looks = are ∙ append-nil (look_effects told.looks) in
          looks_alone told.looks alone told.seen t u (subst (λ l. Follows gate f t l u) alone all) s
      by (e ∷ acts) none are =
          let parts = follows_split gate f t u (look_effects told.looks) (e ∷ acts) (subst (λ l. Follows gate f t l u) are all) in
          let step = parts.2 in
          let closed = plain_closes gate _ parts.0 step.0 e none.0 step.1 in
          closed_at b now u g (all_close gate _ step.0 u acts none.1 closed step.2)

-- ---- the answer

-- what an answer is, by the look that is open
abbrev pub IsAnswered : Taking → (ℕ → ℕ) → ℕ → Type 0
IsAnswered Before f w = ⊥
IsAnswered Open f w = ⊥
IsAnswered (SawHead head) f w = ⊥
IsAnswered (SawSlot head word) f w = ((next_index f ≡ head) × (w ≡ 0)) ⊎ ((next_index f ≢ head) × (w ≡ word))
IsAnswered Took f w = ⊥
IsAnswered Frozen f w = ⊥

pub nothing_there : (ws : List ℕ) (w : ℕ) → ws ≡ [] → Contains ws w → ⊥
nothing_there ws w none h =
    let l = h.1 in
    let e = ap length none in
    omega (arith, l, e)

only_one : (ws : List ℕ) (v w : ℕ) → ws ≡ v ∷ [] → Contains ws w → w ≡ v
only_one ws v w is h = by here.0 here.1 here.2
  where
    here : Contains (v ∷ []) w
    here = subst (λ l. Contains l w) is h

    by : (k : ℕ) → k < length (v ∷ []) → slice_index_or (v ∷ []) k w ≡ w → w ≡ v
    by zero l e = sym e
    by (suc k) l e = absurd (omega (arith, l))

-- a store elsewhere is no answer
other_word : (a w : ℕ) (es : List Effect) → a ≢ answer_place → words_stored answer_place (Store a w ∷ es) ≡ words_stored answer_place es
other_word a w es other = ap (λ (c : Bool). if c then w ∷ words_stored answer_place es else words_stored answer_place es) (ne_eqb a answer_place other)

-- and one at ANS is one
this_word : (a w : ℕ) (es : List Effect) → a ≡ answer_place → words_stored answer_place (Store a w ∷ es) ≡ w ∷ words_stored answer_place es
this_word a w es at = ap (λ (c : Bool). if c then w ∷ words_stored answer_place es else words_stored answer_place es) (eq-eqb a answer_place at)

module _ (gate : ℕ) (low : gate < tail_place) where
  -- where no look is open nothing is answered
  one_unanswered : (f : ℕ → ℕ) (t u : Taking) (e : Effect) (es : List Effect) → NotSaw t → Advances gate f t e u
      → words_stored answer_place (e ∷ es) ≡ words_stored answer_place es
  one_unanswered f t _ _ es saw (Takes idle) = refl
  one_unanswered f t _ _ es saw (Sends idle) = refl
  one_unanswered f t _ (Store a w) es saw (Stores idle below other) = other_word a w es (λ e. omega (arith, e, below))
  one_unanswered f _ _ (Store a w) es saw (Clears at is other) = other_word a w es (λ e. omega (arith, e, at))
  one_unanswered f _ _ _ es saw (Looks is) = refl
  one_unanswered f _ _ _ es saw (Sees is) = refl
  one_unanswered f _ _ (Store a w) es saw (AnswersNone at is same) = absurd saw
  one_unanswered f _ _ (Store a w) es saw (AnswersWord at is other) = absurd saw
  one_unanswered f _ _ (Store a w) es saw (Counts at is) = other_word a w es (λ e. omega (arith, e, at))
  one_unanswered f _ _ (Store a w) es saw (Freezes at is) = other_word a w es (λ e. omega (arith, e, at))
  one_unanswered f _ _ (Store a w) es saw (Decides at is other) = other_word a w es (λ e. omega (arith, e, at, low))
  one_unanswered f _ _ (Store a w) es saw (Moves at is one) = other_word a w es (λ e. omega (arith, e, at))
  one_unanswered f _ _ (Store a w) es saw (Ends at is one moved) = other_word a w es (λ e. omega (arith, e, at, low))

  none_answered : (f : ℕ → ℕ) (t u : Taking) (es : List Effect) → NoLooks es → NotSaw t → Follows gate f t es u → words_stored answer_place es ≡ []
  none_answered f t u [] none saw follows = refl
  none_answered f t u (e ∷ es) none saw follows =
      one_unanswered f t follows.0 e es saw follows.1
      ∙ none_answered (fram_after_one e f) follows.0 u es none.1 (plain_closes gate f t follows.0 e none.0 follows.1) follows.2

  -- effects without looks answer at their first, by the look that is open
  pub answered_by : (f : ℕ → ℕ) (t u : Taking) (es : List Effect) → NoLooks es → Follows gate f t es u → (w : ℕ)
      → Contains (words_stored answer_place es) w → IsAnswered t f w
  answered_by f t u [] none follows w h = absurd (nothing_there [] w refl h)
  answered_by f t u (e ∷ es) none follows w h = by t e follows.0 none.0 follows.1 rest h
    where
      rest : words_stored answer_place es ≡ []
      rest = none_answered (fram_after_one e f) follows.0 u es none.1 (plain_closes gate f t follows.0 e none.0 follows.1) follows.2

      unasked : (t : Taking) (e : Effect) (v : Taking) → NotSaw t → Advances gate f t e v → words_stored answer_place es ≡ []
          → Contains (words_stored answer_place (e ∷ es)) w → ⊥
      unasked t e v saw adv rest h = nothing_there (words_stored answer_place (e ∷ es)) w (one_unanswered f t v e es saw adv ∙ rest) h

      of_head : (head : ℕ) (e : Effect) (v : Taking) → NoLook e → Advances gate f (SawHead head) e v → ⊥
      of_head head _ _ plain (Takes idle) = idle
      of_head head _ _ plain (Sends idle) = idle
      of_head head _ _ plain (Stores idle below other) = idle
      of_head head _ _ plain (Sees is) = plain

      of_slot : (head word : ℕ) (e : Effect) (v : Taking) → Advances gate f (SawSlot head word) e v → words_stored answer_place es ≡ []
          → Contains (words_stored answer_place (e ∷ es)) w → IsAnswered (SawSlot head word) f w
      of_slot head word _ _ (Takes idle) rest h = absurd idle
      of_slot head word _ _ (Sends idle) rest h = absurd idle
      of_slot head word _ _ (Stores idle below other) rest h = absurd idle
      of_slot head word (Store a x) _ (AnswersNone at is none) rest h =
          inl (none, only_one (words_stored answer_place (Store a x ∷ es)) x w (this_word a x es at ∙ ap (λ l. x ∷ l) rest) h ∙ is)
      of_slot head word (Store a x) _ (AnswersWord at is other) rest h =
          inr (other, only_one (words_stored answer_place (Store a x ∷ es)) x w (this_word a x es at ∙ ap (λ l. x ∷ l) rest) h ∙ is)

      by : (t : Taking) (e : Effect) (v : Taking) → NoLook e → Advances gate f t e v → words_stored answer_place es ≡ []
          → Contains (words_stored answer_place (e ∷ es)) w → IsAnswered t f w
      by Before e v plain adv rest h = absurd (unasked Before e v tt adv rest h)
      by Open e v plain adv rest h = absurd (unasked Open e v tt adv rest h)
      by Took e v plain adv rest h = absurd (unasked Took e v tt adv rest h)
      by Frozen e v plain adv rest h = absurd (unasked Frozen e v tt adv rest h)
      by (SawHead head) e v plain adv rest h = absurd (of_head head e v plain adv)
      by (SawSlot head word) e v plain adv rest h = of_slot head word e v adv rest h

  -- a look stores no answer, and leaves FRAM
  pub look_answers_none : (looks : List Look) (acts : List Effect) → words_stored answer_place (look_effects looks ++ acts) ≡ words_stored answer_place acts
  look_answers_none [] acts = refl
  look_answers_none (look ∷ more) acts = refl

  pub look_leaves : (looks : List Look) (f : ℕ → ℕ) → fram_after (look_effects looks) f ≡ f
  look_leaves [] f = refl
  look_leaves (look ∷ more) f = refl

  -- the look at HEAD that a look at the slot came behind, by moments in front of this one
  module _ (b : BoardValue) (ms : List Moment) (f : ℕ → ℕ) where
    saw_before : (seen : Look) (t v : Taking) (head word : ℕ) → Advances gate f t (Outside (Looked seen)) v → SawSlot head word ≡ v → SawAt b ms t f
        → Saw b ms head f
    saw_before seen _ _ head word (Looks is) e s = absurd (cc e)
    saw_before seen _ _ head word (Sees {head = h} is) e s = let same : head ≡ h = cc e in subst (λ n. Saw b ms n f) (sym same) s

    pub saw_head : (looks : List Look) (t : Taking) (head word : ℕ) → Follows gate f t (look_effects looks) (SawSlot head word) → SawAt b ms t f
        → Saw b ms head f
    saw_head [] t head word follows s = subst (λ v. SawAt b ms v f) (sym follows) s
    saw_head (look ∷ more) t head word follows s = saw_before look t follows.0 head word follows.1 follows.2 s

-- none waited where HEAD was the index
pub none_waited : (b : BoardValue) (ms : List Moment) (head : ℕ) (f : ℕ → ℕ) → next_index f ≡ head → Saw b ms head f → NoneWaited b ms
none_waited b ms head f same s = record { before = s.before; since = s.since; are = s.are; empty = s.there ∙ sym same ∙ sym s.index; quiet = s.quiet }

-- the word behind others
pub next_there : (xs ys : List ℕ) (w : ℕ) → slice_get (xs ++ w ∷ ys) (length xs) ≡ Some w
next_there [] ys w = refl
next_there (x ∷ xs) ys w = next_there xs ys w
