-- What a program's effects make of the words of the ring: which the committed attempts took, which the current one, and which wait.
use Rattle.std.proofs.Common.{◌≡◌, ◌≢◌, ◌+◌, ◌%◌, ◌≤◌, ◌<◌, ◌==◌, ◌⊎◌, inl, inr, not, arith, ℕ, refl, sym, ap, ap₂, ◌∙◌, subst, cond}
use Rattle.std.proofs.Common.{Bool, true, List, [], ◌∷◌, ◌++◌, append-nil, append_assoc, length, length-append, Some}
use Rattle.std.proofs.Common.{ne_eqb, if◌then◌else◌}
use Rattle.std.specs.Prelude.{flat_map}
use Rattle.std.proofs.lemmas.List.Elements.{filter-append}
use Rattle.std.proofs.lemmas.Grind.{flat_map-append}
use Rattle.event_places.specs.Places.{head_place, tail_place, count_place, sent_place, answer_place, ring_slots, slot_place}
use Rattle.msp_step.specs.alp_words.Words.{word_sum}
use Rattle.fram_board.specs.Effects.{Effect, Store, Take, Outside, OutsideEffect, Offered, Looked}
use Rattle.machine_effects.specs.World.{put, fram_after_one, OfStore}
use Rattle.machine_effects.proofs.Interface.{put_other, put_same}
use Rattle.crash_rules.specs.Model.{Marks, IsElsewhere, words_stored, answers_at, answers_in}
use Rattle.crash_rules.specs.History.{Done, History, is_decide, with_effect, behind_gate, behind_decide, behind_done, observe_one, observe}
use Rattle.crash_rules.proofs.Interface.{world_fram, answers-append, observe_quiet, observed_world}
use Rattle.event_rules.specs.Taking.{Taking, Before, Open, SawHead, SawSlot, Took, Frozen, next_index, Advances, Takes, Sends, Stores, Clears, Looks}
use Rattle.event_rules.specs.Taking.{Sees, AnswersNone, AnswersWord, Counts, Freezes, Decides, Moves, Ends, Follows}
use Rattle.event_orders.specs.Answers.{not_zeros}
use Rattle.event_orders.proofs.Window.{Stands, Window, same_slot, stands_behind, moved_there, given_away}

-- what a history tells of answers: the FRAM, the answers of the dones, those since the last boot or done, and those of the last decide
pub record Account : Type 0 where
  pub fram : ℕ → ℕ
  pub committed : List ℕ
  pub asked : List ℕ
  pub decided : List ℕ

abbrev pub answers_of : List Done → List ℕ
answers_of ds = flat_map (λ d. d.answers) ds

abbrev pub account_of : Marks → History → Account
account_of marks h = record { fram = h.world.fram; committed = answers_of h.completed; asked = answers_in marks h.effects; decided = h.answers }

-- no commit is pending, and nothing is asked yet
pub record Fresh (gate first : ℕ) (ring : ℕ → ℕ) (a : Account) (words : List ℕ) : Type 0 where
  pub done : List ℕ
  pub left : List ℕ
  pub words_are : words ≡ done ++ left
  pub unpending : a.fram gate ≢ 1
  pub committed : not_zeros a.committed ≡ not_zeros done
  pub asked : not_zeros a.asked ≡ []
  pub tail : a.fram tail_place ≡ (first + length done) % 0x10000
  pub window : Window ring (a.fram tail_place) (first + length done) left

-- a commit is pending: the words of its attempt are taken, and SE is behind them
pub record Pending (gate first : ℕ) (ring : ℕ → ℕ) (a : Account) (words : List ℕ) : Type 0 where
  pub done : List ℕ
  pub left : List ℕ
  pub words_are : words ≡ done ++ left
  pub closed : a.fram gate ≡ 1
  pub committed : not_zeros a.committed ++ not_zeros a.decided ≡ not_zeros done
  pub sent : a.fram sent_place ≡ (first + length done) % 0x10000
  pub window : Window ring (a.fram tail_place) (first + length done) left

-- what is known of an attempt that has taken so many words of those from an index on, where these are left
abbrev pub Knows : Taking → (ℕ → ℕ) → ℕ → ℕ → List ℕ → Type 0
Knows Before fram taken from left = ⊥
Knows Open fram taken from left = fram count_place ≡ taken
Knows (SawHead head) fram taken from left = (fram count_place ≡ taken) × (next_index fram ≢ head → 0 < length left)
Knows (SawSlot head word) fram taken from left = (fram count_place ≡ taken) × (next_index fram ≢ head → (more : List ℕ) × (left ≡ word ∷ more))
Knows Took fram taken from left = fram count_place + 1 ≡ taken
Knows Frozen fram taken from left = fram sent_place ≡ (from + taken) % 0x10000

-- an attempt asks
pub record Asked (gate first : ℕ) (t : Taking) (ring : ℕ → ℕ) (a : Account) (words : List ℕ) : Type 0 where
  pub done : List ℕ
  pub taken : List ℕ
  pub left : List ℕ
  pub words_are : words ≡ done ++ (taken ++ left)
  pub unpending : a.fram gate ≢ 1
  pub committed : not_zeros a.committed ≡ not_zeros done
  pub asked : not_zeros a.asked ≡ not_zeros taken
  pub tail : a.fram tail_place ≡ (first + length done) % 0x10000
  pub window : Window ring (a.fram tail_place) (first + length done) (taken ++ left)
  pub knows : Knows t a.fram (length taken) (first + length done) left

-- how the words stand to an account, by how far the program is
abbrev pub Keeps : ℕ → ℕ → Taking → (ℕ → ℕ) → Account → List ℕ → Type 0
Keeps gate first Before ring a words = Fresh gate first ring a words ⊎ Pending gate first ring a words
Keeps gate first Open ring a words = Asked gate first Open ring a words
Keeps gate first (SawHead head) ring a words = Asked gate first (SawHead head) ring a words
Keeps gate first (SawSlot head word) ring a words = Asked gate first (SawSlot head word) ring a words
Keeps gate first Took ring a words = Asked gate first Took ring a words
Keeps gate first Frozen ring a words = Asked gate first Frozen ring a words

-- words of which none is 0
pub zeros_joined : (xs ys : List ℕ) → not_zeros (xs ++ ys) ≡ not_zeros xs ++ not_zeros ys
zeros_joined xs ys = filter-append (λ w. not (w == 0)) xs ys

-- ---- what an effect makes of an account

-- one that stores elsewhere than to GATE
abbrev pub behind : Marks → Effect → Account → Account
behind marks e a = record { fram = fram_after_one e a.fram; committed = a.committed; asked = a.asked ++ answers_in marks (e ∷ []); decided = a.decided }

pub quiet_account : (marks : Marks) (e : Effect) (h : History) → OfStore (IsElsewhere marks.gate) e
    → account_of marks (observe_one marks e h) ≡ behind marks e (account_of marks h)
quiet_account marks e h elsewhere =
    ap (account_of marks) (observe_quiet marks (e ∷ []) h (elsewhere, tt))
    ∙ ap₂ (λ (f : ℕ → ℕ) (l : List ℕ). record { fram = f; committed = answers_of h.completed; asked = l; decided = h.answers })
    (world_fram (e ∷ []) h.world) (answers-append marks h.effects (e ∷ []))

abbrev pub decided_behind : Marks → Account → Account
decided_behind marks a = record {
  fram = put a.fram marks.gate 1;
  committed = a.committed;
  asked = a.asked ++ answers_in marks (Store marks.gate 1 ∷ []);
  decided = a.asked ++ answers_in marks (Store marks.gate 1 ∷ []);
}

decides_at : (before : ℕ) → before ≢ 1 → is_decide before 1 ≡ true
decides_at before other = ap (λ (c : Bool). not c) (ne_eqb before 1 other)

pub decided_account : (marks : Marks) (h : History) → h.world.fram marks.gate ≢ 1
    → account_of marks (observe_one marks (Store marks.gate 1) h) ≡ decided_behind marks (account_of marks h)
decided_account marks h other =
    let k = with_effect (Store marks.gate 1) h in
    let was = h.world.fram marks.gate in
    let is : observe_one marks (Store marks.gate 1) h ≡ behind_decide marks k =
    ap (λ n. behind_gate marks was n k) (put_same h.world.fram marks.gate 1)
    ∙ ap (λ c. cond c (behind_decide marks k) k) (decides_at was other) in
    ap (account_of marks) is
    ∙ ap (λ (l : List ℕ). record { fram = put h.world.fram marks.gate 1; committed = answers_of h.completed; asked = l; decided = l })
    (answers-append marks h.effects (Store marks.gate 1 ∷ []))

abbrev pub ended_behind : Marks → Account → Account
ended_behind marks a = record { fram = put a.fram marks.gate 0; committed = a.committed ++ a.decided; asked = answers_in marks []; decided = a.decided }

pub ended_account : (marks : Marks) (h : History) → h.world.fram marks.gate ≡ 1
    → account_of marks (observe_one marks (Store marks.gate 0) h) ≡ ended_behind marks (account_of marks h)
ended_account marks h one =
    let k = with_effect (Store marks.gate 0) h in
    let is : observe_one marks (Store marks.gate 0) h ≡ behind_done k =
    ap₂ (λ before now. behind_gate marks before now k) one (put_same h.world.fram marks.gate 0) in
    ap (account_of marks) is
    ∙ ap (λ (l : List ℕ). record { fram = put h.world.fram marks.gate 0; committed = l; asked = answers_in marks []; decided = h.answers })
    (flat_map-append (λ (d : Done). d.answers) h.completed (record { span_from = h.span_from; span_to = h.span_to; answers = h.answers; world = k.world } ∷ [])
    ∙ ap (λ l. answers_of h.completed ++ l) (append-nil h.answers))

-- ---- what it makes of the words

module _ (marks : Marks) (low : marks.gate < tail_place) (ans : marks.answer ≡ Some answer_place) (first : ℕ) (ring : ℕ → ℕ) (words : List ℕ) where
  abbrev gate : ℕ
  gate = marks.gate

  abbrev K : Taking → Account → Type 0
  K t a = Keeps gate first t ring a words

  -- the answers of one effect
  answers_are : (es : List Effect) → answers_in marks es ≡ words_stored answer_place es
  answers_are es = ap (λ o. answers_at o es) ans

  no_answer : (a : Account) (v w : ℕ) → v ≢ answer_place → a.asked ++ answers_in marks (Store v w ∷ []) ≡ a.asked
  no_answer a v w other =
      ap (λ l. a.asked ++ l) (answers_are (Store v w ∷ []) ∙ ap (λ (c : Bool). if c then w ∷ [] else []) (ne_eqb v answer_place other))
      ∙ append-nil a.asked

  one_answer : (a : Account) (w : ℕ) → a.asked ++ answers_in marks (Store answer_place w ∷ []) ≡ a.asked ++ w ∷ []
  one_answer a w = ap (λ l. a.asked ++ l) (answers_are (Store answer_place w ∷ []))

  -- an account with another FRAM, and as many answers
  abbrev with_fram : (ℕ → ℕ) → Account → Account
  with_fram f a = record { fram = f; committed = a.committed; asked = a.asked; decided = a.decided }

  -- effects that neither answer nor store to GATE
  stores_so : (a : Account) (v w : ℕ) → v ≢ answer_place → behind marks (Store v w) a ≡ with_fram (put a.fram v w) a
  stores_so a v w other =
      ap (λ (l : List ℕ). record { fram = put a.fram v w; committed = a.committed; asked = l; decided = a.decided }) (no_answer a v w other)

  takes_so : (a : Account) (r : ℕ) → behind marks (Take r) a ≡ a
  takes_so a r =
      ap (λ (l : List ℕ). record { fram = a.fram; committed = a.committed; asked = l; decided = a.decided })
      (ap (λ l. a.asked ++ l) (answers_are (Take r ∷ [])) ∙ append-nil a.asked)

  outside_so : (a : Account) (o : OutsideEffect) → behind marks (Outside o) a ≡ a
  outside_so a o =
      ap (λ (l : List ℕ). record { fram = a.fram; committed = a.committed; asked = l; decided = a.decided })
      (ap (λ l. a.asked ++ l) (answers_are (Outside o ∷ [])) ∙ append-nil a.asked)

  -- FRAM that is the same at GATE and at the words that count events
  record IsLike (f g : ℕ → ℕ) : Type 0 where
    at_gate : g gate ≡ f gate
    at_tail : g tail_place ≡ f tail_place
    at_count : g count_place ≡ f count_place
    at_sent : g sent_place ≡ f sent_place

  index_like : (f g : ℕ → ℕ) → IsLike f g → next_index g ≡ next_index f
  index_like f g e = ap₂ (λ t c. word_sum t c) e.at_tail e.at_count

  fresh_like : (a : Account) (g : ℕ → ℕ) → IsLike a.fram g → Fresh gate first ring a words → Fresh gate first ring (with_fram g a) words
  fresh_like a g e h = record {
    done = h.done;
    left = h.left;
    words_are = h.words_are;
    unpending = λ one. h.unpending (sym e.at_gate ∙ one);
    committed = h.committed;
    asked = h.asked;
    tail = e.at_tail ∙ h.tail;
    window = subst (λ t. Window ring t (first + length h.done) h.left) (sym e.at_tail) h.window;
  }

  pending_like : (a : Account) (g : ℕ → ℕ) → IsLike a.fram g → Pending gate first ring a words → Pending gate first ring (with_fram g a) words
  pending_like a g e h = record {
    done = h.done;
    left = h.left;
    words_are = h.words_are;
    closed = e.at_gate ∙ h.closed;
    committed = h.committed;
    sent = e.at_sent ∙ h.sent;
    window = subst (λ t. Window ring t (first + length h.done) h.left) (sym e.at_tail) h.window;
  }

  knows_like : (t : Taking) (f g : ℕ → ℕ) (n from : ℕ) (left : List ℕ) → IsLike f g → Knows t f n from left → Knows t g n from left
  knows_like Before f g n from left e k = k
  knows_like Open f g n from left e k = e.at_count ∙ k
  knows_like (SawHead head) f g n from left e k = (e.at_count ∙ k.0, λ other. k.1 (λ same. other (index_like f g e ∙ same)))
  knows_like (SawSlot head word) f g n from left e k = (e.at_count ∙ k.0, λ other. k.1 (λ same. other (index_like f g e ∙ same)))
  knows_like Took f g n from left e k = ap (λ c. c + 1) e.at_count ∙ k
  knows_like Frozen f g n from left e k = e.at_sent ∙ k

  asked_like : (t : Taking) (a : Account) (g : ℕ → ℕ) → IsLike a.fram g → Asked gate first t ring a words → Asked gate first t ring (with_fram g a) words
  asked_like t a g e h = record {
    done = h.done;
    taken = h.taken;
    left = h.left;
    words_are = h.words_are;
    unpending = λ one. h.unpending (sym e.at_gate ∙ one);
    committed = h.committed;
    asked = h.asked;
    tail = e.at_tail ∙ h.tail;
    window = subst (λ t. Window ring t (first + length h.done) (h.taken ++ h.left)) (sym e.at_tail) h.window;
    knows = knows_like t a.fram g (length h.taken) (first + length h.done) h.left e h.knows;
  }

  keeps_like : (t : Taking) (a : Account) (g : ℕ → ℕ) → IsLike a.fram g → K t a → K t (with_fram g a)
  keeps_like Before a g e (inl h) = inl (fresh_like a g e h)
  keeps_like Before a g e (inr h) = inr (pending_like a g e h)
  keeps_like Open a g e h = asked_like Open a g e h
  keeps_like (SawHead head) a g e h = asked_like (SawHead head) a g e h
  keeps_like (SawSlot head word) a g e h = asked_like (SawSlot head word) a g e h
  keeps_like Took a g e h = asked_like Took a g e h
  keeps_like Frozen a g e h = asked_like Frozen a g e h

  -- a store in front of the words that count events, but for GATE
  low_like : (f : ℕ → ℕ) (v w : ℕ) → v < tail_place → v ≢ gate → IsLike f (put f v w)
  low_like f v w below other = record {
    at_gate = put_other f v w gate (λ e. other (sym e));
    at_tail = put_other f v w tail_place (λ e. omega (arith, e, below));
    at_count = put_other f v w count_place (λ e. omega (arith, e, below));
    at_sent = put_other f v w sent_place (λ e. omega (arith, e, below));
  }

  -- EC is cleared
  clears : (a : Account) → a.fram gate ≢ 1 → K Before a → K Open (with_fram (put a.fram count_place 0) a)
  clears a other (inr h) = absurd (other h.closed)
  clears a other (inl h) =
      let f = a.fram in
      let tail : put f count_place 0 tail_place ≡ f tail_place = put_other f count_place 0 tail_place (λ e. omega (arith, e)) in
      record {
        done = h.done;
        taken = [];
        left = h.left;
        words_are = h.words_are;
        unpending = λ one. h.unpending (sym (put_other f count_place 0 gate (λ e. omega (arith, e, low))) ∙ one);
        committed = h.committed;
        asked = h.asked;
        tail = tail ∙ h.tail;
        window = subst (λ t. Window ring t (first + length h.done) h.left) (sym tail) h.window;
        knows = put_same f count_place 0;
      }

  -- HEAD isn't the index: a word waits
  waits : (f : ℕ → ℕ) (i n : ℕ) (taken left : List ℕ) (head : ℕ) → f tail_place ≡ i % 0x10000 → f count_place ≡ length taken
      → ring head_place ≡ (i + length (taken ++ left)) % 0x10000 → head ≡ ring head_place → next_index f ≢ head → 0 < length left
  waits f i n taken left head tail count at is other =
      let long = length-append taken left in
      let none : length left ≡ 0 → ⊥ = λ e. other (let same : next_index f ≡ head = omega (arith, tail, count, at, is, long, e) in same) in
      omega (arith, none)

  sees_head : (a : Account) (head : ℕ) → head ≡ ring head_place → K Open a → K (SawHead head) a
  sees_head a head is h = record {
    done = h.done;
    taken = h.taken;
    left = h.left;
    words_are = h.words_are;
    unpending = h.unpending;
    committed = h.committed;
    asked = h.asked;
    tail = h.tail;
    window = h.window;
    knows = (h.knows, waits a.fram (first + length h.done) 0 h.taken h.left head h.tail h.knows h.window.head is);
  }

  -- the slot of the next word has it
  next_word : (left : List ℕ) (i word : ℕ) → 0 < length left → Stands ring i left → word ≡ ring (slot_place i) → (more : List ℕ) × (left ≡ word ∷ more)
  next_word [] i word some stands is = absurd (omega (arith, some))
  next_word (w ∷ more) i word some stands is = (more, ap (λ v. v ∷ more) (sym stands.0 ∙ sym is))

  sees_slot : (a : Account) (head word : ℕ) → word ≡ ring (slot_place (next_index a.fram)) → K (SawHead head) a → K (SawSlot head word) a
  sees_slot a head word is h =
      let i = first + length h.done in
      let tail = h.tail in
      let count = h.knows.0 in
      let index : next_index a.fram ≡ (i + length h.taken) % 0x10000 = omega (arith, tail, count) in
      record {
        done = h.done;
        taken = h.taken;
        left = h.left;
        words_are = h.words_are;
        unpending = h.unpending;
        committed = h.committed;
        asked = h.asked;
        tail = h.tail;
        window = h.window;
        knows = (
          h.knows.0,
          λ other. next_word h.left (i + length h.taken) word (h.knows.1 other) (stands_behind ring i h.taken h.left h.window.stands)
              (is ∙ ap ring (same_slot (i + length h.taken) (next_index a.fram) index)),
        );
      }

  -- an answer is stored
  abbrev with_answer : ℕ → Account → Account
  with_answer w a = record { fram = put a.fram answer_place w; committed = a.committed; asked = a.asked ++ w ∷ []; decided = a.decided }

  answers_so : (a : Account) (w : ℕ) → behind marks (Store answer_place w) a ≡ with_answer w a
  answers_so a w =
      ap (λ (l : List ℕ). record { fram = put a.fram answer_place w; committed = a.committed; asked = l; decided = a.decided }) (one_answer a w)

  answer_like : (f : ℕ → ℕ) (w : ℕ) → IsLike f (put f answer_place w)
  answer_like f w = record {
    at_gate = put_other f answer_place w gate (λ e. omega (arith, e, low));
    at_tail = put_other f answer_place w tail_place (λ e. omega (arith, e));
    at_count = put_other f answer_place w count_place (λ e. omega (arith, e));
    at_sent = put_other f answer_place w sent_place (λ e. omega (arith, e));
  }

  answers_none : (a : Account) (head word : ℕ) → K (SawSlot head word) a → K Open (with_answer 0 a)
  answers_none a head word h =
      let e = answer_like a.fram 0 in
      record {
        done = h.done;
        taken = h.taken;
        left = h.left;
        words_are = h.words_are;
        unpending = λ one. h.unpending (sym e.at_gate ∙ one);
        committed = h.committed;
        asked = zeros_joined a.asked (0 ∷ []) ∙ append-nil (not_zeros a.asked) ∙ h.asked;
        tail = e.at_tail ∙ h.tail;
        window = subst (λ t. Window ring t (first + length h.done) (h.taken ++ h.left)) (sym e.at_tail) h.window;
        knows = e.at_count ∙ h.knows.0;
      }

  answers_word : (a : Account) (head word : ℕ) → next_index a.fram ≢ head → K (SawSlot head word) a → K Took (with_answer word a)
  answers_word a head word other h =
      let e = answer_like a.fram word in
      let next = h.knows.1 other in
      let moved : h.taken ++ h.left ≡ (h.taken ++ word ∷ []) ++ next.0 = ap (λ l. h.taken ++ l) next.1 ∙ sym (append_assoc h.taken (word ∷ []) next.0) in
      let longer : length (h.taken ++ word ∷ []) ≡ length h.taken + 1 = length-append h.taken (word ∷ []) in
      record {
        done = h.done;
        taken = h.taken ++ word ∷ [];
        left = next.0;
        words_are = h.words_are ∙ ap (λ l. h.done ++ l) moved;
        unpending = λ one. h.unpending (sym e.at_gate ∙ one);
        committed = h.committed;
        asked = zeros_joined a.asked (word ∷ []) ∙ ap (λ l. l ++ not_zeros (word ∷ [])) h.asked ∙ sym (zeros_joined h.taken (word ∷ []));
        tail = e.at_tail ∙ h.tail;
        window = subst (λ l. Window ring (put a.fram answer_place word tail_place) (first + length h.done) l) moved
            (subst (λ t. Window ring t (first + length h.done) (h.taken ++ h.left)) (sym e.at_tail) h.window);
        knows = ap (λ c. c + 1) (e.at_count ∙ h.knows.0) ∙ sym longer;
      }

  -- EC is raised
  counts : (a : Account) → K Took a → K Open (with_fram (put a.fram count_place ((a.fram count_place + 1) % 0x10000)) a)
  counts a h =
      let f = a.fram in
      let w = (f count_place + 1) % 0x10000 in
      let tail : put f count_place w tail_place ≡ f tail_place = put_other f count_place w tail_place (λ e. omega (arith, e)) in
      let long = length-append h.taken h.left in
      let near = h.window.near in
      let room = h.window.room in
      let few : length h.taken ≤ ring_slots = omega (arith, long, near, room) in
      let count = h.knows in
      record {
        done = h.done;
        taken = h.taken;
        left = h.left;
        words_are = h.words_are;
        unpending = λ one. h.unpending (sym (put_other f count_place w gate (λ e. omega (arith, e, low))) ∙ one);
        committed = h.committed;
        asked = h.asked;
        tail = tail ∙ h.tail;
        window = subst (λ t. Window ring t (first + length h.done) (h.taken ++ h.left)) (sym tail) h.window;
        knows = put_same f count_place w ∙ (let e : w ≡ length h.taken = omega (arith, count, few) in e);
      }

  -- SE is stored
  freezes : (a : Account) → K Open a → K Frozen (with_fram (put a.fram sent_place (next_index a.fram)) a)
  freezes a h =
      let f = a.fram in
      let w = next_index f in
      let tail : put f sent_place w tail_place ≡ f tail_place = put_other f sent_place w tail_place (λ e. omega (arith, e)) in
      let was = h.tail in
      let count = h.knows in
      record {
        done = h.done;
        taken = h.taken;
        left = h.left;
        words_are = h.words_are;
        unpending = λ one. h.unpending (sym (put_other f sent_place w gate (λ e. omega (arith, e, low))) ∙ one);
        committed = h.committed;
        asked = h.asked;
        tail = tail ∙ h.tail;
        window = subst (λ t. Window ring t (first + length h.done) (h.taken ++ h.left)) (sym tail) h.window;
        knows = put_same f sent_place w ∙ (let e : w ≡ ((first + length h.done) + length h.taken) % 0x10000 = omega (arith, was, count) in e);
      }

  -- GATE becomes 1
  decides : (a : Account) → K Frozen a → K Before (decided_behind marks a)
  decides a h =
      let f = a.fram in
      let tail : put f gate 1 tail_place ≡ f tail_place = put_other f gate 1 tail_place (λ e. omega (arith, e, low)) in
      let sent : put f gate 1 sent_place ≡ f sent_place = put_other f gate 1 sent_place (λ e. omega (arith, e, low)) in
      let long = length-append h.done h.taken in
      let from : (first + length h.done) + length h.taken ≡ first + length (h.done ++ h.taken) = omega (arith, long) in
      inr (record {
        done = h.done ++ h.taken;
        left = h.left;
        words_are = h.words_are ∙ sym (append_assoc h.done h.taken h.left);
        closed = put_same f gate 1;
        committed = ap₂ (λ x y. x ++ y) h.committed (ap not_zeros (no_answer a gate 1 (λ e. omega (arith, e, low))) ∙ h.asked)
            ∙ sym (zeros_joined h.done h.taken);
        sent = sent ∙ h.knows ∙ ap (λ n. n % 0x10000) from;
        window = subst (λ i. Window ring (put f gate 1 tail_place) i h.left) from
            (given_away ring (put f gate 1 tail_place) (first + length h.done) h.taken h.left
            (subst (λ t. Window ring t (first + length h.done) (h.taken ++ h.left)) (sym tail) h.window));
      })

  -- TAIL is moved
  moves : (a : Account) → a.fram gate ≡ 1 → K Before a → K Before (with_fram (put a.fram tail_place (a.fram sent_place)) a)
  moves a one (inl h) = absurd (h.unpending one)
  moves a one (inr h) =
      let f = a.fram in
      let w = f sent_place in
      let sent : put f tail_place w sent_place ≡ w = put_other f tail_place w sent_place (λ e. omega (arith, e)) in
      inr (record {
        done = h.done;
        left = h.left;
        words_are = h.words_are;
        closed = put_other f tail_place w gate (λ e. omega (arith, e, low)) ∙ one;
        committed = h.committed;
        sent = sent ∙ h.sent;
        window = subst (λ t. Window ring t (first + length h.done) h.left) (sym (put_same f tail_place w))
            (moved_there ring (f tail_place) w (first + length h.done) h.left h.sent h.window);
      })

  -- GATE becomes 0
  ends : (a : Account) → a.fram gate ≡ 1 → a.fram tail_place ≡ a.fram sent_place → K Before a → K Before (ended_behind marks a)
  ends a one moved (inl h) = absurd (h.unpending one)
  ends a one moved (inr h) =
      let f = a.fram in
      let tail : put f gate 0 tail_place ≡ f tail_place = put_other f gate 0 tail_place (λ e. omega (arith, e, low)) in
      inl (record {
        done = h.done;
        left = h.left;
        words_are = h.words_are;
        unpending = λ e. let z = put_same f gate 0 in let no : 0 ≡ 1 = sym z ∙ e in omega (arith, no);
        committed = zeros_joined a.committed a.decided ∙ h.committed;
        asked = ap not_zeros (answers_are []);
        tail = tail ∙ moved ∙ h.sent;
        window = subst (λ t. Window ring t (first + length h.done) h.left) (sym tail) h.window;
      })

  -- an effect sees this of the ring, if it looks
  abbrev pub SeesRing : Effect → Type 0
  SeesRing (Store v w) = Unit {0}
  SeesRing (Take r) = Unit {0}
  SeesRing (Outside (Offered n w)) = Unit {0}
  SeesRing (Outside (Looked seen)) = seen ≡ ring

  -- what an effect makes of a history
  module _ (h : History) where
    abbrev a : Account
    a = account_of marks h

    stays : (t : Taking) (e : Effect) → OfStore (IsElsewhere gate) e → (b : Account) → behind marks e a ≡ b → K t b
        → K t (account_of marks (observe_one marks e h))
    stays t e elsewhere b is k = subst (K t) (sym (quiet_account marks e h elsewhere ∙ is)) k

    above : (v place : ℕ) → v ≡ place → tail_place ≤ place → v ≢ gate
    above v place e from same = omega (arith, e, from, same, low)

    stored_at : (t : Taking) (v w place value : ℕ) → v ≡ place → w ≡ value → tail_place ≤ place → place ≢ answer_place
        → K t (with_fram (put a.fram place value) a) → K t (account_of marks (observe_one marks (Store v w) h))
    stored_at t v w place value at is from other k =
        stays t (Store v w) (above v place at from) (with_fram (put a.fram v w) a) (stores_so a v w (λ e. other (sym at ∙ e)))
        (subst (λ f. K t (with_fram f a)) (ap₂ (λ x y. put a.fram x y) (sym at) (sym is)) k)

    answered : (t : Taking) (v w value : ℕ) → v ≡ answer_place → w ≡ value → K t (with_answer value a)
        → K t (account_of marks (observe_one marks (Store v w) h))
    answered t v w value at is k =
        subst (λ (e : Effect). K t (account_of marks (observe_one marks e h))) (ap₂ (λ x y. Store x y) (sym at) (sym is))
        (stays t (Store answer_place value) (above answer_place answer_place refl (omega arith)) (with_answer value a) (answers_so a value) k)

    pub advances : (t u : Taking) (e : Effect) → Advances gate h.world.fram t e u → SeesRing e → K t a → K u (account_of marks (observe_one marks e h))
    advances t _ (Take r) (Takes idle) sees k = stays t (Take r) tt a (takes_so a r) k
    advances t _ (Outside (Offered n w)) (Sends idle) sees k = stays t (Outside (Offered n w)) tt a (outside_so a (Offered n w)) k
    advances t _ (Store v w) (Stores idle below other) sees k =
        stays t (Store v w) other (with_fram (put a.fram v w) a) (stores_so a v w (λ e. omega (arith, e, below)))
        (keeps_like t a (put a.fram v w) (low_like a.fram v w below other) k)
    advances _ _ (Store v w) (Clears at is other) sees k = stored_at Open v w count_place 0 at is (omega arith) (λ e. omega (arith, e)) (clears a other k)
    advances _ _ (Outside (Looked seen)) (Looks {head = head} is) sees k =
        stays (SawHead head) (Outside (Looked seen)) tt a (outside_so a (Looked seen)) (sees_head a head (is ∙ ap (λ f. f head_place) sees) k)
    advances _ _ (Outside (Looked seen)) (Sees {head = head} {word = word} is) sees k =
        stays (SawSlot head word) (Outside (Looked seen)) tt a (outside_so a (Looked seen))
        (sees_slot a head word (is ∙ ap (λ f. f (slot_place (next_index a.fram))) sees) k)
    advances _ _ (Store v w) (AnswersNone {head = head} {word = word} at is same) sees k = answered Open v w 0 at is (answers_none a head word k)
    advances _ _ (Store v w) (AnswersWord {head = head} {word = word} at is other) sees k = answered Took v w word at is (answers_word a head word other k)
    advances _ _ (Store v w) (Counts at is) sees k =
        stored_at Open v w count_place ((a.fram count_place + 1) % 0x10000) at is (omega arith) (λ e. omega (arith, e)) (counts a k)
    advances _ _ (Store v w) (Freezes at is) sees k =
        stored_at Frozen v w sent_place (next_index a.fram) at is (omega arith) (λ e. omega (arith, e)) (freezes a k)
    advances _ _ (Store v w) (Decides at is other) sees k =
        subst (λ (e : Effect). K Before (account_of marks (observe_one marks e h))) (ap₂ (λ x y. Store x y) (sym at) (sym is))
        (subst (K Before) (sym (decided_account marks h other)) (decides a k))
    advances _ _ (Store v w) (Moves at is one) sees k =
        stored_at Before v w tail_place (a.fram sent_place) at is (omega arith) (λ e. omega (arith, e)) (moves a one k)
    advances _ _ (Store v w) (Ends at is one moved) sees k =
        subst (λ (e : Effect). K Before (account_of marks (observe_one marks e h))) (ap₂ (λ x y. Store x y) (sym at) (sym is))
        (subst (K Before) (sym (ended_account marks h one)) (ends a one moved k))

  -- and effects, the first one first
  abbrev pub SeeRing : List Effect → Type 0
  SeeRing [] = Unit {0}
  SeeRing (e ∷ es) = SeesRing e × SeeRing es

  pub effects_advance : (h : History) (f : ℕ → ℕ) (t u : Taking) (es : List Effect) → f ≡ h.world.fram → Follows gate f t es u → SeeRing es
      → K t (account_of marks h) → K u (account_of marks (observe marks es h))
  effects_advance h f t u [] same follows see k = subst (λ v. K v (account_of marks h)) (sym follows) k
  effects_advance h f t u (e ∷ es) same follows see k =
      let one = advances h t follows.0 e (subst (λ g. Advances gate g t e follows.0) same follows.1) see.0 k in
      effects_advance (observe_one marks e h) (fram_after_one e f) follows.0 u es
      (ap (fram_after_one e) same ∙ sym (world_fram (e ∷ []) h.world) ∙ sym (ap (λ x. x.fram) (observed_world marks (e ∷ []) h))) follows.2 see.1 one
