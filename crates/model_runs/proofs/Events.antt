-- One instruction in the two histories: the words that it made the receiver accept, and then its event.
use Rattle.std.proofs.Common.{◌≡◌, ℕ, suc, ◌+◌, ◌-◌, ◌<◌, ◌≤◌, nat_lt, refl, sym, ap, ap₂, ◌∙◌, subst, arith, ◌⊎◌, inl, inr, Bool, true, false, cond}
use Rattle.std.proofs.Common.{if◌then◌else◌, List, [], ◌∷◌, ◌++◌, length, take, drop, append_assoc, append-nil, length-append, Option, Some, None}
use Rattle.std.proofs.Math.Seq.{drop-append_seam}
use Rattle.std.proofs.lemmas.List.{take_all, take-append-le, length-take-le}
use Rattle.std.proofs.lemmas.Bool.{cases_lt}
use Rattle.std.proofs.lemmas.Bool.Decides.{nat_tests}
use Rattle.std.specs.Prelude.{flat_map}
use Rattle.alp_io.specs.Count.{risen}
use Rattle.alp_io.specs.Report.{accepted_line, step_line}
use Rattle.image_map.specs.MapValue.{MapValue}
use Rattle.image_map.specs.Kept.{IsMap}
use Rattle.fram_board.specs.Board.{BoardValue}
use Rattle.fram_board.specs.Effects.{Effect, Outside, Looked}
use Rattle.fram_board.specs.Run.{word_list}
use Rattle.board_run.specs.History.{shared_numbers, word_in, task_name, more_lines, changed_lines, transition_lines, with_word, with_words}
use Rattle.board_run.specs.History.{completed}
use Rattle.board_run.specs.History.{decided}
use Rattle.board_run.specs.History as board
use Rattle.machine_effects.specs.World.{World, world_after, readings_taken, EachStore}
use Rattle.machine_effects.specs.Inputs.{Look, look_effects}
use Rattle.machine_effects.proofs.Interface.{takes, world_after-append}
use Rattle.crash_rules.specs.Model.{IsElsewhere, Marks}
use Rattle.crash_rules.specs.History.{Done, History, is_done, is_decide, behind_decide, behind_done, behind_gate, observe}
use Rattle.crash_rules.proofs.Interface.{observe-append, with_effects, observe_quiet, unchanged}
use Rattle.model_runs.specs.Events.{marks_of, IsInFront, TellsOf, last_world, counted, world_values, words_between, SaysAlike, word_lines, change_lines}
use Rattle.model_runs.specs.Events.{done_lines, dones_lines}
use Rattle.run_charges.proofs.Interface.{AtMostOne, NoWrite, AStore, AnOutside, OneWrite}
use Rattle.model_runs.proofs.Places.{world_word, shared_in, values_same, changes_same}

takes_store : (P : ℕ → ℕ → Type 0) (ws : List ℕ) → EachStore P (takes ws)
takes_store P [] = tt
takes_store P (w ∷ ws) = (tt, takes_store P ws)

takes_world : (ws : List ℕ) (x : World) → world_after (takes ws) x ≡ x
takes_world [] x = refl
takes_world (w ∷ ws) x = takes_world ws x

-- effects behind which there is one event at most, by GATE before and behind all of them
abbrev IsSeen : Marks → List Effect → History → Type 0
IsSeen marks es k = observe marks es k ≡ behind_gate marks (k.world.fram marks.gate) ((world_after es k.world).fram marks.gate) (with_effects es k)

seen_quiet : (marks : Marks) (es : List Effect) (k : History) → EachStore (IsElsewhere marks.gate) es
    → (world_after es k.world).fram ≡ k.world.fram → IsSeen marks es k
seen_quiet marks es k off same =
    observe_quiet marks es k off
    ∙ sym (unchanged marks (k.world.fram marks.gate) (with_effects es k))
    ∙ ap (λ n. behind_gate marks (k.world.fram marks.gate) n (with_effects es k)) (ap (λ f. f marks.gate) (sym same))

seen_one : (marks : Marks) (es : List Effect) (k : History) → AtMostOne es → IsSeen marks es k
seen_one marks es k (NoWrite e) = let P : List Effect → Type 0 = λ l. IsSeen marks l k in subst P (sym e) (seen_quiet marks [] k tt refl)
seen_one marks es k (AStore a w e) = let P : List Effect → Type 0 = λ l. IsSeen marks l k in subst P (sym e) refl
seen_one marks es k (AnOutside o e) =
    let P : List Effect → Type 0 = λ l. IsSeen marks l k in subst P (sym e) (seen_quiet marks (Outside o ∷ []) k (tt, tt) refl)

count_both : (ws : List ℕ) (es : List Effect) (n : ℕ)
    → (n + length (readings_taken (takes ws))) + length (readings_taken es) ≡ n + length (readings_taken (takes ws ++ es))
count_both [] es n = omega arith
count_both (w ∷ ws) es n = let h = count_both ws es n in omega arith

with_both : (ws : List ℕ) (es : List Effect) (k : History) → with_effects es (with_effects (takes ws) k) ≡ with_effects (takes ws ++ es) k
with_both ws es k =
    ap (λ x. record k {
      world = x;
      taken = (k.taken + length (readings_taken (takes ws))) + length (readings_taken es);
      effects = (k.effects ++ takes ws) ++ es;
    }) (sym (world_after-append (takes ws) es k.world))
    ∙ ap₂ (λ t l. record k { world = world_after (takes ws ++ es) k.world; taken = t; effects = l }) (count_both ws es k.taken)
    (append_assoc k.effects (takes ws) es)

-- what is seen of readings taken, and then of one write at most
seen_taking : (marks : Marks) (ws : List ℕ) (write : List Effect) (k : History) → AtMostOne write → IsSeen marks (takes ws ++ write) k
seen_taking marks ws write k one =
    let j = with_effects (takes ws) k in
    let before : ℕ = j.world.fram marks.gate in
    let now : ℕ = (world_after write j.world).fram marks.gate in
    observe-append marks (takes ws) write k
    ∙ ap (observe marks write) (observe_quiet marks (takes ws) k (takes_store (IsElsewhere marks.gate) ws))
    ∙ seen_one marks write j one
    ∙ ap (behind_gate marks before now) (with_both ws write k)
    ∙ ap (λ y. behind_gate marks (y.fram marks.gate) now (with_effects (takes ws ++ write) k)) (takes_world ws k.world)
    ∙ ap (λ y. behind_gate marks (k.world.fram marks.gate) (y.fram marks.gate) (with_effects (takes ws ++ write) k))
    (sym (world_after-append (takes ws) write k.world))

-- the same behind a look
with_look : (look : Look) (es : List Effect) (k : History) → with_effects es (with_effects (Outside (Looked look) ∷ []) k)
    ≡ with_effects (Outside (Looked look) ∷ es) k
with_look look es k =
    ap₂ (λ t l. record k { world = world_after es (with_effects (Outside (Looked look) ∷ []) k).world; taken = t; effects = l })
    (omega arith) (append_assoc k.effects (Outside (Looked look) ∷ []) es)

seen_behind : (marks : Marks) (looks : List Look) (es : List Effect) (k : History) → ((j : History) → IsSeen marks es j)
    → IsSeen marks (look_effects looks ++ es) k
seen_behind marks [] es k all = all k
seen_behind marks (look ∷ more) es k all =
    let first : List Effect = Outside (Looked look) ∷ [] in
    let j = with_effects first k in
    ap (observe marks es) (observe_quiet marks first k (tt, tt))
    ∙ all j
    ∙ ap (behind_gate marks (k.world.fram marks.gate) ((world_after es j.world).fram marks.gate)) (with_look look es k)

-- what is seen of an instruction, by GATE before and behind it
pub seen : (marks : Marks) (es : List Effect) (k : History) → OneWrite es
    → observe marks es k ≡ behind_gate marks (k.world.fram marks.gate) ((world_after es k.world).fram marks.gate) (with_effects es k)
seen marks es k h =
    let P : List Effect → Type 0 = λ l. IsSeen marks l k in
    subst P (sym h.split) (seen_behind marks h.looks (takes h.words ++ h.write) k (λ j. seen_taking marks h.words h.write j h.one))

-- the world behind one more done
pub last-append : (x : World) (ds es : List Done) → last_world x (ds ++ es) ≡ last_world (last_world x ds) es
last-append x [] es = refl
last-append x (d ∷ ds) es = last-append d.world ds es

-- accepted words
few_kept : (h : board.History) (w : ℕ) → length h.accepted < 256 → with_word h w ≡ record h { accepted = h.accepted ++ w ∷ [] }
few_kept h w l =
    let t : nat_lt (length h.accepted) 256 ≡ true = grind (arith, nat_tests) in
    ap (λ b. if b then record h { accepted = h.accepted ++ w ∷ [] } else record h { more = risen h.more }) t

many_kept : (h : board.History) (w : ℕ) → 256 ≤ length h.accepted → with_word h w ≡ record h { more = risen h.more }
many_kept h w l =
    let t : nat_lt (length h.accepted) 256 ≡ false = grind (arith, nat_tests) in
    ap (λ b. if b then record h { accepted = h.accepted ++ w ∷ [] } else record h { more = risen h.more }) t

-- histories that differ in the words accepted and in what no line tells
record Follows (k j : History) (ws : List ℕ) : Type 0 where
  pub completed : j.completed ≡ k.completed
  pub accepted : j.world.accepted ≡ k.world.accepted ++ ws
  pub since : j.since ≡ k.since
  pub span_from : j.span_from ≡ k.span_from
  pub span_to : j.span_to ≡ k.span_to

module _ (m : MapValue) (x : World) where
  -- a history with these accepted words says what another does but for the words
  alike_with : (h : board.History) (k j : History) (ws more : List ℕ) (n : ℕ) → (a : SaysAlike m x h k) → Follows k j ws
      → more ≡ take 256 (a.words ++ ws) → n ≡ counted (length (a.words ++ ws) - 256) → SaysAlike m x (record h { accepted = more; more = n }) j
  alike_with h k j ws more n a f e g =
      let same = f.completed in
      record {
        mapped = a.mapped;
        completed = a.completed ∙ ap (λ ds. counted (length ds)) (sym same);
        task = a.task ∙ ap (λ ds. (last_world x ds).fram m.words.current_task) (sym same);
        shared = a.shared ∙ ap (λ ds. world_values (last_world x ds) (shared_numbers m.variables)) (sym same);
        words = a.words ++ ws;
        words_are = f.accepted ∙ ap (λ l. l ++ ws) a.words_are ∙ append_assoc (last_world x k.completed).accepted a.words ws
            ∙ ap (λ ds. (last_world x ds).accepted ++ (a.words ++ ws)) (sym same);
        accepted = e;
        more = g;
        since = a.since ∙ sym f.since;
        span_from = a.span_from ∙ sym f.span_from;
        span_to = a.span_to ∙ sym f.span_to;
      }

  one_more : (h : board.History) (k j : History) (w : ℕ) → (a : SaysAlike m x h k) → Follows k j (w ∷ [])
      → (length a.words < 256) ⊎ (256 ≤ length a.words) → SaysAlike m x (with_word h w) j
  one_more h k j w a f (inl l) =
      let P : board.History → Type 0 = λ y. SaysAlike m x y j in
      let all : h.accepted ≡ a.words = a.accepted ∙ take_all 256 a.words (omega arith) in
      let len = ap length all in
      let longer = length-append a.words (w ∷ []) in
      let none : length (a.words ++ w ∷ []) - 256 ≡ length a.words - 256 = omega (arith, longer) in
      subst P (sym (few_kept h w (omega arith)))
      (alike_with h k j (w ∷ []) (h.accepted ++ w ∷ []) h.more a f
      (ap (λ l. l ++ w ∷ []) all ∙ sym (take_all 256 (a.words ++ w ∷ []) (omega (arith, longer))))
      (a.more ∙ ap counted (sym none)))
  one_more h k j w a f (inr l) =
      let P : board.History → Type 0 = λ y. SaysAlike m x y j in
      let len : length h.accepted ≡ 256 = ap length a.accepted ∙ length-take-le 256 a.words l in
      let longer = length-append a.words (w ∷ []) in
      let next : suc (length a.words - 256) ≡ length (a.words ++ w ∷ []) - 256 = omega (arith, longer) in
      subst P (sym (many_kept h w (omega arith)))
      (alike_with h k j (w ∷ []) h.accepted (risen h.more) a f
      (a.accepted ∙ sym (take-append-le 256 a.words (w ∷ []) l))
      (ap risen a.more ∙ ap counted next))

  words_alike : (h : board.History) (k j : History) (o : Option ℕ) → SaysAlike m x h k → Follows k j (word_list o)
      → SaysAlike m x (with_words h (word_list o)) j
  words_alike h k j None a f =
      alike_with h k j [] h.accepted h.more a f (a.accepted ∙ ap (take 256) (sym (append-nil a.words)))
      (a.more ∙ ap (λ l. counted (length l - 256)) (sym (append-nil a.words)))
  words_alike h k j (Some w) a f = one_more h k j w a f (cases_lt (length a.words) 256)

kept_gate : (b : Bool) (h : board.History) (w : ℕ)
    → (if b then record h { accepted = h.accepted ++ w ∷ [] } else record h { more = risen h.more }).gate ≡ h.gate
kept_gate true h w = refl
kept_gate false h w = refl

pub words_keep_gate : (h : board.History) (o : Option ℕ) → (with_words h (word_list o)).gate ≡ h.gate
words_keep_gate h None = refl
words_keep_gate h (Some w) = kept_gate (nat_lt (length h.accepted) 256) h w

-- events
abbrev pub gated_from : MapValue → board.History → BoardValue → ℕ → ℕ → board.History
gated_from m h b before now =
    record (if is_done before now then completed m h b else if is_decide before now then decided h b else h) { gate = now }

abbrev pub gate_lines : MapValue → board.History → BoardValue → ℕ → ℕ → List ℕ
gate_lines m h b before now = if is_done before now then transition_lines m h b else []

-- what an event adds
pub record Told (m : MapValue) (x : World) (k j : History) (lines : List ℕ) : Type 0 where
  pub dones : List Done
  pub completed : j.completed ≡ k.completed ++ dones
  pub told : lines ≡ dones_lines m (counted (length k.completed)) (last_world x k.completed) dones

module _ (m : MapValue) (x : World) (ok : IsMap m) (front : IsInFront m) (h : board.History) (k : History) (b : BoardValue) (a : SaysAlike m x h k)
    (t : TellsOf b k) (now : ℕ) where
  abbrev marks : Marks
  marks = marks_of m

  abbrev done : Done
  done = record { span_from = k.span_from; span_to = k.span_to; answers = k.answers; world = k.world }

  abbrev last : World
  last = last_world x k.completed

  there : last_world x (k.completed ++ done ∷ []) ≡ k.world
  there = last-append x k.completed (done ∷ [])

  task_now : word_in b.fram m.words.current_task ≡ k.world.fram m.words.current_task
  task_now = world_word b k.world m.words.current_task t.fram ok.words.current_task front.current_task

  done_alike : SaysAlike m x (record (completed m h b) { gate = now }) (behind_done k)
  done_alike =
      let more : suc (length k.completed) ≡ length (k.completed ++ done ∷ []) = omega (arith, length-append k.completed (done ∷ [])) in
      record {
        mapped = a.mapped;
        completed = ap risen a.completed ∙ ap counted more;
        task = task_now ∙ ap (λ y. y.fram m.words.current_task) (sym there);
        shared = values_same b k.world (shared_numbers m.variables) t.fram (shared_in m.variables ok.variables front.variables)
            ∙ ap (λ y. world_values y (shared_numbers m.variables)) (sym there);
        words = [];
        words_are = ap (λ y. y.accepted) (sym there) ∙ sym (append-nil (last_world x (k.completed ++ done ∷ [])).accepted);
        accepted = refl;
        more = refl;
        since = sym t.taken;
        span_from = a.span_from;
        span_to = a.span_to;
      }

  decide_alike : SaysAlike m x (record (decided h b) { gate = now }) (behind_decide marks k)
  decide_alike = record {
    mapped = a.mapped;
    completed = a.completed;
    task = a.task;
    shared = a.shared;
    words = a.words;
    words_are = a.words_are;
    accepted = a.accepted;
    more = a.more;
    since = a.since;
    span_from = a.since;
    span_to = sym t.taken;
  }

  same_alike : SaysAlike m x (record h { gate = now }) k
  same_alike = record {
    mapped = a.mapped;
    completed = a.completed;
    task = a.task;
    shared = a.shared;
    words = a.words;
    words_are = a.words_are;
    accepted = a.accepted;
    more = a.more;
    since = a.since;
    span_from = a.span_from;
    span_to = a.span_to;
  }

  pub event_alike : (before : ℕ) → SaysAlike m x (gated_from m h b before now) (behind_gate marks before now k)
  event_alike before =
      elim (is_done before now) as (λ p. SaysAlike m x
      (record (if p then completed m h b else if is_decide before now then decided h b else h) { gate = now })
      (cond p (behind_done k) (cond (is_decide before now) (behind_decide marks k) k))) [
        | true ↦ done_alike
        | false ↦ elim (is_decide before now) as (λ q. SaysAlike m x
            (record (if q then decided h b else h) { gate = now }) (cond q (behind_decide marks k) k)) [ true ↦ decide_alike | false ↦ same_alike ]
      ]

  words_same : words_between last k.world ≡ a.words
  words_same = ap (drop (length last.accepted)) a.words_are ∙ drop-append_seam last.accepted a.words

  first_line : step_line (risen h.completed) (task_name m.tasks h.task) (task_name m.tasks (word_in b.fram m.words.current_task)) h.span_from h.span_to
      ≡ step_line (risen (counted (length k.completed))) (task_name m.tasks (last.fram m.words.current_task))
      (task_name m.tasks (k.world.fram m.words.current_task)) k.span_from k.span_to
  first_line =
      ap (λ n. step_line (risen n) (task_name m.tasks h.task) (task_name m.tasks (word_in b.fram m.words.current_task)) h.span_from h.span_to) a.completed
      ∙ ap₂ (λ p q. step_line (risen (counted (length k.completed))) (task_name m.tasks p) (task_name m.tasks q) h.span_from h.span_to) a.task task_now
      ∙ ap₂ (λ p q. step_line (risen (counted (length k.completed))) (task_name m.tasks (last.fram m.words.current_task))
      (task_name m.tasks (k.world.fram m.words.current_task)) p q) a.span_from a.span_to

  change_same : changed_lines (shared_numbers m.variables) h.shared b.fram ≡ change_lines (shared_numbers m.variables) last k.world
  change_same =
      ap (λ l. changed_lines (shared_numbers m.variables) l b.fram) a.shared
      ∙ changes_same b last k.world (shared_numbers m.variables) t.fram (shared_in m.variables ok.variables front.variables)

  other_lines : flat_map accepted_line h.accepted ++ (more_lines h.more ++ changed_lines (shared_numbers m.variables) h.shared b.fram)
      ≡ word_lines (words_between last k.world) ++ change_lines (shared_numbers m.variables) last k.world
  other_lines =
      ap₂ (λ p q. flat_map accepted_line p ++ (more_lines q ++ changed_lines (shared_numbers m.variables) h.shared b.fram)) a.accepted a.more
      ∙ sym (append_assoc (flat_map accepted_line (take 256 a.words)) (more_lines (counted (length a.words - 256)))
      (changed_lines (shared_numbers m.variables) h.shared b.fram))
      ∙ ap₂ (λ p q. word_lines p ++ q) (sym words_same) change_same

  done_told : Told m x k (behind_done k) (transition_lines m h b)
  done_told = record {
    dones = done ∷ [];
    completed = refl;
    told = ap₂ (λ p q. p ++ q) first_line other_lines
        ∙ sym (append-nil (done_lines m (risen (counted (length k.completed))) last done));
  }

  none_told : (j : History) → j.completed ≡ k.completed → Told m x k j []
  none_told j e = record { dones = []; completed = e ∙ sym (append-nil k.completed); told = refl }

  pub event_told : (before : ℕ) → Told m x k (behind_gate marks before now k) (gate_lines m h b before now)
  event_told before =
      elim (is_done before now) as (λ p. Told m x k
      (cond p (behind_done k) (cond (is_decide before now) (behind_decide marks k) k)) (if p then transition_lines m h b else [])) [
        | true ↦ done_told
        | false ↦ elim (is_decide before now) as (λ q. Told m x k (cond q (behind_decide marks k) k) []) [
          | true ↦ none_told (behind_decide marks k) refl
          | false ↦ none_told k refl
        ]
      ]

-- the words that an instruction made the receiver accept, before its event
pub words_told : (m : MapValue) (x : World) (h : board.History) (k : History) (es : List Effect) (o : Option ℕ) → SaysAlike m x h k
    → (world_after es k.world).accepted ≡ k.world.accepted ++ word_list o → SaysAlike m x (with_words h (word_list o)) (with_effects es k)
words_told m x h k es o a e =
    words_alike m x h k (with_effects es k) o a (record { completed = refl; accepted = e; since = refl; span_from = refl; span_to = refl })
