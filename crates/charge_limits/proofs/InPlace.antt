-- Under undo, too, what a run follows from a power-up or a done on takes no more readings, and offers no more words, than a task's text has: entries that are
-- put back take and offer nothing, and leave CUR as it is.
use Rattle.std.proofs.Common.{◌≡◌, ℕ, suc, ◌+◌, ◌≤◌, ◌==◌, Bool, true, false, if◌then◌else◌, List, [], ◌∷◌, ◌++◌, length, refl, sym, ap, ◌∙◌, subst, arith}
use Rattle.cost_bound.specs.Summaries.{summaries}
use Rattle.machine_effects.specs.fram_board.Effects.{Effect}
use Rattle.machine_effects.specs.World.{World, fram_after, world_after, readings_taken, looks_taken}
use Rattle.machine_effects.specs.Inputs.{Inputs}
use Rattle.cost_bound.specs.Counts.{emits_of}
use Rattle.source_values.specs.Runs.{CheckedProgram, State, task_body}
use Rattle.array_versions.specs.Behaviour.{started}
use Rattle.memory_map.specs.declared.words.RuntimeWord.TheVariants.{CurrentTask, Gate, EmitCount, SentBase}
use Rattle.memory_map.specs.MemoryMap.{MemoryMap, word_place}
use Rattle.memory_map.specs.Laws.{AreApart}
use Rattle.runtime_effects.specs.Stages.{emits_sent, clearing_if, is_at_end, tail_moved}
use Rattle.undo_effects.specs.Entries.{Logged, logged, undone}
use Rattle.undo_effects.specs.Stages.{word_logged, words_logged, undo_opening, undo_start, put_back, recovery, moved_on, let_go, undo_commit}
use Rattle.undo_effects.proofs.Interface.{undone_other}
use Rattle.undo_states.proofs.Interface.{settled_stands}
use Rattle.crash_rules.specs.Model.{Model, ModelLaws, ProgramEffects, program_effects, behind_effects, with_commit, attempt_from, script}
use Rattle.crash_rules.specs.History.{Done, History, inputs_from}
use Rattle.crash_rules.specs.Laws.{Origin, StandsFor, StartsFrom, FromUndecided, FromDecided, FromCommitting, FollowsScript}
use Rattle.crash_rules.proofs.Interface.{world_fram}
use Rattle.stands_for.specs.Layout.{HaveRoom}
use Rattle.compiled_model.specs.Places.{program_places}
use Rattle.compiled_model.specs.View.{state_view}
use Rattle.compiled_model.specs.Parts.{logged_model, private_homes, task_program}
use Rattle.task_readings.specs.Readings.{block_readings, reading_counts}
use Rattle.charge_limits.specs.Laws.{readings_from, words_from}
use Rattle.charge_limits.proofs.Weights.{weighed, weighed-append, readings_weigh, words_weigh, none_offered}
use Rattle.charge_limits.proofs.Takes.{program_takes}
use Rattle.charge_limits.proofs.Models.{offered, Offers, words_follow}
use Rattle.charge_limits.proofs.Lowered.{task_few}
use Rattle.charge_limits.proofs.Scripts.{Weighs, two_weigh, where_none, clearing_none, sends_no_reading, sends_few, either_few, same_words, WordsFollow}

-- ---- the runtime takes no reading, and its starts and recoveries offer no word

module _ (weight : ℕ) where
  back_none : (es : List Logged) → Weighs weight 0 (put_back es)
  back_none [] = omega arith
  back_none (e ∷ es) = two_weigh weight 0 (put_back es) _ (back_none es) (omega arith)

  recovery_none : (l : MemoryMap) (f : ℕ → ℕ) → Weighs weight 0 (recovery l f)
  recovery_none l f = two_weigh weight 0 (put_back (logged l f)) _ (back_none (logged l f)) (omega arith)

  words_none : (l : MemoryMap) (xs : List ℕ) (f : ℕ → ℕ) → Weighs weight 0 (words_logged l xs f)
  words_none l [] f = omega arith
  words_none l (a ∷ xs) f = words_none l xs (fram_after (word_logged l a f) f)

  opening_none : (l : MemoryMap) (f : ℕ → ℕ) → Weighs weight 0 (undo_opening l f)
  opening_none l f =
      two_weigh weight 0 (clearing_if l (is_at_end l f)) _ (clearing_none weight l (is_at_end l f)) (where_none weight l.runtime.events _ (omega arith))

  start_none : (l : MemoryMap) (privates : ℕ → List ℕ) (f : ℕ → ℕ) → Weighs weight 0 (undo_start l privates f)
  start_none l privates f =
      let xs = privates (f (word_place l CurrentTask)) in
      let g = fram_after (undo_opening l f) f in
      two_weigh weight 0 (undo_opening l f) (words_logged l xs g) (opening_none l f) (words_none l xs g)

  -- of a commit only the words that it sends have a weight
  commit_weighs : (l : MemoryMap) (n : ℕ) (f : ℕ → ℕ) → Weighs weight n (emits_sent l f) → Weighs weight n (undo_commit l f)
  commit_weighs l n f sent =
      let last : List Effect = tail_moved l f ++ (moved_on l f ++ let_go l) in
      let closes : Weighs weight 0 last = two_weigh weight 0 (tail_moved l f) _ (where_none weight l.runtime.events _ (omega arith)) (omega arith) in
      let all = weighed-append weight (emits_sent l f) last in
      omega (arith, all, sent, closes)

  -- an attempt weighs no more than its task's text has readings, whatever a word weighs
  attempt_weighs : (p : CheckedProgram) (l : MemoryMap) (f : ℕ → ℕ) (inputs : Inputs)
      → Weighs weight (block_readings (reading_counts p) (task_body p (f (word_place l CurrentTask)))) ((logged_model p l).attempt f inputs).effects
  attempt_weighs p l f inputs =
      let k = f (word_place l CurrentTask) in
      let es = undo_start l (private_homes l) f in
      let own = program_takes weight (task_program p l k) (started (fram_after es f) inputs) in
      let text = task_few p l k in
      two_weigh weight (block_readings (reading_counts p) (task_body p k)) es _ (start_none l (private_homes l) f) (omega (arith, own, text))

commit_none : (l : MemoryMap) (f : ℕ → ℕ) → weighed 0 (undo_commit l f) ≤ 0
commit_none l f = commit_weighs 0 l 0 f (sends_no_reading (f (word_place l EmitCount)) (f (word_place l SentBase)) l.emits.address f)

-- ---- readings

module _ (p : CheckedProgram) (l : MemoryMap) (apart : AreApart l) (laws : ModelLaws (logged_model p l)) where
  abbrev m : Model State
  m = logged_model p l

  abbrev text_of : (ℕ → ℕ) → ℕ
  text_of f = block_readings (reading_counts p) (task_body p (f (word_place l CurrentTask)))

  taken_few : (n : ℕ) (f : ℕ → ℕ) (inputs : Inputs) (a : ProgramEffects) → weighed 0 a.effects ≤ n → weighed 0 (with_commit m f inputs a).effects ≤ n
  taken_few n f inputs a few =
      let tail : Bool → List Effect = λ ends. if ends then undo_commit l (fram_after a.effects f) else [] in
      let all = weighed-append 0 a.effects (tail a.ends) in
      let last = last_none a.ends in
      omega (arith, all, few, last)
    where
      last_none : (ends : Bool) → weighed 0 (if ends then undo_commit l (fram_after a.effects f) else []) ≤ 0
      last_none true = commit_none l (fram_after a.effects f)
      last_none false = omega arith

  -- a recovery leaves CUR as it is
  same_task : (s : State) (x : World) → m.Undecided s x → let es = recovery l x.fram in
      fram_after es x.fram (word_place l CurrentTask) ≡ x.fram (word_place l CurrentTask)
  same_task s x u =
      let current = word_place l CurrentTask in
      let es = recovery l x.fram in
      let y = world_after es x in
      let behind : y.fram current ≡ s.task =
      (settled_stands (program_places p l) (state_view p l) s y (laws.recovers s x u).settled).is_open.current_task in
      let before : undone (logged l x.fram) x.fram current ≡ s.task = u.behind.is_open.current_task in
      let same = undone_other (logged l x.fram) x.fram current (λ h. let word = u.shared current h in omega (arith, apart, word)) in
      ap (λ f. f current) (sym (world_fram es x)) ∙ behind ∙ sym before ∙ same

  due_few : (booted : Bool) (s : State) (x : World) (inputs : Inputs) → m.Undecided s x
      → weighed 0 (with_commit m x.fram inputs (attempt_from m booted x.fram inputs)).effects ≤ text_of x.fram
  due_few false s x inputs u = taken_few (text_of x.fram) x.fram inputs (m.attempt x.fram inputs) (attempt_weighs 0 p l x.fram inputs)
  due_few true s x inputs u =
      let es = recovery l x.fram in
      let f = fram_after es x.fram in
      let a = m.attempt f inputs in
      let own = attempt_weighs 0 p l f inputs in
      let same : text_of f ≡ text_of x.fram = ap (λ k. block_readings (reading_counts p) (task_body p k)) (same_task s x u) in
      let back = recovery_none 0 l x.fram in
      let all = weighed-append 0 es a.effects in
      taken_few (text_of x.fram) x.fram inputs (behind_effects es a) (omega (arith, own, same, back, all))

  -- the script of a world with a commit that is due
  pending_few : (booted : Bool) (x : World) (inputs : Inputs) → x.fram (word_place l Gate) ≡ 1
      → weighed 0 (script m booted x.fram inputs).effects ≤ readings_from p l x.fram
  pending_few booted x inputs gate =
      let commit = program_effects (m.commit x.fram inputs) true in
      let attempt = with_commit m x.fram inputs (attempt_from m booted x.fram inputs) in
      let P : ℕ → Type 0 = λ g. weighed 0 (if g == 1 then commit else attempt).effects ≤ (if g == 1 then 0 else text_of x.fram) in
      subst P (sym gate) (commit_none l x.fram)

  script_few : (origin : Origin State) (booted : Bool) (ds : List Done) (s : State) (x : World) (inputs : Inputs) → StartsFrom m origin booted ds s x
      → weighed 0 (script m booted x.fram inputs).effects ≤ readings_from p l x.fram
  script_few origin booted ds s x inputs (FromUndecided settled u k) =
      either_few (weighed 0) (x.fram (word_place l Gate) == 1) (program_effects (m.commit x.fram inputs) true)
      (with_commit m x.fram inputs (attempt_from m booted x.fram inputs)) (text_of x.fram) (commit_none l x.fram) (due_few booted s x inputs u)
  script_few origin booted ds s x inputs (FromDecided next settled d) =
      pending_few booted x inputs (laws.committing_gate next x (laws.decided_committing s next x d))
  script_few origin booted ds s x inputs (FromCommitting pending c) = pending_few booted x inputs (laws.committing_gate s x c)

  pub logged_follows_few : (readings : List ℕ) (origin : Origin State) (h : History) → FollowsScript m readings h → StandsFor m readings origin h
      → length (readings_taken h.effects) ≤ readings_from p l h.start.fram
  logged_follows_few readings origin h follows stands =
      let inputs = inputs_from readings h.since (looks_taken h.effects ++ follows.left) in
      let all = weighed-append 0 h.effects follows.follows.rest in
      let same = ap (weighed 0) follows.follows.joins in
      let whole = script_few origin h.booted h.completed stands.state h.start inputs stands.starts in
      let count = readings_weigh 0 h.effects in
      omega (arith, all, same, whole, count)

-- ---- words

module _ (p : CheckedProgram) (l : MemoryMap) (room : HaveRoom (program_places p l)) where
  abbrev mw : Model State
  mw = logged_model p l

  recovery_offers_none : (f : ℕ → ℕ) → offered (recovery l f) ≡ 0
  recovery_offers_none f = let light = recovery_none 1 l f in none_offered 1 (recovery l f) (omega (arith, light))

  attempt_offers_none : (f : ℕ → ℕ) (inputs : Inputs) → offered (mw.attempt f inputs).effects ≡ 0
  attempt_offers_none f inputs =
      let most = block_readings (reading_counts p) (task_body p (f (word_place l CurrentTask))) in
      let light = attempt_weighs (suc most) p l f inputs in
      none_offered (suc most) (mw.attempt f inputs).effects (omega (arith, light))

  -- a commit offers no more than the words that are emitted in FRAM
  commit_offers_few : (f : ℕ → ℕ) → offered (undo_commit l f) ≤ f (word_place l EmitCount)
  commit_offers_few f =
      let n = f (word_place l EmitCount) in
      let weight = commit_weighs 1 l n f (sends_few n (f (word_place l SentBase)) l.emits.address f) in
      let words = words_weigh (undo_commit l f) in
      omega (arith, weight, words)

  decided_offers_few : (s next : State) (x : World) → mw.Decided s next x → offered (undo_commit l x.fram) ≤ emits_of (summaries p) (task_body p s.task)
  decided_offers_few s next x d =
      let few = commit_offers_few x.fram in
      let count = d.closes.sends.emit_count in
      let within = d.closes.sends.within_emits in
      omega (arith, few, count, within)

  committing_offers_few : (to : State) (x : World) → mw.Committing to x → offered (undo_commit l x.fram) ≤ l.emits.words
  committing_offers_few to x c =
      let few = decided_offers_few c.from to x c.decided in
      let fits = room.emits c.from.task c.decided.closes.sends.is_task in
      omega (arith, few, fits)

  -- as the law of models wants it
  offers : Offers mw (λ s. emits_of (summaries p) (task_body p s.task)) l.emits.words
  offers = record {
    recoveries = recovery_offers_none;
    attempts = attempt_offers_none;
    decided = λ s next x inputs d. decided_offers_few s next x d;
    committing = λ to x inputs c. committing_offers_few to x c;
  }

  pub words_under_undo : WordsFollow p l mw
  words_under_undo laws readings origin h follows stands =
      subst (λ n. offered h.effects ≤ n) (same_words p l origin h.completed stands.state)
      (words_follow mw laws (λ s. emits_of (summaries p) (task_body p s.task)) l.emits.words offers readings origin h follows stands)
