-- What a run follows under redo from a power-up or a done on takes no more readings, and offers no more words, than a task's text has.
use Rattle.std.proofs.Common.{◌≡◌, ℕ, zero, suc, ◌+◌, ◌%◌, ◌≤◌, ◌==◌, Bool, true, false, if◌then◌else◌, List, [], ◌∷◌, ◌++◌, length, refl, sym, ap, subst}
use Rattle.std.proofs.Common.{arith}
use Rattle.machine_effects.specs.fram_board.Effects.{Effect}
use Rattle.machine_effects.specs.World.{World, fram_after, readings_taken, looks_taken}
use Rattle.machine_effects.specs.Inputs.{Inputs}
use Rattle.cost_bound.specs.Summaries.{summaries}
use Rattle.cost_bound.specs.Counts.{emits_of}
use Rattle.source_values.specs.Runs.{CheckedProgram, State, task_body}
use Rattle.array_versions.specs.Behaviour.{started}
use Rattle.memory_map.specs.declared.words.RuntimeWord.TheVariants.{CurrentTask, Gate, EmitCount, SentBase}
use Rattle.memory_map.specs.MemoryMap.{MemoryMap, word_place, where_events}
use Rattle.runtime_effects.specs.Places.{CopyPair, listed}
use Rattle.runtime_effects.specs.Stages.{copied_home, sends, emits_sent, commit_closed, commit_effects, cleared, clearing_if, opening_effects}
use Rattle.runtime_effects.specs.Stages.{copied_in, start_effects, is_at_end, tail_moved}
use Rattle.boot_runtime.specs.Entries.{task_entries}
use Rattle.boot_runtime.specs.Listing.{privates_in}
use Rattle.crash_rules.specs.Model.{Model, ModelLaws, ProgramEffects, program_effects, with_commit, attempt_from, script}
use Rattle.crash_rules.specs.History.{Done, History, inputs_from}
use Rattle.crash_rules.specs.Laws.{Origin, Resting, Pending, StandsFor, FollowsScript}
use Rattle.compiled_model.specs.Parts.{redo_model, task_program}
use Rattle.task_readings.specs.Readings.{block_readings, reading_counts}
use Rattle.charge_limits.specs.Laws.{readings_from, words_from}
use Rattle.charge_limits.proofs.Weights.{weighed, weighed-append, readings_weigh, words_weigh, none_offered}
use Rattle.charge_limits.proofs.Takes.{program_takes}
use Rattle.charge_limits.proofs.Models.{offered, Offers, offered_from, words_follow}
use Rattle.charge_limits.proofs.Lowered.{task_few}

-- ---- the runtime takes no reading, and its starts offer no word

module _ (weight : ℕ) where
  abbrev pub Weighs : ℕ → List Effect → Type 0
  Weighs n es = weighed weight es ≤ n

  pub two_weigh : (n : ℕ) (a b : List Effect) → Weighs 0 a → Weighs n b → Weighs n (a ++ b)
  two_weigh n a b h k = let all = weighed-append weight a b in omega (arith, all, h, k)

  pub where_none : (events : Bool) (es : List Effect) → Weighs 0 es → Weighs 0 (where_events events es)
  where_none true es h = h
  where_none false es h = omega arith

  home_none : (ps : List CopyPair) (f : ℕ → ℕ) → Weighs 0 (copied_home ps f)
  home_none [] f = omega arith
  home_none (x ∷ xs) f = home_none xs _

  closed_none : (l : MemoryMap) (f : ℕ → ℕ) → Weighs 0 (commit_closed l f)
  closed_none l f = two_weigh 0 (tail_moved l f) _ (where_none l.runtime.events _ (omega arith)) (omega arith)

  -- of a commit only the words that it sends have a weight
  commit_weighs : (l : MemoryMap) (n : ℕ) (f : ℕ → ℕ) → Weighs n (emits_sent l f) → Weighs n (commit_effects l f)
  commit_weighs l n f sent =
      let closes = closed_none l f in
      let all = weighed-append weight (emits_sent l f) (commit_closed l f) in
      two_weigh n (copied_home (listed l f) f) (emits_sent l f ++ commit_closed l f) (home_none (listed l f) f) (omega (arith, all, sent, closes))

  cleared_none : (n p : ℕ) → Weighs 0 (cleared n p)
  cleared_none zero p = omega arith
  cleared_none (suc n) p = cleared_none n (p + 2)

  pub clearing_none : (l : MemoryMap) (comes : Bool) → Weighs 0 (clearing_if l comes)
  clearing_none l true = two_weigh 0 (cleared l.versions.words l.versions.address) _ (cleared_none l.versions.words l.versions.address) (omega arith)
  clearing_none l false = omega arith

  in_none : (ps : List CopyPair) (f : ℕ → ℕ) → Weighs 0 (copied_in ps f)
  in_none [] f = omega arith
  in_none (x ∷ xs) f = in_none xs _

  opening_none : (l : MemoryMap) (f : ℕ → ℕ) → Weighs 0 (opening_effects l f)
  opening_none l f = two_weigh 0 (clearing_if l (is_at_end l f)) _ (clearing_none l (is_at_end l f)) (where_none l.runtime.events _ (omega arith))

  start_none : (l : MemoryMap) (privates : ℕ → List CopyPair) (f : ℕ → ℕ) → Weighs 0 (start_effects l privates f)
  start_none l privates f =
      let ps = privates (f (word_place l CurrentTask)) in
      let g = fram_after (opening_effects l f) f in
      two_weigh 0 (opening_effects l f) (copied_in ps g) (opening_none l f) (in_none ps g)

  -- an attempt weighs no more than its task's text has readings, whatever a word weighs
  attempt_weighs : (p : CheckedProgram) (l : MemoryMap) (f : ℕ → ℕ) (inputs : Inputs)
      → Weighs (block_readings (reading_counts p) (task_body p (f (word_place l CurrentTask)))) ((redo_model p l).attempt f inputs).effects
  attempt_weighs p l f inputs =
      let k = f (word_place l CurrentTask) in
      let es = start_effects l (privates_in (task_entries l)) f in
      let own = program_takes weight (task_program p l k) (started (fram_after es f) inputs) in
      let text = task_few p l k in
      two_weigh (block_readings (reading_counts p) (task_body p k)) es _ (start_none l (privates_in (task_entries l)) f) (omega (arith, own, text))

-- ---- readings

pub sends_no_reading : (n number p : ℕ) (f : ℕ → ℕ) → weighed 0 (sends n number p f) ≤ 0
sends_no_reading zero number p f = omega arith
sends_no_reading (suc n) number p f = let rest = sends_no_reading n ((number + 1) % 0x10000) (p + 2) f in omega (arith, rest)

commit_none : (l : MemoryMap) (f : ℕ → ℕ) → weighed 0 (commit_effects l f) ≤ 0
commit_none l f = commit_weighs 0 l 0 f (sends_no_reading (f (word_place l EmitCount)) (f (word_place l SentBase)) l.emits.address f)

-- ---- words

pub sends_few : (n number p : ℕ) (f : ℕ → ℕ) → weighed 1 (sends n number p f) ≤ n
sends_few zero number p f = omega arith
sends_few (suc n) number p f = let rest = sends_few n ((number + 1) % 0x10000) (p + 2) f in omega (arith, rest)

-- ---- scripts

-- the commit, or an attempt
pub either_few : (count : List Effect → ℕ) (pending : Bool) (a b : ProgramEffects) (n : ℕ) → count a.effects ≤ 0 → count b.effects ≤ n
    → count (if pending then a else b).effects ≤ (if pending then 0 else n)
either_few count true a b n h k = h
either_few count false a b n h k = k

module _ (p : CheckedProgram) (l : MemoryMap) where
  abbrev m : Model State
  m = redo_model p l

  abbrev text_of : (ℕ → ℕ) → ℕ
  text_of f = block_readings (reading_counts p) (task_body p (f (word_place l CurrentTask)))

  -- ---- readings

  taken_few : (f : ℕ → ℕ) (inputs : Inputs) (a : ProgramEffects) → weighed 0 a.effects ≤ text_of f → weighed 0 (with_commit m f inputs a).effects ≤ text_of f
  taken_few f inputs a few =
      let tail : Bool → List Effect = λ ends. if ends then commit_effects l (fram_after a.effects f) else [] in
      let all = weighed-append 0 a.effects (tail a.ends) in
      let last = last_none a.ends in
      omega (arith, all, few, last)
    where
      last_none : (ends : Bool) → weighed 0 (if ends then commit_effects l (fram_after a.effects f) else []) ≤ 0
      last_none true = commit_none l (fram_after a.effects f)
      last_none false = omega arith

  booted_few : (booted : Bool) (f : ℕ → ℕ) (inputs : Inputs) → weighed 0 (with_commit m f inputs (attempt_from m booted f inputs)).effects ≤ text_of f
  booted_few true f inputs = taken_few f inputs (m.attempt f inputs) (attempt_weighs 0 p l f inputs)
  booted_few false f inputs = taken_few f inputs (m.attempt f inputs) (attempt_weighs 0 p l f inputs)

  script_few : (booted : Bool) (f : ℕ → ℕ) (inputs : Inputs) → weighed 0 (script m booted f inputs).effects ≤ readings_from p l f
  script_few booted f inputs =
      either_few (weighed 0) (f (word_place l Gate) == 1) (program_effects (m.commit f inputs) true) (with_commit m f inputs (attempt_from m booted f inputs))
      (text_of f) (commit_none l f) (booted_few booted f inputs)

  pub follows_few : (readings : List ℕ) (h : History) → FollowsScript m readings h → length (readings_taken h.effects) ≤ readings_from p l h.start.fram
  follows_few readings h follows =
      let inputs = inputs_from readings h.since (looks_taken h.effects ++ follows.left) in
      let all = weighed-append 0 h.effects follows.follows.rest in
      let same = ap (weighed 0) follows.follows.joins in
      let whole = script_few h.booted h.start.fram inputs in
      let count = readings_weigh 0 h.effects in
      omega (arith, all, same, whole, count)

  -- ---- words

  -- an attempt offers none
  attempt_offers_none : (f : ℕ → ℕ) (inputs : Inputs) → offered (m.attempt f inputs).effects ≡ 0
  attempt_offers_none f inputs =
      let light = attempt_weighs (suc (text_of f)) p l f inputs in
      none_offered (suc (text_of f)) (m.attempt f inputs).effects (omega (arith, light))

  -- a commit offers no more than the words that are emitted in FRAM
  commit_offers_few : (f : ℕ → ℕ) → offered (commit_effects l f) ≤ f (word_place l EmitCount)
  commit_offers_few f =
      let n = f (word_place l EmitCount) in
      let weight = commit_weighs 1 l n f (sends_few n (f (word_place l SentBase)) l.emits.address f) in
      let words = words_weigh (commit_effects l f) in
      omega (arith, weight, words)

  -- and as many as a task emits at most, where the world was decided from its state
  decided_offers_few : (s next : State) (x : World) → m.Decided s next x → offered (commit_effects l x.fram) ≤ emits_of (summaries p) (task_body p s.task)
  decided_offers_few s next x d =
      let few = commit_offers_few x.fram in
      let count = d.decided.sends.emit_count in
      let within = d.decided.sends.within_emits in
      omega (arith, few, count, within)

  -- a pending one no more than the buffer has room for
  committing_offers_few : (to : State) (x : World) → m.Committing to x → offered (commit_effects l x.fram) ≤ l.emits.words
  committing_offers_few to x c = let few = commit_offers_few x.fram in let room = c.pending.emit_count in omega (arith, few, room)

  -- as the law of models wants it
  offers : Offers m (λ s. emits_of (summaries p) (task_body p s.task)) l.emits.words
  offers = record {
    recoveries = λ f. refl;
    attempts = attempt_offers_none;
    decided = λ s next x inputs d. decided_offers_few s next x d;
    committing = λ to x inputs c. committing_offers_few to x c;
  }

-- the two say the same of a source
pub same_words : (p : CheckedProgram) (l : MemoryMap) (origin : Origin State) (ds : List Done) (s : State)
    → offered_from (λ t. emits_of (summaries p) (task_body p t.task)) l.emits.words origin ds s ≡ words_from p l origin ds s
same_words p l (Resting first) ds s = refl
same_words p l (Pending to) [] s = refl
same_words p l (Pending to) (d ∷ ds) s = refl

-- the law for a model
abbrev pub WordsFollow : CheckedProgram → MemoryMap → Model State → Type 0
WordsFollow p l m = ModelLaws m → (readings : List ℕ) (origin : Origin State) (h : History) → FollowsScript m readings h
    → (stands : StandsFor m readings origin h) → offered h.effects ≤ words_from p l origin h.completed stands.state

pub words_under_redo : (p : CheckedProgram) (l : MemoryMap) → WordsFollow p l (redo_model p l)
words_under_redo p l laws readings origin h follows stands =
    subst (λ n. offered h.effects ≤ n) (same_words p l origin h.completed stands.state)
    (words_follow (redo_model p l) laws (λ s. emits_of (summaries p) (task_body p s.task)) l.emits.words (offers p l) readings origin h follows stands)
