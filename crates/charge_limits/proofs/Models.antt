-- How many words are offered since the last power-up or done, in any model whose starts, tasks and recoveries offer none.
use Rattle.std.proofs.Common.{◌≡◌, ℕ, ◌+◌, ◌≤◌, ◌==◌, Bool, true, false, if◌then◌else◌, List, [], ◌∷◌, ◌++◌, length, refl, sym, ap, ◌∙◌, subst, arith}
use Rattle.machine_effects.specs.fram_board.Effects.{Effect, Store}
use Rattle.machine_effects.specs.World.{World, world_after_one, world_after, fram_after}
use Rattle.machine_effects.specs.Inputs.{Inputs, InputsAreWords}
use Rattle.machine_effects.proofs.Interface.{world_after-append}
use Rattle.crash_rules.specs.Model.{Model, ModelLaws, ProgramEffects, program_effects, inputs_behind, with_commit, attempt_from, script}
use Rattle.crash_rules.specs.Model.{AttemptContract, Comes, Lacks}
use Rattle.crash_rules.specs.History.{Done, History}
use Rattle.crash_rules.specs.Laws.{Origin, Resting, Pending, IsPending, IsSettled, StartsFrom, FromUndecided, FromDecided, FromCommitting}
use Rattle.crash_rules.specs.Laws.{StandsFor, FollowsScript}
use Rattle.crash_rules.proofs.Interface.{in_front, world_fram}
use Rattle.charge_limits.specs.Laws.{words_offered}
use Rattle.charge_limits.proofs.Weights.{offered-append}

abbrev pub offered : List Effect → ℕ
offered es = length (words_offered es)

-- recoveries and attempts offer none; a commit that is decided from a state no more than what is said of the state,
-- and any that is pending no more than most
pub record Offers {St : Type 0} (m : Model St) (own : St → ℕ) (most : ℕ) : Type 0 where
  pub recoveries : (f : ℕ → ℕ) → offered (m.recover f) ≡ 0
  pub attempts : (f : ℕ → ℕ) (inputs : Inputs) → offered (m.attempt f inputs).effects ≡ 0
  pub decided : (s next : St) (x : World) (inputs : Inputs) → m.Decided s next x → offered (m.commit x.fram inputs) ≤ own s
  pub committing : (to : St) (x : World) (inputs : Inputs) → m.Committing to x → offered (m.commit x.fram inputs) ≤ most

-- what is offered at most in a run that begins so, behind dones of which the last one left a state
abbrev pub offered_from : {St : Type 0} → (St → ℕ) → ℕ → Origin St → List Done → St → ℕ
offered_from own most (Resting first) ds s = own s
offered_from own most (Pending to) [] s = most
offered_from own most (Pending to) (d ∷ ds) s = own s

module _ {St : Type 0} (m : Model St) (laws : ModelLaws m) (own : St → ℕ) (most : ℕ) (o : Offers m own most) where
  -- an attempt with its commit, where it comes to its end
  ended_offers_few : (s : St) (x : World) (inputs : Inputs) (a : ProgramEffects) → offered a.effects ≡ 0 → AttemptContract m s inputs x a
      → offered (with_commit m x.fram inputs a).effects ≤ own s
  ended_offers_few s x inputs a none (Comes next c) =
      let gate : List Effect = Store m.marks.gate 1 ∷ [] in
      let es = c.before ++ gate in
      let left = inputs_behind es inputs in
      let y = world_after_one (Store m.marks.gate 1) (world_after c.before x) in
      let decided : offered (m.commit y.fram left) ≤ own s = o.decided s next y left c.decided in
      let there : y.fram ≡ fram_after es x.fram = ap (λ z. z.fram) (sym (world_after-append c.before gate x)) ∙ world_fram es x in
      let same = ap (λ f. offered (m.commit f left)) there in
      let commit : offered (m.commit (fram_after es x.fram) left) ≤ own s = omega (arith, decided, same) in
      let attempt : offered es ≡ 0 = ap (λ q. offered q.effects) (sym c.is) ∙ none in
      let all = offered-append es (m.commit (fram_after es x.fram) left) in
      let made : offered (with_commit m x.fram inputs (program_effects es true)).effects ≤ own s = omega (arith, commit, attempt, all) in
      subst (λ q. offered (with_commit m x.fram inputs q).effects ≤ own s) (sym c.is) made
  ended_offers_few s x inputs a none (Lacks c) =
      let tail : Bool → List Effect = λ ends. if ends then m.commit (fram_after a.effects x.fram) (inputs_behind a.effects inputs) else [] in
      let all = offered-append a.effects (tail a.ends) in
      let last = ap (λ ends. offered (tail ends)) c.is in
      omega (arith, all, none, last)

  -- where an attempt is due, behind a boot with the recovery in front of it
  attempted_few : (booted : Bool) (s : St) (x : World) (inputs : Inputs) → InputsAreWords inputs → m.Undecided s x → (booted ≡ false → m.Settled s x)
      → offered (with_commit m x.fram inputs (attempt_from m booted x.fram inputs)).effects ≤ own s
  attempted_few false s x inputs words u k =
      ended_offers_few s x inputs (m.attempt x.fram inputs) (o.attempts x.fram inputs) (laws.attempts s x inputs words (k refl))
  attempted_few true s x inputs words u k =
      let r = laws.recovers s x u in
      let rec = m.recover x.fram in
      let g = fram_after rec x.fram in
      let y = world_after rec x in
      let all = offered-append rec (m.attempt g inputs).effects in
      let first = o.recoveries x.fram in
      let behind = o.attempts g inputs in
      let owed : AttemptContract m s inputs y (m.attempt g inputs) =
      subst (λ f. AttemptContract m s inputs y (m.attempt f inputs)) (world_fram rec x) (laws.attempts s y inputs words r.settled) in
      ended_offers_few s x inputs (attempt_from m true x.fram inputs) (omega (arith, all, first, behind))
      (in_front m s x inputs rec (m.attempt g inputs) r.stays owed)

  -- the script of a world that is undecided at a state, and of one with a commit that is due
  undecided_few : (booted : Bool) (s : St) (x : World) (inputs : Inputs) → InputsAreWords inputs → m.Undecided s x → (booted ≡ false → m.Settled s x)
      → offered (script m booted x.fram inputs).effects ≤ own s
  undecided_few booted s x inputs words u k =
      let commit = program_effects (m.commit x.fram inputs) true in
      let attempt = with_commit m x.fram inputs (attempt_from m booted x.fram inputs) in
      let is : script m booted x.fram inputs ≡ attempt = ap (λ gate. if gate == 1 then commit else attempt) (laws.undecided_gate s x u) in
      subst (λ q. offered q.effects ≤ own s) (sym is) (attempted_few booted s x inputs words u k)

  committing_few : (booted : Bool) (to : St) (x : World) (inputs : Inputs) (n : ℕ) → m.Committing to x → offered (m.commit x.fram inputs) ≤ n
      → offered (script m booted x.fram inputs).effects ≤ n
  committing_few booted to x inputs n c few =
      let commit = program_effects (m.commit x.fram inputs) true in
      let attempt = with_commit m x.fram inputs (attempt_from m booted x.fram inputs) in
      let is : script m booted x.fram inputs ≡ commit = ap (λ gate. if gate == 1 then commit else attempt) (laws.committing_gate to x c) in
      subst (λ q. offered q.effects ≤ n) (sym is) few

  -- where nothing is pending it is what is said of the state, else what is said of any commit
  settled_words : (n : ℕ) (origin : Origin St) (ds : List Done) (s : St) → IsSettled origin ds → n ≤ own s → n ≤ offered_from own most origin ds s
  settled_words n (Resting first) ds s settled h = h
  settled_words n (Pending to) [] s settled h = absurd settled
  settled_words n (Pending to) (d ∷ ds) s settled h = h

  pending_words : (n : ℕ) (origin : Origin St) (ds : List Done) (s : St) → IsPending origin ds → n ≤ most → n ≤ offered_from own most origin ds s
  pending_words n (Resting first) ds s pending h = absurd pending
  pending_words n (Pending to) [] s pending h = h
  pending_words n (Pending to) (d ∷ ds) s pending h = absurd pending

  script_offers_few : (booted : Bool) (origin : Origin St) (ds : List Done) (s : St) (x : World) (inputs : Inputs) → InputsAreWords inputs
      → StartsFrom m origin booted ds s x → offered (script m booted x.fram inputs).effects ≤ offered_from own most origin ds s
  script_offers_few booted origin ds s x inputs words (FromUndecided settled u k) =
      settled_words _ origin ds s settled (undecided_few booted s x inputs words u k)
  script_offers_few booted origin ds s x inputs words (FromDecided next settled d) =
      settled_words _ origin ds s settled
      (committing_few booted next x inputs _ (laws.decided_committing s next x d) (o.decided s next x inputs d))
  script_offers_few booted origin ds s x inputs words (FromCommitting pending c) =
      pending_words _ origin ds s pending (committing_few booted s x inputs most c (o.committing s x inputs c))

  -- so at each board of a run
  pub words_follow : (readings : List ℕ) (origin : Origin St) (h : History) → FollowsScript m readings h → (stands : StandsFor m readings origin h)
      → offered h.effects ≤ offered_from own most origin h.completed stands.state
  words_follow readings origin h follows stands =
      let all = offered-append h.effects follows.follows.rest in
      let same = ap offered follows.follows.joins in
      let whole = script_offers_few h.booted origin h.completed stands.state h.start _ follows.words stands.starts in
      omega (arith, all, same, whole)
