-- Moments of a run take words of the ring in order, as its scripts do.
use Rattle.std.proofs.Common.{◌≡◌, ℕ, suc, ◌<◌, arith, refl, sym, ap, ◌∙◌, subst, List, [], ◌∷◌, ◌++◌, true, false, append_assoc}
use Rattle.std.proofs.lemmas.Option.{same_Some}
use Rattle.std.proofs.lemmas.List.Elements.{All-cons}
use Rattle.fram_board.specs.Effects.{Effect}
use Rattle.fram_board.specs.Board.{BoardValue}
use Rattle.fram_board.specs.Run.{Action, PowerUp, Execute, Moment, BoardCharge, RunOutcome, power_up_of}
use Rattle.machine_effects.specs.World.{World, fram_after_one, fram_after, looks_taken}
use Rattle.machine_effects.specs.Inputs.{Look, SeeWords, TakesExactly, InputsAreWords}
use Rattle.machine_effects.specs.Going.{At, going}
use Rattle.machine_effects.specs.View.{IsWhole, IsOfWords}
use Rattle.machine_effects.specs.Runs.{last_board}
use Rattle.machine_effects.proofs.Interface.{machine_is_of_words}
use Rattle.program_view.specs.Stands.{AtCode}
use Rattle.crash_rules.specs.Model.{Model, ModelLaws}
use Rattle.crash_rules.specs.History.{History, first_history}
use Rattle.crash_rules.specs.Runs.{Program, ProgramLaws}
use Rattle.crash_rules.specs.Laws.{Origin, Begins, HasRun, Phase, UndecidedPhase, DecidedPhase, CommittingPhase}
use Rattle.crash_rules.proofs.Interface.{crash_theorem, changed}
use Rattle.run_charges.specs.View.{outside_of, outside_effects, all_outside_effects, looks_in}
use Rattle.run_charges.specs.Moments.{AreMoments}
use Rattle.run_charges.specs.Charges.{IsInstruction, AreInstructionMoments, observed, program_steps}
use Rattle.run_charges.specs.Fronts.{ChargeFront, board_powered, moments_of, IsChargeFrom, AreChargesFrom}
use Rattle.run_charges.specs.Laws.{IsRunOfWords, StandsIn}
use Rattle.run_charges.proofs.Interface.{IsPowerOrStep, IsPower, IsStepped, moment_is, whole_behind, looks_see, PlacedProgram, Machine, instructions_reach}
use Rattle.run_charges.proofs.Interface.{running, begun, is_powered, is_powered_from, Reached, front_reached, reached_on, front_charges, run_front}
use Rattle.run_charges.proofs.Interface.{placed_program, ready_there, programs_run, no_power_up, nothing_seen, last-append}
use Rattle.event_rules.specs.Taking.{Taking, Before, Advances, Follows, FollowsSeeing, ScriptsTakeInOrder, MomentFollows, EachFollows}
use Rattle.event_rules.specs.Laws.{RunsTakeInOrder}
use Rattle.event_rules.proofs.Scripts.{sighted, Entry, AtTask, AtCommit, goes_so}

module _ (gate : ℕ) where
  -- effects in order, in two parts
  parts_follow : (f : ℕ → ℕ) (t u : Taking) (es fs : List Effect) → Follows gate f t (es ++ fs) u
      → (v : Taking) × Follows gate f t es v × Follows gate (fram_after es f) v fs u
  parts_follow f t u [] fs h = (t, refl, h)
  parts_follow f t u (e ∷ es) fs h = let k = parts_follow (fram_after_one e f) h.0 u es fs h.2 in (k.0, (h.0, h.1, k.1), k.2)

  -- a step of a charge
  step_follows : (a : Action) (m : Moment) (t u : Taking) → IsInstruction a → Follows gate (outside_of m.before).fram t (outside_effects m) u
      → MomentFollows gate a m t u
  step_follows PowerUp m t u is h = absurd is
  step_follows (Execute kind done offered) m t u is h = h

  step_fram : (b : BoardValue) (m : Moment) → IsInstruction m.action → IsPowerOrStep b m
      → (outside_of m.after).fram ≡ fram_after (outside_effects m) (outside_of b).fram
  step_fram b m is (IsPower p ok e) = absurd (no_power_up m (ap (λ (y : Moment). y.action) e) is)
  step_fram b m is (IsStepped s) = s.fram

  -- steps of a charge, by what they do together
  steps_follow : (b : BoardValue) (ms : List Moment) → IsWhole b → IsOfWords b → AreMoments b ms → AreInstructionMoments ms → (t u : Taking)
      → Follows gate (outside_of b).fram t (all_outside_effects ms) u → EachFollows gate t ms
  steps_follow b [] whole words are is t u h = tt
  steps_follow b (m ∷ ms) whole words are is t u h =
      let whole_there = subst IsWhole (sym are.0.same) whole in
      let words_there = subst IsOfWords (sym are.0.same) words in
      let behind = whole_behind m.before m whole_there words_there are.1 in
      let there : Follows gate (outside_of m.before).fram t (outside_effects m ++ all_outside_effects ms) u =
      subst (λ (y : BoardValue). Follows gate (outside_of y).fram t (outside_effects m ++ all_outside_effects ms) u) (sym are.0.same) h in
      let k = parts_follow (outside_of m.before).fram t u (outside_effects m) (all_outside_effects ms) there in
      let next = step_fram m.before m is.0 (moment_is m.before m whole_there words_there are.1) in
      let rest : Follows gate (outside_of m.after).fram k.0 (all_outside_effects ms) u =
      subst (λ (f : ℕ → ℕ). Follows gate f k.0 (all_outside_effects ms) u) (sym next) k.2 in
      (k.0, step_follows m.action m t k.0 is.0 k.1, steps_follow m.after ms behind.0 behind.1 are.2 is.1 k.0 u rest)

  -- moments behind moments
  both_follow : (ms ns : List Moment) (t : Taking) → EachFollows gate t ms → ((u : Taking) → EachFollows gate u ns) → EachFollows gate t (ms ++ ns)
  both_follow [] ns t a b = b t
  both_follow (m ∷ ms) ns t a b = (a.0, a.1, both_follow ms ns a.0 a.2 b)

-- a look that sees nothing but 0
abbrev no_look : List Look
no_look = (λ a. 0) ∷ []

none_is_word : SeeWords no_look
none_is_word = All-cons (λ (look : Look). (a : ℕ) → look a < 0x10000) (λ a. 0) [] (λ a. omega arith) nothing_seen

other_value : false ≡ true → ⊥
other_value e = absurd cc

module _ {St : Type 0} (m : Model St) (c : Program) (laws : ModelLaws m) (code : ProgramLaws m c) (scripts : ScriptsTakeInOrder m) (readings : List ℕ)
    (origin : Origin St) (x : World) (b0 : BoardValue) where
  abbrev gate : ℕ
  gate = m.marks.gate

  abbrev first_known : History
  first_known = first_history m.marks x

  module _ (stands : StandsIn c m.marks b0 first_known) (begins : Begins m readings origin x (outside_of b0)) where
    abbrev on : PlacedProgram
    on = placed_program c m.marks b0 first_known stands

    -- what is due behind a boot
    due_there : (s : St) (h : History) → Phase m readings origin s h → Entry m c laws code scripts true h.world
    due_there s h (UndecidedPhase d k u) = AtTask s u (λ e. absurd (other_value (sym e)))
    due_there s h (DecidedPhase next d t w) = AtCommit next (laws.decided_committing s next h.world w)
    due_there s h (CommittingPhase d p n w) = AtCommit s w

    -- the steps of a charge
    charge_follows : (f : ChargeFront) (h : History) → (at : Reached on b0 first_known f.before h) → IsChargeFrom f.before f
        → EachFollows gate Before f.instructions
    charge_follows f h at from =
        let b = f.before in
        let ms = f.instructions in
        let start = board_powered f in
        let ready = at.ready in
        let run = running on b h ready f.start from.start in
        let see : SeeWords (looks_in ms ++ no_look) = looks_see start ms run.whole run.words from.moments no_look none_is_word in
        let p = begun on b h ready f.start from.start (looks_in ms ++ no_look) see in
        let up = is_powered on b h ready f.start from.start (looks_in ms ++ no_look) see in
        let from_there = is_powered_from on b h ready f.start from.start (looks_in ms ++ no_look) see in
        let machine : Machine on start (looks_in ms ++ no_look) = record {
          u = p;
          looks = refl;
          stands = AtCode (record { registers = refl; fram = refl; ram = λ a w l even e. same_Some _ w e; readings = refl; outnum = refl });
          quiet = λ off. refl;
          handler = ready.handler;
          prepared = λ events accepts. absurd (other_value accepts);
          holds = ready.holds;
          leaves = λ n. (ready.leaves [] (outside_of b) h (refl, refl) p up from_there n).code;
        } in
        let reached = instructions_reach on start ms run.whole run.words from.moments from.instructions no_look machine in
        let n = program_steps ms in
        let es = all_outside_effects ms in
        let made : (going c.step n p).effects ≡ es = ap (λ r. r.effects) reached.run in
        let led : (going c.step n p).status ≡ At reached.end.u = ap (λ r. r.status) reached.run in
        let has_run : HasRun m c readings origin at.end h =
        record { world = x; start = outside_of b0; begins = begins; charges = at.charges; leads = at.charged } in
        let lawful = crash_theorem m c laws code readings origin at.end h has_run in
        let fram : p.fram ≡ h.world.fram = sym at.fram ∙ lawful.1.fram in
        let words : InputsAreWords p.inputs = record { readings = (machine_is_of_words start run.words).inputs.readings; looks = see } in
        let does = goes_so m c laws code scripts (suc n) n true (omega arith) h.world p reached.end.u up fram words
        (due_there lawful.0.stands.state h lawful.0.stands.phase) led in
        let taken : TakesExactly es p.inputs reached.end.u.inputs =
        subst (λ l. TakesExactly l p.inputs reached.end.u.inputs) made (changed c.step code.changes n p reached.end.u led).inputs in
        let left : looks_in ms ++ no_look ≡ looks_taken es ++ no_look = sym taken.looks ∙ ap (λ l. looks_taken es ++ l) reached.end.looks in
        let seeing : FollowsSeeing (Advances gate) (outside_of start).fram (looks_in ms ++ no_look) Before es does.0 =
        subst (λ l. FollowsSeeing (Advances gate) (outside_of start).fram (looks_in ms ++ no_look) Before l does.0) made does.1 in
        steps_follow gate start ms run.whole run.words from.moments from.instructions Before does.0
        (sighted gate {u = does.0} (looks_in ms ++ no_look) es (λ a. 0) [] left seeing)

    -- the charges of a run behind some moments
    module _ (cs : List BoardCharge) (r : RunOutcome) (run : IsRunOfWords cs b0 r) where
      charges_follow : (fs : List ChargeFront) (before rest : List Moment) → r.moments ≡ before ++ (moments_of fs ++ rest)
          → AreChargesFrom (last_board b0 before) fs → (t : Taking) → EachFollows gate t (moments_of fs)
      charges_follow [] before rest e all t = tt
      charges_follow (f ∷ fs) before rest e all t =
          let own = programs_run c cs b0 r run m.marks first_known stands in
          let h = observed m.marks before first_known in
          let from = all.0 in
          let reached = front_reached on b0 first_known (ready_there c m.marks b0 first_known stands cs r run) before
          (run_front cs b0 r before (moments_of (f ∷ fs) ++ rest) own e) in
          let here = reached_on on b0 first_known (last_board b0 before) f.before h from.follows reached in
          let charge : IsChargeFrom f.before f =
          record { follows = record { same = refl }; start = from.start; instructions = from.instructions; moments = from.moments } in
          let up = power_up_of f.before f.start in
          let next = before ++ (up ∷ f.instructions) in
          let more = moments_of fs ++ rest in
          let on_more : r.moments ≡ next ++ more =
          e ∙ ap (λ ms. before ++ (up ∷ ms)) (append_assoc f.instructions (moments_of fs) rest) ∙ sym (append_assoc before (up ∷ f.instructions) more) in
          let all_more : AreChargesFrom (last_board b0 next) fs =
          subst (λ y. AreChargesFrom y fs) (sym (last-append b0 before (up ∷ f.instructions))) all.1 in (
            Before,
            refl,
            both_follow gate f.instructions (moments_of fs) Before (charge_follows f h here charge)
                (λ u. charges_follow fs next rest on_more all_more u),
          )

      -- each front
      pub front_follows : (ms rest : List Moment) → r.moments ≡ ms ++ rest → EachFollows gate Before ms
      front_follows ms rest e =
          let own = programs_run c cs b0 r run m.marks first_known stands in
          let all = front_charges b0 ms (run_front cs b0 r ms rest own e) in
          subst (λ (l : List Moment). EachFollows gate Before l) (sym all.moments)
          (charges_follow all.charges [] rest (e ∙ ap (λ l. l ++ rest) all.moments) all.follow Before)

pub runs_take_in_order : {St : Type 0} (m : Model St) (c : Program) → RunsTakeInOrder m c
runs_take_in_order m c laws code scripts readings origin x cs b r ms rest run e stands begins =
    front_follows m c laws code scripts readings origin x b stands begins cs r run ms rest e
