-- The two histories over the moments of a run.
use Rattle.std.proofs.Common.{◌≡◌, ℕ, suc, ◌+◌, ◌%◌, refl, sym, ap, ap₂, ◌∙◌, subst, arith, List, [], ◌∷◌, ◌++◌, length, append_assoc, length-append}
use Rattle.std.proofs.Common.{append-nil, Option, Some}
use Rattle.image_map.specs.MapValue.{MapValue}
use Rattle.image_map.specs.Kept.{IsMap}
use Rattle.fram_board.specs.declared.board.Stepped.{Stepped}
use Rattle.fram_board.specs.Board.{BoardValue, PowerState, powered}
use Rattle.fram_board.specs.Saved.{TakesNextBehind}
use Rattle.fram_board.specs.Steps.{IsPowerState}
use Rattle.fram_board.specs.Effects.{Effect}
use Rattle.fram_board.specs.Run.{StepKind, Moment, power_up_of, word_list}
use Rattle.board_run.specs.History.{moment_lines, noted, word_in, with_words, behind_power_up, behind_instruction, instruction_lines, start_with}
use Rattle.board_run.specs.History.{shared_numbers}
use Rattle.board_run.specs.History as board
use Rattle.board_run.specs.Report.{lines_from, after_all}
use Rattle.machine_effects.specs.World.{World, fram_after, world_after}
use Rattle.machine_effects.specs.View.{IsWhole, IsOfWords}
use Rattle.machine_effects.specs.Runs.{last_board}
use Rattle.machine_effects.proofs.Interface.{world_by_its_parts, power_up_keeps_words}
use Rattle.crash_rules.specs.Model.{Marks}
use Rattle.crash_rules.specs.History.{Done, History, behind_boot, behind_gate, first_history, observe}
use Rattle.crash_rules.proofs.Interface.{with_effects, observed_world, observed_taken}
use Rattle.run_charges.specs.View.{outside_of, outside_effects}
use Rattle.run_charges.specs.Moments.{Follows, IsMomentFrom, AreMoments}
use Rattle.run_charges.specs.Charges.{behind_moment, observed}
use Rattle.model_runs.specs.Events.{marks_of, IsInFront, TellsOf, last_world, counted, SaysAlike, SaysTheSame, done_lines, dones_lines}
use Rattle.model_runs.specs.EventLaws.{HistoriesStayTheSame, FirstHistoriesAreTheSame}
use Rattle.run_charges.proofs.Interface.{follows_keeps, front_moments, stepped, Steps, IsPowerOrStep, IsPower, IsStepped, moment_is}
use Rattle.model_runs.proofs.Places.{world_word, shared_in, values_same}
use Rattle.model_runs.proofs.Events.{seen, last-append, words_keep_gate, gated_from, gate_lines, Told, event_alike, event_told, words_told}

-- the board and the two histories, as they stand together
pub record Together (m : MapValue) (x : World) (b : BoardValue) (h : board.History) (k : History) : Type 0 where
  pub whole : IsWhole b
  pub words : IsOfWords b
  pub same : SaysTheSame m x h k
  pub tells : TellsOf b k

-- and as the next moment begins
pub together_on : (m : MapValue) (x : World) (b c : BoardValue) (h : board.History) (k : History) → Follows b c → Together m x b h k → Together m x c h k
together_on m x b c h k follows t =
    let keeps = follows_keeps b c follows in
    record {
      whole = keeps.whole t.whole;
      words = keeps.words t.words;
      same = t.same;
      tells = record {
        fram = t.tells.fram ∙ ap (λ s. s.fram) (sym keeps.outside);
        accepted = t.tells.accepted ∙ sym keeps.number;
        taken = t.tells.taken ∙ sym keeps.taken;
      };
    }

-- what moments lead to, with the lines of the dones among them
pub record Leads (m : MapValue) (x : World) (b : BoardValue) (h : board.History) (k j : History) (lines : List ℕ) : Type 0 where
  pub together : Together m x b h j
  pub told : Told m x k j lines

module _ (m : MapValue) (x : World) (ok : IsMap m) (front : IsInFront m) where
  abbrev gate : ℕ
  gate = m.words.gate

  abbrev marks : Marks
  marks = marks_of m

  -- a power-up
  module _ (b : BoardValue) (h : board.History) (k : History) (t : Together m x b h k) (p : PowerState) (start : IsPowerState p) where
    abbrev booted : board.History
    booted = record h { since = b.taken }

    booted_same : SaysTheSame m x booted (behind_boot k)
    booted_same =
        let a = t.same.alike in
        record {
          alike = record {
            mapped = a.mapped;
            completed = a.completed;
            task = a.task;
            shared = a.shared;
            words = a.words;
            words_are = a.words_are;
            accepted = a.accepted;
            more = a.more;
            since = sym t.tells.taken;
            span_from = a.span_from;
            span_to = a.span_to;
          };
          gate = t.same.gate;
        }

    noted_boot : noted h (power_up_of b p) ≡ booted
    unfolding noted
    noted_boot = ap (λ o. behind_power_up o h (powered b p)) t.same.alike.mapped

    no_lines : moment_lines h (power_up_of b p) ≡ []
    unfolding moment_lines
    no_lines = refl

    boot_leads : Leads m x (powered b p) (noted h (power_up_of b p)) k (behind_boot k) (moment_lines h (power_up_of b p))
    boot_leads =
        let up = power_up_keeps_words b p t.whole t.words start in
        let P : board.History → Type 0 = λ y. SaysTheSame m x y (behind_boot k) in
        let Q : List ℕ → Type 0 = λ l. Told m x k (behind_boot k) l in
        let none : Told m x k (behind_boot k) [] = record { dones = []; completed = sym (append-nil k.completed); told = refl } in
        record {
          together = record {
            whole = up.0;
            words = up.1;
            same = subst P (sym noted_boot) booted_same;
            tells = record { fram = t.tells.fram; accepted = t.tells.accepted; taken = t.tells.taken };
          };
          told = subst Q (sym no_lines) none;
        }

  -- a step, of the program or of the handler
  module _ (b : BoardValue) (h : board.History) (k : History) (t : Together m x b h k) (kind : StepKind) (done : Stepped) (offered : Option ℕ)
      (after : BoardValue) (step : Steps b (stepped b kind done offered after)) where
    abbrev es : List Effect
    es = outside_effects (stepped b kind done offered after)

    abbrev ws : List ℕ
    ws = word_list done.accepted

    abbrev spoken : board.History
    spoken = with_words h ws

    abbrev moved : History
    moved = with_effects es k

    abbrev before : ℕ
    before = k.world.fram gate

    abbrev now : ℕ
    now = word_in after.fram gate

    fram_now : (world_after es k.world).fram ≡ (outside_of after).fram
    fram_now = ap (λ y. y.fram) (world_by_its_parts es k.world) ∙ ap (fram_after es) t.tells.fram ∙ sym step.fram

    accepted_now : (world_after es k.world).accepted ≡ k.world.accepted ++ ws
    accepted_now = ap (λ y. y.accepted) (world_by_its_parts es k.world) ∙ step.accepted k.world.accepted t.tells.accepted

    taken_now : moved.taken ≡ after.taken
    taken_now = step.taken k t.tells.taken

    count_now : TakesNextBehind (world_after es k.world).accepted after.receiver
    count_now = ap (λ y. length y.accepted % 0x10000) (world_by_its_parts es k.world) ∙ step.counted k.world.accepted t.tells.accepted

    moved_tells : TellsOf after moved
    moved_tells = record { fram = fram_now; accepted = count_now; taken = taken_now }

    gate_now : now ≡ (world_after es k.world).fram gate
    gate_now = world_word after (world_after es k.world) gate fram_now ok.words.gate front.gate

    alike_moved : SaysAlike m x spoken moved
    alike_moved = words_told m x h k es done.accepted t.same.alike accepted_now

    -- what is observed of this step
    pub observed_so : observe marks es k ≡ behind_gate marks before now moved
    observed_so = seen marks es k step.one ∙ ap (λ n. behind_gate marks before n moved) (sym gate_now)

    gate_before : spoken.gate ≡ before
    gate_before = words_keep_gate h done.accepted ∙ t.same.gate

    noted_so : noted h (stepped b kind done offered after) ≡ gated_from m spoken after before now
    unfolding noted
    noted_so =
        ap (λ o. behind_instruction o h ws after) t.same.alike.mapped
        ∙ ap (λ n. gated_from m spoken after n now) gate_before

    lines_so : moment_lines h (stepped b kind done offered after) ≡ gate_lines m spoken after before now
    unfolding moment_lines
    lines_so =
        ap (λ o. instruction_lines o h ws after) t.same.alike.mapped
        ∙ ap (λ n. gate_lines m spoken after n now) t.same.gate

    behind_same : SaysTheSame m x (gated_from m spoken after before now) (observe marks es k)
    behind_same =
        let P : History → Type 0 = λ y. SaysAlike m x (gated_from m spoken after before now) y in
        let world = observed_world marks es k in
        record {
          alike = subst P (sym observed_so) (event_alike m x ok front spoken moved after alike_moved moved_tells now before);
          gate = gate_now ∙ ap (λ y. y.fram gate) (sym world);
        }

    behind_tells : TellsOf after (observe marks es k)
    behind_tells =
        let world = observed_world marks es k in
        record {
          fram = ap (λ y. y.fram) world ∙ fram_now;
          accepted = ap (λ y. length y.accepted % 0x10000) world ∙ count_now;
          taken = observed_taken marks es k ∙ taken_now;
        }

    behind_told : Told m x k (observe marks es k) (moment_lines h (stepped b kind done offered after))
    behind_told =
        let P : History → Type 0 = λ y. Told m x k y (gate_lines m spoken after before now) in
        let Q : List ℕ → Type 0 = λ l. Told m x k (observe marks es k) l in
        let event : Told m x moved (behind_gate marks before now moved) (gate_lines m spoken after before now) =
        event_told m x ok front spoken moved after alike_moved moved_tells now before in
        let same : Told m x k (behind_gate marks before now moved) (gate_lines m spoken after before now) =
        record { dones = event.dones; completed = event.completed; told = event.told } in
        subst Q (sym lines_so) (subst P (sym observed_so) same)

    step_leads : let o = stepped b kind done offered after in Leads m x after (noted h o) k (observe marks es k) (moment_lines h o)
    step_leads =
        let P : board.History → Type 0 = λ y. SaysTheSame m x y (observe marks es k) in
        record {
          together = record { whole = step.whole; words = step.words; same = subst P (sym noted_so) behind_same; tells = behind_tells };
          told = behind_told;
        }

  -- one moment
  abbrev MomentLeads : BoardValue → board.History → History → Moment → Type 0
  MomentLeads b h k o = Leads m x o.after (noted h o) k (behind_moment marks o k) (moment_lines h o)

  leads_by : (b : BoardValue) (h : board.History) (k : History) → Together m x b h k → (o : Moment) → IsPowerOrStep b o → MomentLeads b h k o
  leads_by b h k t o (IsPower p start e) = let P : Moment → Type 0 = λ y. MomentLeads b h k y in subst P (sym e) (boot_leads b h k t p start)
  leads_by b h k t o (IsStepped s) =
      let P : Moment → Type 0 = λ y. Steps b y → MomentLeads b h k y in
      subst P (sym s.is) (λ step. step_leads b h k t s.kind s.done s.offered s.after step) s

  -- a moment leads both histories on
  pub moment_leads : (b : BoardValue) (h : board.History) (k : History) → Together m x b h k → (o : Moment) → IsMomentFrom b o → MomentLeads b h k o
  moment_leads b h k t o from = leads_by b h k t o (moment_is b o t.whole t.words from)

  -- dones behind dones
  lines-append : (j : ℕ) (w : World) (ds es : List Done) → dones_lines m (counted j) w (ds ++ es)
      ≡ dones_lines m (counted j) w ds ++ dones_lines m (counted (j + length ds)) (last_world w ds) es
  lines-append j w [] es = ap (λ n. dones_lines m (counted n) w es) (let e : j ≡ j + length {A = Done} [] = omega arith in e)
  lines-append j w (d ∷ ds) es =
      let e : suc j + length ds ≡ j + length (d ∷ ds) = omega arith in
      let ih = lines-append (suc j) d.world ds es in
      let one = done_lines m (counted (suc j)) w d in
      let more = dones_lines m (counted (suc j)) d.world ds in
      ap (λ l. one ++ l) ih
      ∙ sym (append_assoc one more (dones_lines m (counted (suc j + length ds)) (last_world d.world ds) es))
      ∙ ap (λ n. (one ++ more) ++ dones_lines m (counted n) (last_world d.world ds) es) e

  told_join : (k j l : History) (a c : List ℕ) → Told m x k j a → Told m x j l c → Told m x k l (a ++ c)
  told_join k j l a c s r =
      let len : length j.completed ≡ length k.completed + length s.dones = ap length s.completed ∙ length-append k.completed s.dones in
      let w = last_world x k.completed in
      let end : last_world x j.completed ≡ last_world w s.dones = ap (last_world x) s.completed ∙ last-append x k.completed s.dones in
      record {
        dones = s.dones ++ r.dones;
        completed = r.completed ∙ ap (λ q. q ++ r.dones) s.completed ∙ append_assoc k.completed s.dones r.dones;
        told = ap₂ (λ p q. p ++ q) s.told (r.told ∙ ap₂ (λ n y. dones_lines m (counted n) y r.dones) len end)
            ∙ sym (lines-append (length k.completed) w s.dones r.dones);
      }

  -- all moments
  pub moments_lead : (b : BoardValue) (h : board.History) (k : History) (ms : List Moment) → Together m x b h k → AreMoments b ms
      → Leads m x (last_board b ms) (after_all h ms) k (observed marks ms k) (lines_from h ms)
  moments_lead b h k [] t are = record { together = t; told = record { dones = []; completed = sym (append-nil k.completed); told = refl } }
  moments_lead b h k (o ∷ ms) t are =
      let one = moment_leads o.before h k (together_on m x b o.before h k are.0 t) o are.1 in
      let j = behind_moment marks o k in
      let rest = moments_lead o.after (noted h o) j ms one.together are.2 in
      record { together = rest.together; told = told_join k j (observed marks ms j) (moment_lines h o) (lines_from (noted h o) ms) one.told rest.told }

pub histories_stay_the_same : HistoriesStayTheSame
histories_stay_the_same cs b r ms rest run e m x h k ok front same tells =
    let all_words = run.of_words in
    let t : Together m x b h k = record { whole = all_words.whole; words = all_words.words; same = same; tells = tells } in
    let all = moments_lead m x ok front b h k ms t (front_moments b r ms rest run.moments e) in
    (all.together.same, all.together.tells)

-- the two histories begin the same
pub first_histories_are_the_same : FirstHistoriesAreTheSame
first_histories_are_the_same b m x ok front s =
    let alike : SaysAlike m x (start_with b.fram (Some m)) (first_history (marks_of m) x) =
    record {
      mapped = refl;
      completed = refl;
      task = world_word b x m.words.current_task s.fram ok.words.current_task front.current_task;
      shared = values_same b x (shared_numbers m.variables) s.fram (shared_in m.variables ok.variables front.variables);
      words = [];
      words_are = sym (append-nil x.accepted);
      accepted = refl;
      more = refl;
      since = refl;
      span_from = refl;
      span_to = refl;
    } in (
      record { alike = alike; gate = world_word b x m.words.gate s.fram ok.words.gate front.gate },
      record { fram = s.fram; accepted = s.accepted; taken = sym s.taken },
    )
