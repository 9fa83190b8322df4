-- Fronts of a run as charges of a program that stands in FRAM.
use Rattle.std.proofs.Common.{◌≡◌, ℕ, ◌<◌, refl, sym, ap, ◌∙◌, subst, arith, Bool, true, false, if◌then◌else◌, List, [], ◌∷◌, ◌++◌, append-nil, length}
use Rattle.std.proofs.lemmas.Option.{same_Some}
use Rattle.event_places.specs.Places.{is_ring}
use Rattle.fram_board.specs.Board.{BoardValue, PowerState, powered}
use Rattle.fram_board.specs.Steps.{IsPowerState}
use Rattle.fram_board.specs.Effects.{Effect}
use Rattle.fram_board.specs.Run.{Action, PowerUp, Execute, Moment}
use Rattle.machine_effects.specs.World.{EachStore, fram_after}
use Rattle.machine_effects.specs.Going.{At, stretch, going}
use Rattle.machine_effects.specs.Inputs.{Look, SeeWords}
use Rattle.machine_effects.specs.Machine.{MachineBoard, MachineOutcome, MachineStretch, fram_of}
use Rattle.machine_effects.specs.View.{IsWhole, IsOfWords, IsMachineOfWords}
use Rattle.machine_effects.specs.Runs.{last_board}
use Rattle.machine_effects.proofs.Interface.{fram_untouched, power_up_keeps_words, machine_is_of_words}
use Rattle.event_handler.specs.Handler.{HasHandler}
use Rattle.program_view.specs.Stands.{AtCode}
use Rattle.program_view.proofs.Interface.{stands_fram, stands_readings}
use Rattle.code_forms.specs.Placed.{words_of, Holds}
use Rattle.crash_rules.specs.Model.{IsElsewhere, Marks}
use Rattle.crash_rules.specs.History.{History, observe, behind_boot}
use Rattle.crash_rules.specs.Runs.{Program, Charge, IsPoweredFrom, Charged}
use Rattle.crash_rules.proofs.Interface.{observe-append}
use Rattle.run_charges.specs.View.{outside_with, outside_of, outside_effects, looks_in, all_outside_effects}
use Rattle.run_charges.specs.Moments.{Follows, AreMoments, IsFront}
use Rattle.run_charges.specs.Charges.{IsInstruction, AreInstructionMoments, program_steps, program_cycles, behind_action, behind_moment, observed}
use Rattle.run_charges.specs.Fronts.{ChargeFront, board_powered, board_behind, board_behind_all, moments_of, AreChargesFrom, charges_of, LeavesProgram}
use Rattle.run_charges.specs.Fronts.{AlwaysLeaves}
use Rattle.run_charges.specs.Laws.{IsChargedBy}
use Rattle.run_charges.proofs.View.{follows_keeps}
use Rattle.run_charges.proofs.Moments.{nothing_seen}
use Rattle.run_charges.proofs.Charges.{front_charges}
use Rattle.run_charges.proofs.Running.{PlacedProgram, Machine, Running}
use Rattle.run_charges.proofs.Reaching.{Reach, instructions_reach, looks_see, fram_all}

-- moments in two parts
pub observed-append : (marks : Marks) (ms ns : List Moment) (k : History) → observed marks (ms ++ ns) k ≡ observed marks ns (observed marks ms k)
observed-append marks [] ns k = refl
observed-append marks (m ∷ ms) ns k = observed-append marks ms ns (behind_moment marks m k)

action_observed : (marks : Marks) (a : Action) (es : List Effect) (k : History) → IsInstruction a → behind_action marks a es k ≡ observe marks es k
action_observed marks PowerUp es k h = absurd h
action_observed marks (Execute kind done offered) es k h = refl

-- moments that are instructions are observed by their effects
pub instructions_observed : (marks : Marks) (ms : List Moment) (k : History) → AreInstructionMoments ms
    → observed marks ms k ≡ observe marks (all_outside_effects ms) k
instructions_observed marks [] k h = refl
instructions_observed marks (m ∷ ms) k h =
    let es = outside_effects m in
    ap (observed marks ms) (action_observed marks m.action es k h.0)
    ∙ instructions_observed marks ms (observe marks es k) h.1
    ∙ sym (observe-append marks es (all_outside_effects ms) k)

-- the board behind moments in two parts
pub last-append : (b : BoardValue) (ms ns : List Moment) → last_board b (ms ++ ns) ≡ last_board (last_board b ms) ns
last-append b [] ns = refl
last-append b (m ∷ ms) ns = last-append m.after ms ns

-- and behind those of charges
pub last_behind : (b : BoardValue) (fs : List ChargeFront) → last_board b (moments_of fs) ≡ board_behind_all b fs
last_behind b [] = refl
last_behind b (f ∷ fs) = last-append (board_powered f) f.instructions (moments_of fs) ∙ last_behind (board_behind f) fs

-- charges from a machine that has another's FRAM, and its readings
pub record ChargedLike (c : Program) (marks : Marks) (s : MachineBoard) (h : History) (es : List Charge) (t : MachineBoard) (k : History) : Type 0 where
  pub end : MachineBoard
  pub charged : Charged c marks s h es end k
  pub fram : end.fram ≡ t.fram
  pub readings : end.inputs.readings ≡ t.inputs.readings

module _ (c : Program) (marks : Marks) (s other : MachineBoard) (fram : other.fram ≡ s.fram) (readings : other.inputs.readings ≡ s.inputs.readings) where
  powered_like : (p : MachineBoard) → IsPoweredFrom s p → IsPoweredFrom other p
  powered_like p from = record { fram = from.fram ∙ sym fram; readings = from.readings ∙ sym readings; looks = from.looks }

  pub charged_like : (es : List Charge) (t : MachineBoard) (h k : History) → Charged c marks s h es t k → ChargedLike c marks other h es t k
  charged_like [] t h k run = record {
    end = other;
    charged = (refl, run.1);
    fram = fram ∙ ap (λ (y : MachineBoard). y.fram) (sym run.0);
    readings = readings ∙ ap (λ (y : MachineBoard). y.inputs.readings) (sym run.0);
  }
  charged_like (e ∷ es) t h k run =
      record { end = t; charged = (run.0, powered_like e.powered run.1, run.2); fram = refl; readings = refl }

-- so they leave a program from there too
leaves_like : (c : Program) (marks : Marks) (p n : ℕ) (s other : MachineBoard) (h : History) → other.fram ≡ s.fram
    → other.inputs.readings ≡ s.inputs.readings → AlwaysLeaves c p n marks s h → AlwaysLeaves c p n marks other h
leaves_like c marks p n s other h fram readings leaves charges t k run q up from =
    let like = charged_like c marks other s (sym fram) (sym readings) charges t h k run in
    let there : IsPoweredFrom like.end q =
    record { fram = from.fram ∙ sym like.fram; readings = from.readings ∙ sym like.readings; looks = from.looks } in
    leaves charges like.end k like.charged q up there

-- charges behind charges
pub charged_join : (c : Program) (marks : Marks) (es fs : List Charge) (s q t : MachineBoard) (h j k : History) → Charged c marks s h es q j
    → Charged c marks q j fs t k → Charged c marks s h (es ++ fs) t k
charged_join c marks [] fs s q t h j k run more =
    let P : MachineBoard → Type 0 = λ y. Charged c marks y h fs t k in
    let Q : History → Type 0 = λ y. Charged c marks q y fs t k in
    subst P run.0 (subst Q run.1 more)
charged_join c marks (e ∷ es) fs s q t h j k run more =
    let behind = observe marks (going c.step e.steps e.powered).effects (behind_boot h) in
    (run.0, run.1, (run.2.0, run.2.1, charged_join c marks es fs run.2.0 q t behind j k run.2.2 more))

pub no_other : false ≡ true → ⊥
no_other e = absurd cc

steady_small : (c : Bool) (n : ℕ) → n < 0x10000 → (if c then 0 else n) < 0x10000
steady_small true n l = omega arith
steady_small false n l = l

module _ (on : PlacedProgram) where
  abbrev step : MachineBoard → MachineOutcome
  step = on.program.step

  abbrev marks : Marks
  marks = on.marks

  abbrev code_words : List ℕ
  code_words = words_of on.instructions

  -- what holds of a board between two charges
  pub record Ready (b : BoardValue) (h : History) : Type 0 where
    pub whole : IsWhole b
    pub words : IsOfWords b
    pub vector : (outside_of b).fram 0xFFFE ≡ on.entry
    pub handler : on.events ≡ true → HasHandler (outside_of b).fram
    pub holds : Holds (outside_of b).fram on.place code_words
    pub leaves : AlwaysLeaves on.program on.place (length code_words) marks (outside_of b) h

  -- and as the next charge begins
  pub ready_on : (b c : BoardValue) (h : History) → Follows b c → Ready b h → Ready c h
  ready_on b c h follows ready = subst (λ (y : BoardValue). Ready y h) (sym follows.same) ready

  -- a charge from such a board
  module _ (b : BoardValue) (h : History) (ready : Ready b h) (start : PowerState) (ok : IsPowerState start) where
    -- it begins with a power-up, which keeps FRAM and the readings, and then sees these of the ring
    module _ (looks : List Look) (see : SeeWords looks) where
      abbrev pub begun : MachineBoard
      begun = outside_with looks (powered b start)

      pub is_powered : on.program.IsPoweredUp begun
      is_powered =
          let w = machine_is_of_words b ready.words in
          let words : IsMachineOfWords (outside_with looks b) = record {
            registers = w.registers;
            fram = λ a. steady_small (is_ring a) (fram_of b.fram a) (w.fram a);
            ram = w.ram;
            inputs = record { readings = w.inputs.readings; looks = see };
            outnum = w.outnum;
          } in
          on.is.powers (outside_with looks b) start words ok ready.vector (λ e. (ready.handler e).vector)

      pub is_powered_from : IsPoweredFrom (outside_of b) begun
      is_powered_from = record { fram = refl; readings = refl; looks = see }

      pub leaves_code : (n : ℕ) → LeavesProgram on.place (length code_words) (going step n begun)
      leaves_code n = ready.leaves [] (outside_of b) h (refl, refl) begun is_powered is_powered_from n

      -- that is the machine which the board shows
      abbrev pub first_machine : (more : List Look) → looks ≡ more → Machine on (powered b start) more
      first_machine more e = record {
        u = begun;
        looks = e;
        stands = AtCode (record { registers = refl; fram = refl; ram = λ a w l even e. same_Some _ w e; readings = refl; outnum = refl });
        quiet = λ off. refl;
        handler = ready.handler;
        prepared = λ events accepts. absurd (no_other accepts);
        holds = ready.holds;
        leaves = λ n. (leaves_code n).code;
      }

    up : IsWhole (powered b start) × IsOfWords (powered b start)
    up = power_up_keeps_words b start ready.whole ready.words ok

    -- and the program runs on it
    pub running : Running on (powered b start)
    running = record { whole = up.0; words = up.1; machine = λ more see. first_machine more see more refl }

    -- its steps so far
    module _ (ms : List Moment) (are : AreInstructionMoments ms) (moments : AreMoments (powered b start) ms) where
      abbrev pub steps : ℕ
      steps = program_steps ms

      abbrev last : BoardValue
      last = last_board (powered b start) ms

      abbrev pub behind : History
      behind = observed marks ms (behind_boot h)

      -- it takes their looks
      pub sees : SeeWords (looks_in ms)
      sees = subst SeeWords (append-nil (looks_in ms)) (looks_see (powered b start) ms up.0 up.1 moments [] nothing_seen)

      abbrev pub first : MachineBoard
      first = begun (looks_in ms) sees

      abbrev pub starts : Machine on (powered b start) (looks_in ms ++ [])
      starts = first_machine (looks_in ms) sees (looks_in ms ++ []) (sym (append-nil (looks_in ms)))

      pub reach : Reach on (powered b start) ms [] starts
      reach = instructions_reach on (powered b start) ms up.0 up.1 moments are [] starts

      -- they lead to a machine as which the board stands
      abbrev pub end : MachineBoard
      end = reach.end.u

      pub made : going step steps first ≡ stretch (all_outside_effects ms) (program_cycles ms) (At end)
      made = reach.run

      pub end_fram : end.fram ≡ (outside_of last).fram
      end_fram = stands_fram last end reach.end.stands

      pub end_readings : end.inputs.readings ≡ (outside_of last).inputs.readings
      end_readings = stands_readings last end reach.end.stands

      -- where the program's steps lead
      pub leads : (going step steps first).status ≡ At end
      leads = ap (λ r. r.status) made

      -- with the program's effects
      pub seen : observe marks (going step steps first).effects (behind_boot h) ≡ behind
      seen = ap (λ r. observe marks r.effects (behind_boot h)) made ∙ sym (instructions_observed marks ms (behind_boot h) are)

      off_vector : EachStore (IsElsewhere 0xFFFE) (all_outside_effects ms)
      off_vector =
          let P : MachineStretch → Type 0 = λ r. EachStore (IsElsewhere 0xFFFE) r.effects in
          subst P made (leaves_code (looks_in ms) sees steps).vector

      fram_behind : (outside_of last).fram ≡ fram_after (all_outside_effects ms) (outside_of b).fram
      fram_behind = fram_all (powered b start) ms up.0 up.1 moments

      -- and the board behind them is ready too
      pub ready_behind : Ready last behind
      ready_behind =
          record {
            whole = reach.whole;
            words = reach.words;
            vector = ap (λ (g : ℕ → ℕ). g 0xFFFE) fram_behind ∙ fram_untouched (all_outside_effects ms) 0xFFFE (outside_of b).fram off_vector ∙ ready.vector;
            handler = λ e. subst HasHandler end_fram (reach.end.handler e);
            holds = subst (λ (f : ℕ → ℕ). Holds f on.place code_words) end_fram reach.end.holds;
            leaves = leaves_like on.program marks on.place (length code_words) end (outside_of last) behind (sym end_fram) (sym end_readings)
                (λ charges t k run.
                let Q : History → Type 0 = λ j. Charged on.program marks end j charges t k in
                ready.leaves (record { powered = first; steps = steps } ∷ charges) t k
                (is_powered (looks_in ms) sees, is_powered_from (looks_in ms) sees, (end, leads, subst Q (sym seen) run)));
          }

      -- it is one charge of the program
      pub charged_once : Charged on.program marks (outside_of b) h (record { powered = first; steps = steps } ∷ []) end behind
      charged_once = (is_powered (looks_in ms) sees, is_powered_from (looks_in ms) sees, (end, leads, (refl, sym seen)))

  -- charges of a board that is ready, and the machine to which they lead
  record LeadsOn (b : BoardValue) (h : History) (fs : List ChargeFront) : Type 0 where
    pub end : MachineBoard
    pub charged : Charged on.program marks (outside_of b) h (charges_of fs) end (observed marks (moments_of fs) h)
    pub fram : end.fram ≡ (outside_of (board_behind_all b fs)).fram
    pub readings : end.inputs.readings ≡ (outside_of (board_behind_all b fs)).inputs.readings
    pub ready : Ready (board_behind_all b fs) (observed marks (moments_of fs) h)

  lead_on : (b : BoardValue) (h : History) (fs : List ChargeFront) → Ready b h → AreChargesFrom b fs → LeadsOn b h fs
  lead_on b h [] ready all = record { end = outside_of b; charged = (refl, refl); fram = refl; readings = refl; ready = ready }
  lead_on b h (f ∷ fs) ready all =
      let c = all.0 in
      let ms = f.instructions in
      let keeps = follows_keeps b f.before c.follows in
      let here = ready_on b f.before h c.follows ready in
      let last = board_behind f in
      let own = sees f.before h here f.start c.start ms c.instructions c.moments in
      let q = end f.before h here f.start c.start ms c.instructions c.moments in
      let k = observed marks ms (behind_boot h) in
      let rest = lead_on last k fs (ready_behind f.before h here f.start c.start ms c.instructions c.moments) all.1 in
      let like = charged_like on.program marks (outside_of last) q (end_fram f.before h here f.start c.start ms c.instructions c.moments)
      (end_readings f.before h here f.start c.start ms c.instructions c.moments) (charges_of fs) rest.end k (observed marks (moments_of fs) k) rest.charged in
      let joined = sym (observed-append marks ms (moments_of fs) (behind_boot h)) in
      let P : History → Type 0 = λ j. Charged on.program marks q j (charges_of fs) like.end (observed marks (ms ++ moments_of fs) (behind_boot h)) in
      let Q : History → Type 0 = λ j. Charged on.program marks q k (charges_of fs) like.end j in
      let R : History → Type 0 = λ j. Ready (board_behind_all last fs) j in
      record {
        end = like.end;
        charged = (
          is_powered f.before h here f.start c.start (looks_in ms) own,
          record { fram = ap (λ s. s.fram) keeps.outside; readings = ap (λ s. s.inputs.readings) keeps.outside; looks = own },
          (
            q,
            leads f.before h here f.start c.start ms c.instructions c.moments,
            subst P (sym (seen f.before h here f.start c.start ms c.instructions c.moments)) (subst Q joined like.charged),
          ),
        );
        fram = like.fram ∙ rest.fram;
        readings = like.readings ∙ rest.readings;
        ready = subst R joined rest.ready;
      }

  -- a board to which charges of the program lead: they lead to a machine with its FRAM, and the readings that are left
  pub record Reached (b : BoardValue) (h : History) (t : BoardValue) (k : History) : Type 0 where
    pub charges : List Charge
    pub end : MachineBoard
    pub charged : Charged on.program marks (outside_of b) h charges end k
    pub fram : end.fram ≡ (outside_of t).fram
    pub readings : end.inputs.readings ≡ (outside_of t).inputs.readings
    pub ready : Ready t k

  -- a board that is ready is reached by no charge
  pub reached_first : (b : BoardValue) (h : History) → Ready b h → Reached b h b h
  reached_first b h ready = record { charges = []; end = outside_of b; charged = (refl, refl); fram = refl; readings = refl; ready = ready }

  -- and the board on which the next charge begins
  pub reached_on : (b : BoardValue) (h : History) (t u : BoardValue) (k : History) → Follows t u → Reached b h t k → Reached b h u k
  reached_on b h t u k follows at = subst (λ (y : BoardValue). Reached b h y k) (sym follows.same) at

  -- a machine with which a charge begins there is one that a power-up leaves of the machine to which the charges lead
  pub powered_there : (b : BoardValue) (h : History) (t : BoardValue) (k : History) (at : Reached b h t k) (p : MachineBoard)
      → IsPoweredFrom (outside_of t) p → IsPoweredFrom at.end p
  powered_there b h t k at p from = record { fram = from.fram ∙ sym at.fram; readings = from.readings ∙ sym at.readings; looks = from.looks }

  -- so it is behind each front of a board that is ready
  pub front_reached : (b : BoardValue) (h : History) → Ready b h → (ms : List Moment) → IsFront b ms
      → Reached b h (last_board b ms) (observed marks ms h)
  front_reached b h ready ms front =
      let all = front_charges b ms front in
      let fs = all.charges in
      let led = lead_on b h fs ready all.follow in
      let there : last_board b ms ≡ board_behind_all b fs = ap (last_board b) all.moments ∙ last_behind b fs in
      let P : BoardValue → Type 0 = λ t. Reached b h t (observed marks ms h) in
      let Q : List Moment → Type 0 = λ l. Reached b h (board_behind_all b fs) (observed marks l h) in
      subst P (sym there) (subst Q (sym all.moments)
      (record { charges = charges_of fs; end = led.end; charged = led.charged; fram = led.fram; readings = led.readings; ready = led.ready }))

  -- the same, said of the charges of the front
  pub front_charged : (b : BoardValue) (h : History) → Ready b h → (ms : List Moment) → IsFront b ms → IsChargedBy on.program marks b h ms
  front_charged b h ready ms front =
      let all = front_charges b ms front in
      let led = lead_on b h all.charges ready all.follow in
      let there : last_board b ms ≡ board_behind_all b all.charges = ap (last_board b) all.moments ∙ last_behind b all.charges in
      let P : List Moment → Type 0 = λ l. Charged on.program marks (outside_of b) h (charges_of all.charges) led.end (observed marks l h) in
      record {
        front = all;
        end = led.end;
        charged = subst P (sym all.moments) led.charged;
        fram = led.fram ∙ ap (λ t. (outside_of t).fram) (sym there);
        readings = led.readings ∙ ap (λ t. (outside_of t).inputs.readings) (sym there);
      }
