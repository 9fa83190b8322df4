-- The charges of a board's run as charges of the machine.
use Rattle.std.specs.Prelude.{ℕ, suc, ◌+◌, if◌then◌else◌, List, [], ◌∷◌, All}
use Rattle.fram_board.specs.Steps.{IsPowerState}
use Rattle.fram_board.specs.Effects.{Effect}
use Rattle.fram_board.specs.Run.{Action, PowerUp, Execute, Moment, BoardCharge}
use Rattle.machine_effects.specs.Runs.{action_cycles}
use Rattle.crash_rules.specs.Model.{Marks}
use Rattle.crash_rules.specs.History.{History, observe, behind_boot}
use Rattle.run_charges.specs.View.{is_handlers, outside_effects}

-- charges begin with any words that a power-up may leave
abbrev pub ArePowerStates : List BoardCharge → Type 0
ArePowerStates cs = All (λ c. IsPowerState c.start) cs

-- an action is a step
abbrev pub IsInstruction : Action → Type 0
IsInstruction PowerUp = ⊥
IsInstruction (Execute kind done offered) = Unit {0}

-- these moments are instructions
abbrev pub AreInstructionMoments : List Moment → Type 0
AreInstructionMoments [] = Unit {0}
AreInstructionMoments (m ∷ ms) = IsInstruction m.action × AreInstructionMoments ms

-- the history behind an action with these effects, by these marks: behind a boot, or behind the effects of an instruction
abbrev pub behind_action : Marks → Action → List Effect → History → History
behind_action marks PowerUp es k = behind_boot k
behind_action marks (Execute kind done offered) es k = observe marks es k

-- the history behind a moment
abbrev pub behind_moment : Marks → Moment → History → History
behind_moment marks m k = behind_action marks m.action (outside_effects m) k

-- the history behind moments
abbrev pub observed : Marks → List Moment → History → History
observed marks [] k = k
observed marks (m ∷ ms) k = observed marks ms (behind_moment marks m k)

-- how many steps and cycles of these moments were the program's own
abbrev pub program_steps : List Moment → ℕ
program_steps [] = 0
program_steps (m ∷ ms) = if is_handlers m then program_steps ms else suc (program_steps ms)

abbrev pub program_cycles : List Moment → ℕ
program_cycles [] = 0
program_cycles (m ∷ ms) = if is_handlers m then program_cycles ms else action_cycles m.action + program_cycles ms
