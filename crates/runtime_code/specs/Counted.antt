-- Loops that count down.
use Rattle.std.specs.Prelude.{ℕ, zero, suc, List, [], ◌∷◌, ◌++◌}
use Rattle.code_forms.specs.msp_isa.declared.instructions.TwoOp.TheVariants.{Sub, Cmp}
use Rattle.code_forms.specs.msp_isa.declared.operands.Konst.TheVariants.{Zero, One}
use Rattle.code_forms.specs.msp_isa.declared.instructions.Condition.TheVariants.{Equal, NotEqual}
use Rattle.code_forms.specs.Forms.{Form, Move, Calculate, Jump, Constant, Number, ToRegister, R4, R5}
pub use Rattle.code_forms.specs.Code.{size, over, back_over}

-- where R4 is 0, over the loop's words; else R5 := the address of what it goes over
abbrev pub loop_begin : ℕ → ℕ → List Form
loop_begin address offset = Calculate Cmp (Constant Zero) R4 ∷ Jump Equal offset ∷ Move (Number address) (ToRegister R5) ∷ []

-- one turn less in R4; where one is left, back to it, by the ten bits of the jump
abbrev pub loop_end : ℕ → List Form
loop_end back = Calculate Sub (Constant One) R4 ∷ Jump NotEqual back ∷ []

-- how far it is over a loop behind its test, and back to its turn from its last jump
abbrev pub over_loop : List Form → ℕ
over_loop turn = size (Move (Number 0) (ToRegister R5) ∷ (turn ++ loop_end 0))

abbrev pub back_to_turn : List Form → ℕ
back_to_turn turn = back_over (turn ++ (Calculate Sub (Constant One) R4 ∷ []))

-- a loop of R4 turns over what stands from an address on
abbrev pub counted : ℕ → List Form → List Form
counted address turn = loop_begin address (over_loop turn) ++ (turn ++ loop_end (back_to_turn turn))

-- what is spent once where there is any of so many, and not where there is none
abbrev pub if_any : ℕ → ℕ → ℕ
if_any zero once = 0
if_any (suc n) once = once
