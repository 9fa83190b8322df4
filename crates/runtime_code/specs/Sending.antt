-- The sends of a commit.
use Rattle.std.specs.Prelude.{List, [], ◌∷◌, ◌++◌}
use Rattle.code_forms.specs.msp_isa.declared.instructions.TwoOp.TheVariants.{Add}
use Rattle.code_forms.specs.msp_isa.declared.operands.Konst.TheVariants.{One}
use Rattle.code_forms.specs.Forms.{Form, Move, Calculate, R4, R5, R7, Register, Constant, Fram, PointedNext, ToRegister, ToOutnum, ToOutdata}
use Rattle.runtime_effects.specs.memory_map.declared.words.RuntimeWord.TheVariants.{EmitCount, SentBase}
use Rattle.runtime_effects.specs.memory_map.MemoryMap.{MemoryMap, word_place}
use Rattle.runtime_code.specs.Counted.{counted}

-- R7 := SB, R4 := EN
abbrev pub sends_begin : MemoryMap → List Form
sends_begin m = Move (Fram (word_place m SentBase)) (ToRegister R7) ∷ Move (Fram (word_place m EmitCount)) (ToRegister R4) ∷ []

-- OUTNUM := the number in R7, OUTDATA := the word; the next number
abbrev pub send_turn : List Form
send_turn = Move (Register R7) ToOutnum ∷ Move (PointedNext R5) ToOutdata ∷ Calculate Add (Constant One) R7 ∷ []

-- for each emitted word; behind the last one R7 is SB + EN
abbrev pub send_loop : MemoryMap → List Form
send_loop m = counted m.emits.address send_turn

-- the sends
abbrev pub sending : MemoryMap → List Form
sending m = sends_begin m ++ send_loop m
