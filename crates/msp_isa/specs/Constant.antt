-- The values of the constant generators R2 and R3 (SLAU049 and SLAU144, CPU chapter, table of constant generators).
use Rattle.std.specs.Prelude.{ℕ}
use Rattle.msp_isa.specs.declared.operands.Konst.{Konst}
use Rattle.msp_isa.specs.declared.operands.Konst.TheVariants.{Zero, One, Two, Four, Eight, MinusOne}

-- the word that a constant stands for
abbrev pub constant_value : Konst → ℕ
constant_value Zero = 0
constant_value One = 1
constant_value Two = 2
constant_value Four = 4
constant_value Eight = 8
constant_value MinusOne = 0xFFFF
