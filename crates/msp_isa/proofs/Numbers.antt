-- The numbers of registers.
use Rattle.std.proofs.Common.{◌<◌, arith}
use Rattle.msp_isa.specs.declared.registers.IndexRegister.{IndexRegister}
use Rattle.msp_isa.specs.Encoding.{index_number}

-- a register that can be an index has one of sixteen numbers
pub index_below : (b : IndexRegister) → index_number b < 16
index_below b = grind arith
