-- What the proofs of other crates cite.

-- What a first word says of the fields of its instruction.
pub use Rattle.msp_decode.proofs.Fields.{blank_of, length_below, prefix_first}
-- Words begin at most one instruction.
pub use Rattle.msp_decode.proofs.Unique.{same_instruction, is_unique}
