-- How far a jump goes: ten bits, read as a signed number of words (SLAU144, CPU chapter, jumps).
use Rattle.std.specs.Prelude.{ℕ, ℤ, pos, ◌-ℤ◌, nat_lt, if◌then◌else◌}

-- the number of words from -512 to 511 that ten bits stand for
abbrev pub signed_offset : ℕ → ℤ
signed_offset bits = if nat_lt bits 0x200 then pos bits else pos bits -ℤ pos 0x400
