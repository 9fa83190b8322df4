-- What is left of a region of FRAM, as code goes over it.
use Rattle.std.proofs.Common.{◌≡◌, ℕ, ◌+◌, ◌%◌, ◌≤◌, arith}
use Rattle.runtime_effects.specs.machine_effects.Machine.{IsPlace}
use Rattle.runtime_effects.specs.Needs.{IsRegion}

-- so many bytes from q on are of the region
pub record IsLeft (from bytes q rest : ℕ) : Type 0 where
  pub even : q % 2 ≡ 0
  pub low : from ≤ q
  pub high : q + rest ≤ from + bytes

pub all_left : {from bytes : ℕ} (rest : ℕ) → IsRegion from bytes → rest ≤ bytes → IsLeft from bytes from rest
all_left rest r l = record { even = r.even; low = omega arith; high = omega (arith, l) }

pub left_from : {from bytes q rest : ℕ} (k less : ℕ) → IsLeft from bytes q rest → k % 2 ≡ 0 → k + less ≤ rest → IsLeft from bytes (q + k) less
left_from k less h e l =
    let even = h.even in let low = h.low in let high = h.high in
    record { even = omega (arith, even, e); low = omega (arith, low); high = omega (arith, high, l) }

-- the first of them is a word of FRAM
pub first_left : {from bytes q rest : ℕ} → IsRegion from bytes → IsLeft from bytes q rest → 2 ≤ rest → IsPlace q
first_left r h l =
    let first = r.low in let last = r.high in let low = h.low in let high = h.high in
    record { even = h.even; low = omega (arith, first, low); high = omega (arith, last, high, l) }
