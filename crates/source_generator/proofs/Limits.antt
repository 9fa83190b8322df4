-- A generated trace is within the limits of a trace.
use Rattle.std.proofs.Common.{◌≡◌, ℕ, zero, suc, ◌+◌, ◌<◌, ◌≤◌, List, ◌∷◌, length, refl, ap, ◌∙◌, arith}
use Rattle.std.specs.Prelude.{All}
use Rattle.std.proofs.lemmas.List.Elements.{All-nil, All-cons, All-same}
use Rattle.std.proofs.lemmas.List.Sums.{sum_by-cons}
use Rattle.energy_trace.specs.declared.charge.Charge.{Charge}
use Rattle.energy_trace.specs.TraceValue.{charge_count}
use Rattle.source_generator.specs.Draws.{next, draws, behind}
use Rattle.source_generator.specs.Trace.{charge_of, charges}

count_of_charges : (n bound s : ℕ) → charge_count (charges n bound s) ≡ n
unfolding charges
count_of_charges zero bound s = refl
count_of_charges (suc n) bound s =
    let rest : List Charge = charges n bound (behind 2 s) in
    let one : charge_count (charge_of bound s ∷ rest) ≡ 1 + charge_count rest = sum_by-cons (λ c. c.times) (charge_of bound s) rest in
    let more : charge_count rest ≡ n = count_of_charges n bound (behind 2 s) in
    omega (arith, one, more)

repeats_of_charges : (n bound s : ℕ) → All (λ c. 0 < c.times) (charges n bound s)
unfolding charges
repeats_of_charges zero bound s = All-nil (λ (c : Charge). 0 < c.times)
repeats_of_charges (suc n) bound s = All-cons (λ c. 0 < c.times) (charge_of bound s) (charges n bound (behind 2 s)) (omega arith)
    (repeats_of_charges n bound (behind 2 s))

count_of_draws : (n s : ℕ) → length (draws n s) ≡ n
unfolding draws
count_of_draws zero s = refl
count_of_draws (suc n) s = ap (λ k. suc k) (count_of_draws n (next s))

-- the trace of a number has few charges
pub few_charges : (cs : List Charge) (bound s : ℕ) → cs ≡ charges 256 bound s → charge_count cs ≤ 1000000
few_charges cs bound s e = let count : charge_count cs ≡ 256 = ap charge_count e ∙ count_of_charges 256 bound s in omega (arith, count)

-- each of them comes at least once
pub each_once : (cs : List Charge) (bound s : ℕ) → cs ≡ charges 256 bound s → All (λ c. 0 < c.times) cs
each_once cs bound s e = All-same (λ c. 0 < c.times) cs (charges 256 bound s) e (repeats_of_charges 256 bound s)

-- it has few readings
pub few_readings : (ws : List ℕ) (s : ℕ) → ws ≡ draws 512 s → length ws ≤ 262144
few_readings ws s e = let count : length ws ≡ 512 = ap length e ∙ count_of_draws 512 s in omega (arith, count)
