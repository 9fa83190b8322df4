-- What a bus holds after reads, and the answer of a fetch.
use Rattle.std.specs.Prelude.{◌≡◌, ◌≤◌, ℕ, suc, Result, Ok, Err, Option, Some, None}
use Rattle.alp_words.specs.declared.Width.{Width}
use Rattle.msp_step.specs.declared.bus.Refused.{Refused}
use Rattle.msp_step.specs.declared.bus.Refused.TheVariants as refused
use Rattle.msp_step.specs.Access.{BusModel}

-- the answer of a fetch
abbrev pub fetch_answer : Option ℕ → Result ℕ Refused
fetch_answer (Some w) = Ok w
fetch_answer None = Err refused.Bus

-- what a bus holds after so many reads, each of which it served
pub data HasRead {S : Type 0} (bus : BusModel S) (s : S) : ℕ → S → Type 0 where
  Nothing : HasRead bus s 0 s
  Once : (n : ℕ) (t : S) (a : ℕ) (w : Width) (v : ℕ) → HasRead bus s n t → bus.reads t a w ≡ Ok v → HasRead bus s (suc n) (bus.after_read t a w)

-- nothing but reads, so many at most
pub record OnlyReads {S : Type 0} (bus : BusModel S) (most : ℕ) (s t : S) : Type 0 where
  pub count : ℕ
  pub few : count ≤ most
  pub reads : HasRead bus s count t
