-- The steps of reading.
use Rattle.std.proofs.Common.{◌≡◌, ℕ, ◌+◌, List, [], ◌∷◌, refl, ap, Result, Ok}
use Rattle.radio_link.specs.declared.entry.Entry.{Entry}
use Rattle.radio_link.specs.declared.fault.ScheduleFault.{ScheduleFault}
use Rattle.radio_link.specs.declared.fault.ScheduleFault.TheVariants.{BadLine, TooMany, Memory}
use Rattle.radio_link.specs.Line.{line_says}
use Rattle.radio_link.specs.Reading.{step, read, Fails, ◌>>=◌}

pub read_end : (n : ℕ) (es : List Entry) (ls : List (List ℕ)) → ls ≡ [] → read n es ls ≡ Ok es
unfolding read
read_end n es ls e = rw e refl

pub read_more : (n : ℕ) (es : List Entry) (ls rest : List (List ℕ)) (l : List ℕ) → ls ≡ l ∷ rest
    → read n es ls ≡ (step n es (line_says l) >>= λ es. read (n + 1) es rest)
unfolding read
read_more n es ls rest l e = rw e refl

-- a fault is handed on
pub fails_bind : (e : ScheduleFault) (r : Result (List Entry) ScheduleFault) (f : List Entry → Result (List Entry) ScheduleFault) → Fails e r
    → Fails e (r >>= f)
fails_bind (BadLine n) r f h = ap (λ x. x >>= f) h
fails_bind (TooMany n) r f h = ap (λ x. x >>= f) h
fails_bind Memory r f h = tt
