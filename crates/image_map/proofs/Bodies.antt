-- The steps of reading a map.
use Rattle.std.proofs.Common.{◌≡◌, ℕ, ◌+◌, List, [], ◌∷◌, refl, ap, Bool, true, false, Result, Ok, Err}
use Rattle.image_map.specs.declared.fault.MapFault.{MapFault}
use Rattle.image_map.specs.declared.fault.MapFault.TheVariants.{BadMap, Memory}
use Rattle.image_map.specs.MapValue.{MapValue}
use Rattle.image_map.specs.Line.{line_fields}
use Rattle.image_map.specs.Reading.{step, body, goes_on, Fails, ◌>>=◌}

-- a fault is handed on
pub fails_bind : {A B : Type 0} (e : MapFault) (r : Result A MapFault) (f : A → Result B MapFault) → Fails e r → Fails e (r >>= f)
fails_bind (BadMap n) r f h = ap (λ x. x >>= f) h
fails_bind Memory r f h = tt

pub body_end : (n : ℕ) (m : MapValue) (ls : List (List ℕ)) → ls ≡ [] → body n m ls ≡ Err (BadMap n)
unfolding body
body_end n m ls e = rw e refl

pub body_fault : (n : ℕ) (m : MapValue) (ls rest : List (List ℕ)) (l : List ℕ) (e : MapFault) → ls ≡ l ∷ rest → Fails e (step n m (line_fields l))
    → Fails e (body n m ls)
unfolding body
body_fault n m ls rest l e is h =
    rw is (fails_bind e (step n m (line_fields l)) (λ o. goes_on o.0 (body (n + 1) o.1 rest) (Ok (record { value = o.1; rest = rest; line = n + 1 }))) h)

pub body_next : (n : ℕ) (m m' : MapValue) (ls rest : List (List ℕ)) (l : List ℕ) (on : Bool) → ls ≡ l ∷ rest → step n m (line_fields l) ≡ Ok (on, m')
    → on ≡ true
    → body (n + 1) m' rest ≡ body n m ls
unfolding body
body_next n m m' ls rest l on is h e = rw (is, h, e) refl

pub body_done : (n : ℕ) (m m' : MapValue) (ls rest : List (List ℕ)) (l : List ℕ) (on : Bool) → ls ≡ l ∷ rest → step n m (line_fields l) ≡ Ok (on, m')
    → on ≡ false
    → body n m ls ≡ Ok (record { value = m'; rest = rest; line = n + 1 })
unfolding body
body_done n m m' ls rest l on is h e = rw (is, h, e) refl
