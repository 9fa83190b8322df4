-- The effects so far are a prefix of all.
use Rattle.word_code.proofs.Names.{◌≡◌, ℕ, zero, suc, ◌+◌, ◌-◌, ◌≤◌, List, [], ◌++◌, refl, sym, ap, ◌∙◌, subst, arith, append_assoc, append-nil, suc-add}
use Rattle.word_code.proofs.Names.{Effect, IsPrefix, StepOutcome, Goes, Stops, stretch, At, Halted, after_effects, continued, going, MachineBoard, exec}
use Rattle.word_code.proofs.Names.{board_of, IsWithin, RunsStayWithin, StarvingStaysWithin}
use Rattle.array_versions.specs.machine_effects.Machine.{MachineStretch as MachineStretchOf}
use Rattle.array_versions.specs.msp_step.declared.machine.Stop.{Stop}
use Rattle.array_versions.specs.msp_step.declared.machine.Stop.TheVariants as stop

-- one stretch is the front of another
record IsFront (r q : MachineStretchOf) : Type 0 where
  effects : IsPrefix r.effects q.effects
  cycles : r.cycles ≤ q.cycles

front_after : (es : List Effect) (c : ℕ) (r q : MachineStretchOf) → IsFront r q → IsFront (after_effects es c r) (after_effects es c q)
front_after es c r q f =
    record {
      effects = record { rest = f.effects.rest; joins = append_assoc es r.effects f.effects.rest ∙ ap (λ l. es ++ l) f.effects.joins };
      cycles = omega (arith, f.cycles);
    }

front_itself : (r : MachineStretchOf) → IsFront r r
front_itself r = record { effects = record { rest = []; joins = append-nil r.effects }; cycles = omega arith }

module _ (step : MachineBoard → StepOutcome MachineBoard Stop) where
  front_step : (n m : ℕ) (o : StepOutcome MachineBoard Stop) → ((t : MachineBoard) → IsFront (going step n t) (going step m t))
      → IsFront (continued o (going step n)) (continued o (going step m))
  front_step n m (Goes es c t) h = front_after es c (going step n t) (going step m t) (h t)
  front_step n m (Stops es price x) h = front_itself (stretch es 0 (Halted price x))

  -- fewer steps show a front
  fewer : (n m : ℕ) (s : MachineBoard) → IsFront (going step n s) (going step (n + m) s)
  fewer zero m s = record { effects = record { rest = (going step (zero + m) s).effects; joins = refl }; cycles = omega arith }
  fewer (suc n) m s =
      subst (λ k. IsFront (going step (suc n) s) (going step k s)) (sym (suc-add n m)) (front_step n (n + m) (step s) (λ t. fewer n m t))

-- what is known of the whole
within : (es : List Effect) (c most : ℕ) (r q : MachineStretchOf) → IsFront r q → q.effects ≡ es → q.cycles ≡ c → c ≤ most → IsWithin most es r
within es c most r q f e d l =
    record { effects = record { rest = f.effects.rest; joins = f.effects.joins ∙ e }; cycles = omega (arith, f.cycles) }

pub runs_stay_within : RunsStayWithin
runs_stay_within code es most u to s a n l =
    let m = a.steps - n in
    let k : a.steps + 0 ≡ n + m = omega arith in
    let q = going (exec code) (n + m) (board_of u) in
    let e : q ≡ stretch (es ++ []) (a.cycles + 0) (At (board_of a.end)) = ap (λ j. going (exec code) j (board_of u)) (sym k) ∙ a.leads.by 0 in
    within es a.cycles most (going (exec code) n (board_of u)) q (fewer (exec code) n m (board_of u)) (ap (λ r. r.effects) e ∙ append-nil es)
    (ap (λ r. r.cycles) e ∙ omega arith) a.within

pub starving_stays_within : StarvingStaysWithin
starving_stays_within code es most u a n =
    let m = a.steps + 1 in
    let k : a.steps + suc n ≡ n + m = omega arith in
    let q = going (exec code) (n + m) (board_of u) in
    let e : q ≡ stretch es a.cycles (Halted a.price stop.NoReading) = ap (λ j. going (exec code) j (board_of u)) (sym k) ∙ a.stalls.by n in
    within es a.cycles most (going (exec code) n (board_of u)) q (fewer (exec code) n m (board_of u)) (ap (λ r. r.effects) e) (ap (λ r. r.cycles) e)
    (let w = a.within in omega arith)
