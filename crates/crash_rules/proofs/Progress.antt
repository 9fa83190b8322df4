-- A charge that is spent is less than what its transitions cost, and the one that was to come.
use Rattle.std.proofs.Common.{◌≡◌, ℕ, zero, suc, ◌+◌, ◌-◌, ◌*◌, ◌<◌, ◌≤◌, List, [], ◌∷◌, ◌++◌, length, refl, sym, ap, ◌∙◌, subst, ⊎_elim, ◌⊎◌, inl, arith}
use Rattle.std.proofs.Common.{append_assoc, length-append}
use Rattle.std.proofs.lemmas.Bool.{cases_lt}
use Rattle.machine_effects.specs.msp_step.declared.machine.Stop.TheVariants as stop
use Rattle.machine_effects.specs.fram_board.Effects.{Effect}
use Rattle.machine_effects.specs.World.{World}
use Rattle.machine_effects.specs.Going.{Goes, Stops, At, Halted, stretch, after_effects, continued, going, Stalls}
use Rattle.machine_effects.specs.Machine.{MachineBoard, MachineOutcome}
use Rattle.crash_rules.specs.Model.{ProgramEffects}
use Rattle.crash_rules.specs.History.{Done, History, observe}
use Rattle.crash_rules.specs.Runs.{Program, ProgramLaws, TakesCycles, IsSpent, Spends, IsSpentFrom}
use Rattle.crash_rules.specs.Laws.{next_cost, costs_of, IsSpentOn}
use Rattle.crash_rules.proofs.Observed.{observe-append, dones_grow}
use Rattle.crash_rules.proofs.Steps.{goes_on, halts, fewer, leads_end, stalls_end}
use Rattle.crash_rules.proofs.Cuts.{Setting, script_at}
use Rattle.crash_rules.proofs.Plays.{by_value, IsThere, due, makes_script, Round, round}

-- transitions cost what the first of them does, at least
costs_least : (behind : World → ℕ) (first : ℕ) (ds : List Done) → first ≤ costs_of behind first ds
costs_least behind first [] = omega arith
costs_least behind first (d ∷ ds) = omega arith

-- the world of the last done says what the next transition costs
next_is_last : (behind : World → ℕ) (first : ℕ) (ds : List Done) (d : Done) → next_cost behind first (ds ++ d ∷ []) ≡ behind d.world
next_is_last behind first [] d = refl
next_is_last behind first (c ∷ ds) d = next_is_last behind (behind c.world) ds d

-- a done, and others behind it
one_more : (before next end more : List Done) (d : Done) → next ≡ before ++ d ∷ [] → end ≡ next ++ more → end ≡ before ++ (d ∷ more)
one_more before next end more d one rest = rest ∙ ap (λ l. l ++ more) one ∙ append_assoc before (d ∷ []) more

-- where each transition costs the same
equal_next : (cost : ℕ) (ds : List Done) → next_cost (λ x. cost) cost ds ≡ cost
equal_next cost [] = refl
equal_next cost (d ∷ ds) = equal_next cost ds

equal_costs : (cost : ℕ) (ds : List Done) → costs_of (λ x. cost) cost ds ≡ suc (length ds) * cost
equal_costs cost [] = omega arith
equal_costs cost (d ∷ ds) = let rest = equal_costs cost ds in omega (arith, rest)

fewer_times : (n k cost : ℕ) → n * cost < suc k * cost → n ≤ k
fewer_times zero k cost h = omega arith
fewer_times (suc n) zero cost h = absurd (omega (arith, h))
fewer_times (suc n) (suc k) cost h = let less = fewer_times n k cost (omega (arith, h)) in omega (arith, less)

-- n bounds, where each transition costs the bound
pub bounds_count : (bound delay amount n : ℕ) (before behind : List Done) → IsSpentOn (record { first = bound; behind = λ x. bound }) delay amount before behind
    → n * bound + delay ≤ amount → n + length before ≤ length behind
bounds_count bound delay amount n before behind spent enough =
    let next = equal_next bound before in
    let less = subst (λ c. amount < costs_of (λ x. bound) c spent.dones + delay) next spent.less in
    let all = equal_costs bound spent.dones in
    let few = fewer_times n (length spent.dones) bound (omega (arith, less, all, enough)) in
    let count : length behind ≡ length before + length spent.dones = ap length spent.completed ∙ length-append before spent.dones in
    omega (arith, few, count)

can_pay : (amount used c : ℕ) → used + c ≤ amount → 0 < c → (amount - used ≡ 0) ⊎ (amount - used < c) → ⊥
can_pay amount used c le some h = ⊎_elim {C = ⊥} (λ z. absurd (omega (arith, le, some, z))) (λ l. absurd (omega (arith, le, some, l))) h

module _ (step : MachineBoard → MachineOutcome) (takes : (s : MachineBoard) → TakesCycles (step s)) where
  -- a charge isn't spent where it can pay for a step that is made
  steps_paid : (amount n : ℕ) (b t : MachineBoard) (spent : IsSpentFrom step amount b) → spent.steps < n → (going step n b).status ≡ At t
      → (going step n b).cycles ≤ amount → ⊥
  steps_paid amount n b t spent lt at_n le = by_outcome (step q) refl (takes q) spent.spends.spent
    where
      k : ℕ
      k = spent.steps

      q : MachineBoard
      q = spent.end

      i : k + 1 + (n - (k + 1)) ≡ n
      i = omega (arith, lt)

      by_outcome : (o : MachineOutcome) → step q ≡ o → TakesCycles o → IsSpent (amount - (going step k b).cycles) o → ⊥
      by_outcome (Goes es c u) e tk sp =
          let one : (going step (k + 1) b).cycles ≡ (going step k b).cycles + (going step 1 q).cycles = ap (λ r. r.cycles)
          (goes_on step k b q spent.spends.status 1) in
          let cost : (going step 1 q).cycles ≡ c + 0 = ap (λ o. (continued o (going step 0)).cycles) e in
          let grow : (going step (k + 1) b).cycles ≤ (going step n b).cycles = subst (λ j. (going step (k + 1) b).cycles ≤ (going step j b).cycles) i
          (fewer step (k + 1) (n - (k + 1)) b).1 in
          can_pay amount (going step k b).cycles c (omega (arith, one, cost, grow, le)) tk sp
      by_outcome (Stops es price x) e tk sp =
          let one : (going step (k + 1) b).status ≡ Halted price x = ap (λ r. r.status) (goes_on step k b q spent.spends.status 1)
          ∙ ap (λ o. (continued o (going step 0)).status) e in
          let stays : (going step n b).status ≡ Halted price x = ap (λ j. (going step j b).status) (sym i)
          ∙ ap (λ r. r.status) (halts step (k + 1) (n - (k + 1)) b price x one) ∙ one in
          absurd (cc (stays, at_n))

  -- nor where it can pay for an instruction that wants a reading
  stall_paid : (amount n cyc price : ℕ) (es : List Effect) (b : MachineBoard) → IsSpentFrom step amount b
      → Stalls step n es cyc b price stop.NoReading → cyc + price ≤ amount → ⊥
  stall_paid amount n cyc price es b spent st le = by_outcome (step q) refl (takes q) spent.spends.spent
    where
      k : ℕ
      k = spent.steps

      q : MachineBoard
      q = spent.end

      i : n + 1 + (k + 1) ≡ k + 1 + (n + 1)
      i = omega arith

      there : going step (k + 1 + (n + 1)) b ≡ stretch es cyc (Halted price stop.NoReading)
      there = ap (λ j. going step j b) (sym i) ∙ stalls_end step n es cyc b price stop.NoReading st (k + 1)

      by_outcome : (o : MachineOutcome) → step q ≡ o → TakesCycles o → IsSpent (amount - (going step k b).cycles) o → ⊥
      by_outcome (Goes fs c u) e tk sp =
          let one : (going step (k + 1) b).cycles ≡ (going step k b).cycles + (going step 1 q).cycles = ap (λ r. r.cycles)
          (goes_on step k b q spent.spends.status 1) in
          let cost : (going step 1 q).cycles ≡ c + 0 = ap (λ o. (continued o (going step 0)).cycles) e in
          let all : (going step (k + 1 + (n + 1)) b).cycles ≡ cyc = ap (λ r. r.cycles) there in
          let grow = (fewer step (k + 1) (n + 1) b).1 in
          can_pay amount (going step k b).cycles c (omega (arith, one, cost, grow, all, le)) tk sp
      by_outcome (Stops fs p x) e tk sp =
          let here : going step (k + 1) b ≡ after_effects (going step k b).effects (going step k b).cycles (stretch fs 0 (Halted p x)) =
          goes_on step k b q spent.spends.status 1
          ∙ ap (λ o. after_effects (going step k b).effects (going step k b).cycles (continued o (going step 0))) e in
          let stays : going step (k + 1 + (n + 1)) b ≡ going step (k + 1) b = halts step (k + 1) (n + 1) b p x (ap (λ r. r.status) here) in
          let same : after_effects (going step k b).effects (going step k b).cycles (stretch fs 0 (Halted p x)) ≡ stretch es cyc
          (Halted price stop.NoReading) = sym here ∙ sym stays ∙ there in
          let status : Halted p x ≡ Halted price stop.NoReading = ap (λ r. r.status) same in
          let same_price : p ≡ price = cc status in
          let reason : x ≡ stop.NoReading = cc status in
          let same_cycles : (going step k b).cycles + 0 ≡ cyc = ap (λ r. r.cycles) same in
          can_pay amount (going step k b).cycles p (omega (arith, same_price, same_cycles, le)) (tk reason) sp

  -- n steps take n cycles at least
  cost_from : (n : ℕ) (t : MachineBoard) (o : MachineOutcome) → TakesCycles o
      → ((s : MachineBoard) → (going step n s).status ≡ At t → n ≤ (going step n s).cycles) → (continued o (going step n)).status ≡ At t
      → suc n ≤ (continued o (going step n)).cycles
  cost_from n t (Goes es c s) some ih at = let rest = ih s at in omega (arith, some, rest)
  cost_from n t (Stops es price e) some ih at = absurd (cc at)

  pub steps_cost : (n : ℕ) (b t : MachineBoard) → (going step n b).status ≡ At t → n ≤ (going step n b).cycles
  steps_cost zero b t at = omega arith
  steps_cost (suc n) b t at = cost_from n t (step b) (takes b) (λ s. steps_cost n s t) at

  -- a charge of the cycles that so many instructions take is spent behind them
  pub all_spent : (n : ℕ) (b t : MachineBoard) → (going step n b).status ≡ At t → Spends step (going step n b).cycles n b t
  all_spent n b t at = record { status = at; within = omega arith; spent = nothing_left (step t) }
    where
      none : (going step n b).cycles - (going step n b).cycles ≡ 0
      none = omega arith

      nothing_left : (o : MachineOutcome) → IsSpent ((going step n b).cycles - (going step n b).cycles) o
      nothing_left (Goes es c u) = inl none
      nothing_left (Stops es price x) = inl none

module _ {St : Type 0} (given : Setting St) (c : Program) (code : ProgramLaws given.model c) where
  open given use {model as m, costs}

  abbrev script_there : History → MachineBoard → ProgramEffects
  script_there h b = script_at given h b.inputs.looks

  abbrev behind_script : History → MachineBoard → History
  behind_script h b = observe m.marks (script_there h b).effects h

  abbrev cost_due : History → ℕ
  cost_due h = due given c code h

  abbrev SpentFrom : ℕ → MachineBoard → Type 0
  SpentFrom amount b = IsSpentFrom c.step amount b

  -- an amount that was spent on what these effects complete from a history on
  abbrev SpentOn : ℕ → MachineBoard → History → List Effect → Type 0
  SpentOn amount b h es = IsSpentOn costs (m.delay b.inputs) amount h.completed (observe m.marks es h).completed

  -- one that is less than what is due
  too_little : (amount : ℕ) (b : MachineBoard) (h : History) (es : List Effect) → amount < cost_due h + m.delay b.inputs → SpentOn amount b h es
  too_little amount b h es little =
      let grown = dones_grow m.marks es h in
      let least = costs_least costs.behind (cost_due h) grown.0 in
      record { dones = grown.0; completed = grown.1; less = omega (arith, little, least) }

  -- a whole script, and what the rest of the charge was spent on
  round_spent : (amount : ℕ) (h : History) (b : MachineBoard) (r : Round given c code h b) (spent : SpentFrom amount b)
      → ((more : SpentFrom (amount - r.cycles) r.board) → r.steps + more.steps ≡ spent.steps
      → SpentOn (amount - r.cycles) r.board (behind_script h b) (going c.step more.steps r.board).effects)
      → SpentOn amount b h (going c.step spent.steps b).effects
  round_spent amount h b r spent next =
      let k = spent.steps in
      let sp = spent.spends in
      let es = (script_there h b).effects in
      let end = leads_end c.step r.steps es r.cycles b r.board r.leads in
      let within = r.within in
      ⊎_elim
      (λ lt. ⊎_elim
      (λ little. too_little amount b h (going c.step k b).effects little)
      (λ enough.
      let cyc : (going c.step r.steps b).cycles ≡ r.cycles = ap (λ z. z.cycles) end in
      absurd (steps_paid c.step code.takes_cycles amount r.steps b r.board spent lt (ap (λ z. z.status) end) (omega (arith, cyc, within, enough))))
      (cases_lt amount (cost_due h + m.delay b.inputs)))
      (λ ge.
      let j = k - r.steps in
      let i : r.steps + j ≡ k = omega (arith, ge) in
      let there : going c.step k b ≡ after_effects es r.cycles (going c.step j r.board) = ap (λ z. going c.step z b) (sym i) ∙ r.leads.by j in
      let cyc : (going c.step k b).cycles ≡ r.cycles + (going c.step j r.board).cycles = ap (λ z. z.cycles) there in
      let le = sp.within in
      let rest : amount - (going c.step k b).cycles ≡ amount - r.cycles - (going c.step j r.board).cycles = omega (arith, cyc) in
      let more : SpentFrom (amount - r.cycles) r.board = record {
        steps = j;
        end = spent.end;
        spends = record {
          status = sym (ap (λ z. z.status) there) ∙ sp.status;
          within = omega (arith, cyc, le);
          spent = subst (λ l. IsSpent l (c.step spent.end)) rest sp.spent;
        };
      } in
      let on = next more i in
      let is : observe m.marks (going c.step k b).effects h ≡ observe m.marks (going c.step j r.board).effects (behind_script h b) = ap
      (λ z. observe m.marks z.effects h) there ∙ observe-append m.marks es (going c.step j r.board).effects h in
      let last : next_cost costs.behind costs.first (behind_script h b).completed ≡ costs.behind r.next.done.world =
      ap (next_cost costs.behind costs.first) r.next.completed ∙ next_is_last costs.behind costs.first h.completed r.next.done in
      let less = subst (λ n. amount - r.cycles < costs_of costs.behind n on.dones + m.delay r.board.inputs) last on.less in
      record {
        dones = r.next.done ∷ on.dones;
        completed = subst (λ z. z.completed ≡ h.completed ++ (r.next.done ∷ on.dones)) (sym is)
            (one_more h.completed (behind_script h b).completed _ on.dones r.next.done r.next.completed on.completed);
        less = omega (arith, less, within);
      })
      (cases_lt k r.steps)

  pub spent_from : (fuel amount : ℕ) (h : History) (b : MachineBoard) → IsThere given c code b h → (spent : SpentFrom amount b) → spent.steps < fuel
      → SpentOn amount b h (going c.step spent.steps b).effects
  spent_from zero amount h b t spent le = absurd (omega (arith, le))
  spent_from (suc fuel) amount h b t spent le =
      let mk = makes_script given c code h b t in
      by_value (script_there h b).ends
      (λ e. let r = round given c code h b t mk e in let some = r.some in
      round_spent amount h b r spent
      (λ more i. spent_from fuel (amount - r.cycles) (behind_script h b) r.board r.there more (omega (arith, le, some, i))))
      (λ e. ⊎_elim
      (λ little. too_little amount b h (going c.step spent.steps b).effects little)
      (λ enough.
      let l = mk.lacks e in
      let most = l.within in
      absurd (stall_paid c.step code.takes_cycles amount mk.steps mk.cycles l.price (script_there h b).effects b spent l.stalls (omega (arith, most, enough))))
      (cases_lt amount (cost_due h + m.delay b.inputs)))
