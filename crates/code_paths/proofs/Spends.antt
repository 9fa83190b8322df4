-- Code whose jumps go forward spends no more than its dearest path.
use Rattle.std.proofs.Common.{◌≡◌, ℕ, zero, suc, ◌+◌, ◌-◌, ◌*◌, ◌<◌, ◌≤◌, ◌==◌, Bool, true, false, nat_lt, if◌then◌else◌, List, [], ◌∷◌, length}
use Rattle.std.proofs.Common.{Some, None, refl, sym, ap, ◌∙◌, subst, arith, eqb-true, ne_eqb, eq-eqb, ⊎_elim, ltb-true}
use Rattle.std.proofs.lemmas.Bool.{and_parts, cases_lt}
use Rattle.std.proofs.lemmas.Bool.Decides.{nat_tests}
use Rattle.std.proofs.lemmas.Option.{same_Some}
use Rattle.code_forms.specs.msp_isa.declared.instructions.Instr.{Instr}
use Rattle.code_forms.specs.msp_isa.declared.instructions.Condition.{Condition}
use Rattle.code_forms.specs.msp_isa.declared.instructions.Condition.TheVariants as condition
use Rattle.code_forms.specs.msp_isa.Encoding.{encoding}
use Rattle.machine_effects.specs.msp_step.declared.machine.Stop.{Stop}
use Rattle.machine_effects.specs.msp_step.declared.machine.Stop.TheVariants as stop
use Rattle.machine_effects.specs.msp_step.Effect.{is_met, distance, word_sum}
use Rattle.machine_effects.specs.fram_board.Effects.{Effect}
use Rattle.machine_effects.specs.Going.{Goes, Stops, Halted, stretch, continued, going}
use Rattle.machine_effects.specs.Machine.{MachineBoard, MachineOutcome, Code, exec}
use Rattle.code_forms.specs.Forms.{Core, CoreOutcome, board_of, outcome_of_core, Form, Move, Calculate, Compare, Update, Push, Modify, SetStack, Sense}
use Rattle.code_forms.specs.Forms.{Jump, Skip}
use Rattle.code_forms.specs.Forms.{Branch, BranchIndexed, SkipBy, Call, Return, KeepStack, RestoreStack, EnableInterrupts, instruction_of, form_bytes}
use Rattle.code_forms.specs.Forms.{form_step}
use Rattle.code_forms.specs.Code.{forms_bytes, IsStraight, OfNext, IsTidy, KeptCode, RunsWithin, StarvesWithin}
use Rattle.code_forms.specs.Placed.{placed, placed_at, instructions}
use Rattle.code_forms.proofs.Interface.{bytes_are, does}
use Rattle.code_paths.specs.Paths.{form_cycles, dearer_way, behind_form, dearest_from, dearest, goes_forward, all_forward, is_forward, forward_most}
use Rattle.code_paths.specs.Laws.{BeginsCode, RunsKeepToPaths, StarvingKeepsToPaths}
use Rattle.code_paths.proofs.Forms.{CostsSo, costs_so, goes_behind, writes_pc, straight_leaves_pc, straight_by_pc, jump_by_instruction, forward_distance}
use Rattle.code_paths.proofs.Alone.{AtForms, forms_behind_step, first_form, tidy_alone, leads_so, stalls_so, forms_there}

-- ---- what steps cost, the price of one that stops among them

abbrev outcome_cost : MachineOutcome → (MachineBoard → ℕ) → ℕ
outcome_cost (Goes es c t) rest = c + rest t
outcome_cost (Stops es price x) rest = price

abbrev steps_cost : (MachineBoard → MachineOutcome) → ℕ → MachineBoard → ℕ
steps_cost step zero s = 0
steps_cost step (suc n) s = outcome_cost (step s) (steps_cost step n)

module _ (step : MachineBoard → MachineOutcome) where
  cycles_by : (n : ℕ) (o : MachineOutcome) → ((t : MachineBoard) → (going step n t).cycles ≤ steps_cost step n t)
      → (continued o (going step n)).cycles ≤ outcome_cost o (steps_cost step n)
  cycles_by n (Goes es c t) ih = let rest = ih t in omega (arith, rest)
  cycles_by n (Stops es price x) ih = omega arith

  cycles_cost : (n : ℕ) (s : MachineBoard) → (going step n s).cycles ≤ steps_cost step n s
  cycles_cost zero s = omega arith
  cycles_cost (suc n) s = cycles_by n (step s) (cycles_cost n)

  halted_by : (n price : ℕ) (x : Stop) (o : MachineOutcome) → (continued o (going step n)).status ≡ Halted price x
      → ((t : MachineBoard) → (going step n t).status ≡ Halted price x → (going step n t).cycles + price ≤ steps_cost step n t)
      → (continued o (going step n)).cycles + price ≤ outcome_cost o (steps_cost step n)
  halted_by n price x (Goes es c t) e ih = let rest = ih t e in omega (arith, rest)
  halted_by n price x (Stops es p y) e ih = let same : p ≡ price = cc e in omega (arith, same)

  halted_cost : (n price : ℕ) (x : Stop) (s : MachineBoard) → (going step n s).status ≡ Halted price x → (going step n s).cycles + price ≤ steps_cost step n s
  halted_cost zero price x s e = absurd (cc e)
  halted_cost (suc n) price x s e = halted_by n price x (step s) e (λ t. halted_cost n price x t)

-- ---- code placed at an address

no_form : (m : Form) → 0 < form_bytes m
no_form m = let e = bytes_are m in omega (arith, e, some_word (instruction_of m))
  where
    some_word : (i : Instr) → 0 < length (encoding i)
    some_word i = grind arith

placed_by : (p a : ℕ) (m : Form) (ms : List Form) (b : Bool) → (a == p) ≡ b → a < p → placed_at (p + form_bytes m) (instructions ms) a ≡ None
    → (if b then Some (instruction_of m) else placed_at (p + 2 * length (encoding (instruction_of m))) (instructions ms) a) ≡ None
placed_by p a m ms true e l rest = let same = eqb-true a p e in absurd (omega (arith, same, l))
placed_by p a m ms false e l rest = ap (λ n. placed_at (p + n) (instructions ms) a) (bytes_are m) ∙ rest

-- nothing stands in front of it
nothing_before : (p a : ℕ) (ms : List Form) → a < p → placed_at p (instructions ms) a ≡ None
nothing_before p a [] l = refl
nothing_before p a (m ∷ ms) l = placed_by p a m ms (a == p) refl l (nothing_before (p + form_bytes m) a ms (omega (arith, l)))

module _ (kept : KeptCode) (p : ℕ) (all : List Form) (tidy : IsTidy (placed kept.code.events p (instructions all))) where
  abbrev alone : Code
  alone = placed kept.code.events p (instructions all)

  abbrev apart : KeptCode
  apart = record kept { code = alone }

  -- from an address on these forms stand, and nothing else
  abbrev Suffix : ℕ → List Form → Type 0
  Suffix q ms = (a : ℕ) → q ≤ a → alone.at a ≡ placed_at q (instructions ms) a

  -- behind the first of them
  suffix_behind : (q : ℕ) (m : Form) (ms : List Form) → Suffix q (m ∷ ms) → Suffix (q + form_bytes m) ms
  suffix_behind q m ms h a l =
      let other : (a == q) ≡ false = ne_eqb a q (λ e. let some = no_form m in omega (arith, l, e, some)) in
      h a (omega (arith, l))
      ∙ ap (λ b. if b then Some (instruction_of m) else placed_at (q + 2 * length (encoding (instruction_of m))) (instructions ms) a) other
      ∙ ap (λ n. placed_at (q + n) (instructions ms) a) (bytes_are m)

  suffix_front : (q : ℕ) (m : Form) (ms : List Form) → Suffix q (m ∷ ms) → alone.at q ≡ Some (instruction_of m)
  suffix_front q m ms h =
      h q (omega arith)
      ∙ ap (λ b. if b then Some (instruction_of m) else placed_at (q + 2 * length (encoding (instruction_of m))) (instructions ms) q) (eq-eqb q q refl)

  -- where nothing stands no step is at a form
  no_step : (n a : ℕ) (u : Core) (most : ℕ) → alone.at a ≡ None → u.pc ≡ a → AtForms apart n (board_of u) → steps_cost (exec alone) n (board_of u) ≤ most
  no_step zero a u most none at forms = omega arith
  no_step (suc n) a u most none at forms =
      let k = first_form apart n (board_of u) forms in
      let there : u.pc ≡ k.core.pc = ap (λ s. s.registers 0) k.is in
      let some : alone.at a ≡ Some (instruction_of k.form) = ap alone.at (sym at ∙ there) ∙ k.stands in
      absurd (cc (none, some))

  -- what is known of the code behind a form
  record Rest (ms : List Form) (next n : ℕ) : Type 0 where
    within : (b : ℕ) (t : Core) → t.pc ≡ next + b → AtForms apart n (board_of t) → steps_cost (exec alone) n (board_of t) ≤ dearest_from ms b

  -- a straight form is made, and then what is behind it
  straight_on : (n : ℕ) (m : Form) (ms : List Form) (next : ℕ) (u : Core) (o : CoreOutcome) → exec alone (board_of u) ≡ outcome_of_core o
      → CostsSo o (form_cycles m) → OfNext o (λ t. t.pc ≡ next) → Rest ms next n → AtForms apart (suc n) (board_of u)
      → outcome_cost (outcome_of_core o) (steps_cost (exec alone) n) ≤ form_cycles m + dearest_from ms 0
  straight_on n m ms next u (Goes es c t) e cost at rest forms =
      let behind = rest.within 0 t (at ∙ omega arith) (forms_behind_step apart n (board_of u) (board_of t) es c e forms) in
      omega (arith, cost, behind)
  straight_on n m ms next u (Stops es price x) e cost at rest forms = omega (arith, cost)

  there_at_most : (c : Condition) (there behind : ℕ) → there ≤ dearer_way c there behind
  there_at_most condition.Always there behind = omega arith
  there_at_most condition.NotEqual there behind = omega arith
  there_at_most c there behind = omega arith

  behind_at_most : (c : Condition) (there behind : ℕ) (u : Core) → is_met c u.flags ≡ false → behind ≤ dearer_way c there behind
  behind_at_most condition.Always there behind u e = absurd (cc e)
  behind_at_most condition.NotEqual there behind u e = omega arith
  behind_at_most c there behind u e = omega arith

  -- a jump leads behind it, or forward
  jump_on : (n : ℕ) (c : Condition) (o : ℕ) (ms : List Form) (q : ℕ) (u t : Core) (met : Bool) → is_met c u.flags ≡ met → o < 512 → p ≤ q
      → q + 2 < 0x10000 → q < p + 0x8000 → t.pc ≡ (if met then word_sum (q + 2) (2 * o) else q + 2) → Rest ms (q + 2) n → AtForms apart n (board_of t)
      → steps_cost (exec alone) n (board_of t) ≤ dearer_way c (dearest_from ms (2 * o)) (dearest_from ms 0)
  jump_on n c o ms q u t false e few low high far at rest forms =
      let behind = rest.within 0 t (at ∙ omega arith) forms in
      let most = behind_at_most c (dearest_from ms (2 * o)) (dearest_from ms 0) u e in
      omega (arith, behind, most)
  jump_on n c o ms q u t true e few low high far at rest forms =
      let most = there_at_most c (dearest_from ms (2 * o)) (dearest_from ms 0) in
      ⊎_elim {C = steps_cost (exec alone) n (board_of t) ≤ dearer_way c (dearest_from ms (2 * o)) (dearest_from ms 0)}
      (λ less. let there = rest.within (2 * o) t (at ∙ omega (arith, less)) forms in omega (arith, there, most))
      (λ wraps. no_step n t.pc t _ (nothing_before p t.pc all (omega (arith, wraps, at, few, low, high, far))) refl forms)
      (cases_lt (q + 2 + 2 * o) 0x10000)

  same_bytes : (m k : Form) → instruction_of k ≡ instruction_of m → form_bytes k ≡ form_bytes m
  same_bytes m k e =
      let a = bytes_are m in
      let b = bytes_are k in
      let c : length (encoding (instruction_of k)) ≡ length (encoding (instruction_of m)) = ap (λ i. length (encoding i)) e in
      omega (arith, a, b, c)

  same_cycles : (m k : Form) → instruction_of k ≡ instruction_of m → form_cycles k ≡ form_cycles m
  same_cycles m k e = ap (λ i. Rattle.msp_cycles.specs.Cycles.cycles_of i) e

  module _ (n : ℕ) (m : Form) (ms : List Form) (q : ℕ) (low : p ≤ q) (high : q + 2 < 0x10000) (far : q < p + 0x8000) (rest : Rest ms (q + form_bytes m) n) where
    -- a step at a form with the instruction of this one
    one_straight : (k : Form) (u : Core) → IsStraight m → instruction_of k ≡ instruction_of m → u.pc ≡ q
        → exec alone (board_of u) ≡ outcome_of_core (form_step k u)
        → AtForms apart (suc n) (board_of u)
        → outcome_cost (outcome_of_core (form_step k u)) (steps_cost (exec alone) n) ≤ form_cycles m + dearest_from ms 0
    one_straight k u straight same at e forms =
        let k_straight = straight_by_pc k (ap writes_pc same ∙ straight_leaves_pc m straight) in
        let bytes = same_bytes m k same in
        let next : u.pc + form_bytes k ≡ q + form_bytes m = omega (arith, at, bytes) in
        straight_on n m ms (q + form_bytes m) u (form_step k u) e
        (subst (CostsSo (form_step k u)) (same_cycles m k same) (costs_so k u))
        (subst (λ a. OfNext (form_step k u) (λ t. t.pc ≡ a)) next (goes_behind k u k_straight)) rest forms

  -- a step at the front of these forms
  one_step : (n : ℕ) (m : Form) (ms : List Form) (q : ℕ) → p ≤ q → q + 2 < 0x10000 → q < p + 0x8000 → Rest ms (q + form_bytes m) n
      → goes_forward m ≡ true → (k : Form) (u : Core) → instruction_of k ≡ instruction_of m → u.pc ≡ q
      → exec alone (board_of u) ≡ outcome_of_core (form_step k u) → AtForms apart (suc n) (board_of u)
      → outcome_cost (outcome_of_core (form_step k u)) (steps_cost (exec alone) n) ≤ form_cycles m + behind_form m (dearest_from ms)
  one_step n (Jump c o) ms q low high far rest forward k u same at e forms =
      let is = jump_by_instruction k c o same in
      let t : Core = record u { pc = if is_met c u.flags then word_sum (u.pc + 2) (distance o) else u.pc + 2 } in
      let few : o < 512 = grind (arith, nat_tests) in
      let there : t.pc ≡ (if is_met c u.flags then word_sum (q + 2) (2 * o) else q + 2) =
      ap (λ a. if is_met c u.flags then word_sum (a + 2) (distance o) else a + 2) at
      ∙ ap (λ d. if is_met c u.flags then word_sum (q + 2) d else q + 2) (forward_distance o forward) in
      let e' : exec alone (board_of u) ≡ Goes [] 2 (board_of t) = e ∙ ap (λ x. outcome_of_core (form_step x u)) is in
      let behind = jump_on n c o ms q u t (is_met c u.flags) refl few low high far there rest
      (forms_behind_step apart n (board_of u) (board_of t) [] 2 e' forms) in
      subst (λ x. outcome_cost (outcome_of_core (form_step x u)) (steps_cost (exec alone) n) ≤ form_cycles (Jump c o) + behind_form (Jump c o)
      (dearest_from ms))
      (sym is) (omega (arith, behind))
  one_step n (Move x y) ms q low high far rest forward k u same at e forms = one_straight n (Move x y) ms q low high far rest k u tt same at e forms
  one_step n (Calculate op x b) ms q low high far rest forward k u same at e forms =
      one_straight n (Calculate op x b) ms q low high far rest k u tt same at e forms
  one_step n (Compare x a) ms q low high far rest forward k u same at e forms = one_straight n (Compare x a) ms q low high far rest k u tt same at e forms
  one_step n (Update op x a) ms q low high far rest forward k u same at e forms =
      one_straight n (Update op x a) ms q low high far rest k u tt same at e forms
  one_step n (Push x) ms q low high far rest forward k u same at e forms = one_straight n (Push x) ms q low high far rest k u tt same at e forms
  one_step n (Modify m b) ms q low high far rest forward k u same at e forms = one_straight n (Modify m b) ms q low high far rest k u tt same at e forms
  one_step n (SetStack a) ms q low high far rest forward k u same at e forms = one_straight n (SetStack a) ms q low high far rest k u tt same at e forms
  one_step n (Sense b) ms q low high far rest forward k u same at e forms = one_straight n (Sense b) ms q low high far rest k u tt same at e forms
  one_step n EnableInterrupts ms q low high far rest forward k u same at e forms = one_straight n EnableInterrupts ms q low high far rest k u tt same at e forms
  one_step n (Skip d) ms q low high far rest forward k u same at e forms = absurd (cc forward)
  one_step n (Branch a) ms q low high far rest forward k u same at e forms = absurd (cc forward)
  one_step n (BranchIndexed b x) ms q low high far rest forward k u same at e forms = absurd (cc forward)
  one_step n (SkipBy b) ms q low high far rest forward k u same at e forms = absurd (cc forward)
  one_step n (Call a) ms q low high far rest forward k u same at e forms = absurd (cc forward)
  one_step n Return ms q low high far rest forward k u same at e forms = absurd (cc forward)
  one_step n (KeepStack b) ms q low high far rest forward k u same at e forms = one_straight n (KeepStack b) ms q low high far rest k u tt same at e forms
  one_step n RestoreStack ms q low high far rest forward k u same at e forms = one_straight n RestoreStack ms q low high far rest k u tt same at e forms

  -- so many steps, from so many bytes behind the front of these forms on
  abbrev SpendsWithin : List Form → Type 0
  SpendsWithin ms = (n q b : ℕ) (u : Core) → Suffix q ms → all_forward ms ≡ true → p ≤ q → q + forms_bytes ms ≤ p + 0x8000 → u.pc ≡ q + b
      → AtForms apart n (board_of u) → steps_cost (exec alone) n (board_of u) ≤ dearest_from ms b

  module _ (m : Form) (ms : List Form) (ih : SpendsWithin ms) where
    -- at the front, or behind it
    spends_by : (n q b : ℕ) (u : Core) (front : Bool) → (b == 0) ≡ front → Suffix q (m ∷ ms) → all_forward (m ∷ ms) ≡ true
        → p ≤ q → q + forms_bytes (m ∷ ms) ≤ p + 0x8000 → u.pc ≡ q + b → AtForms apart n (board_of u)
        → steps_cost (exec alone) n (board_of u) ≤ (if front then form_cycles m + behind_form m (dearest_from ms) else dearest_from ms (b - form_bytes m))
    spends_by zero q b u front e h forward low high at forms = omega arith
    spends_by (suc n) q b u true e h forward low high at forms =
        let zero_is = eqb-true b 0 e in
        let k = first_form apart n (board_of u) forms in
        let there : u.pc ≡ k.core.pc = ap (λ s. s.registers 0) k.is in
        let here : k.core.pc ≡ q = omega (arith, there, at, zero_is) in
        let stands : alone.at q ≡ Some (instruction_of k.form) = ap alone.at (sym here) ∙ k.stands in
        let same : instruction_of k.form ≡ instruction_of m = same_Some _ _ (sym stands ∙ suffix_front q m ms h) in
        let made : exec alone (board_of k.core) ≡ outcome_of_core (form_step k.form k.core) = does apart tidy k.form k.core k.stands k.needs in
        let both = and_parts (goes_forward m) (all_forward ms) forward in
        let some = no_form m in
        let place = (tidy q (instruction_of m) (suffix_front q m ms h)).high in
        let rest : Rest ms (q + form_bytes m) n = record {
          within = λ c t a f. ih n (q + form_bytes m) c t (suffix_behind q m ms h) both.1 (omega (arith, low)) (omega (arith, high)) a f;
        } in
        let one = one_step n m ms q low (omega (arith, place)) (omega (arith, high, some)) rest both.0 k.form k.core same here made
        (subst (AtForms apart (suc n)) k.is forms) in
        let cost : steps_cost (exec alone) (suc n) (board_of u) ≡ outcome_cost (outcome_of_core (form_step k.form k.core)) (steps_cost (exec alone) n) =
        ap (λ s. outcome_cost (exec alone s) (steps_cost (exec alone) n)) k.is ∙ ap (λ o. outcome_cost o (steps_cost (exec alone) n)) made in
        omega (arith, one, cost)
    spends_by (suc n) q b u false e h forward low high at forms =
        let both = and_parts (goes_forward m) (all_forward ms) forward in
        let next = suffix_behind q m ms h in
        ⊎_elim {C = steps_cost (exec alone) (suc n) (board_of u) ≤ dearest_from ms (b - form_bytes m)}
        (λ inside. no_step (suc n) (q + b) u _ (inside_form inside) at forms)
        (λ behind. ih (suc n) (q + form_bytes m) (b - form_bytes m) u next both.1 (omega (arith, low)) (omega (arith, high))
        (at ∙ omega (arith, behind)) forms)
        (cases_lt b (form_bytes m))
      where
        some : 0 < b
        some = grind (arith, nat_tests)

        inside_form : b < form_bytes m → alone.at (q + b) ≡ None
        inside_form inside =
            let other : ((q + b) == q) ≡ false = ne_eqb (q + b) q (λ x. omega (arith, x, some)) in
            h (q + b) (omega arith)
            ∙ ap (λ c. if c then Some (instruction_of m) else placed_at (q + 2 * length (encoding (instruction_of m))) (instructions ms) (q + b)) other
            ∙ ap (λ l. placed_at (q + l) (instructions ms) (q + b)) (bytes_are m)
            ∙ nothing_before (q + form_bytes m) (q + b) ms (omega (arith, inside))

  spends : (ms : List Form) → SpendsWithin ms
  spends [] n q b u h forward low high at forms = no_step n (q + b) u 0 (h (q + b) (omega arith)) at forms
  spends (m ∷ ms) n q b u h forward low high at forms = spends_by m ms (spends ms) n q b u (b == 0) refl h forward low high at forms

-- ---- as a part of other code

module _ (kept : KeptCode) (at : ℕ) (ms : List Form) (u : Core) (k : BeginsCode kept.code at ms u) where
  abbrev by_itself : KeptCode
  by_itself = record kept { code = placed kept.code.events at (instructions ms) }

  -- from its front on
  from_front : (n : ℕ) → is_forward ms ≡ true → AtForms by_itself n (board_of u) → steps_cost (exec by_itself.code) n (board_of u) ≤ dearest ms
  from_front n forward forms =
      let both = and_parts (all_forward ms) (nat_lt (forms_bytes ms) 0x8000) forward in
      let short : forms_bytes ms < 0x8000 = ltb-true (forms_bytes ms) 0x8000 both.1 in
      spends kept at ms (tidy_alone kept.code at ms k.tidy k.stands) ms n at 0 u (λ a l. refl) both.0 (omega arith) (omega (arith, short))
      (k.begins ∙ omega arith) forms

  -- within the cycles of its path, or as many as are known
  path_or : (forward : Bool) (most spent : ℕ) → is_forward ms ≡ forward → spent ≤ most → (is_forward ms ≡ true → spent ≤ dearest ms)
      → spent ≤ (if forward then dearest ms else most)
  path_or true most spent e l f = f e
  path_or false most spent e l f = l

  pub runs_so : (es : List Effect) (most : ℕ) (P : Core → Type 0) → RunsWithin by_itself es most u P → RunsWithin kept es (forward_most ms most) u P
  runs_so es most P a =
      let last : a.steps ≡ a.steps + 0 = omega arith in
      let cycles : (going (exec by_itself.code) a.steps (board_of u)).cycles ≡ a.cycles + 0 =
      ap (λ j. (going (exec by_itself.code) j (board_of u)).cycles) last ∙ ap (λ r. r.cycles) (a.leads.by 0) in
      let made = cycles_cost (exec by_itself.code) a.steps (board_of u) in
      let path : is_forward ms ≡ true → a.cycles ≤ dearest ms = λ e. let spent = from_front a.steps e a.forms in omega (arith, spent, made, cycles) in
      record {
        steps = a.steps;
        cycles = a.cycles;
        within = path_or (is_forward ms) most a.cycles refl a.within path;
        comes =
            record {
              end = a.end;
              leads = leads_so kept at ms k.stands a.steps a.cycles es (board_of u) (board_of a.end) a.forms a.leads;
              forms = forms_there kept at ms k.stands a.steps (board_of u) a.forms;
              holds = a.holds;
            };
      }

  pub starves_so : (es : List Effect) (most : ℕ) → StarvesWithin by_itself es most u → StarvesWithin kept es (forward_most ms most) u
  starves_so es most a =
      let n = suc a.steps in
      let last : n ≡ a.steps + suc 0 = omega arith in
      let there : going (exec by_itself.code) n (board_of u) ≡ stretch es a.cycles (Halted a.price stop.NoReading) =
      ap (λ j. going (exec by_itself.code) j (board_of u)) last ∙ a.stalls.by 0 in
      let made = halted_cost (exec by_itself.code) n a.price stop.NoReading (board_of u) (ap (λ r. r.status) there) in
      let cycles : (going (exec by_itself.code) n (board_of u)).cycles ≡ a.cycles = ap (λ r. r.cycles) there in
      let path : is_forward ms ≡ true → a.cycles + a.price ≤ dearest ms = λ e. let spent = from_front n e a.forms in omega (arith, spent, made, cycles) in
      record {
        steps = a.steps;
        cycles = a.cycles;
        price = a.price;
        within = path_or (is_forward ms) most (a.cycles + a.price) refl a.within path;
        stalls = stalls_so kept at ms k.stands a.steps a.cycles es (board_of u) a.price stop.NoReading a.forms a.stalls;
        forms = forms_there kept at ms k.stands n (board_of u) a.forms;
      }

pub runs_keep_to_paths : RunsKeepToPaths
runs_keep_to_paths kept at ms u end es most k a = runs_so kept at ms u k es most (λ t. t ≡ end) a

pub starving_keeps_to_paths : StarvingKeepsToPaths
starving_keeps_to_paths kept at ms u es most k a = starves_so kept at ms u k es most a
