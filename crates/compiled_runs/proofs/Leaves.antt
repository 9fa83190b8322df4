-- A run leaves the code as it is, and stays in it.
use Rattle.msp_step.specs.declared.machine.Stop.TheVariants as stop
use Rattle.std.proofs.Common.{◌≡◌, ◌*◌, ◌/◌, ℕ, length, refl, inl, inr, ⊎_elim, sym, subst, arith}
use Rattle.memory_map.proofs.Interface.{apart_of, even_of}
use Rattle.machine_effects.specs.Machine.{machine_powered}
use Rattle.code_forms.specs.Forms.{core_of}
use Rattle.code_forms.specs.Placed.{words_of, IsOutside}
use Rattle.code_forms.proofs.Interface.{powered_has_a_core}
use Rattle.source_values.specs.Runs.{CheckedProgram, State}
use Rattle.memory_map.specs.MemoryMap.{MemoryMap}
use Rattle.memory_map.specs.Laws.{AreApart}
use Rattle.lower.specs.Lowered.{lowered}
use Rattle.crash_rules.specs.Model.{Model, IsElsewhere}
use Rattle.crash_rules.specs.Runs.{ProgramLaws}
use Rattle.crash_rules.specs.Laws.{PowersUpBehind, ScriptsStore}
use Rattle.crash_rules.proofs.Interface.{stops_short, stores_only}
use Rattle.stands_for.proofs.Interface.{each_weaker, commit_stores_there}
use Rattle.linked_code.specs.Linked.{CodeFits}
use Rattle.linked_code.specs.Watch.{keeps_stacks}
use Rattle.linked_code.proofs.Interface.{linked_is_code}
use Rattle.compiled_model.specs.Places.{program_places}
use Rattle.compiled_model.specs.Parts.{compiled_model}
use Rattle.compiled_model.specs.Needs.{AttemptsStore, StoresBelow, AttemptsStoreBelow}
use Rattle.undo_states.proofs.Interface.{recovery_stores, undo_commit_stores}
use Rattle.compiled_model.specs.View.{state_view}
use Rattle.compiled_model.proofs.Interface.{either_logging, is_redo, is_logged}
use Rattle.compiled_runs.specs.Program.{source_code, stack_lows, compiled_program}
use Rattle.compiled_runs.specs.Laws.{CodeIsPlaced, RunsLeaveTheCode}
use Rattle.compiled_runs.proofs.Bound.{code_keeps_the_laws}

-- the code stands in FRAM, and goes astray where SP leaves its stack
pub code_is_placed : CodeIsPlaced
code_is_placed p l f =
    let k = linked_is_code l (lowered l p) f in
    let a = apart_of l f.rules in
    let end = k.end in
    let last = a.high in
    let even = (even_of l f.rules).boot in
    record {
      instructions = k.instructions;
      even = even;
      low = omega arith;
      high = omega (arith, end, last);
      may = keeps_stacks l (stack_lows p l);
      steps = refl;
      powers = λ s q w h e named. record {
        core = core_of (machine_powered s q);
        is = powered_has_a_core s q;
        pc = let half : s.fram 0xFFFE / 2 * 2 ≡ l.boot.address = omega (arith, e, even) in half;
        named = named;
      };
    }

-- all that a run does stores in front of the code, or at a word that counts events
pub scripts_store_below : (p : CheckedProgram) (l : MemoryMap) → AreApart l → AttemptsStoreBelow p l l.boot.address
    → ScriptsStore (compiled_model p l) (StoresBelow l l.boot.address)
scripts_store_below p l apart fit =
    let Below : ℕ → ℕ → Type 0 = StoresBelow l l.boot.address in
    let P : Model State → Type 0 = λ m. AttemptsStore m Below → ScriptsStore m Below in
    ⊎_elim {C = ScriptsStore (compiled_model p l) Below}
    (λ logs. subst P (sym (is_redo p l logs)) (λ attempts. record {
      recoveries = λ s x u. tt;
      attempts = attempts;
      commits = λ to x inputs d. each_weaker _ Below
          (λ a w h. ⊎_elim {C = Below a w} (λ low. inl (omega (arith, low, apart))) (λ counter. inr counter) h.below) _
          (commit_stores_there (program_places p l) x apart d.pending);
    }) fit)
    (λ logs. subst P (sym (is_logged p l logs)) (λ attempts. record {
      recoveries = λ s x u. recovery_stores (program_places p l) (state_view p l) s x u Below (λ a w h. inl (omega (arith, apart, h)))
          (inl (omega (arith, apart)));
      attempts = attempts;
      commits = λ to x inputs d. undo_commit_stores l Below x.fram (λ w on. inr (record { events = on; from = omega arith; below = omega arith }))
          (λ w. inl (omega (arith, apart))) (λ w. inl (omega (arith, apart))) (inl (omega (arith, apart))) (inl (omega (arith, apart)));
    }) fit) (either_logging l.runtime.logging)

pub runs_leave_the_code : RunsLeaveTheCode
runs_leave_the_code p l r laws below readings origin x s begins charges t k charged q powered from n =
    let up : PowersUpBehind (compiled_model p l) (compiled_program p l) readings origin q = record {
      board = t;
      history = k;
      run = record { world = x; start = s; begins = begins; charges = charges; leads = charged };
      powered = powered;
      from = from;
    } in
    let m = compiled_model p l in
    let c = compiled_program p l in
    let own : ProgramLaws m c = code_keeps_the_laws p l r laws in
    let P : ℕ → ℕ → Type 0 = StoresBelow l l.boot.address in
    let end = (linked_is_code l (lowered l p) r.fits).end in
    let high = r.fits.high in
    let last = r.apart.high in
    let stores = stores_only m c P laws own (scripts_store_below p l r.apart below) readings origin q up n in
    record {
      code = record {
        stores = each_weaker P (IsOutside l.boot.address (length (words_of (source_code p l))))
            (λ a w h. ⊎_elim (λ low. inl low) (λ counter. let from = counter.from in inr (omega (arith, from, end, last))) h) _ stores;
        stands = λ price pc word e.
            let d = stops_short m c laws own readings origin q up n price (stop.Illegal pc word) e in
            let no = d.0 in absurd (cc (no));
        served = λ price pc a e.
            let d = stops_short m c laws own readings origin q up n price (stop.Bus pc a) e in
            let no = d.0 in absurd (cc (no));
      };
      vector = each_weaker P (IsElsewhere 0xFFFE) (λ a w h e. ⊎_elim {C = ⊥} (λ low. omega (arith, low, e, end, high))
          (λ counter. let below = counter.below in omega (arith, below, e)) h) _ stores;
    }
