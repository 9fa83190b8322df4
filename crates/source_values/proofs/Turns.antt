-- One turn of a loop.
use Rattle.std.proofs.Common.{◌≡◌, ◌+◌, ◌*◌, ℕ, zero, suc, ap, ◌∙◌, refl, arith, sym, List, [], add_comm, true, false}
use Rattle.std.proofs.Math.Nat.{suc-mul}
use Rattle.task_ast.specs.declared.names.Variable.{Variable}
use Rattle.source_values.specs.declared.scratch.Scratch.{Scratch}
use Rattle.source_values.specs.declared.statements.End.{End}
use Rattle.source_values.specs.declared.statements.End.TheVariants.{GoesOn, ToTask, Returns}
use Rattle.source_values.specs.Values.{with_word}
use Rattle.source_values.specs.Statements.{Attempt, Outcome, and_then, assigned, turns}
use Rattle.source_values.specs.View.{attempt_in, variables_of, ended, leaves}

pub turns_step : (n m k : ℕ) (x : Variable) (body : Attempt → Outcome) (s : Attempt) (o : Outcome) → n ≡ m + 1 → body (assigned s x 0 k) ≡ o
    → turns n k x body s ≡ and_then o (turns m (k + 1) x body)
turns_step zero m k x body s o e h = absurd (omega arith)
turns_step (suc n) m k x body s o e h =
    let same : n ≡ m = omega arith in
    ap (λ o. and_then o (turns n (k + 1) x body)) h ∙ ap (λ j. and_then o (turns j (k + 1) x body)) same

-- the attempt behind an assignment
pub attempt_set : (old new : Scratch) (left : List ℕ) (x : Variable) (i w : ℕ) → variables_of new ≡ with_word (variables_of old) x i w
    → new.emitted ≡ old.emitted
    → assigned (attempt_in old left) x i w ≡ attempt_in new left
attempt_set old new left x i w v e =
    ap (λ m. record { variables = m; emitted = old.emitted.items; left = left; answers = [] }) (sym v)
    ∙ ap (λ es. record { variables = variables_of new; emitted = es.items; left = left; answers = [] }) (sym e)

pub turn_emits : (n m e : ℕ) → n ≡ m + 1 → n * e ≡ e + m * e
turn_emits zero m e h = absurd (omega arith)
turn_emits (suc n) m e h =
    let same : n ≡ m = omega arith in
    suc-mul n e ∙ add_comm (n * e) e ∙ ap (λ j. e + j * e) same

-- nothing runs behind an end that leaves
pub ended_stays : (end : End) (s : Attempt) (more : Attempt → Outcome) → leaves end ≡ true → and_then (ended end s) more ≡ ended end s
ended_stays GoesOn s more h = absurd (cc)
ended_stays (ToTask t) s more h = refl
ended_stays (Returns w) s more h = refl

pub ended_goes_on : (end : End) (s : Attempt) (more : Attempt → Outcome) → leaves end ≡ false → and_then (ended end s) more ≡ more s
ended_goes_on GoesOn s more h = refl
ended_goes_on (ToTask t) s more h = absurd (cc)
ended_goes_on (Returns w) s more h = absurd (cc)
