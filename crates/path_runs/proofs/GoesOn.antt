-- A run that goes on shows that some path goes on.
use Rattle.std.proofs.Common.{◌≡◌, ℕ, zero, suc, ◌+◌, ◌-◌, ◌==◌, List, [], ◌∷◌, ◌++◌, Bool, true, false, ◌&&◌, ◌||◌, Some, None, refl, subst}
use Rattle.std.proofs.Common.{if◌then◌else◌}
use Rattle.std.proofs.lemmas.Bool.{or_left, or_right}
use Rattle.source_values.specs.task_ast.Tree as t
use Rattle.source_values.specs.task_ast.declared.names.Variable.{Variable}
use Rattle.source_values.specs.task_ast.Paths.{CheckedExpression, CheckedStatement, CheckedChoice, CheckedBlock}
use Rattle.source_values.specs.Values.{Meaning, holds}
use Rattle.source_values.specs.Statements.{Attempt, Outcome, goes_on, to_task, returns, short, and_then, with_value, assigned, assigned_value, word_of, turns}
use Rattle.source_values.specs.Statements.{run_statement, run_choice, run_block}
use Rattle.path_sums.specs.Reaches.{statement_falls_through, choice_falls_through, block_falls_through}
use Rattle.source_values.proofs.Interface.{for_value}
use Rattle.path_runs.specs.Laws.{RunsGoOnAlongPaths}

-- an outcome that goes on only where this is so
abbrev GoesOnIf : Bool → Outcome → Type 0
GoesOnIf b (goes_on s) = b ≡ true
GoesOnIf b (to_task k s) = Unit {0}
GoesOnIf b (returns w s) = Unit {0}
GoesOnIf b short = Unit {0}

weaker : (b c : Bool) → (b ≡ true → c ≡ true) → (o : Outcome) → GoesOnIf b o → GoesOnIf c o
weaker b c f (goes_on s) h = f h
weaker b c f (to_task k s) h = tt
weaker b c f (returns w s) h = tt
weaker b c f short h = tt

and_next : (b c : Bool) → b ≡ true → c ≡ true → (b && c) ≡ true
and_next true true h k = refl
and_next true false h k = k
and_next false c h k = h

both : (b c : Bool) (o : Outcome) (next : Attempt → Outcome) → GoesOnIf b o → ((s : Attempt) → GoesOnIf c (next s)) → GoesOnIf (b && c) (and_then o next)
both b c (goes_on s) next h k = weaker c (b && c) (and_next b c h) (next s) (k s)
both b c (to_task i s) next h k = tt
both b c (returns w s) next h k = tt
both b c short next h k = tt

-- whatever a value is
with_any : (b : Bool) (known : List Meaning) (e : CheckedExpression) (s : Attempt) (next : ℕ → Attempt → Outcome)
    → ((w : ℕ) (s : Attempt) → GoesOnIf b (next w s)) → GoesOnIf b (with_value known e s next)
with_any b known e s next h = for_value (GoesOnIf b) known e s next tt (λ w u is. h w u)

either : (b c test : Bool) (o q : Outcome) → GoesOnIf b o → GoesOnIf c q → GoesOnIf (b || c) (if test then o else q)
either b c true o q h k = weaker b (b || c) (or_left b c) o h
either b c false o q h k = weaker c (b || c) (or_right b c) q k

turn_goes : (f : Bool) (n : ℕ) (more : Attempt → Outcome) (o : Outcome) → GoesOnIf f o → ((u : Attempt) → GoesOnIf (n == 0 || f) (more u))
    → GoesOnIf (suc n == 0 || f) (and_then o more)
turn_goes f n more (goes_on u) h k =
    weaker (n == 0 || f) (suc n == 0 || f) (λ e. or_right (suc n == 0) f h) (more u) (k u)
turn_goes f n more (to_task i u) h k = tt
turn_goes f n more (returns w u) h k = tt
turn_goes f n more short h k = tt

turns_go : (f : Bool) (n k : ℕ) (x : Variable) (body : Attempt → Outcome) (s : Attempt) → ((s : Attempt) → GoesOnIf f (body s))
    → GoesOnIf (n == 0 || f) (turns n k x body s)
turns_go f zero k x body s h = refl
turns_go f (suc n) k x body s h =
    turn_goes f n (turns n (k + 1) x body) (body (assigned s x 0 k)) (h (assigned s x 0 k)) (λ u. turns_go f n (k + 1) x body u h)

module _ (known : List Meaning) where
  mutual
    statement_goes : (s : CheckedStatement) (a : Attempt) → GoesOnIf (statement_falls_through s) (run_statement known s a)
    statement_goes (t.declare of x None) a = refl
    statement_goes (t.declare of x (Some e)) a = with_any true known e a (λ w s. goes_on (assigned_value s x e w)) (λ w s. refl)
    statement_goes (t.assign x e) a = with_any true known e a (λ w s. goes_on (assigned_value s x e w)) (λ w s. refl)
    statement_goes (t.store x index e) a =
        with_any true known index a
        (λ i s. with_value known e s (λ w s. goes_on (assigned s x.variable i (word_of e w))))
        (λ i s. with_any true known e s (λ w s. goes_on (assigned s x.variable i (word_of e w))) (λ w s. refl))
    statement_goes (t.choose c) a = choice_goes c a
    statement_goes (t.loop x from tested below stepped body) a =
        turns_go (block_falls_through body) (below - from) from x.variable (run_block known body) a (block_goes body)
    statement_goes (t.emit e) a =
        with_any true known e a (λ w s. goes_on (record s { emitted = s.emitted ++ word_of e w ∷ [] })) (λ w s. refl)
    statement_goes (t.give at e) a = with_any false known e a (λ w s. returns (word_of e w) s) (λ w s. tt)
    statement_goes (t.transition at n) a = tt

    choice_goes : (c : CheckedChoice) (a : Attempt) → GoesOnIf (choice_falls_through c) (run_choice known c a)
    choice_goes t.nothing a = refl
    choice_goes (t.otherwise b) a = block_goes b a
    choice_goes (t.test e b more) a =
        with_any (block_falls_through b || choice_falls_through more) known e a
        (λ w s. if holds w then run_block known b s else run_choice known more s)
        (λ w s. either (block_falls_through b) (choice_falls_through more) (holds w) (run_block known b s) (run_choice known more s) (block_goes b s)
        (choice_goes more s))

    block_goes : (b : CheckedBlock) (a : Attempt) → GoesOnIf (block_falls_through b) (run_block known b a)
    block_goes t.end a = refl
    block_goes (t.step s more) a =
        both (statement_falls_through s) (block_falls_through more) (run_statement known s a) (run_block known more) (statement_goes s a) (block_goes more)

pub runs_go_on_along_paths : RunsGoOnAlongPaths
runs_go_on_along_paths known s a b e = subst (GoesOnIf (statement_falls_through s)) e (statement_goes known s a)
