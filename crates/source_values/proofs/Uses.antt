-- What statements and functions do depends on the readings and the answers that they take, and on no others.
use Rattle.std.proofs.Common.{◌≡◌, ℕ, zero, suc, ◌+◌, ◌-◌, ◌/◌, ◌%◌, List, [], ◌∷◌, ◌++◌, Bool, true, false, refl, ap, sym, ◌∙◌, subst, Option, Some, None}
use Rattle.std.proofs.Common.{append_assoc, if◌then◌else◌}
use Rattle.task_ast.specs.Paths.{CheckedStatement, CheckedChoice, CheckedBlock, CheckedFunction, CheckedProgram}
use Rattle.task_ast.specs.Tree.{declare, assign, store, choose, loop, emit, give, transition, nothing, otherwise, test, end, step}
use Rattle.task_ast.specs.declared.WordType.{WordType}
use Rattle.task_ast.specs.declared.WordType.TheVariants.{Unsigned, Int, Long}
use Rattle.task_ast.specs.declared.names.Variable.{Variable}
use Rattle.task_ast.specs.declared.names.VariableName.{VariableName}
use Rattle.source_values.specs.Values.{CheckedExpression, Evaluated, Meaning, by_width, type_of, converted, AreTaken, value_of, holds}
use Rattle.source_values.specs.Statements.{Attempt, Outcome, goes_on, to_task, returns, short, and_then, if_value, with_value, assigned, assigned_to}
use Rattle.source_values.specs.Statements.{assigned_value, word_of, turns, run_statement, run_choice, run_block, entered, left_with, meaning_of}
use Rattle.source_values.specs.Statements.{meanings}
use Rattle.source_values.proofs.Functions.{each_answer}
use Rattle.source_values.proofs.Takes.{taken_then, Takes, TakesItsOwn, OfValue, FunctionTakes, KnownTake, value_takes}

abbrev pub IsWhole : Outcome → Type 0
IsWhole (goes_on s) = Unit {0}
IsWhole (to_task t s) = Unit {0}
IsWhole (returns w s) = Unit {0}
IsWhole short = ⊥

abbrev pub left_of : Outcome → List ℕ
left_of (goes_on s) = s.left
left_of (to_task t s) = s.left
left_of (returns w s) = s.left
left_of short = []

abbrev pub answers_of : Outcome → List ℕ
answers_of (goes_on s) = s.answers
answers_of (to_task t s) = s.answers
answers_of (returns w s) = s.answers
answers_of short = []

-- the same outcome with other readings left
abbrev pub leaving : Outcome → List ℕ → Outcome
leaving (goes_on s) more = goes_on (record s { left = more })
leaving (to_task t s) more = to_task t (record s { left = more })
leaving (returns w s) more = returns w (record s { left = more })
leaving short more = short

-- and with other answers left
abbrev pub answering : Outcome → List ℕ → Outcome
answering (goes_on s) more = goes_on (record s { answers = more })
answering (to_task t s) more = to_task t (record s { answers = more })
answering (returns w s) more = returns w (record s { answers = more })
answering short more = short

-- the readings and the answers that were taken, and that any others may stand behind either; and of no answers none are left
pub record Uses (run : Attempt → Outcome) (s : Attempt) (o : Outcome) : Type 0 where
  pub used : List ℕ
  pub front : s.left ≡ used ++ left_of o
  pub same : (more : List ℕ) → run (record s { left = used ++ more }) ≡ leaving o more
  pub answered : List ℕ
  pub answers : AreTaken s.answers answered (answers_of o)
  pub same_answered : (more : List ℕ) → run (record s { answers = answered ++ more }) ≡ answering o more
  pub no_answers : s.answers ≡ [] → answers_of o ≡ []

abbrev pub UsesItsOwn : (Attempt → Outcome) → Type 0
UsesItsOwn run = (s : Attempt) (o : Outcome) → run s ≡ o → IsWhole o → Uses run s o

not_short : (o : Outcome) → short ≡ o → IsWhole o → ⊥
not_short o e w = let P : Outcome → Type 0 = IsWhole in subst P (sym e) w

uses_none : (run : Attempt → Outcome) (s : Attempt) (p : Outcome) → (s.left ≡ left_of p) × (s.answers ≡ answers_of p)
    → ((more : List ℕ) → run (record s { left = more }) ≡ leaving p more) → ((more : List ℕ) → run (record s { answers = more }) ≡ answering p more)
    → (o : Outcome) → p ≡ o → Uses run s o
uses_none run s p kept same same_answered o e =
    let P : Outcome → Type 0 = λ o. Uses run s o in
    subst P e (record {
      used = [];
      front = kept.0;
      same = same;
      answered = [];
      answers = sym kept.1;
      same_answered = same_answered;
      no_answers = λ none. sym kept.1 ∙ none;
    })

uses_on : UsesItsOwn goes_on
uses_on s o e w = uses_none goes_on s (goes_on s) (refl, refl) (λ more. refl) (λ more. refl) o e

uses_assigned : (x : Variable) (i v : ℕ) → UsesItsOwn (λ s. goes_on (assigned s x i v))
uses_assigned x i v s o e w = uses_none (λ s. goes_on (assigned s x i v)) s (goes_on (assigned s x i v)) (refl, refl) (λ more. refl) (λ more. refl) o e

uses_two : (x : Variable) (low high : ℕ) → UsesItsOwn (λ s. goes_on (assigned (assigned s x 0 low) x 1 high))
uses_two x low high s o e w = uses_none (λ s. goes_on (assigned (assigned s x 0 low) x 1 high)) s (goes_on (assigned (assigned s x 0 low) x 1 high))
    (refl, refl) (λ more. refl) (λ more. refl) o e

uses_assigned_to : (x : VariableName) (v : ℕ) → UsesItsOwn (λ s. goes_on (assigned_to s x v))
uses_assigned_to x v = go x.word_type
  where
    go : (t : WordType) → UsesItsOwn (λ s. goes_on (by_width t (assigned s x.variable 0 v)
        (assigned (assigned s x.variable 0 (v % 65536)) x.variable 1 (v / 65536))))
    go Long = uses_two x.variable (v % 65536) (v / 65536)
    go Int = uses_assigned x.variable 0 v
    go Unsigned = uses_assigned x.variable 0 v

uses_emitted : (v : ℕ) → UsesItsOwn (λ s. goes_on (record s { emitted = s.emitted ++ v ∷ [] }))
uses_emitted v s o e w = uses_none (λ s. goes_on (record s { emitted = s.emitted ++ v ∷ [] })) s (goes_on (record s { emitted = s.emitted ++ v ∷ [] }))
    (refl, refl) (λ more. refl) (λ more. refl) o e

uses_to_task : (t : ℕ) → UsesItsOwn (to_task t)
uses_to_task t s o e w = uses_none (to_task t) s (to_task t s) (refl, refl) (λ more. refl) (λ more. refl) o e

uses_returns : (w : ℕ) → UsesItsOwn (returns w)
uses_returns v s o e w = uses_none (returns v) s (returns v s) (refl, refl) (λ more. refl) (λ more. refl) o e

uses_then : (first second : Attempt → Outcome) → UsesItsOwn first → UsesItsOwn second → UsesItsOwn (λ s. and_then (first s) second)
uses_then first second p q s o e w = go (first s) refl e
  where
    go : (m : Outcome) → first s ≡ m → and_then m second ≡ o → Uses (λ s. and_then (first s) second) s o
    go (goes_on m) h e =
        let one = p s (goes_on m) h tt in
        let two = q m o e w in
        record {
          used = one.used ++ two.used;
          front = one.front ∙ ap (λ t. one.used ++ t) two.front ∙ sym (append_assoc one.used two.used (left_of o));
          same = λ more. ap (λ t. and_then (first (record s { left = t })) second) (append_assoc one.used two.used more)
              ∙ ap (λ o. and_then o second) (one.same (two.used ++ more)) ∙ two.same more;
          answered = one.answered ++ two.answered;
          answers = taken_then s.answers one.answered m.answers two.answered (answers_of o) one.answers two.answers;
          same_answered = λ more. ap (λ t. and_then (first (record s { answers = t })) second) (append_assoc one.answered two.answered more)
              ∙ ap (λ o. and_then o second) (one.same_answered (two.answered ++ more)) ∙ two.same_answered more;
          no_answers = λ none. two.no_answers (one.no_answers none);
        }
    go (to_task t m) h e =
        let one = p s (to_task t m) h tt in
        let P : Outcome → Type 0 = λ o. Uses (λ s. and_then (first s) second) s o in
        subst P e (record {
          used = one.used;
          front = one.front;
          same = λ more. ap (λ o. and_then o second) (one.same more);
          answered = one.answered;
          answers = one.answers;
          same_answered = λ more. ap (λ o. and_then o second) (one.same_answered more);
          no_answers = one.no_answers;
        })
    go (returns v m) h e =
        let one = p s (returns v m) h tt in
        let P : Outcome → Type 0 = λ o. Uses (λ s. and_then (first s) second) s o in
        subst P e (record {
          used = one.used;
          front = one.front;
          same = λ more. ap (λ o. and_then o second) (one.same more);
          answered = one.answered;
          answers = one.answers;
          same_answered = λ more. ap (λ o. and_then o second) (one.same_answered more);
          no_answers = one.no_answers;
        })
    go short h e = absurd (not_short o e w)

uses_value : (known : List Meaning) → KnownTake known → (e : CheckedExpression) (next : ℕ → Attempt → Outcome) → ((v : ℕ) → UsesItsOwn (next v))
    → UsesItsOwn (λ s. with_value known e s next)
uses_value known k e next p s o h w = go (value_of known e s) refl h
  where
    go : (v : Option Evaluated) → value_of known e s ≡ v → if_value v next ≡ o → Uses (λ s. with_value known e s next) s o
    go None v h = absurd (not_short o h w)
    go (Some x) v h =
        let one = value_takes known k e s x v in
        let two = p x.value x.behind o h w in
        record {
          used = one.used ++ two.used;
          front = one.front ∙ ap (λ t. one.used ++ t) two.front ∙ sym (append_assoc one.used two.used (left_of o));
          same = λ more. ap (λ t. with_value known e (record s { left = t }) next) (append_assoc one.used two.used more)
              ∙ ap (λ v. if_value v next) (one.same (two.used ++ more)) ∙ two.same more;
          answered = one.answered ++ two.answered;
          answers = taken_then s.answers one.answered x.behind.answers two.answered (answers_of o) one.answers two.answers;
          same_answered = λ more. ap (λ t. with_value known e (record s { answers = t }) next) (append_assoc one.answered two.answered more)
              ∙ ap (λ v. if_value v next) (one.same_answered (two.answered ++ more)) ∙ two.same_answered more;
          no_answers = λ none. two.no_answers (one.no_answers none);
        }

-- the value of a scalar
uses_set : (known : List Meaning) → KnownTake known → (x : VariableName) (e : CheckedExpression)
    → UsesItsOwn (λ s. with_value known e s (λ w s. goes_on (assigned_value s x e w)))
uses_set known k x e = uses_value known k e (λ w s. goes_on (assigned_value s x e w)) (λ w. uses_assigned_to x (converted (type_of e) x.word_type w))

uses_if : (b : Bool) (first second : Attempt → Outcome) → UsesItsOwn first → UsesItsOwn second → UsesItsOwn (λ s. if b then first s else second s)
uses_if true first second p q = p
uses_if false first second p q = q

uses_turns : (n k : ℕ) (x : Variable) (body : Attempt → Outcome) → UsesItsOwn body → UsesItsOwn (turns n k x body)
uses_turns zero k x body p = uses_assigned x 0 k
uses_turns (suc n) k x body p = uses_then (λ s. body (assigned s x 0 k)) (turns n (k + 1) x body) first (uses_turns n (k + 1) x body p)
  where
    first : UsesItsOwn (λ s. body (assigned s x 0 k))
    first s o e w =
        let one = p (assigned s x 0 k) o e w in
        record {
          used = one.used;
          front = one.front;
          same = one.same;
          answered = one.answered;
          answers = one.answers;
          same_answered = one.same_answered;
          no_answers = one.no_answers;
        }

mutual
  pub statement_uses : (known : List Meaning) → KnownTake known → (s : CheckedStatement) → UsesItsOwn (run_statement known s)
  statement_uses known k (declare t x None) = uses_on
  statement_uses known k (declare t x (Some e)) = uses_set known k x e
  statement_uses known k (assign x e) = uses_set known k x e
  statement_uses known k (store x index e) =
      uses_value known k index (λ i s. with_value known e s (λ w s. goes_on (assigned s x.variable i (word_of e w))))
      (λ i. uses_value known k e (λ w s. goes_on (assigned s x.variable i (word_of e w))) (λ w. uses_assigned x.variable i (word_of e w)))
  statement_uses known k (choose choice) = choice_uses known k choice
  statement_uses known k (loop x from tested below stepped body) =
      uses_turns (below - from) from x.variable (run_block known body) (block_uses known k body)
  statement_uses known k (emit e) =
      uses_value known k e (λ w s. goes_on (record s { emitted = s.emitted ++ word_of e w ∷ [] })) (λ w. uses_emitted (word_of e w))
  statement_uses known k (give at e) = uses_value known k e (λ w s. returns (word_of e w) s) (λ w. uses_returns (word_of e w))
  statement_uses known k (transition at t) = uses_to_task t.task

  pub choice_uses : (known : List Meaning) → KnownTake known → (c : CheckedChoice) → UsesItsOwn (run_choice known c)
  choice_uses known k nothing = uses_on
  choice_uses known k (otherwise block) = block_uses known k block
  choice_uses known k (test condition block more) =
      uses_value known k condition (λ w s. if holds w then run_block known block s else run_choice known more s)
      (λ w. uses_if (holds w) (run_block known block) (run_choice known more) (block_uses known k block) (choice_uses known k more))

  pub block_uses : (known : List Meaning) → KnownTake known → (b : CheckedBlock) → UsesItsOwn (run_block known b)
  block_uses known k end = uses_on
  block_uses known k (step statement more) =
      uses_then (run_statement known statement) (run_block known more) (statement_uses known k statement) (block_uses known k more)

-- ---- functions

-- what a body leaves is what its function leaves
left_takes : (known : List Meaning) → KnownTake known → (f : CheckedFunction) (words : List ℕ) (s : Attempt) (o : Outcome) (x : Evaluated)
    → run_block known f.body (entered words s) ≡ o → left_with s.variables.locals o ≡ Some x → Takes (meaning_of known f words) s x
left_takes known k f words s (goes_on u) x h e = absurd (cc e)
left_takes known k f words s (to_task t u) x h e = absurd (cc e)
left_takes known k f words s short x h e = absurd (cc e)
left_takes known k f words s (returns w u) x h e =
    let uses = block_uses known k f.body (entered words s) (returns w u) h tt in
    subst (OfValue (Takes (meaning_of known f words) s)) e (record {
      used = uses.used;
      front = uses.front;
      same = λ more. ap (left_with s.variables.locals) (uses.same more);
      answered = uses.answered;
      answers = uses.answers;
      same_answered = λ more. ap (left_with s.variables.locals) (uses.same_answered more);
      no_answers = uses.no_answers;
    })

function_takes : (known : List Meaning) → KnownTake known → (f : CheckedFunction) (words : List ℕ) → TakesItsOwn (meaning_of known f words)
function_takes known k f words s x e = left_takes known k f words s (run_block known f.body (entered words s)) x refl e

-- the functions of a source depend on what they take alone
pub meanings_take : (p : CheckedProgram) → KnownTake (meanings p)
meanings_take p = each_answer FunctionTakes meaning_of function_takes_by [] p.functions tt
  where
    function_takes_by : (known : List Meaning) (f : CheckedFunction) → KnownTake known → FunctionTakes (meaning_of known f)
    function_takes_by known f k = function_takes known k f
