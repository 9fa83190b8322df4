-- Where a local is known it is one of the function or the task that the place is in: each is known up to the end of a block of its own at most.
use Rattle.std.proofs.Common.{◌≡◌, ℕ, suc, ◌+◌, ◌<◌, ◌≤◌, Bool, true, false, List, [], ◌∷◌, ◌++◌, length, Option, Some, None, sym, subst, arith}
use Rattle.std.proofs.Common.{append_assoc}
use Rattle.std.specs.Prelude.{All}
use Rattle.std.specs.Option.{option_or}
use Rattle.std.specs.Str.{bytes_eq}
use Rattle.std.proofs.lemmas.List.{append-nil, length_push}
use Rattle.std.proofs.lemmas.List.Elements.{All-head, All-tail}
use Rattle.alp_text.specs.declared.lines.Span.{Span}
use Rattle.task_ast.specs.Tree.{Function, Task, Program}
use Rattle.task_ast.specs.declared.SharedDeclaration.{SharedDeclaration}
use Rattle.task_ast.specs.declared.WordType.{WordType}
use Rattle.task_check.specs.SharedTypes.{shared_type}
use Rattle.task_check.specs.declared.occurrence.Role.{Role}
use Rattle.task_check.specs.declared.occurrence.Role.TheVariants as role
use Rattle.task_check.specs.declared.occurrence.Occurrence.{Occurrence}
use Rattle.task_check.specs.declared.symbol.Local.{Local}
use Rattle.task_check.specs.Occurrences.{and_front, names_up_to, task_names, inner_names, function_names, shared_names, program_names}
use Rattle.task_check.specs.Scope.{text_of, functions_in, tasks_in, locals_in, local_with, if_named, local_in}
use Rattle.checked_trees.proofs.Fits.{BlockFits, FunctionFits}
use Rattle.checked_trees.proofs.Grammar.{ProgramFits}
use Rattle.checked_trees.proofs.Names.{Quiet, block_kept, inner_kept}

-- a local that is declared is known up to so many names behind, and no further
abbrev EndsAt : ℕ → Role → Type 0
EndsAt m (role.Local of begin end extra) = m ≤ end
EndsAt m (role.Shared of e) = Unit {0}
EndsAt m (role.Function of count) = Unit {0}
EndsAt m role.Task = Unit {0}
EndsAt m role.Scalar = Unit {0}
EndsAt m role.Element = Unit {0}
EndsAt m role.Counter = Unit {0}
EndsAt m (role.Call count) = Unit {0}
EndsAt m role.Target = Unit {0}
EndsAt m (role.Operand refused kept) = Unit {0}

-- so is each of these
abbrev EndsFrom : ℕ → List Occurrence → Type 0
EndsFrom m [] = Unit {0}
EndsFrom m (o ∷ front) = EndsAt m o.role × EndsFrom m front

ends_earlier : (m n : ℕ) (r : Role) → m ≤ n → EndsAt n r → EndsAt m r
ends_earlier m n (role.Local of begin end extra) l h = omega (arith, l, h)
ends_earlier m n (role.Shared of e) l h = tt
ends_earlier m n (role.Function of count) l h = tt
ends_earlier m n role.Task l h = tt
ends_earlier m n role.Scalar l h = tt
ends_earlier m n role.Element l h = tt
ends_earlier m n role.Counter l h = tt
ends_earlier m n (role.Call count) l h = tt
ends_earlier m n role.Target l h = tt
ends_earlier m n (role.Operand refused kept) l h = tt

all_end_earlier : (m n : ℕ) (front : List Occurrence) → m ≤ n → EndsFrom n front → EndsFrom m front
all_end_earlier m n [] l h = tt
all_end_earlier m n (o ∷ front) l h = (ends_earlier m n o.role l h.0, all_end_earlier m n front l h.1)

-- the name of a function or a task, with so many names behind the one in front of it, closes what is known in front
abbrev Closes : ℕ → Role → List Occurrence → Type 0
Closes m (role.Function of count) front = EndsFrom m front
Closes m role.Task front = EndsFrom m front
Closes m (role.Local of begin end extra) front = Unit {0}
Closes m (role.Shared of e) front = Unit {0}
Closes m role.Scalar front = Unit {0}
Closes m role.Element front = Unit {0}
Closes m role.Counter front = Unit {0}
Closes m (role.Call count) front = Unit {0}
Closes m role.Target front = Unit {0}
Closes m (role.Operand refused kept) front = Unit {0}

-- so does each of these names, where so many stand behind the first of the list
abbrev pub ScopesClose : ℕ → List Occurrence → Type 0
ScopesClose b [] = Unit {0}
ScopesClose b (o ∷ front) = Closes (suc b) o.role front × ScopesClose (suc b) front

-- ---- what is known at a place

-- a local of these is known up to so many names behind
abbrev IfEnds : ℕ → Option Local → Type 0
IfEnds m None = Unit {0}
IfEnds m (Some l) = m ≤ l.end

ends_or : (m : ℕ) (c : Bool) (l other : Option Local) → IfEnds m l → IfEnds m other → IfEnds m (option_or (if_named c l) other)
ends_or m false l other h k = k
ends_or m true None other h k = k
ends_or m true (Some l) other h k = h

ends_with : (m : ℕ) (r : Role) (functions tasks locals : ℕ) → EndsAt m r → IfEnds m (local_with r functions tasks locals)
ends_with m (role.Local of begin end extra) functions tasks locals h = h
ends_with m (role.Shared of e) functions tasks locals h = tt
ends_with m (role.Function of count) functions tasks locals h = tt
ends_with m role.Task functions tasks locals h = tt
ends_with m role.Scalar functions tasks locals h = tt
ends_with m role.Element functions tasks locals h = tt
ends_with m role.Counter functions tasks locals h = tt
ends_with m (role.Call count) functions tasks locals h = tt
ends_with m role.Target functions tasks locals h = tt
ends_with m (role.Operand refused kept) functions tasks locals h = tt

ends_in : (source name : List ℕ) (m : ℕ) (front : List Occurrence) → EndsFrom m front → IfEnds m (local_in source name front)
ends_in source name m [] h = tt
ends_in source name m (o ∷ front) h =
    ends_or m (bytes_eq (text_of source o.span) name) (local_with o.role (functions_in front) (tasks_in front) (locals_in front))
    (local_in source name front)
    (ends_with m o.role (functions_in front) (tasks_in front) (locals_in front) h.0) (ends_in source name m front h.1)

-- where a local is known with fewer names behind, its number is below the number of locals there
abbrev pub IsNear : ℕ → ℕ → Option Local → Type 0
IsNear b locals None = Unit {0}
IsNear b locals (Some l) = l.end < b → l.number < locals

-- a name that declares no local and closes nothing
passed : (b locals : ℕ) (c : Bool) (l : Option Local) → IsNear (suc b) locals l → IsNear b locals (option_or (if_named c None) l)
passed b locals true None h = tt
passed b locals true (Some l) h = λ known. h (omega (arith, known))
passed b locals false None h = tt
passed b locals false (Some l) h = λ known. h (omega (arith, known))

-- nothing is near that is closed
closed : (b : ℕ) (c : Bool) (l : Option Local) → IfEnds (suc b) l → IsNear b 0 (option_or (if_named c None) l)
closed b true None ends = tt
closed b true (Some l) ends = λ known. absurd (omega (arith, known, ends))
closed b false None ends = tt
closed b false (Some l) ends = λ known. absurd (omega (arith, known, ends))

-- one name more
near_more : (source name : List ℕ) (o : Occurrence) (r : Role) (front : List Occurrence) (b : ℕ) (c : Bool) → Closes (suc b) r front
    → IsNear (suc b) (locals_in front) (local_in source name front)
    → IsNear b (locals_in (record { span = o.span; role = r } ∷ front))
    (option_or (if_named c (local_with r (functions_in front) (tasks_in front) (locals_in front))) (local_in source name front))
near_more source name o (role.Local of begin end extra) front b true closes h = λ known. omega arith
near_more source name o (role.Local of begin end extra) front b false closes h = by (local_in source name front) h
  where
    by : (l : Option Local) → IsNear (suc b) (locals_in front) l → IsNear b (locals_in front + 1) l
    by None h = tt
    by (Some l) h = λ known. let near = h (omega (arith, known)) in omega (arith, near)
near_more source name o (role.Function of count) front b c closes h = closed b c (local_in source name front) (ends_in source name (suc b) front closes)
near_more source name o role.Task front b c closes h = closed b c (local_in source name front) (ends_in source name (suc b) front closes)
near_more source name o (role.Shared of e) front b c closes h = passed b (locals_in front) c (local_in source name front) h
near_more source name o role.Scalar front b c closes h = passed b (locals_in front) c (local_in source name front) h
near_more source name o role.Element front b c closes h = passed b (locals_in front) c (local_in source name front) h
near_more source name o role.Counter front b c closes h = passed b (locals_in front) c (local_in source name front) h
near_more source name o (role.Call count) front b c closes h = passed b (locals_in front) c (local_in source name front) h
near_more source name o role.Target front b c closes h = passed b (locals_in front) c (local_in source name front) h
near_more source name o (role.Operand refused kept) front b c closes h = passed b (locals_in front) c (local_in source name front) h

pub near : (source name : List ℕ) (b : ℕ) (front : List Occurrence) → ScopesClose b front → IsNear b (locals_in front) (local_in source name front)
near source name b [] h = tt
near source name b (o ∷ front) h =
    near_more source name o o.role front b (bytes_eq (text_of source o.span) name) h.0 (near source name (suc b) front h.1)

-- ---- the names of a source

-- these names close their scopes behind any that do so and are known up to so many names behind; they are no fewer
record Closing (m : ℕ) (behind : List Occurrence) : Type 0 where
  long : m ≤ length behind
  on : (front : List Occurrence) → EndsFrom m front → ScopesClose (length behind) front → ScopesClose 0 (behind ++ front)

-- one more name in front
one_front : (m n : ℕ) (behind : List Occurrence) (s : Span) (r : Role) → Closing m behind → EndsAt m r → m ≤ n
    → ((front : List Occurrence) → EndsFrom n front → Closes (suc (length behind)) r front) → n ≤ suc (length behind)
    → Closing n (and_front behind s r)
one_front m n behind s r h ends le closes few = record {
  long = let count = length_push behind o in omega (arith, count, few);
  on = λ front all rest. by front all rest;
}
  where
    o : Occurrence
    o = record { span = s; role = r }

    by : (front : List Occurrence) → EndsFrom n front → ScopesClose (length (and_front behind s r)) front → ScopesClose 0 (and_front behind s r ++ front)
    by front all rest =
        let count = length_push behind o in
        let one : length (and_front behind s r) ≡ suc (length behind) = omega (arith, count) in
        let later = subst (λ b. ScopesClose b front) one rest in
        subst (ScopesClose 0) (sym (append_assoc behind (o ∷ []) front))
        (h.on (o ∷ front) (ends, all_end_earlier m n front le all) (closes front all, later))

-- a quiet one
quiet_front : (m : ℕ) (behind : List Occurrence) (s : Span) (r : Role) → Closing m behind → Quiet m r → Closing m (and_front behind s r)
quiet_front m behind s r h q =
    let long = h.long in
    one_front m m behind s r h (ends r q) (omega arith) (λ front all. closes r q front) (omega (arith, long))
  where
    ends : (r : Role) → Quiet m r → EndsAt m r
    ends (role.Shared of e) q = tt
    ends (role.Function of count) q = tt
    ends role.Task q = tt
    ends (role.Local of begin end extra) q = q.1
    ends role.Scalar q = tt
    ends role.Element q = tt
    ends role.Counter q = tt
    ends (role.Call count) q = tt
    ends role.Target q = tt
    ends (role.Operand refused kept) q = tt

    closes : (r : Role) → Quiet m r → (front : List Occurrence) → Closes (suc (length behind)) r front
    closes (role.Shared of e) q front = tt
    closes (role.Function of count) q front = absurd q
    closes role.Task q front = absurd q
    closes (role.Local of begin end extra) q front = tt
    closes role.Scalar q front = tt
    closes role.Element q front = tt
    closes role.Counter q front = tt
    closes (role.Call count) q front = tt
    closes role.Target q front = tt
    closes (role.Operand refused kept) q front = tt

-- between two bodies all that is known in front is closed
abbrev IsClosed : List Occurrence → Type 0
IsClosed behind = Closing (length behind) behind

task_closed : (types : Span → WordType) (k : Task Span Span Span) (rest : List Occurrence) → BlockFits k.body → IsClosed rest
    → IsClosed (and_front (names_up_to types true (length rest) k.body rest) k.name role.Task)
task_closed types k rest fits h =
    let m = length rest in
    let inner = names_up_to types true m k.body rest in
    let body = block_kept m (Closing m) (λ behind c. c.long) (quiet_front m) types true m k.body rest fits (omega arith) h in
    let long = body.long in
    let o : Occurrence = record { span = k.name; role = role.Task } in
    let count = length_push inner o in
    let one : suc (length inner) ≡ length (and_front inner k.name role.Task) = omega (arith, count) in
    subst (λ n. Closing n (and_front inner k.name role.Task)) one
    (one_front m (suc (length inner)) inner k.name role.Task body tt (omega (arith, long)) (λ front all. all) (omega arith))

function_closed : (types : Span → WordType) (f : Function Span Span Span) (rest : List Occurrence) → FunctionFits f → IsClosed rest
    → IsClosed (and_front (inner_names types f rest) f.name (role.Function f.word_type (length f.parameters)))
function_closed types f rest fits h =
    let m = length rest in
    let r = role.Function f.word_type (length f.parameters) in
    let inner = inner_names types f rest in
    let body = inner_kept m (Closing m) (λ behind c. c.long) (quiet_front m) types f rest fits h in
    let long = body.long in
    let o : Occurrence = record { span = f.name; role = r } in
    let count = length_push inner o in
    let one : suc (length inner) ≡ length (and_front inner f.name r) = omega (arith, count) in
    subst (λ n. Closing n (and_front inner f.name r)) one
    (one_front m (suc (length inner)) inner f.name r body tt (omega (arith, long)) (λ front all. all) (omega arith))

tasks_closed : (types : Span → WordType) (ts : List (Task Span Span Span)) (behind : List Occurrence) → All (λ task. BlockFits task.body) ts
    → IsClosed behind → IsClosed (task_names types ts behind)
tasks_closed types [] behind f h = h
tasks_closed types (k ∷ more) behind f h =
    task_closed types k (task_names types more behind) (All-head (λ task. BlockFits task.body) k more f)
    (tasks_closed types more behind (All-tail (λ task. BlockFits task.body) k more f) h)

functions_closed : (types : Span → WordType) (fs : List (Function Span Span Span)) (behind : List Occurrence) → All FunctionFits fs
    → IsClosed behind → IsClosed (function_names types fs behind)
functions_closed types [] behind f h = h
functions_closed types (g ∷ more) behind f h =
    function_closed types g (function_names types more behind) (All-head FunctionFits g more f)
    (functions_closed types more behind (All-tail FunctionFits g more f) h)

shared_closed : (m : ℕ) (ds : List SharedDeclaration) (behind : List Occurrence) → Closing m behind → Closing m (shared_names ds behind)
shared_closed m [] behind h = h
shared_closed m (d ∷ more) behind h =
    let others = shared_closed m more behind h in
    let long = others.long in
    one_front m m (shared_names more behind) d.name (role.Shared d.word_type d.extent) others tt (omega arith) (λ front all. tt) (omega (arith, long))

pub program_closed : (source : List ℕ) (p : Program Span Span Span) → ProgramFits p → ScopesClose 0 (program_names source p)
unfolding program_names
program_closed source p fits =
    let types = shared_type source p.shared in
    let entry = and_front [] p.entry role.Target in
    let none : Closing 0 [] = record { long = omega arith; on = λ front all rest. rest } in
    let last : Closing 1 entry = one_front 0 1 [] p.entry role.Target none tt (omega arith) (λ front all. tt) (omega arith) in
    let functions = functions_closed types p.functions (task_names types p.tasks entry) fits.functions (tasks_closed types p.tasks entry fits.tasks last) in
    let rest = function_names types p.functions (task_names types p.tasks entry) in
    let all = shared_closed (length rest) p.shared rest functions in
    subst (ScopesClose 0) (append-nil (shared_names p.shared rest)) (all.on [] tt tt)
