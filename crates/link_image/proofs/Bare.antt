-- The code of a source is the same, whether what it calls stands in its calls or not.
use Rattle.std.proofs.Common.{◌≡◌, ℕ, zero, suc, ◌≤◌, Bool, List, [], ◌∷◌, ◌++◌, length, map, take, Option, Some, None, get_or, refl, sym, ap, ap₂, ◌∙◌, arith}
use Rattle.std.specs.Prelude.{slice_get, slice_index_or, All}
use Rattle.std.specs.Option.{option_map}
use Rattle.std.proofs.lemmas.List.Elements.{All-head, All-tail}
use Rattle.std.proofs.lemmas.Option.{slice_get_within}
use Rattle.task_ast.specs.Paths.{CheckedBlock, CheckedFunction, CheckedTask}
use Rattle.task_ast.proofs.Interface.{answer_at, answer_of, answers_length}
use Rattle.source_values.specs.Runs.{CheckedProgram}
use Rattle.memory_map.specs.declared.place.RoutinePlace.{RoutinePlace}
use Rattle.memory_map.specs.MemoryMap.{MemoryMap, TaskPlace}
use Rattle.memory_map.specs.Spots.{Places, routine_among, routine_of, routine_places}
use Rattle.array_versions.specs.Program.{Program, nothing, filled}
use Rattle.array_versions.specs.Form.{LocalsBelow}
use Rattle.array_versions.specs.Cost.{words_of}
use Rattle.array_versions.proofs.Interface.{filled_locals, filled_words}
use Rattle.word_code.specs.Code.{code_of, routine_code}
use Rattle.word_code.proofs.Interface.{code_filled, program_below, program_least, routine_filled}
use Rattle.lower.specs.Lowered.{lowered_block, body_at, routine_body, routine_bodies, task_places, lowered_task, lowered_tasks, lowered}
use Rattle.lower.specs.Lowered.{bare_body, bare_routine, bare_task, bare_tasks, bare_programs}
use Rattle.lower.proofs.Interface.{FillsIn, block_filled, routines_seen}
use Rattle.linked_code.specs.Linked.{boot_part, commit_part, routine_part, routine_parts, parts_of_task, task_parts, code_parts}
use Rattle.linked_code.specs.Parts.{CodePart}
use Rattle.link_image.specs.Needs.{HasOwnPlaces}

-- ---- a block

abbrev pub no_bodies : ℕ → Program
no_bodies address = nothing

none_past : (i : ℕ) → nothing ≡ slice_index_or [] i nothing
none_past zero = refl
none_past (suc i) = refl

fills : (p : Places) → FillsIn p [] no_bodies
fills p = record { none = refl; routines = λ i r is. none_past i }

-- without what stood in its calls it is bare
pub bare_is : (p : Places) (rs : List Program) (b : CheckedBlock) → filled no_bodies (lowered_block p rs b) ≡ lowered_block p [] b
bare_is p rs b = block_filled p rs [] no_bodies (fills p) b

own_code : (p : Places) (rs : List Program) (b : CheckedBlock) → code_of (lowered_block p [] b) ≡ code_of (lowered_block p rs b)
own_code p rs b = sym (ap code_of (bare_is p rs b)) ∙ code_filled no_bodies (lowered_block p rs b)

called_code : (p : Places) (rs : List Program) (b : CheckedBlock) → routine_code (lowered_block p [] b) ≡ routine_code (lowered_block p rs b)
called_code p rs b = sym (ap routine_code (bare_is p rs b)) ∙ routine_filled no_bodies (lowered_block p rs b)

-- ---- the body of a function

-- what is read of a list where something is, or nothing
read_there : {A : Type 0} (xs : List A) (k : ℕ) (d x : A) → slice_get xs k ≡ Some x → get_or xs k d ≡ x
read_there [] k d x e = let no : None ≡ Some x = e in cc
read_there (y ∷ xs) zero d x e = let same : y ≡ x = cc in same
read_there (y ∷ xs) (suc k) d x e = read_there xs k d x e

read_past : {A : Type 0} (xs : List A) (k : ℕ) (d : A) → slice_get xs k ≡ None → get_or xs k d ≡ d
read_past [] k d e = refl
read_past (y ∷ xs) zero d e = let no : Some y ≡ None = e in cc
read_past (y ∷ xs) (suc k) d e = read_past xs k d e

take_length : {A : Type 0} (xs : List A) (k : ℕ) → k ≤ length xs → length (take k xs) ≡ k
take_length xs zero l = refl
take_length [] (suc k) l = absurd (let none : ⊥ = omega arith in none)
take_length (x ∷ xs) (suc k) l = let rest = take_length xs k (omega arith) in omega (arith, rest)

module _ (p : Places) (fs : List CheckedFunction) (r : RoutinePlace) (own : routine_among p.routines r.function ≡ Some r) where
  abbrev its_body : Program
  its_body = slice_index_or (routine_bodies p fs) r.function nothing

  -- its program is bare without what stands in its calls
  pub routine_is : filled no_bodies its_body ≡ bare_routine p fs r
  routine_is = by (slice_get fs r.function) refl
    where
      by : (o : Option CheckedFunction) → slice_get fs r.function ≡ o → filled no_bodies its_body ≡ bare_body p r o
      by (Some f) at =
          let front = routine_bodies p (take r.function fs) in
          let made = answer_of (routine_body p) fs r.function f at in
          let read = read_there (routine_bodies p fs) r.function nothing (routine_body p front f) made in
          let inside = slice_get_within fs r.function f at in
          let short = take_length fs r.function (omega (arith, inside)) in
          let many = answers_length (routine_body p) [] (take r.function fs) in
          let count : length front ≡ r.function = omega (arith, short, many) in
          let place : routine_of p (length front) ≡ Some r = ap (routine_of p) count ∙ own in
          ap (filled no_bodies) (read ∙ ap (λ o. body_at p o front f.body) place) ∙ bare_is (routine_places p r) front f.body
      by None at =
          let none = answer_at (routine_body p) fs r.function ∙ ap (option_map (routine_body p (routine_bodies p (take r.function fs)))) at in
          ap (filled no_bodies) (read_past (routine_bodies p fs) r.function nothing none)

  routine_part_is : routine_part r (bare_routine p fs r) ≡ routine_part r its_body
  routine_part_is = ap (λ ms. record { address = r.code.address; forms = ms })
      (sym (ap routine_code routine_is) ∙ routine_filled no_bodies its_body)

-- ---- tasks

routines_are : (p : Places) (fs : List CheckedFunction) (rs : List RoutinePlace)
    → ((j : ℕ) (r : RoutinePlace) → slice_get rs j ≡ Some r → routine_among p.routines r.function ≡ Some r)
    → routine_parts rs (map (bare_routine p fs) rs) ≡ routine_parts rs (map (λ r. slice_index_or (routine_bodies p fs) r.function nothing) rs)
routines_are p fs [] own = refl
routines_are p fs (r ∷ rs) own =
    ap₂ (λ (x : CodePart) xs. x ∷ xs) (routine_part_is p fs r (own 0 r refl)) (routines_are p fs rs (λ j q at. own (suc j) q at))

task_is : (fs : List CheckedFunction) (l : MemoryMap) (t : TaskPlace) (body : CheckedBlock) → HasOwnPlaces t
    → parts_of_task t (bare_task fs l t body) ≡ parts_of_task t (lowered_task fs l t body)
task_is fs l t body own =
    let p = task_places fs l t body in
    let seen = routines_seen l.runtime.logging t in
    let Parts : (RoutinePlace → Program) → List RoutinePlace → List CodePart = λ program rs. routine_parts t.routines (map program rs) in
    let its : RoutinePlace → Program = λ r. slice_index_or (routine_bodies p fs) r.function nothing in
    ap₂ (λ ms parts. record { address = t.code.address; forms = ms } ∷ parts) (own_code p (routine_bodies p fs) body)
    (ap (Parts (bare_routine p fs)) seen
    ∙ routines_are p fs t.routines (λ j r at. ap (λ rs. routine_among rs r.function) seen ∙ own j r at)
    ∙ ap (Parts its) (sym seen))

tasks_are : (fs : List CheckedFunction) (l : MemoryMap) (tasks : List CheckedTask) (ts : List TaskPlace) → All HasOwnPlaces ts
    → task_parts ts (bare_tasks fs l tasks ts) ≡ task_parts ts (lowered_tasks fs l tasks ts)
tasks_are fs l [] [] own = refl
tasks_are fs l [] (t ∷ ts) own = refl
tasks_are fs l (task ∷ tasks) [] own = refl
tasks_are fs l (task ∷ tasks) (t ∷ ts) own =
    ap₂ (λ (parts : List CodePart) more. parts ++ more) (task_is fs l t task.body (All-head HasOwnPlaces t ts own))
    (tasks_are fs l tasks ts (All-tail HasOwnPlaces t ts own))

-- the parts of the code are those of the bare programs
pub bare_parts : (l : MemoryMap) (p : CheckedProgram) → All HasOwnPlaces l.tasks → code_parts l (bare_programs l p) ≡ code_parts l (lowered l p)
bare_parts l p own = ap (λ parts. boot_part l ∷ commit_part l ∷ parts) (tasks_are p.functions l p.tasks l.tasks own)

-- ---- words and locals

pub bare_words : (q : Program) → words_of (filled no_bodies q) ≡ words_of q
bare_words q = filled_words no_bodies q

pub bare_low : (q : Program) → LocalsBelow 1016 q → LocalsBelow 1016 (filled no_bodies q)
bare_low q h =
    let same = filled_locals no_bodies q in
    let least = program_least 1016 q h in
    program_below 1016 (filled no_bodies q) (omega (arith, same, least))
