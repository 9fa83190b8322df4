-- A source has one layout.
use Rattle.std.proofs.Common.{◌≡◌, ℕ, zero, suc, ◌+◌, ◌-◌, ◌*◌, ◌≤◌, Bool, true, false, if◌then◌else◌, List, [], ◌∷◌, ◌++◌, length, map, get_or, refl, sym}
use Rattle.std.proofs.Common.{◌∙◌, ap, subst, arith, Some}
use Rattle.std.specs.Prelude.{slice_get, All}
use Rattle.std.proofs.lemmas.List.Elements.{All-head, All-tail}
use Rattle.memory_map.specs.address_space.Limits.{fram_first}
use Rattle.memory_map.specs.Words.{row_words}
use Rattle.task_ast.specs.declared.SharedDeclaration.{SharedDeclaration}
use Rattle.cost_bound.specs.declared.allowance.Allow.{Allow}
use Rattle.cost_bound.specs.Summary.{Summary}
use Rattle.cost_bound.specs.Summaries.{function_summary, summaries}
use Rattle.cost_bound.specs.Counts.{CheckedBlock, routine_words, reaches_of, all_called_from}
use Rattle.cost_bound.specs.Frames.{stack_of}
use Rattle.cost_bound.specs.Allowance.{CheckedTask, CheckedProgram, is_written, total, plain_words_of, versions_of, IsAllowed}
use Rattle.war_analysis.specs.PlanValue.{TaskPlanValue}
use Rattle.memory_map.specs.declared.place.Region.{Region}
use Rattle.memory_map.specs.declared.place.VariablePlace.{VariablePlace}
use Rattle.memory_map.specs.declared.place.VariablePlace.TheVariants.{Scalar}
use Rattle.memory_map.specs.declared.place.PrivateScalar.{PrivateScalar}
use Rattle.memory_map.specs.declared.runtime.Logging.{Logging}
use Rattle.memory_map.specs.MemoryMap.{MemoryMap, TaskPlace, parts}
use Rattle.std.specs.List.{flat_map}
use Rattle.memory_map.specs.Places.{end_of, list_entry_room, AreInOrder, HasItsPlace, home_region, copy_regions, version_regions, code_regions}
use Rattle.function_locals.specs.declared.locals.FunctionLocals.{FunctionLocals}
use Rattle.function_locals.specs.Locals.{function_locals}
use Rattle.task_ast.proofs.Interface.{answers_length}
use Rattle.privatise.specs.Routines.{KnownFunctions, known_functions, routine_room, routines_from, task_routines}
use Rattle.privatise.specs.Sizes.{home_words, copy_words, body_words, boot_words, commit_words}
use Rattle.privatise.specs.Layouts.{IsPlaceOf, IsTaskLayout, IsLayoutFor}
use Rattle.privatise.specs.Laws.{OneLayoutFor}
use Rattle.memory_map.proofs.Interface.{apart_of}
use Rattle.privatise.proofs.Whole.{Amounts, needed, adds_up}
use Rattle.privatise.proofs.RoutinesPlaced.{if_marked}
use Rattle.privatise.proofs.Tight.{IsChain, bytes, same_chain, kinds_from, same_variables}

-- ---- tasks

same_privates : (places : List VariablePlace) (xs ys : List PrivateScalar) → map (λ s. s.number) xs ≡ map (λ s. s.number) ys → All (HasItsPlace places) xs
    → All (HasItsPlace places) ys → xs ≡ ys
same_privates places [] [] e a b = refl
same_privates places [] (y ∷ ys) e a b = absurd (let n = ap length e in omega (arith, n))
same_privates places (x ∷ xs) [] e a b = absurd (let n = ap length e in omega (arith, n))
same_privates places (x ∷ xs) (y ∷ ys) e a b =
    let number : x.number ≡ y.number = cc in
    let here = (All-head (HasItsPlace places) x xs a).place in
    let there = (All-head (HasItsPlace places) y ys b).place in
    let both : Some (Scalar x.home x.copy x.width) ≡ Some (Scalar y.home y.copy y.width) = sym here ∙ ap (λ n. slice_get places n) number ∙ there in
    let home : x.home ≡ y.home = cc in
    let copy : x.copy ≡ y.copy = cc in
    let width : x.width ≡ y.width = cc in
    let same : x ≡ y = λ j. record { number = number j; home = home j; copy = copy j; width = width j } in
    let behind : map (λ s. s.number) xs ≡ map (λ s. s.number) ys = cc in
    ap (λ s. s ∷ xs) same ∙ ap (λ s. y ∷ s) (same_privates places xs ys behind (All-tail (HasItsPlace places) x xs a) (All-tail (HasItsPlace places) y ys b))

-- what stands behind the functions of a task stands behind the room that they take
routines_behind : (stack : ℕ) (marks : ℕ → Bool) (k at : ℕ) (ss : List Summary) (ls : List FunctionLocals) (more : List Region) (end : ℕ)
    → length ls ≡ length ss → AreInOrder at (map (λ r. r.code) (routines_from stack marks k at ss ls) ++ more) end
    → AreInOrder (at + 2 * all_called_from marks routine_room k ss) more end
routines_behind stack marks k at [] ls more end e h = subst (λ n. AreInOrder n more end) (let same : at ≡ at + 2 * 0 = omega arith in same) h
routines_behind stack marks k at (s ∷ ss) [] more end e h = absurd (omega (arith, e))
routines_behind stack marks k at (s ∷ ss) (l ∷ ls) more end e h =
    by (λ later rest. routines_behind stack marks (k + 1) later ss ls more end (omega (arith, e)) rest) (marks k) h
  where
    by : ((later : ℕ) → AreInOrder later (map (λ r. r.code) (routines_from stack marks (k + 1) later ss ls) ++ more) end
        → AreInOrder (later + 2 * all_called_from marks routine_room (k + 1) ss) more end) → (b : Bool)
        → AreInOrder at (map (λ r. r.code) (if_marked b stack marks k at s l ss ls) ++ more) end
        → AreInOrder (at + 2 * ((if b then routine_room s else 0) + all_called_from marks routine_room (k + 1) ss)) more end
    by behind true (here, rest) =
        let later = at + 2 * routine_room s in
        let all : later + 2 * all_called_from marks routine_room (k + 1) ss ≡ at + 2 * (routine_room s + all_called_from marks routine_room (k + 1) ss) =
        omega arith in
        subst (λ n. AreInOrder n more end) all (behind later rest)
    by behind false rest =
        let none_taken : all_called_from marks routine_room (k + 1) ss ≡ 0 + all_called_from marks routine_room (k + 1) ss = omega arith in
        subst (λ n. AreInOrder (at + 2 * n) more end) none_taken (behind at rest)

-- layouts of tasks by their plans
abbrev AreOfTasks : KnownFunctions → List SharedDeclaration → List CheckedTask → List TaskPlanValue → List TaskPlace → Type 0
AreOfTasks known shared [] [] [] = Unit {0}
AreOfTasks known shared (t ∷ ts) (p ∷ ps) (l ∷ ls) = IsTaskLayout known shared t.body p l × AreOfTasks known shared ts ps ls
AreOfTasks known shared _ _ _ = ⊥

of_tasks : (known : KnownFunctions) (shared : List SharedDeclaration) (ts : List CheckedTask) (ps : List TaskPlanValue) (ls : List TaskPlace)
    → length ps ≡ length ts → length ls
    ≡ length ts
    → ((k : ℕ) (t : CheckedTask) (p : TaskPlanValue) (l : TaskPlace) → slice_get ts k ≡ Some t → slice_get ps k ≡ Some p → slice_get ls k ≡ Some l
    → IsTaskLayout known shared t.body p l) → AreOfTasks known shared ts ps ls
of_tasks known shared [] [] [] e f h = tt
of_tasks known shared [] (p ∷ ps) ls e f h = absurd (omega (arith, e))
of_tasks known shared [] [] (l ∷ ls) e f h = absurd (omega (arith, f))
of_tasks known shared (t ∷ ts) [] ls e f h = absurd (omega (arith, e))
of_tasks known shared (t ∷ ts) (p ∷ ps) [] e f h = absurd (omega (arith, f))
of_tasks known shared (t ∷ ts) (p ∷ ps) (l ∷ ls) e f h = (
  h zero t p l refl refl refl,
  of_tasks known shared ts ps ls (omega (arith, e)) (omega (arith, f)) (λ k t p l a b c. h (suc k) t p l a b c),
)

-- layouts of the tasks, with the code of each between two addresses
abbrev AreLaidOut : KnownFunctions → List SharedDeclaration → List VariablePlace → List CheckedTask → List TaskPlanValue → (from end : ℕ) → List TaskPlace
    → Type 0
AreLaidOut known shared places ts ps from end xs =
    AreOfTasks known shared ts ps xs × All (λ t. All (HasItsPlace places) t.privates) xs × AreInOrder from (flat_map code_regions xs) end

begins : (from a n rest end : ℕ) → from ≤ a → a + 2 * n + 2 * rest ≤ end → end ≤ from + 2 * (n + rest) → a ≡ from
begins from a n rest end x z t = omega (arith, x, z, t)

module _ (known : KnownFunctions) (shared : List SharedDeclaration) (count : length known.locals ≡ length known.summaries) where
  abbrev body : CheckedBlock → ℕ
  body = body_words known.summaries shared

  -- what stands behind a task stands behind its code and that of its functions
  task_behind : (code : CheckedBlock) (plan : TaskPlanValue) (l : TaskPlace) (more : List Region) (from end : ℕ) → IsTaskLayout known shared code plan l
      → AreInOrder from (code_regions l ++ more) end → AreInOrder (l.code.address + 2 * body code) more end
  task_behind code plan l more from end h (first, rest) =
      let moved = subst (λ rs. AreInOrder (end_of l.code) (map (λ r. r.code) rs ++ more) end) h.routines rest in
      let words = h.words in
      let all : end_of l.code + 2 * routine_words known.summaries code ≡ l.code.address + 2 * body code = omega (arith, words) in
      subst (λ n. AreInOrder n more end) all
      (routines_behind (stack_of known.summaries code) (λ k. reaches_of known.summaries k code) 0 (end_of l.code) known.summaries known.locals more end count
      moved)

  task_room : (ts : List CheckedTask) (ps : List TaskPlanValue) (ls : List TaskPlace) (from end : ℕ) → AreOfTasks known shared ts ps ls
      → AreInOrder from (flat_map code_regions ls) end → from + 2 * total body ts ≤ end
  task_room [] [] [] from end k h = omega (arith, h)
  task_room [] (p ∷ ps) ls from end k h = absurd k
  task_room [] [] (l ∷ ls) from end k h = absurd k
  task_room (t ∷ ts) [] ls from end k h = absurd k
  task_room (t ∷ ts) (p ∷ ps) [] from end k h = absurd k
  task_room (t ∷ ts) (p ∷ ps) (l ∷ ls) from end (here, others) (b, rest) =
      let r = task_room ts ps ls (l.code.address + 2 * body t.body) end others
      (task_behind t.body p l (flat_map code_regions ls) from end here (b, rest)) in
      added from l.code.address (body t.body) (total body ts) end b.from r
    where
      added : (from a n rest end : ℕ) → from ≤ a → a + 2 * n + 2 * rest ≤ end → from + 2 * (n + rest) ≤ end
      added from a n rest end x z = omega (arith, x, z)

  -- a task's layout begins where it may at the earliest, where no room is left
  task_at : (task : CheckedTask) (ts : List CheckedTask) (p : TaskPlanValue) (ps : List TaskPlanValue) (l : TaskPlace) (ls : List TaskPlace) (from end : ℕ)
      → end ≤ from + 2 * (body task.body + total body ts) → AreOfTasks known shared (task ∷ ts) (p ∷ ps) (l ∷ ls)
      → AreInOrder from (flat_map code_regions (l ∷ ls)) end → l.code.address ≡ from
  task_at task ts p ps l ls from end t (here, others) (x, xs) =
      begins from l.code.address (body task.body) (total body ts) end x.from
      (task_room ts ps ls (l.code.address + 2 * body task.body) end others
      (task_behind task.body p l (flat_map code_regions ls) from end here (x, xs))) t

  same_layout : (places : List VariablePlace) (code : CheckedBlock) (p : TaskPlanValue) (l m : TaskPlace) → l.code.address ≡ m.code.address
      → IsTaskLayout known shared code p l → IsTaskLayout known shared code p m → All (HasItsPlace places) l.privates → All (HasItsPlace places) m.privates
      → l ≡ m
  same_layout places code p l m address h k a b = λ j. record {
    privates = privates j;
    code = record { address = address j; words = words j };
    first = first j;
    routines = routines j;
  }
    where
      words : l.code.words ≡ m.code.words
      words = h.words ∙ sym k.words

      privates : l.privates ≡ m.privates
      privates = same_privates places l.privates m.privates (h.privates ∙ sym k.privates) a b

      first : l.first ≡ m.first
      first = h.first ∙ sym k.first

      routines : l.routines ≡ m.routines
      routines = h.routines ∙ ap (task_routines known code) (let e : end_of l.code ≡ end_of m.code = omega (arith, address, words) in e) ∙ sym k.routines

  same_tasks : (places : List VariablePlace) (ts : List CheckedTask) (ps : List TaskPlanValue) (xs ys : List TaskPlace) (from end : ℕ)
      → end ≤ from + 2 * total body ts → AreLaidOut known shared places ts ps from end xs → AreLaidOut known shared places ts ps from end ys → xs ≡ ys
  same_tasks places [] [] [] [] from end t x y = refl
  same_tasks places [] [] [] (_ ∷ _) from end t x y = absurd y.0
  same_tasks places [] [] (_ ∷ _) ys from end t x y = absurd x.0
  same_tasks places [] (_ ∷ _) xs ys from end t x y = absurd x.0
  same_tasks places (_ ∷ _) [] xs ys from end t x y = absurd x.0
  same_tasks places (_ ∷ _) (_ ∷ _) [] ys from end t x y = absurd x.0
  same_tasks places (_ ∷ _) (_ ∷ _) (_ ∷ _) [] from end t x y = absurd y.0
  same_tasks places (task ∷ ts) (p ∷ ps) (l ∷ ls) (m ∷ ms) from end t ((here, others), a, (x, xs)) ((here', others'), b, (y, ys)) =
      let P = λ (t : TaskPlace). All (HasItsPlace places) t.privates in
      let n = body task.body in
      let lat : l.code.address ≡ from = task_at task ts p ps l ls from end t (here, others) (x, xs) in
      let mat : m.code.address ≡ from = task_at task ts p ps m ms from end t (here', others') (y, ys) in
      let same : l ≡ m = same_layout places task.body p l m (lat ∙ sym mat) here here' (All-head P l ls a) (All-head P m ms b) in
      let l_rest = subst (λ f. AreInOrder (f + 2 * n) (flat_map code_regions ls) end) lat
      (task_behind task.body p l (flat_map code_regions ls) from end here (x, xs)) in
      let m_rest = subst (λ f. AreInOrder (f + 2 * n) (flat_map code_regions ms) end) mat
      (task_behind task.body p m (flat_map code_regions ms) from end here' (y, ys)) in
      let behind = same_tasks places ts ps ls ms (from + 2 * n) end (less from n (total body ts) end t) (others, All-tail P l ls a, l_rest)
      (others', All-tail P m ms b, m_rest) in
      ap (λ t. t ∷ ls) same ∙ ap (λ ts. m ∷ ts) behind
    where
      less : (from n rest end : ℕ) → end ≤ from + 2 * (n + rest) → end ≤ (from + 2 * n) + 2 * rest
      less from n rest end h = omega (arith, h)

-- as many functions have locals as have summaries
functions_count : (p : CheckedProgram) → length (known_functions p).locals ≡ length (known_functions p).summaries
functions_count p =
    let n = answers_length function_locals [] p.functions in let m = answers_length function_summary [] p.functions in omega (arith, n, m)

-- ---- the single places

abbrev addresses : MemoryMap → List ℕ
addresses l = map (λ (r : Region). r.address) (parts l)

abbrev sizes : CheckedProgram → Allow → List ℕ
sizes p allow = 2 * row_words ∷ 2 * (list_entry_room * allow.list) ∷ 2 * allow.emits ∷ 2 * allow.versions ∷ 2 * home_words p.shared ∷ 2 * copy_words p
    ∷ 2 * boot_words (summaries p) p.shared p.tasks ∷ 2 * commit_words ∷ 2 * total (body_words (summaries p) p.shared) p.tasks ∷ []

times : (a b c n m : ℕ) → a + n * b ≤ c → b ≡ m → a + n * m ≤ c
times a b c n m h e = subst (λ x. a + n * x ≤ c) e h

last : (a w n p : ℕ) → a + 2 * w + 2 ≤ fram_first + 2 * p → w ≡ n → a + 2 * n ≤ fram_first - 2 + 2 * p
last a w n p h e = omega (arith, h, e)

chain_of : {logging : Logging} (p : CheckedProgram) (allow : Allow) (plans : List TaskPlanValue) (l : MemoryMap) → IsLayoutFor logging p allow plans l
    → IsChain fram_first (addresses l) (sizes p allow) (fram_first - 2 + 2 * plain_words_of p)
chain_of p allow plans l h =
    let a = apart_of l h.rules in
    let emits = times l.list.address (list_entry_room * l.entries) l.emits.address 2 (list_entry_room * allow.list) a.emits
    (ap (λ n. list_entry_room * n) h.list) in
    let versions = times l.emits.address l.emits.words l.versions.address 2 allow.emits a.versions h.emits in
    let homes = times l.versions.address l.versions.words l.homes.address 2 allow.versions a.homes h.versions in
    let copies = times l.homes.address l.homes.words l.copies.address 2 (home_words p.shared) a.copies h.homes in
    let boot = times l.copies.address l.copies.words l.boot.address 2 (copy_words p) a.boot h.copies in
    let commit = times l.boot.address l.boot.words l.commit.address 2 (boot_words (summaries p) p.shared p.tasks) a.commit h.boot in
    let code = times l.commit.address l.commit.words l.code.address 2 commit_words a.code h.commit in
    let end = last l.code.address l.code.words (total (body_words (summaries p) p.shared) p.tasks) (plain_words_of p) h.size h.code in
    (a.row, (a.list, (emits, (versions, (homes, (copies, (boot, (commit, (code, end)))))))))

full : (l m v h c b t w : ℕ) → (row_words + commit_words + 3 * l + m + v + h + c + b + t) + 1 ≡ w
    → fram_first - 2 + 2 * w
    ≤ fram_first + (2 * row_words + (2 * (3 * l) + (2 * m + (2 * v + (2 * h + (2 * c + (2 * b + (2 * commit_words + (2 * t + 0)))))))))
full l m v h c b t w e = omega (arith, e)

all_full : (p : CheckedProgram) (allow : Allow) → IsAllowed p allow → fram_first - 2 + 2 * plain_words_of p ≤ fram_first + bytes (sizes p allow)
all_full p allow a =
    let n = needed p in
    let given : Amounts = record n { list = allow.list; emits = allow.emits; versions = allow.versions } in
    full allow.list allow.emits allow.versions n.homes n.copies n.boot n.code (plain_words_of p)
    (adds_up p given (λ j. record n { list = a.list j; emits = a.emits j; versions = a.versions j }))

same_addresses : {logging : Logging} (p : CheckedProgram) (allow : Allow) (plans : List TaskPlanValue) (a b : MemoryMap) → IsAllowed p allow
    → IsLayoutFor logging p allow plans a → IsLayoutFor logging p allow plans b → addresses a ≡ addresses b
same_addresses p allow plans a b h x y = same_chain fram_first (addresses a) (addresses b) (sizes p allow) (fram_first - 2 + 2 * plain_words_of p)
    (all_full p allow h) (chain_of p allow plans a x) (chain_of p allow plans b y)

same_region : (r q : Region) → r.address ≡ q.address → r.words ≡ q.words → r ≡ q
same_region r q e f = λ j. record { address = e j; words = f j }

within : (a w n : ℕ) → w ≡ n → a + 2 * w ≤ a + 2 * n
within a w n e = omega (arith, e)

pub one_layout : (logging : Logging) (p : CheckedProgram) (allow : Allow) → IsAllowed p allow → OneLayoutFor logging p allow
one_layout logging p allow h plans a b planned x y = λ j. record {
  runtime = runtime j;
  row = at 0 j;
  list = list j;
  entries = entries j;
  emits = emits j;
  versions = versions j;
  homes = homes j;
  copies = copies j;
  variables = variables j;
  boot = boot j;
  commit = commit j;
  code = code j;
  tasks = tasks j;
}
  where
    at : (k : ℕ) → get_or (addresses a) k 0 ≡ get_or (addresses b) k 0
    at k = ap (λ xs. get_or xs k 0) (same_addresses p allow plans a b h x y)

    runtime : a.runtime ≡ b.runtime
    runtime = x.runtime ∙ sym y.runtime

    entries : a.entries ≡ b.entries
    entries = x.list ∙ sym y.list

    list : a.list ≡ b.list
    list = same_region a.list b.list (at 1) (x.rules.list ∙ ap (λ n. list_entry_room * n) entries ∙ sym y.rules.list)

    emits : a.emits ≡ b.emits
    emits = same_region a.emits b.emits (at 2) (x.emits ∙ sym y.emits)

    versions : a.versions ≡ b.versions
    versions = same_region a.versions b.versions (at 3) (x.versions ∙ sym y.versions)

    homes : a.homes ≡ b.homes
    homes = same_region a.homes b.homes (at 4) (x.homes ∙ sym y.homes)

    copies : a.copies ≡ b.copies
    copies = same_region a.copies b.copies (at 5) (x.copies ∙ sym y.copies)

    boot : a.boot ≡ b.boot
    boot = same_region a.boot b.boot (at 6) (x.boot ∙ sym y.boot)

    commit : a.commit ≡ b.commit
    commit = same_region a.commit b.commit (at 7) (x.commit ∙ sym y.commit)

    code : a.code ≡ b.code
    code = same_region a.code b.code (at 8) (x.code ∙ sym y.code)

    variables : a.variables ≡ b.variables
    variables = same_variables (is_written (summaries p) p.tasks) 0 p.shared a.variables b.variables
        (record { home = a.homes.address; copy = a.copies.address; version = a.versions.address })
        (record { home = end_of a.homes; copy = end_of a.copies; version = end_of a.versions })
        (record {
          home = within a.homes.address a.homes.words (home_words p.shared) x.homes;
          copy = within a.copies.address a.copies.words (copy_words p) x.copies;
          version = within a.versions.address a.versions.words (versions_of p) (x.versions ∙ h.versions);
        })
        (kinds_from (is_written (summaries p) p.tasks) 0 p.shared a.variables x.variables.count (λ k d v e f. kind a x k d v e f))
        (kinds_from (is_written (summaries p) p.tasks) 0 p.shared b.variables y.variables.count (λ k d v e f. kind b y k d v e f))
        (record { home = x.rules.homes; copy = x.rules.copies; version = x.rules.versions })
        (record {
          home = subst (λ r. AreInOrder r.address (map home_region b.variables) (end_of r)) (sym homes) y.rules.homes;
          copy = subst (λ r. AreInOrder r.address (flat_map copy_regions b.variables) (end_of r)) (sym copies) y.rules.copies;
          version = subst (λ r. AreInOrder r.address (flat_map version_regions b.variables) (end_of r)) (sym versions) y.rules.versions;
        })
      where
        kind : (l : MemoryMap) → IsLayoutFor logging p allow plans l → (k : ℕ) (d : SharedDeclaration) (v : VariablePlace) → slice_get p.shared k ≡ Some d
            → slice_get l.variables k ≡ Some v → IsPlaceOf (is_written (summaries p) p.tasks (0 + k)) d.extent v
        kind l z k d v e f = let same : k ≡ 0 + k = omega arith in
            subst (λ n. IsPlaceOf (is_written (summaries p) p.tasks n) d.extent v) same (z.variables.each k d v e f)

    tasks : a.tasks ≡ b.tasks
    tasks = same_tasks (known_functions p) p.shared (functions_count p) a.variables p.tasks plans a.tasks b.tasks a.code.address (end_of a.code)
        (within a.code.address a.code.words (total (body_words (summaries p) p.shared) p.tasks) x.code)
        (of_tasks (known_functions p) p.shared p.tasks plans a.tasks planned.count x.tasks.count x.tasks.each, x.rules.privates, x.rules.code) (
          of_tasks (known_functions p) p.shared p.tasks plans b.tasks planned.count y.tasks.count y.tasks.each,
          subst (λ vs. All (λ t. All (HasItsPlace vs) t.privates) b.tasks) (sym variables) y.rules.privates,
          subst (λ r. AreInOrder r.address (flat_map code_regions b.tasks) (end_of r)) (sym code) y.rules.code,
        )
