-- The words of the code, written part by part.
use Rattle.link_image.proofs.Names.{◌≡◌, ◌∙◌, ℕ, zero, suc, ◌+◌, ◌-◌, ◌*◌, ◌/◌, ◌%◌, ◌<◌, ◌≤◌, List, [], ◌∷◌, ◌++◌, map, length, drop, refl, sym, ap, ap₂}
use Rattle.link_image.proofs.Names.{subst, arith, append_assoc, length-append, get_or, All, at_drop_more, instructions, words_of, program_of}
use Rattle.link_image.proofs.Names.{All-head, All-tail, reset_vector, repeated, MemoryMap, TaskPlace, end_of, apart_of, even_of}
use Rattle.link_image.proofs.Names.{filler, CodePart, part_end, chained, PartsInOrder, boot_part, commit_part, task_parts, linked}
use Rattle.link_image.proofs.Names.{Bool}
use Rattle.msp_isa.specs.declared.instructions.Instr.{Instr}
use Rattle.msp_isa.specs.Encoding.{encoding}
use Rattle.code_forms.specs.Forms.{Form}
use Rattle.code_forms.proofs.Interface.{instructions-append}
use Rattle.runtime_code.proofs.Interface.{code_bytes}
use Rattle.array_versions.specs.Program.{Program}
use Rattle.array_versions.specs.TaskPrograms.{TaskPrograms}
use Rattle.array_versions.specs.View.{programs_of}
use Rattle.array_versions.specs.declared.program.WordProgram.{WordProgram}
use Rattle.array_versions.specs.declared.tasks.TaskPrograms.{TaskPrograms as Programs}
use Rattle.memory_map.specs.declared.place.RoutinePlace.{RoutinePlace}
use Rattle.word_code.specs.Code.{code_of}
use Rattle.linked_code.specs.Linked.{task_part, routine_part, routine_parts, parts_of_task}
use Rattle.link_image.specs.Needs.{HasPlaces, TaskIsEmitted, TasksAreEmitted}

-- the words of forms
abbrev pub words_in : List Form → List ℕ
words_in ms = words_of (instructions ms)

words_joined : (a b : List Instr) → words_of (a ++ b) ≡ words_of a ++ words_of b
words_joined [] b = refl
words_joined (i ∷ a) b = ap (λ l. encoding i ++ l) (words_joined a b) ∙ sym (append_assoc (encoding i) (words_of a) (words_of b))

pub joined : (a b : List Form) → words_in (a ++ b) ≡ words_in a ++ words_in b
joined a b = ap words_of (instructions-append a b) ∙ words_joined (instructions a) (instructions b)

-- one more filler
pub filler_more : (n i : ℕ) → i < n → words_in (repeated (n - i) filler) ≡ 0x3FFF ∷ words_in (repeated (n - (i + 1)) filler)
filler_more n i l = let e : n - i ≡ suc (n - (i + 1)) = omega (arith, l) in ap (λ k. words_in (repeated k filler)) e

filler_length : (k : ℕ) → length (words_in (repeated k filler)) ≡ k
filler_length zero = refl
filler_length (suc k) = let r = filler_length k in omega (arith, r)

-- a part behind others
pub part_words : (start : ℕ) (old new all : List ℕ) (part : CodePart) (parts : List CodePart) → start % 2 ≡ 0 → part.address % 2 ≡ 0
    → start + 2 * length old ≤ part.address
    → new ≡ old ++ (words_in (repeated ((part.address - (start + 2 * length old)) / 2) filler) ++ words_in part.forms)
    → old ++ words_in (chained (start + 2 * length old) (part ∷ parts)) ≡ all
    → (start + 2 * length new ≡ part_end part) × (new ++ words_in (chained (start + 2 * length new) parts) ≡ all)
part_words start old new all part parts even_start even from is rest =
    let k = (part.address - (start + 2 * length old)) / 2 in
    let f = repeated k filler in
    let more = chained (part_end part) parts in
    let count = ap length is ∙ length-append old (words_in f ++ words_in part.forms) in
    let inner = length-append (words_in f) (words_in part.forms) in
    let filled = filler_length k in
    let bytes = code_bytes part.forms in
    let end : start + 2 * length new ≡ part_end part = omega (arith, count, inner, filled, bytes, even_start, even, from) in (
      end,
      ap₂ (λ n e. n ++ words_in (chained e parts)) is end
          ∙ append_assoc old (words_in f ++ words_in part.forms) (words_in more)
          ∙ ap (λ l. old ++ l) (append_assoc (words_in f) (words_in part.forms) (words_in more) ∙ ap (λ l. words_in f ++ l) (sym (joined part.forms more))
          ∙ sym (joined f (part.forms ++ more)))
          ∙ rest,
    )

-- ---- functions

pub routines_more : (rs : List RoutinePlace) (ps : List WordProgram) (k : ℕ) (r : RoutinePlace) (p : WordProgram) → k < length rs → k < length ps
    → r ≡ get_or rs k r → p ≡ get_or ps k p
    → routine_parts (drop k rs) (map program_of (drop k ps))
    ≡ routine_part r (program_of p) ∷ routine_parts (drop (k + 1) rs) (map program_of (drop (k + 1) ps))
routines_more rs ps k r p l m a b =
    at_drop_more (λ xs. routine_parts xs (map program_of (drop k ps))) rs k r l
    ∙ ap (λ x. routine_parts (x ∷ drop (k + 1) rs) (map program_of (drop k ps))) (sym a)
    ∙ at_drop_more (λ xs. routine_parts (r ∷ drop (k + 1) rs) (map program_of xs)) ps k p m
    ∙ ap (λ x. routine_parts (r ∷ drop (k + 1) rs) (map program_of (x ∷ drop (k + 1) ps))) (sym b)

pub weaker_order : (from end more : ℕ) (parts : List CodePart) → end ≤ more → PartsInOrder from parts end → PartsInOrder from parts more
weaker_order from end more [] l o = omega (arith, l, o)
weaker_order from end more (part ∷ parts) l o = (o.0, weaker_order (part_end part) end more parts l o.1)

-- parts in order end behind where they begin
pub order_end : (from end : ℕ) (parts : List CodePart) → PartsInOrder from parts end → from ≤ end
order_end from end [] o = o
order_end from end (part ∷ parts) o =
    let start = o.0.from in let rest = order_end (part_end part) end parts o.1 in omega (arith, start, rest)

-- the next function, and those behind it
pub next_routine : (rs : List RoutinePlace) (ps : List WordProgram) (at k : ℕ) (r : RoutinePlace) (p : WordProgram) → k < length rs
    → length rs ≡ length ps → r ≡ get_or rs k r → p ≡ get_or ps k p
    → PartsInOrder at (routine_parts (drop k rs) (map program_of (drop k ps))) reset_vector
    → PartsInOrder at (routine_part r (program_of p) ∷ routine_parts (drop (k + 1) rs) (map program_of (drop (k + 1) ps))) reset_vector
next_routine rs ps at k r p l n a b o =
    subst (λ parts. PartsInOrder at parts reset_vector) (routines_more rs ps k r p l (omega (arith, l, n)) a b) o

pub next_each : (P : Program → Type 0) (ps : List WordProgram) (k : ℕ) (p : WordProgram) → k < length ps → p ≡ get_or ps k p
    → All P (map program_of (drop k ps)) → P (program_of p) × All P (map program_of (drop (k + 1) ps))
next_each P ps k p l a h =
    let there = subst (All P) (at_drop_more (λ xs. map program_of xs) ps k p l ∙ ap (λ x. map program_of (x ∷ drop (k + 1) ps)) (sym a)) h in
    (All-head P (program_of p) (map program_of (drop (k + 1) ps)) there, All-tail P (program_of p) (map program_of (drop (k + 1) ps)) there)

-- ---- tasks

-- behind a task's own code that of its functions is next
pub after_own : (start : ℕ) (old new : List ℕ) (code : List Form) (t : TaskPlace) (p : TaskPrograms) → start % 2 ≡ 0
    → PartsInOrder (start + 2 * length old) (parts_of_task t p) reset_vector → code ≡ code_of p.own
    → new ≡ old ++ (words_in (repeated ((t.code.address - (start + 2 * length old)) / 2) filler) ++ words_in code)
    → PartsInOrder (start + 2 * length new) (routine_parts t.routines p.routines) reset_vector
    × (new ++ words_in (chained (start + 2 * length new) (routine_parts t.routines p.routines))
    ≡ old ++ words_in (chained (start + 2 * length old) (parts_of_task t p)))
after_own start old new code t p even order its is =
    let functions = routine_parts t.routines p.routines in
    let filling = words_in (repeated ((t.code.address - (start + 2 * length old)) / 2) filler) in
    let made = part_words start old new (old ++ words_in (chained (start + 2 * length old) (parts_of_task t p))) (task_part t p.own) functions
    even order.0.even order.0.from (is ∙ ap (λ ms. old ++ (filling ++ words_in ms)) its) refl in
    (subst (λ at. PartsInOrder at functions reset_vector) (sym made.0) order.1, made.1)

-- where parts end that begin at an address
abbrev pub parts_end : ℕ → List CodePart → ℕ
parts_end at [] = at
parts_end at (part ∷ parts) = parts_end (part_end part) parts

pub chained_append : (at : ℕ) (parts others : List CodePart) → chained at (parts ++ others) ≡ chained at parts ++ chained (parts_end at parts) others
chained_append at [] others = refl
chained_append at (part ∷ parts) others =
    let behind = chained (parts_end (part_end part) parts) others in
    ap (λ ms. repeated ((part.address - at) / 2) filler ++ (part.forms ++ ms)) (chained_append (part_end part) parts others)
    ∙ ap (λ ms. repeated ((part.address - at) / 2) filler ++ ms) (sym (append_assoc part.forms (chained (part_end part) parts) behind))
    ∙ sym (append_assoc (repeated ((part.address - at) / 2) filler) (part.forms ++ chained (part_end part) parts) behind)

-- parts in order, in front of others
pub order_split : (at end : ℕ) (parts others : List CodePart) → PartsInOrder at (parts ++ others) end
    → PartsInOrder at parts (parts_end at parts) × PartsInOrder (parts_end at parts) others end
order_split at end [] others o = (omega arith, o)
order_split at end (part ∷ parts) others o = let rest = order_split (part_end part) end parts others o.1 in ((o.0, rest.0), rest.1)

-- their words come up to where they end
chained_bytes : (at end : ℕ) (parts : List CodePart) → at % 2 ≡ 0 → PartsInOrder at parts end
    → at + 2 * length (words_in (chained at parts)) ≡ parts_end at parts
chained_bytes at end [] even o = omega arith
chained_bytes at end (part ∷ parts) even o =
    let filling = repeated ((part.address - at) / 2) filler in
    let more = chained (part_end part) parts in
    let all = ap length (joined filling (part.forms ++ more) ∙ ap (λ ws. words_in filling ++ ws) (joined part.forms more)) in
    let front = length-append (words_in filling) (words_in part.forms ++ words_in more) in
    let back = length-append (words_in part.forms) (words_in more) in
    let filled = filler_length ((part.address - at) / 2) in
    let bytes = code_bytes part.forms in
    let start = o.0.from in
    let even_start = o.0.even in
    let later : part_end part % 2 ≡ 0 = omega (arith, bytes, even_start) in
    let rest = chained_bytes (part_end part) end parts later o.1 in
    omega (arith, all, front, back, filled, bytes, start, even, even_start, rest)

-- parts written behind others
pub parts_words : (start : ℕ) (old new all : List ℕ) (parts others : List CodePart) (end : ℕ) → start % 2 ≡ 0
    → PartsInOrder (start + 2 * length old) (parts ++ others) end → new ≡ old ++ words_in (chained (start + 2 * length old) parts)
    → old ++ words_in (chained (start + 2 * length old) (parts ++ others)) ≡ all
    → (start + 2 * length new ≡ parts_end (start + 2 * length old) parts) × (new ++ words_in (chained (start + 2 * length new) others) ≡ all)
parts_words start old new all parts others end even order is rest =
    let at = start + 2 * length old in
    let count = ap length is ∙ length-append old (words_in (chained at parts)) in
    let even_at : at % 2 ≡ 0 = omega (arith, even) in
    let bytes = chained_bytes at (parts_end at parts) parts even_at (order_split at end parts others order).0 in
    let ends : start + 2 * length new ≡ parts_end at parts = omega (arith, count, bytes) in (
      ends,
      ap₂ (λ n e. n ++ words_in (chained e others)) is ends
          ∙ append_assoc old (words_in (chained at parts)) (words_in (chained (parts_end at parts) others))
          ∙ ap (λ ws. old ++ ws) (sym (joined (chained at parts) (chained (parts_end at parts) others))
          ∙ ap words_in (sym (chained_append at parts others)))
          ∙ rest,
    )

pub parts_more : (ts : List TaskPlace) (ps : List Programs) (k : ℕ) (t : TaskPlace) (p : Programs) → k < length ts → k < length ps
    → t ≡ get_or ts k t → p ≡ get_or ps k p
    → task_parts (drop k ts) (map programs_of (drop k ps))
    ≡ parts_of_task t (programs_of p) ++ task_parts (drop (k + 1) ts) (map programs_of (drop (k + 1) ps))
parts_more ts ps k t p l m a b =
    at_drop_more (λ xs. task_parts xs (map programs_of (drop k ps))) ts k t l
    ∙ ap (λ x. task_parts (x ∷ drop (k + 1) ts) (map programs_of (drop k ps))) (sym a)
    ∙ at_drop_more (λ xs. task_parts (t ∷ drop (k + 1) ts) (map programs_of xs)) ps k p m
    ∙ ap (λ x. task_parts (t ∷ drop (k + 1) ts) (map programs_of (x ∷ drop (k + 1) ps))) (sym b)

-- the next task, and those behind it
pub next_order : (ts : List TaskPlace) (ps : List Programs) (at k : ℕ) (t : TaskPlace) (p : Programs) → k < length ts
    → length ts ≡ length ps → t ≡ get_or ts k t → p ≡ get_or ps k p
    → PartsInOrder at (task_parts (drop k ts) (map programs_of (drop k ps))) reset_vector
    → PartsInOrder at (parts_of_task t (programs_of p) ++ task_parts (drop (k + 1) ts) (map programs_of (drop (k + 1) ps))) reset_vector
next_order ts ps at k t p l n a b o =
    subst (λ parts. PartsInOrder at parts reset_vector) (parts_more ts ps k t p l (omega (arith, l, n)) a b) o

pub next_emitted : (ts : List TaskPlace) (ps : List Programs) (k : ℕ) (t : TaskPlace) (p : Programs) → k < length ts → k < length ps
    → t ≡ get_or ts k t → p ≡ get_or ps k p → TasksAreEmitted (drop k ts) (map programs_of (drop k ps))
    → TaskIsEmitted t (programs_of p) × TasksAreEmitted (drop (k + 1) ts) (map programs_of (drop (k + 1) ps))
next_emitted ts ps k t p l m a b h =
    let tasks = at_drop_more (λ (xs : List TaskPlace). xs) ts k t l ∙ ap (λ (x : TaskPlace). x ∷ drop (k + 1) ts) (sym a) in
    let programs = at_drop_more (λ (xs : List Programs). xs) ps k p m ∙ ap (λ (x : Programs). x ∷ drop (k + 1) ps) (sym b) in
    subst (λ xs. TasksAreEmitted (t ∷ drop (k + 1) ts) (map programs_of xs)) programs
    (subst (λ xs. TasksAreEmitted xs (map programs_of (drop k ps))) tasks h)

-- ---- the whole code

module _ (l : MemoryMap) (programs : List TaskPrograms) (fits : HasPlaces l programs) where
  -- what is written when so many words stand, with the other parts behind them
  pub record WrittenTo (start : ℕ) (words : List ℕ) (end : ℕ) (parts : List CodePart) : Type 0 where
    pub there : start + 2 * length words ≡ end
    pub rest : words ++ words_in (chained (start + 2 * length words) parts) ≡ words_of (linked l programs)

  abbrev pub others : List CodePart
  others = commit_part l ∷ task_parts l.tasks programs

  -- a part written behind others
  abbrev written : ℕ → ℕ → List ℕ → List Form → List ℕ
  written start at words code = words ++ (words_in (repeated ((at - (start + 2 * length words)) / 2) filler) ++ words_in code)

  pub after_boot : (start : ℕ) (old new : List ℕ) (code : List Form) → start ≡ l.boot.address → old ≡ [] → code ≡ (boot_part l).forms
      → new ≡ written start start old code
      → WrittenTo start new (part_end (boot_part l)) others
  after_boot start old new code s o k is =
      let same : new ≡ written l.boot.address l.boot.address [] (boot_part l).forms =
      is ∙ ap (λ x. written x x old code) s ∙ ap (λ x. written l.boot.address l.boot.address x code) o ∙ ap (written l.boot.address l.boot.address []) k in
      let begin : l.boot.address + 2 * length {A = ℕ} [] ≡ l.boot.address = omega arith in
      let r = part_words l.boot.address [] new (words_of (linked l programs)) (boot_part l) others (even_of l fits.rules).boot (even_of l fits.rules).boot
      (omega arith) same
      (ap (λ a. words_in (chained a (boot_part l ∷ others))) begin) in
      subst (λ x. WrittenTo x new (part_end (boot_part l)) others) (sym s) (record { there = r.0; rest = r.1 })

  pub commit_behind : (start : ℕ) (words : List ℕ) → WrittenTo start words (part_end (boot_part l)) others → start + 2 * length words ≤ l.commit.address
  commit_behind start words h = let there = h.there in let from = fits.order.1.0.from in omega (arith, there, from)

  pub after_commit : (start at : ℕ) (old new : List ℕ) (code : List Form) → start ≡ l.boot.address → at ≡ l.commit.address
      → code ≡ (commit_part l).forms → WrittenTo start old (part_end (boot_part l)) others → new ≡ written start at old code
      → WrittenTo start new (part_end (commit_part l)) (task_parts l.tasks programs)
  after_commit start at old new code s a k before is =
      let same : new ≡ written start l.commit.address old (commit_part l).forms =
      is ∙ ap (λ x. written start x old code) a ∙ ap (written start l.commit.address old) k in
      let even : start % 2 ≡ 0 = ap (λ x. x % 2) s ∙ (even_of l fits.rules).boot in
      let r = part_words start old new (words_of (linked l programs)) (commit_part l) (task_parts l.tasks programs) even
      (even_of l fits.rules).commit
      (commit_behind start old before) same before.rest in
      record { there = r.0; rest = r.1 }

  pub tasks_behind : (start : ℕ) (words : List ℕ) → WrittenTo start words (part_end (commit_part l)) (task_parts l.tasks programs)
      → PartsInOrder (start + 2 * length words) (task_parts l.tasks programs) reset_vector
  tasks_behind start words h =
      let high = (apart_of l fits.rules).high in
      subst (λ x. PartsInOrder x (task_parts l.tasks programs) reset_vector) (sym h.there)
      (weaker_order (part_end (commit_part l)) (end_of l.code) reset_vector (task_parts l.tasks programs) (omega (arith, high))
      fits.order.1.1)
