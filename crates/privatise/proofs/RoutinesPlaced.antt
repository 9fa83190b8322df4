-- The functions of a task, one behind another.
use Rattle.std.proofs.Common.{◌≡◌, ℕ, ◌+◌, ◌*◌, ◌%◌, ◌<◌, ◌≤◌, Bool, true, false, List, [], ◌∷◌, ◌++◌, length, drop, map}
use Rattle.std.proofs.Common.{get_or, refl, sym, ap, ◌∙◌, subst, arith, Some, None}
use Rattle.std.proofs.Common.{if◌then◌else◌, slice_index_or, drop-cons, add-one, append_assoc}
use Rattle.std.proofs.lemmas.List.{append-nil}
use Rattle.cost_bound.specs.Table.{capped}
use Rattle.cost_bound.specs.Summary.{Summary}
use Rattle.cost_bound.specs.Counts.{CheckedBlock, all_called_from, reaches_of, routine_words}
use Rattle.cost_bound.specs.Frames.{stack_of}
use Rattle.cost_bound.specs.Machine.{summary_of, known_of, IsSame, AreSame}
use Rattle.cost_bound.specs.declared.function_summaries.FunctionSummary.{FunctionSummary}
use Rattle.cost_bound.proofs.Interface.{all_same, first_same, known_length, reaches_same, rest_same, stack_same}
use Rattle.function_locals.specs.declared.locals.FunctionLocals.{FunctionLocals}
use Rattle.function_locals.specs.Locals.{is_light}
use Rattle.memory_map.specs.declared.place.RoutinePlace.{RoutinePlace}
use Rattle.memory_map.specs.Places.{AreInOrder}
use Rattle.memory_map.specs.address_space.Limits.{program_end}
use Rattle.privatise.specs.Routines.{words_above, frame_address, routine_room, routine_at, routines_from, task_routines}

-- ---- as they are placed, one after another

-- the functions that are left, the first of them marked or not
abbrev pub if_marked : (marked : Bool) → ℕ → (ℕ → Bool) → ℕ → ℕ → Summary → FunctionLocals → List Summary → List FunctionLocals → List RoutinePlace
if_marked marked stack marks k at s l ss ls =
    if marked then routine_at stack k at s l ∷ routines_from stack marks (k + 1) (at + 2 * routine_room s) ss ls
    else routines_from stack marks (k + 1) at ss ls

-- what functions are placed by: the stack's words, which of them are marked, where the code of the first begins, and what is known of each
pub record MarkedFunctions : Type 0 where
  pub stack : ℕ
  pub marks : ℕ → Bool
  pub address : ℕ
  pub summaries : List FunctionSummary
  pub locals : List FunctionLocals

abbrev pub marked_by : List Bool → (stack address : ℕ) (summaries : List FunctionSummary) (locals : List FunctionLocals) → MarkedFunctions
marked_by marks stack address summaries locals =
    record { stack = stack; marks = λ k. slice_index_or marks k false; address = address; summaries = summaries; locals = locals }

module _ (m : MarkedFunctions) where
  abbrev words_from : ℕ → ℕ
  words_from k = all_called_from m.marks routine_room k (known_of (drop k m.summaries))

  abbrev pub all_words : ℕ
  all_words = all_called_from m.marks routine_room 0 (known_of m.summaries)

  abbrev behind : ℕ → ℕ → List RoutinePlace
  behind k at = routines_from m.stack m.marks k at (known_of (drop k m.summaries)) (drop k m.locals)

  abbrev all_routines : List RoutinePlace
  all_routines = routines_from m.stack m.marks 0 m.address (known_of m.summaries) m.locals

  -- those of the first functions, and the address for the next
  pub record Placed (k at : ℕ) (routines : List RoutinePlace) : Type 0 where
    pub are : routines ++ behind k at ≡ all_routines
    pub room : at + 2 * words_from k ≡ m.address + 2 * all_words
    pub low : m.address ≤ at

  pub none_placed : Placed 0 m.address []
  none_placed = record { are = refl; room = refl; low = omega arith }

  -- those before a function, which is there
  pub record Turn : Type 0 where
    pub k : ℕ
    pub at : ℕ
    pub routines : List RoutinePlace
    pub placed : Placed k at routines
    pub within : k < length m.summaries

  pub all_placed : (k at : ℕ) (routines : List RoutinePlace) → drop k m.summaries ≡ [] → Placed k at routines → routines ≡ all_routines
  all_placed k at routines past h =
      sym (append-nil routines) ∙ ap (λ xs. routines ++ routines_from m.stack m.marks k at (known_of xs) (drop k m.locals)) (sym past) ∙ h.are

module _ (m : MarkedFunctions) (t : Turn m) (d : FunctionSummary) where
  abbrev function : FunctionSummary
  function = get_or m.summaries t.k d

  abbrev pub its_words : ℕ
  its_words = routine_room (summary_of function)

  functions_left : drop t.k m.summaries ≡ function ∷ drop (t.k + 1) m.summaries
  functions_left = drop-cons m.summaries t.k d t.within ∙ ap (λ n. function ∷ drop n m.summaries) (sym (add-one t.k))

  words_left : words_from m t.k ≡ (if m.marks t.k then its_words else 0) + words_from m (t.k + 1)
  words_left = ap (λ xs. all_called_from m.marks routine_room t.k (known_of xs)) functions_left

  words_marked : m.marks t.k ≡ true → words_from m t.k ≡ its_words + words_from m (t.k + 1)
  words_marked e = words_left ∙ ap (λ b. (if b then its_words else 0) + words_from m (t.k + 1)) e

  -- there is room for one that is marked
  pub marked_small : m.marks t.k ≡ true → all_words m ≤ 22000 → its_words ≤ 22000
  marked_small e small =
      let w = words_marked e in
      let r = t.placed.room in
      let low = t.placed.low in
      omega (arith, w, r, small, low)

  pub marked_fits : m.marks t.k ≡ true → m.address + 2 * all_words m ≤ program_end → t.at + 2 * its_words < 65536
  marked_fits e room = let w = words_marked e in let r = t.placed.room in omega (arith, w, r, room)

module _ (m : MarkedFunctions) (t : Turn m) (d : FunctionSummary) (e : FunctionLocals) (ll : t.k < length m.locals) where
  abbrev its_summary : Summary
  its_summary = summary_of (function m t d)

  abbrev its_locals : FunctionLocals
  its_locals = get_or m.locals t.k e

  abbrev its_place : RoutinePlace
  its_place = routine_at m.stack t.k t.at its_summary its_locals

  locals_left : drop t.k m.locals ≡ its_locals ∷ drop (t.k + 1) m.locals
  locals_left = drop-cons m.locals t.k e ll ∙ ap (λ n. its_locals ∷ drop n m.locals) (sym (add-one t.k))

  -- the functions that are left, by whether the first of them is marked
  abbrev by_mark : Bool → List RoutinePlace
  by_mark b = if_marked b m.stack m.marks t.k t.at its_summary its_locals (known_of (drop (t.k + 1) m.summaries)) (drop (t.k + 1) m.locals)

  left : behind m t.k t.at ≡ by_mark (m.marks t.k)
  left = ap (λ xs. routines_from m.stack m.marks t.k t.at (known_of xs) (drop t.k m.locals)) (functions_left m t d)
      ∙ ap (λ ys. routines_from m.stack m.marks t.k t.at (known_of (function m t d ∷ drop (t.k + 1) m.summaries)) ys) locals_left

  abbrev words_by_mark : Bool → ℕ
  words_by_mark b = (if b then its_words m t d else 0) + words_from m (t.k + 1)

  -- one that isn't marked
  passed_over : m.marks t.k ≡ false → Placed m (t.k + 1) t.at t.routines
  passed_over unmarked = record {
    are = ap (λ rs. t.routines ++ rs) (sym (left ∙ ap by_mark unmarked)) ∙ t.placed.are;
    room = (let w : words_from m t.k ≡ 0 + words_from m (t.k + 1) = words_left m t d ∙ ap words_by_mark unmarked in
        let r = t.placed.room in omega (arith, w, r));
    low = t.placed.low;
  }

  -- and it is placed
  one_placed : (more : List RoutinePlace) (later : ℕ) → m.marks t.k ≡ true → later ≡ t.at + 2 * its_words m t d → more ≡ t.routines ++ its_place ∷ []
      → Placed m (t.k + 1) later more
  one_placed more later marked at_end is = record {
    are = ap (λ rs. rs ++ behind m (t.k + 1) later) is
        ∙ append_assoc t.routines (its_place ∷ []) (behind m (t.k + 1) later)
        ∙ ap (λ n. t.routines ++ its_place ∷ behind m (t.k + 1) n) at_end
        ∙ ap (λ rs. t.routines ++ rs) (sym (left ∙ ap by_mark marked))
        ∙ t.placed.are;
    room = (let w = words_marked m t d marked in let r = t.placed.room in omega (arith, w, r, at_end));
    low = (let from = t.placed.low in omega (arith, from, at_end));
  }

  -- whichever it is
  pub next_placed : (b : Bool) → m.marks t.k ≡ b → (more : List RoutinePlace) (later : ℕ) → later ≡ (if b then t.at + 2 * its_words m t d else t.at)
      → more ≡ (if b then t.routines ++ its_place ∷ [] else t.routines) → Placed m (t.k + 1) later more
  next_placed true marked more later at_end is = one_placed more later marked at_end is
  next_placed false unmarked more later at_end is =
      subst (λ n. Placed m (t.k + 1) n more) (sym at_end) (subst (λ rs. Placed m (t.k + 1) t.at rs) (sym is) (passed_over unmarked))

-- by the same marks
marks_same : (stack : ℕ) (marks more : ℕ → Bool) (k at : ℕ) (ss : List Summary) (ls : List FunctionLocals) → k + length ss ≤ 256
    → ((j : ℕ) → j < 256 → marks j ≡ more j) → routines_from stack marks k at ss ls ≡ routines_from stack more k at ss ls
marks_same stack marks more k at [] ls few are = refl
marks_same stack marks more k at (s ∷ ss) [] few are = refl
marks_same stack marks more k at (s ∷ ss) (l ∷ ls) few are =
    ap (λ b. if b then routine_at stack k at s l ∷ routines_from stack marks (k + 1) (at + 2 * routine_room s) ss ls
    else routines_from stack marks (k + 1) at ss ls) (are k (omega arith))
    ∙ ap (λ rs. if more k then routine_at stack k at s l ∷ rs else routines_from stack marks (k + 1) at ss ls)
    (marks_same stack marks more (k + 1) (at + 2 * routine_room s) ss ls (omega arith) are)
    ∙ ap (λ rs. if more k then routine_at stack k at s l ∷ routines_from stack more (k + 1) (at + 2 * routine_room s) ss ls else rs)
    (marks_same stack marks more (k + 1) at ss ls (omega arith) are)

module _ (kept : List FunctionSummary) (ls : List FunctionLocals) (body : CheckedBlock) (marks : List Bool) (few : length kept ≤ 64)
    (are : (k : ℕ) → k < 256 → slice_index_or marks k false ≡ reaches_of (known_of kept) k body) where
  room : 0 + length (known_of kept) ≤ 256
  room = let n = known_length kept in omega (arith, n, few)

  -- the words of the marked functions are those of the functions that are reached
  pub marked_words : all_called_from (λ k. slice_index_or marks k false) routine_room 0 (known_of kept) ≡ routine_words (known_of kept) body
  marked_words = all_same (λ k. slice_index_or marks k false) (λ k. reaches_of (known_of kept) k body) routine_room 0 (known_of kept) room are

  pub routines_are : (stack at : ℕ) (routines : List RoutinePlace) → stack ≡ capped (stack_of (known_of kept) body)
      → stack_of (known_of kept) body ≤ 1000
      → routines ≡ routines_from stack (λ k. slice_index_or marks k false) 0 at (known_of kept) ls
      → routines ≡ task_routines (record { summaries = known_of kept; locals = ls }) body at
  routines_are stack at routines is low e =
      let same : stack ≡ stack_of (known_of kept) body = omega (arith, is, low) in
      e ∙ marks_same stack (λ k. slice_index_or marks k false) (λ k. reaches_of (known_of kept) k body) 0 at (known_of kept) ls room are
      ∙ ap (λ n. routines_from n (λ k. reaches_of (known_of kept) k body) 0 at (known_of kept) ls) same

-- ---- in order

routines_in_order : (stack : ℕ) (marks : ℕ → Bool) (k at : ℕ) (ss : List Summary) (ls : List FunctionLocals) → length ls ≡ length ss → at % 2 ≡ 0
    → AreInOrder at (map (λ r. r.code) (routines_from stack marks k at ss ls)) (at + 2 * all_called_from marks routine_room k ss)
routines_in_order stack marks k at [] ls e even = omega arith
routines_in_order stack marks k at (s ∷ ss) [] e even = absurd (omega (arith, e))
routines_in_order stack marks k at (s ∷ ss) (l ∷ ls) e even =
    by (λ later is. routines_in_order stack marks (k + 1) later ss ls (omega (arith, e)) is) (marks k)
  where
    by : ((later : ℕ) → later % 2 ≡ 0 → AreInOrder later (map (λ r. r.code) (routines_from stack marks (k + 1) later ss ls))
        (later + 2 * all_called_from marks routine_room (k + 1) ss)) → (b : Bool)
        → AreInOrder at (map (λ r. r.code) (if_marked b stack marks k at s l ss ls))
        (at + 2 * ((if b then routine_room s else 0) + all_called_from marks routine_room (k + 1) ss))
    by behind true =
        let later = at + 2 * routine_room s in
        let rest = behind later (omega (arith, even)) in
        let end : later + 2 * all_called_from marks routine_room (k + 1) ss ≡ at + 2 * (routine_room s + all_called_from marks routine_room (k + 1) ss) =
        omega arith in (
          record { from = omega arith; even = even },
          subst (λ n. AreInOrder later (map (λ r. r.code) (routines_from stack marks (k + 1) later ss ls)) n) end rest,
        )
    by behind false =
        let behind_none : all_called_from marks routine_room (k + 1) ss ≡ 0 + all_called_from marks routine_room (k + 1) ss = omega arith in
        subst (λ n. AreInOrder at (map (λ r. r.code) (routines_from stack marks (k + 1) at ss ls)) (at + 2 * n)) behind_none (behind at even)

-- ---- as 64 bits keep the functions

-- marks of functions, and others that are the same
record SameMarks : Type 0 where
  marks : ℕ → Bool
  others : ℕ → Bool
  same : (j : ℕ) → j < 256 → marks j ≡ others j

module _ (stack : ℕ) (low : stack ≤ 1000) (m : SameMarks) where
  room_same : (s t : Summary) → IsSame s t → routine_room s ≤ 22000 → routine_room s ≡ routine_room t
  room_same s t h small = let e = h.words in omega (arith, e, small)

  above_same : (s t : Summary) → IsSame s t → words_above stack s.depth ≡ words_above stack t.depth
  above_same s t h = let e = h.depth in omega (arith, e, low)

  place_same : (k at : ℕ) (s t : Summary) (l : FunctionLocals) → IsSame s t → routine_room s ≤ 22000 → routine_at stack k at s l ≡ routine_at stack k at t l
  place_same k at s t l h small = λ j. record {
    function = k;
    code = record { address = at; words = room_same s t h small j };
    frame = ap (λ n. if is_light l then None else Some (frame_address (8 + n) l.own)) (above_same s t h) j;
    first = ap (λ n. if is_light l then l.base else 8 + n) (above_same s t h) j;
  }

  from_same : (k at : ℕ) (ss ts : List Summary) (ls : List FunctionLocals) → k + length ss ≤ 256
      → all_called_from m.marks routine_room k ss ≤ 22000 → AreSame ss ts → routines_from stack m.marks k at ss ls ≡ routines_from stack m.others k at ts ls
  from_same k at [] [] ls few small h = refl
  from_same k at [] (t ∷ ts) ls few small h = absurd (let c = h.count in omega (arith, c))
  from_same k at (s ∷ ss) [] ls few small h = absurd (let c = h.count in omega (arith, c))
  from_same k at (s ∷ ss) (t ∷ ts) [] few small h = refl
  from_same k at (s ∷ ss) (t ∷ ts) (l ∷ ls) few small h =
      by (λ later low_words. from_same (k + 1) later ss ts ls (omega (arith, few)) low_words (rest_same s t ss ts h)) (m.marks k) small
      ∙ ap (λ b. if_marked b stack m.others k at t l ts ls) (m.same k (omega (arith, few)))
    where
      by : ((later : ℕ) → all_called_from m.marks routine_room (k + 1) ss ≤ 22000
          → routines_from stack m.marks (k + 1) later ss ls ≡ routines_from stack m.others (k + 1) later ts ls) → (b : Bool)
          → (if b then routine_room s else 0) + all_called_from m.marks routine_room (k + 1) ss ≤ 22000
          → if_marked b stack m.marks k at s l ss ls ≡ if_marked b stack m.others k at t l ts ls
      by behind true low_words =
          let here = first_same s t ss ts h in
          let words = room_same s t here (omega (arith, low_words)) in
          let rest = behind (at + 2 * routine_room s) (omega (arith, low_words)) in
          ap (λ r. r ∷ routines_from stack m.marks (k + 1) (at + 2 * routine_room s) ss ls) (place_same k at s t l here (omega (arith, low_words)))
          ∙ ap (λ rs. routine_at stack k at t l ∷ rs) rest
          ∙ ap (λ n. routine_at stack k at t l ∷ routines_from stack m.others (k + 1) (at + 2 * n) ts ls) words
      by behind false low_words = behind at (omega (arith, low_words))

pub task_same : (as' bs : List Summary) (ls : List FunctionLocals) (b : CheckedBlock) (at : ℕ) → length as' ≤ 64 → AreSame as' bs
    → stack_of as' b ≤ 1000 → routine_words as' b ≤ 22000
    → task_routines (record { summaries = as'; locals = ls }) b at ≡ task_routines (record { summaries = bs; locals = ls }) b at
task_same as' bs ls b at few same low small =
    from_same (stack_of as' b) low
    (record { marks = λ k. reaches_of as' k b; others = λ k. reaches_of bs k b; same = λ j l. reaches_same as' bs few same j l b })
    0 at as' bs ls (omega (arith, few)) small same
    ∙ ap (λ n. routines_from n (λ k. reaches_of bs k b) 0 at bs ls) stacks
  where
    stacks : stack_of as' b ≡ stack_of bs b
    stacks = let e = stack_same as' bs few same b in omega (arith, e, low)

-- the code of a task's functions, in order behind its own
pub task_in_order : (known : List Summary) (ls : List FunctionLocals) (b : CheckedBlock) (at : ℕ) → length ls ≡ length known → at % 2 ≡ 0
    → AreInOrder at (map (λ r. r.code) (task_routines (record { summaries = known; locals = ls }) b at)) (at + 2 * routine_words known b)
task_in_order known ls b at e even = routines_in_order (stack_of known b) (λ k. reaches_of known k b) 0 at known ls e even
