-- The functions of a task: each may be called where it is, its locals and its stack below those of its caller; its body is sound, and each way through
-- it ends by giving a word.
use Rattle.std.proofs.Common.{◌≡◌, ℕ, zero, suc, ◌+◌, ◌-◌, ◌*◌, ◌%◌, ◌<◌, ◌≤◌, ◌||◌, Bool, true, false, not, nat_eq, nat_lt, if◌then◌else◌}
use Rattle.std.proofs.Common.{List, [], ◌∷◌, length, take, Option, Some, None, IsSomeAnd, slice_get, slice_index_or, refl, sym, ap, subst, ◌∙◌}
use Rattle.std.proofs.Common.{inl, inr, ⊎_elim, arith, ltb-true}
use Rattle.std.proofs.lemmas.Bool.{cases_lt, or_right}
use Rattle.std.proofs.lemmas.Bool.Decides.{nat_tests}
use Rattle.std.proofs.lemmas.List.{take-take, length-take-le}
use Rattle.std.proofs.lemmas.Option.{same_Some, slice_get_within}
use Rattle.alp_words.specs.Words.{IsWord}
use Rattle.task_ast.specs.Calls.{BlockCallsBelow, FunctionsCallBelow}
use Rattle.task_ast.specs.Paths.{CheckedProgram, CheckedFunction, CheckedBlock}
use Rattle.task_ast.proofs.Interface.{answer_of, answers_length}
use Rattle.cost_bound.specs.Counts.{block_calls, some_called_from, reaches_of}
use Rattle.cost_bound.specs.Frames.{block_locals, frame_of, stack_of}
use Rattle.cost_bound.specs.Summaries.{function_summary, function_summaries, summaries}
use Rattle.function_locals.specs.declared.locals.FunctionLocals.{FunctionLocals}
use Rattle.function_locals.specs.Locals.{is_light, register_end, base_of, function_locals, all_locals}
use Rattle.function_locals.proofs.Interface.{locals_stand, reaches_go_on}
use Rattle.memory_map.specs.declared.place.RoutinePlace.{RoutinePlace}
use Rattle.memory_map.specs.Spots.{Places, routine_of, routine_places}
use Rattle.privatise.specs.Routines.{Known, IsFunction, frame_words, words_above, first_local, frame_address, frame_of_locals}
use Rattle.function_locals.specs.Laws.{LocalsStand}
use Rattle.privatise.specs.Laws.{RoutinesStand, FramesStand}
use Rattle.privatise.proofs.Interface.{frames_stand}
use Rattle.array_versions.specs.Program.{Program, nothing, call}
use Rattle.array_versions.specs.Form.{start, assigning, entry_place, EachWay, IsOwn, CallBounds, frame_begin, FrameFits, IsCalled, IsFormed}
use Rattle.array_versions.specs.Form.{FrameOfWords, LocalsBelow, local_address}
use Rattle.array_versions.proofs.Interface.{each_local_as}
use Rattle.lower.specs.Lowered.{local_number, call_at, call_step, lowered_block, body_at, routine_body, routine_bodies}
use Rattle.checked_trees.specs.WellFormed.{HasParameters, IsWellFormed, IsWellFormedFunction}
use Rattle.checked_trees.proofs.Interface.{not_given, safe_paths}
use Rattle.whole_programs.proofs.Placed.{PlacesOfWords, routine_words}
use Rattle.whole_programs.proofs.Rooms.{room_of, has_room}
use Rattle.whole_programs.proofs.Fit.{OfCalls, each_call, Setting, IsFitBlock}
use Rattle.whole_programs.proofs.Ways.{at, Covers, body_way, task_way}
use Rattle.whole_programs.proofs.Steps.{Code, Sound, StepSound, block_sound}

-- ---- numbers

-- the local of a number has a place of its own: a register, or where it isn't light a word of RAM below this address
own_local : (light : Bool) (base own words low n : ℕ) → n < own → words + own ≤ 984 → (light ≡ false → 0x2400 - 2 * words ≤ low)
    → IsOwn base (if light then base + own else base) (frame_begin (if light then None else Some (frame_address (8 + words) own)) low) low
    ((if light then base else 8 + words) + n)
own_local true base own words low n l few h = inl (omega arith, omega (arith, l))
own_local false base own words low n l few h =
    let high = h refl in inr (omega arith, omega (arith, l, few), omega (arith, l, few, high))

-- its frame is within its bounds
frame_fits : (light : Bool) (bounds : CallBounds) (words frame own room : ℕ) → own + room + 4 ≤ frame → words + frame ≤ 984
    → 0x2400 - 2 * words ≤ bounds.low
    → FrameFits bounds (if light then None else Some (frame_address (8 + words) own)) (0x2400 - 2 * (words + frame)) room
frame_fits true bounds words frame own room fits few low = omega (arith, fits, few, low)
frame_fits false bounds words frame own room fits few low =
    (omega (arith, few), omega (arith, fits, few, low), omega (arith, fits, few))

-- a local of its own that stands in RAM isn't the last word there
begin_low : (light : Bool) (words own low n : ℕ) → words + own ≤ 984
    → frame_begin (if light then None else Some (frame_address (8 + words) own)) low ≤ local_address n → local_address n < low → n < 1016
begin_low true words own low n few from upto = absurd (omega (arith, from, upto))
begin_low false words own low n few from upto = omega (arith, few, from)

first_low : (light : Bool) (base words : ℕ) → base ≤ 8 → words ≤ 984 → (if light then base else 8 + words) ≤ 992
first_low true base words l few = omega (arith, l)
first_low false base words l few = omega (arith, few)

frame_is_word : (light : Bool) (first own : ℕ) → FrameOfWords (if light then None else Some (frame_address first own))
frame_is_word true first own = tt
frame_is_word false first own = omega arith

end_behind : (light : Bool) (base own : ℕ) → base ≤ (if light then base + own else base)
end_behind true base own = omega arith
end_behind false base own = omega arith

small : (n : ℕ) → n < 65536 → n % 65536 ≡ n
small n l = omega arith

-- ---- lists

get_is : {A : Type 0} (xs : List A) (k : ℕ) (d x : A) → slice_get xs k ≡ Some x → slice_index_or xs k d ≡ x
get_is [] k d x h = absurd (let none : None ≡ Some x = h in cc)
get_is (y ∷ xs) zero d x h = same_Some y x h
get_is (y ∷ xs) (suc k) d x h = get_is xs k d x h

get_taken : {A : Type 0} (xs : List A) (j k : ℕ) → j < k → slice_get (take k xs) j ≡ slice_get xs j
get_taken xs j zero l = absurd (let none : ⊥ = omega arith in none)
get_taken [] j (suc k) l = refl
get_taken (x ∷ xs) zero (suc k) l = refl
get_taken (x ∷ xs) (suc j) (suc k) l = get_taken xs j k (omega arith)

-- ---- parameters

-- the locals that are assigned where a body begins
abbrev entered : (first count : ℕ) → ℕ → Bool
entered first zero = λ m. false
entered first (suc n) = λ m. nat_eq m (first + n) || entered first n m

entry_is : (first count : ℕ) → entry_place first count ≡ at 0 (entered first count)
entry_is first zero = refl
entry_is first (suc n) = ap (assigning (first + n)) (entry_is first n)

-- it is the last of them, or one in front of it
entered_by : (first n x : ℕ) → x < suc n → (x < n → entered first n (first + x) ≡ true) → entered first (suc n) (first + x) ≡ true
entered_by first n x l in_front = ⊎_elim before last (cases_lt x n)
  where
    before : x < n → (nat_eq (first + x) (first + n) || entered first n (first + x)) ≡ true
    before low = or_right (nat_eq (first + x) (first + n)) (entered first n (first + x)) (in_front low)

    last : n ≤ x → (nat_eq (first + x) (first + n) || entered first n (first + x)) ≡ true
    last high =
        let is : first + x ≡ first + n = omega (arith, l, high) in
        let same : nat_eq (first + x) (first + n) ≡ true = grind (arith, nat_tests) in
        ap (λ b. b || entered first n (first + x)) same

entered_at : (first count x : ℕ) → x < count → entered first count (first + x) ≡ true
entered_at first zero x l = absurd (let none : ⊥ = omega arith in none)
entered_at first (suc n) x l = entered_by first n x l (λ low. entered_at first n x low)

given_below : (given x : ℕ) → not_given given x ≡ false → x < given
given_below given x h = by (nat_lt x given) refl h
  where
    by : (b : Bool) → nat_lt x given ≡ b → not b ≡ false → x < given
    by true e h = ltb-true x given e
    by false e h = absurd (let no : true ≡ false = h in cc)

-- ---- a task

-- what is called in a text, of the first n functions
abbrev pub Made : List CheckedFunction → ℕ → CheckedBlock → OfCalls
Made functions n text k count = HasParameters functions k count × k < n × (block_calls k text ≡ true)

-- a task of a source, with places for the functions that it reaches
pub record Task (program : CheckedProgram) (body : CheckedBlock) (p : Places) : Type 0 where
  pub formed : (k : ℕ) (f : CheckedFunction) → slice_get program.functions k ≡ Some f → IsWellFormedFunction program k f
  pub calls : FunctionsCallBelow 0 program.functions
  pub below : BlockCallsBelow (length program.functions) body
  pub words : PlacesOfWords p
  pub routines : RoutinesStand program body p.routines
  pub stack : stack_of (summaries program) body ≤ 1000

-- a body where it stands, of whose locals so many are given
abbrev pub setting : CheckedProgram → (given callable : ℕ) → Bool → CheckedBlock → Setting
setting program given callable in_task b = record {
  shared = program.shared;
  own = given + block_locals b;
  callable = callable;
  room = room_of b;
  in_task = in_task;
  calls = Made program.functions callable b;
}

pub body_fit : (program : CheckedProgram) (given callable : ℕ) (in_task : Bool) (b : CheckedBlock) → IsWellFormed program given callable in_task b
    → IsFitBlock (setting program given callable in_task b) b
body_fit program given callable in_task b w = record {
  formed = w.statements;
  fits = has_room program.shared b w.statements;
  below = w.calls;
  names = w.locals;
  calls = each_call program.functions callable (Made program.functions callable b) b w.counts w.calls (λ k count has low calls. (has, low, calls));
  ends = w.leaves;
}

module _ (program : CheckedProgram) (body : CheckedBlock) (p : Places) (task : Task program body p) where
  abbrev functions : List CheckedFunction
  functions = program.functions

  abbrev words_of_stack : ℕ
  words_of_stack = stack_of (summaries program) body

  -- no stack of the task, nor of what it calls, goes below this address
  abbrev pub bottom : ℕ
  bottom = 0x2400 - 2 * (words_of_stack - 16)

  frames : FramesStand program body
  frames = frames_stand program body task.calls task.below

  -- a function that the task reaches
  pub record Here (k : ℕ) : Type 0 where
    pub known : Known
    pub is : IsFunction program k known
    pub reached : reaches_of (summaries program) k body ≡ true
    pub place : RoutinePlace
    pub number_is : place.function ≡ k
    pub index : ℕ
    pub stands : slice_get p.routines index ≡ Some place
    pub found : routine_of p k ≡ Some place
    pub first : place.first ≡ first_local words_of_stack known.summary.depth known.locals
    pub frame : place.frame ≡ frame_of_locals words_of_stack known.summary.depth known.locals

  abbrev known_at : (k : ℕ) → CheckedFunction → Known
  known_at k f = record {
    function = f;
    summary = function_summary (function_summaries (take k functions)) f;
    locals = function_locals (all_locals (take k functions)) f;
  }

  is_known : (k : ℕ) (f : CheckedFunction) → slice_get functions k ≡ Some f → IsFunction program k (known_at k f)
  is_known k f e =
      record { function = e; summary = answer_of function_summary functions k f e; locals = answer_of function_locals functions k f e }

  pub here : (k : ℕ) (f : CheckedFunction) → slice_get functions k ≡ Some f → reaches_of (summaries program) k body ≡ true → Here k
  here k f e reached =
      let placed = task.routines.all k (known_at k f) (is_known k f e) reached in
      let of = task.routines.each placed.index placed.place placed.at in
      record {
        known = of.known;
        is = subst (λ n. IsFunction program n of.known) placed.is of.is;
        reached = reached;
        place = placed.place;
        number_is = placed.is;
        index = placed.index;
        stands = placed.at;
        found = placed.found;
        first = of.first;
        frame = of.frame;
      }

  -- the function of a number that has parameters
  record IsThere (k count : ℕ) : Type 0 where
    function : CheckedFunction
    at : slice_get functions k ≡ Some function
    count_is : length function.parameters ≡ count

  there : (k count : ℕ) → HasParameters functions k count → IsThere k count
  there k count h = by (slice_get functions k) refl h
    where
      by : (o : Option CheckedFunction) → slice_get functions k ≡ o → IsSomeAnd o (λ f. length f.parameters ≡ count) → IsThere k count
      by (Some f) e h = record { function = f; at = e; count_is = h }
      by None e h = absurd h

  -- it is one that is here
  count_of : (k count : ℕ) → HasParameters functions k count → (h : Here k) → count ≡ length h.known.function.parameters
  count_of k count has h =
      let of = there k count has in
      sym of.count_is ∙ ap (λ f. length f.parameters) (same_Some of.function h.known.function (sym of.at ∙ h.is.function))

  -- a function that is called by one that the task reaches, and one that the task calls
  pub callee_of : (k : ℕ) (h : Here k) (j count : ℕ) → Made functions k h.known.function.body j count → Here j
  callee_of k h j count made =
      let of = there j count made.0 in
      here j of.function of.at (reaches_go_on functions body j k h.known.function task.calls h.is.function h.reached made.2)

  pub task_callee : (j count : ℕ) → Made functions (length functions) body j count → Here j
  task_callee j count made =
      let of = there j count made.0 in
      here j of.function of.at
      (or_right (some_called_from (λ k. block_calls k body) (λ s. s.reaches j) 0 (summaries program)) (block_calls j body) made.2)

  -- ---- one function

  module _ (k : ℕ) (h : Here k) where
    abbrev f : CheckedFunction
    f = h.known.function

    abbrev l : FunctionLocals
    l = h.known.locals

    abbrev given : ℕ
    given = length f.parameters

    abbrev above : ℕ
    above = words_above words_of_stack h.known.summary.depth

    -- its frame begins below this address, and its stack stays at or above this one
    abbrev pub ceiling : ℕ
    ceiling = 0x2400 - 2 * above

    abbrev pub floor : ℕ
    floor = 0x2400 - 2 * (above + frame_words h.known)

    abbrev pub program_of : Program
    program_of = lowered_block (routine_places p h.place) (routine_bodies p (take k functions)) f.body

    -- its code, where it is called with its locals in RAM below this address
    abbrev pub code_of : ℕ → Code
    code_of low = record {
      locals = IsOwn l.base (register_end l) (frame_begin h.place.frame low) low;
      bounds = record { first = l.base; low = floor; floor = bottom };
      gives = true;
    }

    abbrev its : Setting
    its = setting program given k false f.body

    formed : IsWellFormedFunction program k f
    formed = task.formed k f h.is.function

    -- ---- its numbers

    within : above + frame_words h.known ≤ 984
    within = let floor_low = frames.within k h.known h.is h.reached in let few = task.stack in omega (arith, floor_low, few)

    own_is : l.own ≡ given + block_locals f.body
    own_is = let is = (locals_stand functions).own k f l h.is.function h.is.locals in let few = within in omega (arith, is, few)

    base_low : l.base ≤ 8
    base_low = ((locals_stand functions).few k l h.is.locals).base

    top_high : 0x1C20 + 2 * (above + frame_words h.known) ≤ 0x2400
    top_high =
        let floor_low = frames.within k h.known h.is h.reached in
        let few = task.stack in
        omega (arith, floor_low, few)

    place_low : h.place.first ≤ 992
    place_low =
        let few = within in
        subst (λ n. n ≤ 992) (sym h.first) (first_low (is_light l) l.base above base_low (omega (arith, few)))

    number_is : (n : ℕ) → n < l.own → local_number (routine_places p h.place) n ≡ h.place.first + n
    number_is n low =
        let first = place_low in
        let few = within in
        let own = own_is in
        small (h.place.first + n) (omega (arith, low, first, few, own))

    own_place : (low n : ℕ) → ceiling ≤ low → n < l.own
        → IsOwn l.base (register_end l) (frame_begin h.place.frame low) low (h.place.first + n)
    own_place low n high own =
        let few = within in
        let is = own_is in
        let by_place = own_local (is_light l) l.base l.own above low n own (omega (arith, few, is))
        (λ heavy. high) in
        subst (λ m. IsOwn l.base (register_end l) (frame_begin h.place.frame low) low (m + n)) (sym h.first)
        (subst (λ o. IsOwn l.base (register_end l) (frame_begin o low) low (first_local words_of_stack h.known.summary.depth l + n)) (sym h.frame) by_place)

    -- ---- its ways

    covered : Covers (routine_places p h.place) (not_given given) (entered h.place.first given)
    covered x low is =
        let inside = given_below given x is in
        let own = own_is in
        let number = number_is x (omega (arith, inside, own)) in
        subst (λ m. entered h.place.first given m ≡ true) (sym number) (entered_at h.place.first given x inside)

    pub function_way : EachWay (room_of f.body) program_of (λ q. ⊥) (entry_place h.place.first given)
    function_way =
        subst (EachWay (room_of f.body) program_of (λ q. ⊥)) (sym (entry_is h.place.first given))
        (body_way (routine_places p h.place) (routine_bodies p (take k functions)) (routine_words p h.place task.words) functions its
        (let inside = slice_get_within functions k f h.is.function in omega (arith, inside)) (λ e. absurd (let no : false ≡ true = e in cc)) f.body
        (not_given given) (entered h.place.first given) (body_fit program given k false f.body formed) covered
        (safe_paths functions given f.body formed.assigned) (λ xs q. formed.ends (xs, q)))

    -- ---- its body among those of the functions

    body_is : routine_body p (routine_bodies p (take k functions)) f ≡ program_of
    body_is =
        let inside = slice_get_within functions k f h.is.function in
        let count = answers_length (routine_body p) [] (take k functions) in
        let front = length-take-le k functions (omega (arith, inside)) in
        let number : length (routine_bodies p (take k functions)) ≡ k = omega (arith, count, front) in
        ap (λ n. body_at p (routine_of p n) (routine_bodies p (take k functions)) f.body) number
        ∙ ap (λ o. body_at p o (routine_bodies p (take k functions)) f.body) h.found

    -- among those of functions that begin with it and all in front of it
    pub body_among : (some : List CheckedFunction) → slice_get some k ≡ Some f → take k some ≡ take k functions
        → slice_index_or (routine_bodies p some) k nothing ≡ program_of
    body_among some e same =
        get_is (routine_bodies p some) k nothing (routine_body p (routine_bodies p (take k some)) f) (answer_of (routine_body p) some k f e)
        ∙ ap (λ gs. routine_body p (routine_bodies p gs) f) same ∙ body_is

    pub body_in_front : (m : ℕ) → k < m → slice_index_or (routine_bodies p (take m functions)) k nothing ≡ program_of
    body_in_front m low =
        body_among (take m functions) (get_taken functions k m low ∙ h.is.function) (take-take k m functions (omega (arith, low)))

    -- ---- a call of it

    -- from code with its locals and its stack above this function's, whose body is sound
    record IsCaller (c : Code) : Type 0 where
      registers : register_end l ≤ c.bounds.first
      high : ceiling ≤ c.bounds.low
      floor_is : c.bounds.floor ≡ bottom
      sound : Sound (code_of c.bounds.low) program_of

    is_called : (c : Code) → IsCaller c
        → IsCalled (λ inner. IsFormed inner true program_of) c.bounds h.place.frame h.place.first given program_of
    is_called c caller =
        let few = within in
        let is = own_is in
        let high = top_high in record {
          own = l.base;
          end = register_end l;
          lowest = floor;
          room = room_of f.body;
          ordered = end_behind (is_light l) l.base l.own;
          registers = caller.registers;
          fits = fits;
          floor = let is = caller.floor_is in let low = frames.within k h.known h.is h.reached in omega (arith, is, low);
          spare = record { fits = omega (arith, high) };
          parameters = λ n low. own_place c.bounds.low n caller.high (omega (arith, low, is));
          locals = caller.sound.0;
          ways = function_way;
          deeper =
              subst (λ n. IsFormed (record { first = l.base; low = floor; floor = n }) true program_of) (sym caller.floor_is) caller.sound.1;
        }
      where
        fits : FrameFits c.bounds h.place.frame floor (room_of f.body)
        fits =
            let few = within in
            let is = own_is in
            let high = top_high in
            let below = caller.high in
            subst (λ o. FrameFits c.bounds o floor (room_of f.body)) (sym h.frame)
            (frame_fits (is_light l) c.bounds above (frame_words h.known) l.own (room_of f.body) (omega (arith, is)) few below)

    call_sound : (c : Code) (rs : List Program) (count : ℕ) → IsCaller c → count ≤ 256 → count ≡ given → slice_index_or rs k nothing ≡ program_of
        → StepSound c (call_step p rs k (count % 65536))
    call_sound c rs count caller few is at =
        subst (λ b. StepSound c (call_at (routine_of p k) (count % 65536) b)) (sym at)
        (subst (λ o. StepSound c (call_at o (count % 65536) program_of)) (sym h.found)
        (subst (λ n. StepSound c (call h.place.code.address h.place.frame h.place.first n program_of)) (sym (small count (omega (arith, few)) ∙ is))
        (tt, is_called c caller, (entry, frame_words_are, first, few_given, caller.sound.2))))
      where
        entry : IsWord h.place.code.address
        entry = task.words.routines h.index h.place h.stands

        frame_words_are : FrameOfWords h.place.frame
        frame_words_are = subst FrameOfWords (sym h.frame) (frame_is_word (is_light l) (8 + above) l.own)

        first : IsWord h.place.first
        first = let low = place_low in omega (arith, low)

        few_given : IsWord given
        few_given = omega (arith, few, is)

  -- ---- all of them

  locals_of : LocalsStand functions
  locals_of = locals_stand functions

  module _ (k : ℕ) (h : Here k) (low : ℕ) (high : ceiling k h ≤ low)
      (sound : (j : ℕ) → j < k → (callee : Here j) → (at : ℕ) → ceiling j callee ≤ at → Sound (code_of j callee at) (program_of j callee)) where
    own_number : (n : ℕ) → n < 256 → n < (its k h).own → (code_of k h low).locals (local_number (routine_places p h.place) n)
    own_number n few inside =
        let is = own_is k h in
        let there : n < (l k h).own = omega (arith, inside, is) in
        subst (code_of k h low).locals (sym (number_is k h n there)) (own_place k h low n high there)

    -- a call of one in front of it
    called : (j count : ℕ) → count ≤ 256 → Made functions k h.known.function.body j count
        → StepSound (code_of k h low) (call_step (routine_places p h.place) (routine_bodies p (take k functions)) j (count % 65536))
    called j count few made =
        let callee = callee_of k h j count made in
        let depth = frames.callees j k h.known callee.known h.is callee.is h.reached made.2 in
        let below : ceiling j callee ≤ floor k h = omega (arith, depth) in
        let caller : IsCaller j callee (code_of k h low) = record {
          registers = locals_of.callees j k h.known.function (l k h) (l j callee) made.1 h.is.function h.is.locals callee.is.locals made.2;
          high = below;
          floor_is = refl;
          sound = sound j made.1 callee (floor k h) below;
        } in
        call_sound j callee (code_of k h low) (routine_bodies p (take k functions)) count caller few (count_of j count made.0 callee)
        (body_in_front j callee k made.1)

    body_sound : Sound (code_of k h low) (program_of k h)
    body_sound =
        block_sound (routine_places p h.place) (routine_bodies p (take k functions)) (its k h) (code_of k h low)
        (record { locals = own_number; ends = refl; calls = called }) (routine_words p h.place task.words) h.known.function.body
        (body_fit program (given k h) k false h.known.function.body (formed k h))

  -- the bodies of those below a number are sound, each where its locals in RAM are below an address that is high enough
  sound_below : (m k : ℕ) → k < m → (h : Here k) → (low : ℕ) → ceiling k h ≤ low → Sound (code_of k h low) (program_of k h)
  sound_below zero k lt h low high = absurd (let none : ⊥ = omega (arith, lt) in none)
  sound_below (suc m) k lt h low high =
      body_sound k h low high (λ j in_front callee at below. sound_below m j (omega (arith, lt, in_front)) callee at below)

  -- the locals of each stand in registers and in RAM
  pub routine_low : (k : ℕ) (h : Here k) → LocalsBelow 1016 (program_of k h)
  routine_low k h =
      each_local_as (code_of k h (ceiling k h)).locals (λ n. n < 1016) low (program_of k h)
      (sound_below (suc k) k (omega arith) h (ceiling k h) (omega arith)).0
    where
      few : words_above words_of_stack h.known.summary.depth + h.known.locals.own ≤ 984
      few = let inside = within k h in let is = own_is k h in omega (arith, inside, is)

      low : (n : ℕ) → (code_of k h (ceiling k h)).locals n → n < 1016
      low n (inl (own, below)) = let end = (locals_of.few k (l k h) h.is.locals).end in omega (arith, end, below)
      low n (inr (past, from, upto)) =
          begin_low (is_light (l k h)) (words_above words_of_stack h.known.summary.depth) h.known.locals.own (ceiling k h) n few
          (subst (λ o. frame_begin o (ceiling k h) ≤ local_address n) h.frame from) upto

  -- that of a place
  pub place_low_locals : (j : ℕ) (r : RoutinePlace) → slice_get p.routines j ≡ Some r
      → LocalsBelow 1016 (slice_index_or (routine_bodies p functions) r.function nothing)
  place_low_locals j r at =
      let of = task.routines.each j r at in
      let h : Here r.function = here r.function of.known.function of.is.function of.reached in
      subst (LocalsBelow 1016) (sym (body_among r.function h functions h.is.function refl)) (routine_low r.function h)

  -- ---- the task itself

  abbrev base : ℕ
  base = base_of (all_locals functions) body

  -- its code, with locals from the registers of all that it calls on, up to a number
  abbrev pub task_code : ℕ → Code
  task_code locals = record {
    locals = λ n. base ≤ n × n < locals;
    bounds = record { first = base; low = 0x2400 - 2 * frame_of 0 body; floor = bottom };
    gives = false;
  }

  abbrev pub task_program : Program
  task_program = lowered_block p (routine_bodies p functions) body

  module _ (w : IsWellFormed program 0 (length functions) true body) (first : p.first ≡ base) (locals : ℕ)
      (below : (n : ℕ) → n < 256 → n < block_locals body → base + n < locals) where
    task_number : (n : ℕ) → n < 256 → n < block_locals body → base ≤ local_number p n × local_number p n < locals
    task_number n few inside =
        let few_registers = locals_of.few_of_task body in
        let high = below n few inside in
        let is : local_number p n ≡ base + n = small (p.first + n) (omega (arith, few, first, few_registers)) ∙ ap (λ m. m + n) first in
        (omega (arith, is), omega (arith, is, high))

    task_calls : (j count : ℕ) → count ≤ 256 → Made functions (length functions) body j count
        → StepSound (task_code locals) (call_step p (routine_bodies p functions) j (count % 65536))
    task_calls j count few made =
        let callee = task_callee j count made in
        let depth = frames.callees_of_task j callee.known callee.is made.2 in
        let under : ceiling j callee ≤ 0x2400 - 2 * frame_of 0 body = omega (arith, depth) in
        let caller : IsCaller j callee (task_code locals) = record {
          registers = locals_of.callees_of_task body j (l j callee) callee.is.locals made.2;
          high = under;
          floor_is = refl;
          sound = sound_below (suc j) j (omega arith) callee (0x2400 - 2 * frame_of 0 body) under;
        } in
        call_sound j callee (task_code locals) (routine_bodies p functions) count caller few (count_of j count made.0 callee)
        (body_among j callee functions callee.is.function refl)

    pub task_sound : Sound (task_code locals) task_program
    task_sound =
        block_sound p (routine_bodies p functions) (setting program 0 (length functions) true body) (task_code locals)
        (record { locals = λ n few inside. task_number n few (omega (arith, inside)); ends = refl; calls = task_calls }) task.words body
        (body_fit program 0 (length functions) true body w)

  pub way_of_task : IsWellFormed program 0 (length functions) true body → p.map.commit.address % 2 ≡ 0
      → EachWay (room_of body) task_program (λ q. ⊥) start
  way_of_task w even =
      task_way p (routine_bodies p functions) task.words functions (setting program 0 (length functions) true body) (omega arith) (λ e. even) body
      (body_fit program 0 (length functions) true body w) (safe_paths functions 0 body w.assigned) (λ xs q. w.ends (xs, q))
