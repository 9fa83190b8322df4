-- The code of a word program keeps to its dearest way.
use Rattle.code_costs.proofs.Names.{◌≡◌, ℕ, ◌+◌, ◌-◌, ◌*◌, ◌<◌, ◌≤◌, ◌≢◌, max, not, nat_lt, Bool, true, false, if◌then◌else◌, List, [], ◌∷◌, ◌++◌}
use Rattle.code_costs.proofs.Names.{Some, refl, sym, subst, arith, stands_front, stands_back, forms_bytes-append}
use Rattle.code_costs.proofs.Names.{matches_local, start_matches, step_well, well, whole_ends_soundly, local_words, words_step, words, leaves, Setting}
use Rattle.code_costs.proofs.Names.{nothing_run, dearer, assigned_same, StandsFor, OnGoesOn, Reaches, then_reach, owed, Describes, dressed}
use Rattle.code_costs.proofs.Names.{stands_low, pass_part, whole_size, Fork, fork_at, fork_turned, fork_both, fork_either, Forked, forked_behind, jump_part}
use Rattle.code_costs.proofs.Names.{spared_so, bounded_with, bounded_on, step_bounded, HasStack, stack_part, Ready, ready_on, ready_with, turn_ready}
use Rattle.code_costs.proofs.Names.{known_first, known_second, KnownStep, KnownTest, KnownProgram, one_pushed, zero_pushed, step_follows}
use Rattle.code_costs.proofs.Names.{Effect, Core, Form, Branch, Stands, forms_bytes, Runs, Step, Test, Program, number, truth}
use Rattle.code_costs.proofs.Names.{choose, repeat, jump, holds, compares, both, either, fails, nothing, step, WordState, End, GoesOn, Jumps, Short}
use Rattle.code_costs.proofs.Names.{Strays, Broken}
use Rattle.code_costs.proofs.Names.{Behaviour, started, step_behaviour, behaviour, then_on, tested, with_local, way_by_top, way_by_two, number_pushed}
use Rattle.code_costs.proofs.Names.{Place, start, assigning, Moves, EachTurn, EachStepWay, EachTestWay, EachWay, StepSpares, TestSpares, Spares, IsWhole}
use Rattle.code_costs.proofs.Names.{OfWords}
use Rattle.code_costs.proofs.Names.{locals_of, step_spent, IsSound, Bound, Waiting, flushed, holds_code, compares_code}
use Rattle.code_costs.proofs.Names.{truth_code, number_code, turn_end, turns_code, pass_over, size, bound_of, stack_base, stack_set, waiting_behind}
use Rattle.code_costs.proofs.Names.{waiting_after}
use Rattle.code_costs.proofs.Names.{step_code, test_code, steps_code, block_code, code_of, ComesTo, forward_most, owed, flush_most, leaf_most}
use Rattle.code_costs.proofs.Names.{turn_most, turns_most, step_most, test_most, steps_most, block_most, most_spent}
use Rattle.code_costs.proofs.Names.{power, StepDoes, product_part, bits_in, by_number_most, zero, suc, ◌/◌, ◌^◌, eqb-true, Option, None}
use Rattle.word_code.specs.declared.waiting.Waiting.TheVariants as waiting
use Rattle.code_costs.proofs.Names.{unary, binary, long, unary_cycles, long_cycles, UnaryOperation, Negate, Complement, BinaryOperation}
use Rattle.code_costs.proofs.Names.{Multiply}
use Rattle.code_costs.proofs.Names.{Divide, Remainder, Plain, LongOperation, any_most}
use Rattle.word_code.specs.array_versions.declared.operations.LongOperation.TheVariants as with_longs
use Rattle.code_costs.proofs.Names.{rules_of, IsKept}
use Rattle.code_costs.proofs.Names.{begun, EachLocal, IsEntry, IsInStack, stack_top, Owns, bounds_of, at_base, uncalled, uncalled_owns, IsFormed}
use Rattle.code_costs.proofs.Names.{RoutinesStand, StepRoutinesStand, Code, length, with_stack, with_top, dearer_stall, Gives, call, give, called}
use Rattle.code_costs.proofs.Names.{called_behind}
use Rattle.code_costs.proofs.Names.{popped, callee, light_reaches, framed_reaches, give_part, call_room, call_ready, routine_code, light_call, framed_call}
use Rattle.code_costs.proofs.Names.{give_code, call_most, give_most}
use Rattle.code_costs.proofs.Names.{behaves, broken, FollowsEnd, ◌==◌, ◌%◌}
use Rattle.code_costs.specs.Laws.{CodeKeepsToItsWays}
use Rattle.code_costs.proofs.Alone.{alone, stand, stands_in, stands_out, describes_in, describes_out, runs_there, reaches_there}
use Rattle.code_costs.proofs.Reaching.{then_more, on_way, flushes, behind_flushed}
use Rattle.code_costs.proofs.Tests.{Way, Ways, by_top, by_two}
use Rattle.code_costs.proofs.Turns.{loop_reach}

-- what operations cost, whatever their code is
unary_few : (o : UnaryOperation) → unary_cycles o ≤ 202
unary_few Negate = omega arith
unary_few Complement = omega arith

long_few : (o : LongOperation) → long_cycles o ≤ 202
long_few (with_longs.Calculate o) = omega arith
long_few _ = omega arith

-- a number is below the power of two that its bits tell
bits_by : (is : Bool) (n k : ℕ) → (n == 0) ≡ is → n / 2 < 2 ^ k → n < 2 ^ (if is then 0 else suc k)
bits_by true n k e l = let none = eqb-true n 0 e in omega (arith, none)
bits_by false n k e l = let double : 2 ^ suc k ≡ 2 * 2 ^ k = grind arith in omega (arith, double, l)

bits_hold : (m n : ℕ) → n < 2 ^ m → n < 2 ^ bits_in m n
bits_hold zero n l = l
bits_hold (suc m) n l =
    let double : 2 ^ suc m ≡ 2 * 2 ^ m = grind arith in
    bits_by (n == 0) n (bits_in m (n / 2)) refl (bits_hold m (n / 2) (omega (arith, double, l)))

has_bits : (n : ℕ) → n < 0x10000 → n < 2 ^ suc (bits_in 15 (n / 2))
has_bits n l =
    let k = bits_in 15 (n / 2) in
    let half : n / 2 < 2 ^ k = bits_hold 15 (n / 2) (omega (arith, l)) in
    let double : 2 ^ suc k ≡ 2 * 2 ^ k = grind arith in
    omega (arith, double, half)

module _ (z : Setting) where
  -- a step that is no test, no choice, no loop and no jump, by what is known of it where its code stands alone
  leaf_by : (bs : List Bound) (first : Step) (os : List Waiting) (pc : ℕ) (w : WordState) (u : Core) (cost : ℕ) → cost ≤ any_most os first
      → (h : Stands z.code pc (step_code bs os first)) → Describes z os pc w u → (next : ℕ)
      → (let y = alone z pc (step_code bs os first) h in StepDoes y bs os first cost pc w u (step_behaviour first w)) → (let b = step_behaviour first w in
      Reaches z next (Describes z (waiting_behind os first) (pc + forms_bytes (step_code bs os first))) (leaf_most bs os first + next) u b.effects b.end)
  leaf_by bs first os pc w u cost least h d next follows =
      let ms = step_code bs os first in
      let after = waiting_behind os first in
      let end = pc + forms_bytes ms in
      let y = alone z pc ms h in
      let b = step_behaviour first w in
      reaches_there z pc ms h (owed after) next (cost + owed os) (any_most os first + owed os) u (λ v. Describes y after end v)
      (λ v. Describes z after end v) b.effects b.end d.is.at (omega (arith, least)) (λ v t j. describes_out z pc ms h after end v t j)
      (follows (stand z pc ms h) (describes_in z pc ms h os pc w u d))

  -- no step but a call wants other code than its own
  leaf : (bs : List Bound) (first : Step) (fits : Place → Type 0) (os : List Waiting) (pc : ℕ) (w : WordState) (u : Core)
      → step_spent first w ≤ any_most os first → ((code : Code) → StepRoutinesStand code first)
      → Ready bs (EachStepWay z.room first fits) w → KnownStep z bs first → Stands z.code pc (step_code bs os first) → Describes z os pc w u → (next : ℕ)
      → (let b = step_behaviour first w in
      Reaches z next (Describes z (waiting_behind os first) (pc + forms_bytes (step_code bs os first))) (leaf_most bs os first + next) u b.effects b.end)
  leaf bs first fits os pc w u least free r known h d next =
      let y = alone z pc (step_code bs os first) h in
      let inside : KnownStep y bs first = record {
        of_words = known.of_words;
        owned = known.owned;
        formed = known.formed;
        routines = free y.code;
        spares = known.spares;
      } in
      leaf_by bs first os pc w u (step_spent first w) least h d next (λ s i. step_follows y bs first fits os pc w u r inside s i)

  module _ (bs : List Bound) (fits : Place → Type 0) (n : ℕ) (os : List Waiting) (pc : ℕ) (w : WordState) (u : Core) where
    abbrev all : List Waiting
    all = waiting.Number n ∷ os

    -- a product by a number that waits, by whether that is a power of two
    number_leaf : (p : Option ℕ) → power n ≡ p → Ready bs (EachStepWay z.room (binary Multiply) fits) w → KnownStep z bs (binary Multiply)
        → Stands z.code pc (step_code bs all (binary Multiply)) → Describes z all pc w u → (next : ℕ)
        → (let first = binary Multiply in let b = step_behaviour first w in
        Reaches z next (Describes z (waiting_behind all first) (pc + forms_bytes (step_code bs all first))) (leaf_most bs all first + next) u b.effects b.end)
    number_leaf None is r known h d next =
        let turns = bits_in 15 (n / 2) in
        let y = alone z pc (step_code bs all (binary Multiply)) h in
        leaf_by bs (binary Multiply) all pc w u (8 + suc turns * 9) (subst (λ p. 8 + suc turns * 9 ≤ by_number_most p n) (sym is) (omega arith)) h d next
        (λ s i. product_part y turns n os pc w w.stack u is (λ small. has_bits n small) refl r.words_in.stack s i)
    number_leaf (Some k) is r known h d next =
        leaf bs (binary Multiply) fits all pc w u (subst (λ p. 152 ≤ by_number_most p n) (sym is) (omega arith)) (λ c. tt) r known h d next

  -- an operation on two words
  binary_leaf : (op : BinaryOperation) (bs : List Bound) (fits : Place → Type 0) (os : List Waiting) (pc : ℕ) (w : WordState) (u : Core)
      → Ready bs (EachStepWay z.room (binary op) fits) w → KnownStep z bs (binary op) → Stands z.code pc (step_code bs os (binary op))
      → Describes z os pc w u → (next : ℕ) → (let first = binary op in let b = step_behaviour first w in
      Reaches z next (Describes z (waiting_behind os first) (pc + forms_bytes (step_code bs os first))) (leaf_most bs os first + next) u b.effects b.end)
  binary_leaf Multiply bs fits (waiting.Number n ∷ os) pc w u r known h d next = number_leaf bs fits n os pc w u (power n) refl r known h d next
  binary_leaf Multiply bs fits os pc w u r known h d next = leaf bs (binary Multiply) fits os pc w u (omega arith) (λ c. tt) r known h d next
  binary_leaf Divide bs fits os pc w u r known h d next = leaf bs (binary Divide) fits os pc w u (omega arith) (λ c. tt) r known h d next
  binary_leaf Remainder bs fits os pc w u r known h d next = leaf bs (binary Remainder) fits os pc w u (omega arith) (λ c. tt) r known h d next
  binary_leaf (Plain o) bs fits os pc w u r known h d next = leaf bs (binary (Plain o)) fits os pc w u (omega arith) (λ c. tt) r known h d next

  -- behind steps with no word waiting in front of them, code that takes those that wait behind them
  leaf_reach : (bs : List Bound) (p : Program) (fits : Place → Type 0) (c next pc : ℕ) (Q : WordState → Core → Type 0) (go : WordState → Behaviour)
      (w : WordState)
      (u : Core) (most : ℕ) → (let os = waiting_after [] p in let at = pc + forms_bytes (steps_code bs [] p) in let b = behaviour p w in
      Reaches z c (Describes z os at) most u b.effects b.end → OnGoesOn (Ready bs fits) b.end
      → ((x : Core) (v : WordState) → Ready bs fits v → Describes z os at v x → Reaches z next Q c x (go v).effects (go v).end)
      → (let all = then_on b go in Reaches z next Q most u all.effects all.end))
  leaf_reach bs p fits c next pc Q go w u most a r f =
      let b = behaviour p w in
      on_way z c next most u (Ready bs fits) (λ v. Describes z (waiting_after [] p) (pc + forms_bytes (steps_code bs [] p)) v) Q b.effects b.end go a r
      (λ x v q d. f x v q d)

  -- steps with no word waiting in front of them, and then those that wait behind them are pushed
  block_reach : (bs : List Bound) (p : Program) (pc next : ℕ) (w : WordState) (u : Core) → Stands z.code pc (block_code bs p)
      → (let b = behaviour p w in (Stands z.code pc (steps_code bs [] p)
      → Reaches z (flush_most (waiting_after [] p) + next) (Describes z (waiting_after [] p) (pc + forms_bytes (steps_code bs [] p))) (block_most bs p next) u
      b.effects b.end)
      → Reaches z next (StandsFor z (pc + forms_bytes (block_code bs p))) (block_most bs p next) u b.effects b.end)
  block_reach bs p pc next w u h f =
      let a = steps_code bs [] p in
      let os = waiting_after [] p in
      let mid = pc + forms_bytes a in
      let b = behaviour p w in
      let there : mid + forms_bytes (flushed os) ≡ pc + forms_bytes (block_code bs p) = omega (arith, forms_bytes-append a (flushed os)) in
      subst (λ q. Reaches z next (StandsFor z q) (block_most bs p next) u b.effects b.end) there
      (then_more z (flush_most os) next (block_most bs p next) u (λ v. Describes z os mid v) (λ v. StandsFor z (mid + forms_bytes (flushed os)) v) b.effects
      b.end
      (f (stands_front z.code pc a (flushed os) h)) (λ t v d. flushes z os mid v t (stands_back z.code pc a (flushed os) h) d))

  -- over so many words in any case
  passes : (at d end : ℕ) (v : WordState) (t : Core) → Stands z.code at (pass_over d) → at + forms_bytes (pass_over d) + 2 * d ≡ end
      → (at + forms_bytes (pass_over d) < 0x10000 → end < 0x10000) → StandsFor z at v t → Runs z.kept [] (forward_most (pass_over d) 3) t (StandsFor z end v)
  passes at d end v t h e low i =
      let ms = pass_over d in
      let y = alone z at ms h in
      runs_there z at ms h i.at (pass_part y at d end v t (stand z at ms h) e low (stands_in z at ms h at v t i)) (λ s j. stands_out z at ms h end v s j)

  -- out of the program
  leaves_by : (c : Bool) (next to pc : ℕ) (w : WordState) (u : Core) (Q : WordState → Core → Type 0)
      → (let b : Behaviour = if c then behaves [] (Jumps to w) else broken in FollowsEnd z pc 3 u b.effects b.end → Reaches z next Q 3 u b.effects b.end)
  leaves_by true next to pc w u Q a = a
  leaves_by false next to pc w u Q a = tt

  -- by how a function's body ends: behind it nothing follows in its code
  follows_so : (end most : ℕ) (u : Core) (es : List Effect) (e : End) → Reaches z 0 (λ v. StandsFor z end v) most u es e → FollowsEnd z end most u es e
  follows_so end most u es (GoesOn w) a = dearer z (omega (arith, a.within)) a.runs
  follows_so end most u es (Jumps to w) a = a
  follows_so end most u es (Gives v w) a = a
  follows_so end most u es Short a = a
  follows_so end most u es _ a = tt

  -- with what follows paid for beside it, whatever was left
  reach_past : (left next most more : ℕ) (u : Core) (Q : WordState → Core → Type 0) (es : List Effect) (e : End) → most + next ≤ more
      → Reaches z left Q most u es e → Reaches z next Q more u es e
  reach_past left next most more u Q es (GoesOn w) l a = record { spent = a.spent; within = omega (arith, a.within, l); runs = a.runs }
  reach_past left next most more u Q es (Jumps to w) l a = dearer z (omega (arith, l)) a
  reach_past left next most more u Q es (Gives v w) l a = dearer z (omega (arith, l)) a
  reach_past left next most more u Q es Short l a = dearer_stall z es most more u (omega (arith, l)) a
  reach_past left next most more u Q es _ l a = tt

  -- the return of a function
  give_reach : (os : List Waiting) (pc : ℕ) (w : WordState) (vs : List ℕ) (u : Core) → z.gives ≡ true → w.stack ≡ vs → length vs ≡ 1
      → Stands z.code pc (give_code os) → Describes z os pc w u → (next : ℕ)
      → (let b = with_top vs (λ v us. behaves [] (Gives v (with_stack us w))) in
      Reaches z next (Describes z [] (pc + forms_bytes (give_code os))) (give_most os) u b.effects b.end)
  give_reach os pc w [] u gives e one h d next = tt
  give_reach os pc w (v ∷ vs) u gives e one h d next = give_part z os pc w (v ∷ vs) u gives e one h d

mutual
  step_reach : (z : Setting) (bs : List Bound) (first : Step) (fits : Place → Type 0) (os : List Waiting) (pc : ℕ) (w : WordState) (u : Core)
      → Ready bs (EachStepWay z.room first fits) w → KnownStep z bs first → Stands z.code pc (step_code bs os first) → Describes z os pc w u → (next : ℕ)
      → (let b = step_behaviour first w in
      Reaches z next (Describes z (waiting_behind os first) (pc + forms_bytes (step_code bs os first))) (step_most bs os first next) u b.effects b.end)
  step_reach z bs (truth t) fits os pc w u r known h d next =
      let a = test_code bs t false 2 in
      let at = pc + forms_bytes (flushed os) in
      let inside = at + forms_bytes a in
      let pushes = Moves z.room 0 1 fits in
      let most = test_most bs t false 2 (5 + next) (3 + next) in
      let b = step_behaviour (truth t) w in
      behind_flushed z os (a ++ truth_code) most next pc w u b h d (λ x s i.
      let ha = stands_back z.code at a truth_code s in
      let high = (z.tidy (inside + 2) _ ha.1.0).high in
      let Q : WordState → Core → Type 0 = λ v. StandsFor z (inside + 6) v in
      let ways : Ways z bs next Q = record {
        held = record { at = inside; fits = pushes; cost = 5 + next; does = number_pushed 1 };
        failed = record { at = inside + 4; fits = pushes; cost = 3 + next; does = number_pushed 0 };
        if_held = λ v y q j. record { spent = 5; within = omega arith; runs = one_pushed z inside v y ha (omega (arith, q.fit.1, q.matches.depth)) j };
        if_failed = λ v y q j. record { spent = 3; within = omega arith; runs = zero_pushed z inside v y ha (omega (arith, q.fit.1, q.matches.depth)) j };
      } in
      let fork : Fork false 2 inside (inside + 4) inside = record { holds = refl; fails = refl; room = λ low. omega (arith, high) } in
      let there : inside + 6 ≡ at + forms_bytes (a ++ truth_code) = omega (arith, forms_bytes-append a truth_code) in
      subst (λ p. Reaches z next (StandsFor z p) most x b.effects b.end) there
      (test_reach z bs next Q t false 2 at ways w x r known (record { stands = stands_front z.code at a truth_code s; fork = fork }) i))
  step_reach z bs (choose t taken otherwise) fits os pc w u r known h d next =
      let taken_spares = spared_so bs (λ m. StepSpares m (choose t taken otherwise)) (λ m. Spares m taken) (λ m k. k.1) known.spares in
      let taken_known : KnownProgram z bs taken =
      record { of_words = known.of_words.1; owned = known.owned.1; formed = known.formed.1; routines = known.routines.1; spares = taken_spares } in
      let other_spares = spared_so bs (λ m. StepSpares m (choose t taken otherwise)) (λ m. Spares m otherwise) (λ m k. k.2) known.spares in
      let other_known : KnownProgram z bs otherwise = record {
        of_words = known.of_words.2;
        owned = known.owned.2;
        formed = known.formed.2;
        routines = known.routines.2;
        spares = other_spares;
      } in
      let b = block_code bs taken in
      let other = block_code bs otherwise in
      let over = pass_over (size other) in
      let pass = forward_most over 3 in
      let first = b ++ over in
      let a = test_code bs t false (size first) in
      let at = pc + forms_bytes (flushed os) in
      let inside = at + forms_bytes a in
      let middle = inside + forms_bytes first in
      let end = middle + forms_bytes other in
      let most = test_most bs t false (size first) (block_most bs taken (pass + next)) (block_most bs otherwise next) in
      let done = step_behaviour (choose t taken otherwise) w in
      behind_flushed z os (a ++ (first ++ other)) most next pc w u done h d (λ x s i.
      let hb = stands_back z.code at a (first ++ other) s in
      let hf = stands_front z.code inside first other hb in
      let ho = stands_back z.code inside first other hb in
      let fork : Fork false (size first) inside middle inside = record {
        holds = refl;
        fails = omega (arith, whole_size first);
        room = λ low. omega (arith, stands_low z inside first hf low, whole_size first);
      } in
      let Q : WordState → Core → Type 0 = λ v. StandsFor z end v in
      let ways : Ways z bs next Q = record {
        held = record { at = inside; fits = EachWay z.room taken fits; cost = block_most bs taken (pass + next); does = behaviour taken };
        failed = record { at = middle; fits = EachWay z.room otherwise fits; cost = block_most bs otherwise next; does = behaviour otherwise };
        if_held = λ v y q j. then_more z pass next (block_most bs taken (pass + next)) y (λ s'. StandsFor z (inside + forms_bytes b) s') Q
            (behaviour taken v).effects (behaviour taken v).end
            (block_reach z bs taken inside (pass + next) v y (stands_front z.code inside b over hf)
            (λ hs. steps_reach z bs taken fits [] inside v y q taken_known hs (dressed z inside v y j) (flush_most (waiting_after [] taken) + (pass + next))))
            (λ y' s' k. passes z (inside + forms_bytes b) (size other) end s' y' (stands_back z.code inside b over hf)
            (omega (arith, whole_size other, forms_bytes-append b over))
            (λ low. stands_low z middle other ho (omega (arith, low, forms_bytes-append b over))) k);
        if_failed = λ v y q j. block_reach z bs otherwise middle next v y ho
            (λ hs. steps_reach z bs otherwise fits [] middle v y q other_known hs (dressed z middle v y j) (flush_most (waiting_after [] otherwise) + next));
      } in
      let test_spares = spared_so bs (λ m. StepSpares m (choose t taken otherwise)) (λ m. TestSpares m t) (λ m q. q.0) known.spares in
      let test_known : KnownTest z bs t = record {
        of_words = known.of_words.0;
        owned = known.owned.0;
        formed = known.formed.0;
        routines = known.routines.0;
        spares = test_spares;
      } in
      let there : end ≡ at + forms_bytes (a ++ (first ++ other)) = omega (arith, forms_bytes-append a (first ++ other), forms_bytes-append first other) in
      subst (λ p. Reaches z next (StandsFor z p) most x done.effects done.end) there
      (test_reach z bs next Q t false (size first) at ways w x r test_known
      (record { stands = stands_front z.code at a (first ++ other) s; fork = fork }) i))
  step_reach z bs (repeat n from below body) fits os pc w u r known h d next =
      let inner = bound_of n below ∷ bs in
      let start = number_code n from in
      let made = block_code inner body in
      let at = pc + forms_bytes (flushed os) in
      let top = at + forms_bytes start in
      let turn : ℕ → Place → Type 0 = λ m. EachTurn m n (EachWay z.room body) fits in
      let rest : List Form = if nat_lt from below then turns_code n below made else [] in
      let others = spared_so bs (λ m. StepSpares m (repeat n from below body)) (λ m. n ≢ m) (λ m q. q.0) known.spares in
      let around = spared_so bs (λ m. StepSpares m (repeat n from below body)) (λ m. Spares m body) (λ m q. q.1) known.spares in
      let last = turn_most n below (size (made ++ turn_end n below)) in
      let most = forward_most start 5 + turns_most (below - from) (block_most inner body) last next in
      behind_flushed z os (start ++ rest) most next pc w u (step_behaviour (repeat n from below body) w) h d (λ x hs i.
      loop_reach z made at n from below (block_most inner body) (behaviour body) (λ m s. Ready bs (turn m) s) (nat_lt from below) w x next refl known.owned.0
      known.of_words.2 hs i r
      (λ stands m k s t p less j more. block_reach z inner body top more (with_local n k s) t stands (λ hb.
      steps_reach z inner body (turn m) [] top (with_local n k s) t
      (turn_ready bs (EachWay z.room body (turn m)) n k below s p others (let x = known.of_words.2 in omega arith) less)
      (record { of_words = known.of_words.3; owned = known.owned.1; formed = known.formed.1; routines = known.routines; spares = (known.formed.0, around) }) hb
      (dressed z top (with_local n k s) t j) (flush_most (waiting_after [] body) + more)))
      (λ m k s p less. ready_with z.gives bs (turn m) n k (behaviour body (with_local n k s)).end
      (well (bounds_of z) z.gives z.room body known.formed.1 (turn m) (assigning n p.place) (with_local n k s) p.fit (matches_local p.place s n k p.matches))
      (words body (with_local n k s) known.of_words.3 (local_words s n k p.words_in (let x = known.of_words.2 in omega arith)))
      (bounded_on bs body (with_local n k s) around (bounded_with bs s.locals n k others p.bounded))
      (leaves n (Some k) body (with_local n k s) known.formed.0 (assigned_same s.locals n k))))
  step_reach z bs (jump to) fits os pc w u r known h d next =
      let b = step_behaviour (jump to) w in
      behind_flushed z os (Branch to ∷ []) 3 next pc w u b h d
      (λ t s i. let at = pc + forms_bytes (flushed os) in
      leaves_by z (to % 2 == 0) next to (at + 4) w t (λ v. StandsFor z (at + forms_bytes (Branch to ∷ [])) v) (jump_part z to at w t r.fit s i))
  step_reach z bs (call entry None first count body) fits os pc w u r known h d next =
      let x = known.formed in
      let p = popped count w.stack (omega (arith, r.fit.0, r.matches.depth)) in
      let s = called first p.words w in
      let b = behaviour body s in
      let cost = block_most [] body 0 in
      let last = entry + forms_bytes (routine_code body) in
      let end = pc + forms_bytes (light_call entry first count os) in
      let Q : WordState → Core → Type 0 = λ v. Describes z (waiting.R4 ∷ []) end v in
      let all = called_behind (with_stack p.rest w) b in
      subst (λ a. Reaches z next Q (call_most None count os + cost + next) u a.effects a.end)
      (sym (p.does (λ words vs. called_behind (with_stack vs w) (behaviour body (called first words w)))))
      (reach_past z 3 next (8 + 2 * count + cost + owed os) (call_most None count os + cost + next) u Q all.effects all.end (omega arith)
      (light_reaches z first count body x entry last cost pc os w b u p known.routines.0 (call_room z r.place count w p (r.matches.depth, r.fit.1))
      (λ top t e i. let y = callee z None first count body x top t e in
      follows_so y last cost t b.effects b.end (block_reach y [] body entry 0 s t known.routines.1 (λ hs. steps_reach y [] body (λ q. ⊥) [] entry s t
      (call_ready first count x.room body w p x.ways r.words_in)
      (record { of_words = known.of_words.4; owned = x.locals; formed = x.deeper; routines = known.routines.2; spares = tt }) hs
      (dressed y entry s t i) (flush_most (waiting_after [] body) + 0)))) h d))
  step_reach z bs (call entry (Some f) first count body) fits os pc w u r known h d next =
      let x = known.formed in
      let p = popped count w.stack (omega (arith, r.fit.0, r.matches.depth)) in
      let s = called first p.words w in
      let b = behaviour body s in
      let cost = block_most [] body 0 in
      let last = entry + forms_bytes (routine_code body) in
      let end = pc + forms_bytes (framed_call entry f first count os) in
      let Q : WordState → Core → Type 0 = λ v. Describes z (waiting.R4 ∷ []) end v in
      let all = called_behind (with_stack p.rest w) b in
      subst (λ a. Reaches z next Q (call_most (Some f) count os + cost + next) u a.effects a.end)
      (sym (p.does (λ words vs. called_behind (with_stack vs w) (behaviour body (called first words w)))))
      (reach_past z 3 next (16 + 5 * count + cost + owed os) (call_most (Some f) count os + cost + next) u Q all.effects all.end (omega arith)
      (framed_reaches z f first count body x entry last cost pc os w b u p known.routines.0 (call_room z r.place count w p (r.matches.depth, r.fit.1))
      (λ top t e i. let y = callee z (Some f) first count body x top t e in
      follows_so y last cost t b.effects b.end (block_reach y [] body entry 0 s t known.routines.1 (λ hs. steps_reach y [] body (λ q. ⊥) [] entry s t
      (call_ready first count x.room body w p x.ways r.words_in)
      (record { of_words = known.of_words.4; owned = x.locals; formed = x.deeper; routines = known.routines.2; spares = tt }) hs
      (dressed y entry s t i) (flush_most (waiting_after [] body) + 0)))) h d))
  step_reach z bs give fits os pc w u r known h d next =
      give_reach z os pc w w.stack u known.formed refl (omega (arith, r.fit, r.matches.depth)) h d next
  -- of each other step alike: the first clause makes it a proof by cases
  step_reach z bs (number v) fits os pc w u r known h d next = leaf z bs (number v) fits os pc w u (omega arith) (λ c. tt) r known h d next
  step_reach z bs (unary op) fits os pc w u r known h d next = leaf z bs (unary op) fits os pc w u (omega (arith, unary_few op)) (λ c. tt) r known h d next
  step_reach z bs (binary op) fits os pc w u r known h d next = binary_leaf z op bs fits os pc w u r known h d next
  step_reach z bs (long op) fits os pc w u r known h d next = leaf z bs (long op) fits os pc w u (omega (arith, long_few op)) (λ c. tt) r known h d next
  step_reach z bs first fits os pc w u r known h d next = leaf z bs first fits os pc w u (omega arith) (λ c. tt) r known h d next

  test_reach : (z : Setting) (bs : List Bound) (next : ℕ) (Q : WordState → Core → Type 0) (t : Test) (when : Bool) (d pc : ℕ) (ways : Ways z bs next Q)
      (w : WordState)
      (u : Core)
      → Ready bs (EachTestWay z.room t ways.held.fits ways.failed.fits) w
      → KnownTest z bs t → Forked z when d pc (test_code bs t when d) ways.held.at ways.failed.at → StandsFor z pc w u
      → (let x = tested t ways.held.does ways.failed.does w in
      Reaches z next Q (test_most bs t when d ways.held.cost ways.failed.cost) u x.effects x.end)
  test_reach z bs next Q (holds p) when d pc ways w u r known k i =
      let a = steps_code bs [] p in
      let os = waiting_after [] p in
      let last = holds_code os when d in
      let c = forward_most last (8 + owed os) + max ways.held.cost ways.failed.cost in
      let fits = Moves z.room 1 0 (λ s. ways.held.fits s × ways.failed.fits s) in
      leaf_reach z bs p fits c next pc Q (way_by_top ways.held.does ways.failed.does) w u (steps_most bs [] p c)
      (steps_reach z bs p fits [] pc w u r known (stands_front z.code pc a last k.stands) (dressed z pc w u i) c)
      (ready_on z.gives bs fits (behaviour p w).end (well (bounds_of z) z.gives z.room p known.formed fits r.place w r.fit r.matches)
      (words p w known.of_words r.words_in)
      (bounded_on bs p w known.spares r.bounded))
      (λ x v q j. by_top z bs next Q ways when d os (pc + forms_bytes a) v x v.stack
      (forked_behind z when d pc a last ways.held.at ways.failed.at k) q refl j)
  test_reach z bs next Q (compares e p) when d pc ways w u r known k i =
      let a = steps_code bs [] p in
      let os = waiting_after [] p in
      let last = compares_code os e when d in
      let c = forward_most last (10 + owed os) + max ways.held.cost ways.failed.cost in
      let fits = Moves z.room 2 0 (λ s. ways.held.fits s × ways.failed.fits s) in
      leaf_reach z bs p fits c next pc Q (way_by_two e ways.held.does ways.failed.does) w u (steps_most bs [] p c)
      (steps_reach z bs p fits [] pc w u r known (stands_front z.code pc a last k.stands) (dressed z pc w u i) c)
      (ready_on z.gives bs fits (behaviour p w).end (well (bounds_of z) z.gives z.room p known.formed fits r.place w r.fit r.matches)
      (words p w known.of_words r.words_in)
      (bounded_on bs p w known.spares r.bounded))
      (λ x v q j. by_two z bs next Q ways when d e os (pc + forms_bytes a) v x v.stack
      (forked_behind z when d pc a last ways.held.at ways.failed.at k) q refl j)
  test_reach z bs next Q (both t e) when d pc ways w u r known k i =
      let second = test_code bs e when d in
      let first = test_code bs t false (size second + (if not when then d else 0)) in
      let middle = pc + forms_bytes first in
      let back = forked_behind z when d pc first second ways.held.at ways.failed.at k in
      let counted = fork_at when d ways.held.at ways.failed.at (middle + forms_bytes second) (middle + 2 * size second) (omega (arith, whole_size second))
      back.fork in
      let low : middle < 0x10000 → middle + 2 * size second < 0x10000 =
      λ less. omega (arith, stands_low z middle second back.stands less, whole_size second) in
      let inner : Way = record {
        at = middle;
        fits = EachTestWay z.room e ways.held.fits ways.failed.fits;
        cost = test_most bs e when d ways.held.cost ways.failed.cost;
        does = tested e ways.held.does ways.failed.does;
      } in
      let inner_known : KnownTest z bs e = known_second (λ n. TestSpares n t) (λ n. TestSpares n e) bs known in
      let first_known : KnownTest z bs t = known_first (λ n. TestSpares n t) (λ n. TestSpares n e) bs known in
      test_reach z bs next Q t false (size second + (if not when then d else 0)) pc (record {
        held = inner;
        failed = ways.failed;
        if_held = λ v x q j. test_reach z bs next Q e when d middle ways v x q inner_known back j;
        if_failed = ways.if_failed;
      }) w u r first_known
      (record {
        stands = stands_front z.code pc first second k.stands;
        fork = fork_both when d (size second) ways.held.at ways.failed.at middle low counted;
      }) i
  test_reach z bs next Q (either t e) when d pc ways w u r known k i =
      let second = test_code bs e when d in
      let first = test_code bs t true (size second + (if when then d else 0)) in
      let middle = pc + forms_bytes first in
      let back = forked_behind z when d pc first second ways.held.at ways.failed.at k in
      let counted = fork_at when d ways.held.at ways.failed.at (middle + forms_bytes second) (middle + 2 * size second) (omega (arith, whole_size second))
      back.fork in
      let low : middle < 0x10000 → middle + 2 * size second < 0x10000 =
      λ less. omega (arith, stands_low z middle second back.stands less, whole_size second) in
      let inner : Way = record {
        at = middle;
        fits = EachTestWay z.room e ways.held.fits ways.failed.fits;
        cost = test_most bs e when d ways.held.cost ways.failed.cost;
        does = tested e ways.held.does ways.failed.does;
      } in
      let inner_known : KnownTest z bs e = known_second (λ n. TestSpares n t) (λ n. TestSpares n e) bs known in
      let first_known : KnownTest z bs t = known_first (λ n. TestSpares n t) (λ n. TestSpares n e) bs known in
      test_reach z bs next Q t true (size second + (if when then d else 0)) pc (record {
        held = ways.held;
        failed = inner;
        if_held = ways.if_held;
        if_failed = λ v x q j. test_reach z bs next Q e when d middle ways v x q inner_known back j;
      }) w u r first_known
      (record {
        stands = stands_front z.code pc first second k.stands;
        fork = fork_either when d (size second) ways.held.at ways.failed.at middle low counted;
      }) i
  test_reach z bs next Q (fails t) when d pc ways w u r known k i =
      test_reach z bs next Q t (not when) d pc
      (record { held = ways.failed; failed = ways.held; if_held = ways.if_failed; if_failed = ways.if_held }) w u r known
      (record { stands = k.stands; fork = fork_turned when d ways.held.at ways.failed.at _ k.fork }) i

  steps_reach : (z : Setting) (bs : List Bound) (p : Program) (fits : Place → Type 0) (os : List Waiting) (pc : ℕ) (w : WordState) (u : Core)
      → Ready bs (EachWay z.room p fits) w → KnownProgram z bs p → Stands z.code pc (steps_code bs os p) → Describes z os pc w u → (next : ℕ)
      → (let b = behaviour p w in
      Reaches z next (Describes z (waiting_after os p) (pc + forms_bytes (steps_code bs os p))) (steps_most bs os p next) u b.effects b.end)
  steps_reach z bs nothing fits os pc w u r known h d next =
      let e : pc ≡ pc + 0 = omega arith in
      record { spent = 0; within = omega arith; runs = nothing_run z (subst (λ n. Describes z os n w u) e d) }
  steps_reach z bs (step first more) fits os pc w u r known h d next =
      let a = step_code bs os first in
      let mid = waiting_behind os first in
      let rest = steps_code bs mid more in
      let b = step_behaviour first w in
      let pc' = pc + forms_bytes a in
      let end = pc' + forms_bytes rest in
      let after = waiting_after mid more in
      let all = behaviour (step first more) w in
      let c = steps_most bs mid more next in
      let first_known : KnownStep z bs first = known_first (λ n. StepSpares n first) (λ n. Spares n more) bs known in
      let more_known : KnownProgram z bs more = known_second (λ n. StepSpares n first) (λ n. Spares n more) bs known in
      let there : end ≡ pc + forms_bytes (a ++ rest) = omega (arith, forms_bytes-append a rest) in
      subst (λ p. Reaches z next (Describes z after p) (step_most bs os first c) u all.effects all.end) there
      (on_way z c next (step_most bs os first c) u (Ready bs (EachWay z.room more fits)) (λ v. Describes z mid pc' v) (λ v. Describes z after end v)
      b.effects b.end (behaviour more)
      (step_reach z bs first (EachWay z.room more fits) os pc w u r first_known (stands_front z.code pc a rest h) d c)
      (ready_on z.gives bs (EachWay z.room more fits) b.end
      (step_well (bounds_of z) z.gives z.room first first_known.formed (EachWay z.room more fits) r.place w r.fit r.matches)
      (words_step first w first_known.of_words r.words_in) (step_bounded bs first w first_known.spares r.bounded))
      (λ t v q j. steps_reach z bs more fits mid pc' v t q more_known (stands_back z.code pc a rest h) j next))

-- a whole program with its place in code, and where its stack begins
module _ (z : Setting) (p : Program) (whole : IsWhole p) (of_words : OfWords p) (owned : EachLocal (Owns z) p) (room : whole.room ≡ z.room)
    (formed : IsFormed (bounds_of z) z.gives p × RoutinesStand z.code p)
    (entry_outside : (a : ℕ) → z.top ≤ a → (z.frame ≤ a → z.ceiling ≤ a) → z.entered.sp ≤ a) where
  by_end : (pc most : ℕ) (u : Core) (es : List Effect) (e : End) → Reaches z 0 (λ v. StandsFor z pc v) most u es e → IsSound e → ComesTo z.kept most u es e
  by_end pc most u es (GoesOn w) a g = g
  by_end pc most u es (Jumps to w) a g = a
  by_end pc most u es (Gives v w) a g = g
  by_end pc most u es Short a g = a
  by_end pc most u es Strays a g = tt
  by_end pc most u es Broken a g = g

  -- behind what sets its stack the code keeps to its dearest way
  steps_keep : (at mid front : ℕ) → Stands z.code mid (block_code [] p) → (let u = z.entered in IsEntry at u
      → Runs z.kept [] front u (HasStack mid z.top u)
      → let b = behaviour p (started u.fram u.inputs) in ComesTo z.kept (front + block_most [] p 0) u b.effects b.end)
  steps_keep at mid front h entry set =
      let u = z.entered in
      let s = started u.fram u.inputs in
      let b = behaviour p s in
      let end = mid + forms_bytes (block_code [] p) in
      let r : Ready [] (EachWay z.room p (λ q. ⊥)) s = record {
        place = start;
        fit = subst (λ n. EachWay n p (λ q. ⊥) start) room whole.ways;
        matches = start_matches u.fram u.inputs;
        words_in = record { stack = tt; locals = λ n v q. absurd (let q' = q in (cc)); fram = entry.fram; inputs = entry.inputs };
        bounded = tt;
      } in
      by_end end (front + block_most [] p 0) u b.effects b.end
      (then_reach z 0 (λ v. StandsFor z end v) front (block_most [] p 0) u (HasStack mid z.top u) [] b.effects b.end set (λ t k. block_reach z [] p mid 0 s t h
      (λ hs. steps_reach z [] p (λ q. ⊥) [] mid s t r
      (record { of_words = of_words; owned = owned; formed = formed.0; routines = formed.1; spares = tt }) hs
      (dressed z mid s t (begun z p whole of_words owned room formed entry_outside mid t k))
      (flush_most (waiting_after [] p) + 0))))
      (whole_ends_soundly p u.fram u.inputs whole)

-- the code keeps to its dearest way, behind what sets its stack where a local stands in RAM
pub code_keeps_to_its_ways : CodeKeepsToItsWays
code_keeps_to_its_ways kept at p u tidy h routines whole keeps o entry =
    let b = at_base p whole in
    let z = uncalled kept tidy u p whole keeps b in
    let locals = locals_of p in
    let top = stack_base locals in
    let front = stack_set locals in
    let mid = at + forms_bytes front in
    let sp = entry.sp in let roomy = b.roomy.fits in
    let inside : IsInStack top = record { low = omega arith; high = omega arith } in
    let stays : IsKept (rules_of kept) top =
    (let deep = b.deep in let floor = whole.floor in let low = keeps.low in let high = keeps.high in
    (omega arith, omega arith)) in
    let sets : Stands kept.code at front = stands_front kept.code at front (block_code [] p) h in
    let y = alone z at front sets in
    let set : Runs kept [] (forward_most front 2) u (HasStack mid top u) =
    runs_there z at front sets entry.pc
    (subst (λ n. Runs y.kept [] 2 u (HasStack (n + forms_bytes front) top u)) entry.pc
    (stack_part y locals u inside stays sp (subst (λ n. Stands y.code n front) (sym entry.pc) (stand z at front sets)))) (λ t j. j) in
    steps_keep z p whole o (uncalled_owns kept tidy u p whole keeps b) refl (whole.formed, routines)
    (λ a from out. (let up : stack_top ≤ a = out from in omega (arith, sp, up))) at mid (forward_most front 2)
    (stands_back kept.code at front (block_code [] p) h) entry set
