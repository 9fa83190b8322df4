-- What tasks spend along the way that they take, against the allowance of a source: the entries of the private scalars are paid for once, at
-- the transition.
use Rattle.lower.proofs.Names.{◌≡◌, ℕ, zero, suc, ◌+◌, ◌-◌, ◌*◌, ◌%◌, ◌==◌, ◌≤◌, max, Bool, true, false, if◌then◌else◌, List, [], ◌∷◌, length, Some, None}
use Rattle.lower.proofs.Names.{refl, sym, subst, arith, Summary, CheckedStatement, CheckedChoice, CheckedBlock, cycles_column, statement_price}
use Rattle.lower.proofs.Names.{conditions_price}
use Rattle.lower.proofs.Names.{blocks_price, block_price, word_place, NextTask, Gate, ListLength, Base, SentBase, Run, runs_of, is_true, compare_words, Step}
use Rattle.lower.proofs.Names.{Test, Program, choose, repeat, store_number, move_word, jump, nothing, step, joined, WordState, End, GoesOn, Jumps, Gives, Short}
use Rattle.lower.proofs.Names.{Strays, Broken, Behaviour, behaves, broken, on_end, then_on, is_place, strays, with_stack, with_top, way_by_top, way_by_two}
use Rattle.lower.proofs.Names.{with_local, turns, step_behaviour, tested, behaviour, test_cycles, cycles_of, spent_on, top_spent, spent_by_top, spent_by_two}
use Rattle.lower.proofs.Names.{turns_spent, step_spent, test_spent, spent, joined_go_on, joined_cycles, joined_spend, ways_keep_to_cycles, Places, emission}
use Rattle.lower.proofs.Names.{scalar_assignment, one, assignment, element_assignment, entries, lowered_transition, loop_local, lowered_test}
use Rattle.lower.proofs.Names.{lowered_statement, lowered_choice, lowered_block, entry_cycles, BlocksKeepToCycles}
use Rattle.lower.proofs.Names.{ap, ◌∙◌, ◌&&◌, ◌<◌, map, map-append, ◌++◌, length-append, length-map, cases_eq, cases_lt, ⊎_elim, get_or_past, and_parts}
use Rattle.lower.proofs.Names.{All-head, All-tail}
use Rattle.lower.proofs.Names.{CheckedFunction, Option, RoutinePlace, routine_of, routine_places, routine_body, body_at, BodiesKeep, RoutinesKeep, give}
use Rattle.lower.proofs.Names.{lowered_expression, called_price}
use Rattle.std.proofs.Common.{get_or, All}
use Rattle.cost_bound.specs.Table.{body_price}
use Rattle.cost_bound.specs.Summaries.{function_summary}
use Rattle.task_ast.specs.Answers.{answers_from}
use Rattle.task_check.specs.Placed.{block_ends, choice_ends, statement_ends}
use Rattle.lower.proofs.Pushed.{in_front, at_end, one_longer}
use Rattle.lower.proofs.Neighbours.{runs_are_few}
use Rattle.array_versions.specs.Behaviour.{goes_on}
use Rattle.lower.proofs.Sizes.{assignment_keeps, scalar_keeps, element_keeps, emission_keeps, give_keeps, freezing_costs, test_cycles_kept}
use Rattle.lower.proofs.Names.{freeze_events, freezing}
use Rattle.task_ast.specs.Tree as t
use Rattle.array_versions.specs.Program as word

-- an end within an allowance and, where it leaves, the entries
abbrev Within : Places → ℕ → End → ℕ → Type 0
Within p most e n = n ≤ most + entry_cycles p e

-- ---- a transition leaves

-- neither behind the last step, nor by giving a word, nor short
abbrev Leaves : End → Type 0
Leaves (GoesOn s) = ⊥
Leaves (Jumps to s) = Unit {0}
Leaves (Gives v s) = ⊥
Leaves Short = ⊥
Leaves Strays = Unit {0}
Leaves Broken = Unit {0}

leaves_pay : (p : Places) (e : End) (n most : ℕ) → Leaves e → n ≤ most + 26 * length p.privates → Within p most e n
leaves_pay p (GoesOn s) n most l h = absurd l
leaves_pay p (Gives v s) n most l h = absurd l
leaves_pay p Short n most l h = absurd l
leaves_pay p e n most l h = h

-- where an address isn't that of a word, what stands behind is not come to
placed_leaves : (c : Bool) (b : Behaviour) (next : WordState → Behaviour) → Leaves (then_on b next).end → Leaves (then_on (if c then b else strays) next).end
placed_leaves true b next h = h
placed_leaves false b next h = tt

entries_leave : (count list : ℕ) (runs : List Run) (q : Program) → ((s : WordState) → Leaves (behaviour q s).end) → (s : WordState)
    → Leaves (behaviour (joined (entries count list runs) q) s).end
entries_leave count list [] q h s = h s
entries_leave count list (x ∷ more) q h s =
    let a = 6 * s.fram count + list in
    let next = behaviour (joined (entries count list more) q) in
    let b = goes_on _ _ in
    placed_leaves (is_place count) _ next (placed_leaves (is_place a) _ next (placed_leaves (is_place (a + 2)) _ next
    (placed_leaves (is_place (a + 4)) b next (entries_leave count list more q h _))))

jumped_leaves : (even : Bool) (to : ℕ) (s : WordState) → Leaves (then_on (if even then behaves [] (Jumps to s) else broken) (behaviour nothing)).end
jumped_leaves true to s = tt
jumped_leaves false to s = tt

jump_leaves : (to : ℕ) (s : WordState) → Leaves (behaviour (one (jump to)) s).end
jump_leaves to s = jumped_leaves (to % 2 == 0) to s

stored_leaves : (a v : ℕ) (q : Program) → ((s : WordState) → Leaves (behaviour q s).end) → (s : WordState)
    → Leaves (behaviour (step (store_number a v) q) s).end
stored_leaves a v q h s = placed_leaves (is_place a) (goes_on _ _) (behaviour q) (h _)

moved_leaves : (from to : ℕ) (q : Program) → ((s : WordState) → Leaves (behaviour q s).end) → (s : WordState)
    → Leaves (behaviour (step (move_word from to) q) s).end
moved_leaves from to q h s = placed_leaves (is_place from) _ (behaviour q) (placed_leaves (is_place to) (goes_on _ _) (behaviour q) (h _))

frozen_leaves : (events : Bool) (q : Program) → ((s : WordState) → Leaves (behaviour q s).end) → (s : WordState)
    → Leaves (behaviour (joined (if events then one freeze_events else nothing) q) s).end
frozen_leaves true q h s = h _
frozen_leaves false q h s = h s

-- behind the entries: SB, SE where there are events, GATE, the jump
abbrev gated : Places → Program
gated p = step (store_number (word_place p.map Gate) 1) (one (jump p.map.commit.address))

abbrev closing : Places → Program
closing p = step (move_word (word_place p.map Base) (word_place p.map SentBase)) (joined (freezing p) (gated p))

transition_leaves : (p : Places) (task : ℕ) (s : WordState) → Leaves (behaviour (lowered_transition p task) s).end
transition_leaves p task s =
    let tail = joined (entries (word_place p.map ListLength) p.map.list.address (runs_of p.privates)) (closing p) in
    stored_leaves (word_place p.map NextTask) (task % 65536) tail
    (entries_leave (word_place p.map ListLength) p.map.list.address (runs_of p.privates) (closing p)
    (moved_leaves (word_place p.map Base) (word_place p.map SentBase) (joined (freezing p) (gated p))
    (frozen_leaves p.map.runtime.events (gated p)
    (stored_leaves (word_place p.map Gate) 1 (one (jump p.map.commit.address)) (jump_leaves p.map.commit.address))))) s

entries_cycles : (count list : ℕ) (runs : List Run) → cycles_of (entries count list runs) ≡ 26 * length runs
entries_cycles count list [] = refl
entries_cycles count list (x ∷ more) = let l = entries_cycles count list more in omega (arith, l)

transition_spends : (p : Places) (task : ℕ) (s : WordState) → Within p 100 (behaviour (lowered_transition p task) s).end (spent (lowered_transition p task) s)
transition_spends p task s =
    let a = entries_cycles (word_place p.map ListLength) p.map.list.address (runs_of p.privates) in
    let few = runs_are_few p.privates in
    let l = joined_cycles (entries (word_place p.map ListLength) p.map.list.address (runs_of p.privates)) (closing p) in
    let k = ways_keep_to_cycles (lowered_transition p task) s in
    let last = joined_cycles (freezing p) (gated p) in
    let frozen = freezing_costs p in
    leaves_pay p (behaviour (lowered_transition p task) s).end (spent (lowered_transition p task) s) 100 (transition_leaves p task s)
    (omega (arith, a, few, l, k, last, frozen))

-- ---- parts one behind the other

-- of two parts the second is paid for where the first goes on
both : (p : Places) (e : End) (f : WordState → Behaviour) (cost : WordState → ℕ) (n most more : ℕ) → Within p most e n
    → ((s : WordState) → Within p more (f s).end (cost s))
    → Within p (most + more) (on_end e f).end (n + spent_on e cost)
both p (GoesOn s) f cost n most more a h = let b = h s in omega (arith, a, b)
both p e f cost n most more a h = omega (arith, a)

joined_spends : (p : Places) (a b : Program) (most more : ℕ) (s : WordState) → Within p most (behaviour a s).end (spent a s)
    → ((s : WordState) → Within p more (behaviour b s).end (spent b s))
    → Within p (most + more) (behaviour (joined a b) s).end (spent (joined a b) s)
joined_spends p a b most more s h k =
    let l = both p (behaviour a s).end (behaviour b) (spent b) (spent a s) most more h k in
    subst (λ r. Within p (most + more) r.end (spent (joined a b) s)) (sym (joined_go_on a b s)) (omega (arith, l, joined_spend a b s))

-- all that has no transition keeps to its cycles
plain : (p : Places) (q : Program) (most : ℕ) (s : WordState) → cycles_of q ≤ most → Within p most (behaviour q s).end (spent q s)
plain p q most s h = let k = ways_keep_to_cycles q s in omega (arith, h, k)

-- a step alone
alone : (p : Places) (first : Step) (most : ℕ) (s : WordState) → Within p most (step_behaviour first s).end (step_spent first s)
    → Within p most (behaviour (one first) s).end (spent (one first) s)
alone p first most s h = by (step_behaviour first s).end h
  where
    by : (e : End) → Within p most e (step_spent first s) → Within p most (on_end e (behaviour nothing)).end (step_spent first s + spent_on e (spent nothing))
    by (GoesOn v) h = omega (arith, h)
    by e h = omega (arith, h)

-- ---- turns

-- the turns of a loop by one of them
turns_few : (m most few : ℕ) → most ≤ few → m * (15 + most) ≤ m * (40 + few)
turns_few zero most few h = omega arith
turns_few (suc m) most few h = let more = turns_few m most few h in omega (arith, more, h)

turns_spend : (p : Places) (most m n k : ℕ) (run : WordState → Behaviour) (cost : WordState → ℕ) (s : WordState)
    → ((v : WordState) → Within p most (run v).end (cost v))
    → Within p (m * (40 + most)) (turns m n k run s).end (turns_spent m n k run cost s)
turns_spend p most zero n k run cost s h = omega arith
turns_spend p most (suc m) n k run cost s h =
    let v = with_local n k s in
    let a = both p (run v).end (turns m n (k + 1) run) (turns_spent m n (k + 1) run cost) (15 + cost v) (15 + most) (m * (40 + most))
    (let b = h v in omega (arith, b)) (λ u. turns_spend p most m n (k + 1) run cost u h) in
    omega (arith, a)

-- ---- tests

-- a way and what it spends
abbrev Spends : Places → ℕ → (WordState → Behaviour) → (WordState → ℕ) → Type 0
Spends p most run cost = (s : WordState) → Within p most (run s).end (cost s)

either_spends : (p : Places) (c : Bool) (x y : Behaviour) (m n a b : ℕ) → Within p a x.end m → Within p b y.end n
    → Within p (max a b) (if c then x else y).end (if c then m else n)
either_spends p true x y m n a b h k = omega (arith, h)
either_spends p false x y m n a b h k = omega (arith, k)

top_spends : (p : Places) (most : ℕ) (vs : List ℕ) (run : ℕ → List ℕ → Behaviour) (cost : ℕ → List ℕ → ℕ)
    → ((v : ℕ) (us : List ℕ) → Within p most (run v us).end (cost v us)) → Within p most (with_top vs run).end (top_spent vs cost)
top_spends p most [] run cost h = omega arith
top_spends p most (v ∷ vs) run cost h = h v vs

-- what is spent beside
beside : (p : Places) (e : End) (more most n : ℕ) → Within p most e n → Within p (more + most) e (more + n)
beside p e more most n h = omega (arith, h)

test_spends : (p : Places) (c : Test) (ra rb : WordState → Behaviour) (ca cb : WordState → ℕ) (a b : ℕ) → Spends p a ra ca → Spends p b rb cb
    → Spends p (test_cycles c + max a b) (tested c ra rb) (test_spent c ca cb)
test_spends p (word.holds q) ra rb ca cb a b f g s =
    let k = both p (behaviour q s).end (way_by_top ra rb) (λ v. 8 + spent_by_top ca cb v) (spent q s) (cycles_of q) (8 + max a b)
    (plain p q (cycles_of q) s (omega arith)) (λ v.
    beside p (way_by_top ra rb v).end 8 (max a b) (spent_by_top ca cb v) (top_spends p (max a b) v.stack _ _ (λ x us.
    let u = with_stack us v in either_spends p (is_true x) (ra u) (rb u) (ca u) (cb u) a b (f u) (g u)))) in
    omega (arith, k)
test_spends p (word.compares op q) ra rb ca cb a b f g s =
    let k = both p (behaviour q s).end (way_by_two op ra rb) (λ v. 10 + spent_by_two op ca cb v) (spent q s) (cycles_of q) (10 + max a b)
    (plain p q (cycles_of q) s (omega arith)) (λ v.
    beside p (way_by_two op ra rb v).end 10 (max a b) (spent_by_two op ca cb v) (top_spends p (max a b) v.stack _ _ (λ y xs.
    top_spends p (max a b) xs _ _ (λ x us.
    let u = with_stack us v in either_spends p (compare_words op x y) (ra u) (rb u) (ca u) (cb u) a b (f u) (g u))))) in
    omega (arith, k)
test_spends p (word.both c d) ra rb ca cb a b f g s =
    let most = test_cycles d + max a b in
    let k = test_spends p c (tested d ra rb) rb (test_spent d ca cb) cb most b (test_spends p d ra rb ca cb a b f g) g s in
    omega (arith, k)
test_spends p (word.either c d) ra rb ca cb a b f g s =
    let most = test_cycles d + max a b in
    let k = test_spends p c ra (tested d ra rb) ca (test_spent d ca cb) a most f (test_spends p d ra rb ca cb a b f g) s in
    omega (arith, k)
test_spends p (word.fails c) ra rb ca cb a b f g s = let k = test_spends p c rb ra cb ca b a g f s in omega (arith, k)

-- ---- statements

module _ (known : List Summary) (rs : List Program) (cheap : BodiesKeep known rs) where
  mutual
    statement_spends : (p : Places) (x : CheckedStatement) (w : WordState)
        → Within p (statement_price known cycles_column x) (behaviour (lowered_statement p rs x) w).end (spent (lowered_statement p rs x) w)
    statement_spends p (t.declare of x None) w = omega arith
    statement_spends p (t.declare of x (Some e)) w = plain p (assignment p rs x.variable e) _ w (assignment_keeps known rs cheap p 0 x.variable e).1
    statement_spends p (t.assign x e) w =
        plain p (scalar_assignment p rs x.word_type x.variable e) _ w (scalar_keeps known rs cheap p 0 x.word_type x.variable e).1
    statement_spends p (t.store x index e) w = plain p (element_assignment p rs x.variable index e) _ w (element_keeps known rs cheap p 0 x.variable index e).1
    statement_spends p (t.choose choice) w = let a = choice_spends p choice w in omega (arith, a)
    statement_spends p (t.loop x from tested below stepped body) w =
        let n = loop_local p x.variable in
        let turn = lowered_block p rs body in
        let a = turns_spend p (block_price known cycles_column body) (below - from) n from (behaviour turn) (spent turn) w (λ v. block_spends p body v) in
        alone p (repeat n from below turn) _ w (omega (arith, a))
    statement_spends p (t.emit e) w = plain p (emission p rs e) _ w (emission_keeps known rs cheap p 0 e).1
    statement_spends p (t.give at e) w = plain p (joined (lowered_expression p rs e) (one give)) _ w (give_keeps known rs cheap p 0 e).1
    statement_spends p (t.transition at task) w = transition_spends p task.task w

    -- with a branch past what isn't taken
    choice_spends : (p : Places) (c : CheckedChoice) (w : WordState)
        → Within p (conditions_price known cycles_column c + blocks_price known cycles_column c + 3) (behaviour (lowered_choice p rs c) w).end
        (spent (lowered_choice p rs c) w)
    choice_spends p t.nothing w = omega arith
    choice_spends p (t.otherwise block) w = let a = block_spends p block w in omega (arith, a)
    choice_spends p (t.test e block more) w =
        let taken = lowered_block p rs block in
        let otherwise = lowered_choice p rs more in
        let a = block_price known cycles_column block + 3 in
        let b = conditions_price known cycles_column more + blocks_price known cycles_column more + 3 in
        let k = alone p (choose (lowered_test p rs e) taken otherwise) (test_cycles (lowered_test p rs e) + max a b) w
        (test_spends p (lowered_test p rs e) (behaviour taken) (behaviour otherwise) (λ v. spent taken v + 3) (spent otherwise) a b
        (λ v. let r = block_spends p block v in omega (arith, r)) (λ v. choice_spends p more v) w) in
        omega (arith, k, test_cycles_kept known rs cheap p e)

    block_spends : (p : Places) (b : CheckedBlock) (w : WordState)
        → Within p (block_price known cycles_column b) (behaviour (lowered_block p rs b) w).end (spent (lowered_block p rs b) w)
    block_spends p t.end w = omega arith
    block_spends p (t.step x more) w =
        joined_spends p (lowered_statement p rs x) (lowered_block p rs more) (statement_price known cycles_column x) (block_price known cycles_column more) w
        (statement_spends p x w) (λ s. block_spends p more s)

pub blocks_keep_to_cycles : BlocksKeepToCycles
blocks_keep_to_cycles known rs cheap p block w = block_spends known rs cheap p block w

-- ---- bodies of functions: all their cycles, where there is no transition

both_parts : (a b : Bool) → (a && b) ≡ true → (a ≡ true) × (b ≡ true)
both_parts a b h = and_parts a b h

module _ (known : List Summary) (rs : List Program) (cheap : BodiesKeep known rs) (p : Places) where
  mutual
    statement_cycles : (x : CheckedStatement) → statement_ends false x ≡ true
        → cycles_of (lowered_statement p rs x) ≤ statement_price known cycles_column x
    statement_cycles (t.declare of x None) h = omega arith
    statement_cycles (t.declare of x (Some e)) h = (assignment_keeps known rs cheap p 0 x.variable e).1
    statement_cycles (t.assign x e) h = (scalar_keeps known rs cheap p 0 x.word_type x.variable e).1
    statement_cycles (t.store x index e) h = (element_keeps known rs cheap p 0 x.variable index e).1
    statement_cycles (t.choose choice) h = let a = choice_cycles choice h in omega (arith, a)
    statement_cycles (t.loop x from tested below stepped body) h =
        let turn = block_cycles body h in
        let few = turns_few (below - from) (cycles_of (lowered_block p rs body)) (block_price known cycles_column body) turn in
        omega (arith, few)
    statement_cycles (t.emit e) h = (emission_keeps known rs cheap p 0 e).1
    statement_cycles (t.give at e) h = (give_keeps known rs cheap p 0 e).1
    statement_cycles (t.transition at task) h = absurd (let never : false ≡ true = h in cc)

    -- with a branch past what isn't taken
    choice_cycles : (c : CheckedChoice) → choice_ends false c ≡ true
        → cycles_of (lowered_choice p rs c) ≤ conditions_price known cycles_column c + blocks_price known cycles_column c + 3
    choice_cycles t.nothing h = omega arith
    choice_cycles (t.otherwise block) h = let a = block_cycles block h in omega (arith, a)
    choice_cycles (t.test e block more) h =
        let parts = both_parts (block_ends false block) (choice_ends false more) h in
        let taken = block_cycles block parts.0 in
        let otherwise = choice_cycles more parts.1 in
        let test = test_cycles_kept known rs cheap p e in
        omega (arith, taken, otherwise, test)

    block_cycles : (b : CheckedBlock) → block_ends false b ≡ true → cycles_of (lowered_block p rs b) ≤ block_price known cycles_column b
    block_cycles t.end h = omega arith
    block_cycles (t.step x more) h =
        let parts = both_parts (statement_ends false x) (block_ends false more) h in
        let first = statement_cycles x parts.0 in
        let others = block_cycles more parts.1 in
        let l = joined_cycles (lowered_statement p rs x) (lowered_block p rs more) in
        omega (arith, first, others, l)

-- a function where it stands keeps to its own price, and one that stands nowhere has no body
body_keeps : (p : Places) (known : List Summary) (rs : List Program) (cheap : BodiesKeep known rs) (at : Option RoutinePlace) (f : CheckedFunction)
    → block_ends false f.body ≡ true → cycles_of (body_at p at rs f.body) ≤ block_price known cycles_column f.body
body_keeps p known rs cheap None f h = omega arith
body_keeps p known rs cheap (Some r) f h = block_cycles known rs cheap (routine_places p r) f.body h

-- one more function
one_more_keeps : (p : Places) (known : List Summary) (rs : List Program) (f : CheckedFunction) → length known ≡ length rs → BodiesKeep known rs
    → block_ends false f.body ≡ true → BodiesKeep (known ++ function_summary known f ∷ []) (rs ++ routine_body p rs f ∷ [])
one_more_keeps p known rs f same cheap h i =
    ⊎_elim
    (λ below. subst (λ n. cycles_of (get_or (rs ++ body ∷ []) i nothing) ≤ n) (sym (price_front (omega (arith, below, same))))
    (subst (λ q. cycles_of q ≤ called_price known cycles_column i) (sym (in_front rs body nothing i below)) (cheap i)))
    (λ past. ⊎_elim
    (λ at. subst (λ n. cycles_of (get_or (rs ++ body ∷ []) i nothing) ≤ n) (sym (price_end (at ∙ sym same)))
    (subst (λ q. cycles_of q ≤ block_price known cycles_column f.body) (sym (at_end rs body nothing i at))
    (body_keeps p known rs cheap (routine_of p (length rs)) f h)))
    (λ differ. subst (λ q. cycles_of q ≤ called_price more cycles_column i)
    (sym (get_or_past (rs ++ body ∷ []) i nothing (let long = length-append rs (body ∷ []) in omega (arith, long, past, differ)))) (omega arith))
    (cases_eq i (length rs)))
    (cases_lt i (length rs))
  where
    body : Program
    body = routine_body p rs f

    more : List Summary
    more = known ++ function_summary known f ∷ []

    prices : List ℕ
    prices = map (body_price cycles_column.body) known

    pushed : map (body_price cycles_column.body) more ≡ prices ++ block_price known cycles_column f.body ∷ []
    pushed = map-append (body_price cycles_column.body) known (function_summary known f ∷ [])

    count : length prices ≡ length known
    count = length-map known (body_price cycles_column.body)

    price_front : i < length known → called_price more cycles_column i ≡ called_price known cycles_column i
    price_front l = ap (λ ns. get_or ns i 0) pushed ∙ in_front prices (block_price known cycles_column f.body) 0 i (omega (arith, l, count))

    price_end : i ≡ length known → called_price more cycles_column i ≡ block_price known cycles_column f.body
    price_end e = ap (λ ns. get_or ns i 0) pushed ∙ at_end prices (block_price known cycles_column f.body) 0 i (e ∙ sym count)

all_keep : (p : Places) (known : List Summary) (rs : List Program) (rest : List CheckedFunction) → length known ≡ length rs → BodiesKeep known rs
    → All (λ f. block_ends false f.body ≡ true) rest → BodiesKeep (answers_from function_summary known rest) (answers_from (routine_body p) rs rest)
all_keep p known rs [] same cheap h = cheap
all_keep p known rs (f ∷ rest) same cheap h =
    all_keep p (known ++ function_summary known f ∷ []) (rs ++ routine_body p rs f ∷ []) rest
    (one_longer known (function_summary known f) (length rs) same ∙ sym (one_longer rs (routine_body p rs f) (length rs) refl))
    (one_more_keeps p known rs f same cheap (All-head (λ f. block_ends false f.body ≡ true) f rest h))
    (All-tail (λ f. block_ends false f.body ≡ true) f rest h)

pub routines_keep : RoutinesKeep
routines_keep p fs h = all_keep p [] [] fs refl (λ i. omega arith) h
