-- The bodies of the functions that a task reaches call those in front of them, and cost what is computed of them.
use Rattle.std.proofs.Common.{◌≡◌, ℕ, zero, suc, ◌+◌, ◌<◌, ◌≤◌, ◌==◌, ◌++◌, Bool, true, false, if◌then◌else◌, List, [], ◌∷◌, Option, Some, None, length}
use Rattle.std.proofs.Common.{map, take, get_or, add-one, refl, sym, ap, ap₂, subst, ◌∙◌, ◌⊎◌, ⊎_elim, arith}
use Rattle.std.specs.Prelude.{slice_get, slice_index_or}
use Rattle.std.specs.Option.{option_map}
use Rattle.std.proofs.lemmas.Bool.{cases_lt}
use Rattle.std.proofs.lemmas.Bool.Decides.{nat_tests}
use Rattle.std.proofs.lemmas.List.{length-take, get_or_past, get_or-take}
use Rattle.std.proofs.lemmas.Option.{same_Some, none-some, slice_get-map, slice_get-get_or, slice_get_within, get_or_from_slice_get}
use Rattle.task_ast.specs.Paths.{CheckedBlock, CheckedFunction}
use Rattle.task_ast.proofs.Interface.{answer_of, answers_length, answers_take}
use Rattle.array_versions.specs.Program.{Program, nothing}
use Rattle.memory_map.specs.declared.place.RoutinePlace.{RoutinePlace}
use Rattle.memory_map.specs.Spots.{Places, routine_of, routine_places}
use Rattle.lower.specs.Lowered.{bare_body, bare_routine, body_at as body_in, lowered_block, routine_body, routine_bodies}
use Rattle.lower.proofs.Interface.{FillsIn, block_filled}
use Rattle.code_paths.specs.Paths.{capped}
use Rattle.code_costs.specs.Dearest.{block_most}
use Rattle.dearest_ways.specs.declared.calls.CallCost.{CallCost}
use Rattle.dearest_ways.specs.Calls.{cost_at, CallsCost}
use Rattle.dearest_ways.specs.Ways.{bare}
use Rattle.dearest_ways.proofs.Interface.{BodiesCost, filled_cost}
use Rattle.source_needs.specs.Bodies.{routine_costs, AreBodies}
use Rattle.source_needs.proofs.Ordered.{Ascends, address_from, in_front, stands_in_front, is_among}

-- ---- lists

get_taken : {A : Type 0} (xs : List A) (i m : ℕ) (x : A) → slice_get (take i xs) m ≡ Some x → (m < i) × (slice_get xs m ≡ Some x)
get_taken xs zero m x e = absurd (none-some x e)
get_taken [] (suc i) m x e = absurd (none-some x e)
get_taken (y ∷ xs) (suc i) zero x e = (omega arith, e)
get_taken (y ∷ xs) (suc i) (suc m) x e = let rest = get_taken xs i m x e in let low = rest.0 in (omega (arith, low), rest.1)

taken_get : {A : Type 0} (xs : List A) (i m : ℕ) → m < i → slice_get (take i xs) m ≡ slice_get xs m
taken_get xs zero m l = absurd (let none : ⊥ = omega (arith, l) in none)
taken_get [] (suc i) m l = refl
taken_get (y ∷ xs) (suc i) zero l = refl
taken_get (y ∷ xs) (suc i) (suc m) l = taken_get xs i m (omega (arith, l))

ascend_taken : (k at : ℕ) (rs : List RoutinePlace) (i : ℕ) → Ascends k at rs → Ascends k at (take i rs)
ascend_taken k at rs zero h = tt
ascend_taken k at [] (suc i) h = tt
ascend_taken k at (r ∷ rs) (suc i) h = (h.0, h.1, ascend_taken (suc r.function) (suc r.code.address) rs i h.2)

-- ---- bodies by where their code begins

abbrev pub body_at : List RoutinePlace → List Program → ℕ → Program
body_at [] bodies entry = nothing
body_at (r ∷ rs) [] entry = nothing
body_at (r ∷ rs) (b ∷ bodies) entry = if r.code.address == entry then b else body_at rs bodies entry

cost_by : (c : Bool) (b rest : Program) (n : ℕ) → n ≡ capped (block_most [] rest 0)
    → (if c then capped (block_most [] b 0) else n) ≡ capped (block_most [] (if c then b else rest) 0)
cost_by true b rest n e = refl
cost_by false b rest n e = e

-- they cost what is computed of them
pub bodies_cost : (rs : List RoutinePlace) (bodies : List Program) → BodiesCost (routine_costs rs bodies) (body_at rs bodies)
bodies_cost [] bodies entry = refl
bodies_cost (r ∷ rs) [] entry = refl
bodies_cost (r ∷ rs) (b ∷ bodies) entry =
    cost_by (r.code.address == entry) b (body_at rs bodies entry) (cost_at (routine_costs rs bodies) entry) (bodies_cost rs bodies entry)

-- the body of each where its code begins
pub found : (k at : ℕ) (rs : List RoutinePlace) (bodies : List Program) → Ascends k at rs → (m : ℕ) (r : RoutinePlace) (b : Program) → slice_get rs m ≡ Some r
    → slice_get bodies m ≡ Some b → body_at rs bodies r.code.address ≡ b
found k at [] bodies h m r b e f = absurd (none-some r e)
found k at (x ∷ rs) [] h m r b e f = absurd (none-some b f)
found k at (x ∷ rs) (y ∷ bodies) h zero r b e f =
    let place : x.code.address ≡ r.code.address = ap (λ (p : RoutinePlace). p.code.address) (same_Some x r e) in
    let here : (x.code.address == r.code.address) ≡ true = grind (arith, nat_tests, place) in
    ap (λ c. if c then y else body_at rs bodies r.code.address) here ∙ same_Some y b f
found k at (x ∷ rs) (y ∷ bodies) h (suc m) r b e f =
    let later = address_from (suc x.function) (suc x.code.address) rs h.2 m r e in
    let apart : (x.code.address == r.code.address) ≡ false = grind (arith, nat_tests, later) in
    ap (λ c. if c then y else body_at rs bodies r.code.address) apart ∙ found (suc x.function) (suc x.code.address) rs bodies h.2 m r b e f

-- nothing where none begins
pub none_found : (rs : List RoutinePlace) (bodies : List Program) (entry : ℕ)
    → ((m : ℕ) (r : RoutinePlace) → slice_get rs m ≡ Some r → r.code.address ≡ entry → ⊥) → body_at rs bodies entry ≡ nothing
none_found [] bodies entry elsewhere = refl
none_found (x ∷ rs) [] entry elsewhere = refl
none_found (x ∷ rs) (y ∷ bodies) entry elsewhere =
    let differs : x.code.address ≡ entry → ⊥ = elsewhere 0 x refl in
    let apart : (x.code.address == entry) ≡ false = grind (arith, nat_tests, differs) in
    ap (λ c. if c then y else body_at rs bodies entry) apart ∙ none_found rs bodies entry (λ m r e. elsewhere (suc m) r e)

-- ---- costs, one more

costs_taken : (rs : List RoutinePlace) (bodies : List Program) (i : ℕ) → take i (routine_costs rs bodies) ≡ routine_costs (take i rs) (take i bodies)
costs_taken rs bodies zero = refl
costs_taken [] bodies (suc i) = refl
costs_taken (r ∷ rs) [] (suc i) = refl
costs_taken (r ∷ rs) (b ∷ bodies) (suc i) =
    ap (λ (costs : List CallCost). record { entry = r.code.address; cycles = capped (block_most [] b 0) } ∷ costs) (costs_taken rs bodies i)

cost_more : (rs : List RoutinePlace) (bodies : List Program) (i : ℕ) (r : RoutinePlace) (b : Program) → slice_get rs i ≡ Some r
    → slice_get bodies i ≡ Some b
    → take (suc i) (routine_costs rs bodies)
    ≡ take i (routine_costs rs bodies) ++ record { entry = r.code.address; cycles = capped (block_most [] b 0) } ∷ []
cost_more [] bodies i r b e f = absurd (none-some r e)
cost_more (x ∷ rs) [] i r b e f = absurd (none-some b f)
cost_more (x ∷ rs) (y ∷ bodies) zero r b e f =
    ap₂ (λ (p : RoutinePlace) q. record { entry = p.code.address; cycles = capped (block_most [] q 0) } ∷ []) (same_Some x r e) (same_Some y b f)
cost_more (x ∷ rs) (y ∷ bodies) (suc i) r b e f =
    ap (λ (costs : List CallCost). record { entry = x.code.address; cycles = capped (block_most [] y 0) } ∷ costs) (cost_more rs bodies i r b e f)

pub costs_step : (rs : List RoutinePlace) (bodies : List Program) (i : ℕ) (d : RoutinePlace) (q : Program) (old new : List CallCost) (n : ℕ)
    → i < length rs → slice_get bodies i ≡ Some q → old ≡ take i (routine_costs rs bodies) → n ≡ capped (block_most [] q 0)
    → new ≡ old ++ record { entry = (get_or rs i d).code.address; cycles = n } ∷ [] → new ≡ take (i + 1) (routine_costs rs bodies)
costs_step rs bodies i d q old new n inside own known cycles pushed =
    let r = get_or rs i d in
    pushed
    ∙ ap₂ (λ (costs : List CallCost) m. costs ++ record { entry = r.code.address; cycles = m } ∷ []) known cycles
    ∙ sym (cost_more rs bodies i r q (slice_get-get_or rs i d inside) own) ∙ ap (λ k. take k (routine_costs rs bodies)) (sym (add-one i))

pub costs_end : (rs : List RoutinePlace) (bodies : List Program) (i : ℕ) → length rs ≤ i → take i (routine_costs rs bodies) ≡ routine_costs rs bodies
costs_end [] bodies zero l = refl
costs_end [] bodies (suc i) l = refl
costs_end (r ∷ rs) bodies zero l = absurd (let none : ⊥ = omega (arith, l) in none)
costs_end (r ∷ rs) [] (suc i) l = refl
costs_end (r ∷ rs) (b ∷ bodies) (suc i) l =
    ap (λ (costs : List CallCost). record { entry = r.code.address; cycles = capped (block_most [] b 0) } ∷ costs) (costs_end rs bodies i (omega (arith, l)))

-- ---- the functions of a task

module _ (p : Places) (fs : List CheckedFunction) (k at : ℕ) (ascend : Ascends k at p.routines) (high : 0 < at)
    (own : (j : ℕ) (r : RoutinePlace) → slice_get p.routines j ≡ Some r → routine_of p r.function ≡ Some r) where
  abbrev known : List Program
  known = routine_bodies p fs

  abbrev its_body : RoutinePlace → Program
  its_body r = slice_index_or known r.function nothing

  abbrev pub bodies : List Program
  bodies = map its_body p.routines

  body_is : (m : ℕ) (r : RoutinePlace) → slice_get p.routines m ≡ Some r → slice_get bodies m ≡ Some (its_body r)
  body_is m r e = slice_get-map its_body p.routines m ∙ ap (option_map its_body) e

  -- no code begins at 0
  not_at_zero : (rs : List RoutinePlace) → Ascends k at rs → (m : ℕ) (r : RoutinePlace) → slice_get rs m ≡ Some r → r.code.address ≡ 0 → ⊥
  not_at_zero rs h m r e zero_is = let from = address_from k at rs h m r e in omega (arith, from, high, zero_is)

  -- all of them are known to the task
  task_fills : FillsIn p known (body_at p.routines bodies)
  task_fills = record {
    none = none_found p.routines bodies 0 (not_at_zero p.routines ascend);
    routines = λ i r is.
        let there = is_among p.routines i r is in
        found k at p.routines bodies ascend there.index r (its_body r) there.at (body_is there.index r there.at)
        ∙ ap (λ n. slice_index_or known n nothing) there.is;
  }

  pub task_costs : (b : CheckedBlock) → CallsCost (routine_costs p.routines bodies) (lowered_block p known b)
  task_costs b =
      subst (CallsCost (routine_costs p.routines bodies)) (block_filled p [] known (body_at p.routines bodies) task_fills b)
      (filled_cost (routine_costs p.routines bodies) (body_at p.routines bodies) (bodies_cost p.routines bodies) (lowered_block p [] b))

  -- and those in front to each of them
  module _ (i : ℕ) (q : RoutinePlace) (stands : slice_get p.routines i ≡ Some q) where
    abbrev front : List Program
    front = routine_bodies p (take q.function fs)

    abbrev before : List RoutinePlace
    before = take i p.routines

    front_is : (j : ℕ) → j < q.function → slice_index_or known j nothing ≡ slice_index_or front j nothing
    front_is j low =
        sym (get_or-take q.function known j nothing low)
        ∙ ap (λ (ps : List Program). slice_index_or ps j nothing) (answers_take (routine_body p) fs q.function)

    front_ends : (j : ℕ) → q.function ≤ j → slice_index_or front j nothing ≡ nothing
    front_ends j up =
        let many = answers_length (routine_body p) [] (take q.function fs) in
        let few = length-take q.function fs in
        get_or_past front j nothing (omega (arith, up, many, few))

    -- one that stands in front, and one that doesn't
    earlier : (m : ℕ) (r : RoutinePlace) → slice_get p.routines m ≡ Some r → m < i
        → body_at before (take i bodies) r.code.address ≡ slice_index_or front r.function nothing
    earlier m r e low =
        found k at before (take i bodies) (ascend_taken k at p.routines i ascend) m r (its_body r) (taken_get p.routines i m low ∙ e)
        (taken_get bodies i m low ∙ body_is m r e)
        ∙ front_is r.function (in_front k at p.routines ascend m i r q low e stands).0

    later : (m : ℕ) (r : RoutinePlace) → slice_get p.routines m ≡ Some r → i ≤ m
        → body_at before (take i bodies) r.code.address ≡ slice_index_or front r.function nothing
    later m r e up =
        none_found before (take i bodies) r.code.address others ∙ sym (front_ends r.function further)
      where
        others : (n : ℕ) (x : RoutinePlace) → slice_get before n ≡ Some x → x.code.address ≡ r.code.address → ⊥
        others n x f same =
            let there = get_taken p.routines i n x f in
            let low = there.0 in
            let less = (in_front k at p.routines ascend n m x r (omega (arith, low, up)) there.1 e).1 in omega (arith, less, same)

        further : q.function ≤ r.function
        further = ⊎_elim (λ (less : r.function < q.function). below less) (λ (more : q.function ≤ r.function). more) (cases_lt r.function q.function)
          where
            below : r.function < q.function → q.function ≤ r.function
            below less = let low = stands_in_front k at p.routines ascend m i r q e stands less in absurd (let none : ⊥ = omega (arith, low, up) in none)

    routine_fills : FillsIn (routine_places p q) front (body_at before (take i bodies))
    routine_fills = record {
      none = none_found before (take i bodies) 0 (not_at_zero before (ascend_taken k at p.routines i ascend));
      routines = λ j r is.
          let there = is_among p.routines j r is in
          ⊎_elim (λ (low : there.index < i). earlier there.index r there.at low) (λ (up : i ≤ there.index). later there.index r there.at up)
          (cases_lt there.index i)
          ∙ ap (λ n. slice_index_or front n nothing) there.is;
    }

    -- the body of each is that of its function
    body_made : (f : CheckedFunction) → slice_get fs q.function ≡ Some f → its_body q ≡ lowered_block (routine_places p q) front f.body
    body_made f e =
        let inside = slice_get_within fs q.function f e in
        let many = answers_length (routine_body p) [] (take q.function fs) in
        let few = length-take q.function fs in
        let count : length front ≡ q.function = omega (arith, many, few, inside) in
        get_or_from_slice_get known q.function (routine_body p front f) nothing (answer_of (routine_body p) fs q.function f e)
        ∙ ap (λ o. body_in p o front f.body) (ap (routine_of p) count ∙ own i q stands)

    body_absent : slice_get fs q.function ≡ None → its_body q ≡ nothing
    body_absent e = get_or_past known q.function nothing
        (let past = answers_length (routine_body p) [] fs in let high = none_past fs q.function e in omega (arith, past, high))
      where
        none_past : (gs : List CheckedFunction) (n : ℕ) → slice_get gs n ≡ None → length gs ≤ n
        none_past [] n e = omega arith
        none_past (g ∷ gs) zero e = absurd (none-some g (sym e))
        none_past (g ∷ gs) (suc n) e = let rest = none_past gs n e in omega (arith, rest)

    abbrev in_front_costs : List CallCost
    in_front_costs = routine_costs before (take i bodies)

    routine_cost : CallsCost in_front_costs (its_body q)
    routine_cost = by (slice_get fs q.function) refl
      where
        by : (o : Option CheckedFunction) → slice_get fs q.function ≡ o → CallsCost in_front_costs (its_body q)
        by (Some f) e =
            let made = block_filled (routine_places p q) [] front (body_at before (take i bodies)) routine_fills f.body in
            subst (CallsCost in_front_costs) (made ∙ sym (body_made f e))
            (filled_cost in_front_costs (body_at before (take i bodies)) (bodies_cost before (take i bodies)) (lowered_block (routine_places p q) [] f.body))
        by None e = subst (CallsCost in_front_costs) (sym (body_absent e)) tt

    -- without what it calls it is as it is made
    no_bodies_fill : FillsIn (routine_places p q) [] (λ entry. nothing)
    no_bodies_fill = record { none = refl; routines = λ j r is. sym (get_or_past [] j nothing (omega arith)) }

    routine_bare : bare (its_body q) ≡ bare_routine p fs q
    routine_bare = by (slice_get fs q.function) refl
      where
        by : (o : Option CheckedFunction) → slice_get fs q.function ≡ o → bare (its_body q) ≡ bare_body p q o
        by (Some f) e = ap bare (body_made f e) ∙ block_filled (routine_places p q) front [] (λ entry. nothing) no_bodies_fill f.body
        by None e = ap bare (body_absent e)

  pub task_bare : (b : CheckedBlock) → bare (lowered_block p known b) ≡ lowered_block p [] b
  task_bare b =
      block_filled p known [] (λ entry. nothing) (record { none = refl; routines = λ j r is. sym (get_or_past [] j nothing (omega arith)) }) b

  all_bare : (rs : List RoutinePlace) → ((j : ℕ) (r : RoutinePlace) → slice_get rs j ≡ Some r → bare (its_body r) ≡ bare_routine p fs r)
      → map bare (map its_body rs) ≡ map (bare_routine p fs) rs
  all_bare [] each = refl
  all_bare (r ∷ rs) each = ap₂ (λ (b : Program) bs. b ∷ bs) (each 0 r refl) (all_bare rs (λ j q e. each (suc j) q e))

  pub are_bodies : AreBodies p.routines (map (bare_routine p fs) p.routines) bodies
  are_bodies = record {
    made_of = all_bare p.routines (λ j r e. routine_bare j r e);
    in_front = λ i body e. costs i body e;
  }
    where
      costs : (i : ℕ) (body : Program) → slice_get bodies i ≡ Some body → CallsCost (take i (routine_costs p.routines bodies)) body
      costs i body e = by (slice_get p.routines i) refl
        where
          by : (o : Option RoutinePlace) → slice_get p.routines i ≡ o → CallsCost (take i (routine_costs p.routines bodies)) body
          by (Some q) stands =
              let is : its_body q ≡ body = same_Some (its_body q) body (sym (body_is i q stands) ∙ e) in
              subst (λ costs. CallsCost costs body) (sym (costs_taken p.routines bodies i))
              (subst (CallsCost (routine_costs (take i p.routines) (take i bodies))) is (routine_cost i q stands))
          by None stands = absurd (none-some body (ap (option_map its_body) (sym stands) ∙ sym (slice_get-map its_body p.routines i) ∙ e))
