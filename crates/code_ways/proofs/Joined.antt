-- Ways that are joined: what they cost together.
use Rattle.std.proofs.Common.{◌≡◌, ℕ, zero, suc, ◌+◌, ◌-◌, ◌*◌, ◌^◌, ◌≤◌, min, max, Bool, true, false, nat_lt, if◌then◌else◌, Option, Some, None}
use Rattle.std.proofs.Common.{refl, sym, ap, subst, ◌∙◌, arith}
use Rattle.std.proofs.lemmas.Bool.{ltb-true, ltb-false}
use Rattle.code_paths.specs.Paths.{capped}
use Rattle.code_ways.specs.Ways.{WayValue, WaysValue, ForksValue, both_ways, dearer_way, dearer_of, straight_ways, choice_ways, leaving_ways}
use Rattle.code_ways.specs.Ways.{ways_behind, either_ways, way_turned, turned_ways, all_turns, forked_ways, both_forks, one_of_forks, turned_forks, chosen_ways}
use Rattle.code_ways.specs.Ways.{way_cost, ways_cost, forks_cost, IsThere, AreWaysOf, AreForksOf, most_of, some_way}
use Rattle.code_ways.proofs.Costs as by_cost
use Rattle.code_ways.proofs.Costs.{Costs, ForkCosts, goes_cost, stretch_cost, fork_cost, sum_of, left_behind, more_of}

-- ---- ways by their cycles

abbrev cycles_of : Option WayValue → Option ℕ
cycles_of None = None
cycles_of (Some w) = Some w.cycles

abbrev costs_of : WaysValue → Costs
costs_of w = record { goes = cycles_of w.goes; leaves = way_cost w.leaves 0 }

abbrev fork_costs_of : ForksValue → ForkCosts
fork_costs_of t = record { held = cycles_of t.held; failed = cycles_of t.failed; leaves = way_cost t.leaves 0 }

same_cost : (u : Option WayValue) (n : ℕ) → way_cost u n ≡ goes_cost (cycles_of u) n
same_cost None n = refl
same_cost (Some w) n = refl

same_costs : (w : WaysValue) (n : ℕ) → ways_cost w n ≡ stretch_cost (costs_of w) n
same_costs w n = ap (λ x. max x (way_cost w.leaves 0)) (same_cost w.goes n)

same_fork_costs : (t : ForksValue) (h k : ℕ) → forks_cost t h k ≡ fork_cost (fork_costs_of t) h k
same_fork_costs t h k =
    ap (λ x. max (max x (way_cost t.failed k)) (way_cost t.leaves 0)) (same_cost t.held h)
    ∙ ap (λ x. max (max (goes_cost (cycles_of t.held) h) x) (way_cost t.leaves 0)) (same_cost t.failed k)

-- a sum's cycles
sum_cycles : (u v : Option WayValue) → cycles_of (both_ways u v) ≡ sum_of (cycles_of u) (cycles_of v)
sum_cycles None v = refl
sum_cycles (Some u) None = refl
sum_cycles (Some u) (Some v) = refl

-- the dearer one's
dearer_by : (b : Bool) (v w : WayValue) → nat_lt v.cycles w.cycles ≡ b → (if b then w else v).cycles ≡ max v.cycles w.cycles
dearer_by true v w e = let less = ltb-true v.cycles w.cycles e in omega (arith, less)
dearer_by false v w e = let least = ltb-false v.cycles w.cycles e in omega (arith, least)

dearer_cycles : (v w : WayValue) → (dearer_way v w).cycles ≡ max v.cycles w.cycles
dearer_cycles v w = dearer_by (nat_lt v.cycles w.cycles) v w refl

more_cycles : (u v : Option WayValue) → cycles_of (dearer_of u v) ≡ more_of (cycles_of u) (cycles_of v)
more_cycles None v = refl
more_cycles (Some u) None = refl
more_cycles (Some u) (Some v) = ap Some (dearer_cycles u v)

dearer_cost : (u v : Option WayValue) (n : ℕ) → way_cost (dearer_of u v) n ≡ max (way_cost u n) (way_cost v n)
dearer_cost None v n = omega arith
dearer_cost (Some u) None n = omega arith
dearer_cost (Some u) (Some v) n = let c = dearer_cycles u v in omega (arith, c)

-- ---- whether there is a way

there_first : (u v : Option WayValue) → IsThere u → IsThere (dearer_of u v)
there_first None v t = absurd t
there_first (Some u) None t = t
there_first (Some u) (Some v) t = t

there_second : (u v : Option WayValue) → IsThere v → IsThere (dearer_of u v)
there_second None v t = t
there_second (Some u) None t = absurd t
there_second (Some u) (Some v) t = t

-- what holds of all ways where one of two is there
either_there : (u v : Option WayValue) (G : Type 0) → IsThere (dearer_of u v) → (IsThere u → G) → (IsThere v → G) → G
either_there None v G t f g = g t
either_there (Some u) None G t f g = f t
either_there (Some u) (Some v) G t f g = f t

there_both : (u v : Option WayValue) → IsThere u → IsThere v → IsThere (both_ways u v)
there_both None v s t = absurd s
there_both (Some u) None s t = absurd t
there_both (Some u) (Some v) s t = t

-- ---- one stretch behind another

sum_cost : (u v : Option WayValue) (n : ℕ) → goes_cost (sum_of (cycles_of u) (cycles_of v)) n ≡ way_cost (both_ways u v) n
sum_cost u v n = ap (λ o. goes_cost o n) (sym (sum_cycles u v)) ∙ sym (same_cost (both_ways u v) n)

-- where the second has none that leaves, what would have left there costs no more than what goes on
left_by : (u : Option WayValue) (x l : ℕ) → left_behind (cycles_of u) 0 ≤ x → max x (max l (left_behind (cycles_of u) 0)) ≡ max x (max l 0)
left_by u x l h = over (left_behind (cycles_of u) 0) h
  where
    over : (q : ℕ) → q ≤ x → max x (max l q) ≡ max x (max l 0)
    over q h = omega (arith, h)

left_is : (u w : Option WayValue) (x l : ℕ) → (w ≡ None → left_behind (cycles_of u) 0 ≤ x)
    → max x (max l (left_behind (cycles_of u) (way_cost w 0))) ≡ max x (max l (way_cost (both_ways u w) 0))
left_is None None x l h = refl
left_is None (Some w) x l h = refl
left_is (Some u) None x l h = left_by (Some u) x l (h refl)
left_is (Some u) (Some w) x l h = ap (λ q. max x (max l q)) (at (2 ^ 64 - 1) u.cycles w.cycles)
  where
    at : (m c d : ℕ) → min (c + (d + 0)) m ≡ min (c + d) m + 0
    at m c d = omega arith

-- of a way and a second stretch that goes on
goes_further : (u g : Option WayValue) (n : ℕ) → IsThere g → left_behind (cycles_of u) 0 ≤ way_cost (both_ways u g) n
goes_further None g n t = omega arith
goes_further (Some u) None n t = absurd t
goes_further (Some u) (Some g) n t = at (2 ^ 64 - 1) u.cycles g.cycles n
  where
    at : (m c d n : ℕ) → min (c + 0) m ≤ min (c + d) m + n
    at m c d n = omega arith

first_there : (u v : Option WayValue) → v ≡ None → IsThere (dearer_of u v) → IsThere u
first_there None v e t = subst IsThere e t
first_there (Some u) None e t = t
first_there (Some u) (Some v) e t = tt

behind_cost : (v w : WaysValue) (n x : ℕ) → IsThere (dearer_of w.goes w.leaves) → capped x ≡ capped (ways_cost w n)
    → capped (ways_cost v x) ≡ capped (ways_cost (ways_behind v w) n)
behind_cost v w n x t e =
    let l = way_cost v.leaves 0 in
    let joined = by_cost.behind_by (cycles_of v.goes) (cycles_of w.goes) l (way_cost w.leaves 0) n x (e ∙ ap capped (same_costs w n)) in
    let goes = ap (λ c. max c (max l (left_behind (cycles_of v.goes) (way_cost w.leaves 0)))) (sum_cost v.goes w.goes n) in
    let left = left_is v.goes w.leaves (way_cost (both_ways v.goes w.goes) n) l
    (λ none. goes_further v.goes w.goes n (first_there w.goes w.leaves none t)) in
    let leaves = ap (λ q. max (way_cost (both_ways v.goes w.goes) n) q) (sym (dearer_cost v.leaves (both_ways v.goes w.leaves) 0)) in
    ap capped (same_costs v x) ∙ joined ∙ ap capped (goes ∙ left ∙ leaves)

behind_there : (v w : WaysValue) → IsThere (dearer_of v.goes v.leaves) → IsThere (dearer_of w.goes w.leaves)
    → IsThere (dearer_of (ways_behind v w).goes (ways_behind v w).leaves)
behind_there v w s t =
    let goes = both_ways v.goes w.goes in
    let left = both_ways v.goes w.leaves in
    let leaves = dearer_of v.leaves left in
    either_there v.goes v.leaves (IsThere (dearer_of goes leaves)) s
    (λ on. either_there w.goes w.leaves (IsThere (dearer_of goes leaves)) t
    (λ further. there_first goes leaves (there_both v.goes w.goes on further))
    (λ away. there_second goes leaves (there_second v.leaves left (there_both v.goes w.leaves on away))))
    (λ away. there_second goes leaves (there_first v.leaves left away))

pub behind_are : (f g : ℕ → ℕ) (v w : WaysValue) → AreWaysOf f v → AreWaysOf g w → AreWaysOf (λ n. f (g n)) (ways_behind v w)
behind_are f g v w a b = record {
  some = behind_there v w a.some b.some;
  cost = λ n. a.cost (g n) ∙ behind_cost v w n (g n) b.some (b.cost n);
}

pub straight_are : (c : ℕ) → AreWaysOf (λ n. c + n) (straight_ways (capped c))
straight_are c = record { some = tt; cost = by_cost.straight_are c }

pub choice_are : (k : ℕ) (b : Bool) → AreWaysOf (λ n. n) (choice_ways k b)
choice_are k b = record { some = tt; cost = λ n. omega arith }

pub leaving_are : (c : ℕ) → AreWaysOf (λ n. c) (leaving_ways c)
leaving_are c = record { some = tt; cost = λ n. omega arith }

-- ---- tests

pub forked_are : (f : ℕ → ℕ) (w : WaysValue) → AreWaysOf f w → AreForksOf (λ h k. f (max h k)) (forked_ways w)
forked_are f w a = record {
  some = either_there w.goes w.leaves (IsThere (dearer_of (dearer_of w.goes w.goes) w.leaves)) a.some
      (λ on. there_first (dearer_of w.goes w.goes) w.leaves (there_first w.goes w.goes on))
      (λ away. there_second (dearer_of w.goes w.goes) w.leaves away);
  cost = λ h k. a.cost (max h k) ∙ by w.goes (way_cost w.leaves 0) h k;
}
  where
    by : (o : Option WayValue) (l h k : ℕ) → capped (max (way_cost o (max h k)) l) ≡ capped (max (max (way_cost o h) (way_cost o k)) l)
    by None l h k = omega arith
    by (Some w) l h k = omega arith

-- the second of two tests is asked where the first holds
further_by : (u g k : Option WayValue) (h n t : ℕ) → IsThere (dearer_of g k)
    → left_behind (cycles_of u) 0 ≤ max (way_cost (both_ways u g) h) (max t (way_cost (both_ways u k) n))
further_by u None k h n t s = let c = goes_further u k n s in omega (arith, c)
further_by u (Some g) k h n t s = let c = goes_further u (Some g) h tt in omega (arith, c)

both_cost : (t u : ForksValue) (h k : ℕ) → IsThere (dearer_of (dearer_of u.held u.failed) u.leaves)
    → fork_cost (by_cost.both_of (fork_costs_of t) (fork_costs_of u)) h k ≡ forks_cost (both_forks t u) h k
both_cost t u h k s =
    let l = way_cost t.leaves 0 in
    let left = left_behind (cycles_of t.held) (way_cost u.leaves 0) in
    let asked = both_ways t.held u.failed in
    let failed = more_of (cycles_of t.failed) (sum_of (cycles_of t.held) (cycles_of u.failed)) in
    let one = ap (λ c. max (max c (goes_cost failed k)) (max l left)) (sum_cost t.held u.held h) in
    let held = way_cost (both_ways t.held u.held) h in
    let cycles : failed ≡ cycles_of (dearer_of t.failed asked) =
    ap (λ c. more_of (cycles_of t.failed) c) (sym (sum_cycles t.held u.failed)) ∙ sym (more_cycles t.failed asked) in
    let two = ap (λ c. max (max held c) (max l left))
    (ap (λ o. goes_cost o k) cycles ∙ sym (same_cost (dearer_of t.failed asked) k) ∙ dearer_cost t.failed asked k) in
    let three = left_is t.held u.leaves (max held (max (way_cost t.failed k) (way_cost asked k))) l
    (λ none. further_by t.held u.held u.failed h k (way_cost t.failed k) (first_there (dearer_of u.held u.failed) u.leaves none s)) in
    let four = ap (λ c. max (max held c) (max l (way_cost (both_ways t.held u.leaves) 0))) (sym (dearer_cost t.failed asked k)) in
    let five = ap (λ c. max (max held (way_cost (dearer_of t.failed asked) k)) c) (sym (dearer_cost t.leaves (both_ways t.held u.leaves) 0)) in
    one ∙ two ∙ three ∙ four ∙ five

both_there : (t u : ForksValue) → IsThere (dearer_of (dearer_of t.held t.failed) t.leaves) → IsThere (dearer_of (dearer_of u.held u.failed) u.leaves)
    → IsThere (dearer_of (dearer_of (both_forks t u).held (both_forks t u).failed) (both_forks t u).leaves)
both_there t u s r =
    let held = both_ways t.held u.held in
    let asked = both_ways t.held u.failed in
    let failed = dearer_of t.failed asked in
    let left = both_ways t.held u.leaves in
    let leaves = dearer_of t.leaves left in
    let goal : Type 0 = IsThere (dearer_of (dearer_of held failed) leaves) in
    let on : IsThere failed → goal = λ there. there_first (dearer_of held failed) leaves (there_second held failed there) in
    let away : IsThere leaves → goal = λ there. there_second (dearer_of held failed) leaves there in
    either_there (dearer_of t.held t.failed) t.leaves goal s
    (λ some. either_there t.held t.failed goal some
    (λ first. either_there (dearer_of u.held u.failed) u.leaves goal r
    (λ more. either_there u.held u.failed goal more
    (λ yes. there_first (dearer_of held failed) leaves (there_first held failed (there_both t.held u.held first yes)))
    (λ no. on (there_second t.failed asked (there_both t.held u.failed first no))))
    (λ gone. away (there_second t.leaves left (there_both t.held u.leaves first gone))))
    (λ no. on (there_first t.failed asked no)))
    (λ gone. away (there_first t.leaves left gone))

pub both_are : (f g : ℕ → ℕ → ℕ) (t u : ForksValue) → AreForksOf f t → AreForksOf g u → AreForksOf (λ h k. f (g h k) k) (both_forks t u)
both_are f g t u a b = record {
  some = both_there t u a.some b.some;
  cost = λ h k. by_cost.both_are f g (fork_costs_of t) (fork_costs_of u) (λ h k. a.cost h k ∙ ap capped (same_fork_costs t h k))
      (λ h k. b.cost h k ∙ ap capped (same_fork_costs u h k)) h k
      ∙ ap capped (both_cost t u h k b.some);
}

swapped : (x y z : ℕ) → max (max x y) z ≡ max (max y x) z
swapped x y z = omega arith

pub turned_are : (f : ℕ → ℕ → ℕ) (t : ForksValue) → AreForksOf f t → AreForksOf (λ h k. f k h) (turned_forks t)
turned_are f t a = record {
  some = either_there (dearer_of t.held t.failed) t.leaves (IsThere (dearer_of (dearer_of t.failed t.held) t.leaves)) a.some
      (λ on. there_first (dearer_of t.failed t.held) t.leaves (either_there t.held t.failed (IsThere (dearer_of t.failed t.held)) on
      (there_second t.failed t.held) (there_first t.failed t.held)))
      (there_second (dearer_of t.failed t.held) t.leaves);
  cost = λ h k. a.cost k h ∙ ap capped (swapped (way_cost t.held k) (way_cost t.failed h) (way_cost t.leaves 0));
}

-- or where it fails
pub one_are : (f g : ℕ → ℕ → ℕ) (t u : ForksValue) → AreForksOf f t → AreForksOf g u → AreForksOf (λ h k. f h (g h k)) (one_of_forks t u)
one_are f g t u a b =
    turned_are (λ h k. f k (g k h)) (both_forks (turned_forks t) (turned_forks u))
    (both_are (λ h k. f k h) (λ h k. g k h) (turned_forks t) (turned_forks u) (turned_are f t a) (turned_are g u b))

-- ---- one of two

either_cost : (v w : WaysValue) (n : ℕ) → max (ways_cost v n) (ways_cost w n) ≡ ways_cost (either_ways v w) n
either_cost v w n =
    let a = dearer_cost v.goes w.goes n in
    let b = dearer_cost v.leaves w.leaves 0 in
    four (way_cost v.goes n) (way_cost v.leaves 0) (way_cost w.goes n) (way_cost w.leaves 0)
    ∙ ap (λ x. max x (max (way_cost v.leaves 0) (way_cost w.leaves 0))) (sym a) ∙ ap (λ x. max (way_cost (dearer_of v.goes w.goes) n) x) (sym b)
  where
    four : (x y z w : ℕ) → max (max x y) (max z w) ≡ max (max x z) (max y w)
    four x y z w = omega arith

first_of_two : (v w : WaysValue) → IsThere (dearer_of v.goes v.leaves) → IsThere (dearer_of (either_ways v w).goes (either_ways v w).leaves)
first_of_two v w t =
    let goes = dearer_of v.goes w.goes in
    let leaves = dearer_of v.leaves w.leaves in
    either_there v.goes v.leaves (IsThere (dearer_of goes leaves)) t (λ on. there_first goes leaves (there_first v.goes w.goes on))
    (λ away. there_second goes leaves (there_first v.leaves w.leaves away))

second_of_two : (v w : WaysValue) → IsThere (dearer_of w.goes w.leaves) → IsThere (dearer_of (either_ways v w).goes (either_ways v w).leaves)
second_of_two v w t =
    let goes = dearer_of v.goes w.goes in
    let leaves = dearer_of v.leaves w.leaves in
    either_there w.goes w.leaves (IsThere (dearer_of goes leaves)) t (λ on. there_first goes leaves (there_second v.goes w.goes on))
    (λ away. there_second goes leaves (there_second v.leaves w.leaves away))

pub chosen_are : (f : ℕ → ℕ → ℕ) (g k : ℕ → ℕ) (t : ForksValue) (v w : WaysValue) → AreForksOf f t → AreWaysOf g v → AreWaysOf k w
    → AreWaysOf (λ n. f (g n) (k n)) (chosen_ways t v w)
chosen_are f g k t v w a b c =
    let holds : WaysValue = record { goes = t.held; leaves = t.leaves } in
    let fails : WaysValue = record { goes = t.failed; leaves = None } in
    let one = ways_behind holds v in
    let other = ways_behind fails w in
    let goal : Type 0 = IsThere (dearer_of (either_ways one other).goes (either_ways one other).leaves) in
    record {
      some = either_there (dearer_of t.held t.failed) t.leaves goal a.some
          (λ on. either_there t.held t.failed goal on
          (λ yes. first_of_two one other (behind_there holds v (there_first t.held t.leaves yes) b.some))
          (λ no. second_of_two one other (behind_there fails w (there_first t.failed None no) c.some)))
          (λ away. first_of_two one other (behind_there holds v (there_second t.held t.leaves away) b.some));
      cost = λ n. a.cost (g n) (k n) ∙ ap capped (split (way_cost t.held (g n)) (way_cost t.failed (k n)) (way_cost t.leaves 0))
          ∙ by_cost.chosen_by (2 ^ 64 - 1) _ _ _ _ (behind_cost holds v n (g n) b.some (b.cost n)) (behind_cost fails w n (k n) c.some (c.cost n))
          ∙ ap capped (either_cost one other n);
    }
  where
    split : (x y z : ℕ) → max (max x y) z ≡ max (max x z) (max y 0)
    split x y z = omega arith

-- ---- turns

turns_there : (m : ℕ) (w : WaysValue) (o : Option WayValue) → IsThere (dearer_of w.goes w.leaves)
    → IsThere (dearer_of (turned_ways m w o).goes (turned_ways m w o).leaves)
turns_there zero w o t = tt
turns_there (suc m) w None t = t
turns_there (suc m) w (Some v) t =
    let left = both_ways (Some (way_turned m v)) w.leaves in there_first (Some (way_turned (suc m) v)) left tt

turned_left : (m : ℕ) (v : WayValue) (l : Option WayValue) (n : ℕ)
    → max (capped (suc m * v.cycles) + n) (capped (capped (m * v.cycles) + way_cost l 0))
    ≡ max (capped (suc m * v.cycles) + n) (way_cost (both_ways (Some (way_turned m v)) l) 0)
turned_left m v None n =
    let once : suc m * v.cycles ≡ v.cycles + m * v.cycles = omega arith in
    ap (λ x. max (capped x + n) (capped (capped (m * v.cycles) + 0))) once ∙ at (2 ^ 64 - 1) v.cycles (m * v.cycles) n
    ∙ ap (λ x. max (capped x + n) 0) (sym once)
  where
    at : (k c a n : ℕ) → max (min (c + a) k + n) (min (min a k + 0) k) ≡ max (min (c + a) k + n) 0
    at k c a n = omega arith
turned_left m v (Some l) n = ap (λ x. max (capped (suc m * v.cycles) + n) x) (at (2 ^ 64 - 1) (capped (m * v.cycles)) l.cycles)
  where
    at : (k c d : ℕ) → min (c + (d + 0)) k ≡ min (c + d) k + 0
    at k c d = omega arith

turns_cost : (m : ℕ) (w : WaysValue) (o : Option WayValue) (n : ℕ)
    → stretch_cost (by_cost.more_turns m (costs_of w) (cycles_of o)) n ≡ ways_cost (turned_ways (suc m) w o) n
turns_cost m w None n = sym (same_costs w n)
turns_cost m w (Some v) n = turned_left m v w.leaves n

-- turns of code, by what so many of them cost with what follows
pub turns_are : (t : ℕ → ℕ → ℕ) (f : ℕ → ℕ) (w : WaysValue) → ((n : ℕ) → t 0 n ≡ n) → ((m n : ℕ) → t (suc m) n ≡ f (t m n)) → AreWaysOf f w
    → (m : ℕ) → AreWaysOf (t m) (all_turns m w)
turns_are t f w none more a m = record {
  some = turns_there m w w.goes a.some;
  cost = λ n. by_cost.turns_are t f (costs_of w) none more (λ n. a.cost n ∙ ap capped (same_costs w n)) m n ∙ ap capped (all m n);
}
  where
    all : (m n : ℕ) → stretch_cost (by_cost.turns_of m (costs_of w)) n ≡ ways_cost (all_turns m w) n
    all zero n = refl
    all (suc m) n = turns_cost m w w.goes n

-- ---- the dearest of all

pub most_is : (f : ℕ → ℕ) (w : WaysValue) → AreWaysOf f w → capped (f 0) ≡ capped (most_of w).cycles
most_is f w a = a.cost 0 ∙ ap capped (sym (dearer_cost w.goes w.leaves 0) ∙ by (dearer_of w.goes w.leaves))
  where
    by : (o : Option WayValue) → way_cost o 0 ≡ (some_way o).cycles
    by None = refl
    by (Some v) = omega arith
