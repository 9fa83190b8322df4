-- What ways cost that are joined, by their cycles alone.
use Rattle.std.proofs.Common.{◌≡◌, ℕ, zero, suc, ◌+◌, ◌-◌, ◌*◌, ◌^◌, min, max, Option, Some, None, refl, sym, ap, ◌∙◌, arith}
use Rattle.code_paths.specs.Paths.{capped}

-- the cycles of the dearest way that goes on, and of the dearest that leaves, 0 where none does
pub record Costs : Type 0 where
  pub goes : Option ℕ
  pub leaves : ℕ

-- the same of a test
pub record ForkCosts : Type 0 where
  pub held : Option ℕ
  pub failed : Option ℕ
  pub leaves : ℕ

-- what a way costs with what follows it, where there is one
abbrev pub goes_cost : Option ℕ → ℕ → ℕ
goes_cost None next = 0
goes_cost (Some c) next = c + next

-- what ways cost, with what follows where they go on
abbrev pub stretch_cost : Costs → ℕ → ℕ
stretch_cost w next = max (goes_cost w.goes next) w.leaves

-- and those of a test, with what follows where it holds and where it fails
abbrev pub fork_cost : ForkCosts → ℕ → ℕ → ℕ
fork_cost t held failed = max (max (goes_cost t.held held) (goes_cost t.failed failed)) t.leaves

-- they are the ways of code that costs so much with what follows it
abbrev pub AreCosts : (ℕ → ℕ) → Costs → Type 0
AreCosts f w = (next : ℕ) → capped (f next) ≡ capped (stretch_cost w next)

abbrev pub AreForkCosts : (ℕ → ℕ → ℕ) → ForkCosts → Type 0
AreForkCosts f t = (held failed : ℕ) → capped (f held failed) ≡ capped (fork_cost t held failed)

-- two ways, one behind the other
abbrev pub sum_of : Option ℕ → Option ℕ → Option ℕ
sum_of None b = None
sum_of (Some c) None = None
sum_of (Some c) (Some d) = Some (capped (c + d))

-- a way that leaves behind one
abbrev pub left_behind : Option ℕ → ℕ → ℕ
left_behind None leaves = 0
left_behind (Some c) leaves = capped (c + leaves)

-- the dearer of two
abbrev pub more_of : Option ℕ → Option ℕ → Option ℕ
more_of None b = b
more_of (Some c) None = Some c
more_of (Some c) (Some d) = Some (max c d)

-- ways that go on alike, each in so many cycles
abbrev pub straight_of : ℕ → Costs
straight_of c = record { goes = Some c; leaves = 0 }

-- one stretch behind another
abbrev pub behind_of : Costs → Costs → Costs
behind_of v w = record { goes = sum_of v.goes w.goes; leaves = max v.leaves (left_behind v.goes w.leaves) }

-- one of two
abbrev pub either_of : Costs → Costs → Costs
either_of v w = record { goes = more_of v.goes w.goes; leaves = max v.leaves w.leaves }

-- so many turns and one more
abbrev pub more_turns : ℕ → Costs → Option ℕ → Costs
more_turns m w None = w
more_turns m w (Some c) = record { goes = Some (capped (suc m * c)); leaves = capped (capped (m * c) + w.leaves) }

abbrev pub turns_of : ℕ → Costs → Costs
turns_of zero w = straight_of 0
turns_of (suc m) w = more_turns m w w.goes

-- a test whose way goes on where it holds and where it fails
abbrev pub forks_of : Costs → ForkCosts
forks_of w = record { held = w.goes; failed = w.goes; leaves = w.leaves }

-- the second of two tests is asked where the first holds, or where it fails
abbrev pub both_of : ForkCosts → ForkCosts → ForkCosts
both_of t u = record {
  held = sum_of t.held u.held;
  failed = more_of t.failed (sum_of t.held u.failed);
  leaves = max t.leaves (left_behind t.held u.leaves);
}

abbrev pub one_of : ForkCosts → ForkCosts → ForkCosts
one_of t u = record {
  held = more_of t.held (sum_of t.failed u.held);
  failed = sum_of t.failed u.failed;
  leaves = max t.leaves (left_behind t.failed u.leaves);
}

abbrev pub turned_of : ForkCosts → ForkCosts
turned_of t = record { held = t.failed; failed = t.held; leaves = t.leaves }

-- what is done where a test holds, and where it fails
abbrev pub chosen_of : ForkCosts → Costs → Costs → Costs
chosen_of t v w =
    either_of (behind_of (record { goes = t.held; leaves = t.leaves }) v) (behind_of (record { goes = t.failed; leaves = 0 }) w)

-- ---- numbers that stop at m

two_go : (m c d l k n g : ℕ) → min g m ≡ min (max (d + n) k) m
    → min (max (c + g) l) m ≡ min (max (min (c + d) m + n) (max l (min (c + k) m))) m
two_go m c d l k n g e = omega (arith, e)

one_goes : (m c l k g : ℕ) → min g m ≡ min (max 0 k) m → min (max (c + g) l) m ≡ min (max 0 (max l (min (c + k) m))) m
one_goes m c l k g e = omega (arith, e)

-- ---- one stretch behind another

pub behind_by : (v w : Option ℕ) (l k n g : ℕ) → capped g ≡ capped (max (goes_cost w n) k)
    → capped (max (goes_cost v g) l) ≡ capped (max (goes_cost (sum_of v w) n) (max l (left_behind v k)))
behind_by None w l k n g e = omega arith
behind_by (Some c) None l k n g e = one_goes (2 ^ 64 - 1) c l k g e
behind_by (Some c) (Some d) l k n g e = two_go (2 ^ 64 - 1) c d l k n g e

pub behind_are : (f g : ℕ → ℕ) (v w : Costs) → AreCosts f v → AreCosts g w → AreCosts (λ n. f (g n)) (behind_of v w)
behind_are f g v w a b n = a (g n) ∙ behind_by v.goes w.goes v.leaves w.leaves n (g n) (b n)

pub straight_are : (c : ℕ) → AreCosts (λ n. c + n) (straight_of (capped c))
straight_are c n = by (2 ^ 64 - 1)
  where
    by : (m : ℕ) → min (c + n) m ≡ min (max (min c m + n) 0) m
    by m = omega arith

-- ---- tests

pub forks_are : (f : ℕ → ℕ) (w : Costs) → AreCosts f w → AreForkCosts (λ h k. f (max h k)) (forks_of w)
forks_are f w a h k = a (max h k) ∙ by w.goes
  where
    by : (o : Option ℕ) → capped (max (goes_cost o (max h k)) w.leaves) ≡ capped (max (max (goes_cost o h) (goes_cost o k)) w.leaves)
    by None = omega arith
    by (Some c) = omega arith

-- ---- maxima that stop at m

cut_two : (m x y a b : ℕ) → min x m ≡ min a m → min y m ≡ min b m → min (max x y) m ≡ min (max a b) m
cut_two m x y a b e f = omega (arith, e, f)

cut_three : (m x y z a b c : ℕ) → min x m ≡ min a m → min y m ≡ min b m → min z m ≡ min c m → min (max (max x y) z) m ≡ min (max (max a b) c) m
cut_three m x y z a b c e f g = cut_two m (max x y) z (max a b) c (cut_two m x y a b e f) g

cut_sum : (m a x y : ℕ) → min x m ≡ min y m → min (a + x) m ≡ min (a + y) m
cut_sum m a x y e = omega (arith, e)

sum_cut : (m a n : ℕ) → min (min a m + n) m ≡ min (a + n) m
sum_cut m a n = omega arith

max_cut : (m b d k : ℕ) → min (max b (min d m) + k) m ≡ min (max b d + k) m
max_cut m b d k = omega arith

leaves_cut : (m t u : ℕ) → min (max t (min u m)) m ≡ min (max t u) m
leaves_cut m t u = omega arith

over_max : (a x y z : ℕ) → a + max (max x y) z ≡ max (max (a + x) (a + y)) (a + z)
over_max a x y z = omega arith

turned_max : (x y z b : ℕ) → max (max (max x y) z) b ≡ max (max x (max b y)) z
turned_max x y z b = omega arith

last_max : (w z t : ℕ) → max (max w z) t ≡ max w (max t z)
last_max w z t = omega arith

-- both ways of a test, the second asked behind the first
asked_behind : (m a b c d h k u t g : ℕ) → min g m ≡ min (max (max (c + h) (d + k)) u) m
    → min (max (max (a + g) (b + k)) t) m ≡ min (max (max (min (a + c) m + h) (max b (min (a + d) m) + k)) (max t (min (a + u) m))) m
asked_behind m a b c d h k u t g e =
    let inner = max (max (c + h) (d + k)) u in
    let one : min (max (max (a + g) (b + k)) t) m ≡ min (max (max (a + inner) (b + k)) t) m =
    cut_three m (a + g) (b + k) t (a + inner) (b + k) t (cut_sum m a g inner e) refl refl in
    let two : max (max (a + inner) (b + k)) t ≡ max (max (max (max (a + (c + h)) (a + (d + k))) (a + u)) (b + k)) t =
    ap (λ x. max (max x (b + k)) t) (over_max a (c + h) (d + k) u) in
    let three = ap (λ x. max x t) (turned_max (a + (c + h)) (a + (d + k)) (a + u) (b + k)) in
    let four = last_max (max (a + (c + h)) (max (b + k) (a + (d + k)))) (a + u) t in
    let held : a + (c + h) ≡ a + c + h = omega arith in
    let failed : max (b + k) (a + (d + k)) ≡ max b (a + d) + k = omega arith in
    let five : max (max (a + (c + h)) (max (b + k) (a + (d + k)))) (max t (a + u)) ≡ max (max (a + c + h) (max b (a + d) + k)) (max t (a + u)) =
    ap (λ x. max (max x (max (b + k) (a + (d + k)))) (max t (a + u))) held ∙ ap (λ x. max (max (a + c + h) x) (max t (a + u))) failed in
    let cut = cut_three m (min (a + c) m + h) (max b (min (a + d) m) + k) (max t (min (a + u) m)) (a + c + h) (max b (a + d) + k) (max t (a + u))
    (sum_cut m (a + c) h) (max_cut m b (a + d) k) (leaves_cut m t (a + u)) in
    one ∙ ap (λ x. min x m) (two ∙ three ∙ four ∙ five) ∙ sym cut

-- the same where one way isn't there
no_first : (m a c d h k u t g : ℕ) → min g m ≡ min (max (max (c + h) (d + k)) u) m
    → min (max (max (a + g) 0) t) m ≡ min (max (max (min (a + c) m + h) (min (a + d) m + k)) (max t (min (a + u) m))) m
no_first m a c d h k u t g e =
    let inner = max (max (c + h) (d + k)) u in
    let one : min (max (max (a + g) 0) t) m ≡ min (max (a + inner) t) m = cut_two m (max (a + g) 0) t (a + inner) t (start) refl in
    let two : max (a + inner) t ≡ max (max (max (a + (c + h)) (a + (d + k))) (a + u)) t = ap (λ x. max x t) (over_max a (c + h) (d + k) u) in
    let three = last_max (max (a + (c + h)) (a + (d + k))) (a + u) t in
    let held : a + (c + h) ≡ a + c + h = omega arith in
    let failed : a + (d + k) ≡ a + d + k = omega arith in
    let four : max (max (a + (c + h)) (a + (d + k))) (max t (a + u)) ≡ max (max (a + c + h) (a + d + k)) (max t (a + u)) =
    ap (λ x. max (max x (a + (d + k))) (max t (a + u))) held ∙ ap (λ x. max (max (a + c + h) x) (max t (a + u))) failed in
    let cut = cut_three m (min (a + c) m + h) (min (a + d) m + k) (max t (min (a + u) m)) (a + c + h) (a + d + k) (max t (a + u))
    (sum_cut m (a + c) h) (sum_cut m (a + d) k) (leaves_cut m t (a + u)) in
    one ∙ ap (λ x. min x m) (two ∙ three ∙ four) ∙ sym cut
  where
    start : min (max (a + g) 0) m ≡ min (a + max (max (c + h) (d + k)) u) m
    start = let more = cut_sum m a g (max (max (c + h) (d + k)) u) e in let none : max (a + g) 0 ≡ a + g = omega arith in ap (λ x. min x m) none ∙ more

no_held : (m a b d k u t g : ℕ) → min g m ≡ min (max (max 0 (d + k)) u) m
    → min (max (max (a + g) (b + k)) t) m ≡ min (max (max 0 (max b (min (a + d) m) + k)) (max t (min (a + u) m))) m
no_held m a b d k u t g e =
    let inner = max (d + k) u in
    let into : max (max 0 (d + k)) u ≡ inner = omega arith in
    let given : min g m ≡ min inner m = e ∙ ap (λ x. min x m) into in
    let one : min (max (max (a + g) (b + k)) t) m ≡ min (max (max (a + inner) (b + k)) t) m =
    cut_three m (a + g) (b + k) t (a + inner) (b + k) t (cut_sum m a g inner given) refl refl in
    let two : a + inner ≡ max (a + (d + k)) (a + u) = omega arith in
    let three : max (max (max (a + (d + k)) (a + u)) (b + k)) t ≡ max (max (b + k) (a + (d + k))) (max t (a + u)) = omega arith in
    let failed : max (b + k) (a + (d + k)) ≡ max b (a + d) + k = omega arith in
    let cut = cut_two m (max b (min (a + d) m) + k) (max t (min (a + u) m)) (max b (a + d) + k) (max t (a + u)) (max_cut m b (a + d) k)
    (leaves_cut m t (a + u)) in
    let none : max (max 0 (max b (min (a + d) m) + k)) (max t (min (a + u) m)) ≡ max (max b (min (a + d) m) + k) (max t (min (a + u) m)) =
    ap (λ x. max x (max t (min (a + u) m))) (zero_max (max b (min (a + d) m) + k)) in
    one ∙ ap (λ x. min (max (max x (b + k)) t) m) two ∙ ap (λ x. min x m) three ∙ ap (λ x. min (max x (max t (a + u))) m) failed ∙ sym cut
    ∙ sym (ap (λ x. min x m) none)
  where
    zero_max : (x : ℕ) → max 0 x ≡ x
    zero_max x = omega arith

no_failed : (m a b c h k u t g : ℕ) → min g m ≡ min (max (max (c + h) 0) u) m
    → min (max (max (a + g) (b + k)) t) m ≡ min (max (max (min (a + c) m + h) (b + k)) (max t (min (a + u) m))) m
no_failed m a b c h k u t g e =
    let inner = max (c + h) u in
    let into : max (max (c + h) 0) u ≡ inner = omega arith in
    let given : min g m ≡ min inner m = e ∙ ap (λ x. min x m) into in
    let one : min (max (max (a + g) (b + k)) t) m ≡ min (max (max (a + inner) (b + k)) t) m =
    cut_three m (a + g) (b + k) t (a + inner) (b + k) t (cut_sum m a g inner given) refl refl in
    let two : a + inner ≡ max (a + c + h) (a + u) = omega arith in
    let three : max (max (max (a + c + h) (a + u)) (b + k)) t ≡ max (max (a + c + h) (b + k)) (max t (a + u)) = omega arith in
    let cut = cut_three m (min (a + c) m + h) (b + k) (max t (min (a + u) m)) (a + c + h) (b + k) (max t (a + u)) (sum_cut m (a + c) h) refl
    (leaves_cut m t (a + u)) in
    one ∙ ap (λ x. min (max (max x (b + k)) t) m) two ∙ ap (λ x. min x m) three ∙ sym cut

-- one way alone
single : (m a c h u t g : ℕ) → min g m ≡ min (max (c + h) u) m → min (max (a + g) t) m ≡ min (max (min (a + c) m + h) (max t (min (a + u) m))) m
single m a c h u t g e =
    let one = cut_two m (a + g) t (a + max (c + h) u) t (cut_sum m a g (max (c + h) u) e) refl in
    let two : max (a + max (c + h) u) t ≡ max (a + c + h) (max t (a + u)) = omega arith in
    let cut = cut_two m (min (a + c) m + h) (max t (min (a + u) m)) (a + c + h) (max t (a + u)) (sum_cut m (a + c) h) (leaves_cut m t (a + u)) in
    one ∙ ap (λ x. min x m) two ∙ sym cut

left_zero : (x : ℕ) → max 0 x ≡ x
left_zero x = omega arith

right_zero : (x : ℕ) → max x 0 ≡ x
right_zero x = omega arith

-- the second of two tests is asked where the first holds
both_by : (th tf uh uf : Option ℕ) (tl ul h k g : ℕ) → capped g ≡ capped (max (max (goes_cost uh h) (goes_cost uf k)) ul)
    → capped (max (max (goes_cost th g) (goes_cost tf k)) tl)
    ≡ capped (max (max (goes_cost (sum_of th uh) h) (goes_cost (more_of tf (sum_of th uf)) k)) (max tl (left_behind th ul)))
both_by None None uh uf tl ul h k g e = omega arith
both_by None (Some b) uh uf tl ul h k g e = omega arith
both_by (Some a) None None None tl ul h k g e = omega (arith, e)
both_by (Some a) None None (Some d) tl ul h k g e =
    ap (λ x. capped (max x tl)) (right_zero (a + g)) ∙ single (2 ^ 64 - 1) a d k ul tl g (e ∙ ap (λ x. capped (max x ul)) (left_zero (d + k)))
    ∙ sym (ap (λ x. capped (max x (max tl (capped (a + ul))))) (left_zero (capped (a + d) + k)))
both_by (Some a) None (Some c) None tl ul h k g e =
    ap (λ x. capped (max x tl)) (right_zero (a + g)) ∙ single (2 ^ 64 - 1) a c h ul tl g (e ∙ ap (λ x. capped (max x ul)) (right_zero (c + h)))
    ∙ sym (ap (λ x. capped (max x (max tl (capped (a + ul))))) (right_zero (capped (a + c) + h)))
both_by (Some a) None (Some c) (Some d) tl ul h k g e = no_first (2 ^ 64 - 1) a c d h k ul tl g e
both_by (Some a) (Some b) None None tl ul h k g e = omega (arith, e)
both_by (Some a) (Some b) None (Some d) tl ul h k g e = no_held (2 ^ 64 - 1) a b d k ul tl g e
both_by (Some a) (Some b) (Some c) None tl ul h k g e = no_failed (2 ^ 64 - 1) a b c h k ul tl g e
both_by (Some a) (Some b) (Some c) (Some d) tl ul h k g e = asked_behind (2 ^ 64 - 1) a b c d h k ul tl g e

pub both_are : (f g : ℕ → ℕ → ℕ) (t u : ForkCosts) → AreForkCosts f t → AreForkCosts g u → AreForkCosts (λ h k. f (g h k) k) (both_of t u)
both_are f g t u a b h k = a (g h k) k ∙ both_by t.held t.failed u.held u.failed t.leaves u.leaves h k (g h k) (b h k)

pub turned_are : (f : ℕ → ℕ → ℕ) (t : ForkCosts) → AreForkCosts f t → AreForkCosts (λ h k. f k h) (turned_of t)
turned_are f t a h k = a k h ∙ omega arith

-- or where it fails
one_by : (th tf uh uf : Option ℕ) (tl ul h k g : ℕ) → capped g ≡ capped (max (max (goes_cost uh h) (goes_cost uf k)) ul)
    → capped (max (max (goes_cost th h) (goes_cost tf g)) tl)
    ≡ capped (max (max (goes_cost (more_of th (sum_of tf uh)) h) (goes_cost (sum_of tf uf) k)) (max tl (left_behind tf ul)))
one_by th tf uh uf tl ul h k g e =
    let turned = both_by tf th uf uh tl ul k h g (e ∙ ap capped (swapped (goes_cost uh h) (goes_cost uf k) ul)) in
    ap capped (swapped (goes_cost th h) (goes_cost tf g) tl) ∙ turned
    ∙ ap capped (swapped (goes_cost (sum_of tf uf) k) (goes_cost (more_of th (sum_of tf uh)) h) (max tl (left_behind tf ul)))
  where
    swapped : (x y z : ℕ) → max (max x y) z ≡ max (max y x) z
    swapped x y z = omega arith

pub one_are : (f g : ℕ → ℕ → ℕ) (t u : ForkCosts) → AreForkCosts f t → AreForkCosts g u → AreForkCosts (λ h k. f h (g h k)) (one_of t u)
one_are f g t u a b h k = a h (g h k) ∙ one_by t.held t.failed u.held u.failed t.leaves u.leaves h k (g h k) (b h k)

-- one of two stretches
either_is : (a b : Option ℕ) (l k n : ℕ) → max (goes_cost (more_of a b) n) (max l k) ≡ max (max (goes_cost a n) l) (max (goes_cost b n) k)
either_is None b l k n = omega arith
either_is (Some c) None l k n = omega arith
either_is (Some c) (Some d) l k n = omega arith

pub chosen_by : (m x y a b : ℕ) → min x m ≡ min a m → min y m ≡ min b m → min (max x y) m ≡ min (max a b) m
chosen_by m x y a b e f = omega (arith, e, f)

pub chosen_are : (f : ℕ → ℕ → ℕ) (g k : ℕ → ℕ) (t : ForkCosts) (v w : Costs) → AreForkCosts f t → AreCosts g v → AreCosts k w
    → AreCosts (λ n. f (g n) (k n)) (chosen_of t v w)
chosen_are f g k t v w a b c n =
    let held : Costs = record { goes = t.held; leaves = t.leaves } in
    let failed : Costs = record { goes = t.failed; leaves = 0 } in
    let one = behind_by t.held v.goes t.leaves v.leaves n (g n) (b n) in
    let other = behind_by t.failed w.goes 0 w.leaves n (k n) (c n) in
    let both = chosen_by (2 ^ 64 - 1) _ _ _ _ one other in
    let split : max (max (goes_cost t.held (g n)) (goes_cost t.failed (k n))) t.leaves
    ≡ max (max (goes_cost t.held (g n)) t.leaves) (max (goes_cost t.failed (k n)) 0) = omega arith in
    let joined = either_is (behind_of held v).goes (behind_of failed w).goes (behind_of held v).leaves (behind_of failed w).leaves n in
    a (g n) (k n) ∙ ap capped split ∙ both ∙ ap capped (sym joined)

-- ---- turns

no_more : (w : Costs) (x n : ℕ) → w.goes ≡ None → stretch_cost w x ≡ stretch_cost w n
no_more w x n e = ap (λ o. max (goes_cost o x) w.leaves) e ∙ sym (ap (λ o. max (goes_cost o n) w.leaves) e)

one_more : (m c l n x a : ℕ) → min x m ≡ min (max (min (c + a) m + n) (min (min a m + l) m)) m
    → min (max (c + x) l) m ≡ min (max (min (c + (c + a)) m + n) (min (min (c + a) m + l) m)) m
one_more m c l n x a e =
    let given : min x m ≡ min (max (c + a + n) (a + l)) m =
    e ∙ cut_two m (min (c + a) m + n) (min (min a m + l) m) (c + a + n) (a + l) (sum_cut m (c + a) n) (twice_cut a) in
    let one = cut_two m (c + x) l (c + max (c + a + n) (a + l)) l (cut_sum m c x (max (c + a + n) (a + l)) given) refl in
    let two : max (c + max (c + a + n) (a + l)) l ≡ max (c + (c + a) + n) (c + a + l) = omega arith in
    let cut = cut_two m (min (c + (c + a)) m + n) (min (min (c + a) m + l) m) (c + (c + a) + n) (c + a + l) (sum_cut m (c + (c + a)) n) (twice_cut (c + a)) in
    one ∙ ap (λ y. min y m) two ∙ sym cut
  where
    twice_cut : (b : ℕ) → min (min (min b m + l) m) m ≡ min (b + l) m
    twice_cut b = omega arith

turns_by : (m n x : ℕ) (w : Costs) (o : Option ℕ) → w.goes ≡ o → capped x ≡ capped (stretch_cost (turns_of m w) n)
    → capped (stretch_cost w x) ≡ capped (stretch_cost (more_turns m w o) n)
turns_by m n x w None q e = ap capped (no_more w x n q)
turns_by zero n x w (Some c) q e =
    let l = w.leaves in
    let first : capped (stretch_cost w x) ≡ capped (max (c + x) l) = ap (λ o. capped (max (goes_cost o x) l)) q in
    first ∙ omega (arith, e)
turns_by (suc m) n x w (Some c) q e =
    let l = w.leaves in
    let first : capped (stretch_cost w x) ≡ capped (max (c + x) l) = ap (λ o. capped (max (goes_cost o x) l)) q in
    let before : capped x ≡ capped (stretch_cost (more_turns m w (Some c)) n) = e ∙ ap (λ o. capped (stretch_cost (more_turns m w o) n)) q in
    let once : suc m * c ≡ c + m * c = omega arith in
    let twice : suc (suc m) * c ≡ c + (c + m * c) = omega arith in
    let made = one_more (2 ^ 64 - 1) c l n x (m * c)
    (before ∙ ap (λ a. capped (max (capped a + n) (capped (capped (m * c) + l)))) once) in
    first ∙ made ∙ ap (λ a. capped (max (capped a + n) (capped (capped (c + m * c) + l)))) (sym twice)
    ∙ ap (λ a. capped (max (capped (suc (suc m) * c) + n) (capped (capped a + l)))) (sym once)

-- turns of code, by what so many of them cost with what follows
pub turns_are : (t : ℕ → ℕ → ℕ) (f : ℕ → ℕ) (w : Costs) → ((n : ℕ) → t 0 n ≡ n) → ((m n : ℕ) → t (suc m) n ≡ f (t m n)) → AreCosts f w
    → (m : ℕ) → AreCosts (t m) (turns_of m w)
turns_are t f w none more a zero n = ap capped (none n) ∙ omega arith
turns_are t f w none more a (suc m) n =
    let x = t m n in
    ap capped (more m n) ∙ a x ∙ turns_by m n x w w.goes refl (turns_are t f w none more a m n)
