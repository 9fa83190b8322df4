-- A program behind another.
use Rattle.std.proofs.Common.{◌≡◌, ℕ, Bool, true, false, if◌then◌else◌, List, [], ◌∷◌, ◌++◌, refl, sym, ap, ◌∙◌, arith, append_assoc}
use Rattle.machine_effects.specs.fram_board.Effects.{Effect}
use Rattle.array_versions.specs.Operations.{is_true, compare_words}
use Rattle.array_versions.specs.Program.{Test, Program, holds, compares, both, either, fails, nothing, step, joined}
use Rattle.array_versions.specs.Behaviour.{WordState, End, GoesOn, Jumps, Gives, Short, Strays, Broken, Behaviour, behaves, behind_effects, on_end}
use Rattle.array_versions.specs.Behaviour.{then_on}
use Rattle.array_versions.specs.Behaviour.{with_top, with_stack, number_pushed, way_by_top, way_by_two, step_behaviour, tested, behaviour}
use Rattle.array_versions.specs.Laws.{JoinedGoOn, JoinedCycles, JoinedWords}

-- effects in front of effects
behind_twice : (es fs : List Effect) (b : Behaviour) → behind_effects es (behind_effects fs b) ≡ behind_effects (es ++ fs) b
behind_twice es fs b = ap (λ l. behaves l b.end) (sym (append_assoc es fs b.effects))

then_on_end : (es : List Effect) (e : End) (f g h : WordState → Behaviour) → ((s : WordState) → h s ≡ then_on (f s) g)
    → behind_effects es (on_end e h) ≡ then_on (behind_effects es (on_end e f)) g
then_on_end es (GoesOn s) f g h k = ap (behind_effects es) (k s) ∙ behind_twice es (f s).effects (on_end (f s).end g)
then_on_end es (Jumps to s) f g h k = behind_twice es [] (behaves [] (Jumps to s))
then_on_end es (Gives v s) f g h k = behind_twice es [] (behaves [] (Gives v s))
then_on_end es Short f g h k = behind_twice es [] (behaves [] Short)
then_on_end es Strays f g h k = behind_twice es [] (behaves [] Strays)
then_on_end es Broken f g h k = behind_twice es [] (behaves [] Broken)

-- two programs do what one does and then the other
pub joined_go_on : JoinedGoOn
joined_go_on nothing q s = refl
joined_go_on (step first more) q s =
    let b = step_behaviour first s in
    then_on_end b.effects b.end (behaviour more) (behaviour q) (behaviour (joined more q)) (joined_go_on more q)

-- what stands behind what stands behind
pub then_on_assoc : (b : Behaviour) (f g : WordState → Behaviour) → then_on b (λ s. then_on (f s) g) ≡ then_on (then_on b f) g
then_on_assoc b f g = then_on_end b.effects b.end f g (λ s. then_on (f s) g) (λ s. refl)

-- ---- what stands behind a test stands behind each of its ways

-- a way with something behind it
abbrev IsBehind : (WordState → Behaviour) → (WordState → Behaviour) → (WordState → Behaviour) → Type 0
IsBehind all way next = (s : WordState) → all s ≡ then_on (way s) next

either_on : (c : Bool) (a b x y : Behaviour) (next : WordState → Behaviour) → a ≡ then_on x next → b ≡ then_on y next
    → (if c then a else b) ≡ then_on (if c then x else y) next
either_on true a b x y next e f = e
either_on false a b x y next e f = f

top_on : (vs : List ℕ) (all way : ℕ → List ℕ → Behaviour) (next : WordState → Behaviour) → ((v : ℕ) (us : List ℕ) → all v us ≡ then_on (way v us) next)
    → with_top vs all ≡ then_on (with_top vs way) next
top_on [] all way next e = refl
top_on (v ∷ vs) all way next e = e v vs

pub tested_on : (t : Test) (h f held failed next : WordState → Behaviour) (s : WordState) → IsBehind h held next → IsBehind f failed next
    → tested t h f s ≡ then_on (tested t held failed s) next
tested_on (holds p) h f held failed next s a b =
    let r = behaviour p s in
    then_on_end r.effects r.end (way_by_top held failed) next (way_by_top h f) (λ u.
    top_on u.stack _ _ next (λ v vs. let x = with_stack vs u in either_on (is_true v) (h x) (f x) (held x) (failed x) next (a x) (b x)))
tested_on (compares op p) h f held failed next s a b =
    let r = behaviour p s in
    then_on_end r.effects r.end (way_by_two op held failed) next (way_by_two op h f) (λ u.
    top_on u.stack _ _ next (λ v us. top_on us _ _ next (λ w vs.
    let x = with_stack vs u in either_on (compare_words op w v) (h x) (f x) (held x) (failed x) next (a x) (b x))))
tested_on (both t u) h f held failed next s a b =
    tested_on t (tested u h f) f (tested u held failed) failed next s (λ v. tested_on u h f held failed next v a b) b
tested_on (either t u) h f held failed next s a b =
    tested_on t h (tested u h f) held (tested u held failed) next s a (λ v. tested_on u h f held failed next v a b)
tested_on (fails t) h f held failed next s a b = tested_on t f h failed held next s b a

-- a test decides as the word 1 or 0 that it is the truth of
pub decided_by_truth : (t : Test) (held failed : WordState → Behaviour) (s : WordState)
    → tested t held failed s ≡ then_on (tested t (number_pushed 1) (number_pushed 0) s) (way_by_top held failed)
decided_by_truth t held failed s =
    tested_on t held failed (number_pushed 1) (number_pushed 0) (way_by_top held failed) s (λ v. refl) (λ v. refl)

-- the cycles of two programs
pub joined_cycles : JoinedCycles
joined_cycles nothing q = omega arith
joined_cycles (step first more) q = omega (arith, joined_cycles more q)

-- the words of two programs
pub joined_words : JoinedWords
joined_words nothing q = omega arith
joined_words (step first more) q = omega (arith, joined_words more q)

-- the builders put a step behind a program
pub joined_nothing : (p : Program) → joined p nothing ≡ p
joined_nothing nothing = refl
joined_nothing (step first more) = ap (step first) (joined_nothing more)

-- three programs, one behind another
pub joined_assoc : (p q r : Program) → joined (joined p q) r ≡ joined p (joined q r)
joined_assoc nothing q r = refl
joined_assoc (step first more) q r = ap (step first) (joined_assoc more q r)
