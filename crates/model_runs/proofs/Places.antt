-- The words of a map in the list of a board's FRAM and in the FRAM of a world.
use Rattle.std.proofs.Common.{◌≡◌, ℕ, zero, suc, ◌+◌, ◌*◌, ◌%◌, ◌<◌, ◌≤◌, ◌==◌, ◌&&◌, refl, sym, ap, ap₂, ◌∙◌, arith, Bool, true, false}
use Rattle.std.proofs.Common.{if◌then◌else◌, All, List, [], ◌∷◌, ◌++◌, slice_index, Option, Some, None}
use Rattle.std.proofs.lemmas.Bool.Decides.{nat_tests}
use Rattle.image_map.specs.declared.parts.ValueType.{ValueType}
use Rattle.image_map.specs.declared.parts.ValueType.TheVariants as value_type
use Rattle.image_map.specs.declared.parts.Variable.{Variable}
use Rattle.image_map.specs.MapValue.{IsFramWord, IsVariable, fits, is_long, scalar_words, word_count}
use Rattle.image_text.specs.ImageValue.{place_of}
use Rattle.fram_board.specs.Bus.{is_fram}
use Rattle.fram_board.specs.Board.{BoardValue}
use Rattle.machine_effects.specs.event_places.Places.{handler_place, is_ring}
use Rattle.machine_effects.specs.Machine.{fram_of}
use Rattle.machine_effects.specs.World.{World}
use Rattle.run_charges.specs.View.{outside_of}
use Rattle.board_run.proofs.Interface.{high_fits}
use Rattle.board_run.specs.History.{SharedNumber, array_words, variable_numbers, shared_numbers, word_in, number_at, number_of, values_in, changed_line}
use Rattle.board_run.specs.History.{changed_lines}
use Rattle.model_runs.specs.Events.{world_values, change_lines}

is_there : (a : ℕ) → 17408 ≤ a → a < 65536 → a % 2 ≡ 0 → ((a % 2 == 0) && is_fram a) ≡ true
is_there a l h e = grind (arith, nat_tests)

off_ring : (a : ℕ) → a < handler_place → is_ring a ≡ false
off_ring a l = grind (arith, nat_tests)

-- a word of FRAM in front of the handler, by its address, as a program sees it
fram_word : (b : BoardValue) (a : ℕ) → IsFramWord a → a < handler_place → (outside_of b).fram a ≡ word_in b.fram a
fram_word b a h l =
    ap (λ (t : Bool). if t then 0 else fram_of b.fram a) (off_ring a l)
    ∙ ap (λ t. if t then slice_index b.fram (place_of a) else 0) (is_there a h.low h.high h.even)

-- the same in a world that has this FRAM
pub world_word : (b : BoardValue) (x : World) (a : ℕ) → x.fram ≡ (outside_of b).fram → IsFramWord a → a < handler_place → word_in b.fram a ≡ x.fram a
world_word b x a e h l = sym (fram_word b a h l) ∙ ap (λ f. f a) (sym e)

-- and a shared number
abbrev IsSeen : ℕ → Type 0
IsSeen a = IsFramWord a × (a < handler_place)

same_number : (b : BoardValue) (x : World) (a : ℕ) (long : Bool) → x.fram ≡ (outside_of b).fram → IsSeen a → (long ≡ true → IsSeen (a + 2))
    → number_at (word_in b.fram) a long ≡ number_at x.fram a long
same_number b x a false e low high = world_word b x a e low.0 low.1
same_number b x a true e low high =
    let h = high refl in ap₂ (λ l h. l + 65536 * h) (world_word b x a e low.0 low.1) (world_word b x (a + 2) e h.0 h.1)

-- a shared number stands in FRAM, in front of the handler
abbrev pub StandsInFront : SharedNumber → Type 0
StandsInFront p = IsSeen p.address × (p.is_long ≡ true → IsSeen (p.address + 2))

world_number : (b : BoardValue) (x : World) (p : SharedNumber) → x.fram ≡ (outside_of b).fram → StandsInFront p
    → number_of (word_in b.fram) p ≡ number_of x.fram p
world_number b x p e h = same_number b x p.address p.is_long e h.0 h.1

-- shared numbers do
abbrev pub AreInFram : List SharedNumber → Type 0
AreInFram [] = Unit {0}
AreInFram (p ∷ ps) = StandsInFront p × AreInFram ps

both_in : (ps qs : List SharedNumber) → AreInFram ps → AreInFram qs → AreInFram (ps ++ qs)
both_in [] qs h k = k
both_in (p ∷ ps) qs h k = (h.0, both_in ps qs h.1 k)

array_in : (name : List ℕ) (a i n : ℕ) → 17408 ≤ a → a % 2 ≡ 0 → a + 2 * n ≤ handler_place → AreInFram (array_words name a i n)
array_in name a i zero l e h = tt
array_in name a i (suc n) l e h = (
  ((record { low = l; high = omega arith; even = e }, omega arith), λ i. cc),
  array_in name (a + 2) (i + 1) n (omega arith) (omega arith) (omega arith),
)

scalar_low : (t : ValueType) (a : ℕ) → a + 2 * scalar_words t ≤ handler_place → a < handler_place
scalar_low value_type.Unsigned a l = omega arith
scalar_low value_type.Int a l = omega arith
scalar_low value_type.Long a l = omega arith

scalar_high : (t : ValueType) (a : ℕ) → a + 2 * scalar_words t ≤ handler_place → is_long t ≡ true → a + 2 < handler_place
scalar_high value_type.Unsigned a l e = absurd cc
scalar_high value_type.Int a l e = absurd cc
scalar_high value_type.Long a l e = omega arith

variable_in : (name : List ℕ) (a : ℕ) (t : ValueType) (o : Option ℕ) → IsFramWord a → fits a (word_count t o) ≡ true
    → a + 2 * word_count t o ≤ handler_place → AreInFram (variable_numbers name a t o)
variable_in name a t None h f l = (((h, scalar_low t a l), λ e. (high_fits t a h f e, scalar_high t a l e)), tt)
variable_in name a t (Some n) h f l = array_in name a 0 n h.low h.even l

pub shared_in : (vs : List Variable) → All IsVariable vs → All (λ v. v.address + 2 * word_count v.value_type v.length ≤ handler_place) vs
    → AreInFram (shared_numbers vs)
shared_in [] all front = tt
shared_in (v ∷ vs) all front =
    let here : IsVariable v = all 0 v (omega arith) in
    both_in (variable_numbers v.name v.address v.value_type v.length) (shared_numbers vs)
    (variable_in v.name v.address v.value_type v.length here.address here.fits (front 0 v (omega arith)))
    (shared_in vs (λ i d l. all (suc i) d (omega arith)) (λ i d l. front (suc i) d (omega arith)))

pub values_same : (b : BoardValue) (x : World) (ps : List SharedNumber) → x.fram ≡ (outside_of b).fram → AreInFram ps
    → values_in b.fram ps ≡ world_values x ps
values_same b x [] e h = refl
values_same b x (p ∷ ps) e h = ap₂ (λ w ws. w ∷ ws) (world_number b x p e h.0) (values_same b x ps e h.1)

pub changes_same : (b : BoardValue) (x y : World) (ps : List SharedNumber) → y.fram ≡ (outside_of b).fram → AreInFram ps
    → changed_lines ps (world_values x ps) b.fram ≡ change_lines ps x y
changes_same b x y [] e h = refl
changes_same b x y (p ∷ ps) e h =
    ap₂ (λ a c. a ++ c) (ap (changed_line p (number_of x.fram p)) (world_number b y p e h.0)) (changes_same b x y ps e h.1)
