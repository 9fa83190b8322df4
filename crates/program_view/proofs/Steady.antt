-- FRAM without HEAD and the ring.
use Rattle.std.proofs.Common.{◌≡◌, ◌<◌, ℕ, refl, sym, ap, ◌∙◌, arith, Bool, true, false, if◌then◌else◌, List, [], ◌∷◌, ◌==◌}
use Rattle.std.proofs.Math.Path.{fun_ext}
use Rattle.std.proofs.lemmas.Bool.Decides.{nat_tests}
use Rattle.event_places.specs.Places.{handler_place, is_ring}
use Rattle.fram_board.specs.Effects.{Effect, Store, Take, Outside}
use Rattle.machine_effects.specs.World.{put, fram_after}
use Rattle.program_view.specs.View.{steady}

-- in front of the handler is no ring
low_off : (a : ℕ) → a < handler_place → is_ring a ≡ false
low_off a l = grind (arith, nat_tests)

pub steady_off : (f : ℕ → ℕ) (a : ℕ) → is_ring a ≡ false → steady f a ≡ f a
steady_off f a off = ap (λ (c : Bool). if c then 0 else f a) off

pub steady_low : (f : ℕ → ℕ) (a : ℕ) → a < handler_place → steady f a ≡ f a
steady_low f a l = steady_off f a (low_off a l)

either_steady : (c : Bool) (x y : ℕ) → (c ≡ false → x ≡ y) → (if c then 0 else x) ≡ (if c then 0 else y)
either_steady true x y h = refl
either_steady false x y h = h refl

-- what is the same off the ring is the same steadily
pub same_steady : (f g : ℕ → ℕ) → ((a : ℕ) → is_ring a ≡ false → f a ≡ g a) → steady f ≡ steady g
same_steady f g h = fun_ext (λ a. either_steady (is_ring a) (f a) (g a) (h a))

-- effects leave a word as it was, or make it another, whatever stood there
data LeftOrMade (es : List Effect) (a : ℕ) : Type 0 where
  IsLeft : ((f : ℕ → ℕ) → fram_after es f a ≡ f a) → LeftOrMade es a
  IsMadeOf : (w : ℕ) → ((f : ℕ → ℕ) → fram_after es f a ≡ w) → LeftOrMade es a

behind_store : (d w : ℕ) (es : List Effect) (a : ℕ) → LeftOrMade es a → (c : Bool) → (a == d) ≡ c → LeftOrMade (Store d w ∷ es) a
behind_store d w es a (IsMadeOf v h) c e = IsMadeOf v (λ f. h (put f d w))
behind_store d w es a (IsLeft h) true e = IsMadeOf w (λ f. h (put f d w) ∙ ap (λ (c : Bool). if c then w else f a) e)
behind_store d w es a (IsLeft h) false e = IsLeft (λ f. h (put f d w) ∙ ap (λ (c : Bool). if c then w else f a) e)

behind_other : (e : Effect) (es : List Effect) (a : ℕ) → LeftOrMade es a → ((f : ℕ → ℕ) → fram_after (e ∷ es) f ≡ fram_after es f) → LeftOrMade (e ∷ es) a
behind_other e es a (IsLeft h) same = IsLeft (λ f. ap (λ g. g a) (same f) ∙ h f)
behind_other e es a (IsMadeOf w h) same = IsMadeOf w (λ f. ap (λ g. g a) (same f) ∙ h f)

left_or_made : (es : List Effect) (a : ℕ) → LeftOrMade es a
left_or_made [] a = IsLeft (λ f. refl)
left_or_made (Store d w ∷ es) a = behind_store d w es a (left_or_made es a) (a == d) refl
left_or_made (Take w ∷ es) a = behind_other (Take w) es a (left_or_made es a) (λ f. refl)
left_or_made (Outside o ∷ es) a = behind_other (Outside o) es a (left_or_made es a) (λ f. refl)

left_by : (es : List Effect) (f g : ℕ → ℕ) (a : ℕ) → f a ≡ g a → fram_after es f a ≡ f a → LeftOrMade es a → fram_after es g a ≡ g a
left_by es f g a same left (IsLeft h) = h g
left_by es f g a same left (IsMadeOf w h) = h g ∙ sym (h f) ∙ left ∙ same

-- where effects leave a word of one FRAM, they leave it in another that has the same word
pub left_alike : (es : List Effect) (f g : ℕ → ℕ) (a : ℕ) → f a ≡ g a → fram_after es f a ≡ f a → fram_after es g a ≡ g a
left_alike es f g a same left = left_by es f g a same left (left_or_made es a)
