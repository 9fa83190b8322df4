-- Laws of tests, by trying each answer, that the sums of accesses and of assignments share.
use Rattle.std.proofs.Common.{◌≡◌, Bool, false, ◌&&◌, ◌||◌, refl}
use Rattle.path_sums.proofs.Taut.{agree}

-- the shape of a test of both parts: mine, or behind the first that lets by
abbrev pub late : Bool → Bool → Bool → Bool
late a by b = a || (by && b)

-- nothing behind a part
pub late_none : (a f : Bool) → late a f false ≡ a
late_none = agree 2 (λ a f. late a f false) (λ a f. a) refl

-- three parts, one behind another
pub late_assoc : (a f b g c : Bool) → late (late a f b) (f && g) c ≡ late a f (late b g c)
late_assoc = agree 5 (λ a f b g c. late (late a f b) (f && g) c) (λ a f b g c. late a f (late b g c)) refl

-- a test of either, within one of both
pub and_or : (a b c : Bool) → (a && (b || c)) ≡ ((a && b) || (a && c))
and_or = agree 3 (λ a b c. a && (b || c)) (λ a b c. (a && b) || (a && c)) refl

-- either of two parts behind one
pub late_or : (a f b c : Bool) → late a f (b || c) ≡ (late a f b || late a f c)
late_or = agree 4 (λ a f b c. late a f (b || c)) (λ a f b c. late a f b || late a f c) refl

-- a test of both, within one of either
pub or_and : (a b c : Bool) → ((a || b) && c) ≡ ((a && c) || (b && c))
or_and = agree 3 (λ a b c. (a || b) && c) (λ a b c. (a && c) || (b && c)) refl

-- a part behind either of two
pub or_late : (a f b g c : Bool) → late (a || b) (f || g) c ≡ (late a f c || late b g c)
or_late = agree 5 (λ a f b g c. late (a || b) (f || g) c) (λ a f b g c. late a f c || late b g c) refl

-- the same test three times
pub and_cube : (a : Bool) → (a && (a && a)) ≡ (a && a)
and_cube = agree 1 (λ a. a && (a && a)) (λ a. a && a) refl

-- the same part three times
pub late_cube : (a f : Bool) → late a f (late a f a) ≡ late a f a
late_cube = agree 2 (λ a f. late a f (late a f a)) (λ a f. late a f a) refl
