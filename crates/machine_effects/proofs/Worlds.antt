-- The world after effects, by its parts and one stretch after another.
use Rattle.std.proofs.Common.{◌≡◌, ◌≢◌, cond, ne_eqb, ℕ, List, [], ◌∷◌, ◌++◌, refl, sym, ap, ◌∙◌, map, eq-eqb, if◌then◌else◌, append_assoc}
use Rattle.fram_board.specs.Effects.{Effect, Store, Take, Outside}
use Rattle.machine_effects.specs.World.{World, put, accepted_behind, fram_after_one, fram_after, accepted_after_one, accepted_after, world_after_one}
use Rattle.machine_effects.specs.World.{world_after}
use Rattle.machine_effects.specs.World.{readings_taken, looks_of, looks_taken, EachStore, OfStore}
use Rattle.machine_effects.specs.Laws.{WorldByItsParts}

-- FRAM behind two parts
pub fram_after-append : (es fs : List Effect) (f : ℕ → ℕ) → fram_after (es ++ fs) f ≡ fram_after fs (fram_after es f)
fram_after-append [] fs f = refl
fram_after-append (e ∷ es) fs f = fram_after-append es fs (fram_after_one e f)

pub accepted_after-append : (es fs : List Effect) (ws : List ℕ) → accepted_after (es ++ fs) ws ≡ accepted_after fs (accepted_after es ws)
accepted_after-append [] fs ws = refl
accepted_after-append (e ∷ es) fs ws = accepted_after-append es fs (accepted_after_one e ws)

-- the world behind two parts
pub world_after-append : (es fs : List Effect) (x : World) → world_after (es ++ fs) x ≡ world_after fs (world_after es x)
world_after-append [] fs x = refl
world_after-append (e ∷ es) fs x = world_after-append es fs (world_after_one e x)

-- the readings of two parts
pub readings_taken-append : (es fs : List Effect) → readings_taken (es ++ fs) ≡ readings_taken es ++ readings_taken fs
readings_taken-append [] fs = refl
readings_taken-append (Store a w ∷ es) fs = readings_taken-append es fs
readings_taken-append (Take w ∷ es) fs = ap (λ l. w ∷ l) (readings_taken-append es fs)
readings_taken-append (Outside o ∷ es) fs = readings_taken-append es fs

-- the looks of two parts
pub looks_taken-append : (es fs : List Effect) → looks_taken (es ++ fs) ≡ looks_taken es ++ looks_taken fs
looks_taken-append [] fs = refl
looks_taken-append (Store a w ∷ es) fs = looks_taken-append es fs
looks_taken-append (Take w ∷ es) fs = looks_taken-append es fs
looks_taken-append (Outside o ∷ es) fs =
    ap (λ l. looks_of o ++ l) (looks_taken-append es fs) ∙ sym (append_assoc (looks_of o) (looks_taken es) (looks_taken fs))

-- a fact of each store, of both parts
pub each_store-append : (P : ℕ → ℕ → Type 0) (es fs : List Effect) → EachStore P es → EachStore P fs → EachStore P (es ++ fs)
each_store-append P [] fs h k = k
each_store-append P (e ∷ es) fs h k = (h.0, each_store-append P es fs h.1 k)

-- a fact of each store, of the first part
pub each_store-front : (P : ℕ → ℕ → Type 0) (es fs : List Effect) → EachStore P (es ++ fs) → EachStore P es
each_store-front P [] fs h = tt
each_store-front P (e ∷ es) fs h = (h.0, each_store-front P es fs h.1)

-- a fact of each store, of the second part
pub each_store-back : (P : ℕ → ℕ → Type 0) (es fs : List Effect) → EachStore P (es ++ fs) → EachStore P fs
each_store-back P [] fs h = h
each_store-back P (e ∷ es) fs h = each_store-back P es fs h.1

-- a word on which no store falls stays
untouched_one : (e : Effect) (x : ℕ) (f : ℕ → ℕ) → OfStore (λ a w. a ≢ x) e → fram_after_one e f x ≡ f x
untouched_one (Store a w) x f h = ap (λ b. cond b w (f x)) (ne_eqb x a (λ e. h (sym e)))
untouched_one (Take w) x f h = refl
untouched_one (Outside o) x f h = refl

-- FRAM where nothing is stored
pub fram_untouched : (es : List Effect) (x : ℕ) (f : ℕ → ℕ) → EachStore (λ a w. a ≢ x) es → fram_after es f x ≡ f x
fram_untouched [] x f h = refl
fram_untouched (e ∷ es) x f h = fram_untouched es x (fram_after_one e f) h.1 ∙ untouched_one e x f h.0

-- effects that only take
pub taking_keeps_fram : (ws : List ℕ) (f : ℕ → ℕ) → fram_after (map (λ w. Take w) ws) f ≡ f
taking_keeps_fram [] f = refl
taking_keeps_fram (w ∷ ws) f = taking_keeps_fram ws f

-- takes take their readings
pub taking_takes : (ws : List ℕ) → readings_taken (map (λ w. Take w) ws) ≡ ws
taking_takes [] = refl
taking_takes (w ∷ ws) = ap (λ l. w ∷ l) (taking_takes ws)

-- and no look
pub taking_looks : (ws : List ℕ) → looks_taken (map (λ w. Take w) ws) ≡ []
taking_looks [] = refl
taking_looks (w ∷ ws) = taking_looks ws

-- the world behind effects, part by part
pub world_by_its_parts : WorldByItsParts
world_by_its_parts [] x = refl
world_by_its_parts (Store a w ∷ es) x = world_by_its_parts es (record x { fram = put x.fram a w })
world_by_its_parts (Take w ∷ es) x = world_by_its_parts es x
world_by_its_parts (Outside o ∷ es) x = world_by_its_parts es (record x { accepted = accepted_behind o x.accepted })

-- a word where it was put
pub put_same : {A : Type 0} (f : ℕ → A) (a : ℕ) (w : A) → put f a w a ≡ w
put_same f a w = ap (λ b. cond b w (f a)) (eq-eqb a a refl)

-- and what stands elsewhere
pub put_other : {A : Type 0} (f : ℕ → A) (a : ℕ) (w : A) (x : ℕ) → (x ≡ a → ⊥) → put f a w x ≡ f x
put_other f a w x ne = ap (λ b. cond b w (f x)) (ne_eqb x a ne)

-- a word where it was put, by an address that is known to be the same
pub put_at : {A : Type 0} (f : ℕ → A) (a : ℕ) (w : A) (x : ℕ) → x ≡ a → put f a w x ≡ w
put_at f a w x e = ap (λ b. if b then w else f x) (eq-eqb x a e)
