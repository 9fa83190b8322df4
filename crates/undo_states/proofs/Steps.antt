-- Facts of each world along effects.
use Rattle.std.proofs.Common.{◌≡◌, ℕ, List, [], ◌∷◌, ◌++◌, refl, sym, ap, ◌∙◌, subst, ⊎_elim}
use Rattle.std.proofs.lemmas.Bool.{cases_eq}
use Rattle.fram_board.specs.Effects.{Effect, Store, Take, Outside}
use Rattle.machine_effects.specs.World.{World, put, world_after_one, world_after, EachStore}
use Rattle.machine_effects.proofs.Interface.{put_same, put_other}
use Rattle.crash_rules.specs.Model.{HoldsThroughout, IsElsewhere}
use Rattle.undo_effects.proofs.Interface.{put_again, put_apart}

-- a fact behind all effects, and what follows from it
pub at_end : (P Q : World → Type 0) → ((y : World) → P y → Q y) → (es : List Effect) (x : World) → HoldsThroughout P es x → Q (world_after es x)
at_end P Q h [] x p = h x p
at_end P Q h (e ∷ es) x p = at_end P Q h es (world_after_one e x) p.1

-- a word that is stored nowhere
pub stays_through : (a w : ℕ) (es : List Effect) (x : World) → EachStore (IsElsewhere a) es → x.fram a ≡ w → HoldsThroughout (λ y. y.fram a ≡ w) es x
stays_through a w [] x h e = e
stays_through a w (Store b u ∷ es) x h e =
    (e, stays_through a w es (world_after_one (Store b u) x) h.1 (put_other x.fram b u a (λ q. h.0 (sym q)) ∙ e))
stays_through a w (Take u ∷ es) x h e = (e, stays_through a w es x h.1 e)
stays_through a w (Outside o ∷ es) x h e = (e, stays_through a w es (world_after_one (Outside o) x) h.1 e)

-- a word to which nothing else is stored than what it is
pub same_through : (a w : ℕ) (es : List Effect) (x : World) → EachStore (λ b u. b ≡ a → u ≡ w) es → x.fram a ≡ w → HoldsThroughout (λ y. y.fram a ≡ w) es x
same_through a w [] x h e = e
same_through a w (Store b u ∷ es) x h e = (
  e,
  same_through a w es (world_after_one (Store b u) x) h.1
      (⊎_elim {C = put x.fram b u a ≡ w} (λ q. ap (put x.fram b u) q ∙ put_same x.fram b u ∙ h.0 (sym q)) (λ n. put_other x.fram b u a n ∙ e) (cases_eq a b)),
)
same_through a w (Take u ∷ es) x h e = (e, same_through a w es x h.1 e)
same_through a w (Outside o ∷ es) x h e = (e, same_through a w es (world_after_one (Outside o) x) h.1 e)

-- the world behind a store of what is there already
store_again : (a w : ℕ) (x : World) → x.fram a ≡ w → world_after_one (Store a w) x ≡ x
store_again a w x e =
    ap (λ u. record x { fram = put x.fram a u }) (sym e) ∙ ap (λ f. record x { fram = f }) (put_again x.fram a)

-- such a store may be left out, or be there
module _ (a w : ℕ) (after : List Effect) where
  pub without : (P : World → Type 0) (es : List Effect) (x : World) → (world_after es x).fram a ≡ w → HoldsThroughout P (es ++ (Store a w ∷ after)) x
      → HoldsThroughout P (es ++ after) x
  without P [] x e h = subst (HoldsThroughout P after) (store_again a w x e) h.1
  without P (d ∷ es) x e h = (h.0, without P es (world_after_one d x) e h.1)

  pub same_without : (es : List Effect) (x : World) → (world_after es x).fram a ≡ w → world_after (es ++ (Store a w ∷ after)) x ≡ world_after (es ++ after) x
  same_without [] x e = ap (world_after after) (store_again a w x e)
  same_without (d ∷ es) x e = same_without es (world_after_one d x) e

-- a world with another word at an address
abbrev pub world_with : ℕ → ℕ → World → World
world_with a w x = record x { fram = put x.fram a w }

-- effects that store nothing there: what holds along them with that word there, and the world behind them
module _ (a w : ℕ) (P : World → Type 0) where
  pub through_with : (es : List Effect) (x : World) → EachStore (IsElsewhere a) es → HoldsThroughout P es (world_with a w x)
      → HoldsThroughout (λ y. P (world_with a w y)) es x
  through_with [] x h k = k
  through_with (Store b u ∷ es) x h k = (
    k.0,
    through_with es (world_after_one (Store b u) x) h.1
        (subst (λ f. HoldsThroughout P es (record x { fram = f })) (put_apart x.fram a w b u (λ q. h.0 (sym q))) k.1),
  )
  through_with (Take u ∷ es) x h k = (k.0, through_with es x h.1 k.1)
  through_with (Outside o ∷ es) x h k = (k.0, through_with es (world_after_one (Outside o) x) h.1 k.1)

pub after_with : (a w : ℕ) (es : List Effect) (x : World) → EachStore (IsElsewhere a) es → world_after es (world_with a w x) ≡ world_with a w (world_after es x)
after_with a w [] x h = refl
after_with a w (Store b u ∷ es) x h =
    ap (λ f. world_after es (record x { fram = f })) (put_apart x.fram a w b u (λ q. h.0 (sym q))) ∙ after_with a w es (world_after_one (Store b u) x) h.1
after_with a w (Take u ∷ es) x h = after_with a w es x h.1
after_with a w (Outside o ∷ es) x h = after_with a w es (world_after_one (Outside o) x) h.1
