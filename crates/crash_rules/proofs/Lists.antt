-- Prefixes of effects, worlds behind them, and positions of readings.
use Rattle.std.proofs.Common.{◌≡◌, ℕ, ◌+◌, ◌-◌, List, [], ◌∷◌, ◌++◌, length, take, drop, refl, sym, ap, ◌∙◌, subst, ⊎_elim, inl, inr, ◌⊎◌, arith, append-nil}
use Rattle.std.proofs.Math.Seq.{take-append_seam}
use Rattle.std.specs.List.{slice_range}
use Rattle.machine_effects.specs.fram_board.Effects.{Effect, Store, Take, Outside}
use Rattle.machine_effects.specs.World.{World, world_after_one, world_after, fram_after_one, fram_after, IsPrefix, EachStore}
use Rattle.machine_effects.proofs.Interface.{each_store-front}
use Rattle.crash_rules.specs.Model.{HoldsThroughout}

one_fram : (e : Effect) (x : World) → (world_after_one e x).fram ≡ fram_after_one e x.fram
one_fram (Store a w) x = refl
one_fram (Take w) x = refl
one_fram (Outside o) x = refl

-- FRAM of the world behind effects
pub world_fram : (es : List Effect) (x : World) → (world_after es x).fram ≡ fram_after es x.fram
world_fram [] x = refl
world_fram (e ∷ es) x = world_fram es (world_after_one e x) ∙ ap (fram_after es) (one_fram e x)

-- a fact of each store, of a prefix
pub each_prefix : (P : ℕ → ℕ → Type 0) (es all : List Effect) → IsPrefix es all → EachStore P all → EachStore P es
each_prefix P es all p h = each_store-front P es p.rest (subst (EachStore P) (sym p.joins) h)

-- what holds throughout holds behind the first part
pub holds_front : (P : World → Type 0) (es fs : List Effect) (x : World) → HoldsThroughout P (es ++ fs) x → P (world_after es x)
holds_front P [] [] x h = h
holds_front P [] (e ∷ fs) x h = h.0
holds_front P (e ∷ es) fs x h = holds_front P es fs (world_after_one e x) h.1

-- behind a prefix
pub holds_prefix : (P : World → Type 0) (es all : List Effect) (x : World) → IsPrefix es all → HoldsThroughout P all x → P (world_after es x)
holds_prefix P es all x p h = holds_front P es p.rest x (subst (λ l. HoldsThroughout P l x) (sym p.joins) h)

-- and behind all
pub holds_end : (P : World → Type 0) (es : List Effect) (x : World) → HoldsThroughout P es x → P (world_after es x)
holds_end P es x h = holds_prefix P es es x (record { rest = []; joins = append-nil es }) h

-- what holds throughout two parts holds throughout both
pub holds-append : (P : World → Type 0) (es fs : List Effect) (x : World) → HoldsThroughout P es x → HoldsThroughout P fs (world_after es x)
    → HoldsThroughout P (es ++ fs) x
holds-append P [] fs x a b = b
holds-append P (e ∷ es) fs x a b = (a.0, holds-append P es fs (world_after_one e x) a.1 b)

-- two facts that hold throughout are one that follows from both
pub holds_both : (P Q R : World → Type 0) → ((y : World) → P y → Q y → R y) → (es : List Effect) (x : World) → HoldsThroughout P es x
    → HoldsThroughout Q es x → HoldsThroughout R es x
holds_both P Q R f [] x h k = f x h k
holds_both P Q R f (e ∷ es) x h k = (f x h.0 k.0, holds_both P Q R f es (world_after_one e x) h.1 k.1)

-- a prefix of two parts ends in the first one or in the second
pub prefix_cases : (es a b : List Effect) → IsPrefix es (a ++ b) → (IsPrefix es a) ⊎ ((fs : List Effect) × (es ≡ a ++ fs) × IsPrefix fs b)
prefix_cases es [] b p = inr (es, refl, p)
prefix_cases [] (x ∷ a) b p = inl (record { rest = x ∷ a; joins = refl })
prefix_cases (e ∷ es) (x ∷ a) b p =
    let h : e ≡ x = cc p.joins in
    let t : es ++ p.rest ≡ a ++ b = cc p.joins in
    ⊎_elim
    (λ q. inl (record { rest = q.rest; joins = ap (λ y. y ∷ (es ++ q.rest)) h ∙ ap (λ l. x ∷ l) q.joins }))
    (λ q. inr (q.0, ap (λ y. y ∷ es) h ∙ ap (λ l. x ∷ l) q.1, q.2))
    (prefix_cases es a b (record { rest = p.rest; joins = t }))

-- a prefix of one effect is none or all of it
pub prefix_one : (es : List Effect) (e : Effect) → IsPrefix es (e ∷ []) → (es ≡ []) ⊎ (es ≡ e ∷ [])
prefix_one [] e p = inl refl
prefix_one (x ∷ []) e p = let h : x ≡ e = cc p.joins in inr (ap (λ y. y ∷ []) h)
prefix_one (x ∷ (y ∷ es)) e p = cc p.joins

-- nothing is a prefix of all
pub nothing_first : (all : List Effect) → IsPrefix [] all
nothing_first all = record { rest = all; joins = refl }

-- readings from a position on that begin with these are these up to their end
pub range_of : (readings pre left : List ℕ) (from to : ℕ) → pre ++ left ≡ drop from readings → to ≡ from + length pre → slice_range readings from to ≡ pre
range_of readings pre left from to e t =
    let n : to - from ≡ length pre = omega (arith, t) in
    ap (λ k. take k (drop from readings)) n ∙ ap (take (length pre)) (sym e) ∙ take-append_seam pre left
