-- The pairs that a commit list names.
use Rattle.task_attempts.proofs.Names.{◌≡◌, ℕ, zero, suc, ◌<◌, List, [], ◌∷◌, length, map, get_or, sym, ap, ⊎_elim, inl, inr, refl, arith, Contains, CopyPair}
use Rattle.task_attempts.proofs.Names.{IsAmong}

-- pairs of other things
module _ {X : Type 0} (f : X → CopyPair) where
  pub among_map : (xs : List X) (q : CopyPair) → IsAmong (map f xs) q → (x : X) × Contains xs x × (q ≡ f x)
  among_map [] q h = absurd h
  among_map (x ∷ xs) q h =
      ⊎_elim {C = (y : X) × Contains (x ∷ xs) y × (q ≡ f y)}
      (λ e. (x, (0, omega arith, refl), e))
      (λ k. let r = among_map xs q k in let l = r.1.1 in (r.0, (suc r.1.0, omega (arith, l), r.1.2), r.2))
      h

  pub map_among : (xs : List X) (x : X) → Contains xs x → IsAmong (map f xs) (f x)
  map_among xs x h = go xs h.0 h.1 h.2
    where
      go : (xs : List X) (k : ℕ) → k < length xs → get_or xs k x ≡ x → IsAmong (map f xs) (f x)
      go [] k l e = absurd (omega (arith, l))
      go (u ∷ more) zero l e = inl (ap f (sym e))
      go (u ∷ more) (suc k) l e = inr (go more k (omega (arith, l)) e)
