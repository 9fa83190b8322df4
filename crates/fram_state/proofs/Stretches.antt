-- Where the first stretch that has an address ends.
use Rattle.std.proofs.Common.{◌≡◌, ◌≤◌, ℕ, ◌||◌, Bool, true, false, cond, List, [], ◌∷◌, Option, Some, None, refl, sym, ap, ◌∙◌, subst, arith}
use Rattle.std.specs.Prelude.{find, option_map, nat_le, nat_lt, IfSome, IfNone}
use Rattle.std.proofs.lemmas.Bool.{ltb-true, lt-ltb, leb-true, le-leb, and_parts, and_from}
use Rattle.std.proofs.Math.Bool.{or-true}
use Rattle.std.specs.List.{list_any}
use Rattle.image_text.specs.image_map.declared.parts.RingPlaces.{RingPlaces}
use Rattle.image_text.specs.image_map.MapValue.{MapValue}
use Rattle.fram_state.specs.declared.stretch.Stretch.{Stretch}
use Rattle.fram_state.specs.Stretch.{holds, is_held, held_until, AllUpTo}
use Rattle.fram_state.specs.Named.{variable_words, runtime_words, buffers, ring_parts, is_in_ring, ring_until, is_shared, shared_until, is_named}

-- a stretch that has an address has all behind it, up to its end
pub held_on : (s : Stretch) (a : ℕ) → holds s a ≡ true → AllUpTo (holds s) a s.to
held_on s a h =
    let both : (nat_le s.from a ≡ true) × (nat_lt a s.to ≡ true) = and_parts (nat_le s.from a) (nat_lt a s.to) h in
    let low : s.from ≤ a = leb-true s.from a both.0 in
    record {
      below = ltb-true a s.to both.1;
      each = λ b from to. and_from (nat_le s.from b) (nat_lt b s.to) (le-leb s.from b (omega arith)) (lt-ltb b s.to to);
    }

-- one that passes a test passes that or another one
pub or_first : (p q : ℕ → Bool) (a end : ℕ) → AllUpTo p a end → AllUpTo (λ b. p b || q b) a end
or_first p q a end h = record { below = h.below; each = λ b from to. rw (h.each b from to) refl }

pub or_second : (p q : ℕ → Bool) (a end : ℕ) → AllUpTo q a end → AllUpTo (λ b. p b || q b) a end
or_second p q a end h = record { below = h.below; each = λ b from to. rw (h.each b from to) (or-true (p b)) }

-- ---- the first of things that each have a stretch
module _ {X : Type 0} (stretch : X → Stretch) where
  -- all up to its end are in some
  pub held_some : (xs : List X) (a end : ℕ) → option_map (λ x. (stretch x).to) (find (λ x. holds (stretch x) a) xs) ≡ Some end
      → AllUpTo (λ b. list_any (λ x. holds (stretch x) b) xs) a end
  held_some [] a end h = cc
  held_some (x ∷ xs) a end h = by_first (held_some xs a end) (holds (stretch x) a) refl h
    where
      by_first : (option_map (λ x. (stretch x).to) (find (λ x. holds (stretch x) a) xs) ≡ Some end
          → AllUpTo (λ b. list_any (λ x. holds (stretch x) b) xs) a end)
          → (b : Bool) → holds (stretch x) a ≡ b → option_map (λ x. (stretch x).to) (cond b (Some x) (find (λ x. holds (stretch x) a) xs)) ≡ Some end
          → AllUpTo (λ b. holds (stretch x) b || list_any (λ x. holds (stretch x) b) xs) a end
      by_first more true e g =
          let is_end : (stretch x).to ≡ end = cc in
          let P : ℕ → Type 0 = λ end. AllUpTo (λ b. holds (stretch x) b || list_any (λ x. holds (stretch x) b) xs) a end in
          subst P is_end (or_first (holds (stretch x)) (λ b. list_any (λ x. holds (stretch x) b) xs) a (stretch x).to (held_on (stretch x) a e))
      by_first more false e g = or_second (holds (stretch x)) (λ b. list_any (λ x. holds (stretch x) b) xs) a end (more g)

  -- where none has the address, it is in none
  pub held_none : (xs : List X) (a : ℕ) → option_map (λ x. (stretch x).to) (find (λ x. holds (stretch x) a) xs) ≡ None
      → list_any (λ x. holds (stretch x) a) xs ≡ false
  held_none [] a h = refl
  held_none (x ∷ xs) a h = by_first (held_none xs a) (holds (stretch x) a) refl h
    where
      by_first : (option_map (λ x. (stretch x).to) (find (λ x. holds (stretch x) a) xs) ≡ None → list_any (λ x. holds (stretch x) a) xs ≡ false)
          → (b : Bool) → holds (stretch x) a ≡ b → option_map (λ x. (stretch x).to) (cond b (Some x) (find (λ x. holds (stretch x) a) xs)) ≡ None
          → (holds (stretch x) a || list_any (λ x. holds (stretch x) a) xs) ≡ false
      by_first more true e g = cc
      by_first more false e g = ap (λ b. b || list_any (λ x. holds (stretch x) a) xs) e ∙ more g

-- ---- a ring that may be there
ring_held : (o : Option RingPlaces) (a end : ℕ) → ring_until o a ≡ Some end → AllUpTo (is_in_ring o) a end
ring_held None a end h = cc
ring_held (Some r) a end h = held_some (λ s. s) (ring_parts r) a end h

not_in_ring : (o : Option RingPlaces) (a : ℕ) → ring_until o a ≡ None → is_in_ring o a ≡ false
not_in_ring None a h = refl
not_in_ring (Some r) a h = held_none (λ s. s) (ring_parts r) a h

-- ---- what a map names

-- behind the words of the runtime and the buffers
abbrev in_ring_or_shared : MapValue → ℕ → Bool
in_ring_or_shared m a = is_in_ring m.ring a || is_shared m.variables a

-- and all behind those of the runtime
abbrev behind_runtime : MapValue → ℕ → Bool
behind_runtime m a = is_held (buffers m) a || in_ring_or_shared m a

last_named : (m : MapValue) (a end : ℕ) → AllUpTo (in_ring_or_shared m) a end → AllUpTo (is_named m) a end
last_named m a end h =
    or_second (is_held (runtime_words m.words)) (behind_runtime m) a end (or_second (is_held (buffers m)) (in_ring_or_shared m) a end h)

pub runtime_named : (m : MapValue) (a end : ℕ) → held_until (runtime_words m.words) a ≡ Some end → AllUpTo (is_named m) a end
runtime_named m a end h =
    or_first (is_held (runtime_words m.words)) (behind_runtime m) a end (held_some (λ s. s) (runtime_words m.words) a end h)

pub buffers_named : (m : MapValue) (a end : ℕ) → held_until (buffers m) a ≡ Some end → AllUpTo (is_named m) a end
buffers_named m a end h =
    or_second (is_held (runtime_words m.words)) (behind_runtime m) a end
    (or_first (is_held (buffers m)) (in_ring_or_shared m) a end (held_some (λ s. s) (buffers m) a end h))

pub ring_named : (m : MapValue) (a end : ℕ) → ring_until m.ring a ≡ Some end → AllUpTo (is_named m) a end
ring_named m a end h = last_named m a end (or_first (is_in_ring m.ring) (is_shared m.variables) a end (ring_held m.ring a end h))

pub shared_named : (m : MapValue) (a end : ℕ) → shared_until m.variables a ≡ Some end → AllUpTo (is_named m) a end
shared_named m a end h =
    last_named m a end (or_second (is_in_ring m.ring) (is_shared m.variables) a end (held_some variable_words m.variables a end h))

pub none_named : (m : MapValue) (a : ℕ) → held_until (runtime_words m.words) a ≡ None → held_until (buffers m) a ≡ None → ring_until m.ring a ≡ None
    → shared_until m.variables a ≡ None → is_named m a ≡ false
none_named m a runtime lists ring variables =
    ap (λ b. b || behind_runtime m a) (held_none (λ s. s) (runtime_words m.words) a runtime)
    ∙ ap (λ b. b || in_ring_or_shared m a) (held_none (λ s. s) (buffers m) a lists)
    ∙ ap (λ b. b || is_shared m.variables a) (not_in_ring m.ring a ring) ∙ held_none variable_words m.variables a variables

-- what is answered where only a variable may have the address
pub last_some : (m : MapValue) (a : ℕ) (r : Option ℕ) → r ≡ shared_until m.variables a → IfSome r (AllUpTo (is_named m) a)
last_some m a None e = tt
last_some m a (Some end) e = shared_named m a end (sym e)

pub last_none : (m : MapValue) (a : ℕ) (r : Option ℕ) → held_until (runtime_words m.words) a ≡ None → held_until (buffers m) a ≡ None
    → ring_until m.ring a ≡ None → r ≡ shared_until m.variables a → IfNone r (is_named m a ≡ false)
last_none m a None runtime lists ring e = none_named m a runtime lists ring (sym e)
last_none m a (Some end) runtime lists ring e = tt

-- place by place
pub ruleset named_by_places = (runtime_named, buffers_named, ring_named, last_some, last_none)
