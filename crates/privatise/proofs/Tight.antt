-- Places in order that leave no room between them stand where their sizes say.
use Rattle.std.proofs.Common.{◌≡◌, ℕ, zero, suc, ◌+◌, ◌*◌, ◌≤◌, Bool, true, false, List, [], ◌∷◌, length, map, refl, sym, ◌∙◌, ap, subst, arith, Some, None}
use Rattle.std.specs.Prelude.{slice_get}
use Rattle.std.specs.List.{flat_map}
use Rattle.task_ast.specs.declared.Extent.{Extent}
use Rattle.task_ast.specs.declared.Extent.TheVariants as extent
use Rattle.task_ast.specs.declared.SharedDeclaration.{SharedDeclaration}
use Rattle.cost_bound.specs.Allowance.{shared_sum_from, version_part}
use Rattle.memory_map.specs.declared.place.VariablePlace.{VariablePlace}
use Rattle.memory_map.specs.declared.place.VariablePlace.TheVariants.{Scalar, Array}
use Rattle.privatise.specs.declared.variables.Free.{Free}
use Rattle.memory_map.specs.Places.{scalar_words, AreInOrder, home_region, copy_regions, version_regions}
use Rattle.privatise.specs.Sizes.{home_part, copy_part}
use Rattle.privatise.specs.Layouts.{IsPlaceOf}
use Rattle.privatise.specs.Placing.{place_at}

-- ---- single places

-- addresses in order, so many bytes behind each
abbrev pub IsChain : ℕ → List ℕ → List ℕ → ℕ → Type 0
IsChain from [] [] end = from ≤ end
IsChain from (a ∷ more) (n ∷ ns) end = (from ≤ a) × IsChain (a + n) more ns end
IsChain from [] (_ ∷ _) end = ⊥
IsChain from (_ ∷ _) [] end = ⊥

abbrev pub bytes : List ℕ → ℕ
bytes [] = 0
bytes (n ∷ ns) = n + bytes ns

chain_end : (from : ℕ) (xs ns : List ℕ) (end : ℕ) → IsChain from xs ns end → from + bytes ns ≤ end
chain_end from [] [] end h = omega (arith, h)
chain_end from [] (n ∷ ns) end h = absurd h
chain_end from (x ∷ xs) [] end h = absurd h
chain_end from (x ∷ xs) (n ∷ ns) end (l, rest) = let e = chain_end (x + n) xs ns end rest in omega (arith, l, e)

first_is : (from x n rest end : ℕ) → from ≤ x → x + n + rest ≤ end → end ≤ from + (n + rest) → x ≡ from
first_is from x n rest end a b c = omega (arith, a, b, c)

pub same_chain : (from : ℕ) (xs ys ns : List ℕ) (end : ℕ) → end ≤ from + bytes ns → IsChain from xs ns end → IsChain from ys ns end → xs ≡ ys
same_chain from [] [] ns end t a b = refl
same_chain from [] (y ∷ ys) [] end t a b = absurd b
same_chain from [] (y ∷ ys) (n ∷ ns) end t a b = absurd a
same_chain from (x ∷ xs) [] [] end t a b = absurd a
same_chain from (x ∷ xs) [] (n ∷ ns) end t a b = absurd b
same_chain from (x ∷ xs) (y ∷ ys) [] end t a b = absurd a
same_chain from (x ∷ xs) (y ∷ ys) (n ∷ ns) end t (l, a) (m, b) =
    let ex : x ≡ from = first_is from x n (bytes ns) end l (chain_end (x + n) xs ns end a) t in
    let ey : y ≡ from = first_is from y n (bytes ns) end m (chain_end (y + n) ys ns end b) t in
    let rest = same_chain (from + n) xs ys ns end (omega (arith, t)) (subst (λ z. IsChain (z + n) xs ns end) ex a)
    (subst (λ z. IsChain (z + n) ys ns end) ey b) in
    ap (λ z. z ∷ xs) (ex ∙ sym ey) ∙ ap (λ zs. y ∷ zs) rest

-- ---- variables

-- places of the kinds of declarations from a number on
abbrev pub AreOfKinds : (ℕ → Bool) → ℕ → List SharedDeclaration → List VariablePlace → Type 0
AreOfKinds written i [] [] = Unit {0}
AreOfKinds written i (d ∷ ds) (v ∷ vs) = IsPlaceOf (written i) d.extent v × AreOfKinds written (i + 1) ds vs
AreOfKinds written i [] (_ ∷ _) = ⊥
AreOfKinds written i (_ ∷ _) [] = ⊥

pub kinds_from : (written : ℕ → Bool) (i : ℕ) (ds : List SharedDeclaration) (vs : List VariablePlace) → length vs ≡ length ds
    → ((k : ℕ) (d : SharedDeclaration) (v : VariablePlace) → slice_get ds k ≡ Some d → slice_get vs k ≡ Some v → IsPlaceOf (written (i + k)) d.extent v)
    → AreOfKinds written i ds vs
kinds_from written i [] [] e h = tt
kinds_from written i [] (v ∷ vs) e h = absurd (omega (arith, e))
kinds_from written i (d ∷ ds) [] e h = absurd (omega (arith, e))
kinds_from written i (d ∷ ds) (v ∷ vs) e h =
    let zeroth : i + 0 ≡ i = omega arith in (
      subst (λ k. IsPlaceOf (written k) d.extent v) zeroth (h zero d v refl refl),
      kinds_from written (i + 1) ds vs (omega (arith, e)) (λ k x y f g. let next : i + suc k ≡ (i + 1) + k = omega arith in
          subst (λ n. IsPlaceOf (written n) x.extent y) next (h (suc k) x y f g)),
    )

-- the ends of three chains of regions
pub record Ends : Type 0 where
  pub home : ℕ
  pub copy : ℕ
  pub version : ℕ

-- the regions of places from the free addresses on, in order up to the ends
pub record Stand (free : Free) (vs : List VariablePlace) (ends : Ends) : Type 0 where
  pub home : AreInOrder free.home (map home_region vs) ends.home
  pub copy : AreInOrder free.copy (flat_map copy_regions vs) ends.copy
  pub version : AreInOrder free.version (flat_map version_regions vs) ends.version

-- no more room than the sizes of the declarations from a number on
pub record AreTight (written : ℕ → Bool) (i : ℕ) (ds : List SharedDeclaration) (free : Free) (ends : Ends) : Type 0 where
  pub home : ends.home ≤ free.home + 2 * shared_sum_from (λ k e. home_part e) i ds
  pub copy : ends.copy ≤ free.copy + 2 * shared_sum_from (λ k e. copy_part (written k) e) i ds
  pub version : ends.version ≤ free.version + 2 * shared_sum_from (λ k e. version_part (written k) e) i ds

-- the free addresses behind a variable
abbrev pub free_after : Bool → Extent → Free → Free
free_after written e free = record {
  home = free.home + 2 * home_part e;
  copy = free.copy + 2 * copy_part written e;
  version = free.version + 2 * version_part written e;
}

-- the least room that the regions take
pub record TakeRoom (written : ℕ → Bool) (i : ℕ) (ds : List SharedDeclaration) (free : Free) (ends : Ends) : Type 0 where
  pub home : free.home + 2 * shared_sum_from (λ k e. home_part e) i ds ≤ ends.home
  pub copy : free.copy + 2 * shared_sum_from (λ k e. copy_part (written k) e) i ds ≤ ends.copy
  pub version : free.version + 2 * shared_sum_from (λ k e. version_part (written k) e) i ds ≤ ends.version

-- the first variable at its own addresses, and the others behind
pub record Split (written : Bool) (e : Extent) (free : Free) (v : VariablePlace) (vs : List VariablePlace) (ends : Ends) : Type 0 where
  pub at : Free
  pub place : v ≡ place_at written e at
  pub home : free.home ≤ at.home
  pub copy : free.copy ≤ at.copy
  pub version : free.version ≤ at.version
  pub behind : Stand (free_after written e at) vs ends

split : (written : Bool) (e : Extent) (free : Free) (v : VariablePlace) (vs : List VariablePlace) (ends : Ends) → IsPlaceOf written e v
    → Stand free (v ∷ vs) ends → Split written e free v vs ends
split written (extent.Scalar _) free (Scalar home copy width) vs ends k h = record {
  at = record { home = home; copy = copy; version = free.version };
  place = ap (λ w. Scalar home copy w) k;
  home = h.home.0.from;
  copy = h.copy.0.from;
  version = omega arith;
  behind = record {
    home = subst (λ w. AreInOrder (home + 2 * scalar_words w) (map home_region vs) ends.home) k h.home.1;
    copy = subst (λ w. AreInOrder (copy + 2 * scalar_words w) (flat_map copy_regions vs) ends.copy) k h.copy.1;
    version = subst (λ a. AreInOrder a (flat_map version_regions vs) ends.version) (let e : free.version ≡ free.version + 2 * 0 = omega arith in e)
        h.version;
  };
}
split written (extent.Long _) free (Scalar home copy width) vs ends k h = record {
  at = record { home = home; copy = copy; version = free.version };
  place = ap (λ w. Scalar home copy w) k;
  home = h.home.0.from;
  copy = h.copy.0.from;
  version = omega arith;
  behind = record {
    home = subst (λ w. AreInOrder (home + 2 * scalar_words w) (map home_region vs) ends.home) k h.home.1;
    copy = subst (λ w. AreInOrder (copy + 2 * scalar_words w) (flat_map copy_regions vs) ends.copy) k h.copy.1;
    version = subst (λ a. AreInOrder a (flat_map version_regions vs) ends.version) (let e : free.version ≡ free.version + 2 * 0 = omega arith in e)
        h.version;
  };
}
split written (extent.Scalar _) free (Array elements n copies) vs ends k h = absurd k
split written (extent.Long _) free (Array elements n copies) vs ends k h = absurd k
split written (extent.Array n) free (Scalar home copy width) vs ends k h = absurd k
split true (extent.Array n) free (Array elements m None) vs ends k h = absurd (let clash : false ≡ true = k.1 in cc)
split false (extent.Array n) free (Array elements m (Some c)) vs ends k h = absurd (let clash : true ≡ false = k.1 in cc)
split false (extent.Array n) free (Array elements m None) vs ends k h = record {
  at = record { home = elements; copy = free.copy; version = free.version };
  place = ap (λ n. Array elements n None) k.0;
  home = h.home.0.from;
  copy = omega arith;
  version = omega arith;
  behind = record {
    home = subst (λ n. AreInOrder (elements + 2 * n) (map home_region vs) ends.home) k.0 h.home.1;
    copy = subst (λ a. AreInOrder a (flat_map copy_regions vs) ends.copy) (let e : free.copy ≡ free.copy + 2 * 0 = omega arith in e) h.copy;
    version = subst (λ a. AreInOrder a (flat_map version_regions vs) ends.version) (let e : free.version ≡ free.version + 2 * 0 = omega arith in e) h.version;
  };
}
split true (extent.Array n) free (Array elements m (Some c)) vs ends k h = record {
  at = record { home = elements; copy = c.copies; version = c.versions };
  place = ap (λ n. Array elements n (Some c)) k.0;
  home = h.home.0.from;
  copy = h.copy.0.from;
  version = h.version.0.from;
  behind = record {
    home = subst (λ n. AreInOrder (elements + 2 * n) (map home_region vs) ends.home) k.0 h.home.1;
    copy = subst (λ n. AreInOrder (c.copies + 2 * n) (flat_map copy_regions vs) ends.copy) k.0 h.copy.1;
    version = subst (λ n. AreInOrder (c.versions + 2 * n) (flat_map version_regions vs) ends.version) k.0 h.version.1;
  };
}

more_room : (free at part rest end : ℕ) → free ≤ at → (at + 2 * part) + 2 * rest ≤ end → free + 2 * (part + rest) ≤ end
more_room free at part rest end l h = omega (arith, l, h)

take_room : (written : ℕ → Bool) (i : ℕ) (ds : List SharedDeclaration) (free : Free) (vs : List VariablePlace) (ends : Ends) → AreOfKinds written i ds vs
    → Stand free vs ends → TakeRoom written i ds free ends
take_room written i [] free [] ends k h = record {
  home = let x = h.home in omega (arith, x);
  copy = let x = h.copy in omega (arith, x);
  version = let x = h.version in omega (arith, x);
}
take_room written i [] free (v ∷ vs) ends k h = absurd k
take_room written i (d ∷ ds) free [] ends k h = absurd k
take_room written i (d ∷ ds) free (v ∷ vs) ends (here, others) h =
    let s = split (written i) d.extent free v vs ends here h in
    let r = take_room written (i + 1) ds (free_after (written i) d.extent s.at) vs ends others s.behind in
    record {
      home = more_room free.home s.at.home (home_part d.extent) (shared_sum_from (λ k e. home_part e) (i + 1) ds) ends.home s.home r.home;
      copy = more_room free.copy s.at.copy (copy_part (written i) d.extent) (shared_sum_from (λ k e. copy_part (written k) e) (i + 1) ds) ends.copy s.copy
          r.copy;
      version = more_room free.version s.at.version (version_part (written i) d.extent) (shared_sum_from (λ k e. version_part (written k) e) (i + 1) ds)
          ends.version s.version r.version;
    }

exactly : (free at part rest end : ℕ) → free ≤ at → (at + 2 * part) + 2 * rest ≤ end → end ≤ free + 2 * (part + rest) → at ≡ free
exactly free at part rest end l h t = omega (arith, l, h, t)

pub record Exact (written : Bool) (e : Extent) (free : Free) (v : VariablePlace) (vs : List VariablePlace) (ends : Ends) : Type 0 where
  pub place : v ≡ place_at written e free
  pub behind : Stand (free_after written e free) vs ends

exact : (written : ℕ → Bool) (i : ℕ) (d : SharedDeclaration) (ds : List SharedDeclaration) (free : Free) (v : VariablePlace) (vs : List VariablePlace)
    (ends : Ends) → AreTight written i (d ∷ ds) free ends
    → AreOfKinds written i (d ∷ ds) (v ∷ vs) → Stand free (v ∷ vs) ends → Exact (written i) d.extent free v vs ends
exact written i d ds free v vs ends t (here, others) h =
    let s = split (written i) d.extent free v vs ends here h in
    let r = take_room written (i + 1) ds (free_after (written i) d.extent s.at) vs ends others s.behind in
    let home : s.at.home ≡ free.home = exactly free.home s.at.home (home_part d.extent) (shared_sum_from (λ k e. home_part e) (i + 1) ds) ends.home s.home
    r.home t.home in
    let copy : s.at.copy ≡ free.copy = exactly free.copy s.at.copy (copy_part (written i) d.extent)
    (shared_sum_from (λ k e. copy_part (written k) e) (i + 1) ds) ends.copy s.copy r.copy t.copy in
    let version : s.at.version ≡ free.version = exactly free.version s.at.version (version_part (written i) d.extent)
    (shared_sum_from (λ k e. version_part (written k) e) (i + 1) ds) ends.version s.version r.version t.version in
    let same : s.at ≡ free = λ j. record { home = home j; copy = copy j; version = version j } in
    record {
      place = s.place ∙ ap (λ f. place_at (written i) d.extent f) same;
      behind = subst (λ f. Stand (free_after (written i) d.extent f) vs ends) same s.behind;
    }

tight_behind : (written : ℕ → Bool) (i : ℕ) (d : SharedDeclaration) (ds : List SharedDeclaration) (free : Free) (ends : Ends)
    → AreTight written i (d ∷ ds) free ends → AreTight written (i + 1) ds (free_after (written i) d.extent free) ends
tight_behind written i d ds free ends t = record {
  home = let x = t.home in moved free.home (home_part d.extent) (shared_sum_from (λ k e. home_part e) (i + 1) ds) ends.home x;
  copy = let x = t.copy in moved free.copy (copy_part (written i) d.extent) (shared_sum_from (λ k e. copy_part (written k) e) (i + 1) ds) ends.copy x;
  version = let x = t.version in moved free.version (version_part (written i) d.extent) (shared_sum_from (λ k e. version_part (written k) e) (i + 1) ds)
      ends.version x;
}
  where
    moved : (free part rest end : ℕ) → end ≤ free + 2 * (part + rest) → end ≤ (free + 2 * part) + 2 * rest
    moved free part rest end h = omega (arith, h)

pub same_variables : (written : ℕ → Bool) (i : ℕ) (ds : List SharedDeclaration) (xs ys : List VariablePlace) (free : Free) (ends : Ends)
    → AreTight written i ds free ends → AreOfKinds written i ds xs → AreOfKinds written i ds ys
    → Stand free xs ends → Stand free ys ends → xs ≡ ys
same_variables written i [] [] [] free ends t j k a b = refl
same_variables written i [] (x ∷ xs) ys free ends t j k a b = absurd j
same_variables written i [] [] (y ∷ ys) free ends t j k a b = absurd k
same_variables written i (d ∷ ds) [] ys free ends t j k a b = absurd j
same_variables written i (d ∷ ds) (x ∷ xs) [] free ends t j k a b = absurd k
same_variables written i (d ∷ ds) (x ∷ xs) (y ∷ ys) free ends t j k a b =
    let e = exact written i d ds free x xs ends t j a in
    let f = exact written i d ds free y ys ends t k b in
    let rest = same_variables written (i + 1) ds xs ys (free_after (written i) d.extent free) ends (tight_behind written i d ds free ends t) j.1 k.1 e.behind
    f.behind in
    ap (λ v. v ∷ xs) (e.place ∙ sym f.place) ∙ ap (λ vs. y ∷ vs) rest
