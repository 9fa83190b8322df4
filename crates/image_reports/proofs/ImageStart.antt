-- Behind an attempt's start each version word is below VER, where none was above it.
use Rattle.image_reports.proofs.Names.{◌≡◌, ℕ, zero, suc, ◌+◌, ◌*◌, ◌%◌, ◌<◌, ◌≤◌, ◌==◌, Bool, true, false, List, [], ◌∷◌, refl, ap, ◌∙◌, arith, nat_tests}
use Rattle.image_reports.proofs.Names.{Effect, Store, put, fram_after, EachStore, fram_after-append, put_same, put_other, is_at_end, clearing_if, cleared}
use Rattle.image_reports.proofs.Names.{counting_effects, opening_effects, copied_in, start_effects, IsElsewhere, VersionsWithin, elsewhere_same, word_place}
use Rattle.image_reports.proofs.Names.{CurrentTask, ListLength, EmitCount, Version}
use Rattle.runtime_effects.specs.Places.{CopyPair}
use Rattle.runtime_effects.proofs.Interface.{where_leaves}
use Rattle.event_places.specs.Places.{count_place}
use Rattle.address_space.specs.Limits.{program_end}
use Rattle.stands_for.specs.Layout.{ProgramPlaces, ArePrivate}
use Rattle.memory_map.specs.Laws.{AreApart}

-- words are cleared from an address on
cleared_behind : (n p a : ℕ) → a < p → EachStore (IsElsewhere a) (cleared n p)
cleared_behind zero p a l = tt
cleared_behind (suc n) p a l = ((λ e. omega arith), cleared_behind n (p + 2) a (omega arith))

-- each of them is 0 then
cleared_zero : (n p i : ℕ) (f : ℕ → ℕ) → i < n → fram_after (cleared n p) f (p + 2 * i) ≡ 0
cleared_zero zero p i f l = absurd (omega arith)
cleared_zero (suc n) p zero f l =
    let e : p + 2 * 0 ≡ p = omega arith in
    ap (fram_after (cleared n (p + 2)) (put f p 0)) e
    ∙ elsewhere_same p (cleared n (p + 2)) (put f p 0) (cleared_behind n (p + 2) p (omega arith))
    ∙ put_same f p 0
cleared_zero (suc n) p (suc i) f l =
    let e : p + 2 * suc i ≡ p + 2 + 2 * i = omega arith in
    ap (fram_after (cleared n (p + 2)) (put f p 0)) e ∙ cleared_zero n (p + 2) i (put f p 0) (omega arith)

module _ (l : ProgramPlaces) (apart : AreApart l.map) where
  -- copies of private scalars are made elsewhere
  copied_elsewhere : (a t : ℕ) (ps : List CopyPair) (f : ℕ → ℕ) → a < l.map.copies.address → ArePrivate l t ps → EachStore (IsElsewhere a) (copied_in ps f)
  copied_elsewhere a t [] f low laid = tt
  copied_elsewhere a t (p ∷ ps) f low laid =
      ((λ e. let from = laid.2.from in omega (arith, from, e)), copied_elsewhere a t ps (put f p.copy (f p.home)) low laid.4)

  -- VER goes up by one
  version_then : (g : ℕ → ℕ) → g (word_place l.map Version) < 0xFFFF
      → fram_after (counting_effects l.map g) g (word_place l.map Version) ≡ g (word_place l.map Version) + 1
  version_then g number =
      let w = (g (word_place l.map Version) + 1) % 0x10000 in
      let stored = where_leaves l.map.runtime.events count_place 0 (word_place l.map Version)
      (put (put (put g (word_place l.map Version) w) (word_place l.map ListLength) 0) (word_place l.map EmitCount) 0) (λ on q. omega (arith, apart, q))
      ∙ put_other (put (put g (word_place l.map Version) w) (word_place l.map ListLength) 0) (word_place l.map EmitCount) 0
      (word_place l.map Version)
      (λ q. omega (arith, apart, q))
      ∙ put_other (put g (word_place l.map Version) w) (word_place l.map ListLength) 0 (word_place l.map Version) (λ q. omega (arith, apart, q))
      ∙ put_same g (word_place l.map Version) w in
      omega (arith, stored, number)

  -- the version words stay
  others_then : (g : ℕ → ℕ) (a : ℕ) → l.map.versions.address ≤ a → a < program_end → fram_after (counting_effects l.map g) g a ≡ g a
  others_then g a low high =
      let w = (g (word_place l.map Version) + 1) % 0x10000 in
      where_leaves l.map.runtime.events count_place 0 a
      (put (put (put g (word_place l.map Version) w) (word_place l.map ListLength) 0) (word_place l.map EmitCount) 0) (λ on q. omega (arith, q, high))
      ∙ put_other (put (put g (word_place l.map Version) w) (word_place l.map ListLength) 0) (word_place l.map EmitCount) 0 a
      (λ q. omega (arith, apart, q, low))
      ∙ put_other (put g (word_place l.map Version) w) (word_place l.map ListLength) 0 a (λ q. omega (arith, apart, q, low))
      ∙ put_other g (word_place l.map Version) w a (λ q. omega (arith, apart, q, low))

  -- a number is left, and no version word is above VER
  record IsNumbered (g : ℕ → ℕ) : Type 0 where
    pub number : g (word_place l.map Version) < 0xFFFF
    pub versions : VersionsWithin l g

  cleared_so : (b : Bool) (f : ℕ → ℕ) → is_at_end l.map f ≡ b → VersionsWithin l f → f (word_place l.map Version) < 0x10000
      → IsNumbered (fram_after (clearing_if l.map b) f)
  cleared_so true f e within word =
      let clear = cleared l.map.versions.words l.map.versions.address in
      let last : List Effect = Store (word_place l.map Version) 0 ∷ [] in
      let both = fram_after-append clear last f in
      let version = ap (λ g. g (word_place l.map Version)) both ∙ put_same (fram_after clear f) (word_place l.map Version) 0 in
      record {
        number = omega (arith, version);
        versions = λ i below.
            let a = l.map.versions.address + 2 * i in
            let zero_then = ap (λ g. g a) both ∙ put_other (fram_after clear f) (word_place l.map Version) 0 a (λ q. omega (arith, apart, q))
            ∙ cleared_zero l.map.versions.words l.map.versions.address i f below in
            omega (arith, zero_then);
      }
  cleared_so false f e within word =
      let other : (f (word_place l.map Version) == 0xFFFF) ≡ false = e in
      record { number = grind (arith, nat_tests, other, word); versions = within }

  module _ (privates : ℕ → List CopyPair) (laid : (t : ℕ) → ArePrivate l t (privates t)) (f : ℕ → ℕ) (within : VersionsWithin l f)
      (word : f (word_place l.map Version) < 0x10000) where
    abbrev opened : ℕ → ℕ
    opened = fram_after (opening_effects l.map f) f

    abbrev clear : List Effect
    clear = clearing_if l.map (is_at_end l.map f)

    abbrev numbered : ℕ → ℕ
    numbered = fram_after clear f

    is_numbered : IsNumbered numbered
    is_numbered = cleared_so (is_at_end l.map f) f refl within word

    -- a word below the copies is as the opening leaves it
    as_opened : (a : ℕ) → a < l.map.copies.address
        → fram_after (start_effects l.map privates f) f a ≡ fram_after (counting_effects l.map numbered) numbered a
    as_opened a low =
        let copies = copied_in (privates (f (word_place l.map CurrentTask))) opened in
        ap (λ g. g a) (fram_after-append (opening_effects l.map f) copies f)
        ∙ elsewhere_same a copies opened
        (copied_elsewhere a (f (word_place l.map CurrentTask)) (privates (f (word_place l.map CurrentTask))) opened low
        (laid (f (word_place l.map CurrentTask))))
        ∙ ap (λ g. g a) (fram_after-append clear (counting_effects l.map numbered) f)

    pub versions_below : (i : ℕ) → i < l.map.versions.words → fram_after (start_effects l.map privates f) f (l.map.versions.address + 2 * i)
        < fram_after (start_effects l.map privates f) f (word_place l.map Version)
    versions_below i below =
        let a = l.map.versions.address + 2 * i in
        let word_then = as_opened a (omega (arith, apart, below)) ∙ others_then numbered a (omega arith) (omega (arith, apart, below)) in
        let version = as_opened (word_place l.map Version) (omega (arith, apart)) ∙ version_then numbered is_numbered.number in
        let most = is_numbered.versions i below in
        omega (arith, word_then, version, most)
