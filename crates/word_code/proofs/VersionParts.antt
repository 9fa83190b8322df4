-- Versioned reads and writes.
use Rattle.word_code.proofs.Names.{◌≡◌, ℕ, ◌+◌, ◌-◌, ◌*◌, ◌%◌, ◌<◌, ◌==◌, not, List, [], ◌∷◌, Some, refl, sym, ap, ◌∙◌, subst, arith, Bool, true, false}
use Rattle.word_code.proofs.Names.{nat_lt, if◌then◌else◌, both_ways, sum16, distance, Store, put, IsPlace, R4, Core, Indexed, ToRegister, Form, Move}
use Rattle.word_code.proofs.Names.{instruction_of, Stands, forms_bytes, Runs, stands_front, stands_back, forms_behind, forms_bytes-append, ArrayPlace}
use Rattle.word_code.proofs.Names.{ListPlace, WordState, goes_on, behind_effects, is_place, stored, first_stored, own_stored, versioned_stored, put_words}
use Rattle.word_code.proofs.Names.{check_code, own_code, read_code, stored_code, write_code}
use Rattle.array_versions.specs.msp_step.msp_isa.declared.instructions.Condition.TheVariants as condition
use Rattle.word_code.proofs.Memory.{HoldsWords, place_is, address_small}
use Rattle.word_code.proofs.Registers.{HasSides, Holds, Has, HasTwo, jump_with, equal_flag}
use Rattle.word_code.proofs.Stretches.{Setting, runs_on, dearer, so_runs}
use Rattle.word_code.proofs.Follows.{Follows, more_cycles, then_end, ends_at, guarded}
use Rattle.word_code.proofs.Jumps.{stands_low}
use Rattle.word_code.proofs.Access.{twice, doubled_fits, check_part, within, beyond, within_stands, zero_stands, checked_end, checked_past, checked_within}
use Rattle.word_code.proofs.Access.{over_zero}
use Rattle.word_code.proofs.ListParts.{first_follows}
use Rattle.word_code.proofs.Routes.{on, jump, route, store_route, starts}

-- whether the version word is the attempt's number, as the code has it
pub marked : (f : ℕ → ℕ) (ver versions i : ℕ) {b : Bool} → HoldsWords f → 2 * i + versions < 0x10000 → (f ver == f (2 * i + versions)) ≡ b
    → ((f ver + (0xFFFF - f ((i + i + 0) % 0x10000 + versions)) + 1) % 0x10000 == 0) ≡ b
marked f ver versions i words high e =
    ap (λ k. (f ver + (0xFFFF - f (k + versions)) + 1) % 0x10000 == 0) (twice i versions high)
    ∙ equal_flag (f ver) (f (2 * i + versions)) (words ver) (words (2 * i + versions)) ∙ e

-- R4 holds twice an index, and R6 the attempt's number
pub record HasNumber (k n : ℕ) (f : ℕ → ℕ) : Type 0 where
  pub four : f 4 ≡ k
  pub six : f 6 ≡ n

-- what a version word is looked at with
pub record Versioned (place : ArrayPlace) (list : ListPlace) (i : ℕ) (w : WordState) : Type 0 where
  pub words : HoldsWords w.fram
  pub number : IsPlace list.ver
  pub version : IsPlace (2 * i + place.versions)

module _ (z : Setting) where
  -- an element is read at an index in R4
  pub record Reading (b : Bool) (place : ArrayPlace) (list : ListPlace) (pc i : ℕ) (w : WordState) (t : Core) : Type 0 where
    pub small : place.length < 0x10000
    pub stands : Stands z.code pc (read_code b place list)
    pub index : i < 0x10000
    pub held : Has z R4 pc w i t

  -- a word in R5 is written at an index in R4
  pub record Writing (place : ArrayPlace) (pc i v : ℕ) (w : WordState) (t : Core) : Type 0 where
    pub small : place.length < 0x10000
    pub index : i < 0x10000
    pub word : v < 0x10000
    pub words : HoldsWords w.fram
    pub held : HasTwo z pc w i v t

  -- a read at an index below the length, where its code stands
  module _ (over : ℕ) (place : ArrayPlace) (list : ListPlace) (p : ℕ) (h : Stands z.code p (own_code over place list)) where
    pub at18 : z.code.at (p + 18) ≡ Some (instruction_of (Move (Indexed R4 place.elements) (ToRegister R4)))
    at18 = (forms_behind z.code p 6 (own_code over place list) h).0

    -- where the version word is the attempt's number, the copy is read, and the jump goes on
    copy_read : (to i : ℕ) (w : WordState) (t : Core) → Versioned place list i w → (w.fram list.ver == w.fram (2 * i + place.versions)) ≡ true
        → IsPlace (2 * i + place.copies) → sum16 (p + 16 + 2) (distance over) ≡ to → Has z R4 p w i t
        → Runs z.kept [] 14 t (Has z R4 to w (w.fram (2 * i + place.copies)))
    copy_read to i w t m e fc d k =
        let v = w.fram (2 * i + place.copies) in
        let f = doubled_fits i place.copies fc in
        let g = doubled_fits i place.versions m.version in
        let same = marked w.fram list.ver place.versions i m.words (address_small m.version) e in
        runs_on z
        (route z p (own_code over place list) h 0 (starts z k.is) (k.held, refl, refl, refl) (on 3 ∷ jump false ∷ on 1 ∷ []) 12 (Has z R4 (p + 16) w v)
        (_, ((tt, tt), ((m.number, tt), ((tt, g), tt))), (refl, (refl, ap not same, refl, (_, ((f, tt), tt), (refl, tt))))) refl refl
        (λ s. record { is = s; held = ap (λ q. w.fram (q + place.copies)) (twice i place.copies (address_small fc)) }))
        (λ u j. jump_with z condition.Always over (p + 16) to true (forms_behind z.code p 5 (own_code over place list) h).0 refl d j)

    -- where it isn't, the element
    home_read : (i : ℕ) (w : WordState) (t : Core) → Versioned place list i w → (w.fram list.ver == w.fram (2 * i + place.versions)) ≡ false
        → IsPlace (2 * i + place.elements) → Has z R4 p w i t → Runs z.kept [] 12 t (Has z R4 (p + 22) w (w.fram (2 * i + place.elements)))
    home_read i w t m e fe k =
        let f = doubled_fits i place.elements fe in
        let g = doubled_fits i place.versions m.version in
        let same = marked w.fram list.ver place.versions i m.words (address_small m.version) e in
        route z p (own_code over place list) h 0 (starts z k.is) (k.held, refl, refl, refl) (on 3 ∷ jump true ∷ on 1 ∷ []) 12 _
        (_, ((tt, tt), ((m.number, tt), ((tt, g), tt))), (refl, (refl, ap not same, refl, (_, ((f, tt), tt), (refl, tt))))) refl refl
        (λ s. record { is = s; held = ap (λ q. w.fram (q + place.elements)) (twice i place.elements (address_small fe)) })

  -- a read, where its code stands, by whether the index is surely below the length
  pub past_read : (b : Bool) (place : ArrayPlace) (list : ListPlace) (pc i : ℕ) (w : WordState) (t : Core) → Reading b place list pc i w t
      → (b ≡ true → nat_lt i place.length ≡ true) → nat_lt i place.length ≡ false
      → Runs z.kept [] 18 t (Has z R4 (pc + forms_bytes (read_code b place list)) w 0)
  past_read true place list pc i w t r sure below = absurd (both_ways (nat_lt i place.length) below (sure refl))
  past_read false place list pc i w t r sure below =
      let ms = own_code 4 place list in
      let n = place.length in
      dearer z (omega arith)
      (subst (λ p. Runs z.kept [] 5 t (Has z R4 p w 0)) (checked_end z n 12 pc ms r.small r.stands)
      (checked_past z n 12 pc ms r.small r.stands i w t refl (omega arith) below r.index r.held))

  pub own_copy : (b : Bool) (place : ArrayPlace) (list : ListPlace) (pc i : ℕ) (w : WordState) (t : Core) → Reading b place list pc i w t
      → nat_lt i place.length ≡ true → Versioned place list i w → (w.fram list.ver == w.fram (2 * i + place.versions)) ≡ true
      → IsPlace (2 * i + place.copies) → Runs z.kept [] 18 t (Has z R4 (pc + forms_bytes (read_code b place list)) w (w.fram (2 * i + place.copies)))
  own_copy true place list pc i w t r lt m e c =
      let high = (z.tidy (pc + 18) _ (at18 2 place list pc r.stands)).high in
      let to : sum16 (pc + 16 + 2) (distance 2) ≡ pc + 22 = omega arith in
      dearer z (omega arith) (copy_read 2 place list pc r.stands (pc + 22) i w t m e c to r.held)
  own_copy false place list pc i w t r lt m e c =
      let ms = own_code 4 place list in
      let n = place.length in
      let h = r.stands in
      let l = r.small in
      let at = within z n 12 pc ms l h in
      let end = beyond z n 12 pc ms l h + 4 in
      let v = w.fram (2 * i + place.copies) in
      let high = (z.tidy (beyond z n 12 pc ms l h + 2) _ (zero_stands z n 12 pc ms l h).1.0).high in
      let to : sum16 (at + 16 + 2) (distance 4) ≡ end = omega arith in
      subst (λ p. Runs z.kept [] 18 t (Has z R4 p w v)) (checked_end z n 12 pc ms l h)
      (runs_on z (checked_within z n 12 pc ms l h i w t lt r.index r.held)
      (λ u j. copy_read 4 place list at (within_stands z n 12 pc ms l h) end i w u m e c to j))

  pub own_home : (b : Bool) (place : ArrayPlace) (list : ListPlace) (pc i : ℕ) (w : WordState) (t : Core) → Reading b place list pc i w t
      → nat_lt i place.length ≡ true → Versioned place list i w → (w.fram list.ver == w.fram (2 * i + place.versions)) ≡ false
      → IsPlace (2 * i + place.elements) → Runs z.kept [] 18 t (Has z R4 (pc + forms_bytes (read_code b place list)) w (w.fram (2 * i + place.elements)))
  own_home true place list pc i w t r lt m e c = dearer z (omega arith) (home_read 2 place list pc r.stands i w t m e c r.held)
  own_home false place list pc i w t r lt m e c =
      let ms = own_code 4 place list in
      let n = place.length in
      let h = r.stands in
      let l = r.small in
      let at = within z n 12 pc ms l h in
      let v = w.fram (2 * i + place.elements) in
      subst (λ p. Runs z.kept [] 18 t (Has z R4 p w v)) (checked_end z n 12 pc ms l h)
      (runs_on z (checked_within z n 12 pc ms l h i w t lt r.index r.held)
      (λ u j. runs_on z (home_read 4 place list at (within_stands z n 12 pc ms l h) i w u m e c j) (λ q k. over_zero z n 12 pc ms l h v w q k)))

  -- a write at an index below the length, where its code stands
  module _ (place : ArrayPlace) (list : ListPlace) (p : ℕ) (h : Stands z.code p (stored_code place list)) where
    abbrev code : List Form
    code = stored_code place list

    stored_low : p + 108 < 0x10000
    stored_low = let high = (z.tidy p _ h.0).high in stands_low z p code h (omega arith)

    -- the word is stored; then it is by whether the version word is the attempt's number
    module _ (i v : ℕ) (w : WordState) (t : Core) (wl : HoldsWords w.fram) (lv : v < 0x10000) (fc : IsPlace (2 * i + place.copies)) (fv : IsPlace list.ver)
        (fm : IsPlace (2 * i + place.versions)) (j : HasTwo z p w i v t) where
      abbrev c : ℕ
      c = 2 * i + place.copies

      abbrev y : WordState
      y = stored c v w

      y_words : HoldsWords y.fram
      y_words = put_words w.fram c v wl lv

      twice_is : (i + i + 0) % 0x10000 ≡ 2 * i
      twice_is = twice i place.copies (address_small fc)

      there : put w.fram ((i + i + 0) % 0x10000 + place.copies) v ≡ y.fram
      there = ap (λ q. put w.fram (q + place.copies) v) twice_is

      marked_behind : {b : Bool} → (y.fram list.ver == y.fram (2 * i + place.versions)) ≡ b → (let f = put w.fram ((i + i + 0) % 0x10000 + place.copies) v in
          ((f list.ver + (0xFFFF - f ((i + i + 0) % 0x10000 + place.versions)) + 1) % 0x10000 == 0) ≡ b)
      marked_behind e =
          ap (λ (f : ℕ → ℕ). (f list.ver + (0xFFFF - f ((i + i + 0) % 0x10000 + place.versions)) + 1) % 0x10000 == 0) there
          ∙ marked y.fram list.ver place.versions i y_words (address_small fm) e

      own_stored_part : (b : Bool) → (y.fram list.ver == y.fram (2 * i + place.versions)) ≡ b
          → Follows z (p + 108) 71 t (if b then goes_on (Store c v ∷ []) y else behind_effects (Store c v ∷ []) (first_stored place list i y))
      own_stored_part true e =
          let f = doubled_fits i place.copies fc in
          let g = doubled_fits i place.versions fm in
          dearer z (omega arith)
          (store_route z p code h 0 (starts z j.is) (j.held.four, j.held.five, refl, refl) (on 4 ∷ jump true ∷ []) (Store c v ∷ []) y.fram 13 _
          (_, ((tt, tt), ((tt, f), ((fv, tt), ((tt, g), tt)))), (refl, (refl, marked_behind e, refl, tt))) refl refl
          (ap (λ q. Store (q + place.copies) v ∷ []) twice_is) there (λ s. s))
      own_stored_part false e =
          let next = first_stored place list i y in
          let f = doubled_fits i place.copies fc in
          let g = doubled_fits i place.versions fm in
          let end : p + 16 + 92 ≡ p + 108 = omega arith in
          ends_at z (p + 16 + 92) (p + 108) 71 t (behind_effects (Store c v ∷ []) next) end (then_end z (p + 16 + 92) 58 next.effects next.end
          (store_route z p code h 0 (starts z j.is) (j.held.four, j.held.five, refl, refl) (on 4 ∷ jump false ∷ []) (Store c v ∷ []) y.fram 13
          (Holds z (HasNumber (2 * i) (y.fram list.ver)) (p + 16) y)
          (_, ((tt, tt), ((tt, f), ((fv, tt), ((tt, g), tt)))), (refl, (refl, marked_behind e, refl, tt))) refl refl
          (ap (λ q. Store (q + place.copies) v ∷ []) twice_is) there
          (λ s. record { is = s; held = record { four = twice_is; six = ap (λ (f : ℕ → ℕ). f list.ver) there } }))
          (λ u k. first_follows z place list (p + 16) (forms_behind z.code p 5 code h) i y u y_words fc fm k.is k.held.four k.held.six))

    stored_part : (i v : ℕ) (w : WordState) (t : Core) → HoldsWords w.fram → v < 0x10000 → HasTwo z p w i v t
        → Follows z (p + 108) 71 t (own_stored place list i v w)
    stored_part i v w t wl s k =
        let c = 2 * i + place.copies in
        let m = 2 * i + place.versions in
        let y = stored c v w in
        guarded z (is_place c) (p + 108) 71 t _ (λ g1. guarded z (is_place list.ver) (p + 108) 71 t _
        (λ g2. guarded z (is_place m) (p + 108) 71 t _ (λ g3.
        own_stored_part i v w t wl s (place_is c g1) (place_is list.ver g2) (place_is m g3) k (y.fram list.ver == y.fram m) refl)))

  -- behind the check, by whether the index is below the length
  write_by : (b : Bool) (place : ArrayPlace) (list : ListPlace) (pc i v : ℕ) (w : WordState) (t : Core) → nat_lt i place.length ≡ b
      → Stands z.code pc (write_code false place list) → Writing place pc i v w t
      → Follows z (pc + forms_bytes (write_code false place list)) 75 t (if b then own_stored place list i v w else goes_on [] w)
  write_by false place list pc i v w t lt h k =
      let check = check_code place.length 54 in
      let at = pc + forms_bytes check in
      let front = stands_front z.code pc check (stored_code place list) h in
      let back = stands_back z.code pc check (stored_code place list) h in
      let low = stored_low place list at back in
      let to : sum16 at (distance 54) ≡ pc + forms_bytes (write_code false place list) = omega (arith, forms_bytes-append check (stored_code place list)) in
      dearer z (omega arith)
      (so_runs (check_part z place.length 54 pc k.small front false _ i w t lt k.index to k.held.held.four k.held.is) (λ u j. j.is))
  write_by true place list pc i v w t lt h k =
      let check = check_code place.length 54 in
      let at = pc + forms_bytes check in
      let front = stands_front z.code pc check (stored_code place list) h in
      let back = stands_back z.code pc check (stored_code place list) h in
      let b = own_stored place list i v w in
      let end : at + 108 ≡ pc + forms_bytes (write_code false place list) = omega (arith, forms_bytes-append check (stored_code place list)) in
      ends_at z (at + 108) _ 75 t b end (then_end z (at + 108) 71 b.effects b.end
      (check_part z place.length 54 pc k.small front true at i w t lt k.index refl k.held.held.four k.held.is)
      (λ u j. stored_part place list at back i v w u k.words k.word (record { is = j.is; held = subst (HasSides i v) (sym j.held) k.held.held })))

  -- by whether the index is surely below the length
  pub write_part : (b : Bool) (place : ArrayPlace) (list : ListPlace) (pc i v : ℕ) (w : WordState) (t : Core) → (b ≡ true → nat_lt i place.length ≡ true)
      → Stands z.code pc (write_code b place list) → Writing place pc i v w t
      → Follows z (pc + forms_bytes (write_code b place list)) 75 t (versioned_stored place list i v w)
  write_part true place list pc i v w t sure h k =
      let b = own_stored place list i v w in
      subst (λ c. Follows z (pc + 108) 75 t (if c then b else goes_on [] w)) (sym (sure refl))
      (more_cycles z (pc + 108) 71 75 t b.effects b.end (omega arith) (stored_part place list pc h i v w t k.words k.word k.held))
  write_part false place list pc i v w t sure h k = write_by (nat_lt i place.length) place list pc i v w t refl h k
