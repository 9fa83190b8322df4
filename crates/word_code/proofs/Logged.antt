-- Elements that are logged and stored in their place.
use Rattle.word_code.proofs.Names.{◌≡◌, ℕ, ◌+◌, ◌-◌, ◌*◌, ◌%◌, ◌<◌, ◌≤◌, ◌==◌, Bool, true, false, nat_lt, if◌then◌else◌, List, [], ◌∷◌, ◌++◌, refl, sym}
use Rattle.word_code.proofs.Names.{ap, ◌∙◌, subst, arith, word_sum, sum16, distance, Effect, Store, put, IsPlace, R5, Core, Register, ToIndexed, Form, Move}
use Rattle.word_code.proofs.Names.{Stands, forms_bytes, forms_bytes-append, stands_front, stands_back, Runs, PlainOperation, ArrayPlace, ListPlace}
use Rattle.word_code.proofs.Names.{LoggedPlace, plain_word}
use Rattle.word_code.proofs.Names.{WordState, Behaviour, goes_on, behind_effects, with_two, with_stack, is_place, at_place, stored}
use Rattle.word_code.proofs.Names.{first_logged, own_logged, logged_stored}
use Rattle.word_code.proofs.Names.{logged_updated, logged_write, logged_update, put_words, Bound, Waiting, top_of, below_top, flushed, kept, two_to_registers}
use Rattle.word_code.proofs.Names.{check_code, size, is_inside, log_code, logged_first, logged_code, kept_in, made_in, step_code}
use Rattle.word_code.proofs.Names.{known_first, known_logged, plain_instruction, Update, right_to_five, logged_update_at, five_from, Some, None, Option}
use Rattle.word_code.proofs.Memory.{HoldsWords, AreWords, place_is, address_small}
use Rattle.word_code.proofs.Registers.{HasSides, Has, HasTwo, HasWord, store_line, equal_flag}
use Rattle.word_code.proofs.Stretches.{Setting, runs_on, dearer, so_runs, two_parts}
use Rattle.word_code.proofs.Follows.{StandsFor, Follows, more_cycles, then_end, ends_at, guarded}
use Rattle.word_code.proofs.Jumps.{whole_size, near_distance, stands_low}
use Rattle.word_code.proofs.Access.{twice, doubled_fits, check_part}
use Rattle.word_code.proofs.ListParts.{at_offset, plus_none, plus_small}
use Rattle.word_code.specs.declared.waiting.Waiting.TheVariants as waiting
use Rattle.word_code.proofs.Operands.{owed, owed_kept, load_owed, load_cycles, Describes, Waits, bare, drop_part, flush_under, five_part}
use Rattle.word_code.proofs.Sides.{Aiming, five_gives, two_to_registers_part}
use Rattle.word_code.proofs.Results.{StepDoes, Does, alone_behind, gathered}
use Rattle.word_code.proofs.LoopBounds.{Bounded, under_inside}
use Rattle.word_code.proofs.Routes.{on, jump, route, store_route, starts}
use Rattle.word_code.proofs.VersionParts.{marked}
use Rattle.word_code.proofs.VersionUpdates.{made_part, place_part, known_place, known_offset}

-- four times a count, as the code has it
abbrev fourfold : ℕ → ℕ
fourfold n = let two = (n + n + 0) % 0x10000 in (two + two + 0) % 0x10000

fourth : (n list : ℕ) → list + 4 * n < 0x10000 → fourfold n + list ≡ list + 4 * n
fourth n list h = omega arith

behind_fourth : (n list : ℕ) → list + 4 * n + 2 < 0x10000 → fourfold n + word_sum list 2 ≡ list + 4 * n + 2
behind_fourth n list h = omega arith

module _ (z : Setting) (place : LoggedPlace) (p : ℕ) where
  -- what stores a word of the state in front of it, behind the log
  abbrev pub Keeps : ℕ → ℕ → ℕ → ℕ → (WordState → ℕ) → Type 0
  Keeps i v r end word =
      let e = 2 * i + place.elements in
      (w : WordState) (t : Core) → IsPlace e → HoldsWords w.fram → HasTwo z (p + 46) w (2 * i) v t
      → Runs z.kept (Store e (word w) ∷ []) r t (StandsFor z end (stored e (word w) w))

-- what the log of an element does, by the FRAM in front of it; the code's word for twice the index is that
module _ (place : LoggedPlace) (list : ListPlace) (i offset : ℕ) (same : offset ≡ 2 * i) (w : WordState) (wl : HoldsWords w.fram)
    (fe : IsPlace (2 * i + place.elements)) (f1 : IsPlace (list.list + 4 * w.fram list.cln)) (f2 : IsPlace (list.list + 4 * w.fram list.cln + 2)) where
  abbrev e : ℕ
  e = 2 * i + place.elements

  abbrev m : ℕ
  m = 2 * i + place.versions

  abbrev a : ℕ
  a = list.list + 4 * w.fram list.cln

  abbrev addressed : WordState
  addressed = stored a e w

  abbrev entered : WordState
  entered = stored (a + 2) (addressed.fram e) addressed

  abbrev entries : ℕ
  entries = (entered.fram list.cln + 1) % 65536

  abbrev counted : WordState
  counted = stored list.cln entries entered

  abbrev logged : WordState
  logged = stored m (counted.fram list.ver) counted

  abbrev logging : List Effect
  logging = Store a e ∷ Store (a + 2) (addressed.fram e) ∷ Store list.cln entries ∷ Store m (counted.fram list.ver) ∷ []

  logged_words : HoldsWords logged.fram
  logged_words =
      let high = address_small fe in
      let one = put_words w.fram a e wl high in
      let two = put_words addressed.fram (a + 2) (addressed.fram e) one (one e) in
      let three = put_words entered.fram list.cln entries two (omega arith) in
      put_words counted.fram m (counted.fram list.ver) three (three list.ver)

  -- the addresses and words, as the code has them
  first : fourfold (w.fram list.cln) + list.list ≡ a
  first = fourth (w.fram list.cln) list.list (address_small f1)

  second : fourfold (w.fram list.cln) + word_sum list.list 2 ≡ a + 2
  second = behind_fourth (w.fram list.cln) list.list (address_small f2)

  read : offset + place.elements ≡ e
  read = ap (λ q. q + place.elements) same

  version : offset + place.versions ≡ m
  version = ap (λ q. q + place.versions) same

  address : (offset + place.elements + 0) % 0x10000 ≡ e
  address = ap (λ q. (q + place.elements + 0) % 0x10000) same ∙ plus_small i place.elements (address_small fe)

  abbrev first_fram : ℕ → ℕ
  first_fram = put w.fram (fourfold (w.fram list.cln) + list.list) ((offset + place.elements + 0) % 0x10000)

  abbrev second_fram : ℕ → ℕ
  second_fram = put first_fram (fourfold (w.fram list.cln) + word_sum list.list 2) (first_fram (offset + place.elements))

  abbrev third_fram : ℕ → ℕ
  third_fram = put second_fram list.cln ((second_fram list.cln + 1 + 0) % 0x10000)

  first_is : first_fram ≡ addressed.fram
  first_is = λ k. put w.fram (first k) (address k)

  second_is : second_fram ≡ entered.fram
  second_is = λ k. put (first_is k) (second k) (first_is k (read k))

  count_is : (second_fram list.cln + 1 + 0) % 0x10000 ≡ entries
  count_is = ap (λ (f : ℕ → ℕ). (f list.cln + 1 + 0) % 0x10000) second_is ∙ plus_none (entered.fram list.cln) 1

  third_is : third_fram ≡ counted.fram
  third_is = λ k. put (second_is k) list.cln (count_is k)

  -- its effects and FRAM behind it, as the code has them
  effects_are : Store (fourfold (w.fram list.cln) + list.list) ((offset + place.elements + 0) % 0x10000)
      ∷ Store (fourfold (w.fram list.cln) + word_sum list.list 2) (first_fram (offset + place.elements))
      ∷ Store list.cln ((second_fram list.cln + 1 + 0) % 0x10000) ∷ Store (offset + place.versions) (third_fram list.ver) ∷ [] ≡ logging
  effects_are = λ k. Store (first k) (address k) ∷ Store (second k) (first_is k (read k)) ∷ Store list.cln (count_is k)
      ∷ Store (version k) (third_is k list.ver) ∷ []

  fram_is : put third_fram (offset + place.versions) (third_fram list.ver) ≡ logged.fram
  fram_is = λ k. put (third_is k) (version k) (third_is k list.ver)

module _ (z : Setting) (place : LoggedPlace) (list : ListPlace) (p : ℕ) (h : Stands z.code p (logged_first place list)) where
  abbrev code : List Form
  code = logged_first place list

  module _ (i v : ℕ) (w : WordState) (t : Core) (wl : HoldsWords w.fram) (fe : IsPlace (2 * i + place.elements)) (fv : IsPlace list.ver)
      (fm : IsPlace (2 * i + place.versions)) (j : HasTwo z p w i v t) where
    -- twice the index, as the code has it
    offset_is : (i + i + 0) % 0x10000 ≡ 2 * i
    offset_is = twice i place.elements (address_small fe)

    -- the version word is the attempt's number
    again : (w.fram list.ver == w.fram (2 * i + place.versions)) ≡ true → Runs z.kept [] 9 t (HasTwo z (p + 46) w (2 * i) v)
    again b =
        route z p code h 0 (starts z j.is) (j.held.four, j.held.five, refl, refl) (on 3 ∷ jump true ∷ []) 9 _ (
          _,
          ((tt, tt), ((fv, tt), ((tt, doubled_fits i place.versions fm), tt))),
          (
            refl,
            (
              refl,
              marked w.fram list.ver place.versions i wl
                  (address_small fm) b,
              refl,
              tt,
            ),
          ),
        ) refl refl
        (λ s. record { is = s; held = record { four = offset_is; five = refl } })

    -- it isn't: the element is logged
    first_time : (w.fram list.ver == w.fram (2 * i + place.versions)) ≡ false → IsPlace list.cln → (f1 : IsPlace (list.list + 4 * w.fram list.cln))
        → (f2 : IsPlace (list.list + 4 * w.fram list.cln + 2)) → (let x = (i + i + 0) % 0x10000 in
        Runs z.kept (logging place list i x offset_is w wl fe f1 f2) 37 t (HasTwo z (p + 46) (logged place list i x offset_is w wl fe f1 f2) (2 * i) v))
    first_time b fc f1 f2 =
        let x = (i + i + 0) % 0x10000 in
        let y = logged place list i x offset_is w wl fe f1 f2 in
        let at1 = subst IsPlace (sym (first place list i x offset_is w wl fe f1 f2)) f1 in
        let at2 = subst IsPlace (sym (second place list i x offset_is w wl fe f1 f2)) f2 in
        let here = subst IsPlace (sym (read place list i x offset_is w wl fe f1 f2)) fe in
        let there = subst IsPlace (sym (version place list i x offset_is w wl fe f1 f2)) fm in
        store_route z p code h 0 (starts z j.is) (j.held.four, j.held.five, refl, refl) (on 3 ∷ jump false ∷ on 9 ∷ [])
        (logging place list i x offset_is w wl fe f1 f2) y.fram 37 _ (
          _,
          ((tt, tt), ((fv, tt), ((tt, doubled_fits i place.versions fm), tt))),
          (
            refl,
            (
              refl,
              marked w.fram list.ver place.versions i wl (address_small fm) b,
              refl,
              (_, ((fc, tt), ((tt, tt), ((tt, tt), ((tt, tt), ((tt, tt), ((tt, at1), ((here, at2), ((tt, refl, tt, fc), ((fv, there), tt))))))))), (refl, tt)),
            ),
          ),
        ) refl refl (effects_are place list i x offset_is w wl fe f1 f2) (fram_is place list i x offset_is w wl fe f1 f2)
        (λ s. record { is = s; held = record { four = offset_is; five = refl } })

  pub logged_part : (word : WordState → ℕ) (i v r end : ℕ) (w : WordState) (t : Core) → HoldsWords w.fram → HasTwo z p w i v t → Keeps z place p i v r end word
      → Follows z end (37 + r) t (own_logged place list i word w)
  logged_part word i v r end w t wl j keeps =
      let e = 2 * i + place.elements in
      let m = 2 * i + place.versions in
      guarded z (is_place e) end (37 + r) t _ (λ g1. guarded z (is_place list.ver) end (37 + r) t _ (λ g2. guarded z (is_place m) end (37 + r) t _ (λ g3.
      by (place_is e g1) (place_is list.ver g2) (place_is m g3) (w.fram list.ver == w.fram m) refl)))
    where
      by : IsPlace (2 * i + place.elements) → IsPlace list.ver → IsPlace (2 * i + place.versions) → (b : Bool)
          → (w.fram list.ver == w.fram (2 * i + place.versions)) ≡ b
          → (let e = 2 * i + place.elements in let next : WordState → Behaviour = λ s. goes_on (Store e (word s) ∷ []) (stored e (word s) s) in
          Follows z end (37 + r) t (if b then next w else first_logged list e (2 * i + place.versions) w next))
      by fe fv fm true q = dearer z (omega arith) (runs_on z (again i v w t wl fe fv fm j q) (λ u k. keeps w u fe wl k))
      by fe fv fm false q =
          let e = 2 * i + place.elements in
          let a = list.list + 4 * w.fram list.cln in
          guarded z (is_place list.cln) end (37 + r) t _ (λ g1. guarded z (is_place a) end (37 + r) t _ (λ g2.
          guarded z (is_place (a + 2)) end (37 + r) t _ (λ g3.
          let fc = place_is list.cln g1 in
          let f1 = place_is a g2 in
          let f2 = place_is (a + 2) g3 in
          let x = (i + i + 0) % 0x10000 in
          let same = offset_is i v w t wl fe fv fm j in
          runs_on z (first_time i v w t wl fe fv fm j q fc f1 f2)
          (λ u k. keeps (logged place list i x same w wl fe f1 f2) u fe (logged_words place list i x same w wl fe f1 f2) k))))

-- ---- at a number that is known and below the length

module _ (z : Setting) (o : PlainOperation) (place : LoggedPlace) (list : ListPlace) (k p : ℕ) (h : Stands z.code p (known_logged o place list k)) (v : ℕ)
    (w : WordState) (t : Core) (wl : HoldsWords w.fram) (lv : v < 0x10000) (j : Has z R5 p w v t) where
  abbrev looked : List Form
  looked = known_first place list k

  looked_stands : Stands z.code p looked
  looked_stands = stands_front z.code p looked (Update (plain_instruction o) (Register R5) (word_sum place.elements (word_sum k k)) ∷ []) h

  module _ (fe : IsPlace (2 * k + place.elements)) (fv : IsPlace list.ver) (fm : IsPlace (2 * k + place.versions)) where
    there : word_sum place.versions (word_sum k k) ≡ 2 * k + place.versions
    there = known_place k place.versions (address_small fm)

    known_same : word_sum k k ≡ 2 * k
    known_same = known_offset k place.versions (address_small fm)

    known_marked : {b : Bool} → (w.fram list.ver == w.fram (2 * k + place.versions)) ≡ b
        → ((w.fram list.ver + (0xFFFF - w.fram (word_sum place.versions (word_sum k k))) + 1) % 0x10000 == 0) ≡ b
    known_marked e =
        ap (λ q. (w.fram list.ver + (0xFFFF - w.fram q) + 1) % 0x10000 == 0) there
        ∙ equal_flag (w.fram list.ver) (w.fram (2 * k + place.versions)) (wl list.ver) (wl (2 * k + place.versions)) ∙ e

    known_again : (w.fram list.ver == w.fram (2 * k + place.versions)) ≡ true → Runs z.kept [] 8 t (Has z R5 (p + 48) w v)
    known_again b =
        route z p looked looked_stands 0 (starts z j.is) (refl, j.held, refl, refl) (on 2 ∷ jump true ∷ []) 8 _
        (_, ((fv, tt), ((tt, subst IsPlace (sym there) fm), tt)), (refl, (refl, known_marked b, refl, tt))) refl refl
        (λ s. record { is = s; held = refl })

    known_time : (w.fram list.ver == w.fram (2 * k + place.versions)) ≡ false → IsPlace list.cln → (f1 : IsPlace (list.list + 4 * w.fram list.cln))
        → (f2 : IsPlace (list.list + 4 * w.fram list.cln + 2)) → (let x = word_sum k k in
        Runs z.kept (logging place list k x known_same w wl fe f1 f2) 38 t (Has z R5 (p + 48) (logged place list k x known_same w wl fe f1 f2) v))
    known_time b fc f1 f2 =
        let x = word_sum k k in
        let y = logged place list k x known_same w wl fe f1 f2 in
        let at1 = subst IsPlace (sym (first place list k x known_same w wl fe f1 f2)) f1 in
        let at2 = subst IsPlace (sym (second place list k x known_same w wl fe f1 f2)) f2 in
        let here = subst IsPlace (sym (read place list k x known_same w wl fe f1 f2)) fe in
        let last = subst IsPlace (sym (version place list k x known_same w wl fe f1 f2)) fm in
        store_route z p looked looked_stands 0 (starts z j.is) (refl, j.held, refl, refl) (on 2 ∷ jump false ∷ on 10 ∷ [])
        (logging place list k x known_same w wl fe f1 f2) y.fram 38 _ (
          _,
          ((fv, tt), ((tt, subst IsPlace (sym there) fm), tt)),
          (
            refl,
            (
              refl,
              known_marked b,
              refl,
              (
                _,
                ((tt, tt), ((fc, tt), ((tt, tt), ((tt, tt), ((tt, tt), ((tt, tt), ((tt, at1), ((here, at2), ((tt, refl, tt, fc), ((fv, last), tt)))))))))),
                (refl, tt),
              ),
            ),
          ),
        ) refl refl (effects_are place list k x known_same w wl fe f1 f2) (fram_is place list k x known_same w wl fe f1 f2)
        (λ s. record { is = s; held = refl })

  -- the element by one instruction
  known_stored : (y : WordState) (u : Core) → HoldsWords y.fram → IsPlace (2 * k + place.elements) → Has z R5 (p + 48) y v u
      → (let e = 2 * k + place.elements in let x = plain_word o (y.fram e) v in
      Runs z.kept (Store e x ∷ []) 6 u (StandsFor z (p + 52) (stored e x y)))
  known_stored y u yl fe g =
      let c = word_sum place.elements (word_sum k k) in
      let at : c ≡ 2 * k + place.elements = known_place k place.elements (address_small fe) in
      let both : ArrayPlace = record { elements = place.elements; copies = place.elements; versions = place.versions; length = place.length } in
      let update = Update (plain_instruction o) (Register R5) c ∷ [] in
      let end : p + 48 + 4 ≡ p + 52 = omega arith in
      subst (λ n. let x = plain_word o (y.fram n) v in Runs z.kept (Store n x ∷ []) 6 u (StandsFor z (p + 52) (stored n x y))) at
      (subst (λ q. let x = plain_word o (y.fram c) v in Runs z.kept (Store c x ∷ []) 6 u (StandsFor z q (stored c x y))) end
      (place_part z o (Register R5) 1 (omega arith) both list c (p + 48) v y u (omega arith) (yl c) lv (subst IsPlace (sym at) fe)
      (stands_back z.code p looked update h).0 g.is (five_gives false v y.fram u.work g.held)))

  pub known_part : Follows z (p + 52) 44 t (own_logged place list k (λ s. plain_word o (s.fram (2 * k + place.elements)) v) w)
  known_part =
      let e = 2 * k + place.elements in
      let m = 2 * k + place.versions in
      guarded z (is_place e) (p + 52) 44 t _ (λ g1. guarded z (is_place list.ver) (p + 52) 44 t _ (λ g2. guarded z (is_place m) (p + 52) 44 t _ (λ g3.
      by (place_is e g1) (place_is list.ver g2) (place_is m g3) (w.fram list.ver == w.fram m) refl)))
    where
      by : IsPlace (2 * k + place.elements) → IsPlace list.ver → IsPlace (2 * k + place.versions) → (b : Bool)
          → (w.fram list.ver == w.fram (2 * k + place.versions)) ≡ b
          → (let e = 2 * k + place.elements in let word : WordState → ℕ = λ s. plain_word o (s.fram e) v in
          let next : WordState → Behaviour = λ s. goes_on (Store e (word s) ∷ []) (stored e (word s) s) in
          Follows z (p + 52) 44 t (if b then next w else first_logged list e (2 * k + place.versions) w next))
      by fe fv fm true q = dearer z (omega arith) (runs_on z (known_again fe fv fm q) (λ u g. known_stored w u wl fe g))
      by fe fv fm false q =
          let a = list.list + 4 * w.fram list.cln in
          guarded z (is_place list.cln) (p + 52) 44 t _ (λ g1. guarded z (is_place a) (p + 52) 44 t _ (λ g2.
          guarded z (is_place (a + 2)) (p + 52) 44 t _ (λ g3.
          let f1 = place_is a g2 in
          let f2 = place_is (a + 2) g3 in
          let x = word_sum k k in
          let same = known_same fe fv fm in
          runs_on z (known_time fe fv fm q (place_is list.cln g1) f1 f2)
          (λ u g. known_stored (logged place list k x same w wl fe f1 f2) u (logged_words place list k x same w wl fe f1 f2) fe g))))

-- ---- behind the log

module _ (z : Setting) (place : LoggedPlace) (p : ℕ) where
  -- the word in R5 is the element
  word_kept : (i v : ℕ) → Stands z.code (p + 46) (kept_in place.elements) → Keeps z place p i v 4 (p + 46 + 4) (λ s. v)
  word_kept i v h w t fe wl j =
      let e = 2 * i + place.elements in
      let at : t.work 4 + place.elements ≡ e = ap (λ q. q + place.elements) j.held.four in
      store_line z (kept_in place.elements) (Store e v ∷ []) (put w.fram e v) 4 (p + 46 + 4) _ j.is (tt, tt) h ((tt, subst IsPlace (sym at) fe), tt) refl refl
      (omega (arith, j.is.at)) (λ k. Store (at k) (j.held.five k) ∷ []) (λ k. put (j.is.fram k) (at k) (j.held.five k)) (λ s. s)

  -- so is what an operation gives of the element and of the word in R5
  word_made : (o : PlainOperation) (list : ListPlace) (i v : ℕ) → v < 0x10000 → Stands z.code (p + 46) (made_in o place.elements)
      → Keeps z place p i v 8 (p + 46 + 10) (λ s. plain_word o (s.fram (2 * i + place.elements)) v)
  word_made o list i v small h w t fe wl j =
      let both : ArrayPlace = record { elements = place.elements; copies = place.elements; versions = place.versions; length = place.length } in
      so_runs (made_part z o (Register R5) 1 (omega arith) both list place.elements (p + 46) i v w t wl small fe fe h
      (record { is = j.is; held = record { four = j.held.four; gives = five_gives false v w.fram t.work j.held.five } })) (λ u k. k.is)

-- ---- at any index

module _ (z : Setting) (place : LoggedPlace) (list : ListPlace) (small : place.length < 0x10000) (last : List Form) (bytes : ℕ)
    (last_bytes : forms_bytes last ≡ bytes) (few : bytes ≤ 100) (word : WordState → ℕ) (r : ℕ) where
  abbrev inside : List Form
  inside = logged_first place list ++ last

  -- what stores the element does it, wherever its code stands
  abbrev pub Stores : ℕ → ℕ → Type 0
  Stores i v = (p : ℕ) → Stands z.code (p + 46) last → Keeps z place p i v r (p + 46 + bytes) word

  inside_bytes : forms_bytes inside ≡ 46 + bytes
  inside_bytes = omega (arith, forms_bytes-append (logged_first place list) last, last_bytes)

  inside_part : (p i v : ℕ) (w : WordState) (t : Core) → HoldsWords w.fram → Stores i v → Stands z.code p inside → HasTwo z p w i v t
      → Follows z (p + forms_bytes inside) (37 + r) t (own_logged place list i word w)
  inside_part p i v w t wl stores h j =
      let front = stands_front z.code p (logged_first place list) last h in
      let back = stands_back z.code p (logged_first place list) last h in
      ends_at z (p + 46 + bytes) (p + forms_bytes inside) (37 + r) t (own_logged place list i word w) (omega (arith, inside_bytes))
      (logged_part z place list p front word i v r (p + 46 + bytes) w t wl j (stores p back))

  -- behind the check, by whether the index is below the length
  checked_by : (b : Bool) (pc i v : ℕ) (w : WordState) (t : Core) → nat_lt i place.length ≡ b → i < 0x10000 → HoldsWords w.fram → Stores i v
      → Stands z.code pc (logged_code false place list last) → HasTwo z pc w i v t
      → Follows z (pc + forms_bytes (logged_code false place list last)) (41 + r) t (if b then own_logged place list i word w else goes_on [] w)
  checked_by false pc i v w t lt index wl stores h j =
      let check = check_code place.length (size inside) in
      let at = pc + forms_bytes check in
      let front = stands_front z.code pc check inside h in
      let back = stands_back z.code pc check inside h in
      let high = (z.tidy at _ back.0).high in
      let low = stands_low z at inside back (omega (arith, high)) in
      let words = whole_size inside in
      let near = near_distance (size inside) (omega (arith, words, inside_bytes, few)) in
      let to : sum16 at (distance (size inside)) ≡ pc + forms_bytes (logged_code false place list last) =
      omega (arith, near, words, low, forms_bytes-append check inside) in
      dearer z (omega arith)
      (so_runs (check_part z place.length (size inside) pc small front false _ i w t lt index to j.held.four j.is) (λ u k. k.is))
  checked_by true pc i v w t lt index wl stores h j =
      let check = check_code place.length (size inside) in
      let at = pc + forms_bytes check in
      let front = stands_front z.code pc check inside h in
      let back = stands_back z.code pc check inside h in
      let b = own_logged place list i word w in
      let end : at + forms_bytes inside ≡ pc + forms_bytes (logged_code false place list last) = omega (arith, forms_bytes-append check inside) in
      ends_at z (at + forms_bytes inside) _ (41 + r) t b end
      (more_cycles z (at + forms_bytes inside) (4 + (37 + r)) (41 + r) t b.effects b.end (omega arith)
      (then_end z (at + forms_bytes inside) (37 + r) b.effects b.end
      (check_part z place.length (size inside) pc small front true at i w t lt index refl j.held.four j.is)
      (λ u k. inside_part at i v w u wl stores back (record { is = k.is; held = subst (HasSides i v) (sym k.held) j.held }))))

  -- by whether the index is surely below the length
  code_part : (sure : Bool) (pc i v : ℕ) (w : WordState) (t : Core) → (sure ≡ true → nat_lt i place.length ≡ true) → i < 0x10000 → HoldsWords w.fram
      → Stores i v → Stands z.code pc (logged_code sure place list last) → HasTwo z pc w i v t
      → Follows z (pc + forms_bytes (logged_code sure place list last)) (41 + r) t
      (if nat_lt i place.length then own_logged place list i word w else goes_on [] w)
  code_part true pc i v w t sure index wl stores h j =
      let b = own_logged place list i word w in
      let end = pc + forms_bytes inside in
      subst (λ c. Follows z end (41 + r) t (if c then b else goes_on [] w)) (sym (sure refl))
      (more_cycles z end (37 + r) (41 + r) t b.effects b.end (omega arith) (inside_part pc i v w t wl stores h j))
  code_part false pc i v w t sure index wl stores h j = checked_by (nat_lt i place.length) pc i v w t refl index wl stores h j

-- ---- the steps

module _ (z : Setting) (bs : List Bound) (place : LoggedPlace) (list : ListPlace) (small : place.length < 0x10000) (os : List Waiting) (pc : ℕ)
    (w : WordState) (u : Core) (wl : HoldsWords w.fram) (lb : Bounded bs w.locals) where
  -- what brings the index and the word to their registers
  abbrev front : List Form
  front = two_to_registers os ++ flushed (kept (below_top (below_top os)))

  abbrev sure : Bool
  sure = is_inside bs (top_of (below_top os)) place.length

  -- and then what stores
  sides_brought : (last : List Form) (r v i : ℕ) (rest : List ℕ) (b : Behaviour) → w.stack ≡ v ∷ (i ∷ rest)
      → (let ms = front ++ logged_code sure place list last in Stands z.code pc ms → Describes z os pc w u
      → ((t : Core) → Stands z.code (pc + forms_bytes front) (logged_code sure place list last)
      → HasTwo z (pc + forms_bytes front) (with_stack rest w) i v t
      → Follows z (pc + forms_bytes front + forms_bytes (logged_code sure place list last)) (41 + r) t b)
      → Does z [] (pc + forms_bytes ms) (45 + r + owed os) u b)
  sides_brought last r v i rest b e h d follows =
      let ks = kept (below_top (below_top os)) in
      alone_behind z front (logged_code sure place list last) (41 + r) (45 + r + owed os) pc u b
      (omega (arith, owed_kept (below_top (below_top os)), load_owed os, load_owed (below_top os))) h
      (λ q. gathered z (two_to_registers os) ks pc q (λ q. two_to_registers_part z os pc w i v rest u e q d)) (λ t q k. follows t q k)

  pub logged_write_reaches : (vs : List ℕ) → (w.stack ≡ vs) × AreWords vs
      → StepDoes z bs os (logged_write place list) 49 pc w u (with_two vs (λ i v us. logged_stored place list i v (with_stack us w)))
  logged_write_reaches [] e h d = tt
  logged_write_reaches (v ∷ []) e h d = tt
  logged_write_reaches (v ∷ (i ∷ rest)) e h d =
      let is = under_inside z bs pc u place.length os w i v rest lb e.0 d in
      sides_brought (kept_in place.elements) 4 v i rest (logged_stored place list i v (with_stack rest w)) e.0 h d (λ t q k.
      code_part z place list small (kept_in place.elements) 4 refl (omega arith) (λ s. v) 4 sure (pc + forms_bytes front) i v (with_stack rest w) t is
      e.1.1.0 wl (λ p s. word_kept z place p i v s) q k)

  -- an update at an index that isn't a known number
  update_by : (o : PlainOperation) (v i : ℕ) (rest : List ℕ) → w.stack ≡ v ∷ (i ∷ rest) → AreWords (v ∷ (i ∷ rest))
      → (let ms = logged_update_at None sure os o place list in Stands z.code pc ms → Describes z os pc w u
      → Does z [] (pc + forms_bytes ms) (53 + owed os) u (logged_updated o place list i v (with_stack rest w)))
  update_by o v i rest e l h d =
      let is = under_inside z bs pc u place.length os w i v rest lb e d in
      sides_brought (made_in o place.elements) 8 v i rest (logged_updated o place list i v (with_stack rest w)) e h d (λ t q k.
      code_part z place list small (made_in o place.elements) 10 (omega arith) (omega arith) (λ s. plain_word o (s.fram (2 * i + place.elements)) v) 8 sure
      (pc + forms_bytes front) i v (with_stack rest w) t is l.1.0 wl (λ p s. word_made z place p o list i v l.0 s) q k)

module _ (z : Setting) (bs : List Bound) (place : LoggedPlace) (list : ListPlace) (small : place.length < 0x10000) (pc : ℕ) (w : WordState) (u : Core)
    (wl : HoldsWords w.fram) (lb : Bounded bs w.locals) (o : PlainOperation) (v i : ℕ) (rest : List ℕ) (e : w.stack ≡ v ∷ (i ∷ rest))
    (l : AreWords (v ∷ (i ∷ rest))) where
  -- the right side to R5, all below it and the index being pushed
  right_five : (q : Waiting) (k : ℕ) (os : List Waiting) → (let ws = q ∷ (waiting.Number k ∷ os) in Stands z.code pc (right_to_five ws)
      → Describes z ws pc w u → Runs z.kept [] (owed os + load_cycles (Some q)) u
      (Waits z (waiting.Number k ∷ []) (pc + forms_bytes (right_to_five ws)) (with_stack (i ∷ rest) w) (HasWord R5 v)))
  right_five q k os h d =
      let mid = pc + forms_bytes (flushed os) in
      two_parts z (flushed os) (five_from (Some q)) pc (λ n. Waits z (waiting.Number k ∷ []) n (with_stack (i ∷ rest) w) (HasWord R5 v)) h
      (flush_under z (q ∷ (waiting.Number k ∷ [])) os pc w u d) (λ t s y.
      so_runs (five_part z (q ∷ (waiting.Number k ∷ [])) mid w v (i ∷ rest) t e s y.is) (λ r j. record { is = j.is; held = j.held.value }))

  -- the index a number that waits, by whether it is below the length
  number_by : (b : Bool) (k : ℕ) (q : Waiting) (os : List Waiting) → nat_lt k place.length ≡ b
      → (let ws = q ∷ (waiting.Number k ∷ os) in let ms = logged_update_at (if b then Some k else None) (nat_lt k place.length) ws o place list in
      Stands z.code pc ms → Describes z ws pc w u
      → Does z [] (pc + forms_bytes ms) (53 + owed ws) u (logged_updated o place list i v (with_stack rest w)))
  number_by false k q os lt h d = update_by z bs place list small (q ∷ (waiting.Number k ∷ os)) pc w u wl lb o v i rest e l h d
  number_by true k q os lt h d =
      let ws = q ∷ (waiting.Number k ∷ os) in
      let left = with_stack rest w in
      let above = with_stack (i ∷ rest) w in
      let mid = pc + forms_bytes (right_to_five ws) in
      let code = known_logged o place list k in
      let word : ℕ → WordState → ℕ = λ n s. plain_word o (s.fram (2 * n + place.elements)) v in
      let there : mid + 52 ≡ mid + forms_bytes code = omega arith in
      alone_behind z (right_to_five ws) code 44 (53 + owed ws) pc u (logged_updated o place list i v left) (omega (arith, load_owed (q ∷ []))) h
      (λ s. right_five q k os s d) (λ t s j.
      let y = drop_part z (waiting.Number k) [] mid above i rest t refl j.is in
      subst (λ n. Follows z (mid + forms_bytes code) 44 t (logged_updated o place list n v left)) y.1
      (subst (λ x. Follows z (mid + forms_bytes code) 44 t (if x then own_logged place list k (word k) left else goes_on [] left)) (sym lt)
      (ends_at z (mid + 52) (mid + forms_bytes code) 44 t (own_logged place list k (word k) left) there
      (known_part z o place list k mid s v left t wl l.0 (record { is = bare z mid left t y.0; held = j.held })))))

  update_on : (os : List Waiting) → StepDoes z bs os (logged_update o place list) 53 pc w u (logged_updated o place list i v (with_stack rest w))
  update_on (q ∷ (waiting.Number k ∷ os)) h d = number_by (nat_lt k place.length) k q os refl h d
  update_on os h d = update_by z bs place list small os pc w u wl lb o v i rest e l h d

pub logged_update_reaches : (z : Setting) (bs : List Bound) (place : LoggedPlace) (list : ListPlace) → place.length < 0x10000 → (os : List Waiting) (pc : ℕ)
    (w : WordState) (u : Core) → HoldsWords w.fram → Bounded bs w.locals → (o : PlainOperation) (vs : List ℕ) → (w.stack ≡ vs) × AreWords vs
    → StepDoes z bs os (logged_update o place list) 53 pc w u (with_two vs (λ i v us. logged_updated o place list i v (with_stack us w)))
logged_update_reaches z bs place list small os pc w u wl lb o [] e h d = tt
logged_update_reaches z bs place list small os pc w u wl lb o (v ∷ []) e h d = tt
logged_update_reaches z bs place list small os pc w u wl lb o (v ∷ (i ∷ rest)) e h d = update_on z bs place list small pc w u wl lb o v i rest e.0 e.1 os h d
