-- Elements of arrays, emits, and entries of the commit list.
use Rattle.word_code.proofs.Names.{◌≡◌, ℕ, ◌+◌, ◌*◌, ◌%◌, ◌<◌, ◌==◌, not, List, [], ◌∷◌, ◌++◌, refl, sym, ap, ◌∙◌, subst, arith, Bool, true, false, ◌≤◌, nat_lt}
use Rattle.word_code.proofs.Names.{nat_le, if◌then◌else◌, both_ways, nat_tests, word_sum, sum16, distance, Effect, Store, put, IsPlace, R4, R5, Core, Number}
use Rattle.word_code.proofs.Names.{Constant}
use Rattle.word_code.proofs.Names.{ToRegister, ToIndexed, Form, Move, Calculate, Update, form_bytes, Stands, forms_bytes, Runs, stands_front, stands_back}
use Rattle.word_code.proofs.Names.{forms_bytes-append, WordState, is_place, stored, word_emitted, entry_stored, number_source, check_code, zero_code}
use Rattle.word_code.proofs.Names.{fetch_code, element_code, emit_code, pair_code, entry_code}
use Rattle.array_versions.specs.msp_step.msp_isa.declared.instructions.Condition.TheVariants as condition
use Rattle.array_versions.specs.msp_step.msp_isa.declared.instructions.TwoOp.TheVariants as op
use Rattle.array_versions.specs.msp_step.msp_isa.declared.operands.Konst.TheVariants as konst
use Rattle.word_code.proofs.Registers.{Holds, Has, line, jump_with}
use Rattle.word_code.proofs.Operands.{AreThese, compare_number}
use Rattle.word_code.proofs.Stretches.{Setting, runs_on, dearer, so_runs}
use Rattle.word_code.proofs.Memory.{place_is, address_small}
use Rattle.word_code.proofs.Follows.{StandsFor, Follows, guarded}
use Rattle.word_code.proofs.ListParts.{sixfold, six_times, at_offset, plus_none}
use Rattle.word_code.proofs.Jumps.{near_distance}
use Rattle.word_code.proofs.Routes.{on, free, route, store_route, starts}

-- twice an index, as the code has it, and the word of an element there
pub twice : (n base : ℕ) → 2 * n + base < 0x10000 → (n + n + 0) % 0x10000 ≡ 2 * n
twice n base h = omega arith

pub doubled_fits : (i base : ℕ) → IsPlace (2 * i + base) → IsPlace ((i + i + 0) % 0x10000 + base)
doubled_fits i base f = subst (λ k. IsPlace (k + base)) (sym (twice i base (address_small f))) f

is_one : (n : ℕ) → (n == 1) ≡ true → 1 ≡ n
is_one n e = grind (arith, nat_tests)

-- the ways of a test that is turned round
turned : {A : Type 0} (b : Bool) (x y : A) → (if not b then x else y) ≡ (if b then y else x)
turned true x y = refl
turned false x y = refl

module _ (z : Setting) where
  -- ---- the check of an index

  pub le_of_lt : (i size : ℕ) (b : Bool) → nat_lt i size ≡ b → nat_le size i ≡ not b
  le_of_lt i size true e = grind (arith, nat_tests)
  le_of_lt i size false e = grind (arith, nat_tests)

  -- it goes on where the index in R4 is below the length, else over so many words
  module _ (size over pc : ℕ) (l : size < 0x10000) (h : Stands z.code pc (check_code size over)) where
    pub check_part : (b : Bool) (to i : ℕ) (w : WordState) (t : Core) → nat_lt i size ≡ b → i < 0x10000
        → (let behind = pc + forms_bytes (check_code size over) in (if b then behind else sum16 behind (distance over)) ≡ to) → t.work 4 ≡ i
        → StandsFor z pc w t → Runs z.kept [] 4 t (Holds z (AreThese t.work) to w)
    check_part b to i w t lt r e v k =
        let m = Calculate op.Cmp (number_source size) R4 in
        let mid = pc + form_bytes m in
        let behind = pc + forms_bytes (check_code size over) in
        let same : mid + 2 ≡ behind = omega arith in
        runs_on z (compare_number z R4 pc i size w t r l v k h.0) (λ u j.
        jump_with z condition.Carry over mid to (not b) h.1.0 (j.flag.carry ∙ le_of_lt i size b lt)
        (ap (λ n. if not b then sum16 n (distance over) else n) same ∙ turned b (sum16 behind (distance over)) behind ∙ e) j.all)

  -- ---- code behind the check, and what gives 0 where the index isn't below the length

  module _ (size over pc : ℕ) (ms : List Form) (l : size < 0x10000) (h : Stands z.code pc (check_code size over ++ (ms ++ zero_code))) where
    abbrev pub within : ℕ
    within = pc + forms_bytes (check_code size over)

    abbrev pub beyond : ℕ
    beyond = within + forms_bytes ms

    check_stands : Stands z.code pc (check_code size over)
    check_stands = stands_front z.code pc (check_code size over) (ms ++ zero_code) h

    behind_check : Stands z.code within (ms ++ zero_code)
    behind_check = stands_back z.code pc (check_code size over) (ms ++ zero_code) h

    pub within_stands : Stands z.code within ms
    within_stands = stands_front z.code within ms zero_code behind_check

    pub zero_stands : Stands z.code beyond zero_code
    zero_stands = stands_back z.code within ms zero_code behind_check

    pub checked_end : beyond + 4 ≡ pc + forms_bytes (check_code size over ++ (ms ++ zero_code))
    checked_end = omega (arith, forms_bytes-append (check_code size over) (ms ++ zero_code), forms_bytes-append ms zero_code)

    -- the index is not below the length
    pub checked_past : (i : ℕ) (w : WordState) (t : Core) → forms_bytes ms + 2 ≡ 2 * over → over ≤ 511 → nat_lt i size ≡ false → i < 0x10000
        → Has z R4 pc w i t → Runs z.kept [] 5 t (Has z R4 (beyond + 4) w 0)
    checked_past i w t far near lt r k =
        let high = (z.tidy (beyond + 2) _ zero_stands.1.0).high in
        let to : sum16 within (distance over) ≡ beyond + 2 = ap (sum16 within) (near_distance over near) ∙ omega (arith, far) in
        let zeroed = Move (Constant konst.Zero) (ToRegister R4) ∷ [] in
        runs_on z (check_part size over pc l check_stands false (beyond + 2) i w t lt r to k.held k.is)
        (λ u j. line z zeroed 1 (beyond + 4) _ j.is (tt, tt) zero_stands.1 ((tt, tt), tt) refl refl (omega (arith, j.is.at))
        (λ s. record { is = s; held = refl }))

    -- it is
    pub checked_within : (i : ℕ) (w : WordState) (t : Core) → nat_lt i size ≡ true → i < 0x10000 → Has z R4 pc w i t → Runs z.kept [] 4 t (Has z R4 within w i)
    checked_within i w t lt r k =
        so_runs (check_part size over pc l check_stands true within i w t lt r refl k.held k.is)
        (λ u j. record { is = j.is; held = ap (λ (f : ℕ → ℕ). f 4) j.held ∙ k.held })

    -- what the code has made goes over the 0
    pub over_zero : (v : ℕ) (w : WordState) (t : Core) → Has z R4 beyond w v t → Runs z.kept [] 2 t (Has z R4 (beyond + 4) w v)
    over_zero v w t k =
        let high = (z.tidy (beyond + 2) _ zero_stands.1.0).high in
        let to : sum16 (beyond + 2) (distance 1) ≡ beyond + 4 = omega arith in
        jump_with z condition.Always 1 beyond (beyond + 4) true zero_stands.0 refl to k

  -- ---- an element

  -- at an index below the length it is a word of FRAM
  fetch_part : (base pc i : ℕ) (w : WordState) (t : Core) → IsPlace (2 * i + base) → Stands z.code pc (fetch_code base) → Has z R4 pc w i t
      → Runs z.kept [] 4 t (Has z R4 (pc + 6) w (w.fram (2 * i + base)))
  fetch_part base pc i w t f h k =
      route z pc (fetch_code base) h 0 (starts z k.is) (k.held, refl, refl, refl) (on 2 ∷ []) 4 _ (_, ((tt, tt), ((doubled_fits i base f, tt), tt)), (refl, tt))
      refl refl (λ s. record { is = s; held = ap (λ v. w.fram (v + base)) (twice i base (address_small f)) })

  -- R4 holds an index of an array of so many words
  pub record Indexed (size pc i : ℕ) (w : WordState) (t : Core) : Type 0 where
    pub small : size < 0x10000
    pub index : i < 0x10000
    pub held : Has z R4 pc w i t

  -- by whether the index is surely below the length
  pub past_end : (b : Bool) (base size pc i : ℕ) (w : WordState) (t : Core) → Indexed size pc i w t → Stands z.code pc (element_code b base size)
      → (b ≡ true → nat_lt i size ≡ true) → nat_lt i size ≡ false
      → Runs z.kept [] 10 t (Has z R4 (pc + forms_bytes (element_code b base size)) w 0)
  past_end true base size pc i w t k h sure below = absurd (both_ways (nat_lt i size) below (sure refl))
  past_end false base size pc i w t k h sure below =
      let ms = fetch_code base in
      dearer z (omega arith)
      (subst (λ p. Runs z.kept [] 5 t (Has z R4 p w 0)) (checked_end size 4 pc ms k.small h)
      (checked_past size 4 pc ms k.small h i w t refl (omega arith) below k.index k.held))

  pub before_end : (b : Bool) (base size pc i : ℕ) (w : WordState) (t : Core) → Indexed size pc i w t → Stands z.code pc (element_code b base size)
      → nat_lt i size ≡ true → IsPlace (2 * i + base)
      → Runs z.kept [] 10 t (Has z R4 (pc + forms_bytes (element_code b base size)) w (w.fram (2 * i + base)))
  before_end true base size pc i w t k h lt f = dearer z (omega arith) (fetch_part base pc i w t f h k.held)
  before_end false base size pc i w t k h lt f =
      let l = k.small in
      let v = w.fram (2 * i + base) in
      let ms = fetch_code base in
      let at = within size 4 pc ms l h in
      subst (λ p. Runs z.kept [] 10 t (Has z R4 p w v)) (checked_end size 4 pc ms l h)
      (runs_on z (checked_within size 4 pc ms l h i w t lt k.index k.held) (λ u j. runs_on z (fetch_part base at i w u f (within_stands size 4 pc ms l h) j)
      (λ q n. over_zero size 4 pc ms l h v w q n)))

  -- the word in R5
  pub emit_part : (count buffer pc v : ℕ) (w : WordState) (u : Core) → Stands z.code pc (emit_code count buffer) → Has z R5 pc w v u
      → Follows z (pc + 18) 14 u (word_emitted count buffer v w)
  emit_part count buffer pc v w u h k =
      let n = w.fram count in
      let end = pc + 18 in
      guarded z (is_place count) end 14 u _ (λ g1.
      guarded z (is_place (2 * n + buffer)) end 14 u _ (λ g2.
      let f1 = place_is count g1 in
      let f2 = place_is (2 * n + buffer) g2 in
      let high = address_small f2 in
      let at = ap (λ q. q + buffer) (twice n buffer high) in
      let up : (n + 1 + 0) % 0x10000 ≡ n + 1 = omega (arith, high) in
      store_route z pc (emit_code count buffer) h 0 (starts z k.is) (refl, k.held, refl, refl) (on 6 ∷ []) (Store (2 * n + buffer) v ∷ Store count (n + 1) ∷ [])
      (put (put w.fram (2 * n + buffer) v) count (n + 1)) 14 _
      (_, ((f1, tt), ((tt, tt), ((tt, tt), ((tt, doubled_fits n buffer f2), ((tt, tt), ((tt, f1), tt)))))), (refl, tt)) refl refl
      (λ e. Store (at e) v ∷ Store count (up e) ∷ []) (λ e. put (put w.fram (at e) v) count (up e)) (λ s. s)))

  -- an entry behind the others, then the count
  module _ (count list home copy words pc : ℕ) (w : WordState) (u : Core) (i : StandsFor z pc w u) (fc : IsPlace count) (f1 : IsPlace (6 * w.fram count + list))
      (f2 : IsPlace (6 * w.fram count + list + 2)) (f4 : IsPlace (6 * w.fram count + list + 4)) where
    abbrev at : ℕ
    at = 6 * w.fram count + list

    abbrev three : WordState
    three = stored (at + 4) words (stored (at + 2) copy (stored at home w))

    abbrev counted : ℕ
    counted = (three.fram count + 1) % 0x10000

    abbrev entry : List Effect
    entry = Store at home ∷ Store (at + 2) copy ∷ Store (at + 4) words ∷ Store count counted ∷ []

    abbrev code_by : Bool → List Form
    code_by b =
        pair_code count list home copy
        ++ (Move (if b then Constant konst.One else Number words) (ToIndexed R4 (word_sum list 4)) ∷ Update op.Add (Constant konst.One) count ∷ [])

    -- R4's word is an offset in the list
    abbrev offset : ℕ
    offset = sixfold (w.fram count)

    offset_is : offset ≡ 6 * w.fram count
    offset_is = let high = address_small f1 in six_times (w.fram count) (omega (arith, high))

    first : offset + list ≡ at
    first = ap (λ k. k + list) offset_is

    second : offset + word_sum list 2 ≡ at + 2
    second = ap (λ k. k + word_sum list 2) offset_is ∙ at_offset (6 * w.fram count) list 2 (address_small f2)

    third : offset + word_sum list 4 ≡ at + 4
    third = ap (λ k. k + word_sum list 4) offset_is ∙ at_offset (6 * w.fram count) list 4 (address_small f4)

    abbrev made : ℕ → ℕ → ℕ
    made x = put (put (put w.fram (offset + list) home) (offset + word_sum list 2) copy) (offset + word_sum list 4) x

    made_is : (x : ℕ) → x ≡ words → made x ≡ three.fram
    made_is x e = λ k. put (put (put w.fram (first k) home) (second k) copy) (third k) (e k)

    count_is : (x : ℕ) → x ≡ words → (made x count + 1 + 0) % 0x10000 ≡ counted
    count_is x e = ap (λ (f : ℕ → ℕ). (f count + 1 + 0) % 0x10000) (made_is x e) ∙ plus_none (three.fram count) 1

    effects_are : (x : ℕ) → x ≡ words → Store (offset + list) home ∷ Store (offset + word_sum list 2) copy ∷ Store (offset + word_sum list 4) x
        ∷ Store count ((made x count + 1 + 0) % 0x10000) ∷ [] ≡ entry
    effects_are x e = λ k. Store (first k) home ∷ Store (second k) copy ∷ Store (third k) (e k) ∷ Store count (count_is x e k) ∷ []

    fram_is : (x : ℕ) → x ≡ words → put (made x) count ((made x count + 1 + 0) % 0x10000) ≡ (stored count counted three).fram
    fram_is x e = λ k. put (made_is x e k) count (count_is x e k)

    -- by whether it has one word
    entry_by : (b : Bool) → (words == 1) ≡ b → Stands z.code pc (code_by b)
        → Runs z.kept entry 26 u (StandsFor z (pc + forms_bytes (code_by b)) (stored count counted three))
    entry_by true e h =
        let g1 = subst IsPlace (sym first) f1 in let g2 = subst IsPlace (sym second) f2 in let g4 = subst IsPlace (sym third) f4 in
        dearer z (omega arith)
        (store_route z pc (code_by true) h 0 (starts z i) (refl, refl, refl, refl) (on 5 ∷ on 4 ∷ []) entry (stored count counted three).fram 25 _
        (_, ((fc, tt), free 4), (refl, (_, ((tt, g1), ((tt, g2), ((tt, g4), ((tt, refl, tt, fc), tt)))), (refl, tt)))) refl refl
        (effects_are 1 (is_one words e)) (fram_is 1 (is_one words e)) (λ s. s))
    entry_by false e h =
        let g1 = subst IsPlace (sym first) f1 in let g2 = subst IsPlace (sym second) f2 in let g4 = subst IsPlace (sym third) f4 in
        store_route z pc (code_by false) h 0 (starts z i) (refl, refl, refl, refl) (on 5 ∷ on 4 ∷ []) entry (stored count counted three).fram 26 _
        (_, ((fc, tt), free 4), (refl, (_, ((tt, g1), ((tt, g2), ((tt, g4), ((tt, refl, tt, fc), tt)))), (refl, tt)))) refl refl
        (effects_are words refl) (fram_is words refl) (λ s. s)

  pub entry_part : (count list home copy words pc : ℕ) (w : WordState) (u : Core) → Stands z.code pc (entry_code count list home copy words)
      → StandsFor z pc w u → Follows z (pc + forms_bytes (entry_code count list home copy words)) 26 u (entry_stored count list home copy words w)
  entry_part count list home copy words pc w u h i =
      let at = 6 * w.fram count + list in
      let end = pc + forms_bytes (entry_code count list home copy words) in
      guarded z (is_place count) end 26 u _ (λ gc. guarded z (is_place at) end 26 u _ (λ g1. guarded z (is_place (at + 2)) end 26 u _ (λ g2.
      guarded z (is_place (at + 4)) end 26 u _ (λ g4.
      entry_by count list home copy words pc w u i (place_is count gc) (place_is at g1) (place_is (at + 2) g2) (place_is (at + 4) g4) (words == 1) refl h))))
