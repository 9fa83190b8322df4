-- Elements that are updated in place.
use Rattle.word_code.proofs.Names.{rests, ◌≡◌, ℕ, ◌+◌, ◌-◌, ◌*◌, ◌%◌, ◌<◌, ◌≤◌, ◌==◌, not, Bool, true, false, nat_lt, nat_le, if◌then◌else◌, List, [], ◌∷◌}
use Rattle.word_code.proofs.Names.{◌++◌, Some, None, refl, sym, ap, ap₂, ◌∙◌, subst, arith, word_sum, Word, operated, sum16, distance, cycles_of, source_cycles}
use Rattle.word_code.proofs.Names.{to_register, to_memory, Store, put, Goes, IsPlace, R4, R6, R7, Core, Source, source_bytes, source_value, source_read}
use Rattle.word_code.proofs.Names.{source_operand, rules_of}
use Rattle.word_code.proofs.Names.{Register, Number, Fram, Indexed, ToRegister, ToIndexed, Form, Move, Calculate, Update, Jump, flags_after, instruction_of}
use Rattle.word_code.proofs.Names.{form_bytes, Stands, forms_bytes, Runs, stands_front, stands_back, forms_bytes-append, PlainOperation, ArrayPlace, ListPlace}
use Rattle.word_code.proofs.Names.{plain_word, versioned_update, WordState, Behaviour, goes_on, behind_effects, with_two, with_stack, is_place, at_place}
use Rattle.word_code.proofs.Names.{stored, first_stored, own_place, own_kept, own_updated, versioned_updated, plain_small, put_words, Bound, Waiting, top_of}
use Rattle.word_code.proofs.Names.{below_top, plain_instruction, first_code, size, double, rest_source, right_to_rest, update_sides, made_code, attempt_form}
use Rattle.word_code.proofs.Names.{first_update, by_version, inside_update, checked_update, indexed_update, known_update, update_at, is_inside}
use Rattle.array_versions.specs.msp_step.msp_isa.declared.instructions.Condition.TheVariants as condition
use Rattle.array_versions.specs.msp_step.msp_isa.declared.instructions.TwoOp.TheVariants as op
use Rattle.word_code.specs.declared.waiting.Waiting.TheVariants as waiting
use Rattle.word_code.proofs.Memory.{HoldsWords, AreWords, place_is, address_small}
use Rattle.word_code.proofs.Results.{StepDoes, alone_behind, Does}
use Rattle.word_code.proofs.Sides.{Aiming, GivesOn, Aims, reading_cycles, reading_price, writing_price, side_owed, update_sides_part, right_part, is_read}
use Rattle.word_code.proofs.VersionParts.{HasNumber, Versioned, marked}
use Rattle.word_code.proofs.Registers.{Holds, Has, Flagged, IsZero, IsCarry, line, store_line, jump_with, jump_to, equal_flag, no_borrow}
use Rattle.word_code.proofs.Operands.{owed, load_owed, Describes, bare, drop_part}
use Rattle.word_code.proofs.Stretches.{Setting, hop, runs_on, dearer, so_runs}
use Rattle.word_code.proofs.Follows.{StandsFor, Follows, more_cycles, then_end, ends_at, guarded, stands_elsewhere}
use Rattle.word_code.proofs.Jumps.{whole_size, near_distance, stands_low}
use Rattle.word_code.proofs.Access.{le_of_lt, twice, doubled_fits}
use Rattle.word_code.proofs.Routes.{on, route, starts}
use Rattle.word_code.proofs.Middles.{makes, plain_step, plain_needs}
use Rattle.word_code.proofs.LoopBounds.{Bounded, under_inside}
use Rattle.word_code.proofs.ListParts.{first_follows}
use Rattle.word_code.proofs.UpdateBytes.{reads_bytes, made_bytes, first_bytes, inside_bytes, near_size}

-- a jump over code that it reaches
lands : (pc : ℕ) (ms : List Form) → size ms ≤ 511 → pc + 2 + forms_bytes ms < 0x10000 → sum16 (pc + 2) (distance (size ms)) ≡ pc + 2 + forms_bytes ms
lands pc ms l low = ap (λ d. sum16 (pc + 2) d) (near_distance (size ms) l) ∙ omega (arith, low, whole_size ms)

-- ---- addresses

-- where the word of an element at a number that is known stands
pub known_place : (k base : ℕ) → 2 * k + base < 0x10000 → word_sum base (word_sum k k) ≡ 2 * k + base
known_place k base h = omega arith

pub known_offset : (k base : ℕ) → 2 * k + base < 0x10000 → word_sum k k ≡ 2 * k
known_offset k base h = omega arith

-- what an update works on is words
pub record Updates (i v : ℕ) (w : WordState) : Type 0 where
  pub words : HoldsWords w.fram
  pub index : i < 0x10000
  pub word : v < 0x10000

module _ (z : Setting) (o : PlainOperation) (x : Source) (r : ℕ) (reads : source_cycles to_register (source_operand x) ≤ r) (place : ArrayPlace)
    (list : ListPlace) where
  -- a flag says besides whether the version word is VER's
  abbrev Looked : ℕ → WordState → ℕ → ℕ → Bool → Core → Type 0
  Looked pc w k v b = Flagged z (Aiming false x k v w.fram) (IsZero b) pc w

  -- R7 holds a third word besides
  record Fetched (w : WordState) (k v y : ℕ) (g : ℕ → ℕ) : Type 0 where
    aims : Aiming false x k v w.fram g
    seven : g 7 ≡ y

  -- R4 holds a word and R7 another
  record Made (k y : ℕ) (g : ℕ → ℕ) : Type 0 where
    four : g 4 ≡ k
    seven : g 7 ≡ y

  -- ---- the operation

  -- what the operation gives of R7 and of the source
  make_part : (pc k v y : ℕ) (w : WordState) (t : Core) → y < 0x10000 → v < 0x10000
      → (let m = Calculate (plain_instruction o) x R7 in z.code.at pc ≡ Some (instruction_of m) → Holds z (Fetched w k v y) pc w t
      → Runs z.kept [] r t (Holds z (Made k (plain_word o y v)) (pc + form_bytes m) w))
  make_part pc k v y w t ly lv h j =
      let a = j.held.aims in
      plain_step z o x R7 r t _ ly lv reads (ap z.code.at j.is.at ∙ h) (is_read false x R7 y v w.fram t j.is.fram j.held.seven a.gives) (λ f. record {
        is = stands_elsewhere z pc (pc + form_bytes (Calculate (plain_instruction o) x R7)) w t _ j.is (ap (λ p. p + (2 + source_bytes x)) j.is.at)
            refl refl refl refl refl;
        held = record { four = a.four; seven = refl };
      })

  -- a copy becomes what the operation gives of a word and of the source
  pub made_part : (from pc i v : ℕ) (w : WordState) (t : Core) → HoldsWords w.fram → v < 0x10000 → IsPlace (2 * i + from) → IsPlace (2 * i + place.copies)
      → (let ms = made_code o x from place.copies in Stands z.code pc ms → Aims z x pc w (2 * i) v t
      → (let c = 2 * i + place.copies in let y = plain_word o (w.fram (2 * i + from)) v in
      Runs z.kept (Store c y ∷ []) (7 + r) t (Has z R4 (pc + forms_bytes ms) (stored c y w) (2 * i))))
  made_part from pc i v w t wl lv ff fc h k =
      let a = 2 * i + from in
      let c = 2 * i + place.copies in
      let y = plain_word o (w.fram a) v in
      let fetch = Move (Indexed R4 from) (ToRegister R7) ∷ [] in
      let m = Calculate (plain_instruction o) x R7 in
      let last = Move (Register R7) (ToIndexed R4 place.copies) ∷ [] in
      let mid = pc + 4 + form_bytes m in
      let there : mid + 4 ≡ pc + forms_bytes (made_code o x from place.copies) = omega arith in
      let fetched = route z pc fetch (h.0, tt) 0 (starts z k.is) (k.held.four, refl, refl, refl) (on 1 ∷ []) 3
      (Holds z (Fetched w (2 * i) v (w.fram a)) (pc + 4) w)
      (_, ((ff, tt), tt), (refl, tt)) refl refl
      (λ s. record { is = s; held = record { aims = record { four = refl; gives = k.held.gives }; seven = refl } }) in
      let kept : (u : Core) → Holds z (Made (2 * i) y) mid w u → Runs z.kept (Store c y ∷ []) 4 u (Has z R4 (mid + 4) (stored c y w) (2 * i)) =
      λ u j.
      let at : u.work 4 + place.copies ≡ c = ap (λ q. q + place.copies) j.held.four in
      store_line z last (Store c y ∷ []) (put w.fram c y) 4 (mid + 4) _ j.is (tt, tt) h.1.1
      ((tt, subst IsPlace (sym at) fc), tt) refl refl (omega (arith, j.is.at)) (λ e. Store (at e) (j.held.seven e) ∷ [])
      (λ e. put (j.is.fram e) (at e) (j.held.seven e)) (λ s. record { is = s; held = j.held.four }) in dearer z (omega arith)
      (subst (λ p. Runs z.kept (Store c y ∷ []) (3 + (r + 4)) t (Has z R4 p (stored c y w) (2 * i))) there
      (runs_on z fetched (λ u j. runs_on z (make_part (pc + 4) (2 * i) v (w.fram a) w u (wl a) lv h.1.0 j) kept)))

  -- VER's word
  number_part : (pc k : ℕ) (w : WordState) (t : Core) → IsPlace list.ver → z.code.at pc ≡ Some (instruction_of (attempt_form list)) → Has z R4 pc w k t
      → Runs z.kept [] 3 t (Holds z (HasNumber k (w.fram list.ver)) (pc + 4) w)
  number_part pc k w t fv h j =
      line z (attempt_form list ∷ []) 3 (pc + 4) _ j.is (tt, tt) (h, tt) ((fv, tt), tt) refl refl (omega (arith, j.is.at))
      (λ s. record { is = s; held = record { four = j.held; six = ap (λ f. f list.ver) j.is.fram } })

  -- the first update of an element in an attempt
  first_part : (pc i v : ℕ) (w : WordState) (t : Core) → Versioned place list i w → v < 0x10000 → IsPlace (2 * i + place.elements)
      → IsPlace (2 * i + place.copies) → Stands z.code pc (first_update o x place list) → Aims z x pc w (2 * i) v t
      → (let c = 2 * i + place.copies in let y = plain_word o (w.fram (2 * i + place.elements)) v in
      Follows z (pc + forms_bytes (first_update o x place list)) (68 + r) t (behind_effects (Store c y ∷ []) (first_stored place list i (stored c y w))))
  first_part pc i v w t m lv fe fc h k =
      let wl = m.words in
      let c = 2 * i + place.copies in
      let y = plain_word o (w.fram (2 * i + place.elements)) v in
      let s = stored c y w in
      let b = first_stored place list i s in
      let ms = made_code o x place.elements place.copies in
      let rest = attempt_form list ∷ first_code place list in
      let mid = pc + forms_bytes ms in
      let end : mid + 4 + 92 ≡ pc + forms_bytes (first_update o x place list) = omega (arith, forms_bytes-append ms rest) in
      let back = stands_back z.code pc ms rest h in
      let sl = put_words w.fram c y wl (plain_small o (w.fram (2 * i + place.elements)) v (wl (2 * i + place.elements)) lv) in
      ends_at z (mid + 4 + 92) (pc + forms_bytes (first_update o x place list)) (68 + r) t (behind_effects (Store c y ∷ []) b) end
      (more_cycles z (mid + 4 + 92) (7 + r + (3 + 58)) (68 + r) t (Store c y ∷ b.effects) b.end (omega arith)
      (then_end z (mid + 4 + 92) (3 + 58) b.effects b.end (made_part place.elements pc i v w t wl lv fe fc (stands_front z.code pc ms rest h) k)
      (λ u j. then_end z (mid + 4 + 92) 58 b.effects b.end (number_part mid (2 * i) s u m.number back.0 j)
      (λ q n. first_follows z place list (mid + 4) back.1 i s q sl fc m.version n.is n.held.four n.held.six))))

  -- ---- one way or the other

  module _ (pc : ℕ) (again first : List Form) (h : Stands z.code pc (by_version again first)) (la : forms_bytes again ≤ 400)
      (lf : forms_bytes first ≤ 400) where
    abbrev leave : List Form
    leave = Jump condition.Always (size first) ∷ []

    abbrev next : List Form
    next = again ++ leave

    abbrev end : ℕ
    end = pc + forms_bytes (by_version again first)

    next_size : size next ≤ 511
    next_size = near_size next 402 (omega (arith, forms_bytes-append again leave, la)) (omega arith)

    low : pc + 2 + forms_bytes (next ++ first) < 0x10000
    low = let high = (z.tidy pc _ h.0).high in stands_low z (pc + 2) (next ++ first) h.1 (omega arith)

    -- the version word is VER's
    again_way : (c y n k v : ℕ) (w s : WordState) (t : Core) → Looked pc w k v true t
        → ((u : Core) → Stands z.code (pc + 2) again → Aims z x (pc + 2) w k v u
        → Runs z.kept (Store c y ∷ []) n u (StandsFor z (pc + 2 + forms_bytes again) s)) → Runs z.kept (Store c y ∷ []) (2 + (n + 2)) t (StandsFor z end s)
    again_way c y n k v w s t j f =
        let mid = pc + 2 + forms_bytes again in
        let front = stands_front z.code (pc + 2) next first h.1 in
        let leaves = (stands_back z.code (pc + 2) again leave front).0 in
        let behind = forms_bytes-append next first in
        let inner = forms_bytes-append again leave in
        let to : sum16 (mid + 2) (distance (size first)) ≡ end =
        lands mid first (near_size first 400 lf (omega arith)) (omega (arith, low, behind, inner)) ∙ omega (arith, behind, inner) in
        runs_on z (jump_with z condition.NotEqual (size next) pc (pc + 2) false h.0 (ap not j.flag) refl j.all)
        (λ u a. runs_on z (f u (stands_front z.code (pc + 2) again leave front) a) (λ q i. jump_to z condition.Always (size first) mid end true s q
        leaves refl to i))

    -- it isn't
    first_way : (n k v : ℕ) (w : WordState) (t : Core) (b : Behaviour) → Looked pc w k v false t
        → (let mid = pc + 2 + forms_bytes next in
        ((u : Core) → Stands z.code mid first → Aims z x mid w k v u → Follows z (mid + forms_bytes first) n u b) → Follows z end (2 + n) t b)
    first_way n k v w t b j f =
        let mid = pc + 2 + forms_bytes next in
        let behind = forms_bytes-append next first in
        let to : sum16 (pc + 2) (distance (size next)) ≡ mid = lands pc next next_size (omega (arith, low, behind)) in
        ends_at z (mid + forms_bytes first) end (2 + n) t b (omega (arith, behind)) (then_end z (mid + forms_bytes first) n b.effects b.end
        (jump_with z condition.NotEqual (size next) pc mid true h.0 (ap not j.flag) to j.all) (λ u a. f u (stands_back z.code (pc + 2) next first h.1) a))

  -- ---- an update at the index in R4, which is below the length

  abbrev looking : List Form
  looking = double ∷ attempt_form list ∷ Calculate op.Cmp (Indexed R4 place.versions) R6 ∷ []

  -- R4 becomes the offset, and the version word is looked at
  look_part : (pc i v : ℕ) (w : WordState) (t : Core) → HoldsWords w.fram → IsPlace list.ver → IsPlace (2 * i + place.versions) → Stands z.code pc looking
      → Aims z x pc w i v t → Runs z.kept [] 7 t (Looked (pc + 10) w (2 * i) v (w.fram list.ver == w.fram (2 * i + place.versions)))
  look_part pc i v w t wl fv fm h k =
      let high = address_small fm in
      route z pc looking h 0 (starts z k.is) (k.held.four, refl, refl, refl) (on 3 ∷ []) 7 _
      (_, ((tt, tt), ((fv, tt), ((tt, doubled_fits i place.versions fm), tt))), (refl, tt)) refl refl
      (λ s. record {
        all = record { is = s; held = record { four = twice i place.versions high; gives = k.held.gives } };
        flag = marked w.fram list.ver place.versions i wl high refl;
      })

  module _ (pc : ℕ) (h : Stands z.code pc (inside_update o x place list)) (i v : ℕ) (w : WordState) (t : Core) (wl : HoldsWords w.fram)
      (lv : v < 0x10000) (fv : IsPlace list.ver) (fm : IsPlace (2 * i + place.versions)) (k : Aims z x pc w i v t) where
    abbrev made : List Form
    made = made_code o x place.copies place.copies

    abbrev afresh : List Form
    afresh = first_update o x place list

    abbrev inside_end : ℕ
    inside_end = pc + forms_bytes (inside_update o x place list)

    ways : Stands z.code (pc + 10) (by_version made afresh)
    ways = stands_back z.code pc looking (by_version made afresh) h

    there : pc + 10 + forms_bytes (by_version made afresh) ≡ inside_end
    there = omega (arith, forms_bytes-append looking (by_version made afresh))

    made_few : forms_bytes made ≤ 400
    made_few = omega (arith, made_bytes o x place.copies place.copies, reads_bytes o x)

    first_few : forms_bytes afresh ≤ 400
    first_few = omega (arith, first_bytes o x place list, reads_bytes o x)

    looked : (b : Bool) → (w.fram list.ver == w.fram (2 * i + place.versions)) ≡ b → Runs z.kept [] 7 t (Looked (pc + 10) w (2 * i) v b)
    looked b e =
        subst (λ c. Runs z.kept [] 7 t (Looked (pc + 10) w (2 * i) v c)) e
        (look_part pc i v w t wl fv fm (stands_front z.code pc looking (by_version made afresh) h) k)

    -- by whether the version word is VER's
    inside_by : (b : Bool) → (w.fram list.ver == w.fram (2 * i + place.versions)) ≡ b
        → (let a = own_place b place i in Follows z inside_end (77 + r) t (at_place a (own_kept b place list i (plain_word o (w.fram a) v) w)))
    inside_by true e =
        let c = 2 * i + place.copies in
        let y = plain_word o (w.fram c) v in
        let s = stored c y w in
        guarded z (is_place c) inside_end (77 + r) t _ (λ g. guarded z (is_place c) inside_end (77 + r) t _ (λ g'.
        let fc = place_is c g in
        dearer z (omega arith)
        (subst (λ p. Runs z.kept (Store c y ∷ []) (7 + (2 + (7 + r + 2))) t (StandsFor z p s)) there
        (runs_on z (looked true e) (λ u j.
        again_way (pc + 10) made afresh ways made_few first_few c y (7 + r) (2 * i) v w s u j (λ q hs a.
        so_runs (made_part place.copies (pc + 10 + 2) i v w q wl lv fc fc hs a) (λ p l. l.is)))))))
    inside_by false e =
        let f = 2 * i + place.elements in
        let c = 2 * i + place.copies in
        let y = plain_word o (w.fram f) v in
        let b = behind_effects (Store c y ∷ []) (first_stored place list i (stored c y w)) in
        let mid = pc + 10 + forms_bytes (by_version made afresh) in
        guarded z (is_place f) inside_end (77 + r) t _ (λ g. guarded z (is_place c) inside_end (77 + r) t b (λ g'.
        ends_at z mid inside_end (77 + r) t b there (more_cycles z mid (7 + (2 + (68 + r))) (77 + r) t b.effects b.end (omega arith)
        (then_end z mid (2 + (68 + r)) b.effects b.end (looked false e) (λ u j.
        first_way (pc + 10) made afresh ways made_few first_few (68 + r) (2 * i) v w u b j (λ q hs a.
        first_part (pc + 10 + 2 + forms_bytes (made ++ Jump condition.Always (size afresh) ∷ [])) i v w q (record { words = wl; number = fv; version = fm })
        lv (place_is f g) (place_is c g') hs a))))))

  -- where the index is below the length
  pub inside_part : (pc i v : ℕ) (w : WordState) (t : Core) → HoldsWords w.fram → v < 0x10000 → Stands z.code pc (inside_update o x place list)
      → Aims z x pc w i v t → Follows z (pc + forms_bytes (inside_update o x place list)) (77 + r) t (own_updated o place list i v w)
  inside_part pc i v w t wl lv h k =
      let m = 2 * i + place.versions in
      let end = pc + forms_bytes (inside_update o x place list) in
      guarded z (is_place list.ver) end (77 + r) t _ (λ g. guarded z (is_place m) end (77 + r) t _ (λ g'.
      inside_by pc h i v w t wl lv (place_is list.ver g) (place_is m g') k (w.fram list.ver == w.fram m) refl))

  -- ---- at any index in R4

  compared_part : (pc i v : ℕ) (w : WordState) (t : Core) → i < 0x10000 → place.length < 0x10000
      → z.code.at pc ≡ Some (instruction_of (Calculate op.Cmp (Number place.length) R4)) → Aims z x pc w i v t
      → Runs z.kept [] 2 t (Flagged z (Aiming false x i v w.fram) (IsCarry (nat_le place.length i)) (pc + 4) w)
  compared_part pc i v w t li ln h k =
      let carry = ap (λ q. nat_le 0x10000 (q + (0xFFFF - place.length) + 1)) k.held.four ∙ no_borrow i place.length li ln in
      line z (Calculate op.Cmp (Number place.length) R4 ∷ []) 2 (pc + 4) _ k.is (tt, tt) (h, tt) ((tt, tt), tt) refl refl (omega (arith, k.is.at))
      (λ s. record { all = record { is = s; held = record { four = k.held.four; gives = k.held.gives } }; flag = carry })

  -- by whether the index is below the length
  checked_by : (b : Bool) (pc i v : ℕ) (w : WordState) (t : Core) → Updates i v w → place.length < 0x10000
      → nat_lt i place.length ≡ b → Stands z.code pc (checked_update o x place list) → Aims z x pc w i v t
      → Follows z (pc + forms_bytes (checked_update o x place list)) (81 + r) t (if b then own_updated o place list i v w else goes_on [] w)
  checked_by false pc i v w t g ln e h k =
      let ms = inside_update o x place list in
      let front = Calculate op.Cmp (Number place.length) R4 ∷ Jump condition.Carry (size ms) ∷ [] in
      let high = (z.tidy (pc + 4) _ h.1.0).high in
      let low = stands_low z (pc + 6) ms (stands_back z.code pc front ms h) (omega arith) in
      let to : sum16 (pc + 4 + 2) (distance (size ms)) ≡ pc + forms_bytes (checked_update o x place list) =
      lands (pc + 4) ms (near_size ms 200 (omega (arith, inside_bytes o x place list, reads_bytes o x)) (omega arith)) (omega (arith, low)) ∙ omega arith in
      dearer z (omega arith) (runs_on z (compared_part pc i v w t g.index ln h.0 k) (λ u j. jump_to z condition.Carry (size ms) (pc + 4)
      (pc + forms_bytes (checked_update o x place list)) true w u h.1.0 (j.flag ∙ le_of_lt z i place.length false e) to j.all.is))
  checked_by true pc i v w t g ln e h k =
      let ms = inside_update o x place list in
      let front = Calculate op.Cmp (Number place.length) R4 ∷ Jump condition.Carry (size ms) ∷ [] in
      let b = own_updated o place list i v w in
      let end : pc + 6 + forms_bytes ms ≡ pc + forms_bytes (checked_update o x place list) = omega arith in
      ends_at z (pc + 6 + forms_bytes ms) (pc + forms_bytes (checked_update o x place list)) (81 + r) t b end
      (more_cycles z (pc + 6 + forms_bytes ms) (4 + (77 + r)) (81 + r) t b.effects b.end (omega arith)
      (then_end z (pc + 6 + forms_bytes ms) (77 + r) b.effects b.end (runs_on z (compared_part pc i v w t g.index ln h.0 k)
      (λ u j. jump_with z condition.Carry (size ms) (pc + 4) (pc + 6) false h.1.0 (j.flag ∙ le_of_lt z i place.length true e) (omega arith) j.all))
      (λ u a. inside_part (pc + 6) i v w u g.words g.word (stands_back z.code pc front ms h) a)))

  -- an update at the index in R4; the check may be left out where the index is surely below the length
  pub indexed_part : (sure : Bool) (pc i v : ℕ) (w : WordState) (t : Core) → Updates i v w → place.length < 0x10000
      → (sure ≡ true → nat_lt i place.length ≡ true) → Stands z.code pc (indexed_update sure o x place list) → Aims z x pc w i v t
      → Follows z (pc + forms_bytes (indexed_update sure o x place list)) (81 + r) t (versioned_updated o place list i v w)
  indexed_part false pc i v w t g ln inside h k = checked_by (nat_lt i place.length) pc i v w t g ln refl h k
  indexed_part true pc i v w t g ln inside h k =
      let end = pc + forms_bytes (inside_update o x place list) in
      let b = own_updated o place list i v w in
      subst (λ y. Follows z end (81 + r) t (if y then b else goes_on [] w)) (sym (inside refl))
      (more_cycles z end (77 + r) (81 + r) t b.effects b.end (omega arith) (inside_part pc i v w t g.words g.word h k))

  -- ---- at a number that is known

  -- a word of FRAM becomes what the operation gives of it and of the source
  pub place_part : (c pc v : ℕ) (w : WordState) (t : Core) → source_cycles to_memory (source_operand x) ≤ 6 → w.fram c < 0x10000 → v < 0x10000 → IsPlace c
      → (let m = Update (plain_instruction o) x c in let y = plain_word o (w.fram c) v in z.code.at pc ≡ Some (instruction_of m) → StandsFor z pc w t
      → GivesOn false x v w.fram t.work → Runs z.kept (Store c y ∷ []) 6 t (StandsFor z (pc + form_bytes m) (stored c y w)))
  place_part c pc v w t writes l lv fc h i g =
      let m = Update (plain_instruction o) x c in
      let price = cycles_of (instruction_of m) in
      let y = plain_word o (w.fram c) v in
      let does = operated (plain_instruction o) Word (t.fram c) (source_value x t) t.flags in
      let is : does.value ≡ y =
      ap₂ (λ p q. (operated (plain_instruction o) Word p q t.flags).value) (ap (λ (f : ℕ → ℕ). f c) i.fram) (g.word t i.fram refl)
      ∙ makes o (w.fram c) v t.flags l lv in
      let after : Core → ℕ → Core = λ s q. record s { pc = t.pc + (2 + source_bytes x + 2); flags = flags_after does.flags t.flags; fram = put t.fram c q } in
      let needs = plain_needs o in
      hop z m 6 t (after t y) (Store c y ∷ []) price _ (ap z.code.at i.at ∙ h) (needs.0, needs.1, g.needs (rules_of z.kept) t, fc)
      (ap (λ es. Goes (es ++ Store c does.value ∷ []) price (after (source_read x t) does.value)) (g.quiet t)
      ∙ ap (λ s. Goes (Store c does.value ∷ []) price (after s does.value)) (g.still t) ∙ ap (λ q. Goes (Store c q ∷ []) price (after t q)) is) writes
      (record {
        at = ap (λ p. p + (2 + source_bytes x + 2)) i.at;
        memory = i.memory;
        fram = ap (λ f. put f c y) i.fram;
        inputs = i.inputs;
      })

  module _ (k pc : ℕ) (writes : source_cycles to_memory (source_operand x) ≤ 6) (h : Stands z.code pc (known_update o x place list k)) (v : ℕ) (w : WordState)
      (t : Core) (wl : HoldsWords w.fram) (lv : v < 0x10000) (fv : IsPlace list.ver) (fm : IsPlace (2 * k + place.versions)) (i : StandsFor z pc w t)
      (g : GivesOn false x v w.fram t.work) where
    abbrev offset : ℕ
    offset = word_sum k k

    abbrev known_looking : List Form
    known_looking = attempt_form list ∷ Calculate op.Cmp (Fram (word_sum place.versions offset)) R6 ∷ []

    abbrev one : List Form
    one = Update (plain_instruction o) x (word_sum place.copies offset) ∷ []

    abbrev known_first : List Form
    known_first = Move (Number offset) (ToRegister R4) ∷ first_update o x place list

    abbrev known_end : ℕ
    known_end = pc + forms_bytes (known_update o x place list k)

    known_ways : Stands z.code (pc + 8) (by_version one known_first)
    known_ways = stands_back z.code pc known_looking (by_version one known_first) h

    known_there : pc + 8 + forms_bytes (by_version one known_first) ≡ known_end
    known_there = omega (arith, forms_bytes-append known_looking (by_version one known_first))

    one_few : forms_bytes one ≤ 400
    one_few = omega (arith, reads_bytes o x)

    known_few : forms_bytes known_first ≤ 400
    known_few = omega (arith, first_bytes o x place list, reads_bytes o x)

    known_looked : (b : Bool) → (w.fram list.ver == w.fram (2 * k + place.versions)) ≡ b → Runs z.kept [] 6 t (Looked (pc + 8) w (t.work 4) v b)
    known_looked b e =
        let m = 2 * k + place.versions in
        let at = known_place k place.versions (address_small fm) in
        subst (λ c. Runs z.kept [] 6 t (Looked (pc + 8) w (t.work 4) v c)) e
        (line z known_looking 6 (pc + 8) (Looked (pc + 8) w (t.work 4) v (w.fram list.ver == w.fram m)) i (tt, (tt, tt))
        (stands_front z.code pc known_looking (by_version one known_first) h) ((fv, tt), ((tt, subst IsPlace (sym at) fm), tt)) refl refl (omega (arith, i.at))
        (λ s. record {
          all = record { is = s; held = record { four = refl; gives = g } };
          flag = ap₂ (λ p q. (p + (0xFFFF - q) + 1) % 0x10000 == 0) (ap (λ (f : ℕ → ℕ). f list.ver) i.fram) (ap t.fram at ∙ ap (λ (f : ℕ → ℕ). f m) i.fram)
              ∙ equal_flag (w.fram list.ver) (w.fram m) (wl list.ver) (wl m);
        }))

    -- the copy by one instruction
    once : (c : ℕ) (u : Core) → IsPlace c → word_sum place.copies offset ≡ c → Stands z.code (pc + 8 + 2) one → Aims z x (pc + 8 + 2) w (t.work 4) v u
        → (let y = plain_word o (w.fram c) v in Runs z.kept (Store c y ∷ []) 6 u (StandsFor z (pc + 8 + 2 + forms_bytes one) (stored c y w)))
    once c u fc at hs a =
        let c' = word_sum place.copies offset in
        let m = Update (plain_instruction o) x c' in
        let end : pc + 8 + 2 + form_bytes m ≡ pc + 8 + 2 + forms_bytes one = omega arith in
        subst (λ n. let y = plain_word o (w.fram n) v in Runs z.kept (Store n y ∷ []) 6 u (StandsFor z (pc + 8 + 2 + forms_bytes one) (stored n y w))) at
        (subst (λ p. let y = plain_word o (w.fram c') v in Runs z.kept (Store c' y ∷ []) 6 u (StandsFor z p (stored c' y w))) end
        (place_part c' (pc + 8 + 2) v w u writes (wl c') lv (subst IsPlace (sym at) fc) hs.0 a.is a.held.gives))

    -- the first update, R4 being loaded in front of it
    afresh_part : (at : ℕ) (u : Core) → IsPlace (2 * k + place.elements) → IsPlace (2 * k + place.copies) → Stands z.code at known_first
        → Aims z x at w (t.work 4) v u → (let c = 2 * k + place.copies in let y = plain_word o (w.fram (2 * k + place.elements)) v in
        Follows z (at + forms_bytes known_first) (2 + (68 + r)) u (behind_effects (Store c y ∷ []) (first_stored place list k (stored c y w))))
    afresh_part at u fe fc hs a =
        let c = 2 * k + place.copies in
        let y = plain_word o (w.fram (2 * k + place.elements)) v in
        let b = behind_effects (Store c y ∷ []) (first_stored place list k (stored c y w)) in
        let ms = Move (Number offset) (ToRegister R4) ∷ [] in
        let end : at + 4 + forms_bytes (first_update o x place list) ≡ at + forms_bytes known_first = omega arith in
        ends_at z (at + 4 + forms_bytes (first_update o x place list)) (at + forms_bytes known_first) (2 + (68 + r)) u b end
        (then_end z (at + 4 + forms_bytes (first_update o x place list)) (68 + r) b.effects b.end
        (line z ms 2 (at + 4) _ a.is (tt, tt) (hs.0, tt) ((tt, tt), tt) refl refl (omega (arith, a.is.at))
        (λ s. record { is = s; held = record { four = known_offset k place.versions (address_small fm); gives = a.held.gives } }))
        (λ q n. first_part (at + 4) k v w q (record { words = wl; number = fv; version = fm }) lv fe fc hs.1 n))

    -- by whether the version word is VER's
    known_by : (b : Bool) → (w.fram list.ver == w.fram (2 * k + place.versions)) ≡ b
        → (let a = own_place b place k in Follows z known_end (78 + r) t (at_place a (own_kept b place list k (plain_word o (w.fram a) v) w)))
    known_by true e =
        let c = 2 * k + place.copies in
        let y = plain_word o (w.fram c) v in
        let s = stored c y w in
        guarded z (is_place c) known_end (78 + r) t _ (λ p. guarded z (is_place c) known_end (78 + r) t _ (λ p'.
        let fc = place_is c p in
        dearer z (omega arith)
        (subst (λ n. Runs z.kept (Store c y ∷ []) (6 + (2 + (6 + 2))) t (StandsFor z n s)) known_there
        (runs_on z (known_looked true e) (λ u j.
        again_way (pc + 8) one known_first known_ways one_few known_few c y 6 (t.work 4) v w s u j
        (λ q hs a. once c q fc (known_place k place.copies (address_small fc)) hs a))))))
    known_by false e =
        let f = 2 * k + place.elements in
        let c = 2 * k + place.copies in
        let y = plain_word o (w.fram f) v in
        let b = behind_effects (Store c y ∷ []) (first_stored place list k (stored c y w)) in
        let mid = pc + 8 + forms_bytes (by_version one known_first) in
        guarded z (is_place f) known_end (78 + r) t _ (λ p. guarded z (is_place c) known_end (78 + r) t b (λ p'.
        ends_at z mid known_end (78 + r) t b known_there (more_cycles z mid (6 + (2 + (2 + (68 + r)))) (78 + r) t b.effects b.end (omega arith)
        (then_end z mid (2 + (2 + (68 + r))) b.effects b.end (known_looked false e) (λ u j.
        first_way (pc + 8) one known_first known_ways one_few known_few (2 + (68 + r)) (t.work 4) v w u b j (λ q hs a.
        afresh_part (pc + 8 + 2 + forms_bytes (one ++ Jump condition.Always (size known_first) ∷ [])) q (place_is f p) (place_is c p') hs a))))))

  -- an update at a number that is known and below the length
  pub known_part : (k pc v : ℕ) (w : WordState) (t : Core) → source_cycles to_memory (source_operand x) ≤ 6 → HoldsWords w.fram → v < 0x10000
      → Stands z.code pc (known_update o x place list k) → StandsFor z pc w t → GivesOn false x v w.fram t.work
      → Follows z (pc + forms_bytes (known_update o x place list k)) (78 + r) t (own_updated o place list k v w)
  known_part k pc v w t writes wl lv h i g =
      let m = 2 * k + place.versions in
      let end = pc + forms_bytes (known_update o x place list k) in
      guarded z (is_place list.ver) end (78 + r) t _ (λ p. guarded z (is_place m) end (78 + r) t _ (λ p'.
      known_by k pc writes h v w t wl lv (place_is list.ver p) (place_is m p') i g (w.fram list.ver == w.fram m) refl))

-- ---- the step

module _ (z : Setting) (o : PlainOperation) (place : ArrayPlace) (list : ListPlace) (small : place.length < 0x10000) where
  -- from this state, its index and its word being the stack's top
  module _ (w : WordState) (i v : ℕ) (rest : List ℕ) (updates : Updates i v w) (e : w.stack ≡ v ∷ (i ∷ rest)) (pc : ℕ) (u : Core) where
    abbrev left : WordState
    left = with_stack rest w

    -- the index in R4, where it may be surely below the length
    update_by : (sure : Bool) (os : List Waiting) → (sure ≡ true → nat_lt i place.length ≡ true)
        → (let ms = update_sides os ++ indexed_update sure o (rest_source (top_of os)) place list in Stands z.code pc ms → Describes z os pc w u
        → Does z [] (pc + forms_bytes ms) (86 + owed os) u (versioned_updated o place list i v left))
    update_by sure os inside h d =
        let under = below_top os in
        let front = update_sides os in
        let x = rest_source (top_of os) in
        let c = reading_cycles (rests (top_of os)) in
        let mid = pc + forms_bytes front in
        alone_behind z front (indexed_update sure o x place list) (81 + c) (86 + owed os) pc u (versioned_updated o place list i v left)
        (omega (arith, load_owed under, side_owed (rests (top_of os)) os)) h (λ s. update_sides_part z os pc w i v rest u e s d)
        (λ t s k. indexed_part z o x c (reading_price (rests (top_of os)) (top_of os)) place list sure mid i v left t
        (record { words = updates.words; index = updates.index; word = updates.word }) small inside s k)

    -- the index a number that waits, by whether it is below the length
    number_by : (b sure : Bool) (k : ℕ) (p : Waiting) (os : List Waiting) → nat_lt k place.length ≡ b → (sure ≡ true → nat_lt i place.length ≡ true)
        → (let ws = p ∷ (waiting.Number k ∷ os) in let ms = update_at (if b then Some k else None) sure ws o place list in Stands z.code pc ms
        → Describes z ws pc w u → Does z [] (pc + forms_bytes ms) (86 + owed ws) u (versioned_updated o place list i v left))
    number_by false sure k p os lt inside h d = update_by sure (p ∷ (waiting.Number k ∷ os)) inside h d
    number_by true sure k p os lt inside h d =
        let ws = p ∷ (waiting.Number k ∷ os) in
        let front = right_to_rest ws in
        let x = rest_source (Some p) in
        let c = reading_cycles (rests (Some p)) in
        let mid = pc + forms_bytes front in
        let end = mid + forms_bytes (known_update o x place list k) in
        let above = with_stack (i ∷ rest) w in
        alone_behind z front (known_update o x place list k) (78 + c) (86 + owed ws) pc u (versioned_updated o place list i v left)
        (omega (arith, side_owed (rests (Some p)) (p ∷ []))) h
        (λ s. right_part z p (waiting.Number k) os pc w v (i ∷ rest) u e s d)
        (λ t s j.
        let q = drop_part z (waiting.Number k) [] mid above i rest t refl j.is in
        subst (λ n. Follows z end (78 + c) t (versioned_updated o place list n v left)) q.1
        (subst (λ y. Follows z end (78 + c) t (if y then own_updated o place list k v left else goes_on [] left)) (sym lt)
        (known_part z o x c (reading_price (rests (Some p)) (Some p)) place list k mid v left t (writing_price (rests (Some p)) (Some p)) updates.words
        updates.word s (bare z mid left t q.0) j.held)))

    update_on : (bs : List Bound) (os : List Waiting) → (is_inside bs (top_of (below_top os)) place.length ≡ true → nat_lt i place.length ≡ true)
        → StepDoes z bs os (versioned_update o place list) 86 pc w u (versioned_updated o place list i v left)
    update_on bs (p ∷ (waiting.Number k ∷ os)) inside h d = number_by (nat_lt k place.length) (nat_lt k place.length) k p os refl inside h d
    update_on bs os inside h d = update_by (is_inside bs (top_of (below_top os)) place.length) os inside h d

  -- an element that is updated in place
  pub in_place_reaches : (bs : List Bound) (os : List Waiting) (pc : ℕ) (w : WordState) (vs : List ℕ) (u : Core) → HoldsWords w.fram
      → Bounded bs w.locals → w.stack ≡ vs → AreWords vs
      → StepDoes z bs os (versioned_update o place list) 86 pc w u (with_two vs (λ i v us. versioned_updated o place list i v (with_stack us w)))
  in_place_reaches bs os pc w [] u wl lb e l h d = tt
  in_place_reaches bs os pc w (v ∷ []) u wl lb e l h d = tt
  in_place_reaches bs os pc w (v ∷ (i ∷ rest)) u wl lb e l h d =
      update_on w i v rest (record { words = wl; index = l.1.0; word = l.0 }) e pc u bs os (under_inside z bs pc u place.length os w i v rest lb e d) h d
