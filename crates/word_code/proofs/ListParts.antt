-- A word is listed: the last entry gets longer, or there is one more.
use Rattle.word_code.proofs.Names.{◌≡◌, ℕ, suc, zero, ◌+◌, ◌-◌, ◌*◌, ◌%◌, ◌<◌, ◌==◌, ◌&&◌, not, List, [], ◌∷◌, refl, sym, ap, ap₂, ◌∙◌, subst, arith}
use Rattle.word_code.proofs.Names.{Bool, true, false, if◌then◌else◌, ne_eqb, word_sum, Effect, Store, put, IsPlace, Core, Form, Stands, Runs}
use Rattle.word_code.proofs.Names.{ArrayPlace, ListPlace, WordState, Behaviour, strays, behind_effects, is_place, stored, raised, entry_stored, ends_before}
use Rattle.word_code.proofs.Names.{listed_behind, first_stored, put_words, first_code}
use Rattle.word_code.proofs.Memory.{HoldsWords, place_is, address_small}
use Rattle.word_code.proofs.Registers.{Holds, Flagged, IsZero, equal_flag}
use Rattle.word_code.proofs.Stretches.{Setting, runs_on, dearer}
use Rattle.word_code.proofs.Follows.{StandsFor, Follows, then_end, guarded, more_cycles}
use Rattle.word_code.proofs.Routes.{on, jump, free, place as place_of, Work, route, store_route, starts}

pub plus_small : (n base : ℕ) → 2 * n + base < 0x10000 → (2 * n + base + 0) % 0x10000 ≡ 2 * n + base
plus_small n base h = omega arith

-- an address behind another
pub at_offset : (q list k : ℕ) → q + list + k < 0x10000 → q + word_sum list k ≡ q + list + k
at_offset q list k h = omega arith

pub plus_none : (x k : ℕ) → (x + k + 0) % 0x10000 ≡ (x + k) % 0x10000
plus_none x k = omega arith

-- six times a count, as the code has it
abbrev pub sixfold : ℕ → ℕ
sixfold x = let y = ((x + x + 0) % 0x10000 + x + 0) % 0x10000 in (y + y + 0) % 0x10000

pub six_times : (n : ℕ) → 6 * n < 0x10000 → sixfold n ≡ 6 * n
six_times n h =
    let two : (n + n + 0) % 0x10000 ≡ 2 * n = omega arith in
    let three : (2 * n + n + 0) % 0x10000 ≡ 3 * n = omega arith in
    let six : (3 * n + 3 * n + 0) % 0x10000 ≡ 6 * n = omega arith in
    ap (λ x. let y = (x + n + 0) % 0x10000 in (y + y + 0) % 0x10000) two ∙ ap (λ y. (y + y + 0) % 0x10000) three ∙ six

one_less : (n : ℕ) → n < 0x10000 → (suc n + 65534 + 1) % 0x10000 ≡ n
one_less n h = omega arith

-- where a run ends, as the code has it
run_end : (words begin : ℕ) → ((words + words + 0) % 0x10000 + begin + 0) % 0x10000 ≡ (2 * words + begin) % 0x10000
run_end words begin = omega arith

-- whether a run ends right before an address, as the code has it
abbrev run_flag : ℕ → ℕ → ℕ → Bool
run_flag words begin v = (((words + words + 0) % 0x10000 + begin + 0) % 0x10000 + (0xFFFF - v) + 1) % 0x10000 == 0

run_flag_is : (words begin v : ℕ) → v < 0x10000 → run_flag words begin v ≡ ((2 * words + begin) % 0x10000 == v)
run_flag_is words begin v h =
    ap (λ e. (e + (0xFFFF - v) + 1) % 0x10000 == 0) (run_end words begin) ∙ equal_flag ((2 * words + begin) % 0x10000) v (omega arith) h

-- nothing is promised of what strays, behind effects too
pub guarded_behind : (z : Setting) (c : Bool) (pc most : ℕ) (u : Core) (es : List Effect) (b : Behaviour)
    → (c ≡ true → Follows z pc most u (behind_effects es b)) → Follows z pc most u (behind_effects es (if c then b else strays))
guarded_behind z true pc most u es b h = h refl
guarded_behind z false pc most u es b h = tt

module _ (z : Setting) (place : ArrayPlace) (list : ListPlace) (p : ℕ) (h : Stands z.code p (first_code place list)) where
  abbrev code : List Form
  code = first_code place list

  -- so far on R4 holds the copy, R5 a count of entries or where one stands from the list on, and R7 the home
  abbrev Found : ℕ → ℕ → ℕ → ℕ → WordState → Core → Type 0
  Found k q home copy w = Holds z (λ f. Work copy q (f 6) home f) (p + place_of code k) w

  abbrev Tested : ℕ → ℕ → ℕ → ℕ → Bool → WordState → Core → Type 0
  Tested k q home copy b w = Flagged z (λ f. Work copy q (f 6) home f) (IsZero b) (p + place_of code k) w

  -- the version word is stored; the home, the copy and the count are in their registers
  mark_part : (i : ℕ) (w : WordState) (t : Core) → HoldsWords w.fram → IsPlace (2 * i + place.versions) → IsPlace list.cln
      → 2 * i + place.elements < 0x10000 → 2 * i + place.copies < 0x10000 → StandsFor z (p + 0) w t → t.work 4 ≡ 2 * i → t.work 6 ≡ w.fram list.ver
      → (let m = 2 * i + place.versions in let y = stored m (w.fram list.ver) w in let n = y.fram list.cln in
      Runs z.kept (Store m (w.fram list.ver) ∷ []) 13 t (Tested 6 n (2 * i + place.elements) (2 * i + place.copies) (n == 0) y))
  mark_part i w t wl fm fc eh ch is four six =
      let m = 2 * i + place.versions in
      let y = stored m (w.fram list.ver) w in
      store_route z p code h 0 is (four, refl, six, refl) (on 6 ∷ []) (Store m (w.fram list.ver) ∷ []) y.fram 13 _
      (_, ((tt, fm), ((tt, tt), ((tt, tt), ((tt, tt), ((fc, tt), free 1))))), (refl, tt)) refl refl refl refl
      (λ s. record {
        all = record { is = s; held = (plus_small i place.copies ch, refl, refl, plus_small i place.elements eh) };
        flag = equal_flag (y.fram list.cln) 0 (put_words w.fram m (w.fram list.ver) wl (wl list.ver) list.cln) (omega arith);
      })

  -- an entry of one word, then the count
  entry_part : (w : WordState) (home copy : ℕ) (t : Core) → (let a = 6 * w.fram list.cln + list.list in
      let u = stored (a + 4) 1 (stored (a + 2) copy (stored a home w)) in let v = (u.fram list.cln + 1) % 0x10000 in
      IsPlace list.cln → IsPlace a → IsPlace (a + 2) → IsPlace (a + 4) → Found 27 (6 * w.fram list.cln) home copy w t
      → Runs z.kept (Store a home ∷ Store (a + 2) copy ∷ Store (a + 4) 1 ∷ Store list.cln v ∷ []) 16 t (StandsFor z (p + 92) (stored list.cln v u)))
  entry_part w home copy t fc f1 f2 f4 j =
      let n = 6 * w.fram list.cln in
      let a = n + list.list in
      let u = stored (a + 4) 1 (stored (a + 2) copy (stored a home w)) in
      let v = (u.fram list.cln + 1) % 0x10000 in
      let second : n + word_sum list.list 2 ≡ a + 2 = at_offset n list.list 2 (address_small f2) in
      let third : n + word_sum list.list 4 ≡ a + 4 = at_offset n list.list 4 (address_small f4) in
      let F : ℕ → ℕ = put (put (put w.fram a home) (n + word_sum list.list 2) copy) (n + word_sum list.list 4) 1 in
      let fr : F ≡ u.fram = λ k. put (put (put w.fram a home) (second k) copy) (third k) 1 in
      let up : (F list.cln + 1 + 0) % 0x10000 ≡ v = ap (λ q. (q list.cln + 1 + 0) % 0x10000) fr ∙ plus_none (u.fram list.cln) 1 in
      let es = Store a home ∷ Store (a + 2) copy ∷ Store (a + 4) 1 ∷ Store list.cln v ∷ [] in
      store_route z p code h 27 j.is j.held (on 4 ∷ []) es (put u.fram list.cln v) 16 _
      (_, ((tt, f1), ((tt, subst IsPlace (sym second) f2), ((tt, subst IsPlace (sym third) f4), ((tt, refl, tt, fc), tt)))), (refl, tt)) refl refl
      (λ k. Store a home ∷ Store (second k) copy ∷ Store (third k) 1 ∷ Store list.cln (up k) ∷ []) (λ k. put (fr k) list.cln (up k)) (λ s. s)

  -- the entry's code, behind code that brings it its place
  entry_follows : (most : ℕ) (w : WordState) (home copy : ℕ) (t : Core)
      → (is_place (6 * w.fram list.cln + list.list) ≡ true → Runs z.kept [] most t (Found 27 (6 * w.fram list.cln) home copy w))
      → Follows z (p + 92) (most + 16) t (entry_stored list.cln list.list home copy 1 w)
  entry_follows most w home copy t comes =
      let a = 6 * w.fram list.cln + list.list in
      guarded z (is_place list.cln) (p + 92) (most + 16) t _ (λ g1. guarded z (is_place a) (p + 92) (most + 16) t _ (λ g2.
      guarded z (is_place (a + 2)) (p + 92) (most + 16) t _ (λ g3. guarded z (is_place (a + 4)) (p + 92) (most + 16) t _ (λ g4.
      runs_on z (comes g2) (λ x j. entry_part w home copy x (place_is list.cln g1) (place_is a g2) (place_is (a + 2) g3) (place_is (a + 4) g4) j)))))

  -- R5 becomes where the last entry stands; whether its homes end right before the home
  home_part : (n : ℕ) (w : WordState) (home copy : ℕ) (t : Core) → home < 0x10000 → (let a = 6 * n + list.list in IsPlace a → IsPlace (a + 4)
      → Tested 6 (suc n) home copy false w t
      → Runs z.kept [] 15 t (Tested 16 (6 * n) home copy ((2 * w.fram (a + 4) + w.fram a) % 0x10000 == home) w))
  home_part n w home copy t small f1 f4 k =
      let a = 6 * n + list.list in
      let high = address_small f1 in
      let last : ℕ = sixfold ((suc n + 65534 + 1) % 0x10000) in
      let five : last ≡ 6 * n = ap sixfold (one_less n (omega (arith, high))) ∙ six_times n (omega (arith, high)) in
      let words : last + word_sum list.list 4 ≡ a + 4 = ap (λ q. q + word_sum list.list 4) five ∙ at_offset (6 * n) list.list 4 (address_small f4) in
      let begin : last + list.list ≡ a = ap (λ q. q + list.list) five in
      let f = subst IsPlace (sym words) f4 in
      let g = subst IsPlace (sym begin) f1 in
      route z p code h 6 k.all.is k.all.held (jump false ∷ on 5 ∷ on 4 ∷ []) 15 _
      (refl, k.flag, refl, (_, free 5, (refl, (_, ((f, tt), ((tt, tt), ((tt, g), free 1))), (refl, tt))))) refl refl
      (λ s. record {
        all = record { is = s; held = (refl, five, refl, refl) };
        flag = ap₂ (λ x y. run_flag (w.fram x) (w.fram y) home) words begin ∙ run_flag_is (w.fram (a + 4)) (w.fram a) home small;
      })

  -- whether its copies end right before the copy
  copy_part : (q : ℕ) (w : WordState) (home copy : ℕ) (t : Core) → copy < 0x10000 → (let a = q + list.list in IsPlace (a + 2) → IsPlace (a + 4)
      → Tested 16 q home copy true w t → Runs z.kept [] 10 t (Tested 21 q home copy ((2 * w.fram (a + 4) + w.fram (a + 2)) % 0x10000 == copy) w))
  copy_part q w home copy t small f2 f4 k =
      let a = q + list.list in
      let words : q + word_sum list.list 4 ≡ a + 4 = at_offset q list.list 4 (address_small f4) in
      let begin : q + word_sum list.list 2 ≡ a + 2 = at_offset q list.list 2 (address_small f2) in
      let f = subst IsPlace (sym words) f4 in
      let g = subst IsPlace (sym begin) f2 in
      route z p code h 16 k.all.is k.all.held (jump false ∷ on 4 ∷ []) 10 _
      (refl, ap not k.flag, refl, (_, ((f, tt), ((tt, tt), ((tt, g), free 1))), (refl, tt))) refl refl
      (λ s. record {
        all = record { is = s; held = (refl, refl, refl, refl) };
        flag = ap₂ (λ x y. run_flag (w.fram x) (w.fram y) copy) words begin ∙ run_flag_is (w.fram (a + 4)) (w.fram (a + 2)) copy small;
      })

  -- the entry has a word more
  longer_part : (q : ℕ) (w : WordState) (home copy : ℕ) (t : Core) → (let c = q + list.list + 4 in let v = (w.fram c + 1) % 0x10000 in IsPlace c
      → Tested 21 q home copy true w t → Runs z.kept (Store c v ∷ []) 12 t (StandsFor z (p + 92) (stored c v w)))
  longer_part q w home copy t f4 k =
      let c = q + list.list + 4 in
      let v = (w.fram c + 1) % 0x10000 in
      let there : q + word_sum list.list 4 ≡ c = at_offset q list.list 4 (address_small f4) in
      let up : (w.fram (q + word_sum list.list 4) + 1 + 0) % 0x10000 ≡ v = ap (λ x. (w.fram x + 1 + 0) % 0x10000) there ∙ plus_none (w.fram c) 1 in
      let f = subst IsPlace (sym there) f4 in
      store_route z p code h 21 k.all.is k.all.held (jump false ∷ on 3 ∷ jump true ∷ []) (Store c v ∷ []) (put w.fram c v) 12 _
      (refl, ap not k.flag, refl, (_, ((f, tt), ((tt, tt), ((tt, f), tt))), (refl, (refl, refl, refl, tt)))) refl refl
      (λ k. Store (there k) (up k) ∷ []) (λ k. put w.fram (there k) (up k)) (λ s. s)

  -- one entry more, behind the last
  more : (n : ℕ) (w : WordState) (home copy : ℕ) (t : Core) → w.fram list.cln ≡ suc n → Found 26 (6 * n) home copy w t
      → Follows z (p + 92) 18 t (entry_stored list.cln list.list home copy 1 w)
  more n w home copy t e j =
      entry_follows 2 w home copy t (λ g.
      let high = address_small (place_is (6 * w.fram list.cln + list.list) g) in
      route z p code h 26 j.is j.held (on 1 ∷ []) 2 _ (_, free 1, (refl, tt)) refl refl
      (λ s. record { is = s; held = (refl, omega (arith, e, high), refl, refl) }))

  -- by whether the last copies end right before the copy
  by_copy : (b : Bool) (n : ℕ) (w : WordState) (home copy : ℕ) (t : Core) → w.fram list.cln ≡ suc n → (let c = 6 * n + list.list + 4 in IsPlace c
      → Tested 21 (6 * n) home copy b w t → Follows z (p + 92) 20 t (if b then raised c w else entry_stored list.cln list.list home copy 1 w))
  by_copy true n w home copy t e f4 k = dearer z (omega arith) (longer_part (6 * n) w home copy t f4 k)
  by_copy false n w home copy t e f4 k =
      let next : Behaviour = entry_stored list.cln list.list home copy 1 w in
      then_end z (p + 92) 18 next.effects next.end
      (route z p code h 21 k.all.is k.all.held (jump true ∷ []) 2 (Found 26 (6 * n) home copy w)
      (refl, ap not k.flag, refl, tt) refl refl
      (λ s. record { is = s; held = (refl, refl, refl, refl) })) (λ u j. more n w home copy u e j)

  -- by whether the last homes end right before the home
  by_home : (b : Bool) (n : ℕ) (w : WordState) (home copy : ℕ) (t : Core) → copy < 0x10000 → w.fram list.cln ≡ suc n
      → (let a = 6 * n + list.list in let c = (2 * w.fram (a + 4) + w.fram (a + 2)) % 0x10000 == copy in IsPlace (a + 2) → IsPlace (a + 4)
      → Tested 16 (6 * n) home copy b w t
      → Follows z (p + 92) 30 t (if b && c then raised (a + 4) w else entry_stored list.cln list.list home copy 1 w))
  by_home true n w home copy t small e f2 f4 k =
      let a = 6 * n + list.list in
      let c = (2 * w.fram (a + 4) + w.fram (a + 2)) % 0x10000 == copy in
      let next : Behaviour = if c then raised (a + 4) w else entry_stored list.cln list.list home copy 1 w in
      then_end z (p + 92) 20 next.effects next.end (copy_part (6 * n) w home copy t small f2 f4 k) (λ u j. by_copy c n w home copy u e f4 j)
  by_home false n w home copy t small e f2 f4 k =
      let next : Behaviour = entry_stored list.cln list.list home copy 1 w in
      more_cycles z (p + 92) 20 30 t next.effects next.end (omega arith) (then_end z (p + 92) 18 next.effects next.end
      (route z p code h 16 k.all.is k.all.held (jump true ∷ []) 2 (Found 26 (6 * n) home copy w)
      (refl, ap not k.flag, refl, tt) refl refl
      (λ s. record { is = s; held = (refl, refl, refl, refl) })) (λ u j. more n w home copy u e j))

  -- by how many entries there are
  lists : (n : ℕ) (w : WordState) (home copy : ℕ) (t : Core) → home < 0x10000 → copy < 0x10000 → w.fram list.cln ≡ n
      → Tested 6 n home copy (n == 0) w t → Follows z (p + 92) 45 t (listed_behind n list home copy w)
  lists zero w home copy t hs cs e k =
      let next : Behaviour = entry_stored list.cln list.list home copy 1 w in
      more_cycles z (p + 92) 18 45 t next.effects next.end (omega arith) (entry_follows 2 w home copy t (λ g.
      route z p code h 6 k.all.is k.all.held (jump true ∷ []) 2 _ (refl, k.flag, refl, tt) refl refl
      (λ s. record { is = s; held = (refl, omega (arith, e), refl, refl) })))
  lists (suc n) w home copy t hs cs e k =
      let a = 6 * n + list.list in
      let some : (suc n == 0) ≡ false = ne_eqb (suc n) 0 (λ q. omega (arith, q)) in
      let next : Behaviour = if ends_before w.fram a home copy then raised (a + 4) w else entry_stored list.cln list.list home copy 1 w in
      guarded z (is_place a) (p + 92) 45 t _ (λ g1. guarded z (is_place (a + 2)) (p + 92) 45 t _ (λ g2. guarded z (is_place (a + 4)) (p + 92) 45 t _ (λ g3.
      then_end z (p + 92) 30 next.effects next.end
      (home_part n w home copy t hs (place_is a g1) (place_is (a + 4) g3) (record { all = k.all; flag = k.flag ∙ some }))
      (λ u j. by_home _ n w home copy u cs e (place_is (a + 2) g2) (place_is (a + 4) g3) j))))

  -- behind the first store to a copy
  pub first_follows : (i : ℕ) (w : WordState) (t : Core) → HoldsWords w.fram → IsPlace (2 * i + place.copies) → IsPlace (2 * i + place.versions)
      → StandsFor z p w t → t.work 4 ≡ 2 * i → t.work 6 ≡ w.fram list.ver → Follows z (p + 92) 58 t (first_stored place list i w)
  first_follows i w t wl fc fm is four six =
      let m = 2 * i + place.versions in
      let e = 2 * i + place.elements in
      let c = 2 * i + place.copies in
      let y = stored m (w.fram list.ver) w in
      let next : Behaviour = listed_behind (y.fram list.cln) list e c y in
      guarded z (is_place e) (p + 92) 58 t _ (λ g1.
      guarded_behind z (is_place list.cln) (p + 92) 58 t (Store m (w.fram list.ver) ∷ []) next (λ g2.
      let eh = address_small (place_is e g1) in
      then_end z (p + 92) 45 next.effects next.end
      (mark_part i w t wl fm (place_is list.cln g2) eh (address_small fc) (starts z is) four six)
      (λ u j. lists (y.fram list.cln) y e c u eh (address_small fc) refl j)))
