-- The rungs and stubs of tasks the words of whose private scalars are logged.
use Rattle.std.proofs.Common.{◌≡◌, ℕ, zero, suc, ◌+◌, ◌*◌, ◌%◌, ◌<◌, ◌≤◌, List, [], ◌∷◌, length, refl, sym, ap, ◌∙◌, subst, arith}
use Rattle.std.specs.List.{All}
use Rattle.std.proofs.lemmas.List.Elements.{All-nil, All-cons, All-head, All-tail}
use Rattle.runtime_code.specs.fram_board.Effects.{Effect, Store}
use Rattle.runtime_code.specs.machine_effects.World.{put, fram_after}
use Rattle.runtime_code.specs.machine_effects.Inputs.{Inputs}
use Rattle.runtime_code.specs.machine_effects.Machine.{Code, IsPlace}
use Rattle.runtime_code.proofs.machine_effects.Interface.{put_same, put_other, fram_after-append}
use Rattle.runtime_code.specs.code_forms.Forms.{Core, Branch}
use Rattle.runtime_code.specs.code_forms.Code.{Stands, IsTidy, forms_bytes, anywhere}
use Rattle.runtime_code.proofs.code_forms.Interface.{forms_bytes-append, stands_front, stands_back}
use Rattle.runtime_code.specs.runtime_effects.Needs.{AreInFram}
use Rattle.runtime_code.specs.Comes.{Comes, Enters}
use Rattle.runtime_code.specs.Counted.{if_any}
use Rattle.runtime_code.specs.Ladder.{stub_with, stub_of}
use Rattle.runtime_code.proofs.Interface.{core_at, from_there, ends, so_ends, recounted, nothing, comes_on, straight, rung_in, IsRung, Deed, Does}
use Rattle.runtime_code.proofs.Interface.{IsLeft, left_from, first_left}
use Rattle.memory_map.specs.declared.words.RuntimeWord.TheVariants.{ListLength}
use Rattle.memory_map.specs.MemoryMap.{MemoryMap, word_place}
use Rattle.undo_effects.specs.Entries.{entry_place}
use Rattle.undo_effects.specs.Stages.{word_logged, words_logged}
use Rattle.undo_runtime.specs.Listing.{word_logged_in, logs_in, LoggedTask, task_at, stub_bytes, rung_for, rungs}
use Rattle.undo_runtime.specs.Needs.{ListStands, IsLoggable}
use Rattle.undo_runtime.specs.Laws.{IsReached}
use Rattle.undo_effects.proofs.Interface.{out_of}

pub logs_bytes : (m : MemoryMap) (i : ℕ) (xs : List ℕ) → forms_bytes (logs_in m i xs) ≡ 16 * length xs
logs_bytes m i [] = refl
logs_bytes m i (a ∷ xs) = let e = logs_bytes m (suc i) xs in omega (arith, e)

pub logs_count : (m : MemoryMap) (i : ℕ) (xs : List ℕ) → length (logs_in m i xs) ≡ 3 * length xs
logs_count m i [] = refl
logs_count m i (a ∷ xs) = let e = logs_count m (suc i) xs in omega (arith, e)

-- what is spent once for code that logs words is spent once for words
pub once_logged : (m : MemoryMap) (i : ℕ) (xs : List ℕ) (k : ℕ) → if_any (length (logs_in m i xs)) k ≡ if_any (length xs) k
once_logged m i [] k = refl
once_logged m i (a ∷ xs) k = refl

stub_to_bytes : (m : MemoryMap) (code : ℕ) (xs : List ℕ) → forms_bytes (stub_with code (logs_in m 0 xs)) ≡ 16 * length xs + if_any (length xs) 4
stub_to_bytes m code [] = refl
stub_to_bytes m code (a ∷ xs) = forms_bytes-append (logs_in m 0 (a ∷ xs)) (Branch code ∷ []) ∙ ap (λ n. n + 4) (logs_bytes m 0 (a ∷ xs))

pub stub_size : (m : MemoryMap) (t : LoggedTask) → forms_bytes (stub_of (rung_for m t)) ≡ stub_bytes t
stub_size m t = stub_to_bytes m t.code t.privates

pub are_rungs : (m : MemoryMap) (ts : List LoggedTask) → All (IsReached m) ts → All IsRung (rungs m ts)
are_rungs m [] h = All-nil IsRung
are_rungs m (t ∷ ts) h =
    All-cons IsRung (rung_for m t) (rungs m ts) (record { size = stub_size m t; even = (All-head (IsReached m) t ts h).even })
    (are_rungs m ts (All-tail (IsReached m) t ts h))

pub rung_is : (m : MemoryMap) (ts : List LoggedTask) (k : ℕ) → rung_in (rungs m ts) k ≡ rung_for m (task_at ts k)
rung_is m [] k = refl
rung_is m (t ∷ ts) zero = refl
rung_is m (t ∷ ts) (suc k) = rung_is m ts k

-- words are logged
abbrev pub logging : MemoryMap → List ℕ → (ℕ → ℕ) → Inputs → Deed
logging m xs f l = record { memory = f; inputs = l; effects = words_logged m xs f; steps = 3 * length xs; cycles = 15 * length xs }

module _ (code : Code) (tidy : IsTidy code) (m : MemoryMap) (places : AreInFram m) (list : ListStands m) (sp : ℕ) where
  -- one word, in the next entry
  module _ (i a : ℕ) (f : ℕ → ℕ) (l : Inputs) (count : f (word_place m ListLength) ≡ i) (few : i < m.entries) (is : IsLoggable m a) where
    abbrev p : ℕ
    p = entry_place m i

    abbrev cln : ℕ
    cln = word_place m ListLength

    left : IsLeft m.list.address (6 * m.entries) p 4
    left = let even = places.list.even in record { even = omega (arith, even); low = omega arith; high = omega (arith, few) }

    first_place : IsPlace p
    first_place = first_left places.list left (omega arith)

    second_place : IsPlace (p + 2)
    second_place = first_left places.list (left_from 2 2 left refl (omega arith)) (omega arith)

    -- CLN isn't in the list
    off_list : (b : ℕ) → m.list.address ≤ b → b < m.list.address + 6 * m.entries → cln ≡ b → ⊥
    off_list b lo hi e = out_of m.list.address (6 * m.entries) cln b list.length lo hi (sym e)

    abbrev g1 : ℕ → ℕ
    g1 = put f p a

    abbrev g2 : ℕ → ℕ
    g2 = put g1 (p + 2) (g1 a)

    abbrev stored : List Effect
    stored = Store p a ∷ Store (p + 2) (g1 a) ∷ Store cln ((g2 cln + 1 + 0) % 0x10000) ∷ []

    is_logged : stored ≡ word_logged m a f
    is_logged =
        let there : p ≡ entry_place m (f cln) = ap (entry_place m) (sym count) in
        let word : g1 a ≡ f a = put_other f p a a (λ e. out_of m.list.address (6 * m.entries) a p is.list (omega arith) (omega (arith, few)) (sym e)) in
        let length : g2 cln ≡ f cln =
        put_other g1 (p + 2) (g1 a) cln (off_list (p + 2) (omega arith) (omega (arith, few)))
        ∙ put_other f p a cln (off_list p (omega arith) (omega (arith, few))) in
        let more : (g2 cln + 1 + 0) % 0x10000 ≡ (f cln + 1) % 0x10000 = omega (arith, length) in
        λ k. Store (there k) a ∷ Store (there k + 2) (word k) ∷ Store cln (more k) ∷ []

    abbrev g : ℕ → ℕ
    g = fram_after (word_logged m a f) f

    pub counted : g cln ≡ suc i
    counted =
        let e = put_same (put (put f (entry_place m (f cln)) a) (entry_place m (f cln) + 2) (f a)) cln ((f cln + 1) % 0x10000) in
        let top = places.list.high in
        omega (arith, e, count, few, top)

    pub one_logged : (at : ℕ) (u : Core) → Stands code at (word_logged_in m i a) → Enters at sp f l u
        → Comes code (word_logged m a f) 3 15 u (Enters (at + 16) sp g l)
    one_logged at u h here =
        let s = core_at at f l u in
        subst (λ es. Comes code es 3 15 u (Enters (at + 16) sp (fram_after es f) l)) is_logged
        (from_there u (record { pc = here.pc; fram = here.fram; inputs = here.inputs })
        (ends (straight code tidy (word_logged_in m i a) s (tt, (tt, (tt, tt))) h
        ((tt, first_place), ((is.place, second_place), ((tt, refl, tt, places.words ListLength), tt))) refl)
        (record { pc = omega arith; sp = here.sp; fram = refl; inputs = refl })))

  -- words, from an entry on
  pub logs_done : (i : ℕ) (xs : List ℕ) (f : ℕ → ℕ) (l : Inputs) → f (word_place m ListLength) ≡ i → i + length xs ≤ m.entries → All (IsLoggable m) xs
      → Does code sp (logs_in m i xs) (logging m xs f l)
  logs_done i [] f l count few ok p u h at =
      nothing (anywhere code) u _ (record { pc = at.pc ∙ omega arith; sp = at.sp; fram = at.fram; inputs = at.inputs })
  logs_done i (a ∷ rest) f l count few ok p u h at =
      let is = All-head (IsLoggable m) a rest ok in
      let lt : i < m.entries = omega (arith, few) in
      let es = word_logged m a f in
      let g = fram_after es f in
      let here = stands_front code p (word_logged_in m i a) (logs_in m (suc i) rest) h in
      let behind = stands_back code p (word_logged_in m i a) (logs_in m (suc i) rest) h in
      let bytes = logs_bytes m (suc i) rest in
      recounted (omega arith) (omega arith) (so_ends
      (comes_on (one_logged i a f l count lt is p u here at)
      (λ v k. logs_done (suc i) rest g l (counted i a f l count lt is) (omega (arith, few)) (All-tail (IsLoggable m) a rest ok) (p + 16) v behind k))
      (λ v k. record {
        pc = k.pc ∙ omega arith;
        sp = k.sp;
        fram = k.fram ∙ sym (fram_after-append es (words_logged m rest g) f);
        inputs = k.inputs;
      }))
