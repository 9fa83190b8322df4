-- The commit's code makes the commit.
use Rattle.std.proofs.Common.{◌≡◌, ◌≢◌, ℕ, ◌+◌, ◌%◌, List, [], ◌∷◌, ◌++◌, refl, sym, ap, ◌∙◌, subst, arith}
use mathlib.Core.Path.{fun_ext}
use Rattle.runtime_code.specs.fram_board.Effects.{Effect, Store}
use Rattle.runtime_code.specs.machine_effects.World.{fram_after}
use Rattle.runtime_code.specs.machine_effects.Inputs.{Inputs}
use Rattle.runtime_code.specs.machine_effects.Machine.{Code}
use Rattle.runtime_code.proofs.machine_effects.Interface.{fram_after-append, fram_untouched}
use Rattle.runtime_code.specs.code_forms.Forms.{Core, Branch}
use Rattle.runtime_code.specs.code_forms.Code.{Stands, IsTidy, anywhere}
use Rattle.runtime_code.proofs.code_forms.Interface.{stands_front, forms_behind}
use Rattle.runtime_code.specs.runtime_effects.Stages.{emits_sent, tail_moved}
use Rattle.runtime_code.specs.runtime_effects.Needs.{AreInFram}
use Rattle.runtime_code.proofs.runtime_effects.Interface.{sends_store, where_leaves}
use Rattle.runtime_code.specs.Comes.{Comes, IsAt}
use Rattle.runtime_code.specs.Sending.{sending}
use Rattle.runtime_code.proofs.Interface.{behind, from_there, core_at, then_on, so_ends, recounted, comes_on, form_comes, straight, BehindSends, sends_are_made}
use Rattle.runtime_code.proofs.Interface.{behind_where}
use Rattle.commit_runtime.specs.Listing.{tail_set, events_taken}
use Rattle.commit_runtime.proofs.Interface.{tail_part}
use Rattle.memory_map.specs.declared.words.RuntimeWord.TheVariants.{CurrentTask, NextTask, Gate, ListLength, EmitCount, Base, SentBase}
use Rattle.memory_map.specs.MemoryMap.{MemoryMap, word_place, with_events}
use Rattle.memory_map.specs.event_places.Places.{tail_place, sent_place}
use Rattle.undo_effects.specs.Stages.{undo_commit}
use Rattle.undo_runtime.specs.Listing.{closing, undo_commit_forms}
use Rattle.undo_runtime.specs.Laws.{UndoCommitIsMade}

module _ (code : Code) (tidy : IsTidy code) (m : MemoryMap) (places : AreInFram m) where
  -- the last stores, with a number for BASE
  abbrev closed_with : ℕ → ℕ → List Effect
  closed_with next number =
      Store (word_place m CurrentTask) next ∷ Store (word_place m Base) number ∷ Store (word_place m ListLength) 0 ∷ Store (word_place m Gate) 0 ∷ []

  -- they are made, and the branch
  close_part : (p start number : ℕ) (f : ℕ → ℕ) (l : Inputs) (u : Core) → start % 2 ≡ 0 → Stands code p (closing m ++ (Branch start ∷ []))
      → BehindSends p number f l u
      → let es = closed_with (f (word_place m NextTask)) number in Comes code es 5 21 u (IsAt start (fram_after es f) l)
  close_part p start number f l u even h at =
      let s = core_at p f l u in
      let closed = behind (closing m) s in
      let es = closed_with (f (word_place m NextTask)) in
      subst (λ k. Comes code (es k) 5 21 u (IsAt start (fram_after (es k) f) l)) at.next_number
      (from_there u at.at (then_on (straight code tidy (closing m) s (tt, (tt, (tt, (tt, tt)))) (stands_front code p (closing m) (Branch start ∷ []) h)
      ((places.words NextTask, places.words CurrentTask), ((tt, places.words Base), ((tt, places.words ListLength), ((tt, places.words Gate), tt)))) refl)
      (form_comes (anywhere code) tidy (Branch start) closed (record closed { pc = start }) [] 3 (IsAt start (fram_after (es (u.work 7)) f) l) h.1.1.1.1.0
      even refl
      (record { pc = refl; fram = refl; inputs = refl }))))

  -- behind the sends
  end_part : (p start number : ℕ) (f : ℕ → ℕ) (l : Inputs) (u : Core) → start % 2 ≡ 0
      → Stands code p (events_taken m ++ (closing m ++ (Branch start ∷ []))) → BehindSends p number f l u
      → let events = m.runtime.events in let es = tail_moved m f ++ closed_with (f (word_place m NextTask)) number in
      Comes code es (with_events events 1 + 5) (with_events events 6 + 21) u (IsAt start (fram_after es f) l)
  end_part p start number f l u even h at =
      let events = m.runtime.events in
      let last = closing m ++ (Branch start ∷ []) in
      let ts = tail_moved m f in
      let g = fram_after ts f in
      let row = places.row in
      let next : g (word_place m NextTask) ≡ f (word_place m NextTask) =
      where_leaves events tail_place (f sent_place) (word_place m NextTask) f (λ on e. omega (arith, row, e)) in
      let behind_tail = behind_where code events tail_set p last h in
      let Closed : ℕ → Core → Type 0 = λ x v. let es = closed_with x number in Comes code es 5 21 v (IsAt start (fram_after es g) l) in
      let es = closed_with (f (word_place m NextTask)) number in
      so_ends (comes_on (tail_part code tidy m places p number f l u (stands_front code p (events_taken m) last h) at)
      (λ v j. subst (λ x. Closed x v) next (close_part (p + with_events events 6) start number g l v even behind_tail j)))
      (λ v j. record { pc = j.pc; fram = j.fram ∙ sym (fram_after-append ts es f); inputs = j.inputs })

pub undo_commit_is_made : UndoCommitIsMade
undo_commit_is_made code m at start u tidy places high even h e can =
    let f = u.fram in
    let n = f (word_place m EmitCount) in
    let base = f (word_place m SentBase) in
    let ss = emits_sent m f in
    let ls = tail_moved m f ++ closed_with code tidy m places (f (word_place m NextTask)) ((base + n) % 0x10000) in
    let sent : fram_after ss f ≡ f = fun_ext (λ a. fram_untouched ss a f (sends_store (λ b w. b ≢ a) n base m.emits.address f)) in
    let after : fram_after ls f ≡ fram_after (undo_commit m f) f = ap (fram_after ls) (sym sent) ∙ sym (fram_after-append ss ls f) in
    recounted (omega arith) (omega arith) (so_ends
    (comes_on (sends_are_made code tidy m places at f u.inputs u (omega (arith, high)) (stands_front code at (sending m) _ h) can.emit_count can.sent_base
    (record { pc = e; fram = refl; inputs = refl }))
    (λ v k. end_part code tidy m places (at + 30) start ((base + n) % 0x10000) f u.inputs v even (forms_behind code at 10 (undo_commit_forms m start) h) k))
    (λ v k. record { pc = k.pc; fram = k.fram ∙ after; inputs = k.inputs }))
