-- Where recoveries and commits store, and the version words of an undecided world.
use Rattle.std.proofs.Common.{◌≡◌, ℕ, ◌+◌, ◌*◌, ◌≤◌, true, ◌∷◌, [], ◌++◌, arith}
use Rattle.memory_map.specs.Laws.{AreApart}
use Rattle.memory_map.specs.MemoryMap.{MemoryMap, word_place}
use Rattle.memory_map.specs.event_places.Places.{tail_place, sent_place}
use Rattle.memory_map.specs.declared.words.RuntimeWord.TheVariants.{CurrentTask, Gate, ListLength, EmitCount, Base, SentBase, Version}
use Rattle.fram_board.specs.Effects.{Store}
use Rattle.machine_effects.specs.World.{World, EachStore}
use Rattle.machine_effects.proofs.Interface.{each_store-append}
use Rattle.runtime_effects.specs.Stages.{emits_sent, tail_moved}
use Rattle.runtime_effects.proofs.Interface.{sends_store, where_stores}
use Rattle.undo_effects.specs.Entries.{logged}
use Rattle.undo_effects.specs.Stages.{put_back, recovery, moved_on, let_go, undo_commit}
use Rattle.undo_effects.proofs.Interface.{put_back_stores, undone_other}
use Rattle.stands_for.specs.Layout.{ProgramPlaces, StateView, IsSharedWord}
use Rattle.stands_for.specs.StandsFor.{VersionsWithin}
use Rattle.undo_states.specs.States.{restored, UndoneAt}

-- a commit stores to TAIL, where there are events, to CUR and BASE, and 0 to CLN and GATE
pub undo_commit_stores : (m : MemoryMap) (P : ℕ → ℕ → Type 0) (f : ℕ → ℕ) → ((w : ℕ) → m.runtime.events ≡ true → P tail_place w)
    → ((w : ℕ) → P (word_place m CurrentTask) w) → ((w : ℕ) → P (word_place m Base) w) → P (word_place m ListLength) 0 → P (word_place m Gate) 0
    → EachStore P (undo_commit m f)
undo_commit_stores m P f tail cur base list gate =
    each_store-append P (emits_sent m f) (tail_moved m f ++ (moved_on m f ++ let_go m))
    (sends_store P (f (word_place m EmitCount)) (f (word_place m SentBase)) m.emits.address f)
    (each_store-append P (tail_moved m f) (moved_on m f ++ let_go m)
    (where_stores P m.runtime.events tail_place (f sent_place) (λ on. tail (f sent_place) on))
    (cur _, (base _, (list, (gate, tt)))))

module _ {St : Type 0} (l : ProgramPlaces) (v : StateView St) (s : St) (x : World) (u : UndoneAt l v s x) where
  -- a recovery stores to shared words, and 0 to CLN
  pub recovery_stores : (P : ℕ → ℕ → Type 0) → ((a w : ℕ) → IsSharedWord l a → P a w) → P (word_place l.map ListLength) 0
      → EachStore P (recovery l.map x.fram)
  recovery_stores P shared list =
      let es = logged l.map x.fram in
      each_store-append P (put_back es) (Store (word_place l.map ListLength) 0 ∷ [])
      (put_back_stores P es (λ a w h. shared a w (u.shared a h))) (list, tt)

  -- every version word is at most VER: neither is put back
  pub undone_versions : AreApart l.map → VersionsWithin l x.fram
  undone_versions apart i below =
      let es = logged l.map x.fram in
      let a = l.map.versions.address + 2 * i in
      let word = undone_other es x.fram a (λ h. let sh = u.shared a h in omega (arith, apart, below, sh)) in
      let number = undone_other es x.fram (word_place l.map Version) (λ h. let sh = u.shared (word_place l.map Version) h in omega (arith, apart, sh)) in
      let within = u.behind.is_open.versions i below in
      omega (arith, word, number, within)
