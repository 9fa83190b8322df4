-- A commit: to redo a decided world is one whose list is empty, so that what redo's commit keeps there each store keeps here, up to the last two.
use Rattle.std.proofs.Common.{◌≡◌, ℕ, zero, suc, ◌+◌, ◌*◌, ◌%◌, ◌<◌, ◌≤◌, ⊎_elim, inl, inr}
use Rattle.std.proofs.Common.{false, if◌then◌else◌, List, [], ◌∷◌, ◌++◌, refl, sym, ap, ◌∙◌, subst, arith}
use Rattle.std.proofs.Common.{append_assoc, zero-le}
use Rattle.std.proofs.lemmas.Bool.{cases_eq}
use Rattle.std.proofs.lemmas.List.{append_cancel_right}
use Rattle.memory_map.specs.Laws.{AreApart}
use Rattle.memory_map.specs.MemoryMap.{MemoryMap, word_place}
use Rattle.memory_map.specs.event_places.Places.{tail_place, sent_place}
use Rattle.memory_map.specs.declared.words.RuntimeWord.TheVariants.{CurrentTask, NextTask, Gate, ListLength, EmitCount, Base, SentBase, Version}
use Rattle.fram_board.specs.Effects.{Effect, Store, Outside, Offered}
use Rattle.machine_effects.specs.World.{World, world_after_one, world_after, EachStore}
use Rattle.machine_effects.specs.Inputs.{inputs_taken}
use Rattle.machine_effects.proofs.Interface.{put_same, put_other, world_after-append, each_store-append, none_taken_through}
use Rattle.runtime_effects.specs.Places.{entries_from, listed}
use Rattle.runtime_effects.specs.Stages.{copied_home, sends, emits_sent, tail_moved, commit_closed, commit_effects, start_effects}
use Rattle.runtime_effects.proofs.Interface.{sends_store, where_stores}
use Rattle.undo_effects.specs.Stages.{moved_on, let_go, undo_commit}
use Rattle.undo_effects.proofs.Interface.{put_over}
use Rattle.crash_rules.specs.Model.{HoldsThroughout, IsElsewhere, CommitKeeps, ModelLaws, Inputs, Short, Lacks, program_effects}
use Rattle.crash_rules.proofs.Interface.{holds_both, holds-append}
use Rattle.stands_for.specs.Layout.{ProgramPlaces, StateView, IsAmong, HaveRoom}
use Rattle.stands_for.specs.StandsFor.{HoldsWords, RestsAt, SendsAndCloses, CopiesHome, DecidedFrom}
use Rattle.stands_for.specs.Program.{ProgramParts, program_model, TasksContract}
use Rattle.stands_for.proofs.Interface.{put_words, keeps_the_laws, numbered_starts}
use Rattle.undo_states.specs.States.{list_length, RestsClear, ClosesFrom}
use Rattle.undo_states.specs.Program.{undo_model}
use Rattle.undo_states.proofs.Steps.{at_end, stays_through, world_with, through_with, after_with}

-- the same words are sent
sends_alike : (n k p : ℕ) (f g : ℕ → ℕ) → ((a : ℕ) → p ≤ a → g a ≡ f a) → sends n k p g ≡ sends n k p f
sends_alike zero k p f g h = refl
sends_alike (suc n) k p f g h =
    ap (λ w. Outside (Offered k w) ∷ sends n ((k + 1) % 0x10000) (p + 2) g) (h p (omega arith))
    ∙ ap (λ es. Outside (Offered k (f p)) ∷ es) (sends_alike n ((k + 1) % 0x10000) (p + 2) f g (λ a lo. h a (omega (arith, lo))))

-- a commit up to its store to BASE, and up to its last one
abbrev pub moved : MemoryMap → (ℕ → ℕ) → List Effect
moved m f = emits_sent m f ++ (tail_moved m f ++ moved_on m f)

abbrev pub commit_before : MemoryMap → (ℕ → ℕ) → List Effect
commit_before m f = moved m f ++ (Store (word_place m ListLength) 0 ∷ [])

pub commit_is : (m : MemoryMap) (f : ℕ → ℕ) → undo_commit m f ≡ commit_before m f ++ (Store (word_place m Gate) 0 ∷ [])
commit_is m f =
    let sent = emits_sent m f in
    let tail = tail_moved m f in
    let cleared : List Effect = Store (word_place m ListLength) 0 ∷ [] in
    let last : List Effect = Store (word_place m Gate) 0 ∷ [] in
    sym (append_assoc (moved m f) cleared last ∙ append_assoc sent (tail ++ moved_on m f) (let_go m)
    ∙ ap (λ z. sent ++ z) (append_assoc tail (moved_on m f) (let_go m)))

module _ {St : Type 0} (l : ProgramPlaces) (apart : AreApart l.map) (room : HaveRoom l) (v : StateView St) where
  abbrev m : MemoryMap
  m = l.map

  abbrev cln : ℕ
  cln = word_place m ListLength

  -- a world whose list is empty
  abbrev emptied : World → World
  emptied x = world_with cln 0 x

  -- redo's list there names nothing
  none_listed : (x : World) → listed m (emptied x).fram ≡ []
  none_listed x = ap (λ n. entries_from n m.list.address (emptied x).fram) (put_same x.fram cln 0)

  -- redo's commit there is this commit without its store to CLN
  redo_commit : (x : World) → commit_effects m (emptied x).fram ≡ moved m x.fram ++ (Store (word_place m Gate) 0 ∷ [])
  redo_commit x =
      let f = x.fram in
      let g = (emptied x).fram in
      let same : (a : ℕ) → (a ≡ cln → ⊥) → g a ≡ f a = λ a other. put_other f cln 0 a other in
      let count = same (word_place m EmitCount) (λ q. omega (arith, q)) in
      let base = same (word_place m SentBase) (λ q. omega (arith, q)) in
      let next = same (word_place m NextTask) (λ q. omega (arith, q)) in
      let tail = same sent_place (λ q. omega (arith, apart, q)) in
      let last : List Effect = Store (word_place m Gate) 0 ∷ [] in
      let words : emits_sent m g ≡ emits_sent m f =
      ap (λ n. sends n (g (word_place m SentBase)) m.emits.address g) count ∙ ap (λ k. sends (f (word_place m EmitCount)) k m.emits.address g) base
      ∙ sends_alike (f (word_place m EmitCount)) (f (word_place m SentBase)) m.emits.address f g (λ a lo. same a (λ q. omega (arith, apart, lo, q))) in
      let on : moved_on m g ≡ moved_on m f =
      ap (λ t. Store (word_place m CurrentTask) t
      ∷ Store (word_place m Base) ((g (word_place m SentBase) + g (word_place m EmitCount)) % 0x10000) ∷ []) next
      ∙ ap (λ b. Store (word_place m CurrentTask) (f (word_place m NextTask))
      ∷ Store (word_place m Base) ((b + g (word_place m EmitCount)) % 0x10000) ∷ []) base
      ∙ ap (λ n. Store (word_place m CurrentTask) (f (word_place m NextTask))
      ∷ Store (word_place m Base) ((f (word_place m SentBase) + n) % 0x10000) ∷ []) count in
      let tails : tail_moved m g ≡ tail_moved m f = ap (λ w. if m.runtime.events then Store tail_place w ∷ [] else []) tail in
      ap (λ ps. copied_home ps g ++ (emits_sent m g ++ commit_closed m g)) (none_listed x)
      ∙ ap (λ es. es ++ commit_closed m g) words
      ∙ ap (λ es. emits_sent m f ++ (es ++ (moved_on m g ++ last))) tails
      ∙ ap (λ es. emits_sent m f ++ (tail_moved m f ++ (es ++ last))) on
      ∙ ap (λ es. emits_sent m f ++ es) (sym (append_assoc (tail_moved m f) (moved_on m f) last))
      ∙ sym (append_assoc (emits_sent m f) (tail_moved m f ++ moved_on m f) last)

  -- it stores nothing to CLN up to there
  moved_elsewhere : (f : ℕ → ℕ) → EachStore (IsElsewhere cln) (moved m f)
  moved_elsewhere f =
      each_store-append (IsElsewhere cln) (emits_sent m f) (tail_moved m f ++ moved_on m f)
      (sends_store (IsElsewhere cln) (f (word_place m EmitCount)) (f (word_place m SentBase)) m.emits.address f)
      (each_store-append (IsElsewhere cln) (tail_moved m f) (moved_on m f)
      (where_stores (IsElsewhere cln) m.runtime.events tail_place (f sent_place) (λ on q. omega (arith, apart, q)))
      ((λ q. omega (arith, q)), ((λ q. omega (arith, q)), tt)))

  -- ---- decided worlds, here and to redo

  module _ (s next : St) where
    -- what is to be sent and closed doesn't speak of CLN
    sends_there : (es : List ℕ) (x : World) (g : ℕ → ℕ) → HoldsWords g → ((a : ℕ) → (a ≡ cln → ⊥) → g a ≡ x.fram a) → SendsAndCloses l v s next es 0 x
        → SendsAndCloses l v s next es 0 (record x { fram = g })
    sends_there es x g words same d =
        let cur = same (word_place m CurrentTask) (λ q. omega (arith, q)) in
        let count = same (word_place m EmitCount) (λ q. omega (arith, q)) in
        let sent = same (word_place m SentBase) (λ q. omega (arith, q)) in
        let base = same (word_place m Base) (λ q. omega (arith, q)) in
        record {
          is_state = d.is_state;
          next_is_state = d.next_is_state;
          is_task = d.is_task;
          next_is_task = d.next_is_task;
          words = words;
          gate = same (word_place m Gate) (λ q. omega (arith, q)) ∙ d.gate;
          next_task = same (word_place m NextTask) (λ q. omega (arith, q)) ∙ d.next_task;
          current_task = ⊎_elim (λ e. inl (cur ∙ e)) (λ e. inr (cur ∙ e)) d.current_task;
          emitted = d.emitted;
          emit_count = count ∙ d.emit_count;
          within_emits = d.within_emits;
          buffer = λ i h. same (m.emits.address + 2 * i) (λ q. omega (arith, apart, q)) ∙ d.buffer i h;
          sent_base = sent ∙ d.sent_base;
          base = ⊎_elim (λ e. inl (base ∙ e ∙ sym sent))
              (λ e. inr (base ∙ e ∙ ap (λ b. (b + x.fram (word_place m EmitCount)) % 0x10000) (sym sent)
              ∙ ap (λ n. (g (word_place m SentBase) + n) % 0x10000) (sym count))) d.base;
          accepted = record { count = d.accepted.count; at_least = d.accepted.at_least; at_most = d.accepted.at_most; is = d.accepted.is };
          versions = λ i h. let k = d.versions i h in
              let e = same (m.versions.address + 2 * i) (λ q. omega (arith, apart, q)) in
              let ver = same (word_place m Version) (λ q. omega (arith, q)) in
              omega (arith, k, e, ver);
        }

    to_redo : (x : World) → ClosesFrom l v s next x → DecidedFrom l v s next (emptied x)
    to_redo x d =
        let y = emptied x in
        let same : (a : ℕ) → (a ≡ cln → ⊥) → y.fram a ≡ x.fram a = λ a other. put_other x.fram cln 0 a other in
        let none = put_same x.fram cln 0 in
        record {
          emits = d.emits;
          decided = record {
            sends = sends_there d.emits x y.fram (put_words x.fram cln 0 d.closes.sends.words (omega arith)) same d.closes.sends;
            home = subst (λ ps. CopiesHome l v s next ps y) (sym (none_listed x)) (record {
              pairs_listed = none_listed x;
              entries = λ i h. absurd (omega (arith, h, none));
              within_list = subst (λ n. n ≤ l.list_capacity (v.task s)) (sym none) zero-le;
              within_words = zero-le;
              homes = λ p h. absurd h;
              copies = λ p h. absurd h;
              copied = λ p h. absurd h;
              either = λ p h. absurd h;
              others = λ a sh free. same a (λ q. omega (arith, apart, sh, q)) ∙ d.closes.shared a sh;
            });
          };
        }

    of_redo : (y : World) → list_length l y ≤ l.list_capacity (v.task s) → DecidedFrom l v s next (emptied y) → ClosesFrom l v s next y
    of_redo y few d =
        let same : (a : ℕ) → (a ≡ cln → ⊥) → y.fram a ≡ (emptied y).fram a = λ a other. sym (put_other y.fram cln 0 a other) in
        let capacity = room.list (v.task s) d.decided.sends.is_task in
        let words : HoldsWords y.fram = λ a. ⊎_elim {C = y.fram a < 0x10000}
        (λ q. subst (λ b. y.fram b < 0x10000) (sym q) (omega (arith, few, capacity, apart)))
        (λ n. subst (λ w. w < 0x10000) (sym (same a n)) (d.decided.sends.words a)) (cases_eq a cln) in
        record {
          emits = d.emits;
          closes = record {
            sends = sends_there d.emits (emptied y) y.fram words same d.decided.sends;
            within = few;
            shared = λ a sh. same a (λ q. omega (arith, apart, sh, q))
                ∙ d.decided.home.others a sh (λ p h e. subst (λ ps. IsAmong ps p) (none_listed y) h);
          };
        }

    -- ---- redo's law of the commit, of a program whose tasks are always short

    abbrev parts : ProgramParts St
    parts = record { task = λ u given. Short; cost = λ t. 0; start = start_effects m (λ t. []); body = λ t f inputs. program_effects [] false }

    tasks_are_short : TasksContract l v (λ t. []) parts
    tasks_are_short u x inputs words st = Lacks (record { is = refl; elsewhere = tt; undecided = st.undecided; short = refl })

    redo_laws : ModelLaws (program_model l v parts)
    redo_laws = keeps_the_laws St l v (λ t. []) parts apart room (numbered_starts St l v (λ t. []) apart (λ t. tt)) tasks_are_short

    redo_keeps : (x : World) (inputs : Inputs) → ClosesFrom l v s next x
        → CommitKeeps (program_model l v parts) (DecidedFrom l v s next) next inputs (emptied x)
    redo_keeps x inputs d = redo_laws.decided_commits s next (emptied x) (to_redo x d) inputs

    -- what it says of each effect
    module _ (x : World) (inputs : Inputs) (d : ClosesFrom l v s next x) where
      abbrev es : List Effect
      es = moved m x.fram

      abbrev redo : CommitKeeps (program_model l v parts) (DecidedFrom l v s next) next inputs (emptied x)
      redo = redo_keeps x inputs d

      is_before : redo.before ≡ es
      is_before = append_cancel_right redo.before es (Store (word_place m Gate) 0 ∷ []) (sym redo.is ∙ redo_commit x)

      off : EachStore (IsElsewhere cln) es
      off = moved_elsewhere x.fram

      abbrev y : World
      y = world_after es x

      redo_through : HoldsThroughout (λ z. DecidedFrom l v s next (emptied z)) es x
      redo_through =
          through_with cln 0 (DecidedFrom l v s next) es x off (subst (λ bs. HoldsThroughout (DecidedFrom l v s next) bs (emptied x)) is_before redo.kept)

      few_through : HoldsThroughout (λ z. list_length l z ≡ list_length l x) es x
      few_through = stays_through cln (list_length l x) es x off refl

      closes_through : HoldsThroughout (ClosesFrom l v s next) es x
      closes_through =
          holds_both (λ z. DecidedFrom l v s next (emptied z)) (λ z. list_length l z ≡ list_length l x) (ClosesFrom l v s next)
          (λ z k e. of_redo z (subst (λ n. n ≤ l.list_capacity (v.task s)) (sym e) d.closes.within) k) es x redo_through few_through

      -- the store to CLN
      emptied_closes : ClosesFrom l v s next (emptied y)
      emptied_closes =
          let none = put_same y.fram cln 0 in
          of_redo (emptied y) (subst (λ n. n ≤ l.list_capacity (v.task s)) (sym none) zero-le)
          (subst (λ f. DecidedFrom l v s next (record y { fram = f })) (sym (put_over y.fram cln 0 0))
          (at_end (λ z. DecidedFrom l v s next (emptied z)) (λ z. DecidedFrom l v s next (emptied z)) (λ z k. k) es x redo_through))

      pub kept : HoldsThroughout (ClosesFrom l v s next) (commit_before m x.fram) x
      kept = holds-append (ClosesFrom l v s next) es (Store cln 0 ∷ []) x closes_through
          (at_end (ClosesFrom l v s next) (ClosesFrom l v s next) (λ z k. k) es x closes_through, emptied_closes)

      behind : world_after redo.before (emptied x) ≡ world_after (commit_before m x.fram) x
      behind =
          ap (λ bs. world_after bs (emptied x)) is_before ∙ after_with cln 0 es x off ∙ sym (world_after-append es (Store cln 0 ∷ []) x)

      pub commit_rests : RestsClear l v next (world_after_one (Store (word_place m Gate) 0) (world_after (commit_before m x.fram) x))
      commit_rests =
          let z = world_after (commit_before m x.fram) x in
          record {
            rests = subst (λ w. RestsAt l v next (world_after_one (Store (word_place m Gate) 0) w)) behind redo.rests;
            none = put_other z.fram (word_place m Gate) 0 cln (λ q. omega (arith, q))
                ∙ ap (λ w. w.fram cln) (world_after-append es (Store cln 0 ∷ []) x) ∙ put_same y.fram cln 0;
          }

      -- it is what the crash theorem asks of a commit, of any fact that follows from being decided
      pub commit_keeps : (p : ProgramParts St) (Kept : World → Type 0) → HoldsThroughout Kept (commit_before m x.fram) x
          → CommitKeeps (undo_model l v p) Kept next inputs x
      commit_keeps p Kept holds = record {
        before = commit_before m x.fram;
        is = commit_is m x.fram;
        elsewhere = each_store-append (IsElsewhere (word_place m Gate)) es (Store cln 0 ∷ [])
            (subst (EachStore (IsElsewhere (word_place m Gate))) is_before redo.elsewhere) ((λ q. omega (arith, q)), tt);
        takes_none = none_taken_through es (Store cln 0 ∷ []) (ap inputs_taken (sym is_before) ∙ redo.takes_none) refl;
        kept = holds;
        rests = commit_rests;
      }
