-- A recovery: each word that is put back is a logged one, so that what is still to be put back stays; behind it the world is settled.
use Rattle.std.proofs.Common.{◌≡◌, ℕ, ◌<◌, inl, inr, List, [], ◌∷◌, ◌++◌, refl, sym, ap, ◌∙◌, subst, arith}
use Rattle.std.specs.Prelude.{All}
use Rattle.std.proofs.lemmas.List.Elements.{All-head, All-tail}
use Rattle.memory_map.specs.Laws.{AreApart}
use Rattle.memory_map.specs.MemoryMap.{word_place}
use Rattle.memory_map.specs.event_places.Places.{answer_place}
use Rattle.memory_map.specs.declared.words.RuntimeWord.TheVariants.{Gate, ListLength}
use Rattle.fram_board.specs.Effects.{Effect, Store}
use Rattle.machine_effects.specs.World.{World, world_after_one, world_after}
use Rattle.machine_effects.proofs.Interface.{put_same, world_after-append, each_store-append, none_taken_through}
use Rattle.undo_effects.specs.Entries.{Logged, logged, IsLogged}
use Rattle.undo_effects.specs.Stages.{put_back, recovery}
use Rattle.undo_effects.proofs.Interface.{put_back_restores, put_back_takes, put_back_stores, logged_words}
use Rattle.crash_rules.specs.Model.{HoldsThroughout, IsElsewhere, RecoveryKeeps}
use Rattle.crash_rules.proofs.Interface.{holds-append}
use Rattle.stands_for.specs.Layout.{ProgramPlaces, StateView, HaveRoom}
use Rattle.stands_for.specs.StandsFor.{UndecidedAt}
use Rattle.stands_for.specs.Program.{ProgramParts}
use Rattle.stands_for.proofs.Interface.{none_answered}
use Rattle.undo_states.specs.States.{list_length, UndoneAt, SettledAt}
use Rattle.undo_states.specs.Program.{undo_model}
use Rattle.undo_states.proofs.Undecided.{over_keeps, over_entries, length_is, scratch_undecided}
use Rattle.undo_states.proofs.Opening.{none_logged}

module _ {St : Type 0} (l : ProgramPlaces) (apart : AreApart l.map) (room : HaveRoom l) (v : StateView St) (s : St) where
  abbrev IsWordThere : Logged → Type 0
  IsWordThere e = e.word < 0x10000

  -- entries are put back
  record GoesBack (es : List Logged) (y : World) : Type 0 where
    through : HoldsThroughout (UndoneAt l v s) (put_back es) y
    undecided : UndoneAt l v s (world_after (put_back es) y)
    same : logged l.map (world_after (put_back es) y).fram ≡ logged l.map y.fram

  goes_back : (es : List Logged) (y : World) → ((a : ℕ) → IsLogged es a → IsLogged (logged l.map y.fram) a) → All IsWordThere es → UndoneAt l v s y
      → GoesBack es y
  goes_back [] y among small u = record { through = u; undecided = u; same = refl }
  goes_back (e ∷ es) y among small u =
      let r = goes_back es y (λ a h. among a (inr h)) (All-tail IsWordThere e es small) u in
      let z = world_after (put_back es) y in
      let last : List Effect = Store e.address e.word ∷ [] in
      let h : IsLogged (logged l.map z.fram) e.address = subst (λ k. IsLogged k e.address) (sym r.same) (among e.address (inl refl)) in
      let k = over_keeps l apart v s room z e.address e.word (All-head IsWordThere e es small) h r.undecided in
      let behind : world_after (put_back es ++ last) y ≡ world_after_one (Store e.address e.word) z = world_after-append (put_back es) last y in
      record {
        through = holds-append (UndoneAt l v s) (put_back es) last y r.through (r.undecided, k);
        undecided = subst (UndoneAt l v s) (sym behind) k;
        same = ap (λ w. logged l.map w.fram) behind ∙ over_entries l apart v s room z e.address e.word h r.undecided ∙ r.same;
      }

  -- the recovery
  pub record Recovers (x : World) : Type 0 where
    pub through : HoldsThroughout (UndoneAt l v s) (recovery l.map x.fram) x
    pub settled : SettledAt l v s (world_after (recovery l.map x.fram) x)

  pub recovers : (x : World) → UndoneAt l v s x → Recovers x
  recovers x u =
      let es = logged l.map x.fram in
      let cln = word_place l.map ListLength in
      let r = goes_back es x (λ a h. h) (logged_words (list_length l x) l.map.list.address x.fram u.words) u in
      let z = world_after (put_back es) x in
      let last : List Effect = Store cln 0 ∷ [] in
      let stands : UndecidedAt l v s z = subst (UndecidedAt l v s) (sym (put_back_restores es x)) u.behind in
      let y = world_after_one (Store cln 0) z in
      let none : list_length l y ≡ 0 = put_same z.fram cln 0 in
      let k = none_logged l v s y (scratch_undecided l apart v s room z cln 0 (omega arith) (length_is l apart v s room) stands) none in
      let settled : SettledAt l v s y = record { undecided = k; none = none } in
      record {
        through = holds-append (UndoneAt l v s) (put_back es) last x r.through (r.undecided, k);
        settled = subst (SettledAt l v s) (sym (world_after-append (put_back es) last x)) settled;
      }

  -- it is what the crash theorem asks of a recovery
  pub recovery_keeps : (p : ProgramParts St) (x : World) → UndoneAt l v s x → RecoveryKeeps (undo_model l v p) s x
  recovery_keeps p x u =
      let es = logged l.map x.fram in
      let last : List Effect = Store (word_place l.map ListLength) 0 ∷ [] in
      let r = recovers x u in
      let Off : ℕ → ℕ → ℕ → Type 0 = IsElsewhere in
      let gate = word_place l.map Gate in
      record {
        stays = record {
          takes_none = none_taken_through (put_back es) last (put_back_takes es) refl;
          answers_none = none_answered l.map (recovery l.map x.fram) (each_store-append (Off answer_place) (put_back es) last
              (put_back_stores (Off answer_place) es (λ a w h e. let sh = u.shared a h in omega (arith, apart, sh, e))) ((λ e. omega (arith, apart, e)), tt));
          elsewhere = each_store-append (Off gate) (put_back es) last
              (put_back_stores (Off gate) es (λ a w h e. let sh = u.shared a h in omega (arith, apart, sh, e))) ((λ e. omega (arith, e)), tt);
          undecided = r.through;
        };
        settled = r.settled;
      }
