-- What a store keeps of an undecided world.
use Rattle.std.proofs.Common.{◌≡◌, ℕ, suc, ◌+◌, ◌*◌, ◌%◌, ◌<◌, ◌≤◌, ⊎_elim, inl, inr, true, [], ◌∷◌, ◌++◌, sym, ap, ◌∙◌, subst, arith}
use Rattle.std.proofs.lemmas.Bool.{cases_eq}
use Rattle.memory_map.specs.Laws.{AreApart}
use Rattle.memory_map.specs.MemoryMap.{word_place}
use Rattle.memory_map.specs.declared.words.RuntimeWord.TheVariants.{CurrentTask, Gate, ListLength, Base, Version}
use Rattle.fram_board.specs.Effects.{Store}
use Rattle.machine_effects.specs.World.{World, put, world_after_one, world_after, fram_after}
use Rattle.machine_effects.proofs.Interface.{put_same, put_other}
use Rattle.runtime_effects.specs.Needs.{IsOutOf}
use Rattle.undo_effects.specs.Entries.{Logged, entry_place, logged_bytes, logged_from, logged, IsLogged, undone}
use Rattle.undo_effects.specs.Stages.{word_logged}
use Rattle.undo_effects.proofs.Interface.{out_of, put_again, undone_over, undone_beside, undone_last, logged_last, last_logged, logged_alike}
use Rattle.crash_rules.specs.Model.{HoldsThroughout}
use Rattle.stands_for.specs.Layout.{ProgramPlaces, StateView, IsSharedWord, HaveRoom}
use Rattle.stands_for.specs.StandsFor.{VersionsWithin, UndecidedAt}
use Rattle.stands_for.proofs.Interface.{put_words}
use Rattle.undo_states.specs.States.{list_length, restored, UndoneAt}

module _ {St : Type 0} (l : ProgramPlaces) (apart : AreApart l.map) (v : StateView St) (s : St) where
  -- a word that an undecided world doesn't speak of, but for VER and version words, or that the task writes in place
  pub record LeavesOpen (a : ℕ) : Type 0 where
    pub current : a ≡ word_place l.map CurrentTask → ⊥
    pub gate : a ≡ word_place l.map Gate → ⊥
    pub base : a ≡ word_place l.map Base → ⊥
    pub shared : IsSharedWord l a → l.written_in_place (v.task s) a ≡ true

  -- it is neither VER nor a version word
  pub record LeavesVersions (a : ℕ) : Type 0 where
    pub version : a ≡ word_place l.map Version → ⊥
    pub versions : (i : ℕ) → i < l.map.versions.words → a ≡ l.map.versions.address + 2 * i → ⊥

  pub versions_stay : (f : ℕ → ℕ) (a w : ℕ) → LeavesVersions a → VersionsWithin l f → VersionsWithin l (put f a w)
  versions_stay f a w leaves h i lt =
      let k = h i lt in
      let e = put_other f a w (l.map.versions.address + 2 * i) (λ q. leaves.versions i lt (sym q)) in
      let d = put_other f a w (word_place l.map Version) (λ q. leaves.version (sym q)) in
      omega (arith, e, d, k)

  -- what a store to such a word leaves, of redo's words
  pub put_undecided : (y : World) (a w : ℕ) → w < 0x10000 → LeavesOpen a → VersionsWithin l (put y.fram a w) → UndecidedAt l v s y
      → UndecidedAt l v s (record y { fram = put y.fram a w })
  put_undecided y a w small leaves versions u =
      record {
        is_open = record {
          is_state = u.is_open.is_state;
          is_task = u.is_open.is_task;
          words = put_words y.fram a w u.is_open.words small;
          current_task = put_other y.fram a w (word_place l.map CurrentTask) (λ q. leaves.current (sym q)) ∙ u.is_open.current_task;
          gate = put_other y.fram a w (word_place l.map Gate) (λ q. leaves.gate (sym q)) ∙ u.is_open.gate;
          accepted = u.is_open.accepted;
          base = put_other y.fram a w (word_place l.map Base) (λ q. leaves.base (sym q)) ∙ u.is_open.base;
          versions = versions;
        };
        shared = λ b h. ⊎_elim
            (λ q. inl (subst (λ z. l.written_in_place (v.task s) z ≡ true) (sym q) (leaves.shared (subst (IsSharedWord l) q h))))
            (λ n. ⊎_elim (λ i. inl i) (λ e. inr (put_other y.fram a w b n ∙ e)) (u.shared b h)) (cases_eq b a);
      }

  -- a word outside the entries and CLN, of which an undecided world doesn't speak, or that the task writes in place
  pub record IsBeside (x : World) (a : ℕ) : Type 0 where
    pub leaves : LeavesOpen a
    pub length : a ≡ word_place l.map ListLength → ⊥
    pub list : IsOutOf l.map.list.address (logged_bytes * list_length l x) a
    pub unlogged : IsLogged (logged l.map x.fram) a → ⊥

  -- the entries stay
  pub entries_stay : (x : World) (a w : ℕ) → (a ≡ word_place l.map ListLength → ⊥) → IsOutOf l.map.list.address (logged_bytes * list_length l x) a
      → logged l.map (put x.fram a w) ≡ logged l.map x.fram
  entries_stay x a w length out =
      let f = x.fram in let p = l.map.list.address in
      ap (λ n. logged_from n p (put f a w)) (put_other f a w (word_place l.map ListLength) (λ q. length (sym q)))
      ∙ logged_alike (list_length l x) p f (put f a w) (λ b lo hi. put_other f a w b (out_of p (logged_bytes * list_length l x) a b out lo hi))

  pub beside_entries : (x : World) (a w : ℕ) → IsBeside x a → logged l.map (put x.fram a w) ≡ logged l.map x.fram
  beside_entries x a w is = entries_stay x a w is.length is.list

  -- a store beside
  pub beside_keeps : (x : World) (a w : ℕ) → w < 0x10000 → IsBeside x a → VersionsWithin l (put (restored l x).fram a w) → UndoneAt l v s x
      → UndoneAt l v s (world_after_one (Store a w) x)
  beside_keeps x a w small is versions u =
      let f = x.fram in
      let es = logged l.map f in
      let same = entries_stay x a w is.length is.list in
      let there : undone (logged l.map (put f a w)) (put f a w) ≡ put (undone es f) a w =
      ap (λ z. undone z (put f a w)) same ∙ undone_beside es f a w is.unlogged in
      record {
        words = put_words f a w u.words small;
        within = subst (λ n. n ≤ l.list_capacity (v.task s)) (sym (put_other f a w (word_place l.map ListLength) (λ q. is.length (sym q)))) u.within;
        shared = λ b h. u.shared b (subst (λ z. IsLogged z b) same h);
        behind = subst (λ g. UndecidedAt l v s (record x { fram = g })) (sym there)
            (put_undecided (restored l x) a w small is.leaves versions u.behind);
      }

  module _ (room : HaveRoom l) where
    -- the entries are within the list
    pub list_within : (x : World) → UndoneAt l v s x → list_length l x ≤ l.map.entries
    list_within x u = let a = u.within in let b = room.list (v.task s) u.behind.is_open.is_task in omega (arith, a, b)

    shared_out : (x : World) (a : ℕ) → UndoneAt l v s x → IsSharedWord l a → IsOutOf l.map.list.address (logged_bytes * list_length l x) a
    shared_out x a u sh = let few = list_within x u in inr (omega (arith, apart, sh, few))

    -- the entries stay behind a store to a logged word
    pub over_entries : (x : World) (a w : ℕ) → IsLogged (logged l.map x.fram) a → UndoneAt l v s x → logged l.map (put x.fram a w) ≡ logged l.map x.fram
    over_entries x a w h u = let sh = u.shared a h in entries_stay x a w (λ q. omega (arith, apart, sh, q)) (shared_out x a u sh)

    -- a store to a logged word
    pub over_keeps : (x : World) (a w : ℕ) → w < 0x10000 → IsLogged (logged l.map x.fram) a → UndoneAt l v s x
        → UndoneAt l v s (world_after_one (Store a w) x)
    over_keeps x a w small h u =
        let f = x.fram in
        let es = logged l.map f in
        let sh = u.shared a h in
        let length : a ≡ word_place l.map ListLength → ⊥ = λ q. omega (arith, apart, sh, q) in
        let same = over_entries x a w h u in
        let there : undone (logged l.map (put f a w)) (put f a w) ≡ undone es f =
        ap (λ z. undone z (put f a w)) same ∙ undone_over es f a w h in
        record {
          words = put_words f a w u.words small;
          within = subst (λ n. n ≤ l.list_capacity (v.task s)) (sym (put_other f a w (word_place l.map ListLength) (λ q. length (sym q)))) u.within;
          shared = λ b k. u.shared b (subst (λ z. IsLogged z b) same k);
          behind = subst (λ g. UndecidedAt l v s (record x { fram = g })) (sym there) u.behind;
        }

    -- a store to a shared word that the task writes in place, and that isn't logged
    pub in_place_keeps : (x : World) (a w : ℕ) → w < 0x10000 → IsSharedWord l a → l.written_in_place (v.task s) a ≡ true
        → (IsLogged (logged l.map x.fram) a → ⊥) → UndoneAt l v s x → UndoneAt l v s (world_after_one (Store a w) x)
    in_place_keeps x a w small sh place none u =
        beside_keeps x a w small (record {
          leaves = record {
            current = λ q. omega (arith, apart, sh, q);
            gate = λ q. omega (arith, apart, sh, q);
            base = λ q. omega (arith, apart, sh, q);
            shared = λ h. place;
          };
          length = λ q. omega (arith, apart, sh, q);
          list = shared_out x a u sh;
          unlogged = none;
        })
        (versions_stay (restored l x).fram a w
        (record { version = λ q. omega (arith, apart, sh, q); versions = λ i lt q. omega (arith, apart, sh, q, lt) }) u.behind.is_open.versions) u

    -- a word of the runtime or of the list
    pub record IsScratch (a : ℕ) : Type 0 where
      pub from : word_place l.map Gate < a
      pub below : a < l.map.versions.address
      pub base : a ≡ word_place l.map Base → ⊥
      pub version : a ≡ word_place l.map Version → ⊥

    pub length_is : IsScratch (word_place l.map ListLength)
    length_is = record { from = omega arith; below = omega (arith, apart); base = λ q. omega (arith, q); version = λ q. omega (arith, q) }

    pub scratch_leaves : (a : ℕ) → IsScratch a → LeavesOpen a
    scratch_leaves a is =
        let from = is.from in let below = is.below in
        record {
          current = λ q. omega (arith, from, q);
          gate = λ q. omega (arith, from, q);
          base = is.base;
          shared = λ h. absurd (omega (arith, apart, below, h));
        }

    pub scratch_versions : (a : ℕ) → IsScratch a → LeavesVersions a
    scratch_versions a is = let below = is.below in record { version = is.version; versions = λ i lt q. omega (arith, below, q) }

    -- a store there, of redo's words
    pub scratch_undecided : (y : World) (a w : ℕ) → w < 0x10000 → IsScratch a → UndecidedAt l v s y → UndecidedAt l v s (record y { fram = put y.fram a w })
    scratch_undecided y a w small is u =
        put_undecided y a w small (scratch_leaves a is) (versions_stay y.fram a w (scratch_versions a is) u.is_open.versions) u

    -- a word of the list behind its entries is beside them
    behind_entries : (x : World) (a : ℕ) → UndoneAt l v s x → IsScratch a → entry_place l.map (list_length l x) ≤ a → IsBeside x a
    behind_entries x a u is from = record {
      leaves = scratch_leaves a is;
      length = λ q. omega (arith, apart, from, q);
      list = inr from;
      unlogged = λ h. let sh = u.shared a h in let below = is.below in omega (arith, apart, sh, below);
    }

    -- a word that is logged: each store keeps the world undecided, and there is an entry more
    pub record Logs (a : ℕ) (x : World) : Type 0 where
      pub through : HoldsThroughout (UndoneAt l v s) (word_logged l.map a x.fram) x
      pub entries : logged l.map (fram_after (word_logged l.map a x.fram) x.fram) ≡ logged l.map x.fram ++ record { address = a; word = x.fram a } ∷ []
      pub count : list_length l (world_after (word_logged l.map a x.fram) x) ≡ suc (list_length l x)

    module _ (x : World) (a : ℕ) (u : UndoneAt l v s x) (sh : IsSharedWord l a) (free : list_length l x < l.list_capacity (v.task s)) where
      abbrev f : ℕ → ℕ
      f = x.fram

      abbrev n : ℕ
      n = list_length l x

      abbrev p : ℕ
      p = entry_place l.map n

      few : n < l.map.entries
      few = let b = room.list (v.task s) u.behind.is_open.is_task in omega (arith, free, b)

      abbrev x1 : World
      x1 = world_after_one (Store p a) x

      abbrev x2 : World
      x2 = world_after_one (Store (p + 2) (f a)) x1

      abbrev x3 : World
      x3 = world_after_one (Store (word_place l.map ListLength) ((n + 1) % 0x10000)) x2

      first_is : IsScratch p
      first_is = let lt = few in record {
        from = omega (arith, apart);
        below = omega (arith, apart, lt);
        base = λ q. omega (arith, apart, q);
        version = λ q. omega (arith, apart, q);
      }

      second_is : IsScratch (p + 2)
      second_is = let lt = few in record {
        from = omega (arith, apart);
        below = omega (arith, apart, lt);
        base = λ q. omega (arith, apart, q);
        version = λ q. omega (arith, apart, q);
      }

      same1 : list_length l x1 ≡ n
      same1 = put_other f p a (word_place l.map ListLength) (λ q. omega (arith, apart, q))

      same2 : list_length l x2 ≡ n
      same2 = put_other x1.fram (p + 2) (f a) (word_place l.map ListLength) (λ q. omega (arith, apart, q)) ∙ same1

      u1 : UndoneAt l v s x1
      u1 = beside_keeps x p a (omega (arith, apart, sh)) (behind_entries x p u first_is (omega arith))
          (versions_stay (restored l x).fram p a (scratch_versions p first_is) u.behind.is_open.versions) u

      u2 : UndoneAt l v s x2
      u2 = let e = same1 in beside_keeps x1 (p + 2) (f a) (u.words a) (behind_entries x1 (p + 2) u1 second_is (omega (arith, e)))
          (versions_stay (restored l x1).fram (p + 2) (f a) (scratch_versions (p + 2) second_is) u1.behind.is_open.versions) u1

      -- CLN is one more
      one_more : x3.fram (word_place l.map ListLength) ≡ suc n
      one_more =
          let lt = few in
          let e = put_same x2.fram (word_place l.map ListLength) ((n + 1) % 0x10000) in
          omega (arith, e, lt, apart)

      -- what else is there
      there : (b : ℕ) → (b ≡ word_place l.map ListLength → ⊥) → x3.fram b ≡ x2.fram b
      there b other = put_other x2.fram (word_place l.map ListLength) ((n + 1) % 0x10000) b other

      first_there : x3.fram p ≡ a
      first_there =
          there p (λ q. omega (arith, apart, q)) ∙ put_other x1.fram (p + 2) (f a) p (λ q. omega (arith, q)) ∙ put_same f p a

      second_there : x3.fram (p + 2) ≡ f a
      second_there = there (p + 2) (λ q. omega (arith, apart, q)) ∙ put_same x1.fram (p + 2) (f a)

      word_there : x3.fram a ≡ f a
      word_there =
          let lt = few in
          there a (λ q. omega (arith, apart, sh, q)) ∙ put_other x1.fram (p + 2) (f a) a (λ q. omega (arith, apart, sh, q, lt))
          ∙ put_other f p a a (λ q. omega (arith, apart, sh, q, lt))

      abbrev entry : Logged
      entry = record { address = a; word = f a }

      entries2 : logged l.map x2.fram ≡ logged l.map f
      entries2 =
          let e = same1 in
          entries_stay x1 (p + 2) (f a) (λ q. omega (arith, apart, q)) (inr (omega (arith, e)))
          ∙ entries_stay x p a (λ q. omega (arith, apart, q)) (inr (omega arith))

      entries3 : logged l.map x3.fram ≡ logged l.map f ++ entry ∷ []
      entries3 =
          let from = l.map.list.address in
          let alike : logged_from n from x3.fram ≡ logged_from n from x2.fram =
          logged_alike n from x2.fram x3.fram (λ b lo hi. there b (λ q. omega (arith, apart, lo, q))) in
          let as_before : logged_from n from x2.fram ≡ logged l.map f = ap (λ k. logged_from k from x2.fram) (sym same2) ∙ entries2 in
          ap (λ k. logged_from k from x3.fram) one_more ∙ last_logged n from x3.fram
          ∙ ap (λ z. z ++ record { address = x3.fram p; word = x3.fram (p + 2) } ∷ []) (alike ∙ as_before)
          ∙ ap (λ b. logged l.map f ++ record { address = b; word = x3.fram (p + 2) } ∷ []) first_there
          ∙ ap (λ w. logged l.map f ++ record { address = a; word = w } ∷ []) second_there

      -- with the entry put back too, all is as without it
      undone3 : undone (logged l.map x3.fram) x3.fram ≡ put (undone (logged l.map x2.fram) x2.fram) (word_place l.map ListLength) ((n + 1) % 0x10000)
      undone3 =
          let es = logged l.map x2.fram in
          let c = word_place l.map ListLength in
          let w = (n + 1) % 0x10000 in
          ap (λ z. undone z x3.fram) (entries3 ∙ ap (λ z. z ++ entry ∷ []) (sym entries2)) ∙ undone_last es entry x3.fram
          ∙ ap (λ w. undone es (put x3.fram a w)) (sym word_there) ∙ ap (undone es) (put_again x3.fram a)
          ∙ undone_beside es x2.fram c w (λ h. let is = u2.shared c h in omega (arith, apart, is))

      u3 : UndoneAt l v s x3
      u3 =
          let e = one_more in
          let small : (n + 1) % 0x10000 < 0x10000 = omega arith in
          record {
            words = put_words x2.fram (word_place l.map ListLength) ((n + 1) % 0x10000) u2.words small;
            within = omega (arith, e, free);
            shared = λ b h. ⊎_elim {C = IsSharedWord l b} (λ k. u.shared b k) (λ q. subst (IsSharedWord l) (sym q) sh)
                (logged_last (logged l.map f) entry b (subst (λ z. IsLogged z b) entries3 h));
            behind = subst (λ g. UndecidedAt l v s (record x { fram = g })) (sym undone3)
                (scratch_undecided (restored l x2) (word_place l.map ListLength) ((n + 1) % 0x10000) small length_is u2.behind);
          }

      pub logs : Logs a x
      logs = record { through = (u, (u1, (u2, u3))); entries = entries3; count = one_more }

      -- what it leaves of redo's words, from an undecided world of redo
      pub logs_beside : UndecidedAt l v s x → UndecidedAt l v s x3
      logs_beside stands =
          scratch_undecided x2 (word_place l.map ListLength) ((n + 1) % 0x10000) (omega arith) length_is
          (scratch_undecided x1 (p + 2) (f a) (u.words a) second_is (scratch_undecided x p a (omega (arith, apart, sh)) first_is stands))

      -- and any word outside the list and CLN
      pub logs_leave : (b : ℕ) → (b ≡ word_place l.map ListLength → ⊥) → IsOutOf l.map.list.address (6 * l.map.entries) b → x3.fram b ≡ f b
      logs_leave b other out =
          let lt = few in
          let from = l.map.list.address in
          there b other
          ∙ put_other x1.fram (p + 2) (f a) b (λ q. out_of from (6 * l.map.entries) b (p + 2) out (omega arith) (omega (arith, lt)) (sym q))
          ∙ put_other f p a b (λ q. out_of from (6 * l.map.entries) b p out (omega arith) (omega (arith, lt)) (sym q))
