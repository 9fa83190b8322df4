-- An attempt's start keeps a world undecided, and leaves an attempt that has started.
use Rattle.stands_for.proofs.Names.{◌≡◌, ℕ, zero, suc, ◌+◌, ◌*◌, ◌<◌, ◌≤◌, List, [], ◌∷◌, ◌++◌, refl, sym, ap, ◌∙◌, subst, ⊎_elim, inl, inr, arith, ◌==◌, ◌%◌}
use Rattle.stands_for.proofs.Names.{Bool, true, false, cases_eq, Effect, Store, Take, Outside, World, put, world_after_one, world_after, fram_after}
use Rattle.stands_for.proofs.Names.{inputs_taken, no_inputs, EachStore, none_taken_through, world_after-append, each_store-append, put_same, put_other}
use Rattle.stands_for.proofs.Names.{CopyPair}
use Rattle.stands_for.proofs.Names.{is_at_end, clearing_if, cleared, counting_effects, opening_effects, copied_in, start_effects, HoldsThroughout, IsElsewhere}
use Rattle.stands_for.proofs.Names.{world_fram, holds-append, ProgramPlaces, StateView, IsSharedWord, IsAmong, ArePrivate, VersionsWithin, UndecidedAt}
use Rattle.stands_for.proofs.Names.{StartedAt, IsStartStore, StartContract, MemoryMap, word_place, CurrentTask, Gate, ListLength, EmitCount, Base, Version}
use Rattle.stands_for.proofs.Names.{AreApart, where_events, where_stores, where_takes, count_place, answer_place, answer_word, words_stored, answers_at}
use Rattle.stands_for.proofs.Names.{if◌then◌else◌, Option, Some, None, ne_eqb}
use Rattle.std.proofs.lemmas.Bool.Decides.{nat_tests}
use Rattle.memory_map.specs.Places.{end_of}
use Rattle.stands_for.proofs.Keeps.{put_either, put_words}

-- a weaker fact of each store
pub each_weaker : (P Q : ℕ → ℕ → Type 0) → ((a w : ℕ) → P a w → Q a w) → (es : List Effect) → EachStore P es → EachStore Q es
each_weaker P Q h [] k = tt
each_weaker P Q h (Store a w ∷ es) k = (h a w k.0, each_weaker P Q h es k.1)
each_weaker P Q h (Take w ∷ es) k = (tt, each_weaker P Q h es k.1)
each_weaker P Q h (Outside o ∷ es) k = (tt, each_weaker P Q h es k.1)

-- stores elsewhere store no word there
pub none_stored : (address : ℕ) (es : List Effect) → EachStore (IsElsewhere address) es → words_stored address es ≡ []
none_stored address [] h = refl
none_stored address (Store a w ∷ es) h =
    ap (λ b. if b then w ∷ words_stored address es else words_stored address es) (ne_eqb a address h.0) ∙ none_stored address es h.1
none_stored address (Take w ∷ es) h = none_stored address es h.1
none_stored address (Outside o ∷ es) h = none_stored address es h.1

-- so no answer, where they aren't to ANS
pub none_answered : (m : MemoryMap) (es : List Effect) → EachStore (IsElsewhere answer_place) es → answers_at (answer_word m) es ≡ []
none_answered m es h = by m.runtime.events
  where
    by : (events : Bool) → answers_at (if events then Some answer_place else None) es ≡ []
    by true = none_stored answer_place es h
    by false = refl

-- stores elsewhere leave a word
pub elsewhere_same : (address : ℕ) (es : List Effect) (f : ℕ → ℕ) → EachStore (IsElsewhere address) es → fram_after es f address ≡ f address
elsewhere_same address [] f h = refl
elsewhere_same address (Store a w ∷ es) f h = elsewhere_same address es (put f a w) h.1 ∙ put_other f a w address (λ e. h.0 (sym e))
elsewhere_same address (Take w ∷ es) f h = elsewhere_same address es f h.1
elsewhere_same address (Outside o ∷ es) f h = elsewhere_same address es f h.1

cleared_takes : (n p : ℕ) → inputs_taken (cleared n p) ≡ no_inputs
cleared_takes zero p = refl
cleared_takes (suc n) p = cleared_takes n (p + 2)

clearing_takes : (m : MemoryMap) (b : Bool) → inputs_taken (clearing_if m b) ≡ no_inputs
clearing_takes m true =
    let c = cleared m.versions.words m.versions.address in
    none_taken_through c (Store (word_place m Version) 0 ∷ []) (cleared_takes m.versions.words m.versions.address) refl
clearing_takes m false = refl

copied_in_takes : (ps : List CopyPair) (f : ℕ → ℕ) → inputs_taken (copied_in ps f) ≡ no_inputs
copied_in_takes [] f = refl
copied_in_takes (p ∷ ps) f = copied_in_takes ps (put f p.copy (f p.home))

-- a word that isn't the end is below it
below_end : (n : ℕ) → n < 0x10000 → (n == 0xFFFF) ≡ false → n < 0xFFFF
below_end n l e = grind (arith, nat_tests, l, e)

module _ {St : Type 0} (l : ProgramPlaces) (apart : AreApart l.map) (v : StateView St) where
  module _ (s : St) where
    -- an address of none of the words that an undecided world speaks of, but for VER and the version words
    record IsFree (a : ℕ) : Type 0 where
      shared : IsSharedWord l a → ⊥
      current : a ≡ word_place l.map CurrentTask → ⊥
      gate : a ≡ word_place l.map Gate → ⊥
      base : a ≡ word_place l.map Base → ⊥

    -- a store there
    store_keeps : (x : World) (a w : ℕ) → w < 0x10000 → IsFree a → VersionsWithin l (put x.fram a w) → UndecidedAt l v s x
        → UndecidedAt l v s (world_after_one (Store a w) x)
    store_keeps x a w small free versions u =
        record {
          is_open = record {
            is_state = u.is_open.is_state;
            is_task = u.is_open.is_task;
            words = put_words x.fram a w u.is_open.words small;
            current_task = put_other x.fram a w (word_place l.map CurrentTask) (λ q. free.current (sym q)) ∙ u.is_open.current_task;
            gate = put_other x.fram a w (word_place l.map Gate) (λ q. free.gate (sym q)) ∙ u.is_open.gate;
            accepted = u.is_open.accepted;
            base = put_other x.fram a w (word_place l.map Base) (λ q. free.base (sym q)) ∙ u.is_open.base;
            versions = versions;
          };
          shared = λ y h. ⊎_elim (λ f. inl f) (λ e. inr (put_other x.fram a w y (λ q. free.shared (subst (IsSharedWord l) q h)) ∙ e)) (u.shared y h);
        }

    -- a store elsewhere
    scratch : (x : World) (a w : ℕ) → w < 0x10000 → IsFree a → (a ≡ word_place l.map Version → ⊥)
        → ((i : ℕ) → i < l.map.versions.words → a ≡ l.map.versions.address + 2 * i → ⊥) → UndecidedAt l v s x
        → UndecidedAt l v s (world_after_one (Store a w) x)
    scratch x a w small free ver vs u =
        store_keeps x a w small free
        (λ i h. let k = u.is_open.versions i h in let e = put_other x.fram a w (l.map.versions.address + 2 * i)
        (λ q. vs i h (sym q)) in let f = put_other x.fram a w (word_place l.map Version) (λ q. ver (sym q)) in omega (arith, e, f, k)) u

    -- the first j version words are 0
    abbrev AreZero : ℕ → World → Type 0
    AreZero j x = (i : ℕ) → i < j → x.fram (l.map.versions.address + 2 * i) ≡ 0

    clear_through : (n j : ℕ) (x : World) → j + n ≡ l.map.versions.words → UndecidedAt l v s x → AreZero j x →
        HoldsThroughout (UndecidedAt l v s) (cleared n (l.map.versions.address + 2 * j)) x
        × UndecidedAt l v s (world_after (cleared n (l.map.versions.address + 2 * j)) x)
        × AreZero l.map.versions.words (world_after (cleared n (l.map.versions.address + 2 * j)) x)
    clear_through zero j x e u z = (u, u, λ i h. z i (omega (arith, e, h)))
    clear_through (suc n) j x e u z =
        let a = l.map.versions.address + 2 * j in
        let y = world_after_one (Store a 0) x in
        let ver : put x.fram a 0 (word_place l.map Version) ≡ x.fram (word_place l.map Version) = put_other x.fram a 0 (word_place l.map Version)
        (λ q. omega (arith, apart, q)) in
        let u2 : UndecidedAt l v s y =
        store_keeps x a 0 (omega arith)
        (record {
          shared = λ h. omega (arith, apart, h, e);
          current = λ q. omega (arith, apart, q);
          gate = λ q. omega (arith, apart, q);
          base = λ q. omega (arith, apart, q);
        })
        (λ i h. ⊎_elim {C = put x.fram a 0 (l.map.versions.address + 2 * i) ≤ put x.fram a 0 (word_place l.map Version)}
        (λ p. let p1 = p.1 in omega (arith, p1))
        (λ p. let p1 = p.1 in let k = u.is_open.versions i h in omega (arith, p1, ver, k)) (put_either x.fram a 0 (l.map.versions.address + 2 * i))) u in
        let z2 : AreZero (suc j) y = λ i h. ⊎_elim {C = put x.fram a 0 (l.map.versions.address + 2 * i) ≡ 0} (λ p. p.1)
        (λ p. p.1 ∙ z i (let ne = p.0 in ⊎_elim {C = i < j} (λ q. absurd (ne (ap (λ k. l.map.versions.address + 2 * k) q))) (λ q. omega (arith, h, q))
        (cases_eq i j))) (put_either x.fram a 0 (l.map.versions.address + 2 * i)) in
        let n2 : l.map.versions.address + 2 * suc j ≡ l.map.versions.address + 2 * j + 2 = omega arith in
        let r = clear_through n (suc j) y (omega (arith, e)) u2 z2 in
        let r2 = subst (λ p. HoldsThroughout (UndecidedAt l v s) (cleared n p) y × UndecidedAt l v s (world_after (cleared n p) y)
        × AreZero l.map.versions.words (world_after (cleared n p) y)) n2 r in
        ((u, r2.0), r2.1, r2.2)

    -- what VER, CLN and EN say once the attempt has its number
    record Opened (x : World) : Type 0 where
      undecided : UndecidedAt l v s x
      list_length : x.fram (word_place l.map ListLength) ≡ 0
      emit_count : x.fram (word_place l.map EmitCount) ≡ 0
      versions : (i : ℕ) → i < l.map.versions.words → x.fram (l.map.versions.address + 2 * i) < x.fram (word_place l.map Version)

    -- a store elsewhere, behind all version words, leaves an attempt that has its number
    opened_still : (x : World) (a w : ℕ) → w < 0x10000 → IsFree a → end_of l.map.versions ≤ a → Opened x → Opened (world_after_one (Store a w) x)
    opened_still x a w small free behind o =
        let m = l.map in
        record {
          undecided = scratch x a w small free (λ q. omega (arith, apart, q, behind)) (λ i h q. omega (arith, apart, q, h, behind)) o.undecided;
          list_length = put_other x.fram a w (word_place m ListLength) (λ q. omega (arith, apart, q, behind)) ∙ o.list_length;
          emit_count = put_other x.fram a w (word_place m EmitCount) (λ q. omega (arith, apart, q, behind)) ∙ o.emit_count;
          versions = λ i h. let k = o.versions i h in
              let e = put_other x.fram a w (m.versions.address + 2 * i) (λ q. omega (arith, apart, q, h, behind)) in
              let f = put_other x.fram a w (word_place m Version) (λ q. omega (arith, apart, q, behind)) in
              omega (arith, k, e, f);
        }

    -- so does EC := 0, where there are events
    count_through : (events : Bool) (x : World) → Opened x
        → let es = where_events events (Store count_place 0 ∷ []) in HoldsThroughout (UndecidedAt l v s) es x × Opened (world_after es x)
    count_through true x o =
        let o2 = opened_still x count_place 0 (omega arith)
        (record {
          shared = λ h. omega (arith, apart, h);
          current = λ q. omega (arith, apart, q);
          gate = λ q. omega (arith, apart, q);
          base = λ q. omega (arith, apart, q);
        })
        (omega (arith, apart)) o in
        ((o.undecided, o2.undecided), o2)
    count_through false x o = (o.undecided, o)

    -- VER := 0, once the version words are cleared
    reset_keeps : (x : World) → UndecidedAt l v s x → AreZero l.map.versions.words x
        → UndecidedAt l v s (world_after_one (Store (word_place l.map Version) 0) x)
    reset_keeps x u z =
        let m = l.map in
        store_keeps x (word_place m Version) 0 (omega arith)
        (record {
          shared = λ h. omega (arith, apart, h);
          current = λ q. omega (arith, apart, q);
          gate = λ q. omega (arith, apart, q);
          base = λ q. omega (arith, apart, q);
        })
        (λ i h. let k = put_other x.fram (word_place m Version) 0 (m.versions.address + 2 * i) (λ q. omega (arith, apart, q)) in
        let e = z i h in omega (arith, k, e)) u

    -- a number is left for the attempt
    abbrev HasNumber : World → Type 0
    HasNumber x = x.fram (word_place l.map Version) < 0xFFFF

    -- the clearing, where it comes: from any of its stores on a cut attempt finds VER at its end again, until all version words are 0
    cleared_through : (b : Bool) (x : World) → is_at_end l.map x.fram ≡ b → UndecidedAt l v s x
        → HoldsThroughout (UndecidedAt l v s) (clearing_if l.map b) x × UndecidedAt l v s (world_after (clearing_if l.map b) x)
        × HasNumber (world_after (clearing_if l.map b) x)
    cleared_through true x e u =
        let m = l.map in
        let c = cleared m.versions.words m.versions.address in
        let last : List Effect = Store (word_place m Version) 0 ∷ [] in
        let from : m.versions.address + 2 * 0 ≡ m.versions.address = omega arith in
        let a0 = clear_through m.versions.words 0 x (omega arith) u (λ i h. absurd (omega (arith, h))) in
        let a = subst (λ p. HoldsThroughout (UndecidedAt l v s) (cleared m.versions.words p) x
        × UndecidedAt l v s (world_after (cleared m.versions.words p) x) × AreZero m.versions.words (world_after (cleared m.versions.words p) x)) from a0 in
        let y = world_after c x in
        let k = reset_keeps y a.1 a.2 in
        let zero : (world_after last y).fram (word_place m Version) ≡ 0 = put_same y.fram (word_place m Version) 0 in
        let same : world_after (c ++ last) x ≡ world_after last y = world_after-append c last x in
        (holds-append (UndecidedAt l v s) c last x a.0 (a.1, k), subst (UndecidedAt l v s) (sym same) k, subst HasNumber (sym same) (omega (arith, zero)))
    cleared_through false x e u = (u, u, below_end (x.fram (word_place l.map Version)) (u.is_open.words (word_place l.map Version)) e)

    -- VER goes up by one, above all version words, and what the attempt counts is 0
    counted_through : (x : World) → UndecidedAt l v s x → HasNumber x
        → HoldsThroughout (UndecidedAt l v s) (counting_effects l.map x.fram) x × Opened (world_after (counting_effects l.map x.fram) x)
    counted_through x u number =
        let m = l.map in
        let n = x.fram (word_place m Version) in
        let w = (n + 1) % 0x10000 in
        let x1 = world_after_one (Store (word_place m Version) w) x in let x2 = world_after_one (Store (word_place m ListLength) 0) x1 in
        let x3 = world_after_one (Store (word_place m EmitCount) 0) x2 in
        let stored : x1.fram (word_place m Version) ≡ w = put_same x.fram (word_place m Version) w in
        let v1 : x1.fram (word_place m Version) ≡ n + 1 = omega (arith, stored, number) in
        let z1 : (i : ℕ) → i < m.versions.words → x1.fram (m.versions.address + 2 * i) ≤ n =
        λ i h. let same = put_other x.fram (word_place m Version) w (m.versions.address + 2 * i) (λ q. omega (arith, apart, q)) in
        let most = u.is_open.versions i h in omega (arith, same, most) in
        let u1 = store_keeps x (word_place m Version) w (omega arith)
        (record {
          shared = λ h. omega (arith, apart, h);
          current = λ q. omega (arith, apart, q);
          gate = λ q. omega (arith, apart, q);
          base = λ q. omega (arith, apart, q);
        })
        (λ i h. let k = z1 i h in omega (arith, k, v1)) u in
        let u2 = scratch x1 (word_place m ListLength) 0 (omega arith)
        (record {
          shared = λ h. omega (arith, apart, h);
          current = λ q. omega (arith, apart, q);
          gate = λ q. omega (arith, apart, q);
          base = λ q. omega (arith, apart, q);
        })
        (λ q. omega (arith, apart, q)) (λ i h q. omega (arith, apart, q)) u1 in
        let u3 = scratch x2 (word_place m EmitCount) 0 (omega arith)
        (record {
          shared = λ h. omega (arith, apart, h);
          current = λ q. omega (arith, apart, q);
          gate = λ q. omega (arith, apart, q);
          base = λ q. omega (arith, apart, q);
        })
        (λ q. omega (arith, apart, q)) (λ i h q. omega (arith, apart, q)) u2 in
        let same : (a : ℕ) → (a ≡ word_place m ListLength → ⊥) → (a ≡ word_place m EmitCount → ⊥) → x3.fram a ≡ x1.fram a =
        λ a p q. put_other x2.fram (word_place m EmitCount) 0 a q
        ∙ put_other x1.fram (word_place m ListLength) 0 a p in
        let v3 : x3.fram (word_place m Version) ≡ n + 1 = same (word_place m Version) (λ q. omega (arith, apart, q)) (λ q. omega (arith, apart, q)) ∙ v1 in
        let counted = count_through m.runtime.events x3 (record {
          undecided = u3;
          list_length = put_other x2.fram (word_place m EmitCount) 0 (word_place m ListLength) (λ q. omega (arith, apart, q))
              ∙ put_same x1.fram (word_place m ListLength) 0;
          emit_count = put_same x2.fram (word_place m EmitCount) 0;
          versions = λ i h. let k = same (m.versions.address + 2 * i) (λ q. omega (arith, apart, q)) (λ q. omega (arith, apart, q)) in
              let most = z1 i h in omega (arith, k, most, v3);
        }) in
        ((u, (u1, (u2, counted.0))), counted.1)

    -- the opening
    record Opens (x : World) : Type 0 where
      through : HoldsThroughout (UndecidedAt l v s) (opening_effects l.map x.fram) x
      opened : Opened (world_after (opening_effects l.map x.fram) x)

    opens : (x : World) → UndecidedAt l v s x → Opens x
    opens x u =
        let b = is_at_end l.map x.fram in
        let c = clearing_if l.map b in
        let y = world_after c x in
        let there : y.fram ≡ fram_after c x.fram = world_fram c x in
        let a = cleared_through b x refl u in
        let k = counted_through y a.1 a.2 in
        let more = counting_effects l.map (fram_after c x.fram) in
        let k2 = subst (λ f. HoldsThroughout (UndecidedAt l v s) (counting_effects l.map f) y × Opened (world_after (counting_effects l.map f) y)) there k in
        record {
          through = holds-append (UndecidedAt l v s) c more x a.0 k2.0;
          opened = subst Opened (sym (world_after-append c more x)) k2.1;
        }

    -- a copy that no later one overwrites
    copied_through : (ps : List CopyPair) (x : World) → ArePrivate l (v.task s) ps → Opened x
        → HoldsThroughout (UndecidedAt l v s) (copied_in ps x.fram) x × Opened (world_after (copied_in ps x.fram) x)
        × ((p : CopyPair) → IsAmong ps p → (world_after (copied_in ps x.fram) x).fram p.copy ≡ v.word s p.home)
        × ((a : ℕ) → ((p : CopyPair) → IsAmong ps p → a ≡ p.copy → ⊥) → (world_after (copied_in ps x.fram) x).fram a ≡ x.fram a)
    copied_through [] x laid o = (o.undecided, o, (λ p h. elim h [ ]), λ a n. refl)
    copied_through (p ∷ ps) x laid o =
        let m = l.map in
        let a = p.copy in let w = x.fram p.home in
        let home = laid.0 in let fixed = laid.1 in let place = laid.2 in
        let y = world_after_one (Store a w) x in
        let value : w ≡ v.word s p.home = ⊎_elim {C = w ≡ v.word s p.home} (λ f. absurd (cc (f, fixed))) (λ e. e) (o.undecided.shared p.home home) in
        let o2 : Opened y = opened_still x a w (o.undecided.is_open.words p.home)
        (record {
          shared = λ h. omega (arith, apart, h, place);
          current = λ q. omega (arith, apart, q, place);
          gate = λ q. omega (arith, apart, q, place);
          base = λ q. omega (arith, apart, q, place);
        })
        (omega (arith, apart, place)) o in
        let r = copied_through ps y laid.4 o2 in (
          (o.undecided, r.0),
          r.1,
          (λ q h. ⊎_elim {C = (world_after (copied_in ps y.fram) y).fram q.copy ≡ v.word s q.home}
              (λ e. ap (λ z. (world_after (copied_in ps y.fram) y).fram z.copy) e ∙ r.3 a (λ z hz. laid.3 z hz) ∙ put_same x.fram a w ∙ value
              ∙ ap (λ z. v.word s z.home) (sym e)) (λ k. r.2 q k) h),
          λ b n. r.3 b (λ z hz. n z (inr hz)) ∙ put_other x.fram a w b (n p (inl refl)),
        )

    -- the start with these private scalars
    abbrev start_with : List CopyPair → (ℕ → ℕ) → List Effect
    start_with ps f = opening_effects l.map f ++ copied_in ps (fram_after (opening_effects l.map f) f)

    record Starts (ps : List CopyPair) (x : World) : Type 0 where
      through : HoldsThroughout (UndecidedAt l v s) (start_with ps x.fram) x
      started : StartedAt l v s ps (world_after (start_with ps x.fram) x)

    starts : (ps : List CopyPair) (x : World) → ArePrivate l (v.task s) ps → UndecidedAt l v s x → Starts ps x
    starts ps x laid u =
        let m = l.map in
        let op = opening_effects m x.fram in
        let o = opens x u in
        let y = world_after op x in
        let there : y.fram ≡ fram_after op x.fram = world_fram op x in
        let copies = copied_in ps (fram_after op x.fram) in
        let d = copied_through ps y laid o.opened in
        let all : world_after (copied_in ps y.fram) y ≡ world_after (start_with ps x.fram) x =
        ap (λ f. world_after (copied_in ps f) y) there ∙ sym (world_after-append op copies x) in
        record {
          through = holds-append (UndecidedAt l v s) op copies x o.through (subst (λ f. HoldsThroughout (UndecidedAt l v s) (copied_in ps f) y) there d.0);
          started = subst (StartedAt l v s ps) all (record {
            undecided = d.1.undecided;
            list_length = d.1.list_length;
            emit_count = d.1.emit_count;
            versions = d.1.versions;
            copies = d.2;
          });
        }

  -- where a start stores: 0 to the version words, to VER, 0 to CLN, EN and EC, and to copies
  cleared_so : (n j : ℕ) → j + n ≡ l.map.versions.words → EachStore (IsStartStore l) (cleared n (l.map.versions.address + 2 * j))
  cleared_so zero j e = tt
  cleared_so (suc n) j e =
      let next : l.map.versions.address + 2 * suc j ≡ l.map.versions.address + 2 * j + 2 = omega arith in (
        record {
          from = omega (arith, apart);
          below = inl (omega (arith, apart, e));
          answer = λ q. omega (arith, apart, e, q);
          list_length = λ q. refl;
          emit_count = λ q. refl;
        },
        subst (λ p. EachStore (IsStartStore l) (cleared n p)) next (cleared_so n (suc j) (omega (arith, e))),
      )

  version_so : (w : ℕ) → IsStartStore l (word_place l.map Version) w
  version_so w = record {
    from = omega (arith, apart);
    below = inl (omega (arith, apart));
    answer = λ e. omega (arith, apart, e);
    list_length = λ e. omega (arith, e);
    emit_count = λ e. omega (arith, e);
  }

  copied_in_so : (t : ℕ) (ps : List CopyPair) (f : ℕ → ℕ) → ArePrivate l t ps → EachStore (IsStartStore l) (copied_in ps f)
  copied_in_so t [] f h = tt
  copied_in_so t (p ∷ ps) f h =
      let c = h.2 in (
        record {
          from = omega (arith, apart, c);
          below = inl (omega (arith, c));
          answer = λ e. omega (arith, apart, c, e);
          list_length = λ e. omega (arith, apart, c, e);
          emit_count = λ e. omega (arith, apart, c, e);
        },
        copied_in_so t ps (put f p.copy (f p.home)) h.4,
      )

  clearing_so : (b : Bool) → EachStore (IsStartStore l) (clearing_if l.map b)
  clearing_so true =
      let first : l.map.versions.address + 2 * 0 ≡ l.map.versions.address = omega arith in
      each_store-append (IsStartStore l) (cleared l.map.versions.words l.map.versions.address) (Store (word_place l.map Version) 0 ∷ [])
      (subst (λ p. EachStore (IsStartStore l) (cleared l.map.versions.words p)) first (cleared_so l.map.versions.words 0 (omega arith))) (version_so 0, tt)
  clearing_so false = tt

  -- 0 to a word of the runtime
  runtime_so : (a : ℕ) → word_place l.map Gate < a → a < end_of l.map.copies → IsStartStore l a 0
  runtime_so a from below = record {
    from = from;
    below = inl below;
    answer = λ e. omega (arith, apart, below, e);
    list_length = λ e. refl;
    emit_count = λ e. refl;
  }

  count_so : l.map.runtime.events ≡ true → IsStartStore l count_place 0
  count_so on = record {
    from = omega (arith, apart);
    below = inr (record { events = on; from = omega arith; below = omega arith });
    answer = λ e. omega (arith, e);
    list_length = λ e. refl;
    emit_count = λ e. refl;
  }

  opening_so : (f : ℕ → ℕ) → EachStore (IsStartStore l) (opening_effects l.map f)
  opening_so f =
      let b = is_at_end l.map f in
      let g = fram_after (clearing_if l.map b) f in
      each_store-append (IsStartStore l) (clearing_if l.map b) (counting_effects l.map g) (clearing_so b) (
        version_so ((g (word_place l.map Version) + 1) % 0x10000),
        (
          runtime_so (word_place l.map ListLength) (omega (arith, apart)) (omega (arith, apart)),
          (
            runtime_so (word_place l.map EmitCount) (omega (arith, apart)) (omega (arith, apart)),
            where_stores (IsStartStore l) l.map.runtime.events count_place 0 count_so,
          ),
        ),
      )

  pub start_elsewhere : (es : List Effect) → EachStore (IsStartStore l) es → EachStore (IsElsewhere (word_place l.map CurrentTask)) es
  start_elsewhere es h =
      each_weaker (IsStartStore l) (IsElsewhere (word_place l.map CurrentTask)) (λ a w k e. let from = k.from in omega (arith, from, e)) es h

  pub start_off_gate : (es : List Effect) → EachStore (IsStartStore l) es → EachStore (IsElsewhere (word_place l.map Gate)) es
  start_off_gate es h = each_weaker (IsStartStore l) (IsElsewhere (word_place l.map Gate)) (λ a w k e. let from = k.from in omega (arith, from, e)) es h

  pub start_answers_none : (es : List Effect) → EachStore (IsStartStore l) es → answers_at (answer_word l.map) es ≡ []
  start_answers_none es h =
      none_answered l.map es (each_weaker (IsStartStore l) (IsElsewhere answer_place) (λ a w k. k.answer) es h)

  module _ (privates : ℕ → List CopyPair) (laid : (t : ℕ) → ArePrivate l t (privates t)) where
    start_stores : (f : ℕ → ℕ) → EachStore (IsStartStore l) (start_effects l.map privates f)
    start_stores f =
        let task = f (word_place l.map CurrentTask) in
        each_store-append (IsStartStore l) (opening_effects l.map f) _ (opening_so f)
        (copied_in_so task (privates task) (fram_after (opening_effects l.map f) f) (laid task))

    start_takes : (f : ℕ → ℕ) → inputs_taken (start_effects l.map privates f) ≡ no_inputs
    start_takes f =
        let op = opening_effects l.map f in
        let rest = copied_in (privates (f (word_place l.map CurrentTask))) (fram_after op f) in
        let b = is_at_end l.map f in
        let c = clearing_if l.map b in
        let more = counting_effects l.map (fram_after c f) in
        none_taken_through op rest (none_taken_through c more (clearing_takes l.map b) (where_takes l.map.runtime.events count_place 0))
        (copied_in_takes (privates (f (word_place l.map CurrentTask))) (fram_after op f))

    -- the start of the state's task is the one that CUR names
    there : (s : St) (x : World) → UndecidedAt l v s x → Starts s (privates (x.fram (word_place l.map CurrentTask))) x
    there s x u = starts s (privates (x.fram (word_place l.map CurrentTask))) x
        (subst (λ t. ArePrivate l t (privates (x.fram (word_place l.map CurrentTask)))) u.is_open.current_task (laid (x.fram (word_place l.map CurrentTask)))) u

    pub numbered_start : StartContract l v privates (start_effects l.map privates)
    numbered_start = record {
      takes_none = start_takes;
      stores = start_stores;
      keeps_task = λ f. elsewhere_same (word_place l.map CurrentTask) (start_effects l.map privates f) f (start_elsewhere _ (start_stores f));
      undecided = λ s x u. (there s x u).through;
      started = λ s x u. subst (λ t. StartedAt l v s (privates t)
          (world_after (start_effects l.map privates x.fram) x)) u.is_open.current_task (there s x u).started;
    }
