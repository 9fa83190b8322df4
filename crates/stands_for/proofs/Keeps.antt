-- Each effect of a commit keeps a decided world decided.
use Rattle.stands_for.proofs.Names.{◌≡◌, ℕ, suc, ◌+◌, ◌*◌, ◌%◌, ◌<◌, ◌≤◌, List, [], ◌∷◌, ◌++◌, refl, sym, ap, ap₂, ◌∙◌, subst, ⊎_elim, inl, inr, ◌⊎◌, arith}
use Rattle.stands_for.proofs.Names.{ne_eqb, eq-eqb, cond, length, take, length-append, length-take-le, append_assoc, take-suc, cases_eq, slice_index, Store}
use Rattle.stands_for.proofs.Names.{Outside, Offered, World, put, world_after_one, put_same, put_other, CopyPair, entry_bytes, entries_from, entries_alike}
use Rattle.stands_for.proofs.Names.{ProgramPlaces, StateView, IsSharedWord, IsAmong, HaveRoom, HoldsWords, AcceptedFrom, SendsAndCloses, CopiesHome, word_place}
use Rattle.stands_for.proofs.Names.{tail_place, sent_place}
use Rattle.stands_for.proofs.Names.{CurrentTask, NextTask, Gate, ListLength, EmitCount, Base, SentBase, Version, AreApart, listed, IsCopyWord, EntriesHaveWords}
use Rattle.memory_map.specs.Places.{end_of}
use Rattle.stands_for.proofs.Sends.{next_base}

-- what was put, or what was there
pub put_either : (f : ℕ → ℕ) (a w x : ℕ) → ((x ≡ a) × (put f a w x ≡ w)) ⊎ ((x ≡ a → ⊥) × (put f a w x ≡ f x))
put_either f a w x =
    ⊎_elim (λ e. inl (e, ap (λ y. put f a w y) e ∙ put_same f a w)) (λ ne. inr (ne, put_other f a w x ne)) (cases_eq x a)

-- words stay words
pub put_words : (f : ℕ → ℕ) (a w : ℕ) → HoldsWords f → w < 0x10000 → HoldsWords (put f a w)
put_words f a w h k b =
    ⊎_elim {C = put f a w b < 0x10000} (λ q. subst (λ z. z < 0x10000) (sym q.1) k) (λ q. subst (λ z. z < 0x10000) (sym q.1) (h b)) (put_either f a w b)

pub same_number : (a j i : ℕ) → j ≤ 256 → i ≤ 256 → (a + i) % 0x10000 ≡ (a + j) % 0x10000 → i ≡ j
same_number a j i hj hi e = omega arith

-- a change of FRAM that leaves all words but shared ones, CUR, BASE and TAIL
abbrev pub LeavesRuntime : ProgramPlaces → World → World → Type 0
LeavesRuntime l x y = (a : ℕ) → (IsSharedWord l a → ⊥) → (a ≡ tail_place → ⊥) → (a ≡ word_place l.map CurrentTask → ⊥) → (a ≡ word_place l.map Base → ⊥)
    → y.fram a ≡ x.fram a

-- What a commit reads of FRAM is the same in two: the runtime's words but CUR and BASE, SE, the list, the words to send, copies and version words
pub record ReadsAlike (l : ProgramPlaces) (f g : ℕ → ℕ) : Type 0 where
  pub gate : g (word_place l.map Gate) ≡ f (word_place l.map Gate)
  pub next_task : g (word_place l.map NextTask) ≡ f (word_place l.map NextTask)
  pub list_length : g (word_place l.map ListLength) ≡ f (word_place l.map ListLength)
  pub emit_count : g (word_place l.map EmitCount) ≡ f (word_place l.map EmitCount)
  pub sent_base : g (word_place l.map SentBase) ≡ f (word_place l.map SentBase)
  pub sent_tail : g sent_place ≡ f sent_place
  pub version : g (word_place l.map Version) ≡ f (word_place l.map Version)
  pub entries : (a : ℕ) → l.map.list.address ≤ a → a < l.map.list.address + entry_bytes * l.map.entries → g a ≡ f a
  pub emits : (a : ℕ) → l.map.emits.address ≤ a → a < end_of l.map.emits → g a ≡ f a
  pub copies : (a : ℕ) → IsCopyWord l a → g a ≡ f a
  pub versions : (i : ℕ) → i < l.map.versions.words → g (l.map.versions.address + 2 * i) ≡ f (l.map.versions.address + 2 * i)

pub reads_alike : (l : ProgramPlaces) (x y : World) → AreApart l.map → LeavesRuntime l x y → ReadsAlike l x.fram y.fram
reads_alike l x y apart same =
    let m = l.map in
    record {
      gate = same (word_place m Gate) (λ h. omega (arith, apart, h)) (λ e. omega (arith, apart, e)) (λ e. omega (arith, e)) (λ e. omega (arith, e));
      next_task = same (word_place m NextTask) (λ h. omega (arith, apart, h)) (λ e. omega (arith, apart, e)) (λ e. omega (arith, e)) (λ e. omega (arith, e));
      list_length = same (word_place m ListLength) (λ h. omega (arith, apart, h)) (λ e. omega (arith, apart, e)) (λ e. omega (arith, e))
          (λ e. omega (arith, e));
      emit_count = same (word_place m EmitCount) (λ h. omega (arith, apart, h)) (λ e. omega (arith, apart, e)) (λ e. omega (arith, e)) (λ e. omega (arith, e));
      sent_base = same (word_place m SentBase) (λ h. omega (arith, apart, h)) (λ e. omega (arith, apart, e)) (λ e. omega (arith, e)) (λ e. omega (arith, e));
      sent_tail = same sent_place (λ h. omega (arith, apart, h)) (λ e. omega (arith, e)) (λ e. omega (arith, apart, e)) (λ e. omega (arith, apart, e));
      version = same (word_place m Version) (λ h. omega (arith, apart, h)) (λ e. omega (arith, apart, e)) (λ e. omega (arith, e)) (λ e. omega (arith, e));
      entries = λ a lo hi. same a (λ h. omega (arith, apart, h, hi)) (λ e. omega (arith, apart, e, hi))
          (λ e. omega (arith, apart, e, lo)) (λ e. omega (arith, apart, e, lo));
      emits = λ a lo hi. same a (λ h. omega (arith, apart, h, hi)) (λ e. omega (arith, apart, e, hi))
          (λ e. omega (arith, apart, e, lo)) (λ e. omega (arith, apart, e, lo));
      copies = λ a c. same a (λ h. omega (arith, apart, h, c)) (λ e. omega (arith, apart, e, c))
          (λ e. omega (arith, apart, e, c)) (λ e. omega (arith, apart, e, c));
      versions = λ i h. same (m.versions.address + 2 * i) (λ s. omega (arith, apart, s, h)) (λ e. omega (arith, apart, e, h)) (λ e. omega (arith, apart, e))
          (λ e. omega (arith, apart, e));
    }

-- so is what the list names, and each of its entries has a word in both
pub listed_alike : (l : ProgramPlaces) (f g : ℕ → ℕ) → ReadsAlike l f g → f (word_place l.map ListLength) ≤ l.map.entries → listed l.map g ≡ listed l.map f
listed_alike l f g r few =
    ap (λ n. entries_from n l.map.list.address g) r.list_length
    ∙ entries_alike (f (word_place l.map ListLength)) l.map.list.address f g (λ a lo hi. r.entries a lo (omega (arith, hi, few)))

pub entries_stay : (l : ProgramPlaces) (f g : ℕ → ℕ) → ReadsAlike l f g → f (word_place l.map ListLength) ≤ l.map.entries → EntriesHaveWords l f
    → EntriesHaveWords l g
entries_stay l f g r few h i lt =
    let below : i < f (word_place l.map ListLength) = subst (λ n. i < n) r.list_length lt in
    subst (λ n. 0 < n) (sym (r.entries (l.map.list.address + entry_bytes * i + 4) (omega arith) (omega (arith, below, few)))) (h i below)

-- one that leaves all but CUR, BASE and TAIL
abbrev pub LeavesAll : ProgramPlaces → World → World → Type 0
LeavesAll l x y = (a : ℕ) → (a ≡ tail_place → ⊥) → (a ≡ word_place l.map CurrentTask → ⊥) → (a ≡ word_place l.map Base → ⊥) → y.fram a ≡ x.fram a

-- a transition from a state to the next one, with the words that it sends, where a program's places are
pub record Transition (St : Type 0) : Type 0 where
  pub places : ProgramPlaces
  pub apart : AreApart places.map
  pub room : HaveRoom places
  pub view : StateView St
  pub from : St
  pub to : St
  pub emits : List ℕ
  pub is_task : view.task from < places.tasks

module _ {St : Type 0} (t : Transition St) where
  open t use {places as l, apart, room, view as v, from as s, to as next, emits as es, is_task}

  abbrev pub Sends : ℕ → World → Type 0
  Sends k x = SendsAndCloses l v s next es k x

  -- the emitted words have room
  pub few_emits : (k : ℕ) (x : World) → Sends k x → length es ≤ l.map.emits.words
  few_emits k x d = let a = d.within_emits in let b = room.emits (v.task s) is_task in omega (arith, a, b)

  sums : {f g : ℕ → ℕ} → ReadsAlike l f g → next_base l.map f ≡ next_base l.map g
  sums r = ap₂ (λ a b. (a + b) % 0x10000) (sym r.sent_base) (sym r.emit_count)

  -- a change that sets CUR and BASE only to what the next state has, and leaves the runtime's other words, keeps what is to be sent
  pub keeps_sends : (k k' : ℕ) (x y : World) → HoldsWords y.fram → LeavesRuntime l x y
      → ((y.fram (word_place l.map CurrentTask) ≡ x.fram (word_place l.map CurrentTask)) ⊎ (y.fram (word_place l.map CurrentTask) ≡ v.task next))
      → ((y.fram (word_place l.map Base) ≡ x.fram (word_place l.map Base)) ⊎ (y.fram (word_place l.map Base) ≡ next_base l.map x.fram))
      → AcceptedFrom v s es k' y → Sends k x → Sends k' y
  keeps_sends k k' x y ws same curs bases so d =
      let r = reads_alike l x y apart same in
      let small_emits = few_emits k x d in
      record {
        is_state = d.is_state;
        next_is_state = d.next_is_state;
        is_task = d.is_task;
        next_is_task = d.next_is_task;
        words = ws;
        gate = r.gate ∙ d.gate;
        next_task = r.next_task ∙ d.next_task;
        current_task = ⊎_elim (λ e. ⊎_elim (λ o. inl (e ∙ o)) (λ o. inr (e ∙ o)) d.current_task) (λ e. inr e) curs;
        emitted = d.emitted;
        emit_count = r.emit_count ∙ d.emit_count;
        within_emits = d.within_emits;
        buffer = λ i h. r.emits (l.map.emits.address + 2 * i) (omega arith) (omega (arith, h, small_emits)) ∙ d.buffer i h;
        sent_base = r.sent_base ∙ d.sent_base;
        base = ⊎_elim (λ e. ⊎_elim (λ o. inl (e ∙ o ∙ sym r.sent_base)) (λ o. inr (e ∙ o ∙ sums r)) d.base) (λ e. inr (e ∙ sums r)) bases;
        accepted = so;
        versions = λ i h. let c = d.versions i h in let e = r.versions i h in let ver = r.version in omega (arith, c, e, ver);
      }

  -- the accepted words are those of a world with the same
  same_accepted : (k : ℕ) (x : World) (f : ℕ → ℕ) → Sends k x → AcceptedFrom v s es k (record { fram = f; accepted = x.accepted })
  same_accepted k x f d = record { count = d.accepted.count; at_least = d.accepted.at_least; at_most = d.accepted.at_most; is = d.accepted.is }

  cur_apart : IsSharedWord l (word_place l.map CurrentTask) → ⊥
  cur_apart h = omega (arith, apart, h)

  base_apart : IsSharedWord l (word_place l.map Base) → ⊥
  base_apart h = omega (arith, apart, h)

  not_shared : (a b : ℕ) → IsSharedWord l a → (IsSharedWord l b → ⊥) → b ≡ a → ⊥
  not_shared a b h n e = n (subst (IsSharedWord l) (sym e) h)

  -- a store to a shared word
  pub shared_sends : (k : ℕ) (x : World) (a w : ℕ) → IsSharedWord l a → w < 0x10000 → Sends k x → Sends k (world_after_one (Store a w) x)
  shared_sends k x a w h small d =
      let f = x.fram in
      keeps_sends k k x (world_after_one (Store a w) x) (put_words f a w d.words small)
      (λ b n t c e. put_other f a w b (not_shared a b h n))
      (inl (put_other f a w (word_place l.map CurrentTask) (not_shared a (word_place l.map CurrentTask) h cur_apart)))
      (inl (put_other f a w (word_place l.map Base) (not_shared a (word_place l.map Base) h base_apart)))
      (same_accepted k x (put f a w) d) d

  -- fewer words are surely accepted
  weaken_sends : (k k' : ℕ) (x : World) → k' ≤ k → Sends k x → Sends k' x
  weaken_sends k k' x h d =
      let least = d.accepted.at_least in
      keeps_sends k k' x x d.words (λ a n t c e. refl) (inl refl) (inl refl)
      (record { count = d.accepted.count; at_least = omega (arith, h, least); at_most = d.accepted.at_most; is = d.accepted.is }) d

  -- word i is accepted at the latest when it is sent
  accepted_sent : (i n w : ℕ) (x : World) → i < length es → n ≡ (length (v.emitted s) + i) % 0x10000 → w ≡ slice_index es i → Sends i x
      → AcceptedFrom v s es (suc i) (world_after_one (Outside (Offered n w)) x)
  accepted_sent i n w x h num ew d =
      let j = d.accepted.count in
      let so1 = d.accepted.at_least in let so2 = d.accepted.at_most in
      let most = few_emits i x d in let few256 = room.few_emits in
      let len : length x.accepted ≡ length (v.emitted s) + j = ap length d.accepted.is ∙ length-append (v.emitted s) (take j es)
      ∙ ap (λ y. length (v.emitted s) + y) (length-take-le j es so2) in
      ⊎_elim {C = AcceptedFrom v s es (suc i) (world_after_one (Outside (Offered n w)) x)}
      (λ e.
      let hit : n ≡ length x.accepted % 0x10000 = num ∙ ap (λ y. (length (v.emitted s) + y) % 0x10000) e ∙ ap (λ y. y % 0x10000) (sym len) in
      record {
        count = suc i;
        at_least = omega arith;
        at_most = h;
        is = ap (λ b. cond b (x.accepted ++ w ∷ []) x.accepted) (eq-eqb n (length x.accepted % 0x10000) hit)
            ∙ ap (λ y. y ++ w ∷ []) (d.accepted.is ∙ ap (λ y. v.emitted s ++ take y es) (sym e)) ∙ append_assoc (v.emitted s) (take i es) (w ∷ [])
            ∙ ap (λ y. v.emitted s ++ (take i es ++ y ∷ [])) ew ∙ ap (λ y. v.emitted s ++ y) (sym (take-suc es i 0 h));
      })
      (λ ne.
      let miss : n ≡ length x.accepted % 0x10000 → ⊥ = λ q. ne (same_number (length (v.emitted s)) j i (omega (arith, so2, most, few256))
      (omega (arith, h, most, few256)) (sym num ∙ q ∙ ap (λ y. y % 0x10000) len)) in
      record {
        count = j;
        at_least = ⊎_elim {C = suc i ≤ j} (λ z. absurd (ne z)) (λ z. omega (arith, so1, z)) (cases_eq i j);
        at_most = so2;
        is = ap (λ b. cond b (x.accepted ++ w ∷ []) x.accepted) (ne_eqb n (length x.accepted % 0x10000) miss) ∙ d.accepted.is;
      })
      (cases_eq i j)

  -- what else is said of a decided world, of words that stores to CUR, BASE and TAIL leave
  module _ (Also : World → Type 0) (bears : (k : ℕ) (x y : World) → Sends k x → LeavesAll l x y → Also x → Also y) where
    abbrev pub So : ℕ → World → Type 0
    So k x = Sends k x × Also x

    -- TAIL becomes any word
    pub tail_keeps : (k : ℕ) (x : World) (w : ℕ) → w < 0x10000 → So k x → So k (world_after_one (Store tail_place w) x)
    tail_keeps k x w small d =
        let f = x.fram in let a = tail_place in (
          keeps_sends k k x (world_after_one (Store a w) x) (put_words f a w d.0.words small) (λ b n t c e. put_other f a w b t)
              (inl (put_other f a w (word_place l.map CurrentTask) (λ e. omega (arith, apart, e))))
              (inl (put_other f a w (word_place l.map Base) (λ e. omega (arith, apart, e))))
              (same_accepted k x (put f a w) d.0) d.0,
          bears k x (world_after_one (Store a w) x) d.0 (λ b t c e. put_other f a w b t) d.1,
        )

    -- CUR becomes the next task
    pub cur_keeps : (k : ℕ) (x : World) (w : ℕ) → w < 0x10000 → w ≡ v.task next → So k x → So k (world_after_one (Store (word_place l.map CurrentTask) w) x)
    cur_keeps k x w small e0 d =
        let f = x.fram in let a = word_place l.map CurrentTask in (
          keeps_sends k k x (world_after_one (Store a w) x) (put_words f a w d.0.words small) (λ b n t c e. put_other f a w b c)
              (inr (put_same f a w ∙ e0)) (inl (put_other f a w (word_place l.map Base) (λ e. omega (arith, apart, e))))
              (same_accepted k x (put f a w) d.0) d.0,
          bears k x (world_after_one (Store a w) x) d.0 (λ b t c e. put_other f a w b c) d.1,
        )

    -- BASE becomes SB and EN
    pub base_keeps : (k : ℕ) (x : World) (w : ℕ) → w < 0x10000 → w ≡ next_base l.map x.fram → So k x
        → So k (world_after_one (Store (word_place l.map Base) w) x)
    base_keeps k x w small e0 d =
        let f = x.fram in let a = word_place l.map Base in (
          keeps_sends k k x (world_after_one (Store a w) x) (put_words f a w d.0.words small) (λ b n t c e. put_other f a w b e)
              (inl (put_other f a w (word_place l.map CurrentTask) (λ e. omega (arith, apart, e)))) (inr (put_same f a w ∙ e0))
              (same_accepted k x (put f a w) d.0) d.0,
          bears k x (world_after_one (Store a w) x) d.0 (λ b t c e. put_other f a w b e) d.1,
        )

    pub weaken : (k k' : ℕ) (x : World) → k' ≤ k → So k x → So k' x
    weaken k k' x h d = (weaken_sends k k' x h d.0, d.1)

    -- word i is sent
    pub send_keeps : (i n w : ℕ) (x : World) → i < length es → n ≡ (length (v.emitted s) + i) % 0x10000 → w ≡ slice_index es i → So i x
        → So (suc i) (world_after_one (Outside (Offered n w)) x)
    send_keeps i n w x h num ew d =
        let y = world_after_one (Outside (Offered n w)) x in (
          keeps_sends i (suc i) x y d.0.words (λ a q t c e. refl) (inl refl) (inl refl) (accepted_sent i n w x h num ew d.0) d.0,
          bears i x y d.0 (λ a t c e. refl) d.1,
        )

  -- the words that are copied home
  module _ (ps : List CopyPair) where
    abbrev Home : World → Type 0
    Home x = CopiesHome l v s next ps x

    -- the list has room
    pub few : (x : World) → Home x → x.fram (word_place l.map ListLength) ≤ l.map.entries
    few x d = let a = d.within_list in let b = room.list (v.task s) is_task in omega (arith, a, b)

    pub few_words : (x : World) → Home x → length ps ≤ l.map.entries
    few_words x d = let a = d.within_words in let b = room.list (v.task s) is_task in omega (arith, a, b)

    -- a change that leaves the runtime's words, and sets shared words only to what the next state has
    pub keeps_home : (x y : World) → LeavesRuntime l x y → ((a : ℕ) → IsSharedWord l a → (y.fram a ≡ x.fram a) ⊎ (y.fram a ≡ v.word next a)) → Home x → Home y
    keeps_home x y same moves d =
        let r = reads_alike l x y apart same in
        record {
          pairs_listed = listed_alike l x.fram y.fram r (few x d) ∙ d.pairs_listed;
          entries = entries_stay l x.fram y.fram r (few x d) d.entries;
          within_list = subst (λ n. n ≤ l.list_capacity (v.task s)) (sym r.list_length) d.within_list;
          within_words = d.within_words;
          homes = d.homes;
          copies = d.copies;
          copied = λ p h. r.copies p.copy (d.copies p h) ∙ d.copied p h;
          either = λ p h. ⊎_elim (λ e. ⊎_elim (λ o. inl (e ∙ o)) (λ o. inr (e ∙ o)) (d.either p h)) (λ e. inr e) (moves p.home (d.homes p h));
          others = λ a sh none. ⊎_elim (λ e. e ∙ d.others a sh none) (λ e. e) (moves a sh);
        }

    -- stores to CUR, BASE and TAIL leave them
    pub bears_home : (k : ℕ) (x y : World) → Sends k x → LeavesAll l x y → Home x → Home y
    bears_home k x y sent same d =
        keeps_home x y (λ a n t c e. same a t c e)
        (λ a sh. inl (same a (λ e. omega (arith, apart, sh, e)) (λ e. omega (arith, apart, sh, e)) (λ e. omega (arith, apart, sh, e)))) d

    -- a word is copied home
    pub copy_home : (x : World) (p : CopyPair) → IsAmong ps p → Home x → Home (world_after_one (Store p.home (x.fram p.copy)) x)
    copy_home x p h d =
        let f = x.fram in let a = p.home in let w = f p.copy in
        keeps_home x (world_after_one (Store a w) x)
        (λ b n t c e. put_other f a w b (λ q. n (subst (IsSharedWord l) (sym q) (d.homes p h))))
        (λ b sh. ⊎_elim (λ q. inr (q.1 ∙ d.copied p h ∙ ap (v.word next) (sym q.0))) (λ q. inl q.1) (put_either f a w b)) d
