-- Behind each effect of a pending commit the commit is pending, and leaves what it left before.
use Rattle.stands_for.proofs.Names.{◌≡◌, ℕ, suc, ◌+◌, ◌*◌, ◌%◌, ◌<◌, ◌≤◌, List, ◌++◌, refl, sym, ap, ap₂, ◌∙◌, subst, ⊎_elim, inl, inr, ◌⊎◌, arith, length}
use Rattle.stands_for.proofs.Names.{cases_eq, Store, Outside, Offered, World, put, accepted_after, world_after_one, world_after, put_same, put_other, CopyPair}
use Rattle.stands_for.proofs.Names.{listed, emits_sent, commit_effects, HoldsThroughout, ProgramPlaces, StateView, IsSharedWord, IsAmong, HaveRoom, HoldsWords}
use Rattle.stands_for.proofs.Names.{words_at, RestsAt, IsPendingCommit, CommittingTo, MemoryMap, word_place, CurrentTask, NextTask, Gate, Base, SentBase}
use Rattle.stands_for.proofs.Names.{AreApart, Bool, true, false, tail_place, sent_place}
use Rattle.std.proofs.Math.Path.{fun_ext}
use Rattle.stands_for.proofs.Sends.{next_base, IsEmit}
use Rattle.stands_for.proofs.Keeps.{put_either, put_words, ReadsAlike, reads_alike, listed_alike, entries_stay}
use Rattle.stands_for.proofs.Walks.{commit_before, through}
use Rattle.stands_for.proofs.Behind.{with_tail, IsTail}
use Rattle.stands_for.proofs.Behind.{IsHome, copies_behind, copies_related, closed, behind_commit, IsSent, one_sent, emits_received, words_alike}
use Rattle.stands_for.proofs.Pending.{few, copies_apart, still_to_send}

-- two functions that are the same but at an address, with a word put there
put_alike : (f g : ℕ → ℕ) (a w b : ℕ) → ((b ≡ a → ⊥) → f b ≡ g b) → put f a w b ≡ put g a w b
put_alike f g a w b h =
    ⊎_elim
    (λ e. subst (λ c. put f a w c ≡ put g a w c) (sym e) (put_same f a w ∙ sym (put_same g a w)))
    (λ ne. put_other f a w b ne ∙ h ne ∙ sym (put_other g a w b ne))
    (cases_eq b a)

-- so it is with TAIL
tail_alike : (events : Bool) (f g : ℕ → ℕ) (w b : ℕ) → ((events ≡ true → b ≡ tail_place → ⊥) → f b ≡ g b) → with_tail events w f b ≡ with_tail events w g b
tail_alike true f g w b h = put_alike f g tail_place w b (λ t. h (λ on e. t e))
tail_alike false f g w b h = h (λ on e. absurd (cc (on)))

-- the last stores make of such functions the same
closed_alike : (m : MemoryMap) (f g h : ℕ → ℕ)
    → ((a : ℕ) → (IsTail m a → ⊥) → (a ≡ word_place m CurrentTask → ⊥) → (a ≡ word_place m Base → ⊥) → g a ≡ h a) → closed m f g ≡ closed m f h
closed_alike m f g h same =
    let cur = word_place m CurrentTask in let next = f (word_place m NextTask) in
    let base = word_place m Base in let w = next_base m f in
    let g0 = with_tail m.runtime.events (f sent_place) g in
    let h0 = with_tail m.runtime.events (f sent_place) h in
    fun_ext (λ a. put_alike (put (put g0 cur next) base w) (put (put h0 cur next) base w) (word_place m Gate) 0 a
    (λ z. put_alike (put g0 cur next) (put h0 cur next) base w a (λ b. put_alike g0 h0 cur next a
    (λ c. tail_alike m.runtime.events g h (f sent_place) a (λ t. same a (λ k. t k.events k.at) c b)))))

module _ (l : ProgramPlaces) (apart : AreApart l.map) (room : HaveRoom l) (x : World) (p : IsPendingCommit l x) where
  abbrev m : MemoryMap
  m = l.map

  abbrev f : ℕ → ℕ
  f = x.fram

  abbrev ps : List CopyPair
  ps = listed m f

  -- the accepted words behind the commit
  abbrev all : List ℕ
  all = accepted_after (emits_sent m f) x.accepted

  -- Within the commit: but for TAIL, CUR, BASE and the listed homes every word is as it was at the start, and of the words to send at least so
  -- many are accepted
  record IsWithin (k : ℕ) (y : World) : Type 0 where
    same : (a : ℕ) → (IsTail m a → ⊥) → (a ≡ word_place m CurrentTask → ⊥) → (a ≡ word_place m Base → ⊥) → (y.fram a ≡ f a) ⊎ IsHome ps a
    words : HoldsWords y.fram
    current_task : y.fram (word_place m CurrentTask) < l.tasks
    base : (y.fram (word_place m Base) ≡ f (word_place m SentBase)) ⊎ (y.fram (word_place m Base) ≡ next_base m f)
    sent : IsSent m f all k y.accepted

  home_shared : (a : ℕ) → IsHome ps a → IsSharedWord l a
  home_shared a h = subst (IsSharedWord l) h.2 (p.homes h.0 h.1)

  -- a word that is no shared one
  unchanged : (k : ℕ) (y : World) → IsWithin k y → (a : ℕ) → (IsSharedWord l a → ⊥) → (a ≡ tail_place → ⊥) → (a ≡ word_place m CurrentTask → ⊥)
      → (a ≡ word_place m Base → ⊥) → y.fram a ≡ f a
  unchanged k y w a off t c b = ⊎_elim (λ e. e) (λ h. absurd (off (home_shared a h))) (w.same a (λ k. t k.at) c b)

  -- what the commit reads
  reads : (k : ℕ) (y : World) → IsWithin k y → ReadsAlike l f y.fram
  reads k y w = reads_alike l x y apart (unchanged k y w)

  listed_there : (k : ℕ) (y : World) → IsWithin k y → listed m y.fram ≡ ps
  listed_there k y w = listed_alike l f y.fram (reads k y w) p.list_length

  -- within the commit it is pending
  within_pending : (k : ℕ) (y : World) → IsWithin k y → IsPendingCommit l y
  within_pending k y w =
      let r = reads k y w in
      let same_list = listed_there k y w in
      let list = p.list_length in let emits = p.emit_count in let joins = w.sent.joins in
      let next = r.next_task in let is_next = p.next_task in let cln = r.list_length in let en = r.emit_count in let ver = r.version in
      record {
        words = w.words;
        gate = r.gate ∙ p.gate;
        current_task = w.current_task;
        next_task = omega (arith, next, is_next);
        list_length = omega (arith, cln, list);
        entries = entries_stay l f y.fram r p.list_length p.entries;
        list_words = subst (λ qs. length qs ≤ m.entries) (sym same_list) p.list_words;
        homes = λ q h. p.homes q (subst (λ qs. IsAmong qs q) same_list h);
        copies = λ q h. p.copies q (subst (λ qs. IsAmong qs q) same_list h);
        emit_count = omega (arith, en, emits);
        sent = w.sent.count;
        sent_some = omega (arith, en, joins);
        number = w.sent.number ∙ ap (λ n. (n + w.sent.count) % 0x10000) (sym r.sent_base);
        base = ⊎_elim (λ e. inl (e ∙ sym r.sent_base)) (λ e. inr (e ∙ ap₂ (λ a b. (a + b) % 0x10000) (sym r.sent_base) (sym en))) w.base;
        versions = λ i h. let a = p.versions i h in let b = r.versions i h in omega (arith, a, b, ver);
      }

  -- and leaves the same world
  same_fram : (k : ℕ) (y : World) → IsWithin k y → closed m y.fram (copies_behind (listed m y.fram) y.fram) ≡ closed m f (copies_behind ps f)
  same_fram k y w =
      let r = reads k y w in
      let g = copies_behind (listed m y.fram) y.fram in
      let cur = word_place m CurrentTask in
      ap (λ t. put (put (put (with_tail m.runtime.events t g) cur (y.fram (word_place m NextTask))) (word_place m Base) (next_base m y.fram))
      (word_place m Gate) 0) r.sent_tail
      ∙ ap₂ (λ n b. put (put (put (with_tail m.runtime.events (f sent_place) g) cur n) (word_place m Base) b) (word_place m Gate) 0) r.next_task
      (ap₂ (λ a b. (a + b) % 0x10000) r.sent_base r.emit_count)
      ∙ ap (λ qs. closed m f (copies_behind qs y.fram)) (listed_there k y w)
      ∙ closed_alike m f (copies_behind ps y.fram) (copies_behind ps f)
      (λ a t c b. copies_related (λ z v u. v ≡ u) ps y.fram f a (copies_apart l apart x p) (λ q h. r.copies q.copy (p.copies q h)) (w.same a t c b))

  same_accepted : (k : ℕ) (y : World) → IsWithin k y → accepted_after (emits_sent m y.fram) y.accepted ≡ all
  same_accepted k y w =
      let r = reads k y w in
      let s = w.sent in let emits = p.emit_count in
      let en = r.emit_count in let most = few l apart x p room in let joins = s.joins in
      let rest : words_at s.left (m.emits.address + 2 * s.count) y.fram ≡ words_at s.left (m.emits.address + 2 * s.count) f =
      words_alike s.left (m.emits.address + 2 * s.count) f y.fram (λ a lo hi. r.emits a (omega (arith, lo)) (omega (arith, hi, joins, emits))) in
      emits_received m y.fram (omega (arith, en, most)) all y.accepted (w.words (word_place m SentBase))
      (record {
        count = s.count;
        left = s.left;
        at_least = omega arith;
        joins = s.joins ∙ sym en;
        number = s.number ∙ ap (λ b. (b + s.count) % 0x10000) (sym r.sent_base);
        rest = ap (λ ws. y.accepted ++ ws) rest ∙ s.rest;
      })

  within_end : (k : ℕ) (y : World) → IsWithin k y → world_after (commit_effects m y.fram) y ≡ world_after (commit_effects m f) x
  within_end k y w =
      behind_commit m y ∙ ap₂ (λ g ws. record { fram = g; accepted = ws }) (same_fram k y w) (same_accepted k y w) ∙ sym (behind_commit m x)

  -- the start of the commit
  at_start : IsWithin 0 x
  at_start = record { same = λ a t c b. inl refl; words = p.words; current_task = p.current_task; base = p.base; sent = still_to_send l apart x p room }

  -- a word goes home
  copy_within : (y : World) (q : CopyPair) → IsAmong ps q → IsWithin 0 y → IsWithin 0 (world_after_one (Store q.home (y.fram q.copy)) y)
  copy_within y q h w =
      let a = q.home in let v = y.fram q.copy in
      let s = p.homes q h in
      record {
        same = λ b t c e. ⊎_elim (λ k. inr (q, h, sym k.0)) (λ k. ⊎_elim (λ o. inl (k.1 ∙ o)) (λ o. inr o) (w.same b t c e)) (put_either y.fram a v b);
        words = put_words y.fram a v w.words (w.words q.copy);
        current_task = subst (λ n. n < l.tasks) (sym (put_other y.fram a v (word_place m CurrentTask) (λ e. omega (arith, apart, s, e)))) w.current_task;
        base = subst (λ n. (n ≡ f (word_place m SentBase)) ⊎ (n ≡ next_base m f))
            (sym (put_other y.fram a v (word_place m Base) (λ e. omega (arith, apart, s, e)))) w.base;
        sent = w.sent;
      }

  -- a word is sent
  send_within : (i n v : ℕ) (y : World) → IsEmit m f i n v → IsWithin i y → IsWithin (suc i) (world_after_one (Outside (Offered n v)) y)
  send_within i n v y e w =
      record {
        same = w.same;
        words = w.words;
        current_task = w.current_task;
        base = w.base;
        sent = one_sent m f (few l apart x p room) all i n v y.accepted e w.sent;
      }

  -- TAIL becomes SE
  tail_within : (k : ℕ) (y : World) → m.runtime.events ≡ true → IsWithin k y → IsWithin k (world_after_one (Store tail_place (f sent_place)) y)
  tail_within k y on w =
      let a = tail_place in let v = f sent_place in
      record {
        same = λ b t c e. ⊎_elim (λ o. inl (put_other y.fram a v b (λ q. t (record { events = on; at = q })) ∙ o)) (λ o. inr o) (w.same b t c e);
        words = put_words y.fram a v w.words (p.words sent_place);
        current_task = subst (λ n. n < l.tasks) (sym (put_other y.fram a v (word_place m CurrentTask) (λ e. omega (arith, apart, e)))) w.current_task;
        base = subst (λ n. (n ≡ f (word_place m SentBase)) ⊎ (n ≡ next_base m f))
            (sym (put_other y.fram a v (word_place m Base) (λ e. omega (arith, apart, e)))) w.base;
        sent = w.sent;
      }

  -- CUR and BASE become those of the next state
  cur_within : (k : ℕ) (y : World) → IsWithin k y → IsWithin k (world_after_one (Store (word_place m CurrentTask) (f (word_place m NextTask))) y)
  cur_within k y w =
      let a = word_place m CurrentTask in let v = f (word_place m NextTask) in
      record {
        same = λ b t c e. ⊎_elim (λ o. inl (put_other y.fram a v b c ∙ o)) (λ o. inr o) (w.same b t c e);
        words = put_words y.fram a v w.words (p.words (word_place m NextTask));
        current_task = subst (λ n. n < l.tasks) (sym (put_same y.fram a v)) p.next_task;
        base = subst (λ n. (n ≡ f (word_place m SentBase)) ⊎ (n ≡ next_base m f))
            (sym (put_other y.fram a v (word_place m Base) (λ e. omega (arith, apart, e)))) w.base;
        sent = w.sent;
      }

  base_within : (k : ℕ) (y : World) → IsWithin k y → IsWithin k (world_after_one (Store (word_place m Base) (next_base m f)) y)
  base_within k y w =
      let a = word_place m Base in let v = next_base m f in
      record {
        same = λ b t c e. ⊎_elim (λ o. inl (put_other y.fram a v b e ∙ o)) (λ o. inr o) (w.same b t c e);
        words = put_words y.fram a v w.words (omega arith);
        current_task = subst (λ n. n < l.tasks) (sym (put_other y.fram a v (word_place m CurrentTask) (λ e. omega (arith, apart, e)))) w.current_task;
        base = inr (put_same y.fram a v);
        sent = w.sent;
      }

-- a commit that leaves a state does so behind each of its effects but the last
pub committing : {St : Type 0} (l : ProgramPlaces) (v : StateView St) → AreApart l.map → HaveRoom l → (to : St) (x : World) → CommittingTo l v to x
    → HoldsThroughout (CommittingTo l v to) (commit_before l.map x.fram) x
committing l v apart room to x d =
    let p = d.pending in
    through l.map x (CommittingTo l v to) (IsWithin l apart room x p)
    (record {
      gives = λ k y w. record {
        pending = within_pending l apart room x p k y w;
        rests = subst (RestsAt l v to) (sym (within_end l apart room x p k y w)) d.rests;
      };
      small = p.words (word_place l.map SentBase);
      sent = send_within l apart room x p;
      tail = tail_within l apart room x p;
      current = cur_within l apart room x p;
      based = base_within l apart room x p;
    })
    (copy_within l apart room x p)
    (at_start l apart room x p)
