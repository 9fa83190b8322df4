-- A pending commit: what it needs, where it stores, and that behind it none is pending.
use Rattle.stands_for.proofs.Names.{◌≡◌, ℕ, zero, suc, ◌+◌, ◌-◌, ◌*◌, ◌%◌, ◌<◌, ◌≤◌, List, [], ◌∷◌, ◌++◌, refl, sym, ap, ◌∙◌, subst, inl, inr, arith, length}
use Rattle.stands_for.proofs.Names.{length-append, All, Store, World, put, accepted_after, world_after, EachStore, world_after-append, each_store-append}
use Rattle.stands_for.proofs.Names.{put_same, put_other, CopyPair, listed, emits_sent, commit_effects, Inputs, HoldsThroughout, IsElsewhere, IsBetween}
use Rattle.stands_for.proofs.Names.{CommitKeeps, ProgramPlaces, StateView, IsSharedWord, IsAmong, HaveRoom, HoldsWords, words_at, RestsAt, IsAtRest}
use Rattle.stands_for.proofs.Names.{IsPendingCommit, CommittingTo, ProgramParts, program_model, IsCommitStore, MemoryMap, word_place, CurrentTask, NextTask}
use Rattle.stands_for.proofs.Names.{Gate, EmitCount, Base, SentBase, Version, AreApart, Bool, true, false, tail_place, sent_place}
use Rattle.memory_map.specs.Places.{end_of}
use Rattle.runtime_effects.specs.Needs.{IsCopied, CanCommit}
use Rattle.stands_for.proofs.Sends.{next_base}
use Rattle.stands_for.proofs.Keeps.{put_words}
use Rattle.stands_for.proofs.Walks.{commit_before, commit_is, commit_takes, commit_stores_so}
use Rattle.stands_for.proofs.Behind.{CopiesAreApart, copies_behind, copies_related, with_tail, IsTail, closed, closed_other, behind_commit}
use Rattle.stands_for.proofs.Behind.{words_length, IsSent, emits_received}

-- what holds of each of these pairs, by their indices
pub all_among : (P : CopyPair → Type 0) (ps : List CopyPair) → ((p : CopyPair) → IsAmong ps p → P p) → All P ps
all_among P [] h k d lt = absurd (omega (arith, lt))
all_among P (p ∷ ps) h zero d lt = h p (inl refl)
all_among P (p ∷ ps) h (suc k) d lt = all_among P ps (λ q a. h q (inr a)) k d (omega (arith, lt))

-- words stay words, with TAIL
tail_words : (events : Bool) (w : ℕ) (g : ℕ → ℕ) → HoldsWords g → w < 0x10000 → HoldsWords (with_tail events w g)
tail_words true w g h small = put_words g tail_place w h small
tail_words false w g h small = h

module _ (l : ProgramPlaces) (apart : AreApart l.map) (x : World) (p : IsPendingCommit l x) where
  -- it stores to shared words, TAIL, CUR, BASE and GATE
  stores_before : (P : ℕ → ℕ → Type 0) → ((a w : ℕ) → IsSharedWord l a → P a w) → ((w : ℕ) → l.map.runtime.events ≡ true → P tail_place w)
      → ((w : ℕ) → P (word_place l.map CurrentTask) w) → ((w : ℕ) → P (word_place l.map Base) w) → EachStore P (commit_before l.map x.fram)
  stores_before P homes tail cur base = commit_stores_so l.map P x.fram (λ q w h. homes q.home w (p.homes q h)) tail cur base

  commit_elsewhere : EachStore (IsElsewhere (word_place l.map Gate)) (commit_before l.map x.fram)
  commit_elsewhere = stores_before (IsElsewhere (word_place l.map Gate)) (λ a w h e. omega (arith, apart, h, e)) (λ w on e. omega (arith, apart, e))
      (λ w e. omega (arith, apart, e)) (λ w e. omega (arith, apart, e))

  -- the whole of it, with the store to GATE
  pub commit_stores_all : (P : ℕ → ℕ → Type 0) → ((a w : ℕ) → IsSharedWord l a → P a w) → ((w : ℕ) → l.map.runtime.events ≡ true → P tail_place w)
      → ((w : ℕ) → P (word_place l.map CurrentTask) w) → ((w : ℕ) → P (word_place l.map Base) w) → ((w : ℕ) → P (word_place l.map Gate) w)
      → EachStore P (commit_effects l.map x.fram)
  commit_stores_all P homes tail cur base gate =
      subst (EachStore P) (sym (commit_is l.map x.fram))
      (each_store-append P (commit_before l.map x.fram) (Store (word_place l.map Gate) 0 ∷ []) (stores_before P homes tail cur base) (gate 0, tt))

  -- each of them in front of the copies, but TAIL
  front_store : (a w : ℕ) → word_place l.map CurrentTask ≤ a → a < end_of l.map.homes → IsCommitStore l a w
  front_store a w low high = record { from = low; below = inl high }

  pub commit_stores : EachStore (IsCommitStore l) (commit_effects l.map x.fram)
  commit_stores =
      commit_stores_all (IsCommitStore l) (λ a w h. front_store a w (omega (arith, apart, h)) (omega (arith, h)))
      (λ w on. record { from = omega (arith, apart); below = inr (record { events = on; from = omega arith; below = omega arith }) })
      (λ w. front_store (word_place l.map CurrentTask) w (omega arith) (omega (arith, apart)))
      (λ w. front_store (word_place l.map Base) w (omega (arith, apart)) (omega (arith, apart)))
      (λ w. front_store (word_place l.map Gate) w (omega (arith, apart)) (omega (arith, apart)))

  -- what the commit's code needs
  pub can_commit : CanCommit l.map x.fram
  can_commit =
      record {
        list_length = p.list_length;
        words = p.list_words;
        emit_count = p.emit_count;
        copies = all_among (IsCopied l.map) (listed l.map x.fram) (λ q h.
            let home = p.homes q h in let copy = p.copies q h in
            let even_home = home.even in let even_copy = copy.even in
            record {
              home = record { even = even_home; low = omega (arith, apart, home); high = omega (arith, apart, home) };
              copy = record { even = even_copy; low = omega (arith, apart, copy); high = omega (arith, apart, copy) };
              leaves = record {
                next_task = λ e. omega (arith, apart, home, e);
                emit_count = λ e. omega (arith, apart, home, e);
                sent_base = λ e. omega (arith, apart, home, e);
                sent_tail = λ e. omega (arith, apart, home, e);
                list = inr (omega (arith, apart, home));
                emits = inr (omega (arith, apart, home));
              };
            });
      }

  -- no copy is a home
  pub copies_apart : CopiesAreApart (listed l.map x.fram)
  copies_apart q r hq hr e = let c = p.copies q hq in let h = p.homes r hr in omega (arith, apart, c, h, e)

  module _ (room : HaveRoom l) where
    abbrev m : MemoryMap
    m = l.map

    abbrev f : ℕ → ℕ
    f = x.fram

    -- FRAM behind the copies, and the accepted words behind the sends
    abbrev g : ℕ → ℕ
    g = copies_behind (listed m f) f

    abbrev all : List ℕ
    all = accepted_after (emits_sent m f) x.accepted

    pub few : f (word_place m EmitCount) ≤ 256
    few = let a = p.emit_count in let b = room.few_emits in omega (arith, a, b)

    -- what is still to be sent
    pub still_to_send : IsSent m f all 0 x.accepted
    still_to_send =
        let left = f (word_place m EmitCount) - p.sent in
        let there = x.accepted ++ words_at left (m.emits.address + 2 * p.sent) f in
        let most = p.sent_some in
        let joins : p.sent + left ≡ f (word_place m EmitCount) = omega (arith, most) in
        let whole = emits_received m f few there x.accepted (p.words (word_place m SentBase))
        (record { count = p.sent; left = left; at_least = omega arith; joins = joins; number = p.number; rest = refl }) in
        record { count = p.sent; left = left; at_least = omega arith; joins = joins; number = p.number; rest = sym whole }

    -- the words accepted so far are the first ones behind the commit
    pub sent_first : IsBetween [] all x.accepted
    sent_first =
        let s = still_to_send in
        record {
          sent = x.accepted;
          unsent = words_at s.left (m.emits.address + 2 * s.count) f;
          accepted_is = refl;
          to_is = sym s.rest;
        }

    -- behind it are words
    words_behind : HoldsWords (closed m f g)
    words_behind =
        let cur = word_place m CurrentTask in let to = f (word_place m NextTask) in
        let base = word_place m Base in let n = next_base m f in
        let own : HoldsWords g = λ a. copies_related (λ b u w. u < 0x10000) (listed m f) f f a copies_apart (λ q k. p.words q.copy) (inl (p.words a)) in
        let g0 = with_tail m.runtime.events (f sent_place) g in
        let moved : HoldsWords g0 = tail_words m.runtime.events (f sent_place) g own (p.words sent_place) in
        put_words (put (put g0 cur to) base n) (word_place m Gate) 0
        (put_words (put g0 cur to) base n (put_words g0 cur to moved (p.words (word_place m NextTask))) (omega arith)) (omega arith)

    -- a word that is no shared one, nor one of the last stores', is as it was
    as_before : (a : ℕ) → (IsSharedWord l a → ⊥) → (IsTail m a → ⊥) → (a ≡ word_place m CurrentTask → ⊥) → (a ≡ word_place m Base → ⊥)
        → (a ≡ word_place m Gate → ⊥) → closed m f g a ≡ f a
    as_before a off t c b z =
        closed_other m f g a t c b z
        ∙ copies_related (λ k u w. (IsSharedWord l k → ⊥) → u ≡ f k) (listed m f) f f a copies_apart (λ q k o. absurd (o (p.homes q k)))
        (inl (λ o. refl)) off

    -- CUR behind it
    pub current_behind : closed m f g (word_place m CurrentTask) ≡ f (word_place m NextTask)
    current_behind =
        let cur = word_place m CurrentTask in let to = f (word_place m NextTask) in
        let g0 = with_tail m.runtime.events (f sent_place) g in
        let g1 = put g0 cur to in let g2 = put g1 (word_place m Base) (next_base m f) in
        put_other g2 (word_place m Gate) 0 cur (λ e. omega (arith, apart, e)) ∙ put_other g1 (word_place m Base) (next_base m f) cur
        (λ e. omega (arith, apart, e))
        ∙ put_same g0 cur to

    base_behind : closed m f g (word_place m Base) ≡ length all % 0x10000
    base_behind =
        let g1 = put (with_tail m.runtime.events (f sent_place) g) (word_place m CurrentTask) (f (word_place m NextTask)) in
        let s = still_to_send in
        let joins = s.joins in let number = s.number in
        let more = words_at s.left (m.emits.address + 2 * s.count) f in
        let len : length all ≡ length x.accepted + s.left = ap length (sym s.rest) ∙ length-append x.accepted more
        ∙ ap (λ n. length x.accepted + n) (words_length s.left (m.emits.address + 2 * s.count) f) in
        let next : next_base m f ≡ length all % 0x10000 = omega (arith, joins, number, len) in
        put_other (put g1 (word_place m Base) (next_base m f)) (word_place m Gate) 0 (word_place m Base) (λ e. omega (arith, apart, e))
        ∙ put_same g1 (word_place m Base) (next_base m f) ∙ next

    versions_behind : (i : ℕ) → i < m.versions.words → closed m f g (m.versions.address + 2 * i) ≤ closed m f g (word_place m Version)
    versions_behind i h =
        let a = as_before (m.versions.address + 2 * i) (λ s. omega (arith, apart, s, h)) (λ t. let e = t.at in omega (arith, apart, e, h))
        (λ e. omega (arith, apart, e)) (λ e. omega (arith, apart, e)) (λ e. omega (arith, apart, e)) in
        let b = as_before (word_place m Version) (λ s. omega (arith, apart, s)) (λ t. let e = t.at in omega (arith, apart, e))
        (λ e. omega (arith, apart, e)) (λ e. omega (arith, apart, e)) (λ e. omega (arith, apart, e)) in
        let k = p.versions i h in omega (arith, a, b, k)

    abbrev behind : World
    behind = record { fram = closed m f g; accepted = all }

    pub rest_behind : IsAtRest l behind
    rest_behind =
        let to = current_behind in let is_task = p.next_task in
        record {
          words = words_behind;
          current_task = omega (arith, to, is_task);
          gate = put_same (put (put (with_tail m.runtime.events (f sent_place) g) (word_place m CurrentTask) (f (word_place m NextTask)))
              (word_place m Base) (next_base m f)) (word_place m Gate) 0;
          base = base_behind;
          versions = versions_behind;
        }

    -- the words that it still sends are few
    pub unsent_are_few : (unsent : List ℕ) × ((world_after (commit_effects m f) x).accepted ≡ x.accepted ++ unsent) × (length unsent ≤ 256)
    unsent_are_few =
        let s = still_to_send in
        let joins = s.joins in
        let most = few in
        let n = words_length s.left (m.emits.address + 2 * s.count) f in (
          words_at s.left (m.emits.address + 2 * s.count) f,
          ap (λ y. y.accepted) (behind_commit m x) ∙ sym s.rest,
          omega (arith, joins, most, n),
        )

    -- behind the commit none is pending
    pub commit_rests : IsAtRest l (world_after (commit_effects m f) x)
    commit_rests = subst (IsAtRest l) (sym (behind_commit m x)) rest_behind

-- what a commit keeps up to its last effect, where it leaves a state
pub commit_keeps : {St : Type 0} (l : ProgramPlaces) (v : StateView St) (p : ProgramParts St) → AreApart l.map → (Kept : World → Type 0) (to : St)
    → (inputs : Inputs) (x : World) → CommittingTo l v to x → HoldsThroughout Kept (commit_before l.map x.fram) x
    → CommitKeeps (program_model l v p) Kept to inputs x
commit_keeps l v p apart Kept to inputs x d h =
    let before = commit_before l.map x.fram in
    let gate = word_place l.map Gate in
    record {
      before = before;
      is = commit_is l.map x.fram;
      elsewhere = commit_elsewhere l apart x d.pending;
      takes_none = commit_takes l.map x.fram;
      kept = h;
      rests = subst (RestsAt l v to) (ap (λ es. world_after es x) (commit_is l.map x.fram) ∙ world_after-append before (Store gate 0 ∷ []) x) d.rests;
    }
