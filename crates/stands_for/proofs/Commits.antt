-- A commit keeps a decided world decided at each of its effects, and leaves the state to which it is decided.
use Rattle.stands_for.proofs.Names.{◌≡◌, ℕ, ◌+◌, ◌-◌, ◌*◌, ◌%◌, ◌<◌, List, ◌++◌, sym, ap, ap₂, ◌∙◌, subst, ⊎_elim, inl, inr, arith, length, take, drop}
use Rattle.stands_for.proofs.Names.{length-append, length-take-le, append_assoc, zero-le, take-append-drop, World, accepted_after, CopyPair, listed, emits_sent}
use Rattle.stands_for.proofs.Names.{HoldsThroughout, ProgramPlaces, StateView, IsSharedWord, HaveRoom, RestsAt, SendsAndCloses, CopiesHome, DecidedFrom}
use Rattle.stands_for.proofs.Names.{IsPendingCommit, CommittingTo, words_at, word_place, CurrentTask, NextTask, SentBase, AreApart, sent_place}
use Rattle.stands_for.proofs.Sends.{next_base}
use Rattle.stands_for.proofs.Keeps.{Transition, So, few_emits, shared_sends, tail_keeps, cur_keeps, base_keeps, weaken, send_keeps, few, few_words}
use Rattle.stands_for.proofs.Keeps.{bears_home, copy_home}
use Rattle.stands_for.proofs.Walks.{commit_before, SendsKeep, through}
use Rattle.stands_for.proofs.Behind.{any_among, copies_behind, copies_related, closed, closed_other, behind_commit, emits_received, words_are}
use Rattle.stands_for.proofs.Pending.{copies_apart, current_behind, rest_behind}

-- the commit of a decided world
module _ {St : Type 0} (l : ProgramPlaces) (apart : AreApart l.map) (room : HaveRoom l) (v : StateView St) (s next : St) (x : World)
    (from : DecidedFrom l v s next x) where
  abbrev f : ℕ → ℕ
  f = x.fram

  abbrev ps : List CopyPair
  ps = listed l.map f

  abbrev es : List ℕ
  es = from.emits

  abbrev d : SendsAndCloses l v s next es 0 x
  d = from.decided.sends

  abbrev h : CopiesHome l v s next ps x
  h = from.decided.home

  abbrev t : Transition St
  t = record { places = l; apart = apart; room = room; view = v; from = s; to = next; emits = es; is_task = d.is_task }

  -- the words that are copied home stay what they are to be behind stores to CUR, BASE and TAIL
  abbrev Also : World → Type 0
  Also y = CopiesHome l v s next ps y

  abbrev At : ℕ → World → Type 0
  At k y = So t Also (bears_home t ps) k y

  decided_of : (k : ℕ) (y : World) → At k y → DecidedFrom l v s next y
  decided_of k y w =
      let z = weaken t Also (bears_home t ps) k 0 y zero-le w in
      record { emits = es; decided = record { sends = z.0; home = subst (λ q. CopiesHome l v s next q y) (sym w.1.pairs_listed) z.1 } }

  -- SB and EN are those of the state and of its words at each effect
  number_there : (k : ℕ) (y : World) → At k y → next_base l.map f ≡ next_base l.map y.fram
  number_there k y w = ap₂ (λ a b. (a + b) % 0x10000) (d.sent_base ∙ sym w.0.sent_base) (d.emit_count ∙ sym w.0.emit_count)

  keep : SendsKeep l.map f (DecidedFrom l v s next) At
  keep =
      let count = d.emit_count in let sent_base = d.sent_base in
      record {
        gives = decided_of;
        small = d.words (word_place l.map SentBase);
        sent = λ i n w y e q.
            let lt = e.below in let num = e.number_is in
            let below : i < length es = omega (arith, lt, count) in
            send_keeps t Also (bears_home t ps) i n w y below (omega (arith, num, sent_base)) (e.word_is ∙ d.buffer i below) q;
        tail = λ k y on w. tail_keeps t Also (bears_home t ps) k y (f sent_place) (d.words sent_place) w;
        current = λ k y w. cur_keeps t Also (bears_home t ps) k y (f (word_place l.map NextTask)) (d.words (word_place l.map NextTask)) d.next_task w;
        based = λ k y w. base_keeps t Also (bears_home t ps) k y (next_base l.map f) (omega arith) (number_there k y w) w;
      }

  -- each effect keeps the world decided
  pub stays_decided : HoldsThroughout (DecidedFrom l v s next) (commit_before l.map f) x
  stays_decided =
      through l.map x (DecidedFrom l v s next) At keep
      (λ y p q w. (shared_sends t 0 y p.home (y.fram p.copy) (w.1.homes p q) (w.0.words p.copy) w.0, copy_home t ps y p q w.1))
      (d, h)

  -- how many of its words are accepted
  sent_are : length x.accepted % 0x10000 ≡ (f (word_place l.map SentBase) + d.accepted.count) % 0x10000
  sent_are =
      let base = d.sent_base in
      let so = d.accepted.at_most in
      let len : length x.accepted ≡ length (v.emitted s) + d.accepted.count = ap length d.accepted.is
      ∙ length-append (v.emitted s) (take d.accepted.count es) ∙ ap (λ n. length (v.emitted s) + n) (length-take-le d.accepted.count es so) in
      omega (arith, len, base)

  -- it is pending
  is_pending : IsPendingCommit l x
  is_pending =
      let count = d.emit_count in
      let next_task = d.next_task in let next_is = d.next_is_task in let is_task = d.is_task in
      let most = few_emits t 0 x d in
      let so = d.accepted.at_most in
      record {
        words = d.words;
        gate = d.gate;
        current_task = ⊎_elim {C = f (word_place l.map CurrentTask) < l.tasks} (λ e. omega (arith, e, is_task)) (λ e. omega (arith, e, next_is))
            d.current_task;
        next_task = omega (arith, next_task, next_is);
        list_length = few t ps x h;
        entries = h.entries;
        list_words = few_words t ps x h;
        homes = h.homes;
        copies = h.copies;
        emit_count = omega (arith, count, most);
        sent = d.accepted.count;
        sent_some = omega (arith, count, so);
        number = sent_are;
        base = d.base;
        versions = d.versions;
      }

  abbrev g : ℕ → ℕ
  g = copies_behind ps f

  abbrev behind : World
  behind = record { fram = closed l.map f g; accepted = accepted_after (emits_sent l.map f) x.accepted }

  -- behind the copies each shared word is the next state's, and all are words
  shared_behind : (a : ℕ) → IsSharedWord l a → g a ≡ v.word next a
  shared_behind a sh =
      copies_related (λ b u w. u ≡ v.word next b) ps f f a (copies_apart l apart x is_pending) (λ p k. h.copied p k)
      (⊎_elim (λ k. inr k) (λ none. inl (h.others a sh none)) (any_among ps a))

  accepted_behind : accepted_after (emits_sent l.map f) x.accepted ≡ v.emitted next
  accepted_behind =
      let p = is_pending in
      let c = d.accepted.count in
      let count = d.emit_count in
      let most = p.emit_count in let few256 = room.few_emits in
      let so = d.accepted.at_most in
      let left = length es - c in
      let joins : c + left ≡ length es = omega (arith, so) in
      let rest : x.accepted ++ words_at left (l.map.emits.address + 2 * c) f ≡ v.emitted next =
      ap₂ (λ p q. p ++ q) d.accepted.is (words_are es l.map.emits.address f d.buffer left c joins)
      ∙ append_assoc (v.emitted s) (take c es) (drop c es) ∙ ap (λ y. v.emitted s ++ y) (take-append-drop c es) ∙ sym d.emitted in
      emits_received l.map f (omega (arith, most, few256)) (v.emitted next) x.accepted (d.words (word_place l.map SentBase))
      (record { count = c; left = left; at_least = omega arith; joins = joins ∙ sym count; number = sent_are; rest = rest })

  rests_behind : RestsAt l v next behind
  rests_behind =
      let m = l.map in
      let r = rest_behind l apart x is_pending room in
      record {
        is_open = record {
          is_state = d.next_is_state;
          is_task = d.next_is_task;
          words = r.words;
          current_task = current_behind l apart x is_pending room ∙ d.next_task;
          gate = r.gate;
          accepted = accepted_behind;
          base = r.base ∙ ap (λ ws. length ws % 0x10000) accepted_behind;
          versions = r.versions;
        };
        shared = λ a sh. closed_other m f g a (λ t. let e = t.at in omega (arith, apart, sh, e)) (λ e. omega (arith, apart, sh, e))
            (λ e. omega (arith, apart, sh, e)) (λ e. omega (arith, apart, sh, e))
            ∙ shared_behind a sh;
      }

  -- it leaves the next state
  pub decided_committing : CommittingTo l v next x
  decided_committing = record { pending = is_pending; rests = subst (RestsAt l v next) (sym (behind_commit l.map x)) rests_behind }
