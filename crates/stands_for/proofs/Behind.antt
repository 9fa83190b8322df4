-- What a commit leaves: FRAM with the copies at home and the last stores made, and the accepted words with those behind them that weren't
-- sent yet.
use Rattle.stands_for.proofs.Names.{◌≡◌, ℕ, zero, suc, ◌+◌, ◌-◌, ◌*◌, ◌%◌, ◌<◌, ◌≤◌, List, [], ◌∷◌, ◌++◌, refl, sym, ap, ap₂, ◌∙◌, subst, ⊎_elim, inl, inr, ◌⊎◌}
use Rattle.stands_for.proofs.Names.{arith, ne_eqb, eq-eqb, cond, length, drop, length-append, append_assoc, append-nil, cases_eq, slice_index, Store, Outside}
use Rattle.stands_for.proofs.Names.{Offered, World, put, received, fram_after, accepted_after, world_after_one, world_after, world_after-append, put_same}
use Rattle.stands_for.proofs.Names.{put_other, CopyPair, listed, copied_home, sends, emits_sent, commit_closed, commit_effects, IsAmong, words_at, MemoryMap}
use Rattle.stands_for.proofs.Names.{word_place, CurrentTask, NextTask, Gate, EmitCount, Base, SentBase, Bool, true, false, Effect}
use Rattle.stands_for.proofs.Names.{where_events, where_leaves, tail_place, sent_place}
use Rattle.std.proofs.Math.Seq.{drop-cons, drop-length}
use Rattle.stands_for.proofs.Sends.{next_base, IsEmit, IsSending, sends_begin, next_emit, sends_on}
use Rattle.stands_for.proofs.Keeps.{same_number}

-- an address is the home of one of these pairs
abbrev pub IsHome : List CopyPair → ℕ → Type 0
IsHome ps a = (p : CopyPair) × IsAmong ps p × (p.home ≡ a)

pub any_among : (ps : List CopyPair) (a : ℕ) → IsHome ps a ⊎ ((p : CopyPair) → IsAmong ps p → p.home ≡ a → ⊥)
any_among [] a = inr (λ p h e. elim h [ ])
any_among (q ∷ ps) a =
    ⊎_elim
    (λ e. inl (q, inl refl, e))
    (λ ne. ⊎_elim
    (λ r. inl (r.0, inr r.1, r.2))
    (λ none. inr (λ p h e. ⊎_elim {C = ⊥} (λ k. ne (ap (λ y. y.home) (sym k) ∙ e)) (λ k. none p k e) h))
    (any_among ps a))
    (cases_eq q.home a)

-- no copy is a home
abbrev pub CopiesAreApart : List CopyPair → Type 0
CopiesAreApart ps = (p q : CopyPair) → IsAmong ps p → IsAmong ps q → p.copy ≡ q.home → ⊥

-- FRAM behind the copies
abbrev pub copies_behind : List CopyPair → (ℕ → ℕ) → ℕ → ℕ
copies_behind ps f = fram_after (copied_home ps f) f

-- what relates the copies in two FRAMs relates the homes behind them, and all other words that it related before
module _ (R : ℕ → ℕ → ℕ → Type 0) where
  pub copies_related : (ps : List CopyPair) (f g : ℕ → ℕ) (a : ℕ) → CopiesAreApart ps → ((p : CopyPair) → IsAmong ps p → R p.home (f p.copy) (g p.copy))
      → (R a (f a) (g a)) ⊎ IsHome ps a → R a (copies_behind ps f a) (copies_behind ps g a)
  copies_related [] f g a apart copies h = ⊎_elim (λ r. r) (λ k. elim k.1 [ ]) h
  copies_related (q ∷ qs) f g a apart copies h =
      let f' = put f q.home (f q.copy) in
      let g' = put g q.home (g q.copy) in
      let here : R q.home (f q.copy) (g q.copy) = copies q (inl refl) in
      copies_related qs f' g' a (λ p r hp hr. apart p r (inr hp) (inr hr))
      (λ p hp.
      let off : p.copy ≡ q.home → ⊥ = apart p q (inr hp) (inl refl) in
      subst (λ v. R p.home v (g' p.copy)) (sym (put_other f q.home (f q.copy) p.copy off))
      (subst (R p.home (f p.copy)) (sym (put_other g q.home (g q.copy) p.copy off)) (copies p (inr hp))))
      (⊎_elim
      (λ e.
      let there : R q.home (f' q.home) (g' q.home) = subst (λ v. R q.home v (g' q.home)) (sym (put_same f q.home (f q.copy)))
      (subst (R q.home (f q.copy)) (sym (put_same g q.home (g q.copy))) here) in
      inl (subst (λ b. R b (f' b) (g' b)) (sym e) there))
      (λ ne. ⊎_elim
      (λ r. inl (subst (λ v. R a v (g' a)) (sym (put_other f q.home (f q.copy) a ne))
      (subst (R a (f a)) (sym (put_other g q.home (g q.copy) a ne)) r)))
      (λ k. ⊎_elim (λ e. absurd (ne (sym (ap (λ y. y.home) (sym e) ∙ k.2)))) (λ m. inr (k.0, m, k.2)) k.1)
      h)
      (cases_eq a q.home))

-- FRAM behind the store of a word to TAIL, where there are events
abbrev pub with_tail : Bool → ℕ → (ℕ → ℕ) → ℕ → ℕ
with_tail events w g = fram_after (where_events events (Store tail_place w ∷ [])) g

-- it is the address of TAIL, and there are events
pub record IsTail (m : MemoryMap) (a : ℕ) : Type 0 where
  pub events : m.runtime.events ≡ true
  pub at : a ≡ tail_place

-- FRAM behind a commit's last stores, whose words are as FRAM was at its start
abbrev pub closed : MemoryMap → (ℕ → ℕ) → (ℕ → ℕ) → ℕ → ℕ
closed m f g =
    let moved = with_tail m.runtime.events (f sent_place) g in
    put (put (put moved (word_place m CurrentTask) (f (word_place m NextTask))) (word_place m Base) (next_base m f)) (word_place m Gate) 0

copies_world : (qs : List CopyPair) (x : World)
    → world_after (copied_home qs x.fram) x ≡ record { fram = copies_behind qs x.fram; accepted = x.accepted }
copies_world [] x = refl
copies_world (q ∷ qs) x = copies_world qs (world_after_one (Store q.home (x.fram q.copy)) x)

sends_world : (n k p : ℕ) (f : ℕ → ℕ) (x : World)
    → world_after (sends n k p f) x ≡ record { fram = x.fram; accepted = accepted_after (sends n k p f) x.accepted }
sends_world zero k p f x = refl
sends_world (suc n) k p f x = sends_world n ((k + 1) % 0x10000) (p + 2) f (world_after_one (Outside (Offered k (f p))) x)

tail_world : (events : Bool) (w : ℕ) (es : List Effect) (y : World) → world_after (where_events events (Store tail_place w ∷ []) ++ es) y
    ≡ world_after es (record { fram = with_tail events w y.fram; accepted = y.accepted })
tail_world true w es y = refl
tail_world false w es y = refl

-- the world behind a commit
pub behind_commit : (m : MemoryMap) (x : World) → world_after (commit_effects m x.fram) x
    ≡ record { fram = closed m x.fram (copies_behind (listed m x.fram) x.fram); accepted = accepted_after (emits_sent m x.fram) x.accepted }
behind_commit m x =
    let f = x.fram in
    let a = copied_home (listed m f) f in let b = emits_sent m f in let c = commit_closed m f in
    let y : World = record { fram = copies_behind (listed m f) f; accepted = x.accepted } in
    let moved : List Effect = Store (word_place m CurrentTask) (f (word_place m NextTask)) ∷ Store (word_place m Base) (next_base m f)
    ∷ Store (word_place m Gate) 0 ∷ [] in
    world_after-append a (b ++ c) x ∙ ap (world_after (b ++ c)) (copies_world (listed m f) x) ∙ world_after-append b c y
    ∙ ap (world_after c) (sends_world (f (word_place m EmitCount)) (f (word_place m SentBase)) m.emits.address f y)
    ∙ tail_world m.runtime.events (f sent_place) moved (record { fram = y.fram; accepted = accepted_after b x.accepted })

-- a word that none of the last stores has stays as the copies leave it
pub closed_other : (m : MemoryMap) (f g : ℕ → ℕ) (a : ℕ) → (IsTail m a → ⊥) → (a ≡ word_place m CurrentTask → ⊥) → (a ≡ word_place m Base → ⊥)
    → (a ≡ word_place m Gate → ⊥) → closed m f g a ≡ g a
closed_other m f g a t c b z =
    let g0 = with_tail m.runtime.events (f sent_place) g in
    let g1 = put g0 (word_place m CurrentTask) (f (word_place m NextTask)) in
    let g2 = put g1 (word_place m Base) (next_base m f) in
    put_other g2 (word_place m Gate) 0 a z ∙ put_other g1 (word_place m Base) (next_base m f) a b
    ∙ put_other g0 (word_place m CurrentTask) (f (word_place m NextTask)) a c
    ∙ where_leaves m.runtime.events tail_place (f sent_place) a g (λ on e. t (record { events = on; at = e }))

-- of the words to send at least the first i are accepted, and with those that aren't the accepted words come to these
pub record IsSent (m : MemoryMap) (f : ℕ → ℕ) (all : List ℕ) (i : ℕ) (ws : List ℕ) : Type 0 where
  pub count : ℕ
  pub left : ℕ
  pub at_least : i ≤ count
  pub joins : count + left ≡ f (word_place m EmitCount)
  pub number : length ws % 0x10000 ≡ (f (word_place m SentBase) + count) % 0x10000
  pub rest : ws ++ words_at left (m.emits.address + 2 * count) f ≡ all

module _ (m : MemoryMap) (f : ℕ → ℕ) (few : f (word_place m EmitCount) ≤ 256) (all : List ℕ) where
  -- word i is sent: it is the next one, or known
  pub one_sent : (i n w : ℕ) (ws : List ℕ) → IsEmit m f i n w → IsSent m f all i ws → IsSent m f all (suc i) (received n w ws)
  one_sent i n w ws emit s = by_left s.left refl
    where
      by_left : (left : ℕ) → s.left ≡ left → IsSent m f all (suc i) (received n w ws)
      by_left left e =
          let at_least = s.at_least in let joins = s.joins in let number = s.number in
          let lt = emit.below in let num = emit.number_is in let ew = emit.word_is in
          ⊎_elim
          (λ same.
          let k = left - 1 in
          let more : left ≡ suc k = omega (arith, same, joins, lt, e) in
          let hit : n ≡ length ws % 0x10000 = num ∙ ap (λ j. (f (word_place m SentBase) + j) % 0x10000) same ∙ sym number in
          let is : received n w ws ≡ ws ++ w ∷ [] = ap (λ b. cond b (ws ++ w ∷ []) ws) (eq-eqb n (length ws % 0x10000) hit) in
          let len = length-append ws (w ∷ []) in
          let next : m.emits.address + 2 * suc i ≡ m.emits.address + 2 * i + 2 = omega arith in
          let rest : (ws ++ w ∷ []) ++ words_at k (m.emits.address + 2 * suc i) f ≡ all =
          append_assoc ws (w ∷ []) (words_at k (m.emits.address + 2 * suc i) f)
          ∙ ap₂ (λ u p. ws ++ (u ∷ words_at k p f)) ew next
          ∙ ap₂ (λ j c. ws ++ words_at j (m.emits.address + 2 * c) f) (sym more) same
          ∙ ap (λ j. ws ++ words_at j (m.emits.address + 2 * s.count) f) (sym e) ∙ s.rest in
          subst (IsSent m f all (suc i)) (sym is)
          (record {
            count = suc i;
            left = k;
            at_least = omega arith;
            joins = omega (arith, same, joins, e, more);
            number = omega (arith, len, number, same);
            rest = rest;
          }))
          (λ ne.
          let miss : n ≡ length ws % 0x10000 → ⊥ = λ q. ne (same_number (f (word_place m SentBase)) s.count i (omega (arith, joins, few))
          (omega (arith, lt, few)) (sym num ∙ q ∙ number)) in
          let is : received n w ws ≡ ws = ap (λ b. cond b (ws ++ w ∷ []) ws) (ne_eqb n (length ws % 0x10000) miss) in
          subst (IsSent m f all (suc i)) (sym is)
          (record {
            count = s.count;
            left = s.left;
            at_least = ⊎_elim {C = suc i ≤ s.count} (λ z. absurd (ne z)) (λ z. omega (arith, at_least, z)) (cases_eq i s.count);
            joins = s.joins;
            number = s.number;
            rest = s.rest;
          }))
          (cases_eq i s.count)

  -- all are sent
  all_sent : (n i k p : ℕ) (ws : List ℕ) → IsSending m f n i k p → IsSent m f all i ws → accepted_after (sends n k p f) ws ≡ all
  all_sent zero i k p ws h s =
      let at_least = s.at_least in let joins = s.joins in let e = h.count in
      let none : 0 ≡ s.left = omega (arith, e, at_least, joins) in
      sym (append-nil ws) ∙ ap (λ j. ws ++ words_at j (m.emits.address + 2 * s.count) f) none ∙ s.rest
  all_sent (suc n) i k p ws h s =
      all_sent n (suc i) ((k + 1) % 0x10000) (p + 2) (received k (f p) ws) (sends_on m f n i k p h) (one_sent i k (f p) ws (next_emit m f n i k p h) s)

  -- what the receiver has behind the sends of a commit
  pub emits_received : (ws : List ℕ) → f (word_place m SentBase) < 0x10000 → IsSent m f all 0 ws → accepted_after (emits_sent m f) ws ≡ all
  emits_received ws small s =
      all_sent (f (word_place m EmitCount)) 0 (f (word_place m SentBase)) m.emits.address ws (sends_begin m f small) s

pub words_length : (n p : ℕ) (f : ℕ → ℕ) → length (words_at n p f) ≡ n
words_length zero p f = refl
words_length (suc n) p f = ap suc (words_length n (p + 2) f)

-- the same words in another FRAM
pub words_alike : (n p : ℕ) (f g : ℕ → ℕ) → ((a : ℕ) → p ≤ a → a < p + 2 * n → g a ≡ f a) → words_at n p g ≡ words_at n p f
words_alike zero p f g h = refl
words_alike (suc n) p f g h =
    ap₂ (λ w ws. w ∷ ws) (h p (omega arith) (omega arith))
    (words_alike n (p + 2) f g (λ a lo hi. h a (omega (arith, lo)) (omega (arith, hi))))

-- the words of a list, where they stand
pub words_are : (es : List ℕ) (p : ℕ) (f : ℕ → ℕ) → ((i : ℕ) → i < length es → f (p + 2 * i) ≡ slice_index es i)
    → (n j : ℕ) → j + n ≡ length es → words_at n (p + 2 * j) f ≡ drop j es
words_are es p f h zero j e = let all : length es ≡ j = omega (arith, e) in sym (ap (λ k. drop k es) (sym all) ∙ drop-length es)
words_are es p f h (suc n) j e =
    let lt : j < length es = omega (arith, e) in
    let next : p + 2 * j + 2 ≡ p + 2 * suc j = omega arith in
    ap₂ (λ w ws. w ∷ ws) (h j lt) (ap (λ q. words_at n q f) next ∙ words_are es p f h n (suc j) (omega (arith, e))) ∙ sym (drop-cons es j 0 lt)
