-- The effects of a commit one by one: what each of them keeps, the commit keeps up to its last.
use Rattle.stands_for.proofs.Names.{◌≡◌, ℕ, zero, suc, ◌+◌, ◌%◌, ◌<◌, List, [], ◌∷◌, ◌++◌, refl, sym, ap, ◌∙◌, subst, inl, inr, arith, append_assoc, Effect}
use Rattle.stands_for.proofs.Names.{Store, Outside, Offered, World, put, world_after_one, world_after, inputs_taken, no_inputs, EachStore, none_taken_through}
use Rattle.stands_for.proofs.Names.{each_store-append, CopyPair, listed, copied_home, sends, emits_sent, commit_effects, sends_store, HoldsThroughout}
use Rattle.stands_for.proofs.Names.{Bool, true, false, tail_moved, where_events, where_stores, where_takes, tail_place, sent_place}
use Rattle.stands_for.proofs.Names.{holds-append, IsAmong, MemoryMap, word_place, CurrentTask, NextTask, Gate, EmitCount, Base, SentBase}
use Rattle.stands_for.proofs.Sends.{next_base, IsEmit, IsSending, sends_begin, next_emit, sends_on}

-- CUR := NEXT, BASE := SB + EN
abbrev pub moved_on : MemoryMap → (ℕ → ℕ) → List Effect
moved_on m f = Store (word_place m CurrentTask) (f (word_place m NextTask)) ∷ Store (word_place m Base) (next_base m f) ∷ []

-- the last stores but GATE's
abbrev pub closed_before : MemoryMap → (ℕ → ℕ) → List Effect
closed_before m f = tail_moved m f ++ moved_on m f

-- a commit's effects but the last
abbrev pub commit_before : MemoryMap → (ℕ → ℕ) → List Effect
commit_before m f = copied_home (listed m f) f ++ (emits_sent m f ++ closed_before m f)

pub commit_is : (m : MemoryMap) (f : ℕ → ℕ) → commit_effects m f ≡ commit_before m f ++ Store (word_place m Gate) 0 ∷ []
commit_is m f =
    let a = copied_home (listed m f) f in let b = emits_sent m f in let c = closed_before m f in
    let g : List Effect = Store (word_place m Gate) 0 ∷ [] in
    sym (append_assoc a (b ++ c) g ∙ ap (λ z. a ++ z) (append_assoc b c g ∙ ap (λ z. b ++ z) (append_assoc (tail_moved m f) (moved_on m f) g)))

-- copies and sends take nothing of what is ready
copied_takes : (qs : List CopyPair) (f : ℕ → ℕ) → inputs_taken (copied_home qs f) ≡ no_inputs
copied_takes [] f = refl
copied_takes (q ∷ qs) f = copied_takes qs (put f q.home (f q.copy))

sends_take : (n k p : ℕ) (f : ℕ → ℕ) → inputs_taken (sends n k p f) ≡ no_inputs
sends_take zero k p f = refl
sends_take (suc n) k p f = sends_take n ((k + 1) % 0x10000) (p + 2) f

pub commit_takes : (m : MemoryMap) (f : ℕ → ℕ) → inputs_taken (commit_before m f) ≡ no_inputs
commit_takes m f =
    let a = copied_home (listed m f) f in let b = emits_sent m f in let c = closed_before m f in
    none_taken_through a (b ++ c) (copied_takes (listed m f) f)
    (none_taken_through b c (sends_take (f (word_place m EmitCount)) (f (word_place m SentBase)) m.emits.address f)
    (none_taken_through (tail_moved m f) (moved_on m f) (where_takes m.runtime.events tail_place (f sent_place)) refl))

-- where a commit stores
copied_store : (P : ℕ → ℕ → Type 0) (qs : List CopyPair) (f : ℕ → ℕ) → ((q : CopyPair) (w : ℕ) → IsAmong qs q → P q.home w) → EachStore P (copied_home qs f)
copied_store P [] f h = tt
copied_store P (q ∷ qs) f h = (h q (f q.copy) (inl refl), copied_store P qs (put f q.home (f q.copy)) (λ r w k. h r w (inr k)))

pub commit_stores_so : (m : MemoryMap) (P : ℕ → ℕ → Type 0) (f : ℕ → ℕ) → ((q : CopyPair) (w : ℕ) → IsAmong (listed m f) q → P q.home w)
    → ((w : ℕ) → m.runtime.events ≡ true → P tail_place w) → ((w : ℕ) → P (word_place m CurrentTask) w) → ((w : ℕ) → P (word_place m Base) w)
    → EachStore P (commit_before m f)
commit_stores_so m P f homes tail cur base =
    each_store-append P (copied_home (listed m f) f) _ (copied_store P (listed m f) f homes)
    (each_store-append P (emits_sent m f) _ (sends_store P (f (word_place m EmitCount)) (f (word_place m SentBase)) m.emits.address f)
    (each_store-append P (tail_moved m f) (moved_on m f) (where_stores P m.runtime.events tail_place (f sent_place) (tail _)) (cur _, (base _, tt))))

-- What each of a commit's sends and last stores keeps, from FRAM as it is at the commit's start. Q says it behind so many words that were
-- sent, and gives P
pub record SendsKeep (m : MemoryMap) (f : ℕ → ℕ) (P : World → Type 0) (Q : ℕ → World → Type 0) : Type 0 where
  pub gives : (k : ℕ) (y : World) → Q k y → P y
  pub small : f (word_place m SentBase) < 0x10000
  pub sent : (i n w : ℕ) (y : World) → IsEmit m f i n w → Q i y → Q (suc i) (world_after_one (Outside (Offered n w)) y)
  pub tail : (k : ℕ) (y : World) → m.runtime.events ≡ true → Q k y → Q k (world_after_one (Store tail_place (f sent_place)) y)
  pub current : (k : ℕ) (y : World) → Q k y → Q k (world_after_one (Store (word_place m CurrentTask) (f (word_place m NextTask))) y)
  pub based : (k : ℕ) (y : World) → Q k y → Q k (world_after_one (Store (word_place m Base) (next_base m f)) y)

module _ (m : MemoryMap) (f : ℕ → ℕ) (P : World → Type 0) (Q : ℕ → World → Type 0) (keep : SendsKeep m f P Q) where
  sends_through : (n i number place : ℕ) (y : World) → IsSending m f n i number place → Q i y
      → HoldsThroughout P (sends n number place f) y × Q (f (word_place m EmitCount)) (world_after (sends n number place f) y)
  sends_through zero i number place y h d = let e = h.count in (keep.gives i y d, subst (λ j. Q j y) (omega (arith, e)) d)
  sends_through (suc n) i number place y h d =
      let r = sends_through n (suc i) ((number + 1) % 0x10000) (place + 2) (world_after_one (Outside (Offered number (f place))) y)
      (sends_on m f n i number place h) (keep.sent i number (f place) y (next_emit m f n i number place h) d) in
      ((keep.gives i y d, r.0), r.1)

  -- the store to TAIL
  tail_through : (events : Bool) (k : ℕ) (y : World) → m.runtime.events ≡ events → Q k y
      → let es = where_events events (Store tail_place (f sent_place) ∷ []) in HoldsThroughout P es y × Q k (world_after es y)
  tail_through true k y on d = let d2 = keep.tail k y on d in ((keep.gives k y d, keep.gives k _ d2), d2)
  tail_through false k y on d = (keep.gives k y d, d)

  -- all sends, and the last stores but GATE's
  pub closes_through : (y : World) → Q 0 y → HoldsThroughout P (emits_sent m f ++ closed_before m f) y
  closes_through y d =
      let n = f (word_place m EmitCount) in
      let b = emits_sent m f in
      let two = sends_through n 0 (f (word_place m SentBase)) m.emits.address y (sends_begin m f keep.small) d in
      let y1 = world_after b y in
      let tail = tail_through m.runtime.events n y1 refl two.1 in
      let y2 = world_after (tail_moved m f) y1 in
      let y3 = world_after_one (Store (word_place m CurrentTask) (f (word_place m NextTask))) y2 in
      let y4 = world_after_one (Store (word_place m Base) (next_base m f)) y3 in
      let d3 = keep.current n y2 tail.1 in
      let d4 = keep.based n y3 d3 in
      holds-append P b (closed_before m f) y two.0
      (holds-append P (tail_moved m f) (moved_on m f) y1 tail.0 (keep.gives n y2 tail.1, (keep.gives n y3 d3, keep.gives n y4 d4)))

-- a commit, where each copy home keeps it too
module _ (m : MemoryMap) (x : World) (P : World → Type 0) (Q : ℕ → World → Type 0) (keep : SendsKeep m x.fram P Q)
    (copies : (y : World) (p : CopyPair) → IsAmong (listed m x.fram) p → Q 0 y → Q 0 (world_after_one (Store p.home (y.fram p.copy)) y)) where
  copies_through : (qs : List CopyPair) (y : World) → ((q : CopyPair) → IsAmong qs q → IsAmong (listed m x.fram) q) → Q 0 y
      → HoldsThroughout P (copied_home qs y.fram) y × Q 0 (world_after (copied_home qs y.fram) y)
  copies_through [] y h d = (keep.gives 0 y d, d)
  copies_through (q ∷ qs) y h d =
      let r = copies_through qs (world_after_one (Store q.home (y.fram q.copy)) y) (λ p a. h p (inr a)) (copies y q (h q (inl refl)) d) in
      ((keep.gives 0 y d, r.0), r.1)

  pub through : Q 0 x → HoldsThroughout P (commit_before m x.fram) x
  through d =
      let a = copied_home (listed m x.fram) x.fram in
      let one = copies_through (listed m x.fram) x (λ q h. h) d in
      holds-append P a (emits_sent m x.fram ++ closed_before m x.fram) x one.0 (closes_through m x.fram P Q keep (world_after a x) one.1)
