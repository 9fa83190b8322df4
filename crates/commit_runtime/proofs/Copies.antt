-- Where a commit stores, and what its copies to shared words leave as it is.
use Rattle.std.proofs.Common.{◌≡◌, ◌≢◌, ℕ, zero, suc, ◌+◌, ◌*◌, ◌%◌, ◌<◌, ◌≤◌, inl, inr, List, [], ◌∷◌, ◌++◌, refl, ap, ◌∙◌, arith}
use Rattle.std.specs.List.{All}
use Rattle.std.proofs.lemmas.List.Elements.{All-nil, All-cons, All-head, All-tail, All-weaker}
use Rattle.runtime_code.specs.fram_board.Effects.{Store, Outside, Offered}
use Rattle.runtime_code.specs.machine_effects.World.{put, fram_after, EachStore}
use Rattle.runtime_code.specs.machine_effects.Machine.{IsPlace}
use Rattle.runtime_code.proofs.machine_effects.Interface.{each_store-append, fram_untouched}
use Rattle.runtime_code.specs.runtime_effects.Places.{CopyPair, listed}
use Rattle.runtime_code.specs.runtime_effects.Stages.{copied_home, sends, emits_sent, tail_moved, commit_closed, commit_effects}
use Rattle.runtime_code.specs.runtime_effects.Needs.{IsOutOf, IsCopied}
use Rattle.runtime_code.proofs.runtime_effects.Interface.{sends_store, where_stores}
use Rattle.commit_runtime.specs.Laws.{CommitStoresInFram}
use Rattle.memory_map.specs.declared.words.RuntimeWord.TheVariants.{CurrentTask, NextTask, Gate, EmitCount, Base, SentBase}
use Rattle.memory_map.specs.MemoryMap.{MemoryMap, word_place}
use Rattle.memory_map.specs.event_places.Places.{tail_place, sent_place}
use Rattle.runtime_code.proofs.Interface.{tail_is_place}

-- what holds at each home, whatever is stored there, holds of each store of the copies
homes_stored : (P : ℕ → ℕ → Type 0) (xs : List CopyPair) (f : ℕ → ℕ) → All (λ x. (w : ℕ) → P x.home w) xs → EachStore P (copied_home xs f)
homes_stored P [] f h = tt
homes_stored P (x ∷ xs) f h = (
  All-head (λ x. (w : ℕ) → P x.home w) x xs h (f x.copy),
  homes_stored P xs (put f x.home (f x.copy)) (All-tail (λ x. (w : ℕ) → P x.home w) x xs h),
)

pub commit_stores_in_fram : CommitStoresInFram
commit_stores_in_fram m f places can =
    let P : ℕ → ℕ → Type 0 = λ a w. IsPlace a in
    let homes = homes_stored P (listed m f) f (All-weaker (IsCopied m) (λ x. (w : ℕ) → IsPlace x.home) (λ x h w. h.home) (listed m f) can.copies) in
    each_store-append P (copied_home (listed m f) f) (emits_sent m f ++ commit_closed m f) homes
    (each_store-append P (emits_sent m f) (commit_closed m f) (sends_store P (f (word_place m EmitCount)) (f (word_place m SentBase)) m.emits.address f)
    (each_store-append P (tail_moved m f) _ (where_stores P m.runtime.events tail_place (f sent_place) (λ on. tail_is_place))
    (places.words CurrentTask, (places.words Base, (places.words Gate, tt)))))

-- an address outside others
out_of : (p n a x : ℕ) → IsOutOf p n a → p ≤ x → x < p + n → a ≢ x
out_of p n a x (inl l) low high e = omega (arith, l, low, e)
out_of p n a x (inr g) low high e = omega (arith, g, high, e)

-- what holds of each of two lists behind one another
pub all_front : {X : Type 0} (P : X → Type 0) (xs ys : List X) → All P (xs ++ ys) → All P xs
all_front P [] ys h = All-nil P
all_front P (x ∷ xs) ys h = All-cons P x xs (All-head P x (xs ++ ys) h) (all_front P xs ys (All-tail P x (xs ++ ys) h))

-- copies behind copies
pub copied_behind : (xs ys : List CopyPair) (f : ℕ → ℕ) → copied_home (xs ++ ys) f ≡ copied_home xs f ++ copied_home ys (fram_after (copied_home xs f) f)
copied_behind [] ys f = refl
copied_behind (x ∷ xs) ys f = ap (λ l. Store x.home (f x.copy) ∷ l) (copied_behind xs ys (put f x.home (f x.copy)))

-- the same words are sent
pub sends_alike : (n k p : ℕ) (f g : ℕ → ℕ) → ((a : ℕ) → p ≤ a → a < p + 2 * n → g a ≡ f a) → sends n k p g ≡ sends n k p f
sends_alike zero k p f g h = refl
sends_alike (suc n) k p f g h =
    ap (λ w. Outside (Offered k w) ∷ sends n ((k + 1) % 0x10000) (p + 2) g) (h p (omega arith) (omega arith))
    ∙ ap (λ es. Outside (Offered k (f p)) ∷ es) (sends_alike n ((k + 1) % 0x10000) (p + 2) f g (λ a l m. h a (omega (arith, l)) (omega (arith, m))))

-- sends leave FRAM
pub sends_keep : (n k p : ℕ) (f g : ℕ → ℕ) → fram_after (sends n k p f) g ≡ g
sends_keep zero k p f g = refl
sends_keep (suc n) k p f g = sends_keep n ((k + 1) % 0x10000) (p + 2) f g

module _ (m : MemoryMap) (xs : List CopyPair) (f : ℕ → ℕ) (copied : All (IsCopied m) xs) where
  abbrev pub after : ℕ → ℕ
  after = fram_after (copied_home xs f) f

  -- a word that is none of their homes
  stays : (a : ℕ) → ((x : CopyPair) → IsCopied m x → x.home ≢ a) → after a ≡ f a
  stays a other = fram_untouched (copied_home xs f) a f
      (homes_stored (λ b w. b ≢ a) xs f (All-weaker (IsCopied m) (λ x. (w : ℕ) → x.home ≢ a) (λ x h w. other x h) xs copied))

  pub sent_base_stays : after (word_place m SentBase) ≡ f (word_place m SentBase)
  sent_base_stays = stays (word_place m SentBase) (λ x h. h.leaves.sent_base)

  pub sent_tail_stays : after sent_place ≡ f sent_place
  sent_tail_stays = stays sent_place (λ x h. h.leaves.sent_tail)

  pub emit_count_stays : after (word_place m EmitCount) ≡ f (word_place m EmitCount)
  emit_count_stays = stays (word_place m EmitCount) (λ x h. h.leaves.emit_count)

  pub next_task_stays : after (word_place m NextTask) ≡ f (word_place m NextTask)
  next_task_stays = stays (word_place m NextTask) (λ x h. h.leaves.next_task)

  pub emits_stay : (a : ℕ) → m.emits.address ≤ a → a < m.emits.address + 2 * m.emits.words → after a ≡ f a
  emits_stay a l u = stays a (λ x h. out_of m.emits.address (2 * m.emits.words) x.home a h.leaves.emits l u)

  pub list_stays : (a : ℕ) → m.list.address ≤ a → a < m.list.address + 6 * m.entries → after a ≡ f a
  list_stays a l u = stays a (λ x h. out_of m.list.address (6 * m.entries) x.home a h.leaves.list l u)
