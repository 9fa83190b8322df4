-- Stores that an undecided world bears.
use Rattle.task_attempts.proofs.Names.{◌≡◌, ℕ, ◌+◌, ◌*◌, ◌<◌, ◌≤◌, List, [], ◌∷◌, ◌⊎◌, true, refl, sym, ◌∙◌, subst, ⊎_elim, inl, inr, arith, cases_eq, Effect}
use Rattle.task_attempts.proofs.Names.{Store, Take, Outside, World, put, world_after_one, world_after, fram_after, EachStore, put_other, HoldsThroughout}
use Rattle.task_attempts.proofs.Names.{ProgramPlaces, StateView, IsSharedWord, VersionsWithin, UndecidedAt, put_either, put_words, TakesAndStores, word_place}
use Rattle.task_attempts.proofs.Names.{CurrentTask, Gate, Base, Version, MemoryMap, IsElsewhere, answer_place, answer_word, answers_at, words_stored}
use Rattle.task_attempts.proofs.Names.{Bool, false, Some, None, ap, ne_eqb, if◌then◌else◌, Looked, Offered, answers_told, ◌==◌}

-- a store of a word to none of the words that an undecided world at this task speaks of, and to a version word of no more than VER, which
-- is this number
pub record IsQuiet (l : ProgramPlaces) (task ver a w : ℕ) : Type 0 where
  pub is_word : w < 0x10000
  pub in_place : IsSharedWord l a → l.written_in_place task a ≡ true
  pub current_task : a ≡ word_place l.map CurrentTask → ⊥
  pub gate : a ≡ word_place l.map Gate → ⊥
  pub base : a ≡ word_place l.map Base → ⊥
  pub version : a ≡ word_place l.map Version → ⊥
  pub versions : (i : ℕ) → i < l.map.versions.words → a ≡ l.map.versions.address + 2 * i → w ≤ ver

module _ {St : Type 0} (l : ProgramPlaces) (v : StateView St) (s : St) (ver : ℕ) where
  -- a world that is undecided, with VER
  pub record IsQuietAt (x : World) : Type 0 where
    pub undecided : UndecidedAt l v s x
    pub version : x.fram (word_place l.map Version) ≡ ver

  versions_keep : (x : World) (a w : ℕ) → IsQuiet l (v.task s) ver a w → IsQuietAt x → VersionsWithin l (put x.fram a w)
  versions_keep x a w q u i h =
      let m = l.map.versions.address + 2 * i in
      let top : put x.fram a w (word_place l.map Version) ≡ ver = put_other x.fram a w (word_place l.map Version) (λ e. q.version (sym e)) ∙ u.version in
      let was = u.undecided.is_open.versions i h in
      let same = u.version in
      ⊎_elim {C = put x.fram a w m ≤ put x.fram a w (word_place l.map Version)}
      (λ k. let e = k.1 in let most = q.versions i h (sym k.0) in omega (arith, e, most, top))
      (λ k. let e = k.1 in omega (arith, e, was, same, top))
      (put_either x.fram a w m)

  shared_keep : (x : World) (a w : ℕ) → IsQuiet l (v.task s) ver a w → IsQuietAt x → (y : ℕ) → IsSharedWord l y
      → (l.written_in_place (v.task s) y ≡ true) ⊎ (put x.fram a w y ≡ v.word s y)
  shared_keep x a w q u y h =
      ⊎_elim {C = (l.written_in_place (v.task s) y ≡ true) ⊎ (put x.fram a w y ≡ v.word s y)}
      (λ same. inl (subst (λ z. l.written_in_place (v.task s) z ≡ true) (sym same) (q.in_place (subst (IsSharedWord l) same h))))
      (λ other. ⊎_elim {C = (l.written_in_place (v.task s) y ≡ true) ⊎ (put x.fram a w y ≡ v.word s y)}
      (λ f. inl f) (λ e. inr (put_other x.fram a w y other ∙ e)) (u.undecided.shared y h))
      (cases_eq y a)

  -- a quiet store keeps it so
  pub quiet_keeps : (x : World) (a w : ℕ) → IsQuiet l (v.task s) ver a w → IsQuietAt x → IsQuietAt (world_after_one (Store a w) x)
  quiet_keeps x a w q u =
      let o = u.undecided.is_open in
      record {
        undecided = record {
          is_open = record {
            is_state = o.is_state;
            is_task = o.is_task;
            words = put_words x.fram a w o.words q.is_word;
            current_task = put_other x.fram a w (word_place l.map CurrentTask) (λ e. q.current_task (sym e)) ∙ o.current_task;
            gate = put_other x.fram a w (word_place l.map Gate) (λ e. q.gate (sym e)) ∙ o.gate;
            accepted = o.accepted;
            base = put_other x.fram a w (word_place l.map Base) (λ e. q.base (sym e)) ∙ o.base;
            versions = versions_keep x a w q u;
          };
          shared = shared_keep x a w q u;
        };
        version = put_other x.fram a w (word_place l.map Version) (λ e. q.version (sym e)) ∙ u.version;
      }

  -- quiet effects keep it so throughout
  pub quiet_through : (es : List Effect) (x : World) → TakesAndStores (IsQuiet l (v.task s) ver) es → IsQuietAt x → HoldsThroughout (UndecidedAt l v s) es x
  quiet_through [] x h u = u.undecided
  quiet_through (Store a w ∷ es) x h u = (u.undecided, quiet_through es (world_after_one (Store a w) x) h.1 (quiet_keeps x a w h.0 u))
  quiet_through (Take r ∷ es) x h u = (u.undecided, quiet_through es x h u)
  quiet_through (Outside (Looked seen) ∷ es) x h u = (u.undecided, quiet_through es x h u)
  quiet_through (Outside (Offered n w) ∷ es) x h u = absurd h

  pub quiet_behind : (es : List Effect) (x : World) → TakesAndStores (IsQuiet l (v.task s) ver) es → IsQuietAt x → IsQuietAt (world_after es x)
  quiet_behind [] x h u = u
  quiet_behind (Store a w ∷ es) x h u = quiet_behind es (world_after_one (Store a w) x) h.1 (quiet_keeps x a w h.0 u)
  quiet_behind (Take r ∷ es) x h u = quiet_behind es x h u
  quiet_behind (Outside (Looked seen) ∷ es) x h u = quiet_behind es x h u
  quiet_behind (Outside (Offered n w) ∷ es) x h u = absurd h

-- effects that send nothing accept nothing
pub accepts_none : (P : ℕ → ℕ → Type 0) (es : List Effect) (x : World) → TakesAndStores P es → (world_after es x).accepted ≡ x.accepted
accepts_none P [] x h = refl
accepts_none P (Store a w ∷ es) x h = accepts_none P es (world_after_one (Store a w) x) h.1
accepts_none P (Take r ∷ es) x h = accepts_none P es x h
accepts_none P (Outside (Looked seen) ∷ es) x h = accepts_none P es x h
accepts_none P (Outside (Offered n w) ∷ es) x h = absurd h

-- what follows of each store that is of a word
pub stores_as : (P Q : ℕ → ℕ → Type 0) → ((a w : ℕ) → P a w → w < 0x10000 → Q a w) → (es : List Effect) → TakesAndStores P es
    → EachStore (λ a w. w < 0x10000) es → TakesAndStores Q es
stores_as P Q f [] h k = tt
stores_as P Q f (Store a w ∷ es) h k = (f a w h.0 k.0, stores_as P Q f es h.1 k.1)
stores_as P Q f (Take r ∷ es) h k = stores_as P Q f es h k.1
stores_as P Q f (Outside (Looked seen) ∷ es) h k = stores_as P Q f es h k.1
stores_as P Q f (Outside (Offered n w) ∷ es) h k = absurd h

-- the same said of each store alone
pub stores_each : (P Q : ℕ → ℕ → Type 0) → ((a w : ℕ) → P a w → Q a w) → (es : List Effect) → TakesAndStores P es → EachStore Q es
stores_each P Q f [] h = tt
stores_each P Q f (Store a w ∷ es) h = (f a w h.0, stores_each P Q f es h.1)
stores_each P Q f (Take r ∷ es) h = (tt, stores_each P Q f es h)
stores_each P Q f (Outside (Looked seen) ∷ es) h = (tt, stores_each P Q f es h)
stores_each P Q f (Outside (Offered n w) ∷ es) h = absurd h

-- stores elsewhere tell no answer
none_told : (es : List Effect) → EachStore (IsElsewhere answer_place) es → answers_told es ≡ []
none_told [] h = refl
none_told (Store a w ∷ es) h = ap (λ b. if b then w ∷ answers_told es else answers_told es) (ne_eqb a answer_place h.0) ∙ none_told es h.1
none_told (Take r ∷ es) h = none_told es h.1
none_told (Outside o ∷ es) h = none_told es h.1

-- the words that are stored to ANS are the answers
stored_are_told : (es : List Effect) → words_stored answer_place es ≡ answers_told es
stored_are_told [] = refl
stored_are_told (Store a w ∷ es) = ap (λ l. if a == answer_place then w ∷ l else l) (stored_are_told es)
stored_are_told (Take r ∷ es) = stored_are_told es
stored_are_told (Outside o ∷ es) = stored_are_told es

-- so the crash theorem sees them, where a program that takes no events stores nothing there
pub answers_seen : (l : MemoryMap) (es : List Effect) → (l.runtime.events ≡ false → EachStore (IsElsewhere answer_place) es)
    → answers_at (answer_word l) es ≡ answers_told es
answers_seen l es h = by l.runtime.events h
  where
    by : (events : Bool) → (events ≡ false → EachStore (IsElsewhere answer_place) es)
        → answers_at (if events then Some answer_place else None) es ≡ answers_told es
    by true h = stored_are_told es
    by false h = sym (none_told es (h refl))

-- stores of no more than a number to an address leave no more there
pub stays_within : (P : ℕ → ℕ → Type 0) (address most : ℕ) → ((w : ℕ) → P address w → w ≤ most) → (es : List Effect) (f : ℕ → ℕ) → TakesAndStores P es
    → f address ≤ most → fram_after es f address ≤ most
stays_within P address most b [] f h k = k
stays_within P address most b (Store a w ∷ es) f h k =
    stays_within P address most b es (put f a w) h.1
    (⊎_elim {C = put f a w address ≤ most}
    (λ q. let e = q.1 in let l = b w (subst (λ z. P z w) (sym q.0) h.0) in omega (arith, e, l))
    (λ q. let e = q.1 in omega (arith, e, k))
    (put_either f a w address))
stays_within P address most b (Take r ∷ es) f h k = stays_within P address most b es f h k
stays_within P address most b (Outside (Looked seen) ∷ es) f h k = stays_within P address most b es f h k
stays_within P address most b (Outside (Offered n w) ∷ es) f h k = absurd h
