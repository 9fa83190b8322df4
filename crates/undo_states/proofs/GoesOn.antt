-- An attempt that goes on under undo: what is logged stays logged, and what it stores keeps the world undecided.
use Rattle.std.proofs.Common.{◌≡◌, ◌≢◌, ℕ, ◌+◌, ◌*◌, ◌<◌, ◌≤◌, ◌==◌, ◌⊎◌, ⊎_elim, inl, inr, true, false, Bool, if◌then◌else◌, List, [], ◌∷◌, ◌++◌, sym, ap, ◌∙◌}
use Rattle.std.proofs.Common.{subst, arith, eq-eqb, ne_eqb}
use Rattle.std.proofs.lemmas.Bool.{cases_eq}
use Rattle.memory_map.specs.Laws.{AreApart}
use Rattle.memory_map.specs.Places.{end_of}
use Rattle.memory_map.specs.MemoryMap.{word_place}
use Rattle.memory_map.specs.declared.words.RuntimeWord.TheVariants.{CurrentTask, Gate, ListLength, Base, Version}
use Rattle.fram_board.specs.Effects.{Effect, Store, Take, Outside}
use Rattle.machine_effects.specs.World.{World, world_after_one, world_after}
use Rattle.machine_effects.proofs.Interface.{put_same, put_other, world_after-append}
use Rattle.runtime_effects.specs.Needs.{IsOutOf}
use Rattle.undo_effects.specs.Entries.{Logged, logged, IsLogged}
use Rattle.undo_effects.specs.Stages.{word_logged, element_stored}
use Rattle.undo_effects.proofs.Interface.{still_logged, is_logged_last}
use Rattle.crash_rules.specs.Model.{HoldsThroughout}
use Rattle.crash_rules.proofs.Interface.{holds-append}
use Rattle.stands_for.specs.Layout.{ProgramPlaces, StateView, IsSharedWord, HaveRoom}
use Rattle.undo_states.specs.States.{list_length, restored, UndoneAt}
use Rattle.undo_states.specs.Program.{CanStore}
use Rattle.undo_states.proofs.Steps.{at_end}
use Rattle.undo_states.proofs.Undecided.{IsBeside, beside_keeps, beside_entries, entries_stay, list_within, versions_stay, logs, logs_leave}
use Rattle.undo_states.proofs.Theorems.{shared_stores_stay, element_stores_stay}

-- a word to which an attempt stores without an entry, and that no entry is of: of the runtime, but for CUR, GATE, BASE, CLN and VER; of the buffer; or one
-- that counts events
pub record IsPlainWord (l : ProgramPlaces) (a : ℕ) : Type 0 where
  pub current : a ≢ word_place l.map CurrentTask
  pub gate : a ≢ word_place l.map Gate
  pub base : a ≢ word_place l.map Base
  pub length : a ≢ word_place l.map ListLength
  pub version : a ≢ word_place l.map Version
  pub list : IsOutOf l.map.list.address (6 * l.map.entries) a
  pub behind : (a < l.map.versions.address) ⊎ (end_of l.map.copies ≤ a)

-- elements with their version words: shared words, each with a version word of its own
pub record ArePairs (l : ProgramPlaces) (Pair : ℕ → ℕ → Type 0) : Type 0 where
  pub shared : (element version : ℕ) → Pair element version → IsSharedWord l element
  pub index : (element version : ℕ) → Pair element version → ℕ
  pub below : (element version : ℕ) (h : Pair element version) → index element version h < l.map.versions.words
  pub is : (element version : ℕ) (h : Pair element version) → version ≡ l.map.versions.address + 2 * index element version h
  pub one : (element other version : ℕ) → Pair element version → Pair other version → element ≡ other

-- the world is undecided at a state; VER is this, each of these words is logged, and each element whose version word is VER
pub record GoesOn {St : Type 0} (l : ProgramPlaces) (v : StateView St) (s : St) (ver : ℕ) (Own : ℕ → Type 0) (Pair : ℕ → ℕ → Type 0) (x : World)
    : Type 0 where
  pub undone : UndoneAt l v s x
  pub number : x.fram (word_place l.map Version) ≡ ver
  pub own : (a : ℕ) → Own a → IsLogged (logged l.map x.fram) a
  pub marked : (element version : ℕ) → Pair element version → x.fram version ≡ ver → IsLogged (logged l.map x.fram) element

module _ {St : Type 0} (l : ProgramPlaces) (apart : AreApart l.map) (room : HaveRoom l) (v : StateView St) (s : St) (ver : ℕ)
    (Own : ℕ → Type 0) (Pair : ℕ → ℕ → Type 0) (pairs : ArePairs l Pair) where
  abbrev Going : World → Type 0
  Going = GoesOn l v s ver Own Pair

  -- effects keep it undecided, and behind them it goes on
  pub record Kept (es : List Effect) (x : World) : Type 0 where
    pub through : HoldsThroughout (UndoneAt l v s) es x
    pub going : Going (world_after es x)

  -- a store that leaves the entries, VER and the version words
  stays : (x : World) (a w : ℕ) → a ≢ word_place l.map Version → ((i : ℕ) → i < l.map.versions.words → a ≢ l.map.versions.address + 2 * i)
      → logged l.map (world_after_one (Store a w) x).fram ≡ logged l.map x.fram → UndoneAt l v s (world_after_one (Store a w) x) → Going x
      → Going (world_after_one (Store a w) x)
  stays x a w number versions same undone g = record {
    undone = undone;
    number = put_other x.fram a w (word_place l.map Version) (λ q. number (sym q)) ∙ g.number;
    own = λ b h. subst (λ es. IsLogged es b) (sym same) (g.own b h);
    marked = λ element version h e.
        let other : version ≢ a = λ q. versions (pairs.index element version h) (pairs.below element version h) (sym q ∙ pairs.is element version h) in
        subst (λ es. IsLogged es element) (sym same) (g.marked element version h (sym (put_other x.fram a w version other) ∙ e));
  }

  -- a store to a plain word
  pub plain_goes : (x : World) (a w : ℕ) → w < 0x10000 → IsPlainWord l a → Going x → Kept (Store a w ∷ []) x
  plain_goes x a w small is g =
      let u = g.undone in
      let few = list_within l apart v s room x u in
      let off : IsSharedWord l a → ⊥ = λ h. ⊎_elim {C = ⊥} (λ low. omega (arith, apart, h, low)) (λ high. omega (arith, apart, h, high)) is.behind in
      let versions : (i : ℕ) → i < l.map.versions.words → a ≢ l.map.versions.address + 2 * i = λ i lt q.
      ⊎_elim {C = ⊥} (λ low. omega (arith, q, low)) (λ high. omega (arith, apart, q, lt, high)) is.behind in
      let beside : IsBeside l apart v s x a = record {
        leaves = record { current = is.current; gate = is.gate; base = is.base; shared = λ h. absurd (off h) };
        length = is.length;
        list = ⊎_elim {C = IsOutOf l.map.list.address (4 * list_length l x) a} (λ low. inl low) (λ high. inr (omega (arith, few, high))) is.list;
        unlogged = λ h. off (u.shared a h);
      } in
      let kept = beside_keeps l apart v s x a w small beside
      (versions_stay l apart v s (restored l x).fram a w (record { version = is.version; versions = versions }) u.behind.is_open.versions) u in
      record {
        through = (u, kept);
        going = stays x a w is.version versions (beside_entries l apart v s x a w beside) kept g;
      }

  -- a store to a shared word leaves the entries
  shared_entries : (x : World) (a w : ℕ) → IsSharedWord l a → UndoneAt l v s x → logged l.map (world_after_one (Store a w) x).fram ≡ logged l.map x.fram
  shared_entries x a w sh u =
      let few = list_within l apart v s room x u in
      entries_stay l apart v s x a w (λ q. omega (arith, apart, sh, q)) (inr (omega (arith, apart, sh, few)))

  -- a store to a shared word that is logged, or that the task writes in place
  pub shared_goes : (x : World) (a w : ℕ) → w < 0x10000 → IsSharedWord l a → IsLogged (logged l.map x.fram) a ⊎ (l.written_in_place (v.task s) a ≡ true)
      → Going x → Kept (Store a w ∷ []) x
  shared_goes x a w small sh either g =
      let u = g.undone in
      let through = shared_stores_stay St l v s x a w apart room u sh either small in
      let same : logged l.map (world_after_one (Store a w) x).fram ≡ logged l.map x.fram = shared_entries x a w sh u in
      record {
        through = through;
        going = stays x a w (λ q. omega (arith, apart, sh, q)) (λ i lt q. omega (arith, apart, sh, q, lt)) same through.1 g;
      }

  -- what takes nothing from FRAM and stores nothing
  pub taken_goes : (x : World) (w : ℕ) → Going x → Kept (Take w ∷ []) x
  taken_goes x w g = record { through = (g.undone, g.undone); going = g }

  -- a store to an element, logged before where it is the first
  module _ (x : World) (element version w : ℕ) (small : w < 0x10000) (pair : Pair element version) (g : Going x)
      (free : (x.fram version ≢ x.fram (word_place l.map Version)) → list_length l x < l.list_capacity (v.task s)) where
    abbrev f : ℕ → ℕ
    f = x.fram

    abbrev top : ℕ
    top = f (word_place l.map Version)

    sh : IsSharedWord l element
    sh = pairs.shared element version pair

    can : CanStore l v s element version x
    can = record {
      is_shared = sh;
      index = pairs.index element version pair;
      index_below = pairs.below element version pair;
      version_is = pairs.is element version pair;
      later = λ e. g.marked element version pair (e ∙ g.number);
      first = free;
    }

    through : HoldsThroughout (UndoneAt l v s) (element_stored l.map element version w f) x
    through = element_stores_stay St l v s x element version w apart room g.undone can small

    -- where its version word is VER
    later_going : f version ≡ top → Going (world_after_one (Store element w) x)
    later_going e = (shared_goes x element w small sh (inl (g.marked element version pair (e ∙ g.number))) g).going

    -- where it isn't
    module _ (n : f version ≢ top) where
      abbrev entry : Logged
      entry = record { address = element; word = f element }

      abbrev y : World
      y = world_after (word_logged l.map element f) x

      undecided : UndoneAt l v s y
      undecided = at_end (UndoneAt l v s) (UndoneAt l v s) (λ z k. k) (word_logged l.map element f) x
          (logs l apart v s room x element g.undone sh (free n)).through

      entries : logged l.map y.fram ≡ logged l.map f ++ entry ∷ []
      entries = (logs l apart v s room x element g.undone sh (free n)).entries

      leaves : (b : ℕ) → b ≢ word_place l.map ListLength → IsOutOf l.map.list.address (6 * l.map.entries) b → y.fram b ≡ f b
      leaves b other out = logs_leave l apart v s room x element g.undone sh (free n) b other out

      number_there : y.fram (word_place l.map Version) ≡ ver
      number_there = leaves (word_place l.map Version) (λ q. omega (arith, q)) (inl (omega (arith, apart))) ∙ g.number

      -- behind the entry
      logged_going : Going y
      logged_going = record {
        undone = undecided;
        number = number_there;
        own = λ b h. subst (λ es. IsLogged es b) (sym entries) (still_logged (logged l.map f) entry b (g.own b h));
        marked = λ e m h same.
            let is = pairs.is e m h in let below = pairs.below e m h in
            let there = leaves m (λ q. omega (arith, apart, is, q)) (inr (omega (arith, apart, is))) in
            subst (λ es. IsLogged es e) (sym entries) (still_logged (logged l.map f) entry e (g.marked e m h (sym there ∙ same)));
      }

      -- the store of VER to the version word
      abbrev z : World
      z = world_after_one (Store version top) y

      version_beside : IsBeside l apart v s y version
      version_beside =
          let is = pairs.is element version pair in let lt = pairs.below element version pair in
          let few = list_within l apart v s room y undecided in
          record {
            leaves = record {
              current = λ q. omega (arith, apart, is, q);
              gate = λ q. omega (arith, apart, is, q);
              base = λ q. omega (arith, apart, is, q);
              shared = λ h. absurd (omega (arith, apart, is, lt, h));
            };
            length = λ q. omega (arith, apart, is, q);
            list = inr (omega (arith, apart, is, few));
            unlogged = λ h. let shared = undecided.shared version h in omega (arith, apart, is, lt, shared);
          }

      same : logged l.map z.fram ≡ logged l.map y.fram
      same = beside_entries l apart v s y version top version_beside

      element_there : IsLogged (logged l.map z.fram) element
      element_there = subst (λ es. IsLogged es element) (sym (same ∙ entries)) (is_logged_last (logged l.map f) entry)

      marked_going : UndoneAt l v s z → Going z
      marked_going undone = record {
        undone = undone;
        number = let is = pairs.is element version pair in
            put_other y.fram version top (word_place l.map Version) (λ q. omega (arith, apart, is, q)) ∙ number_there;
        own = λ b h. subst (λ es. IsLogged es b) (sym same) (logged_going.own b h);
        marked = λ e m h k.
            ⊎_elim {C = IsLogged (logged l.map z.fram) e}
            (λ q. let one = pairs.one e element version (subst (λ o. Pair e o) q h) pair in
            subst (λ o. IsLogged (logged l.map z.fram) o) (sym one) element_there)
            (λ other. subst (λ es. IsLogged es e) (sym same) (logged_going.marked e m h (sym (put_other y.fram version top m other) ∙ k)))
            (cases_eq m version);
      }

    -- behind all of it
    abbrev Behind : Bool → Type 0
    Behind b = HoldsThroughout (UndoneAt l v s) ((if b then [] else word_logged l.map element f ++ (Store version top ∷ [])) ++ (Store element w ∷ [])) x
        → Going (world_after ((if b then [] else word_logged l.map element f ++ (Store version top ∷ [])) ++ (Store element w ∷ [])) x)

    first_behind : f version ≢ top → Behind false
    first_behind n h =
        -- the store of VER, and then of the word
        let undone : UndoneAt l v s (z n) = h.1.1.1.1.0 in
        (shared_goes (z n) element w small sh (inl (element_there n)) (marked_going n undone)).going

    pub element_goes : Kept (element_stored l.map element version w f) x
    element_goes = record {
      through = through;
      going = ⊎_elim {C = Behind (f version == top)} (λ e. subst Behind (sym (eq-eqb (f version) top e)) (λ h. later_going e))
          (λ n. subst Behind (sym (ne_eqb (f version) top n)) (first_behind n)) (cases_eq (f version) top) through;
    }

  -- ---- along effects

  pub kept-append : (es more : List Effect) (x : World) → Kept es x → Kept more (world_after es x) → Kept (es ++ more) x
  kept-append es more x a b = record {
    through = holds-append (UndoneAt l v s) es more x a.through b.through;
    going = subst Going (sym (world_after-append es more x)) b.going;
  }
