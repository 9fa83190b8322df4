-- The parts of steps that only write FRAM, and those that only push a word: what each does, said once for all facts of programs.
use Rattle.std.proofs.Common.{◌≡◌, ℕ, zero, suc, ◌+◌, ◌*◌, ◌%◌, ◌==◌, ◌<◌, List, [], ◌∷◌, Bool, true, false, nat_lt, refl, arith, if◌then◌else◌}
use Rattle.machine_effects.specs.fram_board.Effects.{Effect, Store}
use Rattle.array_versions.specs.declared.program.ArrayPlace.{ArrayPlace}
use Rattle.array_versions.specs.declared.program.ListPlace.{ListPlace}
use Rattle.array_versions.specs.declared.program.LoggedPlace.{LoggedPlace}
use Rattle.array_versions.specs.declared.operations.PlainOperation.{PlainOperation}
use Rattle.array_versions.specs.Operations.{plain_word}
use Rattle.array_versions.specs.Behaviour.{WordState, End, GoesOn, Strays, Behaviour, goes_on, strays, is_place, at_place, pushed, stored, behind_effects}
use Rattle.array_versions.specs.Behaviour.{word_stored, element_pushed, word_emitted, raised, entry_stored, ends_before, listed_behind, own_element}
use Rattle.array_versions.specs.Behaviour.{versioned_pushed, first_stored, own_stored, versioned_stored, own_place, own_kept, own_updated, versioned_updated}
use Rattle.array_versions.specs.Behaviour.{first_logged, own_logged, logged_stored, logged_updated}
use Rattle.array_versions.specs.Laws.{IsStateOfWords}
use Rattle.array_versions.proofs.Words.{plain_small, stored_words, place_high}

-- From a state words are stored, and then it goes on; or it comes to an address that isn't in FRAM. Where `W` is given, each is a word
pub data Writes (W : Type 0) : WordState → List Effect → End → Type 0 where
  astray : {s : WordState} → Writes W s [] Strays
  done : {s : WordState} → Writes W s [] (GoesOn s)
  writes : {s : WordState} {es : List Effect} {e : End} (a v : ℕ) → (W → v < 0x10000) → Writes W (stored a v s) es e → Writes W s (Store a v ∷ es) e

-- From a state a word is pushed, or it comes to an address that isn't in FRAM. Where `W` is given, it is a word
pub data Pushes (W : Type 0) (s : WordState) : List Effect → End → Type 0 where
  off : Pushes W s [] Strays
  on_top : (v : ℕ) → (W → v < 0x10000) → Pushes W s [] (GoesOn (pushed v s))

module _ (W : Type 0) where
  -- all in a state are words, where `W` is given
  abbrev pub Known : WordState → Type 0
  Known s = W → IsStateOfWords s

  abbrev WritesBy : WordState → Behaviour → Type 0
  WritesBy s b = Writes W s b.effects b.end

  abbrev PushesBy : WordState → Behaviour → Type 0
  PushesBy s b = Pushes W s b.effects b.end

  -- where a place is wanted
  writes_at : (c : Bool) (s : WordState) (b : Behaviour) → (c ≡ true → WritesBy s b) → WritesBy s (if c then b else strays)
  writes_at true s b h = h refl
  writes_at false s b h = astray

  pushes_at : (c : Bool) (s : WordState) (b : Behaviour) → PushesBy s b → PushesBy s (if c then b else strays)
  pushes_at true s b h = h
  pushes_at false s b h = off

  -- ---- what is pushed

  -- the word at a place
  pub loads : (a : ℕ) (s : WordState) → Known s → PushesBy s (at_place a (goes_on [] (pushed (s.fram a) s)))
  loads a s i = pushes_at (is_place a) s _ (on_top (s.fram a) (λ x. (i x).fram a))

  pub element_pushes : (base length i : ℕ) (s : WordState) → Known s → PushesBy s (element_pushed base length i s)
  element_pushes base length i s k = by (nat_lt i length)
    where
      by : (c : Bool) → PushesBy s (if c then at_place (2 * i + base) (goes_on [] (pushed (s.fram (2 * i + base)) s)) else goes_on [] (pushed 0 s))
      by true = loads (2 * i + base) s k
      by false = on_top 0 (λ x. omega arith)

  -- an element as this attempt has it
  own_pushes : (b : Bool) (c e : ℕ) (s : WordState) → Known s
      → PushesBy s (if b then at_place c (goes_on [] (pushed (s.fram c) s)) else at_place e (goes_on [] (pushed (s.fram e) s)))
  own_pushes true c e s k = loads c s k
  own_pushes false c e s k = loads e s k

  pub versioned_pushes : (place : ArrayPlace) (list : ListPlace) (i : ℕ) (s : WordState) → Known s → PushesBy s (versioned_pushed place list i s)
  versioned_pushes place list i s k = by (nat_lt i place.length)
    where
      by : (c : Bool) → PushesBy s (if c then own_element place list i s else goes_on [] (pushed 0 s))
      by true =
          let m = 2 * i + place.versions in
          pushes_at (is_place list.ver) s _ (pushes_at (is_place m) s _
          (own_pushes (s.fram list.ver == s.fram m) (2 * i + place.copies) (2 * i + place.elements) s k))
      by false = on_top 0 (λ x. omega arith)

  -- ---- what is written

  pub word_writes : (a v : ℕ) (s : WordState) → (W → v < 0x10000) → WritesBy s (word_stored a v s)
  word_writes a v s l = writes_at (is_place a) s _ (λ e. writes a v l done)

  pub emitted_writes : (count buffer v : ℕ) (s : WordState) → (W → v < 0x10000) → WritesBy s (word_emitted count buffer v s)
  emitted_writes count buffer v s l =
      let n = s.fram count in
      let a = 2 * n + buffer in
      writes_at (is_place count) s _ (λ e. writes_at (is_place a) s _ (λ f.
      let low = place_high a f in
      writes a v l (writes count (n + 1) (λ x. omega arith) done)))

  raised_writes : (a : ℕ) (s : WordState) → WritesBy s (raised a s)
  raised_writes a s = let n = s.fram a + 1 in writes a (n % 65536) (λ x. omega arith) done

  pub entry_writes : (count list home copy words : ℕ) (s : WordState) → (W → home < 0x10000) → (W → copy < 0x10000) → (W → words < 0x10000)
      → WritesBy s (entry_stored count list home copy words s)
  entry_writes count list home copy words s h k l =
      let a = 6 * s.fram count + list in
      writes_at (is_place count) s _ (λ e. writes_at (is_place a) s _ (λ f. writes_at (is_place (a + 2)) s _ (λ g. writes_at (is_place (a + 4)) s _ (λ i.
      writes a home h (writes (a + 2) copy k (writes (a + 4) words l (raised_writes count _)))))))

  -- the last entry gets longer, or there is one more
  longer_writes : (b : Bool) (list : ListPlace) (a home copy : ℕ) (s : WordState) → (W → home < 0x10000) → (W → copy < 0x10000)
      → WritesBy s (if b then raised (a + 4) s else entry_stored list.cln list.list home copy 1 s)
  longer_writes true list a home copy s h k = raised_writes (a + 4) s
  longer_writes false list a home copy s h k = entry_writes list.cln list.list home copy 1 s h k (λ x. omega arith)

  listed_writes : (n : ℕ) (list : ListPlace) (home copy : ℕ) (s : WordState) → (W → home < 0x10000) → (W → copy < 0x10000)
      → WritesBy s (listed_behind n list home copy s)
  listed_writes zero list home copy s h k = entry_writes list.cln list.list home copy 1 s h k (λ x. omega arith)
  listed_writes (suc n) list home copy s h k =
      let a = 6 * n + list.list in
      writes_at (is_place a) s _ (λ e. writes_at (is_place (a + 2)) s _ (λ f. writes_at (is_place (a + 4)) s _ (λ g.
      longer_writes (ends_before s.fram a home copy) list a home copy s h k)))

  first_writes : (place : ArrayPlace) (list : ListPlace) (i : ℕ) (s : WordState) → 2 * i + place.copies < 0x10000 → Known s
      → WritesBy s (first_stored place list i s)
  first_writes place list i s l k =
      let m = 2 * i + place.versions in
      let a = 2 * i + place.elements in
      let t = stored m (s.fram list.ver) s in
      writes_at (is_place a) s _ (λ e. writes m (s.fram list.ver) (λ x. (k x).fram list.ver) (writes_at (is_place list.cln) t _ (λ f.
      listed_writes (t.fram list.cln) list a (2 * i + place.copies) t (λ x. place_high a e) (λ x. l))))

  -- a store to an element's copy, the first one or another
  copy_writes : (b : Bool) (place : ArrayPlace) (list : ListPlace) (i v : ℕ) (s : WordState) → (W → v < 0x10000) → 2 * i + place.copies < 0x10000 → Known s
      → let c = 2 * i + place.copies in
      WritesBy s (if b then goes_on (Store c v ∷ []) (stored c v s) else behind_effects (Store c v ∷ []) (first_stored place list i (stored c v s)))
  copy_writes true place list i v s l h k = writes (2 * i + place.copies) v l done
  copy_writes false place list i v s l h k =
      let c = 2 * i + place.copies in
      writes c v l (first_writes place list i (stored c v s) h (λ x. stored_words s c v (k x) (l x)))

  pub versioned_writes : (place : ArrayPlace) (list : ListPlace) (i v : ℕ) (s : WordState) → (W → v < 0x10000) → Known s
      → WritesBy s (versioned_stored place list i v s)
  versioned_writes place list i v s l k = by (nat_lt i place.length)
    where
      by : (b : Bool) → WritesBy s (if b then own_stored place list i v s else goes_on [] s)
      by true =
          let c = 2 * i + place.copies in
          let m = 2 * i + place.versions in
          let t = stored c v s in
          writes_at (is_place c) s _ (λ e. writes_at (is_place list.ver) s _ (λ f. writes_at (is_place m) s _ (λ g.
          copy_writes (t.fram list.ver == t.fram m) place list i v s l (place_high c e) k)))
      by false = done

  kept_writes : (b : Bool) (place : ArrayPlace) (list : ListPlace) (i v : ℕ) (s : WordState) → (W → v < 0x10000) → Known s
      → WritesBy s (own_kept b place list i v s)
  kept_writes b place list i v s l k =
      let c = 2 * i + place.copies in writes_at (is_place c) s _ (λ e. copy_writes b place list i v s l (place_high c e) k)

  pub updated_writes : (op : PlainOperation) (place : ArrayPlace) (list : ListPlace) (i v : ℕ) (s : WordState) → (W → v < 0x10000) → Known s
      → WritesBy s (versioned_updated op place list i v s)
  updated_writes op place list i v s l k = by (nat_lt i place.length)
    where
      by : (b : Bool) → WritesBy s (if b then own_updated op place list i v s else goes_on [] s)
      by true =
          let m = 2 * i + place.versions in
          let c = s.fram list.ver == s.fram m in
          let a = own_place c place i in
          writes_at (is_place list.ver) s _ (λ e. writes_at (is_place m) s _ (λ f. writes_at (is_place a) s _ (λ g.
          kept_writes c place list i (plain_word op (s.fram a) v) s (λ x. plain_small op (s.fram a) v ((k x).fram a) (l x)) k)))
      by false = done

  -- an element is logged in front of what writes behind it
  logged_first_writes : (list : ListPlace) (e m : ℕ) (s : WordState) (next : WordState → Behaviour) → e < 0x10000 → Known s
      → ((t : WordState) → Known t → WritesBy t (next t)) → WritesBy s (first_logged list e m s next)
  logged_first_writes list e m s next small k follows =
      let a = list.list + 4 * s.fram list.cln in
      let t = stored a e s in
      let u = stored (a + 2) (t.fram e) t in
      let n = (u.fram list.cln + 1) % 65536 in
      let x = stored list.cln n u in
      let words : Known t = λ y. stored_words s a e (k y) small in
      let more : Known u = λ y. stored_words t (a + 2) (t.fram e) (words y) ((words y).fram e) in
      let counted : Known x = λ y. stored_words u list.cln n (more y) (omega arith) in
      let y = stored m (x.fram list.ver) x in
      writes_at (is_place list.cln) s _ (λ f. writes_at (is_place a) s _ (λ g. writes_at (is_place (a + 2)) s _ (λ h.
      writes a e (λ z. small) (writes (a + 2) (t.fram e) (λ z. (words z).fram e) (writes list.cln n (λ z. omega arith)
      (writes m (x.fram list.ver) (λ z. (counted z).fram list.ver)
      (follows y (λ z. stored_words x m (x.fram list.ver) (counted z) ((counted z).fram list.ver)))))))))

  -- what writes a word of this state
  abbrev keeps : ℕ → (WordState → ℕ) → WordState → Behaviour
  keeps e word t = goes_on (Store e (word t) ∷ []) (stored e (word t) t)

  keeps_writes : (e : ℕ) (word : WordState → ℕ) → ((t : WordState) → Known t → W → word t < 0x10000) → (t : WordState) → Known t
      → WritesBy t (keeps e word t)
  keeps_writes e word l t j = writes e (word t) (l t j) done

  -- a store to an element in its place, logged or not
  kept_logged_writes : (b : Bool) (list : ListPlace) (e m : ℕ) (word : WordState → ℕ) (s : WordState) → e < 0x10000
      → ((t : WordState) → Known t → W → word t < 0x10000) → Known s
      → WritesBy s (if b then keeps e word s else first_logged list e m s (keeps e word))
  kept_logged_writes true list e m word s small l k = keeps_writes e word l s k
  kept_logged_writes false list e m word s small l k = logged_first_writes list e m s (keeps e word) small k (keeps_writes e word l)

  own_logged_writes : (place : LoggedPlace) (list : ListPlace) (i : ℕ) (word : WordState → ℕ) (s : WordState)
      → ((t : WordState) → Known t → W → word t < 0x10000) → Known s → WritesBy s (own_logged place list i word s)
  own_logged_writes place list i word s l k =
      let e = 2 * i + place.elements in
      let m = 2 * i + place.versions in
      writes_at (is_place e) s _ (λ f. writes_at (is_place list.ver) s _ (λ g. writes_at (is_place m) s _ (λ h.
      kept_logged_writes (s.fram list.ver == s.fram m) list e m word s (place_high e f) l k)))

  pub logged_writes : (place : LoggedPlace) (list : ListPlace) (i v : ℕ) (s : WordState) → (W → v < 0x10000) → Known s
      → WritesBy s (logged_stored place list i v s)
  logged_writes place list i v s l k = by (nat_lt i place.length)
    where
      by : (b : Bool) → WritesBy s (if b then own_logged place list i (λ t. v) s else goes_on [] s)
      by true = own_logged_writes place list i (λ t. v) s (λ t j. l) k
      by false = done

  pub logged_update_writes : (op : PlainOperation) (place : LoggedPlace) (list : ListPlace) (i v : ℕ) (s : WordState) → (W → v < 0x10000) → Known s
      → WritesBy s (logged_updated op place list i v s)
  logged_update_writes op place list i v s l k = by (nat_lt i place.length)
    where
      by : (b : Bool) → WritesBy s (if b then own_logged place list i (λ t. plain_word op (t.fram (2 * i + place.elements)) v) s else goes_on [] s)
      by true =
          let e = 2 * i + place.elements in
          own_logged_writes place list i (λ t. plain_word op (t.fram e) v) s (λ t j x. plain_small op (t.fram e) v ((j x).fram e) (l x)) k
      by false = done
