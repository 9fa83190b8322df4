-- What the parts of steps do that only store words, and those that only push one: no step but an answer and a freezing stores a word that counts events.
use Rattle.std.proofs.Common.{◌≡◌, ◌≢◌, ℕ, zero, suc, ◌+◌, ◌*◌, ◌%◌, ◌==◌, ◌<◌, List, [], ◌∷◌, ◌++◌, Bool, true, false, nat_lt, refl, sym, ap, ◌∙◌, subst}
use Rattle.std.proofs.Common.{append-nil, arith, if◌then◌else◌}
use Rattle.std.proofs.lemmas.Bool.Decides.{nat_tests}
use Rattle.machine_effects.specs.fram_board.Effects.{Effect, Store, Take, Outside, Looked}
use Rattle.machine_effects.specs.World.{fram_after}
use Rattle.machine_effects.specs.Inputs.{Look}
use Rattle.machine_effects.proofs.Interface.{fram_after-append}
use Rattle.memory_map.specs.event_places.Places.{tail_place, count_place, sent_place, answer_place, head_place, slot_place}
use Rattle.array_versions.specs.declared.program.ArrayPlace.{ArrayPlace}
use Rattle.array_versions.specs.declared.program.ListPlace.{ListPlace}
use Rattle.array_versions.specs.declared.program.LoggedPlace.{LoggedPlace}
use Rattle.array_versions.specs.declared.operations.PlainOperation.{PlainOperation}
use Rattle.array_versions.specs.Operations.{plain_word}
use Rattle.array_versions.specs.Behaviour.{WordState, End, GoesOn, Jumps, Gives, Short, Strays, Broken, Behaviour, behaves, goes_on, strays, is_place, at_place}
use Rattle.array_versions.specs.Behaviour.{called_behind}
use Rattle.array_versions.specs.Behaviour.{pushed, stored, behind_effects, then_on, word_stored, element_pushed, word_emitted, raised, entry_stored}
use Rattle.array_versions.specs.Behaviour.{ends_before}
use Rattle.array_versions.specs.Behaviour.{listed_behind, own_element, versioned_pushed, first_stored, own_stored, versioned_stored, own_place, own_updated}
use Rattle.array_versions.specs.Behaviour.{versioned_updated, first_logged, own_logged, logged_stored, logged_updated}
use Rattle.event_rules.specs.Taking.{Taking, Open, SawHead, SawSlot, Took, next_index, looks_behind, FollowsSeeing, Ended, Next}
use Rattle.event_rules.proofs.Interface.{looks_after, joined}

-- what a word program's effects may be: stores in front of the words that count events, readings, answers, and freezings anywhere between them
pub data Asks (f : ℕ → ℕ) : Taking → Effect → Taking → Type 0 where
  Takes : {r : ℕ} → Asks f Open (Take r) Open
  Stores : {a w : ℕ} → a < tail_place → Asks f Open (Store a w) Open
  Looks : {look : Look} {head : ℕ} → head ≡ look head_place → Asks f Open (Outside (Looked look)) (SawHead head)
  Sees : {look : Look} {head word : ℕ} → word ≡ look (slot_place (next_index f)) → Asks f (SawHead head) (Outside (Looked look)) (SawSlot head word)
  AnswersNone : {head word a w : ℕ} → a ≡ answer_place → w ≡ 0 → next_index f ≡ head → Asks f (SawSlot head word) (Store a w) Open
  AnswersWord : {head word a w : ℕ} → a ≡ answer_place → w ≡ word → next_index f ≢ head → Asks f (SawSlot head word) (Store a w) Took
  Counts : {a w : ℕ} → a ≡ count_place → w ≡ (f count_place + 1) % 0x10000 → Asks f Took (Store a w) Open
  Freezes : {a w : ℕ} → a ≡ sent_place → w ≡ next_index f → Asks f Open (Store a w) Open

-- the looks behind effects and more of them
looks_after-append : (es fs : List Effect) (looks : List Look) → looks_after (es ++ fs) looks ≡ looks_after fs (looks_after es looks)
looks_after-append [] fs looks = refl
looks_after-append (e ∷ es) fs looks = looks_after-append es fs (looks_behind e looks)

-- effects from a state on
abbrev pub AsksFrom : WordState → List Effect → Type 0
AsksFrom s es = FollowsSeeing Asks s.fram s.inputs.looks Open es Open

-- with the state behind them
pub record Arrives (s : WordState) (es : List Effect) (t : WordState) : Type 0 where
  pub asks : AsksFrom s es
  pub fram : t.fram ≡ fram_after es s.fram
  pub looks : t.inputs.looks ≡ looks_after es s.inputs.looks

-- with how they end
abbrev pub Reaches : WordState → List Effect → End → Type 0
Reaches s es (GoesOn t) = Arrives s es t
Reaches s es (Jumps to t) = AsksFrom s es
Reaches s es (Gives v t) = Arrives s es t
Reaches s es Short = AsksFrom s es
Reaches s es Strays = AsksFrom s es
Reaches s es Broken = AsksFrom s es

abbrev pub Does : WordState → Behaviour → Type 0
Does s b = Reaches s b.effects b.end

abbrev pub Leads : (WordState → Behaviour) → Type 0
Leads go = (s : WordState) → Does s (go s)

-- ---- one behind another

asks_behind : {s t : WordState} {es : List Effect} (fs : List Effect) → Arrives s es t → AsksFrom t fs → AsksFrom s (es ++ fs)
asks_behind {s} {t} {es} fs k l =
    joined Asks k.asks
    (subst (λ (f : ℕ → ℕ). FollowsSeeing Asks f (looks_after es s.inputs.looks) Open fs Open) k.fram
    (subst (λ (looks : List Look). FollowsSeeing Asks t.fram looks Open fs Open) k.looks l))

arrives_behind : {s t u : WordState} {es fs : List Effect} → Arrives s es t → Arrives t fs u → Arrives s (es ++ fs) u
arrives_behind {s} {t} {u} {es} {fs} k l = record {
  asks = asks_behind fs k l.asks;
  fram = l.fram ∙ ap (fram_after fs) k.fram ∙ sym (fram_after-append es fs s.fram);
  looks = l.looks ∙ ap (looks_after fs) k.looks ∙ sym (looks_after-append es fs s.inputs.looks);
}

pub does_behind : {s t : WordState} {es : List Effect} (fs : List Effect) (e : End) → Arrives s es t → Reaches t fs e → Reaches s (es ++ fs) e
does_behind fs (GoesOn u) k l = arrives_behind k l
does_behind fs (Jumps to u) k l = asks_behind fs k l
does_behind fs (Gives v u) k l = arrives_behind k l
does_behind fs Short k l = asks_behind fs k l
does_behind fs Strays k l = asks_behind fs k l
does_behind fs Broken k l = asks_behind fs k l

ended : (s : WordState) (es : List Effect) → AsksFrom s es → AsksFrom s (es ++ [])
ended s es k = subst (AsksFrom s) (sym (append-nil es)) k

-- with a state behind them
arrived : {s t : WordState} (es : List Effect) → Arrives s es t → Arrives s (es ++ []) t
arrived {s} {t} es k = subst (λ l. Arrives s l t) (sym (append-nil es)) k

pub then_does : (s : WordState) (es : List Effect) (e : End) (next : WordState → Behaviour) → Reaches s es e → Leads next → Does s (then_on (behaves es e) next)
then_does s es (GoesOn t) next k l = does_behind (next t).effects (next t).end k (l t)
then_does s es (Jumps to t) next k l = ended s es k
then_does s es (Gives v t) next k l = arrived es k
then_does s es Short next k l = ended s es k
then_does s es Strays next k l = ended s es k
then_does s es Broken next k l = ended s es k

-- a function that is called, by how its body ends, whose stack and locals aren't its caller's
pub called_does : (s t : WordState) (es : List Effect) (e : End) → Reaches s es e → Does s (called_behind t (behaves es e))
called_does s t es (Gives v u) k = arrived es (record { asks = k.asks; fram = k.fram; looks = k.looks })
called_does s t es Short k = ended s es k
called_does s t es Strays k = ended s es k
called_does s t es Broken k = ended s es k
called_does s t es (GoesOn u) k = ended s es k.asks
called_does s t es (Jumps to u) k = ended s es k

-- ---- parts of steps

-- nothing is done but to stack and locals
pub still : {s t : WordState} → t.fram ≡ s.fram → t.inputs.looks ≡ s.inputs.looks → Arrives s [] t
still f l = record { asks = Ended; fram = f; looks = l }

-- one of two ways
pub one_does : (c : Bool) (s : WordState) (a b : Behaviour) → Does s a → Does s b → Does s (if c then a else b)
one_does true s a b h k = h
one_does false s a b h k = k

-- where a place is wanted
does_at : (c : Bool) (s : WordState) (b : Behaviour) → (c ≡ true → Does s b) → Does s (if c then b else strays)
does_at true s b h = h refl
does_at false s b h = Ended

place_low : (a : ℕ) → is_place a ≡ true → a < tail_place
place_low a e = grind (arith, nat_tests)

-- a store in front
stores_first : (s : WordState) (es : List Effect) (a v : ℕ) (e : End) → a < tail_place → Reaches (stored a v s) es e → Reaches s (Store a v ∷ es) e
stores_first s es a v (GoesOn t) low k = record { asks = Next (Stores low) k.asks; fram = k.fram; looks = k.looks }
stores_first s es a v (Jumps to t) low k = Next (Stores low) k
stores_first s es a v (Gives w t) low k = record { asks = Next (Stores low) k.asks; fram = k.fram; looks = k.looks }
stores_first s es a v Short low k = Next (Stores low) k
stores_first s es a v Strays low k = Next (Stores low) k
stores_first s es a v Broken low k = Next (Stores low) k

-- the last one
stores_last : (a v : ℕ) (s : WordState) → a < tail_place → Does s (goes_on (Store a v ∷ []) (stored a v s))
stores_last a v s low = stores_first s [] a v (GoesOn (stored a v s)) low (still refl refl)

-- the word at a place is pushed
pub loads : (a : ℕ) (s : WordState) → Does s (at_place a (goes_on [] (pushed (s.fram a) s)))
loads a s = does_at (is_place a) s _ (λ e. still refl refl)

pub element_pushes : (base length i : ℕ) (s : WordState) → Does s (element_pushed base length i s)
element_pushes base length i s = one_does (nat_lt i length) s _ _ (loads (2 * i + base) s) (still refl refl)

own_pushes : (place : ArrayPlace) (list : ListPlace) (i : ℕ) (s : WordState) → Does s (own_element place list i s)
own_pushes place list i s =
    let m = 2 * i + place.versions in
    does_at (is_place list.ver) s _ (λ e. does_at (is_place m) s _ (λ f.
    one_does (s.fram list.ver == s.fram m) s _ _ (loads (2 * i + place.copies) s) (loads (2 * i + place.elements) s)))

pub versioned_pushes : (place : ArrayPlace) (list : ListPlace) (i : ℕ) (s : WordState) → Does s (versioned_pushed place list i s)
versioned_pushes place list i s = one_does (nat_lt i place.length) s _ _ (own_pushes place list i s) (still refl refl)

pub word_stores : (a v : ℕ) (s : WordState) → Does s (word_stored a v s)
word_stores a v s = does_at (is_place a) s _ (λ e. stores_last a v s (place_low a e))

pub emitted_stores : (count buffer v : ℕ) (s : WordState) → Does s (word_emitted count buffer v s)
emitted_stores count buffer v s =
    let n = s.fram count in
    let a = 2 * n + buffer in
    does_at (is_place count) s _ (λ e. does_at (is_place a) s _ (λ f.
    stores_first s (Store count (n + 1) ∷ []) a v (GoesOn (stored count (n + 1) (stored a v s))) (place_low a f)
    (stores_last count (n + 1) (stored a v s) (place_low count e))))

raised_stores : (a : ℕ) (s : WordState) → is_place a ≡ true → Does s (raised a s)
raised_stores a s e = stores_last a ((s.fram a + 1) % 65536) s (place_low a e)

pub entry_stores : (count list home copy words : ℕ) (s : WordState) → Does s (entry_stored count list home copy words s)
entry_stores count list home copy words s =
    let a = 6 * s.fram count + list in
    let s1 = stored a home s in
    let s2 = stored (a + 2) copy s1 in
    let s3 = stored (a + 4) words s2 in
    let last = raised count s3 in
    does_at (is_place count) s _ (λ e. does_at (is_place a) s _ (λ f. does_at (is_place (a + 2)) s _ (λ g. does_at (is_place (a + 4)) s _ (λ i.
    stores_first s (Store (a + 2) copy ∷ Store (a + 4) words ∷ last.effects) a home last.end (place_low a f)
    (stores_first s1 (Store (a + 4) words ∷ last.effects) (a + 2) copy last.end (place_low (a + 2) g)
    (stores_first s2 last.effects (a + 4) words last.end (place_low (a + 4) i) (raised_stores count s3 e)))))))

listed_stores : (n : ℕ) (list : ListPlace) (home copy : ℕ) (s : WordState) → Does s (listed_behind n list home copy s)
listed_stores zero list home copy s = entry_stores list.cln list.list home copy 1 s
listed_stores (suc n) list home copy s =
    let a = 6 * n + list.list in
    does_at (is_place a) s _ (λ e. does_at (is_place (a + 2)) s _ (λ f. does_at (is_place (a + 4)) s _ (λ g.
    one_does (ends_before s.fram a home copy) s _ _ (raised_stores (a + 4) s g) (entry_stores list.cln list.list home copy 1 s))))

first_stores : (place : ArrayPlace) (list : ListPlace) (i : ℕ) (s : WordState) → is_place (2 * i + place.versions) ≡ true → Does s (first_stored place list i s)
first_stores place list i s m_place =
    let m = 2 * i + place.versions in
    let a = 2 * i + place.elements in
    let v = s.fram list.ver in
    let t = stored m v s in
    let last = at_place list.cln (listed_behind (t.fram list.cln) list a (2 * i + place.copies) t) in
    does_at (is_place a) s _ (λ e. stores_first s last.effects m v last.end (place_low m m_place)
    (does_at (is_place list.cln) t _ (λ f. listed_stores (t.fram list.cln) list a (2 * i + place.copies) t)))

-- a store to an element's copy, the first one or another
copy_stores : (b : Bool) (place : ArrayPlace) (list : ListPlace) (i v : ℕ) (s : WordState) → is_place (2 * i + place.copies) ≡ true
    → is_place (2 * i + place.versions) ≡ true → let c = 2 * i + place.copies in
    Does s (if b then goes_on (Store c v ∷ []) (stored c v s) else behind_effects (Store c v ∷ []) (first_stored place list i (stored c v s)))
copy_stores true place list i v s c_place m_place = stores_last (2 * i + place.copies) v s (place_low _ c_place)
copy_stores false place list i v s c_place m_place =
    let c = 2 * i + place.copies in
    let rest = first_stored place list i (stored c v s) in
    stores_first s rest.effects c v rest.end (place_low c c_place) (first_stores place list i (stored c v s) m_place)

own_stores : (place : ArrayPlace) (list : ListPlace) (i v : ℕ) (s : WordState) → Does s (own_stored place list i v s)
own_stores place list i v s =
    let c = 2 * i + place.copies in
    let m = 2 * i + place.versions in
    let t = stored c v s in
    does_at (is_place c) s _ (λ e. does_at (is_place list.ver) s _ (λ f. does_at (is_place m) s _ (λ g.
    copy_stores (t.fram list.ver == t.fram m) place list i v s e g)))

pub versioned_stores : (place : ArrayPlace) (list : ListPlace) (i v : ℕ) (s : WordState) → Does s (versioned_stored place list i v s)
versioned_stores place list i v s = one_does (nat_lt i place.length) s _ _ (own_stores place list i v s) (still refl refl)

own_updates : (op : PlainOperation) (place : ArrayPlace) (list : ListPlace) (i v : ℕ) (s : WordState) → Does s (own_updated op place list i v s)
own_updates op place list i v s =
    let m = 2 * i + place.versions in
    let c = 2 * i + place.copies in
    let b = s.fram list.ver == s.fram m in
    let a = own_place b place i in
    does_at (is_place list.ver) s _ (λ e. does_at (is_place m) s _ (λ g. does_at (is_place a) s _ (λ f.
    does_at (is_place c) s _ (λ h. copy_stores b place list i (plain_word op (s.fram a) v) s h g))))

pub versioned_updates : (op : PlainOperation) (place : ArrayPlace) (list : ListPlace) (i v : ℕ) (s : WordState) → Does s (versioned_updated op place list i v s)
versioned_updates op place list i v s = one_does (nat_lt i place.length) s _ _ (own_updates op place list i v s) (still refl refl)

-- ---- elements that are logged

logged_first_stores : (list : ListPlace) (e m : ℕ) (word : WordState → ℕ) (s : WordState) → is_place e ≡ true → is_place m ≡ true
    → Does s (first_logged list e m s (λ t. goes_on (Store e (word t) ∷ []) (stored e (word t) t)))
logged_first_stores list e m word s e_place m_place =
    let a = list.list + 4 * s.fram list.cln in
    let s1 = stored a e s in
    let s2 = stored (a + 2) (s1.fram e) s1 in
    let n = (s2.fram list.cln + 1) % 65536 in
    let s3 = stored list.cln n s2 in
    let s4 = stored m (s3.fram list.ver) s3 in
    let end = GoesOn (stored e (word s4) s4) in
    let kept = Store e (word s4) ∷ [] in
    let marked = Store m (s3.fram list.ver) ∷ kept in
    let counted = Store list.cln n ∷ marked in
    does_at (is_place list.cln) s _ (λ c. does_at (is_place a) s _ (λ f. does_at (is_place (a + 2)) s _ (λ g.
    stores_first s (Store (a + 2) (s1.fram e) ∷ counted) a e end (place_low a f)
    (stores_first s1 counted (a + 2) (s1.fram e) end (place_low (a + 2) g)
    (stores_first s2 marked list.cln n end (place_low list.cln c)
    (stores_first s3 kept m (s3.fram list.ver) end (place_low m m_place) (stores_last e (word s4) s4 (place_low e e_place))))))))

own_logged_stores : (place : LoggedPlace) (list : ListPlace) (i : ℕ) (word : WordState → ℕ) (s : WordState) → Does s (own_logged place list i word s)
own_logged_stores place list i word s =
    let e = 2 * i + place.elements in
    let m = 2 * i + place.versions in
    does_at (is_place e) s _ (λ f. does_at (is_place list.ver) s _ (λ g. does_at (is_place m) s _ (λ h.
    one_does (s.fram list.ver == s.fram m) s _ _ (stores_last e (word s) s (place_low e f)) (logged_first_stores list e m word s f h))))

pub logged_stores : (place : LoggedPlace) (list : ListPlace) (i v : ℕ) (s : WordState) → Does s (logged_stored place list i v s)
logged_stores place list i v s = one_does (nat_lt i place.length) s _ _ (own_logged_stores place list i (λ t. v) s) (still refl refl)

pub logged_updates : (op : PlainOperation) (place : LoggedPlace) (list : ListPlace) (i v : ℕ) (s : WordState) → Does s (logged_updated op place list i v s)
logged_updates op place list i v s =
    let e = 2 * i + place.elements in
    one_does (nat_lt i place.length) s _ _ (own_logged_stores place list i (λ t. plain_word op (t.fram e) v) s) (still refl refl)
