-- Behind the last store of a transition the world is decided to the state that the source comes to.
use Rattle.task_attempts.proofs.Names.{◌≡◌, ℕ, ◌+◌, ◌*◌, ◌<◌, ◌≤◌, List, ◌++◌, length, length-append, map, Some, true, false, refl}
use Rattle.task_attempts.proofs.Names.{sym, ap, ◌∙◌, subst, ⊎_elim, inl, arith, Contains, slice_get, flat_map}
use Rattle.task_attempts.proofs.Names.{cases_Bool, length-map, Effect, World}
use Rattle.task_attempts.proofs.Names.{each_store-front, each_store-back}
use Rattle.task_attempts.proofs.Names.{list_of, State, task_body}
use Rattle.task_attempts.proofs.Names.{CopyPair, scalar_pairs, entries_from, listed, scalar_pairs_count, some_path_writes, takes_append, few_entries}
use Rattle.task_attempts.proofs.Names.{scalar_seen, runs_of, IsAmong, IsSharedWord, IsCopyWord, EntriesHaveWords}
use Rattle.task_attempts.proofs.Names.{CopiesHome, DecidedFrom, TakesAndStores, element_pair}
use Rattle.task_attempts.proofs.Names.{stays_in_place, scalar_home, contains_at, scalar_found, found_word}
use Rattle.task_attempts.proofs.Names.{among_either, among_front, among_back, word_pair, among_scalars, scalars_among, StoresWords, Gate}
use Rattle.task_attempts.proofs.Names.{ListLength, Scalar, Array, PrivateScalar, word_place, scalar_words}
use Rattle.task_attempts.proofs.Names.{private_words, Element, IsElement, IsCopied, copy}
use Rattle.task_attempts.proofs.Names.{element_address, copy_address, IsWordOf, scalars_of}
use Rattle.memory_map.specs.Spots.{element}
use Rattle.task_attempts.proofs.Quiet.{IsQuiet, IsQuietAt, quiet_behind, stores_as}
use Rattle.task_attempts.proofs.Entries.{IsTransitionStore, transition_stores, closed_count, closed_pairs, closed_entries, Closing}
use Rattle.task_needs.specs.Needs.{privates_of, own_privates, elements_of}
use Rattle.task_needs.specs.Lists.{ListsWithin}
use Rattle.task_attempts.proofs.Listed.{among_map, map_among}
use Rattle.task_attempts.proofs.Tasks.{body_is, private_copy, private_not_in_place}
use Rattle.task_attempts.proofs.Started.{Attempting, scene, Started, redo_run}
use Rattle.lower.specs.Agreement.{DidWithin}
use Rattle.task_attempts.proofs.Leaving.{Transition, before as before_of, y as y_of, z as z_of, count as count_of, base as base_of, index as index_of}
use Rattle.task_attempts.proofs.Leaving.{transition as transition_of, leaving as leaving_of, next as next_of, bounds, words_before, few, z_is, z_before}
use Rattle.task_attempts.proofs.Leaving.{spot_stays, next_word, scalar_next, word_of_element, sends_and_closes, StoresOf}
use Rattle.task_attempts.proofs.Stores.{task_quiet, transition_quiet}
use Rattle.task_attempts.proofs.Words.{OwnWord, marked, unmarked, own_word_of, IsTaskWord, left_there, private, element as an_element, task_word, scalar_there}
use Rattle.task_attempts.proofs.Words.{element_word}
use Rattle.cost_bound.specs.Summaries.{summaries}

module _ (st : Started) where
  abbrev pub run : Attempting
  run = redo_run st

  open st use {program as p, map as l, given, state as s, task as i, facts, world as x, start}
  open (scene run) use {here, code, space, sites, view, ver}

  pub quiet_start : IsQuietAt sites view s ver x
  quiet_start = record { undecided = start.undecided; version = refl }

  pub quiet_of : (es : List Effect) → DidWithin here (bounds run) es → StoresWords es → TakesAndStores (IsQuiet sites s.task ver) es
  quiet_of es h k = stores_as (StoresOf run) (IsQuiet sites s.task ver) (task_quiet st) es h.stores k

  module _ (t : Transition run) where
    open t use {es, task, m, left, stored, next_task, rows}

    -- the effects but the last, and the worlds before the last and behind it
    abbrev before : List Effect
    before = before_of run t

    abbrev y : World
    y = y_of run t

    abbrev z : World
    z = z_of run t

    abbrev count : ℕ
    count = count_of run t

    abbrev leaving : Closing
    leaving = leaving_of run t

    abbrev next : State
    next = next_of run t

    pub quiet_before : TakesAndStores (IsQuiet sites s.task ver) before
    quiet_before =
        let words = words_before run t in
        takes_append (IsQuiet sites s.task ver) left.body (transition_of run t)
        (quiet_of left.body left.did (each_store-front (λ a w. w < 0x10000) left.body (transition_of run t) words))
        (stores_as (IsTransitionStore here space) (IsQuiet sites s.task ver) (transition_quiet st) (transition_of run t)
        (transition_stores here space task count (base_of run t) (index_of run t) (few run t))
        (each_store-back (λ a w. w < 0x10000) left.body (transition_of run t) words))

    pub u : IsQuietAt sites view s ver y
    u = quiet_behind sites view s ver before x quiet_before quiet_start

    few_words : length left.listed + private_words i.layout.privates ≤ list_of (summaries p) p.shared code
    few_words = facts.has_room left.listed left.stands.list.are_listed (λ v. let k = left.few v in omega (arith, k))

    -- the elements alone
    few_elements : length left.listed + scalars_of (summaries p) p.shared code ≤ list_of (summaries p) p.shared code
    few_elements = facts.elements left.listed left.stands.list.are_listed (λ v. let k = left.few v in omega (arith, k))

    private_next : (r : PrivateScalar) (n : ℕ) → Contains i.layout.privates r → n < scalar_words r.width
        → z.fram (2 * n + r.copy) ≡ view.word next (2 * n + r.home)
    private_next r n h below =
        let c = facts.privates in
        let o = c.only r h in
        let at : slice_get l.variables r.number ≡ Some (Scalar r.home r.copy r.width) = o.1.place in
        let there = scalar_there p.functions l code i.layout r.number r.home r.copy r.width n at below in
        ap z.fram (sym (ap (λ a. 2 * n + a) (c.private r.number r.home r.copy r.width at o.0)))
        ∙ scalar_next run t r.number n there
        ∙ sym (next_word run t r.number n (2 * n + r.home) (scalar_home l r.number r.home r.copy r.width n at below))

    of_copied : (e : Element) → IsCopied here e → IsElement here e
    of_copied e c = record { elements = c.elements; length = c.length; copies = Some c.copies; is_array = c.is_array; below = c.below }

    listed_copied : (e : Element) → Contains left.listed e → IsCopied here e
    listed_copied e h = subst (IsCopied here) h.2 (left.stands.list.are_listed.copied h.0 e h.1)

    -- a listed element's copy holds its new word
    listed_by : (e : Element) → Contains left.listed e → (h : IsElement here e) → OwnWord here left.there.fram e
        → z.fram (copy_address here e) ≡ view.word next (element_address here e)
    listed_by e c h (marked k m is) = spot_stays run t (copy e) k ∙ sym is ∙ left.stands.variables.elements e h ∙ sym (word_of_element run t e h)
    listed_by e c h (unmarked n is) = absurd (n (listed_copied e c) (left.stands.list.marked e c))

    listed_next : (e : Element) → Contains left.listed e
        → z.fram (copy_address here e) ≡ view.word next (element_address here e)
    listed_next e c =
        let h = of_copied e (listed_copied e c) in listed_by e c h (own_word_of here left.there.fram e facts.redo h)

    -- ---- the commit list

    z_count : z.fram (word_place l ListLength) ≡ count + length (runs_of i.layout.privates)
    z_count = ap (λ f. f (word_place l ListLength)) (z_is run t) ∙ closed_count leaving

    -- a pair of the list is an element with its copy, or a word of a private scalar with its copy
    data IsPair (q : CopyPair) : Type 0 where
      of_element : (e : Element) → Contains left.listed e → q.home ≡ element_address here e → q.copy ≡ copy_address here e → IsPair q
      of_private : (r : PrivateScalar) (n : ℕ) → Contains i.layout.privates r → n < scalar_words r.width → q.home ≡ 2 * n + r.home → q.copy ≡ 2 * n + r.copy
          → IsPair q

    -- what the list names: the elements, and the private scalars behind them
    z_pairs : listed sites.map z.fram ≡ map (element_pair here) left.listed ++ flat_map scalar_pairs i.layout.privates
    z_pairs =
        ap (λ f. entries_from (f (word_place l ListLength)) l.list.address f) (z_is run t)
        ∙ closed_pairs leaving (few run t)
        ∙ ap (λ ps. ps ++ flat_map scalar_pairs i.layout.privates) (left.stands.list.pairs facts.redo)

    abbrev Listed : CopyPair → Type 0
    Listed q = IsAmong (listed sites.map z.fram) q

    pair_of_list : (q : CopyPair) → Listed q → IsPair q
    pair_of_list q h =
        ⊎_elim {C = IsPair q}
        (λ c. let e = among_map (element_pair here) left.listed q c in of_element e.0 e.1 (ap (λ r. r.home) e.2) (ap (λ r. r.copy) e.2))
        (λ c.
        let r = among_scalars i.layout.privates q c in
        let w = r.pair in
        of_private r.scalar w.index (contains_at i.layout.privates r.number r.scalar r.at) w.below (ap (λ k. k.home) w.is) (ap (λ k. k.copy) w.is))
        (among_either (map (element_pair here) left.listed) (flat_map scalar_pairs i.layout.privates) q (subst (λ ps. IsAmong ps q) z_pairs h))

    element_listed : (e : Element) → Contains left.listed e → (q : CopyPair) × Listed q × (q.home ≡ element_address here e)
    element_listed e h = (
      element_pair here e,
      subst (λ ps. IsAmong ps (element_pair here e)) (sym z_pairs)
          (among_front (map (element_pair here) left.listed) (flat_map scalar_pairs i.layout.privates) (element_pair here e)
          (map_among (element_pair here) left.listed e h)),
      refl,
    )

    private_listed : (r : PrivateScalar) (n : ℕ) → Contains i.layout.privates r → n < scalar_words r.width
        → (q : CopyPair) × Listed q × (q.home ≡ 2 * n + r.home)
    private_listed r n h below = (
      word_pair r n,
      subst (λ ps. IsAmong ps (word_pair r n)) (sym z_pairs)
          (among_back (map (element_pair here) left.listed) (flat_map scalar_pairs i.layout.privates) (word_pair r n)
          (scalars_among i.layout.privates r n h below)),
      refl,
    )

    -- as many words as elements, and as private scalars have
    list_words : length (listed sites.map z.fram) ≡ length left.listed + private_words i.layout.privates
    list_words =
        let same = ap (length {A = CopyPair}) z_pairs in
        let both = length-append (map (element_pair here) left.listed) (flat_map scalar_pairs i.layout.privates) in
        let elements = length-map left.listed (element_pair here) in
        let scalars = scalar_pairs_count i.layout.privates in
        omega (arith, same, both, elements, scalars)

    -- the list is within the task's
    pub lists_within : ListsWithin p l s.task z.fram
    lists_within =
        let own : own_privates l s.task ≡ i.layout.privates = ap privates_of i.layout_is in
        let same : elements_of (summaries p) p.shared (task_body p s.task) ≡ elements_of (summaries p) p.shared code =
        ap (elements_of (summaries p) p.shared) (body_is p l s.task i) in
        let elements = few_elements in
        let entries = few_entries here 0 left.listed left.there.fram facts.redo left.stands.list in
        let runs = ap (λ ps. length (runs_of ps)) own in
        let words = ap private_words own in
        let counted = z_count in
        let named = list_words in
        record { entries = omega (arith, same, elements, entries, runs, counted); words = omega (arith, same, elements, words, named) }

    -- each entry has a word
    entries_have_words : EntriesHaveWords sites z.fram
    entries_have_words = subst (EntriesHaveWords sites) (sym (z_is run t)) (closed_entries leaving (few run t) (left.stands.list.runs facts.redo))

    -- ---- the world is decided

    shared_off_gate : (a : ℕ) → IsSharedWord sites a → a ≡ word_place l Gate → ⊥
    shared_off_gate a h e = let apart = given.source.apart in omega (arith, apart, h, e)

    -- a word that isn't written in place is still the state's
    home_is : (a : ℕ) → IsSharedWord sites a → sites.written_in_place s.task a ≡ false → z.fram a ≡ view.word s a
    home_is a h kept =
        z_before run t a (shared_off_gate a h)
        ∙ ⊎_elim {C = y.fram a ≡ view.word s a} (λ e. let clash : true ≡ false = sym e ∙ kept in absurd (cc)) (λ e. e) (u.undecided.shared a h)

    -- an element isn't written in place, since no scalar stands there
    element_not_in_place : (e : Element) → IsElement here e → sites.written_in_place s.task (element_address here e) ≡ false
    element_not_in_place e h =
        ⊎_elim {C = sites.written_in_place s.task (element_address here e) ≡ false} (λ w.
        let at = scalar_found (stays_in_place p.functions (task_body p s.task)) 0 l.variables (element_address here e) w in
        let word = element_word p.functions l code i.layout e h in
        let its = found_word (stays_in_place p.functions (task_body p s.task)) 0 l (element_address here e) at in
        let same = (given.source.words.one at.behind e.array at.index e.index (element_address here e) its word).0 in
        let scalar = scalar_seen (some_path_writes p.functions code) l.variables e.array at.home at.copy at.width
        (sym (ap (slice_get l.variables) same) ∙ at.place) in
        let both : Some (Array h.elements h.length h.copies) ≡ Some (Scalar at.home at.copy at.width) = sym h.is_array.place ∙ scalar in
        absurd (cc))
        (λ k. k) (cases_Bool (sites.written_in_place s.task (element_address here e)))

    -- what is listed isn't written in place
    pair_not_in_place : (q : CopyPair) → IsPair q → sites.written_in_place s.task q.home ≡ false
    pair_not_in_place q (of_element e h home copied) = ap (sites.written_in_place s.task) home ∙ element_not_in_place e (of_copied e (listed_copied e h))
    pair_not_in_place q (of_private r n h below home copied) =
        ap (sites.written_in_place s.task) home ∙ private_not_in_place p l given.privates s.task i r n h below

    is_home : (q : CopyPair) → IsPair q → IsSharedWord sites q.home
    is_home q (of_element e h home copied) =
        subst (IsSharedWord sites) (sym home)
        (given.source.words.is_shared e.array e.index (element_address here e)
        (element_word p.functions l code i.layout e (of_copied e (listed_copied e h))))
    is_home q (of_private r n h below home copied) =
        let word = scalar_home l r.number r.home r.copy r.width n (facts.privates.only r h).1.place below in
        subst (IsSharedWord sites) (sym home) (given.source.words.is_shared r.number n (2 * n + r.home) word)

    is_copy : (q : CopyPair) → IsPair q → IsCopyWord sites q.copy
    is_copy q (of_element e h home copied) = subst (IsCopyWord sites) (sym copied) (facts.seen.copies e (listed_copied e h))
    is_copy q (of_private r n h below home copied) = subst (IsCopyWord sites) (sym copied) (private_copy p l given.privates s.task i r n h below)

    is_copied : (q : CopyPair) → IsPair q → z.fram q.copy ≡ view.word next q.home
    is_copied q (of_element e h home copied) = ap z.fram copied ∙ listed_next e h ∙ ap (view.word next) (sym home)
    is_copied q (of_private r n h below home copied) = ap z.fram copied ∙ private_next r n h below ∙ ap (view.word next) (sym home)

    abbrev Unlisted : ℕ → Type 0
    Unlisted a = (q : CopyPair) → Listed q → q.home ≡ a → ⊥

    element_kept : (e : Element) (h : IsElement here e) → OwnWord here left.there.fram e
        → Unlisted (element_address here e)
        → z.fram (element_address here e) ≡ view.word next (element_address here e)
    element_kept e h (marked c k is) none = let q = element_listed e (left.stands.list.only_marked e c k) in absurd (none q.0 q.1 q.2)
    element_kept e h (unmarked n is) none = spot_stays run t (element e) h ∙ sym is ∙ left.stands.variables.elements e h ∙ sym (word_of_element run t e h)

    word_kept : (v n a : ℕ) → IsWordOf l v n a → IsTaskWord p.functions l code i.layout facts.privates v n a → Unlisted a
        → z.fram a ≡ view.word next a
    word_kept v n a h (left_there kind at) none = ap z.fram (sym at) ∙ scalar_next run t v n kind ∙ sym (next_word run t v n a h)
    word_kept v n a h (private r c below home) none = let q = private_listed r n c below in absurd (none q.0 q.1 (q.2 ∙ sym home))
    word_kept v n a h (an_element e is array index at) none =
        let kept = element_kept e is (own_word_of here left.there.fram e facts.redo is) (λ q k home. none q k (home ∙ sym at)) in
        ap z.fram at ∙ kept ∙ ap (view.word next) (sym at)

    others_kept : (a : ℕ) → IsSharedWord sites a → Unlisted a → z.fram a ≡ view.word next a
    others_kept a h none =
        let w = given.source.words.each a h in
        word_kept w.0 w.1 a w.2 (task_word p.functions l code i.layout facts.privates w.0 w.1 a w.2) none

    copies_home : CopiesHome sites view s next (listed sites.map z.fram) z
    copies_home =
        record {
          pairs_listed = refl;
          entries = entries_have_words;
          within_list = subst (λ b. z.fram (word_place l ListLength) ≤ list_of (summaries p) p.shared b) (sym (body_is p l s.task i))
              (let e = z_count in let f = few run t in omega (arith, e, f));
          within_words = subst (λ b. length (listed sites.map z.fram) ≤ list_of (summaries p) p.shared b) (sym (body_is p l s.task i))
              (let e = list_words in let f = few_words in omega (arith, e, f));
          homes = λ q h. is_home q (pair_of_list q h);
          copies = λ q h. is_copy q (pair_of_list q h);
          copied = λ q h. is_copied q (pair_of_list q h);
          either = λ q h. inl (home_is q.home (is_home q (pair_of_list q h)) (pair_not_in_place q (pair_of_list q h)));
          others = others_kept;
        }

    pub decided : DecidedFrom sites view s next z
    decided = record { emits = m.emitted; decided = record { sends = sends_and_closes run t u.undecided.is_open; home = copies_home } }
