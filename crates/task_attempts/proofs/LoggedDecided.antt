-- Under undo what a task does keeps the world undecided, and behind the last store of a transition it is decided to the state that the source comes to.
use Rattle.task_attempts.proofs.Names.{◌≡◌, ℕ, ◌+◌, ◌*◌, ◌%◌, ◌<◌, ◌≤◌, List, [], ◌∷◌, ◌++◌, Some, true, false, Bool, refl, sym, ap, ◌∙◌, subst, inl}
use Rattle.task_attempts.proofs.Names.{inr, arith, Effect, Store, World, world_after, each_store-front, each_store-back, HoldsThroughout, State}
use Rattle.task_attempts.proofs.Names.{some_path_writes, StoresWords, CurrentTask, NextTask, Gate, Base, SentBase, ListLength, Version, word_place}
use Rattle.task_attempts.proofs.Names.{where_events, sent_place, VariablePlace, Scalar, Array, slice_get, scalar_address, Element}
use Rattle.task_attempts.proofs.Names.{IsWordOf, Undo, home_region}
use Rattle.memory_map.specs.Spots.{element}
use Rattle.lower.specs.Seen.{task_seen}
use Rattle.lower.specs.Agreement.{DidWithin}
use Rattle.stands_for.specs.StandsFor.{IsOpen}
use Rattle.undo_effects.specs.Entries.{logged, IsLogged, undone}
use Rattle.undo_effects.proofs.Interface.{undone_other}
use Rattle.undo_states.specs.States.{UndoneAt, ClosesFrom}
use Rattle.undo_states.proofs.Interface.{IsPlainWord, GoesOn, Kept, plain_goes, kept-append}
use Rattle.compiled_model.specs.Parts.{private_homes}
use Rattle.task_attempts.proofs.LoggedActs.{IsPair, ActsFit, acts_keep}
use Rattle.task_attempts.proofs.LoggedFit.{IsOwn, own_logged}
use Rattle.task_attempts.proofs.Started.{Attempting, scene, Logged, undo_run}
use Rattle.task_attempts.proofs.Words.{own_in_place, scalar_there, element_there}
use Rattle.task_attempts.proofs.Leaving.{Transition, bounds, before as before_of, transition as transition_of, base as base_of, index as index_of, y as y_of}
use Rattle.task_attempts.proofs.Leaving.{z as z_of, next as next_of, words_before, z_before, spot_stays, next_word, scalar_next, sends_and_closes}

module _ (st : Logged) where
  abbrev pub run : Attempting
  run = undo_run st

  open st use {program as p, map as l, given, state as s, task as i, facts, world as x, start}
  open (scene run) use {here, code, space, sites, view, ver}

  fit : ActsFit p l s here (some_path_writes p.functions code) space (IsOwn (private_homes l s.task))
  fit = given.fits s i.task i.layout i.task_is i.layout_is

  -- the words that the start lists
  abbrev Own : ℕ → Type 0
  Own = IsOwn (private_homes l s.task)

  abbrev Going : World → Type 0
  Going = GoesOn sites view s ver Own (IsPair here)

  abbrev KeptBy : List Effect → World → Type 0
  KeptBy = Kept sites given.source.apart given.source.room view s ver Own (IsPair here) fit.pairs

  -- behind the start the attempt goes on: no element is marked
  begun : Going x
  begun = record {
    undone = start.undecided;
    number = refl;
    own = λ a h. subst (λ es. IsLogged es a) (sym start.entries) (own_logged view s (private_homes l s.task) a h);
    marked = λ element version h e.
        let v = facts.seen.versions h.item h.copied in
        let below = start.versions v.number v.below in
        let at = ap x.fram (h.version_at ∙ v.is) in
        absurd (omega (arith, at, below, e));
  }

  -- what statements do
  did_keeps : (es : List Effect) → DidWithin here (bounds run) es → StoresWords es → KeptBy es x
  did_keeps es did words =
      let made = did.acts given.undo in
      subst (λ fs. KeptBy fs x) (sym made.is)
      (acts_keep p l given.source.apart given.source.room s code (task_seen Undo i.layout) (some_path_writes p.functions code) space ver Own fit made.acts x
      (subst StoresWords made.is words) made.each begun)

  pub throughout : (es : List Effect) → DidWithin here (bounds run) es → StoresWords es → HoldsThroughout (UndoneAt sites view s) es x
  throughout es did words = (did_keeps es did words).through

  -- ---- a transition

  plain_kept : (u : World) (a w : ℕ) → w < 0x10000 → IsPlainWord sites a → Going u → KeptBy (Store a w ∷ []) u
  plain_kept u a w small is g =
      plain_goes sites given.source.apart given.source.room view s ver Own (IsPair here) fit.pairs u a w small is g

  kept_both : (es fs : List Effect) (u : World) → KeptBy es u → KeptBy fs (world_after es u) → KeptBy (es ++ fs) u
  kept_both es fs u h k = kept-append sites given.source.apart given.source.room view s ver Own (IsPair here) fit.pairs es fs u h k

  -- NEXT and SB
  runtime_plain : (a : ℕ) → l.row + 2 ≤ a → a < l.list.address → (a ≡ word_place l Gate → ⊥) → (a ≡ word_place l Base → ⊥)
      → (a ≡ word_place l ListLength → ⊥) → (a ≡ word_place l Version → ⊥) → IsPlainWord sites a
  runtime_plain a low high gate base count number =
      let apart = given.source.apart in
      record {
        current = λ q. omega (arith, low, q);
        gate = gate;
        base = base;
        length = count;
        version = number;
        list = inl high;
        behind = inl (omega (arith, apart, high));
      }

  sent_plain : IsPlainWord sites sent_place
  sent_plain =
      let apart = given.source.apart in
      record {
        current = λ q. omega (arith, apart, q);
        gate = λ q. omega (arith, apart, q);
        base = λ q. omega (arith, apart, q);
        length = λ q. omega (arith, apart, q);
        version = λ q. omega (arith, apart, q);
        list = inr (omega (arith, apart));
        behind = inr (omega (arith, apart));
      }

  -- where there are events, SE
  frozen_kept : (events : Bool) (index : ℕ) (u : World) → StoresWords (where_events events (Store sent_place index ∷ [])) → Going u
      → KeptBy (where_events events (Store sent_place index ∷ [])) u
  frozen_kept true index u words g = plain_kept u sent_place index words.0 sent_plain g
  frozen_kept false index u words g = record { through = g.undone; going = g }

  closing_kept : (task base index : ℕ) (u : World) → (let es = Store (word_place l NextTask) task ∷ Store (word_place l SentBase) base
      ∷ where_events l.runtime.events (Store sent_place index ∷ []) in StoresWords es → Going u → KeptBy es u)
  closing_kept task base index u words g =
      let apart = given.source.apart in
      let next : Effect = Store (word_place l NextTask) task in
      let sent : Effect = Store (word_place l SentBase) base in
      let frozen = where_events l.runtime.events (Store sent_place index ∷ []) in
      let first = plain_kept u (word_place l NextTask) task words.0
      (runtime_plain (word_place l NextTask) (omega arith) (omega (arith, apart)) (λ q. omega (arith, q)) (λ q. omega (arith, q)) (λ q. omega (arith, q))
      (λ q. omega (arith, q))) g in
      let u1 = world_after (next ∷ []) u in
      let second = plain_kept u1 (word_place l SentBase) base words.1.0
      (runtime_plain (word_place l SentBase) (omega arith) (omega (arith, apart)) (λ q. omega (arith, q)) (λ q. omega (arith, q)) (λ q. omega (arith, q))
      (λ q. omega (arith, q))) first.going in
      let third = frozen_kept l.runtime.events index (world_after (sent ∷ []) u1) words.1.1 second.going in
      kept_both (next ∷ []) (sent ∷ frozen) u first (kept_both (sent ∷ []) frozen u1 second third)

  module _ (t : Transition run) where
    open t use {es, task, m, left, stored, next_task, rows}

    abbrev y : World
    y = y_of run t

    abbrev z : World
    z = z_of run t

    abbrev next : State
    next = next_of run t

    before_kept : KeptBy (before_of run t) x
    before_kept =
        let words = words_before run t in
        let body = did_keeps left.body left.did (each_store-front (λ a w. w < 0x10000) left.body (transition_of run t) words) in
        kept_both left.body (transition_of run t) x body
        (closing_kept (task % 65536) (base_of run t) (index_of run t) (world_after left.body x)
        (each_store-back (λ a w. w < 0x10000) left.body (transition_of run t) words) body.going)

    pub until : HoldsThroughout (UndoneAt sites view s) (before_of run t) x
    until = before_kept.through

    u : UndoneAt sites view s y
    u = before_kept.going.undone

    -- a word in front of the variables isn't logged, nor is a version word
    unlogged : (a : ℕ) → a < l.homes.address → undone (logged l y.fram) y.fram a ≡ y.fram a
    unlogged a low = undone_other (logged l y.fram) y.fram a (λ h. let word = u.shared a h in omega (arith, word, low))

    is_open : IsOpen sites view s y
    is_open =
        let o = u.behind.is_open in
        let apart = given.source.apart in
        record {
          is_state = o.is_state;
          is_task = o.is_task;
          words = u.words;
          current_task = sym (unlogged (word_place l CurrentTask) (omega (arith, apart))) ∙ o.current_task;
          gate = sym (unlogged (word_place l Gate) (omega (arith, apart))) ∙ o.gate;
          accepted = o.accepted;
          base = sym (unlogged (word_place l Base) (omega (arith, apart))) ∙ o.base;
          versions = λ n h.
              let most = o.versions n h in
              let a = unlogged (l.versions.address + 2 * n) (omega (arith, apart, h)) in
              let b = unlogged (word_place l Version) (omega (arith, apart)) in
              omega (arith, most, a, b);
        }

    -- each shared word is the next state's already
    word_is : (v n a : ℕ) (place : VariablePlace) → IsWordOf l v n a → slice_get l.variables v ≡ Some place → n < (home_region place).words
        → a ≡ 2 * n + (home_region place).address → z.fram a ≡ view.word next a
    word_is v n a (Scalar home copy width) h at below is =
        let there = scalar_there p.functions l code run.own v home copy width n at below in
        let address : scalar_address here v n ≡ a = ap (λ b. 2 * n + b) (facts.home v home copy width at) ∙ sym is in
        ap z.fram (sym address) ∙ scalar_next run t v n there ∙ sym (next_word run t v n a h)
    word_is v n a (Array elements len copies) h at below is =
        let e : Element = record { array = v; index = n } in
        let there = element_there p.functions l code run.own v n elements len copies at below in
        ap z.fram (is ∙ sym there.1) ∙ spot_stays run t (element e) there.0
        ∙ sym (own_in_place here left.there.fram e given.undo there.0) ∙ left.stands.variables.elements e there.0
        ∙ sym (next_word run t v n a h)

    pub decided : ClosesFrom sites view s next z
    decided = record {
      emits = m.emitted;
      closes = record {
        sends = sends_and_closes run t is_open;
        within =
            let few = u.within in
            let same = z_before run t (word_place l ListLength) (λ e. omega (arith, e)) in
            omega (arith, few, same);
        shared = λ a h. let w = given.source.words.each a h in word_is w.0 w.1 a w.2.place w.2 w.2.at w.2.below w.2.address;
      };
    }
