-- An attempt's opening, from a settled world: redo's with its store to CLN left out, which is 0 already.
use Rattle.std.proofs.Common.{◌≡◌, ℕ, ◌+◌, ◌%◌, ◌≤◌, List, [], ◌∷◌, ◌++◌, refl, sym, ap, ◌∙◌, subst, zero-le, append_assoc, append-nil}
use Rattle.memory_map.specs.Laws.{AreApart}
use Rattle.memory_map.specs.MemoryMap.{word_place}
use Rattle.memory_map.specs.declared.words.RuntimeWord.TheVariants.{ListLength, EmitCount, Version}
use Rattle.fram_board.specs.Effects.{Effect, Store, Take, Outside}
use Rattle.machine_effects.specs.World.{World, world_after, fram_after, EachStore, looks_of}
use Rattle.machine_effects.specs.Inputs.{inputs_taken, no_inputs}
use Rattle.machine_effects.proofs.Interface.{each_store-front, each_store-back, each_store-append}
use Rattle.runtime_effects.specs.Stages.{is_at_end, clearing_if, count_cleared, start_effects}
use Rattle.undo_effects.specs.Entries.{logged_from, IsLogged, undone}
use Rattle.undo_effects.specs.Stages.{undo_opening}
use Rattle.crash_rules.specs.Model.{HoldsThroughout}
use Rattle.stands_for.specs.Layout.{ProgramPlaces, StateView}
use Rattle.stands_for.specs.StandsFor.{UndecidedAt, StartedAt}
use Rattle.stands_for.specs.Program.{IsStartStore, StartContract}
use Rattle.stands_for.proofs.Interface.{each_weaker, numbered_starts}
use Rattle.undo_states.specs.States.{list_length, restored, UndoneAt, SettledAt}
use Rattle.crash_rules.proofs.Interface.{holds_both}
use Rattle.undo_states.proofs.Steps.{at_end, same_through, without, same_without}

-- what effects take, without a store among them
taken_without : (a w : ℕ) (after es : List Effect) → inputs_taken (es ++ (Store a w ∷ after)) ≡ inputs_taken (es ++ after)
taken_without a w after [] = refl
taken_without a w after (Store b u ∷ es) = taken_without a w after es
taken_without a w after (Take u ∷ es) = ap (λ i. record { readings = u ∷ i.readings; looks = i.looks }) (taken_without a w after es)
taken_without a w after (Outside o ∷ es) = ap (λ i. record { readings = i.readings; looks = looks_of o ++ i.looks }) (taken_without a w after es)

module _ {St : Type 0} (l : ProgramPlaces) (v : StateView St) where
  -- where nothing is logged the world is what it is with the entries put back
  none_restored : (x : World) → list_length l x ≡ 0 → restored l x ≡ x
  none_restored x e = ap (λ n. record x { fram = undone (logged_from n l.map.list.address x.fram) x.fram }) e

  pub settled_stands : (s : St) (x : World) → SettledAt l v s x → UndecidedAt l v s x
  settled_stands s x u = subst (UndecidedAt l v s) (none_restored x u.none) u.undecided.behind

  pub none_logged : (s : St) (x : World) → UndecidedAt l v s x → list_length l x ≡ 0 → UndoneAt l v s x
  none_logged s x u e = record {
    words = u.is_open.words;
    within = subst (λ n. n ≤ l.list_capacity (v.task s)) (sym e) zero-le;
    shared = λ a h. absurd (subst (λ n. IsLogged (logged_from n l.map.list.address x.fram) a) e h);
    behind = subst (UndecidedAt l v s) (sym (none_restored x e)) u;
  }

  module _ (apart : AreApart l.map) where
    abbrev redo_start : (ℕ → ℕ) → List Effect
    redo_start f = start_effects l.map (λ t. []) f

    redo_starts : StartContract l v (λ t. []) redo_start
    redo_starts = numbered_starts St l v (λ t. []) apart (λ t. tt)

    -- the store to VER and what comes before it, and what comes behind the store to CLN
    abbrev numbered : (ℕ → ℕ) → List Effect
    numbered f =
        let c = clearing_if l.map (is_at_end l.map f) in
        c ++ (Store (word_place l.map Version) ((fram_after c f (word_place l.map Version) + 1) % 0x10000) ∷ [])

    abbrev counted : List Effect
    counted = Store (word_place l.map EmitCount) 0 ∷ count_cleared l.map

    abbrev list_cleared : Effect
    list_cleared = Store (word_place l.map ListLength) 0

    redo_is : (f : ℕ → ℕ) → redo_start f ≡ numbered f ++ (list_cleared ∷ counted)
    redo_is f =
        let c = clearing_if l.map (is_at_end l.map f) in
        let ver : List Effect = Store (word_place l.map Version) ((fram_after c f (word_place l.map Version) + 1) % 0x10000) ∷ [] in
        append-nil (c ++ (ver ++ (list_cleared ∷ counted))) ∙ sym (append_assoc c ver (list_cleared ∷ counted))

    opening_is : (f : ℕ → ℕ) → undo_opening l.map f ≡ numbered f ++ counted
    opening_is f =
        let c = clearing_if l.map (is_at_end l.map f) in
        let ver : List Effect = Store (word_place l.map Version) ((fram_after c f (word_place l.map Version) + 1) % 0x10000) ∷ [] in
        sym (append_assoc c ver counted)

    pub opening_takes : (f : ℕ → ℕ) → inputs_taken (undo_opening l.map f) ≡ no_inputs
    opening_takes f =
        ap inputs_taken (opening_is f) ∙ sym (taken_without (word_place l.map ListLength) 0 counted (numbered f))
        ∙ ap inputs_taken (sym (redo_is f)) ∙ redo_starts.takes_none f

    -- the stores of redo's start, of which that to CLN is one
    redo_stores : (f : ℕ → ℕ) → EachStore (IsStartStore l) (numbered f ++ (list_cleared ∷ counted))
    redo_stores f = subst (EachStore (IsStartStore l)) (redo_is f) (redo_starts.stores f)

    pub opening_stores : (f : ℕ → ℕ) → EachStore (IsStartStore l) (undo_opening l.map f)
    opening_stores f =
        let P = IsStartStore l in
        subst (EachStore P) (sym (opening_is f))
        (each_store-append P (numbered f) counted (each_store-front P (numbered f) (list_cleared ∷ counted) (redo_stores f))
        (each_store-back P (numbered f) (list_cleared ∷ counted) (redo_stores f)).1)

    -- each effect keeps the world undecided, and they leave an attempt that has its number, with nothing listed
    pub record Opens (s : St) (x : World) : Type 0 where
      pub through : HoldsThroughout (UndoneAt l v s) (undo_opening l.map x.fram) x
      pub opened : StartedAt l v s [] (world_after (undo_opening l.map x.fram) x)

    pub opens : (s : St) (x : World) → SettledAt l v s x → Opens s x
    opens s x u =
        let f = x.fram in
        let cln = word_place l.map ListLength in
        let stands = settled_stands s x u in
        let Cleared : ℕ → ℕ → Type 0 = λ b w. b ≡ cln → w ≡ 0 in
        let each = each_weaker (IsStartStore l) Cleared (λ b w k. k.list_length) _ (redo_stores f) in
        let none = same_through cln 0 (numbered f ++ (list_cleared ∷ counted)) x each u.none in
        let front = at_end (λ y. y.fram cln ≡ 0) (λ y. y.fram cln ≡ 0) (λ y e. e) (numbered f) x
        (same_through cln 0 (numbered f) x (each_store-front Cleared (numbered f) (list_cleared ∷ counted) each) u.none) in
        let redo = subst (λ es. HoldsThroughout (UndecidedAt l v s) es x) (redo_is f) (redo_starts.undecided s x stands) in
        let both = holds_both (UndecidedAt l v s) (λ y. y.fram cln ≡ 0) (UndoneAt l v s) (λ y p e. none_logged s y p e) _ x redo none in
        let kept = without cln 0 counted (UndoneAt l v s) (numbered f) x front both in
        let started = subst (λ es. StartedAt l v s [] (world_after es x)) (redo_is f) (redo_starts.started s x stands) in
        let left = subst (StartedAt l v s []) (same_without cln 0 counted (numbered f) x front) started in
        record {
          through = subst (λ es. HoldsThroughout (UndoneAt l v s) es x) (sym (opening_is f)) kept;
          opened = subst (λ es. StartedAt l v s [] (world_after es x)) (sym (opening_is f)) left;
        }
