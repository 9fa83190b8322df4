-- What a task does under undo, act after act, keeps the world undecided; what is logged stays logged.
use Rattle.std.proofs.Common.{◌≡◌, ℕ, ◌+◌, ◌*◌, ◌<◌, ◌≤◌, ◌⊎◌, ⊎_elim, inl, inr, true, Bool, List, [], ◌∷◌, refl, sym, subst, arith}
use Rattle.fram_board.specs.Effects.{Effect, Store, Take, Outside, Offered, Looked}
use Rattle.machine_effects.specs.World.{World, fram_after, world_after, EachStore}
use Rattle.machine_effects.proofs.Interface.{each_store-front, each_store-back}
use Rattle.crash_rules.proofs.Interface.{world_fram}
use Rattle.memory_map.specs.Laws.{AreApart}
use Rattle.memory_map.specs.MemoryMap.{MemoryMap, TaskPlace, word_place}
use Rattle.memory_map.specs.declared.words.RuntimeWord.TheVariants.{EmitCount}
use Rattle.memory_map.specs.event_places.Places.{count_place}
use Rattle.memory_map.specs.Spots.{Places, places_of, scalar_address, IsScalarWord, Element, IsCopied, element_address, version_address}
use Rattle.source_values.specs.Runs.{CheckedProgram, State}
use Rattle.task_ast.specs.Paths.{CheckedBlock}
use Rattle.lower.specs.Seen.{map_seen}
use Rattle.lower.specs.Spots.{Room}
use Rattle.lower.specs.Stores.{IsPlainStore, to_variable, to_emit_count, to_buffer, to_answer, Act, alone, to_element}
use Rattle.lower.specs.Stores.{act_effects, IsAct}
use Rattle.lower.specs.Stores.{acts_effects, AreActs}
use Rattle.stands_for.specs.Layout.{IsSharedWord, HaveRoom}
use Rattle.undo_effects.specs.Stages.{first_logged, element_stored}
use Rattle.undo_states.proofs.Interface.{IsPlainWord, ArePairs, GoesOn, Kept, plain_goes, shared_goes, element_goes, kept-append}
use Rattle.compiled_model.specs.Places.{program_places}
use Rattle.compiled_model.specs.View.{state_view}

-- an element that the task may store to, with its version word
pub record IsPair (here : Places) (element version : ℕ) : Type 0 where
  pub item : Element
  pub copied : IsCopied here item
  pub at : element ≡ element_address here item
  pub version_at : version ≡ version_address here item

-- the places of a task under undo, with the words that its start lists: each word of a scalar that it writes is one of them, or written in place; elements
-- have version words of their own; and it has the room that its task has
pub record ActsFit (p : CheckedProgram) (l : MemoryMap) (s : State) (here : Places) (written : ℕ → Bool) (space : Room) (Own : ℕ → Type 0) : Type 0 where
  pub scalars : (v i : ℕ) → IsScalarWord here v i → written v ≡ true → IsSharedWord (program_places p l) (scalar_address here v i)
      × (Own (scalar_address here v i) ⊎ ((program_places p l).written_in_place s.task (scalar_address here v i) ≡ true))
  pub pairs : ArePairs (program_places p l) (IsPair here)
  pub emits : space.emits ≤ l.emits.words
  pub list : space.list ≤ (program_places p l).list_capacity s.task

module _ (p : CheckedProgram) (l : MemoryMap) (apart : AreApart l) (room : HaveRoom (program_places p l)) (s : State) (code : CheckedBlock) (own : TaskPlace)
    (written : ℕ → Bool) (space : Room) (ver : ℕ) (Own : ℕ → Type 0) (fit : ActsFit p l s (places_of (map_seen p.functions code l) own) written space Own) where
  abbrev here : Places
  here = places_of (map_seen p.functions code l) own

  abbrev Going : World → Type 0
  Going = GoesOn (program_places p l) (state_view p l) s ver Own (IsPair here)

  abbrev Keeps : List Effect → World → Type 0
  Keeps = Kept (program_places p l) apart room (state_view p l) s ver Own (IsPair here) fit.pairs

  abbrev IsSmall : ℕ → ℕ → Type 0
  IsSmall a w = w < 0x10000

  -- ---- the words that want no entry

  count_plain : (a : ℕ) → a ≡ word_place l EmitCount → IsPlainWord (program_places p l) a
  count_plain a is = record {
    current = λ q. omega (arith, is, q);
    gate = λ q. omega (arith, is, q);
    base = λ q. omega (arith, is, q);
    length = λ q. omega (arith, is, q);
    version = λ q. omega (arith, is, q);
    list = inl (omega (arith, apart, is));
    behind = inl (omega (arith, apart, is));
  }

  buffer_plain : (a i : ℕ) → i < space.emits → a ≡ 2 * i + l.emits.address → IsPlainWord (program_places p l) a
  buffer_plain a i below is =
      let few = fit.emits in
      record {
        current = λ q. omega (arith, apart, is, q);
        gate = λ q. omega (arith, apart, is, q);
        base = λ q. omega (arith, apart, is, q);
        length = λ q. omega (arith, apart, is, q);
        version = λ q. omega (arith, apart, is, q);
        list = inr (omega (arith, apart, is));
        behind = inl (omega (arith, apart, is, below, few));
      }

  -- a word that counts events
  event_plain : (a : ℕ) → count_place ≤ a → IsPlainWord (program_places p l) a
  event_plain a high = record {
    current = λ q. omega (arith, apart, high, q);
    gate = λ q. omega (arith, apart, high, q);
    base = λ q. omega (arith, apart, high, q);
    length = λ q. omega (arith, apart, high, q);
    version = λ q. omega (arith, apart, high, q);
    list = inr (omega (arith, apart, high));
    behind = inr (omega (arith, apart, high));
  }

  plain : (x : World) (a w : ℕ) → w < 0x10000 → IsPlainWord (program_places p l) a → Going x → Keeps (Store a w ∷ []) x
  plain x a w small is g = plain_goes (program_places p l) apart room (state_view p l) s ver Own (IsPair here) fit.pairs x a w small is g

  -- ---- acts

  store_kept : (x : World) (a w : ℕ) → w < 0x10000 → IsPlainStore here written space a w → Going x → Keeps (Store a w ∷ []) x
  store_kept x a w small (to_variable v i h e is) g =
      let word = fit.scalars v i h e in
      let there : IsSharedWord (program_places p l) a = subst (IsSharedWord (program_places p l)) (sym is) word.0 in
      shared_goes (program_places p l) apart room (state_view p l) s ver Own (IsPair here) fit.pairs x a w small there
      (⊎_elim (λ o. inl (g.own a (subst Own (sym is) o)))
      (λ place. inr (subst (λ b. (program_places p l).written_in_place s.task b ≡ true) (sym is) place)) word.1) g
  store_kept x a w small (to_emit_count is few) g = plain x a w small (count_plain a is) g
  store_kept x a w small (to_buffer i h is) g = plain x a w small (buffer_plain a i h is) g
  store_kept x a w small (to_answer k) g =
      plain x a w small (event_plain a (⊎_elim {C = count_place ≤ a} (λ e. omega (arith, e)) (λ e. omega (arith, e)) k.1)) g

  act_kept : (x : World) (act : Act) → EachStore IsSmall (act_effects here act x.fram) → IsAct here written space x.fram act → Going x
      → Keeps (act_effects here act x.fram) x
  act_kept x (alone (Store a w)) small is g = store_kept x a w small.0 is.0 g
  act_kept x (alone (Take r)) small is g = record { through = (g.undone, g.undone); going = g }
  act_kept x (alone (Outside (Looked seen))) small is g = record { through = (g.undone, g.undone); going = g }
  act_kept x (alone (Outside (Offered n w))) small is g = absurd is
  act_kept x (to_element item w) small is g =
      let pair : IsPair here (element_address here item) (version_address here item) = record { item = item; copied = is.0; at = refl; version_at = refl } in
      let few = fit.list in
      element_goes (program_places p l) apart room (state_view p l) s ver Own (IsPair here) fit.pairs x (element_address here item)
      (version_address here item) w (last_small (element_address here item) (version_address here item) w x.fram small) pair g
      (λ n. let free = is.1 n in omega (arith, free, few))
    where
      -- the word that is stored last is small
      last_small : (e m u : ℕ) (f : ℕ → ℕ) → EachStore IsSmall (element_stored l e m u f) → u < 0x10000
      last_small e m u f h = (each_store-back IsSmall (first_logged l e m f) (Store e u ∷ []) h).0

  -- acts one after another
  pub acts_keep : (acts : List Act) (x : World) → EachStore IsSmall (acts_effects here acts x.fram) → AreActs here written space x.fram acts → Going x
      → Keeps (acts_effects here acts x.fram) x
  acts_keep [] x small are g = record { through = g.undone; going = g }
  acts_keep (act ∷ acts) x small are g =
      let es = act_effects here act x.fram in
      let more = acts_effects here acts (fram_after es x.fram) in
      let one = act_kept x act (each_store-front IsSmall es more small) are.0 g in
      let same : (world_after es x).fram ≡ fram_after es x.fram = world_fram es x in
      let rest : Keeps (acts_effects here acts (world_after es x).fram) (world_after es x) =
      acts_keep acts (world_after es x) (subst (λ f. EachStore IsSmall (acts_effects here acts f)) (sym same) (each_store-back IsSmall es more small))
      (subst (λ f. AreActs here written space f acts) (sym same) are.1) one.going in
      kept-append (program_places p l) apart room (state_view p l) s ver Own (IsPair here) fit.pairs es more x one
      (subst (λ f. Keeps (acts_effects here acts f) (world_after es x)) same rest)
