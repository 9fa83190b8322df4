-- What the entries of a schedule have done, one after the other.
use Rattle.std.proofs.Common.{◌≡◌, ◌≤◌, ◌<◌, ◌+◌, ℕ, refl, sym, ◌∙◌, ap, subst, List, [], ◌∷◌, ◌++◌, append_assoc, append-nil, length, take, drop}
use Rattle.std.proofs.Common.{get_or, Option}
use Rattle.std.proofs.lemmas.List.{take-append-drop, take_more, at_drop_more}
use Rattle.std.proofs.Math.ListN.{drop_of_length-le}
use Rattle.radio_link.specs.declared.entry.Entry.{Entry}
use Rattle.radio_link.specs.declared.entry.Entry.TheVariants.{StepsOfA}
use Rattle.pair_run.specs.declared.sides.Sides.{Sides}
use Rattle.pair_run.specs.Actions.{PairAction, actions_of, all_actions}
use Rattle.pair_run.specs.Pair.{Pair}
use Rattle.pair_run.specs.Lines.{PairKnown, known_after}
use Rattle.pair_run.specs.Sides.{DoesAll, DoesAllPartly}
use Rattle.pair_run.proofs.Doing.{all_behind, partly_behind, partly_more}

-- an entry that stands where there is none
abbrev pub no_entry : Entry
no_entry = StepsOfA 0

actions_append : (es fs : List Entry) → all_actions (es ++ fs) ≡ all_actions es ++ all_actions fs
actions_append [] fs = refl
actions_append (e ∷ es) fs =
    ap (λ acts. actions_of e ++ acts) (actions_append es fs) ∙ sym (append_assoc (actions_of e) (all_actions es) (all_actions fs))

module _ (es : List Entry) (i : ℕ) where
  -- the entry of this place
  abbrev pub entry_at : Entry
  entry_at = get_or es i no_entry

  taken_more : i < length es → all_actions (take (i + 1) es) ≡ all_actions (take i es) ++ actions_of entry_at
  taken_more inside =
      ap all_actions (take_more es i no_entry inside)
      ∙ actions_append (take i es) (entry_at ∷ [])
      ∙ ap (λ acts. all_actions (take i es) ++ acts) (append-nil (actions_of entry_at))

  taken_split : all_actions es ≡ all_actions (take i es) ++ all_actions (drop i es)
  taken_split = sym (ap all_actions (take-append-drop i es)) ∙ actions_append (take i es) (drop i es)

  left_split : i < length es → all_actions (drop i es) ≡ actions_of entry_at ++ all_actions (drop (i + 1) es)
  left_split inside = at_drop_more all_actions es i no_entry inside

  module _ (p : Pair) (k : PairKnown) (old mid : Option (List ℕ)) (s : Sides) (d : DoesAll (all_actions (take i es)) p k old mid s) where
    -- one more
    pub entry_more : (new : Option (List ℕ)) (t : Sides) → i < length es → DoesAll (actions_of entry_at) d.behind (known_after k d.moments) mid new t
        → DoesAll (all_actions (take (i + 1) es)) p k old new t
    entry_more new t inside e =
        subst (λ acts. DoesAll acts p k old new t) (sym (taken_more inside))
        (all_behind (all_actions (take i es)) (actions_of entry_at) p k old mid new s t d e)

    -- one isn't told whole
    pub entry_partly : (new : Option (List ℕ)) → i < length es → DoesAllPartly (actions_of entry_at) d.behind (known_after k d.moments) mid new
        → DoesAllPartly (all_actions es) p k old new
    entry_partly new inside e =
        subst (λ acts. DoesAllPartly acts p k old new)
        (sym (taken_split ∙ ap (λ acts. all_actions (take i es) ++ acts) (left_split inside)))
        (partly_behind (all_actions (take i es)) (actions_of entry_at ++ all_actions (drop (i + 1) es)) p k old mid new s d
        (partly_more (actions_of entry_at) (all_actions (drop (i + 1) es)) d.behind (known_after k d.moments) mid new e))

    -- the rest isn't needed
    pub entries_rest : ((acts : List PairAction) → DoesAll acts d.behind (known_after k d.moments) mid mid s) → DoesAll (all_actions es) p k old mid s
    entries_rest rest =
        subst (λ acts. DoesAll acts p k old mid s) (sym taken_split)
        (all_behind (all_actions (take i es)) (all_actions (drop i es)) p k old mid mid s s d (rest (all_actions (drop i es))))

    -- all are done
    pub entries_end : length es ≤ i → DoesAll (all_actions es) p k old mid s
    entries_end end =
        subst (λ acts. DoesAll acts p k old mid s)
        (sym (taken_split ∙ ap (λ fs. all_actions (take i es) ++ all_actions fs) (drop_of_length-le es end) ∙ append-nil (all_actions (take i es)))) d
