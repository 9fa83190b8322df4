-- What statements do under undo, one act after another.
use Rattle.lower.proofs.Names.{◌≡◌, ℕ, List, [], ◌∷◌, ◌++◌, Bool, refl, sym, ap, ◌∙◌, subst, append_assoc, Effect, Store, Take, Outside, Looked}
use Rattle.lower.proofs.Names.{Offered, put, fram_after, fram_after-append, Places, Room, TakesAndStores, IsTaskStore, at_variable, at_emit_count, in_buffer}
use Rattle.lower.proofs.Names.{at_answer, IsPlainStore, to_variable, to_emit_count, to_buffer, to_answer, Act, alone, act_effects, acts_effects, AreActs}
use Rattle.lower.proofs.Names.{AreMadeByActs, Did}
use Rattle.lower.proofs.Effects.{takes_weaker}

module _ (p : Places) (written : ℕ → Bool) (room : Room) where
  -- the effects of acts one behind another
  acts_joined : (acts more : List Act) (f : ℕ → ℕ)
      → acts_effects p (acts ++ more) f ≡ acts_effects p acts f ++ acts_effects p more (fram_after (acts_effects p acts f) f)
  acts_joined [] more f = refl
  acts_joined (act ∷ acts) more f =
      let es = act_effects p act f in
      let g = fram_after es f in
      let rest = acts_effects p acts g in
      ap (λ l. es ++ l) (acts_joined acts more g)
      ∙ sym (append_assoc es rest (acts_effects p more (fram_after rest g)))
      ∙ ap (λ k. (es ++ rest) ++ acts_effects p more k) (sym (fram_after-append es rest f))

  are_joined : (acts more : List Act) (f : ℕ → ℕ) → AreActs p written room f acts
      → AreActs p written room (fram_after (acts_effects p acts f) f) more → AreActs p written room f (acts ++ more)
  are_joined [] more f h k = k
  are_joined (act ∷ acts) more f h k =
      let es = act_effects p act f in
      let rest = acts_effects p acts (fram_after es f) in
      (h.0, are_joined acts more (fram_after es f) h.1 (subst (λ g. AreActs p written room g more) (fram_after-append es rest f) k))

  pub made_append : (es fs : List Effect) (f : ℕ → ℕ) → AreMadeByActs p written room f es → AreMadeByActs p written room (fram_after es f) fs
      → AreMadeByActs p written room f (es ++ fs)
  made_append es fs f h k = record {
    acts = h.acts ++ k.acts;
    each = are_joined h.acts k.acts f h.each (subst (λ l. AreActs p written room (fram_after l f) k.acts) h.is k.each);
    is = ap (λ l. es ++ l) k.is ∙ ap (λ l. l ++ acts_effects p k.acts (fram_after l f)) h.is ∙ sym (acts_joined h.acts k.acts f);
  }

  -- effects that want no entry, each alone
  pub made_alone : (es : List Effect) (f : ℕ → ℕ) → TakesAndStores (IsPlainStore p written room) es → AreMadeByActs p written room f es
  made_alone [] f h = record { acts = []; each = tt; is = refl }
  made_alone (Store a w ∷ es) f h =
      let rest = made_alone es (put f a w) h.1 in
      record { acts = alone (Store a w) ∷ rest.acts; each = ((h.0, tt), rest.each); is = ap (λ l. Store a w ∷ l) rest.is }
  made_alone (Take r ∷ es) f h =
      let rest = made_alone es f h in
      record { acts = alone (Take r) ∷ rest.acts; each = (tt, rest.each); is = ap (λ l. Take r ∷ l) rest.is }
  made_alone (Outside (Looked seen) ∷ es) f h =
      let rest = made_alone es f h in
      record { acts = alone (Outside (Looked seen)) ∷ rest.acts; each = (tt, rest.each); is = ap (λ l. Outside (Looked seen) ∷ l) rest.is }
  made_alone (Outside (Offered n w) ∷ es) f h = absurd h

  -- a store that wants no entry is one of statements
  pub plain_store : (ver a w : ℕ) → IsPlainStore p written room a w → IsTaskStore p written room ver a w
  plain_store ver a w (to_variable v i is ok e) = at_variable v i is ok e
  plain_store ver a w (to_emit_count e few) = at_emit_count e few
  plain_store ver a w (to_buffer i few e) = in_buffer i few e
  plain_store ver a w (to_answer k) = at_answer k

  -- so effects of such stores alone are what statements do
  pub plain_did : (ver : ℕ) (es : List Effect) (f : ℕ → ℕ) → TakesAndStores (IsPlainStore p written room) es → Did p written room ver f es
  plain_did ver es f h = record {
    stores = takes_weaker (IsPlainStore p written room) (IsTaskStore p written room ver) (plain_store ver) es h;
    acts = λ undo. made_alone es f h;
  }
