-- What effects take of what is ready, one stretch after another.
use Rattle.std.proofs.Common.{◌≡◌, ◌<◌, refl, arith, ℕ, suc, List, [], ◌∷◌, ◌++◌, All, length, drop, sym, ap, ◌∙◌, subst, append_assoc}
use Rattle.std.proofs.Math.Seq.{drop-append_seam}
use Rattle.fram_board.specs.Effects.{Effect, Store, Take}
use Rattle.machine_effects.specs.World.{readings_taken, looks_taken}
use Rattle.machine_effects.specs.Inputs.{Look, Inputs, inputs_taken, no_inputs, inputs_behind, look_effects, other_looks, InputsAreWords, TakesExactly}
use Rattle.machine_effects.proofs.Worlds.{readings_taken-append, looks_taken-append}

-- no effects take nothing
pub takes_nothing : (i : Inputs) → TakesExactly [] i i
takes_nothing i = record { readings = refl; looks = refl }

-- nor does a store
pub takes_behind_store : (a v : ℕ) (es : List Effect) (before after : Inputs) → TakesExactly es before after → TakesExactly (Store a v ∷ es) before after
takes_behind_store a v es before after h = record { readings = h.readings; looks = h.looks }

-- effects that take nothing leave all
pub takes_none : (es : List Effect) (i : Inputs) → inputs_taken es ≡ no_inputs → TakesExactly es i i
takes_none es i e = record { readings = ap (λ t. t.readings ++ i.readings) e; looks = ap (λ t. t.looks ++ i.looks) e }

-- what two stretches take is nothing where each takes nothing
pub none_taken_through : (es fs : List Effect) → inputs_taken es ≡ no_inputs → inputs_taken fs ≡ no_inputs → inputs_taken (es ++ fs) ≡ no_inputs
none_taken_through es fs e f =
    let readings = readings_taken-append es fs ∙ ap (λ t. t.readings ++ readings_taken fs) e ∙ ap (λ t. t.readings) f in
    let looks = looks_taken-append es fs ∙ ap (λ t. t.looks ++ looks_taken fs) e ∙ ap (λ t. t.looks) f in
    λ i. record { readings = readings i; looks = looks i }

-- where the first stretch takes nothing, both take what the second does
pub taken_behind_none : (es fs : List Effect) → inputs_taken es ≡ no_inputs → inputs_taken (es ++ fs) ≡ inputs_taken fs
taken_behind_none es fs e =
    let readings = readings_taken-append es fs ∙ ap (λ t. t.readings ++ readings_taken fs) e in
    let looks = looks_taken-append es fs ∙ ap (λ t. t.looks ++ looks_taken fs) e in
    λ i. record { readings = readings i; looks = looks i }

-- a look takes the first one that is left
pub takes_look : (i : Inputs) → TakesExactly (look_effects i.looks) i (record i { looks = other_looks i.looks })
takes_look i = one_look i i.looks refl
  where
    one_look : (i : Inputs) (looks : List Look) → i.looks ≡ looks → TakesExactly (look_effects looks) i (record i { looks = other_looks looks })
    one_look i [] e = record { readings = refl; looks = sym e }
    one_look i (look ∷ more) e = record { readings = refl; looks = sym e }

-- what two stretches take
pub takes_through : (es fs : List Effect) (a b c : Inputs) → TakesExactly es a b → TakesExactly fs b c → TakesExactly (es ++ fs) a c
takes_through es fs a b c g h = record {
  readings = ap (λ l. l ++ c.readings) (readings_taken-append es fs)
      ∙ append_assoc (readings_taken es) (readings_taken fs) c.readings
      ∙ ap (λ l. readings_taken es ++ l) h.readings
      ∙ g.readings;
  looks = ap (λ l. l ++ c.looks) (looks_taken-append es fs)
      ∙ append_assoc (looks_taken es) (looks_taken fs) c.looks
      ∙ ap (λ l. looks_taken es ++ l) h.looks
      ∙ g.looks;
}

-- what is left of a list behind its first part
left_behind : {A : Type 0} (all taken left : List A) → taken ++ left ≡ all → drop (length taken) all ≡ left
left_behind all taken left e = ap (drop (length taken)) (sym e) ∙ drop-append_seam taken left

-- what is left by effects that take exactly this
pub left_by_taking : (es : List Effect) (before after : Inputs) → TakesExactly es before after → inputs_behind es before ≡ after
left_by_taking es before after h =
    let readings = left_behind before.readings (readings_taken es) after.readings h.readings in
    let looks = left_behind before.looks (looks_taken es) after.looks h.looks in
    λ i. record { readings = readings i; looks = looks i }

-- what holds of each of a list, behind others
pub all_behind : {A : Type 0} (P : A → Type 0) (us vs : List A) → All P (us ++ vs) → All P vs
all_behind P [] vs h = h
all_behind P (u ∷ us) vs h = all_behind P us vs (λ k d low. h (suc k) d (omega (arith, low)))

-- what is left of words are words
pub left_are_words : (es : List Effect) (before after : Inputs) → TakesExactly es before after → InputsAreWords before → InputsAreWords after
left_are_words es before after h w = record {
  readings = all_behind (λ r. r < 0x10000) (readings_taken es) after.readings (subst (λ l. All (λ r. r < 0x10000) l) (sym h.readings) w.readings);
  looks = let P : List Look → Type 0 = λ l. All (λ look. (a : ℕ) → look a < 0x10000) l in
      all_behind (λ look. (a : ℕ) → look a < 0x10000) (looks_taken es) after.looks (subst P (sym h.looks) w.looks);
}

-- and a reading taken of them is one
pub taken_is_word : (r : ℕ) (before after : Inputs) → TakesExactly (Take r ∷ []) before after → InputsAreWords before → r < 0x10000
taken_is_word r before after h w = subst (λ l. All (λ v. v < 0x10000) l) (sym h.readings) w.readings 0 0 (omega arith)
