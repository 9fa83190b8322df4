-- What is taken belongs to the image, and what belongs to it is taken.
use Rattle.std.proofs.Common.{◌≡◌, ℕ, Bool, true, false, not, cond, List, [], ◌∷◌, length, Option, Some, None, Result, Ok, Err, refl, sym, ap, ◌∙◌, inl, inr}
use Rattle.std.specs.Prelude.{find, IfOk}
use Rattle.std.proofs.lemmas.Bool.{not-false}
use Rattle.image_text.specs.image_map.MapValue.{MapValue}
use Rattle.image_text.specs.ImageValue.{ImageValue}
use Rattle.state_text.specs.declared.state.State.{State}
use Rattle.fram_state.specs.declared.fault.Rule.{Rule}
use Rattle.fram_state.specs.declared.fault.StateFault.{StateFault}
use Rattle.fram_state.specs.declared.fault.Rule.TheVariants as rule
use Rattle.fram_state.specs.Runtime.{runtime_of}
use Rattle.fram_state.specs.Sound.{keeps, rules, first_broken, IsSound}
use Rattle.fram_state.specs.OtherImage.{HaveMap, first_other}
use Rattle.fram_state.specs.Belongs.{Belongs, answer_of, answer_with, IsAnswer}
use Rattle.fram_state.specs.Laws.{AreImages}
use Rattle.fram_state.proofs.Others.{same_but, same_none}

-- no item passes
abbrev NoneOf : {X : Type 0} → (X → Bool) → List X → Type 0
NoneOf p [] = Unit {0}
NoneOf p (x ∷ xs) = (p x ≡ false) × NoneOf p xs

-- nothing is found exactly then
find_none : {X : Type 0} (p : X → Bool) (xs : List X) → find p xs ≡ None → NoneOf p xs
find_none p [] h = tt
find_none {X} p (x ∷ xs) h = by_first (find_none p xs) (p x) refl h
  where
    by_first : (find p xs ≡ None → NoneOf p xs) → (b : Bool) → p x ≡ b → cond b (Some x) (find p xs) ≡ None → (p x ≡ false) × NoneOf p xs
    by_first more true e g = cc
    by_first more false e g = (e, more g)

none_found : {X : Type 0} (p : X → Bool) (xs : List X) → NoneOf p xs → find p xs ≡ None
none_found p [] h = refl
none_found {X} p (x ∷ xs) (e, more) = ap (λ b. cond b (Some x) (find p xs)) e ∙ none_found p xs more

-- a state of which no rule is broken is sound
pub is_sound : (m : MapValue) (words : List ℕ) (number : ℕ) → first_broken m words number ≡ None → IsSound m words number
is_sound m words number h = record { each = by_rule (find_none (λ r. not (kept r)) rules h) }
  where
    kept : Rule → Bool
    kept r = keeps m words (runtime_of m.words words) number r

    by_rule : NoneOf (λ r. not (kept r)) rules → (r : Rule) → kept r ≡ true
    by_rule (a, b) rule.Gate = not-false (kept rule.Gate) a
    by_rule (a, (b, c)) rule.CurrentTask = not-false (kept rule.CurrentTask) b
    by_rule (a, (b, (c, d))) rule.Versions = not-false (kept rule.Versions) c
    by_rule (a, (b, (c, (d, e)))) rule.Base = not-false (kept rule.Base) d
    by_rule (a, (b, (c, (d, (e, f))))) rule.ListLength = not-false (kept rule.ListLength) e
    by_rule (a, (b, (c, (d, (e, (f, g)))))) rule.EmitCount = not-false (kept rule.EmitCount) f
    by_rule (a, (b, (c, (d, (e, (f, (g, h))))))) rule.NextTask = not-false (kept rule.NextTask) g
    by_rule (a, (b, (c, (d, (e, (f, (g, (h, i)))))))) rule.SentBase = not-false (kept rule.SentBase) h
    by_rule (a, (b, (c, (d, (e, (f, (g, (h, (i, j))))))))) rule.List = not-false (kept rule.List) i
    by_rule (a, (b, (c, (d, (e, (f, (g, (h, (i, (j, k)))))))))) rule.Ring = not-false (kept rule.Ring) j

-- a state that is taken belongs to the image
pub taken_belongs : (image : ImageValue) (s : State) (m : MapValue) → HaveMap image s m → length image.words ≡ length s.image.words
    → answer_with m image.words s ≡ Ok tt → Belongs image s
taken_belongs image s m have e h = by_other (first_other m image.words s.image.words 0x4400) refl (first_broken m s.image.words s.receiver) refl h
  where
    by_other : (o : Option ℕ) → first_other m image.words s.image.words 0x4400 ≡ o → (b : Option Rule) → first_broken m s.image.words s.receiver ≡ b
        → answer_of o b ≡ Ok tt → Belongs image s
    by_other (Some a) is b broken g = cc
    by_other None is (Some r) broken g = cc
    by_other None is None broken g =
        record { map = m; have = have; others = same_but m image.words s.image.words e is; sound = is_sound m s.image.words s.receiver broken }

pub taken_ok : (image : ImageValue) (s : State) (m : MapValue) (r : Result (Unit {0}) StateFault) → HaveMap image s m → AreImages image.words s.image.words
    → r ≡ answer_with m image.words s → IfOk r (λ u. Belongs image s)
taken_ok image s m (Ok u) have all e = taken_belongs image s m have (all.of_image ∙ sym all.of_state) (sym e)
taken_ok image s m (Err f) have all e = tt

-- a sound state breaks no rule
none_broken : (m : MapValue) (words : List ℕ) (number : ℕ) → IsSound m words number → first_broken m words number ≡ None
none_broken m words number s = none_found (λ r. not (keeps m words (runtime_of m.words words) number r)) rules (
  kept rule.Gate,
  (
    kept rule.CurrentTask,
    (
      kept rule.Versions,
      (
        kept rule.Base,
        (
          kept rule.ListLength,
          (
            kept rule.EmitCount,
            (
              kept rule.NextTask,
              (kept rule.SentBase, (kept rule.List, (kept rule.Ring, tt))),
            ),
          ),
        ),
      ),
    ),
  ),
)
  where
    kept : (r : Rule) → not (keeps m words (runtime_of m.words words) number r) ≡ false
    kept r = ap not (s.each r)

-- a state that belongs to an image is taken
pub belonging_taken : (image : ImageValue) (s : State) → AreImages image.words s.image.words → Belongs image s → IsAnswer image s (Ok tt)
belonging_taken image s l b = inl (
  b.map,
  b.have,
  sym (
      ap (λ o. answer_of o (first_broken b.map s.image.words s.receiver)) (same_none b.map image.words s.image.words l.of_image b.others)
      ∙ ap (λ o. answer_of None o) (none_broken b.map s.image.words s.receiver b.sound)),
)

-- there is one answer
pub answers_are_one : (image : ImageValue) (s : State) (a b : Result (Unit {0}) StateFault) → IsAnswer image s a → IsAnswer image s b → a ≡ b
answers_are_one image s a b (inl (m, have, is)) (inl (n, also, was)) =
    let same : Some m ≡ Some n = sym have.of_image ∙ also.of_image in
    let one : m ≡ n = cc in
    is ∙ ap (λ m. answer_with m image.words s) one ∙ sym was
answers_are_one image s a b (inl (m, have, is)) (inr (none, was)) = absurd (none m have)
answers_are_one image s a b (inr (none, is)) (inl (m, have, was)) = absurd (none m have)
answers_are_one image s a b (inr (none, is)) (inr (also, was)) = is ∙ sym was
