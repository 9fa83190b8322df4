-- The text of a map as it is written.
use Rattle.std.proofs.Common.{◌≡◌, ℕ, suc, ◌+◌, ◌<◌, List, [], ◌∷◌, ◌++◌, length, map, drop, get_or, drop-cons, arith, refl, ap, sym, subst, ◌∙◌, append_assoc}
use Rattle.std.proofs.Common.{codes, nat_lt, Bool, true, false, append-nil, Option}
use Rattle.std.proofs.lemmas.Bool.Decides.{nat_tests}
use Rattle.std.proofs.lemmas.List.{get_or_default}
use Rattle.text_parts.specs.Printed.{spaced, printed}
use Rattle.text_parts.proofs.Interface.{printed_append}
use Rattle.image_map.specs.declared.parts.Place.{Place}
use Rattle.image_map.specs.declared.parts.RingPlaces.{RingPlaces}
use Rattle.image_map.specs.MapValue.{MapValue, TaskValue}
use Rattle.image_map.specs.Text.{tail_text, task_fields, tasks_fields, head_fields, copies_fields, ring_fields, optional_fields, variable_fields, map_fields}
use Rattle.image_map.specs.Text.{map_text}

spaced_tail : (v : List ℕ) (ws : List (List ℕ)) → spaced (v ∷ ws) ≡ v ++ tail_text ws
unfolding tail_text
spaced_tail v [] = sym (append-nil v)
spaced_tail v (w ∷ ws) = ap (λ r. v ++ 32 ∷ r) (spaced_tail w ws)

pub line_written : (first : List ℕ) (ws : List (List ℕ)) (a b c d : List ℕ) → b ≡ a ++ first → c ≡ b ++ tail_text ws → d ≡ c ++ 10 ∷ []
    → d ≡ a ++ (spaced (first ∷ ws) ++ 10 ∷ [])
line_written first ws a b c d e f g =
    g ∙ ap (λ x. x ++ 10 ∷ []) (f ∙ ap (λ x. x ++ tail_text ws) e ∙ append_assoc a first (tail_text ws) ∙ ap (λ x. a ++ x) (sym (spaced_tail first ws)))
    ∙ append_assoc a (spaced (first ∷ ws)) (10 ∷ [])

-- one task more is written
pub task_written : (ts : List TaskValue) (t : TaskValue) (i : ℕ) (a b : List ℕ) → i < length ts → t ≡ get_or ts i t → b ≡ a ++ printed (task_fields t)
    → b ++ printed (tasks_fields (drop (i + 1) ts)) ≡ a ++ printed (tasks_fields (drop i ts))
task_written ts t i a b h e f =
    let next : i + 1 ≡ suc i = omega arith in
    let rest : List (List (List ℕ)) = tasks_fields (drop (i + 1) ts) in
    ap (λ x. x ++ printed rest) f ∙ append_assoc a (printed (task_fields t)) (printed rest) ∙ ap (λ x. a ++ x) (sym (printed_append (task_fields t) rest))
    ∙ ap (λ ts. a ++ printed (tasks_fields ts)) (ap (λ j. t ∷ drop j ts) next ∙ ap (λ t. t ∷ drop (suc i) ts) e ∙ sym (drop-cons ts i t h))

pub no_tasks_written : (a : List ℕ) → a ++ printed (tasks_fields []) ≡ a
unfolding printed
no_tasks_written a = append-nil a

last_line : (l : List (List ℕ)) → printed (l ∷ []) ≡ spaced l ++ 10 ∷ []
unfolding printed
last_line l = append-nil (spaced l ++ 10 ∷ [])

-- the lines of the copies and of the ring are written
pub optional_written : (m : MapValue) (copies : Option Place) (ring : Option RingPlaces) (a b c : List ℕ) → copies ≡ m.copies → ring ≡ m.ring
    → b ≡ a ++ printed (copies_fields copies) → c ≡ b ++ printed (ring_fields ring) → c ≡ a ++ printed (optional_fields m)
optional_written m copies ring a b c e f g h =
    h ∙ ap (λ x. x ++ printed (ring_fields ring)) g ∙ append_assoc a (printed (copies_fields copies)) (printed (ring_fields ring))
    ∙ ap (λ x. a ++ x) (sym (printed_append (copies_fields copies) (ring_fields ring)))
    ∙ ap (λ o. a ++ printed (copies_fields o ++ ring_fields ring)) e ∙ ap (λ o. a ++ printed (copies_fields m.copies ++ ring_fields o)) f

-- all lines are written
pub map_written : (m : MapValue) (a h b c d e : List ℕ) → h ≡ a ++ printed (head_fields m) → b ≡ h ++ printed (optional_fields m)
    → c ≡ b ++ printed (map variable_fields m.variables)
    → d ≡ c ++ printed (tasks_fields m.tasks)
    → e ≡ d ++ (spaced (codes "end" ∷ []) ++ 10 ∷ []) → e ≡ a ++ map_text m
unfolding map_fields
map_written m a h b c d e f o g t k =
    let end : List (List (List ℕ)) = (codes "end" ∷ []) ∷ [] in
    let tasks : List (List (List ℕ)) = tasks_fields m.tasks in
    let variables : List (List (List ℕ)) = map variable_fields m.variables in
    let rest : List (List (List ℕ)) = variables ++ (tasks ++ end) in
    let optional : List (List (List ℕ)) = optional_fields m in
    k ∙ ap (λ x. d ++ x) (sym (last_line (codes "end" ∷ [])))
    ∙ ap (λ x. x ++ printed end) t ∙ append_assoc c (printed tasks) (printed end) ∙ ap (λ x. c ++ x) (sym (printed_append tasks end))
    ∙ ap (λ x. x ++ printed (tasks ++ end)) g ∙ append_assoc b (printed variables) (printed (tasks ++ end))
    ∙ ap (λ x. b ++ x) (sym (printed_append variables (tasks ++ end)))
    ∙ ap (λ x. x ++ printed rest) o ∙ append_assoc h (printed optional) (printed rest) ∙ ap (λ x. h ++ x) (sym (printed_append optional rest))
    ∙ ap (λ x. x ++ printed (optional ++ rest)) f ∙ append_assoc a (printed (head_fields m)) (printed (optional ++ rest))
    ∙ ap (λ x. a ++ x) (sym (printed_append (head_fields m) (optional ++ rest)))

-- what holds of the items before one, and of that one
pub one_more : {X : Type 0} (P : X → Type 0) (xs : List X) (x : X) (i : ℕ) → i < length xs → x ≡ get_or xs i x → P x
    → ((k : ℕ) (d : X) → k < i → P (get_or xs k d))
    → (k : ℕ) (d : X) → k < i + 1 → P (get_or xs k d)
one_more P xs x i h e p all k d l = by_test (nat_lt k i) refl
  where
    by_test : (t : Bool) → nat_lt k i ≡ t → P (get_or xs k d)
    by_test true f = all k d (grind (arith, nat_tests, f))
    by_test false f =
        let same : i ≡ k = grind (arith, nat_tests, f, l) in
        let Q : ℕ → Type 0 = λ j. P (get_or xs j d) in
        subst Q same (subst P (e ∙ get_or_default xs i x d h) p)
