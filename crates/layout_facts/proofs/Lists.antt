-- Elements of lists by their places.
use Rattle.layout_facts.proofs.Names.{◌≡◌, ℕ, List, Some, ap, ◌∙◌, slice_get, Contains, slice_get-get_or, slice_get_within, get_or_from_slice_get}

-- an element of a list has a place, and what has a place is an element
pub place_of : {A : Type 0} (xs : List A) (x : A) → Contains xs x → (k : ℕ) × (slice_get xs k ≡ Some x)
place_of xs x (k, lt, e) = (k, slice_get-get_or xs k x lt ∙ ap Some e)

-- what stands at a place of a list is in the list
pub contains_at : {A : Type 0} (xs : List A) (k : ℕ) (x : A) → slice_get xs k ≡ Some x → Contains xs x
contains_at xs k x e = (k, slice_get_within xs k x e, get_or_from_slice_get xs k x x e)
