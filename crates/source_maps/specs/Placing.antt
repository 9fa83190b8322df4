-- The places of variables, against their declarations.
use Rattle.std.specs.Prelude.{◌≡◌, List, [], ◌∷◌}
use Rattle.task_ast.specs.declared.Extent.{Extent}
use Rattle.task_ast.specs.declared.Extent.TheVariants as extent
use Rattle.task_ast.specs.declared.SharedDeclaration.{SharedDeclaration}
use Rattle.memory_map.specs.declared.place.ScalarWidth.TheVariants.{OneWord, TwoWords}
use Rattle.memory_map.specs.declared.place.VariablePlace.{VariablePlace}
use Rattle.memory_map.specs.declared.place.VariablePlace.TheVariants.{Scalar, Array}

-- a scalar has the place of a scalar as wide as it is, an array that of one of its length
abbrev pub IsOfKind : Extent → VariablePlace → Type 0
IsOfKind (extent.Scalar w) (Scalar home copy width) = width ≡ OneWord
IsOfKind (extent.Long n) (Scalar home copy width) = width ≡ TwoWords
IsOfKind (extent.Array n) (Array elements length copies) = length ≡ n
IsOfKind (extent.Scalar w) (Array elements length copies) = ⊥
IsOfKind (extent.Long n) (Array elements length copies) = ⊥
IsOfKind (extent.Array n) (Scalar home copy width) = ⊥

-- each variable has such a place, in order
abbrev pub ArePlacesOf : List SharedDeclaration → List VariablePlace → Type 0
ArePlacesOf [] [] = Unit {0}
ArePlacesOf [] (place ∷ places) = ⊥
ArePlacesOf (d ∷ ds) [] = ⊥
ArePlacesOf (d ∷ ds) (place ∷ places) = IsOfKind d.extent place × ArePlacesOf ds places
