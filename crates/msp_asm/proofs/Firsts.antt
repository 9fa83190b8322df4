-- The first unknown label, and the numbers out of range, of values one behind the other.
use Rattle.std.proofs.Common.{◌≡◌, List, [], ◌∷◌, ◌++◌, refl, ap, sym, ◌∙◌, ◌||◌, Option, Some, None, option_map}
use Rattle.std.proofs.Math.Bool.{or_assoc as any_assoc}
use Rattle.std.specs.Option.{option_or}
use Rattle.image_text.proofs.Interface.{or_assoc}
use Rattle.asm_line.specs.Pieces.{Located}
use Rattle.asm_line.specs.Values.{ValueMeaning}
use Rattle.msp_asm.specs.Labels.{Table}
use Rattle.msp_asm.specs.Program.{unknown_in, first_unknown, is_out_of_range, any_out_of_range, span_of}

pub unknown_append : (f : Table) (vs ws : List ValueMeaning) → first_unknown f (vs ++ ws) ≡ option_or (first_unknown f vs) (first_unknown f ws)
unknown_append f [] ws = refl
unknown_append f (v ∷ vs) ws = ap (option_or (unknown_in f v)) (unknown_append f vs ws) ∙ or_assoc (unknown_in f v) (first_unknown f vs) (first_unknown f ws)

map_or : (o p : Option Located) → option_map span_of (option_or o p) ≡ option_or (option_map span_of o) (option_map span_of p)
map_or None p = refl
map_or (Some x) p = refl

pub unknown_joined : (f : Table) (vs ws : List ValueMeaning)
    → option_map span_of (first_unknown f (vs ++ ws)) ≡ option_or (option_map span_of (first_unknown f vs)) (option_map span_of (first_unknown f ws))
unknown_joined f vs ws = ap (option_map span_of) (unknown_append f vs ws) ∙ map_or (first_unknown f vs) (first_unknown f ws)

pub any_joined : (vs ws : List ValueMeaning) → any_out_of_range (vs ++ ws) ≡ (any_out_of_range vs || any_out_of_range ws)
any_joined [] ws = refl
any_joined (v ∷ vs) ws = ap (λ t. is_out_of_range v || t) (any_joined vs ws) ∙ sym (any_assoc (is_out_of_range v) (any_out_of_range vs) (any_out_of_range ws))
