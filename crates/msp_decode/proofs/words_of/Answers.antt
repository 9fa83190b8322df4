use Rattle.std.proofs.Common.{◌≡◌, ℕ, ◌∷◌, [], subst, sym, ◌∙◌, ap}
use Rattle.msp_isa.specs.Encoding.{IsPrefix, encoding}
use Rattle.msp_decode.proofs.Fields.{blank_of}
use Rattle.msp_decode.proofs.words_of.Goals as goal

pub returns-in-Some-clause-only : goal.returns-in-Some-clause-only
returns-in-Some-clause-only c = λ i fits first.
    let b = blank_of i fits in
    let P : ℕ → Type 0 = λ w. IsPrefix (encoding b.0) (w ∷ 0 ∷ 0 ∷ []) in
    let is = c.in-Some.ensures.only b.0 b.1.fits (subst P first b.1.front) in
    let len = b.1.len in
    let words = c.words.ensures.value in
    cc
