-- A text is read in one way, and not refused where it is read.
use Rattle.std.proofs.Common.{◌≡◌, ◌∙◌, ℕ, List, Ok, Err, Result, sym}
use Rattle.energy_trace.specs.Reading.{trace_of}
use Rattle.image_text.specs.Reading.{image_of}
use Rattle.state_text.specs.Reading.{state_of}
use Rattle.msp_asm.specs.Assembled.{assembled}
use Rattle.command_texts.specs.Assemblies.{RefusesAssembly, SaysAssembly}
use Rattle.command_answers.specs.Refusals.{Refusal}
use Rattle.command_texts.specs.Texts.{RefusesTrace, RefusesImage, RefusesState, SaysTrace, SaysImage, SaysState}
use Rattle.command_texts.specs.Texts as texts

pub same_value : {A E : Type 0} (x : Result A E) (a b : A) → x ≡ Ok a → x ≡ Ok b → a ≡ b
same_value x a b e f = let g : Ok a ≡ Ok b = sym e ∙ f in cc

not_both : {A E : Type 0} (x : Result A E) (a : A) (e : E) → x ≡ Ok a → x ≡ Err e → ⊥
not_both x a e p q = let g : Ok a ≡ Err e = sym p ∙ q in cc

pub no_trace : (text : List ℕ) (r : Refusal) → SaysTrace text → RefusesTrace text r → ⊥
no_trace text r said (texts.bad_trace_line n fails) = not_both (trace_of text) said.0 _ said.1 fails
no_trace text r said (texts.too_many n fails) = not_both (trace_of text) said.0 _ said.1 fails

pub no_image : (text : List ℕ) (r : Refusal) → SaysImage text → RefusesImage text r → ⊥
no_image text r said refuses = not_both (image_of text) said.0 refuses.cause said.1 refuses.refused

pub no_state : (text : List ℕ) (r : Refusal) → SaysState text → RefusesState text r → ⊥
no_state text r said refuses = not_both (state_of text) said.0 refuses.cause said.1 refuses.refused

pub no_assembly : (text : List ℕ) (r : Refusal) → SaysAssembly text → RefusesAssembly text r → ⊥
no_assembly text r said refuses = not_both (assembled text) said.0 refuses.cause said.1 refuses.refused
