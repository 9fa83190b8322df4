-- What `dis` makes of its text.
use Rattle.std.specs.Prelude.{◌≡◌, ℕ, List, [], ◌∷◌, None, Ok}
use Rattle.command_texts.specs.image_text.ImageValue.{ImageValue}
use Rattle.command_texts.specs.image_text.Reading.{image_of}
use Rattle.command_texts.specs.msp_asm.Assembled.{assembled}
use Rattle.command_texts.specs.msp_asm.Disassembly.{IsTextOf}
use Rattle.command_texts.specs.command_answers.Ending.{well}
use Rattle.command_texts.specs.Texts.{RefusesImage, SaysImage}
use Rattle.command_texts.specs.command_answers.Promises.{Promise, OfOneText}

-- this is the listing of an image's words, and it assembles to them
pub record IsListing (words output : List ℕ) : Type 0 where
  pub text : IsTextOf words output
  pub assembles : assembled output ≡ Ok words

-- the text is an image, and this is the listing of its words
pub record Lists (image output : List ℕ) : Type 0 where
  pub value : ImageValue
  pub said : image_of image ≡ Ok value
  pub listing : IsListing value.words output

-- what it promises
abbrev pub dis_promise : (image : List ℕ) → Promise
dis_promise image = record {
  reads = image ∷ [];
  judges = image ∷ [];
  puts = None;
  takes = OfOneText SaysImage;
  makes = λ texts p. OfOneText (λ i. Lists i p.output × (p.file ≡ None) × (p.ending ≡ well)) texts;
  refuses = λ texts place r. OfOneText (λ i. RefusesImage i r × (place ≡ 0)) texts;
}
