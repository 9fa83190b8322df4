-- What `asm` makes of its text.
use Rattle.std.specs.Prelude.{◌≡◌, ℕ, List, [], ◌∷◌, Some, None, Ok, IsSomeAnd}
use Rattle.command_texts.specs.image_text.Reading.{image_of}
use Rattle.command_texts.specs.image_text.Text.{text_of}
use Rattle.command_texts.specs.image_text.text_parts.Printed.{printed}
use Rattle.command_texts.specs.msp_asm.Assembled.{assembled}
use Rattle.command_texts.specs.Assemblies.{RefusesAssembly, SaysAssembly}
use Rattle.command_texts.specs.command_answers.Ending.{well}
use Rattle.command_texts.specs.command_answers.Promises.{Promise, OfOneText}

-- the assembler text says an image without a map, and these bytes are the image text that is printed of it, which reads back
pub record Assembles (assembly file : List ℕ) : Type 0 where
  pub words : List ℕ
  pub said : assembled assembly ≡ Ok words
  pub text : file ≡ text_of words
  pub reads_back : image_of file ≡ Ok (record { words = words; map = None })

-- what it promises
abbrev pub asm_promise : (assembly image : List ℕ) → Promise
asm_promise assembly image = record {
  reads = assembly ∷ [];
  judges = assembly ∷ [];
  puts = Some image;
  takes = OfOneText SaysAssembly;
  makes = λ texts p. OfOneText (λ a. IsSomeAnd p.file (Assembles a) × (p.output ≡ []) × (p.ending ≡ well)) texts;
  refuses = λ texts place r. OfOneText (λ a. RefusesAssembly a r × (place ≡ 0)) texts;
}
