-- Where no operand is long, values are those of the operators on words.
use Rattle.std.proofs.Common.{◌≡◌, ℕ, refl, ap, ◌∙◌}
use Rattle.task_ast.specs.declared.WordType.{WordType}
use Rattle.task_ast.specs.declared.WordType.TheVariants.{Unsigned, Int, Long}
use Rattle.task_ast.specs.declared.names.VariableName.{VariableName}
use Rattle.task_ast.specs.Paths.{CheckedExpression}
use Rattle.task_ast.specs.Types.{IsOneWord}
use Rattle.task_ast.proofs.Interface.{by_one_word}
use Rattle.source_values.specs.Values.{Variables, word_at, scalar_value, converted, type_of}
use Rattle.source_values.specs.Statements.{Attempt, assigned, assigned_value, word_of}

pub scalar_word : (m : Variables) (x : VariableName) → IsOneWord x.word_type → scalar_value m x ≡ word_at m x.variable 0
scalar_word m x h = by_one_word x.word_type _ _ h

pub converted_word : (s t : WordType) (w : ℕ) → IsOneWord s → IsOneWord t → converted s t w ≡ w
converted_word Long t w h k = absurd h
converted_word Unsigned t w h k = refl
converted_word Int Long w h k = absurd k
converted_word Int Int w h k = refl
converted_word Int Unsigned w h k = refl

pub assigned_word : (s : Attempt) (x : VariableName) (e : CheckedExpression) (w : ℕ) → IsOneWord (type_of e) → IsOneWord x.word_type
    → assigned_value s x e w ≡ assigned s x.variable 0 w
assigned_word s x e w h k = by_one_word x.word_type _ _ k ∙ ap (assigned s x.variable 0) (converted_word (type_of e) x.word_type w h k)

pub word_as_it_is : (e : CheckedExpression) (w : ℕ) → IsOneWord (type_of e) → word_of e w ≡ w
word_as_it_is e w h = converted_word (type_of e) Unsigned w h tt
