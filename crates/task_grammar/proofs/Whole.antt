-- The whole program.
use Rattle.std.proofs.Common.{◌≡◌, suc, ◌+◌, ◌-◌, ◌<◌, ◌≤◌, List, [], ◌∷◌, ◌++◌, length, take, ap, sym, ◌∙◌, subst, arith, add-one, append_assoc, append-nil}
use Rattle.std.proofs.Common.{length-append}
use Rattle.std.proofs.Math.Seq.{take-append_seam, take-append-add}
use Rattle.task_lex.specs.declared.token.Token.{Token}
use Rattle.task_grammar.specs.Parsed.{Program}
use Rattle.task_lex.specs.declared.token.Kind.TheVariants as k
use Rattle.task_grammar.specs.Grammar.{IsProgram, program_from}
use Rattle.task_grammar.specs.Reading.{Outcome, done, fault, Parser, ◌>>=◌, and_then, token}
use Rattle.task_grammar.specs.Programs.{many, is_shared, shared, is_function, function, tasks, ending, program}
use Rattle.task_grammar.specs.Stops.{StopsAt}
use Rattle.task_grammar.proofs.ParserLaws.{Good, rest_of, with_rest}
use Rattle.task_grammar.proofs.ProgramComplete.{law_program, reads_program}

-- what is read is the whole text
record Ends {A : Type 0} (p : Parser A) : Type 0 where
  pub at : (ts rest : List Token) (a : A) → p ts ≡ done a rest → rest ≡ []

ends_bind : {A B : Type 0} (p : Parser A) (f : A → Parser B) → ((a : A) → Ends (f a)) → Ends (p >>= f)
ends_bind {A = A} {B = B} p f ends = record { at = λ ts rest b h. go (p ts) rest b h }
  where
    go : (o : Outcome A) (rest : List Token) (b : B) → and_then o f ≡ done b rest → rest ≡ []
    go (done a more) rest b h = (ends a).at more rest b h
    go (fault more) rest b h = absurd (cc)

ends_ending : {A : Type 0} (a : A) → Ends (ending a)
ends_ending {A = A} a = record { at = go }
  where
    go : (ts rest : List Token) (b : A) → ending a ts ≡ done b rest → rest ≡ []
    go [] rest b h = cc
    go (t ∷ ts) rest b h = absurd (cc)

ends_program : Ends program
unfolding program
ends_program = ends_bind (many is_shared shared []) _
    (λ shareds. ends_bind (many is_function function []) _ (λ functions. ends_bind tasks _ (λ all. ends_bind (token k.Entry) _
    (λ h. ends_bind (token k.Name) _ (λ n. ends_bind (token k.Semicolon) _ (λ z. ends_ending (program_from shareds functions all n)))))))

program_ends : (ts rest : List Token) (tree : Program) → program ts ≡ done tree rest → rest ≡ []
program_ends = ends_program.at

pub program_is : (ts rest : List Token) (tree : Program) → program ts ≡ done tree rest → IsProgram ts tree
program_is ts rest tree h =
    let g = subst (Good IsProgram ts) h (law_program.good ts) in
    subst (λ x. IsProgram x tree) (sym (g.1 ∙ ap (λ r. g.0 ++ r) (program_ends ts rest tree h) ∙ append-nil g.0)) g.2

pub one_tree : (ts : List Token) (a b : Program) → IsProgram ts a → IsProgram ts b → a ≡ b
one_tree ts a b is_a is_b = let e = reads_program ts a is_a in let f = reads_program ts b is_b in cc

stops_at : (seen rest more : List Token) (tree : Program) → program (seen ++ rest) ≡ fault rest → IsProgram (seen ++ more) tree
    → StopsAt (seen ++ rest) (length seen)
stops_at seen rest more tree h is = record {
  within = simp length-append (omega arith);
  before = (more, tree, subst (λ x. IsProgram (x ++ more) tree) (sym (take-append_seam seen rest)) is);
  none = none_goes_on seen rest h;
  none_ends = λ _ other is_other. let e = reads_program (seen ++ rest) other is_other in absurd (cc);
}
  where
    none_goes_on : (seen rest : List Token) → program (seen ++ rest) ≡ fault rest → length seen < length (seen ++ rest)
        → (more : List Token) (tree : Program) → IsProgram (take (suc (length seen)) (seen ++ rest) ++ more) tree → ⊥
    none_goes_on seen [] h less more tree is = absurd (omega (arith, length-append seen []))
    none_goes_on seen (t ∷ rest) h less more tree is =
        let at : take (suc (length seen)) (seen ++ t ∷ rest) ≡ seen ++ t ∷ [] = ap (λ n. take n (seen ++ t ∷ rest)) (sym (add-one (length seen)))
        ∙ take-append-add seen (t ∷ rest) 1 in
        let whole : IsProgram (seen ++ t ∷ more) tree = subst (λ x. IsProgram x tree) (ap (λ x. x ++ more) at ∙ append_assoc seen (t ∷ []) more) is in
        let read = reads_program (seen ++ t ∷ more) tree whole in
        let same : program (seen ++ t ∷ more) ≡ fault (t ∷ more) = law_program.alike t rest more seen [] (ap rest_of h) ∙ ap (λ o. with_rest o (t ∷ more)) h in
        absurd (cc)

pub stops : (ts rest : List Token) → program ts ≡ fault rest → StopsAt ts (length ts - length rest)
stops ts rest h =
    let g = subst (Good IsProgram ts) h (law_program.good ts) in
    let e : ts ≡ g.0 ++ rest = g.1 in
    let at : length g.0 ≡ length ts - length rest = let sizes : length ts ≡ length g.0 + length rest = simp length-append at (ap length e) in omega arith in
    subst (λ i. StopsAt ts i) at (subst (λ x. StopsAt x (length g.0)) (sym e) (stops_at g.0 rest g.2 g.3 (ap program (sym e) ∙ h) g.4))

pub fault_fits : (ts rest : List Token) → program ts ≡ fault rest → length rest ≤ length ts
fault_fits ts rest h =
    let g = subst (Good IsProgram ts) h (law_program.good ts) in
    let sizes : length ts ≡ length g.0 + length rest = simp length-append at (ap length g.1) in omega arith
