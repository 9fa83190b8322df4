use Rattle.std.proofs.Common.{◌≡◌, ◌<◌, ◌+◌, ◌++◌, ◌∷◌, ◌∙◌, [], List, ℕ, map, take, length, suc, get_or, rules, arith, refl, sym, ap, ap₂, subst}
use Rattle.std.proofs.Math.Seq.{take-suc}
use Rattle.std.proofs.lemmas.List.{take_all}
use Rattle.std.specs.Borrow.{Bor}
use Rattle.clap.specs.Words.{Text, rule_of, with_rule}
use Rattle.command_line.specs.CommandLine.{IsCommand, file_rule, subcommand_app}
use Rattle.command_line.proofs.file_command.Goals as goal

one_more : (xs : List (Bor Text)) (x : Bor Text)
    → map file_rule (map (λ (f : Bor Text). f.now) (xs ++ x ∷ [])) ≡ map file_rule (map (λ (f : Bor Text). f.now) xs) ++ file_rule x.now ∷ []
one_more [] x = refl
one_more (y ∷ ys) x = ap (λ rest. file_rule y.now ∷ rest) (one_more ys x)

-- the command with one more file
next_file : (name : Text) (files : List (Bor Text)) (i : ℕ) (x : Bor Text) → i < length files
    → with_rule (subcommand_app (record { name = name; files = map (λ (f : Bor Text). f.now) (take i files) })) (file_rule (get_or files i x).now)
    ≡ subcommand_app (record { name = name; files = map (λ (f : Bor Text). f.now) (take (i + 1) files) })
next_file name files i x lt =
    let one : i + 1 ≡ suc i = omega arith in
    let more : take (i + 1) files ≡ take i files ++ get_or files i x ∷ [] = ap (λ n. take n files) one ∙ take-suc files i x lt in
    let all = sym (one_more (take i files) (get_or files i x)) ∙ ap (λ l. map file_rule (map (λ (f : Bor Text). f.now) l)) (sym more) in
    let start = subcommand_app (record { name = name; files = [] }) in
    ap (λ rs. record start { top = record start.top { rules = rs } }) all

pub loop-file-preserved : goal.loop-file-preserved
loop-file-preserved c =
    let rule_is : rule_of c.positional.result ≡ file_rule (get_or c.args.files.now c.loop-file.file-index (record { ref_ptr = (0, 0); now = [] })).now =
    search rules in
    record {
      app = c.in_ok-command.ensures.shape (search rules) ∙ ap₂ with_rule c.loop-file.invariant.app rule_is
          ∙ next_file c.args.name.now c.args.files.now c.loop-file.file-index (record { ref_ptr = (0, 0); now = [] }) c.loop-file-test.true;
      globals = search rules;
    }

pub returns : goal.returns
returns c =
    let all : take c.loop-file.file-index c.args.files.now ≡ c.args.files.now = take_all _ _ c.loop-file-test.false in
    subst (λ (fs : List (Bor Text)). IsCommand (subcommand_app (record { name = c.args.name.now; files = map (λ (f : Bor Text). f.now) fs }))
    c.loop-file.command) all c.loop-file.invariant
