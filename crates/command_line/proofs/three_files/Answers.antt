use Rattle.std.proofs.Common.{◌≡◌, ◌∙◌, ◌∷◌, [], Option, Some, None, List, option_map, refl, sym, ap}
use Rattle.clap.specs.Words.{Row, Text, first_of, found_of, rows_of}
use Rattle.clap.proofs.WalkLemmas.{first_value-rows}
use Rattle.command_line.specs.Commands.{values_of}
use Rattle.command_line.proofs.three_files.Goals as goal

-- three values, where all are there
abbrev all_three : Option Text → Option Text → Option Text → Option (List Text)
all_three None b d = None
all_three (Some a) None d = None
all_three (Some a) (Some b) None = None
all_three (Some a) (Some b) (Some d) = Some (a ∷ b ∷ d ∷ [])

-- the values of three files, by those of each
three_values : (first second third : Text) (rows : List Row) (a b d : Option Text) → first_of first rows ≡ a → first_of second rows ≡ b
    → first_of third rows ≡ d
    → values_of (first ∷ second ∷ third ∷ []) rows ≡ all_three a b d
three_values first second third rows None b d is_a is_b is_d = rw is_a refl
three_values first second third rows (Some a) None d is_a is_b is_d = rw (is_a, is_b) refl
three_values first second third rows (Some a) (Some b) None is_a is_b is_d = rw (is_a, is_b, is_d) refl
three_values first second third rows (Some a) (Some b) (Some d) is_a is_b is_d = rw (is_a, is_b, is_d) refl

pub returns-in_err-first : goal.returns-in_err-first
returns-in_err-first c =
    let found = found_of c.args.files.now in
    let none : first_of c.args.first.now (rows_of found) ≡ None = sym (first_value-rows found c.args.first.now) ∙ sym c.in_err-first.ensures in
    ap (option_map (λ p. p.0.now ∷ p.1.now ∷ p.2.now ∷ [])) c.from_residual.ensures
    ∙ sym (three_values c.args.first.now c.args.second.now c.args.third.now (rows_of found) None _ _ none refl refl)

pub returns-in_err-second : goal.returns-in_err-second
returns-in_err-second c =
    let found = found_of c.args.files.now in
    let first : first_of c.args.first.now (rows_of found) ≡ Some c.in_ok-first.first.now = sym (first_value-rows found c.args.first.now)
    ∙ sym c.in_ok-first.ensures in
    let none : first_of c.args.second.now (rows_of found) ≡ None = sym (first_value-rows found c.args.second.now) ∙ sym c.in_err-second.ensures in
    ap (option_map (λ p. p.0.now ∷ p.1.now ∷ p.2.now ∷ [])) c.from_residual-in_err-second.ensures
    ∙ sym (three_values c.args.first.now c.args.second.now c.args.third.now (rows_of found) _ None _ first none refl)

pub returns-in_err-third : goal.returns-in_err-third
returns-in_err-third c =
    let found = found_of c.args.files.now in
    let first : first_of c.args.first.now (rows_of found) ≡ Some c.in_ok-first.first.now = sym (first_value-rows found c.args.first.now)
    ∙ sym c.in_ok-first.ensures in
    let second : first_of c.args.second.now (rows_of found) ≡ Some c.in_ok-second.second.now =
    sym (first_value-rows found c.args.second.now) ∙ sym c.in_ok-second.ensures in
    let none : first_of c.args.third.now (rows_of found) ≡ None = sym (first_value-rows found c.args.third.now) ∙ sym c.in_err-third.ensures in
    ap (option_map (λ p. p.0.now ∷ p.1.now ∷ p.2.now ∷ [])) c.from_residual-in_err-third.ensures
    ∙ sym (three_values c.args.first.now c.args.second.now c.args.third.now (rows_of found) _ _ None first second none)

pub returns : goal.returns
returns c =
    let found = found_of c.args.files.now in
    let first : first_of c.args.first.now (rows_of found) ≡ Some c.in_ok-first.first.now = sym (first_value-rows found c.args.first.now)
    ∙ sym c.in_ok-first.ensures in
    let second : first_of c.args.second.now (rows_of found) ≡ Some c.in_ok-second.second.now =
    sym (first_value-rows found c.args.second.now) ∙ sym c.in_ok-second.ensures in
    let third : first_of c.args.third.now (rows_of found) ≡ Some c.in_ok-third.third.now = sym (first_value-rows found c.args.third.now)
    ∙ sym c.in_ok-third.ensures in
    sym (three_values c.args.first.now c.args.second.now c.args.third.now (rows_of found) _ _ _ first second third)
