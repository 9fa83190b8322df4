use Rattle.std.proofs.Common.{◌≡◌, ◌∙◌, ◌∷◌, [], Option, Some, None, List, option_map, refl, sym, ap}
use Rattle.clap.specs.Words.{Row, Text, first_of, found_of, rows_of}
use Rattle.clap.proofs.WalkLemmas.{first_value-rows}
use Rattle.command_line.specs.Commands.{values_of}
use Rattle.command_line.proofs.two_files.Goals as goal

-- two values, where both are there
abbrev both : Option Text → Option Text → Option (List Text)
both None b = None
both (Some a) None = None
both (Some a) (Some b) = Some (a ∷ b ∷ [])

-- the values of two files, by those of each
both_values : (first second : Text) (rows : List Row) (a b : Option Text) → first_of first rows ≡ a → first_of second rows ≡ b
    → values_of (first ∷ second ∷ []) rows ≡ both a b
both_values first second rows None b is_a is_b = rw is_a refl
both_values first second rows (Some a) None is_a is_b = rw (is_a, is_b) refl
both_values first second rows (Some a) (Some b) is_a is_b = rw (is_a, is_b) refl

pub returns-in_err-first : goal.returns-in_err-first
returns-in_err-first c =
    let found = found_of c.args.files.now in
    let none : first_of c.args.first.now (rows_of found) ≡ None = sym (first_value-rows found c.args.first.now) ∙ sym c.in_err-first.ensures in
    ap (option_map (λ p. p.0.now ∷ p.1.now ∷ [])) c.from_residual.ensures
    ∙ sym (both_values c.args.first.now c.args.second.now (rows_of found) None _ none refl)

pub returns-in_err-second : goal.returns-in_err-second
returns-in_err-second c =
    let found = found_of c.args.files.now in
    let first : first_of c.args.first.now (rows_of found) ≡ Some c.in_ok-first.first.now = sym (first_value-rows found c.args.first.now)
    ∙ sym c.in_ok-first.ensures in
    let none : first_of c.args.second.now (rows_of found) ≡ None = sym (first_value-rows found c.args.second.now) ∙ sym c.in_err-second.ensures in
    ap (option_map (λ p. p.0.now ∷ p.1.now ∷ [])) c.from_residual-in_err-second.ensures
    ∙ sym (both_values c.args.first.now c.args.second.now (rows_of found) _ None first none)

pub returns : goal.returns
returns c =
    let found = found_of c.args.files.now in
    let first : first_of c.args.first.now (rows_of found) ≡ Some c.in_ok-first.first.now = sym (first_value-rows found c.args.first.now)
    ∙ sym c.in_ok-first.ensures in
    let second : first_of c.args.second.now (rows_of found) ≡ Some c.in_ok-second.second.now =
    sym (first_value-rows found c.args.second.now) ∙ sym c.in_ok-second.ensures in
    sym (both_values c.args.first.now c.args.second.now (rows_of found) _ _ first second)
