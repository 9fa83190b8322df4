use Rattle.std.proofs.Common.{◌≡◌, ◌∙◌, ap, sym, refl, map, string_bytes, true}
use Rattle.clap.specs.Words.{App, app_of, fault_of, is_simple, is_simple_and_free, subcommand_of}
use Rattle.clap.proofs.OnLiterals.{clap_on_literals}
use Rattle.command_line.proofs.FirstWord.{no_fault}
use Rattle.command_line.specs.CommandLine.{alpaca_app}
use Rattle.command_line.proofs.matches_of.Goals as goal

is_free : is_simple_and_free alpaca_app ≡ true
unfolding clap_on_literals alpaca_app
is_free = refl

is_plain : is_simple alpaca_app ≡ true
unfolding clap_on_literals alpaca_app
is_plain = refl

pub returns-in-Ok-try_get_matches_from-clause-line : goal.returns-in-Ok-try_get_matches_from-clause-line
returns-in-Ok-try_get_matches_from-clause-line c =
    let free : is_simple_and_free (app_of c.in-Ok.command) ≡ true = ap is_simple_and_free c.in-Ok.ensures.app ∙ is_free in
    sym (ap (λ (a : App). fault_of a (map string_bytes c.args.words.now)) c.in-Ok.ensures.app) ∙ c.in-Ok-try_get_matches_from.ensures.kinds free

pub returns-in-Ok-try_get_matches_from-clause-rows : goal.returns-in-Ok-try_get_matches_from-clause-rows
returns-in-Ok-try_get_matches_from-clause-rows c =
    let plain : is_simple (app_of c.in-Ok.command) ≡ true = ap is_simple c.in-Ok.ensures.app ∙ is_plain in
    (c.in-Ok-try_get_matches_from.ensures.matches plain).1 ∙ ap (λ (a : App). subcommand_of a (map string_bytes c.args.words.now)) c.in-Ok.ensures.app

pub returns : goal.returns
returns c =
    let free : is_simple_and_free (app_of c.in-Ok.command) ≡ true = ap is_simple_and_free c.in-Ok.ensures.app ∙ is_free in
    let faults : fault_of (app_of c.in-Ok.command) (map string_bytes c.args.words.now) ≡ fault_of alpaca_app (map string_bytes c.args.words.now)
    = ap (λ (a : App). fault_of a (map string_bytes c.args.words.now)) c.in-Ok.ensures.app in
    record {
      line = tt;
      rows = tt;
      usage = λ _ line. no_fault _ c.in-Err-try_get_matches_from.error (faults ∙ line) (λ m. c.in_default.not-OutOfMemory (c.kind.ensures ∙ m))
          (c.in-Err-try_get_matches_from.ensures.kinds free);
    }
