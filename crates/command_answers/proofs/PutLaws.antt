-- A command that puts a file, and then may write.
use Rattle.std.proofs.Common.{◌≡◌, ◌∙◌, ℕ, List, Some, refl, sym, ap, subst}
use Rattle.alp_io.specs.Shelf.{Told, Sets}
use Rattle.command_answers.specs.declared.failure.Failure.{Failure}
use Rattle.command_answers.specs.declared.failure.Failure.TheVariants.{Refused, Put, Write, Memory}
use Rattle.command_answers.specs.CommandAnswers.{IsWhole, IsBroken}
use Rattle.command_answers.specs.Ending.{well}
use Rattle.command_answers.specs.Outcomes.{Breaks, FailsBy, FailsPutting, Gains}
use Rattle.command_answers.specs.Outside.{Shelved, Written, IsSilent, IsPut, IsUnput}
use Rattle.command_answers.specs.Promises.{Product, Promise}

-- the file and the output of such a command, which ends well
abbrev pub put_and_written : List ℕ → List ℕ → Product
put_and_written file output = record { file = Some file; output = output; ending = well }

some_put : (promise : Promise) (name file bytes : List ℕ) (shelf : Shelved) → promise.puts ≡ Some name → bytes ≡ file
    → Told shelf.old shelf.new (Sets name bytes) → IsPut promise.puts (Some file) shelf.old shelf.new
some_put promise name file bytes shelf named same put =
    subst (λ p. IsPut p (Some file) shelf.old shelf.new) (sym named) (subst (λ f. Told shelf.old shelf.new (Sets name f)) same put)

pub put_whole : (P : List ℕ → Type 0) (promise : Promise) (texts : List (List ℕ)) (name file bytes : List ℕ) (shelf : Shelved) (out : Written)
    → promise.puts ≡ Some name → ((output : List ℕ) → P output → promise.makes texts (put_and_written file output)) → bytes ≡ file
    → Told shelf.old shelf.new (Sets name bytes) → Gains out P → IsWhole promise texts well shelf out
put_whole P promise texts name file bytes shelf out named is same put gains = record {
  product = put_and_written file gains.0;
  is = is gains.0 gains.1;
  ends = refl;
  put = some_put promise name file bytes shelf named same put;
  written = gains.2;
}

pub put_breaks : (P : List ℕ → Type 0) (promise : Promise) (texts : List (List ℕ)) (name file bytes : List ℕ) (shelf : Shelved) (out : Written)
    → promise.puts ≡ Some name → ((output : List ℕ) → P output → promise.makes texts (put_and_written file output)) → bytes ≡ file
    → Told shelf.old shelf.new (Sets name bytes) → Breaks out P → IsBroken promise texts shelf out
put_breaks P promise texts name file bytes shelf out named is same put breaks = record {
  product = put_and_written file breaks.0;
  is = is breaks.0 breaks.1;
  put = some_put promise name file bytes shelf named same put;
  written = breaks.2;
  failed = breaks.3;
}

pub put_fails : (e : Failure) (promise : Promise) (texts : List (List ℕ)) (name file output : List ℕ) (shelf : Shelved) (out : Written)
    → promise.puts ≡ Some name → promise.makes texts (put_and_written file output) → IsSilent out → FailsPutting e name shelf
    → FailsBy e promise texts shelf out
put_fails (Refused file r) promise texts name bytes output shelf out named is silent fails = absurd fails
put_fails (Put file) promise texts name bytes output shelf out named is silent fails = record {
  product = put_and_written bytes output;
  is = is;
  named = named ∙ ap Some (sym fails.0);
  unput = subst (λ n. IsUnput n shelf) (sym fails.0) fails.1;
  silent = silent;
}
put_fails Write promise texts name bytes output shelf out named is silent fails = absurd fails
put_fails Memory promise texts name bytes output shelf out named is silent fails = (fails, silent)
