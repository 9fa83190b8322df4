-- Why a part of a command failed is why the command did.
use Rattle.std.proofs.Common.{◌≡◌, ◌∙◌, ℕ, List, Some, None, Result, Ok, Err, refl, sym, ap, subst, arith, inl, inr, IfOk, IfErr}
use Rattle.std.specs.Prelude.{slice_get}
use Rattle.alp_io.specs.Count.{Rose}
use Rattle.command_answers.specs.declared.failure.Failure.{Failure}
use Rattle.command_answers.specs.declared.failure.Failure.TheVariants.{Refused, Put, Write, Memory}
use Rattle.command_answers.specs.CommandAnswers.{IsWhole}
use Rattle.command_answers.specs.Ending.{Ending}
use Rattle.command_answers.specs.Outcomes.{FailsBy, FailsWriting, Gains, FailsRefused}
use Rattle.command_answers.specs.Outside.{Shelved, Written, Stands, IsSilent, WhereStands, WhereSilent, IsPut}
use Rattle.command_answers.specs.Promises.{Product, Promise}
use Rattle.command_answers.specs.Refusals.{Refusal}
use Rattle.command_answers.specs.Views.{refusal_of}

-- what is never written to has no fault
pub never_rises : Rose 0 0 → ⊥
never_rises (inl lt) = omega arith
never_rises (inr e) = omega arith

pub refusal_fails : (e : Failure) (name : List ℕ) (P : Refusal → Type 0) (promise : Promise) (texts : List (List ℕ)) (place : ℕ) (shelf : Shelved)
    (out : Written)
    → slice_get promise.judges place ≡ Some name → ((r : Refusal) → P r → promise.refuses texts place r) → Stands shelf → IsSilent out
    → FailsRefused name P e → FailsBy e promise texts shelf out
refusal_fails (Refused file r) name P promise texts place shelf out named is stands silent fails = (
  record { place = place; named = named ∙ ap Some (sym fails.0); refused = is (refusal_of r) fails.1 },
  stands,
  silent,
)
refusal_fails (Put file) name P promise texts place shelf out named is stands silent fails = absurd fails
refusal_fails Write name P promise texts place shelf out named is stands silent fails = absurd fails
refusal_fails Memory name P promise texts place shelf out named is stands silent fails = (stands, silent)

-- memory was refused before anything was put or written
pub memory_fails : (e : Failure) (promise : Promise) (texts : List (List ℕ)) (shelf : Shelved) (out : Written) → e ≡ Memory → Stands shelf → IsSilent out
    → FailsBy e promise texts shelf out
memory_fails e promise texts shelf out memory stands silent = subst (λ x. FailsBy x promise texts shelf out) (sym memory) (stands, silent)

-- a part that neither puts nor writes failed, and nothing was put or written
pub nothing_done : (e : Failure) (promise : Promise) (texts : List (List ℕ)) (shelf : Shelved) (out : Written)
    → WhereStands (λ s. WhereSilent (FailsBy e promise texts s)) → Stands shelf → IsSilent out → FailsBy e promise texts shelf out
nothing_done e promise texts shelf out fails stands silent = fails shelf stands out silent

-- the output of such a command, and how it ends
abbrev pub output_alone : List ℕ → Ending → Product
output_alone output ending = record { file = None; output = output; ending = ending }

pub none_put : (promise : Promise) (shelf : Shelved) → promise.puts ≡ None → Stands shelf → IsPut promise.puts None shelf.old shelf.new
none_put promise shelf none stands = subst (λ p. IsPut p None shelf.old shelf.new) (sym none) stands

pub whole_by : {A : Type 0} (result : Result A Failure) (P : List ℕ → Type 0) (promise : Promise) (texts : List (List ℕ)) (ending : Ending) (out : Written)
    → promise.puts ≡ None → ((output : List ℕ) → P output → promise.makes texts (output_alone output ending)) → IfOk result (λ x. Gains out P)
    → IfOk result (λ x. WhereStands (λ shelf. IsWhole promise texts ending shelf out))
whole_by (Ok x) P promise texts ending out none is gains = λ shelf stands. record {
  product = output_alone gains.0 ending;
  is = is gains.0 gains.1;
  ends = refl;
  put = none_put promise shelf none stands;
  written = gains.2;
}
whole_by (Err e) P promise texts ending out none is gains = tt

pub fails_by : {A : Type 0} (result : Result A Failure) (P : List ℕ → Type 0) (promise : Promise) (texts : List (List ℕ)) (ending : Ending) (out : Written)
    → promise.puts ≡ None → ((output : List ℕ) → P output → promise.makes texts (output_alone output ending)) → IfErr result (λ e. FailsWriting e out P)
    → IfErr result (λ e. WhereStands (λ shelf. FailsBy e promise texts shelf out))
fails_by (Ok x) P promise texts ending out none is fails = tt
fails_by (Err (Refused file r)) P promise texts ending out none is fails = absurd fails
fails_by (Err (Put name)) P promise texts ending out none is fails = absurd fails
fails_by (Err Write) P promise texts ending out none is fails = λ shelf stands. record {
  product = output_alone fails.0 ending;
  is = is fails.0 fails.1;
  put = none_put promise shelf none stands;
  written = fails.2;
  failed = fails.3;
}
fails_by (Err Memory) P promise texts ending out none is fails = λ shelf stands. (stands, fails)
